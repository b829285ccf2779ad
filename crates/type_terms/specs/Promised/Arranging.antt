-- Arrangements: the auto traits of a `dyn` in another order. They relate the order of a text to that of a linked set.
use Rattle.std.specs.Prelude.{◌≡◌, ℕ, List, [], ◌∷◌, map, length}
use Rattle.type_terms.specs.Promised.Label.{Label, dynamic, auto_trait}
use Rattle.type_terms.specs.Promised.Trees.{Trees, none, tree}
use Rattle.type_terms.specs.Promised.Worlds.{World, StructDecl, TraitDecl, ImplDecl, Reference}
use Rattle.type_terms.specs.Promised.Renumbering.{SameMembers}

-- A one-to-one map of lists of auto traits, with its inverse. Each list has the same length and the same members as
-- before. For example, the map that exchanges `A + B` and `B + A` and leaves all other lists as they are.
pub record Arrangement : Type 0 where
  pub to : List ℕ → List ℕ
  pub back : List ℕ → List ℕ
  pub back_to : (ns : List ℕ) → back (to ns) ≡ ns
  pub to_back : (ns : List ℕ) → to (back ns) ≡ ns
  pub as_long : (ns : List ℕ) → length (to ns) ≡ length ns
  pub as_long_back : (ns : List ℕ) → length (back ns) ≡ length ns
  pub same_traits : (ns : List ℕ) → SameMembers ns (to ns)
  pub same_traits_back : (ns : List ℕ) → SameMembers ns (back ns)

-- The auto traits, after that of the label if it has one.
abbrev pub own_auto : Label → List ℕ → List ℕ
own_auto (auto_trait t) ns = t ∷ ns
own_auto l ns = ns

-- The auto traits in a list of bounds.
abbrev pub autos_in : Trees → List ℕ
autos_in none = []
autos_in (tree l c o) = own_auto l (autos_in o)

-- The label, or the first of the auto traits if the label is that of an auto trait.
abbrev pub next_auto : Label → List ℕ → Label
next_auto (auto_trait t) (n ∷ ns) = auto_trait n
next_auto l ns = l

-- The auto traits that remain after the label.
abbrev pub autos_left : Label → List ℕ → List ℕ
autos_left (auto_trait t) (n ∷ ns) = ns
autos_left l ns = ns

-- The bounds, with these auto traits in place of the original ones.
abbrev pub with_autos : List ℕ → Trees → Trees
with_autos ns none = none
with_autos ns (tree l c o) = tree (next_auto l ns) c (with_autos (autos_left l ns) o)

-- The children of a node, where c are the original ones and d are c with the `dyn`s in them arranged. If the node is a
-- `dyn`, its auto traits are arranged as well.
abbrev pub children_in_order : Arrangement → Label → Trees → Trees → Trees
children_in_order a dynamic c d = with_autos (a.to (autos_in c)) d
children_in_order a l c d = d

-- The terms with the auto traits of each `dyn` arranged.
abbrev pub arranged : Arrangement → Trees → Trees
arranged a none = none
arranged a (tree l c o) = tree l (children_in_order a l c (arranged a c)) (arranged a o)

-- The trait reference with the auto traits of each `dyn` arranged.
abbrev pub arranged_reference : Arrangement → Reference → Reference
arranged_reference a r = record { trait = r.trait; args = arranged a r.args }

-- The struct with the auto traits of each `dyn` arranged.
abbrev pub arranged_struct : Arrangement → StructDecl → StructDecl
arranged_struct a x = record x { fields = map (arranged a) x.fields }

-- The trait with the auto traits of each `dyn` arranged.
abbrev pub arranged_trait : Arrangement → TraitDecl → TraitDecl
arranged_trait a x = record x { bounds = map (arranged_reference a) x.bounds }

-- The impl with the auto traits of each `dyn` arranged.
abbrev pub arranged_impl : Arrangement → ImplDecl → ImplDecl
arranged_impl a x = record x { header = arranged_reference a x.header; clauses = map (arranged_reference a) x.clauses }

-- The world with the auto traits of each `dyn` arranged.
abbrev pub arranged_world : Arrangement → World → World
arranged_world a W = record { crates = W.crates; structs = map (arranged_struct a) W.structs; traits = map (arranged_trait a) W.traits; impls = map (arranged_impl a) W.impls }
