-- Terms with the lifetimes that are kept: up to lifetimes they are what they were, and the cells that stand for them are made as before.
use Rattle.std.proofs.Common.{◌≡◌, ℕ, zero, suc, Bool, true, false, List, [], ◌∷◌, ◌++◌, map, refl, sym, ap, ◌∙◌}
use Rattle.std.proofs.lemmas.List.{map_push, reverse-append}
use Rattle.std.specs.Prelude.{reverse, if◌then◌else◌}
use Rattle.type_terms.specs.Promised.Label.{Label, of_lifetime, of_type, of_const, static, param, placeholder, infer, canonical, bound}
use Rattle.type_terms.specs.Promised.Trees.{Trees, none, tree, erase, ◌+++◌}
use Rattle.type_terms.specs.Promised.Erased.{erased_reference, erased_struct, erased_trait, erased_impl, erased_world}
use Rattle.type_terms.specs.Promised.Worlds.{World, Reference, StructDecl, TraitDecl, ImplDecl}
use Rattle.declarations.specs.Heads.{begins_declared}
use Rattle.text_tables.specs.TermCells.{TermCell, node_cell, reference_cell, gathered, below, behind_cell, behind_cells, trees_of, joined}
use Rattle.text_lowering.specs.Promised.SeenWorlds.{plain_label, plain, plain_reference, plain_struct, plain_trait, plain_impl, plain_world, all_kept, none_kept, stands_in}
use Rattle.text_lowering.specs.PlainCells.{plain_cell}
use Rattle.type_terms.proofs.TermBasics.{node}
use Rattle.type_terms.proofs.RenumberedRules.{cons-same as two}
use Rattle.text_lowering.proofs.Basics.{label-erased}

-- ---- which lifetimes are kept
label-same : (k j : ℕ → Bool) → ((i : ℕ) → k i ≡ j i) → (l : Label) → plain_label k l ≡ plain_label j l
label-same k j e (param of_lifetime i) = ap (λ b. if b then param of_lifetime i else static) (e i)
label-same k j e l = refl

pub plain-same : (k j : ℕ → Bool) → ((i : ℕ) → k i ≡ j i) → (t : Trees) → plain k t ≡ plain j t
plain-same k j e none = refl
plain-same k j e (tree l c o) = node (label-same k j e l) (plain-same k j e c) (plain-same k j e o)

pub reference-same : (k j : ℕ → Bool) → ((i : ℕ) → k i ≡ j i) → (r : Reference) → plain_reference k r ≡ plain_reference j r
reference-same k j e r = ap (λ z. (let x : Reference = record { trait = r.trait; args = z } in x)) (plain-same k j e r.args)

pub references-same : (k j : ℕ → Bool) → ((i : ℕ) → k i ≡ j i) → (rs : List Reference) → map (plain_reference k) rs ≡ map (plain_reference j) rs
references-same k j e [] = refl
references-same k j e (r ∷ rs) = two (reference-same k j e r) (references-same k j e rs)

-- ---- up to lifetimes nothing changes
pub plain-erased : (k : ℕ → Bool) (t : Trees) → erase (plain k t) ≡ erase t
plain-erased k none = refl
plain-erased k (tree l c o) = node (label-erased k l) (plain-erased k c) (plain-erased k o)

pub map-again : {A B : Type 0} (f : A → A) (g : A → B) → ((x : A) → g (f x) ≡ g x) → (xs : List A) → map g (map f xs) ≡ map g xs
map-again f g h [] = refl
map-again f g h (x ∷ xs) = two (h x) (map-again f g h xs)

pub reference-erased : (k : ℕ → Bool) (r : Reference) → erased_reference (plain_reference k r) ≡ erased_reference r
reference-erased k r = ap (λ z. (let x : Reference = record { trait = r.trait; args = z } in x)) (plain-erased k r.args)

pub struct-erased : (x : StructDecl) → erased_struct (plain_struct x) ≡ erased_struct x
struct-erased x = ap (λ z. (let y : StructDecl = record { name = x.name; home = x.home; is_fundamental = x.is_fundamental; fields = z } in y)) (map-again (plain none_kept) erase (plain-erased none_kept) x.fields)

pub trait-erased : (x : TraitDecl) → erased_trait (plain_trait x) ≡ erased_trait x
trait-erased x =
    ap (λ z. (let y : TraitDecl = record { name = x.name; home = x.home; is_fundamental = x.is_fundamental; is_auto = x.is_auto; bounds = z } in y))
    (map-again (plain_reference none_kept) erased_reference (reference-erased none_kept) x.bounds)

impl-erased : (x : ImplDecl) → erased_impl (plain_impl x) ≡ erased_impl x
impl-erased x = join _ _ _ _ (reference-erased all_kept x.header) (map-again (plain_reference (stands_in x.header.args)) erased_reference (reference-erased (stands_in x.header.args)) x.clauses)
  where
    join : (r r' : Reference) (ks ks' : List Reference) → r ≡ r' → ks ≡ ks'
        → (let y : ImplDecl = record { name = x.name; home = x.home; params = x.params; header = r; clauses = ks } in y) ≡ record { name = x.name; home = x.home; params = x.params; header = r'; clauses = ks' }
    join r r' ks ks' p q = cc

pub world-erased : (W : World) → erased_world (plain_world W) ≡ erased_world W
world-erased W = join _ _ _ _ _ _ (map-again plain_struct erased_struct struct-erased W.structs) (map-again plain_trait erased_trait trait-erased W.traits) (map-again plain_impl erased_impl impl-erased W.impls)
  where
    join : (ss ss' : List StructDecl) (ts ts' : List TraitDecl) (is is' : List ImplDecl) → ss ≡ ss' → ts ≡ ts' → is ≡ is'
        → (let V : World = record { crates = W.crates; structs = ss; traits = ts; impls = is } in V) ≡ record { crates = W.crates; structs = ss'; traits = ts'; impls = is' }
    join ss ss' ts ts' is is' p q r = cc

-- ---- the trees of cells
append-plain : (k : ℕ → Bool) (x o : Trees) → plain k (x +++ o) ≡ plain k x +++ plain k o
append-plain k none o = refl
append-plain k (tree l c x) o = node refl refl (append-plain k x o)

gathered-plain : (k : ℕ → Bool) (n : ℕ) (S : List Trees) (o : Trees) → gathered n (map (plain k) S) (plain k o) ≡ plain k (gathered n S o)
gathered-plain k zero S o = refl
gathered-plain k (suc n) [] o = refl
gathered-plain k (suc n) (t ∷ S) o = ap (gathered n (map (plain k) S)) (sym (append-plain k t o)) ∙ gathered-plain k n S (t +++ o)

below-plain : (k : ℕ → Bool) (n : ℕ) (S : List Trees) → below n (map (plain k) S) ≡ map (plain k) (below n S)
below-plain k zero S = refl
below-plain k (suc n) [] = refl
below-plain k (suc n) (t ∷ S) = below-plain k n S

cell-plain : (k : ℕ → Bool) (c : TermCell) (S : List Trees) → behind_cell (plain_cell k c) (map (plain k) S) ≡ map (plain k) (behind_cell c S)
cell-plain k (node_cell l n) S = two (node refl (gathered-plain k n S none) refl) (below-plain k n S)
cell-plain k (reference_cell r m) [] = refl
cell-plain k (reference_cell r m) (t ∷ S) = refl

cells-plain : (k : ℕ → Bool) (cs : List TermCell) (S : List Trees) → behind_cells (map (plain_cell k) cs) (map (plain k) S) ≡ map (plain k) (behind_cells cs S)
cells-plain k [] S = refl
cells-plain k (c ∷ cs) S = ap (behind_cells (map (plain_cell k) cs)) (cell-plain k c S) ∙ cells-plain k cs (behind_cell c S)

reverse-map : {A B : Type 0} (f : A → B) (xs : List A) → reverse (map f xs) ≡ map f (reverse xs)
reverse-map f [] = refl
reverse-map f (x ∷ xs) =
    reverse-append (f x ∷ []) (map f xs) ∙ ap (λ l. l ++ f x ∷ []) (reverse-map f xs) ∙ sym (map_push f (reverse xs) x) ∙ ap (map f) (sym (reverse-append (x ∷ []) xs))

pub trees-plain : (k : ℕ → Bool) (cs : List TermCell) → trees_of (map (plain_cell k) cs) ≡ map (plain k) (trees_of cs)
trees-plain k cs = ap reverse (cells-plain k cs []) ∙ reverse-map (plain k) (behind_cells cs [])

pub joined-plain : (k : ℕ → Bool) (ts : List Trees) → joined (map (plain k) ts) ≡ plain k (joined ts)
joined-plain k [] = refl
joined-plain k (t ∷ ts) = ap (λ o. plain k t +++ o) (joined-plain k ts) ∙ sym (append-plain k t (joined ts))

-- ---- how a type begins
pub begins-plain : (k : ℕ → Bool) (t : Trees) → begins_declared (plain k t) ≡ begins_declared t
begins-plain k none = refl
begins-plain k (tree (param of_lifetime i) c o) = by (k i)
  where
    by : (b : Bool) → begins_declared (tree (if b then param of_lifetime i else static) (plain k c) (plain k o)) ≡ begins_declared (tree (param of_lifetime i) c o)
    by true = refl
    by false = refl
begins-plain k (tree (param of_type i) c o) = refl
begins-plain k (tree (param of_const i) c o) = refl
begins-plain k (tree (bound of_lifetime i j) c o) = refl
begins-plain k (tree (bound of_type i j) c o) = refl
begins-plain k (tree (bound of_const i j) c o) = refl
begins-plain k (tree (placeholder of_lifetime i) c o) = refl
begins-plain k (tree (placeholder of_type i) c o) = refl
begins-plain k (tree (placeholder of_const i) c o) = refl
begins-plain k (tree (infer of_lifetime i) c o) = refl
begins-plain k (tree (infer of_type i) c o) = refl
begins-plain k (tree (infer of_const i) c o) = refl
begins-plain k (tree (canonical of_lifetime i) c o) = refl
begins-plain k (tree (canonical of_type i) c o) = refl
begins-plain k (tree (canonical of_const i) c o) = refl
begins-plain k (tree l c o) = refl
