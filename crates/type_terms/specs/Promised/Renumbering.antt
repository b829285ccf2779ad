-- Renumberings: texts number their items independently. A renumbering maps the numbers of one text to those of a linked
-- set.
use Rattle.std.specs.Prelude.{◌≡◌, ℕ, true, List, map, length}
use Rattle.type_terms.specs.Promised.Label.{Label, PredicateKind, of_trait, adt, principal, auto_trait, predicate}
use Rattle.type_terms.specs.Promised.Trees.{Trees, none, tree}
use Rattle.type_terms.specs.Promised.Worlds.{World, CrateDecl, StructDecl, TraitDecl, ImplDecl, Reference, core, crates_named, structs_named, traits_named, view_of}
use Rattle.type_terms.specs.Promised.Rules.{is_declared}
use Rattle.type_terms.specs.Promised.Proofs.{In}
use Rattle.type_terms.specs.Promised.Core.{box, core_world}
use Rattle.type_terms.specs.Promised.Versions.{with_impls, SeesLaterVersions}

-- A one-to-one map of all numbers, with its inverse. For example, the map that exchanges 10 and 11.
pub record Permutation : Type 0 where
  pub to : ℕ → ℕ
  pub back : ℕ → ℕ
  pub back_to : (n : ℕ) → back (to n) ≡ n
  pub to_back : (n : ℕ) → to (back n) ≡ n

-- A permutation for each kind of item. A text has few items, and a one-to-one map of few numbers can be extended to one
-- of all numbers. For example, if struct 10 of the text is struct 11 of the set, then 11 may become 10.
pub record Renumbering : Type 0 where
  pub crates : Permutation
  pub structs : Permutation
  pub traits : Permutation
  pub impls : Permutation

-- The kind of predicate, with the trait that it names renumbered.
abbrev pub renumbered_kind : Renumbering → PredicateKind → PredicateKind
renumbered_kind ρ (of_trait t) = of_trait (ρ.traits.to t)
renumbered_kind ρ k = k

-- The label, with the struct or trait that it names renumbered. No other label names an item.
abbrev pub renumbered_label : Renumbering → Label → Label
renumbered_label ρ (adt s) = adt (ρ.structs.to s)
renumbered_label ρ (principal n t) = principal n (ρ.traits.to t)
renumbered_label ρ (auto_trait t) = auto_trait (ρ.traits.to t)
renumbered_label ρ (predicate k) = predicate (renumbered_kind ρ k)
renumbered_label ρ l = l

-- The terms with their structs and traits renumbered. The auto traits of a `dyn` stay in their order.
abbrev pub renumbered : Renumbering → Trees → Trees
renumbered ρ none = none
renumbered ρ (tree l c o) = tree (renumbered_label ρ l) (renumbered ρ c) (renumbered ρ o)

-- The trait reference, renumbered.
abbrev pub renumbered_reference : Renumbering → Reference → Reference
renumbered_reference ρ r = record { trait = ρ.traits.to r.trait; args = renumbered ρ r.args }

-- The crate with its number and those of the crates that it uses renumbered.
abbrev pub renumbered_crate : Renumbering → CrateDecl → CrateDecl
renumbered_crate ρ x = record { name = ρ.crates.to x.name; uses = map ρ.crates.to x.uses }

-- The struct, renumbered, also in its fields.
abbrev pub renumbered_struct : Renumbering → StructDecl → StructDecl
renumbered_struct ρ x = record x { name = ρ.structs.to x.name; home = ρ.crates.to x.home; fields = map (renumbered ρ) x.fields }

-- The trait, renumbered, also in its supertraits.
abbrev pub renumbered_trait : Renumbering → TraitDecl → TraitDecl
renumbered_trait ρ x = record x { name = ρ.traits.to x.name; home = ρ.crates.to x.home; bounds = map (renumbered_reference ρ) x.bounds }

-- The impl, renumbered, also in its header and its where-clauses. Its parameters keep their numbers.
abbrev pub renumbered_impl : Renumbering → ImplDecl → ImplDecl
renumbered_impl ρ x = record x {
  name = ρ.impls.to x.name;
  home = ρ.crates.to x.home;
  header = renumbered_reference ρ x.header;
  clauses = map (renumbered_reference ρ) x.clauses;
}

-- The two lists have the same members, in any order.
abbrev pub SameMembers : {A : Type 0} → List A → List A → Type 0
SameMembers {A = A} xs ys = ((x : A) → In x xs → In x ys) × ((x : A) → In x ys → In x xs)

-- U is V with other numbers and in any order: each number means in V what its image means in U. `core`, `Box` and the
-- traits of `core` keep their numbers. For example, a text's crate 2 with `struct A` as struct 10 may be crate 3 and
-- struct 11 of a set.
pub record IsRenumbering (ρ : Renumbering) (V U : World) : Type 0 where
  pub core_stays : ρ.crates.to core ≡ core
  pub box_stays : ρ.structs.to box ≡ box
  pub core_traits_stay : (t : ℕ) → is_declared core_world t ≡ true → ρ.traits.to t ≡ t
  pub same_crates : (c : ℕ) → crates_named U (ρ.crates.to c) ≡ map (renumbered_crate ρ) (crates_named V c)
  pub same_structs : (s : ℕ) → structs_named U (ρ.structs.to s) ≡ map (renumbered_struct ρ) (structs_named V s)
  pub same_traits : (t : ℕ) → traits_named U (ρ.traits.to t) ≡ map (renumbered_trait ρ) (traits_named V t)
  pub as_many_traits : length U.traits ≡ length V.traits
  pub same_impls : SameMembers (map (renumbered_impl ρ) V.impls) U.impls

-- A crate with an answer or a verdict, and the view of that answer, in the numbers of its text and without lifetimes.
-- `numbers` maps these numbers to those of a linked set.
pub record View : Type 0 where
  pub numbers : Renumbering
  pub asker : ℕ
  pub world : World

-- The number of the crate in the set.
abbrev pub asker_in_set : View → ℕ
asker_in_set v = v.numbers.crates.to v.asker

-- The part of W that the crate sees, but with the impls of its view: those that it saw when it was answered.
abbrev pub view_before : World → View → World
view_before W v = with_impls (view_of W (asker_in_set v)) (map (renumbered_impl v.numbers) v.world.impls)

-- W has the crate with the view of its answer, renumbered. The crates that it uses may be later versions.
pub record HoldsView (W : World) (v : View) : Type 0 where
  pub renumbers : IsRenumbering v.numbers v.world (view_before W v)
  pub later : SeesLaterVersions W (asker_in_set v) (view_before W v).impls
