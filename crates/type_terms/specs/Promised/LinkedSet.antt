-- Linked sets: crates, possibly of different texts, that together obey the rules of a text and keep the orphan rule.
use Rattle.std.specs.Prelude.{◌≡◌, ◌⊎◌, ℕ, zero, suc, ◌<◌, Bool, true, false, IsTrue, ◌&&◌, ◌==◌, List, [], map, nat_le}
use Rattle.std.specs.List.{list_any}
use Rattle.type_terms.specs.Promised.Label.{Label, Sort, dynamic, auto_trait, adt, param}
use Rattle.type_terms.specs.Promised.Trees.{Trees, none, tree, Fits, some_node, erase}
use Rattle.type_terms.specs.Promised.Worlds.{World, CrateDecl, Reference, StructDecl, TraitDecl, ImplDecl, core, view_of, with_args}
use Rattle.type_terms.specs.Promised.Rules.{strict_supertraits, is_auto, sized}
use Rattle.type_terms.specs.Promised.Supers.{mentions_as, dyns_of_bounds}
use Rattle.type_terms.specs.Promised.Core.{core_world}
use Rattle.type_terms.specs.Promised.Renumbering.{View, HoldsView, asker_in_set}
use Rattle.type_terms.specs.Promised.Arranging.{Arrangement, arranged_world}
use Rattle.type_terms.specs.Promised.Proofs.{In, Every, HasProof}
use Rattle.type_terms.specs.Promised.Answers.{is_closed, is_open, CommonInstance}
use Rattle.type_terms.specs.Promised.Walks.{struct_is, keeps_orphan_rule}
use Rattle.type_terms.specs.Promised.Versions.{with_impls, HasLaterImpls, in_scope}

-- Each impl of an auto trait is for a struct of its own crate.
abbrev pub AutoAtHome : World → Type 0
AutoAtHome W =
    (i : ImplDecl) → In i W.impls → is_auto W i.header.trait ≡ true
    → (s : ℕ) × (ks : Trees) × (os : Trees) × (i.header.args ≡ tree (adt s) ks os) × (struct_is (λ x. x.home == i.home) W s ≡ true)

-- The label is that of a placeholder, a variable or a bound variable. Declarations have none of these.
abbrev pub is_stray : Label → Bool
is_stray (param _ _) = false
is_stray l = is_open l

-- P holds of all terms in the declarations of W: fields, supertraits, headers and where-clauses.
pub record AllWritten (P : Trees → Type 0) (W : World) : Type 0 where
  pub fields : (x : StructDecl) (t : Trees) → In x W.structs → In t x.fields → P t
  pub bounds : (x : TraitDecl) (b : Reference) → In x W.traits → In b x.bounds → P b.args
  pub headers : (i : ImplDecl) → In i W.impls → P i.header.args
  pub clauses : (i : ImplDecl) (k : Reference) → In i W.impls → In k i.clauses → P k.args

-- The auto traits in these bounds have strictly rising numbers, from n.
abbrev pub autos_rise : ℕ → Trees → Bool
autos_rise n none = true
autos_rise n (tree (auto_trait t) c o) = nat_le n t && autos_rise (suc t) o
autos_rise n (tree l c o) = autos_rise n o

-- Each `dyn` in the terms lists its auto traits by their numbers, each once. For example, `dyn A + B` where A is
-- declared first, but not `dyn B + A`.
abbrev pub dyns_rise : Trees → Bool
dyns_rise none = true
dyns_rise (tree dynamic c o) = autos_rise zero c && (dyns_rise c && dyns_rise o)
dyns_rise (tree l c o) = dyns_rise c && dyns_rise o

-- One arrangement turns the auto traits of every `dyn` in W into the order of their numbers, each once. So no two of
-- them list the same auto traits in different orders, because an arrangement turns different lists into different
-- lists.
abbrev pub DynsInOneOrder : World → Type 0
DynsInOneOrder W = (α : Arrangement) × AllWritten (λ t. IsTrue (dyns_rise t)) (arranged_world α W)

-- A term as declarations hold it. Ruled out: `for<'a> fn(&'a u8)`, which has a lifetime; `?x`, for which `Sized` is
-- undetermined; `dyn T`, where a parameter stands for a bound.
pub record IsPlainTerm (t : Trees) : Type 0 where
  pub term : erase t ≡ t
  pub open_places : some_node is_stray t ≡ false
  pub dyns : IsTrue (dyns_of_bounds t)

-- The crates of W obey the rules of their texts. The comment above each field says what it means and gives a case that
-- it rules out.
pub record ObeysTextRules (W : World) : Type 0 where
  -- Ruled out: `impl Show for ?x`, whose instances are undetermined.
  pub plain : AllWritten IsPlainTerm W
  -- Headers name what their crate sees, and are as the grammar has them. Ruled out: `impl Tr for A` in a crate that
  -- does not see Tr, next to `impl<T> Tr for T`.
  pub headers_in_scope : (i : ImplDecl) → In i W.impls → IsTrue (in_scope W i.home i.header)
  -- Supertraits name what their crate sees. Ruled out: a crate that uses `trait Sub: Sup` and sees Sub, but not Sup.
  pub bounds_in_scope : (x : TraitDecl) (b : Reference) → In x W.traits → In b x.bounds → IsTrue (in_scope W x.home b)
  -- The supertraits of a trait precede it in some order, for example that of a text. Ruled out: `trait A: B` together
  -- with `trait B: A`.
  pub trait_rank : ℕ → ℕ
  pub supers_before : (x : TraitDecl) (b : Reference) → In x W.traits → In b x.bounds → trait_rank b.trait < trait_rank x.name
  -- Auto traits have no supertraits. Ruled out: `auto trait Safe: Show`, where the fields of a struct prove Safe, but
  -- nothing proves Show.
  pub autos_bare : (x : TraitDecl) → In x W.traits → x.is_auto ≡ true → x.bounds ≡ []
  -- Impls of auto traits are for structs of their crate. Ruled out: `impl Safe for S` in a crate that the crate of S
  -- does not see. It would disable a rule that the crate of S has.
  pub autos_at_home : AutoAtHome W
  -- A parameter that a where-clause mentions is also in the header, with the same kind. Ruled out:
  -- `impl<T> Show for u8 where T: Num`.
  pub clauses_covered : (i : ImplDecl) (k : Reference) → In i W.impls → In k i.clauses → (s : Sort) (n : ℕ) → mentions_as s n k.args ≡ true → mentions_as s n i.header.args ≡ true
  -- `Sized` has built-in rules only. Ruled out: `impl Sized for dyn Show`. With it, `T: Unsize<dyn Num>` would follow
  -- from `T: Sized` and `T: Num` for every T but `dyn Show`.
  pub sized_alone : (i : ImplDecl) → In i W.impls → (i.header.trait == sized) ≡ false

-- The crates of W fit together. `rank` is an order of crates.
pub record OrderedCrates (W : World) (rank : ℕ → ℕ) : Type 0 where
  -- The set has `core`, with its structs and its traits in their order. Ruled out: a set in which `Copy` has no
  -- supertrait.
  pub core_there : with_impls (view_of W core) core_world.impls ≡ core_world
  -- It has the impls of `core`, or of a later version of it. Ruled out: a set without `impl Clone for u8`.
  pub core_later : HasLaterImpls W core core_world.impls
  -- `core` is the first crate. Ruled out: a `core` that uses another crate.
  pub core_first : rank core ≡ 0
  -- Crates use crates that precede them. Ruled out: two crates that use each other, each of which could implement the
  -- other's traits for its own types.
  pub uses_before : (x : CrateDecl) (u : ℕ) → In x W.crates → In u x.uses → rank u < rank x.name
  -- Crates use crates that are in the set. Ruled out: `crate first uses base` in a set without base.
  pub uses_stand : (x : CrateDecl) (u : ℕ) → In x W.crates → In u x.uses → IsTrue (list_any (λ (y : CrateDecl). y.name == u) W.crates)
  -- A name is that of one struct, one trait or one impl. Ruled out: trait 20 of crate first and another one of crate
  -- second, so that each may write `impl 20 for u8`.
  pub one_struct : (x y : StructDecl) → In x W.structs → In y W.structs → x.name ≡ y.name → x ≡ y
  pub one_trait : (x y : TraitDecl) → In x W.traits → In y W.traits → x.name ≡ y.name → x ≡ y
  pub one_impl : (x y : ImplDecl) → In x W.impls → In y W.impls → x.name ≡ y.name → x ≡ y
  -- All crates list the auto traits of a `dyn` in one order, so that equal types are equal terms. Ruled out:
  -- `impl Show for dyn A + B` of one text and `impl Show for dyn B + A` of another.
  pub dyns_in_order : DynsInOneOrder W

-- W is a joined set of crates. `views` are those with an answer or a verdict, each with the view of that answer.
pub record JoinedSet (W : World) (views : List View) (rank : ℕ → ℕ) : Type 0 where
  pub rules : ObeysTextRules W
  pub fits : OrderedCrates W rank
  -- Each header keeps the orphan rule of its crate. Ruled out: `impl Show for u8` in two crates that do not declare
  -- Show.
  pub orphan_rule : (i : ImplDecl) → In i W.impls → IsTrue (keeps_orphan_rule W i.home i.header)
  -- The set has each answer's crate with the view of that answer. Ruled out: a crate that has one more impl here than
  -- where `no` was answered.
  pub as_answered : Every (HoldsView W) views

-- For each closed instance of an impl whose where-clauses have proofs, the supertraits of its header have proofs.
abbrev pub HeadersHaveSupertraits : World → Type 0
HeadersHaveSupertraits W =
    (i : ImplDecl) → In i W.impls → (A : Trees) → IsTrue (is_closed A) → Fits A i.header.args
    → Every (HasProof W []) (map (with_args A) i.clauses) → Every (HasProof W []) (strict_supertraits W (with_args A i.header))

-- W is a linked set: a joined set in which the supertraits of headers are proved. Ruled out:
-- `trait Sub: Sup; impl Sub for u8` without `impl Sup for u8`.
pub record LinkedSet (W : World) (views : List View) (rank : ℕ → ℕ) : Type 0 where
  pub joined : JoinedSet W views rank
  pub supers_proved : HeadersHaveSupertraits W

-- P holds of each linked set with the views of its answers.
abbrev pub InEveryLinkedSet : (World → List View → Type 0) → Type 0
InEveryLinkedSet P = (W : World) (vs : List View) (rank : ℕ → ℕ) → LinkedSet W vs rank → P W vs

-- The pair is cleared in W: no common instance has proofs of both lists of where-clauses.
abbrev pub Cleared : World → ImplDecl → ImplDecl → Type 0
Cleared W i j = (m : CommonInstance i j) → Every (HasProof W []) (map (with_args m.left) i.clauses) → Every (HasProof W []) (map (with_args m.right) j.clauses) → ⊥

-- The impl is one of the original impls of `core`, or is of a crate with an answer. An impl that a later version of
-- `core` adds is neither, unless an answer is about that version.
abbrev pub IsOfAnAnsweredCrate : List View → ImplDecl → Type 0
IsOfAnAnsweredCrate vs i = In i core_world.impls ⊎ ((v : View) × In v vs × (asker_in_set v ≡ i.home))

-- The pair is one that crate c brings together, with the numbers of its text: i is an impl of c, and j is one that c
-- sees. If j is of c as well, it is an earlier one.
pub record IsPair (V : World) (c : ℕ) (i j : ImplDecl) : Type 0 where
  pub stands : In i V.impls
  pub partner : In j V.impls
  pub own : i.home ≡ c
  pub before : j.home ≡ c → j.name < i.name
