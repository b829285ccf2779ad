-- Two worlds that differ in impls alone, where one has at least the rules of the other. For example, the crates, and a
-- text that states more than they do.
use Rattle.std.specs.Prelude.{◌≡◌, ◌⊎◌, ℕ, zero, Bool, true, false, List, [], ◌++◌, map}
use Rattle.type_terms.specs.Promised.Label.{Label}
use Rattle.type_terms.specs.Promised.Trees.{Trees, Fits, instantiate, some_node}
use Rattle.type_terms.specs.Promised.Worlds.{World, Reference, ImplDecl, with_args, all_with_args}
use Rattle.type_terms.specs.Erased.{IsCovered}
use Rattle.type_terms.specs.Promised.LinkedSet.{is_stray}
use Rattle.type_terms.specs.Promised.Answers.{is_closed, CommonInstance}
use Rattle.type_terms.specs.Promised.Walks.{is_known_in}
use Rattle.type_terms.specs.Promised.Rules.{Rule, rules, impl_rules, is_auto, is_coinductive, is_written, strict_supertraits}
use Rattle.type_terms.specs.Promised.Proofs.{In, Every, HasProof}

-- Some rule instance of the list has no premises but those of u.
abbrev pub AsksNoMore : List Rule → Rule → Type 0
AsksNoMore us u = (w : Rule) × In w us × Every (λ p. In p u.premises) w.premises

-- Impl j is wider than impl i of the same crate: for trait references that pass the test, j concludes what i concludes,
-- from some of the same premises. For example, `impl<T> Show for V<T>` is wider than
-- `impl<T> Show for V<T> where T: Num`, and than `impl Show for V<u8>`.
pub record IsWider (t : Trees → Bool) (i j : ImplDecl) : Type 0 where
  pub home : j.home ≡ i.home
  pub concludes : (r : Reference) → t r.args ≡ true → (u : Rule) → In u (impl_rules r i) → AsksNoMore (impl_rules r j) u

-- U is V with wider impls, in any order, and possibly with further ones. The comment above a field gives a case that it
-- rules out.
pub record IsBelow (t : Trees → Bool) (V U : World) : Type 0 where
  -- The structs are the same. Ruled out: `struct S<T>()` of U for `struct S<T>(T)` of V, which loses the rule for
  -- `S<[u8; 3]>: Unsize<S<[u8]>>`.
  pub structs : U.structs ≡ V.structs
  -- The traits are the same. Ruled out: `trait Sub` of U for `trait Sub: Sup` of V, which loses the rule for
  -- `dyn Sub: Sup`.
  pub traits : U.traits ≡ V.traits
  -- Each impl has a wider one.
  pub matched : (i : ImplDecl) → In i V.impls → (j : ImplDecl) × In j U.impls × IsWider t i j
  -- No built-in rule of an auto trait is disabled. Ruled out: `impl Send for S where u8: Never` of U, if V has no impl
  -- of `Send` for S.
  pub autos_stay : (n : ℕ) (l : Label) → is_auto V n ≡ true → is_written U n l ≡ true → is_written V n l ≡ true

-- The test that all terms pass.
abbrev pub anything : Trees → Bool
anything t = true

-- V has no proof of some premise by the where-clauses E, so that no proof uses the rule instance. For example,
-- `impl Send for S where u8: Never`.
abbrev pub IsVoid : World → List Reference → Rule → Type 0
IsVoid V E u = (p : Reference) × In p u.premises × (HasProof V E p → ⊥)

-- With the where-clauses E, U has the rule instances of V for trait references that pass the test, except for void
-- ones. A proof needs no more of U than this. A world above V has this property. So may a world whose structs have
-- other fields.
pub record HasRulesOf (t : Trees → Bool) (V U : World) (E : List Reference) : Type 0 where
  pub there : (r : Reference) → t r.args ≡ true → (u : Rule) → In u (rules V E r) → AsksNoMore (rules U E r) u ⊎ IsVoid V E u
  pub coinductive : (n : ℕ) → is_coinductive V n ≡ is_coinductive U n
  pub supers : (r : Reference) → strict_supertraits V r ≡ strict_supertraits U r

-- A rule instance for a trait reference that passes the test has only premises that pass it.
abbrev pub KeepsTest : (Trees → Bool) → World → List Reference → Type 0
KeepsTest t V E = (r : Reference) → t r.args ≡ true → (u : Rule) → In u (rules V E r) → (p : Reference) → In p u.premises → t p.args ≡ true

-- The supertraits of a trait reference that passes the test pass it.
abbrev pub SupersKeepTest : (Trees → Bool) → World → Type 0
SupersKeepTest t V = (r : Reference) → t r.args ≡ true → (s : Reference) → In s (strict_supertraits V r) → t s.args ≡ true

-- j is i with all or some of its where-clauses.
pub record FewerClauses (i j : ImplDecl) : Type 0 where
  pub home : j.home ≡ i.home
  pub params : j.params ≡ i.params
  pub header : j.header ≡ i.header
  pub clauses : Every (λ k. In k i.clauses) j.clauses

-- With the terms C for its parameters, j has the header of i and some of its where-clauses. For example,
-- `impl<T, U> Show for M<T, U> where T: Num` for `impl<T> Show for M<T, V<T>> where T: Num, T: Show`, with C = [T,
-- V<T>].
pub record PutIn (C : Trees) (i j : ImplDecl) : Type 0 where
  pub home : j.home ≡ i.home
  pub header : with_args C j.header ≡ i.header
  pub clauses : Every (λ k. In k i.clauses) (all_with_args C j.clauses)
  -- The terms C are of the kinds of j's parameters, whatever the arguments of i are.
  pub sorts : (A : Trees) → Fits A i.header.args → Fits (instantiate zero A C) j.header.args
  pub plain : some_node is_stray C ≡ false
  pub covered : IsCovered j

-- The header and the where-clauses have no variables and no bound variables, and the where-clauses mention only
-- parameters of the header. Texts ensure this.
pub record IsPlainImpl (i : ImplDecl) : Type 0 where
  pub header : some_node is_stray i.header.args ≡ false
  pub clauses : (k : Reference) → In k i.clauses → some_node is_stray k.args ≡ false
  pub covered : IsCovered i

-- No common instance of the two impls satisfies both lists of where-clauses, where P says which clauses hold.
abbrev pub ClearedBy : (Reference → Type 0) → ImplDecl → ImplDecl → Type 0
ClearedBy P i j = (m : CommonInstance i j) → Every P (map (with_args m.left) i.clauses) → Every P (map (with_args m.right) j.clauses) → ⊥

-- p is a premise of u, or a supertrait of one.
abbrev pub AsksFor : World → Rule → Reference → Type 0
AsksFor V u p = In p u.premises ⊎ ((q : Reference) × In q u.premises × In p (strict_supertraits V q))

-- U covers V: what is impossible by U has no proof by V.
-- - U has each rule instance of V for a closed trait reference. It may have supertraits of premises in place of
--   premises.
-- - U has no further knowable trait references, and no further supertraits.
-- This is weaker than to be above. For example, `trait Sub` of U is allowed for `trait Sub: Sup` of V if no rule
-- depends on it.
pub record Covers (V U : World) : Type 0 where
  pub rules_there : (r : Reference) → is_closed r.args ≡ true → (u : Rule) → In u (rules V [] r) → (w : Rule) × In w (rules U [] r) × Every (AsksFor V u) w.premises
  pub known : (c : ℕ) (r : Reference) → is_known_in U c r ≡ true → is_known_in V c r ≡ true
  pub supers : (r s : Reference) → In s (strict_supertraits U r) → In s (strict_supertraits V r)

-- U and crate c account for H, a meaning of "holds": a closed trait reference that holds
-- - follows by a rule of U, or
-- - is not knowable to c by U, and has supertraits that hold.
-- H may come from a linked set, or from crates that say more than the language can.
abbrev pub AccountsFor : World → ℕ → (Reference → Type 0) → Type 0
AccountsFor U c H =
    (r : Reference) → is_closed r.args ≡ true → H r
    → ((u : Rule) × In u (rules U [] r) × Every (λ p. (is_closed p.args ≡ true) × H p) u.premises)
    ⊎ ((is_known_in U c r ≡ false) × Every (λ s. (is_closed s.args ≡ true) × H s) (strict_supertraits U r))

-- V with the impl that f gives in place of each of its own, and with further impls.
abbrev pub widened : (ImplDecl → ImplDecl) → List ImplDecl → World → World
widened f js V = record V { impls = map f V.impls ++ js }
