-- What the answer to a query promises. V is the view of crate c, in which the query is asked. The variables of each
-- kind are numbered from 0. Terms have no lifetimes.
use Rattle.std.specs.Prelude.{◌≡◌, ℕ, Bool, true, false, IsTrue, List, [], ◌∷◌, unwrap_or, if◌then◌else◌}
use Rattle.std.specs.List.{slice_get}
use Rattle.type_terms.specs.Promised.Label.{Label, Sort, infer}
use Rattle.type_terms.specs.Promised.Trees.{Trees, none, tree, leaf, ◌+++◌, IsA, is_sort, some_node}
use Rattle.type_terms.specs.Promised.Worlds.{World, Reference}
use Rattle.type_terms.specs.Promised.Proofs.{Every, HasProof, HasElaboratedProof}
use Rattle.type_terms.specs.Promised.Answers.{is_open, is_closed, is_bounded, is_possible, IsUnambiguous}
use Rattle.type_terms.specs.Promised.Renumbering.{renumbered_reference}
use Rattle.type_terms.specs.Promised.Verdicts.{InEverySetWith}

-- The values are one for each variable of the list, of its kind.
abbrev pub FitKinds : List Sort → List Trees → Type 0
FitKinds [] [] = Unit {0}
FitKinds (s ∷ ss) (t ∷ ts) = IsA s t × FitKinds ss ts
FitKinds _ _ = ⊥

-- The values of the variables of this kind.
abbrev pub of_kind : Sort → List Sort → List Trees → List Trees
of_kind s (k ∷ ks) (t ∷ ts) = if is_sort k s then t ∷ of_kind s ks ts else of_kind s ks ts
of_kind s _ _ = []

-- The terms, with the values for their variables. A variable without a value stays.
abbrev pub filled : List Sort → List Trees → Trees → Trees
filled ks ts none = none
filled ks ts (tree (infer s i) c o) = unwrap_or (slice_get (of_kind s ks ts) i) (leaf (infer s i)) +++ filled ks ts o
filled ks ts (tree l c o) = tree l (filled ks ts c) (filled ks ts o)

-- The trait reference, with the values for its variables.
abbrev pub filled_reference : List Sort → List Trees → Reference → Reference
filled_reference ks ts r = record { trait = r.trait; args = filled ks ts r.args }

-- ---- `prove`
-- The answers to a `prove` line. `yes` has the values of the variables, and `maybe` what is known of these.
pub data ProveAnswer : Type 0 where
  yes : List Trees → ProveAnswer
  unproved : ProveAnswer
  maybe : List Trees → ProveAnswer

-- Closed values for the variables, such that H holds of the trait reference with these values.
pub record SolutionBy (H : Reference → Type 0) (ks : List Sort) (r : Reference) : Type 0 where
  pub values : List Trees
  pub fitting : FitKinds ks values
  pub closed : Every (λ t. IsTrue (is_closed t)) values
  pub proved : H (filled_reference ks values r)

-- The label is that of a parameter, a placeholder, a canonical variable or a bound variable.
abbrev pub is_bound_place : Label → Bool
is_bound_place (infer s i) = false
is_bound_place l = is_open l

-- No value mentions a parameter or a bound variable. All that is open in them are inference variables.
abbrev pub HoldUnknownsAlone : List Trees → Type 0
HoldUnknownsAlone ts = Every (λ t. some_node is_bound_place t ≡ false) ts

-- The answer to a `prove` line is right:
-- - `yes`: the trait reference with the values has a proof by the rules of the view and the where-clauses E. Remaining
--   variables and parameters are opaque in it. If the values mention inference variables alone, there also are closed
--   values with which the trait reference has a proof.
-- - `unproved`: if the trait reference is unambiguous, it has no proof.
-- - `maybe`: the trait reference is not unambiguous.
abbrev pub IsProveAnswer : ℕ → World → List Sort → List Reference → Reference → ProveAnswer → Type 0
IsProveAnswer limit V ks E r (yes ts) =
    FitKinds ks ts × HasProof V E (filled_reference ks ts r) × (HoldUnknownsAlone ts → SolutionBy (HasProof V E) ks r)
IsProveAnswer limit V ks E r unproved = IsUnambiguous limit V E r → HasProof V E r → ⊥
IsProveAnswer limit V ks E r (maybe ts) = IsUnambiguous limit V E r → ⊥

-- ---- `refute`
-- The answers to a `refute` line.
pub data RefuteAnswer : Type 0 where
  no : RefuteAnswer
  unrefuted : RefuteAnswer

-- A solution of r in W: closed values for the variables with which r has a proof in W.
abbrev pub Solution : World → List Sort → Reference → Type 0
Solution W ks r = SolutionBy (HasProof W []) ks r

-- r has no solution:
-- - in any linked set with this view, or
-- - by an elaborated proof in the view alone.
-- Nothing is promised of other proofs in a view that is in no linked set. The search takes the supertraits of its impls
-- for proved.
abbrev pub IsRefuted : World → ℕ → List Sort → Reference → Type 0
IsRefuted V c ks r = (SolutionBy (HasElaboratedProof V []) ks r → ⊥) × InEverySetWith V c (λ W ρ. Solution W ks (renumbered_reference ρ r) → ⊥)

-- The answer to a `refute` line is right:
-- - `no`: r is refuted, and if it is bounded, it is not possible.
-- - `unrefuted`: if r is bounded, it is possible.
abbrev pub IsRefuteAnswer : ℕ → World → ℕ → List Sort → Reference → RefuteAnswer → Type 0
IsRefuteAnswer limit V c ks r no = IsRefuted V c ks r × (is_bounded limit V c r ≡ true → is_possible limit V c r ≡ false)
IsRefuteAnswer limit V c ks r unrefuted = is_bounded limit V c r ≡ true → is_possible limit V c r ≡ true
