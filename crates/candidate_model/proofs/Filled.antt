-- Terms for the variables of a goal and of a candidate: the table of the candidate allows those that are given.
use Rattle.std.proofs.Common.{◌≡◌, ℕ, suc, false, List, [], ◌∷◌, ◌++◌, map, refl, sym, ◌∙◌, ap, subst}
use Rattle.type_terms.specs.Promised.Trees.{Trees}
use Rattle.infer_table.specs.declared.canonical.CanonicalVarKind.{CanonicalVarKind}
use Rattle.infer_table.specs.declared.canonical.CanonicalVarKind.TheVariants.{Ty, PlaceholderTy, Const, PlaceholderConst, Region}
use Rattle.goal_evaluator.specs.Lists.{Every}
use Rattle.goal_evaluator.specs.Instances.{first_term, other_terms}
use Rattle.goal_evaluator.specs.Content.{Values, ChosenTerms, reading_of}
use Rattle.goal_evaluator.specs.FrameTables.{HaveValues, AllowsApart}
use Rattle.type_terms.proofs.Made.{false-true}
use Rattle.goal_evaluator.specs.FrameTables.{labels_from}
use Rattle.goal_evaluator.specs.TableOperations.{begin}
use Rattle.goal_evaluator.specs.TableOperations.{fresh}
use Rattle.goal_evaluator.proofs.Unplaced.{IsNotPlace, both-kinds, filled_with, filled-with-allowed, whole, whole-allowed, whole-values}
use Rattle.candidate_model.specs.Slots.{own_slot, as_slots}
use Rattle.candidate_model.specs.Solver.{has_placeholder}
use Rattle.candidate_model.specs.Cover.{padded}
use Rattle.type_terms.proofs.ListBasics.{cons}

-- ---- kinds without places
pub no-placeholder : (ks : List CanonicalVarKind) → has_placeholder ks ≡ false → Every IsNotPlace ks
no-placeholder [] e = tt
no-placeholder (Ty ∷ ks) e = (tt, no-placeholder ks e)
no-placeholder (Const ∷ ks) e = (tt, no-placeholder ks e)
no-placeholder (Region ∷ ks) e = (tt, no-placeholder ks e)
no-placeholder (PlaceholderTy ∷ ks) e = absurd (false-true (sym e))
no-placeholder (PlaceholderConst ∷ ks) e = absurd (false-true (sym e))

-- ---- slots
-- the unknowns with these values are read as slots have them
slots-from : (s : ChosenTerms) (a b c i : ℕ) (ks : List CanonicalVarKind) → Every IsNotPlace ks → (ts : List Trees) → HaveValues ks ts (map (reading_of s) (labels_from a b c i ks))
    → map (reading_of s) (labels_from a b c i ks) ≡ as_slots ks ts
slots-from s a b c i [] h ts v = refl
slots-from s a b c i (Ty ∷ ks) h ts v = cons _ _ _ _ (sym v.0) (slots-from s (suc a) b c (suc i) ks h.1 (other_terms ts) v.1)
slots-from s a b c i (Const ∷ ks) h ts v = cons _ _ _ _ (sym v.0) (slots-from s a (suc b) c (suc i) ks h.1 (other_terms ts) v.1)
slots-from s a b c i (Region ∷ ks) h ts v = cons _ _ _ _ refl (slots-from s a b (suc c) (suc i) ks h.1 (other_terms ts) v)
slots-from s a b c i (PlaceholderTy ∷ ks) h ts v = absurd h.0
slots-from s a b c i (PlaceholderConst ∷ ks) h ts v = absurd h.0

slots-append : (ks js : List CanonicalVarKind) (ts xs : List Trees) → as_slots (ks ++ js) (padded ks ts ++ xs) ≡ as_slots ks ts ++ as_slots js xs
slots-append [] js ts xs = refl
slots-append (k ∷ ks) js ts xs = ap (λ z. own_slot k (first_term ts) ∷ z) (slots-append ks js (other_terms ts) xs)

first-values : (ks js : List CanonicalVarKind) (ts xs slots : List Trees) → HaveValues (ks ++ js) (padded ks ts ++ xs) slots → HaveValues ks ts slots
first-values [] js ts xs slots h = tt
first-values (Ty ∷ ks) js ts xs slots h = (h.0, first-values ks js (other_terms ts) xs (other_terms slots) h.1)
first-values (Const ∷ ks) js ts xs slots h = (h.0, first-values ks js (other_terms ts) xs (other_terms slots) h.1)
first-values (Region ∷ ks) js ts xs slots h = first-values ks js (other_terms ts) xs (other_terms slots) h
first-values (PlaceholderTy ∷ ks) js ts xs slots h = first-values ks js (other_terms ts) xs (other_terms slots) h
first-values (PlaceholderConst ∷ ks) js ts xs slots h = first-values ks js (other_terms ts) xs (other_terms slots) h

-- ---- the terms
module _ (ks js : List CanonicalVarKind) (h : Every IsNotPlace ks) (g : Every IsNotPlace js) (v : Values) (xs : List Trees) where
  -- the values v for the goal's variables, and behind them these terms for the candidate's
  abbrev pub filled : ChosenTerms
  filled = filled_with ks js h g v (padded ks v.terms ++ xs)

  pub filled-allowed : AllowsApart (fresh (begin ks) js) filled
  filled-allowed = filled-with-allowed ks js h g v (padded ks v.terms ++ xs) (first-values ks js v.terms xs filled.slots (whole-values ks js h g v (padded ks v.terms ++ xs)))

  -- the slots are made of these
  pub filled-slots : filled.slots ≡ as_slots ks v.terms ++ as_slots js xs
  filled-slots =
      (whole-allowed ks js h g v (padded ks v.terms ++ xs)).slots
      ∙ slots-from (whole ks js h g v (padded ks v.terms ++ xs)) 0 0 0 0 (ks ++ js) (both-kinds ks js h g) (padded ks v.terms ++ xs)
      (subst (HaveValues (ks ++ js) (padded ks v.terms ++ xs)) (whole-allowed ks js h g v (padded ks v.terms ++ xs)).slots (whole-values ks js h g v (padded ks v.terms ++ xs)))
      ∙ slots-append ks js v.terms xs
