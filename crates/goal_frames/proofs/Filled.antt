-- Values of the inference variables of a goal and of a rule: the given ones.
use Rattle.std.proofs.Common.{◌≡◌, ℕ, zero, suc, ◌+◌, arith, true, List, [], ◌∷◌, ◌++◌, length, sym, ◌∙◌, ap, subst}
use Rattle.type_terms.specs.Promised.Label.{Sort, of_type, of_const}
use Rattle.type_terms.specs.Promised.Trees.{Trees}
use Rattle.type_terms.specs.Made.{terms, is_made}
use Rattle.infer_table.specs.declared.canonical.CanonicalVarKind.{CanonicalVarKind}
use Rattle.infer_table.specs.declared.canonical.CanonicalVarKind.TheVariants.{Ty, PlaceholderTy, Const, PlaceholderConst, Region}
use Rattle.infer_table.specs.Raw.{sort_of_kind}
use Rattle.goal_evaluator.specs.Lists.{Every}
use Rattle.goal_evaluator.proofs.ListLaws.{Every-mono}
use Rattle.goal_evaluator.specs.Instances.{of_sort, first_term, other_terms, term_at}
use Rattle.goal_evaluator.specs.Content.{Values, ChosenTerms}
use Rattle.goal_evaluator.specs.FrameTables.{kind_at, HaveValues, AllowsApart}
use Rattle.goal_evaluator.specs.TableOperations.{begin, fresh}
use Rattle.goal_frames.specs.Rules.{IsUnknown}
use Rattle.goal_evaluator.specs.Variables.{is_variable_over}
use Rattle.goal_evaluator.proofs.Readings.{AgreeIn}
use Rattle.goal_frames.proofs.Behind.{dropped, term-dropped}
use Rattle.goal_evaluator.proofs.Slots.{kind-of, own_slot, slot-is, of-sort-twice}
use Rattle.goal_evaluator.proofs.Unplaced.{IsNotPlace, filled_with, filled-with-allowed, whole, whole-allowed, whole-own, whole-values}
use Rattle.goal_frames.proofs.TypeBasics.{unknown-kind}

-- ---- values one behind the other
-- the first n of the one list, and then the other
abbrev pub padded : ℕ → List Trees → List Trees → List Trees
padded zero ts xs = xs
padded (suc n) ts xs = first_term ts ∷ padded n (other_terms ts) xs

term-behind : (n i : ℕ) (ts xs : List Trees) → term_at (padded n ts xs) (n + i) ≡ term_at xs i
term-behind zero i ts xs = ap (term_at xs) (zero-plus i)
  where
    zero-plus : (n : ℕ) → 0 + n ≡ n
    zero-plus n = omega arith
term-behind (suc n) i ts xs = ap (term_at (padded (suc n) ts xs)) (next n i) ∙ term-behind n i (other_terms ts) xs
  where
    next : (n i : ℕ) → suc n + i ≡ suc (n + i)
    next n i = omega arith

first-values : (ks js : List CanonicalVarKind) (ts xs slots : List Trees) → HaveValues (ks ++ js) (padded (length ks) ts xs) slots → HaveValues ks ts slots
first-values [] js ts xs slots h = tt
first-values (Ty ∷ ks) js ts xs slots h = (h.0, first-values ks js (other_terms ts) xs (other_terms slots) h.1)
first-values (Const ∷ ks) js ts xs slots h = (h.0, first-values ks js (other_terms ts) xs (other_terms slots) h.1)
first-values (Region ∷ ks) js ts xs slots h = first-values ks js (other_terms ts) xs (other_terms slots) h
first-values (PlaceholderTy ∷ ks) js ts xs slots h = first-values ks js (other_terms ts) xs (other_terms slots) h
first-values (PlaceholderConst ∷ ks) js ts xs slots h = first-values ks js (other_terms ts) xs (other_terms slots) h

kind-behind : (ks js : List CanonicalVarKind) (i : ℕ) → kind_at (ks ++ js) (length ks + i) ≡ kind_at js i
kind-behind [] js i = ap (kind_at js) (zero-plus i)
  where
    zero-plus : (n : ℕ) → 0 + n ≡ n
    zero-plus n = omega arith
kind-behind (k ∷ ks) js i = ap (kind_at (k ∷ (ks ++ js))) (next (length ks) i) ∙ kind-behind ks js i
  where
    next : (n i : ℕ) → suc n + i ≡ suc (n + i)
    next n i = omega arith

pub unknown-agrees : (j : CanonicalVarKind) (k : Sort) (x : Trees) → IsUnknown j → sort_of_kind j ≡ k → of_sort k (own_slot j x) ≡ of_sort k x
unknown-agrees Ty k x u e = subst (λ z. of_sort z (of_sort of_type x) ≡ of_sort z x) e (of-sort-twice of_type x)
unknown-agrees Const k x u e = subst (λ z. of_sort z (of_sort of_const x) ≡ of_sort z x) e (of-sort-twice of_const x)
unknown-agrees PlaceholderTy k x u e = absurd u
unknown-agrees PlaceholderConst k x u e = absurd u
unknown-agrees Region k x u e = absurd u

unknowns-unplaced : (js : List CanonicalVarKind) → Every IsUnknown js → Every IsNotPlace js
unknowns-unplaced js g = Every-mono IsUnknown IsNotPlace one js g
  where
    one : (j : CanonicalVarKind) → IsUnknown j → IsNotPlace j
    one Ty u = tt
    one Const u = tt
    one PlaceholderTy u = u
    one PlaceholderConst u = u
    one Region u = tt

-- ---- the terms
module _ (ks js : List CanonicalVarKind) (h : Every IsNotPlace ks) (g : Every IsUnknown js) (v : Values) (xs : List Trees) where
  abbrev all : List Trees
  all = padded (length ks) v.terms xs

  pub unplaced : Every IsNotPlace js
  unplaced = unknowns-unplaced js g

  -- the values v for the goal's variables, and behind them these terms for the rule's
  abbrev pub filled : ChosenTerms
  filled = filled_with ks js h unplaced v all

  pub filled-allowed : AllowsApart (fresh (begin ks) js) filled
  filled-allowed = filled-with-allowed ks js h unplaced v all (first-values ks js v.terms xs filled.slots (whole-values ks js h unplaced v all))

  -- the rule's terms are read with these
  pub filled-agrees : (x : Trees) → is_made (is_variable_over js) terms x ≡ true → AgreeIn (dropped (length ks) filled.slots) xs x
  filled-agrees x m k i w st =
      let y = kind-of js x m k i st in
      ap (of_sort k)
      (sym (term-dropped (length ks) i filled.slots)
      ∙ slot-is (begin (ks ++ js)) (whole ks js h unplaced v all) (whole-allowed ks js h unplaced v all) (length ks + i) y.kind (kind-behind ks js i ∙ y.is)
      ∙ ap (λ (z : Values). own_slot y.kind (term_at z.terms (length ks + i))) (whole-own ks js h unplaced v all) ∙ ap (own_slot y.kind) (term-behind (length ks) i v.terms xs))
      ∙ unknown-agrees y.kind k (term_at xs i) (unknown-kind js g i y.kind y.is) y.sort
