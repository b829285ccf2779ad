-- Tables that count do the same as those that do not.
use Rattle.std.proofs.Common.{◌≡◌, ℕ, suc, List, [], ◌∷◌, ◌∙◌, refl, ap, Option, Some, None}
use Rattle.goal_evaluator.specs.Lists.{Pairwise, OnBoth}
use Rattle.goal_evaluator.specs.Operations.{Workings}
use Rattle.goal_evaluator.specs.Correspondences.{IsCandidateCorrespondence}
use Rattle.goal_evaluator.specs.Table.{workings}
use Rattle.test_handlers.specs.Atoms.{atoms}
use Rattle.test_handlers.specs.Counted.{CountedAnswers, with_count, counting, but_for_tables, but_for_counts}

abbrev some_or : {A : Type 0} → A → Option A → A
some_or x None = x
some_or x (Some y) = y

counted_same : {A : Type 0} (n : ℕ) (o p : Option A) → o ≡ p → OnBoth (λ (x : A) (y : CountedAnswers A). x ≡ y.table) o (with_count n p)
counted_same n None None e = tt
counted_same n (Some x) (Some y) e = ap (some_or x) e
counted_same n None (Some y) e = absurd (cc)
counted_same n (Some x) None e = absurd (cc)

same_lists : {A : Type 0} (xs ys : List A) → Pairwise (λ x y. x ≡ y) xs ys → xs ≡ ys
same_lists [] [] p = refl
same_lists (x ∷ xs) (y ∷ ys) p = let e = p.0 in let f = same_lists xs ys p.1 in rw (e, f) refl
same_lists [] (y ∷ ys) p = absurd p
same_lists (x ∷ xs) [] p = absurd p

module _ {Question Response : Type 0} (t : Workings Question Response) where
  pub counts_correspond : IsCandidateCorrespondence t (counting t) (but_for_counts t)
  counts_correspond = record {
    rounds = record {
      question = λ T U n m e g. ap (λ x. t.operations.question x n) e ∙ ap (t.operations.question U.table) g;
      apply = λ T U n m r s e g h.
          counted_same (suc U.answers) (t.operations.apply T n r) (t.operations.apply U.table m s)
          (ap (λ x. t.operations.apply x n r) e ∙ ap (λ x. t.operations.apply U.table x r) g ∙ ap (t.operations.apply U.table m) h);
      certainty = λ q r s h. ap t.operations.certainty h;
      has_values = λ q r s h. ap t.operations.has_values h;
    };
    fresh = λ T U j k e g. ap (λ x. t.fresh x j) e ∙ ap (t.fresh U.table) g;
    equate = λ T U es fs e p. counted_same U.answers (t.equate T es) (t.equate U.table fs) (ap (λ x. t.equate x es) e ∙ ap (t.equate U.table) (same_lists es fs p));
    recorded = λ T U p q e g. ap (λ x. t.recorded x p) e ∙ ap (t.recorded U.table) g;
    respond = λ T U sure e. ap (λ x. t.respond x sure) e;
  }

pub atoms_correspond : IsCandidateCorrespondence (workings atoms) (counting (workings atoms)) (but_for_tables (workings atoms) (λ table counted. table ≡ counted.table))
atoms_correspond = counts_correspond (workings atoms)
