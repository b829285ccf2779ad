-- Steps of a proof, and how they are shown.
use Rattle.std.proofs.Common.{◌≡◌, ◌+◌, ℕ, zero, suc, List, [], ◌∷◌, ◌++◌, take, sym, subst, Some, arith}
use Rattle.std.specs.List.{slice_get}
use Rattle.sessions.specs.TypeTerms.Promised.Handles.{Entry}
use Rattle.sessions.specs.Declarations.Promised.Elaboration.{Each}
use Rattle.sessions.specs.GoalEvaluator.Lists.{Every}
use Rattle.sessions.specs.TermFolds.declared.predicate.TraitRef.{TraitRef}
use Rattle.sessions.specs.ProofChecker.Steps.{StepHeld}
use Rattle.sessions.specs.ProofChecker.declared.steps.Step.{Step}
use Rattle.sessions.proofs.ProofChecker.Places.{each-at}
use Rattle.explain_sessions.specs.Shown.{StepIsShown, StepsAreShown}
use Rattle.explain_sessions.specs.declared.walks.ShownStep.{ShownStep}

-- one more step is shown
pub shown-push : (rs : List TraitRef) (ss : List Step) (s : Step) (xs : List ShownStep) (i j : ℕ) (x : ShownStep) → j ≡ i + 1 → StepsAreShown rs ss (take i xs) → slice_get xs i ≡ Some x → StepIsShown rs s x
    → StepsAreShown rs (ss ++ s ∷ []) (take j xs)
shown-push rs ss s [] i j x q h e p = cc
shown-push rs ss s (y ∷ xs) i zero x q h e p = absurd (omega (arith, q))
shown-push rs [] s (y ∷ xs) zero (suc j) x q h e p =
    let same : y ≡ x = cc in
    let none : j ≡ 0 = omega (arith, q) in
    subst (λ k. StepsAreShown rs (s ∷ []) (y ∷ take k xs)) (sym none) (subst (StepIsShown rs s) (sym same) p, tt)
shown-push rs (t ∷ ss) s (y ∷ xs) zero (suc j) x q h e p = absurd h
shown-push rs [] s (y ∷ xs) (suc i) (suc j) x q h e p = absurd h
shown-push rs (t ∷ ss) s (y ∷ xs) (suc i) (suc j) x q h e p = (h.0, shown-push rs ss s xs i j x (omega (arith, q)) h.1 e p)

pub each-push : (es : List Entry) (ss : List Step) (s : Step) → Each (StepHeld es) ss → StepHeld es s → Each (StepHeld es) (ss ++ s ∷ [])
each-push es [] s h p = (p, tt)
each-push es (t ∷ ss) s h p = (h.0, each-push es ss s h.1 p)

pub every-there : {A : Type 0} (P : A → Type 0) (xs : List A) (k : ℕ) (x : A) → Every P xs → slice_get xs k ≡ Some x → P x
every-there P [] k x h e = absurd cc
every-there {A = A} P (y ∷ xs) zero x h e = let q : y ≡ x = cc in subst P q h.0
every-there P (y ∷ xs) (suc k) x h e = every-there P xs k x h.1 e

pub each-moved : {A : Type 0} (P : A → Type 0) (xs ys : List A) → ys ≡ xs → (k : ℕ) (x : A) → Each P xs → slice_get ys k ≡ Some x → P x
each-moved P xs ys e k x h q = each-at P xs k x h (subst (λ l. slice_get l k ≡ Some x) e q)
