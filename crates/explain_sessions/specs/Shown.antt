-- How the steps of a proof are displayed.
use Rattle.std.specs.Prelude.{◌≡◌, ℕ, List, [], ◌∷◌, Some}
use Rattle.std.specs.List.{slice_get}
use Rattle.sessions.specs.TermFolds.declared.predicate.TraitRef.{TraitRef}
use Rattle.sessions.specs.ProofChecker.declared.steps.Step.{Step}
use Rattle.sessions.specs.ProofChecker.declared.steps.Way.{Way}
use Rattle.sessions.specs.ProofChecker.declared.steps.Way.TheVariants.{Impl, BuiltIn, Clause, Supertrait, Assumed}
use Rattle.explain_sessions.specs.declared.walks.ProofWalk.{ProofWalk}
use Rattle.explain_sessions.specs.declared.walks.ShownStep.{ShownStep}

-- If the checker has premises of a step, they are those that are displayed.
abbrev pub AreShownPremises : Way → List ℕ → List ℕ → Type 0
AreShownPremises (Impl i) ps shown = ps ≡ shown
AreShownPremises BuiltIn ps shown = ps ≡ shown
AreShownPremises (Clause k) ps shown = Unit {0}
AreShownPremises (Supertrait k) ps shown = Unit {0}
AreShownPremises Assumed ps shown = Unit {0}

-- The step's trait reference is that at the index, where rs are the trace's, and so are its premises.
pub record StepIsShown (rs : List TraitRef) (s : Step) (x : ShownStep) : Type 0 where
  pub reference : slice_get rs x.place ≡ Some s.reference
  pub premises : AreShownPremises s.way s.premises.items x.premises.items

-- The same for each, one for one.
abbrev pub StepsAreShown : List TraitRef → List Step → List ShownStep → Type 0
StepsAreShown rs [] [] = Unit {0}
StepsAreShown rs (s ∷ ss) (x ∷ xs) = StepIsShown rs s x × StepsAreShown rs ss xs
StepsAreShown rs ss xs = ⊥

abbrev pub ShowsItsSteps : ProofWalk → Type 0
ShowsItsSteps p = StepsAreShown p.walk.references.items p.steps.items p.shown.items
