-- What is checked of one step.
use Rattle.std.specs.Prelude.{◌≡◌, ℕ, take, List, [], ◌++◌, if◌then◌else◌}
use Rattle.type_terms.specs.Promised.Worlds.{World, Reference}
use Rattle.type_terms.specs.Promised.Rules.{Rule, BuiltIn, by_super, built_in, rules, is_coinductive}
use Rattle.type_terms.specs.Promised.Rules as rule
use Rattle.type_terms.specs.Promised.Proofs.{In, Every}
use Rattle.type_terms.specs.Promised.Handles as terms
use Rattle.proof_checker.specs.declared.steps.Step.{Step}
use Rattle.proof_checker.specs.Steps.{term_of, at_places, IsWayOf}

-- The premises and the trait reference are a rule of this kind.
abbrev pub IsRuleByWay : World → List Reference → Reference → rule.Way → List Reference → Type 0
IsRuleByWay W E r w ps = In (let u : Rule = record { way = w; premises = ps } in u) (rules W E r)

-- Some supertrait of the where-clause at this position is the trait reference.
abbrev pub IsSuperRule : World → List Reference → Reference → ℕ → Type 0
IsSuperRule W E r k = (n : ℕ) × IsRuleByWay W E r (by_super k n) []

-- Some built-in rule concludes the trait reference from the premises.
abbrev pub IsBuiltInRule : World → List Reference → Reference → List Reference → Type 0
IsBuiltInRule W E r ps = (b : BuiltIn) × IsRuleByWay W E r (built_in b) ps

-- By the step's rule instance its premises conclude its trait reference. rs are the trait references of all steps.
pub record StepHasRule (W : World) (E : List Reference) (es : List terms.Entry) (rs : List Reference) (s : Step) : Type 0 where
  pub way : rule.Way
  pub of_step : IsWayOf s.way way
  pub rule : IsRuleByWay W E (term_of es s.reference) way (at_places rs s.premises.items)

-- The premises are among the trait references rs, and among the first k of them unless the trait of the conclusion is coinductive.
abbrev pub PremisesStand : World → List Reference → ℕ → ℕ → List Reference → Type 0
PremisesStand W rs k t ps = Every (λ p. In p (if is_coinductive W t then rs else take k rs)) ps

-- The first of the trait references rs are the premises.
abbrev pub AreFirstOf : List Reference → List Reference → Type 0
AreFirstOf rs ps = (others : List Reference) × (rs ≡ ps ++ others)

-- By this rule instance the trait reference follows from premises of which the first are these.
abbrev pub IsConcludedFrom : World → List Reference → Reference → rule.Way → List Reference → Type 0
IsConcludedFrom W E r w ps = (others : List Reference) × IsRuleByWay W E r w (ps ++ others)

-- It follows from such premises by some built-in rule.
abbrev pub IsBuiltInConclusion : World → List Reference → Reference → List Reference → Type 0
IsBuiltInConclusion W E r ps = (b : BuiltIn) × IsConcludedFrom W E r (built_in b) ps
