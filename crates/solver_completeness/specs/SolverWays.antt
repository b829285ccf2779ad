-- The rule instances of facts by the rules of a view.
use Rattle.std.specs.Prelude.{List, [], ◌∷◌, ◌++◌, map, if◌then◌else◌}
use Rattle.type_terms.specs.Promised.Worlds.{World, Reference}
use Rattle.type_terms.specs.Promised.Rules.{Rule, strict_supertraits}
use Rattle.goal_evaluator.specs.Content.{Fact}
use Rattle.candidate_model.specs.Facts.{clauses_of, reference_in, beside}
use Rattle.candidate_model.specs.Knowing.{is_knowable}
use Rattle.candidate_model.specs.Meaning.{ViewMeaning}
use Rattle.solver_completeness.specs.ModelWays.{ways_under}

-- trait references as facts, with the where-clauses of this one
abbrev pub facts_beside : Fact → List (List Reference) → List (List Fact)
facts_beside f ways = map (λ ps. map (beside f) ps) ways

-- the premises of each rule
abbrev pub premises_of : List Rule → List (List Reference)
premises_of us = map (λ u. u.premises) us

-- outside coherence: by the rules of the view, and by the fact's where-clauses
abbrev pub ways_outside : World → Fact → List (List Fact)
ways_outside V f = facts_beside f (ways_under V (clauses_of f.goal.environment) (reference_in f))

-- In coherence a trait reference that is not knowable may follow from an impl outside the visible crates, and then its
-- supertraits hold. A trait reference with placeholders or parameters is knowable only if all its instances are.
abbrev pub ways_in_coherence : ViewMeaning → Fact → List (List Fact)
ways_in_coherence m f =
    let r = reference_in f in
    facts_beside f (ways_under m.view (clauses_of f.goal.environment) r ++ (if is_knowable m.view m.crate r then [] else strict_supertraits m.view r ∷ []))
