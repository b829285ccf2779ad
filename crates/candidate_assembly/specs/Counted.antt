-- What the candidates that were considered determine, the oldest first.
use Rattle.std.specs.Prelude.{ℕ, ◌==◌, Bool, false, List, [], ◌∷◌, map, length, filter, Option}
use Rattle.type_terms.specs.Promised.Handles.{Entry}
use Rattle.type_terms.specs.declared.ImplId.{ImplId}
use Rattle.goal_evaluator.specs.declared.candidate.CandidateSource.{CandidateSource}
use Rattle.goal_evaluator.specs.declared.candidate.CandidateSource.TheVariants.{BuiltinImpl}
use Rattle.goal_evaluator.specs.declared.candidate.BuiltinImplSource.TheVariants.{Object}
use Rattle.goal_evaluator.specs.declared.candidate.Considered.{Considered}
use Rattle.goal_evaluator.specs.StepReadings.{Shows, shown_by}
use Rattle.candidate_model.specs.Solver.{SolverPast, is_clause, is_impl}
use Rattle.candidate_assembly.specs.declared.assembly.Section.{Section}
use Rattle.candidate_assembly.specs.declared.assembly.Section.TheVariants.{WhereClauses, BuiltInRules, Impls, ObjectBounds}
use Rattle.candidate_assembly.specs.Sections.{is_built_in, is_bound, impl_or}

-- Whether the source is of the section, for a goal for which a source that says no more than 'built-in' is a bound, or is not.
abbrev pub is_of : Bool → Section → CandidateSource → Bool
is_of b WhereClauses s = is_clause s
is_of b BuiltInRules s = is_built_in b s
is_of b Impls s = is_impl s
is_of b ObjectBounds s = is_bound b s

-- The source is the bound with this number among the principal and its supertraits.
abbrev pub is_numbered_bound : ℕ → CandidateSource → Bool
is_numbered_bound n (BuiltinImpl (Object i)) = i == n
is_numbered_bound n s = false

-- How many of the candidates have such a source.
abbrev pub count_from : (CandidateSource → Bool) → List Considered → ℕ
count_from p done = length (filter (λ (d : Considered). p d.source) done)

-- The impl that was considered last, or the given one if there is none.
abbrev pub last_from : Option ImplId → List Considered → Option ImplId
last_from last [] = last
last_from last (d ∷ done) = last_from (impl_or d.source last) done

-- The candidate that was considered last of all is from there; if nothing was considered, what is given.
abbrev pub ends_by : (CandidateSource → Bool) → Bool → List Considered → Bool
ends_by p b [] = b
ends_by p b (d ∷ done) = ends_by p (p d.source) done

-- P holds for each past that shows these candidates.
abbrev pub ForEachPast : List Entry → List Considered → (SolverPast → Type 0) → Type 0
ForEachPast es done P = (seen : SolverPast) → Shows (map (shown_by es) done) seen → P seen
