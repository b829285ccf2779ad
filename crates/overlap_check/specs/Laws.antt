-- Equating the headers of two impls finds their common instances, and the answers to the goals decide the pair. The impls w and x have their
-- lifetimes.
use Rattle.std.specs.Prelude.{◌≡◌, ℕ, ◌≤◌, List, [], map, ◌⊎◌}
use Rattle.type_terms.specs.Promised.Label.{Sort}
use Rattle.type_terms.specs.Promised.Trees.{Trees}
use Rattle.type_terms.specs.Promised.Erased.{erased_impl}
use Rattle.type_terms.specs.Promised.Worlds.{World, Reference, ImplDecl}
use Rattle.type_terms.specs.Promised.Proofs.{In}
use Rattle.type_terms.specs.Promised.Answers.{CommonInstance}
use Rattle.type_terms.specs.Promised.Handles.{Entry}
use Rattle.type_terms.specs.Terms.{Lawful}
use Rattle.term_folds.specs.declared.predicate.TraitRef.{TraitRef}
use Rattle.infer_table.specs.Solutions.{Assignment, Solves, Equates, HasNoSolution}
use Rattle.infer_table.specs.Content.{Table, content, variables_of, Ready}
use Rattle.declarations.specs.Held.{ReferenceHeld}
use Rattle.declarations.specs.Items.{reference_in}
use Rattle.overlap_check.specs.SessionLaws.{IsPassed, IsRefused}
use Rattle.type_terms.specs.Promised.Questions.{FitKinds, filled_reference, IsRefuted, IsRefuteAnswer, unrefuted}
use Rattle.overlap_check.specs.Fresh.{fresh_unknowns, with_unknowns}
use Rattle.overlap_check.specs.Goals.{IsPairWith, header_with, unknown_kinds, goal_of, HasGoals}
use Rattle.overlap_check.specs.Headers.{IsOfTable, resolved_reference, with_instance}

-- If no values make the headers equal, the impls have no common instance.
abbrev pub ApartHaveNoInstance : Type 0
ApartHaveNoInstance =
    (w x : ImplDecl) (t : Table) (ps qs : List Sort) → IsPairWith t ps qs w x
    → HasNoSolution [] (header_with (fresh_unknowns t ps) w) (header_with (fresh_unknowns (with_unknowns t ps) qs) x)
    → CommonInstance (erased_impl w) (erased_impl x) → ⊥

-- Impls of different traits have no common instance.
abbrev pub OtherTraitsHaveNoInstance : Type 0
OtherTraitsHaveNoInstance = (w x : ImplDecl) → (w.header.trait ≡ x.header.trait → ⊥) → CommonInstance (erased_impl w) (erased_impl x) → ⊥

-- The traits are equal, and the solutions of a table are the values that make the headers equal. Then the table gives the goals of the pair.
abbrev pub EquatedHaveGoals : Type 0
EquatedHaveGoals =
    (w x : ImplDecl) (t : Table) (ps qs : List Sort) → IsPairWith t ps qs w x → w.header.trait ≡ x.header.trait
    → (es : List Entry) (u : Table) → Ready es u → ((k : Sort) → variables_of (with_unknowns (with_unknowns t ps) qs) k ≤ variables_of u k)
    → Equates [] (content es u.values) (header_with (fresh_unknowns t ps) w) (header_with (fresh_unknowns (with_unknowns t ps) qs) x)
    → HasGoals (erased_impl w) (erased_impl x) (unknown_kinds u) (map (goal_of (content es u.values) (fresh_unknowns t ps)) w.clauses)
    (map (goal_of (content es u.values) (fresh_unknowns (with_unknowns t ps) qs)) x.clauses)

-- One refuted goal is enough to accept the pair.
abbrev pub RefusedGoalPasses : Type 0
RefusedGoalPasses =
    (V : World) (c : ℕ) (i j : ImplDecl) (ks : List Sort) (left right : List Reference) → HasGoals i j ks left right
    → (g : Reference) → In g left ⊎ In g right → IsRefuted V c ks g → IsPassed V c i j

-- If no goal is refuted, the pair is refused. The answer `unrefuted` promises that the goal is possible if it has no variables.
abbrev pub OpenGoalsRefuse : Type 0
OpenGoalsRefuse =
    (limit : ℕ) (V : World) (c : ℕ) (i j : ImplDecl) (ks : List Sort) (left right : List Reference) → HasGoals i j ks left right
    → ((g : Reference) → In g left ⊎ In g right → IsRefuteAnswer limit V c ks g unrefuted) → IsRefused limit V c i j

-- All values for the variables of a table come from a solution of it: a goal with the values put in is its instance by that solution. So
-- if a goal has a proof for no solution, it has a proof for no values.
abbrev pub ValuesAreOfSolutions : Type 0
ValuesAreOfSolutions =
    (es : List Entry) → Lawful es → (t : Table) → Ready es t → (ts : List Trees) → FitKinds (unknown_kinds t) ts
    → (s : Assignment) × Solves s (content es t.values)
    × ((r : TraitRef) → ReferenceHeld es r → IsOfTable es t r
    → with_instance s (reference_in es r) ≡ filled_reference (unknown_kinds t) ts (resolved_reference (content es t.values) (reference_in es r)))
