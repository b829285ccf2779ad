-- Contexts that are as others.
use Rattle.std.proofs.Common.{◌≡◌, ◌<◌, ◌∙◌, ℕ, true, sym, subst, List, [], All, Contains}
use Rattle.std.proofs.lemmas.List.Elements.{All-same}
use Rattle.type_terms.specs.Promised.Handles.{Entry}
use Rattle.type_terms.specs.Promised.Label.{Sort}
use Rattle.infer_table.specs.Content.{Grows, Ready, Table, content, variables_of}
use Rattle.infer_table.specs.Goals.{GoalHeld, goal_trees}
use Rattle.infer_table.specs.Growth.{grows-refl}
use Rattle.infer_table.specs.Solutions.{Solves}
use Rattle.infer_table.specs.declared.certainty.TypingMode.{TypingMode}
use Rattle.solver_graph.specs.Contexts.{entries_of}
use Rattle.solver_graph.specs.Searching.{world_in}
use Rattle.solver_graph.specs.declared.context.SolverCx.{SolverCx}
use Rattle.candidate_assembly.specs.SolverMeaning.{solver_by_view}
use Rattle.candidate_assembly.specs.declared.solver.Solver.{Solver}
use Rattle.fulfillment.specs.Selecting.{IsProvedIn}
use Rattle.fulfillment.specs.declared.obligation.Obligation.{Obligation}
use Rattle.fulfillment.specs.declared.obligation.Standing.TheVariants.{Done}
use Rattle.sessions.specs.Promised.Subjects.{Subject}
use Rattle.inference.specs.Inference.{Demand, proved, DemandIsOver, IsFaithfulTo, OwnVariables, SolvesDemands}
use Rattle.inference.specs.Inferring.{GoalIsOver, HasGrownFrom, IsAsBefore, ValuesAreOver}
use Rattle.inference.specs.declared.context.Infer.{Infer}
use Rattle.inference.proofs.Growing.{grown-same}
use Rattle.session_inference.specs.Contexts.{CanInferIn, IsAskedFurtherIn, IsOverTerms}

-- ---- a context that is as another one
module _ (i j : Infer) (same : IsAsBefore i j) where
  goals-same : (P : Obligation → Type 0) → All P i.goals.obligations.items → All P j.goals.obligations.items
  goals-same P h = All-same P j.goals.obligations.items i.goals.obligations.items same.goals h

  over-same : (es : List Entry) → IsOverTerms es i → IsOverTerms es j
  over-same es h = record {
    table = subst (Ready es) (sym same.table) h.table;
    held = goals-same (λ (o : Obligation). GoalHeld es o.goal) h.held;
    values = subst (λ (t : Table). ValuesAreOver (variables_of t) (content es t.values)) (sym same.table) h.values;
    goals =
        goals-same (λ (o : Obligation). GoalIsOver (variables_of j.table) (goal_trees es o.goal))
        (subst (λ (t : Table). All (λ (o : Obligation). GoalIsOver (variables_of t) (goal_trees es o.goal)) i.goals.obligations.items) (sym same.table) h.goals);
  }

  pub faithful-as : (own : OwnVariables) (asked : List Demand) (c : SolverCx Solver) → IsFaithfulTo solver_by_view own asked c i → IsFaithfulTo solver_by_view own asked c j
  faithful-as own asked c f = record {
    own_known = subst (λ (t : Table). (k : Sort) (v : ℕ) → own k v ≡ true → v < variables_of t k) (sym same.table) f.own_known;
    asked_known = subst (λ (t : Table). All (DemandIsOver (variables_of t)) asked) (sym same.table) f.asked_known;
    registered = goals-same (λ (o : Obligation). Contains asked (proved (goal_trees (entries_of c) o.goal))) f.registered;
    covers =
        λ v h.
        let z = f.covers v (subst (λ (m : TypingMode). SolvesDemands solver_by_view m (world_in solver_by_view c) own asked v) same.mode h) in
        (z.0, z.1, subst (λ (t : Table). Solves z.0 (content (entries_of c) t.values)) (sym same.table) z.2);
    equations = λ v h. f.equations v (subst (λ (t : Table). Solves v (content (entries_of c) t.values)) same.table h);
    done =
        goals-same (λ (o : Obligation). o.standing ≡ Done → IsProvedIn solver_by_view c j.table o.goal)
        (subst (λ (t : Table). All (λ (o : Obligation). o.standing ≡ Done → IsProvedIn solver_by_view c t o.goal) i.goals.obligations.items) (sym same.table) f.done);
  }

  pub still-as : (s t : Subject) → IsAskedFurtherIn [] s i t i → IsAskedFurtherIn [] s i t j
  still-as s t f own asked faithful c of = faithful-as own asked c (f own asked faithful c of)

  pub can-as : (s : Subject) → CanInferIn s i → CanInferIn s j
  can-as s h = let f = h.faithful in record { over = over-same s.terms h.over; mode = same.mode ∙ h.mode; faithful = (f.0, f.1, λ c of. faithful-as f.0 f.1 c (f.2 c of)) }

  pub grown-same-context : HasGrownFrom i j
  grown-same-context = record {
    table = subst (λ (t : Table). Grows i.table t) (sym same.table) (grows-refl i.table);
    goals = grown-same i.goals.obligations.items j.goals.obligations.items same.goals;
    mode = same.mode;
    limit = same.limit;
  }
