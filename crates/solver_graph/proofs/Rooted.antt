-- From the context before a search to the one after it.
use Rattle.std.proofs.Common.{◌≡◌, Bool, true, false, ◌&&◌, not, List, ◌∙◌, ap, subst, Option, refl}
use Rattle.type_terms.specs.Promised.Handles.{Entry, Keeps}
use Rattle.search_graph.specs.Meaning as Search
use Rattle.search_graph.proofs.Graphs.{Keeps-trans}
use Rattle.infer_table.specs.Certainties.{is_certain}
use Rattle.infer_table.specs.declared.certainty.Certainty.TheVariants.{Yes}
use Rattle.infer_table.specs.Responses.{AnswerTrees}
use Rattle.goal_evaluator.specs.Operations.{is_yes}
use Rattle.goal_evaluator.specs.Table.{operations}
use Rattle.goal_evaluator.specs.declared.goal.HasChanged.TheVariants.{No}
use Rattle.goal_frames.specs.Stores.{limit_of}
use Rattle.goal_frames.specs.declared.store.InputId.{InputId}
use Rattle.goal_frames.specs.declared.store.ResponseId.{ResponseId}
use Rattle.goal_frames.specs.declared.frame.GoalFrame.{GoalFrame}
use Rattle.goal_evaluator.specs.TableAnswers.{has_values}
use Rattle.goal_evaluator.specs.Tables.{frame_tables}
use Rattle.goal_frames.specs.Meanings.{HandlerMeaning}
use Rattle.solver_graph.specs.declared.context.SolverCx.{SolverCx}
use Rattle.solver_graph.specs.Contexts.{Asked, entries_of, goal_of, IsReady, Advances, KeepsLimits}
use Rattle.solver_graph.specs.Searching.{solver_meaning, world_in, of_term, of_limits}
use Rattle.solver_graph.proofs.Growing.{same-world, keeps, limits-further}
use Rattle.solver_graph.specs.Changes.{changed}
use Rattle.solver_graph.specs.Evaluations.{IsRight}

-- an answer that is sure and changes nothing is a definite yes
unchanged : (b : Bool) → changed b ≡ No → b ≡ false
unchanged true e = cc
unchanged false e = cc

pub definite : (a : AnswerTrees) → a.certainty ≡ Yes → changed (has_values a) ≡ No → is_yes (operations frame_tables) a ≡ true
definite a e n = ap (λ c. is_certain c && not (has_values a)) e ∙ ap not (unchanged (has_values a) n)

module _ {Handler : Type 0} (m : HandlerMeaning Handler)
    (kept : (h : Handler) (old new : List Entry) → Keeps old new → m.IsReady h old → m.world h new ≡ m.world h old) where
  abbrev meaning : Search.Meaning (SolverCx Handler) InputId (Option ResponseId) GoalFrame
  meaning = solver_meaning m

  abbrev world : SolverCx Handler → m.goals.World
  world c = world_in m c

  -- a search leaves the limits
  limits-searched : (c d : SolverCx Handler) → Search.KeepsContext meaning c d → KeepsLimits c d
  limits-searched c d k = let same = k.held (of_limits c.interner.limit (limit_of c.store)) (refl, refl) in record { terms = same.0; kept = same.1 }

  -- a context, one that it has grown to, and one that a search has left
  module _ (b c d : SolverCx Handler) (now : IsReady m.IsReady b) (a : Advances m.IsReady b c) (k : Search.KeepsContext meaning c d) where
    pub keeps-two : Search.KeepsContext meaning b d
    keeps-two = Keeps-trans meaning b c d (keeps m kept b c now a) k

    pub entries-two : Keeps (entries_of b) (entries_of d)
    entries-two = λ i e h. k.held (of_term i e) (a.entries i e h)

    pub limits-two : KeepsLimits b d
    limits-two = limits-further b c d a.limits (limits-searched c d k)

    -- and it has grown again
    pub keeps-three : (e : SolverCx Handler) → IsReady m.IsReady d → Advances m.IsReady d e → Search.KeepsContext meaning b e
    keeps-three e then x = Keeps-trans meaning b d e keeps-two (keeps m kept d e then x)

  pub right-at : (b c : SolverCx Handler) → IsReady m.IsReady b → Advances m.IsReady b c → (i : InputId) (q : Asked) (x y : Option AnswerTrees) → goal_of c i ≡ q → x ≡ y
      → IsRight meaning (world c) (goal_of c i) x → IsRight meaning (world b) q y
  right-at b c now a i q x y e h f =
      subst (λ w. IsRight meaning w q y) (same-world m kept b c now a)
      (subst (λ z. IsRight meaning (world c) z y) e (subst (IsRight meaning (world c) (goal_of c i)) h f))
