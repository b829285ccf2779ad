-- A goal and its table over an interner that has grown.
use Rattle.std.proofs.Common.{◌≡◌, List, sym, ◌∙◌, ap, subst}
use Rattle.type_terms.specs.Promised.Label.{Label}
use Rattle.type_terms.specs.Promised.Trees.{Trees}
use Rattle.type_terms.specs.Promised.Handles.{Entry, Keeps}
use Rattle.type_terms.specs.Promised.Handles.{ArgsHeld}
use Rattle.type_terms.specs.declared.kinds.GenericArgKind.{GenericArgKind}
use Rattle.infer_table.specs.Canonical.{GoalTrees}
use Rattle.infer_table.specs.Content.{Table, Ready, content}
use Rattle.infer_table.specs.Kept.{content-kept}
use Rattle.infer_table.specs.Solutions.{Binding}
use Rattle.infer_table.specs.Unification.{TableTrees, table_trees}
use Rattle.infer_table.proofs.PairFacts.{table-kept}
use Rattle.infer_table.specs.declared.goal.Goal.{Goal}
use Rattle.infer_table.specs.Goals.{goal_resolved, goal_trees}
use Rattle.infer_table.specs.LeafLaws.{leaves-later, labels-later}
use Rattle.infer_table.specs.Leaves.{AreLeaves, labels}
use Rattle.infer_table.specs.Values.{Value}
use Rattle.type_terms.specs.Kept.{args-held-later}
use Rattle.infer_table.proofs.ResolveFacts.{resolved-twice}
use Rattle.infer_table.specs.Responses.{AnswerTrees}
use Rattle.goal_evaluator.specs.TableAnswers.{put_into}
use Rattle.solver_graph.specs.Roots.{goal_in, values_in}

pub keeps-further : (a b c : List Entry) → Keeps a b → Keeps b c → Keeps a c
keeps-further a b c k l = λ i e h. l i e (k i e h)

same-resolved : (bs cs : List Binding) (g h : GoalTrees) → bs ≡ cs → g ≡ h → goal_resolved bs g ≡ goal_resolved cs h
same-resolved bs cs g h p q = cc

same-goal : (d e p q : Trees) → d ≡ e → p ≡ q → ◌≡◌ {A = GoalTrees} (record { environment = d; predicate = p }) (record { environment = e; predicate = q })
same-goal d e p q h k = cc

same-left : (t u : TableTrees) (vs ws : List Value) (a : AnswerTrees) → t ≡ u → vs ≡ ws → put_into t vs a ≡ put_into u ws a
same-left t u vs ws a p q = ap (λ z. put_into z vs a) p ∙ ap (λ z. put_into u z a) q

module _ (old new : List Entry) (k : Keeps old new) (t : Table) (ready : Ready old t) where
  -- a goal that was resolved is its own resolved goal
  pub goal-in-twice : (g h : Goal) → goal_trees new h ≡ goal_in old t g → goal_in new t h ≡ goal_in old t g
  goal-in-twice g h e =
      let bs = content old t.values in
      let a = goal_trees old g in
      same-resolved _ _ _ _ (content-kept old new t.values k ready.held) e
      ∙ same-goal _ _ _ _ (resolved-twice bs a.environment ready.acyclic) (resolved-twice bs a.predicate ready.acyclic)

  -- an answer leaves of the table what it left of it before the interner grew
  pub left-later : (vs : List Value) (g : GoalTrees) (a : AnswerTrees) → vs ≡ values_in g → put_into (table_trees old t) (values_in g) a ≡ put_into (table_trees new t) vs a
  left-later vs g a e = same-left _ _ _ _ a (sym (table-kept old new k t ready)) (sym e)

-- what the goal's variables stand for, over the interner that has grown
pub record AreLater (new : List Entry) (ys : List GenericArgKind) (ls : List Label) : Type 0 where
  pub args : ArgsHeld new ys
  pub leaves : AreLeaves new ys
  pub labels_are : labels new ys ≡ ls

pub values-later : (old new : List Entry) → Keeps old new → (xs ys : List GenericArgKind) → ys ≡ xs → (ls : List Label) → ArgsHeld old xs → AreLeaves old xs → labels old xs ≡ ls → AreLater new ys ls
values-later old new k xs ys e ls a l q =
    subst (λ z. AreLater new z ls) (sym e)
    (record { args = args-held-later old new k xs a; leaves = leaves-later old new k xs l; labels_are = labels-later old new k xs l ∙ q })
