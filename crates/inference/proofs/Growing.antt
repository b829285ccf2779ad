-- Contexts that grow, and that are restored.
use Rattle.std.specs.List.{AllZip}
use Rattle.std.proofs.Common.{◌≡◌, ◌∙◌, arith, refl, sym, subst, List, [], ◌∷◌, ◌++◌, All}
use Rattle.std.proofs.lemmas.List.Elements.{All-same}
use Rattle.type_terms.specs.Promised.Handles.{Entry}
use Rattle.infer_table.specs.Content.{Ready, Table, content, variables_of}
use Rattle.infer_table.specs.Goals.{GoalHeld, goal_trees}
use Rattle.infer_table.specs.Growth.{grows-refl, grows-trans}
use Rattle.infer_table.specs.Solutions.{Solves}
use Rattle.search_graph.specs.SearchState.{SearchState}
use Rattle.goal_frames.specs.Meanings.{HandlerMeaning}
use Rattle.solver_graph.specs.Contexts.{entries_of}
use Rattle.solver_graph.specs.RootEvaluations.{KnownResults}
use Rattle.solver_graph.specs.declared.context.SolverCx.{SolverCx}
use Rattle.fulfillment.specs.Obligations.{HaveGrown, ObligationIsKept}
use Rattle.fulfillment.specs.Selecting.{DoneAreProved, IsProvedIn}
use Rattle.fulfillment.specs.declared.obligation.Obligation.{Obligation}
use Rattle.fulfillment.specs.declared.obligation.Standing.TheVariants.{Done}
use Rattle.overlap_check.proofs.Owning.{NoFewer}
use Rattle.inference.specs.Inferring.{CanInfer, GoalIsOver, HasGrownFrom, IsAsBefore, IsAskedFurther, ValuesAreOver}
use Rattle.inference.specs.declared.context.Infer.{Infer}
use Rattle.inference.proofs.Faithful.{all-kept, asked-nothing}

-- ---- obligations
pub grown-itself : (os : List Obligation) → HaveGrown os os
grown-itself [] = tt
grown-itself (o ∷ os) = (refl, grown-itself os)

pub grown-further : (os ps qs : List Obligation) → HaveGrown os ps → HaveGrown ps qs → HaveGrown os qs
grown-further [] ps qs a b = tt
grown-further (o ∷ os) [] qs a b = absurd a
grown-further (o ∷ os) (p ∷ ps) [] a b = absurd b
grown-further (o ∷ os) (p ∷ ps) (q ∷ qs) a b = (b.0 ∙ a.0, grown-further os ps qs a.1 b.1)

pub grown-kept : (os ps : List Obligation) → AllZip ObligationIsKept os ps → HaveGrown os ps
grown-kept [] [] z = tt
grown-kept [] (p ∷ ps) z = absurd z
grown-kept (o ∷ os) [] z = absurd z
grown-kept (o ∷ os) (p ∷ ps) z = (z.0.goal, grown-kept os ps z.1)

grown-with : (os more : List Obligation) → HaveGrown os (os ++ more)
grown-with [] more = tt
grown-with (o ∷ os) more = (refl, grown-with os more)

pub grown-added : (os more ps : List Obligation) → ps ≡ os ++ more → HaveGrown os ps
grown-added os more ps e = subst (HaveGrown os) (sym e) (grown-with os more)

pub grown-same : (os ps : List Obligation) → ps ≡ os → HaveGrown os ps
grown-same os ps e = subst (HaveGrown os) (sym e) (grown-itself os)

-- ---- contexts
pub itself : (i : Infer) → HasGrownFrom i i
itself i = record { table = grows-refl i.table; goals = grown-itself i.goals.obligations.items; mode = refl; limit = refl }

pub further : (i j k : Infer) → HasGrownFrom i j → HasGrownFrom j k → HasGrownFrom i k
further i j k a b = record {
  table = grows-trans i.table j.table k.table a.table b.table;
  goals = grown-further i.goals.obligations.items j.goals.obligations.items k.goals.obligations.items a.goals b.goals;
  mode = b.mode ∙ a.mode;
  limit = b.limit ∙ a.limit;
}

-- ---- a context that is as it was
module _ {Handler : Type 0} (handler : HandlerMeaning Handler) (f : SearchState) (ks : KnownResults) (c : SolverCx Handler) (i j : Infer) (can : CanInfer handler f ks c i) (same : IsAsBefore i j) where
  abbrev es : List Entry
  es = entries_of c

  goals-same : (P : Obligation → Type 0) → All P i.goals.obligations.items → All P j.goals.obligations.items
  goals-same P h = All-same P j.goals.obligations.items i.goals.obligations.items same.goals h

  pub can-before : CanInfer handler f ks c j
  can-before = record {
    select =
        record {
          empty = can.select.empty;
          cache = can.select.cache;
          ready = can.select.ready;
          table = subst (Ready es) (sym same.table) can.select.table;
          goals = goals-same (λ (o : Obligation). GoalHeld es o.goal) can.select.goals;
        };
    values = subst (λ (t : Table). ValuesAreOver (variables_of t) (content es t.values)) (sym same.table) can.values;
    goals =
        goals-same (λ (o : Obligation). GoalIsOver (variables_of j.table) (goal_trees es o.goal))
        (subst (λ (t : Table). All (λ (o : Obligation). GoalIsOver (variables_of t) (goal_trees es o.goal)) i.goals.obligations.items) (sym same.table) can.goals);
  }

  pub faithful-before : IsAskedFurther handler [] c i c j
  faithful-before =
      asked-nothing handler c c i j refl (λ n e h. h) same.mode (subst (AllZip ObligationIsKept i.goals.obligations.items) (sym same.goals) (all-kept i.goals.obligations.items)) can.select.goals
      (subst (λ (t : Table). NoFewer (variables_of i.table) (variables_of t)) (sym same.table) (λ k. omega arith))
      (λ s h. subst (λ (t : Table). Solves s (content es t.values)) same.table h)
      (λ h. goals-same (λ (o : Obligation). o.standing ≡ Done → IsProvedIn handler c j.table o.goal)
      (subst (λ (t : Table). DoneAreProved handler c t i.goals.obligations.items) (sym same.table) h))
      (λ own asked faithful s h. let x = faithful.covers s h in (x.0, x.1, subst (λ (t : Table). Solves x.0 (content es t.values)) (sym same.table) x.2))
