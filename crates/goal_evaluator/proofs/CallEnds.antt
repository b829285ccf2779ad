-- How the evaluating calls of a context end, after the rounds.
use Rattle.std.proofs.Common.{◌≡◌, List, [], refl, sym, ◌∙◌, ap, subst, Option, Some, None}
use Rattle.type_terms.specs.Promised.Handles.{Entry, Keeps}
use Rattle.infer_table.specs.Certainties.{joined}
use Rattle.infer_table.specs.Unification.{table_trees}
use Rattle.infer_table.specs.declared.certainty.Certainty.{Certainty}
use Rattle.infer_table.specs.declared.certainty.Certainty.TheVariants.{Yes, Maybe}
use Rattle.infer_table.specs.declared.certainty.MaybeCause.TheVariants.{Ambiguity, Overflow}
use Rattle.infer_table.specs.declared.certainty.TypingMode.{TypingMode}
use Rattle.infer_table.specs.declared.response.CanonicalResponse.{CanonicalResponse}
use Rattle.goal_evaluator.specs.Replays.{Run, ready, waits}
use Rattle.goal_evaluator.specs.Rounds.{Rounds}
use Rattle.infer_table.specs.Values.{values_of}
use Rattle.infer_table.specs.Responses.{AnswerTrees, answer_trees}
use Rattle.goal_evaluator.specs.Context.{Context, NestedGoal, NestedHeld, IsReadyContext}
use Rattle.goal_evaluator.specs.Evaluating.{AskedQuestion, goals_trees, evaluation}
use Rattle.goal_evaluator.specs.OwnAnswers.{OwnAnswerSays, answer_of}
use Rattle.goal_evaluator.specs.Ends.{EndsIn, ContextIsSettled, ContextIsAnswered}
use Rattle.goal_evaluator.specs.Steps.{SameRounds}
use Rattle.goal_evaluator.proofs.OwnAnswers.{same-answer}
use Rattle.goal_evaluator.proofs.Undone.{same-context}

abbrev RoundsRun : TypingMode → Type 0
RoundsRun mode = Run AskedQuestion (Option AnswerTrees) (Option (Rounds (evaluation mode)))

-- a context whose rounds ended stays ready without its replies
pub ready-settled : (es : List Entry) (mid new : Context) (left : List NestedGoal) → new ≡ record mid { nested = left; replies = [] } → IsReadyContext es mid → NestedHeld es left → IsReadyContext es new
ready-settled es mid new left e r h =
    let there : IsReadyContext es (record mid { nested = left; replies = [] }) = record { table = r.table; values = r.values; nested = h; replies = tt } in
    subst (IsReadyContext es) (sym e) there

says-rest : (old new : List Entry) (c : Context) (ns : List NestedGoal) (rs : List (Option CanonicalResponse)) (r : CanonicalResponse) (k : Certainty) → OwnAnswerSays old new c r k → OwnAnswerSays old new (record c { nested = ns; replies = rs }) r k
says-rest old new c ns rs r Yes h = record { held = h.held; form = h.form; values = h.values; constraints = h.constraints; agrees = h.agrees; numbered = h.numbered }
says-rest old new c ns rs r (Maybe Ambiguity) h = record { held = h.held; form = h.form; values = h.values; constraints = h.constraints; agrees = h.agrees; numbered = h.numbered }
says-rest old new c ns rs r (Maybe Overflow) h = record { held = h.held; variables = h.variables; values = h.values; constraints = h.constraints }

module _ (mode : TypingMode) (es : List Entry) (old mid new : Context) (left : List NestedGoal) (made : mid ≡ record old { table = mid.table }) (settled : new ≡ record mid { nested = left; replies = [] }) where
  rest : new ≡ record old { table = new.table; nested = new.nested; replies = [] }
  rest =
      same-context old.mode new.mode new.table new.table old.variables new.variables old.values new.values new.nested new.nested [] new.replies old.capacity new.capacity
      (ap (λ (c : Context). c.mode) settled ∙ ap (λ (c : Context). c.mode) made) refl (ap (λ (c : Context). c.variables) settled ∙ ap (λ (c : Context). c.variables) made)
      (ap (λ (c : Context). c.values) settled ∙ ap (λ (c : Context). c.values) made) refl (ap (λ (c : Context). c.replies) settled)
      (ap (λ (c : Context). c.capacity) settled ∙ ap (λ (c : Context). c.capacity) made)

  is-settled : (terms : List Entry) → table_trees es mid.table ≡ table_trees terms mid.table → goals_trees es left ≡ goals_trees terms left
      → (c : Certainty) (o : Rounds (evaluation mode)) → SameRounds mode terms mid.table left c o → ContextIsSettled mode es old new o
  is-settled terms t g c o h =
      record {
        table = h.table ∙ sym t ∙ ap (table_trees es) (sym (ap (λ (x : Context). x.table) settled));
        left = h.left_is ∙ sym g ∙ ap (goals_trees es) (sym (ap (λ (x : Context). x.nested) settled));
        rest = rest;
      }

  -- the context's own answer is given, made with further terms
  pub call-answered : (terms : List Entry) → Keeps terms es → table_trees es mid.table ≡ table_trees terms mid.table → goals_trees es left ≡ goals_trees terms left
      → values_of es mid.values ≡ values_of terms mid.values
      → (given c : Certainty) (answer : CanonicalResponse) (r : RoundsRun mode) → answer.certainty ≡ joined given c → OwnAnswerSays terms es mid answer (joined given c)
      → answer_trees es answer ≡ answer_of mid.variables (values_of terms mid.values) (table_trees terms mid.table) (joined given c)
      → EndsIn (λ o more. SameRounds mode terms mid.table left c o) r → EndsIn (λ o more. ContextIsAnswered mode es old new given answer o) r
  call-answered terms k t g v given c answer (ready None more) a s i h = absurd h
  call-answered terms k t g v given c answer (waits q) a s i h = absurd h
  call-answered terms k t g v given c answer (ready (Some o) more) a s i h =
      let said : OwnAnswerSays terms es new answer (joined given c) = subst (λ x. OwnAnswerSays terms es x answer (joined given c)) (sym settled) (says-rest terms es mid left [] answer (joined given c) s) in
      record {
        settled = is-settled terms t g c o h;
        certainty_is = a ∙ ap (joined given) (sym h.certainty_is);
        terms = terms;
        keeps = k;
        says = subst (λ x. OwnAnswerSays terms es new answer (joined given x)) (sym h.certainty_is) said;
        is = i
            ∙ same-answer _ _ _ _ _ _ _ _ (ap (λ (x : Context). x.variables) made) (sym v ∙ ap (λ (x : Context). values_of es x.values) made) (sym h.table)
            (ap (joined given) (sym h.certainty_is));
      }
