-- Askings, one after the other.
use Rattle.std.proofs.Common.{◌≡◌, ◌∙◌, Bool, true, false, ◌&&◌, not, refl, sym, ap, subst, List, Some, Result, Ok}
use Rattle.type_terms.specs.Promised.Handles.{Entry, Keeps}
use Rattle.search_graph.specs.SearchState.{SearchState}
use Rattle.search_graph.proofs.Graphs.{Keeps-trans}
use Rattle.infer_table.specs.Certainties.{is_certain}
use Rattle.infer_table.specs.Content.{Table, content, Ready}
use Rattle.infer_table.specs.Goals.{GoalHeld, goal_trees}
use Rattle.infer_table.specs.Growth.{grows-trans}
use Rattle.infer_table.specs.Inputs.{IsWithoutCanonical}
use Rattle.infer_table.specs.Kept.{content-kept}
use Rattle.infer_table.specs.Responses.{AnswerTrees}
use Rattle.infer_table.specs.Solutions.{Assignment, Solves}
use Rattle.infer_table.specs.WithoutCanonical.{HaveNoCanonical}
use Rattle.infer_table.specs.declared.certainty.Certainty.{Certainty}
use Rattle.infer_table.specs.declared.certainty.Certainty.TheVariants.{Yes, Maybe}
use Rattle.infer_table.specs.declared.goal.Goal.{Goal}
use Rattle.infer_table.proofs.Numbers.{goal-trees-later}
use Rattle.infer_table.proofs.WithoutCanonical.{resolving-keeps-out}
use Rattle.goal_evaluator.specs.Content.{Fact}
use Rattle.goal_evaluator.specs.Proof as Lists
use Rattle.goal_evaluator.specs.TableAnswers.{has_values}
use Rattle.goal_evaluator.specs.Tables.{frame_tables}
use Rattle.goal_evaluator.specs.declared.goal.HasChanged.TheVariants as Changed
use Rattle.goal_frames.specs.Searches.{is_yes_answer}
use Rattle.solver_graph.specs.Changes.{changed}
use Rattle.solver_graph.specs.Contexts.{entries_of}
use Rattle.solver_graph.specs.RootEvaluations.{KnownResults}
use Rattle.solver_graph.specs.Roots.{fact_under, SolutionsAreProved}
use Rattle.solver_graph.specs.Searching.{solver_meaning}
use Rattle.solver_graph.specs.declared.context.SolverCx.{SolverCx}
use Rattle.goal_frames.specs.Meanings.{HandlerMeaning}
use Rattle.solver_graph.specs.Settling.{HasAsked, IsProvedBy}
use Rattle.type_terms.proofs.BooleanBasics.{no-and as and-false}

-- ---- answers that are no definite yes
values-true : (b : Bool) → changed b ≡ Changed.Yes → b ≡ true
values-true true e = refl
values-true false e = cc

pub not-definite-changed : (a : AnswerTrees) → changed (has_values a) ≡ Changed.Yes → is_yes_answer frame_tables (Some a) ≡ false
not-definite-changed a e = ap (λ b. is_certain a.certainty && not b) (values-true (has_values a) e) ∙ and-false (is_certain a.certainty)

unsure : (c : Certainty) (b : Bool) → (c ≡ Yes → ⊥) → is_certain c && b ≡ false
unsure Yes b n = absurd (n refl)
unsure (Maybe cause) b n = refl

pub not-definite-unsure : (a : AnswerTrees) → (a.certainty ≡ Yes → ⊥) → is_yes_answer frame_tables (Some a) ≡ false
not-definite-unsure a n = unsure a.certainty (not (has_values a)) n

pub ok-same : {A E : Type 0} {x y : A} → ◌≡◌ {A = Result A E} (Ok x) (Ok y) → x ≡ y
ok-same e = cc

-- ---- a refusal leaves the table's content
same-content : (old new : List Entry) (t u : Table) → Keeps old new → Ready old t → u ≡ t → content new u.values ≡ content old t.values
same-content old new t u k r e = ap (λ (z : Table). content new z.values) e ∙ content-kept old new t.values k r.held

pub narrows-refused : (old new : List Entry) (t u : Table) → Keeps old new → Ready old t → u ≡ t → (s : Assignment) → Solves s (content new u.values) → Solves s (content old t.values)
narrows-refused old new t u k r e s h = subst (Solves s) (same-content old new t u k r e) h

pub clean-refused : (old new : List Entry) (t u : Table) → Keeps old new → Ready old t → u ≡ t → HaveNoCanonical (content old t.values) → HaveNoCanonical (content new u.values)
clean-refused old new t u k r e h = subst HaveNoCanonical (sym (same-content old new t u k r e)) h

module _ {Handler : Type 0} (handler : HandlerMeaning Handler) where
  abbrev Asked : SearchState → KnownResults → SolverCx Handler → Table → SearchState → KnownResults → SolverCx Handler → Table → Type 0
  Asked = HasAsked handler

  -- ---- nothing asked, and one run after the other
  pub asked-further : (f g h : SearchState) (ks ls ms : KnownResults) (c d e : SolverCx Handler) (t u v : Table)
      → Asked f ks c t g ls d u → Asked g ls d u h ms e v → Asked f ks c t h ms e v
  asked-further f g h ks ls ms c d e t u v a b = record {
    depth = b.depth ∙ a.depth;
    results = λ place x i. b.results place x (a.results place x i);
    consistent = λ i. b.consistent (a.consistent i);
    keeps = Keeps-trans (solver_meaning handler) c d e a.keeps b.keeps;
    entries = λ i x p. b.entries i x (a.entries i x p);
    grows = grows-trans t u v a.grows b.grows;
    narrows = λ s i. a.narrows s (b.narrows s i);
    clean = λ i. b.clean (a.clean i);
  }

  -- ---- what is proved later is proved
  pub proved-further : (w x : handler.goals.World) → x ≡ w → (f g : SearchState) (ks ls : KnownResults) (c d e : SolverCx Handler) (t u v : Table) (q : Goal) → GoalHeld (entries_of c) q
      → Asked f ks c t g ls d u → IsProvedBy handler x d u e v q → IsProvedBy handler w c t e v q
  proved-further w x same f g ks ls c d e t u v q held a p = λ no clean s solves.
      let trees : goal_trees (entries_of d) q ≡ goal_trees (entries_of c) q = goal-trees-later (entries_of c) (entries_of d) a.entries q held in
      subst (λ z. Lists.FactHasProof Fact (handler.goals.Rule z) (handler.goals.coinductive z) (fact_under s (goal_trees (entries_of c) q))) same
      (subst (λ z. Lists.FactHasProof Fact (handler.goals.Rule x) (handler.goals.coinductive x) (fact_under s z)) trees
      (p (a.clean no) (subst IsWithoutCanonical (sym trees) clean) s solves))

  -- ---- one asking
  pub proved-once : (w : handler.goals.World) (c d : SolverCx Handler) (t u : Table) (q : Goal) → ((s : Assignment) → Solves s (content (entries_of d) u.values) → Solves s (content (entries_of c) t.values))
      → SolutionsAreProved (handler.goals.Rule w) (handler.goals.coinductive w) (entries_of c) t q → IsProvedBy handler w c t d u q
  proved-once w c d t u q narrows p = λ no clean s solves. p (resolving-keeps-out (content (entries_of c) t.values) (goal_trees (entries_of c) q) no clean) s (narrows s solves)
