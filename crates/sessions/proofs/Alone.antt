-- References asked over a table without values.
use Rattle.std.proofs.Common.{◌≡◌, ℕ, ◌≤◌, arith, List, [], map, Result, Ok, Err, sym, ap, ◌∙◌, subst}
use Rattle.std.specs.Prelude.{OnOk}
use Rattle.type_terms.specs.Promised.Label.{of_type, of_const, of_trait, predicate}
use Rattle.type_terms.specs.Promised.Trees.{Trees, none, tree}
use Rattle.type_terms.specs.Promised.Worlds.{Reference}
use Rattle.type_terms.specs.Promised.Handles.{Entry, Keeps, Has, trees_at}
use Rattle.type_terms.specs.Terms.{Lawful, args_lists}
use Rattle.term_folds.specs.Arguments.{arg_sort}
use Rattle.type_terms.specs.Kept.{has-later, trees-later}
use Rattle.term_folds.specs.declared.predicate.TraitRef.{TraitRef}
use Rattle.declarations.specs.Items.{reference_in}
use Rattle.infer_table.specs.Canonical.{GoalTrees, CanonicalForm, HasNoCanonical, canonical_form}
use Rattle.infer_table.specs.Content.{Table, content, variables_of}
use Rattle.infer_table.specs.Covers.{AreKnown, IsOfKnown}
use Rattle.infer_table.specs.Goals.{goal_trees, goal_resolved, environment_trees}
use Rattle.infer_table.specs.Inputs.{IsWithoutCanonical}
use Rattle.infer_table.specs.Solutions.{Assignment, Solves}
use Rattle.infer_table.specs.declared.certainty.TypingMode.{TypingMode}
use Rattle.infer_table.specs.declared.certainty.TypingMode.TheVariants.{Coherence}
use Rattle.infer_table.specs.declared.goal.Goal.{Goal}
use Rattle.goal_evaluator.specs.Handler.{Handled}
use Rattle.goal_evaluator.specs.Tables.{frame_tables}
use Rattle.solver_graph.specs.Contexts.{Asked}
use Rattle.solver_graph.specs.Roots.{goal_in, fact_under, IsPosedGoal, AtProvedSolutions}
use Rattle.text_language.specs.Promised.Declarations.{Question}
use Rattle.text_lowering.specs.Promised.SeenWorlds.{unbound_reference}
use Rattle.text_lowering.specs.Questions.{IsLowered}
use Rattle.text_lowering.specs.declared.question.LoweredQuestion.{LoweredQuestion}
use Rattle.text_lowering.specs.Promised.Questions.{variable_kinds}
use Rattle.text_lowering.specs.QuestionVariables.{number_of, HasVariablesAlone}
use Rattle.sessions.specs.Asking.{HasNoProof, goal_alone}
use Rattle.sessions.specs.Tables.{table_of}
use Rattle.sessions.proofs.Posed.{no-canonical, known}
use Rattle.sessions.proofs.VariableKinds.{kinds-are}

-- ---- the goal
pub same-goal : (a b p r : Trees) → a ≡ b → p ≡ r → (let g : GoalTrees = record { environment = a; predicate = p } in g) ≡ record { environment = b; predicate = r }
same-goal a b p r e f = cc

pub alone-is : (es : List Entry) (goal : Goal) (r : TraitRef) → goal.param_env.items ≡ [] → goal.predicate.trait_ref ≡ r → goal_trees es goal ≡ goal_alone (reference_in es r)
alone-is es goal r e f = same-goal _ _ _ _ (ap (environment_trees es) e) (ap (λ (z : TraitRef). tree (predicate (of_trait z.def_id.index)) (trees_at es z.args.0) none) f)

module _ (es : List Entry) (t : Table) (goal : Goal) (g : GoalTrees) (no_values : t.values ≡ []) (is : goal_trees es goal ≡ g) where
  pub resolved-is : goal_in es t goal ≡ g
  resolved-is = ap (λ vs. goal_resolved (content es vs) (goal_trees es goal)) no_values ∙ is

  -- what is said of what was asked is said of the reference alone
  pub asked-is : (P : Asked → Type 0) → P (Coherence, canonical_form (goal_in es t goal)) → P (Coherence, canonical_form g)
  asked-is P x = subst (λ z. P (Coherence, canonical_form z)) resolved-is x

  pub no-proof : (handled : TypingMode → CanonicalForm → Handled frame_tables) → AtProvedSolutions handled Coherence es t goal (λ s. ⊥) → HasNoCanonical g.environment → HasNoCanonical g.predicate
      → AreKnown (variables_of t) g.environment → AreKnown (variables_of t) g.predicate → HasNoProof handled g
  no-proof handled at a b j k x s so p =
      subst (λ z. let h = handled Coherence (canonical_form z) in (y : h.World) (r : Assignment) → Solves r (content es t.values) → h.Proves y (fact_under r (goal_trees es goal)) → ⊥) resolved-is
      (at posed) x s (subst (λ vs. Solves s (content es vs)) (sym no_values) so) (subst (λ z. (handled Coherence (canonical_form g)).Proves x (fact_under s z)) (sym is) p)
    where
      posed : IsPosedGoal es t goal
      posed = record {
        clean = subst IsWithoutCanonical (sym resolved-is) (record { environment = a; predicate = b });
        environment_known = subst (λ (z : GoalTrees). AreKnown (variables_of t) z.environment) (sym resolved-is) j;
        predicate_known = subst (λ (z : GoalTrees). AreKnown (variables_of t) z.predicate) (sym resolved-is) k;
        table_known = subst (λ vs. IsOfKnown (variables_of t) (content es vs)) (sym no_values) (λ r q c d e. d);
      }

-- ---- the table
enough : (n k : ℕ) → n ≡ k → k ≤ n
enough n k e = omega (arith, e)

-- ---- a question's reference, which speaks of its variables alone
module _ (q : Question) (old new : List Entry) (law : Lawful old) (k : Keeps old new) (l : LoweredQuestion) (low : IsLowered old q l) where
  pub held-there : Has new args_lists l.asked.args.0
  held-there = has-later old new k args_lists l.asked.args.0 low.asked_held

  pub reference-is : reference_in new l.asked ≡ unbound_reference q.asked
  reference-is = ap (λ z. (let r : Reference = record { trait = l.asked.def_id.index; args = z } in r)) (trees-later old new k args_lists l.asked.args.0 low.asked_held) ∙ low.asked

  module _ (own : HasVariablesAlone q) where
    pub clean-there : HasNoCanonical (reference_in new l.asked).args
    clean-there = subst (λ (r : Reference). HasNoCanonical r.args) (sym reference-is) (no-canonical (variable_kinds q) (unbound_reference q.asked).args own.0)

    pub known-there : (t : Table) → t ≡ table_of (map arg_sort l.unknowns.items) → AreKnown (variables_of t) (reference_in new l.asked).args
    known-there t made =
        let is : t ≡ table_of (variable_kinds q) = made ∙ ap table_of (kinds-are old law l.unknowns.items q.variables 0 0 low.unknowns_held low.unknowns) in
        subst (λ (r : Reference). AreKnown (variables_of t) r.args) (sym reference-is)
        (known (variable_kinds q) (variables_of t) (enough t.ty_vars (number_of of_type (variable_kinds q)) (ap (λ (u : Table). u.ty_vars) is))
        (enough t.const_vars (number_of of_const (variable_kinds q)) (ap (λ (u : Table). u.const_vars) is)) (unbound_reference q.asked).args own.0)

    pub refused-there : (first second : TypingMode → CanonicalForm → Handled frame_tables) → second ≡ first → HasNoProof second (goal_alone (reference_in new l.asked)) → HasNoProof first (goal_alone (unbound_reference q.asked))
    refused-there first second e h = subst (λ z. HasNoProof z (goal_alone (unbound_reference q.asked))) e (subst (λ r. HasNoProof second (goal_alone r)) reference-is h)

-- what holds is so where a call returns
pub on-ok : {T E : Type 0} (r : Result T E) (P : Type 0) → P → OnOk r P
on-ok (Ok x) P p = p
on-ok (Err e) P p = tt

pub on-map : {T E : Type 0} (r : Result T E) (P Q : Type 0) → (P → Q) → OnOk r P → OnOk r Q
on-map (Ok x) P Q f p = f p
on-map (Err e) P Q f p = tt

-- what holds of things holds of their equals
pub moved : {A B : Type 0} (P : A → B → Type 0) (a b : A) (x y : B) → a ≡ b → x ≡ y → P a x → P b y
moved P a b x y e f h = subst (λ z. P z y) e (subst (P a) f h)
