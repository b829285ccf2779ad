-- What is known of an answer to goals that were selected over a table without values.
use Rattle.std.specs.Prelude.{All}
use Rattle.std.specs.List.{AllZip}
use Rattle.std.proofs.Common.{◌≡◌, ℕ, true, false, List, [], ◌∷◌, map, refl, sym, ap, ◌∙◌, subst}
use Rattle.std.proofs.lemmas.List.Elements.{All-nil, All-cons, All-head, All-tail}
use Rattle.type_terms.specs.Promised.Handles.{ArgsHeld, Entry, Has, Keeps, arg_trees}
use Rattle.type_terms.specs.Promised.Label.{Sort, of_trait}
use Rattle.type_terms.specs.Promised.Proofs.{Every}
use Rattle.type_terms.specs.Promised.Trees.{Trees}
use Rattle.type_terms.specs.Terms.{Lawful, args_lists}
use Rattle.type_terms.specs.declared.kinds.GenericArgKind.{GenericArgKind}
use Rattle.type_terms.specs.Kept.{arg-trees-later}
use Rattle.type_terms.proofs.ListBasics.{two}
use Rattle.type_terms.proofs.Made.{false-true}
use Rattle.term_folds.specs.declared.predicate.TraitRef.{TraitRef}
use Rattle.declarations.specs.Applied.{TraitRefsHeld, references_in}
use Rattle.declarations.specs.Items.{reference_in}
use Rattle.declarations.proofs.Bounded.{all-same}
use Rattle.infer_table.specs.Canonical.{GoalTrees}
use Rattle.infer_table.specs.Content.{Table, content}
use Rattle.infer_table.specs.Goals.{GoalHeld, goal_trees}
use Rattle.infer_table.specs.Unification.{table_trees}
use Rattle.infer_table.specs.declared.goal.Goal.{Goal}
use Rattle.infer_table.specs.Inputs.{IsWithoutCanonical}
use Rattle.infer_table.specs.Solutions.{Binding, resolved}
use Rattle.infer_table.specs.WithoutCanonical.{HaveNoCanonical}
use Rattle.infer_table.specs.declared.certainty.TypingMode.{TypingMode}
use Rattle.infer_table.specs.declared.certainty.TypingMode.TheVariants.{PostAnalysis}
use Rattle.search_graph.specs.SearchState.{SearchState}
use Rattle.goal_evaluator.specs.Content.{Fact}
use Rattle.goal_evaluator.specs.Proof as Lists
use Rattle.goal_frames.specs.Meanings.{HandlerMeaning}
use Rattle.solver_graph.specs.Contexts.{entries_of}
use Rattle.solver_graph.specs.RootEvaluations.{KnownResults}
use Rattle.solver_graph.specs.Roots.{fact_under}
use Rattle.solver_graph.specs.declared.context.SolverCx.{SolverCx}
use Rattle.fulfillment.specs.Leaving.{GoalsLeave}
use Rattle.fulfillment.specs.Obligations.{ObligationIsKept, ObligationsHeld, trees_of_goals}
use Rattle.fulfillment.specs.Selecting.{CanSelect, DoneAreProved, HasSelected, IsProvedIn, ObligationIsRefused}
use Rattle.fulfillment.specs.declared.obligation.Obligation.{Obligation}
use Rattle.fulfillment.specs.declared.obligation.ObligationId.{ObligationId}
use Rattle.fulfillment.specs.declared.obligation.Standing.TheVariants.{Done}
use Rattle.fulfillment.proofs.Lists.{contains-map}
use Rattle.candidate_assembly.specs.Solving.{Solving}
use Rattle.candidate_assembly.specs.SolverMeaning.{solver_by_view}
use Rattle.sessions.specs.Goals.{goal_of}
use Rattle.sessions.specs.Proved.{fact_with_values}
use Rattle.sessions.specs.Proving.{AreValuesOf}
use Rattle.sessions.specs.ProvingTogether.{AreAllReadOff, AreAnswered, AreObligationsFor, HaveLeftValues, IsObligationFor, IsOneRefused, IsProvedWithValues, IsUnbound}
use Rattle.sessions.specs.Questions.{ReferencesAreGoals}
use Rattle.sessions.specs.Tables.{table_of}
use Rattle.sessions.specs.declared.answers.ProveAnswer.{ProveAnswer}
use Rattle.sessions.specs.declared.answers.ProveAnswer.TheVariants.{Yes, Maybe, Unproved}
use Rattle.sessions.proofs.Answered.{bound-below}
use Rattle.sessions.proofs.Posing.{goal-held}
use Rattle.sessions.proofs.Proved.{values-are-proved}

-- ---- obligations for trait references under where-clauses
module _ (law : ReferencesAreGoals) (es : List Entry) (clauses : List TraitRef) where
  abbrev goals_in : List TraitRef → List GoalTrees
  goals_in rs = map (goal_of (references_in es clauses)) (references_in es rs)

  -- their goals
  goal-is : (r : TraitRef) (o : Obligation) → IsObligationFor clauses r o → goal_trees es o.goal ≡ goal_of (references_in es clauses) (reference_in es r)
  goal-is r o h = law es o.goal clauses r h.clauses_are h.asked

  pub goals-are : (rs : List TraitRef) (os : List Obligation) → AreObligationsFor clauses rs os → trees_of_goals es os ≡ goals_in rs
  goals-are [] [] h = refl
  goals-are [] (o ∷ os) h = absurd h
  goals-are (r ∷ rs) [] h = absurd h
  goals-are (r ∷ rs) (o ∷ os) h = ap (λ g. g ∷ trees_of_goals es os) (goal-is r o h.0) ∙ ap (λ gs. goal_of (references_in es clauses) (reference_in es r) ∷ gs) (goals-are rs os h.1)

  one-held : (r : TraitRef) (o : Obligation) → IsObligationFor clauses r o → TraitRefsHeld es clauses → Has es args_lists r.args.0 → GoalHeld es o.goal
  one-held r o h cs held = goal-held es o.goal clauses cs h.clauses_are (subst (λ (x : TraitRef). Has es args_lists x.args.0) (sym h.asked) held)

  pub goals-held : (rs : List TraitRef) (os : List Obligation) → AreObligationsFor clauses rs os → TraitRefsHeld es clauses → TraitRefsHeld es rs → ObligationsHeld es os
  goals-held [] [] h cs held = All-nil (λ (o : Obligation). GoalHeld es o.goal)
  goals-held [] (o ∷ os) h cs held = absurd h
  goals-held (r ∷ rs) [] h cs held = absurd h
  goals-held (r ∷ rs) (o ∷ os) h cs held = All-cons (λ (x : Obligation). GoalHeld es x.goal) o os (one-held r o h.0 cs held.0) (goals-held rs os h.1 cs held.1)

  -- no canonical variable stands in them
  goals-clean : (rs : List TraitRef) (os : List Obligation) → AreObligationsFor clauses rs os → Every IsWithoutCanonical (goals_in rs) → All (λ (o : Obligation). IsWithoutCanonical (goal_trees es o.goal)) os
  goals-clean [] [] h clean = All-nil (λ (o : Obligation). IsWithoutCanonical (goal_trees es o.goal))
  goals-clean [] (o ∷ os) h clean = absurd h
  goals-clean (r ∷ rs) [] h clean = absurd h
  goals-clean (r ∷ rs) (o ∷ os) h clean =
      All-cons (λ (x : Obligation). IsWithoutCanonical (goal_trees es x.goal)) o os (subst IsWithoutCanonical (sym (goal-is r o h.0)) clean.0) (goals-clean rs os h.1 clean.1)

-- none was evaluated
none-done : {Handler : Type 0} (handler : HandlerMeaning Handler) (c : SolverCx Handler) (t : Table) (clauses rs : List TraitRef) (os : List Obligation) → AreObligationsFor clauses rs os → DoneAreProved handler c t os
none-done handler c t clauses [] [] h = All-nil (λ (o : Obligation). o.standing ≡ Done → IsProvedIn handler c t o.goal)
none-done handler c t clauses [] (o ∷ os) h = absurd h
none-done handler c t clauses (r ∷ rs) [] h = absurd h
none-done handler c t clauses (r ∷ rs) (o ∷ os) h =
    All-cons (λ (x : Obligation). x.standing ≡ Done → IsProvedIn handler c t x.goal) o os (λ e. absurd (h.0.fresh e)) (none-done handler c t clauses rs os h.1)

-- ---- a selection
module _ {Handler : Type 0} (handler : HandlerMeaning Handler) (law : ReferencesAreGoals) (ks : List Sort) (c : SolverCx Handler) (t : Table) (table_is : t ≡ table_of ks) (clauses rs : List TraitRef)
    (os : List Obligation) (for_them : AreObligationsFor clauses rs os) where
  abbrev w : handler.goals.World
  w = handler.world c.handler (entries_of c)

  abbrev gs : List GoalTrees
  gs = goals_in law (entries_of c) clauses rs

  trees-are : trees_of_goals (entries_of c) os ≡ gs
  trees-are = goals-are law (entries_of c) clauses rs os for_them

  -- what is refused
  module _ (mode : TypingMode) (graph : SearchState) (id : ObligationId) where
    refused-first : ObligationIsRefused handler mode graph c (table_of ks) os id → IsOneRefused handler mode w graph.root_depth ks (trees_of_goals (entries_of c) os)
    refused-first h = (goal_trees (entries_of c) h.0.goal, contains-map (λ (x : Obligation). goal_trees (entries_of c) x.goal) os id.index h.0 h.1, h.2)

    pub one-refused : ObligationIsRefused handler mode graph c t os id → IsOneRefused handler mode w graph.root_depth ks gs
    one-refused h =
        subst (λ (goals : List GoalTrees). IsOneRefused handler mode w graph.root_depth ks goals) trees-are (refused-first (subst (λ (x : Table). ObligationIsRefused handler mode graph c x os id) table_is h))

  -- ---- what the table that is left gives
  module _ (graph graph_left : SearchState) (known left_known : KnownResults) (d : SolverCx Handler) (u : Table) (ps : List Obligation)
      (selected : HasSelected handler PostAnalysis graph known c t os graph_left left_known d u ps) (again : CanSelect handler graph_left left_known d u ps)
      (us : List GenericArgKind) (us_held : ArgsHeld (entries_of c) us) (fs : List Entry) where
    abbrev kept_entries : Keeps (entries_of c) (entries_of d)
    kept_entries = selected.asked.entries

    abbrev bs : List Binding
    bs = content (entries_of d) u.values

    given-first : (vs : List GenericArgKind) → ArgsHeld (entries_of c) vs → map (λ v. resolved bs (arg_trees (entries_of d) v)) vs ≡ map (λ x. resolved bs x) (map (arg_trees (entries_of c)) vs)
    given-first [] h = refl
    given-first (v ∷ vs) h = two (ap (resolved bs) (arg-trees-later (entries_of c) (entries_of d) kept_entries v h.0)) (given-first vs h.1)

    covers : GoalsLeave handler PostAnalysis w gs (table_trees [] (table_of ks)) (table_trees (entries_of d) u)
    covers =
        subst (λ (goals : List GoalTrees). GoalsLeave handler PostAnalysis w goals (table_trees [] (table_of ks)) (table_trees (entries_of d) u)) trees-are
        (subst (λ (x : Table). GoalsLeave handler PostAnalysis w (trees_of_goals (entries_of c) os) (table_trees (entries_of c) x) (table_trees (entries_of d) u)) table_is selected.covers)

    values-left : (values : List GenericArgKind) → AreValuesOf (entries_of d) u us fs values → HaveLeftValues handler w ks gs (map (arg_trees (entries_of c)) us) (map (arg_trees fs) values)
    values-left values h = record { entries = entries_of d; table = u; ready = again.table; are = h ∙ given-first us us_held; left = covers }

    -- if not all goals are proved
    pub read-open : (depth : ℕ) (a : ProveAnswer) → AreAllReadOff false (entries_of d) u (references_in (entries_of d) rs) us fs a → AreAnswered handler w depth ks gs (map (arg_trees (entries_of c)) us) fs a
    read-open depth (Yes values) h = absurd (false-true h.1)
    read-open depth (Maybe values) h = values-left values.items h
    read-open depth Unproved h = absurd h

    -- ---- where all are proved
    module _ (lawful : Lawful (entries_of d)) (clauses_held : TraitRefsHeld (entries_of c) clauses) (references_held : TraitRefsHeld (entries_of c) rs)
        (all_done : All (λ (o : Obligation). o.standing ≡ Done) ps) where
      abbrev there : handler.goals.World
      there = handler.world d.handler (entries_of d)

      abbrev Proof : Fact → Type 0
      Proof f = Lists.FactHasProof Fact (handler.goals.Rule there) (handler.goals.coinductive there) f

      abbrev IsProvedThere : GoalTrees → Type 0
      IsProvedThere g = IsProvedWithValues handler there (entries_of d) u g

      one-proved : (r : TraitRef) (o p : Obligation) → IsObligationFor clauses r o → p.goal ≡ o.goal → IsProvedIn handler d u p.goal → GoalHeld (entries_of d) p.goal
          → IsUnbound (entries_of d) u (reference_in (entries_of d) r) → IsProvedThere (goal_of (references_in (entries_of d) clauses) (reference_in (entries_of d) r))
      one-proved r o p for_it same proved held unbound =
          let is = law (entries_of d) p.goal clauses r (ap (λ (g : Goal). g.param_env.items) same ∙ for_it.clauses_are) (ap (λ (g : Goal). g.predicate.trait_ref) same ∙ for_it.asked) in
          record {
            unbound = bound-below bs (of_trait r.def_id.index) (reference_in (entries_of d) r).args false unbound;
            proved =
                subst (λ g. Proof (fact_with_values bs g)) is
                (values-are-proved (handler.goals.Rule there) (handler.goals.coinductive there) (entries_of d) u p.goal lawful again.table held proved);
            solved = λ s h. subst (λ g. Proof (fact_under s g)) is (proved s h);
          }

      each-proved : (xs : List TraitRef) (before qs : List Obligation) → AreObligationsFor clauses xs before → AllZip ObligationIsKept before qs → All (λ (o : Obligation). o.standing ≡ Done → IsProvedIn handler d u o.goal) qs
          → All (λ (o : Obligation). o.standing ≡ Done) qs → ObligationsHeld (entries_of d) qs → Every (IsUnbound (entries_of d) u) (references_in (entries_of d) xs) → Every IsProvedThere (goals_in law (entries_of d) clauses xs)
      each-proved [] before qs h k p e held unbound = tt
      each-proved (r ∷ xs) [] qs h k p e held unbound = absurd h
      each-proved (r ∷ xs) (o ∷ before) [] h k p e held unbound = absurd k
      each-proved (r ∷ xs) (o ∷ before) (q ∷ qs) h k p e held unbound = (
        one-proved r o q h.0 k.0.goal
            (All-head (λ (x : Obligation). x.standing ≡ Done → IsProvedIn handler d u x.goal) q qs p (All-head (λ (x : Obligation). x.standing ≡ Done) q qs e))
            (All-head (λ (x : Obligation). GoalHeld (entries_of d) x.goal) q qs held)
            unbound.0,
        each-proved xs before qs h.1 k.1
            (All-tail (λ (x : Obligation). x.standing ≡ Done → IsProvedIn handler d u x.goal) q qs p)
            (All-tail (λ (x : Obligation). x.standing ≡ Done) q qs e)
            (All-tail (λ (x : Obligation). GoalHeld (entries_of d) x.goal) q qs held)
            unbound.1,
      )

      clean-table : HaveNoCanonical (content (entries_of c) t.values)
      clean-table = subst (λ (x : Table). HaveNoCanonical (content (entries_of c) x.values)) (sym table_is) tt

      same-goals : goals_in law (entries_of d) clauses rs ≡ gs
      same-goals =
          ap (λ E. map (goal_of E) (references_in (entries_of d) rs)) (all-same (entries_of c) (entries_of d) kept_entries clauses clauses_held)
          ∙ ap (map (goal_of (references_in (entries_of c) clauses))) (all-same (entries_of c) (entries_of d) kept_entries rs references_held)

      all-proved : Every (IsUnbound (entries_of d) u) (references_in (entries_of d) rs) → Every IsWithoutCanonical gs → Every (IsProvedWithValues handler w (entries_of d) u) gs
      all-proved unbound clean =
          let done = selected.done (record { table = clean-table; goals = goals-clean law (entries_of c) clauses rs os for_them clean }) (none-done handler c t clauses rs os for_them) in
          subst (λ (x : handler.goals.World). Every (IsProvedWithValues handler x (entries_of d) u) gs) selected.asked.keeps.world
          (subst (Every IsProvedThere) same-goals (each-proved rs os ps for_them selected.kept done all_done again.goals unbound))

      pub read-proved : (depth : ℕ) (a : ProveAnswer) → AreAllReadOff true (entries_of d) u (references_in (entries_of d) rs) us fs a → AreAnswered handler w depth ks gs (map (arg_trees (entries_of c)) us) fs a
      unfolding values-left
      read-proved depth (Yes values) h = record { found = values-left values.items h.0; each = all-proved h.2 }
      read-proved depth (Maybe values) h = values-left values.items h
      read-proved depth Unproved h = absurd h

-- what is equal is answered in the same way
pub answered-same : (s z : Solving) (depth : ℕ) (ks js : List Sort) (gs hs : List GoalTrees) (us vs : List Trees) (es : List Entry) (a : ProveAnswer) → s ≡ z → ks ≡ js → gs ≡ hs → us ≡ vs
    → AreAnswered solver_by_view s depth ks gs us es a → AreAnswered solver_by_view z depth js hs vs es a
answered-same s z depth ks js gs hs us vs es a e k g u h =
    subst (λ (x : Solving). AreAnswered solver_by_view x depth js hs vs es a) e
    (subst (λ x. AreAnswered solver_by_view s depth x hs vs es a) k
    (subst (λ (x : List GoalTrees). AreAnswered solver_by_view s depth ks x vs es a) g (subst (λ x. AreAnswered solver_by_view s depth ks gs x es a) u h)))
