-- The solver's candidates for a goal without unknowns are its direct ways, but for order and repeats; so what the solver answers is right
-- where by these there is one way at most at each step.
use Rattle.std.proofs.Common.{◌≡◌, ◌≤◌, ℕ, suc, ◌==◌, Bool, true, false, ◌||◌, not, if◌then◌else◌, List, [], ◌∷◌, ◌++◌, Option, refl, sym, ◌∙◌, ap, subst, Some, None}
use Rattle.std.specs.List.{flat_map, list_any}
use Rattle.type_terms.specs.Promised.Label.{dynamic}
use Rattle.type_terms.specs.Promised.Trees.{Trees, none, tree}
use Rattle.type_terms.specs.Promised.Worlds.{World, Reference}
use Rattle.type_terms.specs.Promised.Rules.{Rule, rules, principal_with, autos_with, are_dyn_compatible, by_clause, impl_rules, clause_rules, same_reference, sized, copy, clone, tuple_trait, fn_ptr_trait, is_fn_trait, unsize, is_auto, sized_rules, copy_rules, auto_rules, tuple_rules, fn_ptr_rules, call_rules, unsize_rules, unsize_array_rules, unsize_to_dyn_rules, unsize_upcast_rules, unsize_struct_rules, object_rules}
use Rattle.type_terms.proofs.Walking.{both}
use Rattle.infer_table.specs.Canonical.{CanonicalForm}
use Rattle.infer_table.specs.Responses.{AnswerTrees}
use Rattle.infer_table.specs.declared.certainty.TypingMode.TheVariants.{PostAnalysis}
use Rattle.goal_evaluator.specs.declared.candidate.CandidateSource.{CandidateSource}
use Rattle.goal_evaluator.specs.Lists.{Every}
use Rattle.goal_evaluator.specs.Operations.{is_yes}
use Rattle.goal_evaluator.specs.Table.{operations}
use Rattle.goal_evaluator.proofs.Basics.{every-append}
use Rattle.goal_evaluator.proofs.ListLaws.{Every-mono}
use Rattle.declarations.specs.Promised.Elaboration.{elaborate, supertraits}
use Rattle.goal_evaluator.specs.Content.{Values, Fact, NestedQuestion, fact_of}
use Rattle.goal_evaluator.specs.FrameTables.{kinds_known}
use Rattle.goal_evaluator.specs.TableOperations.{begin}
use Rattle.goal_evaluator.specs.Tables.{frame_tables}
use Rattle.goal_evaluator.proofs.FrameTableLaws.{tables_are_lawful}
use Rattle.goal_evaluator.proofs.TableBeginning.{begin-made}
use Rattle.goal_frames.specs.Programs.{ArePrograms}
use Rattle.goal_frames.specs.Searches.{Handles, GoalInMode as AskedGoal}
use Rattle.candidate_model.specs.Facts.{is_plain, clauses_of, reference_in}
use Rattle.candidate_model.specs.Meaning.{ViewMeaning}
use Rattle.candidate_model.specs.DeclaredWell.{IsDeclaredWell}
use Rattle.candidate_model.specs.Asking.{GoalOverKinds, goal_over_kinds, clauses, self_of, next_of, begins_unknown}
use Rattle.candidate_model.specs.Candidates.{Candidate, unsure, by_clauses, built_in, by_sized, by_copy, by_auto, by_tuple, by_fn_ptr, by_call, by_unsize, by_impls, by_objects, as_written, misc, if_so, unsize_known, unsizing_outlives, unsize_recording, unsize_array_of, upcasts_of, unsize_struct_of, by_rule, all_equal, can_be, bounds_from, object_source, written_source, objects_of}
use Rattle.candidate_model.specs.Cover.{goal_fact}
use Rattle.candidate_model.specs.Solver.{solver_planned, is_clause, is_impl}
use Rattle.candidate_assembly.proofs.SourcesOf.{impl-clause, clauses-are, impls-are, rules-are}
use Rattle.solver_completeness.specs.Closed.{no_more, AreWays, IsBare}
use Rattle.solver_completeness.specs.ClosedTables.{AreClosed, ArePlaces, closed_tables}
use Rattle.solver_completeness.specs.Exact.{AnswersExactly, AreSure}
use Rattle.solver_completeness.specs.FormedAnswers.{IsFormedGoal, AreDeclared}
use Rattle.solver_completeness.specs.FormedFacts.{Sorts, IsFormedFact}
use Rattle.solver_completeness.specs.GoalSets.{IsGoalOf}
use Rattle.solver_completeness.specs.RowWays.{AreWaysOf, RowsAreWaysAt, EquatedRowsAreWaysAt, if_of, clause_ways, autos_stand_once}
use Rattle.solver_completeness.specs.SolverAnswers.{meant_for, solver_programs, IsOnlyFor}
use Rattle.solver_completeness.specs.SolverChoices.{IsElaborated}
use Rattle.solver_completeness.specs.SolverGoals.{IsGoal, AreGoals, FactIsProved}
use Rattle.solver_completeness.specs.SolverPlans.{specs_outside}
use Rattle.solver_completeness.specs.SolverWays.{facts_beside, premises_of}
use Rattle.solver_completeness.specs.ModelWays.{ways_under}
use Rattle.solver_completeness.specs.Ways.{AtMostOneHolds, IsSelection, HasShortChains, HasOneWayWithin, IsExactFor, IsRightFor}
use Rattle.solver_completeness.proofs.Arranging.{rules-arranged, mixed-select, clauses-select}
use Rattle.solver_completeness.proofs.BoundRows.{Selected, exactly, both-selected, recorded-selected, upcasts-under, objects}
use Rattle.solver_completeness.proofs.ClosedLaws.{closed_tables_are_lawful}
use Rattle.solver_completeness.proofs.Clauses.{clauses-at}
use Rattle.solver_completeness.proofs.EquatedRows.{facts-append, equated-rows-at}
use Rattle.solver_completeness.proofs.ExactPlans.{IsExactPlan, planned-exact}
use Rattle.solver_completeness.proofs.FewWays.{AreSorted, second-sorted, both-sorted, IsSorted, HasFewWaysWithin}
use Rattle.solver_completeness.proofs.FormedWays.{formed-are-kept}
use Rattle.solver_completeness.proofs.Found.{found_is_plain, found_is_right, found_is_sure}
use Rattle.solver_completeness.proofs.Induction.{plain_is_exact}
use Rattle.solver_completeness.proofs.MovedWays.{possible_holds, holds_possible}
use Rattle.solver_completeness.proofs.Preferences.{is_by_clause}
use Rattle.solver_completeness.proofs.GoalSets.{goals-lead-to-goals}
use Rattle.solver_completeness.proofs.ImplRows.{impls}
use Rattle.solver_completeness.proofs.Instances.{instance, instance-is, kinds-closed}
use Rattle.solver_completeness.proofs.Rows.{rows-at}
use Rattle.solver_completeness.proofs.Selecting.{chained, itself, every-left}
use Rattle.solver_completeness.proofs.SolverHandlers.{kinds-all, few, plan-exact, specs-determined}
use Rattle.solver_completeness.proofs.SolverPlans.{begins-known, kinds-are, silent, outside-ends, ends-through}
use Rattle.type_terms.proofs.ListBasics.{append-assoc}
use Rattle.solver_completeness.proofs.SolverSpecs.{specs-are-sure}
use Rattle.sessions.specs.Answers.{TellsProof}
use Rattle.sessions.proofs.DirectRules.{own_rules, direct_clauses, direct_rules, direct_under, direct_ways, direct-split, without-clauses, others_under, own_ways, other_ways, proved-directly}

-- ---- where-clauses that are the reference
own-ways : (r : Reference) (k : ℕ) (E : List Reference) → premises_of (own_rules r k E) ≡ clause_ways r E
own-ways r k [] = refl
own-ways r k (s ∷ ss) = by (same_reference s r) (own-ways r (suc k) ss)
  where
    by : (b : Bool) → premises_of (own_rules r (suc k) ss) ≡ clause_ways r ss
        → premises_of ((if b then record { way = by_clause k; premises = [] } ∷ [] else []) ++ own_rules r (suc k) ss) ≡ (if b then [] ∷ clause_ways r ss else clause_ways r ss)
    by true e = ap (λ z. [] ∷ z) e
    by false e = e

own-select : (V : World) (r : Reference) (g : Fact) (E : List Reference) → IsElaborated V E → IsSelection (facts_beside g (clause_ways r E)) (facts_beside g (premises_of (direct_clauses V r E)))
own-select V r g E closed = by (list_any (λ s. same_reference s r) E)
  where
    by : (b : Bool) → IsSelection (facts_beside g (clause_ways r E)) (facts_beside g (premises_of (if b then own_rules r 0 E else clause_rules V r 0 E)))
    by true = subst (λ z. IsSelection (facts_beside g (clause_ways r E)) (facts_beside g z)) (sym (own-ways r 0 E)) (itself (facts_beside g (clause_ways r E)))
    by false = clauses-select V r g E closed

-- where-clauses ask for nothing
nothing-asked : (Q : Fact → Type 0) (g : Fact) (r : Reference) (E : List Reference) → Every (Every Q) (facts_beside g (clause_ways r E))
nothing-asked Q g r [] = tt
nothing-asked Q g r (s ∷ ss) = by (same_reference s r) (nothing-asked Q g r ss)
  where
    by : (b : Bool) → Every (Every Q) (facts_beside g (clause_ways r ss)) → Every (Every Q) (facts_beside g (if b then [] ∷ clause_ways r ss else clause_ways r ss))
    by true h = (tt, h)
    by false h = h

-- no other candidate is by a where-clause
module _ (V : World) (a : GoalOverKinds) where
  abbrev IsOther : Candidate → Type 0
  IsOther c = is_by_clause c ≡ false

  so-other : (b : Bool) (cs : List Candidate) → Every IsOther cs → Every IsOther (if_so b cs)
  so-other true cs h = h
  so-other false cs h = tt

  bounds-other : (source : ℕ → CandidateSource) → ((i : ℕ) → is_clause (source i) ≡ false) → (n : ℕ) (rs : List Reference) → Every IsOther (bounds_from V a source n rs)
  bounds-other source h n [] = tt
  bounds-other source h n (r ∷ rs) = by (can_be a.reference r) (bounds-other source h (suc n) rs)
    where
      by : (b : Bool) → Every IsOther (bounds_from V a source (suc n) rs)
          → Every IsOther (if b then by_rule V a (source n) (all_equal a.reference.args r.args) (supertraits V a.reference) ∷ bounds_from V a source (suc n) rs else bounds_from V a source (suc n) rs)
      by true g = (h n, g)
      by false g = g

  objects-other : (S : Trees) → Every IsOther (objects_of V a S)
  objects-other none = tt
  objects-other (tree dynamic bounds others) =
      let self = tree dynamic bounds none in
      so-other (are_dyn_compatible V (principal_with self bounds)) _
      (every-append IsOther (if_so (not (a.reference.trait == sized)) (bounds_from V a written_source 0 (autos_with self bounds))) _
      (so-other (not (a.reference.trait == sized)) (bounds_from V a written_source 0 (autos_with self bounds)) (bounds-other written_source (λ i. refl) 0 (autos_with self bounds)))
      (so-other (not (a.reference.trait == sized)) (bounds_from V a object_source 0 (elaborate V (principal_with self bounds))) (bounds-other object_source (λ i. refl) 0 (elaborate V (principal_with self bounds)))))
  objects-other (tree l c o) = tt

  not-so : (b : Bool) → not b ≡ true → b ≡ false
  not-so false e = refl
  not-so true e = absurd (cc)

  none-by-clause : Every IsOther (built_in V a ++ (by_impls V a V.impls ++ by_objects V a))
  none-by-clause =
      every-append IsOther (built_in V a) (by_impls V a V.impls ++ by_objects V a)
      (Every-mono (λ (c : Candidate). not (is_clause c.source) ≡ true) IsOther (λ c h. not-so (is_clause c.source) h) (built_in V a) (rules-are V a (λ s. not (is_clause s)) refl refl (λ i. refl)))
      (every-append IsOther (by_impls V a V.impls) (by_objects V a)
      (Every-mono (λ (c : Candidate). is_impl c.source ≡ true) IsOther (λ c h. impl-clause c.source h) (by_impls V a V.impls) (impls-are V a V.impls)) (objects-other (self_of a)))

-- ---- the solver's candidates
module _ (m : ViewMeaning) (well : IsDeclaredWell m.view) (f : CanonicalForm) (a : GoalOverKinds) (is_asked : goal_over_kinds m.view f ≡ Some a) (closed : AreClosed f.kinds) (v : Values) (places : ArePlaces f.kinds v)
    (plain : is_plain (goal_fact f v) ≡ true) where
  abbrev V : World
  V = m.view

  abbrev g : Fact
  g = instance m f a is_asked closed v places

  abbrev r : Reference
  r = reference_in g

  abbrev E : List Reference
  E = clauses_of g.goal.environment

  abbrev Chosen : List Candidate → List (List Reference) → Type 1
  Chosen cs ways = Selected m well f a is_asked closed v places plain cs ways

  abbrev ChosenBy : List Candidate → List Rule → Type 1
  ChosenBy cs us = Chosen cs (premises_of us)

  together : (cs ds : List Candidate) (us ts : List Rule) → ChosenBy cs us → ChosenBy ds ts → ChosenBy (cs ++ ds) (us ++ ts)
  together cs ds us ts x y = both-selected m well f a is_asked closed v places plain cs ds us ts x y

  just : (cs : List Candidate) (us : List Rule) → AreWaysOf a v g cs (premises_of us) → ChosenBy cs us
  just cs us u = exactly m well f a is_asked closed v places plain cs (premises_of us) u

  stands : goal_fact f v ≡ g
  stands = instance-is m f a is_asked closed v places

  rows : RowsAreWaysAt V a v g r
  rows = subst (λ z. RowsAreWaysAt V a v z (reference_in z)) stands (rows-at m well.terms f a is_asked closed v places plain)

  equated : EquatedRowsAreWaysAt V a v g r
  equated = subst (λ z. EquatedRowsAreWaysAt V a v z (reference_in z)) stands (equated-rows-at m well.terms f a is_asked closed v places plain)

  unsizes : ChosenBy (by_unsize V a) (if_of (r.trait == unsize) (unsize_rules V r.args))
  unsizes =
      four (r.trait == unsize) (just _ _ equated.arrays) (just _ _ equated.to_dyns) (upcasts-under m well f a is_asked closed v places plain) (just _ _ equated.structs)
      (begins_unknown a.kinds (next_of (self_of a))) (begins-known a.kinds (kinds-closed m f a is_asked closed v places) (next_of (self_of a)))
    where
      known : (cs : List Candidate) (us : List Rule) → (d : Bool) → d ≡ false → ChosenBy cs us → ChosenBy (if d then unsure ∷ [] else cs) us
      known cs us false e x = x
      known cs us true e x = absurd (cc)

      four : (b : Bool) → ChosenBy (if_so b (unsize_array_of V a (self_of a))) (if_of b (unsize_array_rules r.args))
          → ChosenBy (if_so b (as_written V a misc (unsize_to_dyn_rules V (self_of a)))) (if_of b (unsize_to_dyn_rules V r.args))
          → ChosenBy (if_so b (upcasts_of V a (self_of a))) (if_of b (unsize_upcast_rules V r.args)) → ChosenBy (if_so b (unsize_struct_of V a (self_of a))) (if_of b (unsize_struct_rules V r.args))
          → (d : Bool) → d ≡ false → ChosenBy (if_so b (if d then unsure ∷ [] else unsize_recording V a)) (if_of b (unsize_rules V r.args))
      four true x y z w d e =
          known (unsize_recording V a) (unsize_rules V r.args) d e
          (recorded-selected m well f a is_asked closed v places plain (unsizing_outlives a.reference.args) (unsize_known V a (self_of a)) (premises_of (unsize_rules V r.args))
          (together (unsize_array_of V a (self_of a)) _ (unsize_array_rules r.args) _ x
          (together (as_written V a misc (unsize_to_dyn_rules V (self_of a))) _ (unsize_to_dyn_rules V r.args) _ y
          (together (upcasts_of V a (self_of a)) (unsize_struct_of V a (self_of a)) (unsize_upcast_rules V r.args) (unsize_struct_rules V r.args) z w))))
      four false x y z w d e = just [] [] no_more

  abbrev s : List Rule
  s = if_of (r.trait == sized) (sized_rules V r.args)

  abbrev c : List Rule
  c = if_of ((r.trait == copy) || (r.trait == clone)) (copy_rules r.trait r.args)

  abbrev u : List Rule
  u = if_of (is_auto V r.trait) (auto_rules V r.trait r.args)

  abbrev t : List Rule
  t = if_of (r.trait == tuple_trait) (tuple_rules r.args)

  abbrev p : List Rule
  p = if_of (r.trait == fn_ptr_trait) (fn_ptr_rules r.args)

  abbrev k : List Rule
  k = if_of (is_fn_trait r.trait) (call_rules r.args)

  abbrev x : List Rule
  x = if_of (r.trait == unsize) (unsize_rules V r.args)

  built : ChosenBy (built_in V a) (s ++ (c ++ (u ++ (t ++ (p ++ (k ++ x))))))
  built =
      together (by_sized V a) _ s (c ++ (u ++ (t ++ (p ++ (k ++ x))))) (just _ s rows.sizeds)
      (together (by_copy V a) _ c (u ++ (t ++ (p ++ (k ++ x)))) (just _ c rows.copies)
      (together (by_auto V a) _ u (t ++ (p ++ (k ++ x))) (just _ u rows.autos)
      (together (by_tuple V a) _ t (p ++ (k ++ x)) (just _ t rows.tuples)
      (together (by_fn_ptr V a) _ p (k ++ x) (just _ p rows.fn_ptrs)
      (together (by_call V a) (by_unsize V a) k x (just _ k equated.calls) unsizes)))))

  module _ (once : autos_stand_once r.args ≡ true) where
    -- all but where-clauses
    beside_clauses : Chosen (built_in V a ++ (by_impls V a V.impls ++ by_objects V a)) (others_under V r)
    beside_clauses =
        let b = s ++ (c ++ (u ++ (t ++ (p ++ (k ++ x))))) in
        let i = flat_map (impl_rules r) V.impls in
        let o = object_rules V r r.args in
        let all =
        together (built_in V a) (by_impls V a V.impls ++ by_objects V a) b (i ++ o) built
        (together (by_impls V a V.impls) (by_objects V a) i o (just _ i (impls m well f a is_asked closed v places plain)) (objects m well f a is_asked closed v places plain once)) in
        record {
          found = all.found;
          are = all.are;
          selects =
              subst (λ us. IsSelection (facts_beside g all.found) (facts_beside g (premises_of us))) (without-clauses V r)
              (chained (facts_beside g all.found) (facts_beside g (premises_of (b ++ (i ++ o)))) (facts_beside g (ways_under V [] r)) all.selects
              (mixed-select g (b ++ (i ++ o)) (rules V [] r) (rules-arranged [] s c u t p k x i o)));
        }

    clause_candidates : AreWaysOf a v g (by_clauses V a (clauses a)) (clause_ways r E)
    clause_candidates = subst (λ z. AreWaysOf a v z (by_clauses V a (clauses a)) (clause_ways (reference_in z) (clauses_of z.goal.environment))) stands (clauses-at m f a is_asked closed v places)

    -- in two groups
    in_groups : AreSorted frame_tables (begin a.kinds) v is_by_clause (specs_outside m a) (facts_beside g (clause_ways r E)) (facts_beside g beside_clauses.found)
    in_groups =
        subst (λ cs. AreSorted frame_tables (begin a.kinds) v is_by_clause cs (facts_beside g (clause_ways r E)) (facts_beside g beside_clauses.found))
        (sym (append-assoc (by_clauses V a (clauses a)) (built_in V a) (by_impls V a V.impls ++ by_objects V a)))
        (both-sorted frame_tables (begin a.kinds) v is_by_clause (by_clauses V a (clauses a)) (built_in V a ++ (by_impls V a V.impls ++ by_objects V a)) (facts_beside g (clause_ways r E)) (facts_beside g beside_clauses.found)
        clause_candidates (clauses-are V a (clauses a))
        (second-sorted frame_tables (begin a.kinds) v is_by_clause (built_in V a ++ (by_impls V a V.impls ++ by_objects V a)) (facts_beside g beside_clauses.found) beside_clauses.are (none-by-clause V a)))

  module _ (once : autos_stand_once r.args ≡ true) (elaborated : IsElaborated V E) where
    own_clauses : ChosenBy (by_clauses V a (clauses a)) (direct_clauses V r E)
    own_clauses = record {
      found = clause_ways r E;
      are = subst (λ z. AreWaysOf a v z (by_clauses V a (clauses a)) (clause_ways (reference_in z) (clauses_of z.goal.environment))) stands (clauses-at m f a is_asked closed v places);
      selects = own-select V r g E elaborated;
    }

    -- where-clauses, built-in rules, impls and object bounds
    outside : Chosen (specs_outside m a) (direct_under V E r)
    outside =
        let w = direct_clauses V r E in
        let i = flat_map (impl_rules r) V.impls in
        let o = object_rules V r r.args in
        let all =
        together (by_clauses V a (clauses a) ++ built_in V a) (by_impls V a V.impls ++ by_objects V a) (w ++ (s ++ (c ++ (u ++ (t ++ (p ++ (k ++ x))))))) (i ++ o)
        (together (by_clauses V a (clauses a)) (built_in V a) w (s ++ (c ++ (u ++ (t ++ (p ++ (k ++ x)))))) own_clauses built)
        (together (by_impls V a V.impls) (by_objects V a) i o (just _ i (impls m well f a is_asked closed v places plain)) (objects m well f a is_asked closed v places plain once)) in
        record {
          found = all.found;
          are = all.are;
          selects =
              chained (facts_beside g all.found) (facts_beside g (premises_of ((w ++ (s ++ (c ++ (u ++ (t ++ (p ++ (k ++ x))))))) ++ (i ++ o)))) (facts_beside g (direct_under V E r)) all.selects
              (mixed-select g ((w ++ (s ++ (c ++ (u ++ (t ++ (p ++ (k ++ x))))))) ++ (i ++ o)) (direct_rules V E r) (rules-arranged w s c u t p k x i o));
        }

-- what holds of the premises of direct ways holds of those that are no where-clauses
other-every : (V : World) (Q : Fact → Type 0) (f : Fact) → Every (Every Q) (direct_ways V f) → Every (Every Q) (other_ways V f)
other-every V Q f h =
    let r = reference_in f in
    let E = clauses_of f.goal.environment in
    every-left (Every Q) (facts_beside f (others_under V r)) (facts_beside f (premises_of (direct_clauses V r E)))
    (subst (Every (Every Q)) (ap (facts_beside f) (direct-split V E r) ∙ facts-append f (others_under V r) (premises_of (direct_clauses V r E))) h)

-- what the candidates apply with, as facts
record AreChosen (m : ViewMeaning) (f : CanonicalForm) (a : GoalOverKinds) (v : Values) : Type 1 where
  found : List (List Fact)
  applies : AreWays frame_tables (begin a.kinds) v (specs_outside m a) found
  selects : IsSelection found (direct_ways m.view (goal_fact f v))

-- and in two groups
record AreGrouped (m : ViewMeaning) (f : CanonicalForm) (a : GoalOverKinds) (v : Values) : Type 1 where
  first : List (List Fact)
  second : List (List Fact)
  are : AreSorted frame_tables (begin a.kinds) v is_by_clause (specs_outside m a) first second
  one_first : (Q : Fact → Type 0) → AtMostOneHolds (Every Q) (own_ways (goal_fact f v)) → AtMostOneHolds (Every Q) first
  one_second : (Q : Fact → Type 0) → AtMostOneHolds (Every Q) (other_ways m.view (goal_fact f v)) → AtMostOneHolds (Every Q) second
  every_first : (Q : Fact → Type 0) → Every (Every Q) first
  every_second : (Q : Fact → Type 0) → Every (Every Q) (other_ways m.view (goal_fact f v)) → Every (Every Q) second

module _ (m : ViewMeaning) (well : IsDeclaredWell m.view) (f : CanonicalForm) (a : GoalOverKinds) (is_asked : goal_over_kinds m.view f ≡ Some a) (closed : AreClosed f.kinds) where
  grouped : (v : Values) → ArePlaces f.kinds v → IsGoal m.view (goal_fact f v) → AreGrouped m f a v
  grouped v places goal = at (subst (IsGoal m.view) stands-so goal)
    where
      g : Fact
      g = instance m f a is_asked closed v places

      stands-so : goal_fact f v ≡ g
      stands-so = instance-is m f a is_asked closed v places

      at : IsGoal m.view g → AreGrouped m f a v
      at h =
          let x = beside_clauses m well f a is_asked closed v places goal.plain h.once in
          let clause = clause_ways (reference_in g) (clauses_of g.goal.environment) in
          record {
            first = facts_beside g clause;
            second = facts_beside g x.found;
            are = in_groups m well f a is_asked closed v places goal.plain h.once;
            one_first = λ Q one. subst (λ z. AtMostOneHolds (Every Q) (own_ways z)) stands-so one;
            one_second = λ Q one. x.selects.one Q (subst (λ z. AtMostOneHolds (Every Q) (other_ways m.view z)) stands-so one);
            every_first = λ Q. nothing-asked Q g (reference_in g) (clauses_of g.goal.environment);
            every_second = λ Q all. x.selects.every Q (subst (λ z. Every (Every Q) (other_ways m.view z)) stands-so all);
          }

  chosen : (v : Values) → ArePlaces f.kinds v → IsGoal m.view (goal_fact f v) → AreChosen m f a v
  chosen v places goal = at (subst (IsGoal m.view) stands-so goal)
    where
      stands-so : goal_fact f v ≡ instance m f a is_asked closed v places
      stands-so = instance-is m f a is_asked closed v places

      at : IsGoal m.view (instance m f a is_asked closed v places) → AreChosen m f a v
      at h =
          let x = outside m well f a is_asked closed v places goal.plain h.once h.elaborated in
          record {
            found = facts_beside (instance m f a is_asked closed v places) x.found;
            applies = x.are;
            selects = subst (λ (z : Fact). IsSelection (facts_beside (instance m f a is_asked closed v places) x.found) (direct_ways m.view z)) (sym stands-so) x.selects;
          }

module _ {W : Type 0} (applicable : AnswerTrees → Bool) (same : AnswerTrees → AnswerTrees → Bool) (meaning_of : W → ViewMeaning) (fits_in : W → CanonicalForm → Bool) where
  -- by a world in which what is asked has the same direct ways
  module _ (w : W) (sound : (meaning_of w).is_sound ≡ true) (well : IsDeclaredWell (meaning_of w).view) (IsAsked : NestedQuestion → Values → Type 0) (are : AreGoals (meaning_of w) PostAnalysis (fits_in w) IsAsked)
      (U : World) (alike : (q : NestedQuestion) (v : Values) → IsAsked q v → direct_ways (meaning_of w).view (fact_of q v) ≡ direct_ways U (fact_of q v)) where
    -- the plan of each question of the set is exact
    abbrev plans : (q : NestedQuestion) (v : Values) (i : IsAsked q v) → (closed : AreClosed q.form.kinds) → ArePlaces q.form.kinds v
        → IsExactPlan frame_tables closed_tables (direct_ways U) IsAsked q v (solver_planned applicable same (meant_for (meaning_of w) (fits_in w) q.form) PostAnalysis q.form)
    plans q v i closed places =
        let m = meant_for (meaning_of w) (fits_in w) q.form in
        let fitting = both (meaning_of w).is_sound (fits_in w q.form) sound (are.fitting q v i) in
        let a = (are.decided q v i).0 in
        let e = (are.decided q v i).1 in
        let x = chosen m well q.form a e closed v places (are.goals q v i) in
        record {
          begins = kinds-all applicable same m fitting well q.form a e closed;
          made = begin-made (kinds_known q.form.kinds);
          goal = refl;
          specs = specs_outside m a;
          few = few applicable same m fitting well q.form a e closed PostAnalysis;
          exact = plan-exact applicable same m fitting well q.form a e closed PostAnalysis;
          determined = specs-determined applicable same m fitting well q.form a e closed PostAnalysis;
          nested = are.onward q v i closed places a e;
          found = x.found;
          applies = subst (λ ks. AreWays frame_tables (begin ks) v (specs_outside m a) x.found) (sym (kinds-are applicable same m fitting q.form a e closed)) x.applies;
          selects = subst (IsSelection x.found) (alike q v i) x.selects;
        }

    -- so the solver answers these exactly
    abbrev answers : AnswersExactly frame_tables closed_tables (solver_programs applicable same meaning_of fits_in) w PostAnalysis
    answers = record {
      IsAsked = IsAsked;
      ways = direct_ways U;
      exact = λ q v i c d.
          planned-exact frame_tables closed_tables (direct_ways U) IsAsked q v (solver_planned applicable same (meant_for (meaning_of w) (fits_in w) q.form) PostAnalysis q.form)
          (plans q v i c d);
    }

    -- its candidates in two groups
    sorted : ((q : NestedQuestion) (v : Values) → IsAsked q v → other_ways (meaning_of w).view (fact_of q v) ≡ other_ways U (fact_of q v))
        → (q : NestedQuestion) (v : Values) (i : IsAsked q v) (c : AreClosed q.form.kinds) (d : ArePlaces q.form.kinds v)
        → IsSorted frame_tables is_by_clause (direct_ways U) own_ways (other_ways U) (fact_of q v) v ((solver_programs applicable same meaning_of fits_in).handled w PostAnalysis ((solver_programs applicable same meaning_of fits_in).goal_of q))
        (answers.exact q v i c d).specs
    sorted same_others q v i c d =
        let m = meant_for (meaning_of w) (fits_in w) q.form in
        let fitting = both (meaning_of w).is_sound (fits_in w q.form) sound (are.fitting q v i) in
        let a = (are.decided q v i).0 in
        let e = (are.decided q v i).1 in
        let x = grouped m well q.form a e c v d (are.goals q v i) in
        record {
          first = x.first;
          second = x.second;
          are = subst (λ ks. AreSorted frame_tables (begin ks) v is_by_clause (specs_outside m a) x.first x.second) (sym (kinds-are applicable same m fitting q.form a e c)) x.are;
          one_first = x.one_first;
          one_second = λ Q one. x.one_second Q (subst (AtMostOneHolds (Every Q)) (sym (same_others q v i)) one);
          every_first = λ Q all. x.every_first Q;
          every_second = λ Q all. x.every_second Q (other-every m.view Q (fact_of q v) (subst (Every (Every Q)) (sym (alike q v i)) all));
          merges = λ seen b ignored were ended.
              ends-through applicable same m fitting q.form a e c PostAnalysis (outside-ends applicable same (begin (kinds_known q.form.kinds)) (silent applicable same m fitting q.form a e c) m a) seen b ignored were ended;
        }

    sure : AreSure frame_tables closed_tables (solver_programs applicable same meaning_of fits_in) w PostAnalysis answers
    sure q v i c d = specs-are-sure (meaning_of w) q.form (are.decided q v i).0 (are.decided q v i).1 c

  module _ {C I R F : Type 0} (handles : Handles C I R F W (AskedGoal frame_tables (solver_programs applicable same meaning_of fits_in)) (Option AnswerTrees))
      (programs : ArePrograms frame_tables (solver_programs applicable same meaning_of fits_in)) (w : W) (sorts : Sorts) (admits : CanonicalForm → Bool)
      (declared : AreDeclared (meaning_of w) PostAnalysis (fits_in w) admits sorts) where
    abbrev its_view : World
    its_view = (meaning_of w).view

    abbrev Set : NestedQuestion → Values → Type 0
    Set q v = IsGoalOf its_view admits (IsFormedFact its_view sorts) q v

    goals : AreGoals (meaning_of w) PostAnalysis (fits_in w) Set
    goals = goals-lead-to-goals (IsFormedFact its_view sorts) (meaning_of w) PostAnalysis (fits_in w) admits declared.well (formed-are-kept (meaning_of w) PostAnalysis sorts declared.well declared.formed) declared.admitted

    -- a definite yes to what is decided by direct ways and has a proof, and a refusal of what has none, also by another world in which formed
    -- facts have the same direct ways
    pub directly-right : (U : World) → ((f : Fact) → IsFormedFact its_view sorts f → direct_ways its_view f ≡ direct_ways U f) → (n limit : ℕ) (q : NestedQuestion) (v : Values) (a : Option AnswerTrees) → n ≤ limit → IsFormedGoal its_view sorts admits q v
        → HasOneWayWithin (direct_ways U) (FactIsProved U) n (fact_of q v) → IsOnlyFor applicable same meaning_of fits_in handles w PostAnalysis limit q a → IsRightFor frame_tables (FactIsProved U) (fact_of q v) a
    directly-right U alike n limit q v a l goal decided only =
        found_is_right frame_tables tables_are_lawful closed_tables closed_tables_are_lawful (solver_programs applicable same meaning_of fits_in) programs w PostAnalysis
        (answers w declared.sound declared.well Set goals U (λ x y i. alike (fact_of x y) i.of_fact)) handles (sure w declared.sound declared.well Set goals U (λ x y i. alike (fact_of x y) i.of_fact))
        (FactIsProved U) (proved-directly U) n limit q v a l goal.asked goal.closed goal.places decided only

    -- what chains of premises are short for is refused exactly if it has no proof, and no answer holds values
    pub directly-exact : (U : World) → ((f : Fact) → IsFormedFact its_view sorts f → direct_ways its_view f ≡ direct_ways U f) → (n limit : ℕ) (q : NestedQuestion) (v : Values) (a : Option AnswerTrees) → n ≤ limit → IsFormedGoal its_view sorts admits q v
        → HasShortChains (direct_ways U) n (fact_of q v) → IsOnlyFor applicable same meaning_of fits_in handles w PostAnalysis limit q a → TellsProof (FactIsProved U (fact_of q v)) a
    directly-exact U alike n limit q v a l goal short only =
        let ways = answers w declared.sound declared.well Set goals U (λ x y i. alike (fact_of x y) i.of_fact) in
        let found =
        found_is_plain frame_tables tables_are_lawful closed_tables closed_tables_are_lawful (solver_programs applicable same meaning_of fits_in) programs w PostAnalysis ways handles n limit q v a l goal.asked goal.closed goal.places short only in
        let told = plain_is_exact frame_tables tables_are_lawful closed_tables closed_tables_are_lawful (solver_programs applicable same meaning_of fits_in) w PostAnalysis ways handles n q v a goal.asked goal.closed goal.places found in
        by a told.0 told.1
      where
        by : (b : Option AnswerTrees) → IsBare frame_tables b → IsExactFor (direct_ways U) n (fact_of q v) b → TellsProof (FactIsProved U (fact_of q v)) b
        by None bare exact = λ p. exact n (holds_possible (direct_ways U) (FactIsProved U) (proved-directly U) n (fact_of q v) short p)
        by (Some r) bare exact = (possible_holds (direct_ways U) (FactIsProved U) (proved-directly U) n (fact_of q v) exact, bare)

    -- and a definite yes, if of where-clauses and of the others at most one way holds at each step
    pub directly-sure : (U : World) → ((f : Fact) → IsFormedFact its_view sorts f → direct_ways its_view f ≡ direct_ways U f) → ((f : Fact) → IsFormedFact its_view sorts f → other_ways its_view f ≡ other_ways U f)
        → (n limit : ℕ) (q : NestedQuestion) (v : Values) (a : Option AnswerTrees) → n ≤ limit → IsFormedGoal its_view sorts admits q v
        → HasFewWaysWithin (direct_ways U) own_ways (other_ways U) (FactIsProved U) n (fact_of q v) → IsOnlyFor applicable same meaning_of fits_in handles w PostAnalysis limit q a
        → (r : AnswerTrees) → a ≡ Some r → is_yes (operations frame_tables) r ≡ true
    directly-sure U alike others n limit q v a l goal few only r is_some =
        found_is_sure frame_tables tables_are_lawful closed_tables closed_tables_are_lawful (solver_programs applicable same meaning_of fits_in) programs w PostAnalysis
        (answers w declared.sound declared.well Set goals U (λ x y i. alike (fact_of x y) i.of_fact)) handles (sure w declared.sound declared.well Set goals U (λ x y i. alike (fact_of x y) i.of_fact))
        (FactIsProved U) (proved-directly U) is_by_clause own_ways (other_ways U)
        (sorted w declared.sound declared.well Set goals U (λ x y i. alike (fact_of x y) i.of_fact) (λ x y i. others (fact_of x y) i.of_fact)) n limit q v a l goal.asked goal.closed goal.places few only r is_some
