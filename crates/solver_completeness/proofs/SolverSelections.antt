-- The solver's candidates for a goal without inference variables are the rule instances of its instance, up to order and
-- duplicates.
use Rattle.std.proofs.Common.{◌≡◌, arith, ◌==◌, Bool, true, false, ◌||◌, if◌then◌else◌, List, [], ◌∷◌, ◌++◌, map, refl, sym, ap, subst, Some}
use Rattle.std.specs.List.{flat_map}
use Rattle.type_terms.specs.Promised.Worlds.{World, Reference}
use Rattle.type_terms.specs.Promised.Rules.{Rule, impl_rules, rules, clause_rules, strict_supertraits, sized, copy, clone, tuple_trait, fn_ptr_trait, is_fn_trait, unsize, is_auto, sized_rules, copy_rules, auto_rules, tuple_rules, fn_ptr_rules, call_rules, unsize_rules, unsize_array_rules, unsize_to_dyn_rules, unsize_upcast_rules, unsize_struct_rules, object_rules}
use Rattle.infer_table.specs.Canonical.{CanonicalForm}
use Rattle.goal_evaluator.specs.Content.{Values, Fact}
use Rattle.solver_completeness.specs.Closed.{Applies, no_more, applied}
use Rattle.goal_evaluator.specs.TableOperations.{begin}
use Rattle.goal_evaluator.specs.Tables.{frame_tables}
use Rattle.goal_evaluator.specs.Lists.{Every}
use Rattle.solver_completeness.specs.ClosedTables.{AreClosed, ArePlaces}
use Rattle.solver_completeness.specs.Ways.{IsSelection}
use Rattle.solver_completeness.specs.ModelWays.{ways_under}
use Rattle.candidate_model.specs.Facts.{is_plain, beside, clauses_of, reference_in}
use Rattle.candidate_model.specs.Meaning.{ViewMeaning}
use Rattle.candidate_model.specs.DeclaredWell.{IsDeclaredWell}
use Rattle.candidate_model.specs.Asking.{GoalOverKinds, goal_over_kinds, clauses, self_of, next_of, begins_unknown}
use Rattle.candidate_model.specs.Candidates.{Candidate, unknowable, unsure, by_clauses, built_in, by_sized, by_copy, by_auto, by_tuple, by_fn_ptr, by_call, by_unsize, by_impls, by_objects, as_written, misc, if_so, unsize_known, unsizing_outlives, unsize_recording, unsize_array_of, upcasts_of, unsize_struct_of}
use Rattle.candidate_model.specs.Cover.{all_candidates, goal_fact, read_reference}
use Rattle.candidate_model.specs.Knowing.{is_knowable}
use Rattle.declarations.specs.Promised.Elaboration.{supertraits}
use Rattle.solver_completeness.specs.SolverWays.{facts_beside, premises_of}
use Rattle.solver_completeness.specs.SolverPlans.{specs_in_coherence, specs_outside}
use Rattle.solver_completeness.specs.RowWays.{AreWaysOf, RowsAreWaysAt, EquatedRowsAreWaysAt, if_of, clause_ways, autos_stand_once}
use Rattle.solver_completeness.specs.BoundWays.{AreSelectedFor}
use Rattle.solver_completeness.specs.SolverChoices.{IsElaborated, SpecsAreWays, CoherenceSpecsAreWays}
use Rattle.solver_completeness.proofs.Instances.{terms_of, allowed, instance, instance-is, premises-are, kinds-closed}
use Rattle.solver_completeness.proofs.Rows.{rows-at}
use Rattle.solver_completeness.proofs.Clauses.{clauses-at}
use Rattle.solver_completeness.proofs.EquatedRows.{facts-append, equated-rows-at}
use Rattle.solver_completeness.proofs.Selecting.{chained, joined, swapped, copies-select}
use Rattle.solver_completeness.proofs.BoundRows.{Selected, exactly, both-selected, recorded-selected, facts-among, args-plain, upcasts-under, objects, selected-for}
use Rattle.solver_completeness.proofs.Knowability.{knowable-is}
use Rattle.solver_completeness.proofs.SolverSpecs.{outside-is}
use Rattle.candidate_model.proofs.OpenLevels.{strict-open, strict-in-supertraits}
use Rattle.candidate_model.proofs.Stack.{supertraits-only}
use Rattle.solver_completeness.proofs.ImplRows.{impls}
use Rattle.solver_completeness.proofs.Arranging.{rules-arranged, mixed-select, clauses-select}
use Rattle.solver_completeness.proofs.SolverPlans.{begins-known}

module _ (m : ViewMeaning) (well : IsDeclaredWell m.view) (f : CanonicalForm) (a : GoalOverKinds) (is_asked : goal_over_kinds m.view f ≡ Some a) (closed : AreClosed f.kinds) (v : Values) (places : ArePlaces f.kinds v)
    (plain : is_plain (goal_fact f v) ≡ true) where
  abbrev V : World
  V = m.view

  abbrev g : Fact
  g = instance m f a is_asked closed v places

  abbrev r : Reference
  r = reference_in g

  abbrev E : List Reference
  E = clauses_of g.goal.environment

  abbrev Chosen : List Candidate → List (List Reference) → Type 1
  Chosen cs ways = Selected m well f a is_asked closed v places plain cs ways

  abbrev ChosenBy : List Candidate → List Rule → Type 1
  ChosenBy cs us = Chosen cs (premises_of us)

  together : (cs ds : List Candidate) (us ts : List Rule) → ChosenBy cs us → ChosenBy ds ts → ChosenBy (cs ++ ds) (us ++ ts)
  together cs ds us ts x y = both-selected m well f a is_asked closed v places plain cs ds us ts x y

  just : (cs : List Candidate) (us : List Rule) → AreWaysOf a v g cs (premises_of us) → ChosenBy cs us
  just cs us u = exactly m well f a is_asked closed v places plain cs (premises_of us) u

  stands : goal_fact f v ≡ g
  stands = instance-is m f a is_asked closed v places

  rows : RowsAreWaysAt V a v g r
  rows = subst (λ z. RowsAreWaysAt V a v z (reference_in z)) stands (rows-at m well.terms f a is_asked closed v places plain)

  equated : EquatedRowsAreWaysAt V a v g r
  equated = subst (λ z. EquatedRowsAreWaysAt V a v z (reference_in z)) stands (equated-rows-at m well.terms f a is_asked closed v places plain)

  -- ---- `Unsize`
  unsizes : ChosenBy (by_unsize V a) (if_of (r.trait == unsize) (unsize_rules V r.args))
  unsizes =
      four (r.trait == unsize) (just _ _ equated.arrays) (just _ _ equated.to_dyns) (upcasts-under m well f a is_asked closed v places plain) (just _ _ equated.structs)
      (begins_unknown a.kinds (next_of (self_of a))) (begins-known a.kinds (kinds-closed m f a is_asked closed v places) (next_of (self_of a)))
    where
      known : (cs : List Candidate) (us : List Rule) → (d : Bool) → d ≡ false → ChosenBy cs us → ChosenBy (if d then unsure ∷ [] else cs) us
      known cs us false e x = x
      known cs us true e x = absurd (cc)

      four : (b : Bool) → ChosenBy (if_so b (unsize_array_of V a (self_of a))) (if_of b (unsize_array_rules r.args))
          → ChosenBy (if_so b (as_written V a misc (unsize_to_dyn_rules V (self_of a)))) (if_of b (unsize_to_dyn_rules V r.args))
          → ChosenBy (if_so b (upcasts_of V a (self_of a))) (if_of b (unsize_upcast_rules V r.args)) → ChosenBy (if_so b (unsize_struct_of V a (self_of a))) (if_of b (unsize_struct_rules V r.args))
          → (d : Bool) → d ≡ false → ChosenBy (if_so b (if d then unsure ∷ [] else unsize_recording V a)) (if_of b (unsize_rules V r.args))
      four true x y z w d e =
          known (unsize_recording V a) (unsize_rules V r.args) d e
          (recorded-selected m well f a is_asked closed v places plain (unsizing_outlives a.reference.args) (unsize_known V a (self_of a)) (premises_of (unsize_rules V r.args))
          (together (unsize_array_of V a (self_of a)) _ (unsize_array_rules r.args) _ x
          (together (as_written V a misc (unsize_to_dyn_rules V (self_of a))) _ (unsize_to_dyn_rules V r.args) _ y
          (together (upcasts_of V a (self_of a)) (unsize_struct_of V a (self_of a)) (unsize_upcast_rules V r.args) (unsize_struct_rules V r.args) z w))))
      four false x y z w d e = just [] [] no_more

  -- ---- built-in rules
  abbrev s : List Rule
  s = if_of (r.trait == sized) (sized_rules V r.args)

  abbrev c : List Rule
  c = if_of ((r.trait == copy) || (r.trait == clone)) (copy_rules r.trait r.args)

  abbrev u : List Rule
  u = if_of (is_auto V r.trait) (auto_rules V r.trait r.args)

  abbrev t : List Rule
  t = if_of (r.trait == tuple_trait) (tuple_rules r.args)

  abbrev p : List Rule
  p = if_of (r.trait == fn_ptr_trait) (fn_ptr_rules r.args)

  abbrev k : List Rule
  k = if_of (is_fn_trait r.trait) (call_rules r.args)

  abbrev x : List Rule
  x = if_of (r.trait == unsize) (unsize_rules V r.args)

  built : ChosenBy (built_in V a) (s ++ (c ++ (u ++ (t ++ (p ++ (k ++ x))))))
  built =
      together (by_sized V a) _ s (c ++ (u ++ (t ++ (p ++ (k ++ x))))) (just _ s rows.sizeds)
      (together (by_copy V a) _ c (u ++ (t ++ (p ++ (k ++ x)))) (just _ c rows.copies)
      (together (by_auto V a) _ u (t ++ (p ++ (k ++ x))) (just _ u rows.autos)
      (together (by_tuple V a) _ t (p ++ (k ++ x)) (just _ t rows.tuples)
      (together (by_fn_ptr V a) _ p (k ++ x) (just _ p rows.fn_ptrs)
      (together (by_call V a) (by_unsize V a) k x (just _ k equated.calls) unsizes)))))

  module _ (once : autos_stand_once r.args ≡ true) (elaborated : IsElaborated V E) where
    own_clauses : ChosenBy (by_clauses V a (clauses a)) (clause_rules V r 0 E)
    own_clauses = record {
      found = clause_ways r E;
      are = subst (λ z. AreWaysOf a v z (by_clauses V a (clauses a)) (clause_ways (reference_in z) (clauses_of z.goal.environment))) stands (clauses-at m f a is_asked closed v places);
      selects = clauses-select V r g E elaborated;
    }

    -- where-clauses, built-in rules, impls and object bounds
    pub outside : Chosen (specs_outside m a) (ways_under V E r)
    outside =
        let w = clause_rules V r 0 E in
        let i = flat_map (impl_rules r) V.impls in
        let o = object_rules V r r.args in
        let all =
        together (by_clauses V a (clauses a) ++ built_in V a) (by_impls V a V.impls ++ by_objects V a) (w ++ (s ++ (c ++ (u ++ (t ++ (p ++ (k ++ x))))))) (i ++ o)
        (together (by_clauses V a (clauses a)) (built_in V a) w (s ++ (c ++ (u ++ (t ++ (p ++ (k ++ x)))))) own_clauses built)
        (together (by_impls V a V.impls) (by_objects V a) i o (just _ i (impls m well f a is_asked closed v places plain)) (objects m well f a is_asked closed v places plain once)) in
        record {
          found = all.found;
          are = all.are;
          selects =
              chained (facts_beside g all.found) (facts_beside g (premises_of ((w ++ (s ++ (c ++ (u ++ (t ++ (p ++ (k ++ x))))))) ++ (i ++ o)))) (facts_beside g (ways_under V E r)) all.selects
              (mixed-select g ((w ++ (s ++ (c ++ (u ++ (t ++ (p ++ (k ++ x))))))) ++ (i ++ o)) (rules V E r) (rules-arranged w s c u t p k x i o));
        }

    pub outside-for : (P : Fact → Type 0) → AreSelectedFor P a v g (specs_outside m a) (ways_under V E r)
    outside-for P = selected-for m well f a is_asked closed v places plain P (specs_outside m a) (ways_under V E r) outside

    -- ---- in coherence
    abbrev asks : List Reference
    asks = map (read_reference (terms_of m f a is_asked closed v places).slots) (supertraits V a.reference)

    unknowable-applies : Applies frame_tables (begin a.kinds) v (unknowable V a) (map (beside g) asks)
    unknowable-applies = record {
      assignment = terms_of m f a is_asked closed v places;
      allowed = allowed m f a is_asked closed v places;
      own = refl;
      meets = tt;
      needs = premises-are m f a is_asked closed v places false (supertraits V a.reference);
    }

    strict-is : strict_supertraits V r ≡ map (read_reference (terms_of m f a is_asked closed v places).slots) (strict_supertraits V a.reference)
    strict-is = strict-open V well.terms (terms_of m f a is_asked closed v places).slots a.reference (args-plain m well f a is_asked closed v places plain)

    supers-select : IsSelection (map (beside g) asks ∷ []) (map (beside g) (strict_supertraits V r) ∷ [])
    supers-select =
        copies-select 1 1 (map (beside g) asks) (map (beside g) (strict_supertraits V r)) (omega arith) (λ l. l)
        (λ P h.
        subst (λ rs. Every P (map (beside g) rs)) (sym strict-is)
        (facts-among m well f a is_asked closed v places plain P (supertraits V a.reference) (strict_supertraits V a.reference) (λ x i. strict-in-supertraits V well.rank well.acyclic a.reference x i) h))
        (λ P h.
        facts-among m well f a is_asked closed v places plain P (strict_supertraits V a.reference) (supertraits V a.reference) (λ x i. supertraits-only V well.rank well.acyclic a.reference x i)
        (subst (λ rs. Every P (map (beside g) rs)) strict-is h))

    all-chosen : Chosen (all_candidates V a) (ways_under V E r)
    all-chosen = subst (λ cs. Chosen cs (ways_under V E r)) (sym (outside-is m a)) outside

    nothing-more : (ws : List (List Reference)) → ws ++ [] ≡ ws
    nothing-more [] = refl
    nothing-more (w ∷ ws) = ap (λ z. w ∷ z) (nothing-more ws)

    pub in-coherence : Chosen (specs_in_coherence m a) (ways_under V E r ++ (if is_knowable V m.crate r then [] else strict_supertraits V r ∷ []))
    in-coherence =
        subst (λ (b : Bool). Chosen (specs_in_coherence m a) (ways_under V E r ++ (if b then [] else strict_supertraits V r ∷ []))) (sym (knowable-is m f a is_asked closed v places)) (by (is_knowable V m.crate a.reference))
      where
        by : (b : Bool) → Chosen (if b then all_candidates V a else unknowable V a ∷ all_candidates V a) (ways_under V E r ++ (if b then [] else strict_supertraits V r ∷ []))
        by true = subst (Chosen (all_candidates V a)) (sym (nothing-more (ways_under V E r))) all-chosen
        by false = record {
          found = asks ∷ all-chosen.found;
          are = applied unknowable-applies all-chosen.are;
          selects =
              subst (IsSelection (map (beside g) asks ∷ facts_beside g all-chosen.found)) (sym (facts-append g (ways_under V E r) (strict_supertraits V r ∷ [])))
              (chained (map (beside g) asks ∷ facts_beside g all-chosen.found) (map (beside g) (strict_supertraits V r) ∷ facts_beside g (ways_under V E r)) (facts_beside g (ways_under V E r) ++ map (beside g) (strict_supertraits V r) ∷ [])
              (joined (map (beside g) asks ∷ []) (facts_beside g all-chosen.found) (map (beside g) (strict_supertraits V r) ∷ []) (facts_beside g (ways_under V E r)) supers-select all-chosen.selects)
              (swapped (map (beside g) (strict_supertraits V r) ∷ []) (facts_beside g (ways_under V E r))));
        }

    pub in-coherence-for : (P : Fact → Type 0) → AreSelectedFor P a v g (specs_in_coherence m a) (ways_under V E r ++ (if is_knowable V m.crate r then [] else strict_supertraits V r ∷ []))
    in-coherence-for P = selected-for m well f a is_asked closed v places plain P (specs_in_coherence m a) (ways_under V E r ++ (if is_knowable V m.crate r then [] else strict_supertraits V r ∷ [])) in-coherence

  pub in-coherence-at : (P : Fact → Type 0) → autos_stand_once (reference_in (goal_fact f v)).args ≡ true → IsElaborated V (clauses_of (goal_fact f v).goal.environment)
      → AreSelectedFor P a v (goal_fact f v) (specs_in_coherence m a)
      (ways_under V (clauses_of (goal_fact f v).goal.environment) (reference_in (goal_fact f v)) ++ (if is_knowable V m.crate (reference_in (goal_fact f v)) then [] else strict_supertraits V (reference_in (goal_fact f v)) ∷ []))
  in-coherence-at P =
      subst (λ (z : Fact). autos_stand_once (reference_in z).args ≡ true → IsElaborated V (clauses_of z.goal.environment)
      → AreSelectedFor P a v z (specs_in_coherence m a) (ways_under V (clauses_of z.goal.environment) (reference_in z) ++ (if is_knowable V m.crate (reference_in z) then [] else strict_supertraits V (reference_in z) ∷ [])))
      (sym stands) (λ once elaborated. in-coherence-for once elaborated P)

  pub outside-at : (P : Fact → Type 0) → autos_stand_once (reference_in (goal_fact f v)).args ≡ true → IsElaborated V (clauses_of (goal_fact f v).goal.environment)
      → AreSelectedFor P a v (goal_fact f v) (specs_outside m a) (ways_under V (clauses_of (goal_fact f v).goal.environment) (reference_in (goal_fact f v)))
  outside-at P =
      subst (λ (z : Fact). autos_stand_once (reference_in z).args ≡ true → IsElaborated V (clauses_of z.goal.environment) → AreSelectedFor P a v z (specs_outside m a) (ways_under V (clauses_of z.goal.environment) (reference_in z)))
      (sym stands) (λ once elaborated. outside-for once elaborated P)

pub specs-are-ways : (P : Fact → Type 0) → SpecsAreWays P
specs-are-ways P m well f a e closed v places plain once elaborated = outside-at m well f a e closed v places plain P once elaborated

pub coherence-specs-are-ways : (P : Fact → Type 0) → CoherenceSpecsAreWays P
coherence-specs-are-ways P m well f a e closed v places plain once elaborated = in-coherence-at m well f a e closed v places plain P once elaborated
