-- The solver's candidates determine their nested goals, are bounded in number, and are certain outside coherence.
use Rattle.std.proofs.Common.{◌≡◌, ℕ, suc, ◌≤◌, arith, Bool, true, false, not, ◌&&◌, ◌||◌, ◌==◌, if◌then◌else◌, List, [], ◌∷◌, ◌++◌, length, refl, sym, subst, Some}
use Rattle.std.specs.List.{flat_map}
use Rattle.type_terms.specs.Promised.Label.{dynamic, array, slice, adt, fn_ptr}
use Rattle.type_terms.specs.Promised.Trees.{Trees, none, tree}
use Rattle.type_terms.specs.Promised.Worlds.{World, Reference, StructDecl, ImplDecl, structs_named}
use Rattle.type_terms.specs.Promised.Rules.{Rule, sized, clone, copy, tuple_trait, fn_ptr_trait, is_fn_trait, unsize, is_auto, sized_rules, copy_rules, auto_rules, tuple_rules, fn_ptr_rules, unsize_to_dyn_rules, principal_with, autos_with, are_dyn_compatible, are_declared, upcasts_autos, some_unsizing}
use Rattle.infer_table.specs.Canonical.{CanonicalForm}
use Rattle.infer_table.specs.declared.certainty.Certainty.TheVariants.{Yes}
use Rattle.infer_table.specs.declared.certainty.TypingMode.TheVariants.{Coherence}
use Rattle.goal_evaluator.specs.Lists.{Every}
use Rattle.goal_evaluator.specs.declared.candidate.CandidateSource.{CandidateSource}
use Rattle.goal_evaluator.specs.declared.candidate.CandidateSource.TheVariants.{BuiltinImpl}
use Rattle.goal_evaluator.specs.declared.candidate.BuiltinImplSource.TheVariants.{Trivial}
use Rattle.goal_evaluator.proofs.ListLaws.{Every-mono}
use Rattle.goal_evaluator.specs.FrameTables.{kinds_known}
use Rattle.goal_evaluator.specs.TableOperations.{begin}
use Rattle.goal_evaluator.specs.Tables.{frame_tables}
use Rattle.solver_completeness.specs.Closed.{DeterminesNested}
use Rattle.solver_completeness.specs.ClosedTables.{AreClosed}
use Rattle.candidate_model.specs.Meaning.{ViewMeaning}
use Rattle.candidate_model.specs.Knowing.{is_knowable}
use Rattle.candidate_model.specs.DeclaredWell.{IsDeclaredWell}
use Rattle.candidate_model.specs.Asking.{GoalOverKinds, goal_over_kinds, all_known, clauses, self_of, next_of, begins_unknown}
use Rattle.candidate_model.specs.Candidates.{Candidate, unsure, unknowable, can_be, by_clauses, can_match, by_impls, as_written, misc, if_so, by_sized, by_copy, by_auto, by_tuple, by_fn_ptr, call_of, by_call, unsize_array_of, upcasts_from, upcasts_to, upcasts_of, unsize_by_struct, unsize_struct_of, unsize_known, unsizing_outlives, unsize_recording, by_unsize, built_in, bounds_from, object_source, written_source, objects_of, by_objects, upcast_source, all_equal, by_rule}
use Rattle.candidate_model.specs.Cover.{all_candidates}
use Rattle.candidate_model.specs.Solver.{most_candidates}
use Rattle.candidate_model.proofs.CandidateKinds.{all-made}
use Rattle.candidate_model.proofs.CandidateBounds.{candidates-are-few}
use Rattle.candidate_model.proofs.Cover.{asked-by, known-kinds}
use Rattle.candidate_model.proofs.Determined.{facts-same}
use Rattle.candidate_model.proofs.LawfulCandidates.{determines}
use Rattle.candidate_model.proofs.Recording.{every-recorded}
use Rattle.declarations.specs.Promised.Elaboration.{elaborate, supertraits}
use Rattle.solver_completeness.specs.SolverPlans.{specs_in_coherence, specs_outside}
use Rattle.solver_completeness.specs.SolverSpecs.{AreDetermined, AreFew, SpecsAreDetermined, SpecsAreFew, SpecsAreSure}
use Rattle.candidate_model.proofs.SoundCandidates.{kinds-whole}
use Rattle.solver_completeness.proofs.SolverPlans.{begins-known}
use Rattle.candidate_model.proofs.Basics.{append-assoc}
use Rattle.goal_evaluator.proofs.Basics.{both-lists}

pub outside-is : (m : ViewMeaning) (a : GoalOverKinds) → all_candidates m.view a ≡ specs_outside m a
outside-is m a = append-assoc (by_clauses m.view a (clauses a)) (built_in m.view a) (by_impls m.view a m.view.impls ++ by_objects m.view a)

-- ---- what is determined
module _ (m : ViewMeaning) (well : IsDeclaredWell m.view) (f : CanonicalForm) (a : GoalOverKinds) (is_asked : goal_over_kinds m.view f ≡ Some a) where
  kinds-are : kinds_known f.kinds ≡ a.kinds
  kinds-are = known-kinds f.kinds a.kinds (asked-by m.view f.goal.environment f.goal.predicate (all_known f.kinds) a is_asked).kinds_are

  all-determined : Every (DeterminesNested frame_tables (begin a.kinds)) (all_candidates m.view a)
  all-determined =
      Every-mono _ (DeterminesNested frame_tables (begin a.kinds))
      (λ c made s r l k p q e. determines (λ x. false) (λ x y. false) m well.terms well.determined Coherence f a is_asked c made s r l k p q e) (all_candidates m.view a) (all-made m.view a)

  first-determined : DeterminesNested frame_tables (begin a.kinds) (unknowable m.view a)
  first-determined s r l k p q e = facts-same a.kinds s r l k e (unknowable m.view a).nested

  in-coherence : (b : Bool) → Every (DeterminesNested frame_tables (begin a.kinds)) (if b then all_candidates m.view a else unknowable m.view a ∷ all_candidates m.view a)
  in-coherence true = all-determined
  in-coherence false = (first-determined, all-determined)

  pub determined-both : AreDetermined f (specs_in_coherence m a) × AreDetermined f (specs_outside m a)
  determined-both =
      subst (λ ks. Every (DeterminesNested frame_tables (begin ks)) (specs_in_coherence m a) × Every (DeterminesNested frame_tables (begin ks)) (specs_outside m a)) (sym kinds-are)
      (in-coherence (is_knowable m.view m.crate a.reference), subst (Every (DeterminesNested frame_tables (begin a.kinds))) (outside-is m a) all-determined)

  -- ---- how many there are
  few : suc (length (all_candidates m.view a)) ≤ most_candidates m.view f
  few = (candidates-are-few m well.one_struct well.rank well.acyclic).0 f a is_asked

  few-in-coherence : (b : Bool) → length (if b then all_candidates m.view a else unknowable m.view a ∷ all_candidates m.view a) ≤ most_candidates m.view f
  few-in-coherence true = omega (arith, few)
  few-in-coherence false = few

  less : (x y : ℕ) → suc x ≤ y → x ≤ y
  less x y h = omega (arith, h)

  pub few-both : AreFew m f (specs_in_coherence m a) × AreFew m f (specs_outside m a)
  few-both = (
    few-in-coherence (is_knowable m.view m.crate a.reference),
    subst (λ (cs : List Candidate). length cs ≤ most_candidates m.view f) (outside-is m a) (less (length (all_candidates m.view a)) (most_candidates m.view f) few),
  )

pub specs-are-determined : SpecsAreDetermined
specs-are-determined m well f a e = determined-both m well f a e

pub specs-are-few : SpecsAreFew
specs-are-few m well f a e = few-both m well f a e

-- ---- which are sure
abbrev Sure : Candidate → Type 0
Sure c = c.certainty ≡ Yes

module _ (V : World) (a : GoalOverKinds) where
  so : (b : Bool) (xs : List Candidate) → Every Sure xs → Every Sure (if_so b xs)
  so true xs h = h
  so false xs h = tt

  written-sure : (source : CandidateSource) (us : List Rule) → Every Sure (as_written V a source us)
  written-sure source [] = tt
  written-sure source (u ∷ us) = (refl, written-sure source us)

  call-sure : (self : Trees) → Every Sure (call_of V a self)
  call-sure none = tt
  call-sure (tree (fn_ptr n) types none) = tt
  call-sure (tree (fn_ptr n) types (tree l c others)) = (refl, tt)
  call-sure (tree l c o) = tt

  array-sure : (self : Trees) → Every Sure (unsize_array_of V a self)
  array-sure none = tt
  array-sure (tree array none o) = tt
  array-sure (tree array (tree l c n) none) = tt
  array-sure (tree array (tree l c n) (tree slice none o)) = tt
  array-sure (tree array (tree l c n) (tree slice (tree m d p) o)) = (refl, tt)
  array-sure (tree array (tree l c n) (tree k x o)) = tt
  array-sure (tree l c o) = tt

  upcasts-sure : (q : Reference) (i : ℕ) (rs : List Reference) → Every Sure (upcasts_from V a q i rs)
  upcasts-sure q i [] = tt
  upcasts-sure q i (r ∷ rs) = by (r.trait == q.trait) (upcasts-sure q (suc i) rs)
    where
      by : (b : Bool) → Every Sure (upcasts_from V a q (suc i) rs)
          → Every Sure (if b then by_rule V a (upcast_source i) (all_equal r.args q.args) [] ∷ upcasts_from V a q (suc i) rs else upcasts_from V a q (suc i) rs)
      by true h = (refl, h)
      by false h = h

  upcasts-to-sure : (ps qs : List Reference) → Every Sure (upcasts_to V a ps qs)
  upcasts-to-sure [] [] = (refl, tt)
  upcasts-to-sure (p ∷ ps) [] = (refl, tt)
  upcasts-to-sure [] (q ∷ qs) = tt
  upcasts-to-sure (p ∷ ps) (q ∷ qs) = by (p.trait == q.trait)
    where
      by : (b : Bool) → Every Sure (if b then by_rule V a misc (all_equal p.args q.args) [] ∷ [] else upcasts_from V a q 1 (supertraits V p))
      by true = (refl, tt)
      by false = upcasts-sure q 1 (supertraits V p)

  upcasts-of-sure : (self : Trees) → Every Sure (upcasts_of V a self)
  upcasts-of-sure none = tt
  upcasts-of-sure (tree dynamic b none) = tt
  upcasts-of-sure (tree dynamic b (tree dynamic d o)) =
      so (are_declared V (principal_with (tree dynamic b none) b) && upcasts_autos V (principal_with (tree dynamic b none) b) (autos_with (tree dynamic b none) b) (autos_with (tree dynamic b none) d)) _
      (upcasts-to-sure (principal_with (tree dynamic b none) b) (principal_with (tree dynamic b none) d))
  upcasts-of-sure (tree dynamic b (tree l d o)) = tt
  upcasts-of-sure (tree l c o) = tt

  structs-sure : (b d : Trees) (xs : List StructDecl) → Every Sure (flat_map (unsize_by_struct V a b d) xs)
  structs-sure b d [] = tt
  structs-sure b d (x ∷ xs) = both-lists Sure (unsize_by_struct V a b d x) (flat_map (unsize_by_struct V a b d) xs) (so (some_unsizing x.fields 0 b) _ (refl, tt)) (structs-sure b d xs)

  struct-of-sure : (self : Trees) → Every Sure (unsize_struct_of V a self)
  struct-of-sure none = tt
  struct-of-sure (tree (adt s) b none) = tt
  struct-of-sure (tree (adt s) b (tree (adt u) d o)) = so (s == u) _ (structs-sure b d (structs_named V s))
  struct-of-sure (tree (adt s) b (tree l d o)) = tt
  struct-of-sure (tree l c o) = tt

  known-sure : Every Sure (unsize_known V a (self_of a))
  known-sure =
      both-lists Sure (unsize_array_of V a (self_of a)) _ (array-sure (self_of a))
      (both-lists Sure (as_written V a misc (unsize_to_dyn_rules V (self_of a))) _ (written-sure misc (unsize_to_dyn_rules V (self_of a)))
      (both-lists Sure (upcasts_of V a (self_of a)) (unsize_struct_of V a (self_of a)) (upcasts-of-sure (self_of a)) (struct-of-sure (self_of a))))

  -- where the target is known
  unsize-sure : (b : Bool) → b ≡ false → Every Sure (if b then unsure ∷ [] else unsize_recording V a)
  unsize-sure true e = absurd (cc)
  unsize-sure false e = every-recorded (unsizing_outlives a.reference.args) Sure (λ c h. h) (unsize_known V a (self_of a)) known-sure

  built-sure : begins_unknown a.kinds (next_of (self_of a)) ≡ false → Every Sure (built_in V a)
  built-sure e =
      both-lists Sure (by_sized V a) _ (so (a.reference.trait == sized) _ (written-sure (BuiltinImpl Trivial) (sized_rules V (self_of a))))
      (both-lists Sure (by_copy V a) _ (so ((a.reference.trait == copy) || (a.reference.trait == clone)) _ (written-sure misc (copy_rules a.reference.trait (self_of a))))
      (both-lists Sure (by_auto V a) _ (so (is_auto V a.reference.trait) _ (written-sure misc (auto_rules V a.reference.trait (self_of a))))
      (both-lists Sure (by_tuple V a) _ (so (a.reference.trait == tuple_trait) _ (written-sure misc (tuple_rules (self_of a))))
      (both-lists Sure (by_fn_ptr V a) _ (so (a.reference.trait == fn_ptr_trait) _ (written-sure misc (fn_ptr_rules (self_of a))))
      (both-lists Sure (by_call V a) (by_unsize V a) (so (is_fn_trait a.reference.trait) _ (call-sure (self_of a)))
      (so (a.reference.trait == unsize) _ (unsize-sure (begins_unknown a.kinds (next_of (self_of a))) e)))))))

  clauses-sure : (rs : List Reference) → Every Sure (by_clauses V a rs)
  clauses-sure [] = tt
  clauses-sure (r ∷ rs) = by (can_be a.reference r) _ refl (clauses-sure rs)
    where
      by : (b : Bool) (c : Candidate) → Sure c → Every Sure (by_clauses V a rs) → Every Sure (if b then c ∷ by_clauses V a rs else by_clauses V a rs)
      by true c e h = (e, h)
      by false c e h = h

  impls-sure : (is : List ImplDecl) → Every Sure (by_impls V a is)
  impls-sure [] = tt
  impls-sure (i ∷ is) = by ((i.header.trait == a.reference.trait) && can_match a.reference.args i.header.args) _ refl (impls-sure is)
    where
      by : (b : Bool) (c : Candidate) → Sure c → Every Sure (by_impls V a is) → Every Sure (if b then c ∷ by_impls V a is else by_impls V a is)
      by true c e h = (e, h)
      by false c e h = h

  bounds-sure : (source : ℕ → CandidateSource) (n : ℕ) (rs : List Reference) → Every Sure (bounds_from V a source n rs)
  bounds-sure source n [] = tt
  bounds-sure source n (r ∷ rs) = by (can_be a.reference r) _ refl (bounds-sure source (suc n) rs)
    where
      by : (b : Bool) (c : Candidate) → Sure c → Every Sure (bounds_from V a source (suc n) rs) → Every Sure (if b then c ∷ bounds_from V a source (suc n) rs else bounds_from V a source (suc n) rs)
      by true c e h = (e, h)
      by false c e h = h

  objects-sure : (self : Trees) → Every Sure (objects_of V a self)
  objects-sure none = tt
  objects-sure (tree dynamic bounds others) =
      let self = tree dynamic bounds none in
      so (are_dyn_compatible V (principal_with self bounds)) _
      (both-lists Sure (if_so (not (a.reference.trait == sized)) (bounds_from V a written_source 0 (autos_with self bounds))) _
      (so (not (a.reference.trait == sized)) _ (bounds-sure written_source 0 (autos_with self bounds)))
      (so (not (a.reference.trait == sized)) _ (bounds-sure object_source 0 (elaborate V (principal_with self bounds)))))
  objects-sure (tree l c o) = tt

pub specs-are-sure : SpecsAreSure
specs-are-sure m f a e closed =
    both-lists Sure (by_clauses m.view a (clauses a) ++ built_in m.view a) (by_impls m.view a m.view.impls ++ by_objects m.view a)
    (both-lists Sure (by_clauses m.view a (clauses a)) (built_in m.view a) (clauses-sure m.view a (clauses a))
    (built-sure m.view a (begins-known a.kinds (subst AreClosed (sym (kinds-whole f.kinds a.kinds (asked-by m.view f.goal.environment f.goal.predicate (all_known f.kinds) a e).kinds_are)) closed) (next_of (self_of a)))))
    (both-lists Sure (by_impls m.view a m.view.impls) (by_objects m.view a) (impls-sure m.view a m.view.impls) (objects-sure m.view a (self_of a)))
