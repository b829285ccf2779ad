-- Every candidate but where-clauses is no wider than the goal and what is declared.
use Rattle.std.proofs.Common.{◌≡◌, ℕ, suc, ◌≤◌, max, Bool, true, false, not, ◌&&◌, ◌||◌, ◌==◌, if◌then◌else◌, List, [], ◌∷◌, ◌++◌, length, sym, ap, subst, arith}
use Rattle.std.specs.List.{flat_map}
use Rattle.type_terms.specs.Promised.Label.{tuple, dynamic, array, slice, adt, fn_ptr}
use Rattle.type_terms.specs.Promised.Trees.{Trees, none, tree}
use Rattle.type_terms.specs.Promised.Worlds.{World, Reference, StructDecl, TraitDecl, ImplDecl, structs_named}
use Rattle.type_terms.specs.Promised.Rules.{Rule, sized, clone, copy, tuple_trait, fn_ptr_trait, is_fn_trait, unsize, is_auto, is_coinductive, sized_rules, copy_rules, auto_rules, tuple_rules, fn_ptr_rules, unsize_to_dyn_rules, but_last, last_asked, together, principal_with, autos_with, are_dyn_compatible, are_declared, upcasts_autos, some_unsizing, with_unsizing, last_unsizes}
use Rattle.type_terms.specs.Promised.Proofs.{In}
use Rattle.type_terms.proofs.Members.{here, there, in-filter}
use Rattle.goal_evaluator.specs.Lists.{Every}
use Rattle.goal_evaluator.specs.declared.candidate.CandidateSource.{CandidateSource}
use Rattle.goal_evaluator.specs.declared.candidate.CandidateSource.TheVariants.{BuiltinImpl}
use Rattle.goal_evaluator.specs.declared.candidate.BuiltinImplSource.TheVariants.{Trivial}
use Rattle.goal_evaluator.specs.FrameTables.{Equation}
use Rattle.goal_evaluator.specs.Promised.Widths.{count, width}
use Rattle.goal_evaluator.specs.Widths.{width_of_predicates, EquationWithin, number_of}
use Rattle.goal_evaluator.proofs.Widths.{IsWithin, within, width-within, single-count}
use Rattle.candidate_model.specs.Asking.{GoalOverKinds, all_known, self_of, next_of, begins_unknown}
use Rattle.declarations.specs.Promised.Elaboration.{elaborate, supertraits}
use Rattle.candidate_model.specs.Meaning.{ViewMeaning}
use Rattle.candidate_model.specs.Declared.{FieldsAreOne}
use Rattle.candidate_model.specs.Candidates.{Candidate, all_equal, by_rule, unsure, unknowable, can_be, by_the_impl, can_match, by_impls, as_written, misc, if_so, by_sized, by_copy, by_auto, by_tuple, by_fn_ptr, call_of, by_call, unsize_array_of, upcast_source, upcasts_from, upcasts_to, upcasts_of, unsize_by_struct, unsize_struct_of, unsize_known, unsizing_outlives, unsize_recording, by_unsize, built_in, bounds_from, object_source, written_source, objects_of, by_objects}
use Rattle.candidate_model.specs.Promised.Widths.{greatest, width_of, supers_of, declared_width}
use Rattle.candidate_model.specs.Solver.{widest_of}
use Rattle.candidate_model.proofs.Premises.{IsNarrow, CandidatesAreNarrow}
use Rattle.candidate_model.proofs.Cover.{IsAsked, asked-by}
use Rattle.candidate_model.proofs.Recording.{every-recorded}
use Rattle.candidate_model.proofs.CandidateWidths.{equal-within, premises-within}
use Rattle.candidate_model.proofs.CandidateBounds.{plain-within, plain-count}
use Rattle.candidate_model.proofs.DeclaredWidths.{greatest-at, impl-narrow}
use Rattle.candidate_model.proofs.Elaborating.{every-in}
use Rattle.candidate_model.proofs.NarrowRows.{IsField, args-within, AskShort, sized-short, copy-short, auto-short, tuple-short, fn-ptr-short, to-dyn-short, last-short, last-unsizes-short, principal-short, autos-short, elaborated-short, supertraits-short, but-last-within, but-last-count, unsizing-within}
use Rattle.goal_evaluator.proofs.Basics.{both-lists}
use Rattle.type_terms.proofs.NumberBasics.{in-goal}

module _ (V : World) (n : ℕ) (fields : (x : StructDecl) → In x V.structs → Every (IsField n) x.fields) (bounds : (x : TraitDecl) → In x V.traits → (b : Reference) → In b x.bounds → width_of b ≤ n) (a : GoalOverKinds) (environment : width_of_predicates a.environment ≤ n)
    (count_is : count a.reference.args ≤ n) (goal : IsWithin n a.reference.args) where
  abbrev Narrow : Candidate → Type 0
  Narrow c = IsNarrow n c

  equal : (x y : Trees) → IsWithin n x → IsWithin n y → Every (EquationWithin n) (all_equal x y)
  equal x y h g = equal-within n x y (width-within n x h) (width-within n y g)

  rule-narrow : (source : CandidateSource) (es : List Equation) (ps : List Reference) → Every (EquationWithin n) es → Every (λ r. width_of r ≤ n) ps → Narrow (by_rule V a source es ps)
  rule-narrow source es ps h g = (h, premises-within n a (is_coinductive V a.reference.trait) environment ps g)

  so : (b : Bool) (xs : List Candidate) → Every Narrow xs → Every Narrow (if_so b xs)
  so true xs h = h
  so false xs h = tt

  written-narrow : (source : CandidateSource) (us : List Rule) → AskShort V n fields bounds us → Every Narrow (as_written V a source us)
  written-narrow source [] h = tt
  written-narrow source (u ∷ us) h = (rule-narrow source [] u.premises tt h.0, written-narrow source us h.1)

  -- ---- calls, arrays, upcasts, structs
  call-narrow : (u : Trees) → IsWithin n u → count u ≤ n → Every Narrow (call_of V a u)
  call-narrow none h g = tt
  call-narrow (tree (fn_ptr k) types none) h g = tt
  call-narrow (tree (fn_ptr k) types (tree l c o)) h g =
      let fewer = but-last-count V n fields bounds types in
      let types_fit = h.0 in (
        rule-narrow misc (all_equal (tree tuple (but_last types) none) (tree l c none)) (last_asked sized types)
            (equal (tree tuple (but_last types) none) (tree l c none) (omega (arith, fewer, types_fit), but-last-within V n fields bounds types h.1, tt) (h.2.0, h.2.1, tt)) (last-short V n fields bounds sized types (omega (arith, g)) h.1),
        tt,
      )
  call-narrow (tree l c o) h g = tt

  array-narrow : (u : Trees) → IsWithin n u → Every Narrow (unsize_array_of V a u)
  array-narrow none h = tt
  array-narrow (tree array none o) h = tt
  array-narrow (tree array (tree l c k) none) h = tt
  array-narrow (tree array (tree l c k) (tree slice none o)) h = tt
  array-narrow (tree array (tree l c k) (tree slice (tree m d p) o)) h =
      (rule-narrow misc (all_equal (tree l c none) (tree m d none)) [] (equal (tree l c none) (tree m d none) (h.1.0, h.1.1, tt) (h.2.1.0, h.2.1.1, tt)) tt, tt)
  array-narrow (tree array (tree l c k) (tree m d o)) h = tt
  array-narrow (tree l c o) h = tt

  upcasts-from-narrow : (q : Reference) → width_of q ≤ n → (i : ℕ) (rs : List Reference) → Every (λ r. width_of r ≤ n) rs → Every Narrow (upcasts_from V a q i rs)
  upcasts-from-narrow q h i [] e = tt
  upcasts-from-narrow q h i (r ∷ rs) e = by (r.trait == q.trait) (upcasts-from-narrow q h (suc i) rs e.1)
    where
      by : (b : Bool) → Every Narrow (upcasts_from V a q (suc i) rs) → Every Narrow (if b then by_rule V a (upcast_source i) (all_equal r.args q.args) [] ∷ upcasts_from V a q (suc i) rs else upcasts_from V a q (suc i) rs)
      by true k = (rule-narrow (upcast_source i) (all_equal r.args q.args) [] (equal r.args q.args (args-within V n fields bounds r e.0) (args-within V n fields bounds q h)) tt, k)
      by false k = k

  upcasts-to-narrow : (ps qs : List Reference) → Every (λ r. width_of r ≤ n) ps → Every (λ r. width_of r ≤ n) qs → Every Narrow (upcasts_to V a ps qs)
  upcasts-to-narrow [] [] e f = (rule-narrow misc [] [] tt tt, tt)
  upcasts-to-narrow (p ∷ ps) [] e f = (rule-narrow misc [] [] tt tt, tt)
  upcasts-to-narrow [] (q ∷ qs) e f = tt
  upcasts-to-narrow (p ∷ ps) (q ∷ qs) e f = by (p.trait == q.trait)
    where
      by : (b : Bool) → Every Narrow (if b then by_rule V a misc (all_equal p.args q.args) [] ∷ [] else upcasts_from V a q 1 (supertraits V p))
      by true = (rule-narrow misc (all_equal p.args q.args) [] (equal p.args q.args (args-within V n fields bounds p e.0) (args-within V n fields bounds q f.0)) tt, tt)
      by false = upcasts-from-narrow q f.0 1 (supertraits V p) (supertraits-short V n fields bounds p e.0)

  upcasts-narrow : (u : Trees) → IsWithin n u → count u ≤ n → Every Narrow (upcasts_of V a u)
  upcasts-narrow none h g = tt
  upcasts-narrow (tree dynamic b none) h g = tt
  upcasts-narrow (tree dynamic b (tree dynamic d o)) h g =
      let self = tree dynamic b none in
      so (are_declared V (principal_with self b) && upcasts_autos V (principal_with self b) (autos_with self b) (autos_with self d)) (upcasts_to V a (principal_with self b) (principal_with self d))
      (upcasts-to-narrow (principal_with self b) (principal_with self d) (principal-short V n fields bounds dynamic b b (omega (arith, g)) (h.0, h.1, tt) h.1) (principal-short V n fields bounds dynamic b d (omega (arith, g)) (h.0, h.1, tt) h.2.1))
  upcasts-narrow (tree dynamic b (tree l d o)) h g = tt
  upcasts-narrow (tree l c o) h g = tt

  structs-narrow : (b d : Trees) → 2 ≤ n → IsWithin n b → IsWithin n d → (xs : List StructDecl) → ((x : StructDecl) → In x xs → In x V.structs) → Every Narrow (flat_map (unsize_by_struct V a b d) xs)
  structs-narrow b d two h g [] f = tt
  structs-narrow b d two h g (x ∷ xs) f =
      both-lists Narrow (unsize_by_struct V a b d x) (flat_map (unsize_by_struct V a b d) xs)
      (so (some_unsizing x.fields 0 b) (by_rule V a misc (all_equal (with_unsizing x.fields 0 b d) d) (last_unsizes x.fields b d) ∷ []) (
        rule-narrow misc (all_equal (with_unsizing x.fields 0 b d) d) (last_unsizes x.fields b d) (equal (with_unsizing x.fields 0 b d) d (unsizing-within V n fields bounds x.fields 0 b d h g) g)
            (last-unsizes-short V n fields bounds x.fields b d two h g (fields x (f x (here x xs)))),
        tt,
      ))
      (structs-narrow b d two h g xs (λ y i. f y (there y x xs i)))

  struct-narrow : (u : Trees) → IsWithin n u → count u ≤ n → Every Narrow (unsize_struct_of V a u)
  struct-narrow none h g = tt
  struct-narrow (tree (adt s) b none) h g = tt
  struct-narrow (tree (adt s) b (tree (adt t) d o)) h g =
      so (s == t) (flat_map (unsize_by_struct V a b d) (structs_named V s)) (structs-narrow b d (omega (arith, g)) h.1 h.2.1 (structs_named V s) (λ x i. (in-filter (λ (y : StructDecl). y.name == s) V.structs x i).0))
  struct-narrow (tree (adt s) b (tree l d o)) h g = tt
  struct-narrow (tree l c o) h g = tt

  -- ---- all built-in rules
  self_within : IsWithin n (self_of a)
  self_within = plain-within n a.reference.args goal

  self_count : count (self_of a) ≤ n
  self_count = subst (λ z. z ≤ n) (sym (plain-count a.reference.args)) count_is

  known-narrow : Every Narrow (unsize_known V a (self_of a))
  known-narrow =
      both-lists Narrow (unsize_array_of V a (self_of a)) _ (array-narrow (self_of a) self_within)
      (both-lists Narrow (as_written V a misc (unsize_to_dyn_rules V (self_of a))) _ (written-narrow misc (unsize_to_dyn_rules V (self_of a)) (to-dyn-short V n fields bounds (self_of a) self_within self_count))
      (both-lists Narrow (upcasts_of V a (self_of a)) (unsize_struct_of V a (self_of a)) (upcasts-narrow (self_of a) self_within self_count) (struct-narrow (self_of a) self_within self_count)))

  unsize-narrow : (b : Bool) → Every Narrow (if b then unsure ∷ [] else unsize_recording V a)
  unsize-narrow true = ((tt, tt), tt)
  unsize-narrow false = every-recorded (unsizing_outlives a.reference.args) Narrow (λ c h. h) (unsize_known V a (self_of a)) known-narrow

  built-in-narrow : Every Narrow (built_in V a)
  built-in-narrow =
      both-lists Narrow (by_sized V a) _ (so (a.reference.trait == sized) _ (written-narrow (BuiltinImpl Trivial) (sized_rules V (self_of a)) (sized-short V n fields bounds (self_of a) self_within self_count)))
      (both-lists Narrow (by_copy V a) _
      (so ((a.reference.trait == copy) || (a.reference.trait == clone)) _ (written-narrow misc (copy_rules a.reference.trait (self_of a)) (copy-short V n fields bounds a.reference.trait (self_of a) self_within self_count)))
      (both-lists Narrow (by_auto V a) _ (so (is_auto V a.reference.trait) _ (written-narrow misc (auto_rules V a.reference.trait (self_of a)) (auto-short V n fields bounds a.reference.trait (self_of a) self_within self_count)))
      (both-lists Narrow (by_tuple V a) _ (so (a.reference.trait == tuple_trait) _ (written-narrow misc (tuple_rules (self_of a)) (tuple-short V n fields bounds (self_of a))))
      (both-lists Narrow (by_fn_ptr V a) _ (so (a.reference.trait == fn_ptr_trait) _ (written-narrow misc (fn_ptr_rules (self_of a)) (fn-ptr-short V n fields bounds (self_of a))))
      (both-lists Narrow (by_call V a) (by_unsize V a) (so (is_fn_trait a.reference.trait) _ (call-narrow (self_of a) self_within self_count))
      (so (a.reference.trait == unsize) _ (unsize-narrow (begins_unknown a.kinds (next_of (self_of a))))))))))

  -- ---- object bounds
  supers_short : Every (λ r. width_of r ≤ n) (supertraits V a.reference)
  supers_short = let w = width-within n a.reference.args goal in supertraits-short V n fields bounds a.reference (omega (arith, w, count_is))

  bounds-narrow : (source : ℕ → CandidateSource) (i : ℕ) (rs : List Reference) → Every (λ r. width_of r ≤ n) rs → Every Narrow (bounds_from V a source i rs)
  bounds-narrow source i [] e = tt
  bounds-narrow source i (r ∷ rs) e = by (can_be a.reference r) (bounds-narrow source (suc i) rs e.1)
    where
      by : (b : Bool) → Every Narrow (bounds_from V a source (suc i) rs)
          → Every Narrow (if b then by_rule V a (source i) (all_equal a.reference.args r.args) (supertraits V a.reference) ∷ bounds_from V a source (suc i) rs else bounds_from V a source (suc i) rs)
      by true k = (rule-narrow (source i) (all_equal a.reference.args r.args) (supertraits V a.reference) (equal a.reference.args r.args goal (args-within V n fields bounds r e.0)) supers_short, k)
      by false k = k

  objects-narrow : (u : Trees) → IsWithin n u → count u ≤ n → Every Narrow (objects_of V a u)
  objects-narrow none h g = tt
  objects-narrow (tree dynamic b o) h g =
      let self = tree dynamic b none in
      so (are_dyn_compatible V (principal_with self b)) _
      (both-lists Narrow (if_so (not (a.reference.trait == sized)) (bounds_from V a written_source 0 (autos_with self b))) _
      (so (not (a.reference.trait == sized)) _ (bounds-narrow written_source 0 (autos_with self b) (autos-short V n fields bounds dynamic b b (omega (arith, g)) (h.0, h.1, tt))))
      (so (not (a.reference.trait == sized)) _
      (bounds-narrow object_source 0 (elaborate V (principal_with self b)) (elaborated-short V n fields bounds (principal_with self b) (principal-short V n fields bounds dynamic b b (omega (arith, g)) (h.0, h.1, tt) h.1)))))
  objects-narrow (tree l c o) h g = tt

  module _ (declared : declared_width V ≤ n) where
    impls-narrow : (is : List ImplDecl) → ((i : ImplDecl) → In i is → In i V.impls) → Every Narrow (by_impls V a is)
    impls-narrow [] f = tt
    impls-narrow (i ∷ is) f = by ((i.header.trait == a.reference.trait) && can_match a.reference.args i.header.args) (impls-narrow is (λ j k. f j (there j i is k)))
      where
        by : (b : Bool) → Every Narrow (by_impls V a is) → Every Narrow (if b then by_the_impl V a i ∷ by_impls V a is else by_impls V a is)
        by true k = (impl-narrow V a n declared (width-within n a.reference.args goal) environment i (f i (here i is)), k)
        by false k = k

    all-narrow : Every Narrow (unknowable V a ∷ (built_in V a ++ (by_impls V a V.impls ++ by_objects V a)))
    all-narrow = (
      (tt, premises-within n a false environment (supertraits V a.reference) supers_short),
      both-lists Narrow (built_in V a) _ built-in-narrow (both-lists Narrow (by_impls V a V.impls) (by_objects V a) (impls-narrow V.impls (λ i j. j)) (objects-narrow (self_of a) self_within self_count)),
    )

module _ (V : World) (n : ℕ) (h : declared_width V ≤ n) where
  fields-within : FieldsAreOne V → (x : StructDecl) → In x V.structs → Every (IsField n) x.fields
  fields-within one x i = every-in (IsField n) x.fields (λ t j. let e = single-count t (one x t i j) in (omega (arith, e), within n t (narrow t j)))
    where
      by : (p q w s t u : ℕ) → w ≤ q → max p q ≤ s → max s (max t u) ≤ n → w ≤ n
      by p q w s t u f g k = omega (arith, f, g, k)

      narrow : (t : Trees) → In t x.fields → width t ≤ n
      narrow t j = by (count (together x.fields)) (greatest width x.fields) (width t) _ _ _ (greatest-at width x.fields t j) (greatest-at (λ (y : StructDecl). max (count (together y.fields)) (greatest width y.fields)) V.structs x i) h

  bounds-within : (x : TraitDecl) → In x V.traits → (b : Reference) → In b x.bounds → width_of b ≤ n
  bounds-within x i b j =
      by (supers_of V x) (length x.bounds) (greatest width_of x.bounds) (width_of b) _ _ _ (greatest-at width_of x.bounds b j) (greatest-at (λ (y : TraitDecl). max (supers_of V y) (max (length y.bounds) (greatest width_of y.bounds))) V.traits x i) h
    where
      by : (p q r w s t u : ℕ) → w ≤ r → max p (max q r) ≤ t → max s (max t u) ≤ n → w ≤ n
      by p q r w s t u f g k = omega (arith, f, g, k)

pub candidates-are-narrow : (m : ViewMeaning) → FieldsAreOne m.view → CandidatesAreNarrow m
candidates-are-narrow m one f a is =
    all-narrow m.view n (fields-within m.view n declared one) (bounds-within m.view n declared) a environment goal.0 (within n a.reference.args goal.1) declared
  where
    n : ℕ
    n = widest_of m.view f

    number : ℕ
    number = number_of (record { form = f; coinductive = false })

    last-most : (x y : ℕ) → y ≤ max x y
    last-most x y = omega arith

    first-most : (e p d x : ℕ) → e ≡ x → x ≤ max (max e p) d
    first-most e p d x h = omega (arith, h)

    declared : declared_width m.view ≤ n
    declared = last-most number (declared_width m.view)

    parts : IsAsked m.view f.goal.environment f.goal.predicate (all_known f.kinds) a
    parts = asked-by m.view f.goal.environment f.goal.predicate (all_known f.kinds) a is

    environment : width_of_predicates a.environment ≤ n
    environment = first-most (width_of_predicates f.goal.environment) (width_of_predicates f.goal.predicate) (declared_width m.view) (width_of_predicates a.environment) (ap width_of_predicates parts.environment_is)

    goal : (count a.reference.args ≤ n) × (width a.reference.args ≤ n)
    goal =
        in-goal (width_of_predicates f.goal.environment) (width_of_predicates f.goal.predicate) (declared_width m.view) (count a.reference.args) (width a.reference.args)
        (ap width_of_predicates parts.predicate_is)
