-- Each candidate is made as a rule, as an impl, or is unsure; so the steps are the trait's, and unknowns are determined.
use Rattle.std.proofs.Common.{◌≡◌, ℕ, suc, ◌==◌, Bool, true, false, not, ◌&&◌, if◌then◌else◌, List, [], ◌∷◌, ◌++◌, ◌⊎◌, inl, inr, refl, ap}
use Rattle.std.specs.List.{flat_map}
use Rattle.type_terms.specs.Promised.Label.{tuple, dynamic, array, slice, adt, fn_ptr}
use Rattle.type_terms.specs.Promised.Trees.{Trees, none, tree, ◌+++◌}
use Rattle.type_terms.specs.Promised.Worlds.{World, Reference, StructDecl, ImplDecl, structs_named}
use Rattle.type_terms.specs.Promised.Rules.{Rule, sized, is_fn_trait, unsize, sized_rules, copy_rules, auto_rules, tuple_rules, fn_ptr_rules, unsize_to_dyn_rules, are_dyn_compatible, principal_with, autos_with, but_last, last_asked, are_declared, upcasts_autos, some_unsizing, with_unsizing, last_unsizes}
use Rattle.type_terms.specs.Promised.Proofs.{In}
use Rattle.type_terms.proofs.Members.{here, there}
use Rattle.goal_evaluator.specs.Lists.{Every}
use Rattle.goal_evaluator.specs.declared.candidate.CandidateSource.{CandidateSource}
use Rattle.goal_evaluator.specs.declared.candidate.CandidateSource.TheVariants.{BuiltinImpl, ParamEnv}
use Rattle.goal_evaluator.specs.declared.candidate.BuiltinImplSource.TheVariants.{Trivial}
use Rattle.goal_evaluator.specs.FrameTables.{Equation}
use Rattle.declarations.specs.Promised.Elaboration.{elaborate, supertraits}
use Rattle.candidate_model.specs.Asking.{GoalOverKinds, clauses, self_of, next_of, begins_unknown}
use Rattle.candidate_model.specs.Candidates.{Candidate, all_equal, clause_source, by_rule, by_the_impl, unsure, can_be, by_clauses, as_written, if_so, misc, by_sized, by_copy, by_auto, by_tuple, by_fn_ptr, call_of, by_call, unsize_array_of, upcast_source, upcasts_from, upcasts_to, upcasts_of, unsize_by_struct, unsize_struct_of, unsize_known, recording, unsizing_outlives, unsize_recording, built_in, by_impls, can_match, bounds_from, object_source, written_source, objects_of}
use Rattle.candidate_model.specs.Cover.{all_candidates}
use Rattle.candidate_model.proofs.Recording.{every-recorded}
use Rattle.goal_evaluator.proofs.Basics.{every-append}

pub every-split : {A : Type 0} (P : A → Type 0) (xs ys : List A) → Every P (xs ++ ys) → Every P xs × Every P ys
every-split P [] ys e = (tt, e)
every-split P (x ∷ xs) ys e = let s = every-split P xs ys e.1 in ((e.0, s.0), s.1)

-- the candidate, but for what it records of lifetimes
abbrev pub with_regions : Trees → Candidate → Candidate
with_regions r c = record { source = c.source; kinds = c.kinds; equations = c.equations; regions = r; nested = c.nested; certainty = c.certainty }

module _ (V : World) (a : GoalOverKinds) where
  abbrev pub IsMadeAs : Candidate → Type 0
  IsMadeAs c =
      (r : Trees)
      × (((source : CandidateSource) × (es : List Equation) × (ps : List Reference) × (c ≡ with_regions r (by_rule V a source es ps))) ⊎ ((c ≡ with_regions r unsure) ⊎ ((i : ImplDecl) × In i V.impls × (c ≡ with_regions r (by_the_impl V a i)))))

  -- a candidate that stands in a list only if a test says so
  if-first : (b : Bool) (c : Candidate) (xs : List Candidate) → IsMadeAs c → Every IsMadeAs xs → Every IsMadeAs (if b then c ∷ xs else xs)
  if-first true c xs h e = (h, e)
  if-first false c xs h e = e

  rule-made : (source : CandidateSource) (es : List Equation) (ps : List Reference) → IsMadeAs (by_rule V a source es ps)
  rule-made source es ps = (none, inl (source, es, ps, refl))

  clauses-made : (rs : List Reference) → Every IsMadeAs (by_clauses V a rs)
  clauses-made [] = tt
  clauses-made (r ∷ rs) =
      if-first (can_be a.reference r) (by_rule V a (ParamEnv (clause_source r)) (all_equal a.reference.args r.args) []) (by_clauses V a rs) (rule-made (ParamEnv (clause_source r)) (all_equal a.reference.args r.args) []) (clauses-made rs)

  written-made : (source : CandidateSource) (us : List Rule) → Every IsMadeAs (as_written V a source us)
  written-made source [] = tt
  written-made source (u ∷ us) = (rule-made source [] u.premises, written-made source us)

  if-made : (b : Bool) (xs : List Candidate) → Every IsMadeAs xs → Every IsMadeAs (if_so b xs)
  if-made true xs e = e
  if-made false xs e = tt

  call-made : (t : Trees) → Every IsMadeAs (call_of V a t)
  call-made none = tt
  call-made (tree (fn_ptr n) types none) = tt
  call-made (tree (fn_ptr n) types (tree l c o)) = (rule-made misc (all_equal (tree tuple (but_last types) none) (tree l c none)) (last_asked sized types), tt)
  call-made (tree l c o) = tt

  array-made : (t : Trees) → Every IsMadeAs (unsize_array_of V a t)
  array-made none = tt
  array-made (tree array none o) = tt
  array-made (tree array (tree l c n) none) = tt
  array-made (tree array (tree l c n) (tree slice none o)) = tt
  array-made (tree array (tree l c n) (tree slice (tree m d p) o)) = (rule-made misc (all_equal (tree l c none) (tree m d none)) [], tt)
  array-made (tree array (tree l c n) (tree k d o)) = tt
  array-made (tree l c o) = tt

  upcasts-from-made : (q : Reference) (n : ℕ) (rs : List Reference) → Every IsMadeAs (upcasts_from V a q n rs)
  upcasts-from-made q n [] = tt
  upcasts-from-made q n (r ∷ rs) = if-first (r.trait == q.trait) (by_rule V a (upcast_source n) (all_equal r.args q.args) []) (upcasts_from V a q (suc n) rs) (rule-made (upcast_source n) (all_equal r.args q.args) []) (upcasts-from-made q (suc n) rs)

  upcasts-to-made : (ps qs : List Reference) → Every IsMadeAs (upcasts_to V a ps qs)
  upcasts-to-made ps [] = (rule-made misc [] [], tt)
  upcasts-to-made [] (q ∷ qs) = tt
  upcasts-to-made (p ∷ ps) (q ∷ qs) = by (p.trait == q.trait)
    where
      by : (b : Bool) → Every IsMadeAs (if b then by_rule V a misc (all_equal p.args q.args) [] ∷ [] else upcasts_from V a q 1 (supertraits V p))
      by true = (rule-made misc (all_equal p.args q.args) [], tt)
      by false = upcasts-from-made q 1 (supertraits V p)

  upcasts-made : (t : Trees) → Every IsMadeAs (upcasts_of V a t)
  upcasts-made none = tt
  upcasts-made (tree dynamic b none) = tt
  upcasts-made (tree dynamic b (tree dynamic d o)) =
      let self = tree dynamic b none in
      if-made (are_declared V (principal_with self b) && upcasts_autos V (principal_with self b) (autos_with self b) (autos_with self d)) (upcasts_to V a (principal_with self b) (principal_with self d))
      (upcasts-to-made (principal_with self b) (principal_with self d))
  upcasts-made (tree dynamic b (tree l d o)) = tt
  upcasts-made (tree l c o) = tt

  struct-one : (b d : Trees) (x : StructDecl) → Every IsMadeAs (unsize_by_struct V a b d x)
  struct-one b d x = if-made (some_unsizing x.fields 0 b) (by_rule V a misc (all_equal (with_unsizing x.fields 0 b d) d) (last_unsizes x.fields b d) ∷ []) (rule-made misc (all_equal (with_unsizing x.fields 0 b d) d) (last_unsizes x.fields b d), tt)

  structs-made : (b d : Trees) (xs : List StructDecl) → Every IsMadeAs (flat_map (unsize_by_struct V a b d) xs)
  structs-made b d [] = tt
  structs-made b d (x ∷ xs) = every-append IsMadeAs (unsize_by_struct V a b d x) (flat_map (unsize_by_struct V a b d) xs) (struct-one b d x) (structs-made b d xs)

  struct-made : (t : Trees) → Every IsMadeAs (unsize_struct_of V a t)
  struct-made none = tt
  struct-made (tree (adt s) b none) = tt
  struct-made (tree (adt s) b (tree (adt u) d o)) = if-made (s == u) (flat_map (unsize_by_struct V a b d) (structs_named V s)) (structs-made b d (structs_named V s))
  struct-made (tree (adt s) b (tree l d o)) = tt
  struct-made (tree l c o) = tt

  known-made : (t : Trees) → Every IsMadeAs (unsize_known V a t)
  known-made t =
      every-append IsMadeAs (unsize_array_of V a t) (as_written V a misc (unsize_to_dyn_rules V t) ++ (upcasts_of V a t ++ unsize_struct_of V a t)) (array-made t)
      (every-append IsMadeAs (as_written V a misc (unsize_to_dyn_rules V t)) (upcasts_of V a t ++ unsize_struct_of V a t) (written-made misc (unsize_to_dyn_rules V t))
      (every-append IsMadeAs (upcasts_of V a t) (unsize_struct_of V a t) (upcasts-made t) (struct-made t)))

  recorded-made : (r : Trees) (c : Candidate) → IsMadeAs c → IsMadeAs (recording r c)
  recorded-made r c (k, inl x) = (k +++ r, inl (x.0, x.1, x.2, ap (recording r) x.3))
  recorded-made r c (k, inr (inl e)) = (k +++ r, inr (inl (ap (recording r) e)))
  recorded-made r c (k, inr (inr x)) = (k +++ r, inr (inr (x.0, x.1, ap (recording r) x.2)))

  unsize-made : (b : Bool) → Every IsMadeAs (if b then unsure ∷ [] else unsize_recording V a)
  unsize-made true = ((none, inr (inl refl)), tt)
  unsize-made false = every-recorded (unsizing_outlives a.reference.args) IsMadeAs (recorded-made (unsizing_outlives a.reference.args)) (unsize_known V a (self_of a)) (known-made (self_of a))

  built-in-made : Every IsMadeAs (built_in V a)
  built-in-made =
      every-append IsMadeAs (by_sized V a) _ (if-made _ _ (written-made (BuiltinImpl Trivial) (sized_rules V (self_of a))))
      (every-append IsMadeAs (by_copy V a) _ (if-made _ _ (written-made misc (copy_rules a.reference.trait (self_of a))))
      (every-append IsMadeAs (by_auto V a) _ (if-made _ _ (written-made misc (auto_rules V a.reference.trait (self_of a))))
      (every-append IsMadeAs (by_tuple V a) _ (if-made _ _ (written-made misc (tuple_rules (self_of a))))
      (every-append IsMadeAs (by_fn_ptr V a) _ (if-made _ _ (written-made misc (fn_ptr_rules (self_of a))))
      (every-append IsMadeAs (by_call V a) _ (if-made (is_fn_trait a.reference.trait) (call_of V a (self_of a)) (call-made (self_of a)))
      (if-made (a.reference.trait == unsize) _ (unsize-made (begins_unknown a.kinds (next_of (self_of a))))))))))

  impls-made : (is : List ImplDecl) → ((i : ImplDecl) → In i is → In i V.impls) → Every IsMadeAs (by_impls V a is)
  impls-made [] f = tt
  impls-made (i ∷ is) f = by ((i.header.trait == a.reference.trait) && can_match a.reference.args i.header.args) (impls-made is (λ j k. f j (there j i is k)))
    where
      by : (b : Bool) → Every IsMadeAs (by_impls V a is) → Every IsMadeAs (if b then by_the_impl V a i ∷ by_impls V a is else by_impls V a is)
      by true e = ((none, inr (inr (i, f i (here i is), refl))), e)
      by false e = e

  bounds-made : (source : ℕ → CandidateSource) (n : ℕ) (rs : List Reference) → Every IsMadeAs (bounds_from V a source n rs)
  bounds-made source n [] = tt
  bounds-made source n (r ∷ rs) =
      if-first (can_be a.reference r) (by_rule V a (source n) (all_equal a.reference.args r.args) (supertraits V a.reference)) (bounds_from V a source (suc n) rs)
      (rule-made (source n) (all_equal a.reference.args r.args) (supertraits V a.reference)) (bounds-made source (suc n) rs)

  objects-made : (t : Trees) → Every IsMadeAs (objects_of V a t)
  objects-made none = tt
  objects-made (tree dynamic bounds others) =
      let self = tree dynamic bounds none in
      if-made (are_dyn_compatible V (principal_with self bounds)) _
      (every-append IsMadeAs (if_so (not (a.reference.trait == sized)) (bounds_from V a written_source 0 (autos_with self bounds))) _ (if-made (not (a.reference.trait == sized)) _ (bounds-made written_source 0 (autos_with self bounds)))
      (if-made (not (a.reference.trait == sized)) _ (bounds-made object_source 0 (elaborate V (principal_with self bounds)))))
  objects-made (tree l c o) = tt

  pub all-made : Every IsMadeAs (all_candidates V a)
  all-made =
      every-append IsMadeAs (by_clauses V a (clauses a)) _ (clauses-made (clauses a))
      (every-append IsMadeAs (built_in V a) _ built-in-made (every-append IsMadeAs (by_impls V a V.impls) _ (impls-made V.impls (λ i k. k)) (objects-made (self_of a))))
