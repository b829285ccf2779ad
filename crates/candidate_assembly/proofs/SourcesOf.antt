-- From where the candidates of each section are.
use Rattle.std.proofs.Common.{◌≡◌, ℕ, suc, ◌==◌, Bool, true, false, not, ◌&&◌, ◌||◌, if◌then◌else◌, List, [], ◌∷◌, ◌++◌, refl, sym, ◌∙◌, ap, subst}
use Rattle.std.specs.List.{flat_map, list_any}
use Rattle.type_terms.specs.Promised.Label.{dynamic, array, slice, adt, fn_ptr}
use Rattle.type_terms.specs.Promised.Trees.{Trees, none, tree}
use Rattle.type_terms.specs.Promised.Worlds.{World, Reference, StructDecl, ImplDecl, structs_named}
use Rattle.type_terms.specs.Promised.Rules.{Rule, sized, clone, copy, tuple_trait, fn_ptr_trait, is_fn_trait, unsize, is_auto, is_written, sized_rules, copy_rules, auto_rules, auto_rules_plain, tuple_rules, fn_ptr_rules, unsize_to_dyn_rules, principal_with, autos_with, are_dyn_compatible, are_declared, upcasts_autos, some_unsizing, with_unsizing, last_unsizes}
use Rattle.goal_evaluator.specs.Lists.{Every}
use Rattle.goal_evaluator.specs.declared.candidate.CandidateSource.{CandidateSource}
use Rattle.goal_evaluator.specs.declared.candidate.CandidateSource.TheVariants.{Impl, BuiltinImpl, ParamEnv}
use Rattle.goal_evaluator.specs.declared.candidate.BuiltinImplSource.TheVariants.{Trivial, Misc, Object, TraitUpcasting}
use Rattle.declarations.specs.Promised.Elaboration.{elaborate, supertraits}
use Rattle.declarations.specs.Apart.{are_apart}
use Rattle.candidate_model.specs.Asking.{GoalOverKinds, self_of, next_of, begins_unknown}
use Rattle.candidate_model.specs.Solver.{is_clause, is_non_global, is_impl}
use Rattle.candidate_model.specs.Candidates.{Candidate, unsure, all_equal, by_rule, clause_source, can_be, by_clauses, by_the_impl, can_match, by_impls, as_written, misc, if_so, by_sized, by_copy, by_auto, by_tuple, by_fn_ptr, call_of, by_call, unsize_array_of, upcast_source, upcasts_from, upcasts_to, upcasts_of, unsize_by_struct, unsize_struct_of, unsize_known, unsizing_outlives, unsize_recording, built_in, bounds_from, object_source, written_source, objects_of, by_objects}
use Rattle.type_terms.proofs.Members.{same-number}
use Rattle.candidate_model.proofs.Recording.{every-recorded}
use Rattle.candidate_assembly.specs.Sections.{begins_dyn, misc_is_bound, is_unknowable, is_built_in, is_bound, autos_of, sources_tell}
use Rattle.goal_evaluator.proofs.Basics.{every-append}
use Rattle.std.proofs.lemmas.Bool.{not-false}

-- ---- sources of different sections
pub built-clause : (b : Bool) (s : CandidateSource) → is_built_in b s ≡ true → is_clause s ≡ false
built-clause b (ParamEnv g) h = absurd cc
built-clause b s h = refl

pub impl-clause : (s : CandidateSource) → is_impl s ≡ true → is_clause s ≡ false
impl-clause (ParamEnv g) h = absurd cc
impl-clause s h = refl

pub bound-clause : (b : Bool) (s : CandidateSource) → is_bound b s ≡ true → is_clause s ≡ false
bound-clause b (ParamEnv g) h = absurd cc
bound-clause b s h = refl

pub impl-built : (b : Bool) (s : CandidateSource) → is_impl s ≡ true → is_built_in b s ≡ false
impl-built b (Impl i) h = refl
impl-built b s h = absurd cc

pub bound-built : (b : Bool) (s : CandidateSource) → is_bound b s ≡ true → is_built_in b s ≡ false
bound-built b (BuiltinImpl Trivial) h = absurd cc
bound-built b (BuiltinImpl Misc) h = ap not h
bound-built b (BuiltinImpl (Object i)) h = refl
bound-built b (BuiltinImpl (TraitUpcasting i)) h = absurd cc
bound-built b s h = absurd cc

pub bound-impl : (b : Bool) (s : CandidateSource) → is_bound b s ≡ true → is_impl s ≡ false
bound-impl b (Impl i) h = absurd cc
bound-impl b s h = refl

pub clause-impl : (s : CandidateSource) → is_clause s ≡ true → is_impl s ≡ false
clause-impl (Impl i) h = absurd cc
clause-impl s h = refl

pub clause-bound : (b : Bool) (s : CandidateSource) → is_clause s ≡ true → is_bound b s ≡ false
clause-bound b (ParamEnv g) h = refl
clause-bound b s h = absurd cc

pub built-impl : (b : Bool) (s : CandidateSource) → is_built_in b s ≡ true → is_impl s ≡ false
built-impl b (Impl i) h = absurd cc
built-impl b s h = refl

pub built-bound : (b : Bool) (s : CandidateSource) → is_built_in b s ≡ true → is_bound b s ≡ false
built-bound b (BuiltinImpl Trivial) h = refl
built-bound true (BuiltinImpl Misc) h = absurd cc
built-bound false (BuiltinImpl Misc) h = refl
built-bound b (BuiltinImpl (Object i)) h = absurd cc
built-bound b (BuiltinImpl (TraitUpcasting i)) h = refl
built-bound b s h = absurd cc

pub clause-known : (s : CandidateSource) → is_clause s ≡ true → is_unknowable s ≡ false
clause-known (ParamEnv g) h = refl
clause-known s h = absurd cc

pub built-known : (b : Bool) (s : CandidateSource) → is_built_in b s ≡ true → is_unknowable s ≡ false
built-known b (BuiltinImpl i) h = refl
built-known b s h = absurd cc

pub impl-known : (s : CandidateSource) → is_impl s ≡ true → is_unknowable s ≡ false
impl-known (Impl i) h = refl
impl-known s h = absurd cc

pub bound-known : (b : Bool) (s : CandidateSource) → is_bound b s ≡ true → is_unknowable s ≡ false
bound-known b (BuiltinImpl i) h = refl
bound-known b s h = absurd cc

pub impl-quiet : (s : CandidateSource) → is_impl s ≡ true → is_non_global s ≡ false
impl-quiet (Impl i) h = refl
impl-quiet s h = absurd cc

pub bound-quiet : (b : Bool) (s : CandidateSource) → is_bound b s ≡ true → is_non_global s ≡ false
bound-quiet b (BuiltinImpl i) h = refl
bound-quiet b s h = absurd cc

-- ---- the sections
module _ (V : World) (a : GoalOverKinds) where
  abbrev pub Are : (CandidateSource → Bool) → List Candidate → Type 0
  Are p cs = Every (λ (c : Candidate). p c.source ≡ true) cs

  if-first : (p : CandidateSource → Bool) (b : Bool) (c : Candidate) (xs : List Candidate) → p c.source ≡ true → Are p xs → Are p (if b then c ∷ xs else xs)
  if-first p true c xs h g = (h, g)
  if-first p false c xs h g = g

  so : (p : CandidateSource → Bool) (b : Bool) (xs : List Candidate) → Are p xs → Are p (if_so b xs)
  so p true xs h = h
  so p false xs h = tt

  written-are : (p : CandidateSource → Bool) (source : CandidateSource) → p source ≡ true → (us : List Rule) → Are p (as_written V a source us)
  written-are p source h [] = tt
  written-are p source h (u ∷ us) = (h, written-are p source h us)

  pub clauses-are : (rs : List Reference) → Are is_clause (by_clauses V a rs)
  clauses-are [] = tt
  clauses-are (r ∷ rs) = if-first is_clause (can_be a.reference r) (by_rule V a (ParamEnv (clause_source r)) (all_equal a.reference.args r.args) []) (by_clauses V a rs) refl (clauses-are rs)

  pub impls-are : (is : List ImplDecl) → Are is_impl (by_impls V a is)
  impls-are [] = tt
  impls-are (i ∷ is) = if-first is_impl ((i.header.trait == a.reference.trait) && can_match a.reference.args i.header.args) (by_the_impl V a i) (by_impls V a is) refl (impls-are is)

  -- ---- built-in rules
  module _ (p : CandidateSource → Bool) (trivial : p (BuiltinImpl Trivial) ≡ true) (other : p misc ≡ true) (upcast : (i : ℕ) → p (upcast_source i) ≡ true) where
    call-are : (t : Trees) → Are p (call_of V a t)
    call-are none = tt
    call-are (tree (fn_ptr n) types none) = tt
    call-are (tree (fn_ptr n) types (tree l c o)) = (other, tt)
    call-are (tree l c o) = tt

    array-are : (t : Trees) → Are p (unsize_array_of V a t)
    array-are none = tt
    array-are (tree array none o) = tt
    array-are (tree array (tree l c n) none) = tt
    array-are (tree array (tree l c n) (tree slice none o)) = tt
    array-are (tree array (tree l c n) (tree slice (tree m d q) o)) = (other, tt)
    array-are (tree array (tree l c n) (tree k d o)) = tt
    array-are (tree l c o) = tt

    upcasts-are : (q : Reference) (n : ℕ) (rs : List Reference) → Are p (upcasts_from V a q n rs)
    upcasts-are q n [] = tt
    upcasts-are q n (r ∷ rs) = if-first p (r.trait == q.trait) (by_rule V a (upcast_source n) (all_equal r.args q.args) []) (upcasts_from V a q (suc n) rs) (upcast n) (upcasts-are q (suc n) rs)

    upcasts-to-are : (ps qs : List Reference) → Are p (upcasts_to V a ps qs)
    upcasts-to-are ps [] = (other, tt)
    upcasts-to-are [] (q ∷ qs) = tt
    upcasts-to-are (r ∷ ps) (q ∷ qs) = by (r.trait == q.trait)
      where
        by : (b : Bool) → Are p (if b then by_rule V a misc (all_equal r.args q.args) [] ∷ [] else upcasts_from V a q 1 (supertraits V r))
        by true = (other, tt)
        by false = upcasts-are q 1 (supertraits V r)

    upcasts-of-are : (t : Trees) → Are p (upcasts_of V a t)
    upcasts-of-are none = tt
    upcasts-of-are (tree dynamic b none) = tt
    upcasts-of-are (tree dynamic b (tree dynamic d o)) =
        let self = tree dynamic b none in
        so p (are_declared V (principal_with self b) && upcasts_autos V (principal_with self b) (autos_with self b) (autos_with self d)) (upcasts_to V a (principal_with self b) (principal_with self d))
        (upcasts-to-are (principal_with self b) (principal_with self d))
    upcasts-of-are (tree dynamic b (tree l d o)) = tt
    upcasts-of-are (tree l c o) = tt

    structs-are : (b d : Trees) (xs : List StructDecl) → Are p (flat_map (unsize_by_struct V a b d) xs)
    structs-are b d [] = tt
    structs-are b d (x ∷ xs) =
        every-append (λ (c : Candidate). p c.source ≡ true) (unsize_by_struct V a b d x) (flat_map (unsize_by_struct V a b d) xs)
        (so p (some_unsizing x.fields 0 b) (by_rule V a misc (all_equal (with_unsizing x.fields 0 b d) d) (last_unsizes x.fields b d) ∷ []) (other, tt)) (structs-are b d xs)

    struct-of-are : (t : Trees) → Are p (unsize_struct_of V a t)
    struct-of-are none = tt
    struct-of-are (tree (adt s) b none) = tt
    struct-of-are (tree (adt s) b (tree (adt u) d o)) = so p (s == u) (flat_map (unsize_by_struct V a b d) (structs_named V s)) (structs-are b d (structs_named V s))
    struct-of-are (tree (adt s) b (tree l d o)) = tt
    struct-of-are (tree l c o) = tt

    known-are : (t : Trees) → Are p (unsize_known V a t)
    known-are t =
        let P = λ (c : Candidate). p c.source ≡ true in
        every-append P (unsize_array_of V a t) (as_written V a misc (unsize_to_dyn_rules V t) ++ (upcasts_of V a t ++ unsize_struct_of V a t)) (array-are t)
        (every-append P (as_written V a misc (unsize_to_dyn_rules V t)) (upcasts_of V a t ++ unsize_struct_of V a t) (written-are p misc other (unsize_to_dyn_rules V t))
        (every-append P (upcasts_of V a t) (unsize_struct_of V a t) (upcasts-of-are t) (struct-of-are t)))

    unsize-are : (b : Bool) → Are p (if b then unsure ∷ [] else unsize_recording V a)
    unsize-are true = (other, tt)
    unsize-are false = every-recorded (unsizing_outlives a.reference.args) (λ (c : Candidate). p c.source ≡ true) (λ c h. h) (unsize_known V a (self_of a)) (known-are (self_of a))

    pub rules-are : Are p (built_in V a)
    rules-are =
        let P = λ (c : Candidate). p c.source ≡ true in
        every-append P (by_sized V a) _ (so p _ _ (written-are p (BuiltinImpl Trivial) trivial (sized_rules V (self_of a))))
        (every-append P (by_copy V a) _ (so p _ _ (written-are p misc other (copy_rules a.reference.trait (self_of a))))
        (every-append P (by_auto V a) _ (so p _ _ (written-are p misc other (auto_rules V a.reference.trait (self_of a))))
        (every-append P (by_tuple V a) _ (so p _ _ (written-are p misc other (tuple_rules (self_of a))))
        (every-append P (by_fn_ptr V a) _ (so p _ _ (written-are p misc other (fn_ptr_rules (self_of a))))
        (every-append P (by_call V a) _ (so p (is_fn_trait a.reference.trait) (call_of V a (self_of a)) (call-are (self_of a)))
        (so p (a.reference.trait == unsize) _ (unsize-are (begins_unknown a.kinds (next_of (self_of a))))))))))

  -- of a `dyn` no rule but that of `Sized` stands, if not of `Unsize`
  module _ (p : CandidateSource → Bool) (trivial : p (BuiltinImpl Trivial) ≡ true) where
    sized-row : Are p (by_sized V a)
    sized-row = so p (a.reference.trait == sized) (as_written V a (BuiltinImpl Trivial) (sized_rules V (self_of a))) (written-are p (BuiltinImpl Trivial) trivial (sized_rules V (self_of a)))

    copy-row : (b : Bool) (S : Trees) → begins_dyn S ≡ true → Are p (if_so b (as_written V a misc (copy_rules a.reference.trait S)))
    copy-row b (tree dynamic c o) h = so p b [] tt
    copy-row b none h = absurd cc
    copy-row b (tree l c o) h = absurd cc

    plain-or-not : (b : Bool) (us : List Rule) → us ≡ [] → Are p (as_written V a misc (if b then [] else us))
    plain-or-not true us e = tt
    plain-or-not false us e = subst (λ z. Are p (as_written V a misc z)) (sym e) tt

    auto-row : (b : Bool) (S : Trees) → begins_dyn S ≡ true → Are p (if_so b (as_written V a misc (auto_rules V a.reference.trait S)))
    auto-row b (tree dynamic c o) h = so p b (as_written V a misc (auto_rules V a.reference.trait (tree dynamic c o))) (plain-or-not (is_written V a.reference.trait dynamic) (auto_rules_plain V a.reference.trait (tree dynamic c o)) refl)
    auto-row b none h = absurd cc
    auto-row b (tree l c o) h = absurd cc

    tuple-row : (b : Bool) (S : Trees) → begins_dyn S ≡ true → Are p (if_so b (as_written V a misc (tuple_rules S)))
    tuple-row b (tree dynamic c o) h = so p b [] tt
    tuple-row b none h = absurd cc
    tuple-row b (tree l c o) h = absurd cc

    pointer-row : (b : Bool) (S : Trees) → begins_dyn S ≡ true → Are p (if_so b (as_written V a misc (fn_ptr_rules S)))
    pointer-row b (tree dynamic c o) h = so p b [] tt
    pointer-row b none h = absurd cc
    pointer-row b (tree l c o) h = absurd cc

    call-row : (b : Bool) (S : Trees) → begins_dyn S ≡ true → Are p (if_so b (call_of V a S))
    call-row b (tree dynamic c o) h = so p b [] tt
    call-row b none h = absurd cc
    call-row b (tree l c o) h = absurd cc

    unsize-row : (b : Bool) → b ≡ false → (xs : List Candidate) → Are p (if_so b xs)
    unsize-row true e xs = absurd cc
    unsize-row false e xs = tt

    pub of-dyn : begins_dyn (self_of a) ≡ true → (a.reference.trait == unsize) ≡ false → Are p (built_in V a)
    of-dyn h e =
        let P = λ (c : Candidate). p c.source ≡ true in
        every-append P (by_sized V a) _ sized-row
        (every-append P (by_copy V a) _ (copy-row ((a.reference.trait == copy) || (a.reference.trait == clone)) (self_of a) h)
        (every-append P (by_auto V a) _ (auto-row (is_auto V a.reference.trait) (self_of a) h)
        (every-append P (by_tuple V a) _ (tuple-row (a.reference.trait == tuple_trait) (self_of a) h)
        (every-append P (by_fn_ptr V a) _ (pointer-row (a.reference.trait == fn_ptr_trait) (self_of a) h)
        (every-append P (by_call V a) _ (call-row (is_fn_trait a.reference.trait) (self_of a) h)
        (unsize-row (a.reference.trait == unsize) e (if begins_unknown a.kinds (next_of (self_of a)) then unsure ∷ [] else unsize_recording V a)))))))

  both-true : (x y : Bool) → (x && not y) ≡ true → (x ≡ true) × (y ≡ false)
  both-true true false h = (refl, refl)
  both-true true true h = absurd cc
  both-true false y h = absurd cc

  pub built-in-are : (b : Bool) → misc_is_bound a ≡ b → Are (is_built_in b) (built_in V a)
  built-in-are false e = rules-are (is_built_in false) refl refl (λ i. refl)
  built-in-are true e = let h = both-true (begins_dyn (self_of a)) (a.reference.trait == unsize) e in of-dyn (is_built_in true) refl h.0 h.1

  -- ---- object bounds
  bounds-are : (p : CandidateSource → Bool) (source : ℕ → CandidateSource) → ((i : ℕ) → p (source i) ≡ true) → (n : ℕ) (rs : List Reference) → Are p (bounds_from V a source n rs)
  bounds-are p source h n [] = tt
  bounds-are p source h n (r ∷ rs) =
      if-first p (can_be a.reference r) (by_rule V a (source n) (all_equal a.reference.args r.args) (supertraits V a.reference)) (bounds_from V a source (suc n) rs) (h n) (bounds-are p source h (suc n) rs)

  no-bounds : (p : CandidateSource → Bool) (source : ℕ → CandidateSource) → a.reference.trait ≡ unsize → (n : ℕ) (rs : List Reference) → list_any (λ (r : Reference). r.trait == unsize) rs ≡ false → Are p (bounds_from V a source n rs)
  no-bounds p source e n [] h = tt
  no-bounds p source e n (r ∷ rs) h = by (r.trait == unsize) refl h (no-bounds p source e (suc n) rs)
    where
      by : (b : Bool) → (r.trait == unsize) ≡ b → (b || list_any (λ (q : Reference). q.trait == unsize) rs) ≡ false
          → (list_any (λ (q : Reference). q.trait == unsize) rs ≡ false → Are p (bounds_from V a source (suc n) rs)) → Are p (bounds_from V a source n (r ∷ rs))
      by true f h go = absurd cc
      by false f h go =
          subst (λ b. Are p (if b then by_rule V a (source n) (all_equal a.reference.args r.args) (supertraits V a.reference) ∷ bounds_from V a source (suc n) rs else bounds_from V a source (suc n) rs))
          (sym (ap (λ (m : ℕ). (r.trait == m) && not (are_apart a.reference.args r.args)) e ∙ ap (λ z. z && not (are_apart a.reference.args r.args)) f)) (go h)

  -- those that a `dyn` is written with
  written-bounds : (b : Bool) (bounds others : Trees) → (not (a.reference.trait == unsize)) ≡ b → (not (a.reference.trait == unsize) || not (list_any (λ (r : Reference). r.trait == unsize) (autos_with (tree dynamic bounds none) bounds))) ≡ true
      → Are (is_bound b) (bounds_from V a written_source 0 (autos_with (tree dynamic bounds none) bounds))
  written-bounds true bounds others e t = bounds-are (is_bound true) written_source (λ i. refl) 0 (autos_with (tree dynamic bounds none) bounds)
  written-bounds false bounds others e t = no-bounds (is_bound false) written_source is 0 (autos_with (tree dynamic bounds none) bounds) (apart (not (a.reference.trait == unsize)) (list_any (λ (r : Reference). r.trait == unsize) (autos_with (tree dynamic bounds none) bounds)) e t)
    where
      is : a.reference.trait ≡ unsize
      is = same-number a.reference.trait unsize (not-false (a.reference.trait == unsize) e)

      apart : (x y : Bool) → x ≡ false → (x || not y) ≡ true → y ≡ false
      apart true y f g = absurd cc
      apart false true f g = absurd cc
      apart false false f g = refl

  at-self : (S : Trees) (b : Bool) → (begins_dyn S && not (a.reference.trait == unsize)) ≡ b → (not (a.reference.trait == unsize) || not (list_any (λ (r : Reference). r.trait == unsize) (autos_of S))) ≡ true → Are (is_bound b) (objects_of V a S)
  at-self none b e t = tt
  at-self (tree dynamic bounds others) b e t =
      let self = tree dynamic bounds none in
      so (is_bound b) (are_dyn_compatible V (principal_with self bounds)) _
      (every-append (λ (c : Candidate). is_bound b c.source ≡ true) (if_so (not (a.reference.trait == sized)) (bounds_from V a written_source 0 (autos_with self bounds))) _
      (so (is_bound b) (not (a.reference.trait == sized)) (bounds_from V a written_source 0 (autos_with self bounds)) (written-bounds b bounds others e t))
      (so (is_bound b) (not (a.reference.trait == sized)) (bounds_from V a object_source 0 (elaborate V (principal_with self bounds))) (bounds-are (is_bound b) object_source (λ i. refl) 0 (elaborate V (principal_with self bounds)))))
  at-self (tree l c o) b e t = tt

  pub objects-are : (b : Bool) → misc_is_bound a ≡ b → sources_tell a ≡ true → Are (is_bound b) (by_objects V a)
  objects-are b e t = at-self (self_of a) b e t
