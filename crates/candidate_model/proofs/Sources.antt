-- Where candidates come from: without where-clauses none is one, and the trivial rule is alone or not there.
use Rattle.std.proofs.Common.{◌≡◌, ℕ, suc, Bool, true, false, not, ◌&&◌, ◌||◌, ◌==◌, if◌then◌else◌, List, [], ◌∷◌, ◌++◌, ◌⊎◌, inl, inr, refl, sym, ◌∙◌, ap, subst}
use Rattle.std.specs.List.{flat_map}
use Rattle.std.proofs.lemmas.Bool.{eqb-true}
use Rattle.type_terms.specs.Promised.Label.{dynamic, tuple, array, slice, adt, fn_ptr}
use Rattle.type_terms.specs.Promised.Trees.{Trees, none, tree}
use Rattle.type_terms.specs.Promised.Worlds.{World, Reference, StructDecl, ImplDecl, structs_named}
use Rattle.type_terms.specs.Promised.Rules.{Rule, sized, clone, copy, tuple_trait, fn_ptr_trait, is_fn_trait, unsize, is_auto, copy_rules, auto_rules, tuple_rules, fn_ptr_rules, sized_rules, unsize_to_dyn_rules, principal_with, autos_with, are_declared, are_dyn_compatible, upcasts_autos, some_unsizing}
use Rattle.type_terms.specs.Promised.Proofs.{In}
use Rattle.type_terms.proofs.Members.{here, there}
use Rattle.type_terms.specs.declared.ImplId.{ImplId}
use Rattle.goal_evaluator.specs.Lists.{Every}
use Rattle.goal_evaluator.specs.declared.candidate.CandidateSource.{CandidateSource}
use Rattle.goal_evaluator.specs.declared.candidate.CandidateSource.TheVariants.{Impl, BuiltinImpl}
use Rattle.goal_evaluator.specs.declared.candidate.BuiltinImplSource.TheVariants.{Trivial, Object, TraitUpcasting}
use Rattle.goal_evaluator.proofs.Basics.{both-lists}
use Rattle.declarations.specs.Promised.Elaboration.{elaborate, supertraits}
use Rattle.candidate_model.specs.Asking.{GoalOverKinds, clauses, self_of, next_of, begins_unknown}
use Rattle.candidate_model.specs.Candidates.{Candidate, misc, if_so, unsure, as_written, by_rule, by_clauses, built_in, by_sized, by_copy, by_auto, by_tuple, by_fn_ptr, call_of, by_call, unsize_array_of, upcasts_from, upcasts_to, upcasts_of, unsize_by_struct, unsize_struct_of, unsize_known, unsizing_outlives, unsize_recording, by_unsize, by_the_impl, by_impls, can_be, can_match, all_equal, bounds_from, object_source, written_source, upcast_source, objects_of, by_objects}
use Rattle.candidate_model.specs.Solver.{SizedIsBuiltIn, is_clause, is_trivial}
use Rattle.candidate_model.proofs.Recording.{every-recorded}

module _ (V : World) (a : GoalOverKinds) (P : CandidateSource → Type 0) where
  abbrev From : List Candidate → Type 0
  From cs = Every (λ (c : Candidate). P c.source) cs

  so : (b : Bool) (xs : List Candidate) → From xs → From (if_so b xs)
  so true xs h = h
  so false xs h = tt

  off : (b : Bool) (xs : List Candidate) → b ≡ false → From (if_so b xs)
  off b xs e = subst (λ z. From (if_so z xs)) (sym e) tt

  -- ---- those of each rule but the trivial one
  module _ (from-misc : P misc) (from-impl : (i : ImplId) → P (Impl i)) (from-bound : (n : ℕ) → P (BuiltinImpl (Object n))) (from-upcast : (n : ℕ) → P (BuiltinImpl (TraitUpcasting n))) where
    written-from : (us : List Rule) → From (as_written V a misc us)
    written-from [] = tt
    written-from (u ∷ us) = (from-misc, written-from us)

    call-from : (self : Trees) → From (call_of V a self)
    call-from none = tt
    call-from (tree (fn_ptr n) types none) = tt
    call-from (tree (fn_ptr n) types (tree l c others)) = (from-misc, tt)
    call-from (tree l c o) = tt

    array-from : (self : Trees) → From (unsize_array_of V a self)
    array-from none = tt
    array-from (tree array none o) = tt
    array-from (tree array (tree l c n) none) = tt
    array-from (tree array (tree l c n) (tree slice none o)) = tt
    array-from (tree array (tree l c n) (tree slice (tree m d p) o)) = (from-misc, tt)
    array-from (tree array (tree l c n) (tree k x o)) = tt
    array-from (tree l c o) = tt

    upcasts-from-so : (q : Reference) (i : ℕ) (rs : List Reference) → From (upcasts_from V a q i rs)
    upcasts-from-so q i [] = tt
    upcasts-from-so q i (r ∷ rs) = by (r.trait == q.trait) (upcasts-from-so q (suc i) rs)
      where
        by : (b : Bool) → From (upcasts_from V a q (suc i) rs) → From (if b then by_rule V a (upcast_source i) (all_equal r.args q.args) [] ∷ upcasts_from V a q (suc i) rs else upcasts_from V a q (suc i) rs)
        by true k = (from-upcast i, k)
        by false k = k

    upcasts-to-from : (ps qs : List Reference) → From (upcasts_to V a ps qs)
    upcasts-to-from [] [] = (from-misc, tt)
    upcasts-to-from (p ∷ ps) [] = (from-misc, tt)
    upcasts-to-from [] (q ∷ qs) = tt
    upcasts-to-from (p ∷ ps) (q ∷ qs) = by (p.trait == q.trait)
      where
        by : (b : Bool) → From (if b then by_rule V a misc (all_equal p.args q.args) [] ∷ [] else upcasts_from V a q 1 (supertraits V p))
        by true = (from-misc, tt)
        by false = upcasts-from-so q 1 (supertraits V p)

    upcasts-of-from : (self : Trees) → From (upcasts_of V a self)
    upcasts-of-from none = tt
    upcasts-of-from (tree dynamic b none) = tt
    upcasts-of-from (tree dynamic b (tree dynamic d o)) =
        so (are_declared V (principal_with (tree dynamic b none) b) && upcasts_autos V (principal_with (tree dynamic b none) b) (autos_with (tree dynamic b none) b) (autos_with (tree dynamic b none) d)) _
        (upcasts-to-from (principal_with (tree dynamic b none) b) (principal_with (tree dynamic b none) d))
    upcasts-of-from (tree dynamic b (tree l d o)) = tt
    upcasts-of-from (tree l c o) = tt

    structs-from : (b d : Trees) (xs : List StructDecl) → From (flat_map (unsize_by_struct V a b d) xs)
    structs-from b d [] = tt
    structs-from b d (x ∷ xs) = both-lists (λ (c : Candidate). P c.source) (unsize_by_struct V a b d x) (flat_map (unsize_by_struct V a b d) xs) (so (some_unsizing x.fields 0 b) _ (from-misc, tt)) (structs-from b d xs)

    struct-from : (self : Trees) → From (unsize_struct_of V a self)
    struct-from none = tt
    struct-from (tree (adt s) b none) = tt
    struct-from (tree (adt s) b (tree (adt u) d o)) = so (s == u) _ (structs-from b d (structs_named V s))
    struct-from (tree (adt s) b (tree l d o)) = tt
    struct-from (tree l c o) = tt

    known-from : From (unsize_known V a (self_of a))
    known-from =
        both-lists (λ (c : Candidate). P c.source) (unsize_array_of V a (self_of a)) _ (array-from (self_of a))
        (both-lists (λ (c : Candidate). P c.source) (as_written V a misc (unsize_to_dyn_rules V (self_of a))) _ (written-from (unsize_to_dyn_rules V (self_of a)))
        (both-lists (λ (c : Candidate). P c.source) (upcasts_of V a (self_of a)) (unsize_struct_of V a (self_of a)) (upcasts-of-from (self_of a)) (struct-from (self_of a))))

    unsize-from : (b : Bool) → From (if b then unsure ∷ [] else unsize_recording V a)
    unsize-from true = (from-misc, tt)
    unsize-from false = every-recorded (unsizing_outlives a.reference.args) (λ (c : Candidate). P c.source) (λ c p. p) (unsize_known V a (self_of a)) known-from

    -- all rules but that of `Sized`
    pub others-from : From (by_copy V a ++ (by_auto V a ++ (by_tuple V a ++ (by_fn_ptr V a ++ (by_call V a ++ by_unsize V a)))))
    others-from =
        both-lists (λ (c : Candidate). P c.source) (by_copy V a) _ (so ((a.reference.trait == copy) || (a.reference.trait == clone)) _ (written-from (copy_rules a.reference.trait (self_of a))))
        (both-lists (λ (c : Candidate). P c.source) (by_auto V a) _ (so (is_auto V a.reference.trait) _ (written-from (auto_rules V a.reference.trait (self_of a))))
        (both-lists (λ (c : Candidate). P c.source) (by_tuple V a) _ (so (a.reference.trait == tuple_trait) _ (written-from (tuple_rules (self_of a))))
        (both-lists (λ (c : Candidate). P c.source) (by_fn_ptr V a) _ (so (a.reference.trait == fn_ptr_trait) _ (written-from (fn_ptr_rules (self_of a))))
        (both-lists (λ (c : Candidate). P c.source) (by_call V a) (by_unsize V a) (so (is_fn_trait a.reference.trait) _ (call-from (self_of a)))
        (so (a.reference.trait == unsize) _ (unsize-from (begins_unknown a.kinds (next_of (self_of a)))))))))

    impls-from : (is : List ImplDecl) → From (by_impls V a is)
    impls-from [] = tt
    impls-from (i ∷ is) = by ((i.header.trait == a.reference.trait) && can_match a.reference.args i.header.args) (impls-from is)
      where
        by : (b : Bool) → From (by_impls V a is) → From (if b then by_the_impl V a i ∷ by_impls V a is else by_impls V a is)
        by true k = (from-impl _, k)
        by false k = k

    bounds-from-so : (source : ℕ → CandidateSource) → ((n : ℕ) → P (source n)) → (n : ℕ) (rs : List Reference) → From (bounds_from V a source n rs)
    bounds-from-so source f n [] = tt
    bounds-from-so source f n (r ∷ rs) = by (can_be a.reference r) (bounds-from-so source f (suc n) rs)
      where
        by : (b : Bool) → From (bounds_from V a source (suc n) rs)
            → From (if b then by_rule V a (source n) (all_equal a.reference.args r.args) (supertraits V a.reference) ∷ bounds_from V a source (suc n) rs else bounds_from V a source (suc n) rs)
        by true k = (f n, k)
        by false k = k

    objects-from : (self : Trees) → From (objects_of V a self)
    objects-from none = tt
    objects-from (tree dynamic bounds others) =
        let self = tree dynamic bounds none in
        so (are_dyn_compatible V (principal_with self bounds)) _
        (both-lists (λ (c : Candidate). P c.source) (if_so (not (a.reference.trait == sized)) (bounds_from V a written_source 0 (autos_with self bounds))) _
        (so (not (a.reference.trait == sized)) _ (bounds-from-so written_source (λ n. from-misc) 0 (autos_with self bounds)))
        (so (not (a.reference.trait == sized)) _ (bounds-from-so object_source from-bound 0 (elaborate V (principal_with self bounds)))))
    objects-from (tree l c o) = tt

    pub late-from : From (by_impls V a V.impls ++ by_objects V a)
    late-from = both-lists (λ (c : Candidate). P c.source) (by_impls V a V.impls) (by_objects V a) (impls-from V.impls) (objects-from (self_of a))

  trivial-from : P (BuiltinImpl Trivial) → (us : List Rule) → From (as_written V a (BuiltinImpl Trivial) us)
  trivial-from p [] = tt
  trivial-from p (u ∷ us) = (p, trivial-from p us)

  pub sized-from : P (BuiltinImpl Trivial) → From (by_sized V a)
  sized-from p = so (a.reference.trait == sized) _ (trivial-from p (sized_rules V (self_of a)))

  pub not-sized-from : (a.reference.trait == sized) ≡ false → From (by_sized V a)
  not-sized-from e = off (a.reference.trait == sized) _ e

  -- ---- nothing else concludes `Sized`
  module _ (alone : SizedIsBuiltIn V) (is : a.reference.trait ≡ sized) where
    pub others-none : From (by_copy V a ++ (by_auto V a ++ (by_tuple V a ++ (by_fn_ptr V a ++ (by_call V a ++ by_unsize V a)))))
    others-none =
        both-lists (λ (c : Candidate). P c.source) (by_copy V a) _ (off ((a.reference.trait == copy) || (a.reference.trait == clone)) _ (ap (λ n. (n == copy) || (n == clone)) is))
        (both-lists (λ (c : Candidate). P c.source) (by_auto V a) _ (off (is_auto V a.reference.trait) _ (ap (is_auto V) is ∙ alone.no_auto))
        (both-lists (λ (c : Candidate). P c.source) (by_tuple V a) _ (off (a.reference.trait == tuple_trait) _ (ap (λ n. n == tuple_trait) is))
        (both-lists (λ (c : Candidate). P c.source) (by_fn_ptr V a) _ (off (a.reference.trait == fn_ptr_trait) _ (ap (λ n. n == fn_ptr_trait) is))
        (both-lists (λ (c : Candidate). P c.source) (by_call V a) (by_unsize V a) (off (is_fn_trait a.reference.trait) _ (ap is_fn_trait is))
        (off (a.reference.trait == unsize) _ (ap (λ n. n == unsize) is))))))

    impls-none : (xs : List ImplDecl) → ((i : ImplDecl) → In i xs → In i V.impls) → From (by_impls V a xs)
    impls-none [] f = tt
    impls-none (i ∷ xs) f =
        subst (λ b. From (if b && can_match a.reference.args i.header.args then by_the_impl V a i ∷ by_impls V a xs else by_impls V a xs))
        (sym (ap (λ n. i.header.trait == n) is ∙ alone.no_impls i (f i (here i xs)))) (impls-none xs (λ j k. f j (there j i xs k)))

    unbound : (self : Trees) → From (objects_of V a self)
    unbound none = tt
    unbound (tree dynamic bounds others) =
        let self = tree dynamic bounds none in
        so (are_dyn_compatible V (principal_with self bounds)) _
        (both-lists (λ (c : Candidate). P c.source) (if_so (not (a.reference.trait == sized)) (bounds_from V a written_source 0 (autos_with self bounds))) _
        (off (not (a.reference.trait == sized)) _ (ap (λ n. not (n == sized)) is))
        (off (not (a.reference.trait == sized)) _ (ap (λ n. not (n == sized)) is)))
    unbound (tree l c o) = tt

    pub late-none : From (by_impls V a V.impls ++ by_objects V a)
    late-none = both-lists (λ (c : Candidate). P c.source) (by_impls V a V.impls) (by_objects V a) (impls-none V.impls (λ i k. k)) (unbound (self_of a))

-- ---- a goal without where-clauses
module _ (V : World) (a : GoalOverKinds) (bare : clauses a ≡ []) where
  abbrev early : List Candidate
  early = by_clauses V a (clauses a) ++ built_in V a

  abbrev late : List Candidate
  late = by_impls V a V.impls ++ by_objects V a

  early-from : (P : CandidateSource → Type 0) → Every (λ (c : Candidate). P c.source) (built_in V a) → Every (λ (c : Candidate). P c.source) early
  early-from P h = subst (λ rs. Every (λ (c : Candidate). P c.source) (by_clauses V a rs ++ built_in V a)) (sym bare) h

  -- no candidate is a where-clause
  pub clauseless : Every (λ (c : Candidate). is_clause c.source ≡ false) early × Every (λ (c : Candidate). is_clause c.source ≡ false) late
  clauseless = (
    early-from (λ s. is_clause s ≡ false)
        (both-lists (λ (c : Candidate). is_clause c.source ≡ false) (by_sized V a) _ (sized-from V a (λ s. is_clause s ≡ false) refl)
        (others-from V a (λ s. is_clause s ≡ false) refl (λ i. refl) (λ n. refl) (λ n. refl))),
    late-from V a (λ s. is_clause s ≡ false) refl (λ i. refl) (λ n. refl) (λ n. refl),
  )

  -- all are by the trivial rule, or none
  pub trivial-or-not : SizedIsBuiltIn V
      → (Every (λ (c : Candidate). is_trivial c.source ≡ true) early × Every (λ (c : Candidate). is_trivial c.source ≡ true) late)
      ⊎ (Every (λ (c : Candidate). is_trivial c.source ≡ false) early × Every (λ (c : Candidate). is_trivial c.source ≡ false) late)
  trivial-or-not alone = by (a.reference.trait == sized) refl
    where
      by : (b : Bool) → (a.reference.trait == sized) ≡ b
          → (Every (λ (c : Candidate). is_trivial c.source ≡ true) early × Every (λ (c : Candidate). is_trivial c.source ≡ true) late)
          ⊎ (Every (λ (c : Candidate). is_trivial c.source ≡ false) early × Every (λ (c : Candidate). is_trivial c.source ≡ false) late)
      by true e =
          let is = eqb-true a.reference.trait sized e in
          inl (
            early-from (λ s. is_trivial s ≡ true)
                (both-lists (λ (c : Candidate). is_trivial c.source ≡ true) (by_sized V a) _ (sized-from V a (λ s. is_trivial s ≡ true) refl) (others-none V a (λ s. is_trivial s ≡ true) alone is)),
            late-none V a (λ s. is_trivial s ≡ true) alone is,
          )
      by false e =
          inr (
            early-from (λ s. is_trivial s ≡ false)
                (both-lists (λ (c : Candidate). is_trivial c.source ≡ false) (by_sized V a) _ (not-sized-from V a (λ s. is_trivial s ≡ false) e)
                (others-from V a (λ s. is_trivial s ≡ false) refl (λ i. refl) (λ n. refl) (λ n. refl))),
            late-from V a (λ s. is_trivial s ≡ false) refl (λ i. refl) (λ n. refl) (λ n. refl),
          )
