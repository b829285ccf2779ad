-- What holds of each row of candidates holds of all candidates of a goal.
use Rattle.std.proofs.Common.{◌≡◌, ℕ, suc, Bool, true, false, not, ◌&&◌, ◌||◌, ◌==◌, if◌then◌else◌, List, [], ◌∷◌, refl}
use Rattle.std.specs.List.{flat_map}
use Rattle.type_terms.specs.Promised.Label.{Label, tuple, dynamic, array, slice, adt, fn_ptr}
use Rattle.type_terms.specs.Promised.Trees.{Trees, none, tree}
use Rattle.type_terms.specs.Promised.Worlds.{World, Reference, StructDecl, ImplDecl, structs_named}
use Rattle.type_terms.specs.Promised.Rules.{Rule, sized, clone, copy, tuple_trait, fn_ptr_trait, is_fn_trait, unsize, is_auto, sized_rules, copy_rules, auto_rules, tuple_rules, fn_ptr_rules, unsize_to_dyn_rules, but_last, principal_with, autos_with, are_dyn_compatible, are_declared, upcasts_autos, some_unsizing, with_unsizing, last_unsizes}
use Rattle.type_terms.specs.Promised.Proofs.{In}
use Rattle.type_terms.proofs.Members.{here, there}
use Rattle.goal_evaluator.specs.declared.candidate.CandidateSource.{CandidateSource}
use Rattle.goal_evaluator.specs.declared.candidate.CandidateSource.TheVariants.{ParamEnv}
use Rattle.goal_evaluator.specs.Lists.{Every}
use Rattle.goal_evaluator.specs.FrameTables.{Equation}
use Rattle.declarations.specs.Promised.Elaboration.{elaborate, supertraits}
use Rattle.candidate_model.specs.Asking.{GoalOverKinds, clauses, self_of, next_of, begins_unknown}
use Rattle.candidate_model.specs.Candidates.{Candidate, all_equal, by_rule, unsure, clause_source, can_be, by_clauses, by_the_impl, can_match, by_impls, as_written, misc, if_so, by_sized, by_copy, by_auto, by_tuple, by_fn_ptr, call_of, by_call, unsize_array_of, upcast_source, upcasts_from, upcasts_to, upcasts_of, unsize_by_struct, unsize_struct_of, unsize_known, recording, unsizing_outlives, unsize_recording, by_unsize, built_in, bounds_from, object_source, written_source, objects_of, by_objects}
use Rattle.candidate_model.specs.Cover.{all_candidates}
use Rattle.candidate_model.proofs.Recording.{every-recorded}
use Rattle.goal_evaluator.proofs.Basics.{both-lists}

module _ (V : World) (a : GoalOverKinds) (P : Candidate → Type 0) (E : List Equation → Type 0) where
  -- candidates of rules are so where their equations are; the equations of each row; impls; what is not decided; and what is recorded does
  -- not count
  pub record AreRows : Type 0 where
    pub rule : (source : CandidateSource) (es : List Equation) (ps : List Reference) → E es → P (by_rule V a source es ps)
    pub nothing : E []
    pub calls : (n : ℕ) (l : Label) (types c others : Trees) → self_of a ≡ tree (fn_ptr n) types (tree l c others) → E (all_equal (tree tuple (but_last types) none) (tree l c none))
    pub arrays : (l m : Label) (c n d p o : Trees) → self_of a ≡ tree array (tree l c n) (tree slice (tree m d p) o) → E (all_equal (tree l c none) (tree m d none))
    pub upcasts : (b d o : Trees) → self_of a ≡ tree dynamic b (tree dynamic d o)
        → Every (λ (q : Reference). Every (λ (p : Reference). E (all_equal p.args q.args) × Every (λ (r : Reference). E (all_equal r.args q.args)) (supertraits V p)) (principal_with (tree dynamic b none) b))
        (principal_with (tree dynamic b none) d)
    pub structs : (s u : ℕ) (b d o : Trees) → self_of a ≡ tree (adt s) b (tree (adt u) d o) → (x : StructDecl) → E (all_equal (with_unsizing x.fields 0 b d) d)
    pub clauses : Every (λ (r : Reference). E (all_equal a.reference.args r.args)) (clauses a)
    pub bounds : (bounds others : Trees) → self_of a ≡ tree dynamic bounds others
        → Every (λ (r : Reference). E (all_equal a.reference.args r.args)) (autos_with (tree dynamic bounds none) bounds)
        × Every (λ (r : Reference). E (all_equal a.reference.args r.args)) (elaborate V (principal_with (tree dynamic bounds none) bounds))
    pub impls : (i : ImplDecl) → In i V.impls → P (by_the_impl V a i)
    pub unsures : P unsure
    pub records : (r : Trees) (c : Candidate) → P c → P (recording r c)

  module _ (rows : AreRows) where
    so : (b : Bool) (xs : List Candidate) → Every P xs → Every P (if_so b xs)
    so true xs h = h
    so false xs h = tt

    written-so : (source : CandidateSource) (us : List Rule) → Every P (as_written V a source us)
    written-so source [] = tt
    written-so source (u ∷ us) = (rows.rule source [] u.premises rows.nothing, written-so source us)

    call-so : (self : Trees) → self_of a ≡ self → Every P (call_of V a self)
    call-so none e = tt
    call-so (tree (fn_ptr n) types none) e = tt
    call-so (tree (fn_ptr n) types (tree l c others)) e = (rows.rule misc _ _ (rows.calls n l types c others e), tt)
    call-so (tree l c o) e = tt

    array-so : (self : Trees) → self_of a ≡ self → Every P (unsize_array_of V a self)
    array-so none e = tt
    array-so (tree array none o) e = tt
    array-so (tree array (tree l c n) none) e = tt
    array-so (tree array (tree l c n) (tree slice none o)) e = tt
    array-so (tree array (tree l c n) (tree slice (tree m d p) o)) e = (rows.rule misc _ [] (rows.arrays l m c n d p o e), tt)
    array-so (tree array (tree l c n) (tree k x o)) e = tt
    array-so (tree l c o) e = tt

    upcasts-so : (q : Reference) (i : ℕ) (rs : List Reference) → Every (λ (r : Reference). E (all_equal r.args q.args)) rs → Every P (upcasts_from V a q i rs)
    upcasts-so q i [] h = tt
    upcasts-so q i (r ∷ rs) h = by (r.trait == q.trait) (upcasts-so q (suc i) rs h.1)
      where
        by : (b : Bool) → Every P (upcasts_from V a q (suc i) rs) → Every P (if b then by_rule V a (upcast_source i) (all_equal r.args q.args) [] ∷ upcasts_from V a q (suc i) rs else upcasts_from V a q (suc i) rs)
        by true k = (rows.rule (upcast_source i) _ [] h.0, k)
        by false k = k

    upcasts-to-so : (ps qs : List Reference) → Every (λ (q : Reference). Every (λ (p : Reference). E (all_equal p.args q.args) × Every (λ (r : Reference). E (all_equal r.args q.args)) (supertraits V p)) ps) qs → Every P (upcasts_to V a ps qs)
    upcasts-to-so [] [] h = (rows.rule misc [] [] rows.nothing, tt)
    upcasts-to-so (p ∷ ps) [] h = (rows.rule misc [] [] rows.nothing, tt)
    upcasts-to-so [] (q ∷ qs) h = tt
    upcasts-to-so (p ∷ ps) (q ∷ qs) h = by (p.trait == q.trait)
      where
        by : (b : Bool) → Every P (if b then by_rule V a misc (all_equal p.args q.args) [] ∷ [] else upcasts_from V a q 1 (supertraits V p))
        by true = (rows.rule misc _ [] h.0.0.0, tt)
        by false = upcasts-so q 1 (supertraits V p) h.0.0.1

    upcasts-of-so : (self : Trees) → self_of a ≡ self → Every P (upcasts_of V a self)
    upcasts-of-so none e = tt
    upcasts-of-so (tree dynamic b none) e = tt
    upcasts-of-so (tree dynamic b (tree dynamic d o)) e =
        so (are_declared V (principal_with (tree dynamic b none) b) && upcasts_autos V (principal_with (tree dynamic b none) b) (autos_with (tree dynamic b none) b) (autos_with (tree dynamic b none) d)) _
        (upcasts-to-so (principal_with (tree dynamic b none) b) (principal_with (tree dynamic b none) d) (rows.upcasts b d o e))
    upcasts-of-so (tree dynamic b (tree l d o)) e = tt
    upcasts-of-so (tree l c o) e = tt

    structs-so : (s u : ℕ) (b d o : Trees) → self_of a ≡ tree (adt s) b (tree (adt u) d o) → (xs : List StructDecl) → Every P (flat_map (unsize_by_struct V a b d) xs)
    structs-so s u b d o e [] = tt
    structs-so s u b d o e (x ∷ xs) =
        both-lists P (unsize_by_struct V a b d x) (flat_map (unsize_by_struct V a b d) xs) (so (some_unsizing x.fields 0 b) _ (rows.rule misc _ (last_unsizes x.fields b d) (rows.structs s u b d o e x), tt)) (structs-so s u b d o e xs)

    struct-of-so : (self : Trees) → self_of a ≡ self → Every P (unsize_struct_of V a self)
    struct-of-so none e = tt
    struct-of-so (tree (adt s) b none) e = tt
    struct-of-so (tree (adt s) b (tree (adt u) d o)) e = so (s == u) _ (structs-so s u b d o e (structs_named V s))
    struct-of-so (tree (adt s) b (tree l d o)) e = tt
    struct-of-so (tree l c o) e = tt

    known-so : Every P (unsize_known V a (self_of a))
    known-so =
        both-lists P (unsize_array_of V a (self_of a)) _ (array-so (self_of a) refl)
        (both-lists P (as_written V a misc (unsize_to_dyn_rules V (self_of a))) _ (written-so misc (unsize_to_dyn_rules V (self_of a)))
        (both-lists P (upcasts_of V a (self_of a)) (unsize_struct_of V a (self_of a)) (upcasts-of-so (self_of a) refl) (struct-of-so (self_of a) refl)))

    unsize-so : (b : Bool) → Every P (if b then unsure ∷ [] else unsize_recording V a)
    unsize-so true = (rows.unsures, tt)
    unsize-so false = every-recorded (unsizing_outlives a.reference.args) P (rows.records (unsizing_outlives a.reference.args)) (unsize_known V a (self_of a)) known-so

    built-so : Every P (built_in V a)
    built-so =
        both-lists P (by_sized V a) _ (so (a.reference.trait == sized) _ (written-so _ (sized_rules V (self_of a))))
        (both-lists P (by_copy V a) _ (so ((a.reference.trait == copy) || (a.reference.trait == clone)) _ (written-so misc (copy_rules a.reference.trait (self_of a))))
        (both-lists P (by_auto V a) _ (so (is_auto V a.reference.trait) _ (written-so misc (auto_rules V a.reference.trait (self_of a))))
        (both-lists P (by_tuple V a) _ (so (a.reference.trait == tuple_trait) _ (written-so misc (tuple_rules (self_of a))))
        (both-lists P (by_fn_ptr V a) _ (so (a.reference.trait == fn_ptr_trait) _ (written-so misc (fn_ptr_rules (self_of a))))
        (both-lists P (by_call V a) (by_unsize V a) (so (is_fn_trait a.reference.trait) _ (call-so (self_of a) refl))
        (so (a.reference.trait == unsize) _ (unsize-so (begins_unknown a.kinds (next_of (self_of a))))))))))

    clauses-so : (rs : List Reference) → Every (λ (r : Reference). E (all_equal a.reference.args r.args)) rs → Every P (by_clauses V a rs)
    clauses-so [] h = tt
    clauses-so (r ∷ rs) h = by (can_be a.reference r) (clauses-so rs h.1)
      where
        by : (b : Bool) → Every P (by_clauses V a rs) → Every P (if b then by_rule V a (ParamEnv (clause_source r)) (all_equal a.reference.args r.args) [] ∷ by_clauses V a rs else by_clauses V a rs)
        by true k = (rows.rule _ _ [] h.0, k)
        by false k = k

    impls-so : (is : List ImplDecl) → ((i : ImplDecl) → In i is → In i V.impls) → Every P (by_impls V a is)
    impls-so [] f = tt
    impls-so (i ∷ is) f = by ((i.header.trait == a.reference.trait) && can_match a.reference.args i.header.args) (impls-so is (λ j k. f j (there j i is k)))
      where
        by : (b : Bool) → Every P (by_impls V a is) → Every P (if b then by_the_impl V a i ∷ by_impls V a is else by_impls V a is)
        by true k = (rows.impls i (f i (here i is)), k)
        by false k = k

    bounds-so : (source : ℕ → CandidateSource) (n : ℕ) (rs : List Reference) → Every (λ (r : Reference). E (all_equal a.reference.args r.args)) rs → Every P (bounds_from V a source n rs)
    bounds-so source n [] h = tt
    bounds-so source n (r ∷ rs) h = by (can_be a.reference r) (bounds-so source (suc n) rs h.1) (bounds-so source (suc n) rs h.1)
      where
        by : (b : Bool) → Every P (bounds_from V a source (suc n) rs) → Every P (bounds_from V a source (suc n) rs)
            → Every P (if b then by_rule V a (source n) (all_equal a.reference.args r.args) (supertraits V a.reference) ∷ bounds_from V a source (suc n) rs else bounds_from V a source (suc n) rs)
        by true k l = (rows.rule (source n) _ (supertraits V a.reference) h.0, k)
        by false k l = l

    objects-so : (self : Trees) → self_of a ≡ self → Every P (objects_of V a self)
    objects-so none e = tt
    objects-so (tree dynamic bounds others) e =
        let self = tree dynamic bounds none in
        so (are_dyn_compatible V (principal_with self bounds)) _
        (both-lists P (if_so (not (a.reference.trait == sized)) (bounds_from V a written_source 0 (autos_with self bounds))) _ (so (not (a.reference.trait == sized)) _ (bounds-so written_source 0 (autos_with self bounds) (rows.bounds bounds others e).0))
        (so (not (a.reference.trait == sized)) _ (bounds-so object_source 0 (elaborate V (principal_with self bounds)) (rows.bounds bounds others e).1)))
    objects-so (tree l c o) e = tt

    pub all-so : Every P (all_candidates V a)
    all-so =
        both-lists P (by_clauses V a (clauses a)) _ (clauses-so (clauses a) rows.clauses)
        (both-lists P (built_in V a) _ built-so (both-lists P (by_impls V a V.impls) (by_objects V a) (impls-so V.impls (λ i k. k)) (objects-so (self_of a) refl)))
