-- The nested goals of candidates of goals without bound variables have none either, nor have the terms that impls' candidates
-- equate.
use Rattle.std.proofs.Common.{◌≡◌, ℕ, zero, suc, ◌==◌, Bool, true, false, not, ◌&&◌, List, [], ◌∷◌, ◌++◌, map, length, ◌⊎◌, inl, inr, refl, subst, if◌then◌else◌}
use Rattle.std.specs.List.{flat_map, list_all}
use Rattle.type_terms.specs.Promised.Label.{Label, bool, char, never, int, uint, str, array, slice, tuple, dynamic, adt, fn_ptr, ref, raw_pointer, principal, auto_trait, of_trait, predicate, param, placeholder, infer, canonical, bound, Sort, of_type, of_const, of_lifetime}
use Rattle.type_terms.specs.Promised.Trees.{Trees, none, tree, leaf, erase_label, instantiate}
use Rattle.type_terms.specs.Trees.{is_a}
use Rattle.type_terms.specs.Promised.Worlds.{World, Reference, StructDecl, TraitDecl, ImplDecl, structs_named, traits_named, all_with_args}
use Rattle.type_terms.specs.Promised.Rules.{Rule, row, sized, is_fn_trait, unsize, is_coinductive, is_written, is_dyn, sized_struct, auto_struct, each_asked, last_asked, fields_of, together, sized_rules, copy_rules, auto_rules_plain, auto_rules, tuple_rules, fn_ptr_rules, but_last, principal_with, autos_with, are_dyn_compatible, are_declared, upcasts_autos, unsize_to_dyn_rules, some_unsizing, with_unsizing, last_unsizes, written_supertraits, strict_supertraits_within, strict_supertraits}
use Rattle.type_terms.specs.Promised.Proofs.{In}
use Rattle.type_terms.proofs.Members.{here, there, in-filter, in-cases, in-nothing}
use Rattle.type_terms.proofs.NoHolds.{member-each}
use Rattle.type_terms.proofs.Fitting.{head-shut, child-shut, next-shut, append-shut}
use Rattle.type_terms.proofs.Walking.{left, right}
use Rattle.type_terms.specs.Made.{terms, is_made}
use Rattle.type_terms.proofs.Made.{false-true}
use Rattle.goal_evaluator.specs.Lists.{Every}
use Rattle.goal_evaluator.specs.declared.candidate.CandidateSource.{CandidateSource}
use Rattle.goal_evaluator.specs.declared.candidate.CandidateSource.TheVariants.{BuiltinImpl, ParamEnv}
use Rattle.goal_evaluator.specs.declared.candidate.BuiltinImplSource.TheVariants.{Trivial}
use Rattle.goal_evaluator.specs.Instances.{put_in, default_label}
use Rattle.goal_evaluator.specs.FrameTables.{Nested, Equation, term_of, is_open_label}
use Rattle.infer_table.specs.Values.{Value}
use Rattle.declarations.specs.Promised.Elaboration.{elaborate, supertraits}
use Rattle.candidate_model.specs.Declared.{is_declared_leaf, are_terms, are_references}
use Rattle.candidate_model.specs.DeclaredWell.{IsDeclaredWell}
use Rattle.candidate_model.specs.Asking.{GoalOverKinds, clauses, self_of, next_of, begins_unknown, with_plain_head}
use Rattle.candidate_model.specs.Candidates.{Candidate, premise, first_value, all_equal, clause_source, by_rule, moved, rules_behind, by_the_impl, unsure, unknowable, can_be, by_clauses, as_written, if_so, misc, by_sized, by_copy, by_auto, by_tuple, by_fn_ptr, call_of, by_call, unsize_array_of, upcast_source, upcasts_from, upcasts_to, upcasts_of, unsize_by_struct, unsize_struct_of, unsize_known, unsizing_outlives, unsize_recording, built_in, by_impls, can_match, bounds_from, object_source, written_source, objects_of}
use Rattle.candidate_model.specs.Cover.{all_candidates}
use Rattle.candidate_model.proofs.Instances.{is_bound, Unbound}
use Rattle.candidate_model.proofs.PlainRules.{every-flat}
use Rattle.candidate_model.proofs.Recording.{every-recorded}
use Rattle.candidate_model.proofs.Rows.{fields-declared}
use Rattle.candidate_model.proofs.Stack.{supertraits-only}
use Rattle.solver_completeness.proofs.UnboundTerms.{unbound-node, made-unbound, instance-unbound, IsUnboundEquation}
use Rattle.goal_evaluator.proofs.Basics.{every-append}

abbrev Shut : Reference → Type 0
Shut r = Unbound r.args

abbrev HaveShut : List Rule → Type 0
HaveShut us = Every (λ (u : Rule). Every Shut u.premises) us

-- ---- lists of trees
each-shut : (t : ℕ) (items : Trees) → Unbound items → Every Shut (each_asked t items)
each-shut t none h = tt
each-shut t (tree l c o) h = (head-shut is_bound l c o h, each-shut t o (next-shut is_bound l c o h))

last-shut : (t : ℕ) (items : Trees) → Unbound items → Every Shut (last_asked t items)
last-shut t none h = tt
last-shut t (tree l c none) h = (h, tt)
last-shut t (tree l c (tree m d o)) h = last-shut t (tree m d o) (next-shut is_bound l c (tree m d o) h)

declared-label : (l : Label) → is_declared_leaf l ≡ true → is_bound l ≡ false
declared-label (bound s k i) h = absurd (false-true h)
declared-label l h = refl

declared-unbound : (t : Trees) → are_terms t ≡ true → Unbound t
declared-unbound t h = made-unbound is_declared_leaf declared-label terms t (left (is_made is_declared_leaf terms t) _ h)

together-shut : (A : Trees) → Unbound A → (fs : List Trees) → list_all are_terms fs ≡ true → Unbound (together (map (instantiate zero A) fs))
together-shut A h [] e = refl
together-shut A h (f ∷ fs) e =
    append-shut is_bound (instantiate zero A f) (together (map (instantiate zero A) fs)) (instance-unbound zero A f h (declared-unbound f (left (are_terms f) (list_all are_terms fs) e)))
    (together-shut A h fs (right (are_terms f) (list_all are_terms fs) e))

last-unsizes-shut : (A B : Trees) → Unbound A → Unbound B → (fs : List Trees) → list_all are_terms fs ≡ true → Every Shut (last_unsizes fs A B)
last-unsizes-shut A B h g [] e = tt
last-unsizes-shut A B h g (f ∷ []) e =
    let u = declared-unbound f (left (are_terms f) true e) in
    (append-shut is_bound (instantiate zero A f) (instantiate zero B f) (instance-unbound zero A f h u) (instance-unbound zero B f g u), tt)
last-unsizes-shut A B h g (f ∷ k ∷ fs) e = last-unsizes-shut A B h g (k ∷ fs) (right (are_terms f) (list_all are_terms (k ∷ fs)) e)

principal-shut : (l : Label) (c b : Trees) → Unbound (tree l c none) → Unbound b → Every Shut (principal_with (tree l c none) b)
principal-shut l c none h g = tt
principal-shut l c (tree (principal n t) d o) h g = (append-shut is_bound (tree l c none) d h (child-shut is_bound (principal n t) d o g), tt)
principal-shut l c (tree k d o) h g = tt

autos-shut : (s b : Trees) → Unbound s → Every Shut (autos_with s b)
autos-shut s none h = tt
autos-shut s (tree (auto_trait t) c o) h = (h, autos-shut s o h)
autos-shut s (tree l c o) h = autos-shut s o h

if-shut : (b : Bool) (us : List Rule) → HaveShut us → HaveShut (if b then us else [])
if-shut true us h = h
if-shut false us h = tt

moved-shut : (n : ℕ) (t : Trees) → Unbound t → Unbound (put_in (moved n) t)
moved-shut n none h = refl
moved-shut n (tree (param s i) c o) h = moved-shut n o (next-shut is_bound (param s i) c o h)
moved-shut n (tree (bound s k i) c o) h = absurd (false-true (subst (λ b. b ≡ true) h refl))
moved-shut n (tree l c o) h = unbound-node l (put_in (moved n) c) (put_in (moved n) o) refl (moved-shut n c (child-shut is_bound l c o h)) (moved-shut n o (next-shut is_bound l c o h))

head-erased : (t : Trees) → Unbound t → Unbound (with_plain_head t)
head-erased none h = refl
head-erased (tree l c o) h = unbound-node (erase_label l) c o (by l (label l c o h)) (child-shut is_bound l c o h) (next-shut is_bound l c o h)
  where
    label : (l : Label) (c o : Trees) → Unbound (tree l c o) → is_bound l ≡ false
    label (bound s k i) c o h = h
    label l c o h = refl

    by : (l : Label) → is_bound l ≡ false → is_bound (erase_label l) ≡ false
    by (bound s k i) e = absurd (false-true (subst (λ b. b ≡ true) e refl))
    by (param of_type i) e = refl
    by (param of_const i) e = refl
    by (param of_lifetime i) e = refl
    by (placeholder of_type i) e = refl
    by (placeholder of_const i) e = refl
    by (placeholder of_lifetime i) e = refl
    by (infer of_type i) e = refl
    by (infer of_const i) e = refl
    by (infer of_lifetime i) e = refl
    by (canonical of_type i) e = refl
    by (canonical of_const i) e = refl
    by (canonical of_lifetime i) e = refl
    by l e = refl

-- ---- equations of all arguments
default-unbound : (v : Value) → Unbound (leaf (default_label v.sort))
default-unbound v = by v.sort
  where
    by : (s : Sort) → Unbound (leaf (default_label s))
    by of_type = refl
    by of_const = refl
    by of_lifetime = refl

term-unbound : (v : Value) → Unbound v.trees → Unbound (term_of v)
term-unbound v h = by (is_a v.sort v.trees && is_made is_open_label terms v.trees)
  where
    by : (b : Bool) → Unbound (if b then v.trees else leaf (default_label v.sort))
    by true = h
    by false = default-unbound v

equal-unbound : (x y : Trees) → Unbound x → Unbound y → Every IsUnboundEquation (all_equal x y)
equal-unbound none none h g = tt
equal-unbound none (tree m d p) h g = ((refl, refl), tt)
equal-unbound (tree l c o) none h g = ((refl, refl), tt)
equal-unbound (tree l c o) (tree m d p) h g =
    ((term-unbound (first_value l c) (head-shut is_bound l c o h), term-unbound (first_value m d) (head-shut is_bound m d p g)), equal-unbound o p (next-shut is_bound l c o h) (next-shut is_bound m d p g))

module _ (V : World) (well : IsDeclaredWell V) where
  struct-shut : (s : ℕ) (x : StructDecl) → In x (structs_named V s) → (A : Trees) → Unbound A → Unbound (fields_of x A)
  struct-shut s x i A h = together-shut A h x.fields (fields-declared V well.terms [] x (in-filter (λ (y : StructDecl). y.name == s) V.structs x i).0)

  sized-shut : (t : Trees) → Unbound t → HaveShut (sized_rules V t)
  sized-shut none h = tt
  sized-shut (tree bool c o) h = (tt, tt)
  sized-shut (tree char c o) h = (tt, tt)
  sized-shut (tree never c o) h = (tt, tt)
  sized-shut (tree (int i) c o) h = (tt, tt)
  sized-shut (tree (uint i) c o) h = (tt, tt)
  sized-shut (tree (fn_ptr n) c o) h = (tt, tt)
  sized-shut (tree (raw_pointer b) c o) h = (tt, tt)
  sized-shut (tree (ref b) c o) h = (tt, tt)
  sized-shut (tree array c o) h = (tt, tt)
  sized-shut (tree tuple c o) h = (last-shut sized c (child-shut is_bound tuple c o h), tt)
  sized-shut (tree (adt s) c o) h =
      every-flat (λ (u : Rule). Every Shut u.premises) (λ x. row sized_struct (last_asked sized (fields_of x c))) (structs_named V s) (λ x i. (last-shut sized (fields_of x c) (struct-shut s x i c (child-shut is_bound (adt s) c o h)), tt))
  sized-shut (tree l c o) h = tt

  auto-plain-shut : (t : ℕ) (a : Trees) → Unbound a → HaveShut (auto_rules_plain V t a)
  auto-plain-shut t none h = tt
  auto-plain-shut t (tree bool c o) h = (tt, tt)
  auto-plain-shut t (tree char c o) h = (tt, tt)
  auto-plain-shut t (tree never c o) h = (tt, tt)
  auto-plain-shut t (tree (int i) c o) h = (tt, tt)
  auto-plain-shut t (tree (uint i) c o) h = (tt, tt)
  auto-plain-shut t (tree (fn_ptr n) c o) h = (tt, tt)
  auto-plain-shut t (tree str c o) h = ((refl, tt), tt)
  auto-plain-shut t (tree (raw_pointer b) none o) h = tt
  auto-plain-shut t (tree (raw_pointer b) (tree l c p) o) h = ((head-shut is_bound l c p (child-shut is_bound (raw_pointer b) (tree l c p) o h), tt), tt)
  auto-plain-shut t (tree array none o) h = tt
  auto-plain-shut t (tree array (tree l c p) o) h = ((head-shut is_bound l c p (child-shut is_bound array (tree l c p) o h), tt), tt)
  auto-plain-shut t (tree slice none o) h = tt
  auto-plain-shut t (tree slice (tree l c p) o) h = ((head-shut is_bound l c p (child-shut is_bound slice (tree l c p) o h), tt), tt)
  auto-plain-shut t (tree (ref b) none o) h = tt
  auto-plain-shut t (tree (ref b) (tree q d none) o) h = tt
  auto-plain-shut t (tree (ref b) (tree q d (tree l c p)) o) h = ((head-shut is_bound l c p (next-shut is_bound q d (tree l c p) (child-shut is_bound (ref b) (tree q d (tree l c p)) o h)), tt), tt)
  auto-plain-shut t (tree tuple c o) h = (each-shut t c (child-shut is_bound tuple c o h), tt)
  auto-plain-shut t (tree (adt s) c o) h =
      every-flat (λ (u : Rule). Every Shut u.premises) (λ x. row auto_struct (each_asked t (fields_of x c))) (structs_named V s) (λ x i. (each-shut t (fields_of x c) (struct-shut s x i c (child-shut is_bound (adt s) c o h)), tt))
  auto-plain-shut t (tree l c o) h = tt

  auto-shut : (t : ℕ) (a : Trees) → Unbound a → HaveShut (auto_rules V t a)
  auto-shut t none h = tt
  auto-shut t (tree l c o) h = by (is_written V t l)
    where
      by : (b : Bool) → HaveShut (if b then [] else auto_rules_plain V t (tree l c o))
      by true = tt
      by false = auto-plain-shut t (tree l c o) h

  copy-shut : (t : ℕ) (a : Trees) → Unbound a → HaveShut (copy_rules t a)
  copy-shut t none h = tt
  copy-shut t (tree (fn_ptr n) c o) h = (tt, tt)
  copy-shut t (tree tuple c o) h = (each-shut t c (child-shut is_bound tuple c o h), tt)
  copy-shut t (tree l c o) h = tt

  tuple-shut : (a : Trees) → HaveShut (tuple_rules a)
  tuple-shut none = tt
  tuple-shut (tree tuple c o) = (tt, tt)
  tuple-shut (tree l c o) = tt

  fn-ptr-shut : (a : Trees) → HaveShut (fn_ptr_rules a)
  fn-ptr-shut none = tt
  fn-ptr-shut (tree (fn_ptr n) c o) = (tt, tt)
  fn-ptr-shut (tree l c o) = tt

  to-dyn-shut : (a : Trees) → Unbound a → HaveShut (unsize_to_dyn_rules V a)
  to-dyn-shut none h = tt
  to-dyn-shut (tree l c none) h = tt
  to-dyn-shut (tree l c (tree dynamic bs o)) h =
      let self = head-shut is_bound l c (tree dynamic bs o) h in
      let b = child-shut is_bound dynamic bs o (next-shut is_bound l c (tree dynamic bs o) h) in
      if-shut (not (is_dyn l) && are_dyn_compatible V (principal_with (tree l c none) bs)) _
      (every-append Shut (principal_with (tree l c none) bs) _ (principal-shut l c bs self b) (every-append Shut (autos_with (tree l c none) bs) _ (autos-shut (tree l c none) bs self) (self, tt)), tt)
  to-dyn-shut (tree l c (tree k bs o)) h = tt

  -- ---- supertraits
  bounds-shut : (A : Trees) → Unbound A → (bs : List Reference) → are_references bs ≡ true → Every Shut (all_with_args A bs)
  bounds-shut A h [] e = tt
  bounds-shut A h (b ∷ bs) e = (instance-unbound zero A b.args h (declared-unbound b.args (left (are_terms b.args) (are_references bs) e)), bounds-shut A h bs (right (are_terms b.args) (are_references bs) e))

  traits-declared : list_all (λ (x : TraitDecl). are_references x.bounds) V.traits ≡ true
  traits-declared = left (list_all (λ (x : TraitDecl). are_references x.bounds) V.traits) _ (right (list_all (λ (x : StructDecl). list_all are_terms x.fields) V.structs) _ well.terms)

  impls-declared : list_all (λ (i : ImplDecl). are_terms i.header.args && are_references i.clauses) V.impls ≡ true
  impls-declared = right (list_all (λ (x : TraitDecl). are_references x.bounds) V.traits) _ (right (list_all (λ (x : StructDecl). list_all are_terms x.fields) V.structs) _ well.terms)

  written-shut : (r : Reference) → Shut r → Every Shut (written_supertraits V r)
  written-shut r h =
      every-flat Shut (λ (x : TraitDecl). all_with_args r.args x.bounds) (traits_named V r.trait)
      (λ x i. bounds-shut r.args h x.bounds (member-each (λ (y : TraitDecl). are_references y.bounds) V.traits x traits-declared (in-filter (λ (y : TraitDecl). y.name == r.trait) V.traits x i).0))

  every-in : (xs : List Reference) → Every Shut xs → (x : Reference) → In x xs → Shut x
  every-in [] h x i = absurd (in-nothing x i)
  every-in (y ∷ xs) h x i = by (in-cases x y xs i) (λ j. every-in xs h.1 x j)
    where
      by : (y ≡ x) ⊎ In x xs → (In x xs → Shut x) → Shut x
      by (inl e) f = subst Shut e h.0
      by (inr j) f = f j

  strict-within : (n : ℕ) (r : Reference) → Shut r → Every Shut (strict_supertraits_within n V r)
  strict-within zero r h = tt
  strict-within (suc n) r h =
      every-flat Shut (λ (s : Reference). s ∷ strict_supertraits_within n V s) (written_supertraits V r) (λ s i. let g = every-in (written_supertraits V r) (written-shut r h) s i in (g, strict-within n s g))

  each-in : (xs : List Reference) → ((x : Reference) → In x xs → Shut x) → Every Shut xs
  each-in [] f = tt
  each-in (x ∷ xs) f = (f x (here x xs), each-in xs (λ y i. f y (there y x xs i)))

  supers-shut : (r : Reference) → Shut r → Every Shut (supertraits V r)
  supers-shut r h = each-in (supertraits V r) (λ x i. every-in (strict_supertraits V r) (strict-within (length V.traits) r h) x (supertraits-only V well.rank well.acyclic r x i))

  -- ---- candidates
  module _ (a : GoalOverKinds) (open_shut : Shut a.reference) where
    abbrev pub IsFine : Candidate → Type 0
    IsFine c = Every (λ (n : Nested). Unbound n.goal.predicate) c.nested × ((c.kinds ≡ []) ⊎ Every IsUnboundEquation c.equations)

    premises-shut : (kind : Bool) (rs : List Reference) → Every Shut rs → Every (λ (n : Nested). Unbound n.goal.predicate) (map (premise a kind) rs)
    premises-shut kind [] h = tt
    premises-shut kind (r ∷ rs) h = (unbound-node (predicate (of_trait r.trait)) r.args none refl h.0 refl, premises-shut kind rs h.1)

    rule-fine : (source : CandidateSource) (es : List Equation) (ps : List Reference) → Every Shut ps → IsFine (by_rule V a source es ps)
    rule-fine source es ps h = (premises-shut (is_coinductive V a.reference.trait) ps h, inl refl)

    self-shut : Unbound (self_of a)
    self-shut = head-erased a.reference.args open_shut

    if-first : (b : Bool) (c : Candidate) (xs : List Candidate) → IsFine c → Every IsFine xs → Every IsFine (if b then c ∷ xs else xs)
    if-first true c xs h e = (h, e)
    if-first false c xs h e = e

    if-fine : (b : Bool) (xs : List Candidate) → Every IsFine xs → Every IsFine (if_so b xs)
    if-fine true xs e = e
    if-fine false xs e = tt

    clauses-fine : (rs : List Reference) → Every IsFine (by_clauses V a rs)
    clauses-fine [] = tt
    clauses-fine (r ∷ rs) = if-first (can_be a.reference r) _ (by_clauses V a rs) (rule-fine (ParamEnv (clause_source r)) (all_equal a.reference.args r.args) [] tt) (clauses-fine rs)

    written-fine : (source : CandidateSource) (us : List Rule) → HaveShut us → Every IsFine (as_written V a source us)
    written-fine source [] h = tt
    written-fine source (u ∷ us) h = (rule-fine source [] u.premises h.0, written-fine source us h.1)

    call-fine : (t : Trees) → Unbound t → Every IsFine (call_of V a t)
    call-fine none h = tt
    call-fine (tree (fn_ptr n) types none) h = tt
    call-fine (tree (fn_ptr n) types (tree l c o)) h = (rule-fine misc (all_equal (tree tuple (but_last types) none) (tree l c none)) (last_asked sized types) (last-shut sized types (child-shut is_bound (fn_ptr n) types (tree l c o) h)), tt)
    call-fine (tree l c o) h = tt

    array-fine : (t : Trees) → Every IsFine (unsize_array_of V a t)
    array-fine none = tt
    array-fine (tree array none o) = tt
    array-fine (tree array (tree l c n) none) = tt
    array-fine (tree array (tree l c n) (tree slice none o)) = tt
    array-fine (tree array (tree l c n) (tree slice (tree m d p) o)) = (rule-fine misc (all_equal (tree l c none) (tree m d none)) [] tt, tt)
    array-fine (tree array (tree l c n) (tree k d o)) = tt
    array-fine (tree l c o) = tt

    upcasts-from-fine : (q : Reference) (n : ℕ) (rs : List Reference) → Every IsFine (upcasts_from V a q n rs)
    upcasts-from-fine q n [] = tt
    upcasts-from-fine q n (r ∷ rs) = if-first (r.trait == q.trait) _ (upcasts_from V a q (suc n) rs) (rule-fine (upcast_source n) (all_equal r.args q.args) [] tt) (upcasts-from-fine q (suc n) rs)

    upcasts-to-fine : (ps qs : List Reference) → Every IsFine (upcasts_to V a ps qs)
    upcasts-to-fine ps [] = (rule-fine misc [] [] tt, tt)
    upcasts-to-fine [] (q ∷ qs) = tt
    upcasts-to-fine (p ∷ ps) (q ∷ qs) = by (p.trait == q.trait)
      where
        by : (b : Bool) → Every IsFine (if b then by_rule V a misc (all_equal p.args q.args) [] ∷ [] else upcasts_from V a q 1 (supertraits V p))
        by true = (rule-fine misc (all_equal p.args q.args) [] tt, tt)
        by false = upcasts-from-fine q 1 (supertraits V p)

    upcasts-fine : (t : Trees) → Every IsFine (upcasts_of V a t)
    upcasts-fine none = tt
    upcasts-fine (tree dynamic b none) = tt
    upcasts-fine (tree dynamic b (tree dynamic d o)) =
        let self = tree dynamic b none in
        if-fine (are_declared V (principal_with self b) && upcasts_autos V (principal_with self b) (autos_with self b) (autos_with self d)) (upcasts_to V a (principal_with self b) (principal_with self d)) (upcasts-to-fine (principal_with self b) (principal_with self d))
    upcasts-fine (tree dynamic b (tree l d o)) = tt
    upcasts-fine (tree l c o) = tt

    structs-fine : (b d : Trees) → Unbound b → Unbound d → (xs : List StructDecl) → ((x : StructDecl) → In x xs → list_all are_terms x.fields ≡ true) → Every IsFine (flat_map (unsize_by_struct V a b d) xs)
    structs-fine b d h g [] f = tt
    structs-fine b d h g (x ∷ xs) f =
        every-append IsFine (unsize_by_struct V a b d x) (flat_map (unsize_by_struct V a b d) xs)
        (if-fine (some_unsizing x.fields 0 b) _ (rule-fine misc (all_equal (with_unsizing x.fields 0 b d) d) (last_unsizes x.fields b d) (last-unsizes-shut b d h g x.fields (f x (here x xs))), tt))
        (structs-fine b d h g xs (λ y i. f y (there y x xs i)))

    struct-fine : (t : Trees) → Unbound t → Every IsFine (unsize_struct_of V a t)
    struct-fine none h = tt
    struct-fine (tree (adt s) b none) h = tt
    struct-fine (tree (adt s) b (tree (adt u) d o)) h =
        if-fine (s == u) (flat_map (unsize_by_struct V a b d) (structs_named V s))
        (structs-fine b d (child-shut is_bound (adt s) b (tree (adt u) d o) h) (child-shut is_bound (adt u) d o (next-shut is_bound (adt s) b (tree (adt u) d o) h)) (structs_named V s)
        (λ x i. fields-declared V well.terms [] x (in-filter (λ (y : StructDecl). y.name == s) V.structs x i).0))
    struct-fine (tree (adt s) b (tree l d o)) h = tt
    struct-fine (tree l c o) h = tt

    known-fine : (t : Trees) → Unbound t → Every IsFine (unsize_known V a t)
    known-fine t h =
        every-append IsFine (unsize_array_of V a t) (as_written V a misc (unsize_to_dyn_rules V t) ++ (upcasts_of V a t ++ unsize_struct_of V a t)) (array-fine t)
        (every-append IsFine (as_written V a misc (unsize_to_dyn_rules V t)) (upcasts_of V a t ++ unsize_struct_of V a t) (written-fine misc (unsize_to_dyn_rules V t) (to-dyn-shut t h))
        (every-append IsFine (upcasts_of V a t) (unsize_struct_of V a t) (upcasts-fine t) (struct-fine t h)))

    unsize-fine : (b : Bool) → Every IsFine (if b then unsure ∷ [] else unsize_recording V a)
    unsize-fine true = ((tt, inl refl), tt)
    unsize-fine false = every-recorded (unsizing_outlives a.reference.args) IsFine (λ c h. h) (unsize_known V a (self_of a)) (known-fine (self_of a) self-shut)

    built-in-fine : Every IsFine (built_in V a)
    built-in-fine =
        every-append IsFine (by_sized V a) _ (if-fine _ _ (written-fine (BuiltinImpl Trivial) (sized_rules V (self_of a)) (sized-shut (self_of a) self-shut)))
        (every-append IsFine (by_copy V a) _ (if-fine _ _ (written-fine misc (copy_rules a.reference.trait (self_of a)) (copy-shut a.reference.trait (self_of a) self-shut)))
        (every-append IsFine (by_auto V a) _ (if-fine _ _ (written-fine misc (auto_rules V a.reference.trait (self_of a)) (auto-shut a.reference.trait (self_of a) self-shut)))
        (every-append IsFine (by_tuple V a) _ (if-fine _ _ (written-fine misc (tuple_rules (self_of a)) (tuple-shut (self_of a))))
        (every-append IsFine (by_fn_ptr V a) _ (if-fine _ _ (written-fine misc (fn_ptr_rules (self_of a)) (fn-ptr-shut (self_of a))))
        (every-append IsFine (by_call V a) _ (if-fine (is_fn_trait a.reference.trait) (call_of V a (self_of a)) (call-fine (self_of a) self-shut))
        (if-fine (a.reference.trait == unsize) _ (unsize-fine (begins_unknown a.kinds (next_of (self_of a))))))))))

    impl-fine : (i : ImplDecl) → In i V.impls → IsFine (by_the_impl V a i)
    impl-fine i k =
        let d = member-each (λ (x : ImplDecl). are_terms x.header.args && are_references x.clauses) V.impls i impls-declared k in (
          premises-shut (is_coinductive V a.reference.trait) (map (rules_behind (length a.kinds)) i.clauses) (clauses-moved i.clauses (right (are_terms i.header.args) _ d)),
          inr (equal-unbound a.reference.args (rules_behind (length a.kinds) i.header).args open_shut (moved-shut (length a.kinds) i.header.args (declared-unbound i.header.args (left (are_terms i.header.args) _ d)))),
        )
      where
        clauses-moved : (cs : List Reference) → are_references cs ≡ true → Every Shut (map (rules_behind (length a.kinds)) cs)
        clauses-moved [] e = tt
        clauses-moved (c ∷ cs) e = (moved-shut (length a.kinds) c.args (declared-unbound c.args (left (are_terms c.args) (are_references cs) e)), clauses-moved cs (right (are_terms c.args) (are_references cs) e))

    impls-fine : (is : List ImplDecl) → ((i : ImplDecl) → In i is → In i V.impls) → Every IsFine (by_impls V a is)
    impls-fine [] f = tt
    impls-fine (i ∷ is) f = if-first ((i.header.trait == a.reference.trait) && can_match a.reference.args i.header.args) (by_the_impl V a i) (by_impls V a is) (impl-fine i (f i (here i is))) (impls-fine is (λ j k. f j (there j i is k)))

    bounds-fine : (source : ℕ → CandidateSource) (n : ℕ) (rs : List Reference) → Every IsFine (bounds_from V a source n rs)
    bounds-fine source n [] = tt
    bounds-fine source n (r ∷ rs) =
        if-first (can_be a.reference r) _ (bounds_from V a source (suc n) rs) (rule-fine (source n) (all_equal a.reference.args r.args) (supertraits V a.reference) (supers-shut a.reference open_shut)) (bounds-fine source (suc n) rs)

    objects-fine : (t : Trees) → Every IsFine (objects_of V a t)
    objects-fine none = tt
    objects-fine (tree dynamic bounds others) =
        let self = tree dynamic bounds none in
        if-fine (are_dyn_compatible V (principal_with self bounds)) _
        (every-append IsFine (if_so (not (a.reference.trait == sized)) (bounds_from V a written_source 0 (autos_with self bounds))) _
        (if-fine (not (a.reference.trait == sized)) _ (bounds-fine written_source 0 (autos_with self bounds)))
        (if-fine (not (a.reference.trait == sized)) _ (bounds-fine object_source 0 (elaborate V (principal_with self bounds)))))
    objects-fine (tree l c o) = tt

    pub all-fine : Every IsFine (all_candidates V a)
    all-fine =
        every-append IsFine (by_clauses V a (clauses a)) _ (clauses-fine (clauses a))
        (every-append IsFine (built_in V a) _ built-in-fine (every-append IsFine (by_impls V a V.impls) _ (impls-fine V.impls (λ i k. k)) (objects-fine (self_of a))))

    pub unknowable-fine : IsFine (unknowable V a)
    unknowable-fine = (premises-shut false (supertraits V a.reference) (supers-shut a.reference open_shut), inl refl)
