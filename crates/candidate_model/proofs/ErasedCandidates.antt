-- A candidate of a view's declarations up to lifetimes is one of the declarations as they are written.
use Rattle.std.proofs.Common.{◌≡◌, ℕ, zero, suc, ◌==◌, Bool, true, false, not, ◌&&◌, ◌||◌, if◌then◌else◌, cond, List, [], ◌∷◌, ◌++◌, map, filter, length, inl, inr, refl, sym, ◌∙◌, ap, subst, Some}
use Rattle.std.specs.List.{flat_map, list_all, list_any}
use Rattle.type_terms.specs.Promised.Label.{Label, of_type, of_const, of_lifetime, array, slice, dynamic, fn_ptr, param, placeholder, infer, canonical, bound}
use Rattle.type_terms.specs.Promised.Trees.{Trees, none, tree, ◌+++◌, instantiate, some_node, erase, erase_label}
use Rattle.type_terms.specs.Promised.Worlds.{World, CrateDecl, Reference, StructDecl}
use Rattle.type_terms.specs.Promised.Erased.{erased_struct, erased_impl}
use Rattle.type_terms.specs.Promised.Rules.{BuiltIn, Rule, row, sized, unsize, is_coinductive, unsize_to_dyn_rules, principal_with, autos_with, are_declared, are_dyn_compatible, elaborated, is_dyn, upcasts_autos, strict_supertraits, strict_supertraits_within, written_supertraits, fields_of, together, is_parameter, is_unsizing, some_unsizing, with_unsizing, last_unsizes}
use Rattle.type_terms.specs.Promised.Rules as Model
use Rattle.type_terms.proofs.Supertraits.{flat-same}
use Rattle.type_terms.proofs.Walking.{left, right}
use Rattle.declarations.specs.Promised.Elaboration.{elaborate, supertraits, off_stack, new_of, pushed, all_levels, rest_of}
use Rattle.goal_evaluator.specs.Lists.{Every, SomeOf}
use Rattle.goal_evaluator.specs.declared.candidate.CandidateSource.{CandidateSource}
use Rattle.goal_evaluator.specs.declared.candidate.CandidateSource.TheVariants.{ParamEnv}
use Rattle.goal_evaluator.specs.Instances.{read_with}
use Rattle.goal_evaluator.specs.Content.{Fact, Values, given}
use Rattle.goal_evaluator.specs.FrameTables.{Equation}
use Rattle.candidate_model.specs.Facts.{tree_of_reference}
use Rattle.candidate_model.specs.Lifetimes.{lacks_lifetime, are_given}
use Rattle.candidate_model.specs.Asking.{GoalOverKinds}
use Rattle.candidate_model.specs.Candidates.{Candidate, premise, clause_source, by_rule, can_be, by_clauses, as_written, misc, if_so, all_equal, kinds_of_params, kind_of_param, is_this_param, call_of, unsize_array_of, upcasts_of, upcasts_to, upcasts_from, upcast_source, unsize_by_struct, bounds_from, object_source, written_source, objects_of, unknowable}
use Rattle.candidate_model.specs.Solver.{IsSolution}
use Rattle.candidate_model.specs.Cover.{slots, nested_at, SolvesEquations}
use Rattle.candidate_model.proofs.Reading.{read_reference, read-append}
use Rattle.candidate_model.proofs.ErasedReading.{instance-erased}
use Rattle.type_terms.proofs.BooleanBasics.{true-false}

-- ---- lists
pub some-map : {A : Type 0} (P : A → Type 0) (xs ys zs ws : List A) → (SomeOf P xs → SomeOf P zs) → (SomeOf P ys → SomeOf P ws) → SomeOf P (xs ++ ys) → SomeOf P (zs ++ ws)
some-map P [] ys zs ws f g s = right-part zs (g s)
  where
    right-part : (zs : List _) → SomeOf P ws → SomeOf P (zs ++ ws)
    right-part [] t = t
    right-part (z ∷ zs) t = inr (right-part zs t)
some-map P (x ∷ xs) ys zs ws f g (inl p) = left-part zs (f (inl p))
  where
    left-part : (zs : List _) → SomeOf P zs → SomeOf P (zs ++ ws)
    left-part [] t = absurd t
    left-part (z ∷ zs) (inl t) = inl t
    left-part (z ∷ zs) (inr t) = inr (left-part zs t)
some-map P (x ∷ xs) ys zs ws f g (inr s) = some-map P xs ys zs ws (λ t. f (inr t)) g s

-- ---- labels of parameters stay
param-same : (i : ℕ) (l : Label) → (is_this_param of_type i (erase_label l) ≡ is_this_param of_type i l) × (is_this_param of_const i (erase_label l) ≡ is_this_param of_const i l)
param-same i (param of_type j) = (refl, refl)
param-same i (param of_const j) = (refl, refl)
param-same i (param of_lifetime j) = (refl, refl)
param-same i (placeholder of_type j) = (refl, refl)
param-same i (placeholder of_const j) = (refl, refl)
param-same i (placeholder of_lifetime j) = (refl, refl)
param-same i (infer of_type j) = (refl, refl)
param-same i (infer of_const j) = (refl, refl)
param-same i (infer of_lifetime j) = (refl, refl)
param-same i (canonical of_type j) = (refl, refl)
param-same i (canonical of_const j) = (refl, refl)
param-same i (canonical of_lifetime j) = (refl, refl)
param-same i (bound of_type k j) = (refl, refl)
param-same i (bound of_const k j) = (refl, refl)
param-same i (bound of_lifetime k j) = (refl, refl)
param-same i l = (refl, refl)

pub nodes-same : (p : Label → Bool) → ((l : Label) → p (erase_label l) ≡ p l) → (t : Trees) → some_node p (erase t) ≡ some_node p t
nodes-same p h none = refl
nodes-same p h (tree l c o) = ap (λ b. b || some_node p (erase c) || some_node p (erase o)) (h l) ∙ ap (λ b. p l || b || some_node p (erase o)) (nodes-same p h c) ∙ ap (λ b. p l || some_node p c || b) (nodes-same p h o)

pub types-same : (i : ℕ) (t : Trees) → some_node (is_this_param of_type i) (erase t) ≡ some_node (is_this_param of_type i) t
types-same i t = nodes-same (is_this_param of_type i) (λ l. (param-same i l).0) t

pub consts-same : (i : ℕ) (t : Trees) → some_node (is_this_param of_const i) (erase t) ≡ some_node (is_this_param of_const i) t
consts-same i t = nodes-same (is_this_param of_const i) (λ l. (param-same i l).1) t

kind-same : (h : Trees) (i : ℕ) → kind_of_param (erase h) i ≡ kind_of_param h i
kind-same h i = rw (types-same i h, consts-same i h) refl

pub kinds-same : (h : Trees) (i n : ℕ) → kinds_of_params (erase h) i n ≡ kinds_of_params h i n
kinds-same h i zero = refl
kinds-same h i (suc n) = ap (λ k. k ∷ kinds_of_params (erase h) (suc i) n) (kind-same h i) ∙ ap (λ ks. kind_of_param h i ∷ ks) (kinds-same h (suc i) n)

-- ---- unsizing parameters
parameter-same : (i : ℕ) (l : Label) → is_parameter i (erase_label l) ≡ is_parameter i l
parameter-same i (param of_type j) = refl
parameter-same i (param of_const j) = refl
parameter-same i (param of_lifetime j) = refl
parameter-same i (placeholder of_type j) = refl
parameter-same i (placeholder of_const j) = refl
parameter-same i (placeholder of_lifetime j) = refl
parameter-same i (infer of_type j) = refl
parameter-same i (infer of_const j) = refl
parameter-same i (infer of_lifetime j) = refl
parameter-same i (canonical of_type j) = refl
parameter-same i (canonical of_const j) = refl
parameter-same i (canonical of_lifetime j) = refl
parameter-same i (bound of_type k j) = refl
parameter-same i (bound of_const k j) = refl
parameter-same i (bound of_lifetime k j) = refl
parameter-same i l = refl

unsizing-same : (fs : List Trees) (i : ℕ) → is_unsizing (map erase fs) i ≡ is_unsizing fs i
unsizing-same [] i = refl
unsizing-same (f ∷ []) i = nodes-same (is_parameter i) (parameter-same i) f
unsizing-same (f ∷ g ∷ fs) i = ap (λ b. not b && is_unsizing (map erase (g ∷ fs)) i) (nodes-same (is_parameter i) (parameter-same i) f) ∙ ap (λ b. not (some_node (is_parameter i) f) && b) (unsizing-same (g ∷ fs) i)

some-unsizing-same : (fs : List Trees) (k : ℕ) (b : Trees) → some_unsizing (map erase fs) k b ≡ some_unsizing fs k b
some-unsizing-same fs k none = refl
some-unsizing-same fs k (tree l c o) = ap (λ x. x || some_unsizing (map erase fs) (suc k) o) (unsizing-same fs k) ∙ ap (λ x. is_unsizing fs k || x) (some-unsizing-same fs (suc k) o)

with-unsizing-same : (fs : List Trees) (k : ℕ) (b d : Trees) → with_unsizing (map erase fs) k b d ≡ with_unsizing fs k b d
with-unsizing-same fs k none d = refl
with-unsizing-same fs k (tree l c o) none = refl
with-unsizing-same fs k (tree l c o) (tree m e p) = by (is_unsizing (map erase fs) k) (is_unsizing fs k) (unsizing-same fs k) (with-unsizing-same fs (suc k) o p)
  where
    by : (x y : Bool) → x ≡ y → with_unsizing (map erase fs) (suc k) o p ≡ with_unsizing fs (suc k) o p
        → (if x then tree m e (with_unsizing (map erase fs) (suc k) o p) else tree l c (with_unsizing (map erase fs) (suc k) o p)) ≡ (if y then tree m e (with_unsizing fs (suc k) o p) else tree l c (with_unsizing fs (suc k) o p))
    by true true q r = ap (λ z. tree m e z) r
    by false false q r = ap (λ z. tree l c z) r
    by true false q r = absurd (true-false q)
    by false true q r = absurd (true-false (sym q))

pub not-true : (b : Bool) → not b ≡ true → b ≡ false
not-true true e = absurd (true-false (sym e))
not-true false e = refl

-- the structs and impls up to lifetimes, with any crates
abbrev pub without_lifetimes : World → List CrateDecl → World
without_lifetimes V cs = record { crates = cs; structs = map erased_struct V.structs; traits = V.traits; impls = map erased_impl V.impls }

module _ (H : Reference → Type 0) (V : World) (cs : List CrateDecl) (a : GoalOverKinds) (v : Values) where
  abbrev U : World
  U = without_lifetimes V cs

  abbrev P : Candidate → Type 0
  P c = SolvesEquations H a.kinds v c

  -- ---- premises that are read alike
  abbrev fact-of : List Trees → Reference → Fact
  fact-of ts r = record { trait = Some r.trait; goal = record { environment = read_with (given ts) a.environment; predicate = tree_of_reference r none }; proper = true }

  pub solved : (k : Bool) (ts : List Trees) (ps qs : List Reference) → map (read_reference ts) ps ≡ map (read_reference ts) qs
      → Every (λ n. IsSolution H (nested_at ts n)) (map (premise a k) ps) → Every (λ n. IsSolution H (nested_at ts n)) (map (premise a k) qs)
  solved k ts [] [] e x = tt
  solved k ts [] (q ∷ qs) e x = absurd (no (read_reference ts q) (map (read_reference ts) qs) e)
    where
      no : (r : Reference) (rs : List Reference) → [] ≡ r ∷ rs → ⊥
      no r rs f = cc
  solved k ts (p ∷ ps) [] e x = absurd (no (read_reference ts p) (map (read_reference ts) ps) e)
    where
      no : (r : Reference) (rs : List Reference) → r ∷ rs ≡ [] → ⊥
      no r rs f = cc
  solved k ts (p ∷ ps) (q ∷ qs) e x = (subst (λ r. IsSolution H (fact-of ts r)) (first (read_reference ts p) (read_reference ts q) _ _ e) x.0, solved k ts ps qs (rest (read_reference ts p) (read_reference ts q) _ _ e) x.1)
    where
      first : (r s : Reference) (rs ss : List Reference) → r ∷ rs ≡ s ∷ ss → r ≡ s
      first r s rs ss f = cc

      rest : (r s : Reference) (rs ss : List Reference) → r ∷ rs ≡ s ∷ ss → rs ≡ ss
      rest r s rs ss f = cc

  rule-gives : (source : CandidateSource) (es : List Equation) (ps qs : List Reference) → ((ts : List Trees) → map (read_reference ts) ps ≡ map (read_reference ts) qs)
      → P (by_rule U a source es ps) → P (by_rule V a source es qs)
  rule-gives source es ps qs e g = record {
    own = g.own;
    sorted = g.sorted;
    equal = g.equal;
    solves = solved (is_coinductive V a.reference.trait) (slots a.kinds v g.own) ps qs (e (slots a.kinds v g.own)) g.solves;
  }

  -- ---- what reads traits alone
  within-same : (n : ℕ) (r : Reference) → strict_supertraits_within n U r ≡ strict_supertraits_within n V r
  within-same zero r = refl
  within-same (suc n) r = flat-same (λ s. s ∷ strict_supertraits_within n U s) (λ s. s ∷ strict_supertraits_within n V s) (written_supertraits V r) (λ s i. ap (λ z. s ∷ z) (within-same n s))

  pub strict-same : (r : Reference) → strict_supertraits U r ≡ strict_supertraits V r
  strict-same r = within-same (length V.traits) r

  elaborated-same : (rs : List Reference) → elaborated U rs ≡ elaborated V rs
  elaborated-same rs = flat-same (λ r. r ∷ strict_supertraits U r) (λ r. r ∷ strict_supertraits V r) rs (λ r i. ap (λ z. r ∷ z) (strict-same r))

  stack-same : (n : ℕ) (before stack : List Reference) → off_stack n U before stack ≡ off_stack n V before stack
  stack-same zero before stack = refl
  stack-same (suc n) before [] = refl
  stack-same (suc n) before (r ∷ stack) = ap (λ z. r ∷ z) (stack-same n (new_of before (written_supertraits V r) ++ before) (pushed (new_of before (written_supertraits V r)) stack))

  elaborate-same : (rs : List Reference) → elaborate U rs ≡ elaborate V rs
  elaborate-same rs = stack-same (length (all_levels U rs)) (new_of [] rs) (pushed (new_of [] rs) []) ∙ ap (λ z. off_stack (length z) V (new_of [] rs) (pushed (new_of [] rs) [])) (elaborated-same rs)

  pub supertraits-same : (r : Reference) → supertraits U r ≡ supertraits V r
  supertraits-same r = ap rest_of (elaborate-same (r ∷ []))

  pub unknowable-gives : P (unknowable U a) → P (unknowable V a)
  unknowable-gives g = record {
    own = g.own;
    sorted = g.sorted;
    equal = g.equal;
    solves = solved false (slots a.kinds v g.own) (supertraits U a.reference) (supertraits V a.reference) (ap (map (read_reference (slots a.kinds v g.own))) (supertraits-same a.reference)) g.solves;
  }

  pub written-same : (source : CandidateSource) (us : List Rule) → as_written U a source us ≡ as_written V a source us
  written-same source [] = refl
  written-same source (u ∷ us) = ap (λ z. by_rule V a source [] u.premises ∷ z) (written-same source us)

  pub clauses-same : (rs : List Reference) → by_clauses U a rs ≡ by_clauses V a rs
  clauses-same [] = refl
  clauses-same (r ∷ rs) = by (can_be a.reference r) (clauses-same rs)
    where
      by : (b : Bool) → by_clauses U a rs ≡ by_clauses V a rs
          → (if b then by_rule U a (ParamEnv (clause_source r)) (all_equal a.reference.args r.args) [] ∷ by_clauses U a rs else by_clauses U a rs)
          ≡ (if b then by_rule V a (ParamEnv (clause_source r)) (all_equal a.reference.args r.args) [] ∷ by_clauses V a rs else by_clauses V a rs)
      by true e = ap (λ z. by_rule V a (ParamEnv (clause_source r)) (all_equal a.reference.args r.args) [] ∷ z) e
      by false e = e

  pub call-same : (t : Trees) → call_of U a t ≡ call_of V a t
  call-same (tree (fn_ptr n) types (tree l c o)) = refl
  call-same (tree (fn_ptr n) types none) = refl
  call-same none = refl
  call-same (tree l c o) = refl

  pub array-same : (t : Trees) → unsize_array_of U a t ≡ unsize_array_of V a t
  array-same (tree array (tree l c n) (tree slice (tree m d p) o)) = refl
  array-same t = refl

  compatible-same : (ps : List Reference) → are_dyn_compatible U ps ≡ are_dyn_compatible V ps
  compatible-same ps = ap (λ es. are_declared V ps && not (list_any (λ s. s.trait == sized) es)) (elaborated-same ps)

  pub to-dyn-same : (t : Trees) → unsize_to_dyn_rules U t ≡ unsize_to_dyn_rules V t
  to-dyn-same (tree l c (tree dynamic bounds o)) =
      ap (λ b. if not (is_dyn l) && b then row Model.unsize_to_dyn (principal_with (tree l c none) bounds ++ (autos_with (tree l c none) bounds ++ Model.asked sized (tree l c none) ∷ [])) else [])
      (compatible-same (principal_with (tree l c none) bounds))
  to-dyn-same none = refl
  to-dyn-same (tree l c none) = refl
  to-dyn-same (tree l c (tree m d o)) = refl

  from-same : (q : Reference) (i : ℕ) (rs : List Reference) → upcasts_from U a q i rs ≡ upcasts_from V a q i rs
  from-same q i [] = refl
  from-same q i (r ∷ rs) = by (r.trait == q.trait) (from-same q (suc i) rs)
    where
      by : (b : Bool) → upcasts_from U a q (suc i) rs ≡ upcasts_from V a q (suc i) rs
          → (if b then by_rule U a (upcast_source i) (all_equal r.args q.args) [] ∷ upcasts_from U a q (suc i) rs else upcasts_from U a q (suc i) rs)
          ≡ (if b then by_rule V a (upcast_source i) (all_equal r.args q.args) [] ∷ upcasts_from V a q (suc i) rs else upcasts_from V a q (suc i) rs)
      by true e = ap (λ z. by_rule V a (upcast_source i) (all_equal r.args q.args) [] ∷ z) e
      by false e = e

  to-same : (ps qs : List Reference) → upcasts_to U a ps qs ≡ upcasts_to V a ps qs
  to-same ps [] = refl
  to-same [] (q ∷ qs) = refl
  to-same (p ∷ ps) (q ∷ qs) =
      ap (λ z. if p.trait == q.trait then by_rule V a misc (all_equal p.args q.args) [] ∷ [] else z) (from-same q 1 (supertraits U p) ∙ ap (upcasts_from V a q 1) (supertraits-same p))

  pub upcasts-same : (t : Trees) → upcasts_of U a t ≡ upcasts_of V a t
  upcasts-same (tree dynamic b (tree dynamic d o)) =
      let self = tree dynamic b none in
      let ps = principal_with self b in
      ap (λ es. if_so (are_declared V ps && list_all (λ x. list_any (λ q. q.trait == x.trait) (autos_with self b ++ es)) (autos_with self d)) (upcasts_to U a ps (principal_with self d))) (elaborated-same ps)
      ∙ ap (λ z. if_so (are_declared V ps && upcasts_autos V ps (autos_with self b) (autos_with self d)) z) (to-same ps (principal_with self d))
  upcasts-same t = refl

  bounds-same : (source : ℕ → CandidateSource) (i : ℕ) (rs : List Reference) → bounds_from U a source i rs ≡ bounds_from V a source i rs
  bounds-same source i [] = refl
  bounds-same source i (r ∷ rs) = by (can_be a.reference r) (bounds-same source (suc i) rs)
    where
      by : (b : Bool) → bounds_from U a source (suc i) rs ≡ bounds_from V a source (suc i) rs
          → (if b then by_rule U a (source i) (all_equal a.reference.args r.args) (supertraits U a.reference) ∷ bounds_from U a source (suc i) rs else bounds_from U a source (suc i) rs)
          ≡ (if b then by_rule V a (source i) (all_equal a.reference.args r.args) (supertraits V a.reference) ∷ bounds_from V a source (suc i) rs else bounds_from V a source (suc i) rs)
      by true e = ap (λ z. by_rule V a (source i) (all_equal a.reference.args r.args) z ∷ bounds_from U a source (suc i) rs) (supertraits-same a.reference) ∙ ap (λ z. by_rule V a (source i) (all_equal a.reference.args r.args) (supertraits V a.reference) ∷ z) e
      by false e = e

  pub objects-same : (t : Trees) → objects_of U a t ≡ objects_of V a t
  objects-same (tree dynamic bounds o) =
      let self = tree dynamic bounds none in
      let ps = principal_with self bounds in
      ap (λ b. if_so b (if_so (not (a.reference.trait == sized)) (bounds_from U a written_source 0 (autos_with self bounds)) ++ if_so (not (a.reference.trait == sized)) (bounds_from U a object_source 0 (elaborate U ps)))) (compatible-same ps)
      ∙ ap (λ z. if_so (are_dyn_compatible V ps) (if_so (not (a.reference.trait == sized)) z ++ if_so (not (a.reference.trait == sized)) (bounds_from U a object_source 0 (elaborate U ps)))) (bounds-same written_source 0 (autos_with self bounds))
      ∙ ap (λ z. if_so (are_dyn_compatible V ps) (if_so (not (a.reference.trait == sized)) (bounds_from V a written_source 0 (autos_with self bounds)) ++ if_so (not (a.reference.trait == sized)) z)) (bounds-same object_source 0 (elaborate U ps) ∙ ap (bounds_from V a object_source 0) (elaborate-same ps))
  objects-same none = refl
  objects-same (tree l c o) = refl

  pub by-same : (xs ys : List Candidate) → xs ≡ ys → SomeOf P xs → SomeOf P ys
  by-same xs ys e s = subst (SomeOf P) e s

  -- ---- fields of structs
  fields-same : (ts : List Trees) (A : Trees) (fs : List Trees) → list_all (λ t. not (some_node (lacks_lifetime A) t)) fs ≡ true
      → read_with (given ts) (together (map (instantiate zero A) (map erase fs))) ≡ read_with (given ts) (together (map (instantiate zero A) fs))
  fields-same ts A [] h = refl
  fields-same ts A (f ∷ fs) h =
      read-append ts (instantiate zero A (erase f)) (together (map (instantiate zero A) (map erase fs)))
      ∙ ap (λ z. z +++ read_with (given ts) (together (map (instantiate zero A) (map erase fs)))) (instance-erased ts A zero f (not-true (some_node (lacks_lifetime A) f) (left (not (some_node (lacks_lifetime A) f)) (list_all (λ t. not (some_node (lacks_lifetime A) t)) fs) h)))
      ∙ ap (λ z. read_with (given ts) (instantiate zero A f) +++ z) (fields-same ts A fs (right (not (some_node (lacks_lifetime A) f)) (list_all (λ t. not (some_node (lacks_lifetime A) t)) fs) h))
      ∙ sym (read-append ts (instantiate zero A f) (together (map (instantiate zero A) fs)))

  -- a row of a struct, by what its fields make
  pub struct-rows : (source : CandidateSource) (b : BuiltIn) (make : Trees → List Reference) → ((ts : List Trees) (t : Trees) → make (read_with (given ts) t) ≡ map (read_reference ts) (make t))
      → (s : ℕ) (A : Trees) (xs : List StructDecl) → list_all (are_given A) (filter (λ x. x.name == s) xs) ≡ true
      → SomeOf P (as_written U a source (flat_map (λ x. row b (make (fields_of x A))) (filter (λ x. x.name == s) (map erased_struct xs))))
      → SomeOf P (as_written V a source (flat_map (λ x. row b (make (fields_of x A))) (filter (λ x. x.name == s) xs)))
  struct-rows source b make natural s A [] h g = g
  struct-rows source b make natural s A (x ∷ xs) h g = by (x.name == s) h g (struct-rows source b make natural s A xs)
    where
      one : are_given A x ≡ true → P (by_rule U a source [] (make (fields_of (erased_struct x) A))) → P (by_rule V a source [] (make (fields_of x A)))
      one e p = rule-gives source [] (make (fields_of (erased_struct x) A)) (make (fields_of x A)) (λ ts. sym (natural ts (fields_of (erased_struct x) A)) ∙ ap make (fields-same ts A x.fields e) ∙ natural ts (fields_of x A)) p

      by : (c : Bool) → list_all (are_given A) (cond c (x ∷ filter (λ y. y.name == s) xs) (filter (λ y. y.name == s) xs)) ≡ true
          → SomeOf P (as_written U a source (flat_map (λ y. row b (make (fields_of y A))) (cond c (erased_struct x ∷ filter (λ y. y.name == s) (map erased_struct xs)) (filter (λ y. y.name == s) (map erased_struct xs)))))
          → (list_all (are_given A) (filter (λ y. y.name == s) xs) ≡ true
          → SomeOf P (as_written U a source (flat_map (λ y. row b (make (fields_of y A))) (filter (λ y. y.name == s) (map erased_struct xs))))
          → SomeOf P (as_written V a source (flat_map (λ y. row b (make (fields_of y A))) (filter (λ y. y.name == s) xs))))
          → SomeOf P (as_written V a source (flat_map (λ y. row b (make (fields_of y A))) (cond c (x ∷ filter (λ y. y.name == s) xs) (filter (λ y. y.name == s) xs))))
      by false e p go = go e p
      by true e (inl p) go = inl (one (left (are_given A x) (list_all (are_given A) (filter (λ y. y.name == s) xs)) e) p)
      by true e (inr p) go = inr (go (right (are_given A x) (list_all (are_given A) (filter (λ y. y.name == s) xs)) e) p)

  last-same : (ts : List Trees) (b d : Trees) (fs : List Trees) → list_all (λ t. not (some_node (lacks_lifetime b) t)) fs ≡ true → list_all (λ t. not (some_node (lacks_lifetime d) t)) fs ≡ true
      → map (read_reference ts) (last_unsizes (map erase fs) b d) ≡ map (read_reference ts) (last_unsizes fs b d)
  last-same ts b d [] h g = refl
  last-same ts b d (f ∷ []) h g =
      ap (λ z. record { trait = unsize; args = z } ∷ [])
      (read-append ts (instantiate zero b (erase f)) (instantiate zero d (erase f))
      ∙ ap (λ z. z +++ read_with (given ts) (instantiate zero d (erase f))) (instance-erased ts b zero f (not-true (some_node (lacks_lifetime b) f) (left (not (some_node (lacks_lifetime b) f)) true h)))
      ∙ ap (λ z. read_with (given ts) (instantiate zero b f) +++ z) (instance-erased ts d zero f (not-true (some_node (lacks_lifetime d) f) (left (not (some_node (lacks_lifetime d) f)) true g)))
      ∙ sym (read-append ts (instantiate zero b f) (instantiate zero d f)))
  last-same ts b d (f ∷ k ∷ fs) h g =
      last-same ts b d (k ∷ fs) (right (not (some_node (lacks_lifetime b) f)) (list_all (λ t. not (some_node (lacks_lifetime b) t)) (k ∷ fs)) h)
      (right (not (some_node (lacks_lifetime d) f)) (list_all (λ t. not (some_node (lacks_lifetime d) t)) (k ∷ fs)) g)

  struct-by : (b d : Trees) (x : StructDecl) → are_given b x ≡ true → are_given d x ≡ true → SomeOf P (unsize_by_struct U a b d (erased_struct x)) → SomeOf P (unsize_by_struct V a b d x)
  struct-by b d x h g s = by (some_unsizing x.fields 0 b) (subst (λ z. SomeOf P (if_so z (by_rule U a misc (all_equal (with_unsizing (map erase x.fields) 0 b d) d) (last_unsizes (map erase x.fields) b d) ∷ []))) (some-unsizing-same x.fields 0 b) s)
    where
      by : (c : Bool) → SomeOf P (if_so c (by_rule U a misc (all_equal (with_unsizing (map erase x.fields) 0 b d) d) (last_unsizes (map erase x.fields) b d) ∷ []))
          → SomeOf P (if_so c (by_rule V a misc (all_equal (with_unsizing x.fields 0 b d) d) (last_unsizes x.fields b d) ∷ []))
      by false p = absurd p
      by true (inl p) =
          inl (rule-gives misc (all_equal (with_unsizing x.fields 0 b d) d) (last_unsizes (map erase x.fields) b d) (last_unsizes x.fields b d) (λ ts. last-same ts b d x.fields h g)
          (subst (λ z. P (by_rule U a misc (all_equal z d) (last_unsizes (map erase x.fields) b d))) (with-unsizing-same x.fields 0 b d) p))
      by true (inr p) = absurd p

  pub struct-unsizes : (b d : Trees) (s : ℕ) (xs : List StructDecl) → list_all (are_given b) (filter (λ x. x.name == s) xs) ≡ true → list_all (are_given d) (filter (λ x. x.name == s) xs) ≡ true
      → SomeOf P (flat_map (unsize_by_struct U a b d) (filter (λ x. x.name == s) (map erased_struct xs))) → SomeOf P (flat_map (unsize_by_struct V a b d) (filter (λ x. x.name == s) xs))
  struct-unsizes b d s [] h g p = p
  struct-unsizes b d s (x ∷ xs) h g p = by (x.name == s) h g p (struct-unsizes b d s xs)
    where
      by : (c : Bool) → list_all (are_given b) (cond c (x ∷ filter (λ y. y.name == s) xs) (filter (λ y. y.name == s) xs)) ≡ true → list_all (are_given d) (cond c (x ∷ filter (λ y. y.name == s) xs) (filter (λ y. y.name == s) xs)) ≡ true
          → SomeOf P (flat_map (unsize_by_struct U a b d) (cond c (erased_struct x ∷ filter (λ y. y.name == s) (map erased_struct xs)) (filter (λ y. y.name == s) (map erased_struct xs))))
          → (list_all (are_given b) (filter (λ y. y.name == s) xs) ≡ true → list_all (are_given d) (filter (λ y. y.name == s) xs) ≡ true
          → SomeOf P (flat_map (unsize_by_struct U a b d) (filter (λ y. y.name == s) (map erased_struct xs))) → SomeOf P (flat_map (unsize_by_struct V a b d) (filter (λ y. y.name == s) xs)))
          → SomeOf P (flat_map (unsize_by_struct V a b d) (cond c (x ∷ filter (λ y. y.name == s) xs) (filter (λ y. y.name == s) xs)))
      by false e f q go = go e f q
      by true e f q go =
          some-map P (unsize_by_struct U a b d (erased_struct x)) (flat_map (unsize_by_struct U a b d) (filter (λ y. y.name == s) (map erased_struct xs))) (unsize_by_struct V a b d x) (flat_map (unsize_by_struct V a b d) (filter (λ y. y.name == s) xs))
          (struct-by b d x (left (are_given b x) (list_all (are_given b) (filter (λ y. y.name == s) xs)) e) (left (are_given d x) (list_all (are_given d) (filter (λ y. y.name == s) xs)) f))
          (go (right (are_given b x) (list_all (are_given b) (filter (λ y. y.name == s) xs)) e) (right (are_given d x) (list_all (are_given d) (filter (λ y. y.name == s) xs)) f)) q
