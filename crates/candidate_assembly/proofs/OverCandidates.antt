-- The terms of the candidates of a goal that is decided are over the variables of the goal and of the candidate alone.
use Rattle.std.proofs.Common.{◌≡◌, ℕ, suc, ◌+◌, Bool, true, false, not, ◌&&◌, ◌||◌, ◌==◌, if◌then◌else◌, List, [], ◌∷◌, map, length, refl, sym, ◌∙◌, ap, Some}
use Rattle.std.specs.Prelude.{nat_lt}
use Rattle.std.specs.List.{flat_map, list_all, slice_get}
use Rattle.type_terms.specs.Promised.Label.{Label, Sort, of_type, of_const, of_lifetime, tuple, dynamic, array, slice, adt, fn_ptr, predicate, of_trait}
use Rattle.type_terms.specs.Promised.Trees.{Trees, none, tree, leaf, some_node}
use Rattle.type_terms.specs.Trees.{is_a}
use Rattle.type_terms.specs.Promised.Worlds.{World, Reference, StructDecl, TraitDecl, ImplDecl, structs_named}
use Rattle.type_terms.specs.Promised.Rules.{Rule, sized, clone, copy, tuple_trait, fn_ptr_trait, is_fn_trait, unsize, is_auto, is_coinductive, sized_rules, copy_rules, auto_rules, tuple_rules, fn_ptr_rules, unsize_to_dyn_rules, but_last, last_asked, principal_with, autos_with, are_dyn_compatible, are_declared, upcasts_autos, some_unsizing, with_unsizing, last_unsizes}
use Rattle.type_terms.specs.Promised.Proofs.{In}
use Rattle.type_terms.specs.Promised.Answers.{is_open}
use Rattle.type_terms.proofs.Members.{here, there, in-filter}
use Rattle.type_terms.proofs.NoHolds.{member-each}
use Rattle.type_terms.specs.Made.{terms, is_made}
use Rattle.type_terms.proofs.Made.{false-true, left, right}
use Rattle.infer_table.specs.Canonical.{CanonicalForm}
use Rattle.infer_table.specs.declared.canonical.CanonicalVarKind.{CanonicalVarKind}
use Rattle.infer_table.specs.Values.{Value}
use Rattle.goal_evaluator.specs.declared.candidate.CandidateSource.{CandidateSource}
use Rattle.goal_evaluator.specs.declared.candidate.CandidateSource.TheVariants.{BuiltinImpl, ParamEnv}
use Rattle.goal_evaluator.specs.declared.candidate.BuiltinImplSource.TheVariants.{Trivial}
use Rattle.goal_evaluator.specs.Lists.{Every}
use Rattle.goal_evaluator.proofs.ListLaws.{Every-both, Every-map}
use Rattle.goal_evaluator.specs.TableAnswers.{is_kind_of}
use Rattle.goal_evaluator.specs.FrameTables.{Nested, Equation, kind_at, term_of, is_open_label}
use Rattle.goal_evaluator.specs.Instances.{default_label}
use Rattle.goal_evaluator.specs.Fitting.{is_of_sort, AreOver, IsGoalOver, IsValueOver}
use Rattle.goal_evaluator.specs.Variables.{is_variable_over}
use Rattle.goal_frames.specs.RuleFitting.{slots_of, IsOverSlots}
use Rattle.declarations.specs.Promised.Elaboration.{elaborate, supertraits}
use Rattle.candidate_model.specs.Asking.{GoalOverKinds, clauses, self_of, next_of, begins_unknown, all_known, are_clauses, goal_over_kinds}
use Rattle.candidate_model.specs.Candidates.{Candidate, all_equal, premise, by_rule, unsure, unknowable, clause_source, can_be, by_clauses, rules_behind, is_this_param, kind_of_param, kinds_of_params, by_the_impl, can_match, by_impls, as_written, misc, if_so, by_sized, by_copy, by_auto, by_tuple, by_fn_ptr, call_of, by_call, unsize_array_of, upcast_source, upcasts_from, upcasts_to, upcasts_of, unsize_by_struct, unsize_struct_of, unsize_known, recording, unsizing_outlives, unsize_recording, by_unsize, built_in, bounds_from, object_source, written_source, objects_of, by_objects}
use Rattle.candidate_model.specs.Cover.{AreTermsOf, all_candidates}
use Rattle.candidate_model.specs.Declared.{are_terms, is_unsorted, is_otherwise}
use Rattle.candidate_model.specs.DeclaredWell.{IsDeclaredWell}
use Rattle.candidate_model.specs.Facts.{clauses_of}
use Rattle.candidate_model.specs.Meaning.{ViewMeaning}
use Rattle.candidate_model.proofs.BoundTerms.{equations-are-terms}
use Rattle.candidate_model.proofs.Cover.{IsAsked, asked-by}
use Rattle.candidate_model.proofs.DeclaredParts.{header-declared, clause-declared, bound-declared}
use Rattle.candidate_model.proofs.Elaborating.{every-in}
use Rattle.candidate_model.proofs.LawfulCandidates.{asked-clauses}
use Rattle.candidate_model.proofs.Rows.{fields-declared}
use Rattle.candidate_model.proofs.Recording.{every-recorded}
use Rattle.goal_frames.proofs.RuleFitting.{rule-slots}
use Rattle.candidate_assembly.proofs.Over.{ArePlain, declared-plain, goal-over, over-head, over-behind, over-plain-head, over-append, over-unsizing, AreOverSides, over-equal, over-reference}
use Rattle.candidate_assembly.proofs.OverRows.{AreOverAll, AskOver, last-over, last-unsizes-over, sized-over, copy-over, auto-over, tuple-over, fn-ptr-over, principal-over, autos-over, to-dyn-over, elaborated-over, supertraits-over, but-last-over, unsizing-over}
use Rattle.candidate_assembly.proofs.WellDeclared.{found, kind_for, kind-is, kinds-at, label-of, is-less}
use Rattle.goal_evaluator.proofs.Basics.{both-lists}
use Rattle.std.proofs.lemmas.Bool.{not-true, not-false, or_parts}
use Rattle.type_terms.proofs.NumberBasics.{zero-first}
use Rattle.built_in_candidates.proofs.FoundKinds.{kind-found}

-- ---- candidates
-- the candidate's terms are over these variables
abbrev IsOpenOver : List Label → Candidate → Type 0
IsOpenOver ls c = AreOverSides ls c.equations × AreOver ls c.regions × Every (λ (n : Nested). IsGoalOver ls n.goal) c.nested

-- those of the goal, and behind them its own
abbrev FitsGoal : List CanonicalVarKind → Candidate → Type 0
FitsGoal kinds c = IsOpenOver (slots_of kinds c.kinds) c

module _ (V : World) (fields : (x : StructDecl) → In x V.structs → Every ArePlain x.fields) (bounds : (x : TraitDecl) → In x V.traits → (b : Reference) → In b x.bounds → ArePlain b.args) (a : GoalOverKinds)
    (environment : (own : List CanonicalVarKind) → AreOver (slots_of a.kinds own) a.environment) (goal : (own : List CanonicalVarKind) → AreOver (slots_of a.kinds own) a.reference.args)
    (clauses_are : Every (λ (r : Reference). AreOver (slots_of a.kinds []) r.args) (clauses a))
    (impls_are : (i : ImplDecl) → In i V.impls → FitsGoal a.kinds (by_the_impl V a i)) where
  abbrev ls : List Label
  ls = slots_of a.kinds []

  abbrev Fit : Candidate → Type 0
  Fit c = FitsGoal a.kinds c

  premises-over : (own : List CanonicalVarKind) (kind : Bool) (rs : List Reference) → Every (λ (r : Reference). AreOver (slots_of a.kinds own) r.args) rs → Every (λ (n : Nested). IsGoalOver (slots_of a.kinds own) n.goal) (map (premise a kind) rs)
  premises-over own kind [] h = tt
  premises-over own kind (r ∷ rs) h = (record { environment = environment own; predicate = over-reference (slots_of a.kinds own) r h.0 }, premises-over own kind rs h.1)

  rule-over : (source : CandidateSource) (es : List Equation) (ps : List Reference) → AreOverSides ls es → AreOverAll V ls fields bounds ps → Fit (by_rule V a source es ps)
  rule-over source es ps h g = (h, tt, premises-over [] (is_coinductive V a.reference.trait) ps g)

  so : (b : Bool) (xs : List Candidate) → Every Fit xs → Every Fit (if_so b xs)
  so true xs h = h
  so false xs h = tt

  written-over : (source : CandidateSource) (us : List Rule) → AskOver V ls fields bounds us → Every Fit (as_written V a source us)
  written-over source [] h = tt
  written-over source (u ∷ us) h = (rule-over source [] u.premises tt h.0, written-over source us h.1)

  -- ---- where-clauses
  clauses-over : (rs : List Reference) → Every (λ (r : Reference). AreOver ls r.args) rs → Every Fit (by_clauses V a rs)
  clauses-over [] h = tt
  clauses-over (r ∷ rs) h = by (can_be a.reference r) (clauses-over rs h.1)
    where
      by : (b : Bool) → Every Fit (by_clauses V a rs) → Every Fit (if b then by_rule V a (ParamEnv (clause_source r)) (all_equal a.reference.args r.args) [] ∷ by_clauses V a rs else by_clauses V a rs)
      by true k = (rule-over (ParamEnv (clause_source r)) (all_equal a.reference.args r.args) [] (over-equal ls a.reference.args r.args (goal []) h.0) tt, k)
      by false k = k

  -- ---- calls, arrays, upcasts, structs
  call-over : (u : Trees) → AreOver ls u → Every Fit (call_of V a u)
  call-over none h = tt
  call-over (tree (fn_ptr k) types none) h = tt
  call-over (tree (fn_ptr k) types (tree l c o)) h = (
    rule-over misc (all_equal (tree tuple (but_last types) none) (tree l c none)) (last_asked sized types)
        (over-equal ls (tree tuple (but_last types) none) (tree l c none) (refl, λ e. absurd (false-true e), but-last-over V ls fields bounds types h.2, tt) (over-head ls l c o h.3)) (last-over V ls fields bounds sized types h.2),
    tt,
  )
  call-over (tree l c o) h = tt

  array-over : (u : Trees) → AreOver ls u → Every Fit (unsize_array_of V a u)
  array-over none h = tt
  array-over (tree array none o) h = tt
  array-over (tree array (tree l c k) none) h = tt
  array-over (tree array (tree l c k) (tree slice none o)) h = tt
  array-over (tree array (tree l c k) (tree slice (tree m d p) o)) h =
      (rule-over misc (all_equal (tree l c none) (tree m d none)) [] (over-equal ls (tree l c none) (tree m d none) (over-head ls l c k h.2) (over-head ls m d p h.3.2)) tt, tt)
  array-over (tree array (tree l c k) (tree m d o)) h = tt
  array-over (tree l c o) h = tt

  upcasts-from-over : (q : Reference) → AreOver ls q.args → (i : ℕ) (rs : List Reference) → AreOverAll V ls fields bounds rs → Every Fit (upcasts_from V a q i rs)
  upcasts-from-over q h i [] e = tt
  upcasts-from-over q h i (r ∷ rs) e = by (r.trait == q.trait) (upcasts-from-over q h (suc i) rs e.1)
    where
      by : (b : Bool) → Every Fit (upcasts_from V a q (suc i) rs) → Every Fit (if b then by_rule V a (upcast_source i) (all_equal r.args q.args) [] ∷ upcasts_from V a q (suc i) rs else upcasts_from V a q (suc i) rs)
      by true k = (rule-over (upcast_source i) (all_equal r.args q.args) [] (over-equal ls r.args q.args e.0 h) tt, k)
      by false k = k

  upcasts-to-over : (ps qs : List Reference) → AreOverAll V ls fields bounds ps → AreOverAll V ls fields bounds qs → Every Fit (upcasts_to V a ps qs)
  upcasts-to-over [] [] e f = (rule-over misc [] [] tt tt, tt)
  upcasts-to-over (p ∷ ps) [] e f = (rule-over misc [] [] tt tt, tt)
  upcasts-to-over [] (q ∷ qs) e f = tt
  upcasts-to-over (p ∷ ps) (q ∷ qs) e f = by (p.trait == q.trait)
    where
      by : (b : Bool) → Every Fit (if b then by_rule V a misc (all_equal p.args q.args) [] ∷ [] else upcasts_from V a q 1 (supertraits V p))
      by true = (rule-over misc (all_equal p.args q.args) [] (over-equal ls p.args q.args e.0 f.0) tt, tt)
      by false = upcasts-from-over q f.0 1 (supertraits V p) (supertraits-over V ls fields bounds p e.0)

  upcasts-over : (u : Trees) → AreOver ls u → Every Fit (upcasts_of V a u)
  upcasts-over none h = tt
  upcasts-over (tree dynamic b none) h = tt
  upcasts-over (tree dynamic b (tree dynamic d o)) h =
      let self = tree dynamic b none in
      let own = over-head ls dynamic b (tree dynamic d o) h in
      so (are_declared V (principal_with self b) && upcasts_autos V (principal_with self b) (autos_with self b) (autos_with self d)) (upcasts_to V a (principal_with self b) (principal_with self d))
      (upcasts-to-over (principal_with self b) (principal_with self d) (principal-over V ls fields bounds self b own h.2) (principal-over V ls fields bounds self d own h.3.2))
  upcasts-over (tree dynamic b (tree l d o)) h = tt
  upcasts-over (tree l c o) h = tt

  structs-over : (b d : Trees) → AreOver ls b → AreOver ls d → (xs : List StructDecl) → ((x : StructDecl) → In x xs → In x V.structs) → Every Fit (flat_map (unsize_by_struct V a b d) xs)
  structs-over b d h g [] f = tt
  structs-over b d h g (x ∷ xs) f =
      both-lists Fit (unsize_by_struct V a b d x) (flat_map (unsize_by_struct V a b d) xs)
      (so (some_unsizing x.fields 0 b) (by_rule V a misc (all_equal (with_unsizing x.fields 0 b d) d) (last_unsizes x.fields b d) ∷ []) (
        rule-over misc (all_equal (with_unsizing x.fields 0 b d) d) (last_unsizes x.fields b d) (over-equal ls (with_unsizing x.fields 0 b d) d (unsizing-over V ls fields bounds x.fields 0 b d h g) g)
            (last-unsizes-over V ls fields bounds x.fields b d h g (fields x (f x (here x xs)))),
        tt,
      ))
      (structs-over b d h g xs (λ y i. f y (there y x xs i)))

  struct-over : (u : Trees) → AreOver ls u → Every Fit (unsize_struct_of V a u)
  struct-over none h = tt
  struct-over (tree (adt s) b none) h = tt
  struct-over (tree (adt s) b (tree (adt t) d o)) h =
      so (s == t) (flat_map (unsize_by_struct V a b d) (structs_named V s)) (structs-over b d h.2 h.3.2 (structs_named V s) (λ x i. (in-filter (λ (y : StructDecl). y.name == s) V.structs x i).0))
  struct-over (tree (adt s) b (tree l d o)) h = tt
  struct-over (tree l c o) h = tt

  -- ---- all built-in rules
  self_over : AreOver ls (self_of a)
  self_over = over-plain-head ls a.reference.args (goal [])

  unsure-over : Fit unsure
  unsure-over = (tt, tt, tt)

  known-over : Every Fit (unsize_known V a (self_of a))
  known-over =
      both-lists Fit (unsize_array_of V a (self_of a)) _ (array-over (self_of a) self_over)
      (both-lists Fit (as_written V a misc (unsize_to_dyn_rules V (self_of a))) _ (written-over misc (unsize_to_dyn_rules V (self_of a)) (to-dyn-over V ls fields bounds (self_of a) self_over))
      (both-lists Fit (upcasts_of V a (self_of a)) (unsize_struct_of V a (self_of a)) (upcasts-over (self_of a) self_over) (struct-over (self_of a) self_over)))

  recorded-over : (c : Candidate) → Fit c → Fit (recording (unsizing_outlives a.reference.args) c)
  recorded-over c h =
      let own = slots_of a.kinds c.kinds in
      (h.0, over-append own c.regions (unsizing_outlives a.reference.args) h.1 (over-unsizing own a.reference.args (goal c.kinds)), h.2)

  unsize-over : (b : Bool) → Every Fit (if b then unsure ∷ [] else unsize_recording V a)
  unsize-over true = (unsure-over, tt)
  unsize-over false = every-recorded (unsizing_outlives a.reference.args) Fit recorded-over (unsize_known V a (self_of a)) known-over

  built-in-over : Every Fit (built_in V a)
  built-in-over =
      both-lists Fit (by_sized V a) _ (so (a.reference.trait == sized) _ (written-over (BuiltinImpl Trivial) (sized_rules V (self_of a)) (sized-over V ls fields bounds (self_of a) self_over)))
      (both-lists Fit (by_copy V a) _
      (so ((a.reference.trait == copy) || (a.reference.trait == clone)) _ (written-over misc (copy_rules a.reference.trait (self_of a)) (copy-over V ls fields bounds a.reference.trait (self_of a) self_over)))
      (both-lists Fit (by_auto V a) _ (so (is_auto V a.reference.trait) _ (written-over misc (auto_rules V a.reference.trait (self_of a)) (auto-over V ls fields bounds a.reference.trait (self_of a) self_over)))
      (both-lists Fit (by_tuple V a) _ (so (a.reference.trait == tuple_trait) _ (written-over misc (tuple_rules (self_of a)) (tuple-over V ls fields bounds (self_of a))))
      (both-lists Fit (by_fn_ptr V a) _ (so (a.reference.trait == fn_ptr_trait) _ (written-over misc (fn_ptr_rules (self_of a)) (fn-ptr-over V ls fields bounds (self_of a))))
      (both-lists Fit (by_call V a) (by_unsize V a) (so (is_fn_trait a.reference.trait) _ (call-over (self_of a) self_over))
      (so (a.reference.trait == unsize) _ (unsize-over (begins_unknown a.kinds (next_of (self_of a))))))))))

  -- ---- impls and object bounds
  impls-over : (is : List ImplDecl) → ((i : ImplDecl) → In i is → In i V.impls) → Every Fit (by_impls V a is)
  impls-over [] f = tt
  impls-over (i ∷ is) f = by ((i.header.trait == a.reference.trait) && can_match a.reference.args i.header.args) (impls-over is (λ j k. f j (there j i is k)))
    where
      by : (b : Bool) → Every Fit (by_impls V a is) → Every Fit (if b then by_the_impl V a i ∷ by_impls V a is else by_impls V a is)
      by true k = (impls_are i (f i (here i is)), k)
      by false k = k

  supers_over : AreOverAll V ls fields bounds (supertraits V a.reference)
  supers_over = supertraits-over V ls fields bounds a.reference (goal [])

  bounds-over : (source : ℕ → CandidateSource) (i : ℕ) (rs : List Reference) → AreOverAll V ls fields bounds rs → Every Fit (bounds_from V a source i rs)
  bounds-over source i [] e = tt
  bounds-over source i (r ∷ rs) e = by (can_be a.reference r) (bounds-over source (suc i) rs e.1)
    where
      by : (b : Bool) → Every Fit (bounds_from V a source (suc i) rs)
          → Every Fit (if b then by_rule V a (source i) (all_equal a.reference.args r.args) (supertraits V a.reference) ∷ bounds_from V a source (suc i) rs else bounds_from V a source (suc i) rs)
      by true k = (rule-over (source i) (all_equal a.reference.args r.args) (supertraits V a.reference) (over-equal ls a.reference.args r.args (goal []) e.0) supers_over, k)
      by false k = k

  objects-over : (u : Trees) → AreOver ls u → Every Fit (objects_of V a u)
  objects-over none h = tt
  objects-over (tree dynamic b o) h =
      let self = tree dynamic b none in
      let own = over-head ls dynamic b o h in
      so (are_dyn_compatible V (principal_with self b)) _
      (both-lists Fit (if_so (not (a.reference.trait == sized)) (bounds_from V a written_source 0 (autos_with self b))) _
      (so (not (a.reference.trait == sized)) _ (bounds-over written_source 0 (autos_with self b) (autos-over V ls fields bounds self b own)))
      (so (not (a.reference.trait == sized)) _
      (bounds-over object_source 0 (elaborate V (principal_with self b)) (elaborated-over V ls fields bounds (principal_with self b) (principal-over V ls fields bounds self b own h.2)))))
  objects-over (tree l c o) h = tt

  all-over : Every Fit (all_candidates V a)
  all-over =
      both-lists Fit (by_clauses V a (clauses a)) _ (clauses-over (clauses a) clauses_are)
      (both-lists Fit (built_in V a) _ built-in-over (both-lists Fit (by_impls V a V.impls) (by_objects V a) (impls-over V.impls (λ i j. j)) (objects-over (self_of a) self_over)))

  unknowable-over : Fit (unknowable V a)
  unknowable-over = (tt, tt, premises-over [] false (supertraits V a.reference) supers_over)

-- ---- impls
kind-for : (s : Sort) → is_kind_of s (Some (kind_for s)) ≡ true
kind-for of_type = refl
kind-for of_const = refl
kind-for of_lifetime = refl

-- a parameter of the header is one of the impl's, of its sort
param-kind : (h : Trees) (n : ℕ) → some_node (is_unsorted n h) h ≡ false → (s : Sort) (j : ℕ) → some_node (is_this_param s j) h ≡ true → is_kind_of s (kind_at (kinds_of_params h 0 n) j) ≡ true
param-kind h n sorted s j e =
    let x = found (is_this_param s j) (is_unsorted n h) h e sorted in
    let own = or_parts (not (nat_lt j n)) (some_node (is_otherwise s j) h) (sym (ap (is_unsorted n h) (label-of s j x.0 x.1)) ∙ x.2) in
    ap (is_kind_of s) (sym (kind-found (kinds_of_params h 0 n) j) ∙ kinds-at h 0 n j (is-less j n (not-false (nat_lt j n) own.0)) ∙ ap (λ k. Some (kind_of_param h k)) (zero-first j) ∙ ap (λ z. Some z) (kind-is h s j e own.1)) ∙ kind-for s

every-all : {A : Type 0} (P : A → Type 0) (p : A → Bool) → ((x : A) → p x ≡ true → P x) → (xs : List A) → list_all p xs ≡ true → Every P xs
every-all P p f [] h = tt
every-all P p f (x ∷ xs) h = (f x (left (p x) (list_all p xs) h), every-all P p f xs (right (p x) (list_all p xs) h))

module _ (V : World) (well : IsDeclaredWell V) (a : GoalOverKinds) (over : is_made (is_variable_over a.kinds) terms a.reference.args ≡ true)
    (environment : (own : List CanonicalVarKind) → AreOver (slots_of a.kinds own) a.environment) where
  impl-over : (i : ImplDecl) → In i V.impls → FitsGoal a.kinds (by_the_impl V a i)
  impl-over i m = (
    over-equal ls a.reference.args (rules_behind (length a.kinds) i.header).args (goal-over a.kinds own a.reference.args over) (over-behind ls (length a.kinds) i.header.args at (declared-plain i.header.args (header-declared V well.terms i m))),
    tt,
    Every-map (λ (n : Nested). IsGoalOver ls n.goal) (premise a (is_coinductive V a.reference.trait)) (map (rules_behind (length a.kinds)) i.clauses)
        (Every-map (λ (r : Reference). IsGoalOver ls (premise a (is_coinductive V a.reference.trait) r).goal) (rules_behind (length a.kinds)) i.clauses
        (every-in (λ (r : Reference). IsGoalOver ls (premise a (is_coinductive V a.reference.trait) (rules_behind (length a.kinds) r)).goal) i.clauses
        (λ r k. record {
          environment = environment own;
          predicate =
              over-reference ls (rules_behind (length a.kinds) r)
              (over-behind ls (length a.kinds) r.args (λ s j e. at s j (well.determined i r m k s j e)) (declared-plain r.args (clause-declared V well.terms i r m k)));
        }))),
  )
    where
      own : List CanonicalVarKind
      own = kinds_of_params i.header.args 0 i.params

      ls : List Label
      ls = slots_of a.kinds own

      at : (s : Sort) (j : ℕ) → some_node (is_this_param s j) i.header.args ≡ true → is_of_sort s (slice_get ls (length a.kinds + j)) ≡ true
      at s j e =
          rule-slots a.kinds own s j
          (param-kind i.header.args i.params (not-true (some_node (is_unsorted i.params i.header.args) i.header.args) (member-each (λ (x : ImplDecl). not (some_node (is_unsorted x.params x.header.args) x.header.args)) V.impls i well.sorted m)) s j e)

-- ---- equations of made terms
default-good : (s : Sort) → (is_a s (leaf (default_label s)) && is_made is_open_label terms (leaf (default_label s))) ≡ true
default-good of_type = refl
default-good of_const = refl
default-good of_lifetime = refl

term-good : (v : Value) → term_of v ≡ v.trees → (is_a v.sort v.trees && is_made is_open_label terms v.trees) ≡ true
term-good v h = by (is_a v.sort v.trees && is_made is_open_label terms v.trees) refl h
  where
    by : (b : Bool) → (is_a v.sort v.trees && is_made is_open_label terms v.trees) ≡ b → (if b then v.trees else leaf (default_label v.sort)) ≡ v.trees → (is_a v.sort v.trees && is_made is_open_label terms v.trees) ≡ true
    by true e g = e
    by false e g = ap (λ t. is_a v.sort t && is_made is_open_label terms t) (sym g) ∙ default-good v.sort

value-over : (ls : List Label) (v : Value) → term_of v ≡ v.trees → AreOver ls v.trees → IsValueOver ls v
value-over labels v h o =
    let g = term-good v h in
    record { sort = left (is_a v.sort v.trees) (is_made is_open_label terms v.trees) g; made = right (is_a v.sort v.trees) (is_made is_open_label terms v.trees) g; over = o }

fits-over : (kinds : List CanonicalVarKind) (c : Candidate) → FitsGoal kinds c → AreTermsOf c → IsOverSlots (slots_of kinds c.kinds) c
fits-over kinds c h t = record {
  equations =
      Every-both (λ (e : Equation). AreOver (slots_of kinds c.kinds) e.left.trees × AreOver (slots_of kinds c.kinds) e.right.trees) (λ (e : Equation). (term_of e.left ≡ e.left.trees) × (term_of e.right ≡ e.right.trees))
      (λ (e : Equation). IsValueOver (slots_of kinds c.kinds) e.left × IsValueOver (slots_of kinds c.kinds) e.right)
      (λ e o u. (value-over (slots_of kinds c.kinds) e.left u.0 o.0, value-over (slots_of kinds c.kinds) e.right u.1 o.1)) c.equations h.0 t;
  constraints = h.1;
  nested = h.2;
}

-- ---- goals
-- what is over the variables in where-clauses
clause-refs : (kinds : List CanonicalVarKind) (E : Trees) → are_clauses kinds E ≡ true → Every (λ (r : Reference). AreOver (slots_of kinds []) r.args) (clauses_of E)
clause-refs kinds none h = tt
clause-refs kinds (tree (predicate (of_trait t)) c o) h =
    (goal-over kinds [] c (left (is_made (is_variable_over kinds) terms c) (are_clauses kinds o) h), clause-refs kinds o (right (is_made (is_variable_over kinds) terms c) (are_clauses kinds o) h))
clause-refs kinds (tree l c o) h =
    clause-refs kinds o (right (is_made (is_variable_over kinds) terms c) (are_clauses kinds o) (right (not (is_open l)) (is_made (is_variable_over kinds) terms c && are_clauses kinds o) h))

module _ (m : ViewMeaning) (well : IsDeclaredWell m.view) (f : CanonicalForm) (a : GoalOverKinds) (is : goal_over_kinds m.view f ≡ Some a)
    (environment : (own : List CanonicalVarKind) → AreOver (slots_of a.kinds own) a.environment) where
  abbrev V : World
  V = m.view

  clauses_are : are_clauses a.kinds a.environment ≡ true
  clauses_are = asked-clauses V f.goal.environment f.goal.predicate (all_known f.kinds) a is

  parts : IsAsked V f.goal.environment f.goal.predicate (all_known f.kinds) a
  parts = asked-by V f.goal.environment f.goal.predicate (all_known f.kinds) a is

  fields : (x : StructDecl) → In x V.structs → Every ArePlain x.fields
  fields x i = every-all ArePlain are_terms declared-plain x.fields (fields-declared V well.terms [] x i)

  bounds : (x : TraitDecl) → In x V.traits → (b : Reference) → In b x.bounds → ArePlain b.args
  bounds x i b j = declared-plain b.args (bound-declared V well.terms x b i j)

  goal : (own : List CanonicalVarKind) → AreOver (slots_of a.kinds own) a.reference.args
  goal own = goal-over a.kinds own a.reference.args parts.over

  pub all-fit : Every (λ (c : Candidate). IsOverSlots (slots_of a.kinds c.kinds) c) (all_candidates V a)
  all-fit =
      Every-both (FitsGoal a.kinds) AreTermsOf (λ (c : Candidate). IsOverSlots (slots_of a.kinds c.kinds) c) (λ c h t. fits-over a.kinds c h t) (all_candidates V a)
      (all-over V fields bounds a environment goal (clause-refs a.kinds a.environment clauses_are) (impl-over V well a parts.over environment)) (equations-are-terms m well.terms well.erased f a is)

  pub unknowable-fits : IsOverSlots (slots_of a.kinds []) (unknowable V a)
  unknowable-fits =
      fits-over a.kinds (unknowable V a) (unknowable-over V fields bounds a environment goal (clause-refs a.kinds a.environment clauses_are) (impl-over V well a parts.over environment)) tt
