-- The candidates for calls, and for `Unsize` of arrays, structs and other types, are the rule instances by these rules.
use Rattle.std.proofs.Common.{◌≡◌, ℕ, ◌==◌, Bool, true, false, not, ◌&&◌, ◌||◌, if◌then◌else◌, List, [], ◌∷◌, ◌++◌, map, ◌⊎◌, inl, inr, refl, sym, ◌∙◌, ap, subst, Some}
use Rattle.std.specs.List.{flat_map, list_all}
use Rattle.type_terms.specs.Promised.Label.{Label, of_type, tuple, dynamic, array, slice, adt, fn_ptr, param, placeholder, infer, canonical, bound}
use Rattle.type_terms.specs.Promised.Trees.{Trees, none, tree, erase_label, is_sort}
use Rattle.type_terms.specs.Codes.{same}
use Rattle.type_terms.specs.Promised.Worlds.{World, Reference, StructDecl, structs_named}
use Rattle.type_terms.specs.Promised.Rules.{Rule, BuiltIn, row, is_fn_trait, call_rules, but_last, last_asked, sized, asked as asks_for, fn_ptr_call, unsize, unsize_array, unsize_struct, unsize_to_dyn, is_dyn, unsize_array_rules, unsize_to_dyn_rules, unsize_struct_rules, some_unsizing, with_unsizing, last_unsizes, are_dyn_compatible, principal_with, autos_with}
use Rattle.type_terms.specs.Promised.Proofs.{In}
use Rattle.type_terms.proofs.Members.{here, there, in-filter}
use Rattle.type_terms.proofs.Fitting.{child-shut, next-shut}
use Rattle.type_terms.proofs.Walking.{left, right}
use Rattle.type_terms.specs.Made.{terms, bounds, is_made}
use Rattle.type_terms.proofs.Made.{false-true}
use Rattle.infer_table.specs.Canonical.{CanonicalForm}
use Rattle.goal_evaluator.specs.declared.candidate.CandidateSource.{CandidateSource}
use Rattle.goal_evaluator.specs.Instances.{read_with}
use Rattle.goal_evaluator.specs.Content.{Values, Fact, given}
use Rattle.goal_evaluator.specs.FrameTables.{is_open_label}
use Rattle.goal_evaluator.specs.TableOperations.{begin}
use Rattle.goal_evaluator.specs.Tables.{frame_tables}
use Rattle.goal_evaluator.specs.Variables.{is_variable_over}
use Rattle.solver_completeness.specs.Closed.{AreWays, no_more, refused, applied}
use Rattle.solver_completeness.specs.ClosedTables.{AreClosed, ArePlaces}
use Rattle.candidate_model.specs.Facts.{is_plain, is_unerased, beside, reference_in}
use Rattle.candidate_model.specs.Declared.{are_terms, is_declared_view}
use Rattle.candidate_model.specs.Meaning.{ViewMeaning}
use Rattle.candidate_model.specs.Asking.{GoalOverKinds, goal_over_kinds, is_rigid, self_of, next_of, with_plain_head, begins_with_type}
use Rattle.candidate_model.specs.Candidates.{Candidate, by_rule, all_equal, misc, as_written, call_of, unsize_array_of, unsize_by_struct, unsize_struct_of, if_so}
use Rattle.candidate_model.specs.Cover.{goal_fact, read_reference}
use Rattle.candidate_model.proofs.Reading.{begins, read-last-asked}
use Rattle.candidate_model.proofs.ByView.{rigid-read, rigid-head}
use Rattle.candidate_model.proofs.Calls.{but-last-read}
use Rattle.candidate_model.proofs.EquationTerms.{IsOpenTerms}
use Rattle.candidate_model.proofs.PlainRules.{Plain, plain-unbound}
use Rattle.candidate_model.proofs.Rows.{read_rule, fields-declared}
use Rattle.candidate_model.proofs.SoundRows.{Unknown, Rigid, unknown-or-rigid}
use Rattle.candidate_model.proofs.SoundCalls.{first-before, made-rest, made-but-last}
use Rattle.candidate_model.proofs.SoundToDyn.{erased-twice}
use Rattle.candidate_model.proofs.SoundUnsizing.{made-unsizing, adt-made}
use Rattle.candidate_model.proofs.StructUnsizing.{some-read, with-read, last-unbound}
use Rattle.candidate_model.proofs.Unsizing.{map-append, compatible-same, principal-read, autos-read, traits-stay}
use Rattle.solver_completeness.specs.SolverWays.{facts_beside, premises_of}
use Rattle.solver_completeness.specs.RowWays.{AreWaysOf, if_of, EquatedRowsAreWaysAt, EquatedRowsAreWays}
use Rattle.solver_completeness.proofs.Instances.{is, terms_of, instance, instance-is, BeginsWithPlace, read-place}
use Rattle.solver_completeness.proofs.Rows.{is-held, written-ways}
use Rattle.solver_completeness.proofs.Equating.{args-over, args-open, equated, at-place}
use Rattle.type_terms.proofs.BooleanBasics.{both}

-- ---- rules, one test each
call-is : (t : Trees) (l : Label) (d o : Trees) → call_rules (tree (fn_ptr 0) t (tree l d o)) ≡ (if same (tree tuple (but_last t) none) (tree l d none) then row fn_ptr_call (last_asked sized t) else [])
call-is t tuple d o = by (same (but_last t) d)
  where
    by : (b : Bool) → (if b then row fn_ptr_call (last_asked sized t) else []) ≡ (if true && (b && true) then row fn_ptr_call (last_asked sized t) else [])
    by true = refl
    by false = refl
call-is t l d o = refl

-- a slice
abbrev is_slice : Label → Bool
is_slice slice = true
is_slice l = false

no-array : (c : Trees) (k : Label) (d p : Trees) → is_slice k ≡ false → unsize_array_rules (tree array c (tree k d p)) ≡ []
no-array none k d p e = refl
no-array (tree l c o) slice d p e = absurd (false-true (sym e))
no-array (tree l c o) k d p e = refl

-- one tree of made terms
alone-made : (l : Label) (c o : Trees) → IsOpenTerms (tree l c o) → IsOpenTerms (tree l c none)
alone-made l c o h = first-before is_open_label l c o none h refl

-- ---- ways of lists of candidates
pub facts-append : (g : Fact) (ws vs : List (List Reference)) → facts_beside g (ws ++ vs) ≡ facts_beside g ws ++ facts_beside g vs
facts-append g [] vs = refl
facts-append g (w ∷ ws) vs = ap (λ z. map (beside g) w ∷ z) (facts-append g ws vs)

pub premises-append : (us vs : List Rule) → premises_of (us ++ vs) ≡ premises_of us ++ premises_of vs
premises-append [] vs = refl
premises-append (u ∷ us) vs = ap (λ z. u.premises ∷ z) (premises-append us vs)

ways-append : (a : GoalOverKinds) (v : Values) (cs ds : List Candidate) (ws vs : List (List Fact)) → AreWays frame_tables (begin a.kinds) v cs ws → AreWays frame_tables (begin a.kinds) v ds vs → AreWays frame_tables (begin a.kinds) v (cs ++ ds) (ws ++ vs)
ways-append a v [] ds [] vs no_more u = u
ways-append a v [] ds (w ∷ ws) vs t u = elim t [ ]
ways-append a v (c ∷ cs) ds ws vs (refused r t) u = refused r (ways-append a v cs ds ws vs t u)
ways-append a v (c ∷ cs) ds (w ∷ ws) vs (applied r t) u = applied r (ways-append a v cs ds ws vs t u)

pub both-ways : (a : GoalOverKinds) (v : Values) (g : Fact) (cs ds : List Candidate) (ws vs : List (List Reference)) → AreWaysOf a v g cs ws → AreWaysOf a v g ds vs → AreWaysOf a v g (cs ++ ds) (ws ++ vs)
both-ways a v g cs ds ws vs t u = subst (AreWays frame_tables (begin a.kinds) v (cs ++ ds)) (sym (facts-append g ws vs)) (ways-append a v cs ds (facts_beside g ws) (facts_beside g vs) t u)

pub both-rules : (a : GoalOverKinds) (v : Values) (g : Fact) (cs ds : List Candidate) (us ts : List Rule) → AreWaysOf a v g cs (premises_of us) → AreWaysOf a v g ds (premises_of ts) → AreWaysOf a v g (cs ++ ds) (premises_of (us ++ ts))
both-rules a v g cs ds us ts t u = subst (AreWaysOf a v g (cs ++ ds)) (sym (premises-append us ts)) (both-ways a v g cs ds (premises_of us) (premises_of ts) t u)

module _ (m : ViewMeaning) (declared : is_declared_view m.view ≡ true) (f : CanonicalForm) (a : GoalOverKinds) (is_asked : goal_over_kinds m.view f ≡ Some a) (closed : AreClosed f.kinds) (v : Values) (places : ArePlaces f.kinds v)
    (plain : is_plain (goal_fact f v) ≡ true) where
  abbrev V : World
  V = m.view

  abbrev pub xs : List Trees
  xs = (terms_of m f a is_asked closed v places).slots

  abbrev pub Read : Trees → Trees
  Read t = read_with (given xs) t

  abbrev pub Here : List Candidate → List Rule → Type 0
  Here cs us = AreWaysOf a v (instance m f a is_asked closed v places) cs (premises_of us)

  -- a rule with one test
  pub equated-one : (source : CandidateSource) (x y : Trees) (ps : List Reference) → IsOpenTerms x → IsOpenTerms y → (b : Bool) → same (Read x) (Read y) ≡ b → (k : BuiltIn) (qs : List Reference) → qs ≡ map (read_reference xs) ps
      → Here (by_rule V a source (all_equal x y) ps ∷ []) (if b then row k qs else [])
  equated-one source x y ps h g true e k qs q = subst (λ z. AreWaysOf a v (instance m f a is_asked closed v places) (by_rule V a source (all_equal x y) ps ∷ []) (z ∷ [])) (sym q) (equated m f a is_asked closed v places source x y ps h g [] [] no_more true e)
  equated-one source x y ps h g false e k qs q = equated m f a is_asked closed v places source x y ps h g [] [] no_more false e

  same-reads : (x y x' y' : Trees) → x ≡ x' → y ≡ y' → same x y ≡ same x' y'
  same-reads x y x' y' e g = ap (λ z. same z y) e ∙ ap (same x') g

  pub first-of : Unknown a.reference.args ⊎ Rigid a.reference.args
  first-of = unknown-or-rigid a.reference.args (is m f a is_asked closed v places).begins

  -- ---- calls
  calls-at : (l : Label) (c o : Trees) → is_rigid l ≡ true → IsOpenTerms (tree l c o) → Here (call_of V a (tree (erase_label l) c o)) (call_rules (tree (erase_label l) (Read c) (Read o)))
  calls-at (fn_ptr n) c none r g = no_more
  calls-at (fn_ptr n) c (tree k d p) r g =
      let b = begins xs k d p in
      let inputs = left (is_made is_open_label terms c) (is_made is_open_label terms (tree k d p)) g in
      let outer = alone-made k d p (right (is_made is_open_label terms c) (is_made is_open_label terms (tree k d p)) g) in
      subst (λ z. Here (call_of V a (tree (fn_ptr 0) c (tree k d p))) (call_rules (tree (fn_ptr 0) (Read c) z))) (sym b.before)
      (subst (Here (call_of V a (tree (fn_ptr 0) c (tree k d p)))) (sym (call-is (Read c) b.label b.children (Read p)))
      (equated-one misc (tree tuple (but_last c) none) (tree k d none) (last_asked sized c) (both (is_made is_open_label terms (but_last c)) true (made-but-last is_open_label c inputs) refl) outer
      (same (tree tuple (but_last (Read c)) none) (tree b.label b.children none))
      (same-reads (Read (tree tuple (but_last c) none)) (Read (tree k d none)) (tree tuple (but_last (Read c)) none) (tree b.label b.children none) (ap (λ z. tree tuple z none) (but-last-read xs c)) b.alone)
      fn_ptr_call (last_asked sized (Read c)) (read-last-asked xs sized c)))
  calls-at (param s i) c o r g = absurd (false-true (right (is_sort s of_type) false r))
  calls-at (placeholder s i) c o r g = absurd (false-true (right (is_sort s of_type) false r))
  calls-at (infer s i) c o r g = absurd (false-true (right (is_sort s of_type) false r))
  calls-at (canonical s i) c o r g = absurd (false-true (right (is_sort s of_type) false r))
  calls-at (bound s k i) c o r g = absurd (false-true (right (is_sort s of_type) false r))
  calls-at l c o r g = no_more

  calls-of : Unknown a.reference.args ⊎ Rigid a.reference.args → Here (call_of V a (self_of a)) (call_rules (Read a.reference.args))
  calls-of (inl x) =
      subst (Here (call_of V a (self_of a))) (sym (at-place m f a is_asked closed v places call_rules (λ i c o. refl) (λ i c o. refl) x))
      (subst (λ t. Here (call_of V a (with_plain_head t)) []) (sym x.is) no_more)
  calls-of (inr x) =
      subst (λ t. Here (call_of V a (with_plain_head t)) (call_rules (Read t))) (sym x.is)
      (subst (λ z. Here (call_of V a (tree (erase_label x.label) x.children x.others)) (call_rules z)) (sym (rigid-read xs x.label x.children x.others x.rigid))
      (calls-at x.label x.children x.others x.rigid (subst IsOpenTerms x.is (args-open m f a is_asked closed v places))))

  pub calls : Here (if_so (is_fn_trait a.reference.trait) (call_of V a (self_of a))) (if_of (is_fn_trait a.reference.trait) (call_rules (Read a.reference.args)))
  calls = by (is_fn_trait a.reference.trait)
    where
      by : (b : Bool) → Here (if_so b (call_of V a (self_of a))) (if_of b (call_rules (Read a.reference.args)))
      by true = calls-of first-of
      by false = no_more

  -- ---- the target of `Unsize`
  pub target : (a.reference.trait == unsize) ≡ true → (l : Label) (c o : Trees) → a.reference.args ≡ tree l c o → Unknown o ⊎ Rigid o
  target is_unsize l c o e =
      unknown-or-rigid o
      (subst (λ (b : Bool). (not b || begins_with_type o) ≡ true) is_unsize
      (subst (λ t. (not (a.reference.trait == unsize) || begins_with_type (next_of t)) ≡ true) e (is m f a is_asked closed v places).target))

  -- where a place stands as the target
  pub read-target : (x : Trees) (u : Unknown x) → is_made (is_variable_over a.kinds) terms x ≡ true → BeginsWithPlace (Read x) (Read u.others)
  read-target x u h =
      subst (λ t. BeginsWithPlace (Read t) (Read u.others)) (sym u.is)
      (read-place m f a is_asked closed v places u.number u.children u.others (subst (λ t. is_made (is_variable_over a.kinds) terms t ≡ true) u.is h))

  abbrev pub IsOver : Trees → Type 0
  IsOver x = is_made (is_variable_over a.kinds) terms x ≡ true

  -- ---- arrays
  arrays-slice : (c d p : Trees) → IsOpenTerms c → IsOpenTerms d → Here (unsize_array_of V a (tree array c (tree slice d p))) (unsize_array_rules (tree array (Read c) (tree slice (Read d) (Read p))))
  arrays-slice none d p h g = no_more
  arrays-slice (tree l c n) none p h g = let b = begins xs l c n in subst (λ z. Here [] (unsize_array_rules (tree array z (tree slice none (Read p))))) (sym b.before) no_more
  arrays-slice (tree l c n) (tree k d q) p h g =
      let b = begins xs l c n in
      let e = begins xs k d q in
      subst (λ z. Here (unsize_array_of V a (tree array (tree l c n) (tree slice (tree k d q) p))) (unsize_array_rules (tree array z (tree slice (Read (tree k d q)) (Read p))))) (sym b.before)
      (subst (λ z. Here (unsize_array_of V a (tree array (tree l c n) (tree slice (tree k d q) p))) (unsize_array_rules (tree array (tree b.label b.children (Read n)) (tree slice z (Read p))))) (sym e.before)
      (equated-one misc (tree l c none) (tree k d none) [] (alone-made l c n h) (alone-made k d q g) (same (tree b.label b.children none) (tree e.label e.children none))
      (same-reads (Read (tree l c none)) (Read (tree k d none)) (tree b.label b.children none) (tree e.label e.children none) b.alone e.alone) unsize_array [] refl))

  arrays-other : (c : Trees) (k : Label) (d p z : Trees) (j : Label) (e q : Trees) → is_slice k ≡ false → is_slice j ≡ false → z ≡ tree j e q → Here (unsize_array_of V a (tree array c (tree k d p))) (unsize_array_rules (tree array (Read c) z))
  arrays-other c k d p z j e q h g is =
      subst (λ cs. Here cs (unsize_array_rules (tree array (Read c) z))) (sym (no-candidate c k d p h))
      (subst (λ t. Here [] (unsize_array_rules (tree array (Read c) t))) (sym is) (subst (Here []) (sym (no-array (Read c) j e q g)) no_more))
    where
      no-candidate : (c : Trees) (k : Label) (d p : Trees) → is_slice k ≡ false → unsize_array_of V a (tree array c (tree k d p)) ≡ []
      no-candidate none k d p h = refl
      no-candidate (tree l c o) slice d p h = absurd (false-true (sym h))
      no-candidate (tree l c o) k d p h = refl

  arrays-second : (c o : Trees) → IsOpenTerms c → IsOpenTerms o → IsOver o → Unknown o ⊎ Rigid o → Here (unsize_array_of V a (tree array c o)) (unsize_array_rules (tree array (Read c) (Read o)))
  arrays-second c o h g over (inl x) =
      subst (λ t. Here (unsize_array_of V a (tree array c t)) (unsize_array_rules (tree array (Read c) (Read o)))) (sym x.is) (by (read-target o x over).is)
    where
      n : ℕ
      n = (read-target o x over).number

      by : (Read o ≡ tree (param of_type n) none (Read x.others)) ⊎ (Read o ≡ tree (placeholder of_type n) none (Read x.others))
          → Here (unsize_array_of V a (tree array c (tree (canonical of_type x.number) x.children x.others))) (unsize_array_rules (tree array (Read c) (Read o)))
      by (inl e) = arrays-other c (canonical of_type x.number) x.children x.others (Read o) (param of_type n) none (Read x.others) refl refl e
      by (inr e) = arrays-other c (canonical of_type x.number) x.children x.others (Read o) (placeholder of_type n) none (Read x.others) refl refl e
  arrays-second c o h g over (inr x) =
      subst (λ t. Here (unsize_array_of V a (tree array c t)) (unsize_array_rules (tree array (Read c) (Read t)))) (sym x.is)
      (by x.label x.children x.others x.rigid (subst IsOpenTerms x.is g))
    where
      by : (k : Label) (d p : Trees) → is_rigid k ≡ true → IsOpenTerms (tree k d p) → Here (unsize_array_of V a (tree array c (tree k d p))) (unsize_array_rules (tree array (Read c) (Read (tree k d p))))
      by slice d p r made = arrays-slice c d p h (left (is_made is_open_label terms d) (is_made is_open_label terms p) made)
      by (param s i) d p r made = absurd (false-true (right (is_sort s of_type) false r))
      by (placeholder s i) d p r made = absurd (false-true (right (is_sort s of_type) false r))
      by (infer s i) d p r made = absurd (false-true (right (is_sort s of_type) false r))
      by (canonical s i) d p r made = absurd (false-true (right (is_sort s of_type) false r))
      by (bound s k i) d p r made = absurd (false-true (right (is_sort s of_type) false r))
      by k d p r made = arrays-other c k d p (Read (tree k d p)) (erase_label k) (Read d) (Read p) refl refl (rigid-read xs k d p r)

  arrays-at : (l : Label) (c o : Trees) → is_rigid l ≡ true → IsOpenTerms (tree l c o) → IsOver o → Unknown o ⊎ Rigid o → Here (unsize_array_of V a (tree (erase_label l) c o)) (unsize_array_rules (tree (erase_label l) (Read c) (Read o)))
  arrays-at array c o r g over s = arrays-second c o (left (is_made is_open_label terms c) (is_made is_open_label terms o) g) (right (is_made is_open_label terms c) (is_made is_open_label terms o) g) over s
  arrays-at (param s i) c o r g over t = absurd (false-true (right (is_sort s of_type) false r))
  arrays-at (placeholder s i) c o r g over t = absurd (false-true (right (is_sort s of_type) false r))
  arrays-at (infer s i) c o r g over t = absurd (false-true (right (is_sort s of_type) false r))
  arrays-at (canonical s i) c o r g over t = absurd (false-true (right (is_sort s of_type) false r))
  arrays-at (bound s k i) c o r g over t = absurd (false-true (right (is_sort s of_type) false r))
  arrays-at l c o r g over s = no_more

  -- the rest of the arguments
  pub rest-over : (l : Label) (c o : Trees) → a.reference.args ≡ tree l c o → IsOver o
  rest-over l c o e = made-rest (is_variable_over a.kinds) l c o (subst IsOver e (args-over m f a is_asked closed v places))

  pub arrays : (a.reference.trait == unsize) ≡ true → Here (unsize_array_of V a (self_of a)) (unsize_array_rules (Read a.reference.args))
  arrays u = by first-of
    where
      by : Unknown a.reference.args ⊎ Rigid a.reference.args → Here (unsize_array_of V a (self_of a)) (unsize_array_rules (Read a.reference.args))
      by (inl x) =
          subst (Here (unsize_array_of V a (self_of a))) (sym (at-place m f a is_asked closed v places unsize_array_rules (λ i c o. refl) (λ i c o. refl) x))
          (subst (λ t. Here (unsize_array_of V a (with_plain_head t)) []) (sym x.is) no_more)
      by (inr x) =
          subst (λ t. Here (unsize_array_of V a (with_plain_head t)) (unsize_array_rules (Read t))) (sym x.is)
          (subst (λ z. Here (unsize_array_of V a (tree (erase_label x.label) x.children x.others)) (unsize_array_rules z)) (sym (rigid-read xs x.label x.children x.others x.rigid))
          (arrays-at x.label x.children x.others x.rigid (subst IsOpenTerms x.is (args-open m f a is_asked closed v places)) (rest-over x.label x.children x.others x.is) (target u x.label x.children x.others x.is)))

  -- ---- structs
  module _ (r : ℕ) (c d : Trees) (from : IsOpenTerms c) (to : IsOpenTerms d) (from_plain : Plain (Read c)) (to_plain : Plain (Read d)) where
    abbrev make : StructDecl → List Rule
    make x = if some_unsizing x.fields 0 (Read c) && same (with_unsizing x.fields 0 (Read c) (Read d)) (Read d) then row unsize_struct (last_unsizes x.fields (Read c) (Read d)) else []

    one-struct : (x : StructDecl) → list_all are_terms x.fields ≡ true → Here (unsize_by_struct V a c d x) (make x)
    one-struct x e =
        subst (λ (b : Bool). Here (unsize_by_struct V a c d x) (if b && same (with_unsizing x.fields 0 (Read c) (Read d)) (Read d) then row unsize_struct (last_unsizes x.fields (Read c) (Read d)) else []))
        (sym (some-read xs x.fields 0 c)) (by (some_unsizing x.fields 0 c))
      where
        by : (b : Bool) → Here (if_so b (by_rule V a misc (all_equal (with_unsizing x.fields 0 c d) d) (last_unsizes x.fields c d) ∷ []))
            (if b && same (with_unsizing x.fields 0 (Read c) (Read d)) (Read d) then row unsize_struct (last_unsizes x.fields (Read c) (Read d)) else [])
        by true =
            equated-one misc (with_unsizing x.fields 0 c d) d (last_unsizes x.fields c d) (made-unsizing x.fields 0 c d from to) to (same (with_unsizing x.fields 0 (Read c) (Read d)) (Read d))
            (ap (λ z. same z (Read d)) (sym (with-read xs x.fields 0 c d))) unsize_struct (last_unsizes x.fields (Read c) (Read d))
            (last-unbound xs x.fields e c d (plain-unbound (Read c) from_plain) (plain-unbound (Read d) to_plain))
        by false = no_more

    each-struct : (ys : List StructDecl) → ((x : StructDecl) → In x ys → list_all are_terms x.fields ≡ true) → Here (flat_map (unsize_by_struct V a c d) ys) (flat_map make ys)
    each-struct [] e = no_more
    each-struct (y ∷ ys) e =
        both-rules a v (instance m f a is_asked closed v places) (unsize_by_struct V a c d y) (flat_map (unsize_by_struct V a c d) ys) (make y) (flat_map make ys) (one-struct y (e y (here y ys))) (each-struct ys (λ x i. e x (there x y ys i)))

    structs-two : (t : ℕ) (p q : Trees) → Here (unsize_struct_of V a (tree (adt r) c (tree (adt t) d p))) (unsize_struct_rules V (tree (adt r) (Read c) (tree (adt t) (Read d) q)))
    structs-two t p q = by (r == t)
      where
        by : (b : Bool) → Here (if_so b (flat_map (unsize_by_struct V a c d) (structs_named V r))) (if b then flat_map make (structs_named V r) else [])
        by true = each-struct (structs_named V r) (λ x i. fields-declared V declared [] x (in-filter (λ (y : StructDecl). y.name == r) V.structs x i).0)
        by false = no_more

  structs-second : (r : ℕ) (c o : Trees) → IsOpenTerms c → IsOpenTerms o → IsOver o → Plain (Read c) → Plain (Read o) → Unknown o ⊎ Rigid o → Here (unsize_struct_of V a (tree (adt r) c o)) (unsize_struct_rules V (tree (adt r) (Read c) (Read o)))
  structs-second r c o h g over p q (inl x) =
      subst (λ t. Here (unsize_struct_of V a (tree (adt r) c t)) (unsize_struct_rules V (tree (adt r) (Read c) (Read o)))) (sym x.is) (by (read-target o x over).is)
    where
      n : ℕ
      n = (read-target o x over).number

      by : (Read o ≡ tree (param of_type n) none (Read x.others)) ⊎ (Read o ≡ tree (placeholder of_type n) none (Read x.others)) → Here [] (unsize_struct_rules V (tree (adt r) (Read c) (Read o)))
      by (inl e) = subst (λ z. Here [] (unsize_struct_rules V (tree (adt r) (Read c) z))) (sym e) no_more
      by (inr e) = subst (λ z. Here [] (unsize_struct_rules V (tree (adt r) (Read c) z))) (sym e) no_more
  structs-second r c o h g over p q (inr x) =
      subst (λ t. Here (unsize_struct_of V a (tree (adt r) c t)) (unsize_struct_rules V (tree (adt r) (Read c) (Read t)))) (sym x.is)
      (by x.label x.children x.others x.rigid (subst IsOpenTerms x.is g) (subst (λ t. Plain (Read t)) x.is q))
    where
      by : (k : Label) (d y : Trees) → is_rigid k ≡ true → IsOpenTerms (tree k d y) → Plain (Read (tree k d y)) → Here (unsize_struct_of V a (tree (adt r) c (tree k d y))) (unsize_struct_rules V (tree (adt r) (Read c) (Read (tree k d y))))
      by (adt t) d y e made s = structs-two r c d h (adt-made t d y made).0 p (child-shut is_unerased (adt t) (Read d) (Read y) s) t y (Read y)
      by (param s i) d y e made z = absurd (false-true (right (is_sort s of_type) false e))
      by (placeholder s i) d y e made z = absurd (false-true (right (is_sort s of_type) false e))
      by (infer s i) d y e made z = absurd (false-true (right (is_sort s of_type) false e))
      by (canonical s i) d y e made z = absurd (false-true (right (is_sort s of_type) false e))
      by (bound s k i) d y e made z = absurd (false-true (right (is_sort s of_type) false e))
      by k d y e made s = subst (λ z. Here [] (unsize_struct_rules V (tree (adt r) (Read c) z))) (sym (rigid-read xs k d y e)) no_more

  structs-at : (l : Label) (c o : Trees) → is_rigid l ≡ true → IsOpenTerms (tree l c o) → IsOver o → Plain (tree (erase_label l) (Read c) (Read o)) → Unknown o ⊎ Rigid o
      → Here (unsize_struct_of V a (tree (erase_label l) c o)) (unsize_struct_rules V (tree (erase_label l) (Read c) (Read o)))
  structs-at (adt r) c o e g over s t =
      structs-second r c o (adt-made r c o g).0 (adt-made r c o g).1 over (child-shut is_unerased (adt r) (Read c) (Read o) s) (next-shut is_unerased (adt r) (Read c) (Read o) s) t
  structs-at (param s i) c o e g over z t = absurd (false-true (right (is_sort s of_type) false e))
  structs-at (placeholder s i) c o e g over z t = absurd (false-true (right (is_sort s of_type) false e))
  structs-at (infer s i) c o e g over z t = absurd (false-true (right (is_sort s of_type) false e))
  structs-at (canonical s i) c o e g over z t = absurd (false-true (right (is_sort s of_type) false e))
  structs-at (bound s k i) c o e g over z t = absurd (false-true (right (is_sort s of_type) false e))
  structs-at l c o e g over s t = no_more

  pub structs : (a.reference.trait == unsize) ≡ true → Here (unsize_struct_of V a (self_of a)) (unsize_struct_rules V (Read a.reference.args))
  structs u = by first-of
    where
      by : Unknown a.reference.args ⊎ Rigid a.reference.args → Here (unsize_struct_of V a (self_of a)) (unsize_struct_rules V (Read a.reference.args))
      by (inl x) =
          subst (Here (unsize_struct_of V a (self_of a))) (sym (at-place m f a is_asked closed v places (unsize_struct_rules V) (λ i c o. refl) (λ i c o. refl) x))
          (subst (λ t. Here (unsize_struct_of V a (with_plain_head t)) []) (sym x.is) no_more)
      by (inr x) =
          let read-is : Read a.reference.args ≡ tree (erase_label x.label) (Read x.children) (Read x.others) = ap Read x.is ∙ rigid-read xs x.label x.children x.others x.rigid in
          subst (λ t. Here (unsize_struct_of V a (with_plain_head t)) (unsize_struct_rules V (Read t))) (sym x.is)
          (subst (λ z. Here (unsize_struct_of V a (tree (erase_label x.label) x.children x.others)) (unsize_struct_rules V z)) (sym (rigid-read xs x.label x.children x.others x.rigid))
          (structs-at x.label x.children x.others x.rigid (subst IsOpenTerms x.is (args-open m f a is_asked closed v places)) (rest-over x.label x.children x.others x.is)
          (subst Plain read-is (is-held m declared f a is_asked closed v places plain).plain) (target u x.label x.children x.others x.is)))

  -- ---- other types that unsize to a `dyn`
  to-dyn-read : (k : Label) (c' : Trees) (l : Label) (c b o : Trees) → Read (tree l c none) ≡ tree k c' none → is_dyn k ≡ is_dyn l → is_made is_open_label bounds b ≡ true
      → unsize_to_dyn_rules V (tree k c' (tree dynamic (Read b) (Read o))) ≡ map (read_rule V declared xs) (unsize_to_dyn_rules V (tree l c (tree dynamic b o)))
  to-dyn-read k c' l c b o self same_dyn made =
      ap (λ s. if not (is_dyn k) && are_dyn_compatible V (principal_with s (Read b)) then row unsize_to_dyn (principal_with s (Read b) ++ (autos_with s (Read b) ++ asks_for sized s ∷ [])) else []) (sym self)
      ∙ ap (λ ps. if not (is_dyn k) && are_dyn_compatible V ps then row unsize_to_dyn (ps ++ (autos_with (Read own) (Read b) ++ asks_for sized (Read own) ∷ [])) else []) (principal-read V declared xs is_open_label own b made)
      ∙ ap (λ q. if not (is_dyn k) && q then row unsize_to_dyn (map (read_reference xs) (principal_with own b) ++ (autos_with (Read own) (Read b) ++ asks_for sized (Read own) ∷ [])) else [])
      (compatible-same V (map (read_reference xs) (principal_with own b)) (principal_with own b) (traits-stay V declared xs (principal_with own b)))
      ∙ ap (λ qs. if not (is_dyn k) && are_dyn_compatible V (principal_with own b) then row unsize_to_dyn (map (read_reference xs) (principal_with own b) ++ (qs ++ asks_for sized (Read own) ∷ [])) else []) (autos-read V declared xs is_open_label own b made)
      ∙ ap (λ q. if not q && are_dyn_compatible V (principal_with own b) then row unsize_to_dyn (map (read_reference xs) (principal_with own b) ++ (map (read_reference xs) (autos_with own b) ++ asks_for sized (Read own) ∷ [])) else []) same_dyn
      ∙ by (not (is_dyn l) && are_dyn_compatible V (principal_with own b))
    where
      own : Trees
      own = tree l c none

      all : map (read_reference xs) (principal_with own b) ++ (map (read_reference xs) (autos_with own b) ++ asks_for sized (Read own) ∷ []) ≡ map (read_reference xs) (principal_with own b ++ (autos_with own b ++ asks_for sized own ∷ []))
      all =
          ap (λ w. map (read_reference xs) (principal_with own b) ++ w) (sym (map-append (read_reference xs) (autos_with own b) (asks_for sized own ∷ [])))
          ∙ sym (map-append (read_reference xs) (principal_with own b) (autos_with own b ++ asks_for sized own ∷ []))

      by : (q : Bool) → (if q then row unsize_to_dyn (map (read_reference xs) (principal_with own b) ++ (map (read_reference xs) (autos_with own b) ++ asks_for sized (Read own) ∷ [])) else [])
          ≡ map (read_rule V declared xs) (if q then row unsize_to_dyn (principal_with own b ++ (autos_with own b ++ asks_for sized own ∷ [])) else [])
      by true = ap (λ w. row unsize_to_dyn w) all
      by false = refl

  abbrev IsNatural : Label → Trees → Label → Trees → Trees → Type 0
  IsNatural k c' l c o = unsize_to_dyn_rules V (tree k c' (Read o)) ≡ map (read_rule V declared xs) (unsize_to_dyn_rules V (tree l c o))

  dyn-second : (k : Label) (c' : Trees) (l : Label) (c o : Trees) → Read (tree l c none) ≡ tree k c' none → is_dyn k ≡ is_dyn l → IsOpenTerms o → IsOver o → Unknown o ⊎ Rigid o → IsNatural k c' l c o
  dyn-second k c' l c o self same_dyn g over (inl x) = by (read-target o x over).is ∙ sym (ap (λ t. map (read_rule V declared xs) (unsize_to_dyn_rules V (tree l c t))) x.is)
    where
      n : ℕ
      n = (read-target o x over).number

      by : (Read o ≡ tree (param of_type n) none (Read x.others)) ⊎ (Read o ≡ tree (placeholder of_type n) none (Read x.others)) → unsize_to_dyn_rules V (tree k c' (Read o)) ≡ []
      by (inl e) = ap (λ z. unsize_to_dyn_rules V (tree k c' z)) e
      by (inr e) = ap (λ z. unsize_to_dyn_rules V (tree k c' z)) e
  dyn-second k c' l c o self same_dyn g over (inr x) = subst (IsNatural k c' l c) (sym x.is) (by x.label x.children x.others x.rigid (subst IsOpenTerms x.is g))
    where
      by : (j : Label) (d p : Trees) → is_rigid j ≡ true → IsOpenTerms (tree j d p) → IsNatural k c' l c (tree j d p)
      by dynamic d p r made = to-dyn-read k c' l c d p self same_dyn (left (is_made is_open_label bounds d) (is_made is_open_label terms p) made)
      by (param s i) d p r made = absurd (false-true (right (is_sort s of_type) false r))
      by (placeholder s i) d p r made = absurd (false-true (right (is_sort s of_type) false r))
      by (infer s i) d p r made = absurd (false-true (right (is_sort s of_type) false r))
      by (canonical s i) d p r made = absurd (false-true (right (is_sort s of_type) false r))
      by (bound s k i) d p r made = absurd (false-true (right (is_sort s of_type) false r))
      by j d p r made = ap (λ z. unsize_to_dyn_rules V (tree k c' z)) (rigid-read xs j d p r)

  -- a place is no `dyn`
  place-other : (k : Label) (c' o t : Trees) → t ≡ tree k c' o → BeginsWithPlace t o → is_dyn k ≡ false
  place-other k c' o t e p = either p.is
    where
      label-is : (i j : Label) (x y z w : Trees) → tree i x y ≡ tree j z w → i ≡ j
      label-is i j x y z w q = cc

      either : (t ≡ tree (param of_type p.number) none o) ⊎ (t ≡ tree (placeholder of_type p.number) none o) → is_dyn k ≡ false
      either (inl q) = ap is_dyn (label-is k (param of_type p.number) c' o none o (sym e ∙ q))
      either (inr q) = ap is_dyn (label-is k (placeholder of_type p.number) c' o none o (sym e ∙ q))

  to-dyn-natural : (a.reference.trait == unsize) ≡ true → unsize_to_dyn_rules V (Read a.reference.args) ≡ map (read_rule V declared xs) (unsize_to_dyn_rules V (self_of a))
  to-dyn-natural u = by first-of
    where
      by : Unknown a.reference.args ⊎ Rigid a.reference.args → unsize_to_dyn_rules V (Read a.reference.args) ≡ map (read_rule V declared xs) (unsize_to_dyn_rules V (self_of a))
      by (inl x) =
          let b = begins xs (canonical of_type x.number) x.children x.others in
          let over = subst IsOver x.is (args-over m f a is_asked closed v places) in
          ap (λ t. unsize_to_dyn_rules V (Read t)) x.is
          ∙ ap (unsize_to_dyn_rules V) b.before
          ∙ dyn-second b.label b.children (canonical of_type x.number) x.children x.others b.alone
          (place-other b.label b.children (Read x.others) (Read (tree (canonical of_type x.number) x.children x.others)) b.before (read-place m f a is_asked closed v places x.number x.children x.others over))
          (made-rest is_open_label (canonical of_type x.number) x.children x.others (subst IsOpenTerms x.is (args-open m f a is_asked closed v places))) (rest-over (canonical of_type x.number) x.children x.others x.is)
          (target u (canonical of_type x.number) x.children x.others x.is)
          ∙ sym (ap (λ t. map (read_rule V declared xs) (unsize_to_dyn_rules V (with_plain_head t))) x.is)
      by (inr x) =
          ap (λ t. unsize_to_dyn_rules V (Read t)) x.is
          ∙ ap (unsize_to_dyn_rules V) (rigid-read xs x.label x.children x.others x.rigid)
          ∙ dyn-second (erase_label x.label) (Read x.children) (erase_label x.label) x.children x.others
          (rigid-read xs (erase_label x.label) x.children none (rigid-head x.label x.rigid) ∙ ap (λ k. tree k (Read x.children) none) (erased-twice x.label x.rigid)) refl
          (made-rest is_open_label x.label x.children x.others (subst IsOpenTerms x.is (args-open m f a is_asked closed v places))) (rest-over x.label x.children x.others x.is) (target u x.label x.children x.others x.is)
          ∙ sym (ap (λ t. map (read_rule V declared xs) (unsize_to_dyn_rules V (with_plain_head t))) x.is)

  pub to-dyns : (a.reference.trait == unsize) ≡ true → Here (as_written V a misc (unsize_to_dyn_rules V (self_of a))) (unsize_to_dyn_rules V (Read a.reference.args))
  to-dyns u = subst (Here (as_written V a misc (unsize_to_dyn_rules V (self_of a)))) (sym (to-dyn-natural u)) (written-ways m declared f a is_asked closed v places plain misc (unsize_to_dyn_rules V (self_of a)))

  if-unsize : (cs : List Candidate) (us : List Rule) → ((a.reference.trait == unsize) ≡ true → Here cs us) → Here (if_so (a.reference.trait == unsize) cs) (if_of (a.reference.trait == unsize) us)
  if-unsize cs us go = by (a.reference.trait == unsize) refl
    where
      by : (b : Bool) → (a.reference.trait == unsize) ≡ b → Here (if_so b cs) (if_of b us)
      by true e = go e
      by false e = no_more

  pub equated-rows-at : EquatedRowsAreWaysAt V a v (goal_fact f v) (reference_in (goal_fact f v))
  equated-rows-at =
      subst (λ g. EquatedRowsAreWaysAt V a v g (reference_in g)) (sym (instance-is m f a is_asked closed v places))
      (record {
        calls = calls;
        arrays = if-unsize (unsize_array_of V a (self_of a)) (unsize_array_rules (Read a.reference.args)) arrays;
        to_dyns = if-unsize (as_written V a misc (unsize_to_dyn_rules V (self_of a))) (unsize_to_dyn_rules V (Read a.reference.args)) to-dyns;
        structs = if-unsize (unsize_struct_of V a (self_of a)) (unsize_struct_rules V (Read a.reference.args)) structs;
      })

pub equated-rows-are-ways : EquatedRowsAreWays
equated-rows-are-ways m declared f a e closed v places plain = equated-rows-at m declared f a e closed v places plain
