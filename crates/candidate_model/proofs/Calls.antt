-- Rows that equate: calls of fn pointers, and arrays that unsize to slices.
use Rattle.std.proofs.Common.{◌≡◌, Bool, true, false, if◌then◌else◌, List, [], ◌∷◌, map, ◌⊎◌, inl, inr, refl, sym, ◌∙◌, ap, subst}
use Rattle.type_terms.specs.Promised.Label.{Label, tuple, array, slice, fn_ptr}
use Rattle.type_terms.specs.Promised.Trees.{Trees, none, tree, ◌+++◌}
use Rattle.type_terms.specs.Promised.Worlds.{World, Reference}
use Rattle.type_terms.specs.Promised.Rules.{Rule, row, fn_ptr_call, unsize_array, call_rules, unsize_array_rules, but_last, last_asked, sized, is_coinductive}
use Rattle.type_terms.specs.Codes.{same}
use Rattle.type_terms.specs.Promised.Proofs.{In}
use Rattle.type_terms.proofs.Members.{in-nothing, in-cases}
use Rattle.type_terms.proofs.Matching.{same-sound}
use Rattle.type_terms.proofs.OpenWorld.{was-true}
use Rattle.goal_evaluator.specs.Lists.{Every, SomeOf}
use Rattle.goal_evaluator.specs.declared.candidate.CandidateSource.{CandidateSource}
use Rattle.goal_evaluator.specs.Instances.{read_with}
use Rattle.goal_evaluator.specs.Content.{Values, given}
use Rattle.goal_evaluator.specs.FrameTables.{Equation}
use Rattle.candidate_model.specs.Asking.{GoalOverKinds}
use Rattle.candidate_model.specs.Candidates.{premise, by_rule, all_equal, misc, if_so, call_of, unsize_array_of}
use Rattle.candidate_model.specs.Solver.{IsSolution}
use Rattle.candidate_model.specs.Cover.{slots, nested_at, SolvesEquations, Proved, read_reference}
use Rattle.candidate_model.proofs.Reading.{Begins, begins, read-last-asked}

pub but-last-read : (xs : List Trees) (t : Trees) → read_with (given xs) (but_last t) ≡ but_last (read_with (given xs) t)
but-last-read xs none = refl
but-last-read xs (tree l c none) = let b = begins xs l c none in sym (ap but_last b.before)
but-last-read xs (tree l c (tree m d o)) =
    let a = begins xs l c (but_last (tree m d o)) in
    let b = begins xs l c (tree m d o) in
    let n = begins xs m d o in
    a.before ∙ ap (λ z. z +++ read_with (given xs) (but_last (tree m d o))) (sym a.alone ∙ b.alone) ∙ ap (λ z. tree b.label b.children z) (but-last-read xs (tree m d o) ∙ ap but_last n.before)
    ∙ sym (ap but_last (b.before ∙ ap (λ z. tree b.label b.children z) n.before))

module _ (H : Reference → Type 0) (V : World) (a : GoalOverKinds) (v : Values) where
  abbrev xs : List Trees
  xs = slots a.kinds v []

  abbrev read : Trees → Trees
  read t = read_with (given xs) t

  pub gives-equal : (source : CandidateSource) (es : List Equation) (ps : List Reference) → Every (λ (e : Equation). read e.left.trees ≡ read e.right.trees) es → Every (Proved H) (map (read_reference xs) ps) → SolvesEquations H a.kinds v (by_rule V a source es ps)
  gives-equal source es ps q e = record { own = []; sorted = refl; equal = q; solves = each ps e }
    where
      each : (qs : List Reference) → Every (Proved H) (map (read_reference xs) qs) → Every (λ n. IsSolution H (nested_at xs n)) (map (premise a (is_coinductive V a.reference.trait)) qs)
      each [] f = tt
      each (r ∷ rs) f = (record { asks = refl; proper = refl; closed = f.0.0; proof = f.0.1 }, each rs f.1)

  pub the-one : (x u : Rule) → In u (x ∷ []) → x ≡ u
  the-one x u i = by (in-cases u x [] i)
    where
      by : (x ≡ u) ⊎ In u [] → x ≡ u
      by (inl e) = e
      by (inr j) = absurd (in-nothing u j)

  -- ---- calls
  pub calls-at : (k : Label) (c o : Trees) (u : Rule) → In u (call_rules (tree k (read c) (read o))) → Every (Proved H) u.premises → SomeOf (SolvesEquations H a.kinds v) (call_of V a (tree k c o))
  calls-at (fn_ptr n) c none u i ps = absurd (in-nothing u i)
  calls-at (fn_ptr n) c (tree m d p) u i ps = by b.label refl (subst (λ z. In u (call_rules (tree (fn_ptr n) (read c) z))) b.before i)
    where
      b : Begins xs m d p
      b = begins xs m d p

      given-at : (b.label ≡ tuple) → (but_last (read c) ≡ b.children) → In u (row fn_ptr_call (last_asked sized (read c))) → SomeOf (SolvesEquations H a.kinds v) (call_of V a (tree (fn_ptr n) c (tree m d p)))
      given-at q e j =
          inl (gives-equal misc (all_equal (tree tuple (but_last c) none) (tree m d none)) (last_asked sized c)
          (ap (λ z. tree tuple z none) (but-last-read xs c ∙ e) ∙ ap (λ z. tree z b.children none) (sym q) ∙ sym b.alone, tt)
          (subst (Every (Proved H)) (sym (ap (λ (z : Rule). z.premises) (the-one _ u j)) ∙ read-last-asked xs sized c) ps))

      by : (l : Label) → b.label ≡ l → In u (call_rules (tree (fn_ptr n) (read c) (tree l b.children (read p)))) → SomeOf (SolvesEquations H a.kinds v) (call_of V a (tree (fn_ptr n) c (tree m d p)))
      by tuple q j = let w = was-true (same (but_last (read c)) b.children) (row fn_ptr_call (last_asked sized (read c))) u j in given-at q (same-sound (but_last (read c)) b.children w.0) w.1
      by l q j = absurd (in-nothing u j)
  calls-at k c o u i ps = absurd (in-nothing u i)

  -- ---- arrays
  pub arrays-at : (k : Label) (c s e q : Trees) (u : Rule) → In u (unsize_array_rules (tree k (read c) (tree slice (read e) (read q)))) → SomeOf (SolvesEquations H a.kinds v) (unsize_array_of V a (tree k c (tree slice e q)))
  arrays-at array none s none q u i = absurd (in-nothing u i)
  arrays-at array none s (tree m d p) q u i = absurd (in-nothing u i)
  arrays-at array (tree l c n) s none q u i = let b = begins xs l c n in absurd (in-nothing u (subst (λ z. In u (unsize_array_rules (tree array z (tree slice none (read q))))) b.before i))
  arrays-at array (tree l c n) s (tree m d p) q u i =
      let b = begins xs l c n in
      let g = begins xs m d p in
      let w = was-true (same (tree b.label b.children none) (tree g.label g.children none)) (row unsize_array []) u
      (subst (λ z. In u (unsize_array_rules (tree array (tree b.label b.children (read n)) (tree slice z (read q))))) g.before (subst (λ z. In u (unsize_array_rules (tree array z (tree slice (read (tree m d p)) (read q))))) b.before i)) in
      inl (gives-equal misc (all_equal (tree l c none) (tree m d none)) [] (b.alone ∙ same-sound (tree b.label b.children none) (tree g.label g.children none) w.0 ∙ sym g.alone, tt) tt)
  arrays-at k c s e q u i = absurd (in-nothing u i)

  -- another target has no such rule
  pub arrays-other : (k : Label) (cc : Trees) (m : Label) (d p : Trees) (u : Rule) → In u (unsize_array_rules (tree k cc (tree m d p))) → m ≡ slice
  arrays-other array none m d p u i = absurd (in-nothing u i)
  arrays-other array (tree l c n) slice d p u i = refl
  arrays-other array (tree l c n) m d p u i = absurd (in-nothing u i)
  arrays-other k cc m d p u i = absurd (in-nothing u i)

  pub call-under : (b : Bool) (k : Label) (c o : Trees) (u : Rule) → In u (if b then call_rules (tree k (read c) (read o)) else []) → Every (Proved H) u.premises → SomeOf (SolvesEquations H a.kinds v) (if_so b (call_of V a (tree k c o)))
  call-under true k c o u i ps = calls-at k c o u i ps
  call-under false k c o u i ps = absurd (in-nothing u i)
