-- A pair of impls with unknowns for their parameters: common instances from solutions, goals that cover where-clauses, and back.
use Rattle.std.proofs.Common.{◌≡◌, ℕ, zero, ◌≤◌, arith, false, not, List, [], map, refl, sym, ap, ◌∙◌, subst, ◌||◌}
use Rattle.type_terms.specs.Promised.Label.{Label, Sort, of_type, of_const, of_lifetime, infer, canonical}
use Rattle.type_terms.specs.Promised.Trees.{Trees, none, tree, Fits, erase, some_node, instantiate}
use Rattle.type_terms.specs.Promised.Erased.{erased_impl, erased_reference}
use Rattle.type_terms.specs.Promised.Worlds.{Reference, ImplDecl}
use Rattle.type_terms.specs.Promised.Proofs.{In}
use Rattle.type_terms.specs.Promised.Answers.{is_open, is_variable, CommonInstance, FixedLeft, FixedRight}
use Rattle.type_terms.proofs.Fitting.{child-shut, next-shut, or-no, not-true}
use Rattle.type_terms.proofs.Members.{in-map}
use Rattle.type_terms.proofs.ProofEntries.{map-in}
use Rattle.infer_table.specs.Solutions.{Assignment, Binding, instance, IsSorted, HasValues, occurs, resolved, Equates, HasNoSolution}
use Rattle.infer_table.specs.Content.{Table, variables_of, IsProper}
use Rattle.type_terms.specs.Promised.Questions.{filled}
use Rattle.overlap_check.specs.Fresh.{with_unknowns, fresh_unknowns, HasArguments}
use Rattle.overlap_check.specs.Goals.{unknown_kinds, goal_of, IsInstantiable, IsGoalLeft, IsGoalRight, HasGoals}
use Rattle.overlap_check.proofs.Standing.{default_node, assigned, assigned-sorted, assigned-younger, Gives, fresh-gives, all-no-fewer, default-sorted}
use Rattle.overlap_check.proofs.Instances.{IsShut, shut_by, shut-by-sorted, shut-by-shut, shut-equal, shut-instance, instance-put, own-gives, own-fits, own-shut}
use Rattle.overlap_check.proofs.Solved.{Facts, proper-put, below-put, stays-known, fixed-known, plain-instance, some-solution}
use Rattle.overlap_check.proofs.Covering.{all_values, values-fit, values-closed, filled-is, assigned-shut, clause-fits}
use Rattle.type_terms.proofs.Matching.{or-false-left as no-left}

variable-open : (l : Label) → is_open l ≡ false → is_variable l ≡ false
variable-open (infer s i) h = cc
variable-open (canonical s i) h = cc
variable-open l h = refl

shut-variables : (t : Trees) → some_node is_open t ≡ false → some_node is_variable t ≡ false
shut-variables none h = refl
shut-variables (tree l c o) h =
    or-no (is_variable l || some_node is_variable c) (some_node is_variable o)
    (or-no (is_variable l) (some_node is_variable c) (variable-open l (no-left (is_open l) (some_node is_open c) (no-left (is_open l || some_node is_open c) (some_node is_open o) h))) (shut-variables c (child-shut is_open l c o h)))
    (shut-variables o (next-shut is_open l c o h))

abbrev reference : ℕ → Trees → Reference
reference t a = record { trait = t; args = a }

same-reference : (t u : ℕ) (a b : Trees) → t ≡ u → a ≡ b → reference t a ≡ reference u b
same-reference t u a b p q = cc

default-shut : IsShut (λ k v. default_node k)
default-shut of_type v = refl
default-shut of_const v = refl
default-shut of_lifetime v = refl

module _ (w x : ImplDecl) (t0 : Table) (ps qs : List Sort) where
  abbrev t1 : Table
  t1 = with_unknowns t0 ps

  abbrev pub I : Trees
  I = fresh_unknowns t0 ps

  abbrev pub J : Trees
  J = fresh_unknowns t1 qs

  abbrev pub a : Trees
  a = instantiate zero I w.header.args

  abbrev pub b : Trees
  b = instantiate zero J x.header.args

  abbrev pub i : ImplDecl
  i = erased_impl w

  abbrev pub j : ImplDecl
  j = erased_impl x

  module _ (ei : IsInstantiable I w) (ej : IsInstantiable J x) where
    abbrev solution_of : CommonInstance i j → Assignment
    solution_of m = assigned t0 ps m.left (assigned t1 qs m.right (λ k v. default_node k))

    sorted-of : (m : CommonInstance i j) → IsSorted (solution_of m)
    sorted-of m = assigned-sorted t0 ps m.left _ (assigned-sorted t1 qs m.right _ (λ k v. default-sorted k))

    left-shut : (m : CommonInstance i j) → some_node is_open m.left ≡ false
    left-shut m = not-true (some_node is_open m.left) m.left_closed

    right-shut : (m : CommonInstance i j) → some_node is_open m.right ≡ false
    right-shut m = not-true (some_node is_open m.right) m.right_closed

    shut-of : (m : CommonInstance i j) → IsShut (solution_of m)
    shut-of m = assigned-shut t0 ps m.left _ (left-shut m) (assigned-shut t1 qs m.right _ (right-shut m) default-shut)

    left-gives : (m : CommonInstance i j) → Gives (solution_of m) I m.left
    left-gives m = fresh-gives (solution_of m) t0 ps m.left (assigned t1 qs m.right (λ k v. default_node k)) (λ k v le. refl)

    right-gives : (m : CommonInstance i j) → Gives (solution_of m) J m.right
    right-gives m = fresh-gives (solution_of m) t1 qs m.right (λ k v. default_node k) (λ k v le. assigned-younger t0 ps m.left (assigned t1 qs m.right (λ k v. default_node k)) k v le)

    solves-of : (m : CommonInstance i j) → instance (solution_of m) a ≡ instance (solution_of m) b
    solves-of m =
        instance-put (solution_of m) I m.left (left-gives m) (left-shut m) zero w.header.args ei.header m.left_fits
        ∙ ap (λ (r : Reference). r.args) m.equal
        ∙ sym (instance-put (solution_of m) J m.right (right-gives m) (right-shut m) zero x.header.args ej.header m.right_fits)

    -- headers that no values make equal have no common instance
    pub apart : HasNoSolution [] a b → CommonInstance i j → ⊥
    apart n m = n (solution_of m) (sorted-of m) (solves-of m)

    -- values that make them equal, closed off, are one
    pub to-instance : w.header.trait ≡ x.header.trait → (S : Assignment) → IsSorted S → instance S a ≡ instance S b → CommonInstance i j
    to-instance same S so e =
        let A = instance (shut_by S) I in
        let B = instance (shut_by S) J in
        let fit = own-fits (shut_by S) (shut-by-sorted S so) t0 ps w.header.args ei.header in
        let fit2 = own-fits (shut_by S) (shut-by-sorted S so) t1 qs x.header.args ej.header in
        record {
          left = A;
          right = B;
          left_closed = ap not (own-shut (shut_by S) (shut-by-shut S) t0 ps);
          right_closed = ap not (own-shut (shut_by S) (shut-by-shut S) t1 qs);
          left_fits = fit;
          right_fits = fit2;
          equal = same-reference w.header.trait x.header.trait _ _ same
              (sym (instance-put (shut_by S) I A (own-gives (shut_by S) t0 ps) (own-shut (shut_by S) (shut-by-shut S) t0 ps) zero w.header.args ei.header fit)
              ∙ shut-equal S t0 ps t1 qs w.header.args x.header.args ei.header ej.header e
              ∙ instance-put (shut_by S) J B (own-gives (shut_by S) t1 qs) (own-shut (shut_by S) (shut-by-shut S) t1 qs) zero x.header.args ej.header fit2);
        }

    module _ (same : w.header.trait ≡ x.header.trait) (u : Table) (more : (k : Sort) → variables_of (with_unknowns t1 qs) k ≤ variables_of u k) (bs : List Binding) (equates : Equates [] bs a b) (facts : Facts bs) where
      pub common : CommonInstance i j
      common = let s = some-solution a b bs equates facts in let e = equates.only s.0 s.1 in to-instance same s.0 e.0 e.1

      abbrev ks : List Sort
      ks = unknown_kinds u

      in-left : (k : Sort) (v : ℕ) → HasValues k → variables_of u k ≤ v → occurs k v a ≡ false
      in-left k v h le = below-put t0 ps zero w.header.args ei.header k v h (let m = more k in let n = all-no-fewer t1 qs k in omega (arith, le, m, n))

      in-right : (k : Sort) (v : ℕ) → HasValues k → variables_of u k ≤ v → occurs k v b ≡ false
      in-right k v h le = below-put t1 qs zero x.header.args ej.header k v h (let m = more k in omega (arith, le, m))

      proper-left : IsProper a
      proper-left = proper-put t0 ps zero w.header.args ei.header

      proper-right : IsProper b
      proper-right = proper-put t1 qs zero x.header.args ej.header

      module _ (c : Reference) (h : In c w.clauses) where
        abbrev left-term : Trees
        left-term = instantiate zero I c.args

        abbrev left-resolved : Trees
        left-resolved = resolved bs left-term

        left-speaks : HasArguments I c.args
        left-speaks = ei.clauses c h

        left-clause-fits : (m : CommonInstance i j) → Fits m.left (erase c.args)
        left-clause-fits m = clause-fits I m.left w.header.args c.args ei.header left-speaks m.left_fits (ei.covered.in_header (erased_reference c) (in-map erased_reference w.clauses c h))

        left-clause-known : (k : Sort) (v : ℕ) → HasValues k → variables_of u k ≤ v → occurs k v left-resolved ≡ false
        left-clause-known k v g le =
            stays-known a b bs equates facts left-term proper-left proper-right (proper-put t0 ps zero c.args left-speaks) k v g (in-left k v g le) (in-right k v g le)
            (below-put t0 ps zero c.args left-speaks k v g (let m = more k in let n = all-no-fewer t1 qs k in omega (arith, le, m, n)))

        left-instance-of : (m : CommonInstance i j) → instantiate zero m.left (erase c.args) ≡ filled ks (all_values (solution_of m) u) (erase left-resolved)
        left-instance-of m =
            sym (instance-put (solution_of m) I m.left (left-gives m) (left-shut m) zero c.args left-speaks (left-clause-fits m))
            ∙ sym (facts.same (solution_of m) left-term (equates.all (solution_of m) (sorted-of m) (solves-of m)))
            ∙ sym (filled-is (solution_of m) u left-resolved (facts.proper left-term (proper-put t0 ps zero c.args left-speaks)) left-clause-known)

        left-determined : (r : Reference) → FixedLeft i j (erased_reference c) r → some_node is_variable (erase left-resolved) ≡ false
        unfolding to-instance
        left-determined r f =
            let s = some-solution a b bs equates facts in
            let e = equates.only s.0 s.1 in
            let solves = equates.all (shut_by s.0) (shut-by-sorted s.0 e.0) (shut-equal s.0 t0 ps t1 qs w.header.args x.header.args ei.header ej.header e.1) in
            let plain = plain-instance (shut_by s.0) left-resolved (facts.proper left-term (proper-put t0 ps zero c.args left-speaks)) no-unknown in
            shut-variables (erase left-resolved) (ap (some_node is_open) (sym plain ∙ facts.same (shut_by s.0) left-term solves) ∙ shut-instance s.0 t0 ps c.args left-speaks)
          where
            one : (S : Assignment) → IsSorted S → instance S a ≡ instance S b → instance (shut_by S) left-term ≡ r.args
            one S so e =
                instance-put (shut_by S) I (instance (shut_by S) I) (own-gives (shut_by S) t0 ps) (own-shut (shut_by S) (shut-by-shut S) t0 ps) zero c.args left-speaks
                (own-fits (shut_by S) (shut-by-sorted S so) t0 ps c.args left-speaks)
                ∙ ap (λ (q : Reference). q.args) (f.1 (to-instance same S so e))

            no-unknown : (k : Sort) (v : ℕ) → HasValues k → occurs k v left-resolved ≡ false
            no-unknown k v g = fixed-known a b bs equates facts left-term r.args (λ S e. shut-equal S t0 ps t1 qs w.header.args x.header.args ei.header ej.header e) one k v g

        pub left-goal : IsGoalLeft i j ks (erased_reference c) (goal_of bs I c)
        left-goal = record {
          covers = record {
            clause = in-map erased_reference w.clauses c h;
            values = λ m. all_values (solution_of m) u;
            fitting = λ m. values-fit (solution_of m) (sorted-of m) u;
            closed = λ m. values-closed (solution_of m) (shut-of m) u;
            instance_of = λ m. ap (reference c.trait) (left-instance-of m);
          };
          determined = left-determined;
        }

      module _ (c : Reference) (h : In c x.clauses) where
        abbrev right-term : Trees
        right-term = instantiate zero J c.args

        abbrev right-resolved : Trees
        right-resolved = resolved bs right-term

        right-speaks : HasArguments J c.args
        right-speaks = ej.clauses c h

        right-fits : (m : CommonInstance i j) → Fits m.right (erase c.args)
        right-fits m = clause-fits J m.right x.header.args c.args ej.header right-speaks m.right_fits (ej.covered.in_header (erased_reference c) (in-map erased_reference x.clauses c h))

        right-known : (k : Sort) (v : ℕ) → HasValues k → variables_of u k ≤ v → occurs k v right-resolved ≡ false
        right-known k v g le =
            stays-known a b bs equates facts right-term proper-left proper-right (proper-put t1 qs zero c.args right-speaks) k v g (in-left k v g le) (in-right k v g le)
            (below-put t1 qs zero c.args right-speaks k v g (let m = more k in omega (arith, le, m)))

        right-instance-of : (m : CommonInstance i j) → instantiate zero m.right (erase c.args) ≡ filled ks (all_values (solution_of m) u) (erase right-resolved)
        right-instance-of m =
            sym (instance-put (solution_of m) J m.right (right-gives m) (right-shut m) zero c.args right-speaks (right-fits m))
            ∙ sym (facts.same (solution_of m) right-term (equates.all (solution_of m) (sorted-of m) (solves-of m)))
            ∙ sym (filled-is (solution_of m) u right-resolved (facts.proper right-term (proper-put t1 qs zero c.args right-speaks)) right-known)

        right-determined : (r : Reference) → FixedRight i j (erased_reference c) r → some_node is_variable (erase right-resolved) ≡ false
        unfolding to-instance
        right-determined r f =
            let s = some-solution a b bs equates facts in
            let e = equates.only s.0 s.1 in
            let solves = equates.all (shut_by s.0) (shut-by-sorted s.0 e.0) (shut-equal s.0 t0 ps t1 qs w.header.args x.header.args ei.header ej.header e.1) in
            let plain = plain-instance (shut_by s.0) right-resolved (facts.proper right-term (proper-put t1 qs zero c.args right-speaks)) no-unknown in
            shut-variables (erase right-resolved) (ap (some_node is_open) (sym plain ∙ facts.same (shut_by s.0) right-term solves) ∙ shut-instance s.0 t1 qs c.args right-speaks)
          where
            one : (S : Assignment) → IsSorted S → instance S a ≡ instance S b → instance (shut_by S) right-term ≡ r.args
            one S so e =
                instance-put (shut_by S) J (instance (shut_by S) J) (own-gives (shut_by S) t1 qs) (own-shut (shut_by S) (shut-by-shut S) t1 qs) zero c.args right-speaks
                (own-fits (shut_by S) (shut-by-sorted S so) t1 qs c.args right-speaks)
                ∙ ap (λ (q : Reference). q.args) (f.1 (to-instance same S so e))

            no-unknown : (k : Sort) (v : ℕ) → HasValues k → occurs k v right-resolved ≡ false
            no-unknown k v g = fixed-known a b bs equates facts right-term r.args (λ S e. shut-equal S t0 ps t1 qs w.header.args x.header.args ei.header ej.header e) one k v g

        pub right-goal : IsGoalRight i j ks (erased_reference c) (goal_of bs J c)
        right-goal = record {
          covers = record {
            clause = in-map erased_reference x.clauses c h;
            values = λ m. all_values (solution_of m) u;
            fitting = λ m. values-fit (solution_of m) (sorted-of m) u;
            closed = λ m. values-closed (solution_of m) (shut-of m) u;
            instance_of = λ m. ap (reference c.trait) (right-instance-of m);
          };
          determined = right-determined;
        }

      -- the goals of all where-clauses
      pub has-goals : HasGoals i j ks (map (goal_of bs I) w.clauses) (map (goal_of bs J) x.clauses)
      has-goals = record {
        common = common;
        left_asked = λ k h. let p = map-in erased_reference w.clauses k h in
            (goal_of bs I p.0, in-map (goal_of bs I) w.clauses p.0 p.1, subst (λ (z : Reference). IsGoalLeft i j ks z (goal_of bs I p.0)) p.2 (left-goal p.0 p.1));
        right_asked = λ k h. let p = map-in erased_reference x.clauses k h in
            (goal_of bs J p.0, in-map (goal_of bs J) x.clauses p.0 p.1, subst (λ (z : Reference). IsGoalRight i j ks z (goal_of bs J p.0)) p.2 (right-goal p.0 p.1));
        left_only = λ g h. let p = map-in (goal_of bs I) w.clauses g h in (erased_reference p.0, subst (λ (z : Reference). IsGoalLeft i j ks (erased_reference p.0) z) p.2 (left-goal p.0 p.1));
        right_only = λ g h. let p = map-in (goal_of bs J) x.clauses g h in (erased_reference p.0, subst (λ (z : Reference). IsGoalRight i j ks (erased_reference p.0) z) p.2 (right-goal p.0 p.1));
      }
