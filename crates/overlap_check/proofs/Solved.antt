-- What the solutions of equated headers say of where-clauses.
use Rattle.std.proofs.Common.{◌≡◌, ℕ, zero, suc, ◌≤◌, arith, Bool, true, false, if◌then◌else◌, List, [], ◌∷◌, refl, sym, ap, ◌∙◌, subst, Option, Some, None, ◌||◌, ◌⊎◌, inl, inr}
use Rattle.type_terms.specs.Promised.Label.{Label, Sort, of_type, of_const, of_lifetime, infer, bool, value, static, param, inside}
use Rattle.type_terms.specs.Promised.Trees.{Trees, none, tree, sort_of, erase, nth, shift, instantiate}
use Rattle.type_terms.proofs.Walking.{or-cases}
use Rattle.type_terms.proofs.Members.{so-false}
use Rattle.type_terms.proofs.Fitting.{or-no as or-both}
use Rattle.infer_table.specs.Solutions.{Assignment, Binding, instance, tree_of, IsSorted, HasValues, is_same_variable, occurs, resolved, value_in, Solves, Equates, IsCompletion}
use Rattle.type_terms.specs.Promised.Handles.{Entry}
use Rattle.infer_table.specs.Content.{Table, variables_of, content, Ready, IsProper}
use Rattle.infer_table.proofs.ContentFacts.{valued}
use Rattle.infer_table.proofs.SolvableLaws.{completed, completion, sound, resolved-proper}
use Rattle.infer_table.proofs.SolutionLaws.{is_variable-equal, is_variable-self, occurs-append, instance-resolved, resolved-free}
use Rattle.overlap_check.specs.Fresh.{with_unknown, with_unknowns, fresh_unknowns, HasArguments as Speaks}
use Rattle.overlap_check.proofs.Standing.{default_node, default-sorted, one-more, all-no-fewer}
use Rattle.overlap_check.proofs.Instances.{node, shut_by, shut-by-sorted, closing, closed_off, no-type, no-const}
use Rattle.type_terms.proofs.Matching.{or-false-left as or-left, or-false-right as or-right}
use Rattle.type_terms.proofs.Made.{false-true as no-true}
use Rattle.infer_table.proofs.ResolveFacts.{proper-append as proper-joined}

abbrev first : Trees → Trees
first none = none
first (tree l c o) = tree l c none

abbrev later : Trees → Trees
later none = none
later (tree l c o) = o

abbrev below : Trees → Trees
below none = none
below (tree l c o) = c

-- ---- equal instances are by equal values of what stands there
at-variable : (S R : Assignment) (j : Sort) (w : ℕ) (o : Trees) → tree_of (S j w) ≡ tree_of (R j w) → ((k : Sort) (v : ℕ) → HasValues k → occurs k v o ≡ true → tree_of (S k v) ≡ tree_of (R k v))
    → (k : Sort) (v : ℕ) → HasValues k → is_same_variable j w k v || occurs k v o ≡ true → tree_of (S k v) ≡ tree_of (R k v)
at-variable S R j w o e f k v h g = by (or-cases (is_same_variable j w k v) (occurs k v o) g)
  where
    by : (is_same_variable j w k v ≡ true) ⊎ (occurs k v o ≡ true) → tree_of (S k v) ≡ tree_of (R k v)
    by (inl p) = let same = is_variable-equal j k w v p in subst (λ (x : Sort). tree_of (S x v) ≡ tree_of (R x v)) same.0 (subst (λ (n : ℕ). tree_of (S j n) ≡ tree_of (R j n)) same.1 e)
    by (inr p) = f k v h p

at-node : (S R : Assignment) (c o : Trees) → ((k : Sort) (v : ℕ) → HasValues k → occurs k v c ≡ true → tree_of (S k v) ≡ tree_of (R k v)) → ((k : Sort) (v : ℕ) → HasValues k → occurs k v o ≡ true → tree_of (S k v) ≡ tree_of (R k v))
    → (k : Sort) (v : ℕ) → HasValues k → occurs k v c || occurs k v o ≡ true → tree_of (S k v) ≡ tree_of (R k v)
at-node S R c o e f k v h g = by (or-cases (occurs k v c) (occurs k v o) g)
  where
    by : (occurs k v c ≡ true) ⊎ (occurs k v o ≡ true) → tree_of (S k v) ≡ tree_of (R k v)
    by (inl p) = e k v h p
    by (inr p) = f k v h p

at-lifetime : (S R : Assignment) (w : ℕ) (o : Trees) → ((k : Sort) (v : ℕ) → HasValues k → occurs k v o ≡ true → tree_of (S k v) ≡ tree_of (R k v))
    → (k : Sort) (v : ℕ) → HasValues k → is_same_variable of_lifetime w k v || occurs k v o ≡ true → tree_of (S k v) ≡ tree_of (R k v)
at-lifetime S R w o f k v h g = by (or-cases (is_same_variable of_lifetime w k v) (occurs k v o) g)
  where
    by : (is_same_variable of_lifetime w k v ≡ true) ⊎ (occurs k v o ≡ true) → tree_of (S k v) ≡ tree_of (R k v)
    by (inl p) = absurd (subst HasValues (sym (is_variable-equal of_lifetime k w v p).0) h)
    by (inr p) = f k v h p

pub same-values : (S R : Assignment) (t : Trees) → instance S t ≡ instance R t → (k : Sort) (v : ℕ) → HasValues k → occurs k v t ≡ true → tree_of (S k v) ≡ tree_of (R k v)
same-values S R none e = λ k v h g. absurd (no-true g)
same-values S R (tree (infer of_type w) c o) e = at-variable S R of_type w o (ap first e) (same-values S R o (ap later e))
same-values S R (tree (infer of_const w) c o) e = at-variable S R of_const w o (ap first e) (same-values S R o (ap later e))
same-values S R (tree (infer of_lifetime w) c o) e = at-lifetime S R w o (same-values S R o (ap later e))
same-values S R (tree l c o) e = at-node S R c o (same-values S R c (ap below e)) (same-values S R o (ap later e))

-- ---- one value changed
abbrev pub changed : Assignment → Sort → ℕ → Label × Trees → Assignment
changed S k v n j w = if is_same_variable k v j w then n else S j w

changed-sorted : (S : Assignment) (k : Sort) (v : ℕ) (n : Label × Trees) → IsSorted S → sort_of n.0 ≡ k → IsSorted (changed S k v n)
changed-sorted S k v n h e = λ j w. by j w (is_same_variable k v j w) refl
  where
    by : (j : Sort) (w : ℕ) (b : Bool) → is_same_variable k v j w ≡ b → sort_of (if b then n else S j w).0 ≡ j
    by j w true p = e ∙ (is_variable-equal k j v w p).0
    by j w false p = h j w

-- the test is the same from both sides
flipped : (j k : Sort) (w v : ℕ) → is_same_variable j w k v ≡ false → is_same_variable k v j w ≡ false
flipped j k w v h = so-false (is_same_variable k v j w) (λ p. let same = is_variable-equal k j v w p in clash j k w v same.0 same.1 h)
  where
    clash : (j k : Sort) (w v : ℕ) → k ≡ j → v ≡ w → is_same_variable j w k v ≡ false → ⊥
    clash j k w v p q h = let s : is_same_variable j w j w ≡ false = subst (λ (x : Sort). is_same_variable j w x w ≡ false) p (subst (λ (n : ℕ). is_same_variable j w k n ≡ false) q h) in let t = is_variable-self j w in cc

changed-other : (S : Assignment) (j k : Sort) (w v : ℕ) (n : Label × Trees) → is_same_variable j w k v ≡ false → changed S k v n j w ≡ S j w
changed-other S j k w v n h = ap (λ b. if b then n else S j w) (flipped j k w v h)

pub unchanged : (S : Assignment) (k : Sort) (v : ℕ) (n : Label × Trees) (t : Trees) → IsProper t → occurs k v t ≡ false → instance (changed S k v n) t ≡ instance S t
unchanged S k v n none p h = refl
unchanged S k v n (tree (infer of_type w) c o) p h =
    let e = changed-other S of_type k w v n (or-left (is_same_variable of_type w k v) (occurs k v o) h) in
    node (ap (λ (q : Label × Trees). q.0) e) (ap (λ (q : Label × Trees). q.1) e) (unchanged S k v n o p.1 (or-right (is_same_variable of_type w k v) (occurs k v o) h))
unchanged S k v n (tree (infer of_const w) c o) p h =
    let e = changed-other S of_const k w v n (or-left (is_same_variable of_const w k v) (occurs k v o) h) in
    node (ap (λ (q : Label × Trees). q.0) e) (ap (λ (q : Label × Trees). q.1) e) (unchanged S k v n o p.1 (or-right (is_same_variable of_const w k v) (occurs k v o) h))
unchanged S k v n (tree (infer of_lifetime w) c o) p h =
    node refl (ap (instance (changed S k v n)) p.0 ∙ sym (ap (instance S) p.0)) (unchanged S k v n o p.1 (or-right (is_same_variable of_lifetime w k v) (occurs k v o) h))
unchanged S k v n (tree l c o) p h = node refl (unchanged S k v n c p.0 (or-left (occurs k v c) (occurs k v o) h)) (unchanged S k v n o p.1 (or-right (occurs k v c) (occurs k v o) h))

-- ---- what stands in an impl's terms with unknowns put in
proper-unknown : (t : Table) (ks : List Sort) (d i : ℕ) → IsProper (shift zero d (nth (fresh_unknowns t ks) i))
proper-unknown t [] d i = (tt, tt)
proper-unknown t (k ∷ ks) d zero = (refl, tt)
proper-unknown t (k ∷ ks) d (suc i) = proper-unknown (with_unknown t k) ks d i

pub proper-put : (t : Table) (ks : List Sort) (d : ℕ) (x : Trees) → Speaks (fresh_unknowns t ks) x → IsProper (instantiate d (fresh_unknowns t ks) x)
proper-put t ks d none h = tt
proper-put t ks d (tree (param s i) c o) h = proper-joined (shift zero d (nth (fresh_unknowns t ks) i)) _ (proper-unknown t ks d i) (proper-put t ks d o h.2)
proper-put t ks d (tree (infer k v) c o) h = (ap (instantiate d (fresh_unknowns t ks)) h.1, proper-put t ks d o h.2)
proper-put t ks d (tree l c o) h = (proper-put t ks (inside l d) c h.1, proper-put t ks d o h.2)

younger : (t : Table) (j : Sort) (ks : List Sort) (k : Sort) (v : ℕ) → variables_of (with_unknowns (with_unknown t j) ks) k ≤ v → is_same_variable j (variables_of t j) k v ≡ false
younger t j ks k v h = so-false (is_same_variable j (variables_of t j) k v) (λ p.
    let same = is_variable-equal j k (variables_of t j) v p in
    let n : variables_of t k ≡ v = subst (λ (x : Sort). variables_of t x ≡ v) same.0 same.1 in
    let o = one-more t k in
    let g : variables_of (with_unknowns (with_unknown t k) ks) k ≤ v = subst (λ (x : Sort). variables_of (with_unknowns (with_unknown t x) ks) k ≤ v) same.0 h in
    let m = all-no-fewer (with_unknown t k) ks k in
    omega (arith, n, o, g, m))

below-unknown : (t : Table) (ks : List Sort) (d i : ℕ) (k : Sort) (v : ℕ) → variables_of (with_unknowns t ks) k ≤ v → occurs k v (shift zero d (nth (fresh_unknowns t ks) i)) ≡ false
below-unknown t [] d i k v h = refl
below-unknown t (j ∷ ks) d zero k v h = or-both (is_same_variable j (variables_of t j) k v) false (younger t j ks k v h) refl
below-unknown t (j ∷ ks) d (suc i) k v h = below-unknown (with_unknown t j) ks d i k v h

lifetime-apart : (w : ℕ) (k : Sort) (v : ℕ) → HasValues k → is_same_variable of_lifetime w k v ≡ false
lifetime-apart w of_type v h = refl
lifetime-apart w of_const v h = refl
lifetime-apart w of_lifetime v h = absurd h

pub below-put : (t : Table) (ks : List Sort) (d : ℕ) (x : Trees) → Speaks (fresh_unknowns t ks) x → (k : Sort) (v : ℕ) → HasValues k → variables_of (with_unknowns t ks) k ≤ v
    → occurs k v (instantiate d (fresh_unknowns t ks) x) ≡ false
below-put t ks d none h k v g le = refl
below-put t ks d (tree (param s i) c o) h k v g le =
    let y = shift zero d (nth (fresh_unknowns t ks) i) in
    let z = instantiate d (fresh_unknowns t ks) o in
    occurs-append k v y z ∙ or-both (occurs k v y) (occurs k v z) (below-unknown t ks d i k v le) (below-put t ks d o h.2 k v g le)
below-put t ks d (tree (infer of_lifetime w) c o) h k v g le =
    or-both (is_same_variable of_lifetime w k v) (occurs k v (instantiate d (fresh_unknowns t ks) o)) (lifetime-apart w k v g) (below-put t ks d o h.2 k v g le)
below-put t ks d (tree (infer of_type w) c o) h k v g le = absurd (no-type h.0)
below-put t ks d (tree (infer of_const w) c o) h k v g le = absurd (no-const h.0)
below-put t ks d (tree l c o) h k v g le =
    or-both (occurs k v (instantiate (inside l d) (fresh_unknowns t ks) c)) (occurs k v (instantiate d (fresh_unknowns t ks) o)) (below-put t ks (inside l d) c h.1 k v g le) (below-put t ks d o h.2 k v g le)

-- ---- a table that calls made
pub record Facts (bs : List Binding) : Type 0 where
  pub completed : (r : Assignment) → IsSorted r → (s : Assignment) × IsCompletion bs r s
  pub same : (s : Assignment) (t : Trees) → Solves s bs → instance s (resolved bs t) ≡ instance s t
  pub free : (k : Sort) (v : ℕ) (x t : Trees) → value_in bs k v ≡ Some x → occurs k v (resolved bs t) ≡ false
  pub proper : (t : Trees) → IsProper t → IsProper (resolved bs t)

pub ready-facts : (es : List Entry) (t : Table) → Ready es t → Facts (content es t.values)
ready-facts es t h =
    record {
      completed = λ r g. (completed (content es t.values) r, completion (variables_of t) (content es t.values) r (sound es t h) g);
      same = λ s x g. instance-resolved s (content es t.values) x (valued es t.values) g;
      free = λ k v x u e. resolved-free (content es t.values) k v x u h.acyclic e;
      proper = λ x p. resolved-proper (content es t.values) x h.proper p;
    }

-- two values that differ
abbrev other_node : Sort → Label × Trees
other_node of_type = (bool, none)
other_node of_const = (value 1, none)
other_node of_lifetime = (static, none)

nodes-differ : (k : Sort) → HasValues k → tree_of (default_node k) ≡ tree_of (other_node k) → ⊥
nodes-differ of_type h e = cc
nodes-differ of_const h e = cc
nodes-differ of_lifetime h e = h

other-sorted : (k : Sort) → sort_of (other_node k).0 ≡ k
other-sorted of_type = refl
other-sorted of_const = refl
other-sorted of_lifetime = refl

changed-at : (S : Assignment) (k : Sort) (v : ℕ) (n : Label × Trees) → changed S k v n k v ≡ n
changed-at S k v n = ap (λ b. if b then n else S k v) (is_variable-self k v)

module _ (a b : Trees) (bs : List Binding) (equates : Equates [] bs a b) (facts : Facts bs) where
  -- some solution
  pub some-solution : (S : Assignment) × Solves S bs
  some-solution = let s = facts.completed (λ k v. default_node k) (λ k v. default-sorted k) in (s.0, s.1.solves)

  -- what the equation does not speak of does not come into terms that do not either
  module _ (u : Trees) (pa : IsProper a) (pb : IsProper b) (pu : IsProper u) (k : Sort) (v : ℕ) (h : HasValues k) (na : occurs k v a ≡ false) (nb : occurs k v b ≡ false) (nu : occurs k v u ≡ false) where
    pub stays-known : occurs k v (resolved bs u) ≡ false
    stays-known = so-false (occurs k v (resolved bs u)) (λ g. nodes-differ k h
        (ap tree_of (sym (changed-at S k v (default_node k)))
        ∙ same-values (changed S k v (default_node k)) (changed S k v (other_node k)) (resolved bs u) alike k v h g
        ∙ ap tree_of (changed-at S k v (other_node k))))
      where
        S : Assignment
        S = some-solution.0

        of-both : Solves S [] × (instance S a ≡ instance S b)
        of-both = equates.only S some-solution.1

        solves : (n : Label × Trees) → sort_of n.0 ≡ k → Solves (changed S k v n) bs
        solves n e = equates.all (changed S k v n) (changed-sorted S k v n of-both.0 e) (unchanged S k v n a pa na ∙ of-both.1 ∙ sym (unchanged S k v n b pb nb))

        reads : (n : Label × Trees) → sort_of n.0 ≡ k → instance (changed S k v n) (resolved bs u) ≡ instance S u
        reads n e = facts.same (changed S k v n) u (solves n e) ∙ unchanged S k v n u pu nu

        alike : instance (changed S k v (default_node k)) (resolved bs u) ≡ instance (changed S k v (other_node k)) (resolved bs u)
        alike = reads (default_node k) (default-sorted k) ∙ sym (reads (other_node k) (other-sorted k))

  -- a term that is one under each closed solution is so resolved that no unknown stands in it
  module _ (u r : Trees) (shuts : (S : Assignment) → instance S a ≡ instance S b → instance (shut_by S) a ≡ instance (shut_by S) b)
      (fixed : (S : Assignment) → IsSorted S → instance S a ≡ instance S b → instance (shut_by S) u ≡ r) (k : Sort) (v : ℕ) (h : HasValues k) where
    reads : (S : Assignment) → Solves S bs → instance (shut_by S) (resolved bs u) ≡ r
    reads S g =
        let e = equates.only S g in
        facts.same (shut_by S) u (equates.all (shut_by S) (shut-by-sorted S e.0) (shuts S e.1)) ∙ fixed S e.0 e.1

    shut-default : (k : Sort) (n : Label × Trees) → n ≡ default_node k → (closing n.0, closed_off n.1) ≡ default_node k
    shut-default of_type n e = ap (λ (p : Label × Trees). (closing p.0, closed_off p.1)) e
    shut-default of_const n e = ap (λ (p : Label × Trees). (closing p.0, closed_off p.1)) e
    shut-default of_lifetime n e = ap (λ (p : Label × Trees). (closing p.0, closed_off p.1)) e

    shut-other : (k : Sort) (n : Label × Trees) → n ≡ other_node k → (closing n.0, closed_off n.1) ≡ other_node k
    shut-other of_type n e = ap (λ (p : Label × Trees). (closing p.0, closed_off p.1)) e
    shut-other of_const n e = ap (λ (p : Label × Trees). (closing p.0, closed_off p.1)) e
    shut-other of_lifetime n e = ap (λ (p : Label × Trees). (closing p.0, closed_off p.1)) e

    unbound : value_in bs k v ≡ None → occurs k v (resolved bs u) ≡ true → ⊥
    unbound e g =
        let s = facts.completed (λ j w. default_node j) (λ j w. default-sorted j) in
        let t = facts.completed (λ j w. other_node j) (λ j w. other-sorted j) in
        nodes-differ k h
        (ap tree_of (sym (shut-default k (s.0 k v) (s.1.agrees k v e)))
        ∙ same-values (shut_by s.0) (shut_by t.0) (resolved bs u) (reads s.0 s.1.solves ∙ sym (reads t.0 t.1.solves)) k v h g
        ∙ ap tree_of (shut-other k (t.0 k v) (t.1.agrees k v e)))

    pub fixed-known : occurs k v (resolved bs u) ≡ false
    fixed-known = so-false (occurs k v (resolved bs u)) (λ g. by (value_in bs k v) refl g)
      where
        by : (o : Option Trees) → value_in bs k v ≡ o → occurs k v (resolved bs u) ≡ true → ⊥
        by None e g = unbound e g
        by (Some x) e g = let n = facts.free k v x u e in cc

-- ---- without unknowns an instance is the term itself
pub plain-instance : (S : Assignment) (t : Trees) → IsProper t → ((k : Sort) (v : ℕ) → HasValues k → occurs k v t ≡ false) → instance S t ≡ erase t
plain-instance S none p h = refl
plain-instance S (tree (infer of_type w) c o) p h = absurd (let n = or-left (is_same_variable of_type w of_type w) (occurs of_type w o) (h of_type w tt) in let y = is_variable-self of_type w in clash n y)
  where
    clash : is_same_variable of_type w of_type w ≡ false → is_same_variable of_type w of_type w ≡ true → ⊥
    clash n y = cc
plain-instance S (tree (infer of_const w) c o) p h = absurd (let n = or-left (is_same_variable of_const w of_const w) (occurs of_const w o) (h of_const w tt) in let y = is_variable-self of_const w in clash n y)
  where
    clash : is_same_variable of_const w of_const w ≡ false → is_same_variable of_const w of_const w ≡ true → ⊥
    clash n y = cc
plain-instance S (tree (infer of_lifetime w) c o) p h =
    node refl (ap (instance S) p.0 ∙ sym (ap erase p.0)) (plain-instance S o p.1 (λ k v g. or-right (is_same_variable of_lifetime w k v) (occurs k v o) (h k v g)))
plain-instance S (tree l c o) p h =
    node refl (plain-instance S c p.0 (λ k v g. or-left (occurs k v c) (occurs k v o) (h k v g))) (plain-instance S o p.1 (λ k v g. or-right (occurs k v c) (occurs k v o) (h k v g)))
