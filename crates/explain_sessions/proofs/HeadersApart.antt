-- An impl whose header no values make equal to a reference has no rule for any instance of it.
use Rattle.std.proofs.Common.{◌≡◌, ◌≢◌, ℕ, zero, suc, ◌<◌, arith, Bool, true, false, ◌||◌, if◌then◌else◌, List, [], ◌∷◌, take, length, refl, sym, ap, ◌∙◌, subst, ◌⊎◌, inl, inr}
use Rattle.sessions.specs.TypeTerms.Promised.Label.{Label, Sort, of_type, of_const, of_lifetime, param, infer, canonical, bound, inside, shift_label}
use Rattle.sessions.specs.TypeTerms.Promised.Trees.{Trees, none, tree, ◌+++◌, IsA, Fits, erase, erase_label, nth, shift, instantiate, sort_of, some_node}
use Rattle.sessions.specs.TypeTerms.Promised.Answers.{is_open}
use Rattle.sessions.specs.TypeTerms.Promised.Erased.{erased_reference, erased_impl}
use Rattle.sessions.specs.TypeTerms.Promised.LinkedSet.{is_stray}
use Rattle.sessions.specs.TypeTerms.Promised.Rules.{by_impl, impl_rules}
use Rattle.sessions.specs.TypeTerms.Promised.Worlds.{Reference, ImplDecl, with_args, all_with_args}
use Rattle.sessions.specs.TypeTerms.Promised.Handles.{Entry, Keeps, trees_at}
use Rattle.sessions.proofs.TypeTerms.Fitting.{child-shut, next-shut}
use Rattle.sessions.specs.TermFolds.declared.predicate.TraitRef.{TraitRef}
use Rattle.sessions.specs.Declarations.Held.{ReferenceHeld}
use Rattle.sessions.specs.Declarations.declared.items.ImplDef.{ImplDef}
use Rattle.sessions.proofs.Declarations.Growth.{args-same}
use Rattle.sessions.specs.InferTable.Content.{Table, Grows, content, variables_of}
use Rattle.sessions.specs.InferTable.Covers.{AreKnown}
use Rattle.sessions.specs.InferTable.Solutions.{Assignment, IsSorted, HasNoSolution, instance}
use Rattle.sessions.proofs.InferTable.SolutionLaws.{instance-erase}
use Rattle.sessions.specs.OverlapCheck.Fresh.{with_unknowns, fresh_unknowns, HasArguments}
use Rattle.sessions.specs.OverlapCheck.Headers.{sorts_of_impl, unknowns_for, with_unknowns_for, args_at, IsHeaderOver}
use Rattle.sessions.specs.TypeTerms.Promised.ReadByLaws.{ImplRulesAreInstances}
use Rattle.sessions.specs.OverlapCheck.declared.header.ImplHeader.{ImplHeader}
use Rattle.sessions.proofs.OverlapCheck.Instances.{node, shut-stays, nth-shut, instance-put, closing, closed_off, shut_by, shut-by-sorted, closing-stays, closed-shut}
use Rattle.sessions.proofs.OverlapCheck.Standing.{default_node, default-sorted, assigned as taking, assigned-sorted, assigned-older, fresh-gives, all-no-fewer}
use Rattle.explain_sessions.specs.Rules.{HasNoRuleBy}
use Rattle.explain_sessions.specs.Unknowns.{speaks_of_known}
use Rattle.explain_sessions.proofs.OwnTerms.{IsOwn, here, below, behind, own, speaks-known}
use Rattle.sessions.proofs.TypeTerms.TermBasics.{joined}
use Rattle.sessions.proofs.TypeTerms.Matching.{or-false-left as no-left}
use Rattle.sessions.proofs.TypeTerms.BooleanBasics.{true-false as no-true}
use Rattle.sessions.proofs.OverlapCheck.Unknowns.{fresh-constraints as same-constraints, fresh-values as same-values}

-- ---- open places closed
closing-sort : (l : Label) → sort_of (closing l) ≡ sort_of l
closing-sort l = by (is_open l)
  where
    by : (b : Bool) → sort_of (if b then (default_node (sort_of l)).0 else l) ≡ sort_of l
    by true = default-sorted (sort_of l)
    by false = refl

closing-moved : (d a : ℕ) (l : Label) → closing (shift_label d a l) ≡ closing l
closing-moved d a (bound s k v) = refl
closing-moved d a l = refl

closed-joined : (x y : Trees) → closed_off (x +++ y) ≡ closed_off x +++ closed_off y
closed-joined none y = refl
closed-joined (tree l c o) y = node refl refl (closed-joined o y)

closed-moved : (d a : ℕ) (t : Trees) → closed_off (shift d a t) ≡ closed_off t
closed-moved d a none = refl
closed-moved d a (tree l c o) = node (closing-moved d a l) (closed-moved (inside l d) a c) (closed-moved d a o)

closed-nth : (A : Trees) (i : ℕ) → closed_off (nth A i) ≡ nth (closed_off A) i
closed-nth none i = refl
closed-nth (tree l c o) zero = refl
closed-nth (tree l c o) (suc i) = closed-nth o i

-- ---- instances of a header closed
abbrev Plain : Trees → Type 0
Plain t = some_node is_stray t ≡ false

first-plain : (l : Label) (c o : Trees) → Plain (tree l c o) → is_stray l ≡ false
first-plain l c o h = no-left (is_stray l) (some_node is_stray c) (no-left (is_stray l || some_node is_stray c) (some_node is_stray o) h)

module _ (A : Trees) where
  moved-argument : (d i : ℕ) → closed_off (shift zero d (nth A i)) ≡ shift zero d (nth (closed_off A) i)
  moved-argument d i = closed-moved zero d (nth A i) ∙ closed-nth A i ∙ sym (shut-stays zero d (nth (closed_off A) i) (nth-shut (closed_off A) i (closed-shut A)))

  closed-put : (d : ℕ) (t : Trees) → Plain t → closed_off (instantiate d A t) ≡ instantiate d (closed_off A) t
  closed-put d none h = refl
  closed-put d (tree (param s i) c o) h =
      closed-joined (shift zero d (nth A i)) (instantiate d A o) ∙ joined (moved-argument d i) (closed-put d o (next-shut is_stray (param s i) c o h))
  closed-put d (tree l c o) h =
      node (closing-stays l (first-plain l c o h)) (closed-put (inside l d) c (child-shut is_stray l c o h)) (closed-put d o (next-shut is_stray l c o h))

  closed-one : (s : Sort) (x : Trees) → IsA s x → IsA s (closed_off x)
  closed-one s none h = absurd h
  closed-one of_type (tree l c o) h = (closing-sort l ∙ h.0, ap closed_off h.1)
  closed-one of_const (tree l c o) h = (closing-sort l ∙ h.0, ap closed_off h.1)
  closed-one of_lifetime (tree l c o) h = (closing-sort l ∙ h.0, ap closed_off h.1, ap closed_off h.2)

  closed-fits : (t : Trees) → Fits A t → Fits (closed_off A) t
  closed-fits none h = tt
  closed-fits (tree (param s i) c o) h = (subst (IsA s) (closed-nth A i) (closed-one s (nth A i) h.0), h.1, closed-fits o h.2)
  closed-fits (tree l c o) h = (closed-fits c h.0, closed-fits o h.1)

-- ---- instances of a reference closed
closed-instance : (counts : Sort → ℕ) (s : Assignment) (t : Trees) → IsOwn counts t → instance (shut_by s) t ≡ closed_off (instance s t)
closed-instance counts s none h = refl
closed-instance counts s (tree (infer of_type v) c o) h = node refl refl (closed-instance counts s o (behind counts (infer of_type v) c o h))
closed-instance counts s (tree (infer of_const v) c o) h = node refl refl (closed-instance counts s o (behind counts (infer of_const v) c o h))
closed-instance counts s (tree (infer of_lifetime v) c o) h =
    node refl (closed-instance counts s c (below counts (infer of_lifetime v) c o h)) (closed-instance counts s o (behind counts (infer of_lifetime v) c o h))
closed-instance counts s (tree (canonical k v) c o) h = absurd (no-true (here counts (canonical k v) c o h))
closed-instance counts s (tree l c o) h =
    node (sym (closing-stays (erase_label l) (here counts l c o h))) (closed-instance counts s c (below counts l c o h)) (closed-instance counts s o (behind counts l c o h))

-- assignments that agree where a term has its unknowns
same-instance : (counts : Sort → ℕ) (r s : Assignment) → ((k : Sort) (v : ℕ) → v < counts k → r k v ≡ s k v) → (t : Trees) → AreKnown counts t → instance r t ≡ instance s t
same-instance counts r s e none h = refl
same-instance counts r s e (tree (infer of_type v) c o) h = let q = e of_type v h.0 in node (ap (λ (x : Label × Trees). x.0) q) (ap (λ (x : Label × Trees). x.1) q) (same-instance counts r s e o h.2)
same-instance counts r s e (tree (infer of_const v) c o) h = let q = e of_const v h.0 in node (ap (λ (x : Label × Trees). x.0) q) (ap (λ (x : Label × Trees). x.1) q) (same-instance counts r s e o h.2)
same-instance counts r s e (tree (infer of_lifetime v) c o) h = node refl (same-instance counts r s e c h.1) (same-instance counts r s e o h.2)
same-instance counts r s e (tree l c o) h = node refl (same-instance counts r s e c h.0) (same-instance counts r s e o h.1)

-- ---- one impl: t has the reference's unknowns, and ks are the sorts of the impl's parameters
module _ (t : Table) (ks : List Sort) where
  abbrev I : Trees
  I = fresh_unknowns t ks

  unequal : (h r : Trees) → HasArguments I h → Plain (erase h) → speaks_of_known (variables_of t) r ≡ true → HasNoSolution [] (instantiate zero I h) r
      → (s : Assignment) → IsSorted s → (A : Trees) → Fits A (erase h) → instantiate zero A (erase h) ≡ instance s (erase r) → ⊥
  unequal h r speaks plain mine none-solves s sorted A fits e = none-solves S (assigned-sorted t ks B (shut_by s) (shut-by-sorted s sorted)) (left ∙ sym right)
    where
      B : Trees
      B = closed_off A

      S : Assignment
      S = taking t ks B (shut_by s)

      left : instance S (instantiate zero I h) ≡ closed_off (instance s r)
      left =
          instance-put S I B (fresh-gives S t ks B (shut_by s) (λ k v le. refl)) (closed-shut A) zero h speaks (closed-fits A (erase h) fits)
          ∙ sym (closed-put A zero (erase h) plain) ∙ ap closed_off (e ∙ instance-erase s r)

      right : instance S r ≡ closed_off (instance s r)
      right =
          same-instance (variables_of t) S (shut_by s) (λ k v lt. assigned-older t ks B (shut_by s) k v lt) r (speaks-known (variables_of t) r mine)
          ∙ closed-instance (variables_of t) s r (own (variables_of t) r mine)

  -- no instance of the reference is one of the header, up to lifetimes
  pub no-rule : ImplRulesAreInstances → (i : ImplDecl) (r : Reference) → HasArguments I i.header.args → some_node is_stray (erase i.header.args) ≡ false → speaks_of_known (variables_of t) r.args ≡ true
      → (i.header.trait ≢ r.trait) ⊎ HasNoSolution [] (instantiate zero I i.header.args) r.args → HasNoRuleBy (erased_reference r) (erased_impl i)
  no-rule law i r speaks plain mine apart q x = by (law q (erased_impl i)).0
    where
      clash : (A : Trees) → Fits A (erase i.header.args) → with_args A (erased_reference i.header) ≡ q → (i.header.trait ≢ r.trait) ⊎ HasNoSolution [] (instantiate zero I i.header.args) r.args → ⊥
      clash A fits e (inl other) = other (ap (λ (z : Reference). z.trait) (e ∙ sym x.2))
      clash A fits e (inr none-solves) = unequal i.header.args r.args speaks plain mine none-solves x.0 x.1 A fits (ap (λ (z : Reference). z.args) (e ∙ sym x.2))

      by : (impl_rules q (erased_impl i) ≡ []) ⊎ ((A : Trees) × Fits A (erase i.header.args) × (with_args A (erased_reference i.header) ≡ q)
          × (impl_rules q (erased_impl i) ≡ record { way = by_impl i.name; premises = all_with_args A (erased_impl i).clauses } ∷ [])) → impl_rules q (erased_impl i) ≡ []
      by (inl e) = e
      by (inr y) = absurd (clash y.0 y.1 y.2 apart)

-- ---- a table with further unknowns

-- has no values where the first has none
pub no-values : (t u : Table) (ks : List Sort) → u ≡ with_unknowns t ks → t.values ≡ [] → u.values ≡ []
no-values t u ks made e = ap (λ (x : Table). x.values) made ∙ same-values t ks ∙ e

-- and what it grows to the first grows to
pub grows-to : (t u w : Table) (ks : List Sort) → u ≡ with_unknowns t ks → Grows u w → Grows t w
grows-to t u w ks made g =
    let f : Grows (with_unknowns t ks) w = subst (λ (x : Table). Grows x w) made g in
    let ty = f.ty_vars_kept in
    let const = f.const_vars_kept in
    let region = f.region_vars_kept in
    let first = all-no-fewer t ks of_type in
    let second = all-no-fewer t ks of_const in
    let third = all-no-fewer t ks of_lifetime in
    record {
      values_kept = subst (λ vs. take (length vs) w.values ≡ vs) (same-values t ks) f.values_kept;
      constraints_kept = subst (λ cs. take (length cs) w.constraints ≡ cs) (same-constraints t ks) f.constraints_kept;
      ty_vars_kept = omega (arith, ty, first);
      const_vars_kept = omega (arith, const, second);
      region_vars_kept = omega (arith, region, third);
    }

-- ---- what was found over the terms as they are then is said of them as they were
pub said-before : (old new : List Entry) → Keeps old new → (t u : Table) (def : ImplDef) (header : ImplHeader) (r : TraitRef) → u ≡ with_unknowns_for t def → t.values ≡ [] → IsHeaderOver old t def new header → ReferenceHeld old r
    → (header.trait_ref.def_id.index ≢ r.def_id.index) ⊎ HasNoSolution (content new u.values) (args_at new header) (trees_at new r.args.0)
    → (def.header.def_id.index ≢ r.def_id.index) ⊎ HasNoSolution [] (instantiate zero (unknowns_for t def) (trees_at old def.header.args.0)) (trees_at old r.args.0)
said-before old new k t u def header r made empty over held (inl n) = inl (λ e. n (ap (λ (z : Reference). z.trait) over.is ∙ e))
said-before old new k t u def header r made empty over held (inr n) =
    inr (subst (λ bs. HasNoSolution bs (instantiate zero (unknowns_for t def) (trees_at old def.header.args.0)) (trees_at old r.args.0)) (ap (content new) (no-values t u (sorts_of_impl def) made empty))
    (subst (λ x. HasNoSolution (content new u.values) x (trees_at old r.args.0)) (ap (λ (z : Reference). z.args) over.is)
    (subst (HasNoSolution (content new u.values) (args_at new header)) (args-same old new k r held) n)))
