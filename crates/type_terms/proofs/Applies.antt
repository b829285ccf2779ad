-- An impl applies to each closed instance of its header: its arguments are found by reading them from the instance.
use Rattle.std.proofs.Common.{zero-add, ◌≡◌, ℕ, zero, ◌<◌, max, Bool, true, false, List, [], ◌∷◌, ◌++◌, refl, ap, sym, ◌∙◌, ◌&&◌, ◌||◌, ◌==◌, if◌then◌else◌, subst, map}
use Rattle.std.specs.List.{flat_map}
use Rattle.type_terms.specs.Promised.Label.{Label, Sort, of_type, of_const, of_lifetime, never, param, placeholder, infer, canonical, bound, fn_ptr, principal}
use Rattle.type_terms.specs.Codes.{same, same_label, numbers, same_numbers}
use Rattle.type_terms.specs.Promised.Trees.{Trees, none, tree, leaf, nth, instantiate, IsA, Fits, sort_of, is_sort, some_node, erase, erase_label}
use Rattle.type_terms.specs.Trees.{standing_at, arguments, first_of, is_a, fits, is_no_tree, outer_binder, own_binder, outside}
use Rattle.type_terms.specs.Promised.Worlds.{World, Reference, ImplDecl, with_args, all_with_args}
use Rattle.type_terms.specs.Erased.{IsCovered}
use Rattle.type_terms.specs.Promised.Erased.{erased_reference, erased_impl, erased_world}
use Rattle.type_terms.specs.Promised.Rules.{Rule, by_impl, rules, impl_rules, built_in_rules, clause_rules, same_reference}
use Rattle.type_terms.specs.Promised.Proofs.{In, Every, HasProof}
use Rattle.type_terms.specs.Promised.Answers.{is_closed, is_open}
use Rattle.type_terms.proofs.Members.{here, there, in-left, in-map, flat-in, self-number}
use Rattle.type_terms.proofs.Walking.{both, or-left, or-right}
use Rattle.type_terms.proofs.TreeLaws.{erase-nth, erase-instantiate}
use Rattle.type_terms.proofs.Matching.{Occurs, present-found, nth-arguments, same-where-asked, first-left, nth-there, or-false-left as no-left}
use Rattle.type_terms.proofs.Fitting.{not-true, child-shut, next-shut}
use Rattle.type_terms.proofs.ProofLists.{by-rule}
use Rattle.type_terms.proofs.TermBasics.{outside-zero}

-- equal trees pass the test
pub same-label-itself : (l : Label) → same_label l l ≡ true
same-label-itself l = by (numbers l)
  where
    by : (x : ℕ × (ℕ × (ℕ × ℕ))) → same_numbers x x ≡ true
    by (a, (b, (c, d))) = both (a == a) _ (self-number a) (both (b == b) _ (self-number b) (both (c == c) (d == d) (self-number c) (self-number d)))

pub same-itself : (t : Trees) → same t t ≡ true
same-itself none = refl
same-itself (tree l c o) = both (same_label l l) _ (same-label-itself l) (both (same c c) _ (same-itself c) (same-itself o))

pub same-complete : (x y : Trees) → x ≡ y → same x y ≡ true
same-complete x y e = subst (λ z. same x z ≡ true) e (same-itself x)

pub same-reference-complete : (r s : Reference) → r ≡ s → same_reference r s ≡ true
same-reference-complete r s e = subst (λ z. same_reference r z ≡ true) e (both (r.trait == r.trait) _ (self-number r.trait) (same-itself r.args))

-- a tree without bound variables leads out of no binder
own-zero : (l : Label) → is_open l ≡ false → own_binder l ≡ 0
own-zero (bound s k i) h = cc
own-zero l h = refl

pub closed-outer : (t : Trees) → some_node is_open t ≡ false → outer_binder t ≡ 0
closed-outer none h = refl
closed-outer (tree l c o) h =
    maxes (own_binder l) (outside l (outer_binder c)) (outer_binder o) (own-zero l (no-left (is_open l) (some_node is_open c) (no-left (is_open l || some_node is_open c) (some_node is_open o) h)))
    (outside-zero l (outer_binder c) (closed-outer c (child-shut is_open l c o h))) (closed-outer o (next-shut is_open l c o h))
  where
    maxes : (a b c : ℕ) → a ≡ 0 → b ≡ 0 → c ≡ 0 → max (max a b) c ≡ 0
    maxes a b c p q r = cc

-- fitting arguments pass the test
is-a-complete : (s : Sort) (t : Trees) → IsA s t → is_a s t ≡ true
is-a-complete s none h = absurd (nothing s h)
  where
    nothing : (s : Sort) → IsA s none → ⊥
    nothing of_type h = h
    nothing of_const h = h
    nothing of_lifetime h = h
is-a-complete of_type (tree l c o) h = both (is_sort (sort_of l) of_type) _ (ap (λ z. is_sort z of_type) h.0) (ap is_no_tree h.1)
is-a-complete of_const (tree l c o) h = both (is_sort (sort_of l) of_const) _ (ap (λ z. is_sort z of_const) h.0) (ap is_no_tree h.1)
is-a-complete of_lifetime (tree l c o) h =
    both (is_sort (sort_of l) of_lifetime) _ (ap (λ z. is_sort z of_lifetime) h.0) (both (is_no_tree c) (is_no_tree o) (ap is_no_tree h.1) (ap is_no_tree h.2))

pub fits-complete : (A t : Trees) → Fits A t → fits A t ≡ true
fits-complete A none h = refl
fits-complete A (tree (param s i) c o) h = both (is_a s (nth A i)) _ (is-a-complete s (nth A i) h.0) (both (is_no_tree c) _ (ap is_no_tree h.1) (fits-complete A o h.2))
fits-complete A (tree l c o) h = both (fits A c) _ (fits-complete A c h.0) (fits-complete A o h.1)

-- fitting asks only for the parameters that occur
fits-where-asked : (A B t : Trees) → ((i : ℕ) → Occurs i t ≡ true → nth A i ≡ nth B i) → Fits A t → Fits B t
fits-where-asked A B none h f = tt
fits-where-asked A B (tree (param s i) c o) h f = (
  subst (IsA s) (h i (or-left (i == i) (Occurs i o) (self-number i))) f.0,
  f.1,
  fits-where-asked A B o (λ j g. h j (or-right (j == i) (Occurs j o) g)) f.2,
)
fits-where-asked A B (tree l c o) h f =
    (fits-where-asked A B c (λ j g. h j (or-left (Occurs j c) (Occurs j o) g)) f.0, fits-where-asked A B o (λ j g. h j (or-right (Occurs j c) (Occurs j o) g)) f.1)

-- what is read off an instance are its arguments, for the parameters that stand in the header
pub read-off : (B : Trees) (n : ℕ) (p : Trees) → outer_binder B ≡ 0 → ((i : ℕ) → Occurs i p ≡ true → i < n) → (i : ℕ) → Occurs i p ≡ true → nth (arguments n p (instantiate 0 B p)) i ≡ nth B i
read-off B n p z below i g =
    let found : standing_at i p (instantiate 0 B p) ≡ nth B i = present-found B i 0 p z g in
    nth-arguments 0 n i p (instantiate 0 B p) (below i g)
    ∙ ap (λ k. first_of (standing_at k p (instantiate 0 B p)) (leaf never)) (zero-add i)
    ∙ first-left (standing_at i p (instantiate 0 B p)) (leaf never) (λ q. nth-there B i (sym found ∙ q))
    ∙ found

-- the impl's rule, for each closed instance of its header
pub applies-in : (i : ImplDecl) → IsCovered i → (A : Trees) → outer_binder A ≡ 0 → Fits A i.header.args → (u : Rule) → u ≡ record { way = by_impl i.name; premises = all_with_args A i.clauses }
    → In u (impl_rules (with_args A i.header) i)
applies-in i v A outer f u e =
    there-if (fits B i.header.args && same_reference (with_args B i.header) r) u (record { way = by_impl i.name; premises = all_with_args B i.clauses })
    (e ∙ ap (λ ks. (let w : Rule = record { way = by_impl i.name; premises = ks } in w)) (sym (each i.clauses (λ k g. same-where-asked B A 0 k.args (λ j o. reads j (v.in_header k g j o))))))
    (both (fits B i.header.args) _ fitting is)
  where
    r : Reference
    r = with_args A i.header

    B : Trees
    B = arguments i.params i.header.args r.args

    reads : (j : ℕ) → Occurs j i.header.args ≡ true → nth B j ≡ nth A j
    reads j g = read-off A i.params i.header.args outer v.below j g

    fitting : fits B i.header.args ≡ true
    fitting = fits-complete B i.header.args (fits-where-asked A B i.header.args (λ j g. sym (reads j g)) f)

    is : same_reference (with_args B i.header) r ≡ true
    is = same-reference-complete (with_args B i.header) r
        (ap (λ z. (let x : Reference = record { trait = i.header.trait; args = z } in x)) (same-where-asked B A 0 i.header.args reads))

    there-if : (b : Bool) (u w : Rule) → u ≡ w → b ≡ true → In u (if b then w ∷ [] else [])
    there-if true u w q e = subst (λ z. In z (w ∷ [])) (sym q) (here w [])
    there-if false u w q e = cc

    each : (ks : List Reference) → ((k : Reference) → In k ks → instantiate 0 B k.args ≡ instantiate 0 A k.args) → all_with_args B ks ≡ all_with_args A ks
    each [] g = refl
    each (k ∷ ks) g = two (ap (λ z. (let x : Reference = record { trait = k.trait; args = z } in x)) (g k (here k ks))) (each ks (λ x m. g x (there x k ks m)))
      where
        two : {a b : Reference} {c d : List Reference} → a ≡ b → c ≡ d → a ∷ c ≡ b ∷ d
        two p q = cc

pub applies : (W : World) (i : ImplDecl) → In i W.impls → IsCovered i → (A : Trees) → is_closed A ≡ true → Fits A i.header.args
    → Every (HasProof W []) (map (with_args A) i.clauses) → HasProof W [] (with_args A i.header)
applies W i h v A c f p =
    by-rule W [] r u
    (in-left u (flat_map (impl_rules r) W.impls) (built_in_rules W r ++ []) (flat-in (impl_rules r) W.impls i u h (applies-in i v A (closed-outer A (not-true (some_node is_open A) c)) f u refl)))
    p
  where
    r : Reference
    r = with_args A i.header

    u : Rule
    u = record { way = by_impl i.name; premises = all_with_args A i.clauses }

-- Up to lifetimes
sort-erased : (l : Label) → sort_of (erase_label l) ≡ sort_of l
sort-erased (fn_ptr _) = refl
sort-erased (principal _ i) = refl
sort-erased (param of_lifetime _) = refl
sort-erased (placeholder of_lifetime _) = refl
sort-erased (infer of_lifetime _) = refl
sort-erased (canonical of_lifetime _) = refl
sort-erased (bound of_lifetime _ _) = refl
sort-erased (param of_type _) = refl
sort-erased (placeholder of_type _) = refl
sort-erased (infer of_type _) = refl
sort-erased (canonical of_type _) = refl
sort-erased (bound of_type _ _) = refl
sort-erased (param of_const _) = refl
sort-erased (placeholder of_const _) = refl
sort-erased (infer of_const _) = refl
sort-erased (canonical of_const _) = refl
sort-erased (bound of_const _ _) = refl
sort-erased l = refl

type-erased : (t : Trees) → IsA of_type t → IsA of_type (erase t)
type-erased none h = h
type-erased (tree l c o) h = (sort-erased l ∙ h.0, ap erase h.1)

const-erased : (t : Trees) → IsA of_const t → IsA of_const (erase t)
const-erased none h = h
const-erased (tree l c o) h = (sort-erased l ∙ h.0, ap erase h.1)

pub fits-erased : (A t : Trees) → Fits A t → Fits (erase A) (erase t)
fits-erased A none f = tt
fits-erased A (tree (param of_lifetime i) c o) f = (subst (λ z. Fits (erase A) (erase z)) (sym f.1) tt, fits-erased A o f.2)
fits-erased A (tree (param of_type i) c o) f = (subst (IsA of_type) (erase-nth A i) (type-erased (nth A i) f.0), ap erase f.1, fits-erased A o f.2)
fits-erased A (tree (param of_const i) c o) f = (subst (IsA of_const) (erase-nth A i) (const-erased (nth A i) f.0), ap erase f.1, fits-erased A o f.2)
fits-erased A (tree (placeholder of_type i) c o) f = (fits-erased A c f.0, fits-erased A o f.1)
fits-erased A (tree (placeholder of_const i) c o) f = (fits-erased A c f.0, fits-erased A o f.1)
fits-erased A (tree (placeholder of_lifetime i) c o) f = (fits-erased A c f.0, fits-erased A o f.1)
fits-erased A (tree (infer of_type i) c o) f = (fits-erased A c f.0, fits-erased A o f.1)
fits-erased A (tree (infer of_const i) c o) f = (fits-erased A c f.0, fits-erased A o f.1)
fits-erased A (tree (infer of_lifetime i) c o) f = (fits-erased A c f.0, fits-erased A o f.1)
fits-erased A (tree (canonical of_type i) c o) f = (fits-erased A c f.0, fits-erased A o f.1)
fits-erased A (tree (canonical of_const i) c o) f = (fits-erased A c f.0, fits-erased A o f.1)
fits-erased A (tree (canonical of_lifetime i) c o) f = (fits-erased A c f.0, fits-erased A o f.1)
fits-erased A (tree (bound of_type k i) c o) f = (fits-erased A c f.0, fits-erased A o f.1)
fits-erased A (tree (bound of_const k i) c o) f = (fits-erased A c f.0, fits-erased A o f.1)
fits-erased A (tree (bound of_lifetime k i) c o) f = (fits-erased A c f.0, fits-erased A o f.1)
fits-erased A (tree l c o) f = (fits-erased A c f.0, fits-erased A o f.1)

pub applies-up-to-lifetimes : (V : World) (E : List Reference) (i : ImplDecl) (A : Trees) (r : Reference) → In i V.impls → IsCovered (erased_impl i) → outer_binder (erase A) ≡ 0
    → Fits A i.header.args → Every (λ (k : Reference). Fits A k.args) i.clauses → erased_reference (with_args A i.header) ≡ erased_reference r
    → (u : Rule) → u ≡ record { way = by_impl i.name; premises = map erased_reference (all_with_args A i.clauses) } → In u (rules (erased_world V) E (erased_reference r))
applies-up-to-lifetimes V E i A r h v z f fs e u q =
    subst (λ s. In u (rules (erased_world V) E s)) (sym (one i.header f) ∙ e)
    (in-left u (flat_map (impl_rules s) (erased_world V).impls) (built_in_rules (erased_world V) s ++ clause_rules (erased_world V) s 0 E)
    (flat-in (impl_rules s) (erased_world V).impls (erased_impl i) u (in-map erased_impl V.impls i h)
    (applies-in (erased_impl i) v (erase A) z (fits-erased A i.header.args f) u (q ∙ ap (λ ks. (let w : Rule = record { way = by_impl i.name; premises = ks } in w)) (all i.clauses fs)))))
  where
    s : Reference
    s = with_args (erase A) (erased_reference i.header)

    one : (k : Reference) → Fits A k.args → erased_reference (with_args A k) ≡ with_args (erase A) (erased_reference k)
    one k g = ap (λ y. (let x : Reference = record { trait = k.trait; args = y } in x)) (erase-instantiate zero A k.args g)

    all : (ks : List Reference) → Every (λ (k : Reference). Fits A k.args) ks → map erased_reference (all_with_args A ks) ≡ all_with_args (erase A) (map erased_reference ks)
    all [] g = refl
    all (k ∷ ks) g = two (one k g.0) (all ks g.1)
      where
        two : {a b : Reference} {c d : List Reference} → a ≡ b → c ≡ d → a ∷ c ≡ b ∷ d
        two p q = cc
