use Rattle.std.proofs.Common.{◌≡◌, ℕ, zero, suc, ◌+◌, ◌≤◌, refl, ap, sym, ◌∙◌, arith, zero-add}
use Rattle.std.proofs.lemmas.Bool.Decides.{nat_tests}
use Rattle.type_terms.specs.Promised.Label.{Label, of_type, of_const, of_lifetime, param, placeholder, infer, canonical, bound, fn_ptr, principal, value, inside, raise, shift_label, static}
use Rattle.type_terms.specs.Promised.Trees.{Trees, none, tree, ◌+++◌, shift, nth, instantiate, erase_label, erase, sort_of, IsA, Fits}
use Rattle.type_terms.specs.Trees.{Single, outer_binder, own_binder}
use Rattle.type_terms.proofs.TermBasics.{erase-append, tree-cong as ap3, two as append-cong, inside-binder}

pub raise-merge : (q e c d k : ℕ) → q ≤ c → c ≤ q + e → raise c d (raise q e k) ≡ raise q (e + d) k
raise-merge q e c d k h g = grind (arith, nat_tests)

pub shift-label-merge : (q e c d : ℕ) (l : Label) → q ≤ c → c ≤ q + e → shift_label c d (shift_label q e l) ≡ shift_label q (e + d) l
shift-label-merge q e c d (bound s k v) h g = ap (λ n. bound s n v) (raise-merge q e c d k h g)
shift-label-merge q e c d l h g = refl

pub shift-merge : (q e c d : ℕ) (t : Trees) → q ≤ c → c ≤ q + e → shift c d (shift q e t) ≡ shift q (e + d) t
shift-merge q e c d none h g = refl
shift-merge q e c d (tree (fn_ptr n) k o) h g =
    ap3 _ _ _ _ _ _ refl (shift-merge (suc q) e (suc c) d k (omega arith) (omega arith)) (shift-merge q e c d o h g)
shift-merge q e c d (tree (principal n i) k o) h g =
    ap3 _ _ _ _ _ _ refl (shift-merge (suc q) e (suc c) d k (omega arith) (omega arith)) (shift-merge q e c d o h g)
shift-merge q e c d (tree (bound s j v) k o) h g =
    ap3 _ _ _ _ _ _ (shift-label-merge q e c d (bound s j v) h g) (shift-merge q e c d k h g) (shift-merge q e c d o h g)
shift-merge q e c d (tree l k o) h g =
    ap3 _ _ _ _ _ _ refl (shift-merge q e c d k h g) (shift-merge q e c d o h g)

pub append-assoc : (a b c : Trees) → (a +++ b) +++ c ≡ a +++ (b +++ c)
append-assoc none b c = refl
append-assoc (tree l k o) b c = ap (λ x. tree l k x) (append-assoc o b c)

pub shift-append : (d a : ℕ) (x y : Trees) → shift d a (x +++ y) ≡ shift d a x +++ shift d a y
shift-append d a none y = refl
shift-append d a (tree l c o) y = ap (λ z. tree (shift_label d a l) (shift (inside l d) a c) z) (shift-append d a o y)

tree-cong : (l : Label) (c c' o o' : Trees) → c ≡ c' → o ≡ o' → tree l c o ≡ tree l c' o'
tree-cong l c c' o o' q r = cc

pub instantiate-append : (d : ℕ) (A x y : Trees) → instantiate d A (x +++ y) ≡ instantiate d A x +++ instantiate d A y
instantiate-append d A none y = refl
instantiate-append d A (tree (param s i) c o) y =
    rw (instantiate-append d A o y) (sym (append-assoc (shift zero d (nth A i)) (instantiate d A o) (instantiate d A y)))
instantiate-append d A (tree l c o) y = ap (λ z. tree l (instantiate (inside l d) A c) z) (instantiate-append d A o y)

-- putting terms in, under binders that are raised
pub instantiate-shift : (c d e : ℕ) (B t : Trees) → c ≤ e → instantiate (e + d) B (shift c d t) ≡ shift c d (instantiate e B t)
instantiate-shift c d e B none h = refl
instantiate-shift c d e B (tree (param s i) k o) h =
    append-cong _ _ _ _ (sym (shift-merge zero e c d (nth B i) (omega arith) (omega arith))) (instantiate-shift c d e B o h)
    ∙ sym (shift-append c d (shift zero e (nth B i)) (instantiate e B o))
instantiate-shift c d e B (tree (fn_ptr n) k o) h =
    tree-cong _ _ _ _ _ (rw (suc-add-left e d) (instantiate-shift (suc c) d (suc e) B k (omega arith))) (instantiate-shift c d e B o h)
  where
    suc-add-left : (x y : ℕ) → suc (x + y) ≡ suc x + y
    suc-add-left x y = omega arith
instantiate-shift c d e B (tree (principal n i) k o) h =
    tree-cong _ _ _ _ _ (rw (suc-add-left e d) (instantiate-shift (suc c) d (suc e) B k (omega arith))) (instantiate-shift c d e B o h)
  where
    suc-add-left : (x y : ℕ) → suc (x + y) ≡ suc x + y
    suc-add-left x y = omega arith
instantiate-shift c d e B (tree l k o) h =
    tree-cong _ _ _ _ _ (instantiate-shift c d e B k h) (instantiate-shift c d e B o h)

pub single-nth : (t : Trees) (i : ℕ) → Single (nth t i)
single-nth none i = refl
single-nth (tree l c o) zero = refl
single-nth (tree l c o) (suc i) = single-nth o i

pub single-shift : (d a : ℕ) (t : Trees) → Single t → Single (shift d a t)
single-shift d a none s = s
single-shift d a (tree l c o) s = ap (shift d a) s

pub append-none : (t : Trees) → t +++ none ≡ t
append-none none = refl
append-none (tree l c o) = ap (λ x. tree l c x) (append-none o)

pub nth-single-zero : (x y : Trees) → Single x → nth (x +++ y) zero ≡ x
nth-single-zero none y s = absurd s
nth-single-zero (tree l c o) y s = ap (λ z. tree l c z) (sym s)

pub nth-single-suc : (x y : Trees) (i : ℕ) → Single x → nth (x +++ y) (suc i) ≡ nth y i
nth-single-suc none y i s = absurd s
nth-single-suc (tree l c o) y i s = ap (λ z. nth (z +++ y) i) s

pub nth-instantiate : (B A : Trees) (i : ℕ) → nth (instantiate zero B A) i ≡ instantiate zero B (nth A i)
nth-instantiate B none i = refl
nth-instantiate B (tree (param s j) c o) zero =
    nth-single-zero (shift zero zero (nth B j)) (instantiate zero B o) (single-shift zero zero (nth B j) (single-nth B j))
    ∙ sym (append-none (shift zero zero (nth B j)))
nth-instantiate B (tree (param s j) c o) (suc i) =
    nth-single-suc (shift zero zero (nth B j)) (instantiate zero B o) i (single-shift zero zero (nth B j) (single-nth B j))
    ∙ nth-instantiate B o i
nth-instantiate B (tree l c o) zero = refl
nth-instantiate B (tree l c o) (suc i) = nth-instantiate B o i

-- instantiating with A and then B is instantiating with A's items instantiated with B
pub instantiate-twice : (d : ℕ) (A B t : Trees) → instantiate d B (instantiate d A t) ≡ instantiate d (instantiate zero B A) t
instantiate-twice d A B none = refl
instantiate-twice d A B (tree (param s i) c o) =
    instantiate-append d B (shift zero d (nth A i)) (instantiate d A o)
    ∙ append-cong _ _ _ _
    (rw (zero-add d) at (instantiate-shift zero d zero B (nth A i) (omega arith)) ∙ ap (shift zero d) (sym (nth-instantiate B A i)))
    (instantiate-twice d A B o)
instantiate-twice d A B (tree (fn_ptr n) c o) = tree-cong _ _ _ _ _ (instantiate-twice (suc d) A B c) (instantiate-twice d A B o)
instantiate-twice d A B (tree (principal n j) c o) = tree-cong _ _ _ _ _ (instantiate-twice (suc d) A B c) (instantiate-twice d A B o)
instantiate-twice d A B (tree l c o) = tree-cong _ _ _ _ _ (instantiate-twice d A B c) (instantiate-twice d A B o)

shift-label-zero : (d : ℕ) (l : Label) → shift_label d zero l ≡ l
shift-label-zero d (bound s k v) = ap (λ n. bound s n v) (grind (arith, nat_tests))
shift-label-zero d l = refl

pub shift-zero : (d : ℕ) (t : Trees) → shift d zero t ≡ t
shift-zero d none = refl
shift-zero d (tree l c o) = ap3 _ _ _ _ _ _ (shift-label-zero d l) (shift-zero (inside l d) c) (shift-zero d o)

erase-label-shift : (d a : ℕ) (l : Label) → erase_label (shift_label d a l) ≡ shift_label d a (erase_label l)
erase-label-shift d a (bound of_lifetime k v) = refl
erase-label-shift d a (bound of_type k v) = refl
erase-label-shift d a (bound of_const k v) = refl
erase-label-shift d a (param of_lifetime k) = refl
erase-label-shift d a (placeholder of_lifetime k) = refl
erase-label-shift d a (infer of_lifetime k) = refl
erase-label-shift d a (canonical of_lifetime k) = refl
erase-label-shift d a (param s k) = refl
erase-label-shift d a l = refl

inside-erase : (l : Label) (d : ℕ) → inside (erase_label l) d ≡ inside l d
inside-erase (param of_lifetime _) d = refl
inside-erase (placeholder of_lifetime _) d = refl
inside-erase (infer of_lifetime _) d = refl
inside-erase (canonical of_lifetime _) d = refl
inside-erase (bound of_lifetime _ _) d = refl
inside-erase (param of_type _) d = refl
inside-erase (placeholder of_type _) d = refl
inside-erase (infer of_type _) d = refl
inside-erase (canonical of_type _) d = refl
inside-erase (bound of_type _ _) d = refl
inside-erase (param of_const _) d = refl
inside-erase (placeholder of_const _) d = refl
inside-erase (infer of_const _) d = refl
inside-erase (canonical of_const _) d = refl
inside-erase (bound of_const _ _) d = refl
inside-erase l d = refl

erase-shift : (d a : ℕ) (t : Trees) → erase (shift d a t) ≡ shift d a (erase t)
erase-shift d a none = refl
erase-shift d a (tree l c o) =
    ap3 _ _ _ _ _ _ (erase-label-shift d a l) (erase-shift (inside l d) a c ∙ ap (λ n. shift n a (erase c)) (sym (inside-erase l d))) (erase-shift d a o)

pub erase-nth : (A : Trees) (i : ℕ) → erase (nth A i) ≡ nth (erase A) i
erase-nth none i = refl
erase-nth (tree l c o) zero = refl
erase-nth (tree l c o) (suc i) = erase-nth o i

lifetime-erased : (l : Label) → sort_of l ≡ of_lifetime → erase_label l ≡ static
lifetime-erased static p = refl
lifetime-erased (param of_lifetime i) p = refl
lifetime-erased (placeholder of_lifetime i) p = refl
lifetime-erased (infer of_lifetime i) p = refl
lifetime-erased (canonical of_lifetime i) p = refl
lifetime-erased (bound of_lifetime k i) p = refl
lifetime-erased (param of_const i) p = cc
lifetime-erased (placeholder of_const i) p = cc
lifetime-erased (infer of_const i) p = cc
lifetime-erased (canonical of_const i) p = cc
lifetime-erased (bound of_const k i) p = cc
lifetime-erased (param of_type i) p = cc
lifetime-erased (placeholder of_type i) p = cc
lifetime-erased (infer of_type i) p = cc
lifetime-erased (canonical of_type i) p = cc
lifetime-erased (bound of_type k i) p = cc
lifetime-erased (value i) p = cc
lifetime-erased l p = cc

erase-lifetime : (d : ℕ) (t : Trees) → IsA of_lifetime t → erase (shift zero d t) ≡ tree static none none
erase-lifetime d none p = absurd p
erase-lifetime d (tree l c o) p =
    rw (p.1, p.2) (erase-shift zero d (tree l none none) ∙ ap (λ x. tree (shift_label zero d x) none none) (lifetime-erased l p.0))

pub erase-instantiate : (d : ℕ) (A t : Trees) → Fits A t → erase (instantiate d A t) ≡ instantiate d (erase A) (erase t)
erase-instantiate d A none f = refl
erase-instantiate d A (tree (param of_lifetime i) c o) f =
    erase-append (shift zero d (nth A i)) (instantiate d A o)
    ∙ append-cong _ _ _ _ (erase-lifetime d (nth A i) f.0) (erase-instantiate d A o f.2)
    ∙ ap (λ x. tree static x (instantiate d (erase A) (erase o))) (ap (λ x. instantiate d (erase A) (erase x)) (sym f.1))
erase-instantiate d A (tree (param of_type i) c o) f =
    erase-append (shift zero d (nth A i)) (instantiate d A o)
    ∙ append-cong _ _ _ _ (erase-shift zero d (nth A i) ∙ ap (shift zero d) (erase-nth A i)) (erase-instantiate d A o f.2)
erase-instantiate d A (tree (param of_const i) c o) f =
    erase-append (shift zero d (nth A i)) (instantiate d A o)
    ∙ append-cong _ _ _ _ (erase-shift zero d (nth A i) ∙ ap (shift zero d) (erase-nth A i)) (erase-instantiate d A o f.2)
erase-instantiate d A (tree (fn_ptr n) c o) f = tree-cong _ _ _ _ _ (erase-instantiate (suc d) A c f.0) (erase-instantiate d A o f.1)
erase-instantiate d A (tree (principal n j) c o) f = tree-cong _ _ _ _ _ (erase-instantiate (suc d) A c f.0) (erase-instantiate d A o f.1)
erase-instantiate d A (tree (placeholder of_type i) c o) f = tree-cong _ _ _ _ _ (erase-instantiate d A c f.0) (erase-instantiate d A o f.1)
erase-instantiate d A (tree (placeholder of_const i) c o) f = tree-cong _ _ _ _ _ (erase-instantiate d A c f.0) (erase-instantiate d A o f.1)
erase-instantiate d A (tree (placeholder of_lifetime i) c o) f = tree-cong _ _ _ _ _ (erase-instantiate d A c f.0) (erase-instantiate d A o f.1)
erase-instantiate d A (tree (infer of_type i) c o) f = tree-cong _ _ _ _ _ (erase-instantiate d A c f.0) (erase-instantiate d A o f.1)
erase-instantiate d A (tree (infer of_const i) c o) f = tree-cong _ _ _ _ _ (erase-instantiate d A c f.0) (erase-instantiate d A o f.1)
erase-instantiate d A (tree (infer of_lifetime i) c o) f = tree-cong _ _ _ _ _ (erase-instantiate d A c f.0) (erase-instantiate d A o f.1)
erase-instantiate d A (tree (canonical of_type i) c o) f = tree-cong _ _ _ _ _ (erase-instantiate d A c f.0) (erase-instantiate d A o f.1)
erase-instantiate d A (tree (canonical of_const i) c o) f = tree-cong _ _ _ _ _ (erase-instantiate d A c f.0) (erase-instantiate d A o f.1)
erase-instantiate d A (tree (canonical of_lifetime i) c o) f = tree-cong _ _ _ _ _ (erase-instantiate d A c f.0) (erase-instantiate d A o f.1)
erase-instantiate d A (tree (bound of_type k i) c o) f = tree-cong _ _ _ _ _ (erase-instantiate d A c f.0) (erase-instantiate d A o f.1)
erase-instantiate d A (tree (bound of_const k i) c o) f = tree-cong _ _ _ _ _ (erase-instantiate d A c f.0) (erase-instantiate d A o f.1)
erase-instantiate d A (tree (bound of_lifetime k i) c o) f = tree-cong _ _ _ _ _ (erase-instantiate d A c f.0) (erase-instantiate d A o f.1)
erase-instantiate d A (tree l c o) f = tree-cong _ _ _ _ _ (erase-instantiate d A c f.0) (erase-instantiate d A o f.1)

label-stays : (d a : ℕ) (l : Label) → own_binder l ≤ d → shift_label d a l ≡ l
label-stays d a (bound s k v) h = ap (λ n. bound s n v) (grind (arith, nat_tests))
label-stays d a l h = refl

-- a tree that no binder number leads out of is not changed by a shift
pub shift-closed : (d a : ℕ) (t : Trees) → outer_binder t ≤ d → shift d a t ≡ t
shift-closed d a none h = refl
shift-closed d a (tree l c o) h =
    ap3 _ _ _ _ _ _ (label-stays d a l (omega arith)) (shift-closed (inside l d) a c (inside-binder l (outer_binder c) d (omega arith))) (shift-closed d a o (omega arith))

pub nth-binder : (A : Trees) (i : ℕ) → outer_binder A ≡ 0 → outer_binder (nth A i) ≡ 0
nth-binder none i h = refl
nth-binder (tree l c o) zero h = omega arith
nth-binder (tree l c o) (suc i) h = nth-binder o i (omega arith)
