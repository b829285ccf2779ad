-- The header of an impl with the arguments of its rule instance is the trait reference.
use Rattle.std.proofs.Common.{◌≡◌, ℕ, zero, suc, ◌+◌, Bool, true, false, refl, ap, sym, ◌∙◌, ◌||◌, ◌==◌, arith, subst, ◌⊎◌, inl, inr, ◌<◌, add-zero}
use Rattle.type_terms.specs.Promised.Label.{Label, Sort, never, param, fn_ptr, principal}
use Rattle.type_terms.specs.Erased.{mentions}
use Rattle.type_terms.specs.Promised.Trees.{Trees, none, tree, ◌+++◌, leaf, instantiate, nth, shift}
use Rattle.type_terms.specs.Trees.{standing_at, arguments_from, first_of, Single, outer_binder}
use Rattle.type_terms.specs.Codes.{same, same_label, same_numbers, numbers, label_at, label_back}
use Rattle.type_terms.proofs.TreeLaws.{single-nth, single-shift, shift-closed, nth-binder, nth-single-zero, nth-single-suc}
use Rattle.std.proofs.lemmas.Bool.Decides.{nat_tests}
use Rattle.type_terms.proofs.Walking.{left as and-left, right as and-right}
use Rattle.type_terms.proofs.Members.{same-number as equal-numbers}

pub or-false-left : (a b : Bool) → a || b ≡ false → a ≡ false
or-false-left true b h = cc
or-false-left false b h = refl

pub or-false-right : (a b : Bool) → a || b ≡ false → b ≡ false
or-false-right true b h = cc
or-false-right false b h = h

or-right : (a b : Bool) → a || b ≡ true → a ≡ false → b ≡ true
or-right true b h e = cc
or-right false b h e = h

same-numbers-sound : (x y : ℕ × (ℕ × (ℕ × ℕ))) → same_numbers x y ≡ true → x ≡ y
same-numbers-sound (a, (b, (c, d))) (e, (f, (g, h))) t =
    let t1 = and-left (a == e) _ t in
    let u1 = and-right (a == e) _ t in
    let t2 = and-left (b == f) _ u1 in
    let u2 = and-right (b == f) _ u1 in
    let p1 : a ≡ e = equal-numbers a e t1 in
    let p2 : b ≡ f = equal-numbers b f t2 in
    let p3 : c ≡ g = equal-numbers c g (and-left (c == g) _ u2) in
    let p4 : d ≡ h = equal-numbers d h (and-right (c == g) _ u2) in
    cc

pub same-label-sound : (l m : Label) → same_label l m ≡ true → l ≡ m
same-label-sound l m h = sym (label_back l) ∙ ap label_at (same-numbers-sound (numbers l) (numbers m) h) ∙ label_back m

pub same-sound : (x y : Trees) → same x y ≡ true → x ≡ y
same-sound none none h = refl
same-sound none (tree m d p) h = cc
same-sound (tree l c o) none h = cc
same-sound (tree l c o) (tree m d p) h =
    let e1 : l ≡ m = same-label-sound l m (and-left (same_label l m) _ h) in
    let r = and-right (same_label l m) _ h in
    let e2 : c ≡ d = same-sound c d (and-left (same c d) _ r) in
    let e3 : o ≡ p = same-sound o p (and-right (same c d) _ r) in
    cc

abbrev pub Occurs : ℕ → Trees → Bool
Occurs i t = mentions i t

pub first-left : (x y : Trees) → (x ≡ none → ⊥) → first_of x y ≡ x
first-left none y h = absurd (h refl)
first-left (tree l c o) y h = refl

still : (B : Trees) (d i : ℕ) → outer_binder B ≡ 0 → shift 0 d (nth B i) ≡ nth B i
still B d i h = shift-closed 0 d (nth B i) (omega (arith, nth-binder B i h))

-- a single tree in front is what is found there
front : (i j : ℕ) (s : Sort) (c o x y : Trees) → Single x → (i == j) ≡ true → standing_at i (tree (param s j) c o) (x +++ y) ≡ x
front i j s c o none y h e = absurd h
front i j s c o (tree m d p) y h e = rw e (ap (λ z. tree m d z) (sym h))

behind : (i j : ℕ) (s : Sort) (c o x y : Trees) → Single x → (i == j) ≡ false → standing_at i (tree (param s j) c o) (x +++ y) ≡ standing_at i o y
behind i j s c o none y h e = absurd h
behind i j s c o (tree m d p) y h e = rw e (ap (λ z. standing_at i o (z +++ y)) h)

-- without the parameter nothing is found
pub absent-nothing : (B : Trees) (i d : ℕ) (p : Trees) → Occurs i p ≡ false → standing_at i p (instantiate d B p) ≡ none
absent-nothing B i d none h = refl
absent-nothing B i d (tree (param s j) c o) h =
    behind i j s c o (shift 0 d (nth B j)) (instantiate d B o) (single-shift 0 d (nth B j) (single-nth B j)) (or-false-left (i == j) (Occurs i o) h)
    ∙ absent-nothing B i d o (or-false-right (i == j) (Occurs i o) h)
absent-nothing B i d (tree (fn_ptr n) c o) h =
    ap (λ z. first_of z (standing_at i o (instantiate d B o))) (absent-nothing B i (suc d) c (or-false-left (Occurs i c) (Occurs i o) h))
    ∙ absent-nothing B i d o (or-false-right (Occurs i c) (Occurs i o) h)
absent-nothing B i d (tree (principal n j) c o) h =
    ap (λ z. first_of z (standing_at i o (instantiate d B o))) (absent-nothing B i (suc d) c (or-false-left (Occurs i c) (Occurs i o) h))
    ∙ absent-nothing B i d o (or-false-right (Occurs i c) (Occurs i o) h)
absent-nothing B i d (tree l c o) h =
    ap (λ z. first_of z (standing_at i o (instantiate d B o))) (absent-nothing B i d c (or-false-left (Occurs i c) (Occurs i o) h))
    ∙ absent-nothing B i d o (or-false-right (Occurs i c) (Occurs i o) h)

or-l : (a b : Bool) → a ≡ true → a || b ≡ true
or-l true b g = refl
or-l false b g = cc

or-r : (a b : Bool) → b ≡ true → a || b ≡ true
or-r true b g = refl
or-r false b g = g

two : {l : Label} {c c' o o' : Trees} → c ≡ c' → o ≡ o' → tree l c o ≡ tree l c' o'
two p q = cc

pub nth-there : (B : Trees) (i : ℕ) → nth B i ≡ none → ⊥
nth-there B i e = subst Single e (single-nth B i)

-- found on the left, or absent there and found on the right
either : (a b : Bool) (x y n : Trees) → a || b ≡ true → (n ≡ none → ⊥) → (a ≡ true → x ≡ n) → (a ≡ false → x ≡ none) → (b ≡ true → y ≡ n) → first_of x y ≡ n
either true b x y n h t f g k = first-left x y (λ e. t (sym (f refl) ∙ e)) ∙ f refl
either false b x y n h t f g k = rw (g refl) (k h)

-- where the parameter stands, its argument is found
pub present-found : (B : Trees) (i d : ℕ) (p : Trees) → outer_binder B ≡ 0 → Occurs i p ≡ true → standing_at i p (instantiate d B p) ≡ nth B i
present-found B i d none z h = cc
present-found B i d (tree (param s j) c o) z h = by (i == j) refl (λ g. present-found B i d o z g)
  where
    single : Single (shift 0 d (nth B j))
    single = single-shift 0 d (nth B j) (single-nth B j)

    by : (b : Bool) → (i == j) ≡ b → (Occurs i o ≡ true → standing_at i o (instantiate d B o) ≡ nth B i)
        → standing_at i (tree (param s j) c o) (instantiate d B (tree (param s j) c o)) ≡ nth B i
    by true e rest =
        front i j s c o (shift 0 d (nth B j)) (instantiate d B o) single e ∙ still B d j z ∙ ap (nth B) (sym (equal-numbers i j e))
    by false e rest = behind i j s c o (shift 0 d (nth B j)) (instantiate d B o) single e ∙ rest (or-right (i == j) (Occurs i o) h e)
present-found B i d (tree (fn_ptr n) c o) z h =
    either (Occurs i c) (Occurs i o) _ _ (nth B i) h (nth-there B i) (present-found B i (suc d) c z) (absent-nothing B i (suc d) c) (present-found B i d o z)
present-found B i d (tree (principal n j) c o) z h =
    either (Occurs i c) (Occurs i o) _ _ (nth B i) h (nth-there B i) (present-found B i (suc d) c z) (absent-nothing B i (suc d) c) (present-found B i d o z)
present-found B i d (tree l c o) z h =
    either (Occurs i c) (Occurs i o) _ _ (nth B i) h (nth-there B i) (present-found B i d c z) (absent-nothing B i d c) (present-found B i d o z)

standing-single : (i : ℕ) (p t : Trees) → (standing_at i p t ≡ none) ⊎ Single (standing_at i p t)
standing-single i none t = inl refl
standing-single i (tree l c o) none = inl refl
standing-single i (tree (param s j) pc po) (tree m c o) = by (i == j) refl (standing-single i po o)
  where
    by : (b : Bool) → (i == j) ≡ b → (standing_at i po o ≡ none) ⊎ Single (standing_at i po o)
        → (standing_at i (tree (param s j) pc po) (tree m c o) ≡ none) ⊎ Single (standing_at i (tree (param s j) pc po) (tree m c o))
    by true e h = rw e (inr refl)
    by false e h = rw e h
standing-single i (tree l pc po) (tree m c o) = join (standing-single i pc c) (standing-single i po o)
  where
    join : {x y : Trees} → (x ≡ none) ⊎ Single x → (y ≡ none) ⊎ Single y → (first_of x y ≡ none) ⊎ Single (first_of x y)
    join {x = none} (inl e) h = h
    join {x = none} (inr s) h = h
    join {x = tree l' c' o'} (inl e) h = inl e
    join {x = tree l' c' o'} (inr s) h = inr s

one-argument : (i : ℕ) (p t : Trees) → Single (first_of (standing_at i p t) (leaf never))
one-argument i p t = by (standing_at i p t) (standing-single i p t)
  where
    by : (x : Trees) → (x ≡ none) ⊎ Single x → Single (first_of x (leaf never))
    by none h = refl
    by (tree l c o) (inl e) = cc
    by (tree l c o) (inr s) = s

pub nth-arguments : (k n i : ℕ) (p t : Trees) → i < n → nth (arguments_from k n p t) i ≡ first_of (standing_at (k + i) p t) (leaf never)
nth-arguments k zero i p t h = absurd (omega arith)
nth-arguments k (suc n) zero p t h =
    nth-single-zero (first_of (standing_at k p t) (leaf never)) (arguments_from (suc k) n p t) (one-argument k p t)
    ∙ ap (λ z. first_of (standing_at z p t) (leaf never)) (sym (add-zero k))
nth-arguments k (suc n) (suc i) p t h =
    nth-single-suc (first_of (standing_at k p t) (leaf never)) (arguments_from (suc k) n p t) i (one-argument k p t)
    ∙ nth-arguments (suc k) n i p t (omega arith)
    ∙ ap (λ z. first_of (standing_at z p t) (leaf never)) (step k i)
  where
    step : (a b : ℕ) → suc a + b ≡ a + suc b
    step a b = omega arith

-- instantiating asks only for the parameters that occur
pub same-where-asked : (A B : Trees) (d : ℕ) (p : Trees) → ((i : ℕ) → Occurs i p ≡ true → nth A i ≡ nth B i) → instantiate d A p ≡ instantiate d B p
same-where-asked A B d none h = refl
same-where-asked A B d (tree (param s i) c o) h =
    let here : nth A i ≡ nth B i = h i (rw (self-equal i) refl) in
    let rest = same-where-asked A B d o (λ j g. h j (or-intro (j == i) (Occurs j o) g)) in
    ap (λ z. shift 0 d z +++ instantiate d A o) here ∙ ap (λ z. shift 0 d (nth B i) +++ z) rest
  where
    self-equal : (n : ℕ) → (n == n) ≡ true
    self-equal n = grind (arith, nat_tests)

    or-intro : (a b : Bool) → b ≡ true → a || b ≡ true
    or-intro true b g = refl
    or-intro false b g = g
same-where-asked A B d (tree (fn_ptr n) c o) h =
    two (same-where-asked A B (suc d) c (λ j g. h j (or-l (Occurs j c) (Occurs j o) g))) (same-where-asked A B d o (λ j g. h j (or-r (Occurs j c) (Occurs j o) g)))
same-where-asked A B d (tree (principal n k) c o) h =
    two (same-where-asked A B (suc d) c (λ j g. h j (or-l (Occurs j c) (Occurs j o) g))) (same-where-asked A B d o (λ j g. h j (or-r (Occurs j c) (Occurs j o) g)))
same-where-asked A B d (tree l c o) h =
    two (same-where-asked A B d c (λ j g. h j (or-l (Occurs j c) (Occurs j o) g))) (same-where-asked A B d o (λ j g. h j (or-r (Occurs j c) (Occurs j o) g)))
