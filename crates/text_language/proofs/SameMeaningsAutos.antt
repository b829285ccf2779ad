-- The auto traits of a `dyn`: inserting them by their numbers from the left or from the right gives the same list.
use Rattle.std.proofs.Common.{◌≡◌, ℕ, suc, ◌<◌, ◌≤◌, Bool, true, false, List, [], ◌∷◌, ◌++◌, refl, sym, ap, ◌∙◌, subst, arith, cond}
use Rattle.std.proofs.lemmas.Bool.{lt-ltb, ltb-true, le-ltb, ltb-false, eqb-true, eq-eqb}
use Rattle.std.specs.Prelude.{if◌then◌else◌, nat_lt, filter, ◌==◌}
use Rattle.text_language.specs.Lowering.{inserted}

-- ---- one number put in
data Order (a b : ℕ) : Type 0 where
  below : a < b → Order a b
  same : a ≡ b → Order a b
  above : b < a → Order a b

order : (a b : ℕ) → Order a b
order a b = by (nat_lt a b) (nat_lt b a) refl refl
  where
    by : (x y : Bool) → nat_lt a b ≡ x → nat_lt b a ≡ y → Order a b
    by true y e f = below (ltb-true a b e)
    by false true e f = above (ltb-true b a f)
    by false false e f = same (omega (arith, ltb-false a b e, ltb-false b a f))

unequal : (a b : ℕ) → (a ≡ b → ⊥) → (a == b) ≡ false
unequal a b h = by (a == b) refl
  where
    by : (x : Bool) → (a == b) ≡ x → x ≡ false
    by false e = refl
    by true e = absurd (h (eqb-true a b e))

-- the three cases of `inserted`
put : (a m : ℕ) (ms : List ℕ) (x y : Bool) → List ℕ
put a m ms x y = if x then m ∷ ms else (if y then a ∷ m ∷ ms else m ∷ inserted a ms)

put-below : (a m : ℕ) (ms : List ℕ) → a < m → inserted a (m ∷ ms) ≡ a ∷ m ∷ ms
unfolding put
put-below a m ms h = ap (λ x. put a m ms x (nat_lt a m)) (unequal a m (λ e. omega (arith, e))) ∙ ap (put a m ms false) (lt-ltb a m h)

put-same : (a m : ℕ) (ms : List ℕ) → a ≡ m → inserted a (m ∷ ms) ≡ m ∷ ms
unfolding put
put-same a m ms h = ap (λ x. put a m ms x (nat_lt a m)) (eq-eqb a m h)

put-above : (a m : ℕ) (ms : List ℕ) → m < a → inserted a (m ∷ ms) ≡ m ∷ inserted a ms
unfolding put
put-above a m ms h = ap (λ x. put a m ms x (nat_lt a m)) (unequal a m (λ e. omega (arith, e))) ∙ ap (put a m ms false) (le-ltb a m (omega arith))

-- ---- two numbers put in, in either order
turned : (a b : ℕ) → a < b → (ms : List ℕ) → inserted a (inserted b ms) ≡ inserted b (inserted a ms)
turned a b h [] = put-below a b [] h ∙ sym (put-above b a [] h)
turned a b h (m ∷ ms) = by (order a m) (order b m) (turned a b h ms)
  where
    by : Order a m → Order b m → inserted a (inserted b ms) ≡ inserted b (inserted a ms) → inserted a (inserted b (m ∷ ms)) ≡ inserted b (inserted a (m ∷ ms))
    by (below e) (below f) r =
        ap (inserted a) (put-below b m ms f) ∙ put-below a b (m ∷ ms) h ∙ ap (λ ns. a ∷ ns) (sym (put-below b m ms f)) ∙ sym (put-above b a (m ∷ ms) h) ∙ ap (inserted b) (sym (put-below a m ms e))
    by (below e) (same f) r =
        ap (inserted a) (put-same b m ms f) ∙ put-below a m ms e ∙ ap (λ ns. a ∷ ns) (sym (put-same b m ms f)) ∙ sym (put-above b a (m ∷ ms) h) ∙ ap (inserted b) (sym (put-below a m ms e))
    by (below e) (above f) r =
        ap (inserted a) (put-above b m ms f) ∙ put-below a m (inserted b ms) e ∙ ap (λ ns. a ∷ ns) (sym (put-above b m ms f)) ∙ sym (put-above b a (m ∷ ms) h) ∙ ap (inserted b) (sym (put-below a m ms e))
    by (same e) f r =
        let g : m < b = omega (arith, e, h) in
        ap (inserted a) (put-above b m ms g) ∙ put-same a m (inserted b ms) e ∙ sym (put-above b m ms g) ∙ ap (inserted b) (sym (put-same a m ms e))
    by (above e) f r =
        let g : m < b = omega (arith, e, h) in
        ap (inserted a) (put-above b m ms g) ∙ put-above a m (inserted b ms) e ∙ ap (λ ns. m ∷ ns) r ∙ sym (put-above b m (inserted a ms) g) ∙ ap (inserted b) (sym (put-above a m ms e))

pub either-order : (a b : ℕ) (ms : List ℕ) → inserted a (inserted b ms) ≡ inserted b (inserted a ms)
either-order a b ms = by (order a b)
  where
    by : Order a b → inserted a (inserted b ms) ≡ inserted b (inserted a ms)
    by (below h) = turned a b h ms
    by (same h) = subst (λ x. inserted a (inserted x ms) ≡ inserted x (inserted a ms)) h refl
    by (above h) = sym (turned b a h ms)

-- ---- numbers that rise, from k on
abbrev pub Rises : ℕ → List ℕ → Type 0
Rises k [] = Unit {0}
Rises k (m ∷ ms) = (k ≤ m) × Rises (suc m) ms

pub put-rises : (a k : ℕ) (ms : List ℕ) → k ≤ a → Rises k ms → Rises k (inserted a ms)
put-rises a k [] h r = (h, tt)
put-rises a k (m ∷ ms) h r = by (order a m) (λ g. put-rises a (suc m) ms g r.1)
  where
    by : Order a m → (suc m ≤ a → Rises (suc m) (inserted a ms)) → Rises k (inserted a (m ∷ ms))
    by (below e) g = subst (Rises k) (sym (put-below a m ms e)) (h, (omega (arith, e), r.1))
    by (same e) g = subst (Rises k) (sym (put-same a m ms e)) r
    by (above e) g = subst (Rises k) (sym (put-above a m ms e)) (r.0, g (omega (arith, e)))

-- the smaller numbers, this, and the greater
abbrev pub between : ℕ → List ℕ → List ℕ
between a ms = filter (λ m. nat_lt m a) ms ++ a ∷ filter (nat_lt a) ms

none-smaller : (a k : ℕ) (ms : List ℕ) → a ≤ k → Rises k ms → filter (λ m. nat_lt m a) ms ≡ []
none-smaller a k [] h r = refl
none-smaller a k (m ∷ ms) h r =
    ap (λ b. cond b (m ∷ filter (λ x. nat_lt x a) ms) (filter (λ x. nat_lt x a) ms)) (le-ltb m a (omega (arith, r.0))) ∙ none-smaller a (suc m) ms (omega (arith, r.0)) r.1

all-greater : (a k : ℕ) (ms : List ℕ) → a < k → Rises k ms → filter (nat_lt a) ms ≡ ms
all-greater a k [] h r = refl
all-greater a k (m ∷ ms) h r =
    ap (λ b. cond b (m ∷ filter (nat_lt a) ms) (filter (nat_lt a) ms)) (lt-ltb a m (omega (arith, r.0))) ∙ ap (λ ns. m ∷ ns) (all-greater a (suc m) ms (omega (arith, r.0)) r.1)

pub between-is : (a k : ℕ) (ms : List ℕ) → Rises k ms → between a ms ≡ inserted a ms
between-is a k [] r = refl
between-is a k (m ∷ ms) r = by (order a m) (between-is a (suc m) ms r.1)
  where
    split : (x y : Bool) → nat_lt m a ≡ x → nat_lt a m ≡ y → between a (m ∷ ms) ≡ cond x (m ∷ filter (λ z. nat_lt z a) ms) (filter (λ z. nat_lt z a) ms) ++ a ∷ cond y (m ∷ filter (nat_lt a) ms) (filter (nat_lt a) ms)
    split x y e f =
        ap (λ b. cond b (m ∷ filter (λ z. nat_lt z a) ms) (filter (λ z. nat_lt z a) ms) ++ a ∷ cond (nat_lt a m) (m ∷ filter (nat_lt a) ms) (filter (nat_lt a) ms)) e
        ∙ ap (λ b. cond x (m ∷ filter (λ z. nat_lt z a) ms) (filter (λ z. nat_lt z a) ms) ++ a ∷ cond b (m ∷ filter (nat_lt a) ms) (filter (nat_lt a) ms)) f

    by : Order a m → between a ms ≡ inserted a ms → between a (m ∷ ms) ≡ inserted a (m ∷ ms)
    by (below e) g =
        split false true (le-ltb m a (omega (arith, e))) (lt-ltb a m e)
        ∙ ap (λ ns. ns ++ a ∷ m ∷ filter (nat_lt a) ms) (none-smaller a (suc m) ms (omega (arith, e)) r.1)
        ∙ ap (λ ns. a ∷ m ∷ ns) (all-greater a (suc m) ms (omega (arith, e)) r.1)
        ∙ sym (put-below a m ms e)
    by (same e) g =
        split false false (le-ltb m a (omega (arith, e))) (le-ltb a m (omega (arith, e)))
        ∙ ap (λ ns. ns ++ a ∷ filter (nat_lt a) ms) (none-smaller a (suc m) ms (omega (arith, e)) r.1)
        ∙ ap (λ ns. a ∷ ns) (all-greater a (suc m) ms (omega (arith, e)) r.1)
        ∙ ap (λ x. x ∷ ms) e
        ∙ sym (put-same a m ms e)
    by (above e) g =
        split true false (lt-ltb m a e) (le-ltb a m (omega (arith, e)))
        ∙ ap (λ ns. m ∷ ns) g
        ∙ sym (put-above a m ms e)
