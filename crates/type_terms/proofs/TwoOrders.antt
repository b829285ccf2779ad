-- An arrangement for any two orders. It exchanges lists that rise by the one and lists that rise by the other, and
-- leaves other lists as they are.
use Rattle.std.proofs.Common.{◌≡◌, ℕ, suc, ◌<◌, Bool, true, false, List, [], ◌∷◌, refl, ap, sym, ◌∙◌, if◌then◌else◌, subst, ◌⊎◌, inl, inr, length, arith, ltb}
use Rattle.std.proofs.lemmas.Bool.Decides.{nat_tests}
use Rattle.type_terms.specs.Promised.Proofs.{In, Every}
use Rattle.type_terms.specs.Promised.Arranging.{Arrangement}
use Rattle.type_terms.specs.Arranging.{RisesBy, AnyTwoOrdersAreArranged}
use Rattle.type_terms.proofs.Members.{here, there, in-cases, in-nothing}
use Rattle.type_terms.proofs.NoHolds.{every-member}
use Rattle.type_terms.proofs.CoreLinked.{less}

above : (a b : ℕ) → ltb a b ≡ false → (a ≡ b → ⊥) → b < a
above a b h g = by (ltb b a) refl
  where
    equal : (a b : ℕ) → ltb a b ≡ false → ltb b a ≡ false → a ≡ b
    equal a b h k = grind (arith, nat_tests)

    by : (c : Bool) → ltb b a ≡ c → b < a
    by true k = less b a k
    by false k = absurd (g (equal a b h k))

not-below : (a : ℕ) → a < a → ⊥
not-below a h = omega (arith, h)

both-ways : (a b : ℕ) → a < b → b < a → ⊥
both-ways a b h k = omega (arith, h, k)

through : (a b c : ℕ) → a < b → b < c → a < c
through a b c h k = omega (arith, h, k)

pub each-of : (P : ℕ → Type 0) (ns : List ℕ) → ((n : ℕ) → In n ns → P n) → Every P ns
each-of P [] f = tt
each-of P (n ∷ ns) f = (f n (here n ns), each-of P ns (λ m h. f m (there m n ns h)))

insert : (ℕ → ℕ) → ℕ → List ℕ → List ℕ
insert κ n [] = n ∷ []
insert κ n (m ∷ ms) = if ltb (κ n) (κ m) then n ∷ m ∷ ms else m ∷ insert κ n ms

sort : (ℕ → ℕ) → List ℕ → List ℕ
sort κ [] = []
sort κ (n ∷ ns) = insert κ n (sort κ ns)

inserted : (κ : ℕ → ℕ) (n x : ℕ) (ms : List ℕ) → In x (insert κ n ms) → (n ≡ x) ⊎ In x ms
unfolding insert
inserted κ n x [] h = in-cases x n [] h
inserted κ n x (m ∷ ms) h = by (ltb (κ n) (κ m)) h (inserted κ n x ms)
  where
    last : (n ≡ x) ⊎ In x ms → (n ≡ x) ⊎ In x (m ∷ ms)
    last (inl e) = inl e
    last (inr k) = inr (there x m ms k)

    next : (m ≡ x) ⊎ In x (insert κ n ms) → (In x (insert κ n ms) → (n ≡ x) ⊎ In x ms) → (n ≡ x) ⊎ In x (m ∷ ms)
    next (inl e) f = inr (subst (λ y. In y (m ∷ ms)) e (here m ms))
    next (inr k) f = last (f k)

    by : (b : Bool) → In x (if b then n ∷ m ∷ ms else m ∷ insert κ n ms) → (In x (insert κ n ms) → (n ≡ x) ⊎ In x ms) → (n ≡ x) ⊎ In x (m ∷ ms)
    by true g f = in-cases x n (m ∷ ms) g
    by false g f = next (in-cases x m (insert κ n ms) g) f

to-insert : (κ : ℕ → ℕ) (n x : ℕ) (ms : List ℕ) → (n ≡ x) ⊎ In x ms → In x (insert κ n ms)
unfolding insert
to-insert κ n x [] (inl e) = subst (λ y. In y (n ∷ [])) e (here n [])
to-insert κ n x [] (inr h) = absurd (in-nothing x h)
to-insert κ n x (m ∷ ms) h = by (ltb (κ n) (κ m)) h (to-insert κ n x ms)
  where
    first : (n ≡ x) ⊎ In x (m ∷ ms) → In x (n ∷ m ∷ ms)
    first (inl e) = subst (λ y. In y (n ∷ m ∷ ms)) e (here n (m ∷ ms))
    first (inr k) = there x n (m ∷ ms) k

    next : (m ≡ x) ⊎ In x ms → ((n ≡ x) ⊎ In x ms → In x (insert κ n ms)) → In x (m ∷ insert κ n ms)
    next (inl e) f = subst (λ y. In y (m ∷ insert κ n ms)) e (here m (insert κ n ms))
    next (inr k) f = there x m (insert κ n ms) (f (inr k))

    later : (n ≡ x) ⊎ In x (m ∷ ms) → ((n ≡ x) ⊎ In x ms → In x (insert κ n ms)) → In x (m ∷ insert κ n ms)
    later (inl e) f = there x m (insert κ n ms) (f (inl e))
    later (inr k) f = next (in-cases x m ms k) f

    by : (b : Bool) → (n ≡ x) ⊎ In x (m ∷ ms) → ((n ≡ x) ⊎ In x ms → In x (insert κ n ms)) → In x (if b then n ∷ m ∷ ms else m ∷ insert κ n ms)
    by true g f = first g
    by false g f = later g f

insert-length : (κ : ℕ → ℕ) (n : ℕ) (ms : List ℕ) → length (insert κ n ms) ≡ suc (length ms)
unfolding insert
insert-length κ n [] = refl
insert-length κ n (m ∷ ms) = by (ltb (κ n) (κ m)) (insert-length κ n ms)
  where
    by : (b : Bool) → length (insert κ n ms) ≡ suc (length ms) → length (if b then n ∷ m ∷ ms else m ∷ insert κ n ms) ≡ suc (suc (length ms))
    by true e = refl
    by false e = ap suc e

sort-in : (κ : ℕ → ℕ) (ns : List ℕ) (x : ℕ) → In x ns → In x (sort κ ns)
unfolding sort
sort-in κ [] x h = h
sort-in κ (n ∷ ns) x h = to-insert κ n x (sort κ ns) (by (in-cases x n ns h) (sort-in κ ns x))
  where
    by : (n ≡ x) ⊎ In x ns → (In x ns → In x (sort κ ns)) → (n ≡ x) ⊎ In x (sort κ ns)
    by (inl e) f = inl e
    by (inr k) f = inr (f k)

in-sort : (κ : ℕ → ℕ) (ns : List ℕ) (x : ℕ) → In x (sort κ ns) → In x ns
unfolding sort
in-sort κ [] x h = h
in-sort κ (n ∷ ns) x h = by (inserted κ n x (sort κ ns) h) (in-sort κ ns x)
  where
    by : (n ≡ x) ⊎ In x (sort κ ns) → (In x (sort κ ns) → In x ns) → In x (n ∷ ns)
    by (inl e) f = subst (λ y. In y (n ∷ ns)) e (here n ns)
    by (inr k) f = there x n ns (f k)

sort-length : (κ : ℕ → ℕ) (ns : List ℕ) → length (sort κ ns) ≡ length ns
unfolding sort
sort-length κ [] = refl
sort-length κ (n ∷ ns) = insert-length κ n (sort κ ns) ∙ ap suc (sort-length κ ns)

OneToOne : (ℕ → ℕ) → Type 0
OneToOne κ = (m n : ℕ) → κ m ≡ κ n → m ≡ n

rises-insert : (κ : ℕ → ℕ) → OneToOne κ → (n : ℕ) (ms : List ℕ) → RisesBy κ ms → (In n ms → ⊥) → RisesBy κ (insert κ n ms)
unfolding insert OneToOne
rises-insert κ one n [] r f = (tt, tt)
rises-insert κ one n (m ∷ ms) r f = by (ltb (κ n) (κ m)) refl (rises-insert κ one n ms r.1 (λ h. f (there n m ms h)))
  where
    next : κ m < κ n → (x : ℕ) → (n ≡ x) ⊎ In x ms → κ m < κ x
    next l x (inl e) = subst (λ y. κ m < κ y) e l
    next l x (inr k) = every-number ms r.0 x k
      where
        every-number : (ks : List ℕ) → Every (λ k. κ m < κ k) ks → (x : ℕ) → In x ks → κ m < κ x
        every-number ks g x h = every-member (λ k. κ m < κ k) ks x g h

    by : (b : Bool) → ltb (κ n) (κ m) ≡ b → RisesBy κ (insert κ n ms) → RisesBy κ (if b then n ∷ m ∷ ms else m ∷ insert κ n ms)
    by true e g = (
      (less (κ n) (κ m) e, each-of (λ k. κ n < κ k) ms (λ k h. through (κ n) (κ m) (κ k) (less (κ n) (κ m) e) (every-member (λ k. κ m < κ k) ms k r.0 h))),
      r,
    )
    by false e g = (
      each-of (λ k. κ m < κ k) (insert κ n ms) (λ k h. next (above (κ n) (κ m) e (λ q. f (subst (λ y. In y (m ∷ ms)) (sym (one n m q)) (here m ms)))) k (inserted κ n k ms h)),
      g,
    )

-- whatever a list rises by, it is sorted by an order
rises-sort : (κ μ : ℕ → ℕ) → OneToOne μ → (ns : List ℕ) → RisesBy κ ns → RisesBy μ (sort μ ns)
unfolding sort
rises-sort κ μ one [] r = tt
rises-sort κ μ one (n ∷ ns) r = rises-insert μ one n (sort μ ns) (rises-sort κ μ one ns r.1) (λ h. not-below (κ n) (every-member (λ m. κ n < κ m) ns n r.0 (in-sort μ ns n h)))

-- two lists that rise by one order and have the same members are one
pub unique : (κ : ℕ → ℕ) (ns ms : List ℕ) → RisesBy κ ns → RisesBy κ ms → ((x : ℕ) → In x ns → In x ms) → ((x : ℕ) → In x ms → In x ns) → ns ≡ ms
unique κ [] [] r s f g = refl
unique κ [] (m ∷ ms) r s f g = absurd (in-nothing m (g m (here m ms)))
unique κ (n ∷ ns) [] r s f g = absurd (in-nothing n (f n (here n ns)))
unique κ (n ∷ ns) (m ∷ ms) r s f g = two heads (unique κ ns ms r.1 s.1 there-in back-in)
  where
    two : {a b : ℕ} {as' bs' : List ℕ} → a ≡ b → as' ≡ bs' → a ∷ as' ≡ b ∷ bs'
    two p q = cc

    meet : (m ≡ n) ⊎ In n ms → (n ≡ m) ⊎ In m ns → n ≡ m
    meet (inl e) k = sym e
    meet (inr h) (inl e) = e
    meet (inr h) (inr k) = absurd (both-ways (κ m) (κ n) (every-member (λ y. κ m < κ y) ms n s.0 h) (every-member (λ y. κ n < κ y) ns m r.0 k))

    heads : n ≡ m
    heads = meet (in-cases n m ms (f n (here n ns))) (in-cases m n ns (g m (here m ms)))

    there-in : (x : ℕ) → In x ns → In x ms
    there-in x h = by (in-cases x m ms (f x (there x n ns h)))
      where
        by : (m ≡ x) ⊎ In x ms → In x ms
        by (inl e) = absurd (not-below (κ n) (subst (λ y. κ n < κ y) (sym (heads ∙ e)) (every-member (λ y. κ n < κ y) ns x r.0 h)))
        by (inr k) = k

    back-in : (x : ℕ) → In x ms → In x ns
    back-in x h = by (in-cases x n ns (g x (there x m ms h)))
      where
        by : (n ≡ x) ⊎ In x ns → In x ns
        by (inl e) = absurd (not-below (κ m) (subst (λ y. κ m < κ y) (sym (sym heads ∙ e)) (every-member (λ y. κ m < κ y) ms x s.0 h)))
        by (inr k) = k

-- a test
abbrev Decided : Type 0 → Type 0
Decided A = A ⊎ (A → ⊥)

below-all : (κ : ℕ → ℕ) (n : ℕ) (ns : List ℕ) → Decided (Every (λ m. κ n < κ m) ns)
below-all κ n [] = inl tt
below-all κ n (m ∷ ns) = by (ltb (κ n) (κ m)) refl (below-all κ n ns)
  where
    not-less : (a b : ℕ) → ltb a b ≡ false → a < b → ⊥
    not-less a b h k = grind (arith, nat_tests)

    by : (b : Bool) → ltb (κ n) (κ m) ≡ b → Decided (Every (λ k. κ n < κ k) ns) → Decided (Every (λ k. κ n < κ k) (m ∷ ns))
    by true e (inl g) = inl (less (κ n) (κ m) e, g)
    by true e (inr g) = inr (λ h. g h.1)
    by false e d = inr (λ h. not-less (κ n) (κ m) e h.0)

rises : (κ : ℕ → ℕ) (ns : List ℕ) → Decided (RisesBy κ ns)
rises κ [] = inl tt
rises κ (n ∷ ns) = by (below-all κ n ns) (rises κ ns)
  where
    by : Decided (Every (λ m. κ n < κ m) ns) → Decided (RisesBy κ ns) → Decided (Every (λ m. κ n < κ m) ns × RisesBy κ ns)
    by (inl f) (inl g) = inl (f, g)
    by (inl f) (inr g) = inr (λ h. g h.1)
    by (inr f) d = inr (λ h. f h.0)

module _ (κ μ : ℕ → ℕ) (k-one : OneToOne κ) (m-one : OneToOne μ) where
  pick : (ns : List ℕ) → Decided (RisesBy κ ns) → Decided (RisesBy μ ns) → List ℕ
  pick ns (inl r) e = sort μ ns
  pick ns (inr r) (inl s) = sort κ ns
  pick ns (inr r) (inr s) = ns

  change : List ℕ → List ℕ
  change ns = pick ns (rises κ ns) (rises μ ns)

  by-first : (ns : List ℕ) → RisesBy κ ns → change ns ≡ sort μ ns
  unfolding change pick
  by-first ns r = by (rises κ ns) (rises μ ns)
    where
      by : (d : Decided (RisesBy κ ns)) (e : Decided (RisesBy μ ns)) → pick ns d e ≡ sort μ ns
      by (inl q) e = refl
      by (inr q) e = absurd (q r)

  by-second : (ns : List ℕ) → (RisesBy κ ns → ⊥) → RisesBy μ ns → change ns ≡ sort κ ns
  unfolding change pick
  by-second ns n s = by (rises κ ns) (rises μ ns)
    where
      by : (d : Decided (RisesBy κ ns)) (e : Decided (RisesBy μ ns)) → pick ns d e ≡ sort κ ns
      by (inl q) e = absurd (n q)
      by (inr q) (inl e) = refl
      by (inr q) (inr e) = absurd (e s)

  by-neither : (ns : List ℕ) → (RisesBy κ ns → ⊥) → (RisesBy μ ns → ⊥) → change ns ≡ ns
  unfolding change pick
  by-neither ns n s = by (rises κ ns) (rises μ ns)
    where
      by : (d : Decided (RisesBy κ ns)) (e : Decided (RisesBy μ ns)) → pick ns d e ≡ ns
      by (inl q) e = absurd (n q)
      by (inr q) (inl e) = absurd (s e)
      by (inr q) (inr e) = refl

  -- sorted there and back
  again : (ν ξ : ℕ → ℕ) → OneToOne ν → OneToOne ξ → (ns : List ℕ) → RisesBy ν ns → sort ν (sort ξ ns) ≡ ns
  again ν ξ one two ns r =
      unique ν (sort ν (sort ξ ns)) ns (rises-sort ξ ν one (sort ξ ns) (rises-sort ν ξ two ns r)) r (λ x h. in-sort ξ ns x (in-sort ν (sort ξ ns) x h))
      (λ x h. sort-in ν (sort ξ ns) x (sort-in ξ ns x h))

  twice : (ns : List ℕ) → change (change ns) ≡ ns
  twice ns = by (rises κ ns) (rises μ ns)
    where
      first : RisesBy κ ns → Decided (RisesBy κ (sort μ ns)) → change (sort μ ns) ≡ ns
      first r (inl q) =
          let same : sort μ ns ≡ ns = unique κ (sort μ ns) ns q r (in-sort μ ns) (sort-in μ ns) in
          by-first (sort μ ns) q ∙ ap (sort μ) same ∙ same
      first r (inr q) = by-second (sort μ ns) q (rises-sort κ μ m-one ns r) ∙ again κ μ k-one m-one ns r

      by : Decided (RisesBy κ ns) → Decided (RisesBy μ ns) → change (change ns) ≡ ns
      by (inl r) e = ap change (by-first ns r) ∙ first r (rises κ (sort μ ns))
      by (inr n) (inl s) = ap change (by-second ns n s) ∙ by-first (sort κ ns) (rises-sort μ κ k-one ns s) ∙ again μ κ m-one k-one ns s
      by (inr n) (inr s) = ap change (by-neither ns n s) ∙ by-neither ns n s

  change-length : (ns : List ℕ) → length (change ns) ≡ length ns
  unfolding change pick
  change-length ns = by (rises κ ns) (rises μ ns)
    where
      by : (d : Decided (RisesBy κ ns)) (e : Decided (RisesBy μ ns)) → length (pick ns d e) ≡ length ns
      by (inl q) e = sort-length μ ns
      by (inr q) (inl e) = sort-length κ ns
      by (inr q) (inr e) = refl

  change-in : (ns : List ℕ) (x : ℕ) → In x ns → In x (change ns)
  unfolding change pick
  change-in ns x h = by (rises κ ns) (rises μ ns)
    where
      by : (d : Decided (RisesBy κ ns)) (e : Decided (RisesBy μ ns)) → In x (pick ns d e)
      by (inl q) e = sort-in μ ns x h
      by (inr q) (inl e) = sort-in κ ns x h
      by (inr q) (inr e) = h

  in-change : (ns : List ℕ) (x : ℕ) → In x (change ns) → In x ns
  in-change ns x h = subst (In x) (twice ns) (change-in (change ns) x h)

  abbrev changed : Arrangement
  changed = record {
    to = change;
    back = change;
    back_to = twice;
    to_back = twice;
    as_long = change-length;
    as_long_back = change-length;
    same_traits = λ ns. (change-in ns, in-change ns);
    same_traits_back = λ ns. (change-in ns, in-change ns);
  }

  rises-changed : (ns : List ℕ) → RisesBy κ ns → RisesBy μ (change ns)
  rises-changed ns r = subst (RisesBy μ) (sym (by-first ns r)) (rises-sort κ μ m-one ns r)

pub any-two-orders : AnyTwoOrdersAreArranged
unfolding OneToOne
any-two-orders κ μ f g = (changed κ μ f g, rises-changed κ μ f g)
