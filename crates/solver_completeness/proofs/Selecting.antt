-- Equality of rule instances up to order and duplicates: for concatenated lists, and for one rule instance for each of some trait
-- references.
use Rattle.std.proofs.Common.{◌≡◌, ◌⊎◌, inl, inr, ℕ, zero, suc, ◌≤◌, arith, Bool, true, false, not, ◌&&◌, ◌==◌, if◌then◌else◌, List, [], ◌∷◌, ◌++◌, map, refl, sym, ◌∙◌, ap, subst}
use Rattle.std.specs.List.{list_any}
use Rattle.type_terms.specs.Codes.{same}
use Rattle.type_terms.specs.Promised.Worlds.{Reference}
use Rattle.type_terms.specs.Promised.Rules.{BuiltIn, row, same_reference, equal_rows}
use Rattle.type_terms.specs.Promised.Proofs.{In}
use Rattle.type_terms.proofs.Members.{here, there, in-cases, in-nothing, in-map, same-number, self-number, some-member, member-some}
use Rattle.type_terms.proofs.Walking.{left, right}
use Rattle.type_terms.proofs.Made.{false-true}
use Rattle.goal_evaluator.specs.Lists.{Every, SomeOf}
use Rattle.goal_evaluator.specs.Content.{Fact}
use Rattle.solver_completeness.specs.Ways.{AtMostOneHolds, IsSelection}
use Rattle.candidate_model.specs.DeclaredWell.{are_distinct}
use Rattle.candidate_model.specs.Facts.{beside}
use Rattle.candidate_model.proofs.ByView.{some-left, some-right}
use Rattle.solver_completeness.specs.SolverWays.{facts_beside, premises_of}
use Rattle.solver_completeness.specs.RowWays.{equal_ways}
use Rattle.solver_completeness.proofs.Equating.{number-swap, same-swap}
use Rattle.goal_evaluator.proofs.Basics.{every-append}

-- ---- lists one after the other
module _ {A : Type 0} (Q : A → Type 0) where
  pub every-left : (xs ys : List A) → Every Q (xs ++ ys) → Every Q xs
  every-left [] ys h = tt
  every-left (x ∷ xs) ys h = (h.0, every-left xs ys h.1)

  pub every-right : (xs ys : List A) → Every Q (xs ++ ys) → Every Q ys
  every-right [] ys h = h
  every-right (x ∷ xs) ys h = every-right xs ys h.1

  pub some-cases : (xs ys : List A) → SomeOf Q (xs ++ ys) → SomeOf Q xs ⊎ SomeOf Q ys
  some-cases [] ys s = inr s
  some-cases (x ∷ xs) ys (inl p) = inl (inl p)
  some-cases (x ∷ xs) ys (inr s) = by (some-cases xs ys s)
    where
      by : SomeOf Q xs ⊎ SomeOf Q ys → SomeOf Q (x ∷ xs) ⊎ SomeOf Q ys
      by (inl t) = inl (inr t)
      by (inr t) = inr t

  pub some-both : (xs ys : List A) → SomeOf Q xs ⊎ SomeOf Q ys → SomeOf Q (xs ++ ys)
  some-both xs ys (inl s) = some-left Q xs ys s
  some-both xs ys (inr s) = some-right Q xs ys s

  pub one-left : (xs ys : List A) → AtMostOneHolds Q (xs ++ ys) → AtMostOneHolds Q xs
  one-left [] ys h = tt
  one-left (x ∷ xs) ys h = (λ p s. h.0 p (some-left Q xs ys s), one-left xs ys h.1)

  pub one-right : (xs ys : List A) → AtMostOneHolds Q (xs ++ ys) → AtMostOneHolds Q ys
  one-right [] ys h = h
  one-right (x ∷ xs) ys h = one-right xs ys h.1

  pub one-cross : (xs ys : List A) → AtMostOneHolds Q (xs ++ ys) → SomeOf Q xs → SomeOf Q ys → ⊥
  one-cross [] ys h s t = s
  one-cross (x ∷ xs) ys h (inl p) t = h.0 p (some-right Q xs ys t)
  one-cross (x ∷ xs) ys h (inr s) t = one-cross xs ys h.1 s t

  pub one-both : (xs ys : List A) → AtMostOneHolds Q xs → AtMostOneHolds Q ys → (SomeOf Q xs → SomeOf Q ys → ⊥) → AtMostOneHolds Q (xs ++ ys)
  one-both [] ys h g c = g
  one-both (x ∷ xs) ys h g c = (λ p s. by p (some-cases xs ys s), one-both xs ys h.1 g (λ s t. c (inr s) t))
    where
      by : Q x → SomeOf Q xs ⊎ SomeOf Q ys → ⊥
      by p (inl s) = h.0 p s
      by p (inr s) = c (inl p) s

pub itself : {F : Type 0} (xs : List (List F)) → IsSelection xs xs
itself xs = record { every = λ P h. h; some = λ P s. s; back = λ P s. s; one = λ P h. h }

pub chained : {F : Type 0} (xs ys zs : List (List F)) → IsSelection xs ys → IsSelection ys zs → IsSelection xs zs
chained xs ys zs f g = record { every = λ P h. f.every P (g.every P h); some = λ P s. f.some P (g.some P s); back = λ P s. g.back P (f.back P s); one = λ P h. f.one P (g.one P h) }

pub map-either : {A B C D : Type 0} → (A → C) → (B → D) → A ⊎ B → C ⊎ D
map-either f g (inl x) = inl (f x)
map-either f g (inr x) = inr (g x)

pub turned : {A B : Type 0} → A ⊎ B → B ⊎ A
turned (inl x) = inr x
turned (inr x) = inl x

pub joined : {F : Type 0} (xs ys zs ws : List (List F)) → IsSelection xs zs → IsSelection ys ws → IsSelection (xs ++ ys) (zs ++ ws)
joined xs ys zs ws f g = record {
  every = λ P h. every-append (Every P) xs ys (f.every P (every-left (Every P) zs ws h)) (g.every P (every-right (Every P) zs ws h));
  some = λ P s. some-both (Every P) xs ys (map-either (f.some P) (g.some P) (some-cases (Every P) zs ws s));
  back = λ P s. some-both (Every P) zs ws (map-either (f.back P) (g.back P) (some-cases (Every P) xs ys s));
  one = λ P h. one-both (Every P) xs ys (f.one P (one-left (Every P) zs ws h)) (g.one P (one-right (Every P) zs ws h)) (λ s t. one-cross (Every P) zs ws h (f.back P s) (g.back P t));
}

pub swapped : {F : Type 0} (xs ys : List (List F)) → IsSelection (xs ++ ys) (ys ++ xs)
swapped xs ys = record {
  every = λ P h. every-append (Every P) xs ys (every-right (Every P) ys xs h) (every-left (Every P) ys xs h);
  some = λ P s. some-both (Every P) xs ys (turned (some-cases (Every P) ys xs s));
  back = λ P s. some-both (Every P) ys xs (turned (some-cases (Every P) xs ys s));
  one = λ P h. one-both (Every P) xs ys (one-right (Every P) ys xs h) (one-left (Every P) ys xs h) (λ s t. one-cross (Every P) ys xs h t s);
}

-- ---- one way so many times
abbrev pub copies : {A : Type 0} → ℕ → A → List A
copies zero x = []
copies (suc n) x = x ∷ copies n x

module _ {A : Type 0} (Q : A → Type 0) (x : A) where
  every-copy : (n : ℕ) → (1 ≤ n → Q x) → Every Q (copies n x)
  every-copy zero h = tt
  every-copy (suc n) h = (h (omega arith), every-copy n (λ l. h (omega arith)))

  of-every : (n : ℕ) → Every Q (copies n x) → 1 ≤ n → Q x
  of-every zero h l = absurd (omega (arith, l))
  of-every (suc n) h l = h.0

  some-copy : (n : ℕ) → 1 ≤ n → Q x → SomeOf Q (copies n x)
  some-copy zero l q = absurd (omega (arith, l))
  some-copy (suc n) l q = inl q

  of-some : (n : ℕ) → SomeOf Q (copies n x) → (1 ≤ n) × Q x
  of-some zero s = absurd s
  of-some (suc n) (inl q) = (omega arith, q)
  of-some (suc n) (inr s) = (omega arith, (of-some n s).1)

  one-copy : (n : ℕ) → (2 ≤ n → Q x → ⊥) → AtMostOneHolds Q (copies n x)
  one-copy zero h = tt
  one-copy (suc n) h = (λ q s. let l = (of-some n s).0 in h (omega (arith, l)) q, one-copy n (λ l q. h (omega (arith, l)) q))

  of-one : (n : ℕ) → AtMostOneHolds Q (copies n x) → 2 ≤ n → Q x → ⊥
  of-one zero h l q = omega (arith, l)
  of-one (suc zero) h l q = omega (arith, l)
  of-one (suc (suc n)) h l q = h.0 q (inl q)

pub copies-select : {F : Type 0} (n k : ℕ) (ps qs : List F) → n ≤ k → (1 ≤ k → 1 ≤ n) → ((P : F → Type 0) → Every P ps → Every P qs) → ((P : F → Type 0) → Every P qs → Every P ps) → IsSelection (copies n ps) (copies k qs)
copies-select n k ps qs less there_are to from = record {
  every = λ P h. every-copy (Every P) ps n (λ l. from P (of-every (Every P) qs k h (omega (arith, l, less))));
  some = λ P s. let x = of-some (Every P) qs k s in some-copy (Every P) ps n (there_are x.0) (from P x.1);
  back = λ P s. let x = of-some (Every P) ps n s in let l = x.0 in some-copy (Every P) qs k (omega (arith, l, less)) (to P x.1);
  one = λ P h. one-copy (Every P) ps n (λ l q. of-one (Every P) qs k h (omega (arith, l, less)) (to P q));
}

-- ---- how many of which a test holds
abbrev pub hits : {A : Type 0} → (A → Bool) → List A → ℕ
hits p [] = 0
hits p (x ∷ xs) = if p x then suc (hits p xs) else hits p xs

hits-like : {A : Type 0} (p q : A → Bool) → ((x : A) → p x ≡ q x) → (xs : List A) → hits p xs ≡ hits q xs
hits-like p q e [] = refl
hits-like p q e (x ∷ xs) = ap (λ (b : Bool). if b then suc (hits p xs) else hits p xs) (e x) ∙ ap (λ n. if q x then suc n else n) (hits-like p q e xs)

pub hits-map : {A B : Type 0} (p : B → Bool) (f : A → B) (xs : List A) → hits p (map f xs) ≡ hits (λ x. p (f x)) xs
hits-map p f [] = refl
hits-map p f (x ∷ xs) = ap (λ n. if p (f x) then suc n else n) (hits-map p f xs)

-- each stands once
abbrev pub AreOnce : {A : Type 0} → List A → Type 0
AreOnce [] = Unit {0}
AreOnce (x ∷ xs) = (In x xs → ⊥) × AreOnce xs

record Without {A : Type 0} (x : A) (ss : List A) : Type 0 where
  rest : List A
  same_hits : (p : A → Bool) → hits p ss ≡ hits p (x ∷ rest)
  keeps : (y : A) → In y ss → (x ≡ y) ⊎ In y rest

without : {A : Type 0} (x : A) (ss : List A) → In x ss → Without x ss
without x [] i = absurd (in-nothing x i)
without x (s ∷ ss) i = by (in-cases x s ss i) (λ j. without x ss j)
  where
    two : (b d : Bool) (n : ℕ) → (if b then suc (if d then suc n else n) else (if d then suc n else n)) ≡ (if d then suc (if b then suc n else n) else (if b then suc n else n))
    two true true n = refl
    two true false n = refl
    two false true n = refl
    two false false n = refl

    kept : (w : Without x ss) (y : _) → (s ≡ y) ⊎ In y ss → (x ≡ y) ⊎ In y (s ∷ w.rest)
    kept w y (inl q) = inr (subst (λ z. In z (s ∷ w.rest)) q (here s w.rest))
    kept w y (inr j) = later (w.keeps y j)
      where
        later : (x ≡ y) ⊎ In y w.rest → (x ≡ y) ⊎ In y (s ∷ w.rest)
        later (inl q) = inl q
        later (inr k) = inr (there y s w.rest k)

    by : (s ≡ x) ⊎ In x ss → (In x ss → Without x ss) → Without x (s ∷ ss)
    by (inl q) go = record { rest = ss; same_hits = λ p. ap (λ z. hits p (z ∷ ss)) q; keeps = λ y j. map-either (λ e. sym q ∙ e) (λ k. k) (in-cases y s ss j) }
    by (inr j) go =
        let w = go j in
        record {
          rest = s ∷ w.rest;
          same_hits = λ p. ap (λ n. if p s then suc n else n) (w.same_hits p) ∙ two (p s) (p x) (hits p w.rest);
          keeps = λ y k. kept w y (in-cases y s ss k);
        }

pub hits-fewer : {A : Type 0} (xs ss : List A) → AreOnce xs → ((x : A) → In x xs → In x ss) → (p : A → Bool) → hits p xs ≤ hits p ss
hits-fewer [] ss once among p = omega arith
hits-fewer (x ∷ xs) ss once among p =
    let w = without x ss (among x (here x xs)) in
    let less = hits-fewer xs w.rest once.1 (λ y i. by y i (w.keeps y (among y (there y x xs i)))) p in
    subst (λ n. hits p (x ∷ xs) ≤ n) (sym (w.same_hits p)) (more (p x) (hits p xs) (hits p w.rest) less)
  where
    by : (y : _) → In y xs → (x ≡ y) ⊎ In y (without x ss (among x (here x xs))).rest → In y (without x ss (among x (here x xs))).rest
    by y i (inl q) = absurd (once.0 (subst (λ z. In z xs) (sym q) i))
    by y i (inr j) = j

    more : (b : Bool) (n k : ℕ) → n ≤ k → (if b then suc n else n) ≤ (if b then suc k else k)
    more true n k l = omega (arith, l)
    more false n k l = l

pub hit : {A : Type 0} (p : A → Bool) (xs : List A) (x : A) → In x xs → p x ≡ true → 1 ≤ hits p xs
hit p [] x i e = absurd (in-nothing x i)
hit p (y ∷ xs) x i e = by (in-cases x y xs i) (p y) refl (λ j. hit p xs x j e)
  where
    by : (y ≡ x) ⊎ In x xs → (b : Bool) → p y ≡ b → (In x xs → 1 ≤ hits p xs) → 1 ≤ (if b then suc (hits p xs) else hits p xs)
    by i true q go = omega arith
    by (inl r) false q go = absurd (false-true (sym q ∙ ap p r ∙ e))
    by (inr j) false q go = go j

pub which : {A : Type 0} (p : A → Bool) (xs : List A) → 1 ≤ hits p xs → (x : A) × In x xs × (p x ≡ true)
which p [] l = absurd (omega (arith, l))
which p (x ∷ xs) l = by (p x) refl l (λ k. which p xs k)
  where
    by : (b : Bool) → p x ≡ b → 1 ≤ (if b then suc (hits p xs) else hits p xs) → (1 ≤ hits p xs → (y : _) × In y xs × (p y ≡ true)) → (y : _) × In y (x ∷ xs) × (p y ≡ true)
    by true q k go = (x, here x xs, q)
    by false q k go = let z = go k in (z.0, there z.0 x xs z.1, z.2)

-- of what stands once, and is one where the test holds, the test holds at most once
pub once-hit : {A : Type 0} (p : A → Bool) (xs : List A) → AreOnce xs → ((x y : A) → p x ≡ true → p y ≡ true → x ≡ y) → hits p xs ≤ 1
once-hit p [] once same_one = omega arith
once-hit p (x ∷ xs) once same_one = by (p x) refl (once-hit p xs once.1 same_one)
  where
    alone : (n : ℕ) → (1 ≤ n → ⊥) → suc n ≤ 1
    alone zero h = omega arith
    alone (suc n) h = absurd (h (omega arith))

    by : (b : Bool) → p x ≡ b → hits p xs ≤ 1 → (if b then suc (hits p xs) else hits p xs) ≤ 1
    by true q l = alone (hits p xs) (λ k. let w = which p xs k in once.0 (subst (λ z. In z xs) (same_one w.0 x w.2 q) w.1))
    by false q l = l

-- ---- one way for each of some references
reference-swap : (r s : Reference) → same_reference r s ≡ same_reference s r
reference-swap r s = ap (λ b. b && same r.args s.args) (sym (number-swap r.trait s.trait (r.trait == s.trait) refl)) ∙ ap (λ b. (s.trait == r.trait) && b) (sym (same-swap r.args s.args (same r.args s.args) refl))

equal-copies : (ps : List Reference) (r : Reference) (ss : List Reference) → equal_ways ps r ss ≡ copies (hits (λ s. same_reference s r) ss) ps
equal-copies ps r [] = refl
equal-copies ps r (s ∷ ss) = by (same_reference s r) (equal-copies ps r ss)
  where
    n : ℕ
    n = hits (λ s. same_reference s r) ss

    by : (b : Bool) → equal_ways ps r ss ≡ copies n ps → (if b then ps ∷ equal_ways ps r ss else equal_ways ps r ss) ≡ copies (if b then suc n else n) ps
    by true e = ap (λ z. ps ∷ z) e
    by false e = e

rows-copies : (b : ℕ → BuiltIn) (ps : List Reference) (r : Reference) (k : ℕ) (ss : List Reference) → premises_of (equal_rows b ps r k ss) ≡ copies (hits (λ s. same_reference r s) ss) ps
rows-copies b ps r k [] = refl
rows-copies b ps r k (s ∷ ss) = by (same_reference r s) (rows-copies b ps r (suc k) ss)
  where
    n : ℕ
    n = hits (λ s. same_reference r s) ss

    by : (d : Bool) → premises_of (equal_rows b ps r (suc k) ss) ≡ copies n ps → premises_of ((if d then row (b k) ps else []) ++ equal_rows b ps r (suc k) ss) ≡ copies (if d then suc n else n) ps
    by true e = ap (λ z. ps ∷ z) e
    by false e = e

pub facts-copies : (g : Fact) (n : ℕ) (ps : List Reference) → facts_beside g (copies n ps) ≡ copies n (map (beside g) ps)
facts-copies g zero ps = refl
facts-copies g (suc n) ps = ap (λ z. map (beside g) ps ∷ z) (facts-copies g n ps)

-- of different traits one at most is the same
distinct-hits : (r : Reference) (ss : List Reference) → are_distinct (map (λ (s : Reference). s.trait) ss) ≡ true → hits (λ s. same_reference s r) ss ≤ 1
distinct-hits r [] e = omega arith
distinct-hits r (s ∷ ss) e = by (same_reference s r) refl (distinct-hits r ss (right (not (list_any (λ k. k == s.trait) ts)) (are_distinct ts) e))
  where
    ts : List ℕ
    ts = map (λ (x : Reference). x.trait) ss

    traits-are : (x : Reference) → same_reference x r ≡ true → x.trait ≡ r.trait
    traits-are x q = same-number x.trait r.trait (left (x.trait == r.trait) (same x.args r.args) q)

    none-else : same_reference s r ≡ true → 1 ≤ hits (λ x. same_reference x r) ss → ⊥
    none-else q l =
        let w = which (λ x. same_reference x r) ss l in
        let again : list_any (λ k. k == s.trait) ts ≡ true
        = member-some (λ k. k == s.trait) ts w.0.trait (in-map (λ (x : Reference). x.trait) ss w.0 w.1) (subst (λ k. (w.0.trait == k) ≡ true) (traits-are w.0 w.2 ∙ sym (traits-are s q)) (self-number w.0.trait)) in
        not-true (list_any (λ k. k == s.trait) ts) (left (not (list_any (λ k. k == s.trait) ts)) (are_distinct ts) e) again
      where
        not-true : (b : Bool) → not b ≡ true → b ≡ true → ⊥
        not-true true f h = false-true f
        not-true false f h = false-true h

    by : (b : Bool) → same_reference s r ≡ b → hits (λ x. same_reference x r) ss ≤ 1 → (if b then suc (hits (λ x. same_reference x r) ss) else hits (λ x. same_reference x r) ss) ≤ 1
    by false q l = l
    by true q l = at-most (hits (λ x. same_reference x r) ss) (none-else q)
      where
        at-most : (n : ℕ) → (1 ≤ n → ⊥) → suc n ≤ 1
        at-most zero h = omega arith
        at-most (suc n) h = absurd (h (omega arith))

module _ (g : Fact) (ps qs : List Reference) (to : (P : Fact → Type 0) → Every P (map (beside g) ps) → Every P (map (beside g) qs)) (from : (P : Fact → Type 0) → Every P (map (beside g) qs) → Every P (map (beside g) ps)) where
  -- references that stand once select the same references with repeats
  pub rows-select : (read : Reference → Reference) (r : Reference) (rs ss : List Reference) → AreOnce rs → ((x : Reference) → In x rs → In x ss) → ((x : Reference) → In x ss → same_reference (read x) r ≡ true → In x rs)
      → (b : ℕ → BuiltIn) (k : ℕ) → IsSelection (facts_beside g (equal_ways ps r (map read rs))) (facts_beside g (premises_of (equal_rows b qs r k (map read ss))))
  rows-select read r rs ss once among all b k =
      subst (λ z. IsSelection z (facts_beside g (premises_of (equal_rows b qs r k (map read ss))))) (sym (ap (facts_beside g) (equal-copies ps r (map read rs) ∙ ap (λ n. copies n ps) (hits-map is_r read rs)) ∙ facts-copies g (hits (λ x. is_r (read x)) rs) ps))
      (subst (IsSelection (copies (hits (λ x. is_r (read x)) rs) (map (beside g) ps)))
      (sym (ap (facts_beside g) (rows-copies b qs r k (map read ss) ∙ ap (λ n. copies n qs) (hits-like (λ s. same_reference r s) is_r (λ s. reference-swap r s) (map read ss) ∙ hits-map is_r read ss))
      ∙ facts-copies g (hits (λ x. is_r (read x)) ss) qs))
      (copies-select (hits (λ x. is_r (read x)) rs) (hits (λ x. is_r (read x)) ss) (map (beside g) ps) (map (beside g) qs) (hits-fewer rs ss once among (λ x. is_r (read x)))
      (λ l. let x = which (λ x. is_r (read x)) ss l in hit (λ x. is_r (read x)) rs x.0 (all x.0 x.1 x.2) x.2) to from))
    where
      is_r : Reference → Bool
      is_r s = same_reference s r

  -- and references of different traits select one way for all that are the same
  pub any-select : (r : Reference) (ss : List Reference) → are_distinct (map (λ (s : Reference). s.trait) ss) ≡ true → (b : BuiltIn)
      → IsSelection (facts_beside g (equal_ways ps r ss)) (facts_beside g (premises_of (if list_any (same_reference r) ss then row b qs else [])))
  any-select r ss distinct b =
      subst (λ z. IsSelection z (facts_beside g (premises_of (if list_any (same_reference r) ss then row b qs else [])))) (sym (ap (facts_beside g) (equal-copies ps r ss) ∙ facts-copies g n ps))
      (by (list_any (same_reference r) ss) refl)
    where
      n : ℕ
      n = hits (λ s. same_reference s r) ss

      some-hit : list_any (same_reference r) ss ≡ true → 1 ≤ n
      some-hit e = let m = some-member (same_reference r) ss e in hit (λ s. same_reference s r) ss m.0 m.1 (sym (reference-swap r m.0) ∙ m.2)

      no-hit : list_any (same_reference r) ss ≡ false → 1 ≤ n → ⊥
      no-hit e l = let w = which (λ s. same_reference s r) ss l in false-true (sym e ∙ member-some (same_reference r) ss w.0 w.1 (reference-swap r w.0 ∙ w.2))

      is-none : (k : ℕ) → (1 ≤ k → ⊥) → k ≤ 0
      is-none zero h = omega arith
      is-none (suc k) h = absurd (h (omega arith))

      by : (d : Bool) → list_any (same_reference r) ss ≡ d → IsSelection (copies n (map (beside g) ps)) (facts_beside g (premises_of (if d then row b qs else [])))
      by true e = copies-select n 1 (map (beside g) ps) (map (beside g) qs) (distinct-hits r ss distinct) (λ l. some-hit e) to from
      by false e = copies-select n 0 (map (beside g) ps) (map (beside g) qs) (is-none n (no-hit e)) (λ l. absurd (omega (arith, l))) to from
