-- Lists of bytes that are cut at a byte.
use Rattle.std.proofs.Common.{◌≡◌, ℕ, Bool, true, false, not, ◌&&◌, ◌==◌, if◌then◌else◌, List, [], ◌∷◌, ◌++◌, refl, sym, ap, ◌∙◌, subst, arith}
use Rattle.std.specs.List.{list_all}

-- the list holds no c
abbrev pub Lacks : ℕ → List ℕ → Type 0
Lacks c u = list_all (λ b. not (b == c)) u ≡ true

-- what stands before the first c, and what stands behind it
abbrev pub upto : ℕ → List ℕ → List ℕ
upto c [] = []
upto c (b ∷ bs) = if b == c then [] else b ∷ upto c bs

abbrev pub past : ℕ → List ℕ → List ℕ
past c [] = []
past c (b ∷ bs) = if b == c then bs else past c bs

pub same-byte : (c : ℕ) → (c == c) ≡ true
same-byte c = grind arith

-- the head of a list without c isn't c, and the rest has none
pub head-lacks : (p q : Bool) → (not p && q) ≡ true → p ≡ false
head-lacks true q h = cc
head-lacks false q h = refl

pub tail-lacks : (p q : Bool) → (not p && q) ≡ true → q ≡ true
tail-lacks true q h = cc
tail-lacks false q h = h

module _ (c : ℕ) where
  pub upto-cut : (u x : List ℕ) → Lacks c u → upto c (u ++ c ∷ x) ≡ u
  upto-cut [] x h = rw (same-byte c) refl
  upto-cut (b ∷ u) x h =
      let p : (b == c) ≡ false = head-lacks (b == c) _ h in
      rw p (ap (λ v. b ∷ v) (upto-cut u x (tail-lacks (b == c) _ h)))

  pub past-cut : (u x : List ℕ) → Lacks c u → past c (u ++ c ∷ x) ≡ x
  past-cut [] x h = rw (same-byte c) refl
  past-cut (b ∷ u) x h =
      let p : (b == c) ≡ false = head-lacks (b == c) _ h in
      rw p (past-cut u x (tail-lacks (b == c) _ h))

  pub upto-end : (u : List ℕ) → Lacks c u → upto c u ≡ u
  upto-end [] h = refl
  upto-end (b ∷ u) h =
      let p : (b == c) ≡ false = head-lacks (b == c) _ h in
      rw p (ap (λ v. b ∷ v) (upto-end u (tail-lacks (b == c) _ h)))

  pub past-end : (u : List ℕ) → Lacks c u → past c u ≡ []
  past-end [] h = refl
  past-end (b ∷ u) h =
      let p : (b == c) ≡ false = head-lacks (b == c) _ h in
      rw p (past-end u (tail-lacks (b == c) _ h))

  -- two lists without c that are followed by one are equal where the whole is
  pub cut-first : (u v x y : List ℕ) → Lacks c u → Lacks c v → u ++ c ∷ x ≡ v ++ c ∷ y → (u ≡ v) × (x ≡ y)
  cut-first u v x y h k e = (sym (upto-cut u x h) ∙ ap (upto c) e ∙ upto-cut v y k, sym (past-cut u x h) ∙ ap (past c) e ∙ past-cut v y k)

  -- a list without c has none in its midst
  pub no-midst : (x u : List ℕ) → Lacks c (x ++ c ∷ u) → ⊥
  no-midst [] u h =
      let p : (c == c) ≡ false = head-lacks (c == c) _ h in
      let q = same-byte c in cc
  no-midst (b ∷ x) u h = no-midst x u (tail-lacks (b == c) _ h)

  -- two lists without c that stand behind one are equal where the whole is
  pub cut-last : (x y u v : List ℕ) → Lacks c u → Lacks c v → x ++ c ∷ u ≡ y ++ c ∷ v → (x ≡ y) × (u ≡ v)
  cut-last [] [] u v h k e = (refl, cc)
  cut-last [] (b ∷ y) u v h k e =
      let p : u ≡ y ++ c ∷ v = cc in absurd (no-midst y v (subst (Lacks c) p h))
  cut-last (a ∷ x) [] u v h k e =
      let p : v ≡ x ++ c ∷ u = cc in absurd (no-midst x u (subst (Lacks c) p k))
  cut-last (a ∷ x) (b ∷ y) u v h k e =
      let p : x ++ c ∷ u ≡ y ++ c ∷ v = cc in
      let q = cut-last x y u v h k p in
      let r : x ≡ y = q.0 in
      (cc, q.1)
