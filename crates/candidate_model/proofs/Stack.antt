-- The stack of supertraits loses none: its fuel is enough, and what is written above what was taken is taken too.
use Rattle.std.proofs.Common.{◌≡◌, ℕ, zero, suc, ◌+◌, ◌≤◌, Bool, true, false, ◌||◌, if◌then◌else◌, List, [], ◌∷◌, ◌++◌, length, ◌⊎◌, inl, inr, refl, sym, ◌∙◌, ap, subst, arith}
use Rattle.type_terms.specs.Promised.Worlds.{World, Reference}
use Rattle.type_terms.specs.Promised.Rules.{same_reference, written_supertraits, strict_supertraits, strict_supertraits_within}
use Rattle.type_terms.specs.Promised.Proofs.{In}
use Rattle.type_terms.proofs.Members.{here, there, in-nothing, in-cases, in-append, in-flat, flat-in, some-member}
use Rattle.type_terms.proofs.Fitting.{same-reference-sound}
use Rattle.declarations.specs.Promised.Elaboration.{is_put, new_of, pushed, off_stack, all_levels, elaborate, supertraits}
use Rattle.candidate_model.specs.Declared.{LeadDown}
use Rattle.declarations.proofs.Levels.{strict-closed, all-closed}
use Rattle.declarations.proofs.Basics.{length-pushed, put-move}
use Rattle.declarations.proofs.Stacks.{pushed-in, new-in}
use Rattle.type_terms.proofs.BooleanBasics.{true-false}
use Rattle.candidate_model.proofs.SoundImpls.{same-one}

put-in : (r : Reference) (rs : List Reference) → is_put r rs ≡ true → In r rs
put-in r rs e = let m = some-member (same_reference r) rs e in subst (λ z. In z rs) (sym (same-reference-sound r m.0 m.2)) m.1

-- ---- how many of a list were not put yet
abbrev missing : List Reference → List Reference → ℕ
missing [] before = 0
missing (x ∷ xs) before = (if is_put x before then 0 else 1) + missing xs before

missing-same : (xs b c : List Reference) → ((x : Reference) → is_put x b ≡ is_put x c) → missing xs b ≡ missing xs c
missing-same [] b c h = refl
missing-same (x ∷ xs) b c h = ap (λ (z : Bool). (if z then 0 else 1) + missing xs b) (h x) ∙ ap (λ n. (if is_put x c then 0 else 1) + n) (missing-same xs b c h)

missing-fewer : (xs b : List Reference) (r : Reference) → missing xs (r ∷ b) ≤ missing xs b
missing-fewer [] b r = omega arith
missing-fewer (x ∷ xs) b r = by (same_reference x r) (is_put x b) (missing-fewer xs b r)
  where
    by : (p q : Bool) → missing xs (r ∷ b) ≤ missing xs b → (if p || q then 0 else 1) + missing xs (r ∷ b) ≤ (if q then 0 else 1) + missing xs b
    by true true h = omega (arith, h)
    by true false h = omega (arith, h)
    by false true h = omega (arith, h)
    by false false h = omega (arith, h)

missing-less : (xs b : List Reference) (r : Reference) → In r xs → is_put r b ≡ false → suc (missing xs (r ∷ b)) ≤ missing xs b
missing-less [] b r i e = absurd (in-nothing r i)
missing-less (x ∷ xs) b r i e = by (in-cases r x xs i) (λ j. missing-less xs b r j e)
  where
    this : (p q : Bool) → p ≡ true → q ≡ false → missing xs (r ∷ b) ≤ missing xs b → suc ((if p || q then 0 else 1) + missing xs (r ∷ b)) ≤ (if q then 0 else 1) + missing xs b
    this true false f g h = omega (arith, h)
    this true true f g h = absurd (true-false g)
    this false q f g h = absurd (true-false (sym f))

    later : (p q : Bool) → suc (missing xs (r ∷ b)) ≤ missing xs b → suc ((if p || q then 0 else 1) + missing xs (r ∷ b)) ≤ (if q then 0 else 1) + missing xs b
    later true true h = omega (arith, h)
    later true false h = omega (arith, h)
    later false true h = omega (arith, h)
    later false false h = omega (arith, h)

    by : (x ≡ r) ⊎ In r xs → (In r xs → suc (missing xs (r ∷ b)) ≤ missing xs b) → suc ((if same_reference x r || is_put x b then 0 else 1) + missing xs (r ∷ b)) ≤ (if is_put x b then 0 else 1) + missing xs b
    by (inl q) go =
        this (same_reference x r) (is_put x b) (subst (λ z. same_reference z r ≡ true) (sym q) (same-one r)) (subst (λ z. is_put z b ≡ false) (sym q) e) (missing-fewer xs b r)
    by (inr j) go = later (same_reference x r) (is_put x b) (go j)

-- each new one was missing
new-fewer : (xs before rs : List Reference) → ((x : Reference) → In x rs → In x xs) → length (new_of before rs) + missing xs (new_of before rs ++ before) ≤ missing xs before
new-fewer xs before [] h = omega arith
new-fewer xs before (r ∷ rs) h = by (is_put r before) refl (new-fewer xs before rs (λ x j. h x (there x r rs j))) (new-fewer xs (r ∷ before) rs (λ x j. h x (there x r rs j)))
  where
    new : List Reference
    new = new_of (r ∷ before) rs

    by : (b : Bool) → is_put r before ≡ b → length (new_of before rs) + missing xs (new_of before rs ++ before) ≤ missing xs before
        → length new + missing xs (new ++ (r ∷ before)) ≤ missing xs (r ∷ before)
        → length (if b then new_of before rs else r ∷ new) + missing xs ((if b then new_of before rs else r ∷ new) ++ before) ≤ missing xs before
    by true e f g = f
    by false e f g =
        let less = missing-less xs before r (h r (here r rs)) e in
        let same : missing xs (r ∷ (new ++ before)) ≡ missing xs (new ++ (r ∷ before)) = missing-same xs (r ∷ (new ++ before)) (new ++ (r ∷ before)) (λ x. put-move x r new before) in
        subst (λ n. suc (length new) + n ≤ missing xs before) (sym same) (omega (arith, less, g))

-- each is new or was put before
in-new : (before rs : List Reference) (x : Reference) → In x rs → In x (new_of before rs) ⊎ In x before
in-new before [] x i = absurd (in-nothing x i)
in-new before (r ∷ rs) x i = by (is_put r before) refl (in-cases x r rs i) (λ j. in-new before rs x j) (λ j. in-new (r ∷ before) rs x j)
  where
    new : List Reference
    new = new_of (r ∷ before) rs

    later : In x new ⊎ In x (r ∷ before) → In x (r ∷ new) ⊎ In x before
    later (inl j) = inl (there x r new j)
    later (inr j) = elim (in-cases x r before j) [ inl q ↦ inl (subst (λ z. In z (r ∷ new)) q (here r new)) | inr k ↦ inr k ]

    by : (b : Bool) → is_put r before ≡ b → (r ≡ x) ⊎ In x rs → (In x rs → In x (new_of before rs) ⊎ In x before) → (In x rs → In x new ⊎ In x (r ∷ before))
        → In x (if b then new_of before rs else r ∷ new) ⊎ In x before
    by true e (inl q) f g = inr (subst (λ z. In z before) q (put-in r before e))
    by true e (inr j) f g = f j
    by false e (inl q) f g = inl (subst (λ z. In z (r ∷ new)) q (here r new))
    by false e (inr j) f g = later (g j)

in-stack : (rs stack : List Reference) (x : Reference) → In x stack → In x (pushed rs stack)
in-stack [] stack x i = i
in-stack (r ∷ rs) stack x i = in-stack rs (r ∷ stack) x (there x r stack i)

in-pushed : (rs stack : List Reference) (x : Reference) → In x rs → In x (pushed rs stack)
in-pushed [] stack x i = absurd (in-nothing x i)
in-pushed (r ∷ rs) stack x i = elim (in-cases x r rs i) [ inl q ↦ in-stack rs (r ∷ stack) x (subst (λ z. In z (r ∷ stack)) q (here r stack)) | inr j ↦ in-pushed rs (r ∷ stack) x j ]

-- ---- off the stack
-- all of the stack is taken, and what is written above what was taken is taken or was put before
record Taken (V : World) (before stack taken : List Reference) : Type 0 where
  all : (x : Reference) → In x stack → In x taken
  closed : (y z : Reference) → In y taken → In z (written_supertraits V y) → In z taken ⊎ In z before

module _ (V : World) (xs : List Reference) (closed : (s t : Reference) → In s xs → In t (written_supertraits V s) → In t xs) where
  taken : (n : ℕ) (before stack : List Reference) → length stack + missing xs before ≤ n → ((x : Reference) → In x stack → In x xs) → Taken V before stack (off_stack n V before stack)
  taken zero before [] h among = record { all = λ x i. i; closed = λ y z i j. absurd (in-nothing y i) }
  taken zero before (r ∷ stack) h among = absurd (omega (arith, h))
  taken (suc n) before [] h among = record { all = λ x i. i; closed = λ y z i j. absurd (in-nothing y i) }
  taken (suc n) before (r ∷ stack) h among =
      let new = new_of before (written_supertraits V r) in
      let rest = taken n (new ++ before) (pushed new stack) enough stack-among in
      record { all = all rest; closed = above rest }
    where
      new : List Reference
      new = new_of before (written_supertraits V r)

      after : List Reference
      after = off_stack n V (new ++ before) (pushed new stack)

      written-among : (x : Reference) → In x (written_supertraits V r) → In x xs
      written-among x i = closed r x (among r (here r stack)) i

      enough : length (pushed new stack) + missing xs (new ++ before) ≤ n
      enough =
          let fewer = new-fewer xs before (written_supertraits V r) written-among in
          let long = length-pushed new stack in
          omega (arith, h, fewer, long)

      stack-among : (x : Reference) → In x (pushed new stack) → In x xs
      stack-among x i = elim (pushed-in new stack x i) [ inl j ↦ written-among x (new-in before (written_supertraits V r) x j) | inr j ↦ among x (there x r stack j) ]

      Rest : Type 0
      Rest = Taken V (new ++ before) (pushed new stack) after

      new-taken : Rest → (x : Reference) → In x new → In x (r ∷ after)
      new-taken rest x i = there x r after (rest.all x (in-pushed new stack x i))

      all : Rest → (x : Reference) → In x (r ∷ stack) → In x (r ∷ after)
      all rest x i = elim (in-cases x r stack i) [ inl q ↦ subst (λ z. In z (r ∷ after)) q (here r after) | inr j ↦ there x r after (rest.all x (in-stack new stack x j)) ]

      later : Rest → (z : Reference) → In z after ⊎ In z (new ++ before) → In z (r ∷ after) ⊎ In z before
      later rest z (inl j) = inl (there z r after j)
      later rest z (inr j) = elim (in-append z new before j) [ inl k ↦ inl (new-taken rest z k) | inr k ↦ inr k ]

      first : Rest → (z : Reference) → In z new ⊎ In z before → In z (r ∷ after) ⊎ In z before
      first rest z (inl k) = inl (new-taken rest z k)
      first rest z (inr k) = inr k

      above : Rest → (y z : Reference) → In y (r ∷ after) → In z (written_supertraits V y) → In z (r ∷ after) ⊎ In z before
      above rest y z i j =
          elim (in-cases y r after i) [
            | inl q ↦ first rest z (in-new before (written_supertraits V r) z (subst (λ w. In z (written_supertraits V w)) (sym q) j))
            | inr k ↦ later rest z (rest.closed y z k j)
          ]

module _ (V : World) (rank : ℕ → ℕ) (down : LeadDown V rank) (rs : List Reference) where
  out : List Reference
  out = elaborate V rs

  start : Taken V (new_of [] rs) (pushed (new_of [] rs) []) (elaborate V rs)
  start = taken V (all_levels V rs) (λ s t i j. all-closed V rank down rs s t i j) (length (all_levels V rs)) (new_of [] rs) (pushed (new_of [] rs) []) enough among
    where
      own : (x : Reference) → In x rs → In x (all_levels V rs)
      own x i = flat-in (λ r. r ∷ strict_supertraits V r) rs x x i (here x (strict_supertraits V x))

      append-nothing : (xs : List Reference) → xs ++ [] ≡ xs
      append-nothing [] = refl
      append-nothing (x ∷ xs) = ap (λ z. x ∷ z) (append-nothing xs)

      all-missing : (xs : List Reference) → missing xs [] ≡ length xs
      all-missing [] = refl
      all-missing (x ∷ xs) = let h = all-missing xs in omega (arith, h)

      enough : length (pushed (new_of [] rs) []) + missing (all_levels V rs) (new_of [] rs) ≤ length (all_levels V rs)
      enough =
          let fewer = subst (λ b. length (new_of [] rs) + missing (all_levels V rs) b ≤ missing (all_levels V rs) []) (append-nothing (new_of [] rs)) (new-fewer (all_levels V rs) [] rs own) in
          let long = length-pushed (new_of [] rs) [] in
          let all = all-missing (all_levels V rs) in
          omega (arith, fewer, long, all)

      among : (x : Reference) → In x (pushed (new_of [] rs) []) → In x (all_levels V rs)
      among x i = elim (pushed-in (new_of [] rs) [] x i) [ inl j ↦ own x (new-in [] rs x j) | inr j ↦ absurd (in-nothing x j) ]

  new-out : (x : Reference) → In x (new_of [] rs) → In x (elaborate V rs)
  new-out x i = start.all x (in-pushed (new_of [] rs) [] x i)

  own-out : (x : Reference) → In x rs → In x (elaborate V rs)
  own-out x i = elim (in-new [] rs x i) [ inl j ↦ new-out x j | inr j ↦ absurd (in-nothing x j) ]

  written-out : (y z : Reference) → In y (elaborate V rs) → In z (written_supertraits V y) → In z (elaborate V rs)
  written-out y z i j = elim (start.closed y z i j) [ inl k ↦ k | inr k ↦ new-out z k ]

  within-out : (n : ℕ) (r s : Reference) → In r (elaborate V rs) → In s (strict_supertraits_within n V r) → In s (elaborate V rs)
  within-out zero r s i j = absurd (in-nothing s j)
  within-out (suc n) r s i j =
      let m = in-flat (λ x. x ∷ strict_supertraits_within n V x) (written_supertraits V r) s j in
      let k = written-out r m.0 i m.1 in
      elim (in-cases s m.0 (strict_supertraits_within n V m.0) m.2) [ inl q ↦ subst (λ z. In z (elaborate V rs)) q k | inr g ↦ within-out n m.0 s k g ]

  -- what stands on some level is taken off the stack
  pub elaborated-all : (s : Reference) → In s (all_levels V rs) → In s (elaborate V rs)
  elaborated-all s i =
      let m = in-flat (λ r. r ∷ strict_supertraits V r) rs s i in
      elim (in-cases s m.0 (strict_supertraits V m.0) m.2) [ inl q ↦ subst (λ z. In z (elaborate V rs)) q (own-out m.0 m.1) | inr g ↦ within-out (length V.traits) m.0 s (own-out m.0 m.1) g ]

-- ---- nothing else comes off
module _ (V : World) (xs : List Reference) (closed : (s t : Reference) → In s xs → In t (written_supertraits V s) → In t xs) where
  off-in : (n : ℕ) (before stack : List Reference) → ((x : Reference) → In x stack → In x xs) → (x : Reference) → In x (off_stack n V before stack) → In x xs
  off-in zero before stack among x i = absurd (in-nothing x i)
  off-in (suc n) before [] among x i = absurd (in-nothing x i)
  off-in (suc n) before (r ∷ stack) among x i =
      let new = new_of before (written_supertraits V r) in
      by (in-cases x r (off_stack n V (new ++ before) (pushed new stack)) i) (λ j. off-in n (new ++ before) (pushed new stack) stack-among x j)
    where
      stack-among : (y : Reference) → In y (pushed (new_of before (written_supertraits V r)) stack) → In y xs
      stack-among y j =
          elim (pushed-in (new_of before (written_supertraits V r)) stack y j) [
            | inl k ↦ closed r y (among r (here r stack)) (new-in before (written_supertraits V r) y k)
            | inr k ↦ among y (there y r stack k)
          ]

      by : (r ≡ x) ⊎ In x (off_stack n V (new_of before (written_supertraits V r) ++ before) (pushed (new_of before (written_supertraits V r)) stack))
          → (In x (off_stack n V (new_of before (written_supertraits V r) ++ before) (pushed (new_of before (written_supertraits V r)) stack)) → In x xs) → In x xs
      by (inl q) go = subst (λ z. In z xs) q (among r (here r stack))
      by (inr j) go = go j

module _ (V : World) (rank : ℕ → ℕ) (down : LeadDown V rank) where
  pub elaborated-only : (rs : List Reference) (s : Reference) → In s (elaborate V rs) → In s (all_levels V rs)
  elaborated-only rs s i = off-in V (all_levels V rs) (λ x t j k. all-closed V rank down rs x t j k) (length (all_levels V rs)) (new_of [] rs) (pushed (new_of [] rs) []) among s i
    where
      among : (x : Reference) → In x (pushed (new_of [] rs) []) → In x (all_levels V rs)
      among x j = elim (pushed-in (new_of [] rs) [] x j) [ inl k ↦ flat-in (λ r. r ∷ strict_supertraits V r) rs x x (new-in [] rs x k) (here x (strict_supertraits V x)) | inr k ↦ absurd (in-nothing x k) ]

  pub supertraits-only : (r s : Reference) → In s (supertraits V r) → In s (strict_supertraits V r)
  supertraits-only r s i =
      off-in V (strict_supertraits V r) (λ x t j k. strict-closed V rank down r x t (there x r (strict_supertraits V r) j) k) (length (strict_supertraits V r ++ []))
      (new_of (r ∷ []) (written_supertraits V r) ++ (r ∷ [])) (pushed (new_of (r ∷ []) (written_supertraits V r)) []) among s i
    where
      among : (x : Reference) → In x (pushed (new_of (r ∷ []) (written_supertraits V r)) []) → In x (strict_supertraits V r)
      among x j =
          elim (pushed-in (new_of (r ∷ []) (written_supertraits V r)) [] x j) [
            | inl k ↦ strict-closed V rank down r r x (here r (strict_supertraits V r)) (new-in (r ∷ []) (written_supertraits V r) x k)
            | inr k ↦ absurd (in-nothing x k)
          ]
