-- Elaboration has no duplicates.
use Rattle.std.proofs.Common.{◌≡◌, ◌⊎◌, inl, inr, ℕ, zero, suc, Bool, true, false, ◌||◌, if◌then◌else◌, List, [], ◌∷◌, ◌++◌, length, refl, sym, ◌∙◌, subst}
use Rattle.type_terms.specs.Promised.Worlds.{World, Reference}
use Rattle.type_terms.specs.Promised.Rules.{same_reference, written_supertraits}
use Rattle.type_terms.specs.Promised.Proofs.{In}
use Rattle.type_terms.proofs.Members.{here, there, in-cases, in-nothing, in-left, in-right, some-member, member-some}
use Rattle.type_terms.proofs.Made.{false-true}
use Rattle.declarations.specs.Promised.Elaboration.{is_put, new_of, pushed, off_stack, all_levels, elaborate, rest_of, supertraits}
use Rattle.declarations.proofs.Stacks.{pushed-in}
use Rattle.candidate_model.proofs.SoundImpls.{same-one}
use Rattle.solver_completeness.proofs.Selecting.{AreOnce}

or-right : (b d : Bool) → (b || d) ≡ false → d ≡ false
or-right true d e = absurd (false-true (sym e))
or-right false d e = e

-- ---- what was put before
put-in : (x : Reference) (rs : List Reference) → In x rs → is_put x rs ≡ true
put-in x rs i = member-some (same_reference x) rs x i (same-one x)

put-more : (x : Reference) (ys rs : List Reference) → is_put x rs ≡ true → is_put x (ys ++ rs) ≡ true
put-more x ys rs e = let m = some-member (same_reference x) rs e in member-some (same_reference x) (ys ++ rs) m.0 (in-right m.0 ys rs m.1) m.2

put-less : (x : Reference) (ys rs : List Reference) → is_put x (ys ++ rs) ≡ false → is_put x rs ≡ false
put-less x ys rs e = by (is_put x rs) refl
  where
    by : (b : Bool) → is_put x rs ≡ b → b ≡ false
    by false q = refl
    by true q = absurd (false-true (sym e ∙ put-more x ys rs q))

-- ---- those that are new
new-fresh : (before rs : List Reference) (x : Reference) → In x (new_of before rs) → is_put x before ≡ false
new-fresh before [] x i = absurd (in-nothing x i)
new-fresh before (r ∷ rs) x i = by (is_put r before) refl i (λ j. new-fresh before rs x j) (λ j. new-fresh (r ∷ before) rs x j)
  where
    by : (b : Bool) → is_put r before ≡ b → In x (if b then new_of before rs else r ∷ new_of (r ∷ before) rs) → (In x (new_of before rs) → is_put x before ≡ false) → (In x (new_of (r ∷ before) rs) → is_put x (r ∷ before) ≡ false)
        → is_put x before ≡ false
    by true e j f g = f j
    by false e j f g = either (in-cases x r (new_of (r ∷ before) rs) j)
      where
        either : (r ≡ x) ⊎ In x (new_of (r ∷ before) rs) → is_put x before ≡ false
        either (inl q) = subst (λ z. is_put z before ≡ false) q e
        either (inr k) = or-right (same_reference x r) (is_put x before) (g k)

new-once : (before rs : List Reference) → AreOnce (new_of before rs)
new-once before [] = tt
new-once before (r ∷ rs) = by (is_put r before) (new-once before rs) (new-once (r ∷ before) rs)
  where
    by : (b : Bool) → AreOnce (new_of before rs) → AreOnce (new_of (r ∷ before) rs) → AreOnce (if b then new_of before rs else r ∷ new_of (r ∷ before) rs)
    by true f g = f
    by false f g = (λ i. false-true (sym (new-fresh (r ∷ before) rs r i) ∙ put-in r (r ∷ before) (here r before)), g)

pushed-once : (rs stack : List Reference) → AreOnce rs → AreOnce stack → ((x : Reference) → In x rs → In x stack → ⊥) → AreOnce (pushed rs stack)
pushed-once [] stack o p apart = p
pushed-once (r ∷ rs) stack o p apart = pushed-once rs (r ∷ stack) o.1 (λ i. apart r (here r rs) i, p) (λ x i j. by x i (in-cases x r stack j))
  where
    by : (x : Reference) → In x rs → (r ≡ x) ⊎ In x stack → ⊥
    by x i (inl q) = o.0 (subst (λ z. In z rs) (sym q) i)
    by x i (inr k) = apart x (there x r rs i) k

-- ---- the stack
module _ (V : World) where
  off-from : (n : ℕ) (before stack : List Reference) (x : Reference) → In x (off_stack n V before stack) → In x stack ⊎ (is_put x before ≡ false)
  off-from zero before stack x i = absurd (in-nothing x i)
  off-from (suc n) before [] x i = absurd (in-nothing x i)
  off-from (suc n) before (r ∷ stack) x i = by (in-cases x r (off_stack n V (new ++ before) (pushed new stack)) i) (λ j. off-from n (new ++ before) (pushed new stack) x j)
    where
      new : List Reference
      new = new_of before (written_supertraits V r)

      later : In x (pushed new stack) ⊎ (is_put x (new ++ before) ≡ false) → In x (r ∷ stack) ⊎ (is_put x before ≡ false)
      later (inl k) = either (pushed-in new stack x k)
        where
          either : In x new ⊎ In x stack → In x (r ∷ stack) ⊎ (is_put x before ≡ false)
          either (inl j) = inr (new-fresh before (written_supertraits V r) x j)
          either (inr j) = inl (there x r stack j)
      later (inr e) = inr (put-less x new before e)

      by : (r ≡ x) ⊎ In x (off_stack n V (new ++ before) (pushed new stack)) → (In x (off_stack n V (new ++ before) (pushed new stack)) → In x (pushed new stack) ⊎ (is_put x (new ++ before) ≡ false))
          → In x (r ∷ stack) ⊎ (is_put x before ≡ false)
      by (inl q) go = inl (subst (λ z. In z (r ∷ stack)) q (here r stack))
      by (inr j) go = later (go j)

  off-once : (n : ℕ) (before stack : List Reference) → AreOnce stack → ((x : Reference) → In x stack → is_put x before ≡ true) → AreOnce (off_stack n V before stack)
  off-once zero before stack o put = tt
  off-once (suc n) before [] o put = tt
  off-once (suc n) before (r ∷ stack) o put = (
    λ i. never (off-from n (new ++ before) (pushed new stack) r i),
    off-once n (new ++ before) (pushed new stack)
        (pushed-once new stack (new-once before (written_supertraits V r)) o.1 (λ x i j. false-true (sym (new-fresh before (written_supertraits V r) x i) ∙ put x (there x r stack j))))
        (λ x i. either x (pushed-in new stack x i)),
  )
    where
      new : List Reference
      new = new_of before (written_supertraits V r)

      never : In r (pushed new stack) ⊎ (is_put r (new ++ before) ≡ false) → ⊥
      never (inl k) = by (pushed-in new stack r k)
        where
          by : In r new ⊎ In r stack → ⊥
          by (inl j) = false-true (sym (new-fresh before (written_supertraits V r) r j) ∙ put r (here r stack))
          by (inr j) = o.0 j
      never (inr e) = false-true (sym e ∙ put-more r new before (put r (here r stack)))

      either : (x : Reference) → In x new ⊎ In x stack → is_put x (new ++ before) ≡ true
      either x (inl j) = put-in x (new ++ before) (in-left x new before j)
      either x (inr j) = put-more x new before (put x (there x r stack j))

  pub elaborated-once : (rs : List Reference) → AreOnce (elaborate V rs)
  elaborated-once rs =
      off-once (length (all_levels V rs)) (new_of [] rs) (pushed (new_of [] rs) []) (pushed-once (new_of [] rs) [] (new-once [] rs) tt (λ x i j. in-nothing x j)) (λ x i. by x (pushed-in (new_of [] rs) [] x i))
    where
      by : (x : Reference) → In x (new_of [] rs) ⊎ In x [] → is_put x (new_of [] rs) ≡ true
      by x (inl j) = put-in x (new_of [] rs) j
      by x (inr j) = absurd (in-nothing x j)

  rest-once : (rs : List Reference) → AreOnce rs → AreOnce (rest_of rs)
  rest-once [] o = tt
  rest-once (r ∷ rs) o = o.1

  pub supertraits-once : (r : Reference) → AreOnce (supertraits V r)
  supertraits-once r = rest-once (elaborate V (r ∷ [])) (elaborated-once (r ∷ []))
