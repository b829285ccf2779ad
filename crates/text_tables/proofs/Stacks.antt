-- The stack, whose last item in the vector is on top.
use Rattle.std.proofs.Common.{◌≡◌, ◌↔◌, ℕ, zero, suc, ◌+◌, ◌-◌, ◌<◌, Bool, true, List, [], ◌∷◌, ◌++◌, length, map, Option, Some, None, IsSome, refl, sym, ap, ◌∙◌, subst, arith, inl, inr}
use Rattle.std.proofs.lemmas.Bool.{cases_Bool}
use Rattle.std.proofs.lemmas.Bool.Decides.{nat_tests}
use Rattle.std.proofs.lemmas.List.{reverse-append}
use Rattle.std.specs.Prelude.{MatchOption, reverse, slice_index, nat_lt}
use Rattle.std.specs.List.Sorted.{IsStrictlyIncreasing}
use Rattle.std.specs.Option.{option_to_list}
use Rattle.type_terms.specs.declared.TraitId.{TraitId}
use Rattle.text_tables.specs.Made.{StackPart, type_part, const_part, lifetime_part, principal_part, auto_part, off, off_autos, is_below}
use Rattle.text_tables.specs.declared.stack.Lowered.{Lowered}
use Rattle.text_tables.specs.Stack.{pushed_parts, stack_of}

pub pushed-push : (xs : List Lowered) (x : Lowered) (S : List Lowered) → pushed_parts (xs ++ x ∷ []) S ≡ x ∷ pushed_parts xs S
pushed-push [] x S = refl
pushed-push (y ∷ xs) x S = pushed-push xs x (y ∷ S)

pub pushed-pop : (xs ys : List Lowered) (r : Option Lowered) → xs ≡ ys ++ option_to_list r → (IsSome r ↔ (0 < length xs)) → MatchOption r (stack_of xs ≡ []) (λ x. stack_of xs ≡ x ∷ stack_of ys)
pushed-pop [] ys None e v = refl
pushed-pop (x ∷ xs) ys None e v = let some : 0 < length (x ∷ xs) = omega arith in let wrong = v.1 some in absurd cc
pushed-pop xs ys (Some x) e v = ap stack_of e ∙ pushed-push ys x []

-- one more popped, which stands before those that were popped before
pub popped-more : {A : Type 0} (f : A → Lowered) (rs : List A) (a : A) (S T R : List Lowered) → S ≡ f a ∷ R → T ≡ pushed_parts (map f (reverse rs)) S → T ≡ pushed_parts (map f (reverse (rs ++ a ∷ []))) R
popped-more f rs a S T R top all =
    all ∙ ap (pushed_parts (map f (reverse rs))) top ∙ ap (λ xs. pushed_parts (map f xs) R) (sym (reverse-append rs (a ∷ [])))

-- ---- what has to be on top
abbrev pub first_number : List ℕ → Option ℕ
first_number [] = None
first_number (n ∷ ns) = Some n

-- the number of the auto trait that was popped last
abbrev pub lowest : List TraitId → Option ℕ
lowest ts = first_number (map (λ t. t.index) (reverse ts))

pub off-one : (p : StackPart → Bool) (n : ℕ) (S : List StackPart) → 0 < n → IsSome (off p n S) → IsSome (off p 1 S)
off-one p zero S some h = absurd (omega (arith, some))
off-one p (suc n) [] some h = absurd cc
off-one p (suc n) (x ∷ S) some h =
    elim (cases_Bool (p x)) [
      | inl y ↦ rw y refl
      | inr y ↦ let wrong = rw y at h in absurd cc
    ]

pub off-more : (p : StackPart → Bool) (n : ℕ) (S T : List StackPart) (x : StackPart) → 0 < n → IsSome (off p n S) → S ≡ x ∷ T → IsSome (off p (n - 1) T)
off-more p zero S T x some h e = absurd (omega (arith, some))
off-more p (suc n) S T x some h e =
    let back : suc n - 1 ≡ n = omega arith in
    let g : IsSome (off p (suc n) (x ∷ T)) = subst (λ R. IsSome (off p (suc n) R)) e h in
    elim (cases_Bool (p x)) [
      | inl y ↦ rw back (rw y at g)
      | inr y ↦ let wrong = rw y at g in absurd cc
    ]

pub autos-one : (n : ℕ) (u : Option ℕ) (S : List StackPart) → 0 < n → IsSome (off_autos n u S) → IsSome (off_autos 1 None S)
autos-one zero u S some h = absurd (omega (arith, some))
autos-one (suc n) u [] some h = absurd cc
autos-one (suc n) u (auto_part t ∷ S) some h = refl
autos-one (suc n) u (type_part ∷ S) some h = absurd cc
autos-one (suc n) u (const_part ∷ S) some h = absurd cc
autos-one (suc n) u (lifetime_part ∷ S) some h = absurd cc
autos-one (suc n) u (principal_part ∷ S) some h = absurd cc

pub autos-more : (n : ℕ) (u : Option ℕ) (S T : List StackPart) (t : ℕ) → 0 < n → IsSome (off_autos n u S) → S ≡ auto_part t ∷ T → IsSome (off_autos (n - 1) (Some t) T) × (is_below t u ≡ true)
autos-more zero u S T t some h e = absurd (omega (arith, some))
autos-more (suc n) u S T t some h e =
    let back : suc n - 1 ≡ n = omega arith in
    let g : IsSome (off_autos (suc n) u (auto_part t ∷ T)) = subst (λ R. IsSome (off_autos (suc n) u R)) e h in
    elim (cases_Bool (is_below t u)) [
      | inl y ↦ (rw back (rw y at g), y)
      | inr y ↦ let wrong = rw y at g in absurd cc
    ]

-- a number before rising ones
pub rising-cons : (n : ℕ) (ns : List ℕ) → is_below n (first_number ns) ≡ true → IsStrictlyIncreasing ns → IsStrictlyIncreasing (n ∷ ns)
rising-cons n [] below rise = λ k h. absurd (omega (arith, h))
rising-cons n (m ∷ ns) below rise = λ k h. step k h
  where
    less : (a b : ℕ) → nat_lt a b ≡ true → a < b
    less a b h = grind (arith, nat_tests)

    step : (k : ℕ) → k + 1 < length (n ∷ m ∷ ns) → slice_index (n ∷ m ∷ ns) k < slice_index (n ∷ m ∷ ns) (k + 1)
    step zero h = less n m below
    step (suc k) h = let e : suc k + 1 ≡ suc (k + 1) = omega arith in rw e (rise k (omega (arith, h)))
