-- What was not put on a stack of supertraits yet, among references that hold their supertraits: it falls with each step.
use Rattle.std.proofs.Common.{◌≡◌, ℕ, zero, suc, ◌+◌, ◌≤◌, ◌<◌, Bool, true, false, ◌||◌, if◌then◌else◌, List, [], ◌∷◌, ◌++◌, length, ◌⊎◌, inl, inr, refl, sym, ◌∙◌, ap, subst, arith, append_assoc}
use Rattle.type_terms.specs.Promised.Worlds.{World, Reference}
use Rattle.type_terms.specs.Promised.Rules.{same_reference, written_supertraits}
use Rattle.type_terms.specs.Promised.Proofs.{In}
use Rattle.type_terms.proofs.Members.{here, there, in-nothing, in-cases, self-number}
use Rattle.declarations.specs.Promised.Elaboration.{is_put, new_of, pushed, off_stack, all_levels, elaborate}
use Rattle.type_terms.specs.Promised.Trees.{Trees, none, tree}
use Rattle.type_terms.specs.Codes.{same, same_label, numbers, same_numbers}
use Rattle.declarations.proofs.Basics.{length-pushed, put-move}
use Rattle.type_terms.proofs.BooleanBasics.{true-false}
use Rattle.type_terms.proofs.ListBasics.{append-none}

pub same-numbers-self : (x : ℕ × (ℕ × (ℕ × ℕ))) → same_numbers x x ≡ true
same-numbers-self (a, (b, (c, d))) = let p = self-number a in let q = self-number b in let r = self-number c in let s = self-number d in rw (p, q, r, s) refl

pub same-self : (t : Trees) → same t t ≡ true
same-self none = refl
same-self (tree l c o) = let p : same_label l l ≡ true = same-numbers-self (numbers l) in let q = same-self c in let r = same-self o in rw (p, q, r) refl

pub same-one : (r : Reference) → same_reference r r ≡ true
same-one r = let p = self-number r.trait in let q = same-self r.args in rw (p, q) refl

-- ---- how many of a list were not put yet
abbrev pub missing : List Reference → List Reference → ℕ
missing [] before = 0
missing (x ∷ xs) before = (if is_put x before then 0 else 1) + missing xs before

pub missing-same : (xs b c : List Reference) → ((x : Reference) → is_put x b ≡ is_put x c) → missing xs b ≡ missing xs c
missing-same [] b c h = refl
missing-same (x ∷ xs) b c h = ap (λ (z : Bool). (if z then 0 else 1) + missing xs b) (h x) ∙ ap (λ n. (if is_put x c then 0 else 1) + n) (missing-same xs b c h)

pub missing-fewer : (xs b : List Reference) (r : Reference) → missing xs (r ∷ b) ≤ missing xs b
missing-fewer [] b r = omega arith
missing-fewer (x ∷ xs) b r = by (same_reference x r) (is_put x b) (missing-fewer xs b r)
  where
    by : (p q : Bool) → missing xs (r ∷ b) ≤ missing xs b → (if p || q then 0 else 1) + missing xs (r ∷ b) ≤ (if q then 0 else 1) + missing xs b
    by true true h = omega (arith, h)
    by true false h = omega (arith, h)
    by false true h = omega (arith, h)
    by false false h = omega (arith, h)

pub missing-less : (xs b : List Reference) (r : Reference) → In r xs → is_put r b ≡ false → suc (missing xs (r ∷ b)) ≤ missing xs b
missing-less [] b r i e = absurd (in-nothing r i)
missing-less (x ∷ xs) b r i e = by (in-cases r x xs i) (λ j. missing-less xs b r j e)
  where
    this : (p q : Bool) → p ≡ true → q ≡ false → missing xs (r ∷ b) ≤ missing xs b → suc ((if p || q then 0 else 1) + missing xs (r ∷ b)) ≤ (if q then 0 else 1) + missing xs b
    this true false f g h = omega (arith, h)
    this true true f g h = absurd (true-false g)
    this false q f g h = absurd (true-false (sym f))

    later : (p q : Bool) → suc (missing xs (r ∷ b)) ≤ missing xs b → suc ((if p || q then 0 else 1) + missing xs (r ∷ b)) ≤ (if q then 0 else 1) + missing xs b
    later true true h = omega (arith, h)
    later true false h = omega (arith, h)
    later false true h = omega (arith, h)
    later false false h = omega (arith, h)

    by : (x ≡ r) ⊎ In r xs → (In r xs → suc (missing xs (r ∷ b)) ≤ missing xs b) → suc ((if same_reference x r || is_put x b then 0 else 1) + missing xs (r ∷ b)) ≤ (if is_put x b then 0 else 1) + missing xs b
    by (inl q) go =
        this (same_reference x r) (is_put x b) (subst (λ z. same_reference z r ≡ true) (sym q) (same-one r)) (subst (λ z. is_put z b ≡ false) (sym q) e) (missing-fewer xs b r)
    by (inr j) go = later (same_reference x r) (is_put x b) (go j)

-- each new one was missing
pub new-fewer : (xs before rs : List Reference) → ((x : Reference) → In x rs → In x xs) → length (new_of before rs) + missing xs (new_of before rs ++ before) ≤ missing xs before
new-fewer xs before [] h = omega arith
new-fewer xs before (r ∷ rs) h = by (is_put r before) refl (new-fewer xs before rs (λ x j. h x (there x r rs j))) (new-fewer xs (r ∷ before) rs (λ x j. h x (there x r rs j)))
  where
    new : List Reference
    new = new_of (r ∷ before) rs

    by : (b : Bool) → is_put r before ≡ b → length (new_of before rs) + missing xs (new_of before rs ++ before) ≤ missing xs before
        → length new + missing xs (new ++ (r ∷ before)) ≤ missing xs (r ∷ before)
        → length (if b then new_of before rs else r ∷ new) + missing xs ((if b then new_of before rs else r ∷ new) ++ before) ≤ missing xs before
    by true e f g = f
    by false e f g =
        let less = missing-less xs before r (h r (here r rs)) e in
        let same : missing xs (r ∷ (new ++ before)) ≡ missing xs (new ++ (r ∷ before)) = missing-same xs (r ∷ (new ++ before)) (new ++ (r ∷ before)) (λ x. put-move x r new before) in
        subst (λ n. suc (length new) + n ≤ missing xs before) (sym same) (omega (arith, less, g))

pub new-in : (before rs : List Reference) (x : Reference) → In x (new_of before rs) → In x rs
new-in before [] x i = absurd (in-nothing x i)
new-in before (r ∷ rs) x i = by (is_put r before) i (λ j. new-in before rs x j) (λ j. new-in (r ∷ before) rs x j)
  where
    by : (b : Bool) → In x (if b then new_of before rs else r ∷ new_of (r ∷ before) rs) → (In x (new_of before rs) → In x rs) → (In x (new_of (r ∷ before) rs) → In x rs) → In x (r ∷ rs)
    by true j f g = there x r rs (f j)
    by false j f g = elim (in-cases x r (new_of (r ∷ before) rs) j) [ inl q ↦ subst (λ z. In z (r ∷ rs)) q (here r rs) | inr k ↦ there x r rs (g k) ]

pub pushed-in : (rs stack : List Reference) (x : Reference) → In x (pushed rs stack) → In x rs ⊎ In x stack
pushed-in [] stack x i = inr i
pushed-in (r ∷ rs) stack x i = by (pushed-in rs (r ∷ stack) x i)
  where
    by : In x rs ⊎ In x (r ∷ stack) → In x (r ∷ rs) ⊎ In x stack
    by (inl j) = inl (there x r rs j)
    by (inr j) = elim (in-cases x r stack j) [ inl q ↦ inl (subst (λ z. In z (r ∷ rs)) q (here r rs)) | inr k ↦ inr k ]

-- which were put before tells which are new, in whatever order they were put
pub new-same : (b c rs : List Reference) → ((x : Reference) → is_put x b ≡ is_put x c) → new_of b rs ≡ new_of c rs
new-same b c [] h = refl
new-same b c (r ∷ rs) h = by (is_put r b) (is_put r c) (h r) (new-same b c rs h) (new-same (r ∷ b) (r ∷ c) rs (λ x. ap (λ z. same_reference x r || z) (h x)))
  where
    by : (p q : Bool) → p ≡ q → new_of b rs ≡ new_of c rs → new_of (r ∷ b) rs ≡ new_of (r ∷ c) rs
        → (if p then new_of b rs else r ∷ new_of (r ∷ b) rs) ≡ (if q then new_of c rs else r ∷ new_of (r ∷ c) rs)
    by true true e f g = f
    by false false e f g = ap (λ l. r ∷ l) g
    by true false e f g = absurd (true-false e)
    by false true e f g = absurd (true-false (sym e))

-- one that was put last is put as if it had been put first
pub put-last : (x r : Reference) (b : List Reference) → is_put x (b ++ r ∷ []) ≡ is_put x (r ∷ b)
put-last x r [] = refl
put-last x r (y ∷ b) = ap (λ z. same_reference x y || z) (put-last x r b) ∙ swap (same_reference x y) (same_reference x r) (is_put x b)
  where
    swap : (p q z : Bool) → p || (q || z) ≡ q || (p || z)
    swap true true z = refl
    swap true false z = refl
    swap false true z = refl
    swap false false z = refl

-- and a list of them
pub put-all-last : (x : Reference) (b rs : List Reference) → is_put x (b ++ rs) ≡ is_put x (rs ++ b)
put-all-last x b [] = ap (is_put x) (append-none b)
put-all-last x b (r ∷ rs) =
    ap (is_put x) (sym (append_assoc b (r ∷ []) rs)) ∙ put-all-last x (b ++ r ∷ []) rs ∙ ends rs
  where
    ends : (ys : List Reference) → is_put x (ys ++ (b ++ r ∷ [])) ≡ same_reference x r || is_put x (ys ++ b)
    ends [] = put-last x r b
    ends (y ∷ ys) = ap (λ z. same_reference x y || z) (ends ys) ∙ swap (same_reference x y) (same_reference x r) (is_put x (ys ++ b))
      where
        swap : (p q z : Bool) → p || (q || z) ≡ q || (p || z)
        swap true true z = refl
        swap true false z = refl
        swap false true z = refl
        swap false false z = refl

pub pushed-append : (xs ys stack : List Reference) → pushed (xs ++ ys) stack ≡ pushed ys (pushed xs stack)
pushed-append [] ys stack = refl
pushed-append (x ∷ xs) ys stack = pushed-append xs ys (x ∷ stack)

all-missing : (xs : List Reference) → missing xs [] ≡ length xs
all-missing [] = refl
all-missing (x ∷ xs) = let h = all-missing xs in omega (arith, h)

-- ---- what is left of a list that comes off a stack
-- so much of it was found; these were put, and these stand on the stack, the uppermost first
pub record IsLeft (V : World) (xs put stack found all : List Reference) : Type 0 where
  pub fuel : ℕ
  pub before : List Reference
  pub same_put : (x : Reference) → is_put x before ≡ is_put x put
  pub enough : length stack + missing xs put ≤ fuel
  pub among : (x : Reference) → In x stack → In x xs
  pub joins : found ++ off_stack fuel V before stack ≡ all

pub left-at-first : (V : World) (rs put : List Reference) → put ≡ new_of [] rs → ((x : Reference) → In x rs → In x (all_levels V rs))
    → IsLeft V (all_levels V rs) put (pushed put []) [] (elaborate V rs)
left-at-first V rs put e own = record {
  fuel = length (all_levels V rs);
  before = put;
  same_put = λ x. refl;
  enough = enough;
  among = λ x i. elim (pushed-in put [] x i) [ inl j ↦ own x (new-in [] rs x (subst (In x) e j)) | inr j ↦ absurd (in-nothing x j) ];
  joins = ap (λ l. off_stack (length (all_levels V rs)) V l (pushed l [])) e;
}
  where
    append-none : (xs : List Reference) → xs ++ [] ≡ xs
    append-none [] = refl
    append-none (x ∷ xs) = ap (λ z. x ∷ z) (append-none xs)

    enough : length (pushed put []) + missing (all_levels V rs) put ≤ length (all_levels V rs)
    enough =
        let fewer = subst (λ b. length (new_of [] rs) + missing (all_levels V rs) b ≤ missing (all_levels V rs) []) (append-none (new_of [] rs)) (new-fewer (all_levels V rs) [] rs own) in
        let long = length-pushed (new_of [] rs) [] in
        let all = all-missing (all_levels V rs) in
        subst (λ b. length (pushed b []) + missing (all_levels V rs) b ≤ length (all_levels V rs)) (sym e) (omega (arith, fewer, long, all))

-- with the uppermost one it goes on with its written supertraits, as far as they are new
pub left-next : (V : World) (xs put stack found all : List Reference) (r : Reference) (new : List Reference) → ((s t : Reference) → In s xs → In t (written_supertraits V s) → In t xs)
    → IsLeft V xs put (r ∷ stack) found all → new ≡ new_of put (written_supertraits V r) → IsLeft V xs (put ++ new) (pushed new stack) (found ++ r ∷ []) all
left-next V xs put stack found all r new closed h e = by h.fuel h.enough h.joins
  where
    ws : List Reference
    ws = written_supertraits V r

    written-among : (x : Reference) → In x ws → In x xs
    written-among x i = closed r x (h.among r (here r stack)) i

    new-is : new ≡ new_of h.before ws
    new-is = e ∙ new-same put h.before ws (λ x. sym (h.same_put x))

    puts : (x : Reference) → is_put x (new_of h.before ws ++ h.before) ≡ is_put x (put ++ new)
    puts x = ap (λ l. is_put x (l ++ h.before)) (sym new-is) ∙ behind new ∙ sym (put-all-last x put new)
      where
        behind : (l : List Reference) → is_put x (l ++ h.before) ≡ is_put x (l ++ put)
        behind [] = h.same_put x
        behind (y ∷ l) = ap (λ z. same_reference x y || z) (behind l)

    less : length (pushed new stack) + missing xs (put ++ new) ≤ length stack + missing xs put
    less =
        let fewer = new-fewer xs put ws written-among in
        let long = length-pushed new stack in
        let same : missing xs (put ++ new) ≡ missing xs (new_of put ws ++ put)
        = missing-same xs (put ++ new) (new_of put ws ++ put) (λ x. put-all-last x put new ∙ ap (λ l. is_put x (l ++ put)) e) in
        let count : length new ≡ length (new_of put ws) = ap length e in
        omega (arith, fewer, long, same, count)

    among : (x : Reference) → In x (pushed new stack) → In x xs
    among x i = elim (pushed-in new stack x i) [ inl j ↦ written-among x (new-in put ws x (subst (In x) e j)) | inr j ↦ h.among x (there x r stack j) ]

    joined : (n : ℕ) → found ++ r ∷ off_stack n V (new_of h.before ws ++ h.before) (pushed (new_of h.before ws) stack) ≡ all
        → (found ++ r ∷ []) ++ off_stack n V (new_of h.before ws ++ h.before) (pushed new stack) ≡ all
    joined n f =
        append_assoc found (r ∷ []) (off_stack n V (new_of h.before ws ++ h.before) (pushed new stack))
        ∙ ap (λ l. found ++ r ∷ off_stack n V (new_of h.before ws ++ h.before) (pushed l stack)) new-is ∙ f

    by : (n : ℕ) → length (r ∷ stack) + missing xs put ≤ n → found ++ off_stack n V h.before (r ∷ stack) ≡ all → IsLeft V xs (put ++ new) (pushed new stack) (found ++ r ∷ []) all
    by zero g f = absurd (omega (arith, g))
    by (suc n) g f = record {
      fuel = n;
      before = new_of h.before ws ++ h.before;
      same_put = puts;
      enough = omega (arith, g, less);
      among = among;
      joins = joined n f;
    }

-- the number that falls with each step
pub left-falls : (V : World) (xs put stack : List Reference) (r : Reference) (new : List Reference) → ((s t : Reference) → In s xs → In t (written_supertraits V s) → In t xs)
    → In r xs → new ≡ new_of put (written_supertraits V r) → length (pushed new stack) + missing xs (put ++ new) < length (r ∷ stack) + missing xs put
left-falls V xs put stack r new closed i e =
    let fewer = new-fewer xs put (written_supertraits V r) (λ x j. closed r x i j) in
    let long = length-pushed new stack in
    let same : missing xs (put ++ new) ≡ missing xs (new_of put (written_supertraits V r) ++ put)
    = missing-same xs (put ++ new) (new_of put (written_supertraits V r) ++ put) (λ x. put-all-last x put new ∙ ap (λ l. is_put x (l ++ put)) e) in
    let count : length new ≡ length (new_of put (written_supertraits V r)) = ap length e in
    omega (arith, fewer, long, same, count)

-- where nothing is left on the stack, all was found
pub left-nothing : (V : World) (xs put found all : List Reference) → IsLeft V xs put [] found all → found ≡ all
left-nothing V xs put found all h = sym (append-none found) ∙ ap (λ l. found ++ l) (sym (none h.fuel)) ∙ h.joins
  where
    none : (n : ℕ) → off_stack n V h.before [] ≡ []
    none zero = refl
    none (suc n) = refl
