-- When each value of a response is the canonical variable with its index.
use Rattle.std.proofs.Common.{◌≡◌, ℕ, zero, suc, Bool, true, false, ◌&&◌, ◌+◌, ◌<◌, ◌≤◌, List, [], ◌∷◌, length, get_or, refl, subst, sym, arith}
use Rattle.type_terms.specs.Promised.Handles.{Entry}
use Rattle.type_terms.specs.Promised.Handles.{ArgHeld, ArgsHeld}
use Rattle.type_terms.specs.declared.kinds.GenericArgKind.{GenericArgKind}
use Rattle.infer_table.specs.Leaves.{leaf_label}
use Rattle.goal_evaluator.specs.Responses.{is_this_variable, are_variables}

next : (i k : ℕ) → (i + 1) + k ≡ i + suc k
next i k = omega arith

zero-plus : (k : ℕ) → 0 + k ≡ k
zero-plus k = omega arith

start : (i : ℕ) → i + 0 ≡ i
start i = omega arith

all-from : (es : List Entry) (i : ℕ) (xs : List GenericArgKind) → ((k : ℕ) (d : GenericArgKind) → k < length xs → is_this_variable (i + k) (leaf_label es (get_or xs k d)) ≡ true) → are_variables es i xs ≡ true
all-from es i [] h = refl
all-from es i (x ∷ xs) h =
    let first : is_this_variable i (leaf_label es x) ≡ true = subst (λ n. is_this_variable n (leaf_label es x) ≡ true) (start i) (h zero x (omega arith)) in
    let rest : are_variables es (i + 1) xs ≡ true = all-from es (i + 1) xs (λ k d l. subst (λ n. is_this_variable n (leaf_label es (get_or xs k d)) ≡ true) (sym (next i k)) (h (suc k) d (omega (arith, l)))) in
    rw (first, rest) refl

and-false : (a b : Bool) → b ≡ false → (a && b) ≡ false
and-false true b e = e
and-false false b e = refl

not-from : (es : List Entry) (i : ℕ) (xs : List GenericArgKind) (k : ℕ) (d : GenericArgKind) → k < length xs → is_this_variable (i + k) (leaf_label es (get_or xs k d)) ≡ false → are_variables es i xs ≡ false
not-from es i [] k d l e = absurd (omega (arith, l))
not-from es i (x ∷ xs) zero d l e =
    let first : is_this_variable i (leaf_label es x) ≡ false = subst (λ n. is_this_variable n (leaf_label es x) ≡ false) (start i) e in
    rw first refl
not-from es i (x ∷ xs) (suc k) d l e =
    and-false (is_this_variable i (leaf_label es x)) (are_variables es (i + 1) xs)
    (not-from es (i + 1) xs k d (omega (arith, l)) (subst (λ n. is_this_variable n (leaf_label es (get_or xs k d)) ≡ false) (sym (next i k)) e))

pub held-at : (es : List Entry) (xs : List GenericArgKind) (k : ℕ) (d : GenericArgKind) → ArgsHeld es xs → k < length xs → ArgHeld es (get_or xs k d)
held-at es [] k d h l = absurd (omega (arith, l))
held-at es (x ∷ xs) zero d h l = h.0
held-at es (x ∷ xs) (suc k) d h l = held-at es xs k d h.1 (omega (arith, l))

-- the value at this place is not the variable
pub not-variables : (es : List Entry) (xs : List GenericArgKind) (k : ℕ) (x : GenericArgKind) → k < length xs → x ≡ get_or xs k x → is_this_variable k (leaf_label es x) ≡ false → are_variables es 0 xs ≡ false
not-variables es xs k x l i e = not-from es 0 xs k x l (subst (λ n. is_this_variable n (leaf_label es (get_or xs k x)) ≡ false) (sym (zero-plus k)) (subst (λ y. is_this_variable k (leaf_label es y) ≡ false) i e))

-- each value before the end is the variable
pub all-variables : (es : List Entry) (xs : List GenericArgKind) (n : ℕ) → length xs ≤ n → ((k : ℕ) (d : GenericArgKind) → k < n → is_this_variable k (leaf_label es (get_or xs k d)) ≡ true) → are_variables es 0 xs ≡ true
all-variables es xs n le h = all-from es 0 xs (λ k d l. subst (λ m. is_this_variable m (leaf_label es (get_or xs k d)) ≡ true) (sym (zero-plus k)) (h k d (omega (arith, l, le))))
