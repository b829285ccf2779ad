-- Reading and writing in pieces.
use Rattle.std.proofs.Common.{◌≡◌, ℕ, ◌+◌, ◌-◌, ◌≤◌, List, [], ◌++◌, length, take, drop, Option, Some, None, sym, ap, ◌∙◌, subst, append-nil, length-drop, take-add, arith}
use Rattle.std.specs.Prelude.{IfSome}
use Rattle.std.specs.Io.KnownBytes.{Appends, Consumes, IsAtEnd}
use Rattle.std.proofs.KnownBytes.{Appends-trans}
use Rattle.std.proofs.lemmas.List.{take_all, take_at}

whole_rest : (text : List ℕ) (at : ℕ) → take (length text - at) (drop at text) ≡ drop at text
whole_rest text at = take_all (length text - at) (drop at text) (omega (arith, length-drop at text))

pub written_more : (a b c : Option (List ℕ)) (text : List ℕ) (at n : ℕ) → Appends a b (take at text) → Appends b c (take n (take (length text - at) (drop at text))) → Appends a c (take (at + n) text)
written_more a b c text at n p q =
    let e : take at text ++ take n (take (length text - at) (drop at text)) ≡ take (at + n) text = ap (λ (r : List ℕ). take at text ++ take n r) (whole_rest text at) ∙ sym (take-add at n text) in
    subst (λ (bs : List ℕ). Appends a c bs) e (Appends-trans a b c _ _ p q)

pub all_read : (a b : Option (List ℕ)) (text : List ℕ) (n : ℕ) → length text ≡ n → Consumes a b text → IfSome a (λ bytes. text ≡ take n bytes)
all_read None b text n h p = tt
all_read (Some x) None text n h p = absurd p
all_read (Some x) (Some y) text n h p = sym (ap (take n) p ∙ take_at text y n h)

pub end_read : (a b c : Option (List ℕ)) (text nothing : List ℕ) (n : ℕ) → length text ≤ n → nothing ≡ [] → Consumes a b text → Consumes b c nothing → IsAtEnd c → IfSome a (λ bytes. text ≡ take n bytes)
end_read None b c text nothing n h z p q e = tt
end_read (Some x) None c text nothing n h z p q e = absurd p
end_read (Some x) (Some y) None text nothing n h z p q e = absurd q
end_read (Some x) (Some y) (Some r) text nothing n h z p q e =
    let whole : x ≡ text = p ∙ ap (λ (t : List ℕ). text ++ t) (q ∙ ap (λ (t : List ℕ). t ++ r) z ∙ e) ∙ append-nil text in
    sym (ap (take n) whole ∙ take_all n text h)
