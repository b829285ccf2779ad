-- The type at the front of tokens, as a function, for the reading of lines: enough steps of the machine that makes trees.
use Rattle.std.proofs.Common.{◌≡◌, ℕ, zero, suc, ◌+◌, ◌*◌, ◌<◌, ◌≤◌, List, [], ◌∷◌, ◌++◌, length, Option, Some, None, refl, sym, ap, ◌∙◌, subst, append_assoc, arith}
use Rattle.text_language.specs.Words.{colon}
use Rattle.text_language.specs.Tokens.{Token, sign}
use Rattle.text_language.specs.Promised.Syntax.{TypeTree, named, Bound, Clause}
use Rattle.text_language.specs.Syntax.{type_spelling, bound_spelling, clause_spelling}
use Rattle.text_lines.specs.Follows.{IsCompleteType}
use Rattle.text_lines.specs.TokenSteps.{NoAngle}
use Rattle.text_lines.specs.TypeSteps.{weight}
use Rattle.text_lines.proofs.TreeMachine.{TreeState, opening, item, closing, finished, stuck, step, run}
use Rattle.text_lines.proofs.InStep.{view, view-run}
use Rattle.text_lines.proofs.WhatIsSpelled.{Leads, all_read, bound_read, run-then}
use Rattle.text_lines.proofs.Weights.{lighter}

abbrev pub ended : TreeState → Option (TypeTree × List Token)
ended (finished t r) = Some (t, r)
ended _ = None

abbrev pub type_at : List Token → Option (TypeTree × List Token)
type_at ts = ended (run (2 * length ts + 1) (opening [] ts))

-- the machine has ended after so many steps
abbrev IsEnd : TreeState → Type 0
IsEnd (finished t r) = Unit {0}
IsEnd stuck = Unit {0}
IsEnd _ = ⊥

stays-finished : (n : ℕ) (t : TypeTree) (r : List Token) → run n (finished t r) ≡ finished t r
stays-finished zero t r = refl
stays-finished (suc n) t r = stays-finished n t r

stays-stuck : (n : ℕ) → run n stuck ≡ stuck
stays-stuck zero = refl
stays-stuck (suc n) = stays-stuck n

ends : (n : ℕ) (x : TreeState) → weight (view [] x) ≤ n → IsEnd (run n x)
ends zero (opening s ts) h = let wrong : ⊥ = omega (arith, h) in absurd wrong
ends zero (item s is ts) h = let wrong : ⊥ = omega (arith, h) in absurd wrong
ends zero (closing s t ts) h = let wrong : ⊥ = omega (arith, h) in absurd wrong
ends zero (finished t r) h = tt
ends zero stuck h = tt
ends (suc n) (finished t r) h = subst IsEnd (sym (stays-finished n t r)) tt
ends (suc n) stuck h = subst IsEnd (sym (stays-stuck n)) tt
ends (suc n) (opening s ts) h =
    let l = lighter (view [] (opening s ts)) tt in
    let k = subst (λ y. weight y < weight (view [] (opening s ts))) (sym (view-run [] 1 (opening s ts))) l in
    ends n (step (opening s ts)) (omega (arith, h, k))
ends (suc n) (item s is ts) h =
    let l = lighter (view [] (item s is ts)) tt in
    let k = subst (λ y. weight y < weight (view [] (item s is ts))) (sym (view-run [] 1 (item s is ts))) l in
    ends n (step (item s is ts)) (omega (arith, h, k))
ends (suc n) (closing s t ts) h =
    let l = lighter (view [] (closing s t ts)) tt in
    let k = subst (λ y. weight y < weight (view [] (closing s t ts))) (sym (view-run [] 1 (closing s t ts))) l in
    ends n (step (closing s t ts)) (omega (arith, h, k))

-- an end that is reached is the end
end-stays : (n : ℕ) (x : TreeState) → IsEnd x → run n x ≡ x
end-stays n (finished t r) h = stays-finished n t r
end-stays n stuck h = stays-stuck n
end-stays n (opening s ts) h = absurd h
end-stays n (item s is ts) h = absurd h
end-stays n (closing s t ts) h = absurd h

read-again : (t : TypeTree) (r : List Token) → Leads (opening [] (type_spelling t ++ r)) (finished t r) → type_at (type_spelling t ++ r) ≡ Some (t, r)
read-again t r p =
    let ts = type_spelling t ++ r in
    let n = 2 * length ts + 1 in
    let light : weight (view [] (opening [] ts)) ≤ n = omega arith in
    let sums : n + p.steps ≡ p.steps + n = omega arith in
    let e : run n (opening [] ts) ≡ finished t r =
    sym (end-stays p.steps (run n (opening [] ts)) (ends n (opening [] ts) light)) ∙ run-then n p.steps (opening [] ts) ∙ ap (λ k. run k (opening [] ts)) sums ∙ sym (run-then p.steps n (opening [] ts)) ∙ ap (run n) p.comes ∙ stays-finished n t r in
    ap ended e

pub type_again : (t : TypeTree) (r : List Token) → IsCompleteType r → type_at (type_spelling t ++ r) ≡ Some (t, r)
type_again t r h = read-again t r (all_read t r h)

-- ---- a bound, read as the type of its name and arguments
abbrev pub as_bound : Option (TypeTree × List Token) → Option (Bound × List Token)
as_bound (Some (named n args, r)) = Some (record { trait = n; args = args }, r)
as_bound _ = None

abbrev pub bound_at : List Token → Option (Bound × List Token)
bound_at ts = as_bound (type_at ts)

pub bound_again : (b : Bound) (r : List Token) → NoAngle r → bound_at (bound_spelling b ++ r) ≡ Some (b, r)
bound_again b r h = ap as_bound (read-again (named b.trait b.args) r (bound_read b.trait b.args r h))

-- ---- `type: bound`
infixl 10 ◌>>=◌
abbrev pub ◌>>=◌ : {A B : Type 0} → Option A → (A → Option B) → Option B
(Some x) >>= f = f x
None >>= f = None

abbrev pub after_colon : List Token → Option (List Token)
after_colon (sign colon ∷ ts) = Some ts
after_colon _ = None

abbrev pub clause_at : List Token → Option (Clause × List Token)
clause_at ts = type_at ts >>= λ t. after_colon t.1 >>= λ rest. bound_at rest >>= λ b. Some (record { subject = t.0; bound = b.0 }, b.1)

pub clause_again : (k : Clause) (r : List Token) → NoAngle r → clause_at (clause_spelling k ++ r) ≡ Some (k, r)
clause_again k r h =
    ap clause_at (append_assoc (type_spelling k.subject) (sign colon ∷ bound_spelling k.bound) r)
    ∙ ap (λ x. x >>= λ t. after_colon t.1 >>= λ rest. bound_at rest >>= λ b. Some (record { subject = t.0; bound = b.0 }, b.1)) (type_again k.subject (sign colon ∷ (bound_spelling k.bound ++ r)) tt)
    ∙ ap (λ x. x >>= λ b. Some (record { subject = k.subject; bound = b.0 }, b.1)) (bound_again k.bound r h)
