-- Enough steps of the machine, as a function: what it gives is what the machine ends with.
use Rattle.std.proofs.Common.{◌≡◌, ℕ, zero, suc, ◌+◌, ◌*◌, ◌≤◌, List, [], ◌++◌, length, Some, None, Result, Ok, Err, sym, ap, ◌∙◌, subst, arith}
use Rattle.std.specs.Prelude.{IsErrAnd}
use Rattle.std.proofs.lemmas.Option.{same_Some}
use Rattle.text_language.specs.Tokens.{Token}
use Rattle.text_language.specs.Promised.Syntax.{TypeTree, named, Args}
use Rattle.text_language.specs.Syntax.{type_spelling}
use Rattle.text_lines.specs.TokenSteps.{NoAngle}
use Rattle.text_lines.specs.declared.line_error.LineError.{LineError}
use Rattle.text_lines.specs.declared.line_error.LineError.TheVariants as errors
use Rattle.text_lines.specs.Cells.{Cell, type_onto}
use Rattle.text_lines.specs.Follows.{IsCompleteType}
use Rattle.text_lines.specs.Machine.{State, opening, item, closing, finished, stuck, step, run, Reaches}
use Rattle.text_lines.specs.Laws.{SpellsType}
use Rattle.text_lines.specs.TypeReading.{ended, type_read, GivesType}
use Rattle.text_lines.specs.TypeSteps.{weight, ReaderEnds}
use Rattle.text_lines.specs.declared.type_machine.TypeRead.{TypeRead}
use Rattle.text_lines.proofs.MachineLaws.{finds, reaches, bound-reaches, run-again, stays-finished, stays-stuck}
use Rattle.text_lines.proofs.Weights.{lighter}

-- the machine has ended
abbrev IsEnd : State → Type 0
IsEnd (finished out r) = Unit {0}
IsEnd stuck = Unit {0}
IsEnd _ = ⊥

ends : (n : ℕ) (x : State) → weight x ≤ n → IsEnd (run n x)
ends zero (opening s out ts) h = let wrong : ⊥ = omega (arith, h) in absurd wrong
ends zero (item s out d ts) h = let wrong : ⊥ = omega (arith, h) in absurd wrong
ends zero (closing s out ts) h = let wrong : ⊥ = omega (arith, h) in absurd wrong
ends zero (finished out r) h = tt
ends zero stuck h = tt
ends (suc n) (finished out r) h = subst IsEnd (sym (stays-finished n out r)) tt
ends (suc n) stuck h = subst IsEnd (sym (stays-stuck n)) tt
ends (suc n) (opening s out ts) h = let l = lighter (opening s out ts) tt in ends n (step (opening s out ts)) (omega (arith, h, l))
ends (suc n) (item s out d ts) h = let l = lighter (item s out d ts) tt in ends n (step (item s out d ts)) (omega (arith, h, l))
ends (suc n) (closing s out ts) h = let l = lighter (closing s out ts) tt in ends n (step (closing s out ts)) (omega (arith, h, l))

end-stays : (n : ℕ) (x : State) → IsEnd x → run n x ≡ x
end-stays n (finished out r) h = stays-finished n out r
end-stays n stuck h = stays-stuck n
end-stays n (opening s out ts) h = absurd h
end-stays n (item s out d ts) h = absurd h
end-stays n (closing s out ts) h = absurd h

-- an end that is reached is the end after enough steps
reached : (n : ℕ) (x y : State) → weight x ≤ n → IsEnd y → Reaches x y → run n x ≡ y
reached n x y h k (m, e) = sym (end-stays m (run n x) (ends n x h)) ∙ run-again n m x ∙ ap (run n) e ∙ end-stays n y k

pub reads-finished : (o : List Cell) (ts left : List Token) (out : List Cell) → Reaches (opening [] o ts) (finished out left) → type_read o ts ≡ Some (out, left)
unfolding type_read
reads-finished o ts left out r =
    let light : weight (opening [] o ts) ≤ 2 * length ts + 1 = omega arith in
    ap ended (reached (2 * length ts + 1) (opening [] o ts) (finished out left) light tt r)

pub reads-stuck : (o : List Cell) (ts : List Token) → Reaches (opening [] o ts) stuck → type_read o ts ≡ None
unfolding type_read
reads-stuck o ts r =
    let light : weight (opening [] o ts) ≤ 2 * length ts + 1 = omega arith in
    ap ended (reached (2 * length ts + 1) (opening [] o ts) stuck light tt r)

-- ---- the laws
ended-some : (x : State) (out : List Cell) (r : List Token) → ended x ≡ Some (out, r) → x ≡ finished out r
ended-some (finished o q) out r e = let p = same_Some (o, q) (out, r) e in ap (λ (z : List Cell × List Token). finished z.0 z.1) p
ended-some _ out r e = absurd cc

-- what is read is spelled so
pub type_takes : (o : List Cell) (ts left : List Token) (out : List Cell) → type_read o ts ≡ Some (out, left) → SpellsType ts o out left
unfolding type_read
type_takes o ts left out e = finds o ts left out (2 * length ts + 1, ended-some (run (2 * length ts + 1) (opening [] o ts)) out left e)

-- what is spelled so is read
pub type_again : (o : List Cell) (t : TypeTree) (r : List Token) → IsCompleteType r → type_read o (type_spelling t ++ r) ≡ Some (type_onto t o, r)
type_again o t r h = reads-finished o (type_spelling t ++ r) r (type_onto t o) (reaches o t r h)

pub bound_again : (o : List Cell) (n : List ℕ) (args : Args) (r : List Token) → NoAngle r → type_read o (type_spelling (named n args) ++ r) ≡ Some (type_onto (named n args) o, r)
bound_again o n args r h = reads-finished o (type_spelling (named n args) ++ r) r (type_onto (named n args) o) (bound-reaches o n args r h)

-- ---- an error of the loop is one of the whole
pub gives-error : (r : Result TypeRead LineError) (x : LineError) (o : List Cell) (ts left : List Token) (out : List Cell) → IsErrAnd r (λ z. z ≡ x) → ReaderEnds (Err x) (opening [] o ts) out left → GivesType r (type_read o ts)
gives-error (Ok y) x o ts left out w s = absurd w
gives-error (Err errors.Memory) x o ts left out w s = tt
gives-error (Err errors.Syntax) x o ts left out w s = reads-stuck o ts (subst (λ z. ReaderEnds (Err z) (opening [] o ts) out left) (sym w) s)
