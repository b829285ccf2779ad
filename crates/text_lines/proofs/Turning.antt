-- One turn of the loop, and one more name of a binder.
use Rattle.std.proofs.Common.{◌≡◌, ℕ, suc, ◌<◌, List, [], Option, Some, sym, ap, ◌∙◌, subst, Result, Ok, Err}
use Rattle.text_language.specs.Tokens.{Token}
use Rattle.text_lines.specs.Cells.{Cell, binder_onto}
use Rattle.text_lines.specs.Machine.{Open, State, step, run, Reaches, more_binder}
use Rattle.text_lines.specs.declared.cell.Next.{Next}
use Rattle.text_lines.specs.declared.cell.Next.TheVariants as nexts
use Rattle.text_lines.specs.TypeSteps.{state_of, now_at, weight, IsGoing, ReaderEnds}
use Rattle.std.specs.Prelude.{IsErrOf, IsErrAnd}
use Rattle.text_lines.specs.Machine.{opening}
use Rattle.text_lines.specs.declared.line_error.LineError.{LineError}
use Rattle.text_lines.specs.declared.line_error.LineError.TheVariants as errors
use Rattle.text_lines.specs.Laws.{IfSpelled}
use Rattle.text_lines.proofs.MachineLaws.{refuses}
use Rattle.text_lines.proofs.Weights.{lighter}

pub turned : (now : Next) (n : Option Next) (s r : List Open) (out o : List Cell) (ts us : List Token) → step (state_of now s out ts) ≡ now_at n r o us → (y : State) → Reaches (now_at n r o us) y → Reaches (state_of now s out ts) y
turned now n s r out o ts us h y (k, e) = (suc k, ap (run k) h ∙ e)

going : (now : Next) (s : List Open) (out : List Cell) (ts : List Token) → IsGoing (state_of now s out ts)
going nexts.Opening s out ts = tt
going (nexts.Item d) s out ts = tt
going nexts.Closing s out ts = tt

pub fewer : (now : Next) (n : Option Next) (s r : List Open) (out o : List Cell) (ts us : List Token) → step (state_of now s out ts) ≡ now_at n r o us → weight (now_at n r o us) < weight (state_of now s out ts)
fewer now n s r out o ts us h = subst (λ x. weight x < weight (state_of now s out ts)) h (lighter (state_of now s out ts) (going now s out ts))

-- what the names that are to come give, all give
abbrev pub Names : List Token → List Cell → List Token → List Cell → Type 0
Names start from ts out = (b : List (List ℕ)) (left : List Token) → more_binder ts ≡ Some (b, left) → (c : List (List ℕ)) × (more_binder start ≡ Some (c, left)) × (binder_onto c from ≡ binder_onto b out)

-- ---- what a refusal says
pub is-refused : {A : Type 0} (r : Result A LineError) (x : LineError) (o : List Cell) (ts left : List Token) (out : List Cell) → IsErrAnd r (λ z. z ≡ x) → ReaderEnds (Err x) (opening [] o ts) out left → IsErrOf r errors.Syntax → IfSpelled ts (λ t rest. ⊥)
is-refused (Ok y) x o ts left out w s e t rest h k = absurd w
is-refused (Err errors.Memory) x o ts left out w s e t rest h k = absurd cc
is-refused (Err errors.Syntax) x o ts left out w s e t rest h k = refuses o ts t rest (subst (λ z. ReaderEnds (Err z) (opening [] o ts) out left) (sym w) s) h k
