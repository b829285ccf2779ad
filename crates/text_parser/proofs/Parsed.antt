-- What is read of a text is what it gives, since a text gives one thing.
use Rattle.std.proofs.Common.{◌≡◌, ℕ, List, Result, Ok, Err, IfOk, refl, subst}
use Rattle.std.specs.Prelude.{IfErr, MatchResult}
use Rattle.text_language.specs.Promised.Declarations.{Declarations}
use Rattle.text_language.specs.Text.{TextGives}
use Rattle.text_lines.proofs.Outcome.{one_outcome}
use Rattle.text_names.specs.FaultNumbers.{fault_number}
use Rattle.text_parser.specs.Outcomes.{IsTextError}
use Rattle.text_parser.specs.declared.fault.TextError.{TextError}
use Rattle.text_parser.specs.declared.fault.TextError.TheVariants as errors
use Rattle.text_parser.specs.Parsing.{IsFaultAt}

-- what a text gives, looked at
Declares : Result Declarations (ℕ × ℕ) → Declarations → Type 0
Declares (Ok e) d = e ≡ d
Declares (Err p) d = ⊥

Fails : Result Declarations (ℕ × ℕ) → (k n : ℕ) → Type 0
Fails (Ok e) k n = ⊥
Fails (Err p) k n = (p.0 ≡ k) × (p.1 ≡ n)

pub same-declarations : (bytes : List ℕ) (w d : Declarations) → TextGives bytes (Ok w) → TextGives bytes (Ok d) → w ≡ d
unfolding Declares
same-declarations bytes w d g h = subst (λ r. Declares r d) (one_outcome bytes (Ok d) (Ok w) h g) refl

pub memory-alone : (bytes : List ℕ) (d : Declarations) (e : TextError) → IsTextError bytes e → TextGives bytes (Ok d) → e ≡ errors.Memory
unfolding Declares
memory-alone bytes d (errors.Text f) g h = absurd (subst (λ r. Declares r d) (one_outcome bytes (Ok d) (Err (f.line, fault_number f.kind)) h g) refl)
memory-alone bytes d errors.Memory g h = refl

pub not-faulty : (bytes : List ℕ) (w : Declarations) (k n : ℕ) → TextGives bytes (Ok w) → TextGives bytes (Err (k, n)) → ⊥
unfolding Declares
not-faulty bytes w k n g h = subst (λ r. Declares r w) (one_outcome bytes (Ok w) (Err (k, n)) g h) refl

pub same-fault : (bytes : List ℕ) (k n : ℕ) (e : TextError) → IsTextError bytes e → TextGives bytes (Err (k, n)) → IsFaultAt k n e
unfolding Fails
same-fault bytes k n (errors.Text f) g h = subst (λ r. Fails r k n) (one_outcome bytes (Err (k, n)) (Err (f.line, fault_number f.kind)) h g) (refl, refl)
same-fault bytes k n errors.Memory g h = tt

-- what was read of a text that gives declarations, and of one with a fault
pub gives-declarations :
    (bytes : List ℕ) (d : Declarations) (r : Result Declarations TextError) → IfOk r (λ w. TextGives bytes (Ok w)) → IfErr r (IsTextError bytes)
    → TextGives bytes (Ok d) → MatchResult r (λ w. w ≡ d) (λ e. e ≡ errors.Memory)
gives-declarations bytes d (Ok w) taken refused h = same-declarations bytes w d taken h
gives-declarations bytes d (Err e) taken refused h = memory-alone bytes d e refused h

pub gives-fault :
    (bytes : List ℕ) (k n : ℕ) (r : Result Declarations TextError) → IfOk r (λ w. TextGives bytes (Ok w)) → IfErr r (IsTextError bytes)
    → TextGives bytes (Err (k, n)) → MatchResult r (λ w. ⊥) (IsFaultAt k n)
gives-fault bytes k n (Ok w) taken refused h = not-faulty bytes w k n taken h
gives-fault bytes k n (Err e) taken refused h = same-fault bytes k n e refused h
