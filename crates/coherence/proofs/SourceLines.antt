-- What is given next, of declarations.
use Rattle.std.proofs.Common.{◌≡◌, ℕ, zero, suc, ◌+◌, ◌-◌, ◌<◌, ◌⊎◌, inl, inr, List, length, Option, Some, None, Ok, Err, refl, ◌∙◌, subst, arith}
use Rattle.std.specs.Prelude.{IfSome}
use Rattle.sessions.specs.TextLanguage.Promised.Declarations.{Declarations}
use Rattle.sessions.specs.TextLanguage.Output.{fault, output_text}
use Rattle.sessions.specs.TextTables.Numbered.{IsNumbered}
use Rattle.coherence.specs.KeptLines.{HasKeptLineAt, IsCheckLineOf, IsLineOf, KeepsLines}
use Rattle.coherence.specs.LineByLine.{CountsLine, IsLineAt, IsVerdictLine, of_crate, of_check, of_question}
use Rattle.coherence.specs.LineSources.{IsGivenInOrder, lines_given}
use Rattle.coherence.specs.declared.kept.KeptLines.{KeptLines}
use Rattle.coherence.specs.declared.output_lines.LineCounts.{LineCounts}
use Rattle.coherence.proofs.KeptLines.{kept-check, kept-line}

none-or-some : (n : ℕ) → (n ≡ 0) ⊎ (0 < n)
none-or-some zero = inl refl
none-or-some (suc n) = inr (omega arith)

module _ (d : Declarations) (g : LineCounts) (o : IsGivenInOrder d g) where
  -- while crates are left nothing else is given, and no question's line while checks are left
  pub none-behind-crates : g.crates < length d.crates - 1 → g.checks + g.questions ≡ 0
  none-behind-crates h = elim (none-or-some (g.checks + g.questions)) [ inl e ↦ e | inr p ↦ absurd (omega (arith, h, o.after_crates p)) ]

  pub none-behind-checks : g.checks < length d.checks → g.questions ≡ 0
  none-behind-checks h = elim (none-or-some g.questions) [ inl e ↦ e | inr p ↦ absurd (omega (arith, h, o.after_checks p)) ]

  pub crate-next : (limit : ℕ) (text : List ℕ) → g.crates < length d.crates - 1 → IsVerdictLine limit d (g.crates + 1) text → IsLineAt limit (Ok d) (lines_given g) text
  crate-next limit text h (v, is, e) =
      let at : g.crates ≡ lines_given g = omega (arith, o.faults, none-behind-crates h) in
      subst (λ n. IsLineAt limit (Ok d) n text) at (_, of_crate g.crates v h is, e)

  pub check-next : (limit : ℕ) (lines : KeptLines) (text : List ℕ) → IsNumbered d → g.crates ≡ length d.crates - 1 → KeepsLines limit d (length d.crates) lines → g.checks < length d.checks
      → HasKeptLineAt lines.checks.items g.checks text → IsLineAt limit (Ok d) (lines_given g) text
  check-next limit lines text num all kept h (l, at, e) =
      let is : IsCheckLineOf limit d g.checks l.text.items = kept-check limit d lines.checks.items num kept.checks g.checks l at in
      let place : length d.crates - 1 + g.checks ≡ lines_given g = omega (arith, o.faults, all, none-behind-checks h) in
      subst (λ n. IsLineAt limit (Ok d) n text) place (is.2.0, of_check g.checks is.0 is.2.0 is.1 is.2.1, e ∙ is.2.2)

  pub question-next : (limit : ℕ) (lines : KeptLines) (text : List ℕ) → IsNumbered d → g.crates ≡ length d.crates - 1 → g.checks ≡ length d.checks → KeepsLines limit d (length d.crates) lines
      → HasKeptLineAt lines.questions.items g.questions text → IsLineAt limit (Ok d) (lines_given g) text
  question-next limit lines text num all checked kept (l, at, e) =
      let is : IsLineOf limit d g.questions l.text.items = kept-line limit d lines.questions.items num kept.questions g.questions l at in
      let place : length d.crates - 1 + length d.checks + g.questions ≡ lines_given g = omega (arith, o.faults, all, checked) in
      subst (λ n. IsLineAt limit (Ok d) n text) place (is.2.0, of_question g.questions is.0 is.2.0 is.1 is.2.1, e ∙ is.2.2)

-- the line of a fault, once
pub fault-next : {A : Type 0} (items : A → List ℕ) (limit k n given new : ℕ) (next : Option A) → IfSome next (λ x. items x ≡ output_text (fault k n)) → CountsLine {A = A} {E = Unit {0}} 1 given new (Ok next)
    → IfSome next (λ x. IsLineAt limit (Err (k, n)) given (items x))
fault-next items limit k n given new None l c = tt
fault-next items limit k n given new (Some x) l c = (fault k n, (omega (arith, c.0), refl), l)

-- where nothing is given, all is
pub none-left : {A : Type 0} (count old new : ℕ) (next : Option A) → next ≡ None → CountsLine {A = A} {E = Unit {0}} count old new (Ok next) → old ≡ count
none-left count old new None e c = c.0
none-left count old new (Some x) e c = absurd cc

pub some-weaker : {A : Type 0} (items : A → List ℕ) (P Q : List ℕ → Type 0) (next : Option A) → ((text : List ℕ) → P text → Q text) → IfSome next (λ x. P (items x)) → IfSome next (λ x. Q (items x))
some-weaker items P Q None f h = tt
some-weaker items P Q (Some x) f h = f (items x) h
