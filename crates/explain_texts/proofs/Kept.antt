-- What a message keeps over several calls.
use Rattle.std.proofs.Common.{◌≡◌, ℕ, true, false, List, [], ◌∷◌, ◌++◌, Option, Result, Ok, Err, ap, ◌∙◌}
use Rattle.std.specs.Prelude.{IfOk, OnOk}
use Rattle.explain_diagnostics.specs.declared.diagnostic.Diagnostic.{Diagnostic}
use Rattle.explain_diagnostics.specs.declared.diagnostic.ErrCode.{ErrCode}
use Rattle.explain_diagnostics.specs.declared.diagnostic.Level.{Level}
use Rattle.explain_diagnostics.specs.declared.span.Span.{Span}
use Rattle.messages.specs.Told.{AddsMark, IsAbout, KeepsMessage, marks}
use Rattle.messages.specs.declared.telling.Telling.{Telling}

pub keeps-then : (a b c : Telling) → KeepsMessage a b → KeepsMessage b c → KeepsMessage a c
keeps-then a b c first second = record {
  level = second.level ∙ first.level;
  code = second.code ∙ first.code;
  marks = second.marks ∙ first.marks;
  refused = λ h. first.refused (second.refused h);
}

-- A message that began without marks, got one, and kept it until it was finished.
pub about-one : {E : Type 0} (level : Level) (code : Option ErrCode) (span : Span) (text : List ℕ) (begun at left : Telling) (r : Result Diagnostic E)
    → begun.told.level ≡ level → begun.told.code ≡ code → begun.told.spans.items ≡ []
    → (at.is_refused ≡ false → AddsMark begun.told at.told span true text) → KeepsMessage at left
    → IfOk r (λ (d : Diagnostic). d ≡ left.told) → OnOk r (left.is_refused ≡ false) → IfOk r (IsAbout level code span)
about-one level code span text begun at left (Ok d) is_level is_code none adds keeps whole granted =
    let mark = adds (keeps.refused granted) in
    record {
      level_is = ap (λ (x : Diagnostic). x.level) whole ∙ keeps.level ∙ ap (λ (x : Diagnostic). x.level) mark.rest ∙ is_level;
      code_is = ap (λ (x : Diagnostic). x.code) whole ∙ keeps.code ∙ ap (λ (x : Diagnostic). x.code) mark.rest ∙ is_code;
      marked = ap (λ (x : Diagnostic). marks x.spans.items) whole ∙ ap (λ s. marks s.items) keeps.marks ∙ mark.marked ∙ ap (λ l. marks l ++ (span, true) ∷ []) none;
    }
about-one level code span text begun at left (Err e) is_level is_code none adds keeps whole granted = tt
