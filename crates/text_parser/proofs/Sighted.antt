-- What the names of a line are looked up in is what the line knows.
use Rattle.std.proofs.Common.{◌≡◌, sym, ap, ◌∙◌, subst}
use Rattle.text_language.specs.Promised.Syntax.{Line}
use Rattle.text_language.specs.Promised.Declarations.{Declarations}
use Rattle.text_language.specs.Promised.Faults.{with_own}
use Rattle.text_lines.specs.Lines.{ReadsLine}
use Rattle.text_lines.specs.Statement.{line_statement}
use Rattle.text_lines.specs.Views.{statement_of}
use Rattle.text_lines.specs.declared.statement.LineRead.{LineRead}
use Rattle.text_names.specs.Machine.{Sight}
use Rattle.text_names.specs.Speaks.{Speaks}
use Rattle.text_names.proofs.Bare.{same-items, same-params}
use Rattle.text_parser.specs.BareLines.{bare_line}
use Rattle.text_parser.specs.Sights.{IsSightOfRead, sight_at}
use Rattle.text_parser.proofs.Ordering.{line-ordered, speaks-bare}

-- it speaks of whichever line was read
pub speaks : (read : LineRead) (v : Sight) → v.line ≡ bare_line (statement_of read.statement) → (l : Line) → ReadsLine l read → Speaks v.line (line_statement l)
speaks read v e l r = subst (λ x. Speaks x (line_statement l)) (sym (e ∙ ap bare_line r.0)) (speaks-bare (line_statement l) (line-ordered l))

pub sighted : (d : Declarations) (read : LineRead) (v : Sight) → v.before ≡ d → v.line ≡ bare_line (statement_of read.statement) → IsSightOfRead d read v
sighted d read v b e = record {
  before = b;
  line = e;
  items = λ l r. same-items v l (speaks read v e l r) ∙ ap (λ x. with_own x l) b;
  params = λ l r. same-params v l (speaks read v e l r);
}

-- there is one such
pub same-sight : (d : Declarations) (read : LineRead) (v : Sight) → IsSightOfRead d read v → v ≡ sight_at d read
same-sight d read v s =
    let at : Declarations → Line → Sight = λ x l. record { before = x; line = l } in
    ap (λ x. at x v.line) s.before ∙ ap (at d) s.line
