use Rattle.std.proofs.Common.{subst, sym, Ok}
use Rattle.std.proofs.lemmas.Result.{err_from_is_err_and}
use Rattle.text_language.specs.Text.{LinesGive, TextGives, fits, lines_of}
use Rattle.text_tables.specs.Tables.{declared}
use Rattle.text_parser.specs.Outcomes.{AreRefused}
use Rattle.text_parser.proofs.Taking.{too_far, not_far, refusal_is}
use Rattle.text_parser.proofs.text.read_text.Goals as goal

pub returns-in-Some-clause-refused : goal.returns-in-Some-clause-refused
returns-in-Some-clause-refused c = too_far _ _ _ c.long_line.ensures c.in-Some.is

pub returns-in_err-take_lines-clause-refused : goal.returns-in_err-take_lines-clause-refused
returns-in_err-take_lines-clause-refused c =
    let p = err_from_is_err_and c.from_residual-in_err-take_lines.result c.from_residual-in_err-take_lines.ensures.1 in
    let given = subst (λ d. AreRefused d (lines_of c.args.bytes.now) c.in_err-take_lines.field-0.0) c.in_ok-tables.ensures.declared c.in_err-take_lines.ensures.refused in
    rw (p.1, p.2) (refusal_is c.args.bytes.now c.in_err-take_lines.field-0.0 (not_far _ _ c.long_line.ensures c.in_default.is) given)

pub returns-clause-taken : goal.returns-clause-taken
returns-clause-taken c =
    let given = subst (λ d. LinesGive d 1 (lines_of c.args.bytes.now) (Ok (declared c.take_lines.new.tables))) c.in_ok-tables.ensures.declared c.in_ok-take_lines.ensures.taken in
    subst (λ d. TextGives c.args.bytes.now (Ok d)) (sym c.new-2.ensures) (fits (Ok (declared c.take_lines.new.tables)) (not_far _ _ c.long_line.ensures c.in_default.is) given)
