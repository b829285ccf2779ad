use Rattle.std.proofs.Common.{◌∙◌, Err, ap, sym, subst, refl}
use Rattle.text_lines.specs.Lines.{SpellsLine}
use Rattle.text_lines.specs.TokenViews.{tokens_in}
use Rattle.text_lines.specs.WrittenLines.{has_types}
use Rattle.text_parser.proofs.Formed.{unspelled-form, read-form}
use Rattle.text_parser.proofs.form.form_of_tokens.Goals as goal

pub returns-then-has_types : goal.returns-then-has_types
returns-then-has_types c = (refl, ap (λ z. has_types (tokens_in z)) (sym c.deref.ensures.value) ∙ sym c.has_types.ensures ∙ c.if-has_types.true)

pub returns-in-Err-Syntax : goal.returns-in-Err-Syntax
returns-in-Err-Syntax c =
    let free = ap (λ z. has_types (tokens_in z)) (sym c.deref.ensures.value) ∙ sym c.has_types.ensures ∙ c.if-has_types.false in
    unspelled-form (tokens_in c.args.found.items) free (λ l s. c.line_of_tokens.ensures.refused (c.in-Err-Syntax.is ∙ ap Err c.in-Err-Syntax.field-0-is) l (ap tokens_in c.deref-2.ensures.value ∙ s))

pub returns : goal.returns
returns c = read-form (tokens_in c.args.found.items) c.in-Ok.read (subst (λ z. SpellsLine (tokens_in z) c.in-Ok.read) c.deref-2.ensures.value c.in-Ok.ensures.found)
