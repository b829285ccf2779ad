use Rattle.std.proofs.Common.{sym, subst, ◌∙◌, ap, ◌++◌}
use Rattle.type_terms.specs.Promised.Handles.{ArgsHeld}
use Rattle.type_terms.specs.Kept.{args-held-later}
use Rattle.infer_table.proofs.PartFacts.{args-held-append}
use Rattle.explain_traces.proofs.opening.values_of.Goals as goal

pub returns-clause-held : goal.returns-clause-held
returns-clause-held c =
    let es = c.next_values.new.cx.entries in
    subst (ArgsHeld es) (sym (c.in_ok-extend_from_slice.ensures.items ∙ ap (λ z. z ++ c.deref-2.result.now) c.in_ok-all.ensures.items ∙ ap (λ z. c.args.values.now ++ z) c.deref-2.ensures.value))
    (args-held-append es c.args.values.now c.in_ok-own.own.items (args-held-later c.args.cx.now.entries es c.next_values.ensures.terms.grew.keeps c.args.values.now c.requires.values) c.in_ok-own.ensures.args)
