use Rattle.declarations.specs.Items.{reference_in}
use Rattle.built_in_candidates.proofs.Noted.{can-be-noted}
use Rattle.built_in_candidates.proofs.dyn_type.note_elaborated.Goals as goal

pub returns-in_ok-notes-in-Some-clause-notes : goal.returns-in_ok-notes-in-Some-clause-notes
returns-in_ok-notes-in-Some-clause-notes c =
    let x = c.in_ok-notes-in-Some in
    can-be-noted c.args.cx.now.entries c.elaborate.new.cx.entries c.args.declarations.now (reference_in c.args.cx.now.entries c.in-Some.trait_ref) x.field-0.items
    c.elaborate.ensures.terms.grew.keeps c.requires.declared x.ensures.held x.ensures.are
