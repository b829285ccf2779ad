use Rattle.std.proofs.Common.{refl, sym, ap, ◌∙◌, subst}
use Rattle.type_terms.specs.Promised.Label.{static}
use Rattle.goal_evaluator.specs.Merge.{if_there}
use Rattle.declarations.specs.Items.{written}
use Rattle.declarations.specs.Promised.Elaboration.{Each, elaborate}
use Rattle.declarations.specs.Applied.{references_in}
use Rattle.declarations.proofs.Bounded.{all-same}
use Rattle.declarations.proofs.Growth.{all-held, all-written}
use Rattle.declarations.proofs.Elaborating.{have-bounds-later}
use Rattle.built_in_candidates.specs.Objects.{AreArgumentsOf}
use Rattle.built_in_candidates.proofs.Noted.{noted-later}
use Rattle.built_in_candidates.proofs.Objects.{applied-in}
use Rattle.built_in_candidates.proofs.dyn_type.noted_principal.Goals as goal

pub note_elaborated-requires-clause-declared : goal.note_elaborated-requires-clause-declared
note_elaborated-requires-clause-declared c = all-held c.args.cx.now.entries c.principal_with.new.cx.entries c.principal_with.ensures.terms.grew.keeps c.args.declarations.now c.requires.declared

pub note_elaborated-requires-clause-bounds : goal.note_elaborated-requires-clause-bounds
note_elaborated-requires-clause-bounds c = have-bounds-later c.args.cx.now.entries c.principal_with.new.cx.entries c.principal_with.ensures.terms.grew.keeps c.args.declarations.now c.requires.declared c.requires.traits

pub note_elaborated-requires-clause-applied : goal.note_elaborated-requires-clause-applied
note_elaborated-requires-clause-applied c =
    let d = c.args.declarations.now in
    applied-in c.principal_with.new.cx.entries d (if_there c.in_ok-principal.principal) (subst (Each (AreArgumentsOf d)) (sym (c.in_ok-principal.ensures.is static refl)) (c.requires.applied static refl))

pub note_elaborated-requires-clause-notes : goal.note_elaborated-requires-clause-notes
note_elaborated-requires-clause-notes c = noted-later c.args.cx.now.entries c.principal_with.new.cx.entries c.args.declarations.now c.args.notes.now.items c.principal_with.ensures.terms.grew.keeps c.requires.notes

pub returns-clause-elaborated : goal.returns-clause-elaborated
returns-clause-elaborated c = λ l h.
    let old = c.args.cx.now.entries in
    let mid = c.principal_with.new.cx.entries in
    let d = c.args.declarations.now in
    c.in_ok-note_elaborated.ensures.are
    ∙ ap (λ V. elaborate V (references_in mid (if_there c.in_ok-principal.principal))) (all-written old mid c.principal_with.ensures.terms.grew.keeps d c.requires.declared)
    ∙ ap (elaborate (written old d)) (c.in_ok-principal.ensures.is l h)

pub returns-clause-principal : goal.returns-clause-principal
returns-clause-principal c = λ l h.
    all-same c.principal_with.new.cx.entries c.note_elaborated.new.cx.entries c.note_elaborated.ensures.terms.grew.keeps (if_there c.in_ok-principal.principal) c.in_ok-principal.ensures.held
    ∙ c.in_ok-principal.ensures.is l h
