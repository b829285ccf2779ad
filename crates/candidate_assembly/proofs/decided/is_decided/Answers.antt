use Rattle.std.proofs.Common.{sym, ap, ◌∙◌, Some, None, if◌then◌else◌}
use Rattle.type_terms.specs.Promised.Handles.{trees_at}
use Rattle.candidate_model.specs.Asking.{begins_unknown, with_plain_head}
use Rattle.built_in_candidates.specs.Goals.{asked_of}
use Rattle.candidate_assembly.proofs.Deciding.{decided-fits, decided-is}
use Rattle.candidate_assembly.proofs.decided.is_decided.Goals as goal

pub returns-clause-is : goal.returns-clause-is
returns-clause-is c =
    let es = c.args.cx.now.entries in
    let g = c.args.goal.now in
    let T = trees_at es g.goal.predicate.trait_ref.args.0 in
    decided-is es c.args.declarations.now g (c.is_asked.ensures ∙ ap (λ b. if b then Some (asked_of es g) else None) c.if-not-is_asked.false) c.requires.fields c.requires.well
    (sym c.reference_fits.ensures ∙ c.if-not-reference_fits.false) c.argument_is_unknown.result
    (c.argument_is_unknown.ensures T c.first_argument-first.ensures ∙ ap (λ ks. begins_unknown ks (with_plain_head T)) c.deref.ensures.value)

pub returns-clause-fits : goal.returns-clause-fits
returns-clause-fits c = λ _.
    let es = c.args.cx.now.entries in
    let g = c.args.goal.now in
    decided-fits es c.args.declarations.now g (c.is_asked.ensures ∙ ap (λ b. if b then Some (asked_of es g) else None) c.if-not-is_asked.false)
    (sym c.reference_fits.ensures ∙ c.if-not-reference_fits.false)
