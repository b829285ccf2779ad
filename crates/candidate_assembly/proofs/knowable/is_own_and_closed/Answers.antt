use Rattle.std.proofs.Common.{sym, ap, ◌∙◌, not, ◌&&◌}
use Rattle.type_terms.specs.Promised.Answers.{is_closed}
use Rattle.type_terms.specs.Promised.Handles.{trees_at}
use Rattle.candidate_assembly.proofs.Knowing.{own-same}
use Rattle.candidate_assembly.proofs.knowable.is_own_and_closed.Goals as goal

pub returns-then-trait_ref_is_local_or_fundamental : goal.returns-then-trait_ref_is_local_or_fundamental
returns-then-trait_ref_is_local_or_fundamental c =
    let es = c.args.cx.now.entries in
    let own = sym (own-same es c.args.declarations.now c.args.trait_ref) ∙ sym (c.trait_ref_is_local_or_fundamental.ensures es) ∙ c.if-trait_ref_is_local_or_fundamental.true in
    ap not c.has_open_places.ensures ∙ sym (ap (λ b. b && is_closed (trees_at es c.args.trait_ref.args.0)) own)

pub returns-else-trait_ref_is_local_or_fundamental : goal.returns-else-trait_ref_is_local_or_fundamental
returns-else-trait_ref_is_local_or_fundamental c =
    let es = c.args.cx.now.entries in
    let own = sym (own-same es c.args.declarations.now c.args.trait_ref) ∙ sym (c.trait_ref_is_local_or_fundamental.ensures es) ∙ c.if-trait_ref_is_local_or_fundamental.false in
    c.if-trait_ref_is_local_or_fundamental.false ∙ sym (ap (λ b. b && is_closed (trees_at es c.args.trait_ref.args.0)) own)
