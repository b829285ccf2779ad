use Rattle.std.proofs.Common.{◌∙◌, ap, sym}
use Rattle.type_terms.specs.Promised.Trees.{leaf, ◌+++◌}
use Rattle.type_terms.specs.Promised.Worlds.{Reference}
use Rattle.type_terms.specs.Promised.Handles.{trees_at}
use Rattle.declarations.specs.Items.{reference_in}
use Rattle.declarations.proofs.Growth.{reference-kept, reference-same}
use Rattle.candidate_model.specs.Candidates.{can_be}
use Rattle.built_in_candidates.proofs.Objects.{written-none, written-some}
use Rattle.built_in_candidates.proofs.object.count_written.Goals as goal

pub can_be-requires-clause-asked : goal.can_be-requires-clause-asked
can_be-requires-clause-asked c = reference-kept c.args.cx.now.entries c.type_asked.new.cx.entries c.type_asked.ensures.terms.grew.keeps c.args.object.asked c.requires.asked

pub returns-then-autos-eq0-clause-is : goal.returns-then-autos-eq0-clause-is
returns-then-autos-eq0-clause-is c = λ l h.
    let es = c.args.cx.now.entries in
    let S = trees_at es c.args.object.self_ty.0 in
    written-none (reference_in es c.args.object.asked) S (trees_at es c.args.object.bounds.0 +++ leaf l) c.count_autos-autos.result (c.count_autos-autos.ensures S l h) c.if-autos-eq0.true

pub returns-then-can_be-clause-is : goal.returns-then-can_be-clause-is
returns-then-can_be-clause-is c = λ l h.
    let es = c.args.cx.now.entries in
    let new = c.type_asked.new.cx.entries in
    let q = reference_in es c.args.object.asked in
    let S = trees_at es c.args.object.self_ty.0 in
    written-some q S (trees_at es c.args.object.bounds.0 +++ leaf l) c.count_autos-autos.result (c.count_autos-autos.ensures S l h) _
    (sym c.if-can_be.true ∙ c.can_be.ensures
    ∙ ap (λ (x : Reference). can_be x (reference_in new c.in_ok-bound.bound)) (reference-same es new c.type_asked.ensures.terms.grew.keeps c.args.object.asked c.requires.asked) ∙ ap (can_be q) c.in_ok-bound.ensures.is)

pub returns-else-can_be-clause-is : goal.returns-else-can_be-clause-is
returns-else-can_be-clause-is c = λ l h.
    let es = c.args.cx.now.entries in
    let new = c.type_asked.new.cx.entries in
    let q = reference_in es c.args.object.asked in
    let S = trees_at es c.args.object.self_ty.0 in
    written-some q S (trees_at es c.args.object.bounds.0 +++ leaf l) c.count_autos-autos.result (c.count_autos-autos.ensures S l h) _
    (sym c.if-can_be.false ∙ c.can_be.ensures
    ∙ ap (λ (x : Reference). can_be x (reference_in new c.in_ok-bound.bound)) (reference-same es new c.type_asked.ensures.terms.grew.keeps c.args.object.asked c.requires.asked) ∙ ap (can_be q) c.in_ok-bound.ensures.is)
