use Rattle.std.proofs.Common.{length, count_by, ap, sym, ◌∙◌}
use Rattle.std.specs.Prelude.{◌==◌, filter}
use Rattle.type_terms.specs.Promised.Worlds.{Reference}
use Rattle.type_terms.specs.declared.TraitId.{TraitId}
use Rattle.built_in_candidates.proofs.Objects.{autos-at, autos-counted}
use Rattle.built_in_candidates.proofs.dyn_type.count_autos.Goals as goal

pub returns : goal.returns
returns c = λ self l h.
    let t = c.args.def_id.index in
    let autos = c.bounds.result.now.autos.items in
    c.count_of.ensures ∙ ap (count_by (λ (x : TraitId). x.index == t)) c.deref.ensures.value ∙ autos-counted self t autos
    ∙ ap (λ rs. length (filter (λ (r : Reference). r.trait == t) rs)) (sym (autos-at c.args.cx.now.entries self c.args.bounds.0 c.bounds.result.now c.bounds.ensures.is l h))
