use Rattle.std.proofs.Common.{◌∙◌, arith, length, refl, slice_index_or}
use Rattle.type_terms.specs.Promised.Handles.{types}
use Rattle.type_terms.proofs.Entries.{has-below}
use Rattle.type_terms.proofs.InfoFacts.{tys-next, ty-held-at, within-default}
use Rattle.type_terms.proofs.interner.Interner.tys_info.Goals as goal

pub info-requires : goal.info-requires
info-requires c =
    let ty = slice_index_or c.args.list.now c.loop-ty.ty-index (record { 0 = 0 }) in
    let es = c.args.self.now.entries in
    has-below es types _ (length es) refl
    (ty-held-at es c.args.list.now c.loop-ty.ty-index ty c.requires (omega arith) (within-default c.args.list.now c.loop-ty.ty-index (record { 0 = 0 }) ty (omega arith)))

pub loop-ty-preserved : goal.loop-ty-preserved
loop-ty-preserved c =
    let ty = slice_index_or c.args.list.now c.loop-ty.ty-index (record { 0 = 0 }) in
    c.join-info.ensures
    ∙ rw (c.loop-ty.invariant, c.info.ensures.is)
    (tys-next c.args.self.now.entries c.args.list.now c.loop-ty.ty-index ty (omega arith) (within-default c.args.list.now c.loop-ty.ty-index (record { 0 = 0 }) ty (omega arith)))
