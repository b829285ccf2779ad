use Rattle.std.proofs.Common.{refl, ap, subst}
use Rattle.sessions.specs.InferTable.Content.{Table}
use Rattle.sessions.specs.Declarations.Items.{declared, reference_in}
use Rattle.sessions.specs.OrphanCheck.Exact.{WalkTellsKnown}
use Rattle.explain_sessions.proofs.UnseenCrates.{unread, told-known, told-conflict, never-deep}
use Rattle.explain_sessions.proofs.unseen.conflict_of.Goals as goal

pub returns-in-Ok-Ok : goal.returns-in-Ok-Ok
returns-in-Ok-Ok c =
    let es = c.args.cx.now.entries in
    let d = c.args.declarations.now in
    let told = subst (λ r. WalkTellsKnown (declared es d) d.local c.depth-limit.result r c.trait_ref_is_knowable.result) (unread es c.new-table.result (ap (λ (t : Table). t.values) c.new-table.ensures) c.args.reference)
    (c.trait_ref_is_knowable.ensures.exact (λ t. refl)) in
    told-known (declared es d) d.local c.depth-limit.result (reference_in es c.args.reference) c.trait_ref_is_knowable.result told c.in-Ok-Ok.field-0 c.in-Ok-Ok.field-0-0 c.in-Ok-Ok.is c.in-Ok-Ok.field-0-is

pub returns-in-Ok-Err : goal.returns-in-Ok-Err
returns-in-Ok-Err c =
    let es = c.args.cx.now.entries in
    let d = c.args.declarations.now in
    let told = subst (λ r. WalkTellsKnown (declared es d) d.local c.depth-limit.result r c.trait_ref_is_knowable.result) (unread es c.new-table.result (ap (λ (t : Table). t.values) c.new-table.ensures) c.args.reference)
    (c.trait_ref_is_knowable.ensures.exact (λ t. refl)) in
    told-conflict (declared es d) d.local c.depth-limit.result (reference_in es c.args.reference) c.trait_ref_is_knowable.result told c.in-Ok-Err.field-0 c.in-Ok-Err.conflict c.in-Ok-Err.is c.in-Ok-Err.field-0-is

pub unreachable-requires : goal.unreachable-requires
unreachable-requires c =
    let es = c.args.cx.now.entries in
    let d = c.args.declarations.now in
    let told = subst (λ r. WalkTellsKnown (declared es d) d.local c.depth-limit.result r c.trait_ref_is_knowable.result) (unread es c.new-table.result (ap (λ (t : Table). t.values) c.new-table.ensures) c.args.reference)
    (c.trait_ref_is_knowable.ensures.exact (λ t. refl)) in
    never-deep (declared es d) d.local c.depth-limit.result (reference_in es c.args.reference) c.trait_ref_is_knowable.result told c.in-Err-Deep.field-0 c.in-Err-Deep.is c.in-Err-Deep.field-0-is c.depth-limit.ensures
