use Rattle.std.proofs.Common.{refl, ap, sym, ◌∙◌}
use Rattle.infer_table.specs.Content.{Table}
use Rattle.declarations.specs.Items.{reference_in, written}
use Rattle.candidate_assembly.proofs.Knowing.{closed-known, known-by, never-deep}
use Rattle.candidate_assembly.proofs.knowable.is_knowable.Goals as goal

pub returns-then-is_own_and_closed-clause-is : goal.returns-then-is_own_and_closed-clause-is
returns-then-is_own_and_closed-clause-is c =
    let es = c.args.cx.now.entries in
    let d = c.args.declarations.now in
    closed-known (written es d) d.local (reference_in es c.args.trait_ref) c.requires.declared (sym c.is_own_and_closed.ensures ∙ c.if-is_own_and_closed.true)

pub returns-in-Ok-clause-is : goal.returns-in-Ok-clause-is
returns-in-Ok-clause-is c =
    known-by c.args.cx.now.entries c.args.declarations.now c.args.trait_ref c.new-infcx.result (ap (λ (t : Table). t.values) c.new-infcx.ensures) c.depth-limit.result
    c.trait_ref_is_knowable.result (c.trait_ref_is_knowable.ensures.exact (λ t. refl)) c.in-Ok.answer c.in-Ok.is c.is_known.result c.is_known.ensures c.requires.declared

pub unreachable-requires : goal.unreachable-requires
unreachable-requires c =
    never-deep c.args.cx.now.entries c.args.declarations.now c.args.trait_ref c.new-infcx.result (ap (λ (t : Table). t.values) c.new-infcx.ensures) c.depth-limit.result
    c.trait_ref_is_knowable.result (c.trait_ref_is_knowable.ensures.exact (λ t. refl)) c.in-Err.error c.in-Err.is c.in-Deep.is c.depth-limit.ensures
