use Rattle.std.proofs.Common.{refl}
use Rattle.orphan_check.specs.declared.errors.OrphanCheckMode.TheVariants.{Proper}
use Rattle.overlap_check.proofs.Walked.{passes, breaks, never-deep}
use Rattle.overlap_check.proofs.orphans.walk_error.Goals as goal

pub unreachable-requires : goal.unreachable-requires
unreachable-requires c =
    never-deep c.args.cx.now.entries c.args.declarations.now c.args.trait_ref Proper c.args.table.now c.requires.unvalued c.depth-limit.result c.orphan_check_trait_ref.result
    (c.orphan_check_trait_ref.ensures.exact (λ t. refl)) c.in-Err.error c.in-Err.is c.in-Deep.is c.depth-limit.ensures

pub returns-in-Ok-answer-clause-found : goal.returns-in-Ok-answer-clause-found
returns-in-Ok-answer-clause-found c =
    passes c.args.cx.now.entries c.args.declarations.now c.args.trait_ref Proper c.args.table.now c.requires.unvalued c.depth-limit.result c.orphan_check_trait_ref.result
    (c.orphan_check_trait_ref.ensures.exact (λ t. refl)) c.in-Ok.answer c.in-Ok-answer.field-0 c.in-Ok.is c.in-Ok-answer.is

pub returns-in-Err-answer-clause-found : goal.returns-in-Err-answer-clause-found
returns-in-Err-answer-clause-found c =
    breaks c.args.cx.now.entries c.args.declarations.now c.args.trait_ref Proper c.args.table.now c.requires.unvalued c.depth-limit.result c.orphan_check_trait_ref.result
    (c.orphan_check_trait_ref.ensures.exact (λ t. refl)) c.in-Ok.answer c.in-Err-answer.error c.in-Ok.is c.in-Err-answer.is
