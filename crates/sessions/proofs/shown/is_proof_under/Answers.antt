use Rattle.std.proofs.Common.{List}
use Rattle.type_terms.specs.Kept.{args-held-later}
use Rattle.type_terms.specs.Promised.Handles.{Entry}
use Rattle.declarations.proofs.Growth.{reference-kept, references-kept}
use Rattle.proof_checker.proofs.Later.{steps-kept}
use Rattle.proof_checker.proofs.Results.{mapped}
use Rattle.solver_graph.proofs.Growing.{further}
use Rattle.candidate_assembly.specs.Ready.{AreReadyDeclarations}
use Rattle.candidate_assembly.specs.declared.solver.Solver.{Solver}
use Rattle.sessions.proofs.ShownProofs.{shown-under}
use Rattle.sessions.proofs.shown.is_proof_under.Goals as goal

abbrev ready : Solver → List Entry → Type 0
ready h es = AreReadyDeclarations es h.declarations

pub question_table_in-requires : goal.question_table_in-requires
question_table_in-requires c = c.requires.ready

pub resolve_reference_in-requires-clause-ready : goal.resolve_reference_in-requires-clause-ready
resolve_reference_in-requires-clause-ready c = c.question_table_in.ensures.advances.ready

pub resolve_reference_in-requires-clause-table : goal.resolve_reference_in-requires-clause-table
resolve_reference_in-requires-clause-table c = c.in_ok-table.ensures.ready

pub resolve_reference_in-requires-clause-reference : goal.resolve_reference_in-requires-clause-reference
resolve_reference_in-requires-clause-reference c =
    reference-kept c.args.cx.now.interner.entries c.question_table_in.new.cx.interner.entries c.question_table_in.ensures.advances.entries c.args.asked c.requires.asked

pub resolve_reference_in-requires-clause-unknowns : goal.resolve_reference_in-requires-clause-unknowns
resolve_reference_in-requires-clause-unknowns c =
    args-held-later c.args.cx.now.interner.entries c.question_table_in.new.cx.interner.entries c.question_table_in.ensures.advances.entries c.args.unknowns.now c.requires.unknowns

pub resolve_reference_in-requires-clause-values : goal.resolve_reference_in-requires-clause-values
resolve_reference_in-requires-clause-values c =
    args-held-later c.args.cx.now.interner.entries c.question_table_in.new.cx.interner.entries c.question_table_in.ensures.advances.entries c.args.values.now c.requires.values

pub is_proof_in-requires-clause-ready : goal.is_proof_in-requires-clause-ready
is_proof_in-requires-clause-ready c = c.resolve_reference_in.ensures.advances.ready

pub is_proof_in-requires-clause-clauses : goal.is_proof_in-requires-clause-clauses
is_proof_in-requires-clause-clauses c =
    references-kept c.args.cx.now.interner.entries c.resolve_reference_in.new.cx.interner.entries (λ i e h. c.resolve_reference_in.ensures.advances.entries i e (c.question_table_in.ensures.advances.entries i e h))
    c.args.clauses.now c.requires.clauses

pub is_proof_in-requires-clause-asked : goal.is_proof_in-requires-clause-asked
is_proof_in-requires-clause-asked c = c.in_ok-instance.ensures.held

pub is_proof_in-requires-clause-steps : goal.is_proof_in-requires-clause-steps
is_proof_in-requires-clause-steps c =
    steps-kept c.args.cx.now.interner.entries c.resolve_reference_in.new.cx.interner.entries (λ i e h. c.resolve_reference_in.ensures.advances.entries i e (c.question_table_in.ensures.advances.entries i e h))
    c.args.steps.now c.requires.steps

pub returns-in_err-table-clause-advances : goal.returns-in_err-table-clause-advances
returns-in_err-table-clause-advances c = c.question_table_in.ensures.advances

pub returns-in_err-instance-clause-advances : goal.returns-in_err-instance-clause-advances
returns-in_err-instance-clause-advances c =
    further ready c.args.cx.now c.question_table_in.new.cx c.resolve_reference_in.new.cx c.question_table_in.ensures.advances c.resolve_reference_in.ensures.advances

pub returns-clause-advances : goal.returns-clause-advances
returns-clause-advances c =
    further ready c.args.cx.now c.resolve_reference_in.new.cx c.is_proof_in.new.cx
    (further ready c.args.cx.now c.question_table_in.new.cx c.resolve_reference_in.new.cx c.question_table_in.ensures.advances c.resolve_reference_in.ensures.advances) c.is_proof_in.ensures.advances

pub returns-clause-proof : goal.returns-clause-proof
returns-clause-proof c =
    let old = c.args.cx.now in
    let mid = c.question_table_in.new.cx in
    let new = c.resolve_reference_in.new.cx in
    mapped _ _ c.is_proof_in.result
    (λ b proof q.
    shown-under old mid new c.requires.ready c.question_table_in.ensures.advances c.resolve_reference_in.ensures.advances c.args.clauses.now c.requires.clauses c.args.asked c.requires.asked c.args.steps.now c.requires.steps
    c.in_ok-instance.instance c.in_ok-instance.ensures.resolved (proof q))
    c.is_proof_in.ensures.proof
