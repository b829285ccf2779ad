use Rattle.sessions.specs.Declarations.Items.{declared}
use Rattle.sessions.proofs.Declarations.Growth.{reference-kept}
use Rattle.sessions.specs.CandidateAssembly.Kept.{ready-kept}
use Rattle.sessions.specs.ProofChecker.Steps.{term_of}
use Rattle.sessions.proofs.ProofChecker.Later.{term-same}
use Rattle.sessions.proofs.ProofChecker.Results.{mapped}
use Rattle.explain_sessions.proofs.RuleCandidates.{may-have-before}
use Rattle.explain_sessions.proofs.instances.may_follow.Goals as goal

pub has_instance_by-requires-clause-ready : goal.has_instance_by-requires-clause-ready
has_instance_by-requires-clause-ready c = ready-kept c.args.declarations.now c.args.cx.now.entries c.table_for_goals.new.cx.entries c.table_for_goals.ensures.grew.keeps c.requires.ready

pub has_instance_by-requires-clause-reference : goal.has_instance_by-requires-clause-reference
has_instance_by-requires-clause-reference c = reference-kept c.args.cx.now.entries c.table_for_goals.new.cx.entries c.table_for_goals.ensures.grew.keeps c.args.reference c.requires.reference

pub returns-clause-rule : goal.returns-clause-rule
returns-clause-rule c =
    let es = c.args.cx.now.entries in
    let now = c.table_for_goals.new.cx.entries in
    let k = c.table_for_goals.ensures.grew.keeps in
    let d = c.args.declarations.now in
    let r = c.args.reference in
    mapped _ _ c.has_instance_by.result
    (λ b f q. may-have-before (declared now d) (declared es d) (c.declarations_are_kept.ensures.declares es now d k c.requires.ready.held) (term_of now r) (term_of es r) (term-same es now k r c.requires.reference) c.args.id.index (f q))
    c.has_instance_by.ensures.rule
