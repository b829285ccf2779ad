use Rattle.sessions.proofs.TypeTerms.Grown.{grew-on}
use Rattle.sessions.proofs.Declarations.Growth.{reference-kept}
use Rattle.sessions.specs.CandidateAssembly.Kept.{ready-kept}
use Rattle.sessions.specs.ProofChecker.Steps.{term_of}
use Rattle.sessions.proofs.ProofChecker.Later.{term-same}
use Rattle.sessions.proofs.ProofChecker.Results.{mapped}
use Rattle.explain_sessions.proofs.FreeGoals.{free-by}
use Rattle.explain_sessions.proofs.free.is_free.Goals as goal

pub instance_in-requires-clause-held : goal.instance_in-requires-clause-held
instance_in-requires-clause-held c = reference-kept c.args.cx.now.entries c.table_of_new.new.cx.entries c.table_of_new.ensures.grew.keeps c.args.reference c.requires.reference

pub has_no_impl-requires-clause-ready : goal.has_no_impl-requires-clause-ready
has_no_impl-requires-clause-ready c =
    let g = grew-on c.table_of_new.ensures.grew c.instance_in.ensures.grew in
    ready-kept c.args.declarations.now c.args.cx.now.entries c.instance_in.new.cx.entries g.keeps c.requires.ready

pub returns-clause-free : goal.returns-clause-free
returns-clause-free c =
    let es = c.args.cx.now.entries in
    let before = c.table_of_new.new.cx.entries in
    let now = c.instance_in.new.cx.entries in
    let g = grew-on c.table_of_new.ensures.grew c.instance_in.ensures.grew in
    let d = c.args.declarations.now in
    mapped _ _ c.has_no_impl.result
    (λ b f h. free-by _ _ (c.declarations_are_kept.ensures.declares es now d g.keeps c.requires.ready.held) (term_of before c.args.reference) (term_of es c.args.reference)
    (term-same es before c.table_of_new.ensures.grew.keeps c.args.reference c.requires.reference) (term_of now c.in_ok-instance.instance) c.in_ok-instance.ensures.instance (f h))
    c.has_no_impl.ensures.none
