use Rattle.std.proofs.Common.{◌∙◌, ap, map, sym, subst}
use Rattle.sessions.specs.Declarations.Held.{ImplHeld}
use Rattle.sessions.specs.Declarations.Promised.Elaboration.{Each}
use Rattle.sessions.specs.Later.{header_in, section_headers}
use Rattle.explain_sessions.proofs.LaterImpls.{cause-grown}
use Rattle.explain_sessions.proofs.breaking.breaking_cause.Goals as goal

pub cause_at-requires : goal.cause_at-requires
cause_at-requires c = subst (Each (ImplHeld c.added_impls.new.cx.interner.entries)) (sym c.deref.ensures.value) c.in_ok-impls.ensures.held

pub returns-clause-cause : goal.returns-clause-cause
returns-clause-cause c =
    let new = c.added_impls.new.cx in
    cause-grown c.args.cx.now new c.requires.ready c.in_ok-impls.ensures.advances (map (header_in new.interner.entries) c.deref.result.now) (section_headers c.args.workspace.now c.args.section)
    (ap (map (header_in new.interner.entries)) c.deref.ensures.value ∙ c.in_ok-impls.ensures.headers) c.args.number c.cause_at.result c.cause_at.ensures
