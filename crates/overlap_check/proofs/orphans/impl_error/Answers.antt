use Rattle.std.proofs.Common.{sym, ◌∙◌}
use Rattle.type_terms.specs.Promised.Erased.{erased_impl}
use Rattle.declarations.specs.Items.{declared, impl_in}
use Rattle.overlap_check.specs.Orphans.{IsErrorOf, IsHeaderError}
use Rattle.overlap_check.proofs.Judged.{ok-then, not-there, own-home, other-home, found-well}
use Rattle.overlap_check.proofs.orphans.impl_error.Goals as goal

pub returns-in_default-clause-found : goal.returns-in_default-clause-found
returns-in_default-clause-found c =
    let es = c.args.cx.now.entries in
    let d = c.args.declarations.now in not-there (declared es d) c.args.id.index d.local es (c.in_default.ensures.found es)

pub header_error-requires-clause-impl_held : goal.header_error-requires-clause-impl_held
header_error-requires-clause-impl_held c = c.in-Some.ensures.held c.args.cx.now.entries c.requires.held

pub header_error-requires-clause-written : goal.header_error-requires-clause-written
header_error-requires-clause-written c = (found-well c.args.cx.now.entries c.args.declarations.now c.requires.written c.args.id.index c.in-Some.def.now c.in-Some.ensures.is).0

pub header_error-requires-clause-params : goal.header_error-requires-clause-params
header_error-requires-clause-params c = (found-well c.args.cx.now.entries c.args.declarations.now c.requires.written c.args.id.index c.in-Some.def.now c.in-Some.ensures.is).1

pub returns-then-is_local-clause-found : goal.returns-then-is_local-clause-found
returns-then-is_local-clause-found c =
    let es = c.args.cx.now.entries in
    let d = c.args.declarations.now in
    let new = c.header_error.new.cx.entries in
    let x = erased_impl (impl_in es c.args.id c.in-Some.def.now) in
    ok-then (IsHeaderError (declared es d) d.local x.header new) (IsErrorOf (declared es d) d.local c.args.id.index new) c.header_error.result
    (own-home (declared es d) c.args.id.index x (c.in-Some.ensures.found es) d.local new (sym c.is_local.ensures ∙ c.if-is_local.true)) c.header_error.ensures.found

pub returns-else-is_local-clause-found : goal.returns-else-is_local-clause-found
returns-else-is_local-clause-found c =
    let es = c.args.cx.now.entries in
    let d = c.args.declarations.now in
    other-home (declared es d) c.args.id.index (erased_impl (impl_in es c.args.id c.in-Some.def.now)) (c.in-Some.ensures.found es) d.local es (sym c.is_local.ensures ∙ c.if-is_local.false)
