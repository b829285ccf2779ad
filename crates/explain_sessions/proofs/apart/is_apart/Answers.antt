use Rattle.std.proofs.Common.{◌≡◌, Result, Err, ap, ◌∙◌}
use Rattle.sessions.specs.InferTable.declared.certainty.EqError.{EqError}
use Rattle.sessions.specs.InferTable.declared.certainty.EqError.TheVariants.{NoSolution}
use Rattle.sessions.proofs.Declarations.Growth.{reference-kept}
use Rattle.sessions.specs.Declarations.Items.{impl_in, reference_in}
use Rattle.sessions.specs.OverlapCheck.Headers.{sorts_of_impl}
use Rattle.sessions.proofs.OverlapCheck.Written.{held-instantiable}
use Rattle.explain_sessions.proofs.HeadersApart.{no-rule, grows-to, said-before}
use Rattle.explain_sessions.proofs.apart.is_apart.Goals as goal

pub equate_impl_headers-equated-requires-clause-left : goal.equate_impl_headers-equated-requires-clause-left
equate_impl_headers-equated-requires-clause-left c = c.in_ok-header.ensures.header.held

pub equate_impl_headers-equated-requires-clause-right : goal.equate_impl_headers-equated-requires-clause-right
equate_impl_headers-equated-requires-clause-right c = reference-kept c.args.cx.now.entries c.fresh_impl_header.new.cx.entries c.fresh_impl_header.ensures.terms.grew.keeps c.args.reference c.requires.reference

pub equate_impl_headers-equated-requires-clause-ready : goal.equate_impl_headers-equated-requires-clause-ready
equate_impl_headers-equated-requires-clause-ready c = c.fresh_impl_header.ensures.ready

pub returns-in-Ok-clause-table : goal.returns-in-Ok-clause-table
returns-in-Ok-clause-table c =
    let t = c.args.table.now in
    let made = c.in_ok-header.ensures.made in
    c.roll_back.ensures t c.snapshot-place.ensures (grows-to t c.fresh_impl_header.new.table c.equate_impl_headers-equated.new.table (sorts_of_impl c.args.def.now) made c.equate_impl_headers-equated.ensures.grows)

pub returns-in-Err-NoSolution-clause-table : goal.returns-in-Err-NoSolution-clause-table
returns-in-Err-NoSolution-clause-table c =
    let t = c.args.table.now in
    let made = c.in_ok-header.ensures.made in
    c.roll_back.ensures t c.snapshot-place.ensures (grows-to t c.fresh_impl_header.new.table c.equate_impl_headers-equated.new.table (sorts_of_impl c.args.def.now) made c.equate_impl_headers-equated.ensures.grows)

refused : (r : Result (Unit {0}) EqError) (e : EqError) → r ≡ Err e → e ≡ NoSolution → r ≡ Err NoSolution
refused r e p q = p ∙ ap Err q

pub returns-in-Err-NoSolution-clause-apart : goal.returns-in-Err-NoSolution-clause-apart
returns-in-Err-NoSolution-clause-apart c = λ q id.
    let es = c.args.cx.now.entries in
    let def = c.args.def.now in
    let t = c.args.table.now in
    let r = c.args.reference in
    let w = c.requires.written in
    let fresh = c.in_ok-header.ensures in
    let none = c.equate_impl_headers-equated.ensures.never (refused c.equate_impl_headers-equated.result c.in-Err-NoSolution.field-0 c.in-Err-NoSolution.is (rw c.in-Err-NoSolution.is at c.in-Err-NoSolution.field-0-is)) in
    no-rule t (sorts_of_impl def) c.impl_rules_are_instances.ensures (impl_in es id def) (reference_in es r) (held-instantiable es c.lawful.ensures id def c.requires.held w t).header w.plain_header c.requires.own
    (said-before es c.fresh_impl_header.new.cx.entries fresh.terms.grew.keeps t c.fresh_impl_header.new.table def c.in_ok-header.header r fresh.made c.requires.no_values fresh.header c.requires.reference none)
