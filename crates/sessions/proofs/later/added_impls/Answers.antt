use Rattle.std.proofs.Common.{refl}
use Rattle.sessions.proofs.LaterChecks.{headers-ok, few-ok}
use Rattle.sessions.proofs.GivenTexts.{text-given}
use Rattle.sessions.proofs.later.added_impls.Goals as goal

pub lower_later-impls-requires : goal.lower_later-impls-requires
lower_later-impls-requires c = c.later_impls_begin_declared.ensures c.requires.text.0 c.args.workspace.now (text-given c.args.workspace.now c.requires.text)

pub returns-clause-advances : goal.returns-clause-advances
returns-clause-advances c =
    c.rest_laws.ensures.interner c.args.cx.now (record { alloc = c.args.cx.now.alloc; interner = c.lower_later-impls.new.cx; handler = c.args.cx.now.handler; store = c.args.cx.now.store }) c.requires.ready
    (record { handler = refl; store = refl; entries = c.lower_later-impls.ensures.terms.grew.keeps; lawful = c.lawful.ensures; limit = c.lower_later-impls.ensures.terms.grew.limit })

pub returns-clause-headers : goal.returns-clause-headers
returns-clause-headers c = headers-ok c.lower_later-impls.new.cx.entries c.args.workspace.now c.args.section c.lower_later-impls.result c.lower_later-impls.ensures.impls

pub returns-clause-held : goal.returns-clause-held
returns-clause-held c = c.lower_later-impls.ensures.held

pub returns-clause-few : goal.returns-clause-few
returns-clause-few c = few-ok c.lower_later-impls.new.cx.entries c.args.workspace.now c.args.section 67108928 c.crates.ensures.few.few_later c.lower_later-impls.result c.lower_later-impls.ensures.impls
