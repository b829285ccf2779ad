use Rattle.std.proofs.Common.{refl}
use Rattle.type_terms.specs.Kept.{args-held-later}
use Rattle.explain_traces.proofs.candidates.open_next.Goals as goal

pub own_goals-requires-clause-values : goal.own_goals-requires-clause-values
own_goals-requires-clause-values g c = args-held-later c.args.cx.now.interner.entries c.open_candidate-opened.new.cx.entries c.open_candidate-opened.ensures.grew.keeps c.args.goal.values.now c.requires.values

pub returns-clause-advances : goal.returns-clause-advances
returns-clause-advances g c =
    c.context_laws.ensures.interner c.args.cx.now (record { alloc = c.args.cx.now.alloc; interner = c.open_candidate-opened.new.cx; handler = c.args.cx.now.handler; store = c.args.cx.now.store }) c.requires.ready
    (record { handler = refl; store = refl; entries = c.open_candidate-opened.ensures.grew.keeps; lawful = c.lawful.ensures; limit = c.open_candidate-opened.ensures.grew.limit })

pub returns-clause-held : goal.returns-clause-held
returns-clause-held g c = c.own_goals.ensures c.open_candidate-opened.new.cx.entries c.open_candidate-opened.ensures.held
