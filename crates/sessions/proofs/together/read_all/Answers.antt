use Rattle.std.proofs.Common.{◌∙◌}
use Rattle.type_terms.specs.Kept.{args-held-later}
use Rattle.sessions.proofs.Answering.{values-earlier}
use Rattle.sessions.proofs.together.read_all.Goals as goal

pub values_of-requires-clause-held : goal.values_of-requires-clause-held
values_of-requires-clause-held c =
    args-held-later c.args.cx.now.entries c.some_have_bound_terms.new.cx.entries c.some_have_bound_terms.ensures.terms.grew.keeps c.args.unknowns.now c.requires.unknowns

pub returns-then-not-have_bound-clause-read : goal.returns-then-not-have_bound-clause-read
returns-then-not-have_bound-clause-read c = (
  c.in_ok-values.ensures.are
      ∙ values-earlier c.args.cx.now.entries c.some_have_bound_terms.new.cx.entries c.some_have_bound_terms.ensures.terms.grew.keeps c.args.table.now c.requires.ready c.args.unknowns.now c.requires.unknowns,
  c.if-are_proved.true,
  c.in_ok-have_bound.ensures.unbound c.if-not-have_bound.true,
)

pub returns-else-are_proved-clause-read : goal.returns-else-are_proved-clause-read
returns-else-are_proved-clause-read c =
    c.in_ok-values.ensures.are
    ∙ values-earlier c.args.cx.now.entries c.some_have_bound_terms.new.cx.entries c.some_have_bound_terms.ensures.terms.grew.keeps c.args.table.now c.requires.ready c.args.unknowns.now c.requires.unknowns
