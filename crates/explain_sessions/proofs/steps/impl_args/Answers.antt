use Rattle.sessions.proofs.TypeTerms.Grown.{grew-on}
use Rattle.sessions.specs.TypeTerms.Terms.{args_lists}
use Rattle.sessions.specs.TypeTerms.Kept.{has-later}
use Rattle.explain_sessions.proofs.steps.impl_args.Goals as goal

pub fresh_impl_header-requires-clause-ready : goal.fresh_impl_header-requires-clause-ready
fresh_impl_header-requires-clause-ready c = c.requires.table

pub fresh_impl_header-requires-clause-held : goal.fresh_impl_header-requires-clause-held
fresh_impl_header-requires-clause-held c = c.requires.held

pub fresh_impl_header-requires-clause-written : goal.fresh_impl_header-requires-clause-written
fresh_impl_header-requires-clause-written c = c.requires.written

pub returns-in_err-header-clause-table : goal.returns-in_err-header-clause-table
returns-in_err-header-clause-table c = c.fresh_impl_header.ensures.ready

pub returns-in_err-header-clause-grew : goal.returns-in_err-header-clause-grew
returns-in_err-header-clause-grew c = c.fresh_impl_header.ensures.terms.grew

pub args_where_equal-requires-clause-table : goal.args_where_equal-requires-clause-table
args_where_equal-requires-clause-table c = c.fresh_impl_header.ensures.ready

pub args_where_equal-requires-clause-left : goal.args_where_equal-requires-clause-left
args_where_equal-requires-clause-left c = c.in_ok-header.ensures.header.held

pub args_where_equal-requires-clause-right : goal.args_where_equal-requires-clause-right
args_where_equal-requires-clause-right c = has-later c.args.cx.now.entries c.fresh_impl_header.new.cx.entries c.fresh_impl_header.ensures.terms.grew.keeps args_lists c.args.reference.args.0 c.requires.reference

pub args_where_equal-requires-clause-args : goal.args_where_equal-requires-clause-args
args_where_equal-requires-clause-args c = c.in_ok-header.ensures.header.unknowns.held

pub returns-clause-table : goal.returns-clause-table
returns-clause-table c = c.args_where_equal.ensures.table

pub returns-clause-grew : goal.returns-clause-grew
returns-clause-grew c = grew-on c.fresh_impl_header.ensures.terms.grew c.args_where_equal.ensures.grew

pub returns-clause-held : goal.returns-clause-held
returns-clause-held c = c.args_where_equal.ensures.held
