use Rattle.sessions.specs.TypeTerms.Kept.{has-later}
use Rattle.sessions.specs.TypeTerms.Terms.{args_lists}
use Rattle.sessions.proofs.TypeTerms.Grown.{grew-on}
use Rattle.explain_sessions.proofs.headers.args_where_equal.Goals as goal

pub eager_resolve_vars-requires-clause-held : goal.eager_resolve_vars-requires-clause-held
eager_resolve_vars-requires-clause-held c = has-later c.args.cx.now.entries c.equate_impl_headers.new.cx.entries c.equate_impl_headers.ensures.terms.grew.keeps args_lists c.args.args.0 c.requires.args

pub returns-in_err-resolved-in-Ok-clause-grew : goal.returns-in_err-resolved-in-Ok-clause-grew
returns-in_err-resolved-in-Ok-clause-grew c = grew-on c.equate_impl_headers.ensures.terms.grew c.eager_resolve_vars.ensures.terms.grew

pub returns-in_ok-resolved-in-Ok-clause-grew : goal.returns-in_ok-resolved-in-Ok-clause-grew
returns-in_ok-resolved-in-Ok-clause-grew c = grew-on c.equate_impl_headers.ensures.terms.grew c.eager_resolve_vars.ensures.terms.grew

pub equate_impl_headers-requires-clause-left : goal.equate_impl_headers-requires-clause-left
equate_impl_headers-requires-clause-left c = c.requires.left

pub equate_impl_headers-requires-clause-right : goal.equate_impl_headers-requires-clause-right
equate_impl_headers-requires-clause-right c = c.requires.right

pub equate_impl_headers-requires-clause-ready : goal.equate_impl_headers-requires-clause-ready
equate_impl_headers-requires-clause-ready c = c.requires.table

pub eager_resolve_vars-requires-clause-ready : goal.eager_resolve_vars-requires-clause-ready
eager_resolve_vars-requires-clause-ready c = c.equate_impl_headers.ensures.ready

pub returns-in_err-resolved-in-Ok-clause-table : goal.returns-in_err-resolved-in-Ok-clause-table
returns-in_err-resolved-in-Ok-clause-table c = c.eager_resolve_vars.ensures.ready

pub returns-in_ok-resolved-in-Ok-clause-table : goal.returns-in_ok-resolved-in-Ok-clause-table
returns-in_ok-resolved-in-Ok-clause-table c = c.eager_resolve_vars.ensures.ready

pub returns-in_ok-resolved-in-Ok-clause-held : goal.returns-in_ok-resolved-in-Ok-clause-held
returns-in_ok-resolved-in-Ok-clause-held c = c.in_ok-resolved-in-Ok.ensures.held

pub returns-in-Err-NoSolution-clause-table : goal.returns-in-Err-NoSolution-clause-table
returns-in-Err-NoSolution-clause-table c = c.equate_impl_headers.ensures.ready

pub returns-in-Err-NoSolution-clause-grew : goal.returns-in-Err-NoSolution-clause-grew
returns-in-Err-NoSolution-clause-grew c = c.equate_impl_headers.ensures.terms.grew

pub returns-in-Err-NoSolution-clause-held : goal.returns-in-Err-NoSolution-clause-held
returns-in-Err-NoSolution-clause-held c = tt

pub returns-in-Err-Fault-clause-table : goal.returns-in-Err-Fault-clause-table
returns-in-Err-Fault-clause-table c = c.equate_impl_headers.ensures.ready

pub returns-in-Err-Fault-clause-grew : goal.returns-in-Err-Fault-clause-grew
returns-in-Err-Fault-clause-grew c = c.equate_impl_headers.ensures.terms.grew

pub returns-in-Err-Fault-clause-held : goal.returns-in-Err-Fault-clause-held
returns-in-Err-Fault-clause-held c = tt
