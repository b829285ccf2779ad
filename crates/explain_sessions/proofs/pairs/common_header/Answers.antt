use Rattle.sessions.specs.TypeTerms.Kept.{has-later}
use Rattle.std.proofs.Common.{subst}
use Rattle.std.specs.Prelude.{IfSome}
use Rattle.sessions.specs.TypeTerms.Promised.Handles.{Has}
use Rattle.sessions.specs.TypeTerms.Terms.{args_lists}
use Rattle.sessions.proofs.TypeTerms.Grown.{grew-on}
use Rattle.sessions.proofs.OverlapCheck.Headers.{impl-later, well-later}
use Rattle.explain_sessions.proofs.pairs.common_header.Goals as goal

pub fresh_impl_header-requires-2-clause-held : goal.fresh_impl_header-requires-2-clause-held
fresh_impl_header-requires-2-clause-held c = impl-later c.args.cx.now.entries c.fresh_impl_header.new.cx.entries c.fresh_impl_header.ensures.terms.grew.keeps c.args.right.now c.requires.right_held

pub fresh_impl_header-requires-2-clause-written : goal.fresh_impl_header-requires-2-clause-written
fresh_impl_header-requires-2-clause-written c = well-later c.args.cx.now.entries c.fresh_impl_header.new.cx.entries c.fresh_impl_header.ensures.terms.grew.keeps c.args.right.now c.requires.right_held c.requires.right_written

pub args_where_equal-requires-clause-left : goal.args_where_equal-requires-clause-left
args_where_equal-requires-clause-left c = has-later c.fresh_impl_header.new.cx.entries c.fresh_impl_header-2.new.cx.entries c.fresh_impl_header-2.ensures.terms.grew.keeps args_lists c.in_ok-first.first.trait_ref.args.0 c.in_ok-first.ensures.header.held

pub args_where_equal-requires-clause-args : goal.args_where_equal-requires-clause-args
args_where_equal-requires-clause-args c = has-later c.fresh_impl_header.new.cx.entries c.fresh_impl_header-2.new.cx.entries c.fresh_impl_header-2.ensures.terms.grew.keeps args_lists c.in_ok-first.first.trait_ref.args.0 c.in_ok-first.ensures.header.held

pub returns-in_err-args-clause-grew : goal.returns-in_err-args-clause-grew
returns-in_err-args-clause-grew c = grew-on c.fresh_impl_header.ensures.terms.grew (grew-on c.fresh_impl_header-2.ensures.terms.grew c.args_where_equal.ensures.grew)

pub returns-in_default-clause-grew : goal.returns-in_default-clause-grew
returns-in_default-clause-grew c = grew-on c.fresh_impl_header.ensures.terms.grew (grew-on c.fresh_impl_header-2.ensures.terms.grew c.args_where_equal.ensures.grew)

pub eager_resolve_vars-requires-clause-held : goal.eager_resolve_vars-requires-clause-held
eager_resolve_vars-requires-clause-held c =
    has-later c.fresh_impl_header.new.cx.entries c.args_where_equal.new.cx.entries (λ i e h. c.args_where_equal.ensures.grew.keeps i e (c.fresh_impl_header-2.ensures.terms.grew.keeps i e h)) args_lists c.in_ok-first.first.impl_args.0 c.in_ok-first.ensures.header.unknowns.held

pub eager_resolve_vars-requires-2-clause-held : goal.eager_resolve_vars-requires-2-clause-held
eager_resolve_vars-requires-2-clause-held c =
    has-later c.fresh_impl_header-2.new.cx.entries c.eager_resolve_vars.new.cx.entries (λ i e h. c.eager_resolve_vars.ensures.terms.grew.keeps i e (c.args_where_equal.ensures.grew.keeps i e h)) args_lists c.in_ok-second.second.impl_args.0 c.in_ok-second.ensures.header.unknowns.held

pub returns-in_err-left-clause-grew : goal.returns-in_err-left-clause-grew
returns-in_err-left-clause-grew c = grew-on c.fresh_impl_header.ensures.terms.grew (grew-on c.fresh_impl_header-2.ensures.terms.grew (grew-on c.args_where_equal.ensures.grew c.eager_resolve_vars.ensures.terms.grew))

pub returns-in_err-right-clause-grew : goal.returns-in_err-right-clause-grew
returns-in_err-right-clause-grew c = grew-on c.fresh_impl_header.ensures.terms.grew (grew-on c.fresh_impl_header-2.ensures.terms.grew (grew-on c.args_where_equal.ensures.grew (grew-on c.eager_resolve_vars.ensures.terms.grew c.eager_resolve_vars-2.ensures.terms.grew)))

pub returns-clause-grew : goal.returns-clause-grew
returns-clause-grew c = grew-on c.fresh_impl_header.ensures.terms.grew (grew-on c.fresh_impl_header-2.ensures.terms.grew (grew-on c.args_where_equal.ensures.grew (grew-on c.eager_resolve_vars.ensures.terms.grew c.eager_resolve_vars-2.ensures.terms.grew)))

pub returns-clause-held : goal.returns-clause-held
returns-clause-held c = record {
  reference = has-later c.args_where_equal.new.cx.entries c.eager_resolve_vars-2.new.cx.entries (λ i e h. c.eager_resolve_vars-2.ensures.terms.grew.keeps i e (c.eager_resolve_vars.ensures.terms.grew.keeps i e h)) args_lists c.in-Some.args.0
      (subst (λ o. IfSome o (λ a. Has c.args_where_equal.new.cx.entries args_lists a.0)) c.in-Some.is c.in_ok-args.ensures.held);
  left = has-later c.eager_resolve_vars.new.cx.entries c.eager_resolve_vars-2.new.cx.entries c.eager_resolve_vars-2.ensures.terms.grew.keeps args_lists c.in_ok-left.left.0 c.in_ok-left.ensures.held;
  right = c.in_ok-right.ensures.held;
}

pub fresh_impl_header-requires-clause-held : goal.fresh_impl_header-requires-clause-held
fresh_impl_header-requires-clause-held c = c.requires.left_held

pub fresh_impl_header-requires-clause-written : goal.fresh_impl_header-requires-clause-written
fresh_impl_header-requires-clause-written c = c.requires.left_written

pub returns-in_err-first-clause-grew : goal.returns-in_err-first-clause-grew
returns-in_err-first-clause-grew c = c.fresh_impl_header.ensures.terms.grew

pub fresh_impl_header-requires-2-clause-ready : goal.fresh_impl_header-requires-2-clause-ready
fresh_impl_header-requires-2-clause-ready c = c.fresh_impl_header.ensures.ready

pub returns-in_err-second-clause-grew : goal.returns-in_err-second-clause-grew
returns-in_err-second-clause-grew c = grew-on c.fresh_impl_header.ensures.terms.grew c.fresh_impl_header-2.ensures.terms.grew

pub args_where_equal-requires-clause-table : goal.args_where_equal-requires-clause-table
args_where_equal-requires-clause-table c = c.fresh_impl_header-2.ensures.ready

pub args_where_equal-requires-clause-right : goal.args_where_equal-requires-clause-right
args_where_equal-requires-clause-right c = c.in_ok-second.ensures.header.held
