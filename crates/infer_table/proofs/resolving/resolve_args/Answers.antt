use Rattle.std.proofs.Common.{ap, sym, ◌∙◌, Err, arith}
use Rattle.std.specs.Prelude.{bit_and}
use Rattle.type_terms.specs.Promised.Handles.{trees_at}
use Rattle.type_terms.specs.Terms.{args_lists}
use Rattle.type_terms.specs.Kept.{trees-is}
use Rattle.type_terms.proofs.FailFacts.{refused-term, at-limit}
use Rattle.type_terms.proofs.Grown.{grew-on}
use Rattle.infer_table.specs.Content.{content}
use Rattle.infer_table.proofs.ContentFacts.{valued}
use Rattle.infer_table.specs.Kept.{ready-later}
use Rattle.infer_table.proofs.ResolveFacts.{value-free-resolved}
use Rattle.infer_table.proofs.resolving.resolve_args.Goals as goal

pub returns-then-flags-eq0-clause-resolved : goal.returns-then-flags-eq0-clause-resolved
returns-then-flags-eq0-clause-resolved c =
    let es = c.args.cx.now.entries in
    sym (value-free-resolved (content es c.args.table.now.values) (valued es c.args.table.now.values) (trees_at es c.args.args.0) (ap (λ f. bit_and f 514) (sym c.flags.ensures) ∙ c.if-flags-eq0.true))

pub returns-clause-ready : goal.returns-clause-ready
returns-clause-ready c = ready-later c.resolve_each.new.cx.entries c.mk_args.new.self.entries c.args.table.now c.mk_args.ensures.grew.keeps c.resolve_each.ensures.ready

pub returns-clause-resolved : goal.returns-clause-resolved
returns-clause-resolved c = trees-is c.mk_args.new.self.entries args_lists c.in_ok-resolved.resolved.0 _ c.in_ok-resolved.ensures.is ∙ c.in_ok-list.ensures.resolved

pub returns-in_err-resolved-clause-ready : goal.returns-in_err-resolved-clause-ready
returns-in_err-resolved-clause-ready c = ready-later c.resolve_each.new.cx.entries c.mk_args.new.self.entries c.args.table.now c.mk_args.ensures.grew.keeps c.resolve_each.ensures.ready

pub returns-in_err-resolved-clause-terms : goal.returns-in_err-resolved-clause-terms
returns-in_err-resolved-clause-terms c = record {
  grew = grew-on c.resolve_each.ensures.terms.grew c.mk_args.ensures.grew;
  full =
      let refused = c.in_err-resolved.ensures in
      at-limit c.from_residual-in_err-resolved.result c.from_residual-in_err-resolved.ensures.1 (λ p. refused-term args_lists (omega arith) (refused.full (ap Err p)) refused.grew.limit refused.refused);
}
