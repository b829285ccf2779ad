use Rattle.std.proofs.Common.{◌≡◌, map, sym, ◌∙◌, subst, arith, Err, ap}
use Rattle.type_terms.specs.Promised.Trees.{◌+++◌}
use Rattle.type_terms.proofs.TreeLaws.{append-none}
use Rattle.type_terms.specs.Promised.Handles.{Is, trees_at}
use Rattle.type_terms.specs.Terms.{args_lists}
use Rattle.type_terms.specs.Promised.Handles.{ArgsHeld}
use Rattle.type_terms.specs.Kinds.{args_trees}
use Rattle.type_terms.specs.declared.kinds.GenericArgs.{GenericArgs}
use Rattle.type_terms.specs.Kept.{args-held-later, trees-is}
use Rattle.declarations.specs.Applied.{sort_of_param}
use Rattle.type_terms.proofs.Grown.{grew-on}
use Rattle.sessions.specs.Placeholders.{placeholders_from}
use Rattle.sessions.proofs.OpaqueTerms.{one-more-placeholder}
use Rattle.type_terms.specs.Terms.{args_lists}
use Rattle.type_terms.proofs.FailFacts.{refused-term}
use Rattle.solver_graph.proofs.Shortages.{at-error}
use Rattle.sessions.proofs.ShortCalls.{when-err}
use Rattle.sessions.proofs.placeholders.placeholders_for_item.Goals as goal
use Rattle.type_terms.proofs.Items.{args-held-push}
use Rattle.type_terms.proofs.TypeBasics.{ok-after as if-ok}
use Rattle.type_terms.proofs.ListBasics.{nothing}

pub params-preserved : goal.params-preserved
params-preserved c =
    let now = c.params.cx.entries in
    let next = c.placeholder_for_param.new.cx.entries in
    let inv = c.params.invariant in
    let k = c.placeholder_for_param.ensures.terms.grew.keeps in
    let kind = c.in-Some.kind.now in
    let rest = c.in-Some.others.now in
    let a = c.in_ok-arg.arg in
    let xs = c.params.placeholders.items in
    let all = placeholders_from 0 (map sort_of_param c.args.params.now) in
    let back = c.in-Some.ensures.cases.0 in
    let put = c.in_ok-push.ensures.items in
    record {
      grew = grew-on inv.grew c.placeholder_for_param.ensures.terms.grew;
      held = subst (ArgsHeld next) (sym put) (args-held-push next xs a (args-held-later now next k xs inv.held) c.in_ok-arg.ensures.held);
      are = subst (λ l. args_trees next l +++ placeholders_from c.in_ok-place.place (map sort_of_param rest) ≡ all) (sym put)
          (one-more-placeholder now next k xs a c.params.place c.in_ok-place.place (sort_of_param kind) (map sort_of_param rest) all inv.held c.in_ok-arg.ensures.is c.in_ok-place.ensures.next
          (subst (λ l. args_trees now xs +++ placeholders_from c.params.place (map sort_of_param l) ≡ all) back inv.are));
    }

pub returns-clause-are : goal.returns-clause-are
returns-clause-are c =
    let now = c.params.cx.entries in
    let new = c.mk_args.new.self.entries in
    let xs = c.params.placeholders.items in
    let all = placeholders_from 0 (map sort_of_param c.args.params.now) in
    let done = subst (λ l. args_trees now xs +++ placeholders_from c.params.place (map sort_of_param l) ≡ all) (nothing c.params.left.now c.in_default.ensures.cases) c.params.invariant.are in
    if-ok (λ (a : GenericArgs). Is new args_lists a.0 (args_trees now xs)) (λ a. trees_at new a.0 ≡ all) c.mk_args.result
    (λ a h. trees-is new args_lists a.0 (args_trees now xs) h ∙ sym (append-none (args_trees now xs)) ∙ done) c.mk_args.ensures.is

pub returns-clause-terms : goal.returns-clause-terms
returns-clause-terms c = record {
  grew = grew-on c.params.invariant.grew c.mk_args.ensures.grew;
  full = when-err _ c.mk_args.result (λ fault is q. refused-term args_lists (omega arith) (c.mk_args.ensures.full (is ∙ ap Err q)) c.mk_args.ensures.grew.limit (at-error c.mk_args.result (is ∙ ap Err q) c.mk_args.ensures.refused));
}
