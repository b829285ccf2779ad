use Rattle.std.proofs.Common.{◌≡◌, zero, ap, ◌∙◌, map}
use Rattle.type_terms.specs.Trees.{outer_binder}
use Rattle.type_terms.specs.Promised.Trees.{instantiate}
use Rattle.type_terms.specs.Terms.{args_lists}
use Rattle.type_terms.specs.Promised.Handles.{trees_at}
use Rattle.type_terms.specs.Kept.{has-later, trees-later}
use Rattle.infer_table.specs.Kept.{ready-later}
use Rattle.declarations.specs.Applied.{sort_of_param}
use Rattle.declarations.proofs.Growth.{args-same}
use Rattle.overlap_check.specs.Fresh.{fresh_unknowns}
use Rattle.overlap_check.specs.Headers.{unknowns_for}
use Rattle.overlap_check.proofs.Headers.{header-fits}
use Rattle.overlap_check.proofs.Unknowns.{fresh-closed}
use Rattle.overlap_check.proofs.header.fresh_header_args.Goals as goal

pub instantiate_args-requires-clause-closed : goal.instantiate_args-requires-clause-closed
instantiate_args-requires-clause-closed c = ap outer_binder c.in_ok-impl_args.ensures.are ∙ fresh-closed c.args.table.now (map sort_of_param c.deref.result.now)

pub instantiate_args-requires-clause-fits : goal.instantiate_args-requires-clause-fits
instantiate_args-requires-clause-fits c =
    let t = c.args.table.now in
    header-fits c.args.cx.now.entries c.fresh_args_for_item.new.cx.entries c.fresh_args_for_item.ensures.terms.grew.keeps t c.args.def.now c.requires.held c.requires.written c.in_ok-impl_args.impl_args.0
    (c.in_ok-impl_args.ensures.are ∙ ap (λ ps. fresh_unknowns t (map sort_of_param ps)) c.deref.ensures.value)

pub returns-in_err-list-clause-ready : goal.returns-in_err-list-clause-ready
returns-in_err-list-clause-ready c =
    ready-later c.fresh_args_for_item.new.cx.entries c.instantiate_args.new.cx.entries c.fresh_args_for_item.new.table c.instantiate_args.ensures.terms.grew.keeps c.fresh_args_for_item.ensures.ready

pub returns-clause-ready : goal.returns-clause-ready
returns-clause-ready c =
    ready-later c.fresh_args_for_item.new.cx.entries c.instantiate_args.new.cx.entries c.fresh_args_for_item.new.table c.instantiate_args.ensures.terms.grew.keeps c.fresh_args_for_item.ensures.ready

pub returns-clause-header : goal.returns-clause-header
returns-clause-header c =
    let es = c.args.cx.now.entries in
    let one = c.fresh_args_for_item.new.cx.entries in
    let two = c.instantiate_args.new.cx.entries in
    let t = c.args.table.now in
    let def = c.args.def.now in
    let a = c.in_ok-impl_args.impl_args.0 in
    let k = c.instantiate_args.ensures.terms.grew.keeps in
    let e : trees_at one a ≡ unknowns_for t def = c.in_ok-impl_args.ensures.are ∙ ap (λ ps. fresh_unknowns t (map sort_of_param ps)) c.deref.ensures.value in
    record {
      unknowns = record { held = has-later one two k args_lists a c.in_ok-impl_args.ensures.held; are = trees-later one two k args_lists a c.in_ok-impl_args.ensures.held ∙ e };
      held = c.in_ok-list.ensures.held;
      are = c.in_ok-list.ensures.are ∙ ap (λ A. instantiate zero A (trees_at one def.header.args.0)) e
          ∙ ap (instantiate zero (unknowns_for t def)) (args-same es one c.fresh_args_for_item.ensures.terms.grew.keeps def.header c.requires.held.header);
    }
