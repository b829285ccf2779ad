use Rattle.std.proofs.Common.{ap, arith, sym, ◌∙◌, subst, Err}
use Rattle.type_terms.specs.Promised.Label.{tuple}
use Rattle.type_terms.specs.Promised.Trees.{tree, none}
use Rattle.type_terms.specs.Promised.Rules.{but_last}
use Rattle.type_terms.specs.Promised.Handles.{types}
use Rattle.type_terms.specs.Terms.{type_lists}
use Rattle.type_terms.specs.Kinds.{TysHeld, tys_trees}
use Rattle.type_terms.specs.Kept.{trees-is}
use Rattle.type_terms.proofs.FailFacts.{refused-term, at-limit}
use Rattle.type_terms.proofs.Grown.{grew-on}
use Rattle.built_in_candidates.proofs.calls.tupled_inputs.Goals as goal

pub mk_tys-requires : goal.mk_tys-requires
mk_tys-requires c = subst (TysHeld c.args.cx.now.entries) (sym c.in_ok-list.ensures.items) (c.inputs.ensures.held c.args.cx.now.entries c.tys.ensures.held)

pub returns-in_err-tys-clause-terms : goal.returns-in_err-tys-clause-terms
returns-in_err-tys-clause-terms c = record {
  grew = c.mk_tys.ensures.grew;
  full =
      let refused = c.in_err-tys.ensures in
      let handed = c.from_residual-in_err-tys in
      at-limit handed.result handed.ensures.1 (λ p. refused-term type_lists (omega arith) (refused.full (ap Err p)) refused.grew.limit refused.refused);
}

pub returns-in_err-ty-clause-terms : goal.returns-in_err-ty-clause-terms
returns-in_err-ty-clause-terms c = record {
  grew = grew-on c.mk_tys.ensures.grew c.mk_ty.ensures.grew;
  full =
      let refused = c.in_err-ty.ensures in
      let handed = c.from_residual-in_err-ty in
      at-limit handed.result handed.ensures.1 (λ p. refused-term types (omega arith) (refused.full (ap Err p)) refused.grew.limit refused.refused);
}

pub returns-clause-is : goal.returns-clause-is
returns-clause-is c =
    let old = c.args.cx.now.entries in
    let mid = c.mk_tys.new.self.entries in
    let new = c.mk_ty.new.self.entries in
    trees-is new types c.in_ok-ty.ty.0 _ c.in_ok-ty.ensures.is
    ∙ ap (λ z. tree tuple z none)
    (trees-is mid type_lists c.in_ok-tys.tys.0 _ c.in_ok-tys.ensures.is ∙ ap (tys_trees old) c.in_ok-list.ensures.items
    ∙ c.inputs.ensures.is old c.lawful.ensures c.tys.ensures.held ∙ ap but_last (sym (trees-is old type_lists c.args.inputs_and_output.0 _ c.tys.ensures.is)))
