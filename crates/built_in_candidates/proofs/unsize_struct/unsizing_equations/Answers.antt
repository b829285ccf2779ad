use Rattle.std.proofs.Common.{ap, arith, sym, ◌∙◌, subst, length, Err}
use Rattle.std.proofs.lemmas.List.{length-map}
use Rattle.type_terms.specs.Promised.Rules.{with_unsizing}
use Rattle.type_terms.specs.Terms.{args_lists}
use Rattle.type_terms.specs.Promised.Handles.{trees_at}
use Rattle.type_terms.specs.Promised.Handles.{ArgsHeld}
use Rattle.type_terms.specs.Kinds.{args_trees}
use Rattle.type_terms.specs.Kept.{trees-is, has-later, trees-later}
use Rattle.type_terms.proofs.FailFacts.{refused-term, at-limit}
use Rattle.declarations.specs.Applied.{sort_of_param}
use Rattle.declarations.specs.Unsizing.{field_trees}
use Rattle.candidate_model.specs.Candidates.{all_equal}
use Rattle.built_in_candidates.proofs.StructRows.{replaced-are, replaced-held}
use Rattle.built_in_candidates.proofs.unsize_struct.unsizing_equations.Goals as goal
use Rattle.type_terms.proofs.TypeBasics.{if-ok}

pub mk_args-requires : goal.mk_args-requires
mk_args-requires c =
    let es = c.args.cx.now.entries in
    subst (ArgsHeld es) (sym c.in_ok-list.ensures.is) (replaced-held es c.deref.result.now c.args-2.result.now c.args-3.result.now c.args-2.ensures.held c.args-3.ensures.held)

pub relate_args-requires-clause-right : goal.relate_args-requires-clause-right
relate_args-requires-clause-right c = has-later c.args.cx.now.entries c.mk_args.new.self.entries c.mk_args.ensures.grew.keeps args_lists c.args.target.0 c.requires.target

pub returns-in_err-unsized_args-clause-terms : goal.returns-in_err-unsized_args-clause-terms
returns-in_err-unsized_args-clause-terms c = record {
  grew = c.mk_args.ensures.grew;
  full =
      let refused = c.in_err-unsized_args.ensures in
      let handed = c.from_residual-in_err-unsized_args in
      at-limit handed.result handed.ensures.1 (λ p. refused-term args_lists (omega arith) (refused.full (ap Err p)) refused.grew.limit refused.refused);
}

pub returns-clause-are : goal.returns-clause-are
returns-clause-are c =
    let old = c.args.cx.now.entries in
    let mid = c.mk_args.new.self.entries in
    let fs = field_trees old c.args.def.now.fields.items in
    let n = length c.args.def.now.params.items in
    let b = trees_at old c.args.args.0 in
    let d = trees_at old c.args.target.0 in
    let xs = c.args-2.result.now in
    let ys = c.args-3.result.now in
    let flags = c.deref.ensures.value ∙ c.requires.def.1 in
    let own = trees-is old args_lists c.args.args.0 _ c.args-2.ensures.is in
    let others = trees-is old args_lists c.args.target.0 _ c.args-3.ensures.is in
    let count = length-map c.args.def.now.params.items sort_of_param in
    let with = trees-is mid args_lists c.in_ok-unsized_args.unsized_args.0 _ c.in_ok-unsized_args.ensures.is ∙ ap (args_trees old) c.in_ok-list.ensures.is
    ∙ replaced-are old c.lawful.ensures fs c.deref.result.now n xs ys b d flags c.args-2.ensures.held c.args-3.ensures.held own others
    (ap length c.requires.fit.sorts ∙ count) (ap length c.requires.target_fits.sorts ∙ count) in
    if-ok _ _ c.relate_args.result
    (λ v e.
    e ∙ ap (λ t. all_equal t (trees_at mid c.args.target.0)) with
    ∙ ap (all_equal (with_unsizing fs 0 b d)) (trees-later old mid c.mk_args.ensures.grew.keeps args_lists c.args.target.0 c.requires.target))
    c.relate_args.ensures.are
