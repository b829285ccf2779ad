use Rattle.std.proofs.Common.{◌≡◌, List, map, ap, subst, sym, ◌∙◌, Err, None, arith}
use Rattle.type_terms.specs.Promised.Trees.{Trees}
use Rattle.type_terms.specs.Trees.{outer_binder}
use Rattle.type_terms.specs.Promised.Worlds.{with_args, all_with_args}
use Rattle.type_terms.specs.Promised.Handles.{Keeps, trees_at}
use Rattle.type_terms.specs.Terms.{args_lists}
use Rattle.term_folds.specs.Arguments.{first_misfit}
use Rattle.type_terms.specs.Kept.{has-later, trees-later}
use Rattle.term_folds.specs.declared.predicate.TraitRef.{TraitRef}
use Rattle.type_terms.proofs.FailFacts.{refused-term, at-limit}
use Rattle.infer_table.specs.Raw.{variables_from}
use Rattle.infer_table.specs.Values.{values_of}
use Rattle.infer_table.specs.declared.canonical.CanonicalVarKind.{CanonicalVarKind}
use Rattle.infer_table.proofs.StepFacts.{keeps-trans}
use Rattle.declarations.specs.Applied.{references_in, TraitRefsHeld, sort_of_param}
use Rattle.declarations.specs.Items.{reference_in}
use Rattle.declarations.specs.Promised.Elaboration.{Each}
use Rattle.declarations.proofs.Bounded.{all-same}
use Rattle.declarations.proofs.Growth.{reference-same, references-kept}
use Rattle.type_terms.proofs.Grown.{grew-on}
use Rattle.candidate_assembly.specs.Headers.{var_kind}
use Rattle.candidate_assembly.proofs.Behind.{variables, variables-closed, variables-sorts, reference-behind, all-behind, all-fit, fits-later, arguments-are}
use Rattle.candidate_assembly.proofs.impls.instance_behind.Goals as goal

pub returns-in_err-args-clause-terms : goal.returns-in_err-args-clause-terms
returns-in_err-args-clause-terms c = record {
  grew = grew-on c.variables_behind.ensures.terms.grew c.mk_args.ensures.grew;
  full =
      let refused = c.in_err-args.ensures in
      let handed = c.from_residual-in_err-args in
      at-limit handed.result handed.ensures.1 (λ p. refused-term args_lists (omega arith) (refused.full (ap Err p)) refused.grew.limit refused.refused);
}

pub with_arguments-requires-clause-closed : goal.with_arguments-requires-clause-closed
with_arguments-requires-clause-closed c =
    let ps = c.args.def.now.params.items in
    let n = c.args.others in
    let fs = c.mk_args.new.self.entries in
    let kinds : c.deref-2.result.now ≡ map var_kind ps = c.deref-2.ensures.value ∙ c.in_ok-variables.ensures.are ∙ ap (map var_kind) c.deref.ensures.value in
    let args : trees_at fs c.in_ok-args.args.0 ≡ variables n (map var_kind ps) =
    arguments-are c.variables_behind.new.cx.entries fs c.in_ok-args.args.0 n c.in_ok-values.values.items (map var_kind ps) c.in_ok-args.ensures.is (subst (λ (ks : List CanonicalVarKind). values_of c.variables_behind.new.cx.entries c.in_ok-values.values.items ≡ variables_from n ks) kinds c.in_ok-values.ensures.values) in
    ap outer_binder args ∙ variables-closed n (map var_kind ps)

pub with_arguments-requires-clause-fits : goal.with_arguments-requires-clause-fits
with_arguments-requires-clause-fits c =
    let ps = c.args.def.now.params.items in
    let n = c.args.others in
    let fs = c.mk_args.new.self.entries in
    let kinds : c.deref-2.result.now ≡ map var_kind ps = c.deref-2.ensures.value ∙ c.in_ok-variables.ensures.are ∙ ap (map var_kind) c.deref.ensures.value in
    let args : trees_at fs c.in_ok-args.args.0 ≡ variables n (map var_kind ps) =
    arguments-are c.variables_behind.new.cx.entries fs c.in_ok-args.args.0 n c.in_ok-values.values.items (map var_kind ps) c.in_ok-args.ensures.is (subst (λ (ks : List CanonicalVarKind). values_of c.variables_behind.new.cx.entries c.in_ok-values.values.items ≡ variables_from n ks) kinds c.in_ok-values.ensures.values) in
    let es = c.args.cx.now.entries in
    let to : Keeps es fs = keeps-trans es c.variables_behind.new.cx.entries fs c.in_ok-values.ensures.terms.grew.keeps c.in_ok-args.ensures.grew.keeps in
    let fit = c.requires.speaks.header (variables n (map var_kind ps)) (variables-sorts n ps) in
    subst (λ (z : Trees). first_misfit z (trees_at fs c.args.def.now.header.args.0) ≡ None) (sym args)
    (subst (λ (t : Trees). first_misfit (variables n (map var_kind ps)) t ≡ None) (sym (trees-later es fs to args_lists c.args.def.now.header.args.0 c.requires.held.header)) fit)

pub all_with_arguments-requires-clause-held : goal.all_with_arguments-requires-clause-held
all_with_arguments-requires-clause-held c =
    let ps = c.args.def.now.params.items in
    let n = c.args.others in
    let fs = c.mk_args.new.self.entries in
    let kinds : c.deref-2.result.now ≡ map var_kind ps = c.deref-2.ensures.value ∙ c.in_ok-variables.ensures.are ∙ ap (map var_kind) c.deref.ensures.value in
    let args : trees_at fs c.in_ok-args.args.0 ≡ variables n (map var_kind ps) =
    arguments-are c.variables_behind.new.cx.entries fs c.in_ok-args.args.0 n c.in_ok-values.values.items (map var_kind ps) c.in_ok-args.ensures.is (subst (λ (ks : List CanonicalVarKind). values_of c.variables_behind.new.cx.entries c.in_ok-values.values.items ≡ variables_from n ks) kinds c.in_ok-values.ensures.values) in
    let es = c.args.cx.now.entries in
    let to : Keeps es fs = keeps-trans es c.variables_behind.new.cx.entries fs c.in_ok-values.ensures.terms.grew.keeps c.in_ok-args.ensures.grew.keeps in
    let gs = c.with_arguments.new.cx.entries in
    let on : Keeps es gs = keeps-trans es fs gs to c.in_ok-header.ensures.terms.grew.keeps in
    let still : trees_at gs c.in_ok-args.args.0 ≡ variables n (map var_kind ps) = trees-later fs gs c.in_ok-header.ensures.terms.grew.keeps args_lists c.in_ok-args.args.0 (_, c.in_ok-args.ensures.is) ∙ args in
    let cs = c.args.def.now.clauses.items in
    let slice : c.deref-3.result.now ≡ cs = c.deref-3.ensures.value in
    subst (λ (rs : List TraitRef). TraitRefsHeld gs rs) (sym slice) (references-kept es gs on cs c.requires.held.clauses)

pub all_with_arguments-requires-clause-closed : goal.all_with_arguments-requires-clause-closed
all_with_arguments-requires-clause-closed c =
    let ps = c.args.def.now.params.items in
    let n = c.args.others in
    let fs = c.mk_args.new.self.entries in
    let kinds : c.deref-2.result.now ≡ map var_kind ps = c.deref-2.ensures.value ∙ c.in_ok-variables.ensures.are ∙ ap (map var_kind) c.deref.ensures.value in
    let args : trees_at fs c.in_ok-args.args.0 ≡ variables n (map var_kind ps) =
    arguments-are c.variables_behind.new.cx.entries fs c.in_ok-args.args.0 n c.in_ok-values.values.items (map var_kind ps) c.in_ok-args.ensures.is (subst (λ (ks : List CanonicalVarKind). values_of c.variables_behind.new.cx.entries c.in_ok-values.values.items ≡ variables_from n ks) kinds c.in_ok-values.ensures.values) in
    let es = c.args.cx.now.entries in
    let to : Keeps es fs = keeps-trans es c.variables_behind.new.cx.entries fs c.in_ok-values.ensures.terms.grew.keeps c.in_ok-args.ensures.grew.keeps in
    let gs = c.with_arguments.new.cx.entries in
    let on : Keeps es gs = keeps-trans es fs gs to c.in_ok-header.ensures.terms.grew.keeps in
    let still : trees_at gs c.in_ok-args.args.0 ≡ variables n (map var_kind ps) = trees-later fs gs c.in_ok-header.ensures.terms.grew.keeps args_lists c.in_ok-args.args.0 (_, c.in_ok-args.ensures.is) ∙ args in
    let cs = c.args.def.now.clauses.items in
    let slice : c.deref-3.result.now ≡ cs = c.deref-3.ensures.value in
    ap outer_binder still ∙ variables-closed n (map var_kind ps)

pub all_with_arguments-requires-clause-fits : goal.all_with_arguments-requires-clause-fits
all_with_arguments-requires-clause-fits c =
    let ps = c.args.def.now.params.items in
    let n = c.args.others in
    let fs = c.mk_args.new.self.entries in
    let kinds : c.deref-2.result.now ≡ map var_kind ps = c.deref-2.ensures.value ∙ c.in_ok-variables.ensures.are ∙ ap (map var_kind) c.deref.ensures.value in
    let args : trees_at fs c.in_ok-args.args.0 ≡ variables n (map var_kind ps) =
    arguments-are c.variables_behind.new.cx.entries fs c.in_ok-args.args.0 n c.in_ok-values.values.items (map var_kind ps) c.in_ok-args.ensures.is (subst (λ (ks : List CanonicalVarKind). values_of c.variables_behind.new.cx.entries c.in_ok-values.values.items ≡ variables_from n ks) kinds c.in_ok-values.ensures.values) in
    let es = c.args.cx.now.entries in
    let to : Keeps es fs = keeps-trans es c.variables_behind.new.cx.entries fs c.in_ok-values.ensures.terms.grew.keeps c.in_ok-args.ensures.grew.keeps in
    let gs = c.with_arguments.new.cx.entries in
    let on : Keeps es gs = keeps-trans es fs gs to c.in_ok-header.ensures.terms.grew.keeps in
    let still : trees_at gs c.in_ok-args.args.0 ≡ variables n (map var_kind ps) = trees-later fs gs c.in_ok-header.ensures.terms.grew.keeps args_lists c.in_ok-args.args.0 (_, c.in_ok-args.ensures.is) ∙ args in
    let cs = c.args.def.now.clauses.items in
    let slice : c.deref-3.result.now ≡ cs = c.deref-3.ensures.value in
    let A = variables n (map var_kind ps) in
    subst (λ (rs : List TraitRef). Each (λ (r : TraitRef). first_misfit (trees_at gs c.in_ok-args.args.0) (trees_at gs r.args.0) ≡ None) rs) (sym slice)
    (subst (λ (z : Trees). Each (λ (r : TraitRef). first_misfit z (trees_at gs r.args.0) ≡ None) cs) (sym still)
    (fits-later es gs on A cs c.requires.held.clauses (all-fit es (map sort_of_param ps) A (variables-sorts n ps) cs c.requires.speaks.clauses)))

pub returns-clause-header_held : goal.returns-clause-header_held
returns-clause-header_held c = has-later c.with_arguments.new.cx.entries c.all_with_arguments.new.cx.entries c.in_ok-clauses.ensures.terms.grew.keeps args_lists c.in_ok-header.header.args.0 c.in_ok-header.ensures.held

pub returns-clause-header : goal.returns-clause-header
returns-clause-header c =
    let ps = c.args.def.now.params.items in
    let n = c.args.others in
    let fs = c.mk_args.new.self.entries in
    let kinds : c.deref-2.result.now ≡ map var_kind ps = c.deref-2.ensures.value ∙ c.in_ok-variables.ensures.are ∙ ap (map var_kind) c.deref.ensures.value in
    let args : trees_at fs c.in_ok-args.args.0 ≡ variables n (map var_kind ps) =
    arguments-are c.variables_behind.new.cx.entries fs c.in_ok-args.args.0 n c.in_ok-values.values.items (map var_kind ps) c.in_ok-args.ensures.is (subst (λ (ks : List CanonicalVarKind). values_of c.variables_behind.new.cx.entries c.in_ok-values.values.items ≡ variables_from n ks) kinds c.in_ok-values.ensures.values) in
    let es = c.args.cx.now.entries in
    let to : Keeps es fs = keeps-trans es c.variables_behind.new.cx.entries fs c.in_ok-values.ensures.terms.grew.keeps c.in_ok-args.ensures.grew.keeps in
    let fit = c.requires.speaks.header (variables n (map var_kind ps)) (variables-sorts n ps) in
    let gs = c.with_arguments.new.cx.entries in
    let hs = c.all_with_arguments.new.cx.entries in
    let header = c.args.def.now.header in
    reference-same gs hs c.in_ok-clauses.ensures.terms.grew.keeps c.in_ok-header.header c.in_ok-header.ensures.held
    ∙ c.in_ok-header.ensures.is ∙ ap (λ z. with_args z (reference_in fs header)) args ∙ ap (with_args (variables n (map var_kind ps))) (reference-same es fs to header c.requires.held.header)
    ∙ reference-behind n (map var_kind ps) (reference_in es header) fit

pub returns-clause-clauses : goal.returns-clause-clauses
returns-clause-clauses c =
    let ps = c.args.def.now.params.items in
    let n = c.args.others in
    let fs = c.mk_args.new.self.entries in
    let kinds : c.deref-2.result.now ≡ map var_kind ps = c.deref-2.ensures.value ∙ c.in_ok-variables.ensures.are ∙ ap (map var_kind) c.deref.ensures.value in
    let args : trees_at fs c.in_ok-args.args.0 ≡ variables n (map var_kind ps) =
    arguments-are c.variables_behind.new.cx.entries fs c.in_ok-args.args.0 n c.in_ok-values.values.items (map var_kind ps) c.in_ok-args.ensures.is (subst (λ (ks : List CanonicalVarKind). values_of c.variables_behind.new.cx.entries c.in_ok-values.values.items ≡ variables_from n ks) kinds c.in_ok-values.ensures.values) in
    let es = c.args.cx.now.entries in
    let to : Keeps es fs = keeps-trans es c.variables_behind.new.cx.entries fs c.in_ok-values.ensures.terms.grew.keeps c.in_ok-args.ensures.grew.keeps in
    let gs = c.with_arguments.new.cx.entries in
    let on : Keeps es gs = keeps-trans es fs gs to c.in_ok-header.ensures.terms.grew.keeps in
    let still : trees_at gs c.in_ok-args.args.0 ≡ variables n (map var_kind ps) = trees-later fs gs c.in_ok-header.ensures.terms.grew.keeps args_lists c.in_ok-args.args.0 (_, c.in_ok-args.ensures.is) ∙ args in
    let cs = c.args.def.now.clauses.items in
    let slice : c.deref-3.result.now ≡ cs = c.deref-3.ensures.value in
    let A = variables n (map var_kind ps) in
    c.in_ok-clauses.ensures.are ∙ ap (λ z. all_with_args z (references_in gs c.deref-3.result.now)) still ∙ ap (λ rs. all_with_args A (references_in gs rs)) slice
    ∙ ap (all_with_args A) (all-same es gs on cs c.requires.held.clauses)
    ∙ all-behind es n (map var_kind ps) cs (all-fit es (map sort_of_param ps) A (variables-sorts n ps) cs c.requires.speaks.clauses)
