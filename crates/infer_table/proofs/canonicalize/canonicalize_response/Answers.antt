use Rattle.std.proofs.Common.{refl, ◌≡◌, ap, sym, ◌∙◌, subst, false, [], Err, arith}
use Rattle.std.specs.Prelude.{map}
use Rattle.type_terms.specs.Promised.Trees.{none, ◌+++◌}
use Rattle.type_terms.specs.Promised.Handles.{Keeps, trees_at}
use Rattle.type_terms.specs.Terms.{args_lists}
use Rattle.type_terms.specs.Kinds.{args_trees}
use Rattle.type_terms.specs.Kept.{append-both, trees-is, trees-later}
use Rattle.infer_table.proofs.FullFacts.{memory-at-limit}
use Rattle.infer_table.specs.Canonical.{kind_of_leaf, canonical_label}
use Rattle.infer_table.specs.Solutions.{resolved}
use Rattle.infer_table.specs.Content.{content}
use Rattle.infer_table.specs.Kept.{content-kept, ready-later, constraints-kept}
use Rattle.infer_table.specs.Constraints.{constraints_trees}
use Rattle.infer_table.proofs.SolutionLaws.{resolved-append, instance-resolved}
use Rattle.infer_table.proofs.ContentFacts.{valued}
use Rattle.infer_table.proofs.EquationFacts.{solved-sorted}
use Rattle.infer_table.specs.Leaves.{labels, AreOpen, OpenAreLeaves}
use Rattle.infer_table.specs.LeafLaws.{leaves-later, labels-later}
use Rattle.infer_table.proofs.Collections.{goal-open}
use Rattle.infer_table.proofs.Numbers.{numbered-fold, relabeled-append}
use Rattle.infer_table.specs.Responses.{answer_leaves, numbered_by}
use Rattle.infer_table.proofs.ConstraintLists.{constraints-later, constraints-numbered, one-piece-is, form-same}
use Rattle.infer_table.specs.Covers.{AreNumbered}
use Rattle.infer_table.proofs.Answered.{agrees, are-numbered, value-leaves}
use Rattle.type_terms.proofs.FailFacts.{refused-term, only-tables, at-limit}
use Rattle.infer_table.proofs.canonicalize.canonicalize_response.Goals as goal

pub eager_resolve_vars-requires-clause-ready : goal.eager_resolve_vars-requires-clause-ready
eager_resolve_vars-requires-clause-ready c = ready-later c.args.cx.now.entries c.mk_args.new.self.entries c.args.table.now c.mk_args.ensures.grew.keeps c.requires.ready

pub variable_kinds-requires-clause-open : goal.variable_kinds-requires-clause-open
variable_kinds-requires-clause-open c =
    let now = c.resolve_constraints.new.cx.entries in
    subst AreOpen (sym (ap (labels now) c.as_slice.ensures.keys ∙ c.in_ok-collected.ensures.leaves)) (goal-open none (trees_at now c.in_ok-resolved.resolved.0 +++ constraints_trees now c.deref.result.now))

pub returns-in_err-variables-clause-terms : goal.returns-in_err-variables-clause-terms
returns-in_err-variables-clause-terms c = record {
  grew =
      record {
        keeps = λ i x h. c.resolve_constraints.ensures.terms.grew.keeps i x (c.eager_resolve_vars.ensures.terms.grew.keeps i x (c.mk_args.ensures.grew.keeps i x h));
        limit = c.resolve_constraints.ensures.terms.grew.limit ∙ c.eager_resolve_vars.ensures.terms.grew.limit ∙ c.mk_args.ensures.grew.limit;
      };
  full = memory-at-limit _ c.from_residual-in_err-variables.result c.from_residual-in_err-variables.ensures.1 c.in_err-variables.ensures.memory;
}

pub returns-in_err-numbered-clause-terms : goal.returns-in_err-numbered-clause-terms
returns-in_err-numbered-clause-terms c = record {
  grew =
      record {
        keeps = λ i x h. c.fold_with.ensures.grew.keeps i x (c.resolve_constraints.ensures.terms.grew.keeps i x (c.eager_resolve_vars.ensures.terms.grew.keeps i x (c.mk_args.ensures.grew.keeps i x h)));
        limit = c.fold_with.ensures.grew.limit ∙ c.resolve_constraints.ensures.terms.grew.limit ∙ c.eager_resolve_vars.ensures.terms.grew.limit ∙ c.mk_args.ensures.grew.limit;
      };
  full =
      at-limit c.from_residual-in_err-numbered.result c.from_residual-in_err-numbered.ensures.1 (λ p. only-tables (c.in_err-numbered.ensures.full (ap Err p)));
}

pub fold_constraints-requires-clause-ready : goal.fold_constraints-requires-clause-ready
fold_constraints-requires-clause-ready c =
    leaves-later c.resolve_constraints.new.cx.entries c.fold_with.new.cx.entries c.fold_with.ensures.grew.keeps c.in_ok-collected.collected.leaves.keys c.in_ok-collected.ensures.listed

pub fold_constraints-requires-clause-held : goal.fold_constraints-requires-clause-held
fold_constraints-requires-clause-held c =
    rw c.deref-2.ensures.value (constraints-kept c.resolve_constraints.new.cx.entries c.fold_with.new.cx.entries c.in_ok-constraints.constraints.items c.fold_with.ensures.grew.keeps c.in_ok-constraints.ensures.held)

pub returns-in_err-region_constraints-clause-terms : goal.returns-in_err-region_constraints-clause-terms
returns-in_err-region_constraints-clause-terms c = record {
  grew =
      record {
        keeps = λ i x h. c.fold_constraints.ensures.grew.keeps i x (c.fold_with.ensures.grew.keeps i x (c.resolve_constraints.ensures.terms.grew.keeps i x (c.eager_resolve_vars.ensures.terms.grew.keeps i x (c.mk_args.ensures.grew.keeps i x h))));
        limit = c.fold_constraints.ensures.grew.limit ∙ c.fold_with.ensures.grew.limit ∙ c.resolve_constraints.ensures.terms.grew.limit ∙ c.eager_resolve_vars.ensures.terms.grew.limit ∙ c.mk_args.ensures.grew.limit;
      };
  full =
      at-limit c.from_residual-in_err-region_constraints.result c.from_residual-in_err-region_constraints.ensures.1 (λ p. only-tables (c.in_err-region_constraints.ensures.full (ap Err p)));
}

pub returns-in_err-var_values-clause-terms : goal.returns-in_err-var_values-clause-terms
returns-in_err-var_values-clause-terms c = record {
  grew =
      record {
        keeps = λ i x h. c.fold_constraints.ensures.grew.keeps i x (c.fold_with.ensures.grew.keeps i x (c.resolve_constraints.ensures.terms.grew.keeps i x (c.eager_resolve_vars.ensures.terms.grew.keeps i x (c.mk_args.ensures.grew.keeps i x h))));
        limit = c.fold_constraints.ensures.grew.limit ∙ c.fold_with.ensures.grew.limit ∙ c.resolve_constraints.ensures.terms.grew.limit ∙ c.eager_resolve_vars.ensures.terms.grew.limit ∙ c.mk_args.ensures.grew.limit;
      };
  full = memory-at-limit _ c.from_residual-in_err-var_values.result c.from_residual-in_err-var_values.ensures.1 refl;
}

pub returns-clause-terms : goal.returns-clause-terms
returns-clause-terms c = record {
  grew =
      record {
        keeps = λ i x h. c.fold_constraints.ensures.grew.keeps i x (c.fold_with.ensures.grew.keeps i x (c.resolve_constraints.ensures.terms.grew.keeps i x (c.eager_resolve_vars.ensures.terms.grew.keeps i x (c.mk_args.ensures.grew.keeps i x h))));
        limit = c.fold_constraints.ensures.grew.limit ∙ c.fold_with.ensures.grew.limit ∙ c.resolve_constraints.ensures.terms.grew.limit ∙ c.eager_resolve_vars.ensures.terms.grew.limit ∙ c.mk_args.ensures.grew.limit;
      };
  full = tt;
}

pub returns-clause-values : goal.returns-clause-values
returns-clause-values c =
    let es = c.args.cx.now.entries in
    let made = c.mk_args.new.self.entries in
    let solved = c.eager_resolve_vars.new.cx.entries in
    let now = c.resolve_constraints.new.cx.entries in
    let next = c.fold_with.new.cx.entries in
    let end = c.fold_constraints.new.cx.entries in
    let ps = c.args.table.now.values in
    let cs = c.args.table.now.constraints in
    let bs = content es ps in
    let V = args_trees es c.args.values.now in
    let C = constraints_trees es cs in
    let keys = c.in_ok-collected.collected.leaves.keys in
    let to-solved : Keeps es solved = λ i x h. c.eager_resolve_vars.ensures.terms.grew.keeps i x (c.mk_args.ensures.grew.keeps i x h) in
    let values : trees_at now c.in_ok-resolved.resolved.0 ≡ resolved bs V =
    trees-later solved now c.resolve_constraints.ensures.terms.grew.keeps args_lists c.in_ok-resolved.resolved.0 c.in_ok-resolved.ensures.held
    ∙ one-piece-is _ _ c.in_ok-resolved.ensures.resolved
    ∙ ap (λ z. resolved (content made ps) z) (trees-is made args_lists c.in_ok-given.given.0 _ c.in_ok-given.ensures.is ∙ ap (args_trees es) c.in_ok-from_slice.ensures.items)
    ∙ ap (λ z. resolved z V) (content-kept es made ps c.mk_args.ensures.grew.keeps c.requires.ready.held) in
    let constraints : constraints_trees now c.in_ok-constraints.constraints.items ≡ resolved bs C =
    c.in_ok-constraints.ensures.resolved
    ∙ ap (λ z. resolved (content solved ps) (constraints_trees solved z)) c.region_constraints.ensures
    ∙ ap (resolved (content solved ps)) (constraints-later es solved to-solved cs c.requires.ready.constraints_held)
    ∙ ap (λ z. resolved z C) (content-kept es solved ps to-solved c.requires.ready.held) in
    let listed : labels now keys ≡ answer_leaves (resolved bs (V +++ C)) =
    c.in_ok-collected.ensures.leaves
    ∙ ap answer_leaves (append-both _ _ _ _ values (ap (constraints_trees now) c.deref.ensures.value ∙ constraints) ∙ sym (resolved-append bs V C)) in
    let numbered-values : args_trees end c.in_ok-var_values.var_values.items ≡ numbered_by (answer_leaves (resolved bs (V +++ C))) (resolved bs V) =
    ap (args_trees end) c.in_ok-var_values.ensures.items
    ∙ sym (trees-is end args_lists c.in_ok-numbered.numbered.0 _ c.args-2.ensures.is)
    ∙ trees-later next end c.fold_constraints.ensures.grew.keeps args_lists c.in_ok-numbered.numbered.0 c.in_ok-numbered.ensures.held
    ∙ numbered-fold false (labels now keys) [] _ _ c.in_ok-numbered.ensures.folded.1
    ∙ ap (λ z. numbered_by z (trees_at now c.in_ok-resolved.resolved.0)) listed
    ∙ ap (numbered_by (answer_leaves (resolved bs (V +++ C)))) values in
    numbered-values

pub returns-clause-constraints : goal.returns-clause-constraints
returns-clause-constraints c =
    let es = c.args.cx.now.entries in
    let made = c.mk_args.new.self.entries in
    let solved = c.eager_resolve_vars.new.cx.entries in
    let now = c.resolve_constraints.new.cx.entries in
    let next = c.fold_with.new.cx.entries in
    let end = c.fold_constraints.new.cx.entries in
    let ps = c.args.table.now.values in
    let cs = c.args.table.now.constraints in
    let bs = content es ps in
    let V = args_trees es c.args.values.now in
    let C = constraints_trees es cs in
    let keys = c.in_ok-collected.collected.leaves.keys in
    let to-solved : Keeps es solved = λ i x h. c.eager_resolve_vars.ensures.terms.grew.keeps i x (c.mk_args.ensures.grew.keeps i x h) in
    let values : trees_at now c.in_ok-resolved.resolved.0 ≡ resolved bs V =
    trees-later solved now c.resolve_constraints.ensures.terms.grew.keeps args_lists c.in_ok-resolved.resolved.0 c.in_ok-resolved.ensures.held
    ∙ one-piece-is _ _ c.in_ok-resolved.ensures.resolved
    ∙ ap (λ z. resolved (content made ps) z) (trees-is made args_lists c.in_ok-given.given.0 _ c.in_ok-given.ensures.is ∙ ap (args_trees es) c.in_ok-from_slice.ensures.items)
    ∙ ap (λ z. resolved z V) (content-kept es made ps c.mk_args.ensures.grew.keeps c.requires.ready.held) in
    let constraints : constraints_trees now c.in_ok-constraints.constraints.items ≡ resolved bs C =
    c.in_ok-constraints.ensures.resolved
    ∙ ap (λ z. resolved (content solved ps) (constraints_trees solved z)) c.region_constraints.ensures
    ∙ ap (resolved (content solved ps)) (constraints-later es solved to-solved cs c.requires.ready.constraints_held)
    ∙ ap (λ z. resolved z C) (content-kept es solved ps to-solved c.requires.ready.held) in
    let listed : labels now keys ≡ answer_leaves (resolved bs (V +++ C)) =
    c.in_ok-collected.ensures.leaves
    ∙ ap answer_leaves (append-both _ _ _ _ values (ap (constraints_trees now) c.deref.ensures.value ∙ constraints) ∙ sym (resolved-append bs V C)) in
    let numbered-constraints : constraints_trees end c.in_ok-region_constraints.region_constraints.items ≡ numbered_by (answer_leaves (resolved bs (V +++ C))) (resolved bs C) =
    constraints-numbered (labels next keys) next end c.deref-2.result.now c.in_ok-region_constraints.region_constraints.items c.in_ok-region_constraints.ensures.folded
    ∙ ap (λ z. numbered_by z (constraints_trees next c.deref-2.result.now)) (labels-later now next c.fold_with.ensures.grew.keeps keys c.in_ok-collected.ensures.listed ∙ listed)
    ∙ ap (λ z. numbered_by (answer_leaves (resolved bs (V +++ C))) (constraints_trees next z)) c.deref-2.ensures.value
    ∙ ap (numbered_by (answer_leaves (resolved bs (V +++ C)))) (constraints-later now next c.fold_with.ensures.grew.keeps c.in_ok-constraints.constraints.items c.in_ok-constraints.ensures.held ∙ constraints) in
    numbered-constraints

pub returns-clause-form : goal.returns-clause-form
returns-clause-form c =
    let es = c.args.cx.now.entries in
    let made = c.mk_args.new.self.entries in
    let solved = c.eager_resolve_vars.new.cx.entries in
    let now = c.resolve_constraints.new.cx.entries in
    let next = c.fold_with.new.cx.entries in
    let end = c.fold_constraints.new.cx.entries in
    let ps = c.args.table.now.values in
    let cs = c.args.table.now.constraints in
    let bs = content es ps in
    let V = args_trees es c.args.values.now in
    let C = constraints_trees es cs in
    let keys = c.in_ok-collected.collected.leaves.keys in
    let to-solved : Keeps es solved = λ i x h. c.eager_resolve_vars.ensures.terms.grew.keeps i x (c.mk_args.ensures.grew.keeps i x h) in
    let values : trees_at now c.in_ok-resolved.resolved.0 ≡ resolved bs V =
    trees-later solved now c.resolve_constraints.ensures.terms.grew.keeps args_lists c.in_ok-resolved.resolved.0 c.in_ok-resolved.ensures.held
    ∙ one-piece-is _ _ c.in_ok-resolved.ensures.resolved
    ∙ ap (λ z. resolved (content made ps) z) (trees-is made args_lists c.in_ok-given.given.0 _ c.in_ok-given.ensures.is ∙ ap (args_trees es) c.in_ok-from_slice.ensures.items)
    ∙ ap (λ z. resolved z V) (content-kept es made ps c.mk_args.ensures.grew.keeps c.requires.ready.held) in
    let constraints : constraints_trees now c.in_ok-constraints.constraints.items ≡ resolved bs C =
    c.in_ok-constraints.ensures.resolved
    ∙ ap (λ z. resolved (content solved ps) (constraints_trees solved z)) c.region_constraints.ensures
    ∙ ap (resolved (content solved ps)) (constraints-later es solved to-solved cs c.requires.ready.constraints_held)
    ∙ ap (λ z. resolved z C) (content-kept es solved ps to-solved c.requires.ready.held) in
    let listed : labels now keys ≡ answer_leaves (resolved bs (V +++ C)) =
    c.in_ok-collected.ensures.leaves
    ∙ ap answer_leaves (append-both _ _ _ _ values (ap (constraints_trees now) c.deref.ensures.value ∙ constraints) ∙ sym (resolved-append bs V C)) in
    let numbered-values : args_trees end c.in_ok-var_values.var_values.items ≡ numbered_by (answer_leaves (resolved bs (V +++ C))) (resolved bs V) =
    ap (args_trees end) c.in_ok-var_values.ensures.items
    ∙ sym (trees-is end args_lists c.in_ok-numbered.numbered.0 _ c.args-2.ensures.is)
    ∙ trees-later next end c.fold_constraints.ensures.grew.keeps args_lists c.in_ok-numbered.numbered.0 c.in_ok-numbered.ensures.held
    ∙ numbered-fold false (labels now keys) [] _ _ c.in_ok-numbered.ensures.folded.1
    ∙ ap (λ z. numbered_by z (trees_at now c.in_ok-resolved.resolved.0)) listed
    ∙ ap (numbered_by (answer_leaves (resolved bs (V +++ C)))) values in
    let numbered-constraints : constraints_trees end c.in_ok-region_constraints.region_constraints.items ≡ numbered_by (answer_leaves (resolved bs (V +++ C))) (resolved bs C) =
    constraints-numbered (labels next keys) next end c.deref-2.result.now c.in_ok-region_constraints.region_constraints.items c.in_ok-region_constraints.ensures.folded
    ∙ ap (λ z. numbered_by z (constraints_trees next c.deref-2.result.now)) (labels-later now next c.fold_with.ensures.grew.keeps keys c.in_ok-collected.ensures.listed ∙ listed)
    ∙ ap (λ z. numbered_by (answer_leaves (resolved bs (V +++ C))) (constraints_trees next z)) c.deref-2.ensures.value
    ∙ ap (numbered_by (answer_leaves (resolved bs (V +++ C)))) (constraints-later now next c.fold_with.ensures.grew.keeps c.in_ok-constraints.constraints.items c.in_ok-constraints.ensures.held ∙ constraints) in
    let P = resolved bs (V +++ C) in
    let ls = answer_leaves P in
    let trees =
    append-both _ _ _ _ numbered-values numbered-constraints
    ∙ sym (relabeled-append false (canonical_label ls) (resolved bs V) (resolved bs C))
    ∙ ap (numbered_by ls) (sym (resolved-append bs V C)) in
    form-same _ _ _ _ trees (c.in_ok-variables.ensures.kinds ∙ ap (λ z. map kind_of_leaf (labels now z)) c.as_slice.ensures.keys ∙ ap (map kind_of_leaf) listed)

pub returns-clause-agrees : goal.returns-clause-agrees
returns-clause-agrees c = λ n s h.
    let es = c.args.cx.now.entries in
    let made = c.mk_args.new.self.entries in
    let solved = c.eager_resolve_vars.new.cx.entries in
    let now = c.resolve_constraints.new.cx.entries in
    let next = c.fold_with.new.cx.entries in
    let end = c.fold_constraints.new.cx.entries in
    let ps = c.args.table.now.values in
    let cs = c.args.table.now.constraints in
    let bs = content es ps in
    let V = args_trees es c.args.values.now in
    let C = constraints_trees es cs in
    let keys = c.in_ok-collected.collected.leaves.keys in
    let to-solved : Keeps es solved = λ i x h. c.eager_resolve_vars.ensures.terms.grew.keeps i x (c.mk_args.ensures.grew.keeps i x h) in
    let values : trees_at now c.in_ok-resolved.resolved.0 ≡ resolved bs V =
    trees-later solved now c.resolve_constraints.ensures.terms.grew.keeps args_lists c.in_ok-resolved.resolved.0 c.in_ok-resolved.ensures.held
    ∙ one-piece-is _ _ c.in_ok-resolved.ensures.resolved
    ∙ ap (λ z. resolved (content made ps) z) (trees-is made args_lists c.in_ok-given.given.0 _ c.in_ok-given.ensures.is ∙ ap (args_trees es) c.in_ok-from_slice.ensures.items)
    ∙ ap (λ z. resolved z V) (content-kept es made ps c.mk_args.ensures.grew.keeps c.requires.ready.held) in
    let constraints : constraints_trees now c.in_ok-constraints.constraints.items ≡ resolved bs C =
    c.in_ok-constraints.ensures.resolved
    ∙ ap (λ z. resolved (content solved ps) (constraints_trees solved z)) c.region_constraints.ensures
    ∙ ap (resolved (content solved ps)) (constraints-later es solved to-solved cs c.requires.ready.constraints_held)
    ∙ ap (λ z. resolved z C) (content-kept es solved ps to-solved c.requires.ready.held) in
    let listed : labels now keys ≡ answer_leaves (resolved bs (V +++ C)) =
    c.in_ok-collected.ensures.leaves
    ∙ ap answer_leaves (append-both _ _ _ _ values (ap (constraints_trees now) c.deref.ensures.value ∙ constraints) ∙ sym (resolved-append bs V C)) in
    let numbered-values : args_trees end c.in_ok-var_values.var_values.items ≡ numbered_by (answer_leaves (resolved bs (V +++ C))) (resolved bs V) =
    ap (args_trees end) c.in_ok-var_values.ensures.items
    ∙ sym (trees-is end args_lists c.in_ok-numbered.numbered.0 _ c.args-2.ensures.is)
    ∙ trees-later next end c.fold_constraints.ensures.grew.keeps args_lists c.in_ok-numbered.numbered.0 c.in_ok-numbered.ensures.held
    ∙ numbered-fold false (labels now keys) [] _ _ c.in_ok-numbered.ensures.folded.1
    ∙ ap (λ z. numbered_by z (trees_at now c.in_ok-resolved.resolved.0)) listed
    ∙ ap (numbered_by (answer_leaves (resolved bs (V +++ C)))) values in
    let P = resolved bs (V +++ C) in
    let ls = answer_leaves P in
    let only : OpenAreLeaves kind_of_leaf (resolved bs V) = subst (OpenAreLeaves kind_of_leaf) values c.in_ok-collected.ensures.only in
    agrees ls s (args_trees end c.in_ok-var_values.var_values.items) (resolved bs V) V (solved-sorted s bs h) n only (value-leaves (resolved bs V) (resolved bs C) P (resolved-append bs V C)) numbered-values
    (instance-resolved s bs V (valued es ps) h)

pub returns-clause-numbered : goal.returns-clause-numbered
returns-clause-numbered c = λ n.
    let es = c.args.cx.now.entries in
    let made = c.mk_args.new.self.entries in
    let solved = c.eager_resolve_vars.new.cx.entries in
    let now = c.resolve_constraints.new.cx.entries in
    let next = c.fold_with.new.cx.entries in
    let end = c.fold_constraints.new.cx.entries in
    let ps = c.args.table.now.values in
    let cs = c.args.table.now.constraints in
    let bs = content es ps in
    let V = args_trees es c.args.values.now in
    let C = constraints_trees es cs in
    let keys = c.in_ok-collected.collected.leaves.keys in
    let to-solved : Keeps es solved = λ i x h. c.eager_resolve_vars.ensures.terms.grew.keeps i x (c.mk_args.ensures.grew.keeps i x h) in
    let values : trees_at now c.in_ok-resolved.resolved.0 ≡ resolved bs V =
    trees-later solved now c.resolve_constraints.ensures.terms.grew.keeps args_lists c.in_ok-resolved.resolved.0 c.in_ok-resolved.ensures.held
    ∙ one-piece-is _ _ c.in_ok-resolved.ensures.resolved
    ∙ ap (λ z. resolved (content made ps) z) (trees-is made args_lists c.in_ok-given.given.0 _ c.in_ok-given.ensures.is ∙ ap (args_trees es) c.in_ok-from_slice.ensures.items)
    ∙ ap (λ z. resolved z V) (content-kept es made ps c.mk_args.ensures.grew.keeps c.requires.ready.held) in
    let constraints : constraints_trees now c.in_ok-constraints.constraints.items ≡ resolved bs C =
    c.in_ok-constraints.ensures.resolved
    ∙ ap (λ z. resolved (content solved ps) (constraints_trees solved z)) c.region_constraints.ensures
    ∙ ap (resolved (content solved ps)) (constraints-later es solved to-solved cs c.requires.ready.constraints_held)
    ∙ ap (λ z. resolved z C) (content-kept es solved ps to-solved c.requires.ready.held) in
    let listed : labels now keys ≡ answer_leaves (resolved bs (V +++ C)) =
    c.in_ok-collected.ensures.leaves
    ∙ ap answer_leaves (append-both _ _ _ _ values (ap (constraints_trees now) c.deref.ensures.value ∙ constraints) ∙ sym (resolved-append bs V C)) in
    let numbered-values : args_trees end c.in_ok-var_values.var_values.items ≡ numbered_by (answer_leaves (resolved bs (V +++ C))) (resolved bs V) =
    ap (args_trees end) c.in_ok-var_values.ensures.items
    ∙ sym (trees-is end args_lists c.in_ok-numbered.numbered.0 _ c.args-2.ensures.is)
    ∙ trees-later next end c.fold_constraints.ensures.grew.keeps args_lists c.in_ok-numbered.numbered.0 c.in_ok-numbered.ensures.held
    ∙ numbered-fold false (labels now keys) [] _ _ c.in_ok-numbered.ensures.folded.1
    ∙ ap (λ z. numbered_by z (trees_at now c.in_ok-resolved.resolved.0)) listed
    ∙ ap (numbered_by (answer_leaves (resolved bs (V +++ C)))) values in
    let P = resolved bs (V +++ C) in
    let ls = answer_leaves P in
    let only : OpenAreLeaves kind_of_leaf (resolved bs V) = subst (OpenAreLeaves kind_of_leaf) values c.in_ok-collected.ensures.only in
    let kinds = c.in_ok-variables.ensures.kinds ∙ ap (λ z. map kind_of_leaf (labels now z)) c.as_slice.ensures.keys ∙ ap (map kind_of_leaf) listed in
    subst (AreNumbered c.in_ok-variables.variables.items) (sym numbered-values)
    (are-numbered ls c.in_ok-variables.variables.items kinds (resolved bs V) n only (value-leaves (resolved bs V) (resolved bs C) P (resolved-append bs V C)))

pub returns-in_err-given-clause-terms : goal.returns-in_err-given-clause-terms
returns-in_err-given-clause-terms c = record {
  grew = c.mk_args.ensures.grew;
  full =
      at-limit c.from_residual-in_err-given.result c.from_residual-in_err-given.ensures.1
      (λ p. refused-term args_lists (omega arith) (c.in_err-given.ensures.full (ap Err p)) c.mk_args.ensures.grew.limit c.in_err-given.ensures.refused);
}
