use Rattle.std.proofs.Common.{◌≡◌, None, ap, sym, ◌∙◌, subst}
use Rattle.type_terms.specs.Trees.{outer_binder}
use Rattle.type_terms.specs.Promised.Worlds.{all_with_args}
use Rattle.type_terms.specs.Terms.{args_lists}
use Rattle.type_terms.specs.Promised.Handles.{trees_at}
use Rattle.term_folds.specs.Arguments.{first_misfit}
use Rattle.type_terms.specs.Kept.{trees-later}
use Rattle.term_folds.specs.declared.predicate.TraitRef.{TraitRef}
use Rattle.declarations.specs.Applied.{references_in, TraitRefsHeld}
use Rattle.declarations.specs.Promised.Elaboration.{Each}
use Rattle.declarations.proofs.Bounded.{all-same}
use Rattle.declarations.proofs.Growth.{references-kept}
use Rattle.overlap_check.specs.Headers.{sorts_of_impl}
use Rattle.overlap_check.proofs.Headers.{clauses-fit, same-entries}
use Rattle.overlap_check.proofs.Unknowns.{fresh-closed}
use Rattle.overlap_check.proofs.intersection.instantiate_both.Goals as goal

pub instantiate_clauses-requires-clause-closed : goal.instantiate_clauses-requires-clause-closed
instantiate_clauses-requires-clause-closed c = let a = c.requires.left_args in ap outer_binder a.1.are ∙ fresh-closed a.0 (sorts_of_impl c.args.left.now)

pub instantiate_clauses-requires-clause-fits : goal.instantiate_clauses-requires-clause-fits
instantiate_clauses-requires-clause-fits c =
    let es = c.args.cx.now.entries in
    let a = c.requires.left_args in
    let i = c.args.left_unknowns.0 in
    subst (Each (λ (k : TraitRef). first_misfit (trees_at es i) (trees_at es k.args.0) ≡ None)) (sym c.deref.ensures.value)
    (clauses-fit es es (same-entries es) a.0 c.args.left.now c.requires.left_held c.requires.left_written i a.1.are)

pub instantiate_clauses-requires-2-clause-held : goal.instantiate_clauses-requires-2-clause-held
instantiate_clauses-requires-2-clause-held c =
    subst (TraitRefsHeld c.instantiate_clauses.new.cx.entries) (sym c.deref-2.ensures.value)
    (references-kept c.args.cx.now.entries c.instantiate_clauses.new.cx.entries c.instantiate_clauses.ensures.terms.grew.keeps c.args.right.now.clauses.items c.requires.right_held.clauses)

pub instantiate_clauses-requires-2-clause-closed : goal.instantiate_clauses-requires-2-clause-closed
instantiate_clauses-requires-2-clause-closed c =
    let a = c.requires.right_args in
    ap outer_binder (trees-later c.args.cx.now.entries c.instantiate_clauses.new.cx.entries c.instantiate_clauses.ensures.terms.grew.keeps args_lists c.args.right_unknowns.0 a.1.held ∙ a.1.are) ∙ fresh-closed a.0 (sorts_of_impl c.args.right.now)

pub instantiate_clauses-requires-2-clause-fits : goal.instantiate_clauses-requires-2-clause-fits
instantiate_clauses-requires-2-clause-fits c =
    let es = c.args.cx.now.entries in
    let now = c.instantiate_clauses.new.cx.entries in
    let k = c.instantiate_clauses.ensures.terms.grew.keeps in
    let a = c.requires.right_args in
    let i = c.args.right_unknowns.0 in
    subst (Each (λ (k : TraitRef). first_misfit (trees_at now i) (trees_at now k.args.0) ≡ None)) (sym c.deref-2.ensures.value)
    (clauses-fit es now k a.0 c.args.right.now c.requires.right_held c.requires.right_written i (trees-later es now k args_lists i a.1.held ∙ a.1.are))

pub returns-clause-left_held : goal.returns-clause-left_held
returns-clause-left_held c =
    references-kept c.instantiate_clauses.new.cx.entries c.instantiate_clauses-2.new.cx.entries c.instantiate_clauses-2.ensures.terms.grew.keeps c.in_ok-left_clauses.left_clauses.items c.in_ok-left_clauses.ensures.held

pub returns-clause-left : goal.returns-clause-left
returns-clause-left c =
    let es = c.args.cx.now.entries in
    all-same c.instantiate_clauses.new.cx.entries c.instantiate_clauses-2.new.cx.entries c.instantiate_clauses-2.ensures.terms.grew.keeps c.in_ok-left_clauses.left_clauses.items c.in_ok-left_clauses.ensures.held
    ∙ c.in_ok-left_clauses.ensures.are ∙ ap (λ l. all_with_args (trees_at es c.args.left_unknowns.0) (references_in es l)) c.deref.ensures.value

pub returns-clause-right : goal.returns-clause-right
returns-clause-right c =
    let es = c.args.cx.now.entries in
    let now = c.instantiate_clauses.new.cx.entries in
    let k = c.instantiate_clauses.ensures.terms.grew.keeps in
    let i = c.args.right_unknowns.0 in
    c.in_ok-right_clauses.ensures.are ∙ ap (λ l. all_with_args (trees_at now i) (references_in now l)) c.deref-2.ensures.value
    ∙ ap (λ A. all_with_args A (references_in now c.args.right.now.clauses.items)) (trees-later es now k args_lists i c.requires.right_args.1.held)
    ∙ ap (all_with_args (trees_at es i)) (all-same es now k c.args.right.now.clauses.items c.requires.right_held.clauses)
