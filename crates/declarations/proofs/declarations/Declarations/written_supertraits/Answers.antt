use Rattle.std.proofs.Common.{◌≡◌, sym, ap, ◌∙◌, subst, None, Ok, Err}
use Rattle.std.specs.Prelude.{Result, IfOk}
use Rattle.type_terms.specs.Promised.Handles.{trees_at}
use Rattle.term_folds.specs.Arguments.{first_misfit}
use Rattle.type_terms.specs.Promised.Worlds.{all_with_args}
use Rattle.declarations.specs.Applied.{references_in, TraitRefsHeld}
use Rattle.declarations.specs.Promised.Elaboration.{Each}
use Rattle.declarations.proofs.Elaborating.{bounds-fit, bounds-applied}
use Rattle.declarations.proofs.declarations.Declarations.written_supertraits.Goals as goal

pub all_with_arguments-requires-clause-held : goal.all_with_arguments-requires-clause-held
all_with_arguments-requires-clause-held c = subst (TraitRefsHeld c.args.cx.now.entries) (sym c.deref.ensures.value) (c.in-Some.ensures.held c.args.cx.now.entries c.requires.held)

pub all_with_arguments-requires-clause-fits : goal.all_with_arguments-requires-clause-fits
all_with_arguments-requires-clause-fits c =
    subst (Each (λ b. first_misfit (trees_at c.args.cx.now.entries c.args.trait_ref.args.0) (trees_at c.args.cx.now.entries b.args.0) ≡ None)) (sym c.deref.ensures.value)
    (bounds-fit c.args.cx.now.entries c.args.self.now c.requires.bounds c.args.trait_ref c.requires.applied c.in-Some.def.now c.in-Some.ensures.is)

mapped : {T E : Type 0} (P Q : T → Type 0) (r : Result T E) → ((v : T) → P v → Q v) → IfOk r P → IfOk r Q
mapped P Q (Ok v) f h = f v h
mapped P Q (Err e) f h = tt

pub returns-in-Some-clause-applied : goal.returns-in-Some-clause-applied
returns-in-Some-clause-applied c =
    let old = c.args.cx.now.entries in
    let new = c.all_with_arguments.new.cx.entries in
    let A = trees_at old c.args.trait_ref.args.0 in
    mapped _ _ c.all_with_arguments.result
    (λ v are.
    bounds-applied old new c.args.self.now c.requires.bounds c.args.trait_ref c.requires.applied c.in-Some.def.now c.in-Some.ensures.is v.items
    (are ∙ ap (λ l. all_with_args A (references_in old l)) c.deref.ensures.value))
    c.all_with_arguments.ensures.are
