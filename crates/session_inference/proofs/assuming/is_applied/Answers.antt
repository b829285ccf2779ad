use Rattle.std.proofs.Common.{◌≡◌, ◌∙◌, ◌==◌, true, subst, sym}
use Rattle.type_terms.specs.Promised.Handles.{trees_at}
use Rattle.declarations.specs.Applied.{sorts_of}
use Rattle.declarations.specs.Items.{trait_at}
use Rattle.candidate_assembly.proofs.Fitting.{of-trait, shut-is}
use Rattle.session_inference.proofs.assuming.is_applied.Goals as goal

pub returns-then-args_are_for_trait : goal.returns-then-args_are_for_trait
returns-then-args_are_for_trait c = λ e.
    let es = c.args.cx.now.interner.entries in
    let t = trees_at es c.args.reference.args.0 in
    record {
      sorts = of-trait (sorts_of t) (trait_at c.args.reference.def_id.index c.args.cx.now.handler.declarations.traits) (sym c.args_are_for_trait.ensures ∙ c.if-args_are_for_trait.true);
      closed = shut-is t (subst (λ n. (n == 0) ≡ true) c.outer_exclusive_binder.ensures e);
    }
