use Rattle.std.proofs.Common.{ap, sym, ◌∙◌, subst}
use Rattle.std.specs.Prelude.{bit_and}
use Rattle.type_terms.specs.Promised.Label.{of_type}
use Rattle.type_terms.specs.Promised.Handles.{arg_trees, trees_at, types}
use Rattle.infer_table.specs.Content.{content, IsUnbound}
use Rattle.infer_table.specs.Solutions.{resolved}
use Rattle.infer_table.proofs.ContentFacts.{is-trees, valued}
use Rattle.infer_table.proofs.SolutionLaws.{resolved-unbound}
use Rattle.infer_table.proofs.ResolveFacts.{value-free-resolved}
use Rattle.infer_table.proofs.resolving.plain_value.Goals as goal

pub returns-in-Infer-clause-resolved : goal.returns-in-Infer-clause-resolved
returns-in-Infer-clause-resolved c =
    let es = c.args.cx.now.entries in
    let bs = content es c.args.table.now.values in
    let r = c.shallow_resolve-value in
    let at = is-trees es types r.result.0 _ c.in-Infer.ensures.is in
    at ∙ sym (resolved-unbound bs of_type _ (subst (IsUnbound bs) at r.ensures.unbound)) ∙ ap (resolved bs) (sym at) ∙ r.ensures.same ∙ ap (λ a. resolved bs (arg_trees es a)) (sym c.in-Ty.is)

pub returns-then-flags-eq0-clause-resolved : goal.returns-then-flags-eq0-clause-resolved
returns-then-flags-eq0-clause-resolved c =
    let es = c.args.cx.now.entries in
    let bs = content es c.args.table.now.values in
    let r = c.shallow_resolve-value in
    sym (value-free-resolved bs (valued es c.args.table.now.values) (trees_at es r.result.0) (ap (λ f. bit_and f 514) (sym c.flags.ensures) ∙ c.if-flags-eq0.true)) ∙ r.ensures.same ∙ ap (λ a. resolved bs (arg_trees es a)) (sym c.in-Ty.is)
