use Rattle.std.proofs.Common.{◌≡◌, ◌∙◌, ◌==◌, ℕ, length, ap, arith}
use Rattle.goal_evaluator.specs.Responses.{is_identity_modulo_regions}
use Rattle.infer_table.specs.Values.{values_of}
use Rattle.solver_graph.proofs.Checks.{nothing-where, something-where}
use Rattle.solver_graph.proofs.silent.holds_nothing.Goals as goal

pub returns-then-is_empty : goal.returns-then-is_empty
returns-then-is_empty c =
    let x = c.args in
    let es = x.cx.now.entries in
    let constraints = x.response.now.region_constraints in
    let whole : constraints.len ≡ length constraints.items = omega (arith, constraints.ok.0) in
    c.is_identity_modulo_regions.ensures ∙ ap (λ vs. is_identity_modulo_regions 0 (values_of es vs)) c.deref.ensures.value
    ∙ nothing-where es x.response.now c.is_empty.result c.requires.fits (c.is_empty.ensures ∙ ap (λ (n : ℕ). n == 0) whole) c.if-is_empty.true

pub returns : goal.returns
returns c =
    let constraints = c.args.response.now.region_constraints in
    let whole : constraints.len ≡ length constraints.items = omega (arith, constraints.ok.0) in
    something-where c.args.cx.now.entries c.args.response.now c.is_empty.result (c.is_empty.ensures ∙ ap (λ (n : ℕ). n == 0) whole) c.if-is_empty.false
