use Rattle.std.proofs.Common.{◌≡◌, ◌∙◌, ◌+◌, ◌-◌, ◌<◌, ◌≤◌, ℕ, List, length, get_or, drop, sym, ap, arith}
use Rattle.std.proofs.lemmas.List.{at_drop_more, at_drop_all}
use Rattle.search_paths.specs.declared.path_kind.PathKind.{PathKind}
use Rattle.search_graph.specs.declared.stack.StackEntry.{StackEntry}
use Rattle.search_paths.specs.Path.{greater}
use Rattle.search_graph.specs.Stack.{kind_after}
use Rattle.search_graph.proofs.stack.kind_of_path.Goals as goal

-- the step of one more entry comes first
kind_step : {I R : Type 0} (es : List (StackEntry I R)) (above : ℕ) (entry : StackEntry I R) (step path new : PathKind) → 0 < above → above ≤ length es → new ≡ greater (get_or es (above - 1) entry).step_kind path → path ≡ kind_after (drop above es) step → new ≡ kind_after (drop (above - 1) es) step
kind_step es above entry step path new positive inside is kind =
    let next : above - 1 + 1 ≡ above = omega (arith, positive) in
    is
    ∙ ap (greater (get_or es (above - 1) entry).step_kind) (kind ∙ ap (λ n. kind_after (drop n es) step) (sym next))
    ∙ sym (at_drop_more (λ xs. kind_after xs step) es (above - 1) entry (omega (arith, positive, inside)))

pub loop-above-init : goal.loop-above-init
loop-above-init g c =
    record { within = omega arith; below = omega arith; kind = sym (at_drop_all (λ xs. kind_after xs c.args.step_kind) c.args.stack.now (length c.args.stack.now) (omega arith)) }

pub returns : goal.returns
returns g c =
    let last : c.loop-above.above ≡ c.args.index + 1 = omega arith in
    c.loop-above.invariant.kind ∙ ap (λ n. kind_after (drop n c.args.stack.now) c.args.step_kind) last

pub loop-above-preserved : goal.loop-above-preserved
loop-above-preserved g c =
    let inv = c.loop-above.invariant in
    record {
      within = omega arith;
      below = omega arith;
      kind = kind_step c.args.stack.now c.loop-above.above c.index-stack-above.result c.args.step_kind c.loop-above.path_kind c.extend-path_kind.result (omega arith) inv.within c.extend-path_kind.ensures.is inv.kind;
    }
