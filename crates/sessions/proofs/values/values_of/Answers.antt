use Rattle.std.proofs.Common.{◌≡◌, ◌∙◌, refl, ap, List, [], ◌∷◌}
use Rattle.type_terms.specs.Promised.Trees.{Trees, none}
use Rattle.type_terms.specs.Promised.Handles.{ArgHeld, arg_trees}
use Rattle.type_terms.specs.Kept.{arg-held-later, arg-trees-later, args-held-later}
use Rattle.type_terms.specs.Pieces.{Piece}
use Rattle.infer_table.specs.Content.{content}
use Rattle.infer_table.specs.Kept.{content-kept}
use Rattle.infer_table.specs.Solutions.{Binding, resolved}
use Rattle.sessions.proofs.Resolved.{held-at, one-more-value}
use Rattle.sessions.proofs.values.values_of.Goals as goal
use Rattle.type_terms.proofs.Items.{args-held-push}

abbrev first_trees : List Piece → Trees
first_trees [] = none
first_trees (p ∷ ps) = p.trees

pub loop-unknown-init : goal.loop-unknown-init
loop-unknown-init c = record {
  keeps = λ i e h. h;
  limit = refl;
  ready = c.requires.ready;
  held = rw c.new-values.ensures.items tt;
  are = rw c.new-values.ensures.items refl;
}

pub eager_resolve_vars-requires-clause-held : goal.eager_resolve_vars-requires-clause-held
eager_resolve_vars-requires-clause-held c =
    let es = c.args.cx.now.entries in
    let x = c.unknown-item.result in
    let had : ArgHeld es x = rw c.unknown-item.is (held-at es c.args.unknowns.now c.loop-unknown.unknown-index x c.requires.held c.loop-unknown-test.true) in
    arg-held-later es c.loop-unknown.cx.entries c.loop-unknown.invariant.keeps x had

pub loop-unknown-preserved : goal.loop-unknown-preserved
loop-unknown-preserved c =
    let es = c.args.cx.now.entries in
    let now = c.loop-unknown.cx.entries in
    let next = c.eager_resolve_vars.new.cx.entries in
    let inv = c.loop-unknown.invariant in
    let xs = c.args.unknowns.now in
    let i = c.loop-unknown.unknown-index in
    let ys = c.loop-unknown.values.items in
    let x = c.unknown-item.result in
    let y = c.in_ok-value.value in
    let k = c.eager_resolve_vars.ensures.terms.grew.keeps in
    let bs = content es c.args.table.now.values in
    let had : ArgHeld es x = rw c.unknown-item.is (held-at es xs i x c.requires.held c.loop-unknown-test.true) in
    let one : arg_trees next y ≡ resolved bs (arg_trees es x) =
    ap first_trees c.in_ok-value.ensures.resolved
    ∙ ap (λ (z : List Binding). resolved z (arg_trees now x)) (content-kept es now c.args.table.now.values inv.keeps c.requires.ready.held)
    ∙ ap (resolved bs) (arg-trees-later es now inv.keeps x had) in
    record {
      keeps = λ j e h. k j e (inv.keeps j e h);
      limit = c.eager_resolve_vars.ensures.terms.grew.limit ∙ inv.limit;
      ready = c.eager_resolve_vars.ensures.ready;
      held = rw c.in_ok-push.ensures.items (args-held-push next ys y (args-held-later now next k ys inv.held) c.in_ok-value.ensures.held);
      are = rw c.in_ok-push.ensures.items (one-more-value bs es now next k xs ys i x y c.loop-unknown-test.true c.unknown-item.is inv.held inv.are one);
    }
