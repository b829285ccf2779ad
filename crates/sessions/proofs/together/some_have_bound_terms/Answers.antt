use Rattle.std.proofs.Common.{◌≡◌, ◌∙◌, refl, sym, ap, List, [], ◌∷◌}
use Rattle.type_terms.specs.Promised.Handles.{trees_at}
use Rattle.type_terms.specs.Promised.Trees.{Trees, none, some_node}
use Rattle.type_terms.specs.Pieces.{Piece}
use Rattle.type_terms.specs.Kept.{has-later, trees-later}
use Rattle.type_terms.specs.Terms.{args_lists}
use Rattle.infer_table.specs.Content.{content}
use Rattle.infer_table.specs.Kept.{content-kept}
use Rattle.infer_table.specs.Solutions.{Binding, resolved}
use Rattle.sessions.specs.Proving.{is_bound_term}
use Rattle.sessions.proofs.Unbound.{held-at, none-unbound, one-unbound, all-unbound}
use Rattle.sessions.proofs.together.some_have_bound_terms.Goals as goal

abbrev first_trees : List Piece → Trees
first_trees [] = none
first_trees (p ∷ ps) = p.trees

pub loop-reference-init : goal.loop-reference-init
loop-reference-init c = record { keeps = λ i e h. h; limit = refl; ready = c.requires.ready; unbound = none-unbound c.args.cx.now.entries c.args.table.now c.args.references.now }

pub eager_resolve_vars-requires-clause-held : goal.eager_resolve_vars-requires-clause-held
eager_resolve_vars-requires-clause-held c =
    let es = c.args.cx.now.entries in
    has-later es c.loop-reference.cx.entries c.loop-reference.invariant.keeps args_lists c.reference-item.result.args.0
    (held-at es c.args.references.now c.loop-reference.reference-index c.reference-item.result c.requires.references c.loop-reference-test.true c.reference-item.is)

pub loop-reference-preserved : goal.loop-reference-preserved
loop-reference-preserved c =
    let es = c.args.cx.now.entries in
    let now = c.loop-reference.cx.entries in
    let inv = c.loop-reference.invariant in
    let r = c.reference-item.result in
    let t = c.args.table.now in
    let k = c.eager_resolve_vars.ensures.terms.grew.keeps in
    let bs = content es t.values in
    let had = held-at es c.args.references.now c.loop-reference.reference-index r c.requires.references c.loop-reference-test.true c.reference-item.is in
    let same : trees_at c.eager_resolve_vars.new.cx.entries c.in_ok-resolved.resolved.0 ≡ resolved bs (trees_at es r.args.0) =
    ap first_trees c.in_ok-resolved.ensures.resolved
    ∙ ap (λ (z : List Binding). resolved z (trees_at now r.args.0)) (content-kept es now t.values inv.keeps c.requires.ready.held)
    ∙ ap (resolved bs) (trees-later es now inv.keeps args_lists r.args.0 had) in
    record {
      keeps = λ j e h. k j e (inv.keeps j e h);
      limit = c.eager_resolve_vars.ensures.terms.grew.limit ∙ inv.limit;
      ready = c.eager_resolve_vars.ensures.ready;
      unbound =
          one-unbound es t c.args.references.now c.loop-reference.reference-index r c.loop-reference-test.true c.reference-item.is inv.unbound
          (ap (λ x. some_node is_bound_term x) (sym same) ∙ sym c.has_bound_terms.ensures ∙ c.if-has_bound_terms.false);
    }

pub returns-clause-unbound : goal.returns-clause-unbound
returns-clause-unbound c =
    λ e. all-unbound c.args.cx.now.entries c.args.table.now c.args.references.now c.loop-reference.reference-index c.loop-reference-test.false c.loop-reference.invariant.unbound
