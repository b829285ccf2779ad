use Rattle.std.proofs.Common.{◌≡◌, ◌++◌, ap, sym, ◌∙◌, subst}
use Rattle.type_terms.specs.Promised.Rules.{asked}
use Rattle.type_terms.specs.Promised.Handles.{types, trees_at}
use Rattle.type_terms.specs.Kept.{trees-later}
use Rattle.declarations.specs.Applied.{references_in, TraitRefsHeld}
use Rattle.declarations.proofs.Bounded.{held-more, one-more}
use Rattle.type_terms.proofs.Grown.{grew-on}
use Rattle.type_terms.specs.Kinds.{TysHeld}
use Rattle.structural_traits.specs.Constituents.{types_asked}
use Rattle.structural_traits.proofs.asked.types_asked.Goals as goal

pub tys-preserved : goal.tys-preserved
tys-preserved c =
    let es = c.args.cx.now.entries in
    let now = c.tys.cx.entries in
    let next = c.type_asked.new.cx.entries in
    let inv = c.tys.invariant in
    let t = c.args.def_id.index in
    let found = c.tys.found.items in
    let r = c.in_ok-trait_ref.trait_ref in
    let k = c.type_asked.ensures.terms.grew.keeps in
    let back = c.in-Some.ensures.cases.0 in
    let x = c.in-Some.ty.now in
    let rest = c.in-Some.others.now in
    let held = subst (TysHeld es) back inv.left_held in
    let all = types_asked es t c.args.tys.now in
    let ys = types_asked es t rest in
    let is = c.in_ok-trait_ref.ensures.is ∙ ap (asked t) (trees-later es now inv.grew.keeps types x.0 held.0) in
    let before = subst (λ l. references_in now found ++ types_asked es t l ≡ all) back inv.are in
    let put = c.in_ok-push.ensures.items in
    record {
      grew = grew-on inv.grew c.type_asked.ensures.terms.grew;
      left_held = held.1;
      found_held = subst (TraitRefsHeld next) (sym put) (held-more now next k found r inv.found_held c.in_ok-trait_ref.ensures.held);
      are = subst (λ l. references_in next l ++ ys ≡ all) (sym put) (one-more now next k found r (asked t (trees_at es x.0)) ys all inv.found_held is before);
    }
