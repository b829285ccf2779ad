use Rattle.std.proofs.Common.{◌≡◌, refl, sym, subst, ◌∙◌, get_or}
use Rattle.infer_table.specs.declared.canonical.CanonicalVarKind.TheVariants.{Ty}
use Rattle.infer_table.specs.Content.{Grows}
use Rattle.infer_table.specs.Growth.{grows-trans}
use Rattle.infer_table.specs.LeafLaws.{leaves-later, labels-later}
use Rattle.infer_table.specs.Unknowns.{with_next}
use Rattle.infer_table.proofs.LeafFacts.{leaves-held}
use Rattle.infer_table.proofs.NewUnknowns.{leaves-push, one-more-label, one-more-made, next-grows}
use Rattle.infer_table.proofs.unknowns.next_values.Goals as goal

pub variables-preserved : goal.variables-preserved
variables-preserved c =
    let es = c.args.cx.now.entries in
    let now = c.variables.cx.entries in
    let next = c.next_value.new.cx.entries in
    let inv = c.variables.invariant in
    let k = c.next_value.ensures.terms.grew.keeps in
    let xs = c.variables.values.items in
    let x = c.in_ok-value.value in
    let t = c.args.table.now in
    let now-table = c.variables.table in
    let ks = c.args.variables.now in
    let i = c.variables.place in
    let kind = get_or ks i Ty in
    let made : c.next_value.new.table ≡ with_next now-table kind = c.in_ok-value.ensures.made in
    record {
      keeps = λ j e h. k j e (inv.keeps j e h);
      limit = c.next_value.ensures.terms.grew.limit ∙ inv.limit;
      ready = c.next_value.ensures.ready;
      held = rw c.in_ok-push.ensures.items (leaves-push next xs x (leaves-later now next k xs inv.held) c.in_ok-value.ensures.leaf);
      unknowns = rw c.in_ok-push.ensures.items
          (one-more-label next t now-table xs x ks i Ty kind c.variables-test.true refl (labels-later now next k xs inv.held ∙ inv.unknowns) inv.made c.in_ok-value.ensures.label);
      made = one-more-made t now-table c.next_value.new.table ks i Ty kind c.variables-test.true refl inv.made made;
      grows = grows-trans _ _ _ inv.grows (subst (Grows now-table) (sym made) (next-grows now-table kind));
    }

pub returns-clause-args : goal.returns-clause-args
returns-clause-args c = leaves-held c.variables.cx.entries c.variables.values.items c.variables.invariant.held
