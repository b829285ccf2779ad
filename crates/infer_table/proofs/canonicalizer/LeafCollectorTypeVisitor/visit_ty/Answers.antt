use Rattle.std.proofs.Common.{◌≡◌, true, refl, sym, ◌∙◌, ap}
use Rattle.infer_table.specs.Leaves.{labels, are_closed_flags, is_closed_by}
use Rattle.type_terms.specs.Promised.Handles.{trees_at}
use Rattle.infer_table.proofs.ClosedFacts.{closed-leaves, closed-only}
use Rattle.infer_table.proofs.canonicalizer.LeafCollectorTypeVisitor.visit_ty.Goals as goal

pub returns-then-is_closed-clause-sees : goal.returns-then-is_closed-clause-sees
returns-then-is_closed-clause-sees c =
    let es = c.args.cx.now.entries in
    let b = c.args.self.now.in_clause in
    let t = trees_at es c.args.ty.0 in
    let closed : is_closed_by b t ≡ true = sym (c.if-is_closed.ensures ∙ ap (are_closed_flags b) c.flags.ensures) in
    (refl, (sym (closed-leaves b (labels es c.args.self.now.leaves.keys) t closed), closed-only b t closed))
