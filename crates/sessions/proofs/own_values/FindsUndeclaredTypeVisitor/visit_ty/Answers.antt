use Rattle.std.proofs.Common.{refl, sym, ap, ◌∙◌, not, subst}
use Rattle.type_terms.specs.Promised.Handles.{types, trees_at}
use Rattle.type_terms.specs.Kinds.{kind_trees}
use Rattle.type_terms.specs.declared.kinds.TyKind.TheVariants.{Dynamic}
use Rattle.type_terms.specs.Kept.{trees-is}
use Rattle.declarations.specs.Items.{written}
use Rattle.candidate_assembly.specs.Finding.{BreaksAt, names_undeclared}
use Rattle.candidate_assembly.proofs.Finding.{bounds-alone, among}
use Rattle.sessions.proofs.own_values.FindsUndeclaredTypeVisitor.visit_ty.Goals as goal
use Rattle.type_terms.proofs.BooleanBasics.{twice as not-not}

pub returns-in-Dynamic-clause-sees : goal.returns-in-Dynamic-clause-sees
returns-in-Dynamic-clause-sees c =
    let es = c.args.cx.now.entries in
    let V = written es c.args.self.now.declarations.now in
    let b = c.in-Dynamic.bounds in
    let r = c.in-Dynamic.field-1 in
    let named = among V (trees_at es b.0) in
    let is = ap not c.bounds_are_declared.ensures ∙ not-not named ∙ sym (bounds-alone V (trees_at es b.0) r)
    ∙ sym (ap (names_undeclared V) (trees-is es types c.args.ty.0 (kind_trees es (Dynamic b r)) c.in-Dynamic.ensures.is)) in
    (refl, subst (λ x. BreaksAt x c.break_if-in-Dynamic.result) is c.break_if-in-Dynamic.ensures)
