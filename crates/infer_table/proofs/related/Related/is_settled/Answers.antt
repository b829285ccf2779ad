use Rattle.std.proofs.Common.{◌≡◌, ◌∷◌, [], sym, subst, ◌∙◌, true}
use Rattle.std.specs.HashSet.{contains}
use Rattle.type_terms.specs.Promised.Handles.{arg_trees}
use Rattle.type_terms.specs.declared.kinds.GenericArgKind.{GenericArgKind}
use Rattle.type_terms.specs.declared.kinds.GenericArgKind.TheVariants.{Ty as AType}
use Rattle.infer_table.specs.Related.{RestsIn, pair_eq}
use Rattle.infer_table.specs.declared.related.Pair.{Pair}
use Rattle.infer_table.proofs.related.Related.is_settled.Goals as goal

pub returns-in-Ty-right : goal.returns-in-Ty-right
returns-in-Ty-right c = record {
  settled = λ h es t todo k.
      let p : Pair = record { left = c.in-Ty.left.0; right = c.in-Ty-right.right.0 } in
      let is : contains pair_eq c.args.self.now.settled p ≡ true = sym c.contains.ensures ∙ h in
      subst (λ (x : GenericArgKind). RestsIn es t [] ((arg_trees es x, arg_trees es c.args.equation.right) ∷ [])) (sym c.in-Ty.is)
      (subst (λ (x : GenericArgKind). RestsIn es t [] ((arg_trees es (AType c.in-Ty.left), arg_trees es x) ∷ [])) (sym c.in-Ty-right.is) (k.settled p is).rests);
}
