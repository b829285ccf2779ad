use Rattle.std.proofs.Common.{◌≡◌, ◌∙◌, Err, IfSome, arith, ap, map, sym, subst}
use Rattle.type_terms.specs.Kinds.{args_trees}
use Rattle.type_terms.specs.Promised.Handles.{ArgsHeld, Is}
use Rattle.type_terms.specs.Promised.Trees.{Trees}
use Rattle.type_terms.specs.Terms.{type_lists}
use Rattle.type_terms.specs.declared.kinds.GenericArgKind.TheVariants.{Ty}
use Rattle.session_inference.proofs.Shapes.{refused-part, types-held, types-trees}
use Rattle.session_inference.proofs.shape.types_in.Goals as goal

pub mk_tys-requires : goal.mk_tys-requires
mk_tys-requires c =
    let are = subst (λ o. IfSome o (λ ts. map Ty ts.items ≡ c.args.parts.now)) c.in-Some.is c.in_ok-tys.ensures.are in
    types-held c.args.cx.now.entries c.in-Some.tys.items (subst (ArgsHeld c.args.cx.now.entries) (sym are) c.requires)

pub returns-in_err-list-clause-terms : goal.returns-in_err-list-clause-terms
returns-in_err-list-clause-terms c =
    let refused = c.in_err-list.ensures in
    record {
      grew = c.mk_tys.ensures.grew;
      full = refused-part type_lists c.from_residual-in_err-list.result (omega arith) c.from_residual-in_err-list.ensures.1 (λ q. refused.full (ap Err q)) refused.grew.limit refused.refused;
    }

pub returns-clause-is : goal.returns-clause-is
returns-clause-is c =
    let es = c.args.cx.now.entries in
    let are = subst (λ o. IfSome o (λ ts. map Ty ts.items ≡ c.args.parts.now)) c.in-Some.is c.in_ok-tys.ensures.are in
    subst (λ (t : Trees). Is c.mk_tys.new.self.entries type_lists c.in_ok-list.list.0 t) (sym (types-trees es c.in-Some.tys.items) ∙ ap (args_trees es) are) c.in_ok-list.ensures.is
