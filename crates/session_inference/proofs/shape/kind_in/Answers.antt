use Rattle.std.proofs.Common.{◌≡◌, ◌∙◌, ◌≤◌, Err, IfSome, List, Option, is_some, length, nat_eq, false, arith, ap, refl, sym, subst}
use Rattle.type_terms.specs.Kept.{trees-is}
use Rattle.type_terms.specs.Kinds.{args_trees, kind_trees}
use Rattle.type_terms.specs.Promised.Handles.{ArgsHeld, Is}
use Rattle.type_terms.specs.Terms.{args_lists, type_lists}
use Rattle.type_terms.specs.Trees.{is_no_tree}
use Rattle.type_terms.specs.declared.kinds.Tys.{Tys}
use Rattle.type_terms.specs.declared.kinds.GenericArgKind.{GenericArgKind}
use Rattle.session_inference.specs.Shapes.{are_types, shaped_trees, takes_few}
use Rattle.session_inference.proofs.Shapes.{few-of, first-tree, not-empty, refused-part}
use Rattle.session_inference.proofs.shape.kind_in.Goals as goal

pub returns-in_err-args-in-Adt-clause-terms : goal.returns-in_err-args-in-Adt-clause-terms
returns-in_err-args-in-Adt-clause-terms c =
    let refused = c.in_err-args-in-Adt.ensures in
    record {
      grew = c.mk_args.ensures.grew;
      full = refused-part args_lists c.from_residual.result (omega arith) c.from_residual.ensures.1 (λ q. refused.full (ap Err q)) refused.grew.limit refused.refused;
    }

pub returns-in_default : goal.returns-in_default
returns-in_default c =
    let es = c.args.cx.now.entries in
    let h = c.args.shape in
    let same = c.deref-in_default.ensures.value in
    let made = c.kind_of_few in
    record {
      held = made.ensures.held es (subst (ArgsHeld es) (sym same) c.requires);
      is = subst (λ (ps : List GenericArgKind). IfSome made.result (λ k. kind_trees es k ≡ shaped_trees h (args_trees es ps))) same (made.ensures.is es);
      takes = subst (λ (ps : List GenericArgKind). is_some made.result ≡ takes_few h ps) same made.ensures.takes ∙ sym (few-of h c.args.parts.items c.in_default.not-Adt c.in_default.not-Tuple c.in_default.not-FnPtr);
      terms = record { grew = record { keeps = λ i e x. x; limit = refl }; full = tt };
    }

pub returns-in-Some-2-clause-held : goal.returns-in-Some-2-clause-held
returns-in-Some-2-clause-held c =
    let es = c.args.cx.now.entries in
    let fs = c.types_in-in-FnPtr.new.cx.entries in
    let ps = c.deref-in-FnPtr.result.now in
    let same = c.deref-in-FnPtr.ensures.value in
    let l = c.in-Some-2.tys in
    let is = subst (λ (o : Option Tys). IfSome o (λ l. Is fs type_lists l.0 (args_trees es ps))) c.in-Some-2.is c.in_ok-tys-in-FnPtr.ensures.is in
    let all = subst (λ (o : Option Tys). is_some o ≡ are_types ps) c.in-Some-2.is c.in_ok-tys-in-FnPtr.ensures.all in
    let some = subst (λ (qs : List GenericArgKind). 1 ≤ length qs) (sym same) (not-empty c.args.parts.items (subst (λ n. nat_eq n 0 ≡ false) c.args.parts.ok.0 (sym c.is_empty.ensures ∙ c.if-is_empty.false))) in (
      (args_trees es ps, is),
      ap is_no_tree (trees-is fs type_lists l.0 (args_trees es ps) is) ∙ first-tree es c.lawful.ensures ps (sym all) (subst (ArgsHeld es) (sym same) c.requires) some,
    )
