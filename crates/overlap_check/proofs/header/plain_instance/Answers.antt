use Rattle.std.proofs.Common.{◌≡◌, ℕ, zero, refl, ◌∙◌, ap, sym, subst, false, not, Option}
use Rattle.std.specs.Prelude.{◌==◌, IfSome}
use Rattle.std.specs.Int.RustNames.{bit_and}
use Rattle.std.specs.List.{slice_get}
use Rattle.type_terms.specs.Promised.Label.{of_type, param}
use Rattle.type_terms.specs.Promised.Trees.{Trees, leaf, nth, instantiate, some_node}
use Rattle.type_terms.specs.Terms.{args_lists}
use Rattle.type_terms.specs.Promised.Handles.{ArgHeld, arg_trees, trees_at, types}
use Rattle.type_terms.specs.Kinds.{args_trees}
use Rattle.type_terms.specs.Kept.{trees-is}
use Rattle.type_terms.specs.declared.kinds.GenericArgKind.{GenericArgKind}
use Rattle.term_folds.specs.Arguments.{is_any_param}
use Rattle.term_folds.proofs.ParamFacts.{arg-at, copied-get, if-first, if-second, no-param-stays}
use Rattle.term_folds.proofs.ParamFlags.{param-flags}
use Rattle.overlap_check.proofs.Arguments.{param-instance}
use Rattle.overlap_check.proofs.header.plain_instance.Goals as goal

pub returns-in-Param-clause-held : goal.returns-in-Param-clause-held
returns-in-Param-clause-held c =
    let es = c.args.cx.now.entries in
    let xs = c.args-in-Param.result.now in
    let i = c.in-Param.index in
    let same = c.copied.ensures ∙ copied-get xs i c.get.result c.get.ensures.lookup.0 c.get.ensures.lookup.1 in
    subst (λ (o : Option GenericArgKind). IfSome o (ArgHeld es)) (sym same)
    (if-first (ArgHeld es) (λ arg. arg_trees es arg ≡ nth (args_trees es xs) i) (slice_get xs i) (arg-at es c.lawful.ensures xs i c.args-in-Param.ensures.held))

pub returns-in-Param-clause-is : goal.returns-in-Param-clause-is
returns-in-Param-clause-is c =
    let es = c.args.cx.now.entries in
    let A = trees_at es c.args.args.0 in
    let xs = c.args-in-Param.result.now in
    let i = c.in-Param.index in
    let same = c.copied.ensures ∙ copied-get xs i c.get.result c.get.ensures.lookup.0 c.get.ensures.lookup.1 in
    let list : A ≡ args_trees es xs = trees-is es args_lists c.args.args.0 _ c.args-in-Param.ensures.is in
    let written : arg_trees es c.args.written ≡ leaf (param of_type i) = ap (arg_trees es) c.in-Ty.is ∙ trees-is es types c.in-Ty.ty.0 _ c.in-Param.ensures.is in
    let is : nth (args_trees es xs) i ≡ instantiate zero A (arg_trees es c.args.written) = ap (λ z. nth z i) (sym list) ∙ sym (ap (instantiate zero A) written ∙ param-instance A of_type i) in
    subst (λ (t : Trees). IfSome c.copied.result (λ a. arg_trees es a ≡ t)) is
    (subst (λ (o : Option GenericArgKind). IfSome o (λ a. arg_trees es a ≡ nth (args_trees es xs) i)) (sym same)
    (if-second (ArgHeld es) (λ arg. arg_trees es arg ≡ nth (args_trees es xs) i) (slice_get xs i) (arg-at es c.lawful.ensures xs i c.args-in-Param.ensures.held)))

none-left : (n : ℕ) → n ≡ 0 → not (n == 0) ≡ false
none-left n e = rw e refl

pub returns-then-flags-eq0 : goal.returns-then-flags-eq0
returns-then-flags-eq0 c =
    let es = c.args.cx.now.entries in
    let A = trees_at es c.args.args.0 in
    let t = trees_at es c.in-Ty.ty.0 in
    let written : arg_trees es c.args.written ≡ t = ap (arg_trees es) c.in-Ty.is in
    let clear : some_node is_any_param t ≡ false =
    sym (param-flags t) ∙ ap (λ z. not (bit_and z 273 == 0)) (sym c.flags.ensures) ∙ none-left (bit_and c.flags.result.0 273) c.if-flags-eq0.true in
    record { held = subst (ArgHeld es) c.in-Ty.is c.requires.held; is = sym (no-param-stays zero A t clear) ∙ ap (instantiate zero A) (sym written) }
