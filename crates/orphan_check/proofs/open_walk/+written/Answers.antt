use Rattle.std.proofs.Common.{◌≡◌, arith, sym, ap, ◌∙◌}
use Rattle.type_terms.specs.Trees.{depth}
use Rattle.type_terms.specs.Terms.{args_lists}
use Rattle.type_terms.specs.Promised.Handles.{trees_at}
use Rattle.type_terms.specs.Promised.Handles.{ArgHeld}
use Rattle.type_terms.specs.Kinds.{args_trees}
use Rattle.type_terms.specs.Kept.{trees-is}
use Rattle.type_terms.proofs.Items.{arg-held-at}
use Rattle.declarations.specs.Items.{declared}
use Rattle.orphan_check.specs.Decisive.{decisive_in}
use Rattle.orphan_check.specs.Steps.{home_in}
use Rattle.orphan_check.specs.declared.look.Taken.TheVariants as taken
use Rattle.orphan_check.proofs.OpenWalk.{taken-decides, args-go-on, args-stop, arg-below, no-arg, not-some}
use Rattle.orphan_check.proofs.open_walk.+written.Goals as goal
use Rattle.type_terms.proofs.TermBasics.{type-is}

pub decisive_in_arg-returns-in-Lifetime : goal.decisive_in_arg-returns-in-Lifetime
decisive_in_arg-returns-in-Lifetime t c =
    let es = c.args.cx.now.entries in
    sym (no-arg (declared es c.args.decls.now) (home_in c.args.decls.now.local c.args.in_crate) es c.lawful.ensures c.args.arg c.requires c.in-Lifetime.is)

pub decisive_in_args-decisive_in_arg-requires : goal.decisive_in_args-decisive_in_arg-requires
decisive_in_args-decisive_in_arg-requires t c =
    let es = c.args.cx.now.entries in
    let inv = c.loop-arg.invariant in
    let xs = c.args-arg-items.result.now in
    let x = c.arg-item.result in
    let held : ArgHeld es x = rw c.arg-item.is (arg-held-at es xs c.loop-arg.arg-index x inv.1 c.loop-arg-test.true) in
    let below = arg-below (declared es c.args.decls.now) (home_in c.args.decls.now.local c.args.in_crate) es xs c.loop-arg.arg-index x c.loop-arg-test.true c.arg-item.is in
    let whole : depth (trees_at es c.args.args.0) ≡ depth (args_trees es xs) = ap depth (trees-is es args_lists c.args.args.0 _ inv.2) in
    (omega (arith, below, whole, c.decreases), held)

pub decisive_in_args-returns-in-Some : goal.decisive_in_args-returns-in-Some
decisive_in_args-returns-in-Some t c =
    let es = c.args.cx.now.entries in
    let V = declared es c.args.decls.now in
    let d = home_in c.args.decls.now.local c.args.in_crate in
    let inv = c.loop-arg.invariant in
    let xs = c.args-arg-items.result.now in
    sym (ap (decisive_in es c.args.decls.now c.args.in_crate) (trees-is es args_lists c.args.args.0 _ inv.2)
    ∙ args-stop V d es xs c.loop-arg.arg-index c.arg-item.result c.in-Some.decisive c.loop-arg-test.true c.arg-item.is inv.0 (sym c.decisive_in_arg.ensures ∙ c.in-Some.is))

pub decisive_in_args-loop-arg-preserved : goal.decisive_in_args-loop-arg-preserved
decisive_in_args-loop-arg-preserved t c =
    let es = c.args.cx.now.entries in
    let V = declared es c.args.decls.now in
    let d = home_in c.args.decls.now.local c.args.in_crate in
    let inv = c.loop-arg.invariant in
    let nothing = not-some c.decisive_in_arg.result c.in_default.not-Some in
    (args-go-on V d es c.args-arg-items.result.now c.loop-arg.arg-index c.arg-item.result c.loop-arg-test.true c.arg-item.is inv.0 (sym c.decisive_in_arg.ensures ∙ nothing), inv.1, inv.2)

pub decisive_in_ty-returns-in-Uncovered : goal.decisive_in_ty-returns-in-Uncovered
decisive_in_ty-returns-in-Uncovered t c =
    let es = c.args.cx.now.entries in
    let d = home_in c.args.decls.now.local c.args.in_crate in
    sym (taken-decides (declared es c.args.decls.now) d es (trees_at es c.args.ty.0) (type-is es c.lawful.ensures c.args.ty.0 c.requires) taken.Uncovered c.in-Uncovered.ensures)

pub decisive_in_ty-returns-in-NonLocal : goal.decisive_in_ty-returns-in-NonLocal
decisive_in_ty-returns-in-NonLocal t c =
    let es = c.args.cx.now.entries in
    let d = home_in c.args.decls.now.local c.args.in_crate in
    sym (taken-decides (declared es c.args.decls.now) d es (trees_at es c.args.ty.0) (type-is es c.lawful.ensures c.args.ty.0 c.requires) taken.NonLocal c.in-NonLocal.ensures)

pub decisive_in_ty-returns-in-Reference : goal.decisive_in_ty-returns-in-Reference
decisive_in_ty-returns-in-Reference t c =
    let es = c.args.cx.now.entries in
    let d = home_in c.args.decls.now.local c.args.in_crate in
    c.decisive_in_ty.ensures
    ∙ sym (taken-decides (declared es c.args.decls.now) d es (trees_at es c.args.ty.0) (type-is es c.lawful.ensures c.args.ty.0 c.requires) (taken.Reference c.in-Reference.to) c.in-Reference.ensures)

pub decisive_in_ty-returns-in-Fundamental : goal.decisive_in_ty-returns-in-Fundamental
decisive_in_ty-returns-in-Fundamental t c =
    let es = c.args.cx.now.entries in
    let d = home_in c.args.decls.now.local c.args.in_crate in
    c.decisive_in_args.ensures
    ∙ sym (taken-decides (declared es c.args.decls.now) d es (trees_at es c.args.ty.0) (type-is es c.lawful.ensures c.args.ty.0 c.requires) (taken.Fundamental c.in-Fundamental.args) c.in-Fundamental.ensures)
