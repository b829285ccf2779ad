use Rattle.std.proofs.Common.{suc, ◌∷◌, sym, ap, ◌∙◌, subst}
use Rattle.type_terms.specs.Promised.Handles.{trees_at}
use Rattle.type_terms.specs.Promised.Handles.{ArgsHeld}
use Rattle.type_terms.specs.Kinds.{TysHeld, args_trees, tys_trees}
use Rattle.declarations.specs.Apart.{may_meet}
use Rattle.declarations.specs.Tops.{PartsHeld, left_parts, right_parts}
use Rattle.declarations.proofs.Meeting.{no-items, no-more-args, args-ended, args-differ, args-go-on, no-more-tys, tys-ended, tys-differ, tys-go-on, arrays-meet}
use Rattle.declarations.proofs.apart.+meeting.Goals as goal
use Rattle.type_terms.proofs.BooleanBasics.{and-false, and-true}

pub args_may_meet-returns-in_default-split_first : goal.args_may_meet-returns-in_default-split_first
args_may_meet-returns-in_default-split_first t c =
    let es = c.args.cx.now.entries in
    let n = c.args.levels_below in
    let inv = c.pairs.invariant in
    let left = c.in-Some.ensures.cases.0 in
    let ended = no-items c.pairs.right_rest.now c.in_default-split_first.ensures.cases in
    let held = subst (ArgsHeld es) left inv.left_held in
    sym (inv.rest
    ∙ ap (λ z. may_meet (suc n) (args_trees es z) (args_trees es c.pairs.right_rest.now)) left
    ∙ ap (λ z. may_meet (suc n) (args_trees es (c.in-Some.first.now ∷ c.in-Some.left_others.now)) (args_trees es z)) ended
    ∙ no-more-args es c.lawful.ensures n c.in-Some.first.now c.in-Some.left_others.now held.0)

pub args_may_meet-returns-then-not-arg_may_meet : goal.args_may_meet-returns-then-not-arg_may_meet
args_may_meet-returns-then-not-arg_may_meet t c =
    let es = c.args.cx.now.entries in
    let n = c.args.levels_below in
    let inv = c.pairs.invariant in
    let left = c.in-Some.ensures.cases.0 in
    let right = c.in-Some-split_first.ensures.cases.0 in
    let hx = subst (ArgsHeld es) left inv.left_held in
    let hy = subst (ArgsHeld es) right inv.right_held in
    sym (inv.rest
    ∙ ap (λ z. may_meet (suc n) (args_trees es z) (args_trees es c.pairs.right_rest.now)) left
    ∙ ap (λ z. may_meet (suc n) (args_trees es (c.in-Some.first.now ∷ c.in-Some.left_others.now)) (args_trees es z)) right
    ∙ args-differ es c.lawful.ensures n c.in-Some.first.now c.in-Some-split_first.second.now c.in-Some.left_others.now c.in-Some-split_first.right_others.now hx.0 hy.0
    (sym c.arg_may_meet.ensures ∙ c.if-not-arg_may_meet.true))

pub args_may_meet-pairs-preserved : goal.args_may_meet-pairs-preserved
args_may_meet-pairs-preserved t c =
    let es = c.args.cx.now.entries in
    let n = c.args.levels_below in
    let inv = c.pairs.invariant in
    let left = c.in-Some.ensures.cases.0 in
    let right = c.in-Some-split_first.ensures.cases.0 in
    let hx = subst (ArgsHeld es) left inv.left_held in
    let hy = subst (ArgsHeld es) right inv.right_held in
    record {
      left_held = hx.1;
      right_held = hy.1;
      rest = inv.rest
          ∙ ap (λ z. may_meet (suc n) (args_trees es z) (args_trees es c.pairs.right_rest.now)) left
          ∙ ap (λ z. may_meet (suc n) (args_trees es (c.in-Some.first.now ∷ c.in-Some.left_others.now)) (args_trees es z)) right
          ∙ args-go-on es c.lawful.ensures n c.in-Some.first.now c.in-Some-split_first.second.now c.in-Some.left_others.now c.in-Some-split_first.right_others.now hx.0 hy.0
          (sym c.arg_may_meet.ensures ∙ c.if-not-arg_may_meet.false);
    }

pub args_may_meet-returns : goal.args_may_meet-returns
args_may_meet-returns t c =
    let es = c.args.cx.now.entries in
    let n = c.args.levels_below in
    let inv = c.pairs.invariant in
    let ended = no-items c.pairs.left_rest.now c.in_default.ensures.cases in
    c.is_empty.ensures ∙ args-ended es c.lawful.ensures n c.pairs.right_rest.now inv.right_held
    ∙ sym (inv.rest ∙ ap (λ z. may_meet (suc n) (args_trees es z) (args_trees es c.pairs.right_rest.now)) ended)

pub parts_may_meet-returns-then-consts_may_meet : goal.parts_may_meet-returns-then-consts_may_meet
parts_may_meet-returns-then-consts_may_meet t c =
    let es = c.args.cx.now.entries in
    let n = c.args.levels_below in
    let held = subst (PartsHeld es) c.in-Array.is c.requires in
    c.types_may_meet-then-consts_may_meet.ensures
    ∙ sym (ap (λ p. may_meet (suc n) (left_parts es p) (right_parts es p)) c.in-Array.is
    ∙ arrays-meet es c.lawful.ensures n c.in-Array.left.0 c.in-Array.length.0 c.in-Array.right.0 c.in-Array.other_length.0 _ held.0.0 held.1.0 (sym (c.consts_may_meet.ensures n) ∙ c.if-consts_may_meet.true)
    ∙ and-true (may_meet (suc n) (trees_at es c.in-Array.left.0) (trees_at es c.in-Array.right.0)))

pub parts_may_meet-returns-else-consts_may_meet : goal.parts_may_meet-returns-else-consts_may_meet
parts_may_meet-returns-else-consts_may_meet t c =
    let es = c.args.cx.now.entries in
    let n = c.args.levels_below in
    let held = subst (PartsHeld es) c.in-Array.is c.requires in
    and-false (may_meet (suc n) (trees_at es c.in-Array.left.0) (trees_at es c.in-Array.right.0))
    ∙ sym (ap (λ p. may_meet (suc n) (left_parts es p) (right_parts es p)) c.in-Array.is
    ∙ arrays-meet es c.lawful.ensures n c.in-Array.left.0 c.in-Array.length.0 c.in-Array.right.0 c.in-Array.other_length.0 _ held.0.0 held.1.0 (sym (c.consts_may_meet.ensures n) ∙ c.if-consts_may_meet.false))

pub tys_may_meet-returns-in_default-split_first : goal.tys_may_meet-returns-in_default-split_first
tys_may_meet-returns-in_default-split_first t c =
    let es = c.args.cx.now.entries in
    let n = c.args.levels_below in
    let inv = c.items.invariant in
    let left = c.in-Some.ensures.cases.0 in
    let ended = no-items c.items.right_items.now c.in_default-split_first.ensures.cases in
    let held = subst (TysHeld es) left inv.left_held in
    sym (inv.rest
    ∙ ap (λ z. may_meet (suc n) (tys_trees es z) (tys_trees es c.items.right_items.now)) left
    ∙ ap (λ z. may_meet (suc n) (tys_trees es (c.in-Some.first.now ∷ c.in-Some.left_others.now)) (tys_trees es z)) ended
    ∙ no-more-tys es c.lawful.ensures n c.in-Some.first.now c.in-Some.left_others.now held.0)

pub tys_may_meet-returns-then-not-types_may_meet : goal.tys_may_meet-returns-then-not-types_may_meet
tys_may_meet-returns-then-not-types_may_meet t c =
    let es = c.args.cx.now.entries in
    let n = c.args.levels_below in
    let inv = c.items.invariant in
    let left = c.in-Some.ensures.cases.0 in
    let right = c.in-Some-split_first.ensures.cases.0 in
    let hx = subst (TysHeld es) left inv.left_held in
    let hy = subst (TysHeld es) right inv.right_held in
    sym (inv.rest
    ∙ ap (λ z. may_meet (suc n) (tys_trees es z) (tys_trees es c.items.right_items.now)) left
    ∙ ap (λ z. may_meet (suc n) (tys_trees es (c.in-Some.first.now ∷ c.in-Some.left_others.now)) (tys_trees es z)) right
    ∙ tys-differ es c.lawful.ensures n c.in-Some.first.now c.in-Some-split_first.second.now c.in-Some.left_others.now c.in-Some-split_first.right_others.now hx.0 hy.0
    (sym c.types_may_meet.ensures ∙ c.if-not-types_may_meet.true))

pub tys_may_meet-items-preserved : goal.tys_may_meet-items-preserved
tys_may_meet-items-preserved t c =
    let es = c.args.cx.now.entries in
    let n = c.args.levels_below in
    let inv = c.items.invariant in
    let left = c.in-Some.ensures.cases.0 in
    let right = c.in-Some-split_first.ensures.cases.0 in
    let hx = subst (TysHeld es) left inv.left_held in
    let hy = subst (TysHeld es) right inv.right_held in
    record {
      left_held = hx.1;
      right_held = hy.1;
      rest = inv.rest
          ∙ ap (λ z. may_meet (suc n) (tys_trees es z) (tys_trees es c.items.right_items.now)) left
          ∙ ap (λ z. may_meet (suc n) (tys_trees es (c.in-Some.first.now ∷ c.in-Some.left_others.now)) (tys_trees es z)) right
          ∙ tys-go-on es c.lawful.ensures n c.in-Some.first.now c.in-Some-split_first.second.now c.in-Some.left_others.now c.in-Some-split_first.right_others.now hx.0 hy.0
          (sym c.types_may_meet.ensures ∙ c.if-not-types_may_meet.false);
    }

pub tys_may_meet-returns : goal.tys_may_meet-returns
tys_may_meet-returns t c =
    let es = c.args.cx.now.entries in
    let n = c.args.levels_below in
    let inv = c.items.invariant in
    let ended = no-items c.items.left_items.now c.in_default.ensures.cases in
    c.is_empty.ensures ∙ tys-ended es c.lawful.ensures n c.items.right_items.now inv.right_held
    ∙ sym (inv.rest ∙ ap (λ z. may_meet (suc n) (tys_trees es z) (tys_trees es c.items.right_items.now)) ended)
