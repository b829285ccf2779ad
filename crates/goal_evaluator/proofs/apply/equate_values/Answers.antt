use Rattle.std.proofs.Common.{◌≡◌, List, ◌+◌, length, drop, [], ◌∷◌, Err, ap, sym, ◌∙◌, subst, length-append}
use Rattle.std.specs.Slice.Iter.{iter_rest}
use Rattle.std.specs.Iterator.Adapters.{zip_first, zip_second}
use Rattle.std.proofs.lemmas.Result.{err_from_is_err_and}
use Rattle.std.proofs.lemmas.Slice.Zip.{zip_turn}
use Rattle.type_terms.specs.Promised.Handles.{ArgHeld}
use Rattle.type_terms.specs.Kinds.{args_trees}
use Rattle.type_terms.proofs.InfoFacts.{arg-held-at}
use Rattle.type_terms.specs.Kept.{arg-held-later}
use Rattle.infer_table.specs.Solutions.{Binding, Equates, HasNoSolution}
use Rattle.infer_table.specs.Content.{content}
use Rattle.infer_table.specs.Growth.{grows-trans}
use Rattle.infer_table.specs.Unification.{table_trees}
use Rattle.infer_table.specs.Applied.{solved_in_turn}
use Rattle.infer_table.proofs.InTurn.{next-turn, refused-turn, refused-of-lengths}
use Rattle.infer_table.proofs.Values.{equates-from, never-from, never-after, never-of-lengths}
use Rattle.goal_evaluator.proofs.apply.equate_values.Goals as goal

pub returns-then-left-right-clause-never : goal.returns-then-left-right-clause-never
returns-then-left-right-clause-never c = λ _.
    let es = c.args.cx.now.entries in
    never-of-lengths es c.lawful.ensures (content es c.args.table.now.values) c.args.left.now c.args.right.now c.if-left-right.true c.requires.left c.requires.right

pub returns-then-left-right-clause-refusal : goal.returns-then-left-right-clause-refusal
returns-then-left-right-clause-refusal c = λ _.
    let es = c.args.cx.now.entries in
    refused-of-lengths es c.lawful.ensures (table_trees es c.args.table.now) c.args.left.now c.args.right.now c.if-left-right.true c.requires.left c.requires.right

pub eq-requires-clause-left : goal.eq-requires-clause-left
eq-requires-clause-left c =
    let xs = c.args.left.now in
    let ys = c.args.right.now in
    let gives = c.into_iter-value-iterator.ensures.into_iter_gives in
    let first : iter_rest (zip_first c.into_iter-value-iterator.result) ≡ xs = ap (λ z. iter_rest (zip_first z)) gives ∙ ap iter_rest c.zip-value-items.ensures.first ∙ c.iter.ensures.rest in
    let second : iter_rest (zip_second c.into_iter-value-iterator.result) ≡ ys = let z : iter_rest (zip_second c.zip-value-items.result) ≡ ys = c.zip-value-items.ensures.second.0 in ap (λ z. iter_rest (zip_second z)) gives ∙ z in
    let turn = zip_turn xs ys c.loop-value.yielded c.into_iter-value-iterator.result c.loop-value.value-iterator c.next.new.self c.next.result first second c.loop-value.yielded_by (c.in-Some.value, c.in-Some.other) c.in-Some.is c.next.ensures.steps in
    arg-held-later c.args.cx.now.entries c.loop-value.cx.entries c.loop-value.invariant.keeps c.in-Some.value.now (arg-held-at c.args.cx.now.entries xs (length c.loop-value.yielded) c.in-Some.value.now c.requires.left turn.0 (turn.2 c.in-Some.value.now))

pub eq-requires-clause-right : goal.eq-requires-clause-right
eq-requires-clause-right c =
    let xs = c.args.left.now in
    let ys = c.args.right.now in
    let gives = c.into_iter-value-iterator.ensures.into_iter_gives in
    let first : iter_rest (zip_first c.into_iter-value-iterator.result) ≡ xs = ap (λ z. iter_rest (zip_first z)) gives ∙ ap iter_rest c.zip-value-items.ensures.first ∙ c.iter.ensures.rest in
    let second : iter_rest (zip_second c.into_iter-value-iterator.result) ≡ ys = let z : iter_rest (zip_second c.zip-value-items.result) ≡ ys = c.zip-value-items.ensures.second.0 in ap (λ z. iter_rest (zip_second z)) gives ∙ z in
    let turn = zip_turn xs ys c.loop-value.yielded c.into_iter-value-iterator.result c.loop-value.value-iterator c.next.new.self c.next.result first second c.loop-value.yielded_by (c.in-Some.value, c.in-Some.other) c.in-Some.is c.next.ensures.steps in
    arg-held-later c.args.cx.now.entries c.loop-value.cx.entries c.loop-value.invariant.keeps c.in-Some.other.now (arg-held-at c.args.cx.now.entries ys (length c.loop-value.yielded) c.in-Some.other.now c.requires.right turn.1 (turn.3 c.in-Some.other.now))

pub loop-value-preserved : goal.loop-value-preserved
loop-value-preserved c =
    let es = c.args.cx.now.entries in
    let now = c.loop-value.cx.entries in
    let inv = c.loop-value.invariant in
    let xs = c.args.left.now in
    let ys = c.args.right.now in
    let x = c.in-Some.value.now in
    let y = c.in-Some.other.now in
    let j = length c.loop-value.yielded in
    let gives = c.into_iter-value-iterator.ensures.into_iter_gives in
    let first : iter_rest (zip_first c.into_iter-value-iterator.result) ≡ xs = ap (λ z. iter_rest (zip_first z)) gives ∙ ap iter_rest c.zip-value-items.ensures.first ∙ c.iter.ensures.rest in
    let second : iter_rest (zip_second c.into_iter-value-iterator.result) ≡ ys = let z : iter_rest (zip_second c.zip-value-items.result) ≡ ys = c.zip-value-items.ensures.second.0 in ap (λ z. iter_rest (zip_second z)) gives ∙ z in
    let turn = zip_turn xs ys c.loop-value.yielded c.into_iter-value-iterator.result c.loop-value.value-iterator c.next.new.self c.next.result first second c.loop-value.yielded_by (c.in-Some.value, c.in-Some.other) c.in-Some.is c.next.ensures.steps in
    let more = length-append c.loop-value.yielded ((c.in-Some.value, c.in-Some.other) ∷ []) in
    let x-held : ArgHeld es x = arg-held-at es xs j x c.requires.left turn.0 (turn.2 x) in
    let y-held : ArgHeld es y = arg-held-at es ys j y c.requires.right turn.1 (turn.3 y) in
    let bs = content now c.loop-value.table.values in
    let cs = content c.eq.new.cx.entries c.eq.new.self.values in
    let u = table_trees c.eq.new.cx.entries c.eq.new.self in
    let all = solved_in_turn (table_trees es c.args.table.now) (args_trees es xs) (args_trees es ys) in
    let step : (later : List Binding) → Equates cs later (args_trees es (drop (j + 1) xs)) (args_trees es (drop (j + 1) ys)) → Equates bs later (args_trees es (drop j xs)) (args_trees es (drop j ys)) =
    λ later e. equates-from es c.lawful.ensures now inv.keeps bs cs later xs ys j x y turn.0 turn.1 (turn.2 x) (turn.3 y) x-held y-held c.in_ok-eq.ensures.equates e in
    record {
      ready = c.eq.ensures.ready;
      grows = grows-trans _ _ _ inv.grows c.eq.ensures.grows;
      keeps = λ i e h. c.eq.ensures.terms.grew.keeps i e (inv.keeps i e h);
      limit = c.eq.ensures.terms.grew.limit ∙ inv.limit;
      equates = λ later e. inv.equates later (step later (subst (λ n. Equates cs later (args_trees es (drop n xs)) (args_trees es (drop n ys))) more e));
      never = λ n. inv.never (never-after es c.lawful.ensures now inv.keeps bs cs xs ys j x y turn.0 turn.1 (turn.2 x) (turn.3 y) x-held y-held c.in_ok-eq.ensures.equates
          (subst (λ n. HasNoSolution cs (args_trees es (drop n xs)) (args_trees es (drop n ys))) more n));
      exact = subst (λ n. solved_in_turn u (args_trees es (drop n xs)) (args_trees es (drop n ys)) ≡ all) (sym more)
          (next-turn es c.lawful.ensures now inv.keeps xs ys j x y turn.0 turn.1 (turn.2 x) (turn.3 y) x-held y-held (table_trees now c.loop-value.table) u all c.in_ok-eq.ensures.exact inv.exact);
    }

pub returns-in_err-eq-clause-never : goal.returns-in_err-eq-clause-never
returns-in_err-eq-clause-never c = λ e.
    let es = c.args.cx.now.entries in
    let now = c.loop-value.cx.entries in
    let inv = c.loop-value.invariant in
    let xs = c.args.left.now in
    let ys = c.args.right.now in
    let x = c.in-Some.value.now in
    let y = c.in-Some.other.now in
    let j = length c.loop-value.yielded in
    let gives = c.into_iter-value-iterator.ensures.into_iter_gives in
    let first : iter_rest (zip_first c.into_iter-value-iterator.result) ≡ xs = ap (λ z. iter_rest (zip_first z)) gives ∙ ap iter_rest c.zip-value-items.ensures.first ∙ c.iter.ensures.rest in
    let second : iter_rest (zip_second c.into_iter-value-iterator.result) ≡ ys = let z : iter_rest (zip_second c.zip-value-items.result) ≡ ys = c.zip-value-items.ensures.second.0 in ap (λ z. iter_rest (zip_second z)) gives ∙ z in
    let turn = zip_turn xs ys c.loop-value.yielded c.into_iter-value-iterator.result c.loop-value.value-iterator c.next.new.self c.next.result first second c.loop-value.yielded_by (c.in-Some.value, c.in-Some.other) c.in-Some.is c.next.ensures.steps in
    let x-held : ArgHeld es x = arg-held-at es xs j x c.requires.left turn.0 (turn.2 x) in
    let y-held : ArgHeld es y = arg-held-at es ys j y c.requires.right turn.1 (turn.3 y) in
    let p = err_from_is_err_and c.from_residual.result c.from_residual.ensures.1 in
    inv.never (never-from es c.lawful.ensures now inv.keeps (content now c.loop-value.table.values) xs ys j x y turn.0 turn.1 (turn.2 x) (turn.3 y) x-held y-held
    (c.eq.ensures.never (c.in_err-eq.was ∙ ap Err (sym p.2) ∙ sym p.1 ∙ e)))

pub returns-in_err-eq-clause-refusal : goal.returns-in_err-eq-clause-refusal
returns-in_err-eq-clause-refusal c = λ e.
    let es = c.args.cx.now.entries in
    let now = c.loop-value.cx.entries in
    let inv = c.loop-value.invariant in
    let xs = c.args.left.now in
    let ys = c.args.right.now in
    let x = c.in-Some.value.now in
    let y = c.in-Some.other.now in
    let j = length c.loop-value.yielded in
    let gives = c.into_iter-value-iterator.ensures.into_iter_gives in
    let first : iter_rest (zip_first c.into_iter-value-iterator.result) ≡ xs = ap (λ z. iter_rest (zip_first z)) gives ∙ ap iter_rest c.zip-value-items.ensures.first ∙ c.iter.ensures.rest in
    let second : iter_rest (zip_second c.into_iter-value-iterator.result) ≡ ys = let z : iter_rest (zip_second c.zip-value-items.result) ≡ ys = c.zip-value-items.ensures.second.0 in ap (λ z. iter_rest (zip_second z)) gives ∙ z in
    let turn = zip_turn xs ys c.loop-value.yielded c.into_iter-value-iterator.result c.loop-value.value-iterator c.next.new.self c.next.result first second c.loop-value.yielded_by (c.in-Some.value, c.in-Some.other) c.in-Some.is c.next.ensures.steps in
    let x-held : ArgHeld es x = arg-held-at es xs j x c.requires.left turn.0 (turn.2 x) in
    let y-held : ArgHeld es y = arg-held-at es ys j y c.requires.right turn.1 (turn.3 y) in
    let p = err_from_is_err_and c.from_residual.result c.from_residual.ensures.1 in
    let refused = c.eq.ensures.refusal (c.in_err-eq.was ∙ ap Err (sym p.2) ∙ sym p.1 ∙ e) in
    refused-turn es c.lawful.ensures now inv.keeps xs ys j x y turn.0 turn.1 (turn.2 x) (turn.3 y) x-held y-held (table_trees now c.loop-value.table) _ refused inv.exact
