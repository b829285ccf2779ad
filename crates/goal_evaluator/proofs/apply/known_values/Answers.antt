use Rattle.std.proofs.Common.{◌≡◌, ◌<◌, length, get_or, take, drop, arith, ◌==◌, if◌then◌else◌, Some, None, ap, sym, ◌∙◌, subst, ◌++◌, ◌∷◌, [], length-append}
use Rattle.std.specs.Option.{option_or}
use Rattle.std.specs.Slice.Iter.{iter_rest}
use Rattle.std.specs.Iterator.Adapters.{zip_first, zip_second}
use Rattle.std.proofs.lemmas.Slice.Zip.{zip_turn, zip_end}
use Rattle.type_terms.proofs.InfoFacts.{arg-held-at}
use Rattle.infer_table.proofs.Values.{own_of, found-end, or-none, found-passed, found-noted, written}
use Rattle.goal_evaluator.proofs.apply.known_values.Goals as goal

pub variable_number-requires : goal.variable_number-requires
variable_number-requires c =
    let xs = c.args.values.now in
    let ys = c.args.originals.now in
    let gives = c.into_iter-value-iterator.ensures.into_iter_gives in
    let first : iter_rest (zip_first c.into_iter-value-iterator.result) ≡ xs = ap (λ z. iter_rest (zip_first z)) gives ∙ ap iter_rest c.zip-value-items.ensures.first ∙ c.iter.ensures.rest in
    let second : iter_rest (zip_second c.into_iter-value-iterator.result) ≡ ys = let z : iter_rest (zip_second c.zip-value-items.result) ≡ ys = c.zip-value-items.ensures.second.0 in ap (λ z. iter_rest (zip_second z)) gives ∙ z in
    let turn = zip_turn xs ys c.loop-value.yielded c.into_iter-value-iterator.result c.loop-value.value-iterator c.next.new.self c.next.result first second c.loop-value.yielded_by (c.in-Some.value, c.in-Some.original) c.in-Some.is c.next.ensures.steps in
    arg-held-at c.args.cx.now.entries xs (length c.loop-value.yielded) c.in-Some.value.now c.requires turn.0 (turn.2 c.in-Some.value.now)

pub loop-value-preserved : goal.loop-value-preserved
loop-value-preserved c =
    let es = c.args.cx.now.entries in
    let xs = c.args.values.now in
    let ys = c.args.originals.now in
    let v = c.in-Some.value.now in
    let o = c.in-Some.original.now in
    let known = c.loop-value.known.items in
    let gives = c.into_iter-value-iterator.ensures.into_iter_gives in
    let first : iter_rest (zip_first c.into_iter-value-iterator.result) ≡ xs = ap (λ z. iter_rest (zip_first z)) gives ∙ ap iter_rest c.zip-value-items.ensures.first ∙ c.iter.ensures.rest in
    let second : iter_rest (zip_second c.into_iter-value-iterator.result) ≡ ys = let z : iter_rest (zip_second c.zip-value-items.result) ≡ ys = c.zip-value-items.ensures.second.0 in ap (λ z. iter_rest (zip_second z)) gives ∙ z in
    let turn = zip_turn xs ys c.loop-value.yielded c.into_iter-value-iterator.result c.loop-value.value-iterator c.next.new.self c.next.result first second c.loop-value.yielded_by (c.in-Some.value, c.in-Some.original) c.in-Some.is c.next.ensures.steps in
    let more = length-append c.loop-value.yielded ((c.in-Some.value, c.in-Some.original) ∷ []) in
    record {
      count = c.loop-value.invariant.count;
      found = λ i h. subst (λ n. option_or (get_or known i None) (own_of es i (drop n xs) (drop n ys)) ≡ own_of es i xs ys) (sym more)
          (found-passed es i xs ys (length c.loop-value.yielded) v o turn.0 turn.1 (turn.2 v) (turn.3 o) (get_or known i None) _ (sym (sym c.in_default.is ∙ c.variable_number.ensures)) (c.loop-value.invariant.found i h));
    }

pub returns-clause-known : goal.returns-clause-known
returns-clause-known c =
    let xs = c.args.values.now in
    let ys = c.args.originals.now in
    let gives = c.into_iter-value-iterator.ensures.into_iter_gives in
    let first : iter_rest (zip_first c.into_iter-value-iterator.result) ≡ xs = ap (λ z. iter_rest (zip_first z)) gives ∙ ap iter_rest c.zip-value-items.ensures.first ∙ c.iter.ensures.rest in
    let second : iter_rest (zip_second c.into_iter-value-iterator.result) ≡ ys = let z : iter_rest (zip_second c.zip-value-items.result) ≡ ys = c.zip-value-items.ensures.second.0 in ap (λ z. iter_rest (zip_second z)) gives ∙ z in
    let end = zip_end xs ys c.loop-value.yielded c.into_iter-value-iterator.result c.loop-value.value-iterator c.next.new.self c.next.result first second c.loop-value.yielded_by c.in-None.is c.next.ensures.steps in
    λ i h. sym (or-none (get_or c.loop-value.known.items i None)) ∙ ap (option_or (get_or c.loop-value.known.items i None)) (sym (found-end c.args.cx.now.entries i xs ys (length c.loop-value.yielded) end)) ∙ c.loop-value.invariant.found i h

pub loop-value-preserved-in-Some-variable_number : goal.loop-value-preserved-in-Some-variable_number
loop-value-preserved-in-Some-variable_number c =
    let es = c.args.cx.now.entries in
    let xs = c.args.values.now in
    let ys = c.args.originals.now in
    let v = c.in-Some.value.now in
    let o = c.in-Some.original.now in
    let n = c.in-Some-variable_number.number in
    let old = c.loop-value.known.items in
    let new = c.put_first.new.known in
    let inv = c.loop-value.invariant in
    let gives = c.into_iter-value-iterator.ensures.into_iter_gives in
    let first : iter_rest (zip_first c.into_iter-value-iterator.result) ≡ xs = ap (λ z. iter_rest (zip_first z)) gives ∙ ap iter_rest c.zip-value-items.ensures.first ∙ c.iter.ensures.rest in
    let second : iter_rest (zip_second c.into_iter-value-iterator.result) ≡ ys = let z : iter_rest (zip_second c.zip-value-items.result) ≡ ys = c.zip-value-items.ensures.second.0 in ap (λ z. iter_rest (zip_second z)) gives ∙ z in
    let turn = zip_turn xs ys c.loop-value.yielded c.into_iter-value-iterator.result c.loop-value.value-iterator c.next.new.self c.next.result first second c.loop-value.yielded_by (c.in-Some.value, c.in-Some.original) c.in-Some.is c.next.ensures.steps in
    let more = length-append c.loop-value.yielded ((c.in-Some.value, c.in-Some.original) ∷ []) in
    let long : length new ≡ length old = c.put_first.auto.known ∙ ap length c.deref_mut.ensures.value in
    let same : take c.loop-value.known.len (new ++ drop (length new) old) ≡ new = written c.loop-value.known.len new old long c.loop-value.known.ok.0 in
    record {
      count = ap length same ∙ long ∙ inv.count;
      found = λ i h.
          let here : i < length c.deref_mut.result.now = omega (arith, h, inv.count, ap length c.deref_mut.ensures.value) in
          let is : get_or (take c.loop-value.known.len (new ++ drop (length new) old)) i None ≡ option_or (get_or old i None) (if n == i then Some o else None) =
          ap (λ z. get_or z i None) same ∙ c.put_first.ensures i here ∙ ap (λ z. option_or (get_or z i None) (if n == i then Some o else None)) c.deref_mut.ensures.value in
          subst (λ k. option_or (get_or (take c.loop-value.known.len (new ++ drop (length new) old)) i None) (own_of es i (drop k xs) (drop k ys)) ≡ own_of es i xs ys) (sym more)
          (found-noted es i xs ys (length c.loop-value.yielded) v o turn.0 turn.1 (turn.2 v) (turn.3 o) n (get_or old i None) _ _ (sym c.variable_number.ensures ∙ c.in-Some-variable_number.is) is (inv.found i h));
    }
