use Rattle.std.proofs.Common.{◌≡◌, suc, ◌-◌, length, take, map, [], Some, sym, ap, ◌∙◌, arith}
use Rattle.std.specs.Prelude.{vec_len}
use Rattle.text_lines.specs.TokenViews.{text_of}
use Rattle.text_names.specs.Views.{scope_onto}
use Rattle.text_names.specs.LookUps.{place_in, scope_place}
use Rattle.text_names.proofs.Scopes.{found-at, further-at}
use Rattle.text_names.proofs.binders.Binders.find.Goals as goal

pub returns-in-Some : goal.returns-in-Some
returns-in-Some c =
    let bs = c.self.inside.binders.items in
    let n = c.args.name.now in
    let e = c.in-Some.ensures {u = tt} ∙ ap (λ x. place_in n (map text_of x)) c.deref.ensures.value ∙ ap (λ v. place_in n (map text_of v.items)) c.index.ensures in
    let m : c.len.result ≡ vec_len c.self.inside.binders = c.len.ensures in
    let o : c.len.result ≡ length bs = m ∙ c.self.inside.binders.ok.0 in
    let k : length bs - c.loop-at.at ≡ c.len.result - 1 - (c.loop-at.at - 1) = omega arith in
    sym (c.loop-at.invariant.so_far ∙ found-at bs c.loop-at.at (length bs - c.loop-at.at) c.in-Some.place c.index.result.now n c.loop-at-test.true c.loop-at.invariant.within e ∙ ap (λ j. Some (j, c.in-Some.place)) k)

pub loop-at-preserved : goal.loop-at-preserved
loop-at-preserved c =
    let bs = c.self.inside.binders.items in
    let n = c.args.name.now in
    let e = c.in_default.ensures {u = tt} ∙ ap (λ x. place_in n (map text_of x)) c.deref.ensures.value ∙ ap (λ v. place_in n (map text_of v.items)) c.index.ensures in
    let k : suc (length bs - c.loop-at.at) ≡ length bs - (c.loop-at.at - 1) = omega arith in
    record {
      within = omega arith;
      so_far = c.loop-at.invariant.so_far ∙ further-at bs c.loop-at.at (length bs - c.loop-at.at) c.index.result.now n c.loop-at-test.true c.loop-at.invariant.within e
          ∙ ap (λ j. scope_place j (scope_onto (take (c.loop-at.at - 1) bs) []) n) k;
    }
