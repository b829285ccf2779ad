use Rattle.std.proofs.Common.{◌≡◌, ℕ, suc, List, ◌∷◌, length, ap, sym, ◌∙◌, subst, unwrap_or, arith}
use Rattle.search_paths.specs.declared.path_kind.PathKind.{PathKind}
use Rattle.search_paths.specs.declared.head_usages.HeadUsages.{HeadUsages}
use Rattle.search_paths.specs.Usages.{sticking_sum, count_by, usage_count}
use Rattle.search_paths.proofs.UsageFacts.{AllFit, AllFit-shown, AllFit-seen, AllFit-updated, AreApart, AreApart-distinct, entry_count, usage_count-entries, merge-step, merge-end, sticking_fits}
use Rattle.search_paths.proofs.head_usages.CandidateHeadUsages.merge_usages.Goals as goal

pub loop-head-init : goal.loop-head-init
loop-head-init c =
    let es : List (ℕ × HeadUsages) = c.self.inside.usages.entries in
    let xs : List (ℕ × HeadUsages) = c.other.inside.usages.entries in
    let same : c.reserve.new.self.entries ≡ es = c.in_ok-reserve.ensures.entries in
    let rest : c.into_iter-head-iterator.result ≡ xs = c.into_iter-head-iterator.ensures.into_iter_gives.0 in
    record {
      can = tt;
      finite = tt;
      sums = λ head kind.
          ap (λ n. sticking_sum n (entry_count c.into_iter-head-iterator.result head kind))
          (ap (λ fs. entry_count fs head kind) same ∙ sym (usage_count-entries es head kind) ∙ ap (λ m. usage_count m head kind) c.self.view_is)
          ∙ ap (sticking_sum (usage_count c.args.self.now head kind))
          (ap (λ fs. entry_count fs head kind) rest ∙ sym (usage_count-entries xs head kind) ∙ ap (λ m. usage_count m head kind) c.other.view_is);
      fit = subst AllFit (sym same) (AllFit-seen es c.self.invariant);
      apart = subst AreApart (sym rest) (AreApart-distinct xs c.into_iter-head-iterator.ensures.into_iter_gives.4);
      room = let len : length c.into_iter-head-iterator.result ≡ length xs = ap length rest in omega (arith, c.len.ensures.len, c.in_ok-reserve.ensures.ok);
    }

pub invariant_of-self-in-None : goal.invariant_of-self-in-None
invariant_of-self-in-None c = AllFit-shown _ c.loop-head.invariant.fit

pub loop-head-preserved : goal.loop-head-preserved
loop-head-preserved c =
    let inv = c.loop-head.invariant in
    let es : List (ℕ × HeadUsages) = c.loop-head.self-inside.usages.entries in
    let fs : List (ℕ × HeadUsages) = c.insert.new.self.entries in
    let rest : List (ℕ × HeadUsages) = c.next.new.self in
    let head : ℕ = c.in-Some.head in
    let more : HeadUsages = c.in-Some.more in
    let steps : c.loop-head.head-iterator ≡ (head, more) ∷ rest = c.in-Some.ensures.steps in
    let updates = λ (q : ℕ). c.in_ok-insert.ensures.updates.0 q in
    let apart : AreApart ((head, more) ∷ rest) = subst AreApart steps inv.apart in
    let was = c.unwrap_or-known.ensures ∙ (λ i. unwrap_or ((c.copied.ensures ∙ c.get.ensures.value) i) (c.new.ensures i)) in
    let sums : (kind : PathKind) → count_by c.plus.result kind ≡ sticking_sum (entry_count es head kind) (count_by more kind) =
    λ kind. c.plus.ensures kind ∙ ap (λ u. sticking_sum (count_by u kind) (count_by more kind)) was in
    record {
      can = tt;
      finite = tt;
      sums = λ q kind.
          merge-step es fs rest head more c.plus.result apart.0 updates sums q kind
          ∙ ap (λ xs. sticking_sum (entry_count es q kind) (entry_count xs q kind)) (sym steps)
          ∙ inv.sums q kind;
      fit = AllFit-updated es fs head c.plus.result updates inv.fit (λ kind. let is = sums kind in omega (arith, sticking_fits (entry_count es head kind) (count_by more kind)));
      apart = apart.1;
      room = let len : length c.loop-head.head-iterator ≡ suc (length rest) = ap length steps in omega (arith, inv.room, c.in_ok-insert.ensures.spare);
    }

pub returns-clause-sums : goal.returns-clause-sums
returns-clause-sums c = λ head kind.
    let inv = c.loop-head.invariant in
    let es : List (ℕ × HeadUsages) = c.loop-head.self-inside.usages.entries in
    usage_count-entries es head kind
    ∙ sym (merge-end es inv.fit head kind)
    ∙ ap (λ xs. sticking_sum (entry_count es head kind) (entry_count xs head kind)) (sym c.in-None.ensures.steps.0)
    ∙ inv.sums head kind
