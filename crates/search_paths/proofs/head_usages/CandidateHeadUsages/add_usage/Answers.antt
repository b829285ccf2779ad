use Rattle.std.proofs.Common.{◌≡◌, ℕ, inl, inr, ap, sym, ◌∙◌, unwrap_or, arith}
use Rattle.std.proofs.lemmas.Bool.{cases_eq}
use Rattle.search_paths.specs.declared.path_kind.PathKind.{PathKind}
use Rattle.search_paths.specs.Usages.{sticking_sum, count_by, usage_count}
use Rattle.search_paths.proofs.UsageFacts.{AllFit-shown, AllFit-seen, AllFit-updated, entry_count, usage_count-entries, count-at, count-apart, cases_kind}
use Rattle.search_paths.proofs.head_usages.CandidateHeadUsages.add_usage.Goals as goal

pub invariant_of-self-2 : goal.invariant_of-self-2
invariant_of-self-2 c =
    let es = c.self.inside.usages.entries in
    let fs = c.insert.new.self.entries in
    let fits = AllFit-seen es c.self.invariant in
    let was = λ (kind : PathKind). ap (λ u. count_by u kind) (c.unwrap_or-usages.ensures ∙ (λ i. unwrap_or ((c.copied.ensures ∙ c.get.ensures.value) i) (c.new.ensures i))) in
    AllFit-shown fs (AllFit-updated es fs c.args.head c.add_usage.new.self (λ q. c.in_ok-insert.ensures.updates.0 q) fits
    (λ kind. elim (cases_kind kind c.args.path) [
      | inl e ↦ let is = ap (count_by c.add_usage.new.self) e in let added = c.add_usage.ensures.added in omega arith
      | inr ne ↦ let is = c.add_usage.ensures.others kind ne in let before = was kind in let fit = fits c.args.head kind in omega arith
    ]))

pub returns-clause-added : goal.returns-clause-added
returns-clause-added c =
    let es = c.self.inside.usages.entries in
    let fs = c.insert.new.self.entries in
    let kind = c.args.path in
    let was = ap (λ u. count_by u kind) (c.unwrap_or-usages.ensures ∙ (λ i. unwrap_or ((c.copied.ensures ∙ c.get.ensures.value) i) (c.new.ensures i))) in
    usage_count-entries fs c.args.head kind
    ∙ count-at es fs c.args.head c.add_usage.new.self (λ q. c.in_ok-insert.ensures.updates.0 q) kind
    ∙ c.add_usage.ensures.added
    ∙ ap (λ n. sticking_sum n 1) (was ∙ sym (usage_count-entries es c.args.head kind) ∙ ap (λ m. usage_count m c.args.head kind) c.self.view_is)

pub returns-clause-others : goal.returns-clause-others
returns-clause-others c = λ place kind ne.
    let es = c.self.inside.usages.entries in
    let fs = c.insert.new.self.entries in
    let updates = λ (q : ℕ). c.in_ok-insert.ensures.updates.0 q in
    let was = ap (λ u. count_by u kind) (c.unwrap_or-usages.ensures ∙ (λ i. unwrap_or ((c.copied.ensures ∙ c.get.ensures.value) i) (c.new.ensures i))) in
    let same : entry_count fs place kind ≡ entry_count es place kind =
    elim (cases_eq place c.args.head) [
      | inl e ↦ ap (λ p. entry_count fs p kind) e ∙ count-at es fs c.args.head c.add_usage.new.self updates kind ∙ c.add_usage.ensures.others kind (ne e) ∙ was ∙ ap (λ p. entry_count es p kind) (sym e)
      | inr apart ↦ count-apart es fs c.args.head c.add_usage.new.self updates place kind apart
    ] in
    usage_count-entries fs place kind ∙ same ∙ sym (usage_count-entries es place kind) ∙ ap (λ m. usage_count m place kind) c.self.view_is
