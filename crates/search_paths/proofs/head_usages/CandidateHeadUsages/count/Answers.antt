use Rattle.std.proofs.Common.{ap, sym, ◌∙◌, unwrap_or}
use Rattle.search_paths.specs.Usages.{count_by, no_usages, usage_count}
use Rattle.search_paths.proofs.UsageFacts.{usage_count-entries, count-none}
use Rattle.search_paths.proofs.head_usages.CandidateHeadUsages.count.Goals as goal

pub returns-in-Some : goal.returns-in-Some
returns-in-Some c =
    c.count.ensures
    ∙ ap (λ o. count_by (unwrap_or o no_usages) c.args.path) c.in-Some.ensures.value
    ∙ sym (usage_count-entries c.self.inside.usages.entries c.args.head c.args.path)
    ∙ ap (λ m. usage_count m c.args.head c.args.path) c.self.view_is

pub returns-in-None : goal.returns-in-None
returns-in-None c =
    sym (count-none c.args.path)
    ∙ ap (λ o. count_by (unwrap_or o no_usages) c.args.path) c.in-None.ensures.value
    ∙ sym (usage_count-entries c.self.inside.usages.entries c.args.head c.args.path)
    ∙ ap (λ m. usage_count m c.args.head c.args.path) c.self.view_is
