use Rattle.std.proofs.Common.{ap, ◌∙◌, ◌++◌, ◌∷◌, []}
use Rattle.std.proofs.lemmas.Result.{on_ok_weaker}
use Rattle.search_paths.specs.declared.dependencies.CycleHead.{CycleHead}
use Rattle.search_paths.specs.Heads.{paths_to}
use Rattle.search_paths.proofs.HeadFacts.{read_alone}
use Rattle.search_paths.proofs.dependencies.Dependencies.read_head.Goals as goal

pub returns-clause-read : goal.returns-clause-read
returns-clause-read c =
    let head : CycleHead = record { index = c.args.index; paths = c.args.paths } in
    on_ok_weaker c.rest_on.result
    (λ unread place. unread place ∙ ap (λ hs. paths_to hs place) (c.in_ok-push.ensures.items ∙ ap (λ hs. hs ++ head ∷ []) c.requires) ∙ read_alone head place)
    c.rest_on.ensures.unread
