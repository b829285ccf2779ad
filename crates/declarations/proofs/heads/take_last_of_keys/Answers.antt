use Rattle.std.proofs.Common.{◌||◌, List, Option, [], ◌∷◌, ◌++◌, ap, ◌∙◌, if◌then◌else◌}
use Rattle.type_terms.specs.declared.ImplId.{ImplId}
use Rattle.declarations.specs.declared.heads.ImplKey.{ImplKey}
use Rattle.declarations.specs.Index.{is_key, is_that_key}
use Rattle.declarations.proofs.Keys.{taken-off, first-off, second-off}
use Rattle.declarations.proofs.heads.take_last_of_keys.Goals as goal

-- what is left once the first key is done, and the second
abbrev without-first : ImplKey → Option ImplKey → (ImplKey → List ImplId) → ImplId → ImplKey → List ImplId
without-first second third rest id k = if is_key second k || is_that_key third k then rest k ++ id ∷ [] else rest k

abbrev without-second : Option ImplKey → (ImplKey → List ImplId) → ImplId → ImplKey → List ImplId
without-second third rest id k = if is_that_key third k then rest k ++ id ∷ [] else rest k

pub returns-in-Some : goal.returns-in-Some
returns-in-Some c id rest h =
    let one = taken-off c.args.keys.now c.take_last.new.keys c.args.first id (without-first c.args.second c.args.third rest id)
    (λ k. h k ∙ first-off (is_key c.args.first k) (is_key c.args.second k) (is_that_key c.args.third k) (rest k) id (c.requires.apart k) (c.requires.third_apart k))
    c.take_last.ensures.taken c.take_last.ensures.others in
    let two = taken-off c.take_last.new.keys c.take_last-2.new.keys c.args.second id (without-second c.args.third rest id)
    (λ k. one k ∙ second-off (is_key c.args.first k) (is_key c.args.second k) (is_that_key c.args.third k) (rest k) id (c.requires.third_apart k))
    c.take_last-2.ensures.taken c.take_last-2.ensures.others in
    taken-off c.take_last-2.new.keys c.take_last-in-Some.new.keys c.in-Some.key id rest
    (λ k. two k ∙ ap (λ o. if is_that_key o k then rest k ++ id ∷ [] else rest k) c.in-Some.is)
    c.take_last-in-Some.ensures.taken c.take_last-in-Some.ensures.others

pub returns-in-None : goal.returns-in-None
returns-in-None c id rest h =
    let one = taken-off c.args.keys.now c.take_last.new.keys c.args.first id (without-first c.args.second c.args.third rest id)
    (λ k. h k ∙ first-off (is_key c.args.first k) (is_key c.args.second k) (is_that_key c.args.third k) (rest k) id (c.requires.apart k) (c.requires.third_apart k))
    c.take_last.ensures.taken c.take_last.ensures.others in
    let two = taken-off c.take_last.new.keys c.take_last-2.new.keys c.args.second id (without-second c.args.third rest id)
    (λ k. one k ∙ second-off (is_key c.args.first k) (is_key c.args.second k) (is_that_key c.args.third k) (rest k) id (c.requires.third_apart k))
    c.take_last-2.ensures.taken c.take_last-2.ensures.others in
    λ k. two k ∙ ap (λ o. if is_that_key o k then rest k ++ id ∷ [] else rest k) c.in-None.is
