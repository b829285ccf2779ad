use Rattle.std.proofs.Common.{ap, ◌∙◌}
use Rattle.std.specs.List.{slice_get}
use Rattle.std.specs.Option.{option_map}
use Rattle.type_terms.specs.declared.ImplId.{ImplId}
use Rattle.declarations.proofs.Above.{first-kept}
use Rattle.declarations.proofs.merge.first_above.Goals as goal

pub returns-in-Some : goal.returns-in-Some
returns-in-Some c =
    ap (option_map (λ (i : ImplId). i.index)) (c.in-Some.ensures.value ∙ ap (λ l. slice_get l 0) c.ids_above.ensures) ∙ first-kept c.args.last c.args.ids.now

pub returns-in-None : goal.returns-in-None
returns-in-None c =
    ap (option_map (λ (i : ImplId). i.index)) (c.in-None.ensures.value ∙ ap (λ l. slice_get l 0) c.ids_above.ensures) ∙ first-kept c.args.last c.args.ids.now
