use Rattle.std.proofs.Common.{sym, ap, ◌∙◌, []}
use Rattle.std.specs.Option.{option_map_or}
use Rattle.pair_checks.proofs.TraitLists.{under-by}
use Rattle.pair_checks.proofs.by_trait.ImplsByTrait.of_trait.Goals as goal

pub returns-in-Some : goal.returns-in-Some
returns-in-Some c =
    let listed = under-by c.args.self.now.traits c.args.trait_id ∙ ap (λ o. option_map_or (λ v. v.items) o []) (sym c.in-Some.ensures.value) in
    c.deref.ensures.value ∙ sym listed

pub returns-in-None : goal.returns-in-None
returns-in-None c = sym (under-by c.args.self.now.traits c.args.trait_id ∙ ap (λ o. option_map_or (λ v. v.items) o []) (sym c.in-None.ensures.value))
