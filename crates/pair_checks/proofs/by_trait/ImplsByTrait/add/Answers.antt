use Rattle.std.proofs.Common.{rules, ◌≡◌, ◌++◌, ◌∷◌, [], sym, ap, ◌∙◌, subst, if◌then◌else◌}
use Rattle.std.specs.Prelude.{IsSome}
use Rattle.std.specs.Option.{option_map_or}
use Rattle.type_terms.specs.declared.TraitId.{TraitId}
use Rattle.pair_checks.specs.ByTrait.{is_trait}
use Rattle.pair_checks.proofs.TraitLists.{under, under-by, one-more-under}
use Rattle.pair_checks.proofs.by_trait.ImplsByTrait.add.Goals as goal

pub returns-in_ok-push-in-Some : goal.returns-in_ok-push-in-Some
returns-in_ok-push-in-Some c =
    let w = c.get_mut.follows.holds c.push.new.self in
    let found = c.in-Some.ensures.value in
    let changes = (w.3 (subst IsSome found (search rules))).0 in
    let old = under-by c.args.self.now.traits c.args.trait_id ∙ ap (λ o. option_map_or (λ v. v.items) o []) (sym found) in
    one-more-under c.args.self.now.traits (c.get_mut.follows.lender c.push.new.self) c.args.trait_id c.push.new.self c.args.id changes
    (c.in_ok-push-in-Some.ensures.items ∙ ap (λ l. l ++ c.args.id ∷ []) (sym old))

pub returns-in_ok-insert-in-None : goal.returns-in_ok-insert-in-None
returns-in_ok-insert-in-None c =
    let same : c.get_mut.follows.lender-at-none ≡ c.args.self.now.traits = c.get_mut.follows.holds-at-none in
    let found = c.in-None.ensures.value in
    let old = under-by c.args.self.now.traits c.args.trait_id ∙ ap (λ o. option_map_or (λ v. v.items) o []) (sym found) in
    let more = one-more-under c.get_mut.follows.lender-at-none c.insert.new.self c.args.trait_id c.in_ok-impls-in-None.impls c.args.id c.in_ok-insert-in-None.ensures.updates.0
    (c.in_ok-impls-in-None.ensures.items ∙ ap (λ l. l ++ c.args.id ∷ []) (sym old ∙ ap (λ m. under m c.args.trait_id) (sym same))) in
    subst (λ m. (t : TraitId) → under c.insert.new.self t ≡ (if is_trait c.args.trait_id t then under m t ++ c.args.id ∷ [] else under m t)) same more
