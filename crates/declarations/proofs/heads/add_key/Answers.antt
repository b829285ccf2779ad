use Rattle.std.proofs.Common.{◌≡◌, sym, ap, ◌∙◌, [], ◌∷◌, ◌++◌, subst, rules, if◌then◌else◌}
use Rattle.std.specs.Prelude.{IsSome}
use Rattle.std.specs.Option.{option_map_or}
use Rattle.declarations.specs.declared.heads.ImplIds.TheVariants.{One}
use Rattle.declarations.specs.declared.heads.ImplKey.{ImplKey}
use Rattle.declarations.specs.Index.{ids_in, listed, is_key}
use Rattle.declarations.proofs.Keys.{listed-by, listed-more, listed-same}
use Rattle.declarations.proofs.heads.add_key.Goals as goal

pub returns-in_err-push-in-Some-clause-refused : goal.returns-in_err-push-in-Some-clause-refused
returns-in_err-push-in-Some-clause-refused c =
    let w = c.get_mut.follows.holds c.push.new.self in
    let found = c.in-Some.ensures.value in
    let changes = (w.3 (subst IsSome found (search rules))).0 in
    let old = listed-by c.args.keys.now c.args.key ∙ ap (λ o. option_map_or ids_in o []) (sym found) in
    let more = listed-same c.args.keys.now (c.get_mut.follows.lender c.push.new.self) c.args.key c.push.new.self changes (c.in_err-push-in-Some.ensures.refused ∙ sym old) in search (rules, more)

pub returns-in_ok-push-in-Some-clause-added : goal.returns-in_ok-push-in-Some-clause-added
returns-in_ok-push-in-Some-clause-added c =
    let w = c.get_mut.follows.holds c.push.new.self in
    let found = c.in-Some.ensures.value in
    let changes = (w.3 (subst IsSome found (search rules))).0 in
    let old = listed-by c.args.keys.now c.args.key ∙ ap (λ o. option_map_or ids_in o []) (sym found) in
    listed-more c.args.keys.now (c.get_mut.follows.lender c.push.new.self) c.args.key c.push.new.self c.args.id changes (c.in_ok-push-in-Some.ensures.pushed ∙ ap (λ l. l ++ c.args.id ∷ []) (sym old))

pub returns-in_ok-insert-in-None-clause-added : goal.returns-in_ok-insert-in-None-clause-added
returns-in_ok-insert-in-None-clause-added c =
    let same : c.get_mut.follows.lender-at-none ≡ c.args.keys.now = c.get_mut.follows.holds-at-none in
    let found = c.in-None.ensures.value in
    let old = listed-by c.args.keys.now c.args.key ∙ ap (λ o. option_map_or ids_in o []) (sym found) in
    let more = listed-more c.get_mut.follows.lender-at-none c.insert.new.self c.args.key (One c.args.id) c.args.id c.in_ok-insert-in-None.ensures.updates.0
    (ap (λ l. l ++ c.args.id ∷ []) (sym old ∙ ap (λ m. listed m c.args.key) (sym same))) in
    subst (λ m. (k : ImplKey) → listed c.insert.new.self k ≡ (if is_key c.args.key k then listed m k ++ c.args.id ∷ [] else listed m k)) same more
