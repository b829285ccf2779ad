use Rattle.std.proofs.Common.{◌≡◌, ◌||◌, ◌++◌, ◌∷◌, [], sym, ap, ◌∙◌, if◌then◌else◌}
use Rattle.type_terms.proofs.BooleanBasics.{or-false}
use Rattle.declarations.specs.declared.heads.ImplKey.{ImplKey}
use Rattle.declarations.specs.Index.{is_key, is_that_key, listed}
use Rattle.declarations.proofs.Keys.{taken-back, added-first, on-ok}
use Rattle.declarations.proofs.heads.add_keys.Goals as goal

pub returns-in-None-clause-added : goal.returns-in-None-clause-added
returns-in-None-clause-added c =
    on-ok
    ((k : ImplKey) → listed c.add_two_keys.new.keys k
    ≡ (if is_key c.args.first k || is_key c.args.second k then listed c.args.keys.now k ++ c.args.id ∷ [] else listed c.args.keys.now k))
    ((k : ImplKey) → listed c.add_two_keys.new.keys k
    ≡ (if (is_key c.args.first k || is_key c.args.second k) || is_that_key c.args.third k then listed c.args.keys.now k ++ c.args.id ∷ [] else listed c.args.keys.now k))
    c.add_two_keys.result
    (λ h k. h k ∙ ap (λ b. if b then listed c.args.keys.now k ++ c.args.id ∷ [] else listed c.args.keys.now k)
    (sym (or-false (is_key c.args.first k || is_key c.args.second k)) ∙ ap (λ o. (is_key c.args.first k || is_key c.args.second k) || is_that_key o k) (sym c.in-None.is)))
    c.add_two_keys.ensures.added

pub returns-in-Ok-clause-added : goal.returns-in-Ok-clause-added
returns-in-Ok-clause-added c k =
    added-first (is_key c.in-Some.key k) (is_key c.args.first k || is_key c.args.second k) (listed c.args.keys.now k) (listed c.add_key.new.keys k)
    (listed c.add_two_keys-in-Some.new.keys k) c.args.id
    (λ e. sym (ap (λ o. is_that_key o k) c.in-Some.is) ∙ c.requires.third_apart k e) (c.in_ok-add_key-in-Some.ensures.added k) (c.in-Ok.ensures.added k)
    ∙ ap (λ o. if (is_key c.args.first k || is_key c.args.second k) || is_that_key o k then listed c.args.keys.now k ++ c.args.id ∷ [] else listed c.args.keys.now k) (sym c.in-Some.is)

pub returns-in-Err-clause-refused : goal.returns-in-Err-clause-refused
returns-in-Err-clause-refused c =
    taken-back c.args.keys.now c.add_key.new.keys c.take_last.new.keys c.in-Some.key c.args.id c.in_ok-add_key-in-Some.ensures.added
    (λ ids j e. c.take_last.ensures.taken ids j (c.in-Err.ensures.refused c.in-Some.key ∙ e)) (λ k e. c.take_last.ensures.others k e ∙ c.in-Err.ensures.refused k)
