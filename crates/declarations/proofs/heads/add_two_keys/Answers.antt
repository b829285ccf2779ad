use Rattle.std.proofs.Common.{◌∙◌}
use Rattle.declarations.specs.Index.{is_key, listed}
use Rattle.declarations.proofs.Keys.{taken-back, added-second}
use Rattle.declarations.proofs.heads.add_two_keys.Goals as goal

pub returns-in-Err-clause-refused : goal.returns-in-Err-clause-refused
returns-in-Err-clause-refused c =
    taken-back c.args.keys.now c.add_key.new.keys c.take_last.new.keys c.args.first c.args.id c.in_ok-add_key.ensures.added
    (λ ids j e. c.take_last.ensures.taken ids j (c.in-Err.ensures.refused c.args.first ∙ e)) (λ k e. c.take_last.ensures.others k e ∙ c.in-Err.ensures.refused k)

pub returns-in-Ok-clause-added : goal.returns-in-Ok-clause-added
returns-in-Ok-clause-added c k =
    added-second (is_key c.args.first k) (is_key c.args.second k) (listed c.args.keys.now k) (listed c.add_key.new.keys k) (listed c.add_key-2.new.keys k) c.args.id
    (c.requires.apart k) (c.in_ok-add_key.ensures.added k) (c.in-Ok.ensures.added k)
