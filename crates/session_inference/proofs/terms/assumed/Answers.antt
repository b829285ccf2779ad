use Rattle.std.proofs.Common.{refl}
use Rattle.session_inference.proofs.terms.assumed.Goals as goal

pub returns-clause-added : goal.returns-clause-added
returns-clause-added c = (record { trait_id = c.args.trait_id; args = c.in_ok-args.args }, c.in_ok-push.ensures.items, refl, c.in_ok-args.ensures.items_if_clones_equal (λ x y h. cc))
