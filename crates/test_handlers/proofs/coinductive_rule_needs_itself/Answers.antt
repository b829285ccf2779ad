use Rattle.std.proofs.Common.{[], ◌∷◌, inl, refl}
use Rattle.test_handlers.specs.Toys.{u8}
use Rattle.test_handlers.proofs.coinductive_rule_needs_itself.Goals as goal

pub returns-clause-proved : goal.returns-clause-proved
returns-clause-proved c = (((4, u8), ((4, u8) ∷ [])) ∷ [], (inl (record { concludes = refl; fits = refl; needs = refl }), (inl refl, tt), tt), inl refl)
