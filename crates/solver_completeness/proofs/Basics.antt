-- Small facts that several files use.
use Rattle.std.proofs.Common.{List, ◌++◌, [], ◌∷◌, ◌≡◌, refl, ap}
use Rattle.solver_completeness.specs.FormedFacts.{AreTypeSorts}
use Rattle.solver_completeness.specs.SolverWays.{premises_of}
use Rattle.type_terms.specs.Promised.Label.{Sort}
use Rattle.type_terms.specs.Promised.Rules.{Rule}

pub are-types-append : (xs ys : List Sort) → AreTypeSorts xs → AreTypeSorts ys → AreTypeSorts (xs ++ ys)
are-types-append [] ys h g = g
are-types-append (x ∷ xs) ys h g = (h.0, are-types-append xs ys h.1 g)

pub premises-append : (us ts : List Rule) → premises_of (us ++ ts) ≡ premises_of us ++ premises_of ts
premises-append [] ts = refl
premises-append (u ∷ us) ts = ap (λ z. u.premises ∷ z) (premises-append us ts)
