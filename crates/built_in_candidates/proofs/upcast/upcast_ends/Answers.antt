use Rattle.std.proofs.Common.{◌∙◌}
use Rattle.declarations.proofs.Bounded.{all-same}
use Rattle.declarations.proofs.Growth.{references-kept}
use Rattle.built_in_candidates.proofs.upcast.upcast_ends.Goals as goal

pub returns-clause-elaborated_held : goal.returns-clause-elaborated_held
returns-clause-elaborated_held c =
    references-kept c.elaborated_principal.new.cx.entries c.principal_with.new.cx.entries c.principal_with.ensures.terms.grew.keeps c.in_ok-from.from.elaborated.items c.in_ok-from.ensures.held

pub returns-clause-elaborated : goal.returns-clause-elaborated
returns-clause-elaborated c = λ l h.
    all-same c.elaborated_principal.new.cx.entries c.principal_with.new.cx.entries c.principal_with.ensures.terms.grew.keeps c.in_ok-from.from.elaborated.items c.in_ok-from.ensures.held ∙ c.in_ok-from.ensures.elaborated l h
