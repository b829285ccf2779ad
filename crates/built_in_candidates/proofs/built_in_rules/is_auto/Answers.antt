use Rattle.std.proofs.Common.{sym, ap, ◌∙◌}
use Rattle.std.specs.List.{list_any}
use Rattle.type_terms.specs.Promised.Worlds.{TraitDecl}
use Rattle.type_terms.proofs.BooleanBasics.{or-false}
use Rattle.built_in_candidates.proofs.built_in_rules.is_auto.Goals as goal

pub returns-in-Some : goal.returns-in-Some
returns-in-Some c = λ es. sym (or-false c.in-Some.def.now.is_auto) ∙ ap (list_any (λ (x : TraitDecl). x.is_auto)) (sym (c.in-Some.ensures.written es))

pub returns-in-None : goal.returns-in-None
returns-in-None c = λ es. ap (list_any (λ (x : TraitDecl). x.is_auto)) (sym (c.in-None.ensures.written es))
