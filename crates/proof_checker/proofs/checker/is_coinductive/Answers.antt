use Rattle.std.proofs.Common.{◌==◌, ◌||◌, [], ap, sym, ◌∙◌}
use Rattle.std.specs.List.{list_any}
use Rattle.type_terms.specs.Promised.Rules.{sized}
use Rattle.type_terms.specs.Promised.Worlds.{TraitDecl}
use Rattle.proof_checker.proofs.checker.is_coinductive.Goals as goal

pub returns-then-def : goal.returns-then-def
returns-then-def c = λ es.
    c.if-def.true
    ∙ sym (ap (λ l. list_any (λ (x : TraitDecl). x.is_auto) l || (c.args.id.index == sized)) (c.in-Some.ensures.found es)
    ∙ ap (λ b. (b || list_any (λ (x : TraitDecl). x.is_auto) []) || (c.args.id.index == sized)) c.if-def.true)

pub returns-else-def : goal.returns-else-def
returns-else-def c = λ es.
    sym (ap (λ l. list_any (λ (x : TraitDecl). x.is_auto) l || (c.args.id.index == sized)) (c.in-Some.ensures.found es)
    ∙ ap (λ b. (b || list_any (λ (x : TraitDecl). x.is_auto) []) || (c.args.id.index == sized)) c.if-def.false)

pub returns-in-None : goal.returns-in-None
returns-in-None c = λ es. sym (ap (λ l. list_any (λ (x : TraitDecl). x.is_auto) l || (c.args.id.index == sized)) (c.in-None.ensures.found es))
