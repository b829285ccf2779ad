use Rattle.std.proofs.Common.{◌&&◌, ap, sym, ◌∙◌}
use Rattle.type_terms.specs.Promised.Trees.{leaf, ◌+++◌}
use Rattle.type_terms.specs.Promised.Rules.{autos_with, upcasts_autos}
use Rattle.type_terms.specs.Promised.Handles.{trees_at}
use Rattle.goal_evaluator.specs.Merge.{if_there}
use Rattle.declarations.specs.Items.{written}
use Rattle.declarations.specs.Applied.{references_in}
use Rattle.built_in_candidates.specs.Unsizing.{traits_asked}
use Rattle.built_in_candidates.proofs.Objects.{all_found, autos-at, autos-are}
use Rattle.built_in_candidates.proofs.upcast.can_upcast.Goals as goal

pub returns-then-is_declared : goal.returns-then-is_declared
returns-then-is_declared c = λ es now self h e l k m j.
    let now' = c.args.cx.now.entries in
    let d = c.args.declarations.now in
    let V = written es d in
    let ps = references_in now (if_there c.args.from.now.principal) in
    let rs = c.args.from.now.elaborated.items in
    let own = c.bounds.result.now.autos.items in
    let other = c.bounds-then-is_declared.result.now.autos.items in
    let first = autos-at now' self c.args.source.0 c.bounds.result.now c.bounds.ensures.is l k in
    let second = autos-at now' self c.args.target.0 c.bounds-then-is_declared.result.now c.bounds-then-is_declared.ensures.is m j in
    let found = upcasts_autos V ps (autos_with self (trees_at now' c.args.source.0 +++ leaf l)) (autos_with self (trees_at now' c.args.target.0 +++ leaf m)) in
    c.has_autos.ensures
    ∙ ap (λ x. all_found x c.deref-then-is_declared.result.now c.deref-then-is_declared-2.result.now) c.deref.ensures.value
    ∙ ap (λ x. all_found own x c.deref-then-is_declared-2.result.now) c.deref-then-is_declared.ensures.value
    ∙ ap (all_found own rs) c.deref-then-is_declared-2.ensures.value
    ∙ autos-are es d h now rs ps e self own other
    ∙ ap (λ x. upcasts_autos V ps x (traits_asked other self)) (sym first)
    ∙ ap (upcasts_autos V ps (autos_with self (trees_at now' c.args.source.0 +++ leaf l))) (sym second)
    ∙ ap (λ b. b && found) (sym c.if-is_declared.true ∙ c.is_declared.ensures es now)

pub returns-else-is_declared : goal.returns-else-is_declared
returns-else-is_declared c = λ es now self h e l k m j.
    let now' = c.args.cx.now.entries in
    let V = written es c.args.declarations.now in
    let ps = references_in now (if_there c.args.from.now.principal) in
    let found = upcasts_autos V ps (autos_with self (trees_at now' c.args.source.0 +++ leaf l)) (autos_with self (trees_at now' c.args.target.0 +++ leaf m)) in
    c.if-is_declared.false ∙ ap (λ b. b && found) (sym c.if-is_declared.false ∙ c.is_declared.ensures es now)
