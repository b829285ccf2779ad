use Rattle.std.proofs.Common.{◌≡◌, ◌∙◌, ℕ, Bool, true, not, ◌||◌, ap, Option, Some, None, []}
use Rattle.std.specs.Prelude.{is_some}
use Rattle.std.specs.List.{list_any}
use Rattle.std.specs.Option.{option_map}
use Rattle.type_terms.specs.Promised.Handles.{trees_at}
use Rattle.type_terms.specs.Promised.Trees.{erase}
use Rattle.type_terms.specs.Promised.Worlds.{TraitDecl}
use Rattle.type_terms.specs.declared.ImplId.{ImplId}
use Rattle.declarations.specs.Items.{declared}
use Rattle.proof_checker.proofs.TypeRows.{own-rule}
use Rattle.proof_checker.proofs.rows.has_own_rule.Goals as goal

absent : (o : Option ImplId) (b : Bool) (n : Option ℕ) → option_map (λ (i : ImplId). i.index) o ≡ n → is_some o ≡ not b → b ≡ true → None ≡ n
absent None b n e h q = e
absent (Some i) true n e h q = absurd cc
absent (Some i) b n e h q = absurd cc

pub returns-then-def : goal.returns-then-def
returns-then-def c = λ q.
    let es = c.args.cx.now.entries in
    let V = declared es c.args.declarations.now in (
      ap (list_any (λ (x : TraitDecl). x.is_auto)) (c.in-Some.ensures.found es) ∙ ap (λ b. b || list_any (λ (x : TraitDecl). x.is_auto) []) c.if-def.true,
      own-rule V c.args.id.index (erase (trees_at es c.args.self_ty.0)) (absent c.next_relevant_impl.result c.is_none.result _ c.next_relevant_impl.ensures.is c.is_none.ensures q),
    )
