use Rattle.std.proofs.Common.{sym, ap, ◌∙◌, ◌||◌, Some}
use Rattle.type_terms.specs.Promised.Walks.{visited, until_decisive, ends_local}
use Rattle.type_terms.specs.Promised.Handles.{trees_at}
use Rattle.declarations.specs.Items.{declared}
use Rattle.orphan_check.specs.Walks.{is_local}
use Rattle.orphan_check.proofs.OpenWalk.{meets-local}
use Rattle.orphan_check.proofs.orphan.keeps_orphan_rule.Goals as goal

pub returns-else-is_own_trait : goal.returns-else-is_own_trait
returns-else-is_own_trait c =
    let es = c.args.cx.now.entries in
    let met = visited (declared es c.args.decls.now) (Some c.args.decls.now.local) (trees_at es c.args.trait_ref.args.0) in
    c.is_local.ensures ∙ ap is_local c.decisive_in_args.ensures ∙ sym (meets-local met)
    ∙ sym (ap (λ b. b || ends_local (until_decisive met)) (sym (c.is_own_trait.ensures es) ∙ c.if-is_own_trait.false))
