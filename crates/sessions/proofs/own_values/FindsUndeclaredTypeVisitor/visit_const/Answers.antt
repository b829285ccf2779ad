use Rattle.std.proofs.Common.{refl, sym, subst}
use Rattle.type_terms.specs.declared.visit.Seen.TheVariants.{Enter}
use Rattle.declarations.specs.Items.{written}
use Rattle.candidate_assembly.specs.Finding.{BreaksAt}
use Rattle.candidate_assembly.proofs.Finding.{const-unnamed}
use Rattle.sessions.proofs.own_values.FindsUndeclaredTypeVisitor.visit_const.Goals as goal

pub returns-clause-sees : goal.returns-clause-sees
returns-clause-sees c =
    let es = c.args.cx.now.entries in
    (refl, subst (λ b. BreaksAt {B = Unit {0}} b Enter) (sym (const-unnamed (written es c.args.self.now.declarations.now) es c.lawful.ensures c.args._ct.0 c.requires.held)) tt)
