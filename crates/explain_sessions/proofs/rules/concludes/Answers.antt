use Rattle.std.proofs.Common.{refl, sym, subst}
use Rattle.sessions.specs.TypeTerms.Promised.Rules.{by_impl, built_in}
use Rattle.sessions.specs.Declarations.Items.{declared}
use Rattle.sessions.specs.InferTable.Kept.{ready-later}
use Rattle.sessions.proofs.ProofChecker.Results.{mapped}
use Rattle.explain_sessions.specs.Rules.{Concludes}
use Rattle.explain_sessions.proofs.rules.concludes.Goals as goal

pub returns-in-Impl-clause-concludes : goal.returns-in-Impl-clause-concludes
returns-in-Impl-clause-concludes c =
    let es = c.args.cx.now.entries in
    let W = declared es c.args.declarations.now in
    mapped _ _ c.follows_by.result
    (λ b f q. subst (λ s. Concludes es W s c.args.reference c.args.premises.now) (sym c.in-Impl.is) (λ E. (by_impl c.in-Impl.id.index, refl, f q E)))
    c.follows_by.ensures.follows

pub returns-in-BuiltinImpl-clause-concludes : goal.returns-in-BuiltinImpl-clause-concludes
returns-in-BuiltinImpl-clause-concludes c =
    let es = c.args.cx.now.entries in
    let W = declared es c.args.declarations.now in
    mapped _ _ c.follows_by_built_in.result
    (λ b f q. subst (λ s. Concludes es W s c.args.reference c.args.premises.now) (sym c.in-BuiltinImpl.is) (λ E. let x = f q E in (built_in x.0, (x.0, refl), x.1)))
    c.follows_by_built_in.ensures.follows

pub returns-in-BuiltinImpl-clause-table : goal.returns-in-BuiltinImpl-clause-table
returns-in-BuiltinImpl-clause-table c = ready-later c.args.cx.now.entries c.follows_by_built_in.new.cx.entries c.args.table.now c.follows_by_built_in.ensures.terms.grew.keeps c.requires.table
