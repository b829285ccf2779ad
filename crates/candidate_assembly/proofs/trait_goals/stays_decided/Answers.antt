use Rattle.std.proofs.Common.{refl, sym, ◌∙◌, false}
use Rattle.candidate_assembly.specs.Counted.{is_of}
use Rattle.candidate_assembly.specs.declared.assembly.Section.TheVariants.{Impls, WhereClauses, ObjectBounds}
use Rattle.candidate_assembly.proofs.BehindImpls.{decides}
use Rattle.candidate_assembly.proofs.trait_goals.stays_decided.Goals as goal

pub returns-then-ends_by : goal.returns-then-ends_by
returns-then-ends_by c =
    decides c.args.cx.now.entries c.args.declarations.now c.args.goal.now c.args.done.now (is_of false Impls) refl (sym c.ends_by.ensures ∙ c.if-ends_by.true) c.requires.ready c.requires.history

pub returns-then-ends_by-2 : goal.returns-then-ends_by-2
returns-then-ends_by-2 c =
    decides c.args.cx.now.entries c.args.declarations.now c.args.goal.now c.args.done.now (is_of false WhereClauses) refl (sym c.ends_by-2.ensures ∙ c.if-ends_by-2.true) c.requires.ready c.requires.history

pub returns-then-ends_by-3 : goal.returns-then-ends_by-3
returns-then-ends_by-3 c =
    decides c.args.cx.now.entries c.args.declarations.now c.args.goal.now c.args.done.now (is_of false ObjectBounds) refl (sym c.ends_by-3.ensures ∙ c.if-ends_by-3.true) c.requires.ready c.requires.history

pub returns : goal.returns
returns c = record { is = c.is_decided.ensures.is; fits = c.is_decided.ensures.fits }
