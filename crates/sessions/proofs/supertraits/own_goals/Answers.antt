use Rattle.std.proofs.Common.{◌∙◌, sym}
use Rattle.declarations.specs.Items.{impl_in, written}
use Rattle.overlap_check.proofs.Judged.{found-well}
use Rattle.sessions.proofs.OpaqueFound.{none-own, of-own, other-crates, stands-there}
use Rattle.sessions.proofs.supertraits.own_goals.Goals as goal

pub returns-in_default-clause-goals : goal.returns-in_default-clause-goals
returns-in_default-clause-goals c =
    let es = c.args.cx.now.entries in
    let d = c.args.declarations.now in
    none-own (written es d) d.local c.args.id.index (c.in_default.ensures.written es)

pub goals_of-requires-clause-held : goal.goals_of-requires-clause-held
goals_of-requires-clause-held c = c.in-Some.ensures.held c.args.cx.now.entries c.requires.ready.held

pub goals_of-requires-clause-written : goal.goals_of-requires-clause-written
goals_of-requires-clause-written c =
    let es = c.args.cx.now.entries in
    let d = c.args.declarations.now in
    (found-well es d (c.ready_impls_are_written_well.ensures es d c.requires.ready).0 c.args.id.index c.in-Some.def.now c.in-Some.ensures.is).0

pub goals_of-requires-clause-applied : goal.goals_of-requires-clause-applied
goals_of-requires-clause-applied c =
    let es = c.args.cx.now.entries in
    let d = c.args.declarations.now in
    let x = impl_in es c.args.id c.in-Some.def.now in
    c.requires.applied x (stands-there (written es d) d.local c.args.id.index x (c.in-Some.ensures.written es))

pub returns-in_ok-goals-clause-goals : goal.returns-in_ok-goals-clause-goals
returns-in_ok-goals-clause-goals c =
    let es = c.args.cx.now.entries in
    let d = c.args.declarations.now in
    of-own (written es d) d.local c.args.id.index (impl_in es c.args.id c.in-Some.def.now) (c.in-Some.ensures.written es) (sym c.is_local.ensures ∙ c.if-is_local.true) c.goals_of.new.cx.entries c.in_ok-goals.goals
    c.in_ok-goals.ensures.are

pub returns-else-is_local-clause-goals : goal.returns-else-is_local-clause-goals
returns-else-is_local-clause-goals c =
    let es = c.args.cx.now.entries in
    let d = c.args.declarations.now in
    other-crates (written es d) d.local c.args.id.index (impl_in es c.args.id c.in-Some.def.now) (c.in-Some.ensures.written es) (sym c.is_local.ensures ∙ c.if-is_local.false)
