use Rattle.std.proofs.Common.{rules, ◌≡◌, ◌∙◌, map, ap}
use Rattle.std.proofs.Math.Nat.{le-add_right}
use Rattle.term_folds.specs.Arguments.{arg_sort}
use Rattle.declarations.specs.Items.{reference_in}
use Rattle.infer_table.specs.Content.{Table}
use Rattle.text_lowering.specs.Promised.SeenWorlds.{unbound_reference}
use Rattle.sessions.specs.Asking.{IsLeftOpen, IsRefusedAlone}
use Rattle.sessions.specs.Frames.{StartsFramesOfOne}
use Rattle.sessions.specs.Tables.{table_of}
use Rattle.sessions.proofs.Alone.{clean-there, known-there, refused-there, reference-is, moved}
use Rattle.solver_graph.proofs.Growing.{limits-further}
use Rattle.sessions.proofs.ShortCalls.{handed-by-terms}
use Rattle.sessions.proofs.refuted.refute_lowered.Goals as goal

pub returns-in_err-table-clause-rest : goal.returns-in_err-table-clause-rest
returns-in_err-table-clause-rest g c = c.rest_laws.ensures.rest c.args.search.now.graph.root_depth c.args.search.now.cx c.question_table_in.new.cx c.args.search.now.graph c.args.search.now.cache c.requires.rest c.question_table_in.ensures.advances

pub ask_in_coherence-requires-clause-rest : goal.ask_in_coherence-requires-clause-rest
ask_in_coherence-requires-clause-rest g c = c.rest_laws.ensures.rest c.args.search.now.graph.root_depth c.args.search.now.cx c.question_table_in.new.cx c.args.search.now.graph c.args.search.now.cache c.requires.rest c.question_table_in.ensures.advances

pub ask_in_coherence-requires-clause-no_values : goal.ask_in_coherence-requires-clause-no_values
ask_in_coherence-requires-clause-no_values g c = ap (λ (t : Table). t.values) c.in_ok-table.ensures.is

pub returns-clause-no : goal.returns-clause-no
returns-clause-no g c =
    λ r q low own.
    let us : c.deref.result.now ≡ c.args.lowered.now.unknowns.items = search rules in
    let made : c.in_ok-table.table ≡ table_of (map arg_sort c.args.lowered.now.unknowns.items) = c.in_ok-table.ensures.is ∙ ap (λ xs. table_of (map arg_sort xs)) us in
    let old = c.args.search.now.cx.interner.entries in
    let new = c.question_table_in.new.cx.interner.entries in
    let law = c.requires.rest.ready.lawful in
    let k = c.question_table_in.ensures.advances.entries in
    let l = c.args.lowered.now in
    refused-there q old new law k l low own (g.H.GoalHandler.meaning.goals.handled (g.H.GoalHandler.meaning.world c.args.search.now.cx.handler old)) (g.H.GoalHandler.meaning.goals.handled (g.H.GoalHandler.meaning.world c.question_table_in.new.cx.handler new))
    (ap g.H.GoalHandler.meaning.goals.handled (c.rest_laws.ensures.meaning c.args.search.now.cx c.question_table_in.new.cx c.requires.rest.ready c.question_table_in.ensures.advances))
    (c.ask_in_coherence.ensures.no r (clean-there q old new law k l low own) (known-there q old new law k l low own c.in_ok-table.table made))

pub returns-clause-open : goal.returns-clause-open
returns-clause-open g c =
    λ r q low.
    let old = c.args.search.now.cx.interner.entries in
    let new = c.question_table_in.new.cx.interner.entries in
    let l = c.args.lowered.now in
    moved
    (λ w s. IsLeftOpen g.H.GoalHandler.meaning w c.args.search.now.graph.root_depth s)
    (g.H.GoalHandler.meaning.world c.question_table_in.new.cx.handler new) (g.H.GoalHandler.meaning.world c.args.search.now.cx.handler old) (reference_in new l.asked) (unbound_reference q.asked)
    (c.rest_laws.ensures.meaning c.args.search.now.cx c.question_table_in.new.cx c.requires.rest.ready c.question_table_in.ensures.advances)
    (reference-is q old new c.requires.rest.ready.lawful c.question_table_in.ensures.advances.entries l low)
    (c.ask_in_coherence.ensures.open r)

pub returns-clause-refused : goal.returns-clause-refused
returns-clause-refused g c =
    λ r q low.
    let old = c.args.search.now.cx.interner.entries in
    let new = c.question_table_in.new.cx.interner.entries in
    let l = c.args.lowered.now in
    moved
    (λ w s. IsRefusedAlone g.H.GoalHandler.meaning w c.args.search.now.graph.root_depth s)
    (g.H.GoalHandler.meaning.world c.question_table_in.new.cx.handler new) (g.H.GoalHandler.meaning.world c.args.search.now.cx.handler old) (reference_in new l.asked) (unbound_reference q.asked)
    (c.rest_laws.ensures.meaning c.args.search.now.cx c.question_table_in.new.cx c.requires.rest.ready c.question_table_in.ensures.advances)
    (reference-is q old new c.requires.rest.ready.lawful c.question_table_in.ensures.advances.entries l low)
    (c.ask_in_coherence.ensures.refused r)

pub returns-clause-keeps : goal.returns-clause-keeps
returns-clause-keeps g c = λ i e h. c.ask_in_coherence.ensures.keeps i e (c.question_table_in.ensures.advances.entries i e h)

pub returns-in_err-table-clause-frames : goal.returns-in_err-table-clause-frames
returns-in_err-table-clause-frames g c = λ q low. le-add_right _ _

pub returns-clause-frames : goal.returns-clause-frames
returns-clause-frames g c =
    λ q low.
    let old = c.args.search.now.cx.interner.entries in
    let new = c.question_table_in.new.cx.interner.entries in
    let l = c.args.lowered.now in
    moved
    (λ w s. StartsFramesOfOne g.H.GoalHandler.meaning w s c.args.search.now.graph c.ask_in_coherence.new.search.graph)
    (g.H.GoalHandler.meaning.world c.question_table_in.new.cx.handler new) (g.H.GoalHandler.meaning.world c.args.search.now.cx.handler old) (reference_in new l.asked) (unbound_reference q.asked)
    (c.rest_laws.ensures.meaning c.args.search.now.cx c.question_table_in.new.cx c.requires.rest.ready c.question_table_in.ensures.advances)
    (reference-is q old new c.requires.rest.ready.lawful c.question_table_in.ensures.advances.entries l low)
    c.ask_in_coherence.ensures.frames

pub returns-clause-limits : goal.returns-clause-limits
returns-clause-limits g c = limits-further c.args.search.now.cx c.question_table_in.new.cx c.ask_in_coherence.new.search.cx c.question_table_in.ensures.advances.limits c.ask_in_coherence.ensures.limits

pub returns-in_err-table-clause-full : goal.returns-in_err-table-clause-full
returns-in_err-table-clause-full g c = handed-by-terms c.question_table_in.new.cx c.from_residual.result c.from_residual.ensures.1 c.in_err-table.ensures.full
