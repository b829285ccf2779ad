use Rattle.std.proofs.Common.{rules, ◌≡◌, ◌∙◌, ◌∷◌, map, ap, sym, subst}
use Rattle.term_folds.specs.Arguments.{arg_sort}
use Rattle.declarations.specs.Applied.{TraitRefsHeld, references_in}
use Rattle.declarations.proofs.Bounded.{all-same}
use Rattle.declarations.proofs.Growth.{references-kept}
use Rattle.text_lowering.specs.Promised.Questions.{variable_kinds}
use Rattle.solver_graph.proofs.Growing.{limits-further}
use Rattle.sessions.specs.ProvingTogether.{AreRefusedAlone, asked_references}
use Rattle.sessions.proofs.Alone.{moved}
use Rattle.sessions.proofs.SeveralAsked.{all-are, all-held}
use Rattle.sessions.proofs.ShortCalls.{handed-by-terms}
use Rattle.sessions.proofs.VariableKinds.{kinds-are}
use Rattle.sessions.proofs.together.refute_together.Goals as goal

pub returns-in_err-table-clause-rest : goal.returns-in_err-table-clause-rest
returns-in_err-table-clause-rest g c = c.rest_laws.ensures.rest c.args.search.now.graph.root_depth c.args.search.now.cx c.question_table_in.new.cx c.args.search.now.graph c.args.search.now.cache c.requires.rest c.question_table_in.ensures.advances

pub returns-in_err-table-clause-full : goal.returns-in_err-table-clause-full
returns-in_err-table-clause-full g c = handed-by-terms c.question_table_in.new.cx c.from_residual-in_err-table.result c.from_residual-in_err-table.ensures.1 c.in_err-table.ensures.full

pub ask_all_in_coherence-requires-clause-rest : goal.ask_all_in_coherence-requires-clause-rest
ask_all_in_coherence-requires-clause-rest g c = c.rest_laws.ensures.rest c.args.search.now.graph.root_depth c.args.search.now.cx c.question_table_in.new.cx c.args.search.now.graph c.args.search.now.cache c.requires.rest c.question_table_in.ensures.advances

pub ask_all_in_coherence-requires-clause-references : goal.ask_all_in_coherence-requires-clause-references
ask_all_in_coherence-requires-clause-references g c =
    let old = c.args.search.now.cx.interner.entries in
    let new = c.question_table_in.new.cx.interner.entries in
    let rs : c.deref-2.result.now ≡ c.in_ok-references.references.items = search rules in
    let l = c.args.lowered.now in
    subst (TraitRefsHeld new) (sym (rs ∙ c.in_ok-references.ensures))
    (references-kept old new c.question_table_in.ensures.advances.entries (l.asked ∷ l.further.items) (all-held old c.requires.lowered.0 l c.requires.lowered.1))

pub returns-clause-keeps : goal.returns-clause-keeps
returns-clause-keeps g c = λ i e h. c.ask_all_in_coherence.ensures.keeps i e (c.question_table_in.ensures.advances.entries i e h)

pub returns-clause-limits : goal.returns-clause-limits
returns-clause-limits g c = limits-further c.args.search.now.cx c.question_table_in.new.cx c.ask_all_in_coherence.new.search.cx c.question_table_in.ensures.advances.limits c.ask_all_in_coherence.ensures.limits

pub returns-clause-no : goal.returns-clause-no
returns-clause-no g c = λ r q low.
    let old = c.args.search.now.cx.interner.entries in
    let new = c.question_table_in.new.cx.interner.entries in
    let k = c.question_table_in.ensures.advances.entries in
    let l = c.args.lowered.now in
    let us = l.unknowns.items in
    let rs : c.deref-2.result.now ≡ c.in_ok-references.references.items = search rules in
    let vs : c.deref-3.result.now ≡ us = search rules in
    let kinds = ap (map arg_sort) vs ∙ kinds-are old c.requires.rest.ready.lawful us q.variables 0 0 low.unknowns_held low.unknowns in
    let references = ap (references_in new) (rs ∙ c.in_ok-references.ensures) ∙ all-same old new k (l.asked ∷ l.further.items) (all-held old q l low) ∙ all-are old q l low in
    moved
    (λ w xs. AreRefusedAlone g.H.GoalHandler.meaning w c.args.search.now.graph.root_depth (variable_kinds q) xs)
    (g.H.GoalHandler.meaning.world c.question_table_in.new.cx.handler new) (g.H.GoalHandler.meaning.world c.args.search.now.cx.handler old) (references_in new c.deref-2.result.now) (asked_references q)
    (c.rest_laws.ensures.meaning c.args.search.now.cx c.question_table_in.new.cx c.requires.rest.ready c.question_table_in.ensures.advances)
    references
    (subst (λ ks. AreRefusedAlone g.H.GoalHandler.meaning (g.H.GoalHandler.meaning.world c.question_table_in.new.cx.handler new) c.args.search.now.graph.root_depth ks (references_in new c.deref-2.result.now)) kinds
    (c.ask_all_in_coherence.ensures.no r))
