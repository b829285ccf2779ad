use Rattle.std.proofs.Common.{◌∙◌, ◌∷◌, ap}
use Rattle.type_terms.specs.Kept.{args-held-later, has-later}
use Rattle.type_terms.specs.Terms.{args_lists}
use Rattle.declarations.specs.Applied.{references_in}
use Rattle.declarations.specs.Items.{reference_in, written}
use Rattle.declarations.proofs.Bounded.{all-same}
use Rattle.candidate_assembly.specs.Fitting.{solving_of}
use Rattle.candidate_assembly.specs.Solving.{Solving}
use Rattle.sessions.proofs.HandedOn.{all-handed-on, all-own-held, references-later}
use Rattle.sessions.proofs.Posing.{args-later}
use Rattle.sessions.proofs.SeveralAsked.{all-are, all-held}
use Rattle.sessions.proofs.together.prove_together.Goals as goal

pub own_answer_together-requires-clause-answer : goal.own_answer_together-requires-clause-answer
own_answer_together-requires-clause-answer c = c.in_ok-answer.ensures.held

pub own_answer_together-requires-clause-reference : goal.own_answer_together-requires-clause-reference
own_answer_together-requires-clause-reference c =
    has-later c.args.search.now.cx.interner.entries c.prove_all_lowered.new.search.cx.interner.entries c.prove_all_lowered.ensures.keeps args_lists c.args.lowered.now.asked.args.0 c.requires.lowered.1.asked_held

pub own_answer_together-requires-clause-further : goal.own_answer_together-requires-clause-further
own_answer_together-requires-clause-further c =
    references-later c.args.search.now.cx.interner.entries c.prove_all_lowered.new.search.cx.interner.entries c.prove_all_lowered.ensures.keeps c.args.lowered.now.further.items c.requires.lowered.1.further_held

pub own_answer_together-requires-clause-clauses : goal.own_answer_together-requires-clause-clauses
own_answer_together-requires-clause-clauses c =
    references-later c.args.search.now.cx.interner.entries c.prove_all_lowered.new.search.cx.interner.entries c.prove_all_lowered.ensures.keeps c.args.lowered.now.clauses.items c.requires.lowered.1.clauses_held

pub returns-clause-held : goal.returns-clause-held
returns-clause-held c =
    let new = c.prove_all_lowered.new.search.cx.interner.entries in
    let l = c.args.lowered.now in
    all-own-held (written new c.prove_all_lowered.new.search.cx.handler.declarations) (reference_in new l.asked ∷ references_in new l.further.items) (references_in new l.clauses.items) l.unknowns.items new
    c.in_ok-answer.answer c.in_ok-own.own c.in_ok-own.ensures
    (args-held-later c.args.search.now.cx.interner.entries new c.prove_all_lowered.ensures.keeps l.unknowns.items c.requires.lowered.1.unknowns_held)
    c.in_ok-answer.ensures.held

pub returns-clause-answer : goal.returns-clause-answer
returns-clause-answer c = λ q low.
    let old = c.args.search.now.cx.interner.entries in
    let new = c.prove_all_lowered.new.search.cx.interner.entries in
    let k = c.prove_all_lowered.ensures.keeps in
    let l = c.args.lowered.now in
    all-handed-on (solving_of old c.args.search.now.cx.handler.declarations) c.args.search.now.graph.root_depth q new (written new c.prove_all_lowered.new.search.cx.handler.declarations)
    (reference_in new l.asked ∷ references_in new l.further.items) (references_in new l.clauses.items) l.unknowns.items c.in_ok-answer.answer c.in_ok-own.own
    (ap (λ (s : Solving). s.view) c.prove_all_lowered.ensures.solving)
    (all-same old new k (l.asked ∷ l.further.items) (all-held old q l low) ∙ all-are old q l low)
    (all-same old new k l.clauses.items low.clauses_held ∙ low.clauses)
    (args-later old new k l.unknowns.items low.unknowns_held ∙ low.unknowns)
    (c.in_ok-answer.ensures.answer q low) c.in_ok-own.ensures
