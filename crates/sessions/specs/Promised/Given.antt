-- What a session answers, over the terms of its interner.
use Rattle.std.specs.Prelude.{List, [], map}
use Rattle.type_terms.specs.Promised.Trees.{erase}
use Rattle.type_terms.specs.Promised.Handles.{arg_trees, ArgsHeld, Entry}
use Rattle.type_terms.specs.declared.kinds.GenericArgKind.{GenericArgKind}
use Rattle.orphan_check.specs.Promised.Errors.{ErrorHeld}
use Rattle.overlap_check.specs.Promised.Errors.{error_in}
use Rattle.type_terms.specs.Promised.Questions as answers
use Rattle.type_terms.specs.Promised.Verdicts as verdicts
use Rattle.sessions.specs.declared.answers.ProveAnswer.{ProveAnswer}
use Rattle.sessions.specs.declared.answers.ProveAnswer.TheVariants.{Yes, Maybe, Unproved}
use Rattle.sessions.specs.declared.answers.RefuteAnswer.{RefuteAnswer}
use Rattle.sessions.specs.declared.answers.RefuteAnswer.TheVariants.{No, Open}
use Rattle.sessions.specs.declared.answers.LaterAnswer.{LaterAnswer}
use Rattle.sessions.specs.declared.answers.LaterAnswer.TheVariants.{Compatible, Breaking}
use Rattle.sessions.specs.declared.answers.SupersAnswer.{SupersAnswer}
use Rattle.sessions.specs.declared.answers.SupersAnswer.TheVariants.{Held, Missing, Undecided}
use Rattle.sessions.specs.Promised.Releases as releases
use Rattle.sessions.specs.declared.answers.Verdict.{Verdict}
use Rattle.sessions.specs.declared.answers.Verdict.TheVariants.{Accepted, Orphan, Overlap}

-- Impls go by their numbers in the text, and types by their terms, without lifetimes.
abbrev pub verdict_in : List Entry → Verdict → verdicts.Verdict
verdict_in es Accepted = verdicts.accepted
verdict_in es (Orphan k e) = verdicts.orphan k.index (error_in es e)
verdict_in es (Overlap k j) = verdicts.overlap k.index j.index

-- The values of a query's variables, in their order, without lifetimes.
abbrev pub answer_in : List Entry → ProveAnswer → answers.ProveAnswer
answer_in es (Yes values) = answers.yes (map (λ v. erase (arg_trees es v)) values.items)
answer_in es (Maybe values) = answers.maybe (map (λ v. erase (arg_trees es v)) values.items)
answer_in es Unproved = answers.unproved

-- The answer to `refute`, as the definitions name it.
abbrev pub refutation_of : RefuteAnswer → answers.RefuteAnswer
refutation_of No = answers.no
refutation_of Open = answers.unrefuted

-- The answer to `later`, as the definitions name it.
abbrev pub later_of : LaterAnswer → releases.LaterAnswer
later_of Compatible = releases.compatible
later_of (Breaking n) = releases.breaking n

-- The answer to `supers`, as the definitions name it.
abbrev pub supers_answer_of : SupersAnswer → releases.SupersAnswer
supers_answer_of Held = releases.held
supers_answer_of (Missing k j) = releases.missing k.index j
supers_answer_of (Undecided k j) = releases.undecided k.index j

-- The types of a verdict's error are the interner's.
abbrev pub VerdictHeld : List Entry → Verdict → Type 0
VerdictHeld es Accepted = Unit {0}
VerdictHeld es (Orphan k e) = ErrorHeld es e
VerdictHeld es (Overlap k j) = Unit {0}

-- The values that an answer has.
abbrev pub values_of_answer : ProveAnswer → List GenericArgKind
values_of_answer (Yes values) = values.items
values_of_answer (Maybe values) = values.items
values_of_answer Unproved = []

-- They are the interner's.
abbrev pub AnswerValuesHeld : List Entry → ProveAnswer → Type 0
AnswerValuesHeld es a = ArgsHeld es (values_of_answer a)
