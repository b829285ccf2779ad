-- The lines of the output as data, which the functions of this crate make of what a session answers. `Told` says what a run writes.
use Rattle.std.specs.Prelude.{◌≡◌, ℕ, true, false, List, [], slice_get}
use Rattle.std.specs.Option.{option_map, option_map_or}
use Rattle.sessions.specs.TypeTerms.Promised.Trees.{Trees}
use Rattle.sessions.specs.TextLanguage.Promised.Declarations.{Declarations, Check, of_later, of_supers, Question}
use Rattle.sessions.specs.TextLanguage.Names.{header_names, answer_values}
use Rattle.sessions.specs.TextLanguage.Output.{Answer, accepted, nonlocal, uncovered, overlap, compatible, breaking, held, missing, undecided, yes, maybe, unproved, no, unrefuted, type_text}
use Rattle.sessions.specs.OrphanErrors as errors
use Rattle.sessions.specs.Promised.Promises.{IsProved, IsRefutation}
use Rattle.sessions.specs.QuestionAnswers as answers
use Rattle.sessions.specs.Promised.Releases as releases
use Rattle.sessions.specs.Promised.Releases.{IsLaterAnswer, IsSupersAnswer}
use Rattle.sessions.specs.Verdicts as verdicts
use Rattle.coherence.specs.Promised.CheckAnswers.{number_in_section}
use Rattle.coherence.specs.Promised.CrateAnswers.{crate_text, impl_home, number_in_crate}

-- A type of its header. A variable has the name of the parameter that it stands for.
abbrev pub header_text : Declarations → ℕ → Trees → List ℕ
header_text d k t = type_text (header_names d (option_map_or (λ i. i.params) (slice_get d.impls k) [])) t

abbrev pub orphan_line : Declarations → ℕ → ℕ → errors.OrphanError → Answer
orphan_line d c k (errors.nonlocal ts) = nonlocal (crate_text d c) (number_in_crate d k)
orphan_line d c k (errors.uncovered t local) = uncovered (crate_text d c) (number_in_crate d k) (header_text d k t) (option_map (header_text d k) local)

abbrev pub verdict_line : Declarations → ℕ → verdicts.Verdict → Answer
verdict_line d c verdicts.accepted = accepted (crate_text d c)
verdict_line d c (verdicts.orphan k e) = orphan_line d c k e
verdict_line d c (verdicts.overlap k j) = overlap (crate_text d c) (number_in_crate d k) (crate_text d (impl_home d j)) (number_in_crate d j)

-- ---- the line of a check
abbrev pub later_line : Declarations → ℕ → ℕ → releases.LaterAnswer → Answer
later_line d k c releases.compatible = compatible (crate_text d c)
later_line d k c (releases.breaking n) = breaking (crate_text d c) (number_in_section d k n)

abbrev pub supers_line : Declarations → ℕ → releases.SupersAnswer → Answer
supers_line d c releases.held = held (crate_text d c)
supers_line d c (releases.missing k j) = missing (crate_text d c) (number_in_crate d k) j
supers_line d c (releases.undecided k j) = undecided (crate_text d c) (number_in_crate d k) j

-- The same, with an answer that is right.
pub data IsCheckLine (limit : ℕ) (d : Declarations) : Check → Answer → Type 0 where
  of_version : (k c : ℕ) (a : releases.LaterAnswer) → IsLaterAnswer d c k a → IsCheckLine limit d (of_later k c) (later_line d k c a)
  of_headers : (c : ℕ) (a : releases.SupersAnswer) → IsSupersAnswer limit d c a → IsCheckLine limit d (of_supers c) (supers_line d c a)

-- ---- the line of a query, by its number from 1
abbrev pub prove_line : Declarations → ℕ → Question → answers.ProveAnswer → Answer
prove_line d n q (answers.yes values) = yes n (answer_values d q values)
prove_line d n q (answers.maybe values) = maybe n (answer_values d q values)
prove_line d n q answers.unproved = unproved n

abbrev pub refute_line : ℕ → answers.RefuteAnswer → Answer
refute_line n answers.no = no n
refute_line n answers.unrefuted = unrefuted n

-- The same, with an answer that is right.
pub data IsQuestionLine (limit : ℕ) (d : Declarations) (n : ℕ) (q : Question) : Answer → Type 0 where
  of_prove : (a : answers.ProveAnswer) → q.is_refute ≡ false → IsProved limit d q a → IsQuestionLine limit d n q (prove_line d n q a)
  of_refute : (a : answers.RefuteAnswer) → q.is_refute ≡ true → IsRefutation limit d q a → IsQuestionLine limit d n q (refute_line n a)
