-- The text of the line of each query, without its end, with what it promises.
use Rattle.std.specs.Prelude.{◌≡◌, ℕ, true, false, List, ◌++◌, map, codes}
use Rattle.std.specs.Fmt.{decimal}
use Rattle.sessions.specs.TypeTerms.Promised.Erased.{erased_reference}
use Rattle.sessions.specs.TypeTerms.Promised.Proofs.{Every}
use Rattle.sessions.specs.TypeTerms.Promised.Renumbering.{renumbered_reference}
use Rattle.sessions.specs.Verdicts.{InEverySetWith}
use Rattle.sessions.specs.QuestionAnswers.{ProveAnswer, yes, maybe, unproved, RefuteAnswer, no, unrefuted}
use Rattle.sessions.specs.TextQuestions.{variable_kinds}
use Rattle.sessions.specs.TextLanguage.Promised.Declarations.{Declarations, Question}
use Rattle.sessions.specs.TextLanguage.Promised.PrintedTypes.{yes_values_text}
use Rattle.sessions.specs.Promised.Entailment.{Entails}
use Rattle.sessions.specs.Promised.Promises.{view_in, IsProved, IsRefutation}
use Rattle.sessions.specs.Promised.Together.{all_asked, filled_references}

-- What comes after `prove N: `.
abbrev pub proved_text : Declarations → Question → ProveAnswer → List ℕ
proved_text d q (yes ts) = codes "yes" ++ yes_values_text d q ts
proved_text d q unproved = codes "unproved"
proved_text d q (maybe ts) = codes "maybe" ++ yes_values_text d q ts

-- What comes after `refute N: `.
abbrev pub refuted_text : RefuteAnswer → List ℕ
refuted_text no = codes "no"
refuted_text unrefuted = codes "open"

-- In each linked set with the crate, the where-clauses of the query entail each of its trait references with the values of a `yes`.
abbrev pub IsEntailedInSets : Declarations → Question → ProveAnswer → Type 0
IsEntailedInSets d q (yes ts) =
    InEverySetWith (view_in d q.asker) q.asker (λ W ρ. Every (λ r. Entails W (map (renumbered_reference ρ) (map erased_reference q.clauses)) (renumbered_reference ρ r))
    (filled_references (variable_kinds q) ts (all_asked q)))
IsEntailedInSets d q a = Unit {0}

-- The line of query number n, counted from 1, writes an answer that is right.
pub data QuestionAnswer (limit : ℕ) (d : Declarations) (n : ℕ) (q : Question) : List ℕ → Type 0 where
  says_proved : (a : ProveAnswer) → q.is_refute ≡ false → IsProved limit d q a → IsEntailedInSets d q a
      → QuestionAnswer limit d n q (codes "prove " ++ decimal n ++ codes ": " ++ proved_text d q a)
  says_refuted : (a : RefuteAnswer) → q.is_refute ≡ true → IsRefutation limit d q a
      → QuestionAnswer limit d n q (codes "refute " ++ decimal n ++ codes ": " ++ refuted_text a)
