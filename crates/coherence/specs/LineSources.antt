-- What the lines of a text are made of, while they are given one after the other.
use Rattle.std.specs.Prelude.{◌≡◌, ℕ, ◌+◌, ◌-◌, ◌≤◌, ◌<◌, Bool, false, length, Result, Ok, Err, IfSome}
use Rattle.text_parser.specs.TextNames.FaultNumbers.{fault_number}
use Rattle.sessions.specs.TextLanguage.Promised.Declarations.{Declarations}
use Rattle.sessions.specs.TextTables.Numbered.{IsNumbered, IsFew}
use Rattle.sessions.specs.SeenViews.{IsLeftView}
use Rattle.sessions.specs.Promised.Subjects.{IsOfText}
use Rattle.coherence.specs.Groups.{AreGroups}
use Rattle.coherence.specs.KeptLines.{KeepsLines}
use Rattle.coherence.specs.declared.kept.KeptLines.{KeptLines}
use Rattle.coherence.specs.declared.output_lines.LineCounts.{LineCounts}
use Rattle.coherence.specs.declared.output_lines.LineSource.{LineSource}
use Rattle.coherence.specs.declared.output_lines.LineSource.TheVariants.{Fault, Answers}
use Rattle.coherence.specs.declared.output_lines.TextAnswers.{TextAnswers}

abbrev pub text_of : LineSource → Result Declarations (ℕ × ℕ)
text_of (Fault f) = Err (f.line, fault_number f.kind)
text_of (Answers a) = Ok a.workspace

abbrev pub lines_given : LineCounts → ℕ
lines_given g = g.faults + g.crates + g.checks + g.questions

abbrev pub IsNoneGiven : LineCounts → Type 0
IsNoneGiven g = (g.faults ≡ 0) × (g.crates ≡ 0) × (g.checks ≡ 0) × (g.questions ≡ 0)

-- At most the line of the fault was given.
pub record IsGivenOfFault (g : LineCounts) : Type 0 where
  pub faults : g.faults ≤ 1
  pub crates : g.crates ≡ 0
  pub checks : g.checks ≡ 0
  pub questions : g.questions ≡ 0

-- Those of crates come first, then those of checks, and then those of queries.
pub record IsGivenInOrder (d : Declarations) (g : LineCounts) : Type 0 where
  pub faults : g.faults ≡ 0
  pub crates : g.crates ≤ length d.crates - 1
  pub checks : g.checks ≤ length d.checks
  pub questions : g.questions ≤ length d.questions
  pub after_crates : 0 < g.checks + g.questions → g.crates ≡ length d.crates - 1
  pub after_checks : 0 < g.questions → g.checks ≡ length d.checks

-- There is room for the line of each check and of each query.
pub record HasRoom (d : Declarations) (lines : KeptLines) : Type 0 where
  pub checks : length lines.checks.items ≡ length d.checks
  pub questions : length lines.questions.items ≡ length d.questions

-- n crates have their lines, and their checks and queries, and those of `core`, are answered. What is lowered, if anything is, is a crate's
-- view.
pub record KeepsAnswers (limit handles n : ℕ) (a : TextAnswers) : Type 0 where
  pub parsed : IsOfText a.workspace
  pub numbered : IsNumbered a.workspace
  pub few : IsFew a.workspace 67108928
  pub groups : AreGroups (length a.workspace.checks) (length a.workspace.questions) a.workspace a.groups.items
  pub kept : KeepsLines limit a.workspace (n + 1) a.kept
  pub view : IfSome a.view (IsLeftView a.workspace handles)

-- The lines that are left can be made. If one could not be made, only what was given is known.
abbrev pub HoldsLines : (limit handles : ℕ) → Bool → LineCounts → LineSource → Type 0
HoldsLines limit handles has_failed g (Fault f) = IsGivenOfFault g
HoldsLines limit handles has_failed g (Answers a) = IsGivenInOrder a.workspace g × (has_failed ≡ false → KeepsAnswers limit handles g.crates a)
