pub mod Promised
pub mod Clauses
pub mod Laws
pub mod Proved
pub mod Tables
pub mod Values
pub mod Fitting
pub mod Views
pub mod Goals
pub mod Questions
pub mod Answers
pub mod Subjects
pub mod Resting
pub mod Sessions
pub mod SeenViews
pub mod LeftSessions
pub mod Frames
pub mod Readying
pub mod Numbers
pub mod Decided
pub mod Asking
pub mod Foreign
pub mod Promises
pub mod ScopedTexts
pub mod JoinedTexts
pub mod CoherentTexts
pub mod AnsweredSets
pub mod WorkedSets
pub mod Placeholders
pub mod Supertraits
pub mod Refusals
pub mod Later
pub mod PairGoals
pub mod OpenPairs
pub mod Checking
pub mod Proving
pub mod Applying
pub mod ProvedQuestions
pub mod ProvingTogether
pub mod TogetherLaws
pub mod DecidedAnswers
pub use Rattle.orphan_check.specs.Promised.Errors as HeldErrors
pub use Rattle.type_terms.specs.Promised.OrphanErrors
pub use Rattle.overlap_check.specs.Promised.Errors as ErrorTerms
pub use Rattle.type_terms.specs.Promised.Questions as QuestionAnswers
pub use Rattle.type_terms.specs.Promised.Verdicts
pub use Rattle.text_lowering.specs.Promised.Questions as TextQuestions
pub mod Shown
pub mod FixedGoals
-- The crates below whose names the crates above need too: these list this crate alone.
pub use Rattle.candidate_assembly.specs as CandidateAssembly
pub use Rattle.candidate_model.specs as CandidateModel
pub use Rattle.declarations.specs as Declarations
pub use Rattle.fulfillment.specs as Fulfillment
pub use Rattle.goal_evaluator.specs as GoalEvaluator
pub use Rattle.goal_frames.specs as GoalFrames
pub use Rattle.infer_table.specs as InferTable
pub use Rattle.orphan_check.specs as OrphanCheck
pub use Rattle.overlap_check.specs as OverlapCheck
pub use Rattle.pair_checks.specs as PairChecks
pub use Rattle.proof_checker.specs as ProofChecker
pub use Rattle.search_graph.specs as SearchGraph
pub use Rattle.solver_graph.specs as SolverGraph
pub use Rattle.term_folds.specs as TermFolds
pub use Rattle.text_language.specs as TextLanguage
pub use Rattle.text_lines.specs as TextLines
pub use Rattle.type_terms.specs as TypeTerms
pub use Rattle.text_lowering.specs as TextLowering
pub use Rattle.text_tables.specs as TextTables
