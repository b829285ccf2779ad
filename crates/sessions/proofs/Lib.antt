pub mod Basics
mod ClosedValues
pub mod GivenTexts
pub mod LeftViews
pub mod LeftSessions
pub mod ShortCalls
mod FramesStarted
mod ErasedWidths
mod FrameBounds
pub mod Clauses
pub mod Counts
pub mod ErasedClauses
pub mod Filled
pub mod Filling
pub mod Itself
pub mod Proved
pub mod Resolved
mod Fitting
mod Seeing
mod TextTerms
mod FormedTexts
mod FormedViews
mod QuestionTerms
mod BetterTerms
mod MadeInstances
mod ElaboratedClauses
mod TextQuestions
mod ReferenceGoals
mod AskedGoals
mod DirectRules
mod DirectWays
mod TextAnswers
mod PlainPremises
mod WithoutLifetimes
mod PlainProofs
mod SeenPlainly
mod LifetimesAlone
pub mod ExactRefusals
pub mod Given
pub mod Posed
pub mod VariableKinds
pub mod Refusals
pub mod SelfTypes
pub mod Alone
pub mod Keeping
mod SeenViews
pub mod Readying
mod PairTerms
pub mod PairGoals
pub mod OpenPairs
pub mod Mentioned
pub mod WrittenWell
pub mod RefutedGoals
pub mod PairRefusals
pub mod PairChecks
pub mod ImplNumbers
pub mod CratesAside
pub mod ProofsAside
pub mod ShownProofs
pub mod CheckedSubjects
mod DecidedAnswers
pub mod Answering
pub mod Answered
pub mod Posing
pub mod AnsweredTogether
pub mod Obligations
pub mod Unbound
pub mod SeveralAsked
pub mod ClausesApply
pub mod SolversClauses
pub mod RightAnswers
pub mod ProvedQuestions
mod BareAnswers
mod SizedAlone
mod CoveringValues
mod Instances
mod KeptSolutions
mod SolvedReferences
mod CoveringAnswers
mod ProvedTogether
mod RefutedTogether
mod Unsolved
mod OtherAnswers
pub mod OpaqueTerms
mod StrictSupertraits
pub mod OpaqueImpls
pub mod OpaqueFound
pub mod HeaderChecks
pub mod SupertraitAnswers
pub mod Partners
pub mod DeclaredTrees
pub mod CoveredClauses
mod RisingBounds
pub mod KeptTexts
mod RenumberedItems
pub mod JoinedTexts
pub mod OwnValues
pub mod HandedOn
pub mod Foreign
pub mod Entailment
pub mod LostImpls
pub mod CoherentTexts
mod ArrangedItems
mod AnsweredInOrder
mod AnsweredSets
pub mod LinkedTexts
pub mod WorkedSets
pub mod ScopedTexts
pub mod LaterChecks
pub mod FixedGoals
-- The crates below whose names the crates above need too: these list this crate alone.
pub use Rattle.candidate_assembly.proofs as CandidateAssembly
pub use Rattle.candidate_model.proofs as CandidateModel
pub use Rattle.declarations.proofs as Declarations
pub use Rattle.fulfillment.proofs as Fulfillment
pub use Rattle.infer_table.proofs as InferTable
pub use Rattle.overlap_check.proofs as OverlapCheck
pub use Rattle.proof_checker.proofs as ProofChecker
pub use Rattle.solver_graph.proofs as SolverGraph
pub use Rattle.text_language.proofs as TextLanguage
pub use Rattle.text_lines.proofs as TextLines
pub use Rattle.type_terms.proofs as TypeTerms
pub use Rattle.text_lowering.proofs as TextLowering
