-- The check of a crate, step by step: its headers first, then its pairs by the numbers of their impls. V is what the crate c sees.
use Rattle.std.specs.Prelude.{◌≡◌, ℕ, ◌<◌, Bool, true, false, List, Option, Some, None}
use Rattle.type_terms.specs.Promised.Worlds.{World, ImplDecl}
use Rattle.type_terms.specs.Promised.Proofs.{In}
use Rattle.type_terms.specs.Promised.Answers.{CommonInstance}
use Rattle.type_terms.specs.Promised.Handles.{Entry}
use Rattle.type_terms.specs.declared.ImplId.{ImplId}
use Rattle.type_terms.specs.declared.kinds.Ty.{Ty}
use Rattle.type_terms.specs.Promised.LinkedSet.{IsPair}
use Rattle.declarations.specs.Items.{Items, HeldImpl, declared}
use Rattle.declarations.specs.declared.items.ImplDef.{ImplDef}
use Rattle.declarations.specs.Promised.Elaboration.{Each}
use Rattle.overlap_check.specs.Headers.{IsIntersection, IsSolved, IsPosed, IsWithoutVariables}
use Rattle.orphan_check.specs.declared.errors.OrphanCheckErr.{OrphanCheckErr}
use Rattle.overlap_check.specs.Orphans.{AreWrittenWell, IsFirstError}
use Rattle.overlap_check.specs.Partners.{IsPairAt}
use Rattle.overlap_check.specs.SessionLaws.{IsPassed}
use Rattle.type_terms.specs.Promised.Verdicts.{IsOverlap}
use Rattle.overlap_check.specs.declared.intersection.ImplIntersection.{ImplIntersection}
use Rattle.pair_checks.specs.ByTrait.{ListsImpls, HavePartners}
use Rattle.pair_checks.specs.declared.by_trait.ImplsByTrait.{ImplsByTrait}
use Rattle.solver_graph.specs.declared.context.SolverCx.{SolverCx}
use Rattle.solver_graph.specs.Contexts.{entries_of, IsReady as IsReadyContext, Advances}
use Rattle.candidate_assembly.specs.declared.solver.Solver.{Solver}
use Rattle.candidate_assembly.specs.Fitting.{solving_of}
use Rattle.candidate_assembly.specs.Ready.{AreReadyDeclarations}
use Rattle.candidate_assembly.specs.Solving.{Solving}
use Rattle.sessions.specs.Promised.Promises.{view_in}
use Rattle.sessions.specs.Promised.Subjects.{Subject}

-- ---- the solver's context
-- The declarations that it solves by are ready, and all handles are its interner's.
abbrev pub IsReadySolver : SolverCx Solver → Type 0
IsReadySolver cx = IsReadyContext (λ (h : Solver) es. AreReadyDeclarations es h.declarations) cx

-- The context has grown, and stays ready.
abbrev pub SolverStaysReady : SolverCx Solver → SolverCx Solver → Type 0
SolverStaysReady old new = Advances (λ (h : Solver) es. AreReadyDeclarations es h.declarations) old new

-- What the context solves by.
abbrev pub solving_in : SolverCx Solver → Solving
solving_in cx = solving_of (entries_of cx) cx.handler.declarations

-- The world from which the context reads rules.
abbrev pub rules_in : SolverCx Solver → World
rules_in cx = declared (entries_of cx) cx.handler.declarations

-- Impls that are ready are as a text writes them, and hold no variables.
abbrev pub ReadyAreWritten : Type 0
ReadyAreWritten = (es : List Entry) (d : Items) → AreReadyDeclarations es d → AreWrittenWell es d × Each (λ (i : HeldImpl). IsWithoutVariables es i.def) d.impls

-- ---- numbers
-- A number is that of one impl alone.
abbrev pub HaveOwnNumbers : World → Type 0
HaveOwnNumbers V = (x y : ImplDecl) → In x V.impls → In y V.impls → x.name ≡ y.name → x ≡ y

-- ---- a pair
-- c brings this pair together, and these are the numbers of its impls.
pub record IsPairOf (V : World) (c k j : ℕ) (x y : ImplDecl) : Type 0 where
  pub pair : IsPair V c x y
  pub later : x.name ≡ k
  pub earlier : y.name ≡ j

-- No pair with these numbers has a common instance.
abbrev pub AreApartAt : World → ℕ → ℕ → ℕ → Type 0
AreApartAt V c k j = (x y : ImplDecl) → IsPairOf V c k j x y → CommonInstance x y → ⊥

-- The impls of these numbers are a pair of one trait, and this is what they have in common.
pub record IsFoundAt (old : List Entry) (d : Items) (k j : ImplId) (new : List Entry) (found : ImplIntersection) : Type 0 where
  pub later : ImplDef
  pub earlier : ImplDef
  pub pair : IsPairAt old d k j later earlier
  pub intersection : IsIntersection old later earlier new found
  pub solved : IsSolved old later earlier new found
  pub posed : IsPosed new found

-- The pair with these numbers, if there is one, is passed.
abbrev pub ArePassedAt : World → ℕ → ℕ → ℕ → Type 0
ArePassedAt V c k j = (x y : ImplDecl) → IsPairOf V c k j x y → IsPassed V c x y

-- What is stated of two numbers: their impls overlap, or the pair is passed.
abbrev pub IsJudgedAt : ℕ → World → ℕ → ℕ → ℕ → Bool → Type 0
IsJudgedAt limit V c k j true = IsOverlap limit V c k j
IsJudgedAt limit V c k j false = ArePassedAt V c k j

-- ---- all pairs, where the numbers of impls are below n
-- Impl number k overlaps with the one that was found. If none was, all its pairs are passed.
abbrev pub IsPartnerOf : ℕ → World → ℕ → ℕ → ℕ → Option ImplId → Type 0
IsPartnerOf limit V c n k None = (j : ℕ) → j < n → ArePassedAt V c k j
IsPartnerOf limit V c n k (Some j) = IsOverlap limit V c k j.index

-- The two that were found overlap. If none were, all pairs are passed.
abbrev pub IsFoundOverlap : ℕ → World → ℕ → ℕ → Option (ImplId × ImplId) → Type 0
IsFoundOverlap limit V c n None = (k j : ℕ) → k < n → j < n → ArePassedAt V c k j
IsFoundOverlap limit V c n (Some x) = IsOverlap limit V c x.0.index x.1.index

-- ---- the same of what a session asks about
abbrev pub ListsSeen : Subject → ImplsByTrait → Type 0
ListsSeen s m = ListsImpls (view_in s.declarations s.of_crate) s.of_crate m

abbrev pub HavePartnersSeen : Subject → ℕ → List ImplId → Type 0
HavePartnersSeen s k ids = HavePartners (view_in s.declarations s.of_crate) s.of_crate k ids

abbrev pub HasOrphan : Subject → List Entry → Option (ImplId × OrphanCheckErr Ty) → Type 0
HasOrphan s es o = IsFirstError (view_in s.declarations s.of_crate) s.of_crate es o

abbrev pub HasJudged : Subject → ℕ → ℕ → Bool → Type 0
HasJudged s k j b = IsJudgedAt s.depth (view_in s.declarations s.of_crate) s.of_crate k j b

abbrev pub HasPartner : Subject → ℕ → ℕ → Option ImplId → Type 0
HasPartner s n k o = IsPartnerOf s.depth (view_in s.declarations s.of_crate) s.of_crate n k o

abbrev pub HasOverlap : Subject → ℕ → Option (ImplId × ImplId) → Type 0
HasOverlap s n o = IsFoundOverlap s.depth (view_in s.declarations s.of_crate) s.of_crate n o
