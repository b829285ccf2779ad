-- Decided references are answered rightly by the search of a session.
use Rattle.std.proofs.Common.{◌≡◌, ◌+◌, ◌-◌, ℕ, IsTrue, Bool, true, false, not, List, map, Option, Some, None, inl, inr, refl, sym, ◌∙◌, ap, subst}
use Rattle.type_terms.specs.Promised.Answers.{SingleWay, IsUnambiguous, is_variable}
use Rattle.type_terms.specs.Promised.Erased.{erased_reference}
use Rattle.type_terms.specs.Promised.Proofs.{HasProof}
use Rattle.type_terms.specs.Promised.Trees.{erase, some_node}
use Rattle.type_terms.specs.Promised.Worlds.{World, CrateDecl, Reference}
use Rattle.type_terms.specs.Promised.Handles.{Entry}
use Rattle.infer_table.specs.Responses.{AnswerTrees}
use Rattle.infer_table.specs.declared.certainty.TypingMode.TheVariants.{PostAnalysis}
use Rattle.declarations.specs.Promised.Elaboration.{elaborate}
use Rattle.declarations.specs.Items.{Items, written}
use Rattle.goal_frames.specs.declared.store.InputId.{InputId}
use Rattle.goal_frames.specs.declared.store.ResponseId.{ResponseId}
use Rattle.goal_frames.specs.declared.frame.GoalFrame.{GoalFrame}
use Rattle.goal_frames.specs.Searches.{Handles, GoalInMode}
use Rattle.goal_evaluator.specs.Law.{IsYes}
use Rattle.goal_evaluator.specs.Tables.{frame_tables}
use Rattle.solver_graph.specs.declared.context.SolverCx.{SolverCx}
use Rattle.solver_graph.specs.Searching.{handles}
use Rattle.text_language.specs.Promised.Declarations.{Declarations, Question}
use Rattle.text_lowering.specs.Promised.SeenWorlds.{all_kept, plain_reference, unbound_reference}
use Rattle.text_lowering.specs.Plain.{unbound_references}
use Rattle.text_lowering.specs.Promised.Questions.{IsQuestion}
use Rattle.candidate_model.specs.Meaning.{SelfTypesBegin}
use Rattle.candidate_model.proofs.ErasedCandidates.{without_lifetimes}
use Rattle.candidate_assembly.specs.declared.solver.Solver.{Solver}
use Rattle.candidate_assembly.specs.Solving.{Solving}
use Rattle.candidate_assembly.specs.SolverMeaning.{solver_by_view}
use Rattle.sessions.specs.Answers.{solver_goals, IsOnlyAnswer, IsRightOf, TellsProof}
use Rattle.sessions.specs.Decided.{IsAnsweredRightly, DecidedAreAnswered, IsAnsweredExactly, ShortAreAnswered, IsQuestionAnswered, DecidedQuestionsAreAnswered}
use Rattle.sessions.specs.Fitting.{sorts_in}
use Rattle.sessions.specs.Goals.{goal_of}
use Rattle.sessions.specs.Promised.Promises.{EndsWithin, HasFewRules, view_in}
use Rattle.sessions.specs.Questions.{IsFormedAsWritten}
use Rattle.sessions.specs.Sessions.{IsSolvingOf}
use Rattle.sessions.specs.Promised.Subjects.{IsOfText}
use Rattle.sessions.proofs.SeenPlainly.{plain-erased, map-again, reference-erased, rules-are, seen-begin}
use Rattle.sessions.proofs.TextAnswers.{well, answered-by-view, told-by-view, sure-by-view}
use Rattle.sessions.proofs.TextQuestions.{written-if-closed}
use Rattle.sessions.proofs.WithoutLifetimes.{erased-is}
use Rattle.sessions.proofs.GivenTexts.{text-given}
use Rattle.type_terms.proofs.NumberBasics.{itself, one-more}
use Rattle.infer_table.proofs.TypeBasics.{some-answer}

-- the search of a session
abbrev session_handles : Handles (SolverCx Solver) InputId (Option ResponseId) GoalFrame Solving (GoalInMode frame_tables solver_goals) (Option AnswerTrees)
session_handles = handles solver_by_view

abbrev with_crates : World → List CrateDecl → World
with_crates W cs = record W { crates = cs }

-- both a yes and a refusal are never right
not-both-right : (V : World) (E : List Reference) (r : Reference) → IsRightOf V E r (Some some-answer) → IsRightOf V E r None → ⊥
not-both-right V E r (inl x) (inl y) = y.1
not-both-right V E r (inl x) (inr y) = y.0 x.0
not-both-right V E r (inr x) y = absurd (some-none some-answer x.1)
  where
    some-none : (z : AnswerTrees) → Some z ≡ None → ⊥
    some-none z e = cc

module _ (d : Declarations) (text : IsOfText d) (c : ℕ) (s : Solving) (of : IsSolvingOf d c s) (E : List Reference) (r : Reference)
    (q : IsFormedAsWritten (written of.entries of.declarations) (sorts_in of.declarations) E r) (depth : ℕ) (single : SingleWay depth (view_in d c) (map erased_reference E) (erased_reference r)) where
  abbrev es : List Entry
  es = of.entries

  abbrev decls : Items
  decls = of.declarations

  abbrev V : World
  V = written es decls

  abbrev cs : List CrateDecl
  cs = (view_in d c).crates

  begin : SelfTypesBegin V
  begin = subst SelfTypesBegin (sym of.seen.written) (seen-begin text.0 d (text-given d text) c)

  -- by what the crate sees, without lifetimes and as it is written
  view-is : view_in d c ≡ without_lifetimes V cs
  view-is =
      ap (λ W. with_crates W cs) (sym (rules-are es decls d c of.seen.written))
      ∙ erased-is V (well session_handles text.0 d (text-given d text) c es decls of.seen) cs

  abbrev own : List Reference
  own = map erased_reference E

  only-right : (a : Option AnswerTrees) → IsOnlyAnswer session_handles s PostAnalysis (depth + 1) (goal_of (elaborate s.view E) r) a → IsRightOf (view_in d c) own (erased_reference r) a
  only-right a only =
      subst (λ W. IsRightOf W own (erased_reference r) a) (sym view-is)
      (answered-by-view session_handles text.0 d (text-given d text) c es decls of.seen begin cs E r q depth (depth + 1) (one-more depth) (subst (λ W. SingleWay depth W own (erased_reference r)) view-is single) a
      (subst (λ (x : Solving). IsOnlyAnswer session_handles x PostAnalysis (depth + 1) (goal_of (elaborate x.view E) r) a) of.is only))

  answered : IsAnsweredRightly s depth (view_in d c) E r
  answered = record {
    plainly = λ none_plain.
        not-both-right (view_in d c) own (erased_reference r) (only-right (Some some-answer) (λ b p. absurd (none_plain (depth + 1) b (itself (depth + 1)) p)))
        (only-right None (λ b p. absurd (none_plain (depth + 1) b (itself (depth + 1)) p)));
    found = λ a f. only-right a f.plain;
  }

pub decided-are-answered : DecidedAreAnswered
decided-are-answered d text c s of E r q depth single = answered d text c s of E r q depth single

-- ---- what has short chains
-- both a refusal and another answer never tell the same
not-both-told : (P : Type 0) → TellsProof P (Some some-answer) → TellsProof P None → ⊥
not-both-told P (p, bare) never = never p

module _ (d : Declarations) (text : IsOfText d) (c : ℕ) (s : Solving) (of : IsSolvingOf d c s) (E : List Reference) (r : Reference)
    (q : IsFormedAsWritten (written of.entries of.declarations) (sorts_in of.declarations) E r) (depth : ℕ) (short : EndsWithin depth (view_in d c) (map erased_reference E) (erased_reference r)) where
  abbrev its_view : World
  its_view = written of.entries of.declarations

  abbrev its_crates : List CrateDecl
  its_crates = (view_in d c).crates

  begins : SelfTypesBegin its_view
  begins = subst SelfTypesBegin (sym of.seen.written) (seen-begin text.0 d (text-given d text) c)

  view-so : view_in d c ≡ without_lifetimes its_view its_crates
  view-so =
      ap (λ W. with_crates W its_crates) (sym (rules-are of.entries of.declarations d c of.seen.written))
      ∙ erased-is its_view (well session_handles text.0 d (text-given d text) c of.entries of.declarations of.seen) its_crates

  abbrev written_clauses : List Reference
  written_clauses = map erased_reference E

  abbrev Only : Option AnswerTrees → Type 0
  Only a = IsOnlyAnswer session_handles s PostAnalysis (depth + 1) (goal_of (elaborate s.view E) r) a

  abbrev OnlyBy : Solving → Option AnswerTrees → Type 0
  OnlyBy x a = IsOnlyAnswer session_handles x PostAnalysis (depth + 1) (goal_of (elaborate x.view E) r) a

  only-told : (a : Option AnswerTrees) → Only a → TellsProof (HasProof (view_in d c) written_clauses (erased_reference r)) a
  only-told a only =
      subst (λ W. TellsProof (HasProof W written_clauses (erased_reference r)) a) (sym view-so)
      (told-by-view session_handles text.0 d (text-given d text) c of.entries of.declarations of.seen begins its_crates E r q depth (depth + 1) (one-more depth)
      (subst (λ W. EndsWithin depth W written_clauses (erased_reference r)) view-so short) a (subst (λ (x : Solving). OnlyBy x a) of.is only))

  only-sure : HasFewRules depth (view_in d c) written_clauses (erased_reference r) → (a : AnswerTrees) → Only (Some a) → IsYes frame_tables (Some a)
  only-sure few a only =
      sure-by-view session_handles text.0 d (text-given d text) c of.entries of.declarations of.seen begins its_crates E r q depth (depth + 1) (one-more depth)
      (subst (λ W. HasFewRules depth W written_clauses (erased_reference r)) view-so few) (Some a) (subst (λ (x : Solving). OnlyBy x (Some a)) of.is only) a refl

  exactly : IsAnsweredExactly s depth (view_in d c) E r
  exactly = record {
    plainly = λ none_plain.
        not-both-told (HasProof (view_in d c) written_clauses (erased_reference r)) (only-told (Some some-answer) (λ b p. absurd (none_plain (depth + 1) b (itself (depth + 1)) p)))
        (only-told None (λ b p. absurd (none_plain (depth + 1) b (itself (depth + 1)) p)));
    found = λ a f. only-told a f.plain;
    sure = λ few a f. only-sure few a f.plain;
  }

pub short-are-answered : ShortAreAnswered
short-are-answered d text c s of E r q depth short = exactly d text c s of E r q depth short

-- ---- questions of a text
not-so : (b : Bool) → not b ≡ true → b ≡ false
not-so false e = refl
not-so true e = absurd cc

module _ (d : Declarations) (text : IsOfText d) (n : ℕ) (q : Question) (is : IsQuestion d n q) (s : Solving) (of : IsSolvingOf d q.asker s)
    (closed : IsTrue (not (some_node is_variable (erase q.asked.args)))) where
  abbrev asked : Reference
  asked = unbound_reference q.asked

  abbrev clauses : List Reference
  clauses = unbound_references q.clauses

  pub asked-is : erased_reference asked ≡ erased_reference q.asked
  asked-is = reference-erased all_kept q.asked

  pub clauses-are : map erased_reference clauses ≡ map erased_reference q.clauses
  clauses-are = map-again (plain_reference all_kept) erased_reference (reference-erased all_kept) q.clauses

  pub formed-so : IsFormedAsWritten (written of.entries of.declarations) (sorts_in of.declarations) clauses asked
  formed-so =
      written-if-closed text.0 d (text-given d text) (n - 1) q is.there of.entries of.declarations of.seen
      (ap (some_node is_variable) (plain-erased all_kept q.asked.args) ∙ not-so (some_node is_variable (erase q.asked.args)) closed)

  -- of its terms without binders, up to lifetimes
  pub as-asked : (P : List Reference → Reference → Type 0) → P (map erased_reference q.clauses) (erased_reference q.asked) → P (map erased_reference clauses) (erased_reference asked)
  as-asked P h = subst (λ E. P E (erased_reference asked)) (sym clauses-are) (subst (P (map erased_reference q.clauses)) (sym asked-is) h)

  pub as-written : (P : List Reference → Reference → Type 0) → P (map erased_reference clauses) (erased_reference asked) → P (map erased_reference q.clauses) (erased_reference q.asked)
  as-written P h = subst (λ E. P E (erased_reference q.asked)) clauses-are (subst (P (map erased_reference clauses)) asked-is h)

module _ (d : Declarations) (text : IsOfText d) (n : ℕ) (q : Question) (is : IsQuestion d n q) (s : Solving) (of : IsSolvingOf d q.asker s) (depth : ℕ)
    (decided : IsUnambiguous depth (view_in d q.asker) (map erased_reference q.clauses) (erased_reference q.asked)) where
  pub single : SingleWay depth (view_in d q.asker) (map erased_reference (unbound_references q.clauses)) (erased_reference (unbound_reference q.asked))
  single = as-asked d text n q is s of decided.0 (λ E r. SingleWay depth (view_in d q.asker) E r) decided.1

  right : IsAnsweredRightly s depth (view_in d q.asker) (unbound_references q.clauses) (unbound_reference q.asked)
  right = decided-are-answered d text q.asker s of (unbound_references q.clauses) (unbound_reference q.asked) (formed-so d text n q is s of decided.0) depth single

  question : IsQuestionAnswered s depth (view_in d q.asker) q
  question = record {
    plainly = right.plainly;
    found = λ a f. as-written d text n q is s of decided.0 (λ E r. IsRightOf (view_in d q.asker) E r a) (right.found a f);
  }

pub decided-questions-are-answered : DecidedQuestionsAreAnswered
decided-questions-are-answered d text n q is s of depth decided = question d text n q is s of depth decided
