-- What a session answers to a `prove` question is right, by the laws on yes and on the other answers.
use Rattle.std.proofs.Common.{◌≡◌, ◌-◌, ◌∙◌, ℕ, List, [], ◌∷◌, Option, Some, Result, refl, sym, subst}
use Rattle.std.specs.Prelude.{IfOk, slice_get}
use Rattle.type_terms.specs.Promised.Handles.{Entry}
use Rattle.type_terms.specs.Promised.Worlds.{Reference}
use Rattle.type_terms.specs.declared.Fault.{Fault}
use Rattle.search_graph.specs.SearchState.{SearchState}
use Rattle.solver_graph.specs.Contexts.{entries_of}
use Rattle.solver_graph.specs.declared.context.SolverCx.{SolverCx}
use Rattle.text_language.specs.Promised.Declarations.{Declarations, Question}
use Rattle.text_lowering.specs.Promised.Questions.{IsQuestion}
use Rattle.candidate_assembly.specs.Fitting.{solving_of}
use Rattle.candidate_assembly.specs.Solving.{Solving}
use Rattle.candidate_assembly.specs.declared.solver.Solver.{Solver}
use Rattle.sessions.specs.Applying.{SolversClausesApply}
use Rattle.sessions.specs.DecidedAnswers.{OtherAnswersAreRight}
use Rattle.sessions.specs.Promised.Given.{answer_in}
use Rattle.sessions.specs.Promised.Promises.{IsProved}
use Rattle.sessions.specs.ProvedQuestions.{YesIsRight}
use Rattle.sessions.specs.ProvingTogether.{IsQuestionAnswered}
use Rattle.sessions.specs.TogetherLaws.{SeveralAreAnsweredRightly}
use Rattle.sessions.specs.Proving.{ClausesApply, IsAnsweredBySolver}
use Rattle.sessions.specs.Resting.{Cached}
use Rattle.sessions.specs.Sessions.{IsSolvingOf, IsSession}
use Rattle.sessions.specs.Promised.Subjects.{AsksProof}
use Rattle.sessions.specs.declared.answers.ProveAnswer.{ProveAnswer}
use Rattle.sessions.specs.declared.answers.ProveAnswer.TheVariants.{Yes, Maybe, Unproved}
use Rattle.sessions.proofs.Posing.{over-ok}

abbrev solved : SolverCx Solver → Solving
solved cx = solving_of (entries_of cx) cx.handler.declarations

pub none-more : (r : Reference) (rs : List Reference) → r ∷ rs ≡ [] → ⊥
none-more r rs e = cc

-- a number is that of one question alone
same-there : (o : Option Question) (p q : Question) → o ≡ Some p → o ≡ Some q → p ≡ q
same-there o p q e f = cc

same-question : (d : Declarations) (n : ℕ) (p q : Question) → IsQuestion d n p → IsQuestion d n q → p ≡ q
same-question d n p q g h = same-there (slice_get d.questions (n - 1)) p q g.there h.there

module _ (d : Declarations) (c depth : ℕ) (cx : SolverCx Solver) (graph : SearchState) (cache : Cached) (is : IsSession d c depth cx graph cache) (n : ℕ) where
  -- who asks solves by what it sees
  solves-for : (q : Question) → q.asker ≡ c → IsSolvingOf d q.asker (solved cx)
  solves-for q e = subst (λ k. IsSolvingOf d k (solved cx)) (sym e) is.solving

  pub is-asked : (q : Question) × AsksProof d c n q → (q : Question) × IsQuestion d n q
  is-asked (q, a) = (q, a.asks.question)

  pub clauses-apply : SolversClausesApply → (q : Question) × AsksProof d c n q → (q : Question) → IsQuestion d n q → ClausesApply cx.handler.declarations q
  clauses-apply law (p, a) q h =
      let same = same-question d n p q a.asks.question h in
      law d is.text n q h (entries_of cx) cx.handler.declarations (solves-for q (subst (λ (x : Question). x.asker ≡ c) same a.asks.asker))

  module _ (yes : YesIsRight) (others : OtherAnswersAreRight) (several : SeveralAreAnsweredRightly) (q : Question) (asks : AsksProof d c n q) (es : List Entry) where
    -- of one trait reference alone
    one-within : q.further ≡ [] → (a : ProveAnswer) → IsAnsweredBySolver (solved cx) graph.root_depth q es a → IsProved graph.root_depth d q (answer_in es a)
    one-within e (Yes values) h = yes d is.text n q asks.asks.question e (solved cx) (solves-for q asks.asks.asker) graph.root_depth graph.root_depth es values h
    one-within e Unproved h = (others d is.text n q asks.asks.question e (solved cx) (solves-for q asks.asks.asker) graph.root_depth es).0 h
    one-within e (Maybe values) h = (others d is.text n q asks.asks.question e (solved cx) (solves-for q asks.asks.asker) graph.root_depth es).1 values h

    right-within : (a : ProveAnswer) → IsQuestionAnswered (solved cx) graph.root_depth q es a → IsProved graph.root_depth d q (answer_in es a)
    right-within a h = by q.further refl
      where
        by : (rs : List Reference) → q.further ≡ rs → IsProved graph.root_depth d q (answer_in es a)
        by [] e = one-within e a (h.0 e)
        by (r ∷ rs) e =
            let more : q.further ≡ [] → ⊥ = λ f. none-more r rs (sym e ∙ f) in
            several d is.text n q asks.asks.question more (solved cx) (solves-for q asks.asks.asker) graph.root_depth graph.root_depth es a (h.1 more)

    pub answered-rightly : (r : Result ProveAnswer Fault) → IfOk r (λ a. (p : Question) → IsQuestion d n p → IsQuestionAnswered (solved cx) graph.root_depth p es a)
        → IfOk r (λ a. IsProved depth d q (answer_in es a))
    answered-rightly r h = over-ok r (λ a told. subst (λ k. IsProved k d q (answer_in es a)) is.rest.depth (right-within a (told q asks.asks.question))) h
