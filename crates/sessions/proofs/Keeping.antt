-- What is true of a session when it begins, and stays true.
use Rattle.std.proofs.Common.{◌≡◌, ◌-◌, ℕ, Bool, true, false, List, [], ◌∷◌, map, Option, None, Result, Ok, Err, refl, sym, ap, ◌∙◌, subst}
use Rattle.std.specs.Prelude.{IfOk, OnOk}
use Rattle.type_terms.specs.Promised.Answers.{is_bounded, is_possible}
use Rattle.type_terms.specs.Promised.Erased.{erased_world, erased_reference}
use Rattle.type_terms.specs.Promised.Worlds.{Reference}
use Rattle.type_terms.specs.Made.{terms as as_terms, is_made, is_in_range}
use Rattle.type_terms.specs.Promised.Questions.{IsRefuteAnswer, no, unrefuted}
use Rattle.type_terms.specs.declared.Fault.{Fault}
use Rattle.infer_table.specs.Responses.{AnswerTrees}
use Rattle.type_terms.specs.Promised.Handles.{Entry}
use Rattle.search_graph.specs.Cache.{AreJustified}
use Rattle.search_graph.specs.Meaning as Search
use Rattle.search_graph.specs.SearchState.{SearchState}
use Rattle.declarations.specs.Items.{Items, written, declared}
use Rattle.infer_table.specs.Canonical.{canonical_form}
use Rattle.goal_frames.specs.Stores.{limit_of}
use Rattle.goal_frames.specs.Handlers.{same_answer, applies_always}
use Rattle.solver_graph.specs.declared.context.SolverCx.{SolverCx}
use Rattle.solver_graph.specs.Contexts.{entries_of, IsReady as IsReadyContext, KeepsLimits}
use Rattle.solver_graph.specs.Evaluations.{IsFoundBySearch}
use Rattle.solver_graph.specs.Searching.{solver_meaning, of_limits}
use Rattle.text_language.specs.Promised.Declarations.{Declarations, Question}
use Rattle.text_lowering.specs.Promised.SeenWorlds.{plainly_seen_from, unbound_reference}
use Rattle.text_lowering.specs.Seen.{rules_seen_from}
use Rattle.candidate_assembly.specs.declared.solver.Solver.{Solver}
use Rattle.candidate_assembly.specs.Fitting.{solving_of}
use Rattle.candidate_assembly.specs.Ready.{AreReadyDeclarations}
use Rattle.candidate_assembly.specs.Solving.{Solving, solver_for, meaning_for}
use Rattle.text_lowering.specs.Ready.{AreSeen}
use Rattle.text_lowering.specs.Promised.Questions.{variable_kinds}
use Rattle.text_lowering.specs.QuestionVariables.{HasVariablesAlone, RefutationsHaveVariablesAlone}
use Rattle.goal_frames.specs.Meanings.{HandlerMeaning}
use Rattle.candidate_assembly.specs.SolverMeaning.{solver_by_view}
use Rattle.sessions.specs.declared.answers.RefuteAnswer.{RefuteAnswer}
use Rattle.sessions.specs.declared.answers.RefuteAnswer.TheVariants.{No, Open}
use Rattle.sessions.specs.Asking.{HasNoProof, IsLeftOpen, IsRefusedAlone, goal_alone, asked_alone}
use Rattle.sessions.specs.Promised.Given.{refutation_of}
use Rattle.sessions.specs.Promised.Promises.{view_in, IsRefutation}
use Rattle.sessions.specs.Promised.Together.{all_asked, AreRefuted}
use Rattle.sessions.specs.ProvingTogether.{AreRefused}
use Rattle.sessions.specs.Promises.{IsRefutedQuestion}
use Rattle.sessions.specs.Refusals.{session_meaning, IsToldPossible}
use Rattle.sessions.specs.Resting.{Cached, AreAtRest}
use Rattle.sessions.specs.Sessions.{SolverRests, SolvesView, IsSolvingOf, IsSession, HasLimits}
use Rattle.sessions.specs.Promised.Subjects.{AsksRefutation}
use Rattle.sessions.proofs.ExactRefusals.{refusals-are-exact, question-formed, closed-by}
use Rattle.sessions.proofs.LifetimesAlone.{refusal-is}
use Rattle.sessions.proofs.Refusals.{refuted, plain-erased}
use Rattle.sessions.proofs.SelfTypes.{self-types-begin}
use Rattle.sessions.proofs.GivenTexts.{text-given}
use Rattle.sessions.proofs.QuestionTerms.{AreFixedTerms}
use Rattle.sessions.proofs.RefutedTogether.{all-refuted, no-parameters, one-refuted}
use Rattle.sessions.proofs.RightAnswers.{none-more}
use Rattle.sessions.proofs.TextQuestions.{fixed}

-- limits that are kept are those that were given
pub limits-stay : (handles : ℕ) (c d : SolverCx Solver) → HasLimits handles c → KeepsLimits c d → HasLimits handles d
limits-stay handles c d h k = record { terms = k.terms ∙ h.terms; kept = k.kept ∙ h.kept }

-- ---- any handler
module _ {Handler : Type 0} (handler : HandlerMeaning Handler) where
  -- a search leaves the limits
  pub limits-searched : (c d : SolverCx Handler) → Search.KeepsContext (solver_meaning handler) c d → KeepsLimits c d
  limits-searched c d k = let same = k.held (of_limits c.interner.limit (limit_of c.store)) (refl, refl) in record { terms = same.0; kept = same.1 }

  pub resting-first : (n : ℕ) (c : SolverCx Handler) (s : SearchState) (ks : Cached) → s ≡ record { root_depth = n; current_depth = 0; frames = 0; limits_met = false; spent = 0 } → ks ≡ [] → IsReadyContext handler.IsReady c
      → AreAtRest handler n c s ks
  resting-first n c s ks e f r = record {
    empty = ap (λ (z : SearchState). z.current_depth) e;
    depth = ap (λ (z : SearchState). z.root_depth) e;
    cached = subst (AreJustified (solver_meaning handler) c) (sym f) tt;
    ready = r;
  }

-- ---- the solver's
-- its declarations are these over these terms
module _ (d : Declarations) (c : ℕ) (es : List Entry) (decls : Items) (cx : SolverCx Solver) (terms : entries_of cx ≡ es) (by : cx.handler.declarations ≡ decls) where
  written-by : written (entries_of cx) cx.handler.declarations ≡ written es decls
  written-by = ap (λ x. written x cx.handler.declarations) terms ∙ ap (written es) by

  pub solves-view : written es decls ≡ plainly_seen_from d c → declared es decls ≡ rules_seen_from d c → decls.local ≡ c → SolvesView d c cx
  solves-view w r l = record {
    written = written-by ∙ w;
    rules = ap erased_world written-by ∙ r;
    local = ap (λ (x : Items). x.local) by ∙ l;
  }

pub solves-seen : (d : Declarations) (c : ℕ) (es : List Entry) (decls : Items) (cx : SolverCx Solver) → entries_of cx ≡ es → cx.handler.declarations ≡ decls → AreSeen es decls d c → decls.local ≡ c
    → IsSolvingOf d c (solving_of (entries_of cx) cx.handler.declarations)
solves-seen d c es decls cx terms by seen l = record { entries = es; declarations = decls; seen = seen; local = l; is = ap (λ x. solving_of x cx.handler.declarations) terms ∙ ap (solving_of es) by }

pub solver-rests-first : (n : ℕ) (cx : SolverCx Solver) (s : SearchState) (ks : Cached) → s ≡ record { root_depth = n; current_depth = 0; frames = 0; limits_met = false; spent = 0 } → ks ≡ []
    → IsReadyContext (λ (h : Solver) es. AreReadyDeclarations es h.declarations) cx → SolverRests n cx s ks
solver-rests-first n cx s ks e f r =
    resting-first solver_by_view n cx s ks e f r

abbrev solved : SolverCx Solver → Solving
solved cx = solving_of (entries_of cx) cx.handler.declarations

module _ (d : Declarations) (c depth : ℕ) (cx : SolverCx Solver) (graph : SearchState) (cache : Cached) (is : IsSession d c depth cx graph cache) where
  -- a call that keeps what is solved keeps the session
  pub session-kept : (next : SolverCx Solver) (s : SearchState) (ks : Cached) → solved next ≡ solved cx → SolverRests graph.root_depth next s ks → IsSession d c depth next s ks
  session-kept next s ks e r = record {
    text = is.text;
    declared = is.declared;
    view = record {
      written = ap (λ (x : Solving). x.view) e ∙ is.view.written;
      rules = ap (λ (x : Solving). erased_world x.view) e ∙ is.view.rules;
      local = ap (λ (x : Solving). x.crate) e ∙ is.view.local;
    };
    solving = subst (IsSolvingOf d c) (sym e) is.solving;
    rest = record { empty = r.empty; depth = r.depth ∙ is.rest.depth; cached = r.cached; ready = r.ready };
  }

  pub session-rests : SolverRests graph.root_depth cx graph cache
  session-rests = record { empty = is.rest.empty; depth = refl; cached = is.rest.cached; ready = is.rest.ready }

  -- what is refused in coherence has no solution by the crate's view alone, nor in a linked set with the crate
  pub refused-is-refuted : RefutationsHaveVariablesAlone → (n : ℕ) (q : Question) → AsksRefutation d c n q → (HasVariablesAlone q → HasNoProof (solver_for (solved cx)) (goal_alone (unbound_reference q.asked))) → IsRefutedQuestion d q
  refused-is-refuted alone n q a h =
      let own : HasVariablesAlone q = alone is.text.0 d (text-given d is.text) (n - 1) q a.asks.question.there a.refutes in
      refuted applies_always same_answer d q own (meaning_for (solved cx) (canonical_form (goal_alone (unbound_reference q.asked)))) (is.view.rules ∙ ap (rules_seen_from d) (sym a.asks.asker)) (is.view.local ∙ sym a.asks.asker) (h own)
      (self-types-begin (entries_of cx) cx.handler.declarations is.rest.ready.handler.held)

  abbrev LeftOpen : ℕ → Question → Type 0
  LeftOpen n q =
      IsLeftOpen solver_by_view (solved cx) n (unbound_reference q.asked)

  -- ---- what is answered
  abbrev asked_of : Question → Reference
  asked_of q = unbound_reference q.asked

  abbrev Found : ℕ → Reference → Option AnswerTrees → Type 0
  Found n r a = IsFoundBySearch session_meaning (solved cx) n (asked_alone r) a

  -- what a call says of a question that it answers
  pub record IsAnswered (n : ℕ) (q : Question) (a : Result RefuteAnswer Fault) : Type 0 where
    pub made : OnOk a (is_made is_in_range as_terms (asked_of q).args ≡ true)
    pub no : a ≡ Ok No → q.further ≡ [] → HasVariablesAlone q → HasNoProof (solver_for (solved cx)) (goal_alone (asked_of q))
    pub refused : a ≡ Ok No → q.further ≡ []
        → IsRefusedAlone solver_by_view (solved cx) n (asked_of q)
    pub left : a ≡ Ok Open → q.further ≡ [] → LeftOpen n q
    pub together : a ≡ Ok No → (q.further ≡ [] → ⊥) → AreRefused solver_by_view (solved cx) n q

  module _ (alone : RefutationsHaveVariablesAlone) (n : ℕ) (q : Question) (a : AsksRefutation d c n q) where
    own-alone : HasVariablesAlone q
    own-alone = alone is.text.0 d (text-given d is.text) (n - 1) q a.asks.question.there a.refutes

    solves : IsSolvingOf d q.asker (solved cx)
    solves = subst (λ k. IsSolvingOf d k (solved cx)) (sym a.asks.asker) is.solving

    -- of a bounded reference it is told whether it is possible
    told-of : is_made is_in_range as_terms (asked_of q).args ≡ true → is_bounded depth (view_in d q.asker) q.asker (erased_reference (asked_of q)) ≡ true → IsToldPossible (solved cx) depth (view_in d q.asker) q.asker (asked_of q)
    told-of made bounded =
        refusals-are-exact d is.text q.asker (solved cx) solves (asked_of q)
        (question-formed d is.text n q a.asks.question own-alone made solves.entries solves.declarations solves.seen) depth bounded

    same-asked : erased_reference (asked_of q) ≡ erased_reference q.asked
    same-asked = ap (λ z. (let r : Reference = record { trait = q.asked.trait; args = z } in r)) (plain-erased q.asked.args)

    abbrev Bounded : Reference → Type 0
    Bounded r = is_bounded depth (view_in d q.asker) q.asker r ≡ true

    abbrev Possible : Reference → Bool → Type 0
    Possible r b = is_possible depth (view_in d q.asker) q.asker r ≡ b

    -- of one trait reference
    module _ (e : q.further ≡ []) where
      one-no : IsAnswered graph.root_depth q (Ok No) → IsRefuteAnswer depth (view_in d q.asker) q.asker (variable_kinds q) (erased_reference q.asked) no
      one-no h = (
        refused-is-refuted alone n q a (h.no refl e),
        λ b.
            let bounded = subst Bounded (sym same-asked) b in
            let x = h.refused refl e in
            let is_none = refusal-is x.table x.no_values (asked_of q) (closed-by depth (view_in d q.asker) q.asker (asked_of q) bounded) x.answer x.refused in
            subst (λ z. Possible z false) same-asked
            ((told-of h.made bounded).refused (subst (λ k. Found k (asked_of q) None) is.rest.depth (subst (Found graph.root_depth (asked_of q)) is_none x.found))),
      )

      one-open : IsAnswered graph.root_depth q (Ok Open) → IsRefuteAnswer depth (view_in d q.asker) q.asker (variable_kinds q) (erased_reference q.asked) unrefuted
      one-open h = λ b.
          let bounded = subst Bounded (sym same-asked) b in
          subst (λ z. Possible z true) same-asked ((told-of h.made bounded).left_open (subst (λ k. LeftOpen k q) is.rest.depth (h.left refl e)))

    -- of several
    terms-fixed : AreFixedTerms q
    terms-fixed = fixed is.text.0 d (text-given d is.text) (n - 1) q a.asks.question.there solves.entries solves.declarations solves.seen

    several-no : AreRefused solver_by_view (solved cx) graph.root_depth q → AreRefuted (view_in d q.asker) q.asker (variable_kinds q) (all_asked q) no
    several-no h =
        all-refuted d q.asker (solved cx) (is.view.rules ∙ ap (rules_seen_from d) (sym a.asks.asker)) (is.view.local ∙ sym a.asks.asker)
        (self-types-begin (entries_of cx) cx.handler.declarations is.rest.ready.handler.held) (variable_kinds q) (q.asked ∷ q.further) (terms-fixed.own, terms-fixed.further)
        (no-parameters (variable_kinds q) (q.asked ∷ q.further) own-alone) graph.root_depth h

    any-no : IsAnswered graph.root_depth q (Ok No) → AreRefuted (view_in d q.asker) q.asker (variable_kinds q) (all_asked q) no
    any-no h = by q.further refl
      where
        by : (rs : List Reference) → q.further ≡ rs → AreRefuted (view_in d q.asker) q.asker (variable_kinds q) (all_asked q) no
        by [] e =
            subst (λ rs. AreRefuted (view_in d q.asker) q.asker (variable_kinds q) (erased_reference q.asked ∷ map erased_reference rs) no) (sym e)
            (one-refuted (view_in d q.asker) q.asker (variable_kinds q) (erased_reference q.asked) (one-no e h).0)
        by (r ∷ rs) e = several-no (h.together refl (λ f. none-more r rs (sym e ∙ f)))

    said : (r : Result RefuteAnswer Fault) → IsAnswered graph.root_depth q r → IfOk r (λ x. IsRefutation depth d q (refutation_of x))
    said (Ok No) h = (any-no h, λ e. one-no e h)
    said (Ok Open) h = (tt, λ e. one-open e h)
    said (Err e) h = tt

  pub answered-exactly : RefutationsHaveVariablesAlone → (n : ℕ) (q : Question) → AsksRefutation d c n q → (r : Result RefuteAnswer Fault) → IsAnswered graph.root_depth q r → IfOk r (λ x. IsRefutation depth d q (refutation_of x))
  answered-exactly alone n q a r h = said alone n q a r h
