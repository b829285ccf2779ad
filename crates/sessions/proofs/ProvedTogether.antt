-- What an answer to a question about several trait references says of it is right.
use Rattle.std.specs.Global.{Vec}
use Rattle.std.proofs.Common.{◌≡◌, ◌-◌, ℕ, true, List, [], ◌∷◌, ◌++◌, map, sym, ap, ◌∙◌, subst}
use Rattle.type_terms.specs.Made.{terms, is_made}
use Rattle.type_terms.specs.Promised.Erased.{erased_reference}
use Rattle.type_terms.specs.Promised.Handles.{Entry, arg_trees}
use Rattle.type_terms.specs.declared.kinds.GenericArgKind.{GenericArgKind}
use Rattle.type_terms.specs.Promised.Label.{Sort, bool, value}
use Rattle.type_terms.specs.Promised.Proofs.{In, Every, HasProof}
use Rattle.type_terms.specs.Promised.Questions.{filled_reference, yes as answer_yes}
use Rattle.type_terms.specs.Promised.Trees.{Trees, erase}
use Rattle.type_terms.specs.Promised.Worlds.{World, Reference}
use Rattle.infer_table.specs.Canonical.{GoalTrees, HasNoCanonical}
use Rattle.infer_table.specs.Content.{Table, Ready, content}
use Rattle.infer_table.specs.Inputs.{IsWithoutCanonical}
use Rattle.infer_table.specs.Solutions.{Binding, resolved}
use Rattle.declarations.specs.Promised.Elaboration.{elaborate}
use Rattle.declarations.specs.Items.{Items, written}
use Rattle.candidate_assembly.specs.Fitting.{solving_of}
use Rattle.candidate_assembly.specs.Solving.{Solving}
use Rattle.candidate_assembly.specs.SolverMeaning.{solver_by_view}
use Rattle.text_language.specs.Names.{own_unknowns}
use Rattle.text_language.specs.Promised.Declarations.{Declarations, Question}
use Rattle.text_lowering.specs.Plain.{unbound_references}
use Rattle.text_lowering.specs.Promised.Questions.{IsQuestion, variable_kinds}
use Rattle.text_lowering.specs.Ready.{AreSeen}
use Rattle.sessions.specs.Fitting.{sorts_in}
use Rattle.sessions.specs.Goals.{goal_of}
use Rattle.sessions.specs.Promised.Given.{answer_in}
use Rattle.sessions.specs.Promised.OwnValues.{are_own, SpeakOfOwn}
use Rattle.sessions.specs.Promised.Promises.{IsProved, view_in}
use Rattle.sessions.specs.Promised.Subjects.{IsOfText}
use Rattle.sessions.specs.Promised.Together.{AreProved, all_asked, filled_references}
use Rattle.sessions.specs.ProvingTogether.{AreAnsweredBySolver, HaveAnswerValues, IsProvedWithValues, SpeakOfOwnTerms, goals_asking}
use Rattle.sessions.specs.Sessions.{IsSolvingOf}
use Rattle.sessions.specs.TogetherLaws.{SeveralAreAnsweredRightly}
use Rattle.sessions.specs.Values.{unknowns_from, unknowns_of, values_in}
use Rattle.sessions.specs.declared.answers.ProveAnswer as given
use Rattle.sessions.specs.declared.answers.ProveAnswer.TheVariants.{Yes, Maybe, Unproved}
use Rattle.sessions.proofs.ClosedValues.{bools-are, closed-each, closing, closing-solves, closed_value, closed-fit}
use Rattle.sessions.proofs.CoveringAnswers.{several-maybe-cover, several-unsolved, several-yes-cover}
use Rattle.sessions.proofs.ElaboratedClauses.{IsFormedClause}
use Rattle.sessions.proofs.Filled.{values-fill}
use Rattle.sessions.proofs.GivenTexts.{text-given}
use Rattle.sessions.proofs.ProvedQuestions.{asked-closed, asked-with, all-fixed, clauses-clean, clauses-erased, clean-own, closed-proof, each, good, over, own-are, own-there, proper-args, value-proof}
use Rattle.sessions.proofs.QuestionTerms.{AreFixedTerms, IsOwnReference, is_own}
use Rattle.sessions.proofs.TextQuestions.{fixed}

-- ---- trait references, proved with the values of one table under where-clauses
module _ (d : Declarations) (text : IsOfText d) (c : ℕ) (items : List Entry) (decls : Items) (seen : AreSeen items decls d c) (ks : List Sort) (E : List Reference)
    (formed : (x : Reference) → In x E → IsFormedClause (written items decls) (sorts_in decls) x) (fs : List Entry) (t : Table) (ready : Ready fs t) where
  abbrev W : World
  W = written items decls

  abbrev all : List Reference
  all = elaborate W E

  abbrev V : World
  V = view_in d c

  abbrev F : List Reference
  F = map erased_reference E

  -- the values of the table, and closed ones
  abbrev ts : List Trees
  ts = values_in (content fs t.values) ks

  abbrev closed_terms : List Trees
  closed_terms = map (closed_value fs t ready bool (value 0) bools-are) (unknowns_of ks)

  abbrev Proved : GoalTrees → Type 0
  Proved g = IsProvedWithValues solver_by_view (solving_of items decls) fs t g

  -- one of them
  module _ (r : Reference) (own : is_made (is_own ks) terms r.args ≡ true) (proved : Proved (goal_of all r)) where
    clean : HasNoCanonical r.args
    clean = clean-own ks r.args (good ks E r own)

    with-values : HasProof V F (filled_reference ks ts (erased_reference r))
    with-values =
        value-proof d text c items decls seen ks E r formed clean (proper-args ks E r own) (asked-with ks E r own all) (asked-closed ks E r own all) fs t ready proved.unbound proved.proved

    with-closed : HasProof V F (filled_reference ks closed_terms (erased_reference r))
    with-closed =
        closed-proof d text c items decls seen ks E r formed clean (proper-args ks E r own) (asked-with ks E r own all) (asked-closed ks E r own all) fs t ready bool (value 0) bools-are proved.unbound
        (proved.solved (closing fs t ready bool (value 0) bools-are) (closing-solves fs t ready bool (value 0) bools-are))

  -- all of them
  all-with : (rs : List Reference) → Every (λ r. is_made (is_own ks) terms r.args ≡ true) rs → Every Proved (map (goal_of all) rs) → Every (HasProof V F) (filled_references ks ts (map erased_reference rs))
  all-with [] own h = tt
  all-with (r ∷ rs) own h = (with-values r own.0 h.0, all-with rs own.1 h.1)

  all-closed : (rs : List Reference) → Every (λ r. is_made (is_own ks) terms r.args ≡ true) rs → Every Proved (map (goal_of all) rs)
      → Every (HasProof V F) (filled_references ks closed_terms (map erased_reference rs))
  all-closed [] own h = tt
  all-closed (r ∷ rs) own h = (with-closed r own.0 h.0, all-closed rs own.1 h.1)

  -- no canonical variable stands in their goals
  without : (r : Reference) → is_made (is_own ks) terms r.args ≡ true → IsWithoutCanonical (goal_of all r)
  without r own = record { environment = clauses-clean all (all-fixed d text c items decls seen ks E r formed); predicate = (clean-own ks r.args (good ks E r own), tt) }

  pub all-without : (rs : List Reference) → Every (λ r. is_made (is_own ks) terms r.args ≡ true) rs → Every IsWithoutCanonical (map (goal_of all) rs)
  all-without [] own = tt
  all-without (r ∷ rs) own = (without r own.0, all-without rs own.1)

  pub all-proved : (rs : List Reference) → Every (λ r. is_made (is_own ks) terms r.args ≡ true) rs → Every Proved (map (goal_of all) rs) → AreProved V ks F (map erased_reference rs) (answer_yes ts)
  all-proved rs own h = (
    (values-fill fs t ready ks).0,
    all-with rs own h,
    λ alone. record {
      values = closed_terms;
      fitting = closed-fit fs t ready bool (value 0) bools-are ks;
      closed = closed-each bool (value 0) bools-are (content fs t.values) (unknowns_of ks) alone;
      proved = all-closed rs own h;
    },
  )

-- ---- a question
module _ (d : Declarations) (text : IsOfText d) (n : ℕ) (q : Question) (is : IsQuestion d n q) (s : Solving) (of : IsSolvingOf d q.asker s) where
  abbrev kinds : List Sort
  kinds = variable_kinds q

  abbrev clauses : List Reference
  clauses = unbound_references q.clauses

  abbrev written_all : List Reference
  written_all = q.asked ∷ q.further

  abbrev U : World
  U = view_in d q.asker

  abbrev seen_as : World
  seen_as = written of.entries of.declarations

  terms-fixed : AreFixedTerms q
  terms-fixed = fixed text.0 d (text-given d text) (n - 1) q is.there of.entries of.declarations of.seen

  owns : Every (IsOwnReference kinds) written_all
  owns = (terms-fixed.own, terms-fixed.further)

  own-each : (rs : List Reference) → Every (IsOwnReference kinds) rs → Every (λ r. is_made (is_own kinds) terms r.args ≡ true) (unbound_references rs)
  own-each [] h = tt
  own-each (r ∷ rs) h = (h.0, own-each rs h.1)

  -- what is said of all of them, for the terms of the question
  as-written : (P : List Reference → List Reference → Type 0) → P (map erased_reference clauses) (map erased_reference (unbound_references written_all)) → P (map erased_reference q.clauses) (all_asked q)
  as-written P h = subst (λ E. P E (all_asked q)) (clauses-erased q.clauses) (subst (P (map erased_reference clauses)) (clauses-erased written_all) h)

  formed : (x : Reference) → In x clauses → IsFormedClause seen_as (sorts_in of.declarations) x
  formed = each d text n q is s of

  -- the values that a table gives are read off
  read-off : (bs : List Binding) (es : List Entry) (values : List GenericArgKind) → map (arg_trees es) values ≡ map (λ u. resolved bs u) (own_unknowns q) → values_in bs kinds ≡ map (λ v. erase (arg_trees es v)) values
  read-off bs es values e =
      sym (over (λ u. resolved bs u) erase (unknowns_from 0 0 kinds)) ∙ sym (ap (map erase) (e ∙ ap (map (λ u. resolved bs u)) (own-are 0 0 q.variables))) ∙ over (arg_trees es) erase values

  abbrev solving : Solving
  solving = solving_of of.entries of.declarations

  module _ (depth : ℕ) (es : List Entry) (values : Vec GenericArgKind) where
    abbrev answered : List Trees
    answered = map (λ v. erase (arg_trees es v)) values.items

    speak : SpeakOfOwnTerms solving q es values.items → SpeakOfOwn U (map erased_reference q.clauses) (all_asked q) answered
    speak h = λ _. ap (are_own U (all_asked q ++ map erased_reference q.clauses)) (sym (over (arg_trees es) erase values.items)) ∙ own-there d text n q is s of written_all (map (arg_trees es) values.items) h

    proved : HaveAnswerValues solver_by_view solving kinds (goals_asking seen_as q) (own_unknowns q) (map (arg_trees es) values.items) → AreProved U kinds (map erased_reference q.clauses) (all_asked q) (answer_yes answered)
    proved h =
        let x = h.found in
        let rs = unbound_references written_all in
        let own = own-each written_all owns in
        subst (λ ts. AreProved U kinds (map erased_reference q.clauses) (all_asked q) (answer_yes ts)) (read-off (content x.entries x.table.values) es values.items x.are)
        (as-written (λ E zs. AreProved U kinds E zs (answer_yes (values_in (content x.entries x.table.values) kinds)))
        (all-proved d text q.asker of.entries of.declarations of.seen kinds clauses formed x.entries x.table x.ready rs own
        (h.each (all-without d text q.asker of.entries of.declarations of.seen kinds clauses formed x.entries x.table x.ready rs own))))

  -- each answer is right
  module _ (several : q.further ≡ [] → ⊥) (limit depth : ℕ) (es : List Entry) where
    abbrev IsTold : given.ProveAnswer → Type 0
    IsTold a = AreAnsweredBySolver s depth q es a

    told : (a : given.ProveAnswer) → IsTold a → AreAnsweredBySolver solving depth q es a
    told a h = subst (λ (x : Solving). AreAnsweredBySolver x depth q es a) of.is h

    right : (a : given.ProveAnswer) → IsTold a → IsProved limit d q (answer_in es a)
    right (Yes values) h = (
      proved depth es values (told (Yes values) h).0,
      speak depth es values (told (Yes values) h).1,
      λ bare alone. several-yes-cover d text q s of owns es values h.0.found bare alone,
      λ e. absurd (several e),
    )
    right Unproved h = (tt, tt, λ bare alone sol. several-unsolved d text q s of owns depth h bare alone sol, λ e. absurd (several e))
    right (Maybe values) h = (
      tt,
      speak depth es values (told (Maybe values) h).1,
      λ alone. several-maybe-cover d text q s of owns es values h.0 h.2 alone,
      λ e. absurd (several e),
    )

pub several-are-answered-rightly : SeveralAreAnsweredRightly
several-are-answered-rightly d text n q is several s of limit depth es a h = right d text n q is s of several limit depth es a h
