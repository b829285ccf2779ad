-- What a search in coherence leaves open is possible, and what it refuses is not.
use Rattle.std.proofs.Common.{◌≡◌, ◌+◌, ◌-◌, ℕ, Bool, true, false, not, ◌&&◌, ◌||◌, List, [], Option, Some, None, inl, inr, refl, sym, ◌∙◌, ap, subst}
use Rattle.type_terms.specs.Promised.Label.{Label, Sort, of_type, of_const, of_lifetime, param, infer, canonical, bound}
use Rattle.type_terms.specs.Promised.Erased.{erased_reference, erased_world}
use Rattle.type_terms.specs.Promised.Trees.{Trees, none, tree, erase, erase_label, some_node}
use Rattle.type_terms.specs.Promised.Worlds.{World, CrateDecl, Reference}
use Rattle.type_terms.specs.Promised.Answers.{is_open, is_closed, is_bounded, is_possible, written_in, short_chains}
use Rattle.type_terms.proofs.Fitting.{or-no, child-shut, next-shut}
use Rattle.type_terms.proofs.Members.{in-nothing}
use Rattle.type_terms.specs.Made.{terms, is_made, is_in_range}
use Rattle.type_terms.proofs.Made.{left, false-true}
use Rattle.type_terms.specs.Promised.Handles.{Entry}
use Rattle.infer_table.specs.Responses.{AnswerTrees}
use Rattle.infer_table.specs.declared.certainty.TypingMode.TheVariants.{Coherence}
use Rattle.declarations.specs.Items.{Items, written}
use Rattle.goal_frames.specs.declared.store.InputId.{InputId}
use Rattle.goal_frames.specs.declared.store.ResponseId.{ResponseId}
use Rattle.goal_frames.specs.declared.frame.GoalFrame.{GoalFrame}
use Rattle.goal_frames.specs.Searches.{Handles, GoalInMode}
use Rattle.goal_evaluator.specs.Tables.{frame_tables}
use Rattle.solver_graph.specs.declared.context.SolverCx.{SolverCx}
use Rattle.solver_graph.specs.Searching.{handles}
use Rattle.text_language.specs.Promised.Declarations.{Declarations, Question}
use Rattle.text_lowering.specs.Promised.SeenWorlds.{plain_label, plain, all_kept, unbound_reference}
use Rattle.text_lowering.specs.Promised.Questions.{IsQuestion}
use Rattle.text_lowering.specs.Promised.Questions.{variable_kinds}
use Rattle.text_lowering.specs.QuestionVariables.{is_undeclared_variable, HasVariablesAlone}
use Rattle.text_lowering.specs.Ready.{AreSeen}
use Rattle.candidate_model.specs.Meaning.{SelfTypesBegin}
use Rattle.candidate_assembly.specs.declared.solver.Solver.{Solver}
use Rattle.candidate_assembly.specs.Solving.{Solving}
use Rattle.solver_completeness.specs.FormedFacts.{Sorts, IsFormed, IsFormedView}
use Rattle.solver_completeness.specs.SolverAnswers.{TellsPossible}
use Rattle.candidate_model.specs.DeclaredWell.{IsDeclaredWell}
use Rattle.candidate_assembly.specs.SolverMeaning.{solver_by_view}
use Rattle.sessions.specs.Answers.{solver_goals, IsOnlyAnswer}
use Rattle.sessions.specs.Asking.{IsLeftOpen}
use Rattle.sessions.specs.Fitting.{sorts_in}
use Rattle.sessions.specs.Goals.{goal_of, is_fixed, stands_free, HasFormedTerms, IsFormedQuestion}
use Rattle.sessions.specs.Promised.Promises.{view_in}
use Rattle.sessions.specs.Refusals.{IsToldPossible, RefusalsAreExact}
use Rattle.sessions.specs.Sessions.{IsSolvingOf}
use Rattle.sessions.specs.Promised.Subjects.{IsOfText}
use Rattle.sessions.proofs.BetterTerms.{all-better}
use Rattle.sessions.proofs.AskedGoals.{formed-reference}
use Rattle.sessions.proofs.SeenPlainly.{rules-are, seen-begin, seen-erased}
use Rattle.sessions.proofs.TextAnswers.{well, formed, told-possible}
use Rattle.sessions.proofs.TextQuestions.{question-fits}
use Rattle.sessions.proofs.WithoutLifetimes.{FieldsAreErased, erased-is, bounded-same, possible-same}
use Rattle.sessions.proofs.GivenTexts.{text-given}
use Rattle.type_terms.proofs.Matching.{or-false-left as no-left}
use Rattle.type_terms.proofs.NumberBasics.{itself, one-more}
use Rattle.infer_table.proofs.TypeBasics.{some-answer}

-- ---- of a closed reference no type and no constant is open
fixed-label : (l : Label) → stands_free l ≡ true → is_open (erase_label l) ≡ false → is_fixed l ≡ true
fixed-label (param of_type i) f e = absurd (false-true (sym e))
fixed-label (param of_const i) f e = absurd (false-true (sym e))
fixed-label (param of_lifetime i) f e = refl
fixed-label (infer of_type i) f e = absurd (false-true (sym e))
fixed-label (infer of_const i) f e = absurd (false-true (sym e))
fixed-label (infer of_lifetime i) f e = refl
fixed-label (canonical k i) f e = absurd (false-true f)
fixed-label (bound k j i) f e = absurd (false-true f)
fixed-label l f e = refl

-- up to lifetimes no label is open if none is so without its lifetime
open-erased : (t : Trees) → some_node is_open (erase t) ≡ some_node (λ l. is_open (erase_label l)) t
open-erased none = refl
open-erased (tree l c o) =
    ap (λ b. is_open (erase_label l) || b || some_node is_open (erase o)) (open-erased c) ∙ ap (λ b. is_open (erase_label l) || some_node (λ m. is_open (erase_label m)) c || b) (open-erased o)

pub not-so : (b : Bool) → not b ≡ true → b ≡ false
not-so false e = refl
not-so true e = absurd (false-true e)

-- a bounded reference is closed
pub closed-by : (depth : ℕ) (V : World) (c : ℕ) (r : Reference) → is_bounded depth V c (erased_reference r) ≡ true → some_node is_open (erase r.args) ≡ false
closed-by depth V c r b = not-so (some_node is_open (erase r.args)) (left (is_closed (erase r.args)) (written_in V (erased_reference r) && short_chains depth V c (erased_reference r)) b)

-- such a reference is a formed question
pub closed-question : (V : World) (sorts : Sorts) (r : Reference) → HasFormedTerms V sorts r → is_closed (erase r.args) ≡ true → IsFormedQuestion V sorts [] r
closed-question V sorts r h e = record {
  terms = all-better stands_free is_fixed (λ l. is_open (erase_label l)) fixed-label terms r.args h.terms (sym (open-erased r.args) ∙ not-so (some_node is_open (erase r.args)) e);
  nodes = h.nodes;
  trait = h.trait;
  clauses = refl;
  elaborated = λ x t i j. absurd (in-nothing x i);
}

-- ---- the search of a session
abbrev session_handles : Handles (SolverCx Solver) InputId (Option ResponseId) GoalFrame Solving (GoalInMode frame_tables solver_goals) (Option AnswerTrees)
session_handles = handles solver_by_view

abbrev with_crates : World → List CrateDecl → World
with_crates W cs = record W { crates = cs }

module _ (d : Declarations) (text : IsOfText d) (c : ℕ) (s : Solving) (of : IsSolvingOf d c s) (r : Reference) (h : HasFormedTerms (written of.entries of.declarations) (sorts_in of.declarations) r) (depth : ℕ)
    (bounded : is_bounded depth (view_in d c) c (erased_reference r) ≡ true) where
  abbrev es : List Entry
  es = of.entries

  abbrev decls : Items
  decls = of.declarations

  abbrev V : World
  V = written es decls

  abbrev sorts : Sorts
  sorts = sorts_in decls

  abbrev q : Reference
  q = erased_reference r

  well-declared : IsDeclaredWell V
  well-declared = well session_handles text.0 d (text-given d text) c es decls of.seen

  well-formed : IsFormedView V sorts
  well-formed = formed session_handles text.0 d (text-given d text) c es decls of.seen

  begin : SelfTypesBegin V
  begin = subst SelfTypesBegin (sym of.seen.written) (seen-begin text.0 d (text-given d text) c)

  erased : FieldsAreErased V
  erased = subst FieldsAreErased (sym of.seen.written) (seen-erased d c)

  -- by what the crate sees, without lifetimes and as it is written
  view-is : view_in d c ≡ with_crates (erased_world V) (view_in d c).crates
  view-is = ap (λ W. with_crates W (view_in d c).crates) (sym (rules-are es decls d c of.seen.written))

  question : IsFormedQuestion V sorts [] r
  question = closed-question V sorts r h (left (is_closed q.args) (written_in (view_in d c) q && short_chains depth (view_in d c) c q) bounded)

  good : IsFormed V sorts q
  good = formed-reference V sorts [] r question

  bounded-there : is_bounded depth V c q ≡ true
  bounded-there =
      sym (bounded-same V well-declared begin erased (view_in d c).crates depth c q good.args.plain)
      ∙ ap (λ W. is_bounded depth W c q) (sym (view-is ∙ erased-is V well-declared (view_in d c).crates)) ∙ bounded

  possible-there : is_possible depth (view_in d c) c q ≡ is_possible depth V c q
  possible-there =
      ap (λ W. is_possible depth W c q) (view-is ∙ erased-is V well-declared (view_in d c).crates) ∙ possible-same V well-declared begin erased (view_in d c).crates depth c q good.args.plain

  -- what is the only answer within the depth tells what is possible
  tells : (a : Option AnswerTrees) → IsOnlyAnswer session_handles s Coherence (depth + 1) (goal_of [] r) a → TellsPossible V c depth q a
  tells a only =
      subst (λ n. TellsPossible V n depth q a) of.local
      (told-possible session_handles text.0 d (text-given d text) c es decls of.seen r question depth (depth + 1) (one-more depth) (ap (λ n. is_bounded depth V n q) of.local ∙ bounded-there) a
      (subst (λ (x : Solving). IsOnlyAnswer session_handles x Coherence (depth + 1) (goal_of [] r) a) of.is only))

  told : IsToldPossible s depth (view_in d c) c r
  told = record { left_open = by; refused = λ f. possible-there ∙ (tells None f.plain).refused refl }
    where
      by : IsLeftOpen solver_by_view s depth r
          → is_possible depth (view_in d c) c q ≡ true
      by (inl x) = possible-there ∙ (tells (Some x.0) x.1.plain).answered x.0 refl
      by (inr none_plain) = possible-there ∙ (tells (Some some-answer) (λ b p. absurd (none_plain (depth + 1) b (itself (depth + 1)) p))).answered some-answer refl

pub refusals-are-exact : RefusalsAreExact
refusals-are-exact d text c s of r h depth bounded = told d text c s of r h depth bounded

-- ---- questions
module _ (ks : List Sort) where
  abbrev is_unfree : Label → Bool
  is_unfree l = not (stands_free l)

  free-label : (l : Label) → is_undeclared_variable ks (plain_label all_kept l) ≡ false → is_unfree (plain_label all_kept l) ≡ false
  free-label (bound of_lifetime j i) e = refl
  free-label (bound of_type j i) e = absurd (false-true (sym e))
  free-label (bound of_const j i) e = absurd (false-true (sym e))
  free-label (canonical s i) e = absurd (false-true (sym e))
  free-label (param of_lifetime i) e = refl
  free-label (param of_type i) e = refl
  free-label (param of_const i) e = refl
  free-label l e = refl

  free-terms : (t : Trees) → some_node (is_undeclared_variable ks) (plain all_kept t) ≡ false → some_node is_unfree (plain all_kept t) ≡ false
  free-terms none e = refl
  free-terms (tree l c o) e =
      let m = plain_label all_kept l in
      let x = plain all_kept c in
      let y = plain all_kept o in
      or-no (is_unfree m || some_node is_unfree x) (some_node is_unfree y)
      (or-no (is_unfree m) (some_node is_unfree x) (free-label l (no-left (is_undeclared_variable ks m) (some_node (is_undeclared_variable ks) x) (no-left (is_undeclared_variable ks m || some_node (is_undeclared_variable ks) x) (some_node (is_undeclared_variable ks) y) e)))
      (free-terms c (child-shut (is_undeclared_variable ks) m x y e)))
      (free-terms o (next-shut (is_undeclared_variable ks) m x y e))

  both-free : (l : Label) → is_in_range l ≡ true → is_unfree l ≡ false → stands_free l ≡ true
  both-free l h e = by (stands_free l) e
    where
      by : (b : Bool) → not b ≡ false → b ≡ true
      by true g = refl
      by false g = absurd (false-true (sym g))

-- the reference of a question, whose terms are an interner's
pub question-formed : (d : Declarations) → IsOfText d → (n : ℕ) (q : Question) → IsQuestion d n q → HasVariablesAlone q → is_made is_in_range terms (unbound_reference q.asked).args ≡ true
    → (es : List Entry) (decls : Items) → AreSeen es decls d q.asker → HasFormedTerms (written es decls) (sorts_in decls) (unbound_reference q.asked)
question-formed d text n q is alone made es decls seen =
    let fit = question-fits text.0 d (text-given d text) (n - 1) q is.there es decls seen in
    record {
      terms = all-better is_in_range stands_free (is_unfree (variable_kinds q)) (both-free (variable_kinds q)) terms (unbound_reference q.asked).args made (free-terms (variable_kinds q) q.asked.args alone.0);
      nodes = fit.nodes;
      trait = fit.trait;
    }
