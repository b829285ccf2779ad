-- A question of a text without a fault is formed, if it has no variables, also under its where-clauses with all their supertraits.
use Rattle.std.proofs.Common.{◌≡◌, ◌-◌, ℕ, zero, suc, true, false, ◌||◌, refl, List, [], ◌∷◌, Some, Ok, sym, ◌∙◌, ap, subst}
use Rattle.std.proofs.lemmas.Option.{same_Some}
use Rattle.std.specs.Prelude.{slice_get}
use Rattle.type_terms.specs.Promised.Answers.{is_variable}
use Rattle.type_terms.specs.Promised.Label.{Label, Sort, of_type, of_const, of_lifetime, infer}
use Rattle.type_terms.specs.Promised.Proofs.{In}
use Rattle.type_terms.specs.Promised.Trees.{Trees, none, tree, erase, erase_label, some_node}
use Rattle.type_terms.specs.Promised.Worlds.{World, Reference}
use Rattle.type_terms.proofs.NoHolds.{member-each}
use Rattle.type_terms.specs.Made.{terms}
use Rattle.type_terms.specs.Promised.Handles.{Entry}
use Rattle.type_terms.proofs.Made.{false-true}
use Rattle.declarations.specs.Promised.Elaboration.{elaborate}
use Rattle.declarations.specs.Items.{Items, written, reference_in}
use Rattle.declarations.specs.Promised.Elaboration.{Each}
use Rattle.text_language.specs.Promised.Declarations as text
use Rattle.text_language.specs.Text.{TextGives}
use Rattle.text_lowering.specs.Promised.SeenWorlds.{unbound_reference}
use Rattle.text_lowering.specs.Plain.{unbound_references}
use Rattle.text_lowering.specs.Promised.Questions.{variable_kinds}
use Rattle.text_lowering.specs.Ready.{AreSeen}
use Rattle.text_lowering.proofs.WellSeen.{texts-seen-well}
use Rattle.candidate_model.specs.DeclaredWell.{IsDeclaredWell, is_declared_well}
use Rattle.candidate_model.proofs.DeclaredWell.{tests-tell}
use Rattle.solver_completeness.specs.FormedFacts.{Sorts, FitsSorts, IsFormedView}
use Rattle.sessions.specs.Fitting.{sorts_in}
use Rattle.sessions.specs.Goals.{is_fixed, are_fixed}
use Rattle.sessions.specs.Questions.{AreFixedReferences, IsFormedAsWritten, IsFormedElaborated, TextsQuestionsAreFormed, TextsQuestionsAreElaborated}
use Rattle.sessions.proofs.ElaboratedClauses.{IsFormedClause, elaborated-formed, elaborated-closed, elaborated-adds, all-are-fixed}
use Rattle.sessions.proofs.FormedTexts.{scope, IsFormedReference, QuestionFormed, texts-are-formed}
use Rattle.sessions.proofs.FormedViews.{each-in, map-in, reference-seen, texts-views-are-formed}
use Rattle.sessions.proofs.BetterTerms.{all-better}
use Rattle.sessions.proofs.QuestionTerms.{is_own, AreFixedTerms, asked-fixed, questions-fixed}

at-place : {A : Type 0} (P : A → Type 0) (xs : List A) → Each P xs → (k : ℕ) (x : A) → slice_get xs k ≡ Some x → P x
at-place P [] h k x e = absurd cc
at-place P (y ∷ ys) h zero x e = subst P (same_Some y x e) h.0
at-place P (y ∷ ys) h (suc k) x e = at-place P ys h.1 k x e

-- the reference that a question asks for has the sorts that are declared
pub question-fits : (bytes : List ℕ) (d : text.Declarations) → TextGives bytes (Ok d) → (k : ℕ) (q : text.Question) → slice_get d.questions k ≡ Some q
    → (es : List Entry) (decls : Items) → AreSeen es decls d q.asker → FitsSorts (written es decls) (sorts_in decls) (unbound_reference q.asked)
question-fits bytes d t k q at es decls seen =
    let all = texts-are-formed bytes d t in
    reference-seen d q.asker all.0 all.1 es decls seen q.asked (at-place (QuestionFormed d) d.questions all.1.questions k q at).0

-- ---- variables
closed-label : (ks : List Sort) (l : Label) → is_own ks l ≡ true → is_variable (erase_label l) ≡ false → is_fixed l ≡ true
closed-label ks (infer of_type i) h e = absurd (false-true (sym e))
closed-label ks (infer of_const i) h e = absurd (false-true (sym e))
closed-label ks (infer of_lifetime i) h e = refl
closed-label ks l h e = h

variable-erased : (t : Trees) → some_node is_variable (erase t) ≡ some_node (λ l. is_variable (erase_label l)) t
variable-erased none = refl
variable-erased (tree l c o) =
    ap (λ b. is_variable (erase_label l) || b || some_node is_variable (erase o)) (variable-erased c) ∙ ap (λ b. is_variable (erase_label l) || some_node (λ m. is_variable (erase_label m)) c || b) (variable-erased o)

module _ (bytes : List ℕ) (d : text.Declarations) (t : TextGives bytes (Ok d)) (k : ℕ) (q : text.Question) (at : slice_get d.questions k ≡ Some q) (es : List Entry) (decls : Items) (seen : AreSeen es decls d q.asker) where
  abbrev V : World
  V = written es decls

  abbrev sorts : Sorts
  sorts = sorts_in decls

  abbrev E : List Reference
  E = unbound_references q.clauses

  formed : QuestionFormed d q
  formed = at-place (QuestionFormed d) d.questions (texts-are-formed bytes d t).1.questions k q at

  pub fixed : AreFixedTerms q
  fixed = at-place AreFixedTerms d.questions (questions-fixed bytes d t) k q at

  seen-formed : (r : Reference) → IsFormedReference (scope d q.asker) r → FitsSorts V sorts (unbound_reference r)
  seen-formed r h = let all = texts-are-formed bytes d t in reference-seen d q.asker all.0 all.1 es decls seen r h

  clause-fits : (c : Reference) → In c E → FitsSorts V sorts c
  clause-fits c i =
      let r = map-in unbound_reference q.clauses c i in
      subst (λ x. FitsSorts V sorts x) (sym r.2) (seen-formed r.0 (each-in (IsFormedReference (scope d q.asker)) q.clauses formed.1 r.0 r.1))

  -- as it is written
  written-formed : q.variables ≡ [] → IsFormedAsWritten V sorts E (unbound_reference q.asked)
  written-formed empty =
      let asked = seen-formed q.asked formed.0 in
      record { clauses = fixed.clauses; fit = clause-fits; asked = λ F g e. record { terms = asked-fixed q fixed empty; nodes = asked.nodes; trait = asked.trait; clauses = g; elaborated = e } }

  -- so it is also if no variable stands in what it asks for
  pub written-if-closed : some_node is_variable (erase (unbound_reference q.asked).args) ≡ false → IsFormedAsWritten V sorts E (unbound_reference q.asked)
  written-if-closed closed =
      let asked = seen-formed q.asked formed.0 in
      let terms-fixed = all-better (is_own (variable_kinds q)) is_fixed (λ l. is_variable (erase_label l)) (closed-label (variable_kinds q)) terms (unbound_reference q.asked).args fixed.own (sym (variable-erased (unbound_reference q.asked).args) ∙ closed) in
      record { clauses = fixed.clauses; fit = clause-fits; asked = λ F g e. record { terms = terms-fixed; nodes = asked.nodes; trait = asked.trait; clauses = g; elaborated = e } }

  -- and with all supertraits
  pub well : IsDeclaredWell V
  well = tests-tell V (ap is_declared_well seen.written ∙ texts-seen-well bytes d t q.asker)

  pub view : IsFormedView V sorts
  view = texts-views-are-formed bytes d t q.asker es decls seen

  pub clause-formed : (c : Reference) → In c E → IsFormedClause V sorts c
  clause-formed c i = record { fixed = member-each (λ (r : Reference). are_fixed r.args) E c fixed.clauses i; fit = clause-fits c i }

  pub elaborated-fixed : AreFixedReferences (elaborate V E)
  elaborated-fixed = all-are-fixed V sorts well view E clause-formed (elaborate V E) (elaborated-formed V sorts well view E clause-formed)

  written-elaborated : IsFormedElaborated q.variables V sorts E (unbound_reference q.asked)
  written-elaborated = record {
    clauses = record {
      clauses = elaborated-fixed;
      fit = λ c i. (elaborated-formed V sorts well view E clause-formed c i).fit;
      elaborated = elaborated-closed V sorts well view E clause-formed;
      adds = elaborated-adds V sorts well view E clause-formed;
    };
    asked = λ empty. (written-formed empty).asked (elaborate V E) elaborated-fixed (elaborated-closed V sorts well view E clause-formed);
  }

pub texts-questions-are-formed : TextsQuestionsAreFormed
texts-questions-are-formed bytes d t n q is empty es decls seen held l low =
    let V = written es decls in
    let sorts = sorts_in decls in
    subst (λ E. IsFormedAsWritten V sorts E (reference_in held l.asked)) (sym low.clauses)
    (subst (λ r. IsFormedAsWritten V sorts (unbound_references q.clauses) r) (sym low.asked) (written-formed bytes d t (n - 1) q is.there es decls seen empty))

pub texts-questions-are-elaborated : TextsQuestionsAreElaborated
texts-questions-are-elaborated bytes d t n q is es decls seen held l low =
    let V = written es decls in
    let sorts = sorts_in decls in
    subst (λ E. IsFormedElaborated q.variables V sorts E (reference_in held l.asked)) (sym low.clauses)
    (subst (λ r. IsFormedElaborated q.variables V sorts (unbound_references q.clauses) r) (sym low.asked) (written-elaborated bytes d t (n - 1) q is.there es decls seen))
