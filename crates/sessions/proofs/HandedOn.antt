-- The answer to a question as it is handed on: what the search says, but maybe, with the variables themselves, if some value is foreign.
use Rattle.std.specs.Prelude.{◌⊎◌}
use Rattle.std.proofs.Common.{◌≡◌, ℕ, suc, true, false, List, [], ◌∷◌, ◌++◌, map, inl, inr, refl, sym, ap, ◌∙◌, subst}
use Rattle.type_terms.specs.Promised.Label.{Sort, of_type, of_const, of_lifetime, infer}
use Rattle.type_terms.specs.Promised.Trees.{Trees, leaf, some_node}
use Rattle.type_terms.specs.Promised.Handles.{Entry, Keeps}
use Rattle.type_terms.specs.Terms.{args_lists}
use Rattle.type_terms.specs.Kept.{has-later, trees-later}
use Rattle.type_terms.specs.Promised.Handles.{ArgsHeld, arg_trees}
use Rattle.type_terms.specs.Promised.Worlds.{World, Reference}
use Rattle.type_terms.specs.declared.kinds.GenericArgKind.{GenericArgKind}
use Rattle.term_folds.specs.declared.predicate.TraitRef.{TraitRef}
use Rattle.declarations.specs.Applied.{TraitRefsHeld}
use Rattle.declarations.specs.Held.{ReferenceHeld}
use Rattle.declarations.specs.Items.{reference_in}
use Rattle.infer_table.specs.Content.{Ready}
use Rattle.infer_table.specs.Solutions.{resolved}
use Rattle.candidate_assembly.specs.Solving.{Solving}
use Rattle.candidate_assembly.specs.SolverMeaning.{solver_by_view}
use Rattle.solver_graph.specs.LeftTables.{itself}
use Rattle.fulfillment.specs.Leaving.{itself as no-answer}
use Rattle.text_language.specs.Names.{own_from, own_unknowns}
use Rattle.text_language.specs.Promised.Declarations.{Question, Variable}
use Rattle.text_lowering.specs.Promised.Questions.{variable_kinds}
use Rattle.text_lowering.specs.Promised.SeenWorlds.{unbound_reference}
use Rattle.text_lowering.specs.Plain.{unbound_references}
use Rattle.sessions.specs.Foreign.{HasNoPreference, HasPreference, IsMaybeWith, IsOwnAnswer, IsOwnAnswerOfAll, IsTakenBack, are_own_terms, are_own_values, is_unknown_term}
use Rattle.sessions.specs.Promised.Given.{AnswerValuesHeld, values_of_answer}
use Rattle.sessions.specs.Proving.{HasLeftValues, HasUnknowns, IsAnsweredInSearch, IsAnsweredBySolver, IsNotSettled, goal_asking, speak_of_own}
use Rattle.sessions.specs.ProvingTogether.{AreAnsweredBySolver, AreAnsweredInSearch, HaveLeftValues, asked_references, goals_asking}
use Rattle.sessions.specs.Tables.{table_of}
use Rattle.sessions.specs.declared.answers.ProveAnswer.{ProveAnswer}
use Rattle.sessions.specs.declared.answers.ProveAnswer.TheVariants.{Yes, Maybe, Unproved}

-- ---- a question's references as the interner grows
module _ (old new : List Entry) (k : Keeps old new) where
  pub reference-later : (r : TraitRef) → ReferenceHeld old r → reference_in new r ≡ reference_in old r
  reference-later r h = ap (λ z. (let x : Reference = record { trait = r.def_id.index; args = z } in x)) (trees-later old new k args_lists r.args.0 h)

  pub references-later : (rs : List TraitRef) → TraitRefsHeld old rs → TraitRefsHeld new rs
  references-later [] h = tt
  references-later (r ∷ rs) h = (has-later old new k args_lists r.args.0 h.0, references-later rs h.1)

-- ---- the variables themselves
-- none of them is foreign
own-so : (V : World) (rs : List Reference) (t c : ℕ) (vs : List Variable) → are_own_terms V rs (own_from t c vs) ≡ true
own-so V rs t c [] = refl
own-so V rs t c (v ∷ vs) = by v.kind (λ m n. own-so V rs m n vs)
  where
    by : (k : Sort) → ((m n : ℕ) → are_own_terms V rs (own_from m n vs) ≡ true)
        → are_own_terms V rs (elim k [ of_type ↦ leaf (infer of_type t) ∷ own_from (suc t) c vs | of_const ↦ leaf (infer of_const c) ∷ own_from t (suc c) vs | of_lifetime ↦ leaf (infer of_lifetime 0) ∷ own_from t c vs ]) ≡ true
    by of_type e = e (suc t) c
    by of_const e = e t (suc c)
    by of_lifetime e = e t c

-- a table without values gives them
each-same : (ts : List Trees) → ts ≡ map (λ u. resolved [] u) ts
each-same [] = refl
each-same (t ∷ ts) = ap (λ xs. t ∷ xs) (each-same ts)

bare-table : (ks : List Sort) → Ready [] (table_of ks)
bare-table ks = record { held = tt; constraints_held = tt; acyclic = tt; older = tt; proper = tt }

-- ---- the answer
module _ (s : Solving) (depth : ℕ) (q : Question) (es : List Entry) where
  abbrev Left : List Trees → Type 0
  Left ts = HasLeftValues solver_by_view s (variable_kinds q) (goal_asking s.view q) (own_unknowns q) ts

  themselves-left : Left (own_unknowns q)
  themselves-left = record { entries = []; table = table_of (variable_kinds q); ready = bare-table (variable_kinds q); are = each-same (own_unknowns q); left = itself }

  abbrev IsOwn : ProveAnswer → Type 0
  IsOwn a = HasUnknowns q → speak_of_own s q es (values_of_answer a) ≡ true

  itself-told : (a : ProveAnswer) → IsAnsweredInSearch s depth q es a → HasNoPreference (unbound_references q.clauses) a → IsOwn a → IsAnsweredBySolver s depth q es a
  itself-told (Yes values) told alone own = (told, own)
  itself-told (Maybe values) told alone own = (inl told.0, told.1, own, inl alone)
  itself-told Unproved told alone own = told

  abbrev IsTaken : List GenericArgKind → ProveAnswer → ProveAnswer → Type 0
  IsTaken us a b = IsTakenBack s.view (unbound_reference q.asked) (unbound_references q.clauses) us es a b

  -- why the answer is taken back
  still-open : (us : List GenericArgKind) (a b : ProveAnswer) → IsAnsweredInSearch s depth q es a → IsTaken us a b → IsNotSettled s depth q es
  still-open us a b told h = by h.reason
    where
      by : ((some_node is_unknown_term (unbound_reference q.asked).args ≡ true) × (are_own_values s.view (unbound_reference q.asked) (unbound_references q.clauses) es a ≡ false))
          ⊎ HasPreference (unbound_references q.clauses) a → IsNotSettled s depth q es
      by (inl x) = inr (record { answer = a; answered = told; unknowns = x.0; foreign = x.1 })
      by (inr x) = inl (subst (IsAnsweredInSearch s depth q es) x.0.1 told).0

  taken-told : (us : List GenericArgKind) → map (arg_trees es) us ≡ own_unknowns q → (a b : ProveAnswer) → IsAnsweredInSearch s depth q es a → IsTaken us a b → IsAnsweredBySolver s depth q es b
  taken-told us are a b told h =
      let ts : map (arg_trees es) h.themselves.0.items ≡ own_unknowns q = ap (map (arg_trees es)) h.themselves.2 ∙ are in
      subst (IsAnsweredBySolver s depth q es) (sym h.themselves.1) (
        still-open us a b told h,
        subst Left (sym ts) themselves-left,
        (λ unknowns. ap (are_own_terms s.view (unbound_reference q.asked ∷ unbound_references q.clauses)) ts
            ∙ own-so s.view (unbound_reference q.asked ∷ unbound_references q.clauses) 0 0 q.variables),
        inr ts,
      )

  of-own : (us : List GenericArgKind) → map (arg_trees es) us ≡ own_unknowns q → (a b : ProveAnswer) → IsAnsweredInSearch s depth q es a
      → IsOwnAnswer s.view (unbound_reference q.asked) (unbound_references q.clauses) us es a b → IsAnsweredBySolver s depth q es b
  of-own us are a b told (inl h) = subst (IsAnsweredBySolver s depth q es) (sym h.0) (itself-told a told h.1 h.2)
  of-own us are a b told (inr h) = taken-told us are a b told h

  pub handed-on : (V : World) (r : Reference) (E : List Reference) (us : List GenericArgKind) (a b : ProveAnswer) → V ≡ s.view → r ≡ unbound_reference q.asked → E ≡ unbound_references q.clauses
      → map (arg_trees es) us ≡ own_unknowns q → IsAnsweredInSearch s depth q es a → IsOwnAnswer V r E us es a b → IsAnsweredBySolver s depth q es b
  handed-on V r E us a b v e f are told own =
      of-own us are a b told
      (subst (λ x. IsOwnAnswer s.view (unbound_reference q.asked) x us es a b) f (subst (λ x. IsOwnAnswer s.view x E us es a b) e (subst (λ x. IsOwnAnswer x r E us es a b) v own)))

pub own-held : (V : World) (r : Reference) (E : List Reference) (us : List GenericArgKind) (es : List Entry) (a b : ProveAnswer) → IsOwnAnswer V r E us es a b
    → ArgsHeld es us → AnswerValuesHeld es a → AnswerValuesHeld es b
own-held V r E us es a b (inl h) unknowns held = subst (AnswerValuesHeld es) (sym h.0) held
own-held V r E us es a b (inr h) unknowns held = subst (AnswerValuesHeld es) (sym h.themselves.1) (subst (ArgsHeld es) (sym h.themselves.2) unknowns)

-- ---- several references
module _ (s : Solving) (depth : ℕ) (q : Question) (es : List Entry) where
  abbrev AllLeft : List Trees → Type 0
  AllLeft ts = HaveLeftValues solver_by_view s (variable_kinds q) (goals_asking s.view q) (own_unknowns q) ts

  all-themselves : AllLeft (own_unknowns q)
  all-themselves = record { entries = []; table = table_of (variable_kinds q); ready = bare-table (variable_kinds q); are = each-same (own_unknowns q); left = no-answer }

  abbrev all_references : List Reference
  all_references = asked_references q ++ unbound_references q.clauses

  each-told : (a : ProveAnswer) → AreAnsweredInSearch s depth q es a → HasNoPreference (unbound_references q.clauses) a
      → are_own_terms s.view all_references (map (arg_trees es) (values_of_answer a)) ≡ true → AreAnsweredBySolver s depth q es a
  each-told (Yes values) told alone own = (told, own)
  each-told (Maybe values) told alone own = (told, own, inl alone)
  each-told Unproved told alone own = told

  with-variables : (us : List GenericArgKind) → map (arg_trees es) us ≡ own_unknowns q → (b : ProveAnswer) → IsMaybeWith us b → AreAnsweredBySolver s depth q es b
  with-variables us are b h =
      let ts : map (arg_trees es) h.0.items ≡ own_unknowns q = ap (map (arg_trees es)) h.2 ∙ are in
      subst (AreAnsweredBySolver s depth q es) (sym h.1) (subst AllLeft (sym ts) all-themselves, ap (are_own_terms s.view all_references) ts ∙ own-so s.view all_references 0 0 q.variables, inr ts)

  all-of-own : (us : List GenericArgKind) → map (arg_trees es) us ≡ own_unknowns q → (a b : ProveAnswer) → AreAnsweredInSearch s depth q es a
      → IsOwnAnswerOfAll s.view (asked_references q) (unbound_references q.clauses) us es a b → AreAnsweredBySolver s depth q es b
  all-of-own us are a b told (inl h) = subst (AreAnsweredBySolver s depth q es) (sym h.0) (each-told a told h.1 h.2)
  all-of-own us are a b told (inr h) = with-variables us are b h

  pub all-handed-on : (V : World) (rs E : List Reference) (us : List GenericArgKind) (a b : ProveAnswer) → V ≡ s.view → rs ≡ asked_references q → E ≡ unbound_references q.clauses
      → map (arg_trees es) us ≡ own_unknowns q → AreAnsweredInSearch s depth q es a → IsOwnAnswerOfAll V rs E us es a b → AreAnsweredBySolver s depth q es b
  all-handed-on V rs E us a b v e f are told own =
      all-of-own us are a b told
      (subst (λ x. IsOwnAnswerOfAll s.view (asked_references q) x us es a b) f (subst (λ x. IsOwnAnswerOfAll s.view x E us es a b) e (subst (λ x. IsOwnAnswerOfAll x rs E us es a b) v own)))

pub all-own-held : (V : World) (rs E : List Reference) (us : List GenericArgKind) (es : List Entry) (a b : ProveAnswer) → IsOwnAnswerOfAll V rs E us es a b
    → ArgsHeld es us → AnswerValuesHeld es a → AnswerValuesHeld es b
all-own-held V rs E us es a b (inl h) unknowns held = subst (AnswerValuesHeld es) (sym h.0) held
all-own-held V rs E us es a b (inr h) unknowns held = subst (AnswerValuesHeld es) (sym h.1) (subst (ArgsHeld es) (sym h.2) unknowns)
