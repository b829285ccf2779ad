-- Steps that were checked are a proof of the question's reference.
use Rattle.std.proofs.Common.{◌≡◌, ◌∙◌, ℕ, zero, suc, ◌-◌, List, [], ◌∷◌, Some, map, ap, sym, subst}
use Rattle.std.proofs.lemmas.Option.{same_Some}
use Rattle.std.specs.List.{slice_get}
use Rattle.type_terms.specs.Promised.Erased.{erased_reference, erased_impl}
use Rattle.type_terms.specs.Erased.{IsCovered}
use Rattle.type_terms.specs.Promised.Label.{Sort}
use Rattle.type_terms.specs.Promised.Trees.{Trees, erase}
use Rattle.type_terms.specs.Promised.Proofs.{Every}
use Rattle.type_terms.specs.Promised.Worlds.{World, Reference, ImplDecl}
use Rattle.type_terms.specs.Promised.Handles.{Entry, Keeps}
use Rattle.type_terms.proofs.ProofEntries.{map-in}
use Rattle.term_folds.specs.declared.predicate.TraitRef.{TraitRef}
use Rattle.declarations.specs.Applied.{TraitRefsHeld}
use Rattle.declarations.specs.Held.{ReferenceHeld}
use Rattle.declarations.specs.Items.{Items, HeldImpl, reference_in, impl_in, declared}
use Rattle.declarations.specs.Promised.Elaboration.{Each}
use Rattle.declarations.proofs.Elaborating.{each-in}
use Rattle.declarations.proofs.Growth.{all-declared, reference-same}
use Rattle.overlap_check.specs.Orphans.{AreWrittenWell, HeaderHoldsParams}
use Rattle.overlap_check.specs.Written.{IsWrittenWell}
use Rattle.solver_graph.specs.Contexts.{entries_of}
use Rattle.solver_graph.specs.declared.context.SolverCx.{SolverCx}
use Rattle.candidate_assembly.specs.declared.solver.Solver.{Solver}
use Rattle.infer_table.specs.Content.{content}
use Rattle.type_terms.specs.Promised.Questions.{filled, filled_reference}
use Rattle.proof_checker.specs.Steps.{term_of, terms_of, ParametersAreCovered, AreProofOf, StepHeld}
use Rattle.proof_checker.proofs.Later.{terms-same}
use Rattle.proof_checker.proofs.Moved.{proof-before}
use Rattle.proof_checker.specs.declared.steps.Step.{Step}
use Rattle.text_language.specs.Promised.Declarations.{Declarations, Question}
use Rattle.text_lowering.specs.Promised.SeenWorlds.{unbound_reference}
use Rattle.text_lowering.specs.Plain.{unbound_references}
use Rattle.text_lowering.specs.Promised.Questions.{variable_kinds}
use Rattle.text_lowering.specs.Promised.Questions.{IsQuestion}
use Rattle.text_lowering.specs.Seen.{rules_seen_from}
use Rattle.candidate_assembly.specs.Solving.{Solving}
use Rattle.sessions.specs.Checking.{IsReadySolver, SolverStaysReady, rules_in}
use Rattle.sessions.specs.Promised.Promises.{view_in}
use Rattle.sessions.specs.Sessions.{IsSolvingOf}
use Rattle.sessions.specs.Shown.{AreProofBy, IsResolved, IsShown}
use Rattle.sessions.specs.Promised.Subjects.{IsOfText}
use Rattle.sessions.specs.Values.{values_in}
use Rattle.sessions.proofs.ProofsAside.{proof-aside}
use Rattle.sessions.proofs.Filled.{values-fill}
use Rattle.sessions.proofs.ProvedQuestions.{clauses-erased, own, filled-args}
use Rattle.sessions.proofs.GivenTexts.{text-given}
use Rattle.sessions.proofs.QuestionTerms.{IsOwnReference}
use Rattle.sessions.proofs.TextQuestions.{fixed}
use Rattle.sessions.proofs.Refusals.{plain-erased}

same-reference : (s t : ℕ) (x y : Trees) → s ≡ t → x ≡ y → (let r : Reference = record { trait = s; args = x } in r) ≡ (let r : Reference = record { trait = t; args = y } in r)
same-reference s t x y e f = cc

module _ (d : Declarations) (q : Question) (r : Reference) (own : IsOwnReference (variable_kinds q) r) where
  abbrev ks : List Sort
  ks = variable_kinds q

  abbrev E : List Reference
  E = map erased_reference q.clauses

  asked-filled : (x : Reference) (h : IsResolved (unbound_reference r) x)
      → erased_reference x ≡ filled_reference ks (values_in (content h.entries h.table.values) ks) (erased_reference r)
  asked-filled x h =
      let ts = values_in (content h.entries h.table.values) ks in
      same-reference x.trait r.trait (erase x.args) (filled ks ts (erase r.args)) h.trait
      (ap erase h.args ∙ sym (filled-args ks [] (unbound_reference r) own h.entries h.table h.ready) ∙ ap (filled ks ts) (plain-erased r.args))

  pub shown-proof : (V : World) → V ≡ rules_seen_from d q.asker → (es : List Entry) (ss : List Step)
      → IsShown es V (map erased_reference (unbound_references q.clauses)) (unbound_reference r) ss → AreProofBy (view_in d q.asker) q r es ss
  shown-proof V e es ss h =
      let ts = values_in (content h.resolved.entries h.resolved.table.values) ks in
      let x = filled_reference ks ts (erased_reference r) in
      let cs = (view_in d q.asker).crates in
      record {
        values = ts;
        fit = (values-fill h.resolved.entries h.resolved.table h.resolved.ready ks).0;
        proof = subst (λ (W : World). AreProofOf es W E x ss) (ap (λ (W : World). record W { crates = cs }) e)
            (proof-aside V cs es E x ss
            (subst (λ y. AreProofOf es V E y ss) (asked-filled h.asked h.resolved) (subst (λ F. AreProofOf es V F (erased_reference h.asked) ss) (clauses-erased q.clauses) h.proof)));
      }

-- ---- a reference among those of a query
-- what holds of the first and of each further one holds of the nth
pub at-number : {A : Type 0} (P : A → Type 0) (x : A) (xs : List A) (n : ℕ) (y : A) → P x → Each P xs → slice_get (x ∷ xs) n ≡ Some y → P y
at-number P x xs zero y h t e = subst P (same_Some x y e) h
at-number P x [] (suc n) y h t e = absurd cc
at-number P x (z ∷ zs) (suc n) y h t e = at-number P z zs n y t.0 t.1 e

pub at-each : {A : Type 0} (P : A → Type 0) (x : A) (xs : List A) (n : ℕ) (y : A) → P x → Every P xs → slice_get (x ∷ xs) n ≡ Some y → P y
at-each P x xs zero y h t e = subst P (same_Some x y e) h
at-each P x [] (suc n) y h t e = absurd cc
at-each P x (z ∷ zs) (suc n) y h t e = at-each P z zs n y t.0 t.1 e

-- each of them has unknowns of the query's kinds alone
pub own-at : (d : Declarations) → IsOfText d → (n : ℕ) (q : Question) → IsQuestion d n q → (s : Solving) → IsSolvingOf d q.asker s
    → (k : ℕ) (r : Reference) → slice_get (q.asked ∷ q.further) k ≡ Some r → IsOwnReference (variable_kinds q) r
own-at d text n q is s of k r e =
    let all = fixed text.0 d (text-given d text) (n - 1) q is.there of.entries of.declarations of.seen in
    at-each (IsOwnReference (variable_kinds q)) q.asked q.further k r all.own all.further e

-- ---- what is declared
-- the impls that are written well have their parameters in their headers
pub covered-of : (es : List Entry) (d : Items) → AreWrittenWell es d → ParametersAreCovered es d
covered-of es d h i j =
    let m = map-in (λ (x : HeldImpl). impl_in es x.id x.def) d.impls i j in
    subst (λ (x : ImplDecl). IsCovered (erased_impl x)) m.2 ((each-in (λ (x : HeldImpl). IsWrittenWell es x.def × HeaderHoldsParams es x.def) d.impls h m.0 m.1).0.covered m.0.id)

-- ---- contexts
pub rules-later : (c e : SolverCx Solver) → IsReadySolver c → SolverStaysReady c e → rules_in e ≡ rules_in c
rules-later c e ready a =
    ap (λ (h : Solver). declared (entries_of e) h.declarations) a.handler ∙ all-declared (entries_of c) (entries_of e) a.entries c.handler.declarations ready.handler.held

pub shown-before : (es fs : List Entry) → Keeps es fs → (W V : World) (E F : List Reference) (r x : Reference) (ss : List Step) → Each (StepHeld es) ss → W ≡ V → E ≡ F → r ≡ x
    → IsShown fs W E r ss → IsShown es V F x ss
shown-before es fs k W V E F r x ss held w e t h = record {
  asked = h.asked;
  resolved = subst (λ y. IsResolved y h.asked) t h.resolved;
  proof = proof-before es fs k V F (erased_reference h.asked) ss held
      (subst (λ (U : World). AreProofOf fs U F (erased_reference h.asked) ss) w (subst (λ D. AreProofOf fs W D (erased_reference h.asked) ss) e h.proof));
}

-- what was checked in a later context, of the reference with values there
pub shown-under : (c d e : SolverCx Solver) → IsReadySolver c → SolverStaysReady c d → SolverStaysReady d e → (cs : List TraitRef) → TraitRefsHeld (entries_of c) cs → (r : TraitRef) → ReferenceHeld (entries_of c) r
    → (ss : List Step) → Each (StepHeld (entries_of c)) ss → (x : TraitRef) → IsResolved (reference_in (entries_of d) r) (reference_in (entries_of e) x)
    → AreProofOf (entries_of e) (rules_in e) (terms_of (entries_of e) cs) (term_of (entries_of e) x) ss → IsShown (entries_of c) (rules_in c) (terms_of (entries_of c) cs) (reference_in (entries_of c) r) ss
shown-under c d e ready a b cs held r asked ss steps x resolved proof =
    let k = λ (i : ℕ) (n : Entry) (h : slice_get (entries_of c) i ≡ Some n). b.entries i n (a.entries i n h) in
    shown-before (entries_of c) (entries_of e) k (rules_in e) (rules_in c) (terms_of (entries_of e) cs) (terms_of (entries_of c) cs) (reference_in (entries_of d) r) (reference_in (entries_of c) r) ss steps
    (rules-later d e a.ready b ∙ rules-later c d ready a) (terms-same (entries_of c) (entries_of e) k cs held) (reference-same (entries_of c) (entries_of d) a.entries r asked)
    (record { asked = reference_in (entries_of e) x; resolved = resolved; proof = proof })
