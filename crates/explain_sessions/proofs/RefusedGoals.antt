-- Goals that are refused in coherence, asked alone over a table without values.
use Rattle.std.proofs.Common.{◌≡◌, ◌≤◌, arith, ℕ, zero, suc, Bool, true, false, not, IsTrue, Result, Ok, Err, List, [], ◌++◌, refl, sym, subst, ap, ◌∙◌}
use Rattle.std.proofs.lemmas.Bool.Decides.{nat_tests}
use Rattle.std.specs.Prelude.{IfOk, nat_lt, ltb}
use Rattle.sessions.specs.TypeTerms.Promised.Label.{Label, Sort, of_type, of_const, of_lifetime, param, placeholder, infer, canonical, bound}
use Rattle.sessions.specs.TypeTerms.Promised.Trees.{Trees, none, tree, erase, erase_label, some_node}
use Rattle.sessions.specs.TypeTerms.Promised.Handles.{Entry, Keeps, trees_at}
use Rattle.sessions.specs.TypeTerms.Promised.Worlds.{World}
use Rattle.sessions.specs.TermFolds.declared.predicate.TraitRef.{TraitRef}
use Rattle.sessions.specs.Declarations.Held.{ReferenceHeld}
use Rattle.sessions.specs.Declarations.Items.{reference_in}
use Rattle.sessions.specs.InferTable.Canonical.{HasNoCanonical, canonical_form}
use Rattle.sessions.specs.InferTable.Content.{Table, Ready, content, variables_of}
use Rattle.sessions.specs.InferTable.Covers.{AreKnown, IsOfKnown}
use Rattle.sessions.specs.InferTable.Solutions.{Binding, resolved}
use Rattle.sessions.proofs.InferTable.Covers.{known-empty}
use Rattle.sessions.specs.SolverGraph.declared.context.SolverCx.{SolverCx}
use Rattle.sessions.specs.SolverGraph.Contexts.{entries_of}
use Rattle.sessions.specs.CandidateAssembly.declared.solver.Solver.{Solver}
use Rattle.sessions.specs.CandidateAssembly.Solving.{meaning_for}
use Rattle.sessions.specs.CandidateAssembly.SolverMeaning.{solver_by_view}
use Rattle.sessions.specs.TypeTerms.Promised.Erased.{erased_world}
use Rattle.sessions.specs.GoalFrames.Handlers.{same_answer, applies_always}
use Rattle.sessions.specs.OverlapCheck.Goals.{repeated, unknown_kinds}
use Rattle.sessions.specs.OverlapCheck.Headers.{IsOfTable, resolved_reference}
use Rattle.sessions.specs.TypeTerms.Promised.Questions.{IsRefuted}
use Rattle.sessions.specs.ProofChecker.Steps.{term_of}
use Rattle.sessions.proofs.ProofChecker.Later.{term-same}
use Rattle.sessions.specs.TextLanguage.Promised.Declarations.{Declarations}
use Rattle.sessions.specs.TextLowering.QuestionVariables.{number_of, is_undeclared_variable}
use Rattle.sessions.specs.Checking.{solving_in}
use Rattle.sessions.specs.PairChecks.Impossible.{IsImpossible, resolved_alone}
use Rattle.sessions.specs.Promised.Promises.{view_in}
use Rattle.sessions.specs.Proving.{SolverIsReady, SolvesTheSame}
use Rattle.sessions.specs.Sessions.{SolvesView}
use Rattle.sessions.specs.Promised.Subjects.{Subject, StaysOn}
use Rattle.explain_traces.specs.Walking.{ReferencesHeld}
use Rattle.sessions.proofs.PairRefusals.{is_place, HasNoPlace, unproved}
use Rattle.sessions.proofs.RefutedGoals.{is-refuted}
use Rattle.sessions.proofs.SelfTypes.{self-types-begin}
use Rattle.explain_sessions.specs.Refusals.{IsRefusedGoal, IsRefusedAt}
use Rattle.explain_sessions.specs.Unknowns.{is_other_place, speaks_of_known}
use Rattle.explain_sessions.proofs.RuleCandidates.{there-held}
use Rattle.explain_sessions.proofs.OwnTerms.{IsOwn, here, below, behind, own, speaks-known, speaks-clean}
use Rattle.sessions.proofs.Basics.{all-consts, types-skipped}

-- ---- how many of each kind
types-first : (n : ℕ) (js : List Sort) → n ≤ number_of of_type (repeated of_type n ++ js)
types-first zero js = omega arith
types-first (suc n) js = let e = types-first n js in omega (arith, e)

enough-types : (t : Table) → t.ty_vars ≤ number_of of_type (unknown_kinds t)
enough-types t = types-first t.ty_vars (repeated of_const t.const_vars)

enough-consts : (t : Table) → t.const_vars ≤ number_of of_const (unknown_kinds t)
enough-consts t = let e = types-skipped t.ty_vars (repeated of_const t.const_vars) in let g = all-consts t.const_vars in omega (arith, e, g)

-- ---- what speaks of a table's own unknowns has no other open place
module _ (t : Table) where
  abbrev Own : Trees → Type 0
  Own x = IsOwn (variables_of t) x

  node : (p : Label → Bool) (l : Label) (c o : Trees) → p l ≡ false → some_node p c ≡ false → some_node p o ≡ false → some_node p (tree l c o) ≡ false
  node p l c o a b d = rw (a, b, d) refl

  place-fine : (l : Label) → is_other_place (variables_of t) l ≡ false → is_place l ≡ false
  place-fine (param of_type i) h = h
  place-fine (param of_const i) h = h
  place-fine (param of_lifetime i) h = refl
  place-fine (placeholder of_type i) h = h
  place-fine (placeholder of_const i) h = h
  place-fine (placeholder of_lifetime i) h = refl
  place-fine (canonical of_type i) h = h
  place-fine (canonical of_const i) h = h
  place-fine (canonical of_lifetime i) h = refl
  place-fine (bound of_type k i) h = h
  place-fine (bound of_const k i) h = h
  place-fine (bound of_lifetime k i) h = refl
  place-fine l h = refl

  no-place : (x : Trees) → Own x → HasNoPlace x
  no-place none h = refl
  no-place (tree l c o) h =
      node is_place l c o (place-fine l (here (variables_of t) l c o h)) (no-place c (below (variables_of t) l c o h)) (no-place o (behind (variables_of t) l c o h))

  -- nor one that is none of a question's variables
  abbrev ks : List Sort
  ks = unknown_kinds t

  more : (i n m : ℕ) → n ≤ m → not (nat_lt i n) ≡ false → not (ltb i m) ≡ false
  more i n m e h = grind (arith, nat_tests)

  label-fine : (l : Label) → is_other_place (variables_of t) l ≡ false → is_undeclared_variable ks (erase_label l) ≡ false
  label-fine (infer of_type i) h = more i t.ty_vars (number_of of_type ks) (enough-types t) h
  label-fine (infer of_const i) h = more i t.const_vars (number_of of_const ks) (enough-consts t) h
  label-fine (infer of_lifetime i) h = refl
  label-fine (param of_type i) h = h
  label-fine (param of_const i) h = h
  label-fine (param of_lifetime i) h = refl
  label-fine (placeholder of_type i) h = h
  label-fine (placeholder of_const i) h = h
  label-fine (placeholder of_lifetime i) h = refl
  label-fine (canonical of_type i) h = h
  label-fine (canonical of_const i) h = h
  label-fine (canonical of_lifetime i) h = refl
  label-fine (bound of_type k i) h = h
  label-fine (bound of_const k i) h = h
  label-fine (bound of_lifetime k i) h = refl
  label-fine l h = refl

  no-stray : (x : Trees) → Own x → some_node (is_undeclared_variable ks) (erase x) ≡ false
  no-stray none h = refl
  no-stray (tree l c o) h =
      node (is_undeclared_variable ks) (erase_label l) (erase c) (erase o) (label-fine l (here (variables_of t) l c o h)) (no-stray c (below (variables_of t) l c o h)) (no-stray o (behind (variables_of t) l c o h))

-- ---- a context that solves as before
pub solves-later : (d : Declarations) (c : ℕ) (x y : SolverCx Solver) → SolvesTheSame x y → SolvesView d c x → SolvesView d c y
solves-later d c x y e v = record {
  written = ap (λ s. s.view) e ∙ v.written;
  rules = ap (λ s. erased_world s.view) e ∙ v.rules;
  local = ap (λ s. s.crate) e ∙ v.local;
}

-- ---- what is refused
module _ (cx : SolverCx Solver) (ready : SolverIsReady cx) (t : Table) (at : Ready (entries_of cx) t) (no_values : t.values ≡ []) (r : TraitRef) (held : ReferenceHeld (entries_of cx) r)
    (own_terms : speaks_of_known (variables_of t) (trees_at (entries_of cx) r.args.0) ≡ true) where
  abbrev es : List Entry
  es = entries_of cx

  abbrev bs : List Binding
  bs = content es t.values

  unvalued : resolved bs (trees_at es r.args.0) ≡ trees_at es r.args.0
  unvalued = ap (λ vs. resolved (content es vs) (trees_at es r.args.0)) no_values

  term-is : resolved_reference bs (reference_in es r) ≡ term_of es r
  term-is = ap (λ vs. resolved_reference (content es vs) (reference_in es r)) no_values

  of : IsOfTable es t r
  of = record {
    known = subst (AreKnown (variables_of t)) (sym unvalued) (speaks-known (variables_of t) (trees_at es r.args.0) own_terms);
    clean = subst HasNoCanonical (sym unvalued) (speaks-clean (variables_of t) (trees_at es r.args.0) own_terms);
  }

  free : HasNoPlace (resolved bs (trees_at es r.args.0))
  free = subst HasNoPlace (sym unvalued) (no-place t (trees_at es r.args.0) (own (variables_of t) (trees_at es r.args.0) own_terms))

  table-known : IsOfKnown (variables_of t) bs
  table-known = subst (λ vs. IsOfKnown (variables_of t) (content es vs)) (sym no_values) (known-empty (variables_of t))

  pub refused-here : IsImpossible solver_by_view cx t r → (d : Declarations) (c : ℕ) → SolvesView d c cx → IsRefusedGoal (view_in d c) c (term_of es r)
  refused-here refused d c v =
      let m = meaning_for (solving_in cx) (canonical_form (resolved_alone es t r)) in
      record {
        kinds = unknown_kinds t;
        unknowns = no-stray t (trees_at es r.args.0) (own (variables_of t) (trees_at es r.args.0) own_terms);
        refuted =
            subst (IsRefuted (view_in d c) c (unknown_kinds t)) term-is
            (is-refuted d c m v.rules v.local (unknown_kinds t) (resolved_reference bs (reference_in es r))
            (unproved es ready.lawful t at r held of free table-known applies_always same_answer m refused)
            (self-types-begin es cx.handler.declarations ready.handler.held));
      }

-- as it was asked before
pub refused-before : (old now : List Entry) → Keeps old now → (r : TraitRef) → ReferenceHeld old r → (V : World) (c : ℕ) → IsRefusedGoal V c (term_of now r) → IsRefusedGoal V c (term_of old r)
refused-before old now k r h V c x = subst (IsRefusedGoal V c) (term-same old now k r h) x

-- what a call says where it says true
pub when-refused : {E : Type 0} (P Q : Type 0) (r : Result Bool E) → IfOk r (λ b. IsTrue b → P) → (P → Q) → IfOk r (λ b. b ≡ true → Q)
when-refused P Q (Ok true) h f = λ e. f (h refl)
when-refused P Q (Ok false) h f = λ e. absurd (never e)
  where
    never : false ≡ true → ⊥
    never e = cc
when-refused P Q (Err e) h f = tt

-- ---- a walk's goals
pub at-before : (old now : List Entry) → Keeps old now → (V : World) (c : ℕ) (rs : List TraitRef) → ReferencesHeld old rs → (p : ℕ) → IsRefusedAt now V c rs p → IsRefusedAt old V c rs p
at-before old now k V c rs h p x = (x.0, x.1, refused-before old now k x.0 (there-held old rs p x.0 h x.1) V c x.2)

-- as a session says it that stays on
pub at-staying : (s t : Subject) → StaysOn s t → (rs : List TraitRef) → ReferencesHeld s.terms rs → (p : ℕ) → IsRefusedAt t.terms (view_in t.declarations t.of_crate) t.of_crate rs p
    → IsRefusedAt s.terms (view_in s.declarations s.of_crate) s.of_crate rs p
at-staying s t on rs h p x =
    at-before s.terms t.terms on.terms (view_in s.declarations s.of_crate) s.of_crate rs h p
    (subst (λ d. IsRefusedAt t.terms (view_in d s.of_crate) s.of_crate rs p) on.declarations
    (subst (λ k. IsRefusedAt t.terms (view_in t.declarations k) k rs p) on.of_crate x))
