-- What an answer `yes` proves: with its values the reference has a proof by the declarations as they are written, and so by the same
-- without their lifetimes.
use Rattle.std.proofs.Common.{◌≡◌, ◌-◌, ◌<◌, ℕ, suc, Bool, true, false, not, ◌||◌, if◌then◌else◌, List, [], ◌∷◌, ◌++◌, map, refl, sym, ◌∙◌, ap, subst}
use Rattle.std.specs.Global.{Vec}
use Rattle.type_terms.specs.Promised.Label.{Label, Sort, of_type, of_const, of_lifetime, bool, char, value, dynamic, principal, auto_trait, of_trait, predicate, param, placeholder, infer, canonical, bound}
use Rattle.type_terms.specs.Promised.Proofs.{In, HasProof}
use Rattle.type_terms.specs.Promised.Rules.{elaborated}
use Rattle.type_terms.specs.Promised.Erased.{erased_reference}
use Rattle.type_terms.specs.Promised.Trees.{Trees, none, tree, leaf, is_sort, erase, erase_label, some_node}
use Rattle.type_terms.specs.Trees.{is_no_tree}
use Rattle.type_terms.specs.Promised.Worlds.{World, CrateDecl, Reference}
use Rattle.type_terms.proofs.ProofEntries.{map-in}
use Rattle.type_terms.proofs.Fitting.{or-no, child-shut, next-shut}
use Rattle.type_terms.proofs.Members.{in-map}
use Rattle.type_terms.proofs.RenumberedRules.{map-append}
use Rattle.type_terms.specs.Promised.Handles.{arg_trees}
use Rattle.type_terms.specs.declared.kinds.GenericArgKind.{GenericArgKind}
use Rattle.type_terms.specs.Made.{Standing, terms, bounds, traits, is_made}
use Rattle.type_terms.specs.Promised.Handles.{Entry}
use Rattle.type_terms.proofs.Made.{left, right, false-true, no-tree, IsLast, made-ordinary, last-bound, last-trait, never-dynamic, never-dynamic-bound, never-principal}
use Rattle.infer_table.specs.Canonical.{GoalTrees, HasNoCanonical}
use Rattle.infer_table.specs.Content.{Table, Ready, content, IsProper}
use Rattle.infer_table.specs.Covers.{AreKnown}
use Rattle.infer_table.specs.Inputs.{IsWithoutCanonical}
use Rattle.infer_table.specs.Solutions.{Assignment, Binding, instance, resolved}
use Rattle.goal_evaluator.specs.Content.{Fact}
use Rattle.goal_evaluator.specs.Proof as Lists
use Rattle.goal_evaluator.proofs.Readings.{HasLeaves, made-leaves}
use Rattle.declarations.specs.Promised.Elaboration.{elaborate}
use Rattle.declarations.specs.Items.{Items, written}
use Rattle.candidate_model.specs.Facts.{is_unerased, trees_of_clauses, clauses_of, children_of, reference_in, FollowsByView, is_coinductive_fact}
use Rattle.candidate_model.proofs.Facts.{references-come-back, proofs-of-facts}
use Rattle.candidate_model.proofs.Stack.{elaborated-only}
use Rattle.solver_graph.specs.Roots.{fact_under}
use Rattle.candidate_assembly.specs.Fitting.{solving_of}
use Rattle.candidate_assembly.specs.Solving.{Solving}
use Rattle.solver_completeness.specs.FormedFacts.{Sorts, IsFormedView}
use Rattle.candidate_model.specs.DeclaredWell.{IsDeclaredWell, is_declared_well}
use Rattle.candidate_model.proofs.DeclaredWell.{tests-tell}
use Rattle.text_lowering.proofs.WellSeen.{texts-seen-well}
use Rattle.candidate_model.specs.Meaning.{SelfTypesBegin}
use Rattle.candidate_model.proofs.ErasedCandidates.{without_lifetimes}
use Rattle.candidate_model.proofs.PlainRules.{Plain}
use Rattle.text_language.specs.Promised.Declarations.{Declarations, Question, Variable}
use Rattle.text_lowering.specs.Promised.Questions.{IsQuestion}
use Rattle.text_language.specs.Names.{own_from}
use Rattle.text_lowering.specs.Promised.SeenWorlds.{unbound_reference}
use Rattle.text_lowering.specs.Plain.{unbound_references}
use Rattle.text_lowering.specs.QuestionVariables.{number_of}
use Rattle.text_lowering.specs.Promised.Questions.{variable_kinds}
use Rattle.text_lowering.specs.Ready.{AreSeen}
use Rattle.type_terms.specs.Promised.Questions.{FitKinds, HoldUnknownsAlone, SolutionBy, ProveAnswer, IsProveAnswer, yes as answer_yes, filled, filled_reference}
use Rattle.sessions.specs.Clauses.{AddSupertraits}
use Rattle.sessions.specs.Fitting.{sorts_in}
use Rattle.sessions.specs.Goals.{goal_of, is_fixed, are_fixed}
use Rattle.sessions.specs.Proved.{fact_with_values}
use Rattle.sessions.specs.Promised.Given.{answer_in}
use Rattle.sessions.specs.Promised.Promises.{AreForced, CoversSolutions, IsProved, IsProvedAlone, view_in}
use Rattle.sessions.specs.Promised.Together.{SolutionOfAll, AreProved, all_asked}
use Rattle.sessions.specs.Sessions.{IsSolvingOf}
use Rattle.sessions.specs.Promised.OwnValues.{is_unknown, are_own, SpeakOfOwn, SpeaksOfOwn}
use Rattle.sessions.specs.Foreign.{are_own_terms, is_unknown_term}
use Rattle.sessions.specs.Proving.{is_bound_term, HasUnknowns, speak_of_own, IsAnsweredBySolver, IsGoalAnswered}
use Rattle.sessions.specs.Questions.{AreFixedReferences}
use Rattle.sessions.specs.Promised.Subjects.{IsOfText}
use Rattle.sessions.specs.Tables.{count_of}
use Rattle.sessions.specs.Values.{unknowns_from, unknowns_of, values_in}
use Rattle.sessions.specs.declared.answers.ProveAnswer.TheVariants.{Yes}
use Rattle.sessions.proofs.Clauses.{supertraits-prove-no-more}
use Rattle.sessions.proofs.ElaboratedClauses.{IsFormedClause, all-are-fixed, elaborated-formed, levels-erased}
use Rattle.sessions.proofs.Filled.{values-fill}
use Rattle.sessions.proofs.OwnValues.{unknown-erased, own-erased, undeclared-erased}
use Rattle.sessions.proofs.PlainProofs.{plain-proof}
use Rattle.sessions.proofs.SeenPlainly.{rules-are, seen-begin, seen-erased}
use Rattle.sessions.proofs.WithoutLifetimes.{FieldsAreErased, erased-is}
use Rattle.sessions.proofs.Itself.{themselves, themselves-read}
use Rattle.sessions.proofs.ClosedValues.{IsGround, bools-are, chars-are, alike-each, label-plain, plain-ground, closed-each, closing, closing-solves, closing-reads, closed_value, closed-fit, closed-fill}
use Rattle.sessions.proofs.QuestionTerms.{is_own, so-below}
use Rattle.sessions.proofs.Refusals.{plain-erased}
use Rattle.sessions.proofs.FormedViews.{texts-views-are-formed}
use Rattle.sessions.proofs.TextQuestions.{fixed, clause-formed}
use Rattle.sessions.proofs.GivenTexts.{text-given}
use Rattle.type_terms.proofs.Matching.{or-false-left as no-left}

-- ---- trees of good labels
abbrev pub AllGood : (Label → Bool) → Trees → Type 0
AllGood good none = Unit {0}
AllGood good (tree l c o) = (good l ≡ true) × AllGood good c × AllGood good o

module _ (good : Label → Bool) (dyns : good dynamic ≡ true) (principals : (n t : ℕ) → good (principal n t) ≡ true) (autos : (t : ℕ) → good (auto_trait t) ≡ true) where
  last-good : (l : Label) (c o : Trees) → IsLast good l c o → AllGood good (tree l c o)
  last-good l c o x = (x.good_label, subst (AllGood good) (sym x.children) tt, subst (AllGood good) (sym x.rest) tt)

  none-good : (c : Trees) → is_no_tree c ≡ true → AllGood good c
  none-good c h = subst (AllGood good) (sym (no-tree c h)) tt

  all-good : (m : Standing) (t : Trees) → is_made good m t ≡ true → AllGood good t
  all-good terms none h = tt
  all-good terms (tree dynamic c o) h = (dyns, all-good bounds c (left (is_made good bounds c) _ h), all-good terms o (right (is_made good bounds c) _ h))
  all-good terms (tree (principal n i) c o) h = absurd (false-true h)
  all-good terms (tree (auto_trait i) c o) h = absurd (false-true h)
  all-good terms (tree (predicate k) c o) h = absurd (false-true h)
  all-good terms (tree l c o) h = let x = made-ordinary good l c o refl h in (x.0, all-good terms c x.2, all-good terms o x.3)
  all-good bounds none h = absurd (false-true h)
  all-good bounds (tree (principal n i) c o) h = (principals n i, all-good terms c (left (is_made good terms c) _ h), all-good traits o (right (is_made good terms c) _ h))
  all-good bounds (tree (auto_trait i) c o) h = (autos i, none-good c (left (is_no_tree c) _ h), all-good traits o (right (is_no_tree c) _ h))
  all-good bounds (tree (predicate k) c o) h = absurd (false-true h)
  all-good bounds (tree dynamic c o) h = absurd (never-dynamic-bound good c o h)
  all-good bounds (tree l c o) h = last-good l c o (last-bound good l c o refl h)
  all-good traits none h = absurd (false-true h)
  all-good traits (tree (auto_trait i) c o) h = (autos i, none-good c (left (is_no_tree c) _ h), all-good traits o (right (is_no_tree c) _ h))
  all-good traits (tree (predicate k) c o) h = absurd (false-true h)
  all-good traits (tree dynamic c o) h = absurd (never-dynamic good c o h)
  all-good traits (tree (principal n i) c o) h = absurd (never-principal good n i c o h)
  all-good traits (tree l c o) h = last-good l c o (last-trait good l c o refl h)

proper : (t : Trees) → HasLeaves t → IsProper t
proper none h = tt
proper (tree (infer k v) c o) h = (h.0 refl, proper o h.2)
proper (tree l c o) h = (proper c h.1, proper o h.2)

-- ---- what is asked for
pub clean-own : (ks : List Sort) (t : Trees) → AllGood (is_own ks) t → HasNoCanonical t
clean-own ks none h = tt
clean-own ks (tree (canonical k i) c o) h = absurd (false-true h.0)
clean-own ks (tree l c o) h = (clean-own ks c h.1, clean-own ks o h.2)

same-count : (s : Sort) (ks : List Sort) → number_of s ks ≡ count_of s ks
same-count s [] = refl
same-count s (k ∷ ks) = by (is_sort k s) (same-count s ks)
  where
    by : (b : Bool) → number_of s ks ≡ count_of s ks → (if b then suc (number_of s ks) else number_of s ks) ≡ (if b then suc (count_of s ks) else count_of s ks)
    by true e = ap suc e
    by false e = e

pub known : (ks : List Sort) (t : Trees) → AllGood (is_own ks) t → AreKnown (λ s. count_of s ks) t
known ks none h = tt
known ks (tree (infer s i) c o) h = (subst (λ n. i < n) (same-count s ks) (so-below i (number_of s ks) h.0), known ks c h.1, known ks o h.2)
known ks (tree l c o) h = (known ks c h.1, known ks o h.2)

-- where no type and no constant is bound, terms are written up to lifetimes once these are erased
all-plain : (t : Trees) → some_node is_bound_term t ≡ false → some_node is_unerased (erase t) ≡ false
all-plain none h = refl
all-plain (tree l c o) h =
    or-no (is_unerased (erase_label l) || some_node is_unerased (erase c)) (some_node is_unerased (erase o))
    (or-no (is_unerased (erase_label l)) (some_node is_unerased (erase c))
    (label-plain l (no-left (is_bound_term l) (some_node is_bound_term c) (no-left (is_bound_term l || some_node is_bound_term c) (some_node is_bound_term o) h))) (all-plain c (child-shut is_bound_term l c o h)))
    (all-plain o (next-shut is_bound_term l c o h))

children-plain : (t : Trees) → Plain t → Plain (children_of t)
children-plain none h = refl
children-plain (tree l c o) h = child-shut is_unerased l c o h

-- ---- where-clauses
pub clean-fixed : (t : Trees) → AllGood is_fixed t → HasNoCanonical t
clean-fixed none h = tt
clean-fixed (tree (canonical k i) c o) h = absurd (false-true h.0)
clean-fixed (tree l c o) h = (clean-fixed c h.1, clean-fixed o h.2)

pub fixed-instance : (s : Assignment) (t : Trees) → AllGood is_fixed t → instance s t ≡ erase t
fixed-instance s none h = refl
fixed-instance s (tree (infer of_type v) c o) h = absurd (false-true h.0)
fixed-instance s (tree (infer of_const v) c o) h = absurd (false-true h.0)
fixed-instance s (tree l c o) h = ap (λ z. tree (erase_label l) z (instance s o)) (fixed-instance s c h.1) ∙ ap (λ z. tree (erase_label l) (erase c) z) (fixed-instance s o h.2)

pub inner : {l : Label} {c d o p : Trees} → c ≡ d → o ≡ p → tree l c o ≡ tree l d p
inner e f = cc

-- values change nothing in which no unknown stands
pub filled-fixed : (ks : List Sort) (us : List Trees) (t : Trees) → AllGood is_fixed t → filled ks us (erase t) ≡ erase t
filled-fixed ks us none h = refl
filled-fixed ks us (tree (infer of_type v) c o) h = absurd (false-true h.0)
filled-fixed ks us (tree (infer of_const v) c o) h = absurd (false-true h.0)
filled-fixed ks us (tree (infer of_lifetime v) c o) h = inner (filled-fixed ks us c h.1) (filled-fixed ks us o h.2)
filled-fixed ks us (tree (param of_type i) c o) h = inner (filled-fixed ks us c h.1) (filled-fixed ks us o h.2)
filled-fixed ks us (tree (param of_const i) c o) h = inner (filled-fixed ks us c h.1) (filled-fixed ks us o h.2)
filled-fixed ks us (tree (param of_lifetime i) c o) h = inner (filled-fixed ks us c h.1) (filled-fixed ks us o h.2)
filled-fixed ks us (tree (placeholder of_type i) c o) h = inner (filled-fixed ks us c h.1) (filled-fixed ks us o h.2)
filled-fixed ks us (tree (placeholder of_const i) c o) h = inner (filled-fixed ks us c h.1) (filled-fixed ks us o h.2)
filled-fixed ks us (tree (placeholder of_lifetime i) c o) h = inner (filled-fixed ks us c h.1) (filled-fixed ks us o h.2)
filled-fixed ks us (tree (canonical of_type i) c o) h = inner (filled-fixed ks us c h.1) (filled-fixed ks us o h.2)
filled-fixed ks us (tree (canonical of_const i) c o) h = inner (filled-fixed ks us c h.1) (filled-fixed ks us o h.2)
filled-fixed ks us (tree (canonical of_lifetime i) c o) h = inner (filled-fixed ks us c h.1) (filled-fixed ks us o h.2)
filled-fixed ks us (tree (bound of_type j i) c o) h = inner (filled-fixed ks us c h.1) (filled-fixed ks us o h.2)
filled-fixed ks us (tree (bound of_const j i) c o) h = inner (filled-fixed ks us c h.1) (filled-fixed ks us o h.2)
filled-fixed ks us (tree (bound of_lifetime j i) c o) h = inner (filled-fixed ks us c h.1) (filled-fixed ks us o h.2)
filled-fixed ks us (tree l c o) h = inner (filled-fixed ks us c h.1) (filled-fixed ks us o h.2)

pub fixed-proper : (t : Trees) → are_fixed t ≡ true → IsProper t
fixed-proper t h = proper t (made-leaves is_fixed terms t h)

pub args-fixed : (t : Trees) → are_fixed t ≡ true → AllGood is_fixed t
args-fixed t h = all-good is_fixed refl (λ n i. refl) (λ i. refl) terms t h

clauses-instance : (s : Assignment) (F : List Reference) → AreFixedReferences F → instance s (trees_of_clauses F) ≡ trees_of_clauses (map erased_reference F)
clauses-instance s [] h = refl
clauses-instance s (r ∷ F) h =
    ap (λ z. tree (predicate (of_trait r.trait)) z (instance s (trees_of_clauses F))) (fixed-instance s r.args (args-fixed r.args (left (are_fixed r.args) _ h)))
    ∙ ap (λ z. tree (predicate (of_trait r.trait)) (erase r.args) z) (clauses-instance s F (right (are_fixed r.args) _ h))

clauses-proper : (F : List Reference) → AreFixedReferences F → IsProper (trees_of_clauses F)
clauses-proper [] h = tt
clauses-proper (r ∷ F) h = (proper r.args (made-leaves is_fixed terms r.args (left (are_fixed r.args) _ h)), clauses-proper F (right (are_fixed r.args) _ h))

pub clauses-clean : (F : List Reference) → AreFixedReferences F → HasNoCanonical (trees_of_clauses F)
clauses-clean [] h = tt
clauses-clean (r ∷ F) h = (clean-fixed r.args (args-fixed r.args (left (are_fixed r.args) _ h)), clauses-clean F (right (are_fixed r.args) _ h))

abbrev pub reference : ℕ → Trees → Reference
reference t x = record { trait = t; args = x }

pub clauses-erased : (rs : List Reference) → map erased_reference (unbound_references rs) ≡ map erased_reference rs
clauses-erased [] = refl
clauses-erased (r ∷ rs) = ap (λ z. reference r.trait z ∷ map erased_reference (unbound_references rs)) (plain-erased r.args) ∙ ap (λ zs. erased_reference r ∷ zs) (clauses-erased rs)

-- ---- values
pub over : {A B C : Type 0} (f : A → B) (g : B → C) (xs : List A) → map g (map f xs) ≡ map (λ x. g (f x)) xs
over f g [] = refl
over f g (x ∷ xs) = ap (λ zs. g (f x) ∷ zs) (over f g xs)

pub own-are : (t c : ℕ) (vs : List Variable) → own_from t c vs ≡ unknowns_from t c (map (λ v. v.kind) vs)
own-are t c [] = refl
own-are t c (v ∷ vs) = by v.kind (λ m k. own-are m k vs)
  where
    by : (k : Sort) → ((m n : ℕ) → own_from m n vs ≡ unknowns_from m n (map (λ w. w.kind) vs))
        → (elim k [ of_type ↦ leaf (infer of_type t) ∷ own_from (suc t) c vs | of_const ↦ leaf (infer of_const c) ∷ own_from t (suc c) vs | of_lifetime ↦ leaf (infer of_lifetime 0) ∷ own_from t c vs ])
        ≡ unknowns_from t c (k ∷ map (λ w. w.kind) vs)
    by of_type e = ap (λ us. leaf (infer of_type t) ∷ us) (e (suc t) c)
    by of_const e = ap (λ us. leaf (infer of_const c) ∷ us) (e t (suc c))
    by of_lifetime e = ap (λ us. leaf (infer of_lifetime 0) ∷ us) (e t c)

-- ---- a reference under where-clauses
module _ (d : Declarations) (text : IsOfText d) (c : ℕ) (items : List Entry) (decls : Items) (seen : AreSeen items decls d c) (ks : List Sort) (E : List Reference) (r : Reference)
    (each : (x : Reference) → In x E → IsFormedClause (written items decls) (sorts_in decls) x) where
  abbrev V : World
  V = written items decls

  abbrev sorts : Sorts
  sorts = sorts_in decls

  abbrev all : List Reference
  all = elaborate V E

  abbrev g : GoalTrees
  g = goal_of all r

  -- by the clauses alone
  declared : IsDeclaredWell V
  declared = tests-tell V (ap is_declared_well seen.written ∙ texts-seen-well text.0 d (text-given d text) c)

  formed : IsFormedView V sorts
  formed = texts-views-are-formed text.0 d (text-given d text) c items decls seen

  pub all-fixed : AreFixedReferences all
  all-fixed = all-are-fixed V sorts declared formed E each all (elaborated-formed V sorts declared formed E each)

  adds : AddSupertraits V (map erased_reference E) (map erased_reference all)
  adds x i =
      let m = map-in erased_reference all x i in
      subst (λ zs. In x zs) (sym (levels-erased V sorts declared formed E each))
      (subst (λ z. In z (map erased_reference (elaborated V E))) m.2 (in-map erased_reference (elaborated V E) m.0 (elaborated-only V declared.rank declared.acyclic E m.0 m.1)))

  fewer : (x : Reference) → HasProof V (map erased_reference all) x → HasProof V (map erased_reference E) x
  fewer x p = supertraits-prove-no-more V declared.rank declared.acyclic (map erased_reference E) (map erased_reference all) adds x p

  -- ---- up to lifetimes
  begin : SelfTypesBegin V
  begin = subst SelfTypesBegin (sym seen.written) (seen-begin text.0 d (text-given d text) c)

  erased : FieldsAreErased V
  erased = subst FieldsAreErased (sym seen.written) (seen-erased d c)

  abbrev cs : List CrateDecl
  cs = (view_in d c).crates

  view-is : view_in d c ≡ without_lifetimes V cs
  view-is = ap (λ (W : World). record W { crates = cs }) (sym (rules-are items decls d c seen.written)) ∙ erased-is V declared cs

  abbrev Solved : Type 0
  Solved = SolutionBy (HasProof (view_in d c) (map erased_reference E)) ks (erased_reference r)

  -- with these values it has a proof, and there is a solution
  abbrev IsProvedWith : List Trees → Type 0
  IsProvedWith ts = FitKinds ks ts × HasProof (view_in d c) (map erased_reference E) (filled_reference ks ts (erased_reference r)) × (HoldUnknownsAlone ts → Solved)

  -- the reference with a table's values
  abbrev Asked : List Binding → Type 0
  Asked bs = reference_in (fact_with_values bs g) ≡ filled_reference ks (values_in bs ks) (erased_reference r)

  -- the reference with closed terms for the unknowns without value
  abbrev closed_values : (fs : List Entry) (t : Table) → Ready fs t → (ty ct : Label) → IsGround ty ct → List Trees
  closed_values fs t ready ty ct is = map (closed_value fs t ready ty ct is) (unknowns_of ks)

  abbrev AskedClosed : (fs : List Entry) (t : Table) → Ready fs t → (ty ct : Label) → IsGround ty ct → Type 0
  AskedClosed fs t ready ty ct is = reference_in (fact_under (closing fs t ready ty ct is) g) ≡ filled_reference ks (closed_values fs t ready ty ct is) (erased_reference r)

  module _ (clean : HasNoCanonical r.args) (proper_args : IsProper r.args) (asked : (fs : List Entry) (t : Table) → Ready fs t → Asked (content fs t.values))
      (asked_closed : (fs : List Entry) (t : Table) (ready : Ready fs t) (ty ct : Label) (is : IsGround ty ct) → AskedClosed fs t ready ty ct is) where
    without : IsWithoutCanonical g
    without = record { environment = clauses-clean all all-fixed; predicate = (clean, tt) }

    -- ---- values that a table gives
    module _ (fs : List Entry) (t : Table) (ready : Ready fs t) where
      abbrev bs : List Binding
      bs = content fs t.values

      abbrev f : Fact
      f = fact_with_values bs g

      abbrev ts : List Trees
      ts = values_in bs ks

      clauses : clauses_of f.goal.environment ≡ map erased_reference all
      clauses =
          ap clauses_of (sym (themselves-read fs t ready g.environment (clauses-proper all all-fixed)) ∙ clauses-instance (themselves fs t ready) all all-fixed)
          ∙ references-come-back (map erased_reference all)

      abbrev x : Reference
      x = filled_reference ks ts (erased_reference r)

      -- it is plain, for nothing bound stands there
      plain-asked : some_node is_bound_term (resolved bs g.predicate) ≡ false → Plain x.args
      plain-asked unbound = subst (λ (y : Reference). Plain y.args) (asked fs t ready) (children-plain (erase (resolved bs g.predicate)) (all-plain (resolved bs g.predicate) unbound))

      -- ---- a solution
      module _ (ty ct : Label) (is : IsGround ty ct) where
        abbrev s : Assignment
        s = closing fs t ready ty ct is

        abbrev closed : Fact
        closed = fact_under s g

        closed-clauses : clauses_of closed.goal.environment ≡ map erased_reference all
        closed-clauses = ap clauses_of (clauses-instance s all all-fixed) ∙ references-come-back (map erased_reference all)

        abbrev y : Reference
        y = filled_reference ks (closed_values fs t ready ty ct is) (erased_reference r)

        closed-plain : some_node is_bound_term (resolved bs g.predicate) ≡ false → some_node is_unerased (instance s g.predicate) ≡ false
        closed-plain unbound = ap (some_node is_unerased) (closing-reads fs t ready ty ct is g.predicate (proper_args, tt)) ∙ plain-ground ty ct is (resolved bs g.predicate) unbound

        plain-there : some_node is_bound_term (resolved bs g.predicate) ≡ false → Plain y.args
        plain-there unbound = subst (λ (z : Reference). Plain z.args) (asked_closed fs t ready ty ct is) (children-plain (instance s g.predicate) (closed-plain unbound))

        pub closed-proof : some_node is_bound_term (resolved bs g.predicate) ≡ false → Lists.FactHasProof Fact (FollowsByView V) (is_coinductive_fact V) closed
            → HasProof (view_in d c) (map erased_reference E) y
        closed-proof unbound p =
            subst (λ (W : World). HasProof W (map erased_reference E) y) (sym view-is)
            (plain-proof V declared begin erased cs (map erased_reference E) y (plain-there unbound)
            (fewer y
            (subst (λ zs. HasProof V zs y) closed-clauses
            (subst (λ z. HasProof V (clauses_of closed.goal.environment) z) (asked_closed fs t ready ty ct is) (proofs-of-facts V closed refl (ap not (closed-plain unbound)) p)))))

        solution : some_node is_bound_term (resolved bs g.predicate) ≡ false → Lists.FactHasProof Fact (FollowsByView V) (is_coinductive_fact V) closed → HoldUnknownsAlone ts → Solved
        solution unbound p alone = record {
          values = closed_values fs t ready ty ct is;
          fitting = closed-fit fs t ready ty ct is ks;
          closed = closed-each ty ct is bs (unknowns_of ks) alone;
          proved = closed-proof unbound p;
        }

      -- the reference with the values of the table
      pub value-proof : some_node is_bound_term (resolved bs g.predicate) ≡ false → Lists.FactHasProof Fact (FollowsByView V) (is_coinductive_fact V) f
          → HasProof (view_in d c) (map erased_reference E) x
      value-proof unbound p =
          subst (λ (W : World). HasProof W (map erased_reference E) x) (sym view-is)
          (plain-proof V declared begin erased cs (map erased_reference E) x (plain-asked unbound)
          (fewer x
          (subst (λ zs. HasProof V zs x) clauses
          (subst (λ y. HasProof V (clauses_of f.goal.environment) y) (asked fs t ready) (proofs-of-facts V f refl (ap not (all-plain (resolved bs g.predicate) unbound)) p)))))

      module _ (unbound : some_node is_bound_term (resolved bs g.predicate) ≡ false)
          (solved : (ty ct : Label) (is : IsGround ty ct) → Lists.FactHasProof Fact (FollowsByView V) (is_coinductive_fact V) (fact_under (closing fs t ready ty ct is) g)) where
        first : HoldUnknownsAlone ts → Solved
        first alone = solution bool (value 0) bools-are unbound (solved bool (value 0) bools-are) alone

        second : HoldUnknownsAlone ts → Solved
        second alone = solution char (value 1) chars-are unbound (solved char (value 1) chars-are) alone

        -- if there is one alone, the values are that one
        pub forced : AreForced (view_in d c) ks (map erased_reference E) (erased_reference r) (answer_yes ts)
        unfolding first second solution
        forced = λ alone x only. alike-each bs (unknowns_of ks) (only (first alone) ∙ sym (only (second alone))) ∙ only (first alone)

        proved : Lists.FactHasProof Fact (FollowsByView V) (is_coinductive_fact V) f → IsProvedWith ts
        proved p = ((values-fill fs t ready ks).0, value-proof unbound p, (λ alone. first alone))

    values-are : (bs : List Binding) (xs : List Trees) → xs ≡ map (λ u. resolved bs u) (unknowns_from 0 0 ks) → map erase xs ≡ values_in bs ks
    values-are bs xs e = ap (map erase) e ∙ over (λ u. resolved bs u) erase (unknowns_from 0 0 ks)

    module _ (depth : ℕ) (es : List Entry) (values : Vec GenericArgKind) (h : IsGoalAnswered (solving_of items decls) depth ks g (unknowns_from 0 0 ks) es (Yes values)) where
      read-off : map (λ v. erase (arg_trees es v)) values.items ≡ values_in (content h.entries h.table.values) ks
      read-off = sym (over (arg_trees es) erase values.items) ∙ values-are (content h.entries h.table.values) (map (arg_trees es) values.items) h.are

      solved-so : (ty ct : Label) (is : IsGround ty ct) → Lists.FactHasProof Fact (FollowsByView V) (is_coinductive_fact V) (fact_under (closing h.entries h.table h.ready ty ct is) g)
      solved-so ty ct is = h.solved without (closing h.entries h.table h.ready ty ct is) (closing-solves h.entries h.table h.ready ty ct is)

      -- a yes is right
      pub yes-proves : (limit : ℕ) → IsProveAnswer limit (view_in d c) ks (map erased_reference E) (erased_reference r) (answer_in es (Yes values))
      yes-proves limit = subst IsProvedWith (sym read-off) (proved h.entries h.table h.ready h.unbound solved-so (h.proved without))

      -- and its values are forced
      pub yes-forced : AreForced (view_in d c) ks (map erased_reference E) (erased_reference r) (answer_in es (Yes values))
      yes-forced = subst (λ zs. AreForced (view_in d c) ks (map erased_reference E) (erased_reference r) (answer_yes zs)) (sym read-off) (forced h.entries h.table h.ready h.unbound solved-so)

-- ---- of unknowns of these kinds
module _ (ks : List Sort) (E : List Reference) (r : Reference) (own : is_made (is_own ks) terms r.args ≡ true) where
  pub good : AllGood (is_own ks) r.args
  good = all-good (is_own ks) refl (λ m t. refl) (λ t. refl) terms r.args own

  pub proper-args : IsProper r.args
  proper-args = proper r.args (made-leaves (is_own ks) terms r.args own)

  -- its arguments with a table's values, without lifetimes
  pub filled-args : (fs : List Entry) (t : Table) → Ready fs t → filled ks (values_in (content fs t.values) ks) (erase r.args) ≡ erase (resolved (content fs t.values) r.args)
  filled-args fs t ready = (values-fill fs t ready ks).1 r.args proper-args (known ks r.args good)

  pub asked-with : (F : List Reference) (fs : List Entry) (t : Table) (ready : Ready fs t)
      → reference_in (fact_with_values (content fs t.values) (goal_of F r)) ≡ filled_reference ks (values_in (content fs t.values) ks) (erased_reference r)
  asked-with F fs t ready =
      ap (λ z. reference r.trait (children_of z)) (sym (themselves-read fs t ready (goal_of F r).predicate (proper-args, tt)))
      ∙ ap (reference r.trait) (themselves-read fs t ready r.args proper-args)
      ∙ ap (reference r.trait) (sym (filled-args fs t ready))

  pub asked-closed : (F : List Reference) (fs : List Entry) (t : Table) (ready : Ready fs t) (ty ct : Label) (is : IsGround ty ct)
      → reference_in (fact_under (closing fs t ready ty ct is) (goal_of F r)) ≡ filled_reference ks (map (closed_value fs t ready ty ct is) (unknowns_of ks)) (erased_reference r)
  asked-closed F fs t ready ty ct is = ap (reference r.trait) (sym (closed-fill fs t ready ty ct is ks r.args proper-args (known ks r.args good)))

-- ---- questions
module _ (d : Declarations) (text : IsOfText d) (n : ℕ) (q : Question) (is : IsQuestion d n q) (s : Solving) (of : IsSolvingOf d q.asker s) where
  abbrev kinds : List Sort
  kinds = variable_kinds q

  abbrev E : List Reference
  E = unbound_references q.clauses

  abbrev asked : Reference
  asked = unbound_reference q.asked

  abbrev W : World
  W = written of.entries of.declarations

  pub own : is_made (is_own kinds) terms asked.args ≡ true
  own = (fixed text.0 d (text-given d text) (n - 1) q is.there of.entries of.declarations of.seen).own

  pub each : (x : Reference) → In x E → IsFormedClause W (sorts_in of.declarations) x
  each = clause-formed text.0 d (text-given d text) (n - 1) q is.there of.entries of.declarations of.seen

  abbrev U : World
  U = view_in d q.asker

  -- what is asked is unknown where it is so without lifetimes
  unknown : some_node is_unknown (erase q.asked.args) ≡ true → some_node is_unknown_term asked.args ≡ true
  unknown u = sym (unknown-erased asked.args) ∙ ap (some_node is_unknown) (plain-erased q.asked.args) ∙ u

  -- values that speak of what the view declares, of unknowns and of parameters that stand in references do so without lifetimes too
  pub own-there : (rs : List Reference) (xs : List Trees) → are_own_terms W (unbound_references rs ++ E) xs ≡ true → are_own U (map erased_reference rs ++ map erased_reference q.clauses) (map erase xs) ≡ true
  own-there rs xs h =
      ap (λ zs. are_own U (map erased_reference rs ++ zs) (map erase xs)) (sym (clauses-erased q.clauses))
      ∙ ap (λ zs. are_own U (zs ++ map erased_reference E) (map erase xs)) (sym (clauses-erased rs))
      ∙ ap (λ zs. are_own U zs (map erase xs)) (sym (map-append erased_reference (unbound_references rs) E))
      ∙ ap (λ (V : World). are_own V (map erased_reference (unbound_references rs ++ E)) (map erase xs)) (view-is d text q.asker of.entries of.declarations of.seen kinds E asked each)
      ∙ own-erased (without_lifetimes W (view_in d q.asker).crates) W (undeclared-erased W (view_in d q.asker).crates) (unbound_references rs ++ E) xs ∙ h

  -- so do those of a question about one reference
  pub speaks : (es : List Entry) (values : Vec GenericArgKind) → (HasUnknowns q → speak_of_own (solving_of of.entries of.declarations) q es values.items ≡ true)
      → SpeakOfOwn U (map erased_reference q.clauses) (erased_reference q.asked ∷ []) (map (λ v. erase (arg_trees es v)) values.items)
  speaks es values own u =
      ap (are_own U (erased_reference q.asked ∷ map erased_reference q.clauses)) (sym (over (arg_trees es) erase values.items))
      ∙ own-there (q.asked ∷ []) (map (arg_trees es) values.items) (own (unknown (either (some_node is_unknown (erase q.asked.args)) u)))
    where
      either : (b : Bool) → b || false ≡ true → b ≡ true
      either true h = refl
      either false h = absurd (false-true h)

  -- of what is asked, up to lifetimes
  as-asked : (P : List Reference → Reference → Type 0) → P (map erased_reference E) (erased_reference asked) → P (map erased_reference q.clauses) (erased_reference q.asked)
  as-asked P h = subst (λ F. P F (erased_reference q.asked)) (clauses-erased q.clauses) (subst (P (map erased_reference E)) (ap (reference q.asked.trait) (plain-erased q.asked.args)) h)

  -- what is promised of one reference alone
  pub one-alone : (limit : ℕ) (a : ProveAnswer) → q.further ≡ [] → AreProved U kinds (map erased_reference q.clauses) (erased_reference q.asked ∷ []) a
      → SpeaksOfOwn U (map erased_reference q.clauses) (erased_reference q.asked ∷ []) a → CoversSolutions U kinds (map erased_reference q.clauses) (erased_reference q.asked ∷ []) a
      → IsProvedAlone limit U kinds (map erased_reference q.clauses) (erased_reference q.asked) a → IsProved limit d q a
  one-alone limit a e proved own covers alone =
      let same : erased_reference q.asked ∷ [] ≡ all_asked q = ap (λ rs. erased_reference q.asked ∷ map erased_reference rs) (sym e) in (
        subst (λ rs. AreProved U kinds (map erased_reference q.clauses) rs a) same proved,
        subst (λ rs. SpeaksOfOwn U (map erased_reference q.clauses) rs a) same own,
        subst (λ rs. CoversSolutions U kinds (map erased_reference q.clauses) rs a) same covers,
        λ _. alone,
      )

  -- a solution of one reference is one of all
  as-all : (H : Reference → Type 0) (r : Reference) → SolutionBy H kinds r → SolutionOfAll H kinds (r ∷ [])
  as-all H r sol = record { values = sol.values; fitting = sol.fitting; closed = sol.closed; proved = (sol.proved, tt) }

  -- such an answer is right, if it covers the solutions
  pub yes : (limit depth : ℕ) (es : List Entry) (values : Vec GenericArgKind) → q.further ≡ [] → IsAnsweredBySolver s depth q es (Yes values)
      → CoversSolutions U kinds (map erased_reference q.clauses) (erased_reference q.asked ∷ []) (answer_in es (Yes values)) → IsProved limit d q (answer_in es (Yes values))
  yes limit depth es values e h covers =
      let told = subst (λ (x : Solving). IsAnsweredBySolver x depth q es (Yes values)) of.is h in
      let searched = subst (λ us. IsGoalAnswered (solving_of of.entries of.declarations) depth kinds (goal_of (elaborate W E) asked) us es (Yes values)) (own-are 0 0 q.variables) told.0 in
      let clean = clean-own kinds asked.args (good kinds E asked own) in
      let right =
      as-asked (λ F x. IsProveAnswer limit (view_in d q.asker) kinds F x (answer_in es (Yes values)))
      (yes-proves d text q.asker of.entries of.declarations of.seen kinds E asked each clean (proper-args kinds E asked own)
      (asked-with kinds E asked own (elaborate W E)) (asked-closed kinds E asked own (elaborate W E)) depth es values searched limit) in
      one-alone limit (answer_in es (Yes values)) e
      (right.0, (right.1, tt), λ alone. as-all (HasProof U (map erased_reference q.clauses)) (erased_reference q.asked) (right.2 alone))
      (speaks es values told.1)
      covers (
        right,
        as-asked (λ F x. AreForced (view_in d q.asker) kinds F x (answer_in es (Yes values)))
            (yes-forced d text q.asker of.entries of.declarations of.seen kinds E asked each clean (proper-args kinds E asked own)
            (asked-with kinds E asked own (elaborate W E)) (asked-closed kinds E asked own (elaborate W E)) depth es values searched),
        tt,
      )
