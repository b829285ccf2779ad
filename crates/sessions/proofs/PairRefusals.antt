-- The goals of a pair of impls, over a table that makes their headers equal: of open places they hold the table's unknowns alone. One that
-- is refused has no solution.
use Rattle.std.proofs.Common.{◌≡◌, ℕ, zero, suc, ◌+◌, ◌<◌, arith, Bool, true, false, not, if◌then◌else◌, IsTrue, List, [], ◌∷◌, ◌++◌, map, refl, sym, ap, ◌∙◌, subst, is_some, ◌||◌, unwrap_or}
use Rattle.std.specs.List.{slice_get}
use Rattle.type_terms.specs.Promised.Label.{Label, Sort, of_type, of_const, of_lifetime, of_trait, predicate, param, placeholder, infer, canonical, bound, static}
use Rattle.type_terms.specs.Promised.Trees.{Trees, none, tree, leaf, ◌+++◌, erase, erase_label, some_node}
use Rattle.type_terms.specs.Promised.Worlds.{Reference}
use Rattle.type_terms.specs.Promised.Proofs.{Every}
use Rattle.type_terms.specs.Promised.Answers.{is_open, is_closed}
use Rattle.type_terms.proofs.Fitting.{child-shut, next-shut, or-no}
use Rattle.type_terms.specs.Made.{terms, is_made, is_in_range}
use Rattle.type_terms.specs.Promised.Handles.{Entry, Has, trees_at}
use Rattle.type_terms.specs.Terms.{Lawful, args_lists}
use Rattle.type_terms.proofs.Made.{made-weaker}
use Rattle.term_folds.specs.declared.predicate.TraitRef.{TraitRef}
use Rattle.declarations.specs.Held.{ReferenceHeld}
use Rattle.declarations.specs.Items.{reference_in}
use Rattle.infer_table.specs.Canonical.{GoalTrees, canonical_form, kind_of_leaf, leaves, with_label, is_label_among}
use Rattle.infer_table.specs.Content.{Table, content, variables_of, Ready, IsProper}
use Rattle.infer_table.specs.Covers.{AreKnown, IsOfKnown}
use Rattle.infer_table.specs.Responses.{AnswerTrees}
use Rattle.infer_table.specs.Solutions.{Binding, resolved}
use Rattle.infer_table.specs.WellFormed.{is_numbered}
use Rattle.infer_table.proofs.ContentFacts.{is-trees}
use Rattle.infer_table.proofs.Places.{in_terms, AreTrees, trees-of, trees-proper, numbered}
use Rattle.infer_table.proofs.SolutionLaws.{resolved-none, resolved-rigid}
use Rattle.goal_evaluator.specs.FrameTables.{kinds_known}
use Rattle.candidate_model.specs.Meaning.{ViewMeaning, SolutionPlace, proved_at}
use Rattle.candidate_model.specs.Solver.{has_placeholder, solver_handled}
use Rattle.overlap_check.specs.Goals.{repeated, unknown_kinds}
use Rattle.overlap_check.specs.Headers.{IsOfTable, resolved_reference}
use Rattle.type_terms.specs.Promised.Questions.{FitKinds, of_kind, filled, filled_reference}
use Rattle.overlap_check.proofs.Posed.{values-are-of-solutions}
use Rattle.overlap_check.proofs.Solved.{ready-facts}
use Rattle.text_lowering.specs.QuestionVariables.{number_of}
use Rattle.sessions.specs.Asking.{goal_alone}
use Rattle.pair_checks.specs.Impossible.{resolved_alone, HasNoProofInWorlds}
use Rattle.sessions.proofs.Given.{IsPlaced, placed-at}
use Rattle.type_terms.proofs.Matching.{or-false-left as no-left}
use Rattle.type_terms.proofs.BooleanBasics.{true-false as no-true}
use Rattle.sessions.proofs.Basics.{all-consts, types-skipped}
use Rattle.sessions.proofs.Alone.{same-goal}

-- ---- open places that get no value: parameters, placeholders, bound and canonical variables that are types or constants
abbrev pub is_place : Label → Bool
is_place (param of_type i) = true
is_place (param of_const i) = true
is_place (placeholder of_type i) = true
is_place (placeholder of_const i) = true
is_place (canonical of_type i) = true
is_place (canonical of_const i) = true
is_place (bound of_type k i) = true
is_place (bound of_const k i) = true
is_place l = false

abbrev pub HasNoPlace : Trees → Type 0
HasNoPlace t = some_node is_place t ≡ false

first-fine : (l : Label) (c o : Trees) → HasNoPlace (tree l c o) → is_place l ≡ false
first-fine l c o h = no-left (is_place l) (some_node is_place c) (no-left (is_place l || some_node is_place c) (some_node is_place o) h)

free-node : (p : Label → Bool) (l : Label) (c o : Trees) → p l ≡ false → some_node p c ≡ false → some_node p o ≡ false → some_node p (tree l c o) ≡ false
free-node p l c o a b e = or-no (p l || some_node p c) (some_node p o) (or-no (p l) (some_node p c) a b) e

append-last : (p : Label → Bool) (a b : Trees) → some_node p (a +++ b) ≡ false → some_node p b ≡ false
append-last p none b h = h
append-last p (tree l c o) b h = append-last p o b (next-shut p l c (o +++ b) h)

-- ---- what is closed with values put in has none
module _ (ks : List Sort) (vs : List Trees) where
  abbrev Shut : Trees → Type 0
  Shut x = some_node is_open (filled ks vs (erase x)) ≡ false

  no-children : (c : Trees) → c ≡ none → HasNoPlace c
  no-children c e = ap (some_node is_place) e

  pub no-places : (x : Trees) → IsProper x → Shut x → HasNoPlace x
  no-places none p h = refl
  no-places (tree (infer of_type i) c o) p h =
      free-node is_place (infer of_type i) c o refl (no-children c p.0)
      (no-places o p.1 (append-last is_open (unwrap_or (slice_get (of_kind of_type ks vs) i) (leaf (infer of_type i))) (filled ks vs (erase o)) h))
  no-places (tree (infer of_const i) c o) p h =
      free-node is_place (infer of_const i) c o refl (no-children c p.0)
      (no-places o p.1 (append-last is_open (unwrap_or (slice_get (of_kind of_const ks vs) i) (leaf (infer of_const i))) (filled ks vs (erase o)) h))
  no-places (tree (infer of_lifetime i) c o) p h =
      free-node is_place (infer of_lifetime i) c o refl (no-children c p.0) (no-places o p.1 (next-shut is_open static (filled ks vs (erase c)) (filled ks vs (erase o)) h))
  no-places (tree (param of_type i) c o) p h = absurd (no-true h)
  no-places (tree (param of_const i) c o) p h = absurd (no-true h)
  no-places (tree (param of_lifetime i) c o) p h =
      free-node is_place (param of_lifetime i) c o refl (no-places c p.0 (child-shut is_open static (filled ks vs (erase c)) (filled ks vs (erase o)) h)) (no-places o p.1 (next-shut is_open static (filled ks vs (erase c)) (filled ks vs (erase o)) h))
  no-places (tree (placeholder of_type i) c o) p h = absurd (no-true h)
  no-places (tree (placeholder of_const i) c o) p h = absurd (no-true h)
  no-places (tree (placeholder of_lifetime i) c o) p h =
      free-node is_place (placeholder of_lifetime i) c o refl (no-places c p.0 (child-shut is_open static (filled ks vs (erase c)) (filled ks vs (erase o)) h)) (no-places o p.1 (next-shut is_open static (filled ks vs (erase c)) (filled ks vs (erase o)) h))
  no-places (tree (canonical of_type i) c o) p h = absurd (no-true h)
  no-places (tree (canonical of_const i) c o) p h = absurd (no-true h)
  no-places (tree (canonical of_lifetime i) c o) p h =
      free-node is_place (canonical of_lifetime i) c o refl (no-places c p.0 (child-shut is_open static (filled ks vs (erase c)) (filled ks vs (erase o)) h)) (no-places o p.1 (next-shut is_open static (filled ks vs (erase c)) (filled ks vs (erase o)) h))
  no-places (tree (bound of_type k i) c o) p h = absurd (no-true h)
  no-places (tree (bound of_const k i) c o) p h = absurd (no-true h)
  no-places (tree (bound of_lifetime k i) c o) p h =
      free-node is_place (bound of_lifetime k i) c o refl (no-places c p.0 (child-shut is_open static (filled ks vs (erase c)) (filled ks vs (erase o)) h)) (no-places o p.1 (next-shut is_open static (filled ks vs (erase c)) (filled ks vs (erase o)) h))
  no-places (tree l c o) p h =
      free-node is_place l c o refl (no-places c p.0 (child-shut is_open (erase_label l) (filled ks vs (erase c)) (filled ks vs (erase o)) h)) (no-places o p.1 (next-shut is_open (erase_label l) (filled ks vs (erase c)) (filled ks vs (erase o)) h))

-- ---- what has none is closed with closed values for a table's unknowns
types-first : (n : ℕ) (js : List Sort) → number_of of_type (repeated of_type n ++ js) ≡ n + number_of of_type js
types-first zero js = none-first (number_of of_type js)
  where
    none-first : (n : ℕ) → n ≡ 0 + n
    none-first n = omega arith
types-first (suc n) js = ap suc (types-first n js) ∙ one-first n (number_of of_type js)
  where
    one-first : (n m : ℕ) → suc (n + m) ≡ suc n + m
    one-first n m = omega arith

module _ (t : Table) (vs : List Trees) (fit : FitKinds (unknown_kinds t) vs) (closed : Every (λ v. IsTrue (is_closed v)) vs) where
  abbrev ks : List Sort
  ks = unknown_kinds t

  type-placed : (i : ℕ) → i < t.ty_vars → IsPlaced of_type (slice_get (of_kind of_type ks vs) i)
  type-placed i h = placed-at of_type ks vs fit closed i (let e = types-first t.ty_vars (repeated of_const t.const_vars) in omega (arith, h, e))

  const-placed : (i : ℕ) → i < t.const_vars → IsPlaced of_const (slice_get (of_kind of_const ks vs) i)
  const-placed i h = placed-at of_const ks vs fit closed i (let e = types-skipped t.ty_vars (repeated of_const t.const_vars) in let f = all-consts t.const_vars in omega (arith, h, e, f))

  value-shut : (s : Sort) (i : ℕ) (o : Trees) → IsPlaced s (slice_get (of_kind s ks vs) i) → some_node is_open o ≡ false
      → some_node is_open (unwrap_or (slice_get (of_kind s ks vs) i) (leaf (infer s i)) +++ o) ≡ false
  value-shut s i o at e =
      ap (λ v. some_node is_open (unwrap_or v (leaf (infer s i)) +++ o)) at.is
      ∙ or-no (is_open at.label || some_node is_open at.children) (some_node is_open o) (no-left (is_open at.label || some_node is_open at.children) false at.closed) e

  nothing-open : (c : Trees) → c ≡ none → some_node is_open (filled ks vs (erase c)) ≡ false
  nothing-open c e = ap (λ z. some_node is_open (filled ks vs (erase z))) e

  pub filled-shut : (x : Trees) → IsProper x → AreKnown (variables_of t) x → HasNoPlace x → some_node is_open (filled ks vs (erase x)) ≡ false
  filled-shut none p k h = refl
  filled-shut (tree (infer of_type i) c o) p k h =
      value-shut of_type i (filled ks vs (erase o)) (type-placed i k.0) (filled-shut o p.1 k.2 (next-shut is_place (infer of_type i) c o h))
  filled-shut (tree (infer of_const i) c o) p k h =
      value-shut of_const i (filled ks vs (erase o)) (const-placed i k.0) (filled-shut o p.1 k.2 (next-shut is_place (infer of_const i) c o h))
  filled-shut (tree (infer of_lifetime i) c o) p k h =
      free-node is_open static (filled ks vs (erase c)) (filled ks vs (erase o)) refl (nothing-open c p.0) (filled-shut o p.1 k.2 (next-shut is_place (infer of_lifetime i) c o h))
  filled-shut (tree (param of_type i) c o) p k h = absurd (no-true h)
  filled-shut (tree (param of_const i) c o) p k h = absurd (no-true h)
  filled-shut (tree (placeholder of_type i) c o) p k h = absurd (no-true h)
  filled-shut (tree (placeholder of_const i) c o) p k h = absurd (no-true h)
  filled-shut (tree (canonical of_type i) c o) p k h = absurd (no-true h)
  filled-shut (tree (canonical of_const i) c o) p k h = absurd (no-true h)
  filled-shut (tree (bound of_type j i) c o) p k h = absurd (no-true h)
  filled-shut (tree (bound of_const j i) c o) p k h = absurd (no-true h)
  filled-shut (tree (param of_lifetime i) c o) p k h =
      free-node is_open static (filled ks vs (erase c)) (filled ks vs (erase o)) refl (filled-shut c p.0 k.0 (child-shut is_place (param of_lifetime i) c o h)) (filled-shut o p.1 k.1 (next-shut is_place (param of_lifetime i) c o h))
  filled-shut (tree (placeholder of_lifetime i) c o) p k h =
      free-node is_open static (filled ks vs (erase c)) (filled ks vs (erase o)) refl (filled-shut c p.0 k.0 (child-shut is_place (placeholder of_lifetime i) c o h)) (filled-shut o p.1 k.1 (next-shut is_place (placeholder of_lifetime i) c o h))
  filled-shut (tree (canonical of_lifetime i) c o) p k h =
      free-node is_open static (filled ks vs (erase c)) (filled ks vs (erase o)) refl (filled-shut c p.0 k.0 (child-shut is_place (canonical of_lifetime i) c o h)) (filled-shut o p.1 k.1 (next-shut is_place (canonical of_lifetime i) c o h))
  filled-shut (tree (bound of_lifetime j i) c o) p k h =
      free-node is_open static (filled ks vs (erase c)) (filled ks vs (erase o)) refl (filled-shut c p.0 k.0 (child-shut is_place (bound of_lifetime j i) c o h)) (filled-shut o p.1 k.1 (next-shut is_place (bound of_lifetime j i) c o h))
  filled-shut (tree l c o) p k h =
      free-node is_open (erase_label l) (filled ks vs (erase c)) (filled ks vs (erase o)) refl (filled-shut c p.0 k.0 (child-shut is_place l c o h)) (filled-shut o p.1 k.1 (next-shut is_place l c o h))

-- ---- no placeholder is a variable of the form
abbrev AllFine : List Label → Type 0
AllFine [] = Unit {0}
AllFine (l ∷ ls) = (is_place l ≡ false) × AllFine ls

one-fine : (l : Label) (ls : List Label) → is_place l ≡ false → has_placeholder (kinds_known (map kind_of_leaf ls)) ≡ false → has_placeholder (kinds_known (kind_of_leaf l ∷ map kind_of_leaf ls)) ≡ false
one-fine (infer of_type i) ls h e = e
one-fine (infer of_const i) ls h e = e
one-fine (infer of_lifetime i) ls h e = e
one-fine (param of_type i) ls h e = absurd (no-true h)
one-fine (param of_const i) ls h e = absurd (no-true h)
one-fine (param of_lifetime i) ls h e = e
one-fine (placeholder of_type i) ls h e = absurd (no-true h)
one-fine (placeholder of_const i) ls h e = absurd (no-true h)
one-fine (placeholder of_lifetime i) ls h e = e
one-fine static ls h e = e
one-fine l ls h e = e

kinds-fine : (ls : List Label) → AllFine ls → has_placeholder (kinds_known (map kind_of_leaf ls)) ≡ false
kinds-fine [] h = refl
kinds-fine (l ∷ ls) h = one-fine l ls h.0 (kinds-fine ls h.1)

behind-fine : (ls : List Label) (l : Label) → AllFine ls → is_place l ≡ false → AllFine (ls ++ l ∷ [])
behind-fine [] l a h = (h, tt)
behind-fine (m ∷ ls) l a h = (a.0, behind-fine ls l a.1 h)

with-fine : (l : Label) (seen : List Label) → is_place l ≡ false → AllFine seen → AllFine (with_label l seen)
with-fine l seen h a = by (is_label_among l seen)
  where
    by : (b : Bool) → AllFine (if b then seen else seen ++ l ∷ [])
    by true = a
    by false = behind-fine seen l a h

leaves-fine : (t : Trees) → HasNoPlace t → (seen : List Label) → AllFine seen → AllFine (leaves kind_of_leaf seen t)
leaves-fine none h seen a = a
leaves-fine (tree l c o) h seen a = leaves-fine o (next-shut is_place l c o h) _ (leaves-fine c (child-shut is_place l c o h) _ (by (is_some (kind_of_leaf l))))
  where
    by : (b : Bool) → AllFine (if b then with_label l seen else seen)
    by true = with-fine l seen (first-fine l c o h) a
    by false = a

no-placeholder : (r : Reference) → HasNoPlace r.args → has_placeholder (kinds_known (canonical_form (goal_alone r)).kinds) ≡ false
no-placeholder r h = kinds-fine (leaves kind_of_leaf [] r.args) (leaves-fine r.args h [] tt)

-- ---- a goal over a table
made : (es : List Entry) → Lawful es → (i : ℕ) → Has es args_lists i → AreTrees is_numbered in_terms (trees_at es i)
made es lawful i h =
    trees-of is_numbered terms (trees_at es i)
    (made-weaker is_in_range is_numbered numbered terms (trees_at es i) (subst (λ t. is_made is_in_range terms t ≡ true) (sym (is-trees es args_lists i h.0 h.1)) ((lawful.made i _ h.1).as_terms (λ e. cc))))

args-same : (a b : Reference) → a ≡ b → a.args ≡ b.args
args-same a b e = ap (λ (r : Reference). r.args) e

module _ (es : List Entry) (law : Lawful es) (t : Table) (ready : Ready es t) (r : TraitRef) (held : ReferenceHeld es r) (of : IsOfTable es t r) where
  abbrev bs : List Binding
  bs = content es t.values

  -- its trees, with the values that the table has
  abbrev pub goal_over : Reference
  goal_over = record { trait = r.def_id.index; args = resolved bs (trees_at es r.args.0) }

  pub goal-proper : IsProper (resolved bs (trees_at es r.args.0))
  goal-proper = (ready-facts es t ready).proper (trees_at es r.args.0) (trees-proper is_numbered in_terms (trees_at es r.args.0) (made es law r.args.0 held))

  pub is-alone : resolved_alone es t r ≡ goal_alone goal_over
  is-alone =
      same-goal _ _ _ _ (resolved-none bs)
      (resolved-rigid bs (predicate (of_trait r.def_id.index)) (trees_at es r.args.0) none refl ∙ ap (λ o. tree (predicate (of_trait r.def_id.index)) (resolved bs (trees_at es r.args.0)) o) (resolved-none bs))

  module _ (free : HasNoPlace goal_over.args) (known : IsOfKnown (variables_of t) bs) (applicable : AnswerTrees → Bool) (same : AnswerTrees → AnswerTrees → Bool) (m : ViewMeaning)
      (refused : HasNoProofInWorlds (λ mode f. solver_handled applicable same m mode f) es t r) where
    pub unproved : (p : SolutionPlace m) (ts : List Trees) → FitKinds (unknown_kinds t) ts → Every (λ v. IsTrue (is_closed v)) ts
        → proved_at p (filled_reference (unknown_kinds t) ts (resolved_reference bs (reference_in es r))) → ⊥
    unproved p ts fit closed proof =
        let s = values-are-of-solutions es law t ready ts fit in
        let e = s.2 r held of in
        refused known of
        (record {
          place = p;
          no_clauses = subst (λ (g : GoalTrees). (canonical_form g).goal.environment ≡ none) (sym is-alone) refl;
          no_placeholders = subst (λ (g : GoalTrees). has_placeholder (kinds_known (canonical_form g).kinds) ≡ false) (sym is-alone) (no-placeholder goal_over free);
        })
        s.0 s.1
        (record {
          asks = refl;
          proper = refl;
          closed = ap not (ap (some_node is_open) (args-same _ _ e) ∙ filled-shut t ts fit closed goal_over.args goal-proper of.known free);
          proof = subst (proved_at p) (sym e) proof;
        })
