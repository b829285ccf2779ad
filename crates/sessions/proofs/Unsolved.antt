-- Values for the variables of a question, and goals without parameters.
use Rattle.std.proofs.Common.{◌≡◌, ℕ, Bool, true, false, ◌||◌, IsTrue, List, [], ◌∷◌, map, refl, ap, ◌∙◌}
use Rattle.std.specs.List.{slice_get}
use Rattle.type_terms.specs.Promised.Label.{Label, Sort, of_type, of_const, of_lifetime, param, placeholder, infer, canonical, bound, fn_ptr, principal, static}
use Rattle.type_terms.specs.Promised.Trees.{Trees, none, tree, erase, erase_label, some_node}
use Rattle.type_terms.specs.Promised.Erased.{erased_reference}
use Rattle.type_terms.specs.Promised.Worlds.{Reference}
use Rattle.type_terms.specs.Promised.Proofs.{Every}
use Rattle.type_terms.specs.Promised.Answers.{is_open, is_closed}
use Rattle.type_terms.specs.Promised.Questions.{FitKinds, of_kind, filled, is_bound_place}
use Rattle.type_terms.proofs.Fitting.{child-shut, next-shut}
use Rattle.type_terms.proofs.Matching.{or-false-left as no-left}
use Rattle.type_terms.proofs.BooleanBasics.{true-false}
use Rattle.infer_table.specs.Canonical.{kind_of_leaf}
use Rattle.infer_table.specs.Content.{variables_of}
use Rattle.infer_table.specs.Covers.{AreKnown}
use Rattle.infer_table.specs.Solutions.{Assignment, instance}
use Rattle.goal_evaluator.specs.FrameTables.{kinds_known}
use Rattle.candidate_model.specs.Solver.{has_placeholder}
use Rattle.overlap_check.proofs.Filling.{node}
use Rattle.text_lowering.specs.QuestionVariables.{number_of}
use Rattle.sessions.specs.Tables.{count_of, table_of}
use Rattle.sessions.proofs.Given.{given, IsPlaced, placed-at, joined, shut-node, shut-value}
use Rattle.sessions.proofs.ProvedQuestions.{AllGood}
use Rattle.sessions.proofs.QuestionTerms.{is_own, so-below}

abbrev pub NoPlace : Trees → Type 0
NoPlace t = some_node is_bound_place (erase t) ≡ false

-- ---- values for the question's variables
module _ (ks : List Sort) (ts : List Trees) (fit : FitKinds ks ts) (shut : Every (λ t. IsTrue (is_closed t)) ts) where
  abbrev S : Assignment
  S = given ks ts

  value-at : (s : Sort) (i : ℕ) → is_own ks (infer s i) ≡ true → IsPlaced s (slice_get (of_kind s ks ts) i)
  value-at s i h = placed-at s ks ts fit shut i (so-below i (number_of s ks) h)

  pub filled-is : (t : Trees) → AllGood (is_own ks) t → instance S t ≡ filled ks ts (erase t)
  filled-is none h = refl
  filled-is (tree (infer of_type i) c o) h = joined ks ts fit shut of_type i (instance S o) (filled ks ts (erase o)) (value-at of_type i h.0) (filled-is o h.2)
  filled-is (tree (infer of_const i) c o) h = joined ks ts fit shut of_const i (instance S o) (filled ks ts (erase o)) (value-at of_const i h.0) (filled-is o h.2)
  filled-is (tree (infer of_lifetime i) c o) h = node refl (filled-is c h.1) (filled-is o h.2)
  filled-is (tree (param of_type i) c o) h = node refl (filled-is c h.1) (filled-is o h.2)
  filled-is (tree (param of_const i) c o) h = node refl (filled-is c h.1) (filled-is o h.2)
  filled-is (tree (param of_lifetime i) c o) h = node refl (filled-is c h.1) (filled-is o h.2)
  filled-is (tree (placeholder of_type i) c o) h = node refl (filled-is c h.1) (filled-is o h.2)
  filled-is (tree (placeholder of_const i) c o) h = node refl (filled-is c h.1) (filled-is o h.2)
  filled-is (tree (placeholder of_lifetime i) c o) h = node refl (filled-is c h.1) (filled-is o h.2)
  filled-is (tree (canonical of_type i) c o) h = node refl (filled-is c h.1) (filled-is o h.2)
  filled-is (tree (canonical of_const i) c o) h = node refl (filled-is c h.1) (filled-is o h.2)
  filled-is (tree (canonical of_lifetime i) c o) h = node refl (filled-is c h.1) (filled-is o h.2)
  filled-is (tree (bound of_type i j) c o) h = node refl (filled-is c h.1) (filled-is o h.2)
  filled-is (tree (bound of_const i j) c o) h = node refl (filled-is c h.1) (filled-is o h.2)
  filled-is (tree (bound of_lifetime i j) c o) h = node refl (filled-is c h.1) (filled-is o h.2)
  filled-is (tree l c o) h = node refl (filled-is c h.1) (filled-is o h.2)

  -- ---- nothing open is left
  first-no : (l : Label) (c o : Trees) → NoPlace (tree l c o) → is_bound_place (erase_label l) ≡ false
  first-no l c o b =
      no-left (is_bound_place (erase_label l)) (some_node is_bound_place (erase c))
      (no-left (is_bound_place (erase_label l) || some_node is_bound_place (erase c)) (some_node is_bound_place (erase o)) b)

  child-no : (l : Label) (c o : Trees) → NoPlace (tree l c o) → NoPlace c
  child-no l c o b = child-shut is_bound_place (erase_label l) (erase c) (erase o) b

  next-no : (l : Label) (c o : Trees) → NoPlace (tree l c o) → NoPlace o
  next-no l c o b = next-shut is_bound_place (erase_label l) (erase c) (erase o) b

  open-so : (l : Label) → is_bound_place (erase_label l) ≡ false → ((s : Sort) (i : ℕ) → l ≡ infer s i → ⊥) → is_open (erase_label l) ≡ false
  open-so (infer s i) h n = absurd (n s i refl)
  open-so (param of_lifetime i) h n = refl
  open-so (param of_type i) h n = h
  open-so (param of_const i) h n = h
  open-so (placeholder of_lifetime i) h n = refl
  open-so (placeholder of_type i) h n = h
  open-so (placeholder of_const i) h n = h
  open-so (canonical of_lifetime i) h n = refl
  open-so (canonical of_type i) h n = h
  open-so (canonical of_const i) h n = h
  open-so (bound of_lifetime j i) h n = refl
  open-so (bound of_type j i) h n = h
  open-so (bound of_const j i) h n = h
  open-so (fn_ptr k) h n = refl
  open-so (principal k t) h n = refl
  open-so l h n = refl

  pub shut-is : (t : Trees) → AllGood (is_own ks) t → NoPlace t → some_node is_open (instance S t) ≡ false
  shut-is none h b = refl
  shut-is (tree (infer of_type i) c o) h b = shut-value ks ts fit shut of_type i (instance S o) (value-at of_type i h.0) (shut-is o h.2 (next-no (infer of_type i) c o b))
  shut-is (tree (infer of_const i) c o) h b = shut-value ks ts fit shut of_const i (instance S o) (value-at of_const i h.0) (shut-is o h.2 (next-no (infer of_const i) c o b))
  shut-is (tree (infer of_lifetime i) c o) h b =
      shut-node ks ts fit shut static (instance S c) (instance S o) refl (shut-is c h.1 (child-no (infer of_lifetime i) c o b)) (shut-is o h.2 (next-no (infer of_lifetime i) c o b))
  shut-is (tree l c o) h b =
      shut-node ks ts fit shut (erase_label l) (instance S c) (instance S o) (open-so l (first-no l c o b) (λ s i e. cc)) (shut-is c h.1 (child-no l c o b)) (shut-is o h.2 (next-no l c o b))

-- ---- the goal
abbrev pub is_place : Label → Bool
is_place l = is_bound_place (erase_label l)

pub same-nodes : (t : Trees) → some_node is_place t ≡ some_node is_bound_place (erase t)
same-nodes none = refl
same-nodes (tree l c o) = ap (λ b. is_place l || b || some_node is_place o) (same-nodes c) ∙ ap (λ b. is_place l || some_node is_bound_place (erase c) || b) (same-nodes o)

pub one-fine : (l : Label) (ls : List Label) → is_place l ≡ false → has_placeholder (kinds_known (map kind_of_leaf ls)) ≡ false → has_placeholder (kinds_known (kind_of_leaf l ∷ map kind_of_leaf ls)) ≡ false
one-fine (infer of_type i) ls h e = e
one-fine (infer of_const i) ls h e = e
one-fine (infer of_lifetime i) ls h e = e
one-fine (param of_type i) ls h e = absurd (true-false h)
one-fine (param of_const i) ls h e = absurd (true-false h)
one-fine (param of_lifetime i) ls h e = e
one-fine (placeholder of_type i) ls h e = absurd (true-false h)
one-fine (placeholder of_const i) ls h e = absurd (true-false h)
one-fine (placeholder of_lifetime i) ls h e = e
one-fine static ls h e = e
one-fine l ls h e = e

pub known-there : (ks : List Sort) (t : Trees) → AreKnown (λ s. count_of s ks) t → AreKnown (variables_of (table_of ks)) t
known-there ks none h = tt
known-there ks (tree (infer of_type i) c o) h = (h.0, known-there ks c h.1, known-there ks o h.2)
known-there ks (tree (infer of_const i) c o) h = (h.0, known-there ks c h.1, known-there ks o h.2)
known-there ks (tree (infer of_lifetime i) c o) h = (h.0, known-there ks c h.1, known-there ks o h.2)
known-there ks (tree l c o) h = (known-there ks c h.0, known-there ks o h.1)

pub no-clauses : (rs : List Reference) → map erased_reference rs ≡ [] → rs ≡ []
no-clauses [] e = refl
no-clauses (r ∷ rs) e = absurd cc
