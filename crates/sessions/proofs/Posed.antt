-- What is asked of a question speaks of its own unknowns alone.
use Rattle.std.proofs.Common.{◌≡◌, ℕ, ◌≤◌, ◌<◌, arith, Bool, true, false, if◌then◌else◌, List, [], ◌∷◌, ◌++◌, map, refl, is_some, ◌||◌}
use Rattle.type_terms.specs.Promised.Label.{Label, Sort, of_type, of_const, of_lifetime, param, placeholder, infer, canonical, static}
use Rattle.type_terms.specs.Promised.Trees.{Trees, none, tree, some_node}
use Rattle.type_terms.specs.Promised.Worlds.{Reference}
use Rattle.type_terms.proofs.Fitting.{child-shut, next-shut}
use Rattle.infer_table.specs.Canonical.{HasNoCanonical, kind_of_leaf, leaves, with_label, is_label_among, canonical_form}
use Rattle.infer_table.specs.Covers.{AreKnown}
use Rattle.goal_evaluator.specs.FrameTables.{kinds_known}
use Rattle.candidate_model.specs.Solver.{has_placeholder}
use Rattle.text_lowering.specs.QuestionVariables.{number_of, is_undeclared_variable}
use Rattle.sessions.specs.Asking.{goal_alone}
use Rattle.sessions.proofs.Given.{below}
use Rattle.type_terms.proofs.Matching.{or-false-left as no-left}
use Rattle.type_terms.proofs.BooleanBasics.{true-false as no-true}

module _ (ks : List Sort) where
  abbrev NoStray : Trees → Type 0
  NoStray t = some_node (is_undeclared_variable ks) t ≡ false

  first-fine : (l : Label) (c o : Trees) → NoStray (tree l c o) → is_undeclared_variable ks l ≡ false
  first-fine l c o h = no-left (is_undeclared_variable ks l) (some_node (is_undeclared_variable ks) c) (no-left (is_undeclared_variable ks l || some_node (is_undeclared_variable ks) c) (some_node (is_undeclared_variable ks) o) h)

  pub no-canonical : (t : Trees) → NoStray t → HasNoCanonical t
  no-canonical none h = tt
  no-canonical (tree (canonical s i) c o) h = absurd (no-true (first-fine (canonical s i) c o h))
  no-canonical (tree l c o) h = (no-canonical c (child-shut (is_undeclared_variable ks) l c o h), no-canonical o (next-shut (is_undeclared_variable ks) l c o h))

  -- a table with as many variables knows them
  module _ (counts : Sort → ℕ) (types : number_of of_type ks ≤ counts of_type) (consts : number_of of_const ks ≤ counts of_const) where
    type-below : (i : ℕ) → i < number_of of_type ks → i < counts of_type
    type-below i h = omega (arith, h, types)

    const-below : (i : ℕ) → i < number_of of_const ks → i < counts of_const
    const-below i h = omega (arith, h, consts)

    pub known : (t : Trees) → NoStray t → AreKnown counts t
    known none h = tt
    known (tree (infer of_type i) c o) h =
        (type-below i (below i (number_of of_type ks) (first-fine (infer of_type i) c o h)), known c (child-shut (is_undeclared_variable ks) (infer of_type i) c o h), known o (next-shut (is_undeclared_variable ks) (infer of_type i) c o h))
    known (tree (infer of_const i) c o) h =
        (const-below i (below i (number_of of_const ks) (first-fine (infer of_const i) c o h)), known c (child-shut (is_undeclared_variable ks) (infer of_const i) c o h), known o (next-shut (is_undeclared_variable ks) (infer of_const i) c o h))
    known (tree (infer of_lifetime i) c o) h = absurd (no-true (first-fine (infer of_lifetime i) c o h))
    known (tree l c o) h = (known c (child-shut (is_undeclared_variable ks) l c o h), known o (next-shut (is_undeclared_variable ks) l c o h))

-- ---- no parameter is a variable of the form
-- where no label is so, and no other is a parameter
module _ (bad : Label → Bool)
    (fine : (l : Label) (ls : List Label) → bad l ≡ false → has_placeholder (kinds_known (map kind_of_leaf ls)) ≡ false → has_placeholder (kinds_known (kind_of_leaf l ∷ map kind_of_leaf ls)) ≡ false) where
  abbrev AllFine : List Label → Type 0
  AllFine [] = Unit {0}
  AllFine (l ∷ ls) = (bad l ≡ false) × AllFine ls

  kinds-fine : (ls : List Label) → AllFine ls → has_placeholder (kinds_known (map kind_of_leaf ls)) ≡ false
  kinds-fine [] h = refl
  kinds-fine (l ∷ ls) h = fine l ls h.0 (kinds-fine ls h.1)

  behind-fine : (ls : List Label) (l : Label) → AllFine ls → bad l ≡ false → AllFine (ls ++ l ∷ [])
  behind-fine [] l a h = (h, tt)
  behind-fine (m ∷ ls) l a h = (a.0, behind-fine ls l a.1 h)

  with-fine : (l : Label) (seen : List Label) → bad l ≡ false → AllFine seen → AllFine (with_label l seen)
  with-fine l seen h a = by (is_label_among l seen)
    where
      by : (b : Bool) → AllFine (if b then seen else seen ++ l ∷ [])
      by true = a
      by false = behind-fine seen l a h

  leaves-fine : (t : Trees) → some_node bad t ≡ false → (seen : List Label) → AllFine seen → AllFine (leaves kind_of_leaf seen t)
  leaves-fine none h seen a = a
  leaves-fine (tree l c o) h seen a = leaves-fine o (next-shut bad l c o h) _ (leaves-fine c (child-shut bad l c o h) _ (by (is_some (kind_of_leaf l))))
    where
      by : (b : Bool) → AllFine (if b then with_label l seen else seen)
      by true = with-fine l seen (no-left (bad l) (some_node bad c) (no-left (bad l || some_node bad c) (some_node bad o) h)) a
      by false = a

  pub no-places : (r : Reference) → some_node bad r.args ≡ false → has_placeholder (kinds_known (canonical_form (goal_alone r)).kinds) ≡ false
  no-places r h = kinds-fine (leaves kind_of_leaf [] r.args) (leaves-fine r.args h [] tt)

-- a query has variables alone
module _ (ks : List Sort) where
  one-fine : (l : Label) (ls : List Label) → is_undeclared_variable ks l ≡ false → has_placeholder (kinds_known (map kind_of_leaf ls)) ≡ false → has_placeholder (kinds_known (kind_of_leaf l ∷ map kind_of_leaf ls)) ≡ false
  one-fine (infer of_type i) ls h e = e
  one-fine (infer of_const i) ls h e = e
  one-fine (infer of_lifetime i) ls h e = e
  one-fine (param of_type i) ls h e = absurd (no-true h)
  one-fine (param of_const i) ls h e = absurd (no-true h)
  one-fine (param of_lifetime i) ls h e = e
  one-fine (placeholder of_type i) ls h e = absurd (no-true h)
  one-fine (placeholder of_const i) ls h e = absurd (no-true h)
  one-fine (placeholder of_lifetime i) ls h e = e
  one-fine static ls h e = e
  one-fine l ls h e = e

  pub no-placeholders : (r : Reference) → some_node (is_undeclared_variable ks) r.args ≡ false → has_placeholder (kinds_known (canonical_form (goal_alone r)).kinds) ≡ false
  no-placeholders r h = no-places (is_undeclared_variable ks) one-fine r h
