-- The names in a term over a table without inference variables are those in its readings. Numbering leaves adds none.
use Rattle.std.proofs.Common.{◌≡◌, Bool, true, false, ◌||◌, ℕ, refl, sym, subst, List, is_some, if◌then◌else◌}
use Rattle.type_terms.specs.Promised.Label.{Label, Sort, of_type, of_const, of_lifetime, infer, param, placeholder, canonical, bound, static, principal}
use Rattle.type_terms.specs.Promised.Trees.{Trees, none, tree, ◌+++◌, erase_label, some_node}
use Rattle.type_terms.specs.Promised.Worlds.{World}
use Rattle.type_terms.specs.Promised.Answers.{is_undeclared}
use Rattle.type_terms.proofs.Fitting.{head-shut, child-shut, next-shut}
use Rattle.type_terms.proofs.Made.{false-true}
use Rattle.infer_table.specs.Canonical.{OpenKinds, relabeled, canonical_label}
use Rattle.goal_evaluator.specs.Instances.{read_with, as_place, term_at}
use Rattle.goal_evaluator.specs.Content.{ChosenTerms, standing}
use Rattle.goal_evaluator.proofs.Nodes.{AreNodes}
use Rattle.goal_evaluator.proofs.Whole.{as-place-one}
use Rattle.solver_completeness.proofs.QuestionTerms.{is_unknown}
use Rattle.type_terms.proofs.BooleanBasics.{none-of as or-none}

module _ (V : World) where
  abbrev pub Declares : Trees → Type 0
  Declares t = some_node (is_undeclared V) t ≡ false

  or-first : (a b c : Bool) → (a || b || c) ≡ false → a ≡ false
  or-first false b c h = refl
  or-first true b c h = absurd (false-true (sym h))

  own-name : (l : Label) (c o : Trees) → Declares (tree l c o) → is_undeclared V l ≡ false
  own-name l c o h = or-first (is_undeclared V l) (some_node (is_undeclared V) c) (some_node (is_undeclared V) o) h

  node : (l : Label) (c o : Trees) → is_undeclared V l ≡ false → Declares c → Declares o → Declares (tree l c o)
  node l c o e f g = or-none (is_undeclared V l) (some_node (is_undeclared V) c) (some_node (is_undeclared V) o) e f g

  at-leaf : (l : Label) (c o : Trees) → is_undeclared V l ≡ false → c ≡ none → Declares o → Declares (tree l c o)
  at-leaf l c o e p g = node l c o e (subst Declares (sym p) refl) g

  module _ (s : ChosenTerms) where
    abbrev read : Trees → Trees
    read t = read_with (standing s) t

    behind-place : (k : Sort) (i : ℕ) (o : Trees) → Declares (as_place k (term_at s.own.terms i) +++ o) → Declares o
    behind-place k i o h = let x = as-place-one k (term_at s.own.terms i) in next-shut (is_undeclared V) x.0 none o (subst (λ z. Declares (z +++ o)) x.1 h)

    pub names-back : (t : Trees) → AreNodes t → some_node is_unknown t ≡ false → Declares (read t) → Declares t
    names-back none n u h = refl
    names-back (tree (infer of_type v) c o) n u h = absurd (false-true (sym (head-shut is_unknown (infer of_type v) c o u)))
    names-back (tree (infer of_const v) c o) n u h = absurd (false-true (sym (head-shut is_unknown (infer of_const v) c o u)))
    names-back (tree (infer of_lifetime v) c o) n u h =
        at-leaf (infer of_lifetime v) c o refl n.0 (names-back o n.2 (next-shut is_unknown (infer of_lifetime v) c o u) (next-shut (is_undeclared V) static none (read o) h))
    names-back (tree (placeholder of_type i) c o) n u h = at-leaf (placeholder of_type i) c o refl n.0 (names-back o n.2 (next-shut is_unknown (placeholder of_type i) c o u) (behind-place of_type i (read o) h))
    names-back (tree (placeholder of_const i) c o) n u h = at-leaf (placeholder of_const i) c o refl n.0 (names-back o n.2 (next-shut is_unknown (placeholder of_const i) c o u) (behind-place of_const i (read o) h))
    names-back (tree (placeholder of_lifetime i) c o) n u h =
        at-leaf (placeholder of_lifetime i) c o refl n.0 (names-back o n.2 (next-shut is_unknown (placeholder of_lifetime i) c o u) (next-shut (is_undeclared V) static none (read o) h))
    names-back (tree (param of_type i) c o) n u h = absurd n.0
    names-back (tree (param of_const i) c o) n u h = absurd n.0
    names-back (tree (param of_lifetime i) c o) n u h =
        at-leaf (param of_lifetime i) c o refl n.0 (names-back o n.2 (next-shut is_unknown (param of_lifetime i) c o u) (next-shut (is_undeclared V) static none (read o) h))
    names-back (tree (canonical k i) c o) n u h = absurd n.0
    names-back (tree static c o) n u h = at-leaf static c o refl n.0 (names-back o n.2 (next-shut is_unknown static c o u) (next-shut (is_undeclared V) static none (read o) h))
    names-back (tree (bound of_lifetime i j) c o) n u h =
        at-leaf (bound of_lifetime i j) c o refl n.0 (names-back o n.2 (next-shut is_unknown (bound of_lifetime i j) c o u) (next-shut (is_undeclared V) static none (read o) h))
    names-back (tree (principal i j) c o) n u h =
        node (principal i j) c o (own-name (principal 0 j) (read c) (read o) h) (names-back c n.1 (child-shut is_unknown (principal i j) c o u) (child-shut (is_undeclared V) (principal 0 j) (read c) (read o) h))
        (names-back o n.2 (next-shut is_unknown (principal i j) c o u) (next-shut (is_undeclared V) (principal 0 j) (read c) (read o) h))
    names-back (tree l c o) n u h =
        node l c o (own-name (erase_label l) (read c) (read o) h) (names-back c n.1 (child-shut is_unknown l c o u) (child-shut (is_undeclared V) (erase_label l) (read c) (read o) h))
        (names-back o n.2 (next-shut is_unknown l c o u) (next-shut (is_undeclared V) (erase_label l) (read c) (read o) h))

  -- a canonical variable names nothing
  pub names-numbered : (kind : OpenKinds) (ls : List Label) (t : Trees) → Declares t → Declares (relabeled kind (canonical_label ls) t)
  names-numbered kind ls none h = refl
  names-numbered kind ls (tree l c o) h =
      node (if is_some (kind l) then canonical_label ls l else l) (relabeled kind (canonical_label ls) c) (relabeled kind (canonical_label ls) o) (label (is_some (kind l))) (names-numbered kind ls c (child-shut (is_undeclared V) l c o h)) (names-numbered kind ls o (next-shut (is_undeclared V) l c o h))
    where
      label : (b : Bool) → is_undeclared V (if b then canonical_label ls l else l) ≡ false
      label true = refl
      label false = own-name l c o h
