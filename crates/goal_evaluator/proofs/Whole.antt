-- The reading of a single term is a single term of its kind.
use Rattle.std.proofs.Common.{◌≡◌, ℕ, true, refl, ap}
use Rattle.type_terms.specs.Promised.Label.{Label, Sort, of_type, of_const, of_lifetime, param, placeholder, infer, canonical, bound, static}
use Rattle.type_terms.specs.Promised.Trees.{Trees, none, tree, leaf, ◌+++◌, erase_label, sort_of}
use Rattle.infer_table.proofs.SolutionLaws.{is_sort-equal as is-sort}
use Rattle.goal_evaluator.specs.Instances.{read_with, is_place, as_place, term_at}
use Rattle.goal_evaluator.specs.Content.{ChosenTerms, standing}
use Rattle.type_terms.proofs.Made.{false-true}
use Rattle.goal_evaluator.proofs.Questions.{is-place}

pub record IsOne (k : Sort) (t : Trees) : Type 0 where
  pub label : Label
  pub children : Trees
  pub is : t ≡ tree label children none
  pub sort : sort_of label ≡ k

place-one : (k : Sort) (t : Trees) → is_place k t ≡ true → (x : Label) × (t ≡ leaf x) × (sort_of x ≡ k)
place-one k none h = absurd (false-true h)
place-one k (tree (param j i) none none) h = (param j i, refl, is-sort j k h)
place-one k (tree (placeholder j i) none none) h = (placeholder j i, refl, is-sort j k h)
place-one k t h = absurd (false-true h)

pub as-place-one : (k : Sort) (t : Trees) → (x : Label) × (as_place k t ≡ leaf x) × (sort_of x ≡ k)
as-place-one k t = place-one k (as_place k t) (is-place k t)

module _ (s : ChosenTerms) (sorted : (k : Sort) (v : ℕ) → sort_of (s.unknowns k v).0 ≡ k) where
  abbrev read : Trees → Trees
  read t = read_with (standing s) t

  placeholder-one : (k : Sort) (i : ℕ) (c : Trees) → IsOne k (as_place k (term_at s.own.terms i) +++ none)
  placeholder-one k i c =
      let x = as-place-one k (term_at s.own.terms i) in
      record { label = x.0; children = none; is = ap (λ z. z +++ none) x.1; sort = x.2 }

  pub read-one : (l : Label) (c : Trees) → IsOne (sort_of l) (read (tree l c none))
  read-one (infer of_type v) c = record { label = (s.unknowns of_type v).0; children = (s.unknowns of_type v).1; is = refl; sort = sorted of_type v }
  read-one (infer of_const v) c = record { label = (s.unknowns of_const v).0; children = (s.unknowns of_const v).1; is = refl; sort = sorted of_const v }
  read-one (infer of_lifetime v) c = record { label = static; children = none; is = refl; sort = refl }
  read-one (placeholder of_type i) c = placeholder-one of_type i c
  read-one (placeholder of_const i) c = placeholder-one of_const i c
  read-one (placeholder of_lifetime i) c = record { label = static; children = none; is = refl; sort = refl }
  read-one (param of_type i) c = record { label = param of_type i; children = none; is = refl; sort = refl }
  read-one (param of_const i) c = record { label = param of_const i; children = none; is = refl; sort = refl }
  read-one (param of_lifetime i) c = record { label = static; children = none; is = refl; sort = refl }
  read-one (canonical of_type i) c = record { label = canonical of_type i; children = read c; is = refl; sort = refl }
  read-one (canonical of_const i) c = record { label = canonical of_const i; children = read c; is = refl; sort = refl }
  read-one (canonical of_lifetime i) c = record { label = static; children = none; is = refl; sort = refl }
  read-one (bound of_type a b) c = record { label = bound of_type a b; children = read c; is = refl; sort = refl }
  read-one (bound of_const a b) c = record { label = bound of_const a b; children = read c; is = refl; sort = refl }
  read-one (bound of_lifetime a b) c = record { label = static; children = none; is = refl; sort = refl }
  read-one static c = record { label = static; children = none; is = refl; sort = refl }
  read-one l c = record { label = erase_label l; children = read c; is = refl; sort = refl }
