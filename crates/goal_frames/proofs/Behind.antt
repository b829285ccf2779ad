-- A rule's terms with variables numbered after those of a goal: their values, and that they are well-formed.
use Rattle.std.proofs.Common.{◌≡◌, ℕ, zero, suc, ◌+◌, arith, true, false, List, ◌⊎◌, inl, inr, refl, sym, ◌∙◌, ap, Some, None}
use Rattle.type_terms.specs.Promised.Label.{Label, of_type, of_const, of_lifetime, infer, param, placeholder, canonical, bound, static, of_trait, predicate}
use Rattle.type_terms.specs.Promised.Trees.{Trees, none, tree}
use Rattle.type_terms.specs.Made.{Standing, is_made}
use Rattle.infer_table.specs.declared.canonical.CanonicalVarKind.{CanonicalVarKind}
use Rattle.goal_evaluator.specs.Instances.{read_with, goal_read, put_in, of_sort, other_terms, term_at}
use Rattle.goal_evaluator.specs.Content.{given}
use Rattle.goal_evaluator.specs.FrameTables.{is_open_label}
use Rattle.type_terms.proofs.Made.{false-true, is_ordinary}
use Rattle.goal_evaluator.proofs.Reading.{append-none, IsPutIn, read-put}
use Rattle.goal_evaluator.proofs.Labels.{IsLeafFor, PutsLeaves, made-put-in, made-more}
use Rattle.goal_frames.specs.Rules.{TraitBound, goal_of}
use Rattle.goal_evaluator.specs.Variables.{is_variable_over}
use Rattle.goal_frames.specs.Handlers.{moved, bound_behind}

-- all but the first n
abbrev pub dropped : ℕ → List Trees → List Trees
dropped zero xs = xs
dropped (suc n) xs = dropped n (other_terms xs)

pub term-dropped : (n i : ℕ) (xs : List Trees) → term_at xs (n + i) ≡ term_at (dropped n xs) i
term-dropped zero i xs = ap (term_at xs) (zero-plus i)
  where
    zero-plus : (i : ℕ) → zero + i ≡ i
    zero-plus i = omega arith
term-dropped (suc n) i xs = ap (term_at xs) (suc-plus n i) ∙ term-dropped n i (other_terms xs)
  where
    suc-plus : (n i : ℕ) → suc n + i ≡ suc (n + i)
    suc-plus n i = omega arith

-- ---- readings
module _ (n : ℕ) (xs : List Trees) where
  label-behind : (l : Label) → IsPutIn (given xs) (given (dropped n xs)) l (moved n l)
  label-behind (canonical of_type i) = ap (λ z. Some (of_sort of_type z)) (sym (term-dropped n i xs)) ∙ ap Some (sym (append-none (of_sort of_type (term_at xs (n + i)))))
  label-behind (canonical of_const i) = ap (λ z. Some (of_sort of_const z)) (sym (term-dropped n i xs)) ∙ ap Some (sym (append-none (of_sort of_const (term_at xs (n + i)))))
  label-behind (canonical of_lifetime i) = refl
  label-behind (infer k v) = refl
  label-behind (param k v) = refl
  label-behind (placeholder k v) = refl
  label-behind (bound of_type a b) = refl
  label-behind (bound of_const a b) = refl
  label-behind (bound of_lifetime a b) = refl
  label-behind static = refl
  label-behind l = refl

  pub read-behind : (t : Trees) → read_with (given xs) (put_in (moved n) t) ≡ read_with (given (dropped n xs)) t
  read-behind t = read-put (given xs) (given (dropped n xs)) (moved n) label-behind t

  pub bound-behind : (b : TraitBound) → goal_read (given xs) (goal_of (bound_behind n b)) ≡ goal_read (given (dropped n xs)) (goal_of b)
  bound-behind b = ap (λ z. record { environment = none; predicate = tree (predicate (of_trait b.trait)) z none }) (read-behind b.arguments)

-- ---- how they are made
open-behind : (kinds : List CanonicalVarKind) (n : ℕ) → PutsLeaves (is_variable_over kinds) is_open_label (moved n)
open-behind kinds n = record { leaf_or_stays = λ l i g. by l g; others = λ l i. stays l i }
  where
    by : (l : Label) → is_variable_over kinds l ≡ true → IsLeafFor is_open_label (moved n) l ⊎ ((moved n l ≡ None) × (is_open_label l ≡ true))
    by (canonical k i) g = inl (record { label = canonical k (n + i); is = refl; sort = refl; made = refl })
    by (infer k v) g = absurd (false-true g)
    by (param k v) g = absurd (false-true g)
    by (placeholder k v) g = absurd (false-true g)
    by l g = inr (refl, refl)

    stays : (l : Label) → is_ordinary l ≡ false → moved n l ≡ None
    stays (canonical k i) e = absurd (false-true (sym e))
    stays l e = refl

pub made-behind : (kinds : List CanonicalVarKind) (n : ℕ) (m : Standing) (t : Trees) → is_made (is_variable_over kinds) m t ≡ true → is_made is_open_label m (put_in (moved n) t) ≡ true
made-behind kinds n m t h = made-put-in (is_variable_over kinds) is_open_label (moved n) (open-behind kinds n) m t h

pub made-open : (kinds : List CanonicalVarKind) (m : Standing) (t : Trees) → is_made (is_variable_over kinds) m t ≡ true → is_made is_open_label m t ≡ true
made-open kinds m t h = made-more (is_variable_over kinds) is_open_label by m t h
  where
    by : (l : Label) → is_variable_over kinds l ≡ true → is_open_label l ≡ true
    by (infer k v) g = absurd (false-true g)
    by (param k v) g = absurd (false-true g)
    by (placeholder k v) g = absurd (false-true g)
    by l g = refl
