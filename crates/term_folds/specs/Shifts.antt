-- Shifts of bound variables.
use Rattle.std.specs.Prelude.{◌≡◌, ℕ, ◌+◌, ◌<◌, ◌≤◌, List, [], ◌∷◌, length, cond, ltb, refl, Bool, true, false}
use Rattle.std.proofs.Common.{ap}
use Rattle.type_terms.specs.Promised.Label.{Label, bound, principal, auto_trait, inside}
use Rattle.type_terms.specs.Promised.Trees.{Trees, none, tree}
use Rattle.type_terms.specs.Trees.{outer_binder}
use Rattle.type_terms.specs.declared.TheConstants.{MAX_INDEX}
use Rattle.term_folds.specs.Folds.{Does, enters, puts, again}
use Rattle.type_terms.specs.Visits.{IsBound}
use Rattle.type_terms.specs.Pieces.{Piece}

-- each binder number that escapes d binders, plus a, is less than the greatest number
abbrev pub LabelInRange : ℕ → ℕ → Label → Type 0
LabelInRange d a (bound s k v) = d ≤ k → k + a < MAX_INDEX
LabelInRange d a _ = Unit {0}

abbrev pub ShiftInRange : ℕ → ℕ → Trees → Type 0
ShiftInRange d a none = Unit {0}
ShiftInRange d a (tree l c o) = LabelInRange d a l × ShiftInRange (inside l d) a c × ShiftInRange d a o

abbrev pub EachInRange : ℕ → List Piece → Type 0
EachInRange a [] = Unit {0}
EachInRange a (p ∷ ps) = ShiftInRange (length p.counts) a p.trees × EachInRange a ps

-- a binder number, plus a if it escapes d binders and the sum is in range
abbrev pub moved_number : ℕ → ℕ → ℕ → ℕ
moved_number d a k = cond (ltb k d) k (cond (ltb (k + a) MAX_INDEX) (k + a) k)

abbrev pub moved_label : ℕ → ℕ → Label → Label
moved_label d a (bound s k v) = bound s (moved_number d a k) v
moved_label d a l = l

abbrev pub moved : ℕ → ℕ → Trees → Trees
moved d a none = none
moved d a (tree l c o) = tree (moved_label d a l) (moved (inside l d) a c) (moved d a o)

-- what the folder of shifts does at a node. It replaces a term without escaping bound variables by itself
abbrev pub shifting : ℕ → List ℕ → Trees → Does
shifting a bs none = enters
shifting a bs (tree (principal n i) c o) = enters
shifting a bs (tree (auto_trait i) c o) = enters
shifting a bs (tree (bound s k v) c o) = puts (tree (bound s (moved_number (length bs) a k) v) (moved (length bs) a c) none)
shifting a bs (tree l c o) = cond (ltb (length bs) (outer_binder (tree l c none))) enters (puts (tree l c none))

pub shifting-bounds : (a : ℕ) (bs : List ℕ) (t : Trees) → IsBound t → shifting a bs t ≡ enters
shifting-bounds a bs (tree (principal n i) c o) h = refl
shifting-bounds a bs (tree (auto_trait i) c o) h = refl
shifting-bounds a bs none h = refl
shifting-bounds a bs (tree l c o) h = absurd h

-- it depends on the number of binders, not on how many lifetimes each binds
pub shifting-by-depth : (a : ℕ) (bs cs : List ℕ) (t : Trees) → length bs ≡ length cs → shifting a bs t ≡ shifting a cs t
shifting-by-depth a bs cs none e = refl
shifting-by-depth a bs cs (tree (principal n i) c o) e = refl
shifting-by-depth a bs cs (tree (auto_trait i) c o) e = refl
shifting-by-depth a bs cs (tree (bound s k v) c o) e = ap (λ n. puts (tree (bound s (moved_number n a k) v) (moved n a c) none)) e
shifting-by-depth a bs cs (tree l c o) e = ap (λ n. cond (ltb n (outer_binder (tree l c none))) enters (puts (tree l c none))) e

pub shifting-once : (a : ℕ) (bs : List ℕ) (t s : Trees) → shifting a bs t ≡ again s → ⊥
shifting-once a bs none s e = cc
shifting-once a bs (tree (principal n i) c o) s e = cc
shifting-once a bs (tree (auto_trait i) c o) s e = cc
shifting-once a bs (tree (bound r k v) c o) s e = cc
shifting-once a bs (tree l c o) s e = by (ltb (length bs) (outer_binder (tree l c none))) (tree l c none) e
  where
    by : (b : Bool) (t : Trees) → cond b enters (puts t) ≡ again s → ⊥
    by true t e = cc
    by false t e = cc
