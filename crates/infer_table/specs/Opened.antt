-- Opened binders: the lifetimes of a binder are replaced by variables.
-- `for<'a> fn(&'a u8, for<'b> fn(&'a u8, &'b u8))` opens to `fn(&'?0 u8, for<'b> fn(&'?0 u8, &'b u8))`.
use Rattle.std.specs.Prelude.{◌≡◌, ℕ, ◌+◌, List, length, cond, ltb, ◌&&◌, ◌==◌, Bool, true, false, refl}
use Rattle.std.proofs.Common.{ap}
use Rattle.type_terms.specs.Promised.Label.{Label, of_type, of_lifetime, infer, bound, principal, auto_trait, inside}
use Rattle.type_terms.specs.Promised.Trees.{Trees, none, tree, sort_of, is_sort}
use Rattle.type_terms.specs.Trees.{outer_binder}
use Rattle.term_folds.specs.Folds.{Does, enters, puts, again}
use Rattle.type_terms.specs.Visits.{IsBound}

-- lifetime v of the k-th binder is one of the n lifetimes of the opened binder, if d binders are inside that one
abbrev pub is_opened : ℕ → ℕ → ℕ → ℕ → Bool
is_opened n d k v = (k == d) && ltb v n

-- such a lifetime becomes the variable first + v
abbrev pub opened_label : ℕ → ℕ → ℕ → ℕ → ℕ → Label
opened_label first n d k v = cond (is_opened n d k v) (infer of_lifetime (first + v)) (bound of_lifetime k v)

-- the value of a binder of n lifetimes with these replaced by the variables from `first` on, below d binders of the value
abbrev pub opened_binder : ℕ → ℕ → ℕ → Trees → Trees
opened_binder first n d none = none
opened_binder first n d (tree (bound of_lifetime k v) none o) = tree (opened_label first n d k v) none (opened_binder first n d o)
opened_binder first n d (tree l c o) = tree l (opened_binder first n (inside l d) c) (opened_binder first n d o)

-- what the folder that opens a binder does at a node. It replaces a type without escaping bound variables by itself
abbrev pub opening : ℕ → ℕ → List ℕ → Trees → Does
opening first n bs none = enters
opening first n bs (tree (principal m i) c o) = enters
opening first n bs (tree (auto_trait i) c o) = enters
opening first n bs (tree (bound of_lifetime k v) none o) = puts (tree (opened_label first n (length bs) k v) none none)
opening first n bs (tree l c o) = cond (is_sort (sort_of l) of_type) (cond (ltb (length bs) (outer_binder (tree l c none))) enters (puts (tree l c none))) enters

pub opening-bounds : (first n : ℕ) (bs : List ℕ) (t : Trees) → IsBound t → opening first n bs t ≡ enters
opening-bounds first n bs (tree (principal m i) c o) h = refl
opening-bounds first n bs (tree (auto_trait i) c o) h = refl
opening-bounds first n bs none h = refl
opening-bounds first n bs (tree l c o) h = absurd h

-- it depends on the number of binders, not on how many lifetimes each binds
pub opening-by-depth : (first n : ℕ) (bs cs : List ℕ) (t : Trees) → length bs ≡ length cs → opening first n bs t ≡ opening first n cs t
opening-by-depth first n bs cs none e = refl
opening-by-depth first n bs cs (tree (principal m i) c o) e = refl
opening-by-depth first n bs cs (tree (auto_trait i) c o) e = refl
opening-by-depth first n bs cs (tree (bound of_lifetime k v) none o) e = ap (λ d. puts (tree (opened_label first n d k v) none none)) e
opening-by-depth first n bs cs (tree l c o) e = ap (λ d. cond (is_sort (sort_of l) of_type) (cond (ltb d (outer_binder (tree l c none))) enters (puts (tree l c none))) enters) e

never-again : (a b : Bool) (t s : Trees) → cond a (cond b enters (puts t)) enters ≡ again s → ⊥
never-again true true t s e = cc
never-again true false t s e = cc
never-again false b t s e = cc

pub opening-once : (first n : ℕ) (bs : List ℕ) (t s : Trees) → opening first n bs t ≡ again s → ⊥
opening-once first n bs none s e = cc
opening-once first n bs (tree (principal m i) c o) s e = cc
opening-once first n bs (tree (auto_trait i) c o) s e = cc
opening-once first n bs (tree (bound of_lifetime k v) none o) s e = cc
opening-once first n bs (tree l c o) s e = never-again (is_sort (sort_of l) of_type) (ltb (length bs) (outer_binder (tree l c none))) (tree l c none) s e
