-- The replacement of free lifetimes.
use Rattle.std.specs.Prelude.{◌≡◌, ℕ, List, length, cond, ltb, not, Bool, true, false, refl}
use Rattle.std.proofs.Common.{ap}
use Rattle.type_terms.specs.Promised.Label.{Label, of_lifetime, static, param, placeholder, infer, canonical, bound, principal, auto_trait, inside}
use Rattle.type_terms.specs.Promised.Trees.{Trees, none, tree}
use Rattle.term_folds.specs.Folds.{Does, enters, puts, again}
use Rattle.type_terms.specs.Visits.{IsBound}

-- the label is a lifetime that none of the d binders around it binds
abbrev pub is_free_lifetime : ℕ → Label → Bool
is_free_lifetime d static = true
is_free_lifetime d (param of_lifetime i) = true
is_free_lifetime d (placeholder of_lifetime i) = true
is_free_lifetime d (infer of_lifetime i) = true
is_free_lifetime d (canonical of_lifetime v) = true
is_free_lifetime d (bound of_lifetime k v) = not (ltb k d)
is_free_lifetime d _ = false

abbrev pub region_replaced : (Label → Label) → ℕ → Label → Label
region_replaced g d l = cond (is_free_lifetime d l) (g l) l

-- the trees with each free lifetime replaced by its image
abbrev pub regions_replaced : (Label → Label) → ℕ → Trees → Trees
regions_replaced g d none = none
regions_replaced g d (tree l c o) = tree (region_replaced g d l) (regions_replaced g (inside l d) c) (regions_replaced g d o)

-- what the folder of free lifetimes does at a node
abbrev pub replacing : (Label → Label) → List ℕ → Trees → Does
replacing g bs none = enters
replacing g bs (tree l c o) = cond (is_free_lifetime (length bs) l) (puts (tree (g l) (regions_replaced g (inside l (length bs)) c) none)) enters

pub replacing-bounds : (g : Label → Label) (bs : List ℕ) (t : Trees) → IsBound t → replacing g bs t ≡ enters
replacing-bounds g bs (tree (principal n i) c o) h = refl
replacing-bounds g bs (tree (auto_trait i) c o) h = refl
replacing-bounds g bs none h = refl
replacing-bounds g bs (tree l c o) h = absurd h

-- it depends on the number of binders, not on how many lifetimes each binds
pub replacing-by-depth : (g : Label → Label) (bs cs : List ℕ) (t : Trees) → length bs ≡ length cs → replacing g bs t ≡ replacing g cs t
replacing-by-depth g bs cs none e = refl
replacing-by-depth g bs cs (tree l c o) e = ap (λ n. cond (is_free_lifetime n l) (puts (tree (g l) (regions_replaced g (inside l n) c) none)) enters) e

pub replacing-once : (g : Label → Label) (bs : List ℕ) (t s : Trees) → replacing g bs t ≡ again s → ⊥
replacing-once g bs none s e = cc
replacing-once g bs (tree l c o) s e = by (is_free_lifetime (length bs) l) _ e
  where
    by : (b : Bool) (t : Trees) → cond b (puts t) enters ≡ again s → ⊥
    by true t e = cc
    by false t e = cc
