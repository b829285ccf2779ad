-- Trees that are made as declarations are to be, once they are plain: their parts.
use Rattle.std.proofs.Common.{◌≡◌, ℕ, Bool, true, false, ◌&&◌, ◌||◌, List, refl}
use Rattle.std.specs.Prelude.{not, if◌then◌else◌}
use Rattle.type_terms.specs.Promised.Label.{Label, Sort, of_lifetime, of_type, of_const, bool, char, str, never, array, slice, tuple, dynamic, static, int, uint, adt, fn_ptr, auto_trait, value, ref, raw_pointer, principal, param, placeholder, infer, canonical, bound, predicate}
use Rattle.type_terms.specs.Promised.Trees.{Trees, none, tree, leaf, some_node, ◌+++◌}
use Rattle.type_terms.specs.Trees.{is_no_tree}
use Rattle.type_terms.specs.Made.{terms, bounds, traits, is_made}
use Rattle.candidate_model.specs.Declared.{is_declared_leaf}
use Rattle.text_lowering.specs.Promised.SeenWorlds.{plain_label, plain}
use Rattle.text_lowering.proofs.Sorts.{has_sort, is_bad}
use Rattle.type_terms.proofs.BooleanBasics.{and-end}

pub and : (a b : Bool) → a ≡ true → b ≡ true → a && b ≡ true
and true b p q = q
and false b p q = absurd cc

pub or : (a b : Bool) → a ≡ false → b ≡ false → a || b ≡ false
or false b p q = q
or true b p q = absurd cc

pub and-left : (a b : Bool) → a && b ≡ true → a ≡ true
and-left true b h = refl
and-left false b h = absurd cc

pub and-right : (a b : Bool) → a && b ≡ true → b ≡ true
and-right true b h = h
and-right false b h = absurd cc

pub or-left : (a b : Bool) → a || b ≡ false → a ≡ false
or-left false b h = refl
or-left true b h = absurd cc

pub or-right : (a b : Bool) → a || b ≡ false → b ≡ false
or-right false b h = h
or-right true b h = absurd cc

-- the trees are made, and each node's label is good for parameters of these sorts
module _ (kept : ℕ → Bool) (sorts : List Sort) where
  pub record Good (t : Trees) : Type 0 where
    pub made : is_made is_declared_leaf terms (plain kept t) ≡ true
    pub fits : some_node (is_bad sorts) (plain kept t) ≡ false

  pub good-none : Good none
  good-none = record { made = refl; fits = refl }

  made-append : (x y : Trees) → is_made is_declared_leaf terms (plain kept x) ≡ true → is_made is_declared_leaf terms (plain kept y) ≡ true → is_made is_declared_leaf terms (plain kept (x +++ y)) ≡ true
  made-append none y h g = g
  made-append (tree l c o) y h g = by (plain_label kept l) h (λ q. made-append o y q g)
    where
      last : (a b d : Bool) → (is_made is_declared_leaf terms (plain kept o) ≡ true → is_made is_declared_leaf terms (plain kept (o +++ y)) ≡ true) → a && (b && (d && is_made is_declared_leaf terms (plain kept o))) ≡ true
          → a && (b && (d && is_made is_declared_leaf terms (plain kept (o +++ y)))) ≡ true
      last true true true r q = r q
      last true true false r q = absurd cc
      last true false d r q = absurd cc
      last false b d r q = absurd cc

      by : (m : Label) → is_made is_declared_leaf terms (tree m (plain kept c) (plain kept o)) ≡ true → (is_made is_declared_leaf terms (plain kept o) ≡ true → is_made is_declared_leaf terms (plain kept (o +++ y)) ≡ true)
          → is_made is_declared_leaf terms (tree m (plain kept c) (plain kept (o +++ y))) ≡ true
      by dynamic q r = last true true (is_made is_declared_leaf bounds (plain kept c)) r q
      by (principal n t) q r = absurd cc
      by (auto_trait i) q r = absurd cc
      by (predicate k) q r = absurd cc
      by bool q r = last true true (is_made is_declared_leaf terms (plain kept c)) r q
      by char q r = last true true (is_made is_declared_leaf terms (plain kept c)) r q
      by str q r = last true true (is_made is_declared_leaf terms (plain kept c)) r q
      by never q r = last true true (is_made is_declared_leaf terms (plain kept c)) r q
      by array q r = last true true (is_made is_declared_leaf terms (plain kept c)) r q
      by slice q r = last true true (is_made is_declared_leaf terms (plain kept c)) r q
      by tuple q r = last true true (is_made is_declared_leaf terms (plain kept c)) r q
      by static q r = last true (is_no_tree (plain kept c)) (is_made is_declared_leaf terms (plain kept c)) r q
      by (int n) q r = last true true (is_made is_declared_leaf terms (plain kept c)) r q
      by (uint n) q r = last true true (is_made is_declared_leaf terms (plain kept c)) r q
      by (adt n) q r = last true true (is_made is_declared_leaf terms (plain kept c)) r q
      by (fn_ptr n) q r = last true true (is_made is_declared_leaf terms (plain kept c)) r q
      by (value n) q r = last true (is_no_tree (plain kept c)) (is_made is_declared_leaf terms (plain kept c)) r q
      by (ref n) q r = last true true (is_made is_declared_leaf terms (plain kept c)) r q
      by (raw_pointer n) q r = last true true (is_made is_declared_leaf terms (plain kept c)) r q
      by (param s i) q r = last true (is_no_tree (plain kept c)) (is_made is_declared_leaf terms (plain kept c)) r q
      by (placeholder s i) q r = absurd cc
      by (infer s i) q r = absurd cc
      by (canonical s i) q r = absurd cc
      by (bound s j i) q r = absurd cc

  fits-append : (x y : Trees) → some_node (is_bad sorts) (plain kept x) ≡ false → some_node (is_bad sorts) (plain kept y) ≡ false → some_node (is_bad sorts) (plain kept (x +++ y)) ≡ false
  fits-append none y h g = g
  fits-append (tree l c o) y h g = by (is_bad sorts (plain_label kept l)) (some_node (is_bad sorts) (plain kept c)) h (λ q. fits-append o y q g)
    where
      by : (a b : Bool) → a || b || some_node (is_bad sorts) (plain kept o) ≡ false → (some_node (is_bad sorts) (plain kept o) ≡ false → some_node (is_bad sorts) (plain kept (o +++ y)) ≡ false)
          → a || b || some_node (is_bad sorts) (plain kept (o +++ y)) ≡ false
      by false false q r = r q
      by false true q r = absurd cc
      by true b q r = absurd cc

  pub good-append : (x y : Trees) → Good x → Good y → Good (x +++ y)
  good-append x y h g = record { made = made-append x y h.made g.made; fits = fits-append x y h.fits g.fits }

  -- a node of a label that is no leaf, and stands for no bound
  abbrev pub is_plain_node : Label → Bool
  is_plain_node array = true
  is_plain_node slice = true
  is_plain_node tuple = true
  is_plain_node (adt n) = true
  is_plain_node (fn_ptr n) = true
  is_plain_node (ref n) = true
  is_plain_node (raw_pointer n) = true
  is_plain_node l = false

  or-end : (b : Bool) → b ≡ false → b || false ≡ false
  or-end false h = refl
  or-end true h = absurd cc

  pub good-node : (l : Label) (c : Trees) → is_plain_node l ≡ true → Good c → Good (tree l c none)
  good-node array c h g = record { made = and-end (is_made is_declared_leaf terms (plain kept c)) g.made; fits = or-end (some_node (is_bad sorts) (plain kept c)) g.fits }
  good-node slice c h g = record { made = and-end (is_made is_declared_leaf terms (plain kept c)) g.made; fits = or-end (some_node (is_bad sorts) (plain kept c)) g.fits }
  good-node tuple c h g = record { made = and-end (is_made is_declared_leaf terms (plain kept c)) g.made; fits = or-end (some_node (is_bad sorts) (plain kept c)) g.fits }
  good-node (adt n) c h g = record { made = and-end (is_made is_declared_leaf terms (plain kept c)) g.made; fits = or-end (some_node (is_bad sorts) (plain kept c)) g.fits }
  good-node (fn_ptr n) c h g = record { made = and-end (is_made is_declared_leaf terms (plain kept c)) g.made; fits = or-end (some_node (is_bad sorts) (plain kept c)) g.fits }
  good-node (ref n) c h g = record { made = and-end (is_made is_declared_leaf terms (plain kept c)) g.made; fits = or-end (some_node (is_bad sorts) (plain kept c)) g.fits }
  good-node (raw_pointer n) c h g = record { made = and-end (is_made is_declared_leaf terms (plain kept c)) g.made; fits = or-end (some_node (is_bad sorts) (plain kept c)) g.fits }
  good-node bool c h g = absurd cc
  good-node char c h g = absurd cc
  good-node str c h g = absurd cc
  good-node never c h g = absurd cc
  good-node dynamic c h g = absurd cc
  good-node static c h g = absurd cc
  good-node (int n) c h g = absurd cc
  good-node (uint n) c h g = absurd cc
  good-node (auto_trait n) c h g = absurd cc
  good-node (value n) c h g = absurd cc
  good-node (principal n t) c h g = absurd cc
  good-node (param s i) c h g = absurd cc
  good-node (placeholder s i) c h g = absurd cc
  good-node (infer s i) c h g = absurd cc
  good-node (canonical s i) c h g = absurd cc
  good-node (bound s j i) c h g = absurd cc
  good-node (predicate k) c h g = absurd cc

  -- a leaf
  pub good-value : (n : ℕ) → Good (leaf (value n))
  good-value n = record { made = refl; fits = refl }

  pub good-static : Good (leaf static)
  good-static = record { made = refl; fits = refl }

  param-fits : (s : Sort) (i : ℕ) → has_sort sorts (param s i) ≡ true → some_node (is_bad sorts) (leaf (param s i)) ≡ false
  param-fits s i h = by (has_sort sorts (param s i)) h
    where
      by : (b : Bool) → b ≡ true → (false || not b) || false || false ≡ false
      by true q = refl
      by false q = absurd cc

  pub good-param : (s : Sort) (i : ℕ) → has_sort sorts (param s i) ≡ true → Good (leaf (param s i))
  good-param of_type i h = record { made = refl; fits = param-fits of_type i h }
  good-param of_const i h = record { made = refl; fits = param-fits of_const i h }
  good-param of_lifetime i h = record { made = made (kept i); fits = fits (kept i) }
    where
      made : (b : Bool) → is_made is_declared_leaf terms (leaf (if b then param of_lifetime i else static)) ≡ true
      made true = refl
      made false = refl

      fits : (b : Bool) → some_node (is_bad sorts) (leaf (if b then param of_lifetime i else static)) ≡ false
      fits true = param-fits of_lifetime i h
      fits false = refl

  pub good-bound : (j i : ℕ) → Good (leaf (bound of_lifetime j i))
  good-bound j i = record { made = refl; fits = refl }

  -- a lifetime is one too where the bounds of a `dyn` end
  pub record Ends (t : Trees) : Type 0 where
    pub after_none : is_made is_declared_leaf bounds (plain kept t) ≡ true
    pub after_some : is_made is_declared_leaf traits (plain kept t) ≡ true
    pub fits : some_node (is_bad sorts) (plain kept t) ≡ false

  pub ends-static : Ends (leaf static)
  ends-static = record { after_none = refl; after_some = refl; fits = refl }

  pub ends-bound : (j i : ℕ) → Ends (leaf (bound of_lifetime j i))
  ends-bound j i = record { after_none = refl; after_some = refl; fits = refl }

  pub ends-param : (i : ℕ) → has_sort sorts (param of_lifetime i) ≡ true → Ends (leaf (param of_lifetime i))
  ends-param i h = record { after_none = none-first (kept i); after_some = some-first (kept i); fits = fits (kept i) }
    where
      none-first : (b : Bool) → is_made is_declared_leaf bounds (leaf (if b then param of_lifetime i else static)) ≡ true
      none-first true = refl
      none-first false = refl

      some-first : (b : Bool) → is_made is_declared_leaf traits (leaf (if b then param of_lifetime i else static)) ≡ true
      some-first true = refl
      some-first false = refl

      fits : (b : Bool) → some_node (is_bad sorts) (leaf (if b then param of_lifetime i else static)) ≡ false
      fits true = param-fits of_lifetime i h
      fits false = refl

  pub ends-auto : (n : ℕ) (o : Trees) → Ends o → Ends (tree (auto_trait n) none o)
  ends-auto n o e = record { after_none = e.after_some; after_some = e.after_some; fits = e.fits }

  pub good-dyn : (n t : ℕ) (c o : Trees) → Good c → Ends o → Good (tree dynamic (tree (principal n t) c o) none)
  good-dyn n t c o g e =
      record {
        made = and-end _ (and (is_made is_declared_leaf terms (plain kept c)) (is_made is_declared_leaf traits (plain kept o)) g.made e.after_some);
        fits = or-end _ (or (some_node (is_bad sorts) (plain kept c)) (some_node (is_bad sorts) (plain kept o)) g.fits e.fits);
      }

  pub good-bare-dyn : (o : Trees) → Ends o → Good (tree dynamic o none)
  good-bare-dyn o e = record { made = and-end (is_made is_declared_leaf bounds (plain kept o)) e.after_none; fits = or-end (some_node (is_bad sorts) (plain kept o)) e.fits }
