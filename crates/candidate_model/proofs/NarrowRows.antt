-- The premises of built-in rules, and the arguments of bounds and supertraits, are no wider than the goal and what is declared.
use Rattle.std.proofs.Common.{ℕ, zero, suc, ◌≤◌, Bool, true, false, not, ◌&&◌, if◌then◌else◌, ◌==◌, List, [], ◌∷◌, ◌++◌, map, arith}
use Rattle.type_terms.specs.Promised.Label.{Label, bool, char, never, str, int, uint, array, slice, tuple, dynamic, adt, fn_ptr, principal, auto_trait, ref, raw_pointer}
use Rattle.type_terms.specs.Promised.Trees.{Trees, none, tree, leaf, instantiate, ◌+++◌}
use Rattle.type_terms.specs.Promised.Worlds.{World, Reference, StructDecl, TraitDecl, structs_named}
use Rattle.type_terms.specs.Promised.Rules.{Rule, row, sized_struct, auto_struct, unsize_to_dyn, sized, unsize, is_dyn, is_written, asked, each_asked, last_asked, together, fields_of, sized_rules, copy_rules, auto_rules, auto_rules_plain, tuple_rules, fn_ptr_rules, unsize_to_dyn_rules, are_dyn_compatible, principal_with, autos_with, but_last, is_unsizing, with_unsizing, last_unsizes}
use Rattle.type_terms.specs.Promised.Proofs.{In}
use Rattle.type_terms.proofs.Members.{in-filter}
use Rattle.goal_evaluator.specs.Lists.{Every}
use Rattle.goal_evaluator.specs.Promised.Widths.{count}
use Rattle.goal_evaluator.proofs.Widths.{IsWithin, within, width-within, count-append, within-append}
use Rattle.declarations.specs.Promised.Elaboration.{elaborate, supertraits}
use Rattle.candidate_model.specs.Promised.Widths.{width_of}
use Rattle.candidate_model.proofs.CandidateWidths.{count-instance, within-instance, instance-within}
use Rattle.candidate_model.proofs.Elaborating.{every-flat, elaborated-so, supertraits-so}
use Rattle.goal_evaluator.proofs.Basics.{both-lists}

-- what is one term at most, and within n
abbrev pub IsField : ℕ → Trees → Type 0
IsField n t = (count t ≤ 1) × IsWithin n t

module _ (V : World) (n : ℕ) (fields : (x : StructDecl) → In x V.structs → Every (IsField n) x.fields) (bounds : (x : TraitDecl) → In x V.traits → (b : Reference) → In b x.bounds → width_of b ≤ n) where
  abbrev pub AreShort : List Reference → Type 0
  AreShort rs = Every (λ r. width_of r ≤ n) rs

  abbrev pub AskShort : List Rule → Type 0
  AskShort us = Every (λ (u : Rule). AreShort u.premises) us

  pub from-parts : (r : Reference) → count r.args ≤ n → IsWithin n r.args → width_of r ≤ n
  from-parts r h g = let w = width-within n r.args g in omega (arith, h, w)

  pub args-within : (r : Reference) → width_of r ≤ n → IsWithin n r.args
  args-within r h = within n r.args (omega (arith, h))

  -- ---- one tree of several, asked for a trait
  one-short : (t : ℕ) (l : Label) (c o : Trees) → 1 ≤ n → IsWithin n (tree l c o) → width_of (asked t (tree l c none)) ≤ n
  one-short t l c o g h = from-parts (asked t (tree l c none)) g (h.0, h.1, tt)

  each-short : (t : ℕ) (u : Trees) → 1 ≤ n → IsWithin n u → AreShort (each_asked t u)
  each-short t none g h = tt
  each-short t (tree l c o) g h = (one-short t l c o g h, each-short t o g h.2)

  pub last-short : (t : ℕ) (u : Trees) → 1 ≤ n → IsWithin n u → AreShort (last_asked t u)
  last-short t none g h = tt
  last-short t (tree l c none) g h = (one-short t l c none g h, tt)
  last-short t (tree l c (tree m d o)) g h = last-short t (tree m d o) g h.2

  -- ---- fields
  together-within : (args : Trees) (ts : List Trees) → IsWithin n args → Every (IsField n) ts → IsWithin n (together (map (instantiate zero args) ts))
  together-within args [] h e = tt
  together-within args (t ∷ ts) h e = within-append n (instantiate zero args t) (together (map (instantiate zero args) ts)) (within-instance n zero args t h e.0.1) (together-within args ts h e.1)

  fields-within : (s : ℕ) (x : StructDecl) (args : Trees) → In x (structs_named V s) → IsWithin n args → IsWithin n (fields_of x args)
  fields-within s x args i h = together-within args x.fields h (fields x (in-filter (λ (y : StructDecl). y.name == s) V.structs x i).0)

  pub last-unsizes-short : (fs : List Trees) (b d : Trees) → 2 ≤ n → IsWithin n b → IsWithin n d → Every (IsField n) fs → AreShort (last_unsizes fs b d)
  last-unsizes-short [] b d two h g e = tt
  last-unsizes-short (f ∷ []) b d two h g e =
      let many = count-append (instantiate zero b f) (instantiate zero d f) in
      let left = count-instance n zero b f h in
      let right = count-instance n zero d f g in
      let one = e.0.0 in (
        from-parts (record { trait = unsize; args = instantiate zero b f +++ instantiate zero d f }) (omega (arith, two, many, left, right, one))
            (within-append n (instantiate zero b f) (instantiate zero d f) (within-instance n zero b f h e.0.1) (within-instance n zero d f g e.0.1)),
        tt,
      )
  last-unsizes-short (f ∷ k ∷ fs) b d two h g e = last-unsizes-short (k ∷ fs) b d two h g e.1

  -- ---- rows
  pub sized-short : (u : Trees) → IsWithin n u → count u ≤ n → AskShort (sized_rules V u)
  sized-short none h g = tt
  sized-short (tree bool c o) h g = (tt, tt)
  sized-short (tree char c o) h g = (tt, tt)
  sized-short (tree never c o) h g = (tt, tt)
  sized-short (tree (int k) c o) h g = (tt, tt)
  sized-short (tree (uint k) c o) h g = (tt, tt)
  sized-short (tree (fn_ptr k) c o) h g = (tt, tt)
  sized-short (tree (raw_pointer k) c o) h g = (tt, tt)
  sized-short (tree (ref k) c o) h g = (tt, tt)
  sized-short (tree array c o) h g = (tt, tt)
  sized-short (tree tuple items o) h g = (last-short sized items (omega (arith, g)) h.1, tt)
  sized-short (tree (adt s) args o) h g =
      every-flat (λ (u : Rule). AreShort u.premises) (λ x. row sized_struct (last_asked sized (fields_of x args))) (structs_named V s)
      (λ x i. (last-short sized (fields_of x args) (omega (arith, g)) (fields-within s x args i h.1), tt))
  sized-short (tree l c o) h g = tt

  pub copy-short : (t : ℕ) (u : Trees) → IsWithin n u → count u ≤ n → AskShort (copy_rules t u)
  copy-short t none h g = tt
  copy-short t (tree (fn_ptr k) c o) h g = (tt, tt)
  copy-short t (tree tuple items o) h g = (each-short t items (omega (arith, g)) h.1, tt)
  copy-short t (tree l c o) h g = tt

  plain-short : (t : ℕ) (l : Label) (c o : Trees) → 1 ≤ n → IsWithin n (tree l c o) → AskShort (auto_rules_plain V t (tree l c o))
  plain-short t bool c o g h = (tt, tt)
  plain-short t char c o g h = (tt, tt)
  plain-short t never c o g h = (tt, tt)
  plain-short t (int k) c o g h = (tt, tt)
  plain-short t (uint k) c o g h = (tt, tt)
  plain-short t (fn_ptr k) c o g h = (tt, tt)
  plain-short t str c o g h = ((from-parts (asked t (tree slice (leaf (uint 0)) none)) g (g, (omega arith, tt, tt), tt), tt), tt)
  plain-short t (raw_pointer k) none o g h = tt
  plain-short t (raw_pointer k) (tree l c p) o g h = ((one-short t l c p g h.1, tt), tt)
  plain-short t array none o g h = tt
  plain-short t array (tree l c p) o g h = ((one-short t l c p g h.1, tt), tt)
  plain-short t slice none o g h = tt
  plain-short t slice (tree l c p) o g h = ((one-short t l c p g h.1, tt), tt)
  plain-short t (ref k) none o g h = tt
  plain-short t (ref k) (tree r d none) o g h = tt
  plain-short t (ref k) (tree r d (tree l c p)) o g h = ((one-short t l c p g h.1.2, tt), tt)
  plain-short t tuple items o g h = (each-short t items g h.1, tt)
  plain-short t (adt s) args o g h =
      every-flat (λ (u : Rule). AreShort u.premises) (λ x. row auto_struct (each_asked t (fields_of x args))) (structs_named V s)
      (λ x i. (each-short t (fields_of x args) g (fields-within s x args i h.1), tt))
  plain-short t l c o g h = tt

  pub auto-short : (t : ℕ) (u : Trees) → IsWithin n u → count u ≤ n → AskShort (auto_rules V t u)
  auto-short t none h g = tt
  auto-short t (tree l c o) h g = by (is_written V t l)
    where
      by : (b : Bool) → AskShort (if b then [] else auto_rules_plain V t (tree l c o))
      by true = tt
      by false = plain-short t l c o (omega (arith, g)) h

  pub tuple-short : (u : Trees) → AskShort (tuple_rules u)
  tuple-short none = tt
  tuple-short (tree tuple c o) = (tt, tt)
  tuple-short (tree l c o) = tt

  pub fn-ptr-short : (u : Trees) → AskShort (fn_ptr_rules u)
  fn-ptr-short none = tt
  fn-ptr-short (tree (fn_ptr k) c o) = (tt, tt)
  fn-ptr-short (tree l c o) = tt

  -- ---- bounds of a `dyn`
  -- a bound counts its Self, so that with one it is no wider
  pub principal-short : (l : Label) (c b : Trees) → 1 ≤ n → IsWithin n (tree l c none) → IsWithin n b → AreShort (principal_with (tree l c none) b)
  principal-short l c none one h g = tt
  principal-short l c (tree (principal k t) none o) one h g = (from-parts (record { trait = t; args = tree l c none }) one h, tt)
  principal-short l c (tree (principal k t) (tree m d p) o) one h g = (from-parts (record { trait = t; args = tree l c (tree m d p) }) g.0 (h.0, h.1, g.1), tt)
  principal-short l c (tree m d o) one h g = tt

  pub autos-short : (l : Label) (c b : Trees) → 1 ≤ n → IsWithin n (tree l c none) → AreShort (autos_with (tree l c none) b)
  autos-short l c none one h = tt
  autos-short l c (tree (auto_trait t) d o) one h = (from-parts (asked t (tree l c none)) one h, autos-short l c o one h)
  autos-short l c (tree m d o) one h = autos-short l c o one h

  pub to-dyn-short : (u : Trees) → IsWithin n u → count u ≤ n → AskShort (unsize_to_dyn_rules V u)
  to-dyn-short none h g = tt
  to-dyn-short (tree l c none) h g = tt
  to-dyn-short (tree l c (tree dynamic b o)) h g = by (not (is_dyn l) && are_dyn_compatible V (principal_with self b))
    where
      self : Trees
      self = tree l c none

      one : 1 ≤ n
      one = omega (arith, g)

      by : (t : Bool) → AskShort (if t then row unsize_to_dyn (principal_with self b ++ (autos_with self b ++ asked sized self ∷ [])) else [])
      by false = tt
      by true = (
        both-lists (λ r. width_of r ≤ n) (principal_with self b) (autos_with self b ++ asked sized self ∷ []) (principal-short l c b one (h.0, h.1, tt) h.2.1)
            (both-lists (λ r. width_of r ≤ n) (autos_with self b) (asked sized self ∷ []) (autos-short l c b one (h.0, h.1, tt)) (one-short sized l c none one (h.0, h.1, tt), tt)),
        tt,
      )
  to-dyn-short (tree l c (tree m d o)) h g = tt

  -- ---- supertraits
  pub elaborated-short : (rs : List Reference) → AreShort rs → AreShort (elaborate V rs)
  elaborated-short rs h = elaborated-so V (λ r. width_of r ≤ n) (λ r g x i b j. instance-within n r.args b (args-within r g) (bounds x i b j)) rs h

  pub supertraits-short : (r : Reference) → width_of r ≤ n → AreShort (supertraits V r)
  supertraits-short r h = supertraits-so V (λ r. width_of r ≤ n) (λ r g x i b j. instance-within n r.args b (args-within r g) (bounds x i b j)) r h

  -- ---- arguments
  pub but-last-within : (u : Trees) → IsWithin n u → IsWithin n (but_last u)
  but-last-within none h = tt
  but-last-within (tree l c none) h = tt
  but-last-within (tree l c (tree m d o)) h = (h.0, h.1, but-last-within (tree m d o) h.2)

  pub but-last-count : (u : Trees) → count (but_last u) ≤ count u
  but-last-count none = omega arith
  but-last-count (tree l c none) = omega arith
  but-last-count (tree l c (tree m d o)) = let e = but-last-count (tree m d o) in omega (arith, e)

  pub unsizing-within : (fs : List Trees) (k : ℕ) (x y : Trees) → IsWithin n x → IsWithin n y → IsWithin n (with_unsizing fs k x y)
  unsizing-within fs k none y h g = tt
  unsizing-within fs k (tree l c o) none h g = h
  unsizing-within fs k (tree l c o) (tree m d p) h g = by (is_unsizing fs k) (unsizing-within fs (suc k) o p h.2 g.2)
    where
      by : (b : Bool) → IsWithin n (with_unsizing fs (suc k) o p) → IsWithin n (if b then tree m d (with_unsizing fs (suc k) o p) else tree l c (with_unsizing fs (suc k) o p))
      by true r = (g.0, g.1, r)
      by false r = (h.0, h.1, r)
