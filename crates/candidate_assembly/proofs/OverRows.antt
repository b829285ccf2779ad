-- What rules ask of types over a candidate's variables is over them too.
use Rattle.std.proofs.Common.{◌==◌, ℕ, zero, suc, Bool, true, false, not, ◌&&◌, if◌then◌else◌, List, [], ◌∷◌, ◌++◌, map, refl}
use Rattle.type_terms.specs.Promised.Label.{Label, tuple, dynamic, array, slice, adt, fn_ptr, str, raw_pointer, ref, bool, char, never, int, uint, principal, auto_trait}
use Rattle.type_terms.specs.Promised.Trees.{Trees, none, tree, instantiate}
use Rattle.type_terms.specs.Promised.Worlds.{World, Reference, StructDecl, TraitDecl, structs_named}
use Rattle.type_terms.specs.Promised.Rules.{Rule, row, sized, asked, each_asked, last_asked, together, fields_of, sized_struct, auto_struct, unsize_to_dyn, sized_rules, copy_rules, auto_rules, auto_rules_plain, is_written, tuple_rules, fn_ptr_rules, is_dyn, are_dyn_compatible, unsize_to_dyn_rules, but_last, principal_with, autos_with, is_unsizing, with_unsizing, last_unsizes}
use Rattle.type_terms.specs.Promised.Proofs.{In}
use Rattle.type_terms.proofs.Members.{in-filter}
use Rattle.type_terms.proofs.Made.{false-true}
use Rattle.goal_evaluator.specs.Lists.{Every}
use Rattle.goal_evaluator.specs.Fitting.{AreOver}
use Rattle.declarations.specs.Promised.Elaboration.{elaborate, supertraits}
use Rattle.candidate_model.proofs.Elaborating.{every-flat, elaborated-so, supertraits-so}
use Rattle.candidate_assembly.proofs.Over.{ArePlain, over-head, over-append, over-instance}
use Rattle.goal_evaluator.proofs.Basics.{both-lists}

module _ (V : World) (ls : List Label) (fields : (x : StructDecl) → In x V.structs → Every ArePlain x.fields) (bounds : (x : TraitDecl) → In x V.traits → (b : Reference) → In b x.bounds → ArePlain b.args) where
  abbrev pub AreOverAll : List Reference → Type 0
  AreOverAll rs = Every (λ (r : Reference). AreOver ls r.args) rs

  abbrev pub AskOver : List Rule → Type 0
  AskOver us = Every (λ (u : Rule). AreOverAll u.premises) us

  -- ---- one tree of several, asked for a trait
  each-over : (t : ℕ) (u : Trees) → AreOver ls u → AreOverAll (each_asked t u)
  each-over t none h = tt
  each-over t (tree l c o) h = (over-head ls l c o h, each-over t o h.3)

  pub last-over : (t : ℕ) (u : Trees) → AreOver ls u → AreOverAll (last_asked t u)
  last-over t none h = tt
  last-over t (tree l c none) h = (over-head ls l c none h, tt)
  last-over t (tree l c (tree m d o)) h = last-over t (tree m d o) h.3

  -- ---- fields
  together-over : (args : Trees) (ts : List Trees) → AreOver ls args → Every ArePlain ts → AreOver ls (together (map (instantiate zero args) ts))
  together-over args [] h e = tt
  together-over args (t ∷ ts) h e = over-append ls (instantiate zero args t) (together (map (instantiate zero args) ts)) (over-instance ls args t h e.0) (together-over args ts h e.1)

  fields-over : (s : ℕ) (x : StructDecl) (args : Trees) → In x (structs_named V s) → AreOver ls args → AreOver ls (fields_of x args)
  fields-over s x args i h = together-over args x.fields h (fields x (in-filter (λ (y : StructDecl). y.name == s) V.structs x i).0)

  pub last-unsizes-over : (fs : List Trees) (b d : Trees) → AreOver ls b → AreOver ls d → Every ArePlain fs → AreOverAll (last_unsizes fs b d)
  last-unsizes-over [] b d h g e = tt
  last-unsizes-over (f ∷ []) b d h g e = (over-append ls (instantiate zero b f) (instantiate zero d f) (over-instance ls b f h e.0) (over-instance ls d f g e.0), tt)
  last-unsizes-over (f ∷ k ∷ fs) b d h g e = last-unsizes-over (k ∷ fs) b d h g e.1

  -- ---- rows
  pub sized-over : (u : Trees) → AreOver ls u → AskOver (sized_rules V u)
  sized-over none h = tt
  sized-over (tree bool c o) h = (tt, tt)
  sized-over (tree char c o) h = (tt, tt)
  sized-over (tree never c o) h = (tt, tt)
  sized-over (tree (int k) c o) h = (tt, tt)
  sized-over (tree (uint k) c o) h = (tt, tt)
  sized-over (tree (fn_ptr k) c o) h = (tt, tt)
  sized-over (tree (raw_pointer k) c o) h = (tt, tt)
  sized-over (tree (ref k) c o) h = (tt, tt)
  sized-over (tree array c o) h = (tt, tt)
  sized-over (tree tuple items o) h = (last-over sized items h.2, tt)
  sized-over (tree (adt s) args o) h =
      every-flat (λ (u : Rule). AreOverAll u.premises) (λ x. row sized_struct (last_asked sized (fields_of x args))) (structs_named V s)
      (λ x i. (last-over sized (fields_of x args) (fields-over s x args i h.2), tt))
  sized-over (tree l c o) h = tt

  pub copy-over : (t : ℕ) (u : Trees) → AreOver ls u → AskOver (copy_rules t u)
  copy-over t none h = tt
  copy-over t (tree (fn_ptr k) c o) h = (tt, tt)
  copy-over t (tree tuple items o) h = (each-over t items h.2, tt)
  copy-over t (tree l c o) h = tt

  plain-over : (t : ℕ) (u : Trees) → AreOver ls u → AskOver (auto_rules_plain V t u)
  plain-over t none h = tt
  plain-over t (tree bool c o) h = (tt, tt)
  plain-over t (tree char c o) h = (tt, tt)
  plain-over t (tree never c o) h = (tt, tt)
  plain-over t (tree (int k) c o) h = (tt, tt)
  plain-over t (tree (uint k) c o) h = (tt, tt)
  plain-over t (tree (fn_ptr k) c o) h = (tt, tt)
  plain-over t (tree str c o) h = (((refl, λ e. absurd (false-true e), (refl, λ e. refl, tt, tt), tt), tt), tt)
  plain-over t (tree (raw_pointer k) none o) h = tt
  plain-over t (tree (raw_pointer k) (tree l c p) o) h = ((over-head ls l c p h.2, tt), tt)
  plain-over t (tree array none o) h = tt
  plain-over t (tree array (tree l c p) o) h = ((over-head ls l c p h.2, tt), tt)
  plain-over t (tree slice none o) h = tt
  plain-over t (tree slice (tree l c p) o) h = ((over-head ls l c p h.2, tt), tt)
  plain-over t (tree (ref k) none o) h = tt
  plain-over t (tree (ref k) (tree r d none) o) h = tt
  plain-over t (tree (ref k) (tree r d (tree l c p)) o) h = ((over-head ls l c p h.2.3, tt), tt)
  plain-over t (tree tuple items o) h = (each-over t items h.2, tt)
  plain-over t (tree (adt s) args o) h =
      every-flat (λ (u : Rule). AreOverAll u.premises) (λ x. row auto_struct (each_asked t (fields_of x args))) (structs_named V s)
      (λ x i. (each-over t (fields_of x args) (fields-over s x args i h.2), tt))
  plain-over t (tree l c o) h = tt

  pub auto-over : (t : ℕ) (u : Trees) → AreOver ls u → AskOver (auto_rules V t u)
  auto-over t none h = tt
  auto-over t (tree l c o) h = by (is_written V t l)
    where
      by : (b : Bool) → AskOver (if b then [] else auto_rules_plain V t (tree l c o))
      by true = tt
      by false = plain-over t (tree l c o) h

  pub tuple-over : (u : Trees) → AskOver (tuple_rules u)
  tuple-over none = tt
  tuple-over (tree tuple c o) = (tt, tt)
  tuple-over (tree l c o) = tt

  pub fn-ptr-over : (u : Trees) → AskOver (fn_ptr_rules u)
  fn-ptr-over none = tt
  fn-ptr-over (tree (fn_ptr k) c o) = (tt, tt)
  fn-ptr-over (tree l c o) = tt

  -- ---- bounds of a `dyn`
  pub principal-over : (self b : Trees) → AreOver ls self → AreOver ls b → AreOverAll (principal_with self b)
  principal-over self none h g = tt
  principal-over self (tree (principal k t) args o) h g = (over-append ls self args h g.2, tt)
  principal-over self (tree m d o) h g = tt

  pub autos-over : (self b : Trees) → AreOver ls self → AreOverAll (autos_with self b)
  autos-over self none h = tt
  autos-over self (tree (auto_trait t) d o) h = (h, autos-over self o h)
  autos-over self (tree m d o) h = autos-over self o h

  pub to-dyn-over : (u : Trees) → AreOver ls u → AskOver (unsize_to_dyn_rules V u)
  to-dyn-over none h = tt
  to-dyn-over (tree l c none) h = tt
  to-dyn-over (tree l c (tree dynamic b o)) h = by (not (is_dyn l) && are_dyn_compatible V (principal_with self b))
    where
      self : Trees
      self = tree l c none

      own : AreOver ls self
      own = over-head ls l c (tree dynamic b o) h

      by : (t : Bool) → AskOver (if t then row unsize_to_dyn (principal_with self b ++ (autos_with self b ++ asked sized self ∷ [])) else [])
      by false = tt
      by true = (
        both-lists (λ (r : Reference). AreOver ls r.args) (principal_with self b) (autos_with self b ++ asked sized self ∷ []) (principal-over self b own h.3.2)
            (both-lists (λ (r : Reference). AreOver ls r.args) (autos_with self b) (asked sized self ∷ []) (autos-over self b own) (own, tt)),
        tt,
      )
  to-dyn-over (tree l c (tree m d o)) h = tt

  -- ---- supertraits
  pub elaborated-over : (rs : List Reference) → AreOverAll rs → AreOverAll (elaborate V rs)
  elaborated-over rs h = elaborated-so V (λ (r : Reference). AreOver ls r.args) (λ r g x i b j. over-instance ls r.args b.args g (bounds x i b j)) rs h

  pub supertraits-over : (r : Reference) → AreOver ls r.args → AreOverAll (supertraits V r)
  supertraits-over r h = supertraits-so V (λ (r : Reference). AreOver ls r.args) (λ r g x i b j. over-instance ls r.args b.args g (bounds x i b j)) r h

  -- ---- arguments
  pub but-last-over : (u : Trees) → AreOver ls u → AreOver ls (but_last u)
  but-last-over none h = tt
  but-last-over (tree l c none) h = tt
  but-last-over (tree l c (tree m d o)) h = (h.0, h.1, h.2, but-last-over (tree m d o) h.3)

  pub unsizing-over : (fs : List Trees) (k : ℕ) (x y : Trees) → AreOver ls x → AreOver ls y → AreOver ls (with_unsizing fs k x y)
  unsizing-over fs k none y h g = tt
  unsizing-over fs k (tree l c o) none h g = h
  unsizing-over fs k (tree l c o) (tree m d p) h g = by (is_unsizing fs k) (unsizing-over fs (suc k) o p h.3 g.3)
    where
      by : (b : Bool) → AreOver ls (with_unsizing fs (suc k) o p) → AreOver ls (if b then tree m d (with_unsizing fs (suc k) o p) else tree l c (with_unsizing fs (suc k) o p))
      by true r = (g.0, g.1, g.2, r)
      by false r = (h.0, h.1, h.2, r)
