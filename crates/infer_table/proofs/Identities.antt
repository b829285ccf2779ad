-- The response in which each variable is its own value. Its variables are of its kinds, and it agrees with all values of these.
use Rattle.std.proofs.Common.{◌≡◌, ℕ, zero, suc, ◌+◌, Bool, true, false, refl, ap, sym, ◌∙◌, subst, arith, List, [], ◌∷◌, map, drop, Option, Some, None, if◌then◌else◌}
use Rattle.std.specs.Prelude.{option_map}
use Rattle.std.specs.List.{slice_get}
use Rattle.type_terms.specs.Promised.Label.{Label, Sort, of_type, of_const, of_lifetime, canonical, static}
use Rattle.type_terms.specs.Promised.Trees.{Trees, leaf, ◌+++◌, sort_of, is_sort}
use Rattle.type_terms.specs.Promised.Handles.{Entry}
use Rattle.type_terms.specs.Terms.{Lawful}
use Rattle.type_terms.specs.Promised.Handles.{ArgHeld, ArgsHeld, arg_trees, region_label}
use Rattle.type_terms.specs.Kinds.{args_trees}
use Rattle.type_terms.specs.declared.region.RegionKind.{RegionKind}
use Rattle.type_terms.specs.declared.region.RegionKind.TheVariants.{ReStatic, ReEarlyParam, RePlaceholder, ReBound, ReVar}
use Rattle.type_terms.specs.declared.number.BoundVarIndexKind.TheVariants.{Canonical, Bound}
use Rattle.type_terms.specs.declared.kinds.GenericArgKind.{GenericArgKind}
use Rattle.type_terms.specs.declared.kinds.GenericArgKind.TheVariants.{Lifetime, Ty as AType, Const as AConst}
use Rattle.type_terms.proofs.Sorts.{arg-single}
use Rattle.infer_table.specs.Solutions.{Assignment, tree_of, instance, IsSorted}
use Rattle.infer_table.specs.declared.canonical.CanonicalVarKind.{CanonicalVarKind}
use Rattle.infer_table.proofs.SolutionLaws.{is_sort-equal, instance-append, instance-single}
use Rattle.infer_table.specs.Leaves.{root_label}
use Rattle.infer_table.specs.Values.{Value, sort_of_arg, value_of, values_of}
use Rattle.infer_table.specs.Raw.{sort_of_kind, variable_value, variables_from}
use Rattle.infer_table.specs.Covers.{chosen, Agrees, AreNumbered}
use Rattle.infer_table.proofs.Covers.{chosen-append, instance-root, arg-root}
use Rattle.type_terms.proofs.TermBasics.{two as both, is_sort-self}

-- ---- items in their places
no-items : {X : Type 0} (x : X) (rest : List X) → [] ≡ x ∷ rest → ⊥
no-items x rest e = cc

cons-parts : {X : Type 0} (x y : X) (xs ys : List X) → x ∷ xs ≡ y ∷ ys → (x ≡ y) × (xs ≡ ys)
cons-parts x y xs ys e = (cc, cc)

drop-item : {X : Type 0} (xs : List X) (i : ℕ) (x : X) (rest : List X) → drop i xs ≡ x ∷ rest → (slice_get xs i ≡ Some x) × (drop (suc i) xs ≡ rest)
drop-item [] zero x rest e = absurd (no-items x rest e)
drop-item [] (suc i) x rest e = absurd (no-items x rest e)
drop-item (y ∷ ys) zero x rest e = let p = cons-parts y x ys rest e in (ap Some p.0, p.1)
drop-item (y ∷ ys) (suc i) x rest e = drop-item ys i x rest e

drop-next : {X : Type 0} (xs : List X) (i : ℕ) (rest : List X) → drop (suc i) xs ≡ rest → drop (i + 1) xs ≡ rest
drop-next xs i rest e = let one : i + 1 ≡ suc i = omega arith in ap (λ n. drop n xs) one ∙ e

numbered-leaf : (ks : List CanonicalVarKind) (j : Sort) (i : ℕ) (a rest : Trees) → a ≡ leaf (canonical j i) → option_map sort_of_kind (slice_get ks i) ≡ Some j → AreNumbered ks rest → AreNumbered ks (a +++ rest)
numbered-leaf ks j i a rest e k h = subst (λ z. AreNumbered ks (z +++ rest)) (sym e) (k, refl, h)

-- the variables from i on are of the kinds in their places
numbered-from : (es : List Entry) (all : List CanonicalVarKind) (i : ℕ) (ks : List CanonicalVarKind) (vs : List GenericArgKind) → drop i all ≡ ks → values_of es vs ≡ variables_from i ks → AreNumbered all (args_trees es vs)
numbered-from es all i ks [] d e = tt
numbered-from es all i [] (v ∷ vs) d e = cc
numbered-from es all i (k ∷ ks) (v ∷ vs) d e =
    let parts = cons-parts (value_of es v) (variable_value k i) (values_of es vs) (variables_from (i + 1) ks) e in
    let place = drop-item all i k ks d in
    numbered-leaf all (sort_of_kind k) i (arg_trees es v) (args_trees es vs) (ap (λ (z : Value). z.trees) parts.0) (ap (option_map sort_of_kind) place.0) (numbered-from es all (i + 1) ks vs (drop-next all i ks place.1) parts.1)

pub identity-numbered : (es : List Entry) (ks : List CanonicalVarKind) (vs : List GenericArgKind) → values_of es vs ≡ variables_from 0 ks → AreNumbered ks (args_trees es vs)
identity-numbered es ks vs e = numbered-from es ks 0 ks vs refl e

-- ---- each variable is chosen as the value in its place
region-read : (s : Assignment) (k : RegionKind) → instance s (leaf (region_label k)) ≡ leaf static
region-read s ReStatic = refl
region-read s (ReEarlyParam i) = refl
region-read s (RePlaceholder i) = refl
region-read s (ReBound (Bound d) v) = refl
region-read s (ReBound Canonical v) = refl
region-read s (ReVar v) = refl

module _ (es : List Entry) (law : Lawful es) (s : Assignment) (sorted : IsSorted s) where
  abbrev node_of : (x : GenericArgKind) → ArgHeld es x → Label × Trees
  node_of x h = (instance-single s (arg_trees es x) (arg-single es law.sorted x h)).0

  abbrev nodes : (xs : List GenericArgKind) → ArgsHeld es xs → List (Label × Trees)
  nodes [] h = []
  nodes (x ∷ xs) h = node_of x h.0 ∷ nodes xs h.1

  abbrev choose : Sort → Option (Label × Trees) → Label × Trees
  choose k None = s k 0
  choose k (Some n) = if is_sort (sort_of n.0) k then n else s k 0

  abbrev choice : List (Label × Trees) → Assignment
  choice ns = λ k i. choose k (slice_get ns i)

  choose-sorted : (k : Sort) (o : Option (Label × Trees)) → sort_of (choose k o).0 ≡ k
  choose-sorted k None = sorted k 0
  choose-sorted k (Some n) = by (is_sort (sort_of n.0) k) refl
    where
      by : (b : Bool) → is_sort (sort_of n.0) k ≡ b → sort_of (if is_sort (sort_of n.0) k then n else s k 0).0 ≡ k
      by true e = ap (λ (b : Bool). sort_of (if b then n else s k 0).0) e ∙ is_sort-equal (sort_of n.0) k e
      by false e = ap (λ (b : Bool). sort_of (if b then n else s k 0).0) e ∙ sorted k 0

  node-read : (x : GenericArgKind) (h : ArgHeld es x) → instance s (arg_trees es x) ≡ tree_of (node_of x h)
  node-read x h = (instance-single s (arg_trees es x) (arg-single es law.sorted x h)).1

  node-sort : (x : GenericArgKind) (h : ArgHeld es x) → sort_of (node_of x h).0 ≡ sort_of_arg x
  node-sort x h = ap (λ t. sort_of (root_label t)) (sym (node-read x h)) ∙ instance-root s sorted (arg_trees es x) ∙ arg-root es law x h

  chosen-self : (all : List (Label × Trees)) (k : Sort) (i : ℕ) (x : GenericArgKind) (h : ArgHeld es x) → sort_of_arg x ≡ k → slice_get all i ≡ Some (node_of x h) → tree_of (choice all k i) ≡ instance s (arg_trees es x)
  chosen-self all k i x h e g =
      ap (λ o. tree_of (choose k o)) g
      ∙ ap (λ (b : Bool). tree_of (if b then node_of x h else s k 0)) (ap (λ (j : Sort). is_sort j k) (node-sort x h ∙ e) ∙ is_sort-self k)
      ∙ sym (node-read x h)

  lifetime-read : (x : GenericArgKind) → sort_of_arg x ≡ of_lifetime → leaf static ≡ instance s (arg_trees es x)
  lifetime-read (Lifetime r) e = sym (region-read s r.kind)
  lifetime-read (AType t) e = cc
  lifetime-read (AConst t) e = cc

  variable-read : (all : List (Label × Trees)) (k : Sort) (i : ℕ) (x : GenericArgKind) (h : ArgHeld es x) → sort_of_arg x ≡ k → slice_get all i ≡ Some (node_of x h) → chosen (choice all) (leaf (canonical k i)) ≡ instance s (arg_trees es x)
  variable-read all of_type i x h e g = chosen-self all of_type i x h e g
  variable-read all of_const i x h e g = chosen-self all of_const i x h e g
  variable-read all of_lifetime i x h e g = lifetime-read x e

  agrees-from : (made : List Entry) (all : List (Label × Trees)) (i : ℕ) (ks : List CanonicalVarKind) (vs xs : List GenericArgKind) (h : ArgsHeld es xs) → drop i all ≡ nodes xs h
      → values_of made vs ≡ variables_from i ks → map sort_of_arg xs ≡ map sort_of_kind ks → chosen (choice all) (args_trees made vs) ≡ instance s (args_trees es xs)
  agrees-from made all i [] [] [] h d e g = refl
  agrees-from made all i [] [] (x ∷ xs) h d e g = cc
  agrees-from made all i [] (v ∷ vs) xs h d e g = cc
  agrees-from made all i (k ∷ ks) [] xs h d e g = cc
  agrees-from made all i (k ∷ ks) (v ∷ vs) [] h d e g = cc
  agrees-from made all i (k ∷ ks) (v ∷ vs) (x ∷ xs) h d e g =
      let values = cons-parts (value_of made v) (variable_value k i) (values_of made vs) (variables_from (i + 1) ks) e in
      let sorts = cons-parts (sort_of_arg x) (sort_of_kind k) (map sort_of_arg xs) (map sort_of_kind ks) g in
      let place = drop-item all i (node_of x h.0) (nodes xs h.1) d in
      chosen-append (choice all) (arg_trees made v) (args_trees made vs)
      ∙ both _ _ _ _ (ap (λ (z : Value). chosen (choice all) z.trees) values.0 ∙ variable-read all (sort_of_kind k) i x h.0 sorts.0 place.0)
      (agrees-from made all (i + 1) ks vs xs h.1 (drop-next all i (nodes xs h.1) place.1) values.1 sorts.1)
      ∙ sym (instance-append s (arg_trees es x) (args_trees es xs))

  pub identity-agrees : (made : List Entry) (ks : List CanonicalVarKind) (vs xs : List GenericArgKind) → ArgsHeld es xs → values_of made vs ≡ variables_from 0 ks → map sort_of_arg xs ≡ map sort_of_kind ks
      → Agrees (args_trees made vs) (instance s (args_trees es xs))
  identity-agrees made ks vs xs h e g = (choice (nodes xs h), λ k i. choose-sorted k (slice_get (nodes xs h) i), agrees-from made (nodes xs h) 0 ks vs xs h refl e g)
