-- If a response has no values, the table's own variables can have all values.
use Rattle.std.proofs.Common.{◌≡◌, ℕ, zero, suc, ◌+◌, ◌<◌, ◌≤◌, arith, Bool, true, false, ◌&&◌, List, [], ◌∷◌, map, refl, sym, ◌∙◌, ap, subst, Some, if◌then◌else◌, is_some, ◌⊎◌, inl, inr}
use Rattle.std.proofs.lemmas.Bool.{eqb-true}
use Rattle.type_terms.specs.Promised.Label.{Label, Sort, of_type, of_const, of_lifetime, infer, param, placeholder, canonical, static}
use Rattle.type_terms.specs.Promised.Trees.{Trees, none, tree, leaf, sort_of, is_sort}
use Rattle.type_terms.specs.Codes.{same}
use Rattle.type_terms.proofs.Matching.{same-sound}
use Rattle.infer_table.specs.Canonical.{HasNoCanonical, kind_of_leaf, place_of, canonical_label, relabeled}
use Rattle.infer_table.specs.Solutions.{Assignment, tree_of, resolved, HasValues}
use Rattle.infer_table.specs.declared.canonical.CanonicalVarKind.{CanonicalVarKind}
use Rattle.infer_table.specs.declared.canonical.CanonicalVarKind.TheVariants.{Ty, PlaceholderTy, Const, PlaceholderConst, Region}
use Rattle.infer_table.proofs.SolutionLaws.{resolved-rigid, resolved-none}
use Rattle.infer_table.proofs.UnifyFacts.{same-is}
use Rattle.goal_evaluator.specs.Lists.{Every}
use Rattle.goal_evaluator.specs.Instances.{read_with, of_sort, first_term, other_terms, term_at}
use Rattle.type_terms.specs.Made.{terms, is_made}
use Rattle.goal_evaluator.specs.Content.{Values, ChosenTerms, fits, standing, reading_of}
use Rattle.goal_evaluator.specs.FrameTables.{kind_at, is_placeholder_of, is_good, AreOwn, FrameTable, IsMadeFrame, HaveValues, Allows}
use Rattle.goal_evaluator.specs.TableAnswers.{is_variable_itself, are_variables, has_values, own_labels, answer_leaves, numbered, value_numbered, respond}
use Rattle.infer_table.specs.declared.certainty.Certainty.TheVariants.{Yes}
use Rattle.type_terms.proofs.Made.{false-true, left, right}
use Rattle.goal_evaluator.proofs.Reading.{append-none, same-map, same-hold}
use Rattle.goal_evaluator.proofs.Questions.{excludes-canonical, made-clean}
use Rattle.infer_table.proofs.WithoutCanonical.{IsNoCanonical, clean-parts}
use Rattle.goal_evaluator.proofs.Resolved.{made-resolved}
use Rattle.goal_evaluator.proofs.Whole.{IsOne}
use Rattle.goal_evaluator.proofs.TableBeginning.{node_of, node-is, zero-plus}
use Rattle.goal_evaluator.proofs.Free.{resolved-one, made-proper, based, completed, completed-reads, completed-holds, completed-sorted}
use Rattle.goal_evaluator.proofs.Answering.{not-false}

-- ---- a variable that stands for itself
itself-node : (i : ℕ) (k : Sort) (l : Label) (c : Trees) → HasValues k → is_variable_itself i k (tree l c none) ≡ true → (s : Sort) × (l ≡ canonical s i) × (c ≡ none)
itself-node i of_type (canonical s j) none g h = (s, ap (canonical s) (sym (eqb-true i j (right (is_sort of_type s) _ h))), refl)
itself-node i of_const (canonical s j) none g h = (s, ap (canonical s) (sym (eqb-true i j (right (is_sort of_const s) _ h))), refl)
itself-node i of_lifetime l c g h = absurd g
itself-node i k l c g h = absurd (false-true h)

no-tree-relabeled : (f : Label → Label) (c : Trees) → relabeled kind_of_leaf f c ≡ none → c ≡ none
no-tree-relabeled f none e = refl
no-tree-relabeled f (tree l c o) e = absurd (cc)

-- its own number is its place, and it is a leaf
itself-leaf : (ls : List Label) (i : ℕ) (k : Sort) (l : Label) (c : Trees) → HasValues k → IsNoCanonical l → is_variable_itself i k (relabeled kind_of_leaf (canonical_label ls) (tree l c none)) ≡ true
    → (c ≡ none) × (place_of l ls ≡ i) × (is_some (kind_of_leaf l) ≡ true)
itself-leaf ls i k l c g n h =
    let x = itself-node i k (if is_some (kind_of_leaf l) then canonical_label ls l else l) (relabeled kind_of_leaf (canonical_label ls) c) g h in
    by (is_some (kind_of_leaf l)) refl x.0 x.1 (no-tree-relabeled (canonical_label ls) c x.2)
  where
    number : (r s : Sort) (a b : ℕ) → canonical r a ≡ canonical s b → a ≡ b
    number r s a b e = cc

    no-canonical : (s : Sort) (j : ℕ) (m : Label) → IsNoCanonical m → m ≡ canonical s j → ⊥
    no-canonical s j m n e = subst IsNoCanonical e n

    by : (b : Bool) → is_some (kind_of_leaf l) ≡ b → (s : Sort) → (if b then canonical_label ls l else l) ≡ canonical s i → c ≡ none → (c ≡ none) × (place_of l ls ≡ i) × (is_some (kind_of_leaf l) ≡ true)
    by true o s e z = (z, number (sort_of l) s (place_of l ls) i e, o)
    by false o s e z = absurd (no-canonical s i l n e)

-- ---- the terms that are chosen
-- the first of the values whose variable resolves to this unknown
abbrev pub chosen_value : (Label → Trees) → Sort → ℕ → List Label → List Trees → Trees
chosen_value f k n [] ts = none
chosen_value f k n (l ∷ ls) ts = if same (f l) (leaf (infer k n)) then first_term ts else chosen_value f k n ls (other_terms ts)

-- the variable of this place resolves to a leaf with this place
record IsFreeAt (f : Label → Trees) (ls : List Label) (place : ℕ) (l : Label) : Type 0 where
  pub label : Label
  pub is : f l ≡ leaf label
  pub place_is : place_of label ls ≡ place
  pub is_open : is_some (kind_of_leaf label) ≡ true

-- each type and const variable of the goal resolves to a leaf with a place of its own, from `low` on
abbrev AreFree : (Label → Trees) → List Label → ℕ → List Label → Type 0
AreFree f ls low [] = Unit {0}
AreFree f ls low (l ∷ own) = (high : ℕ) × (low ≤ high) × (HasValues (sort_of l) → IsFreeAt f ls low l × (low < high)) × AreFree f ls high own

-- the label stands at this place
abbrev IsAt : ℕ → Label → List Label → Type 0
IsAt d l [] = ⊥
IsAt zero l (m ∷ ms) = l ≡ m
IsAt (suc d) l (m ∷ ms) = IsAt d l ms

leaf-is : (x y : Label) → leaf x ≡ leaf y → x ≡ y
leaf-is x y e = cc

-- ---- facts by place
record HasPlace (f : Label → Trees) (ls : List Label) (low : ℕ) (l : Label) : Type 0 where
  pub place : ℕ
  pub least : low ≤ place
  pub free : IsFreeAt f ls place l

free-at : (f : Label → Trees) (ls : List Label) (low : ℕ) (own : List Label) (d : ℕ) (l : Label) → AreFree f ls low own → IsAt d l own → HasValues (sort_of l) → HasPlace f ls low l
free-at f ls low [] d l a at g = absurd (nowhere d at)
  where
    nowhere : (d : ℕ) → IsAt d l [] → ⊥
    nowhere d at = at
free-at f ls low (m ∷ own) zero l a at g =
    subst (HasPlace f ls low) (sym at) (record { place = low; least = omega arith; free = (a.2 (subst (λ z. HasValues (sort_of z)) at g)).0 })
free-at f ls low (m ∷ own) (suc d) l a at g =
    let x = free-at f ls a.0 own d l a.3 at g in
    record { place = x.place; least = later low a.0 x.place a.1 x.least; free = x.free }
  where
    later : (i j k : ℕ) → i ≤ j → j ≤ k → i ≤ k
    later i j k p q = omega (arith, p, q)

-- the first of the variables and a later one resolve to different leaves
apart-from-first : (f : Label → Trees) (ls : List Label) (low : ℕ) (m : Label) (own : List Label) (d : ℕ) (l x : Label) → AreFree f ls low (m ∷ own) → IsAt d l own
    → HasValues (sort_of m) → HasValues (sort_of l) → f m ≡ leaf x → f l ≡ leaf x → ⊥
apart-from-first f ls low m own d l x a at g h p q =
    let first = a.2 g in
    let other = free-at f ls a.0 own d l a.3 at h in
    let same : first.0.label ≡ other.free.label = leaf-is first.0.label x (sym first.0.is ∙ p) ∙ sym (leaf-is other.free.label x (sym other.free.is ∙ q)) in
    never low a.0 other.place first.1 other.least (sym first.0.place_is ∙ ap (λ z. place_of z ls) same ∙ other.free.place_is)
  where
    never : (i j k : ℕ) → i < j → j ≤ k → i ≡ k → ⊥
    never i j k p q e = omega (arith, p, q, e)

one-place : (f : Label → Trees) (ls : List Label) (low : ℕ) (own : List Label) (d e : ℕ) (l m x : Label) → AreFree f ls low own → IsAt d l own → IsAt e m own
    → HasValues (sort_of l) → HasValues (sort_of m) → f l ≡ leaf x → f m ≡ leaf x → d ≡ e
one-place f ls low [] d e l m x a at at' g h p q = absurd (nowhere d at)
  where
    nowhere : (d : ℕ) → IsAt d l [] → ⊥
    nowhere d at = at
one-place f ls low (n ∷ own) zero zero l m x a at at' g h p q = refl
one-place f ls low (n ∷ own) zero (suc e) l m x a at at' g h p q =
    absurd (apart-from-first f ls low n own e m x a at' (subst (λ z. HasValues (sort_of z)) at g) h (ap f (sym at) ∙ p) q)
one-place f ls low (n ∷ own) (suc d) zero l m x a at at' g h p q =
    absurd (apart-from-first f ls low n own d l x a at (subst (λ z. HasValues (sort_of z)) at' h) g (ap f (sym at') ∙ q) p)
one-place f ls low (n ∷ own) (suc d) (suc e) l m x a at at' g h p q = ap suc (one-place f ls a.0 own d e l m x a.3 at at' g h p q)

-- the first value that is chosen for an unknown is that of the only variable that resolves to it
chosen-is : (f : Label → Trees) (ls : List Label) (k : Sort) (n : ℕ) → ((l : Label) → f l ≡ leaf (infer k n) → HasValues (sort_of l)) → (low : ℕ) (own : List Label) (ts : List Trees) (d : ℕ) (l : Label)
    → AreFree f ls low own → IsAt d l own → f l ≡ leaf (infer k n) → chosen_value f k n own ts ≡ term_at ts d
chosen-is f ls k n sorts low [] ts d l a at e = absurd (nowhere d l at)
  where
    nowhere : (d : ℕ) (l : Label) → IsAt d l [] → ⊥
    nowhere d l at = at
chosen-is f ls k n sorts low (m ∷ own) ts d l a at e = by (same (f m) (leaf (infer k n))) refl d at (λ r q. chosen-is f ls k n sorts a.0 own (other_terms ts) r l a.3 q e)
  where
    by : (b : Bool) → same (f m) (leaf (infer k n)) ≡ b → (d : ℕ) → IsAt d l (m ∷ own)
        → ((r : ℕ) → IsAt r l own → chosen_value f k n own (other_terms ts) ≡ term_at (other_terms ts) r)
        → (if b then first_term ts else chosen_value f k n own (other_terms ts)) ≡ term_at ts d
    by true q zero at rest = refl
    by true q (suc r) at rest =
        let is : f m ≡ leaf (infer k n) = same-sound (f m) (leaf (infer k n)) q in
        absurd (apart-from-first f ls low m own r l (infer k n) a at (sorts m is) (sorts l e) is e)
    by false q zero at rest = absurd (false-true (sym q ∙ same-is (f m) (leaf (infer k n)) (ap f (sym at) ∙ e)))
    by false q (suc r) at rest = rest r at

placeholder-at : (k : Sort) → HasValues k → (place : ℕ) (kinds : List CanonicalVarKind) (labels : List Label) (j : ℕ) → AreOwn place kinds labels → is_placeholder_of k (kind_at kinds j) ≡ true → IsAt j (placeholder k (place + j)) (own_labels kinds labels)
placeholder-at of_type g place [] labels j o h = absurd (false-true h)
placeholder-at of_const g place [] labels j o h = absurd (false-true h)
placeholder-at of_lifetime g place kinds labels j o h = absurd g
placeholder-at k g place (x ∷ kinds) [] j o h = absurd o
placeholder-at of_type g place (PlaceholderTy ∷ kinds) (l ∷ labels) zero o h = ap (placeholder of_type) (plus-zero place) ∙ sym o.0
  where
    plus-zero : (i : ℕ) → i + zero ≡ i
    plus-zero i = omega arith
placeholder-at of_const g place (PlaceholderConst ∷ kinds) (l ∷ labels) zero o h = ap (placeholder of_const) (plus-zero place) ∙ sym o.0
  where
    plus-zero : (i : ℕ) → i + zero ≡ i
    plus-zero i = omega arith
placeholder-at of_type g place (x ∷ kinds) (l ∷ labels) (suc j) o h =
    subst (λ z. IsAt j (placeholder of_type z) (own_labels kinds labels)) (shifted place j) (placeholder-at of_type g (suc place) kinds labels j o.1 h)
  where
    shifted : (i j : ℕ) → suc i + j ≡ i + suc j
    shifted i j = omega arith
placeholder-at of_const g place (x ∷ kinds) (l ∷ labels) (suc j) o h =
    subst (λ z. IsAt j (placeholder of_const z) (own_labels kinds labels)) (shifted place j) (placeholder-at of_const g (suc place) kinds labels j o.1 h)
  where
    shifted : (i j : ℕ) → suc i + j ≡ i + suc j
    shifted i j = omega arith
placeholder-at k g place (x ∷ kinds) (l ∷ labels) zero o h = absurd (false-true h)

-- ---- the table's own values
module _ (t : FrameTable) (made : IsMadeFrame t) where
  abbrev good : Label → Bool
  good l = is_good t.kinds t.content.ty_vars t.content.const_vars l

  abbrev value : Label → Trees
  value l = resolved t.content.bindings (leaf l)

  abbrev own : List Label
  own = own_labels t.kinds t.labels

  value-one : (l : Label) → IsOne (sort_of l) (value l)
  value-one l = resolved-one good t.content.bindings made.table.values (leaf l) refl

  value-made : (l : Label) → is_made good terms (leaf l) ≡ true → is_made good terms (value l) ≡ true
  value-made l h = made-resolved good t.content.bindings made.table.values terms (leaf l) h

  free-here : (place : ℕ) (l : Label) → is_made good terms (leaf l) ≡ true → is_variable_itself place (sort_of l) (numbered t (value l)) ≡ true → HasValues (sort_of l) → IsFreeAt value (answer_leaves t) place l
  free-here place l m h g =
      let x = value-one l in
      let clean = subst HasNoCanonical x.is (made-clean good (excludes-canonical t) terms (value l) (value-made l m)) in
      let y = itself-leaf (answer_leaves t) place (sort_of l) x.label x.children g (clean-parts x.label x.children none clean).0
      (sym (ap (λ z. is_variable_itself place (sort_of l) (relabeled kind_of_leaf (canonical_label (answer_leaves t)) z)) x.is) ∙ h) in
      record { label = x.label; is = x.is ∙ ap (λ z. tree x.label z none) y.0; place_is = y.1; is_open = y.2 }

  all-free : (low : ℕ) (ks : List CanonicalVarKind) (labels : List Label) → Every (λ l. is_made good terms (leaf l) ≡ true) labels
      → are_variables low (map (value_numbered t) (own_labels ks labels)) ≡ true → AreFree value (answer_leaves t) low (own_labels ks labels)
  all-free low [] labels m h = tt
  all-free low (k ∷ ks) [] m h = tt
  all-free low (k ∷ ks) (l ∷ labels) m h = by (is_variable_itself low (sort_of l) (numbered t (value l))) refl h (all-free (suc low) ks labels m.1) (all-free low ks labels m.1)
    where
      lifetime : is_sort (sort_of l) of_lifetime ≡ true → HasValues (sort_of l) → ⊥
      lifetime e g = at (sort_of l) e g
        where
          at : (k : Sort) → is_sort k of_lifetime ≡ true → HasValues k → ⊥
          at of_type e g = false-true e
          at of_const e g = false-true e
          at of_lifetime e g = g

      by : (b : Bool) → is_variable_itself low (sort_of l) (numbered t (value l)) ≡ b
          → (if b then are_variables (suc low) (map (value_numbered t) (own_labels ks labels)) else (is_sort (sort_of l) of_lifetime && are_variables low (map (value_numbered t) (own_labels ks labels)))) ≡ true
          → (are_variables (suc low) (map (value_numbered t) (own_labels ks labels)) ≡ true → AreFree value (answer_leaves t) (suc low) (own_labels ks labels))
          → (are_variables low (map (value_numbered t) (own_labels ks labels)) ≡ true → AreFree value (answer_leaves t) low (own_labels ks labels))
          → (high : ℕ) × (low ≤ high) × (HasValues (sort_of l) → IsFreeAt value (answer_leaves t) low l × (low < high)) × AreFree value (answer_leaves t) high (own_labels ks labels)
      by true e h next same = (suc low, omega arith, λ g. (free-here low l m.0 e g, omega arith), next h)
      by false e h next same = (low, omega arith, λ g. absurd (lifetime (left (is_sort (sort_of l) of_lifetime) _ h) g), same (right (is_sort (sort_of l) of_lifetime) _ h))

  -- ---- what a free variable resolves to
  open-cases : (k : Sort) (l : Label) → HasValues k → sort_of l ≡ k → is_some (kind_of_leaf l) ≡ true → is_made good terms (leaf l) ≡ true
      → ((n : ℕ) × (l ≡ infer k n)) ⊎ ((j : ℕ) × (l ≡ placeholder k j) × (is_placeholder_of k (kind_at t.kinds j) ≡ true))
  open-cases k (infer j n) g e o m = inl (n, ap (λ z. infer z n) e)
  open-cases k (placeholder j n) g e o m = inr (n, ap (λ z. placeholder z n) e, subst (λ z. is_placeholder_of z (kind_at t.kinds n) ≡ true) e (left (is_placeholder_of j (kind_at t.kinds n)) true m))
  open-cases k (param of_type n) g e o m = absurd (false-true m)
  open-cases k (param of_const n) g e o m = absurd (false-true m)
  open-cases k (param of_lifetime n) g e o m = absurd (subst HasValues (sym e) g)
  open-cases k static g e o m = absurd (subst HasValues (sym e) g)
  open-cases k l g e o m = absurd (false-true o)

  module _ (v : Values) (free : AreFree value (answer_leaves t) 0 own) where
    abbrev base : Assignment
    base k n = node_of k (of_sort k (chosen_value value k n own v.terms))

    base-sorted : (k : Sort) (n : ℕ) → sort_of (base k n).0 ≡ k
    base-sorted k n = (node-is k (chosen_value value k n own v.terms)).sort

    abbrev whole : ChosenTerms
    whole = completed good t.content made.table.values made.table.acyclic v base base-sorted

    label-of : (x y : Label) (c : Trees) → leaf x ≡ tree y c none → x ≡ y
    label-of x y c e = cc

    -- an unknown of the goal is read as its value
    own-reads : (k : Sort) → HasValues k → (d : ℕ) (l : Label) → sort_of l ≡ k → IsAt d l own → is_made good terms (leaf l) ≡ true → (is_placeholder_of k (kind_at t.kinds d) ≡ true → ⊥)
        → reading_of whole l ≡ of_sort k (term_at v.terms d)
    own-reads k g d l e at m n =
        completed-reads good t.content made.table.values made.table.acyclic v base base-sorted (leaf l) (made-proper good terms (leaf l) m)
        ∙ by (open-cases k x.label g sort x.is_open (sym (ap (is_made good terms) x.is) ∙ value-made l m))
      where
        x : IsFreeAt value (answer_leaves t) (free-at value (answer_leaves t) 0 own d l free at (subst HasValues (sym e) g)).place l
        x = (free-at value (answer_leaves t) 0 own d l free at (subst HasValues (sym e) g)).free

        sort : sort_of x.label ≡ k
        sort = let y = value-one l in ap sort_of (label-of x.label y.label y.children (sym x.is ∙ y.is)) ∙ y.sort ∙ e

        sorts : (n : ℕ) (m : Label) → value m ≡ leaf (infer k n) → HasValues (sort_of m)
        sorts n m q = let y = value-one m in subst HasValues (ap sort_of (label-of (infer k n) y.label y.children (sym q ∙ y.is)) ∙ y.sort) g

        variable-read : (k : Sort) (n : ℕ) → HasValues k → read_with (standing (based good t.content made.table.values made.table.acyclic v base base-sorted)) (leaf (infer k n)) ≡ tree_of (base k n)
        variable-read of_type n g = append-none (tree_of (base of_type n))
        variable-read of_const n g = append-none (tree_of (base of_const n))
        variable-read of_lifetime n g = absurd g

        by : ((n : ℕ) × (x.label ≡ infer k n)) ⊎ ((j : ℕ) × (x.label ≡ placeholder k j) × (is_placeholder_of k (kind_at t.kinds j) ≡ true))
            → read_with (standing (based good t.content made.table.values made.table.acyclic v base base-sorted)) (value l) ≡ of_sort k (term_at v.terms d)
        by (inl y) =
            let is : value l ≡ leaf (infer k y.0) = x.is ∙ ap leaf y.1 in
            ap (read_with (standing (based good t.content made.table.values made.table.acyclic v base base-sorted))) is ∙ variable-read k y.0 g
            ∙ (node-is k (chosen_value value k y.0 own v.terms)).whole
            ∙ ap (of_sort k) (chosen-is value (answer_leaves t) k y.0 (λ m q. sorts y.0 m q) 0 own v.terms d l free at is)
        by (inr y) =
            let j = y.0 in
            let place : IsAt j (placeholder k (0 + j)) own = placeholder-at k g 0 t.kinds t.labels j made.own y.2 in
            let rigid : value (placeholder k (0 + j)) ≡ leaf (placeholder k (0 + j)) =
            resolved-rigid t.content.bindings (placeholder k (0 + j)) none none refl ∙ ap (λ c. tree (placeholder k (0 + j)) c (resolved t.content.bindings none)) (resolved-none t.content.bindings)
            ∙ ap (λ o. tree (placeholder k (0 + j)) none o) (resolved-none t.content.bindings) in
            let there : value (placeholder k (0 + j)) ≡ leaf x.label = rigid ∙ ap (λ z. leaf (placeholder k z)) (zero-plus j) ∙ ap leaf (sym y.1) in
            let places : d ≡ j = one-place value (answer_leaves t) 0 own d j l (placeholder k (0 + j)) x.label free at place (subst HasValues (sym e) g) g x.is there in
            absurd (n (subst (λ q. is_placeholder_of k (kind_at t.kinds q) ≡ true) (sym places) y.2))

-- ---- a bare answer leaves all free
module _ (t : FrameTable) (made : IsMadeFrame t) (v : Values) (free : AreFree (value t made) (answer_leaves t) 0 (own t made)) where
  -- the rest of kinds, labels and values from a place on
  record IsRest (place : ℕ) (ks : List CanonicalVarKind) (labels : List Label) (ts : List Trees) : Type 0 where
    pub kinds : (j : ℕ) → kind_at t.kinds (place + j) ≡ kind_at ks j
    pub places : (j : ℕ) (l : Label) → IsAt j l (own_labels ks labels) → IsAt (place + j) l (own t made)
    pub terms : (j : ℕ) → term_at v.terms (place + j) ≡ term_at ts j

  plus-suc : (i j : ℕ) → suc i + j ≡ i + suc j
  plus-suc i j = omega arith

  plus-zero : (i : ℕ) → i + zero ≡ i
  plus-zero i = omega arith

  rest-on : (place : ℕ) (k : CanonicalVarKind) (ks : List CanonicalVarKind) (l : Label) (labels : List Label) (ts : List Trees) → IsRest place (k ∷ ks) (l ∷ labels) ts → IsRest (suc place) ks labels (other_terms ts)
  rest-on place k ks l labels ts r = record {
    kinds = λ j. ap (kind_at t.kinds) (plus-suc place j) ∙ r.kinds (suc j);
    places = λ j m at. subst (λ z. IsAt z m (own t made)) (sym (plus-suc place j)) (r.places (suc j) m at);
    terms = λ j. ap (term_at v.terms) (plus-suc place j) ∙ r.terms (suc j);
  }

  at-here : (place : ℕ) (k : CanonicalVarKind) (ks : List CanonicalVarKind) (l : Label) (labels : List Label) (ts : List Trees) → IsRest place (k ∷ ks) (l ∷ labels) ts → IsAt place l (own t made)
  at-here place k ks l labels ts r = subst (λ z. IsAt z l (own t made)) (plus-zero place) (r.places zero l refl)

  kind-here : (place : ℕ) (k : CanonicalVarKind) (ks : List CanonicalVarKind) (l : Label) (labels : List Label) (ts : List Trees) → IsRest place (k ∷ ks) (l ∷ labels) ts → kind_at t.kinds place ≡ Some k
  kind-here place k ks l labels ts r = ap (kind_at t.kinds) (sym (plus-zero place)) ∙ r.kinds zero

  have-all : (place : ℕ) (ks : List CanonicalVarKind) (labels : List Label) (ts : List Trees) → AreOwn place ks labels → Every (λ l. is_made (good t made) terms (leaf l) ≡ true) labels → IsRest place ks labels ts
      → HaveValues ks ts (map (reading_of (whole t made v free)) labels)
  have-all place [] labels ts o m r = tt
  have-all place (k ∷ ks) [] ts o m r = absurd o
  have-all place (Ty ∷ ks) (l ∷ labels) ts o m r = (
    sym (own-reads t made v free of_type tt place l (ap sort_of o.0.1) (at-here place Ty ks l labels ts r) m.0 (λ h. false-true (sym (ap (is_placeholder_of of_type) (kind-here place Ty ks l labels ts r)) ∙ h))
        ∙ ap (of_sort of_type) (ap (term_at v.terms) (sym (plus-zero place)) ∙ r.terms zero)),
    have-all (suc place) ks labels (other_terms ts) o.1 m.1 (rest-on place Ty ks l labels ts r),
  )
  have-all place (Const ∷ ks) (l ∷ labels) ts o m r = (
    sym (own-reads t made v free of_const tt place l (ap sort_of o.0.1) (at-here place Const ks l labels ts r) m.0 (λ h. false-true (sym (ap (is_placeholder_of of_const) (kind-here place Const ks l labels ts r)) ∙ h))
        ∙ ap (of_sort of_const) (ap (term_at v.terms) (sym (plus-zero place)) ∙ r.terms zero)),
    have-all (suc place) ks labels (other_terms ts) o.1 m.1 (rest-on place Const ks l labels ts r),
  )
  have-all place (Region ∷ ks) (l ∷ labels) ts o m r = have-all (suc place) ks labels (other_terms ts) o.1 m.1 (rest-on place Region ks l labels ts r)
  have-all place (PlaceholderTy ∷ ks) (l ∷ labels) ts o m r = have-all (suc place) ks labels (other_terms ts) o.1 m.1 (rest-on place PlaceholderTy ks l labels ts r)
  have-all place (PlaceholderConst ∷ ks) (l ∷ labels) ts o m r = have-all (suc place) ks labels (other_terms ts) o.1 m.1 (rest-on place PlaceholderConst ks l labels ts r)

  abbrev final : ChosenTerms
  final = record {
    own = v;
    slots = map (reading_of (whole t made v free)) t.labels;
    unknowns = (whole t made v free).unknowns;
    proper = v.proper && fits (map Some t.kinds) v.terms;
  }

  final-allowed : Allows t final
  final-allowed = record {
    made = made;
    sorted = completed-sorted (good t made) t.content made.table.values made.table.acyclic v (base t made v free) (base-sorted t made v free);
    hold = same-hold (whole t made v free) final refl refl t.content.bindings (completed-holds (good t made) t.content made.table.values made.table.acyclic v (base t made v free) (base-sorted t made v free));
    slots = same-map (whole t made v free) final refl refl t.labels;
    own = have-all 0 t.kinds t.labels v.terms made.own made.leaves
        (record { kinds = λ j. ap (kind_at t.kinds) (zero-plus j); places = λ j l at. subst (λ z. IsAt z l (own t made)) (sym (zero-plus j)) at; terms = λ j. ap (term_at v.terms) (zero-plus j) });
    proper = refl;
  }

-- where the answer is a yes without values, the variables of the goal can have all values
pub respond_free : (t : FrameTable) → IsMadeFrame t → has_values (respond t Yes) ≡ false → (v : Values) → (s : ChosenTerms) × Allows t s × (s.own ≡ v)
respond_free t made h v =
    let free = all-free t made 0 t.kinds t.labels made.leaves (not-false (are_variables 0 (map (value_numbered t) (own_labels t.kinds t.labels))) h) in
    (final t made v free, final-allowed t made v free, refl)
