-- The response of a table of a goal without inference variables has only a certainty.
use Rattle.std.proofs.Common.{◌≡◌, ℕ, zero, suc, ◌<◌, ◌==◌, arith, Bool, true, false, not, ◌&&◌, ◌||◌, List, [], ◌∷◌, ◌++◌, map, length, refl, sym, ◌∙◌, ap, subst, Some, if◌then◌else◌, is_some}
use Rattle.std.proofs.lemmas.Bool.Decides.{nat_tests}
use Rattle.type_terms.specs.Promised.Label.{Label, Sort, of_type, of_const, of_lifetime, infer, placeholder, canonical}
use Rattle.type_terms.specs.Promised.Trees.{Trees, none, tree, leaf, ◌+++◌, sort_of, is_sort}
use Rattle.type_terms.specs.Codes.{same_label}
use Rattle.type_terms.proofs.Matching.{same-label-sound}
use Rattle.infer_table.specs.Canonical.{OpenKinds, kind_of_leaf, is_label_among, with_label, leaves, place_of, canonical_label, relabeled}
use Rattle.infer_table.specs.Solutions.{resolved, is_rigid}
use Rattle.infer_table.specs.declared.canonical.CanonicalVarKind.{CanonicalVarKind}
use Rattle.infer_table.specs.declared.canonical.CanonicalVarKind.TheVariants.{Ty, PlaceholderTy, Const, PlaceholderConst, Region}
use Rattle.infer_table.specs.declared.certainty.Certainty.{Certainty}
use Rattle.infer_table.specs.declared.certainty.Certainty.TheVariants.{Yes, Maybe}
use Rattle.infer_table.specs.declared.certainty.MaybeCause.TheVariants.{Ambiguity, Overflow}
use Rattle.infer_table.proofs.SolutionLaws.{resolved-none, resolved-rigid, resolved-unbound}
use Rattle.infer_table.proofs.OccurFacts.{lifetime-unbound}
use Rattle.infer_table.specs.Values.{Value}
use Rattle.type_terms.specs.Made.{terms, is_made}
use Rattle.goal_evaluator.specs.Lists.{Every}
use Rattle.goal_evaluator.specs.FrameTables.{FrameTable, IsMadeFrame, AreOwn, good_in}
use Rattle.goal_evaluator.specs.TableAnswers.{is_variable_itself, are_variables, has_values, own_labels, joined, answer_leaves, value_numbered, respond}
use Rattle.type_terms.proofs.Made.{false-true}
use Rattle.goal_evaluator.proofs.Assignments.{all-valued}
use Rattle.goal_evaluator.proofs.Labels.{every-end}
use Rattle.goal_evaluator.proofs.Answering.{overflow_is_bare}
use Rattle.goal_evaluator.proofs.FirstAnswers.{append-list, length-more, place-is, value_by}
use Rattle.solver_completeness.specs.ClosedTables.{AreClosed}
use Rattle.type_terms.proofs.TermBasics.{is_sort-self}
use Rattle.type_terms.proofs.ListBasics.{cons}
use Rattle.type_terms.proofs.NumberBasics.{last-less, not-less, number-self}

-- ---- leaves are added at the end
append-all : (xs ys zs : List Label) → (xs ++ ys) ++ zs ≡ xs ++ (ys ++ zs)
append-all [] ys zs = refl
append-all (x ∷ xs) ys zs = ap (λ z. x ∷ z) (append-all xs ys zs)

append-nil : (xs : List Label) → xs ++ [] ≡ xs
append-nil [] = refl
append-nil (x ∷ xs) = ap (λ z. x ∷ z) (append-nil xs)

abbrev Extends : List Label → List Label → Type 0
Extends seen all = (rest : List Label) × (all ≡ seen ++ rest)

extends-more : (a b c : List Label) → Extends a b → Extends b c → Extends a c
extends-more a b c x y = (x.0 ++ y.0, y.1 ∙ ap (λ z. z ++ y.0) x.1 ∙ append-all a x.0 y.0)

extends-label : (b : Bool) (l : Label) (seen : List Label) → Extends seen (if b then with_label l seen else seen)
extends-label false l seen = ([], sym (append-nil seen))
extends-label true l seen = by (is_label_among l seen)
  where
    by : (b : Bool) → Extends seen (if b then seen else seen ++ l ∷ [])
    by true = ([], sym (append-nil seen))
    by false = (l ∷ [], refl)

extends-leaves : (kind : OpenKinds) (seen : List Label) (t : Trees) → Extends seen (leaves kind seen t)
extends-leaves kind seen none = ([], sym (append-nil seen))
extends-leaves kind seen (tree l c o) =
    let a = if is_some (kind l) then with_label l seen else seen in
    extends-more seen a _ (extends-label (is_some (kind l)) l seen) (extends-more a (leaves kind a c) _ (extends-leaves kind a c) (extends-leaves kind (leaves kind a c) o))

-- ---- places
-- what was seen stands before the end
stands-before : (l : Label) (seen rest : List Label) → is_label_among l seen ≡ true → place_of l (seen ++ rest) < length seen
stands-before l [] rest h = absurd (false-true h)
stands-before l (m ∷ ms) rest h = by (same_label m l) refl h (stands-before l ms rest)
  where
    first : (n : ℕ) → zero < suc n
    first n = omega arith

    next : (a b : ℕ) → a < b → suc a < suc b
    next a b h = omega (arith, h)

    by : (b : Bool) → same_label m l ≡ b → (b || is_label_among l ms) ≡ true → (is_label_among l ms ≡ true → place_of l (ms ++ rest) < length ms) → (if b then zero else suc (place_of l (ms ++ rest))) < suc (length ms)
    by true e q f = first (length ms)
    by false e q f = next _ _ (f q)

other-number : (i j : ℕ) → j < i → (i == j) ≡ false
other-number i j h = grind (arith, nat_tests, h)

-- ---- labels that come before a place
abbrev IsBefore : ℕ → Label → Type 0
IsBefore place (placeholder of_type j) = j < place
IsBefore place (placeholder of_const j) = j < place
IsBefore place l = Unit {0}

before-next : (place : ℕ) (l : Label) → IsBefore place l → IsBefore (suc place) l
before-next place (placeholder of_type j) h = omega (arith, h)
before-next place (placeholder of_const j) h = omega (arith, h)
before-next place (placeholder of_lifetime j) h = tt
before-next place l h = tt

all-before : (place : ℕ) (ls : List Label) → Every (IsBefore place) ls → Every (IsBefore (suc place)) ls
all-before place [] h = tt
all-before place (l ∷ ls) h = (before-next place l h.0, all-before place ls h.1)

not-among : (P : Label → Type 0) (l : Label) (ms : List Label) → Every P ms → (P l → ⊥) → is_label_among l ms ≡ false
not-among P l [] h n = refl
not-among P l (m ∷ ms) h n = by (same_label m l) refl (not-among P l ms h.1 n)
  where
    by : (b : Bool) → same_label m l ≡ b → is_label_among l ms ≡ false → (b || is_label_among l ms) ≡ false
    by true e f = absurd (n (subst P (same-label-sound m l e) h.0))
    by false e f = f

lifetime-before : (place : ℕ) (l : Label) → sort_of l ≡ of_lifetime → IsBefore place l
lifetime-before place (placeholder of_type j) e = absurd (no-sort e)
  where
    no-sort : of_type ≡ of_lifetime → ⊥
    no-sort e = cc
lifetime-before place (placeholder of_const j) e = absurd (no-sort e)
  where
    no-sort : of_const ≡ of_lifetime → ⊥
    no-sort e = cc
lifetime-before place (placeholder of_lifetime j) e = tt
lifetime-before place l e = tt

-- ---- the values of own labels
module _ (t : FrameTable) (all : List Label) where
  abbrev AllGood : List Label → Type 0
  AllGood ls = Every (λ l. is_made (good_in t) terms (leaf l) ≡ true) ls

  -- an open leaf that was not seen before is the next variable
  new-leaf : (l : Label) (ls seen : List Label) → is_some (kind_of_leaf l) ≡ true → is_label_among l seen ≡ false → Extends (seen ++ l ∷ []) all
      → are_variables (length (seen ++ l ∷ [])) (map (value_by all) ls) ≡ true → are_variables (length seen) (value_by all l ∷ map (value_by all) ls) ≡ true
  new-leaf l ls seen o n x h =
      ap (λ z. if is_variable_itself (length seen) (sort_of l) (leaf z) then are_variables (suc (length seen)) (map (value_by all) ls) else (is_sort (sort_of l) of_lifetime && are_variables (length seen) (map (value_by all) ls)))
      (ap (λ b. if b then canonical_label all l else l) o ∙ ap (canonical (sort_of l)) (ap (place_of l) (x.1 ∙ append-list seen l x.0) ∙ place-is seen l x.0 n))
      ∙ ap (λ b. if b then are_variables (suc (length seen)) (map (value_by all) ls) else (is_sort (sort_of l) of_lifetime && are_variables (length seen) (map (value_by all) ls)))
      (ap (λ b. b && (length seen == length seen)) (is_sort-self (sort_of l)) ∙ number-self (length seen))
      ∙ ap (λ n. are_variables n (map (value_by all) ls)) (sym (length-more seen l)) ∙ h

  -- a lifetime that is not the next variable is passed over
  passed : (l : Label) (ls seen : List Label) → sort_of l ≡ of_lifetime → is_variable_itself (length seen) (sort_of l) (value_by all l).trees ≡ false
      → are_variables (length seen) (map (value_by all) ls) ≡ true → are_variables (length seen) (value_by all l ∷ map (value_by all) ls) ≡ true
  passed l ls seen e n h =
      ap (λ b. if b then are_variables (suc (length seen)) (map (value_by all) ls) else (is_sort (sort_of l) of_lifetime && are_variables (length seen) (map (value_by all) ls))) n
      ∙ ap (λ k. is_sort k of_lifetime && are_variables (length seen) (map (value_by all) ls)) e ∙ h

  itself-not : (i : ℕ) (k : Sort) (l : Label) → is_made (good_in t) terms (leaf l) ≡ true → is_variable_itself i k (leaf l) ≡ false
  itself-not i k (canonical j m) h = absurd (false-true h)
  itself-not i k l h = refl

  -- a lifetime
  lifetime : (place : ℕ) (l : Label) (ls seen : List Label) (extra : Trees) → sort_of l ≡ of_lifetime → is_made (good_in t) terms (leaf l) ≡ true → Every (IsBefore place) seen
      → all ≡ leaves kind_of_leaf seen (tree l none extra)
      → ((now : List Label) → Every (IsBefore place) now → all ≡ leaves kind_of_leaf now extra → are_variables (length now) (map (value_by all) ls) ≡ true)
      → are_variables (length seen) (value_by all l ∷ map (value_by all) ls) ≡ true
  lifetime place l ls seen extra e g b x go = by (is_some (kind_of_leaf l)) refl
    where
      at : (b : Bool) → is_some (kind_of_leaf l) ≡ b → all ≡ leaves kind_of_leaf (if b then with_label l seen else seen) extra
      at b q = x ∙ ap (λ b. leaves kind_of_leaf (if b then with_label l seen else seen) extra) q

      seen-or-new : (c : Bool) → is_label_among l seen ≡ c → is_some (kind_of_leaf l) ≡ true → all ≡ leaves kind_of_leaf (if c then seen else seen ++ l ∷ []) extra → are_variables (length seen) (value_by all l ∷ map (value_by all) ls) ≡ true
      seen-or-new true q o y =
          let z = extends-leaves kind_of_leaf seen extra in
          passed l ls seen e
          (ap (λ b. is_variable_itself (length seen) (sort_of l) (leaf (if b then canonical_label all l else l))) o
          ∙ ap (λ b. is_sort (sort_of l) (sort_of l) && b)
          (other-number (length seen) (place_of l all) (subst (λ w. place_of l w < length seen) (sym (y ∙ z.1)) (stands-before l seen z.0 q)))
          ∙ ap (λ b. b && false) (is_sort-self (sort_of l)))
          (go seen b y)
      seen-or-new false q o y =
          new-leaf l ls seen o q (let z = extends-leaves kind_of_leaf (seen ++ l ∷ []) extra in (z.0, y ∙ z.1))
          (go (seen ++ l ∷ []) (every-end (IsBefore place) seen l b (lifetime-before place l e)) y)

      by : (b : Bool) → is_some (kind_of_leaf l) ≡ b → are_variables (length seen) (value_by all l ∷ map (value_by all) ls) ≡ true
      by true q = seen-or-new (is_label_among l seen) refl q (at true q)
      by false q =
          passed l ls seen e (ap (λ b. is_variable_itself (length seen) (sort_of l) (leaf (if b then canonical_label all l else l))) q ∙ itself-not (length seen) (sort_of l) l g)
          (go seen b (at false q))

  -- a placeholder of its place
  place : (k : Sort) (at : ℕ) (ls seen : List Label) (extra : Trees) → is_some (kind_of_leaf (placeholder k at)) ≡ true → (IsBefore at (placeholder k at) → ⊥) → IsBefore (suc at) (placeholder k at) → Every (IsBefore at) seen
      → all ≡ leaves kind_of_leaf seen (tree (placeholder k at) none extra)
      → ((now : List Label) → Every (IsBefore (suc at)) now → all ≡ leaves kind_of_leaf now extra → are_variables (length now) (map (value_by all) ls) ≡ true)
      → are_variables (length seen) (value_by all (placeholder k at) ∷ map (value_by all) ls) ≡ true
  place k at ls seen extra o n m b x go =
      let l = placeholder k at in
      let new = not-among (IsBefore at) l seen b n in
      let y : all ≡ leaves kind_of_leaf (seen ++ l ∷ []) extra =
      x ∙ ap (λ b. leaves kind_of_leaf (if b then with_label l seen else seen) extra) o ∙ ap (λ b. leaves kind_of_leaf (if b then seen else seen ++ l ∷ []) extra) new in
      let z = extends-leaves kind_of_leaf (seen ++ l ∷ []) extra in
      new-leaf l ls seen o new (z.0, y ∙ z.1) (go (seen ++ l ∷ []) (every-end (IsBefore (suc at)) seen l (all-before at seen b) m) y)

  silent-from : (at : ℕ) (ks : List CanonicalVarKind) (ls : List Label) → AreClosed (map Some ks) → AreOwn at ks ls → AllGood ls → (extra : Trees) (seen : List Label) → Every (IsBefore at) seen
      → all ≡ leaves kind_of_leaf seen (joined (map (λ l. leaf l) (own_labels ks ls)) +++ extra) → are_variables (length seen) (map (value_by all) (own_labels ks ls)) ≡ true
  silent-from at [] ls c o g extra seen b e = refl
  silent-from at (k ∷ ks) [] c o g extra seen b e = refl
  silent-from at (Ty ∷ ks) (l ∷ ls) c o g extra seen b e = absurd c.0
  silent-from at (Const ∷ ks) (l ∷ ls) c o g extra seen b e = absurd c.0
  silent-from at (Region ∷ ks) (l ∷ ls) c o g extra seen b e =
      lifetime (suc at) l (own_labels ks ls) seen (joined (map (λ l. leaf l) (own_labels ks ls)) +++ extra) o.0 g.0 (all-before at seen b) e
      (λ now h q. silent-from (suc at) ks ls c.1 o.1 g.1 extra now h q)
  silent-from at (PlaceholderTy ∷ ks) (l ∷ ls) c o g extra seen b e =
      subst (λ m. all ≡ leaves kind_of_leaf seen (joined (map (λ l. leaf l) (m ∷ own_labels ks ls)) +++ extra) → are_variables (length seen) (map (value_by all) (m ∷ own_labels ks ls)) ≡ true) (sym o.0)
      (λ e. place of_type at (own_labels ks ls) seen (joined (map (λ l. leaf l) (own_labels ks ls)) +++ extra) refl (not-less at) (last-less at) b e
      (λ now h q. silent-from (suc at) ks ls c.1 o.1 g.1 extra now h q)) e
  silent-from at (PlaceholderConst ∷ ks) (l ∷ ls) c o g extra seen b e =
      subst (λ m. all ≡ leaves kind_of_leaf seen (joined (map (λ l. leaf l) (m ∷ own_labels ks ls)) +++ extra) → are_variables (length seen) (map (value_by all) (m ∷ own_labels ks ls)) ≡ true) (sym o.0)
      (λ e. place of_const at (own_labels ks ls) seen (joined (map (λ l. leaf l) (own_labels ks ls)) +++ extra) refl (not-less at) (last-less at) b e
      (λ now h q. silent-from (suc at) ks ls c.1 o.1 g.1 extra now h q)) e

-- ---- no value stands for them
module _ (t : FrameTable) (m : IsMadeFrame t) where
  rigid-leaf : (l : Label) → is_rigid l ≡ true → resolved t.content.bindings (leaf l) ≡ leaf l
  rigid-leaf l e =
      resolved-rigid t.content.bindings l none none e ∙ ap (λ c. tree l c (resolved t.content.bindings none)) (resolved-none t.content.bindings)
      ∙ ap (λ o. tree l none o) (resolved-none t.content.bindings)

  lifetime-leaf : (l : Label) → sort_of l ≡ of_lifetime → resolved t.content.bindings (leaf l) ≡ leaf l
  lifetime-leaf (infer of_lifetime v) e = resolved-unbound t.content.bindings of_lifetime v (lifetime-unbound t.content.bindings v (all-valued (good_in t) t.content.bindings m.table.values))
  lifetime-leaf (infer of_type v) e = absurd (no-sort e)
    where
      no-sort : of_type ≡ of_lifetime → ⊥
      no-sort e = cc
  lifetime-leaf (infer of_const v) e = absurd (no-sort e)
    where
      no-sort : of_const ≡ of_lifetime → ⊥
      no-sort e = cc
  lifetime-leaf l e = rigid-leaf l refl

  own-leaf : (at : ℕ) (k : CanonicalVarKind) (ks : List CanonicalVarKind) (l : Label) (ls : List Label) → AreClosed (map Some (k ∷ ks)) → AreOwn at (k ∷ ks) (l ∷ ls) → resolved t.content.bindings (leaf l) ≡ leaf l
  own-leaf at Ty ks l ls c o = absurd c.0
  own-leaf at Const ks l ls c o = absurd c.0
  own-leaf at Region ks l ls c o = lifetime-leaf l o.0
  own-leaf at PlaceholderTy ks l ls c o = subst (λ m. resolved t.content.bindings (leaf m) ≡ leaf m) (sym o.0) (rigid-leaf (placeholder of_type at) refl)
  own-leaf at PlaceholderConst ks l ls c o = subst (λ m. resolved t.content.bindings (leaf m) ≡ leaf m) (sym o.0) (rigid-leaf (placeholder of_const at) refl)

  own-leaves : (at : ℕ) (ks : List CanonicalVarKind) (ls : List Label) → AreClosed (map Some ks) → AreOwn at ks ls
      → map (λ l. resolved t.content.bindings (leaf l)) (own_labels ks ls) ≡ map (λ l. leaf l) (own_labels ks ls)
  own-leaves at [] ls c o = refl
  own-leaves at (k ∷ ks) [] c o = refl
  own-leaves at (k ∷ ks) (l ∷ ls) c o = cons _ _ _ _ (own-leaf at k ks l ls c o) (own-leaves (suc at) ks ls c.1 o.1)

  abbrev value_of : Sort → Trees → Value
  value_of k x = record { sort = k; trees = x }

  own-numbered : (at : ℕ) (ks : List CanonicalVarKind) (ls : List Label) → AreClosed (map Some ks) → AreOwn at ks ls
      → map (value_numbered t) (own_labels ks ls) ≡ map (value_by (answer_leaves t)) (own_labels ks ls)
  own-numbered at [] ls c o = refl
  own-numbered at (k ∷ ks) [] c o = refl
  own-numbered at (k ∷ ks) (l ∷ ls) c o =
      cons _ _ _ _ (ap (λ (x : Trees). value_of (sort_of l) (relabeled kind_of_leaf (canonical_label (answer_leaves t)) x)) (own-leaf at k ks l ls c o)) (own-numbered (suc at) ks ls c.1 o.1)

  known : AreClosed (map Some t.kinds) → are_variables 0 (map (value_numbered t) (own_labels t.kinds t.labels)) ≡ true
  known c =
      ap (are_variables 0) (own-numbered 0 t.kinds t.labels c m.own)
      ∙ silent-from t (answer_leaves t) 0 t.kinds t.labels c m.own m.leaves (resolved t.content.bindings t.content.constraints) [] tt
      (ap (λ z. leaves kind_of_leaf [] (joined z +++ resolved t.content.bindings t.content.constraints)) (own-leaves 0 t.kinds t.labels c m.own))

  pub silent : (c : Certainty) → AreClosed (map Some t.kinds) → has_values (respond t c) ≡ false
  silent (Maybe Overflow) c = overflow_is_bare t
  silent (Maybe Ambiguity) c = ap not (known c)
  silent Yes c = ap not (known c)
