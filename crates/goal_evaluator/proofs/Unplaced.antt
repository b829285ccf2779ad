-- Values of the variables of a goal and of a candidate: the candidate's table allows the given ones.
use Rattle.std.proofs.Common.{◌≡◌, ℕ, zero, suc, ◌+◌, arith, true, false, ◌&&◌, List, [], ◌∷◌, ◌++◌, map, length, refl, sym, ◌∙◌, ap, subst, Some, None}
use Rattle.type_terms.specs.Promised.Label.{Sort, of_type, of_const, of_lifetime, infer}
use Rattle.type_terms.specs.Promised.Trees.{Trees, none, tree, is_sort}
use Rattle.infer_table.specs.Unification.{TableTrees}
use Rattle.infer_table.specs.declared.canonical.CanonicalVarKind.{CanonicalVarKind}
use Rattle.infer_table.specs.declared.canonical.CanonicalVarKind.TheVariants.{Ty, PlaceholderTy, Const, PlaceholderConst, Region}
use Rattle.infer_table.specs.Applying.{table_after}
use Rattle.goal_evaluator.specs.Lists.{Every}
use Rattle.goal_evaluator.specs.Instances.{other_terms}
use Rattle.goal_evaluator.specs.Content.{Values, fits, ChosenTerms, reading_of, UnknownStands}
use Rattle.goal_evaluator.specs.FrameTables.{kind_at, is_placeholder_of, HaveValues, Allows, FitPlaceholders, AllowsApart}
use Rattle.type_terms.proofs.Made.{false-true}
use Rattle.goal_evaluator.specs.FrameTables.{types_in, consts_in, regions_in, labels_from, first_content}
use Rattle.goal_evaluator.specs.TableOperations.{begin}
use Rattle.goal_evaluator.proofs.TableBeginning.{begin-made}
use Rattle.goal_evaluator.proofs.Fresh.{fresh-made}
use Rattle.goal_evaluator.proofs.OperationLaws.{begins-free}
use Rattle.goal_evaluator.proofs.Applying.{for-bindings}
use Rattle.goal_evaluator.specs.FrameTables.{unknown}
use Rattle.goal_evaluator.specs.FrameTables.{labels_for}
use Rattle.goal_evaluator.specs.TableOperations.{fresh}
use Rattle.type_terms.proofs.ListBasics.{cons}
use Rattle.type_terms.proofs.NumberBasics.{plus-one, plus-zero, zero-more as zero-plus}

-- ---- kinds without places
abbrev pub IsNotPlace : CanonicalVarKind → Type 0
IsNotPlace PlaceholderTy = ⊥
IsNotPlace PlaceholderConst = ⊥
IsNotPlace k = Unit {0}

pub both-kinds : (ks js : List CanonicalVarKind) → Every IsNotPlace ks → Every IsNotPlace js → Every IsNotPlace (ks ++ js)
both-kinds [] js h g = g
both-kinds (k ∷ ks) js h g = (h.0, both-kinds ks js h.1 g)

pub place-kind : (ks : List CanonicalVarKind) → Every IsNotPlace ks → (k : Sort) (i : ℕ) → is_placeholder_of k (kind_at ks i) ≡ true → is_sort k of_lifetime ≡ false → ⊥
place-kind ks h of_lifetime i p q = false-true (sym q)
place-kind [] h of_type i p q = false-true p
place-kind [] h of_const i p q = false-true p
place-kind (k ∷ ks) h j (suc i) p q = place-kind ks h.1 j i p q
place-kind (Ty ∷ ks) h of_type zero p q = false-true p
place-kind (Ty ∷ ks) h of_const zero p q = false-true p
place-kind (Const ∷ ks) h of_type zero p q = false-true p
place-kind (Const ∷ ks) h of_const zero p q = false-true p
place-kind (Region ∷ ks) h of_type zero p q = false-true p
place-kind (Region ∷ ks) h of_const zero p q = false-true p
place-kind (PlaceholderTy ∷ ks) h j zero p q = h.0
place-kind (PlaceholderConst ∷ ks) h j zero p q = h.0

no-places-fit : (ks : List CanonicalVarKind) → Every IsNotPlace ks → (ts : List Trees) → FitPlaceholders ks ts
no-places-fit [] h ts = tt
no-places-fit (Ty ∷ ks) h ts = no-places-fit ks h.1 (other_terms ts)
no-places-fit (Const ∷ ks) h ts = no-places-fit ks h.1 (other_terms ts)
no-places-fit (Region ∷ ks) h ts = no-places-fit ks h.1 (other_terms ts)
no-places-fit (PlaceholderTy ∷ ks) h ts = absurd h.0
no-places-fit (PlaceholderConst ∷ ks) h ts = absurd h.0

-- ---- labels

plus-suc : (n m : ℕ) → suc n + m ≡ n + suc m
plus-suc n m = omega arith

labels-same : (a b c i d e f j : ℕ) (ks : List CanonicalVarKind) → a ≡ d → b ≡ e → c ≡ f → i ≡ j → labels_from a b c i ks ≡ labels_from d e f j ks
labels-same a b c i d e f j ks p q r s = cc

-- new unknowns are numbered on
new-labels : (t : TableTrees) (i j : ℕ) (ks : List CanonicalVarKind) → Every IsNotPlace ks → labels_for t i ks ≡ labels_from t.ty_vars t.const_vars t.region_vars j ks
new-labels t i j [] h = refl
new-labels t i j (Ty ∷ ks) h =
    ap (λ z. infer of_type t.ty_vars ∷ z) (new-labels (table_after None t Ty) (i + 1) (suc j) ks h.1 ∙ labels-same _ _ _ _ _ _ _ _ ks (plus-one t.ty_vars) refl refl refl)
new-labels t i j (Const ∷ ks) h =
    ap (λ z. infer of_const t.const_vars ∷ z) (new-labels (table_after None t Const) (i + 1) (suc j) ks h.1 ∙ labels-same _ _ _ _ _ _ _ _ ks refl (plus-one t.const_vars) refl refl)
new-labels t i j (Region ∷ ks) h =
    ap (λ z. infer of_lifetime t.region_vars ∷ z) (new-labels (table_after None t Region) (i + 1) (suc j) ks h.1 ∙ labels-same _ _ _ _ _ _ _ _ ks refl refl (plus-one t.region_vars) refl)
new-labels t i j (PlaceholderTy ∷ ks) h = absurd h.0
new-labels t i j (PlaceholderConst ∷ ks) h = absurd h.0

labels-append : (a b c i : ℕ) (ks js : List CanonicalVarKind) → Every IsNotPlace ks
    → labels_from a b c i (ks ++ js) ≡ labels_from a b c i ks ++ labels_from (a + types_in ks) (b + consts_in ks) (c + regions_in ks) (i + length ks) js
labels-append a b c i [] js h = labels-same a b c i _ _ _ _ js (sym (plus-zero a)) (sym (plus-zero b)) (sym (plus-zero c)) (sym (plus-zero i))
labels-append a b c i (Ty ∷ ks) js h =
    ap (λ z. infer of_type a ∷ z)
    (labels-append (suc a) b c (suc i) ks js h.1 ∙ ap (λ z. labels_from (suc a) b c (suc i) ks ++ z) (labels-same _ _ _ _ _ _ _ _ js (plus-suc a (types_in ks)) refl refl (plus-suc i (length ks))))
labels-append a b c i (Const ∷ ks) js h =
    ap (λ z. infer of_const b ∷ z)
    (labels-append a (suc b) c (suc i) ks js h.1 ∙ ap (λ z. labels_from a (suc b) c (suc i) ks ++ z) (labels-same _ _ _ _ _ _ _ _ js refl (plus-suc b (consts_in ks)) refl (plus-suc i (length ks))))
labels-append a b c i (Region ∷ ks) js h =
    ap (λ z. infer of_lifetime c ∷ z)
    (labels-append a b (suc c) (suc i) ks js h.1 ∙ ap (λ z. labels_from a b (suc c) (suc i) ks ++ z) (labels-same _ _ _ _ _ _ _ _ js refl refl (plus-suc c (regions_in ks)) (plus-suc i (length ks))))
labels-append a b c i (PlaceholderTy ∷ ks) js h = absurd h.0
labels-append a b c i (PlaceholderConst ∷ ks) js h = absurd h.0

-- the labels of a goal and a candidate are those of all their kinds together
labels-are : (ks js : List CanonicalVarKind) → Every IsNotPlace ks → Every IsNotPlace js → labels_from 0 0 0 0 (ks ++ js) ≡ (fresh (begin ks) js).labels
labels-are ks js h g =
    labels-append 0 0 0 0 ks js h
    ∙ ap (λ z. labels_from 0 0 0 0 ks ++ z)
    (labels-same _ _ _ _ _ _ _ _ js (zero-plus (types_in ks)) (zero-plus (consts_in ks)) (zero-plus (regions_in ks)) refl ∙ sym (new-labels (first_content ks) 0 (0 + length ks) js g))

-- without placeholders, a reading looks at the unknowns alone
same-readings : (s r : ChosenTerms) → s.unknowns ≡ r.unknowns → (a b c i : ℕ) (ks : List CanonicalVarKind) → Every IsNotPlace ks → map (reading_of s) (labels_from a b c i ks) ≡ map (reading_of r) (labels_from a b c i ks)
same-readings s r e a b c i [] h = refl
same-readings s r e a b c i (Ty ∷ ks) h = cons _ _ _ _ (ap (λ u. tree (u of_type a).0 (u of_type a).1 none) e) (same-readings s r e (suc a) b c (suc i) ks h.1)
same-readings s r e a b c i (Const ∷ ks) h = cons _ _ _ _ (ap (λ u. tree (u of_const b).0 (u of_const b).1 none) e) (same-readings s r e a (suc b) c (suc i) ks h.1)
same-readings s r e a b c i (Region ∷ ks) h = cons _ _ _ _ refl (same-readings s r e a b (suc c) (suc i) ks h.1)
same-readings s r e a b c i (PlaceholderTy ∷ ks) h = absurd h.0
same-readings s r e a b c i (PlaceholderConst ∷ ks) h = absurd h.0

-- ---- the terms
-- terms for all variables together, of which the goal's stand first
module _ (ks js : List CanonicalVarKind) (h : Every IsNotPlace ks) (g : Every IsNotPlace js) (v : Values) (all : List Trees) where
  abbrev together : Values
  together = record { proper = v.proper; terms = all }

  abbrev pub whole : ChosenTerms
  whole = (begins-free (ks ++ js) together).0

  pub whole-allowed : Allows (begin (ks ++ js)) whole
  whole-allowed = (begins-free (ks ++ js) together).1

  pub whole-own : whole.own ≡ together
  whole-own = (begins-free (ks ++ js) together).2

  pub whole-values : HaveValues (ks ++ js) all whole.slots
  whole-values = subst (λ (z : Values). HaveValues (ks ++ js) z.terms whole.slots) whole-own whole-allowed.own

  -- the values v for the goal's variables, and behind them the rest for the candidate's
  abbrev pub filled_with : ChosenTerms
  filled_with = record { own = v; slots = whole.slots; unknowns = whole.unknowns; proper = v.proper && fits (map Some ks) v.terms }

  pub filled-with-allowed : HaveValues ks v.terms whole.slots → AllowsApart (fresh (begin ks) js) filled_with
  filled-with-allowed own = record {
    allowed = record {
      made = fresh-made (begin ks) (begin-made ks) js;
      sorted = whole-allowed.sorted;
      hold = subst (Every (UnknownStands filled_with)) (sym (for-bindings unknown (first_content ks) 0 js)) tt;
      slots = whole-allowed.slots ∙ same-readings whole filled_with refl 0 0 0 0 (ks ++ js) (both-kinds ks js h g) ∙ ap (map (reading_of filled_with)) (labels-are ks js h g);
      own = own;
      proper = refl;
    };
    apart = λ k i j p q e f. absurd (place-kind ks h k i p f);
    fit = no-places-fit ks h v.terms;
  }
