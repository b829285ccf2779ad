-- Values of a rule's variables, for all values of the goal's placeholders.
use Rattle.std.proofs.Common.{◌≡◌, ℕ, suc, ◌+◌, true, List, [], ◌∷◌, ◌++◌, map, length, refl, sym, ◌∙◌, ap, Some, None}
use Rattle.type_terms.specs.Promised.Label.{Label, Sort, of_type, of_const, of_lifetime, infer}
use Rattle.type_terms.specs.Promised.Trees.{Trees, leaf, sort_of}
use Rattle.type_terms.specs.Made.{terms, is_made}
use Rattle.infer_table.specs.Solutions.{resolved, HasValues}
use Rattle.infer_table.specs.Unification.{TableTrees}
use Rattle.infer_table.specs.declared.canonical.CanonicalVarKind.{CanonicalVarKind}
use Rattle.infer_table.specs.declared.canonical.CanonicalVarKind.TheVariants.{Ty, PlaceholderTy, Const, PlaceholderConst, Region}
use Rattle.infer_table.specs.Applying.{table_after}
use Rattle.goal_evaluator.specs.Lists.{Every}
use Rattle.goal_evaluator.specs.Instances.{read_with, of_sort, term_at}
use Rattle.goal_evaluator.specs.Content.{Values, ChosenTerms, standing, reading_of}
use Rattle.goal_evaluator.specs.FrameTables.{FrameTable, IsMadeFrame, Allows, types_in, consts_in, labels_from, first_content, unknown, labels_for}
use Rattle.goal_evaluator.proofs.Applying.{for-bindings}
use Rattle.goal_evaluator.proofs.TableBeginning.{begin-made}
use Rattle.goal_evaluator.proofs.Fresh.{fresh-made}
use Rattle.goal_evaluator.specs.TableOperations.{begin, fresh}
use Rattle.goal_evaluator.proofs.OperationLaws.{begins-free}
use Rattle.goal_frames.specs.Rules.{IsUnknown}
use Rattle.goal_evaluator.specs.Variables.{is_variable_over}
use Rattle.goal_evaluator.proofs.Readings.{AgreeIn}
use Rattle.goal_frames.proofs.Behind.{dropped}
use Rattle.goal_evaluator.proofs.Slots.{kind-of, own_slot, slot-is}
use Rattle.solver_completeness.specs.ClosedTables.{AreClosed}
use Rattle.solver_completeness.proofs.FreeTables.{low, whole, whole-allowed, whole-reads}
use Rattle.type_terms.proofs.ListBasics.{cons}
use Rattle.type_terms.proofs.NumberBasics.{plus-one}
use Rattle.goal_frames.proofs.Filled.{unknown-agrees}
use Rattle.goal_frames.proofs.TypeBasics.{unknown-kind}

-- ---- labels

from-types : (a b c i n : ℕ) (ks : List CanonicalVarKind) → a ≡ n → labels_from a b c i ks ≡ labels_from n b c i ks
from-types a b c i n ks e = ap (λ z. labels_from z b c i ks) e

from-consts : (a b c i n : ℕ) (ks : List CanonicalVarKind) → b ≡ n → labels_from a b c i ks ≡ labels_from a n c i ks
from-consts a b c i n ks e = ap (λ z. labels_from a z c i ks) e

new-labels : (t : TableTrees) (i j : ℕ) (ks : List CanonicalVarKind) → Every IsUnknown ks → labels_for t i ks ≡ labels_from t.ty_vars t.const_vars 0 j ks
new-labels t i j [] h = refl
new-labels t i j (Ty ∷ ks) h = ap (λ z. infer of_type t.ty_vars ∷ z) (new-labels (table_after None t Ty) (i + 1) (suc j) ks h.1 ∙ from-types _ t.const_vars 0 (suc j) (suc t.ty_vars) ks (plus-one t.ty_vars))
new-labels t i j (Const ∷ ks) h = ap (λ z. infer of_const t.const_vars ∷ z) (new-labels (table_after None t Const) (i + 1) (suc j) ks h.1 ∙ from-consts t.ty_vars _ 0 (suc j) (suc t.const_vars) ks (plus-one t.const_vars))
new-labels t i j (PlaceholderTy ∷ ks) h = absurd h.0
new-labels t i j (PlaceholderConst ∷ ks) h = absurd h.0
new-labels t i j (Region ∷ ks) h = absurd h.0

pub no-types : (ks : List CanonicalVarKind) → AreClosed (map Some ks) → types_in ks ≡ 0
no-types [] c = refl
no-types (Ty ∷ ks) c = absurd c.0
no-types (Const ∷ ks) c = absurd c.0
no-types (PlaceholderTy ∷ ks) c = no-types ks c.1
no-types (PlaceholderConst ∷ ks) c = no-types ks c.1
no-types (Region ∷ ks) c = no-types ks c.1

pub no-consts : (ks : List CanonicalVarKind) → AreClosed (map Some ks) → consts_in ks ≡ 0
no-consts [] c = refl
no-consts (Ty ∷ ks) c = absurd c.0
no-consts (Const ∷ ks) c = absurd c.0
no-consts (PlaceholderTy ∷ ks) c = no-consts ks c.1
no-consts (PlaceholderConst ∷ ks) c = no-consts ks c.1
no-consts (Region ∷ ks) c = no-consts ks c.1

-- behind a goal without unknowns, a rule's labels are those with which a frame of its own would begin
behind-labels : (ks js : List CanonicalVarKind) → AreClosed (map Some ks) → Every IsUnknown js → labels_for (first_content ks) 0 js ≡ labels_from 0 0 0 0 js
behind-labels ks js c h =
    new-labels (first_content ks) 0 0 js h ∙ from-types (types_in ks) (consts_in ks) 0 0 0 js (no-types ks c) ∙ from-consts 0 (consts_in ks) 0 0 0 js (no-consts ks c)

pub drop-first : (f : Label → Trees) (a b c i : ℕ) (ks : List CanonicalVarKind) (more : List Label) → dropped (length ks) (map f (labels_from a b c i ks ++ more)) ≡ map f more
drop-first f a b c i [] more = refl
drop-first f a b c i (Ty ∷ ks) more = drop-first f (suc a) b c (suc i) ks more
drop-first f a b c i (Const ∷ ks) more = drop-first f a (suc b) c (suc i) ks more
drop-first f a b c i (PlaceholderTy ∷ ks) more = drop-first f a b c (suc i) ks more
drop-first f a b c i (PlaceholderConst ∷ ks) more = drop-first f a b c (suc i) ks more
drop-first f a b c i (Region ∷ ks) more = drop-first f a b (suc c) (suc i) ks more

same-on : (f g : Label → Trees) → ((k : Sort) (v : ℕ) → HasValues k → f (infer k v) ≡ g (infer k v)) → (a b c i : ℕ) (ks : List CanonicalVarKind) → Every IsUnknown ks → map f (labels_from a b c i ks) ≡ map g (labels_from a b c i ks)
same-on f g e a b c i [] h = refl
same-on f g e a b c i (Ty ∷ ks) h = cons _ _ _ _ (e of_type a tt) (same-on f g e (suc a) b c (suc i) ks h.1)
same-on f g e a b c i (Const ∷ ks) h = cons _ _ _ _ (e of_const b tt) (same-on f g e a (suc b) c (suc i) ks h.1)
same-on f g e a b c i (PlaceholderTy ∷ ks) h = absurd h.0
same-on f g e a b c i (PlaceholderConst ∷ ks) h = absurd h.0
same-on f g e a b c i (Region ∷ ks) h = absurd h.0

-- ---- the terms
module _ (ks js : List CanonicalVarKind) (c : AreClosed (map Some ks)) (g : Every IsUnknown js) (v : Values) (xs : List Trees) where
  abbrev pub table : FrameTable
  table = fresh (begin ks) js

  abbrev pub own-values : Values
  own-values = record { proper = true; terms = xs }

  pub table-made : IsMadeFrame table
  table-made = fresh-made (begin ks) (begin-made ks) js

  -- the terms of a frame of the rule's own
  abbrev pub alone : ChosenTerms
  alone = (begins-free js own-values).0

  pub alone-allowed : Allows (begin js) alone
  alone-allowed = (begins-free js own-values).1

  alone-own : alone.own ≡ own-values
  alone-own = (begins-free js own-values).2

  pub alone-sorted : (k : Sort) (n : ℕ) → sort_of (alone.unknowns k n).0 ≡ k
  alone-sorted k n = alone-allowed.sorted k n

  abbrev pub filled : ChosenTerms
  filled = whole table table-made c v alone.unknowns alone-sorted

  pub filled-allowed : Allows table filled
  filled-allowed = whole-allowed table table-made c v alone.unknowns alone-sorted

  leaf-reads : (k : Sort) (n : ℕ) → HasValues k → reading_of filled (infer k n) ≡ reading_of alone (infer k n)
  leaf-reads k n h =
      whole-reads table table-made c v alone.unknowns alone-sorted (leaf (infer k n)) (refl, tt)
      ∙ ap (λ bs. read_with (standing (low table table-made c v alone.unknowns alone-sorted)) (resolved bs (leaf (infer k n)))) (for-bindings unknown (first_content ks) 0 js)
      ∙ by k h
    where
      by : (k : Sort) → HasValues k → reading_of (low table table-made c v alone.unknowns alone-sorted) (infer k n) ≡ reading_of alone (infer k n)
      by of_type h = refl
      by of_const h = refl
      by of_lifetime h = absurd h

  slots-are : dropped (length ks) filled.slots ≡ alone.slots
  slots-are =
      ap (dropped (length ks)) filled-allowed.slots
      ∙ drop-first (reading_of filled) 0 0 0 0 ks (labels_for (first_content ks) 0 js)
      ∙ ap (map (reading_of filled)) (behind-labels ks js c g)
      ∙ same-on (reading_of filled) (reading_of alone) (λ k n h. leaf-reads k n h) 0 0 0 0 js g
      ∙ sym alone-allowed.slots

  -- the rule's terms are read with these
  pub filled-agrees : (x : Trees) → is_made (is_variable_over js) terms x ≡ true → AgreeIn (dropped (length ks) filled.slots) xs x
  filled-agrees x m k i w st =
      let y = kind-of js x m k i st in
      ap (λ z. of_sort k (term_at z i)) slots-are
      ∙ ap (of_sort k) (slot-is (begin js) alone alone-allowed i y.kind y.is ∙ ap (λ (z : Values). own_slot y.kind (term_at z.terms i)) alone-own)
      ∙ unknown-agrees y.kind k (term_at xs i) (unknown-kind js g i y.kind y.is) y.sort
