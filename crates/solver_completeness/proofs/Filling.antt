-- Values of an impl's parameters, for all values of the goal's placeholders.
use Rattle.std.proofs.Common.{◌≡◌, ℕ, suc, ◌+◌, true, List, [], ◌∷◌, map, length, refl, sym, ◌∙◌, ap, Some}
use Rattle.type_terms.specs.Promised.Label.{Sort, of_type, of_const, of_lifetime, infer}
use Rattle.type_terms.specs.Promised.Trees.{Trees, leaf, sort_of}
use Rattle.infer_table.specs.Solutions.{resolved, HasValues}
use Rattle.infer_table.specs.Unification.{TableTrees}
use Rattle.infer_table.specs.declared.canonical.CanonicalVarKind.{CanonicalVarKind}
use Rattle.infer_table.specs.declared.canonical.CanonicalVarKind.TheVariants.{Ty, PlaceholderTy, Const, PlaceholderConst, Region}
use Rattle.infer_table.specs.Applying.{table_after}
use Rattle.std.specs.Prelude.{None}
use Rattle.goal_evaluator.specs.Lists.{Every}
use Rattle.goal_evaluator.specs.Instances.{read_with, term_at}
use Rattle.goal_evaluator.specs.Content.{Values, ChosenTerms, standing, reading_of}
use Rattle.goal_evaluator.specs.FrameTables.{kind_at, FrameTable, IsMadeFrame, Allows, consts_in, labels_from, first_content, unknown, labels_for}
use Rattle.goal_evaluator.proofs.Applying.{for-bindings}
use Rattle.goal_evaluator.proofs.TableBeginning.{begin-made}
use Rattle.goal_evaluator.proofs.Fresh.{fresh-made}
use Rattle.goal_evaluator.specs.TableOperations.{begin, fresh}
use Rattle.goal_evaluator.proofs.OperationLaws.{begins-free}
use Rattle.goal_evaluator.proofs.Slots.{own_slot, slot-is}
use Rattle.goal_frames.proofs.Behind.{dropped, term-dropped}
use Rattle.solver_completeness.specs.ClosedTables.{AreClosed}
use Rattle.solver_completeness.proofs.FreeTables.{low, whole, whole-allowed, whole-reads}
use Rattle.solver_completeness.proofs.RuleFilling.{no-types, no-consts, drop-first}
use Rattle.type_terms.proofs.ListBasics.{cons}
use Rattle.type_terms.proofs.NumberBasics.{plus-one}

-- an unknown or a lifetime
abbrev pub IsOwnKind : CanonicalVarKind → Type 0
IsOwnKind Ty = Unit {0}
IsOwnKind Const = Unit {0}
IsOwnKind PlaceholderTy = ⊥
IsOwnKind PlaceholderConst = ⊥
IsOwnKind Region = Unit {0}

-- the labels of new variables are read as those of a frame that begins with them
read-labels : (s u : ChosenTerms) → ((k : Sort) (n : ℕ) → HasValues k → reading_of s (infer k n) ≡ reading_of u (infer k n)) → (t : TableTrees) (i j c : ℕ) (ks : List CanonicalVarKind) → Every IsOwnKind ks
    → map (reading_of s) (labels_for t i ks) ≡ map (reading_of u) (labels_from t.ty_vars t.const_vars c j ks)
read-labels s u e t i j c [] h = refl
read-labels s u e t i j c (Ty ∷ ks) h =
    cons _ _ _ _ (e of_type t.ty_vars tt)
    (read-labels s u e (table_after None t Ty) (i + 1) (suc j) c ks h.1 ∙ ap (λ n. map (reading_of u) (labels_from n t.const_vars c (suc j) ks)) (plus-one t.ty_vars))
read-labels s u e t i j c (Const ∷ ks) h =
    cons _ _ _ _ (e of_const t.const_vars tt)
    (read-labels s u e (table_after None t Const) (i + 1) (suc j) c ks h.1 ∙ ap (λ n. map (reading_of u) (labels_from t.ty_vars n c (suc j) ks)) (plus-one t.const_vars))
read-labels s u e t i j c (PlaceholderTy ∷ ks) h = absurd h.0
read-labels s u e t i j c (PlaceholderConst ∷ ks) h = absurd h.0
read-labels s u e t i j c (Region ∷ ks) h = cons _ _ _ _ refl (read-labels s u e (table_after None t Region) (i + 1) (suc j) (suc c) ks h.1)

module _ (ks js : List CanonicalVarKind) (c : AreClosed (map Some ks)) (g : Every IsOwnKind js) (v : Values) (xs : List Trees) where
  abbrev pub table : FrameTable
  table = fresh (begin ks) js

  abbrev pub own-values : Values
  own-values = record { proper = true; terms = xs }

  pub table-made : IsMadeFrame table
  table-made = fresh-made (begin ks) (begin-made ks) js

  -- the terms of a frame of the impl's own
  abbrev pub alone : ChosenTerms
  alone = (begins-free js own-values).0

  pub alone-allowed : Allows (begin js) alone
  alone-allowed = (begins-free js own-values).1

  pub alone-own : alone.own ≡ own-values
  alone-own = (begins-free js own-values).2

  pub alone-sorted : (k : Sort) (n : ℕ) → sort_of (alone.unknowns k n).0 ≡ k
  alone-sorted k n = alone-allowed.sorted k n

  abbrev pub filled : ChosenTerms
  filled = whole table table-made c v alone.unknowns alone-sorted

  pub filled-allowed : Allows table filled
  filled-allowed = whole-allowed table table-made c v alone.unknowns alone-sorted

  leaf-reads : (k : Sort) (n : ℕ) → HasValues k → reading_of filled (infer k n) ≡ reading_of alone (infer k n)
  leaf-reads k n h =
      whole-reads table table-made c v alone.unknowns alone-sorted (leaf (infer k n)) (refl, tt)
      ∙ ap (λ bs. read_with (standing (low table table-made c v alone.unknowns alone-sorted)) (resolved bs (leaf (infer k n)))) (for-bindings unknown (first_content ks) 0 js)
      ∙ by k h
    where
      by : (k : Sort) → HasValues k → reading_of (low table table-made c v alone.unknowns alone-sorted) (infer k n) ≡ reading_of alone (infer k n)
      by of_type h = refl
      by of_const h = refl
      by of_lifetime h = absurd h

  slots-are : dropped (length ks) filled.slots ≡ alone.slots
  slots-are =
      ap (dropped (length ks)) filled-allowed.slots
      ∙ drop-first (reading_of filled) 0 0 0 0 ks (labels_for (first_content ks) 0 js)
      ∙ read-labels filled alone (λ k n h. leaf-reads k n h) (first_content ks) 0 0 0 js g
      ∙ ap (λ n. map (reading_of alone) (labels_from n (consts_in ks) 0 0 js)) (no-types ks c)
      ∙ ap (λ n. map (reading_of alone) (labels_from 0 n 0 0 js)) (no-consts ks c)
      ∙ sym alone-allowed.slots

  -- a variable behind the goal's has the value that is given
  pub slot-behind : (i : ℕ) (k : CanonicalVarKind) → kind_at js i ≡ Some k → term_at filled.slots (length ks + i) ≡ own_slot k (term_at xs i)
  slot-behind i k e =
      term-dropped (length ks) i filled.slots
      ∙ ap (λ z. term_at z i) slots-are
      ∙ slot-is (begin js) alone alone-allowed i k e
      ∙ ap (λ (z : Values). own_slot k (term_at z.terms i)) alone-own
