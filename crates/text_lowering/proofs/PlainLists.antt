-- Cells, made plain one after the other, and cells that are plain as they are.
use Rattle.std.proofs.Common.{◌≡◌, ℕ, ◌+◌, Bool, true, false, List, [], ◌∷◌, ◌++◌, map, take, Option, Some, None, refl, sym, ap, ◌∙◌, subst}
use Rattle.std.proofs.lemmas.List.{map_push, take_more}
use Rattle.std.proofs.lemmas.Option.{slice_get_within, get_or_from_slice_get}
use Rattle.std.specs.Prelude.{slice_get}
use Rattle.std.specs.List.{list_all}
use Rattle.std.specs.Option.{option_and_then}
use Rattle.type_terms.specs.Kinds.{const_label}
use Rattle.type_terms.specs.declared.kinds.ConstKind.{ConstKind}
use Rattle.type_terms.specs.declared.kinds.ConstKind.TheVariants as consts
use Rattle.type_terms.specs.declared.number.BoundVarIndexKind.TheVariants as binders
use Rattle.text_tables.specs.Made.{StackPart, parts_behind, parts_of, CellHeld, CellsHeld}
use Rattle.text_tables.specs.TermCells.{TermCell as Cell, node_cell, trees_of, joined}
use Rattle.text_tables.specs.Views.{cell_of, cells_of, reference_of}
use Rattle.text_tables.specs.declared.declared.ReferenceCells.{ReferenceCells}
use Rattle.type_terms.specs.Promised.Worlds.{Reference}
use Rattle.text_tables.specs.declared.cell.TermCell.{TermCell}
use Rattle.text_tables.specs.declared.cell.TermCell.TheVariants as cells
use Rattle.text_lowering.specs.Promised.SeenWorlds.{plain_label, plain_reference}
use Rattle.text_lowering.specs.PlainCells.{is_without_lifetimes, plain_cell}
use Rattle.text_lowering.proofs.Plainly.{trees-plain, joined-plain}
use Rattle.type_terms.proofs.BooleanBasics.{and-both as first-of-both}

-- these cells are those, made plain
pub record ArePlain (k : ℕ → Bool) (cs out : List TermCell) : Type 0 where
  pub are : cells_of out ≡ map (plain_cell k) (cells_of cs)
  pub parts : (S : List StackPart) → parts_of out S ≡ parts_of cs S
  pub held : CellsHeld cs → CellsHeld out

parts-append : (xs ys : List TermCell) (S : List StackPart) → parts_of (xs ++ ys) S ≡ option_and_then (parts_of ys) (parts_of xs S)
parts-append [] ys S = refl
parts-append (x ∷ xs) ys S = by (parts_behind x S) (parts-append xs ys)
  where
    by : (o : Option (List StackPart)) → ((P : List StackPart) → parts_of (xs ++ ys) P ≡ option_and_then (parts_of ys) (parts_of xs P)) → option_and_then (parts_of (xs ++ ys)) o ≡ option_and_then (parts_of ys) (option_and_then (parts_of xs) o)
    by None r = refl
    by (Some P) r = r P

held-append : (xs : List TermCell) (y : TermCell) → CellsHeld xs → CellHeld y → CellsHeld (xs ++ y ∷ [])
held-append [] y h g = (g, tt)
held-append (x ∷ xs) y h g = (h.0, held-append xs y h.1 g)

first-held : (xs : List TermCell) (y : TermCell) → CellsHeld (xs ++ y ∷ []) → CellsHeld xs × CellHeld y
first-held [] y h = (tt, h.0)
first-held (x ∷ xs) y h = ((h.0, (first-held xs y h.1).0), (first-held xs y h.1).1)

push-plain : (k : ℕ → Bool) (cs out : List TermCell) (c x : TermCell) → ArePlain k cs out → cell_of x ≡ plain_cell k (cell_of c) → ((S : List StackPart) → parts_behind x S ≡ parts_behind c S) → (CellHeld c → CellHeld x)
    → ArePlain k (cs ++ c ∷ []) (out ++ x ∷ [])
push-plain k cs out c x a is parts held =
    record {
      are =
          map_push cell_of out x ∙ ap (λ l. l ++ cell_of x ∷ []) a.are ∙ ap (λ y. map (plain_cell k) (cells_of cs) ++ y ∷ []) is
          ∙ sym (ap (map (plain_cell k)) (map_push cell_of cs c) ∙ map_push (plain_cell k) (cells_of cs) (cell_of c));
      parts = λ S. parts-append out (x ∷ []) S ∙ ap (option_and_then (parts_of (x ∷ []))) (a.parts S) ∙ one (parts_of cs S) ∙ sym (parts-append cs (c ∷ []) S);
      held = λ h. held-append out x (a.held (first-held cs c h).0) (held (first-held cs c h).1);
    }
  where
    one : (o : Option (List StackPart)) → option_and_then (parts_of (x ∷ [])) o ≡ option_and_then (parts_of (c ∷ [])) o
    one None = refl
    one (Some P) = ap (option_and_then (parts_of [])) (parts P)

pub one-more-plain : (k : ℕ → Bool) (all out : List TermCell) (i : ℕ) (c x : TermCell) → slice_get all i ≡ Some c → ArePlain k (take i all) out → cell_of x ≡ plain_cell k (cell_of c)
    → ((S : List StackPart) → parts_behind x S ≡ parts_behind c S) → (CellHeld c → CellHeld x) → ArePlain k (take (i + 1) all) (out ++ x ∷ [])
one-more-plain k all out i c x there a is parts held =
    subst (λ l. ArePlain k l (out ++ x ∷ [])) (sym (take_more all i c (slice_get_within all i c there) ∙ ap (λ y. take i all ++ y ∷ []) (get_or_from_slice_get all i c c there)))
    (push-plain k (take i all) out c x a is parts held)

-- ---- cells without lifetimes are plain as they are
const-stays : (k : ℕ → Bool) (n : ConstKind) → plain_label k (const_label n) ≡ const_label n
const-stays k (consts.Bound (binders.Bound b) i) = refl
const-stays k (consts.Bound binders.Canonical i) = refl
const-stays k n = refl

cell-stays : (k : ℕ → Bool) (c : TermCell) → is_without_lifetimes c ≡ true → plain_cell k (cell_of c) ≡ cell_of c
cell-stays k (cells.Lifetime r) h = absurd cc
cell-stays k (cells.Ref r m) h = absurd cc
cell-stays k (cells.FnPtr b n) h = absurd cc
cell-stays k (cells.Principal b t n) h = absurd cc
cell-stays k (cells.Const n) h = ap (λ l. node_cell l 0) (const-stays k n)
cell-stays k (cells.Dynamic true n) h = refl
cell-stays k (cells.Dynamic false n) h = refl
cell-stays k c h = refl

cells-stay : (k : ℕ → Bool) (cs : List TermCell) → list_all is_without_lifetimes cs ≡ true → map (plain_cell k) (cells_of cs) ≡ cells_of cs
cells-stay k [] h = refl
cells-stay k (c ∷ cs) h =
    let p = first-of-both (is_without_lifetimes c) (list_all is_without_lifetimes cs) h in
    two (cell-stays k c p.0) (cells-stay k cs p.1)
  where
    two : {x y : Cell} {xs ys : List Cell} → x ≡ y → xs ≡ ys → x ∷ xs ≡ y ∷ ys
    two p q = cc

pub reference-stays : (k : ℕ → Bool) (r : ReferenceCells) → list_all is_without_lifetimes r.args.items ≡ true → reference_of r ≡ plain_reference k (reference_of r)
reference-stays k r h =
    ap (λ t. (let x : Reference = record { trait = r.trait_id.index; args = t } in x))
    (ap (λ x. joined (trees_of x)) (sym (cells-stay k r.args.items h)) ∙ ap joined (trees-plain k (cells_of r.args.items)) ∙ joined-plain k (trees_of (cells_of r.args.items)))
