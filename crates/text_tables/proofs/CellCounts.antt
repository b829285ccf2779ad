-- How many cells there are at most where the trees are known.
use Rattle.std.proofs.Common.{◌≡◌, ℕ, zero, suc, ◌≤◌, ◌+◌, ◌-◌, Bool, true, false, List, [], ◌∷◌, length, Option, Some, None, refl, sym, ap, ◌∙◌, arith}
use Rattle.std.specs.Prelude.{reverse, if◌then◌else◌, sum_by}
use Rattle.std.specs.List.{list_all}
use Rattle.std.specs.Option.{option_and_then}
use Rattle.std.proofs.lemmas.List.Sums.{sum_by-cons, sum_by-append}
use Rattle.std.proofs.lemmas.List.{reverse-append}
use Rattle.std.proofs.lemmas.Option.{same_Some}
use Rattle.type_terms.specs.Promised.Label.{Label, ref, of_type, bool, char, str, never, array, slice, tuple, dynamic, auto_trait, int, uint, adt, fn_ptr, raw_pointer, principal, param, placeholder, infer}
use Rattle.type_terms.specs.Kinds.{int_number, uint_number, is_mut, const_label}
use Rattle.type_terms.specs.Promised.Handles.{region_label}
use Rattle.type_terms.specs.Promised.Trees.{Trees, none, tree, leaf, ◌+++◌}
use Rattle.text_tables.specs.TermCells as cell
use Rattle.text_tables.specs.TermCells.{gathered, below, behind_cell, behind_cells, trees_of, joined}
use Rattle.text_tables.specs.declared.cell.TermCell.{TermCell}
use Rattle.text_tables.specs.declared.cell.TermCell.TheVariants as cells
use Rattle.text_tables.specs.Made.{StackPart, type_part, const_part, lifetime_part, principal_part, auto_part, off, off_autos, off_principal, putting, is_below, is_type, is_const, is_lifetime_on_stack, is_principal, is_arg, parts_behind, parts_of, AreMade}
use Rattle.text_tables.specs.Views.{cell_of, cells_of}
use Rattle.text_tables.specs.TermCounts.{parts}
use Rattle.type_terms.proofs.TypeBasics.{mapped-some as map-some}

-- ---- trees
pub parts-append : (t o : Trees) → parts (t +++ o) ≡ parts t + parts o
parts-append none o = omega arith
parts-append (tree l c p) o = let h = parts-append p o in omega (arith, h)

pub parts-joined : (ts : List Trees) → parts (joined ts) ≡ sum_by parts ts
parts-joined [] = refl
parts-joined (t ∷ ts) = let h = parts-joined ts in parts-append t (joined ts) ∙ ap (λ n. parts t + n) h ∙ sym (sum_by-cons parts t ts)

parts-reversed : (ts : List Trees) → sum_by parts (reverse ts) ≡ sum_by parts ts
parts-reversed [] = refl
parts-reversed (t ∷ ts) =
    let h = parts-reversed ts in
    let c = sum_by-cons parts t ts in
    let e = sum_by-append parts (reverse ts) (t ∷ []) in
    let one = sum_by-cons parts t [] in
    ap (sum_by parts) (reverse-append (t ∷ []) ts) ∙ e ∙ omega (arith, h, c, one)

-- ---- the stack of trees
gathered-parts : (k : ℕ) (S : List Trees) (o : Trees) → parts (gathered k S o) + sum_by parts (below k S) ≡ sum_by parts S + parts o
gathered-parts zero S o = omega arith
gathered-parts (suc k) [] o = omega arith
gathered-parts (suc k) (t ∷ S) o =
    let h = gathered-parts k S (t +++ o) in
    let a = parts-append t o in
    let c = sum_by-cons parts t S in
    omega (arith, h, a, c)

below-long : (k : ℕ) (S : List Trees) → length (below k S) ≡ length S - k
below-long zero S = omega arith
below-long (suc k) [] = omega arith
below-long (suc k) (t ∷ S) = let h = below-long k S in omega (arith, h)

-- a cell puts one tree of more parts in the place of those that stand in it
abbrev GoesOn : cell.TermCell → List Trees → ℕ → Type 0
GoesOn c S n = (length (behind_cell c S) ≡ suc n) × (suc (sum_by parts S) ≤ sum_by parts (behind_cell c S))

node-on : (l : Label) (k : ℕ) (S : List Trees) (n : ℕ) → n + k ≡ length S → GoesOn (cell.node_cell l k) S n
node-on l k S n e =
    let b = below-long k S in
    let g = gathered-parts k S none in
    let c = sum_by-cons parts (tree l (gathered k S none) none) (below k S) in
    (omega (arith, b, e), omega (arith, g, c))

reference-on : (r : Label) (m : Bool) (S : List Trees) (n : ℕ) → n + 1 ≡ length S → GoesOn (cell.reference_cell r m) S n
reference-on r m [] n e = absurd (omega (arith, e))
reference-on r m (t ∷ S) n e =
    let c = sum_by-cons parts (tree (ref m) (leaf r +++ t) none) S in
    let d = sum_by-cons parts t S in
    (omega (arith, e), omega (arith, c, d))

-- ---- the stack of what has been made
off-long : (p : StackPart → Bool) (n : ℕ) (P R : List StackPart) → off p n P ≡ Some R → length R + n ≡ length P
off-long p zero P R e = let s = ap length (same_Some P R e) in omega (arith, s)
off-long p (suc n) [] R e = absurd cc
off-long p (suc n) (x ∷ P) R e = by (p x) (off-long p n P R) e
  where
    by : (b : Bool) → (off p n P ≡ Some R → length R + n ≡ length P) → (if b then off p n P else None) ≡ Some R → length R + suc n ≡ suc (length P)
    by true long h = let l = long h in omega (arith, l)
    by false long h = absurd cc

autos-long : (n : ℕ) (u : Option ℕ) (P R : List StackPart) → off_autos n u P ≡ Some R → length R + n ≡ length P
autos-long zero u P R e = let s = ap length (same_Some P R e) in omega (arith, s)
autos-long (suc n) u [] R e = absurd cc
autos-long (suc n) u (type_part ∷ P) R e = absurd cc
autos-long (suc n) u (const_part ∷ P) R e = absurd cc
autos-long (suc n) u (lifetime_part ∷ P) R e = absurd cc
autos-long (suc n) u (principal_part ∷ P) R e = absurd cc
autos-long (suc n) u (auto_part t ∷ P) R e = by (is_below t u) (autos-long n (Some t) P R) e
  where
    by : (b : Bool) → (off_autos n (Some t) P ≡ Some R → length R + n ≡ length P) → (if b then off_autos n (Some t) P else None) ≡ Some R → length R + suc n ≡ suc (length P)
    by true long h = let l = long h in omega (arith, l)
    by false long h = absurd cc

then-some : {A B : Type 0} (f : A → Option B) (o : Option A) (y : B) → option_and_then f o ≡ Some y → (x : A) × (o ≡ Some x) × (f x ≡ Some y)
then-some f None y e = absurd cc
then-some f (Some x) y e = (x, refl, e)

array-long : (P R : List StackPart) → option_and_then (off is_type 1) (off is_const 1 P) ≡ Some R → length R + 2 ≡ length P
array-long P R e =
    let x = then-some (off is_type 1) (off is_const 1 P) R e in
    let a = off-long is_const 1 P x.0 x.1 in
    let b = off-long is_type 1 x.0 R x.2 in
    omega (arith, a, b)

bounds-long : (n : ℕ) (P R : List StackPart) → option_and_then (off_autos n None) (off is_lifetime_on_stack 1 P) ≡ Some R → length R + suc n ≡ length P
bounds-long n P R e =
    let x = then-some (off_autos n None) (off is_lifetime_on_stack 1 P) R e in
    let a = off-long is_lifetime_on_stack 1 P x.0 x.1 in
    let b = autos-long n None x.0 R x.2 in
    omega (arith, a, b)

object-long : (n : ℕ) (P R : List StackPart) → option_and_then (off_principal true) (option_and_then (off_autos n None) (off is_lifetime_on_stack 1 P)) ≡ Some R → length R + suc (suc n) ≡ length P
object-long n P R e =
    let x = then-some (off_principal true) (option_and_then (off_autos n None) (off is_lifetime_on_stack 1 P)) R e in
    let a = bounds-long n P x.0 x.1 in
    let b = off-long is_principal 1 x.0 R x.2 in
    omega (arith, a, b)

autos-alone-long : (n : ℕ) (P R : List StackPart) → option_and_then (off_principal false) (option_and_then (off_autos n None) (off is_lifetime_on_stack 1 P)) ≡ Some R → length R + suc n ≡ length P
autos-alone-long n P R e =
    let x = then-some (off_principal false) (option_and_then (off_autos n None) (off is_lifetime_on_stack 1 P)) R e in
    let a = bounds-long n P x.0 x.1 in
    let b = ap length (same_Some x.0 R x.2) in
    omega (arith, a, b)

-- ---- one cell
abbrev Stepped : cell.TermCell → List StackPart → List Trees → Type 0
Stepped c Q S = (length Q ≡ length (behind_cell c S)) × (suc (sum_by parts S) ≤ sum_by parts (behind_cell c S))

on-leaf : (l : Label) (x : StackPart) (P Q : List StackPart) (S : List Trees) → length P ≡ length S → ◌≡◌ {A = Option (List StackPart)} (Some (x ∷ P)) (Some Q) → Stepped (cell.node_cell l 0) Q S
on-leaf l x P Q S e h =
    let q = ap length (same_Some (x ∷ P) Q h) in
    let g = node-on l 0 S (length P) (omega (arith, e)) in
    (sym q ∙ sym g.0, g.1)

on-list : (l : Label) (n : ℕ) (x : StackPart) (o : Option (List StackPart)) (P Q : List StackPart) (S : List Trees) → ((R : List StackPart) → o ≡ Some R → length R + n ≡ length P) → length P ≡ length S
    → putting x o ≡ Some Q → Stepped (cell.node_cell l n) Q S
on-list l n x o P Q S long e h =
    let y = map-some (λ R. x ∷ R) o Q h in
    let q = ap length y.2 in
    let g = node-on l n S (length y.0) (long y.0 y.1 ∙ e) in
    (sym q ∙ sym g.0, g.1)

on-reference : (r : Label) (m : Bool) (P Q : List StackPart) (S : List Trees) → length P ≡ length S → putting type_part (off is_type 1 P) ≡ Some Q → Stepped (cell.reference_cell r m) Q S
on-reference r m P Q S e h =
    let y = map-some (λ R. type_part ∷ R) (off is_type 1 P) Q h in
    let q = ap length y.2 in
    let g = reference-on r m S (length y.0) (off-long is_type 1 P y.0 y.1 ∙ e) in
    (sym q ∙ sym g.0, g.1)

step : (c : TermCell) (P Q : List StackPart) (S : List Trees) → length P ≡ length S → parts_behind c P ≡ Some Q → Stepped (cell_of c) Q S
step cells.Bool P Q S e h = on-leaf bool type_part P Q S e h
step cells.Char P Q S e h = on-leaf char type_part P Q S e h
step cells.Str P Q S e h = on-leaf str type_part P Q S e h
step cells.Never P Q S e h = on-leaf never type_part P Q S e h
step (cells.Int w) P Q S e h = on-leaf (int (int_number w)) type_part P Q S e h
step (cells.Uint w) P Q S e h = on-leaf (uint (uint_number w)) type_part P Q S e h
step (cells.Param i) P Q S e h = on-leaf (param of_type i) type_part P Q S e h
step (cells.Placeholder i) P Q S e h = on-leaf (placeholder of_type i) type_part P Q S e h
step (cells.Infer v) P Q S e h = on-leaf (infer of_type v.index) type_part P Q S e h
step (cells.Const k) P Q S e h = on-leaf (const_label k) const_part P Q S e h
step (cells.Lifetime r) P Q S e h = on-leaf (region_label r.kind) lifetime_part P Q S e h
step (cells.Adt s n) P Q S e h = on-list (adt s.index) n type_part (off is_arg n P) P Q S (off-long is_arg n P) e h
step (cells.Ref r m) P Q S e h = on-reference (region_label r.kind) (is_mut m) P Q S e h
step (cells.RawPtr m) P Q S e h = on-list (raw_pointer (is_mut m)) 1 type_part (off is_type 1 P) P Q S (off-long is_type 1 P) e h
step cells.Slice P Q S e h = on-list slice 1 type_part (off is_type 1 P) P Q S (off-long is_type 1 P) e h
step cells.Array P Q S e h = on-list array 2 type_part (option_and_then (off is_type 1) (off is_const 1 P)) P Q S (array-long P) e h
step (cells.Tuple n) P Q S e h = on-list tuple n type_part (off is_type n P) P Q S (off-long is_type n P) e h
step (cells.FnPtr b zero) P Q S e h = absurd cc
step (cells.FnPtr b (suc n)) P Q S e h = on-list (fn_ptr b) (suc n) type_part (off is_type (suc n) P) P Q S (off-long is_type (suc n) P) e h
step (cells.Principal b t n) P Q S e h = on-list (principal b t.index) n principal_part (off is_arg n P) P Q S (off-long is_arg n P) e h
step (cells.Auto t) P Q S e h = on-leaf (auto_trait t.index) (auto_part t.index) P Q S e h
step (cells.Dynamic false n) P Q S e h = on-list dynamic (suc n) type_part (option_and_then (off_principal false) (option_and_then (off_autos n None) (off is_lifetime_on_stack 1 P))) P Q S (autos-alone-long n P) e h
step (cells.Dynamic true n) P Q S e h = on-list dynamic (suc (suc n)) type_part (option_and_then (off_principal true) (option_and_then (off_autos n None) (off is_lifetime_on_stack 1 P))) P Q S (object-long n P) e h

-- ---- all cells
all-steps : (cs : List TermCell) (P R : List StackPart) (S : List Trees) → length P ≡ length S → parts_of cs P ≡ Some R → length cs + sum_by parts S ≤ sum_by parts (behind_cells (cells_of cs) S)
all-steps [] P R S e h = omega arith
all-steps (c ∷ cs) P R S e h =
    let x = then-some (parts_of cs) (parts_behind c P) R h in
    let one = step c P x.0 S e x.1 in
    let rest = all-steps cs x.0 R (behind_cell (cell_of c) S) one.0 x.2 in
    let more = one.1 in
    omega (arith, rest, more)

made-there : (p : StackPart → Bool) (cs : List TermCell) → AreMade p cs → (R : List StackPart) × (parts_of cs [] ≡ Some R)
made-there p cs made = let x = map-some (list_all p) (parts_of cs []) true made.parts in (x.0, x.1)

-- there are no more cells than parts of the trees that they stand for
pub cells-are-few : (p : StackPart → Bool) (cs : List TermCell) → AreMade p cs → length cs ≤ sum_by parts (trees_of (cells_of cs))
cells-are-few p cs made =
    let there = made-there p cs made in
    let few = all-steps cs [] there.0 [] refl there.1 in
    let same = parts-reversed (behind_cells (cells_of cs) []) in
    omega (arith, few, same)

pub joined-cells-are-few : (p : StackPart → Bool) (cs : List TermCell) → AreMade p cs → length cs ≤ parts (joined (trees_of (cells_of cs)))
joined-cells-are-few p cs made =
    let few = cells-are-few p cs made in
    let same = parts-joined (trees_of (cells_of cs)) in
    omega (arith, few, same)
