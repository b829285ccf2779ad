-- The cells name a lifetime parameter exactly if it stands in the trees that they stand for.
use Rattle.std.proofs.Common.{◌≡◌, ℕ, zero, suc, Bool, true, false, ◌||◌, List, [], ◌∷◌, length, Option, Some, None, refl, sym, ap, ◌∙◌, arith}
use Rattle.std.proofs.lemmas.List.{reverse-append}
use Rattle.std.proofs.lemmas.List.Folds.{list_any-append}
use Rattle.std.proofs.lemmas.Option.{same_Some}
use Rattle.std.specs.Prelude.{reverse, if◌then◌else◌}
use Rattle.std.specs.List.{list_any, list_all}
use Rattle.std.specs.Option.{option_map, option_and_then}
use Rattle.type_terms.specs.Promised.Label.{Label}
use Rattle.type_terms.specs.Promised.Trees.{Trees, none, tree, some_node, ◌+++◌}
use Rattle.type_terms.specs.Kinds.{const_label}
use Rattle.type_terms.specs.declared.kinds.ConstKind.{ConstKind}
use Rattle.type_terms.specs.declared.kinds.ConstKind.TheVariants as consts
use Rattle.type_terms.specs.declared.number.BoundVarIndexKind.TheVariants as binder
use Rattle.text_tables.specs.TermCells.{TermCell as Cell, node_cell, reference_cell, gathered, below, behind_cell, behind_cells, trees_of, joined}
use Rattle.text_tables.specs.Made.{StackPart, type_part, const_part, lifetime_part, principal_part, auto_part, is_type, is_const, is_lifetime_on_stack as is_lifetime_part, is_principal, is_arg, is_below, off, off_autos, off_principal, putting, parts_behind, parts_of, AreMade}
use Rattle.text_tables.specs.Views.{cell_of, cells_of}
use Rattle.text_tables.specs.declared.cell.TermCell.{TermCell}
use Rattle.text_tables.specs.declared.cell.TermCell.TheVariants as cells
use Rattle.text_lowering.specs.Promised.SeenWorlds.{is_lifetime, stands_in}
use Rattle.text_lowering.specs.PlainCells.{names, named_in}

-- ---- as many trees as parts stand on the stack
off-length : (p : StackPart → Bool) (n : ℕ) (P R : List StackPart) (S : List Trees) → length S ≡ length P → off p n P ≡ Some R → length (below n S) ≡ length R
off-length p zero P R S e h = e ∙ ap length (same_Some P R h)
off-length p (suc n) [] R S e h = absurd cc
off-length p (suc n) (x ∷ P) R [] e h = absurd (omega (arith, e))
off-length p (suc n) (x ∷ P) R (t ∷ S) e h = by (p x) h (off-length p n P R S (omega (arith, e)))
  where
    by : (b : Bool) → (if b then off p n P else None) ≡ Some R → (off p n P ≡ Some R → length (below n S) ≡ length R) → length (below n S) ≡ length R
    by true g r = r g
    by false g r = absurd cc

autos-length : (n : ℕ) (u : Option ℕ) (P R : List StackPart) (S : List Trees) → length S ≡ length P → off_autos n u P ≡ Some R → length (below n S) ≡ length R
autos-length zero u P R S e h = e ∙ ap length (same_Some P R h)
autos-length (suc n) u [] R S e h = absurd cc
autos-length (suc n) u (type_part ∷ P) R S e h = absurd cc
autos-length (suc n) u (const_part ∷ P) R S e h = absurd cc
autos-length (suc n) u (lifetime_part ∷ P) R S e h = absurd cc
autos-length (suc n) u (principal_part ∷ P) R S e h = absurd cc
autos-length (suc n) u (auto_part t ∷ P) R [] e h = absurd (omega (arith, e))
autos-length (suc n) u (auto_part t ∷ P) R (s ∷ S) e h = by (is_below t u) h (autos-length n (Some t) P R S (omega (arith, e)))
  where
    by : (b : Bool) → (if b then off_autos n (Some t) P else None) ≡ Some R → (off_autos n (Some t) P ≡ Some R → length (below n S) ≡ length R) → length (below n S) ≡ length R
    by true g r = r g
    by false g r = absurd cc

below-more : (n : ℕ) (S : List Trees) → below 1 (below n S) ≡ below (suc n) S
below-more zero S = refl
below-more (suc n) [] = refl
below-more (suc n) (t ∷ S) = below-more n S

put-length : (x : StackPart) (o : Option (List StackPart)) (R : List StackPart) (n : ℕ) → putting x o ≡ Some R → ((Q : List StackPart) → o ≡ Some Q → n ≡ length Q) → suc n ≡ length R
put-length x None R n h f = absurd cc
put-length x (Some Q) R n h f = ap suc (f Q refl) ∙ ap length (same_Some (x ∷ Q) R h)

then-some : (f : List StackPart → Option (List StackPart)) (o : Option (List StackPart)) (R : List StackPart) → option_and_then f o ≡ Some R → (Q : List StackPart) × (o ≡ Some Q) × (f Q ≡ Some R)
then-some f None R h = absurd cc
then-some f (Some Q) R h = (Q, refl, h)

pushed-length : (x : StackPart) (P R : List StackPart) (S : List Trees) → length S ≡ length P → Some (x ∷ P) ≡ Some R → suc (length S) ≡ length R
pushed-length x P R S e h = ap suc e ∙ ap length (same_Some (x ∷ P) R h)

dyn-length : (p : Bool) (n : ℕ) (P R : List StackPart) (S : List Trees) → length S ≡ length P → option_and_then (off_principal p) (option_and_then (off_autos n None) (off is_lifetime_part 1 P)) ≡ Some R
    → length (below (if p then suc (suc n) else suc n) S) ≡ length R
dyn-length p n P R S e h =
    let a = then-some (off_principal p) (option_and_then (off_autos n None) (off is_lifetime_part 1 P)) R h in
    let b = then-some (off_autos n None) (off is_lifetime_part 1 P) a.0 a.1 in
    let one = off-length is_lifetime_part 1 P b.0 S e b.1 in
    let two = autos-length n None b.0 a.0 (below 1 S) one b.2 in
    by p a.0 a.2 (below-all S two)
  where
    below-all : (T : List Trees) {k : ℕ} → length (below n (below 1 T)) ≡ k → length (below (suc n) T) ≡ k
    below-all [] q = ap length (empty n) ∙ q
      where
        empty : (m : ℕ) → [] ≡ below m []
        empty zero = refl
        empty (suc m) = refl
    below-all (t ∷ T) q = q

    by : (b : Bool) (Q : List StackPart) → off_principal b Q ≡ Some R → length (below (suc n) S) ≡ length Q → length (below (if b then suc (suc n) else suc n) S) ≡ length R
    by false Q g q = q ∙ ap length (same_Some Q R g)
    by true Q g q = ap length (sym (below-more (suc n) S)) ∙ off-length is_principal 1 Q R (below (suc n) S) q g

cell-length : (c : TermCell) (P R : List StackPart) (S : List Trees) → length S ≡ length P → parts_behind c P ≡ Some R → length (behind_cell (cell_of c) S) ≡ length R
cell-length (cells.Const k) P R S e h = pushed-length const_part P R S e h
cell-length (cells.Lifetime r) P R S e h = pushed-length lifetime_part P R S e h
cell-length (cells.Adt s n) P R S e h = put-length type_part (off is_arg n P) R (length (below n S)) h (λ Q g. off-length is_arg n P Q S e g)
cell-length (cells.Ref r m) [] R [] e h = absurd cc
cell-length (cells.Ref r m) (x ∷ P) R [] e h = absurd (omega (arith, e))
cell-length (cells.Ref r m) P R (t ∷ S) e h = put-length type_part (off is_type 1 P) R (length S) h (λ Q g. off-length is_type 1 P Q (t ∷ S) e g)
cell-length (cells.RawPtr m) P R S e h = put-length type_part (off is_type 1 P) R (length (below 1 S)) h (λ Q g. off-length is_type 1 P Q S e g)
cell-length cells.Slice P R S e h = put-length type_part (off is_type 1 P) R (length (below 1 S)) h (λ Q g. off-length is_type 1 P Q S e g)
cell-length cells.Array P R S e h =
    put-length type_part (option_and_then (off is_type 1) (off is_const 1 P)) R (length (below 2 S)) h
    (λ Q g. let a = then-some (off is_type 1) (off is_const 1 P) Q g in ap length (sym (below-more 1 S)) ∙ off-length is_type 1 a.0 Q (below 1 S) (off-length is_const 1 P a.0 S e a.1) a.2)
cell-length (cells.Tuple n) P R S e h = put-length type_part (off is_type n P) R (length (below n S)) h (λ Q g. off-length is_type n P Q S e g)
cell-length (cells.FnPtr b zero) P R S e h = absurd cc
cell-length (cells.FnPtr b (suc n)) P R S e h = put-length type_part (off is_type (suc n) P) R (length (below (suc n) S)) h (λ Q g. off-length is_type (suc n) P Q S e g)
cell-length (cells.Principal b t n) P R S e h = put-length principal_part (off is_arg n P) R (length (below n S)) h (λ Q g. off-length is_arg n P Q S e g)
cell-length (cells.Auto t) P R S e h = pushed-length (auto_part t.index) P R S e h
cell-length (cells.Dynamic false n) P R S e h = put-length type_part (option_and_then (off_principal false) (option_and_then (off_autos n None) (off is_lifetime_part 1 P))) R (length (below (suc n) S)) h (λ Q g. dyn-length false n P Q S e g)
cell-length (cells.Dynamic true n) P R S e h = put-length type_part (option_and_then (off_principal true) (option_and_then (off_autos n None) (off is_lifetime_part 1 P))) R (length (below (suc (suc n)) S)) h (λ Q g. dyn-length true n P Q S e g)
cell-length cells.Bool P R S e h = pushed-length type_part P R S e h
cell-length cells.Char P R S e h = pushed-length type_part P R S e h
cell-length cells.Str P R S e h = pushed-length type_part P R S e h
cell-length cells.Never P R S e h = pushed-length type_part P R S e h
cell-length (cells.Int w) P R S e h = pushed-length type_part P R S e h
cell-length (cells.Uint w) P R S e h = pushed-length type_part P R S e h
cell-length (cells.Param i) P R S e h = pushed-length type_part P R S e h
cell-length (cells.Placeholder i) P R S e h = pushed-length type_part P R S e h
cell-length (cells.Infer v) P R S e h = pushed-length type_part P R S e h

-- ---- a label stands in a stack
module _ (i : ℕ) where
  abbrev stands : Trees → Bool
  stands t = some_node (is_lifetime i) t

  abbrev some : List Trees → Bool
  some S = list_any stands S

  append-stands : (x y : Trees) → stands (x +++ y) ≡ (stands x || stands y)
  append-stands none y = refl
  append-stands (tree l c o) y = ap (λ b. is_lifetime i l || stands c || b) (append-stands o y) ∙ apart (is_lifetime i l || stands c) (stands o) (stands y)
    where
      apart : (a b c : Bool) → (a || (b || c)) ≡ ((a || b) || c)
      apart true b c = refl
      apart false b c = refl

  gathered-stands : (n : ℕ) (S : List Trees) (o : Trees) → (stands (gathered n S o) || some (below n S)) ≡ (stands o || some S)
  gathered-stands zero S o = refl
  gathered-stands (suc n) [] o = refl
  gathered-stands (suc n) (t ∷ S) o = gathered-stands n S (t +++ o) ∙ ap (λ b. b || some S) (append-stands t o) ∙ turned (stands t) (stands o) (some S)
    where
      turned : (a b c : Bool) → ((a || b) || c) ≡ (b || (a || c))
      turned true true c = refl
      turned true false c = refl
      turned false b c = refl

  abbrev named : Cell → Bool
  named (node_cell l n) = is_lifetime i l
  named (reference_cell r m) = is_lifetime i r

  node-stands : (l : Label) (n : ℕ) (S : List Trees) → some (behind_cell (node_cell l n) S) ≡ (is_lifetime i l || some S)
  node-stands l n S = first (is_lifetime i l) (stands (gathered n S none)) (some (below n S)) ∙ ap (λ b. is_lifetime i l || b) (gathered-stands n S none)
    where
      first : (a b c : Bool) → (((a || b) || false) || c) ≡ (a || (b || c))
      first true b c = refl
      first false true c = refl
      first false false c = refl

  reference-stands : (r : Label) (m : Bool) (t : Trees) (S : List Trees) → some (behind_cell (reference_cell r m) (t ∷ S)) ≡ (is_lifetime i r || some (t ∷ S))
  reference-stands r m t S = first (is_lifetime i r) (stands t) (some S)
    where
      first : (a b c : Bool) → (((false || ((a || false) || b)) || false) || c) ≡ (a || (b || c))
      first true b c = refl
      first false true c = refl
      first false false c = refl

  const-names : (k : ConstKind) → is_lifetime i (const_label k) ≡ false
  const-names (consts.Param j) = refl
  const-names (consts.Placeholder j) = refl
  const-names (consts.Infer v) = refl
  const-names (consts.Bound (binder.Bound d) v) = refl
  const-names (consts.Bound binder.Canonical v) = refl
  const-names (consts.Value n) = refl

  names-named : (c : TermCell) → named (cell_of c) ≡ names i c
  names-named (cells.Lifetime r) = refl
  names-named (cells.Ref r m) = refl
  names-named (cells.Const k) = const-names k
  names-named (cells.Dynamic false n) = refl
  names-named (cells.Dynamic true n) = refl
  names-named c = refl

  -- a reference finds its type on the stack
  abbrev IsFed : Cell → List Trees → Type 0
  IsFed (reference_cell r m) [] = ⊥
  IsFed c S = Unit {0}

  fed : (c : TermCell) (P R : List StackPart) (S : List Trees) → length S ≡ length P → parts_behind c P ≡ Some R → IsFed (cell_of c) S
  fed (cells.Ref r m) [] R [] e h = absurd cc
  fed (cells.Ref r m) (x ∷ P) R [] e h = absurd (omega (arith, e))
  fed (cells.Ref r m) P R (t ∷ S) e h = tt
  fed (cells.Dynamic false n) P R S e h = tt
  fed (cells.Dynamic true n) P R S e h = tt
  fed c P R S e h = tt

  one-stands : (c : Cell) (S : List Trees) → IsFed c S → some (behind_cell c S) ≡ (named c || some S)
  one-stands (node_cell l n) S f = node-stands l n S
  one-stands (reference_cell r m) [] f = absurd f
  one-stands (reference_cell r m) (t ∷ S) f = reference-stands r m t S

  cell-stands : (c : TermCell) (P R : List StackPart) (S : List Trees) → length S ≡ length P → parts_behind c P ≡ Some R → some (behind_cell (cell_of c) S) ≡ (names i c || some S)
  cell-stands c P R S e h = one-stands (cell_of c) S (fed c P R S e h) ∙ ap (λ b. b || some S) (names-named c)

  cells-stand : (cs : List TermCell) (P Q : List StackPart) (S : List Trees) → length S ≡ length P → parts_of cs P ≡ Some Q → some (behind_cells (cells_of cs) S) ≡ (named_in cs i || some S)
  cells-stand [] P Q S e h = refl
  cells-stand (c ∷ cs) P Q S e h =
      let a = then-some (parts_of cs) (parts_behind c P) Q h in
      cells-stand cs a.0 Q (behind_cell (cell_of c) S) (cell-length c P a.0 S e a.1) a.2 ∙ ap (λ b. named_in cs i || b) (cell-stands c P a.0 S e a.1) ∙ turned (named_in cs i) (names i c) (some S)
    where
      turned : (a b c : Bool) → (a || (b || c)) ≡ ((b || a) || c)
      turned true true c = refl
      turned true false c = refl
      turned false true c = refl
      turned false false c = refl

  reverse-some : (S : List Trees) → some (reverse S) ≡ some S
  reverse-some [] = refl
  reverse-some (t ∷ S) = ap some (reverse-append (t ∷ []) S) ∙ list_any-append stands (reverse S) (t ∷ []) ∙ ap (λ b. b || (stands t || false)) (reverse-some S) ∙ turned (some S) (stands t)
    where
      turned : (a b : Bool) → (a || (b || false)) ≡ (b || a)
      turned true true = refl
      turned true false = refl
      turned false true = refl
      turned false false = refl

  joined-stands : (S : List Trees) → stands (joined S) ≡ some S
  joined-stands [] = refl
  joined-stands (t ∷ S) = append-stands t (joined S) ∙ ap (λ b. stands t || b) (joined-stands S)

all-some : (p : StackPart → Bool) (o : Option (List StackPart)) → option_map (list_all p) o ≡ Some true → (Q : List StackPart) × (o ≡ Some Q)
all-some p None h = absurd cc
all-some p (Some Q) h = (Q, refl)

pub named-stands : (p : StackPart → Bool) (cs : List TermCell) → AreMade p cs → (i : ℕ) → named_in cs i ≡ stands_in (joined (trees_of (cells_of cs))) i
named-stands p cs m i =
    let q = all-some p (parts_of cs []) m.parts in
    sym (joined-stands i (trees_of (cells_of cs)) ∙ reverse-some i (behind_cells (cells_of cs) []) ∙ cells-stand i cs [] q.0 [] refl q.1 ∙ or-false (named_in cs i))
  where
    or-false : (b : Bool) → (b || false) ≡ b
    or-false true = refl
    or-false false = refl
