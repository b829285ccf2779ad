-- The cells before an index, and parts that are taken one after the other from the last on.
use Rattle.std.proofs.Common.{◌≡◌, ℕ, zero, suc, ◌+◌, ◌-◌, ◌<◌, ◌≤◌, List, [], ◌∷◌, ◌++◌, map, length, get_or, take, drop, reverse, Option, Some, None, refl, sym, ap, ◌∙◌, arith, length-append}
use Rattle.std.proofs.lemmas.List.{take-append-drop, length-drop, reverse-append, length-reverse}
use Rattle.std.proofs.Math.Seq.{drop-append_seam, take-suc}
use Rattle.text_lines.specs.Cells.{Cell, slice_cell, named_cell, reference_cell, pointer_cell, array_cell, tuple_cell, dyn_cell, fn_cell, fn_to_cell, bound_cell}
use Rattle.text_lines.specs.TypeViews.{cell_of, cells_in, cells_before}
use Rattle.text_lines.specs.declared.cell.Cell as code
use Rattle.text_lines.specs.Back.{begins, parts, parts_above, count_above, down_to}
use Rattle.text_lines.specs.CellSteps.{TakesPart}
use Rattle.text_lines.proofs.Counting.{parts-one, parts-skip, parts-none}

-- ---- the cells before an index
pub get-map : (cs : List code.Cell) (k : ℕ) (d : code.Cell) → get_or (map cell_of cs) k (cell_of d) ≡ cell_of (get_or cs k d)
get-map [] k d = refl
get-map (c ∷ cs) zero d = refl
get-map (c ∷ cs) (suc k) d = get-map cs k d

pub length-cells : (cs : List code.Cell) → length (cells_in cs) ≡ length cs
length-cells [] = refl
length-cells (c ∷ cs) = ap suc (length-cells cs)

one-back : (cs : List code.Cell) (k : ℕ) (d : code.Cell) → k < length cs → cells_before cs (suc k) ≡ cell_of (get_or cs k d) ∷ cells_before cs k
one-back cs k d h =
    let m : length (cells_in cs) ≡ length cs = length-cells cs in
    let l : k < length (cells_in cs) = omega arith in
    ap reverse (take-suc (cells_in cs) k (cell_of d) l) ∙ reverse-append (take k (cells_in cs)) (get_or (cells_in cs) k (cell_of d) ∷ []) ∙ ap (λ c. c ∷ cells_before cs k) (get-map cs k d)

pub cells-next : (cs : List code.Cell) (at : ℕ) (d : code.Cell) → 0 < at → at ≤ length cs → cells_before cs at ≡ cell_of (get_or cs (at - 1) d) ∷ cells_before cs (at - 1)
cells-next cs at d h k =
    let e : at ≡ suc (at - 1) = omega arith in
    let l : at - 1 < length cs = omega arith in
    ap (cells_before cs) e ∙ one-back cs (at - 1) d l

pub length-before : (cs : List code.Cell) (at : ℕ) → at ≤ length cs → length (cells_before cs at) ≡ at
length-before cs at h =
    let m : length (cells_in cs) ≡ length cs = length-cells cs in
    let l : at ≤ length (cells_in cs) = omega arith in
    length-reverse (take at (cells_in cs)) ∙ length-take at (cells_in cs) l
  where
    length-take : {A : Type 0} (n : ℕ) (l : List A) → n ≤ length l → length (take n l) ≡ n
    length-take zero l h = refl
    length-take (suc n) [] h = absurd (omega arith)
    length-take (suc n) (x ∷ l) h = let k : n ≤ length l = omega arith in ap suc (length-take n l k)

take-less : {A : Type 0} (m n : ℕ) (l : List A) → m ≤ n → take m (take n l) ≡ take m l
take-less zero n l h = refl
take-less (suc m) zero l h = absurd (omega arith)
take-less (suc m) (suc n) [] h = refl
take-less (suc m) (suc n) (x ∷ l) h = let k : m ≤ n = omega arith in ap (λ t. x ∷ t) (take-less m n l k)

pub cells-down : (cs : List code.Cell) (start at : ℕ) → start ≤ at → at ≤ length cs → cells_before cs start ≡ down_to start (cells_before cs at)
cells-down cs start at h k =
    let x = take at (cells_in cs) in
    let first : take start x ++ drop start x ≡ x = take-append-drop start x in
    let rest : reverse x ≡ reverse (drop start x) ++ reverse (take start x) = ap reverse (sym first) ∙ reverse-append (take start x) (drop start x) in
    let same : reverse (take start x) ≡ cells_before cs start = ap reverse (take-less start at (cells_in cs) h) in
    let l : length (cells_before cs at) ≡ at = length-before cs at k in
    let m : length (cells_before cs start) ≡ start = length-before cs start (le start at (length cs) h k) in
    let n : length (reverse x) ≡ length (reverse (drop start x)) + length (reverse (take start x)) = ap length rest ∙ length-append (reverse (drop start x)) (reverse (take start x)) in
    let o : length (reverse (take start x)) ≡ start = ap length same ∙ m in
    let p : length (reverse x) - start ≡ length (reverse (drop start x)) = omega arith in
    sym (ap (λ q. drop q (reverse x)) p ∙ ap (drop (length (reverse (drop start x)))) rest ∙ drop-append_seam (reverse (drop start x)) (reverse (take start x)) ∙ same)
  where
    le : (a b c : ℕ) → a ≤ b → b ≤ c → a ≤ c
    le a b c h k = omega arith

-- ---- parts
begins-before : (xs : List Cell) → begins xs ≤ length xs - 1
begins-before [] = omega arith
begins-before (named_cell n start ∷ r) = omega arith
begins-before (tuple_cell start ∷ r) = omega arith
begins-before (dyn_cell start ∷ r) = omega arith
begins-before (fn_cell start inner ∷ r) = omega arith
begins-before (fn_to_cell start inner ∷ r) = omega arith
begins-before (bound_cell n start inner ∷ r) = omega arith
begins-before (reference_cell l m ∷ r) = let h : begins r ≤ length r - 1 = begins-before r in omega arith
begins-before (pointer_cell m ∷ r) = let h : begins r ≤ length r - 1 = begins-before r in omega arith
begins-before (slice_cell ∷ r) = let h : begins r ≤ length r - 1 = begins-before r in omega arith
begins-before (array_cell n ∷ r) = let h : begins r ≤ length r - 1 = begins-before r in omega arith
begins-before (_ ∷ r) = omega arith

length-down : (m : ℕ) (body : List Cell) → m ≤ length body → length (down_to m body) ≡ m
length-down m body h = let e : length body - (length body - m) ≡ m = omega arith in length-drop (length body - m) body ∙ e

part-step : (start : ℕ) (c : Cell) (body later : List Cell) → start < suc (length body)
    → parts start (suc (length body)) (c ∷ body) later ≡ parts start (length (down_to (begins (c ∷ body)) body)) (down_to (begins (c ∷ body)) body) (c ∷ later)
part-step start c body later h =
    let m = begins (c ∷ body) in
    let b : m ≤ suc (length body) - 1 = begins-before (c ∷ body) in
    let k : m ≤ length body = omega arith in
    let ys = take (length body - m) body in
    let new = down_to m body in
    let e : ys ++ new ≡ body = take-append-drop (length body - m) body in
    let l : length new ≡ m = length-down m body k in
    parts-one start c body later h
    ∙ ap (λ n. parts start n body (c ∷ later)) (sym l)
    ∙ ap (λ x. parts start (length new) x (c ∷ later)) (sym e)
    ∙ parts-skip start ys new (c ∷ later)

pub record Counted (start : ℕ) (self rest : List Cell) (count : ℕ) : Type 0 where
  pub later : List Cell
  pub many : length later ≡ count
  pub so_far : parts start (length rest) rest later ≡ parts_above start self

pub counted-more : (r : Option code.Cell) (start : ℕ) (self old new : List Cell) (count : ℕ) → TakesPart r old new → start < length old → Counted start self old count → Counted start self new (count + 1)
counted-more None start self old new count t h k = let z : length old ≡ 0 = ap length t in absurd (omega arith)
counted-more (Some c) start self old new count (body, e, f) h k =
    let l : length old ≡ suc (length body) = ap length e in
    let m : start < suc (length body) = omega arith in
    let g : new ≡ down_to (begins (cell_of c ∷ body)) body = f ∙ ap (λ x. down_to (begins x) body) e in
    let n : suc (length k.later) ≡ count + 1 = let o : length k.later ≡ count = k.many in omega arith in
    record {
      later = cell_of c ∷ k.later;
      many = n;
      so_far = ap (λ x. parts start (length x) x (cell_of c ∷ k.later)) g ∙ sym (part-step start (cell_of c) body k.later m) ∙ sym (ap (λ x. parts start (length x) x k.later) e) ∙ k.so_far;
    }

pub taken-shorter : (r : Option code.Cell) (old new : List Cell) → TakesPart r old new → 0 < length old → length new < length old
taken-shorter None old new t h = let z : length old ≡ 0 = ap length t in absurd (omega arith)
taken-shorter (Some c) old new (body, e, f) h =
    let l : length old ≡ suc (length body) = ap length e in
    let b : begins old ≤ length old - 1 = begins-before old in
    let k : begins old ≤ length body = omega arith in
    let g : length new ≡ begins old = ap length f ∙ length-down (begins old) body k in
    omega arith

pub counted-all : (start : ℕ) (self rest : List Cell) (count : ℕ) → length rest ≤ start → Counted start self rest count → count ≡ count_above start self
counted-all start self rest count h k = sym k.many ∙ ap length (sym (parts-none start (length rest) rest k.later h) ∙ k.so_far)

-- the parts stay the same
pub later-more : (start : ℕ) (c : code.Cell) (old new later whole : List Cell) → TakesPart (Some c) old new → start < length old → parts start (length old) old later ≡ whole → parts start (length new) new (cell_of c ∷ later) ≡ whole
later-more start c old new later whole (body, e, f) h k =
    let l : length old ≡ suc (length body) = ap length e in
    let m : start < suc (length body) = omega arith in
    let g : new ≡ down_to (begins (cell_of c ∷ body)) body = f ∙ ap (λ x. down_to (begins x) body) e in
    ap (λ x. parts start (length x) x (cell_of c ∷ later)) g ∙ sym (part-step start (cell_of c) body later m) ∙ sym (ap (λ x. parts start (length x) x later) e) ∙ k
