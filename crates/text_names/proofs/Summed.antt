-- The seen_items of a `dyn`, summed up from the last on.
use Rattle.std.proofs.Common.{◌≡◌, ℕ, suc, ◌+◌, ◌<◌, ◌≤◌, Bool, true, false, List, [], ◌∷◌, length, map, take, drop, fold, refl, sym, ap, ◌∙◌, cond, arith, ◌++◌, Some}
use Rattle.std.specs.Prelude.{if◌then◌else◌, ◌==◌, not, ◌||◌, ◌&&◌, nat_lt, count_by}
use Rattle.std.specs.List.{list_any}
use Rattle.std.proofs.lemmas.List.{length-map}
use Rattle.text_lines.specs.Cells.{Cell}
use Rattle.text_lines.specs.TypeViews.{cell_of}
use Rattle.text_lines.specs.declared.cell.Cell as code
use Rattle.text_language.specs.Promised.Declarations.{Declarations, known}
use Rattle.text_language.specs.Promised.Faults.{is_auto_name}
use Rattle.text_language.specs.Faults.{is_bound, is_late, binds_auto, others, has_early_lifetime, is_bad_dyn, passes_in}
use Rattle.text_language.specs.Lowering.{inserted, trait_number}
use Rattle.text_language.specs.Uses.{ItemShape, bound_shape, lifetime_shape, dyn_use}
use Rattle.text_names.specs.Machine.{Sight, seen_items, findings, shape_autos, shape_principals}
use Rattle.text_names.specs.Shapes.{Summary, is_bad, no_items, with_shape, with_auto_trait, with_principal, summary}
use Rattle.text_lines.specs.Back.{parts, parts_above, count_above, shape_of}
use Rattle.text_lines.specs.CellSteps.{TakesPart}
use Rattle.text_lines.proofs.Counting.{not-eq, parts-none}
use Rattle.text_lines.proofs.PartsOfCells.{later-more}
use Rattle.text_names.proofs.Walking.{count-within}
use Rattle.text_names.proofs.Judged.{made, one-use, no-look, no-own}

abbrev bound-more : Declarations → Bool → Bool → List ℕ → Summary → Summary
bound-more d a b n x = if a then with_auto_trait b (trait_number (known d n)) x else with_principal x

count-from : (a : ℕ) (is : List ItemShape) → fold (λ s x. s + cond (is_bound x) 1 0) a is ≡ a + count_by is_bound is
count-from a [] = omega arith
count-from a (i ∷ is) =
    let k = cond (is_bound i) 1 0 in
    let h : fold (λ s x. s + cond (is_bound x) 1 0) (a + k) is ≡ a + k + count_by is_bound is = count-from (a + k) is in
    let g : fold (λ s x. s + cond (is_bound x) 1 0) (0 + k) is ≡ 0 + k + count_by is_bound is = count-from (0 + k) is in
    let z : a + k + count_by is_bound is ≡ a + (0 + k + count_by is_bound is) = omega arith in
    h ∙ z ∙ ap (λ j. a + j) (sym g)

bound-counted : (b : Bool) (n : List ℕ) (is : List ItemShape) → count_by is_bound (bound_shape b n ∷ is) ≡ suc (count_by is_bound is)
bound-counted b n is = let h : fold (λ s x. s + cond (is_bound x) 1 0) 1 is ≡ 1 + count_by is_bound is = count-from 1 is in let z : 1 + count_by is_bound is ≡ suc (count_by is_bound is) = omega arith in h ∙ z

pub bounds-counted : (d : Declarations) (is : List ItemShape) → (summary d is).bounds ≡ count_by is_bound is
bounds-counted d [] = refl
bounds-counted d (bound_shape b n ∷ is) = by (is_auto_name d n) (bounds-counted d is) ∙ sym (bound-counted b n is)
  where
    by : (a : Bool) → (summary d is).bounds ≡ count_by is_bound is → (bound-more d a b n (summary d is)).bounds ≡ suc (count_by is_bound is)
    by true e = ap suc e
    by false e = ap suc e
bounds-counted d (lifetime_shape ∷ is) = bounds-counted d is

pub principals-counted : (d : Declarations) (is : List ItemShape) → (summary d is).principals ≡ shape_principals d is
principals-counted d [] = refl
principals-counted d (bound_shape b n ∷ is) = by (is_auto_name d n) (principals-counted d is)
  where
    by : (a : Bool) → (summary d is).principals ≡ shape_principals d is → (bound-more d a b n (summary d is)).principals ≡ (if a then shape_principals d is else suc (shape_principals d is))
    by true e = e
    by false e = ap suc e
principals-counted d (lifetime_shape ∷ is) = principals-counted d is

pub autos-gathered : (d : Declarations) (is : List ItemShape) → (summary d is).autos ≡ shape_autos d is
autos-gathered d [] = refl
autos-gathered d (bound_shape b n ∷ is) = by (is_auto_name d n) (autos-gathered d is)
  where
    by : (a : Bool) → (summary d is).autos ≡ shape_autos d is
        → (bound-more d a b n (summary d is)).autos ≡ (if a then inserted (trait_number (known d n)) (shape_autos d is) else shape_autos d is)
    by true e = ap (inserted (trait_number (known d n))) e
    by false e = e
autos-gathered d (lifetime_shape ∷ is) = autos-gathered d is

has-principal : (d : Declarations) (is : List ItemShape) → (summary d is).has_principal ≡ list_any (is_late d) is
has-principal d [] = refl
has-principal d (bound_shape b n ∷ is) = by (is_auto_name d n) (has-principal d is)
  where
    by : (a : Bool) → (summary d is).has_principal ≡ list_any (is_late d) is → (bound-more d a b n (summary d is)).has_principal ≡ not a || list_any (is_late d) is
    by true e = e
    by false e = refl
has-principal d (lifetime_shape ∷ is) = has-principal d is

has-late : (d : Declarations) (is : List ItemShape) → (summary d is).has_late ≡ list_any (is_late d) (others is)
has-late d [] = refl
has-late d (bound_shape b n ∷ is) = by (is_auto_name d n) (has-principal d is)
  where
    by : (a : Bool) → (summary d is).has_principal ≡ list_any (is_late d) is → (bound-more d a b n (summary d is)).has_late ≡ list_any (is_late d) is
    by true e = e
    by false e = e
has-late d (lifetime_shape ∷ is) = has-principal d is

binds : (d : Declarations) (is : List ItemShape) → (summary d is).binds_auto ≡ list_any (binds_auto d) is
binds d [] = refl
binds d (bound_shape b n ∷ is) = by b (is_auto_name d n) (binds d is)
  where
    by : (b a : Bool) → (summary d is).binds_auto ≡ list_any (binds_auto d) is → (bound-more d a b n (summary d is)).binds_auto ≡ (b && a) || list_any (binds_auto d) is
    by true true e = refl
    by true false e = e
    by false true e = e
    by false false e = e
binds d (lifetime_shape ∷ is) = binds d is

empty : (d : Declarations) (i : ItemShape) (is : List ItemShape) → (summary d (i ∷ is)).is_empty ≡ false
empty d (bound_shape b n) is = by (is_auto_name d n)
  where
    by : (a : Bool) → (bound-more d a b n (summary d is)).is_empty ≡ false
    by true = refl
    by false = refl
empty d lifetime_shape is = refl

early : (d : Declarations) (is : List ItemShape) → (summary d is).has_early_lifetime ≡ has_early_lifetime is
early d [] = refl
early d (lifetime_shape ∷ []) = refl
early d (lifetime_shape ∷ j ∷ is) = ap not (empty d j is)
early d (bound_shape b n ∷ []) = by (is_auto_name d n)
  where
    by : (a : Bool) → (bound-more d a b n no_items).has_early_lifetime ≡ false
    by true = refl
    by false = refl
early d (bound_shape b n ∷ j ∷ is) = by (is_auto_name d n) (early d (j ∷ is))
  where
    by : (a : Bool) → (summary d (j ∷ is)).has_early_lifetime ≡ has_early_lifetime (j ∷ is) → (bound-more d a b n (summary d (j ∷ is))).has_early_lifetime ≡ has_early_lifetime (j ∷ is)
    by true e = e
    by false e = e

-- ---- how many there are
inserted-length : (n : ℕ) (ms : List ℕ) → length (inserted n ms) ≤ suc (length ms)
inserted-length n [] = omega arith
inserted-length n (m ∷ ms) = by (n == m) (nat_lt n m) (inserted-length n ms)
  where
    by : (a b : Bool) → length (inserted n ms) ≤ suc (length ms) → length (if a then m ∷ ms else (if b then n ∷ m ∷ ms else m ∷ inserted n ms)) ≤ suc (suc (length ms))
    by true b h = omega arith
    by false true h = omega arith
    by false false h = omega arith

pub record Within (x : Summary) (k : ℕ) : Type 0 where
  pub bounds : x.bounds ≤ k
  pub cells : x.principals + length x.autos ≤ k

pub all-within : (d : Declarations) (is : List ItemShape) → Within (summary d is) (length is)
all-within d [] = record { bounds = omega arith; cells = omega arith }
all-within d (bound_shape b n ∷ is) = by (is_auto_name d n) (all-within d is)
  where
    by : (a : Bool) → Within (summary d is) (length is) → Within (bound-more d a b n (summary d is)) (suc (length is))
    by true w =
        let x = summary d is in
        let p : x.bounds ≤ length is = w.bounds in
        let q : x.principals + length x.autos ≤ length is = w.cells in
        let l : length (inserted (trait_number (known d n)) x.autos) ≤ suc (length x.autos) = inserted-length (trait_number (known d n)) x.autos in
        record { bounds = omega (arith, p); cells = omega (arith, q, l) }
    by false w =
        let x = summary d is in
        let p : x.bounds ≤ length is = w.bounds in
        let q : x.principals + length x.autos ≤ length is = w.cells in
        record { bounds = omega (arith, p); cells = omega (arith, q) }
all-within d (lifetime_shape ∷ is) =
    let w = all-within d is in
    let x = summary d is in
    let p : x.bounds ≤ length is = w.bounds in
    let q : x.principals + length x.autos ≤ length is = w.cells in
    record { bounds = omega (arith, p); cells = omega (arith, q) }

-- ---- what is wrong with them
bound-none : (is : List ItemShape) → (count_by is_bound is == 0) ≡ not (list_any is_bound is)
bound-none [] = refl
bound-none (bound_shape b n ∷ is) = let h : 0 < suc (count_by is_bound is) = omega arith in ap (λ k. k == 0) (bound-counted b n is) ∙ not-eq (suc (count_by is_bound is)) 0 h
bound-none (lifetime_shape ∷ is) = bound-none is

pub one_dyn : (v : Sight) (is : List ItemShape) (x : Summary) (b : Bool) (k : ℕ) → x ≡ summary (seen_items v) is → b ≡ is_bad x → k ≡ x.bounds → made false false false false false b (nat_lt 64 k) ≡ findings v (dyn_use is ∷ [])
one_dyn v is x b k e f g =
    let d = seen_items v in
    let y = summary d is in
    let bad : b ≡ is_bad_dyn d (dyn_use is) =
    f ∙ ap is_bad e ∙ ap (λ k. (k == 0) || (y.has_late || (y.binds_auto || y.has_early_lifetime))) (bounds-counted d is)
    ∙ ap (λ b. b || (y.has_late || (y.binds_auto || y.has_early_lifetime))) (bound-none is)
    ∙ ap (λ b. not (list_any is_bound is) || (b || (y.binds_auto || y.has_early_lifetime))) (has-late d is)
    ∙ ap (λ b. not (list_any is_bound is) || (list_any (is_late d) (others is) || (b || y.has_early_lifetime))) (binds d is)
    ∙ ap (λ b. not (list_any is_bound is) || (list_any (is_late d) (others is) || (list_any (binds_auto d) is || b))) (early d is) in
    let many : nat_lt 64 k ≡ passes_in (dyn_use is) = ap (nat_lt 64) g ∙ ap (λ z. nat_lt 64 z.bounds) e ∙ ap (nat_lt 64) (bounds-counted d is) in
    one-use v (dyn_use is) false false false false false b (nat_lt 64 k) refl refl (no-look v) refl (no-own v) bad many

-- ---- the parts of a `dyn`, from the last on
pub record Gathered (d : Declarations) (start : ℕ) (self rest : List Cell) (end : ℕ) (x : Summary) : Type 0 where
  pub later : List Cell
  pub so_far : parts start (length rest) rest later ≡ parts_above start self
  pub summed : x ≡ summary d (map shape_of later)
  pub room : length later + length rest ≤ end

pub gathered-more : (d : Declarations) (start : ℕ) (self old new : List Cell) (end : ℕ) (x y : Summary) (c : code.Cell) → TakesPart (Some c) old new → start < length old → length new < length old
    → y ≡ with_shape d (shape_of (cell_of c)) x → Gathered d start self old end x → Gathered d start self new end y
gathered-more d start self old new end x y c t h l e g =
    let r : length g.later + length old ≤ end = g.room in
    record {
      later = cell_of c ∷ g.later;
      so_far = later-more start c old new g.later (parts_above start self) t h g.so_far;
      summed = e ∙ ap (with_shape d (shape_of (cell_of c))) g.summed;
      room = omega (arith, r, l);
    }

pub gathered-all : (d : Declarations) (start : ℕ) (self rest : List Cell) (end : ℕ) (x : Summary) → length rest ≤ start → Gathered d start self rest end x → x ≡ summary d (map shape_of (parts_above start self))
gathered-all d start self rest end x h g = g.summed ∙ ap (λ cs. summary d (map shape_of cs)) (sym (parts-none start (length rest) rest g.later h) ∙ g.so_far)

-- so there is room for one more
pub bounds-room : (d : Declarations) (start : ℕ) (self rest : List Cell) (end m : ℕ) (x : Summary) → Gathered d start self rest end x → 0 < length rest → end < m → x.bounds + 1 < m
bounds-room d start self rest end m x g h k =
    let is = map shape_of g.later in
    let w : (summary d is).bounds ≤ length is = (all-within d is).bounds in
    let e : x.bounds ≡ (summary d is).bounds = ap (λ z. z.bounds) g.summed in
    let l : length is ≡ length g.later = length-map g.later shape_of in
    let r : length g.later + length rest ≤ end = g.room in
    omega (arith, w, e, l, r, h, k)

pub principals-room : (d : Declarations) (start : ℕ) (self rest : List Cell) (end m : ℕ) (x : Summary) → Gathered d start self rest end x → 0 < length rest → end < m → x.principals + 1 < m
principals-room d start self rest end m x g h k =
    let is = map shape_of g.later in
    let w : (summary d is).principals + length (summary d is).autos ≤ length is = (all-within d is).cells in
    let e : x.principals ≡ (summary d is).principals = ap (λ z. z.principals) g.summed in
    let l : length is ≡ length g.later = length-map g.later shape_of in
    let r : length g.later + length rest ≤ end = g.room in
    omega (arith, w, e, l, r, h, k)

-- so many cells stand inside a `dyn`
pub cells-room : (d : Declarations) (start : ℕ) (r : List Cell) (m : ℕ) (x : Summary) → x ≡ summary d (map shape_of (parts_above start r)) → length r + 1 < m → x.principals + (length x.autos + 1) < m
cells-room d start r m x e h =
    let is = map shape_of (parts_above start r) in
    let w : (summary d is).principals + length (summary d is).autos ≤ length is = (all-within d is).cells in
    let f : x.principals ≡ (summary d is).principals = ap (λ z. z.principals) e in
    let g : length x.autos ≡ length (summary d is).autos = ap (λ z. length z.autos) e in
    let l : length is ≡ count_above start r = length-map (parts_above start r) shape_of in
    let c : count_above start r ≤ length r = count-within start r in
    omega (arith, w, f, g, l, c, h)

-- ---- one number among rising ones
abbrev pub Skips : ℕ → ℕ → List ℕ → Type 0
Skips n at xs = inserted n xs ≡ take at xs ++ inserted n (drop at xs)
