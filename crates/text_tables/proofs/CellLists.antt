-- Lists of cells, lowered one after the other.
use Rattle.std.proofs.Common.{◌≡◌, ℕ, zero, suc, ◌<◌, Bool, true, false, ◌&&◌, List, [], ◌∷◌, ◌++◌, length, map, drop, get_or, append-nil, append_assoc, Some, IsSome, refl, sym, ap, ◌∙◌, subst, arith}
use Rattle.std.proofs.lemmas.Option.{same_Some}
use Rattle.std.specs.Prelude.{reverse}
use Rattle.std.specs.List.{list_all}
use Rattle.std.specs.Option.{option_map, option_and_then}
use Rattle.type_terms.specs.Promised.Trees.{◌+++◌}
use Rattle.type_terms.specs.Promised.Handles.{Entry, trees_at}
use Rattle.type_terms.specs.Kinds.{args_trees}
use Rattle.type_terms.specs.declared.kinds.Ty.{Ty}
use Rattle.type_terms.specs.declared.kinds.GenericArgKind.{GenericArgKind}
use Rattle.text_tables.specs.declared.cell.TermCell.{TermCell}
use Rattle.text_tables.specs.TermCells.{behind_cells, trees_of, joined}
use Rattle.text_tables.specs.Made.{StackPart, is_type, is_arg, parts_of, parts_behind, AreMade, CellHeld, CellsHeld}
use Rattle.text_tables.specs.Views.{cells_of}
use Rattle.text_tables.specs.declared.stack.Lowered.{Lowered}
use Rattle.text_tables.specs.declared.stack.Lowered.TheVariants as lowered
use Rattle.type_terms.specs.declared.kinds.Const.{Const}
use Rattle.type_terms.specs.declared.region.Region.{Region}
use Rattle.text_tables.specs.Stack.{pushed_parts, stack_of, part_of, parts_in, tree_of, trees_of_stack, StackHeld, AllParts, lowered_arg, lowered_type}
use Rattle.text_tables.specs.Lowers.{Lowers}
use Rattle.text_tables.proofs.Lowering.{first-made, trees_joined, args-joined, held-pushed}
use Rattle.type_terms.proofs.ListBasics.{rev-cons}

pub drop-all : {A : Type 0} (xs : List A) (i : ℕ) → length xs ≡ i → drop i xs ≡ []
drop-all [] zero e = refl
drop-all [] (suc i) e = refl
drop-all (x ∷ xs) zero e = absurd (omega (arith, e))
drop-all (x ∷ xs) (suc i) e = drop-all xs i (omega (arith, e))

pub cell-held : (cs : List TermCell) (i : ℕ) (c : TermCell) → i < length cs → c ≡ get_or cs i c → CellsHeld cs → CellHeld c
cell-held [] i c h e held = absurd (omega (arith, h))
cell-held (d ∷ cs) zero c h e held = subst CellHeld (sym e) held.0
cell-held (d ∷ cs) (suc i) c h e held = cell-held cs i c (omega (arith, h)) e held.1

-- what is next is made
pub next-made : (c : TermCell) (cs all : List TermCell) (P : List StackPart) → parts_of (c ∷ cs) P ≡ parts_of all [] → IsSome (parts_of all []) → IsSome (parts_behind c P)
next-made c cs all P e some = first-made (parts_of cs) (parts_behind c P) (subst IsSome (sym e) some)

pub parts-further : (c : TermCell) (cs : List TermCell) (old new : List Entry) (S R : List Lowered) (x : Lowered) → Lowers c old new S x R → parts_of cs (map part_of (x ∷ R)) ≡ parts_of (c ∷ cs) (map part_of S)
parts-further c cs old new S R x l = sym (ap (option_and_then (parts_of cs)) l.parts)

pub trees-further : (c : TermCell) (cs : List TermCell) (old new : List Entry) (S R : List Lowered) (x : Lowered) → Lowers c old new S x R
    → behind_cells (cells_of cs) (trees_of_stack new (x ∷ R)) ≡ behind_cells (cells_of (c ∷ cs)) (trees_of_stack old S)
trees-further c cs old new S R x l = sym (ap (behind_cells (cells_of cs)) l.trees)

-- ---- the stack from its bottom
bottom : {A : Type 0} (f : Lowered → A) (xs S : List Lowered) → reverse (map f (pushed_parts xs S)) ≡ reverse (map f S) ++ map f xs
bottom f [] S = sym (append-nil (reverse (map f S)))
bottom f (x ∷ xs) S = bottom f xs (x ∷ S) ∙ ap (λ r. r ++ map f xs) (rev-cons (f x) (map f S)) ∙ append_assoc (reverse (map f S)) (f x ∷ []) (map f xs)

pub from-bottom : {A : Type 0} (f : Lowered → A) (xs : List Lowered) → reverse (map f (stack_of xs)) ≡ map f xs
from-bottom f xs = bottom f xs []

-- the trees of cells are those of the stack, from its bottom
pub trees-bottom : (es : List Entry) (cs : List TermCell) (xs : List Lowered) → behind_cells (cells_of cs) [] ≡ trees_of_stack es (stack_of xs) → map (tree_of es) xs ≡ trees_of (cells_of cs)
trees-bottom es cs xs e = sym (ap reverse e ∙ from-bottom (tree_of es) xs)

types-trees : (es : List Entry) (ts : List Ty) → map (tree_of es) (map lowered_type ts) ≡ map (λ t. trees_at es t.0) ts
types-trees es [] = refl
types-trees es (t ∷ ts) = ap (λ r. trees_at es t.0 ∷ r) (types-trees es ts)

pub types-are : (es : List Entry) (cs : List TermCell) (xs : List Lowered) (ts : List Ty) → behind_cells (cells_of cs) [] ≡ trees_of_stack es (stack_of xs) → map lowered_type ts ≡ xs → map (λ t. trees_at es t.0) ts ≡ trees_of (cells_of cs)
types-are es cs xs ts e same = sym (types-trees es ts) ∙ ap (map (tree_of es)) same ∙ trees-bottom es cs xs e

joined-map : (es : List Entry) (xs : List Lowered) → trees_joined es xs ≡ joined (map (tree_of es) xs)
joined-map es [] = refl
joined-map es (x ∷ xs) = ap (λ o. tree_of es x +++ o) (joined-map es xs)

pub args-are : (es : List Entry) (cs : List TermCell) (xs : List Lowered) (ys : List GenericArgKind) → behind_cells (cells_of cs) [] ≡ trees_of_stack es (stack_of xs) → map lowered_arg ys ≡ xs → args_trees es ys ≡ joined (trees_of (cells_of cs))
args-are es cs xs ys e same = sym (args-joined es ys) ∙ ap (trees_joined es) same ∙ joined-map es xs ∙ ap joined (trees-bottom es cs xs e)

-- ---- what is made
and-both : (a b : Bool) → (a && b) ≡ true → (a ≡ true) × (b ≡ true)
and-both true b e = (refl, e)
and-both false b e = absurd cc

all-pushed : (p : StackPart → Bool) (xs S : List Lowered) → list_all p (map part_of (pushed_parts xs S)) ≡ true → AllParts p xs × (list_all p (map part_of S) ≡ true)
all-pushed p [] S e = (tt, e)
all-pushed p (x ∷ xs) S e =
    let r = all-pushed p xs (x ∷ S) e in
    let b = and-both (p (part_of x)) (list_all p (map part_of S)) r.1 in
    ((b.0, r.0), b.1)

pub all-parts : (p : StackPart → Bool) (cs : List TermCell) (xs : List Lowered) → AreMade p cs → parts_of cs [] ≡ Some (parts_in xs) → AllParts p xs
all-parts p cs xs made e =
    let some : Some (list_all p (parts_in xs)) ≡ Some true = sym (ap (option_map (list_all p)) e) ∙ made.parts in
    let yes : list_all p (parts_in xs) ≡ true = same_Some (list_all p (parts_in xs)) true some in
    (all-pushed p xs [] yes).0

pub stack-held : (es : List Entry) (xs : List Lowered) → StackHeld es (stack_of xs) → StackHeld es xs
stack-held es xs h = (held-pushed es xs [] h).0

-- ---- what stands at a place
pub part-there : (p : StackPart → Bool) (xs : List Lowered) (i : ℕ) (x : Lowered) → i < length xs → x ≡ get_or xs i x → AllParts p xs → p (part_of x) ≡ true
part-there p [] i x h e all = absurd (omega (arith, h))
part-there p (y ∷ xs) zero x h e all = subst (λ z. p (part_of z) ≡ true) (sym e) all.0
part-there p (y ∷ xs) (suc i) x h e all = part-there p xs i x (omega (arith, h)) e all.1

pub no-type : (x : Lowered) → is_type (part_of x) ≡ true → ((t : Ty) → x ≡ lowered.Type t → ⊥) → ⊥
no-type (lowered.Type t) e n = n t refl
no-type (lowered.Const c) e n = absurd cc
no-type (lowered.Lifetime r) e n = absurd cc
no-type (lowered.Principal p) e n = absurd cc
no-type (lowered.Auto t) e n = absurd cc

pub no-arg : (x : Lowered) → is_arg (part_of x) ≡ true → ((t : Ty) → x ≡ lowered.Type t → ⊥) → ((c : Const) → x ≡ lowered.Const c → ⊥) → ((r : Region) → x ≡ lowered.Lifetime r → ⊥) → ⊥
no-arg (lowered.Type t) e n m k = n t refl
no-arg (lowered.Const c) e n m k = m c refl
no-arg (lowered.Lifetime r) e n m k = k r refl
no-arg (lowered.Principal p) e n m k = absurd cc
no-arg (lowered.Auto t) e n m k = absurd cc
