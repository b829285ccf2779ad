-- What comes of the lists of a line with types, one after the other.
use Rattle.std.proofs.Common.{◌≡◌, ℕ, ◌+◌, ◌-◌, ◌≤◌, ◌<◌, List, [], ◌∷◌, length, map, take, drop, get_or, fold, Option, Some, None, Result, Ok, Err, IfOk, refl, sym, ap, ◌∙◌, subst, arith, sub-one}
use Rattle.std.proofs.Math.Seq.{take-length}
use Rattle.std.proofs.lemmas.List.{length-map}
use Rattle.std.specs.Global.{Vec}
use Rattle.std.specs.Option.{option_or}
use Rattle.text_language.specs.Promised.Syntax.{Line}
use Rattle.text_language.specs.Promised.Declarations.{Declarations}
use Rattle.text_language.specs.Syntax.{spelling}
use Rattle.text_language.specs.Faults.{fault_of}
use Rattle.text_language.specs.Adding.{added}
use Rattle.text_language.specs.Text.{first_of}
use Rattle.text_lines.specs.Lines.{ReadsLine}
use Rattle.text_lines.specs.Pieces.{lists_in, pieces_tokens}
use Rattle.text_lines.specs.Statement.{line_cells}
use Rattle.text_lines.specs.TypeViews.{cell_of}
use Rattle.text_lines.specs.declared.line_lists.Piece.{Piece}
use Rattle.text_lines.specs.declared.statement.LineRead.{LineRead}
use Rattle.text_names.specs.FaultNumbers.{fault_number}
use Rattle.text_names.specs.declared.fault.FaultKind.{FaultKind}
use Rattle.text_tables.specs.Numbered.{IsFew}
use Rattle.text_parser.specs.Declaring.{IsRead, FindsFault, AddsLine}
use Rattle.text_parser.specs.Lists.{IsShortList, AreShortLists, HasRoom, ComesTo, TakesList, TakesLists}
use Rattle.text_parser.proofs.Few.{added-few, few-weaken}

-- ---- one list
-- what was read of a list is the line that it spells
pub list-read : {X : Type 0} (list : List Piece) (read : LineRead) (r : Result LineRead X)
    → ((l : Line) → pieces_tokens list ≡ spelling l → IfOk r (λ x. ReadsLine l x)) → r ≡ Ok read → (l : Line) → pieces_tokens list ≡ spelling l → ReadsLine l read
list-read list read r only is l s = subst (λ x. IfOk x (λ y. ReadsLine l y)) is (only l s)

pub list-is-read : (list : List Piece) (read : LineRead) → ((l : Line) → pieces_tokens list ≡ spelling l → ReadsLine l read) → IsShortList list → IsRead read
list-is-read list read reads (l, s, few) = (l, reads l s)

pub list-cells : (list : List Piece) (read : LineRead) → ((l : Line) → pieces_tokens list ≡ spelling l → ReadsLine l read) → IsShortList list → length read.cells.items ≤ 67108864
list-cells list read reads (l, s, few) =
    let short : length (line_cells l) ≤ 67108864 = few in
    let r = reads l s in
    omega (arith, ap length r.1, length-map read.cells.items cell_of, short)

pub list-gives : {X : Type 0} (d e : Declarations) (list : List Piece) (read : LineRead) (r : Result (Option FaultKind) X)
    → ((l : Line) → pieces_tokens list ≡ spelling l → ReadsLine l read) → IfOk r (λ found. FindsFault d read found) → IfOk r (λ found. found ≡ None → AddsLine d read e)
    → IfOk r (λ found. TakesList d list found e)
list-gives d e list read (Ok (Some k)) reads finds new = λ l s. sym (finds l (reads l s))
list-gives d e list read (Ok None) reads finds new = λ l s. (sym (finds l (reads l s)), new refl l (reads l s))
list-gives d e list read (Err x) reads finds new = tt

-- the same list
pub at-items : (d e : Declarations) (o : Option FaultKind) (xs ys : List Piece) → xs ≡ ys → TakesList d xs o e → TakesList d ys o e
at-items d e o xs ys is h = subst (λ (p : List Piece). TakesList d p o e) is h

-- ---- one list after the other
same-ends : {A : Type 0} {x y : A} {xs ys : List A} → x ∷ xs ≡ y ∷ ys → (x ≡ y) × (xs ≡ ys)
same-ends e = (cc, cc)

none-in : (d : Declarations) (ls : List Line) → [] ≡ map spelling ls → ComesTo None d (first_of d ls) (fold added d ls)
none-in d [] s = (refl, refl)
none-in d (l ∷ ls) s = absurd cc

after-first : (d e f : Declarations) (v : Vec Piece) (vs : List (Vec Piece)) (found : Option FaultKind)
    → TakesList d v.items None e → TakesLists e vs found f → (ls : List Line) → lists_in (v ∷ vs) ≡ map spelling ls → ComesTo found f (first_of d ls) (fold added d ls)
after-first d e f v vs found this more [] s = absurd cc
after-first d e f v vs found this more (l ∷ ls) s =
    let ends = same-ends s in
    let here : (fault_of d l ≡ None) × (e ≡ added d l) = this l ends.0 in
    subst (λ (o : Option ℕ). ComesTo found f (option_or o (first_of (added d l) ls)) (fold added (added d l) ls)) (sym here.0)
    (subst (λ (x : Declarations). ComesTo found f (first_of x ls) (fold added x ls)) here.1 (more ls ends.1))

at-first : (d e f : Declarations) (v : Vec Piece) (vs : List (Vec Piece)) (k : FaultKind)
    → TakesList d v.items (Some k) e → (ls : List Line) → lists_in (v ∷ vs) ≡ map spelling ls → ComesTo (Some k) f (first_of d ls) (fold added d ls)
at-first d e f v vs k this [] s = absurd cc
at-first d e f v vs k this (l ∷ ls) s =
    let ends = same-ends s in
    let here : fault_of d l ≡ Some (fault_number k) = this l ends.0 in
    ap (λ (o : Option ℕ). option_or o (first_of (added d l) ls)) here

-- the first of the lists, and the others
pub one-first : {A : Type 0} (xs : List A) (x d : A) → 1 ≤ length xs → x ≡ get_or xs 0 d → xs ≡ x ∷ take (length xs - 1) (drop 1 xs)
one-first [] x d n e = absurd (omega arith)
one-first (y ∷ ys) x d n e =
    let rest : take (length (y ∷ ys) - 1) (drop 1 (y ∷ ys)) ≡ ys = rw sub-one (take-length ys) in
    ap (λ z. z ∷ ys) (sym e) ∙ ap (λ z. x ∷ z) (sym rest)

pub short-first : (xs others : List (Vec Piece)) (v : Vec Piece) → xs ≡ v ∷ others → AreShortLists xs → IsShortList v.items × AreShortLists others
short-first xs others v split h = subst (λ (x : List (Vec Piece)). AreShortLists x) split h

pub room-now : (d : Declarations) (n : ℕ) → HasRoom d n → IsFew d 67108928
room-now d n (k, f, h) =
    let room : k + n ≤ 67108928 = h in
    few-weaken d k 67108928 (omega (arith, room)) f

pub room-left : (d e : Declarations) (xs others : List (Vec Piece)) (v : Vec Piece) (o : Option FaultKind)
    → xs ≡ v ∷ others → TakesList d v.items o e → o ≡ None → IsShortList v.items → HasRoom d (length xs) → HasRoom e (length others)
room-left d e xs others v o split this none (l, s, w) (k, f, h) =
    let new : (fault_of d l ≡ None) × (e ≡ added d l) = subst (λ (x : Option FaultKind). TakesList d v.items x e) none this l s in
    let room : k + length xs ≤ 67108928 = h in
    let left : k + 1 + length others ≤ 67108928 = omega (arith, room, ap length split) in
    (k + 1, subst (λ (x : Declarations). IsFew x (k + 1)) (sym new.1) (added-few d l k f), left)

pub taken-first : (d e f : Declarations) (xs others : List (Vec Piece)) (v : Vec Piece) (o found : Option FaultKind)
    → xs ≡ v ∷ others → TakesList d v.items o e → o ≡ None → TakesLists e others found f → TakesLists d xs found f
taken-first d e f xs others v o found split this none more = λ ls s.
    after-first d e f v others found (subst (λ (x : Option FaultKind). TakesList d v.items x e) none this) more ls (sym (ap (λ (x : List (Vec Piece)). lists_in x) split) ∙ s)

pub fault-first : (d e : Declarations) (xs others : List (Vec Piece)) (v : Vec Piece) (o : Option FaultKind) (k : FaultKind)
    → xs ≡ v ∷ others → TakesList d v.items o e → o ≡ Some k → TakesLists d xs (Some k) e
fault-first d e xs others v o k split this is = λ ls s.
    at-first d e e v others k (subst (λ (x : Option FaultKind). TakesList d v.items x e) is this) ls (sym (ap (λ (x : List (Vec Piece)). lists_in x) split) ∙ s)

pub none-left : (d : Declarations) (xs : List (Vec Piece)) → length xs < 1 → TakesLists d xs None d
none-left d [] few = λ ls s. none-in d ls s
none-left d (v ∷ vs) few = absurd (omega (arith, few))
