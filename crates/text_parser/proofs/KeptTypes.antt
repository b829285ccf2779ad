-- What is kept of a type, of a bound, and of lists of them.
use Rattle.std.proofs.Common.{◌≡◌, ℕ, zero, suc, ◌+◌, ◌-◌, ◌<◌, ◌≤◌, true, List, [], ◌∷◌, ◌++◌, length, map, take, drop, get_or, drop-cons, Some, refl, sym, ap, ◌∙◌, arith, append_assoc, append-nil, length-append, subst}
use Rattle.std.proofs.lemmas.List.{length-take, length-map, take_all}
use Rattle.std.proofs.lemmas.Option.{same_Some}
use Rattle.std.specs.List.{flat_map}
use Rattle.std.specs.Prelude.{slice_get}
use Rattle.type_terms.specs.Promised.Label.{of_type, of_const, of_lifetime, param}
use Rattle.type_terms.specs.Promised.Trees.{Trees, leaf, ◌+++◌}
use Rattle.type_terms.specs.Promised.Worlds.{Reference}
use Rattle.type_terms.specs.declared.TheConstants.{MAX_INDEX}
use Rattle.text_lines.specs.TokenViews.{primitive_label}
use Rattle.text_lines.specs.declared.token.Primitive.{Primitive}
use Rattle.text_lines.specs.declared.token.Primitive.TheVariants as primitives
use Rattle.text_language.specs.Promised.Syntax.{TypeTree, named, Types, no_types, and_type, Params, Bound, Clause, Line}
use Rattle.text_language.specs.Promised.Declarations.{known, kinds_of}
use Rattle.text_language.specs.Uses.{type_uses, types_uses, bound_uses, params_of, kinds_of_trait}
use Rattle.text_language.specs.Promised.Faults.{with_own}
use Rattle.text_language.specs.Faults.{variable_limit}
use Rattle.text_language.specs.Lowering.{Meanings, trait_number, type_tree, field_trees, args_trees, clause_reference}
use Rattle.text_lines.specs.Faultless.{UsesFit}
use Rattle.text_lines.specs.Cells as cell
use Rattle.text_lines.specs.TypeViews.{cells_in, cell_of}
use Rattle.text_lines.specs.declared.cell.Cell.{Cell}
use Rattle.text_lines.specs.declared.cell.Cell.TheVariants as cells
use Rattle.text_lines.specs.LineParts as line
use Rattle.text_lines.specs.LineParts.{LinePart, clause_parts, PartStands}
use Rattle.text_lines.specs.Statement.{type_list}
use Rattle.text_lines.specs.Places.{TypeStands, EachOf}
use Rattle.text_lines.specs.declared.parts.LinePart as places
use Rattle.text_lines.specs.declared.parts.LinePart.TheVariants as place
use Rattle.text_lines.specs.declared.statement.Span.{Span}
use Rattle.text_names.specs.Machine.{Sight, params}
use Rattle.text_names.specs.Resolved.{type_before, args_before}
use Rattle.text_names.specs.Views.{resolved_in, variable_in}
use Rattle.text_names.specs.declared.parts.ResolvedPart.{ResolvedPart}
use Rattle.text_names.proofs.StandingLaws.{at-type, args_list}
use Rattle.text_tables.specs.TermCells.{trees_of, joined}
use Rattle.text_tables.specs.Made.{StackPart, type_part, is_arg, is_type, AreMade, ReferenceMade, ReferencesMade}
use Rattle.text_tables.specs.Views.{cells_of, reference_of}
use Rattle.text_tables.specs.declared.cell.TermCell.{TermCell}
use Rattle.text_tables.specs.declared.cell.TermCell.TheVariants as term
use Rattle.text_tables.specs.declared.declared.ReferenceCells.{ReferenceCells}
use Rattle.text_tables.proofs.Each.{Every}
use Rattle.text_parser.specs.Keeping.{pushed_on, PutsTrees, AddsCells}
use Rattle.text_parser.specs.Kept.{IsSightOf, HasSmallNumbers, NumberingFits, HasSmallPlaces, IsReadAs, IsOfLine, KeepsType, MeansBound, MeansReference}
use Rattle.text_parser.specs.Laws.{AllOf, ClauseFits}
use Rattle.text_parser.specs.Meant.{FewNames, UsesMean}
use Rattle.text_parser.specs.Numbering.{meanings, first_number, variables_of}
use Rattle.text_parser.specs.declared.numbering.Numbering.{Numbering}
use Rattle.text_parser.specs.declared.numbering.Numbering.TheVariants.{Item, Question}
use Rattle.text_parser.proofs.Fits.{uses-mean, first-fit, last-fit}
use Rattle.text_parser.proofs.KeptCells.{kept-more, kept-trees, kept-made, keeps-none}
use Rattle.text_parser.proofs.Plain.{PlainCell, PlainCells, PlainType, IsPrimitive, type-plain}
use Rattle.text_parser.proofs.Sizes.{type_size, args_size, type-length}
use Rattle.text_parser.proofs.Standing.{args-stand, args-joined, arg_kinds, kinds-pushed, kinds-args}
use Rattle.text_parser.proofs.TypesMade.{Around, type-makes, args-make, number-small}

-- ---- the cells of a line
primitive-plain : (p : Primitive) → IsPrimitive (primitive_label p)
primitive-plain primitives.Bool = tt
primitive-plain primitives.Char = tt
primitive-plain primitives.Str = tt
primitive-plain primitives.I8 = tt
primitive-plain primitives.I16 = tt
primitive-plain primitives.I32 = tt
primitive-plain primitives.I64 = tt
primitive-plain primitives.I128 = tt
primitive-plain primitives.Isize = tt
primitive-plain primitives.U8 = tt
primitive-plain primitives.U16 = tt
primitive-plain primitives.U32 = tt
primitive-plain primitives.U64 = tt
primitive-plain primitives.U128 = tt
primitive-plain primitives.Usize = tt

cell-plain : (c : Cell) → PlainCell (cell_of c)
cell-plain (cells.Primitive p) = primitive-plain p
cell-plain _ = tt

pub cells-plain : (cs : List Cell) → PlainCells (cells_in cs)
cells-plain [] = tt
cells-plain (c ∷ cs) = (cell-plain c, cells-plain cs)

take-plain : (k : ℕ) (cs : List cell.Cell) → PlainCells cs → PlainCells (take k cs)
take-plain zero cs h = tt
take-plain (suc k) [] h = tt
take-plain (suc k) (c ∷ cs) h = (h.0, take-plain k cs h.1)

-- a type that stands among the cells is smaller than they are many, and plain
size-within : (cells : List cell.Cell) (t : TypeTree) (s : Span) → TypeStands cells t s → type_size t ≤ length cells
size-within cells t s h =
    let e : length (take s.end cells) ≡ length (take s.start cells) + type_size t = ap length h.2 ∙ type-length t (take s.start cells) in
    omega (arith, e, length-take s.end cells)

stands-plain : (cells : List cell.Cell) (t : TypeTree) (s : Span) → PlainCells cells → TypeStands cells t s → PlainType t
stands-plain cells t s p h = (type-plain t (take s.start cells) (subst PlainCells h.2 (take-plain s.end cells p))).0

-- so is one that was read from a short line
record FromLine (t : TypeTree) : Type 0 where
  size : type_size t < MAX_INDEX
  plain : PlainType t

from-type : (t : TypeTree) (cells : List Cell) (s : Span) → length cells < MAX_INDEX → TypeStands (cells_in cells) t s → FromLine t
from-type t cells s few st = record {
  size = omega (arith, size-within (cells_in cells) t s st, length-map cells cell_of, few);
  plain = stands-plain (cells_in cells) t s (cells-plain cells) st;
}

short-type : (t : TypeTree) → HasSmallPlaces (line.type_part t) → FromLine t
short-type t (cells, at, few, st) = by at st
  where
    by : (at : places.LinePart) → PartStands (cells_in cells) (line.type_part t) at → FromLine t
    by (place.Type s) st = from-type t cells s few st
    by (place.Bound s) st = absurd st

short-bound : (b : Bound) → HasSmallPlaces (line.bound_part b) → FromLine (named b.trait b.args)
short-bound b (cells, at, few, st) = by at st
  where
    by : (at : places.LinePart) → PartStands (cells_in cells) (line.bound_part b) at → FromLine (named b.trait b.args)
    by (place.Type s) st = absurd st
    by (place.Bound s) st = from-type (named b.trait b.args) cells s few st

-- ---- names
at-items : (v : Sight) (e : Meanings) (l : Line) → IsOfLine v e l → e.items ≡ with_own v.before l
at-items v e l o = o.items ∙ o.sight.items

at-params : (v : Sight) (e : Meanings) (l : Line) → IsOfLine v e l → e.params ≡ params_of l
at-params v e l o = o.params ∙ o.sight.params

-- ---- what is ready
few-params : (p : Params) → length (kinds_of p) ≡ length p.lifetimes + (length p.types + length p.consts)
few-params p =
    omega (
      arith,
      length-append (map (λ _. of_lifetime) p.lifetimes ++ map (λ _. of_type) p.types) (map (λ _. of_const) p.consts),
      length-append (map (λ _. of_lifetime) p.lifetimes) (map (λ _. of_type) p.types),
      length-map p.lifetimes (λ _. of_lifetime),
      length-map p.types (λ _. of_type),
      length-map p.consts (λ _. of_const),
    )

few-by : (n : Numbering) → NumberingFits n → (first_number n ≤ 1) × (length (variables_of n) ≤ variable_limit)
few-by (Item first) h = (h, omega arith)
few-by (Question vs) h = (omega arith, omega (arith, length-map vs.now variable_in, h))

pub few-names : (v : Sight) (n : Numbering) → HasSmallNumbers v n → FewNames (meanings v n)
few-names v n h = let b = few-by n h.numbering in (omega (arith, few-params (params v), h.params, b.0), omega (arith, b.1))

pub line-ready : (v : Sight) (n : Numbering) (l : Line) → HasSmallNumbers v n → IsSightOf v l → IsOfLine v (meanings v n) l
line-ready v n l h s = record { sight = s; items = refl; params = refl; few = few-names v n h; numbers = h.numbers }

-- ---- a type
pub type-kept : (v : Sight) (e : Meanings) (r : ResolvedPart) (old new : List TermCell) → AddsCells e (map resolved_in r.cells.items) old new → KeepsType v e r old new
type-kept v e r old new adds l t o is u ts xs k =
    let from = short-type t is.1 in
    let same : map resolved_in r.cells.items ≡ type_before e.items e.params [] of_type t [] =
    is.0 ∙ ap (λ d. type_before d (params v) [] of_type t []) (sym o.items) ∙ ap (λ ps. type_before e.items ps [] of_type t []) (sym o.params) in
    let room : 0 + type_size t < MAX_INDEX = omega (arith, from.size) in
    let around : Around e [] (type_size t) = record { few = o.few; numbers = o.numbers; short = tt; room = room } in
    let w = with_own v.before l in
    let uses : UsesMean e (type_uses e.items [] of_type t) =
    subst (λ d. UsesMean e (type_uses d [] of_type t)) (sym (at-items v e l o)) (uses-mean e v.before l (type_uses w [] of_type t) (at-items v e l o) (at-params v e l o) u) in
    kept-more e (type_before e.items e.params [] of_type t []) old new (type_tree e [] of_type t ∷ []) (type_part ∷ [])
    (subst (λ cs. AddsCells e cs old new) same adds)
    (λ S. type-makes e [] t [] S (type_part ∷ S) around from.plain uses refl)
    (λ S. at-type e [] of_type t [] S) ts xs k

-- ---- a bound
pub bound-kept : (v : Sight) (e : Meanings) (f : ResolvedPart) (self : List TermCell) (r : ReferenceCells)
    → AddsCells e (map resolved_in f.cells.items) self r.args.items → (f.trait_number < MAX_INDEX → r.trait_id.index ≡ f.trait_number) → MeansBound v e f self r
bound-kept v e f self r adds small l b t o is u k =
    let from = short-bound b is.1 in
    let ks = kinds_of_trait (known e.items b.trait) in
    let same : map resolved_in f.cells.items ≡ args_before e.items e.params [] ks b.args [] =
    is.0.0 ∙ ap (λ d. args_before d (params v) [] (kinds_of_trait (known d b.trait)) b.args []) (sym o.items) ∙ ap (λ ps. args_before e.items ps [] ks b.args []) (sym o.params) in
    let number : f.trait_number ≡ trait_number (known e.items b.trait) = is.0.1 ∙ ap (λ d. trait_number (known d b.trait)) (sym o.items) in
    let fits : f.trait_number < MAX_INDEX = subst (λ n. n < MAX_INDEX) (sym number) (number-small e b.trait o.numbers) in
    let room : 0 + args_size b.args < MAX_INDEX = omega (arith, from.size) in
    let around : Around e [] (args_size b.args) = record { few = o.few; numbers = o.numbers; short = tt; room = room } in
    let w = with_own v.before l in
    let all : UsesMean e (bound_uses e.items b) = subst (λ d. UsesMean e (bound_uses d b)) (sym (at-items v e l o)) (uses-mean e v.before l (bound_uses w b) (at-items v e l o) (at-params v e l o) u) in
    let kept : PutsTrees r.args.items (t ∷ args_list e [] ks b.args) (type_part ∷ arg_kinds ks b.args) =
    kept-more e (args_before e.items e.params [] ks b.args []) self r.args.items (args_list e [] ks b.args) (arg_kinds ks b.args)
    (subst (λ cs. AddsCells e cs self r.args.items) same adds)
    (λ S. args-make e [] ks b.args [] S (pushed_on (arg_kinds ks b.args) S) around from.plain all.1 (kinds-pushed ks b.args S))
    (λ S. args-stand e [] ks b.args [] S) (t ∷ []) (type_part ∷ []) k in
    let trees : joined (trees_of (cells_of r.args.items)) ≡ t +++ args_trees e [] ks b.args = ap joined (kept-trees r.args.items _ _ kept) ∙ ap (λ x. t +++ x) (args-joined e [] ks b.args) in
    (reference-same r (trait_number (known e.items b.trait)) (t +++ args_trees e [] ks b.args) (small fits ∙ number) trees, kept-made is_arg r.args.items _ _ kept (refl, kinds-args ks b.args))
  where
    reference-same : (r : ReferenceCells) (n : ℕ) (x : Trees) → r.trait_id.index ≡ n → joined (trees_of (cells_of r.args.items)) ≡ x → reference_of r ≡ record { trait = n; args = x }
    reference-same r n x e g = ap (λ m. record { trait = m; args = joined (trees_of (cells_of r.args.items)) }) e ∙ ap (λ y. record { trait = n; args = y }) g

-- ---- a clause
pub reference-kept : (v : Sight) (e : Meanings) (s b : ResolvedPart) (self : List TermCell) (r : ReferenceCells) → KeepsType v e s [] self → MeansBound v e b self r → MeansReference v e s b r
reference-kept v e s b self r subject bound l k o is at f = bound l k.bound (type_tree e [] of_type k.subject) o at f.1 (subject l k.subject o is f.0 [] [] keeps-none)

-- what stands at a place, and behind it
one-front : {A : Type 0} (all : List A) (i : ℕ) (d x : A) → i < length all → x ≡ get_or all i d → drop i all ≡ x ∷ drop (i + 1) all
one-front all i d x h same =
    let s : suc i ≡ i + 1 = omega arith in
    drop-cons all i d h ∙ ap (λ j. get_or all i d ∷ drop j all) s ∙ ap (λ z. z ∷ drop (i + 1) all) (sym same)

-- ---- the loop over the fields of a struct
pub record Fields (v : Sight) (e : Meanings) (l : Line) (fs : Types) (rest : List ResolvedPart) (kept : List TermCell) : Type 0 where
  pub done : List Trees
  pub parts : List StackPart
  pub behind : Types
  pub whole : field_trees e fs ≡ done ++ field_trees e behind
  pub stand : EachOf (IsReadAs v) (map line.type_part (type_list behind)) rest
  pub fit : UsesFit v.before l (types_uses (with_own v.before l) [] behind)
  pub are : Every (λ x. is_type x ≡ true) parts
  pub keeps : PutsTrees kept done parts

pub fields-start : (v : Sight) (e : Meanings) (l : Line) (fs : Types) (rs : List ResolvedPart) → EachOf (IsReadAs v) (map line.type_part (type_list fs)) rs → UsesFit v.before l (types_uses (with_own v.before l) [] fs)
    → (kept : List TermCell) → kept ≡ [] → Fields v e l fs rs kept
fields-start v e l fs rs st f kept z = record { done = []; parts = []; behind = fs; whole = refl; stand = st; fit = f; are = tt; keeps = subst (λ x. PutsTrees x [] []) (sym z) keeps-none }

every-push : (xs : List StackPart) (x : StackPart) → Every (λ y. is_type y ≡ true) xs → is_type x ≡ true → Every (λ y. is_type y ≡ true) (xs ++ x ∷ [])
every-push [] x h q = (q, tt)
every-push (y ∷ ys) x h q = (h.0, every-push ys x h.1 q)

pub fields-on : (v : Sight) (e : Meanings) (l : Line) (fs : Types) (s : ResolvedPart) (rest : List ResolvedPart) (old new : List TermCell) → IsOfLine v e l → KeepsType v e s old new
    → Fields v e l fs (s ∷ rest) old → Fields v e l fs rest new
fields-on v e l fs s rest old new o keeps f = by f.behind f.whole f.stand f.fit
  where
    by : (behind : Types) → field_trees e fs ≡ f.done ++ field_trees e behind → EachOf (IsReadAs v) (map line.type_part (type_list behind)) (s ∷ rest) → UsesFit v.before l (types_uses (with_own v.before l) [] behind) → Fields v e l fs rest new
    by no_types w st u = absurd st
    by (and_type t ts) w st u = record {
      done = f.done ++ type_tree e [] of_type t ∷ [];
      parts = f.parts ++ type_part ∷ [];
      behind = ts;
      whole = w ∙ sym (append_assoc f.done (type_tree e [] of_type t ∷ []) (field_trees e ts));
      stand = st.1;
      fit = last-fit v.before l (type_uses (with_own v.before l) [] of_type t) (types_uses (with_own v.before l) [] ts) u;
      are = every-push f.parts type_part f.are refl;
      keeps = keeps l t o st.0 (first-fit v.before l (type_uses (with_own v.before l) [] of_type t) (types_uses (with_own v.before l) [] ts) u) f.done f.parts f.keeps;
    }

pub fields-at : (v : Sight) (e : Meanings) (l : Line) (fs : Types) (all : List ResolvedPart) (i : ℕ) (d s : ResolvedPart) (old new : List TermCell) → i < length all → s ≡ get_or all i d → IsOfLine v e l → KeepsType v e s old new
    → Fields v e l fs (drop i all) old → Fields v e l fs (drop (i + 1) all) new
fields-at v e l fs all i d s old new h same o keeps f = fields-on v e l fs s (drop (i + 1) all) old new o keeps (subst (λ z. Fields v e l fs z old) (one-front all i d s h same) f)

pub fields-end : (v : Sight) (e : Meanings) (l : Line) (fs : Types) (kept : List TermCell) → Fields v e l fs [] kept → (trees_of (cells_of kept) ≡ field_trees e fs) × AreMade is_type kept
fields-end v e l fs kept f = by f.behind f.whole f.stand
  where
    by : (behind : Types) → field_trees e fs ≡ f.done ++ field_trees e behind → EachOf (IsReadAs v) (map line.type_part (type_list behind)) [] → (trees_of (cells_of kept) ≡ field_trees e fs) × AreMade is_type kept
    by no_types w st = (kept-trees kept f.done f.parts f.keeps ∙ sym (w ∙ append-nil f.done), kept-made is_type kept f.done f.parts f.keeps f.are)
    by (and_type t ts) w st = absurd st

made-each : (xs : List ReferenceCells) → Every ReferenceMade xs → ReferencesMade xs
made-each [] h = λ k x e. absurd cc
made-each (y ∷ xs) h = λ k. elim k as (λ j. (x : ReferenceCells) → slice_get (y ∷ xs) j ≡ Some x → ReferenceMade x) [
  | zero ↦ λ x e. subst ReferenceMade (same_Some y x e) h.0
  | suc j ↦ λ x e. made-each xs h.1 j x e
]

map-push : {A B : Type 0} (h : A → B) (xs : List A) (x : A) → map h (xs ++ x ∷ []) ≡ map h xs ++ h x ∷ []
map-push h [] x = refl
map-push h (z ∷ xs) x = ap (λ w. h z ∷ w) (map-push h xs x)

made-push : (xs : List ReferenceCells) (x : ReferenceCells) → Every ReferenceMade xs → ReferenceMade x → Every ReferenceMade (xs ++ x ∷ [])
made-push [] x h q = (q, tt)
made-push (z ∷ xs) x h q = (h.0, made-push xs x h.1 q)

-- ---- the loop over bounds
pub record References {T Y : Type 0} (Stands : T → Y → Type 0) (Fits : T → Type 0) (f : T → Reference) (all : List T) (rest : List Y) (rs : List ReferenceCells) : Type 0 where
  pub done : List T
  pub behind : List T
  pub whole : all ≡ done ++ behind
  pub stand : EachOf Stands behind rest
  pub fit : AllOf Fits behind
  pub same : map reference_of rs ≡ map f done
  pub made : Every ReferenceMade rs

pub references-start : {T Y : Type 0} (Stands : T → Y → Type 0) (Fits : T → Type 0) (f : T → Reference) (all : List T) (rest : List Y) → EachOf Stands all rest → AllOf Fits all → (rs : List ReferenceCells) → rs ≡ [] → References Stands Fits f all rest rs
references-start Stands Fits f all rest st u rs z = record { done = []; behind = all; whole = refl; stand = st; fit = u; same = ap (map reference_of) z; made = subst (Every ReferenceMade) (sym z) tt }

pub references-on : {T Y : Type 0} (Stands : T → Y → Type 0) (Fits : T → Type 0) (f : T → Reference) (all : List T) (y : Y) (rest : List Y) (rs : List ReferenceCells) (r : ReferenceCells)
    → ((t : T) → Stands t y → Fits t → (reference_of r ≡ f t) × ReferenceMade r) → References Stands Fits f all (y ∷ rest) rs → References Stands Fits f all rest (rs ++ r ∷ [])
references-on {T} {Y} Stands Fits f all y rest rs r one g = by g.behind g.whole g.stand g.fit
  where
    by : (behind : List T) → all ≡ g.done ++ behind → EachOf Stands behind (y ∷ rest) → AllOf Fits behind → References Stands Fits f all rest (rs ++ r ∷ [])
    by [] w st u = absurd st
    by (t ∷ ts) w st u =
        let o = one t st.0 u.0 in
        record {
          done = g.done ++ t ∷ [];
          behind = ts;
          whole = w ∙ sym (append_assoc g.done (t ∷ []) ts);
          stand = st.1;
          fit = u.1;
          same = map-push reference_of rs r ∙ ap (λ z. z ++ reference_of r ∷ []) g.same ∙ ap (λ z. map f g.done ++ z ∷ []) o.0 ∙ sym (map-push f g.done t);
          made = made-push rs r g.made o.1;
        }

pub references-at : {T Y : Type 0} (Stands : T → Y → Type 0) (Fits : T → Type 0) (f : T → Reference) (all : List T) (ys : List Y) (i : ℕ) (d y : Y) (rs new : List ReferenceCells) (r : ReferenceCells) → i < length ys → y ≡ get_or ys i d
    → new ≡ rs ++ r ∷ [] → ((t : T) → Stands t y → Fits t → (reference_of r ≡ f t) × ReferenceMade r) → References Stands Fits f all (drop i ys) rs → References Stands Fits f all (drop (i + 1) ys) new
references-at Stands Fits f all ys i d y rs new r h same b one g =
    subst (References Stands Fits f all (drop (i + 1) ys)) (sym b) (references-on Stands Fits f all y (drop (i + 1) ys) rs r one (subst (λ z. References Stands Fits f all z rs) (one-front ys i d y h same) g))

-- Self of a trait
pub self-kept : (cs : List TermCell) → cs ≡ term.Param 0 ∷ [] → PutsTrees cs (leaf (param of_type 0) ∷ []) (type_part ∷ [])
self-kept cs z = subst (λ x. PutsTrees x (leaf (param of_type 0) ∷ []) (type_part ∷ [])) (sym z) (record { held = (tt, tt); trees = λ S. refl; parts = λ S. refl })

pub references-end : {T Y : Type 0} (Stands : T → Y → Type 0) (Fits : T → Type 0) (f : T → Reference) (all : List T) (rs : List ReferenceCells) → References Stands Fits f all [] rs → (map reference_of rs ≡ map f all) × ReferencesMade rs
references-end {T} {Y} Stands Fits f all rs g = by g.behind g.whole g.stand
  where
    by : (behind : List T) → all ≡ g.done ++ behind → EachOf Stands behind [] → (map reference_of rs ≡ map f all) × ReferencesMade rs
    by [] w st = (g.same ∙ ap (map f) (sym (w ∙ append-nil g.done)), made-each rs g.made)
    by (t ∷ ts) w st = absurd st

-- the first two, and those behind them
pub two-first : {A : Type 0} (xs : List A) (x y d e : A) → 2 ≤ length xs → x ≡ get_or xs 0 d → y ≡ get_or xs 1 e → xs ≡ x ∷ y ∷ take (length xs - 2) (drop 2 xs)
two-first [] x y d e h p q = absurd (omega (arith, h))
two-first (a ∷ []) x y d e h p q = absurd (omega (arith, h))
two-first (a ∷ b ∷ r) x y d e h p q =
    let n : length r ≤ suc (suc (length r)) - 2 = omega arith in
    ap (λ z. z ∷ b ∷ r) (sym p) ∙ ap (λ z. x ∷ z ∷ r) (sym q) ∙ ap (λ z. x ∷ y ∷ z) (sym (take_all (suc (suc (length r)) - 2) r n))

-- bounds, one part each
pub bounds-read : (v : Sight) (bs : List Bound) (rs : List ResolvedPart) → EachOf (IsReadAs v) (map line.bound_part bs) rs → EachOf (λ b r. IsReadAs v (line.bound_part b) r) bs rs
bounds-read v [] [] h = tt
bounds-read v [] (r ∷ rs) h = absurd h
bounds-read v (b ∷ bs) [] h = absurd h
bounds-read v (b ∷ bs) (r ∷ rs) h = (h.0, bounds-read v bs rs h.1)

-- ---- the loop over clauses, two parts each
pub record Clauses (v : Sight) (e : Meanings) (l : Line) (ks : List Clause) (rest : List ResolvedPart) (rs : List ReferenceCells) : Type 0 where
  pub done : List Clause
  pub behind : List Clause
  pub whole : ks ≡ done ++ behind
  pub stand : EachOf (IsReadAs v) (flat_map clause_parts behind) rest
  pub fit : AllOf (ClauseFits v.before l) behind
  pub same : map reference_of rs ≡ map (clause_reference e) done
  pub made : Every ReferenceMade rs

pub clauses-start : (v : Sight) (e : Meanings) (l : Line) (ks : List Clause) (rest : List ResolvedPart) → EachOf (IsReadAs v) (flat_map clause_parts ks) rest → AllOf (ClauseFits v.before l) ks
    → (rs : List ReferenceCells) → rs ≡ [] → Clauses v e l ks rest rs
clauses-start v e l ks rest st u rs z = record { done = []; behind = ks; whole = refl; stand = st; fit = u; same = ap (map reference_of) z; made = subst (Every ReferenceMade) (sym z) tt }

pub clauses-on : (v : Sight) (e : Meanings) (l : Line) (ks : List Clause) (s b : ResolvedPart) (rest : List ResolvedPart) (rs new : List ReferenceCells) (r : ReferenceCells) → IsOfLine v e l → MeansReference v e s b r → new ≡ rs ++ r ∷ []
    → Clauses v e l ks (s ∷ b ∷ rest) rs → Clauses v e l ks rest new
clauses-on v e l ks s b rest rs new r o means n g = subst (Clauses v e l ks rest) (sym n) (by g.behind g.whole g.stand g.fit)
  where
    by : (behind : List Clause) → ks ≡ g.done ++ behind → EachOf (IsReadAs v) (flat_map clause_parts behind) (s ∷ b ∷ rest) → AllOf (ClauseFits v.before l) behind → Clauses v e l ks rest (rs ++ r ∷ [])
    by [] w st u = absurd st
    by (k ∷ more) w st u =
        let one = means l k o st.0 st.1.0 u.0 in
        record {
          done = g.done ++ k ∷ [];
          behind = more;
          whole = w ∙ sym (append_assoc g.done (k ∷ []) more);
          stand = st.1.1;
          fit = u.1;
          same = map-push reference_of rs r ∙ ap (λ z. z ++ reference_of r ∷ []) g.same ∙ ap (λ z. map (clause_reference e) g.done ++ z ∷ []) one.0 ∙ sym (map-push (clause_reference e) g.done k);
          made = made-push rs r g.made one.1;
        }

-- fewer than two parts are left
pub clauses-end : (v : Sight) (e : Meanings) (l : Line) (ks : List Clause) (rest : List ResolvedPart) (rs : List ReferenceCells) → length rest < 2 → Clauses v e l ks rest rs → (map reference_of rs ≡ map (clause_reference e) ks) × ReferencesMade rs
clauses-end v e l ks rest rs few g = by g.behind rest g.whole g.stand few
  where
    by : (behind : List Clause) (rest : List ResolvedPart) → ks ≡ g.done ++ behind → EachOf (IsReadAs v) (flat_map clause_parts behind) rest → length rest < 2 → (map reference_of rs ≡ map (clause_reference e) ks) × ReferencesMade rs
    by [] rest w st few = (g.same ∙ ap (map (clause_reference e)) (sym (w ∙ append-nil g.done)), made-each rs g.made)
    by (k ∷ more) [] w st few = absurd st
    by (k ∷ more) (x ∷ []) w st few = absurd st.1
    by (k ∷ more) (x ∷ y ∷ rest) w st few = absurd (omega (arith, few))
