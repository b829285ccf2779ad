-- The header of an impl, as it stands among the cells of its line.
use Rattle.std.proofs.Common.{◌≡◌, ℕ, ◌+◌, ◌-◌, ◌≤◌, Bool, false, List, [], ◌∷◌, ◌++◌, length, take, drop, refl, sym, ap, ◌∙◌, arith, subst, Option, Some, None, length-append, append_assoc}
use Rattle.std.specs.Prelude.{slice_get, min, not, ◌||◌, ◌&&◌}
use Rattle.std.specs.List.{list_any}
use Rattle.std.specs.Option.{option_map, option_map_or}
use Rattle.std.proofs.lemmas.Option.{slice_get-map}
use Rattle.std.proofs.lemmas.List.{length-take-le, take-append-drop, take-map, drop-map, drop_min, length-map}
use Rattle.std.proofs.lemmas.List.Folds.{list_any-append}
use Rattle.std.proofs.Math.Seq.{take-append_seam}
use Rattle.type_terms.specs.Promised.Label.{of_type}
use Rattle.text_language.specs.Promised.Syntax.{TypeTree, of_primitive, never_type, variable_type, named, reference_to, pointer_to, slice_of, array_of, tuple_of, fn_of, fn_to, dyn_of, Params, Clause, Line, crate_line, struct_line, trait_line, impl_line, prove_line, refute_line, later_line, supers_line}
use Rattle.text_language.specs.Promised.Declarations.{Declarations, known, impl_owner}
use Rattle.text_language.specs.Uses.{args_uses, type_uses, kinds_of_trait, params_of, header_uses}
use Rattle.text_language.specs.Faults.{has_free_param, implements_built_in, is_built_in, is_foreign_auto, is_name_use, is_own_struct, is_line_param, is_struct_in}
use Rattle.text_language.specs.Promised.Faults.{is_among, is_auto_name}
use Rattle.text_lines.specs.Cells.{Cell, primitive_cell, never_cell, slice_cell, variable_cell, named_cell, reference_cell, pointer_cell, array_cell, tuple_cell, dyn_cell, fn_cell, fn_to_cell, binder_onto, type_onto, types_onto, args_onto, item_onto, items_onto}
use Rattle.text_lines.specs.TypeViews.{cell_of, cells_in}
use Rattle.text_lines.specs.declared.cell.Cell as code
use Rattle.text_lines.specs.Lines.{ReadsLine}
use Rattle.text_lines.specs.Places.{TypeStands, BoundStands}
use Rattle.text_lines.specs.Says.{params_said}
use Rattle.text_lines.specs.Statement.{line_cells, line_statement, header_spans}
use Rattle.text_lines.specs.Views.{statement_of}
use Rattle.text_lines.specs.declared.statement.ClauseSpans.{ClauseSpans}
use Rattle.text_lines.specs.declared.statement.LineRead.{LineRead}
use Rattle.text_lines.specs.declared.statement.Span.{Span}
use Rattle.text_lines.proofs.Standing.{spans-stand}
use Rattle.text_names.specs.Machine.{Sight, seen_items}
use Rattle.text_names.specs.UsedNames.{names_with}
use Rattle.text_names.proofs.UsedLaws.{types_use_names, args_use_names}
use Rattle.text_names.specs.Header.{header_said, trait_of_impl, name_of, last_name, names_own_struct, names_in_header}
use Rattle.text_names.specs.Params.{others_said}
use Rattle.text_names.specs.Speaks.{Speaks}
use Rattle.text_names.proofs.Bare.{same-items, same-params, others-of}
use Rattle.type_terms.proofs.BooleanBasics.{no-more as or-false}

-- ---- the last cell
get-last : (xs : List Cell) (c : Cell) → slice_get (xs ++ c ∷ []) (length xs) ≡ Some c
get-last [] c = refl
get-last (x ∷ xs) c = get-last xs c

last-is : (xs : List Cell) (c : Cell) → last_name (xs ++ c ∷ []) ≡ name_of (Some c)
last-is xs c =
    let n : length (xs ++ c ∷ []) ≡ length xs + 1 = length-append xs (c ∷ []) in
    let e : length (xs ++ c ∷ []) - 1 ≡ length xs = omega arith in
    ap (λ k. name_of (slice_get (xs ++ c ∷ []) k)) e ∙ ap name_of (get-last xs c)

abbrev pub type_name : TypeTree → Option (List ℕ)
type_name (named n args) = Some n
type_name t = None

last-of-type : (t : TypeTree) (o : List Cell) → last_name (type_onto t o) ≡ type_name t
last-of-type (of_primitive p) o = last-is o (primitive_cell p)
last-of-type never_type o = last-is o never_cell
last-of-type (variable_type n) o = last-is o (variable_cell n)
last-of-type (named n args) o = last-is (args_onto args o) (named_cell n (length o))
last-of-type (reference_to l m t) o = last-is (type_onto t o) (reference_cell l m)
last-of-type (pointer_to m t) o = last-is (type_onto t o) (pointer_cell m)
last-of-type (slice_of t) o = last-is (type_onto t o) slice_cell
last-of-type (array_of t n) o = last-is (type_onto t o) (array_cell n)
last-of-type (tuple_of ts) o = last-is (types_onto ts o) (tuple_cell (length o))
last-of-type (fn_of b ts) o = last-is (types_onto ts (binder_onto b o)) (fn_cell (length o) (length (binder_onto b o)))
last-of-type (fn_to b ts r) o = last-is (type_onto r (types_onto ts (binder_onto b o))) (fn_to_cell (length o) (length (binder_onto b o)))
last-of-type (dyn_of i is) o = last-is (items_onto is (item_onto i o)) (dyn_cell (length o))

pub last-stands : (cells : List Cell) (t : TypeTree) (s : Span) → TypeStands cells t s → last_name (take s.end cells) ≡ type_name t
last-stands cells t s h = ap last_name h.2 ∙ last-of-type t (take s.start cells)

-- as the code reads it
pub last-read : (cs front : List code.Cell) (end : ℕ) (o : Option code.Cell) → front ≡ take end cs → o ≡ slice_get front (length front - 1) → name_of (option_map cell_of o) ≡ last_name (take end (cells_in cs))
last-read cs front end o ef eo =
    let m : cells_in front ≡ take end (cells_in cs) = ap cells_in ef ∙ sym (take-map cell_of end cs) in
    ap (λ z. name_of (option_map cell_of z)) eo ∙ ap name_of (sym (slice_get-map cell_of front (length front - 1)))
    ∙ ap (λ k. name_of (slice_get (cells_in front) (k - 1))) (sym (length-map front cell_of)) ∙ ap last_name m

pub between-read : (cs front r : List code.Cell) (start end : ℕ) → front ≡ take end cs → r ≡ drop (min start (length front)) front → cells_in r ≡ drop start (take end (cells_in cs))
between-read cs front r start end ef er =
    ap cells_in (er ∙ drop_min start front ∙ ap (drop start) ef) ∙ sym (drop-map cell_of start (take end cs)) ∙ ap (drop start) (sym (take-map cell_of end cs))

-- ---- an impl that was read
pub record IsImpl (l : Line) (cells : List Cell) (h : ClauseSpans) : Type 0 where
  pub params : Params
  pub header : Clause
  pub clauses : List Clause
  pub is : l ≡ impl_line params header clauses
  pub subject : TypeStands cells header.subject h.subject
  pub bound : BoundStands cells header.bound h.bound

line-impl : (l : Line) (h : ClauseSpans) → Some h ≡ header_said (line_statement l) → IsImpl l (line_cells l) h
line-impl (impl_line ps k ks) h e =
    let same : header_spans k [] ≡ h = cc in
    let at = (spans-stand (impl_line ps k ks)).0 in
    record { params = ps; header = k; clauses = ks; is = refl; subject = subst (λ x. TypeStands (line_cells (impl_line ps k ks)) k.subject x.subject) same at.0; bound = subst (λ x. BoundStands (line_cells (impl_line ps k ks)) k.bound x.bound) same at.1 }
line-impl (crate_line n us) h e = absurd (cc)
line-impl (struct_line f n ps fs) h e = absurd (cc)
line-impl (trait_line f a n ps bs) h e = absurd (cc)
line-impl (prove_line c ps k bs ks) h e = absurd (cc)
line-impl (refute_line c ps k bs) h e = absurd (cc)
line-impl (later_line n) h e = absurd (cc)
line-impl (supers_line n) h e = absurd (cc)

pub read-impl : (l : Line) (r : LineRead) (h : ClauseSpans) → ReadsLine l r → Some h ≡ header_said (statement_of r.statement) → IsImpl l (cells_in r.cells.items) h
read-impl l r h e k = subst (λ z. IsImpl l z h) (sym e.1) (line-impl l h (k ∙ ap header_said e.0))

-- ---- no impl
none-foreign : (d : Declarations) (l : Line) → None ≡ header_said (line_statement l) → false ≡ is_foreign_auto d l
none-foreign d (impl_line ps k ks) e = absurd (cc)
none-foreign d (crate_line n us) e = refl
none-foreign d (struct_line f n ps fs) e = refl
none-foreign d (trait_line f a n ps bs) e = refl
none-foreign d (prove_line c ps k bs ks) e = refl
none-foreign d (refute_line c ps k bs) e = refl
none-foreign d (later_line n) e = refl
none-foreign d (supers_line n) e = refl

none-built : (d : Declarations) (l : Line) → None ≡ header_said (line_statement l) → false ≡ implements_built_in d l
none-built d (impl_line ps k ks) e = absurd (cc)
none-built d (crate_line n us) e = refl
none-built d (struct_line f n ps fs) e = refl
none-built d (trait_line f a n ps bs) e = refl
none-built d (prove_line c ps k bs ks) e = refl
none-built d (refute_line c ps k bs) e = refl
none-built d (later_line n) e = refl
none-built d (supers_line n) e = refl

pub no-foreign : (d : Declarations) (l : Line) (r : LineRead) → ReadsLine l r → None ≡ header_said (statement_of r.statement) → false ≡ is_foreign_auto d l
no-foreign d l r e k = none-foreign d l (k ∙ ap header_said e.0)

pub no-built : (d : Declarations) (l : Line) (r : LineRead) → ReadsLine l r → None ≡ header_said (statement_of r.statement) → false ≡ implements_built_in d l
no-built d l r e k = none-built d l (k ∙ ap header_said e.0)

none-implemented : (l : Line) → None ≡ header_said (line_statement l) → None ≡ trait_of_impl l
none-implemented (impl_line ps k ks) e = absurd (cc)
none-implemented (crate_line n us) e = refl
none-implemented (struct_line f n ps fs) e = refl
none-implemented (trait_line f a n ps bs) e = refl
none-implemented (prove_line c ps k bs ks) e = refl
none-implemented (refute_line c ps k bs) e = refl
none-implemented (later_line n) e = refl
none-implemented (supers_line n) e = refl

pub no-trait : (l : Line) (r : LineRead) → ReadsLine l r → None ≡ header_said (statement_of r.statement) → None ≡ trait_of_impl l
no-trait l r e k = none-implemented l (k ∙ ap header_said e.0)

-- ---- an impl of an auto trait, or of one with built-in rules alone
own-struct : (d : Declarations) (l : Line) (t : TypeTree) → option_map_or (λ n. not (is_line_param l n) && option_map_or (is_struct_in (impl_owner d)) (known d n) false) (type_name t) false ≡ is_own_struct d l t
own-struct d l (named n args) = refl
own-struct d l (of_primitive p) = refl
own-struct d l never_type = refl
own-struct d l (variable_type n) = refl
own-struct d l (reference_to k m t) = refl
own-struct d l (pointer_to m t) = refl
own-struct d l (slice_of t) = refl
own-struct d l (array_of t n) = refl
own-struct d l (tuple_of ts) = refl
own-struct d l (fn_of b ts) = refl
own-struct d l (fn_to b ts r) = refl
own-struct d l (dyn_of i is) = refl

-- in an impl's line nothing more is known than before it
pub impl-items : (v : Sight) (ps : Params) (k : Clause) (ks : List Clause) → Speaks v.line (line_statement (impl_line ps k ks)) → seen_items v ≡ v.before
impl-items v ps k ks e = same-items v (impl_line ps k ks) e

pub foreign-is : (v : Sight) (ps : Params) (k : Clause) (ks : List Clause) (a b : Option (List ℕ)) → Speaks v.line (line_statement (impl_line ps k ks)) → a ≡ Some k.bound.trait → b ≡ type_name k.subject
    → option_map_or (is_auto_name (seen_items v)) a false && not (option_map_or (names_own_struct v) b false) ≡ is_foreign_auto v.before (impl_line ps k ks)
foreign-is v ps k ks a b sp ea eb =
    let l = impl_line ps k ks in
    let d = v.before in
    let own : (z : Declarations) (p : Params) → Bool = λ z p. option_map_or (λ n. not (is_among n (p.types ++ p.consts)) && option_map_or (is_struct_in (impl_owner d)) (known z n) false) (type_name k.subject) false in
    ap (λ z. option_map_or (is_auto_name (seen_items v)) z false && not (option_map_or (names_own_struct v) b false)) ea
    ∙ ap (λ z. is_auto_name (seen_items v) k.bound.trait && not (option_map_or (names_own_struct v) z false)) eb
    ∙ ap (λ z. is_auto_name z k.bound.trait && not (own z (params_of v.line))) (impl-items v ps k ks sp)
    ∙ ap (λ z. is_auto_name d k.bound.trait && not (own d z)) (same-params v l sp)
    ∙ ap (λ z. is_auto_name d k.bound.trait && not z) (own-struct d l k.subject)

pub built-is : (v : Sight) (ps : Params) (k : Clause) (ks : List Clause) (a : Option (List ℕ)) → Speaks v.line (line_statement (impl_line ps k ks)) → a ≡ Some k.bound.trait
    → option_map_or (λ n. option_map_or is_built_in (known (seen_items v) n) false) a false ≡ implements_built_in v.before (impl_line ps k ks)
built-is v ps k ks a sp ea =
    ap (λ z. option_map_or (λ n. option_map_or is_built_in (known (seen_items v) n) false) z false) ea ∙ ap (λ z. option_map_or is_built_in (known z k.bound.trait) false) (impl-items v ps k ks sp)

-- of the line that was read
pub read-foreign : (v : Sight) (l : Line) (r : LineRead) (h : ClauseSpans) (a b : Option (List ℕ)) → Speaks v.line (statement_of r.statement) → ReadsLine l r → Some h ≡ header_said (statement_of r.statement)
    → a ≡ last_name (take h.bound.end (cells_in r.cells.items)) → b ≡ last_name (take h.subject.end (cells_in r.cells.items))
    → option_map_or (is_auto_name (seen_items v)) a false && not (option_map_or (names_own_struct v) b false) ≡ is_foreign_auto v.before l
read-foreign v l r h a b sp e k ea eb =
    let i = read-impl l r h e k in
    let cells = cells_in r.cells.items in
    foreign-is v i.params i.header i.clauses a b (subst (Speaks v.line) (e.0 ∙ ap line_statement i.is) sp) (ea ∙ last-stands cells (named i.header.bound.trait i.header.bound.args) h.bound i.bound) (eb ∙ last-stands cells i.header.subject h.subject i.subject)
    ∙ ap (is_foreign_auto v.before) (sym i.is)

pub read-built : (v : Sight) (l : Line) (r : LineRead) (h : ClauseSpans) (a : Option (List ℕ)) → Speaks v.line (statement_of r.statement) → ReadsLine l r → Some h ≡ header_said (statement_of r.statement)
    → a ≡ last_name (take h.bound.end (cells_in r.cells.items)) → option_map_or (λ n. option_map_or is_built_in (known (seen_items v) n) false) a false ≡ implements_built_in v.before l
read-built v l r h a sp e k ea =
    let i = read-impl l r h e k in
    built-is v i.params i.header i.clauses a (subst (Speaks v.line) (e.0 ∙ ap line_statement i.is) sp) (ea ∙ last-stands (cells_in r.cells.items) (named i.header.bound.trait i.header.bound.args) h.bound i.bound)
    ∙ ap (implements_built_in v.before) (sym i.is)

pub read-trait : (l : Line) (r : LineRead) (h : ClauseSpans) → ReadsLine l r → Some h ≡ header_said (statement_of r.statement) → last_name (take h.bound.end (cells_in r.cells.items)) ≡ trait_of_impl l
read-trait l r h e k =
    let i = read-impl l r h e k in
    last-stands (cells_in r.cells.items) (named i.header.bound.trait i.header.bound.args) h.bound i.bound ∙ ap trait_of_impl (sym i.is)

-- ---- a parameter that isn't in the header
-- the cells but the last
front : (cells xs : List Cell) (c : Cell) (e : ℕ) → e ≤ length cells → take e cells ≡ xs ++ c ∷ [] → take (e - 1) cells ≡ xs
front cells xs c e h k =
    let n : length (take e cells) ≡ e = length-take-le e cells h in
    let m : length (take e cells) ≡ length xs + 1 = ap length k ∙ length-append xs (c ∷ []) in
    let p : e - 1 ≡ length xs = omega arith in
    let whole : cells ≡ xs ++ (c ∷ drop e cells) = sym (take-append-drop e cells) ∙ ap (λ z. z ++ drop e cells) k ∙ append_assoc xs (c ∷ []) (drop e cells) in
    ap (λ j. take j cells) p ∙ ap (take (length xs)) whole ∙ take-append_seam xs (c ∷ drop e cells)

-- where the cells of a type or of a bound begin
begins : (cells : List Cell) (t : TypeTree) (s : Span) → TypeStands cells t s → length (take s.start cells) ≡ s.start
begins cells t s h = let a = h.0 in let b = h.1 in length-take-le s.start cells (omega (arith, a, b))

used-in-header : (d : Declarations) (cells : List Cell) (k : Clause) (h : ClauseSpans) (n : List ℕ) → TypeStands cells k.subject h.subject → BoundStands cells k.bound h.bound → is_among n (names_in_header cells h) ≡ list_any (is_name_use n) (header_uses d k)
used-in-header d cells k h n st bt =
    let o = take h.bound.start cells in
    let q = take h.subject.start cells in
    let ks = kinds_of_trait (known d k.bound.trait) in
    let args = args_uses d [] ks k.bound.args in
    let type = type_uses d [] of_type k.subject in
    let subject = names_with (drop h.subject.start (take h.subject.end cells)) [] in
    let a : take (h.bound.end - 1) cells ≡ args_onto k.bound.args o = front cells (args_onto k.bound.args o) (named_cell k.bound.trait (length o)) h.bound.end bt.1 bt.2 in
    ap (λ z. is_among n (names_with (drop h.bound.start z) subject)) a
    ∙ ap (λ j. is_among n (names_with (drop j (args_onto k.bound.args o)) subject)) (sym (begins cells (named k.bound.trait k.bound.args) h.bound bt))
    ∙ args_use_names d [] ks k.bound.args o n subject
    ∙ ap (λ z. list_any (is_name_use n) args || is_among n (names_with (drop h.subject.start z) [])) st.2
    ∙ ap (λ j. list_any (is_name_use n) args || is_among n (names_with (drop j (type_onto k.subject q)) [])) (sym (begins cells k.subject h.subject st))
    ∙ ap (λ b. list_any (is_name_use n) args || b) (types_use_names d [] of_type k.subject q n [] ∙ or-false (list_any (is_name_use n) type))
    ∙ sym (list_any-append (is_name_use n) args type)

free-params : (d : Declarations) (cells : List Cell) (k : Clause) (h : ClauseSpans) → TypeStands cells k.subject h.subject → BoundStands cells k.bound h.bound → (ns : List (List ℕ))
    → list_any (λ n. not (is_among n (names_in_header cells h))) ns ≡ list_any (λ n. not (list_any (is_name_use n) (header_uses d k))) ns
free-params d cells k h st bt [] = refl
free-params d cells k h st bt (n ∷ ns) =
    ap (λ b. not b || list_any (λ m. not (is_among m (names_in_header cells h))) ns) (used-in-header d cells k h n st bt)
    ∙ ap (λ b. not (list_any (is_name_use n) (header_uses d k)) || b) (free-params d cells k h st bt ns)

-- of the parameters that were read
pub free-is : (d : Declarations) (l : Line) (r : LineRead) (h : ClauseSpans) (ns : List (List ℕ)) → ReadsLine l r → IsImpl l (cells_in r.cells.items) h → ns ≡ others_said (params_said (statement_of r.statement))
    → list_any (λ n. not (is_among n (names_in_header (cells_in r.cells.items) h))) ns ≡ has_free_param d l
free-is d l r h ns e i en =
    let cells = cells_in r.cells.items in
    let line = impl_line i.params i.header i.clauses in
    let names : ns ≡ i.params.types ++ i.params.consts = en ∙ ap (λ s. others_said (params_said s)) (e.0 ∙ ap line_statement i.is) ∙ others-of i.params in
    free-params d cells i.header h i.subject i.bound ns ∙ ap (λ z. list_any (λ n. not (list_any (is_name_use n) (header_uses d i.header))) z) names ∙ ap (has_free_param d) (sym i.is)
