-- The types and bounds that a query asks stand first.
use Rattle.std.proofs.Common.{◌≡◌, ◌≤◌, ℕ, ◌+◌, ◌*◌, ◌-◌, List, [], ◌∷◌, ◌++◌, length, take, drop, refl, sym, ap, ◌∙◌, arith, subst, append-nil}
use Rattle.std.specs.Prelude.{min}
use Rattle.std.specs.List.{flat_map}
use Rattle.std.proofs.lemmas.List.{length-append, length-drop, take_all}
use Rattle.text_language.specs.Promised.Syntax.{Line, crate_line, struct_line, trait_line, impl_line, prove_line, refute_line, later_line, supers_line}
use Rattle.text_lines.specs.Cells.{Cell}
use Rattle.text_lines.specs.TypeViews.{cells_in}
use Rattle.text_lines.specs.LineParts.{LinePart, clause_parts, line_parts, clause_places, PartStands, places_in, asked_parts}
use Rattle.text_lines.specs.Lines.{ReadsLine}
use Rattle.text_lines.specs.Places.{EachOf}
use Rattle.text_lines.specs.Statement.{Statement, line_cells, line_statement, clause_spans, clause_onto, all_onto, all_spans}
use Rattle.text_lines.specs.declared.statement.ClauseSpans.{ClauseSpans}
use Rattle.text_lines.specs.Views.{statement_of}
use Rattle.text_lines.specs.declared.statement.LineRead.{LineRead}
use Rattle.text_lines.specs.declared.parts.LinePart as places
use Rattle.text_lines.proofs.PartsOfLines.{clauses-stand, parts-stand}
use Rattle.text_lines.proofs.Standing.{spans-stand}
use Rattle.text_names.specs.LineFound.{other_parts, asked_bounds}

-- what is left behind a place, as slices count it
pub rest-is : {X : Type 0} (k : ℕ) (xs : List X) → take (length xs - k) (drop k xs) ≡ drop k xs
rest-is k xs = let n : length (drop k xs) ≤ length xs - k = omega (arith, length-drop k xs) in take_all (length xs - k) (drop k xs) n

abbrev pub Split : List Cell → List LinePart → List LinePart → ℕ → List places.LinePart → Type 0
Split cells ps qs k ys = EachOf (PartStands cells) ps (take k ys) × EachOf (PartStands cells) qs (drop k ys)

none-asked : (cells : List Cell) (ps : List LinePart) (ys : List places.LinePart) → EachOf (PartStands cells) ps ys → Split cells [] ps (min 0 (length ys)) ys
none-asked cells ps ys h = let e : min 0 (length ys) ≡ 0 = omega arith in subst (λ k. Split cells [] ps k ys) (sym e) (tt, h)

first-taken : {X : Type 0} (xs ys : List X) → take (length xs) (xs ++ ys) ≡ xs
first-taken [] ys = refl
first-taken (x ∷ xs) ys = ap (λ z. x ∷ z) (first-taken xs ys)

first-dropped : {X : Type 0} (xs ys : List X) → drop (length xs) (xs ++ ys) ≡ ys
first-dropped [] ys = refl
first-dropped (x ∷ xs) ys = first-dropped xs ys

places-counted : (js : List ClauseSpans) → length (flat_map clause_places js) ≡ 2 * length js
places-counted [] = refl
places-counted (j ∷ js) = let e : length (flat_map clause_places js) ≡ 2 * length js = places-counted js in omega (arith, e)

bounds-asked : (cells : List Cell) (ps qs : List LinePart) (js : List ClauseSpans) (ys : List places.LinePart) → EachOf (PartStands cells) ps (flat_map clause_places js) → EachOf (PartStands cells) qs ys
    → Split cells ps qs (min (2 * length js) (length (flat_map clause_places js ++ ys))) (flat_map clause_places js ++ ys)
bounds-asked cells ps qs js ys f g =
    let xs : List places.LinePart = flat_map clause_places js in
    let n : length xs ≡ 2 * length js = places-counted js in
    let m : length (xs ++ ys) ≡ length xs + length ys = length-append xs ys in
    let k : min (2 * length js) (length (xs ++ ys)) ≡ length xs = omega (arith, n, m) in
    subst (λ z. Split cells ps qs z (xs ++ ys)) (sym k)
    (subst (λ z. EachOf (PartStands cells) ps z) (sym (first-taken xs ys)) f, subst (λ z. EachOf (PartStands cells) qs z) (sym (first-dropped xs ys)) g)

abbrev SplitOf : Line → Statement → Type 0
SplitOf l s = Split (line_cells l) (asked_parts l) (other_parts l) (min (2 * asked_bounds s) (length (places_in s))) (places_in s)

line-split : (l : Line) → SplitOf l (line_statement l)
line-split (crate_line n us) = none-asked (line_cells (crate_line n us)) (line_parts (crate_line n us)) (places_in (line_statement (crate_line n us))) (parts-stand (crate_line n us))
line-split (later_line n) = none-asked (line_cells (later_line n)) (line_parts (later_line n)) (places_in (line_statement (later_line n))) (parts-stand (later_line n))
line-split (supers_line n) = none-asked (line_cells (supers_line n)) (line_parts (supers_line n)) (places_in (line_statement (supers_line n))) (parts-stand (supers_line n))
line-split (struct_line f n ps fs) = none-asked (line_cells (struct_line f n ps fs)) (line_parts (struct_line f n ps fs)) (places_in (line_statement (struct_line f n ps fs))) (parts-stand (struct_line f n ps fs))
line-split (trait_line f a n ps bs) = none-asked (line_cells (trait_line f a n ps bs)) (line_parts (trait_line f a n ps bs)) (places_in (line_statement (trait_line f a n ps bs))) (parts-stand (trait_line f a n ps bs))
line-split (impl_line ps h ks) = none-asked (line_cells (impl_line ps h ks)) (line_parts (impl_line ps h ks)) (places_in (line_statement (impl_line ps h ks))) (parts-stand (impl_line ps h ks))
line-split (prove_line c ps k bs ks) =
    let l : Line = prove_line c ps k bs ks in
    let cells = line_cells l in
    let e = spans-stand l in
    let js : List ClauseSpans = all_spans clause_onto clause_spans (k ∷ bs) [] in
    let ss : List ClauseSpans = all_spans clause_onto clause_spans ks (all_onto clause_onto (k ∷ bs) []) in
    bounds-asked cells (flat_map clause_parts (k ∷ bs)) (flat_map clause_parts ks) js (flat_map clause_places ss) (clauses-stand cells (k ∷ bs) js e.0) (clauses-stand cells ks ss e.1)
line-split (refute_line c ps k bs) =
    let l : Line = refute_line c ps k bs in
    let cells = line_cells l in
    let js : List ClauseSpans = all_spans clause_onto clause_spans (k ∷ bs) [] in
    subst (λ z. Split cells (flat_map clause_parts (k ∷ bs)) [] (min (2 * length js) (length z)) z) (append-nil (flat_map clause_places js))
    (bounds-asked cells (flat_map clause_parts (k ∷ bs)) [] js [] (clauses-stand cells (k ∷ bs) js (spans-stand l)) tt)

-- what was read
pub read-split : (l : Line) (r : LineRead) (k : ℕ) (ys : List places.LinePart) → ReadsLine l r → k ≡ min (2 * asked_bounds (statement_of r.statement)) (length ys) → ys ≡ places_in (statement_of r.statement)
    → Split (cells_in r.cells.items) (asked_parts l) (other_parts l) k ys
read-split l r k ys h ek ey =
    let s = statement_of r.statement in
    let count : k ≡ min (2 * asked_bounds s) (length (places_in s)) = ek ∙ ap (λ z. min (2 * asked_bounds s) (length z)) ey in
    subst (λ z. Split (cells_in r.cells.items) (asked_parts l) (other_parts l) k z) (sym ey)
    (subst (λ z. Split (cells_in r.cells.items) (asked_parts l) (other_parts l) z (places_in s)) (sym count)
    (subst (λ z. Split (cells_in r.cells.items) (asked_parts l) (other_parts l) (min (2 * asked_bounds z) (length (places_in z))) (places_in z)) (sym h.0)
    (subst (λ z. Split z (asked_parts l) (other_parts l) (min (2 * asked_bounds (line_statement l)) (length (places_in (line_statement l)))) (places_in (line_statement l))) (sym h.1) (line-split l))))
