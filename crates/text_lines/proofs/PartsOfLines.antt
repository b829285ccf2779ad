-- The parts of a line stand where its statement says, and it uses what they use.
use Rattle.std.proofs.Common.{◌≡◌, ℕ, List, [], ◌∷◌, ◌++◌, refl, sym, ap, ◌∙◌, append_assoc, append-nil, arith}
use Rattle.std.specs.Prelude.{map, max}
use Rattle.std.specs.List.{flat_map}
use Rattle.type_terms.specs.Promised.Label.{of_type}
use Rattle.text_language.specs.Promised.Syntax.{TypeTree, Types, no_types, and_type, Bound, Clause, Line, crate_line, struct_line, trait_line, impl_line, prove_line, refute_line, later_line, supers_line}
use Rattle.text_language.specs.Promised.Declarations.{Declarations}
use Rattle.text_language.specs.Uses.{crate_use, type_uses, types_uses, bound_uses, clause_uses, type_depth, types_depth, bound_depth, clause_depth, greatest_number}
use Rattle.text_lines.specs.Cells.{Cell}
use Rattle.text_lines.specs.Statement.{Statement, crate_statement, struct_statement, trait_statement, impl_statement, prove_statement, refute_statement, later_statement, supers_statement, type_list, line_cells, line_statement}
use Rattle.text_lines.specs.Places.{TypeStands, BoundStands, ClauseStands, EachOf, LineStands}
use Rattle.text_lines.specs.LineParts.{LinePart, type_part, bound_part, clause_parts, line_parts, type_place, bound_place, clause_places, places_in, PartStands, PartsStand, part_uses, part_depth, UsesOfParts, AskedOfParts, DepthOfParts}
use Rattle.text_lines.specs.declared.statement.Span.{Span}
use Rattle.text_lines.specs.declared.statement.ClauseSpans.{ClauseSpans}
use Rattle.text_lines.proofs.Standing.{spans-stand}
use Rattle.text_lines.proofs.Basics.{clauses-use}

-- ---- where they stand
types-stand : (cells : List Cell) (ts : List TypeTree) (ss : List Span) → EachOf (TypeStands cells) ts ss → EachOf (PartStands cells) (map type_part ts) (map type_place ss)
types-stand cells [] [] e = tt
types-stand cells (t ∷ ts) (s ∷ ss) e = (e.0, types-stand cells ts ss e.1)
types-stand cells [] (s ∷ ss) e = absurd e
types-stand cells (t ∷ ts) [] e = absurd e

bounds-stand : (cells : List Cell) (bs : List Bound) (ss : List Span) → EachOf (BoundStands cells) bs ss → EachOf (PartStands cells) (map bound_part bs) (map bound_place ss)
bounds-stand cells [] [] e = tt
bounds-stand cells (b ∷ bs) (s ∷ ss) e = (e.0, bounds-stand cells bs ss e.1)
bounds-stand cells [] (s ∷ ss) e = absurd e
bounds-stand cells (b ∷ bs) [] e = absurd e

pub clauses-stand : (cells : List Cell) (ks : List Clause) (ss : List ClauseSpans) → EachOf (ClauseStands cells) ks ss → EachOf (PartStands cells) (flat_map clause_parts ks) (flat_map clause_places ss)
clauses-stand cells [] [] e = tt
clauses-stand cells (k ∷ ks) (s ∷ ss) e = (e.0.0, (e.0.1, clauses-stand cells ks ss e.1))
clauses-stand cells [] (s ∷ ss) e = absurd e
clauses-stand cells (k ∷ ks) [] e = absurd e

each-append : {T Y : Type 0} (P : T → Y → Type 0) (us : List T) (zs : List Y) (ts : List T) (ys : List Y) → EachOf P ts ys → EachOf P us zs → EachOf P (ts ++ us) (ys ++ zs)
each-append P us zs [] [] e f = f
each-append P us zs (t ∷ ts) (y ∷ ys) e f = (e.0, each-append P us zs ts ys e.1 f)
each-append P us zs [] (y ∷ ys) e f = absurd e
each-append P us zs (t ∷ ts) [] e f = absurd e

pub line-parts-stand : (cells : List Cell) (l : Line) (s : Statement) → LineStands cells l s → EachOf (PartStands cells) (line_parts l) (places_in s)
line-parts-stand cells (crate_line n us) (crate_statement m vs) e = tt
line-parts-stand cells (struct_line f n ps ts) (struct_statement g m qs ss) e = types-stand cells (type_list ts) ss e
line-parts-stand cells (trait_line f a n ps bs) (trait_statement g b m qs ss) e = bounds-stand cells bs ss e
line-parts-stand cells (impl_line ps h ks) (impl_statement qs i ss) e = (e.0.1, (e.0.0, clauses-stand cells ks ss e.1))
line-parts-stand cells (prove_line c ps k bs ks) (prove_statement d qs i js ss) e =
    each-append (PartStands cells) (flat_map clause_parts ks) (flat_map clause_places ss) (flat_map clause_parts (k ∷ bs)) (flat_map clause_places (i ∷ js)) (clauses-stand cells (k ∷ bs) (i ∷ js) e.0) (clauses-stand cells ks ss e.1)
line-parts-stand cells (refute_line c ps k bs) (refute_statement d qs i js) e = clauses-stand cells (k ∷ bs) (i ∷ js) e
line-parts-stand cells (later_line n) (later_statement m) e = tt
line-parts-stand cells (supers_line n) (supers_statement m) e = tt
line-parts-stand cells _ _ e = absurd e

pub parts-stand : PartsStand
parts-stand l = line-parts-stand (line_cells l) l (line_statement l) (spans-stand l)

-- ---- what a line uses
types-use : (d : Declarations) (ts : Types) → types_uses d [] ts ≡ flat_map (part_uses d) (map type_part (type_list ts))
types-use d no_types = refl
types-use d (and_type t ts) = ap (λ x. type_uses d [] of_type t ++ x) (types-use d ts)

bounds-use : (d : Declarations) (bs : List Bound) → flat_map (bound_uses d) bs ≡ flat_map (part_uses d) (map bound_part bs)
bounds-use d [] = refl
bounds-use d (b ∷ bs) = ap (λ x. bound_uses d b ++ x) (bounds-use d bs)

clauses-both : (d : Declarations) (bs ks : List Clause) → flat_map (clause_uses d) bs ++ flat_map (clause_uses d) ks ≡ flat_map (part_uses d) (flat_map clause_parts bs ++ flat_map clause_parts ks)
clauses-both d [] ks = clauses-use d ks
clauses-both d (b ∷ bs) ks =
    let s = type_uses d [] of_type b.subject in
    let more = flat_map (clause_uses d) bs ++ flat_map (clause_uses d) ks in
    append_assoc (s ++ bound_uses d b.bound) (flat_map (clause_uses d) bs) (flat_map (clause_uses d) ks) ∙ append_assoc s (bound_uses d b.bound) more
    ∙ ap (λ x. s ++ (bound_uses d b.bound ++ x)) (clauses-both d bs ks)

pub uses-of-parts : UsesOfParts
uses-of-parts d (crate_line n us) = sym (append-nil (map crate_use us))
uses-of-parts d (later_line n) = refl
uses-of-parts d (supers_line n) = refl
uses-of-parts d (struct_line f n ps ts) = types-use d ts
uses-of-parts d (trait_line f a n ps bs) = bounds-use d bs
uses-of-parts d (impl_line ps h ks) =
    append_assoc (bound_uses d h.bound) (type_uses d [] of_type h.subject) (flat_map (clause_uses d) ks)
    ∙ ap (λ x. bound_uses d h.bound ++ (type_uses d [] of_type h.subject ++ x)) (clauses-use d ks)
uses-of-parts d (prove_line c ps k bs ks) = ap (λ x. crate_use c ∷ x) (clauses-both d (k ∷ bs) ks)
uses-of-parts d (refute_line c ps k bs) = ap (λ x. crate_use c ∷ x) (clauses-use d (k ∷ bs))

pub asked-of-parts : AskedOfParts
asked-of-parts d (prove_line c ps k bs ks) = clauses-use d (k ∷ bs)
asked-of-parts d (refute_line c ps k bs) = clauses-use d (k ∷ bs)
asked-of-parts d (crate_line n us) = refl
asked-of-parts d (later_line n) = refl
asked-of-parts d (supers_line n) = refl
asked-of-parts d (struct_line f n ps ts) = refl
asked-of-parts d (trait_line f a n ps bs) = refl
asked-of-parts d (impl_line ps h ks) = refl

-- ---- how deep it is
max-assoc : (a b c : ℕ) → max (max a b) c ≡ max a (max b c)
max-assoc a b c = omega arith

max-first : (a b c : ℕ) → max (max a b) c ≡ max b (max a c)
max-first a b c = omega arith

zero-max : (a : ℕ) → max 0 a ≡ a
zero-max a = omega arith

greatest-both : (d : Declarations) (xs ys : List LinePart) → max (greatest_number (map (part_depth d) xs)) (greatest_number (map (part_depth d) ys)) ≡ greatest_number (map (part_depth d) (xs ++ ys))
greatest-both d [] ys = zero-max (greatest_number (map (part_depth d) ys))
greatest-both d (x ∷ xs) ys =
    max-assoc (part_depth d x) (greatest_number (map (part_depth d) xs)) (greatest_number (map (part_depth d) ys)) ∙ ap (max (part_depth d x)) (greatest-both d xs ys)

types-deep : (d : Declarations) (ts : Types) → types_depth d ts ≡ greatest_number (map (part_depth d) (map type_part (type_list ts)))
types-deep d no_types = refl
types-deep d (and_type t ts) = ap (max (type_depth d t)) (types-deep d ts)

bounds-deep : (d : Declarations) (bs : List Bound) → greatest_number (map (bound_depth d) bs) ≡ greatest_number (map (part_depth d) (map bound_part bs))
bounds-deep d [] = refl
bounds-deep d (b ∷ bs) = ap (max (bound_depth d b)) (bounds-deep d bs)

clauses-deep : (d : Declarations) (ks : List Clause) → greatest_number (map (clause_depth d) ks) ≡ greatest_number (map (part_depth d) (flat_map clause_parts ks))
clauses-deep d [] = refl
clauses-deep d (k ∷ ks) = ap (max (clause_depth d k)) (clauses-deep d ks) ∙ max-assoc (type_depth d k.subject) (bound_depth d k.bound) (greatest_number (map (part_depth d) (flat_map clause_parts ks)))

pub depth-of-parts : DepthOfParts
depth-of-parts d (crate_line n us) = refl
depth-of-parts d (later_line n) = refl
depth-of-parts d (supers_line n) = refl
depth-of-parts d (struct_line f n ps ts) = types-deep d ts
depth-of-parts d (trait_line f a n ps bs) = bounds-deep d bs
depth-of-parts d (impl_line ps h ks) =
    ap (max (clause_depth d h)) (clauses-deep d ks) ∙ max-first (type_depth d h.subject) (bound_depth d h.bound) (greatest_number (map (part_depth d) (flat_map clause_parts ks)))
depth-of-parts d (prove_line c ps k bs ks) =
    ap (λ n. max n (greatest_number (map (clause_depth d) ks))) (clauses-deep d (k ∷ bs))
    ∙ ap (max (greatest_number (map (part_depth d) (flat_map clause_parts (k ∷ bs))))) (clauses-deep d ks)
    ∙ greatest-both d (flat_map clause_parts (k ∷ bs)) (flat_map clause_parts ks)
depth-of-parts d (refute_line c ps k bs) = clauses-deep d (k ∷ bs)
