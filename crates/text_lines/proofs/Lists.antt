-- The lists of a line, which stand at its end: names of crates, fields, supertraits, where-clauses.
use Rattle.std.proofs.Common.{◌≡◌, ℕ, List, [], ◌∷◌, ◌++◌, None, refl, ap, ◌∙◌, append_assoc}
use Rattle.std.specs.Prelude.{map}
use Rattle.text_language.specs.Words.{comma, plus, open_round, close_round, colon, uses_word, where_word}
use Rattle.text_language.specs.Tokens.{Token, keyword, sign}
use Rattle.text_language.specs.Promised.Syntax.{TypeTree, Types, no_types, and_type, Bound, Clause}
use Rattle.text_language.specs.Syntax.{type_spelling, more_types, more_names, uses_spelling, behind, bound_spelling, clause_spelling, bounds_spelling, where_spelling, fields_spelling}
use Rattle.text_lines.specs.Marks.{after_comma, after_plus, after_colon, after_open_round, after_uses, after_where}
use Rattle.text_lines.specs.TokenSteps.{NoAngle}
use Rattle.text_lines.specs.Cells.{Cell, type_onto}
use Rattle.text_lines.specs.Follows.{IsCompleteType}
use Rattle.text_lines.specs.Statement.{type_span, bound_onto, bound_span, clause_onto, clause_spans, all_onto, all_spans, type_list}
use Rattle.text_lines.specs.Parts.{uses_at, fields_at, bounds_at, further_at, where_at}
use Rattle.text_lines.specs.declared.statement.Span.{Span}
use Rattle.text_lines.proofs.IsPart.{IsPart, recast, before-part, spell_list, list-part, spell_optional, optional-part}
use Rattle.text_lines.proofs.EachMark.{comma-mark, plus-mark, colon-mark, open_round-mark, close_round-mark, uses-mark, where-mark}
use Rattle.text_lines.proofs.Types.{no_cells, itself, cells-kept, places-same, name_spelling, name-part, type-part, bound-part, clause-part}

-- the line ends here
abbrev pub IsEnd : List Token → Type 0
IsEnd [] = Unit {0}
IsEnd (t ∷ ts) = ⊥

pub at-end : (P : List Token → Type 0) → P [] → (r : List Token) → IsEnd r → P r
at-end P h [] e = h
at-end P h (t ∷ r) e = absurd e

-- ---- names behind `uses`
names-spelled : (ns : List (List ℕ)) → behind comma (map name_spelling ns) ≡ more_names ns
names-spelled [] = refl
names-spelled (n ∷ ns) = ap (λ x. sign comma ∷ (name_spelling n ++ x)) (names-spelled ns)

uses-spelled : (ns : List (List ℕ)) → spell_optional (keyword uses_word) (spell_list name_spelling (sign comma)) ns ≡ uses_spelling ns
uses-spelled [] = refl
uses-spelled (n ∷ ns) = ap (λ x. keyword uses_word ∷ (name_spelling n ++ x)) (names-spelled ns)

pub uses-part : IsPart uses_at uses_spelling no_cells itself IsEnd
unfolding uses_at
uses-part =
    recast (λ (ns : List (List ℕ)). ns) (λ ns. ns)
    (optional-part {E = IsEnd} uses-mark (list-part {D = λ r. after_comma r ≡ None} name-part comma-mark (λ r. tt) (λ r h. tt) (λ r h. h))
    (at-end (λ r. after_comma r ≡ None) refl) (at-end (λ r. after_uses r ≡ None) refl))
    uses-spelled (λ ns c. cells-kept ns c) (λ ns c. places-same ns c) (λ ns. refl)

-- ---- fields
types_made : List TypeTree → Types
types_made [] = no_types
types_made (t ∷ ts) = and_type t (types_made ts)

made-list : (ts : List TypeTree) → ts ≡ type_list (types_made ts)
unfolding types_made
made-list [] = refl
made-list (t ∷ ts) = ap (λ x. t ∷ x) (made-list ts)

list-made : (ts : Types) → types_made (type_list ts) ≡ ts
unfolding types_made
list-made no_types = refl
list-made (and_type t ts) = ap (and_type t) (list-made ts)

more-spelled : (ts : List TypeTree) → behind comma (map type_spelling ts) ++ sign close_round ∷ [] ≡ more_types (types_made ts)
unfolding types_made
more-spelled [] = refl
more-spelled (t ∷ ts) = ap (λ x. sign comma ∷ x) (append_assoc (type_spelling t) (behind comma (map type_spelling ts)) (sign close_round ∷ []) ∙ ap (λ x. type_spelling t ++ x) (more-spelled ts))

abbrev closed : TypeTree × List TypeTree → List Token
closed x = spell_list type_spelling (sign comma) x ++ sign close_round ∷ []

fields-spelled : (ts : List TypeTree) → spell_optional (sign open_round) closed ts ≡ fields_spelling (types_made ts)
unfolding types_made
fields-spelled [] = refl
fields-spelled (t ∷ ts) = ap (λ x. sign open_round ∷ x) (append_assoc (type_spelling t) (behind comma (map type_spelling ts)) (sign close_round ∷ []) ∙ ap (λ x. type_spelling t ++ x) (more-spelled ts))

abbrev pub fields_onto : Types → List Cell → List Cell
fields_onto ts c = all_onto type_onto (type_list ts) c

abbrev pub fields_spans : Types → List Cell → List Span
fields_spans ts c = all_spans type_onto type_span (type_list ts) c

-- no type and no comma
abbrev Ends : List Token → Type 0
Ends r = IsCompleteType r × (after_comma r ≡ None)

pub fields-part : IsPart fields_at fields_spelling fields_onto fields_spans IsEnd
unfolding fields_at
fields-part =
    recast types_made type_list
    (optional-part {E = IsEnd} open_round-mark (before-part close_round-mark (list-part {D = Ends} type-part comma-mark (λ r. tt) (λ r h. h.0) (λ r h. h.1)) (λ r. (tt, refl))) (λ r h. tt) (at-end (λ r. after_open_round r ≡ None) refl))
    fields-spelled
    (λ ts c. ap (λ x. all_onto type_onto x c) (made-list ts))
    (λ ts c. ap (λ x. all_spans type_onto type_span x c) (made-list ts))
    list-made

-- ---- supertraits
supers-spelled : (bs : List Bound) → spell_optional (sign colon) (spell_list bound_spelling (sign plus)) bs ≡ bounds_spelling (map bound_spelling bs)
supers-spelled [] = refl
supers-spelled (b ∷ bs) = refl

abbrev pub supers_spelling : List Bound → List Token
supers_spelling bs = bounds_spelling (map bound_spelling bs)

pub bounds-part : IsPart bounds_at supers_spelling (all_onto bound_onto) (all_spans bound_onto bound_span) IsEnd
unfolding bounds_at
bounds-part =
    recast (λ (bs : List Bound). bs) (λ bs. bs)
    (optional-part {E = IsEnd} colon-mark (list-part {D = IsEnd} bound-part plus-mark (λ r. tt) (at-end NoAngle tt) (at-end (λ r. after_plus r ≡ None) refl)) (λ r h. h) (at-end (λ r. after_colon r ≡ None) refl))
    supers-spelled (λ bs c. refl) (λ bs c. refl) (λ bs. refl)

-- ---- the bounds of a query after the first
abbrev pub further_spelling : List Clause → List Token
further_spelling bs = behind comma (map clause_spelling bs)

further-spelled : (bs : List Clause) → spell_optional (sign comma) (spell_list clause_spelling (sign comma)) bs ≡ further_spelling bs
further-spelled [] = refl
further-spelled (b ∷ bs) = refl

-- neither arguments nor another clause
abbrev pub EndsClauses : List Token → Type 0
EndsClauses r = NoAngle r × (after_comma r ≡ None)

pub further-part : IsPart further_at further_spelling (all_onto clause_onto) (all_spans clause_onto clause_spans) EndsClauses
unfolding further_at
further-part =
    recast (λ (bs : List Clause). bs) (λ bs. bs)
    (optional-part {E = EndsClauses} comma-mark (list-part {D = EndsClauses} clause-part comma-mark (λ r. tt) (λ r h. h.0) (λ r h. h.1)) (λ r h. h) (λ r h. h.1))
    further-spelled (λ bs c. refl) (λ bs c. refl) (λ bs. refl)

-- ---- where-clauses
clauses-spelled : (ks : List Clause) → spell_optional (keyword where_word) (spell_list clause_spelling (sign comma)) ks ≡ where_spelling (map clause_spelling ks)
clauses-spelled [] = refl
clauses-spelled (k ∷ ks) = refl

abbrev pub clauses_spelling : List Clause → List Token
clauses_spelling ks = where_spelling (map clause_spelling ks)

pub where-part : IsPart where_at clauses_spelling (all_onto clause_onto) (all_spans clause_onto clause_spans) IsEnd
unfolding where_at
where-part =
    recast (λ (ks : List Clause). ks) (λ ks. ks)
    (optional-part {E = IsEnd} where-mark (list-part {D = IsEnd} clause-part comma-mark (λ r. tt) (at-end NoAngle tt) (at-end (λ r. after_comma r ≡ None) refl)) (λ r h. h) (at-end (λ r. after_where r ≡ None) refl))
    clauses-spelled (λ ks c. refl) (λ ks c. refl) (λ ks. refl)
