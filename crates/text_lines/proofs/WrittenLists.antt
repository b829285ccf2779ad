-- The lists of a line with types, and its kinds of line: what is read is spelled so, and what is spelled so is read.
use Rattle.std.proofs.Common.{◌≡◌, ℕ, Bool, List, [], ◌∷◌, ◌++◌, None, refl, ap, ◌∙◌, append_assoc}
use Rattle.std.specs.Prelude.{map}
use Rattle.text_language.specs.Words.{comma, plus, colon, semicolon, open_brace, close_brace, where_word, in_word, type_word}
use Rattle.text_language.specs.Tokens.{Token, keyword, name, sign}
use Rattle.text_language.specs.Promised.Syntax.{Params, Clause, Binding, WrittenBound, WrittenClause}
use Rattle.text_language.specs.Syntax.{type_spelling, params_spelling, bounds_spelling, where_spelling, behind, after_each, binding_spelling, written_bound_spelling, written_clause_spelling, in_braces}
use Rattle.text_lines.specs.Marks.{after_comma, after_plus, after_colon, after_where, after_open_angle, after_open_brace, after_semicolon, after_type}
use Rattle.text_lines.specs.Cells.{Cell}
use Rattle.text_lines.specs.Follows.{IsCompleteType}
use Rattle.text_lines.specs.Statement.{param_list, all_onto, all_spans}
use Rattle.text_lines.specs.Parts.{Part, before_mark, name_at}
use Rattle.text_lines.specs.WrittenParts.{BindingTokens, BoundTokens, ClauseTokens, trait_tokens, impl_tokens, prove_tokens, refute_tokens, binding_at, bounds_tokens_at, further_tokens_at, where_tokens_at, in_braces_at, types_at, given_at, trait_tokens_at, impl_tokens_at, prove_tokens_at, refute_tokens_at}
use Rattle.text_lines.specs.WrittenLines.{binding_tokens, bound_tokens, clause_tokens}
use Rattle.text_lines.proofs.IsPart.{IsPart, Any, spell_both, both-part, given-part, behind-part, before-part, recast, spell_list, list-part, spell_optional, optional-part}
use Rattle.text_lines.proofs.EachMark.{comma-mark, plus-mark, colon-mark, where-mark, in-mark, semicolon-mark, open_brace-mark, close_brace-mark, type-mark}
use Rattle.text_lines.proofs.Types.{no_cells, itself, cells-kept, places-same, name_spelling, name-part, header_spelling, type-no-angle}
use Rattle.text_lines.proofs.ParamOrder.{NotAngle, params-part}
use Rattle.text_lines.proofs.Lists.{IsEnd, at-end}
use Rattle.text_lines.proofs.WrittenTypes.{placed-map, binding_onto, binding_place, binding-part, written_onto, bound-tokens-part, written_clause_onto, clause-tokens-part, plain_header_onto, plain_header_place, header-tokens-part}

-- ---- bounds, with `+` between each two
abbrev pub EndsBounds : List Token → Type 0
EndsBounds r = NotAngle r × (after_plus r ≡ None) × (after_colon r ≡ None)

abbrev pub supers_tokens_spelling : List WrittenBound → List Token
supers_tokens_spelling bs = bounds_spelling (map written_bound_spelling bs)

bounds-spelled : (bs : List WrittenBound) → spell_optional (sign colon) (spell_list written_bound_spelling (sign plus)) bs ≡ supers_tokens_spelling bs
bounds-spelled [] = refl
bounds-spelled (b ∷ bs) = refl

abbrev pub bounds_place : List WrittenBound → List Cell → List BoundTokens
bounds_place bs c = map bound_tokens bs

pub bounds-tokens-part : IsPart bounds_tokens_at supers_tokens_spelling (all_onto written_onto) bounds_place EndsBounds
unfolding bounds_tokens_at
bounds-tokens-part =
    recast (λ (bs : List WrittenBound). bs) (λ bs. bs)
    (optional-part {E = EndsBounds} colon-mark (list-part {D = EndsBounds} bound-tokens-part plus-mark (λ r. refl) (λ r h. h.0) (λ r h. h.1)) (λ r h. h) (λ r h. h.2))
    bounds-spelled (λ bs c. refl) (λ bs c. placed-map written_onto bound_tokens bs c) (λ bs. refl)

-- ---- clauses
abbrev pub EndsFurther : List Token → Type 0
EndsFurther r = NotAngle r × (after_comma r ≡ None)

abbrev pub further_tokens_spelling : List WrittenClause → List Token
further_tokens_spelling ks = behind comma (map written_clause_spelling ks)

abbrev pub clauses_place : List WrittenClause → List Cell → List ClauseTokens
clauses_place ks c = map clause_tokens ks

further-spelled : (ks : List WrittenClause) → spell_optional (sign comma) (spell_list written_clause_spelling (sign comma)) ks ≡ further_tokens_spelling ks
further-spelled [] = refl
further-spelled (k ∷ ks) = refl

pub further-tokens-part : IsPart further_tokens_at further_tokens_spelling (all_onto written_clause_onto) clauses_place EndsFurther
unfolding further_tokens_at
further-tokens-part =
    recast (λ (ks : List WrittenClause). ks) (λ ks. ks)
    (optional-part {E = EndsFurther} comma-mark (list-part {D = EndsFurther} clause-tokens-part comma-mark (λ r. refl) (λ r h. h.0) (λ r h. h.1)) (λ r h. h) (λ r h. h.1))
    further-spelled (λ ks c. refl) (λ ks c. placed-map written_clause_onto clause_tokens ks c) (λ ks. refl)

abbrev pub EndsWhere : List Token → Type 0
EndsWhere r = NotAngle r × (after_comma r ≡ None) × (after_where r ≡ None)

abbrev pub where_tokens_spelling : List WrittenClause → List Token
where_tokens_spelling ks = where_spelling (map written_clause_spelling ks)

where-spelled : (ks : List WrittenClause) → spell_optional (keyword where_word) (spell_list written_clause_spelling (sign comma)) ks ≡ where_tokens_spelling ks
where-spelled [] = refl
where-spelled (k ∷ ks) = refl

pub where-tokens-part : IsPart where_tokens_at where_tokens_spelling (all_onto written_clause_onto) clauses_place EndsWhere
unfolding where_tokens_at
where-tokens-part =
    recast (λ (ks : List WrittenClause). ks) (λ ks. ks)
    (optional-part {E = EndsWhere} where-mark (list-part {D = λ r. NotAngle r × (after_comma r ≡ None)} clause-tokens-part comma-mark (λ r. refl) (λ r h. h.0) (λ r h. h.1)) (λ r h. (h.0, h.1)) (λ r h. h.2))
    where-spelled (λ ks c. refl) (λ ks c. placed-map written_clause_onto clause_tokens ks c) (λ ks. refl)

-- ---- types in braces
abbrev pub ended : {T : Type 0} → (T → List Token) → T → List Token
ended s t = s t ++ sign semicolon ∷ []

pub ended-name-part : IsPart (before_mark name_at after_semicolon) (ended name_spelling) no_cells itself Any
ended-name-part = before-part semicolon-mark name-part (λ r. tt)

pub ended-binding-part : IsPart (before_mark binding_at after_semicolon) (ended binding_spelling) binding_onto binding_place Any
ended-binding-part = before-part semicolon-mark binding-part (λ r. tt)

abbrev in_closed : {T : Type 0} → (T → List Token) → T × List T → List Token
in_closed s x = (keyword type_word ∷ spell_list (ended s) (keyword type_word) x) ++ sign close_brace ∷ []

braces-spelled : {T : Type 0} (s : T → List Token) (ts : List T) → spell_optional (sign open_brace) (in_closed s) ts ≡ in_braces (map (ended s) ts)
braces-spelled s [] = refl
braces-spelled s (t ∷ ts) =
    ap (λ x. sign open_brace ∷ keyword type_word ∷ x) (append_assoc (ended s t) (after_each (keyword type_word) (map (ended s) ts)) (sign close_brace ∷ []))

braces-part : {T Y : Type 0} {f : Part Y} {s : T → List Token} {o : T → List Cell → List Cell} {l : T → List Cell → Y} {B : List Token → Type 0} → IsPart f s o l B → ((r : List Token) → B (sign semicolon ∷ r))
    → IsPart (in_braces_at f) (λ ts. in_braces (map (ended s) ts)) (all_onto o) (all_spans o l) IsEnd
braces-part {T} {Y} {f} {s} {o} {l} {B} w fits =
    recast (λ (ts : List T). ts) (λ ts. ts)
    (optional-part {E = IsEnd} open_brace-mark
    (before-part close_brace-mark (behind-part type-mark (list-part {D = λ r. after_type r ≡ None} (before-part semicolon-mark w fits) type-mark (λ r. tt) (λ r h. tt) (λ r h. h))) (λ r. refl))
    (λ r h. tt) (at-end (λ r. after_open_brace r ≡ None) refl))
    (braces-spelled s) (λ ts c. refl) (λ ts c. refl) (λ ts. refl)

abbrev pub types_spelling : List (List ℕ) → List Token
types_spelling ts = in_braces (map (λ t. name t ∷ sign semicolon ∷ []) ts)

pub types-part : IsPart types_at types_spelling no_cells itself IsEnd
unfolding types_at
types-part = recast (λ (ts : List (List ℕ)). ts) (λ ts. ts) (braces-part name-part (λ r. tt)) (λ ts. refl) (λ ts c. cells-kept ts c) (λ ts c. places-same ts c) (λ ts. refl)

abbrev pub given_spelling : List Binding → List Token
given_spelling vs = in_braces (map (λ v. binding_spelling v ++ sign semicolon ∷ []) vs)

abbrev pub given_place : List Binding → List Cell → List BindingTokens
given_place vs c = map binding_tokens vs

pub given-tokens-part : IsPart given_at given_spelling (all_onto binding_onto) given_place IsEnd
unfolding given_at
given-tokens-part =
    recast (λ (vs : List Binding). vs) (λ vs. vs) (braces-part binding-part (λ r. tt)) (λ vs. refl) (λ vs c. refl) (λ vs c. placed-map binding_onto binding_tokens vs c) (λ vs. refl)

-- ---- what stands behind what
types-behind : (ts : List (List ℕ)) (r : List Token) → IsEnd r → EndsBounds (types_spelling ts ++ r)
types-behind [] r h = at-end EndsBounds (refl, refl, refl) r h
types-behind (t ∷ ts) r h = (refl, refl, refl)

abbrev pub bounds_and_types : List WrittenBound × List (List ℕ) → List Token
bounds_and_types = spell_both supers_tokens_spelling types_spelling

bounds-fit : (x : List WrittenBound × List (List ℕ)) (r : List Token) → IsEnd r → NotAngle (bounds_and_types x ++ r)
bounds-fit ([], []) r h = at-end NotAngle refl r h
bounds-fit ([], t ∷ ts) r h = refl
bounds-fit (b ∷ bs, ts) r h = refl

given-behind : (vs : List Binding) (r : List Token) → IsEnd r → EndsWhere (given_spelling vs ++ r)
given-behind [] r h = at-end EndsWhere (refl, refl, refl) r h
given-behind (v ∷ vs) r h = (refl, refl, refl)

abbrev pub clauses_and_given : List WrittenClause × List Binding → List Token
clauses_and_given = spell_both where_tokens_spelling given_spelling

clauses-fit : (x : List WrittenClause × List Binding) (r : List Token) → IsEnd r → IsCompleteType (clauses_and_given x ++ r)
clauses-fit ([], []) r h = at-end IsCompleteType tt r h
clauses-fit ([], v ∷ vs) r h = tt
clauses-fit (k ∷ ks, vs) r h = tt

abbrev header_and_more : Clause × (List WrittenClause × List Binding) → List Token
header_and_more = spell_both header_spelling clauses_and_given

header-fits : (x : Clause × (List WrittenClause × List Binding)) (r : List Token) → IsEnd r → NotAngle (header_and_more x ++ r)
header-fits x r h = refl

abbrev two_lists : List WrittenClause × List WrittenClause → List Token
two_lists = spell_both further_tokens_spelling where_tokens_spelling

where-behind : (ks : List WrittenClause) (r : List Token) → IsEnd r → EndsFurther (where_tokens_spelling ks ++ r)
where-behind [] r h = at-end EndsFurther (refl, refl) r h
where-behind (k ∷ ks) r h = (refl, refl)

lists-behind : (x : List WrittenClause × List WrittenClause) (r : List Token) → IsEnd r → NotAngle (two_lists x ++ r)
lists-behind ([], ks) r h = (where-behind ks r h).0
lists-behind (b ∷ bs, ks) r h = refl

further-behind : (ks : List WrittenClause) (r : List Token) → EndsFurther r → NotAngle (further_tokens_spelling ks ++ r)
further-behind [] r h = h.0
further-behind (k ∷ ks) r h = refl

clause-no-angle : (k : WrittenClause) (r : List Token) → NotAngle (written_clause_spelling k ++ r)
clause-no-angle k r =
    ap after_open_angle (append_assoc (type_spelling k.subject) (sign colon ∷ written_bound_spelling k.bound) r) ∙ type-no-angle k.subject (sign colon ∷ (written_bound_spelling k.bound ++ r))

asked-fits : (x : WrittenClause × (List WrittenClause × List WrittenClause)) (r : List Token) → IsEnd r → NotAngle (spell_both written_clause_spelling two_lists x ++ r)
asked-fits x r h = ap after_open_angle (append_assoc (written_clause_spelling x.0) (two_lists x.1) r) ∙ clause-no-angle x.0 (two_lists x.1 ++ r)

refuted-fits : (x : WrittenClause × List WrittenClause) (r : List Token) → EndsFurther r → NotAngle (spell_both written_clause_spelling further_tokens_spelling x ++ r)
refuted-fits x r h = ap after_open_angle (append_assoc (written_clause_spelling x.0) (further_tokens_spelling x.1) r) ∙ clause-no-angle x.0 (further_tokens_spelling x.1 ++ r)

-- ---- each kind of line, behind its words
abbrev pub trait_spelling : List ℕ × (Params × (List WrittenBound × List (List ℕ))) → List Token
trait_spelling = spell_both name_spelling (spell_both params_spelling bounds_and_types)

pub trait-part : (f a : Bool) → IsPart (trait_tokens_at f a) trait_spelling (λ t c. all_onto written_onto t.1.1.0 c) (λ t c. trait_tokens f a t.0 (param_list t.1.0) (map bound_tokens t.1.1.0) t.1.1.1) IsEnd
unfolding trait_tokens_at
trait-part f a =
    given-part (λ x. trait_tokens f a x.0 x.1.0 x.1.1.0 x.1.1.1)
    (both-part name-part (both-part params-part (both-part bounds-tokens-part types-part types-behind) bounds-fit) (λ u ts h. tt))

abbrev impl_spelling : Params × (Clause × (List WrittenClause × List Binding)) → List Token
impl_spelling = spell_both params_spelling header_and_more

pub impl-part : IsPart impl_tokens_at impl_spelling (λ t c. all_onto binding_onto t.1.1.1 (all_onto written_clause_onto t.1.1.0 (plain_header_onto t.1.0 c)))
    (λ t c. impl_tokens (param_list t.0) (plain_header_place t.1.0 c) (map clause_tokens t.1.1.0) (map binding_tokens t.1.1.1)) IsEnd
unfolding impl_tokens_at
impl-part =
    given-part (λ x. impl_tokens x.0 x.1.0 x.1.1.0 x.1.1.1)
    (both-part params-part (both-part header-tokens-part (both-part where-tokens-part given-tokens-part given-behind) clauses-fit) header-fits)

abbrev asked_spelling : List ℕ × (Params × (WrittenClause × (List WrittenClause × List WrittenClause))) → List Token
asked_spelling = spell_both name_spelling (spell_both params_spelling (spell_both written_clause_spelling two_lists))

pub prove-part : IsPart prove_tokens_at (λ t. keyword in_word ∷ asked_spelling t)
    (λ t c. all_onto written_clause_onto t.1.1.1.1 (all_onto written_clause_onto t.1.1.1.0 (written_clause_onto t.1.1.0 c)))
    (λ t c. prove_tokens t.0 (param_list t.1.0) (clause_tokens t.1.1.0) (map clause_tokens t.1.1.1.0) (map clause_tokens t.1.1.1.1)) IsEnd
unfolding prove_tokens_at
prove-part =
    given-part (λ x. prove_tokens x.0 x.1.0 x.1.1.0 x.1.1.1.0 x.1.1.1.1)
    (behind-part in-mark
    (both-part name-part (both-part params-part (both-part clause-tokens-part (both-part further-tokens-part where-end where-behind) lists-behind) asked-fits) (λ u ts h. tt)))
  where
    where-end : IsPart where_tokens_at where_tokens_spelling (all_onto written_clause_onto) clauses_place IsEnd
    where-end = record { takes = where-tokens-part.takes; again = λ c t r h. where-tokens-part.again c t r (at-end EndsWhere (refl, refl, refl) r h) }

abbrev refuted_spelling : List ℕ × (Params × (WrittenClause × List WrittenClause)) → List Token
refuted_spelling = spell_both name_spelling (spell_both params_spelling (spell_both written_clause_spelling further_tokens_spelling))

pub refute-part : IsPart refute_tokens_at (λ t. keyword in_word ∷ refuted_spelling t) (λ t c. all_onto written_clause_onto t.1.1.1 (written_clause_onto t.1.1.0 c))
    (λ t c. refute_tokens t.0 (param_list t.1.0) (clause_tokens t.1.1.0) (map clause_tokens t.1.1.1)) EndsFurther
unfolding refute_tokens_at
refute-part =
    given-part (λ x. refute_tokens x.0 x.1.0 x.1.1.0 x.1.1.1)
    (behind-part in-mark (both-part name-part (both-part params-part (both-part clause-tokens-part further-tokens-part further-behind) refuted-fits) (λ u ts h. tt)))
