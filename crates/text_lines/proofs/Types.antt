-- Names, types, bounds and clauses.
use Rattle.std.proofs.Common.{◌≡◌, ℕ, true, List, [], ◌∷◌, ◌++◌, length, Some, None, refl, sym, ap, ◌∙◌, append_assoc}
use Rattle.std.proofs.lemmas.Option.{same_Some}
use Rattle.text_language.specs.Words.{for_word, colon}
use Rattle.text_language.specs.Tokens.{Token, keyword, name, sign}
use Rattle.text_language.specs.Promised.Syntax.{TypeTree, of_primitive, never_type, variable_type, named, reference_to, pointer_to, slice_of, array_of, tuple_of, fn_of, fn_to, dyn_of, Bound, Clause}
use Rattle.text_language.specs.Syntax.{type_spelling, bound_spelling, clause_spelling}
use Rattle.text_lines.specs.Marks.{after_open_angle, name_front, is_name}
use Rattle.text_lines.specs.TokenSteps.{NoAngle}
use Rattle.text_lines.specs.Cells.{Cell, type_onto}
use Rattle.text_lines.specs.Follows.{IsCompleteType}
use Rattle.text_lines.specs.TypeReading.{type_read}
use Rattle.text_lines.proofs.TypeReading.{type_takes, type_again, bound_again}
use Rattle.text_lines.specs.Statement.{all_onto, all_spans, type_span, bound_onto, bound_span, clause_onto, clause_spans, header_onto, header_spans}
use Rattle.text_lines.specs.Parts.{◌>>=◌, name_at, type_at, bound_at, clause_at, header_at}
use Rattle.text_lines.specs.declared.statement.Span.{Span}
use Rattle.text_lines.proofs.IsPart.{Found, IsPart, Any, bind-some, if-some, moved, both-part, given-part, behind-part, recast}
use Rattle.text_lines.proofs.EachMark.{colon-mark, for-mark}

-- ---- names
abbrev pub name_spelling : List ℕ → List Token
name_spelling n = name n ∷ []

abbrev pub no_cells : {A : Type 0} → A → List Cell → List Cell
no_cells x c = c

abbrev pub itself : {A : Type 0} → A → List Cell → A
itself x c = x

pub cells-kept : {A : Type 0} (xs : List A) (c : List Cell) → all_onto no_cells xs c ≡ c
cells-kept [] c = refl
cells-kept (x ∷ xs) c = cells-kept xs c

pub places-same : {A : Type 0} (xs : List A) (c : List Cell) → all_spans no_cells itself xs c ≡ xs
places-same [] c = refl
places-same (x ∷ xs) c = ap (λ z. x ∷ z) (places-same xs c)

front-takes : (ts : List Token) (x : List ℕ × List Token) → name_front ts ≡ Some x → ts ≡ name x.0 ∷ x.1
front-takes (name n ∷ ts) x e = ap (λ (y : List ℕ × List Token). name y.0 ∷ y.1) (same_Some (n, ts) x e)
front-takes _ x e = absurd cc

pub name-part : IsPart name_at name_spelling no_cells itself Any
unfolding name_at
name-part = record {
  takes = λ p q y e.
      let a = bind-some (name_front p.1) (λ x. Some (x.0, (p.0, x.1))) (y, q) e in
      let found : Found name_spelling no_cells itself p (p.0, a.0.1) a.0.0 = record { tree = a.0.0; tokens = front-takes p.1 a.0 a.1; placed = refl; cells = refl } in
      moved (a.0.0, (p.0, a.0.1)) (y, q) found (same_Some (a.0.0, (p.0, a.0.1)) (y, q) a.2);
  again = λ c n r b. refl;
}

-- ---- types
abbrev span_to : List Cell → List Cell → Span
span_to c o = record { start = length c; end = length o }

pub type-part : IsPart type_at type_spelling type_onto type_span IsCompleteType
unfolding type_at
type-part = record {
  takes = λ p q y e.
      let a = bind-some (type_read p.0 p.1) (λ x. Some (span_to p.0 x.0, x)) (y, q) e in
      let t = type_takes p.0 p.1 a.0.1 a.0.0 a.1 in
      let found : Found type_spelling type_onto type_span p a.0 (span_to p.0 a.0.0) = record { tree = t.0; tokens = t.1; placed = ap (span_to p.0) t.2; cells = t.2 } in
      moved (span_to p.0 a.0.0, a.0) (y, q) found (same_Some (span_to p.0 a.0.0, a.0) (y, q) a.2);
  again = λ c t r b. ap (λ x. x >>= λ z. Some (span_to c z.0, z)) (type_again c t r b);
}

-- ---- bounds: a type that begins with a name is that of the name and its arguments
named-tree : (t : TypeTree) (r : List Token) → is_name (type_spelling t ++ r) ≡ true → (b : Bound) × (t ≡ named b.trait b.args)
named-tree (named n args) r e = (record { trait = n; args = args }, refl)
named-tree (of_primitive p) r e = absurd cc
named-tree never_type r e = absurd cc
named-tree (variable_type n) r e = absurd cc
named-tree (reference_to l m t) r e = absurd cc
named-tree (pointer_to m t) r e = absurd cc
named-tree (slice_of t) r e = absurd cc
named-tree (array_of t n) r e = absurd cc
named-tree (tuple_of ts) r e = absurd cc
named-tree (fn_of [] ts) r e = absurd cc
named-tree (fn_of (b ∷ bs) ts) r e = absurd cc
named-tree (fn_to [] ts u) r e = absurd cc
named-tree (fn_to (b ∷ bs) ts u) r e = absurd cc
named-tree (dyn_of i is) r e = absurd cc

pub bound-part : IsPart bound_at bound_spelling bound_onto bound_span NoAngle
unfolding bound_at type_at
bound-part = record {
  takes = λ p q y e.
      let a = if-some (is_name p.1) (type_at p) (y, q) e in
      let n = type-part.takes p q y a.1 in
      let b = named-tree n.tree q.1 (ap is_name (sym n.tokens) ∙ a.0) in
      record {
        tree = b.0;
        tokens = n.tokens ∙ ap (λ t. type_spelling t ++ q.1) b.1;
        placed = n.placed ∙ ap (λ t. type_span t p.0) b.1;
        cells = n.cells ∙ ap (λ t. type_onto t p.0) b.1;
      };
  again = λ c b r h. ap (λ x. x >>= λ z. Some (span_to c z.0, z)) (bound_again c b.trait b.args r h);
}

-- ---- `type: bound`

pub clause-part : IsPart clause_at clause_spelling clause_onto clause_spans NoAngle
unfolding clause_at
clause-part =
    recast (λ (x : TypeTree × Bound). record { subject = x.0; bound = x.1 }) (λ k. (k.subject, k.bound))
    (given-part (λ (x : Span × Span). record { subject = x.0; bound = x.1 }) (both-part type-part (behind-part colon-mark bound-part) (λ u ts h. tt)))
    (λ t. refl) (λ t c. refl) (λ t c. refl) (λ k. refl)

-- ---- `bound for type`
abbrev pub header_spelling : Clause → List Token
header_spelling h = bound_spelling h.bound ++ keyword for_word ∷ type_spelling h.subject

pub header-part : IsPart header_at header_spelling header_onto header_spans IsCompleteType
unfolding header_at
header-part =
    recast (λ (x : Bound × TypeTree). record { subject = x.1; bound = x.0 }) (λ k. (k.bound, k.subject))
    (given-part (λ (x : Span × Span). record { subject = x.1; bound = x.0 }) (both-part bound-part (behind-part for-mark type-part) (λ u ts h. tt)))
    (λ t. refl) (λ t c. refl) (λ t c. refl) (λ k. refl)

-- ---- no type begins with `<`
pub type-no-angle : (t : TypeTree) (r : List Token) → after_open_angle (type_spelling t ++ r) ≡ None
type-no-angle (fn_of [] ts) r = refl
type-no-angle (fn_of (b ∷ bs) ts) r = refl
type-no-angle (fn_to [] ts u) r = refl
type-no-angle (fn_to (b ∷ bs) ts u) r = refl
type-no-angle (of_primitive p) r = refl
type-no-angle never_type r = refl
type-no-angle (variable_type n) r = refl
type-no-angle (named n args) r = refl
type-no-angle (reference_to l m t) r = refl
type-no-angle (pointer_to m t) r = refl
type-no-angle (slice_of t) r = refl
type-no-angle (array_of t n) r = refl
type-no-angle (tuple_of ts) r = refl
type-no-angle (dyn_of i is) r = refl

pub clause-no-angle : (k : Clause) (r : List Token) → after_open_angle (clause_spelling k ++ r) ≡ None
clause-no-angle k r = ap after_open_angle (append_assoc (type_spelling k.subject) (sign colon ∷ bound_spelling k.bound) r) ∙ type-no-angle k.subject (sign colon ∷ (bound_spelling k.bound ++ r))
