-- The parts of a line with types: types by their tokens, arguments, what is said of types, bounds and clauses.
use Rattle.std.proofs.Common.{◌≡◌, ℕ, ◌-◌, Bool, true, false, List, [], ◌∷◌, ◌++◌, length, take, Option, Some, None, refl, sym, ap, ◌∙◌, subst, append_assoc, arith}
use Rattle.std.specs.Prelude.{map, if◌then◌else◌}
use Rattle.std.proofs.lemmas.Option.{same_Some}
use Rattle.std.proofs.lemmas.List.{length-append, take-append-le}
use Rattle.std.proofs.Math.Seq.{take-length}
use Rattle.text_language.specs.Words.{comma, open_angle, close_angle}
use Rattle.text_language.specs.Tokens.{Token, name, lifetime, number, sign}
use Rattle.text_language.specs.Promised.Syntax.{TypeTree, of_primitive, never_type, variable_type, named, reference_to, pointer_to, slice_of, array_of, tuple_of, fn_of, fn_to, dyn_of, Args, no_args, and_arg, Arg, lifetime_arg, number_arg, type_arg, Bound, Clause, Binding, WrittenBound, WrittenClause}
use Rattle.text_language.specs.Syntax.{type_spelling, arg_spelling, arg_spellings, after_each, in_angles, bound_spelling, binding_spelling, written_bound_spelling, written_clause_spelling}
use Rattle.text_language.specs.Agreement.{plain_bound, plain_clause}
use Rattle.text_language.proofs.PlainLines.{bound-is}
use Rattle.text_lines.specs.Marks.{after_comma, is_equals, is_binding, lone_front, taken}
use Rattle.text_lines.specs.Cells.{Cell, type_onto}
use Rattle.text_lines.specs.Follows.{IsCompleteType}
use Rattle.text_lines.specs.TypeReading.{type_read}
use Rattle.text_lines.specs.Statement.{all_onto, all_spans}
use Rattle.text_lines.specs.Parts.{Progress, ◌>>=◌, given}
use Rattle.text_lines.specs.WrittenParts.{BindingTokens, Entry, argument, binding, BoundTokens, ClauseTokens, type_tokens_at, argument_from, argument_at, binding_at, entry_at, is_sorted_after, entries_at, bound_tokens_at, clause_tokens_at, is_all_arguments, plain_tokens_at, header_tokens_at}
use Rattle.text_lines.specs.WrittenLines.{binding_tokens, bound_tokens, clause_tokens}
use Rattle.text_lines.proofs.TypeReading.{type_takes, type_again}
use Rattle.text_lines.proofs.IsPart.{Found, IsPart, bind-some, moved, both-part, given-part, behind-part, before-part, kept-part, recast, spell_list, list-part, spell_optional, optional-part}
use Rattle.text_lines.proofs.EachMark.{comma-mark, open_angle-mark, close_angle-mark, colon-mark, for-mark, equals-mark}
use Rattle.text_lines.proofs.Types.{name-part, header_spelling}
use Rattle.text_lines.proofs.ParamOrder.{NotAngle}

-- ---- types
taken-front : (s r : List Token) → taken (s ++ r) r ≡ s
taken-front s r =
    let h = length-append s r in
    let e : length (s ++ r) - length r ≡ length s = omega (arith, h) in
    ap (λ n. take n (s ++ r)) e ∙ take-append-le (length s) s r (omega arith) ∙ take-length s

abbrev pub type_place : TypeTree → List Cell → List Token
type_place t c = type_spelling t

pub type-tokens-part : IsPart type_tokens_at type_spelling type_onto type_place IsCompleteType
unfolding type_tokens_at
type-tokens-part = record {
  takes = λ p q y e.
      let a = bind-some (type_read p.0 p.1) (λ x. Some (taken p.1 x.1, x)) (y, q) e in
      let t = type_takes p.0 p.1 a.0.1 a.0.0 a.1 in
      let found : Found type_spelling type_onto type_place p a.0 (taken p.1 a.0.1) = record {
        tree = t.0;
        tokens = t.1;
        placed = ap (λ z. taken z a.0.1) t.1 ∙ taken-front (type_spelling t.0) a.0.1;
        cells = t.2;
      } in
      moved (taken p.1 a.0.1, a.0) (y, q) found (same_Some (taken p.1 a.0.1, a.0) (y, q) a.2);
  again = λ c t r b.
      ap (λ x. x >>= λ z. Some (taken (type_spelling t ++ r) z.1, z)) (type_again c t r b) ∙ ap (λ z. Some (z, (type_onto t c, r))) (taken-front (type_spelling t) r);
}

-- ---- arguments
abbrev pub argument_onto : Arg → List Cell → List Cell
argument_onto (lifetime_arg n) c = c
argument_onto (number_arg n) c = c
argument_onto (type_arg t) c = type_onto t c

abbrev argument_place : Arg → List Cell → List Token
argument_place a c = arg_spelling a

abbrev ArgumentFound : Progress → Progress → List Token → Type 0
ArgumentFound p q y = Found arg_spelling argument_onto argument_place p q y

lone-found : (c : List Cell) (ts : List Token) (x : List Token × List Token) → lone_front ts ≡ Some x → ArgumentFound (c, ts) (c, x.1) x.0
lone-found c (lifetime n ∷ ts) x e =
    let found : ArgumentFound (c, lifetime n ∷ ts) (c, ts) (lifetime n ∷ []) = record { tree = lifetime_arg n; tokens = refl; placed = refl; cells = refl } in
    subst (λ (z : List Token × List Token). ArgumentFound (c, lifetime n ∷ ts) (c, z.1) z.0) (same_Some (lifetime n ∷ [], ts) x e) found
lone-found c (number n ∷ ts) x e =
    let found : ArgumentFound (c, number n ∷ ts) (c, ts) (number n ∷ []) = record { tree = number_arg n; tokens = refl; placed = refl; cells = refl } in
    subst (λ (z : List Token × List Token). ArgumentFound (c, number n ∷ ts) (c, z.1) z.0) (same_Some (number n ∷ [], ts) x e) found
lone-found c _ x e = absurd cc

argument-takes : (o : Option (List Token × List Token)) (p q : Progress) (y : List Token) → lone_front p.1 ≡ o → argument_from o p ≡ Some (y, q) → ArgumentFound p q y
argument-takes (Some x) p q y h e = moved (x.0, (p.0, x.1)) (y, q) (lone-found p.0 p.1 x h) (same_Some (x.0, (p.0, x.1)) (y, q) e)
argument-takes None p q y h e =
    let n = type-tokens-part.takes p q y e in
    record { tree = type_arg n.tree; tokens = n.tokens; placed = n.placed; cells = n.cells }

pub type-not-lone : (t : TypeTree) (r : List Token) → lone_front (type_spelling t ++ r) ≡ None
type-not-lone (fn_of [] ts) r = refl
type-not-lone (fn_of (b ∷ bs) ts) r = refl
type-not-lone (fn_to [] ts u) r = refl
type-not-lone (fn_to (b ∷ bs) ts u) r = refl
type-not-lone (of_primitive p) r = refl
type-not-lone never_type r = refl
type-not-lone (variable_type n) r = refl
type-not-lone (named n args) r = refl
type-not-lone (reference_to l m t) r = refl
type-not-lone (pointer_to m t) r = refl
type-not-lone (slice_of t) r = refl
type-not-lone (array_of t n) r = refl
type-not-lone (tuple_of ts) r = refl
type-not-lone (dyn_of i is) r = refl

argument-again : (c : List Cell) (a : Arg) (r : List Token) → IsCompleteType r → argument_at (c, arg_spelling a ++ r) ≡ Some (argument_place a c, (argument_onto a c, r))
unfolding argument_at
argument-again c (lifetime_arg n) r b = refl
argument-again c (number_arg n) r b = refl
argument-again c (type_arg t) r b = ap (λ z. argument_from z (c, type_spelling t ++ r)) (type-not-lone t r) ∙ type-tokens-part.again c t r b

argument-part : IsPart argument_at arg_spelling argument_onto argument_place IsCompleteType
unfolding argument_at
argument-part = record { takes = λ p q y e. argument-takes (lone_front p.1) p q y refl e; again = argument-again }

-- ---- what is said of a type
abbrev pub binding_onto : Binding → List Cell → List Cell
binding_onto v c = type_onto v.value c

abbrev pub binding_place : Binding → List Cell → BindingTokens
binding_place v c = binding_tokens v

pub binding-part : IsPart binding_at binding_spelling binding_onto binding_place IsCompleteType
unfolding binding_at
binding-part =
    recast (λ (x : List ℕ × TypeTree). record { name = x.0; value = x.1 }) (λ v. (v.name, v.value))
    (given-part (λ (x : List ℕ × List Token). record { name = x.0; value = x.1 }) (both-part name-part (behind-part equals-mark type-tokens-part) (λ u ts h. tt)))
    (λ t. refl) (λ t c. refl) (λ t c. refl) (λ v. refl)

-- ---- entries
pub data EntryTree : Type 0 where
  arg_tree : Arg → EntryTree
  binding_tree : Binding → EntryTree

abbrev pub entry_spelling : EntryTree → List Token
entry_spelling (arg_tree a) = arg_spelling a
entry_spelling (binding_tree v) = binding_spelling v

abbrev pub entry_onto : EntryTree → List Cell → List Cell
entry_onto (arg_tree a) c = argument_onto a c
entry_onto (binding_tree v) c = binding_onto v c

abbrev pub entry_tokens : EntryTree → Entry
entry_tokens (arg_tree a) = argument (arg_spelling a)
entry_tokens (binding_tree v) = binding (binding_tokens v)

abbrev pub entry_place : EntryTree → List Cell → Entry
entry_place e c = entry_tokens e

-- neither more of a type nor `=`
abbrev pub EndsEntry : List Token → Type 0
EndsEntry r = IsCompleteType r × (is_equals r ≡ false)

type-no-binding : (t : TypeTree) (r : List Token) → is_equals r ≡ false → is_binding (type_spelling t ++ r) ≡ false
type-no-binding (named n no_args) r h = h
type-no-binding (named n (and_arg a args)) r h = refl
type-no-binding (fn_of [] ts) r h = refl
type-no-binding (fn_of (b ∷ bs) ts) r h = refl
type-no-binding (fn_to [] ts u) r h = refl
type-no-binding (fn_to (b ∷ bs) ts u) r h = refl
type-no-binding (of_primitive p) r h = refl
type-no-binding never_type r h = refl
type-no-binding (variable_type n) r h = refl
type-no-binding (reference_to l m t) r h = refl
type-no-binding (pointer_to m t) r h = refl
type-no-binding (slice_of t) r h = refl
type-no-binding (array_of t n) r h = refl
type-no-binding (tuple_of ts) r h = refl
type-no-binding (dyn_of i is) r h = refl

arg-no-binding : (a : Arg) (r : List Token) → is_equals r ≡ false → is_binding (arg_spelling a ++ r) ≡ false
arg-no-binding (lifetime_arg n) r h = refl
arg-no-binding (number_arg n) r h = refl
arg-no-binding (type_arg t) r h = type-no-binding t r h

entry-takes : (b : Bool) (p q : Progress) (y : Entry) → (if b then given binding binding_at p else given argument argument_at p) ≡ Some (y, q) → Found entry_spelling entry_onto entry_place p q y
entry-takes true p q y e =
    let n = (given-part binding binding-part).takes p q y e in
    record { tree = binding_tree n.tree; tokens = n.tokens; placed = n.placed; cells = n.cells }
entry-takes false p q y e =
    let n = (given-part argument argument-part).takes p q y e in
    record { tree = arg_tree n.tree; tokens = n.tokens; placed = n.placed; cells = n.cells }

entry-again : (c : List Cell) (t : EntryTree) (r : List Token) → EndsEntry r → entry_at (c, entry_spelling t ++ r) ≡ Some (entry_place t c, (entry_onto t c, r))
unfolding entry_at
entry-again c (arg_tree a) r b =
    ap (λ z. if z then given binding binding_at (c, arg_spelling a ++ r) else given argument argument_at (c, arg_spelling a ++ r)) (arg-no-binding a r b.1)
    ∙ (given-part argument argument-part).again c a r b.0
entry-again c (binding_tree v) r b = (given-part binding binding-part).again c v r b.0

pub entry-part : IsPart entry_at entry_spelling entry_onto entry_place EndsEntry
unfolding entry_at
entry-part = record { takes = λ p q y e. entry-takes (is_binding p.1) p q y e; again = entry-again }

-- ---- their order
abbrev pub sorted_trees : List Arg × List Binding → List EntryTree
sorted_trees x = map arg_tree x.0 ++ map binding_tree x.1

pub placed-map : {T Y : Type 0} (o : T → List Cell → List Cell) (f : T → Y) (ts : List T) (c : List Cell) → all_spans o (λ t d. f t) ts c ≡ map f ts
placed-map o f [] c = refl
placed-map o f (t ∷ ts) c = ap (λ z. f t ∷ z) (placed-map o f ts (o t c))

bindings-only : (es : List EntryTree) → is_sorted_after true (map entry_tokens es) ≡ true → (vs : List Binding) × (es ≡ map binding_tree vs)
bindings-only [] e = ([], refl)
bindings-only (arg_tree a ∷ es) e = absurd cc
bindings-only (binding_tree v ∷ es) e = let n = bindings-only es e in (v ∷ n.0, ap (λ x. binding_tree v ∷ x) n.1)

sorted-only : (es : List EntryTree) → is_sorted_after false (map entry_tokens es) ≡ true → (x : List Arg × List Binding) × (es ≡ sorted_trees x)
sorted-only [] e = (([], []), refl)
sorted-only (arg_tree a ∷ es) e = let n = sorted-only es e in ((a ∷ n.0.0, n.0.1), ap (λ x. arg_tree a ∷ x) n.1)
sorted-only (binding_tree v ∷ es) e = let n = bindings-only es e in (([], v ∷ n.0), ap (λ x. binding_tree v ∷ x) n.1)

all-bindings : (vs : List Binding) → is_sorted_after true (map entry_tokens (map binding_tree vs)) ≡ true
all-bindings [] = refl
all-bindings (v ∷ vs) = all-bindings vs

all-sorted : (gs : List Arg) (vs : List Binding) → is_sorted_after false (map entry_tokens (sorted_trees (gs, vs))) ≡ true
all-sorted [] [] = refl
all-sorted [] (v ∷ vs) = all-bindings vs
all-sorted (a ∷ gs) vs = all-sorted gs vs

abbrev closed : EntryTree × List EntryTree → List Token
closed x = spell_list entry_spelling (sign comma) x ++ sign close_angle ∷ []

-- no further entry
abbrev EndsEntries : List Token → Type 0
EndsEntries r = EndsEntry r × (after_comma r ≡ None)

abbrev sorted_spelling : List Arg × List Binding → List Token
sorted_spelling x = spell_optional (sign open_angle) closed (sorted_trees x)

abbrev pub sorted_onto : List Arg × List Binding → List Cell → List Cell
sorted_onto x c = all_onto entry_onto (sorted_trees x) c

abbrev sorted_place : List Arg × List Binding → List Cell → List Entry
sorted_place x c = all_spans entry_onto entry_place (sorted_trees x) c

entries-part : IsPart entries_at sorted_spelling sorted_onto sorted_place NotAngle
unfolding entries_at
entries-part =
    kept-part (is_sorted_after false) sorted_trees
    (optional-part {E = NotAngle} open_angle-mark (before-part close_angle-mark (list-part {D = EndsEntries} entry-part comma-mark (λ r. (tt, refl)) (λ r h. h.0) (λ r h. h.1)) (λ r. ((tt, refl), refl))) (λ r h. tt) (λ r h. h))
    (λ x c. ap (is_sorted_after false) (placed-map entry_onto entry_tokens (sorted_trees x) c) ∙ all-sorted x.0 x.1)
    (λ es c e. sorted-only es (ap (is_sorted_after false) (sym (placed-map entry_onto entry_tokens es c)) ∙ e))

-- ---- bounds
pub args_made : List Arg → Args
args_made [] = no_args
args_made (a ∷ gs) = and_arg a (args_made gs)

pub arg_list : Args → List Arg
arg_list no_args = []
arg_list (and_arg a args) = a ∷ arg_list args

made-list : (gs : List Arg) → gs ≡ arg_list (args_made gs)
unfolding args_made arg_list
made-list [] = refl
made-list (a ∷ gs) = ap (λ x. a ∷ x) (made-list gs)

list-made : (args : Args) → args_made (arg_list args) ≡ args
unfolding args_made arg_list
list-made no_args = refl
list-made (and_arg a args) = ap (and_arg a) (list-made args)

abbrev bound_made : List ℕ × (List Arg × List Binding) → WrittenBound
bound_made x = record { bound = record { trait = x.0; args = args_made x.1.0 }; bindings = x.1.1 }

angles-spelled : (es : List EntryTree) → spell_optional (sign open_angle) closed es ≡ in_angles (map entry_spelling es)
angles-spelled [] = refl
angles-spelled (e ∷ es) = ap (λ x. sign open_angle ∷ x) (append_assoc (entry_spelling e) (after_each (sign comma) (map entry_spelling es)) (sign close_angle ∷ []))

bindings-spelled : (vs : List Binding) → map entry_spelling (map binding_tree vs) ≡ map binding_spelling vs
bindings-spelled [] = refl
bindings-spelled (v ∷ vs) = ap (λ x. binding_spelling v ∷ x) (bindings-spelled vs)

sorted-spelled : (gs : List Arg) (vs : List Binding) → map entry_spelling (sorted_trees (gs, vs)) ≡ arg_spellings (args_made gs) ++ map binding_spelling vs
unfolding args_made
sorted-spelled [] vs = bindings-spelled vs
sorted-spelled (a ∷ gs) vs = ap (λ x. arg_spelling a ∷ x) (sorted-spelled gs vs)

bindings-placed : (vs : List Binding) → map entry_tokens (map binding_tree vs) ≡ map (λ v. binding (binding_tokens v)) vs
bindings-placed [] = refl
bindings-placed (v ∷ vs) = ap (λ x. binding (binding_tokens v) ∷ x) (bindings-placed vs)

sorted-placed : (gs : List Arg) (vs : List Binding) → map entry_tokens (sorted_trees (gs, vs)) ≡ map argument (arg_spellings (args_made gs)) ++ map (λ v. binding (binding_tokens v)) vs
unfolding args_made
sorted-placed [] vs = bindings-placed vs
sorted-placed (a ∷ gs) vs = ap (λ x. argument (arg_spelling a) ∷ x) (sorted-placed gs vs)

abbrev pub written_onto : WrittenBound → List Cell → List Cell
written_onto b c = sorted_onto (arg_list b.bound.args, b.bindings) c

abbrev pub written_place : WrittenBound → List Cell → BoundTokens
written_place b c = bound_tokens b

pub bound-tokens-part : IsPart bound_tokens_at written_bound_spelling written_onto written_place NotAngle
unfolding bound_tokens_at
bound-tokens-part =
    recast bound_made (λ b. (b.bound.trait, (arg_list b.bound.args, b.bindings)))
    (given-part (λ (x : List ℕ × List Entry). record { trait = x.0; entries = x.1 }) (both-part name-part entries-part (λ u ts h. tt)))
    (λ x. ap (λ z. name x.0 ∷ z) (angles-spelled (sorted_trees x.1) ∙ ap in_angles (sorted-spelled x.1.0 x.1.1)))
    (λ x c. ap (λ z. sorted_onto (z, x.1.1) c) (made-list x.1.0))
    (λ x c. ap (λ z. record { trait = x.0; entries = z }) (placed-map entry_onto entry_tokens (sorted_trees x.1) c ∙ sorted-placed x.1.0 x.1.1))
    (λ b. ap (λ z. record { bound = record { trait = b.bound.trait; args = z }; bindings = b.bindings }) (list-made b.bound.args))

-- ---- clauses
abbrev pub written_clause_onto : WrittenClause → List Cell → List Cell
written_clause_onto k c = written_onto k.bound (type_onto k.subject c)

abbrev pub written_clause_place : WrittenClause → List Cell → ClauseTokens
written_clause_place k c = clause_tokens k

pub clause-tokens-part : IsPart clause_tokens_at written_clause_spelling written_clause_onto written_clause_place NotAngle
unfolding clause_tokens_at
clause-tokens-part =
    recast (λ (x : TypeTree × WrittenBound). record { subject = x.0; bound = x.1 }) (λ k. (k.subject, k.bound))
    (given-part (λ (x : List Token × BoundTokens). record { subject = x.0; bound = x.1 }) (both-part type-tokens-part (behind-part colon-mark bound-tokens-part) (λ u ts h. tt)))
    (λ t. refl) (λ t c. refl) (λ t c. refl) (λ k. refl)

-- ---- headers
arguments-only : (ss : List (List Token)) (vs : List Binding) → is_all_arguments (map argument ss ++ map (λ v. binding (binding_tokens v)) vs) ≡ true → vs ≡ []
arguments-only [] [] e = refl
arguments-only [] (v ∷ vs) e = absurd cc
arguments-only (s ∷ ss) vs e = arguments-only ss vs e

all-arguments : (ss : List (List Token)) → is_all_arguments (map argument ss ++ []) ≡ true
all-arguments [] = refl
all-arguments (s ∷ ss) = all-arguments ss

abbrev pub plain_onto : Bound → List Cell → List Cell
plain_onto b c = written_onto (plain_bound b) c

abbrev pub plain_place : Bound → List Cell → BoundTokens
plain_place b c = bound_tokens (plain_bound b)

plain-part : IsPart plain_tokens_at bound_spelling plain_onto plain_place NotAngle
unfolding plain_tokens_at
plain-part =
    recast (λ (b : Bound). b) (λ b. b)
    (kept-part (λ b. is_all_arguments b.entries) plain_bound bound-tokens-part
    (λ b c. all-arguments (arg_spellings b.args))
    (λ b c e. (b.bound, ap (λ (z : List Binding). record { bound = b.bound; bindings = z }) (arguments-only (arg_spellings b.bound.args) b.bindings e))))
    bound-is (λ b c. refl) (λ b c. refl) (λ b. refl)

abbrev pub plain_header_onto : Clause → List Cell → List Cell
plain_header_onto h c = type_onto h.subject (plain_onto h.bound c)

abbrev pub plain_header_place : Clause → List Cell → ClauseTokens
plain_header_place h c = clause_tokens (plain_clause h)

pub header-tokens-part : IsPart header_tokens_at header_spelling plain_header_onto plain_header_place IsCompleteType
unfolding header_tokens_at
header-tokens-part =
    recast (λ (x : Bound × TypeTree). record { subject = x.1; bound = x.0 }) (λ h. (h.bound, h.subject))
    (given-part (λ (x : BoundTokens × List Token). record { subject = x.1; bound = x.0 }) (both-part plain-part (behind-part for-mark type-tokens-part) (λ u ts h. refl)))
    (λ t. refl) (λ t c. refl) (λ t c. refl) (λ h. refl)
