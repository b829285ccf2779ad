-- Primitive types of written lines are scalars, or `str`.
use Rattle.std.proofs.Common.{◌≡◌, ℕ, Bool, true, false, cond, List, [], ◌∷◌, ◌++◌, map, Option, Some, None, refl, sym, ap, ◌∙◌, subst, if◌then◌else◌}
use Rattle.std.proofs.lemmas.Option.{same_Some}
use Rattle.std.specs.Prelude.{slice_get, find, ◌==◌}
use Rattle.std.specs.List.{list_all}
use Rattle.std.specs.Option.{option_map, option_map_or}
use Rattle.std.specs.Str.{bytes_eq}
use Rattle.type_terms.specs.Promised.Label.{Label}
use Rattle.text_language.specs.Words.{Keyword, primitives, primitive_named, keyword_named, Sign, sign_at, is_digit, comma, for_word, fundamental_word, auto_word, colon}
use Rattle.text_language.specs.Words as words
use Rattle.text_language.specs.Tokens.{Token, keyword, primitive, name, lifetime, variable, number, sign, arrow, LinePiece, word, quoted, queried, pointing, byte, in_front, word_token, as_lifetime, as_variable, sign_token, name_token, number_from, tokens_from, tokens_of, pieces}
use Rattle.text_language.specs.Promised.Syntax.{TypeTree, of_primitive, never_type, variable_type, named, reference_to, pointer_to, slice_of, array_of, tuple_of, fn_of, fn_to, dyn_of, Types, no_types, and_type, Args, no_args, and_arg, Arg, lifetime_arg, number_arg, type_arg, Item, bound_item, lifetime_item, DynBounds, no_items, and_item, Params, Bound, Clause, struct_line, trait_line, impl_line, prove_line, refute_line, WrittenLine}
use Rattle.text_language.specs.Syntax.{type_spelling, lifetime_spelling, mut_spelling, binder_spelling, tuple_spelling, second_item, inputs_spelling, more_types, args_spelling, more_args, arg_spelling, item_spelling, more_items, params_spelling, bound_spelling, clause_spelling, bounds_spelling, where_spelling, fields_spelling, behind, spelling, written_spelling, if_so}
use Rattle.text_language.specs.Written.{IsSpelled}
use Rattle.text_lowering.proofs.Scalars.{is_scalar, Scalars, ScalarTypes, ScalarArgs, ScalarArg, ScalarItem, ScalarItems}

-- ---- primitive tokens are primitive types
abbrev pub Fine : Token → Type 0
Fine (primitive p) = is_scalar p ≡ true
Fine _ = Unit {0}

abbrev pub AllFine : List Token → Type 0
AllFine [] = Unit {0}
AllFine (t ∷ ts) = Fine t × AllFine ts

abbrev AllScalar : List (List ℕ × Label) → Type 0
AllScalar [] = Unit {0}
AllScalar (p ∷ ps) = (is_scalar p.1 ≡ true) × AllScalar ps

found-scalar : (f : List ℕ × Label → Bool) (ps : List (List ℕ × Label)) (l : Label) → AllScalar ps → option_map (λ p. p.1) (find f ps) ≡ Some l → is_scalar l ≡ true
found-scalar f [] l h e = absurd cc
found-scalar f (p ∷ ps) l h e = by (f p) e (λ g. found-scalar f ps l h.1 g)
  where
    by : (b : Bool) → option_map (λ q. q.1) (cond b (Some p) (find f ps)) ≡ Some l → (option_map (λ q. q.1) (find f ps) ≡ Some l → is_scalar l ≡ true) → is_scalar l ≡ true
    by true g k = ap is_scalar (sym (same_Some p.1 l g)) ∙ h.0
    by false g k = k g

all-scalar : AllScalar primitives
all-scalar = (refl, (refl, (refl, (refl, (refl, (refl, (refl, (refl, (refl, (refl, (refl, (refl, (refl, (refl, (refl, tt)))))))))))))))

name-fine : (w : List ℕ) → Fine (name_token w)
name-fine w = by (keyword_named w) (primitive_named w) (λ l e. found-scalar (λ p. bytes_eq w p.0) primitives l all-scalar e)
  where
    by : (k : Option Keyword) (p : Option Label) → ((l : Label) → p ≡ Some l → is_scalar l ≡ true) → Fine (elim k [ Some x ↦ keyword x | None ↦ elim p [ Some y ↦ primitive y | None ↦ name w ] ])
    by (Some x) p h = tt
    by None (Some y) h = h y refl
    by None None h = tt

in-front : (t : Option Token) (ts : Option (List Token)) (all : List Token) → in_front t ts ≡ Some all → ((x : Token) → t ≡ Some x → Fine x) → ((rest : List Token) → ts ≡ Some rest → AllFine rest) → AllFine all
in-front None ts all e f g = absurd cc
in-front (Some x) None all e f g = absurd cc
in-front (Some x) (Some rest) all e f g = subst AllFine (same_Some (x ∷ rest) all e) (f x refl, g rest refl)

word-fine : (w : List ℕ) (x : Token) → word_token w ≡ Some x → Fine x
word-fine w x e = by (list_all is_digit w) (option_map_or is_digit (slice_get w 0) false) e
  where
    by : (a b : Bool) → (if a then Some (number (number_from 0 w)) else (if b then None else Some (name_token w))) ≡ Some x → Fine x
    by true b g = subst Fine (same_Some (number (number_from 0 w)) x g) tt
    by false true g = absurd cc
    by false false g = subst Fine (same_Some (name_token w) x g) (name-fine w)

lifetime-fine : (o : Option Token) (x : Token) → as_lifetime o ≡ Some x → Fine x
lifetime-fine (Some (name n)) x e = subst Fine (same_Some (lifetime n) x e) tt
lifetime-fine (Some (keyword k)) x e = absurd cc
lifetime-fine (Some (primitive k)) x e = absurd cc
lifetime-fine (Some (lifetime k)) x e = absurd cc
lifetime-fine (Some (variable k)) x e = absurd cc
lifetime-fine (Some (number k)) x e = absurd cc
lifetime-fine (Some (sign k)) x e = absurd cc
lifetime-fine (Some arrow) x e = absurd cc
lifetime-fine None x e = absurd cc

variable-fine : (o : Option Token) (x : Token) → as_variable o ≡ Some x → Fine x
variable-fine (Some (name n)) x e = subst Fine (same_Some (variable n) x e) tt
variable-fine (Some (keyword k)) x e = absurd cc
variable-fine (Some (primitive k)) x e = absurd cc
variable-fine (Some (lifetime k)) x e = absurd cc
variable-fine (Some (variable k)) x e = absurd cc
variable-fine (Some (number k)) x e = absurd cc
variable-fine (Some (sign k)) x e = absurd cc
variable-fine (Some arrow) x e = absurd cc
variable-fine None x e = absurd cc

sign-fine : (o : Option Sign) (x : Token) → option_map sign o ≡ Some x → Fine x
sign-fine None x e = absurd cc
sign-fine (Some s) x e = subst Fine (same_Some (sign s) x e) tt

tokens-fine : (ps : List LinePiece) (ts : List Token) → tokens_from ps ≡ Some ts → AllFine ts
tokens-fine [] ts e = subst AllFine (same_Some [] ts e) tt
tokens-fine (word w ∷ ps) ts e = in-front (word_token w) (tokens_from ps) ts e (λ x g. word-fine w x g) (λ rest g. tokens-fine ps rest g)
tokens-fine (quoted w ∷ ps) ts e = in-front (as_lifetime (word_token w)) (tokens_from ps) ts e (λ x g. lifetime-fine (word_token w) x g) (λ rest g. tokens-fine ps rest g)
tokens-fine (queried w ∷ ps) ts e = in-front (as_variable (word_token w)) (tokens_from ps) ts e (λ x g. variable-fine (word_token w) x g) (λ rest g. tokens-fine ps rest g)
tokens-fine (pointing ∷ ps) ts e = in-front (Some arrow) (tokens_from ps) ts e (λ x g. subst Fine (same_Some arrow x g) tt) (λ rest g. tokens-fine ps rest g)
tokens-fine (byte b ∷ ps) ts e = by (b == 32) e (λ rest g. tokens-fine ps rest g)
  where
    by : (s : Bool) → (if s then tokens_from ps else in_front (sign_token b) (tokens_from ps)) ≡ Some ts → ((rest : List Token) → tokens_from ps ≡ Some rest → AllFine rest) → AllFine ts
    by true g h = h ts g
    by false g h = in-front (sign_token b) (tokens_from ps) ts g (λ x q. sign-fine (sign_at b) x q) h

-- a written line has primitive types alone for primitive tokens
pub written-fine : (line : List ℕ) (w : WrittenLine) → IsSpelled line w → AllFine (written_spelling w)
unfolding tokens_of
written-fine line w s = tokens-fine (pieces line) (written_spelling w) s

-- ---- parts of what is fine
-- the last of them
pub fine-behind : (xs ys : List Token) → AllFine (xs ++ ys) → AllFine ys
fine-behind [] ys h = h
fine-behind (x ∷ xs) ys h = fine-behind xs ys h.1

-- the first of them
pub fine-front : (xs ys : List Token) → AllFine (xs ++ ys) → AllFine xs
fine-front [] ys h = tt
fine-front (x ∷ xs) ys h = (h.0, fine-front xs ys h.1)

-- ---- types
mutual
  pub scalars : (t : TypeTree) → AllFine (type_spelling t) → Scalars t
  scalars (of_primitive p) f = f.0
  scalars never_type f = tt
  scalars (variable_type n) f = tt
  scalars (named n args) f = scalar-args args f.1
  scalars (reference_to l m t) f = scalars t (fine-behind (mut_spelling m) (type_spelling t) (fine-behind (lifetime_spelling l) (mut_spelling m ++ type_spelling t) f.1))
  scalars (pointer_to m t) f = scalars t f.1.1
  scalars (slice_of t) f = scalars t (fine-front (type_spelling t) _ f.1)
  scalars (array_of t n) f = scalars t (fine-front (type_spelling t) _ f.1)
  scalars (tuple_of ts) f = scalar-tuple ts f.1
  scalars (fn_of b ts) f = scalar-inputs ts (fine-behind (binder_spelling b) _ f).1.1
  scalars (fn_to b ts r) f =
      let g = (fine-behind (binder_spelling b) _ f).1.1 in
      (scalar-inputs ts (fine-front (inputs_spelling ts) (arrow ∷ type_spelling r) g), scalars r (fine-behind (inputs_spelling ts) (arrow ∷ type_spelling r) g).1)
  scalars (dyn_of i is) f = (scalar-item i (fine-front (item_spelling i) (more_items is) f.1), scalar-items is (fine-behind (item_spelling i) (more_items is) f.1))

  scalar-tuple : (ts : Types) → AllFine (tuple_spelling ts) → ScalarTypes ts
  scalar-tuple no_types f = tt
  scalar-tuple (and_type t ts) f = (scalars t (fine-front (type_spelling t) (second_item ts) f), scalar-second ts (fine-behind (type_spelling t) (second_item ts) f))

  scalar-second : (ts : Types) → AllFine (second_item ts) → ScalarTypes ts
  scalar-second no_types f = tt
  scalar-second (and_type t ts) f = (scalars t (fine-front (type_spelling t) (more_types ts) f.1), scalar-more ts (fine-behind (type_spelling t) (more_types ts) f.1))

  scalar-inputs : (ts : Types) → AllFine (inputs_spelling ts) → ScalarTypes ts
  scalar-inputs no_types f = tt
  scalar-inputs (and_type t ts) f = (scalars t (fine-front (type_spelling t) (more_types ts) f), scalar-more ts (fine-behind (type_spelling t) (more_types ts) f))

  scalar-more : (ts : Types) → AllFine (more_types ts) → ScalarTypes ts
  scalar-more no_types f = tt
  scalar-more (and_type t ts) f = (scalars t (fine-front (type_spelling t) (more_types ts) f.1), scalar-more ts (fine-behind (type_spelling t) (more_types ts) f.1))

  pub scalar-args : (args : Args) → AllFine (args_spelling args) → ScalarArgs args
  scalar-args no_args f = tt
  scalar-args (and_arg a args) f = (scalar-arg a (fine-front (arg_spelling a) (more_args args) f.1), scalar-others args (fine-behind (arg_spelling a) (more_args args) f.1))

  scalar-others : (args : Args) → AllFine (more_args args) → ScalarArgs args
  scalar-others no_args f = tt
  scalar-others (and_arg a args) f = (scalar-arg a (fine-front (arg_spelling a) (more_args args) f.1), scalar-others args (fine-behind (arg_spelling a) (more_args args) f.1))

  scalar-arg : (a : Arg) → AllFine (arg_spelling a) → ScalarArg a
  scalar-arg (lifetime_arg n) f = tt
  scalar-arg (number_arg n) f = tt
  scalar-arg (type_arg t) f = scalars t f

  scalar-item : (i : Item) → AllFine (item_spelling i) → ScalarItem i
  scalar-item (bound_item b n args) f = scalar-args args (fine-behind (binder_spelling b) (name n ∷ args_spelling args) f).1
  scalar-item (lifetime_item n) f = tt

  scalar-items : (is : DynBounds) → AllFine (more_items is) → ScalarItems is
  scalar-items no_items f = tt
  scalar-items (and_item i is) f = (scalar-item i (fine-front (item_spelling i) (more_items is) f.1), scalar-items is (fine-behind (item_spelling i) (more_items is) f.1))

-- ---- lines
abbrev pub ScalarBounds : List Bound → Type 0
ScalarBounds [] = Unit {0}
ScalarBounds (b ∷ bs) = ScalarArgs b.args × ScalarBounds bs

abbrev pub ScalarClause : Clause → Type 0
ScalarClause k = Scalars k.subject × ScalarArgs k.bound.args

abbrev pub ScalarClauses : List Clause → Type 0
ScalarClauses [] = Unit {0}
ScalarClauses (k ∷ ks) = ScalarClause k × ScalarClauses ks

scalar-fields : (fs : Types) → AllFine (fields_spelling fs) → ScalarTypes fs
scalar-fields no_types f = tt
scalar-fields (and_type t ts) f = (scalars t (fine-front (type_spelling t) (more_types ts) f.1), scalar-more ts (fine-behind (type_spelling t) (more_types ts) f.1))

scalar-bounds : (bs : List Bound) → AllFine (behind words.plus (map bound_spelling bs)) → ScalarBounds bs
scalar-bounds [] f = tt
scalar-bounds (b ∷ bs) f =
    (scalar-args b.args (fine-front (bound_spelling b) (behind words.plus (map bound_spelling bs)) f.1).1, scalar-bounds bs (fine-behind (bound_spelling b) (behind words.plus (map bound_spelling bs)) f.1))

first-bounds : (bs : List Bound) → AllFine (bounds_spelling (map bound_spelling bs)) → ScalarBounds bs
first-bounds [] f = tt
first-bounds (b ∷ bs) f =
    (scalar-args b.args (fine-front (bound_spelling b) (behind words.plus (map bound_spelling bs)) f.1).1, scalar-bounds bs (fine-behind (bound_spelling b) (behind words.plus (map bound_spelling bs)) f.1))

scalar-clause : (k : Clause) → AllFine (clause_spelling k) → ScalarClause k
scalar-clause k f =
    (scalars k.subject (fine-front (type_spelling k.subject) (sign colon ∷ bound_spelling k.bound) f), scalar-args k.bound.args (fine-behind (type_spelling k.subject) (sign colon ∷ bound_spelling k.bound) f).1.1)

scalar-clauses : (ks : List Clause) → AllFine (behind comma (map clause_spelling ks)) → ScalarClauses ks
scalar-clauses [] f = tt
scalar-clauses (k ∷ ks) f = (scalar-clause k (fine-front (clause_spelling k) (behind comma (map clause_spelling ks)) f.1), scalar-clauses ks (fine-behind (clause_spelling k) (behind comma (map clause_spelling ks)) f.1))

first-clauses : (ks : List Clause) → AllFine (where_spelling (map clause_spelling ks)) → ScalarClauses ks
first-clauses [] f = tt
first-clauses (k ∷ ks) f = (scalar-clause k (fine-front (clause_spelling k) (behind comma (map clause_spelling ks)) f.1), scalar-clauses ks (fine-behind (clause_spelling k) (behind comma (map clause_spelling ks)) f.1))

pub struct-scalars : (g : Bool) (n : List ℕ) (ps : Params) (fs : Types) → AllFine (spelling (struct_line g n ps fs)) → ScalarTypes fs
struct-scalars g n ps fs f =
    scalar-fields fs (fine-behind (params_spelling ps) (fields_spelling fs) (fine-behind (if_so g fundamental_word) _ f).1.1)

pub trait-scalars : (g a : Bool) (n : List ℕ) (ps : Params) (bs : List Bound) → AllFine (spelling (trait_line g a n ps bs)) → ScalarBounds bs
trait-scalars g a n ps bs f =
    first-bounds bs
    (fine-behind (params_spelling ps) (bounds_spelling (map bound_spelling bs)) (fine-behind (if_so a auto_word) _ (fine-behind (if_so g fundamental_word) _ f)).1.1)

pub impl-scalars : (ps : Params) (h : Clause) (ks : List Clause) → AllFine (spelling (impl_line ps h ks)) → ScalarClause h × ScalarClauses ks
impl-scalars ps h ks f =
    let one = fine-behind (params_spelling ps) (bound_spelling h.bound ++ keyword for_word ∷ (type_spelling h.subject ++ where_spelling (map clause_spelling ks))) f.1 in
    let two = fine-behind (bound_spelling h.bound) (keyword for_word ∷ (type_spelling h.subject ++ where_spelling (map clause_spelling ks))) one in (
      (scalars h.subject (fine-front (type_spelling h.subject) (where_spelling (map clause_spelling ks)) two.1), scalar-args h.bound.args (fine-front (bound_spelling h.bound) (keyword for_word ∷ (type_spelling h.subject ++ where_spelling (map clause_spelling ks))) one).1),
      first-clauses ks (fine-behind (type_spelling h.subject) (where_spelling (map clause_spelling ks)) two.1),
    )

pub prove-scalars : (c : List ℕ) (ps : Params) (a : Clause) (bs ks : List Clause) → AllFine (spelling (prove_line c ps a bs ks)) → ScalarClauses (a ∷ bs) × ScalarClauses ks
prove-scalars c ps a bs ks f =
    let others : List Token = behind comma (map clause_spelling bs) in
    let more : List Token = where_spelling (map clause_spelling ks) in
    let all = fine-behind (params_spelling ps) (clause_spelling a ++ (others ++ more)) f.1.1.1 in
    let rest = fine-behind (clause_spelling a) (others ++ more) all in
    ((scalar-clause a (fine-front (clause_spelling a) (others ++ more) all), scalar-clauses bs (fine-front others more rest)), first-clauses ks (fine-behind others more rest))

pub refute-scalars : (c : List ℕ) (ps : Params) (a : Clause) (bs : List Clause) → AllFine (spelling (refute_line c ps a bs)) → ScalarClauses (a ∷ bs)
refute-scalars c ps a bs f =
    let others : List Token = behind comma (map clause_spelling bs) in
    let all = fine-behind (params_spelling ps) (clause_spelling a ++ others) f.1.1.1 in
    (scalar-clause a (fine-front (clause_spelling a) others all), scalar-clauses bs (fine-behind (clause_spelling a) others all))
