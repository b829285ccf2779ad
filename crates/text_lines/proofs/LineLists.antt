-- The tokens of the lines for which a line with types stands are those that these lines are spelled with.
use Rattle.std.proofs.Common.{◌≡◌, ℕ, Bool, List, [], ◌∷◌, ◌++◌, length, drop, Some, refl, sym, ap, ◌∙◌, arith}
use Rattle.std.specs.Prelude.{map, if◌then◌else◌, ◌==◌}
use Rattle.std.specs.List.{flat_map}
use Rattle.std.proofs.lemmas.Bool.{ne_eqb}
use Rattle.std.proofs.lemmas.Option.{same_Some}
use Rattle.std.proofs.lemmas.List.{map-append, drop-map}
use Rattle.text_language.specs.Words.{comma, colon, fundamental_word, auto_word, trait_word, impl_word, for_word, prove_word, refute_word, in_word}
use Rattle.text_language.specs.Tokens.{Token, keyword, name, sign}
use Rattle.text_language.specs.Promised.Syntax.{TypeTree, Args, no_args, and_arg, Params, Bound, Clause, trait_line, impl_line, prove_line, refute_line, Binding, WrittenBound, WrittenClause, WrittenLine, written_crate, written_struct, written_trait, written_impl, written_prove, written_refute, written_later, written_supers}
use Rattle.text_language.specs.Promised.Desugared.{companion_name, value_name, and_value, bounds_of, clauses_of, asked_of, asking, desugared}
use Rattle.text_language.specs.Syntax.{type_spelling, arg_spelling, arg_spellings, if_so, in_angles, behind, bounds_spelling, where_spelling, params_spelling, bound_spelling, clause_spelling, spelling}
use Rattle.text_language.specs.Agreement.{plain_bound, plain_clause}
use Rattle.text_language.proofs.PlainLines.{args-are}
use Rattle.text_lines.specs.Statement.{lifetime_param, type_param, const_param, param_list}
use Rattle.text_lines.specs.WrittenParts.{argument, binding, WrittenTokens, trait_tokens, impl_tokens, prove_tokens, refute_tokens}
use Rattle.text_lines.specs.WrittenLines.{binding_tokens, bound_tokens, clause_tokens, written_tokens}
use Rattle.text_lines.specs.LineLists.{arguments_in, bindings_in, plain_list, value_list, companion_list, bound_lists, clause_lists, if_bound, asked_lists, params_list, with_value, trait_list, asking_list, line_lists}
use Rattle.text_lines.proofs.ParamOrder.{list-spelled}

-- ---- bounds
pub arguments-are : (ss : List (List Token)) (vs : List Binding) → arguments_in (map argument ss ++ map (λ v. binding (binding_tokens v)) vs) ≡ ss
arguments-are [] [] = refl
arguments-are [] (v ∷ vs) = arguments-are [] vs
arguments-are (s ∷ ss) vs = ap (λ z. s ∷ z) (arguments-are ss vs)

pub bindings-are : (ss : List (List Token)) (vs : List Binding) → bindings_in (map argument ss ++ map (λ v. binding (binding_tokens v)) vs) ≡ map binding_tokens vs
bindings-are [] [] = refl
bindings-are [] (v ∷ vs) = ap (λ z. binding_tokens v ∷ z) (bindings-are [] vs)
bindings-are (s ∷ ss) vs = bindings-are ss vs

plain-is : (b : WrittenBound) → plain_list (bound_tokens b) ≡ bound_spelling b.bound
plain-is b = ap (λ z. name b.bound.trait ∷ z) (ap in_angles (arguments-are (arg_spellings b.bound.args) b.bindings) ∙ args-are b.bound.args)

and-value-is : (args : Args) (t : TypeTree) → arg_spellings (and_value args t) ≡ arg_spellings args ++ value_list (type_spelling t) ∷ []
and-value-is no_args t = refl
and-value-is (and_arg a args) t = ap (λ z. arg_spelling a ∷ z) (and-value-is args t)

-- the bound by a companion
abbrev companion : Bound → Binding → Bound
companion b v = record { trait = companion_name b.trait v.name; args = and_value b.args v.value }

companion-is : (b : WrittenBound) (v : Binding) → companion_list (bound_tokens b) (binding_tokens v) ≡ bound_spelling (companion b.bound v)
companion-is b v =
    ap (λ z. name (companion_name b.bound.trait v.name) ∷ z) (ap (λ z. in_angles (z ++ value_list (type_spelling v.value) ∷ [])) (arguments-are (arg_spellings b.bound.args) b.bindings)
    ∙ ap in_angles (sym (and-value-is b.bound.args v.value)) ∙ args-are (and_value b.bound.args v.value))

companions-are : (b : WrittenBound) (vs : List Binding) → map (companion_list (bound_tokens b)) (map binding_tokens vs) ≡ map bound_spelling (map (companion b.bound) vs)
companions-are b [] = refl
companions-are b (v ∷ vs) =
    ap (λ z. z ∷ map (companion_list (bound_tokens b)) (map binding_tokens vs)) (companion-is b v) ∙ ap (λ z. bound_spelling (companion b.bound v) ∷ z) (companions-are b vs)

-- the bound itself and its companions
with-companions : (b : WrittenBound) (vs : List Binding)
    → plain_list (bound_tokens b) ∷ map (companion_list (bound_tokens b)) (map binding_tokens vs) ≡ map bound_spelling (b.bound ∷ map (companion b.bound) vs)
with-companions b vs =
    ap (λ z. z ∷ map (companion_list (bound_tokens b)) (map binding_tokens vs)) (plain-is b) ∙ ap (λ z. bound_spelling b.bound ∷ z) (companions-are b vs)

bounds-are : (b : WrittenBound) → bound_lists (bound_tokens b) ≡ map bound_spelling (bounds_of b)
bounds-are b =
    ap (λ z. plain_list (bound_tokens b) ∷ map (companion_list (bound_tokens b)) z) (bindings-are (arg_spellings b.bound.args) b.bindings) ∙ with-companions b b.bindings

-- ---- clauses
subjects-are : (t : TypeTree) (bs : List Bound) → map (λ b. type_spelling t ++ sign colon ∷ b) (map bound_spelling bs) ≡ map clause_spelling (map (λ b. record { subject = t; bound = b }) bs)
subjects-are t [] = refl
subjects-are t (b ∷ bs) = ap (λ z. (type_spelling t ++ sign colon ∷ bound_spelling b) ∷ z) (subjects-are t bs)

clauses-are : (k : WrittenClause) → clause_lists (clause_tokens k) ≡ map clause_spelling (clauses_of k)
clauses-are k = ap (map (λ b. type_spelling k.subject ++ sign colon ∷ b)) (bounds-are k.bound) ∙ subjects-are k.subject (bounds_of k.bound)

but-plain : (vs : List Binding) (ks : List Clause) → if_bound (map binding_tokens vs) (map clause_spelling ks) ≡ map clause_spelling (if length vs == 0 then ks else drop 1 ks)
but-plain [] ks = refl
but-plain (v ∷ vs) ks =
    drop-map clause_spelling 1 ks ∙ ap (λ t. map clause_spelling (if t then ks else drop 1 ks)) (sym (ne_eqb (length (v ∷ vs)) 0 (λ e. omega (arith, e))))

asked-are : (k : WrittenClause) → asked_lists (clause_tokens k) ≡ map clause_spelling (asked_of k)
asked-are k =
    ap (λ z. if_bound z (clause_lists (clause_tokens k))) (bindings-are (arg_spellings k.bound.bound.args) k.bound.bindings)
    ∙ ap (if_bound (map binding_tokens k.bound.bindings)) (clauses-are k) ∙ but-plain k.bound.bindings (clauses_of k)

-- ---- lists of them
each-are : {A B C : Type 0} (f : B → List (List Token)) (g : A → B) (h : C → List Token) (k : A → List C) → ((a : A) → f (g a) ≡ map h (k a)) → (xs : List A) → flat_map f (map g xs) ≡ map h (flat_map k xs)
each-are f g h k same [] = refl
each-are f g h k same (x ∷ xs) =
    ap (λ z. z ++ flat_map f (map g xs)) (same x) ∙ ap (λ z. map h (k x) ++ z) (each-are f g h k same xs) ∙ sym (map-append h (k x) (flat_map k xs))

all-bounds : (bs : List WrittenBound) → flat_map bound_lists (map bound_tokens bs) ≡ map bound_spelling (flat_map bounds_of bs)
all-bounds bs = each-are bound_lists bound_tokens bound_spelling bounds_of bounds-are bs

all-clauses : (ks : List WrittenClause) → flat_map clause_lists (map clause_tokens ks) ≡ map clause_spelling (flat_map clauses_of ks)
all-clauses ks = each-are clause_lists clause_tokens clause_spelling clauses_of clauses-are ks

all-asked : (ks : List WrittenClause) → flat_map asked_lists (map clause_tokens ks) ≡ map clause_spelling (flat_map asked_of ks)
all-asked ks = each-are asked_lists clause_tokens clause_spelling asked_of asked-are ks

-- ---- parameters
params-are : (p : Params) → params_list (param_list p) ≡ params_spelling p
params-are p = ap in_angles (list-spelled p.lifetimes p.types p.consts)

with-value-is : (ls ts cs : List (List ℕ))
    → with_value (map lifetime_param ls ++ (map type_param ts ++ map const_param cs)) ≡ map lifetime_param ls ++ (map type_param (ts ++ value_name ∷ []) ++ map const_param cs)
with-value-is [] [] [] = refl
with-value-is [] [] (c ∷ cs) = refl
with-value-is [] (t ∷ ts) cs = ap (λ z. type_param t ∷ z) (with-value-is [] ts cs)
with-value-is (l ∷ ls) ts cs = ap (λ z. lifetime_param l ∷ z) (with-value-is ls ts cs)

abbrev valued : Params → Params
valued p = record p { types = p.types ++ value_name ∷ [] }

valued-are : (p : Params) → params_list (with_value (param_list p)) ≡ params_spelling (valued p)
valued-are p = ap params_list (with-value-is p.lifetimes p.types p.consts) ∙ params-are (valued p)

-- ---- lines
abbrev in_trait : Bool → Bool → List ℕ → List Token → List Token → List Token
in_trait f a n ps end = if_so f fundamental_word ++ (if_so a auto_word ++ keyword trait_word ∷ name n ∷ (ps ++ end))

companion-traits : (f a : Bool) (n : List ℕ) (p : Params) (ts : List (List ℕ))
    → map (λ t. trait_list f a (companion_name n t) (with_value (param_list p)) []) ts ≡ map spelling (map (λ t. trait_line f a (companion_name n t) (valued p) []) ts)
companion-traits f a n p [] = refl
companion-traits f a n p (t ∷ ts) =
    ap (λ z. in_trait f a (companion_name n t) z [] ∷ map (λ u. trait_list f a (companion_name n u) (with_value (param_list p)) []) ts) (valued-are p)
    ∙ ap (λ z. spelling (trait_line f a (companion_name n t) (valued p) []) ∷ z) (companion-traits f a n p ts)

trait-lists : (f a : Bool) (n : List ℕ) (p : Params) (bs : List WrittenBound) (ts : List (List ℕ))
    → line_lists (trait_tokens f a n (param_list p) (map bound_tokens bs) ts) ≡ map spelling (desugared (written_trait f a n p bs ts))
trait-lists f a n p bs ts =
    let rest = map (λ t. trait_list f a (companion_name n t) (with_value (param_list p)) []) ts in
    ap (λ z. in_trait f a n z (bounds_spelling (flat_map bound_lists (map bound_tokens bs))) ∷ rest) (params-are p)
    ∙ ap (λ z. in_trait f a n (params_spelling p) (bounds_spelling z) ∷ rest) (all-bounds bs)
    ∙ ap (λ z. spelling (trait_line f a n p (flat_map bounds_of bs)) ∷ z) (companion-traits f a n p ts)

abbrev in_impl : List Token → List Token → List (List Token) → List Token → List Token
in_impl ps t ks b = keyword impl_word ∷ (ps ++ (b ++ keyword for_word ∷ (t ++ where_spelling ks)))

impls-are : (p : Params) (t : TypeTree) (ks : List Clause) (bs : List Bound)
    → map (in_impl (params_spelling p) (type_spelling t) (map clause_spelling ks)) (map bound_spelling bs) ≡ map spelling (map (λ k. impl_line p k ks) (map (λ b. record { subject = t; bound = b }) bs))
impls-are p t ks [] = refl
impls-are p t ks (b ∷ bs) = ap (λ z. in_impl (params_spelling p) (type_spelling t) (map clause_spelling ks) (bound_spelling b) ∷ z) (impls-are p t ks bs)

twice-mapped : {A B C : Type 0} (g : B → C) (f : A → B) (xs : List A) → map (λ x. g (f x)) xs ≡ map g (map f xs)
twice-mapped g f [] = refl
twice-mapped g f (x ∷ xs) = ap (λ z. g (f x) ∷ z) (twice-mapped g f xs)

impl-lists : (p : Params) (h : WrittenClause) (ks : List WrittenClause)
    → line_lists (impl_tokens (param_list p) (clause_tokens (plain_clause (record { subject = h.subject; bound = h.bound.bound }))) (map clause_tokens ks) (map binding_tokens h.bound.bindings)) ≡ map spelling (desugared (written_impl p h ks))
impl-lists p h ks =
    let b = plain_bound h.bound.bound in
    let heads = plain_list (bound_tokens b) ∷ map (companion_list (bound_tokens b)) (map binding_tokens h.bound.bindings) in
    let one = in_impl (params_list (param_list p)) (type_spelling h.subject) (flat_map clause_lists (map clause_tokens ks)) in
    ap (λ z. one (plain_list (bound_tokens b)) ∷ z) (twice-mapped one (companion_list (bound_tokens b)) (map binding_tokens h.bound.bindings))
    ∙ ap (λ z. map (in_impl z (type_spelling h.subject) (flat_map clause_lists (map clause_tokens ks))) heads) (params-are p)
    ∙ ap (λ z. map (in_impl (params_spelling p) (type_spelling h.subject) z) heads) (all-clauses ks)
    ∙ ap (map (in_impl (params_spelling p) (type_spelling h.subject) (map clause_spelling (flat_map clauses_of ks)))) (with-companions b h.bound.bindings)
    ∙ impls-are p h.subject (flat_map clauses_of ks) (bounds_of h.bound)

abbrev in_prove : List ℕ → List Token → List (List Token) → List Token → List (List Token) → List Token
in_prove c ps ks q qs = keyword prove_word ∷ keyword in_word ∷ name c ∷ (ps ++ (q ++ (behind comma qs ++ where_spelling ks)))

proves-are : (c : List ℕ) (p : Params) (ks qs : List Clause) → asking_list (in_prove c (params_spelling p) (map clause_spelling ks)) (map clause_spelling qs) ≡ map spelling (asking (λ k more. prove_line c p k more ks) qs)
proves-are c p ks [] = refl
proves-are c p ks (q ∷ qs) = refl

prove-lists : (c : List ℕ) (p : Params) (a : WrittenClause) (bs ks : List WrittenClause)
    → line_lists (prove_tokens c (param_list p) (clause_tokens a) (map clause_tokens bs) (map clause_tokens ks)) ≡ map spelling (desugared (written_prove c p a bs ks))
prove-lists c p a bs ks =
    let asked = flat_map asked_lists (map clause_tokens (a ∷ bs)) in
    ap (λ z. asking_list (in_prove c z (flat_map clause_lists (map clause_tokens ks))) asked) (params-are p)
    ∙ ap (λ z. asking_list (in_prove c (params_spelling p) z) asked) (all-clauses ks)
    ∙ ap (asking_list (in_prove c (params_spelling p) (map clause_spelling (flat_map clauses_of ks)))) (all-asked (a ∷ bs))
    ∙ proves-are c p (flat_map clauses_of ks) (flat_map asked_of (a ∷ bs))

abbrev in_refute : List ℕ → List Token → List Token → List (List Token) → List Token
in_refute c ps q qs = keyword refute_word ∷ keyword in_word ∷ name c ∷ (ps ++ (q ++ behind comma qs))

refutes-are : (c : List ℕ) (p : Params) (qs : List Clause) → asking_list (in_refute c (params_spelling p)) (map clause_spelling qs) ≡ map spelling (asking (refute_line c p) qs)
refutes-are c p [] = refl
refutes-are c p (q ∷ qs) = refl

refute-lists : (c : List ℕ) (p : Params) (a : WrittenClause) (bs : List WrittenClause)
    → line_lists (refute_tokens c (param_list p) (clause_tokens a) (map clause_tokens bs)) ≡ map spelling (desugared (written_refute c p a bs))
refute-lists c p a bs =
    ap (λ z. asking_list (in_refute c z) (flat_map asked_lists (map clause_tokens (a ∷ bs)))) (params-are p)
    ∙ ap (asking_list (in_refute c (params_spelling p))) (all-asked (a ∷ bs)) ∙ refutes-are c p (flat_map asked_of (a ∷ bs))

pub lists-are : (w : WrittenLine) (x : WrittenTokens) → written_tokens w ≡ Some x → line_lists x ≡ map spelling (desugared w)
lists-are (written_trait f a n p bs ts) x e = ap line_lists (sym (same_Some _ x e)) ∙ trait-lists f a n p bs ts
lists-are (written_impl p h ks) x e = ap line_lists (sym (same_Some _ x e)) ∙ impl-lists p h ks
lists-are (written_prove c p a bs ks) x e = ap line_lists (sym (same_Some _ x e)) ∙ prove-lists c p a bs ks
lists-are (written_refute c p a bs) x e = ap line_lists (sym (same_Some _ x e)) ∙ refute-lists c p a bs
lists-are (written_crate n us) x e = absurd cc
lists-are (written_struct f n p fs) x e = absurd cc
lists-are (written_later n) x e = absurd cc
lists-are (written_supers n) x e = absurd cc
