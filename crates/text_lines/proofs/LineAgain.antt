-- Each line is what its own spelling is read as. So no two lines are spelled alike, and what is read as no line is none.
use Rattle.std.proofs.Common.{◌≡◌, ℕ, zero, suc, ◌+◌, ◌<◌, ◌≤◌, Bool, true, false, List, [], ◌∷◌, ◌++◌, length, Option, Some, None, refl, sym, ap, ◌∙◌, subst, append_assoc, append-nil, arith}
use Rattle.std.specs.Prelude.{map}
use Rattle.std.specs.Option.{option_map}
use Rattle.std.proofs.lemmas.Option.{same_Some}
use Rattle.std.proofs.lemmas.List.{length-append}
use Rattle.text_language.specs.Words.{comma, plus, open_angle, close_angle, colon, for_word, const_word, dyn_word}
use Rattle.text_language.specs.Tokens.{Token, keyword, name, lifetime, sign}
use Rattle.text_language.specs.Promised.Syntax.{TypeTree, of_primitive, never_type, variable_type, named, reference_to, pointer_to, slice_of, array_of, tuple_of, fn_of, fn_to, dyn_of, Types, no_types, and_type, Item, bound_item, DynBounds, no_items, and_item, Params, Bound, Clause, Line, crate_line, struct_line, trait_line, impl_line, prove_line, refute_line, later_line, supers_line}
use Rattle.text_language.specs.Syntax.{no_params, type_spelling, more_items, more_names, uses_spelling, param_spellings, behind, in_angles, params_spelling, bound_spelling, clause_spelling, bounds_spelling, where_spelling, fields_spelling, spelling}
use Rattle.text_lines.specs.Follows.{IsCompleteType}
use Rattle.text_lines.specs.TokenSteps.{NoAngle}
use Rattle.text_lines.proofs.TypeAt.{◌>>=◌, type_at, bound_at, clause_at, type_again, bound_again, clause_again}
use Rattle.text_lines.proofs.LineAt.{names_at, uses_at, Param, lifetime_param, type_param, const_param, param_spelling, param_list, param_first, more_params, consts_of, with_type, with_lifetime, with_consts, types_of, ordered, in_order, params_at, as_fields, fields_at, bound_first, items_bounds, as_bounds, bounds_at, clauses_at, more_clauses, where_at, further_at, after_for, if_end, struct_at, trait_at, impl_at, prove_at, refute_at, line_at}

-- ---- names
names-again : (ns : List (List ℕ)) → names_at (more_names ns) ≡ Some ns
names-again [] = refl
names-again (n ∷ ns) = ap (option_map (λ xs. n ∷ xs)) (names-again ns)

uses-again : (ns : List (List ℕ)) → uses_at (uses_spelling ns) ≡ Some ns
uses-again [] = refl
uses-again (n ∷ ns) = ap (option_map (λ xs. n ∷ xs)) (names-again ns)

-- ---- parameters
consts-again : (cs : List (List ℕ)) → consts_of (map const_param cs) ≡ Some cs
consts-again [] = refl
consts-again (c ∷ cs) = ap (option_map (λ ns. c ∷ ns)) (consts-again cs)

types-again : (ts cs : List (List ℕ)) → types_of (map type_param ts ++ map const_param cs) ≡ Some (record { lifetimes = []; types = ts; consts = cs })
types-again [] [] = refl
types-again [] (c ∷ cs) = ap (option_map with_consts) (consts-again (c ∷ cs))
types-again (t ∷ ts) cs = ap (option_map (with_type t)) (types-again ts cs)

ordered-again : (ls ts cs : List (List ℕ)) → ordered (map lifetime_param ls ++ (map type_param ts ++ map const_param cs)) ≡ Some (record { lifetimes = ls; types = ts; consts = cs })
ordered-again [] [] [] = refl
ordered-again [] [] (c ∷ cs) = types-again [] (c ∷ cs)
ordered-again [] (t ∷ ts) cs = types-again (t ∷ ts) cs
ordered-again (l ∷ ls) ts cs = ap (option_map (with_lifetime l)) (ordered-again ls ts cs)

more-again : (ps : List Param) (r : List Token) → more_params (behind comma (map param_spelling ps) ++ sign close_angle ∷ r) ≡ Some (ps, r)
more-again [] r = refl
more-again (lifetime_param n ∷ ps) r = ap (param_first (lifetime_param n)) (more-again ps r)
more-again (type_param n ∷ ps) r = ap (param_first (type_param n)) (more-again ps r)
more-again (const_param n ∷ ps) r = ap (param_first (const_param n)) (more-again ps r)

consts-spelled : (cs : List (List ℕ)) → map (λ n. keyword const_word ∷ name n ∷ []) cs ≡ map param_spelling (map const_param cs)
consts-spelled [] = refl
consts-spelled (c ∷ cs) = ap (λ x. (keyword const_word ∷ name c ∷ []) ∷ x) (consts-spelled cs)

types-spelled : (ts cs : List (List ℕ)) → map (λ n. name n ∷ []) ts ++ map (λ n. keyword const_word ∷ name n ∷ []) cs ≡ map param_spelling (map type_param ts ++ map const_param cs)
types-spelled [] cs = consts-spelled cs
types-spelled (t ∷ ts) cs = ap (λ x. (name t ∷ []) ∷ x) (types-spelled ts cs)

params-spelled : (ls ts cs : List (List ℕ)) → param_spellings (record { lifetimes = ls; types = ts; consts = cs }) ≡ map param_spelling (map lifetime_param ls ++ (map type_param ts ++ map const_param cs))
params-spelled [] ts cs = types-spelled ts cs
params-spelled (l ∷ ls) ts cs = ap (λ x. (lifetime l ∷ []) ∷ x) (params-spelled ls ts cs)

no-params : (r : List Token) → NoAngle r → params_at r ≡ Some (no_params, r)
no-params [] h = refl
no-params (sign open_angle ∷ r) h = absurd h
no-params (_ ∷ r) h = refl

angles-again : (ps : List Param) (p : Params) (r : List Token) → NoAngle r → ordered ps ≡ Some p → params_at (in_angles (map param_spelling ps) ++ r) ≡ Some (p, r)
angles-again [] p r h e = no-params r h ∙ ap (λ q. Some (q, r)) (same_Some no_params p e)
angles-again (q ∷ ps) p r h e =
    let B = behind comma (map param_spelling ps) in
    let S = param_spelling q in
    let moved : (S ++ (B ++ sign close_angle ∷ [])) ++ r ≡ (S ++ B) ++ sign close_angle ∷ r =
    append_assoc S (B ++ sign close_angle ∷ []) r ∙ ap (λ x. S ++ x) (append_assoc B (sign close_angle ∷ []) r) ∙ sym (append_assoc S B (sign close_angle ∷ r)) in
    ap (λ x. in_order (more_params (sign comma ∷ x))) moved ∙ ap in_order (more-again (q ∷ ps) r) ∙ ap (option_map (λ (y : Params). (y, r))) e

params-again : (p : Params) (r : List Token) → NoAngle r → params_at (params_spelling p ++ r) ≡ Some (p, r)
params-again p r h =
    ap (λ x. params_at (in_angles x ++ r)) (params-spelled p.lifetimes p.types p.consts)
    ∙ angles-again (param_list p) p r h (ordered-again p.lifetimes p.types p.consts)

-- ---- fields
fields-again : (ts : Types) → fields_at (fields_spelling ts) ≡ Some ts
fields-again no_types = refl
fields-again (and_type t ts) =
    ap as_fields (ap type_at (sym (append-nil (type_spelling (fn_of [] (and_type t ts))))) ∙ type_again (fn_of [] (and_type t ts)) [] tt)

-- ---- supertraits
abbrev as_item : Bound → Item
as_item b = bound_item [] b.trait b.args

abbrev as_items : List Bound → DynBounds
as_items [] = no_items
as_items (b ∷ bs) = and_item (as_item b) (as_items bs)

items-spelled : (bs : List Bound) → more_items (as_items bs) ≡ behind plus (map bound_spelling bs)
items-spelled [] = refl
items-spelled (b ∷ bs) = ap (λ x. sign plus ∷ (bound_spelling b ++ x)) (items-spelled bs)

items-again : (bs : List Bound) → items_bounds (as_items bs) ≡ Some bs
items-again [] = refl
items-again (b ∷ bs) = ap (bound_first (Some b)) (items-again bs)

bounds-again : (bs : List Bound) → bounds_at (bounds_spelling (map bound_spelling bs)) ≡ Some bs
bounds-again [] = refl
bounds-again (b ∷ bs) =
    ap (λ x. as_bounds (type_at (keyword dyn_word ∷ (bound_spelling b ++ x)))) (sym (items-spelled bs))
    ∙ ap as_bounds (ap type_at (sym (append-nil (type_spelling (dyn_of (as_item b) (as_items bs))))) ∙ type_again (dyn_of (as_item b) (as_items bs)) [] tt)
    ∙ ap (bound_first (Some b)) (items-again bs)

-- ---- where-clauses
clause-length : (k : Clause) → 1 ≤ length (clause_spelling k)
clause-length k = let e = length-append (type_spelling k.subject) (sign colon ∷ bound_spelling k.bound) in omega (arith, e)

clauses-again : (n : ℕ) (k : Clause) (ks : List Clause) → length ks < n → clauses_at n (clause_spelling k ++ behind comma (map clause_spelling ks)) ≡ Some (k ∷ ks)
clauses-again zero k ks h = let wrong : ⊥ = omega (arith, h) in absurd wrong
clauses-again (suc n) k [] h = ap (λ x. x >>= more_clauses (clauses_at n)) (clause_again k [] tt)
clauses-again (suc n) k (j ∷ ks) h =
    ap (λ x. x >>= more_clauses (clauses_at n)) (clause_again k (behind comma (map clause_spelling (j ∷ ks))) tt)
    ∙ ap (option_map (λ xs. k ∷ xs)) (clauses-again n j ks (omega (arith, h)))

clauses-length : (ks : List Clause) → length ks ≤ length (behind comma (map clause_spelling ks))
clauses-length [] = omega arith
clauses-length (k ∷ ks) =
    let h = clauses-length ks in
    let e = length-append (clause_spelling k) (behind comma (map clause_spelling ks)) in
    omega (arith, h, e)

where-again : (ks : List Clause) → where_at (where_spelling (map clause_spelling ks)) ≡ Some ks
where-again [] = refl
where-again (k ∷ ks) =
    let ts = clause_spelling k ++ behind comma (map clause_spelling ks) in
    let e : length ts ≡ length (clause_spelling k) + length (behind comma (map clause_spelling ks)) = length-append (clause_spelling k) (behind comma (map clause_spelling ks)) in
    let one = clause-length k in
    let more = clauses-length ks in
    clauses-again (length ts) k ks (omega (arith, e, one, more))

where-follows : (ks : List Clause) → IsCompleteType (where_spelling (map clause_spelling ks))
where-follows [] = tt
where-follows (k ∷ ks) = tt

where-no-angle : (ks : List Clause) → NoAngle (where_spelling (map clause_spelling ks))
where-no-angle [] = tt
where-no-angle (k ∷ ks) = tt

-- ---- the bounds of a query after the first
abbrev NoComma : List Token → Type 0
NoComma (sign comma ∷ ts) = ⊥
NoComma _ = Unit {0}

where-no-comma : (ks : List Clause) → NoComma (where_spelling (map clause_spelling ks))
where-no-comma [] = tt
where-no-comma (k ∷ ks) = tt

further-no-angle : (bs : List Clause) (r : List Token) → NoAngle r → NoAngle (behind comma (map clause_spelling bs) ++ r)
further-no-angle [] r h = h
further-no-angle (b ∷ bs) r h = tt

none-further : (n : ℕ) (r : List Token) → NoComma r → further_at (suc n) r ≡ Some ([], r)
none-further n [] h = refl
none-further n (sign comma ∷ ts) h = absurd h
none-further n _ h = refl

further-again : (n : ℕ) (bs : List Clause) (r : List Token) → length bs < n → NoAngle r → NoComma r → further_at n (behind comma (map clause_spelling bs) ++ r) ≡ Some (bs, r)
further-again zero bs r h a c = let wrong : ⊥ = omega (arith, h) in absurd wrong
further-again (suc n) [] r h a c = none-further n r c
further-again (suc n) (b ∷ bs) r h a c =
    let F : List Token = behind comma (map clause_spelling bs) in
    ap (λ x. clause_at x >>= λ k. further_at n k.1 >>= λ ks. Some (k.0 ∷ ks.0, ks.1)) (append_assoc (clause_spelling b) F r)
    ∙ ap (λ x. x >>= λ k. further_at n k.1 >>= λ ks. Some (k.0 ∷ ks.0, ks.1)) (clause_again b (F ++ r) (further-no-angle bs r a))
    ∙ ap (λ x. x >>= λ ks. Some (b ∷ ks.0, ks.1)) (further-again n bs r (omega (arith, h)) a c)

-- ---- a type begins with no `<`
type-no-angle : (t : TypeTree) (r : List Token) → NoAngle (type_spelling t ++ r)
type-no-angle (fn_of [] ts) r = tt
type-no-angle (fn_of (b ∷ bs) ts) r = tt
type-no-angle (fn_to [] ts u) r = tt
type-no-angle (fn_to (b ∷ bs) ts u) r = tt
type-no-angle (of_primitive p) r = tt
type-no-angle never_type r = tt
type-no-angle (variable_type n) r = tt
type-no-angle (named n args) r = tt
type-no-angle (reference_to l m t) r = tt
type-no-angle (pointer_to m t) r = tt
type-no-angle (slice_of t) r = tt
type-no-angle (array_of t n) r = tt
type-no-angle (tuple_of ts) r = tt
type-no-angle (dyn_of i is) r = tt

clause-no-angle : (k : Clause) (r : List Token) → NoAngle (clause_spelling k ++ r)
clause-no-angle k r = subst NoAngle (sym (append_assoc (type_spelling k.subject) (sign colon ∷ bound_spelling k.bound) r)) (type-no-angle k.subject (sign colon ∷ (bound_spelling k.bound ++ r)))

fields-no-angle : (ts : Types) → NoAngle (fields_spelling ts)
fields-no-angle no_types = tt
fields-no-angle (and_type t ts) = tt

bounds-no-angle : (bs : List Bound) → NoAngle (bounds_spelling (map bound_spelling bs))
bounds-no-angle [] = tt
bounds-no-angle (b ∷ bs) = tt

-- ---- lines
struct-again : (f : Bool) (n : List ℕ) (p : Params) (ts : Types) → struct_at f n (params_spelling p ++ fields_spelling ts) ≡ Some (struct_line f n p ts)
struct-again f n p ts =
    ap (λ x. x >>= λ q. fields_at q.1 >>= λ fs. Some (struct_line f n q.0 fs)) (params-again p (fields_spelling ts) (fields-no-angle ts))
    ∙ ap (λ x. x >>= λ fs. Some (struct_line f n p fs)) (fields-again ts)

trait-again : (f a : Bool) (n : List ℕ) (p : Params) (bs : List Bound) → trait_at f a n (params_spelling p ++ bounds_spelling (map bound_spelling bs)) ≡ Some (trait_line f a n p bs)
trait-again f a n p bs =
    ap (λ x. x >>= λ q. bounds_at q.1 >>= λ ys. Some (trait_line f a n q.0 ys)) (params-again p (bounds_spelling (map bound_spelling bs)) (bounds-no-angle bs))
    ∙ ap (λ x. x >>= λ ys. Some (trait_line f a n p ys)) (bounds-again bs)

impl-again : (p : Params) (h : Clause) (ks : List Clause) → impl_at (params_spelling p ++ (bound_spelling h.bound ++ keyword for_word ∷ (type_spelling h.subject ++ where_spelling (map clause_spelling ks)))) ≡ Some (impl_line p h ks)
impl-again p h ks =
    let W = where_spelling (map clause_spelling ks) in
    let F = keyword for_word ∷ (type_spelling h.subject ++ W) in
    ap (λ x. x >>= λ q. bound_at q.1 >>= λ b. after_for b.1 >>= λ self. type_at self >>= λ t. where_at t.1 >>= λ ys. Some (impl_line q.0 (record { subject = t.0; bound = b.0 }) ys)) (params-again p (bound_spelling h.bound ++ F) tt)
    ∙ ap (λ x. x >>= λ b. after_for b.1 >>= λ self. type_at self >>= λ t. where_at t.1 >>= λ ys. Some (impl_line p (record { subject = t.0; bound = b.0 }) ys)) (bound_again h.bound F tt)
    ∙ ap (λ x. x >>= λ t. where_at t.1 >>= λ ys. Some (impl_line p (record { subject = t.0; bound = h.bound }) ys)) (type_again h.subject W (where-follows ks))
    ∙ ap (λ x. x >>= λ ys. Some (impl_line p h ys)) (where-again ks)

prove-again : (c : List ℕ) (p : Params) (k : Clause) (bs ks : List Clause)
    → prove_at c (params_spelling p ++ (clause_spelling k ++ (behind comma (map clause_spelling bs) ++ where_spelling (map clause_spelling ks)))) ≡ Some (prove_line c p k bs ks)
prove-again c p k bs ks =
    let W : List Token = where_spelling (map clause_spelling ks) in
    let F : List Token = behind comma (map clause_spelling bs) ++ W in
    let more = clauses-length bs in
    let e : length F ≡ length (behind comma (map clause_spelling bs)) + length W = length-append (behind comma (map clause_spelling bs)) W in
    ap (λ x. x >>= λ q. clause_at q.1 >>= λ a. further_at (suc (length a.1)) a.1 >>= λ xs. where_at xs.1 >>= λ ys. Some (prove_line c q.0 a.0 xs.0 ys)) (params-again p (clause_spelling k ++ F) (clause-no-angle k F))
    ∙ ap (λ x. x >>= λ a. further_at (suc (length a.1)) a.1 >>= λ xs. where_at xs.1 >>= λ ys. Some (prove_line c p a.0 xs.0 ys)) (clause_again k F (further-no-angle bs W (where-no-angle ks)))
    ∙ ap (λ x. x >>= λ xs. where_at xs.1 >>= λ ys. Some (prove_line c p k xs.0 ys)) (further-again (suc (length F)) bs W (omega (arith, more, e)) (where-no-angle ks) (where-no-comma ks))
    ∙ ap (λ x. x >>= λ ys. Some (prove_line c p k bs ys)) (where-again ks)

refute-again : (c : List ℕ) (p : Params) (k : Clause) (bs : List Clause) → refute_at c (params_spelling p ++ (clause_spelling k ++ behind comma (map clause_spelling bs))) ≡ Some (refute_line c p k bs)
refute-again c p k bs =
    let F : List Token = behind comma (map clause_spelling bs) ++ [] in
    let more = clauses-length bs in
    let e : length F ≡ length (behind comma (map clause_spelling bs)) = ap length (append-nil (behind comma (map clause_spelling bs))) in
    ap (λ x. refute_at c (params_spelling p ++ (clause_spelling k ++ x))) (sym (append-nil (behind comma (map clause_spelling bs))))
    ∙ ap (λ x. x >>= λ q. clause_at q.1 >>= λ a. further_at (suc (length a.1)) a.1 >>= λ xs. if_end (refute_line c q.0 a.0 xs.0) xs.1) (params-again p (clause_spelling k ++ F) (clause-no-angle k F))
    ∙ ap (λ x. x >>= λ a. further_at (suc (length a.1)) a.1 >>= λ xs. if_end (refute_line c p a.0 xs.0) xs.1) (clause_again k F (further-no-angle bs [] tt))
    ∙ ap (λ x. x >>= λ xs. if_end (refute_line c p k xs.0) xs.1) (further-again (suc (length F)) bs [] (omega (arith, more, e)) tt tt)

pub line-again : (l : Line) → line_at (spelling l) ≡ Some l
line-again (crate_line n us) = ap (option_map (crate_line n)) (uses-again us)
line-again (struct_line false n p ts) = struct-again false n p ts
line-again (struct_line true n p ts) = struct-again true n p ts
line-again (trait_line false false n p bs) = trait-again false false n p bs
line-again (trait_line false true n p bs) = trait-again false true n p bs
line-again (trait_line true false n p bs) = trait-again true false n p bs
line-again (trait_line true true n p bs) = trait-again true true n p bs
line-again (impl_line p h ks) = impl-again p h ks
line-again (prove_line c p k bs ks) = prove-again c p k bs ks
line-again (refute_line c p k bs) = refute-again c p k bs
line-again (later_line n) = refl
line-again (supers_line n) = refl

-- ---- what follows
pub one_line : (l m : Line) → spelling l ≡ spelling m → l ≡ m
one_line l m e = same_Some l m (sym (line-again l) ∙ ap line_at e ∙ line-again m)

pub unwritten : (read : Option (List Token)) → (read >>= line_at) ≡ None → (l : Line) → read ≡ Some (spelling l) → ⊥
unwritten read e l h = none-some l (sym e ∙ ap (λ x. x >>= line_at) h ∙ line-again l)
  where
    none-some : (l : Line) → None ≡ Some l → ⊥
    none-some l w = absurd cc
