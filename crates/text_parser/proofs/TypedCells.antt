-- A line with few types, and with few in each bound, stands for lines that are not much longer than it.
use Rattle.std.proofs.Common.{◌≡◌, ℕ, suc, ◌+◌, ◌*◌, ◌≤◌, Bool, true, false, cond, ◌||◌, List, [], ◌∷◌, ◌++◌, length, map, drop, refl, ap, ◌∙◌, length-append, arith, suc-mul, ltb-false}
use Rattle.std.specs.Prelude.{nat_lt, ◌==◌}
use Rattle.std.specs.List.{flat_map, list_any}
use Rattle.std.proofs.lemmas.List.{map-append}
use Rattle.std.proofs.lemmas.Nat.{mul-le}
use Rattle.text_language.specs.Words.{comma, close_angle, colon, plus, semicolon, fundamental_word, auto_word, trait_word, for_word, const_word}
use Rattle.text_language.specs.Tokens.{Token, keyword, name, lifetime, sign}
use Rattle.text_language.specs.Promised.Syntax.{TypeTree, named, Args, no_args, and_arg, type_arg, Params, Bound, Clause, Line, trait_line, impl_line, prove_line, refute_line, Binding, WrittenBound, WrittenClause, WrittenLine, written_crate, written_struct, written_trait, written_impl, written_prove, written_refute, written_later, written_supers}
use Rattle.text_language.specs.Promised.Desugared.{companion_name, wrapper_name, value_name, and_value, bounds_of, clauses_of, asked_of, asking, desugared, types_limit, has_many_types}
use Rattle.text_language.specs.Syntax.{type_spelling, arg_spelling, args_spelling, more_args, arg_spellings, if_so, behind, in_angles, in_braces, param_spellings, params_spelling, bound_spelling, clause_spelling, bounds_spelling, where_spelling, binding_spelling, written_bound_spelling, written_clause_spelling, spelling, written_spelling}
use Rattle.text_language.proofs.PlainLines.{args-are}
use Rattle.text_parser.proofs.ManyLines.{total, each-total, braces-total, trait-front}

-- ---- the tokens of several parts
total-append : (ps qs : List (List Token)) → total (ps ++ qs) ≡ total ps + total qs
total-append [] qs = omega arith
total-append (p ∷ ps) qs = omega (arith, total-append ps qs)

angles-few : (ps : List (List Token)) → length (in_angles ps) ≤ total ps + 1
angles-few [] = omega arith
angles-few (p ∷ ps) =
    let end = sign close_angle ∷ [] in
    omega (arith, length-append p (behind comma ps ++ end), length-append (behind comma ps) end, each-total (sign comma) ps)

angles-many : (ps : List (List Token)) → total ps ≤ length (in_angles ps)
angles-many [] = omega arith
angles-many (p ∷ ps) =
    let end = sign close_angle ∷ [] in
    omega (arith, length-append p (behind comma ps ++ end), length-append (behind comma ps) end, each-total (sign comma) ps)

bounds-total : (ps : List (List Token)) → length (bounds_spelling ps) ≡ total ps
bounds-total [] = omega arith
bounds-total (p ∷ ps) = omega (arith, length-append p (behind plus ps), each-total (sign plus) ps)

where-total : (ps : List (List Token)) → length (where_spelling ps) ≡ total ps
where-total [] = omega arith
where-total (p ∷ ps) = omega (arith, length-append p (behind comma ps), each-total (sign comma) ps)

drop-total : (ps : List (List Token)) → total (drop 1 ps) ≤ total ps
drop-total [] = omega arith
drop-total (p ∷ ps) = omega arith

-- ---- arguments, and one more
args-few : (args : Args) → length (args_spelling args) ≤ total (arg_spellings args) + 1
args-few args = omega (arith, angles-few (arg_spellings args), ap length (args-are args))

-- the type in its wrapper
wrapped : (t : TypeTree) → length (type_spelling (named wrapper_name (and_arg (type_arg t) no_args))) ≡ length (type_spelling t) + 3
wrapped t = omega (arith, length-append (type_spelling t) (sign close_angle ∷ []))

more-valued : (args : Args) (t : TypeTree) → length (more_args (and_value args t)) ≤ length (more_args args) + (length (type_spelling t) + 4)
more-valued no_args t =
    let w = type_spelling (named wrapper_name (and_arg (type_arg t) no_args)) in
    omega (arith, wrapped t, length-append w (sign close_angle ∷ []))
more-valued (and_arg a args) t = omega (arith, more-valued args t, length-append (arg_spelling a) (more_args args), length-append (arg_spelling a) (more_args (and_value args t)))

args-valued : (args : Args) (t : TypeTree) → length (args_spelling (and_value args t)) ≤ length (args_spelling args) + (length (type_spelling t) + 5)
args-valued no_args t =
    let w = type_spelling (named wrapper_name (and_arg (type_arg t) no_args)) in
    omega (arith, wrapped t, length-append w (sign close_angle ∷ []))
args-valued (and_arg a args) t = omega (arith, more-valued args t, length-append (arg_spelling a) (more_args args), length-append (arg_spelling a) (more_args (and_value args t)))

-- ---- bindings
values : List Binding → ℕ
values [] = 0
values (v ∷ vs) = length (type_spelling v.value) + values vs

values-bound : (vs : List Binding) → values vs ≤ total (map binding_spelling vs)
unfolding values
values-bound [] = omega arith
values-bound (v ∷ vs) = omega (arith, values-bound vs)

values-given : (vs : List Binding) → values vs ≤ total (map (λ v. binding_spelling v ++ sign semicolon ∷ []) vs)
unfolding values
values-given [] = omega arith
values-given (v ∷ vs) = omega (arith, values-given vs, length-append (binding_spelling v) (sign semicolon ∷ []))

bound-many : (b : WrittenBound) → suc (total (arg_spellings b.bound.args) + values b.bindings) ≤ length (written_bound_spelling b)
bound-many b =
    let args = arg_spellings b.bound.args in
    let vs = map binding_spelling b.bindings in
    omega (arith, angles-many (args ++ vs), total-append args vs, values-bound b.bindings)

-- ---- the bounds of a written bound, with x tokens more for each
weight : ℕ → List Bound → ℕ
weight x [] = 0
weight x (b ∷ bs) = x + length (bound_spelling b) + weight x bs

abbrev companion : Bound → Binding → Bound
companion b v = record { trait = companion_name b.trait v.name; args = and_value b.args v.value }

companions-weigh : (x : ℕ) (b : Bound) (vs : List Binding) → weight x (map (companion b) vs) ≤ length vs * (x + length (args_spelling b.args) + 6) + values vs
unfolding values weight
companions-weigh x b [] = omega arith
companions-weigh x b (v ∷ vs) = omega (arith, companions-weigh x b vs, args-valued b.args v.value, suc-mul (length vs) (x + length (args_spelling b.args) + 6))

bounds-weigh : (x : ℕ) (b : WrittenBound) → length b.bindings ≤ 16 → weight x (bounds_of b) ≤ 17 * x + 17 * length (args_spelling b.bound.args) + 97 + values b.bindings
unfolding weight
bounds-weigh x b few =
    let each = x + length (args_spelling b.bound.args) + 6 in
    let most : length b.bindings * each ≤ 16 * each = mul-le (length b.bindings) each 16 each few (omega arith) in
    omega (arith, companions-weigh x b.bound b.bindings, most)

bounds-few : (x : ℕ) (b : WrittenBound) → length b.bindings ≤ 16 → weight x (bounds_of b) ≤ 17 * x + 120 * length (written_bound_spelling b)
bounds-few x b few = omega (arith, bounds-weigh x b few, args-few b.bound.args, bound-many b)

-- ---- as they are written
bounds-are-total : (bs : List Bound) → total (map bound_spelling bs) ≡ weight 1 bs
unfolding weight
bounds-are-total [] = omega arith
bounds-are-total (b ∷ bs) = omega (arith, bounds-are-total bs)

clauses-are-total : (t : TypeTree) (bs : List Bound) → total (map clause_spelling (map (λ b. record { subject = t; bound = b }) bs)) ≡ weight (length (type_spelling t) + 2) bs
unfolding weight
clauses-are-total t [] = omega arith
clauses-are-total t (b ∷ bs) = omega (arith, clauses-are-total t bs, length-append (type_spelling t) (sign colon ∷ bound_spelling b))

-- few types are said in each
abbrev says_many : WrittenBound → Bool
says_many b = nat_lt types_limit (length b.bindings)

neither : (x y : Bool) → x || y ≡ false → (x ≡ false) × (y ≡ false)
neither true y e = absurd cc
neither false y e = (refl, e)

few-said : (b : WrittenBound) → says_many b ≡ false → length b.bindings ≤ 16
few-said b e = ltb-false 16 (length b.bindings) e

clause-few : (k : WrittenClause) → says_many k.bound ≡ false → total (map clause_spelling (clauses_of k)) ≤ 140 * length (written_clause_spelling k)
clause-few k e =
    let subject = type_spelling k.subject in
    let bound = written_bound_spelling k.bound in
    omega (arith, clauses-are-total k.subject (bounds_of k.bound), bounds-few (length subject + 2) k.bound (few-said k.bound e), length-append subject (sign colon ∷ bound), bound-many k.bound)

supers-few : (bs : List WrittenBound) → list_any says_many bs ≡ false → total (map bound_spelling (flat_map bounds_of bs)) ≤ 140 * total (map written_bound_spelling bs)
supers-few [] e = omega arith
supers-few (b ∷ bs) e =
    let parts = neither (says_many b) (list_any says_many bs) e in
    omega (
      arith,
      ap total (map-append bound_spelling (bounds_of b) (flat_map bounds_of bs)),
      total-append (map bound_spelling (bounds_of b)) (map bound_spelling (flat_map bounds_of bs)),
      bounds-are-total (bounds_of b),
      bounds-few 1 b (few-said b parts.0),
      supers-few bs parts.1,
    )

abbrev bounds_said : List WrittenClause → List WrittenBound
bounds_said ks = map (λ k. k.bound) ks

clauses-few : (ks : List WrittenClause) → list_any says_many (bounds_said ks) ≡ false → total (map clause_spelling (flat_map clauses_of ks)) ≤ 140 * total (map written_clause_spelling ks)
clauses-few [] e = omega arith
clauses-few (k ∷ ks) e =
    let parts = neither (says_many k.bound) (list_any says_many (bounds_said ks)) e in
    omega (arith, ap total (map-append clause_spelling (clauses_of k) (flat_map clauses_of ks)), total-append (map clause_spelling (clauses_of k)) (map clause_spelling (flat_map clauses_of ks)), clause-few k parts.0, clauses-few ks parts.1)

either-few : (c : Bool) (xs : List Clause) → total (map clause_spelling (cond c xs (drop 1 xs))) ≤ total (map clause_spelling xs)
either-few true xs = omega arith
either-few false [] = omega arith
either-few false (x ∷ xs) = omega arith

asked-one : (k : WrittenClause) → says_many k.bound ≡ false → total (map clause_spelling (asked_of k)) ≤ 140 * length (written_clause_spelling k)
asked-one k e = omega (arith, either-few (length k.bound.bindings == 0) (clauses_of k), clause-few k e)

asked-few : (ks : List WrittenClause) → list_any says_many (bounds_said ks) ≡ false → total (map clause_spelling (flat_map asked_of ks)) ≤ 140 * total (map written_clause_spelling ks)
asked-few [] e = omega arith
asked-few (k ∷ ks) e =
    let parts = neither (says_many k.bound) (list_any says_many (bounds_said ks)) e in
    omega (arith, ap total (map-append clause_spelling (asked_of k) (flat_map asked_of ks)), total-append (map clause_spelling (asked_of k)) (map clause_spelling (flat_map asked_of ks)), asked-one k parts.0, asked-few ks parts.1)

-- ---- lines
abbrev pub AllShort : ℕ → List Line → Type 0
AllShort n [] = Unit {0}
AllShort n (l ∷ ls) = (length (spelling l) ≤ n) × AllShort n ls

pub short-more : (m n : ℕ) (ls : List Line) → m ≤ n → AllShort m ls → AllShort n ls
short-more m n [] h s = tt
short-more m n (l ∷ ls) h s = (let here = s.0 in omega (arith, here, h), short-more m n ls h s.1)

-- traits
trait-length : (f a : Bool) (n : List ℕ) (ps : Params) (bs : List Bound) → length (spelling (trait_line f a n ps bs)) ≡ length (spelling (trait_line f a n ps [])) + total (map bound_spelling bs)
trait-length f a n ps bs =
    let p = params_spelling ps in
    let q = bounds_spelling (map bound_spelling bs) in
    omega (
      arith,
      length-append (if_so f fundamental_word) (if_so a auto_word ++ keyword trait_word ∷ name n ∷ (p ++ q)),
      length-append (if_so a auto_word) (keyword trait_word ∷ name n ∷ (p ++ q)),
      length-append p q,
      length-append (if_so f fundamental_word) (if_so a auto_word ++ keyword trait_word ∷ name n ∷ (p ++ [])),
      length-append (if_so a auto_word) (keyword trait_word ∷ name n ∷ (p ++ [])),
      length-append p [],
      bounds-total (map bound_spelling bs),
    )

abbrev with_value : Params → Params
with_value ps = record ps { types = ps.types ++ value_name ∷ [] }

-- with one parameter more
params-valued : (ps : Params) → total (param_spellings (with_value ps)) ≡ total (param_spellings ps) + 2
params-valued ps =
    let L = map (λ n. lifetime n ∷ []) ps.lifetimes in
    let T = map (λ n. name n ∷ []) ps.types in
    let V = map (λ n. name n ∷ []) (value_name ∷ []) in
    let C = map (λ n. keyword const_word ∷ name n ∷ []) ps.consts in
    omega (
      arith,
      total-append L (map (λ n. name n ∷ []) (ps.types ++ value_name ∷ []) ++ C),
      total-append (map (λ n. name n ∷ []) (ps.types ++ value_name ∷ [])) C,
      ap total (map-append (λ (n : List ℕ). name n ∷ []) ps.types (value_name ∷ [])),
      total-append T V,
      total-append L (T ++ C),
      total-append T C,
    )

trait-valued : (f a : Bool) (n m : List ℕ) (ps : Params) → length (spelling (trait_line f a m (with_value ps) [])) ≤ length (spelling (trait_line f a n ps [])) + 3
trait-valued f a n m ps =
    let p = params_spelling ps in
    let q = params_spelling (with_value ps) in
    omega (
      arith,
      length-append (if_so f fundamental_word) (if_so a auto_word ++ keyword trait_word ∷ name m ∷ (q ++ [])),
      length-append (if_so a auto_word) (keyword trait_word ∷ name m ∷ (q ++ [])),
      length-append q [],
      length-append (if_so f fundamental_word) (if_so a auto_word ++ keyword trait_word ∷ name n ∷ (p ++ [])),
      length-append (if_so a auto_word) (keyword trait_word ∷ name n ∷ (p ++ [])),
      length-append p [],
      angles-few (param_spellings (with_value ps)),
      angles-many (param_spellings ps),
      params-valued ps,
    )

companions-short : (f a : Bool) (n : List ℕ) (ps : Params) (ts : List (List ℕ)) → AllShort (length (spelling (trait_line f a n ps [])) + 3) (map (λ t. trait_line f a (companion_name n t) (with_value ps) []) ts)
companions-short f a n ps [] = tt
companions-short f a n ps (t ∷ ts) = (trait-valued f a n (companion_name n t) ps, companions-short f a n ps ts)

-- impls
abbrev said_by : TypeTree → Bound → Clause
said_by t b = record { subject = t; bound = b }

impl-length : (ps : Params) (t : TypeTree) (b : Bound) (ks : List Clause) → length (spelling (impl_line ps (said_by t b) ks)) ≡ length (bound_spelling b) + (length (params_spelling ps) + length (type_spelling t) + total (map clause_spelling ks) + 2)
impl-length ps t b ks =
    let w = where_spelling (map clause_spelling ks) in
    omega (arith, length-append (params_spelling ps) (bound_spelling b ++ keyword for_word ∷ (type_spelling t ++ w)), length-append (bound_spelling b) (keyword for_word ∷ (type_spelling t ++ w)), length-append (type_spelling t) w, where-total (map clause_spelling ks))

impls-short : (ps : Params) (t : TypeTree) (ks : List Clause) (bs : List Bound) (m : ℕ) → weight 0 bs ≤ m
    → AllShort (m + (length (params_spelling ps) + length (type_spelling t) + total (map clause_spelling ks) + 2)) (map (λ k. impl_line ps k ks) (map (said_by t) bs))
unfolding weight
impls-short ps t ks [] m h = tt
impls-short ps t ks (b ∷ bs) m h = (omega (arith, impl-length ps t b ks, h), impls-short ps t ks bs m (omega (arith, h)))

-- queries
prove-length : (c : List ℕ) (ps : Params) (a : Clause) (bs ks : List Clause)
    → length (spelling (prove_line c ps a bs ks)) ≤ total (map clause_spelling (a ∷ bs)) + (length (params_spelling ps) + total (map clause_spelling ks) + 2)
prove-length c ps a bs ks =
    let others = behind comma (map clause_spelling bs) in
    let w = where_spelling (map clause_spelling ks) in
    omega (arith, length-append (params_spelling ps) (clause_spelling a ++ (others ++ w)), length-append (clause_spelling a) (others ++ w), length-append others w, each-total (sign comma) (map clause_spelling bs), where-total (map clause_spelling ks))

proves-short : (c : List ℕ) (ps : Params) (ks qs : List Clause)
    → AllShort (total (map clause_spelling qs) + (length (params_spelling ps) + total (map clause_spelling ks) + 2)) (asking (λ k more. prove_line c ps k more ks) qs)
proves-short c ps ks [] = tt
proves-short c ps ks (q ∷ qs) = (prove-length c ps q qs ks, tt)

refute-length : (c : List ℕ) (ps : Params) (a : Clause) (bs : List Clause) → length (spelling (refute_line c ps a bs)) ≤ total (map clause_spelling (a ∷ bs)) + (length (params_spelling ps) + 2)
refute-length c ps a bs =
    let others = behind comma (map clause_spelling bs) in
    omega (arith, length-append (params_spelling ps) (clause_spelling a ++ others), length-append (clause_spelling a) others, each-total (sign comma) (map clause_spelling bs))

refutes-short : (c : List ℕ) (ps : Params) (qs : List Clause) → AllShort (total (map clause_spelling qs) + (length (params_spelling ps) + 2)) (asking (refute_line c ps) qs)
refutes-short c ps [] = tt
refutes-short c ps (q ∷ qs) = (refute-length c ps q qs, tt)

-- the clauses of a query as they are written
asked-written : (a : WrittenClause) (bs : List WrittenClause) → length (written_clause_spelling a ++ behind comma (map written_clause_spelling bs)) + 1 ≡ total (map written_clause_spelling (a ∷ bs))
asked-written a bs = omega (arith, length-append (written_clause_spelling a) (behind comma (map written_clause_spelling bs)), each-total (sign comma) (map written_clause_spelling bs))

any-both : (p : WrittenBound → Bool) (bs ks : List WrittenClause) → list_any p (bounds_said (bs ++ ks)) ≡ false → (list_any p (bounds_said bs) ≡ false) × (list_any p (bounds_said ks) ≡ false)
any-both p [] ks e = (refl, e)
any-both p (b ∷ bs) ks e =
    let parts = neither (p b.bound) (list_any p (bounds_said (bs ++ ks))) e in
    let rest = any-both p bs ks parts.1 in
    (ap (λ x. x || list_any p (bounds_said bs)) parts.0 ∙ rest.0, rest.1)

pub lines-short : (w : WrittenLine) → has_many_types w ≡ false → AllShort (300 * length (written_spelling w)) (desugared w)
lines-short (written_trait f a n ps bs ts) e =
    let parts = neither (nat_lt types_limit (length ts)) (list_any says_many bs) e in
    let front = spelling (trait_line f a n ps []) in
    let bounds = bounds_spelling (map written_bound_spelling bs) in
    let ended = in_braces (map (λ t. name t ∷ sign semicolon ∷ []) ts) in
    let whole : length (written_spelling (written_trait f a n ps bs ts)) ≡ length front + (total (map written_bound_spelling bs) + length ended) =
    omega (arith, length-append front (bounds ++ ended), length-append bounds ended, bounds-total (map written_bound_spelling bs)) in (
      omega (arith, whole, trait-length f a n ps (flat_map bounds_of bs), supers-few bs parts.1, trait-front f a n ps),
      short-more (length front + 3) (300 * length (written_spelling (written_trait f a n ps bs ts))) (map (λ t. trait_line f a (companion_name n t) (with_value ps) []) ts) (omega (arith, whole, trait-front f a n ps)) (companions-short f a n ps ts),
    )
lines-short (written_impl ps h ks) e =
    let parts = neither (says_many h.bound) (list_any says_many (bounds_said ks)) e in
    let front = spelling (impl_line ps (said_by h.subject h.bound.bound) []) in
    let wheres = where_spelling (map written_clause_spelling ks) in
    let ended = map (λ v. binding_spelling v ++ sign semicolon ∷ []) h.bound.bindings in
    let whole : length (written_spelling (written_impl ps h ks)) ≡ length front + (total (map written_clause_spelling ks) + length (in_braces ended)) =
    omega (arith, length-append front (wheres ++ in_braces ended), length-append wheres (in_braces ended), where-total (map written_clause_spelling ks)) in
    let most = bounds-weigh 0 h.bound (few-said h.bound parts.0) in
    short-more (17 * length (args_spelling h.bound.bound.args) + 97 + values h.bound.bindings + (length (params_spelling ps) + length (type_spelling h.subject) + total (map clause_spelling (flat_map clauses_of ks)) + 2))
    (300 * length (written_spelling (written_impl ps h ks))) (map (λ k. impl_line ps k (flat_map clauses_of ks)) (clauses_of h))
    (omega (arith, whole, impl-length ps h.subject h.bound.bound [], clauses-few ks parts.1, values-given h.bound.bindings, braces-total ended))
    (impls-short ps h.subject (flat_map clauses_of ks) (bounds_of h.bound) (17 * length (args_spelling h.bound.bound.args) + 97 + values h.bound.bindings) (omega (arith, most)))
lines-short (written_prove c ps a bs ks) e =
    let both = any-both says_many (a ∷ bs) ks e in
    let asked = written_clause_spelling a ++ behind comma (map written_clause_spelling bs) in
    let wheres = where_spelling (map written_clause_spelling ks) in
    short-more (total (map clause_spelling (flat_map asked_of (a ∷ bs))) + (length (params_spelling ps) + total (map clause_spelling (flat_map clauses_of ks)) + 2)) (300 * length (written_spelling (written_prove c ps a bs ks)))
    (asking (λ k more. prove_line c ps k more (flat_map clauses_of ks)) (flat_map asked_of (a ∷ bs)))
    (omega (arith, asked-few (a ∷ bs) both.0, clauses-few ks both.1, asked-written a bs, where-total (map written_clause_spelling ks), length-append (params_spelling ps) (asked ++ wheres), length-append asked wheres))
    (proves-short c ps (flat_map clauses_of ks) (flat_map asked_of (a ∷ bs)))
lines-short (written_refute c ps a bs) e =
    let asked = written_clause_spelling a ++ behind comma (map written_clause_spelling bs) in
    short-more (total (map clause_spelling (flat_map asked_of (a ∷ bs))) + (length (params_spelling ps) + 2)) (300 * length (written_spelling (written_refute c ps a bs))) (asking (refute_line c ps) (flat_map asked_of (a ∷ bs)))
    (omega (arith, asked-few (a ∷ bs) e, asked-written a bs, length-append (params_spelling ps) asked))
    (refutes-short c ps (flat_map asked_of (a ∷ bs)))
lines-short (written_crate n us) e = (omega arith, tt)
lines-short (written_struct f n ps fs) e = (omega arith, tt)
lines-short (written_later n) e = (omega arith, tt)
lines-short (written_supers n) e = (omega arith, tt)
