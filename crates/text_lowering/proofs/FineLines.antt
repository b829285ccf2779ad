-- The lines for which a written line stands have scalars, or `str`, for primitive types, as the written line has them.
use Rattle.std.proofs.Common.{ℕ, Bool, true, false, if◌then◌else◌, List, [], ◌∷◌, ◌++◌, length, map, sym, subst}
use Rattle.std.specs.Prelude.{◌==◌, drop}
use Rattle.std.specs.List.{flat_map}
use Rattle.text_language.specs.Words.{Keyword, comma, plus, colon, semicolon, close_angle, fundamental_word, auto_word, for_word, const_word, type_word}
use Rattle.text_language.specs.Tokens.{Token, keyword, name, lifetime, sign}
use Rattle.text_language.specs.Promised.Syntax.{TypeTree, Args, no_args, and_arg, Params, Bound, Clause, Line, trait_line, impl_line, prove_line, refute_line, Binding, WrittenBound, WrittenClause, WrittenLine, written_crate, written_struct, written_trait, written_impl, written_prove, written_refute, written_later, written_supers}
use Rattle.text_language.specs.Promised.Desugared.{companion_name, value_name, and_value, bounds_of, clauses_of, asked_of, asking, desugared}
use Rattle.text_language.specs.Syntax.{type_spelling, args_spelling, arg_spellings, param_spellings, params_spelling, after_each, behind, in_angles, in_braces, bound_spelling, clause_spelling, bounds_spelling, where_spelling, binding_spelling, written_bound_spelling, written_clause_spelling, if_so, spelling, written_spelling}
use Rattle.text_language.proofs.PlainLines.{args-are}
use Rattle.declarations.specs.Promised.Elaboration.{Each}
use Rattle.text_lowering.proofs.ScalarTokens.{Fine, AllFine, fine-behind, fine-front}

-- ---- parts
abbrev AllParts : List (List Token) → Type 0
AllParts [] = Unit {0}
AllParts (p ∷ ps) = AllFine p × AllParts ps

fine-joined : (xs ys : List Token) → AllFine xs → AllFine ys → AllFine (xs ++ ys)
fine-joined [] ys f g = g
fine-joined (x ∷ xs) ys f g = (f.0, fine-joined xs ys f.1 g)

parts-joined : (ps qs : List (List Token)) → AllParts ps → AllParts qs → AllParts (ps ++ qs)
parts-joined [] qs f g = g
parts-joined (p ∷ ps) qs f g = (f.0, parts-joined ps qs f.1 g)

parts-front : (ps qs : List (List Token)) → AllParts (ps ++ qs) → AllParts ps
parts-front [] qs f = tt
parts-front (p ∷ ps) qs f = (f.0, parts-front ps qs f.1)

parts-behind : (ps qs : List (List Token)) → AllParts (ps ++ qs) → AllParts qs
parts-behind [] qs f = f
parts-behind (p ∷ ps) qs f = parts-behind ps qs f.1

-- each after the same token
after-fine : (k : Token) (ps : List (List Token)) → Fine k → AllParts ps → AllFine (after_each k ps)
after-fine k [] f h = tt
after-fine k (p ∷ ps) f h = (f, fine-joined p (after_each k ps) h.0 (after-fine k ps f h.1))

after-parts : (k : Token) (ps : List (List Token)) → AllFine (after_each k ps) → AllParts ps
after-parts k [] f = tt
after-parts k (p ∷ ps) f = (fine-front p (after_each k ps) f.1, after-parts k ps (fine-behind p (after_each k ps) f.1))

-- between `<` and `>`
angles-fine : (ps : List (List Token)) → AllParts ps → AllFine (in_angles ps)
angles-fine [] h = tt
angles-fine (p ∷ ps) h = (tt, fine-joined p _ h.0 (fine-joined (behind comma ps) (sign close_angle ∷ []) (after-fine (sign comma) ps tt h.1) (tt, tt)))

angles-parts : (ps : List (List Token)) → AllFine (in_angles ps) → AllParts ps
angles-parts [] f = tt
angles-parts (p ∷ ps) f = (fine-front p _ f.1, after-parts (sign comma) ps (fine-front (behind comma ps) _ (fine-behind p _ f.1)))

-- between `{` and `}`
braces-parts : (ps : List (List Token)) → AllFine (in_braces ps) → AllParts ps
braces-parts [] f = tt
braces-parts (p ∷ ps) f = (fine-front p _ f.1.1, after-parts (keyword type_word) ps (fine-front (after_each (keyword type_word) ps) _ (fine-behind p _ f.1.1)))

-- the bounds of a trait, and where-clauses
bounds-fine : (ps : List (List Token)) → AllParts ps → AllFine (bounds_spelling ps)
bounds-fine [] h = tt
bounds-fine (p ∷ ps) h = (tt, fine-joined p (behind plus ps) h.0 (after-fine (sign plus) ps tt h.1))

bounds-parts : (ps : List (List Token)) → AllFine (bounds_spelling ps) → AllParts ps
bounds-parts [] f = tt
bounds-parts (p ∷ ps) f = (fine-front p (behind plus ps) f.1, after-parts (sign plus) ps (fine-behind p (behind plus ps) f.1))

where-fine : (ps : List (List Token)) → AllParts ps → AllFine (where_spelling ps)
where-fine [] h = tt
where-fine (p ∷ ps) h = (tt, fine-joined p (behind comma ps) h.0 (after-fine (sign comma) ps tt h.1))

where-parts : (ps : List (List Token)) → AllFine (where_spelling ps) → AllParts ps
where-parts [] f = tt
where-parts (p ∷ ps) f = (fine-front p (behind comma ps) f.1, after-parts (sign comma) ps (fine-behind p (behind comma ps) f.1))

-- ---- parts of some things, each of which stands for several
map-joined : {A : Type 0} (f : A → List Token) (xs ys : List A) → AllParts (map f xs) → AllParts (map f ys) → AllParts (map f (xs ++ ys))
map-joined f [] ys h g = g
map-joined f (x ∷ xs) ys h g = (h.0, map-joined f xs ys h.1 g)

flat-parts : {A B : Type 0} (f : A → List Token) (g : B → List Token) (h : A → List B) → ((a : A) → AllFine (f a) → AllParts (map g (h a))) → (xs : List A) → AllParts (map f xs) → AllParts (map g (flat_map h xs))
flat-parts f g h each [] p = tt
flat-parts f g h each (x ∷ xs) p = map-joined g (h x) (flat_map h xs) (each x p.0) (flat-parts f g h each xs p.1)

-- ---- bounds
args-fine : (args : Args) → AllParts (arg_spellings args) → AllFine (args_spelling args)
args-fine args h = subst AllFine (args-are args) (angles-fine (arg_spellings args) h)

args-parts : (args : Args) → AllFine (args_spelling args) → AllParts (arg_spellings args)
args-parts args f = angles-parts (arg_spellings args) (subst AllFine (sym (args-are args)) f)

value-parts : (args : Args) (t : TypeTree) → AllParts (arg_spellings args) → AllFine (type_spelling t) → AllParts (arg_spellings (and_value args t))
value-parts no_args t h f = ((tt, (tt, fine-joined (type_spelling t) (sign close_angle ∷ []) f (tt, tt))), tt)
value-parts (and_arg a args) t h f = (h.0, value-parts args t h.1 f)

companions-fine : (t : List ℕ) (args : Args) (vs : List Binding) → AllParts (arg_spellings args) → AllParts (map binding_spelling vs)
    → AllParts (map bound_spelling (map (λ v. (let b : Bound = record { trait = companion_name t v.name; args = and_value args v.value } in b)) vs))
companions-fine t args [] h g = tt
companions-fine t args (v ∷ vs) h g = ((tt, args-fine (and_value args v.value) (value-parts args v.value h g.0.1.1)), companions-fine t args vs h g.1)

-- a bound and its companions, by the parts of both
stood-for : (b : WrittenBound) → AllParts (arg_spellings b.bound.args) → AllParts (map binding_spelling b.bindings) → AllParts (map bound_spelling (bounds_of b))
stood-for b h g = ((tt, args-fine b.bound.args h), companions-fine b.bound.trait b.bound.args b.bindings h g)

each-bound : (b : WrittenBound) → AllFine (written_bound_spelling b) → AllParts (map bound_spelling (bounds_of b))
each-bound b f =
    let all = angles-parts (arg_spellings b.bound.args ++ map binding_spelling b.bindings) f.1 in
    stood-for b (parts-front (arg_spellings b.bound.args) _ all) (parts-behind (arg_spellings b.bound.args) _ all)

-- ---- clauses
of-subject : (s : TypeTree) (bs : List Bound) → AllFine (type_spelling s) → AllParts (map bound_spelling bs)
    → AllParts (map clause_spelling (map (λ b. (let k : Clause = record { subject = s; bound = b } in k)) bs))
of-subject s [] f h = tt
of-subject s (b ∷ bs) f h = (fine-joined (type_spelling s) (sign colon ∷ bound_spelling b) f (tt, h.0), of-subject s bs f h.1)

each-clause : (k : WrittenClause) → AllFine (written_clause_spelling k) → AllParts (map clause_spelling (clauses_of k))
each-clause k f =
    of-subject k.subject (bounds_of k.bound) (fine-front (type_spelling k.subject) (sign colon ∷ written_bound_spelling k.bound) f)
    (each-bound k.bound (fine-behind (type_spelling k.subject) (sign colon ∷ written_bound_spelling k.bound) f).1)

each-asked : (k : WrittenClause) → AllFine (written_clause_spelling k) → AllParts (map clause_spelling (asked_of k))
each-asked k f = by (length k.bound.bindings == 0)
  where
    by : (b : Bool) → AllParts (map clause_spelling (if b then clauses_of k else drop 1 (clauses_of k)))
    by true = each-clause k f
    by false = (each-clause k f).1

all-clauses : (ks : List WrittenClause) → AllParts (map written_clause_spelling ks) → AllParts (map clause_spelling (flat_map clauses_of ks))
all-clauses ks h = flat-parts written_clause_spelling clause_spelling clauses_of each-clause ks h

-- ---- lines
abbrev pub FineLine : Line → Type 0
FineLine l = AllFine (spelling l)

params-fine : (ps : Params) → AllFine (params_spelling ps)
params-fine ps =
    angles-fine (param_spellings ps)
    (parts-joined (map (λ n. lifetime n ∷ []) ps.lifetimes) _ (lifetimes ps.lifetimes) (parts-joined (map (λ n. name n ∷ []) ps.types) _ (types ps.types) (constants ps.consts)))
  where
    lifetimes : (ns : List (List ℕ)) → AllParts (map (λ n. lifetime n ∷ []) ns)
    lifetimes [] = tt
    lifetimes (n ∷ ns) = ((tt, tt), lifetimes ns)

    types : (ns : List (List ℕ)) → AllParts (map (λ n. name n ∷ []) ns)
    types [] = tt
    types (n ∷ ns) = ((tt, tt), types ns)

    constants : (ns : List (List ℕ)) → AllParts (map (λ n. keyword const_word ∷ name n ∷ []) ns)
    constants [] = tt
    constants (n ∷ ns) = ((tt, (tt, tt)), constants ns)

if-so : (b : Bool) (k : Keyword) → AllFine (if_so b k)
if-so true k = (tt, tt)
if-so false k = tt

trait-fine : (f a : Bool) (n : List ℕ) (ps : Params) (bs : List Bound) → AllParts (map bound_spelling bs) → FineLine (trait_line f a n ps bs)
trait-fine f a n ps bs h =
    fine-joined (if_so f fundamental_word) _ (if-so f fundamental_word)
    (fine-joined (if_so a auto_word) _ (if-so a auto_word) (tt, (tt, fine-joined (params_spelling ps) _ (params-fine ps) (bounds-fine (map bound_spelling bs) h))))

companion-traits : (f a : Bool) (n : List ℕ) (ps : Params) (ts : List (List ℕ)) → Each FineLine (map (λ t. trait_line f a (companion_name n t) (record ps { types = ps.types ++ value_name ∷ [] }) []) ts)
companion-traits f a n ps [] = tt
companion-traits f a n ps (t ∷ ts) = (trait-fine f a (companion_name n t) (record ps { types = ps.types ++ value_name ∷ [] }) [] tt, companion-traits f a n ps ts)

impl-fine : (ps : Params) (k : Clause) (ks : List Clause) → AllFine (clause_spelling k) → AllParts (map clause_spelling ks) → FineLine (impl_line ps k ks)
impl-fine ps k ks f h =
    let s = fine-front (type_spelling k.subject) (sign colon ∷ bound_spelling k.bound) f in
    let b = (fine-behind (type_spelling k.subject) (sign colon ∷ bound_spelling k.bound) f).1 in
    (tt, fine-joined (params_spelling ps) _ (params-fine ps) (fine-joined (bound_spelling k.bound) _ b (tt, fine-joined (type_spelling k.subject) _ s (where-fine (map clause_spelling ks) h))))

impls-fine : (ps : Params) (ks hs : List Clause) → AllParts (map clause_spelling ks) → AllParts (map clause_spelling hs) → Each FineLine (map (λ k. impl_line ps k ks) hs)
impls-fine ps ks [] h g = tt
impls-fine ps ks (k ∷ hs) h g = (impl-fine ps k ks g.0 h, impls-fine ps ks hs h g.1)

prove-fine : (c : List ℕ) (ps : Params) (a : Clause) (bs ks : List Clause) → AllParts (map clause_spelling (a ∷ bs)) → AllParts (map clause_spelling ks) → FineLine (prove_line c ps a bs ks)
prove-fine c ps a bs ks h g = (
  tt,
  (
    tt,
    (
      tt,
      fine-joined (params_spelling ps) _ (params-fine ps)
          (fine-joined (clause_spelling a) _ h.0 (fine-joined (behind comma (map clause_spelling bs)) _ (after-fine (sign comma) (map clause_spelling bs) tt h.1) (where-fine (map clause_spelling ks) g))),
    ),
  ),
)

refute-fine : (c : List ℕ) (ps : Params) (a : Clause) (bs : List Clause) → AllParts (map clause_spelling (a ∷ bs)) → FineLine (refute_line c ps a bs)
refute-fine c ps a bs h =
    (tt, (tt, (tt, fine-joined (params_spelling ps) _ (params-fine ps) (fine-joined (clause_spelling a) _ h.0 (after-fine (sign comma) (map clause_spelling bs) tt h.1)))))

-- a query for the companions
asking-fine : (query : Clause → List Clause → Line) → ((a : Clause) (bs : List Clause) → AllParts (map clause_spelling (a ∷ bs)) → FineLine (query a bs))
    → (ks : List Clause) → AllParts (map clause_spelling ks) → Each FineLine (asking query ks)
asking-fine query each [] h = tt
asking-fine query each (a ∷ bs) h = (each a bs h, tt)

asked-parts : (a : WrittenClause) (bs : List WrittenClause) → AllFine (written_clause_spelling a ++ behind comma (map written_clause_spelling bs)) → AllParts (map clause_spelling (flat_map asked_of (a ∷ bs)))
asked-parts a bs f =
    let more : List Token = behind comma (map written_clause_spelling bs) in
    flat-parts written_clause_spelling clause_spelling asked_of each-asked (a ∷ bs)
    (fine-front (written_clause_spelling a) more f, after-parts (sign comma) (map written_clause_spelling bs) (fine-behind (written_clause_spelling a) more f))

-- the types that an impl gives, without their `;`
given-parts : (vs : List Binding) → AllParts (map (λ v. binding_spelling v ++ sign semicolon ∷ []) vs) → AllParts (map binding_spelling vs)
given-parts [] h = tt
given-parts (v ∷ vs) h = (fine-front (binding_spelling v) (sign semicolon ∷ []) h.0, given-parts vs h.1)

header-parts : (ps : Params) (h : WrittenClause) → FineLine (impl_line ps (record { subject = h.subject; bound = h.bound.bound }) []) → AllParts (map binding_spelling h.bound.bindings)
    → AllParts (map clause_spelling (clauses_of h))
header-parts ps h f g =
    let one = fine-behind (params_spelling ps) (bound_spelling h.bound.bound ++ keyword for_word ∷ (type_spelling h.subject ++ [])) f.1 in
    let two = (fine-behind (bound_spelling h.bound.bound) (keyword for_word ∷ (type_spelling h.subject ++ [])) one).1 in
    of-subject h.subject (bounds_of h.bound) (fine-front (type_spelling h.subject) [] two)
    (stood-for h.bound (args-parts h.bound.bound.args (fine-front (bound_spelling h.bound.bound) (keyword for_word ∷ (type_spelling h.subject ++ [])) one).1) g)

-- the lines for which a line stands
pub stands-fine : (w : WrittenLine) → AllFine (written_spelling w) → Each FineLine (desugared w)
stands-fine (written_crate n us) f = (f, tt)
stands-fine (written_struct g n ps fs) f = (f, tt)
stands-fine (written_trait g a n ps bs ts) f =
    let more : List Token = in_braces (map (λ t. name t ∷ sign semicolon ∷ []) ts) in
    let rest = fine-behind (spelling (trait_line g a n ps [])) (bounds_spelling (map written_bound_spelling bs) ++ more) f in
    let bounds = bounds-parts (map written_bound_spelling bs) (fine-front (bounds_spelling (map written_bound_spelling bs)) more rest) in
    (trait-fine g a n ps (flat_map bounds_of bs) (flat-parts written_bound_spelling bound_spelling bounds_of each-bound bs bounds), companion-traits g a n ps ts)
stands-fine (written_impl ps h ks) f =
    let head : List Token = spelling (impl_line ps (record { subject = h.subject; bound = h.bound.bound }) []) in
    let clauses : List Token = where_spelling (map written_clause_spelling ks) in
    let types : List Token = in_braces (map (λ v. binding_spelling v ++ sign semicolon ∷ []) h.bound.bindings) in
    let rest = fine-behind head (clauses ++ types) f in
    let given = given-parts h.bound.bindings (braces-parts _ (fine-behind clauses types rest)) in
    impls-fine ps (flat_map clauses_of ks) (clauses_of h) (all-clauses ks (where-parts _ (fine-front clauses types rest))) (header-parts ps h (fine-front head (clauses ++ types) f) given)
stands-fine (written_prove c ps a bs ks) f =
    let asked : List Token = written_clause_spelling a ++ behind comma (map written_clause_spelling bs) in
    let clauses : List Token = where_spelling (map written_clause_spelling ks) in
    let rest = fine-behind (params_spelling ps) (asked ++ clauses) f.1.1.1 in
    let under = all-clauses ks (where-parts _ (fine-behind asked clauses rest)) in
    asking-fine (λ k more. prove_line c ps k more (flat_map clauses_of ks)) (λ k more h. prove-fine c ps k more (flat_map clauses_of ks) h under) (flat_map asked_of (a ∷ bs)) (asked-parts a bs (fine-front asked clauses rest))
stands-fine (written_refute c ps a bs) f =
    let asked : List Token = written_clause_spelling a ++ behind comma (map written_clause_spelling bs) in
    asking-fine (refute_line c ps) (λ k more h. refute-fine c ps k more h) (flat_map asked_of (a ∷ bs)) (asked-parts a bs (fine-behind (params_spelling ps) asked f.1.1.1))
stands-fine (written_later n) f = (f, tt)
stands-fine (written_supers n) f = (f, tt)
