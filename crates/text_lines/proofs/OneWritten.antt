-- No two written lines have the same spelling: each has the parts that are read from its spelling, and these parts have one line.
use Rattle.std.proofs.Common.{◌≡◌, ℕ, Bool, true, false, List, [], ◌∷◌, ◌++◌, Option, Some, None, refl, sym, ap, ◌∙◌, append-nil}
use Rattle.std.specs.Prelude.{map}
use Rattle.std.proofs.lemmas.Option.{same_Some}
use Rattle.text_language.specs.Tokens.{Token, lifetime, number}
use Rattle.text_language.specs.Promised.Syntax.{TypeTree, no_args, and_arg, lifetime_arg, number_arg, type_arg, Params, Line, crate_line, struct_line, later_line, supers_line, WrittenBound, WrittenClause, WrittenLine, written_crate, written_struct, written_trait, written_impl, written_prove, written_refute, written_later, written_supers}
use Rattle.text_language.specs.Syntax.{type_spelling, arg_spelling, arg_spellings, spelling, written_spelling}
use Rattle.text_language.specs.Agreement.{plain, plain_clause}
use Rattle.text_lines.specs.Statement.{Param, lifetime_param, type_param, const_param, param_list}
use Rattle.text_lines.specs.Marks.{lone_front}
use Rattle.text_lines.specs.WrittenParts.{BindingTokens, BoundTokens, ClauseTokens, WrittenTokens, trait_tokens, impl_tokens, prove_tokens, refute_tokens, written_at, written_in}
use Rattle.text_lines.specs.WrittenLines.{binding_tokens, bound_tokens, clause_tokens, written_tokens}
use Rattle.text_lines.specs.LineLists.{arguments_in, bindings_in}
use Rattle.text_lines.proofs.MachineLaws.{one_type}
use Rattle.text_lines.proofs.TypeAt.{◌>>=◌}
use Rattle.text_lines.proofs.LineAt.{line_at}
use Rattle.text_lines.proofs.LineAgain.{one_line, unwritten}
use Rattle.text_lines.proofs.LineLists.{arguments-are, bindings-are}
use Rattle.text_lines.proofs.WrittenTypes.{type-not-lone}
use Rattle.text_lines.proofs.WrittenLines.{written-again}

-- ---- lists
head_of : {A : Type 0} → A → List A → A
head_of d [] = d
head_of d (x ∷ xs) = x

tail_of : {A : Type 0} → List A → List A
tail_of [] = []
tail_of (x ∷ xs) = xs

abbrev Injective : {A B : Type 0} → (A → B) → Type 0
Injective {A} f = (x y : A) → f x ≡ f y → x ≡ y

map-injective : {A B : Type 0} (f : A → B) → Injective f → Injective (map f)
unfolding head_of tail_of
map-injective f one [] [] e = refl
map-injective f one [] (y ∷ ys) e = absurd cc
map-injective f one (x ∷ xs) [] e = absurd cc
map-injective f one (x ∷ xs) (y ∷ ys) e =
    ap (λ z. z ∷ xs) (one x y (ap (head_of (f x)) e)) ∙ ap (λ z. y ∷ z) (map-injective f one xs ys (ap tail_of e))

-- ---- types and bounds
type-once : Injective type_spelling
type-once t u e = (one_type t u [] [] tt tt (append-nil (type_spelling t) ∙ e ∙ sym (append-nil (type_spelling u)))).0

binding-once : Injective binding_tokens
binding-once v w e =
    ap (λ z. record { name = z; value = v.value }) (ap (λ (b : BindingTokens). b.name) e)
    ∙ ap (λ z. record { name = w.name; value = z }) (type-once v.value w.value (ap (λ (b : BindingTokens). b.value) e))

lifetime_in : List Token → List ℕ
lifetime_in (lifetime n ∷ ts) = n
lifetime_in _ = []

number_in : List Token → ℕ
number_in (number n ∷ ts) = n
number_in _ = 0

lone-no-type : (t : TypeTree) (x : List Token × List Token) → lone_front (type_spelling t) ≡ Some x → ⊥
lone-no-type t x e = absurd (let wrong : None ≡ Some x = sym (ap lone_front (sym (append-nil (type_spelling t))) ∙ type-not-lone t []) ∙ e in cc)

arg-once : Injective arg_spelling
unfolding lifetime_in number_in
arg-once (lifetime_arg n) (lifetime_arg m) e = ap lifetime_arg (ap lifetime_in e)
arg-once (lifetime_arg n) (number_arg m) e = absurd cc
arg-once (lifetime_arg n) (type_arg t) e = absurd (lone-no-type t _ (ap lone_front (sym e)))
arg-once (number_arg n) (lifetime_arg m) e = absurd cc
arg-once (number_arg n) (number_arg m) e = ap number_arg (ap number_in e)
arg-once (number_arg n) (type_arg t) e = absurd (lone-no-type t _ (ap lone_front (sym e)))
arg-once (type_arg t) (lifetime_arg m) e = absurd (lone-no-type t _ (ap lone_front e))
arg-once (type_arg t) (number_arg m) e = absurd (lone-no-type t _ (ap lone_front e))
arg-once (type_arg t) (type_arg u) e = ap type_arg (type-once t u e)

args-once : Injective arg_spellings
unfolding head_of tail_of
args-once no_args no_args e = refl
args-once no_args (and_arg a args) e = absurd cc
args-once (and_arg a args) no_args e = absurd cc
args-once (and_arg a args) (and_arg b brgs) e =
    ap (λ z. and_arg z args) (arg-once a b (ap (head_of (arg_spelling a)) e)) ∙ ap (and_arg b) (args-once args brgs (ap tail_of e))

bound-once : Injective bound_tokens
bound-once b c e =
    let traits : b.bound.trait ≡ c.bound.trait = ap (λ (z : BoundTokens). z.trait) e in
    let args = args-once b.bound.args c.bound.args (sym (arguments-are (arg_spellings b.bound.args) b.bindings) ∙ ap (λ (z : BoundTokens). arguments_in z.entries) e ∙ arguments-are (arg_spellings c.bound.args) c.bindings) in
    let bound = map-injective binding_tokens binding-once b.bindings c.bindings (sym (bindings-are (arg_spellings b.bound.args) b.bindings) ∙ ap (λ (z : BoundTokens). bindings_in z.entries) e ∙ bindings-are (arg_spellings c.bound.args) c.bindings) in
    ap (λ z. record { bound = record { trait = z; args = b.bound.args }; bindings = b.bindings }) traits
    ∙ ap (λ z. record { bound = record { trait = c.bound.trait; args = z }; bindings = b.bindings }) args
    ∙ ap (λ z. record { bound = c.bound; bindings = z }) bound

clause-once : Injective clause_tokens
clause-once k j e =
    ap (λ z. record { subject = z; bound = k.bound }) (type-once k.subject j.subject (ap (λ (z : ClauseTokens). z.subject) e))
    ∙ ap (λ z. record { subject = j.subject; bound = z }) (bound-once k.bound j.bound (ap (λ (z : ClauseTokens). z.bound) e))

-- ---- parameters
lifetimes_in : List Param → List (List ℕ)
lifetimes_in [] = []
lifetimes_in (lifetime_param n ∷ ps) = n ∷ lifetimes_in ps
lifetimes_in (_ ∷ ps) = lifetimes_in ps

types_in : List Param → List (List ℕ)
types_in [] = []
types_in (type_param n ∷ ps) = n ∷ types_in ps
types_in (_ ∷ ps) = types_in ps

consts_in : List Param → List (List ℕ)
consts_in [] = []
consts_in (const_param n ∷ ps) = n ∷ consts_in ps
consts_in (_ ∷ ps) = consts_in ps

abbrev in_order : List (List ℕ) → List (List ℕ) → List (List ℕ) → List Param
in_order ls ts cs = map lifetime_param ls ++ (map type_param ts ++ map const_param cs)

lifetimes-are : (ls ts cs : List (List ℕ)) → lifetimes_in (in_order ls ts cs) ≡ ls
unfolding lifetimes_in
lifetimes-are [] [] [] = refl
lifetimes-are [] [] (c ∷ cs) = lifetimes-are [] [] cs
lifetimes-are [] (t ∷ ts) cs = lifetimes-are [] ts cs
lifetimes-are (l ∷ ls) ts cs = ap (λ z. l ∷ z) (lifetimes-are ls ts cs)

types-are : (ls ts cs : List (List ℕ)) → types_in (in_order ls ts cs) ≡ ts
unfolding types_in
types-are [] [] [] = refl
types-are [] [] (c ∷ cs) = types-are [] [] cs
types-are [] (t ∷ ts) cs = ap (λ z. t ∷ z) (types-are [] ts cs)
types-are (l ∷ ls) ts cs = types-are ls ts cs

consts-are : (ls ts cs : List (List ℕ)) → consts_in (in_order ls ts cs) ≡ cs
unfolding consts_in
consts-are [] [] [] = refl
consts-are [] [] (c ∷ cs) = ap (λ z. c ∷ z) (consts-are [] [] cs)
consts-are [] (t ∷ ts) cs = consts-are [] ts cs
consts-are (l ∷ ls) ts cs = consts-are ls ts cs

params-once : Injective param_list
params-once p q e =
    let ls = sym (lifetimes-are p.lifetimes p.types p.consts) ∙ ap lifetimes_in e ∙ lifetimes-are q.lifetimes q.types q.consts in
    let ts = sym (types-are p.lifetimes p.types p.consts) ∙ ap types_in e ∙ types-are q.lifetimes q.types q.consts in
    let cs = sym (consts-are p.lifetimes p.types p.consts) ∙ ap consts_in e ∙ consts-are q.lifetimes q.types q.consts in
    ap (λ z. record { lifetimes = z; types = p.types; consts = p.consts }) ls ∙ ap (λ z. record { lifetimes = q.lifetimes; types = z; consts = p.consts }) ts
    ∙ ap (λ z. record { lifetimes = q.lifetimes; types = q.types; consts = z }) cs

-- ---- lines
-- what is read from the spelling of a line
read-again : (w : WrittenLine) → written_in (written_spelling w) ≡ written_tokens w
unfolding written_in written_at
read-again (written_trait f a n ps bs ts) = written-again (written_trait f a n ps bs ts) _ refl
read-again (written_impl ps h ks) = written-again (written_impl ps h ks) _ refl
read-again (written_prove c ps a bs ks) = written-again (written_prove c ps a bs ks) _ refl
read-again (written_refute c ps a bs) = written-again (written_refute c ps a bs) _ refl
read-again (written_crate n us) = refl
read-again (written_struct false n ps fs) = refl
read-again (written_struct true n ps fs) = refl
read-again (written_later n) = refl
read-again (written_supers n) = refl

-- lines that can have no types
abbrev as_line : WrittenLine → Line
as_line (written_crate n us) = crate_line n us
as_line (written_struct f n ps fs) = struct_line f n ps fs
as_line (written_supers n) = supers_line n
as_line (written_later n) = later_line n
as_line _ = later_line []

bare : (w : WrittenLine) → written_tokens w ≡ None → (w ≡ plain (as_line w)) × (written_spelling w ≡ spelling (as_line w))
bare (written_crate n us) e = (refl, refl)
bare (written_struct f n ps fs) e = (refl, refl)
bare (written_later n) e = (refl, refl)
bare (written_supers n) e = (refl, refl)
bare (written_trait f a n ps bs ts) e = absurd cc
bare (written_impl ps h ks) e = absurd cc
bare (written_prove c ps a bs ks) e = absurd cc
bare (written_refute c ps a bs) e = absurd cc

bare-once : (w v : WrittenLine) → written_tokens w ≡ None → written_tokens v ≡ None → written_spelling w ≡ written_spelling v → w ≡ v
bare-once w v e f s = let a = bare w e in let b = bare v f in a.0 ∙ ap plain (one_line (as_line w) (as_line v) (sym a.1 ∙ s ∙ b.1)) ∙ sym b.0

-- the parts of each kind of line
abbrev TraitParts : Type 0
TraitParts = Bool × (Bool × (List ℕ × (List Param × (List BoundTokens × List (List ℕ)))))

trait_parts : WrittenTokens → Option TraitParts
trait_parts (trait_tokens f a n ps bs ts) = Some (f, (a, (n, (ps, (bs, ts)))))
trait_parts _ = None

trait-once : (f a : Bool) (n : List ℕ) (ps : Params) (bs : List WrittenBound) (ts : List (List ℕ)) (v : WrittenLine) → written_tokens (written_trait f a n ps bs ts) ≡ written_tokens v → written_trait f a n ps bs ts ≡ v
unfolding trait_parts
trait-once f a n ps bs ts (written_trait g b m qs cs us) e =
    let p : TraitParts = (f, (a, (n, (param_list ps, (map bound_tokens bs, ts))))) in
    let q : TraitParts = (g, (b, (m, (param_list qs, (map bound_tokens cs, us))))) in
    let same : p ≡ q = same_Some p q (ap trait_parts (same_Some _ _ e)) in
    ap (λ z. written_trait z a n ps bs ts) (ap (λ (z : TraitParts). z.0) same) ∙ ap (λ z. written_trait g z n ps bs ts) (ap (λ (z : TraitParts). z.1.0) same)
    ∙ ap (λ z. written_trait g b z ps bs ts) (ap (λ (z : TraitParts). z.1.1.0) same)
    ∙ ap (λ z. written_trait g b m z bs ts) (params-once ps qs (ap (λ (z : TraitParts). z.1.1.1.0) same))
    ∙ ap (λ z. written_trait g b m qs z ts) (map-injective bound_tokens bound-once bs cs (ap (λ (z : TraitParts). z.1.1.1.1.0) same))
    ∙ ap (λ z. written_trait g b m qs cs z) (ap (λ (z : TraitParts). z.1.1.1.1.1) same)
trait-once f a n ps bs ts (written_impl qs h ks) e = absurd cc
trait-once f a n ps bs ts (written_prove c qs k js ks) e = absurd cc
trait-once f a n ps bs ts (written_refute c qs k js) e = absurd cc
trait-once f a n ps bs ts (written_crate m us) e = absurd cc
trait-once f a n ps bs ts (written_struct g m qs fs) e = absurd cc
trait-once f a n ps bs ts (written_later m) e = absurd cc
trait-once f a n ps bs ts (written_supers m) e = absurd cc

abbrev ImplParts : Type 0
ImplParts = List Param × (ClauseTokens × (List ClauseTokens × List BindingTokens))

impl_parts : WrittenTokens → Option ImplParts
impl_parts (impl_tokens ps h ks vs) = Some (ps, (h, (ks, vs)))
impl_parts _ = None

abbrev bare_header : WrittenClause → WrittenClause
bare_header h = plain_clause (record { subject = h.subject; bound = h.bound.bound })

headers-once : (h j : WrittenClause) → bare_header h ≡ bare_header j → h.bound.bindings ≡ j.bound.bindings → h ≡ j
headers-once h j e f =
    ap (λ z. record { subject = z; bound = h.bound }) (ap (λ (z : WrittenClause). z.subject) e)
    ∙ ap (λ z. record { subject = j.subject; bound = record { bound = z; bindings = h.bound.bindings } }) (ap (λ (z : WrittenClause). z.bound.bound) e)
    ∙ ap (λ z. record { subject = j.subject; bound = record { bound = j.bound.bound; bindings = z } }) f

impl-once : (ps : Params) (h : WrittenClause) (ks : List WrittenClause) (v : WrittenLine) → written_tokens (written_impl ps h ks) ≡ written_tokens v → written_impl ps h ks ≡ v
unfolding impl_parts
impl-once ps h ks (written_impl qs i js) e =
    let p : ImplParts = (param_list ps, (clause_tokens (bare_header h), (map clause_tokens ks, map binding_tokens h.bound.bindings))) in
    let q : ImplParts = (param_list qs, (clause_tokens (bare_header i), (map clause_tokens js, map binding_tokens i.bound.bindings))) in
    let same : p ≡ q = same_Some p q (ap impl_parts (same_Some _ _ e)) in
    let heads = clause-once (bare_header h) (bare_header i) (ap (λ (z : ImplParts). z.1.0) same) in
    let given = map-injective binding_tokens binding-once h.bound.bindings i.bound.bindings (ap (λ (z : ImplParts). z.1.1.1) same) in
    ap (λ z. written_impl z h ks) (params-once ps qs (ap (λ (z : ImplParts). z.0) same)) ∙ ap (λ z. written_impl qs z ks) (headers-once h i heads given)
    ∙ ap (λ z. written_impl qs i z) (map-injective clause_tokens clause-once ks js (ap (λ (z : ImplParts). z.1.1.0) same))
impl-once ps h ks (written_trait f a n qs bs ts) e = absurd cc
impl-once ps h ks (written_prove c qs k js is) e = absurd cc
impl-once ps h ks (written_refute c qs k js) e = absurd cc
impl-once ps h ks (written_crate m us) e = absurd cc
impl-once ps h ks (written_struct g m qs fs) e = absurd cc
impl-once ps h ks (written_later m) e = absurd cc
impl-once ps h ks (written_supers m) e = absurd cc

abbrev ProveParts : Type 0
ProveParts = List ℕ × (List Param × (ClauseTokens × (List ClauseTokens × List ClauseTokens)))

prove_parts : WrittenTokens → Option ProveParts
prove_parts (prove_tokens c ps a bs ks) = Some (c, (ps, (a, (bs, ks))))
prove_parts _ = None

prove-once : (c : List ℕ) (ps : Params) (a : WrittenClause) (bs ks : List WrittenClause) (v : WrittenLine) → written_tokens (written_prove c ps a bs ks) ≡ written_tokens v → written_prove c ps a bs ks ≡ v
unfolding prove_parts
prove-once c ps a bs ks (written_prove d qs b cs js) e =
    let p : ProveParts = (c, (param_list ps, (clause_tokens a, (map clause_tokens bs, map clause_tokens ks)))) in
    let q : ProveParts = (d, (param_list qs, (clause_tokens b, (map clause_tokens cs, map clause_tokens js)))) in
    let same : p ≡ q = same_Some p q (ap prove_parts (same_Some _ _ e)) in
    ap (λ z. written_prove z ps a bs ks) (ap (λ (z : ProveParts). z.0) same) ∙ ap (λ z. written_prove d z a bs ks) (params-once ps qs (ap (λ (z : ProveParts). z.1.0) same))
    ∙ ap (λ z. written_prove d qs z bs ks) (clause-once a b (ap (λ (z : ProveParts). z.1.1.0) same))
    ∙ ap (λ z. written_prove d qs b z ks) (map-injective clause_tokens clause-once bs cs (ap (λ (z : ProveParts). z.1.1.1.0) same))
    ∙ ap (λ z. written_prove d qs b cs z) (map-injective clause_tokens clause-once ks js (ap (λ (z : ProveParts). z.1.1.1.1) same))
prove-once c ps a bs ks (written_trait f b n qs cs ts) e = absurd cc
prove-once c ps a bs ks (written_impl qs h js) e = absurd cc
prove-once c ps a bs ks (written_refute d qs k js) e = absurd cc
prove-once c ps a bs ks (written_crate m us) e = absurd cc
prove-once c ps a bs ks (written_struct g m qs fs) e = absurd cc
prove-once c ps a bs ks (written_later m) e = absurd cc
prove-once c ps a bs ks (written_supers m) e = absurd cc

abbrev RefuteParts : Type 0
RefuteParts = List ℕ × (List Param × (ClauseTokens × List ClauseTokens))

refute_parts : WrittenTokens → Option RefuteParts
refute_parts (refute_tokens c ps a bs) = Some (c, (ps, (a, bs)))
refute_parts _ = None

refute-once : (c : List ℕ) (ps : Params) (a : WrittenClause) (bs : List WrittenClause) (v : WrittenLine) → written_tokens (written_refute c ps a bs) ≡ written_tokens v → written_refute c ps a bs ≡ v
unfolding refute_parts
refute-once c ps a bs (written_refute d qs b cs) e =
    let p : RefuteParts = (c, (param_list ps, (clause_tokens a, map clause_tokens bs))) in
    let q : RefuteParts = (d, (param_list qs, (clause_tokens b, map clause_tokens cs))) in
    let same : p ≡ q = same_Some p q (ap refute_parts (same_Some _ _ e)) in
    ap (λ z. written_refute z ps a bs) (ap (λ (z : RefuteParts). z.0) same) ∙ ap (λ z. written_refute d z a bs) (params-once ps qs (ap (λ (z : RefuteParts). z.1.0) same))
    ∙ ap (λ z. written_refute d qs z bs) (clause-once a b (ap (λ (z : RefuteParts). z.1.1.0) same))
    ∙ ap (λ z. written_refute d qs b z) (map-injective clause_tokens clause-once bs cs (ap (λ (z : RefuteParts). z.1.1.1) same))
refute-once c ps a bs (written_trait f b n qs cs ts) e = absurd cc
refute-once c ps a bs (written_impl qs h js) e = absurd cc
refute-once c ps a bs (written_prove d qs k js is) e = absurd cc
refute-once c ps a bs (written_crate m us) e = absurd cc
refute-once c ps a bs (written_struct g m qs fs) e = absurd cc
refute-once c ps a bs (written_later m) e = absurd cc
refute-once c ps a bs (written_supers m) e = absurd cc

parts-same : (w v : WrittenLine) → written_spelling w ≡ written_spelling v → written_tokens w ≡ written_tokens v
parts-same w v s = sym (read-again w) ∙ ap written_in s ∙ read-again v

pub one_written : (w v : WrittenLine) → written_spelling w ≡ written_spelling v → w ≡ v
one_written (written_trait f a n ps bs ts) v s = trait-once f a n ps bs ts v (parts-same (written_trait f a n ps bs ts) v s)
one_written (written_impl ps h ks) v s = impl-once ps h ks v (parts-same (written_impl ps h ks) v s)
one_written (written_prove c ps a bs ks) v s = prove-once c ps a bs ks v (parts-same (written_prove c ps a bs ks) v s)
one_written (written_refute c ps a bs) v s = refute-once c ps a bs v (parts-same (written_refute c ps a bs) v s)
one_written (written_crate n us) v s = bare-once (written_crate n us) v refl (sym (parts-same (written_crate n us) v s)) s
one_written (written_struct f n ps fs) v s = bare-once (written_struct f n ps fs) v refl (sym (parts-same (written_struct f n ps fs) v s)) s
one_written (written_later n) v s = bare-once (written_later n) v refl (sym (parts-same (written_later n) v s)) s
one_written (written_supers n) v s = bare-once (written_supers n) v refl (sym (parts-same (written_supers n) v s)) s

-- ---- what follows
no-parts : (read : Option (List Token)) → (read >>= written_in) ≡ None → (w : WrittenLine) (x : WrittenTokens) → written_tokens w ≡ Some x → read ≡ Some (written_spelling w) → ⊥
no-parts read f w x e h = absurd (let wrong : None ≡ Some x = sym f ∙ ap (λ z. z >>= written_in) h ∙ written-again w x e in cc)

pub unspelled : (read : Option (List Token)) → (read >>= line_at) ≡ None → (read >>= written_in) ≡ None → (w : WrittenLine) → read ≡ Some (written_spelling w) → ⊥
unspelled read e f (written_trait g a n ps bs ts) h = no-parts read f (written_trait g a n ps bs ts) _ refl h
unspelled read e f (written_impl ps k ks) h = no-parts read f (written_impl ps k ks) _ refl h
unspelled read e f (written_prove c ps a bs ks) h = no-parts read f (written_prove c ps a bs ks) _ refl h
unspelled read e f (written_refute c ps a bs) h = no-parts read f (written_refute c ps a bs) _ refl h
unspelled read e f (written_crate n us) h = unwritten read e (crate_line n us) h
unspelled read e f (written_struct g n ps fs) h = unwritten read e (struct_line g n ps fs) h
unspelled read e f (written_later n) h = unwritten read e (later_line n) h
unspelled read e f (written_supers n) h = unwritten read e (supers_line n) h
