-- A line with types that was read: its tests are those of the line.
use Rattle.std.proofs.Common.{◌≡◌, ℕ, ◌<◌, Bool, true, false, not, ◌||◌, ◌&&◌, List, [], ◌∷◌, ◌++◌, length, Option, Some, None, Result, Ok, Err, refl, sym, ap, ◌∙◌, subst, arith, lt-ltb}
use Rattle.std.specs.Prelude.{map, nat_lt, ◌==◌, IfOk, IsErrOf}
use Rattle.std.specs.List.{list_any}
use Rattle.std.proofs.lemmas.Bool.{ne_eqb}
use Rattle.std.proofs.lemmas.Option.{same_Some}
use Rattle.std.proofs.lemmas.List.{length-map, map-append}
use Rattle.std.proofs.lemmas.List.Folds.{list_any-append}
use Rattle.text_language.specs.Promised.Desugared.{desugared, types_limit, binds_twice, has_many_types}
use Rattle.text_language.specs.Promised.Faults.{repeats}
use Rattle.text_language.specs.Promised.Syntax.{Binding, WrittenBound, WrittenClause, WrittenLine, written_crate, written_struct, written_trait, written_impl, written_prove, written_refute, written_later, written_supers}
use Rattle.text_language.specs.Syntax.{arg_spellings, spelling, written_spelling}
use Rattle.text_language.specs.Tokens.{Token}
use Rattle.text_lines.specs.LineLists.{line_lists}
use Rattle.text_lines.specs.Statement.{lifetime_param, type_param, const_param, param_list}
use Rattle.text_lines.specs.Steps.{GivesAlone}
use Rattle.text_lines.specs.TypedLines.{SpellsTyped, is_ill_alone, is_query_line, bound_names, binds_many, binds_again, has_consts, many_parts, ill_parts, is_query_tokens, Header, AreNamesFor, IsHeaderFor, header_said, header_of}
use Rattle.text_lines.specs.WrittenLines.{binding_tokens, bound_tokens, clause_tokens, written_tokens, has_types}
use Rattle.text_lines.specs.WrittenParts.{BoundTokens, WrittenTokens, written_in}
use Rattle.text_lines.specs.WrittenViews.{written_of}
use Rattle.text_lines.specs.declared.line_error.LineError.{LineError}
use Rattle.text_lines.specs.declared.line_error.LineError.TheVariants as errors
use Rattle.text_lines.specs.declared.typed_line.HeaderNames.{HeaderNames}
use Rattle.text_lines.specs.declared.typed_line.TypedLine.{TypedLine}
use Rattle.text_lines.proofs.HasTypes.{some-parts}
use Rattle.text_lines.proofs.LineLists.{bindings-are, lists-are}
use Rattle.text_lines.proofs.WrittenLines.{written-takes, written-again}

-- ---- one of several
or-again : (a b c : Bool) → (a || b) || c ≡ a || (b || c)
or-again true b c = refl
or-again false b c = refl

-- a test of bounds, and the same test of their tokens
abbrev SameTest : (BoundTokens → Bool) → (WrittenBound → Bool) → Type 0
SameTest p q = (b : WrittenBound) → p (bound_tokens b) ≡ q b

any-bound : (p : BoundTokens → Bool) (q : WrittenBound → Bool) → SameTest p q → (bs : List WrittenBound) → list_any p (map bound_tokens bs) ≡ list_any q bs
any-bound p q same [] = refl
any-bound p q same (b ∷ bs) = ap (λ x. x || list_any p (map bound_tokens bs)) (same b) ∙ ap (λ x. q b || x) (any-bound p q same bs)

any-clause : (p : BoundTokens → Bool) (q : WrittenBound → Bool) → SameTest p q → (ks : List WrittenClause) → list_any (λ k. p k.bound) (map clause_tokens ks) ≡ list_any q (map (λ k. k.bound) ks)
any-clause p q same [] = refl
any-clause p q same (k ∷ ks) = ap (λ x. x || list_any (λ k. p k.bound) (map clause_tokens ks)) (same k.bound) ∙ ap (λ x. q k.bound || x) (any-clause p q same ks)

any-both : (q : WrittenBound → Bool) (bs ks : List WrittenClause) → list_any q (map (λ k. k.bound) (bs ++ ks)) ≡ list_any q (map (λ k. k.bound) bs) || list_any q (map (λ k. k.bound) ks)
any-both q bs ks = ap (list_any q) (map-append (λ (k : WrittenClause). k.bound) bs ks) ∙ list_any-append q (map (λ k. k.bound) bs) (map (λ k. k.bound) ks)

any-asked : (p : BoundTokens → Bool) (q : WrittenBound → Bool) → SameTest p q → (a : WrittenClause) (bs : List WrittenClause)
    → p (bound_tokens a.bound) || list_any (λ k. p k.bound) (map clause_tokens bs) ≡ list_any q (map (λ k. k.bound) (a ∷ bs))
any-asked p q same a bs = ap (λ x. x || list_any (λ k. p k.bound) (map clause_tokens bs)) (same a.bound) ∙ ap (λ x. q a.bound || x) (any-clause p q same bs)

any-proved : (p : BoundTokens → Bool) (q : WrittenBound → Bool) → SameTest p q → (a : WrittenClause) (bs ks : List WrittenClause)
    → (p (bound_tokens a.bound) || list_any (λ k. p k.bound) (map clause_tokens bs)) || list_any (λ k. p k.bound) (map clause_tokens ks) ≡ list_any q (map (λ k. k.bound) (a ∷ bs ++ ks))
any-proved p q same a bs ks =
    ap (λ x. x || list_any (λ k. p k.bound) (map clause_tokens ks)) (any-asked p q same a bs) ∙ ap (λ x. list_any q (map (λ k. k.bound) (a ∷ bs)) || x) (any-clause p q same ks)
    ∙ or-again (q a.bound) (list_any q (map (λ k. k.bound) bs)) (list_any q (map (λ k. k.bound) ks)) ∙ ap (λ x. q a.bound || x) (sym (any-both q bs ks))

-- ---- too many types
abbrev many_bound : WrittenBound → Bool
many_bound b = nat_lt types_limit (length b.bindings)

many-bound : SameTest binds_many many_bound
many-bound b = ap (λ z. nat_lt types_limit (length z)) (bindings-are (arg_spellings b.bound.args) b.bindings) ∙ ap (nat_lt types_limit) (length-map b.bindings binding_tokens)

pub many-are : (w : WrittenLine) (x : WrittenTokens) → written_tokens w ≡ Some x → many_parts x ≡ has_many_types w
many-are (written_trait f a n p bs ts) x e = ap many_parts (sym (same_Some _ x e)) ∙ ap (λ z. nat_lt types_limit (length ts) || z) (any-bound binds_many many_bound many-bound bs)
many-are (written_impl p h ks) x e =
    ap many_parts (sym (same_Some _ x e)) ∙ ap (λ z. nat_lt types_limit z || list_any (λ k. binds_many k.bound) (map clause_tokens ks)) (length-map h.bound.bindings binding_tokens)
    ∙ ap (λ z. many_bound h.bound || z) (any-clause binds_many many_bound many-bound ks)
many-are (written_prove c p a bs ks) x e = ap many_parts (sym (same_Some _ x e)) ∙ any-proved binds_many many_bound many-bound a bs ks
many-are (written_refute c p a bs) x e = ap many_parts (sym (same_Some _ x e)) ∙ any-asked binds_many many_bound many-bound a bs
many-are (written_crate n us) x e = absurd cc
many-are (written_struct f n p fs) x e = absurd cc
many-are (written_later n) x e = absurd cc
many-are (written_supers n) x e = absurd cc

-- ---- types that are bound twice
names-are : (vs : List Binding) → bound_names (map binding_tokens vs) ≡ map (λ v. v.name) vs
names-are [] = refl
names-are (v ∷ vs) = ap (λ z. v.name ∷ z) (names-are vs)

again-bound : SameTest binds_again binds_twice
again-bound b = ap (λ z. repeats (bound_names z)) (bindings-are (arg_spellings b.bound.args) b.bindings) ∙ ap repeats (names-are b.bindings)

some-types : (ts : List (List ℕ)) → not (length ts == 0) ≡ nat_lt 0 (length ts)
some-types [] = refl
some-types (t ∷ ts) =
    let more : 0 < length (t ∷ ts) = omega arith in
    ap not (ne_eqb (length (t ∷ ts)) 0 (λ e. omega (arith, e))) ∙ sym (lt-ltb 0 (length (t ∷ ts)) more)

consts-in : (ls ts cs : List (List ℕ)) → has_consts (map lifetime_param ls ++ (map type_param ts ++ map const_param cs)) ≡ nat_lt 0 (length cs)
consts-in (l ∷ ls) ts cs = consts-in ls ts cs
consts-in [] (t ∷ ts) cs = consts-in [] ts cs
consts-in [] [] [] = refl
consts-in [] [] (c ∷ cs) = let more : 0 < length (c ∷ cs) = omega arith in sym (lt-ltb 0 (length (c ∷ cs)) more)

pub ill-are : (w : WrittenLine) (x : WrittenTokens) → written_tokens w ≡ Some x → ill_parts x ≡ is_ill_alone w
ill-are (written_trait f a n p bs ts) x e =
    ap ill_parts (sym (same_Some _ x e)) ∙ ap (λ z. (z && has_consts (param_list p)) || list_any binds_again (map bound_tokens bs)) (some-types ts)
    ∙ ap (λ z. (nat_lt 0 (length ts) && z) || list_any binds_again (map bound_tokens bs)) (consts-in p.lifetimes p.types p.consts)
    ∙ ap (λ z. (nat_lt 0 (length ts) && nat_lt 0 (length p.consts)) || z) (any-bound binds_again binds_twice again-bound bs)
ill-are (written_impl p h ks) x e =
    ap ill_parts (sym (same_Some _ x e)) ∙ ap (λ z. repeats z || list_any (λ k. binds_again k.bound) (map clause_tokens ks)) (names-are h.bound.bindings)
    ∙ ap (λ z. binds_twice h.bound || z) (any-clause binds_again binds_twice again-bound ks)
ill-are (written_prove c p a bs ks) x e = ap ill_parts (sym (same_Some _ x e)) ∙ any-proved binds_again binds_twice again-bound a bs ks
ill-are (written_refute c p a bs) x e = ap ill_parts (sym (same_Some _ x e)) ∙ any-asked binds_again binds_twice again-bound a bs
ill-are (written_crate n us) x e = absurd cc
ill-are (written_struct f n p fs) x e = absurd cc
ill-are (written_later n) x e = absurd cc
ill-are (written_supers n) x e = absurd cc

-- ---- queries and headers
pub query-is : (w : WrittenLine) (x : WrittenTokens) → written_tokens w ≡ Some x → is_query_tokens x ≡ is_query_line w
query-is (written_trait f a n p bs ts) x e = ap is_query_tokens (sym (same_Some _ x e))
query-is (written_impl p h ks) x e = ap is_query_tokens (sym (same_Some _ x e))
query-is (written_prove c p a bs ks) x e = ap is_query_tokens (sym (same_Some _ x e))
query-is (written_refute c p a bs) x e = ap is_query_tokens (sym (same_Some _ x e))
query-is (written_crate n us) x e = absurd cc
query-is (written_struct f n p fs) x e = absurd cc
query-is (written_later n) x e = absurd cc
query-is (written_supers n) x e = absurd cc

pub header-is : (w : WrittenLine) (x : WrittenTokens) → written_tokens w ≡ Some x → header_said x ≡ header_of w
header-is (written_trait f a n p bs ts) x e = ap header_said (sym (same_Some _ x e))
header-is (written_impl p h ks) x e = ap header_said (sym (same_Some _ x e)) ∙ ap (λ z. Some (h.bound.bound.trait, z)) (names-are h.bound.bindings)
header-is (written_prove c p a bs ks) x e = ap header_said (sym (same_Some _ x e))
header-is (written_refute c p a bs) x e = ap header_said (sym (same_Some _ x e))
header-is (written_crate n us) x e = absurd cc
header-is (written_struct f n p fs) x e = absurd cc
header-is (written_later n) x e = absurd cc
header-is (written_supers n) x e = absurd cc

-- ---- what is read
pub typed-found : (ts : List Token) (r : Result TypedLine LineError) → GivesAlone (λ t. written_of t.read) r (written_in ts) → IfOk r (λ t. SpellsTyped ts t)
typed-found ts (Ok t) g = let n = written-takes ts (written_of t.read) g in (n.0, n.1, n.2)
typed-found ts (Err e) g = tt

pub typed-refused : (ts : List Token) (r : Result TypedLine LineError) → GivesAlone (λ t. written_of t.read) r (written_in ts) → has_types ts ≡ true → IsErrOf r errors.Syntax → (w : WrittenLine) → ts ≡ written_spelling w → ⊥
typed-refused ts r g h e w s =
    let none : written_in ts ≡ None = subst (λ x. GivesAlone (λ t. written_of t.read) x (written_in ts)) e g in
    let x = some-parts w (ap has_types (sym s) ∙ h) in
    let some : written_in ts ≡ Some x.0 = ap written_in s ∙ written-again w x.0 x.1 in
    absurd cc

pub lists-stand : {A X : Type 0} (view : A → List (List Token)) (r : Result A X) (x : WrittenTokens) → IfOk r (λ v. view v ≡ line_lists x)
    → IfOk r (λ v. (w : WrittenLine) → written_tokens w ≡ Some x → view v ≡ map spelling (desugared w))
lists-stand view (Ok v) x g = λ w e. g ∙ lists-are w x e
lists-stand view (Err k) x g = tt

pub header-stands : {X : Type 0} (r : Result (Option HeaderNames) X) (x : WrittenTokens) → IfOk r (AreNamesFor (header_said x)) → IfOk r (λ h. (w : WrittenLine) → written_tokens w ≡ Some x → IsHeaderFor w h)
header-stands (Ok h) x g = λ w e. subst (λ (o : Option Header). AreNamesFor o h) (header-is w x e) g
header-stands (Err k) x g = tt
