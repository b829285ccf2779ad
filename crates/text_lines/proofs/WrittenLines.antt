-- Whole lines with types: what is read is spelled so, and what is spelled so is read.
use Rattle.std.proofs.Common.{◌≡◌, ℕ, Bool, true, false, List, [], ◌∷◌, ◌++◌, Some, None, refl, sym, ap, ◌∙◌, append_assoc, append-nil}
use Rattle.std.specs.Prelude.{if◌then◌else◌}
use Rattle.std.proofs.lemmas.Option.{same_Some}
use Rattle.text_language.specs.Words.{fundamental_word, auto_word, trait_word, impl_word, for_word, prove_word, refute_word, in_word}
use Rattle.text_language.specs.Tokens.{Token, keyword, name}
use Rattle.text_language.specs.Promised.Syntax.{Params, Clause, Binding, WrittenBound, WrittenClause, WrittenLine, written_crate, written_struct, written_trait, written_impl, written_prove, written_refute, written_later, written_supers}
use Rattle.text_language.specs.Syntax.{type_spelling, params_spelling, bound_spelling, written_clause_spelling, written_spelling}
use Rattle.text_lines.specs.Marks.{is_nil}
use Rattle.text_lines.specs.Cells.{Cell}
use Rattle.text_lines.specs.Parts.{Progress, ◌>>=◌}
use Rattle.text_lines.specs.WrittenParts.{WrittenTokens, trait_tokens_at, impl_tokens_at, prove_tokens_at, refute_tokens_at, auto_tokens, fundamental_tokens, written_front, written_at, written_in}
use Rattle.text_lines.specs.WrittenLines.{written_tokens}
use Rattle.text_lines.proofs.IsPart.{bind-some, if-some}
use Rattle.text_lines.proofs.Lines.{nil-only}
use Rattle.text_lines.proofs.WrittenLists.{further_tokens_spelling, where_tokens_spelling, bounds_and_types, clauses_and_given, trait_spelling, trait-part, impl-part, prove-part, refute-part}

-- the tokens at the front are those of a line with these parts
abbrev FrontFound : List Token → List Token → WrittenTokens → Type 0
FrontFound ts left y = (w : WrittenLine) × (ts ≡ written_spelling w ++ left) × (written_tokens w ≡ Some y)

-- ---- the spelling of a line, as that of its parts
abbrev TraitTree : Type 0
TraitTree = List ℕ × (Params × (List WrittenBound × List (List ℕ)))

abbrev trait_made : Bool → Bool → TraitTree → WrittenLine
trait_made f a t = written_trait f a t.0 t.1.0 t.1.1.0 t.1.1.1

trait-spelled : (t : TraitTree) → trait_spelling t ≡ name t.0 ∷ ((params_spelling t.1.0 ++ []) ++ bounds_and_types t.1.1)
trait-spelled t = ap (λ z. name t.0 ∷ (z ++ bounds_and_types t.1.1)) (sym (append-nil (params_spelling t.1.0)))

impl-spelled : (P B T X : List Token) → P ++ ((B ++ keyword for_word ∷ T) ++ X) ≡ (P ++ (B ++ keyword for_word ∷ (T ++ []))) ++ X
impl-spelled P B T X = ap (λ z. P ++ ((B ++ keyword for_word ∷ z) ++ X)) (sym (append-nil T)) ∙ sym (append_assoc P (B ++ keyword for_word ∷ (T ++ [])) X)

abbrev ImplTree : Type 0
ImplTree = Params × (Clause × (List WrittenClause × List Binding))

abbrev impl_made : ImplTree → WrittenLine
impl_made t = written_impl t.0 (record { subject = t.1.0.subject; bound = record { bound = t.1.0.bound; bindings = t.1.1.1 } }) t.1.1.0

-- ---- what is read is spelled so
trait-found : (ts : List Token) (q : Progress) (y : WrittenTokens) → trait_tokens_at false false ([], ts) ≡ Some (y, q) → FrontFound (keyword trait_word ∷ ts) q.1 y
trait-found ts q y e =
    let n = (trait-part false false).takes ([], ts) q y e in
    (trait_made false false n.tree, ap (λ z. keyword trait_word ∷ z) (n.tokens ∙ ap (λ z. z ++ q.1) (trait-spelled n.tree)), ap Some (sym n.placed))

fundamental-trait-found : (ts : List Token) (q : Progress) (y : WrittenTokens) → trait_tokens_at true false ([], ts) ≡ Some (y, q) → FrontFound (keyword fundamental_word ∷ keyword trait_word ∷ ts) q.1 y
fundamental-trait-found ts q y e =
    let n = (trait-part true false).takes ([], ts) q y e in
    (trait_made true false n.tree, ap (λ z. keyword fundamental_word ∷ keyword trait_word ∷ z) (n.tokens ∙ ap (λ z. z ++ q.1) (trait-spelled n.tree)), ap Some (sym n.placed))

auto-found : (ts : List Token) (q : Progress) (y : WrittenTokens) → auto_tokens false [] ts ≡ Some (y, q) → FrontFound (keyword auto_word ∷ ts) q.1 y
auto-found (keyword trait_word ∷ ts) q y e =
    let n = (trait-part false true).takes ([], ts) q y e in
    (trait_made false true n.tree, ap (λ z. keyword auto_word ∷ keyword trait_word ∷ z) (n.tokens ∙ ap (λ z. z ++ q.1) (trait-spelled n.tree)), ap Some (sym n.placed))
auto-found _ q y e = absurd cc

fundamental-auto-found : (ts : List Token) (q : Progress) (y : WrittenTokens) → auto_tokens true [] ts ≡ Some (y, q) → FrontFound (keyword fundamental_word ∷ keyword auto_word ∷ ts) q.1 y
fundamental-auto-found (keyword trait_word ∷ ts) q y e =
    let n = (trait-part true true).takes ([], ts) q y e in
    (trait_made true true n.tree, ap (λ z. keyword fundamental_word ∷ keyword auto_word ∷ keyword trait_word ∷ z) (n.tokens ∙ ap (λ z. z ++ q.1) (trait-spelled n.tree)), ap Some (sym n.placed))
fundamental-auto-found _ q y e = absurd cc

fundamental-found : (ts : List Token) (q : Progress) (y : WrittenTokens) → fundamental_tokens [] ts ≡ Some (y, q) → FrontFound (keyword fundamental_word ∷ ts) q.1 y
fundamental-found (keyword trait_word ∷ ts) q y e = fundamental-trait-found ts q y e
fundamental-found (keyword auto_word ∷ ts) q y e = fundamental-auto-found ts q y e
fundamental-found _ q y e = absurd cc

impl-found : (ts : List Token) (q : Progress) (y : WrittenTokens) → impl_tokens_at ([], ts) ≡ Some (y, q) → FrontFound (keyword impl_word ∷ ts) q.1 y
impl-found ts q y e =
    let n = impl-part.takes ([], ts) q y e in
    let h = n.tree.1.0 in
    let spelled = impl-spelled (params_spelling n.tree.0) (bound_spelling h.bound) (type_spelling h.subject) (clauses_and_given n.tree.1.1) in
    (impl_made n.tree, ap (λ z. keyword impl_word ∷ z) (n.tokens ∙ ap (λ z. z ++ q.1) spelled), ap Some (sym n.placed))

prove-found : (ts : List Token) (q : Progress) (y : WrittenTokens) → prove_tokens_at ([], ts) ≡ Some (y, q) → FrontFound (keyword prove_word ∷ ts) q.1 y
prove-found ts q y e =
    let n = prove-part.takes ([], ts) q y e in
    let t = n.tree in
    let spelled = append_assoc (written_clause_spelling t.1.1.0) (further_tokens_spelling t.1.1.1.0) (where_tokens_spelling t.1.1.1.1) in (
      written_prove t.0 t.1.0 t.1.1.0 t.1.1.1.0 t.1.1.1.1,
      ap (λ z. keyword prove_word ∷ z) (n.tokens ∙ ap (λ z. (keyword in_word ∷ name t.0 ∷ (params_spelling t.1.0 ++ z)) ++ q.1) (sym spelled)),
      ap Some (sym n.placed),
    )

refute-found : (ts : List Token) (q : Progress) (y : WrittenTokens) → refute_tokens_at ([], ts) ≡ Some (y, q) → FrontFound (keyword refute_word ∷ ts) q.1 y
refute-found ts q y e =
    let n = refute-part.takes ([], ts) q y e in
    (written_refute n.tree.0 n.tree.1.0 n.tree.1.1.0 n.tree.1.1.1, ap (λ z. keyword refute_word ∷ z) n.tokens, ap Some (sym n.placed))

front-found : (ts : List Token) (q : Progress) (y : WrittenTokens) → written_front [] ts ≡ Some (y, q) → FrontFound ts q.1 y
front-found (keyword fundamental_word ∷ ts) q y e = fundamental-found ts q y e
front-found (keyword trait_word ∷ ts) q y e = trait-found ts q y e
front-found (keyword auto_word ∷ ts) q y e = auto-found ts q y e
front-found (keyword impl_word ∷ ts) q y e = impl-found ts q y e
front-found (keyword prove_word ∷ ts) q y e = prove-found ts q y e
front-found (keyword refute_word ∷ ts) q y e = refute-found ts q y e
front-found _ q y e = absurd cc

pub written-takes : (ts : List Token) (x : WrittenTokens) → written_in ts ≡ Some x → (w : WrittenLine) × (ts ≡ written_spelling w) × (written_tokens w ≡ Some x)
unfolding written_in written_at
written-takes ts x e =
    let a = bind-some (written_front [] ts) (λ s. if is_nil s.1.1 then Some s.0 else None) x e in
    let b = if-some (is_nil a.0.1.1) (Some a.0.0) x a.2 in
    let n = front-found ts a.0.1 a.0.0 a.1 in
    (n.0, n.1 ∙ ap (λ z. written_spelling n.0 ++ z) (nil-only a.0.1.1 b.0) ∙ append-nil (written_spelling n.0), n.2 ∙ b.1)

-- ---- what is spelled so is read
abbrev FrontReads : WrittenLine → WrittenTokens → Type 0
FrontReads w x = (c : List Cell) × (written_front [] (written_spelling w ++ []) ≡ Some (x, (c, [])))

read-as : (w : WrittenLine) (x y : WrittenTokens) → Some x ≡ Some y → FrontReads w x → FrontReads w y
read-as w x y e f = (f.0, f.1 ∙ ap (λ z. Some (z, (f.0, []))) (same_Some x y e))

trait-again : (f a : Bool) (t : TraitTree) (x : WrittenTokens) → written_tokens (trait_made f a t) ≡ Some x → FrontReads (trait_made f a t) x
trait-again false false t x e =
    read-as (trait_made false false t) _ x e (_, ap (λ z. trait_tokens_at false false ([], z ++ [])) (sym (trait-spelled t)) ∙ (trait-part false false).again [] t [] tt)
trait-again false true t x e =
    read-as (trait_made false true t) _ x e (_, ap (λ z. trait_tokens_at false true ([], z ++ [])) (sym (trait-spelled t)) ∙ (trait-part false true).again [] t [] tt)
trait-again true false t x e =
    read-as (trait_made true false t) _ x e (_, ap (λ z. trait_tokens_at true false ([], z ++ [])) (sym (trait-spelled t)) ∙ (trait-part true false).again [] t [] tt)
trait-again true true t x e =
    read-as (trait_made true true t) _ x e (_, ap (λ z. trait_tokens_at true true ([], z ++ [])) (sym (trait-spelled t)) ∙ (trait-part true true).again [] t [] tt)

impl-again : (t : ImplTree) (x : WrittenTokens) → written_tokens (impl_made t) ≡ Some x → FrontReads (impl_made t) x
impl-again t x e =
    let spelled = impl-spelled (params_spelling t.0) (bound_spelling t.1.0.bound) (type_spelling t.1.0.subject) (clauses_and_given t.1.1) in
    read-as (impl_made t) _ x e (_, ap (λ z. impl_tokens_at ([], z ++ [])) (sym spelled) ∙ impl-part.again [] t [] tt)

prove-again : (c : List ℕ) (ps : Params) (a : WrittenClause) (bs ks : List WrittenClause) (x : WrittenTokens) → written_tokens (written_prove c ps a bs ks) ≡ Some x → FrontReads (written_prove c ps a bs ks) x
prove-again c ps a bs ks x e =
    let spelled = append_assoc (written_clause_spelling a) (further_tokens_spelling bs) (where_tokens_spelling ks) in
    read-as (written_prove c ps a bs ks) _ x e
    (_, ap (λ z. prove_tokens_at ([], (keyword in_word ∷ name c ∷ (params_spelling ps ++ z)) ++ [])) spelled ∙ prove-part.again [] (c, (ps, (a, (bs, ks)))) [] tt)

refute-again : (c : List ℕ) (ps : Params) (a : WrittenClause) (bs : List WrittenClause) (x : WrittenTokens) → written_tokens (written_refute c ps a bs) ≡ Some x → FrontReads (written_refute c ps a bs) x
refute-again c ps a bs x e = read-as (written_refute c ps a bs) _ x e (_, refute-part.again [] (c, (ps, (a, bs))) [] (refl, refl))

front-again : (w : WrittenLine) (x : WrittenTokens) → written_tokens w ≡ Some x → FrontReads w x
front-again (written_trait f a n ps bs ts) x e = trait-again f a (n, (ps, (bs, ts))) x e
front-again (written_impl ps h ks) x e = impl-again (ps, (record { subject = h.subject; bound = h.bound.bound }, (ks, h.bound.bindings))) x e
front-again (written_prove c ps a bs ks) x e = prove-again c ps a bs ks x e
front-again (written_refute c ps a bs) x e = refute-again c ps a bs x e
front-again (written_crate n us) x e = absurd cc
front-again (written_struct f n ps fs) x e = absurd cc
front-again (written_later n) x e = absurd cc
front-again (written_supers n) x e = absurd cc

pub written-again : (w : WrittenLine) (x : WrittenTokens) → written_tokens w ≡ Some x → written_in (written_spelling w) ≡ Some x
unfolding written_in written_at
written-again w x e =
    let f = front-again w x e in
    ap (λ z. written_front [] z >>= λ s. if is_nil s.1.1 then Some s.0 else None) (sym (append-nil (written_spelling w)))
    ∙ ap (λ z. z >>= λ s. if is_nil s.1.1 then Some s.0 else None) f.1
