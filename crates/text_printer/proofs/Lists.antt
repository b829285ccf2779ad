-- The steps at lists of types and of auto traits.
use Rattle.std.proofs.Common.{◌≡◌, ℕ, ◌+◌, true, false, List, [], ◌∷◌, ◌++◌, length, ◌≢◌, if◌then◌else◌, refl, sym, ap, ◌∙◌, subst, append_assoc, append-nil, arith, codes}
use Rattle.std.specs.Borrow.{Bor}
use Rattle.type_terms.specs.Promised.Label.{of_type, of_const, tuple, slice, array, fn_ptr}
use Rattle.type_terms.specs.Promised.Trees.{Trees, none, tree, ◌+++◌, IsA}
use Rattle.type_terms.specs.Trees.{is_no_tree}
use Rattle.text_language.specs.Output.{Names, texts, type_text, between, tuple_text, angled, output_part, ends_in_unit, is_unit, inputs, last_text}
use Rattle.type_terms.specs.Promised.Handles.{Entry, term, Is, Has, trees_at, types, consts}
use Rattle.type_terms.specs.Terms.{type_lists, Lawful}
use Rattle.type_terms.specs.Kinds.{TysHeld, tys_trees, args_trees, autos_trees}
use Rattle.type_terms.specs.Promised.Handles.{ArgsHeld}
use Rattle.type_terms.specs.declared.kinds.Ty.{Ty}
use Rattle.type_terms.specs.declared.kinds.Const.{Const}
use Rattle.type_terms.specs.declared.TraitId.{TraitId}
use Rattle.type_terms.specs.declared.kinds.GenericArgKind.{GenericArgKind}
use Rattle.text_printer.specs.declared.piece.Piece.{Piece}
use Rattle.text_printer.specs.declared.piece.Piece.TheVariants.{Ty as PTy, Const as PConst, Text, Types, Args, Autos}
use Rattle.text_printer.specs.Pieces.{text_behind, load, PushesTypes, PushesOutput, PrintsPrincipal, PrintsAutos, PrintsTrees}
use Rattle.text_printer.proofs.Texts.{texts-append, load-append, type-one, const-one}
use Rattle.text_printer.proofs.Steps.{nothing, one, before, both, list-text, single-text, inputs-of, last-of}
use Rattle.type_terms.proofs.TermBasics.{trees-of}

-- ---- texts
array-texts : (u v : List ℕ) (ts : List (List ℕ)) → ts ≡ u ∷ v ∷ [] → codes "[" ++ (u ++ codes "; " ++ v ++ codes "]") ≡ codes "[" ++ between (codes "; ") ts ++ codes "]"
array-texts u v ts e = rw e refl

pair-text : (u v : List ℕ) (ts vs : List (List ℕ)) → vs ≡ u ∷ v ∷ ts → codes "(" ++ (between (codes ", ") vs ++ codes ")") ≡ tuple_text vs
pair-text u v ts vs e = rw e refl

row-assoc : (x y z : Trees) → (x +++ y) +++ z ≡ x +++ (y +++ z)
row-assoc none y z = refl
row-assoc (tree l c o) y z = ap (λ t. tree l c t) (row-assoc o y z)

-- ---- handles
pub is-type : (es : List Entry) (i : ℕ) → Lawful es → Has es types i → IsA of_type (trees_at es i)
is-type es i L h = subst (IsA of_type) (sym (trees-of es types i h.0 h.1)) ((L.sorted i (term types h.0) h.1).as_type refl)

pub is-const : (es : List Entry) (i : ℕ) → Lawful es → Has es consts i → IsA of_const (trees_at es i)
is-const es i L h = subst (IsA of_const) (sym (trees-of es consts i h.0 h.1)) ((L.sorted i (term consts h.0) h.1).as_const refl)

-- ---- types with commas
pub no-types : (es : List Entry) (so : List Piece) (ts : List Ty) → length ts ≡ 0 → PushesTypes es (tys_trees es ts) so so
no-types es so [] h = λ N o. nothing (sym (append-nil o)) (omega arith)
no-types es so (t ∷ ts) h = absurd (omega arith)

pub first-texts : (N : Names) (es : List Entry) → Lawful es → (t : Ty) (ts : List Ty) → Has es types t.0 → texts N (tys_trees es (t ∷ ts)) ≡ type_text N (trees_at es t.0) ∷ texts N (tys_trees es ts)
first-texts N es L t ts h = texts-append N (trees_at es t.0) (tys_trees es ts) ∙ ap (λ x. x ++ texts N (tys_trees es ts)) (type-one N (trees_at es t.0) (is-type es t.0 L h))

pub some-types : (es : List Entry) → Lawful es → (so s1 s2 : List Piece) (ts : List Ty) (first : Ty) (rest : Bor (List Ty))
    → TysHeld es ts → ts ≡ first ∷ rest.now → s1 ≡ so ++ Types rest ∷ [] → s2 ≡ s1 ++ PTy first ∷ [] → PushesTypes es (tys_trees es ts) so s2
some-types es L so s1 s2 ts first rest h e a b =
    let k : TysHeld es (first ∷ rest.now) = subst (TysHeld es) e h in
    let q : load (tys_trees es (first ∷ rest.now)) ≡ load (trees_at es first.0) + load (tys_trees es rest.now) = load-append (trees_at es first.0) (tys_trees es rest.now) in
    subst (λ x. PushesTypes es (tys_trees es x) so s2) (sym e)
    (λ N o. before (Types rest) [] (sym (append-nil o)) a
    (one {t = type_text N (trees_at es first.0)} {l = 1 + load (trees_at es first.0)} (PTy first) [] (sym (append-nil o)) b refl k.0 (omega arith))
    (list-text (codes ", ") (type_text N (trees_at es first.0)) (texts N (tys_trees es rest.now)) (texts N (tys_trees es (first ∷ rest.now))) (first-texts N es L first rest.now k.0))
    k.1 (omega (arith, q)))

-- ---- slices
pub slice-step : (N : Names) (es : List Entry) (so s1 s2 : List Piece) (oo on : List ℕ) (ty : Ty) (last : Bor (List ℕ)) → Has es types ty.0
    → on ≡ oo ++ codes "[" → s1 ≡ so ++ Text last ∷ [] → s2 ≡ s1 ++ PTy ty ∷ [] → last.now ≡ codes "]" → PrintsTrees N es (tree slice (trees_at es ty.0) none) so s2 oo on
slice-step N es so s1 s2 oo on ty last h e a b x =
    let u : List ℕ = type_text N (trees_at es ty.0) in
    before (Text last) (codes "[") e a
    (one {t = u} {l = 1 + load (trees_at es ty.0)} (PTy ty) [] (sym (append-nil on)) b refl h (omega arith))
    (ap (λ z. codes "[" ++ (u ++ z)) x) tt (omega arith)

-- ---- arrays
one-by-one : (xs : List Piece) (a b c d : Piece) → xs ++ a ∷ b ∷ c ∷ d ∷ [] ≡ (((xs ++ a ∷ []) ++ b ∷ []) ++ c ∷ []) ++ d ∷ []
one-by-one xs a b c d =
    sym (append_assoc ((xs ++ a ∷ []) ++ b ∷ []) (c ∷ []) (d ∷ []) ∙ append_assoc (xs ++ a ∷ []) (b ∷ []) (c ∷ d ∷ []) ∙ append_assoc xs (a ∷ []) (b ∷ c ∷ d ∷ []))

array-pieces : (N : Names) (es : List Entry) → Lawful es → (so s1 s2 s3 s4 : List Piece) (oo on : List ℕ) (ty : Ty) (len : Const) (last mid : Bor (List ℕ))
    → Has es types ty.0 → Has es consts len.0
    → on ≡ oo ++ codes "[" → s1 ≡ so ++ Text last ∷ [] → s2 ≡ s1 ++ PConst len ∷ [] → s3 ≡ s2 ++ Text mid ∷ [] → s4 ≡ s3 ++ PTy ty ∷ [] → last.now ≡ codes "]" → mid.now ≡ codes "; "
    → PrintsTrees N es (tree array (trees_at es ty.0 +++ trees_at es len.0) none) so s4 oo on
array-pieces N es L so s1 s2 s3 s4 oo on ty len last mid h k e a b d f x y =
    let u : List ℕ = type_text N (trees_at es ty.0) in
    let v : List ℕ = type_text N (trees_at es len.0) in
    let q : load (trees_at es ty.0 +++ trees_at es len.0) ≡ load (trees_at es ty.0) + load (trees_at es len.0) = load-append (trees_at es ty.0) (trees_at es len.0) in
    before (Text last) (codes "[") e a
    (before {t = u ++ codes "; "} {u = u ++ codes "; " ++ v} {l = 2 + load (trees_at es ty.0)} {m = 2 + load (trees_at es ty.0) + load (trees_at es len.0)} (PConst len) [] (sym (append-nil on)) b
    (before {t = u} {u = u ++ codes "; "} {l = 1 + load (trees_at es ty.0)} {m = 2 + load (trees_at es ty.0)} (Text mid) [] (sym (append-nil on)) d
    (one {t = u} {l = 1 + load (trees_at es ty.0)} (PTy ty) [] (sym (append-nil on)) f refl h (omega arith))
    (ap (λ z. u ++ z) y) tt (omega arith))
    refl k (omega arith))
    (ap (λ z. codes "[" ++ (u ++ codes "; " ++ v ++ z)) x ∙ array-texts u v (texts N (trees_at es ty.0 +++ trees_at es len.0)) (texts-append N (trees_at es ty.0) (trees_at es len.0) ∙ ap (λ z. z ++ texts N (trees_at es len.0)) (type-one N (trees_at es ty.0) (is-type es ty.0 L h)) ∙ ap (λ z. u ∷ z) (const-one N (trees_at es len.0) (is-const es len.0 L k))))
    tt (omega (arith, q))

pub array-step : (N : Names) (es : List Entry) → Lawful es → (so sn : List Piece) (oo on : List ℕ) (ty : Ty) (len : Const) (last mid : Bor (List ℕ)) → Has es types ty.0 → Has es consts len.0
    → on ≡ oo ++ codes "[" → sn ≡ so ++ Text last ∷ PConst len ∷ Text mid ∷ PTy ty ∷ [] → last.now ≡ codes "]" → mid.now ≡ codes "; "
    → PrintsTrees N es (tree array (trees_at es ty.0 +++ trees_at es len.0) none) so sn oo on
array-step N es L so sn oo on ty len last mid h k e s x y =
    subst (λ z. PrintsTrees N es (tree array (trees_at es ty.0 +++ trees_at es len.0) none) so z oo on) (sym (s ∙ one-by-one so (Text last) (PConst len) (Text mid) (PTy ty)))
    (array-pieces N es L so _ _ _ _ oo on ty len last mid h k e refl refl refl refl x y)

-- ---- the bounds of a `dyn`
pub autos-step : (N : Names) (es : List Entry) (so sn : List Piece) (oo om on : List ℕ) (ts : List TraitId) (first : TraitId) (rest : Bor (List TraitId))
    → om ≡ oo ++ codes "dyn " → on ≡ om ++ N.of_trait first.index → ts ≡ first ∷ rest.now → sn ≡ so ++ Autos rest ∷ [] → PrintsAutos N es (autos_trees ts) so sn oo on
autos-step N es so sn oo om on ts first rest a b e s =
    subst (λ x. PrintsAutos N es (autos_trees x) so sn oo on) (sym e)
    (one (Autos rest) (codes "dyn " ++ N.of_trait first.index) (b ∙ ap (λ y. y ++ N.of_trait first.index) a ∙ append_assoc oo (codes "dyn ") (N.of_trait first.index)) s
    (ap (λ y. codes "dyn " ++ y) (list-text (codes " + ") (N.of_trait first.index) (texts N (autos_trees rest.now)) (texts N (autos_trees (first ∷ rest.now))) refl))
    tt (omega arith))

pub principal-step : (N : Names) (es : List Entry) (so s1 s2 : List Piece) (oo om on : List ℕ) (t : ℕ) (xs : Bor (List GenericArgKind)) (autos : Bor (List TraitId))
    → ArgsHeld es xs.now → om ≡ oo ++ codes "dyn " → on ≡ om ++ N.of_trait t → s1 ≡ so ++ Autos autos ∷ [] → s2 ≡ s1 ++ Args xs false ∷ []
    → PrintsPrincipal N es t (args_trees es xs.now) (autos_trees autos.now) so s2 oo on
principal-step N es so s1 s2 oo om on t xs autos h a b c d =
    let w : List ℕ = codes "dyn " ++ N.of_trait t in
    let g : List ℕ = angled (texts N (args_trees es xs.now)) in
    let r : List ℕ = text_behind (codes " + ") (texts N (autos_trees autos.now)) in
    before (Autos autos) w (b ∙ ap (λ y. y ++ N.of_trait t) a ∙ append_assoc oo (codes "dyn ") (N.of_trait t)) c
    (one {t = g} {l = 2 + load (args_trees es xs.now)} (Args xs false) [] (sym (append-nil on)) d refl h (omega arith))
    (ap (λ y. codes "dyn " ++ y) (sym (append_assoc (N.of_trait t) g r) ∙ list-text (codes " + ") (N.of_trait t ++ g) (texts N (autos_trees autos.now)) ((N.of_trait t ++ g) ∷ texts N (autos_trees autos.now)) refl))
    tt (omega arith)

-- ---- tuples
one-text : (N : Names) (es : List Entry) → Lawful es → (t : Ty) → Has es types t.0 → texts N (tys_trees es (t ∷ [])) ≡ type_text N (trees_at es t.0) ∷ []
one-text N es L t h = first-texts N es L t [] h

tuple-texts : (N : Names) (es : List Entry) → Lawful es → (ts : List Ty) → TysHeld es ts → (last : List ℕ) → (length ts ≡ 1 → last ≡ codes ",)") → (length ts ≢ 1 → last ≡ codes ")")
    → codes "(" ++ (between (codes ", ") (texts N (tys_trees es ts)) ++ last) ≡ tuple_text (texts N (tys_trees es ts))
tuple-texts N es L [] h last a b = rw (b (λ e. absurd (omega arith))) refl
tuple-texts N es L (t ∷ []) h last a b = rw (a refl) (single-text (type_text N (trees_at es t.0)) (texts N (tys_trees es (t ∷ []))) (one-text N es L t h.0))
tuple-texts N es L (t ∷ u ∷ ts) h last a b = rw (b (λ e. absurd (omega arith)))
    (pair-text (type_text N (trees_at es t.0)) (type_text N (trees_at es u.0)) (texts N (tys_trees es ts)) (texts N (tys_trees es (t ∷ u ∷ ts)))
    (first-texts N es L t (u ∷ ts) h.0 ∙ ap (λ y. type_text N (trees_at es t.0) ∷ y) (first-texts N es L u ts h.1.0)))

pub tuple-step : (N : Names) (es : List Entry) → Lawful es → (so s1 s2 : List Piece) (oo on : List ℕ) (ts : List Ty) (last : Bor (List ℕ)) → TysHeld es ts → (length ts ≡ 1 → last.now ≡ codes ",)") → (length ts ≢ 1 → last.now ≡ codes ")")
    → on ≡ oo ++ codes "(" → s1 ≡ so ++ Text last ∷ [] → PushesTypes es (tys_trees es ts) s1 s2 → PrintsTrees N es (tree tuple (tys_trees es ts) none) so s2 oo on
tuple-step N es L so s1 s2 oo on ts last h a b e s P = before (Text last) (codes "(") e s (P N on) (tuple-texts N es L ts h last.now a b) tt (omega arith)

-- ---- fns
not-none : (x y : Trees) → IsA of_type x → is_no_tree (x +++ y) ≡ false
not-none none y h = elim h [ ]
not-none (tree l c o) y h = refl

pub unit-no : (es : List Entry) → Lawful es → (i u : ℕ) (ts : List Ty) (first : Ty) (rest : List Ty) → Is es types i (tree tuple (trees_at es u) none) → Is es type_lists u (tys_trees es ts) → TysHeld es ts → ts ≡ first ∷ rest → false ≡ ends_in_unit (trees_at es i)
unit-no es L i u ts first rest h k held e =
    let g : TysHeld es (first ∷ rest) = subst (TysHeld es) e held in
    let f : is_no_tree (trees_at es u) ≡ false = ap is_no_tree (trees-of es type_lists u (tys_trees es ts) k ∙ ap (tys_trees es) e) ∙ not-none (trees_at es first.0) (tys_trees es rest) (is-type es first.0 L g.0) in
    sym (ap ends_in_unit (trees-of es types i (tree tuple (trees_at es u) none) h) ∙ f)

pub unit-output : (es : List Entry) (t : Trees) (so sn : List Piece) (last : Bor (List ℕ)) → ends_in_unit t ≡ true → sn ≡ so ++ Text last ∷ [] → last.now ≡ codes ")" → PushesOutput es t so sn
unit-output es t so sn last u s x N o = one (Text last) [] (sym (append-nil o)) s (x ∙ sym (ap (λ b. codes ")" ++ (if b then [] else codes " -> " ++ type_text N t)) u)) tt (omega arith)

pub some-output : (es : List Entry) (out : Ty) (so s1 s2 : List Piece) (last : Bor (List ℕ)) → ends_in_unit (trees_at es out.0) ≡ false → Has es types out.0 → s1 ≡ so ++ PTy out ∷ [] → s2 ≡ s1 ++ Text last ∷ [] → last.now ≡ codes ") -> "
    → PushesOutput es (trees_at es out.0) so s2
some-output es out so s1 s2 last u h a b x N o =
    before (PTy out) [] (sym (append-nil o)) a
    (one {t = codes ") -> "} {l = 2} (Text last) [] (sym (append-nil o)) b x tt (omega arith))
    (sym (ap (λ z. codes ")" ++ (if z then [] else codes " -> " ++ type_text N (trees_at es out.0))) u)) h (omega arith)

held-last : (es : List Entry) (ts : List Ty) (t : Ty) → TysHeld es (ts ++ t ∷ []) → TysHeld es ts × Has es types t.0
held-last es [] t h = (tt, h.0)
held-last es (u ∷ ts) t h = let r = held-last es ts t h.1 in ((h.0, r.0), r.1)

pub inputs-held : (es : List Entry) (ts us : List Ty) (t : Ty) → TysHeld es us → us ≡ ts ++ t ∷ [] → TysHeld es ts
inputs-held es ts us t h e = (held-last es ts t (subst (TysHeld es) e h)).0

pub output-held : (es : List Entry) (ts us : List Ty) (t : Ty) → TysHeld es us → us ≡ ts ++ t ∷ [] → Has es types t.0
output-held es ts us t h e = (held-last es ts t (subst (TysHeld es) e h)).1

trees-last : (es : List Entry) (ts : List Ty) (t : Ty) → tys_trees es (ts ++ t ∷ []) ≡ tys_trees es ts +++ (trees_at es t.0 +++ none)
trees-last es [] t = refl
trees-last es (u ∷ ts) t = ap (λ y. trees_at es u.0 +++ y) (trees-last es ts t) ∙ sym (row-assoc (trees_at es u.0) (tys_trees es ts) (trees_at es t.0 +++ none))

row-none : (x : Trees) → x +++ none ≡ x
row-none none = refl
row-none (tree l c o) = ap (λ y. tree l c y) (row-none o)

no-tree-append : (x y : Trees) → is_no_tree y ≡ false → is_no_tree (x +++ y) ≡ false
no-tree-append none y h = h
no-tree-append (tree l c o) y h = refl

ends-append : (x y : Trees) → is_no_tree y ≡ false → ends_in_unit (x +++ y) ≡ ends_in_unit y
ends-append none y h = refl
ends-append (tree l c o) y h = ap (λ b. if b then is_unit l c else ends_in_unit (o +++ y)) (no-tree-append o y h) ∙ ends-append o y h

a-tree : (x : Trees) → IsA of_type x → is_no_tree x ≡ false
a-tree none h = elim h [ ]
a-tree (tree l c o) h = refl

fn-text : (ts vs : List (List ℕ)) (u : List ℕ) (c d : Trees) → vs ≡ ts ++ u ∷ [] → ends_in_unit d ≡ ends_in_unit c
    → codes "fn(" ++ (between (codes ", ") ts ++ (codes ")" ++ output_part c u)) ≡ codes "fn(" ++ (between (codes ", ") (inputs vs) ++ codes ")" ++ output_part d (last_text vs))
fn-text ts vs u c d e h =
    ap (λ y. codes "fn(" ++ y) (sym (append_assoc (between (codes ", ") ts) (codes ")") (output_part c u)))
    ∙ ap (λ y. codes "fn(" ++ (between (codes ", ") y ++ codes ")" ++ output_part c u)) (sym (ap inputs e ∙ inputs-of ts u))
    ∙ ap (λ y. codes "fn(" ++ (between (codes ", ") (inputs vs) ++ codes ")" ++ output_part c y)) (sym (ap last_text e ∙ last-of ts u))
    ∙ ap (λ z. codes "fn(" ++ (between (codes ", ") (inputs vs) ++ codes ")" ++ (if z then [] else codes " -> " ++ last_text vs))) (sym h)

pub fn-step : (N : Names) (es : List Entry) → Lawful es → (n : ℕ) (so s1 s2 : List Piece) (oo on : List ℕ) (us ts : List Ty) (t : Ty) → TysHeld es us → us ≡ ts ++ t ∷ []
    → on ≡ oo ++ codes "fn(" → PushesOutput es (trees_at es t.0) so s1 → PushesTypes es (tys_trees es ts) s1 s2 → PrintsTrees N es (tree (fn_ptr n) (tys_trees es us) none) so s2 oo on
fn-step N es L n so s1 s2 oo on us ts t held e w P Q =
    let x : Trees = tys_trees es ts in
    let o : Trees = trees_at es t.0 in
    let one-type : IsA of_type o = is-type es t.0 L (output-held es ts us t held e) in
    let whole : tys_trees es us ≡ x +++ o = ap (tys_trees es) e ∙ trees-last es ts t ∙ ap (λ y. x +++ y) (row-none o) in
    let q : load (x +++ o) ≡ load x + load o = load-append x o in
    subst (λ y. PrintsTrees N es (tree (fn_ptr n) y none) so s2 oo on) (sym whole)
    (both (codes "fn(") w (P N []) (Q N [])
    (fn-text (texts N x) (texts N (x +++ o)) (type_text N o) o (x +++ o) (texts-append N x o ∙ ap (λ y. texts N x ++ y) (type-one N o one-type)) (ends-append x o (a-tree o one-type)))
    (omega (arith, q)))
