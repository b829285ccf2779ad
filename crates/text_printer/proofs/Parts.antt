-- The steps at what is left of lists, and what a loop over pieces keeps.
use Rattle.std.proofs.Common.{◌≡◌, ℕ, ◌+◌, ◌<◌, Bool, true, false, List, [], ◌∷◌, ◌++◌, length, sym, ap, ◌∙◌, subst, append_assoc, append-nil, arith, codes}
use Rattle.std.specs.Borrow.{Bor}
use Rattle.type_terms.specs.Promised.Label.{of_const}
use Rattle.type_terms.specs.Promised.Trees.{Trees, none, tree, ◌+++◌, IsA}
use Rattle.text_language.specs.Output.{Names, texts, type_text}
use Rattle.type_terms.specs.Promised.Handles.{Entry, Has, trees_at, types, consts}
use Rattle.type_terms.specs.Terms.{Lawful}
use Rattle.type_terms.specs.Kinds.{TysHeld, tys_trees, args_trees, autos_trees}
use Rattle.type_terms.specs.Promised.Handles.{arg_trees, ArgHeld, ArgsHeld, region_trees}
use Rattle.type_terms.specs.declared.TraitId.{TraitId}
use Rattle.type_terms.specs.declared.region.Region.{Region}
use Rattle.type_terms.specs.declared.kinds.Ty.{Ty}
use Rattle.type_terms.specs.declared.kinds.GenericArgKind.{GenericArgKind}
use Rattle.text_printer.specs.declared.piece.Piece.{Piece}
use Rattle.text_printer.specs.declared.piece.Piece.TheVariants.{Types, Args, Autos}
use Rattle.text_printer.specs.Pieces.{text_behind, more_args, arg_sign, pending, PiecesHeld, PieceHeld, load, pieces_load, PrintsTrees, PrintsPiece, PrintsTypes, PrintsArgs, PrintsMoreAutos}
use Rattle.text_printer.proofs.Texts.{texts-append, load-append, type-one, const-one, between-behind, pending-append, load-pieces, held-append, held-front, held-back}
use Rattle.text_printer.proofs.Steps.{nothing, one, before}
use Rattle.text_printer.proofs.Lists.{is-type, is-const, first-texts}
use Rattle.text_printer.proofs.Dyns.{no-region}

-- ---- a constant
some-load : (t : Trees) → IsA of_const t → 0 < load t
some-load none h = elim h [ ]
some-load (tree l c o) h = omega arith

pub const-step : (N : Names) (es : List Entry) → Lawful es → (so : List Piece) (oo on : List ℕ) (i : ℕ) → Has es consts i → on ≡ oo ++ type_text N (trees_at es i) → PrintsTrees N es (trees_at es i) so so oo on
const-step N es L so oo on i h e = nothing e (some-load (trees_at es i) (is-const es i L h))

-- ---- types behind commas
pub no-more-types : (N : Names) (es : List Entry) (so : List Piece) (oo : List ℕ) (ts : List Ty) → length ts ≡ 0 → PrintsTypes N es (tys_trees es ts) so so oo oo
no-more-types N es so oo [] h = nothing (sym (append-nil oo)) (omega arith)
no-more-types N es so oo (t ∷ ts) h = absurd (omega arith)

pub next-types : (N : Names) (es : List Entry) → Lawful es → (so s1 s2 : List Piece) (oo om on : List ℕ) (ts : List Ty) (first : Ty) (rest : Bor (List Ty)) → TysHeld es ts → ts ≡ first ∷ rest.now
    → om ≡ oo ++ codes ", " → s1 ≡ so ++ Types rest ∷ [] → PrintsTrees N es (trees_at es first.0) s1 s2 om on → PrintsTypes N es (tys_trees es ts) so s2 oo on
next-types N es L so s1 s2 oo om on ts first rest h e a s P =
    let k : TysHeld es (first ∷ rest.now) = subst (TysHeld es) e h in
    let q : load (tys_trees es (first ∷ rest.now)) ≡ load (trees_at es first.0) + load (tys_trees es rest.now) = load-append (trees_at es first.0) (tys_trees es rest.now) in
    subst (λ x. PrintsTypes N es (tys_trees es x) so s2 oo on) (sym e)
    (before (Types rest) (codes ", ") a s P (sym (ap (text_behind (codes ", ")) (first-texts N es L first rest.now k.0))) k.1 (omega (arith, q)))

-- ---- arguments
first-more : (b : Bool) (t : List ℕ) (ts : List (List ℕ)) → arg_sign b ++ (t ++ more_args true ts) ≡ more_args b (t ∷ ts)
first-more false t ts = ap (λ y. codes "<" ++ y) (sym (append_assoc t (text_behind (codes ", ") ts) (codes ">")) ∙ ap (λ y. y ++ codes ">") (sym (between-behind (codes ", ") t ts)))
first-more true t ts = ap (λ y. codes ", " ++ y) (sym (append_assoc t (text_behind (codes ", ") ts) (codes ">")))

arg-step : (N : Names) (es : List Entry) (so s1 s2 : List Piece) (oo om on : List ℕ) (b : Bool) (t : Trees) (rest : Bor (List GenericArgKind)) → texts N t ≡ type_text N t ∷ [] → ArgsHeld es rest.now
    → om ≡ oo ++ arg_sign b → s1 ≡ so ++ Args rest true ∷ [] → PrintsTrees N es t s1 s2 om on → PrintsArgs N es b (t +++ args_trees es rest.now) so s2 oo on
arg-step N es so s1 s2 oo om on b t rest x h a s P =
    let q : load (t +++ args_trees es rest.now) ≡ load t + load (args_trees es rest.now) = load-append t (args_trees es rest.now) in
    let y : texts N (t +++ args_trees es rest.now) ≡ type_text N t ∷ texts N (args_trees es rest.now) = texts-append N t (args_trees es rest.now) ∙ ap (λ z. z ++ texts N (args_trees es rest.now)) x in
    before (Args rest true) (arg_sign b) a s P (first-more b (type_text N t) (texts N (args_trees es rest.now)) ∙ sym (ap (more_args b) y)) h (omega (arith, q))

pub type-arg : (N : Names) (es : List Entry) → Lawful es → (so s1 s2 : List Piece) (oo om on : List ℕ) (b : Bool) (i : ℕ) (rest : Bor (List GenericArgKind)) → Has es types i → ArgsHeld es rest.now
    → om ≡ oo ++ arg_sign b → s1 ≡ so ++ Args rest true ∷ [] → PrintsTrees N es (trees_at es i) s1 s2 om on → PrintsArgs N es b (trees_at es i +++ args_trees es rest.now) so s2 oo on
type-arg N es L so s1 s2 oo om on b i rest k h a s P = arg-step N es so s1 s2 oo om on b (trees_at es i) rest (type-one N (trees_at es i) (is-type es i L k)) h a s P

pub const-arg : (N : Names) (es : List Entry) → Lawful es → (so s1 s2 : List Piece) (oo om on : List ℕ) (b : Bool) (i : ℕ) (rest : Bor (List GenericArgKind)) → Has es consts i → ArgsHeld es rest.now
    → om ≡ oo ++ arg_sign b → s1 ≡ so ++ Args rest true ∷ [] → PrintsTrees N es (trees_at es i) s1 s2 om on → PrintsArgs N es b (trees_at es i +++ args_trees es rest.now) so s2 oo on
const-arg N es L so s1 s2 oo om on b i rest k h a s P = arg-step N es so s1 s2 oo om on b (trees_at es i) rest (const-one N (trees_at es i) (is-const es i L k)) h a s P

pub rest-held : (es : List Entry) (xs : List GenericArgKind) (a : GenericArgKind) (rest : List GenericArgKind) → ArgsHeld es xs → xs ≡ a ∷ rest → ArgsHeld es rest
rest-held es xs a rest h e = (subst (ArgsHeld es) e h).1

pub first-held : (es : List Entry) (xs : List GenericArgKind) (a x : GenericArgKind) (rest : List GenericArgKind) → ArgsHeld es xs → xs ≡ a ∷ rest → a ≡ x → ArgHeld es x
first-held es xs a x rest h e f = subst (ArgHeld es) f (subst (ArgsHeld es) e h).0

pub no-more-args : (N : Names) (es : List Entry) (so : List Piece) (oo on : List ℕ) (b : Bool) (xs : List GenericArgKind) → length xs ≡ 0 → on ≡ oo ++ more_args b [] → PrintsArgs N es b (args_trees es xs) so so oo on
no-more-args N es so oo on b [] h e = nothing e (omega arith)
no-more-args N es so oo on b (x ∷ xs) h e = absurd (omega arith)

-- by the first argument
pub first-arg : (N : Names) (es : List Entry) (so sn : List Piece) (oo on : List ℕ) (b : Bool) (xs : List GenericArgKind) (a x : GenericArgKind) (rest : List GenericArgKind) → xs ≡ a ∷ rest → a ≡ x
    → PrintsArgs N es b (arg_trees es x +++ args_trees es rest) so sn oo on → PrintsArgs N es b (args_trees es xs) so sn oo on
first-arg N es so sn oo on b xs a x rest e f P =
    subst (λ y. PrintsArgs N es b (args_trees es y) so sn oo on) (sym e) (subst (λ y. PrintsArgs N es b (arg_trees es y +++ args_trees es rest) so sn oo on) (sym f) P)

-- a lifetime is passed over
pub lifetime-arg : (N : Names) (es : List Entry) (so sn : List Piece) (oo : List ℕ) (b : Bool) (r : Region) (rest : Bor (List GenericArgKind)) → ArgsHeld es rest.now → sn ≡ so ++ Args rest b ∷ []
    → PrintsArgs N es b (region_trees r +++ args_trees es rest.now) so sn oo oo
lifetime-arg N es so sn oo b r rest h s =
    one (Args rest b) [] (sym (append-nil oo)) s
    (sym (ap (more_args b) (texts-append N (region_trees r) (args_trees es rest.now) ∙ ap (λ y. y ++ texts N (args_trees es rest.now)) (no-region N r.kind)))) h (omega arith)

-- ---- auto traits behind `+`
pub no-more-autos : (N : Names) (es : List Entry) (so : List Piece) (oo : List ℕ) (ts : List TraitId) → length ts ≡ 0 → PrintsMoreAutos N es (autos_trees ts) so so oo oo
no-more-autos N es so oo [] h = nothing (sym (append-nil oo)) (omega arith)
no-more-autos N es so oo (t ∷ ts) h = absurd (omega arith)

pub some-more-autos : (N : Names) (es : List Entry) (so sn : List Piece) (oo om on : List ℕ) (ts : List TraitId) (first : TraitId) (rest : Bor (List TraitId))
    → om ≡ oo ++ codes " + " → on ≡ om ++ N.of_trait first.index → ts ≡ first ∷ rest.now → sn ≡ so ++ Autos rest ∷ [] → PrintsMoreAutos N es (autos_trees ts) so sn oo on
some-more-autos N es so sn oo om on ts first rest a b e s =
    subst (λ x. PrintsMoreAutos N es (autos_trees x) so sn oo on) (sym e)
    (one (Autos rest) (codes " + " ++ N.of_trait first.index) (b ∙ ap (λ y. y ++ N.of_trait first.index) a ∙ append_assoc oo (codes " + ") (N.of_trait first.index)) s
    (append_assoc (codes " + ") (N.of_trait first.index) (text_behind (codes " + ") (texts N (autos_trees rest.now))))
    tt (omega arith))

-- ---- a turn of the loop: the last piece is taken from the stack
pub taken-held : (es : List Entry) (s r : List Piece) (p : Piece) → PiecesHeld es s → s ≡ r ++ p ∷ [] → PieceHeld es p
taken-held es s r p h e = (held-back es r (p ∷ []) (subst (PiecesHeld es) e h)).0

pub turn-text : (N : Names) (es : List Entry) (s r sn : List Piece) (p : Piece) (oo on whole : List ℕ) → s ≡ r ++ p ∷ [] → PrintsPiece N es p r sn oo on → oo ++ pending N es s ≡ whole → on ++ pending N es sn ≡ whole
turn-text N es s r sn p oo on whole e P x =
    ap (λ y. y ++ pending N es sn) P.written
    ∙ ap (λ y. (oo ++ P.bytes) ++ y) (ap (pending N es) P.pushed ∙ pending-append N es r P.pieces)
    ∙ append_assoc oo P.bytes (pending N es P.pieces ++ pending N es r)
    ∙ ap (λ y. oo ++ y) (sym (append_assoc P.bytes (pending N es P.pieces) (pending N es r)) ∙ ap (λ y. y ++ pending N es r) P.text ∙ sym (ap (pending N es) e ∙ pending-append N es r (p ∷ [])))
    ∙ x

pub turn-held : (N : Names) (es : List Entry) (s r sn : List Piece) (p : Piece) (oo on : List ℕ) → s ≡ r ++ p ∷ [] → PrintsPiece N es p r sn oo on → PiecesHeld es s → PiecesHeld es sn
turn-held N es s r sn p oo on e P h = subst (PiecesHeld es) (sym P.pushed) (held-append es r P.pieces (held-front es r (p ∷ []) (subst (PiecesHeld es) e h)) P.held)

pub turn-lighter : (N : Names) (es : List Entry) (s r sn : List Piece) (p : Piece) (oo on : List ℕ) → s ≡ r ++ p ∷ [] → PrintsPiece N es p r sn oo on → pieces_load es sn < pieces_load es s
turn-lighter N es s r sn p oo on e P =
    let a : pieces_load es sn ≡ pieces_load es r + pieces_load es P.pieces = ap (pieces_load es) P.pushed ∙ load-pieces es r P.pieces in
    let b : pieces_load es s ≡ pieces_load es r + pieces_load es (p ∷ []) = ap (pieces_load es) e ∙ load-pieces es r (p ∷ []) in
    let k = P.lighter in
    omega (arith, a, b, k)
