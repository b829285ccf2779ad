-- Texts of trees, and what pieces come to.
use Rattle.std.proofs.Common.{◌≡◌, ℕ, ◌+◌, true, false, List, [], ◌∷◌, ◌++◌, refl, sym, ap, append_assoc, append-nil, arith, cond}
use Rattle.type_terms.specs.Promised.Label.{Sort, of_type, of_const, of_lifetime}
use Rattle.type_terms.specs.Promised.Trees.{Trees, none, tree, ◌+++◌, sort_of, is_sort, IsA}
use Rattle.text_language.specs.Output.{Names, texts, type_text, node_text, between}
use Rattle.type_terms.specs.Promised.Handles.{Entry}
use Rattle.text_printer.specs.declared.piece.Piece.{Piece}
use Rattle.text_printer.specs.Pieces.{text_behind, pending, piece_text, PiecesHeld, load, pieces_load}

-- ---- texts of trees
pub texts-append : (N : Names) (x y : Trees) → texts N (x +++ y) ≡ texts N x ++ texts N y
texts-append N none y = refl
texts-append N (tree l c o) y =
    elim (is_sort (sort_of l) of_lifetime) as (λ b. cond b (texts N (o +++ y)) (node_text N l c (texts N c) ∷ texts N (o +++ y)) ≡ cond b (texts N o) (node_text N l c (texts N c) ∷ texts N o) ++ texts N y)
    [ true ↦ texts-append N o y | false ↦ ap (λ ts. node_text N l c (texts N c) ∷ ts) (texts-append N o y) ]

pub load-append : (x y : Trees) → load (x +++ y) ≡ load x + load y
load-append none y = omega arith
load-append (tree l c o) y = let h = load-append o y in omega (arith, h)

not-lifetime : (s : Sort) (N : Names) (t : Trees) → (s ≡ of_lifetime → ⊥) → IsA s t → texts N t ≡ type_text N t ∷ []
not-lifetime s N none apart h = elim h [ ]
not-lifetime of_lifetime N (tree l c o) apart h = absurd (apart refl)
not-lifetime of_type N (tree l c o) apart h = rw h.1 (rw h.0 refl)
not-lifetime of_const N (tree l c o) apart h = rw h.1 (rw h.0 refl)

pub type-one : (N : Names) (t : Trees) → IsA of_type t → texts N t ≡ type_text N t ∷ []
type-one N t h = not-lifetime of_type N t (λ e. cc) h

pub const-one : (N : Names) (t : Trees) → IsA of_const t → texts N t ≡ type_text N t ∷ []
const-one N t h = not-lifetime of_const N t (λ e. cc) h

-- a list with something between, by its first text
pub between-behind : (c t : List ℕ) (ts : List (List ℕ)) → between c (t ∷ ts) ≡ t ++ text_behind c ts
between-behind c t [] = sym (append-nil t)
between-behind c t (u ∷ ts) = rw (between-behind c u ts) (append_assoc t c (u ++ text_behind c ts))

-- ---- stacks
pub pending-append : (N : Names) (es : List Entry) (ps qs : List Piece) → pending N es (ps ++ qs) ≡ pending N es qs ++ pending N es ps
pending-append N es [] qs = sym (append-nil (pending N es qs))
pending-append N es (p ∷ ps) qs = rw (pending-append N es ps qs) (append_assoc (pending N es qs) (pending N es ps) (piece_text N es p))

pub load-pieces : (es : List Entry) (ps qs : List Piece) → pieces_load es (ps ++ qs) ≡ pieces_load es ps + pieces_load es qs
load-pieces es [] qs = omega arith
load-pieces es (p ∷ ps) qs = let h = load-pieces es ps qs in omega (arith, h)

pub held-append : (es : List Entry) (ps qs : List Piece) → PiecesHeld es ps → PiecesHeld es qs → PiecesHeld es (ps ++ qs)
held-append es [] qs h k = k
held-append es (p ∷ ps) qs h k = (h.0, held-append es ps qs h.1 k)

pub held-front : (es : List Entry) (ps qs : List Piece) → PiecesHeld es (ps ++ qs) → PiecesHeld es ps
held-front es [] qs h = tt
held-front es (p ∷ ps) qs h = (h.0, held-front es ps qs h.1)

pub held-back : (es : List Entry) (ps qs : List Piece) → PiecesHeld es (ps ++ qs) → PiecesHeld es qs
held-back es [] qs h = h
held-back es (p ∷ ps) qs h = held-back es ps qs h.1
