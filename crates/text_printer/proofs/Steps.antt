-- How steps come together, and the texts of lists.
use Rattle.std.proofs.Common.{◌≡◌, ℕ, ◌+◌, ◌<◌, ◌≤◌, List, [], ◌∷◌, ◌++◌, refl, sym, ap, ◌∙◌, append_assoc, append-nil, arith, codes}
use Rattle.text_language.specs.Output.{Names, between, tuple_text, inputs, last_text}
use Rattle.type_terms.specs.Promised.Handles.{Entry}
use Rattle.text_printer.specs.declared.piece.Piece.{Piece}
use Rattle.text_printer.specs.Pieces.{text_behind, pending, piece_text, PieceHeld, piece_load, Prints}
use Rattle.text_printer.proofs.Texts.{pending-append, load-pieces, held-append, between-behind}

-- nothing is left
pub nothing : {N : Names} {es : List Entry} {so : List Piece} {oo on t : List ℕ} {l : ℕ} → on ≡ oo ++ t → 0 < l → Prints N es t l so so oo on
nothing {N} {es} {so} {oo} {on} {t} {l} e h = record { bytes = t; pieces = []; written = e; pushed = sym (append-nil so); text = append-nil t; held = tt; lighter = h }

-- one piece is left
pub one : {N : Names} {es : List Entry} {so sn : List Piece} {oo on t : List ℕ} {l : ℕ} (p : Piece) (w : List ℕ)
    → on ≡ oo ++ w → sn ≡ so ++ p ∷ [] → w ++ piece_text N es p ≡ t → PieceHeld es p → piece_load es p < l → Prints N es t l so sn oo on
one {N} {es} {so} {sn} {oo} {on} {t} {l} p w e s x h k = record { bytes = w; pieces = p ∷ []; written = e; pushed = s; text = x; held = (h, tt); lighter = omega (arith, k) }

-- a piece is left behind what a further step prints
pub before : {N : Names} {es : List Entry} {so sm sn : List Piece} {oo om on t u : List ℕ} {l m : ℕ} (p : Piece) (w : List ℕ)
    → om ≡ oo ++ w → sm ≡ so ++ p ∷ [] → Prints N es t l sm sn om on → w ++ (t ++ piece_text N es p) ≡ u → PieceHeld es p → l + piece_load es p ≤ m → Prints N es u m so sn oo on
before {N} {es} {so} {sm} {sn} {oo} {om} {on} {t} {u} {l} {m} p w e s P x h k = record {
  bytes = w ++ P.bytes;
  pieces = p ∷ P.pieces;
  written = P.written ∙ ap (λ y. y ++ P.bytes) e ∙ append_assoc oo w P.bytes;
  pushed = P.pushed ∙ ap (λ y. y ++ P.pieces) s ∙ append_assoc so (p ∷ []) P.pieces;
  text =
      append_assoc w P.bytes (pending N es P.pieces ++ piece_text N es p)
      ∙ ap (λ y. w ++ y) (sym (append_assoc P.bytes (pending N es P.pieces) (piece_text N es p)) ∙ ap (λ y. y ++ piece_text N es p) P.text) ∙ x;
  held = (h, P.held);
  lighter = let q = P.lighter in omega (arith, q, k);
}

-- two steps that write nothing: what the second leaves comes first
pub both : {N : Names} {es : List Entry} {so sm sn : List Piece} {oo on t u v : List ℕ} {k l m : ℕ} (w : List ℕ)
    → on ≡ oo ++ w → Prints N es t k so sm [] [] → Prints N es u l sm sn [] [] → w ++ (u ++ t) ≡ v → k + l ≤ m + 1 → Prints N es v m so sn oo on
both {N} {es} {so} {sm} {sn} {oo} {on} {t} {u} {v} {k} {l} {m} w e P Q x h = record {
  bytes = w;
  pieces = P.pieces ++ Q.pieces;
  written = e;
  pushed = Q.pushed ∙ ap (λ y. y ++ Q.pieces) P.pushed ∙ append_assoc so P.pieces Q.pieces;
  text =
      let p : pending N es P.pieces ≡ t = ap (λ y. y ++ pending N es P.pieces) P.written ∙ P.text in
      let q : pending N es Q.pieces ≡ u = ap (λ y. y ++ pending N es Q.pieces) Q.written ∙ Q.text in
      ap (λ y. w ++ y) (pending-append N es P.pieces Q.pieces ∙ ap (λ y. y ++ pending N es P.pieces) q ∙ ap (λ y. u ++ y) p) ∙ x;
  held = held-append es P.pieces Q.pieces P.held Q.held;
  lighter = let a = P.lighter in let b = Q.lighter in let c = load-pieces es P.pieces Q.pieces in omega (arith, a, b, c, h);
}

-- ---- texts
pub list-text : (c u : List ℕ) (ts vs : List (List ℕ)) → vs ≡ u ∷ ts → u ++ text_behind c ts ≡ between c vs
list-text c u ts vs e = rw e (sym (between-behind c u ts))

pub single-text : (u : List ℕ) (vs : List (List ℕ)) → vs ≡ u ∷ [] → codes "(" ++ (between (codes ", ") vs ++ codes ",)") ≡ tuple_text vs
single-text u vs e = rw e refl

pub inputs-of : (ts : List (List ℕ)) (u : List ℕ) → inputs (ts ++ u ∷ []) ≡ ts
inputs-of [] u = refl
inputs-of (t ∷ []) u = refl
inputs-of (t ∷ v ∷ ts) u = ap (λ y. t ∷ y) (inputs-of (v ∷ ts) u)

pub last-of : (ts : List (List ℕ)) (u : List ℕ) → last_text (ts ++ u ∷ []) ≡ u
last-of [] u = refl
last-of (t ∷ []) u = refl
last-of (t ∷ v ∷ ts) u = last-of (v ∷ ts) u
