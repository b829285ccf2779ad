-- The pieces of a line that are cut between neighbours are those that are collected from the end.
use Rattle.std.proofs.Common.{◌≡◌, ℕ, true, false, cond, ◌&&◌, ◌||◌, eqb, List, [], ◌∷◌, slice_index, refl, sym, ap, ◌∙◌}
use Rattle.std.proofs.lemmas.Bool.{eqb-true, ne_eqb, cond_both, cond-true, cond-false, or_from, or_left, and_left, and_right, and_from, and_parts, false≢true}
use Rattle.std.specs.List.{onto_first}
use Rattle.text_language.specs.Words.{is_word_byte}
use Rattle.text_language.specs.Tokens.{LinePiece, word, quoted, queried, pointing, byte, onto, before, pieces}
use Rattle.text_language.specs.Promised.Grammar.{in_one_piece, pieces_of}

-- without spaces
abbrev pub texts : List LinePiece → List (List ℕ)
texts [] = []
texts (word w ∷ ps) = w ∷ texts ps
texts (quoted w ∷ ps) = (39 ∷ w) ∷ texts ps
texts (queried w ∷ ps) = (63 ∷ w) ∷ texts ps
texts (pointing ∷ ps) = (45 ∷ 62 ∷ []) ∷ texts ps
texts (byte b ∷ ps) = cond (eqb b 32) (texts ps) ((b ∷ []) ∷ texts ps)

-- words begin with a word's byte, and other bytes are none
abbrev pub Fine : List LinePiece → Type 0
Fine [] = Unit {0}
Fine (word w ∷ ps) = (is_word_byte (slice_index w 0) ≡ true) × Fine ps
Fine (quoted w ∷ ps) = (is_word_byte (slice_index w 0) ≡ true) × Fine ps
Fine (queried w ∷ ps) = (is_word_byte (slice_index w 0) ≡ true) × Fine ps
Fine (pointing ∷ ps) = Fine ps
Fine (byte b ∷ ps) = (is_word_byte b ≡ false) × Fine ps

onto-fine : (b : ℕ) (ps : List LinePiece) → is_word_byte b ≡ true → Fine ps → Fine (onto b ps)
onto-fine b [] h f = (h, f)
onto-fine b (word w ∷ ps) h f = (h, f.1)
onto-fine b (quoted w ∷ ps) h f = (h, f)
onto-fine b (queried w ∷ ps) h f = (h, f)
onto-fine b (pointing ∷ ps) h f = (h, f)
onto-fine b (byte c ∷ ps) h f = (h, f)

before-fine : (b : ℕ) (ps : List LinePiece) → is_word_byte b ≡ false → Fine ps → Fine (before b ps)
before-fine b [] h f = (h, f)
before-fine b (word w ∷ ps) h f =
    cond_both (eqb b 39) (quoted w ∷ ps) (cond (eqb b 63) (queried w ∷ ps) (byte b ∷ word w ∷ ps)) Fine (λ _. f)
    (λ _. cond_both (eqb b 63) (queried w ∷ ps) (byte b ∷ word w ∷ ps) Fine (λ _. f) (λ _. (h, f)))
before-fine b (quoted w ∷ ps) h f = (h, f)
before-fine b (queried w ∷ ps) h f = (h, f)
before-fine b (pointing ∷ ps) h f = (h, f)
before-fine b (byte c ∷ ps) h f = cond_both (eqb b 45 && eqb c 62) (pointing ∷ ps) (byte b ∷ byte c ∷ ps) Fine (λ _. f.1) (λ _. (h, f))

pub fine : (bs : List ℕ) → Fine (pieces bs)
fine [] = tt
fine (b ∷ bs) =
    cond_both (is_word_byte b) (onto b (pieces bs)) (before b (pieces bs)) Fine (λ h. onto-fine b (pieces bs) h (fine bs)) (λ h. before-fine b (pieces bs) h (fine bs))

-- the byte that pieces begin with
abbrev Heads : ℕ → List LinePiece → Type 0
Heads c [] = c ≡ 0
Heads c (word w ∷ ps) = is_word_byte c ≡ true
Heads c (quoted w ∷ ps) = c ≡ 39
Heads c (queried w ∷ ps) = c ≡ 63
Heads c (pointing ∷ ps) = c ≡ 45
Heads c (byte d ∷ ps) = (c ≡ d) × (is_word_byte d ≡ false)

onto-heads : (b : ℕ) (ps : List LinePiece) → is_word_byte b ≡ true → Heads b (onto b ps)
onto-heads b [] h = h
onto-heads b (word w ∷ ps) h = h
onto-heads b (quoted w ∷ ps) h = h
onto-heads b (queried w ∷ ps) h = h
onto-heads b (pointing ∷ ps) h = h
onto-heads b (byte c ∷ ps) h = h

before-heads : (b : ℕ) (ps : List LinePiece) → is_word_byte b ≡ false → Heads b (before b ps)
before-heads b [] h = (refl, h)
before-heads b (word w ∷ ps) h =
    cond_both (eqb b 39) (quoted w ∷ ps) (cond (eqb b 63) (queried w ∷ ps) (byte b ∷ word w ∷ ps)) (Heads b) (eqb-true b 39)
    (λ _. cond_both (eqb b 63) (queried w ∷ ps) (byte b ∷ word w ∷ ps) (Heads b) (eqb-true b 63) (λ _. (refl, h)))
before-heads b (quoted w ∷ ps) h = (refl, h)
before-heads b (queried w ∷ ps) h = (refl, h)
before-heads b (pointing ∷ ps) h = (refl, h)
before-heads b (byte c ∷ ps) h =
    cond_both (eqb b 45 && eqb c 62) (pointing ∷ ps) (byte b ∷ byte c ∷ ps) (Heads b) (λ e. eqb-true b 45 (and_parts (eqb b 45) (eqb c 62) e).0) (λ _. (refl, h))

heads : (bs : List ℕ) → Heads (slice_index bs 0) (pieces bs)
heads [] = refl
heads (b ∷ bs) = cond_both (is_word_byte b) (onto b (pieces bs)) (before b (pieces bs)) (Heads b) (onto-heads b (pieces bs)) (before-heads b (pieces bs))

-- ---- one byte more
pub not_word : (b n : ℕ) → is_word_byte n ≡ false → is_word_byte b ≡ true → eqb b n ≡ false
not_word b n h w = ne_eqb b n (λ e. false≢true (sym h ∙ sym (ap is_word_byte e) ∙ w))

abbrev before_texts : ℕ → ℕ → List (List ℕ) → List (List ℕ)
before_texts b c ts = cond (eqb b 32) ts (cond (in_one_piece b c) (onto_first b ts) ((b ∷ []) ∷ ts))

apart : (b c : ℕ) (ps : List LinePiece) → in_one_piece b c ≡ false → before_texts b c (texts ps) ≡ texts (byte b ∷ ps)
apart b c ps e = ap (λ t. cond (eqb b 32) (texts ps) (cond t (onto_first b (texts ps)) ((b ∷ []) ∷ texts ps))) e

alone : (b c : ℕ) (ps : List LinePiece) → is_word_byte b ≡ true → in_one_piece b c ≡ false → before_texts b c (texts ps) ≡ texts (word (b ∷ []) ∷ ps)
alone b c ps w e = apart b c ps e ∙ cond-false (eqb b 32) (texts ps) ((b ∷ []) ∷ texts ps) (not_word b 32 refl w)

together : (b c : ℕ) (ts : List (List ℕ)) → eqb b 32 ≡ false → in_one_piece b c ≡ true → before_texts b c ts ≡ onto_first b ts
together b c ts s e =
    cond-false (eqb b 32) ts (cond (in_one_piece b c) (onto_first b ts) ((b ∷ []) ∷ ts)) s ∙ cond-true (in_one_piece b c) (onto_first b ts) ((b ∷ []) ∷ ts) e

cut : (b c : ℕ) → is_word_byte c ≡ false → (eqb b 45 && eqb c 62) ≡ false → in_one_piece b c ≡ false
cut b c w e = or_from (is_word_byte c && ((is_word_byte b || eqb b 39) || eqb b 63)) (eqb b 45 && eqb c 62) (and_left (is_word_byte c) ((is_word_byte b || eqb b 39) || eqb b 63) w) e

cut-word : (b c : ℕ) → is_word_byte b ≡ true → is_word_byte c ≡ false → in_one_piece b c ≡ false
cut-word b c h w = cut b c w (and_left (eqb b 45) (eqb c 62) (not_word b 45 refl h))

kept : (b c : ℕ) → is_word_byte c ≡ true → ((is_word_byte b || eqb b 39) || eqb b 63) ≡ true → in_one_piece b c ≡ true
kept b c w e = or_left (is_word_byte c && ((is_word_byte b || eqb b 39) || eqb b 63)) (eqb b 45 && eqb c 62) (and_from (is_word_byte c) ((is_word_byte b || eqb b 39) || eqb b 63) w e)

-- a byte that is not `>`, and no word's
no-arrow : (b c : ℕ) → eqb c 62 ≡ false → (eqb b 45 && eqb c 62) ≡ false
no-arrow b c e = and_right (eqb b 45) (eqb c 62) e

onto-step : (b c : ℕ) (ps : List LinePiece) → is_word_byte b ≡ true → Heads c ps → before_texts b c (texts ps) ≡ texts (onto b ps)
onto-step b c [] h e = alone b c [] h (cut-word b c h (ap is_word_byte e))
onto-step b c (word w ∷ ps) h e = together b c (w ∷ texts ps) (not_word b 32 refl h) (kept b c e (or_left (is_word_byte b || eqb b 39) (eqb b 63) (or_left (is_word_byte b) (eqb b 39) h)))
onto-step b c (quoted w ∷ ps) h e = alone b c (quoted w ∷ ps) h (cut-word b c h (ap is_word_byte e))
onto-step b c (queried w ∷ ps) h e = alone b c (queried w ∷ ps) h (cut-word b c h (ap is_word_byte e))
onto-step b c (pointing ∷ ps) h e = alone b c (pointing ∷ ps) h (cut-word b c h (ap is_word_byte e))
onto-step b c (byte d ∷ ps) h e = alone b c (byte d ∷ ps) h (cut-word b c h (ap is_word_byte e.0 ∙ e.1))

-- behind `'` and `?`
marked-step : (m c : ℕ) (w : List ℕ) (ps : List LinePiece) → eqb m 32 ≡ false → ((is_word_byte m || eqb m 39) || eqb m 63) ≡ true → is_word_byte c ≡ true → (b : ℕ) → b ≡ m → before_texts b c (w ∷ texts ps) ≡ (m ∷ w) ∷ texts ps
marked-step m c w ps s t h b e = ap (λ x. before_texts x c (w ∷ texts ps)) e ∙ together m c (w ∷ texts ps) s (kept m c h t)

other-word : (b c : ℕ) → is_word_byte b ≡ false → eqb b 39 ≡ false → eqb b 63 ≡ false → is_word_byte c ≡ true → in_one_piece b c ≡ false
other-word b c h q r w =
    or_from (is_word_byte c && ((is_word_byte b || eqb b 39) || eqb b 63)) (eqb b 45 && eqb c 62)
    (and_right (is_word_byte c) ((is_word_byte b || eqb b 39) || eqb b 63) (or_from (is_word_byte b || eqb b 39) (eqb b 63) (or_from (is_word_byte b) (eqb b 39) h q) r))
    (no-arrow b c (not_word c 62 refl w))

before-step : (b c : ℕ) (ps : List LinePiece) → is_word_byte b ≡ false → Heads c ps → before_texts b c (texts ps) ≡ texts (before b ps)
before-step b c [] h e = apart b c [] (cut b c (ap is_word_byte e) (no-arrow b c (ap (λ x. eqb x 62) e)))
before-step b c (word w ∷ ps) h e =
    cond_both (eqb b 39) (quoted w ∷ ps) (cond (eqb b 63) (queried w ∷ ps) (byte b ∷ word w ∷ ps)) (λ x. before_texts b c (w ∷ texts ps) ≡ texts x)
    (λ q. marked-step 39 c w ps refl refl e b (eqb-true b 39 q))
    (λ q. cond_both (eqb b 63) (queried w ∷ ps) (byte b ∷ word w ∷ ps) (λ x. before_texts b c (w ∷ texts ps) ≡ texts x)
    (λ r. marked-step 63 c w ps refl refl e b (eqb-true b 63 r))
    (λ r. apart b c (word w ∷ ps) (other-word b c h q r e)))
before-step b c (quoted w ∷ ps) h e = apart b c (quoted w ∷ ps) (cut b c (ap is_word_byte e) (no-arrow b c (ap (λ x. eqb x 62) e)))
before-step b c (queried w ∷ ps) h e = apart b c (queried w ∷ ps) (cut b c (ap is_word_byte e) (no-arrow b c (ap (λ x. eqb x 62) e)))
before-step b c (pointing ∷ ps) h e = apart b c (pointing ∷ ps) (cut b c (ap is_word_byte e) (no-arrow b c (ap (λ x. eqb x 62) e)))
before-step b c (byte d ∷ ps) h e =
    cond_both (eqb b 45 && eqb d 62) (pointing ∷ ps) (byte b ∷ byte d ∷ ps) (λ x. before_texts b c (texts (byte d ∷ ps)) ≡ texts x)
    (λ t. let u = and_parts (eqb b 45) (eqb d 62) t in arrow-step b (eqb-true b 45 u.0) d (eqb-true d 62 u.1) c (e.0 ∙ eqb-true d 62 u.1))
    (λ t. apart b c (byte d ∷ ps) (cut b c (ap is_word_byte e.0 ∙ e.1) (ap (λ x. eqb b 45 && eqb x 62) e.0 ∙ t)))
  where
    arrow-step : (b : ℕ) → b ≡ 45 → (d : ℕ) → d ≡ 62 → (c : ℕ) → c ≡ 62 → before_texts b c (texts (byte d ∷ ps)) ≡ (45 ∷ 62 ∷ []) ∷ texts ps
    arrow-step b p d q c r = ap (λ x. before_texts x c (texts (byte d ∷ ps))) p ∙ ap (λ x. before_texts 45 x (texts (byte d ∷ ps))) r ∙ ap (λ x. before_texts 45 62 (texts (byte x ∷ ps))) q

pub pieces-same : (bs : List ℕ) → pieces_of bs ≡ texts (pieces bs)
pieces-same [] = refl
pieces-same (b ∷ bs) =
    ap (λ ts. before_texts b (slice_index bs 0) ts) (pieces-same bs)
    ∙ cond_both (is_word_byte b) (onto b (pieces bs)) (before b (pieces bs)) (λ x. before_texts b (slice_index bs 0) (texts (pieces bs)) ≡ texts x)
    (λ h. onto-step b (slice_index bs 0) (pieces bs) h (heads bs)) (λ h. before-step b (slice_index bs 0) (pieces bs) h (heads bs))
