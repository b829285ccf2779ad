-- The tokens of a line, one after the other.
use Rattle.std.proofs.Common.{◌≡◌, ℕ, Bool, true, false, cond, eqb, List, [], ◌∷◌, ◌++◌, length, drop, Option, Some, None, refl, sym, ap, ◌∙◌, append_assoc, inl, inr, arith, one-add, append-nil, ◌≤◌, ◌<◌, ◌-◌, suc, take, get_or, length-drop, sub-one}
use Rattle.std.proofs.lemmas.Option.{cond_some, same_Some}
use Rattle.std.proofs.lemmas.List.Sums.{take_while-cons}
use Rattle.std.proofs.lemmas.Bool.{cases_Bool, eqb-true, ne_eqb}
use Rattle.std.proofs.Math.Seq.{take-length}
use Rattle.std.specs.Prelude.{take_while}
use Rattle.std.specs.Option.{option_map, option_and_then}
use Rattle.text_language.specs.Words.{Sign, is_word_byte, sign_at}
use Rattle.text_language.specs.Tokens.{Token, arrow, sign, LinePiece, word, byte, quoted, queried, pointing, onto, before, pieces, in_front, word_token, as_lifetime, as_variable, sign_token, tokens_from, tokens_of}
use Rattle.text_lines.specs.TokenReading.{of_word, itself, arrow_at, lone_sign, token_at}

-- what was read before, and what is still read
abbrev pub after : List Token → Option (List Token) → Option (List Token)
after ts read = option_map (λ xs. ts ++ xs) read

pub space_skipped : (bs : List ℕ) → tokens_of (32 ∷ bs) ≡ tokens_of bs
unfolding tokens_of
space_skipped bs = spaced (pieces bs)
  where
    spaced : (ps : List LinePiece) → tokens_from (before 32 ps) ≡ tokens_from ps
    spaced [] = refl
    spaced (word w ∷ ps) = refl
    spaced (quoted w ∷ ps) = refl
    spaced (queried w ∷ ps) = refl
    spaced (pointing ∷ ps) = refl
    spaced (byte b ∷ ps) = refl

-- ---- pieces from the front

-- another byte begins no word
abbrev is_word_first : List LinePiece → Bool
is_word_first (word w ∷ ps) = true
is_word_first _ = false

before-no-word : (b : ℕ) (ps : List LinePiece) → is_word_first (before b ps) ≡ false
before-no-word b [] = refl
before-no-word b (word w ∷ ps) =
    elim (cases_Bool (eqb b 39)) [
      | inl h ↦ rw h refl
      | inr h ↦ rw h (elim (cases_Bool (eqb b 63)) [ inl q ↦ rw q refl | inr q ↦ rw q refl ])
    ]
before-no-word b (quoted w ∷ ps) = refl
before-no-word b (queried w ∷ ps) = refl
before-no-word b (pointing ∷ ps) = refl
before-no-word b (byte c ∷ ps) =
    elim (cases_Bool (eqb b 45)) [
      | inl h ↦ rw h (elim (cases_Bool (eqb c 62)) [ inl q ↦ rw q refl | inr q ↦ rw q refl ])
      | inr h ↦ rw h refl
    ]

onto-no-word : (b : ℕ) (ps : List LinePiece) → is_word_first ps ≡ false → onto b ps ≡ word (b ∷ []) ∷ ps
onto-no-word b [] h = refl
onto-no-word b (word w ∷ ps) h = absurd cc
onto-no-word b (quoted w ∷ ps) h = refl
onto-no-word b (queried w ∷ ps) h = refl
onto-no-word b (pointing ∷ ps) h = refl
onto-no-word b (byte c ∷ ps) h = refl

pieces-other : (b : ℕ) (r : List ℕ) → is_word_byte b ≡ false → pieces (b ∷ r) ≡ before b (pieces r)
pieces-other b r h = ap (λ t. cond t (onto b (pieces r)) (before b (pieces r))) h

no-word-first : (c : ℕ) (s : List ℕ) → is_word_byte c ≡ false → is_word_first (pieces (c ∷ s)) ≡ false
no-word-first c s n = ap is_word_first (pieces-other c s n) ∙ before-no-word c (pieces s)

no-word-taken : (c : ℕ) (s : List ℕ) → is_word_byte c ≡ false → take_while is_word_byte (c ∷ s) ≡ []
no-word-taken c s n = take_while-cons is_word_byte c s ∙ ap (λ t. cond t (c ∷ take_while is_word_byte s) []) n

-- a word at the front, with what it stands before
pieces-word : (b : ℕ) (r : List ℕ) → is_word_byte b ≡ true → pieces (b ∷ r) ≡ word (take_while is_word_byte (b ∷ r)) ∷ pieces (drop (length (take_while is_word_byte (b ∷ r))) (b ∷ r))
pieces-word b [] h = rw h refl
pieces-word b (c ∷ s) h =
    elim (cases_Bool (is_word_byte c)) [
      | inl w ↦ rw (h, pieces-word c s w) (rw w (simp one-add refl))
      | inr n ↦
          let e : take_while is_word_byte (b ∷ c ∷ s) ≡ b ∷ [] = take_while-cons is_word_byte b (c ∷ s) ∙ ap (λ t. cond t (b ∷ take_while is_word_byte (c ∷ s)) []) h ∙ ap (λ w. b ∷ w) (no-word-taken c s n) in
          ap (λ t. cond t (onto b (pieces (c ∷ s))) (before b (pieces (c ∷ s)))) h ∙ onto-no-word b (pieces (c ∷ s)) (no-word-first c s n) ∙ ap (λ w. word w ∷ pieces (drop (length w) (b ∷ c ∷ s))) (sym e)
    ]

-- ---- the first token

-- a token and then the others
abbrev pub stepped : Option (Token × List ℕ) → Option (List Token)
stepped o = option_and_then (λ x. in_front (Some x.0) (tokens_of x.1)) o

in_front-stepped : (t : Option Token) (r : List ℕ) → in_front t (tokens_of r) ≡ stepped (option_map (λ x. (x, r)) t)
in_front-stepped None r = refl
in_front-stepped (Some x) r = refl

word_first : (b : ℕ) (r : List ℕ) → is_word_byte b ≡ true → tokens_of (b ∷ r) ≡ stepped (of_word itself (b ∷ r))
unfolding tokens_of
word_first b r h = ap tokens_from (pieces-word b r h) ∙ in_front-stepped (word_token (take_while is_word_byte (b ∷ r))) (drop (length (take_while is_word_byte (b ∷ r))) (b ∷ r))

lonely-quote : (ps : List LinePiece) → is_word_first ps ≡ false → tokens_from (before 39 ps) ≡ None
lonely-quote [] h = refl
lonely-quote (word w ∷ ps) h = absurd cc
lonely-quote (quoted w ∷ ps) h = refl
lonely-quote (queried w ∷ ps) h = refl
lonely-quote (pointing ∷ ps) h = refl
lonely-quote (byte b ∷ ps) h = refl

lonely-query : (ps : List LinePiece) → is_word_first ps ≡ false → tokens_from (before 63 ps) ≡ None
lonely-query [] h = refl
lonely-query (word w ∷ ps) h = absurd cc
lonely-query (quoted w ∷ ps) h = refl
lonely-query (queried w ∷ ps) h = refl
lonely-query (pointing ∷ ps) h = refl
lonely-query (byte b ∷ ps) h = refl

of_word-none : (f : Option Token → Option Token) (bs : List ℕ) → f (word_token []) ≡ None → take_while is_word_byte bs ≡ [] → of_word f bs ≡ None
of_word-none f bs e h = ap (λ w. option_map (λ t. (t, drop (length w) bs)) (f (word_token w))) h ∙ ap (λ o. option_map (λ t. (t, drop 0 bs)) o) e

lifetime_first : (r : List ℕ) → tokens_of (39 ∷ r) ≡ stepped (of_word as_lifetime r)
unfolding tokens_of
lifetime_first [] = refl
lifetime_first (c ∷ s) =
    elim (cases_Bool (is_word_byte c)) [
      | inl w ↦ ap (λ ps. tokens_from (before 39 ps)) (pieces-word c s w) ∙ in_front-stepped (as_lifetime (word_token (take_while is_word_byte (c ∷ s)))) (drop (length (take_while is_word_byte (c ∷ s))) (c ∷ s))
      | inr n ↦ lonely-quote (pieces (c ∷ s)) (no-word-first c s n) ∙ ap stepped (sym (of_word-none as_lifetime (c ∷ s) refl (no-word-taken c s n)))
    ]

variable_first : (r : List ℕ) → tokens_of (63 ∷ r) ≡ stepped (of_word as_variable r)
unfolding tokens_of
variable_first [] = refl
variable_first (c ∷ s) =
    elim (cases_Bool (is_word_byte c)) [
      | inl w ↦ ap (λ ps. tokens_from (before 63 ps)) (pieces-word c s w) ∙ in_front-stepped (as_variable (word_token (take_while is_word_byte (c ∷ s)))) (drop (length (take_while is_word_byte (c ∷ s))) (c ∷ s))
      | inr n ↦ lonely-query (pieces (c ∷ s)) (no-word-first c s n) ∙ ap stepped (sym (of_word-none as_variable (c ∷ s) refl (no-word-taken c s n)))
    ]

-- a byte that `'`, `?` and `-` are not stays alone
before-alone : (b : ℕ) (ps : List LinePiece) → eqb b 39 ≡ false → eqb b 63 ≡ false → eqb b 45 ≡ false → before b ps ≡ byte b ∷ ps
before-alone b [] p q r = refl
before-alone b (word w ∷ ps) p q r = rw (p, q) refl
before-alone b (quoted w ∷ ps) p q r = refl
before-alone b (queried w ∷ ps) p q r = refl
before-alone b (pointing ∷ ps) p q r = refl
before-alone b (byte c ∷ ps) p q r = rw r refl

-- whether the pieces begin with `>`
abbrev is_greater_first : List LinePiece → Bool
is_greater_first (byte b ∷ ps) = eqb b 62
is_greater_first _ = false

lonely-dash : (ps : List LinePiece) → is_greater_first ps ≡ false → tokens_from (before 45 ps) ≡ None
lonely-dash [] h = refl
lonely-dash (word w ∷ ps) h = refl
lonely-dash (quoted w ∷ ps) h = refl
lonely-dash (queried w ∷ ps) h = refl
lonely-dash (pointing ∷ ps) h = refl
lonely-dash (byte b ∷ ps) h = rw h refl

before-not-greater : (b : ℕ) (ps : List LinePiece) → eqb b 62 ≡ false → is_greater_first (before b ps) ≡ false
before-not-greater b [] h = h
before-not-greater b (word w ∷ ps) h =
    elim (cases_Bool (eqb b 39)) [
      | inl p ↦ rw p refl
      | inr p ↦ rw p (elim (cases_Bool (eqb b 63)) [ inl q ↦ rw q refl | inr q ↦ rw q h ])
    ]
before-not-greater b (quoted w ∷ ps) h = h
before-not-greater b (queried w ∷ ps) h = h
before-not-greater b (pointing ∷ ps) h = h
before-not-greater b (byte c ∷ ps) h =
    elim (cases_Bool (eqb b 45)) [
      | inl p ↦ rw p (elim (cases_Bool (eqb c 62)) [ inl q ↦ rw q refl | inr q ↦ rw q h ])
      | inr p ↦ rw p h
    ]

not-greater-first : (c : ℕ) (s : List ℕ) → eqb c 62 ≡ false → is_greater_first (pieces (c ∷ s)) ≡ false
not-greater-first c s h =
    elim (cases_Bool (is_word_byte c)) [
      | inl w ↦ ap is_greater_first (pieces-word c s w)
      | inr n ↦ ap is_greater_first (pieces-other c s n) ∙ before-not-greater c (pieces s) h
    ]

arrow_first : (r : List ℕ) → tokens_of (45 ∷ r) ≡ stepped (arrow_at r)
unfolding tokens_of
arrow_first [] = refl
arrow_first (c ∷ s) =
    elim (cases_Bool (eqb c 62)) [
      | inl h ↦
          let e : c ≡ 62 = eqb-true c 62 h in
          ap (λ d. tokens_from (pieces (45 ∷ d ∷ s))) e ∙ ap (λ ps. tokens_from (before 45 ps)) (before-alone 62 (pieces s) refl refl refl) ∙ ap (λ d. stepped (arrow_at (d ∷ s))) (sym e)
      | inr h ↦ lonely-dash (pieces (c ∷ s)) (not-greater-first c s h) ∙ ap (λ t. stepped (cond t (Some (arrow, s)) None)) (sym h)
    ]

signed-stepped : (o : Option Sign) (r : List ℕ) → in_front (option_map sign o) (tokens_of r) ≡ stepped (option_map (λ s. (sign s, r)) o)
signed-stepped None r = refl
signed-stepped (Some s) r = refl

sign_first : (b : ℕ) (r : List ℕ) → eqb b 32 ≡ false → is_word_byte b ≡ false → eqb b 39 ≡ false → eqb b 63 ≡ false → eqb b 45 ≡ false → tokens_of (b ∷ r) ≡ stepped (lone_sign b r)
unfolding tokens_of
sign_first b r h n p q d =
    ap tokens_from (pieces-other b r n ∙ before-alone b (pieces r) p q d) ∙ ap (λ t. cond t (tokens_of r) (in_front (sign_token b) (tokens_of r))) h
    ∙ signed-stepped (sign_at b) r

-- ---- which token comes first
pub data First (b : ℕ) (r : List ℕ) : Type 0 where
  a_word : is_word_byte b ≡ true → token_at (b ∷ r) ≡ of_word itself (b ∷ r) → First b r
  a_lifetime : b ≡ 39 → token_at (b ∷ r) ≡ of_word as_lifetime r → First b r
  a_variable : b ≡ 63 → token_at (b ∷ r) ≡ of_word as_variable r → First b r
  an_arrow : b ≡ 45 → token_at (b ∷ r) ≡ arrow_at r → First b r
  a_sign : is_word_byte b ≡ false → eqb b 39 ≡ false → eqb b 63 ≡ false → eqb b 45 ≡ false → token_at (b ∷ r) ≡ lone_sign b r → First b r

ladder : {A : Type 0} → Bool → Bool → Bool → Bool → (x y z u v : A) → A
ladder a b c d x y z u v = cond a x (cond b y (cond c z (cond d u v)))

token_at-ladder : (b : ℕ) (r : List ℕ) (w p q d : Bool) → is_word_byte b ≡ w → eqb b 39 ≡ p → eqb b 63 ≡ q → eqb b 45 ≡ d → token_at (b ∷ r) ≡ ladder w p q d (of_word itself (b ∷ r)) (of_word as_lifetime r) (of_word as_variable r) (arrow_at r) (lone_sign b r)
unfolding token_at ladder
token_at-ladder b r w p q d e f g h = rw (e, f, g, h) refl

pub first_of : (b : ℕ) (r : List ℕ) → First b r
unfolding ladder
first_of b r =
    elim (cases_Bool (is_word_byte b)) [
      | inl w ↦ a_word w (token_at-ladder b r true (eqb b 39) (eqb b 63) (eqb b 45) w refl refl refl)
      | inr w ↦ elim (cases_Bool (eqb b 39)) [
        | inl p ↦ a_lifetime (eqb-true b 39 p) (token_at-ladder b r false true (eqb b 63) (eqb b 45) w p refl refl)
        | inr p ↦ elim (cases_Bool (eqb b 63)) [
          | inl q ↦ a_variable (eqb-true b 63 q) (token_at-ladder b r false false true (eqb b 45) w p q refl)
          | inr q ↦ elim (cases_Bool (eqb b 45)) [
            | inl d ↦ an_arrow (eqb-true b 45 d) (token_at-ladder b r false false false true w p q d)
            | inr d ↦ a_sign w p q d (token_at-ladder b r false false false false w p q d)
          ]
        ]
      ]
    ]

pub token_first : (b : ℕ) (r : List ℕ) → eqb b 32 ≡ false → tokens_of (b ∷ r) ≡ stepped (token_at (b ∷ r))
token_first b r h =
    elim (first_of b r) [
      | a_word w e ↦ word_first b r w ∙ ap stepped (sym e)
      | a_lifetime p e ↦ ap (λ c. tokens_of (c ∷ r)) p ∙ lifetime_first r ∙ ap stepped (sym e)
      | a_variable p e ↦ ap (λ c. tokens_of (c ∷ r)) p ∙ variable_first r ∙ ap stepped (sym e)
      | an_arrow p e ↦ ap (λ c. tokens_of (c ∷ r)) p ∙ arrow_first r ∙ ap stepped (sym e)
      | a_sign w p q d e ↦ sign_first b r h w p q d ∙ ap stepped (sym e)
    ]

-- ---- a token takes a byte at least
mapped_rest : {A B : Type 0} (o : Option A) (r : B) (x : A × B) → option_map (λ t. (t, r)) o ≡ Some x → x.1 ≡ r
mapped_rest None r x e = absurd cc
mapped_rest {A = A} {B = B} (Some a) r x e = sym (ap (λ (y : A × B). y.1) (same_Some (a, r) x e))

word_taken : (b : ℕ) (r : List ℕ) → is_word_byte b ≡ true → length (drop (length (take_while is_word_byte (b ∷ r))) (b ∷ r)) ≤ length r
word_taken b r w =
    let e : take_while is_word_byte (b ∷ r) ≡ b ∷ take_while is_word_byte r = take_while-cons is_word_byte b r ∙ ap (λ t. cond t (b ∷ take_while is_word_byte r) []) w in
    let n : length (take_while is_word_byte (b ∷ r)) ≡ suc (length (take_while is_word_byte r)) = ap length e in
    omega (arith, length-drop (length (take_while is_word_byte (b ∷ r))) (b ∷ r), n)

of_word-shorter : (f : Option Token → Option Token) (r : List ℕ) (x : Token × List ℕ) → of_word f r ≡ Some x → length x.1 ≤ length r
of_word-shorter f r x e =
    rw (mapped_rest (f (word_token (take_while is_word_byte r))) (drop (length (take_while is_word_byte r)) r) x e) (omega (arith, length-drop (length (take_while is_word_byte r)) r))

arrow-shorter : (r : List ℕ) (x : Token × List ℕ) → arrow_at r ≡ Some x → length x.1 ≤ length r
arrow-shorter [] x e = absurd cc
arrow-shorter (c ∷ s) x e = let g = cond_some (eqb c 62) (arrow, s) x e in rw (sym (ap (λ (y : Token × List ℕ). y.1) g.1)) (omega arith)

signed-rest : (o : Option Sign) (r : List ℕ) (x : Token × List ℕ) → option_map (λ s. (sign s, r)) o ≡ Some x → length x.1 ≤ length r
signed-rest None r x e = absurd cc
signed-rest (Some s) r x e = rw (sym (ap (λ (y : Token × List ℕ). y.1) (same_Some (sign s, r) x e))) (omega arith)

sign-shorter : (b : ℕ) (r : List ℕ) (x : Token × List ℕ) → lone_sign b r ≡ Some x → length x.1 ≤ length r
sign-shorter b r x e = signed-rest (sign_at b) r x e

pub token_shorter : (b : ℕ) (r : List ℕ) (x : Token × List ℕ) → token_at (b ∷ r) ≡ Some x → length x.1 ≤ length r
token_shorter b r x e =
    elim (first_of b r) [
      | a_word w f ↦ rw (mapped_rest (word_token (take_while is_word_byte (b ∷ r))) (drop (length (take_while is_word_byte (b ∷ r))) (b ∷ r)) x (sym f ∙ e)) (word_taken b r w)
      | a_lifetime p f ↦ of_word-shorter as_lifetime r x (sym f ∙ e)
      | a_variable p f ↦ of_word-shorter as_variable r x (sym f ∙ e)
      | an_arrow p f ↦ arrow-shorter r x (sym f ∙ e)
      | a_sign w p q d f ↦ sign-shorter b r x (sym f ∙ e)
    ]

-- ---- the loop

after-step : (ts : List Token) (t : Token) (o : Option (List Token)) → after ts (in_front (Some t) o) ≡ after (ts ++ t ∷ []) o
after-step ts t None = refl
after-step ts t (Some xs) = ap Some (sym (append_assoc ts (t ∷ []) xs))

goes_on : (ts : List Token) (b : ℕ) (r : List ℕ) (t : Token) (rest : List ℕ) (total : Option (List Token)) → eqb b 32 ≡ false → token_at (b ∷ r) ≡ Some (t, rest) → after ts (tokens_of (b ∷ r)) ≡ total → after (ts ++ t ∷ []) (tokens_of rest) ≡ total
goes_on ts b r t rest total h e so_far = sym (after-step ts t (tokens_of rest)) ∙ ap (λ o. after ts (stepped o)) (sym e) ∙ ap (after ts) (sym (token_first b r h)) ∙ so_far

stops : (ts : List Token) (b : ℕ) (r : List ℕ) (total : Option (List Token)) → eqb b 32 ≡ false → token_at (b ∷ r) ≡ None → after ts (tokens_of (b ∷ r)) ≡ total → None ≡ total
stops ts b r total h e so_far = ap (λ o. after ts (stepped o)) (sym e) ∙ ap (after ts) (sym (token_first b r h)) ∙ so_far

pub ends : (ts : List Token) (total : Option (List Token)) → after ts (tokens_of []) ≡ total → Some ts ≡ total
unfolding tokens_of
ends ts total so_far = ap Some (sym (append-nil ts)) ∙ so_far

-- ---- the same of a list that is known by its length

rest_is : (b : ℕ) (r : List ℕ) → take (length (b ∷ r) - 1) (drop 1 (b ∷ r)) ≡ r
rest_is b r = rw sub-one (take-length r)

pub space_goes : (s : List ℕ) → 1 ≤ length s → get_or s 0 0 ≡ 32 → tokens_of (take (length s - 1) (drop 1 s)) ≡ tokens_of s
space_goes [] n h = absurd (omega arith)
space_goes (b ∷ r) n h = ap tokens_of (rest_is b r) ∙ sym (space_skipped r) ∙ ap (λ c. tokens_of (c ∷ r)) (sym h)

pub token_goes : (ts : List Token) (s : List ℕ) (t : Token) (rest : List ℕ) (total : Option (List Token)) → 1 ≤ length s → (get_or s 0 0 ≡ 32 → ⊥) → token_at s ≡ Some (t, rest) → after ts (tokens_of s) ≡ total
    → (after (ts ++ t ∷ []) (tokens_of rest) ≡ total) × (length rest < length s)
token_goes ts [] t rest total n h e so_far = absurd (omega arith)
token_goes ts (b ∷ r) t rest total n h e so_far = (goes_on ts b r t rest total (ne_eqb b 32 h) e so_far, omega (arith, token_shorter b r (t, rest) e))

pub token_stops : (ts : List Token) (s : List ℕ) (total : Option (List Token)) → 1 ≤ length s → (get_or s 0 0 ≡ 32 → ⊥) → token_at s ≡ None → after ts (tokens_of s) ≡ total → None ≡ total
token_stops ts [] total n h e so_far = absurd (omega arith)
token_stops ts (b ∷ r) total n h e so_far = stops ts b r total (ne_eqb b 32 h) e so_far

pub sign_is : (s : List ℕ) → 1 ≤ length s → is_word_byte (get_or s 0 0) ≡ false → (get_or s 0 0 ≡ 39 → ⊥) → (get_or s 0 0 ≡ 63 → ⊥) → (get_or s 0 0 ≡ 45 → ⊥) → lone_sign (get_or s 0 0) (take (length s - 1) (drop 1 s)) ≡ token_at s
unfolding ladder
sign_is [] n w p q d = absurd (omega arith)
sign_is (b ∷ r) n w p q d = ap (lone_sign b) (rest_is b r) ∙ sym (token_at-ladder b r false false false false w (ne_eqb b 39 p) (ne_eqb b 63 q) (ne_eqb b 45 d))
