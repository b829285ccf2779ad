-- The pieces that pass the tests of tokens are those that give the tokens.
use Rattle.std.proofs.Common.{◌≡◌, ℕ, ◌+◌, ◌-◌, ◌*◌, ◌≤◌, Bool, true, false, cond, ◌&&◌, ◌||◌, eqb, nat_le, List, [], ◌∷◌, ◌++◌, map, find, slice_index, bytes_eq, Option, Some, None, refl, sym, ap, ◌∙◌, subst, inl, inr, arith}
use Rattle.std.proofs.lemmas.Bool.{cases_Bool, eqb-true, eq-eqb, leb-true, cond-true, cond-false, and_parts, and_from, and_left, or_cases, or_parts, or_from, or_left, or_right, false≢true, not-true, not_from_false, false_from_ne_true}
use Rattle.std.proofs.lemmas.Option.{same_Some}
use Rattle.std.proofs.lemmas.List.Folds.{list_any-append}
use Rattle.std.proofs.lemmas.Slice.Eq.{bytes_eq-Decides}
use Rattle.std.proofs.lemmas.Str.{digit_value_digit}
use Rattle.std.specs.Char.{is_ascii_alphabetic, is_ascii_digit, digit_value}
use Rattle.std.specs.Int.{is_in_range}
use Rattle.std.specs.List.{AllByRecursion, AllZip, list_all, list_any}
use Rattle.std.specs.Option.{option_map, option_map_or}
use Rattle.std.specs.Prelude.{slice_get, ◌==◌}
use Rattle.std.specs.Str.Parse.{digits_value, digits_value_after}
use Rattle.type_terms.specs.Promised.Label.{Label}
use Rattle.type_terms.specs.Codes.{same_label}
use Rattle.type_terms.proofs.Matching.{same-label-sound}
use Rattle.type_terms.proofs.Applies.{same-label-itself}
use Rattle.text_language.specs.Words.{is_word_byte, is_digit, Keyword, keyword_text, keywords, keyword_named, primitive_named, primitives, Sign, signs, crate_word, uses_word, fundamental_word, struct_word, auto_word, trait_word, impl_word, for_word, where_word, prove_word, refute_word, in_word, mut_word, const_word, fn_word, dyn_word, later_word, supers_word, open_angle, close_angle, open_round, close_round, open_square, close_square, comma, colon, semicolon, ampersand, star, plus, exclamation, type_word, equals, open_brace, close_brace}
use Rattle.text_language.specs.Tokens.{Token, keyword, primitive, name, lifetime, variable, number, sign, arrow, LinePiece, word, quoted, queried, pointing, byte, number_from, name_token, word_token, as_lifetime, as_variable, sign_token, in_front, tokens_from}
use Rattle.text_language.specs.Promised.Grammar.{primitive_names, reserved_words}
use Rattle.text_language.proofs.SameGrammarTests.{sign_text, begins_name, is_free, is_primitive, test_of, tests_of}
use Rattle.text_language.proofs.SameGrammarPieces.{texts, Fine}
use Rattle.type_terms.proofs.ListBasics.{any-mapped}

same-bytes : (p q : List ℕ) → bytes_eq p q ≡ true → p ≡ q
same-bytes p q e = (bytes_eq-Decides p q).0 e

bytes-same : (p q : List ℕ) → p ≡ q → bytes_eq p q ≡ true
bytes-same p q e = (bytes_eq-Decides p q).1 e

-- a byte that is no word's is not the first of a word
clash : {A : Type 0} (p q : List ℕ) → is_word_byte (slice_index p 0) ≡ true → is_word_byte (slice_index q 0) ≡ false → p ≡ q → A
clash p q t f e = absurd (false≢true (sym f ∙ sym (ap (λ x. is_word_byte (slice_index x 0)) e) ∙ t))

-- ---- tables

keyword-word : (k : Keyword) → is_word_byte (slice_index (keyword_text k) 0) ≡ true
keyword-word crate_word = refl
keyword-word uses_word = refl
keyword-word fundamental_word = refl
keyword-word struct_word = refl
keyword-word auto_word = refl
keyword-word trait_word = refl
keyword-word impl_word = refl
keyword-word for_word = refl
keyword-word where_word = refl
keyword-word prove_word = refl
keyword-word refute_word = refl
keyword-word in_word = refl
keyword-word later_word = refl
keyword-word supers_word = refl
keyword-word mut_word = refl
keyword-word const_word = refl
keyword-word fn_word = refl
keyword-word dyn_word = refl
keyword-word type_word = refl

keyword-read : (k : Keyword) → word_token (keyword_text k) ≡ Some (keyword k)
keyword-read crate_word = refl
keyword-read uses_word = refl
keyword-read fundamental_word = refl
keyword-read struct_word = refl
keyword-read auto_word = refl
keyword-read trait_word = refl
keyword-read impl_word = refl
keyword-read for_word = refl
keyword-read where_word = refl
keyword-read prove_word = refl
keyword-read refute_word = refl
keyword-read in_word = refl
keyword-read later_word = refl
keyword-read supers_word = refl
keyword-read mut_word = refl
keyword-read const_word = refl
keyword-read fn_word = refl
keyword-read dyn_word = refl
keyword-read type_word = refl

abbrev IsSignByte : Sign → ℕ → Type 0
IsSignByte s b = (sign_token b ≡ Some (sign s)) × (is_word_byte b ≡ false) × (eqb b 39 ≡ false) × (eqb b 63 ≡ false) × (eqb b 45 ≡ false) × (sign_text s ≡ b ∷ [])

sign-byte : (s : Sign) → IsSignByte s (slice_index (sign_text s) 0)
sign-byte open_angle = (refl, refl, refl, refl, refl, refl)
sign-byte close_angle = (refl, refl, refl, refl, refl, refl)
sign-byte open_round = (refl, refl, refl, refl, refl, refl)
sign-byte close_round = (refl, refl, refl, refl, refl, refl)
sign-byte open_square = (refl, refl, refl, refl, refl, refl)
sign-byte close_square = (refl, refl, refl, refl, refl, refl)
sign-byte comma = (refl, refl, refl, refl, refl, refl)
sign-byte colon = (refl, refl, refl, refl, refl, refl)
sign-byte semicolon = (refl, refl, refl, refl, refl, refl)
sign-byte ampersand = (refl, refl, refl, refl, refl, refl)
sign-byte star = (refl, refl, refl, refl, refl, refl)
sign-byte plus = (refl, refl, refl, refl, refl, refl)
sign-byte exclamation = (refl, refl, refl, refl, refl, refl)
sign-byte equals = (refl, refl, refl, refl, refl, refl)
sign-byte open_brace = (refl, refl, refl, refl, refl, refl)
sign-byte close_brace = (refl, refl, refl, refl, refl, refl)

-- what holds of each row holds where the test of a primitive type passes
in-rows : (P : List ℕ → Label → Type 0) (l : Label) (p : List ℕ) (rows : List (List ℕ × Label)) → AllByRecursion (λ x. P x.0 x.1) rows → list_any (λ x. bytes_eq p x.0 && same_label x.1 l) rows ≡ true → P p l
in-rows P l p [] a e = absurd (false≢true e)
in-rows P l p (x ∷ rows) a e =
    elim (or_cases (bytes_eq p x.0 && same_label x.1 l) (list_any (λ y. bytes_eq p y.0 && same_label y.1 l) rows) e) [
      | inl h ↦
          let u = and_parts (bytes_eq p x.0) (same_label x.1 l) h in
          subst (λ m. P p m) (same-label-sound x.1 l u.1) (subst (λ w. P w x.1) (sym (same-bytes p x.0 u.0)) a.0)
      | inr h ↦ in-rows P l p rows a.1 h
    ]

primitive-read : (l : Label) (p : List ℕ) → is_primitive l p ≡ true → word_token p ≡ Some (primitive l)
primitive-read l p e =
    in-rows (λ w m. word_token w ≡ Some (primitive m)) l p primitive_names
    (refl, (refl, (refl, (refl, (refl, (refl, (refl, (refl, (refl, (refl, (refl, (refl, (refl, (refl, (refl, tt))))))))))))))) e

primitive-word : (l : Label) (p : List ℕ) → is_primitive l p ≡ true → is_word_byte (slice_index p 0) ≡ true
primitive-word l p e =
    in-rows (λ w m. is_word_byte (slice_index w 0) ≡ true) l p primitive_names
    (refl, (refl, (refl, (refl, (refl, (refl, (refl, (refl, (refl, (refl, (refl, (refl, (refl, (refl, (refl, tt))))))))))))))) e

-- ---- names

find-none : {A : Type 0} (f : A → Bool) (xs : List A) → list_any f xs ≡ false → find f xs ≡ None
find-none f [] e = refl
find-none f (x ∷ xs) e =
    let u = or_parts (f x) (list_any f xs) e in
    cond-false (f x) (Some x) (find f xs) u.0 ∙ find-none f xs u.1

none-any : {A : Type 0} (f : A → Bool) (xs : List A) → find f xs ≡ None → list_any f xs ≡ false
none-any f [] e = refl
none-any f (x ∷ xs) e =
    elim (cases_Bool (f x)) [
      | inl h ↦ absurd (let g = sym (cond-true (f x) (Some x) (find f xs) h) ∙ e in cc)
      | inr h ↦ or_from (f x) (list_any f xs) h (none-any f xs (sym (cond-false (f x) (Some x) (find f xs) h) ∙ e))
    ]

reserved-are : reserved_words ≡ map (λ (x : List ℕ × Label). x.0) primitives ++ map keyword_text keywords
reserved-are = refl

reserved-any : (n : List ℕ) → list_any (bytes_eq n) reserved_words ≡ (list_any (λ (x : List ℕ × Label). bytes_eq n x.0) primitives || list_any (λ k. bytes_eq n (keyword_text k)) keywords)
reserved-any n =
    ap (list_any (bytes_eq n)) reserved-are ∙ list_any-append (bytes_eq n) (map (λ (x : List ℕ × Label). x.0) primitives) (map keyword_text keywords)
    ∙ ap (λ b. b || list_any (bytes_eq n) (map keyword_text keywords)) (any-mapped (bytes_eq n) (λ (x : List ℕ × Label). x.0) primitives)
    ∙ ap (λ b. list_any (λ (x : List ℕ × Label). bytes_eq n x.0) primitives || b) (any-mapped (bytes_eq n) keyword_text keywords)

free-named : (n : List ℕ) → is_free n ≡ true → name_token n ≡ name n
free-named n e =
    let u = or_parts (list_any (λ (x : List ℕ × Label). bytes_eq n x.0) primitives) (list_any (λ k. bytes_eq n (keyword_text k)) keywords) (sym (reserved-any n) ∙ not-true (list_any (bytes_eq n) reserved_words) e) in
    ap (λ (o : Option Keyword). elim o as (λ _. Token) [ Some k ↦ keyword k | None ↦ elim (primitive_named n) as (λ _. Token) [ Some p ↦ primitive p | None ↦ name n ] ]) (find-none (λ k. bytes_eq n (keyword_text k)) keywords u.1)
    ∙ ap (λ (o : Option Label). elim o as (λ _. Token) [ Some p ↦ primitive p | None ↦ name n ]) (ap (option_map (λ (x : List ℕ × Label). x.1)) (find-none (λ (x : List ℕ × Label). bytes_eq n x.0) primitives u.0))

-- the first byte of a name
in-range : (a b c : ℕ) → is_in_range a b c ≡ true → (a ≤ c) × (c ≤ b)
in-range a b c e = let u = and_parts (nat_le a c) (nat_le c b) e in (leb-true a c u.0, leb-true c b u.1)

no-digit : (c : ℕ) → (is_ascii_alphabetic c || eqb c 95) ≡ true → is_digit c ≡ false
no-digit c e =
    false_from_ne_true (is_digit c) (λ d.
    let r = in-range 48 57 c d in
    elim (or_cases (is_ascii_alphabetic c) (eqb c 95) e) [
      | inl h ↦ elim (or_cases (is_in_range 65 90 c) (is_in_range 97 122 c) h) [
        | inl u ↦ let s = in-range 65 90 c u in omega arith
        | inr u ↦ let s = in-range 97 122 c u in omega arith
      ]
      | inr h ↦ let s = eqb-true c 95 h in omega arith
    ])

begins-word : (c : ℕ) → (is_ascii_alphabetic c || eqb c 95) ≡ true → is_word_byte c ≡ true
begins-word c e =
    elim (or_cases (is_ascii_alphabetic c) (eqb c 95) e) [
      | inl h ↦ or_left ((is_in_range 48 57 c || is_in_range 65 90 c) || is_in_range 97 122 c) (eqb c 95) (elim (or_cases (is_in_range 65 90 c) (is_in_range 97 122 c) h) [
        | inl u ↦ or_left (is_in_range 48 57 c || is_in_range 65 90 c) (is_in_range 97 122 c) (or_right (is_in_range 48 57 c) (is_in_range 65 90 c) u)
        | inr u ↦ or_right (is_in_range 48 57 c || is_in_range 65 90 c) (is_in_range 97 122 c) u
      ])
      | inr h ↦ or_right ((is_in_range 48 57 c || is_in_range 65 90 c) || is_in_range 97 122 c) (eqb c 95) h
    ]

word-begins : (c : ℕ) → is_word_byte c ≡ true → is_digit c ≡ false → (is_ascii_alphabetic c || eqb c 95) ≡ true
word-begins c e d =
    elim (or_cases ((is_in_range 48 57 c || is_in_range 65 90 c) || is_in_range 97 122 c) (eqb c 95) e) [
      | inl h ↦ or_left (is_ascii_alphabetic c) (eqb c 95) (elim (or_cases (is_in_range 48 57 c || is_in_range 65 90 c) (is_in_range 97 122 c) h) [
        | inl u ↦ elim (or_cases (is_in_range 48 57 c) (is_in_range 65 90 c) u) [
          | inl v ↦ absurd (false≢true (sym d ∙ v))
          | inr v ↦ or_left (is_in_range 65 90 c) (is_in_range 97 122 c) v
        ]
        | inr u ↦ or_right (is_in_range 65 90 c) (is_in_range 97 122 c) u
      ])
      | inr h ↦ or_right (is_ascii_alphabetic c) (eqb c 95) h
    ]

name-read : (n : List ℕ) → begins_name n ≡ true → is_free n ≡ true → word_token n ≡ Some (name n)
name-read [] b f = absurd (false≢true b)
name-read (c ∷ cs) b f =
    let d = no-digit c b in
    cond-false (is_digit c && list_all is_digit cs) (Some (number (number_from 0 (c ∷ cs)))) (cond (is_digit c) None (Some (name_token (c ∷ cs)))) (and_left (is_digit c) (list_all is_digit cs) d)
    ∙ cond-false (is_digit c) None (Some (name_token (c ∷ cs))) d ∙ ap Some (free-named (c ∷ cs) f)

-- ---- numbers
value-same : (n : ℕ) (ds : List ℕ) → list_all is_digit ds ≡ true → digits_value_after 10 n ds ≡ number_from n ds
value-same n [] e = refl
value-same n (d ∷ ds) e =
    let u = and_parts (is_digit d) (list_all is_digit ds) e in
    let r = in-range 48 57 d u.0 in
    let v = digit_value_digit d r in
    let s : n * 10 + digit_value d ≡ 10 * n + (d - 48) = omega (arith, v) in
    ap (λ m. digits_value_after 10 m ds) s ∙ value-same (10 * n + (d - 48)) ds u.1

number-read : (w : List ℕ) (n : ℕ) → (list_all is_ascii_digit w && digits_value 10 w == n) ≡ true → word_token w ≡ Some (number n)
number-read w n e =
    let u = and_parts (list_all is_digit w) (eqb (digits_value 10 w) n) e in
    cond-true (list_all is_digit w) (Some (number (number_from 0 w))) (cond (option_map_or is_digit (slice_get w 0) false) None (Some (name_token w))) u.0
    ∙ ap (λ m. Some (number m)) (sym (value-same 0 w u.0) ∙ eqb-true (digits_value 10 w) n u.1)

-- ---- what passes is read

-- the three parts of a name's test
name-parts : (a b c : Bool) → ((a && b) && c) ≡ true → (a ≡ true) × (b ≡ true) × (c ≡ true)
name-parts a b c e = let u = and_parts (a && b) c e in let v = and_parts a b u.0 in (v.0, v.1, u.1)

no-sign : {A : Type 0} (s : Sign) (w : List ℕ) → is_word_byte (slice_index w 0) ≡ true → bytes_eq (sign_text s) w ≡ true → A
no-sign s w h e = clash w (sign_text s) h (sign-byte s).1 (sym (same-bytes (sign_text s) w e))

read-word : (w : List ℕ) → is_word_byte (slice_index w 0) ≡ true → (t : Token) → test_of t w ≡ true → word_token w ≡ Some t
read-word w h (keyword k) e = ap word_token (sym (same-bytes (keyword_text k) w e)) ∙ keyword-read k
read-word w h (primitive l) e = primitive-read l w e
read-word w h (name n) e =
    let u = name-parts (bytes_eq w n) (begins_name n) (is_free n) e in
    ap word_token (same-bytes w n u.0) ∙ name-read n u.1 u.2
read-word w h (lifetime n) e = clash w (39 ∷ n) h refl (same-bytes w (39 ∷ n) (name-parts (bytes_eq w (39 ∷ n)) (begins_name n) (is_free n) e).0)
read-word w h (variable n) e = clash w (63 ∷ n) h refl (same-bytes w (63 ∷ n) (name-parts (bytes_eq w (63 ∷ n)) (begins_name n) (is_free n) e).0)
read-word w h (number n) e = number-read w n e
read-word w h (sign s) e = no-sign s w h e
read-word w h arrow e = clash w (45 ∷ 62 ∷ []) h refl (sym (same-bytes (45 ∷ 62 ∷ []) w e))

-- a piece that begins with no word's byte
no-keyword : {A : Type 0} (k : Keyword) (p : List ℕ) → is_word_byte (slice_index p 0) ≡ false → bytes_eq (keyword_text k) p ≡ true → A
no-keyword k p f e = clash (keyword_text k) p (keyword-word k) f (same-bytes (keyword_text k) p e)

no-primitive : {A : Type 0} (l : Label) (p : List ℕ) → is_word_byte (slice_index p 0) ≡ false → is_primitive l p ≡ true → A
no-primitive l p f e = clash p p (primitive-word l p e) f refl

no-name : {A : Type 0} (n p : List ℕ) → is_word_byte (slice_index p 0) ≡ false → test_of (name n) p ≡ true → A
no-name n p f e =
    let u = name-parts (bytes_eq p n) (begins_name n) (is_free n) e in
    clash n p (begins-word (slice_index n 0) u.1) f (sym (same-bytes p n u.0))

no-number : {A : Type 0} (n b : ℕ) (p : List ℕ) → is_word_byte b ≡ false → test_of (number n) (b ∷ p) ≡ true → A
no-number n b p f e =
    let u = and_parts (list_all is_ascii_digit (b ∷ p)) (eqb (digits_value 10 (b ∷ p)) n) e in
    let v = and_parts (is_ascii_digit b) (list_all is_ascii_digit p) u.0 in
    absurd (false≢true (sym f ∙ or_left ((is_in_range 48 57 b || is_in_range 65 90 b) || is_in_range 97 122 b) (eqb b 95) (or_left (is_in_range 48 57 b || is_in_range 65 90 b) (is_in_range 97 122 b) (or_left (is_in_range 48 57 b) (is_in_range 65 90 b) v.0))))

no-sign-byte : {A : Type 0} (s : Sign) (b : ℕ) (p : List ℕ) → eqb (slice_index (sign_text s) 0) b ≡ false → bytes_eq (sign_text s) (b ∷ p) ≡ true → A
no-sign-byte s b p f e =
    absurd (false≢true (sym f ∙ eq-eqb (slice_index (sign_text s) 0) b (ap (λ x. slice_index x 0) (same-bytes (sign_text s) (b ∷ p) e))))

read-quoted : (w : List ℕ) (t : Token) → test_of t (39 ∷ w) ≡ true → as_lifetime (word_token w) ≡ Some t
read-quoted w (keyword k) e = no-keyword k (39 ∷ w) refl e
read-quoted w (primitive l) e = no-primitive l (39 ∷ w) refl e
read-quoted w (name n) e = no-name n (39 ∷ w) refl e
read-quoted w (lifetime n) e =
    let u = name-parts (bytes_eq w n) (begins_name n) (is_free n) e in
    ap (λ x. as_lifetime (word_token x)) (same-bytes w n u.0) ∙ ap as_lifetime (name-read n u.1 u.2)
read-quoted w (variable n) e = absurd cc
read-quoted w (number n) e = no-number n 39 w refl e
read-quoted w (sign s) e = no-sign-byte s 39 w (sign-byte s).2 e
read-quoted w arrow e = absurd cc

read-queried : (w : List ℕ) (t : Token) → test_of t (63 ∷ w) ≡ true → as_variable (word_token w) ≡ Some t
read-queried w (keyword k) e = no-keyword k (63 ∷ w) refl e
read-queried w (primitive l) e = no-primitive l (63 ∷ w) refl e
read-queried w (name n) e = no-name n (63 ∷ w) refl e
read-queried w (lifetime n) e = absurd cc
read-queried w (variable n) e =
    let u = name-parts (bytes_eq w n) (begins_name n) (is_free n) e in
    ap (λ x. as_variable (word_token x)) (same-bytes w n u.0) ∙ ap as_variable (name-read n u.1 u.2)
read-queried w (number n) e = no-number n 63 w refl e
read-queried w (sign s) e = no-sign-byte s 63 w (sign-byte s).3 e
read-queried w arrow e = absurd cc

read-pointing : (t : Token) → test_of t (45 ∷ 62 ∷ []) ≡ true → Some arrow ≡ Some t
read-pointing (keyword k) e = no-keyword k (45 ∷ 62 ∷ []) refl e
read-pointing (primitive l) e = no-primitive l (45 ∷ 62 ∷ []) refl e
read-pointing (name n) e = no-name n (45 ∷ 62 ∷ []) refl e
read-pointing (lifetime n) e = absurd cc
read-pointing (variable n) e = absurd cc
read-pointing (number n) e = no-number n 45 (62 ∷ []) refl e
read-pointing (sign s) e = no-sign-byte s 45 (62 ∷ []) (sign-byte s).4 e
read-pointing arrow e = refl

-- a mark alone is no name
no-mark : {A : Type 0} (m b : ℕ) (n : List ℕ) → ((bytes_eq (b ∷ []) (m ∷ n) && begins_name n) && is_free n) ≡ true → A
no-mark m b [] e = absurd (false≢true (name-parts (bytes_eq (b ∷ []) (m ∷ [])) false (is_free []) e).1)
no-mark m b (c ∷ n) e = let u = same-bytes (b ∷ []) (m ∷ c ∷ n) (name-parts (bytes_eq (b ∷ []) (m ∷ c ∷ n)) (begins_name (c ∷ n)) (is_free (c ∷ n)) e).0 in absurd cc

read-byte : (b : ℕ) → is_word_byte b ≡ false → (t : Token) → test_of t (b ∷ []) ≡ true → sign_token b ≡ Some t
read-byte b f (keyword k) e = no-keyword k (b ∷ []) f e
read-byte b f (primitive l) e = no-primitive l (b ∷ []) f e
read-byte b f (name n) e = no-name n (b ∷ []) f e
read-byte b f (lifetime n) e = no-mark 39 b n e
read-byte b f (variable n) e = no-mark 63 b n e
read-byte b f (number n) e = no-number n b [] f e
read-byte b f (sign s) e = ap (λ x. sign_token (slice_index x 0)) (sym (same-bytes (sign_text s) (b ∷ []) e)) ∙ (sign-byte s).0
read-byte b f arrow e = let u = same-bytes (45 ∷ 62 ∷ []) (b ∷ []) e in absurd cc

-- ---- what is read passes

found : {A : Type 0} (f : A → Bool) (xs : List A) (x : A) → find f xs ≡ Some x → f x ≡ true
found f [] x e = absurd cc
found f (y ∷ ys) x e =
    elim (cases_Bool (f y)) [
      | inl h ↦ subst (λ z. f z ≡ true) (same_Some y x (sym (cond-true (f y) (Some y) (find f ys) h) ∙ e)) h
      | inr h ↦ found f ys x (sym (cond-false (f y) (Some y) (find f ys) h) ∙ e)
    ]

row-found : (w : List ℕ) (l : Label) (rows : List (List ℕ × Label)) → option_map (λ (x : List ℕ × Label). x.1) (find (λ (x : List ℕ × Label). bytes_eq w x.0) rows) ≡ Some l → list_any (λ (x : List ℕ × Label). bytes_eq w x.0 && same_label x.1 l) rows ≡ true
row-found w l [] e = absurd cc
row-found w l (x ∷ rows) e =
    elim (cases_Bool (bytes_eq w x.0)) [
      | inl h ↦
          let g = same_Some x.1 l (ap (option_map (λ (y : List ℕ × Label). y.1)) (sym (cond-true (bytes_eq w x.0) (Some x) (find (λ (y : List ℕ × Label). bytes_eq w y.0) rows) h)) ∙ e) in
          or_left (bytes_eq w x.0 && same_label x.1 l) (list_any (λ (y : List ℕ × Label). bytes_eq w y.0 && same_label y.1 l) rows) (and_from (bytes_eq w x.0) (same_label x.1 l) h (subst (λ m. same_label x.1 m ≡ true) g (same-label-itself x.1)))
      | inr h ↦
          or_right (bytes_eq w x.0 && same_label x.1 l) (list_any (λ (y : List ℕ × Label). bytes_eq w y.0 && same_label y.1 l) rows)
          (row-found w l rows (ap (option_map (λ (y : List ℕ × Label). y.1)) (sym (cond-false (bytes_eq w x.0) (Some x) (find (λ (y : List ℕ × Label). bytes_eq w y.0) rows) h)) ∙ e))
    ]

mapped-none : {A B : Type 0} (f : A → B) (o : Option A) → option_map f o ≡ None → o ≡ None
mapped-none f None e = refl
mapped-none f (Some x) e = absurd cc

abbrev named_token : List ℕ → Option Keyword → Option Label → Token
named_token w (Some k) p = keyword k
named_token w None (Some p) = primitive p
named_token w None None = name w

named-is : (w : List ℕ) (o : Option Keyword) (p : Option Label) → keyword_named w ≡ o → primitive_named w ≡ p → name_token w ≡ named_token w o p
named-is w (Some k) p e f = ap (λ (o : Option Keyword). elim o as (λ _. Token) [ Some k ↦ keyword k | None ↦ elim (primitive_named w) as (λ _. Token) [ Some p ↦ primitive p | None ↦ name w ] ]) e
named-is w None (Some p) e f =
    ap (λ (o : Option Keyword). elim o as (λ _. Token) [ Some k ↦ keyword k | None ↦ elim (primitive_named w) as (λ _. Token) [ Some p ↦ primitive p | None ↦ name w ] ]) e
    ∙ ap (λ (o : Option Label). elim o as (λ _. Token) [ Some p ↦ primitive p | None ↦ name w ]) f
named-is w None None e f =
    ap (λ (o : Option Keyword). elim o as (λ _. Token) [ Some k ↦ keyword k | None ↦ elim (primitive_named w) as (λ _. Token) [ Some p ↦ primitive p | None ↦ name w ] ]) e
    ∙ ap (λ (o : Option Label). elim o as (λ _. Token) [ Some p ↦ primitive p | None ↦ name w ]) f

say-named : (w : List ℕ) → begins_name w ≡ true → (o : Option Keyword) (p : Option Label) → keyword_named w ≡ o → primitive_named w ≡ p → test_of (named_token w o p) w ≡ true
say-named w b (Some k) p e f = bytes-same (keyword_text k) w (sym (same-bytes w (keyword_text k) (found (λ k. bytes_eq w (keyword_text k)) keywords k e)))
say-named w b None (Some l) e f = row-found w l primitives f
say-named w b None None e f =
    and_from (bytes_eq w w && begins_name w) (is_free w) (and_from (bytes_eq w w) (begins_name w) (bytes-same w w refl) b)
    (not_from_false (list_any (bytes_eq w) reserved_words)
    (reserved-any w ∙ or_from (list_any (λ (x : List ℕ × Label). bytes_eq w x.0) primitives) (list_any (λ k. bytes_eq w (keyword_text k)) keywords)
    (none-any (λ (x : List ℕ × Label). bytes_eq w x.0) primitives (mapped-none (λ (x : List ℕ × Label). x.1) (find (λ (x : List ℕ × Label). bytes_eq w x.0) primitives) f))
    (none-any (λ k. bytes_eq w (keyword_text k)) keywords e)))

say-word : (w : List ℕ) → is_word_byte (slice_index w 0) ≡ true → (t : Token) → word_token w ≡ Some t → test_of t w ≡ true
say-word [] h t e = absurd (false≢true h)
say-word (c ∷ cs) h t e =
    elim (cases_Bool (list_all is_digit (c ∷ cs))) [
      | inl d ↦
          let g = same_Some (number (number_from 0 (c ∷ cs))) t (sym (cond-true (list_all is_digit (c ∷ cs)) (Some (number (number_from 0 (c ∷ cs)))) (cond (is_digit c) None (Some (name_token (c ∷ cs)))) d) ∙ e) in
          subst (λ x. test_of x (c ∷ cs) ≡ true) g (and_from (list_all is_ascii_digit (c ∷ cs)) (eqb (digits_value 10 (c ∷ cs)) (number_from 0 (c ∷ cs))) d (eq-eqb (digits_value 10 (c ∷ cs)) (number_from 0 (c ∷ cs)) (value-same 0 (c ∷ cs) d)))
      | inr d ↦
          let g = sym (cond-false (list_all is_digit (c ∷ cs)) (Some (number (number_from 0 (c ∷ cs)))) (cond (is_digit c) None (Some (name_token (c ∷ cs)))) d) ∙ e in
          elim (cases_Bool (is_digit c)) [
            | inl i ↦ let z = sym (cond-true (is_digit c) None (Some (name_token (c ∷ cs))) i) ∙ g in absurd cc
            | inr i ↦
                let z = same_Some (name_token (c ∷ cs)) t (sym (cond-false (is_digit c) None (Some (name_token (c ∷ cs))) i) ∙ g) in
                subst (λ x. test_of x (c ∷ cs) ≡ true) (sym (named-is (c ∷ cs) (keyword_named (c ∷ cs)) (primitive_named (c ∷ cs)) refl refl) ∙ z)
                (say-named (c ∷ cs) (word-begins c h i) (keyword_named (c ∷ cs)) (primitive_named (c ∷ cs)) refl refl)
          ]
    ]

say-quoted : (w : List ℕ) → is_word_byte (slice_index w 0) ≡ true → (o : Option Token) → word_token w ≡ o → (t : Token) → as_lifetime o ≡ Some t → test_of t (39 ∷ w) ≡ true
say-quoted w h None p t e = absurd cc
say-quoted w h (Some (keyword k)) p t e = absurd cc
say-quoted w h (Some (primitive l)) p t e = absurd cc
say-quoted w h (Some (name n)) p t e = subst (λ x. test_of x (39 ∷ w) ≡ true) (same_Some (lifetime n) t e) (say-word w h (name n) p)
say-quoted w h (Some (lifetime n)) p t e = absurd cc
say-quoted w h (Some (variable n)) p t e = absurd cc
say-quoted w h (Some (number n)) p t e = absurd cc
say-quoted w h (Some (sign s)) p t e = absurd cc
say-quoted w h (Some arrow) p t e = absurd cc

say-queried : (w : List ℕ) → is_word_byte (slice_index w 0) ≡ true → (o : Option Token) → word_token w ≡ o → (t : Token) → as_variable o ≡ Some t → test_of t (63 ∷ w) ≡ true
say-queried w h None p t e = absurd cc
say-queried w h (Some (keyword k)) p t e = absurd cc
say-queried w h (Some (primitive l)) p t e = absurd cc
say-queried w h (Some (name n)) p t e = subst (λ x. test_of x (63 ∷ w) ≡ true) (same_Some (variable n) t e) (say-word w h (name n) p)
say-queried w h (Some (lifetime n)) p t e = absurd cc
say-queried w h (Some (variable n)) p t e = absurd cc
say-queried w h (Some (number n)) p t e = absurd cc
say-queried w h (Some (sign s)) p t e = absurd cc
say-queried w h (Some arrow) p t e = absurd cc

sign-found : (b : ℕ) (rows : List (List ℕ × Sign)) → AllByRecursion (λ (x : List ℕ × Sign). sign_text x.1 ≡ x.0) rows → (t : Token) → option_map sign (option_map (λ (x : List ℕ × Sign). x.1) (find (λ (x : List ℕ × Sign). bytes_eq (b ∷ []) x.0) rows)) ≡ Some t → test_of t (b ∷ []) ≡ true
sign-found b [] a t e = absurd cc
sign-found b (x ∷ rows) a t e =
    elim (cases_Bool (bytes_eq (b ∷ []) x.0)) [
      | inl h ↦
          let g = same_Some (sign x.1) t (ap (λ o. option_map sign (option_map (λ (y : List ℕ × Sign). y.1) o)) (sym (cond-true (bytes_eq (b ∷ []) x.0) (Some x) (find (λ (y : List ℕ × Sign). bytes_eq (b ∷ []) y.0) rows) h)) ∙ e) in
          subst (λ z. test_of z (b ∷ []) ≡ true) g (bytes-same (sign_text x.1) (b ∷ []) (a.0 ∙ sym (same-bytes (b ∷ []) x.0 h)))
      | inr h ↦
          sign-found b rows a.1 t (ap (λ o. option_map sign (option_map (λ (y : List ℕ × Sign). y.1) o)) (sym (cond-false (bytes_eq (b ∷ []) x.0) (Some x) (find (λ (y : List ℕ × Sign). bytes_eq (b ∷ []) y.0) rows) h)) ∙ e)
    ]

say-byte : (b : ℕ) (t : Token) → sign_token b ≡ Some t → test_of t (b ∷ []) ≡ true
say-byte b t e = sign-found b signs (refl, (refl, (refl, (refl, (refl, (refl, (refl, (refl, (refl, (refl, (refl, (refl, (refl, (refl, (refl, (refl, tt)))))))))))))))) t e

-- ---- all pieces
abbrev pub Passed : List Token → List (List ℕ) → Type 0
Passed ts ps = AllZip (λ (test : List ℕ → Bool) (piece : List ℕ). test piece ≡ true) (tests_of ts) ps

both-there : (o : Option Token) (p : Option (List Token)) (t : Token) (ts : List Token) → o ≡ Some t → p ≡ Some ts → in_front o p ≡ Some (t ∷ ts)
both-there o p t ts e f = ap (λ x. in_front x p) e ∙ ap (λ x. in_front (Some t) x) f

pub passed-read : (ps : List LinePiece) → Fine ps → (ts : List Token) → Passed ts (texts ps) → tokens_from ps ≡ Some ts
passed-read [] f [] z = refl
passed-read [] f (t ∷ ts) z = absurd z
passed-read (word w ∷ ps) f [] z = absurd z
passed-read (word w ∷ ps) f (t ∷ ts) z = both-there (word_token w) (tokens_from ps) t ts (read-word w f.0 t z.0) (passed-read ps f.1 ts z.1)
passed-read (quoted w ∷ ps) f [] z = absurd z
passed-read (quoted w ∷ ps) f (t ∷ ts) z = both-there (as_lifetime (word_token w)) (tokens_from ps) t ts (read-quoted w t z.0) (passed-read ps f.1 ts z.1)
passed-read (queried w ∷ ps) f [] z = absurd z
passed-read (queried w ∷ ps) f (t ∷ ts) z = both-there (as_variable (word_token w)) (tokens_from ps) t ts (read-queried w t z.0) (passed-read ps f.1 ts z.1)
passed-read (pointing ∷ ps) f [] z = absurd z
passed-read (pointing ∷ ps) f (t ∷ ts) z = both-there (Some arrow) (tokens_from ps) t ts (read-pointing t z.0) (passed-read ps f ts z.1)
passed-read (byte b ∷ ps) f ts z =
    elim (cases_Bool (eqb b 32)) [
      | inl s ↦
          cond-true (eqb b 32) (tokens_from ps) (in_front (sign_token b) (tokens_from ps)) s
          ∙ passed-read ps f.1 ts (subst (λ x. Passed ts x) (cond-true (eqb b 32) (texts ps) ((b ∷ []) ∷ texts ps) s) z)
      | inr s ↦
          cond-false (eqb b 32) (tokens_from ps) (in_front (sign_token b) (tokens_from ps)) s
          ∙ byte-read b ps f.0 ts (subst (λ x. Passed ts x) (cond-false (eqb b 32) (texts ps) ((b ∷ []) ∷ texts ps) s) z) (λ us. passed-read ps f.1 us)
    ]
  where
    byte-read : (b : ℕ) (ps : List LinePiece) → is_word_byte b ≡ false → (ts : List Token) → Passed ts ((b ∷ []) ∷ texts ps) → ((us : List Token) → Passed us (texts ps) → tokens_from ps ≡ Some us) → in_front (sign_token b) (tokens_from ps) ≡ Some ts
    byte-read b ps f [] z go = absurd z
    byte-read b ps f (t ∷ ts) z go = both-there (sign_token b) (tokens_from ps) t ts (read-byte b f t z.0) (go ts z.1)

-- a token and those behind it
record Split (o : Option Token) (p : Option (List Token)) (ts : List Token) : Type 0 where
  first : Token
  rest : List Token
  first-is : o ≡ Some first
  rest-is : p ≡ Some rest
  all : first ∷ rest ≡ ts

split : (o : Option Token) (p : Option (List Token)) (ts : List Token) → in_front o p ≡ Some ts → Split o p ts
split None p ts e = absurd cc
split (Some t) None ts e = absurd cc
split (Some t) (Some us) ts e = record { first = t; rest = us; first-is = refl; rest-is = refl; all = same_Some (t ∷ us) ts e }

both-passed : (o : Option Token) (p : List ℕ) (ps : List LinePiece) (ts : List Token) → in_front o (tokens_from ps) ≡ Some ts → ((t : Token) → o ≡ Some t → test_of t p ≡ true) → ((us : List Token) → tokens_from ps ≡ Some us → Passed us (texts ps)) → Passed ts (p ∷ texts ps)
both-passed o p ps ts e f g =
    let s = split o (tokens_from ps) ts e in
    subst (λ us. Passed us (p ∷ texts ps)) s.all (f s.first s.first-is, g s.rest s.rest-is)

none-left : (ts : List Token) → Some [] ≡ Some ts → Passed ts []
none-left ts e = subst (λ us. Passed us []) (same_Some [] ts e) tt

pub read-passed : (ps : List LinePiece) → Fine ps → (ts : List Token) → tokens_from ps ≡ Some ts → Passed ts (texts ps)
read-passed [] f ts e = none-left ts e
read-passed (word w ∷ ps) f ts e = both-passed (word_token w) w ps ts e (say-word w f.0) (λ us. read-passed ps f.1 us)
read-passed (quoted w ∷ ps) f ts e = both-passed (as_lifetime (word_token w)) (39 ∷ w) ps ts e (say-quoted w f.0 (word_token w) refl) (λ us. read-passed ps f.1 us)
read-passed (queried w ∷ ps) f ts e = both-passed (as_variable (word_token w)) (63 ∷ w) ps ts e (say-queried w f.0 (word_token w) refl) (λ us. read-passed ps f.1 us)
read-passed (pointing ∷ ps) f ts e = both-passed (Some arrow) (45 ∷ 62 ∷ []) ps ts e (λ t g. subst (λ x. test_of x (45 ∷ 62 ∷ []) ≡ true) (same_Some arrow t g) refl) (λ us. read-passed ps f us)
read-passed (byte b ∷ ps) f ts e =
    elim (cases_Bool (eqb b 32)) [
      | inl s ↦
          subst (λ x. Passed ts x) (sym (cond-true (eqb b 32) (texts ps) ((b ∷ []) ∷ texts ps) s))
          (read-passed ps f.1 ts (sym (cond-true (eqb b 32) (tokens_from ps) (in_front (sign_token b) (tokens_from ps)) s) ∙ e))
      | inr s ↦
          subst (λ x. Passed ts x) (sym (cond-false (eqb b 32) (texts ps) ((b ∷ []) ∷ texts ps) s))
          (both-passed (sign_token b) (b ∷ []) ps ts (sym (cond-false (eqb b 32) (tokens_from ps) (in_front (sign_token b) (tokens_from ps)) s) ∙ e) (say-byte b) (λ us. read-passed ps f.1 us))
    ]
