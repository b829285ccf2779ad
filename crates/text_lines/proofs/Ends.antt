-- What is left behind a token, and behind the last one.
use Rattle.std.proofs.Common.{◌≡◌, ℕ, ◌+◌, ◌-◌, zero, suc, List, [], ◌∷◌, length, map, min, drop, take, leb, refl, sym, ap, ◌∙◌}
use Rattle.std.proofs.lemmas.List.{drop-drop, drop-map, drop_min, length-map, take-map}
use Rattle.std.proofs.Math.Dec.{leb-zero, leb-suc-zero, leb-suc-suc}
use Rattle.text_lines.specs.declared.token.Token.{Token}
use Rattle.text_lines.specs.TokenViews.{token_of, tokens_in}
use Rattle.text_lines.specs.Marks.{is_nil, taken}

pub is_nil-drop : (ts : List Token) (n : ℕ) → leb (length ts) n ≡ is_nil (tokens_in (drop n ts))
is_nil-drop [] zero = refl
is_nil-drop [] (suc n) = leb-zero (suc n)
is_nil-drop (t ∷ ts) zero = leb-suc-zero (length ts)
is_nil-drop (t ∷ ts) (suc n) = leb-suc-suc (length ts) n ∙ is_nil-drop ts n

pub after-next : (ts : List Token) (n : ℕ) → tokens_in (drop (n + 1) ts) ≡ drop 1 (tokens_in (drop n ts))
after-next ts n = sym (drop-map token_of 1 (drop n ts) ∙ ap (map token_of) (drop-drop 1 n ts))

pub unread_is : (ts : List Token) (n : ℕ) → tokens_in (drop (min n (length ts)) ts) ≡ tokens_in (drop n ts)
unread_is ts n = ap tokens_in (drop_min n ts)

pub before_is : (xs ys : List Token) → tokens_in (take (length xs - length ys) xs) ≡ taken (tokens_in xs) (tokens_in ys)
before_is xs ys =
    sym (take-map token_of (length xs - length ys) xs) ∙ ap (λ n. take (n - length ys) (tokens_in xs)) (sym (length-map xs token_of))
    ∙ ap (λ n. take (length (tokens_in xs) - n) (tokens_in xs)) (sym (length-map ys token_of))
