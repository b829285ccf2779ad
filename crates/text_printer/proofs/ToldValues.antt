-- The values of a question's variables are told by their text.
use Rattle.std.proofs.Common.{◌≡◌, ℕ, suc, List, [], ◌∷◌, ◌++◌, All, codes, map, refl, sym, ap, ◌∙◌, subst, append_assoc, append-nil, arith}
use Rattle.text_language.specs.Output.{ValueText, value_text, values_text, between}
use Rattle.text_printer.specs.Told.{IsName, IsTermText, IsPrintableValue}
use Rattle.text_printer.proofs.Cuts.{Lacks, cut-first, cut-last, no-midst}
use Rattle.text_printer.proofs.Lacking.{name-lacks, term-lacks, both-lack}

-- values behind others
abbrev pub further : List ValueText → List ℕ
further [] = []
further (v ∷ vs) = 44 ∷ 32 ∷ 63 ∷ (v.variable ++ 32 ∷ 61 ∷ 32 ∷ (v.term ++ further vs))

pub values-further : (v : ValueText) (vs : List ValueText) → between (codes ", ") (map value_text (v ∷ vs)) ≡ 63 ∷ (v.variable ++ 32 ∷ 61 ∷ 32 ∷ (v.term ++ further vs))
values-further v [] = simp (append_assoc, append-nil)
values-further v (w ∷ vs) =
    let more = values-further w vs in
    let step : between (codes ", ") (map value_text (v ∷ w ∷ vs)) ≡ 63 ∷ (v.variable ++ 32 ∷ 61 ∷ 32 ∷ (v.term ++ 44 ∷ 32 ∷ between (codes ", ") (map value_text (w ∷ vs)))) = simp append_assoc in
    step ∙ ap (λ (t : List ℕ). 63 ∷ (v.variable ++ 32 ∷ 61 ∷ 32 ∷ (v.term ++ 44 ∷ 32 ∷ t))) more

-- of the first value, and of those behind it
pub first-is : (v : ValueText) (vs : List ValueText) → All IsPrintableValue (v ∷ vs) → IsPrintableValue v
first-is v vs h = h 0 v (omega arith)

pub rest-are : (v : ValueText) (vs : List ValueText) → All IsPrintableValue (v ∷ vs) → All IsPrintableValue vs
rest-are v vs h = λ k d l. h (suc k) d (omega arith)

-- the text up to the `=` of the next value, whose variable has this name
abbrev up-to-sign : List ℕ → List ℕ → List ℕ
up-to-sign t x = (t ++ 44 ∷ 32 ∷ []) ++ 63 ∷ (x ++ 32 ∷ [])

open-further : (t : List ℕ) (v : ValueText) (vs : List ValueText) → t ++ further (v ∷ vs) ≡ up-to-sign t v.variable ++ 61 ∷ 32 ∷ (v.term ++ further vs)
open-further t v vs = sym (simp append_assoc)

open-lacks : (t x : List ℕ) → IsTermText t → IsName x → Lacks 61 (up-to-sign t x)
open-lacks t x h k =
    both-lack 61 (t ++ 44 ∷ 32 ∷ []) (63 ∷ (x ++ 32 ∷ [])) (both-lack 61 t (44 ∷ 32 ∷ []) (term-lacks 61 refl t h) refl)
    (both-lack 61 x (32 ∷ []) (name-lacks 61 refl x k) refl)

name-ends : (x : List ℕ) → IsName x → Lacks 63 (x ++ 32 ∷ [])
name-ends x k = both-lack 63 x (32 ∷ []) (name-lacks 63 refl x k) refl

-- a text without `=` is no text with one
no-sign : (t u x y : List ℕ) → IsTermText t → t ≡ u ++ 61 ∷ y → ⊥
no-sign t u x y h e = no-midst 61 u y (subst (Lacks 61) e (term-lacks 61 refl t h))

pub further-tells : (t u : List ℕ) (vs ws : List ValueText) → IsTermText t → IsTermText u → All IsPrintableValue vs → All IsPrintableValue ws
    → t ++ further vs ≡ u ++ further ws → (t ≡ u) × (vs ≡ ws)
further-tells t u [] [] ht hu hv hw e = (sym (append-nil t) ∙ e ∙ append-nil u, refl)
further-tells t u [] (w ∷ ws) ht hu hv hw e =
    absurd (no-sign t (up-to-sign u w.variable) [] (32 ∷ (w.term ++ further ws)) ht (sym (append-nil t) ∙ e ∙ open-further u w ws))
further-tells t u (v ∷ vs) [] ht hu hv hw e =
    absurd (no-sign u (up-to-sign t v.variable) [] (32 ∷ (v.term ++ further vs)) hu (sym (append-nil u) ∙ sym e ∙ open-further t v vs))
further-tells t u (v ∷ vs) (w ∷ ws) ht hu hv hw e =
    let cut = cut-first 61 (up-to-sign t v.variable) (up-to-sign u w.variable) (32 ∷ (v.term ++ further vs)) (32 ∷ (w.term ++ further ws))
    (open-lacks t v.variable ht (first-is v vs hv).0) (open-lacks u w.variable hu (first-is w ws hw).0) (sym (open-further t v vs) ∙ e ∙ open-further u w ws) in
    let left = cut-last 63 (t ++ 44 ∷ 32 ∷ []) (u ++ 44 ∷ 32 ∷ []) (v.variable ++ 32 ∷ []) (w.variable ++ 32 ∷ []) (name-ends v.variable (first-is v vs hv).0) (name-ends w.variable (first-is w ws hw).0) cut.0 in
    let terms = cut-last 44 t u (32 ∷ []) (32 ∷ []) refl refl left.0 in
    let names = cut-last 32 v.variable w.variable [] [] refl refl left.1 in
    let rest : v.term ++ further vs ≡ w.term ++ further ws = let c = cut.1 in cc in
    let more = further-tells v.term w.term vs ws (first-is v vs hv).1 (first-is w ws hw).1 (rest-are v vs hv) (rest-are w ws hw) rest in
    (terms.0, one-more v w vs ws names.0 more.0 more.1)
  where
    one-more : (v w : ValueText) (vs ws : List ValueText) → v.variable ≡ w.variable → v.term ≡ w.term → vs ≡ ws → v ∷ vs ≡ w ∷ ws
    one-more v w vs ws p q r =
        let same : v ≡ w = ap (λ (x : List ℕ). record { variable = x; term = v.term }) p ∙ ap (λ (x : List ℕ). record { variable = w.variable; term = x }) q in
        ap (λ (x : ValueText). x ∷ vs) same ∙ ap (λ (xs : List ValueText). w ∷ xs) r

-- values are told by their text
pub values-tell : (vs ws : List ValueText) → All IsPrintableValue vs → All IsPrintableValue ws → values_text vs ≡ values_text ws → vs ≡ ws
values-tell [] [] hv hw e = refl
values-tell [] (w ∷ ws) hv hw e = cc
values-tell (v ∷ vs) [] hv hw e = cc
values-tell (v ∷ vs) (w ∷ ws) hv hw e =
    (further-tells [] [] (v ∷ vs) (w ∷ ws) refl refl hv hw (behind-comma v w vs ws e)).1
  where
    behind-comma : (v w : ValueText) (vs ws : List ValueText) → values_text (v ∷ vs) ≡ values_text (w ∷ ws) → further (v ∷ vs) ≡ further (w ∷ ws)
    behind-comma v w vs ws e =
        let p : 32 ∷ between (codes ", ") (map value_text (v ∷ vs)) ≡ 32 ∷ between (codes ", ") (map value_text (w ∷ ws)) = e in
        let q : between (codes ", ") (map value_text (v ∷ vs)) ≡ between (codes ", ") (map value_text (w ∷ ws)) = cc in
        ap (λ (x : List ℕ). 44 ∷ 32 ∷ x) (sym (values-further v vs) ∙ q ∙ values-further w ws)
