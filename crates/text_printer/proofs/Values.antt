-- Values one after the other.
use Rattle.std.proofs.Common.{◌≡◌, ℕ, List, [], ◌∷◌, ◌++◌, map, refl, sym, ap, ◌∙◌, append_assoc, append-nil, codes}
use Rattle.text_language.specs.Output.{ValueText, value_text, values_text, between}
use Rattle.text_printer.specs.declared.answer.ValueText as printed
use Rattle.text_printer.specs.Answers.{value_of, more_values}

more-snoc : (vs : List ValueText) (v : ValueText) → more_values (vs ++ v ∷ []) ≡ more_values vs ++ (codes ", " ++ value_text v)
more-snoc [] v = ap (λ y. codes ", " ++ y) (append-nil (value_text v))
more-snoc (w ∷ vs) v =
    ap (λ y. codes ", " ++ (value_text w ++ y)) (more-snoc vs v)
    ∙ sym (ap (λ y. codes ", " ++ y) (append_assoc (value_text w) (more_values vs) (codes ", " ++ value_text v)))

of-snoc : (vs : List printed.ValueText) (v : printed.ValueText) → map value_of (vs ++ v ∷ []) ≡ map value_of vs ++ value_of v ∷ []
of-snoc [] v = refl
of-snoc (w ∷ vs) v = ap (λ y. value_of w ∷ y) (of-snoc vs v)

-- one more value is appended
pub one_more : (old text mid new : List ℕ) (vs ws : List printed.ValueText) (v : printed.ValueText) → text ≡ old ++ more_values (map value_of vs) → mid ≡ text ++ codes ", " → new ≡ mid ++ value_text (value_of v) → ws ≡ vs ++ v ∷ [] → new ≡ old ++ more_values (map value_of ws)
one_more old text mid new vs ws v a b c d =
    c ∙ ap (λ y. y ++ value_text (value_of v)) (b ∙ ap (λ y. y ++ codes ", ") a)
    ∙ append_assoc (old ++ more_values (map value_of vs)) (codes ", ") (value_text (value_of v))
    ∙ append_assoc old (more_values (map value_of vs)) (codes ", " ++ value_text (value_of v))
    ∙ ap (λ y. old ++ y) (sym (ap more_values (ap (map value_of) d ∙ of-snoc vs v) ∙ more-snoc (map value_of vs) (value_of v)))

between-more : (v : ValueText) (vs : List ValueText) → between (codes ", ") (map value_text (v ∷ vs)) ≡ value_text v ++ more_values vs
between-more v [] = sym (append-nil (value_text v))
between-more v (w ∷ vs) = ap (λ y. value_text v ++ codes ", " ++ y) (between-more w vs) ∙ append_assoc (value_text v) (codes ", ") (value_text w ++ more_values vs)

-- all values are appended
pub all_values : (old first mid new : List ℕ) (vs ws : List printed.ValueText) (v : printed.ValueText) → first ≡ old ++ codes " " → mid ≡ first ++ value_text (value_of v) → new ≡ mid ++ more_values (map value_of ws) → vs ≡ v ∷ ws → new ≡ old ++ values_text (map value_of vs)
all_values old first mid new vs ws v a b c d =
    c ∙ ap (λ y. y ++ more_values (map value_of ws)) (b ∙ ap (λ y. y ++ value_text (value_of v)) a)
    ∙ append_assoc (old ++ codes " ") (value_text (value_of v)) (more_values (map value_of ws))
    ∙ append_assoc old (codes " ") (value_text (value_of v) ++ more_values (map value_of ws))
    ∙ ap (λ y. old ++ y) (ap (λ y. codes " " ++ y) (sym (between-more (value_of v) (map value_of ws))) ∙ sym (ap (λ y. values_text (map value_of y)) d))
