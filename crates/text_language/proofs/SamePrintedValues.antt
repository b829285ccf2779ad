-- The variables whose value is not their own inference variable, and the texts of the values, one after the other.
use Rattle.std.proofs.Common.{◌≡◌, ℕ, suc, Bool, true, false, not, cond, List, [], ◌∷◌, ◌++◌, map, filter, zip, flat_map, drop, codes, if◌then◌else◌, refl, ap, ap₂, ◌∙◌}
use Rattle.std.specs.List.{AllByRecursion}
use Rattle.type_terms.specs.Promised.Label.{Label, Sort, of_type, of_const, of_lifetime, infer}
use Rattle.type_terms.specs.Promised.Trees.{Trees, leaf}
use Rattle.type_terms.specs.Codes.{same}
use Rattle.text_language.specs.Promised.Declarations.{Variable}
use Rattle.text_language.specs.Output.{Names, ValueText, value_text, values_text, type_text}
use Rattle.text_language.specs.Names.{own_from, valued}
use Rattle.text_language.proofs.SamePrintedTypes.{joined}
use Rattle.text_language.proofs.SamePrintedNames.{labels_from}

-- a value without the unknown that stands for its variable
abbrev pub own_value : (Variable × Label) × Trees → Variable × Trees
own_value v = (v.0.0, v.1)

pub own-same : (vs : List Variable) (n m : ℕ) → own_from n m vs ≡ map leaf (labels_from n m (map (λ v. v.kind) vs))
own-same [] n m = refl
own-same (v ∷ vs) n m = by v.kind refl (λ a b. own-same vs a b)
  where
    by : (k : Sort) → v.kind ≡ k → ((a b : ℕ) → own_from a b vs ≡ map leaf (labels_from a b (map (λ v. v.kind) vs))) → own_from n m (v ∷ vs) ≡ map leaf (labels_from n m (v.kind ∷ map (λ v. v.kind) vs))
    by of_type e h = rw e (ap (λ us. leaf (infer of_type n) ∷ us) (h (suc n) m))
    by of_const e h = rw e (ap (λ us. leaf (infer of_const m) ∷ us) (h n (suc m)))
    by of_lifetime e h = rw e (ap (λ us. leaf (infer of_lifetime 0) ∷ us) (h n m))

pub valued-same : (vs : List Variable) (ls : List Label) (ts : List Trees) → valued vs (map leaf ls) ts ≡ map own_value (filter (λ v. not (same (leaf v.0.1) v.1)) (zip (zip vs ls) ts))
valued-same [] ls ts = refl
valued-same (v ∷ vs) [] ts = refl
valued-same (v ∷ vs) (l ∷ ls) [] = refl
valued-same (v ∷ vs) (l ∷ ls) (t ∷ ts) = by (same (leaf l) t) (valued-same vs ls ts)
  where
    by : (b : Bool) → valued vs (map leaf ls) ts ≡ map own_value (filter (λ v. not (same (leaf v.0.1) v.1)) (zip (zip vs ls) ts))
        → (if b then valued vs (map leaf ls) ts else (v, t) ∷ valued vs (map leaf ls) ts)
        ≡ map own_value (cond (not b) (((v, l), t) ∷ filter (λ v. not (same (leaf v.0.1) v.1)) (zip (zip vs ls) ts)) (filter (λ v. not (same (leaf v.0.1) v.1)) (zip (zip vs ls) ts)))
    by true h = h
    by false h = ap (λ (xs : List (Variable × Trees)). (v, t) ∷ xs) h

-- ---- texts
module _ (N : Names) (text : Trees → List ℕ) where
  abbrev pub value_of : Variable × Trees → ValueText
  value_of v = record { variable = v.0.text; term = type_text N v.1 }

  abbrev comma_value : (Variable × Label) × Trees → List ℕ
  comma_value v = codes ", ?" ++ v.0.0.text ++ codes " = " ++ text v.1

  -- each value has the same text
  abbrev pub HaveTexts : List ((Variable × Label) × Trees) → Type 0
  HaveTexts vs = AllByRecursion (λ v. text v.1 ≡ type_text N v.1) vs

  commas-same : (vs : List ((Variable × Label) × Trees)) → HaveTexts vs → flat_map comma_value vs ≡ flat_map (λ t. codes ", " ++ t) (map value_text (map value_of (map own_value vs)))
  commas-same [] h = refl
  commas-same (v ∷ vs) h = ap₂ (λ x y. codes ", ?" ++ v.0.0.text ++ codes " = " ++ x ++ y) h.0 (commas-same vs h.1)

  pub values-same : (vs : List ((Variable × Label) × Trees)) → HaveTexts vs → drop 1 (flat_map comma_value vs) ≡ values_text (map value_of (map own_value vs))
  values-same [] h = refl
  values-same (v ∷ vs) h =
      ap₂ (λ x y. codes " ?" ++ v.0.0.text ++ codes " = " ++ x ++ y) h.0 (commas-same vs h.1)
      ∙ ap (λ x. codes " " ++ x) (joined (codes ", ") (value_text (value_of (own_value v))) (map value_text (map value_of (map own_value vs))))
