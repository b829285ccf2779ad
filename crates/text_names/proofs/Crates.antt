-- What is wrong with the crates that a line names.
use Rattle.std.proofs.Common.{◌≡◌, ℕ, suc, ◌+◌, ◌<◌, List, [], ◌∷◌, ◌++◌, length, take, get_or, map, refl, sym, ap, ◌∙◌, arith, take-suc}
use Rattle.std.specs.Borrow.{Bor}
use Rattle.std.proofs.lemmas.List.{map-append}
use Rattle.text_lines.specs.TokenViews.{text_of}
use Rattle.text_language.specs.Promised.Syntax.{Line, crate_line, struct_line, trait_line, impl_line, prove_line, refute_line, later_line, supers_line}
use Rattle.text_language.specs.Uses.{crate_use}
use Rattle.text_lines.specs.LineParts.{named_crates}
use Rattle.text_lines.specs.Statement.{line_statement}
use Rattle.text_names.specs.Machine.{Sight, findings, either}
use Rattle.text_names.specs.declared.findings.Findings.{Findings}
use Rattle.text_names.proofs.Uses.{findings-append}
use Rattle.text_names.specs.Speaks.{crates_mentioned}

pub crates-step : (v : Sight) (ns : List (Bor (List ℕ))) (i : ℕ) (d : Bor (List ℕ)) (f x : Findings) → i < length ns → f ≡ findings v (map crate_use (map text_of (take i ns))) → x ≡ findings v (crate_use (text_of (get_or ns i d)) ∷ [])
    → either f x ≡ findings v (map crate_use (map text_of (take (i + 1) ns)))
crates-step v ns i d f x h e k =
    let n = get_or ns i d in
    let s : i + 1 ≡ suc i = omega arith in
    let whole : take (i + 1) ns ≡ take i ns ++ n ∷ [] = ap (λ j. take j ns) s ∙ take-suc ns i d h in
    ap (λ z. either z x) e ∙ ap (either (findings v (map crate_use (map text_of (take i ns))))) k
    ∙ sym (findings-append v (map crate_use (map text_of (take i ns))) (crate_use (text_of n) ∷ []))
    ∙ ap (findings v) (sym (ap (map crate_use) (ap (map text_of) whole ∙ map-append text_of (take i ns) (n ∷ [])) ∙ map-append crate_use (map text_of (take i ns)) (text_of n ∷ [])))

pub crates-are-named : (l : Line) → crates_mentioned (line_statement l) ≡ named_crates l
crates-are-named (crate_line n us) = refl
crates-are-named (struct_line f n ps fs) = refl
crates-are-named (trait_line f a n ps bs) = refl
crates-are-named (impl_line ps h ks) = refl
crates-are-named (prove_line c ps k bs ks) = refl
crates-are-named (refute_line c ps k bs) = refl
crates-are-named (later_line n) = refl
crates-are-named (supers_line n) = refl
