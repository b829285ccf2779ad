-- What is found of a line decides the tests over what it uses.
use Rattle.std.proofs.Common.{◌≡◌, ℕ, List, [], ◌∷◌, ◌++◌, map, refl, sym, ap, ◌∙◌, append-nil}
use Rattle.std.specs.Prelude.{nat_lt, ◌||◌}
use Rattle.std.specs.List.{flat_map}
use Rattle.text_language.specs.Promised.Syntax.{Line, crate_line, struct_line, trait_line, impl_line, prove_line, refute_line, later_line, supers_line}
use Rattle.text_language.specs.Promised.Declarations.{Declarations}
use Rattle.text_language.specs.Promised.Faults.{with_own}
use Rattle.text_language.specs.Faults.{variables_in, depth_limit}
use Rattle.text_language.specs.Uses.{crate_use, uses, asked_uses, other_uses, line_depth}
use Rattle.text_lines.specs.LineParts.{clause_parts, part_uses, line_parts, asked_parts, named_crates}
use Rattle.text_lines.specs.Statement.{line_statement}
use Rattle.text_lines.proofs.PartsOfLines.{uses-of-parts, asked-of-parts, depth-of-parts}
use Rattle.text_names.specs.Machine.{Sight, seen_items, findings, either}
use Rattle.text_names.specs.Views.{variable_in}
use Rattle.text_names.proofs.Uses.{findings-append}
use Rattle.text_names.specs.Found.{uses_of, depth_of}
use Rattle.text_names.specs.Speaks.{Speaks}
use Rattle.text_names.specs.LineFound.{other_parts, IsLineFound}
use Rattle.text_names.specs.declared.line.LineFound.{LineFound}
use Rattle.text_names.proofs.Bare.{sight, same-items, same-findings}
use Rattle.text_names.proofs.Finding.{uses-together, depth-together}
use Rattle.text_lines.proofs.Basics.{clauses-use}
use Rattle.type_terms.proofs.NumberBasics.{lt-max}

parts-together : (l : Line) → asked_parts l ++ other_parts l ≡ line_parts l
parts-together (crate_line n us) = refl
parts-together (struct_line f n ps fs) = refl
parts-together (trait_line f a n ps bs) = refl
parts-together (impl_line ps h ks) = refl
parts-together (prove_line c ps k bs ks) = refl
parts-together (refute_line c ps k bs) = append-nil (flat_map clause_parts (k ∷ bs))
parts-together (later_line n) = refl
parts-together (supers_line n) = refl

-- ---- findings
pub line-findings : (v : Sight) (l : Line) (found : LineFound) → Speaks v.line (line_statement l) → IsLineFound v l found
    → either found.crates (either found.asked.faults found.others.faults) ≡ findings (sight v.before l) (uses (with_own v.before l) l)
line-findings v l found sp is =
    let cs = map crate_use (named_crates l) in
    let ps = uses_of v (asked_parts l) in
    let qs = uses_of v (other_parts l) in
    ap (λ z. either z (either found.asked.faults found.others.faults)) is.crates ∙ ap (λ z. either (findings v cs) (either z found.others.faults)) is.asked.faults
    ∙ ap (λ z. either (findings v cs) (either (findings v ps) z)) is.others.faults
    ∙ ap (either (findings v cs)) (sym (findings-append v ps qs)) ∙ sym (findings-append v cs (ps ++ qs))
    ∙ ap (λ z. findings v (cs ++ z)) (sym (uses-together v (asked_parts l) (other_parts l)) ∙ ap (uses_of v) (parts-together l))
    ∙ ap (findings v) (sym (uses-of-parts (seen_items v) l)) ∙ same-findings v l (uses (seen_items v) l) sp ∙ ap (λ z. findings (sight v.before l) (uses z l)) (same-items v l sp)

-- ---- variables
asked-before : (d : Declarations) (l : Line) → asked_uses (with_own d l) l ≡ asked_uses d l
asked-before d (crate_line n us) = refl
asked-before d (struct_line f n ps fs) = refl
asked-before d (trait_line f a n ps bs) = refl
asked-before d (impl_line ps h ks) = refl
asked-before d (prove_line c ps k bs ks) = refl
asked-before d (refute_line c ps k bs) = refl
asked-before d (later_line n) = refl
asked-before d (supers_line n) = refl

pub asked-variables : (v : Sight) (l : Line) (found : LineFound) → Speaks v.line (line_statement l) → IsLineFound v l found → map variable_in found.asked.variables.items ≡ variables_in (asked_uses v.before l)
asked-variables v l found sp is =
    is.asked.variables ∙ ap variables_in (sym (asked-of-parts (seen_items v) l) ∙ ap (λ z. asked_uses z l) (same-items v l sp) ∙ asked-before v.before l)

no-variables : (ns : List (List ℕ)) → variables_in (map crate_use ns) ≡ []
no-variables [] = refl
no-variables (n ∷ ns) = no-variables ns

others-use : (e : Declarations) (l : Line) → variables_in (flat_map (part_uses e) (other_parts l)) ≡ variables_in (other_uses e l)
others-use e (crate_line n us) = sym (no-variables us)
others-use e (struct_line f n ps fs) = ap variables_in (sym (uses-of-parts e (struct_line f n ps fs)))
others-use e (trait_line f a n ps bs) = ap variables_in (sym (uses-of-parts e (trait_line f a n ps bs)))
others-use e (impl_line ps h ks) = ap variables_in (sym (uses-of-parts e (impl_line ps h ks)))
others-use e (prove_line c ps k bs ks) = ap variables_in (sym (clauses-use e ks))
others-use e (refute_line c ps k bs) = refl
others-use e (later_line n) = refl
others-use e (supers_line n) = refl

pub other-variables : (v : Sight) (l : Line) (found : LineFound) → Speaks v.line (line_statement l) → IsLineFound v l found → map variable_in found.others.variables.items ≡ variables_in (other_uses (with_own v.before l) l)
other-variables v l found sp is = is.others.variables ∙ others-use (seen_items v) l ∙ ap (λ z. variables_in (other_uses z l)) (same-items v l sp)

-- ---- depth
pub line-deep : (v : Sight) (l : Line) (found : LineFound) → Speaks v.line (line_statement l) → IsLineFound v l found → found.asked.is_deep || found.others.is_deep ≡ nat_lt depth_limit (line_depth (with_own v.before l) l)
line-deep v l found sp is =
    ap (λ z. z || found.others.is_deep) is.asked.is_deep ∙ ap (λ z. nat_lt depth_limit (depth_of v (asked_parts l)) || z) is.others.is_deep
    ∙ sym (lt-max depth_limit (depth_of v (asked_parts l)) (depth_of v (other_parts l)))
    ∙ ap (nat_lt depth_limit) (sym (depth-together v (asked_parts l) (other_parts l)) ∙ ap (depth_of v) (parts-together l) ∙ sym (depth-of-parts (seen_items v) l) ∙ ap (λ z. line_depth z l) (same-items v l sp))
