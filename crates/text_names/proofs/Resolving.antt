-- What the machine ends with is what was looked for.
use Rattle.std.proofs.Common.{◌≡◌, ℕ, true, List, [], ◌∷◌, length, reverse, Some, sym, ap, ◌∙◌, subst}
use Rattle.std.proofs.lemmas.List.{append-nil}
use Rattle.type_terms.specs.Promised.Label.{of_type}
use Rattle.text_language.specs.Promised.Syntax.{TypeTree, named, Bound, type_arg}
use Rattle.text_language.specs.Promised.Declarations.{known}
use Rattle.text_language.specs.Faults.{variables_in}
use Rattle.text_language.specs.Uses.{type_uses, trait_use, args_uses, args_count, kinds_of_trait}
use Rattle.text_lines.specs.Cells.{Cell, type_onto, named_cell}
use Rattle.text_lines.specs.Back.{type_back, args_back}
use Rattle.text_names.specs.Laws.{with_arg, with_arguments_found, bound_args}
use Rattle.text_names.specs.Machine.{Sight, seen_items, findings, either, noting, Found, WalkFrame, visiting, going, finished, type_place, WalkReaches}
use Rattle.text_names.specs.Resolving.{nothing_found, type_found, bound_found}
use Rattle.text_names.proofs.Going.{machine_resolves, args_resolved}
use Rattle.text_names.proofs.Turned.{type-turned}
use Rattle.text_names.proofs.Uses.{findings-append, either-nothing}
use Rattle.text_names.proofs.Weights.{one-end}

-- before nothing
with-type : (v : Sight) (t : TypeTree) → with_arg v [] (type_place (Some 64) true) (type_arg t) nothing_found ≡ type_found v t
with-type v t =
    ap (λ f. record (with_arg v [] (type_place (Some 64) true) (type_arg t) nothing_found) { faults = f }) (either-nothing (findings v (type_uses (seen_items v) [] of_type t)))
    ∙ ap (λ vs. record (type_found v t) { variables = vs }) (append-nil (variables_in (type_uses (seen_items v) [] of_type t)))

with-bound : (v : Sight) (b : Bound) → noting (findings v (trait_use b.trait (args_count b.args) ∷ [])) (with_arguments_found v [] (kinds_of_trait (known (seen_items v) b.trait)) (Some 64) true b.args nothing_found) ≡ bound_found v b
with-bound v b =
    let ks = kinds_of_trait (known (seen_items v) b.trait) in
    let us = args_uses (seen_items v) [] ks b.args in
    let u = trait_use b.trait (args_count b.args) ∷ [] in
    let w = with_arguments_found v [] ks (Some 64) true b.args nothing_found in
    ap (λ f. record w { faults = either (findings v u) f }) (either-nothing (findings v us))
    ∙ ap (λ f. record w { faults = f }) (sym (findings-append v u us))
    ∙ ap (λ vs. record (bound_found v b) { variables = vs }) (append-nil (variables_in us))

-- the end of a type
pub type-resolved : (v : Sight) (t : TypeTree) (o cells : List Cell) (fs : List WalkFrame) (s : List (List (List ℕ))) (r q : List Cell) (a x : Found) → cells ≡ type_onto t o → fs ≡ [] → s ≡ [] → r ≡ reverse cells → a ≡ nothing_found
    → WalkReaches v (visiting (type_place (Some 64) true) fs s r a) (finished q x) → x ≡ type_found v t
type-resolved v t o cells fs s r q a x h ef es er ea k =
    let pl = type_place (Some 64) true in
    let e : r ≡ type_back t (reverse o) = er ∙ ap reverse h ∙ type-turned t o in
    let same : visiting pl fs s r a ≡ visiting pl [] [] (type_back t (reverse o)) nothing_found =
    ap (λ z. visiting pl z s r a) ef ∙ ap (λ z. visiting pl [] z r a) es ∙ ap (λ z. visiting pl [] [] z a) e ∙ ap (visiting pl [] [] (type_back t (reverse o))) ea in
    let m = machine_resolves v pl (type_arg t) (reverse o) nothing_found in
    let n = subst (λ z. WalkReaches v z (finished q x)) same k in
    one-end v n.0 m.0 (visiting pl [] [] (type_back t (reverse o)) nothing_found) q (reverse o) x (with_arg v [] pl (type_arg t) nothing_found) n.1 m.1 ∙ with-type v t

-- what stands before a bound's arguments
pub bound-begins : (b : Bound) (o cells tail : List Cell) (n : List ℕ) (start : ℕ) → cells ≡ type_onto (named b.trait b.args) o → reverse cells ≡ named_cell n start ∷ tail
    → (n ≡ b.trait) × (start ≡ length (reverse o)) × (tail ≡ args_back b.args (reverse o))
bound-begins b o cells tail n start h e =
    let f : named_cell n start ∷ tail ≡ named_cell b.trait (length (reverse o)) ∷ args_back b.args (reverse o) = sym e ∙ ap reverse h ∙ type-turned (named b.trait b.args) o in
    (cc, cc, cc)

pub bound-resolved : (v : Sight) (b : Bound) (back : List Cell) (fs : List WalkFrame) (s : List (List (List ℕ))) (r q : List Cell) (a x : Found)
    → fs ≡ bound_args back (kinds_of_trait (known (seen_items v) b.trait)) (Some 64) true (args_count b.args) ∷ [] → s ≡ [] → r ≡ args_back b.args back → a ≡ nothing_found
    → WalkReaches v (going fs s r a) (finished q x) → noting (findings v (trait_use b.trait (args_count b.args) ∷ [])) x ≡ bound_found v b
bound-resolved v b back fs s r q a x ef es er ea k =
    let ks = kinds_of_trait (known (seen_items v) b.trait) in
    let u = trait_use b.trait (args_count b.args) ∷ [] in
    let gs = bound_args back ks (Some 64) true (args_count b.args) ∷ [] in
    let same : going fs s r a ≡ going gs [] (args_back b.args back) nothing_found =
    ap (λ z. going z s r a) ef ∙ ap (λ z. going gs z r a) es ∙ ap (λ z. going gs [] z a) er ∙ ap (going gs [] (args_back b.args back)) ea in
    let m = args_resolved v ks (Some 64) true b.args back nothing_found in
    let n = subst (λ z. WalkReaches v z (finished q x)) same k in
    ap (noting (findings v u)) (one-end v n.0 m.0 (going gs [] (args_back b.args back) nothing_found) q back x (with_arguments_found v [] ks (Some 64) true b.args nothing_found) n.1 m.1) ∙ with-bound v b
