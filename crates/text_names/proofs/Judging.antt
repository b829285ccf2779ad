-- Each test of a line, by what was found and what the line says.
use Rattle.std.proofs.Common.{◌≡◌, ℕ, Bool, false, List, length, map, ap, ◌∙◌}
use Rattle.std.specs.Prelude.{◌||◌, ◌&&◌, not, if◌then◌else◌, is_some, nat_le}
use Rattle.std.specs.List.{list_any}
use Rattle.std.specs.Option.{option_map_or}
use Rattle.type_terms.specs.Promised.Label.{Sort}
use Rattle.text_language.specs.Promised.Syntax.{Line}
use Rattle.text_language.specs.Promised.Declarations.{Declarations, known}
use Rattle.text_language.specs.Uses.{uses, params_of, declared_name, other_uses}
use Rattle.text_language.specs.Faults as faults
use Rattle.text_language.specs.Faults.{belongs_to_crate, is_any, is_of_other_kind, is_taken_param, variables_in, tests}
use Rattle.text_language.specs.Promised.Faults.{with_own}
use Rattle.text_lines.specs.Says.{name_said, params_said, is_said_impl}
use Rattle.text_lines.specs.Statement.{Statement, param_list, line_statement}
use Rattle.text_lines.proofs.WhatIsSaid.{name-is-said, params-are-said, tests-agree}
use Rattle.text_names.specs.Machine.{Sight, seen_items, findings}
use Rattle.text_names.specs.Views.{variable_in}
use Rattle.text_names.specs.declared.findings.Findings.{Findings}
use Rattle.text_names.specs.FaultNumbers.{numbered}
use Rattle.text_names.specs.Params.{others_said, names_taken, are_taken}
use Rattle.text_names.specs.Limits.{is_misplaced_for}
use Rattle.text_names.specs.Speaks.{Speaks, is_trait_said}
use Rattle.text_names.specs.LineFound.{IsLineFound}
use Rattle.text_names.specs.declared.fault.Tests.{Tests}
use Rattle.text_names.specs.declared.line.LineFound.{LineFound}
use Rattle.text_names.proofs.Bare.{sight, same-items, lifetimes-of, others-of}
use Rattle.text_names.proofs.LineTests.{asked-variables, other-variables}
use Rattle.text_names.proofs.OwnNames.{own-bound}
use Rattle.type_terms.proofs.BooleanBasics.{or-assoc as or-front}

abbrev pub line_faults : Declarations → Line → Findings
line_faults d l = findings (sight d l) (uses (with_own d l) l)

pub misplaced-is : (d : Declarations) (l : Line) (s : Statement) (a : Bool) → s ≡ line_statement l → a ≡ is_misplaced_for d s → a ≡ faults.is_misplaced d l
misplaced-is d l s a es ea =
    let agree = tests-agree l in
    let place : Bool → Bool = λ m. if d.in_section then not m else nat_le (length d.crates) 1 in
    ea ∙ ap (is_misplaced_for d) es ∙ ap (λ b. b && place (is_said_impl (line_statement l))) agree.0 ∙ ap (λ m. belongs_to_crate l && place m) agree.1

taken-params : (d : Declarations) (l : Line) → are_taken (with_own d l) (params_said (line_statement l)) ≡ is_taken_param d l
taken-params d l =
    let p = params_of l in
    let e = with_own d l in
    ap (are_taken e) (params-are-said l) ∙ ap (λ ls. names_taken e ls (others_said (param_list p))) (lifetimes-of p) ∙ ap (names_taken e p.lifetimes) (others-of p)

pub taken-is : (v : Sight) (l : Line) (s : Statement) (a : Bool) (f : Findings) → Speaks v.line (line_statement l) → s ≡ line_statement l
    → a ≡ option_map_or (λ n. is_some (known v.before n)) (name_said s) false || are_taken (seen_items v) (params_said s) → f ≡ line_faults v.before l → a || f.takes_names ≡ faults.takes_names v.before l
taken-is v l s a f sp es ea ef =
    let d = v.before in
    let t = line_statement l in
    let known_before = λ (o : _). option_map_or (λ n. is_some (known d n)) o false in
    let own : a ≡ faults.declares_taken d l || is_taken_param d l =
    ea ∙ ap (λ z. known_before (name_said z) || are_taken (seen_items v) (params_said z)) es ∙ ap (λ z. known_before z || are_taken (seen_items v) (params_said t)) (name-is-said l)
    ∙ ap (λ z. known_before (declared_name l) || are_taken z (params_said t)) (same-items v l sp) ∙ ap (λ z. known_before (declared_name l) || z) (taken-params d l) in
    ap (λ z. z || f.takes_names) own ∙ ap (λ z. (faults.declares_taken d l || is_taken_param d l) || z.takes_names) ef ∙ or-front (faults.declares_taken d l) (is_taken_param d l) (line_faults d l).takes_names

pub own-is : (d : Declarations) (l : Line) (s : Statement) (a : Bool) (f : Findings) → s ≡ line_statement l → a ≡ is_trait_said s → f ≡ line_faults d l → a && f.uses_own ≡ faults.bounds_use_own d l
own-is d l s a f es ea ef = ap (λ z. z && f.uses_own) (ea ∙ ap is_trait_said es) ∙ ap (λ z. is_trait_said (line_statement l) && z.uses_own) ef ∙ own-bound d l

abbrev two_kinds : List (List ℕ × Sort) → Bool
two_kinds vs = list_any (λ v. list_any (is_of_other_kind v) vs) vs

pub stray-is : (v : Sight) (l : Line) (found : LineFound) (a : Bool) → Speaks v.line (line_statement l) → IsLineFound v l found
    → a ≡ is_any (map variable_in found.others.variables.items) || list_any (λ w. list_any (is_of_other_kind w) (map variable_in found.asked.variables.items)) (map variable_in found.asked.variables.items) → a ≡ faults.has_stray_variable v.before l
stray-is v l found a sp is ea =
    ea ∙ ap (λ z. is_any z || two_kinds (map variable_in found.asked.variables.items)) (other-variables v l found sp is)
    ∙ ap (λ z. is_any (variables_in (other_uses (with_own v.before l) l)) || two_kinds z) (asked-variables v l found sp is)

pub tests-are : (d : Declarations) (l : Line) (t : Tests) → t.is_misplaced ≡ faults.is_misplaced d l → t.takes_names ≡ faults.takes_names d l → t.uses_unknown ≡ faults.uses_unknown d l → t.uses_hidden ≡ faults.uses_hidden d l
    → t.uses_other_sort ≡ faults.uses_other_sort d l → t.has_free_param ≡ faults.has_free_param d l → t.bounds_use_own ≡ faults.bounds_use_own d l → t.is_loaded_auto ≡ faults.is_loaded_auto l
    → t.is_foreign_auto ≡ faults.is_foreign_auto d l → t.implements_built_in ≡ faults.implements_built_in d l → t.has_stray_variable ≡ faults.has_stray_variable d l → t.refutes_params ≡ faults.refutes_params l
    → t.has_bad_dyn ≡ faults.has_bad_dyn d l → t.passes_limit ≡ faults.passes_limit d l → numbered t ≡ tests d l
tests-are d l t a b c e f g h i j k m n o p = cc
