-- Which limits a line passes.
use Rattle.std.proofs.Common.{◌≡◌, Bool, true, false, List, length, refl, sym, ap, ◌∙◌}
use Rattle.std.specs.Prelude.{nat_lt, ◌||◌}
use Rattle.std.specs.List.{list_any}
use Rattle.std.proofs.lemmas.List.{length-map}
use Rattle.text_language.specs.Promised.Syntax.{Line, crate_line, struct_line, trait_line, impl_line, prove_line, refute_line, later_line, supers_line}
use Rattle.text_language.specs.Promised.Declarations.{Declarations, kinds_of}
use Rattle.text_language.specs.Uses.{params_of, uses, line_depth, asked_uses}
use Rattle.text_language.specs.Faults.{is_full, has_long_name, param_limit, part_limit, depth_limit, variable_limit, once, variables_in, passes_in, passes_limit}
use Rattle.text_language.specs.Promised.Faults.{with_own}
use Rattle.text_lines.specs.Says.{params_said, count_said, has_long}
use Rattle.text_lines.specs.Statement as said
use Rattle.text_lines.specs.Statement.{Statement, line_statement}
use Rattle.text_lines.specs.Views.{param_of, params_in}
use Rattle.text_lines.specs.declared.statement.Param.{Param}
use Rattle.text_lines.proofs.WhatIsSaid.{params-are-counted, parts-are-counted, tests-agree}
use Rattle.text_names.specs.Limits.{is_full_for, is_large_for}

pub params_counted : (ps : List Param) (qs : List said.Param) → params_in ps ≡ qs → nat_lt param_limit (length ps) ≡ nat_lt param_limit (length qs)
params_counted ps qs e = ap (nat_lt param_limit) (sym (length-map ps param_of) ∙ ap length e)

full-for : (d : Declarations) (l : Line) → is_full_for d (line_statement l) ≡ is_full d l
full-for d (crate_line n us) = refl
full-for d (struct_line f n ps fs) = refl
full-for d (trait_line f a n ps bs) = refl
full-for d (impl_line ps h ks) = refl
full-for d (prove_line c ps k bs ks) = refl
full-for d (refute_line c ps k bs) = refl
full-for d (later_line n) = refl
full-for d (supers_line n) = refl

-- the test, in groups
or-grouped : (a b c e x : Bool) → (a || (b || (c || e))) || x ≡ a || (b || (c || (e || x)))
or-grouped true b c e x = refl
or-grouped false true c e x = refl
or-grouped false false true e x = refl
or-grouped false false false e x = refl

pub limits-are : (d : Declarations) (l : Line) (s : Statement) (a b c e : Bool) → s ≡ line_statement l → a ≡ is_large_for d s → b ≡ nat_lt depth_limit (line_depth (with_own d l) l) → c ≡ nat_lt variable_limit (length (once (variables_in (asked_uses d l))))
    → e ≡ list_any passes_in (uses (with_own d l) l) → a || (b || (c || e)) ≡ passes_limit d l
limits-are d l s a b c e es ea eb ec ee =
    let x = nat_lt depth_limit (line_depth (with_own d l) l) || (nat_lt variable_limit (length (once (variables_in (asked_uses d l)))) || list_any passes_in (uses (with_own d l) l)) in
    let t = line_statement l in
    ap (λ z. z || (b || (c || e))) (ea ∙ ap (is_large_for d) es) ∙ ap (λ z. is_large_for d t || (z || (c || e))) eb ∙ ap (λ z. is_large_for d t || (nat_lt depth_limit (line_depth (with_own d l) l) || (z || e))) ec
    ∙ ap (λ z. is_large_for d t || (nat_lt depth_limit (line_depth (with_own d l) l) || (nat_lt variable_limit (length (once (variables_in (asked_uses d l)))) || z))) ee
    ∙ or-grouped (is_full_for d t) (has_long t) (nat_lt param_limit (length (params_said t))) (nat_lt part_limit (count_said t)) x
    ∙ ap (λ z. z || (has_long t || (nat_lt param_limit (length (params_said t)) || (nat_lt part_limit (count_said t) || x)))) (full-for d l)
    ∙ ap (λ z. is_full d l || (z || (nat_lt param_limit (length (params_said t)) || (nat_lt part_limit (count_said t) || x)))) (tests-agree l).4
    ∙ ap (λ z. is_full d l || (has_long_name l || (nat_lt param_limit z || (nat_lt part_limit (count_said t) || x)))) (params-are-counted l)
    ∙ ap (λ z. is_full d l || (has_long_name l || (nat_lt param_limit (length (kinds_of (params_of l))) || (nat_lt part_limit z || x)))) (parts-are-counted l)
