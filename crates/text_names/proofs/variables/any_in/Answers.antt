use Rattle.std.proofs.Common.{◌+◌, sym, ap, ◌∙◌, map, drop}
use Rattle.std.specs.Prelude.{◌||◌}
use Rattle.std.specs.List.{list_any}
use Rattle.text_language.specs.Faults.{is_of_other_kind}
use Rattle.text_names.specs.Views.{variable_in}
use Rattle.text_names.proofs.OtherSorts.{any-behind}
use Rattle.text_names.proofs.variables.any_in.Goals as goal

pub returns-then-have : goal.returns-then-have
returns-then-have c vs h =
    let all = c.args.variables.now in
    let i = c.loop-variable.variable-index in
    ap (λ b. b || list_any (λ v. list_any (is_of_other_kind v) vs) (map variable_in (drop (i + 1) all))) (sym (sym (c.have.ensures vs h) ∙ c.if-have.true))
    ∙ sym (any-behind (λ v. list_any (is_of_other_kind v) vs) all i _ c.loop-variable-test.true) ∙ c.loop-variable.invariant vs h

pub loop-variable-preserved : goal.loop-variable-preserved
loop-variable-preserved c vs h =
    let all = c.args.variables.now in
    let i = c.loop-variable.variable-index in
    ap (λ b. b || list_any (λ v. list_any (is_of_other_kind v) vs) (map variable_in (drop (i + 1) all))) (sym (sym (c.have.ensures vs h) ∙ c.if-have.false))
    ∙ sym (any-behind (λ v. list_any (is_of_other_kind v) vs) all i _ c.loop-variable-test.true) ∙ c.loop-variable.invariant vs h
