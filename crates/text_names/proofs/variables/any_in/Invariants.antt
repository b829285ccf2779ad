use Rattle.std.proofs.Common.{◌≡◌, ℕ, List, drop, map}
use Rattle.std.specs.List.{list_any}
use Rattle.type_terms.specs.Promised.Label.{Sort}
use Rattle.text_language.specs.Faults.{is_of_other_kind}
use Rattle.text_names.specs.Views.{variable_in}
use Rattle.text_names.specs.Variables.{HoldsKinds}
use Rattle.text_names.proofs.variables.any_in.Given as goal

abbrev pub invariant-loop-variable : goal.invariant-loop-variable
invariant-loop-variable l =
    (vs : List (List ℕ × Sort)) → HoldsKinds l.others vs → list_any (λ v. list_any (is_of_other_kind v) vs) (map variable_in (drop l.variable-index l.variables)) ≡ list_any (λ v. list_any (is_of_other_kind v) vs) (map variable_in l.variables)
