use Rattle.std.proofs.Common.{◌≡◌, false, sym, ap, ◌∙◌}
use Rattle.std.specs.Prelude.{◌||◌}
use Rattle.std.specs.List.{list_any}
use Rattle.std.specs.Option.{option_map_or}
use Rattle.text_language.specs.Faults.{is_long}
use Rattle.text_lines.specs.Says.{name_said, params_said}
use Rattle.text_lines.specs.Statement.{param_name}
use Rattle.text_lines.specs.Views.{param_of, statement_of}
use Rattle.text_lines.proofs.statement.Statement.has_long_name.Goals as goal
use Rattle.type_terms.proofs.ListBasics.{any-mapped as any-map}

pub returns : goal.returns
returns c =
    let s = statement_of c.args.self.now in
    let short : option_map_or is_long (name_said s) false ≡ false = cc in
    c.has_long_param.ensures
    ∙ sym (any-map (λ p. is_long (param_name p)) param_of c.params.result.now)
    ∙ ap (list_any (λ p. is_long (param_name p))) c.params.ensures
    ∙ ap (λ b. b || list_any (λ p. is_long (param_name p)) (params_said s)) (sym short)
