use Rattle.std.proofs.Common.{List, [], map, ap, ◌∙◌}
use Rattle.text_names.specs.Resolved as resolved
use Rattle.text_names.specs.Views.{variable_in, resolved_in, variables_onto}
use Rattle.text_names.proofs.Stacks.{variables-turned, cells-turned}
use Rattle.text_names.proofs.found.Found.finish.Goals as goal

pub returns : goal.returns
returns c =
    let i = c.self.inside in
    let cells : List resolved.ResolvedCell = map resolved_in c.reverse-2.new.self.items in
    ap (λ vs. record { faults = i.faults; variables = vs; is_deep = i.is_deep; cells = cells }) (ap (map variable_in) c.reverse.ensures.items ∙ variables-turned i.variables.items)
    ∙ ap (λ (cs : List resolved.ResolvedCell). record { faults = i.faults; variables = variables_onto i.variables.items []; is_deep = i.is_deep; cells = cs }) (ap (map resolved_in) c.reverse-2.ensures.items ∙ cells-turned i.cells.items)
    ∙ c.self.view_is
