use Rattle.std.proofs.Common.{◌∙◌}
use Rattle.text_tables.specs.Views.{sort_of_kind}
use Rattle.text_names.specs.Machine.{params}
use Rattle.text_names.specs.LookUps.{params_of_sort}
use Rattle.text_names.proofs.Judged.{place-is, place-none}
use Rattle.text_names.proofs.heads.place_among.Goals as goal

pub returns-in-Some : goal.returns-in-Some
returns-in-Some g c = place-is c.in-Some.place c.args.name.now (params_of_sort (params (g.N.Names.sight c.args.names.now)) (sort_of_kind c.args.sort)) (c.in-Some.ensures {u = tt})

pub returns-in-None : goal.returns-in-None
returns-in-None g c =
    c.param_count.ensures ∙ place-none c.args.name.now (params_of_sort (params (g.N.Names.sight c.args.names.now)) (sort_of_kind c.args.sort)) (c.in-None.ensures {u = tt})
