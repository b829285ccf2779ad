use Rattle.std.proofs.Common.{Some, None, refl}
use Rattle.text_language.specs.Uses.{params_of}
use Rattle.text_names.specs.LookUps.{place_in}
use Rattle.text_names.proofs.Judged.{param-by}
use Rattle.text_names.proofs.judge_use.is_param.Goals as goal

pub returns-in-Some : goal.returns-in-Some
returns-in-Some g c =
    let l = (g.N.Names.sight c.args.names.now).line in
    param-by l c.args.name.now (Some c.in-Some.field-0) (place_in c.args.name.now (params_of l).consts) (c.in-Some.ensures {u = tt}) refl

pub returns-in-Some-param_place : goal.returns-in-Some-param_place
returns-in-Some-param_place g c =
    param-by (g.N.Names.sight c.args.names.now).line c.args.name.now None (Some c.in-Some-param_place.field-0) (c.in_default.ensures {u = tt}) (c.in-Some-param_place.ensures {u = tt})

pub returns : goal.returns
returns g c = param-by (g.N.Names.sight c.args.names.now).line c.args.name.now None None (c.in_default.ensures {u = tt}) (c.in_default-param_place.ensures {u = tt})
