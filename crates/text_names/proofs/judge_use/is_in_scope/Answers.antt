use Rattle.std.proofs.Common.{Some, None, refl}
use Rattle.text_names.specs.LookUps.{scope_place}
use Rattle.text_names.proofs.Judged.{in-scope}
use Rattle.text_names.proofs.judge_use.is_in_scope.Goals as goal

pub returns-in-Some : goal.returns-in-Some
returns-in-Some g c =
    in-scope (g.N.Names.sight c.args.names.now).line c.args.binders.now c.args.name.now (Some c.in-Some.field-0) (scope_place 0 c.args.binders.now c.args.name.now) (c.in-Some.ensures {u = tt}) refl

pub returns-in-Some-find : goal.returns-in-Some-find
returns-in-Some-find g c =
    in-scope (g.N.Names.sight c.args.names.now).line c.args.binders.now c.args.name.now None (Some c.in-Some-find.field-0) (c.in_default.ensures {u = tt}) (c.in-Some-find.ensures {u = tt})

pub returns-in-None : goal.returns-in-None
returns-in-None g c = in-scope (g.N.Names.sight c.args.names.now).line c.args.binders.now c.args.name.now None None (c.in_default.ensures {u = tt}) (c.in-None.ensures {u = tt})
