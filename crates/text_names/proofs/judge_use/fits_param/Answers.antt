use Rattle.std.proofs.Common.{Some, None}
use Rattle.text_language.specs.Uses.{params_of}
use Rattle.text_names.proofs.Judged.{fits-place}
use Rattle.text_names.proofs.judge_use.fits_param.Goals as goal

pub returns-in-Some : goal.returns-in-Some
returns-in-Some g c = rw c.in-Type.is (fits-place c.args.name.now (params_of (g.N.Names.sight c.args.names.now).line).types (Some c.in-Some.field-0) c.args.count (c.in-Some.ensures {u = tt}) c.if-count-ne0.false)

pub returns-in-None : goal.returns-in-None
returns-in-None g c = rw c.in-Type.is (fits-place c.args.name.now (params_of (g.N.Names.sight c.args.names.now).line).types None c.args.count (c.in-None.ensures {u = tt}) c.if-count-ne0.false)

pub returns-in-Some-param_place : goal.returns-in-Some-param_place
returns-in-Some-param_place g c =
    rw c.in-Const.is (fits-place c.args.name.now (params_of (g.N.Names.sight c.args.names.now).line).consts (Some c.in-Some-param_place.field-0) c.args.count (c.in-Some-param_place.ensures {u = tt}) c.if-count-ne0.false)

pub returns-in-None-param_place : goal.returns-in-None-param_place
returns-in-None-param_place g c =
    rw c.in-Const.is (fits-place c.args.name.now (params_of (g.N.Names.sight c.args.names.now).line).consts None c.args.count (c.in-None-param_place.ensures {u = tt}) c.if-count-ne0.false)
