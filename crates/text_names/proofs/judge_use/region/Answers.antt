use Rattle.std.proofs.Common.{rules, ◌≡◌, Some, None, sym, ap, ◌∙◌, false}
use Rattle.std.specs.Str.{bytes_eq}
use Rattle.text_language.specs.Faults.{static_name}
use Rattle.text_names.specs.Machine.{params}
use Rattle.text_names.specs.Resolved.{param_region}
use Rattle.text_names.proofs.Judged.{region-by, place-is, place-none}
use Rattle.text_names.proofs.judge_use.region.Goals as goal

pub returns-in-Some : goal.returns-in-Some
returns-in-Some g c =
    let a : bytes_eq c.args.name.now static_name ≡ false = search rules in
    sym (region-by (params (g.N.Names.sight c.args.names.now)) c.args.binders.now c.args.name.now (Some (c.in-Some.binder, c.in-Some.place)) a (c.in-Some.ensures {u = tt}))

pub returns-in-Some-param_place : goal.returns-in-Some-param_place
returns-in-Some-param_place g c =
    let a : bytes_eq c.args.name.now static_name ≡ false = search rules in
    let ps = params (g.N.Names.sight c.args.names.now) in
    ap param_region (place-is c.in-Some-param_place.place c.args.name.now ps.lifetimes (c.in-Some-param_place.ensures {u = tt}))
    ∙ sym (region-by ps c.args.binders.now c.args.name.now None a (c.in_default.ensures {u = tt}))

pub returns-in-None : goal.returns-in-None
returns-in-None g c =
    let a : bytes_eq c.args.name.now static_name ≡ false = search rules in
    let ps = params (g.N.Names.sight c.args.names.now) in
    ap param_region (c.param_count.ensures ∙ place-none c.args.name.now ps.lifetimes (c.in-None.ensures {u = tt}))
    ∙ sym (region-by ps c.args.binders.now c.args.name.now None a (c.in_default.ensures {u = tt}))
