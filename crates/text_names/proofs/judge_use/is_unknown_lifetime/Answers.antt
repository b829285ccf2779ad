use Rattle.std.proofs.Common.{rules, ◌≡◌, Some, None, refl, false}
use Rattle.std.specs.Str.{bytes_eq}
use Rattle.text_language.specs.Faults.{static_name}
use Rattle.text_names.specs.LookUps.{scope_place}
use Rattle.text_names.proofs.Judged.{unknown-by}
use Rattle.text_names.proofs.judge_use.is_unknown_lifetime.Goals as goal

pub returns-in-Some : goal.returns-in-Some
returns-in-Some g c =
    let a : bytes_eq c.args.name.now static_name ≡ false = search rules in
    unknown-by (g.N.Names.sight c.args.names.now) c.args.binders.now c.args.name.now (Some c.in-Some.field-0) (scope_place 0 c.args.binders.now c.args.name.now) a (c.in-Some.ensures {u = tt}) refl

pub returns-in-Some-find : goal.returns-in-Some-find
returns-in-Some-find g c =
    let a : bytes_eq c.args.name.now static_name ≡ false = search rules in
    unknown-by (g.N.Names.sight c.args.names.now) c.args.binders.now c.args.name.now None (Some c.in-Some-find.field-0) a (c.in_default.ensures {u = tt}) (c.in-Some-find.ensures {u = tt})

pub returns : goal.returns
returns g c =
    let a : bytes_eq c.args.name.now static_name ≡ false = search rules in
    unknown-by (g.N.Names.sight c.args.names.now) c.args.binders.now c.args.name.now None None a (c.in_default.ensures {u = tt}) (c.in_default-find.ensures {u = tt})
