use Rattle.text_tables.specs.Views.{sort_of_kind}
use Rattle.text_names.proofs.Judged.{one_name}
use Rattle.text_names.proofs.judge_use.name.Goals as goal

pub returns : goal.returns
returns g c =
    one_name (g.N.Names.sight c.args.names.now) (sort_of_kind c.args.sort) c.args.name.now c.args.count c.is_unknown.result c.is_hidden_known.result c.is_other_name.result c.is_own.result c.is_unknown.ensures c.is_hidden_known.ensures
    c.is_other_name.ensures c.is_own.ensures
