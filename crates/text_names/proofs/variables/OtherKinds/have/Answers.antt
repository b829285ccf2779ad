use Rattle.std.proofs.Common.{ap, sym}
use Rattle.type_terms.specs.Promised.Label.{of_type, of_const, of_lifetime}
use Rattle.text_tables.specs.Views.{sort_of_kind}
use Rattle.text_names.specs.Variables.{other_kind_names}
use Rattle.text_names.proofs.OtherSorts.{has-other}
use Rattle.text_names.proofs.variables.OtherKinds.have.Goals as goal

pub returns-in-Type : goal.returns-in-Type
returns-in-Type c vs h = has-other c.args.variable of_type _ vs (ap sort_of_kind (sym c.in-Type.is)) (c.contains.ensures (other_kind_names of_type vs) h.0)

pub returns-in-Const : goal.returns-in-Const
returns-in-Const c vs h = has-other c.args.variable of_const _ vs (ap sort_of_kind (sym c.in-Const.is)) (c.contains-in-Const.ensures (other_kind_names of_const vs) h.1)

pub returns-in-Lifetime : goal.returns-in-Lifetime
returns-in-Lifetime c vs h = has-other c.args.variable of_lifetime _ vs (ap sort_of_kind (sym c.in-Lifetime.is)) (c.contains-in-Lifetime.ensures (other_kind_names of_lifetime vs) h.2)
