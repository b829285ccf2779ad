use Rattle.std.proofs.Common.{Some, None, ap, sym, ◌∙◌}
use Rattle.type_terms.specs.Promised.Label.{of_const}
use Rattle.infer_table.proofs.Fillings.{value-at, held-at}
use Rattle.infer_table.proofs.instantiate.CanonicalInstantiator.const_value.Goals as goal

pub returns-in-Const-clause-value : goal.returns-in-Const-clause-value
returns-in-Const-clause-value c = λ es. value-at es c.args.self.now.values.now c.args.variable.index of_const _ (sym c.in-Some.ensures ∙ ap Some c.in-Const.is)

pub returns-in-Const-clause-held : goal.returns-in-Const-clause-held
returns-in-Const-clause-held c = λ es h. held-at es c.args.self.now.values.now c.args.variable.index _ h (sym c.in-Some.ensures ∙ ap Some c.in-Const.is)

pub returns-in-None-clause-value : goal.returns-in-None-clause-value
returns-in-None-clause-value c = λ es. value-at es c.args.self.now.values.now c.args.variable.index of_const None (sym c.in-None.ensures)

pub returns-in-Lifetime-clause-value : goal.returns-in-Lifetime-clause-value
returns-in-Lifetime-clause-value c = λ es. value-at es c.args.self.now.values.now c.args.variable.index of_const _ (sym c.in-Some.ensures ∙ ap Some c.in-Lifetime.is)

pub returns-in-Ty-clause-value : goal.returns-in-Ty-clause-value
returns-in-Ty-clause-value c = λ es. value-at es c.args.self.now.values.now c.args.variable.index of_const _ (sym c.in-Some.ensures ∙ ap Some c.in-Ty.is)
