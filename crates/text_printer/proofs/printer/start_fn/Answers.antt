use Rattle.text_printer.proofs.Lists.{fn-step, inputs-held, output-held}
use Rattle.text_printer.proofs.printer.start_fn.Goals as goal

pub push_output-requires-clause-held : goal.push_output-requires-clause-held
push_output-requires-clause-held g c = output-held c.args.interner.now.entries c.in-Some.inputs.now c.args.list.now c.in-Some.output.now c.requires.held c.in-Some.ensures.cases.0

pub push_types-requires-clause-held : goal.push_types-requires-clause-held
push_types-requires-clause-held g c = inputs-held c.args.interner.now.entries c.in-Some.inputs.now c.args.list.now c.in-Some.output.now c.requires.held c.in-Some.ensures.cases.0

pub returns : goal.returns
returns g c =
    fn-step (g.N.PrintNames.names c.args.names.now) c.args.interner.now.entries c.requires.lawful c.args.bound_vars _ c.push_output.new.stack.items _ _ _ c.args.list.now c.in-Some.inputs.now c.in-Some.output.now
    c.requires.held c.in-Some.ensures.cases.0 c.in_ok-extend_from_slice-in-Some.ensures.items c.in_ok-push_output-in-Some.ensures c.in_ok-push_types-in-Some.ensures
