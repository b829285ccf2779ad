use Rattle.type_terms.specs.declared.kinds.GenericArgKind.TheVariants.{Ty, Const}
use Rattle.text_printer.proofs.Parts.{first-arg, first-held, lifetime-arg, no-more-args, rest-held}
use Rattle.text_printer.proofs.printer.next_arg.Goals as goal

pub next_type_arg-requires-clause-lawful : goal.next_type_arg-requires-clause-lawful
next_type_arg-requires-clause-lawful g c = c.requires.lawful

pub next_type_arg-requires-clause-held : goal.next_type_arg-requires-clause-held
next_type_arg-requires-clause-held g c =
    first-held c.args.interner.now.entries c.args.list.now c.in-Some.first.now (Ty c.in-Ty.ty) c.in-Some.rest.now c.requires.held c.in-Some.ensures.cases.0 c.in-Ty.is

pub next_type_arg-requires-clause-rest : goal.next_type_arg-requires-clause-rest
next_type_arg-requires-clause-rest g c = rest-held c.args.interner.now.entries c.args.list.now c.in-Some.first.now c.in-Some.rest.now c.requires.held c.in-Some.ensures.cases.0

pub next_const_arg-requires-clause-lawful : goal.next_const_arg-requires-clause-lawful
next_const_arg-requires-clause-lawful g c = c.requires.lawful

pub next_const_arg-requires-clause-held : goal.next_const_arg-requires-clause-held
next_const_arg-requires-clause-held g c =
    first-held c.args.interner.now.entries c.args.list.now c.in-Some.first.now (Const c.in-Const.value) c.in-Some.rest.now c.requires.held c.in-Some.ensures.cases.0 c.in-Const.is

pub next_const_arg-requires-clause-rest : goal.next_const_arg-requires-clause-rest
next_const_arg-requires-clause-rest g c = rest-held c.args.interner.now.entries c.args.list.now c.in-Some.first.now c.in-Some.rest.now c.requires.held c.in-Some.ensures.cases.0

pub returns-in_ok-end_args-in-None : goal.returns-in_ok-end_args-in-None
returns-in_ok-end_args-in-None g c =
    no-more-args (g.N.PrintNames.names c.args.names.now) c.args.interner.now.entries c.args.stack.now.items c.args.out.now.items c.end_args.new.out.items c.args.is_open c.args.list.now c.in-None.ensures.cases
    c.in_ok-end_args-in-None.ensures

pub returns-in_ok-push-in-Lifetime : goal.returns-in_ok-push-in-Lifetime
returns-in_ok-push-in-Lifetime g c =
    first-arg (g.N.PrintNames.names c.args.names.now) c.args.interner.now.entries c.args.stack.now.items c.push.new.self.items c.args.out.now.items c.args.out.now.items c.args.is_open c.args.list.now c.in-Some.first.now _
    c.in-Some.rest.now c.in-Some.ensures.cases.0 c.in-Lifetime.is
    (lifetime-arg (g.N.PrintNames.names c.args.names.now) c.args.interner.now.entries c.args.stack.now.items c.push.new.self.items c.args.out.now.items c.args.is_open c.in-Lifetime.field-0 c.in-Some.rest
    (rest-held c.args.interner.now.entries c.args.list.now c.in-Some.first.now c.in-Some.rest.now c.requires.held c.in-Some.ensures.cases.0) c.in_ok-push-in-Lifetime.ensures.items)

pub returns-in_ok-next_type_arg-in-Ty : goal.returns-in_ok-next_type_arg-in-Ty
returns-in_ok-next_type_arg-in-Ty g c =
    first-arg (g.N.PrintNames.names c.args.names.now) c.args.interner.now.entries c.args.stack.now.items c.next_type_arg.new.stack.items c.args.out.now.items c.next_type_arg.new.out.items c.args.is_open c.args.list.now
    c.in-Some.first.now (Ty c.in-Ty.ty) c.in-Some.rest.now c.in-Some.ensures.cases.0 c.in-Ty.is c.in_ok-next_type_arg-in-Ty.ensures

pub returns-in_ok-next_const_arg-in-Const : goal.returns-in_ok-next_const_arg-in-Const
returns-in_ok-next_const_arg-in-Const g c =
    first-arg (g.N.PrintNames.names c.args.names.now) c.args.interner.now.entries c.args.stack.now.items c.next_const_arg.new.stack.items c.args.out.now.items c.next_const_arg.new.out.items c.args.is_open c.args.list.now
    c.in-Some.first.now (Const c.in-Const.value) c.in-Some.rest.now c.in-Some.ensures.cases.0 c.in-Const.is c.in_ok-next_const_arg-in-Const.ensures
