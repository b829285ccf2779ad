use Rattle.std.proofs.Common.{◌∙◌, arith}
use Rattle.type_terms.proofs.InfoFacts.{args-next, arg-held-at}
use Rattle.type_terms.proofs.interner.Interner.args_info.Goals as goal

pub arg_info-requires : goal.arg_info-requires
arg_info-requires c = arg-held-at c.args.self.now.entries c.args.list.now c.loop-arg.arg-index c.arg-item.result c.requires (omega arith) c.arg-item.is

pub loop-arg-preserved : goal.loop-arg-preserved
loop-arg-preserved c =
    c.join-info.ensures
    ∙ rw (c.loop-arg.invariant, c.arg_info.ensures)
    (args-next c.args.self.now.entries c.args.list.now c.loop-arg.arg-index c.arg-item.result (omega arith) c.arg-item.is)
