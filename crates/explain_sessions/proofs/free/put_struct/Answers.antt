use Rattle.sessions.specs.InferTable.Kept.{ready-later}
use Rattle.explain_sessions.proofs.free.put_struct.Goals as goal

pub returns-in_err-args-clause-ready : goal.returns-in_err-args-clause-ready
returns-in_err-args-clause-ready c =
    ready-later c.args.cx.now.entries c.mk_args.new.self.entries c.args.table.now (λ i x h. c.mk_args.ensures.grew.keeps i x (c.mk_ty.ensures.grew.keeps i x h)) c.requires.ready

pub returns-in_err-new-clause-ready : goal.returns-in_err-new-clause-ready
returns-in_err-new-clause-ready c =
    ready-later c.args.cx.now.entries c.mk_ty-2.new.self.entries c.args.table.now
    (λ i x h. c.mk_ty-2.ensures.grew.keeps i x (c.mk_args.ensures.grew.keeps i x (c.mk_ty.ensures.grew.keeps i x h))) c.requires.ready

pub put_value-requires-clause-ready : goal.put_value-requires-clause-ready
put_value-requires-clause-ready c =
    ready-later c.args.cx.now.entries c.mk_ty-2.new.self.entries c.args.table.now
    (λ i x h. c.mk_ty-2.ensures.grew.keeps i x (c.mk_args.ensures.grew.keeps i x (c.mk_ty.ensures.grew.keeps i x h))) c.requires.ready
