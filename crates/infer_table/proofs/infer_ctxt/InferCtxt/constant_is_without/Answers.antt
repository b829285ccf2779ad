use Rattle.std.proofs.Common.{sym}
use Rattle.infer_table.specs.Content.{content}
use Rattle.infer_table.proofs.OccurFacts.{followed-occurs}
use Rattle.infer_table.proofs.ResolveFacts.{const-at-proper}
use Rattle.infer_table.proofs.infer_ctxt.InferCtxt.constant_is_without.Goals as goal

pub returns : goal.returns
returns c =
    let r = c.shallow_resolve_const-followed in
    record {
      without = (
        sym (followed-occurs c.args.cx.now.entries (content c.args.cx.now.entries c.args.self.now.values) c.args.variable.index r.result.0 c.args.constant.0 c.const_has_kind-2.ensures.0
            c.const_has_kind-2.ensures.1 r.ensures.unbound r.ensures.same),
        const-at-proper c.args.cx.now.entries c.args.constant.0 c.const_has_kind.ensures.0 c.const_has_kind.ensures.1,
      );
    }
