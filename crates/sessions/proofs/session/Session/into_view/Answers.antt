use Rattle.std.proofs.Common.{subst}
use Rattle.sessions.specs.SeenViews.{IsViewOf}
use Rattle.sessions.proofs.session.Session.into_view.Goals as goal

pub returns : goal.returns
returns c =
    let s = c.args.self in
    let left = c.leave-left in
    record {
      view = subst (λ n. IsViewOf s.declarations n s.handles c.into_view.result) left.ensures.of_crate
          (c.into_view.ensures.view s.declarations s.depth s.handles left.ensures.left);
    }
