use Rattle.std.proofs.Common.{refl}
use Rattle.infer_table.specs.Growth.{grows-refl}
use Rattle.inference.proofs.Calls.{can-refuse, can-register, faithful-register}
use Rattle.inference.proofs.Growing.{grown-added, grown-same}
use Rattle.inference.proofs.Results.{either-ok, if-ok, on-err}
use Rattle.inference.proofs.context.Infer.register.Goals as goal

pub returns-clause-again : goal.returns-clause-again
returns-clause-again g c =
    let h = g.H.GoalHandler.meaning in
    let x = c.args.search.now in
    let i = c.args.self.now in
    let call = c.register in
    either-ok call.result _ call.ensures.registered (λ id e. can-register h x.graph x.cache x.cx i c.requires.can call.new.self c.args.goal i.goals.limit e.1 c.requires.held c.requires.over)
    (on-err call.result _ _ (λ e. can-refuse h x.graph x.cache x.cx i c.requires.can call.new.self e) call.ensures.refused)

pub returns-clause-faithful : goal.returns-clause-faithful
returns-clause-faithful g c =
    let x = c.args.search.now in
    let i = c.args.self.now in
    let call = c.register in
    if-ok call.result _ call.ensures.registered
    (λ id e. faithful-register g.H.GoalHandler.meaning x.graph x.cache x.cx i c.requires.can call.new.self c.args.goal i.goals.limit e.1 c.requires.over)

pub returns-clause-grows : goal.returns-clause-grows
returns-clause-grows g c =
    let i = c.args.self.now in
    let call = c.register in
    record {
      table = grows-refl i.table;
      goals =
          either-ok call.result _ call.ensures.registered (λ id e. grown-added i.goals.obligations.items _ call.new.self.obligations.items e.1)
          (on-err call.result _ _ (λ e. grown-same i.goals.obligations.items call.new.self.obligations.items e) call.ensures.refused);
      mode = refl;
      limit = call.ensures.limit;
    }
