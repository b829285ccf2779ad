use Rattle.std.proofs.Common.{sym, subst}
use Rattle.text_names.specs.Machine.{inside_step}
use Rattle.text_names.specs.WalkViews.{frame_of, inside_of, WalkSteps}
use Rattle.text_names.proofs.walk.Walk.inside.Goals as goal

pub returns-in-Types : goal.returns-in-Types
returns-in-Types g c =
    let v = g.N.Names.sight c.args.names.now in
    subst (λ h. WalkSteps c.type_inside.result (λ fs s r a. inside_step v (inside_of h) (frame_of c.args.frame) fs s r a) c.args.self.now c.type_inside.new.self) (sym c.in-Types.is) (c.type_inside.ensures v)

pub returns-in-Args : goal.returns-in-Args
returns-in-Args g c =
    let v = g.N.Names.sight c.args.names.now in
    subst (λ h. WalkSteps c.args_inside.result (λ fs s r a. inside_step v (inside_of h) (frame_of c.args.frame) fs s r a) c.args.self.now c.args_inside.new.self) (sym c.in-Args.is) (c.args_inside.ensures v)
