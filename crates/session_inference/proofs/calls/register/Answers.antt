use Rattle.std.proofs.Common.{◌∷◌, [], subst, sym}
use Rattle.infer_table.specs.Canonical.{GoalTrees}
use Rattle.infer_table.specs.Content.{variables_of}
use Rattle.infer_table.specs.declared.certainty.MaybeCause.TheVariants.{Ambiguity}
use Rattle.fulfillment.specs.declared.obligation.Standing.TheVariants.{Pending}
use Rattle.inference.specs.Inference.{proved}
use Rattle.inference.specs.Inferring.{GoalIsOver}
use Rattle.session_inference.specs.Assuming.{goal_over}
use Rattle.session_inference.specs.Contexts.{IsAskedFurtherIn}
use Rattle.session_inference.proofs.Contexts.{asked-after, leaves-after, rests-leaves}
use Rattle.session_inference.proofs.Faults.{refused-so}
use Rattle.session_inference.proofs.OwnTerms.{terms-held}
use Rattle.session_inference.proofs.calls.register.Goals as goal

pub trait_goal-requires : goal.trait_goal-requires
trait_goal-requires c = terms-held c.args.session.now.terms (variables_of c.args.context.now.table) c.args.stated.terms.now c.requires.terms

pub returns-in_err-goal-clause-leaves : goal.returns-in_err-goal-clause-leaves
returns-in_err-goal-clause-leaves c =
    rests-leaves c.args.session.now c.trait_goal.new.session c.args.context.now c.requires.can c.trait_goal.ensures.stays c.trait_goal.ensures.rests

pub returns-in_err-goal-clause-still : goal.returns-in_err-goal-clause-still
returns-in_err-goal-clause-still c = refused-so c.from_residual.result _ (c.trait_goal.ensures.rests.faithful c.args.context.now c.requires.can)

pub register_goal-requires-clause-can : goal.register_goal-requires-clause-can
register_goal-requires-clause-can c = c.trait_goal.ensures.rests.can c.args.context.now c.requires.can

pub register_goal-requires-clause-held : goal.register_goal-requires-clause-held
register_goal-requires-clause-held c = c.in_ok-goal.ensures.held

pub register_goal-requires-clause-over : goal.register_goal-requires-clause-over
register_goal-requires-clause-over c =
    let n = variables_of c.args.context.now.table in
    subst (λ (g : GoalTrees). GoalIsOver n g) (sym c.in_ok-goal.ensures.is) (c.trait_goal.ensures.over n c.requires.terms)

pub returns-in_err-id-clause-leaves : goal.returns-in_err-id-clause-leaves
returns-in_err-id-clause-leaves c =
    let t = c.trait_goal.new.session in
    leaves-after c.args.session.now t t c.args.context.now c.register_goal.new.context c.trait_goal.ensures.stays c.trait_goal.ensures.rests c.register_goal.ensures.leaves

pub returns-in_err-id-clause-still : goal.returns-in_err-id-clause-still
returns-in_err-id-clause-still c =
    let t = c.trait_goal.new.session in
    refused-so c.from_residual-in_err-id.result _
    (asked-after c.args.session.now t t c.args.context.now c.register_goal.new.context [] c.requires.can c.trait_goal.ensures.rests c.in_err-id.ensures.still)

pub returns-clause-leaves : goal.returns-clause-leaves
returns-clause-leaves c =
    let t = c.trait_goal.new.session in
    leaves-after c.args.session.now t t c.args.context.now c.register_goal.new.context c.trait_goal.ensures.stays c.trait_goal.ensures.rests c.register_goal.ensures.leaves

pub returns-clause-faithful : goal.returns-clause-faithful
returns-clause-faithful c =
    let t = c.trait_goal.new.session in
    let i = c.args.context.now in
    let j = c.register_goal.new.context in
    let g = goal_over c.args.session.now c.args.stated.terms.now c.args.stated.assumptions.now c.args.trait_id.index c.args.ids.now in
    asked-after c.args.session.now t t i j (proved g ∷ []) c.requires.can c.trait_goal.ensures.rests
    (subst (λ (x : GoalTrees). IsAskedFurtherIn (proved x ∷ []) t i t j) c.in_ok-goal.ensures.is c.in_ok-id.ensures.faithful)

pub returns-clause-registered : goal.returns-clause-registered
returns-clause-registered c =
    let x = c.in_ok-id.ensures.registered in
    record {
      number = x.0;
      obligation = record { goal = c.in_ok-goal.goal; standing = Pending Ambiguity; left = c.args.context.now.goals.limit };
      added = x.1;
      is = c.in_ok-goal.ensures.is;
    }
