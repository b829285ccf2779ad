use Rattle.std.proofs.Common.{refl, subst, sym}
use Rattle.session_inference.specs.LeftInferences.{IsLeftInference}
use Rattle.coherence.specs.Asking.{AskedText}
use Rattle.coherence.proofs.Asking.{same-asked, serves-still}
use Rattle.coherence.proofs.asker.Asker.keep.Goals as goal

pub invariant_of-self : goal.invariant_of-self
invariant_of-self c =
    let i = c.self.inside in
    let kept = c.keep_inference.new.self in
    let left = subst (λ (a : AskedText). IsLeftInference a.declarations c.args.left) (sym c.self.view_is) c.requires in
    serves-still i.workspace i.workspace i.text_length i.kept.limits kept.limits i.kept.left.items kept.left.items c.self.invariant refl c.keep_inference.ensures.limits
    (c.keep_inference.ensures.left i.workspace c.self.invariant.left left)

pub returns : goal.returns
returns c =
    let i = c.self.inside in
    record { stays = same-asked i.workspace i.workspace i.text_length i.kept.limits c.keep_inference.new.self.limits c.args.self.now refl c.keep_inference.ensures.limits c.self.view_is }
