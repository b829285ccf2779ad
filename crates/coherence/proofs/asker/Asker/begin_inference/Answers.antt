use Rattle.std.proofs.Common.{◌<◌, length, refl, subst, sym}
use Rattle.std.specs.Prelude.{IfOk}
use Rattle.coherence.specs.Asking.{AskedText}
use Rattle.coherence.specs.Inferring.{HasBegun}
use Rattle.coherence.proofs.Asking.{same-asked, served, serves-still}
use Rattle.coherence.proofs.asker.Asker.begin_inference.Goals as goal

pub begin-requires-clause-parsed : goal.begin-requires-clause-parsed
begin-requires-clause-parsed c =
    let i = c.self.inside in
    served i.workspace i.text_length i.kept.limits i.kept.left.items c.self.invariant

pub begin-requires-clause-declared : goal.begin-requires-clause-declared
begin-requires-clause-declared c = subst (λ (a : AskedText). c.args.id.index < length a.declarations.crates) (sym c.self.view_is) c.requires

pub begin-requires-clause-left : goal.begin-requires-clause-left
begin-requires-clause-left c = c.self.invariant.left

pub invariant_of-self : goal.invariant_of-self
invariant_of-self c =
    let i = c.self.inside in
    let kept = c.begin.new.kept in
    serves-still i.workspace i.workspace i.text_length i.kept.limits kept.limits i.kept.left.items kept.left.items c.self.invariant refl c.begin.ensures.limits c.begin.ensures.left

pub returns-clause-begun : goal.returns-clause-begun
returns-clause-begun c = subst (λ (a : AskedText). IfOk c.begin.result (HasBegun a.depth a.declarations c.args.id.index)) c.self.view_is c.begin.ensures.begun

pub returns-clause-stays : goal.returns-clause-stays
returns-clause-stays c =
    let i = c.self.inside in
    same-asked i.workspace i.workspace i.text_length i.kept.limits c.begin.new.kept.limits c.args.self.now refl c.begin.ensures.limits c.self.view_is
