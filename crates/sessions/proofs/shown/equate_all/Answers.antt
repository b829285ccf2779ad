use Rattle.std.proofs.Common.{◌∙◌, subst}
use Rattle.type_terms.specs.Promised.Handles.{ArgsHeld}
use Rattle.type_terms.specs.Kept.{args-held-later}
use Rattle.sessions.proofs.shown.equate_all.Goals as goal

pub equate-requires-clause-unknown : goal.equate-requires-clause-unknown
equate-requires-clause-unknown c = (subst (ArgsHeld c.unknowns.cx.entries) c.in-Some.ensures.cases.0 c.unknowns.invariant.left_held).0

pub equate-requires-clause-value : goal.equate-requires-clause-value
equate-requires-clause-value c = (subst (ArgsHeld c.unknowns.cx.entries) c.in-Some-split_first.ensures.cases.0 c.unknowns.invariant.given_held).0

pub unknowns-preserved : goal.unknowns-preserved
unknowns-preserved c =
    let now = c.unknowns.cx.entries in
    let next = c.equate.new.cx.entries in
    let inv = c.unknowns.invariant in
    let k = c.equate.ensures.grew.keeps in
    let left = subst (ArgsHeld now) c.in-Some.ensures.cases.0 inv.left_held in
    let given = subst (ArgsHeld now) c.in-Some-split_first.ensures.cases.0 inv.given_held in
    record {
      keeps = λ j e h. k j e (inv.keeps j e h);
      limit = c.equate.ensures.grew.limit ∙ inv.limit;
      ready = c.equate.ensures.ready;
      left_held = args-held-later now next k c.in-Some.unknowns_left.now left.1;
      given_held = args-held-later now next k c.in-Some-split_first.values_left.now given.1;
    }
