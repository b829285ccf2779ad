use Rattle.std.proofs.Common.{sym, ◌∙◌, subst, refl}
use Rattle.declarations.proofs.Extending.{Extending, extending-first, extending-known, extending-new}
use Rattle.declarations.proofs.elaborate.Elaborator.extend_deduped.Goals as goal

pub references-init : goal.references-init
references-init c = extending-first c.args.cx.now.entries c.args.references.now c.args.self.now c.requires.held c.requires.visited

pub references-preserved-in_ok-put : goal.references-preserved-in_ok-put
references-preserved-in_ok-put c =
    let es = c.args.cx.now.entries in
    let x = c.in-Some.next.now in
    let h = subst (λ l. Extending es c.args.references.now c.args.self.now l c.references.self) c.in-Some.ensures.cases.0 c.references.invariant in
    extending-new es c.lawful.ensures c.args.references.now c.args.self.now c.references.self _ x c.in-Some.others.now (sym c.in_ok-is_new.ensures.added ∙ c.if-is_new.true) c.in_ok-is_new.ensures.keys
    c.in_ok-put.ensures.put h

pub references-preserved : goal.references-preserved
references-preserved c =
    let es = c.args.cx.now.entries in
    let x = c.in-Some.next.now in
    let h = subst (λ l. Extending es c.args.references.now c.args.self.now l c.references.self) c.in-Some.ensures.cases.0 c.references.invariant in
    extending-known es c.lawful.ensures c.args.references.now c.args.self.now c.references.self _ x c.in-Some.others.now (sym c.in_ok-is_new.ensures.added ∙ c.if-is_new.false) c.in_ok-is_new.ensures.keys
    refl h
