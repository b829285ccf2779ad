use Rattle.std.proofs.Common.{◌+◌, [], sym, ◌∙◌, subst}
use Rattle.text_names.proofs.Firsts.{Firsts, Seen, firsts-none, seen-more, seen-skip}
use Rattle.text_names.proofs.found_variables.each_once.Goals as goal
use Rattle.text_names.proofs.found_variables.each_once.Goals.{then-not-contains+in_ok-insert+in_ok-push, else-not-contains}

pub loop-variable-init : goal.loop-variable-init
loop-variable-init c = ([], c.new-met.ensures, subst (λ z. Firsts c.args.variables.now 0 z []) (sym c.new-firsts.ensures.items) (firsts-none c.args.variables.now))

pub loop-variable-preserved : goal.loop-variable-preserved
loop-variable-preserved c =
    let all = c.args.variables.now in
    let at = c.loop-variable.variable-index in
    let i = c.loop-variable.invariant in
    let old = c.loop-variable.firsts.items in
    let now = c.if-not-contains in
    let asked = c.contains.ensures i.0 i.1 in
    elim now.branch [
      | then-not-contains+in_ok-insert+in_ok-push w ↦
          subst (λ s. Seen all (at + 1) s now.firsts.items) (sym w.met-is)
          (subst (λ z. Seen all (at + 1) w.insert.new.self z.items) (sym w.firsts-is)
          (seen-more all at _ w.insert.new.self old w.push.new.self.items i.0 c.loop-variable-test.true (sym asked ∙ w.if-not-contains.true) (w.in_ok-insert.ensures i.0 i.1) w.in_ok-push.ensures.items i.2))
      | else-not-contains w ↦
          subst (λ s. Seen all (at + 1) s now.firsts.items) (sym w.met-is)
          (subst (λ z. Seen all (at + 1) c.loop-variable.met z.items) (sym w.firsts-is) (seen-skip all at _ c.loop-variable.met old i.0 c.loop-variable-test.true (sym asked ∙ w.if-not-contains.false) i.1 i.2))
    ]
