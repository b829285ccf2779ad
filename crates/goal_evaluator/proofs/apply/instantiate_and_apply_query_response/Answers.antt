use Rattle.std.proofs.Common.{sym, subst}
use Rattle.infer_table.specs.Content.{Ready, Grows, content}
use Rattle.infer_table.specs.Growth.{grows-refl}
use Rattle.infer_table.specs.Kept.{ready-later}
use Rattle.infer_table.proofs.EquationFacts.{solved-sorted}
use Rattle.infer_table.proofs.Covers.{applies, refuses}
use Rattle.infer_table.proofs.KnownUnknowns.{applied-known}
use Rattle.goal_evaluator.proofs.apply.instantiate_and_apply_query_response.Goals as goal

pub returns-in-Err-clause-ready : goal.returns-in-Err-clause-ready
returns-in-Err-clause-ready c =
    let now = c.apply.new.cx.entries in
    let t = c.args.table.now in
    subst (Ready now) (sym (c.roll_back.ensures t c.snapshot-place.ensures c.apply.ensures.grows)) (ready-later c.args.cx.now.entries now t c.apply.ensures.terms.grew.keeps c.requires.ready)

pub returns-in-Err-clause-grows : goal.returns-in-Err-clause-grows
returns-in-Err-clause-grows c =
    let t = c.args.table.now in
    subst (Grows t) (sym (c.roll_back.ensures t c.snapshot-place.ensures c.apply.ensures.grows)) (grows-refl t)

pub returns-in-Ok-clause-kept : goal.returns-in-Ok-clause-kept
returns-in-Ok-clause-kept c = λ posed s h g.
    let es = c.args.cx.now.entries in
    let t = c.args.table.now in
    applies es c.lawful.ensures t c.args.original_values.now c.args.response.now s (solved-sorted s (content es t.values) h) c.requires.values c.requires.response.values posed.numbered posed.values_known
    (content c.apply.new.cx.entries c.apply.new.table.values) (content es t.values) posed.table_known h c.in-Ok.ensures.equates g

pub returns-in-Err-clause-accepted : goal.returns-in-Err-clause-accepted
returns-in-Err-clause-accepted c = λ e posed s h g.
    let es = c.args.cx.now.entries in
    let t = c.args.table.now in
    refuses es c.lawful.ensures t c.args.original_values.now c.args.response.now s (solved-sorted s (content es t.values) h) c.requires.values c.requires.response.values posed.numbered posed.values_known
    (content es t.values) posed.table_known h (c.in-Err.ensures.never e) g

pub returns-in-Ok-clause-known : goal.returns-in-Ok-clause-known
returns-in-Ok-clause-known c = λ posed.
    applied-known c.args.cx.now.entries c.args.table.now c.args.original_values.now c.args.response.now posed c.apply.new.table (content c.apply.new.cx.entries c.apply.new.table.values) c.apply.ensures.grows c.in-Ok.ensures.unknowns c.in-Ok.ensures.equates
