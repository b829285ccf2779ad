use Rattle.std.proofs.Common.{rules, ◌≡◌, ap, sym, ◌∙◌, subst, Some, Err}
use Rattle.type_terms.specs.Kinds.{args_trees}
use Rattle.type_terms.specs.Promised.Handles.{ArgsHeld}
use Rattle.type_terms.specs.Kept.{args-held-later}
use Rattle.infer_table.specs.Applied.{solved_in_turn}
use Rattle.infer_table.specs.Content.{Table, Grows, content}
use Rattle.infer_table.specs.Solutions.{Equates, HasNoSolution}
use Rattle.infer_table.specs.Unification.{table_trees}
use Rattle.infer_table.specs.declared.certainty.EqError.TheVariants as error
use Rattle.type_terms.proofs.Grown.{grew-on}
use Rattle.overlap_check.specs.Headers.{with_unknowns_for, AreHeaderArgs}
use Rattle.overlap_check.proofs.Headers.{impl-later, well-later, pair-apart, pair-equal}
use Rattle.overlap_check.proofs.intersection.equate_fresh_headers.Goals as goal

pub fresh_header_args-requires-2-clause-held : goal.fresh_header_args-requires-2-clause-held
fresh_header_args-requires-2-clause-held c = impl-later c.args.cx.now.entries c.fresh_header_args.new.cx.entries c.fresh_header_args.ensures.terms.grew.keeps c.args.right.now c.requires.right_held

pub fresh_header_args-requires-2-clause-written : goal.fresh_header_args-requires-2-clause-written
fresh_header_args-requires-2-clause-written c =
    well-later c.args.cx.now.entries c.fresh_header_args.new.cx.entries c.fresh_header_args.ensures.terms.grew.keeps c.args.right.now c.requires.right_held c.requires.right_written

pub equate_args-requires-clause-left : goal.equate_args-requires-clause-left
equate_args-requires-clause-left c =
    subst (ArgsHeld c.fresh_header_args-2.new.cx.entries) (sym c.deref.ensures.value)
    (args-held-later c.fresh_header_args.new.cx.entries c.fresh_header_args-2.new.cx.entries c.fresh_header_args-2.ensures.terms.grew.keeps c.in_ok-left_unknowns.left_args.items c.in_ok-left_unknowns.ensures.header.held)

pub returns-in-Err-NoSolution-clause-apart : goal.returns-in-Err-NoSolution-clause-apart
returns-in-Err-NoSolution-clause-apart c = λ _.
    let es = c.args.cx.now.entries in
    let one = c.fresh_header_args.new.cx.entries in
    let two = c.fresh_header_args-2.new.cx.entries in
    let w = c.args.left.now in
    let x = c.args.right.now in
    let a1 = c.in_ok-left_unknowns.left_unknowns in
    let l1 = c.in_ok-left_unknowns.left_args.items in
    let a2 = c.in_ok-right_unknowns.right_unknowns in
    let l2 = c.in_ok-right_unknowns.right_args.items in
    let first = c.in_ok-left_unknowns.ensures.made ∙ ap (λ t. with_unknowns_for t w) c.requires.empty in
    let both = c.in_ok-right_unknowns.ensures.made ∙ ap (λ t. with_unknowns_for t x) first in
    pair-apart es c.lawful.ensures w x c.requires.left_held c.requires.right_held c.requires.left_written c.requires.right_written one two c.fresh_header_args.ensures.terms.grew.keeps c.fresh_header_args-2.ensures.terms.grew.keeps
    a1 a2 l1 l2
    (subst (λ t. AreHeaderArgs es t w one a1 l1) c.requires.empty c.in_ok-left_unknowns.ensures.header) (subst (λ t. AreHeaderArgs one t x two a2 l2) first c.in_ok-right_unknowns.ensures.header)
    (subst (λ (t : Table). HasNoSolution (content two t.values) (args_trees two l1) (args_trees two l2)) both
    (subst (λ l. HasNoSolution (content two c.fresh_header_args-2.new.table.values) (args_trees two l1) (args_trees two l)) c.deref-2.ensures.value
    (subst (λ l. HasNoSolution (content two c.fresh_header_args-2.new.table.values) (args_trees two l) (args_trees two c.deref-2.result.now)) c.deref.ensures.value
    (c.in-Err-NoSolution.ensures.never (ap Err c.in-Err-NoSolution.field-0-is)))))

pub returns-in-Ok-clause-equal : goal.returns-in-Ok-clause-equal
returns-in-Ok-clause-equal c =
    let es = c.args.cx.now.entries in
    let one = c.fresh_header_args.new.cx.entries in
    let two = c.fresh_header_args-2.new.cx.entries in
    let three = c.equate_args.new.cx.entries in
    let u = c.equate_args.new.table in
    let w = c.args.left.now in
    let x = c.args.right.now in
    let a1 = c.in_ok-left_unknowns.left_unknowns in
    let l1 = c.in_ok-left_unknowns.left_args.items in
    let a2 = c.in_ok-right_unknowns.right_unknowns in
    let l2 = c.in_ok-right_unknowns.right_args.items in
    let first = c.in_ok-left_unknowns.ensures.made ∙ ap (λ t. with_unknowns_for t w) c.requires.empty in
    let both = c.in_ok-right_unknowns.ensures.made ∙ ap (λ t. with_unknowns_for t x) first in
    let made = c.in-Ok.ensures in
    let left = c.deref.ensures.value in
    let right = c.deref-2.ensures.value in
    let m1 = c.deref.result.now in
    let m2 = c.deref-2.result.now in
    let before = c.fresh_header_args-2.new.table in
    let same : w.header.def_id.index ≡ x.header.def_id.index = search rules in
    pair-equal es c.lawful.ensures w x c.requires.left_held c.requires.right_held c.requires.left_written c.requires.right_written one two c.fresh_header_args.ensures.terms.grew.keeps c.fresh_header_args-2.ensures.terms.grew.keeps
    a1 a2 l1 l2
    (subst (λ t. AreHeaderArgs es t w one a1 l1) c.requires.empty c.in_ok-left_unknowns.ensures.header) (subst (λ t. AreHeaderArgs one t x two a2 l2) first c.in_ok-right_unknowns.ensures.header)
    same three c.equate_args.ensures.terms.grew.keeps u c.equate_args.ensures.ready
    (subst (λ t. Grows t u) both c.equate_args.ensures.grows)
    (subst (λ (t : Table). Equates (content two t.values) (content three u.values) (args_trees two l1) (args_trees two l2)) both
    (subst (λ l. Equates (content two before.values) (content three u.values) (args_trees two l1) (args_trees two l)) right
    (subst (λ l. Equates (content two before.values) (content three u.values) (args_trees two l) (args_trees two m2)) left made.equates)))
    (subst (λ t. solved_in_turn (table_trees two t) (args_trees two l1) (args_trees two l2) ≡ Some (table_trees three u)) both
    (subst (λ l. solved_in_turn (table_trees two before) (args_trees two l1) (args_trees two l) ≡ Some (table_trees three u)) right
    (subst (λ l. solved_in_turn (table_trees two before) (args_trees two l) (args_trees two m2) ≡ Some (table_trees three u)) left made.exact)))

pub returns-clause-terms : goal.returns-clause-terms
returns-clause-terms c = record {
  grew = grew-on (grew-on c.fresh_header_args.ensures.terms.grew c.fresh_header_args-2.ensures.terms.grew) c.equate_args.ensures.terms.grew;
  full = λ q. c.in-Err-Fault.ensures.terms.full (c.in-Err-Fault.field-0-is ∙ ap error.Fault (sym c.in-Err-Fault.fault-is ∙ q));
}
