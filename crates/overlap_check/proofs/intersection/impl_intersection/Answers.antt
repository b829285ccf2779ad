use Rattle.std.proofs.Common.{ap, refl, sym, ◌∙◌, subst, map, Ok, Some}
use Rattle.std.specs.Prelude.{IfSome}
use Rattle.type_terms.specs.Promised.Erased.{erased_impl}
use Rattle.type_terms.specs.Promised.Worlds.{all_with_args}
use Rattle.infer_table.specs.Content.{content}
use Rattle.infer_table.specs.Kept.{ready-later}
use Rattle.infer_table.specs.Applied.{solved_in_turn}
use Rattle.infer_table.proofs.InTurn.{same-trees}
use Rattle.declarations.specs.Applied.{references_in}
use Rattle.declarations.specs.Items.{impl_in}
use Rattle.declarations.proofs.Bounded.{all-same}
use Rattle.overlap_check.specs.Goals.{HasGoals, unknown_kinds, goal_of}
use Rattle.overlap_check.specs.Headers.{AreEqualHeaders, unknowns_for, empty_table, with_unknowns_for, left_args, right_args, goals_over}
use Rattle.type_terms.specs.declared.kinds.GenericArgs.{GenericArgs}
use Rattle.overlap_check.proofs.Headers.{impl-later, well-later, pair-goals, pair-trees, asked-are, same-entries}
use Rattle.overlap_check.proofs.Posed.{table-known, left-of-table, right-of-table}
use Rattle.overlap_check.proofs.intersection.impl_intersection.Goals as goal

pub returns-in_default-clause-apart : goal.returns-in_default-clause-apart
returns-in_default-clause-apart c = λ _. c.in_ok-unknowns.ensures.apart (ap Ok c.in_default.is)

pub instantiate_both-requires-clause-left_held : goal.instantiate_both-requires-clause-left_held
instantiate_both-requires-clause-left_held c = impl-later c.args.cx.now.entries c.equate_fresh_headers.new.cx.entries c.equate_fresh_headers.ensures.terms.grew.keeps c.args.left.now c.requires.left_held

pub instantiate_both-requires-clause-right_held : goal.instantiate_both-requires-clause-right_held
instantiate_both-requires-clause-right_held c = impl-later c.args.cx.now.entries c.equate_fresh_headers.new.cx.entries c.equate_fresh_headers.ensures.terms.grew.keeps c.args.right.now c.requires.right_held

pub instantiate_both-requires-clause-left_written : goal.instantiate_both-requires-clause-left_written
instantiate_both-requires-clause-left_written c =
    well-later c.args.cx.now.entries c.equate_fresh_headers.new.cx.entries c.equate_fresh_headers.ensures.terms.grew.keeps c.args.left.now c.requires.left_held c.requires.left_written

pub instantiate_both-requires-clause-right_written : goal.instantiate_both-requires-clause-right_written
instantiate_both-requires-clause-right_written c =
    well-later c.args.cx.now.entries c.equate_fresh_headers.new.cx.entries c.equate_fresh_headers.ensures.terms.grew.keeps c.args.right.now c.requires.right_held c.requires.right_written

pub returns-clause-found : goal.returns-clause-found
returns-clause-found c =
    let es = c.args.cx.now.entries in
    let three = c.equate_fresh_headers.new.cx.entries in
    let new = c.instantiate_both.new.cx.entries in
    let w = c.args.left.now in
    let x = c.args.right.now in
    let u = c.equate_fresh_headers.new.table in
    let h = c.in-Some.unknowns in
    let k1 = c.equate_fresh_headers.ensures.terms.grew.keeps in
    let k2 = c.instantiate_both.ensures.terms.grew.keeps in
    let equal : AreEqualHeaders es w x three u h.0 h.1 = subst (λ o. IfSome o (λ (p : GenericArgs × GenericArgs). AreEqualHeaders es w x three u p.0 p.1)) c.in-Some.is c.in_ok-unknowns.ensures.equal in
    let ls = c.in_ok-left.left.items in
    let rs = c.in_ok-left.right.items in
    let I = unknowns_for empty_table w in
    let J = unknowns_for (with_unknowns_for empty_table w) x in
    let left = asked-are es three new new k1 (same-entries new) empty_table u w c.requires.left_held h.0.0 equal.left_unknowns.are ls c.in_ok-left.ensures.left_held c.in_ok-left.ensures.left in
    let right = asked-are es three new new k1 (same-entries new) (with_unknowns_for empty_table w) u x c.requires.right_held h.1.0 equal.right_unknowns.are rs c.in_ok-left.ensures.right_held c.in_ok-left.ensures.right in
    record {
      ready = ready-later three new u k2 equal.ready;
      left_held = c.in_ok-left.ensures.left_held;
      right_held = c.in_ok-left.ensures.right_held;
      goals = λ i j.
          subst (λ l. HasGoals (erased_impl (impl_in es i w)) (erased_impl (impl_in es j x)) (unknown_kinds u) l (goals_over new u rs)) (sym left)
          (subst (λ r. HasGoals (erased_impl (impl_in es i w)) (erased_impl (impl_in es j x)) (unknown_kinds u) (map (goal_of (content new u.values) I) (references_in es w.clauses.items)) r) (sym right)
          (pair-goals es c.lawful.ensures w x c.requires.left_held c.requires.right_held c.requires.left_written c.requires.right_written three u h.0 h.1 equal new k2 i j));
    }

pub returns-clause-posed : goal.returns-clause-posed
returns-clause-posed c = λ vw vx.
    let es = c.args.cx.now.entries in
    let three = c.equate_fresh_headers.new.cx.entries in
    let new = c.instantiate_both.new.cx.entries in
    let w = c.args.left.now in
    let x = c.args.right.now in
    let u = c.equate_fresh_headers.new.table in
    let h = c.in-Some.unknowns in
    let k1 = c.equate_fresh_headers.ensures.terms.grew.keeps in
    let k2 = c.instantiate_both.ensures.terms.grew.keeps in
    let equal : AreEqualHeaders es w x three u h.0 h.1 = subst (λ o. IfSome o (λ (p : GenericArgs × GenericArgs). AreEqualHeaders es w x three u p.0 p.1)) c.in-Some.is c.in_ok-unknowns.ensures.equal in
    let I = unknowns_for empty_table w in
    let J = unknowns_for (with_unknowns_for empty_table w) x in
    let left = c.in_ok-left.ensures.left ∙ ap (λ A. all_with_args A (references_in three w.clauses.items)) equal.left_unknowns.are ∙ ap (all_with_args I) (all-same es three k1 w.clauses.items c.requires.left_held.clauses) in
    let right = c.in_ok-left.ensures.right ∙ ap (λ A. all_with_args A (references_in three x.clauses.items)) equal.right_unknowns.are ∙ ap (all_with_args J) (all-same es three k1 x.clauses.items c.requires.right_held.clauses) in
    record {
      table = table-known es w x vw vx three new c.lawful-2.ensures u h.0 h.1 equal k2;
      left = left-of-table es w x vw vx three new c.lawful-2.ensures u h.0 h.1 equal k2 c.in_ok-left.left.items left;
      right = right-of-table es w x vw vx three new c.lawful-2.ensures u h.0 h.1 equal k2 c.in_ok-left.right.items right;
    }

pub returns-clause-solved : goal.returns-clause-solved
returns-clause-solved c =
    let es = c.args.cx.now.entries in
    let three = c.equate_fresh_headers.new.cx.entries in
    let new = c.instantiate_both.new.cx.entries in
    let w = c.args.left.now in
    let x = c.args.right.now in
    let u = c.equate_fresh_headers.new.table in
    let h = c.in-Some.unknowns in
    let k1 = c.equate_fresh_headers.ensures.terms.grew.keeps in
    let k2 = c.instantiate_both.ensures.terms.grew.keeps in
    let equal : AreEqualHeaders es w x three u h.0 h.1 = subst (λ o. IfSome o (λ (p : GenericArgs × GenericArgs). AreEqualHeaders es w x three u p.0 p.1)) c.in-Some.is c.in_ok-unknowns.ensures.equal in
    let I = unknowns_for empty_table w in
    let J = unknowns_for (with_unknowns_for empty_table w) x in
    record {
      table = ap (λ t. solved_in_turn t (left_args es w) (right_args es w x)) (pair-trees w x new three) ∙ equal.exact ∙ ap Some (sym (same-trees three new k2 u u equal.ready refl refl));
      left = c.in_ok-left.ensures.left ∙ ap (λ A. all_with_args A (references_in three w.clauses.items)) equal.left_unknowns.are ∙ ap (all_with_args I) (all-same es three k1 w.clauses.items c.requires.left_held.clauses);
      right = c.in_ok-left.ensures.right ∙ ap (λ A. all_with_args A (references_in three x.clauses.items)) equal.right_unknowns.are ∙ ap (all_with_args J) (all-same es three k1 x.clauses.items c.requires.right_held.clauses);
    }
