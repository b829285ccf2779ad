use Rattle.std.proofs.Common.{rules, sym, subst, Result, Ok, Err}
use Rattle.std.specs.Prelude.{IfOk}
use Rattle.infer_table.specs.Content.{Ready}
use Rattle.infer_table.specs.Kept.{ready-later}
use Rattle.declarations.specs.Held.{ReferenceHeld}
use Rattle.declarations.specs.Promised.Elaboration.{Each}
use Rattle.declarations.proofs.Growth.{references-kept}
use Rattle.search_graph.proofs.Graphs.{Keeps-trans}
use Rattle.solver_graph.specs.Searching.{solver_meaning}
use Rattle.pair_checks.specs.Impossible.{IsImpossible, SearchLeavesOpen}
use Rattle.pair_checks.proofs.ImpossibleAlone.{open-before, impossible-before}
use Rattle.pair_checks.proofs.Lists.{each-then, in-list, of-first, of-second}
use Rattle.pair_checks.proofs.obligations.has_impossible_obligation.Goals as goal

ok-then : {T E : Type 0} (P Q : T → Type 0) (r : Result T E) → ((x : T) → P x → Q x) → IfOk r P → IfOk r Q
ok-then P Q (Ok x) f h = f x h
ok-then P Q (Err e) f h = h

pub returns-then-branch-clause-impossible : goal.returns-then-branch-clause-impossible
returns-then-branch-clause-impossible g c = λ _.
    of-first (IsImpossible g.H.GoalHandler.meaning c.args.search.now.cx c.args.found.now.table) c.deref.result.now c.args.found.now.left.items c.args.found.now.right.items c.deref.ensures.value
    (c.in_ok-some_is_impossible.ensures.impossible (search rules))

pub some_is_impossible-requires-2-clause-table : goal.some_is_impossible-requires-2-clause-table
some_is_impossible-requires-2-clause-table g c =
    subst (Ready c.some_is_impossible.new.search.cx.interner.entries) (sym c.some_is_impossible.ensures.same)
    (ready-later c.args.search.now.cx.interner.entries c.some_is_impossible.new.search.cx.interner.entries c.args.found.now.table c.some_is_impossible.ensures.entries c.requires.table)

pub some_is_impossible-requires-2-clause-held : goal.some_is_impossible-requires-2-clause-held
some_is_impossible-requires-2-clause-held g c =
    subst (Each (ReferenceHeld c.some_is_impossible.new.search.cx.interner.entries)) (sym c.deref-2.ensures.value)
    (references-kept c.args.search.now.cx.interner.entries c.some_is_impossible.new.search.cx.interner.entries c.some_is_impossible.ensures.entries c.args.found.now.right.items c.requires.right)

pub returns-clause-consistent : goal.returns-clause-consistent
returns-clause-consistent g c = λ h. c.some_is_impossible-2.ensures.consistent (c.some_is_impossible.ensures.consistent h)

pub returns-clause-keeps : goal.returns-clause-keeps
returns-clause-keeps g c =
    Keeps-trans (solver_meaning g.H.GoalHandler.meaning) c.args.search.now.cx c.some_is_impossible.new.search.cx c.some_is_impossible-2.new.search.cx c.some_is_impossible.ensures.keeps c.some_is_impossible-2.ensures.keeps

pub returns-clause-impossible : goal.returns-clause-impossible
returns-clause-impossible g c =
    ok-then _ _ c.some_is_impossible-2.result (λ b f i. of-second (IsImpossible g.H.GoalHandler.meaning c.some_is_impossible.new.search.cx c.some_is_impossible.new.table)
    (IsImpossible g.H.GoalHandler.meaning c.args.search.now.cx c.args.found.now.table) c.deref-2.result.now c.args.found.now.right.items c.args.found.now.left.items c.deref-2.ensures.value
    (λ r at. impossible-before g.H.GoalHandler.meaning c.args.search.now.cx c.some_is_impossible.new.search.cx c.some_is_impossible.ensures.keeps c.args.search.now.graph c.some_is_impossible.new.search.graph c.some_is_impossible.ensures.depth c.args.found.now.table c.some_is_impossible.new.table c.some_is_impossible.ensures.same c.requires.table r (in-list (ReferenceHeld c.args.search.now.cx.interner.entries) c.args.found.now.right.items r c.requires.right at)) (f i))
    c.some_is_impossible-2.ensures.impossible

pub returns-clause-left_open : goal.returns-clause-left_open
returns-clause-left_open g c =
    let first = subst (Each (SearchLeavesOpen g.H.GoalHandler.meaning c.args.search.now.cx c.args.search.now.graph c.args.found.now.table)) c.deref.ensures.value (c.in_ok-some_is_impossible.ensures.left_open (search rules)) in
    ok-then _ _ c.some_is_impossible-2.result (λ b f q. (
      first,
      each-then (ReferenceHeld c.args.search.now.cx.interner.entries) (SearchLeavesOpen g.H.GoalHandler.meaning c.some_is_impossible.new.search.cx c.some_is_impossible.new.search.graph c.some_is_impossible.new.table)
          (SearchLeavesOpen g.H.GoalHandler.meaning c.args.search.now.cx c.args.search.now.graph c.args.found.now.table) (λ r h x. open-before g.H.GoalHandler.meaning c.args.search.now.cx c.some_is_impossible.new.search.cx c.some_is_impossible.ensures.keeps c.args.search.now.graph c.some_is_impossible.new.search.graph c.some_is_impossible.ensures.depth c.args.found.now.table c.some_is_impossible.new.table c.some_is_impossible.ensures.same c.requires.table r h x) c.args.found.now.right.items c.requires.right
          (subst (Each (SearchLeavesOpen g.H.GoalHandler.meaning c.some_is_impossible.new.search.cx c.some_is_impossible.new.search.graph c.some_is_impossible.new.table)) c.deref-2.ensures.value (f q)),
    ))
    c.some_is_impossible-2.ensures.left_open
