use Rattle.std.proofs.Common.{rules, ◌∙◌, sym, subst}
use Rattle.type_terms.specs.Terms.{args_lists}
use Rattle.type_terms.specs.Kept.{has-later}
use Rattle.infer_table.specs.Content.{Ready}
use Rattle.infer_table.specs.Kept.{ready-later}
use Rattle.declarations.specs.Held.{ReferenceHeld}
use Rattle.search_graph.proofs.Graphs.{Keeps-trans}
use Rattle.solver_graph.specs.Searching.{solver_meaning}
use Rattle.pair_checks.specs.Impossible.{SearchLeavesOpen}
use Rattle.pair_checks.proofs.ImpossibleAlone.{open-before, impossible-before}
use Rattle.pair_checks.proofs.Lists.{each-here, in-here, each-more}
use Rattle.pair_checks.proofs.obligations.some_is_impossible.Goals as goal

pub is_impossible-requires-clause-table : goal.is_impossible-requires-clause-table
is_impossible-requires-clause-table g c =
    subst (Ready c.references.search.cx.interner.entries) (sym c.references.invariant.same)
    (ready-later c.args.search.now.cx.interner.entries c.references.search.cx.interner.entries c.args.table.now c.references.invariant.entries c.requires.table)

pub is_impossible-requires-clause-held : goal.is_impossible-requires-clause-held
is_impossible-requires-clause-held g c =
    has-later c.args.search.now.cx.interner.entries c.references.search.cx.interner.entries c.references.invariant.entries args_lists c.trait_ref-item.result.args.0
    (each-here c.args.references.now c.references.trait_ref-index c.trait_ref-item.result c.trait_ref-item.is c.references-test.true (ReferenceHeld c.args.search.now.cx.interner.entries) c.requires.held)

pub returns-in_err-is_impossible-clause-consistent : goal.returns-in_err-is_impossible-clause-consistent
returns-in_err-is_impossible-clause-consistent g c = λ h. c.is_impossible.ensures.consistent (c.references.invariant.consistent h)

pub returns-in_err-is_impossible-clause-keeps : goal.returns-in_err-is_impossible-clause-keeps
returns-in_err-is_impossible-clause-keeps g c =
    Keeps-trans (solver_meaning g.H.GoalHandler.meaning) c.args.search.now.cx c.references.search.cx c.is_impossible.new.search.cx c.references.invariant.keeps c.is_impossible.ensures.keeps

pub returns-then-branch-clause-consistent : goal.returns-then-branch-clause-consistent
returns-then-branch-clause-consistent g c = λ h. c.is_impossible.ensures.consistent (c.references.invariant.consistent h)

pub returns-then-branch-clause-keeps : goal.returns-then-branch-clause-keeps
returns-then-branch-clause-keeps g c =
    Keeps-trans (solver_meaning g.H.GoalHandler.meaning) c.args.search.now.cx c.references.search.cx c.is_impossible.new.search.cx c.references.invariant.keeps c.is_impossible.ensures.keeps

pub returns-then-branch-clause-impossible : goal.returns-then-branch-clause-impossible
returns-then-branch-clause-impossible g c = λ _.
    let item = c.trait_ref-item.result in
    let held = each-here c.args.references.now c.references.trait_ref-index item c.trait_ref-item.is c.references-test.true (ReferenceHeld c.args.search.now.cx.interner.entries) c.requires.held in (
      item,
      in-here c.args.references.now c.references.trait_ref-index item c.trait_ref-item.is c.references-test.true,
      impossible-before g.H.GoalHandler.meaning c.args.search.now.cx c.references.search.cx c.references.invariant.keeps c.args.search.now.graph c.references.search.graph c.references.invariant.depth c.args.table.now c.references.table c.references.invariant.same c.requires.table item held
          (c.in_ok-is_impossible.ensures.impossible (search rules)),
    )

pub references-preserved : goal.references-preserved
references-preserved g c =
    let item = c.trait_ref-item.result in
    let held = each-here c.args.references.now c.references.trait_ref-index item c.trait_ref-item.is c.references-test.true (ReferenceHeld c.args.search.now.cx.interner.entries) c.requires.held in
    record {
      empty = c.is_impossible.ensures.empty;
      depth = c.is_impossible.ensures.depth ∙ c.references.invariant.depth;
      cache = c.is_impossible.ensures.cache;
      consistent = λ h. c.is_impossible.ensures.consistent (c.references.invariant.consistent h);
      results = λ place x h. c.is_impossible.ensures.results place x (c.references.invariant.results place x h);
      ready = c.is_impossible.ensures.ready;
      keeps = Keeps-trans (solver_meaning g.H.GoalHandler.meaning) c.args.search.now.cx c.references.search.cx c.is_impossible.new.search.cx c.references.invariant.keeps c.is_impossible.ensures.keeps;
      entries = λ i e h. c.is_impossible.ensures.entries i e (c.references.invariant.entries i e h);
      same = c.is_impossible.ensures.same ∙ c.references.invariant.same;
      left_open = each-more c.args.references.now c.references.trait_ref-index item c.trait_ref-item.is c.references-test.true
          (SearchLeavesOpen g.H.GoalHandler.meaning c.args.search.now.cx c.args.search.now.graph c.args.table.now) c.references.invariant.left_open
          (open-before g.H.GoalHandler.meaning c.args.search.now.cx c.references.search.cx c.references.invariant.keeps c.args.search.now.graph c.references.search.graph c.references.invariant.depth c.args.table.now c.references.table c.references.invariant.same c.requires.table item held
          (c.in_ok-is_impossible.ensures.left_open (search rules)));
    }
