use Rattle.std.proofs.Common.{length}
use Rattle.type_terms.specs.Promised.Proofs.{In}
use Rattle.term_folds.specs.declared.predicate.TraitRef.{TraitRef}
use Rattle.declarations.specs.Applied.{TraitRefsHeld}
use Rattle.overlap_check.specs.FixedClauses.{AppendsFixedGoals}
use Rattle.overlap_check.proofs.fixed.add_fixed_goals.Given as goal

abbrev pub invariant-clauses : goal.invariant-clauses
invariant-clauses l = record {
  held : TraitRefsHeld l.cx.entries l.rest;
  listed : (k : TraitRef) → In k l.rest → In k l.fn.clauses;
  found : AppendsFixedGoals l.cx.entries l.fn.clauses l.left l.right l.fn.found.items l.found.items;
}

abbrev pub decreases-clauses : goal.decreases-clauses
decreases-clauses l = length l.rest
