use Rattle.std.proofs.Common.{refl, subst}
use Rattle.type_terms.specs.Promised.Proofs.{In}
use Rattle.term_folds.specs.declared.predicate.TraitRef.{TraitRef}
use Rattle.declarations.specs.Applied.{TraitRefsHeld}
use Rattle.type_terms.proofs.Members.{here}
use Rattle.overlap_check.specs.declared.fixed.FixedGoal.{FixedGoal}
use Rattle.overlap_check.proofs.FixedClauses.{appended-one, listed-next}
use Rattle.overlap_check.proofs.fixed.add_fixed_goals.Goals as goal

pub clauses-preserved-in_ok-push : goal.clauses-preserved-in_ok-push
clauses-preserved-in_ok-push c =
    let es = c.args.cx.now.entries in
    let inv = c.clauses.invariant in
    let all = c.args.clauses.now in
    let back = c.in-Some.ensures.cases.0 in
    let k = c.in-Some.clause.now in
    let rest = c.in-Some.others.now in
    let listed = subst (λ l. (r : TraitRef) → In r l → In r all) back inv.listed in
    let g : FixedGoal = record { def_id = k.def_id; self_ty = c.in-Some-fixed_self_ty.self_ty } in
    record {
      held = (subst (TraitRefsHeld es) back inv.held).1;
      listed = listed-next k rest all listed;
      found = appended-one es all c.args.left c.args.right c.args.found.now.items c.clauses.found.items c.push.new.self.items g c.in_ok-push.ensures.items
          (record { held = c.in-Some-fixed_self_ty.ensures.held; clause = k; listed = listed k (here k rest); trait = refl; by = c.in-Some-fixed_self_ty.ensures.fixed })
          inv.found;
    }

pub clauses-preserved : goal.clauses-preserved
clauses-preserved c =
    let inv = c.clauses.invariant in
    let back = c.in-Some.ensures.cases.0 in
    record {
      held = (subst (TraitRefsHeld c.args.cx.now.entries) back inv.held).1;
      listed = listed-next c.in-Some.clause.now c.in-Some.others.now c.args.clauses.now (subst (λ l. (r : TraitRef) → In r l → In r c.args.clauses.now) back inv.listed);
      found = inv.found;
    }
