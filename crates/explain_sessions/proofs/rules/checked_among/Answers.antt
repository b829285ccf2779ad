use Rattle.std.proofs.Common.{sym, subst}
use Rattle.sessions.proofs.TypeTerms.Grown.{grew-on}
use Rattle.sessions.specs.Declarations.Items.{declared}
use Rattle.sessions.specs.Declarations.Promised.Elaboration.{Each}
use Rattle.sessions.specs.CandidateAssembly.Kept.{ready-kept}
use Rattle.explain_traces.proofs.Walks.{references-later}
use Rattle.sessions.specs.InferTable.Kept.{ready-later}
use Rattle.explain_sessions.specs.Rules.{IsRuleAt, MayApplyAt}
use Rattle.explain_sessions.proofs.RuleCandidates.{put-if, at-before, may-before}
use Rattle.explain_sessions.proofs.rules.checked_among.Goals as goal

pub is_rule_at-requires-clause-ready : goal.is_rule_at-requires-clause-ready
is_rule_at-requires-clause-ready c = ready-kept c.args.declarations.now c.args.cx.now.entries c.loop-at.cx.entries c.loop-at.invariant.grew.keeps c.requires.ready

pub is_rule_at-requires-clause-walked : goal.is_rule_at-requires-clause-walked
is_rule_at-requires-clause-walked c = references-later c.args.cx.now.entries c.loop-at.cx.entries c.loop-at.invariant.grew.keeps c.args.walk.now.references.items c.requires.walked

pub may_apply_at-requires-clause-ready : goal.may_apply_at-requires-clause-ready
may_apply_at-requires-clause-ready c =
    let g = grew-on c.loop-at.invariant.grew c.is_rule_at.ensures.grew in
    ready-kept c.args.declarations.now c.args.cx.now.entries c.is_rule_at.new.cx.entries g.keeps c.requires.ready

pub may_apply_at-requires-clause-walked : goal.may_apply_at-requires-clause-walked
may_apply_at-requires-clause-walked c =
    let g = grew-on c.loop-at.invariant.grew c.is_rule_at.ensures.grew in
    references-later c.args.cx.now.entries c.is_rule_at.new.cx.entries g.keeps c.args.walk.now.references.items c.requires.walked

pub loop-at-preserved : goal.loop-at-preserved
loop-at-preserved c =
    let es = c.args.cx.now.entries in
    let first = c.loop-at.cx.entries in
    let second = c.is_rule_at.new.cx.entries in
    let inv = c.loop-at.invariant in
    let d = c.args.declarations.now in
    let w = c.args.walk.now in
    let W = declared es d in
    let g = grew-on inv.grew c.is_rule_at.ensures.grew in
    record {
      grew = grew-on g c.may_apply_at.ensures.grew;
      table = ready-later second c.may_apply_at.new.cx.entries c.is_rule_at.new.table c.may_apply_at.ensures.grew.keeps c.is_rule_at.ensures.table;
      rules =
          subst (Each (IsRuleAt es W w)) (sym c.in_ok-push_if.ensures)
          (put-if (IsRuleAt es W w) c.loop-at.rules.items _ c.in_ok-is_rule.is_rule inv.rules
          (λ q. at-before es first inv.grew.keeps (declared first d) W (c.declarations_are_kept.ensures.declares es first d inv.grew.keeps c.requires.ready.held) w c.requires.walked _ (c.in_ok-is_rule.ensures.rule q)));
      chances =
          subst (Each (MayApplyAt es W w)) (sym c.in_ok-push_if-2.ensures)
          (put-if (MayApplyAt es W w) c.loop-at.chances.items _ c.in_ok-may_apply.may_apply inv.chances
          (λ q. may-before es second g.keeps (declared second d) W (c.declarations_are_kept.ensures.declares es second d g.keeps c.requires.ready.held) w c.requires.walked _ (c.in_ok-may_apply.ensures.may q)));
    }
