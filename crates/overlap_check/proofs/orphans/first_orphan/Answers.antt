use Rattle.std.proofs.Common.{◌≤◌, subst, arith}
use Rattle.type_terms.proofs.Grown.{grew-on}
use Rattle.declarations.specs.Items.{declared}
use Rattle.declarations.proofs.Growth.{all-declared, all-held}
use Rattle.overlap_check.specs.Orphans.{IsErrorOf}
use Rattle.overlap_check.proofs.Judged.{kept-more, kept-first, kept-all, well-written-later}
use Rattle.overlap_check.proofs.orphans.first_orphan.Goals as goal

pub impl_error-requires-clause-held : goal.impl_error-requires-clause-held
impl_error-requires-clause-held c = all-held c.args.cx.now.entries c.loop-index.cx.entries c.loop-index.invariant.grew.keeps c.args.declarations.now c.requires.held

pub impl_error-requires-clause-written : goal.impl_error-requires-clause-written
impl_error-requires-clause-written c =
    well-written-later c.args.cx.now.entries c.loop-index.cx.entries c.loop-index.invariant.grew.keeps c.args.declarations.now c.requires.held c.requires.written

pub returns-in-Some-clause-first : goal.returns-in-Some-clause-first
returns-in-Some-clause-first c =
    let old = c.args.cx.now.entries in
    let now = c.loop-index.cx.entries in
    let new = c.impl_error.new.cx.entries in
    let d = c.args.declarations.now in
    let n = c.loop-index.index in
    kept-first (declared old d) d.local n new c.in-Some.error c.loop-index.invariant.kept
    (subst (IsErrorOf (declared old d) d.local n new) c.in-Some.is
    (subst (λ W. IsErrorOf W d.local n new c.in_ok-error.field-0) (all-declared old now c.loop-index.invariant.grew.keeps d c.requires.held) c.in_ok-error.ensures.found))

pub loop-index-preserved : goal.loop-index-preserved
loop-index-preserved c =
    let old = c.args.cx.now.entries in
    let now = c.loop-index.cx.entries in
    let new = c.impl_error.new.cx.entries in
    let d = c.args.declarations.now in
    let n = c.loop-index.index in
    let k = c.loop-index.invariant.grew.keeps in
    record {
      grew = grew-on c.loop-index.invariant.grew c.impl_error.ensures.terms.grew;
      kept = kept-more (declared old d) d.local n new c.loop-index.invariant.kept
          (subst (IsErrorOf (declared old d) d.local n new) c.in_default.is
          (subst (λ W. IsErrorOf W d.local n new c.in_ok-error.field-0) (all-declared old now k d c.requires.held) c.in_ok-error.ensures.found));
    }

pub returns-clause-first : goal.returns-clause-first
returns-clause-first c =
    let over : c.args.end ≤ c.loop-index.index = omega (arith, c.loop-index-test.false) in
    kept-all c.args.declarations.now c.args.cx.now.entries c.args.declarations.now.local c.loop-index.index c.args.end c.requires.numbered over c.loop-index.invariant.kept
