use Rattle.std.proofs.Common.{rules, ◌≡◌, Some, None, subst, length, sym, ap, ◌∙◌}
use Rattle.std.specs.Prelude.{IfSome}
use Rattle.orphan_check.specs.Promised.Errors.{ErrorHeld}
use Rattle.text_language.specs.Promised.Declarations.{Declarations}
use Rattle.type_terms.specs.Promised.Verdicts.{KeepsOrphanRule}
use Rattle.sessions.specs.Checking.{HasOrphan, HasOverlap}
use Rattle.sessions.specs.Promised.Promises.{view_in}
use Rattle.sessions.proofs.CheckedSubjects.{stays-on, overlap-before, all-passed, numbered-still}
use Rattle.sessions.proofs.session.Session.check_crate.Goals as goal

pub first_overlap-requires : goal.first_overlap-requires
first_overlap-requires c = record {
  end = c.impl_end-end.ensures.is ∙ ap (λ (d : Declarations). length d.impls) (sym c.first_orphan.ensures.stays.declarations);
  in_range = c.impl_end-end.ensures.in_range;
  numbered = numbered-still c.args.self.now c.first_orphan.new.self c.first_orphan.ensures.stays c.impl_end-end.ensures.numbered;
}

pub returns-in-Some-clause-verdict : goal.returns-in-Some-clause-verdict
returns-in-Some-clause-verdict c =
    let e : c.in_ok-id.field-0 ≡ Some (c.in-Some.id, c.in-Some.error) = search rules in
    subst (HasOrphan c.args.self.now c.first_orphan.new.self.terms) e c.in_ok-id.ensures.first

pub returns-in-Some-clause-held : goal.returns-in-Some-clause-held
returns-in-Some-clause-held c =
    let e : c.in_ok-id.field-0 ≡ Some (c.in-Some.id, c.in-Some.error) = search rules in
    subst (λ o. IfSome o (λ x. ErrorHeld c.first_orphan.new.self.terms x.1)) e c.in_ok-id.ensures.held

pub returns-in_err-later-clause-stays : goal.returns-in_err-later-clause-stays
returns-in_err-later-clause-stays c = stays-on c.args.self.now c.first_orphan.new.self c.first_overlap.new.self c.first_orphan.ensures.stays c.first_overlap.ensures.stays

pub returns-in-Some-2-clause-verdict : goal.returns-in-Some-2-clause-verdict
returns-in-Some-2-clause-verdict c =
    let s = c.args.self.now in
    let none : c.in_ok-id.field-0 ≡ None = c.in_default.is in
    let keeps : KeepsOrphanRule (view_in s.declarations s.of_crate) s.of_crate = subst (HasOrphan s c.first_orphan.new.self.terms) none c.in_ok-id.ensures.first in
    let e : c.in_ok-later.field-0 ≡ Some (c.in-Some-2.later, c.in-Some-2.earlier) = search rules in (
      keeps,
      overlap-before s c.first_orphan.new.self c.first_orphan.ensures.stays c.impl_end-end.result (Some (c.in-Some-2.later, c.in-Some-2.earlier))
          (subst (HasOverlap c.first_orphan.new.self c.impl_end-end.result) e c.in_ok-later.ensures.found),
    )

pub returns-in-Some-2-clause-stays : goal.returns-in-Some-2-clause-stays
returns-in-Some-2-clause-stays c = stays-on c.args.self.now c.first_orphan.new.self c.first_overlap.new.self c.first_orphan.ensures.stays c.first_overlap.ensures.stays

pub returns-in-None-clause-verdict : goal.returns-in-None-clause-verdict
returns-in-None-clause-verdict c =
    let s = c.args.self.now in
    let none : c.in_ok-id.field-0 ≡ None = c.in_default.is in
    let keeps : KeepsOrphanRule (view_in s.declarations s.of_crate) s.of_crate = subst (HasOrphan s c.first_orphan.new.self.terms) none c.in_ok-id.ensures.first in
    let e : c.in_ok-later.field-0 ≡ None = c.in-None.is in
    all-passed s c.impl_end-end.result c.impl_end-end.ensures.numbered c.impl_end-end.ensures.is keeps
    (overlap-before s c.first_orphan.new.self c.first_orphan.ensures.stays c.impl_end-end.result None (subst (HasOverlap c.first_orphan.new.self c.impl_end-end.result) e c.in_ok-later.ensures.found))

pub returns-in-None-clause-stays : goal.returns-in-None-clause-stays
returns-in-None-clause-stays c = stays-on c.args.self.now c.first_orphan.new.self c.first_overlap.new.self c.first_orphan.ensures.stays c.first_overlap.ensures.stays
