use Rattle.std.proofs.Common.{◌∙◌, sym, subst}
use Rattle.type_terms.specs.Promised.Worlds.{World, Reference}
use Rattle.type_terms.specs.Promised.Rules.{strict_supertraits, written_supertraits}
use Rattle.type_terms.specs.Promised.Proofs.{In}
use Rattle.term_folds.specs.declared.predicate.TraitRef.{TraitRef}
use Rattle.type_terms.proofs.Grown.{grew-on}
use Rattle.declarations.specs.Items.{declared}
use Rattle.declarations.specs.Promised.Elaboration.{Each}
use Rattle.declarations.proofs.Growth.{reference-kept}
use Rattle.proof_checker.specs.Steps.{term_of}
use Rattle.proof_checker.proofs.Later.{term-same}
use Rattle.proof_checker.proofs.Above.{IsAbove, first-above, next-above, above-later}
use Rattle.proof_checker.proofs.Results.{not-ok, never, memory-at-limit}
use Rattle.type_terms.proofs.FailFacts.{at-limit}
use borrow.Author.Count.{falls}
use Rattle.proof_checker.proofs.supertraits.is_supertrait_of.Goals as goal
use Rattle.declarations.proofs.Basics.{each-append, each-end, each-front}

pub looked-init : goal.looked-init
looked-init c =
    let es = c.args.cx.now.entries in
    let fs = c.written_supertraits.new.cx.entries in
    record {
      grew = c.written_supertraits.ensures.terms.grew;
      above = first-above es c.args.declarations.now c.requires.bounds (term_of es c.args.below) fs c.in_ok-waiting.waiting.items c.in_ok-waiting.ensures.held c.in_ok-waiting.ensures.are;
    }

pub are_one-requires-clause-one : goal.are_one-requires-clause-one
are_one-requires-clause-one c =
    let es = c.args.cx.now.entries in
    let P = IsAbove (declared es c.args.declarations.now) (term_of es c.args.below) c.looked.cx.entries in
    (each-end P c.pop.new.self.items c.in-Some.next (subst (Each P) c.in-Some.ensures.items c.looked.invariant.above)).0

pub returns-then-branch-clause-above : goal.returns-then-branch-clause-above
returns-then-branch-clause-above c = λ _.
    let es = c.args.cx.now.entries in
    let now = c.looked.cx.entries in
    let W = declared es c.args.declarations.now in
    let r = term_of es c.args.below in
    let P = IsAbove W r now in
    let stands = each-end P c.pop.new.self.items c.in-Some.next (subst (Each P) c.in-Some.ensures.items c.looked.invariant.above) in
    subst (λ t. In t (strict_supertraits W r)) (c.in_ok-are_one-in-Some.ensures.one c.if-branch.true ∙ term-same es now c.looked.invariant.grew.keeps c.args.reference c.requires.reference) stands.1

pub written_supertraits-requires-in-Some-clause-declared : goal.written_supertraits-requires-in-Some-clause-declared
written_supertraits-requires-in-Some-clause-declared c =
    c.declarations_are_kept.ensures.held c.args.cx.now.entries c.are_one.new.cx.entries c.args.declarations.now (λ i e h. c.are_one.ensures.terms.grew.keeps i e (c.looked.invariant.grew.keeps i e h)) c.requires.declared

pub written_supertraits-requires-in-Some-clause-reference : goal.written_supertraits-requires-in-Some-clause-reference
written_supertraits-requires-in-Some-clause-reference c =
    let es = c.args.cx.now.entries in
    let now = c.looked.cx.entries in
    let P = IsAbove (declared es c.args.declarations.now) (term_of es c.args.below) now in
    let stands = each-end P c.pop.new.self.items c.in-Some.next (subst (Each P) c.in-Some.ensures.items c.looked.invariant.above) in
    reference-kept now c.are_one.new.cx.entries c.are_one.ensures.terms.grew.keeps c.in-Some.next stands.0

pub looked-preserved : goal.looked-preserved
looked-preserved c =
    let es = c.args.cx.now.entries in
    let now = c.looked.cx.entries in
    let mid = c.are_one.new.cx.entries in
    let fs = c.written_supertraits-in-Some.new.cx.entries in
    let d = c.args.declarations.now in
    let W = declared es d in
    let r = term_of es c.args.below in
    let next = c.in-Some.next in
    let all = subst (Each (IsAbove W r now)) c.in-Some.ensures.items c.looked.invariant.above in
    let rest = each-front (IsAbove W r now) c.pop.new.self.items next all in
    let stands = each-end (IsAbove W r now) c.pop.new.self.items next all in
    let k1 = c.are_one.ensures.terms.grew.keeps in
    let k2 = c.written_supertraits-in-Some.ensures.terms.grew.keeps in
    let found = c.in_ok-above-in-Some.above.items in
    let same = term-same now mid k1 next stands.0 in
    let before = c.declarations_are_kept.ensures.declares es mid d (λ i e h. k1 i e (c.looked.invariant.grew.keeps i e h)) c.requires.declared in
    let are = subst (λ (V : World). Each (λ (s : TraitRef). In (term_of fs s) (written_supertraits V (term_of now next))) found) before
    (subst (λ (x : Reference). Each (λ (s : TraitRef). In (term_of fs s) (written_supertraits (declared mid d) x)) found) same c.in_ok-above-in-Some.ensures.are) in
    record {
      grew = grew-on (grew-on c.looked.invariant.grew c.are_one.ensures.terms.grew) c.written_supertraits-in-Some.ensures.terms.grew;
      above = subst (Each (IsAbove W r fs)) (sym c.in_ok-put_all-in-Some.ensures.put)
          (each-append (IsAbove W r fs) c.pop.new.self.items c.deref.result.now (above-later W r now fs (λ i e h. k2 i e (k1 i e h)) c.pop.new.self.items rest)
          (subst (Each (IsAbove W r fs)) (sym c.deref.ensures.value) (next-above es d c.requires.bounds r (term_of now next) stands.1 fs found c.in_ok-above-in-Some.ensures.held are)));
    }

pub returns-in_err-waiting-clause-terms : goal.returns-in_err-waiting-clause-terms
returns-in_err-waiting-clause-terms c = record {
  grew = c.written_supertraits.ensures.terms.grew;
  full = at-limit c.from_residual.result c.from_residual.ensures.1 c.in_err-waiting.ensures.terms.full;
}

pub returns-in_err-waiting-clause-above : goal.returns-in_err-waiting-clause-above
returns-in_err-waiting-clause-above c = not-ok _ _ c.from_residual.result c.from_residual.ensures.1

pub are_one-requires-clause-other : goal.are_one-requires-clause-other
are_one-requires-clause-other c = reference-kept c.args.cx.now.entries c.looked.cx.entries c.looked.invariant.grew.keeps c.args.reference c.requires.reference

pub returns-in_err-are_one-in-Some-clause-terms : goal.returns-in_err-are_one-in-Some-clause-terms
returns-in_err-are_one-in-Some-clause-terms c = record {
  grew = grew-on c.looked.invariant.grew c.are_one.ensures.terms.grew;
  full =
      at-limit c.from_residual-in_err-are_one-in-Some.result c.from_residual-in_err-are_one-in-Some.ensures.1 c.in_err-are_one-in-Some.ensures.terms.full;
}

pub returns-in_err-are_one-in-Some-clause-above : goal.returns-in_err-are_one-in-Some-clause-above
returns-in_err-are_one-in-Some-clause-above c = not-ok _ _ c.from_residual-in_err-are_one-in-Some.result c.from_residual-in_err-are_one-in-Some.ensures.1

pub returns-then-branch-clause-terms : goal.returns-then-branch-clause-terms
returns-then-branch-clause-terms c = record {
  grew = grew-on c.looked.invariant.grew c.are_one.ensures.terms.grew;
  full = tt;
}

pub returns-in_err-above-in-Some-clause-terms : goal.returns-in_err-above-in-Some-clause-terms
returns-in_err-above-in-Some-clause-terms c = record {
  grew = grew-on (grew-on c.looked.invariant.grew c.are_one.ensures.terms.grew) c.written_supertraits-in-Some.ensures.terms.grew;
  full =
      at-limit c.from_residual-in_err-above-in-Some.result c.from_residual-in_err-above-in-Some.ensures.1 c.in_err-above-in-Some.ensures.terms.full;
}

pub returns-in_err-above-in-Some-clause-above : goal.returns-in_err-above-in-Some-clause-above
returns-in_err-above-in-Some-clause-above c = not-ok _ _ c.from_residual-in_err-above-in-Some.result c.from_residual-in_err-above-in-Some.ensures.1

pub returns-in_err-put_all-in-Some-clause-terms : goal.returns-in_err-put_all-in-Some-clause-terms
returns-in_err-put_all-in-Some-clause-terms c = record {
  grew = grew-on (grew-on c.looked.invariant.grew c.are_one.ensures.terms.grew) c.written_supertraits-in-Some.ensures.terms.grew;
  full = memory-at-limit _ c.from_residual-in_err-put_all-in-Some.result c.from_residual-in_err-put_all-in-Some.ensures.1 c.in_err-put_all-in-Some.ensures.memory;
}

pub returns-in_err-put_all-in-Some-clause-above : goal.returns-in_err-put_all-in-Some-clause-above
returns-in_err-put_all-in-Some-clause-above c = not-ok _ _ c.from_residual-in_err-put_all-in-Some.result c.from_residual-in_err-put_all-in-Some.ensures.1

pub looked-smaller : goal.looked-smaller
looked-smaller c = falls 1024 c.looked._looked c.looked-test.true

pub returns-in-None-clause-terms : goal.returns-in-None-clause-terms
returns-in-None-clause-terms c = record {
  grew = c.looked.invariant.grew;
  full = tt;
}

pub returns-in-None-clause-above : goal.returns-in-None-clause-above
returns-in-None-clause-above c = never

pub returns-clause-terms : goal.returns-clause-terms
returns-clause-terms c = record {
  grew = c.looked.invariant.grew;
  full = tt;
}

pub returns-clause-above : goal.returns-clause-above
returns-clause-above c = never
