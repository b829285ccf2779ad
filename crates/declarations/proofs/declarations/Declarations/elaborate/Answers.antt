use Rattle.std.proofs.Common.{refl, sym, ◌∙◌, subst}
use Rattle.declarations.specs.declared.elaborate.Elaborator.{Elaborator}
use Rattle.declarations.specs.Stacked.{StacksUnseen}
use Rattle.declarations.proofs.Growth.{all-held, references-kept}
use Rattle.type_terms.proofs.Grown.{grew-none, grew-on}
use Rattle.declarations.proofs.Elaborating.{Elaborates, have-bounds-later, elaborates-first, elaborates-next, elaborates-falls, elaborates-last, popped-held, popped-applied}
use Rattle.declarations.proofs.Meeting.{no-items}
use Rattle.declarations.proofs.declarations.Declarations.elaborate.Goals as goal

pub stack-init : goal.stack-init
stack-init c =
    let es = c.args.cx.now.entries in
    record {
      grew = grew-none;
      elaborates = subst (Elaborates es c.args.self.now c.args.references.now es c.extend_deduped.new.self) (sym c.new-found.ensures.items)
          (elaborates-first es c.args.self.now c.args.references.now (record { stack = c.new.result; visited = c.new-2.result }) c.extend_deduped.new.self c.requires.references c.requires.applied
          c.new.ensures.items c.new-2.ensures.empty c.in_ok-extend_deduped.ensures.extends);
    }

pub written_supertraits-requires-clause-held : goal.written_supertraits-requires-clause-held
written_supertraits-requires-clause-held c = all-held c.args.cx.now.entries c.stack.cx.entries c.stack.invariant.elaborates.keeps c.args.self.now c.requires.held

pub written_supertraits-requires-clause-bounds : goal.written_supertraits-requires-clause-bounds
written_supertraits-requires-clause-bounds c = have-bounds-later c.args.cx.now.entries c.stack.cx.entries c.stack.invariant.elaborates.keeps c.args.self.now c.requires.held c.requires.bounds

pub written_supertraits-requires-clause-reference : goal.written_supertraits-requires-clause-reference
written_supertraits-requires-clause-reference c =
    popped-held c.args.cx.now.entries c.args.self.now c.args.references.now c.stack.cx.entries c.stack.elaborator c.stack.found.items c.pop.new.self.items c.in-Some.next c.stack.invariant.elaborates c.in-Some.ensures.items

pub written_supertraits-requires-clause-applied : goal.written_supertraits-requires-clause-applied
written_supertraits-requires-clause-applied c =
    popped-applied c.args.cx.now.entries c.args.self.now c.args.references.now c.stack.cx.entries c.stack.elaborator c.stack.found.items c.pop.new.self.items c.in-Some.next c.stack.invariant.elaborates c.in-Some.ensures.items

pub extend_deduped-requires-in-Some-clause-visited : goal.extend_deduped-requires-in-Some-clause-visited
extend_deduped-requires-in-Some-clause-visited c = references-kept c.stack.cx.entries c.written_supertraits.new.cx.entries c.written_supertraits.ensures.terms.grew.keeps c.stack.elaborator.visited.keys c.stack.invariant.elaborates.visited_held

pub stack-smaller : goal.stack-smaller
stack-smaller c =
    let es0 = c.args.cx.now.entries in
    let es1 = c.stack.cx.entries in
    let es2 = c.written_supertraits.new.cx.entries in
    let d = c.args.self.now in
    let mid : Elaborator = record { stack = c.pop.new.self; visited = c.stack.elaborator.visited } in
    let ws = c.in_ok-supertraits.supertraits.items in
    let x = subst (λ l. StacksUnseen es2 l mid c.extend_deduped-in-Some.new.self) c.deref.ensures.value c.in_ok-extend_deduped-2.ensures.extends in
    elaborates-falls es0 d c.args.references.now c.requires.bounds c.requires.held es1 es2 c.stack.elaborator mid c.extend_deduped-in-Some.new.self c.in-Some.next c.stack.found.items ws c.stack.invariant.elaborates
    c.in-Some.ensures.items refl c.written_supertraits.ensures.terms.grew.keeps c.in_ok-supertraits.ensures.held c.in_ok-supertraits.ensures.applied c.in_ok-supertraits.ensures.are x

pub stack-preserved : goal.stack-preserved
stack-preserved c =
    let es0 = c.args.cx.now.entries in
    let es1 = c.stack.cx.entries in
    let es2 = c.written_supertraits.new.cx.entries in
    let d = c.args.self.now in
    let mid : Elaborator = record { stack = c.pop.new.self; visited = c.stack.elaborator.visited } in
    let ws = c.in_ok-supertraits.supertraits.items in
    let x = subst (λ l. StacksUnseen es2 l mid c.extend_deduped-in-Some.new.self) c.deref.ensures.value c.in_ok-extend_deduped-2.ensures.extends in
    record {
      grew = grew-on c.stack.invariant.grew c.written_supertraits.ensures.terms.grew;
      elaborates = subst (Elaborates es0 d c.args.references.now es2 c.extend_deduped-in-Some.new.self) (sym c.in_ok-put.ensures.put)
          (elaborates-next es0 d c.args.references.now c.requires.bounds c.requires.held es1 es2 c.stack.elaborator mid c.extend_deduped-in-Some.new.self c.in-Some.next c.stack.found.items ws c.stack.invariant.elaborates
          c.in-Some.ensures.items refl c.written_supertraits.ensures.terms.grew.keeps c.in_ok-supertraits.ensures.held c.in_ok-supertraits.ensures.applied c.in_ok-supertraits.ensures.are x);
    }

pub returns-clause-are : goal.returns-clause-are
returns-clause-are c =
    elaborates-last c.args.cx.now.entries c.args.self.now c.args.references.now c.stack.cx.entries c.stack.elaborator c.stack.found.items c.stack.invariant.elaborates
    (no-items c.stack.elaborator.stack.items (sym c.stack.elaborator.stack.ok.0 ∙ c.in_default.ensures.cases.0))
