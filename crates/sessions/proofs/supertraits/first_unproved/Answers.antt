use Rattle.std.proofs.Common.{◌+◌, ap, ◌∙◌, sym, subst}
use Rattle.declarations.specs.Applied.{TraitRefsHeld, references_in}
use Rattle.declarations.specs.Held.{ReferenceHeld}
use Rattle.declarations.specs.Items.{reference_in}
use Rattle.declarations.proofs.Bounded.{all-same}
use Rattle.declarations.proofs.Growth.{reference-kept, reference-same, references-kept}
use Rattle.candidate_assembly.specs.Fitting.{solving_of}
use Rattle.sessions.specs.Sessions.{SolverRests}
use Rattle.sessions.specs.Supertraits.{IsFirstTold, SolverTells}
use Rattle.solver_graph.specs.declared.settling.Outcome.TheVariants.{Proved, Unproved, Maybe}
use Rattle.sessions.proofs.HeaderChecks.{first-told, more-told, told-of}
use Rattle.pair_checks.proofs.Lists.{each-here}
use Rattle.solver_graph.proofs.Growing.{limits-further}
use Rattle.sessions.proofs.supertraits.first_unproved.Goals as goal

pub ask_under-requires-clause-clauses : goal.ask_under-requires-clause-clauses
ask_under-requires-clause-clauses c =
    let old = c.args.search.now.cx.interner.entries in
    let now = c.loop-supertrait.search.cx.interner.entries in
    subst (TraitRefsHeld now) (sym c.deref.ensures.value) (references-kept old now c.loop-supertrait.invariant.keeps c.args.goals.now.clauses.items c.requires.clauses)

pub ask_under-requires-clause-asked : goal.ask_under-requires-clause-asked
ask_under-requires-clause-asked c =
    let old = c.args.search.now.cx.interner.entries in
    let now = c.loop-supertrait.search.cx.interner.entries in
    let item = c.supertrait-item.result in
    let xs = c.deref-supertrait-items.result.now in
    reference-kept old now c.loop-supertrait.invariant.keeps item
    (each-here xs c.loop-supertrait.supertrait-index item c.supertrait-item.is c.loop-supertrait-test.true (ReferenceHeld old) (subst (TraitRefsHeld old) (sym c.deref-supertrait-items.ensures.value) c.requires.supertraits))

pub returns-in-Unproved-clause-told : goal.returns-in-Unproved-clause-told
returns-in-Unproved-clause-told c =
    let old = c.args.search.now.cx.interner.entries in
    let now = c.loop-supertrait.search.cx.interner.entries in
    let inv = c.loop-supertrait.invariant in
    let item = c.supertrait-item.result in
    let xs = c.deref-supertrait-items.result.now in
    let s = solving_of old c.args.search.now.cx.handler.declarations in
    let depth = c.args.search.now.graph.root_depth in
    let F = references_in old c.args.goals.now.clauses.items in
    let held = each-here xs c.loop-supertrait.supertrait-index item c.supertrait-item.is c.loop-supertrait-test.true (ReferenceHeld old)
    (subst (TraitRefsHeld old) (sym c.deref-supertrait-items.ensures.value) c.requires.supertraits) in
    let told = told-of (solving_of now c.loop-supertrait.search.cx.handler.declarations) s c.loop-supertrait.search.graph.root_depth depth (references_in now c.deref.result.now) F (reference_in now item) (reference_in old item) Unproved inv.solving inv.rest.depth
    (ap (references_in now) c.deref.ensures.value ∙ all-same old now inv.keeps c.args.goals.now.clauses.items c.requires.clauses) (reference-same old now inv.keeps item held)
    (subst (SolverTells (solving_of now c.loop-supertrait.search.cx.handler.declarations) c.loop-supertrait.search.graph.root_depth (references_in now c.deref.result.now) (reference_in now item)) c.in-Unproved.is c.in_ok-ask_under.ensures.told) in
    subst (λ ys. IsFirstTold s depth F (references_in old ys) c.in_ok-place.place Unproved) c.deref-supertrait-items.ensures.value
    (first-told s depth F old xs c.loop-supertrait.supertrait-index item c.supertrait-item.is c.loop-supertrait-test.true c.in_ok-place.place (c.in_ok-place.ensures.next ∙ ap (λ n. n + 1) inv.place) Unproved inv.told told)

pub returns-in-Maybe-clause-told : goal.returns-in-Maybe-clause-told
returns-in-Maybe-clause-told c =
    let old = c.args.search.now.cx.interner.entries in
    let now = c.loop-supertrait.search.cx.interner.entries in
    let inv = c.loop-supertrait.invariant in
    let item = c.supertrait-item.result in
    let xs = c.deref-supertrait-items.result.now in
    let s = solving_of old c.args.search.now.cx.handler.declarations in
    let depth = c.args.search.now.graph.root_depth in
    let F = references_in old c.args.goals.now.clauses.items in
    let held = each-here xs c.loop-supertrait.supertrait-index item c.supertrait-item.is c.loop-supertrait-test.true (ReferenceHeld old)
    (subst (TraitRefsHeld old) (sym c.deref-supertrait-items.ensures.value) c.requires.supertraits) in
    let told = told-of (solving_of now c.loop-supertrait.search.cx.handler.declarations) s c.loop-supertrait.search.graph.root_depth depth (references_in now c.deref.result.now) F (reference_in now item) (reference_in old item) Maybe inv.solving inv.rest.depth
    (ap (references_in now) c.deref.ensures.value ∙ all-same old now inv.keeps c.args.goals.now.clauses.items c.requires.clauses) (reference-same old now inv.keeps item held)
    (subst (SolverTells (solving_of now c.loop-supertrait.search.cx.handler.declarations) c.loop-supertrait.search.graph.root_depth (references_in now c.deref.result.now) (reference_in now item)) c.in-Maybe.is c.in_ok-ask_under.ensures.told) in
    subst (λ ys. IsFirstTold s depth F (references_in old ys) c.in_ok-place.place Maybe) c.deref-supertrait-items.ensures.value
    (first-told s depth F old xs c.loop-supertrait.supertrait-index item c.supertrait-item.is c.loop-supertrait-test.true c.in_ok-place.place (c.in_ok-place.ensures.next ∙ ap (λ n. n + 1) inv.place) Maybe inv.told told)

pub loop-supertrait-preserved : goal.loop-supertrait-preserved
loop-supertrait-preserved c =
    let old = c.args.search.now.cx.interner.entries in
    let now = c.loop-supertrait.search.cx.interner.entries in
    let inv = c.loop-supertrait.invariant in
    let item = c.supertrait-item.result in
    let xs = c.deref-supertrait-items.result.now in
    let s = solving_of old c.args.search.now.cx.handler.declarations in
    let depth = c.args.search.now.graph.root_depth in
    let F = references_in old c.args.goals.now.clauses.items in
    let held = each-here xs c.loop-supertrait.supertrait-index item c.supertrait-item.is c.loop-supertrait-test.true (ReferenceHeld old)
    (subst (TraitRefsHeld old) (sym c.deref-supertrait-items.ensures.value) c.requires.supertraits) in
    let told = told-of (solving_of now c.loop-supertrait.search.cx.handler.declarations) s c.loop-supertrait.search.graph.root_depth depth (references_in now c.deref.result.now) F (reference_in now item) (reference_in old item) Proved inv.solving inv.rest.depth
    (ap (references_in now) c.deref.ensures.value ∙ all-same old now inv.keeps c.args.goals.now.clauses.items c.requires.clauses) (reference-same old now inv.keeps item held)
    (subst (SolverTells (solving_of now c.loop-supertrait.search.cx.handler.declarations) c.loop-supertrait.search.graph.root_depth (references_in now c.deref.result.now) (reference_in now item)) c.in-Proved.is c.in_ok-ask_under.ensures.told) in
    record {
      rest = subst (λ n. SolverRests n c.ask_under.new.search.cx c.ask_under.new.search.graph c.ask_under.new.search.cache) inv.rest.depth c.ask_under.ensures.rest;
      solving = c.ask_under.ensures.solving ∙ inv.solving;
      keeps = λ i e h. c.ask_under.ensures.keeps i e (inv.keeps i e h);
      limits = limits-further c.args.search.now.cx c.loop-supertrait.search.cx c.ask_under.new.search.cx inv.limits c.ask_under.ensures.limits;
      place = c.in_ok-place.ensures.next ∙ ap (λ n. n + 1) inv.place;
      told = more-told s depth F old xs c.loop-supertrait.supertrait-index item c.supertrait-item.is c.loop-supertrait-test.true inv.told told;
    }
