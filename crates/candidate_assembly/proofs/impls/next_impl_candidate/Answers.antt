use Rattle.std.proofs.Common.{◌≡◌, sym, ap, ◌∙◌, Some}
use Rattle.declarations.specs.Items.{written, impl_in}
use Rattle.candidate_model.specs.Candidates.{by_the_impl}
use Rattle.built_in_candidates.specs.Goals.{asked_of}
use Rattle.candidate_assembly.specs.Headers.{CanBeCandidate}
use Rattle.candidate_assembly.proofs.Walking.{no-next, one-next, none-of-number, one-of-number, at-number}
use Rattle.candidate_assembly.proofs.impls.next_impl_candidate.Goals as goal

pub consider_impl_candidate-requires-clause-params : goal.consider_impl_candidate-requires-clause-params
consider_impl_candidate-requires-clause-params c =
    let es = c.args.cx.now.entries in
    (at-number (CanBeCandidate es) c.in-Some.id.index c.args.declarations.now.impls c.in-Some-impl_def.def.now c.requires.impls c.in-Some-impl_def.ensures.is).params

pub consider_impl_candidate-requires-clause-speaks : goal.consider_impl_candidate-requires-clause-speaks
consider_impl_candidate-requires-clause-speaks c =
    let es = c.args.cx.now.entries in
    (at-number (CanBeCandidate es) c.in-Some.id.index c.args.declarations.now.impls c.in-Some-impl_def.def.now c.requires.impls c.in-Some-impl_def.ensures.is).speaks

pub unreachable-requires : goal.unreachable-requires
unreachable-requires c =
    let old = c.args.cx.now.entries in
    let d = c.args.declarations.now in
    let V = written old d in
    let g = c.args.goal.now in
    let a = asked_of old g in
    let found = c.in-Some.ensures.is in
    (one-next V a c.args.last (λ j. ⊥) c.in-Some.id.index V.impls (none-of-number (λ j. ⊥) c.in-Some.id.index V.impls (c.in-None-impl_def.ensures.written old)) found).1

pub returns-in_ok-candidate-in-Some-impl_def-clause-is : goal.returns-in_ok-candidate-in-Some-impl_def-clause-is
returns-in_ok-candidate-in-Some-impl_def-clause-is c =
    let old = c.args.cx.now.entries in
    let d = c.args.declarations.now in
    let V = written old d in
    let g = c.args.goal.now in
    let a = asked_of old g in
    let found = c.in-Some.ensures.is in
    let i = impl_in old c.in-Some.id c.in-Some-impl_def.def.now in
    let next = one-next V a c.args.last (λ j. j ≡ i) c.in-Some.id.index V.impls (one-of-number i c.in-Some.id.index V.impls (c.in-Some-impl_def.ensures.written old)) found in
    ap Some (c.in_ok-candidate-in-Some-impl_def.ensures.is V) ∙ ap (λ j. Some (by_the_impl V a j)) (sym next.1) ∙ sym next.2

pub returns-in-None-clause-is : goal.returns-in-None-clause-is
returns-in-None-clause-is c =
    let old = c.args.cx.now.entries in
    let d = c.args.declarations.now in
    let V = written old d in
    let g = c.args.goal.now in
    let a = asked_of old g in
    sym (no-next V a c.args.last V.impls c.in-None.ensures.is)
