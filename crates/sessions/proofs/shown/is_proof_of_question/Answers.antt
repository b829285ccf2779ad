use Rattle.std.proofs.Common.{rules, ◌≡◌, ◌∙◌, List, ◌∷◌, Some, map, ap, sym, subst}
use Rattle.std.specs.List.{slice_get}
use Rattle.std.specs.Option.{option_map}
use Rattle.std.proofs.lemmas.Option.{slice_get-map}
use Rattle.type_terms.proofs.ListBasics.{two}
use Rattle.type_terms.specs.Promised.Erased.{erased_reference}
use Rattle.type_terms.specs.Kept.{args-held-later}
use Rattle.type_terms.specs.Promised.Handles.{ArgsHeld}
use Rattle.type_terms.specs.Promised.Handles.{Entry}
use Rattle.declarations.specs.Applied.{TraitRefsHeld}
use Rattle.declarations.specs.Held.{ReferenceHeld}
use Rattle.declarations.specs.Items.{reference_in}
use Rattle.proof_checker.specs.Steps.{terms_of}
use Rattle.proof_checker.proofs.Impls.{terms-map}
use Rattle.proof_checker.proofs.Later.{steps-kept}
use Rattle.proof_checker.proofs.Results.{mapped}
use Rattle.solver_graph.proofs.Growing.{further}
use Rattle.candidate_assembly.specs.Ready.{AreReadyDeclarations}
use Rattle.candidate_assembly.specs.declared.solver.Solver.{Solver}
use Rattle.text_lowering.specs.Promised.SeenWorlds.{unbound_reference}
use Rattle.text_lowering.specs.Plain.{unbound_references}
use Rattle.sessions.specs.Checking.{rules_in}
use Rattle.sessions.proofs.LaterChecks.{map-get}
use Rattle.sessions.proofs.ShownProofs.{at-number, rules-later, shown-before}
use Rattle.sessions.proofs.shown.is_proof_of_question.Goals as goal

abbrev ready : Solver → List Entry → Type 0
ready h es = AreReadyDeclarations es h.declarations

pub lower_in-requires-clause-ready : goal.lower_in-requires-clause-ready
lower_in-requires-clause-ready c = c.requires.ready

pub lower_in-requires-clause-question : goal.lower_in-requires-clause-question
lower_in-requires-clause-question c = c.requires.question

pub is_proof_under-requires-clause-ready : goal.is_proof_under-requires-clause-ready
is_proof_under-requires-clause-ready c = c.lower_in.ensures.advances.ready

pub is_proof_under-requires-clause-clauses : goal.is_proof_under-requires-clause-clauses
is_proof_under-requires-clause-clauses c =
    let cs : c.deref.result.now ≡ c.in_ok-lowered.lowered.clauses.items = search rules in
    subst (TraitRefsHeld c.lower_in.new.cx.interner.entries) (sym cs) (c.in_ok-lowered.ensures.lowered c.requires.question.0 c.requires.question.1).clauses_held

pub is_proof_under-requires-clause-asked : goal.is_proof_under-requires-clause-asked
is_proof_under-requires-clause-asked c =
    let low = c.in_ok-lowered.ensures.lowered c.requires.question.0 c.requires.question.1 in
    let l = c.in_ok-lowered.lowered in
    at-number (ReferenceHeld c.lower_in.new.cx.interner.entries) l.asked l.further.items c.args.bound c.in-Some.asked low.asked_held low.further_held (sym c.bound_at.ensures ∙ c.in-Some.is)

pub is_proof_under-requires-clause-unknowns : goal.is_proof_under-requires-clause-unknowns
is_proof_under-requires-clause-unknowns c =
    let us : c.deref-2.result.now ≡ c.in_ok-lowered.lowered.unknowns.items = search rules in
    subst (ArgsHeld c.lower_in.new.cx.interner.entries) (sym us) (c.in_ok-lowered.ensures.lowered c.requires.question.0 c.requires.question.1).unknowns_held

pub is_proof_under-requires-clause-values : goal.is_proof_under-requires-clause-values
is_proof_under-requires-clause-values c = args-held-later c.args.cx.now.interner.entries c.lower_in.new.cx.interner.entries c.lower_in.ensures.advances.entries c.args.values.now c.requires.values

pub is_proof_under-requires-clause-steps : goal.is_proof_under-requires-clause-steps
is_proof_under-requires-clause-steps c = steps-kept c.args.cx.now.interner.entries c.lower_in.new.cx.interner.entries c.lower_in.ensures.advances.entries c.args.steps.now c.requires.steps

pub returns-in_err-lowered-clause-advances : goal.returns-in_err-lowered-clause-advances
returns-in_err-lowered-clause-advances c = c.lower_in.ensures.advances

pub returns-clause-advances : goal.returns-clause-advances
returns-clause-advances c = further ready c.args.cx.now c.lower_in.new.cx c.is_proof_under.new.cx c.lower_in.ensures.advances c.is_proof_under.ensures.advances

pub returns-clause-proof : goal.returns-clause-proof
returns-clause-proof c = λ q is.
    let old = c.args.cx.now in
    let new = c.lower_in.new.cx in
    let es = old.interner.entries in
    let fs = new.interner.entries in
    let a = c.lower_in.ensures.advances in
    let l = c.in_ok-lowered.lowered in
    let low = c.in_ok-lowered.ensures.lowered q is in
    let asked = c.in-Some.asked in
    let there : slice_get (map unbound_reference (q.asked ∷ q.further)) c.args.bound ≡ Some (reference_in fs asked) =
    ap (λ rs. slice_get rs c.args.bound) (sym (two low.asked low.further)) ∙ slice_get-map (reference_in fs) (l.asked ∷ l.further.items) c.args.bound ∙ ap (option_map (reference_in fs)) (sym c.bound_at.ensures ∙ c.in-Some.is) in
    let found = map-get unbound_reference (q.asked ∷ q.further) c.args.bound (reference_in fs asked) there in
    let cs : c.deref.result.now ≡ l.clauses.items = search rules in
    mapped _ _ c.is_proof_under.result
    (λ b shown t. (
      found.0,
      found.1,
      shown-before es fs a.entries (rules_in new) (rules_in old) (terms_of fs c.deref.result.now) (map erased_reference (unbound_references q.clauses)) (reference_in fs asked) (unbound_reference found.0) c.args.steps.now c.requires.steps
          (rules-later old new c.requires.ready a) (ap (terms_of fs) cs ∙ terms-map fs l.clauses.items ∙ ap (map erased_reference) low.clauses) (sym found.2) (shown t),
    ))
    c.is_proof_under.ensures.proof
