use Rattle.std.proofs.Common.{◌≡◌, Some, slice_get, sym, subst}
use Rattle.type_terms.specs.Promised.Handles.{ArgHeld}
use Rattle.infer_table.specs.Content.{variables_of}
use Rattle.session_inference.proofs.Inferences.{term-there}
use Rattle.session_inference.proofs.inferring.InferenceSession.display.Goals as goal

pub text_of-requires : goal.text_of-requires
text_of-requires c =
    let i = c.self.inside in
    subst (λ es. ArgHeld es c.in_ok-term.term) (sym c.interner.ensures.terms)
    (term-there i.session.terms (variables_of i.infer.table) i.terms.items c.args.id.index c.in_ok-term.term c.self.invariant.terms
    (subst (λ ts. slice_get ts c.args.id.index ≡ Some c.in_ok-term.term) c.deref.ensures.value c.in_ok-term.ensures.there)).0
