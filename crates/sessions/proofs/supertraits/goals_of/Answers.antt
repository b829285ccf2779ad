use Rattle.std.proofs.Common.{◌∙◌, ap, sym, subst}
use Rattle.type_terms.specs.Promised.Worlds.{World}
use Rattle.type_terms.proofs.Grown.{grew-on}
use Rattle.declarations.specs.Applied.{TraitRefsHeld, AreApplied, references_in}
use Rattle.declarations.specs.Promised.Elaboration.{elaborate, supertraits}
use Rattle.declarations.specs.Items.{reference_in, written}
use Rattle.declarations.proofs.Bounded.{all-same}
use Rattle.declarations.proofs.Elaborating.{have-bounds-later}
use Rattle.declarations.proofs.Growth.{all-held, all-written, references-kept}
use Rattle.type_terms.proofs.FailFacts.{at-limit}
use Rattle.sessions.proofs.OpaqueFound.{header-applies, clauses-apply}
use Rattle.sessions.proofs.supertraits.goals_of.Goals as goal

pub supertraits-requires-clause-held : goal.supertraits-requires-clause-held
supertraits-requires-clause-held c = all-held c.args.cx.now.entries c.opaque_impl.new.cx.entries c.opaque_impl.ensures.terms.grew.keeps c.args.declarations.now c.requires.ready.held

pub supertraits-requires-clause-bounds : goal.supertraits-requires-clause-bounds
supertraits-requires-clause-bounds c =
    have-bounds-later c.args.cx.now.entries c.opaque_impl.new.cx.entries c.opaque_impl.ensures.terms.grew.keeps c.args.declarations.now c.requires.ready.held c.requires.ready.bounds

pub supertraits-requires-clause-reference : goal.supertraits-requires-clause-reference
supertraits-requires-clause-reference c = c.in_ok-opaque.ensures.is.header_held

pub supertraits-requires-clause-applied : goal.supertraits-requires-clause-applied
supertraits-requires-clause-applied c =
    let es = c.args.cx.now.entries in
    header-applies c.args.declarations.now (reference_in es c.args.def.now.header) (references_in es c.args.def.now.clauses.items) c.requires.applied c.opaque_impl.new.cx.entries c.in_ok-opaque.opaque.header
    c.in_ok-opaque.ensures.is.header

pub elaborate-requires-clause-held : goal.elaborate-requires-clause-held
elaborate-requires-clause-held c =
    all-held c.args.cx.now.entries c.supertraits.new.cx.entries (λ i e h. c.supertraits.ensures.terms.grew.keeps i e (c.opaque_impl.ensures.terms.grew.keeps i e h)) c.args.declarations.now c.requires.ready.held

pub elaborate-requires-clause-bounds : goal.elaborate-requires-clause-bounds
elaborate-requires-clause-bounds c =
    have-bounds-later c.args.cx.now.entries c.supertraits.new.cx.entries (λ i e h. c.supertraits.ensures.terms.grew.keeps i e (c.opaque_impl.ensures.terms.grew.keeps i e h)) c.args.declarations.now c.requires.ready.held c.requires.ready.bounds

pub elaborate-requires-clause-references : goal.elaborate-requires-clause-references
elaborate-requires-clause-references c =
    let two = c.supertraits.new.cx.entries in
    subst (TraitRefsHeld two) (sym c.deref.ensures.value) (references-kept c.opaque_impl.new.cx.entries two c.supertraits.ensures.terms.grew.keeps c.in_ok-opaque.opaque.clauses.items c.in_ok-opaque.ensures.is.clauses_held)

pub elaborate-requires-clause-applied : goal.elaborate-requires-clause-applied
elaborate-requires-clause-applied c =
    let es = c.args.cx.now.entries in
    let one = c.opaque_impl.new.cx.entries in
    let two = c.supertraits.new.cx.entries in
    let rs = c.in_ok-opaque.opaque.clauses.items in
    let is = c.in_ok-opaque.ensures.is in
    subst (AreApplied two c.args.declarations.now) (sym c.deref.ensures.value)
    (clauses-apply c.args.declarations.now (reference_in es c.args.def.now.header) (references_in es c.args.def.now.clauses.items) c.requires.applied two rs (all-same one two c.supertraits.ensures.terms.grew.keeps rs is.clauses_held ∙ is.clauses))

pub returns-in_err-supertraits-clause-terms : goal.returns-in_err-supertraits-clause-terms
returns-in_err-supertraits-clause-terms c = record {
  grew = grew-on c.opaque_impl.ensures.terms.grew c.supertraits.ensures.terms.grew;
  full =
      at-limit c.from_residual-in_err-supertraits.result c.from_residual-in_err-supertraits.ensures.1 c.in_err-supertraits.ensures.terms.full;
}

pub returns-in_err-clauses-clause-terms : goal.returns-in_err-clauses-clause-terms
returns-in_err-clauses-clause-terms c = record {
  grew = grew-on c.opaque_impl.ensures.terms.grew (grew-on c.supertraits.ensures.terms.grew c.elaborate.ensures.terms.grew);
  full =
      at-limit c.from_residual-in_err-clauses.result c.from_residual-in_err-clauses.ensures.1 c.in_err-clauses.ensures.terms.full;
}

pub returns-clause-terms : goal.returns-clause-terms
returns-clause-terms c = record {
  grew = grew-on c.opaque_impl.ensures.terms.grew (grew-on c.supertraits.ensures.terms.grew c.elaborate.ensures.terms.grew);
  full = tt;
}

pub returns-clause-are : goal.returns-clause-are
returns-clause-are c =
    let es = c.args.cx.now.entries in
    let one = c.opaque_impl.new.cx.entries in
    let two = c.supertraits.new.cx.entries in
    let new = c.elaborate.new.cx.entries in
    let d = c.args.declarations.now in
    let V = written es d in
    let k1 = c.opaque_impl.ensures.terms.grew.keeps in
    let k2 = c.supertraits.ensures.terms.grew.keeps in
    let k3 = c.elaborate.ensures.terms.grew.keeps in
    let is = c.in_ok-opaque.ensures.is in
    let rs = c.in_ok-opaque.opaque.clauses.items in
    let supers = c.in_ok-supertraits.supertraits.items in
    record {
      supertraits = all-same two new k3 supers c.in_ok-supertraits.ensures.held ∙ c.in_ok-supertraits.ensures.are
          ∙ ap (λ (W : World). supertraits W (reference_in one c.in_ok-opaque.opaque.header)) (all-written es one k1 d c.requires.ready.held) ∙ ap (supertraits V) is.header;
      clauses = c.in_ok-clauses.ensures.are ∙ ap (λ (W : World). elaborate W (references_in two c.deref.result.now)) (all-written es two (λ i e h. k2 i e (k1 i e h)) d c.requires.ready.held)
          ∙ ap (λ xs. elaborate V (references_in two xs)) c.deref.ensures.value ∙ ap (elaborate V) (all-same one two k2 rs is.clauses_held ∙ is.clauses);
      supertraits_held = references-kept two new k3 supers c.in_ok-supertraits.ensures.held;
      clauses_held = c.in_ok-clauses.ensures.held;
    }
