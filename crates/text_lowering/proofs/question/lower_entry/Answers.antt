use Rattle.std.proofs.Common.{◌∙◌, ap, sym, subst, map, refl, suc}
use Rattle.text_language.specs.Names.{own_from}
use Rattle.type_terms.specs.Promised.Handles.{Keeps}
use Rattle.declarations.proofs.Growth.{reference-same, reference-kept, references-kept}
use Rattle.declarations.proofs.Bounded.{all-same}
use Rattle.text_tables.specs.Made.{ReferencesMade}
use Rattle.text_tables.specs.Views.{reference_of, variable_of}
use Rattle.text_lowering.specs.Plain.{unbound_references}
use Rattle.text_lowering.proofs.question.lower_entry.Goals as goal

pub lower_reference-requires : goal.lower_reference-requires
lower_reference-requires c = c.requires.asked 0 c.args.entry.now.asked refl

pub lower_references-requires : goal.lower_references-requires
lower_references-requires c = subst ReferencesMade (sym c.deref.ensures.value) (λ k r e. c.requires.asked (suc k) r e)

pub lower_references-requires-2 : goal.lower_references-requires-2
lower_references-requires-2 c = subst ReferencesMade (sym c.deref-2.ensures.value) c.requires.clauses

pub returns-clause-lowered : goal.returns-clause-lowered
returns-clause-lowered c =
    let one = c.lower_reference.new.cx.entries in
    let two = c.lower_references.new.cx.entries in
    let three = c.lower_references-2.new.cx.entries in
    let all = c.own_unknowns.new.cx.entries in
    let i = c.lower_references.ensures.terms.grew.keeps in
    let j = c.lower_references-2.ensures.terms.grew.keeps in
    let k = c.own_unknowns.ensures.terms.grew.keeps in
    let jk : Keeps two all = λ n e h. k n e (j n e h) in
    let ijk : Keeps one all = λ n e h. jk n e (i n e h) in
    let asked = c.in_ok-asked.asked in
    let further = c.in_ok-further.further.items in
    let clauses = c.in_ok-clauses.clauses.items in
    record {
      asked = reference-same one all ijk asked c.in_ok-asked.ensures.held ∙ c.in_ok-asked.ensures.is;
      further =
          all-same two all jk further c.in_ok-further.ensures.held ∙ c.in_ok-further.ensures.are
          ∙ ap (λ x. unbound_references (map reference_of x)) c.deref.ensures.value;
      clauses =
          all-same three all k clauses c.in_ok-clauses.ensures.held ∙ c.in_ok-clauses.ensures.are
          ∙ ap (λ x. unbound_references (map reference_of x)) c.deref-2.ensures.value;
      unknowns = c.in_ok-unknowns.ensures.are ∙ ap (λ vs. own_from 0 0 (map variable_of vs)) c.deref-3.ensures.value;
      asked_held = reference-kept one all ijk asked c.in_ok-asked.ensures.held;
      further_held = references-kept two all jk further c.in_ok-further.ensures.held;
      clauses_held = references-kept three all k clauses c.in_ok-clauses.ensures.held;
      unknowns_held = c.in_ok-unknowns.ensures.held;
    }
