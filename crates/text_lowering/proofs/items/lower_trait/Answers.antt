use Rattle.std.proofs.Common.{arith, subst, sym, ap, ◌∙◌, map}
use Rattle.std.specs.Prelude.{sum_by}
use Rattle.type_terms.specs.Promised.Worlds.{TraitDecl}
use Rattle.text_tables.specs.Made.{ReferencesMade}
use Rattle.text_tables.specs.TermCounts.{reference_terms}
use Rattle.text_tables.specs.Views.{reference_of}
use Rattle.text_lowering.specs.Promised.SeenWorlds.{none_kept, plain_reference}
use Rattle.text_lowering.proofs.items.lower_trait.Goals as goal

pub lower_references-requires : goal.lower_references-requires
lower_references-requires c = subst ReferencesMade (sym c.deref-2.ensures.value) c.requires

pub returns-clause-is : goal.returns-clause-is
returns-clause-is c =
    let e = c.args.entry.now in
    ap (λ bs. (let t : TraitDecl = record { name = e.id.index; home = e.owner.index; is_fundamental = e.is_fundamental; is_auto = e.is_auto; bounds = bs } in t))
    (c.in_ok-bounds.ensures.are ∙ ap (λ x. map (plain_reference none_kept) (map reference_of x)) c.deref-2.ensures.value)

pub returns-in_err-bounds-clause-few : goal.returns-in_err-bounds-clause-few
returns-in_err-bounds-clause-few c =
    let same = ap (λ x. sum_by reference_terms (map reference_of x)) c.deref-2.ensures.value in
    omega (arith, same, c.lower_references.ensures.few)

pub returns-clause-few : goal.returns-clause-few
returns-clause-few c =
    let same = ap (λ x. sum_by reference_terms (map reference_of x)) c.deref-2.ensures.value in
    omega (arith, same, c.lower_references.ensures.few)
