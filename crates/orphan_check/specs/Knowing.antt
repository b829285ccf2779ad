-- Which trait references with variables are knowable: no crate outside the view can have an impl for an instance.
use Rattle.std.specs.Prelude.{ℕ, Bool, true, not, ◌&&◌, ◌||◌, ◌==◌, List, None, Result}
use Rattle.std.specs.List.{list_any, list_all}
use Rattle.type_terms.specs.Promised.Worlds.{World, Reference}
use Rattle.type_terms.specs.Promised.Walks.{visited, trait_is, item_in, open_walk, is_known_in}
use Rattle.type_terms.specs.Promised.Versions.{is_open_place}
use Rattle.type_terms.specs.Promised.Trees.{Trees}
use Rattle.type_terms.specs.Promised.Handles.{Entry, trees_at}
use Rattle.term_folds.specs.declared.predicate.TraitRef.{TraitRef}
use Rattle.declarations.specs.Items.{Items, declared}
use Rattle.infer_table.specs.Content.{Table}
use Rattle.orphan_check.specs.declared.errors.OrphanCheckMode.TheVariants.{Proper}
use Rattle.orphan_check.specs.declared.errors.InCrate.TheVariants.{Local, Remote}
use Rattle.orphan_check.specs.Steps.{reading, steps}
use Rattle.orphan_check.specs.Answers.{IsKnowableAnswer, KnowableAnswer}

-- The open walk visits an uncovered type: a parameter, an inference variable, a placeholder or a bound type.
abbrev pub meets_open : World → Reference → Bool
meets_open V r = list_any is_open_place (visited V None r.args)

-- The view alone makes it knowable, and the open walk visits no uncovered type. For `&?x: Local`, a crate that uses this one may have an
-- impl with a type of its own for `?x`.
abbrev pub is_knowable : World → ℕ → Reference → Bool
is_knowable V c r = is_known_in V c r && not (meets_open V r)

-- The trait is declared, and so are the structs and traits that the open walk visits.
abbrev pub is_written_in : World → Reference → Bool
is_written_in V r = trait_is (λ _. true) V r.trait && list_all (item_in V) (open_walk V r)

-- The result of `trait_ref_is_knowable`, from the walks in `Remote` and in `Local`.
abbrev pub IsKnowableBy : {E : Type 0} → List Entry → Items → Table → (Trees → Result Trees E) → ℕ → TraitRef → KnowableAnswer E → Type 0
IsKnowableBy es d t f limit r a =
    let args = trees_at es r.args.0 in
    let own = trait_is (λ x. (x.home == d.local) || x.is_fundamental) (declared es d) r.def_id.index in
    IsKnowableAnswer own (steps (reading es d t f Remote) limit args) (steps (reading es d t f (Local Proper)) limit args) (Local Proper) a
