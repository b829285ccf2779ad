use Rattle.std.proofs.Common.{◌≡◌, ◌==◌, drop}
use Rattle.std.specs.List.{slice_get}
use Rattle.term_folds.specs.declared.predicate.TraitRef.{TraitRef}
use Rattle.built_in_candidates.specs.Objects.{numbered_to}
use Rattle.built_in_candidates.proofs.dyn_type.reference_at.Given as goal

abbrev pub invariant-references : goal.invariant-references
invariant-references l =
    slice_get (numbered_to (λ (r : TraitRef). r.def_id.index == l.fn.def_id.index) l.number (drop l.number l.fn.references)) l.before
    ≡ slice_get (numbered_to (λ (r : TraitRef). r.def_id.index == l.fn.def_id.index) 0 l.fn.references) l.fn.place
