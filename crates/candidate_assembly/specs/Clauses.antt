-- The where-clauses of a goal that can be the goal itself.
use Rattle.std.specs.Prelude.{if◌then◌else◌, List, [], ◌∷◌, Option, Some, None}
use Rattle.term_folds.specs.declared.predicate.Clause.{Clause}
use Rattle.term_folds.specs.declared.predicate.Clause.TheVariants.{Trait}
use Rattle.term_folds.specs.declared.predicate.TraitRef.{TraitRef}
use Rattle.type_terms.specs.Promised.Worlds.{Reference}
use Rattle.type_terms.specs.Promised.Handles.{Entry}
use Rattle.declarations.specs.Items.{reference_in}
use Rattle.candidate_model.specs.Candidates.{can_be}

-- The trait reference of a where-clause, if it can be q.
abbrev pub reference_of : List Entry → Reference → Clause → Option TraitRef
reference_of es q (Trait p) = if can_be q (reference_in es p.trait_ref) then Some p.trait_ref else None
reference_of es q c = None

abbrev pub with_reference : Option TraitRef → List TraitRef → List TraitRef
with_reference None rs = rs
with_reference (Some r) rs = r ∷ rs

-- The trait references among where-clauses that can be q.
abbrev pub references_to : List Entry → Reference → List Clause → List TraitRef
references_to es q [] = []
references_to es q (c ∷ cs) = with_reference (reference_of es q c) (references_to es q cs)
