-- The results of the public functions if the normalizer returns its input: they are those of the promised orphan walk, with the values of
-- variables put in.
use Rattle.std.specs.Prelude.{◌≡◌, ℕ, ◌<◌, Bool, true, false, List, map, Some, None, Result, Ok, Err}
use Rattle.std.specs.Option.{option_map}
use Rattle.type_terms.specs.Promised.Trees.{Trees}
use Rattle.type_terms.specs.Trees.{depth}
use Rattle.type_terms.specs.Promised.Worlds.{World, Reference}
use Rattle.type_terms.specs.Promised.Walks.{walk, ends_local, is_known_in}
use Rattle.type_terms.specs.Promised.Handles.{Entry, trees_at}
use Rattle.type_terms.specs.declared.kinds.Ty.{Ty}
use Rattle.term_folds.specs.declared.predicate.TraitRef.{TraitRef}
use Rattle.infer_table.specs.Solutions.{resolved}
use Rattle.declarations.specs.Items.{Items, declared}
use Rattle.infer_table.specs.Content.{Table, content}
use Rattle.orphan_check.specs.declared.errors.Conflict.TheVariants.{Upstream, Downstream}
use Rattle.orphan_check.specs.declared.errors.InCrate.{InCrate}
use Rattle.orphan_check.specs.declared.errors.InCrate.TheVariants.{Local, Remote}
use Rattle.orphan_check.specs.declared.errors.IsFirstInputType.{IsFirstInputType}
use Rattle.orphan_check.specs.declared.errors.OrphanCheckErr.{OrphanCheckErr}
use Rattle.orphan_check.specs.declared.errors.OrphanCheckErr.TheVariants.{NonLocalInputType, UncoveredTyParams}
use Rattle.orphan_check.specs.declared.errors.WalkError.TheVariants.{Normalize, Deep, Memory}
use Rattle.orphan_check.specs.Promised.Errors.{is_first}
use Rattle.type_terms.specs.Promised.OrphanErrors.{OrphanError, nonlocal, uncovered, items, foreign_leaves, orphan_error}
use Rattle.orphan_check.specs.Answers.{OrphanAnswer, KnowableAnswer}
use Rattle.orphan_check.specs.Knowing.{meets_open, is_knowable, is_written_in}

-- The normalizer returns its input.
abbrev pub AnswersItsInput : {E : Type 0} → (Trees → Result Trees E) → Type 0
AnswersItsInput f = (t : Trees) → f t ≡ Ok t

-- A trait reference with the values of its variables put in.
abbrev pub reference_read : List Entry → Table → TraitRef → Reference
reference_read es t r = record { trait = r.def_id.index; args = resolved (content es t.values) (trees_at es r.args.0) }

-- A type with the values of its variables put in.
abbrev pub type_read : List Entry → Table → Ty → Trees
type_read es t x = resolved (content es t.values) (trees_at es x.0)

-- A list of types with flags, with the values of variables put in.
abbrev pub leaves_read : List Entry → Table → List (Ty × IsFirstInputType) → List (Trees × Bool)
leaves_read es t ps = map (λ p. (type_read es t p.0, is_first p.1)) ps

-- An orphan error with the values of variables put in.
abbrev pub error_read : List Entry → Table → OrphanCheckErr Ty → OrphanError
error_read es t (NonLocalInputType v) = nonlocal (leaves_read es t v.items)
error_read es t (UncoveredTyParams u) = uncovered (type_read es t u.uncovered) (option_map (type_read es t) u.local_ty)

-- The result of `orphan_check_trait_ref`:
-- - in `Local` it passes exactly if the walk ends at a local type,
-- - in `Remote` it passes exactly if the walk ends at an uncovered type,
-- - the error is that of the walk,
-- - it fails with `Deep` only if types are nested deeper than the limit, and never with `Normalize`.
abbrev pub IsOrphanCheck : {E : Type 0} → List Entry → Table → World → ℕ → InCrate → ℕ → Reference → OrphanAnswer E → Type 0
IsOrphanCheck es t V c (Local mode) limit r (Ok (Ok u)) = ends_local (walk V c r) ≡ true
IsOrphanCheck es t V c (Local mode) limit r (Ok (Err e)) = (ends_local (walk V c r) ≡ false) × (orphan_error V c r.args ≡ Some (error_read es t e))
IsOrphanCheck es t V c Remote limit r (Ok (Ok u)) = meets_open V r ≡ true
IsOrphanCheck es t V c Remote limit r (Ok (Err e)) = (meets_open V r ≡ false) × (error_read es t e ≡ nonlocal (foreign_leaves (items V None true r.args)))
IsOrphanCheck es t V c k limit r (Err (Normalize e)) = ⊥
IsOrphanCheck es t V c k limit r (Err Deep) = limit < depth r.args
IsOrphanCheck es t V c k limit r (Err Memory) = Unit {0}

-- The same for a trait reference of an interner.
abbrev pub IsOrphanCheckOf : {E : Type 0} → List Entry → Items → Table → InCrate → ℕ → TraitRef → OrphanAnswer E → Type 0
IsOrphanCheckOf es d t k limit r a = IsOrphanCheck es t (declared es d) d.local k limit (reference_read es t r) a

-- The result of `trait_ref_is_knowable`:
-- - if it passes and all names are declared, the trait reference is knowable,
-- - `Downstream`: the open walk ends at an uncovered type,
-- - `Upstream`: it does not, and the trait reference is not knowable,
-- - it fails with `Deep` only if types are nested deeper than the limit, and never with `Normalize`.
abbrev pub WalkTellsKnown : {E : Type 0} → World → ℕ → ℕ → Reference → KnowableAnswer E → Type 0
WalkTellsKnown V c limit r (Ok (Ok u)) = is_written_in V r ≡ true → is_knowable V c r ≡ true
WalkTellsKnown V c limit r (Ok (Err Downstream)) = meets_open V r ≡ true
WalkTellsKnown V c limit r (Ok (Err Upstream)) = (meets_open V r ≡ false) × (is_known_in V c r ≡ false)
WalkTellsKnown V c limit r (Err (Normalize e)) = ⊥
WalkTellsKnown V c limit r (Err Deep) = limit < depth r.args
WalkTellsKnown V c limit r (Err Memory) = Unit {0}

-- The same for a trait reference of an interner.
abbrev pub IsKnownOf : {E : Type 0} → List Entry → Items → Table → ℕ → TraitRef → KnowableAnswer E → Type 0
IsKnownOf es d t limit r a = WalkTellsKnown (declared es d) d.local limit (reference_read es t r) a
