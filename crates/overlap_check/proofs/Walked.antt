-- What an orphan check says whose variables have no values.
use Rattle.std.proofs.Common.{◌≡◌, ℕ, ◌<◌, true, false, [], Some, Result, Ok, Err, List, ap, ◌∙◌, subst, arith}
use Rattle.type_terms.specs.Promised.Trees.{Trees, erase}
use Rattle.type_terms.specs.Trees.{depth}
use Rattle.type_terms.specs.Promised.Walks.{visited, until_decisive, ends_local}
use Rattle.type_terms.specs.Promised.Worlds.{World, Reference}
use Rattle.type_terms.specs.Promised.Handles.{Entry, trees_at}
use Rattle.type_terms.specs.declared.kinds.Ty.{Ty}
use Rattle.term_folds.specs.declared.predicate.TraitRef.{TraitRef}
use Rattle.infer_table.specs.Content.{Table, content}
use Rattle.infer_table.specs.Solutions.{resolved}
use Rattle.declarations.specs.Items.{Items, declared, reference_in}
use Rattle.orphan_check.specs.Exact.{reference_read, IsOrphanCheck, IsOrphanCheckOf}
use Rattle.type_terms.specs.Promised.OrphanErrors.{orphan_error}
use Rattle.orphan_check.specs.declared.errors.InCrate.TheVariants.{Local}
use Rattle.orphan_check.specs.declared.errors.OrphanCheckMode.{OrphanCheckMode}
use Rattle.orphan_check.specs.declared.errors.OrphanCheckErr.{OrphanCheckErr}
use Rattle.orphan_check.specs.declared.errors.WalkError.{WalkError}
use Rattle.orphan_check.specs.declared.errors.WalkError.TheVariants.{Deep}
use Rattle.overlap_check.specs.Promised.Errors.{error_in}
use Rattle.overlap_check.proofs.Erasing.{walk-erased}

module _ (es : List Entry) (d : Items) (r : TraitRef) (mode : OrphanCheckMode) (t : Table) (unvalued : t.values ≡ []) where
  abbrev V : World
  V = declared es d

  abbrev own : Reference
  own = reference_in es r

  abbrev args : Trees
  args = trees_at es r.args.0

  unread : reference_read es t r ≡ own
  unread = ap (λ vs. record { trait = r.def_id.index; args = resolved (content es vs) args }) unvalued

  module _ {E : Type 0} (limit : ℕ) (a : Result (Result (Unit {0}) (OrphanCheckErr Ty)) (WalkError E)) (h : IsOrphanCheckOf es d t (Local mode) limit r a) where
    known : (b : Result (Result (Unit {0}) (OrphanCheckErr Ty)) (WalkError E)) → a ≡ b → IsOrphanCheck es t V d.local (Local mode) limit own b
    known b e = subst (λ x. IsOrphanCheck es t V d.local (Local mode) limit x b) unread (subst (IsOrphanCheckOf es d t (Local mode) limit r) e h)

    pub passes : (x : Result (Unit {0}) (OrphanCheckErr Ty)) (u : Unit {0}) → a ≡ Ok x → x ≡ Ok u → ends_local (until_decisive (visited V (Some d.local) args)) ≡ true
    passes x u e f = known (Ok (Ok u)) (e ∙ ap Ok f)

    pub breaks : (x : Result (Unit {0}) (OrphanCheckErr Ty)) (y : OrphanCheckErr Ty) → a ≡ Ok x → x ≡ Err y
        → (ends_local (until_decisive (visited V (Some d.local) args)) ≡ false) × (orphan_error V d.local (erase args) ≡ Some (error_in es y))
    breaks x y e f = let k = known (Ok (Err y)) (e ∙ ap Ok f) in (k.0, walk-erased V d.local args es t unvalued y k.1)

    pub never-deep : (x : WalkError E) → a ≡ Err x → x ≡ Deep → limit ≡ depth args → ⊥
    never-deep x e f k = let deep : limit < depth args = known (Err Deep) (e ∙ ap Err f) in omega (arith, deep, k)
