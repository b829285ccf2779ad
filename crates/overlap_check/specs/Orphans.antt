-- The orphan check of the impls of a crate.
use Rattle.std.specs.Prelude.{◌≡◌, ℕ, true, false, List, Option, Some, None, slice_get}
use Rattle.type_terms.specs.Promised.Label.{Sort, of_lifetime}
use Rattle.type_terms.specs.Promised.Trees.{Trees, erase, is_sort, some_node}
use Rattle.type_terms.specs.Promised.Proofs.{In}
use Rattle.type_terms.specs.Promised.Walks.{visited, until_decisive, ends_local, keeps_orphan_rule}
use Rattle.type_terms.specs.Promised.Worlds.{World, Reference, ImplDecl}
use Rattle.type_terms.specs.Promised.Handles.{Entry, trees_at}
use Rattle.type_terms.specs.declared.ImplId.{ImplId}
use Rattle.type_terms.specs.declared.kinds.Ty.{Ty}
use Rattle.declarations.specs.Items.{Items, HeldImpl}
use Rattle.declarations.specs.Promised.Elaboration.{Each}
use Rattle.declarations.specs.declared.items.ImplDef.{ImplDef}
use Rattle.type_terms.specs.Promised.OrphanErrors.{orphan_error}
use Rattle.orphan_check.specs.declared.errors.OrphanCheckErr.{OrphanCheckErr}
use Rattle.type_terms.specs.Promised.OpenedHeaders.{is_param, opened}
use Rattle.type_terms.specs.Promised.Verdicts.{KeepsOrphanRule, BreaksOrphanRule, IsFirstOrphan}
use Rattle.overlap_check.specs.Headers.{sorts_of_impl}
use Rattle.overlap_check.specs.Written.{IsWrittenWell}
use Rattle.overlap_check.specs.Promised.Errors.{error_in}

-- Each type parameter and each constant parameter occurs in the terms, with its kind: T and N in `[T; N]`.
abbrev pub HoldsParams : List Sort → Trees → Type 0
HoldsParams sorts t = (i : ℕ) (s : Sort) → slice_get sorts i ≡ Some s → is_sort s of_lifetime ≡ false → some_node (is_param s i) t ≡ true

-- The parameters of the impl occur in its header. `impl<T> Show for u8` is refused.
abbrev pub HeaderHoldsParams : List Entry → ImplDef → Type 0
HeaderHoldsParams es def = HoldsParams (sorts_of_impl def) (trees_at es def.header.args.0)

-- Each impl is one that a text can declare.
abbrev pub AreWrittenWell : List Entry → Items → Type 0
AreWrittenWell es d = Each (λ (i : HeldImpl). IsWrittenWell es i.def × HeaderHoldsParams es i.def) d.impls

-- The result of an orphan walk of these arguments: none if it ends at a local type, else the error.
abbrev pub IsWalkError : World → ℕ → Trees → List Entry → Option (OrphanCheckErr Ty) → Type 0
IsWalkError V c args es None = ends_local (until_decisive (visited V (Some c) args)) ≡ true
IsWalkError V c args es (Some e) = (ends_local (until_decisive (visited V (Some c) args)) ≡ false) × (orphan_error V c (erase args) ≡ Some (error_in es e))

-- The result of the orphan check of a header: none if it keeps the orphan rule of c, else the error.
abbrev pub IsHeaderError : World → ℕ → Reference → List Entry → Option (OrphanCheckErr Ty) → Type 0
IsHeaderError V c r es None = keeps_orphan_rule V c r ≡ true
IsHeaderError V c r es (Some e) = (keeps_orphan_rule V c r ≡ false) × (orphan_error V c (opened r).args ≡ Some (error_in es e))

-- The result of the orphan check of the impl with index n: none if it is not of c or keeps the rule, else the error.
abbrev pub IsErrorOf : World → ℕ → ℕ → List Entry → Option (OrphanCheckErr Ty) → Type 0
IsErrorOf V c n es None = (i : ImplDecl) → In i V.impls → i.name ≡ n → i.home ≡ c → keeps_orphan_rule V c i.header ≡ true
IsErrorOf V c n es (Some e) = (i : ImplDecl) × (i.name ≡ n) × BreaksOrphanRule V c i × (orphan_error V c (opened i.header).args ≡ Some (error_in es e))

-- The result of the orphan check of crate c: none if all its headers keep the rule, else the first that breaks it and the error.
abbrev pub IsFirstError : World → ℕ → List Entry → Option (ImplId × OrphanCheckErr Ty) → Type 0
IsFirstError V c es None = KeepsOrphanRule V c
IsFirstError V c es (Some x) = IsFirstOrphan V c x.0.index (error_in es x.1)
