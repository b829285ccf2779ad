-- Calls of inference by names.
use Rattle.std.proofs.Common.{◌≡◌, ◌∙◌, ◌≤◌, ℕ, Bool, List, Option, Some, Bor, arith, refl, ap, sym, subst}
use Rattle.std.specs.Option.{option_map}
use Rattle.type_terms.specs.declared.AdtId.{AdtId}
use Rattle.type_terms.specs.declared.CrateId.{CrateId}
use Rattle.type_terms.specs.declared.TraitId.{TraitId}
use Rattle.coherence.specs.TextLanguage.Promised.Declarations.{Declarations, a_struct, a_trait, known}
use Rattle.text_tables.specs.Views.{known_of, sorts_of}
use Rattle.text_tables.specs.declared.cell.ParamKind.{ParamKind}
use Rattle.text_tables.specs.declared.declared.Known.{Known}
use Rattle.text_tables.specs.declared.declared.Known.TheVariants as found
use Rattle.session_inference.specs.declared.operation.Operation.{Operation}
use Rattle.session_inference.specs.declared.operation.Operation.TheVariants as call
use Rattle.session_inference.specs.declared.shape.Shape.{Shape}
use Rattle.session_inference.specs.declared.shape.Shape.TheVariants as shape
use Rattle.session_inference.specs.declared.term_id.TermId.{TermId}
use Rattle.celtisdarts_c.specs.Calls.{IsAboutNumber, IsOperationOf, IsStruct, IsTrait, operation_number, shape_number}
use Rattle.celtisdarts_c.specs.declared.call.Call.{Call}

pub struct-named : (w d : Declarations) (name : List ℕ) (o : Option Known) (id : AdtId) (owner : CrateId) (ps : Bor (List ParamKind)) → w ≡ d → option_map known_of o ≡ known w name → o ≡ Some (found.Struct id owner ps)
    → IsStruct d name id.index
struct-named w d name o id owner ps same e is =
    (owner.index, sorts_of ps.now, subst (λ (x : Declarations). known x name ≡ Some (a_struct id.index owner.index (sorts_of ps.now))) same (sym e ∙ ap (option_map known_of) is))

pub trait-named : (w d : Declarations) (name : List ℕ) (o : Option Known) (id : TraitId) (owner : CrateId) (is_auto : Bool) (ps : Bor (List ParamKind)) → w ≡ d → option_map known_of o ≡ known w name
    → o ≡ Some (found.Trait id owner is_auto ps) → IsTrait d name id.index
trait-named w d name o id owner is_auto ps same e is =
    (owner.index, is_auto, sorts_of ps.now, subst (λ (x : Declarations). known x name ≡ Some (a_trait id.index owner.index is_auto (sorts_of ps.now))) same (sym e ∙ ap (option_map known_of) is))

-- ---- operations that take terms alone, and those that take none
pub shape-asked : (d : Declarations) (c : Call) (ids : Bor (List TermId)) (h : Shape) → shape_number h ≡ c.operation → 6 ≤ c.operation → IsOperationOf d c ids.now (call.Ty h ids)
shape-asked d c ids (shape.Adt s) e le = absurd (omega (arith, e, le))
shape-asked d c ids shape.Tuple e le = (e, refl)
shape-asked d c ids shape.Slice e le = (e, refl)
shape-asked d c ids shape.Array e le = (e, refl)
shape-asked d c ids (shape.Ref m) e le = (e, refl)
shape-asked d c ids (shape.RawPtr m) e le = (e, refl)
shape-asked d c ids shape.FnPtr e le = (e, refl)

pub number-asked : (d : Declarations) (c : Call) (ids : List TermId) (o : Operation) → operation_number o ≡ c.operation → IsAboutNumber c.number o → IsOperationOf d c ids o
number-asked d c ids call.FreshTy e h = (e, tt)
number-asked d c ids call.FreshConst e h = (e, tt)
number-asked d c ids (call.Primitive p) e h = absurd h
number-asked d c ids (call.Constant k) e h = (e, h)
number-asked d c ids call.Lifetime e h = (e, tt)
number-asked d c ids (call.Ty s ps) e h = absurd h
number-asked d c ids (call.Eq l r) e h = absurd h
number-asked d c ids (call.CanEq l r) e h = absurd h
number-asked d c ids (call.TyParam k) e h = (e, h)
number-asked d c ids (call.ConstParam k) e h = (e, h)
number-asked d c ids (call.Register t args) e h = absurd h
number-asked d c ids (call.Assume t args) e h = absurd h
number-asked d c ids (call.SelectWherePossible budget) e h = (e, h)
number-asked d c ids (call.Standing id) e h = (e, h)
number-asked d c ids (call.Resolve t) e h = absurd h
number-asked d c ids call.StartSnapshot e h = (e, tt)
number-asked d c ids call.Commit e h = (e, tt)
number-asked d c ids call.RollBack e h = (e, tt)
