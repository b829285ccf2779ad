-- Calls of inference by numbers and names, and the operations that they ask for.
use Rattle.std.specs.Prelude.{◌≡◌, ℕ, zero, suc, Bool, List, [], ◌∷◌, map, Option, Some, None}
use Rattle.session_inference.specs.Operations.{Does, IsRefusedEquation, NamesNothing}
use Rattle.session_inference.specs.Inferences.{Inference}
use Rattle.session_inference.specs.Primitives.{primitive_trees}
use Rattle.session_inference.specs.declared.operation.Operation.{Operation}
use Rattle.session_inference.specs.declared.operation.Operation.TheVariants as call
use Rattle.session_inference.specs.declared.primitive.Primitive.{Primitive}
use Rattle.session_inference.specs.declared.shape.Shape.{Shape}
use Rattle.session_inference.specs.declared.shape.Shape.TheVariants as shape
use Rattle.session_inference.specs.declared.term_id.TermId.{TermId}
use Rattle.type_terms.specs.Promised.Label.{Sort}
use Rattle.type_terms.specs.declared.kinds.Mutability.TheVariants.{Mut, Not}
use Rattle.coherence.specs.TextLanguage.Output.{Names, type_text}
use Rattle.coherence.specs.TextLanguage.Promised.Declarations.{Declarations, a_struct, a_trait, known}
use Rattle.celtisdarts_c.specs.declared.call.Call.{Call}

-- ---- the numbers of operations
abbrev pub shape_number : Shape → ℕ
shape_number (shape.Adt s) = 3
shape_number shape.Tuple = 6
shape_number shape.Slice = 7
shape_number shape.Array = 8
shape_number (shape.Ref Not) = 9
shape_number (shape.Ref Mut) = 10
shape_number (shape.RawPtr Not) = 11
shape_number (shape.RawPtr Mut) = 12
shape_number shape.FnPtr = 13

abbrev pub operation_number : Operation → ℕ
operation_number call.FreshTy = 1
operation_number call.FreshConst = 2
operation_number (call.Primitive p) = 3
operation_number (call.Ty h parts) = shape_number h
operation_number (call.Constant n) = 4
operation_number call.Lifetime = 5
operation_number (call.TyParam k) = 14
operation_number (call.ConstParam k) = 15
operation_number (call.Eq l r) = 20
operation_number (call.CanEq l r) = 21
operation_number (call.Register t args) = 22
operation_number (call.SelectWherePossible budget) = 23
operation_number (call.Standing id) = 24
operation_number (call.Resolve t) = 25
operation_number call.StartSnapshot = 26
operation_number call.Commit = 27
operation_number call.RollBack = 28
operation_number (call.Assume t args) = 29

-- ---- what an operation is about
-- The text of the type is this name.
abbrev pub HasText : List ℕ → Primitive → Type 0
HasText name p = (N : Names) → name ≡ type_text N (primitive_trees p)

-- The declared struct, and the declared trait, of this name.
abbrev pub IsStruct : Declarations → List ℕ → ℕ → Type 0
IsStruct d name s = (home : ℕ) × (kinds : List Sort) × (known d name ≡ Some (a_struct s home kinds))

abbrev pub IsTrait : Declarations → List ℕ → ℕ → Type 0
IsTrait d name t = (home : ℕ) × (is_auto : Bool) × (kinds : List Sort) × (known d name ≡ Some (a_trait t home is_auto kinds))

-- It makes the type of this name, with these terms as its arguments.
abbrev pub IsNamedType : Declarations → List ℕ → List TermId → Operation → Type 0
IsNamedType d name ids (call.Primitive p) = HasText name p
IsNamedType d name ids (call.Ty (shape.Adt s) parts) = IsStruct d name s.index × (parts.now ≡ ids)
IsNamedType d name ids _ = ⊥

-- A selection with this number may start so many nested goals. 0 is no bound.
abbrev pub budget_of : ℕ → Option ℕ
budget_of zero = None
budget_of (suc n) = Some (suc n)

-- It takes no name and no terms, and it is about this number.
abbrev pub IsAboutNumber : ℕ → Operation → Type 0
IsAboutNumber n call.FreshTy = Unit {0}
IsAboutNumber n call.FreshConst = Unit {0}
IsAboutNumber n (call.Constant k) = k ≡ n
IsAboutNumber n call.Lifetime = Unit {0}
IsAboutNumber n (call.TyParam k) = k ≡ n
IsAboutNumber n (call.ConstParam k) = k ≡ n
IsAboutNumber n (call.SelectWherePossible budget) = budget ≡ budget_of n
IsAboutNumber n (call.Standing id) = id.index ≡ n
IsAboutNumber n call.StartSnapshot = Unit {0}
IsAboutNumber n call.Commit = Unit {0}
IsAboutNumber n call.RollBack = Unit {0}
IsAboutNumber n _ = ⊥

-- It is about this name, these terms and this number.
abbrev IsAbout : Declarations → List ℕ → List TermId → ℕ → Operation → Type 0
IsAbout d name ids n (call.Primitive p) = HasText name p
IsAbout d name ids n (call.Ty (shape.Adt s) parts) = IsStruct d name s.index × (parts.now ≡ ids)
IsAbout d name ids n (call.Ty h parts) = parts.now ≡ ids
IsAbout d name ids n (call.Eq l r) = l ∷ r ∷ [] ≡ ids
IsAbout d name ids n (call.CanEq l r) = l ∷ r ∷ [] ≡ ids
IsAbout d name ids n (call.Register t args) = IsTrait d name t.index × (args.now ≡ ids)
IsAbout d name ids n (call.Assume t args) = IsTrait d name t.index × (args.now ≡ ids)
IsAbout d name ids n (call.Resolve t) = t ∷ [] ≡ ids
IsAbout d name ids n o = IsAboutNumber n o

-- It is the operation that the call asks for, with these terms.
abbrev pub IsOperationOf : Declarations → Call → List TermId → Operation → Type 0
IsOperationOf d c ids o = (operation_number o ≡ c.operation) × IsAbout d c.name.now ids c.number o

-- ---- what a call does
abbrev IsCallOf : Call → Inference → Operation → Type 0
IsCallOf c v o = IsOperationOf v.subject.declarations c (map (λ (n : ℕ). record { index = n }) c.terms.now) o

-- The operation that it asks for is performed, and gives this number.
abbrev pub Performs : Call → Inference → Inference → ℕ → Type 0
Performs c v w n = (o : Operation) × IsCallOf c v o × Does o v w n

-- The equation that it asks for has no solution.
abbrev pub IsRefusedCall : Call → Inference → Type 0
IsRefusedCall c v = (o : Operation) × IsCallOf c v o × IsRefusedEquation o v

-- There is no term of a number that the call has, or no obligation.
abbrev pub LacksAnything : Call → Inference → Type 0
LacksAnything c v = (o : Operation) × IsCallOf c v o × NamesNothing o v
