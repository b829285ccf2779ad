-- Terms that are made.
use Rattle.std.specs.Prelude.{IfOk, IfSome}
use Rattle.std.proofs.Common.{◌≡◌, ℕ, List, sym, subst, Option, Some, None, Result, Ok, Err}
use Rattle.type_terms.specs.Promised.Handles.{Entry, ArgHeld, arg_trees}
use Rattle.type_terms.specs.Promised.Label.{Sort}
use Rattle.type_terms.specs.Promised.Trees.{Trees}
use Rattle.type_terms.specs.declared.Fault.{Fault}
use Rattle.type_terms.specs.declared.kinds.GenericArgKind.{GenericArgKind}
use Rattle.inference.specs.Inferring.{IsOverVariables}
use Rattle.session_inference.specs.Contexts.{IsTermOver}
use Rattle.session_inference.specs.Primitives.{primitive_trees}
use Rattle.session_inference.specs.Shapes.{shaped_trees}
use Rattle.session_inference.specs.declared.shape.Shape.{Shape}
use Rattle.session_inference.specs.declared.shape.Shape.TheVariants.{Adt, Ref, RawPtr, Array, Slice, Tuple, FnPtr}
use Rattle.session_inference.specs.declared.primitive.Primitive.{Primitive}
use Rattle.session_inference.specs.declared.primitive.Primitive.TheVariants.{Bool, Char, Int, Uint, Str, Never}

pub primitive-closed : (p : Primitive) (counts : Sort → ℕ) → IsOverVariables counts (primitive_trees p)
primitive-closed Bool counts = ((tt, tt), (tt, tt))
primitive-closed Char counts = ((tt, tt), (tt, tt))
primitive-closed (Int w) counts = ((tt, tt), (tt, tt))
primitive-closed (Uint w) counts = ((tt, tt), (tt, tt))
primitive-closed Str counts = ((tt, tt), (tt, tt))
primitive-closed Never counts = ((tt, tt), (tt, tt))

pub closed-over : (es : List Entry) (counts : Sort → ℕ) (t : Trees) (r : Result GenericArgKind Fault) → ((n : Sort → ℕ) → IsOverVariables n t) → IfOk r (λ a. (arg_trees es a ≡ t) × ArgHeld es a) → IfOk r (IsTermOver es counts)
closed-over es counts t (Ok a) closed h = (h.1, subst (IsOverVariables counts) (sym h.0) (closed counts))
closed-over es counts t (Err f) closed h = tt

shape-over : (counts : Sort → ℕ) (h : Shape) (parts : Trees) → IsOverVariables counts parts → IsOverVariables counts (shaped_trees h parts)
shape-over counts (Adt s) parts over = ((over.0, tt), (over.1, tt))
shape-over counts (Ref m) parts over = (((tt, over.0), tt), ((tt, over.1), tt))
shape-over counts (RawPtr m) parts over = ((over.0, tt), (over.1, tt))
shape-over counts Array parts over = ((over.0, tt), (over.1, tt))
shape-over counts Slice parts over = ((over.0, tt), (over.1, tt))
shape-over counts Tuple parts over = ((over.0, tt), (over.1, tt))
shape-over counts FnPtr parts over = ((over.0, tt), (over.1, tt))

pub shaped-over : (es : List Entry) (counts : Sort → ℕ) (h : Shape) (parts : Trees) (r : Result (Option GenericArgKind) Fault) → IsOverVariables counts parts
    → IfOk r (λ o. IfSome o (λ a. (arg_trees es a ≡ shaped_trees h parts) × ArgHeld es a)) → IfOk r (λ o. IfSome o (IsTermOver es counts))
shaped-over es counts h parts (Ok None) over is = tt
shaped-over es counts h parts (Ok (Some a)) over is = (is.1, subst (IsOverVariables counts) (sym is.0) (shape-over counts h parts over))
shaped-over es counts h parts (Err f) over is = tt
