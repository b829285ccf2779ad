-- A handle of a type has one type, and a handle of a constant one constant.
use Rattle.std.proofs.Common.{◌≡◌, ℕ, List, [], ◌∷◌, ◌++◌, refl, arith}
use Rattle.type_terms.specs.Promised.Label.{Sort, of_type, of_const}
use Rattle.type_terms.specs.Promised.Trees.{Trees, none, tree, sort_of, IsA}
use Rattle.type_terms.specs.Trees.{Single}
use Rattle.type_terms.specs.Promised.Handles.{Entry, Has, trees_at, types, consts}
use Rattle.type_terms.specs.Terms.{Sorted, AllSorted}
use Rattle.type_terms.specs.Kinds.{kind_trees, const_label}
use Rattle.type_terms.specs.Promised.Handles.{arg_trees, ArgHeld, bound_label}
use Rattle.type_terms.specs.Nodes.{grow, node_entry}
use Rattle.type_terms.specs.declared.node.Node.{Node}
use Rattle.type_terms.specs.declared.node.Node.TheVariants.{Ty, Const, Args, Tys, Bounds}
use Rattle.type_terms.specs.declared.number.BoundVar.{BoundVar}
use Rattle.type_terms.specs.declared.number.BoundVarIndexKind.{BoundVarIndexKind}
use Rattle.type_terms.specs.declared.number.BoundVarIndexKind.TheVariants.{Bound as KBinder, Canonical as KCanonical}
use Rattle.type_terms.specs.declared.kinds.TyKind.{TyKind}
use Rattle.type_terms.specs.declared.kinds.TyKind.TheVariants.{Bound as KBound}
use Rattle.type_terms.specs.declared.kinds.ConstKind.{ConstKind}
use Rattle.type_terms.specs.declared.kinds.ConstKind.TheVariants.{Bound as CBound}
use Rattle.type_terms.specs.declared.kinds.GenericArgKind.{GenericArgKind}
use Rattle.type_terms.specs.declared.kinds.GenericArgKind.TheVariants.{Lifetime, Ty as AType, Const as AConst}
use Rattle.type_terms.proofs.Lists.{all-push}

pub bound-sort : (s : Sort) (k : BoundVarIndexKind) (v : BoundVar) → sort_of (bound_label s k v) ≡ s
bound-sort s (KBinder k) v = refl
bound-sort s KCanonical v = refl

sorted-kind : (es : List Entry) (k : TyKind) → IsA of_type (kind_trees es k)
sorted-kind es (KBound k v) = (bound-sort of_type k v, refl)
sorted-kind es k = (refl, refl)

const-sort : (k : ConstKind) → sort_of (const_label k) ≡ of_const
const-sort (CBound k v) = bound-sort of_const k v
const-sort k = refl

sorted-node : (es : List Entry) (n : Node) → Sorted (node_entry es n)
sorted-node es (Ty k) = record { as_type = λ _. sorted-kind es k; as_const = λ e. absurd (omega arith) }
sorted-node es (Const k) = record { as_type = λ e. absurd (omega arith); as_const = λ _. (const-sort k, refl) }
sorted-node es (Args v) = record { as_type = λ e. absurd (omega arith); as_const = λ e. absurd (omega arith) }
sorted-node es (Tys v) = record { as_type = λ e. absurd (omega arith); as_const = λ e. absurd (omega arith) }
sorted-node es (Bounds v) = record { as_type = λ e. absurd (omega arith); as_const = λ e. absurd (omega arith) }

sorted-grow : (es : List Entry) (ns : List Node) → AllSorted es → AllSorted (grow es ns)
sorted-grow es [] all = all
sorted-grow es (n ∷ ns) all = sorted-grow (es ++ node_entry es n ∷ []) ns (all-push (λ _ e. Sorted e) es (node_entry es n) all (sorted-node es n))

pub sorted-all : (ns : List Node) → AllSorted (grow [] ns)
sorted-all ns = sorted-grow [] ns (λ i e h. cc)

pub single-type : (t : Trees) → IsA of_type t → Single t
single-type none h = h
single-type (tree l c o) h = h.1

pub single-const : (t : Trees) → IsA of_const t → Single t
single-const none h = h
single-const (tree l c o) h = h.1

pub type-single : (es : List Entry) → AllSorted es → (i : ℕ) → Has es types i → Single (trees_at es i)
type-single es sorted i h = rw h.1 (single-type h.0 ((sorted i _ h.1).as_type refl))

pub const-single : (es : List Entry) → AllSorted es → (i : ℕ) → Has es consts i → Single (trees_at es i)
const-single es sorted i h = rw h.1 (single-const h.0 ((sorted i _ h.1).as_const refl))

pub arg-single : (es : List Entry) → AllSorted es → (a : GenericArgKind) → ArgHeld es a → Single (arg_trees es a)
arg-single es sorted (Lifetime r) h = refl
arg-single es sorted (AType t) h = type-single es sorted t.0 h
arg-single es sorted (AConst c) h = const-single es sorted c.0 h
