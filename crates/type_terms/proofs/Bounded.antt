-- No term is deeper than the number of its handle, and no binder number is too great.
use Rattle.std.proofs.Common.{◌≡◌, ℕ, zero, suc, ◌+◌, ◌≤◌, List, [], ◌∷◌, ◌++◌, length, arith, Option, Some, None, pred}
use Rattle.std.specs.List.{slice_get}
use Rattle.std.proofs.lemmas.Option.{slice_get_within}
use Rattle.type_terms.specs.Promised.Label.{Label, Sort, of_type, of_const, of_lifetime, fn_ptr, principal, array, dynamic, ref, raw_pointer, slice, tuple, adt, auto_trait}
use Rattle.type_terms.specs.Promised.Trees.{Trees, none, tree, leaf, ◌+++◌}
use Rattle.type_terms.specs.Trees.{outer_binder, depth, own_binder, outside}
use Rattle.type_terms.specs.Promised.Handles.{Entry, Has, trees_at, types, consts, bounds_lists}
use Rattle.type_terms.specs.Terms.{args_lists, type_lists}
use Rattle.type_terms.specs.Kinds.{is_mut, const_label, kind_trees, args_trees, tys_trees, principal_trees, autos_trees, ConstHeld, KindHeld, TysHeld, PrincipalHeld}
use Rattle.type_terms.specs.Promised.Handles.{bound_label, region_label, arg_trees, BinderHeld, RegionHeld, ArgHeld, ArgsHeld}
use Rattle.type_terms.specs.Nodes.{grow, Older, node_entry, node_trees, Held}
use Rattle.type_terms.specs.declared.TheConstants.{MAX_INDEX}
use Rattle.type_terms.specs.declared.TraitId.{TraitId}
use Rattle.type_terms.specs.declared.node.Node.{Node}
use Rattle.type_terms.specs.declared.node.Node.TheVariants.{Ty, Const, Args, Tys, Bounds}
use Rattle.type_terms.specs.declared.number.BoundVar.{BoundVar}
use Rattle.type_terms.specs.declared.number.BoundVarIndexKind.{BoundVarIndexKind}
use Rattle.type_terms.specs.declared.number.BoundVarIndexKind.TheVariants.{Bound as KBinder, Canonical as KCanonical}
use Rattle.type_terms.specs.declared.region.RegionKind.{RegionKind}
use Rattle.type_terms.specs.declared.region.RegionKind.TheVariants.{ReStatic, ReEarlyParam, RePlaceholder, ReBound, ReVar}
use Rattle.type_terms.specs.declared.kinds.Ty as of-ty
use Rattle.type_terms.specs.declared.kinds.TyKind.{TyKind}
use Rattle.type_terms.specs.declared.kinds.TyKind.TheVariants.{Adt, Ref, RawPtr, Array as KArray, Slice as KSlice, Tuple, FnPtr, Dynamic, Bound as KBound}
use Rattle.type_terms.specs.declared.kinds.ConstKind.{ConstKind}
use Rattle.type_terms.specs.declared.kinds.ConstKind.TheVariants.{Bound as CBound}
use Rattle.type_terms.specs.declared.kinds.GenericArgKind.{GenericArgKind}
use Rattle.type_terms.specs.declared.kinds.GenericArgKind.TheVariants.{Lifetime, Ty as AType, Const as AConst}
use Rattle.type_terms.specs.declared.kinds.Principal.{Principal}
use Rattle.type_terms.proofs.Lists.{all-push}
use Rattle.type_terms.proofs.Entries.{entry-of-key}

-- the trees are at most m deep, and no binder number in them is the greatest
pub record Fits (m : ℕ) (t : Trees) : Type 0 where
  pub outer : outer_binder t ≤ MAX_INDEX
  pub shallow : depth t ≤ m

pred-below : (n : ℕ) → pred n ≤ n
pred-below zero = omega arith
pred-below (suc n) = omega arith

outside-below : (l : Label) (n : ℕ) → outside l n ≤ n
outside-below (fn_ptr k) n = pred-below n
outside-below (principal k t) n = pred-below n
outside-below l n = omega arith

fits-none : (m : ℕ) → Fits m none
fits-none m = record { outer = omega arith; shallow = omega arith }

fits-more : (m n : ℕ) (t : Trees) → m ≤ n → Fits m t → Fits n t
fits-more m n t h f = record { outer = f.outer; shallow = omega (arith, f.shallow) }

fits-append : (m : ℕ) (x y : Trees) → Fits m x → Fits m y → Fits m (x +++ y)
fits-append m none y f g = g
fits-append m (tree l c o) y f g =
    let rest : Fits m (o +++ y) = fits-append m o y (record { outer = omega (arith, f.outer); shallow = omega (arith, f.shallow) }) g in
    record { outer = omega (arith, f.outer, rest.outer); shallow = omega (arith, f.shallow, rest.shallow) }

fits-node : (m : ℕ) (l : Label) (c : Trees) → own_binder l ≤ MAX_INDEX → Fits m c → Fits (m + 1) (tree l c none)
fits-node m l c h f = record { outer = omega (arith, h, f.outer, outside-below l (outer_binder c)); shallow = omega (arith, f.shallow) }

fits-leaf : (m : ℕ) (l : Label) → own_binder l ≤ MAX_INDEX → 1 ≤ m → Fits m (leaf l)
fits-leaf m l h one = fits-more (0 + 1) m (leaf l) (omega arith) (fits-node 0 l none h (fits-none 0))

-- ---- labels
bound-below : (s : Sort) (k : BoundVarIndexKind) (v : BoundVar) → BinderHeld k → own_binder (bound_label s k v) ≤ MAX_INDEX
bound-below s (KBinder k) v h = omega arith
bound-below s KCanonical v h = omega arith

region-below : (r : RegionKind) → RegionHeld r → own_binder (region_label r) ≤ MAX_INDEX
region-below (ReBound k v) h = bound-below of_lifetime k v h
region-below ReStatic h = omega arith
region-below (ReEarlyParam i) h = omega arith
region-below (RePlaceholder i) h = omega arith
region-below (ReVar v) h = omega arith

const-below : (k : ConstKind) → ConstHeld k → own_binder (const_label k) ≤ MAX_INDEX
const-below (CBound k v) h = bound-below of_const k v h
const-below k h = omega arith

-- ---- entries
abbrev pub AllFit : List Entry → Type 0
AllFit es = (i : ℕ) (e : Entry) → slice_get es i ≡ Some e → Fits (i + 1) e.trees

module _ (es : List Entry) (all : AllFit es) where
  fits-at : (kind i : ℕ) → Has es kind i → Fits (length es) (trees_at es i)
  fits-at kind i h =
      let below = slice_get_within es i _ h.1 in
      rw h.1 (fits-more (i + 1) (length es) h.0 (omega arith) (all i _ h.1))

  some-entry : (kind i : ℕ) → Has es kind i → 1 ≤ length es
  some-entry kind i h = let below = slice_get_within es i _ h.1 in omega arith

  fits-kind : (k : TyKind) → KindHeld es k → Fits (length es + 1) (kind_trees es k)
  fits-kind (Adt d a) h = fits-node _ (adt d.index) _ (omega arith) (fits-at args_lists a.0 h)
  fits-kind (Ref r t m) h =
      fits-node _ (ref (is_mut m)) _ (omega arith)
      (fits-append _ _ _ (fits-leaf _ _ (region-below r.kind h.0) (some-entry types t.0 h.1)) (fits-at types t.0 h.1))
  fits-kind (RawPtr t m) h = fits-node _ (raw_pointer (is_mut m)) _ (omega arith) (fits-at types t.0 h)
  fits-kind (KArray t n) h = fits-node _ array _ (omega arith) (fits-append _ _ _ (fits-at types t.0 h.0) (fits-at consts n.0 h.1))
  fits-kind (KSlice t) h = fits-node _ slice _ (omega arith) (fits-at types t.0 h)
  fits-kind (Tuple ts) h = fits-node _ tuple _ (omega arith) (fits-at type_lists ts.0 h)
  fits-kind (FnPtr n ts) h = fits-node _ (fn_ptr n) _ (omega arith) (fits-at type_lists ts.0 h.0)
  fits-kind (Dynamic b r) h =
      fits-node _ dynamic _ (omega arith)
      (fits-append _ _ _ (fits-at bounds_lists b.0 h.0) (fits-leaf _ _ (region-below r.kind h.1) (some-entry bounds_lists b.0 h.0)))
  fits-kind (KBound k v) h = fits-leaf _ _ (bound-below of_type k v h) (omega arith)
  fits-kind k h = fits-leaf _ _ (omega arith) (omega arith)

  fits-arg : (a : GenericArgKind) → ArgHeld es a → Fits (length es + 1) (arg_trees es a)
  fits-arg (Lifetime r) h = fits-leaf _ _ (region-below r.kind h) (omega arith)
  fits-arg (AType t) h = fits-more _ _ _ (omega arith) (fits-at types t.0 h)
  fits-arg (AConst c) h = fits-more _ _ _ (omega arith) (fits-at consts c.0 h)

  fits-args : (xs : List GenericArgKind) → ArgsHeld es xs → Fits (length es + 1) (args_trees es xs)
  fits-args [] h = fits-none _
  fits-args (a ∷ xs) h = fits-append _ _ _ (fits-arg a h.0) (fits-args xs h.1)

  fits-tys : (xs : List of-ty.Ty) → TysHeld es xs → Fits (length es + 1) (tys_trees es xs)
  fits-tys [] h = fits-none _
  fits-tys (t ∷ xs) h = fits-append _ _ _ (fits-more _ _ _ (omega arith) (fits-at types t.0 h.0)) (fits-tys xs h.1)

  fits-principal : (p : Option Principal) → PrincipalHeld es p → Fits (length es + 1) (principal_trees es p)
  fits-principal None h = fits-none _
  fits-principal (Some p) h = fits-node _ (principal p.bound_vars p.def_id.index) _ (omega arith) (fits-at args_lists p.args.0 h)

  fits-autos : (xs : List TraitId) → Fits (length es + 1) (autos_trees xs)
  fits-autos [] = fits-none _
  fits-autos (x ∷ xs) = fits-append _ (leaf (auto_trait x.index)) _ (fits-leaf _ _ (omega arith) (omega arith)) (fits-autos xs)

  fits-trees : (n : Node) → Held es n → Fits (length es + 1) (node_trees es n)
  fits-trees (Ty k) h = fits-kind k h
  fits-trees (Const k) h = fits-leaf _ _ (const-below k h) (omega arith)
  fits-trees (Args v) h = fits-args v.items h
  fits-trees (Tys v) h = fits-tys v.items h
  fits-trees (Bounds b) h = fits-append _ _ _ (fits-principal b.principal h.0) (fits-autos b.autos.items)

fits-grow : (es : List Entry) (ns : List Node) → Older es ns → AllFit es → AllFit (grow es ns)
fits-grow es [] o all = all
fits-grow es (n ∷ ns) o all = fits-grow (es ++ node_entry es n ∷ []) ns o.1 (all-push (λ i e. Fits (i + 1) e.trees) es (node_entry es n) all (fits-trees es all n o.0))

fits-all : (ns : List Node) → Older [] ns → AllFit (grow [] ns)
fits-all ns o = fits-grow [] ns o (λ i e h. cc)

pub fits-index : (ns : List Node) → Older [] ns → (i : ℕ) (n : Node) → slice_get ns i ≡ Some n → Fits (i + 1) (trees_at (grow [] ns) i)
fits-index ns o i n h =
    let at = entry-of-key ns i n o h in
    rw at.0 (fits-all ns o i _ at.0)
