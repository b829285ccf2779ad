-- A term has the shape of a term if its parts have.
use Rattle.std.proofs.Common.{◌≡◌, ◌≢◌, ℕ, Bool, true, ◌&&◌, List, [], ◌∷◌, ◌++◌, refl, arith, Option, Some, None, le-leb}
use Rattle.type_terms.specs.Promised.Label.{Label, Sort, of_lifetime, param, placeholder, infer, canonical, bound, static}
use Rattle.type_terms.specs.Promised.Trees.{leaf, ◌+++◌, sort_of}
use Rattle.type_terms.specs.Made.{terms, bounds, traits, is_made, is_in_range}
use Rattle.type_terms.specs.Promised.Handles.{Entry, Has, trees_at, types, consts, bounds_lists}
use Rattle.type_terms.specs.Terms.{args_lists, type_lists, Made, AllMade}
use Rattle.type_terms.specs.Kinds.{kind_trees, const_trees, args_trees, tys_trees, principal_trees, autos_trees, KindHeld, TysHeld, PrincipalHeld}
use Rattle.type_terms.specs.Promised.Handles.{region_label, region_trees, arg_trees, bound_label, ArgHeld, ArgsHeld}
use Rattle.type_terms.specs.Nodes.{grow, node_entry, Held, Older}
use Rattle.type_terms.specs.declared.TraitId.{TraitId}
use Rattle.type_terms.specs.declared.node.Node.{Node}
use Rattle.type_terms.specs.declared.node.Node.TheVariants.{Ty, Const, Args, Tys, Bounds}
use Rattle.type_terms.specs.declared.number.BoundVar.{BoundVar}
use Rattle.type_terms.specs.declared.number.BoundVarIndexKind.{BoundVarIndexKind}
use Rattle.type_terms.specs.declared.number.BoundVarIndexKind.TheVariants.{Bound as KBinder, Canonical as KCanonical}
use Rattle.type_terms.specs.declared.region.Region.{Region}
use Rattle.type_terms.specs.declared.region.RegionKind.{RegionKind}
use Rattle.type_terms.specs.declared.region.RegionKind.TheVariants.{ReBound, ReVar}
use Rattle.type_terms.specs.declared.kinds.Ty as of-ty
use Rattle.type_terms.specs.declared.kinds.TyKind.{TyKind}
use Rattle.type_terms.specs.declared.kinds.TyKind.TheVariants.{Adt, Ref, RawPtr, Array as KArray, Slice as KSlice, Tuple, FnPtr, Dynamic, Bound as KBound, Infer as KInfer}
use Rattle.type_terms.specs.declared.kinds.ConstKind.{ConstKind}
use Rattle.type_terms.specs.declared.kinds.ConstKind.TheVariants.{Bound as CBound, Infer as CInfer}
use Rattle.type_terms.specs.declared.kinds.GenericArgKind.{GenericArgKind}
use Rattle.type_terms.specs.declared.kinds.GenericArgKind.TheVariants.{Lifetime, Ty as AType, Const as AConst}
use Rattle.type_terms.specs.declared.kinds.Principal.{Principal}
use Rattle.type_terms.proofs.Lists.{all-push}
use Rattle.type_terms.proofs.Made.{both, made-append}
use Rattle.type_terms.proofs.Sorts.{bound-sort}

-- ---- lifetimes
region-sort : (k : RegionKind) → sort_of (region_label k) ≡ of_lifetime
region-sort (ReBound k v) = bound-sort of_lifetime k v
region-sort k = refl

bound-range : (s : Sort) (k : BoundVarIndexKind) (v : BoundVar) → is_in_range (bound_label s k v) ≡ true
bound-range s (KBinder k) v = refl
bound-range s KCanonical v = refl

region-range : (k : RegionKind) → is_in_range (region_label k) ≡ true
region-range (ReBound k v) = bound-range of_lifetime k v
region-range (ReVar v) = le-leb _ _ v.in_range
region-range k = refl

-- a lifetime ends the bounds of a `dyn` type, and is a term
lifetime-made : (l : Label) → sort_of l ≡ of_lifetime → is_in_range l ≡ true
    → (is_made is_in_range terms (leaf l) ≡ true) × (is_made is_in_range bounds (leaf l) ≡ true) × (is_made is_in_range traits (leaf l) ≡ true)
lifetime-made static e r = (refl, refl, refl)
lifetime-made (param of_lifetime i) e r = (refl, refl, refl)
lifetime-made (placeholder of_lifetime i) e r = (refl, refl, refl)
lifetime-made (infer of_lifetime i) e r = (both _ true r refl, both _ true r refl, both _ true r refl)
lifetime-made (canonical of_lifetime i) e r = (refl, refl, refl)
lifetime-made (bound of_lifetime k i) e r = (refl, refl, refl)
lifetime-made l e r = cc

region-made : (r : Region) → is_made is_in_range terms (region_trees r) ≡ true
region-made r = (lifetime-made (region_label r.kind) (region-sort r.kind) (region-range r.kind)).0

-- ---- bounds
traits-made : (xs : List TraitId) (l : Label) → sort_of l ≡ of_lifetime → is_in_range l ≡ true → is_made is_in_range traits (autos_trees xs +++ leaf l) ≡ true
traits-made [] l e r = (lifetime-made l e r).2
traits-made (x ∷ xs) l e r = traits-made xs l e r

module _ (es : List Entry) (made : AllMade es) where
  -- a term that is no list of bounds
  part-made : (kind i : ℕ) → kind ≢ bounds_lists → Has es kind i → is_made is_in_range terms (trees_at es i) ≡ true
  part-made kind i n h = rw h.1 ((made i _ h.1).as_terms n)

  pub type-made : (i : ℕ) → Has es types i → is_made is_in_range terms (trees_at es i) ≡ true
  type-made i h = part-made types i (λ e. absurd (omega arith)) h

  args-list-made : (i : ℕ) → Has es args_lists i → is_made is_in_range terms (trees_at es i) ≡ true
  args-list-made i h = part-made args_lists i (λ e. absurd (omega arith)) h

  type-list-made : (i : ℕ) → Has es type_lists i → is_made is_in_range terms (trees_at es i) ≡ true
  type-list-made i h = part-made type_lists i (λ e. absurd (omega arith)) h

  pub const-made : (i : ℕ) → Has es consts i → is_made is_in_range terms (trees_at es i) ≡ true
  const-made i h = part-made consts i (λ e. absurd (omega arith)) h

  object-made : (i : ℕ) (r : Region) → Has es bounds_lists i → is_made is_in_range bounds (trees_at es i +++ region_trees r) ≡ true
  object-made i r h = rw h.1 ((made i _ h.1).as_bounds refl (region_label r.kind) (region-sort r.kind) (region-range r.kind))

  bounds-made : (p : Option Principal) (xs : List TraitId) (l : Label) → PrincipalHeld es p → sort_of l ≡ of_lifetime → is_in_range l ≡ true
      → is_made is_in_range bounds ((principal_trees es p +++ autos_trees xs) +++ leaf l) ≡ true
  bounds-made None [] l h e r = (lifetime-made l e r).1
  bounds-made None (x ∷ xs) l h e r = traits-made xs l e r
  bounds-made (Some p) xs l h e r = both (is_made is_in_range terms (trees_at es p.args.0)) _ (args-list-made p.args.0 h) (traits-made xs l e r)

  -- ---- the kinds
  one : (b : Bool) → b ≡ true → b && true ≡ true
  one b p = both b true p refl

  kind-made : (k : TyKind) → KindHeld es k → is_made is_in_range terms (kind_trees es k) ≡ true
  kind-made (Adt d a) h = one _ (args-list-made a.0 h)
  kind-made (Ref r t m) h = one _ (made-append is_in_range (region_trees r) (trees_at es t.0) (region-made r) (type-made t.0 h.1))
  kind-made (RawPtr t m) h = one _ (type-made t.0 h)
  kind-made (KArray t n) h = one _ (made-append is_in_range (trees_at es t.0) (trees_at es n.0) (type-made t.0 h.0) (const-made n.0 h.1))
  kind-made (KSlice t) h = one _ (type-made t.0 h)
  kind-made (Tuple ts) h = one _ (type-list-made ts.0 h)
  kind-made (FnPtr n ts) h = one _ (type-list-made ts.0 h.0)
  kind-made (Dynamic b r) h = one _ (object-made b.0 r h.0)
  kind-made (KBound (KBinder k) v) h = refl
  kind-made (KBound KCanonical v) h = refl
  kind-made (KInfer v) h = one _ (le-leb _ _ v.in_range)
  kind-made k h = refl

  const-kind-made : (k : ConstKind) → is_made is_in_range terms (const_trees k) ≡ true
  const-kind-made (CBound (KBinder k) v) = refl
  const-kind-made (CBound KCanonical v) = refl
  const-kind-made (CInfer v) = one _ (le-leb _ _ v.in_range)
  const-kind-made k = refl

  pub arg-made : (a : GenericArgKind) → ArgHeld es a → is_made is_in_range terms (arg_trees es a) ≡ true
  arg-made (Lifetime r) h = region-made r
  arg-made (AType t) h = type-made t.0 h
  arg-made (AConst c) h = const-made c.0 h

  args-made : (xs : List GenericArgKind) → ArgsHeld es xs → is_made is_in_range terms (args_trees es xs) ≡ true
  args-made [] h = refl
  args-made (x ∷ xs) h = made-append is_in_range (arg_trees es x) (args_trees es xs) (arg-made x h.0) (args-made xs h.1)

  tys-made : (xs : List of-ty.Ty) → TysHeld es xs → is_made is_in_range terms (tys_trees es xs) ≡ true
  tys-made [] h = refl
  tys-made (x ∷ xs) h = made-append is_in_range (trees_at es x.0) (tys_trees es xs) (type-made x.0 h.0) (tys-made xs h.1)

  node-made : (n : Node) → Held es n → Made (node_entry es n)
  node-made (Ty k) h = record { as_terms = λ _. kind-made k h; as_bounds = λ e. absurd (omega arith) }
  node-made (Const k) h = record { as_terms = λ _. const-kind-made k; as_bounds = λ e. absurd (omega arith) }
  node-made (Args v) h = record { as_terms = λ _. args-made v.items h; as_bounds = λ e. absurd (omega arith) }
  node-made (Tys v) h = record { as_terms = λ _. tys-made v.items h; as_bounds = λ e. absurd (omega arith) }
  node-made (Bounds b) h = record { as_terms = λ n. absurd (n refl); as_bounds = λ _ l e r. bounds-made b.principal b.autos.items l h.0 e r }

-- ---- all of them
made-grow : (es : List Entry) (ns : List Node) → AllMade es → Older es ns → AllMade (grow es ns)
made-grow es [] all o = all
made-grow es (n ∷ ns) all o = made-grow (es ++ node_entry es n ∷ []) ns (all-push (λ _ e. Made e) es (node_entry es n) all (node-made es all n o.0)) o.1

pub made-all : (ns : List Node) → Older [] ns → AllMade (grow [] ns)
made-all ns o = made-grow [] ns (λ i e h. cc) o
