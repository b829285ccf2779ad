-- Handles of one kind are equal exactly if their terms are.
use Rattle.std.proofs.Common.{◌≡◌, ℕ, zero, suc, ◌+◌, ◌<◌, ◌≤◌, Bool, true, false, List, [], ◌∷◌, length, refl, ap, sym, ◌∙◌, arith, Option, Some, None, subst, inl, inr, ◌⊎◌, get_or, map, cond}
use Rattle.std.specs.Map.{lookup}
use Rattle.std.specs.List.{slice_get, IsDistinct}
use Rattle.std.proofs.lemmas.Option.{slice_get_within, slice_get_cases}
use Rattle.std.proofs.lemmas.Map.Keys.{IsDistinct-head, IsDistinct-tail}
use Rattle.type_terms.specs.Promised.Label.{Label, Sort, of_type, of_const, of_lifetime}
use Rattle.type_terms.specs.Promised.Trees.{Trees, none, tree, leaf, ◌+++◌, IsA, sort_of}
use Rattle.type_terms.specs.Trees.{Single}
use Rattle.type_terms.specs.Promised.Handles.{Entry, Is, Has, trees_at, types, consts, bounds_lists}
use Rattle.type_terms.specs.Terms.{Absent, Distinct, AllSorted, args_lists, type_lists}
use Rattle.type_terms.specs.Promised.Handles.{region_label, region_trees, arg_trees, ArgHeld, ArgsHeld}
use Rattle.type_terms.specs.Kinds.{kind_trees, const_trees, args_trees, tys_trees, principal_trees, autos_trees, KindHeld, TysHeld, PrincipalHeld, KindOlder, ArgOlder, ArgsOlder, TysOlder, PrincipalOlder}
use Rattle.type_terms.specs.Nodes.{grow, Older, node_entry, Held, NodeOlder}
use Rattle.type_terms.specs.Same.{SameNode}
use Rattle.type_terms.specs.declared.TraitId.{TraitId}
use Rattle.type_terms.specs.declared.region.Region.{Region}
use Rattle.type_terms.specs.declared.region.RegionKind.{RegionKind}
use Rattle.type_terms.specs.declared.region.RegionKind.TheVariants.{ReStatic, ReEarlyParam, RePlaceholder, ReBound, ReVar}
use Rattle.type_terms.specs.declared.node.Node.{Node}
use Rattle.type_terms.specs.declared.node.Node.TheVariants.{Ty, Const, Args, Tys, Bounds}
use Rattle.type_terms.specs.declared.kinds.Ty as of-ty
use Rattle.type_terms.specs.declared.kinds.GenericArgs.{GenericArgs}
use Rattle.type_terms.specs.declared.kinds.TyKind.{TyKind}
use Rattle.type_terms.specs.declared.kinds.TyKind.TheVariants.{Bool as KBool, Char as KChar, Int as KInt, Uint as KUint, Str as KStr, Never as KNever, Adt, Ref, RawPtr, Array as KArray, Slice as KSlice, Tuple, FnPtr, Dynamic, Param as KParam, Placeholder as KPlaceholder, Bound as KBound, Infer as KInfer}
use Rattle.type_terms.specs.declared.kinds.ConstKind.{ConstKind}
use Rattle.type_terms.specs.declared.kinds.GenericArgKind.{GenericArgKind}
use Rattle.type_terms.specs.declared.kinds.GenericArgKind.TheVariants.{Lifetime, Ty as AType, Const as AConst}
use Rattle.type_terms.specs.declared.kinds.Principal.{Principal}
use Rattle.type_terms.specs.contracts.node.NodePartialEq.TheImpl.{ghosts}
use Rattle.type_terms.proofs.Lists.{all-at}
use Rattle.type_terms.proofs.Equal.{node-eq}
use Rattle.type_terms.proofs.Entries.{entry-of-key, older-of-key, length-grow, node-older}
use Rattle.type_terms.proofs.Sorts.{sorted-all, type-single, arg-single, bound-sort}
use Rattle.type_terms.proofs.Labels.{bound-back, region-back, mut-back, int-back, uint-back, const-back, adt-back, trait-back, ty-vid-back, rank, rank-bound}

-- ---- nodes
same-sym : (m n : Node) → SameNode m n → SameNode n m
same-sym (Ty k) (Ty m) h = sym h
same-sym (Const k) (Const m) h = sym h
same-sym (Args k) (Args m) h = sym h
same-sym (Tys k) (Tys m) h = sym h
same-sym (Bounds k) (Bounds m) h = (sym h.0, sym h.1)
same-sym _ _ h = absurd h

distinct-nodes : (ns : List Node) → IsDistinct ghosts.eq ns → (i j : ℕ) (m n : Node) → slice_get ns i ≡ Some m → slice_get ns j ≡ Some n → SameNode m n → i ≡ j
distinct-nodes [] d i j m n hi hj s = cc
distinct-nodes (x ∷ ns) d zero zero m n hi hj s = refl
distinct-nodes (x ∷ ns) d zero (suc j) m n hi hj s =
    let same : x ≡ m = cc in
    let no : ghosts.eq x n ≡ false = all-at (λ y. ghosts.eq x y ≡ false) ns j n (IsDistinct-head ghosts.eq x ns d) hj in
    let yes : ghosts.eq x n ≡ true = (node-eq x n).1 (subst (λ (y : Node). SameNode y n) (sym same) s) in
    cc
distinct-nodes (x ∷ ns) d (suc i) zero m n hi hj s =
    let same : x ≡ n = cc in
    let no : ghosts.eq x m ≡ false = all-at (λ y. ghosts.eq x y ≡ false) ns i m (IsDistinct-head ghosts.eq x ns d) hi in
    let yes : ghosts.eq x m ≡ true = (node-eq x m).1 (subst (λ (y : Node). SameNode y m) (sym same) (same-sym m n s)) in
    cc
distinct-nodes (x ∷ ns) d (suc i) (suc j) m n hi hj s = ap suc (distinct-nodes ns (IsDistinct-tail ghosts.eq x ns d) i j m n hi hj s)

-- ---- a node is found again from its trees, where its handles are
single-append : (x y a b : Trees) → Single x → Single y → x +++ a ≡ y +++ b → (x ≡ y) × (a ≡ b)
single-append none y a b s t e = absurd s
single-append (tree l c o) none a b s t e = absurd t
single-append (tree l c o) (tree m d p) a b s t e =
    let left : o +++ a ≡ a = ap (λ z. z +++ a) s in
    let right : p +++ b ≡ b = ap (λ z. z +++ b) t in
    let labels : l ≡ m = cc in
    let children : c ≡ d = cc in
    let others : o ≡ p = s ∙ sym t in
    (cc, cc)

-- the last leaf of two equal lists
leaf-last : (x y : Trees) (l m : Label) → x +++ leaf l ≡ y +++ leaf m → (x ≡ y) × (l ≡ m)
leaf-last none none l m e = (refl, cc)
leaf-last none (tree k c none) l m e = cc
leaf-last none (tree k c (tree n d o)) l m e = cc
leaf-last (tree k c none) none l m e = cc
leaf-last (tree k c (tree n d o)) none l m e = cc
leaf-last (tree k c o) (tree n d p) l m e =
    let labels : k ≡ n = cc in
    let children : c ≡ d = cc in
    let others : o +++ leaf l ≡ p +++ leaf m = cc in
    let rest = leaf-last o p l m others in
    let same : o ≡ p = rest.0 in
    (cc, rest.1)

abbrev SortIs : Sort → Trees → Type 0
SortIs s none = ⊥
SortIs s (tree l c o) = sort_of l ≡ s

type-sort : (t : Trees) → IsA of_type t → SortIs of_type t
type-sort none h = h
type-sort (tree l c o) h = h.0

const-sort : (t : Trees) → IsA of_const t → SortIs of_const t
const-sort none h = h
const-sort (tree l c o) h = h.0

region-sort : (r : Region) → SortIs of_lifetime (region_trees r)
region-sort r = by r.kind
  where
    by : (k : RegionKind) → sort_of (region_label k) ≡ of_lifetime
    by (ReBound k v) = bound-sort of_lifetime k v
    by ReStatic = refl
    by (ReEarlyParam i) = refl
    by (RePlaceholder i) = refl
    by (ReVar v) = refl

two-sorts : (s r : Sort) (t : Trees) → SortIs s t → SortIs r t → s ≡ r
two-sorts s r none a b = absurd a
two-sorts s r (tree l c o) a b = sym a ∙ b

region-same : (r s : Region) (x y : Trees) → region_trees r +++ x ≡ region_trees s +++ y → (r ≡ s) × (x ≡ y)
region-same r s x y e =
    let both = single-append (region_trees r) (region_trees s) x y refl refl e in
    let labels : region_label r.kind ≡ region_label s.kind = cc (both.0) in
    (ap (λ k. record { kind = k }) (region-back r.kind s.kind labels), both.1)

ty-back : (a b : of-ty.Ty) → a.0 ≡ b.0 → a ≡ b
ty-back a b h = ap (λ n. record { 0 = n }) h

principal-back : (a b : Principal) → a.bound_vars ≡ b.bound_vars → a.def_id ≡ b.def_id → a.args ≡ b.args → a ≡ b
principal-back a b p q r = three (λ (n : ℕ) (t : TraitId) (g : GenericArgs). record { bound_vars = n; def_id = t; args = g }) _ _ _ _ _ _ p q r
  where
    three : {A B C D : Type 0} (f : A → B → C → D) (x x' : A) (y y' : B) (z z' : C) → x ≡ x' → y ≡ y' → z ≡ z' → f x y z ≡ f x' y' z'
    three f x x' y y' z z' p q r = cc

autos-same : (xs ys : List TraitId) → autos_trees xs ≡ autos_trees ys → xs ≡ ys
autos-same [] [] e = refl
autos-same [] (y ∷ ys) e = cc
autos-same (x ∷ xs) [] e = cc
autos-same (x ∷ xs) (y ∷ ys) e =
    let head : x.index ≡ y.index = cc in
    let rest : autos_trees xs ≡ autos_trees ys = cc in
    let heads : x ≡ y = trait-back x y head in
    let tails : xs ≡ ys = autos-same xs ys rest in
    cc

not-none : (x a : Trees) → Single x → none ≡ x +++ a → ⊥
not-none none a s e = s
not-none (tree l c o) a s e = cc

-- ---- which kind a type is of
abbrev kind-rank : TyKind → ℕ
kind-rank KBool = 0
kind-rank KChar = 1
kind-rank (KInt w) = 2
kind-rank (KUint w) = 3
kind-rank KStr = 4
kind-rank KNever = 5
kind-rank (Adt d x) = 6
kind-rank (Ref r t m) = 7
kind-rank (RawPtr t m) = 8
kind-rank (KArray t n) = 9
kind-rank (KSlice t) = 10
kind-rank (Tuple x) = 11
kind-rank (FnPtr n x) = 12
kind-rank (Dynamic b r) = 13
kind-rank (KParam i) = 14
kind-rank (KPlaceholder i) = 15
kind-rank (KBound k v) = 16
kind-rank (KInfer v) = 17

abbrev first-rank : Trees → ℕ
first-rank none = 20
first-rank (tree l c o) = rank l

rank-kind : (es : List Entry) (k : TyKind) → first-rank (kind_trees es k) ≡ kind-rank k
rank-kind es (KBound k v) = rank-bound of_type k v
rank-kind es k = refl

abbrev sort-of-arg : GenericArgKind → Sort
sort-of-arg (Lifetime r) = of_lifetime
sort-of-arg (AType t) = of_type
sort-of-arg (AConst c) = of_const

module _ (es : List Entry) (sorted : AllSorted es) (k : ℕ)
    (below : (i j : ℕ) (e : Entry) → i < k → j < k → slice_get es i ≡ Some e → slice_get es j ≡ Some e → i ≡ j) where
  same-child : (kind i j : ℕ) → Has es kind i → Has es kind j → i < k → j < k → trees_at es i ≡ trees_at es j → i ≡ j
  same-child kind i j h g li lj e =
      let ti : trees_at es i ≡ h.0 = rw h.1 refl in
      let tj : trees_at es j ≡ g.0 = rw g.1 refl in
      let t : h.0 ≡ g.0 = sym ti ∙ e ∙ tj in
      below i j (record { kind = kind; trees = g.0 }) li lj (subst (λ (x : Trees). Is es kind i x) t h.1) g.1

  by-rank : (a b : TyKind) → KindHeld es a → KindHeld es b → KindOlder k a → KindOlder k b → kind_trees es a ≡ kind_trees es b → kind-rank a ≡ kind-rank b → a ≡ b
  by-rank KBool KBool h g o p e r = refl
  by-rank KChar KChar h g o p e r = refl
  by-rank KStr KStr h g o p e r = refl
  by-rank KNever KNever h g o p e r = refl
  by-rank (KInt w) (KInt v) h g o p e r = ap KInt (int-back w v (cc))
  by-rank (KUint w) (KUint v) h g o p e r = ap KUint (uint-back w v (cc))
  by-rank (Adt d x) (Adt f y) h g o p e r =
      let list : x.0 ≡ y.0 = same-child args_lists x.0 y.0 h g o p (cc) in
      let d-same : d ≡ f = adt-back d f (cc) in
      let x-same : x ≡ y = ap (λ n. record { 0 = n }) list in
      cc
  by-rank (Ref a t m) (Ref b u n) h g o p e r =
      let both = region-same a b (trees_at es t.0) (trees_at es u.0) (cc) in
      let child : t.0 ≡ u.0 = same-child types t.0 u.0 h.1 g.1 o p both.1 in
      let t-same : t ≡ u = ty-back t u child in
      let m-same : m ≡ n = mut-back m n (cc) in
      let a-same : a ≡ b = both.0 in
      cc
  by-rank (RawPtr t m) (RawPtr u n) h g o p e r =
      let child : t.0 ≡ u.0 = same-child types t.0 u.0 h g o p (cc) in
      let t-same : t ≡ u = ty-back t u child in
      let m-same : m ≡ n = mut-back m n (cc) in
      cc
  by-rank (KArray t n) (KArray u m) h g o p e r =
      let both = single-append (trees_at es t.0) (trees_at es u.0) (trees_at es n.0) (trees_at es m.0) (type-single es sorted t.0 h.0) (type-single es sorted u.0 g.0) (cc) in
      let child : t.0 ≡ u.0 = same-child types t.0 u.0 h.0 g.0 o.0 p.0 both.0 in
      let len : n.0 ≡ m.0 = same-child consts n.0 m.0 h.1 g.1 o.1 p.1 both.1 in
      let t-same : t ≡ u = ty-back t u child in
      let n-same : n ≡ m = ap (λ i. record { 0 = i }) len in
      cc
  by-rank (KSlice t) (KSlice u) h g o p e r =
      let child : t.0 ≡ u.0 = same-child types t.0 u.0 h g o p (cc) in
      ap KSlice (ty-back t u child)
  by-rank (Tuple x) (Tuple y) h g o p e r =
      let list : x.0 ≡ y.0 = same-child type_lists x.0 y.0 h g o p (cc) in
      let x-same : x ≡ y = ap (λ n. record { 0 = n }) list in
      cc
  by-rank (FnPtr c x) (FnPtr d y) h g o p e r =
      let count : c ≡ d = cc in
      let list : x.0 ≡ y.0 = same-child type_lists x.0 y.0 h.0 g.0 o p (cc) in
      let x-same : x ≡ y = ap (λ n. record { 0 = n }) list in
      cc
  by-rank (Dynamic a c) (Dynamic b d) h g o p e r =
      let both = leaf-last (trees_at es a.0) (trees_at es b.0) (region_label c.kind) (region_label d.kind) (cc) in
      let list : a.0 ≡ b.0 = same-child bounds_lists a.0 b.0 h.0 g.0 o p both.0 in
      let a-same : a ≡ b = ap (λ n. record { 0 = n }) list in
      let c-same : c ≡ d = ap (λ n. record { kind = n }) (region-back c.kind d.kind both.1) in
      cc
  by-rank (KParam i) (KParam j) h g o p e r = cc
  by-rank (KPlaceholder i) (KPlaceholder j) h g o p e r = cc
  by-rank (KBound i v) (KBound j w) h g o p e r =
      let both = bound-back of_type i j v w (cc) in
      let i-same : i ≡ j = both.0 in
      let v-same : v ≡ w = both.1 in
      cc
  by-rank (KInfer v) (KInfer w) h g o p e r =
      let index : v.index ≡ w.index = cc in
      ap KInfer (ty-vid-back v w index)
  by-rank _ _ h g o p e r = absurd (omega (arith, r))

  kind-same : (a b : TyKind) → KindHeld es a → KindHeld es b → KindOlder k a → KindOlder k b → kind_trees es a ≡ kind_trees es b → a ≡ b
  kind-same a b h g o p e = by-rank a b h g o p e (sym (rank-kind es a) ∙ ap first-rank e ∙ rank-kind es b)

  const-same : (a b : ConstKind) → const_trees a ≡ const_trees b → a ≡ b
  const-same a b e = const-back a b (cc)

  type-is : (i : ℕ) → Has es types i → IsA of_type (trees_at es i)
  type-is i h = rw h.1 ((sorted i _ h.1).as_type refl)

  const-is : (i : ℕ) → Has es consts i → IsA of_const (trees_at es i)
  const-is i h = rw h.1 ((sorted i _ h.1).as_const refl)

  -- ---- arguments
  arg-sort : (a : GenericArgKind) → ArgHeld es a → SortIs (sort-of-arg a) (arg_trees es a)
  arg-sort (Lifetime r) h = region-sort r
  arg-sort (AType t) h = type-sort _ (type-is t.0 h)
  arg-sort (AConst c) h = const-sort _ (const-is c.0 h)

  by-sort : (a b : GenericArgKind) → ArgHeld es a → ArgHeld es b → ArgOlder k a → ArgOlder k b → arg_trees es a ≡ arg_trees es b → sort-of-arg a ≡ sort-of-arg b → a ≡ b
  by-sort (Lifetime r) (Lifetime s) h g o p e t = ap Lifetime (region-same r s none none (ap (λ z. z +++ none) e)).0
  by-sort (AType t) (AType u) h g o p e s = ap AType (ty-back t u (same-child types t.0 u.0 h g o p e))
  by-sort (AConst t) (AConst u) h g o p e s = let n : t.0 ≡ u.0 = same-child consts t.0 u.0 h g o p e in ap (λ m. AConst (record { 0 = m })) n
  by-sort _ _ h g o p e s = cc

  arg-same : (a b : GenericArgKind) → ArgHeld es a → ArgHeld es b → ArgOlder k a → ArgOlder k b → arg_trees es a ≡ arg_trees es b → a ≡ b
  arg-same a b h g o p e = by-sort a b h g o p e (two-sorts _ _ (arg_trees es b) (subst (SortIs (sort-of-arg a)) e (arg-sort a h)) (arg-sort b g))

  args-same : (xs ys : List GenericArgKind) → ArgsHeld es xs → ArgsHeld es ys → ArgsOlder k xs → ArgsOlder k ys → args_trees es xs ≡ args_trees es ys → xs ≡ ys
  args-same [] [] h g o p e = refl
  args-same [] (y ∷ ys) h g o p e = absurd (not-none (arg_trees es y) (args_trees es ys) (arg-single es sorted y g.0) e)
  args-same (x ∷ xs) [] h g o p e = absurd (not-none (arg_trees es x) (args_trees es xs) (arg-single es sorted x h.0) (sym e))
  args-same (x ∷ xs) (y ∷ ys) h g o p e =
      let both = single-append (arg_trees es x) (arg_trees es y) (args_trees es xs) (args_trees es ys) (arg-single es sorted x h.0) (arg-single es sorted y g.0) e in
      let head : x ≡ y = arg-same x y h.0 g.0 o.0 p.0 both.0 in
      let tail : xs ≡ ys = args-same xs ys h.1 g.1 o.1 p.1 both.1 in
      cc

  tys-same : (xs ys : List of-ty.Ty) → TysHeld es xs → TysHeld es ys → TysOlder k xs → TysOlder k ys → tys_trees es xs ≡ tys_trees es ys → xs ≡ ys
  tys-same [] [] h g o p e = refl
  tys-same [] (y ∷ ys) h g o p e = absurd (not-none (trees_at es y.0) (tys_trees es ys) (type-single es sorted y.0 g.0) e)
  tys-same (x ∷ xs) [] h g o p e = absurd (not-none (trees_at es x.0) (tys_trees es xs) (type-single es sorted x.0 h.0) (sym e))
  tys-same (x ∷ xs) (y ∷ ys) h g o p e =
      let both = single-append (trees_at es x.0) (trees_at es y.0) (tys_trees es xs) (tys_trees es ys) (type-single es sorted x.0 h.0) (type-single es sorted y.0 g.0) e in
      let head : x ≡ y = ty-back x y (same-child types x.0 y.0 h.0 g.0 o.0 p.0 both.0) in
      let tail : xs ≡ ys = tys-same xs ys h.1 g.1 o.1 p.1 both.1 in
      cc

  -- ---- bounds
  principal-same : (a b : Option Principal) (xs ys : List TraitId) → PrincipalHeld es a → PrincipalHeld es b → PrincipalOlder k a → PrincipalOlder k b
      → principal_trees es a +++ autos_trees xs ≡ principal_trees es b +++ autos_trees ys → (a ≡ b) × (xs ≡ ys)
  principal-same None None xs ys h g o p e = (refl, autos-same xs ys e)
  principal-same None (Some b) [] ys h g o p e = cc
  principal-same None (Some b) (x ∷ xs) ys h g o p e = cc
  principal-same (Some a) None xs [] h g o p e = cc
  principal-same (Some a) None xs (y ∷ ys) h g o p e = cc
  principal-same (Some a) (Some b) xs ys h g o p e =
      let count : a.bound_vars ≡ b.bound_vars = cc in
      let trait-number : a.def_id.index ≡ b.def_id.index = cc in
      let children : trees_at es a.args.0 ≡ trees_at es b.args.0 = cc in
      let rest : autos_trees xs ≡ autos_trees ys = cc in
      let list : a.args.0 ≡ b.args.0 = same-child args_lists a.args.0 b.args.0 h g o p children in
      (ap Some (principal-back a b count (trait-back a.def_id b.def_id trait-number) (ap (λ n. record { 0 = n }) list)), autos-same xs ys rest)

  pub node-same : (m n : Node) → Held es m → Held es n → NodeOlder k m → NodeOlder k n → node_entry es m ≡ node_entry es n → SameNode m n
  node-same (Ty a) (Ty b) h g o p e = kind-same a b h g o p (ap (λ x. x.trees) e)
  node-same (Const a) (Const b) h g o p e = const-same a b (ap (λ x. x.trees) e)
  node-same (Args a) (Args b) h g o p e = args-same a.items b.items h g o p (ap (λ x. x.trees) e)
  node-same (Tys a) (Tys b) h g o p e = tys-same a.items b.items h g o p (ap (λ x. x.trees) e)
  node-same (Bounds a) (Bounds b) h g o p e = principal-same a.principal b.principal a.autos.items b.autos.items h.0 g.0 o p (ap (λ x. x.trees) e)
  node-same _ _ h g o p e = absurd (omega (arith, ap (λ x. x.kind) e))

-- ---- by induction on the larger handle
kind-more : (n k : ℕ) (x : TyKind) → n ≤ k → KindOlder n x → KindOlder k x
kind-more n k (Adt d a) h o = omega arith
kind-more n k (Ref r t m) h o = omega arith
kind-more n k (RawPtr t m) h o = omega arith
kind-more n k (KArray t c) h o = (omega arith, omega arith)
kind-more n k (KSlice t) h o = omega arith
kind-more n k (Tuple t) h o = omega arith
kind-more n k (FnPtr c t) h o = omega arith
kind-more n k (Dynamic b r) h o = omega arith
kind-more n k x h o = tt

args-more : (n k : ℕ) (xs : List GenericArgKind) → n ≤ k → ArgsOlder n xs → ArgsOlder k xs
args-more n k [] h o = tt
args-more n k (Lifetime r ∷ xs) h o = (tt, args-more n k xs h o.1)
args-more n k (AType t ∷ xs) h o = (omega arith, args-more n k xs h o.1)
args-more n k (AConst t ∷ xs) h o = (omega arith, args-more n k xs h o.1)

tys-more : (n k : ℕ) (xs : List of-ty.Ty) → n ≤ k → TysOlder n xs → TysOlder k xs
tys-more n k [] h o = tt
tys-more n k (t ∷ xs) h o = (omega arith, tys-more n k xs h o.1)

principal-more : (n k : ℕ) (p : Option Principal) → n ≤ k → PrincipalOlder n p → PrincipalOlder k p
principal-more n k None h o = tt
principal-more n k (Some p) h o = omega arith

node-more : (n k : ℕ) (x : Node) → n ≤ k → NodeOlder n x → NodeOlder k x
node-more n k (Ty x) h o = kind-more n k x h o
node-more n k (Const x) h o = tt
node-more n k (Args x) h o = args-more n k x.items h o
node-more n k (Tys x) h o = tys-more n k x.items h o
node-more n k (Bounds x) h o = principal-more n k x.principal h o

module _ (ns : List Node) (older : Older [] ns) (distinct : IsDistinct ghosts.eq ns) where
  node-there : (i : ℕ) (e : Entry) → slice_get (grow [] ns) i ≡ Some e → (n : Node) × (slice_get ns i ≡ Some n)
  node-there i e h = by (slice_get_cases ns i).1
    where
      by : ((x : Node) × (i < length ns) × (slice_get ns i ≡ Some x) × (get_or ns i x ≡ x)) ⊎ ((length ns ≤ i) × (slice_get ns i ≡ None)) → (n : Node) × (slice_get ns i ≡ Some n)
      by (inl x) = (x.0, x.2)
      by (inr x) = let lt = slice_get_within (grow [] ns) i e h in absurd (omega (arith, length-grow [] ns))

  below : (k i j : ℕ) (e : Entry) → i < k → j < k → slice_get (grow [] ns) i ≡ Some e → slice_get (grow [] ns) j ≡ Some e → i ≡ j
  below zero i j e li lj hi hj = absurd (omega arith)
  below (suc k) i j e li lj hi hj =
      let m = node-there i e hi in
      let n = node-there j e hj in
      let at-m = entry-of-key ns i m.0 older m.1 in
      let at-n = entry-of-key ns j n.0 older n.1 in
      let same : node_entry (grow [] ns) m.0 ≡ node_entry (grow [] ns) n.0 = cc in
      let old-m = node-more i k m.0 (omega arith) (older-of-key ns i m.0 older m.1) in
      let old-n = node-more j k n.0 (omega arith) (older-of-key ns j n.0 older n.1) in
      distinct-nodes ns distinct i j m.0 n.0 m.1 n.1
      (node-same (grow [] ns) (sorted-all ns) k (λ a b f la lb ha hb. below k a b f la lb ha hb) m.0 n.0 at-m.1 at-n.1 old-m old-n same)

  pub unique-handles : Distinct (grow [] ns)
  unique-handles i j e hi hj = below (suc (i + j)) i j e (omega arith) (omega arith) hi hj

-- a node that is not found has an entry that no handle has
split-none : {A : Type 0} (b : Bool) (a : A) (r : Option A) → cond b (Some a) r ≡ None → (b ≡ false) × (r ≡ None)
split-none false a r h = (refl, h)
split-none true a r h = cc

none-equal : {A : Type 0} (p : Node → Bool) (pairs : List (Node × A)) → lookup p pairs ≡ None → (i : ℕ) (m : Node) → slice_get (map (λ x. x.0) pairs) i ≡ Some m → p m ≡ false
none-equal p [] h i m g = cc
none-equal p (x ∷ pairs) h zero m g =
    let same : x.0 ≡ m = cc in
    subst (λ y. p y ≡ false) same (split-none (p x.0) x.1 (lookup p pairs) h).0
none-equal p (x ∷ pairs) h (suc i) m g = none-equal p pairs (split-none (p x.0) x.1 (lookup p pairs) h).1 i m g

pub absent-entry : {A : Type 0} (pairs : List (Node × A)) → let ns = map (λ x. x.0) pairs in Older [] ns → IsDistinct ghosts.eq ns → (n : Node) → Held (grow [] ns) n
    → lookup (ghosts.eq n) pairs ≡ None → Absent (node_entry (grow [] ns) n) (grow [] ns)
absent-entry pairs older distinct n held missing i h =
    let ns = map (λ x. x.0) pairs in
    let m = node-there ns older distinct i _ h in
    let at = entry-of-key ns i m.0 older m.1 in
    let k = length (grow [] ns) in
    let lt = slice_get_within (grow [] ns) i _ h in
    let same : node_entry (grow [] ns) n ≡ node_entry (grow [] ns) m.0 = cc in
    let old-n = node-older (grow [] ns) k refl n held in
    let old-m = node-more i k m.0 (omega arith) (older-of-key ns i m.0 older m.1) in
    let is = node-same (grow [] ns) (sorted-all ns) k (λ a b f la lb ha hb. below ns older distinct k a b f la lb ha hb) n m.0 held at.1 old-n old-m same in
    let yes : ghosts.eq n m.0 ≡ true = (node-eq n m.0).1 is in
    let no : ghosts.eq n m.0 ≡ false = none-equal (ghosts.eq n) pairs missing i m.0 m.1 in
    cc
