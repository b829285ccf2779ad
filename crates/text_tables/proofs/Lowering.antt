-- The terms that are made of what stood on the stack.
use Rattle.std.proofs.Common.{◌≡◌, ℕ, zero, suc, ◌+◌, Bool, true, false, List, [], ◌∷◌, ◌++◌, length, length-append, map, drop, Option, Some, None, IsSome, refl, sym, ap, ◌∙◌, subst, arith, inl, inr}
use Rattle.std.proofs.lemmas.Bool.{cases_Bool}
use Rattle.std.proofs.lemmas.List.{length-map}
use Rattle.std.specs.Option.{option_map, option_and_then}
use Rattle.type_terms.specs.Promised.Label.{Label, of_type, bool, char, str, never, array, tuple, dynamic, int, uint, adt, fn_ptr, ref, auto_trait, principal, param, placeholder, infer}
use Rattle.type_terms.specs.Promised.Trees.{Trees, none, tree, leaf, ◌+++◌, IsA}
use Rattle.type_terms.specs.Trees.{is_no_tree}
use Rattle.type_terms.specs.Promised.Handles.{Entry, Is, Has, Keeps, types, consts, bounds_lists, trees_at}
use Rattle.type_terms.specs.Terms.{args_lists, type_lists, Lawful}
use Rattle.type_terms.specs.Kinds.{kind_trees, const_label, args_trees, tys_trees, principal_trees, autos_trees, is_mut, int_number, uint_number, KindHeld, TysHeld, PrincipalHeld}
use Rattle.type_terms.specs.Promised.Handles.{region_trees, ArgHeld, ArgsHeld}
use Rattle.type_terms.specs.declared.AdtId.{AdtId}
use Rattle.type_terms.specs.declared.TraitId.{TraitId}
use Rattle.type_terms.specs.declared.region.Region.{Region}
use Rattle.type_terms.specs.declared.kinds.Ty.{Ty}
use Rattle.type_terms.specs.declared.kinds.Const.{Const}
use Rattle.type_terms.specs.declared.kinds.Mutability.{Mutability}
use Rattle.type_terms.specs.declared.kinds.Principal.{Principal}
use Rattle.type_terms.specs.declared.kinds.ConstKind.{ConstKind}
use Rattle.type_terms.specs.declared.kinds.TyKind.{TyKind}
use Rattle.type_terms.specs.declared.kinds.GenericArgKind.{GenericArgKind}
use Rattle.type_terms.specs.declared.kinds.GenericArgKind.TheVariants as args
use Rattle.text_tables.specs.declared.cell.TermCell.{TermCell}
use Rattle.text_tables.specs.declared.cell.TermCell.TheVariants as cells
use Rattle.text_tables.specs.TermCells as cell
use Rattle.text_tables.specs.TermCells.{gathered, below, behind_cell}
use Rattle.text_tables.specs.Made.{StackPart, type_part, const_part, lifetime_part, principal_part, auto_part, off, off_autos, off_principal, is_below, is_type, is_arg, parts_behind}
use Rattle.text_tables.specs.Views.{cell_of}
use Rattle.text_tables.specs.declared.stack.Lowered.{Lowered}
use Rattle.text_tables.specs.declared.stack.Lowered.TheVariants as lowered
use Rattle.text_tables.specs.Stack.{pushed_parts, part_of, tree_of, trees_of_stack, LoweredHeld, StackHeld, lowered_arg, lowered_type, lowered_auto, PopsPrincipal}
use Rattle.text_tables.proofs.Stacks.{pushed-push}
use Rattle.text_tables.specs.Lowers.{Lowers, IsLeafOf}
use Rattle.type_terms.proofs.TermBasics.{and-none, assoc}

-- ---- handles
pub is-tree : (es : List Entry) (kind i : ℕ) (t : Trees) → Is es kind i t → trees_at es i ≡ t
is-tree es kind i t is = rw is refl

kept-tree : (old new : List Entry) (kind i : ℕ) → Keeps old new → Has old kind i → trees_at new i ≡ trees_at old i
kept-tree old new kind i keeps (t, is) = is-tree new kind i t (keeps i _ is) ∙ sym (is-tree old kind i t is)

pub kept-term : (old new : List Entry) (x : Lowered) → Keeps old new → LoweredHeld old x → tree_of new x ≡ tree_of old x
kept-term old new (lowered.Type t) keeps h = kept-tree old new types t.0 keeps h
kept-term old new (lowered.Const c) keeps h = kept-tree old new consts c.0 keeps h
kept-term old new (lowered.Lifetime r) keeps h = refl
kept-term old new (lowered.Principal p) keeps h = ap (λ t. tree (principal p.bound_vars p.def_id.index) t none) (kept-tree old new args_lists p.args.0 keeps h)
kept-term old new (lowered.Auto t) keeps h = refl

pub kept-held : (old new : List Entry) (x : Lowered) → Keeps old new → LoweredHeld old x → LoweredHeld new x
kept-held old new (lowered.Type t) keeps (a, is) = (a, keeps t.0 _ is)
kept-held old new (lowered.Const c) keeps (a, is) = (a, keeps c.0 _ is)
kept-held old new (lowered.Lifetime r) keeps h = h
kept-held old new (lowered.Principal p) keeps (a, is) = (a, keeps p.args.0 _ is)
kept-held old new (lowered.Auto t) keeps h = h

pub kept-trees : (old new : List Entry) (S : List Lowered) → Keeps old new → StackHeld old S → trees_of_stack new S ≡ trees_of_stack old S
kept-trees old new [] keeps h = refl
kept-trees old new (x ∷ S) keeps h = ap (λ t. t ∷ trees_of_stack new S) (kept-term old new x keeps h.0) ∙ ap (λ r. tree_of old x ∷ r) (kept-trees old new S keeps h.1)

pub kept-stack : (old new : List Entry) (S : List Lowered) → Keeps old new → StackHeld old S → StackHeld new S
kept-stack old new [] keeps h = tt
kept-stack old new (x ∷ S) keeps h = (kept-held old new x keeps h.0, kept-stack old new S keeps h.1)

pub keeps-then : (a b c : List Entry) → Keeps a b → Keeps b c → Keeps a c
keeps-then a b c p q = λ i e h. q i e (p i e h)

-- ---- what was pushed_parts is the interner's
pub held-pushed : (es : List Entry) (xs S : List Lowered) → StackHeld es (pushed_parts xs S) → StackHeld es xs × StackHeld es S
held-pushed es [] S h = (tt, h)
held-pushed es (x ∷ xs) S h = let r = held-pushed es xs (x ∷ S) h in ((r.1.0, r.0), r.1.1)

arg-held : (es : List Entry) (a : GenericArgKind) → LoweredHeld es (lowered_arg a) → ArgHeld es a
arg-held es (args.Ty t) h = h
arg-held es (args.Const c) h = h
arg-held es (args.Lifetime r) h = h

pub args-held : (es : List Entry) (xs : List GenericArgKind) → StackHeld es (map lowered_arg xs) → ArgsHeld es xs
args-held es [] h = tt
args-held es (a ∷ xs) h = (arg-held es a h.0, args-held es xs h.1)

pub tys-held : (es : List Entry) (ts : List Ty) → StackHeld es (map lowered_type ts) → TysHeld es ts
tys-held es [] h = tt
tys-held es (t ∷ ts) h = (h.0, tys-held es ts h.1)

-- ---- their trees
abbrev pub trees_joined : List Entry → List Lowered → Trees
trees_joined es [] = none
trees_joined es (x ∷ xs) = tree_of es x +++ trees_joined es xs

gathered-pushed : (es : List Entry) (xs : List Lowered) (j : ℕ) (S : List Lowered) (o : Trees) → gathered (length xs + j) (trees_of_stack es (pushed_parts xs S)) o ≡ gathered j (trees_of_stack es S) (trees_joined es xs +++ o)
gathered-pushed es [] j S o = let e : 0 + j ≡ j = omega arith in ap (λ k. gathered k (trees_of_stack es S) o) e
gathered-pushed es (x ∷ xs) j S o =
    let e : suc (length xs) + j ≡ length xs + suc j = omega arith in
    ap (λ k. gathered k (trees_of_stack es (pushed_parts xs (x ∷ S))) o) e ∙ gathered-pushed es xs (suc j) (x ∷ S) o ∙ ap (gathered j (trees_of_stack es S)) (sym (assoc (tree_of es x) (trees_joined es xs) o))

below-pushed : (es : List Entry) (xs : List Lowered) (j : ℕ) (S : List Lowered) → below (length xs + j) (trees_of_stack es (pushed_parts xs S)) ≡ below j (trees_of_stack es S)
below-pushed es [] j S = let e : 0 + j ≡ j = omega arith in ap (λ k. below k (trees_of_stack es S)) e
below-pushed es (x ∷ xs) j S =
    let e : suc (length xs) + j ≡ length xs + suc j = omega arith in
    ap (λ k. below k (trees_of_stack es (pushed_parts xs (x ∷ S)))) e ∙ below-pushed es xs (suc j) (x ∷ S)

node-pushed : (es : List Entry) (l : Label) (n : ℕ) (xs S : List Lowered) → length xs ≡ n
    → behind_cell (cell.node_cell l n) (trees_of_stack es (pushed_parts xs S)) ≡ tree l (trees_joined es xs) none ∷ trees_of_stack es S
node-pushed es l n xs S long =
    let e : n ≡ length xs + 0 = omega (arith, long) in
    ap (λ k. behind_cell (cell.node_cell l k) (trees_of_stack es (pushed_parts xs S))) e
    ∙ ap (λ c. tree l c none ∷ below (length xs + 0) (trees_of_stack es (pushed_parts xs S))) (gathered-pushed es xs 0 S none ∙ and-none (trees_joined es xs))
    ∙ ap (λ r. tree l (trees_joined es xs) none ∷ r) (below-pushed es xs 0 S)

pub args-joined : (es : List Entry) (xs : List GenericArgKind) → trees_joined es (map lowered_arg xs) ≡ args_trees es xs
args-joined es [] = refl
args-joined es (args.Ty t ∷ xs) = ap (λ o. trees_at es t.0 +++ o) (args-joined es xs)
args-joined es (args.Const c ∷ xs) = ap (λ o. trees_at es c.0 +++ o) (args-joined es xs)
args-joined es (args.Lifetime r ∷ xs) = ap (λ o. region_trees r +++ o) (args-joined es xs)

tys-joined : (es : List Entry) (ts : List Ty) → trees_joined es (map lowered_type ts) ≡ tys_trees es ts
tys-joined es [] = refl
tys-joined es (t ∷ ts) = ap (λ o. trees_at es t.0 +++ o) (tys-joined es ts)

-- ---- their parts
off-args : (xs : List GenericArgKind) (j : ℕ) (S : List Lowered) → off is_arg (length xs + j) (map part_of (pushed_parts (map lowered_arg xs) S)) ≡ off is_arg j (map part_of S)
off-args [] j S = let e : 0 + j ≡ j = omega arith in ap (λ k. off is_arg k (map part_of S)) e
off-args (args.Ty t ∷ xs) j S = let e : suc (length xs) + j ≡ length xs + suc j = omega arith in ap (λ k. off is_arg k (map part_of (pushed_parts (map lowered_arg xs) (lowered.Type t ∷ S)))) e ∙ off-args xs (suc j) (lowered.Type t ∷ S)
off-args (args.Const c ∷ xs) j S = let e : suc (length xs) + j ≡ length xs + suc j = omega arith in ap (λ k. off is_arg k (map part_of (pushed_parts (map lowered_arg xs) (lowered.Const c ∷ S)))) e ∙ off-args xs (suc j) (lowered.Const c ∷ S)
off-args (args.Lifetime r ∷ xs) j S = let e : suc (length xs) + j ≡ length xs + suc j = omega arith in ap (λ k. off is_arg k (map part_of (pushed_parts (map lowered_arg xs) (lowered.Lifetime r ∷ S)))) e ∙ off-args xs (suc j) (lowered.Lifetime r ∷ S)

off-types : (ts : List Ty) (j : ℕ) (S : List Lowered) → off is_type (length ts + j) (map part_of (pushed_parts (map lowered_type ts) S)) ≡ off is_type j (map part_of S)
off-types [] j S = let e : 0 + j ≡ j = omega arith in ap (λ k. off is_type k (map part_of S)) e
off-types (t ∷ ts) j S = let e : suc (length ts) + j ≡ length ts + suc j = omega arith in ap (λ k. off is_type k (map part_of (pushed_parts (map lowered_type ts) (lowered.Type t ∷ S)))) e ∙ off-types ts (suc j) (lowered.Type t ∷ S)

all-args : (xs : List GenericArgKind) (n : ℕ) (S R : List Lowered) → length xs ≡ n → S ≡ pushed_parts (map lowered_arg xs) R → off is_arg n (map part_of S) ≡ Some (map part_of R)
all-args xs n S R long is = let e : n ≡ length xs + 0 = omega (arith, long) in ap (λ T. off is_arg n (map part_of T)) is ∙ ap (λ k. off is_arg k (map part_of (pushed_parts (map lowered_arg xs) R))) e ∙ off-args xs 0 R

all-types : (ts : List Ty) (n : ℕ) (S R : List Lowered) → length ts ≡ n → S ≡ pushed_parts (map lowered_type ts) R → off is_type n (map part_of S) ≡ Some (map part_of R)
all-types ts n S R long is = let e : n ≡ length ts + 0 = omega (arith, long) in ap (λ T. off is_type n (map part_of T)) is ∙ ap (λ k. off is_type k (map part_of (pushed_parts (map lowered_type ts) R))) e ∙ off-types ts 0 R

-- what holds of what is inside
pub inside-made : {A B : Type 0} (f : A → B) (o : Option A) → IsSome (option_map f o) → IsSome o
inside-made f None h = absurd cc
inside-made f (Some x) h = refl

pub first-made : {A B : Type 0} (f : A → Option B) (o : Option A) → IsSome (option_and_then f o) → IsSome o
first-made f None h = absurd cc
first-made f (Some x) h = refl

-- ---- one cell
-- a node over what was pushed_parts
pub node-lowers : (c : TermCell) (l : Label) (n : ℕ) (xs : List Lowered) (old new : List Entry) (S R : List Lowered) (x : Lowered) → cell_of c ≡ cell.node_cell l n → S ≡ pushed_parts xs R → length xs ≡ n
    → parts_behind c (map part_of S) ≡ Some (part_of x ∷ map part_of R) → StackHeld old S → Keeps old new → LoweredHeld new x → tree_of new x ≡ tree l (trees_joined old xs) none
    → Lowers c old new S x R
node-lowers c l n xs old new S R x node is long parts held keeps there made =
    let both = held-pushed old xs R (subst (StackHeld old) is held) in
    record {
      parts = parts;
      trees =
          ap (λ a. behind_cell a (trees_of_stack old S)) node
          ∙ ap (λ T. behind_cell (cell.node_cell l n) (trees_of_stack old T)) is
          ∙ node-pushed old l n xs R long
          ∙ ap (λ t. t ∷ trees_of_stack old R) (sym made)
          ∙ ap (λ r. tree_of new x ∷ r) (sym (kept-trees old new R keeps both.1));
      term_held = there;
      stack_held = kept-stack old new R keeps both.1;
      keeps = keeps;
    }

leaf-facts : (c : TermCell) (k : TyKind) → IsLeafOf c k → (l : Label) × (cell_of c ≡ cell.node_cell l 0) × ((es : List Entry) → kind_trees es k ≡ leaf l) × ((S : List StackPart) → parts_behind c S ≡ Some (type_part ∷ S)) × ((es : List Entry) → KindHeld es k)
leaf-facts cells.Bool k e = (bool, refl, λ es. ap (kind_trees es) e, λ S. refl, λ es. subst (KindHeld es) (sym e) tt)
leaf-facts cells.Char k e = (char, refl, λ es. ap (kind_trees es) e, λ S. refl, λ es. subst (KindHeld es) (sym e) tt)
leaf-facts cells.Str k e = (str, refl, λ es. ap (kind_trees es) e, λ S. refl, λ es. subst (KindHeld es) (sym e) tt)
leaf-facts cells.Never k e = (never, refl, λ es. ap (kind_trees es) e, λ S. refl, λ es. subst (KindHeld es) (sym e) tt)
leaf-facts (cells.Int w) k e = (int (int_number w), refl, λ es. ap (kind_trees es) e, λ S. refl, λ es. subst (KindHeld es) (sym e) tt)
leaf-facts (cells.Uint w) k e = (uint (uint_number w), refl, λ es. ap (kind_trees es) e, λ S. refl, λ es. subst (KindHeld es) (sym e) tt)
leaf-facts (cells.Param i) k e = (param of_type i, refl, λ es. ap (kind_trees es) e, λ S. refl, λ es. subst (KindHeld es) (sym e) tt)
leaf-facts (cells.Placeholder i) k e = (placeholder of_type i, refl, λ es. ap (kind_trees es) e, λ S. refl, λ es. subst (KindHeld es) (sym e) tt)
leaf-facts (cells.Infer v) k e = (infer of_type v.index, refl, λ es. ap (kind_trees es) e, λ S. refl, λ es. subst (KindHeld es) (sym e) tt)
leaf-facts _ k e = absurd e

pub leaf-held : (c : TermCell) (k : TyKind) (es : List Entry) → IsLeafOf c k → KindHeld es k
leaf-held c k es e = (leaf-facts c k e).4 es

pub leaf-lowers : (c : TermCell) (k : TyKind) (old new : List Entry) (h : Ty) → IsLeafOf c k → Is new types h.0 (kind_trees old k) → Keeps old new → (S : List Lowered) → StackHeld old S → Lowers c old new S (lowered.Type h) S
leaf-lowers c k old new h e is keeps S held =
    let facts = leaf-facts c k e in
    node-lowers c facts.0 0 [] old new S S (lowered.Type h) facts.1 refl refl (facts.3 (map part_of S)) held keeps (kind_trees old k, is) (is-tree new types h.0 (kind_trees old k) is ∙ facts.2 old)

pub const-lowers : (k : ConstKind) (old new : List Entry) (h : Const) → Is new consts h.0 (leaf (const_label k)) → Keeps old new → (S : List Lowered) → StackHeld old S → Lowers (cells.Const k) old new S (lowered.Const h) S
const-lowers k old new h is keeps S held = node-lowers (cells.Const k) (const_label k) 0 [] old new S S (lowered.Const h) refl refl refl refl held keeps (leaf (const_label k), is) (is-tree new consts h.0 (leaf (const_label k)) is)

-- a type over arguments, which were made a list first
pub adt-lowers : (s : AdtId) (n : ℕ) (xs : List GenericArgKind) (old mid new : List Entry) (S R : List Lowered) (k : ℕ) (h : Ty) → S ≡ pushed_parts (map lowered_arg xs) R → length xs ≡ n → StackHeld old S
    → Is mid args_lists k (args_trees old xs) → Keeps old mid → Is new types h.0 (tree (adt s.index) (trees_at mid k) none) → Keeps mid new → Lowers (cells.Adt s n) old new S (lowered.Type h) R
adt-lowers s n xs old mid new S R k h is long held list first made second =
    node-lowers (cells.Adt s n) (adt s.index) n (map lowered_arg xs) old new S R (lowered.Type h) refl is (length-map xs lowered_arg ∙ long)
    (ap (option_map (λ T. type_part ∷ T)) (all-args xs n S R long is)) held (keeps-then old mid new first second) (_, made)
    (is-tree new types h.0 _ made ∙ ap (λ t. tree (adt s.index) t none) (is-tree mid args_lists k _ list ∙ sym (args-joined old xs)))

pub tuple-lowers : (n : ℕ) (ts : List Ty) (old mid new : List Entry) (S R : List Lowered) (k : ℕ) (h : Ty) → S ≡ pushed_parts (map lowered_type ts) R → length ts ≡ n → StackHeld old S
    → Is mid type_lists k (tys_trees old ts) → Keeps old mid → Is new types h.0 (tree tuple (trees_at mid k) none) → Keeps mid new → Lowers (cells.Tuple n) old new S (lowered.Type h) R
tuple-lowers n ts old mid new S R k h is long held list first made second =
    node-lowers (cells.Tuple n) tuple n (map lowered_type ts) old new S R (lowered.Type h) refl is (length-map ts lowered_type ∙ long)
    (ap (option_map (λ T. type_part ∷ T)) (all-types ts n S R long is)) held (keeps-then old mid new first second) (_, made)
    (is-tree new types h.0 _ made ∙ ap (λ t. tree tuple t none) (is-tree mid type_lists k _ list ∙ sym (tys-joined old ts)))

-- a type over one type
pub over-lowers : (c : TermCell) (l : Label) (t : Ty) (old new : List Entry) (S R : List Lowered) (h : Ty) → cell_of c ≡ cell.node_cell l 1
    → ((T : List StackPart) → parts_behind c (type_part ∷ T) ≡ Some (type_part ∷ T)) → S ≡ lowered.Type t ∷ R → StackHeld old S → Is new types h.0 (tree l (trees_at old t.0) none) → Keeps old new
    → Lowers c old new S (lowered.Type h) R
over-lowers c l t old new S R h node parts is held made keeps =
    node-lowers c l 1 (lowered.Type t ∷ []) old new S R (lowered.Type h) node is refl (ap (λ T. parts_behind c (map part_of T)) is ∙ parts (map part_of R)) held keeps (_, made)
    (is-tree new types h.0 _ made ∙ ap (λ o. tree l o none) (sym (and-none (trees_at old t.0))))

pub ref-lowers : (r : Region) (m : Mutability) (t : Ty) (old new : List Entry) (S R : List Lowered) (h : Ty) → S ≡ lowered.Type t ∷ R → StackHeld old S
    → Is new types h.0 (tree (ref (is_mut m)) (region_trees r +++ trees_at old t.0) none) → Keeps old new → Lowers (cells.Ref r m) old new S (lowered.Type h) R
ref-lowers r m t old new S R h is held made keeps =
    let both : StackHeld old (lowered.Type t ∷ R) = subst (StackHeld old) is held in
    record {
      parts = ap (λ T. parts_behind (cells.Ref r m) (map part_of T)) is;
      trees =
          ap (λ T. behind_cell (cell_of (cells.Ref r m)) (trees_of_stack old T)) is
          ∙ ap (λ x. x ∷ trees_of_stack old R) (sym (is-tree new types h.0 _ made))
          ∙ ap (λ o. trees_at new h.0 ∷ o) (sym (kept-trees old new R keeps both.1));
      term_held = (_, made);
      stack_held = kept-stack old new R keeps both.1;
      keeps = keeps;
    }

pub array-lowers : (t : Ty) (k : Const) (old new : List Entry) (S T R : List Lowered) (h : Ty) → S ≡ lowered.Const k ∷ T → T ≡ lowered.Type t ∷ R → StackHeld old S
    → Is new types h.0 (tree array (trees_at old t.0 +++ trees_at old k.0) none) → Keeps old new → Lowers cells.Array old new S (lowered.Type h) R
array-lowers t k old new S T R h top next held made keeps =
    let is : S ≡ lowered.Const k ∷ lowered.Type t ∷ R = top ∙ ap (λ U. lowered.Const k ∷ U) next in
    node-lowers cells.Array array 2 (lowered.Type t ∷ lowered.Const k ∷ []) old new S R (lowered.Type h) refl is refl
    (ap (λ U. parts_behind cells.Array (map part_of U)) is) held keeps (_, made)
    (is-tree new types h.0 _ made ∙ ap (λ o. tree array (trees_at old t.0 +++ o) none) (sym (and-none (trees_at old k.0))))

pub fn-lowers : (b n : ℕ) (ts : List Ty) (old mid new : List Entry) (S R : List Lowered) (k : ℕ) (h : Ty) → IsSome (parts_behind (cells.FnPtr b n) (map part_of S)) → S ≡ pushed_parts (map lowered_type ts) R → length ts ≡ n → StackHeld old S
    → Is mid type_lists k (tys_trees old ts) → Keeps old mid → Is new types h.0 (tree (fn_ptr b) (trees_at mid k) none) → Keeps mid new → Lowers (cells.FnPtr b n) old new S (lowered.Type h) R
fn-lowers b zero ts old mid new S R k h some is long held list first made second = absurd cc
fn-lowers b (suc n) ts old mid new S R k h some is long held list first made second =
    node-lowers (cells.FnPtr b (suc n)) (fn_ptr b) (suc n) (map lowered_type ts) old new S R (lowered.Type h) refl is (length-map ts lowered_type ∙ long)
    (ap (option_map (λ T. type_part ∷ T)) (all-types ts (suc n) S R long is)) held (keeps-then old mid new first second) (_, made)
    (is-tree new types h.0 _ made ∙ ap (λ t. tree (fn_ptr b) t none) (is-tree mid type_lists k _ list ∙ sym (tys-joined old ts)))

one-tree : (T o : Trees) → IsA of_type T → is_no_tree (T +++ o) ≡ false
one-tree none o h = absurd h
one-tree (tree l c p) o h = refl

-- a `fn` has an output
pub fn-output : (b n : ℕ) (ts : List Ty) (es : List Entry) (P : List StackPart) → Lawful es → IsSome (parts_behind (cells.FnPtr b n) P) → length ts ≡ n → TysHeld es ts → is_no_tree (tys_trees es ts) ≡ false
fn-output b zero ts es P lawful some long held = absurd cc
fn-output b (suc n) [] es P lawful some long held = absurd (omega (arith, long))
fn-output b (suc n) (t ∷ ts) es P lawful some long ((T, is), held) =
    ap (λ x. is_no_tree (x +++ tys_trees es ts)) (is-tree es types t.0 T is) ∙ one-tree T (tys_trees es ts) ((lawful.sorted t.0 _ is).as_type refl)

pub fn-made : (b n : ℕ) (P : List StackPart) → IsSome (parts_behind (cells.FnPtr b n) P) → IsSome (off is_type n P)
fn-made b zero P some = absurd cc
fn-made b (suc n) P some = inside-made (λ T. type_part ∷ T) (off is_type (suc n) P) some

pub principal-lowers : (b : ℕ) (t : TraitId) (n : ℕ) (xs : List GenericArgKind) (p : Principal) (old new : List Entry) (S R : List Lowered) → p.bound_vars ≡ b → p.def_id ≡ t → S ≡ pushed_parts (map lowered_arg xs) R → length xs ≡ n → StackHeld old S
    → Is new args_lists p.args.0 (args_trees old xs) → Keeps old new → Lowers (cells.Principal b t n) old new S (lowered.Principal p) R
principal-lowers b t n xs p old new S R vars def is long held list keeps =
    node-lowers (cells.Principal b t n) (principal b t.index) n (map lowered_arg xs) old new S R (lowered.Principal p) refl is (length-map xs lowered_arg ∙ long)
    (ap (option_map (λ T. principal_part ∷ T)) (all-args xs n S R long is)) held keeps (_, list)
    (ap (λ v. tree (principal v p.def_id.index) (trees_at new p.args.0) none) vars ∙ ap (λ d. tree (principal b d.index) (trees_at new p.args.0) none) def
    ∙ ap (λ a. tree (principal b t.index) a none) (is-tree new args_lists p.args.0 _ list ∙ sym (args-joined old xs)))

-- ---- a `dyn`
autos-left : (n : ℕ) (u : Option ℕ) (P : List StackPart) → IsSome (off_autos n u P) → off_autos n u P ≡ Some (drop n P)
autos-left zero u P some = refl
autos-left (suc n) u [] some = absurd cc
autos-left (suc n) u (auto_part t ∷ P) some =
    elim (cases_Bool (is_below t u)) [
      | inl y ↦ let more : IsSome (off_autos n (Some t) P) = rw y at some in rw y (autos-left n (Some t) P more)
      | inr y ↦ let wrong = rw y at some in absurd cc
    ]
autos-left (suc n) u (type_part ∷ P) some = absurd cc
autos-left (suc n) u (const_part ∷ P) some = absurd cc
autos-left (suc n) u (lifetime_part ∷ P) some = absurd cc
autos-left (suc n) u (principal_part ∷ P) some = absurd cc

drop-pushed : (xs : List Lowered) (j : ℕ) (S : List Lowered) → drop (length xs + j) (map part_of (pushed_parts xs S)) ≡ drop j (map part_of S)
drop-pushed [] j S = let e : 0 + j ≡ j = omega arith in ap (λ k. drop k (map part_of S)) e
drop-pushed (x ∷ xs) j S =
    let e : suc (length xs) + j ≡ length xs + suc j = omega arith in
    ap (λ k. drop k (map part_of (pushed_parts xs (x ∷ S)))) e ∙ drop-pushed xs (suc j) (x ∷ S)

-- what is left below the auto traits
pub autos-off : (n : ℕ) (ts : List TraitId) (S R : List Lowered) → IsSome (off_autos n None (map part_of S)) → length ts ≡ n → S ≡ pushed_parts (map lowered_auto ts) R → off_autos n None (map part_of S) ≡ Some (map part_of R)
autos-off n ts S R some long is =
    let e : n ≡ length (map lowered_auto ts) + 0 = omega (arith, long, length-map ts lowered_auto) in
    autos-left n None (map part_of S) some ∙ ap Some (ap (λ T. drop n (map part_of T)) is ∙ ap (λ k. drop k (map part_of (pushed_parts (map lowered_auto ts) R))) e ∙ drop-pushed (map lowered_auto ts) 0 R)

joined-append : (es : List Entry) (xs ys : List Lowered) → trees_joined es (xs ++ ys) ≡ trees_joined es xs +++ trees_joined es ys
joined-append es [] ys = refl
joined-append es (x ∷ xs) ys = ap (λ o. tree_of es x +++ o) (joined-append es xs ys) ∙ sym (assoc (tree_of es x) (trees_joined es xs) (trees_joined es ys))

autos-joined : (es : List Entry) (ts : List TraitId) → trees_joined es (map lowered_auto ts) ≡ autos_trees ts
autos-joined es [] = refl
autos-joined es (t ∷ ts) = ap (λ o. leaf (auto_trait t.index) +++ o) (autos-joined es ts)

bounds-joined : (es : List Entry) (ts : List TraitId) (r : Region) → trees_joined es (map lowered_auto ts ++ lowered.Lifetime r ∷ []) ≡ autos_trees ts +++ region_trees r
bounds-joined es ts r = joined-append es (map lowered_auto ts) (lowered.Lifetime r ∷ []) ∙ ap (λ o. o +++ region_trees r) (autos-joined es ts)

-- the stack of a `dyn`: its auto traits, its lifetime
below-lifetime : (ts : List TraitId) (r : Region) (S T R : List Lowered) → S ≡ lowered.Lifetime r ∷ T → T ≡ pushed_parts (map lowered_auto ts) R → S ≡ pushed_parts (map lowered_auto ts ++ lowered.Lifetime r ∷ []) R
below-lifetime ts r S T R top next = top ∙ ap (λ U. lowered.Lifetime r ∷ U) next ∙ sym (pushed-push (map lowered_auto ts) (lowered.Lifetime r) R)

pub autos-made : (p : Bool) (n : ℕ) (r : Region) (S T : List Lowered) → IsSome (parts_behind (cells.Dynamic p n) (map part_of S)) → S ≡ lowered.Lifetime r ∷ T → IsSome (off_autos n None (map part_of T))
autos-made p n r S T some top =
    let g : IsSome (parts_behind (cells.Dynamic p n) (lifetime_part ∷ map part_of T)) = subst (λ U. IsSome (parts_behind (cells.Dynamic p n) (map part_of U))) top some in
    first-made (off_principal p) (off_autos n None (map part_of T)) (inside-made (λ U. type_part ∷ U) (option_and_then (off_principal p) (off_autos n None (map part_of T))) g)

pub principal-made : (p : Bool) (n : ℕ) (ts : List TraitId) (r : Region) (S T U : List Lowered) → IsSome (parts_behind (cells.Dynamic p n) (map part_of S)) → S ≡ lowered.Lifetime r ∷ T → length ts ≡ n → T ≡ pushed_parts (map lowered_auto ts) U
    → IsSome (off_principal p (map part_of U))
principal-made p n ts r S T U some top long next =
    let g : IsSome (parts_behind (cells.Dynamic p n) (lifetime_part ∷ map part_of T)) = subst (λ V. IsSome (parts_behind (cells.Dynamic p n) (map part_of V))) top some in
    let inner = inside-made (λ V. type_part ∷ V) (option_and_then (off_principal p) (off_autos n None (map part_of T))) g in
    subst (λ o. IsSome (option_and_then (off_principal p) o)) (autos-off n ts T U (autos-made p n r S T some top) long next) inner

pub dyn-lowers : (p : Bool) (n : ℕ) (ts : List TraitId) (r : Region) (q : Option Principal) (old mid new : List Entry) (S T U R : List Lowered) (k : ℕ) (h : Ty) → IsSome (parts_behind (cells.Dynamic p n) (map part_of S))
    → S ≡ lowered.Lifetime r ∷ T → length ts ≡ n → T ≡ pushed_parts (map lowered_auto ts) U → PopsPrincipal p U q R → StackHeld old S
    → Is mid bounds_lists k (principal_trees old q +++ autos_trees ts) → Keeps old mid → Is new types h.0 (tree dynamic (trees_at mid k +++ region_trees r) none) → Keeps mid new
    → Lowers (cells.Dynamic p n) old new S (lowered.Type h) R
dyn-lowers false n ts r q old mid new S T U R k h some top long next pops held list first made second =
    let is = below-lifetime ts r S T R top (next ∙ ap (pushed_parts (map lowered_auto ts)) pops.1) in
    let count : length (map lowered_auto ts ++ lowered.Lifetime r ∷ []) ≡ suc n = length-append (map lowered_auto ts) (lowered.Lifetime r ∷ []) ∙ omega (arith, length-map ts lowered_auto, long) in
    let parts : parts_behind (cells.Dynamic false n) (map part_of S) ≡ Some (type_part ∷ map part_of R) =
    ap (λ V. parts_behind (cells.Dynamic false n) (map part_of V)) top
    ∙ ap (λ o. option_map (λ V. type_part ∷ V) (option_and_then (off_principal false) o)) (autos-off n ts T U (autos-made false n r S T some top) long next)
    ∙ ap (λ V. Some (type_part ∷ map part_of V)) pops.1 in
    let bounds : trees_at mid k ≡ autos_trees ts = is-tree mid bounds_lists k _ list ∙ ap (λ o. principal_trees old o +++ autos_trees ts) pops.0 in
    node-lowers (cells.Dynamic false n) dynamic (suc n) (map lowered_auto ts ++ lowered.Lifetime r ∷ []) old new S R (lowered.Type h) refl is count parts held (keeps-then old mid new first second) (_, made)
    (is-tree new types h.0 _ made ∙ ap (λ b. tree dynamic (b +++ region_trees r) none) bounds ∙ ap (λ o. tree dynamic o none) (sym (bounds-joined old ts r)))
dyn-lowers true n ts r None old mid new S T U R k h some top long next pops held list first made second = absurd pops
dyn-lowers true n ts r (Some p) old mid new S T U R k h some top long next pops held list first made second =
    let is = below-lifetime ts r S T U top next ∙ ap (pushed_parts (map lowered_auto ts ++ lowered.Lifetime r ∷ [])) pops in
    let count : length (lowered.Principal p ∷ (map lowered_auto ts ++ lowered.Lifetime r ∷ [])) ≡ suc (suc n) = ap suc (length-append (map lowered_auto ts) (lowered.Lifetime r ∷ []) ∙ omega (arith, length-map ts lowered_auto, long)) in
    let parts : parts_behind (cells.Dynamic true n) (map part_of S) ≡ Some (type_part ∷ map part_of R) =
    ap (λ V. parts_behind (cells.Dynamic true n) (map part_of V)) top
    ∙ ap (λ o. option_map (λ V. type_part ∷ V) (option_and_then (off_principal true) o)) (autos-off n ts T U (autos-made true n r S T some top) long next)
    ∙ ap (λ V. option_map (λ W. type_part ∷ W) (off_principal true (map part_of V))) pops in
    let root = tree_of old (lowered.Principal p) in
    node-lowers (cells.Dynamic true n) dynamic (suc (suc n)) (lowered.Principal p ∷ (map lowered_auto ts ++ lowered.Lifetime r ∷ [])) old new S R (lowered.Type h) refl is count parts held (keeps-then old mid new first second) (_, made)
    (is-tree new types h.0 _ made ∙ ap (λ b. tree dynamic (b +++ region_trees r) none) (is-tree mid bounds_lists k _ list)
    ∙ ap (λ o. tree dynamic o none) (assoc root (autos_trees ts) (region_trees r) ∙ ap (λ o. root +++ o) (sym (bounds-joined old ts r))))

pub principal-held : (es : List Entry) (p : Bool) (ts : List TraitId) (r : Region) (q : Option Principal) (S T U R : List Lowered) → S ≡ lowered.Lifetime r ∷ T → T ≡ pushed_parts (map lowered_auto ts) U → PopsPrincipal p U q R → StackHeld es S
    → PrincipalHeld es q
principal-held es false ts r q S T U R top next pops held = subst (PrincipalHeld es) (sym pops.0) tt
principal-held es true ts r None S T U R top next pops held = absurd pops
principal-held es true ts r (Some p) S T U R top next pops held =
    let one : StackHeld es (lowered.Lifetime r ∷ T) = subst (StackHeld es) top held in
    let two = held-pushed es (map lowered_auto ts) U (subst (StackHeld es) next one.1) in
    let three : StackHeld es (lowered.Principal p ∷ R) = subst (StackHeld es) pops two.1 in
    three.0
