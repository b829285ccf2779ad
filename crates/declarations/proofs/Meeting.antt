-- Whether trees can become one, node by node and argument by argument.
use Rattle.std.proofs.Common.{◌≡◌, ℕ, zero, suc, Bool, true, false, ◌&&◌, ◌||◌, not, List, [], ◌∷◌, length, Option, Some, None, refl, sym, ap, ◌∙◌, arith}
use Rattle.std.specs.Prelude.{◌==◌, if◌then◌else◌}
use Rattle.std.specs.Cmp.Lexicographic.{pointwise}
use Rattle.type_terms.specs.Promised.Label.{Label, of_type, of_const, of_lifetime, static, fn_ptr, auto_trait, value, principal, param, placeholder, infer, canonical, bound, predicate}
use Rattle.type_terms.specs.Promised.Trees.{Trees, none, tree, leaf, ◌+++◌, erase_label, sort_of, IsA}
use Rattle.type_terms.specs.Trees.{Single}
use Rattle.type_terms.specs.Codes.{same, same_label}
use Rattle.type_terms.specs.Promised.Answers.{is_open}
use Rattle.type_terms.specs.Made.{terms, is_made, is_in_range}
use Rattle.type_terms.specs.Promised.Handles.{Entry, Has, term, types, consts, trees_at}
use Rattle.type_terms.specs.Terms.{Lawful}
use Rattle.type_terms.specs.Kept.{is-at, trees-is}
use Rattle.type_terms.specs.Promised.Handles.{region_label, region_trees, arg_trees, ArgHeld, ArgsHeld}
use Rattle.type_terms.specs.Kinds.{const_label, args_trees, tys_trees, principal_trees, autos_trees, TysHeld}
use Rattle.type_terms.specs.declared.region.Region.{Region}
use Rattle.type_terms.specs.declared.region.RegionKind.{RegionKind}
use Rattle.type_terms.specs.declared.region.RegionKind.TheVariants.{ReStatic, ReEarlyParam, RePlaceholder, ReBound, ReVar}
use Rattle.type_terms.specs.declared.number.BoundVarIndexKind.TheVariants.{Bound as KBinder, Canonical as KCanonical}
use Rattle.type_terms.specs.declared.kinds.ConstKind.{ConstKind}
use Rattle.type_terms.specs.declared.kinds.ConstKind.TheVariants.{Value as CValue, Param as CParam, Placeholder as CPlaceholder, Bound as CBound, Infer as CInfer}
use Rattle.type_terms.specs.declared.kinds.Ty as of_ty
use Rattle.type_terms.specs.declared.kinds.Principal.{Principal}
use Rattle.type_terms.specs.declared.TraitId.{TraitId}
use Rattle.type_terms.specs.contracts.TraitIdPartialEq.TheImpl.{ghosts as trait}
use Rattle.type_terms.specs.declared.kinds.GenericArgKind.{GenericArgKind}
use Rattle.type_terms.specs.declared.kinds.GenericArgKind.TheVariants.{Lifetime, Ty as AType, Const as AConst}
use Rattle.type_terms.proofs.Applies.{same-label-itself, same-complete}
use Rattle.type_terms.proofs.Matching.{same-label-sound, same-sound}
use Rattle.type_terms.proofs.Members.{so-false, self-number}
use Rattle.type_terms.proofs.Made.{false-true}
use Rattle.type_terms.proofs.Items.{type-is-one}
use Rattle.type_terms.proofs.Sorts.{arg-single}
use Rattle.term_folds.specs.Arguments.{arg_sort}
use Rattle.declarations.specs.Apart.{has_parts, tops_may_meet, may_meet, are_apart, is_fixed, levels}
use Rattle.declarations.specs.Heads.{is_rigid, head_of}
use Rattle.declarations.specs.Tops.{top_is_open}
use Rattle.type_terms.proofs.BooleanBasics.{and-false, and-true}
use Rattle.type_terms.proofs.TypeBasics.{region-sort, some-not-none}
use Rattle.type_terms.proofs.NumberBasics.{some-length as some-items}

-- ---- tests
both : (a b : Bool) → a ≡ true → b ≡ true → (a && b) ≡ true
both true true h g = refl
both true false h g = g
both false b h g = h

true-or : (b : Bool) → true ≡ (b || true)
true-or true = refl
true-or false = refl

-- ---- labels
sort-erased : (l : Label) → sort_of (erase_label l) ≡ sort_of l
sort-erased (fn_ptr n) = refl
sort-erased (principal n i) = refl
sort-erased (param of_lifetime i) = refl
sort-erased (placeholder of_lifetime i) = refl
sort-erased (infer of_lifetime i) = refl
sort-erased (canonical of_lifetime i) = refl
sort-erased (bound of_lifetime i j) = refl
sort-erased (param of_type i) = refl
sort-erased (placeholder of_type i) = refl
sort-erased (infer of_type i) = refl
sort-erased (canonical of_type i) = refl
sort-erased (bound of_type i j) = refl
sort-erased (param of_const i) = refl
sort-erased (placeholder of_const i) = refl
sort-erased (infer of_const i) = refl
sort-erased (canonical of_const i) = refl
sort-erased (bound of_const i j) = refl
sort-erased l = refl

pub rigid-closed : (l : Label) → is_rigid l ≡ true → is_open l ≡ false
rigid-closed (param s i) h = absurd (false-true h)
rigid-closed (placeholder s i) h = absurd (false-true h)
rigid-closed (infer s i) h = absurd (false-true h)
rigid-closed (canonical s i) h = absurd (false-true h)
rigid-closed (bound s i j) h = absurd (false-true h)
rigid-closed l h = refl

-- a type's label is rigid or open
rigid-or-open : (l : Label) (c o : Trees) → sort_of l ≡ of_type → is_made is_in_range terms (tree l c o) ≡ true → is_rigid l ≡ not (is_open l)
rigid-or-open static c o s m = cc
rigid-or-open (value n) c o s m = cc
rigid-or-open (principal n t) c o s m = absurd (false-true m)
rigid-or-open (auto_trait t) c o s m = absurd (false-true m)
rigid-or-open (predicate k) c o s m = absurd (false-true m)
rigid-or-open l c o s m = refl

-- ---- nodes
open-left : (l m : Label) (b : Bool) → is_open l ≡ true → tops_may_meet l m b ≡ true
open-left l m b h = ap (λ z. z || (is_open m || (same_label (erase_label l) (erase_label m) && (not (has_parts l) || b)))) h

open-right : (l m : Label) (b : Bool) → is_open m ≡ true → tops_may_meet l m b ≡ true
open-right l m b h = ap (λ z. is_open l || (z || (same_label (erase_label l) (erase_label m) && (not (has_parts l) || b)))) h ∙ sym (true-or (is_open l))

pub closed-tops : (l m : Label) (s b : Bool) → is_open l ≡ false → is_open m ≡ false → same_label (erase_label l) (erase_label m) ≡ s → tops_may_meet l m b ≡ (s && (not (has_parts l) || b))
closed-tops l m s b h g e =
    ap (λ z. z || (is_open m || (same_label (erase_label l) (erase_label m) && (not (has_parts l) || b)))) h
    ∙ ap (λ z. z || (same_label (erase_label l) (erase_label m) && (not (has_parts l) || b))) g
    ∙ ap (λ z. z && (not (has_parts l) || b)) e

unlike-tops : (l m : Label) (b : Bool) → (sort_of l ≡ sort_of m → ⊥) → tops_may_meet l m b ≡ (is_open l || is_open m)
unlike-tops l m b h =
    ap (λ z. is_open l || (is_open m || (z && (not (has_parts l) || b)))) differ ∙ by (is_open l) (is_open m)
  where
    differ : same_label (erase_label l) (erase_label m) ≡ false
    differ =
        so-false (same_label (erase_label l) (erase_label m)) (λ e. h (sym (sort-erased l) ∙ ap sort_of (same-label-sound (erase_label l) (erase_label m) e) ∙ sort-erased m))

    by : (x y : Bool) → (x || (y || false)) ≡ (x || y)
    by true y = refl
    by false true = refl
    by false false = refl

alone : (n : ℕ) (l m : Label) (c d : Trees) → may_meet (suc n) (tree l c none) (tree m d none) ≡ tops_may_meet l m (may_meet n c d)
alone n l m c d = and-true (tops_may_meet l m (may_meet n c d))

tops-itself : (l : Label) (b : Bool) → b ≡ true → tops_may_meet l l b ≡ true
tops-itself l b h = by (is_open l) (same_label (erase_label l) (erase_label l)) (has_parts l) b (same-label-itself (erase_label l)) h
  where
    by : (a s p b : Bool) → s ≡ true → b ≡ true → (a || (a || (s && (not p || b)))) ≡ true
    by true s p b e h = refl
    by false true true b e h = h
    by false true false b e h = refl
    by false false p b e h = e

pub meets-itself : (n : ℕ) (t : Trees) → may_meet n t t ≡ true
meets-itself zero t = refl
meets-itself (suc n) none = refl
meets-itself (suc n) (tree l c o) =
    both (tops_may_meet l l (may_meet n c c)) (may_meet (suc n) o o) (tops-itself l (may_meet n c c) (meets-itself n c)) (meets-itself (suc n) o)

-- ---- lists
pub parted : (n : ℕ) (x y v w : Trees) → Single x → Single y → may_meet (suc n) (x +++ v) (y +++ w) ≡ (may_meet (suc n) x y && may_meet (suc n) v w)
parted n none y v w s u = absurd s
parted n (tree l c o) none v w s u = absurd u
parted n (tree l c o) (tree m d p) v w s u = by o p s u
  where
    by : (o p : Trees) → o ≡ none → p ≡ none → may_meet (suc n) (tree l c (o +++ v)) (tree m d (p +++ w)) ≡ (may_meet (suc n) (tree l c o) (tree m d p) && may_meet (suc n) v w)
    by none none s u = ap (λ z. z && may_meet (suc n) v w) (sym (and-true (tops_may_meet l m (may_meet n c d))))
    by (tree k f g) p s u = cc
    by o (tree k f g) s u = cc

none-left : (n : ℕ) (y w : Trees) → Single y → may_meet (suc n) none (y +++ w) ≡ false
none-left n none w u = absurd u
none-left n (tree m d p) w u = refl

none-right : (n : ℕ) (x v : Trees) → Single x → may_meet (suc n) (x +++ v) none ≡ false
none-right n none v s = absurd s
none-right n (tree l c o) v s = refl

pub no-items : {A : Type 0} (xs : List A) → length xs ≡ 0 → xs ≡ []
no-items [] h = refl
no-items (x ∷ xs) h = absurd (omega arith)

module _ (es : List Entry) (law : Lawful es) (n : ℕ) where
  pub args-parted : (x y : GenericArgKind) (xs ys : List GenericArgKind) → ArgHeld es x → ArgHeld es y
      → may_meet (suc n) (args_trees es (x ∷ xs)) (args_trees es (y ∷ ys)) ≡ (may_meet (suc n) (arg_trees es x) (arg_trees es y) && may_meet (suc n) (args_trees es xs) (args_trees es ys))
  args-parted x y xs ys h g = parted n (arg_trees es x) (arg_trees es y) (args_trees es xs) (args_trees es ys) (arg-single es law.sorted x h) (arg-single es law.sorted y g)

  pub no-more-args : (x : GenericArgKind) (xs : List GenericArgKind) → ArgHeld es x → may_meet (suc n) (args_trees es (x ∷ xs)) none ≡ false
  no-more-args x xs h = none-right n (arg_trees es x) (args_trees es xs) (arg-single es law.sorted x h)

  pub args-ended : (ys : List GenericArgKind) → ArgsHeld es ys → (length ys == 0) ≡ may_meet (suc n) none (args_trees es ys)
  args-ended [] h = refl
  args-ended (y ∷ ys) h = some-items (length ys) ∙ sym (none-left n (arg_trees es y) (args_trees es ys) (arg-single es law.sorted y h.0))

  pub tys-parted : (x y : of_ty.Ty) (xs ys : List of_ty.Ty) → Has es types x.0 → Has es types y.0
      → may_meet (suc n) (tys_trees es (x ∷ xs)) (tys_trees es (y ∷ ys)) ≡ (may_meet (suc n) (trees_at es x.0) (trees_at es y.0) && may_meet (suc n) (tys_trees es xs) (tys_trees es ys))
  tys-parted x y xs ys h g = parted n (trees_at es x.0) (trees_at es y.0) (tys_trees es xs) (tys_trees es ys) (type-is-one es law x.0 h) (type-is-one es law y.0 g)

  pub no-more-tys : (x : of_ty.Ty) (xs : List of_ty.Ty) → Has es types x.0 → may_meet (suc n) (tys_trees es (x ∷ xs)) none ≡ false
  no-more-tys x xs h = none-right n (trees_at es x.0) (tys_trees es xs) (type-is-one es law x.0 h)

  pub tys-ended : (ys : List of_ty.Ty) → TysHeld es ys → (length ys == 0) ≡ may_meet (suc n) none (tys_trees es ys)
  tys-ended [] h = refl
  tys-ended (y ∷ ys) h = some-items (length ys) ∙ sym (none-left n (trees_at es y.0) (tys_trees es ys) (type-is-one es law y.0 h.0))

  pub args-differ : (x y : GenericArgKind) (xs ys : List GenericArgKind) → ArgHeld es x → ArgHeld es y → may_meet (suc n) (arg_trees es x) (arg_trees es y) ≡ false
      → may_meet (suc n) (args_trees es (x ∷ xs)) (args_trees es (y ∷ ys)) ≡ false
  args-differ x y xs ys h g e = args-parted x y xs ys h g ∙ ap (λ z. z && may_meet (suc n) (args_trees es xs) (args_trees es ys)) e

  pub args-go-on : (x y : GenericArgKind) (xs ys : List GenericArgKind) → ArgHeld es x → ArgHeld es y → may_meet (suc n) (arg_trees es x) (arg_trees es y) ≡ true
      → may_meet (suc n) (args_trees es (x ∷ xs)) (args_trees es (y ∷ ys)) ≡ may_meet (suc n) (args_trees es xs) (args_trees es ys)
  args-go-on x y xs ys h g e = args-parted x y xs ys h g ∙ ap (λ z. z && may_meet (suc n) (args_trees es xs) (args_trees es ys)) e

  pub tys-differ : (x y : of_ty.Ty) (xs ys : List of_ty.Ty) → Has es types x.0 → Has es types y.0 → may_meet (suc n) (trees_at es x.0) (trees_at es y.0) ≡ false
      → may_meet (suc n) (tys_trees es (x ∷ xs)) (tys_trees es (y ∷ ys)) ≡ false
  tys-differ x y xs ys h g e = tys-parted x y xs ys h g ∙ ap (λ z. z && may_meet (suc n) (tys_trees es xs) (tys_trees es ys)) e

  pub tys-go-on : (x y : of_ty.Ty) (xs ys : List of_ty.Ty) → Has es types x.0 → Has es types y.0 → may_meet (suc n) (trees_at es x.0) (trees_at es y.0) ≡ true
      → may_meet (suc n) (tys_trees es (x ∷ xs)) (tys_trees es (y ∷ ys)) ≡ may_meet (suc n) (tys_trees es xs) (tys_trees es ys)
  tys-go-on x y xs ys h g e = tys-parted x y xs ys h g ∙ ap (λ z. z && may_meet (suc n) (tys_trees es xs) (tys_trees es ys)) e

  -- arrays, by their elements and their lengths
  pub arrays-meet : (t i u j : ℕ) (r : Bool) → Has es types t → Has es types u → may_meet (suc n) (trees_at es i) (trees_at es j) ≡ r
      → may_meet (suc n) (trees_at es t +++ trees_at es i) (trees_at es u +++ trees_at es j) ≡ (may_meet (suc n) (trees_at es t) (trees_at es u) && r)
  arrays-meet t i u j r h g e =
      parted n (trees_at es t) (trees_at es u) (trees_at es i) (trees_at es j) (type-is-one es law t h) (type-is-one es law u g)
      ∙ ap (λ z. may_meet (suc n) (trees_at es t) (trees_at es u) && z) e

-- ---- constants
pub const-open : (k : ConstKind) → ((v : _) → k ≡ CValue v → ⊥) → true ≡ is_open (const_label k)
const-open (CValue n) h = absurd (h n refl)
const-open (CParam i) h = refl
const-open (CPlaceholder i) h = refl
const-open (CBound (KBinder k) v) h = refl
const-open (CBound KCanonical v) h = refl
const-open (CInfer v) h = refl

pub open-leaf-left : (n : ℕ) (l m : Label) → true ≡ is_open l → true ≡ may_meet (suc n) (leaf l) (leaf m)
open-leaf-left n l m h = sym (alone n l m none none ∙ open-left l m (may_meet n none none) (sym h))

-- ---- lifetimes
region-tops : (k j : RegionKind) (b : Bool) → tops_may_meet (region_label k) (region_label j) b ≡ true
region-tops ReStatic ReStatic b = refl
region-tops ReStatic (ReEarlyParam i) b = refl
region-tops ReStatic (RePlaceholder i) b = refl
region-tops ReStatic (ReBound (KBinder k) v) b = refl
region-tops ReStatic (ReBound KCanonical v) b = refl
region-tops ReStatic (ReVar v) b = refl
region-tops (ReEarlyParam i) j b = refl
region-tops (RePlaceholder i) j b = refl
region-tops (ReBound (KBinder k) v) j b = refl
region-tops (ReBound KCanonical v) j b = refl
region-tops (ReVar v) j b = refl

pub lifetimes-meet : (n : ℕ) (r s : Region) → true ≡ may_meet (suc n) (region_trees r) (region_trees s)
lifetimes-meet n r s = sym (alone n (region_label r.kind) (region_label s.kind) none none ∙ region-tops r.kind s.kind (may_meet n none none))

pub behind-lifetimes : (n : ℕ) (r s : Region) (x y : Trees) → may_meet n (region_trees r +++ x) (region_trees s +++ y) ≡ may_meet n x y
behind-lifetimes zero r s x y = refl
behind-lifetimes (suc n) r s x y = ap (λ z. z && may_meet (suc n) x y) (region-tops r.kind s.kind (may_meet n none none))

ends-left : (n : ℕ) (r : Region) (x : Trees) → may_meet (suc n) none (x +++ region_trees r) ≡ false
ends-left n r none = refl
ends-left n r (tree l c o) = refl

ends-right : (n : ℕ) (r : Region) (x : Trees) → may_meet (suc n) (x +++ region_trees r) none ≡ false
ends-right n r none = refl
ends-right n r (tree l c o) = refl

-- a lifetime that stands last on both sides tells nothing
pub before-lifetimes : (n : ℕ) (r s : Region) (x y : Trees) → may_meet n (x +++ region_trees r) (y +++ region_trees s) ≡ may_meet n x y
before-lifetimes zero r s x y = refl
before-lifetimes (suc n) r s none none = sym (lifetimes-meet n r s)
before-lifetimes (suc n) r s none (tree m d p) =
    ap (λ z. tops_may_meet (region_label r.kind) m (may_meet n none d) && z) (ends-left n s p) ∙ sym (and-false (tops_may_meet (region_label r.kind) m (may_meet n none d)))
before-lifetimes (suc n) r s (tree l c o) none =
    ap (λ z. tops_may_meet l (region_label s.kind) (may_meet n c none) && z) (ends-right n r o) ∙ sym (and-false (tops_may_meet l (region_label s.kind) (may_meet n c none)))
before-lifetimes (suc n) r s (tree l c o) (tree m d p) = ap (λ z. tops_may_meet l m (may_meet n c d) && z) (before-lifetimes (suc n) r s o p)

-- ---- the bounds of a `dyn`
pub autos-meet : (n : ℕ) (xs ys : List TraitId) → may_meet (suc n) (autos_trees xs) (autos_trees ys) ≡ pointwise trait.eq xs ys
autos-meet n [] [] = refl
autos-meet n [] (y ∷ ys) = refl
autos-meet n (x ∷ xs) [] = refl
autos-meet n (x ∷ xs) (y ∷ ys) = by (x.index == y.index) (may_meet (suc n) (autos_trees xs) (autos_trees ys)) (pointwise trait.eq xs ys) (autos-meet n xs ys)
  where
    by : (a b c : Bool) → b ≡ c → (((a && true) && true) && b) ≡ (a && c)
    by true b c e = e
    by false b c e = refl

autos-no-principal : (n k i : ℕ) (xs : List TraitId) (x y : Trees) → may_meet (suc n) (autos_trees xs) (tree (principal k i) x y) ≡ false
autos-no-principal n k i [] x y = refl
autos-no-principal n k i (a ∷ xs) x y = refl

principal-no-autos : (n k i : ℕ) (ys : List TraitId) (x y : Trees) → may_meet (suc n) (tree (principal k i) x y) (autos_trees ys) ≡ false
principal-no-autos n k i [] x y = refl
principal-no-autos n k i (a ∷ ys) x y = refl

-- bounds, by their principal traits and their auto traits
pub bounds-parted : (es : List Entry) (n : ℕ) (p q : Option Principal) (xs ys : List TraitId)
    → may_meet (suc n) (principal_trees es p +++ autos_trees xs) (principal_trees es q +++ autos_trees ys)
    ≡ (may_meet (suc n) (principal_trees es p) (principal_trees es q) && may_meet (suc n) (autos_trees xs) (autos_trees ys))
bounds-parted es n None None xs ys = refl
bounds-parted es n None (Some q) xs ys = autos-no-principal n q.bound_vars q.def_id.index xs (trees_at es q.args.0) (autos_trees ys)
bounds-parted es n (Some p) None xs ys = principal-no-autos n p.bound_vars p.def_id.index ys (trees_at es p.args.0) (autos_trees xs)
bounds-parted es n (Some p) (Some q) xs ys =
    parted n (tree (principal p.bound_vars p.def_id.index) (trees_at es p.args.0) none) (tree (principal q.bound_vars q.def_id.index) (trees_at es q.args.0) none) (autos_trees xs) (autos_trees ys) refl refl

pub bounds-differ : (es : List Entry) (n : ℕ) (p q : Option Principal) (xs ys : List TraitId) → pointwise trait.eq xs ys ≡ false
    → may_meet (suc n) (principal_trees es p +++ autos_trees xs) (principal_trees es q +++ autos_trees ys) ≡ false
bounds-differ es n p q xs ys e =
    bounds-parted es n p q xs ys ∙ ap (λ z. may_meet (suc n) (principal_trees es p) (principal_trees es q) && z) (autos-meet n xs ys ∙ e)
    ∙ sym (and-false (may_meet (suc n) (principal_trees es p) (principal_trees es q)))

pub principals-left : (es : List Entry) (n : ℕ) (p q : Option Principal) (xs ys : List TraitId) → pointwise trait.eq xs ys ≡ true
    → may_meet (suc n) (principal_trees es p +++ autos_trees xs) (principal_trees es q +++ autos_trees ys) ≡ may_meet (suc n) (principal_trees es p) (principal_trees es q)
principals-left es n p q xs ys e =
    bounds-parted es n p q xs ys ∙ ap (λ z. may_meet (suc n) (principal_trees es p) (principal_trees es q) && z) (autos-meet n xs ys ∙ e)
    ∙ and-true (may_meet (suc n) (principal_trees es p) (principal_trees es q))

-- ---- types
-- one node, whose label is rigid or open
abbrev pub IsTypeNode : Trees → Type 0
IsTypeNode t = (l : Label) × (c : Trees) × (t ≡ tree l c none) × (is_rigid l ≡ not (is_open l))

pub type-node : (es : List Entry) → Lawful es → (i : ℕ) → Has es types i → IsTypeNode (trees_at es i)
type-node es law i h =
    let at = is-at es types i h in
    go (trees_at es i) ((law.sorted i _ at).as_type refl) ((law.made i _ at).as_terms (λ e. absurd (omega (arith, e))))
  where
    go : (t : Trees) → IsA of_type t → is_made is_in_range terms t ≡ true → IsTypeNode t
    go none s m = absurd s
    go (tree l c o) s m = (l, c, ap (λ z. tree l c z) s.1, rigid-or-open l c o s.0 m)

-- what stands below the first node
abbrev pub below : Trees → Trees
below none = none
below (tree l c o) = c

abbrev pub top_has_parts : Trees → Bool
top_has_parts none = false
top_has_parts (tree l c o) = has_parts l

pub head-is : (l m : Label) (c o : Trees) → head_of (tree l c o) ≡ Some m → (is_rigid l ≡ true) × (erase_label l ≡ m)
head-is l m c o e = by (is_rigid l) refl e
  where
    by : (b : Bool) → is_rigid l ≡ b → (if b then Some (erase_label l) else None) ≡ Some m → (is_rigid l ≡ true) × (erase_label l ≡ m)
    by true r f = (r, cc)
    by false r f = absurd (some-not-none m (sym f))

head-none : (l : Label) (c o : Trees) → head_of (tree l c o) ≡ None → is_rigid l ≡ false
head-none l c o e = by (is_rigid l) refl e
  where
    by : (b : Bool) → is_rigid l ≡ b → (if b then Some (erase_label l) else None) ≡ None → is_rigid l ≡ false
    by true r f = absurd (some-not-none (erase_label l) f)
    by false r f = r

-- types with these heads, compared so many levels deep
pub heads-tell : (n : ℕ) (x y : Trees) (a b : Label) → IsTypeNode x → IsTypeNode y → head_of x ≡ Some a → head_of y ≡ Some b
    → may_meet (suc n) x y ≡ (same_label a b && (not (top_has_parts x) || may_meet n (below x) (below y)))
heads-tell n x y a b (l, c, e, r) (m, d, f, q) h g =
    ap (λ z. may_meet (suc n) z y) e ∙ ap (λ z. may_meet (suc n) (tree l c none) z) f
    ∙ alone n l m c d
    ∙ closed-tops l m (same_label a b) (may_meet n c d) (rigid-closed l left.0) (rigid-closed m right.0) (ap (λ z. same_label z (erase_label m)) left.1 ∙ ap (same_label a) right.1)
    ∙ ap (λ z. same_label a b && (not (top_has_parts z) || may_meet n (below z) d)) (sym e)
    ∙ ap (λ z. same_label a b && (not (top_has_parts x) || may_meet n (below x) (below z))) (sym f)
  where
    left : (is_rigid l ≡ true) × (erase_label l ≡ a)
    left = head-is l a c none (ap head_of (sym e) ∙ h)

    right : (is_rigid m ≡ true) × (erase_label m ≡ b)
    right = head-is m b d none (ap head_of (sym f) ∙ g)

pub open-top : (x : Trees) → IsTypeNode x → None ≡ head_of x → true ≡ top_is_open x
open-top x (l, c, e, r) h = by (is_open l) refl ∙ ap top_is_open (sym e)
  where
    closed : is_rigid l ≡ false
    closed = head-none l c none (ap head_of (sym e) ∙ sym h)

    by : (b : Bool) → is_open l ≡ b → true ≡ is_open l
    by true o = sym o
    by false o = let bad : true ≡ false = sym (r ∙ ap not o) ∙ closed in absurd cc

pub open-meets-left : (n : ℕ) (x y : Trees) → IsTypeNode x → IsTypeNode y → None ≡ head_of x → may_meet (suc n) x y ≡ true
open-meets-left n x y (l, c, e, r) (m, d, f, q) h =
    ap (λ z. may_meet (suc n) z y) e ∙ ap (λ z. may_meet (suc n) (tree l c none) z) f
    ∙ alone n l m c d ∙ open-left l m (may_meet n c d) (sym (open-top x (l, c, e, r) h ∙ ap top_is_open e))

pub open-meets-right : (n : ℕ) (x y : Trees) → IsTypeNode x → IsTypeNode y → None ≡ head_of y → may_meet (suc n) x y ≡ true
open-meets-right n x y (l, c, e, r) (m, d, f, q) h =
    ap (λ z. may_meet (suc n) z y) e ∙ ap (λ z. may_meet (suc n) (tree l c none) z) f
    ∙ alone n l m c d ∙ open-right l m (may_meet n c d) (sym (open-top y (m, d, f, q) h ∙ ap top_is_open f))

-- ---- arguments of two sorts
arg-node : (es : List Entry) → Lawful es → (a : GenericArgKind) → ArgHeld es a → (l : Label) × (c : Trees) × (arg_trees es a ≡ tree l c none) × (sort_of l ≡ arg_sort a)
arg-node es law (Lifetime r) h = (region_label r.kind, none, refl, region-sort r.kind)
arg-node es law (AType t) h = go (trees_at es t.0) ((law.sorted t.0 _ (is-at es types t.0 h)).as_type refl)
  where
    go : (x : Trees) → IsA of_type x → (l : Label) × (c : Trees) × (x ≡ tree l c none) × (sort_of l ≡ of_type)
    go none s = absurd s
    go (tree l c o) s = (l, c, ap (λ z. tree l c z) s.1, s.0)
arg-node es law (AConst t) h = go (trees_at es t.0) ((law.sorted t.0 _ (is-at es consts t.0 h)).as_const refl)
  where
    go : (x : Trees) → IsA of_const x → (l : Label) × (c : Trees) × (x ≡ tree l c none) × (sort_of l ≡ of_const)
    go none s = absurd s
    go (tree l c o) s = (l, c, ap (λ z. tree l c z) s.1, s.0)

pub unlike-meet : (es : List Entry) → Lawful es → (n : ℕ) (x y : GenericArgKind) → ArgHeld es x → ArgHeld es y → (arg_sort x ≡ arg_sort y → ⊥)
    → (top_is_open (arg_trees es x) || top_is_open (arg_trees es y)) ≡ may_meet (suc n) (arg_trees es x) (arg_trees es y)
unlike-meet es law n x y h g u = go (arg_trees es x) (arg_trees es y) (arg-node es law x h) (arg-node es law y g)
  where
    go : (v w : Trees) → (l : Label) × (c : Trees) × (v ≡ tree l c none) × (sort_of l ≡ arg_sort x) → (m : Label) × (d : Trees) × (w ≡ tree m d none) × (sort_of m ≡ arg_sort y)
        → (top_is_open v || top_is_open w) ≡ may_meet (suc n) v w
    go v w (l, c, e, s) (m, d, f, t) =
        ap (λ z. top_is_open z || top_is_open w) e ∙ ap (λ z. is_open l || top_is_open z) f
        ∙ sym (unlike-tops l m (may_meet n c d) (λ q. u (sym s ∙ q ∙ t)))
        ∙ sym (alone n l m c d)
        ∙ ap (λ z. may_meet (suc n) (tree l c none) z) (sym f) ∙ ap (λ z. may_meet (suc n) z w) (sym e)

-- ---- handles
pub one-handle : (es : List Entry) → Lawful es → (k i j : ℕ) → Has es k i → Has es k j → trees_at es i ≡ trees_at es j → i ≡ j
one-handle es law k i j h g e = law.distinct i j (term k h.0) h.1 (g.1 ∙ ap (λ t. Some (term k t)) alike)
  where
    alike : g.0 ≡ h.0
    alike = sym (trees-is es k j g.0 g.1) ∙ sym e ∙ trees-is es k i h.0 h.1

pub two-numbers : (i j : ℕ) → (i == j) ≡ false → i ≡ j → ⊥
two-numbers i j h e = false-true (sym h ∙ ap (λ n. n == j) e ∙ self-number j)

-- ---- apart
pub not-apart-itself : (x y : Trees) → x ≡ y → false ≡ are_apart x y
not-apart-itself x y e =
    by (is_fixed x) (same x x) (may_meet levels x x) (same-complete x x refl) (meets-itself levels x) ∙ ap (are_apart x) e
  where
    by : (f s m : Bool) → s ≡ true → m ≡ true → false ≡ ((f && (f && not s)) || not m)
    by true true true h g = refl
    by false true true h g = refl
    by f false m h g = absurd (false-true h)
    by f s false h g = absurd (false-true g)

pub fixed-apart : (x y : Trees) → (is_fixed x && is_fixed y) ≡ true → (x ≡ y → ⊥) → true ≡ are_apart x y
fixed-apart x y h u = by (is_fixed x) (is_fixed y) (same x y) (not (may_meet levels x y)) h (so-false (same x y) (λ e. u (same-sound x y e)))
  where
    by : (f g s m : Bool) → (f && g) ≡ true → s ≡ false → true ≡ ((f && (g && not s)) || m)
    by true true true m h e = absurd (false-true (sym e))
    by true true false m h e = refl
    by true false s m h e = absurd (false-true h)
    by false g s m h e = absurd (false-true h)
