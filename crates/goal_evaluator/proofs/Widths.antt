-- No operation makes wider terms than its inputs: replacing, unification, and applying responses.
use Rattle.std.proofs.Common.{◌≡◌, ℕ, zero, suc, ◌+◌, ◌≤◌, arith, Bool, true, false, if◌then◌else◌, List, [], ◌∷◌, map, Option, Some, None, refl, sym, ◌∙◌, ap, subst}
use Rattle.std.specs.Prelude.{is_some, option_map, unwrap_or}
use Rattle.std.specs.List.{slice_get}
use Rattle.type_terms.specs.Promised.Label.{Label, Sort, of_type, of_const, of_lifetime, infer, bound, canonical, fn_ptr, dynamic, principal, auto_trait, inside}
use Rattle.type_terms.specs.Promised.Trees.{Trees, none, tree, leaf, ◌+++◌, is_sort, sort_of}
use Rattle.type_terms.specs.Trees.{put_at_node, Single}
use Rattle.infer_table.specs.Canonical.{OpenKinds, relabeled}
use Rattle.infer_table.specs.Solutions.{Binding, is_same_variable, replace, resolved}
use Rattle.infer_table.specs.Resolving.{is_root, followed}
use Rattle.infer_table.specs.Opened.{opened_binder}
use Rattle.infer_table.specs.Unification.{TableTrees, with_binding, object_parts, parts_of, Worklist, unified}
use Rattle.infer_table.proofs.Kept.{Keeps, OfPairs, unified-keeps, turns-keep}
use Rattle.infer_table.specs.declared.canonical.CanonicalVarKind.{CanonicalVarKind}
use Rattle.infer_table.specs.declared.canonical.CanonicalVarKind.TheVariants.{Ty, PlaceholderTy, Const, PlaceholderConst, Region}
use Rattle.infer_table.specs.Values.{Value, if_of_sort, value_for, filled_values}
use Rattle.infer_table.specs.Responses.{AnswerTrees}
use Rattle.infer_table.specs.Applying.{is_numbered, root_labels, original_of, next_unknown, table_after, values_for, known_value, applied_values, applied_table}
use Rattle.infer_table.specs.Applied.{trees_of, solved_in_turn, with_constraints, applied}
use Rattle.goal_evaluator.specs.Lists.{Every}
use Rattle.goal_evaluator.specs.Instances.{put_in}
use Rattle.goal_evaluator.specs.FrameTables.{and_then, in_turn}
use Rattle.goal_evaluator.proofs.Applying.{for-bindings}
use Rattle.goal_evaluator.specs.Promised.Widths.{count, with_self, width}
use Rattle.goal_evaluator.specs.Widths.{width_of_predicates, BindingsWithin, number_of_values}

-- ---- trees
-- no node has more than n terms
abbrev pub IsWithin : ℕ → Trees → Type 0
IsWithin n none = Unit {0}
IsWithin n (tree l c o) = (with_self l (count c) ≤ n) × IsWithin n c × IsWithin n o

pub within : (n : ℕ) (t : Trees) → width t ≤ n → IsWithin n t
within n none h = tt
within n (tree l c o) h = (omega (arith, h), within n c (omega (arith, h)), within n o (omega (arith, h)))

pub width-within : (n : ℕ) (t : Trees) → IsWithin n t → width t ≤ n
width-within n none h = omega arith
width-within n (tree l c o) h = let a = h.0 in let b = width-within n c h.1 in let d = width-within n o h.2 in omega (arith, a, b, d)

pub single-count : (t : Trees) → Single t → count t ≡ 1
single-count none h = absurd h
single-count (tree l c o) h = ap (λ z. suc (count z)) h

-- one term, and it is within n
pub record IsOne (n : ℕ) (t : Trees) : Type 0 where
  pub one : count t ≡ 1
  pub within : IsWithin n t

-- a leaf has no terms
no-terms : (n : ℕ) (l : Label) → with_self l zero ≤ n
no-terms n (principal m i) = omega arith
no-terms n l = omega arith

pub leaf-one : (n : ℕ) (l : Label) → IsOne n (leaf l)
leaf-one n l = record { one = refl; within = (no-terms n l, tt, tt) }

-- a node has no more children than terms
fewer : (l : Label) (m : ℕ) → m ≤ with_self l m
fewer (principal k i) zero = omega arith
fewer (principal k i) (suc m) = omega arith
fewer l m = omega arith

pub count-append : (x y : Trees) → count (x +++ y) ≡ count x + count y
count-append none y = omega arith
count-append (tree l c o) y = let e = count-append o y in omega (arith, e)

pub within-append : (n : ℕ) (x y : Trees) → IsWithin n x → IsWithin n y → IsWithin n (x +++ y)
within-append n none y h g = g
within-append n (tree l c o) y h g = (h.0, h.1, within-append n o y h.2 g)

-- one more in front
count-next : (n : ℕ) (r x y : Trees) → IsOne n r → count x ≡ count y → count (r +++ x) ≡ suc (count y)
count-next n r x y h e = let a = count-append r x in let b = h.one in omega (arith, a, b, e)

within-node : (n : ℕ) (l : Label) (c d o : Trees) → with_self l (count c) ≤ n → count d ≡ count c → IsWithin n d → IsWithin n o → IsWithin n (tree l d o)
within-node n l c d o h e a b = (subst (λ z. with_self l z ≤ n) (sym e) h, a, b)

-- ---- values in the place of unknowns
module _ (n : ℕ) (k : Sort) (v : ℕ) (r : Trees) (h : IsOne n r) where
  count-replace : (t : Trees) → count (replace k v r t) ≡ count t
  count-replace none = refl
  count-replace (tree (infer j w) c o) = by (is_same_variable j w k v) (count-replace o)
    where
      by : (b : Bool) → count (replace k v r o) ≡ count o → count (if b then r +++ replace k v r o else tree (infer j w) c (replace k v r o)) ≡ suc (count o)
      by true e = count-next n r (replace k v r o) o h e
      by false e = ap suc e
  count-replace (tree l c o) = ap suc (count-replace o)

  within-replace : (t : Trees) → IsWithin n t → IsWithin n (replace k v r t)
  within-replace none g = tt
  within-replace (tree (infer j w) c o) g = by (is_same_variable j w k v) (within-replace o g.2)
    where
      by : (b : Bool) → IsWithin n (replace k v r o) → IsWithin n (if b then r +++ replace k v r o else tree (infer j w) c (replace k v r o))
      by true e = within-append n r (replace k v r o) h.within e
      by false e = (g.0, g.1, e)
  within-replace (tree l c o) g = within-node n l c (replace k v r c) (replace k v r o) g.0 (count-replace c) (within-replace c g.1) (within-replace o g.2)

abbrev pub AllOne : ℕ → List Binding → Type 0
AllOne n bs = Every (λ b. IsOne n b.value) bs

resolves-within : (n : ℕ) (bs : List Binding) → AllOne n bs → (t : Trees) → (count (resolved bs t) ≡ count t) × (IsWithin n t → IsWithin n (resolved bs t))
resolves-within n [] h t = (refl, λ g. g)
resolves-within n (b ∷ older) h t =
    let x = resolves-within n older h.1 t in
    let y = resolves-within n older h.1 b.value in
    let r : IsOne n (resolved older b.value) = record { one = y.0 ∙ h.0.one; within = y.1 h.0.within } in (
      count-replace n b.sort b.var (resolved older b.value) r (resolved older t) ∙ x.0,
      λ g. within-replace n b.sort b.var (resolved older b.value) r (resolved older t) (x.1 g),
    )

pub within-resolved : (n : ℕ) (bs : List Binding) (t : Trees) → AllOne n bs → IsWithin n t → IsWithin n (resolved bs t)
within-resolved n bs t h g = (resolves-within n bs h t).1 g

-- ---- terms in the place of labels
-- what is put in is one term
abbrev pub IsOneIf : ℕ → Option Trees → Type 0
IsOneIf n None = Unit {0}
IsOneIf n (Some t) = IsOne n t

count-placed : (n : ℕ) (x : Option Trees) (l : Label) (c o p : Trees) → IsOneIf n x → count p ≡ count o → count (put_at_node x (tree l c none) +++ p) ≡ suc (count o)
count-placed n None l c o p h e = ap suc e
count-placed n (Some r) l c o p h e = count-next n r p o h e

within-placed : (n : ℕ) (x : Option Trees) (l : Label) (c d p : Trees) → IsOneIf n x → with_self l (count c) ≤ n → count d ≡ count c → IsWithin n d → IsWithin n p → IsWithin n (put_at_node x (tree l d none) +++ p)
within-placed n None l c d p h a e b g = within-node n l c d p a e b g
within-placed n (Some r) l c d p h a e b g = within-append n r p h.within g

module _ (n : ℕ) (s : Label → Option Trees) (h : (l : Label) → IsOneIf n (s l)) where
  pub count-put : (t : Trees) → count (put_in s t) ≡ count t
  count-put none = refl
  count-put (tree l c o) = count-placed n (s l) l (put_in s c) o (put_in s o) (h l) (count-put o)

  pub within-put : (t : Trees) → IsWithin n t → IsWithin n (put_in s t)
  within-put none g = tt
  within-put (tree l c o) g = within-placed n (s l) l c (put_in s c) (put_in s o) (h l) g.0 (count-put c) (within-put c g.1) (within-put o g.2)

abbrev pub AllOneValues : ℕ → List Value → Type 0
AllOneValues n vs = Every (λ v. IsOne n v.trees) vs

value-at : (n : ℕ) (vs : List Value) (s : Sort) (i : ℕ) → AllOneValues n vs → IsOneIf n (if_of_sort s (slice_get vs i))
value-at n [] s i h = tt
value-at n (v ∷ vs) s zero h = by (is_sort v.sort s)
  where
    by : (b : Bool) → IsOneIf n (if b then Some v.trees else None)
    by true = h.0
    by false = tt
value-at n (v ∷ vs) s (suc i) h = value-at n vs s i h.1

module _ (n : ℕ) (vs : List Value) (h : AllOneValues n vs) where
  value-one : (l : Label) → IsOneIf n (value_for vs l)
  value-one (canonical s i) = value-at n vs s i h
  value-one l = tt

  pub count-filled : (t : Trees) → count (filled_values vs t) ≡ count t
  count-filled none = refl
  count-filled (tree l c o) = count-placed n (value_for vs l) l (filled_values vs c) o (filled_values vs o) (value-one l) (count-filled o)

  pub within-filled : (t : Trees) → IsWithin n t → IsWithin n (filled_values vs t)
  within-filled none g = tt
  within-filled (tree l c o) g = within-placed n (value_for vs l) l c (filled_values vs c) (filled_values vs o) (value-one l) g.0 (count-filled c) (within-filled c g.1) (within-filled o g.2)

-- ---- labels in the place of labels
pub count-relabeled : (kind : OpenKinds) (f : Label → Label) (t : Trees) → count (relabeled kind f t) ≡ count t
count-relabeled kind f none = refl
count-relabeled kind f (tree l c o) = ap suc (count-relabeled kind f o)

-- no label is replaced by that of a bound
abbrev pub MakesNoBounds : (Label → Label) → Type 0
MakesNoBounds f = (l : Label) (m : ℕ) → with_self (f l) m ≤ m

pub within-relabeled : (n : ℕ) (kind : OpenKinds) (f : Label → Label) → MakesNoBounds f → (t : Trees) → IsWithin n t → IsWithin n (relabeled kind f t)
within-relabeled n kind f g none h = tt
within-relabeled n kind f g (tree l c o) h =
    within-node n (if is_some (kind l) then f l else l) c (relabeled kind f c) (relabeled kind f o) (here (is_some (kind l)) h.0) (count-relabeled kind f c) (within-relabeled n kind f g c h.1) (within-relabeled n kind f g o h.2)
  where
    here : (b : Bool) → with_self l (count c) ≤ n → with_self (if b then f l else l) (count c) ≤ n
    here true a = let p = g l (count c) in let q = fewer l (count c) in omega (arith, a, p, q)
    here false a = a

pub count-opened : (first m d : ℕ) (t : Trees) → count (opened_binder first m d t) ≡ count t
count-opened first m d none = refl
count-opened first m d (tree (bound of_lifetime k v) none o) = ap suc (count-opened first m d o)
count-opened first m d (tree l c o) = ap suc (count-opened first m d o)

pub within-opened : (n first m d : ℕ) (t : Trees) → IsWithin n t → IsWithin n (opened_binder first m d t)
within-opened n first m d none h = tt
within-opened n first m d (tree (bound of_lifetime k v) none o) h = (no-terms n _, tt, within-opened n first m d o h.2)
within-opened n first m d (tree l c o) h =
    within-node n l c (opened_binder first m (inside l d) c) (opened_binder first m d o) h.0 (count-opened first m (inside l d) c) (within-opened n first m (inside l d) c h.1) (within-opened n first m d o h.2)

-- ---- predicates and where-clauses in a row
abbrev pub ArePredicatesWithin : ℕ → Trees → Type 0
ArePredicatesWithin n none = Unit {0}
ArePredicatesWithin n (tree l c o) = (count c ≤ n) × IsWithin n c × ArePredicatesWithin n o

pub predicates-within : (n : ℕ) (t : Trees) → width_of_predicates t ≤ n → ArePredicatesWithin n t
predicates-within n none h = tt
predicates-within n (tree l c o) h = (omega (arith, h), within n c (omega (arith, h)), predicates-within n o (omega (arith, h)))

pub width-of-predicates : (n : ℕ) (t : Trees) → ArePredicatesWithin n t → width_of_predicates t ≤ n
width-of-predicates n none h = omega arith
width-of-predicates n (tree l c o) h = let a = h.0 in let b = width-within n c h.1 in let d = width-of-predicates n o h.2 in omega (arith, a, b, d)

predicates-append : (n : ℕ) (x y : Trees) → IsWithin n x → ArePredicatesWithin n y → ArePredicatesWithin n (x +++ y)
predicates-append n none y h g = g
predicates-append n (tree l c o) y h g = let a = h.0 in let b = fewer l (count c) in (omega (arith, a, b), h.1, predicates-append n o y h.2 g)

predicates-node : (n : ℕ) (l : Label) (c d o : Trees) → count c ≤ n → count d ≡ count c → IsWithin n d → ArePredicatesWithin n o → ArePredicatesWithin n (tree l d o)
predicates-node n l c d o h e a b = (omega (arith, h, e), a, b)

predicates-replace : (n : ℕ) (k : Sort) (v : ℕ) (r : Trees) → IsOne n r → (t : Trees) → ArePredicatesWithin n t → ArePredicatesWithin n (replace k v r t)
predicates-replace n k v r h none g = tt
predicates-replace n k v r h (tree (infer j w) c o) g = by (is_same_variable j w k v) (predicates-replace n k v r h o g.2)
  where
    by : (b : Bool) → ArePredicatesWithin n (replace k v r o) → ArePredicatesWithin n (if b then r +++ replace k v r o else tree (infer j w) c (replace k v r o))
    by true e = predicates-append n r (replace k v r o) h.within e
    by false e = (g.0, g.1, e)
predicates-replace n k v r h (tree l c o) g =
    predicates-node n l c (replace k v r c) (replace k v r o) g.0 (count-replace n k v r h c) (within-replace n k v r h c g.1) (predicates-replace n k v r h o g.2)

pub predicates-resolved : (n : ℕ) (bs : List Binding) (t : Trees) → AllOne n bs → ArePredicatesWithin n t → ArePredicatesWithin n (resolved bs t)
predicates-resolved n [] t h g = g
predicates-resolved n (b ∷ older) t h g =
    let y = resolves-within n older h.1 b.value in
    predicates-replace n b.sort b.var (resolved older b.value) (record { one = y.0 ∙ h.0.one; within = y.1 h.0.within }) (resolved older t) (predicates-resolved n older t h.1 g)

predicates-placed : (n : ℕ) (x : Option Trees) (l : Label) (c d p : Trees) → IsOneIf n x → count c ≤ n → count d ≡ count c → IsWithin n d → ArePredicatesWithin n p
    → ArePredicatesWithin n (put_at_node x (tree l d none) +++ p)
predicates-placed n None l c d p h a e b g = predicates-node n l c d p a e b g
predicates-placed n (Some r) l c d p h a e b g = predicates-append n r p h.within g

pub predicates-put : (n : ℕ) (s : Label → Option Trees) → ((l : Label) → IsOneIf n (s l)) → (t : Trees) → ArePredicatesWithin n t → ArePredicatesWithin n (put_in s t)
predicates-put n s h none g = tt
predicates-put n s h (tree l c o) g =
    predicates-placed n (s l) l c (put_in s c) (put_in s o) (h l) g.0 (count-put n s h c) (within-put n s h c g.1) (predicates-put n s h o g.2)

pub predicates-relabeled : (n : ℕ) (kind : OpenKinds) (f : Label → Label) → MakesNoBounds f → (t : Trees) → ArePredicatesWithin n t → ArePredicatesWithin n (relabeled kind f t)
predicates-relabeled n kind f g none h = tt
predicates-relabeled n kind f g (tree l c o) h =
    predicates-node n (if is_some (kind l) then f l else l) c (relabeled kind f c) (relabeled kind f o) h.0 (count-relabeled kind f c) (within-relabeled n kind f g c h.1) (predicates-relabeled n kind f g o h.2)

-- ---- unification
abbrev pub AreWithin : ℕ → List Binding → Type 0
AreWithin n bs = Every (λ b. IsWithin n b.value) bs

abbrev pub PairsWithin : ℕ → Worklist → Type 0
PairsWithin n = OfPairs (IsWithin n)

within-followed : (n : ℕ) (bs : List Binding) (t : Trees) → AreWithin n bs → IsWithin n t → IsWithin n (followed bs t)
within-followed n [] t h g = g
within-followed n (b ∷ older) t h g = by (is_root b (followed older t)) (within-followed n older b.value h.1 h.0) (within-followed n older t h.1 g)
  where
    by : (x : Bool) → IsWithin n (followed older b.value) → IsWithin n (followed older t) → IsWithin n (if x then followed older b.value else followed older t)
    by true p q = p
    by false p q = q

within-object : (n first : ℕ) (t : Trees) → IsWithin n t → IsWithin n (object_parts first t)
within-object n first none h = tt
within-object n first (tree (principal m i) c o) h = within-append n (opened_binder first m zero c) (object_parts first o) (within-opened n first m zero c h.1) (within-object n first o h.2)
within-object n first (tree (auto_trait i) c o) h = within-object n first o h.2
within-object n first (tree l c o) h = h

within-parts : (n first : ℕ) (t : Trees) → IsWithin n t → IsWithin n (parts_of first t)
within-parts n first none h = tt
within-parts n first (tree (fn_ptr m) c o) h = within-opened n first m zero c h.1
within-parts n first (tree dynamic c o) h = within-object n first c h.1
within-parts n first (tree l c o) h = h.1

binding-within : (n : ℕ) (t : TableTrees) (k : Sort) (v : ℕ) (x : Trees) → AreWithin n t.bindings → IsWithin n x → AreWithin n (with_binding t k v x).bindings
binding-within n t of_type v x h g = (g, h)
binding-within n t of_const v x h g = (g, h)
binding-within n t of_lifetime v x h g = h

abbrev HasWithin : ℕ → TableTrees → Type 0
HasWithin n t = AreWithin n t.bindings

keeps-within : (n : ℕ) → Keeps (IsWithin n) (HasWithin n)
keeps-within n =
    record {
      first = λ l c o h. (h.0, h.1, tt);
      others = λ l c o h. h.2;
      parts = within-parts n;
      values = λ t x h g. within-followed n t.bindings x h g;
      bindings = binding-within n;
      regions = λ t m h. h;
      equal = λ t a b h. h;
    }

-- equations in turn
then-keeps : (n : ℕ) (f : TableTrees → Option TableTrees) (u : TableTrees) (o : Option TableTrees) → ((w : TableTrees) → o ≡ Some w → f w ≡ Some u → HasWithin n u) → and_then f o ≡ Some u → HasWithin n u
then-keeps n f u None h e = cc
then-keeps n f u (Some w) h e = h w refl e

in-turn-keeps : (n : ℕ) (t u : TableTrees) (todo : Worklist) → HasWithin n t → PairsWithin n todo → in_turn todo t ≡ Some u → HasWithin n u
in-turn-keeps n t u [] h g e = subst (HasWithin n) (is e) h
  where
    is : Some t ≡ Some u → t ≡ u
    is e = cc
in-turn-keeps n t u (x ∷ todo) h g e =
    then-keeps n (in_turn todo) u (unified t (x ∷ [])) (λ w i f. in-turn-keeps n w u todo (unified-keeps (IsWithin n) (HasWithin n) (keeps-within n) t w (x ∷ []) h (g.0, g.1, tt) i) g.2 f) e

module _ (n : ℕ) where
  -- answers
  abbrev IsOneValue : Option Value → Type 0
  IsOneValue None = Unit {0}
  IsOneValue (Some v) = IsOne n v.trees

  original-one : (i : ℕ) (ls : List Label) (os : List Value) → AllOneValues n os → IsOneValue (original_of i ls os)
  original-one i [] os h = tt
  original-one i (l ∷ ls) [] h = tt
  original-one i (l ∷ ls) (o ∷ os) h = by (is_numbered i l) (original-one i ls os h.1)
    where
      by : (b : Bool) → IsOneValue (original_of i ls os) → IsOneValue (if b then Some o else original_of i ls os)
      by true e = h.0
      by false e = e

  next-one : (t : TableTrees) (k : CanonicalVarKind) → IsOne n (next_unknown t k).trees
  next-one t Ty = leaf-one n (infer of_type t.ty_vars)
  next-one t PlaceholderTy = leaf-one n (infer of_type t.ty_vars)
  next-one t Const = leaf-one n (infer of_const t.const_vars)
  next-one t PlaceholderConst = leaf-one n (infer of_const t.const_vars)
  next-one t Region = leaf-one n (infer of_lifetime t.region_vars)

  known-one : (v : Option Value) (t : TableTrees) (k : CanonicalVarKind) → IsOneValue v → IsOne n (unwrap_or v (next_unknown t k)).trees
  known-one None t k h = next-one t k
  known-one (Some v) t k h = h

  values-one : (known : ℕ → Option Value) → ((i : ℕ) → IsOneValue (known i)) → (t : TableTrees) (i : ℕ) (ks : List CanonicalVarKind) → AllOneValues n (values_for known t i ks)
  values-one known h t i [] = tt
  values-one known h t i (k ∷ ks) = (known-one (known i) t k (h i), values-one known h (table_after (known i) t k) (i + 1) ks)

  row-within : (vs : List Value) → Every (λ v. IsWithin n v.trees) vs → IsWithin n (trees_of vs)
  row-within [] h = tt
  row-within (v ∷ vs) h = within-append n v.trees (trees_of vs) h.0 (row-within vs h.1)

  originals-within : (vs : List Value) → AllOneValues n vs → Every (λ v. IsWithin n v.trees) vs
  originals-within [] h = tt
  originals-within (v ∷ vs) h = (h.0.within, originals-within vs h.1)

  constraints-keep : (c : Trees) (o : Option TableTrees) (u : TableTrees) → ((w : TableTrees) → o ≡ Some w → HasWithin n w) → option_map (with_constraints c) o ≡ Some u → HasWithin n u
  constraints-keep c None u h e = cc
  constraints-keep c (Some w) u h e = subst (HasWithin n) (is e) (h w refl)
    where
      is : Some (with_constraints c w) ≡ Some u → with_constraints c w ≡ u
      is e = cc

  applied-keeps : (t u : TableTrees) (originals : List Value) (a : AnswerTrees) → HasWithin n t → AllOneValues n originals → Every (λ v. IsWithin n v.trees) a.values → applied t originals a ≡ Some u → HasWithin n u
  applied-keeps t u originals a h g r e =
      let known = known_value a originals in
      let vs = applied_values t originals a in
      let ones = values-one known (λ i. original-one i (root_labels a.values) originals g) t 0 a.kinds in
      constraints-keep (filled_values vs a.constraints) (solved_in_turn (applied_table t originals a) (trees_of originals) (filled_values vs (trees_of a.values))) u
      (λ w f. turns-keep (IsWithin n) (HasWithin n) (keeps-within n) (applied_table t originals a) w (trees_of originals) (filled_values vs (trees_of a.values))
      (subst (AreWithin n) (sym (for-bindings known t 0 a.kinds)) h) (row-within originals (originals-within originals g)) (within-filled n vs ones (trees_of a.values) (row-within a.values r)) f)
      e

-- ---- the same of widths
pub are-within : (n : ℕ) (bs : List Binding) → BindingsWithin n bs → AreWithin n bs
are-within n [] h = tt
are-within n (b ∷ bs) h = (within n b.value h.0, are-within n bs h.1)

pub bindings-within : (n : ℕ) (bs : List Binding) → AreWithin n bs → BindingsWithin n bs
bindings-within n [] h = tt
bindings-within n (b ∷ bs) h = (width-within n b.value h.0, bindings-within n bs h.1)

pub values-within : (n : ℕ) (vs : List Value) → number_of_values vs ≤ n → Every (λ v. IsWithin n v.trees) vs
values-within n [] h = tt
values-within n (v ∷ vs) h = (within n v.trees (omega (arith, h)), values-within n vs (omega (arith, h)))

-- open leaves as values
pub leaf-values-one : (n : ℕ) (ls : List Label) → AllOneValues n (map (λ (l : Label). record { sort = sort_of l; trees = leaf l }) ls)
leaf-values-one n [] = tt
leaf-values-one n (l ∷ ls) = (leaf-one n l, leaf-values-one n ls)

pub in-turn-within : (n : ℕ) (t : TableTrees) (todo : Worklist) (u : TableTrees) → BindingsWithin n t.bindings → PairsWithin n todo → in_turn todo t ≡ Some u → BindingsWithin n u.bindings
in-turn-within n t todo u h g e = bindings-within n u.bindings (in-turn-keeps n t u todo (are-within n t.bindings h) g e)

pub applied-within : (n : ℕ) (t : TableTrees) (originals : List Value) (a : AnswerTrees) (u : TableTrees) → BindingsWithin n t.bindings → AllOneValues n originals → number_of_values a.values ≤ n
    → applied t originals a ≡ Some u → BindingsWithin n u.bindings
applied-within n t originals a u h g r e = bindings-within n u.bindings (applied-keeps n t u originals a (are-within n t.bindings h) g (values-within n a.values r) e)
