-- Lists of parts.
use Rattle.std.specs.Prelude.{IfErr, IsErrAnd}
use Rattle.type_terms.proofs.FailFacts.{refused-term}
use Rattle.type_terms.specs.Promised.Handles.{SomeKindIsFull, bounds_lists, held}
use Rattle.type_terms.specs.declared.Fault.{Fault}
use Rattle.type_terms.specs.declared.Fault.TheVariants.{Full}
use Rattle.std.proofs.Common.{◌≡◌, ◌∙◌, ◌<◌, ◌≤◌, ℕ, zero, suc, arith, true, false, refl, sym, ap, List, [], ◌∷◌, get_or, length, map, nat_eq, subst, take, Result, Ok, Err}
use Rattle.type_terms.specs.Kinds.{args_trees, tys_trees, TysHeld}
use Rattle.type_terms.specs.Promised.Handles.{ArgsHeld, Entry, trees_at}
use Rattle.type_terms.specs.Promised.Trees.{Trees, none, tree, ◌+++◌}
use Rattle.type_terms.specs.declared.kinds.GenericArgKind.{GenericArgKind}
use Rattle.type_terms.specs.declared.kinds.GenericArgKind.TheVariants.{Ty, Const, Lifetime}
use Rattle.type_terms.specs.declared.kinds.Ty as type
use Rattle.type_terms.specs.Kept.{trees-is}
use Rattle.type_terms.specs.Promised.Handles.{types}
use Rattle.type_terms.specs.Promised.Label.{of_type}
use Rattle.type_terms.specs.Terms.{Lawful}
use Rattle.type_terms.specs.Promised.Trees.{IsA}
use Rattle.type_terms.specs.Trees.{is_no_tree}
use Rattle.type_terms.specs.declared.AdtId.{AdtId}
use Rattle.session_inference.specs.Shapes.{are_types, takes, takes_few}
use Rattle.session_inference.specs.declared.shape.Shape.{Shape}
use Rattle.session_inference.specs.declared.shape.Shape.TheVariants.{Adt, Ref, RawPtr, Array, Slice, Tuple, FnPtr}

pub nothing-behind : (t : Trees) → t +++ none ≡ t
nothing-behind none = refl
nothing-behind (tree l c o) = ap (tree l c) (nothing-behind o)

pub one-alone : (ps : List GenericArgKind) (a d : GenericArgKind) → 1 ≤ length ps → length ps < 2 → a ≡ get_or ps 0 d → ps ≡ a ∷ []
one-alone [] a d le lt e = absurd (omega (arith, le))
one-alone (p ∷ []) a d le lt e = ap (λ x. x ∷ []) (sym e)
one-alone (p ∷ q ∷ ps) a d le lt e = absurd (omega (arith, lt))

pub two-alone : (ps : List GenericArgKind) (a b d e : GenericArgKind) → 2 ≤ length ps → length ps < 3 → a ≡ get_or ps 0 d → b ≡ get_or ps 1 e → ps ≡ a ∷ b ∷ []
two-alone [] a b d e le lt x y = absurd (omega (arith, le))
two-alone (p ∷ []) a b d e le lt x y = absurd (omega (arith, le))
two-alone (p ∷ q ∷ []) a b d e le lt x y = both (sym x) (sym y)
  where
    both : {u v w z : GenericArgKind} → u ≡ v → w ≡ z → u ∷ w ∷ [] ≡ v ∷ z ∷ []
    both p q = cc
two-alone (p ∷ q ∷ r ∷ ps) a b d e le lt x y = absurd (omega (arith, lt))

-- ---- types
pub all-types : (ts : List type.Ty) → are_types (map Ty ts) ≡ true
all-types [] = refl
all-types (t ∷ ts) = all-types ts

pub not-types : (ps : List GenericArgKind) (k : ℕ) (d : GenericArgKind) → k < length ps → ((t : type.Ty) → get_or ps k d ≡ Ty t → ⊥) → are_types ps ≡ false
not-types [] k d lt other = absurd (omega (arith, lt))
not-types (Ty t ∷ ps) zero d lt other = absurd (other t refl)
not-types (Const c ∷ ps) zero d lt other = refl
not-types (Lifetime r ∷ ps) zero d lt other = refl
not-types (Ty t ∷ ps) (suc k) d lt other = not-types ps k d (omega (arith, lt)) other
not-types (Const c ∷ ps) (suc k) d lt other = refl
not-types (Lifetime r ∷ ps) (suc k) d lt other = refl

pub take-whole : {A : Type 0} (k : ℕ) (xs : List A) → length xs ≤ k → take k xs ≡ xs
take-whole zero [] h = refl
take-whole (suc k) [] h = refl
take-whole zero (x ∷ xs) h = absurd (omega (arith, h))
take-whole (suc k) (x ∷ xs) h = ap (λ l. x ∷ l) (take-whole k xs (omega (arith, h)))

pub types-held : (es : List Entry) (ts : List type.Ty) → ArgsHeld es (map Ty ts) → TysHeld es ts
types-held es [] h = tt
types-held es (t ∷ ts) h = (h.0, types-held es ts h.1)

pub types-trees : (es : List Entry) (ts : List type.Ty) → args_trees es (map Ty ts) ≡ tys_trees es ts
types-trees es [] = refl
types-trees es (t ∷ ts) = ap (λ x. trees_at es t.0 +++ x) (types-trees es ts)

-- ---- a list that begins with a type has a tree
one-tree : (t o : Trees) → IsA of_type t → is_no_tree (t +++ o) ≡ false
one-tree none o h = absurd h
one-tree (tree l c p) o h = refl

pub first-tree : (es : List Entry) → Lawful es → (ps : List GenericArgKind) → are_types ps ≡ true → ArgsHeld es ps → 1 ≤ length ps → is_no_tree (args_trees es ps) ≡ false
first-tree es lawful [] all held le = absurd (omega (arith, le))
first-tree es lawful (Const k ∷ ps) all held le = absurd cc
first-tree es lawful (Lifetime r ∷ ps) all held le = absurd cc
first-tree es lawful (Ty t ∷ ps) all held le =
    ap (λ (x : Trees). is_no_tree (x +++ args_trees es ps)) (trees-is es types t.0 held.0.0 held.0.1) ∙ one-tree held.0.0 (args_trees es ps) ((lawful.sorted t.0 _ held.0.1).as_type refl)

pub not-empty : {A : Type 0} (xs : List A) → nat_eq (length xs) 0 ≡ false → 1 ≤ length xs
not-empty [] e = absurd cc
not-empty (x ∷ xs) e = omega arith

-- ---- shapes of few parts
pub few-of : (h : Shape) (ps : List GenericArgKind) → ((s : AdtId) → h ≡ Adt s → ⊥) → (h ≡ Tuple → ⊥) → (h ≡ FnPtr → ⊥) → takes h ps ≡ takes_few h ps
few-of (Adt s) ps a t f = absurd (a s refl)
few-of Tuple ps a t f = absurd (t refl)
few-of FnPtr ps a t f = absurd (f refl)
few-of (Ref m) ps a t f = refl
few-of (RawPtr m) ps a t f = refl
few-of Array ps a t f = refl
few-of Slice ps a t f = refl

handed : {T E : Type 0} (P : E → Type 0) (r : Result T E) {x : E} → IsErrAnd r (λ y. y ≡ x) → P x → IfErr r P
handed P (Ok y) h p = absurd h
handed P (Err y) h p = subst P (sym h) p

pub refused-part : (kind : ℕ) {T : Type 0} {old new : List Entry} {limit before : ℕ} (r : Result T Fault) {x : Fault} → kind ≤ bounds_lists
    → IsErrAnd r (λ y. y ≡ x) → (x ≡ Full → held kind old ≡ before) → limit ≡ before → new ≡ old → IfErr r (λ e. e ≡ Full → SomeKindIsFull new limit)
refused-part kind r le h f l e = handed _ r h (λ q. refused-term kind le (f q) l e)
