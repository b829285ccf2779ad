-- Visits of what is still to be visited.
use Rattle.std.proofs.Common.{◌≡◌, ℕ, ◌<◌, List, [], ◌∷◌, ◌++◌, length, reverse, refl, ap, sym, ◌∙◌, arith, Option, Some, None, subst}
use Rattle.std.proofs.lemmas.List.{reverse-append}
use Rattle.type_terms.specs.Promised.Label.{Label, fn_ptr, principal}
use Rattle.type_terms.specs.Promised.Trees.{Trees, none, tree, ◌+++◌}
use Rattle.type_terms.specs.Trees.{Single}
use Rattle.type_terms.specs.Promised.Handles.{Entry}
use Rattle.type_terms.specs.Kinds.{kind_trees, tys_trees, args_trees}
use Rattle.type_terms.specs.declared.kinds.GenericArgKind.{GenericArgKind}
use Rattle.type_terms.specs.declared.AdtId.{AdtId}
use Rattle.type_terms.specs.declared.region.Region.{Region}
use Rattle.type_terms.specs.declared.kinds.Ty as of_ty
use Rattle.type_terms.specs.declared.kinds.Const as of_const
use Rattle.type_terms.specs.declared.kinds.GenericArgs as of_args
use Rattle.type_terms.specs.declared.kinds.Tys as of_tys
use Rattle.type_terms.specs.declared.kinds.Bounds as of_bounds
use Rattle.type_terms.specs.declared.kinds.Mutability.{Mutability}
use Rattle.type_terms.specs.declared.kinds.TyKind.{TyKind}
use Rattle.type_terms.specs.declared.kinds.TyKind.TheVariants.{Bool, Char, Int, Uint, Str, Never, Adt, Ref, RawPtr, Array, Slice, Tuple, FnPtr, Dynamic, Param, Placeholder, Bound, Infer}
use Rattle.type_terms.specs.declared.deep_visit.Part.{Part}
use Rattle.type_terms.specs.declared.deep_visit.Pending.{Pending}
use Rattle.type_terms.specs.declared.deep_visit.Pending.TheVariants.{Visit}
use Rattle.type_terms.specs.declared.visit.Seen.{Seen}
use Rattle.type_terms.specs.declared.visit.Seen.TheVariants.{Enter}
use Rattle.type_terms.specs.Visits.{around, IsBound, Visits, ended, entered, broken_below, VisitsBelow, below, VisitsEach, ended_each, next_each, broken_each}
use Rattle.type_terms.specs.Pieces.{Piece}
use Rattle.type_terms.specs.Pending.{part_trees, piece, piece_below, pieces_ahead, VisitsFollow}
use Rattle.type_terms.proofs.VisitFacts.{visits-append, visits-broken, bounds-visited}

-- ---- lists that are kept the next last
pub reverse-push : {A : Type 0} (xs : List A) (x : A) → reverse (xs ++ x ∷ []) ≡ x ∷ reverse xs
reverse-push xs x = reverse-append xs (x ∷ [])

-- the binders around the children of a node
pub around-append : (l : Label) (cs bs : List ℕ) → around l cs ++ bs ≡ around l (cs ++ bs)
around-append (fn_ptr n) cs bs = refl
around-append (principal n i) cs bs = refl
around-append l cs bs = refl

module _ {V B : Type 0} (sees : List ℕ → Trees → V → V → Seen B → Type 0) (bs : List ℕ) where
  -- ---- visits of pieces, the first of which is changed
  pub visits-joined : (cs : List ℕ) (a b : Trees) (ps : List Piece) (v x : V) (q : Option B) → VisitsEach sees bs (piece cs a ∷ piece cs b ∷ ps) v x q → VisitsEach sees bs (piece cs (a +++ b) ∷ ps) v x q
  visits-joined cs a b ps v x q (next_each first (next_each second rest)) = next_each (visits-append first refl second) rest
  visits-joined cs a b ps v x q (next_each first (broken_each second)) = broken_each (visits-append first refl second)
  visits-joined cs a b ps v x q (broken_each first) = broken_each (visits-broken first refl b)

  enters-node : (l : Label) (cs : List ℕ) (c : Trees) (ps : List Piece) (v u x : V) (q : Option B) → sees (cs ++ bs) (tree l c none) v u Enter → VisitsEach sees bs (piece (around l cs) c ∷ ps) u x q
      → VisitsEach sees bs (piece cs (tree l c none) ∷ ps) v x q
  enters-node l cs c ps v u x q s (next_each {w = w} first rest) = next_each (entered s (subst (λ d. Visits sees d c u w None) (around-append l cs bs) first) ended) rest
  enters-node l cs c ps v u x q s (broken_each {w = w} {b = b} first) = broken_each (broken_below s (subst (λ d. Visits sees d c u w (Some b)) (around-append l cs bs) first))

  pub visits-entered : (cs : List ℕ) (t : Trees) (ps : List Piece) (v u x : V) (q : Option B) → Single t → sees (cs ++ bs) t v u Enter → VisitsEach sees bs (piece_below cs t ∷ ps) u x q → VisitsEach sees bs (piece cs t ∷ ps) v x q
  visits-entered cs none ps v u x q one s h = absurd one
  visits-entered cs (tree l c o) ps v u x q one s h =
      subst (λ z. VisitsEach sees bs (piece cs (tree l c z) ∷ ps) v x q) (sym one) (enters-node l cs c ps v u x q (subst (λ z. sees (cs ++ bs) (tree l c z) v u Enter) one s) h)

  pub visits-bounds : (cs : List ℕ) (n d : ℕ) (c autos : Trees) (ps : List Piece) (v x : V) (q : Option B) → ((w : V) (t : Trees) → IsBound t → sees (cs ++ bs) t w w Enter) → ((w : V) → Visits sees (cs ++ bs) autos w w None)
      → VisitsEach sees bs (piece (n ∷ cs) c ∷ ps) v x q → VisitsEach sees bs (piece cs (tree (principal n d) c none +++ autos) ∷ ps) v x q
  visits-bounds cs n d c autos ps v x q law a (next_each {w = w} first rest) = next_each (bounds-visited sees (cs ++ bs) n d c autos v w None law (a w) first) rest
  visits-bounds cs n d c autos ps v x q law a (broken_each {w = w} {b = b} first) = broken_each (bounds-visited sees (cs ++ bs) n d c autos v w (Some b) law (a w) first)

  pub visits-one-piece : (t : Trees) (v w : V) (q : Option B) → VisitsEach sees bs (piece [] t ∷ []) v w q → Visits sees bs t v w q
  visits-one-piece t v w q (next_each first ended_each) = first
  visits-one-piece t v w q (broken_each first) = first

  below-node : (l : Label) (c : Trees) (v w : V) (q : Option B) → VisitsEach sees bs (piece (around l []) c ∷ []) v w q → VisitsBelow sees bs (tree l c none) v w q
  below-node l c v w q (next_each {w = x} first ended_each) = below (subst (λ d. Visits sees d c v x None) (around-append l [] bs) first)
  below-node l c v w q (broken_each {w = x} {b = b} first) = below (subst (λ d. Visits sees d c v x (Some b)) (around-append l [] bs) first)

  pub visits-below-piece : (t : Trees) (v w : V) (q : Option B) → Single t → VisitsEach sees bs (piece_below [] t ∷ []) v w q → VisitsBelow sees bs t v w q
  visits-below-piece none v w q one h = absurd one
  visits-below-piece (tree l c o) v w q one h = subst (λ z. VisitsBelow sees bs (tree l c z) v w q) (sym one) (below-node l c v w q h)

  -- ---- the same of what comes after
  module _ (before before' : List Piece) (v v' : V) (on : (x : V) (q : Option B) → VisitsEach sees bs before' v' x q → VisitsEach sees bs before v x q) where
    pub follows-by : (after : List Piece) (w : V) (r : Option B) → VisitsFollow sees bs before' v' after w r → VisitsFollow sees bs before v after w r
    follows-by after w None f = λ x q h. on x q (f x q h)
    follows-by after w (Some b) f = on w (Some b) f

  follows-visited : (cs : List ℕ) (t : Trees) (ps : List Piece) (v w : V) (r : Option B) → Visits sees (cs ++ bs) t v w r → VisitsFollow sees bs (piece cs t ∷ ps) v ps w r
  follows-visited cs t ps v w None h = λ x q g. next_each h g
  follows-visited cs t ps v w (Some b) h = broken_each h

  -- a part that is visited at once, where nothing was added to what is ahead
  pub at-once : (es : List Entry) (cs ds ns : List ℕ) (ps qs : List Pending) (t : Trees) (v w : V) (r : Option B) → ds ≡ cs → ns ≡ cs → qs ≡ ps → Visits sees (ds ++ bs) t v w r
      → VisitsFollow sees bs (piece cs t ∷ pieces_ahead es cs ps) v (pieces_ahead es ns qs) w r
  at-once es cs ds ns ps qs t v w r e f g h =
      let here = subst (λ c. Visits sees (c ++ bs) t v w r) e h in
      subst (λ n. VisitsFollow sees bs (piece cs t ∷ pieces_ahead es cs ps) v (pieces_ahead es n qs) w r) (sym f)
      (subst (λ q. VisitsFollow sees bs (piece cs t ∷ pieces_ahead es cs ps) v (pieces_ahead es cs q) w r) (sym g) (follows-visited cs t (pieces_ahead es cs ps) v w r here))

  pub at-once-bound : (es : List Entry) (n : ℕ) (cs ds ns : List ℕ) (ps qs : List Pending) (t : Trees) (v w : V) (r : Option B) → ds ≡ cs → ns ≡ cs → qs ≡ ps → Visits sees (n ∷ (ds ++ bs)) t v w r
      → VisitsFollow sees bs (piece (n ∷ cs) t ∷ pieces_ahead es cs ps) v (pieces_ahead es ns qs) w r
  at-once-bound es n cs ds ns ps qs t v w r e f g h =
      let here = subst (λ c. Visits sees (n ∷ (c ++ bs)) t v w r) e h in
      subst (λ m. VisitsFollow sees bs (piece (n ∷ cs) t ∷ pieces_ahead es cs ps) v (pieces_ahead es m qs) w r) (sym f)
      (subst (λ q. VisitsFollow sees bs (piece (n ∷ cs) t ∷ pieces_ahead es cs ps) v (pieces_ahead es cs q) w r) (sym g) (follows-visited (n ∷ cs) t (pieces_ahead es cs ps) v w r here))

  -- two parts that were put ahead
  pub both-ahead : (es : List Entry) (cs ns : List ℕ) (ps qs : List Pending) (p q : Part) (v : V) → ns ≡ cs → qs ≡ Visit p ∷ Visit q ∷ ps
      → VisitsFollow sees bs (piece cs (part_trees es p +++ part_trees es q) ∷ pieces_ahead es cs ps) v (pieces_ahead es ns qs) v None
  both-ahead es cs ns ps qs p q v f g =
      subst (λ n. VisitsFollow sees bs (piece cs (part_trees es p +++ part_trees es q) ∷ pieces_ahead es cs ps) v (pieces_ahead es n qs) v None) (sym f)
      (subst (λ z. VisitsFollow sees bs (piece cs (part_trees es p +++ part_trees es q) ∷ pieces_ahead es cs ps) v (pieces_ahead es cs z) v None) (sym g)
      (λ x r h. visits-joined cs (part_trees es p) (part_trees es q) (pieces_ahead es cs ps) v x r h))

  -- a kind without parts
  pub leaf-follows : (es : List Entry) (cs : List ℕ) (ps : List Piece) (k : TyKind) (v : V)
      → ((a : AdtId) (x : of_args.GenericArgs) → k ≡ Adt a x → ⊥) → ((r : Region) (x : of_ty.Ty) (m : Mutability) → k ≡ Ref r x m → ⊥)
      → ((x : of_ty.Ty) (m : Mutability) → k ≡ RawPtr x m → ⊥) → ((x : of_ty.Ty) (n : of_const.Const) → k ≡ Array x n → ⊥) → ((x : of_ty.Ty) → k ≡ Slice x → ⊥)
      → ((x : of_tys.Tys) → k ≡ Tuple x → ⊥) → ((n : ℕ) (x : of_tys.Tys) → k ≡ FnPtr n x → ⊥) → ((b : of_bounds.Bounds) (r : Region) → k ≡ Dynamic b r → ⊥)
      → (x : V) (q : Option B) → VisitsEach sees bs ps v x q → VisitsEach sees bs (piece_below cs (kind_trees es k) ∷ ps) v x q
  leaf-follows es cs ps (Adt a x) v n1 n2 n3 n4 n5 n6 n7 n8 = absurd (n1 a x refl)
  leaf-follows es cs ps (Ref r x m) v n1 n2 n3 n4 n5 n6 n7 n8 = absurd (n2 r x m refl)
  leaf-follows es cs ps (RawPtr x m) v n1 n2 n3 n4 n5 n6 n7 n8 = absurd (n3 x m refl)
  leaf-follows es cs ps (Array x n) v n1 n2 n3 n4 n5 n6 n7 n8 = absurd (n4 x n refl)
  leaf-follows es cs ps (Slice x) v n1 n2 n3 n4 n5 n6 n7 n8 = absurd (n5 x refl)
  leaf-follows es cs ps (Tuple x) v n1 n2 n3 n4 n5 n6 n7 n8 = absurd (n6 x refl)
  leaf-follows es cs ps (FnPtr n x) v n1 n2 n3 n4 n5 n6 n7 n8 = absurd (n7 n x refl)
  leaf-follows es cs ps (Dynamic b r) v n1 n2 n3 n4 n5 n6 n7 n8 = absurd (n8 b r refl)
  leaf-follows es cs ps Bool v n1 n2 n3 n4 n5 n6 n7 n8 = λ x q h. next_each ended h
  leaf-follows es cs ps Char v n1 n2 n3 n4 n5 n6 n7 n8 = λ x q h. next_each ended h
  leaf-follows es cs ps (Int w) v n1 n2 n3 n4 n5 n6 n7 n8 = λ x q h. next_each ended h
  leaf-follows es cs ps (Uint w) v n1 n2 n3 n4 n5 n6 n7 n8 = λ x q h. next_each ended h
  leaf-follows es cs ps Str v n1 n2 n3 n4 n5 n6 n7 n8 = λ x q h. next_each ended h
  leaf-follows es cs ps Never v n1 n2 n3 n4 n5 n6 n7 n8 = λ x q h. next_each ended h
  leaf-follows es cs ps (Param i) v n1 n2 n3 n4 n5 n6 n7 n8 = λ x q h. next_each ended h
  leaf-follows es cs ps (Placeholder i) v n1 n2 n3 n4 n5 n6 n7 n8 = λ x q h. next_each ended h
  leaf-follows es cs ps (Bound i k) v n1 n2 n3 n4 n5 n6 n7 n8 = λ x q h. next_each ended h
  leaf-follows es cs ps (Infer k) v n1 n2 n3 n4 n5 n6 n7 n8 = λ x q h. next_each ended h

-- ---- what comes off the list
pub ahead-pop : (old new : List Pending) (x : Pending) → old ≡ new ++ x ∷ [] → reverse old ≡ x ∷ reverse new
ahead-pop old new x e = ap reverse e ∙ reverse-push new x

pub ahead-none : (xs : List Pending) (n : ℕ) → n ≡ length xs → n ≡ 0 → reverse xs ≡ []
ahead-none [] n e z = refl
ahead-none (x ∷ xs) n e z = absurd (omega arith)

-- a list that is shorter than one
pub tys-empty : (es : List Entry) (xs : List of_ty.Ty) → length xs < 1 → tys_trees es xs ≡ none
tys-empty es [] h = refl
tys-empty es (x ∷ xs) h = absurd (omega arith)

pub args-empty : (es : List Entry) (xs : List GenericArgKind) → length xs < 1 → args_trees es xs ≡ none
args-empty es [] h = refl
args-empty es (x ∷ xs) h = absurd (omega arith)
