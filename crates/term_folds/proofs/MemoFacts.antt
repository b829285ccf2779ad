-- The cache of a fold remains right.
use Rattle.std.proofs.Common.{◌≡◌, ℕ, suc, List, length, refl, ap, sym, ◌∙◌, subst, Option, None, Some, min, nat_eq, true, false, Bool, cond, ◌&&◌, arith}
use Rattle.std.specs.Prelude.{IfSome}
use Rattle.type_terms.specs.Promised.Label.{Label, fn_ptr, principal}
use Rattle.type_terms.specs.Promised.Trees.{Trees, none, tree}
use Rattle.type_terms.specs.Promised.Handles.{Entry, Has, Keeps, types, trees_at}
use Rattle.term_folds.specs.declared.memo.Place.{Place}
use Rattle.term_folds.specs.declared.memo.Memo.{Memo}
use Rattle.type_terms.specs.declared.kinds.Ty.{Ty}
use Rattle.std.proofs.lemmas.Bool.{eqb-true}
use Rattle.std.specs.HashMap.{get}
use Rattle.term_folds.specs.Folds.{Does, Folds, nothing, entered, put, in_turn, IsFold}
use Rattle.type_terms.specs.Visits.{around}
use Rattle.term_folds.specs.Memos.{IsMemo, Remembers, place_eq}
use Rattle.type_terms.specs.Kept.{has-later, trees-later}
use Rattle.term_folds.proofs.FoldFacts.{by-action}

around-length : (l : Label) (bs cs : List ℕ) → length bs ≡ length cs → length (around l bs) ≡ length (around l cs)
around-length (fn_ptr n) bs cs e = ap suc e
around-length (principal n i) bs cs e = ap suc e
around-length l bs cs e = e

module _ (f : List ℕ → Trees → Does) (law : (bs cs : List ℕ) (t : Trees) → length bs ≡ length cs → f bs t ≡ f cs t) where
  -- a fold depends only on the number of binders around it
  pub by-length : (bs cs : List ℕ) (t u : Trees) → length bs ≡ length cs → Folds f bs t u → Folds f cs t u
  by-length bs cs _ _ e nothing = nothing
  by-length bs cs _ _ e (entered {l = l} {c = c} {o = o} {c' = c'} {o' = o'} a h g) =
      entered (sym (law bs cs (tree l c none) e) ∙ a) (by-length (around l bs) (around l cs) c c' (around-length l bs cs e) h) (by-length bs cs o o' e g)
  by-length bs cs _ _ e (put {l = l} {c = c} {o = o} {o' = o'} a g) = put (sym (law bs cs (tree l c none) e) ∙ a) (by-length bs cs o o' e g)
  by-length bs cs _ _ e (in_turn {l = l} {c = c} {o = o} {s = s} {r = r} {o' = o'} a h g) =
      in_turn (sym (law bs cs (tree l c none) e) ∙ a) (by-length bs cs s r e h) (by-length bs cs o o' e g)

-- cached folds remain right as the interner grows
pub known-later : (f g : List ℕ → Trees → Does) (old new : List Entry) → Keeps old new → g ≡ f → (i d j : ℕ) → IsMemo f old i d j → IsMemo g new i d j
known-later f g old new k e i d j h = record {
  of = has-later old new k types i h.of;
  has = has-later old new k types j h.has;
  folded = λ bs l. by-action f g bs _ _ _ (sym e) (sym (trees-later old new k types i h.of)) (subst (λ z. Folds f bs (trees_at old i) z) (sym (trees-later old new k types j h.has)) (h.folded bs l));
}

pub remembers-later : (f g : List ℕ → Trees → Does) (old new : List Entry) (m : Memo) → Keeps old new → g ≡ f → Remembers f old m → Remembers g new m
remembers-later f g old new m k e h p = go (get place_eq m.found p) (h p)
  where
    go : (o : Option Ty) → IfSome o (λ (t : Ty). IsMemo f old p.ty p.depth t.0) → IfSome o (λ (t : Ty). IsMemo g new p.ty p.depth t.0)
    go None x = tt
    go (Some t) x = known-later f g old new k e _ _ _ x

pub under-limit : (n most d : ℕ) → d ≡ min n most → (d ≡ most → ⊥) → n ≡ d
under-limit n most d e ne = omega (arith, e, ne)

-- places that compare equal are equal
same-number : (a b : ℕ) → nat_eq a b ≡ true → a ≡ b
same-number a b e = eqb-true a b e

-- one more cached fold
pub remembers-more : (f : List ℕ → Trees → Does) (es : List Entry) (old new : Memo) (i d : ℕ) (t : Ty) → ((q : Place) → get place_eq new.found q ≡ cond (place_eq (record { ty = i; depth = d }) q) (Some t) (get place_eq old.found q))
    → Remembers f es old → IsMemo f es i d t.0 → Remembers f es new
remembers-more f es old new i d t u h k p = rw (u p) (go (nat_eq i p.ty) refl (nat_eq d p.depth) refl)
  where
    go : (a : Bool) → nat_eq i p.ty ≡ a → (b : Bool) → nat_eq d p.depth ≡ b → IfSome (cond (a && b) (Some t) (get place_eq old.found p)) (λ s. IsMemo f es p.ty p.depth s.0)
    go true x true y = rw (← same-number i p.ty x, ← same-number d p.depth y) k
    go true x false y = h p
    go false x b y = h p

-- the fold of a type below these binders may be cached
pub fold-known : (f g : List ℕ → Trees → Does) (bs : List ℕ) (old new : List Entry) → Keeps old new → g ≡ f → ((bs cs : List ℕ) (t : Trees) → length bs ≡ length cs → g bs t ≡ g cs t)
    → (i j : ℕ) → Has old types i → IsFold f bs (trees_at old i) new types j → IsMemo g new i (length bs) j
fold-known f g bs old new k e law i j h r = record {
  of = has-later old new k types i h;
  has = r.has;
  folded = λ cs l. by-length g law bs cs (trees_at new i) (trees_at new j) (sym l) (by-action f g bs _ _ _ (sym e) (sym (trees-later old new k types i h)) r.folded);
}
