-- Folds of nodes, lists and handles.
use Rattle.std.proofs.Common.{◌≡◌, ℕ, List, refl, ap, sym, ◌∙◌, subst}
use Rattle.std.specs.Prelude.{Result, Ok, Err, IfOk}
use Rattle.type_terms.specs.Promised.Label.{Label}
use Rattle.type_terms.specs.Promised.Trees.{Trees, none, tree, ◌+++◌, leaf}
use Rattle.type_terms.specs.Trees.{Single}
use Rattle.type_terms.proofs.TreeLaws.{append-none, append-assoc}
use Rattle.type_terms.specs.Promised.Handles.{Entry, Is, Has, Keeps, types, consts, trees_at}
use Rattle.type_terms.specs.Promised.Handles.{region_trees, RegionHeld}
use Rattle.type_terms.specs.declared.region.Region.{Region}
use Rattle.type_terms.specs.declared.kinds.Ty as of_ty
use Rattle.type_terms.specs.declared.kinds.Const as of_const
use Rattle.term_folds.specs.declared.fold.Answer.TheVariants.{Enter, Replace, Again}
use Rattle.term_folds.specs.Folds.{Does, enters, puts, again, Folds, nothing, entered, put, in_turn, FoldsBelow, below, Answers, IsFold, IsFoldBelow}
use Rattle.type_terms.specs.Kept.{trees-is, trees-later}

-- the fold of two forests after each other
pub folds-append : {f : List ℕ → Trees → Does} {bs : List ℕ} {x u : Trees} → Folds f bs x u → {y v : Trees} → Folds f bs y v → Folds f bs (x +++ y) (u +++ v)
folds-append nothing b = b
folds-append (entered e a o) b = entered e a (folds-append o b)
folds-append {f = f} {bs = bs} (put {l = l} {c = c} {o = o1} {r = r} {o' = o2} e o) {y = y} {v = v} b =
    subst (λ z. Folds f bs (tree l c o1 +++ y) z) (sym (append-assoc r o2 v)) (put e (folds-append o b))
folds-append {f = f} {bs = bs} (in_turn {l = l} {c = c} {o = o1} {r = r} {o' = o2} e a o) {y = y} {v = v} b =
    subst (λ z. Folds f bs (tree l c o1 +++ y) z) (sym (append-assoc r o2 v)) (in_turn e a (folds-append o b))

-- ---- the response of a folder
abbrev pub TyIs : List Entry → of_ty.Ty → Trees → Type 0
TyIs es x t = Is es types x.0 t

abbrev pub ConstIs : List Entry → of_const.Const → Trees → Type 0
ConstIs es x t = Is es consts x.0 t

abbrev pub RegionIs : Region → Trees → Type 0
RegionIs x t = (region_trees x ≡ t) × RegionHeld x.kind

module _ {T : Type 0} (P : T → Trees → Type 0) where
  pub says-enters : (d : Does) → Answers P d Enter → d ≡ enters
  says-enters enters h = refl
  says-enters (puts t) h = absurd h
  says-enters (again t) h = absurd h

  pub says-puts : (d : Does) (x : T) → Answers P d (Replace x) → (t : Trees) × (d ≡ puts t) × P x t
  says-puts enters x h = absurd h
  says-puts (puts t) x h = (t, refl, h)
  says-puts (again t) x h = absurd h

  pub says-again : (d : Does) (x : T) → Answers P d (Again x) → (t : Trees) × (d ≡ again t) × P x t
  says-again enters x h = absurd h
  says-again (puts t) x h = absurd h
  says-again (again t) x h = (t, refl, h)

-- ---- one node
module _ (f : List ℕ → Trees → Does) (bs : List ℕ) where
  pub put-at : (t r : Trees) → Single t → f bs t ≡ puts r → Folds f bs t r
  put-at none r s e = absurd s
  put-at (tree l c o) r s e =
      subst (λ z. Folds f bs (tree l c o) z) (append-none r)
      (subst (λ z. Folds f bs (tree l c z) (r +++ none)) (sym s) (put (ap (λ z. f bs (tree l c z)) (sym s) ∙ e) nothing))

  pub turn-at : (t s r : Trees) → Single t → f bs t ≡ again s → Folds f bs s r → Folds f bs t r
  turn-at none s r w e h = absurd w
  turn-at (tree l c o) s r w e h =
      subst (λ z. Folds f bs (tree l c o) z) (append-none r)
      (subst (λ z. Folds f bs (tree l c z) (r +++ none)) (sym w) (in_turn (ap (λ z. f bs (tree l c z)) (sym w) ∙ e) h nothing))

  pub enter-at : (t u : Trees) → f bs t ≡ enters → FoldsBelow f bs t u → Folds f bs t u
  enter-at t u e (below g) = entered e g nothing

  pub leaf-stays : (l : Label) → f bs (leaf l) ≡ enters → Folds f bs (leaf l) (leaf l)
  leaf-stays l e = entered e nothing nothing

-- a fold by the action over later entries is one by the action over earlier entries
pub by-action : (f g : List ℕ → Trees → Does) (bs : List ℕ) (t s u : Trees) → f ≡ g → t ≡ s → Folds f bs t u → Folds g bs s u
by-action f g bs t s u p q h = subst (λ (k : List ℕ → Trees → Does). Folds k bs s u) p (subst (λ z. Folds f bs z u) q h)

-- ---- handles
module _ (f : List ℕ → Trees → Does) (bs : List ℕ) (t : Trees) (es : List Entry) (kind : ℕ) where
  pub put-handle : (i : ℕ) → Single t → (r : Trees) × (f bs t ≡ puts r) × Is es kind i r → IsFold f bs t es kind i
  put-handle i s h = record {
    has = (h.0, h.2);
    folded = put-at f bs t (trees_at es i) s (h.1 ∙ ap puts (sym (trees-is es kind i h.0 h.2)));
  }

  pub enter-handle : (i : ℕ) → f bs t ≡ enters → IsFoldBelow f bs t es kind i → IsFold f bs t es kind i
  enter-handle i e h = record { has = h.has; folded = enter-at f bs t (trees_at es i) e h.folded }

pub turn-handle : (f g : List ℕ → Trees → Does) (bs : List ℕ) (t : Trees) (es1 es2 : List Entry) (kind i j : ℕ) → Single t → f ≡ g
    → (s : Trees) × (g bs t ≡ again s) × Is es1 kind i s → IsFold f bs (trees_at es1 i) es2 kind j → IsFold g bs t es2 kind j
turn-handle f g bs t es1 es2 kind i j w law h r = record {
  has = r.has;
  folded = turn-at g bs t h.0 (trees_at es2 j) w h.1 (by-action f g bs _ _ _ law (trees-is es1 kind i h.0 h.2) r.folded);
}

pub ok-map : {T E : Type 0} {P Q : T → Type 0} (r : Result T E) → IfOk r P → ((x : T) → P x → Q x) → IfOk r Q
ok-map (Ok x) h f = f x h
ok-map (Err e) h f = h

pub enter-later : (f g : List ℕ → Trees → Does) (bs : List ℕ) (t s : Trees) (es : List Entry) (kind i : ℕ) → f ≡ g → t ≡ s → g bs s ≡ enters
    → IsFoldBelow f bs t es kind i → IsFold g bs s es kind i
enter-later f g bs t s es kind i p q e h =
    enter-handle g bs s es kind i e
    (subst (λ (k : List ℕ → Trees → Does). IsFoldBelow k bs s es kind i) p (subst (λ z. IsFoldBelow f bs z es kind i) q h))

-- two parts, one folded after the other
pub two-folds : (f g : List ℕ → Trees → Does) (bs : List ℕ) (es es1 es2 : List Entry) (kind i i' kind' j j' : ℕ) → f ≡ g → Keeps es es1 → Keeps es1 es2
    → IsFold g bs (trees_at es i) es1 kind i' → Has es kind' j → IsFold f bs (trees_at es1 j) es2 kind' j'
    → Folds g bs (trees_at es i +++ trees_at es j) (trees_at es2 i' +++ trees_at es2 j')
two-folds f g bs es es1 es2 kind i i' kind' j j' law k1 k2 a h b =
    folds-append
    (subst (λ z. Folds g bs (trees_at es i) z) (sym (trees-later es1 es2 k2 kind i' a.has)) a.folded)
    (by-action f g bs _ _ _ law (trees-later es es1 k1 kind' j h) b.folded)
