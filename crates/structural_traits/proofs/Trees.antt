-- Trees of types, one after the other, asked for a trait, with and without lifetimes.
use Rattle.std.proofs.Common.{◌≡◌, ℕ, List, [], ◌∷◌, ◌++◌, refl, sym, ap, subst, ◌∙◌, map}
use Rattle.type_terms.specs.Promised.Label.{of_type}
use Rattle.type_terms.specs.Promised.Trees.{Trees, none, tree, ◌+++◌, IsA, erase, erase_label, instantiate}
use Rattle.type_terms.specs.Promised.Erased.{erased_reference}
use Rattle.type_terms.specs.Promised.Rules.{asked, each_asked, last_asked, together}
use Rattle.type_terms.specs.Promised.Handles.{Entry, Has, types, trees_at}
use Rattle.type_terms.specs.Terms.{Lawful}
use Rattle.type_terms.specs.Kept.{trees-is}
use Rattle.type_terms.specs.Kinds.{TysHeld, tys_trees}
use Rattle.type_terms.specs.declared.kinds.Ty.{Ty}
use Rattle.type_terms.proofs.TreeLaws.{append-none}
use Rattle.type_terms.proofs.TermBasics.{skipped}
use Rattle.structural_traits.specs.Constituents.{types_asked, each_asked_of, last_of}

pub type-is : (es : List Entry) → Lawful es → (i : ℕ) → Has es types i → IsA of_type (trees_at es i)
type-is es law i h = subst (IsA of_type) (sym (trees-is es types i h.0 h.1)) ((law.sorted i _ h.1).as_type refl)

pub one-asked : (t : ℕ) (x y : Trees) → IsA of_type x → each_asked t (x +++ y) ≡ asked t x ∷ each_asked t y
one-asked t none y h = absurd h
one-asked t (tree l c o) y h = subst (λ z. each_asked t (tree l c z +++ y) ≡ asked t (tree l c z) ∷ each_asked t y) (sym h.1) refl

pub tys-asked : (es : List Entry) → Lawful es → (t : ℕ) (ts : List Ty) → TysHeld es ts → each_asked t (tys_trees es ts) ≡ types_asked es t ts
tys-asked es law t [] h = refl
tys-asked es law t (x ∷ ts) h = one-asked t (trees_at es x.0) (tys_trees es ts) (type-is es law x.0 h.0) ∙ ap (λ l. asked t (trees_at es x.0) ∷ l) (tys-asked es law t ts h.1)

pub held-last : (es : List Entry) (ts : List Ty) → TysHeld es ts → TysHeld es (last_of ts)
held-last es [] h = tt
held-last es (x ∷ []) h = (h.0, tt)
held-last es (x ∷ y ∷ ts) h = held-last es (y ∷ ts) h.1

pub one-last : (t : ℕ) (x : Trees) → IsA of_type x → last_asked t x ≡ asked t x ∷ []
one-last t none h = absurd h
one-last t (tree l c o) h = subst (λ z. last_asked t (tree l c z) ≡ asked t (tree l c z) ∷ []) (sym h.1) refl

pub tys-last : (es : List Entry) → Lawful es → (t : ℕ) (ts : List Ty) → TysHeld es ts → last_asked t (tys_trees es ts) ≡ types_asked es t (last_of ts)
tys-last es law t [] h = refl
tys-last es law t (x ∷ []) h = ap (last_asked t) (append-none (trees_at es x.0)) ∙ one-last t (trees_at es x.0) (type-is es law x.0 h.0)
tys-last es law t (x ∷ y ∷ ts) h = by (last_of (y ∷ ts)) (tys-last es law t (y ∷ ts) h.1) (there y ts)
  where
    there : (z : Ty) (zs : List Ty) → (w : Ty) × (last_of (z ∷ zs) ≡ w ∷ [])
    there z [] = (z, refl)
    there z (u ∷ zs) = there u zs

    by : (l : List Ty) → last_asked t (tys_trees es (y ∷ ts)) ≡ types_asked es t (last_of (y ∷ ts)) → (w : Ty) × (last_of (y ∷ ts) ≡ w ∷ []) → last_asked t (tys_trees es (x ∷ y ∷ ts)) ≡ types_asked es t (last_of (y ∷ ts))
    by l e w =
        let one : types_asked es t (last_of (y ∷ ts)) ≡ asked t (trees_at es w.0.0) ∷ [] = ap (types_asked es t) w.1 in
        skipped t (trees_at es x.0) (tys_trees es (y ∷ ts)) (asked t (trees_at es w.0.0)) (e ∙ one) ∙ sym one

pub last-is : (front : List Ty) (x : Ty) → last_of (front ++ x ∷ []) ≡ x ∷ []
last-is [] x = refl
last-is (y ∷ []) x = refl
last-is (y ∷ z ∷ front) x = last-is (z ∷ front) x

-- of fields with arguments put in the last one is asked
pub fields-last : (t : ℕ) (A : Trees) (front : List Trees) (f y : Trees) → y ≡ instantiate 0 A f → last_asked t y ≡ asked t y ∷ []
    → last_asked t (together (map (instantiate 0 A) (front ++ f ∷ []))) ≡ asked t y ∷ []
fields-last t A [] f y e h = ap (last_asked t) (append-none (instantiate 0 A f) ∙ sym e) ∙ h
fields-last t A (z ∷ front) f y e h =
    skipped t (instantiate 0 A z) (together (map (instantiate 0 A) (front ++ f ∷ []))) (asked t y) (fields-last t A front f y e h)

-- ---- without lifetimes
pub each-erased : (t : ℕ) (x : Trees) → each_asked t (erase x) ≡ map erased_reference (each_asked t x)
each-erased t none = refl
each-erased t (tree l c o) = ap (λ ps. asked t (tree (erase_label l) (erase c) none) ∷ ps) (each-erased t o)

pub last-erased : (t : ℕ) (x : Trees) → last_asked t (erase x) ≡ map erased_reference (last_asked t x)
last-erased t none = refl
last-erased t (tree l c none) = refl
last-erased t (tree l c (tree m d o)) = last-erased t (tree m d o)

pub asked-erased : (es : List Entry) (t : ℕ) (ts : List Ty) → map erased_reference (types_asked es t ts) ≡ each_asked_of es t ts
asked-erased es t [] = refl
asked-erased es t (x ∷ ts) = ap (λ ps. asked t (erase (trees_at es x.0)) ∷ ps) (asked-erased es t ts)
