-- The impls that can match are those under two keys.
use Rattle.std.proofs.Common.{◌≡◌, ℕ, Bool, true, false, cond, ◌&&◌, ◌||◌, List, [], ◌∷◌, Option, Some, None, refl, sym, ap, ◌∙◌, inl, inr, if◌then◌else◌}
use Rattle.std.proofs.lemmas.Bool.{cases_Bool}
use Rattle.std.specs.Prelude.{◌==◌, map, filter}
use Rattle.type_terms.specs.Promised.Label.{Label, of_type, of_const, of_lifetime, static, auto_trait, value, principal, param, placeholder, infer, canonical, bound}
use Rattle.type_terms.specs.Promised.Trees.{Trees, none, tree, erase, erase_label, IsA}
use Rattle.type_terms.specs.Codes.{same_label}
use Rattle.type_terms.specs.Promised.Rules.{same_head}
use Rattle.type_terms.specs.Promised.Erased.{erased_impl}
use Rattle.type_terms.specs.Promised.Worlds.{ImplDecl}
use Rattle.type_terms.proofs.Matching.{same-label-sound}
use Rattle.type_terms.specs.Promised.Handles.{Entry, trees_at}
use Rattle.declarations.specs.Heads.{is_rigid, head_of, begins_declared, same_self}
use Rattle.declarations.specs.Promised.Elaboration.{Each}
use Rattle.declarations.specs.Merges.{IsMerge}
use Rattle.declarations.specs.Items.{Items, HeldImpl, impl_in, declared, ids_with, ids_headed}
use Rattle.declarations.specs.Held.{ImplHeld, AreHeld}
use Rattle.declarations.specs.Relevant.{is_relevant_to, relevant_impls, impl_indices}
use Rattle.declarations.proofs.Merging.{merge-alone, merge-filtered}

-- an impl with this head can match a type with that one
abbrev pub wanted : Option Label → Option Label → Bool
wanted None k = same_self None k
wanted (Some l) k = same_self None k || same_self (Some l) k

abbrev pub rel : ℕ → Option Label → HeldImpl → Bool
rel t h i = (i.def.header.def_id.index == t) && wanted h i.self_head

-- ---- heads
wanted-none : (h : Option Label) → wanted h None ≡ true
wanted-none None = refl
wanted-none (Some l) = refl

rigid-erased : (l : Label) → is_rigid (erase_label l) ≡ is_rigid l
rigid-erased (param of_type i) = refl
rigid-erased (param of_const i) = refl
rigid-erased (param of_lifetime i) = refl
rigid-erased (placeholder of_type i) = refl
rigid-erased (placeholder of_const i) = refl
rigid-erased (placeholder of_lifetime i) = refl
rigid-erased (infer of_type i) = refl
rigid-erased (infer of_const i) = refl
rigid-erased (infer of_lifetime i) = refl
rigid-erased (canonical of_type i) = refl
rigid-erased (canonical of_const i) = refl
rigid-erased (canonical of_lifetime i) = refl
rigid-erased (bound of_type i j) = refl
rigid-erased (bound of_const i j) = refl
rigid-erased (bound of_lifetime i j) = refl
rigid-erased l = refl

head-of-rigid : (m k : Label) (c o : Trees) → is_rigid m ≡ true → same_head k (tree (erase_label m) c o) ≡ same_label k (erase_label m)
head-of-rigid static k c o h = absurd cc
head-of-rigid (auto_trait n) k c o h = absurd cc
head-of-rigid (value n) k c o h = absurd cc
head-of-rigid (principal n t) k c o h = absurd cc
head-of-rigid (param s i) k c o h = absurd cc
head-of-rigid (placeholder s i) k c o h = absurd cc
head-of-rigid (infer s i) k c o h = absurd cc
head-of-rigid (canonical s i) k c o h = absurd cc
head-of-rigid (bound s i j) k c o h = absurd cc
head-of-rigid m k c o h = refl

rigid-at : (l m : Label) (c o d q : Trees) → is_rigid m ≡ true → same_head (erase_label l) (tree (erase_label m) (erase d) (erase q)) ≡ wanted (head_of (tree l c o)) (head_of (tree m d q))
rigid-at l m c o d q h =
    head-of-rigid m (erase_label l) (erase d) (erase q) h ∙ by (is_rigid l) refl
    ∙ ap (λ b. wanted (head_of (tree l c o)) (if b then Some (erase_label m) else None)) (sym h)
  where
    by : (b : Bool) → is_rigid l ≡ b → same_label (erase_label l) (erase_label m) ≡ wanted (if b then Some (erase_label l) else None) (Some (erase_label m))
    by true e = refl
    by false e = elim (cases_Bool (same_label (erase_label l) (erase_label m))) [
      | inl y ↦
          let one = ap is_rigid (same-label-sound (erase_label l) (erase_label m) y) in
          let bad : true ≡ false = sym h ∙ sym (rigid-erased m) ∙ sym one ∙ rigid-erased l ∙ e in absurd cc
      | inr n ↦ n
    ]

relevant-at : (l m : Label) (c o d q : Trees) → begins_declared (tree m d q) ≡ true → same_head (erase_label l) (tree (erase_label m) (erase d) (erase q)) ≡ wanted (head_of (tree l c o)) (head_of (tree m d q))
relevant-at l (param of_type i) c o d q h = sym (wanted-none (head_of (tree l c o)))
relevant-at l (param of_const i) c o d q h = absurd cc
relevant-at l (param of_lifetime i) c o d q h = absurd cc
relevant-at l m c o d q h = rigid-at l m c o d q h

pub relevant-one : (l : Label) (c o A : Trees) → begins_declared A ≡ true → is_relevant_to (erase (tree l c o)) (erase A) ≡ wanted (head_of (tree l c o)) (head_of A)
relevant-one l c o none h = absurd cc
relevant-one l c o (tree m d q) h = relevant-at l m c o d q h

-- ---- lists
pub one-more : (a b : Bool) (i : HeldImpl) (j : ImplDecl) (is : List HeldImpl) (js : List ImplDecl) → i.id.index ≡ j.name → a ≡ b
    → impl_indices (map (λ i. i.id) is) ≡ map (λ j. j.name) js → impl_indices (map (λ i. i.id) (cond a (i ∷ is) is)) ≡ map (λ j. j.name) (cond b (j ∷ js) js)
one-more true true i j is js n e r = cc
one-more true false i j is js n e r = absurd cc
one-more false true i j is js n e r = absurd cc
one-more false false i j is js n e r = r

names-relevant : (es : List Entry) (is : List HeldImpl) (t : ℕ) (l : Label) (c o : Trees) → Each (λ i. ImplHeld es i.def) is → Each (λ (i : HeldImpl). i.self_head ≡ head_of (trees_at es i.def.header.args.0)) is
    → impl_indices (map (λ i. i.id) (filter (rel t (head_of (tree l c o))) is))
    ≡ map (λ i. i.name) (filter (λ i. (i.header.trait == t) && is_relevant_to (erase (tree l c o)) i.header.args) (map erased_impl (map (λ i. impl_in es i.id i.def) is)))
names-relevant es [] t l c o h e = refl
names-relevant es (i ∷ is) t l c o h e =
    one-more (rel t (head_of (tree l c o)) i) ((i.def.header.def_id.index == t) && is_relevant_to (erase (tree l c o)) (erase (trees_at es i.def.header.args.0)))
    i (erased_impl (impl_in es i.id i.def)) (filter (rel t (head_of (tree l c o))) is) _ refl
    (ap (λ b. (i.def.header.def_id.index == t) && b) (ap (wanted (head_of (tree l c o))) e.0 ∙ sym (relevant-one l c o (trees_at es i.def.header.args.0) h.0.begins)))
    (names-relevant es is t l c o h.1 e.1)

pub all-relevant : (es : List Entry) (d : Items) (t : ℕ) (S : Trees) → IsA of_type S → AreHeld es d
    → impl_indices (map (λ i. i.id) (filter (rel t (head_of S)) d.impls)) ≡ map (λ i. i.name) (relevant_impls (declared es d) t (erase S))
all-relevant es d t none s h = absurd s
all-relevant es d t (tree l c o) s h = names-relevant es d.impls t l c o h.impls h.heads

pub spread : (a b c : Bool) → (a && (b || c)) ≡ ((a && b) || (a && c))
spread true b c = refl
spread false b c = refl

apart-heads : (a : Bool) (l : Label) (k : Option Label) → (a && same_self None k) ≡ true → (a && same_self (Some l) k) ≡ false
apart-heads true l None h = refl
apart-heads true l (Some k) h = absurd cc
apart-heads false l k h = refl

pub two-keys : (t : ℕ) (h : Option Label) (is : List HeldImpl) → IsMerge (ids_with t None is) (ids_headed t h is) (map (λ i. i.id) (filter (rel t h) is))
two-keys t None is = merge-alone (ids_with t None is)
two-keys t (Some l) is =
    merge-filtered (λ i. i.id) (λ i. (i.def.header.def_id.index == t) && same_self None i.self_head) (λ i. (i.def.header.def_id.index == t) && same_self (Some l) i.self_head) (rel t (Some l))
    (λ i. spread (i.def.header.def_id.index == t) (same_self None i.self_head) (same_self (Some l) i.self_head))
    (λ i. apart-heads (i.def.header.def_id.index == t) l i.self_head) is
