-- The fold that replaces variables by their values.
use Rattle.std.specs.Prelude.{◌≡◌, ℕ, ◌+◌, suc, List, [], ◌∷◌, cond, ◌==◌, Bool, true, false, if◌then◌else◌, bit_and, refl}
use Rattle.std.proofs.Common.{arith, sym, subst, ◌<◌, ◌≤◌}
use Rattle.type_terms.specs.Promised.Label.{Label, Sort, of_type, of_const, of_lifetime, infer, principal, auto_trait}
use Rattle.type_terms.specs.Promised.Trees.{Trees, none, tree, leaf, ◌+++◌, sort_of, is_sort}
use Rattle.type_terms.specs.Trees.{flags}
use Rattle.term_folds.specs.Folds.{Does, enters, puts, again}
use Rattle.type_terms.specs.Visits.{IsBound}
use Rattle.type_terms.specs.Promised.Handles.{Entry, Keeps}
use Rattle.infer_table.specs.Solutions.{Binding, is_same_variable, resolved, size}
use Rattle.infer_table.specs.Content.{Table, content, Ready}
use Rattle.infer_table.specs.Kept.{content-kept, ready-later}

-- the tree is the binding's variable
abbrev pub is_root : Binding → Trees → Bool
is_root b (tree (infer k v) none none) = is_same_variable b.sort b.var k v
is_root b t = false

-- the end of the chain of values of a variable. Any other term is itself
abbrev pub followed : List Binding → Trees → Trees
followed [] t = t
followed (b ∷ older) t = if is_root b (followed older t) then followed older b.value else followed older t

-- the term is a variable
abbrev pub is_open_leaf : Trees → Bool
is_open_leaf (tree (infer k v) c o) = true
is_open_leaf t = false

-- no variable that can have a value occurs in the term: none of its flags is in `VALUE_FLAGS`
abbrev pub has_no_unknown : Trees → Bool
has_no_unknown t = bit_and (flags t) 514 == 0

-- what the folder of resolution does at a node. It replaces a variable by the fold of its value, and a type without variables that can have
-- values by itself
abbrev pub resolves : List Binding → List ℕ → Trees → Does
resolves bs ds none = enters
resolves bs ds (tree (principal n i) c o) = enters
resolves bs ds (tree (auto_trait i) c o) = enters
resolves bs ds (tree (infer of_lifetime v) c o) = puts (tree (infer of_lifetime v) c none)
resolves bs ds (tree (infer k v) none o) = cond (is_open_leaf (followed bs (leaf (infer k v)))) (puts (resolved bs (leaf (infer k v)))) (again (followed bs (leaf (infer k v))))
resolves bs ds (tree (infer k v) c o) = puts (resolved bs (tree (infer k v) c none))
resolves bs ds (tree l c o) = cond (is_sort (sort_of l) of_type) (cond (has_no_unknown (tree l c none)) (puts (tree l c none)) enters) enters

pub resolves-bounds : (bs : List Binding) (ds : List ℕ) (t : Trees) → IsBound t → resolves bs ds t ≡ enters
resolves-bounds bs ds (tree (principal n i) c o) h = refl
resolves-bounds bs ds (tree (auto_trait i) c o) h = refl
resolves-bounds bs ds none h = refl
resolves-bounds bs ds (tree l c o) h = absurd h

-- it does not depend on binders
pub resolves-by-depth : (bs : List Binding) (ds es : List ℕ) (t : Trees) → resolves bs ds t ≡ resolves bs es t
resolves-by-depth bs ds es none = refl
resolves-by-depth bs ds es (tree (principal n i) c o) = refl
resolves-by-depth bs ds es (tree (auto_trait i) c o) = refl
resolves-by-depth bs ds es (tree (infer k v) c o) = by k c
  where
    by : (k : Sort) (c : Trees) → resolves bs ds (tree (infer k v) c o) ≡ resolves bs es (tree (infer k v) c o)
    by of_lifetime c = refl
    by of_type none = refl
    by of_type (tree l d p) = refl
    by of_const none = refl
    by of_const (tree l d p) = refl
resolves-by-depth bs ds es (tree l c o) = refl

-- the fuel of the folder
abbrev pub to_resolve : List Binding → Trees → ℕ
to_resolve bs none = 0
to_resolve bs (tree (infer k v) c o) = size (resolved bs (leaf (infer k v))) + size (resolved bs (leaf (infer k v))) + to_resolve bs c + to_resolve bs o
to_resolve bs (tree l c o) = suc (to_resolve bs c + to_resolve bs o)

pub below-left : (bs : List Binding) (x y : Trees) → to_resolve bs x ≤ to_resolve bs (x +++ y)
below-left bs none y = omega arith
below-left bs (tree (infer k v) c o) y = let q = below-left bs o y in omega (arith, q)
below-left bs (tree l c o) y = let q = below-left bs o y in omega (arith, q)

pub below-right : (bs : List Binding) (x y : Trees) → to_resolve bs y ≤ to_resolve bs (x +++ y)
below-right bs none y = omega arith
below-right bs (tree (infer k v) c o) y = let q = below-right bs o y in omega (arith, q)
below-right bs (tree l c o) y = let q = below-right bs o y in omega (arith, q)

pub below-node : (bs : List Binding) (l : Label) (c : Trees) → to_resolve bs c ≤ to_resolve bs (tree l c none)
below-node bs (infer k v) c = omega arith
below-node bs l c = omega arith

-- the invariant of the folder's table holds, and each value has less fuel than its variable
pub record IsResolver (es : List Entry) (t : Table) : Type 0 where
  pub ready : Ready es t
  pub falls : (ds : List ℕ) (x s : Trees) → resolves (content es t.values) ds x ≡ again s → to_resolve (content es t.values) s < to_resolve (content es t.values) x

-- this is preserved as the interner grows
pub resolver-later : (old new : List Entry) (t : Table) → Keeps old new → IsResolver old t → IsResolver new t
resolver-later old new t k h = record {
  ready = ready-later old new t k h.ready;
  falls = subst (λ (bs : List Binding). (ds : List ℕ) (x s : Trees) → resolves bs ds x ≡ again s → to_resolve bs s < to_resolve bs x) (sym (content-kept old new t.values k h.ready.held)) h.falls;
}
