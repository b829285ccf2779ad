-- What trees that are made as declarations are keep, once their lifetimes are erased.
use Rattle.std.proofs.Common.{◌≡◌, ℕ, Bool, true, false, ◌&&◌, ◌||◌, refl, sym, ap, ◌∙◌, subst, List}
use Rattle.type_terms.specs.Promised.Label.{Label, Sort, of_type, of_const, of_lifetime, dynamic, principal, auto_trait, predicate, static, fn_ptr, param, placeholder, infer, canonical, bound, adt}
use Rattle.type_terms.specs.Promised.Trees.{Trees, none, tree, erase, erase_label, is_sort, some_node, sort_of}
use Rattle.type_terms.specs.Trees.{is_no_tree}
use Rattle.type_terms.specs.Promised.LinkedSet.{is_stray}
use Rattle.type_terms.specs.Promised.Versions.{well_written, label_allowed, label_shaped, begins_with_bound}
use Rattle.type_terms.specs.Made.{Standing, terms, bounds, traits, is_made}
use Rattle.type_terms.proofs.Made.{left, right, both, false-true, no-tree, made-ordinary, last-bound, last-trait, never-dynamic, never-dynamic-bound, never-principal}
use Rattle.candidate_model.specs.Declared.{is_declared_leaf}
use Rattle.text_lowering.proofs.Trees.{or}
use Rattle.sessions.proofs.TextTerms.{Scope, IsStructAt, IsTraitAt, TextNode, TextNodes}
use Rattle.type_terms.specs.Promised.Supers.{no_param, dyns_of_bounds}

-- ---- each label of a made tree is good
module _ (p : Label → Bool) (each : (l : Label) → is_declared_leaf l ≡ true → p l ≡ false) where
  node-shut : (l : Label) (c o : Trees) → is_declared_leaf l ≡ true → some_node p c ≡ false → some_node p o ≡ false → some_node p (tree l c o) ≡ false
  node-shut l c o g h k = or (p l || some_node p c) (some_node p o) (or (p l) (some_node p c) (each l g) h) k

  nothing-in : (c : Trees) → c ≡ none → some_node p c ≡ false
  nothing-in c e = ap (some_node p) e

  pub made-shut : (m : Standing) (t : Trees) → is_made is_declared_leaf m t ≡ true → some_node p t ≡ false
  made-shut m none h = refl
  made-shut terms (tree dynamic c o) h =
      node-shut dynamic c o refl (made-shut bounds c (left (is_made is_declared_leaf bounds c) (is_made is_declared_leaf terms o) h)) (made-shut terms o (right (is_made is_declared_leaf bounds c) (is_made is_declared_leaf terms o) h))
  made-shut terms (tree (principal n t) c o) h = absurd (false-true h)
  made-shut terms (tree (auto_trait n) c o) h = absurd (false-true h)
  made-shut terms (tree (predicate k) c o) h = absurd (false-true h)
  made-shut terms (tree l c o) h = let x = made-ordinary is_declared_leaf l c o refl h in node-shut l c o x.0 (made-shut terms c x.2) (made-shut terms o x.3)
  made-shut bounds (tree (principal n t) c o) h =
      node-shut (principal n t) c o refl (made-shut terms c (left (is_made is_declared_leaf terms c) (is_made is_declared_leaf traits o) h)) (made-shut traits o (right (is_made is_declared_leaf terms c) (is_made is_declared_leaf traits o) h))
  made-shut bounds (tree (auto_trait n) c o) h = node-shut (auto_trait n) c o refl (nothing-in c (no-tree c (left (is_no_tree c) (is_made is_declared_leaf traits o) h))) (made-shut traits o (right (is_no_tree c) (is_made is_declared_leaf traits o) h))
  made-shut bounds (tree (predicate k) c o) h = absurd (false-true h)
  made-shut bounds (tree dynamic c o) h = absurd (never-dynamic-bound is_declared_leaf c o h)
  made-shut bounds (tree l c o) h = let x = last-bound is_declared_leaf l c o refl h in node-shut l c o x.good_label (nothing-in c x.children) (nothing-in o x.rest)
  made-shut traits (tree (auto_trait n) c o) h = node-shut (auto_trait n) c o refl (nothing-in c (no-tree c (left (is_no_tree c) (is_made is_declared_leaf traits o) h))) (made-shut traits o (right (is_no_tree c) (is_made is_declared_leaf traits o) h))
  made-shut traits (tree (predicate k) c o) h = absurd (false-true h)
  made-shut traits (tree dynamic c o) h = absurd (never-dynamic is_declared_leaf c o h)
  made-shut traits (tree (principal n t) c o) h = absurd (never-principal is_declared_leaf n t c o h)
  made-shut traits (tree l c o) h = let x = last-trait is_declared_leaf l c o refl h in node-shut l c o x.good_label (nothing-in c x.children) (nothing-in o x.rest)

pub over-erase : (q : Label → Bool) (t : Trees) → some_node q (erase t) ≡ some_node (λ l. q (erase_label l)) t
over-erase q none = refl
over-erase q (tree l c o) = two (q (erase_label l)) (over-erase q c) (over-erase q o)
  where
    two : (a : Bool) {b c d e : Bool} → b ≡ c → d ≡ e → a || b || d ≡ a || c || e
    two a p r = cc

-- ---- no variable and nothing bound
label-plain : (l : Label) → is_declared_leaf l ≡ true → is_stray (erase_label l) ≡ false
label-plain (placeholder s i) h = absurd (false-true h)
label-plain (infer s i) h = absurd (false-true h)
label-plain (canonical s i) h = absurd (false-true h)
label-plain (bound s j i) h = absurd (false-true h)
label-plain (param of_lifetime i) h = refl
label-plain (param of_type i) h = refl
label-plain (param of_const i) h = refl
label-plain (fn_ptr n) h = refl
label-plain (principal n t) h = refl
label-plain l h = refl

pub made-plain : (t : Trees) → is_made is_declared_leaf terms t ≡ true → some_node is_stray (erase t) ≡ false
made-plain t h = over-erase is_stray t ∙ made-shut (λ l. is_stray (erase_label l)) label-plain terms t h

-- ---- bounds of a `dyn`
dyns-node : (l : Label) (c o : Trees) → (l ≡ dynamic → no_param c ≡ true) → dyns_of_bounds c ≡ true → dyns_of_bounds o ≡ true → dyns_of_bounds (tree (erase_label l) c o) ≡ true
dyns-node dynamic c o f g h = both (no_param c) _ (f refl) (both (dyns_of_bounds c) _ g h)
dyns-node (param of_lifetime i) c o f g h = both (dyns_of_bounds c) _ g h
dyns-node (param of_type i) c o f g h = both (dyns_of_bounds c) _ g h
dyns-node (param of_const i) c o f g h = both (dyns_of_bounds c) _ g h
dyns-node (placeholder of_lifetime i) c o f g h = both (dyns_of_bounds c) _ g h
dyns-node (placeholder of_type i) c o f g h = both (dyns_of_bounds c) _ g h
dyns-node (placeholder of_const i) c o f g h = both (dyns_of_bounds c) _ g h
dyns-node (infer of_lifetime i) c o f g h = both (dyns_of_bounds c) _ g h
dyns-node (infer of_type i) c o f g h = both (dyns_of_bounds c) _ g h
dyns-node (infer of_const i) c o f g h = both (dyns_of_bounds c) _ g h
dyns-node (canonical of_lifetime i) c o f g h = both (dyns_of_bounds c) _ g h
dyns-node (canonical of_type i) c o f g h = both (dyns_of_bounds c) _ g h
dyns-node (canonical of_const i) c o f g h = both (dyns_of_bounds c) _ g h
dyns-node (bound of_lifetime j i) c o f g h = both (dyns_of_bounds c) _ g h
dyns-node (bound of_type j i) c o f g h = both (dyns_of_bounds c) _ g h
dyns-node (bound of_const j i) c o f g h = both (dyns_of_bounds c) _ g h
dyns-node (fn_ptr n) c o f g h = both (dyns_of_bounds c) _ g h
dyns-node (principal n t) c o f g h = both (dyns_of_bounds c) _ g h
dyns-node l c o f g h = both (dyns_of_bounds c) _ g h

-- a lifetime is erased
lifetime-static : (l : Label) → is_sort (sort_of l) of_lifetime ≡ true → erase_label l ≡ static
lifetime-static static h = refl
lifetime-static (param of_lifetime i) h = refl
lifetime-static (placeholder of_lifetime i) h = refl
lifetime-static (infer of_lifetime i) h = refl
lifetime-static (canonical of_lifetime i) h = refl
lifetime-static (bound of_lifetime j i) h = refl
lifetime-static l h = absurd (false-true h)

record Bounded (t : Trees) : Type 0 where
  dyns : dyns_of_bounds (erase t) ≡ true
  bare : no_param (erase t) ≡ true

ending : (l : Label) (c o : Trees) → is_sort (sort_of l) of_lifetime ≡ true → c ≡ none → o ≡ none → Bounded (tree l c o)
ending l c o e p q = subst (λ x. Bounded (tree l x o)) (sym p) (subst (λ x. Bounded (tree l none x)) (sym q) (record { dyns = ap (λ m. dyns_of_bounds (tree m none none)) (lifetime-static l e); bare = ap (λ m. no_param (tree m none none)) (lifetime-static l e) }))

mutual
  pub made-dyns : (t : Trees) → is_made is_declared_leaf terms t ≡ true → dyns_of_bounds (erase t) ≡ true
  made-dyns none h = refl
  made-dyns (tree dynamic c o) h =
      let b = made-bounds bounds c (left (is_made is_declared_leaf bounds c) (is_made is_declared_leaf terms o) h) (λ e. absurd cc) in
      both (no_param (erase c)) _ b.bare (both (dyns_of_bounds (erase c)) _ b.dyns (made-dyns o (right (is_made is_declared_leaf bounds c) (is_made is_declared_leaf terms o) h)))
  made-dyns (tree (principal n t) c o) h = absurd (false-true h)
  made-dyns (tree (auto_trait n) c o) h = absurd (false-true h)
  made-dyns (tree (predicate k) c o) h = absurd (false-true h)
  made-dyns (tree l c o) h = let x = made-ordinary is_declared_leaf l c o refl h in dyns-node l (erase c) (erase o) (λ e. absurd cc) (made-dyns c x.2) (made-dyns o x.3)

  made-bounds : (m : Standing) (t : Trees) → is_made is_declared_leaf m t ≡ true → (m ≡ terms → ⊥) → Bounded t
  made-bounds terms t h n = absurd (n refl)
  made-bounds bounds none h n = absurd (false-true h)
  made-bounds traits none h n = absurd (false-true h)
  made-bounds bounds (tree (principal k t) c o) h n =
      let r = made-bounds traits o (right (is_made is_declared_leaf terms c) (is_made is_declared_leaf traits o) h) (λ e. absurd cc) in
      record { dyns = both (dyns_of_bounds (erase c)) _ (made-dyns c (left (is_made is_declared_leaf terms c) (is_made is_declared_leaf traits o) h)) r.dyns; bare = r.bare }
  made-bounds bounds (tree (auto_trait k) c o) h n =
      let r = made-bounds traits o (right (is_no_tree c) (is_made is_declared_leaf traits o) h) (λ e. absurd cc) in
      record { dyns = both (dyns_of_bounds (erase c)) _ (ap (λ x. dyns_of_bounds (erase x)) (no-tree c (left (is_no_tree c) (is_made is_declared_leaf traits o) h))) r.dyns; bare = r.bare }
  made-bounds bounds (tree (predicate k) c o) h n = absurd (false-true h)
  made-bounds bounds (tree dynamic c o) h n = absurd (never-dynamic-bound is_declared_leaf c o h)
  made-bounds bounds (tree l c o) h n = let x = last-bound is_declared_leaf l c o refl h in ending l c o x.lifetime x.children x.rest
  made-bounds traits (tree (auto_trait k) c o) h n =
      let r = made-bounds traits o (right (is_no_tree c) (is_made is_declared_leaf traits o) h) (λ e. absurd cc) in
      record { dyns = both (dyns_of_bounds (erase c)) _ (ap (λ x. dyns_of_bounds (erase x)) (no-tree c (left (is_no_tree c) (is_made is_declared_leaf traits o) h))) r.dyns; bare = r.bare }
  made-bounds traits (tree (predicate k) c o) h n = absurd (false-true h)
  made-bounds traits (tree dynamic c o) h n = absurd (never-dynamic is_declared_leaf c o h)
  made-bounds traits (tree (principal k t) c o) h n = absurd (never-principal is_declared_leaf k t c o h)
  made-bounds traits (tree l c o) h n = let x = last-trait is_declared_leaf l c o refl h in ending l c o x.lifetime x.children x.rest

-- ---- names are seen, and each `dyn` begins with a bound
bare-begins : (t : Trees) → no_param t ≡ true → begins_with_bound t ≡ true
bare-begins none h = refl
bare-begins (tree (param s i) c o) h = absurd (false-true h)
bare-begins (tree l c o) h = refl

module _ (e : Scope) (S P : ℕ → Bool) (structs : (s : ℕ) (ss : List Sort) → IsStructAt e s ss → S s ≡ true) (tr : (t : ℕ) (ss : List Sort) → IsTraitAt e t ss → P t ≡ true) where
  label-seen : (l : Label) (c : Trees) → TextNode e l c → label_allowed S P (erase_label l) ≡ true
  label-seen (adt s) c h = structs s _ h
  label-seen (principal n t) c h = tr t _ h
  label-seen (auto_trait t) c h = tr t _ h
  label-seen (predicate k) c h = absurd h
  label-seen (fn_ptr n) c h = refl
  label-seen (param of_lifetime i) c h = refl
  label-seen (param of_type i) c h = refl
  label-seen (param of_const i) c h = refl
  label-seen (placeholder of_lifetime i) c h = refl
  label-seen (placeholder of_type i) c h = refl
  label-seen (placeholder of_const i) c h = refl
  label-seen (infer of_lifetime i) c h = refl
  label-seen (infer of_type i) c h = refl
  label-seen (infer of_const i) c h = refl
  label-seen (canonical of_lifetime i) c h = refl
  label-seen (canonical of_type i) c h = refl
  label-seen (canonical of_const i) c h = refl
  label-seen (bound of_lifetime j i) c h = refl
  label-seen (bound of_type j i) c h = refl
  label-seen (bound of_const j i) c h = refl
  label-seen l c h = refl

  parts : (l : Label) (c o : Trees) → dyns_of_bounds (tree l c o) ≡ true → (label_shaped l c ≡ true) × (dyns_of_bounds c ≡ true) × (dyns_of_bounds o ≡ true)
  parts dynamic c o h =
      let r = right (no_param c) (dyns_of_bounds c && dyns_of_bounds o) h in
      (bare-begins c (left (no_param c) (dyns_of_bounds c && dyns_of_bounds o) h), left (dyns_of_bounds c) (dyns_of_bounds o) r, right (dyns_of_bounds c) (dyns_of_bounds o) r)
  parts l c o h = (refl, left (dyns_of_bounds c) (dyns_of_bounds o) h, right (dyns_of_bounds c) (dyns_of_bounds o) h)

  pub nodes-written : (t : Trees) → TextNodes e t → dyns_of_bounds (erase t) ≡ true → well_written S P (erase t) ≡ true
  nodes-written none h g = refl
  nodes-written (tree l c o) h g =
      let q = parts (erase_label l) (erase c) (erase o) g in
      both (label_allowed S P (erase_label l)) (label_shaped (erase_label l) (erase c) && (well_written S P (erase c) && well_written S P (erase o))) (label-seen l c h.0)
      (both (label_shaped (erase_label l) (erase c)) (well_written S P (erase c) && well_written S P (erase o)) q.0
      (both (well_written S P (erase c)) (well_written S P (erase o)) (nodes-written c h.1 q.1) (nodes-written o h.2 q.2)))
