-- Where a normalizer answers its input, the steps of a walk are the items of the reference with the values of its variables.
use Rattle.std.proofs.Common.{if◌then◌else◌, ◌≡◌, ℕ, zero, suc, refl, sym, ap, subst, ◌∙◌, Bool, true, false, List, [], ◌∷◌, ◌++◌, append_assoc, Option, Some, None, Ok}
use Rattle.type_terms.specs.Promised.Label.{Label, Sort, of_type, of_const, of_lifetime, dynamic, principal, auto_trait, infer, predicate, ref, adt}
use Rattle.type_terms.specs.Promised.Trees.{Trees, none, tree, ◌+++◌, is_sort, sort_of}
use Rattle.type_terms.specs.Trees.{Single}
use Rattle.type_terms.specs.Promised.Worlds.{World}
use Rattle.infer_table.specs.Solutions.{Binding, resolved, is_same_variable, value_in, Acyclic, HasValues, AllValued}
use Rattle.infer_table.proofs.ContentFacts.{AllSorted}
use Rattle.type_terms.specs.Promised.Walks.{trait_is, is_home}
use Rattle.infer_table.specs.Content.{IsUnbound}
use Rattle.infer_table.specs.Resolving.{followed, is_open_leaf}
use Rattle.infer_table.specs.Unification.{term_sort}
use Rattle.infer_table.specs.WellFormed.{is_numbered}
use Rattle.infer_table.proofs.SolutionLaws.{resolved-append, resolved-none, resolved-rigid, unbound-stays}
use Rattle.infer_table.proofs.ResolveFacts.{resolved-followed}
use Rattle.infer_table.proofs.Places.{in_terms, in_object, AreTrees, IsOneTree, AllTrees}
use Rattle.infer_table.proofs.WellFacts.{followed-one, followed-terms, followed-open}
use Rattle.type_terms.specs.Promised.OrphanErrors.{Look, local_type, open_type, leaf_type, passage, look, dyn_look}
use Rattle.type_terms.specs.Promised.OrphanErrors.{WalkItem, local_item, open_item, foreign_item, item_of, items}
use Rattle.orphan_check.specs.Steps.{Reading, Step, refused, too_deep, entered, met_local, met_open, met_foreign, settled, read, steps_in, step_of, steps_at, steps_to, steps}
use Rattle.type_terms.proofs.ListBasics.{append-empty}
use Rattle.type_terms.proofs.BooleanBasics.{if-false, if-true}
use Rattle.infer_table.proofs.Basics.{opens}

-- ---- the items that steps show
-- a type that lies too deep shows all that stands in it
abbrev pub shown : {E : Type 0} → Reading E → List (Step E) → List WalkItem
shown r [] = []
shown r (refused e ∷ ss) = shown r ss
shown r (too_deep t first ∷ ss) = items r.view r.home first (resolved r.values t) ++ shown r ss
shown r (entered ∷ ss) = shown r ss
shown r (met_local t ∷ ss) = local_item (resolved r.values t) ∷ shown r ss
shown r (met_open t ∷ ss) = open_item (resolved r.values t) ∷ shown r ss
shown r (met_foreign t first ∷ ss) = foreign_item (resolved r.values t) first ∷ shown r ss

shown-append : {E : Type 0} (r : Reading E) (xs ys : List (Step E)) → shown r (xs ++ ys) ≡ shown r xs ++ shown r ys
shown-append r [] ys = refl
shown-append r (refused e ∷ ss) ys = shown-append r ss ys
shown-append r (too_deep t first ∷ ss) ys =
    ap (λ z. items r.view r.home first (resolved r.values t) ++ z) (shown-append r ss ys) ∙ sym (append_assoc (items r.view r.home first (resolved r.values t)) (shown r ss) (shown r ys))
shown-append r (entered ∷ ss) ys = shown-append r ss ys
shown-append r (met_local t ∷ ss) ys = ap (λ z. local_item (resolved r.values t) ∷ z) (shown-append r ss ys)
shown-append r (met_open t ∷ ss) ys = ap (λ z. open_item (resolved r.values t) ∷ z) (shown-append r ss ys)
shown-append r (met_foreign t first ∷ ss) ys = ap (λ z. foreign_item (resolved r.values t) first ∷ z) (shown-append r ss ys)

either-same : {A : Type 0} (x : Bool) (a : A) → (if x then a else a) ≡ a
either-same true a = refl
either-same false a = refl

-- ---- items of lists
module _ (V : World) (d : Option ℕ) where
  -- one type, and what stands behind it
  items-type : (first : Bool) (t rest : Trees) → Single t → term_sort t ≡ of_type → items V d first (t +++ rest) ≡ items V d first t ++ items V d false rest
  items-type first none rest h e = absurd h
  items-type first (tree l c o) rest h e =
      let is : is_sort (sort_of l) of_type ≡ true = ap (λ z. is_sort z of_type) e in
      let here = item_of (look V d l c) (tree l c none) first (items V d first c) in
      if-true (is_sort (sort_of l) of_type) (here ++ items V d false (o +++ rest)) (items V d first (o +++ rest)) is
      ∙ ap (λ z. here ++ items V d false (z +++ rest)) h
      ∙ ap (λ z. z ++ items V d false rest) (sym (append-empty here))
      ∙ ap (λ z. (here ++ items V d false z) ++ items V d false rest) (sym h)
      ∙ ap (λ z. z ++ items V d false rest) (sym (if-true (is_sort (sort_of l) of_type) (here ++ items V d false o) (items V d first o) is))

  -- one term of another sort
  items-over : (first : Bool) (t rest : Trees) → Single t → is_sort (term_sort t) of_type ≡ false → items V d first (t +++ rest) ≡ items V d first rest
  items-over first none rest h e = absurd h
  items-over first (tree l c o) rest h e =
      if-false (is_sort (sort_of l) of_type) (item_of (look V d l c) (tree l c none) first (items V d first c) ++ items V d false (o +++ rest)) (items V d first (o +++ rest)) e
      ∙ ap (λ z. items V d first (z +++ rest)) h

-- ---- resolved terms
module _ (bs : List Binding) (valued : AllValued bs) (acyclic : Acyclic bs) (sorted : AllSorted bs) (terms : AllTrees is_numbered bs) where
  -- a term that is no variable with a value stays one term of its sort
  unbound-one : (u : Trees) → IsOneTree is_numbered u → IsUnbound bs u → Single (resolved bs u) × (term_sort (resolved bs u) ≡ term_sort u)
  unbound-one none h b = absurd h.0
  unbound-one (tree (infer k v) c o) h b =
      let e : resolved bs (tree (infer k v) c o) ≡ tree (infer k v) c o = ap (λ z. resolved bs (tree (infer k v) c z)) h.0 ∙ unbound-stays bs k v c b ∙ ap (λ z. tree (infer k v) c z) (sym h.0) in
      (subst Single (sym e) h.0, ap term_sort e)
  unbound-one (tree l c o) h b =
      let e = resolved-rigid bs l c o refl in
      (subst Single (sym e) (ap (resolved bs) h.0 ∙ resolved-none bs), ap term_sort e)

  pub read-one : (t : Trees) → IsOneTree is_numbered t → IsOneTree is_numbered (followed bs t)
  read-one t h = ((followed-one is_numbered opens bs t sorted h.0).0, followed-terms is_numbered opens bs t terms h.1)

  pub resolved-one : (t : Trees) → IsOneTree is_numbered t → Single (resolved bs t) × (term_sort (resolved bs t) ≡ term_sort t)
  resolved-one t h =
      let e = resolved-followed bs t acyclic in
      let p = unbound-one (followed bs t) (read-one t h) (followed-open is_numbered opens bs t acyclic sorted terms h) in
      (subst Single e p.0, sym (ap term_sort e) ∙ p.1 ∙ (followed-one is_numbered opens bs t sorted h.0).1)

  lifetime-stays : (cs : List Binding) → AllValued cs → (v : ℕ) → value_in cs of_lifetime v ≡ None
  lifetime-stays [] h v = refl
  lifetime-stays (b ∷ older) h v = by b.sort h.0 (lifetime-stays older h.1 v)
    where
      by : (k : Sort) → HasValues k → value_in older of_lifetime v ≡ None → (if is_same_variable k b.var of_lifetime v then Some b.value else value_in older of_lifetime v) ≡ None
      by of_type h e = e
      by of_const h e = e
      by of_lifetime h e = absurd h

  dyn-resolved : (V : World) (d : Option ℕ) (c : Trees) → AreTrees is_numbered in_object c → dyn_look V d (resolved bs c) ≡ dyn_look V d c
  dyn-resolved V d none h = absurd h
  dyn-resolved V d (tree (principal n t) c o) h = ap (dyn_look V d) (resolved-rigid bs (principal n t) c o refl)
  dyn-resolved V d (tree (infer of_lifetime v) none none) h = ap (dyn_look V d) (unbound-stays bs of_lifetime v none (lifetime-stays bs valued v))
  dyn-resolved V d (tree (infer of_type v) none none) h = let e = h.0 in cc
  dyn-resolved V d (tree (infer of_const v) none none) h = let e = h.0 in cc
  dyn-resolved V d (tree (infer k v) (tree m b p) o) h = absurd h
  dyn-resolved V d (tree (infer k v) none (tree m b p)) h = absurd h
  dyn-resolved V d (tree l c o) h = ap (dyn_look V d) (resolved-rigid bs l c o refl)

  look-resolved : (V : World) (d : Option ℕ) (l : Label) (c o : Trees) → AreTrees is_numbered in_terms (tree l c o) → look V d l (resolved bs c) ≡ look V d l c
  look-resolved V d dynamic c o h = dyn-resolved V d c h.0
  look-resolved V d l c o h = refl

  dyn-ends : (V : World) (d : Option ℕ) (c : Trees) → dyn_look V d c ≡ passage → ⊥
  dyn-ends V d none e = cc
  dyn-ends V d (tree (principal n t) c o) e = by (trait_is (λ x. is_home d x.home) V t) e
    where
      by : (x : Bool) → (if x then local_type else leaf_type) ≡ passage → ⊥
      by true e = cc
      by false e = cc
  dyn-ends V d (tree l c o) e = cc

  -- what is entered holds terms
  pub inner-terms : (V : World) (d : Option ℕ) (l : Label) (c o : Trees) → AreTrees is_numbered in_terms (tree l c o) → look V d l c ≡ passage → AreTrees is_numbered in_terms c
  inner-terms V d (ref b) c o h e = h.1
  inner-terms V d (adt s) c o h e = h.1
  inner-terms V d dynamic c o h e = absurd (dyn-ends V d c e)
  inner-terms V d l c o h e = cc

  pub head-and-rest : (l : Label) (c o : Trees) → AreTrees is_numbered in_terms (tree l c o) → AreTrees is_numbered in_terms (tree l c none) × AreTrees is_numbered in_terms o
  head-and-rest (infer k v) c o h = ((h.0, h.1, tt), h.2)
  head-and-rest (principal n t) c o h = absurd h
  head-and-rest (auto_trait i) c o h = absurd h
  head-and-rest (predicate k) c o h = absurd h
  head-and-rest dynamic c o h = ((h.0, tt), h.1)
  head-and-rest l c o h = ((h.0, h.1, tt, h.3), h.2)

-- ---- the steps
module _ {E : Type 0} (r : Reading E) (same : (t : Trees) → r.answers t ≡ Ok t) (valued : AllValued r.values) (acyclic : Acyclic r.values) (sorted : AllSorted r.values) (terms : AllTrees is_numbered r.values) where
  pub read-is : (t : Trees) → read r t ≡ Ok (followed r.values t)
  read-is t = ap (settled (followed r.values t)) (same (followed r.values t)) ∙ either-same (is_open_leaf (followed r.values t)) (Ok (followed r.values t))

  by-look : (k : Look) (u w : Trees) (first : Bool) (inner : List (Step E)) (is : List WalkItem) → resolved r.values u ≡ w → (k ≡ passage → shown r inner ≡ is) → shown r (step_of k u first inner) ≡ item_of k w first is
  by-look local_type u w first inner is e h = ap (λ z. local_item z ∷ []) e
  by-look open_type u w first inner is e h = ap (λ z. open_item z ∷ []) e
  by-look leaf_type u w first inner is e h = ap (λ z. foreign_item z first ∷ []) e
  by-look passage u w first inner is e h = h refl

  -- a term that was read
  at-read : (n : ℕ) (first : Bool) (u : Trees) → IsOneTree is_numbered u → term_sort u ≡ of_type → IsUnbound r.values u
      → ((c : Trees) → AreTrees is_numbered in_terms c → shown r (steps_in (λ f t. steps_to r n f t) first c) ≡ items r.view r.home first (resolved r.values c))
      → shown r (steps_at (λ f t. steps_to r n f t) r first (Ok u)) ≡ items r.view r.home first (resolved r.values u)
  at-read n first none h s b inner = absurd h.0
  at-read n first (tree (infer of_type v) c o) h s b inner =
      let e : resolved r.values (tree (infer of_type v) c o) ≡ tree (infer of_type v) c none = ap (λ z. resolved r.values (tree (infer of_type v) c z)) h.0 ∙ unbound-stays r.values of_type v c b in
      ap (λ z. open_item z ∷ []) e ∙ sym (ap (items r.view r.home first) e)
  at-read n first (tree (infer of_const v) c o) h s b inner = cc
  at-read n first (tree (infer of_lifetime v) c o) h s b inner = cc
  at-read n first (tree l c o) h s b inner =
      let bs = r.values in
      let V = r.view in
      let d = r.home in
      let e : resolved bs (tree l c o) ≡ tree l (resolved bs c) none = resolved-rigid bs l c o refl ∙ ap (λ z. tree l (resolved bs c) (resolved bs z)) h.0 ∙ ap (λ z. tree l (resolved bs c) z) (resolved-none bs) in
      let same-look = look-resolved bs valued acyclic sorted terms V d l c o h.1 in
      by-look (look V d l c) (tree l c o) (tree l (resolved bs c) none) first (steps_in (λ f t. steps_to r n f t) first c) (items V d first (resolved bs c)) e (λ k. inner c (inner-terms bs valued acyclic sorted terms V d l c o h.1 k))
      ∙ ap (λ k. item_of k (tree l (resolved bs c) none) first (items V d first (resolved bs c))) (sym same-look)
      ∙ sym (append-empty (item_of (look V d l (resolved bs c)) (tree l (resolved bs c) none) first (items V d first (resolved bs c))))
      ∙ sym (if-true (is_sort (sort_of l) of_type) (item_of (look V d l (resolved bs c)) (tree l (resolved bs c) none) first (items V d first (resolved bs c)) ++ []) [] (ap (λ z. is_sort z of_type) s))
      ∙ sym (ap (items V d first) e)

  -- of a list
  types-shown : (n : ℕ) → ((first : Bool) (t : Trees) → IsOneTree is_numbered t → term_sort t ≡ of_type → shown r (steps_to r n first t) ≡ items r.view r.home first (resolved r.values t))
      → (first : Bool) (c : Trees) → AreTrees is_numbered in_terms c → shown r (steps_in (λ f t. steps_to r n f t) first c) ≡ items r.view r.home first (resolved r.values c)
  types-shown n each first none h = sym (ap (items r.view r.home first) (resolved-none r.values))
  types-shown n each first (tree l c o) h = by (is_sort (sort_of l) of_type) refl (types-shown n each false o parts.1) (types-shown n each first o parts.1)
    where
      parts : AreTrees is_numbered in_terms (tree l c none) × AreTrees is_numbered in_terms o
      parts = head-and-rest r.values valued acyclic sorted terms l c o h

      one : Single (resolved r.values (tree l c none)) × (term_sort (resolved r.values (tree l c none)) ≡ sort_of l)
      one = resolved-one r.values valued acyclic sorted terms (tree l c none) (refl, parts.0)

      joined : items r.view r.home first (resolved r.values (tree l c none) +++ resolved r.values o) ≡ items r.view r.home first (resolved r.values (tree l c o))
      joined = ap (items r.view r.home first) (sym (resolved-append r.values (tree l c none) o))

      type-sort : (k : Sort) → is_sort k of_type ≡ true → k ≡ of_type
      type-sort of_type e = refl
      type-sort of_const e = cc
      type-sort of_lifetime e = cc

      by : (x : Bool) → is_sort (sort_of l) of_type ≡ x → shown r (steps_in (λ f t. steps_to r n f t) false o) ≡ items r.view r.home false (resolved r.values o)
          → shown r (steps_in (λ f t. steps_to r n f t) first o) ≡ items r.view r.home first (resolved r.values o)
          → shown r (if x then steps_to r n first (tree l c none) ++ steps_in (λ f t. steps_to r n f t) false o else steps_in (λ f t. steps_to r n f t) first o)
          ≡ items r.view r.home first (resolved r.values (tree l c o))
      by true e p q =
          shown-append r (steps_to r n first (tree l c none)) (steps_in (λ f t. steps_to r n f t) false o)
          ∙ ap (λ z. z ++ shown r (steps_in (λ f t. steps_to r n f t) false o)) (each first (tree l c none) (refl, parts.0) (type-sort (sort_of l) e))
          ∙ ap (λ z. items r.view r.home first (resolved r.values (tree l c none)) ++ z) p
          ∙ sym (items-type r.view r.home first (resolved r.values (tree l c none)) (resolved r.values o) one.0 (one.1 ∙ type-sort (sort_of l) e))
          ∙ joined
      by false e p q = q ∙ sym (items-over r.view r.home first (resolved r.values (tree l c none)) (resolved r.values o) one.0 (ap (λ z. is_sort z of_type) one.1 ∙ e)) ∙ joined

  type-shown : (n : ℕ) (first : Bool) (t : Trees) → IsOneTree is_numbered t → term_sort t ≡ of_type → shown r (steps_to r n first t) ≡ items r.view r.home first (resolved r.values t)
  type-shown zero first t h s = append-empty (items r.view r.home first (resolved r.values t))
  type-shown (suc n) first t h s =
      ap (λ z. shown r (steps_at (λ f u. steps_to r n f u) r first z)) (read-is t)
      ∙ at-read n first (followed r.values t) (read-one r.values valued acyclic sorted terms t h) ((followed-one is_numbered (λ v. refl) r.values t sorted h.0).1 ∙ s)
      (followed-open is_numbered (λ v. refl) r.values t acyclic sorted terms h) (types-shown n (λ f u. type-shown n f u) first)
      ∙ ap (items r.view r.home first) (resolved-followed r.values t acyclic)

  -- all steps show the items of the reference with the values of its variables
  pub steps-shown : (limit : ℕ) (args : Trees) → AreTrees is_numbered in_terms args → shown r (steps r limit args) ≡ items r.view r.home true (resolved r.values args)
  steps-shown limit args h = types-shown limit (λ f u. type-shown limit f u) true args h
