-- A view makes well-formed trait references of well-formed ones, so premises of well-formed facts are well-formed.
use Rattle.std.proofs.Common.{◌≡◌, ℕ, zero, suc, ◌==◌, Bool, true, false, not, ◌&&◌, ◌||◌, List, [], ◌∷◌, ◌++◌, map, length, ◌⊎◌, inl, inr, refl, sym, ◌∙◌, ap, subst, if◌then◌else◌}
use Rattle.std.specs.List.{flat_map, list_all, list_any}
use Rattle.type_terms.specs.Promised.Label.{Label, Sort, of_type, of_const, of_lifetime, never, uint, param, placeholder, infer, canonical, bound, value, static, bool, char, int, str, array, slice, tuple, dynamic, adt, fn_ptr, ref, raw_pointer, principal, auto_trait}
use Rattle.type_terms.specs.Promised.Trees.{Trees, none, tree, leaf, ◌+++◌, nth, instantiate, is_sort, sort_of, some_node}
use Rattle.type_terms.specs.Trees.{is_a, is_no_tree, fits, first_of, standing_at, arguments_from, arguments}
use Rattle.type_terms.specs.Promised.Worlds.{World, Reference, StructDecl, TraitDecl, ImplDecl, structs_named, traits_named, with_args, all_with_args}
use Rattle.type_terms.specs.Promised.Rules.{Rule, BuiltIn, row, rules, sized, clone, copy, unsize, tuple_trait, fn_ptr_trait, is_fn_trait, is_auto, is_written, is_dyn, sized_struct, auto_struct, object_auto, object_principal, unsize_dyn, unsize_upcast, unsize_struct, same_reference, impl_rules, asked, each_asked, last_asked, fields_of, together, sized_rules, copy_rules, auto_rules_plain, auto_rules, tuple_rules, fn_ptr_rules, but_last, call_rules, plain_rules, principal_with, autos_with, are_declared, are_dyn_compatible, elaborated, equal_rows, object_bound_rules, object_rules, unsize_array_rules, unsize_to_dyn_rules, upcasts_principal, upcasts_autos, unsize_upcast_rules, some_unsizing, with_unsizing, last_unsizes, unsize_struct_rules, unsize_rules, built_in_rules, super_rules, clause_rules, written_supertraits, strict_supertraits_within, strict_supertraits, is_declared as is_declared_trait}
use Rattle.type_terms.specs.Codes.{same}
use Rattle.type_terms.specs.Promised.Proofs.{In}
use Rattle.type_terms.specs.Promised.Walks.{trait_is}
use Rattle.type_terms.proofs.Members.{here, there, in-cases, in-nothing, in-filter, same-number}
use Rattle.type_terms.proofs.Fitting.{head-shut, child-shut, next-shut, append-shut, first-shut, standing-shut, same-reference-sound}
use Rattle.type_terms.proofs.NoHolds.{member-each}
use Rattle.type_terms.specs.Made.{terms, bounds, traits, is_leaf_label, is_made}
use Rattle.type_terms.proofs.Made.{left, right, both, false-true, is_ordinary, made-ordinary, made-rest, made-alone}
use Rattle.goal_evaluator.specs.Lists.{Every}
use Rattle.declarations.specs.Applied.{sorts_of}
use Rattle.candidate_model.specs.Facts.{is_unerased}
use Rattle.candidate_model.specs.Declared.{is_declared_leaf, are_terms, are_references}
use Rattle.candidate_model.specs.DeclaredWell.{IsDeclaredWell}
use Rattle.candidate_model.proofs.PlainRules.{every-flat}
use Rattle.candidate_model.proofs.Rows.{fields-declared}
use Rattle.solver_completeness.specs.GoalSets.{begins_typed, any_label}
use Rattle.solver_completeness.specs.FormedFacts.{Sorts, EachNode, AreTypeSorts, NodesFit, AreFormed, IsTraitOf, IsFormed, IsFormedView, HasParams, IsParamOf, IsField}
use Rattle.solver_completeness.proofs.FormedInstances.{formed-append, instance-formed, made-where, sorts-put, sorts-append, fits-by, sort-where, Stands, stands-cases, param-is, begins-by}
use Rattle.goal_evaluator.proofs.Basics.{every-append}
use Rattle.solver_completeness.proofs.Basics.{are-types-append as types-append}

module _ (V : World) (sorts : Sorts) where
  abbrev Formed : Trees → Type 0
  Formed t = AreFormed V sorts t

  abbrev Good : Reference → Type 0
  Good r = IsFormed V sorts r

  abbrev HaveGood : List Rule → Type 0
  HaveGood us = Every (λ (u : Rule). Every Good u.premises) us

  -- ---- parts
  nothing : Formed none
  nothing = record { made = refl; plain = refl; nodes = tt }

  alone : (l : Label) (c o : Trees) → Formed (tree l c o) → Formed (tree l c none)
  alone l c o h = record { made = made-alone any_label l c o h.made; plain = head-shut is_unerased l c o h.plain; nodes = (h.nodes.0, h.nodes.1, tt) }

  rest : (l : Label) (c o : Trees) → Formed (tree l c o) → Formed o
  rest l c o h = record { made = made-rest any_label l c o h.made; plain = next-shut is_unerased l c o h.plain; nodes = h.nodes.2 }

  within : (l : Label) (c o : Trees) → is_made any_label terms c ≡ true → Formed (tree l c o) → Formed c
  within l c o m h = record { made = m; plain = child-shut is_unerased l c o h.plain; nodes = h.nodes.1 }

  -- ---- each of a list of types
  one-type : (t : ℕ) (l : Label) → IsTraitOf V sorts t (of_type ∷ []) → sort_of l ≡ of_type → IsTraitOf V sorts t (sort_of l ∷ [])
  one-type t l p e = (p.0, ap (λ s. s ∷ []) e ∙ p.1)

  each-good : (t : ℕ) → IsTraitOf V sorts t (of_type ∷ []) → (items : Trees) → Formed items → AreTypeSorts (sorts_of items) → Every Good (each_asked t items)
  each-good t p none h g = tt
  each-good t p (tree l c o) h g = (record { args = alone l c o h; trait = one-type t l p g.0 }, each-good t p o (rest l c o h) g.1)

  last-good : (t : ℕ) → IsTraitOf V sorts t (of_type ∷ []) → (items : Trees) → Formed items → AreTypeSorts (sorts_of items) → Every Good (last_asked t items)
  last-good t p none h g = tt
  last-good t p (tree l c none) h g = (record { args = h; trait = one-type t l p g.0 }, tt)
  last-good t p (tree l c (tree m d o)) h g = last-good t p (tree m d o) (rest l c (tree m d o) h) g.1

  begins-sort : (l : Label) (c o : Trees) → begins_typed (tree l c o) ≡ true → sort_of l ≡ of_type
  begins-sort l c o h = by (sort_of l) h
    where
      by : (s : Sort) → is_sort s of_type ≡ true → s ≡ of_type
      by of_type e = refl
      by of_const e = absurd (false-true e)
      by of_lifetime e = absurd (false-true e)

  first-good : (t : ℕ) → IsTraitOf V sorts t (of_type ∷ []) → (l : Label) (c o : Trees) → Formed (tree l c o) → begins_typed (tree l c o) ≡ true → Good (asked t (tree l c none))
  first-good t p l c o h g = record { args = alone l c o h; trait = one-type t l p (begins-sort l c o g) }

  -- ---- lists of rules
  if-good : (b : Bool) (us : List Rule) → (b ≡ true → HaveGood us) → HaveGood (if b then us else [])
  if-good true us h = h refl
  if-good false us h = tt

  both-good : (us ts : List Rule) → HaveGood us → HaveGood ts → HaveGood (us ++ ts)
  both-good us ts h g = every-append (λ (u : Rule). Every Good u.premises) us ts h g

  -- ---- what is declared
  module _ (well : IsDeclaredWell V) (view : IsFormedView V sorts) where
    -- arguments of a declaration's sorts fit what speaks of its parameters
    param-where : (ss : List Sort) (t : Trees) → EachNode (HasParams ss) t → (s : Sort) (j : ℕ) → Stands s j t → IsParamOf ss j s
    param-where ss none h s j g = absurd (false-true g)
    param-where ss (tree (param k i) c o) h s j g =
        stands-cases s j (param k i) c o g
        (λ e. let x = param-is s j k i e in subst (λ z. IsParamOf ss z s) (sym x.1) (subst (IsParamOf ss i) (sym x.0) h.0))
        (λ e. param-where ss c h.1 s j e) (λ e. param-where ss o h.2 s j e)
    param-where ss (tree l c o) h s j g = stands-cases s j l c o g (λ e. absurd (false-true e)) (λ e. param-where ss c h.1 s j e) (λ e. param-where ss o h.2 s j e)

    -- a lifetime that is made is a leaf
    node-is : (s : Sort) (l : Label) (c : Trees) → is_made any_label terms (tree l c none) ≡ true → sort_of l ≡ s → is_a s (tree l c none) ≡ true
    node-is of_type l c m e = both (is_sort (sort_of l) of_type) true (ap (λ z. is_sort z of_type) e) refl
    node-is of_const l c m e = both (is_sort (sort_of l) of_const) true (ap (λ z. is_sort z of_const) e) refl
    node-is of_lifetime l c m e = let x = lifetime-label l e in both (is_sort (sort_of l) of_lifetime) _ (ap (λ z. is_sort z of_lifetime) e) (both (is_no_tree c) true (or-second (is_leaf_label l) (is_no_tree c) x.1 (made-ordinary any_label l c none x.0 m).1) refl)
      where
        lifetime-label : (l : Label) → sort_of l ≡ of_lifetime → (is_ordinary l ≡ true) × (is_leaf_label l ≡ true)
        lifetime-label static e = (refl, refl)
        lifetime-label (param k i) e = (refl, refl)
        lifetime-label (placeholder k i) e = (refl, refl)
        lifetime-label (infer k i) e = (refl, refl)
        lifetime-label (canonical k i) e = (refl, refl)
        lifetime-label (bound k i j) e = (refl, refl)
        lifetime-label (value k) e = absurd (cc)
        lifetime-label l e = absurd (cc)

        or-second : (a b : Bool) → a ≡ true → (not a || b) ≡ true → b ≡ true
        or-second true b e h = h
        or-second false b e h = absurd (false-true e)

    nth-sort : (A : Trees) → is_made any_label terms A ≡ true → (ss : List Sort) → sorts_of A ≡ ss → (s : Sort) (i : ℕ) → IsParamOf ss i s → is_a s (nth A i) ≡ true
    nth-sort none m [] e s i h = absurd h
    nth-sort none m (r ∷ ss) e s i h = absurd (no-sorts e)
      where
        no-sorts : [] ≡ r ∷ ss → ⊥
        no-sorts e = cc
    nth-sort (tree l c o) m [] e s i h = absurd h
    nth-sort (tree l c o) m (r ∷ ss) e s zero h = node-is s l c (made-alone any_label l c o m) (first-sort e ∙ h)
      where
        first-sort : sort_of l ∷ sorts_of o ≡ r ∷ ss → sort_of l ≡ r
        first-sort e = cc
    nth-sort (tree l c o) m (r ∷ ss) e s (suc i) h = nth-sort o (made-rest any_label l c o m) ss (next-sorts e) s i h
      where
        next-sorts : sort_of l ∷ sorts_of o ≡ r ∷ ss → sorts_of o ≡ ss
        next-sorts e = cc

    nth-made : (A : Trees) (i : ℕ) → is_made any_label terms A ≡ true → is_made any_label terms (nth A i) ≡ true
    nth-made none i m = refl
    nth-made (tree l c o) zero m = made-alone any_label l c o m
    nth-made (tree l c o) (suc i) m = nth-made o i (made-rest any_label l c o m)

    module _ (A : Trees) (formed : Formed A) where
      -- an instance of what speaks of parameters of these sorts
      fits-params : (ss : List Sort) → sorts_of A ≡ ss → (t : Trees) → are_terms t ≡ true → EachNode (HasParams ss) t → fits A t ≡ true
      fits-params ss e t h p = fits-by A terms t (left (is_made is_declared_leaf terms t) _ h) (λ s j g. nth-sort A formed.made ss e s j (param-where ss t p s j g))

      instance-of : (ss : List Sort) → sorts_of A ≡ ss → (t : Trees) → are_terms t ≡ true → NodesFit V sorts t → EachNode (HasParams ss) t → Formed (instantiate zero A t)
      instance-of ss e t h n p = instance-formed V sorts A formed.plain formed.nodes t h n (fits-params ss e t h p) (λ s j g. nth-made A j formed.made)

      sorts-of-instance : (ss : List Sort) → sorts_of A ≡ ss → (t : Trees) → are_terms t ≡ true → EachNode (HasParams ss) t → sorts_of (instantiate zero A t) ≡ sorts_of t
      sorts-of-instance ss e t h p = sorts-put V sorts A formed.plain formed.nodes zero t (fits-params ss e t h p)

      -- the fields of a struct
      fields-formed : (ss : List Sort) → sorts_of A ≡ ss → (fs : List Trees) → ((t : Trees) → In t fs → IsField V sorts ss t) → list_all are_terms fs ≡ true
          → Formed (together (map (instantiate zero A) fs)) × AreTypeSorts (sorts_of (together (map (instantiate zero A) fs)))
      fields-formed ss e [] f h = (nothing, tt)
      fields-formed ss e (t ∷ fs) f h =
          let g = f t (here t fs) in
          let i = left (are_terms t) (list_all are_terms fs) h in
          let x = fields-formed ss e fs (λ u k. f u (there u t fs k)) (right (are_terms t) (list_all are_terms fs) h) in (
            formed-append V sorts (instantiate zero A t) (together (map (instantiate zero A) fs)) (instance-of ss e t i g.nodes g.params) x.0,
            subst AreTypeSorts (sym (sorts-append (instantiate zero A t) (together (map (instantiate zero A) fs))))
                (types-append (sorts_of (instantiate zero A t)) (sorts_of (together (map (instantiate zero A) fs))) (subst AreTypeSorts (sym (sorts-of-instance ss e t i g.params ∙ g.sort)) (refl, tt)) x.1),
          )

    struct-fields : (s : ℕ) (x : StructDecl) → In x (structs_named V s) → (A : Trees) → Formed A → sorts_of A ≡ sorts.of_struct s → Formed (fields_of x A) × AreTypeSorts (sorts_of (fields_of x A))
    struct-fields s x i A h e =
        let m = in-filter (λ (y : StructDecl). y.name == s) V.structs x i in
        fields-formed A h (sorts.of_struct x.name) (e ∙ ap sorts.of_struct (sym (same-number x.name s m.1))) x.fields (λ t j. view.fields x t m.0 j) (fields-declared V well.terms [] x m.0)

    -- ---- supertraits
    traits-declared : list_all (λ (x : TraitDecl). are_references x.bounds) V.traits ≡ true
    traits-declared = left (list_all (λ (x : TraitDecl). are_references x.bounds) V.traits) _ (right (list_all (λ (x : StructDecl). list_all are_terms x.fields) V.structs) _ well.terms)

    impls-declared : list_all (λ (i : ImplDecl). are_terms i.header.args && are_references i.clauses) V.impls ≡ true
    impls-declared = right (list_all (λ (x : TraitDecl). are_references x.bounds) V.traits) _ (right (list_all (λ (x : StructDecl). list_all are_terms x.fields) V.structs) _ well.terms)

    bounds-good : (r : Reference) → Good r → (x : TraitDecl) → In x V.traits → x.name ≡ r.trait → (bs : List Reference) → ((b : Reference) → In b bs → In b x.bounds) → Every Good (all_with_args r.args bs)
    bounds-good r h x i e [] f = tt
    bounds-good r h x i e (b ∷ bs) f =
        let j = f b (here b bs) in
        let g = view.bounds x b i j in
        let d = member-each (λ (y : Reference). are_terms y.args) x.bounds b (member-each (λ (y : TraitDecl). are_references y.bounds) V.traits x traits-declared i) j in
        let q : sorts_of r.args ≡ sorts.of_trait x.name = h.trait.1 ∙ ap sorts.of_trait (sym e) in (
          record {
            args = instance-of r.args h.args (sorts.of_trait x.name) q b.args d g.nodes g.params;
            trait = (g.trait.0, sorts-of-instance r.args h.args (sorts.of_trait x.name) q b.args d g.params ∙ g.trait.1);
          },
          bounds-good r h x i e bs (λ c k. f c (there c b bs k)),
        )

    written-good : (r : Reference) → Good r → Every Good (written_supertraits V r)
    written-good r h =
        every-flat Good (λ (x : TraitDecl). all_with_args r.args x.bounds) (traits_named V r.trait)
        (λ x i. let m = in-filter (λ (y : TraitDecl). y.name == r.trait) V.traits x i in bounds-good r h x m.0 (same-number x.name r.trait m.1) x.bounds (λ b k. k))

    every-in : (xs : List Reference) → Every Good xs → (x : Reference) → In x xs → Good x
    every-in [] h x i = absurd (in-nothing x i)
    every-in (y ∷ xs) h x i = by (in-cases x y xs i) (λ j. every-in xs h.1 x j)
      where
        by : (y ≡ x) ⊎ In x xs → (In x xs → Good x) → Good x
        by (inl e) f = subst Good e h.0
        by (inr j) f = f j

    supers-within : (n : ℕ) (r : Reference) → Good r → Every Good (strict_supertraits_within n V r)
    supers-within zero r h = tt
    supers-within (suc n) r h =
        every-flat Good (λ (s : Reference). s ∷ strict_supertraits_within n V s) (written_supertraits V r)
        (λ s i. let g = every-in (written_supertraits V r) (written-good r h) s i in (g, supers-within n s g))

    pub supers-good : (r : Reference) → Good r → Every Good (strict_supertraits V r)
    supers-good r h = supers-within (length V.traits) r h

    -- ---- impls
    standing-nodes : (i : ℕ) (p t : Trees) → NodesFit V sorts t → NodesFit V sorts (standing_at i p t)
    standing-nodes i none t h = tt
    standing-nodes i (tree l c o) none h = tt
    standing-nodes i (tree (param s j) pc po) (tree m c o) h = by (i == j) (standing-nodes i po o h.2)
      where
        by : (b : Bool) → NodesFit V sorts (standing_at i po o) → NodesFit V sorts (if b then tree m c none else standing_at i po o)
        by true f = (h.0, h.1, tt)
        by false f = f
    standing-nodes i (tree l pc po) (tree m c o) h = first-nodes (standing_at i pc c) (standing_at i po o) (standing-nodes i pc c h.1) (standing-nodes i po o h.2)
      where
        first-nodes : (x y : Trees) → NodesFit V sorts x → NodesFit V sorts y → NodesFit V sorts (first_of x y)
        first-nodes none y f g = g
        first-nodes (tree l c o) y f g = f

    arguments-nodes : (k n : ℕ) (p t : Trees) → NodesFit V sorts t → NodesFit V sorts (arguments_from k n p t)
    arguments-nodes k zero p t h = tt
    arguments-nodes k (suc n) p t h = append-nodes (first_of (standing_at k p t) (leaf never)) (arguments_from (suc k) n p t) (first (standing_at k p t) (standing-nodes k p t h)) (arguments-nodes (suc k) n p t h)
      where
        first : (x : Trees) → NodesFit V sorts x → NodesFit V sorts (first_of x (leaf never))
        first none f = (tt, tt, tt)
        first (tree l c o) f = f

        append-nodes : (x y : Trees) → NodesFit V sorts x → NodesFit V sorts y → NodesFit V sorts (x +++ y)
        append-nodes none y f g = g
        append-nodes (tree l c o) y f g = (f.0, f.1, append-nodes o y f.2 g)

    arguments-plain : (k n : ℕ) (p t : Trees) → some_node is_unerased t ≡ false → some_node is_unerased (arguments_from k n p t) ≡ false
    arguments-plain k zero p t h = refl
    arguments-plain k (suc n) p t h =
        append-shut is_unerased (first_of (standing_at k p t) (leaf never)) (arguments_from (suc k) n p t)
        (first-shut is_unerased (standing_at k p t) (leaf never) (standing-shut is_unerased k p t h) refl) (arguments-plain (suc k) n p t h)

    module _ (r : Reference) (h : Good r) (i : ImplDecl) (stands : In i V.impls) where
      abbrev A : Trees
      A = arguments i.params i.header.args r.args

      header-declared : are_terms i.header.args ≡ true
      header-declared = left (are_terms i.header.args) _ (member-each (λ (x : ImplDecl). are_terms x.header.args && are_references x.clauses) V.impls i impls-declared stands)

      clauses-declared : are_references i.clauses ≡ true
      clauses-declared = right (are_terms i.header.args) _ (member-each (λ (x : ImplDecl). are_terms x.header.args && are_references x.clauses) V.impls i impls-declared stands)

      A-plain : some_node is_unerased A ≡ false
      A-plain = arguments-plain 0 i.params i.header.args r.args h.args.plain

      A-nodes : NodesFit V sorts A
      A-nodes = arguments-nodes 0 i.params i.header.args r.args h.args.nodes

      module _ (fitting : fits A i.header.args ≡ true) (instance : with_args A i.header ≡ r) where
        header-made : is_made any_label terms (instantiate zero A i.header.args) ≡ true
        header-made = subst (λ (z : Reference). is_made any_label terms z.args ≡ true) (sym instance) h.args.made

        clause-good : (c : Reference) → In c i.clauses → Good (with_args A c)
        clause-good c k =
            let d = member-each (λ (y : Reference). are_terms y.args) i.clauses c clauses-declared k in
            let f =
            fits-by A terms c.args (left (is_made is_declared_leaf terms c.args) _ d)
            (λ s j g. sort-where A i.header.args fitting s j (well.determined i c stands k s j g)) in
            let p = view.clause_traits i c stands k in
            record {
              args =
                  instance-formed V sorts A A-plain A-nodes c.args d (view.clause_nodes i c stands k) f
                  (λ s j g. made-where V sorts A A-plain A-nodes zero terms i.header.args (left (is_made is_declared_leaf terms i.header.args) _ header-declared) fitting header-made s j (well.determined i c stands k s j g));
              trait = (p.0, sorts-put V sorts A A-plain A-nodes zero c.args f ∙ p.1);
            }

        clauses-good : (cs : List Reference) → ((c : Reference) → In c cs → In c i.clauses) → Every Good (all_with_args A cs)
        clauses-good [] f = tt
        clauses-good (c ∷ cs) f = (clause-good c (f c (here c cs)), clauses-good cs (λ x k. f x (there x c cs k)))

      impl-good : HaveGood (impl_rules r i)
      impl-good =
          if-good (fits A i.header.args && same_reference (with_args A i.header) r) _
          (λ e. (clauses-good (left (fits A i.header.args) _ e) (same-reference-sound (with_args A i.header) r (right (fits A i.header.args) _ e)) i.clauses (λ c k. k), tt))

    -- ---- bounds of `dyn` types
    bounds-of-good : (l : Label) (c b : Trees) → Formed (tree l c none) → sort_of l ≡ of_type → is_made any_label bounds b ≡ true → some_node is_unerased b ≡ false → NodesFit V sorts b → Every Good (principal_with (tree l c none) b)
    bounds-of-good l c none f e m p n = tt
    bounds-of-good l c (tree (principal k t) args o) f e m p n = (
      record {
        args =
            formed-append V sorts (tree l c none) args f
            (record { made = left (is_made any_label terms args) (is_made any_label traits o) m; plain = child-shut is_unerased (principal k t) args o p; nodes = n.1 });
        trait = (n.0.0, ap (λ s. s ∷ sorts_of args) e ∙ n.0.1);
      },
      tt,
    )
    bounds-of-good l c (tree k args o) f e m p n = tt

    autos-good : (l : Label) (c b : Trees) → Formed (tree l c none) → sort_of l ≡ of_type → NodesFit V sorts b → Every Good (autos_with (tree l c none) b)
    autos-good l c none f e n = tt
    autos-good l c (tree (auto_trait t) d o) f e n = (record { args = f; trait = one-type t l n.0 e }, autos-good l c o f e n.2)
    autos-good l c (tree k d o) f e n = autos-good l c o f e n.2

    -- ---- rows
    sized-good : (t : Trees) → Formed t → HaveGood (sized_rules V t)
    sized-good none h = tt
    sized-good (tree bool c o) h = (tt, tt)
    sized-good (tree char c o) h = (tt, tt)
    sized-good (tree never c o) h = (tt, tt)
    sized-good (tree (int i) c o) h = (tt, tt)
    sized-good (tree (uint i) c o) h = (tt, tt)
    sized-good (tree (fn_ptr n) c o) h = (tt, tt)
    sized-good (tree (raw_pointer b) c o) h = (tt, tt)
    sized-good (tree (ref b) c o) h = (tt, tt)
    sized-good (tree array c o) h = (tt, tt)
    sized-good (tree tuple c o) h = (last-good sized view.sizes c (within tuple c o (made-ordinary any_label tuple c o refl h.made).2 h) h.nodes.0, tt)
    sized-good (tree (adt s) c o) h =
        every-flat (λ (u : Rule). Every Good u.premises) (λ x. row sized_struct (last_asked sized (fields_of x c))) (structs_named V s)
        (λ x i. let g = struct-fields s x i c (within (adt s) c o (made-ordinary any_label (adt s) c o refl h.made).2 h) h.nodes.0.1 in (last-good sized view.sizes (fields_of x c) g.0 g.1, tt))
    sized-good (tree l c o) h = tt

    copy-good : (t : ℕ) → IsTraitOf V sorts t (of_type ∷ []) → (a : Trees) → Formed a → HaveGood (copy_rules t a)
    copy-good t p none h = tt
    copy-good t p (tree (fn_ptr n) c o) h = (tt, tt)
    copy-good t p (tree tuple c o) h = (each-good t p c (within tuple c o (made-ordinary any_label tuple c o refl h.made).2 h) h.nodes.0, tt)
    copy-good t p (tree l c o) h = tt

    element-good : (t : ℕ) → IsTraitOf V sorts t (of_type ∷ []) → (k l : Label) (c p o : Trees) → is_ordinary k ≡ true → begins_typed (tree l c p) ≡ true → Formed (tree k (tree l c p) o) → Good (asked t (tree l c none))
    element-good t q k l c p o i b h = first-good t q l c p (within k (tree l c p) o (made-ordinary any_label k (tree l c p) o i h.made).2 h) b

    auto-plain-good : (t : ℕ) → IsTraitOf V sorts t (of_type ∷ []) → (a : Trees) → Formed a → HaveGood (auto_rules_plain V t a)
    auto-plain-good t p none h = tt
    auto-plain-good t p (tree bool c o) h = (tt, tt)
    auto-plain-good t p (tree char c o) h = (tt, tt)
    auto-plain-good t p (tree never c o) h = (tt, tt)
    auto-plain-good t p (tree (int i) c o) h = (tt, tt)
    auto-plain-good t p (tree (uint i) c o) h = (tt, tt)
    auto-plain-good t p (tree (fn_ptr n) c o) h = (tt, tt)
    auto-plain-good t p (tree str c o) h = ((record { args = record { made = refl; plain = refl; nodes = (refl, (tt, tt, tt), tt) }; trait = one-type t slice p refl }, tt), tt)
    auto-plain-good t p (tree (raw_pointer b) none o) h = tt
    auto-plain-good t p (tree (raw_pointer b) (tree l c q) o) h = ((element-good t p (raw_pointer b) l c q o refl h.nodes.0 h, tt), tt)
    auto-plain-good t p (tree array none o) h = tt
    auto-plain-good t p (tree array (tree l c q) o) h = ((element-good t p array l c q o refl h.nodes.0 h, tt), tt)
    auto-plain-good t p (tree slice none o) h = tt
    auto-plain-good t p (tree slice (tree l c q) o) h = ((element-good t p slice l c q o refl h.nodes.0 h, tt), tt)
    auto-plain-good t p (tree (ref b) none o) h = tt
    auto-plain-good t p (tree (ref b) (tree k d none) o) h = tt
    auto-plain-good t p (tree (ref b) (tree k d (tree l c q)) o) h =
        let g = within (ref b) (tree k d (tree l c q)) o (made-ordinary any_label (ref b) (tree k d (tree l c q)) o refl h.made).2 h in
        ((first-good t p l c q (rest k d (tree l c q) g) h.nodes.0, tt), tt)
    auto-plain-good t p (tree tuple c o) h = (each-good t p c (within tuple c o (made-ordinary any_label tuple c o refl h.made).2 h) h.nodes.0, tt)
    auto-plain-good t p (tree (adt s) c o) h =
        every-flat (λ (u : Rule). Every Good u.premises) (λ x. row auto_struct (each_asked t (fields_of x c))) (structs_named V s)
        (λ x i. let g = struct-fields s x i c (within (adt s) c o (made-ordinary any_label (adt s) c o refl h.made).2 h) h.nodes.0.1 in (each-good t p (fields_of x c) g.0 g.1, tt))
    auto-plain-good t p (tree l c o) h = tt

    auto-good : (t : ℕ) → IsTraitOf V sorts t (of_type ∷ []) → (a : Trees) → Formed a → HaveGood (auto_rules V t a)
    auto-good t p none h = tt
    auto-good t p (tree l c o) h = by (is_written V t l)
      where
        by : (b : Bool) → HaveGood (if b then [] else auto_rules_plain V t (tree l c o))
        by true = tt
        by false = auto-plain-good t p (tree l c o) h

    tuple-good : (a : Trees) → HaveGood (tuple_rules a)
    tuple-good none = tt
    tuple-good (tree tuple c o) = (tt, tt)
    tuple-good (tree l c o) = tt

    fn-ptr-good : (a : Trees) → HaveGood (fn_ptr_rules a)
    fn-ptr-good none = tt
    fn-ptr-good (tree (fn_ptr n) c o) = (tt, tt)
    fn-ptr-good (tree l c o) = tt

    call-good : (a : Trees) → Formed a → HaveGood (call_rules a)
    call-good none h = tt
    call-good (tree (fn_ptr n) types none) h = tt
    call-good (tree (fn_ptr n) types (tree tuple inputs o)) h =
        if-good (same (but_last types) inputs) _
        (λ e. (last-good sized view.sizes types (within (fn_ptr n) types (tree tuple inputs o) (made-ordinary any_label (fn_ptr n) types (tree tuple inputs o) refl h.made).2 h) h.nodes.0, tt))
    call-good (tree (fn_ptr n) types (tree k d o)) h = tt
    call-good (tree l c o) h = tt

    -- ---- `Unsize`
    array-good : (a : Trees) → HaveGood (unsize_array_rules a)
    array-good none = tt
    array-good (tree array none o) = tt
    array-good (tree array (tree l c n) none) = tt
    array-good (tree array (tree l c n) (tree slice none o)) = tt
    array-good (tree array (tree l c n) (tree slice (tree m d p) o)) = if-good (same (tree l c none) (tree m d none)) _ (λ e. (tt, tt))
    array-good (tree array (tree l c n) (tree k d o)) = tt
    array-good (tree l c o) = tt

    to-dyn-good : (a : Trees) → Formed a → begins_typed a ≡ true → HaveGood (unsize_to_dyn_rules V a)
    to-dyn-good none h b = tt
    to-dyn-good (tree l c none) h b = tt
    to-dyn-good (tree l c (tree dynamic bs o)) h b =
        let self = alone l c (tree dynamic bs o) h in
        let e = begins-sort l c (tree dynamic bs o) b in
        let d = rest l c (tree dynamic bs o) h in
        if-good (not (is_dyn l) && are_dyn_compatible V (principal_with (tree l c none) bs)) _
        (λ g. (
          every-append Good (principal_with (tree l c none) bs) _
              (bounds-of-good l c bs self e (left (is_made any_label bounds bs) (is_made any_label terms o) d.made) (child-shut is_unerased dynamic bs o d.plain) d.nodes.1)
              (every-append Good (autos_with (tree l c none) bs) _ (autos-good l c bs self e d.nodes.1)
              (record { args = self; trait = one-type sized l view.sizes e }, tt)),
          tt,
        ))
    to-dyn-good (tree l c (tree k bs o)) h b = tt

    equal-good : (b : ℕ → BuiltIn) (ps : List Reference) → Every Good ps → (r : Reference) (k : ℕ) (ss : List Reference) → HaveGood (equal_rows b ps r k ss)
    equal-good b ps h r k [] = tt
    equal-good b ps h r k (s ∷ ss) = both-good (if same_reference r s then row (b k) ps else []) (equal_rows b ps r (suc k) ss) (if-good (same_reference r s) (row (b k) ps) (λ e. (h, tt))) (equal-good b ps h r (suc k) ss)

    upcasts-principal-good : (ps qs : List Reference) → HaveGood (upcasts_principal V ps qs)
    upcasts-principal-good ps [] = (tt, tt)
    upcasts-principal-good [] (q ∷ qs) = tt
    upcasts-principal-good (p ∷ ps) (q ∷ qs) = by (p.trait == q.trait)
      where
        by : (b : Bool) → HaveGood (if b then (if same_reference p q then row unsize_dyn [] else []) else equal_rows unsize_upcast [] q 1 (strict_supertraits V p))
        by true = if-good (same_reference p q) (row unsize_dyn []) (λ e. (tt, tt))
        by false = equal-good unsize_upcast [] tt q 1 (strict_supertraits V p)

    upcast-good : (a : Trees) → HaveGood (unsize_upcast_rules V a)
    upcast-good none = tt
    upcast-good (tree dynamic a none) = tt
    upcast-good (tree dynamic a (tree dynamic b o)) =
        let self = tree dynamic a none in
        if-good (are_declared V (principal_with self a) && upcasts_autos V (principal_with self a) (autos_with self a) (autos_with self b)) _ (λ e. upcasts-principal-good (principal_with self a) (principal_with self b))
    upcast-good (tree dynamic a (tree k b o)) = tt
    upcast-good (tree l c o) = tt

    last-unsizes-good : (ss : List Sort) (A B : Trees) → Formed A → Formed B → sorts_of A ≡ ss → sorts_of B ≡ ss → trait_is (λ z. true) V unsize ≡ true → (fs : List Trees) → ((t : Trees) → In t fs → IsField V sorts ss t) → list_all are_terms fs ≡ true
        → Every Good (last_unsizes fs A B)
    last-unsizes-good ss A B f g d e u [] k h = tt
    last-unsizes-good ss A B f g d e u (t ∷ []) k h =
        let x = k t (here t []) in
        let i = left (are_terms t) true h in
        let p = sorts-of-instance A f ss d t i x.params ∙ x.sort in
        let q = sorts-of-instance B g ss e t i x.params ∙ x.sort in (
          record {
            args = formed-append V sorts (instantiate zero A t) (instantiate zero B t) (instance-of A f ss d t i x.nodes x.params) (instance-of B g ss e t i x.nodes x.params);
            trait = (u, sorts-append (instantiate zero A t) (instantiate zero B t) ∙ ap (λ z. z ++ sorts_of (instantiate zero B t)) p ∙ ap (λ z. of_type ∷ z) q ∙ sym view.unsizes);
          },
          tt,
        )
    last-unsizes-good ss A B f g d e u (t ∷ w ∷ fs) k h = last-unsizes-good ss A B f g d e u (w ∷ fs) (λ x j. k x (there x t (w ∷ fs) j)) (right (are_terms t) (list_all are_terms (w ∷ fs)) h)

    struct-good : (a : Trees) → Formed a → trait_is (λ z. true) V unsize ≡ true → HaveGood (unsize_struct_rules V a)
    struct-good none h u = tt
    struct-good (tree (adt s) a none) h u = tt
    struct-good (tree (adt s) a (tree (adt w) b o)) h u =
        let d = rest (adt s) a (tree (adt w) b o) h in
        if-good (s == w) _
        (λ e. every-flat (λ (v : Rule). Every Good v.premises) (λ x. if some_unsizing x.fields 0 a && same (with_unsizing x.fields 0 a b) b then row unsize_struct (last_unsizes x.fields a b) else []) (structs_named V s)
        (λ x i. if-good (some_unsizing x.fields 0 a && same (with_unsizing x.fields 0 a b) b) (row unsize_struct (last_unsizes x.fields a b))
        (λ g.
        let m = in-filter (λ (y : StructDecl). y.name == s) V.structs x i in
        let n = same-number x.name s m.1 in (
          last-unsizes-good (sorts.of_struct x.name) a b
              (within (adt s) a (tree (adt w) b o) (made-ordinary any_label (adt s) a (tree (adt w) b o) refl h.made).2 h)
              (within (adt w) b o (made-ordinary any_label (adt w) b o refl d.made).2 d)
              (h.nodes.0.1 ∙ ap sorts.of_struct (sym n)) (d.nodes.0.1 ∙ ap sorts.of_struct (sym (n ∙ same-number s w e))) u
              x.fields (λ t j. view.fields x t m.0 j) (fields-declared V well.terms [] x m.0),
          tt,
        ))))
    struct-good (tree (adt s) a (tree k b o)) h u = tt
    struct-good (tree l c o) h u = tt

    -- ---- object bounds
    object-bound-good : (r : Reference) → Good r → (ps qs : List Reference) → HaveGood (object_bound_rules V r ps qs)
    object-bound-good r h ps qs =
        if-good (is_declared_trait V r.trait && are_dyn_compatible V ps) _
        (λ e. both-good (if not (r.trait == sized) && list_any (same_reference r) qs then row object_auto (strict_supertraits V r) else []) _
        (if-good (not (r.trait == sized) && list_any (same_reference r) qs) (row object_auto (strict_supertraits V r)) (λ g. (supers-good r h, tt)))
        (if-good (not (r.trait == sized)) _ (λ g. equal-good object_principal (strict_supertraits V r) (supers-good r h) r 0 (elaborated V ps))))

    object-good : (r : Reference) → Good r → (a : Trees) → HaveGood (object_rules V r a)
    object-good r h none = tt
    object-good r h (tree dynamic b o) = object-bound-good r h (principal_with (tree dynamic b none) b) (autos_with (tree dynamic b none) b)
    object-good r h (tree l c o) = tt

    -- ---- where-clauses ask nothing
    super-good : (r : Reference) (k n : ℕ) (ss : List Reference) → HaveGood (super_rules r k n ss)
    super-good r k n [] = tt
    super-good r k n (s ∷ ss) = both-good (if same_reference s r then _ ∷ [] else []) (super_rules r k (suc n) ss) (if-good (same_reference s r) _ (λ e. (tt, tt))) (super-good r k (suc n) ss)

    clause-rules-good : (r : Reference) (k : ℕ) (E : List Reference) → HaveGood (clause_rules V r k E)
    clause-rules-good r k [] = tt
    clause-rules-good r k (s ∷ ss) =
        both-good (if same_reference s r then _ ∷ [] else []) _ (if-good (same_reference s r) _ (λ e. (tt, tt)))
        (both-good (super_rules r k 0 (strict_supertraits V s)) (clause_rules V r (suc k) ss) (super-good r k 0 (strict_supertraits V s)) (clause-rules-good r (suc k) ss))

    -- ---- all rules
    -- a formed reference begins with a type
    pub begins : (r : Reference) → Good r → begins_typed r.args ≡ true
    begins r h = let x = view.self_first r.trait h.trait.0 in begins-by r.args ∙ ap first_is (h.trait.1 ∙ x.1)
      where
        first_is : List Sort → Bool
        first_is [] = false
        first_is (s ∷ ss) = is_sort s of_type

    trait-of : (r : Reference) → Good r → sorts.of_trait r.trait ≡ of_type ∷ [] → IsTraitOf V sorts r.trait (of_type ∷ [])
    trait-of r h e = (h.trait.0, sym e)

    plain-good : (r : Reference) → Good r → HaveGood (plain_rules r)
    plain-good r h =
        both-good (if (r.trait == copy) || (r.trait == clone) then copy_rules r.trait r.args else []) _
        (if-good ((r.trait == copy) || (r.trait == clone)) (copy_rules r.trait r.args) (λ e. copy-good r.trait (trait-of r h (copied (r.trait == copy) refl e)) r.args h.args))
        (both-good (if r.trait == tuple_trait then tuple_rules r.args else []) _ (if-good (r.trait == tuple_trait) (tuple_rules r.args) (λ e. tuple-good r.args))
        (both-good (if r.trait == fn_ptr_trait then fn_ptr_rules r.args else []) (if is_fn_trait r.trait then call_rules r.args else []) (if-good (r.trait == fn_ptr_trait) (fn_ptr_rules r.args) (λ e. fn-ptr-good r.args))
        (if-good (is_fn_trait r.trait) (call_rules r.args) (λ e. call-good r.args h.args))))
      where
        copied : (b : Bool) → (r.trait == copy) ≡ b → (b || (r.trait == clone)) ≡ true → sorts.of_trait r.trait ≡ of_type ∷ []
        copied true e g = ap sorts.of_trait (same-number r.trait copy e) ∙ view.copies
        copied false e g = ap sorts.of_trait (same-number r.trait clone g) ∙ view.clones

    unsize-good : (r : Reference) → Good r → r.trait ≡ unsize → HaveGood (unsize_rules V r.args)
    unsize-good r h e =
        both-good (unsize_array_rules r.args) _ (array-good r.args)
        (both-good (unsize_to_dyn_rules V r.args) _ (to-dyn-good r.args h.args (begins r h))
        (both-good (unsize_upcast_rules V r.args) (unsize_struct_rules V r.args) (upcast-good r.args)
        (struct-good r.args h.args (subst (λ z. trait_is (λ x. true) V z ≡ true) e h.trait.0))))

    built-in-good : (r : Reference) → Good r → HaveGood (built_in_rules V r)
    built-in-good r h =
        both-good (plain_rules r) _ (plain-good r h)
        (both-good (if r.trait == sized then sized_rules V r.args else []) _ (if-good (r.trait == sized) (sized_rules V r.args) (λ e. sized-good r.args h.args))
        (both-good (if is_auto V r.trait then auto_rules V r.trait r.args else []) _ (if-good (is_auto V r.trait) (auto_rules V r.trait r.args) (λ e. auto-good r.trait (trait-of r h (view.autos r.trait e)) r.args h.args))
        (both-good (if r.trait == unsize then unsize_rules V r.args else []) (object_rules V r r.args) (if-good (r.trait == unsize) (unsize_rules V r.args) (λ e. unsize-good r h (same-number r.trait unsize e)))
        (object-good r h r.args))))

    pub rules-good : (E : List Reference) (r : Reference) → Good r → HaveGood (rules V E r)
    rules-good E r h =
        both-good (flat_map (impl_rules r) V.impls) (built_in_rules V r ++ clause_rules V r 0 E)
        (every-flat (λ (u : Rule). Every Good u.premises) (impl_rules r) V.impls (λ i k. impl-good r h i k))
        (both-good (built_in_rules V r) (clause_rules V r 0 E) (built-in-good r h) (clause-rules-good r 0 E))
