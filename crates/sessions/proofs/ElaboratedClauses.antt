-- Where-clauses with all their supertraits are formed if the clauses are, and supertraits of them are among them.
use Rattle.std.proofs.Common.{◌≡◌, ◌==◌, ℕ, zero, suc, Bool, true, false, not, ◌||◌, List, [], ◌∷◌, map, length, inl, inr, refl, sym, ◌∙◌, ap, subst}
use Rattle.std.specs.List.{list_all, flat_map}
use Rattle.type_terms.specs.Promised.Label.{Label, Sort, of_type, of_const, of_lifetime, adt, tuple, fn_ptr, raw_pointer, ref, array, slice, dynamic, static, principal, auto_trait, of_trait, predicate, param, placeholder, infer, canonical, bound}
use Rattle.type_terms.specs.Promised.Erased.{erased_reference, erased_world}
use Rattle.type_terms.specs.Promised.Trees.{Trees, none, tree, Fits, nth, sort_of, is_sort, erase_label, erase, some_node}
use Rattle.type_terms.specs.Trees.{is_a, is_no_tree}
use Rattle.type_terms.specs.Promised.Worlds.{World, Reference, TraitDecl, traits_named, with_args, all_with_args}
use Rattle.type_terms.specs.Promised.Rules.{written_supertraits, strict_supertraits, strict_supertraits_within, elaborated}
use Rattle.type_terms.specs.Promised.Proofs.{In}
use Rattle.type_terms.proofs.ProofEntries.{map-in}
use Rattle.type_terms.proofs.Fitting.{child-shut, next-shut, fits-sound}
use Rattle.type_terms.proofs.Members.{here, there, in-cases, in-nothing, in-filter, in-flat, flat-in, in-map, same-number}
use Rattle.type_terms.proofs.Supertraits.{flat-same}
use Rattle.type_terms.specs.Made.{terms, is_leaf_label, is_made}
use Rattle.type_terms.proofs.Made.{left, both, false-true, is_ordinary, made-ordinary, made-rest, made-alone, made-weaker}
use Rattle.goal_evaluator.specs.Lists.{Every}
use Rattle.declarations.specs.Applied.{sorts_of}
use Rattle.declarations.specs.Promised.Elaboration.{elaborate, all_levels}
use Rattle.candidate_model.specs.Asking.{next_of}
use Rattle.candidate_model.specs.Declared.{is_declared_leaf, is_lifetime_parameter}
use Rattle.candidate_model.specs.DeclaredWell.{IsDeclaredWell, are_distinct}
use Rattle.candidate_model.proofs.DeclaredParts.{bound-declared}
use Rattle.candidate_model.proofs.ErasedRows.{label-stays}
use Rattle.declarations.proofs.Levels.{strict-closed, all-closed}
use Rattle.candidate_model.proofs.Objects.{map-flat, flat-map}
use Rattle.candidate_model.proofs.PlainRules.{is_wild, tame}
use Rattle.candidate_model.proofs.Stack.{elaborated-all, elaborated-only}
use Rattle.solver_completeness.specs.FormedFacts.{Sorts, EachNode, AreTypeSorts, IsParamOf, HasParams, FitsNode, NodesFit, IsFormed, IsFormedView, FitsSorts}
use Rattle.solver_completeness.specs.GoalSets.{begins_typed, any_label}
use Rattle.solver_completeness.specs.SolverChoices.{IsElaborated}
use Rattle.solver_completeness.proofs.FormedFacts.{supers-good}
use Rattle.solver_completeness.proofs.FormedInstances.{Stands, stands-cases, param-is, fits-by}
use Rattle.sessions.specs.Clauses.{AddSupertraits, BoundsFit}
use Rattle.sessions.specs.Goals.{is_fixed, are_fixed}
use Rattle.sessions.proofs.AskedGoals.{all-fixed, erased-plain, made-erased, erased-sorts, erased-begins, erased-next, autos-erased, nodes-erased}
use Rattle.sessions.proofs.ErasedClauses.{erased-with, supertraits-are-erased}
use Rattle.sessions.proofs.MadeInstances.{is_closed_label, instance-made}

-- ---- labels
closed-fixed : (l : Label) → is_closed_label l ≡ true → is_fixed l ≡ true
closed-fixed (param k i) h = absurd (false-true h)
closed-fixed (placeholder k i) h = absurd (false-true h)
closed-fixed (infer k i) h = absurd (false-true h)
closed-fixed (canonical k i) h = absurd (false-true h)
closed-fixed (bound k j i) h = absurd (false-true h)
closed-fixed l h = refl

bound-loose : (k : Sort) (j i : ℕ) → is_fixed (bound k j i) ≡ false
bound-loose k j i = refl

no-first : (a b c : Bool) → a || b || c ≡ false → a ≡ false
no-first false b c h = refl
no-first true b c h = absurd (false-true (sym h))

-- what is declared without lifetime parameters is up to lifetimes
stays : (t : Trees) → some_node is_wild t ≡ false → some_node is_lifetime_parameter t ≡ false → erase t ≡ t
stays none w p = refl
stays (tree l c o) w p =
    join
    (label-stays l (no-first (is_wild l) (some_node is_wild c) (some_node is_wild o) w) (no-first (is_lifetime_parameter l) (some_node is_lifetime_parameter c) (some_node is_lifetime_parameter o) p))
    (stays c (child-shut is_wild l c o w) (child-shut is_lifetime_parameter l c o p)) (stays o (next-shut is_wild l c o w) (next-shut is_lifetime_parameter l c o p))
  where
    join : erase_label l ≡ l → erase c ≡ c → erase o ≡ o → tree (erase_label l) (erase c) (erase o) ≡ tree l c o
    join e f g = cc

-- ---- arguments of the sorts of parameters
param-where : (ss : List Sort) (t : Trees) → EachNode (HasParams ss) t → (s : Sort) (j : ℕ) → Stands s j t → IsParamOf ss j s
param-where ss none h s j g = absurd (false-true g)
param-where ss (tree (param k i) c o) h s j g =
    stands-cases s j (param k i) c o g
    (λ e. let x = param-is s j k i e in subst (λ z. IsParamOf ss z s) (sym x.1) (subst (IsParamOf ss i) (sym x.0) h.0))
    (λ e. param-where ss c h.1 s j e) (λ e. param-where ss o h.2 s j e)
param-where ss (tree l c o) h s j g = stands-cases s j l c o g (λ e. absurd (false-true e)) (λ e. param-where ss c h.1 s j e) (λ e. param-where ss o h.2 s j e)

head-sort : (a b : Sort) (xs ys : List Sort) → a ∷ xs ≡ b ∷ ys → a ≡ b
head-sort a b xs ys e = cc

rest-sorts : (a b : Sort) (xs ys : List Sort) → a ∷ xs ≡ b ∷ ys → xs ≡ ys
rest-sorts a b xs ys e = cc

-- a lifetime that is made is a leaf
lifetime-label : (l : Label) → sort_of l ≡ of_lifetime → (is_ordinary l ≡ true) × (is_leaf_label l ≡ true)
lifetime-label static e = (refl, refl)
lifetime-label (param k i) e = (refl, refl)
lifetime-label (placeholder k i) e = (refl, refl)
lifetime-label (infer k i) e = (refl, refl)
lifetime-label (canonical k i) e = (refl, refl)
lifetime-label (bound k i j) e = (refl, refl)
lifetime-label l e = absurd cc

or-second : (a b : Bool) → a ≡ true → (not a || b) ≡ true → b ≡ true
or-second true b e h = h
or-second false b e h = absurd (false-true e)

node-is : (s : Sort) (l : Label) (c : Trees) → is_made any_label terms (tree l c none) ≡ true → sort_of l ≡ s → is_a s (tree l c none) ≡ true
node-is of_type l c m e = both (is_sort (sort_of l) of_type) true (ap (λ z. is_sort z of_type) e) refl
node-is of_const l c m e = both (is_sort (sort_of l) of_const) true (ap (λ z. is_sort z of_const) e) refl
node-is of_lifetime l c m e =
    let x = lifetime-label l e in
    both (is_sort (sort_of l) of_lifetime) _ (ap (λ z. is_sort z of_lifetime) e)
    (both (is_no_tree c) true (or-second (is_leaf_label l) (is_no_tree c) x.1 (made-ordinary any_label l c none x.0 m).1) refl)

nth-sort : (A : Trees) → is_made any_label terms A ≡ true → (ss : List Sort) → sorts_of A ≡ ss → (s : Sort) (i : ℕ) → IsParamOf ss i s → is_a s (nth A i) ≡ true
nth-sort A m [] e s i h = absurd h
nth-sort none m (r ∷ ss) e s i h = absurd (no-sorts e)
  where
    no-sorts : [] ≡ r ∷ ss → ⊥
    no-sorts q = cc
nth-sort (tree l c o) m (r ∷ ss) e s zero h = node-is s l c (made-alone any_label l c o m) (head-sort (sort_of l) r (sorts_of o) ss e ∙ h)
nth-sort (tree l c o) m (r ∷ ss) e s (suc i) h = nth-sort o (made-rest any_label l c o m) ss (rest-sorts (sort_of l) r (sorts_of o) ss e) s i h

-- ---- names and sorts, read with lifetimes again
module _ (V : World) (sorts : Sorts) where
  node-back : (l : Label) (c : Trees) → FitsNode V sorts (erase_label l) (erase c) → FitsNode V sorts l c
  node-back (adt s) c h = (h.0, sym (erased-sorts c) ∙ h.1)
  node-back (principal n t) c h = (h.0, ap (λ ss. of_type ∷ ss) (sym (erased-sorts c)) ∙ h.1)
  node-back (auto_trait t) c h = h
  node-back (predicate (of_trait t)) c h = (h.0, sym (erased-sorts c) ∙ h.1)
  node-back tuple c h = subst AreTypeSorts (erased-sorts c) h
  node-back (fn_ptr n) c h = subst AreTypeSorts (erased-sorts c) h
  node-back (raw_pointer b) c h = sym (erased-begins c) ∙ h
  node-back array c h = sym (erased-begins c) ∙ h
  node-back slice c h = sym (erased-begins c) ∙ h
  node-back (ref b) c h = sym (ap begins_typed (erased-next c) ∙ erased-begins (next_of c)) ∙ h
  node-back dynamic c h = sym (ap are_distinct (autos-erased V sorts c)) ∙ h
  node-back l c h = tt

  nodes-back : (t : Trees) → NodesFit V sorts (erase t) → NodesFit V sorts t
  nodes-back none h = tt
  nodes-back (tree l c o) h = (node-back l c h.0, nodes-back c h.1, nodes-back o h.2)

  -- a reference without unknowns whose terms are formed
  pub record IsFormedClause (r : Reference) : Type 0 where
    pub fixed : are_fixed r.args ≡ true
    pub fit : FitsSorts V sorts r

  erased-formed : (r : Reference) → IsFormedClause r → IsFormed V sorts (erased_reference r)
  erased-formed r h =
      let f = all-fixed terms r.args h.fixed in
      record {
        args = record { made = made-erased terms r.args h.fixed; plain = erased-plain r.args f; nodes = nodes-erased V sorts r.args f h.fit.nodes };
        trait = (h.fit.trait.0, erased-sorts r.args ∙ h.fit.trait.1);
      }

  fits-back : (r : Reference) → IsFormed V sorts (erased_reference r) → FitsSorts V sorts r
  fits-back r h = record { nodes = nodes-back r.args h.args.nodes; trait = (h.trait.0, sym (erased-sorts r.args) ∙ h.trait.1) }

  module _ (well : IsDeclaredWell V) (view : IsFormedView V sorts) where
    -- ---- one level up
    bound-fits : (r : Reference) → IsFormedClause r → (x : TraitDecl) → In x V.traits → x.name ≡ r.trait → (b : Reference) → In b x.bounds → Fits r.args b.args
    bound-fits r h x i e b j =
        let made = made-weaker is_fixed any_label (λ l g. refl) terms r.args h.fixed in
        let sorted : sorts_of r.args ≡ sorts.of_trait x.name = h.fit.trait.1 ∙ ap sorts.of_trait (sym e) in
        let declared = bound-declared V well.terms x b i j in
        fits-sound r.args b.args
        (fits-by r.args terms b.args (left (is_made is_declared_leaf terms b.args) _ declared)
        (λ s k g. nth-sort r.args made (sorts.of_trait x.name) sorted s k (param-where (sorts.of_trait x.name) b.args (view.bounds x b i j).params s k g)))

    bound-stays : (x : TraitDecl) → In x V.traits → (b : Reference) → In b x.bounds → erased_reference b ≡ b
    bound-stays x i b j =
        ap (λ z. (let y : Reference = record { trait = b.trait; args = z } in y)) (stays b.args (tame b.args (bound-declared V well.terms x b i j)) (well.erased x b i j))

    -- without lifetimes it is what is written above the reference without lifetimes
    erased-bound : (r : Reference) → IsFormedClause r → (x : TraitDecl) → In x V.traits → x.name ≡ r.trait → (b : Reference) → In b x.bounds
        → with_args (erase r.args) b ≡ erased_reference (with_args r.args b)
    erased-bound r h x i e b j = ap (with_args (erase r.args)) (sym (bound-stays x i b j)) ∙ erased-with r.args b (bound-fits r h x i e b j)

    record IsBoundOf (r s : Reference) : Type 0 where
      declared : TraitDecl
      named : In declared (traits_named V r.trait)
      there_is : In declared V.traits
      name_is : declared.name ≡ r.trait
      bound : Reference
      among : In bound declared.bounds
      is : with_args r.args bound ≡ s

    bound-of : (r s : Reference) → In s (written_supertraits V r) → IsBoundOf r s
    bound-of r s j =
        let m = in-flat (λ (t : TraitDecl). all_with_args r.args t.bounds) (traits_named V r.trait) s j in
        let n = in-filter (λ (y : TraitDecl). y.name == r.trait) V.traits m.0 m.1 in
        let b = map-in (with_args r.args) m.0.bounds s m.2 in
        record { declared = m.0; named = m.1; there_is = n.0; name_is = same-number m.0.name r.trait n.1; bound = b.0; among = b.1; is = b.2 }

    of-bound : (r : Reference) (x : TraitDecl) → In x (traits_named V r.trait) → (b : Reference) → In b x.bounds → In (with_args r.args b) (written_supertraits V r)
    of-bound r x i b j = flat-in (λ (t : TraitDecl). all_with_args r.args t.bounds) (traits_named V r.trait) x (with_args r.args b) i (in-map (with_args r.args) x.bounds b j)

    -- so each is formed again
    every-formed : (xs : List Reference) → Every (IsFormed V sorts) xs → (x : Reference) → In x xs → IsFormed V sorts x
    every-formed [] h x i = absurd (in-nothing x i)
    every-formed (y ∷ xs) h x i = elim (in-cases x y xs i) [ inl e ↦ subst (IsFormed V sorts) e h.0 | inr j ↦ every-formed xs h.1 x j ]

    written-formed : (r s : Reference) → IsFormedClause r → In s (written_supertraits V r) → IsFormedClause s
    written-formed r s h j = by (bound-of r s j)
      where
        by : IsBoundOf r s → IsFormedClause s
        by m =
            let d = bound-declared V well.terms m.declared m.bound m.there_is m.among in
            let z = with_args r.args m.bound in
            let e = erased-bound r h m.declared m.there_is m.name_is m.bound m.among in
            let above : In (erased_reference z) (written_supertraits V (erased_reference r))
            = subst (λ q. In q (written_supertraits V (erased_reference r))) e (of-bound (erased_reference r) m.declared m.named m.bound m.among) in
            let strict = strict-closed V well.rank well.acyclic (erased_reference r) (erased_reference r) (erased_reference z) (here (erased_reference r) (strict_supertraits V (erased_reference r))) above in
            let good = every-formed (strict_supertraits V (erased_reference r)) (supers-good V sorts well view (erased_reference r) (erased-formed r h)) (erased_reference z) strict in
            subst IsFormedClause m.is
            (record {
              fixed = instance-made is_fixed closed-fixed bound-loose r.args h.fixed zero terms m.bound.args (left (is_made is_declared_leaf terms m.bound.args) _ d) (well.erased m.declared m.bound m.there_is m.among);
              fit = fits-back z good;
            })

    -- ---- all levels
    within-formed : (n : ℕ) (r s : Reference) → IsFormedClause r → In s (strict_supertraits_within n V r) → IsFormedClause s
    within-formed zero r s h j = absurd (in-nothing s j)
    within-formed (suc n) r s h j =
        let m = in-flat (λ x. x ∷ strict_supertraits_within n V x) (written_supertraits V r) s j in
        let g = written-formed r m.0 h m.1 in
        elim (in-cases s m.0 (strict_supertraits_within n V m.0) m.2) [ inl e ↦ subst IsFormedClause e g | inr k ↦ within-formed n m.0 s g k ]

    module _ (E : List Reference) (each : (c : Reference) → In c E → IsFormedClause c) where
      level-formed : (y : Reference) → In y (all_levels V E) → IsFormedClause y
      level-formed y i =
          let m = in-flat (λ r. r ∷ strict_supertraits V r) E y i in
          let g = each m.0 m.1 in
          elim (in-cases y m.0 (strict_supertraits V m.0) m.2) [ inl e ↦ subst IsFormedClause e g | inr k ↦ within-formed (length V.traits) m.0 y g k ]

      pub elaborated-formed : (y : Reference) → In y (elaborate V E) → IsFormedClause y
      elaborated-formed y i = level-formed y (elaborated-only V well.rank well.acyclic E y i)

      -- ---- what is above without lifetimes
      above-among : (y z : Reference) → In y (elaborate V E) → In z (written_supertraits V y) → In z (elaborate V E)
      above-among y z i j = elaborated-all V well.rank well.acyclic E z (all-closed V well.rank well.acyclic E y z (elaborated-only V well.rank well.acyclic E y i) j)

      -- what is written above a clause without lifetimes is a clause without lifetimes
      record IsErasedClause (u : Reference) : Type 0 where
        clause : Reference
        among : In clause (elaborate V E)
        is : erased_reference clause ≡ u

      erased-above : (y u : Reference) → In y (elaborate V E) → In u (written_supertraits V (erased_reference y)) → IsErasedClause u
      erased-above y u i j = by (bound-of (erased_reference y) u j)
        where
          by : IsBoundOf (erased_reference y) u → IsErasedClause u
          by m = record {
            clause = with_args y.args m.bound;
            among = above-among y (with_args y.args m.bound) i (of-bound y m.declared m.named m.bound m.among);
            is = sym (erased-bound y (elaborated-formed y i) m.declared m.there_is m.name_is m.bound m.among) ∙ m.is;
          }

      erased-within : (n : ℕ) (y t : Reference) → In y (elaborate V E) → In t (strict_supertraits_within n V (erased_reference y)) → In t (map erased_reference (elaborate V E))
      erased-within zero y t i j = absurd (in-nothing t j)
      erased-within (suc n) y t i j =
          let m = in-flat (λ x. x ∷ strict_supertraits_within n V x) (written_supertraits V (erased_reference y)) t j in
          let c = erased-above y m.0 i m.1 in
          elim (in-cases t m.0 (strict_supertraits_within n V m.0) m.2) [
            | inl e ↦ subst (λ q. In q (map erased_reference (elaborate V E))) (c.is ∙ e) (in-map erased_reference (elaborate V E) c.clause c.among)
            | inr k ↦ erased-within n c.clause t c.among (subst (λ q. In t (strict_supertraits_within n V q)) (sym c.is) k)
          ]

      pub elaborated-closed : IsElaborated V (map erased_reference (elaborate V E))
      elaborated-closed s t i j =
          let m = map-in erased_reference (elaborate V E) s i in
          erased-within (length V.traits) m.0 t m.1 (subst (λ q. In t (strict_supertraits V q)) (sym m.2) j)

      -- ---- and they add supertraits alone
      bounds-fit : BoundsFit V E
      bounds-fit r i x j b k =
          let n = in-filter (λ (y : TraitDecl). y.name == r.trait) V.traits x j in
          bound-fits r (level-formed r i) x n.0 (same-number x.name r.trait n.1) b k

      pub elaborated-adds : AddSupertraits (erased_world V) (map erased_reference E) (map erased_reference (elaborate V E))
      elaborated-adds = supertraits-are-erased V well.rank well.acyclic E (elaborate V E) bounds-fit (λ x i. elaborated-only V well.rank well.acyclic E x i)

      pub all-are-fixed : (F : List Reference) → ((c : Reference) → In c F → IsFormedClause c) → list_all (λ (c : Reference). are_fixed c.args) F ≡ true
      all-are-fixed [] f = refl
      all-are-fixed (c ∷ F) f = both (are_fixed c.args) _ (f c (here c F)).fixed (all-are-fixed F (λ x i. f x (there x c F i)))

    -- ---- all levels, without lifetimes
    bounds-erased : (r : Reference) → IsFormedClause r → (x : TraitDecl) → In x V.traits → x.name ≡ r.trait → (bs : List Reference) → ((b : Reference) → In b bs → In b x.bounds)
        → all_with_args (erase r.args) bs ≡ map erased_reference (all_with_args r.args bs)
    bounds-erased r h x i e [] f = refl
    bounds-erased r h x i e (b ∷ bs) f =
        ap (λ z. z ∷ all_with_args (erase r.args) bs) (erased-bound r h x i e b (f b (here b bs)))
        ∙ ap (λ z. erased_reference (with_args r.args b) ∷ z) (bounds-erased r h x i e bs (λ c j. f c (there c b bs j)))

    written-erased : (r : Reference) → IsFormedClause r → written_supertraits V (erased_reference r) ≡ map erased_reference (written_supertraits V r)
    written-erased r h =
        flat-same (λ (t : TraitDecl). all_with_args (erase r.args) t.bounds) (λ (t : TraitDecl). map erased_reference (all_with_args r.args t.bounds)) (traits_named V r.trait)
        (λ t i. let n = in-filter (λ (y : TraitDecl). y.name == r.trait) V.traits t i in bounds-erased r h t n.0 (same-number t.name r.trait n.1) t.bounds (λ b j. j))
        ∙ sym (map-flat erased_reference (λ (t : TraitDecl). all_with_args r.args t.bounds) (traits_named V r.trait))

    pub within-erased : (n : ℕ) (r : Reference) → IsFormedClause r → strict_supertraits_within n V (erased_reference r) ≡ map erased_reference (strict_supertraits_within n V r)
    within-erased zero r h = refl
    within-erased (suc n) r h =
        ap (flat_map (λ s. s ∷ strict_supertraits_within n V s)) (written-erased r h)
        ∙ flat-map (λ s. s ∷ strict_supertraits_within n V s) erased_reference (written_supertraits V r)
        ∙ flat-same (λ s. erased_reference s ∷ strict_supertraits_within n V (erased_reference s)) (λ s. map erased_reference (s ∷ strict_supertraits_within n V s)) (written_supertraits V r)
        (λ s i. ap (λ z. erased_reference s ∷ z) (within-erased n s (written-formed r s h i)))
        ∙ sym (map-flat erased_reference (λ s. s ∷ strict_supertraits_within n V s) (written_supertraits V r))

    pub levels-erased : (E : List Reference) → ((c : Reference) → In c E → IsFormedClause c) → elaborated V (map erased_reference E) ≡ map erased_reference (elaborated V E)
    levels-erased E each =
        flat-map (λ s. s ∷ strict_supertraits V s) erased_reference E
        ∙ flat-same (λ s. erased_reference s ∷ strict_supertraits V (erased_reference s)) (λ s. map erased_reference (s ∷ strict_supertraits V s)) E
        (λ s i. ap (λ z. erased_reference s ∷ z) (within-erased (length V.traits) s (each s i)))
        ∙ sym (map-flat erased_reference (λ s. s ∷ strict_supertraits V s) E)
