-- Object bounds: each reference that a `dyn` concludes is the instance of one that the candidates go over.
use Rattle.std.proofs.Common.{◌≡◌, ℕ, zero, suc, Bool, true, false, not, ◌&&◌, ◌||◌, ◌==◌, if◌then◌else◌, List, [], ◌∷◌, ◌++◌, map, length, ◌⊎◌, inl, inr, refl, sym, ◌∙◌, ap, subst}
use Rattle.std.specs.List.{flat_map, list_all, list_any}
use Rattle.type_terms.specs.Promised.Label.{Label, dynamic, principal}
use Rattle.type_terms.specs.Promised.Trees.{Trees, none, tree, some_node}
use Rattle.type_terms.specs.Promised.Worlds.{World, Reference, TraitDecl, traits_named, with_args, all_with_args}
use Rattle.type_terms.specs.Promised.Rules.{Rule, row, object_auto, object_principal, equal_rows, sized, same_reference, is_declared, are_dyn_compatible, principal_with, autos_with, elaborated, written_supertraits, strict_supertraits, strict_supertraits_within, object_rules, object_bound_rules}
use Rattle.type_terms.specs.Promised.Proofs.{In}
use Rattle.type_terms.specs.Promised.Answers.{is_open}
use Rattle.type_terms.specs.Promised.LinkedSet.{is_stray}
use Rattle.type_terms.proofs.Members.{here, there, in-nothing, in-cases, in-append, in-map, in-filter, in-flat}
use Rattle.type_terms.proofs.ProofEntries.{map-in}
use Rattle.type_terms.proofs.Supertraits.{flat-same}
use Rattle.type_terms.proofs.Fitting.{same-reference-sound, child-shut, append-shut, or-no}
use Rattle.type_terms.proofs.NoHolds.{member-each}
use Rattle.type_terms.proofs.OpenWorld.{was-true}
use Rattle.type_terms.proofs.Walking.{left, right}
use Rattle.type_terms.specs.Made.{bounds}
use Rattle.type_terms.specs.Made.{is_made}
use Rattle.goal_evaluator.specs.Lists.{Every, SomeOf}
use Rattle.goal_evaluator.proofs.ListLaws.{Every-map}
use Rattle.goal_evaluator.specs.declared.candidate.CandidateSource.{CandidateSource}
use Rattle.goal_evaluator.specs.Instances.{read_with}
use Rattle.goal_evaluator.specs.Content.{Values, given}
use Rattle.candidate_model.specs.Declared.{are_terms, are_references, is_declared_view}
use Rattle.declarations.specs.Promised.Elaboration.{supertraits, elaborate}
use Rattle.candidate_model.specs.Asking.{GoalOverKinds}
use Rattle.candidate_model.specs.Candidates.{by_rule, can_be, all_equal, if_so, bounds_from, object_source, written_source, objects_of}
use Rattle.candidate_model.specs.Cover.{slots, SolvesEquations, Proved, read_reference}
use Rattle.candidate_model.proofs.Instances.{Shut, read-declared}
use Rattle.candidate_model.proofs.Supers.{plain-shut}
use Rattle.candidate_model.proofs.Unsizing.{map-append, compatible-same, principal-read, autos-read, traits-stay}
use Rattle.candidate_model.proofs.Impls.{pairwise}
use Rattle.candidate_model.proofs.Apart.{reads-can-be}
use Rattle.candidate_model.proofs.Calls.{gives-equal}
use Rattle.candidate_model.proofs.Elaborating.{every-in}
use Rattle.candidate_model.proofs.EqualRows.{row-premises, equal-premises, one-row, each-row}
use Rattle.candidate_model.proofs.ByView.{some-left, some-right}
use Rattle.candidate_model.specs.Declared.{LeadDown}
use Rattle.candidate_model.proofs.Stack.{elaborated-all, supertraits-only}
use Rattle.type_terms.proofs.BooleanBasics.{true-false}

-- declarations hold no open place but parameters
abbrev pub BoundsArePlain : World → Type 0
BoundsArePlain V = (x : TraitDecl) (b : Reference) → In x V.traits → In b x.bounds → some_node is_stray b.args ≡ false

pub map-flat : {A B C : Type 0} (g : B → C) (f : A → List B) (ys : List A) → map g (flat_map f ys) ≡ flat_map (λ y. map g (f y)) ys
map-flat g f [] = refl
map-flat g f (y ∷ ys) = map-append g (f y) (flat_map f ys) ∙ ap (λ w. map g (f y) ++ w) (map-flat g f ys)

pub flat-map : {A B C : Type 0} (f : B → List C) (g : A → B) (ys : List A) → flat_map f (map g ys) ≡ flat_map (λ y. f (g y)) ys
flat-map f g [] = refl
flat-map f g (y ∷ ys) = ap (λ w. f (g y) ++ w) (flat-map f g ys)

-- ---- all levels of an instance are the instances of all levels
module _ (V : World) (declared : is_declared_view V ≡ true) (plain : BoundsArePlain V) (xs : List Trees) where
  abbrev read : Trees → Trees
  read t = read_with (given xs) t

  abbrev instance : Reference → Reference
  instance r = read_reference xs r

  bound-declared : (x : TraitDecl) (b : Reference) → In x V.traits → In b x.bounds → are_terms b.args ≡ true
  bound-declared x b i j =
      let second = right (list_all (λ y. list_all are_terms y.fields) V.structs) (list_all (λ (y : TraitDecl). are_references y.bounds) V.traits && list_all (λ i. are_terms i.header.args && are_references i.clauses) V.impls) declared in
      let traits = left (list_all (λ (y : TraitDecl). are_references y.bounds) V.traits) (list_all (λ i. are_terms i.header.args && are_references i.clauses) V.impls) second in
      member-each (λ (r : Reference). are_terms r.args) x.bounds b (member-each (λ (y : TraitDecl). are_references y.bounds) V.traits x traits i) j

  bounds-read : (A : Trees) → Shut (read A) → (bs : List Reference) → ((b : Reference) → In b bs → are_terms b.args ≡ true) → all_with_args (read A) bs ≡ map (read_reference xs) (all_with_args A bs)
  bounds-read A h [] d = refl
  bounds-read A h (b ∷ bs) d =
      ap (λ z. record { trait = b.trait; args = z } ∷ all_with_args (read A) bs) (sym (read-declared xs A h b.args (d b (here b bs))))
      ∙ ap (λ z. read_reference xs (with_args A b) ∷ z) (bounds-read A h bs (λ x i. d x (there x b bs i)))

  written-read : (r : Reference) → Shut (read r.args) → written_supertraits V (instance r) ≡ map (read_reference xs) (written_supertraits V r)
  written-read r h =
      flat-same (λ (t : TraitDecl). all_with_args (read r.args) t.bounds) (λ (t : TraitDecl). map (read_reference xs) (all_with_args r.args t.bounds)) (traits_named V r.trait)
      (λ t i. bounds-read r.args h t.bounds (λ b j. bound-declared t b (in-filter (λ (y : TraitDecl). y.name == r.trait) V.traits t i).0 j))
      ∙ sym (map-flat (read_reference xs) (λ (t : TraitDecl). all_with_args r.args t.bounds) (traits_named V r.trait))

  closed-written : (r s : Reference) → Shut r.args → In s (written_supertraits V r) → Shut s.args
  closed-written r s h i =
      let m = in-flat (λ (t : TraitDecl). all_with_args r.args t.bounds) (traits_named V r.trait) s i in
      let b = map-in (with_args r.args) m.0.bounds s m.2 in
      subst (λ (q : Reference). Shut q.args) b.2 (plain-shut zero r.args b.0.args h (plain m.0 b.0 (in-filter (λ (y : TraitDecl). y.name == r.trait) V.traits m.0 m.1).0 b.1))

  written-shut : (r s : Reference) → Shut (read r.args) → In s (written_supertraits V r) → Shut (read s.args)
  written-shut r s h i = closed-written (instance r) (instance s) h (subst (In (instance s)) (sym (written-read r h)) (in-map (read_reference xs) (written_supertraits V r) s i))

  pub within-read : (n : ℕ) (r : Reference) → Shut (read r.args) → strict_supertraits_within n V (read_reference xs r) ≡ map (read_reference xs) (strict_supertraits_within n V r)
  within-read zero r h = refl
  within-read (suc n) r h =
      ap (flat_map (λ s. s ∷ strict_supertraits_within n V s)) (written-read r h)
      ∙ flat-map (λ s. s ∷ strict_supertraits_within n V s) (read_reference xs) (written_supertraits V r)
      ∙ flat-same (λ s. read_reference xs s ∷ strict_supertraits_within n V (read_reference xs s)) (λ s. map (read_reference xs) (s ∷ strict_supertraits_within n V s)) (written_supertraits V r)
      (λ s i. ap (λ z. read_reference xs s ∷ z) (within-read n s (written-shut r s h i)))
      ∙ sym (map-flat (read_reference xs) (λ s. s ∷ strict_supertraits_within n V s) (written_supertraits V r))

  pub strict-read : (r : Reference) → Shut (read r.args) → strict_supertraits V (read_reference xs r) ≡ map (read_reference xs) (strict_supertraits V r)
  strict-read r h = within-read (length V.traits) r h

  pub elaborated-read : (ps : List Reference) → ((p : Reference) → In p ps → Shut (read p.args)) → elaborated V (map (read_reference xs) ps) ≡ map (read_reference xs) (elaborated V ps)
  elaborated-read ps h =
      flat-map (λ s. s ∷ strict_supertraits V s) (read_reference xs) ps
      ∙ flat-same (λ s. read_reference xs s ∷ strict_supertraits V (read_reference xs s)) (λ s. map (read_reference xs) (s ∷ strict_supertraits V s)) ps (λ s i. ap (λ z. read_reference xs s ∷ z) (strict-read s (h s i)))
      ∙ sym (map-flat (read_reference xs) (λ s. s ∷ strict_supertraits V s) ps)

-- the principal of a closed `dyn` with a closed Self is closed
pub principal-shut : (self b : Trees) (p : Reference) → Shut self → Shut b → In p (principal_with self b) → Shut p.args
principal-shut self none p g h i = absurd (in-nothing p i)
principal-shut self (tree (principal n t) c o) p g h i =
    elim (in-cases p (record { trait = t; args = _ }) [] i) [
      | inl q ↦ subst (λ (z : Reference). Shut z.args) q (append-shut is_open self c g (child-shut is_open (principal n t) c o h))
      | inr j ↦ absurd (in-nothing p j)
    ]
principal-shut self (tree l c o) p g h i = absurd (in-nothing p i)

pub dyn-shut : (c o : Trees) → Shut (tree dynamic c o) → Shut (tree dynamic c none)
dyn-shut c o h = or-no (is_open dynamic || some_node is_open c) false (child-shut is_open dynamic c o h) refl

-- ---- what the rows ask
-- the rules of object bounds ask the strict supertraits
pub object-premises : (V : World) (r : Reference) (t : Trees) (u : Rule) → In u (object_rules V r t) → u.premises ≡ strict_supertraits V r
object-premises V r none u i = absurd (in-nothing u i)
object-premises V r (tree dynamic c o) u i = by (in-append u autos principals (was-true (is_declared V r.trait && are_dyn_compatible V ps) (autos ++ principals) u i).1)
  where
    ps : List Reference
    ps = principal_with (tree dynamic c none) c

    autos : List Rule
    autos = if not (r.trait == sized) && list_any (same_reference r) (autos_with (tree dynamic c none) c) then row object_auto (strict_supertraits V r) else []

    principals : List Rule
    principals = if not (r.trait == sized) then equal_rows object_principal (strict_supertraits V r) r 0 (elaborated V ps) else []

    by : In u autos ⊎ In u principals → u.premises ≡ strict_supertraits V r
    by (inl j) =
        row-premises object_auto (strict_supertraits V r) u
        (was-true (not (r.trait == sized) && list_any (same_reference r) (autos_with (tree dynamic c none) c)) (row object_auto (strict_supertraits V r)) u j).1
    by (inr j) =
        equal-premises object_principal (strict_supertraits V r) r 0 (elaborated V ps) u
        (was-true (not (r.trait == sized)) (equal_rows object_principal (strict_supertraits V r) r 0 (elaborated V ps)) u j).1
object-premises V r (tree l c o) u i = absurd (in-nothing u i)

every-has : {A : Type 0} (P : A → Type 0) (xs : List A) → Every P xs → (x : A) → In x xs → P x
every-has P [] e x i = absurd (in-nothing x i)
every-has P (y ∷ xs) e x i = elim (in-cases x y xs i) [ inl q ↦ subst P q e.0 | inr j ↦ every-has P xs e.1 x j ]

-- so the supertraits as the candidates list them have proofs
pub supers-proved : (H : Reference → Type 0) (V : World) → is_declared_view V ≡ true → BoundsArePlain V → (rank : ℕ → ℕ) → LeadDown V rank → (xs : List Trees) (r : Reference) → Shut (read_with (given xs) r.args)
    → Every (Proved H) (strict_supertraits V (read_reference xs r)) → Every (Proved H) (map (read_reference xs) (supertraits V r))
supers-proved H V declared plain rank down xs r shut e =
    Every-map (Proved H) (read_reference xs) (supertraits V r)
    (every-in (λ s. Proved H (read_reference xs s)) (supertraits V r)
    (λ s i. every-has (Proved H) (strict_supertraits V (read_reference xs r)) e (read_reference xs s)
    (subst (In (read_reference xs s)) (sym (strict-read V declared plain xs r shut)) (in-map (read_reference xs) (strict_supertraits V r) s (supertraits-only V rank down r s i)))))

-- ---- rows
module _ (H : Reference → Type 0) (V : World) (declared : is_declared_view V ≡ true) (plain : BoundsArePlain V) (rank : ℕ → ℕ) (down : LeadDown V rank) (a : GoalOverKinds) (v : Values) where
  abbrev ys : List Trees
  ys = slots a.kinds v []

  abbrev asks : Reference
  asks = read_reference ys a.reference

  module _ (supers : Every (Proved H) (map (read_reference ys) (supertraits V a.reference))) where
    -- a bound that is read as what is asked gives the candidate
    from-bound : (source : ℕ → CandidateSource) (i : ℕ) (rs : List Reference) (t : Reference) → In t rs → read_reference ys t ≡ asks → SomeOf (SolvesEquations H a.kinds v) (bounds_from V a source i rs)
    from-bound source i [] t j e = absurd (in-nothing t j)
    from-bound source i (r ∷ rs) t j e = by (can_be a.reference r) refl (in-cases t r rs j) (λ k g. from-bound source k rs t g e)
      where
        by : (b : Bool) → can_be a.reference r ≡ b → (r ≡ t) ⊎ In t rs → ((k : ℕ) → In t rs → SomeOf (SolvesEquations H a.kinds v) (bounds_from V a source k rs))
            → SomeOf (SolvesEquations H a.kinds v) (if b then by_rule V a (source i) (all_equal a.reference.args r.args) (supertraits V a.reference) ∷ bounds_from V a source (suc i) rs else bounds_from V a source (suc i) rs)
        by true q (inl g) go =
            inl (gives-equal H V a v (source i) (all_equal a.reference.args r.args) (supertraits V a.reference)
            (pairwise ys a.reference.args r.args (sym (ap (λ (z : Reference). z.args) (ap (read_reference ys) g ∙ e)))) supers)
        by true q (inr g) go = inr (go (suc i) g)
        by false q (inl g) go = absurd (true-false (sym (reads-can-be ys a.reference r (ap (read_reference ys) g ∙ e)) ∙ q))
        by false q (inr g) go = go (suc i) g

    -- one of the references of a rule is read as what is asked
    read-as-asked : (rs : List Reference) (s : Reference) → In s (map (read_reference ys) rs) → same_reference asks s ≡ true → (t : Reference) × In t rs × (read_reference ys t ≡ asks)
    read-as-asked rs s i e = let m = map-in (read_reference ys) rs s i in (m.0, m.1, m.2 ∙ sym (same-reference-sound asks s e))

    at-dyn : (good : Label → Bool) (c o : Trees) → is_made good bounds c ≡ true → Shut (tree dynamic (read_with (given ys) c) (read_with (given ys) o)) → (u : Rule)
        → In u (object_rules V asks (tree dynamic (read_with (given ys) c) (read_with (given ys) o))) → SomeOf (SolvesEquations H a.kinds v) (objects_of V a (tree dynamic c o))
    at-dyn good c o made shut u i = by (are_dyn_compatible V ps) compatible (in-append u (if not (asks.trait == sized) && list_any (same_reference asks) (map (read_reference ys) qs) then row object_auto (strict_supertraits V asks) else []) _ (rule.1))
      where
        self : Trees
        self = tree dynamic c none

        ps : List Reference
        ps = principal_with self c

        qs : List Reference
        qs = autos_with self c

        rule : (is_declared V asks.trait && are_dyn_compatible V (map (read_reference ys) ps) ≡ true)
            × In u ((if not (asks.trait == sized) && list_any (same_reference asks) (map (read_reference ys) qs) then row object_auto (strict_supertraits V asks) else [])
            ++ (if not (asks.trait == sized) then equal_rows object_principal (strict_supertraits V asks) asks 0 (elaborated V (map (read_reference ys) ps)) else []))
        rule =
            was-true (is_declared V asks.trait && are_dyn_compatible V (map (read_reference ys) ps)) _ u
            (subst (λ p. In u (object_bound_rules V asks p (map (read_reference ys) qs))) (principal-read V declared ys good self c made)
            (subst (λ q. In u (object_bound_rules V asks (principal_with (read_with (given ys) self) (read_with (given ys) c)) q)) (autos-read V declared ys good self c made) i))

        compatible : are_dyn_compatible V ps ≡ true
        compatible =
            sym (compatible-same V (map (read_reference ys) ps) ps (traits-stay V declared ys ps)) ∙ right (is_declared V asks.trait) (are_dyn_compatible V (map (read_reference ys) ps)) rule.0

        ps-shut : (p : Reference) → In p ps → Shut (read_with (given ys) p.args)
        ps-shut p j =
            principal-shut (read_with (given ys) self) (read_with (given ys) c) (read_reference ys p) (dyn-shut (read_with (given ys) c) (read_with (given ys) o) shut)
            (child-shut is_open dynamic (read_with (given ys) c) (read_with (given ys) o) shut)
            (subst (In (read_reference ys p)) (sym (principal-read V declared ys good self c made)) (in-map (read_reference ys) ps p j))

        in-elaborate : (s : Reference) → In s (elaborated V (map (read_reference ys) ps)) → same_reference asks s ≡ true → (t : Reference) × In t (elaborate V ps) × (read_reference ys t ≡ asks)
        in-elaborate s j e =
            let m = read-as-asked (elaborated V ps) s (subst (In s) (elaborated-read V declared plain ys ps ps-shut) j) e in
            (m.0, elaborated-all V rank down ps m.0 m.1, m.2)

        autos : List Rule
        autos = if not (asks.trait == sized) && list_any (same_reference asks) (map (read_reference ys) qs) then row object_auto (strict_supertraits V asks) else []

        principals : List Rule
        principals = if not (asks.trait == sized) then equal_rows object_principal (strict_supertraits V asks) asks 0 (elaborated V (map (read_reference ys) ps)) else []

        by : (b : Bool) → b ≡ true → In u autos ⊎ In u principals
            → SomeOf (SolvesEquations H a.kinds v) (if_so b (if_so (not (a.reference.trait == sized)) (bounds_from V a written_source 0 qs) ++ if_so (not (a.reference.trait == sized)) (bounds_from V a object_source 0 (elaborate V ps))))
        by false e g = absurd (true-false (sym e))
        by true e (inl g) =
            let m = one-row asks (map (read_reference ys) qs) (not (asks.trait == sized)) (row object_auto (strict_supertraits V asks)) u g in
            let t = read-as-asked qs m.1.0 m.1.1 m.1.2 in
            some-left (SolvesEquations H a.kinds v) (if_so (not (a.reference.trait == sized)) (bounds_from V a written_source 0 qs)) _
            (subst (λ b. SomeOf (SolvesEquations H a.kinds v) (if_so b (bounds_from V a written_source 0 qs))) (sym m.0) (from-bound written_source 0 qs t.0 t.1 t.2))
        by true e (inr g) =
            let m = each-row object_principal (strict_supertraits V asks) asks 0 (elaborated V (map (read_reference ys) ps)) (not (asks.trait == sized)) u g in
            let t = in-elaborate m.1.0 m.1.1 m.1.2 in
            some-right (SolvesEquations H a.kinds v) (if_so (not (a.reference.trait == sized)) (bounds_from V a written_source 0 qs)) _
            (subst (λ b. SomeOf (SolvesEquations H a.kinds v) (if_so b (bounds_from V a object_source 0 (elaborate V ps)))) (sym m.0) (from-bound object_source 0 (elaborate V ps) t.0 t.1 t.2))

    -- the row of object bounds, where the head of Self is known
    pub objects-at : (good : Label → Bool) (k : Label) (c o : Trees) → (k ≡ dynamic → is_made good bounds c ≡ true) → Shut (tree k (read_with (given ys) c) (read_with (given ys) o)) → (u : Rule)
        → In u (object_rules V asks (tree k (read_with (given ys) c) (read_with (given ys) o))) → SomeOf (SolvesEquations H a.kinds v) (objects_of V a (tree k c o))
    objects-at good dynamic c o made shut u i = at-dyn good c o (made refl) shut u i
    objects-at good k c o made shut u i = absurd (in-nothing u i)
