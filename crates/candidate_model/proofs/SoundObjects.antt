-- Object bounds are sound candidates: the bound that is equated is one of the `dyn`'s, and the rule's premises are among the supertraits that are asked.
use Rattle.std.proofs.Common.{◌≡◌, ℕ, suc, ◌==◌, Bool, true, false, not, ◌&&◌, if◌then◌else◌, List, [], ◌∷◌, ◌++◌, map, ◌⊎◌, inl, inr, refl, sym, ◌∙◌, ap, subst, Some}
use Rattle.std.specs.List.{flat_map, list_any}
use Rattle.type_terms.specs.Promised.Label.{Label, of_type, dynamic, auto_trait, param, placeholder, infer, canonical, bound}
use Rattle.type_terms.specs.Promised.Trees.{Trees, none, tree, erase_label, is_sort, some_node}
use Rattle.type_terms.specs.Promised.Worlds.{World, Reference}
use Rattle.type_terms.specs.Promised.Answers.{is_undeclared}
use Rattle.type_terms.specs.Promised.Rules.{Rule, Way, BuiltIn, built_in, row, object_auto, object_principal, equal_rows, sized, unsize, is_auto, is_declared, same_reference, impl_rules, plain_rules, built_in_rules, clause_rules, sized_rules, auto_rules, unsize_rules, object_rules, object_bound_rules, are_dyn_compatible, principal_with, autos_with, elaborated, strict_supertraits, is_coinductive}
use Rattle.type_terms.specs.Promised.Proofs.{In}
use Rattle.type_terms.proofs.Members.{here, there, in-nothing, in-cases, in-left, in-right, in-map, member-some, same-number}
use Rattle.type_terms.proofs.Fitting.{head-shut, child-shut}
use Rattle.type_terms.proofs.Walking.{left, right, both}
use Rattle.type_terms.specs.Made.{terms, bounds, is_made}
use Rattle.infer_table.specs.Canonical.{CanonicalForm}
use Rattle.goal_evaluator.specs.Lists.{Every, IsAmong}
use Rattle.goal_evaluator.specs.declared.candidate.CandidateSource.{CandidateSource}
use Rattle.goal_evaluator.specs.Instances.{read_with}
use Rattle.goal_evaluator.specs.Content.{given, ChosenTerms}
use Rattle.goal_evaluator.specs.FrameTables.{Nested, fact, Equation, EquationIsMet, is_open_label}
use Rattle.candidate_model.specs.Facts.{FactFollows, is_plain, is_unerased, clauses_of, beside}
use Rattle.declarations.specs.Promised.Elaboration.{supertraits, elaborate}
use Rattle.declarations.specs.Apart.{are_apart}
use Rattle.candidate_model.specs.Meaning.{ViewMeaning}
use Rattle.candidate_model.specs.Declared.{is_declared_view, BoundsAreErased}
use Rattle.candidate_model.specs.Asking.{GoalOverKinds, goal_over_kinds, all_known, are_clauses, is_rigid, self_of, with_plain_head}
use Rattle.candidate_model.specs.Candidates.{premise, by_rule, can_be, all_equal, if_so, bounds_from, object_source, written_source, objects_of, by_objects}
use Rattle.candidate_model.specs.Cover.{read_reference}
use Rattle.candidate_model.specs.Lawful.{IsSoundFor, ObjectBoundsAreSound}
use Rattle.candidate_model.proofs.ByView.{rigid-read}
use Rattle.candidate_model.specs.Declared.{LeadDown}
use Rattle.candidate_model.proofs.Stack.{elaborated-only}
use Rattle.candidate_model.proofs.Unsizing.{compatible-same, principal-read, autos-read, traits-stay}
use Rattle.candidate_model.proofs.LawfulCandidates.{asked-clauses}
use Rattle.candidate_model.proofs.BoundTerms.{bounds-are-left}
use Rattle.candidate_model.proofs.Moving.{met-reads}
use Rattle.candidate_model.proofs.SoundCandidates.{goal-is}
use Rattle.candidate_model.proofs.PlainRules.{Plain, IsPlainReference}
use Rattle.candidate_model.proofs.SoundRows.{Unknown, Rigid, unknown-or-rigid, Held, held, IsPlainAt, is}
use Rattle.candidate_model.proofs.SoundCalls.{open-made}
use Rattle.candidate_model.proofs.SoundImpls.{same-one}
use Rattle.candidate_model.proofs.OpenLevels.{PlainRead, strict-open, elaborated-open, supertraits-plain, strict-in-supertraits, principal-plain}
use Rattle.type_terms.proofs.BooleanBasics.{true-false}
use Rattle.goal_evaluator.proofs.Basics.{every-append}
use Rattle.type_terms.proofs.TermBasics.{same-references}

pub member-of : {A : Type 0} (P : A → Type 0) (xs : List A) (x : A) → Every P xs → In x xs → P x
member-of P [] x e i = absurd (in-nothing x i)
member-of P (y ∷ xs) x e i = by (in-cases x y xs i) (λ j. member-of P xs x e.1 j)
  where
    by : (y ≡ x) ⊎ In x xs → (In x xs → P x) → P x
    by (inl q) go = subst P q e.0
    by (inr j) go = go j

-- a bound that is equal gives a row
pub row-of-equal : (b : ℕ → BuiltIn) (ps : List Reference) (r : Reference) (k : ℕ) (ss : List Reference) (s : Reference) → In s ss → same_reference r s ≡ true
    → (w : Way) × In (record { way = w; premises = ps }) (equal_rows b ps r k ss)
row-of-equal b ps r k [] s i e = absurd (in-nothing s i)
row-of-equal b ps r k (t ∷ ss) s i e = by (in-cases s t ss i) (λ j. row-of-equal b ps r (suc k) ss s j e)
  where
    own : List Rule
    own = if same_reference r t then row (b k) ps else []

    by : (t ≡ s) ⊎ In s ss → (In s ss → (w : Way) × In (record { way = w; premises = ps }) (equal_rows b ps r (suc k) ss)) → (w : Way) × In (record { way = w; premises = ps }) (own ++ equal_rows b ps r (suc k) ss)
    by (inl q) go = (
      built_in (b k),
      in-left (record { way = built_in (b k); premises = ps }) own (equal_rows b ps r (suc k) ss)
          (subst (λ (x : Bool). In (record { way = built_in (b k); premises = ps }) (if x then row (b k) ps else [])) (sym (ap (same_reference r) q ∙ e)) (here (record { way = built_in (b k); premises = ps }) [])),
    )
    by (inr j) go = let x = go j in (x.0, in-right (record { way = x.0; premises = ps }) own (equal_rows b ps r (suc k) ss) x.1)

module _ (m : ViewMeaning) (declared : is_declared_view m.view ≡ true) (f : CanonicalForm) (a : GoalOverKinds) (is_asked : goal_over_kinds m.view f ≡ Some a) where
  abbrev V : World
  V = m.view

  abbrev Read : ChosenTerms → Trees → Trees
  Read s t = read_with (given s.slots) t

  abbrev instance : ChosenTerms → Reference
  instance s = read_reference s.slots a.reference

  are : are_clauses a.kinds a.environment ≡ true
  are = asked-clauses V f.goal.environment f.goal.predicate (all_known f.kinds) a is_asked

  -- ---- rules whose premises are among what is asked
  among : (s : ChosenTerms) (kind : Bool) (ps : List Reference) (q : Reference) → In q ps → IsAmong (beside (fact (premise a kind a.reference) s) (read_reference s.slots q)) (map (λ (n : Nested). fact n s) (map (premise a kind) ps))
  among s kind [] q i = absurd (in-nothing q i)
  among s kind (p ∷ ps) q i = by (in-cases q p ps i) (λ j. among s kind ps q j)
    where
      by : (p ≡ q) ⊎ In q ps → (In q ps → IsAmong (beside (fact (premise a kind a.reference) s) (read_reference s.slots q)) (map (λ (n : Nested). fact n s) (map (premise a kind) ps)))
          → IsAmong (beside (fact (premise a kind a.reference) s) (read_reference s.slots q)) (map (λ (n : Nested). fact n s) (map (premise a kind) (p ∷ ps)))
      by (inl e) go = inl (ap (λ z. beside (fact (premise a kind a.reference) s) (read_reference s.slots z)) (sym e))
      by (inr j) go = inr (go j)

  each-among : (s : ChosenTerms) (kind : Bool) (ps qs : List Reference) → ((q : Reference) → In q qs → In q ps) → Every (λ r. IsAmong (beside (fact (premise a kind a.reference) s) r) (map (λ (n : Nested). fact n s) (map (premise a kind) ps))) (map (read_reference s.slots) qs)
  each-among s kind ps [] h = tt
  each-among s kind ps (q ∷ qs) h = (among s kind ps q (h q (here q qs)), each-among s kind ps qs (λ x i. h x (there x q qs i)))

  each-plain : (s : ChosenTerms) (kind : Bool) (ps : List Reference) → Every (IsPlainAt m declared f a is_asked s) ps → Every (λ p. is_plain p ≡ true) (map (λ (n : Nested). fact n s) (map (premise a kind) ps))
  each-plain s kind [] e = tt
  each-plain s kind (p ∷ ps) e = (rw e.0 refl, each-plain s kind ps e.1)

  -- a built-in rule of the instance with premises that are instances of some of these
  pub record BuiltFrom (s : ChosenTerms) (ps : List Reference) : Type 0 where
    pub way : Way
    pub premises : List Reference
    pub asked : (q : Reference) → In q premises → In q ps
    pub rule : In (record { way = way; premises = map (read_reference s.slots) premises }) (built_in_rules V (read_reference s.slots a.reference))

  pub among-sound : (source : CandidateSource) (es : List Equation) (ps : List Reference)
      → ((s : ChosenTerms) → Held m declared f a is_asked s → Every (λ e. EquationIsMet e s) es → BuiltFrom s ps × Every (IsPlainAt m declared f a is_asked s) ps) → IsSoundFor m f a (by_rule V a source es ps)
  among-sound source es ps go y s l e proper plain =
      let x = go s (held m declared f a is_asked s l proper plain) e in
      let kind = is_coinductive V a.reference.trait in
      let u : Rule = record { way = x.0.way; premises = map (read_reference s.slots) x.0.premises } in
      subst (λ g. FactFollows V g (map (λ (n : Nested). fact n s) (map (premise a kind) ps))) (sym (goal-is V f a (is m declared f a is_asked) are [] s l proper kind)) (record {
        asks = refl;
        way = x.0.way;
        references = map (read_reference s.slots) x.0.premises;
        rule =
            in-right u (flat_map (impl_rules (instance s)) V.impls) (built_in_rules V (instance s) ++ clause_rules V (instance s) 0 (clauses_of (Read s a.environment)))
            (in-left u (built_in_rules V (instance s)) (clause_rules V (instance s) 0 (clauses_of (Read s a.environment))) x.0.rule);
        among = each-among s kind ps x.0.premises x.0.asked;
        plain = each-plain s kind ps x.1;
      })

  -- ---- where the rules stand
  in-objects : (s : ChosenTerms) (u : Rule) → In u (object_rules V (instance s) (Read s a.reference.args)) → In u (built_in_rules V (instance s))
  in-objects s u i =
      let sizeds : List Rule = if a.reference.trait == sized then sized_rules V (Read s a.reference.args) else [] in
      let autos : List Rule = if is_auto V a.reference.trait then auto_rules V a.reference.trait (Read s a.reference.args) else [] in
      let unsizes : List Rule = if a.reference.trait == unsize then unsize_rules V (Read s a.reference.args) else [] in
      let objects : List Rule = object_rules V (instance s) (Read s a.reference.args) in
      in-right u (plain_rules (instance s)) (sizeds ++ (autos ++ (unsizes ++ objects))) (in-right u sizeds (autos ++ (unsizes ++ objects)) (in-right u autos (unsizes ++ objects) (in-right u unsizes objects i)))

  trait-declared : is_declared V a.reference.trait ≡ true
  trait-declared = left (is_declared V a.reference.trait) (not (some_node (is_undeclared V) a.reference.args)) (is m declared f a is_asked).written

  -- a bound of the goal's trait whose arguments are equated is read as the goal
  pub met-bound : (r : Reference) → (r.trait == a.reference.trait) ≡ true → is_made is_open_label terms r.args ≡ true → (s : ChosenTerms) → Every (λ e. EquationIsMet e s) (all_equal a.reference.args r.args) → read_reference s.slots r ≡ instance s
  met-bound r q made s e = same-references r.trait a.reference.trait _ _ (same-number r.trait a.reference.trait q) (sym (met-reads s.slots a.reference.args r.args (open-made m declared f a is_asked) made e))

  module _ (erased : BoundsAreErased m.view) (rank : ℕ → ℕ) (down : LeadDown m.view rank) where
    module _ (c o : Trees) (self_is : self_of a ≡ tree dynamic c o) (bounds_made : is_made is_open_label bounds c ≡ true) (read_is : (s : ChosenTerms) → Read s a.reference.args ≡ tree dynamic (Read s c) (Read s o)) where
      abbrev self : Trees
      self = tree dynamic c none

      abbrev ps : List Reference
      ps = principal_with self c

      abbrev qs : List Reference
      qs = autos_with self c

      dyn-plain : (s : ChosenTerms) → Held m declared f a is_asked s → Plain (tree dynamic (Read s c) none)
      dyn-plain s h = head-shut is_unerased dynamic (Read s c) (Read s o) (subst Plain (read_is s) h.plain)

      inner-plain : (s : ChosenTerms) → Held m declared f a is_asked s → Plain (Read s c)
      inner-plain s h = child-shut is_unerased dynamic (Read s c) (Read s o) (subst Plain (read_is s) h.plain)

      ps-are : (s : ChosenTerms) → principal_with (Read s self) (Read s c) ≡ map (read_reference s.slots) ps
      ps-are s = principal-read V declared s.slots is_open_label self c bounds_made

      qs-are : (s : ChosenTerms) → autos_with (Read s self) (Read s c) ≡ map (read_reference s.slots) qs
      qs-are s = autos-read V declared s.slots is_open_label self c bounds_made

      ps-plain : (s : ChosenTerms) → Held m declared f a is_asked s → (p : Reference) → In p ps → PlainRead V declared s.slots p
      ps-plain s h p i =
          member-of IsPlainReference (map (read_reference s.slots) ps) (read_reference s.slots p)
          (subst (Every IsPlainReference) (ps-are s) (principal-plain (Read s self) (Read s c) (dyn-plain s h) (inner-plain s h))) (in-map (read_reference s.slots) ps p i)

      abbrev own_autos : ChosenTerms → List Rule
      own_autos s = if not (a.reference.trait == sized) && list_any (same_reference (instance s)) (map (read_reference s.slots) qs) then row object_auto (strict_supertraits V (instance s)) else []

      abbrev own_principals : ChosenTerms → List Rule
      own_principals s = if not (a.reference.trait == sized) then equal_rows object_principal (strict_supertraits V (instance s)) (instance s) 0 (elaborated V (map (read_reference s.slots) ps)) else []

      module _ (compatible : are_dyn_compatible V ps ≡ true) where
        here-rule : (s : ChosenTerms) (u : Rule) → In u (own_autos s ++ own_principals s) → In u (built_in_rules V (instance s))
        here-rule s u i =
            in-objects s u (subst (λ t. In u (object_rules V (instance s) t)) (sym (read_is s))
            (subst (λ x. In u (object_bound_rules V (instance s) x (autos_with (Read s self) (Read s c)))) (sym (ps-are s))
            (subst (λ x. In u (object_bound_rules V (instance s) (map (read_reference s.slots) ps) x)) (sym (qs-are s))
            (subst (λ (b : Bool). In u (if b then own_autos s ++ own_principals s else [])) (sym tests) i))))
          where
            tests : is_declared V a.reference.trait && are_dyn_compatible V (map (read_reference s.slots) ps) ≡ true
            tests = both (is_declared V a.reference.trait) (are_dyn_compatible V (map (read_reference s.slots) ps)) trait-declared (compatible-same V (map (read_reference s.slots) ps) ps (traits-stay V declared s.slots ps) ∙ compatible)

        -- the supertraits of the goal are asked, each once
        from-rule : (s : ChosenTerms) → Held m declared f a is_asked s → (w : Way) → In (record { way = w; premises = strict_supertraits V (instance s) }) (built_in_rules V (instance s))
            → BuiltFrom s (supertraits V a.reference) × Every (IsPlainAt m declared f a is_asked s) (supertraits V a.reference)
        from-rule s h w i = (
          record {
            way = w;
            premises = strict_supertraits V a.reference;
            asked = λ q j. strict-in-supertraits V rank down a.reference q j;
            rule = subst (λ x. In (record { way = w; premises = x }) (built_in_rules V (instance s))) (strict-open V declared s.slots a.reference h.plain) i;
          },
          supertraits-plain V declared s.slots a.reference h.plain,
        )

        auto-at : not (a.reference.trait == sized) ≡ true → (r : Reference) → In r qs → is_made is_open_label terms r.args ≡ true → (r.trait == a.reference.trait) ≡ true → (s : ChosenTerms) → Held m declared f a is_asked s → Every (λ e. EquationIsMet e s) (all_equal a.reference.args r.args)
            → BuiltFrom s (supertraits V a.reference) × Every (IsPlainAt m declared f a is_asked s) (supertraits V a.reference)
        auto-at unsized r i made q s h e =
            from-rule s h (built_in object_auto) (here-rule s (record { way = built_in object_auto; premises = strict_supertraits V (instance s) })
            (in-left (record { way = built_in object_auto; premises = strict_supertraits V (instance s) }) (own_autos s) (own_principals s)
            (subst (λ (b : Bool). In (record { way = built_in object_auto; premises = strict_supertraits V (instance s) }) (if b then row object_auto (strict_supertraits V (instance s)) else []))
            (sym (both (not (a.reference.trait == sized)) (list_any (same_reference (instance s)) (map (read_reference s.slots) qs)) unsized
            (member-some (same_reference (instance s)) (map (read_reference s.slots) qs) (read_reference s.slots r) (in-map (read_reference s.slots) qs r i) (ap (same_reference (instance s)) (met-bound r q made s e) ∙ same-one (instance s)))))
            (here (record { way = built_in object_auto; premises = strict_supertraits V (instance s) }) []))))

        principal-at : not (a.reference.trait == sized) ≡ true → (r : Reference) → In r (elaborate V ps) → is_made is_open_label terms r.args ≡ true → (r.trait == a.reference.trait) ≡ true
            → (s : ChosenTerms) → Held m declared f a is_asked s → Every (λ e. EquationIsMet e s) (all_equal a.reference.args r.args)
            → BuiltFrom s (supertraits V a.reference) × Every (IsPlainAt m declared f a is_asked s) (supertraits V a.reference)
        principal-at unsized r i made q s h e =
            let stands : In (read_reference s.slots r) (elaborated V (map (read_reference s.slots) ps))
            = subst (In (read_reference s.slots r)) (sym (elaborated-open V declared s.slots ps (ps-plain s h))) (in-map (read_reference s.slots) (elaborated V ps) r (elaborated-only V rank down ps r i)) in
            let x = row-of-equal object_principal (strict_supertraits V (instance s)) (instance s) 0 (elaborated V (map (read_reference s.slots) ps)) (read_reference s.slots r) stands (ap (same_reference (instance s)) (met-bound r q made s e) ∙ same-one (instance s)) in
            from-rule s h x.0 (here-rule s (record { way = x.0; premises = strict_supertraits V (instance s) })
            (in-right (record { way = x.0; premises = strict_supertraits V (instance s) }) (own_autos s) (own_principals s)
            (subst (λ (b : Bool). In (record { way = x.0; premises = strict_supertraits V (instance s) }) (if b then equal_rows object_principal (strict_supertraits V (instance s)) (instance s) 0 (elaborated V (map (read_reference s.slots) ps)) else [])) (sym unsized) x.1)))

        each-bound : (source : ℕ → CandidateSource) (n : ℕ) (rs : List Reference)
            → ((r : Reference) → In r rs → (r.trait == a.reference.trait) ≡ true → (s : ChosenTerms) → Held m declared f a is_asked s → Every (λ e. EquationIsMet e s) (all_equal a.reference.args r.args)
            → BuiltFrom s (supertraits V a.reference) × Every (IsPlainAt m declared f a is_asked s) (supertraits V a.reference))
            → Every (IsSoundFor m f a) (bounds_from V a source n rs)
        each-bound source n [] g = tt
        each-bound source n (r ∷ rs) g = by (can_be a.reference r) refl (each-bound source (suc n) rs (λ x i. g x (there x r rs i)))
          where
            by : (b : Bool) → can_be a.reference r ≡ b → Every (IsSoundFor m f a) (bounds_from V a source (suc n) rs)
                → Every (IsSoundFor m f a) (if b then by_rule V a (source n) (all_equal a.reference.args r.args) (supertraits V a.reference) ∷ bounds_from V a source (suc n) rs else bounds_from V a source (suc n) rs)
            by true q e = (among-sound (source n) (all_equal a.reference.args r.args) (supertraits V a.reference) (g r (here r rs) (left (r.trait == a.reference.trait) (not (are_apart a.reference.args r.args)) q)), e)
            by false q e = e

        self-made : is_made is_open_label terms self ≡ true
        self-made = both (is_made is_open_label bounds c) true bounds_made refl

        autos-made : (b : Trees) → Every (λ (r : Reference). is_made is_open_label terms r.args ≡ true) (autos_with self b)
        autos-made none = tt
        autos-made (tree (auto_trait t) d p) = (self-made, autos-made p)
        autos-made (tree l d p) = autos-made p

        autos-sound : (b : Bool) → not (a.reference.trait == sized) ≡ b → Every (IsSoundFor m f a) (if_so b (bounds_from V a written_source 0 qs))
        autos-sound false q = tt
        autos-sound true u = each-bound written_source 0 qs (λ r i q s h e. auto-at u r i (member-of (λ (r : Reference). is_made is_open_label terms r.args ≡ true) qs r (autos-made c) i) q s h e)

        principals-sound : (b : Bool) → not (a.reference.trait == sized) ≡ b → Every (IsSoundFor m f a) (if_so b (bounds_from V a object_source 0 (elaborate V ps)))
        principals-sound true q =
            each-bound object_source 0 (elaborate V ps)
            (λ r i t s h e. principal-at q r i (member-of (λ (r : Reference). is_made is_open_label terms r.args ≡ true) (elaborate V ps) r (bounds-are-left m declared erased f a is_asked c o self_is) i) t s h e)
        principals-sound false q = tt

      dyn-sound : Every (IsSoundFor m f a) (objects_of V a (tree dynamic c o))
      dyn-sound = by (are_dyn_compatible V ps) refl
        where
          by : (b : Bool) → are_dyn_compatible V ps ≡ b
              → Every (IsSoundFor m f a) (if_so b (if_so (not (a.reference.trait == sized)) (bounds_from V a written_source 0 qs) ++ if_so (not (a.reference.trait == sized)) (bounds_from V a object_source 0 (elaborate V ps))))
          by true q =
              every-append (IsSoundFor m f a) (if_so (not (a.reference.trait == sized)) (bounds_from V a written_source 0 qs)) (if_so (not (a.reference.trait == sized)) (bounds_from V a object_source 0 (elaborate V ps))) (autos-sound q (not (a.reference.trait == sized)) refl)
              (principals-sound q (not (a.reference.trait == sized)) refl)
          by false q = tt

    objects-at : (l : Label) (c o : Trees) → is_rigid l ≡ true → self_of a ≡ tree (erase_label l) c o → is_made is_open_label terms (tree l c o) ≡ true → ((s : ChosenTerms) → Read s a.reference.args ≡ tree (erase_label l) (Read s c) (Read s o))
        → Every (IsSoundFor m f a) (objects_of V a (tree (erase_label l) c o))
    objects-at dynamic c o r e g q = dyn-sound c o e (left (is_made is_open_label bounds c) (is_made is_open_label terms o) g) q
    objects-at (param s i) c o r e g q = absurd (true-false (sym (right (is_sort s of_type) false r)))
    objects-at (placeholder s i) c o r e g q = absurd (true-false (sym (right (is_sort s of_type) false r)))
    objects-at (infer s i) c o r e g q = absurd (true-false (sym (right (is_sort s of_type) false r)))
    objects-at (canonical s i) c o r e g q = absurd (true-false (sym (right (is_sort s of_type) false r)))
    objects-at (bound s k i) c o r e g q = absurd (true-false (sym (right (is_sort s of_type) false r)))
    objects-at l c o r e g q = tt

    of-objects : Unknown a.reference.args ⊎ Rigid a.reference.args → Every (IsSoundFor m f a) (by_objects V a)
    of-objects (inl x) = subst (λ t. Every (IsSoundFor m f a) (objects_of V a (with_plain_head t))) (sym x.is) tt
    of-objects (inr x) =
        let g = subst (λ t. is_made is_open_label terms t ≡ true) x.is (open-made m declared f a is_asked) in
        subst (λ t. Every (IsSoundFor m f a) (objects_of V a (with_plain_head t))) (sym x.is)
        (objects-at x.label x.children x.others x.rigid (ap with_plain_head x.is) g (λ s. ap (Read s) x.is ∙ rigid-read s.slots x.label x.children x.others x.rigid))

    pub objects-sound : Every (IsSoundFor m f a) (by_objects V a)
    objects-sound = of-objects (unknown-or-rigid a.reference.args (is m declared f a is_asked).begins)

pub object-bounds-are-sound : ObjectBoundsAreSound
object-bounds-are-sound m declared erased rank down f a is = objects-sound m declared f a is erased rank down
