-- Upcasts are sound candidates: the target's principal is equated with the source's, or with one of its supertraits.
use Rattle.std.proofs.Common.{◌≡◌, ℕ, suc, ◌==◌, Bool, true, false, ◌&&◌, if◌then◌else◌, List, [], ◌∷◌, ◌++◌, map, ◌⊎◌, inl, inr, refl, sym, ◌∙◌, ap, subst, Some}
use Rattle.type_terms.specs.Promised.Label.{Label, of_type, dynamic, param, placeholder, infer, canonical, bound}
use Rattle.type_terms.specs.Promised.Trees.{Trees, none, tree, erase_label, is_sort}
use Rattle.type_terms.specs.Promised.Worlds.{World, Reference}
use Rattle.type_terms.specs.Promised.Rules.{Rule, Way, built_in, row, unsize, unsize_dyn, unsize_upcast, equal_rows, is_declared, same_reference, built_in_rules, unsize_rules, unsize_array_rules, unsize_to_dyn_rules, unsize_upcast_rules, unsize_struct_rules, upcasts_principal, upcasts_autos, are_declared, principal_with, autos_with, strict_supertraits}
use Rattle.std.specs.List.{list_all}
use Rattle.type_terms.specs.Promised.Proofs.{In}
use Rattle.type_terms.proofs.Members.{here, there, in-left, in-right, in-map, flat-in, same-number}
use Rattle.type_terms.proofs.Fitting.{head-shut, child-shut}
use Rattle.type_terms.proofs.Walking.{left, right, both}
use Rattle.type_terms.specs.Made.{terms, bounds, is_made}
use Rattle.infer_table.specs.Canonical.{CanonicalForm}
use Rattle.goal_evaluator.specs.Lists.{Every}
use Rattle.goal_evaluator.specs.declared.candidate.CandidateSource.{CandidateSource}
use Rattle.goal_evaluator.specs.Instances.{read_with}
use Rattle.goal_evaluator.specs.Content.{given, ChosenTerms}
use Rattle.goal_evaluator.specs.FrameTables.{Equation, EquationIsMet, is_open_label}
use Rattle.candidate_model.specs.Facts.{is_unerased}
use Rattle.declarations.specs.Promised.Elaboration.{supertraits, elaborate}
use Rattle.candidate_model.specs.Meaning.{ViewMeaning}
use Rattle.candidate_model.specs.Declared.{is_declared_view, BoundsAreErased}
use Rattle.candidate_model.specs.Asking.{GoalOverKinds, goal_over_kinds, is_rigid, self_of, with_plain_head}
use Rattle.candidate_model.specs.Candidates.{by_rule, all_equal, misc, if_so, upcast_source, upcasts_from, upcasts_to, upcasts_of}
use Rattle.candidate_model.specs.Cover.{read_reference}
use Rattle.candidate_model.specs.Lawful.{IsSoundFor, UpcastsAreSound}
use Rattle.candidate_model.proofs.ByView.{rigid-read}
use Rattle.candidate_model.specs.Declared.{LeadDown}
use Rattle.candidate_model.proofs.Stack.{elaborated-all, supertraits-only}
use Rattle.candidate_model.proofs.Unsizing.{all-declared, principal-read, autos-read, traits-stay}
use Rattle.candidate_model.proofs.Upcasts.{autos-same}
use Rattle.candidate_model.proofs.BoundTerms.{bounds-are-left}
use Rattle.candidate_model.proofs.EquationTerms.{principal-terms}
use Rattle.candidate_model.proofs.Moving.{met-reads}
use Rattle.candidate_model.proofs.PlainRules.{Plain, IsPlainReference}
use Rattle.candidate_model.proofs.SoundRows.{Unknown, Rigid, unknown-or-rigid, Held, is, rule-sound, in-unsizes}
use Rattle.candidate_model.proofs.SoundCalls.{open-made}
use Rattle.candidate_model.proofs.SoundImpls.{same-one}
use Rattle.candidate_model.proofs.SoundObjects.{member-of, row-of-equal}
use Rattle.candidate_model.proofs.OpenLevels.{PlainRead, strict-open, principal-plain}
use Rattle.type_terms.proofs.BooleanBasics.{true-false}
use Rattle.type_terms.proofs.TermBasics.{same-references}

module _ (m : ViewMeaning) (declared : is_declared_view m.view ≡ true) (erased : BoundsAreErased m.view) (rank : ℕ → ℕ) (down : LeadDown m.view rank) (f : CanonicalForm) (a : GoalOverKinds) (is_asked : goal_over_kinds m.view f ≡ Some a) where
  abbrev V : World
  V = m.view

  abbrev Read : ChosenTerms → Trees → Trees
  Read s t = read_with (given s.slots) t

  abbrev Alone : Way → Rule
  Alone w = record { way = w; premises = [] }

  module _ (is_unsize : (a.reference.trait == unsize) ≡ true) where
    of-upcasts : (s : ChosenTerms) (u : Rule) → In u (unsize_upcast_rules V (Read s a.reference.args)) → In u (built_in_rules V (read_reference s.slots a.reference))
    of-upcasts s u i =
        let t = Read s a.reference.args in
        in-unsizes m declared f a is_asked s u (subst (λ (b : Bool). In u (if b then unsize_rules V t else [])) (sym is_unsize)
        (in-right u (unsize_array_rules t) (unsize_to_dyn_rules V t ++ (unsize_upcast_rules V t ++ unsize_struct_rules V t))
        (in-right u (unsize_to_dyn_rules V t) (unsize_upcast_rules V t ++ unsize_struct_rules V t) (in-left u (unsize_upcast_rules V t) (unsize_struct_rules V t) i))))

    module _ (c d o : Trees) (self_is : self_of a ≡ tree dynamic c (tree dynamic d o)) (from_made : is_made is_open_label bounds c ≡ true) (to_made : is_made is_open_label bounds d ≡ true)
        (read_is : (s : ChosenTerms) → Read s a.reference.args ≡ tree dynamic (Read s c) (tree dynamic (Read s d) (Read s o))) where
      abbrev self : Trees
      self = tree dynamic c none

      abbrev ps : List Reference
      ps = principal_with self c

      abbrev qs : List Reference
      qs = principal_with self d

      abbrev written : List Reference
      written = autos_with self c

      abbrev wanted : List Reference
      wanted = autos_with self d

      abbrev at : ChosenTerms → List Reference → List Reference
      at s rs = map (read_reference s.slots) rs

      ps-plain : (s : ChosenTerms) → Held m declared f a is_asked s → (p : Reference) → In p ps → PlainRead V declared s.slots p
      ps-plain s h p i =
          let whole = subst Plain (read_is s) h.plain in
          member-of IsPlainReference (at s ps) (read_reference s.slots p)
          (subst (Every IsPlainReference) (principal-read V declared s.slots is_open_label self c from_made)
          (principal-plain (Read s self) (Read s c) (head-shut is_unerased dynamic (Read s c) (tree dynamic (Read s d) (Read s o)) whole) (child-shut is_unerased dynamic (Read s c) (tree dynamic (Read s d) (Read s o)) whole)))
          (in-map (read_reference s.slots) ps p i)

      self-made : is_made is_open_label terms self ≡ true
      self-made = both (is_made is_open_label bounds c) true from_made refl

      elaborated-made : Every (λ (r : Reference). is_made is_open_label terms r.args ≡ true) (elaborate V ps)
      elaborated-made = bounds-are-left m declared erased f a is_asked c (tree dynamic d o) self_is

      -- a principal trait with its supertraits has made terms
      level-made : (p r : Reference) → In p ps → In r (p ∷ strict_supertraits V p) → is_made is_open_label terms r.args ≡ true
      level-made p r i j =
          member-of (λ (r : Reference). is_made is_open_label terms r.args ≡ true) (elaborate V ps) r elaborated-made (elaborated-all V rank down ps r (flat-in (λ x. x ∷ strict_supertraits V x) ps p r i j))

      module _ (tests : are_declared V ps && upcasts_autos V ps written wanted ≡ true) where
        here-rule : (s : ChosenTerms) (u : Rule) → In u (upcasts_principal V (at s ps) (at s qs)) → In u (built_in_rules V (read_reference s.slots a.reference))
        here-rule s u i =
            let w = at s written in
            let b = at s wanted in
            of-upcasts s u (subst (λ t. In u (unsize_upcast_rules V t)) (sym (read_is s))
            (subst (λ x. In u (if are_declared V x && upcasts_autos V x (autos_with (Read s self) (Read s c)) (autos_with (Read s self) (Read s d)) then upcasts_principal V x (principal_with (Read s self) (Read s d)) else [])) (sym (principal-read V declared s.slots is_open_label self c from_made))
            (subst (λ x. In u (if are_declared V (at s ps) && upcasts_autos V (at s ps) x (autos_with (Read s self) (Read s d)) then upcasts_principal V (at s ps) (principal_with (Read s self) (Read s d)) else [])) (sym (autos-read V declared s.slots is_open_label self c from_made))
            (subst (λ x. In u (if are_declared V (at s ps) && upcasts_autos V (at s ps) w x then upcasts_principal V (at s ps) (principal_with (Read s self) (Read s d)) else [])) (sym (autos-read V declared s.slots is_open_label self d to_made))
            (subst (λ x. In u (if are_declared V (at s ps) && upcasts_autos V (at s ps) w b then upcasts_principal V (at s ps) x else [])) (sym (principal-read V declared s.slots is_open_label self d to_made))
            (subst (λ (x : Bool). In u (if x then upcasts_principal V (at s ps) (at s qs) else [])) (sym passed) i))))))
          where
            passed : are_declared V (at s ps) && upcasts_autos V (at s ps) (at s written) (at s wanted) ≡ true
            passed =
                both (are_declared V (at s ps)) (upcasts_autos V (at s ps) (at s written) (at s wanted))
                (all-declared V (at s ps) ∙ ap (list_all (is_declared V)) (traits-stay V declared s.slots ps) ∙ sym (all-declared V ps) ∙ left (are_declared V ps) (upcasts_autos V ps written wanted) tests)
                (autos-same V (at s ps) (at s written) (at s wanted) ps written wanted (traits-stay V declared s.slots ps) (traits-stay V declared s.slots written) (traits-stay V declared s.slots wanted)
                ∙ right (are_declared V ps) (upcasts_autos V ps written wanted) tests)

        alone-sound : (source : CandidateSource) (es : List Equation) → ((s : ChosenTerms) → Held m declared f a is_asked s → Every (λ e. EquationIsMet e s) es → (w : Way) × In (Alone w) (upcasts_principal V (at s ps) (at s qs))) → IsSoundFor m f a (by_rule V a source es [])
        alone-sound source es go = rule-sound m declared f a is_asked source es [] (λ s h e. let x = go s h e in (x.0, here-rule s (Alone x.0) x.1, tt))

        -- equated references of one trait are read as one
        met : (p q : Reference) → (p.trait == q.trait) ≡ true → is_made is_open_label terms p.args ≡ true → is_made is_open_label terms q.args ≡ true → (s : ChosenTerms) → Every (λ e. EquationIsMet e s) (all_equal p.args q.args)
            → read_reference s.slots p ≡ read_reference s.slots q
        met p q t g h s e = same-references p.trait q.trait _ _ (same-number p.trait q.trait t) (met-reads s.slots p.args q.args g h e)

        to-supers : (p q : Reference) (ps' qs' : List Reference) → ps ≡ p ∷ ps' → qs ≡ q ∷ qs' → (p.trait == q.trait) ≡ false → is_made is_open_label terms q.args ≡ true → (n : ℕ) (rs : List Reference) → ((r : Reference) → In r rs → In r (supertraits V p))
            → Every (IsSoundFor m f a) (upcasts_from V a q n rs)
        to-supers p q ps' qs' pe qe t g n [] i = tt
        to-supers p q ps' qs' pe qe t g n (r ∷ rs) i = by (r.trait == q.trait) refl (to-supers p q ps' qs' pe qe t g (suc n) rs (λ x j. i x (there x r rs j)))
          where
            own : In p ps
            own = subst (In p) (sym pe) (here p ps')

            strict : In r (strict_supertraits V p)
            strict = supertraits-only V rank down p r (i r (here r rs))

            upcast : (r.trait == q.trait) ≡ true → (s : ChosenTerms) → Held m declared f a is_asked s → Every (λ e. EquationIsMet e s) (all_equal r.args q.args) → (w : Way) × In (Alone w) (upcasts_principal V (at s ps) (at s qs))
            upcast b s h e =
                let x = row-of-equal unsize_upcast [] (read_reference s.slots q) 1 (strict_supertraits V (read_reference s.slots p)) (read_reference s.slots r)
                (subst (In (read_reference s.slots r)) (sym (strict-open V declared s.slots p (ps-plain s h p own))) (in-map (read_reference s.slots) (strict_supertraits V p) r strict))
                (ap (same_reference (read_reference s.slots q)) (met r q b (level-made p r own (there r p (strict_supertraits V p) strict)) g s e) ∙ same-one (read_reference s.slots q)) in (
                  x.0,
                  subst (λ ps. In (Alone x.0) (upcasts_principal V (at s ps) (at s qs))) (sym pe)
                      (subst (λ qs. In (Alone x.0) (upcasts_principal V (at s (p ∷ ps')) (at s qs))) (sym qe)
                      (subst (λ (b : Bool). In (Alone x.0) (if b then (if same_reference (read_reference s.slots p) (read_reference s.slots q) then row unsize_dyn [] else []) else equal_rows unsize_upcast [] (read_reference s.slots q) 1 (strict_supertraits V (read_reference s.slots p)))) (sym t) x.1)),
                )

            by : (b : Bool) → (r.trait == q.trait) ≡ b → Every (IsSoundFor m f a) (upcasts_from V a q (suc n) rs)
                → Every (IsSoundFor m f a) (if b then by_rule V a (upcast_source n) (all_equal r.args q.args) [] ∷ upcasts_from V a q (suc n) rs else upcasts_from V a q (suc n) rs)
            by true b e = (alone-sound (upcast_source n) (all_equal r.args q.args) (upcast b), e)
            by false b e = e

        kept : (p q : Reference) (ps' qs' : List Reference) → ps ≡ p ∷ ps' → qs ≡ q ∷ qs' → (p.trait == q.trait) ≡ true → is_made is_open_label terms q.args ≡ true → IsSoundFor m f a (by_rule V a misc (all_equal p.args q.args) [])
        kept p q ps' qs' pe qe t g = alone-sound misc (all_equal p.args q.args) go
          where
            own : In p ps
            own = subst (In p) (sym pe) (here p ps')

            go : (s : ChosenTerms) → Held m declared f a is_asked s → Every (λ e. EquationIsMet e s) (all_equal p.args q.args) → (w : Way) × In (Alone w) (upcasts_principal V (at s ps) (at s qs))
            go s h e = (
              built_in unsize_dyn,
              subst (λ ps. In (Alone (built_in unsize_dyn)) (upcasts_principal V (at s ps) (at s qs))) (sym pe)
                  (subst (λ qs. In (Alone (built_in unsize_dyn)) (upcasts_principal V (at s (p ∷ ps')) (at s qs))) (sym qe)
                  (subst (λ (b : Bool). In (Alone (built_in unsize_dyn)) (if b then (if same_reference (read_reference s.slots p) (read_reference s.slots q) then row unsize_dyn [] else []) else equal_rows unsize_upcast [] (read_reference s.slots q) 1 (strict_supertraits V (read_reference s.slots p)))) (sym t)
                  (subst (λ (b : Bool). In (Alone (built_in unsize_dyn)) (if b then row unsize_dyn [] else []))
                  (sym (ap (λ z. same_reference z (read_reference s.slots q)) (met p q t (level-made p p own (here p (strict_supertraits V p))) g s e) ∙ same-one (read_reference s.slots q))) (here (Alone (built_in unsize_dyn)) [])))),
            )

        dropped : qs ≡ [] → IsSoundFor m f a (by_rule V a misc [] [])
        dropped qe = alone-sound misc [] (λ s h e. (built_in unsize_dyn, subst (λ qs. In (Alone (built_in unsize_dyn)) (upcasts_principal V (at s ps) (at s qs))) (sym qe) (here (Alone (built_in unsize_dyn)) [])))

        to-principal : (ps' qs' : List Reference) → ps ≡ ps' → qs ≡ qs' → Every (λ (r : Reference). is_made is_open_label terms r.args ≡ true) qs' → Every (IsSoundFor m f a) (upcasts_to V a ps' qs')
        to-principal ps' [] pe qe g = (dropped qe, tt)
        to-principal [] (q ∷ qs') pe qe g = tt
        to-principal (p ∷ ps') (q ∷ qs') pe qe g = by (p.trait == q.trait) refl
          where
            by : (b : Bool) → (p.trait == q.trait) ≡ b → Every (IsSoundFor m f a) (if b then by_rule V a misc (all_equal p.args q.args) [] ∷ [] else upcasts_from V a q 1 (supertraits V p))
            by true t = (kept p q ps' qs' pe qe t g.0, tt)
            by false t = to-supers p q ps' qs' pe qe t g.0 1 (supertraits V p) (λ r i. i)

      upcast-sound : Every (IsSoundFor m f a) (upcasts_of V a (tree dynamic c (tree dynamic d o)))
      upcast-sound = by (are_declared V ps && upcasts_autos V ps written wanted) refl
        where
          by : (b : Bool) → (are_declared V ps && upcasts_autos V ps written wanted) ≡ b → Every (IsSoundFor m f a) (if_so b (upcasts_to V a ps qs))
          by true t = to-principal t ps qs refl refl (principal-terms self d self-made to_made)
          by false t = tt

    upcasts-at : (l : Label) (c o : Trees) → is_rigid l ≡ true → self_of a ≡ tree (erase_label l) c o → is_made is_open_label terms (tree l c o) ≡ true → ((s : ChosenTerms) → Read s a.reference.args ≡ tree (erase_label l) (Read s c) (Read s o))
        → Every (IsSoundFor m f a) (upcasts_of V a (tree (erase_label l) c o))
    upcasts-at dynamic c none r e g q = tt
    upcasts-at dynamic c (tree dynamic d o) r e g q =
        let h = right (is_made is_open_label bounds c) (is_made is_open_label terms (tree dynamic d o)) g in
        upcast-sound c d o e (left (is_made is_open_label bounds c) (is_made is_open_label terms (tree dynamic d o)) g) (left (is_made is_open_label bounds d) (is_made is_open_label terms o) h) q
    upcasts-at dynamic c (tree k d o) r e g q = tt
    upcasts-at (param s i) c o r e g q = absurd (true-false (sym (right (is_sort s of_type) false r)))
    upcasts-at (placeholder s i) c o r e g q = absurd (true-false (sym (right (is_sort s of_type) false r)))
    upcasts-at (infer s i) c o r e g q = absurd (true-false (sym (right (is_sort s of_type) false r)))
    upcasts-at (canonical s i) c o r e g q = absurd (true-false (sym (right (is_sort s of_type) false r)))
    upcasts-at (bound s k i) c o r e g q = absurd (true-false (sym (right (is_sort s of_type) false r)))
    upcasts-at l c o r e g q = tt

    of-upcast : Unknown a.reference.args ⊎ Rigid a.reference.args → Every (IsSoundFor m f a) (upcasts_of V a (self_of a))
    of-upcast (inl x) = subst (λ t. Every (IsSoundFor m f a) (upcasts_of V a (with_plain_head t))) (sym x.is) tt
    of-upcast (inr x) =
        let g = subst (λ t. is_made is_open_label terms t ≡ true) x.is (open-made m declared f a is_asked) in
        subst (λ t. Every (IsSoundFor m f a) (upcasts_of V a (with_plain_head t))) (sym x.is)
        (upcasts-at x.label x.children x.others x.rigid (ap with_plain_head x.is) g (λ s. ap (Read s) x.is ∙ rigid-read s.slots x.label x.children x.others x.rigid))

    pub upcasts-sound : Every (IsSoundFor m f a) (upcasts_of V a (self_of a))
    upcasts-sound = of-upcast (unknown-or-rigid a.reference.args (is m declared f a is_asked).begins)

  each-upcast : Every (IsSoundFor m f a) (if_so (a.reference.trait == unsize) (upcasts_of V a (self_of a)))
  each-upcast = by (a.reference.trait == unsize) refl
    where
      by : (b : Bool) → (a.reference.trait == unsize) ≡ b → Every (IsSoundFor m f a) (if_so b (upcasts_of V a (self_of a)))
      by true q = upcasts-sound q
      by false q = tt

pub upcasts-are-sound : UpcastsAreSound
upcasts-are-sound m declared erased rank down f a is = each-upcast m declared erased rank down f a is
