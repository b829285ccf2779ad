-- `dyn A: Unsize<dyn B>`: a rule of an instance is a candidate.
use Rattle.std.proofs.Common.{◌≡◌, ℕ, suc, Bool, true, false, ◌&&◌, ◌||◌, ◌==◌, if◌then◌else◌, List, [], ◌∷◌, ◌++◌, map, length, ◌⊎◌, inl, inr, refl, sym, ◌∙◌, ap, subst}
use Rattle.std.specs.List.{list_all, list_any}
use Rattle.type_terms.specs.Promised.Label.{Label, dynamic}
use Rattle.type_terms.specs.Promised.Trees.{Trees, none, tree}
use Rattle.type_terms.specs.Promised.Worlds.{World, Reference}
use Rattle.type_terms.specs.Promised.Rules.{Rule, same_reference, is_declared, are_declared, principal_with, autos_with, elaborated, strict_supertraits, upcasts_principal, upcasts_autos, unsize_upcast_rules}
use Rattle.type_terms.specs.Promised.Proofs.{In}
use Rattle.type_terms.specs.Promised.Answers.{is_open}
use Rattle.type_terms.proofs.Members.{here, there, in-nothing, in-cases, in-left, in-map, self-number}
use Rattle.type_terms.proofs.ProofEntries.{map-in}
use Rattle.type_terms.proofs.Fitting.{same-reference-sound, child-shut}
use Rattle.type_terms.proofs.OpenWorld.{was-true}
use Rattle.type_terms.proofs.Walking.{left, right}
use Rattle.type_terms.specs.Made.{bounds}
use Rattle.type_terms.specs.Made.{is_made}
use Rattle.goal_evaluator.specs.Lists.{SomeOf}
use Rattle.goal_evaluator.specs.Instances.{read_with}
use Rattle.goal_evaluator.specs.Content.{Values, given}
use Rattle.candidate_model.specs.Declared.{is_declared_view}
use Rattle.declarations.specs.Promised.Elaboration.{supertraits}
use Rattle.candidate_model.specs.Asking.{GoalOverKinds}
use Rattle.candidate_model.specs.Candidates.{by_rule, all_equal, misc, if_so, upcast_source, upcasts_from, upcasts_to, upcasts_of}
use Rattle.candidate_model.specs.Cover.{slots, SolvesEquations, read_reference}
use Rattle.candidate_model.proofs.Unsizing.{traits_of, map-append, spread-same, within-same, all-declared, principal-read, autos-read, traits-stay}
use Rattle.candidate_model.proofs.Impls.{pairwise}
use Rattle.candidate_model.proofs.Calls.{gives-equal}
use Rattle.candidate_model.proofs.EqualRows.{IsOneOf, IsUpcast, upcast-by-rows}
use Rattle.candidate_model.specs.Declared.{LeadDown}
use Rattle.candidate_model.proofs.Stack.{elaborated-all}
use Rattle.candidate_model.proofs.Instances.{Shut}
use Rattle.candidate_model.proofs.Objects.{BoundsArePlain, strict-read, principal-shut, dyn-shut}
use Rattle.type_terms.proofs.BooleanBasics.{true-false}

-- ---- auto traits are compared by name alone
any-named : (t : ℕ) (rs : List Reference) → list_any (λ (q : Reference). q.trait == t) rs ≡ list_any (λ j. j == t) (traits_of rs)
any-named t [] = refl
any-named t (r ∷ rs) = ap (λ b. (r.trait == t) || b) (any-named t rs)

all-named : (rs bs : List Reference) → list_all (λ (b : Reference). list_any (λ (q : Reference). q.trait == b.trait) rs) bs ≡ list_all (λ t. list_any (λ j. j == t) (traits_of rs)) (traits_of bs)
all-named rs [] = refl
all-named rs (b ∷ bs) =
    ap (λ p. p && list_all (λ (b : Reference). list_any (λ (q : Reference). q.trait == b.trait) rs) bs) (any-named b.trait rs)
    ∙ ap (λ p. list_any (λ j. j == b.trait) (traits_of rs) && p) (all-named rs bs)

pub autos-same : (V : World) (ps qs bs ps' qs' bs' : List Reference) → traits_of ps ≡ traits_of ps' → traits_of qs ≡ traits_of qs' → traits_of bs ≡ traits_of bs' → upcasts_autos V ps qs bs ≡ upcasts_autos V ps' qs' bs'
autos-same V ps qs bs ps' qs' bs' e f g =
    all-named (qs ++ elaborated V ps) bs
    ∙ ap (λ ts. list_all (λ t. list_any (λ j. j == t) (traits_of (qs ++ elaborated V ps))) ts) g
    ∙ ap (λ js. list_all (λ t. list_any (λ j. j == t) js) (traits_of bs')) (both ∙ sym (map-append (λ (r : Reference). r.trait) qs' (elaborated V ps')))
    ∙ sym (all-named (qs' ++ elaborated V ps') bs')
  where
    both : traits_of (qs ++ elaborated V ps) ≡ traits_of qs' ++ traits_of (elaborated V ps')
    both =
        map-append (λ (r : Reference). r.trait) qs (elaborated V ps)
        ∙ ap (λ z. z ++ traits_of (elaborated V ps)) f
        ∙ ap (λ z. traits_of qs' ++ z) (spread-same (strict_supertraits V) (strict_supertraits V) (λ x y q. within-same (length V.traits) V x y q) ps ps' e)

module _ (H : Reference → Type 0) (V : World) (declared : is_declared_view V ≡ true) (plain : BoundsArePlain V) (rank : ℕ → ℕ) (down : LeadDown V rank) (a : GoalOverKinds) (v : Values) where
  abbrev ys : List Trees
  ys = slots a.kinds v []

  -- a supertrait that is read as the target's principal gives the candidate
  from-super : (q : Reference) (i : ℕ) (rs : List Reference) (t : Reference) → In t rs → read_reference ys t ≡ read_reference ys q → SomeOf (SolvesEquations H a.kinds v) (upcasts_from V a q i rs)
  from-super q i [] t j e = absurd (in-nothing t j)
  from-super q i (r ∷ rs) t j e = by (r.trait == q.trait) refl (in-cases t r rs j) (λ k g. from-super q k rs t g e)
    where
      by : (b : Bool) → (r.trait == q.trait) ≡ b → (r ≡ t) ⊎ In t rs → ((k : ℕ) → In t rs → SomeOf (SolvesEquations H a.kinds v) (upcasts_from V a q k rs))
          → SomeOf (SolvesEquations H a.kinds v) (if b then by_rule V a (upcast_source i) (all_equal r.args q.args) [] ∷ upcasts_from V a q (suc i) rs else upcasts_from V a q (suc i) rs)
      by true f (inl g) go =
          inl (gives-equal H V a v (upcast_source i) (all_equal r.args q.args) [] (pairwise ys r.args q.args (ap (λ (z : Reference). z.args) (ap (read_reference ys) g ∙ e))) tt)
      by true f (inr g) go = inr (go (suc i) g)
      by false f (inl g) go = absurd (true-false (sym (self-number q.trait) ∙ ap (λ z. z == q.trait) (sym (ap (λ (z : Reference). z.trait) (ap (read_reference ys) g ∙ e))) ∙ f))
      by false f (inr g) go = go (suc i) g

  -- the supertraits without repeats lose none but the reference itself
  in-supers : (p t : Reference) → In t (strict_supertraits V p) → (p ≡ t) ⊎ In t (supertraits V p)
  in-supers p t i = in-cases t p (supertraits V p) (elaborated-all V rank down (p ∷ []) t (in-left t (p ∷ strict_supertraits V p) [] (there t p (strict_supertraits V p) i)))

  to-principal : (ps qs : List Reference) → ((p : Reference) → In p ps → Shut (read_with (given ys) p.args)) → IsUpcast V (map (read_reference ys) ps) (map (read_reference ys) qs) → SomeOf (SolvesEquations H a.kinds v) (upcasts_to V a ps qs)
  to-principal ps [] h e = inl (gives-equal H V a v misc [] [] tt tt)
  to-principal [] (q ∷ qs) h e = absurd e
  to-principal (p ∷ ps) (q ∷ qs) h e = by e
    where
      Candidates : Bool → Type 0
      Candidates b = SomeOf (SolvesEquations H a.kinds v) (if b then by_rule V a misc (all_equal p.args q.args) [] ∷ [] else upcasts_from V a q 1 (supertraits V p))

      not-own : (t : Reference) → (p.trait == q.trait) ≡ false → read_reference ys t ≡ read_reference ys q → (p ≡ t) ⊎ In t (supertraits V p) → In t (supertraits V p)
      not-own t f g (inl k) =
          absurd (true-false (sym (self-number q.trait) ∙ ap (λ z. z == q.trait) (sym (ap (λ (z : Reference). z.trait) (ap (read_reference ys) k ∙ g))) ∙ f))
      not-own t f g (inr k) = k

      by : (((p.trait == q.trait) ≡ true) × (same_reference (read_reference ys p) (read_reference ys q) ≡ true)) ⊎ (((p.trait == q.trait) ≡ false) × IsOneOf (read_reference ys q) (strict_supertraits V (read_reference ys p)))
          → SomeOf (SolvesEquations H a.kinds v) (if p.trait == q.trait then by_rule V a misc (all_equal p.args q.args) [] ∷ [] else upcasts_from V a q 1 (supertraits V p))
      by (inl g) =
          subst Candidates (sym g.0)
          (inl (gives-equal H V a v misc (all_equal p.args q.args) [] (pairwise ys p.args q.args (ap (λ (z : Reference). z.args) (same-reference-sound (read_reference ys p) (read_reference ys q) g.1))) tt))
      by (inr g) =
          let s = g.1 in
          let m = map-in (read_reference ys) (strict_supertraits V p) s.0 (subst (In s.0) (strict-read V declared plain ys p (h p (here p ps))) s.1) in
          let is = m.2 ∙ sym (same-reference-sound (read_reference ys q) s.0 s.2) in
          subst Candidates (sym g.0) (from-super q 1 (supertraits V p) m.0 (not-own m.0 g.0 is (in-supers p m.0 m.1)) is)

  -- the tests of the row, at the instance
  record Tests (c d : Trees) : Type 0 where
    are : are_declared V (principal_with (tree dynamic (read_with (given ys) c) none) (read_with (given ys) c)) ≡ true
    autos : upcasts_autos V (principal_with (tree dynamic (read_with (given ys) c) none) (read_with (given ys) c)) (autos_with (tree dynamic (read_with (given ys) c) none) (read_with (given ys) c)) (autos_with (tree dynamic (read_with (given ys) c) none) (read_with (given ys) d)) ≡ true
    principal : IsUpcast V (principal_with (tree dynamic (read_with (given ys) c) none) (read_with (given ys) c)) (principal_with (tree dynamic (read_with (given ys) c) none) (read_with (given ys) d))

  tests-of : (c d o : Trees) (u : Rule) → In u (unsize_upcast_rules V (tree dynamic (read_with (given ys) c) (tree dynamic (read_with (given ys) d) (read_with (given ys) o)))) → Tests c d
  tests-of c d o u i =
      let self = tree dynamic (read_with (given ys) c) none in
      let p = principal_with self (read_with (given ys) c) in
      let q = principal_with self (read_with (given ys) d) in
      let written = autos_with self (read_with (given ys) c) in
      let w = was-true (are_declared V p && upcasts_autos V p written (autos_with self (read_with (given ys) d))) (upcasts_principal V p q) u i in
      record {
        are = left (are_declared V p) (upcasts_autos V p written (autos_with self (read_with (given ys) d))) w.0;
        autos = right (are_declared V p) (upcasts_autos V p written (autos_with self (read_with (given ys) d))) w.0;
        principal = upcast-by-rows V p q u w.1;
      }

  -- the row of upcasts
  upcasts-dyn : (good : Label → Bool) (c d o : Trees) → is_made good bounds c ≡ true → is_made good bounds d ≡ true → Shut (tree dynamic (read_with (given ys) c) (tree dynamic (read_with (given ys) d) (read_with (given ys) o)))
      → Tests c d → SomeOf (SolvesEquations H a.kinds v) (upcasts_of V a (tree dynamic c (tree dynamic d o)))
  upcasts-dyn good c d o made target shut t = subst (λ b. SomeOf (SolvesEquations H a.kinds v) (if_so b (upcasts_to V a ps qs))) (sym test) (to-principal ps qs ps-shut principal)
    where
      self : Trees
      self = tree dynamic c none

      ps : List Reference
      ps = principal_with self c

      qs : List Reference
      qs = principal_with self d

      written : List Reference
      written = autos_with self c

      bs : List Reference
      bs = autos_with self d

      p-is : principal_with (read_with (given ys) self) (read_with (given ys) c) ≡ map (read_reference ys) ps
      p-is = principal-read V declared ys good self c made

      q-is : principal_with (read_with (given ys) self) (read_with (given ys) d) ≡ map (read_reference ys) qs
      q-is = principal-read V declared ys good self d target

      principal : IsUpcast V (map (read_reference ys) ps) (map (read_reference ys) qs)
      principal = subst (λ x. IsUpcast V x (map (read_reference ys) qs)) p-is (subst (λ x. IsUpcast V (principal_with (read_with (given ys) self) (read_with (given ys) c)) x) q-is t.principal)

      both : (x y : Bool) → x ≡ true → y ≡ true → x && y ≡ true
      both x y p q = rw (p, q) refl

      -- lists that are read have the same traits
      kept : (rs zs : List Reference) → zs ≡ map (read_reference ys) rs → traits_of rs ≡ traits_of zs
      kept rs zs e = sym (traits-stay V declared ys rs) ∙ ap traits_of (sym e)

      test : are_declared V ps && upcasts_autos V ps written bs ≡ true
      test =
          both (are_declared V ps) (upcasts_autos V ps written bs)
          (all-declared V ps ∙ ap (list_all (is_declared V)) (kept ps _ p-is) ∙ sym (all-declared V (principal_with (read_with (given ys) self) (read_with (given ys) c))) ∙ t.are)
          (autos-same V ps written bs (principal_with (read_with (given ys) self) (read_with (given ys) c)) (autos_with (read_with (given ys) self) (read_with (given ys) c)) (autos_with (read_with (given ys) self) (read_with (given ys) d))
          (kept ps _ p-is) (kept written _ (autos-read V declared ys good self c made)) (kept bs _ (autos-read V declared ys good self d target))
          ∙ t.autos)

      ps-shut : (p : Reference) → In p ps → Shut (read_with (given ys) p.args)
      ps-shut p j =
          principal-shut (read_with (given ys) self) (read_with (given ys) c) (read_reference ys p) (dyn-shut (read_with (given ys) c) (tree dynamic (read_with (given ys) d) (read_with (given ys) o)) shut)
          (child-shut is_open dynamic (read_with (given ys) c) (tree dynamic (read_with (given ys) d) (read_with (given ys) o)) shut) (subst (In (read_reference ys p)) (sym p-is) (in-map (read_reference ys) ps p j))

  pub upcasts-at : (good : Label → Bool) (k : Label) (c d o : Trees) → (k ≡ dynamic → is_made good bounds c ≡ true) → is_made good bounds d ≡ true
      → Shut (tree k (read_with (given ys) c) (tree dynamic (read_with (given ys) d) (read_with (given ys) o)))
      → (u : Rule) → In u (unsize_upcast_rules V (tree k (read_with (given ys) c) (tree dynamic (read_with (given ys) d) (read_with (given ys) o)))) → SomeOf (SolvesEquations H a.kinds v) (upcasts_of V a (tree k c (tree dynamic d o)))
  upcasts-at good dynamic c d o made target shut u i = upcasts-dyn good c d o (made refl) target shut (tests-of c d o u i)
  upcasts-at good k c d o made target shut u i = absurd (in-nothing u i)

  -- another target has no such rule
  pub upcasts-other : (k : Label) (c : Trees) (m : Label) (d p : Trees) (u : Rule) → In u (unsize_upcast_rules V (tree k c (tree m d p))) → m ≡ dynamic
  upcasts-other dynamic c dynamic d p u i = refl
  upcasts-other dynamic c m d p u i = absurd (in-nothing u i)
  upcasts-other k c m d p u i = absurd (in-nothing u i)
