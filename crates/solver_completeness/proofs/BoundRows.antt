-- The candidates for object bounds and for upcasts of a `dyn` are the rule instances by these rules.
use Rattle.std.proofs.Common.{◌≡◌, ◌⊎◌, inl, inr, ℕ, ◌==◌, Bool, true, false, not, ◌&&◌, if◌then◌else◌, List, [], ◌∷◌, ◌++◌, map, refl, sym, ◌∙◌, ap, subst, Some}
use Rattle.std.specs.List.{list_all, list_any}
use Rattle.type_terms.specs.Promised.Label.{Label, of_type, dynamic, auto_trait, param, placeholder, infer, canonical, bound}
use Rattle.type_terms.specs.Promised.Trees.{Trees, none, tree, erase_label, is_sort, some_node}
use Rattle.type_terms.specs.Codes.{same}
use Rattle.type_terms.specs.Promised.Worlds.{World, Reference}
use Rattle.type_terms.specs.Promised.Rules.{Rule, row, sized, unsize, unsize_dyn, unsize_upcast, object_auto, object_principal, equal_rows, same_reference, is_declared, are_declared, are_dyn_compatible, principal_with, autos_with, elaborated, strict_supertraits, upcasts_principal, upcasts_autos, unsize_upcast_rules, object_bound_rules, object_rules}
use Rattle.type_terms.specs.Promised.Proofs.{In}
use Rattle.type_terms.specs.Promised.Answers.{is_undeclared}
use Rattle.type_terms.proofs.Members.{here, there, in-map, flat-in}
use Rattle.type_terms.proofs.Fitting.{head-shut, child-shut}
use Rattle.type_terms.proofs.Walking.{left, right, both}
use Rattle.type_terms.specs.Made.{terms, bounds, is_made}
use Rattle.type_terms.proofs.Made.{false-true}
use Rattle.infer_table.specs.Canonical.{CanonicalForm}
use Rattle.goal_evaluator.specs.Lists.{Every}
use Rattle.goal_evaluator.specs.Instances.{read_with}
use Rattle.goal_evaluator.specs.Content.{Values, Fact, given}
use Rattle.goal_evaluator.specs.FrameTables.{is_open_label}
use Rattle.goal_evaluator.specs.TableOperations.{begin}
use Rattle.goal_evaluator.specs.Tables.{frame_tables}
use Rattle.goal_evaluator.specs.Variables.{is_variable_over}
use Rattle.solver_completeness.specs.Closed.{AreWays, no_more, refused, applied}
use Rattle.solver_completeness.specs.ClosedTables.{AreClosed, ArePlaces}
use Rattle.solver_completeness.specs.Ways.{IsSelection}
use Rattle.candidate_model.specs.Facts.{is_plain, is_unerased, beside, reference_in}
use Rattle.candidate_model.specs.Meaning.{ViewMeaning}
use Rattle.candidate_model.specs.DeclaredWell.{IsDeclaredWell, are_distinct}
use Rattle.candidate_model.specs.Asking.{GoalOverKinds, goal_over_kinds, is_rigid, self_of, with_plain_head}
use Rattle.candidate_model.specs.Candidates.{Candidate, recording, by_rule, all_equal, misc, if_so, upcasts_from, upcasts_to, upcasts_of, bounds_from, object_source, written_source, objects_of}
use Rattle.candidate_model.specs.Cover.{goal_fact, read_reference}
use Rattle.declarations.specs.Promised.Elaboration.{elaborate, supertraits}
use Rattle.candidate_model.proofs.BoundTerms.{bounds-are-left}
use Rattle.candidate_model.proofs.ByView.{rigid-read}
use Rattle.candidate_model.proofs.Elaborating.{every-in}
use Rattle.solver_completeness.proofs.MovedWays.{every-from, every-to}
use Rattle.candidate_model.proofs.EquationTerms.{IsOpenTerms, principal-terms}
use Rattle.candidate_model.proofs.OpenLevels.{PlainRead, strict-open, elaborated-open, strict-in-supertraits, principal-plain}
use Rattle.candidate_model.proofs.PlainRules.{Plain, IsPlainReference}
use Rattle.candidate_model.proofs.SoundObjects.{member-of}
use Rattle.candidate_model.proofs.SoundRows.{Unknown, Rigid}
use Rattle.candidate_model.proofs.Stack.{elaborated-all, elaborated-only, supertraits-only}
use Rattle.candidate_model.proofs.Unsizing.{all-declared, compatible-same, principal-read, autos-read, traits-stay}
use Rattle.candidate_model.proofs.Upcasts.{autos-same}
use Rattle.solver_completeness.specs.SolverWays.{facts_beside, premises_of}
use Rattle.solver_completeness.specs.RowWays.{AreWaysOf, if_of, equal_ways, autos_stand_once}
use Rattle.solver_completeness.specs.BoundWays.{AreSelectedFor, BoundRowsAreWaysAt, BoundRowsAreWays}
use Rattle.solver_completeness.proofs.Instances.{is, terms_of, instance, instance-is, rule-applies}
use Rattle.solver_completeness.proofs.Rows.{is-held}
use Rattle.solver_completeness.proofs.Equating.{args-open, equated, upcast-ways, bound-ways, at-place}
use Rattle.solver_completeness.proofs.EquatedRows.{facts-append, premises-append, both-ways, first-of, target, read-target, rest-over}
use Rattle.solver_completeness.proofs.Selecting.{itself, joined, rows-select, any-select}
use Rattle.solver_completeness.proofs.Once.{elaborated-once, supertraits-once}

module _ (m : ViewMeaning) (well : IsDeclaredWell m.view) (f : CanonicalForm) (a : GoalOverKinds) (is_asked : goal_over_kinds m.view f ≡ Some a) (closed : AreClosed f.kinds) (v : Values) (places : ArePlaces f.kinds v)
    (plain : is_plain (goal_fact f v) ≡ true) where
  abbrev V : World
  V = m.view

  abbrev xs : List Trees
  xs = (terms_of m f a is_asked closed v places).slots

  abbrev Read : Trees → Trees
  Read t = read_with (given xs) t

  abbrev rd : Reference → Reference
  rd r = read_reference xs r

  abbrev pub g : Fact
  g = instance m f a is_asked closed v places

  -- the candidates apply in ways that are those of the rules, but for order and repeats
  pub record Selected (cs : List Candidate) (ways : List (List Reference)) : Type 1 where
    pub found : List (List Reference)
    pub are : AreWaysOf a v g cs found
    pub selects : IsSelection (facts_beside g found) (facts_beside g ways)

  pub exactly : (cs : List Candidate) (ways : List (List Reference)) → AreWaysOf a v g cs ways → Selected cs ways
  exactly cs ways u = record { found = ways; are = u; selects = itself (facts_beside g ways) }

  pub both-selected : (cs ds : List Candidate) (us ts : List Rule) → Selected cs (premises_of us) → Selected ds (premises_of ts) → Selected (cs ++ ds) (premises_of (us ++ ts))
  both-selected cs ds us ts x y =
      subst (Selected (cs ++ ds)) (sym (premises-append us ts)) (record {
        found = x.found ++ y.found;
        are = both-ways a v g cs ds x.found y.found x.are y.are;
        selects =
            subst (λ z. IsSelection z (facts_beside g (premises_of us ++ premises_of ts))) (sym (facts-append g x.found y.found))
            (subst (IsSelection (facts_beside g x.found ++ facts_beside g y.found)) (sym (facts-append g (premises_of us) (premises_of ts)))
            (joined (facts_beside g x.found) (facts_beside g y.found) (facts_beside g (premises_of us)) (facts_beside g (premises_of ts)) x.selects y.selects));
      })

  -- what candidates record of lifetimes does not count
  recorded-ways : (r : Trees) (cs : List Candidate) (found : List (List Fact)) → AreWays frame_tables (begin a.kinds) v cs found → AreWays frame_tables (begin a.kinds) v (map (recording r) cs) found
  recorded-ways r [] [] no_more = no_more
  recorded-ways r [] (premises ∷ ways) u = elim u [ ]
  recorded-ways r (c ∷ cs) ways (refused h u) = refused h (recorded-ways r cs ways u)
  recorded-ways r (c ∷ cs) (premises ∷ ways) (applied h u) =
      applied (record { assignment = h.assignment; allowed = h.allowed; own = h.own; meets = h.meets; needs = h.needs }) (recorded-ways r cs ways u)

  pub recorded-selected : (r : Trees) (cs : List Candidate) (ways : List (List Reference)) → Selected cs ways → Selected (map (recording r) cs) ways
  recorded-selected r cs ways x = record { found = x.found; are = recorded-ways r cs (facts_beside g x.found) x.are; selects = x.selects }

  -- ---- upcasts
  abbrev found_to : List Reference → List Reference → List (List Reference)
  found_to ps [] = [] ∷ []
  found_to [] (q ∷ qs) = []
  found_to (p ∷ ps) (q ∷ qs) = if p.trait == q.trait then (if same (Read p.args) (Read q.args) then [] ∷ [] else []) else equal_ways [] (rd q) (map rd (supertraits V p))

  abbrev AreOpen : List Reference → Type 0
  AreOpen rs = Every (λ (r : Reference). IsOpenTerms r.args) rs

  to-are : (ps qs : List Reference) → AreOpen ps → AreOpen qs → ((p : Reference) → In p ps → AreOpen (supertraits V p)) → AreWaysOf a v g (upcasts_to V a ps qs) (found_to ps qs)
  to-are ps [] h k l = applied (rule-applies m f a is_asked closed v places misc [] [] tt) no_more
  to-are [] (q ∷ qs) h k l = no_more
  to-are (p ∷ ps) (q ∷ qs) h k l = by (p.trait == q.trait)
    where
      by : (b : Bool) → AreWaysOf a v g (if b then by_rule V a misc (all_equal p.args q.args) [] ∷ [] else upcasts_from V a q 1 (supertraits V p))
          (if b then (if same (Read p.args) (Read q.args) then [] ∷ [] else []) else equal_ways [] (rd q) (map rd (supertraits V p)))
      by true = equated m f a is_asked closed v places misc p.args q.args [] h.0 k.0 [] [] no_more (same (Read p.args) (Read q.args)) refl
      by false = upcast-ways m f a is_asked closed v places q k.0 1 (supertraits V p) (l p (here p ps))

  to-selects : (ps qs : List Reference) → ((p : Reference) → In p ps → PlainRead V well.terms xs p) → IsSelection (facts_beside g (found_to ps qs)) (facts_beside g (premises_of (upcasts_principal V (map rd ps) (map rd qs))))
  to-selects ps [] h = itself (facts_beside g ([] ∷ []))
  to-selects [] (q ∷ qs) h = itself []
  to-selects (p ∷ ps) (q ∷ qs) h = by (p.trait == q.trait)
    where
      alone : (b : Bool) → IsSelection (facts_beside g (if b then [] ∷ [] else [])) (facts_beside g (premises_of (if b then row unsize_dyn [] else [])))
      alone true = itself (facts_beside g ([] ∷ []))
      alone false = itself []

      by : (b : Bool) → IsSelection (facts_beside g (if b then (if same (Read p.args) (Read q.args) then [] ∷ [] else []) else equal_ways [] (rd q) (map rd (supertraits V p))))
          (facts_beside g (premises_of (if b then (if b && same (Read p.args) (Read q.args) then row unsize_dyn [] else []) else equal_rows unsize_upcast [] (rd q) 1 (strict_supertraits V (rd p)))))
      by true = alone (same (Read p.args) (Read q.args))
      by false =
          subst (λ ss. IsSelection (facts_beside g (equal_ways [] (rd q) (map rd (supertraits V p)))) (facts_beside g (premises_of (equal_rows unsize_upcast [] (rd q) 1 ss)))) (sym (strict-open V well.terms xs p (h p (here p ps))))
          (rows-select g [] [] (λ P e. tt) (λ P e. tt) rd (rd q) (supertraits V p) (strict_supertraits V p) (supertraits-once V p) (λ x i. supertraits-only V well.rank well.acyclic p x i)
          (λ x i e. strict-in-supertraits V well.rank well.acyclic p x i) unsize_upcast 1)

  -- ---- what a bound is read as
  every-among : {A : Type 0} (P : A → Type 0) (ys zs : List A) → ((x : A) → In x zs → In x ys) → Every P ys → Every P zs
  every-among P ys zs among h = every-in P zs (λ x i. member-of P ys x h (among x i))

  -- what holds of all of these beside the instance holds of all of those
  pub facts-among : (P : Fact → Type 0) (ys zs : List Reference) → ((x : Reference) → In x zs → In x ys) → Every P (map (beside g) (map rd ys)) → Every P (map (beside g) (map rd zs))
  facts-among P ys zs among h =
      every-to (beside g) P (λ r. P (beside g r)) (λ r p. p) (map rd zs)
      (every-to rd (λ r. P (beside g r)) (λ r. P (beside g (rd r))) (λ r p. p) zs
      (every-among (λ r. P (beside g (rd r))) ys zs among (every-from rd (λ r. P (beside g r)) (λ r. P (beside g (rd r))) (λ r p. p) ys (every-from (beside g) P (λ r. P (beside g r)) (λ r p. p) (map rd ys) h))))

  pub args-plain : Plain (Read a.reference.args)
  args-plain = (is-held m well.terms f a is_asked closed v places plain).plain

  module _ (c o : Trees) (self_is : self_of a ≡ tree dynamic c o) (made : is_made is_open_label bounds c ≡ true) (read_is : Read a.reference.args ≡ tree dynamic (Read c) (Read o)) where
    abbrev self : Trees
    self = tree dynamic c none

    abbrev ps : List Reference
    ps = principal_with self c

    abbrev written : List Reference
    written = autos_with self c

    p-is : principal_with (Read self) (Read c) ≡ map rd ps
    p-is = principal-read V well.terms xs is_open_label self c made

    w-is : autos_with (Read self) (Read c) ≡ map rd written
    w-is = autos-read V well.terms xs is_open_label self c made

    whole : Plain (tree dynamic (Read c) (Read o))
    whole = subst Plain read_is args-plain

    ps-plain : (p : Reference) → In p ps → PlainRead V well.terms xs p
    ps-plain p i =
        member-of IsPlainReference (map rd ps) (rd p)
        (subst (Every IsPlainReference) p-is (principal-plain (Read self) (Read c) (head-shut is_unerased dynamic (Read c) (Read o) whole) (child-shut is_unerased dynamic (Read c) (Read o) whole))) (in-map rd ps p i)

    self-made : IsOpenTerms self
    self-made = both (is_made is_open_label bounds c) true made refl

    ps-open : AreOpen ps
    ps-open = principal-terms self c self-made made

    elaborated-open-terms : AreOpen (elaborate V ps)
    elaborated-open-terms = bounds-are-left m well.terms well.erased f a is_asked c o self_is

    supers-open : (p : Reference) → In p ps → AreOpen (supertraits V p)
    supers-open p i =
        every-in (λ (r : Reference). IsOpenTerms r.args) (supertraits V p)
        (λ x j. member-of (λ (r : Reference). IsOpenTerms r.args) (elaborate V ps) x elaborated-open-terms
        (elaborated-all V well.rank well.acyclic ps x (flat-in (λ x. x ∷ strict_supertraits V x) ps p x i (there x p (strict_supertraits V p) (supertraits-only V well.rank well.acyclic p x j)))))

    -- ---- to another `dyn`
    module _ (d : Trees) (to_made : is_made is_open_label bounds d ≡ true) where
      abbrev qs : List Reference
      qs = principal_with self d

      abbrev wanted : List Reference
      wanted = autos_with self d

      abbrev tests : Bool
      tests = are_declared V ps && upcasts_autos V ps written wanted

      tests-are : (are_declared V (map rd ps) && upcasts_autos V (map rd ps) (map rd written) (map rd wanted)) ≡ tests
      tests-are =
          ap (λ b. b && upcasts_autos V (map rd ps) (map rd written) (map rd wanted)) (all-declared V (map rd ps) ∙ ap (list_all (is_declared V)) (traits-stay V well.terms xs ps) ∙ sym (all-declared V ps))
          ∙ ap (λ b. are_declared V ps && b)
          (autos-same V (map rd ps) (map rd written) (map rd wanted) ps written wanted (traits-stay V well.terms xs ps) (traits-stay V well.terms xs written) (traits-stay V well.terms xs wanted))

      rules-are : (y : Trees) → unsize_upcast_rules V (tree dynamic (Read c) (tree dynamic (Read d) y)) ≡ (if tests then upcasts_principal V (map rd ps) (map rd qs) else [])
      rules-are y =
          ap (λ x. if are_declared V x && upcasts_autos V x (autos_with (Read self) (Read c)) (autos_with (Read self) (Read d)) then upcasts_principal V x (principal_with (Read self) (Read d)) else []) p-is
          ∙ ap (λ x. if are_declared V (map rd ps) && upcasts_autos V (map rd ps) x (autos_with (Read self) (Read d)) then upcasts_principal V (map rd ps) (principal_with (Read self) (Read d)) else []) w-is
          ∙ ap (λ x. if are_declared V (map rd ps) && upcasts_autos V (map rd ps) (map rd written) x then upcasts_principal V (map rd ps) (principal_with (Read self) (Read d)) else []) (autos-read V well.terms xs is_open_label self d to_made)
          ∙ ap (λ x. if are_declared V (map rd ps) && upcasts_autos V (map rd ps) (map rd written) (map rd wanted) then upcasts_principal V (map rd ps) x else []) (principal-read V well.terms xs is_open_label self d to_made)
          ∙ ap (λ (x : Bool). if x then upcasts_principal V (map rd ps) (map rd qs) else []) tests-are

      to-dyn : (p y : Trees) → Selected (upcasts_of V a (tree dynamic c (tree dynamic d p))) (premises_of (unsize_upcast_rules V (tree dynamic (Read c) (tree dynamic (Read d) y))))
      to-dyn p y = subst (λ us. Selected (if_so tests (upcasts_to V a ps qs)) (premises_of us)) (sym (rules-are y)) (by tests)
        where
          by : (b : Bool) → Selected (if_so b (upcasts_to V a ps qs)) (premises_of (if b then upcasts_principal V (map rd ps) (map rd qs) else []))
          by true = record { found = found_to ps qs; are = to-are ps qs ps-open (principal-terms self d self-made to_made) supers-open; selects = to-selects ps qs ps-plain }
          by false = exactly [] [] no_more

    -- ---- object bounds
    module _ (distinct : autos_stand_once (Read a.reference.args) ≡ true) where
      abbrev r : Reference
      r = rd a.reference

      abbrev asks : List Reference
      asks = map rd (supertraits V a.reference)

      abbrev all_asked : List Reference
      all_asked = strict_supertraits V r

      asked-to : (P : Fact → Type 0) → Every P (map (beside g) asks) → Every P (map (beside g) all_asked)
      asked-to P h =
          subst (λ rs. Every P (map (beside g) rs)) (sym (strict-open V well.terms xs a.reference args-plain))
          (facts-among P (supertraits V a.reference) (strict_supertraits V a.reference) (λ x i. strict-in-supertraits V well.rank well.acyclic a.reference x i) h)

      asked-from : (P : Fact → Type 0) → Every P (map (beside g) all_asked) → Every P (map (beside g) asks)
      asked-from P h =
          facts-among P (strict_supertraits V a.reference) (supertraits V a.reference) (λ x i. supertraits-only V well.rank well.acyclic a.reference x i)
          (subst (λ rs. Every P (map (beside g) rs)) (strict-open V well.terms xs a.reference args-plain) h)

      autos-open : (b : Trees) → AreOpen (autos_with self b)
      autos-open none = tt
      autos-open (tree (auto_trait t) d p) = (self-made, autos-open p)
      autos-open (tree l d p) = autos-open p

      autos-traits : (x b : Trees) → map (λ (r : Reference). r.trait) (autos_with x b) ≡ map (λ (r : Reference). r.trait) (autos_with none b)
      autos-traits x none = refl
      autos-traits x (tree (auto_trait t) d p) = ap (λ z. t ∷ z) (autos-traits x p)
      autos-traits x (tree l d p) = autos-traits x p

      written-distinct : are_distinct (map (λ (r : Reference). r.trait) (map rd written)) ≡ true
      written-distinct =
          subst (λ rs. are_distinct (map (λ (r : Reference). r.trait) rs) ≡ true) w-is
          (subst (λ ts. are_distinct ts ≡ true) (sym (autos-traits (Read self) (Read c))) (subst (λ t. autos_stand_once t ≡ true) read_is distinct))

      abbrev autos_of : Bool → List Rule
      autos_of b = if b && list_any (same_reference r) (map rd written) then row object_auto all_asked else []

      abbrev principals_of : Bool → List Rule
      principals_of b = if b then equal_rows object_principal all_asked r 0 (map rd (elaborated V ps)) else []

      abbrev compatible : Bool
      compatible = are_dyn_compatible V ps

      abbrev unsized : Bool
      unsized = not (a.reference.trait == sized)

      object-rules-are : (y : Trees) → object_rules V r (tree dynamic (Read c) y) ≡ (if compatible then autos_of unsized ++ principals_of unsized else [])
      object-rules-are y =
          ap (λ x. object_bound_rules V r x (autos_with (Read self) (Read c))) p-is
          ∙ ap (λ x. object_bound_rules V r (map rd ps) x) w-is
          ∙ ap (λ b. if b && are_dyn_compatible V (map rd ps) then autos_of unsized ++ (if unsized then equal_rows object_principal all_asked r 0 (elaborated V (map rd ps)) else []) else [])
          (left (is_declared V a.reference.trait) (not (some_node (is_undeclared V) a.reference.args)) (is m f a is_asked closed v places).written)
          ∙ ap (λ b. if b then autos_of unsized ++ (if unsized then equal_rows object_principal all_asked r 0 (elaborated V (map rd ps)) else []) else []) (compatible-same V (map rd ps) ps (traits-stay V well.terms xs ps))
          ∙ ap (λ rs. if compatible then autos_of unsized ++ (if unsized then equal_rows object_principal all_asked r 0 rs else []) else []) (elaborated-open V well.terms xs ps ps-plain)

      principals : (b : Bool) → Selected (if_so b (bounds_from V a object_source 0 (elaborate V ps))) (premises_of (principals_of b))
      principals true = record {
        found = equal_ways asks r (map rd (elaborate V ps));
        are = bound-ways m f a is_asked closed v places object_source 0 (elaborate V ps) elaborated-open-terms;
        selects =
            rows-select g asks all_asked asked-to asked-from rd r (elaborate V ps) (elaborated V ps) (elaborated-once V ps) (λ x i. elaborated-only V well.rank well.acyclic ps x i)
            (λ x i e. elaborated-all V well.rank well.acyclic ps x i) object_principal 0;
      }
      principals false = exactly [] [] no_more

      autos : (b : Bool) → Selected (if_so b (bounds_from V a written_source 0 written)) (premises_of (autos_of b))
      autos true = record {
        found = equal_ways asks r (map rd written);
        are = bound-ways m f a is_asked closed v places written_source 0 written (autos-open c);
        selects = any-select g asks all_asked asked-to asked-from r (map rd written) written-distinct object_auto;
      }
      autos false = exactly [] [] no_more

      of-dyn : (y : Trees) → Selected (objects_of V a (tree dynamic c o)) (premises_of (object_rules V r (tree dynamic (Read c) y)))
      of-dyn y = subst (λ us. Selected (objects_of V a (tree dynamic c o)) (premises_of us)) (sym (object-rules-are y)) (by compatible)
        where
          by : (b : Bool) → Selected (if_so b (if_so unsized (bounds_from V a written_source 0 written) ++ if_so unsized (bounds_from V a object_source 0 (elaborate V ps))))
              (premises_of (if b then autos_of unsized ++ principals_of unsized else []))
          by true =
              both-selected (if_so unsized (bounds_from V a written_source 0 written)) (if_so unsized (bounds_from V a object_source 0 (elaborate V ps))) (autos_of unsized) (principals_of unsized)
              (autos unsized) (principals unsized)
          by false = exactly [] [] no_more

  -- ---- the self type
  self-rigid : (x : Rigid a.reference.args) → self_of a ≡ tree (erase_label x.label) x.children x.others
  self-rigid x = ap with_plain_head x.is

  read-rigid : (x : Rigid a.reference.args) → Read a.reference.args ≡ tree (erase_label x.label) (Read x.children) (Read x.others)
  read-rigid x = ap Read x.is ∙ rigid-read xs x.label x.children x.others x.rigid

  open-rigid : (x : Rigid a.reference.args) → IsOpenTerms (tree x.label x.children x.others)
  open-rigid x = subst IsOpenTerms x.is (args-open m f a is_asked closed v places)

  upcasts-second : (c o : Trees) → self_of a ≡ tree dynamic c o → is_made is_open_label bounds c ≡ true → Read a.reference.args ≡ tree dynamic (Read c) (Read o) → IsOpenTerms o → is_made (is_variable_over a.kinds) terms o ≡ true → Unknown o ⊎ Rigid o
      → Selected (upcasts_of V a (tree dynamic c o)) (premises_of (unsize_upcast_rules V (tree dynamic (Read c) (Read o))))
  upcasts-second c o s made e g over (inl x) =
      subst (λ t. Selected (upcasts_of V a (tree dynamic c t)) (premises_of (unsize_upcast_rules V (tree dynamic (Read c) (Read o))))) (sym x.is) (by (read-target m well.terms f a is_asked closed v places plain o x over).is)
    where
      n : ℕ
      n = (read-target m well.terms f a is_asked closed v places plain o x over).number

      by : (Read o ≡ tree (param of_type n) none (Read x.others)) ⊎ (Read o ≡ tree (placeholder of_type n) none (Read x.others)) → Selected [] (premises_of (unsize_upcast_rules V (tree dynamic (Read c) (Read o))))
      by (inl q) = subst (λ z. Selected [] (premises_of (unsize_upcast_rules V (tree dynamic (Read c) z)))) (sym q) (exactly [] [] no_more)
      by (inr q) = subst (λ z. Selected [] (premises_of (unsize_upcast_rules V (tree dynamic (Read c) z)))) (sym q) (exactly [] [] no_more)
  upcasts-second c o s made e g over (inr x) =
      subst (λ t. Selected (upcasts_of V a (tree dynamic c t)) (premises_of (unsize_upcast_rules V (tree dynamic (Read c) (Read t))))) (sym x.is)
      (by x.label x.children x.others x.rigid (subst IsOpenTerms x.is g) (subst (λ t. self_of a ≡ tree dynamic c t) x.is s) (subst (λ t. Read a.reference.args ≡ tree dynamic (Read c) (Read t)) x.is e))
    where
      by : (k : Label) (d p : Trees) → is_rigid k ≡ true → IsOpenTerms (tree k d p) → self_of a ≡ tree dynamic c (tree k d p) → Read a.reference.args ≡ tree dynamic (Read c) (Read (tree k d p))
          → Selected (upcasts_of V a (tree dynamic c (tree k d p))) (premises_of (unsize_upcast_rules V (tree dynamic (Read c) (Read (tree k d p)))))
      by dynamic d p r h i j = to-dyn c (tree dynamic d p) i made j d (left (is_made is_open_label bounds d) (is_made is_open_label terms p) h) p (Read p)
      by (param s i) d p r h q j = absurd (false-true (right (is_sort s of_type) false r))
      by (placeholder s i) d p r h q j = absurd (false-true (right (is_sort s of_type) false r))
      by (infer s i) d p r h q j = absurd (false-true (right (is_sort s of_type) false r))
      by (canonical s i) d p r h q j = absurd (false-true (right (is_sort s of_type) false r))
      by (bound s k i) d p r h q j = absurd (false-true (right (is_sort s of_type) false r))
      by k d p r h i j = subst (λ z. Selected [] (premises_of (unsize_upcast_rules V (tree dynamic (Read c) z)))) (sym (rigid-read xs k d p r)) (exactly [] [] no_more)

  pub upcasts : (a.reference.trait == unsize) ≡ true → Selected (upcasts_of V a (self_of a)) (premises_of (unsize_upcast_rules V (Read a.reference.args)))
  upcasts u = by (first-of m well.terms f a is_asked closed v places plain)
    where
      rigid : (l : Label) (c o : Trees) → is_rigid l ≡ true → IsOpenTerms (tree l c o) → self_of a ≡ tree (erase_label l) c o → Read a.reference.args ≡ tree (erase_label l) (Read c) (Read o)
          → is_made (is_variable_over a.kinds) terms o ≡ true → Unknown o ⊎ Rigid o → Selected (upcasts_of V a (tree (erase_label l) c o)) (premises_of (unsize_upcast_rules V (tree (erase_label l) (Read c) (Read o))))
      rigid dynamic c o r h i j over t = upcasts-second c o i (left (is_made is_open_label bounds c) (is_made is_open_label terms o) h) j (right (is_made is_open_label bounds c) (is_made is_open_label terms o) h) over t
      rigid (param s i) c o r h q j over t = absurd (false-true (right (is_sort s of_type) false r))
      rigid (placeholder s i) c o r h q j over t = absurd (false-true (right (is_sort s of_type) false r))
      rigid (infer s i) c o r h q j over t = absurd (false-true (right (is_sort s of_type) false r))
      rigid (canonical s i) c o r h q j over t = absurd (false-true (right (is_sort s of_type) false r))
      rigid (bound s k i) c o r h q j over t = absurd (false-true (right (is_sort s of_type) false r))
      rigid l c o r h i j over t = exactly [] [] no_more

      by : Unknown a.reference.args ⊎ Rigid a.reference.args → Selected (upcasts_of V a (self_of a)) (premises_of (unsize_upcast_rules V (Read a.reference.args)))
      by (inl x) =
          subst (λ us. Selected (upcasts_of V a (self_of a)) (premises_of us)) (sym (at-place m f a is_asked closed v places (unsize_upcast_rules V) (λ i c o. refl) (λ i c o. refl) x))
          (subst (λ t. Selected (upcasts_of V a (with_plain_head t)) []) (sym x.is) (exactly [] [] no_more))
      by (inr x) =
          subst (λ t. Selected (upcasts_of V a t) (premises_of (unsize_upcast_rules V (Read a.reference.args)))) (sym (self-rigid x))
          (subst (λ t. Selected (upcasts_of V a (tree (erase_label x.label) x.children x.others)) (premises_of (unsize_upcast_rules V t))) (sym (read-rigid x))
          (rigid x.label x.children x.others x.rigid (open-rigid x) (self-rigid x) (read-rigid x) (rest-over m well.terms f a is_asked closed v places plain x.label x.children x.others x.is)
          (target m well.terms f a is_asked closed v places plain u x.label x.children x.others x.is)))

  pub objects : autos_stand_once (Read a.reference.args) ≡ true → Selected (objects_of V a (self_of a)) (premises_of (object_rules V (rd a.reference) (Read a.reference.args)))
  objects distinct = by (first-of m well.terms f a is_asked closed v places plain)
    where
      rigid : (l : Label) (c o : Trees) → is_rigid l ≡ true → IsOpenTerms (tree l c o) → self_of a ≡ tree (erase_label l) c o → Read a.reference.args ≡ tree (erase_label l) (Read c) (Read o)
          → Selected (objects_of V a (tree (erase_label l) c o)) (premises_of (object_rules V (rd a.reference) (tree (erase_label l) (Read c) (Read o))))
      rigid dynamic c o r h i j = of-dyn c o i (left (is_made is_open_label bounds c) (is_made is_open_label terms o) h) j distinct (Read o)
      rigid (param s i) c o r h q j = absurd (false-true (right (is_sort s of_type) false r))
      rigid (placeholder s i) c o r h q j = absurd (false-true (right (is_sort s of_type) false r))
      rigid (infer s i) c o r h q j = absurd (false-true (right (is_sort s of_type) false r))
      rigid (canonical s i) c o r h q j = absurd (false-true (right (is_sort s of_type) false r))
      rigid (bound s k i) c o r h q j = absurd (false-true (right (is_sort s of_type) false r))
      rigid l c o r h i j = exactly [] [] no_more

      by : Unknown a.reference.args ⊎ Rigid a.reference.args → Selected (objects_of V a (self_of a)) (premises_of (object_rules V (rd a.reference) (Read a.reference.args)))
      by (inl x) =
          subst (λ us. Selected (objects_of V a (self_of a)) (premises_of us)) (sym (at-place m f a is_asked closed v places (object_rules V (rd a.reference)) (λ i c o. refl) (λ i c o. refl) x))
          (subst (λ t. Selected (objects_of V a (with_plain_head t)) []) (sym x.is) (exactly [] [] no_more))
      by (inr x) =
          subst (λ t. Selected (objects_of V a t) (premises_of (object_rules V (rd a.reference) (Read a.reference.args)))) (sym (self-rigid x))
          (subst (λ t. Selected (objects_of V a (tree (erase_label x.label) x.children x.others)) (premises_of (object_rules V (rd a.reference) t))) (sym (read-rigid x))
          (rigid x.label x.children x.others x.rigid (open-rigid x) (self-rigid x) (read-rigid x)))

  pub selected-for : (P : Fact → Type 0) (cs : List Candidate) (ways : List (List Reference)) → Selected cs ways → AreSelectedFor P a v g cs ways
  selected-for P cs ways x = record { found = x.found; are = x.are; every = x.selects.every P; some = x.selects.some P; back = x.selects.back P; one = x.selects.one P }

  pub upcasts-under : Selected (if_so (a.reference.trait == unsize) (upcasts_of V a (self_of a))) (premises_of (if_of (a.reference.trait == unsize) (unsize_upcast_rules V (Read a.reference.args))))
  upcasts-under = by (a.reference.trait == unsize) refl
    where
      by : (b : Bool) → (a.reference.trait == unsize) ≡ b → Selected (if_so b (upcasts_of V a (self_of a))) (premises_of (if_of b (unsize_upcast_rules V (Read a.reference.args))))
      by true e = upcasts e
      by false e = exactly [] [] no_more

  pub bound-rows-at : (P : Fact → Type 0) → BoundRowsAreWaysAt P V a v (goal_fact f v) (reference_in (goal_fact f v))
  bound-rows-at P =
      subst (λ z. BoundRowsAreWaysAt P V a v z (reference_in z)) (sym (instance-is m f a is_asked closed v places))
      (record {
        upcasts = selected-for P (if_so (a.reference.trait == unsize) (upcasts_of V a (self_of a))) (premises_of (if_of (a.reference.trait == unsize) (unsize_upcast_rules V (Read a.reference.args)))) upcasts-under;
        objects = λ e. selected-for P (objects_of V a (self_of a)) (premises_of (object_rules V (rd a.reference) (Read a.reference.args))) (objects e);
      })

pub bound-rows-are-ways : (P : Fact → Type 0) → BoundRowsAreWays P
bound-rows-are-ways P m well f a e closed v places plain = bound-rows-at m well f a e closed v places plain P
