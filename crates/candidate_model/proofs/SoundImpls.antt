-- Impls are sound candidates: where the header is read as the goal, the impl's arguments can be read off the goal's instance.
use Rattle.std.proofs.Common.{◌≡◌, ℕ, zero, ◌==◌, Bool, true, false, not, ◌&&◌, if◌then◌else◌, List, [], ◌∷◌, ◌++◌, map, length, refl, sym, ◌∙◌, ap, subst, Some}
use Rattle.std.specs.List.{flat_map}
use Rattle.type_terms.specs.Promised.Label.{Sort, of_trait, predicate}
use Rattle.type_terms.specs.Promised.Trees.{Trees, none, tree, some_node, instantiate}
use Rattle.type_terms.specs.Trees.{fits, arguments}
use Rattle.type_terms.specs.Promised.Worlds.{World, Reference, ImplDecl, with_args, all_with_args}
use Rattle.type_terms.specs.Promised.Rules.{Rule, by_impl, impl_rules, same_reference, built_in_rules, clause_rules, is_coinductive}
use Rattle.type_terms.specs.Promised.Proofs.{In}
use Rattle.type_terms.proofs.Members.{here, there, in-left, flat-in, self-number, same-number}
use Rattle.type_terms.proofs.Fitting.{not-true, child-shut}
use Rattle.type_terms.proofs.NoHolds.{member-each}
use Rattle.type_terms.proofs.Walking.{left, both}
use Rattle.type_terms.specs.Made.{terms, is_made}
use Rattle.infer_table.specs.Canonical.{CanonicalForm}
use Rattle.goal_evaluator.specs.Lists.{Every}
use Rattle.goal_evaluator.specs.Instances.{read_with}
use Rattle.goal_evaluator.specs.Content.{fits as fit_values, given, ChosenTerms}
use Rattle.goal_evaluator.specs.FrameTables.{Allows, Nested, fact, EquationIsMet}
use Rattle.goal_evaluator.specs.TableOperations.{begin}
use Rattle.goal_evaluator.specs.TableOperations.{fresh}
use Rattle.candidate_model.specs.Facts.{FactFollows, is_plain, is_unerased, clauses_of}
use Rattle.candidate_model.specs.Meaning.{ViewMeaning}
use Rattle.candidate_model.specs.Declared.{is_declared_leaf, is_counted, are_terms, is_declared_view, is_unsorted, parameters_are_sorted}
use Rattle.candidate_model.specs.Determined.{ImplsAreDetermined}
use Rattle.candidate_model.specs.Asking.{GoalOverKinds, goal_over_kinds, all_known, are_clauses}
use Rattle.candidate_model.specs.Candidates.{premise, is_this_param, kinds_of_params, rules_behind, all_equal, by_the_impl, can_match, by_impls}
use Rattle.candidate_model.specs.Cover.{goal_fact, read_reference}
use Rattle.candidate_model.specs.Lawful.{IsSoundFor, ImplsAreSound}
use Rattle.candidate_model.proofs.Cover.{IsAsked, asked-by}
use Rattle.candidate_model.proofs.Facts.{same-self}
use Rattle.candidate_model.proofs.Determined.{heads}
use Rattle.candidate_model.proofs.LawfulCandidates.{asked-clauses}
use Rattle.candidate_model.proofs.SoundCandidates.{goal-is, follows-by}
use Rattle.candidate_model.proofs.DeclaredParts.{header-declared, clause-declared}
use Rattle.candidate_model.proofs.PlainRules.{Plain, plain-unbound, plain-instance}
use Rattle.candidate_model.proofs.ReadOff.{AreValues, instance-is, values-fit, arguments-are, arguments-plain}

-- ---- the rule of an impl
pub same-one : (r : Reference) → same_reference r r ≡ true
same-one r = let p = self-number r.trait in let q = same-self r.args in rw (p, q) refl

impl-concludes : (r : Reference) (i : ImplDecl) → fits (arguments i.params i.header.args r.args) i.header.args ≡ true → with_args (arguments i.params i.header.args r.args) i.header ≡ r
    → In (record { way = by_impl i.name; premises = all_with_args (arguments i.params i.header.args r.args) i.clauses }) (impl_rules r i)
impl-concludes r i f e = by (fits A i.header.args && same_reference (with_args A i.header) r) (both (fits A i.header.args) (same_reference (with_args A i.header) r) f (ap (λ z. same_reference z r) e ∙ same-one r))
  where
    A : Trees
    A = arguments i.params i.header.args r.args

    u : Rule
    u = record { way = by_impl i.name; premises = all_with_args A i.clauses }

    by : (b : Bool) → b ≡ true → In u (if b then u ∷ [] else [])
    by true p = here u []
    by false p = absurd (no p)
      where
        no : false ≡ true → ⊥
        no q = cc

module _ (m : ViewMeaning) (declared : is_declared_view m.view ≡ true) (determined : ImplsAreDetermined m.view) (sorted : parameters_are_sorted m.view ≡ true) (f : CanonicalForm) (a : GoalOverKinds) (is_asked : goal_over_kinds m.view f ≡ Some a) where
  abbrev V : World
  V = m.view

  is : IsAsked V f.goal.environment f.goal.predicate (all_known f.kinds) a
  is = asked-by V f.goal.environment f.goal.predicate (all_known f.kinds) a is_asked

  are : are_clauses a.kinds a.environment ≡ true
  are = asked-clauses V f.goal.environment f.goal.predicate (all_known f.kinds) a is_asked

  pub impl-sorted : (i : ImplDecl) → In i V.impls → some_node (is_unsorted i.params i.header.args) i.header.args ≡ false
  impl-sorted i j = not-true (some_node (is_unsorted i.params i.header.args) i.header.args) (member-each (λ (x : ImplDecl). not (some_node (is_unsorted x.params x.header.args) x.header.args)) V.impls i sorted j)

  module _ (i : ImplDecl) (member : In i V.impls) (same_trait : (i.header.trait == a.reference.trait) ≡ true) (s : ChosenTerms) (l : Allows (fresh (begin a.kinds) (kinds_of_params i.header.args zero i.params)) s)
      (meets : Every (λ e. EquationIsMet e s) (all_equal a.reference.args (rules_behind (length a.kinds) i.header).args)) (proper : (s.own.proper && fit_values f.kinds s.own.terms) ≡ true) (plain : is_plain (goal_fact f s.own) ≡ true) where
    abbrev n : ℕ
    n = length a.kinds

    abbrev rx : Reference
    rx = read_reference s.slots a.reference

    abbrev A : Trees
    A = arguments i.params i.header.args rx.args

    header : are_terms i.header.args ≡ true
    header = header-declared V declared i member

    header-is : rx.args ≡ read_with (given s.slots) (rules_behind n i.header).args
    header-is = heads a is.over are (kinds_of_params i.header.args zero i.params) s i.header.args (left (is_made is_declared_leaf terms i.header.args) (not (some_node is_counted i.header.args)) header) meets

    goal-plain : Plain rx.args
    goal-plain =
        child-shut is_unerased (predicate (of_trait a.reference.trait)) rx.args none
        (not-true (some_node is_unerased (tree (predicate (of_trait a.reference.trait)) rx.args none)) (subst (λ z. is_plain z ≡ true) (goal-is V f a is are (kinds_of_params i.header.args zero i.params) s l proper true) plain))

    A-plain : Plain A
    A-plain = arguments-plain zero i.params i.header.args rx.args goal-plain

    header-values : AreValues n s.slots A i.header.args
    header-values = subst (λ t. AreValues n s.slots (arguments i.params i.header.args t) i.header.args) (sym header-is) (arguments-are i.params i.header.args (impl-sorted i member) n s.slots header)

    -- what is declared over parameters of the header is read as the instance by what is read off
    instance : (t : Trees) → are_terms t ≡ true → ((k : Sort) (j : ℕ) → some_node (is_this_param k j) t ≡ true → some_node (is_this_param k j) i.header.args ≡ true) → instantiate zero A t ≡ read_with (given s.slots) (rules_behind n (record { trait = 0; args = t })).args
    instance t d stands = instance-is n s.slots A (plain-unbound A A-plain) t d zero (λ k j e. header-values k j (stands k j e))

    same-references : (t u : ℕ) (x y : Trees) → t ≡ u → x ≡ y → ◌≡◌ {A = Reference} (record { trait = t; args = x }) (record { trait = u; args = y })
    same-references t u x y e g = cc

    concludes : with_args A i.header ≡ rx
    concludes = same-references i.header.trait a.reference.trait _ _ (same-number i.header.trait a.reference.trait same_trait) (instance i.header.args header (λ k j e. e) ∙ sym header-is)

    each-clause : (cs : List Reference) → ((c : Reference) → In c cs → In c i.clauses) → all_with_args A cs ≡ map (read_reference s.slots) (map (rules_behind n) cs)
    each-clause [] g = refl
    each-clause (c ∷ cs) g =
        ap (λ z. record { trait = c.trait; args = z } ∷ all_with_args A cs) (instance c.args (clause-declared V declared i c member (g c (here c cs))) (λ k j e. determined i c member (g c (here c cs)) k j e))
        ∙ ap (λ z. read_reference s.slots (rules_behind n c) ∷ z) (each-clause cs (λ d j. g d (there d c cs j)))

    abbrev IsPlainRead : Reference → Type 0
    IsPlainRead r = Plain (read_with (given s.slots) r.args)

    each-plain : (cs : List Reference) → ((c : Reference) → In c cs → In c i.clauses) → Every IsPlainRead (map (rules_behind n) cs)
    each-plain [] g = tt
    each-plain (c ∷ cs) g = (
      subst Plain (instance c.args (clause-declared V declared i c member (g c (here c cs))) (λ k j e. determined i c member (g c (here c cs)) k j e)) (plain-instance A c.args A-plain (clause-declared V declared i c member (g c (here c cs)))),
      each-plain cs (λ d j. g d (there d c cs j)),
    )

    -- the impl concludes the instance
    pub own-rule : In (record { way = by_impl i.name; premises = map (read_reference s.slots) (map (rules_behind n) i.clauses) }) (impl_rules rx i)
    own-rule = subst (λ ps. In (record { way = by_impl i.name; premises = ps }) (impl_rules rx i)) (each-clause i.clauses (λ c j. j)) (impl-concludes rx i (values-fit n s.slots A i.header.args header header-values) concludes)

    rule : In (record { way = by_impl i.name; premises = map (read_reference s.slots) (map (rules_behind n) i.clauses) }) (flat_map (impl_rules rx) V.impls)
    rule = flat-in (impl_rules rx) V.impls i (record { way = by_impl i.name; premises = map (read_reference s.slots) (map (rules_behind n) i.clauses) }) member own-rule

    follows : FactFollows V (goal_fact f s.own) (map (λ (x : Nested). fact x s) (map (premise a (is_coinductive V a.reference.trait)) (map (rules_behind n) i.clauses)))
    follows =
        follows-by V f a is are (kinds_of_params i.header.args zero i.params) s l proper (is_coinductive V a.reference.trait) (by_impl i.name) (map (rules_behind n) i.clauses)
        (in-left (record { way = by_impl i.name; premises = map (read_reference s.slots) (map (rules_behind n) i.clauses) }) (flat_map (impl_rules rx) V.impls)
        (built_in_rules V rx ++ clause_rules V rx 0 (clauses_of (read_with (given s.slots) a.environment))) rule)
        (each-plain i.clauses (λ c j. j))

  impl-sound : (i : ImplDecl) → In i V.impls → (i.header.trait == a.reference.trait) ≡ true → IsSoundFor m f a (by_the_impl V a i)
  impl-sound i j q y s l e proper plain = follows i j q s l e proper plain

  each-impl : (is : List ImplDecl) → ((i : ImplDecl) → In i is → In i V.impls) → Every (IsSoundFor m f a) (by_impls V a is)
  each-impl [] g = tt
  each-impl (i ∷ is) g = by (i.header.trait == a.reference.trait) refl (can_match a.reference.args i.header.args) (each-impl is (λ j k. g j (there j i is k)))
    where
      by : (b : Bool) → (i.header.trait == a.reference.trait) ≡ b → (r : Bool) → Every (IsSoundFor m f a) (by_impls V a is) → Every (IsSoundFor m f a) (if b && r then by_the_impl V a i ∷ by_impls V a is else by_impls V a is)
      by true q true e = (impl-sound i (g i (here i is)) q, e)
      by true q false e = e
      by false q r e = e

  pub impls-sound : Every (IsSoundFor m f a) (by_impls V a V.impls)
  impls-sound = each-impl V.impls (λ i k. k)

pub impls-are-sound : ImplsAreSound
impls-are-sound m declared determined sorted f a is = impls-sound m declared determined sorted f a is
