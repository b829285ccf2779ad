-- The candidates of impls are the rule instances by impls.
use Rattle.std.proofs.Common.{◌≡◌, ◌⊎◌, inl, inr, ℕ, zero, suc, ◌+◌, ◌<◌, arith, zero-add, ◌==◌, Bool, true, false, not, ◌&&◌, ◌||◌, if◌then◌else◌, List, [], ◌∷◌, ◌++◌, map, length, refl, sym, ◌∙◌, ap, subst, Some}
use Rattle.std.specs.List.{flat_map}
use Rattle.type_terms.specs.Promised.Label.{Label, Sort, of_type, of_const, of_lifetime, static, param, placeholder, infer, canonical, bound}
use Rattle.type_terms.specs.Promised.Trees.{Trees, none, tree, leaf, IsA, nth, instantiate, some_node, erase_label}
use Rattle.type_terms.specs.Trees.{arguments}
use Rattle.type_terms.specs.Codes.{same_label, numbers}
use Rattle.type_terms.specs.Promised.Worlds.{World, Reference, ImplDecl, all_with_args}
use Rattle.type_terms.specs.Promised.Rules.{Rule, impl_rules, is_coinductive}
use Rattle.type_terms.specs.Promised.Proofs.{In}
use Rattle.type_terms.proofs.Members.{here, there, in-nothing, self-number}
use Rattle.type_terms.proofs.Fitting.{ByImpl, impl-rule, next-shut}
use Rattle.type_terms.proofs.Walking.{left}
use Rattle.type_terms.specs.Made.{terms, is_made}
use Rattle.type_terms.proofs.Made.{false-true}
use Rattle.infer_table.specs.Canonical.{CanonicalForm}
use Rattle.infer_table.specs.declared.canonical.CanonicalVarKind.{CanonicalVarKind}
use Rattle.infer_table.specs.declared.canonical.CanonicalVarKind.TheVariants.{Ty, Const, Region}
use Rattle.goal_evaluator.specs.Lists.{Every}
use Rattle.goal_evaluator.specs.Instances.{read_with, of_sort, term_at}
use Rattle.goal_evaluator.specs.Content.{fits as fit_values, Values, Fact, ChosenTerms, given}
use Rattle.goal_evaluator.specs.FrameTables.{Allows, EquationIsMet, Nested, fact, kind_at}
use Rattle.goal_evaluator.specs.TableOperations.{begin, fresh}
use Rattle.goal_evaluator.specs.Tables.{frame_tables}
use Rattle.goal_evaluator.specs.Variables.{is_variable_over}
use Rattle.goal_evaluator.proofs.Slots.{own_slot, of-sort-twice}
use Rattle.solver_completeness.specs.Closed.{Applies, EquationsRefuse, no_more, refused, applied}
use Rattle.solver_completeness.specs.ClosedTables.{AreClosed, ArePlaces}
use Rattle.candidate_model.specs.Facts.{is_plain, is_unerased, beside, children_of, reference_in, tree_of_reference}
use Rattle.candidate_model.specs.Declared.{is_declared_leaf, is_counted, are_terms, is_unsorted}
use Rattle.candidate_model.specs.DeclaredWell.{IsDeclaredWell}
use Rattle.candidate_model.specs.Meaning.{ViewMeaning}
use Rattle.declarations.specs.Apart.{are_apart}
use Rattle.candidate_model.specs.Asking.{GoalOverKinds, goal_over_kinds, self_of, with_plain_head}
use Rattle.candidate_model.specs.Candidates.{Candidate, premise, is_this_param, kind_of_param, kinds_of_params, rules_behind, all_equal, by_the_impl, is_relevant_to, can_match, by_impls}
use Rattle.candidate_model.specs.Cover.{goal_fact, read_reference}
use Rattle.candidate_model.proofs.DeclaredParts.{header-declared, clause-declared}
use Rattle.candidate_model.proofs.EquationTerms.{IsOpenTerms, made-behind}
use Rattle.candidate_model.proofs.Facts.{same-numbers-self}
use Rattle.candidate_model.proofs.Headers.{as_list, type-at, const-at}
use Rattle.candidate_model.proofs.Apart.{instances-meet}
use Rattle.candidate_model.proofs.Impls.{fits-sorted}
use Rattle.candidate_model.proofs.PlainRules.{Plain, plain-unbound}
use Rattle.candidate_model.proofs.ReadOff.{AreValues, read_behind, instance-is, below, one-sort, arguments-plain}
use Rattle.candidate_model.proofs.SoundCandidates.{goal-is}
use Rattle.candidate_model.proofs.SoundImpls.{impl-sorted, own-rule}
use Rattle.candidate_model.proofs.SoundRows.{Unknown, Rigid}
use Rattle.solver_completeness.specs.SolverWays.{premises_of}
use Rattle.solver_completeness.specs.RowWays.{AreWaysOf}
use Rattle.solver_completeness.specs.BoundWays.{ImplsAreWays}
use Rattle.solver_completeness.proofs.Instances.{is, are, kinds-closed, proper, terms_of, instance, instance-is as instance-stands, BeginsWithPlace, read-place}
use Rattle.solver_completeness.proofs.Rows.{is-held}
use Rattle.solver_completeness.proofs.Clauses.{equal-meets}
use Rattle.solver_completeness.proofs.Equating.{args-over, args-open}
use Rattle.solver_completeness.proofs.EquatedRows.{both-rules, first-of}
use Rattle.solver_completeness.proofs.Filling.{IsOwnKind, filled, filled-allowed, slot-behind}
use Rattle.candidate_model.proofs.ByView.{rigid-read}
use Rattle.type_terms.proofs.TermBasics.{append-none}

-- ---- kinds of parameters
own-kind : (h : Trees) (i : ℕ) → IsOwnKind (kind_of_param h i)
own-kind h i = by (some_node (is_this_param of_type i) h) (some_node (is_this_param of_const i) h)
  where
    by : (b d : Bool) → IsOwnKind (if b then Ty else if d then Const else Region)
    by true d = tt
    by false true = tt
    by false false = tt

own-kinds : (h : Trees) (i n : ℕ) → Every IsOwnKind (kinds_of_params h i n)
own-kinds h i zero = tt
own-kinds h i (suc n) = (own-kind h i, own-kinds h (suc i) n)

kind-of-number : (h : Trees) (k n i : ℕ) → i < n → kind_at (kinds_of_params h k n) i ≡ Some (kind_of_param h (k + i))
kind-of-number h k zero i l = absurd (omega (arith, l))
kind-of-number h k (suc n) zero l = ap (λ z. Some (kind_of_param h z)) (sym (plus-zero k))
  where
    plus-zero : (k : ℕ) → k + zero ≡ k
    plus-zero k = omega arith
kind-of-number h k (suc n) (suc i) l = kind-of-number h (suc k) n i (omega (arith, l)) ∙ ap (λ z. Some (kind_of_param h z)) (plus-suc k i)
  where
    plus-suc : (k i : ℕ) → suc k + i ≡ k + suc i
    plus-suc k i = omega arith

-- a lifetime that is up to lifetimes
plain-lifetime : (t : Trees) → IsA of_lifetime t → Plain t → t ≡ leaf static
plain-lifetime none a p = absurd a
plain-lifetime (tree static none none) a p = refl
plain-lifetime (tree static (tree l c o) q) a p = absurd (no a.1)
  where
    no : tree l c o ≡ none → ⊥
    no e = cc
plain-lifetime (tree static none (tree l c o)) a p = absurd (no a.2)
  where
    no : tree l c o ≡ none → ⊥
    no e = cc
plain-lifetime (tree (param of_lifetime i) c o) a p = absurd (false-true (sym p))
plain-lifetime (tree (placeholder of_lifetime i) c o) a p = absurd (false-true (sym p))
plain-lifetime (tree (infer of_lifetime i) c o) a p = absurd (false-true (sym p))
plain-lifetime (tree (canonical of_lifetime i) c o) a p = absurd (false-true (sym p))
plain-lifetime (tree (bound s i j) c o) a p = absurd (false-true (sym p))
plain-lifetime (tree l c o) a p = absurd (let e = a.0 in cc)

plain-nth : (t : Trees) (i : ℕ) → Plain t → Plain (nth t i)
plain-nth none i p = refl
plain-nth (tree l c o) zero p = head-plain l c o p
  where
    head-plain : (l : Label) (c o : Trees) → Plain (tree l c o) → Plain (tree l c none)
    head-plain l c o p = by (is_unerased l) (some_node is_unerased c) (some_node is_unerased o) p
      where
        by : (x y z : Bool) → (x || y || z) ≡ false → (x || y || false) ≡ false
        by false false z e = refl
        by true y z e = absurd (let q : true ≡ false = one y z e in cc)
          where
            one : (y z : Bool) → (true || y || z) ≡ false → true ≡ false
            one true true e = e
            one true false e = e
            one false true e = e
            one false false e = e
        by false true z e = absurd (let q : true ≡ false = two z e in cc)
          where
            two : (z : Bool) → (false || true || z) ≡ false → true ≡ false
            two true e = e
            two false e = e
plain-nth (tree l c o) (suc i) p = plain-nth o i (next-shut is_unerased l c o p)

module _ (m : ViewMeaning) (well : IsDeclaredWell m.view) (f : CanonicalForm) (a : GoalOverKinds) (is_asked : goal_over_kinds m.view f ≡ Some a) (closed : AreClosed f.kinds) (v : Values) (places : ArePlaces f.kinds v)
    (plain : is_plain (goal_fact f v) ≡ true) where
  abbrev V : World
  V = m.view

  abbrev its : ChosenTerms
  its = terms_of m f a is_asked closed v places

  abbrev Read : Trees → Trees
  Read t = read_with (given its.slots) t

  abbrev g : Fact
  g = instance m f a is_asked closed v places

  abbrev r : Reference
  r = read_reference its.slots a.reference

  abbrev n : ℕ
  n = length a.kinds

  args-plain : Plain (Read a.reference.args)
  args-plain = (is-held m well.terms f a is_asked closed v places plain).plain

  module _ (i : ImplDecl) (member : In i V.impls) where
    abbrev h : Trees
    h = i.header.args

    abbrev js : List CanonicalVarKind
    js = kinds_of_params h zero i.params

    abbrev A : Trees
    A = arguments i.params h r.args

    header : are_terms h ≡ true
    header = header-declared V well.terms i member

    sorted : some_node (is_unsorted i.params h) h ≡ false
    sorted = impl-sorted m well.terms well.determined well.sorted f a is_asked i member

    -- ---- other terms for the same values
    module _ (s : ChosenTerms) (l : Allows (fresh (begin a.kinds) js) s) (own : s.own ≡ v) where
      proper-then : (s.own.proper && fit_values f.kinds s.own.terms) ≡ true
      proper-then = subst (λ (o : Values). (o.proper && fit_values f.kinds o.terms) ≡ true) (sym own) (proper m f a is_asked closed v places)

      goals-are : (kind : Bool) → fact (premise a kind a.reference) s ≡ g
      goals-are kind =
          sym (goal-is V f a (is m f a is_asked closed v places) (are m f a is_asked closed v places) js s l proper-then kind)
          ∙ ap (goal_fact f) own
          ∙ instance-stands m f a is_asked closed v places

      args-are : read_with (given s.slots) a.reference.args ≡ Read a.reference.args
      args-are = ap (λ (x : Fact). children_of x.goal.predicate) (goals-are true)

      environment-is : read_with (given s.slots) a.environment ≡ Read a.environment
      environment-is = ap (λ (x : Fact). x.goal.environment) (goals-are true)

      proper-is : s.proper ≡ its.proper
      proper-is = ap (λ (x : Fact). x.proper) (goals-are true)

      -- ---- it refuses
      concludes-there : (i.header.trait == a.reference.trait) ≡ true → Every (λ e. EquationIsMet e s) (all_equal a.reference.args (rules_behind n i.header).args) → impl_rules r i ≡ [] → ⊥
      concludes-there same_trait meets nothing =
          in-nothing _
          (subst (In _) (ap (λ z. impl_rules (record { trait = a.reference.trait; args = z }) i) args-are ∙ nothing)
          (own-rule m well.terms well.determined well.sorted f a is_asked i member same_trait s l meets proper-then (subst (λ (o : Values). is_plain (goal_fact f o) ≡ true) (sym own) plain)))

    refuses : (i.header.trait == a.reference.trait) ≡ true → impl_rules r i ≡ [] → EquationsRefuse frame_tables (begin a.kinds) v (by_the_impl V a i)
    refuses same_trait nothing s l own meets = concludes-there s l own same_trait meets nothing

    -- ---- it applies
    module _ (u : Rule) (by : ByImpl r i u) where
      abbrev s : ChosenTerms
      s = filled a.kinds js (kinds-closed m f a is_asked closed v places) (own-kinds h zero i.params) v (as_list A)

      s-allowed : Allows (fresh (begin a.kinds) js) s
      s-allowed = filled-allowed a.kinds js (kinds-closed m f a is_asked closed v places) (own-kinds h zero i.params) v (as_list A)

      kind-is : (j : ℕ) (k : Sort) → some_node (is_this_param k j) h ≡ true → kind_at js j ≡ Some (kind_of_param h j)
      kind-is j k e = kind-of-number h zero i.params j (below i.params h sorted k j e) ∙ ap (λ z. Some (kind_of_param h z)) (zero-add j)

      slot-at : (j : ℕ) (k : Sort) → some_node (is_this_param k j) h ≡ true → (kind : CanonicalVarKind) → kind_of_param h j ≡ kind → term_at s.slots (n + j) ≡ own_slot kind (term_at (as_list A) j)
      slot-at j k e kind q = slot-behind a.kinds js (kinds-closed m f a is_asked closed v places) (own-kinds h zero i.params) v (as_list A) j kind (kind-is j k e ∙ ap (λ z. Some z) q)

      A-plain : Plain A
      A-plain = arguments-plain zero i.params h r.args args-plain

      values : AreValues n s.slots A h
      values of_type j e =
          sym (append-none (of_sort of_type (term_at s.slots (n + j)))
          ∙ ap (of_sort of_type) (slot-at j of_type e Ty (ap (λ (b : Bool). if b then Ty else if some_node (is_this_param of_const j) h then Const else Region) e))
          ∙ of-sort-twice of_type (term_at (as_list A) j)
          ∙ type-at A j (fits-sorted A h by.fitting of_type j e))
      values of_const j e =
          sym (append-none (of_sort of_const (term_at s.slots (n + j)))
          ∙ ap (of_sort of_const) (slot-at j of_const e Const
          (ap (λ (b : Bool). if b then Ty else if some_node (is_this_param of_const j) h then Const else Region) (no-type j e) ∙ ap (λ (b : Bool). if b then Const else Region) e))
          ∙ of-sort-twice of_const (term_at (as_list A) j)
          ∙ const-at A j (fits-sorted A h by.fitting of_const j e))
        where
          no-type : (j : ℕ) → some_node (is_this_param of_const j) h ≡ true → some_node (is_this_param of_type j) h ≡ false
          no-type j e = either (some_node (is_this_param of_type j) h) refl
            where
              either : (b : Bool) → some_node (is_this_param of_type j) h ≡ b → b ≡ false
              either false q = refl
              either true q = absurd (let z = one-sort i.params h sorted of_const of_type j e q in cc)
      values of_lifetime j e = plain-lifetime (nth A j) (fits-sorted A h by.fitting of_lifetime j e) (plain-nth A j A-plain)

      -- what is declared over parameters of the header is read as the instance
      read-as : (t : Trees) → are_terms t ≡ true → ((k : Sort) (j : ℕ) → some_node (is_this_param k j) t ≡ true → some_node (is_this_param k j) h ≡ true) → instantiate zero A t ≡ read_behind n s.slots t
      read-as t d stands = instance-is n s.slots A (plain-unbound A A-plain) t d zero (λ k j e. values k j (stands k j e))

      header-is : read_with (given s.slots) a.reference.args ≡ read_with (given s.slots) (rules_behind n i.header).args
      header-is = args-are s s-allowed refl ∙ sym (ap (λ (x : Reference). x.args) by.is-instance) ∙ read-as h header (λ k j e. e)

      behind-open : IsOpenTerms (rules_behind n i.header).args
      behind-open = made-behind n h (left (is_made is_declared_leaf terms h) (not (some_node is_counted h)) header)

      same-fact : (t : ℕ) (e d x y : Trees) (p q : Bool) → e ≡ d → x ≡ y → p ≡ q
          → ◌≡◌ {A = Fact} (record (fact (premise a true (record { trait = t; args = none })) its) { goal = record { environment = e; predicate = tree_of_reference (record { trait = t; args = x }) none }; proper = p })
          (record (fact (premise a true (record { trait = t; args = none })) its) { goal = record { environment = d; predicate = tree_of_reference (record { trait = t; args = y }) none }; proper = q })
      same-fact t e d x y p q f g h = cc

      needs : (kind : Bool) (cs : List Reference) → ((c : Reference) → In c cs → In c i.clauses) → map (λ (x : Nested). fact x s) (map (premise a kind) (map (rules_behind n) cs)) ≡ map (beside g) (all_with_args A cs)
      needs kind [] among = refl
      needs kind (c ∷ cs) among =
          cons _ _ _ _
          (same-fact c.trait (read_with (given s.slots) a.environment) (Read a.environment) (read_with (given s.slots) (rules_behind n c).args) (instantiate zero A c.args) s.proper its.proper
          (environment-is s s-allowed refl) (sym (read-as c.args (clause-declared V well.terms i c member (among c (here c cs))) (λ k j e. well.determined i c member (among c (here c cs)) k j e))) (proper-is s s-allowed refl))
          (needs kind cs (λ d j. among d (there d c cs j)))
        where
          cons : (x y : Fact) (xs ys : List Fact) → x ≡ y → xs ≡ ys → x ∷ xs ≡ y ∷ ys
          cons x y xs ys e f = cc

      applies : Applies frame_tables (begin a.kinds) v (by_the_impl V a i) (map (beside g) u.premises)
      applies = record {
        assignment = s;
        allowed = s-allowed;
        own = refl;
        meets = equal-meets s a.reference.args (rules_behind n i.header).args (args-open m f a is_asked closed v places) behind-open header-is;
        needs = needs (is_coinductive V a.reference.trait) i.clauses (λ c j. j) ∙ ap (λ (x : Rule). map (beside g) x.premises) by.is-rule;
      }

    -- ---- it is relevant where it concludes
    label-is : (j k : Label) (x y z w : Trees) → tree j x y ≡ tree k z w → j ≡ k
    label-is j k x y z w e = cc

    no-tree : (k : Label) (x y : Trees) → none ≡ tree k x y → ⊥
    no-tree k x y e = cc

    relevant-rigid : (k : Label) (x y c o : Trees) (B t : Trees) → instantiate zero B t ≡ tree k x y → is_relevant_to (tree k c o) t ≡ true
    relevant-rigid k x y c o B none e = absurd (no-tree k x y e)
    relevant-rigid k x y c o B (tree (param z j) d p) e = refl
    relevant-rigid k x y c o B (tree l d p) e = ap (same_label k) (label-is l k _ _ _ _ e) ∙ same-numbers-self (numbers k)

    relevant-param : (k : Label) (j : ℕ) (y c o : Trees) (B t : Trees) → instantiate zero B t ≡ tree (param of_type j) none y → is_relevant_to (tree k c o) t ≡ true
    relevant-param k j y c o B none e = absurd (no-tree (param of_type j) none y e)
    relevant-param k j y c o B (tree (param z w) d p) e = refl
    relevant-param k j y c o B (tree l d p) e = absurd (let q = label-is l (param of_type j) _ _ _ _ e in cc)

    relevant-place : (k : Label) (j : ℕ) (y c o : Trees) (B t : Trees) → is_made is_declared_leaf terms t ≡ true → instantiate zero B t ≡ tree (placeholder of_type j) none y → is_relevant_to (tree k c o) t ≡ true
    relevant-place k j y c o B none d e = absurd (no-tree (placeholder of_type j) none y e)
    relevant-place k j y c o B (tree (param z w) x p) d e = refl
    relevant-place k j y c o B (tree (placeholder z w) x p) d e = absurd (false-true d)
    relevant-place k j y c o B (tree l x p) d e = absurd (let q = label-is l (placeholder of_type j) _ _ _ _ e in cc)

    relevant : (u : Rule) → ByImpl r i u → is_relevant_to (self_of a) h ≡ true
    relevant u by = first (first-of m well.terms f a is_asked closed v places plain)
      where
        at : instantiate zero A h ≡ Read a.reference.args
        at = ap (λ (x : Reference). x.args) by.is-instance

        first : Unknown a.reference.args ⊎ Rigid a.reference.args → is_relevant_to (self_of a) h ≡ true
        first (inr x) =
            ap (λ t. is_relevant_to (with_plain_head t) h) x.is
            ∙ relevant-rigid (erase_label x.label) (Read x.children) (Read x.others) x.children x.others A h (at ∙ ap Read x.is ∙ rigid-read its.slots x.label x.children x.others x.rigid)
        first (inl x) =
            ap (λ t. is_relevant_to (with_plain_head t) h) x.is
            ∙ place (read-place m f a is_asked closed v places x.number x.children x.others (subst (λ t. is_made (is_variable_over a.kinds) terms t ≡ true) x.is (args-over m f a is_asked closed v places)))
          where
            place : BeginsWithPlace (Read (tree (canonical of_type x.number) x.children x.others)) (Read x.others) → is_relevant_to (tree (canonical of_type x.number) x.children x.others) h ≡ true
            place p = either p.is
              where
                either : (Read (tree (canonical of_type x.number) x.children x.others) ≡ tree (param of_type p.number) none (Read x.others)) ⊎ (Read (tree (canonical of_type x.number) x.children x.others) ≡ tree (placeholder of_type p.number) none (Read x.others))
                    → is_relevant_to (tree (canonical of_type x.number) x.children x.others) h ≡ true
                either (inl e) = relevant-param (canonical of_type x.number) p.number (Read x.others) x.children x.others A h (at ∙ ap Read x.is ∙ e)
                either (inr e) =
                    relevant-place (canonical of_type x.number) p.number (Read x.others) x.children x.others A h (left (is_made is_declared_leaf terms h) (not (some_node is_counted h)) header) (at ∙ ap Read x.is ∙ e)

    matches : (u : Rule) → ByImpl r i u → can_match a.reference.args h ≡ true
    matches u by = both-true (is_relevant_to (self_of a) h) (not (are_apart a.reference.args h)) (relevant u by) (instances-meet its.slots A a.reference.args h (ap (λ (x : Reference). x.args) by.is-instance))
      where
        both-true : (x y : Bool) → x ≡ true → y ≡ true → (x && y) ≡ true
        both-true x y p q = rw (p, q) refl

    trait-is : (u : Rule) → ByImpl r i u → (i.header.trait == a.reference.trait) ≡ true
    trait-is u by = subst (λ z. (z == a.reference.trait) ≡ true) (sym (ap (λ (x : Reference). x.trait) by.is-instance)) (self-number a.reference.trait)

    -- ---- one impl
    abbrev candidates : List Candidate
    candidates = if (i.header.trait == a.reference.trait) && can_match a.reference.args h then by_the_impl V a i ∷ [] else []

    one-impl : AreWaysOf a v g candidates (premises_of (impl_rules r i))
    one-impl = rules (impl_rules r i) refl
      where
        nothing : (b d : Bool) → (i.header.trait == a.reference.trait) ≡ b → impl_rules r i ≡ [] → AreWaysOf a v g (if b && d then by_the_impl V a i ∷ [] else []) []
        nothing true true e q = refused (refuses e q) no_more
        nothing true false e q = no_more
        nothing false d e q = no_more

        something : (b : Bool) → b ≡ true → (u : Rule) → ByImpl r i u → AreWaysOf a v g (if b then by_the_impl V a i ∷ [] else []) (premises_of (u ∷ []))
        something true e u by = applied (applies u by) no_more
        something false e u by = absurd (false-true e)

        both : (b d : Bool) → b ≡ true → d ≡ true → (b && d) ≡ true
        both b d p q = rw (p, q) refl

        alone : (b : Bool) (w : Rule) (u : Rule) (us : List Rule) → (if b then w ∷ [] else []) ≡ u ∷ us → us ≡ []
        alone true w u us e = cc
        alone false w u us e = absurd (cc)

        rules : (us : List Rule) → impl_rules r i ≡ us → AreWaysOf a v g candidates (premises_of (impl_rules r i))
        rules [] e = subst (λ z. AreWaysOf a v g candidates (premises_of z)) (sym e) (nothing (i.header.trait == a.reference.trait) (can_match a.reference.args h) refl e)
        rules (u ∷ us) e =
            let by = impl-rule r i u (subst (In u) (sym e) (here u us)) in
            subst (λ z. AreWaysOf a v g candidates (premises_of z)) (sym (e ∙ ap (λ z. u ∷ z) (alone _ _ u us e)))
            (something ((i.header.trait == a.reference.trait) && can_match a.reference.args h) (both (i.header.trait == a.reference.trait) (can_match a.reference.args h) (trait-is u by) (matches u by)) u by)

  -- ---- all impls
  if-first : (b : Bool) (c : Candidate) (cs : List Candidate) → (if b then c ∷ [] else []) ++ cs ≡ (if b then c ∷ cs else cs)
  if-first true c cs = refl
  if-first false c cs = refl

  all-impls : (is : List ImplDecl) → ((i : ImplDecl) → In i is → In i V.impls) → AreWaysOf a v g (by_impls V a is) (premises_of (flat_map (impl_rules r) is))
  all-impls [] among = no_more
  all-impls (i ∷ is) among =
      subst (λ cs. AreWaysOf a v g cs (premises_of (impl_rules r i ++ flat_map (impl_rules r) is))) (if-first ((i.header.trait == a.reference.trait) && can_match a.reference.args i.header.args) (by_the_impl V a i) (by_impls V a is))
      (both-rules a v g (candidates i (among i (here i is))) (by_impls V a is) (impl_rules r i) (flat_map (impl_rules r) is) (one-impl i (among i (here i is))) (all-impls is (λ j k. among j (there j i is k))))

  pub impls : AreWaysOf a v g (by_impls V a V.impls) (premises_of (flat_map (impl_rules r) V.impls))
  impls = all-impls V.impls (λ i k. k)

  pub impls-at : AreWaysOf a v (goal_fact f v) (by_impls V a V.impls) (premises_of (flat_map (impl_rules (reference_in (goal_fact f v))) V.impls))
  impls-at = subst (λ z. AreWaysOf a v z (by_impls V a V.impls) (premises_of (flat_map (impl_rules (reference_in z)) V.impls))) (sym (instance-stands m f a is_asked closed v places)) impls

pub impls-are-ways : ImplsAreWays
impls-are-ways m well f a e closed v places plain = impls-at m well f a e closed v places plain
