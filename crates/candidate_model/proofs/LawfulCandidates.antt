-- The candidates of a goal are lawful, where they are sound and narrow.
use Rattle.std.proofs.Common.{◌≡◌, ℕ, ◌≤◌, ◌==◌, max, Bool, true, false, not, ◌&&◌, ◌||◌, if◌then◌else◌, List, [], ◌∷◌, map, length, ◌⊎◌, inl, inr, refl, sym, ap, subst, arith, Option, Some, None}
use Rattle.std.specs.List.{list_all}
use Rattle.type_terms.specs.Promised.Label.{of_trait, predicate}
use Rattle.type_terms.specs.Promised.Trees.{Trees, none, tree, some_node}
use Rattle.type_terms.specs.Promised.Worlds.{World, Reference, StructDecl, TraitDecl, ImplDecl}
use Rattle.type_terms.specs.Promised.Rules.{unsize, is_coinductive}
use Rattle.type_terms.specs.Promised.Answers.{written_in}
use Rattle.type_terms.specs.Promised.Proofs.{In}
use Rattle.type_terms.proofs.Members.{here, there, in-cases, in-nothing}
use Rattle.type_terms.proofs.NoHolds.{member-each}
use Rattle.type_terms.proofs.Walking.{left, right}
use Rattle.type_terms.specs.Made.{terms}
use Rattle.type_terms.specs.Made.{is_made}
use Rattle.infer_table.specs.Canonical.{CanonicalForm}
use Rattle.infer_table.specs.declared.canonical.CanonicalVarKind.{CanonicalVarKind}
use Rattle.infer_table.specs.declared.certainty.Certainty.TheVariants.{Yes}
use Rattle.infer_table.specs.declared.certainty.TypingMode.{TypingMode}
use Rattle.infer_table.specs.Responses.{AnswerTrees}
use Rattle.goal_evaluator.specs.Lists.{Every}
use Rattle.goal_evaluator.specs.Handler.{Handled}
use Rattle.goal_evaluator.specs.declared.candidate.CandidateSource.TheVariants.{ParamEnv}
use Rattle.goal_evaluator.proofs.ListLaws.{Every-both, among-all}
use Rattle.goal_evaluator.specs.Content.{ChosenTerms, trait_of}
use Rattle.goal_evaluator.specs.FrameTables.{kinds_known, Allows, EquationIsMet, Nested, fact}
use Rattle.goal_evaluator.specs.Promised.Widths.{width, count}
use Rattle.goal_evaluator.specs.Widths.{width_of_predicates}
use Rattle.goal_evaluator.specs.TableOperations.{begin}
use Rattle.goal_evaluator.specs.TableOperations.{fresh}
use Rattle.goal_evaluator.specs.Tables.{frame_tables}
use Rattle.goal_evaluator.specs.Handler.{CandidateIsLawful}
use Rattle.candidate_model.specs.Facts.{is_coinductive_trait, clauses_of}
use Rattle.candidate_model.specs.Meaning.{ViewMeaning}
use Rattle.candidate_model.specs.Asking.{GoalOverKinds, goal_over_kinds, asked_with, all_known, are_clauses, begins_with_type, next_of, clauses}
use Rattle.goal_evaluator.specs.Variables.{is_variable_over}
use Rattle.declarations.specs.Apart.{are_apart}
use Rattle.candidate_model.specs.Candidates.{Candidate, premise, by_rule, by_the_impl, unknowable, can_be, by_clauses, rules_behind, clause_source, all_equal}
use Rattle.candidate_model.specs.Declared.{are_terms, are_references, is_declared_view, is_declared_leaf, is_counted}
use Rattle.candidate_model.specs.Determined.{ImplsAreDetermined}
use Rattle.candidate_model.specs.Solver.{solver_handled}
use Rattle.candidate_model.specs.Promised.Widths.{declared_width}
use Rattle.candidate_model.specs.Cover.{all_candidates}
use Rattle.candidate_model.specs.Lawful.{IsSoundFor}
use Rattle.candidate_model.proofs.Premises.{IsNarrow, other_candidates}
use Rattle.candidate_model.proofs.Cover.{IsAsked, asked-by, known-kinds}
use Rattle.candidate_model.proofs.Determined.{premises-step, facts-same, clause-fact}
use Rattle.candidate_model.proofs.CandidateWidths.{equal-within}
use Rattle.candidate_model.proofs.CandidateKinds.{IsMadeAs, all-made}
use Rattle.candidate_model.proofs.LawfulClauses.{clause-sound}
use Rattle.goal_evaluator.proofs.Basics.{every-append}
use Rattle.candidate_model.proofs.TypeBasics.{if-asked}

-- ---- what is asked has where-clauses over its variables
pub asked-clauses : (V : World) (environment asks : Trees) (kinds : Option (List CanonicalVarKind)) (a : GoalOverKinds) → asked_with V environment asks kinds ≡ Some a → are_clauses a.kinds a.environment ≡ true
asked-clauses V environment (tree (predicate (of_trait t)) args none) (Some ks) a e =
    let own : GoalOverKinds = record { kinds = ks; environment = environment; reference = record { trait = t; args = args } } in
    let x = if-asked (written_in V own.reference && (is_made (is_variable_over ks) terms args && ((begins_with_type args && (not (t == unsize) || begins_with_type (next_of args))) && are_clauses ks environment))) own a e in
    let q = right (written_in V own.reference) (is_made (is_variable_over ks) terms args && ((begins_with_type args && (not (t == unsize) || begins_with_type (next_of args))) && are_clauses ks environment)) x.0 in
    subst (λ (z : GoalOverKinds). are_clauses z.kinds z.environment ≡ true) x.1
    (right (begins_with_type args && (not (t == unsize) || begins_with_type (next_of args))) (are_clauses ks environment) (right (is_made (is_variable_over ks) terms args) ((begins_with_type args && (not (t == unsize) || begins_with_type (next_of args))) && are_clauses ks environment) q))
asked-clauses V environment (tree (predicate (of_trait t)) args none) None a e = absurd (cc)
asked-clauses V environment asks kinds a e = absurd (cc)

module _ (applicable : AnswerTrees → Bool) (same : AnswerTrees → AnswerTrees → Bool) (m : ViewMeaning) (declared : is_declared_view m.view ≡ true) (determined : ImplsAreDetermined m.view) (mode : TypingMode) (f : CanonicalForm) (a : GoalOverKinds)
    (is : goal_over_kinds m.view f ≡ Some a) where
  abbrev V : World
  V = m.view

  abbrev h : Handled frame_tables
  h = solver_handled applicable same m mode f

  parts : IsAsked V f.goal.environment f.goal.predicate (all_known f.kinds) a
  parts = asked-by V f.goal.environment f.goal.predicate (all_known f.kinds) a is

  are : are_clauses a.kinds a.environment ≡ true
  are = asked-clauses V f.goal.environment f.goal.predicate (all_known f.kinds) a is

  kinds-are : kinds_known f.kinds ≡ a.kinds
  kinds-are = known-kinds f.kinds a.kinds parts.kinds_are

  allowed : (own : List CanonicalVarKind) (s : ChosenTerms) → Allows (fresh h.begin own) s → Allows (fresh (begin a.kinds) own) s
  allowed own s l = subst (λ ks. Allows (fresh (begin ks) own) s) kinds-are l

  coinductive-is : is_coinductive V a.reference.trait ≡ h.coinductive
  coinductive-is = ap (λ p. is_coinductive_trait V (trait_of p)) (sym parts.predicate_is)

  impl-declared : (i : ImplDecl) → In i V.impls → (are_terms i.header.args ≡ true) × (are_references i.clauses ≡ true)
  impl-declared i j =
      let later = right (list_all (λ (x : StructDecl). list_all are_terms x.fields) V.structs) (list_all (λ (x : TraitDecl). are_references x.bounds) V.traits && list_all (λ (x : ImplDecl). are_terms x.header.args && are_references x.clauses) V.impls) declared in
      let impls = right (list_all (λ (x : TraitDecl). are_references x.bounds) V.traits) (list_all (λ (x : ImplDecl). are_terms x.header.args && are_references x.clauses) V.impls) later in
      let one = member-each (λ (x : ImplDecl). are_terms x.header.args && are_references x.clauses) V.impls i impls j in
      (left (are_terms i.header.args) (are_references i.clauses) one, right (are_terms i.header.args) (are_references i.clauses) one)

  made : (t : Trees) → are_terms t ≡ true → is_made is_declared_leaf terms t ≡ true
  made t e = left (is_made is_declared_leaf terms t) (not (some_node is_counted t)) e

  -- ---- steps and unknowns
  abbrev Steps : Candidate → Type 0
  Steps c = c.certainty ≡ Yes → Every (λ (n : Nested). n.coinductive ≡ h.coinductive) c.nested

  abbrev Determines : Candidate → Type 0
  Determines c =
      (s r : ChosenTerms) → Allows (fresh (begin a.kinds) c.kinds) s → Allows (fresh (begin a.kinds) c.kinds) r → Every (λ e. EquationIsMet e s) c.equations → Every (λ e. EquationIsMet e r) c.equations → s.own ≡ r.own → Every (λ n. fact n s ≡ fact n r) c.nested

  steps-of : (rs : List Reference) → Every (λ (n : Nested). n.coinductive ≡ h.coinductive) (map (premise a (is_coinductive V a.reference.trait)) rs)
  steps-of rs = subst (λ k. Every (λ (n : Nested). n.coinductive ≡ k) (map (premise a (is_coinductive V a.reference.trait)) rs)) coinductive-is (premises-step a (is_coinductive V a.reference.trait) rs)

  steps : (c : Candidate) → IsMadeAs V a c → Steps c
  steps c (r, inl x) = subst Steps (sym x.3) (λ y. steps-of x.2)
  steps c (r, inr (inl e)) = subst Steps (sym e) (λ y. tt)
  steps c (r, inr (inr x)) = subst Steps (sym x.2) (λ y. steps-of (map (rules_behind (length a.kinds)) x.0.clauses))

  impl-determines : (i : ImplDecl) → In i V.impls → Determines (by_the_impl V a i)
  impl-determines i j s r l k p q e = each i.clauses (λ c u. u)
    where
      each : (cs : List Reference) → ((c : Reference) → In c cs → In c i.clauses) → Every (λ n. fact n s ≡ fact n r) (map (premise a (is_coinductive V a.reference.trait)) (map (rules_behind (length a.kinds)) cs))
      each [] g = tt
      each (c ∷ cs) g = (
        clause-fact a parts.over are (by_the_impl V a i).kinds i.header.args (made i.header.args (impl-declared i j).0) s r l k p q e (is_coinductive V a.reference.trait) c
            (made c.args (member-each (λ (z : Reference). are_terms z.args) i.clauses c (impl-declared i j).1 (g c (here c cs)))) (λ sort n w. determined i c j (g c (here c cs)) sort n w),
        each cs (λ d u. g d (there d c cs u)),
      )

  -- whatever its certainty
  pub determines : (c : Candidate) → IsMadeAs V a c → Determines c
  determines c (k, inl x) = subst Determines (sym x.3) (λ s r l k p q e. facts-same a.kinds s r l k e (by_rule V a x.0 x.1 x.2).nested)
  determines c (k, inr (inl e)) = subst Determines (sym e) (λ s r l k p q g. tt)
  determines c (k, inr (inr x)) = subst Determines (sym x.2) (impl-determines x.0 x.1)

  -- ---- laws
  lawful : (c : Candidate) → IsMadeAs V a c → IsSoundFor m f a c → IsNarrow h.widest c → CandidateIsLawful frame_tables h c
  lawful c made sound narrow = record {
    sound = λ y s l e. record { premises = map (λ n. fact n s) c.nested; rule = sound y s (allowed c.kinds s l) e; each = among-all (map (λ n. fact n s) c.nested) };
    steps = λ y T. steps c made y;
    determined = λ s r l k p q e. determines c made s r (allowed c.kinds s l) (allowed c.kinds r k) p q e;
    equations_within = narrow.0;
    nested_within = narrow.1;
  }

  unknowable-lawful : IsNarrow h.widest (unknowable V a) → CandidateIsLawful frame_tables h (unknowable V a)
  unknowable-lawful narrow = record { sound = λ y. absurd (cc); steps = λ y T. absurd (cc); determined = λ s r l k p q e. facts-same a.kinds s r (allowed (unknowable V a).kinds s l) (allowed (unknowable V a).kinds r k) e (unknowable V a).nested; equations_within = narrow.0; nested_within = narrow.1 }

  -- ---- where-clauses are sound and narrow
  abbrev of_clause : Reference → Candidate
  of_clause r = by_rule V a (ParamEnv (clause_source r)) (all_equal a.reference.args r.args) []

  clause-is-sound : (r : Reference) → In r (clauses_of a.environment) → (r.trait == a.reference.trait) ≡ true → IsSoundFor m f a (of_clause r)
  clause-is-sound r i q y s l e proper plain = clause-sound V f a parts are r i q s l proper e

  goal-width : width a.reference.args ≤ h.widest
  goal-width = by (width_of_predicates f.goal.environment) (declared_width V) (count a.reference.args) (width a.reference.args) (width_of_predicates f.goal.predicate) (ap width_of_predicates parts.predicate_is)
    where
      by : (e d c w p : ℕ) → p ≡ max c (max w 0) → w ≤ max (max e p) d
      by e d c w p q = omega (arith, q)

  clause-width : (r : Reference) → In r (clauses_of a.environment) → width r.args ≤ h.widest
  clause-width r i = by (width_of_predicates a.environment) (width_of_predicates f.goal.environment) (width_of_predicates f.goal.predicate) (declared_width V) (width r.args) (ap width_of_predicates parts.environment_is) (inside a.environment r i)
    where
      by : (x e p d w : ℕ) → e ≡ x → w ≤ x → w ≤ max (max e p) d
      by x e p d w q g = omega (arith, q, g)

      inside : (E : Trees) (q : Reference) → In q (clauses_of E) → width q.args ≤ width_of_predicates E
      inside none q j = absurd (in-nothing q j)
      inside (tree (predicate (of_trait t)) c o) q j = at (in-cases q (record { trait = t; args = c }) (clauses_of o) j) (λ k. inside o q k)
        where
          more : (x y z w : ℕ) → w ≤ z → w ≤ max x (max y z)
          more x y z w g = omega (arith, g)

          own : (x y z : ℕ) → y ≤ max x (max y z)
          own x y z = omega arith

          at : (record { trait = t; args = c } ≡ q) ⊎ In q (clauses_of o) → (In q (clauses_of o) → width q.args ≤ width_of_predicates o) → width q.args ≤ max (count c) (max (width c) (width_of_predicates o))
          at (inl e) go = subst (λ (z : Reference). width z.args ≤ max (count c) (max (width c) (width_of_predicates o))) e (own (count c) (width c) (width_of_predicates o))
          at (inr k) go = more (count c) (width c) (width_of_predicates o) (width q.args) (go k)
      inside (tree l c o) q j = more (count c) (width c) (width_of_predicates o) (width q.args) (inside o q j)
        where
          more : (x y z w : ℕ) → w ≤ z → w ≤ max x (max y z)
          more x y z w g = omega (arith, g)

  each-clause : (rs : List Reference) → ((r : Reference) → In r rs → In r (clauses_of a.environment)) → Every (λ c. IsSoundFor m f a c × IsNarrow h.widest c) (by_clauses V a rs)
  each-clause [] g = tt
  each-clause (r ∷ rs) g = by (can_be a.reference r) refl (each-clause rs (λ q k. g q (there q r rs k)))
    where
      by : (b : Bool) → can_be a.reference r ≡ b → Every (λ c. IsSoundFor m f a c × IsNarrow h.widest c) (by_clauses V a rs)
          → Every (λ c. IsSoundFor m f a c × IsNarrow h.widest c) (if b then of_clause r ∷ by_clauses V a rs else by_clauses V a rs)
      by true q e = ((clause-is-sound r (g r (here r rs)) (left (r.trait == a.reference.trait) (not (are_apart a.reference.args r.args)) q), (equal-within h.widest a.reference.args r.args goal-width (clause-width r (g r (here r rs))), tt)), e)
      by false q e = e

  pub each-lawful : Every (IsSoundFor m f a) (other_candidates m a) → Every (IsNarrow h.widest) (unknowable V a ∷ other_candidates m a) → Every (CandidateIsLawful frame_tables h) (unknowable V a ∷ all_candidates V a)
  each-lawful sound narrow = (
    unknowable-lawful narrow.0,
    Every-both (IsMadeAs V a) (λ c. IsSoundFor m f a c × IsNarrow h.widest c) (CandidateIsLawful frame_tables h) (λ c x y. lawful c x y.0 y.1) (all_candidates V a) (all-made V a)
        (every-append (λ c. IsSoundFor m f a c × IsNarrow h.widest c) (by_clauses V a (clauses a)) (other_candidates m a) (each-clause (clauses a) (λ r k. k))
        (Every-both (IsSoundFor m f a) (IsNarrow h.widest) (λ c. IsSoundFor m f a c × IsNarrow h.widest c) (λ c x y. (x, y)) (other_candidates m a) sound narrow.1)),
  )
