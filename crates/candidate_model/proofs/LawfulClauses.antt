-- The where-clauses of a goal are lawful candidates.
use Rattle.std.proofs.Common.{◌≡◌, ℕ, suc, ◌==◌, Bool, true, not, ◌&&◌, if◌then◌else◌, List, [], ◌∷◌, ◌++◌, ◌⊎◌, inl, inr, refl, sym, ◌∙◌, ap, subst}
use Rattle.std.specs.List.{flat_map}
use Rattle.type_terms.specs.Promised.Label.{Label, param, placeholder, infer, canonical, bound, of_trait, predicate}
use Rattle.type_terms.specs.Promised.Trees.{Trees, none, tree}
use Rattle.type_terms.specs.Promised.Worlds.{World, Reference}
use Rattle.type_terms.specs.Promised.Answers.{is_open}
use Rattle.type_terms.specs.Promised.Rules.{Rule, Way, by_clause, same_reference, clause_rules, super_rules, strict_supertraits, built_in_rules, impl_rules}
use Rattle.type_terms.specs.Promised.Proofs.{In}
use Rattle.type_terms.proofs.Members.{here, there, in-nothing, in-cases, in-left, in-right, same-number, self-number}
use Rattle.type_terms.specs.Made.{terms}
use Rattle.type_terms.specs.Made.{is_made}
use Rattle.infer_table.specs.Canonical.{CanonicalForm}
use Rattle.infer_table.specs.declared.canonical.CanonicalVarKind.{CanonicalVarKind}
use Rattle.goal_evaluator.specs.Lists.{Every}
use Rattle.goal_evaluator.specs.Instances.{read_with}
use Rattle.goal_evaluator.specs.Content.{fits, given, ChosenTerms}
use Rattle.goal_evaluator.specs.FrameTables.{Allows, EquationIsMet, is_open_label}
use Rattle.type_terms.proofs.Made.{false-true}
use Rattle.type_terms.proofs.Walking.{left, right}
use Rattle.goal_evaluator.proofs.Labels.{made-more}
use Rattle.goal_evaluator.specs.TableOperations.{begin}
use Rattle.goal_evaluator.specs.TableOperations.{fresh}
use Rattle.candidate_model.specs.Facts.{FactFollows, clauses_of}
use Rattle.candidate_model.specs.Asking.{GoalOverKinds, all_known, are_clauses}
use Rattle.goal_evaluator.specs.Variables.{is_variable_over}
use Rattle.candidate_model.specs.Candidates.{all_equal}
use Rattle.candidate_model.specs.Cover.{goal_fact, read_reference}
use Rattle.candidate_model.proofs.Cover.{IsAsked}
use Rattle.candidate_model.proofs.Facts.{same-self}
use Rattle.candidate_model.proofs.Moving.{met-reads}
use Rattle.candidate_model.proofs.SoundCandidates.{follows-by}

-- ---- instances of where-clauses
module _ (ts : List Trees) where
  abbrev read : Trees → Trees
  read t = read_with (given ts) t

  clause-in : (ks : List CanonicalVarKind) (E : Trees) → are_clauses ks E ≡ true → (r : Reference) → In r (clauses_of E) → In (read_reference ts r) (clauses_of (read E))
  clause-in ks none h r i = absurd (in-nothing r i)
  clause-in ks (tree (predicate (of_trait t)) c o) h r i =
      by (in-cases r (record { trait = t; args = c }) (clauses_of o) i) (λ j. clause-in ks o (right (is_made (is_variable_over ks) terms c) (are_clauses ks o) h) r j)
    where
      by : (record { trait = t; args = c } ≡ r) ⊎ In r (clauses_of o) → (In r (clauses_of o) → In (read_reference ts r) (clauses_of (read o))) → In (read_reference ts r) (record { trait = t; args = read c } ∷ clauses_of (read o))
      by (inl e) go = subst (λ z. In (read_reference ts z) (record { trait = t; args = read c } ∷ clauses_of (read o))) e (here (record { trait = t; args = read c }) (clauses_of (read o)))
      by (inr j) go = there (read_reference ts r) (record { trait = t; args = read c }) (clauses_of (read o)) (go j)
  clause-in ks (tree (param s m) c o) h r i = absurd (false-true h)
  clause-in ks (tree (placeholder s m) c o) h r i = absurd (false-true h)
  clause-in ks (tree (infer s m) c o) h r i = absurd (false-true h)
  clause-in ks (tree (canonical s m) c o) h r i = absurd (false-true h)
  clause-in ks (tree (bound s m n) c o) h r i = absurd (false-true h)
  clause-in ks (tree l c o) h r i = clause-in ks o (right (is_made (is_variable_over ks) terms c) (are_clauses ks o) h) r i

pub clause-made : (ks : List CanonicalVarKind) (E : Trees) → are_clauses ks E ≡ true → (r : Reference) → In r (clauses_of E) → is_made (is_variable_over ks) terms r.args ≡ true
clause-made ks none h r i = absurd (in-nothing r i)
clause-made ks (tree (predicate (of_trait t)) c o) h r i = by (in-cases r (record { trait = t; args = c }) (clauses_of o) i) (λ j. clause-made ks o (right (is_made (is_variable_over ks) terms c) (are_clauses ks o) h) r j)
  where
    by : (record { trait = t; args = c } ≡ r) ⊎ In r (clauses_of o) → (In r (clauses_of o) → is_made (is_variable_over ks) terms r.args ≡ true) → is_made (is_variable_over ks) terms r.args ≡ true
    by (inl e) go = subst (λ (z : Reference). is_made (is_variable_over ks) terms z.args ≡ true) e (left (is_made (is_variable_over ks) terms c) (are_clauses ks o) h)
    by (inr j) go = go j
clause-made ks (tree l c o) h r i = clause-made ks o (right (is_made (is_variable_over ks) terms c) (are_clauses ks o) (right (not (is_open l)) (is_made (is_variable_over ks) terms c && are_clauses ks o) h)) r i

-- ---- the rule of a where-clause
abbrev alone : Way → Rule
alone w = record { way = w; premises = [] }

-- a where-clause that is the reference concludes it
pub clause-rule : (V : World) (r : Reference) (k : ℕ) (E : List Reference) → In r E → (w : Way) × In (alone w) (clause_rules V r k E)
clause-rule V r k [] i = absurd (in-nothing r i)
clause-rule V r k (s ∷ E) i = by (in-cases r s E i) (λ j. clause-rule V r (suc k) E j)
  where
    same-all : same_reference r r ≡ true
    same-all = let p = self-number r.trait in let q = same-self r.args in rw (p, q) refl

    by : (s ≡ r) ⊎ In r E → (In r E → (w : Way) × In (alone w) (clause_rules V r (suc k) E))
        → (w : Way) × In (alone w) ((if same_reference s r then alone (by_clause k) ∷ [] else []) ++ (super_rules r k 0 (strict_supertraits V s) ++ clause_rules V r (suc k) E))
    by (inl e) go = (
      by_clause k,
      in-left (alone (by_clause k)) (if same_reference s r then alone (by_clause k) ∷ [] else []) (super_rules r k 0 (strict_supertraits V s) ++ clause_rules V r (suc k) E)
          (subst (λ (b : Bool). In (alone (by_clause k)) (if b then alone (by_clause k) ∷ [] else [])) (sym (ap (λ z. same_reference z r) e ∙ same-all)) (here (alone (by_clause k)) [])),
    )
    by (inr j) go =
        let x = go j in (
          x.0,
          in-right (alone x.0) (if same_reference s r then alone (by_clause k) ∷ [] else []) (super_rules r k 0 (strict_supertraits V s) ++ clause_rules V r (suc k) E)
              (in-right (alone x.0) (super_rules r k 0 (strict_supertraits V s)) (clause_rules V r (suc k) E) x.1),
        )

module _ (V : World) (f : CanonicalForm) (a : GoalOverKinds) (is : IsAsked V f.goal.environment f.goal.predicate (all_known f.kinds) a) (are : are_clauses a.kinds a.environment ≡ true) where
  open-over : (t : Trees) → is_made (is_variable_over a.kinds) terms t ≡ true → is_made is_open_label terms t ≡ true
  open-over t h = made-more (is_variable_over a.kinds) is_open_label by terms t h
    where
      by : (l : Label) → is_variable_over a.kinds l ≡ true → is_open_label l ≡ true
      by (infer k v) g = absurd (false-true g)
      by (param k v) g = absurd (false-true g)
      by (placeholder k v) g = absurd (false-true g)
      by l g = refl

  -- where the goal's arguments are those of a where-clause, it follows by the clause
  pub clause-sound : (r : Reference) → In r (clauses_of a.environment) → (r.trait == a.reference.trait) ≡ true → (s : ChosenTerms) → Allows (fresh (begin a.kinds) []) s → (s.own.proper && fits f.kinds s.own.terms) ≡ true
      → Every (λ e. EquationIsMet e s) (all_equal a.reference.args r.args) → FactFollows V (goal_fact f s.own) []
  clause-sound r i q s l proper m = by (clause-rule V (read_reference s.slots a.reference) 0 (clauses_of (read_with (given s.slots) a.environment)) stands)
    where
      args-are : read_with (given s.slots) a.reference.args ≡ read_with (given s.slots) r.args
      args-are = met-reads s.slots a.reference.args r.args (open-over a.reference.args is.over) (open-over r.args (clause-made a.kinds a.environment are r i)) m

      same-references : (t u : ℕ) (x y : Trees) → t ≡ u → x ≡ y → ◌≡◌ {A = Reference} (record { trait = t; args = x }) (record { trait = u; args = y })
      same-references t u x y e g = cc

      stands : In (read_reference s.slots a.reference) (clauses_of (read_with (given s.slots) a.environment))
      stands =
          subst (λ z. In z (clauses_of (read_with (given s.slots) a.environment))) (same-references r.trait a.reference.trait _ _ (same-number r.trait a.reference.trait q) (sym args-are))
          (clause-in s.slots a.kinds a.environment are r i)

      by : (w : Way) × In (alone w) (clause_rules V (read_reference s.slots a.reference) 0 (clauses_of (read_with (given s.slots) a.environment))) → FactFollows V (goal_fact f s.own) []
      by x =
          follows-by V f a is are [] s l proper true x.0 []
          (in-right (alone x.0) (flat_map (impl_rules (read_reference s.slots a.reference)) V.impls) (built_in_rules V (read_reference s.slots a.reference) ++ clause_rules V (read_reference s.slots a.reference) 0 (clauses_of (read_with (given s.slots) a.environment)))
          (in-right (alone x.0) (built_in_rules V (read_reference s.slots a.reference)) (clause_rules V (read_reference s.slots a.reference) 0 (clauses_of (read_with (given s.slots) a.environment))) x.1)) tt
