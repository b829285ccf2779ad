-- The candidates of where-clauses are the rule instances by these.
use Rattle.std.proofs.Common.{◌≡◌, ◌==◌, Bool, true, false, not, ◌&&◌, ◌||◌, if◌then◌else◌, List, [], ◌∷◌, refl, sym, ◌∙◌, ap, subst, Some}
use Rattle.type_terms.specs.Promised.Label.{Label, of_type, of_const, of_lifetime, dynamic, principal, auto_trait, infer, param, placeholder, canonical, bound, static, of_trait, predicate}
use Rattle.type_terms.specs.Promised.Trees.{Trees, none, tree, sort_of}
use Rattle.type_terms.specs.Trees.{is_a, is_no_tree}
use Rattle.type_terms.specs.Codes.{same}
use Rattle.type_terms.specs.Promised.Worlds.{Reference}
use Rattle.type_terms.proofs.Matching.{same-sound}
use Rattle.type_terms.proofs.Walking.{left, right}
use Rattle.type_terms.specs.Made.{terms, bounds, is_leaf_label, is_made}
use Rattle.type_terms.proofs.Made.{false-true}
use Rattle.infer_table.specs.Canonical.{CanonicalForm}
use Rattle.goal_evaluator.specs.Lists.{Every}
use Rattle.goal_evaluator.proofs.ListLaws.{Every-both}
use Rattle.goal_evaluator.specs.declared.candidate.CandidateSource.TheVariants.{ParamEnv}
use Rattle.goal_evaluator.specs.Instances.{read_with, default_label}
use Rattle.goal_evaluator.specs.Content.{Values, Fact, ChosenTerms, given}
use Rattle.goal_evaluator.specs.FrameTables.{Allows, EquationIsMet, Equation, is_open_label, term_of}
use Rattle.goal_evaluator.specs.TableOperations.{begin, fresh}
use Rattle.goal_evaluator.specs.Tables.{frame_tables}
use Rattle.goal_evaluator.specs.Variables.{is_variable_over}
use Rattle.goal_evaluator.proofs.Readings.{reads-agree}
use Rattle.goal_evaluator.proofs.Slots.{slots-agree}
use Rattle.solver_completeness.specs.Closed.{EquationsRefuse, no_more, refused, applied}
use Rattle.solver_completeness.specs.ClosedTables.{AreClosed, ArePlaces}
use Rattle.candidate_model.specs.Facts.{clauses_of, reference_in}
use Rattle.candidate_model.specs.Meaning.{ViewMeaning}
use Rattle.candidate_model.specs.Asking.{GoalOverKinds, goal_over_kinds, clauses, are_clauses}
use Rattle.candidate_model.specs.Candidates.{first_value, all_equal, by_rule, can_be, by_clauses, clause_source}
use Rattle.declarations.specs.Apart.{are_apart}
use Rattle.candidate_model.proofs.Apart.{reads-meet}
use Rattle.candidate_model.specs.Cover.{goal_fact}
use Rattle.candidate_model.proofs.EquationTerms.{IsOpenTerms, first-made, made-open, rests, rest-made, leaf-is, one-is, term-is}
use Rattle.candidate_model.proofs.Facts.{same-self}
use Rattle.candidate_model.proofs.Impls.{pairwise}
use Rattle.candidate_model.proofs.Moving.{met-reads}
use Rattle.solver_completeness.specs.RowWays.{clause_ways, AreWaysOf, ClausesAreWays}
use Rattle.solver_completeness.proofs.Instances.{is, are, terms_of, allowed, Read, instance, instance-is, rule-applies}
use Rattle.type_terms.proofs.BooleanBasics.{both}

abbrev AreTerms : List Equation → Type 0
AreTerms es = Every (λ (e : Equation). (term_of e.left ≡ e.left.trees) × (term_of e.right ≡ e.right.trees)) es

all-terms : (x y : Trees) → IsOpenTerms x → IsOpenTerms y → AreTerms (all_equal x y)
all-terms none none h g = tt
all-terms none (tree m d p) h g = ((refl, refl), tt)
all-terms (tree l c o) none h g = ((refl, refl), tt)
all-terms (tree l c o) (tree m d p) h g = ((term-is l c o h, term-is m d p g), all-terms o p (rest-made l c o h) (rest-made m d p g))

-- lists that are read as one meet their equations
pub equal-meets : (s : ChosenTerms) (x y : Trees) → IsOpenTerms x → IsOpenTerms y → read_with (given s.slots) x ≡ read_with (given s.slots) y → Every (λ e. EquationIsMet e s) (all_equal x y)
equal-meets s x y h g e =
    Every-both (λ (q : Equation). (term_of q.left ≡ q.left.trees) × (term_of q.right ≡ q.right.trees)) (λ (q : Equation). read_with (given s.slots) q.left.trees ≡ read_with (given s.slots) q.right.trees) (λ q. EquationIsMet q s)
    (λ q t r. ap (read_with (given s.slots)) t.0 ∙ r ∙ sym (ap (read_with (given s.slots)) t.1)) (all_equal x y) (all-terms x y h g) (pairwise s.slots x y e)

module _ (m : ViewMeaning) (f : CanonicalForm) (a : GoalOverKinds) (is_asked : goal_over_kinds m.view f ≡ Some a) (closed : AreClosed f.kinds) (v : Values) (places : ArePlaces f.kinds v) where
  abbrev read : Trees → Trees
  read t = Read m f a is_asked closed v places t

  abbrev its_instance : Fact
  its_instance = instance m f a is_asked closed v places

  abbrev its_terms : ChosenTerms
  its_terms = terms_of m f a is_asked closed v places

  args-over : is_made (is_variable_over a.kinds) terms a.reference.args ≡ true
  args-over = (is m f a is_asked closed v places).over

  open-args : IsOpenTerms a.reference.args
  open-args = made-open a.kinds terms a.reference.args args-over

  -- terms for the same values read made terms as one
  reads-as : (s : ChosenTerms) → Allows (fresh (begin a.kinds) []) s → s.own ≡ v → (x : Trees) → is_made (is_variable_over a.kinds) terms x ≡ true → read_with (given s.slots) x ≡ read x
  reads-as s l e x h = reads-agree s.slots its_terms.slots x (slots-agree (fresh (begin a.kinds) []) s its_terms l (allowed m f a is_asked closed v places) e x h)

  clause-refuses : (r : Reference) → is_made (is_variable_over a.kinds) terms r.args ≡ true → same (read r.args) (read a.reference.args) ≡ false
      → EquationsRefuse frame_tables (begin a.kinds) v (by_rule m.view a (ParamEnv (clause_source r)) (all_equal a.reference.args r.args) [])
  clause-refuses r h no_same s l e meets =
      let equal : read a.reference.args ≡ read r.args = sym (reads-as s l e a.reference.args args-over) ∙ met-reads s.slots a.reference.args r.args open-args (made-open a.kinds terms r.args h) meets ∙ reads-as s l e r.args h in
      false-true (sym no_same ∙ ap (λ z. same (read r.args) z) equal ∙ same-self (read r.args))

  -- the where-clause, and then others
  one-clause : (r : Reference) → is_made (is_variable_over a.kinds) terms r.args ≡ true → (rs others : List Reference) → AreWaysOf a v its_instance (by_clauses m.view a rs) (clause_ways (reference_in its_instance) others)
      → (b n : Bool) → not (are_apart a.reference.args r.args) ≡ n → (d : Bool) → same (read r.args) (read a.reference.args) ≡ d
      → AreWaysOf a v its_instance (if b && n then by_rule m.view a (ParamEnv (clause_source r)) (all_equal a.reference.args r.args) [] ∷ by_clauses m.view a rs else by_clauses m.view a rs)
      (if b && d then [] ∷ clause_ways (reference_in its_instance) others else clause_ways (reference_in its_instance) others)
  one-clause r h rs others u true true e true g =
      applied (rule-applies m f a is_asked closed v places (ParamEnv (clause_source r)) (all_equal a.reference.args r.args) []
      (equal-meets its_terms a.reference.args r.args open-args (made-open a.kinds terms r.args h) (sym (same-sound (read r.args) (read a.reference.args) g)))) u
  one-clause r h rs others u true true e false g = refused (clause-refuses r h g) u
  one-clause r h rs others u true false e true g = absurd (false-true (sym e ∙ reads-meet its_terms.slots a.reference.args r.args (sym (same-sound (read r.args) (read a.reference.args) g))))
  one-clause r h rs others u true false e false g = u
  one-clause r h rs others u false n e d g = u

  all-clauses : (E : Trees) → are_clauses a.kinds E ≡ true → AreWaysOf a v its_instance (by_clauses m.view a (clauses_of E)) (clause_ways (reference_in its_instance) (clauses_of (read E)))
  all-clauses none h = no_more
  all-clauses (tree (predicate (of_trait t)) c o) h =
      one-clause (record { trait = t; args = c }) (left (is_made (is_variable_over a.kinds) terms c) (are_clauses a.kinds o) h) (clauses_of o) (clauses_of (read o))
      (all-clauses o (right (is_made (is_variable_over a.kinds) terms c) (are_clauses a.kinds o) h)) (t == a.reference.trait) (not (are_apart a.reference.args c)) refl (same (read c) (read a.reference.args)) refl
  all-clauses (tree (param s i) c o) h = absurd (false-true h)
  all-clauses (tree (placeholder s i) c o) h = absurd (false-true h)
  all-clauses (tree (infer s i) c o) h = absurd (false-true h)
  all-clauses (tree (canonical s i) c o) h = absurd (false-true h)
  all-clauses (tree (bound s i n) c o) h = absurd (false-true h)
  all-clauses (tree l c o) h = all-clauses o (right (is_made (is_variable_over a.kinds) terms c) (are_clauses a.kinds o) h)

  pub clauses-at : AreWaysOf a v (goal_fact f v) (by_clauses m.view a (clauses a)) (clause_ways (reference_in (goal_fact f v)) (clauses_of (goal_fact f v).goal.environment))
  clauses-at =
      subst (λ (g : Fact). AreWaysOf a v g (by_clauses m.view a (clauses a)) (clause_ways (reference_in g) (clauses_of g.goal.environment))) (sym (instance-is m f a is_asked closed v places))
      (all-clauses a.environment (are m f a is_asked closed v places))

pub clauses-are-ways : ClausesAreWays
clauses-are-ways m f a e closed v places = clauses-at m f a e closed v places
