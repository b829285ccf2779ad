-- The candidates of built-in rules that depend only on the outermost types are the rule instances by these rules.
use Rattle.std.proofs.Common.{◌≡◌, ℕ, Bool, true, false, ◌||◌, ◌==◌, if◌then◌else◌, List, [], ◌∷◌, map, ◌⊎◌, inl, inr, refl, sym, ◌∙◌, ap, subst, Some}
use Rattle.type_terms.specs.Promised.Label.{Label, of_type, canonical, param, placeholder}
use Rattle.type_terms.specs.Promised.Trees.{Trees, tree, erase_label, some_node, none}
use Rattle.type_terms.specs.Promised.Rules.{Rule, sized, copy, clone, tuple_trait, fn_ptr_trait, is_auto, is_written, sized_rules, copy_rules, auto_rules, tuple_rules, fn_ptr_rules}
use Rattle.type_terms.proofs.Fitting.{child-shut}
use Rattle.type_terms.specs.Made.{terms, is_made}
use Rattle.infer_table.specs.Canonical.{CanonicalForm}
use Rattle.goal_evaluator.specs.declared.candidate.CandidateSource.{CandidateSource}
use Rattle.goal_evaluator.specs.declared.candidate.CandidateSource.TheVariants.{BuiltinImpl}
use Rattle.goal_evaluator.specs.declared.candidate.BuiltinImplSource.TheVariants.{Trivial}
use Rattle.goal_evaluator.specs.Content.{Values, Fact}
use Rattle.goal_evaluator.specs.Variables.{is_variable_over}
use Rattle.solver_completeness.specs.Closed.{no_more, applied}
use Rattle.solver_completeness.specs.ClosedTables.{AreClosed, ArePlaces}
use Rattle.candidate_model.specs.Facts.{is_plain, is_unerased, reference_in}
use Rattle.candidate_model.specs.Declared.{is_declared_view}
use Rattle.candidate_model.specs.Meaning.{ViewMeaning}
use Rattle.candidate_model.specs.Asking.{GoalOverKinds, goal_over_kinds, is_rigid, self_of, with_plain_head}
use Rattle.candidate_model.specs.Candidates.{misc, if_so, as_written}
use Rattle.candidate_model.specs.Cover.{goal_fact}
use Rattle.candidate_model.proofs.ByView.{rigid-read, rigid-head}
use Rattle.candidate_model.proofs.Instances.{is_bound}
use Rattle.candidate_model.proofs.PlainRules.{Plain, plain-unbound}
use Rattle.candidate_model.proofs.Rows.{read_rule, sized-unbound, copy-natural, auto-unbound, tuple-natural, fn-ptr-natural}
use Rattle.candidate_model.proofs.SoundRows.{Unknown, Rigid, unknown-or-rigid, Held, held}
use Rattle.solver_completeness.specs.SolverWays.{premises_of}
use Rattle.solver_completeness.specs.RowWays.{AreWaysOf, RowsAreWaysAt, RowsAreWays}
use Rattle.solver_completeness.proofs.Instances.{is, terms_of, allowed, proper, Read, instance, instance-is, rule-applies, BeginsWithPlace, read-place}

module _ (m : ViewMeaning) (declared : is_declared_view m.view ≡ true) (f : CanonicalForm) (a : GoalOverKinds) (is_asked : goal_over_kinds m.view f ≡ Some a) (closed : AreClosed f.kinds) (v : Values) (places : ArePlaces f.kinds v)
    (plain : is_plain (goal_fact f v) ≡ true) where
  abbrev read : Trees → Trees
  read t = Read m f a is_asked closed v places t

  abbrev its_instance : Fact
  its_instance = instance m f a is_asked closed v places

  abbrev pub read_all : Rule → Rule
  read_all u = read_rule m.view declared (terms_of m f a is_asked closed v places).slots u

  pub is-held : Held m declared f a is_asked (terms_of m f a is_asked closed v places)
  is-held = held m declared f a is_asked (terms_of m f a is_asked closed v places) (allowed m f a is_asked closed v places) (proper m f a is_asked closed v places) plain

  -- each rule of the goal as it is written applies with its premises
  pub written-ways : (source : CandidateSource) (us : List Rule) → AreWaysOf a v its_instance (as_written m.view a source us) (premises_of (map read_all us))
  written-ways source [] = no_more
  written-ways source (u ∷ us) = applied (rule-applies m f a is_asked closed v places source [] u.premises tt) (written-ways source us)

  -- ---- the rules of the instance are the instances of the rules
  abbrev Stays : (Trees → List Rule) → Type 0
  Stays F = F (read a.reference.args) ≡ map read_all (F (self_of a))

  stays : (F : Trees → List Rule) → ((i : ℕ) (c o : Trees) → F (tree (canonical of_type i) c o) ≡ [])
      → ((i : ℕ) (c o : Trees) → F (tree (param of_type i) c o) ≡ []) → ((i : ℕ) (c o : Trees) → F (tree (placeholder of_type i) c o) ≡ [])
      → ((l : Label) (c o : Trees) → is_rigid l ≡ true → some_node is_bound (read c) ≡ false → F (tree l (read c) (read o)) ≡ map read_all (F (tree l c o))) → Stays F
  stays F unknown params placeholders natural = by (unknown-or-rigid a.reference.args (is m f a is_asked closed v places).begins)
    where
      none-there : (t o : Trees) → BeginsWithPlace t o → F t ≡ []
      none-there t o p = either p.is
        where
          either : (t ≡ tree (param of_type p.number) none o) ⊎ (t ≡ tree (placeholder of_type p.number) none o) → F t ≡ []
          either (inl e) = ap F e ∙ params p.number none o
          either (inr e) = ap F e ∙ placeholders p.number none o

      by : Unknown a.reference.args ⊎ Rigid a.reference.args → Stays F
      by (inl x) =
          let made = subst (λ t. is_made (is_variable_over a.kinds) terms t ≡ true) x.is (is m f a is_asked closed v places).over in
          ap (λ t. F (read t)) x.is
          ∙ none-there (read (tree (canonical of_type x.number) x.children x.others)) (read x.others) (read-place m f a is_asked closed v places x.number x.children x.others made)
          ∙ sym (ap (λ t. map read_all (F (with_plain_head t))) x.is ∙ ap (map read_all) (unknown x.number x.children x.others))
      by (inr x) =
          ap F read-is
          ∙ natural (erase_label x.label) x.children x.others (rigid-head x.label x.rigid)
          (plain-unbound (read x.children) (child-shut is_unerased (erase_label x.label) (read x.children) (read x.others) (subst Plain read-is is-held.plain)))
          ∙ sym (ap (λ t. map read_all (F (with_plain_head t))) x.is)
        where
          read-is : read a.reference.args ≡ tree (erase_label x.label) (read x.children) (read x.others)
          read-is = ap read x.is ∙ rigid-read (terms_of m f a is_asked closed v places).slots x.label x.children x.others x.rigid

  row-ways : (b : Bool) (source : CandidateSource) (F : Trees → List Rule) → Stays F → AreWaysOf a v its_instance (if_so b (as_written m.view a source (F (self_of a)))) (premises_of (if b then F (read a.reference.args) else []))
  row-ways true source F e = subst (λ us. AreWaysOf a v its_instance (as_written m.view a source (F (self_of a))) (premises_of us)) (sym e) (written-ways source (F (self_of a)))
  row-ways false source F e = no_more

  none-either : (b : Bool) → ◌≡◌ {A = List Rule} (if b then [] else []) []
  none-either true = refl
  none-either false = refl

  at-instance : RowsAreWaysAt m.view a v its_instance (reference_in its_instance)
  at-instance = record {
    sizeds = row-ways (a.reference.trait == sized) (BuiltinImpl Trivial) (sized_rules m.view)
        (stays (sized_rules m.view) (λ i c o. refl) (λ i c o. refl) (λ i c o. refl) (λ l c o r h. sized-unbound m.view declared (terms_of m f a is_asked closed v places).slots l c o r h));
    copies = row-ways ((a.reference.trait == copy) || (a.reference.trait == clone)) misc (copy_rules a.reference.trait)
        (stays (copy_rules a.reference.trait) (λ i c o. refl) (λ i c o. refl) (λ i c o. refl) (λ l c o r h. copy-natural m.view declared (terms_of m f a is_asked closed v places).slots a.reference.trait l c o));
    autos = row-ways (is_auto m.view a.reference.trait) misc (auto_rules m.view a.reference.trait)
        (stays (auto_rules m.view a.reference.trait) (λ i c o. none-either (is_written m.view a.reference.trait (canonical of_type i))) (λ i c o. none-either (is_written m.view a.reference.trait (param of_type i)))
        (λ i c o. none-either (is_written m.view a.reference.trait (placeholder of_type i))) (λ l c o r h. auto-unbound m.view declared (terms_of m f a is_asked closed v places).slots a.reference.trait l c o r h));
    tuples = row-ways (a.reference.trait == tuple_trait) misc tuple_rules
        (stays tuple_rules (λ i c o. refl) (λ i c o. refl) (λ i c o. refl) (λ l c o r h. tuple-natural m.view declared (terms_of m f a is_asked closed v places).slots l c o));
    fn_ptrs = row-ways (a.reference.trait == fn_ptr_trait) misc fn_ptr_rules
        (stays fn_ptr_rules (λ i c o. refl) (λ i c o. refl) (λ i c o. refl) (λ l c o r h. fn-ptr-natural m.view declared (terms_of m f a is_asked closed v places).slots l c o));
  }

  pub rows-at : RowsAreWaysAt m.view a v (goal_fact f v) (reference_in (goal_fact f v))
  rows-at = subst (λ g. RowsAreWaysAt m.view a v g (reference_in g)) (sym (instance-is m f a is_asked closed v places)) at-instance

pub rows-are-ways : RowsAreWays
rows-are-ways m declared f a e closed v places plain = rows-at m declared f a e closed v places plain
