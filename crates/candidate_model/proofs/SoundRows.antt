-- The built-in rules that read the outermost types alone are sound candidates: the rule of an instance is the instance of the rule.
use Rattle.std.proofs.Common.{◌≡◌, ℕ, Bool, true, false, ◌&&◌, ◌||◌, ◌==◌, if◌then◌else◌, List, [], ◌∷◌, ◌++◌, map, ◌⊎◌, inl, inr, refl, sym, ◌∙◌, ap, subst, Some}
use Rattle.std.specs.List.{flat_map}
use Rattle.type_terms.specs.Promised.Label.{Label, of_type, canonical, of_trait, predicate}
use Rattle.type_terms.specs.Promised.Trees.{Trees, none, tree, erase_label, some_node}
use Rattle.type_terms.specs.Promised.Worlds.{World, Reference}
use Rattle.type_terms.specs.Promised.Rules.{Rule, Way, impl_rules, built_in_rules, plain_rules, clause_rules, is_coinductive, sized, copy, clone, tuple_trait, fn_ptr_trait, is_fn_trait, unsize, is_auto, sized_rules, copy_rules, auto_rules, is_written, tuple_rules, fn_ptr_rules, call_rules, unsize_rules, object_rules}
use Rattle.type_terms.specs.Promised.Proofs.{In}
use Rattle.type_terms.proofs.Members.{here, there, in-left, in-right, in-map}
use Rattle.type_terms.proofs.Fitting.{child-shut}
use Rattle.infer_table.specs.Canonical.{CanonicalForm}
use Rattle.goal_evaluator.specs.Lists.{Every}
use Rattle.goal_evaluator.specs.declared.candidate.CandidateSource.{CandidateSource}
use Rattle.goal_evaluator.specs.declared.candidate.CandidateSource.TheVariants.{BuiltinImpl}
use Rattle.goal_evaluator.specs.declared.candidate.BuiltinImplSource.TheVariants.{Trivial}
use Rattle.goal_evaluator.specs.Instances.{read_with}
use Rattle.goal_evaluator.specs.Content.{fits, given, ChosenTerms}
use Rattle.goal_evaluator.specs.FrameTables.{Allows, Equation, EquationIsMet}
use Rattle.goal_evaluator.specs.TableOperations.{begin}
use Rattle.goal_evaluator.specs.TableOperations.{fresh}
use Rattle.candidate_model.specs.Facts.{is_plain, is_unerased, clauses_of}
use Rattle.candidate_model.specs.Meaning.{ViewMeaning}
use Rattle.candidate_model.specs.Declared.{is_declared_view}
use Rattle.candidate_model.specs.Asking.{GoalOverKinds, goal_over_kinds, all_known, are_clauses, begins_with_type, is_rigid, self_of, with_plain_head}
use Rattle.candidate_model.specs.Candidates.{by_rule, as_written, misc, if_so, by_sized, by_copy, by_auto, by_tuple, by_fn_ptr}
use Rattle.candidate_model.specs.Cover.{goal_fact, read_reference}
use Rattle.candidate_model.specs.Lawful.{IsSoundFor}
use Rattle.candidate_model.proofs.Cover.{IsAsked, asked-by}
use Rattle.candidate_model.proofs.ByView.{rigid-read, rigid-head}
use Rattle.candidate_model.proofs.Instances.{is_bound}
use Rattle.candidate_model.proofs.Rows.{read_rule, sized-unbound, copy-natural, auto-unbound, tuple-natural, fn-ptr-natural}
use Rattle.candidate_model.proofs.LawfulCandidates.{asked-clauses}
use Rattle.candidate_model.proofs.SoundCandidates.{goal-is, follows-by}
use Rattle.candidate_model.proofs.PlainRules.{Plain, IsPlainReference, HavePlainPremises, plain-unbound, plain-sized, plain-copy, plain-auto, plain-tuple, plain-fn-ptr}
use Rattle.type_terms.proofs.BooleanBasics.{true-false}
use Rattle.goal_evaluator.proofs.Basics.{every-append}
use Rattle.candidate_model.proofs.ErasedCandidates.{not-true as not-true-false}

-- ---- the self type is a variable, or has a head that is known
pub record Rigid (t : Trees) : Type 0 where
  pub label : Label
  pub children : Trees
  pub others : Trees
  pub is : t ≡ tree label children others
  pub rigid : is_rigid label ≡ true

pub record Unknown (t : Trees) : Type 0 where
  pub number : ℕ
  pub children : Trees
  pub others : Trees
  pub is : t ≡ tree (canonical of_type number) children others

pub unknown-or-rigid : (t : Trees) → begins_with_type t ≡ true → Unknown t ⊎ Rigid t
unknown-or-rigid none e = absurd (true-false (sym e))
unknown-or-rigid (tree (canonical of_type i) c o) e = inl (record { number = i; children = c; others = o; is = refl })
unknown-or-rigid (tree l c o) e = inr (record { label = l; children = c; others = o; is = refl; rigid = e })

module _ (m : ViewMeaning) (declared : is_declared_view m.view ≡ true) (f : CanonicalForm) (a : GoalOverKinds) (is_asked : goal_over_kinds m.view f ≡ Some a) where
  abbrev V : World
  V = m.view

  pub is : IsAsked V f.goal.environment f.goal.predicate (all_known f.kinds) a
  is = asked-by V f.goal.environment f.goal.predicate (all_known f.kinds) a is_asked

  are : are_clauses a.kinds a.environment ≡ true
  are = asked-clauses V f.goal.environment f.goal.predicate (all_known f.kinds) a is_asked

  abbrev Read : ChosenTerms → Trees → Trees
  Read s t = read_with (given s.slots) t

  abbrev instance : ChosenTerms → Reference
  instance s = read_reference s.slots a.reference

  -- terms for which the goal's instance is proper and plain
  pub record Held (s : ChosenTerms) : Type 0 where
    pub allowed : Allows (fresh (begin a.kinds) []) s
    pub proper : (s.own.proper && fits f.kinds s.own.terms) ≡ true
    pub plain : Plain (read_with (given s.slots) a.reference.args)

  pub held : (s : ChosenTerms) → Allows (fresh (begin a.kinds) []) s → (s.own.proper && fits f.kinds s.own.terms) ≡ true → is_plain (goal_fact f s.own) ≡ true → Held s
  held s l proper plain = record {
    allowed = l;
    proper = proper;
    plain =
        child-shut is_unerased (predicate (of_trait a.reference.trait)) (read_with (given s.slots) a.reference.args) none
        (not-true-false (some_node is_unerased (tree (predicate (of_trait a.reference.trait)) (read_with (given s.slots) a.reference.args) none)) (subst (λ z. is_plain z ≡ true) (goal-is V f a is are [] s l proper true) plain));
  }

  abbrev pub IsPlainAt : ChosenTerms → Reference → Type 0
  IsPlainAt s r = Plain (read_with (given s.slots) r.args)

  -- a candidate that is a built-in rule of each instance for which its equations hold, with plain premises
  pub rule-sound : (source : CandidateSource) (es : List Equation) (ps : List Reference)
      → ((s : ChosenTerms) → Held s → Every (λ e. EquationIsMet e s) es → (w : Way) × In (record { way = w; premises = map (read_reference s.slots) ps }) (built_in_rules V (instance s)) × Every (IsPlainAt s) ps)
      → IsSoundFor m f a (by_rule V a source es ps)
  rule-sound source es ps go y s l e proper plain =
      let x = go s (held s l proper plain) e in
      follows-by V f a is are [] s l proper (is_coinductive V a.reference.trait) x.0 ps
      (in-right (record { way = x.0; premises = map (read_reference s.slots) ps }) (flat_map (impl_rules (instance s)) V.impls) (built_in_rules V (instance s) ++ clause_rules V (instance s) 0 (clauses_of (read_with (given s.slots) a.environment)))
      (in-left (record { way = x.0; premises = map (read_reference s.slots) ps }) (built_in_rules V (instance s)) (clause_rules V (instance s) 0 (clauses_of (read_with (given s.slots) a.environment))) x.1)) x.2

  pub plain-back : (s : ChosenTerms) (ps : List Reference) → Every IsPlainReference (map (read_reference s.slots) ps) → Every (IsPlainAt s) ps
  plain-back s [] e = tt
  plain-back s (p ∷ ps) e = (e.0, plain-back s ps e.1)

  -- ---- rules of the goal as it is written
  pub each-written : (source : CandidateSource) (us : List Rule) → ((s : ChosenTerms) → Held s → (u : Rule) → In u us → In (read_rule V declared s.slots u) (built_in_rules V (instance s)))
      → ((s : ChosenTerms) → Held s → HavePlainPremises (map (read_rule V declared s.slots) us)) → Every (IsSoundFor m f a) (as_written V a source us)
  each-written source [] stands plains = tt
  each-written source (u ∷ us) stands plains = (
    rule-sound source [] u.premises (λ s h e. (u.way, stands s h u (here u us), plain-back s u.premises (plains s h).0)),
    each-written source us (λ s h v i. stands s h v (there v u us i)) (λ s h. (plains s h).1),
  )

  none-written : (b : Bool) (source : CandidateSource) (us : List Rule) → us ≡ [] → Every (IsSoundFor m f a) (if_so b (as_written V a source us))
  none-written true source us e = subst (λ z. Every (IsSoundFor m f a) (as_written V a source z)) (sym e) tt
  none-written false source us e = tt

  all-written : (b : Bool) (source : CandidateSource) (F : Trees → List Rule) → ((s : ChosenTerms) (u : Rule) → In u (if b then F (Read s a.reference.args) else []) → In u (built_in_rules V (instance s)))
      → ((s : ChosenTerms) → Held s → F (Read s a.reference.args) ≡ map (read_rule V declared s.slots) (F (self_of a))) → ((t : Trees) → Plain t → HavePlainPremises (F t)) → Every (IsSoundFor m f a) (if_so b (as_written V a source (F (self_of a))))
  all-written true source F stands natural plains =
      each-written source (F (self_of a)) (λ s h u i. stands s (read_rule V declared s.slots u) (subst (In (read_rule V declared s.slots u)) (sym (natural s h)) (in-map (read_rule V declared s.slots) (F (self_of a)) u i)))
      (λ s h. subst HavePlainPremises (natural s h) (plains (Read s a.reference.args) h.plain))
  all-written false source F stands natural plains = tt

  -- a row whose rules read the head of the self type, and are none where it is unknown
  row-sound : (b : Bool) (source : CandidateSource) (F : Trees → List Rule) → ((s : ChosenTerms) (u : Rule) → In u (if b then F (Read s a.reference.args) else []) → In u (built_in_rules V (instance s)))
      → ((i : ℕ) (c o : Trees) → F (tree (canonical of_type i) c o) ≡ [])
      → ((s : ChosenTerms) (l : Label) (c o : Trees) → is_rigid l ≡ true → some_node is_bound (Read s c) ≡ false → F (tree l (Read s c) (Read s o)) ≡ map (read_rule V declared s.slots) (F (tree l c o)))
      → ((t : Trees) → Plain t → HavePlainPremises (F t)) → Every (IsSoundFor m f a) (if_so b (as_written V a source (F (self_of a))))
  row-sound b source F stands unknown natural plains = by (unknown-or-rigid a.reference.args is.begins)
    where
      by : Unknown a.reference.args ⊎ Rigid a.reference.args → Every (IsSoundFor m f a) (if_so b (as_written V a source (F (self_of a))))
      by (inl x) = none-written b source (F (self_of a)) (ap (λ t. F (with_plain_head t)) x.is ∙ unknown x.number x.children x.others)
      by (inr x) = all-written b source F stands at plains
        where
          read-is : (s : ChosenTerms) → Read s a.reference.args ≡ tree (erase_label x.label) (Read s x.children) (Read s x.others)
          read-is s = ap (Read s) x.is ∙ rigid-read s.slots x.label x.children x.others x.rigid

          at : (s : ChosenTerms) → Held s → F (Read s a.reference.args) ≡ map (read_rule V declared s.slots) (F (self_of a))
          at s h =
              ap F (read-is s)
              ∙ natural s (erase_label x.label) x.children x.others (rigid-head x.label x.rigid)
              (plain-unbound (Read s x.children) (child-shut is_unerased (erase_label x.label) (Read s x.children) (Read s x.others) (subst Plain (read-is s) h.plain)))
              ∙ sym (ap (λ t. map (read_rule V declared s.slots) (F (with_plain_head t))) x.is)

  -- ---- where the rows stand
  abbrev row_list : ChosenTerms → Bool → (Trees → List Rule) → List Rule
  row_list s b F = if b then F (Read s a.reference.args) else []

  abbrev copies : ChosenTerms → List Rule
  copies s = row_list s ((a.reference.trait == copy) || (a.reference.trait == clone)) (copy_rules a.reference.trait)

  abbrev tuples : ChosenTerms → List Rule
  tuples s = row_list s (a.reference.trait == tuple_trait) tuple_rules

  abbrev fn_ptrs : ChosenTerms → List Rule
  fn_ptrs s = row_list s (a.reference.trait == fn_ptr_trait) fn_ptr_rules

  abbrev calls : ChosenTerms → List Rule
  calls s = row_list s (is_fn_trait a.reference.trait) call_rules

  abbrev sizeds : ChosenTerms → List Rule
  sizeds s = row_list s (a.reference.trait == sized) (sized_rules V)

  abbrev autos : ChosenTerms → List Rule
  autos s = row_list s (is_auto V a.reference.trait) (auto_rules V a.reference.trait)

  abbrev after_autos : ChosenTerms → List Rule
  after_autos s = row_list s (a.reference.trait == unsize) (unsize_rules V) ++ object_rules V (instance s) (Read s a.reference.args)

  abbrev after_plain : ChosenTerms → List Rule
  after_plain s = sizeds s ++ (autos s ++ after_autos s)

  in-plain : (s : ChosenTerms) (u : Rule) → In u (plain_rules (instance s)) → In u (built_in_rules V (instance s))
  in-plain s u i = in-left u (plain_rules (instance s)) (after_plain s) i

  pub in-calls : (s : ChosenTerms) (u : Rule) → In u (calls s) → In u (built_in_rules V (instance s))
  in-calls s u i = in-plain s u (in-right u (copies s) (tuples s ++ (fn_ptrs s ++ calls s)) (in-right u (tuples s) (fn_ptrs s ++ calls s) (in-right u (fn_ptrs s) (calls s) i)))

  pub in-unsizes : (s : ChosenTerms) (u : Rule) → In u (row_list s (a.reference.trait == unsize) (unsize_rules V)) → In u (built_in_rules V (instance s))
  in-unsizes s u i =
      in-right u (plain_rules (instance s)) (after_plain s)
      (in-right u (sizeds s) (autos s ++ after_autos s) (in-right u (autos s) (after_autos s) (in-left u (row_list s (a.reference.trait == unsize) (unsize_rules V)) (object_rules V (instance s) (Read s a.reference.args)) i)))

  pub sized-sound : Every (IsSoundFor m f a) (by_sized V a)
  sized-sound =
      row-sound (a.reference.trait == sized) (BuiltinImpl Trivial) (sized_rules V) (λ s u i. in-right u (plain_rules (instance s)) (after_plain s) (in-left u (sizeds s) (autos s ++ after_autos s) i)) (λ i c o. refl)
      (λ s l c o r h. sized-unbound V declared s.slots l c o r h) (plain-sized V declared)

  pub copy-sound : Every (IsSoundFor m f a) (by_copy V a)
  copy-sound =
      row-sound ((a.reference.trait == copy) || (a.reference.trait == clone)) misc (copy_rules a.reference.trait) (λ s u i. in-plain s u (in-left u (copies s) (tuples s ++ (fn_ptrs s ++ calls s)) i)) (λ i c o. refl)
      (λ s l c o r h. copy-natural V declared s.slots a.reference.trait l c o) (plain-copy a.reference.trait)

  pub auto-sound : Every (IsSoundFor m f a) (by_auto V a)
  auto-sound =
      row-sound (is_auto V a.reference.trait) misc (auto_rules V a.reference.trait)
      (λ s u i. in-right u (plain_rules (instance s)) (after_plain s) (in-right u (sizeds s) (autos s ++ after_autos s) (in-left u (autos s) (after_autos s) i))) (λ i c o. by (is_written V a.reference.trait (canonical of_type i)))
      (λ s l c o r h. auto-unbound V declared s.slots a.reference.trait l c o r h) (plain-auto V declared a.reference.trait)
    where
      by : (b : Bool) → ◌≡◌ {A = List Rule} (if b then [] else []) []
      by true = refl
      by false = refl

  pub tuple-sound : Every (IsSoundFor m f a) (by_tuple V a)
  tuple-sound =
      row-sound (a.reference.trait == tuple_trait) misc tuple_rules (λ s u i. in-plain s u (in-right u (copies s) (tuples s ++ (fn_ptrs s ++ calls s)) (in-left u (tuples s) (fn_ptrs s ++ calls s) i))) (λ i c o. refl)
      (λ s l c o r h. tuple-natural V declared s.slots l c o) plain-tuple

  pub fn-ptr-sound : Every (IsSoundFor m f a) (by_fn_ptr V a)
  fn-ptr-sound =
      row-sound (a.reference.trait == fn_ptr_trait) misc fn_ptr_rules
      (λ s u i. in-plain s u (in-right u (copies s) (tuples s ++ (fn_ptrs s ++ calls s)) (in-right u (tuples s) (fn_ptrs s ++ calls s) (in-left u (fn_ptrs s) (calls s) i)))) (λ i c o. refl)
      (λ s l c o r h. fn-ptr-natural V declared s.slots l c o) plain-fn-ptr

  pub each-row-sound : Every (IsSoundFor m f a) (by_sized V a ++ (by_copy V a ++ (by_auto V a ++ (by_tuple V a ++ by_fn_ptr V a))))
  each-row-sound =
      every-append (IsSoundFor m f a) (by_sized V a) (by_copy V a ++ (by_auto V a ++ (by_tuple V a ++ by_fn_ptr V a))) sized-sound
      (every-append (IsSoundFor m f a) (by_copy V a) (by_auto V a ++ (by_tuple V a ++ by_fn_ptr V a)) copy-sound
      (every-append (IsSoundFor m f a) (by_auto V a) (by_tuple V a ++ by_fn_ptr V a) auto-sound
      (every-append (IsSoundFor m f a) (by_tuple V a) (by_fn_ptr V a) tuple-sound fn-ptr-sound)))
