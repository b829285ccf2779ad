-- Candidates of a goal without inference variables that equate lists of terms: they apply if both lists have the same value.
use Rattle.std.proofs.Common.{◌≡◌, ℕ, suc, ◌==◌, Bool, true, false, not, ◌&&◌, if◌then◌else◌, List, [], ◌∷◌, ◌++◌, map, ◌⊎◌, inl, inr, refl, sym, ◌∙◌, ap, subst, Some}
use Rattle.type_terms.specs.Promised.Label.{Label, of_type, of_const, canonical, param, placeholder}
use Rattle.type_terms.specs.Promised.Trees.{Trees, none, tree, ◌+++◌}
use Rattle.type_terms.specs.Codes.{same}
use Rattle.type_terms.specs.Promised.Worlds.{Reference}
use Rattle.type_terms.specs.Promised.Rules.{Rule}
use Rattle.type_terms.proofs.Matching.{same-sound}
use Rattle.type_terms.proofs.Members.{same-number, self-number}
use Rattle.type_terms.specs.Made.{terms, is_made}
use Rattle.type_terms.proofs.Made.{false-true}
use Rattle.infer_table.specs.Canonical.{CanonicalForm}
use Rattle.infer_table.specs.declared.canonical.CanonicalVarKind.{CanonicalVarKind}
use Rattle.infer_table.specs.declared.canonical.CanonicalVarKind.TheVariants.{Ty, PlaceholderTy, Const, PlaceholderConst, Region}
use Rattle.goal_evaluator.specs.Lists.{Every}
use Rattle.goal_evaluator.specs.declared.candidate.CandidateSource.{CandidateSource}
use Rattle.goal_evaluator.specs.Instances.{read_with, as_place, term_at}
use Rattle.goal_evaluator.specs.Content.{Values, Fact, ChosenTerms, given, reading_of}
use Rattle.goal_evaluator.specs.FrameTables.{Allows, labels_from}
use Rattle.goal_evaluator.specs.TableOperations.{begin, fresh}
use Rattle.goal_evaluator.specs.Tables.{frame_tables}
use Rattle.goal_evaluator.specs.Variables.{is_variable_over}
use Rattle.solver_completeness.specs.Closed.{EquationsRefuse, no_more, refused, applied}
use Rattle.solver_completeness.specs.ClosedTables.{AreClosed, ArePlaces}
use Rattle.candidate_model.specs.Meaning.{ViewMeaning}
use Rattle.candidate_model.specs.Asking.{GoalOverKinds, goal_over_kinds}
use Rattle.candidate_model.specs.Candidates.{Candidate, all_equal, by_rule, bounds_from, upcast_source, upcasts_from}
use Rattle.declarations.specs.Promised.Elaboration.{supertraits}
use Rattle.declarations.specs.Apart.{are_apart}
use Rattle.candidate_model.proofs.Apart.{reads-meet}
use Rattle.candidate_model.specs.Cover.{read_reference}
use Rattle.candidate_model.proofs.EquationTerms.{IsOpenTerms, made-open}
use Rattle.candidate_model.proofs.Facts.{same-self}
use Rattle.candidate_model.proofs.Moving.{met-reads}
use Rattle.candidate_model.proofs.SoundRows.{Unknown}
use Rattle.solver_completeness.specs.RowWays.{AreWaysOf, equal_ways}
use Rattle.solver_completeness.proofs.Instances.{is, kinds-closed, terms_of, allowed, Read, instance, rule-applies, BeginsWithPlace, read-place}
use Rattle.solver_completeness.proofs.Clauses.{equal-meets}

-- ---- without unknowns the terms for a goal's variables are the values
cons : {A : Type 0} (x y : A) (xs ys : List A) → x ≡ y → xs ≡ ys → x ∷ xs ≡ y ∷ ys
cons x y xs ys e g = cc

pub closed-slots : (s t : ChosenTerms) → s.own ≡ t.own → (i j k n : ℕ) (ks : List CanonicalVarKind) → AreClosed (map Some ks) → (more : List Label) → more ≡ []
    → map (reading_of s) (labels_from i j k n ks ++ more) ≡ map (reading_of t) (labels_from i j k n ks ++ more)
closed-slots s t e i j k n [] c more g = ap (map (reading_of s)) g ∙ sym (ap (map (reading_of t)) g)
closed-slots s t e i j k n (Ty ∷ ks) c more g = absurd c.0
closed-slots s t e i j k n (Const ∷ ks) c more g = absurd c.0
closed-slots s t e i j k n (PlaceholderTy ∷ ks) c more g = cons _ _ _ _ (ap (λ (v : Values). as_place of_type (term_at v.terms n) +++ none) e) (closed-slots s t e i j k (suc n) ks c.1 more g)
closed-slots s t e i j k n (PlaceholderConst ∷ ks) c more g = cons _ _ _ _ (ap (λ (v : Values). as_place of_const (term_at v.terms n) +++ none) e) (closed-slots s t e i j k (suc n) ks c.1 more g)
closed-slots s t e i j k n (Region ∷ ks) c more g = cons _ _ _ _ refl (closed-slots s t e i j (suc k) (suc n) ks c.1 more g)

-- ---- tests
pub number-swap : (x y : ℕ) (b : Bool) → (x == y) ≡ b → (y == x) ≡ b
number-swap x y true e = subst (λ z. (z == x) ≡ true) (same-number x y e) (self-number x)
number-swap x y false e = by (y == x) refl
  where
    by : (b : Bool) → (y == x) ≡ b → b ≡ false
    by false g = refl
    by true g = absurd (false-true (sym e ∙ subst (λ z. (x == z) ≡ true) (sym (same-number y x g)) (self-number x)))

pub same-swap : (x y : Trees) (b : Bool) → same x y ≡ b → same y x ≡ b
same-swap x y true e = subst (λ z. same z x ≡ true) (same-sound x y e) (same-self x)
same-swap x y false e = by (same y x) refl
  where
    by : (b : Bool) → same y x ≡ b → b ≡ false
    by false g = refl
    by true g = absurd (false-true (sym e ∙ subst (λ z. same x z ≡ true) (sym (same-sound y x g)) (same-self x)))

module _ (m : ViewMeaning) (f : CanonicalForm) (a : GoalOverKinds) (is_asked : goal_over_kinds m.view f ≡ Some a) (closed : AreClosed f.kinds) (v : Values) (places : ArePlaces f.kinds v) where
  abbrev pub read : Trees → Trees
  read t = Read m f a is_asked closed v places t

  abbrev pub its_instance : Fact
  its_instance = instance m f a is_asked closed v places

  abbrev pub its_terms : ChosenTerms
  its_terms = terms_of m f a is_asked closed v places

  abbrev pub AreWaysHere : List Candidate → List (List Reference) → Type 0
  AreWaysHere cs ways = AreWaysOf a v its_instance cs ways

  pub args-over : is_made (is_variable_over a.kinds) terms a.reference.args ≡ true
  args-over = (is m f a is_asked closed v places).over

  pub args-open : IsOpenTerms a.reference.args
  args-open = made-open a.kinds terms a.reference.args args-over

  pub slots-are : (s : ChosenTerms) → Allows (fresh (begin a.kinds) []) s → s.own ≡ v → s.slots ≡ its_terms.slots
  slots-are s l e = l.slots ∙ closed-slots s its_terms e 0 0 0 0 a.kinds (kinds-closed m f a is_asked closed v places) _ refl ∙ sym (allowed m f a is_asked closed v places).slots

  rule-refuses : (source : CandidateSource) (x y : Trees) (ps : List Reference) → IsOpenTerms x → IsOpenTerms y → same (read x) (read y) ≡ false
      → EquationsRefuse frame_tables (begin a.kinds) v (by_rule m.view a source (all_equal x y) ps)
  rule-refuses source x y ps h g no_same s l e meets =
      let slots = slots-are s l e in
      let equal : read x ≡ read y = sym (ap (λ xs. read_with (given xs) x) slots) ∙ met-reads s.slots x y h g meets ∙ ap (λ xs. read_with (given xs) y) slots in
      false-true (sym no_same ∙ ap (λ z. same (read x) z) (sym equal) ∙ same-self (read x))

  -- the candidate, and then others
  pub equated : (source : CandidateSource) (x y : Trees) (ps : List Reference) → IsOpenTerms x → IsOpenTerms y → (cs : List Candidate) (ways : List (List Reference)) → AreWaysHere cs ways
      → (b : Bool) → same (read x) (read y) ≡ b
      → AreWaysHere (by_rule m.view a source (all_equal x y) ps ∷ cs) (if b then map (read_reference its_terms.slots) ps ∷ ways else ways)
  equated source x y ps h g cs ways u true e =
      applied (rule-applies m f a is_asked closed v places source (all_equal x y) ps (equal-meets its_terms x y h g (same-sound (read x) (read y) e))) u
  equated source x y ps h g cs ways u false e = refused (rule-refuses source x y ps h g e) u

  -- ---- candidates for each of some references
  abbrev read_all : List Reference → List Reference
  read_all rs = map (read_reference its_terms.slots) rs

  abbrev pub HasOpenTerms : Reference → Type 0
  HasOpenTerms r = IsOpenTerms r.args

  pub upcast-ways : (q : Reference) → IsOpenTerms q.args → (n : ℕ) (rs : List Reference) → Every HasOpenTerms rs
      → AreWaysHere (upcasts_from m.view a q n rs) (equal_ways [] (read_reference its_terms.slots q) (read_all rs))
  upcast-ways q g n [] h = no_more
  upcast-ways q g n (r ∷ rs) h = by (r.trait == q.trait) (same (read r.args) (read q.args)) refl (upcast-ways q g (suc n) rs h.1)
    where
      by : (b d : Bool) → same (read r.args) (read q.args) ≡ d → AreWaysHere (upcasts_from m.view a q (suc n) rs) (equal_ways [] (read_reference its_terms.slots q) (read_all rs))
          → AreWaysHere (if b then by_rule m.view a (upcast_source n) (all_equal r.args q.args) [] ∷ upcasts_from m.view a q (suc n) rs else upcasts_from m.view a q (suc n) rs)
          (if b && d then [] ∷ equal_ways [] (read_reference its_terms.slots q) (read_all rs) else equal_ways [] (read_reference its_terms.slots q) (read_all rs))
      by true d e u = equated (upcast_source n) r.args q.args [] h.0 g (upcasts_from m.view a q (suc n) rs) (equal_ways [] (read_reference its_terms.slots q) (read_all rs)) u d e
      by false d e u = u

  pub bound-ways : (source : ℕ → CandidateSource) (n : ℕ) (rs : List Reference) → Every HasOpenTerms rs
      → AreWaysHere (bounds_from m.view a source n rs) (equal_ways (read_all (supertraits m.view a.reference)) (read_reference its_terms.slots a.reference) (read_all rs))
  bound-ways source n [] h = no_more
  bound-ways source n (r ∷ rs) h =
      by (r.trait == a.reference.trait) (not (are_apart a.reference.args r.args)) refl (same (read r.args) (read a.reference.args)) refl (bound-ways source (suc n) rs h.1)
    where
      ps : List Reference
      ps = supertraits m.view a.reference

      others : List (List Reference)
      others = equal_ways (read_all ps) (read_reference its_terms.slots a.reference) (read_all rs)

      by : (b k : Bool) → not (are_apart a.reference.args r.args) ≡ k → (d : Bool) → same (read r.args) (read a.reference.args) ≡ d → AreWaysHere (bounds_from m.view a source (suc n) rs) others
          → AreWaysHere (if b && k then by_rule m.view a (source n) (all_equal a.reference.args r.args) ps ∷ bounds_from m.view a source (suc n) rs else bounds_from m.view a source (suc n) rs)
          (if b && d then read_all ps ∷ others else others)
      by true true e d g u = equated (source n) a.reference.args r.args ps args-open h.0 (bounds_from m.view a source (suc n) rs) others u d (same-swap (read r.args) (read a.reference.args) d g)
      by true false e true g u = absurd (false-true (sym e ∙ reads-meet its_terms.slots a.reference.args r.args (sym (same-sound (read r.args) (read a.reference.args) g))))
      by true false e false g u = u
      by false k e d g u = u

  -- ---- rules that none is for a parameter or a placeholder
  pub at-place : (F : Trees → List Rule) → ((i : ℕ) (c o : Trees) → F (tree (param of_type i) c o) ≡ []) → ((i : ℕ) (c o : Trees) → F (tree (placeholder of_type i) c o) ≡ [])
      → Unknown a.reference.args → F (read a.reference.args) ≡ []
  at-place F params placeholders x =
      let made = subst (λ t. is_made (is_variable_over a.kinds) terms t ≡ true) x.is args-over in
      ap (λ t. F (read t)) x.is ∙ there (read (tree (canonical of_type x.number) x.children x.others)) (read x.others) (read-place m f a is_asked closed v places x.number x.children x.others made)
    where
      there : (t o : Trees) → BeginsWithPlace t o → F t ≡ []
      there t o p = either p.is
        where
          either : (t ≡ tree (param of_type p.number) none o) ⊎ (t ≡ tree (placeholder of_type p.number) none o) → F t ≡ []
          either (inl e) = ap F e ∙ params p.number none o
          either (inr e) = ap F e ∙ placeholders p.number none o
