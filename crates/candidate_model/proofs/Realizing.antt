-- Each solution of a goal in a linked set is realized, in the tables of frames, by a candidate.
use Rattle.std.proofs.Common.{◌≡◌, ℕ, zero, suc, Bool, true, false, ◌&&◌, if◌then◌else◌, List, [], ◌∷◌, map, refl, sym, ◌∙◌, ap, subst, Option, Some, None}
use Rattle.type_terms.specs.Promised.Label.{Label, of_type, of_const, of_lifetime, infer, param, placeholder, canonical, bound, static, of_trait, predicate}
use Rattle.type_terms.specs.Promised.Trees.{Trees, none, tree, leaf}
use Rattle.type_terms.specs.Trees.{is_a}
use Rattle.type_terms.specs.Promised.Worlds.{World, Reference}
use Rattle.infer_table.specs.Canonical.{CanonicalForm}
use Rattle.infer_table.specs.declared.canonical.CanonicalVarKind.{CanonicalVarKind}
use Rattle.infer_table.specs.declared.canonical.CanonicalVarKind.TheVariants.{Ty, PlaceholderTy, Const, PlaceholderConst, Region}
use Rattle.goal_evaluator.specs.Lists.{Every, SomeOf}
use Rattle.goal_evaluator.specs.Law.{Realizes}
use Rattle.goal_evaluator.proofs.ListLaws.{Every-both, SomeOf-both}
use Rattle.goal_evaluator.specs.Instances.{read_with, goal_read, default_label, of_sort, term_at, first_term, other_terms}
use Rattle.goal_evaluator.specs.Content.{Values, given, fits, Fact, trait_of}
use Rattle.goal_evaluator.specs.FrameTables.{kind_at, kinds_known}
use Rattle.goal_evaluator.specs.TableAnswers.{is_kind_of}
use Rattle.goal_evaluator.specs.TableOperations.{begin}
use Rattle.goal_evaluator.specs.Tables.{frame_tables}
use Rattle.candidate_model.specs.Slots.{as_slots, with_slots}
use Rattle.candidate_model.specs.Facts.{clauses_of}
use Rattle.candidate_model.specs.Meaning.{ViewMeaning, proved_at}
use Rattle.candidate_model.specs.Lifetimes.{goal_gives_lifetimes}
use Rattle.candidate_model.specs.Knowing.{is_knowable}
use Rattle.candidate_model.specs.Declared.{is_declared_view}
use Rattle.candidate_model.specs.Asking.{GoalOverKinds, goal_over_kinds, clauses, self_of, begins_unknown, with_first, all_known}
use Rattle.goal_evaluator.specs.Variables.{is_variable_over}
use Rattle.candidate_model.specs.Candidates.{Candidate, unsure, unknowable}
use Rattle.candidate_model.specs.Solver.{has_placeholder, Searched, IsSolution}
use Rattle.candidate_model.specs.Cover.{AreTermsOf, BoundsAreTerms, SolvesEquations, all_candidates, goal_fact, SolutionsAreCandidates}
use Rattle.candidate_model.proofs.Agreeing.{agree-terms}
use Rattle.candidate_model.proofs.Cover.{IsAsked, asked-by, known-kinds}
use Rattle.candidate_model.proofs.Filled.{no-placeholder, filled, filled-allowed}
use Rattle.goal_evaluator.proofs.Unplaced.{IsNotPlace}
use Rattle.candidate_model.proofs.ImplSlots.{sort-again, params-no-places}
use Rattle.candidate_model.proofs.Given.{given-realizes}
use Rattle.candidate_model.proofs.Rowwise.{AreRows, all-so}
use Rattle.candidate_model.proofs.EquationTerms.{IsOpenTerms, all-are-terms}
use Rattle.candidate_model.proofs.Worlds.{asked-bare}
use Rattle.type_terms.proofs.BooleanBasics.{both, true-false}
use Rattle.goal_evaluator.proofs.Basics.{every-of, every-unit}

-- ---- candidates have no placeholders of their own
abbrev HasNone : Candidate → Type 0
HasNone c = has_placeholder c.kinds ≡ false

none-own : (V : World) (a : GoalOverKinds) → Every HasNone (all_candidates V a)
none-own V a = all-so V a HasNone (λ es. Unit {0}) rows
  where
    rows : AreRows V a HasNone (λ es. Unit {0})
    rows = record {
      rule = λ source es ps u. refl;
      nothing = tt;
      calls = λ n l types c others e. tt;
      arrays = λ l m c n d p o e. tt;
      upcasts = λ b d o e. every-of (λ q. every-of (λ p. (tt, every-unit _)) _) _;
      structs = λ s u b d o e x. tt;
      clauses = every-unit (clauses a);
      bounds = λ bounds others e. (every-unit _, every-unit _);
      impls = λ i j. params-no-places i.header.args zero i.params;
      unsures = refl;
      records = λ r c h. h;
    }

-- ---- the values as slots have them
type-fits : (x : Trees) → is_a of_type (of_sort of_type x) ≡ true
type-fits x = by (is_a of_type x) refl
  where
    by : (b : Bool) → is_a of_type x ≡ b → is_a of_type (if b then x else leaf (default_label of_type)) ≡ true
    by true e = e
    by false e = refl

const-fits : (x : Trees) → is_a of_const (of_sort of_const x) ≡ true
const-fits x = by (is_a of_const x) refl
  where
    by : (b : Bool) → is_a of_const x ≡ b → is_a of_const (if b then x else leaf (default_label of_const)) ≡ true
    by true e = e
    by false e = refl

slots-fit : (ks : List CanonicalVarKind) → Every IsNotPlace ks → (ts : List Trees) → fits (map Some ks) (as_slots ks ts) ≡ true
slots-fit [] h ts = refl
slots-fit (Ty ∷ ks) h ts = both _ _ (type-fits (first_term ts)) (slots-fit ks h.1 (other_terms ts))
slots-fit (Const ∷ ks) h ts = both _ _ (const-fits (first_term ts)) (slots-fit ks h.1 (other_terms ts))
slots-fit (Region ∷ ks) h ts = slots-fit ks h.1 (other_terms ts)
slots-fit (PlaceholderTy ∷ ks) h ts = absurd h.0
slots-fit (PlaceholderConst ∷ ks) h ts = absurd h.0

type-at : (ks : List CanonicalVarKind) → Every IsNotPlace ks → (ts : List Trees) (i : ℕ) → is_kind_of of_type (kind_at ks i) ≡ true → of_sort of_type (term_at (as_slots ks ts) i) ≡ of_sort of_type (term_at ts i)
type-at [] h ts i e = absurd (true-false (sym e))
type-at (Ty ∷ ks) h ts zero e = sort-again of_type (first_term ts) refl
type-at (Const ∷ ks) h ts zero e = absurd (true-false (sym e))
type-at (Region ∷ ks) h ts zero e = absurd (true-false (sym e))
type-at (PlaceholderTy ∷ ks) h ts zero e = absurd h.0
type-at (PlaceholderConst ∷ ks) h ts zero e = absurd h.0
type-at (k ∷ ks) h ts (suc i) e = type-at ks h.1 (other_terms ts) i e

const-at : (ks : List CanonicalVarKind) → Every IsNotPlace ks → (ts : List Trees) (i : ℕ) → is_kind_of of_const (kind_at ks i) ≡ true → of_sort of_const (term_at (as_slots ks ts) i) ≡ of_sort of_const (term_at ts i)
const-at [] h ts i e = absurd (true-false (sym e))
const-at (Ty ∷ ks) h ts zero e = absurd (true-false (sym e))
const-at (Const ∷ ks) h ts zero e = sort-again of_const (first_term ts) refl
const-at (Region ∷ ks) h ts zero e = absurd (true-false (sym e))
const-at (PlaceholderTy ∷ ks) h ts zero e = absurd h.0
const-at (PlaceholderConst ∷ ks) h ts zero e = absurd h.0
const-at (k ∷ ks) h ts (suc i) e = const-at ks h.1 (other_terms ts) i e

variable-at : (ks : List CanonicalVarKind) → Every IsNotPlace ks → (ts : List Trees) (l : Label) → is_variable_over ks l ≡ true → given (as_slots ks ts) l ≡ given ts l
variable-at ks h ts (canonical of_type i) e = ap Some (type-at ks h ts i e)
variable-at ks h ts (canonical of_const i) e = ap Some (const-at ks h ts i e)
variable-at ks h ts (canonical of_lifetime i) e = refl
variable-at ks h ts (infer k v) e = refl
variable-at ks h ts (param k v) e = refl
variable-at ks h ts (placeholder k v) e = refl
variable-at ks h ts (bound of_lifetime k i) e = refl
variable-at ks h ts (bound of_type k i) e = refl
variable-at ks h ts (bound of_const k i) e = refl
variable-at ks h ts static e = refl
variable-at ks h ts l e = refl

pub known-are : (os : List (Option CanonicalVarKind)) (ks : List CanonicalVarKind) → all_known os ≡ Some ks → os ≡ map Some ks
known-are [] ks e = cc
known-are (None ∷ os) ks e = absurd (cc)
known-are (Some k ∷ os) ks e = by (all_known os) (λ js f. known-are os js f) e refl
  where
    by : (o : Option (List CanonicalVarKind)) → ((js : List CanonicalVarKind) → all_known os ≡ Some js → os ≡ map Some js) → with_first (Some k) o ≡ Some ks → all_known os ≡ o → Some k ∷ os ≡ map Some ks
    by None go f g = absurd (cc)
    by (Some js) go f g = let x = go js g in let y : k ∷ js ≡ ks = cc in ap (λ z. Some k ∷ z) x ∙ ap (map Some) y

same-fact : (f : CanonicalForm) (v : Values) (xs : List Trees) (p q : Bool) → read_with (given xs) f.goal.environment ≡ read_with (given v.terms) f.goal.environment
    → read_with (given xs) f.goal.predicate ≡ read_with (given v.terms) f.goal.predicate → p ≡ q
    → ◌≡◌ {A = Fact} (record { trait = trait_of f.goal.predicate; goal = goal_read (given xs) f.goal; proper = p }) (record { trait = trait_of f.goal.predicate; goal = goal_read (given v.terms) f.goal; proper = q })
same-fact f v xs p q e d g = cc

-- the equations of a goal that is decided have made terms
pub asked-terms : (m : ViewMeaning) → is_declared_view m.view ≡ true → (f : CanonicalForm) (a : GoalOverKinds) → goal_over_kinds m.view f ≡ Some a → BoundsAreTerms m.view a → Searched m f → Every AreTermsOf (all_candidates m.view a)
asked-terms m declared f a e bounds_are w =
    all-are-terms m.view declared a (asked-by m.view f.goal.environment f.goal.predicate (all_known f.kinds) a e).over (subst (λ (rs : List Reference). Every (λ (r : Reference). IsOpenTerms r.args) rs) (sym (ap clauses_of (asked-bare m f w.no_clauses a e))) tt) bounds_are

-- ---- a goal that is decided, without where-clauses and placeholders, and a solution
module _ (m : ViewMeaning) (f : CanonicalForm) (a : GoalOverKinds) (e : goal_over_kinds m.view f ≡ Some a) (H : Reference → Type 0) (no_clauses : f.goal.environment ≡ none)
    (no_places : has_placeholder (kinds_known f.kinds) ≡ false) (v : Values) (s : IsSolution H (goal_fact f v)) where
  is : IsAsked m.view f.goal.environment f.goal.predicate (all_known f.kinds) a
  is = asked-by m.view f.goal.environment f.goal.predicate (all_known f.kinds) a e

  kinds-are : kinds_known f.kinds ≡ a.kinds
  kinds-are = known-kinds f.kinds a.kinds is.kinds_are

  no_placeholders : has_placeholder a.kinds ≡ false
  no_placeholders = ap has_placeholder (sym kinds-are) ∙ no_places

  proper-is : (v.proper && fits (map Some a.kinds) v.terms) ≡ true
  proper-is = ap (λ z. v.proper && fits z v.terms) (sym (known-are f.kinds a.kinds is.kinds_are)) ∙ s.proper

  args-same : read_with (given (as_slots a.kinds v.terms)) a.reference.args ≡ read_with (given v.terms) a.reference.args
  args-same = agree-terms (is_variable_over a.kinds) (as_slots a.kinds v.terms) v.terms (λ l g. variable-at a.kinds (no-placeholder a.kinds no_placeholders) v.terms l g) a.reference.args is.over

  same-goal : goal_fact f (with_slots a.kinds v) ≡ goal_fact f v
  same-goal =
      same-fact f v (as_slots a.kinds v.terms) (v.proper && fits f.kinds (as_slots a.kinds v.terms)) (v.proper && fits f.kinds v.terms)
      (ap (read_with (given (as_slots a.kinds v.terms))) no_clauses ∙ sym (ap (read_with (given v.terms)) no_clauses))
      (ap (read_with (given (as_slots a.kinds v.terms))) is.predicate_is ∙ ap (λ z. tree (predicate (of_trait a.reference.trait)) z none) args-same ∙ sym (ap (read_with (given v.terms)) is.predicate_is))
      (both v.proper (fits f.kinds (as_slots a.kinds v.terms)) (left-of v.proper (fits f.kinds v.terms) s.proper)
      (ap (λ z. fits z (as_slots a.kinds v.terms)) (known-are f.kinds a.kinds is.kinds_are) ∙ slots-fit a.kinds (no-placeholder a.kinds no_placeholders) v.terms) ∙ sym s.proper)
    where
      left-of : (x y : Bool) → x && y ≡ true → x ≡ true
      left-of true y h = refl
      left-of false y h = absurd (true-false (sym h))

  -- the values as slots have them are one too
  pub solution : IsSolution H (goal_fact f (with_slots a.kinds v))
  solution = subst (IsSolution H) (sym same-goal) s

  pub realized : (c : Candidate) → AreTermsOf c → has_placeholder c.kinds ≡ false → SolvesEquations H a.kinds (with_slots a.kinds v) c → Realizes frame_tables (IsSolution H) (begin (kinds_known f.kinds)) v c
  realized c are own gives = subst (λ ks. Realizes frame_tables (IsSolution H) (begin ks) v c) (sym kinds-are) (given-realizes H a.kinds v c are no_placeholders own proper-is gives)

  pub some-realized : Every AreTermsOf (all_candidates m.view a) → SomeOf (SolvesEquations H a.kinds (with_slots a.kinds v)) (all_candidates m.view a)
      → SomeOf (Realizes frame_tables (IsSolution H) (begin (kinds_known f.kinds)) v) (all_candidates m.view a)
  some-realized are gives =
      SomeOf-both (λ c. AreTermsOf c × HasNone c) (SolvesEquations H a.kinds (with_slots a.kinds v)) (Realizes frame_tables (IsSolution H) (begin (kinds_known f.kinds)) v)
      (λ c h g. realized c h.0 h.1 g) (all_candidates m.view a)
      (Every-both AreTermsOf HasNone (λ c. AreTermsOf c × HasNone c) (λ c x y. (x, y)) (all_candidates m.view a)
      are (none-own m.view a))
      gives

-- ---- in coherence
module _ (m : ViewMeaning) (complete : SolutionsAreCandidates m) (f : CanonicalForm) (a : GoalOverKinds) (e : goal_over_kinds m.view f ≡ Some a)
    (known : begins_unknown a.kinds (self_of a) ≡ false) (given-lifetimes : goal_gives_lifetimes m.view a ≡ true) (w : Searched m f) (v : Values) (s : IsSolution (proved_at w.place) (goal_fact f v)) (are : Every AreTermsOf (all_candidates m.view a)) where
  abbrev pub H : Reference → Type 0
  H = proved_at w.place

  found : (is_knowable m.view m.crate a.reference ≡ true → SomeOf (SolvesEquations H a.kinds (with_slots a.kinds v)) (all_candidates m.view a)) × SolvesEquations H a.kinds (with_slots a.kinds v) (unknowable m.view a)
  found = complete f a e known given-lifetimes w (with_slots a.kinds v) (solution m f a e H w.no_clauses w.no_placeholders v s)

  pub by-candidates : is_knowable m.view m.crate a.reference ≡ true → SomeOf (Realizes frame_tables (IsSolution H) (begin (kinds_known f.kinds)) v) (all_candidates m.view a)
  by-candidates k = some-realized m f a e H w.no_clauses w.no_placeholders v s are (found.0 k)

  pub by-unknowable : Realizes frame_tables (IsSolution H) (begin (kinds_known f.kinds)) v (unknowable m.view a)
  by-unknowable = realized m f a e H w.no_clauses w.no_placeholders v s (unknowable m.view a) tt refl found.1

-- what is not decided is open to all values
pub unsure-realizes : (H : Reference → Type 0) (ks : List CanonicalVarKind) (v : Values) → has_placeholder ks ≡ false → Realizes frame_tables (IsSolution H) (begin ks) v unsure
unsure-realizes H ks v h = record {
  assignment = filled ks [] (no-placeholder ks h) tt v [];
  allowed = filled-allowed ks [] (no-placeholder ks h) tt v [];
  own = refl;
  meets = tt;
  solves = tt;
}
