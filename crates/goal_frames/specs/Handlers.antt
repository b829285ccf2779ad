-- The handler of a goal for a list of rules.
use Rattle.std.specs.Prelude.{◌≡◌, ℕ, suc, ◌+◌, ◌==◌, max, Bool, true, false, ◌&&◌, ◌||◌, not, if◌then◌else◌, List, [], ◌∷◌, map, length, Option, Some, None, is_some}
use Rattle.type_terms.specs.Promised.Label.{Label, Sort, of_type, of_const, canonical, adt, of_trait, predicate}
use Rattle.type_terms.specs.Promised.Trees.{Trees, none, tree, leaf, is_sort, some_node}
use Rattle.type_terms.specs.Trees.{is_no_tree}
use Rattle.type_terms.specs.Codes.{same}
use Rattle.type_terms.specs.Made.{terms, is_made}
use Rattle.infer_table.specs.Canonical.{CanonicalForm}
use Rattle.infer_table.specs.declared.canonical.CanonicalVarKind.{CanonicalVarKind}
use Rattle.infer_table.specs.declared.canonical.CanonicalVarKind.TheVariants.{Ty, PlaceholderTy, Const, PlaceholderConst, Region}
use Rattle.infer_table.specs.Certainties.{is_certain}
use Rattle.infer_table.specs.declared.certainty.Certainty.TheVariants.{Yes, Maybe}
use Rattle.infer_table.specs.declared.certainty.MaybeCause.TheVariants.{Ambiguity}
use Rattle.infer_table.specs.declared.certainty.TypingMode.{TypingMode}
use Rattle.infer_table.specs.declared.certainty.TypingMode.TheVariants.{Coherence, PostAnalysis}
use Rattle.infer_table.specs.Values.{Value}
use Rattle.infer_table.specs.Responses.{AnswerTrees}
use Rattle.goal_evaluator.specs.declared.candidate.CandidateSource.TheVariants.{BuiltinImpl}
use Rattle.goal_evaluator.specs.declared.candidate.BuiltinImplSource.TheVariants.{Misc}
use Rattle.goal_evaluator.specs.Table.{workings}
use Rattle.goal_evaluator.specs.Candidate.{Spec}
use Rattle.goal_evaluator.specs.Handler.{Handled, IsHandler}
use Rattle.goal_evaluator.specs.Merge.{same_certainty}
use Rattle.goal_evaluator.specs.TableAnswers.{is_variable_itself}
use Rattle.goal_evaluator.specs.Instances.{put_in}
use Rattle.goal_evaluator.specs.Content.{trait_of, fact_of}
use Rattle.goal_evaluator.specs.FrameTables.{kinds_known, Nested}
use Rattle.goal_evaluator.specs.Widths.{width_of_predicates, number_of}
use Rattle.goal_evaluator.specs.TableOperations.{begin}
use Rattle.goal_evaluator.specs.Tables.{frame_tables}
use Rattle.goal_frames.specs.Listings.{Listing, listed}
use Rattle.goal_frames.specs.Rules.{TraitBound, goal_of, FrameRule, RuleBook, AreRules, is_coinductive_trait, FollowsByRule, HasProofByBook}
use Rattle.goal_evaluator.specs.Variables.{is_variable_over}

-- ---- goals
-- a goal without where-clauses, over variables of these kinds
pub record BareGoal : Type 0 where
  pub kinds : List CanonicalVarKind
  pub bound : TraitBound

abbrev pub with_first : Option CanonicalVarKind → Option (List CanonicalVarKind) → Option (List CanonicalVarKind)
with_first (Some k) (Some ks) = Some (k ∷ ks)
with_first (Some k) None = None
with_first None ks = None

-- the kinds, if all are known
abbrev pub all_known : List (Option CanonicalVarKind) → Option (List CanonicalVarKind)
all_known [] = Some []
all_known (o ∷ os) = with_first o (all_known os)

abbrev pub bound_of : Trees → Trees → Option TraitBound
bound_of none (tree (predicate (of_trait i)) c none) = Some (record { trait = i; arguments = c })
bound_of e p = None

abbrev pub is_variable_label : Sort → ℕ → Label → Bool
is_variable_label k i (canonical s j) = is_sort s k && (j == i)
is_variable_label k i l = false

-- Each placeholder variable occurs in the terms. The first kind is that of variable i.
abbrev pub places_stand : ℕ → List CanonicalVarKind → Trees → Bool
places_stand i [] t = true
places_stand i (PlaceholderTy ∷ ks) t = some_node (is_variable_label of_type i) t && places_stand (suc i) ks t
places_stand i (PlaceholderConst ∷ ks) t = some_node (is_variable_label of_const i) t && places_stand (suc i) ks t
places_stand i (k ∷ ks) t = places_stand (suc i) ks t

abbrev pub is_asked : List CanonicalVarKind → TraitBound → Bool
is_asked ks b = is_made (is_variable_over ks) terms b.arguments && places_stand 0 ks b.arguments

abbrev pub asked_with : Option (List CanonicalVarKind) → Option TraitBound → Option BareGoal
asked_with None b = None
asked_with (Some ks) None = None
asked_with (Some ks) (Some b) = if is_asked ks b then Some (record { kinds = ks; bound = b }) else None

-- the goal of a canonical form, if it is well-formed and has no where-clauses
abbrev pub bare_goal : CanonicalForm → Option BareGoal
bare_goal f = asked_with (all_known f.kinds) (bound_of f.goal.environment f.goal.predicate)

-- ---- candidates
-- the rule's variables are numbered after n others
abbrev pub moved : ℕ → Label → Option Trees
moved n (canonical k i) = Some (leaf (canonical k (n + i)))
moved n l = None

abbrev pub bound_behind : ℕ → TraitBound → TraitBound
bound_behind n b = record { trait = b.trait; arguments = put_in (moved n) b.arguments }

-- all arguments as one term
abbrev pub as_one : TraitBound → Value
as_one b = record { sort = of_type; trees = tree (adt b.trait) b.arguments none }

abbrev pub nested_of_bound : Bool → TraitBound → Nested
nested_of_bound kind b = record { goal = goal_of b; coinductive = kind }

-- The rule as a candidate for the goal, with steps of this kind. It equates the goal's arguments with the head's.
abbrev pub spec_of : Bool → BareGoal → FrameRule → Spec (workings frame_tables)
spec_of kind a r = record {
  source = BuiltinImpl Misc;
  kinds = r.kinds;
  equations = record { left = as_one a.bound; right = as_one (bound_behind (length a.kinds) r.head) } ∷ [];
  regions = none;
  nested = map (λ b. nested_of_bound kind (bound_behind (length a.kinds) b)) r.premises;
  certainty = Yes;
}

-- one for each rule of the goal's trait
abbrev pub specs_for : Bool → BareGoal → List FrameRule → List (Spec (workings frame_tables))
specs_for kind a [] = []
specs_for kind a (r ∷ rules) = if r.head.trait == a.bound.trait then spec_of kind a r ∷ specs_for kind a rules else specs_for kind a rules

-- no other goal is decided
abbrev pub unsure : Spec (workings frame_tables)
unsure = record { source = BuiltinImpl Misc; kinds = []; equations = []; regions = none; nested = []; certainty = Maybe Ambiguity }

abbrev pub candidates_of : RuleBook → Option BareGoal → List (Spec (workings frame_tables))
candidates_of book None = unsure ∷ []
candidates_of book (Some a) = specs_for (book.coinductive a.bound.trait) a book.rules

-- ---- numbers
abbrev pub width_of_bound : TraitBound → ℕ
width_of_bound b = width_of_predicates (goal_of b).predicate

abbrev pub number_of_premises : List TraitBound → ℕ
number_of_premises [] = 0
number_of_premises (b ∷ bs) = suc (width_of_bound b + number_of_premises bs)

-- no rule is wider, and all rules together have at most so many premises
abbrev pub number_of_rules : List FrameRule → ℕ
number_of_rules [] = 0
number_of_rules (r ∷ rules) = width_of_bound r.head + number_of_premises r.premises + number_of_rules rules

-- ---- equal responses
abbrev pub same_kind : CanonicalVarKind → CanonicalVarKind → Bool
same_kind Ty Ty = true
same_kind Const Const = true
same_kind PlaceholderTy PlaceholderTy = true
same_kind PlaceholderConst PlaceholderConst = true
same_kind Region Region = true
same_kind k j = false

abbrev pub same_kinds : List CanonicalVarKind → List CanonicalVarKind → Bool
same_kinds [] [] = true
same_kinds (k ∷ ks) (j ∷ js) = same_kind k j && same_kinds ks js
same_kinds ks js = false

abbrev pub same_values : List Value → List Value → Bool
same_values [] [] = true
same_values (v ∷ vs) (w ∷ ws) = is_sort v.sort w.sort && (same v.trees w.trees && same_values vs ws)
same_values vs ws = false

abbrev pub same_answer : AnswerTrees → AnswerTrees → Bool
same_answer a b = same_kinds a.kinds b.kinds && (same_certainty a.certainty b.certainty && (same_values a.values b.values && same a.constraints b.constraints))

-- ---- responses that are always applicable
-- each value, even a lifetime, is the variable with its index, counted from this number
abbrev pub are_own_variables : ℕ → List Value → Bool
are_own_variables i [] = true
are_own_variables i (v ∷ vs) = is_variable_itself i v.sort v.trees && are_own_variables (suc i) vs

-- a yes without values and constraints
abbrev pub applies_always : AnswerTrees → Bool
applies_always a = is_certain a.certainty && (are_own_variables 0 a.values && is_no_tree a.constraints)

-- ---- where solutions are sought
-- a variable of these kinds is a placeholder
abbrev pub has_placeholder : List CanonicalVarKind → Bool
has_placeholder [] = false
has_placeholder (PlaceholderTy ∷ ks) = true
has_placeholder (PlaceholderConst ∷ ks) = true
has_placeholder (k ∷ ks) = has_placeholder ks

-- The goal is decided, or has no placeholder. The placeholders of other goals need not occur in the trait reference. Then two of
-- them may have the same value, which no table allows.
abbrev pub is_searched : CanonicalForm → Bool
is_searched f = is_some (bare_goal f) || not (has_placeholder (kinds_known f.kinds))

-- in coherence the rules are those of one set of crates, and otherwise no solutions are sought
abbrev pub world_of_search : TypingMode → CanonicalForm → Type 0
world_of_search Coherence f = is_searched f ≡ true
world_of_search PostAnalysis f = ⊥

-- ---- the handler
-- the greatest width of a term in the goal's frame, and the greatest number of its nested goals
abbrev pub widest_of : RuleBook → CanonicalForm → ℕ
widest_of book f = max (number_of (record { form = f; coinductive = false })) (number_of_rules book.rules)

-- A goal in a typing mode, with variables of these kinds. Its predicate determines whether its trait is coinductive.
abbrev pub listing_of : RuleBook → TypingMode → CanonicalForm → List CanonicalVarKind → Option BareGoal → Listing frame_tables
listing_of book mode f kinds o = record {
  goal = λ v. fact_of (record { form = f; coinductive = false }) v;
  begin = begin kinds;
  specs = candidates_of book o;
  Rule = FollowsByRule book;
  World = world_of_search mode f;
  Proves = λ w g. HasProofByBook book g;
  coinductive = is_coinductive_trait book (trait_of f.goal.predicate);
  number = widest_of book f;
  widest = widest_of book f;
}

abbrev pub handled_by : RuleBook → TypingMode → CanonicalForm → Handled frame_tables
handled_by book mode f = listed frame_tables applies_always same_answer (listing_of book mode f (kinds_known f.kinds) (bare_goal f))

-- for every form of a goal
abbrev pub HandlersAreLawful : Type 0
HandlersAreLawful = (book : RuleBook) → AreRules book → (mode : TypingMode) (f : CanonicalForm) → IsHandler frame_tables (handled_by book mode f)
