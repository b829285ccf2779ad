-- The smallest tables with a variable. A goal is a predicate of one argument, which is an atom or the one variable `?x`.
use Rattle.std.specs.Prelude.{◌≡◌, ℕ, Bool, true, false, ◌&&◌, ◌==◌, if◌then◌else◌, ◌+◌, length, List, [], ◌∷◌, map, Option, Some, None, is_some}
use Rattle.infer_table.specs.declared.certainty.Certainty.{Certainty}
use Rattle.infer_table.specs.declared.certainty.Certainty.TheVariants.{Yes, Maybe}
use Rattle.infer_table.specs.declared.certainty.MaybeCause.TheVariants.{Ambiguity, Overflow}
use Rattle.goal_evaluator.specs.declared.candidate.CandidateSource.TheVariants.{BuiltinImpl}
use Rattle.goal_evaluator.specs.declared.candidate.BuiltinImplSource.TheVariants.{Misc}
use Rattle.goal_evaluator.specs.Lists.{SomeOf}
use Rattle.goal_evaluator.specs.Table.{Tables, workings}
use Rattle.goal_evaluator.specs.Candidate.{Spec, Considered, Next, consider, answer}
use Rattle.goal_evaluator.specs.Handler.{Handled}
use Rattle.goal_evaluator.specs.Merge.{responses, is_always_applicable, merge_or_flounder, same_certainty}
use Rattle.goal_evaluator.specs.Proof.{FactHasProof}
use Rattle.goal_evaluator.specs.System.{System}

pub data Argument : Type 0 where
  atom : ℕ → Argument
  unknown : Argument

-- the argument with this atom for the variable
abbrev pub value_at : Argument → ℕ → ℕ
value_at (atom a) x = a
value_at unknown x = x

-- the predicate of the argument, as a nested goal of a coinductive step or of another step
pub record Goal : Type 0 where
  pub predicate : ℕ
  pub argument : Argument
  pub coinductive : Bool

-- a response gives the variable a value or leaves it free
pub record Response : Type 0 where
  pub certainty : Certainty
  pub value : Option ℕ

-- ---- a table is the value of the variable, if it has one
abbrev pub AllowsValue : Option ℕ → ℕ → Type 0
AllowsValue None x = Unit {0}
AllowsValue (Some a) x = x ≡ a

abbrev pub resolved : Option ℕ → Argument → Argument
resolved value (atom a) = atom a
resolved None unknown = unknown
resolved (Some a) unknown = atom a

abbrev pub unified : Option ℕ → Argument → Argument → Option (Option ℕ)
unified table (atom a) (atom b) = if a == b then Some table else None
unified table (atom a) unknown = Some (Some a)
unified table unknown (atom b) = Some (Some b)
unified table unknown unknown = Some table

abbrev pub unify : Option ℕ → Argument × Argument → Option (Option ℕ)
unify table e = unified table (resolved table e.0) (resolved table e.1)

abbrev pub then_unify : (Option ℕ → Option (Option ℕ)) → Option (Option ℕ) → Option (Option ℕ)
then_unify go None = None
then_unify go (Some table) = go table

abbrev pub unify_all : List (Argument × Argument) → Option ℕ → Option (Option ℕ)
unify_all [] table = Some table
unify_all (e ∷ es) table = then_unify (unify_all es) (unify table e)

-- a response gives a value only if the argument of the goal is the variable
abbrev pub put : Option ℕ → Argument → Option ℕ → Option ℕ
put table (atom a) value = table
put table unknown None = table
put table unknown (Some a) = Some a

-- the response with this value and certainty. An overflow has no value
abbrev pub answer_with : Option ℕ → Certainty → Response
answer_with table (Maybe Overflow) = record { certainty = Maybe Overflow; value = None }
answer_with table (Maybe Ambiguity) = record { certainty = Maybe Ambiguity; value = table }
answer_with table Yes = record { certainty = Yes; value = table }

abbrev pub atoms : Tables Goal Response
atoms = record {
  Assignment = ℕ;
  Values = ℕ;
  Fact = ℕ × ℕ;
  Table = Option ℕ;
  Nested = Goal;
  Equation = Argument × Argument;
  Kinds = Unit {0};
  Regions = Unit {0};
  Made = λ table. Unit {0};
  Allows = AllowsValue;
  AllowsApart = AllowsValue;
  Knows = λ table n. Unit {0};
  fact = λ n x. (n.predicate, value_at n.argument x);
  Meets = λ e x. value_at e.0 x ≡ value_at e.1 x;
  question = λ table n. record { predicate = n.predicate; argument = resolved table n.argument; coinductive = n.coinductive };
  fact_of = λ g x. (g.predicate, value_at g.argument x);
  at = λ table n x. x;
  own = λ x. x;
  made_of = λ g x. x ∷ [];
  is_coinductive = λ g. g.coinductive;
  Agrees = λ r x. AllowsValue r.value x;
  certainty = λ r. r.certainty;
  has_values = λ r. is_some r.value;
  has_regions = λ r. false;
  fresh = λ table kinds. table;
  equate = λ table es. unify_all es table;
  recorded = λ table regions. table;
  apply = λ table n r. Some (put table (resolved table n.argument) r.value);
  respond = answer_with;
  number_of = λ g. 0;
  number_in = λ r. 0;
  TableWithin = λ n table. Unit {0};
  NestedWithin = λ n g. Unit {0};
  EquationWithin = λ n e. Unit {0};
}

-- ---- the handler of a list of rules
-- `predicate(shape)` holds if the premises do. The variable is the same atom in all of them
pub record AtomRule : Type 0 where
  pub predicate : ℕ
  pub shape : Argument
  pub premises : List Goal

pub record AtomRuleBook : Type 0 where
  pub rules : List AtomRule
  pub coinductive : ℕ → Bool

-- the predicate of an atom follows from these premises by the rule
pub record AtomIsBy (f : ℕ × ℕ) (premises : List (ℕ × ℕ)) (r : AtomRule) : Type 0 where
  pub concludes : r.predicate ≡ f.0
  pub fits : value_at r.shape f.1 ≡ f.1
  pub needs : map (λ (n : Goal). (n.predicate, value_at n.argument f.1)) r.premises ≡ premises

-- the goal's argument replaces the variable of the rule
abbrev pub put_in : Argument → Argument → Argument
put_in argument (atom a) = atom a
put_in argument unknown = argument

abbrev pub goal_put_in : Bool → Argument → Goal → Goal
goal_put_in kind argument n = record { predicate = n.predicate; argument = put_in argument n.argument; coinductive = kind }

-- the rule as a candidate for a goal of this argument, with steps of this kind
abbrev pub spec_of : Bool → Argument → AtomRule → Spec (workings atoms)
spec_of kind argument r = record {
  source = BuiltinImpl Misc;
  kinds = tt;
  equations = (argument, put_in argument r.shape) ∷ [];
  regions = tt;
  nested = map (goal_put_in kind argument) r.premises;
  certainty = Yes;
}

-- the candidates: one for each rule of the goal's predicate
abbrev pub specs_for : Bool → Goal → List AtomRule → List (Spec (workings atoms))
specs_for kind g [] = []
specs_for kind g (r ∷ rules) = if r.predicate == g.predicate then spec_of kind g.argument r ∷ specs_for kind g rules else specs_for kind g rules

abbrev pub nested_in : List (Spec (workings atoms)) → ℕ
nested_in [] = 0
nested_in (s ∷ specs) = length s.nested + nested_in specs

abbrev pub without_first : {A : Type 0} → List A → List A
without_first [] = []
without_first (x ∷ xs) = xs

-- the remaining candidates after these were considered
abbrev pub remaining : List (Considered (workings atoms)) → List (Spec (workings atoms)) → List (Spec (workings atoms))
remaining [] specs = specs
remaining (c ∷ seen) specs = without_first (remaining seen specs)

abbrev pub same_value : Option ℕ → Option ℕ → Bool
same_value None None = true
same_value (Some a) (Some b) = a == b
same_value None (Some b) = false
same_value (Some a) None = false

abbrev pub same_response : Response → Response → Bool
same_response r s = same_certainty r.certainty s.certainty && same_value r.value s.value

abbrev pub if_refused : Option Response → ℕ → List ℕ → List ℕ
if_refused None n ns = n ∷ ns
if_refused (Some r) n ns = ns

-- the numbers of the candidates that failed
abbrev pub refused_numbers : List (Considered (workings atoms)) → List ℕ
refused_numbers [] = []
refused_numbers (c ∷ seen) = if_refused c.response c.number (refused_numbers seen)

-- the next rule, or the merge of all responses. Candidates that failed are ignored
abbrev pub next_of : List (Considered (workings atoms)) → List (Spec (workings atoms)) → Next (workings atoms)
next_of seen [] = answer (merge_or_flounder atoms (is_always_applicable atoms) same_response None (responses atoms seen)) (refused_numbers seen)
next_of seen (s ∷ specs) = consider s

module _ (book : AtomRuleBook) where
  abbrev pub AtomFollowsByRule : ℕ × ℕ → List (ℕ × ℕ) → Type 0
  AtomFollowsByRule f premises = SomeOf (AtomIsBy f premises) book.rules

  abbrev pub AtomHasProofByBook : ℕ × ℕ → Type 0
  AtomHasProofByBook f = FactHasProof (ℕ × ℕ) AtomFollowsByRule (λ g. book.coinductive g.0) f

  abbrev pub candidates_for : Goal → List (Spec (workings atoms))
  candidates_for g = specs_for (book.coinductive g.predicate) g book.rules

  abbrev pub handled_by : Goal → Handled atoms
  handled_by g = record {
    goal = λ x. (g.predicate, value_at g.argument x);
    begin = None;
    next = λ seen. next_of seen (remaining seen (candidates_for g));
    Rule = AtomFollowsByRule;
    World = Unit {0};
    Proves = λ w f. AtomHasProofByBook f;
    coinductive = book.coinductive g.predicate;
    candidates = length (candidates_for g);
    number = nested_in (candidates_for g);
    widest = nested_in (candidates_for g);
  }

  abbrev pub system_of : System atoms
  system_of = record {
    Goal = Goal;
    handled = handled_by;
    goal_of = λ g. g;
    Rule = AtomFollowsByRule;
    coinductive = λ f. book.coinductive f.0;
    made_of = λ g x. x ∷ [];
  }
