-- Small lists of rules, and the requests of the frames of their goals.
use Rattle.std.specs.Prelude.{◌≡◌, ℕ, zero, suc, ◌==◌, true, false, List, [], ◌∷◌, Option, Some, None}
use Rattle.infer_table.specs.declared.certainty.Certainty.TheVariants.{Yes, Maybe}
use Rattle.infer_table.specs.declared.certainty.MaybeCause.TheVariants.{Ambiguity, Overflow}
use Rattle.goal_evaluator.specs.History.{Request, Reply, evaluated, asks}
use Rattle.goal_evaluator.specs.Promises.{frame_of_goal}
use Rattle.test_handlers.specs.Atoms.{Argument, atom, unknown, Goal, Response, atoms, AtomRuleBook, AtomRule, handled_by}

-- The atoms u8 and bool, and the predicates of the rules. The rule of `send` has coinductive steps
abbrev pub u8 : ℕ
u8 = 0

abbrev pub bool : ℕ
bool = 1

abbrev pub show : Argument → Goal
show a = record { predicate = 0; argument = a; coinductive = false }

abbrev pub clone_goal : Argument → Goal
clone_goal a = record { predicate = 1; argument = a; coinductive = false }

abbrev pub copy_goal : Argument → Goal
copy_goal a = record { predicate = 2; argument = a; coinductive = false }

abbrev pub sized_goal : Argument → Goal
sized_goal a = record { predicate = 3; argument = a; coinductive = false }

abbrev pub send : Argument → Goal
send a = record { predicate = 4; argument = a; coinductive = true }

-- the goal holds if these do
abbrev pub holds_if : Goal → List Goal → AtomRule
holds_if g premises = record { predicate = g.predicate; shape = g.argument; premises = premises }

-- `send` is coinductive
abbrev pub book : List AtomRule → AtomRuleBook
book rules = record { rules = rules; coinductive = λ p. p == 4 }

abbrev pub no_rule : AtomRuleBook
no_rule = book []

-- show(u8)
abbrev pub one_rule : AtomRuleBook
one_rule = book (holds_if (show (atom u8)) [] ∷ [])

-- show(u8); show(bool)
abbrev pub two_rules : AtomRuleBook
two_rules = book (holds_if (show (atom u8)) [] ∷ holds_if (show (atom bool)) [] ∷ [])

-- show(x) if clone(x), copy(x), sized(x)
abbrev pub three_premises : AtomRuleBook
three_premises = book (holds_if (show unknown) (clone_goal unknown ∷ copy_goal unknown ∷ sized_goal unknown ∷ []) ∷ [])

-- show(x) if clone(x); clone(u8)
abbrev pub premise_binds : AtomRuleBook
premise_binds = book (holds_if (show unknown) (clone_goal unknown ∷ []) ∷ holds_if (clone_goal (atom u8)) [] ∷ [])

-- send(x) if send(x)
abbrev pub coinductive_rule : AtomRuleBook
coinductive_rule = book (holds_if (send unknown) (send unknown ∷ []) ∷ [])

-- ---- responses
abbrev pub yes : Option Response
yes = Some (record { certainty = Yes; value = None })

abbrev pub yes_with : ℕ → Option Response
yes_with a = Some (record { certainty = Yes; value = Some a })

abbrev pub maybe : Option Response
maybe = Some (record { certainty = Maybe Ambiguity; value = None })

abbrev pub overflow : Option Response
overflow = Some (record { certainty = Maybe Overflow; value = None })

-- this number of further rounds, in each of which the response to the one premise is the value u8
abbrev pub rounds_with_values : ℕ → List (Reply (Option Response)) → List (Reply (Option Response))
rounds_with_values zero heard = heard
rounds_with_values (suc n) heard = evaluated (yes_with u8) ∷ rounds_with_values n heard

-- the goal's frame makes this request after these replies, the newest first
abbrev pub ToyAsks : AtomRuleBook → Goal → List (Reply (Option Response)) → Request Goal (Option Response) → Type 0
ToyAsks rules g heard request = asks (frame_of_goal atoms (handled_by rules g)) heard ≡ request
