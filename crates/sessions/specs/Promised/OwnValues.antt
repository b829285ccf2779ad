-- What the values of an answer may speak of: of names those that the asking crate sees, and of open places unknowns and the question's
-- own parameters. V is what the crate sees; all is without lifetimes.
use Rattle.std.specs.Prelude.{◌≡◌, Bool, true, false, not, ◌||◌, ◌==◌, List, ◌++◌}
use Rattle.std.specs.List.{list_all, list_any}
use Rattle.type_terms.specs.Promised.Answers.{is_open, is_undeclared}
use Rattle.type_terms.specs.Promised.Label.{Label, of_type, of_const, placeholder, infer}
use Rattle.type_terms.specs.Promised.Trees.{Trees, some_node}
use Rattle.type_terms.specs.Promised.Worlds.{World, Reference}
use Rattle.type_terms.specs.Promised.Questions.{ProveAnswer, yes, maybe, unproved, is_bound_place}

-- an unknown, which stands for a variable of the question or is one of the answer's own
abbrev pub is_unknown : Label → Bool
is_unknown (infer s i) = true
is_unknown l = false

-- Both are one parameter of the question, of types or of constants.
abbrev pub is_same_param : Label → Label → Bool
is_same_param (placeholder of_type i) (placeholder of_type k) = i == k
is_same_param (placeholder of_const i) (placeholder of_const k) = i == k
is_same_param l m = false

-- It stands in one of the references.
abbrev pub occurs_among : List Reference → Label → Bool
occurs_among rs l = list_any (λ r. some_node (λ m. is_same_param m l) r.args) rs

-- An open place that is neither an unknown nor a parameter that stands in the question's references.
abbrev pub is_stray_place : List Reference → Label → Bool
is_stray_place rs (infer s i) = false
is_stray_place rs (placeholder s i) = not (occurs_among rs (placeholder s i))
is_stray_place rs l = is_open l

-- That, or a struct or trait that the crate does not see.
abbrev pub is_foreign : World → List Reference → Label → Bool
is_foreign V rs l = is_undeclared V l || is_stray_place rs l

-- No parameter stands in the reference, nor anything bound.
abbrev pub HasNoParameter : Reference → Type 0
HasNoParameter r = some_node is_bound_place r.args ≡ false

-- No value holds such a name or place. Out: `?x = W<_>` for a struct W that the crate does not see, or a parameter that the question does
-- not name.
abbrev pub are_own : World → List Reference → List Trees → Bool
are_own V rs ts = list_all (λ t. not (some_node (is_foreign V rs) t)) ts

-- So it is of the values for the unknowns of references rs under where-clauses E; without unknowns there are none.
abbrev pub SpeakOfOwn : World → List Reference → List Reference → List Trees → Type 0
SpeakOfOwn V E rs ts = list_any (λ r. some_node is_unknown r.args) rs ≡ true → are_own V (rs ++ E) ts ≡ true

-- So are they of an answer.
abbrev pub SpeaksOfOwn : World → List Reference → List Reference → ProveAnswer → Type 0
SpeaksOfOwn V E rs (yes ts) = SpeakOfOwn V E rs ts
SpeaksOfOwn V E rs (maybe ts) = SpeakOfOwn V E rs ts
SpeaksOfOwn V E rs unproved = Unit {0}
