-- What values hold that is foreign to their question, as it is read off terms with lifetimes; and the visitors that look for it.
use Rattle.std.specs.Global.{Vec}
use Rattle.std.specs.Prelude.{◌≡◌, ◌⊎◌, Bool, true, false, not, ◌||◌, List, [], ◌∷◌, ◌++◌, map}
use Rattle.std.specs.List.{list_all}
use Rattle.type_terms.specs.Promised.Answers.{is_undeclared}
use Rattle.type_terms.specs.Promised.Handles.{arg_trees}
use Rattle.type_terms.specs.Promised.Label.{Label, of_type, of_const, principal, auto_trait, placeholder, infer}
use Rattle.type_terms.specs.Promised.Handles.{Entry}
use Rattle.type_terms.specs.Promised.Trees.{Trees, none, tree, erase_label, some_node}
use Rattle.type_terms.specs.Visits.{IsBound}
use Rattle.type_terms.specs.Promised.Worlds.{World, Reference}
use Rattle.type_terms.specs.declared.kinds.GenericArgKind.{GenericArgKind}
use Rattle.type_terms.specs.declared.visit.Seen.TheVariants.{Enter}
use Rattle.term_folds.specs.declared.predicate.TraitRef.{TraitRef}
use Rattle.declarations.specs.Applied.{references_in}
use Rattle.declarations.specs.Items.{reference_in}
use Rattle.candidate_assembly.specs.Finding.{BreaksAt, at_root}
use Rattle.sessions.specs.Promised.Given.{values_of_answer}
use Rattle.sessions.specs.Promised.OwnValues.{is_same_param, is_stray_place}
use Rattle.sessions.specs.declared.answers.ProveAnswer.{ProveAnswer}
use Rattle.sessions.specs.declared.answers.ProveAnswer.TheVariants.{Maybe}
use Rattle.sessions.specs.declared.own_values.Param.{Param}
use Rattle.sessions.specs.declared.own_values.Param.TheVariants.{Ty as ATypeParam, Const as AConstParam}

-- The placeholder of a parameter.
abbrev pub label_of : Param → Label
label_of (ATypeParam i) = placeholder of_type i
label_of (AConstParam i) = placeholder of_const i

-- The references that a question asks about: what it asks for, and its where-clauses.
abbrev pub question_in : List Entry → TraitRef → List TraitRef → List Reference
question_in es asked clauses = reference_in es asked ∷ references_in es clauses

-- A type or a constant is unknown.
abbrev pub is_unknown_term : Label → Bool
is_unknown_term (infer of_type i) = true
is_unknown_term (infer of_const i) = true
is_unknown_term l = false

-- An open place, lifetimes aside, that is neither an unknown nor a parameter that stands in the references.
abbrev pub strays : List Reference → Label → Bool
strays rs l = is_stray_place rs (erase_label l)

-- That, or a name that V does not declare.
abbrev pub is_foreign_term : World → List Reference → Label → Bool
is_foreign_term V rs l = is_undeclared V l || strays rs l

-- No value holds such a place or name.
abbrev pub are_own_terms : World → List Reference → List Trees → Bool
are_own_terms V rs ts = list_all (λ t. not (some_node (is_foreign_term V rs) t)) ts

-- No value of the answer a to r under where-clauses E is foreign.
abbrev pub are_own_values : World → Reference → List Reference → List Entry → ProveAnswer → Bool
are_own_values V r E es a = are_own_terms V (r ∷ E) (map (arg_trees es) (values_of_answer a))

-- Of two where-clauses the search prefers one, so the values of a maybe under where-clauses can leave solutions out. A yes with these values
-- is still one.
abbrev pub HasPreference : List Reference → ProveAnswer → Type 0
HasPreference E a = ((values : Vec GenericArgKind) × (a ≡ Maybe values)) × (E ≡ [] → ⊥)

abbrev pub HasNoPreference : List Reference → ProveAnswer → Type 0
HasNoPreference E (Maybe values) = E ≡ []
HasNoPreference E a = Unit {0}

-- It is a maybe with just these values.
abbrev pub IsMaybeWith : List GenericArgKind → ProveAnswer → Type 0
IsMaybeWith us a = (values : Vec GenericArgKind) × (a ≡ Maybe values) × (values.items ≡ us)

-- The answer a has a foreign value, or is a maybe under where-clauses. So b is maybe in its place, with the variables us themselves.
pub record IsTakenBack (V : World) (r : Reference) (E : List Reference) (us : List GenericArgKind) (es : List Entry) (a b : ProveAnswer) : Type 0 where
  pub reason : ((some_node is_unknown_term r.args ≡ true) × (are_own_values V r E es a ≡ false)) ⊎ HasPreference E a
  pub themselves : IsMaybeWith us b

-- The answer a as it is handed on: itself, if nothing speaks against it.
abbrev pub IsOwnAnswer : World → Reference → List Reference → List GenericArgKind → List Entry → ProveAnswer → ProveAnswer → Type 0
IsOwnAnswer V r E us es a b =
    ((b ≡ a) × HasNoPreference E a × (some_node is_unknown_term r.args ≡ true → are_own_values V r E es a ≡ true)) ⊎ IsTakenBack V r E us es a b

-- The same for the answer to references rs together.
abbrev pub IsOwnAnswerOfAll : World → List Reference → List Reference → List GenericArgKind → List Entry → ProveAnswer → ProveAnswer → Type 0
IsOwnAnswerOfAll V rs E us es a b =
    ((b ≡ a) × HasNoPreference E a × (are_own_terms V (rs ++ E) (map (arg_trees es) (values_of_answer a)) ≡ true)) ⊎ IsMaybeWith us b

-- The bounds of a `dyn` are no parameters, and no open places.
pub bounds-are-no-params : (B : Type 0) (m : Label) (t : Trees) → IsBound t → BreaksAt {B = B} (at_root (λ l. is_same_param l m) t) Enter
bounds-are-no-params B m (tree (principal n i) c o) h = tt
bounds-are-no-params B m (tree (auto_trait i) c o) h = tt
bounds-are-no-params B m none h = tt
bounds-are-no-params B m (tree l c o) h = absurd h

pub bounds-stand : (B : Type 0) (rs : List Reference) (t : Trees) → IsBound t → BreaksAt {B = B} (at_root (strays rs) t) Enter
bounds-stand B rs (tree (principal n i) c o) h = tt
bounds-stand B rs (tree (auto_trait i) c o) h = tt
bounds-stand B rs none h = tt
bounds-stand B rs (tree l c o) h = absurd h
