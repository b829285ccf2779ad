-- What the visitor that lists inference variables returns.
use Rattle.std.specs.Prelude.{◌≡◌, Bool, true, false, refl}
use Rattle.type_terms.specs.Promised.Label.{Label, infer, principal, auto_trait}
use Rattle.type_terms.specs.Promised.Trees.{Trees, none, tree}
use Rattle.type_terms.specs.Visits.{IsBound}
use Rattle.type_terms.specs.declared.visit.Seen.{Seen}
use Rattle.type_terms.specs.declared.visit.Seen.TheVariants.{Break, Enter, Pass}
use Rattle.text_language.specs.Names.{with_free}
use Rattle.text_tables.specs.Views.{question_of}
use Rattle.text_printer.specs.Called.{unknowns_of}
use Rattle.text_printer.specs.declared.free.ListsFree.{ListsFree}

abbrev pub is_inference_variable : Label → Bool
is_inference_variable (infer s i) = true
is_inference_variable _ = false

abbrev pub is_unknown_root : Trees → Bool
is_unknown_root none = false
is_unknown_root (tree l c o) = is_inference_variable l

-- It enters each node that is no inference variable, and lists one that it does not enter. It breaks if memory is refused.
abbrev pub ListsAt : {B : Type 0} → Trees → ListsFree → ListsFree → Seen B → Type 0
ListsAt t v w (Break b) = Unit {0}
ListsAt t v w Enter = (w.free.items ≡ v.free.items) × (is_unknown_root t ≡ false)
ListsAt t v w Pass = unknowns_of w.free.items ≡ with_free (question_of v.question.now) t (unknowns_of v.free.items)

abbrev pub Lists : {B : Type 0} → Trees → ListsFree → ListsFree → Seen B → Type 0
Lists t v w a = (w.question.now ≡ v.question.now) × ListsAt t v w a

pub bounds-list-none : (B : Type 0) (v : ListsFree) (t : Trees) → IsBound t → Lists {B = B} t v v Enter
bounds-list-none B v (tree (principal n i) c o) h = (refl, (refl, refl))
bounds-list-none B v (tree (auto_trait i) c o) h = (refl, (refl, refl))
bounds-list-none B v none h = absurd h
bounds-list-none B v (tree l c o) h = absurd h
