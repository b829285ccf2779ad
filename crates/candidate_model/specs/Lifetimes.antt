-- Goals whose structs have arguments for the lifetimes that their fields name. Such goals have the same premises by the fields with
-- lifetimes as by the fields without.
use Rattle.std.specs.Prelude.{◌≡◌, ◌==◌, Bool, true, false, ◌&&◌, ◌||◌, not, Option, Some, None}
use Rattle.std.specs.List.{list_all}
use Rattle.type_terms.specs.Promised.Label.{Label, of_lifetime, adt, param}
use Rattle.type_terms.specs.Promised.Trees.{Trees, tree, nth, some_node}
use Rattle.type_terms.specs.Trees.{is_a}
use Rattle.type_terms.specs.Promised.Worlds.{World, StructDecl, structs_named}
use Rattle.type_terms.specs.Promised.Rules.{unsize}
use Rattle.infer_table.specs.Canonical.{CanonicalForm}
use Rattle.candidate_model.specs.Meaning.{ViewMeaning}
use Rattle.candidate_model.specs.Asking.{GoalOverKinds, goal_over_kinds, self_of, next_of}

-- A lifetime parameter whose argument is not a lifetime, or is missing.
abbrev pub lacks_lifetime : Trees → Label → Bool
lacks_lifetime A (param of_lifetime i) = not (is_a of_lifetime (nth A i))
lacks_lifetime A l = false

abbrev pub are_given : Trees → StructDecl → Bool
are_given A x = list_all (λ t. not (some_node (lacks_lifetime A) t)) x.fields

-- If the first type is a struct, it has an argument for each lifetime that its fields name. With `struct S<'a>(V<'a>)`, `S<u8>` has none.
abbrev pub gives_lifetimes : World → Trees → Bool
gives_lifetimes V (tree (adt s) A o) = list_all (are_given A) (structs_named V s)
gives_lifetimes V t = true

-- The self type has them, and so has the target of a goal of `Unsize`.
abbrev pub goal_gives_lifetimes : World → GoalOverKinds → Bool
goal_gives_lifetimes V a = gives_lifetimes V (self_of a) && (not (a.reference.trait == unsize) || gives_lifetimes V (next_of (self_of a)))

-- The goal of a canonical form has them, if the form is well-formed.
abbrev pub given_by : World → Option GoalOverKinds → Bool
given_by V None = true
given_by V (Some a) = goal_gives_lifetimes V a

abbrev pub form_gives_lifetimes : World → CanonicalForm → Bool
form_gives_lifetimes V f = given_by V (goal_over_kinds V f)

-- A goal that is decided has them.
abbrev pub GivesLifetimes : ViewMeaning → CanonicalForm → Type 0
GivesLifetimes m f = m.is_sound ≡ true → (a : GoalOverKinds) → goal_over_kinds m.view f ≡ Some a → goal_gives_lifetimes m.view a ≡ true
