-- Renumberings of rules, and the renumbering that changes nothing.
use Rattle.std.specs.Prelude.{ℕ, map, refl}
use Rattle.type_terms.specs.Promised.Worlds.{World, view_of}
use Rattle.type_terms.specs.Promised.Rules.{Way, by_impl, Rule}
use Rattle.type_terms.specs.Promised.Renumbering.{Permutation, Renumbering, renumbered_reference, View}

-- The permutation that changes nothing.
abbrev pub same_numbers : Permutation
same_numbers = record { to = λ n. n; back = λ n. n; back_to = λ n. refl; to_back = λ n. refl }

-- The renumbering that changes nothing: that of the crates of a text in a set that is the text itself.
abbrev pub as_they_are : Renumbering
as_they_are = record { crates = same_numbers; structs = same_numbers; traits = same_numbers; impls = same_numbers }

-- The source of a rule instance, with its impl renumbered. Indexes stay: the second supertrait of a `dyn` is still the
-- second.
abbrev pub renumbered_way : Renumbering → Way → Way
renumbered_way ρ (by_impl n) = by_impl (ρ.impls.to n)
renumbered_way ρ w = w

-- The rule instance, renumbered, also in its premises.
abbrev pub renumbered_rule : Renumbering → Rule → Rule
renumbered_rule ρ u = record { way = renumbered_way ρ u.way; premises = map (renumbered_reference ρ) u.premises }

-- The view that crate c has in W, with the numbers of W.
abbrev pub view_at : World → ℕ → View
view_at W c = record { numbers = as_they_are; asker = c; world = view_of W c }
