-- Which limits a statement without its types exceeds.
use Rattle.std.specs.Prelude.{Bool, false, not, ◌||◌, ◌&&◌, if◌then◌else◌, length, nat_le, nat_lt}
use Rattle.text_language.specs.Promised.Declarations.{Declarations, last_later}
use Rattle.text_language.specs.Faults.{crate_limit, question_limit, item_limit, param_limit, part_limit}
use Rattle.text_language.specs.Promised.Faults.{last_items}
use Rattle.text_lines.specs.Says.{params_said, count_said, has_long, is_item, is_said_impl}
use Rattle.text_lines.specs.Statement.{Statement, crate_statement, impl_statement, prove_statement, refute_statement, later_statement, supers_statement}

-- There are already as many as there may be. `core` and sections are not counted.
abbrev pub is_full_for : Declarations → Statement → Bool
is_full_for d (crate_statement n us) = nat_lt crate_limit (length d.crates)
is_full_for d (prove_statement c ps k js ks) = nat_le question_limit (length d.questions)
is_full_for d (refute_statement c ps k js) = nat_le question_limit (length d.questions)
is_full_for d (later_statement n) = false
is_full_for d (supers_statement n) = false
is_full_for d (impl_statement ps h ks) = nat_le item_limit (if d.in_section then last_later d else last_items d)
is_full_for d s = nat_le item_limit (last_items d)

-- An item is where none may be: in a section any but an impl, and otherwise any before the first crate.
abbrev pub is_misplaced_for : Declarations → Statement → Bool
is_misplaced_for d s = is_item s && (if d.in_section then not (is_said_impl s) else nat_le (length d.crates) 1)

-- It exceeds a limit by itself, without its types.
abbrev pub is_large_for : Declarations → Statement → Bool
is_large_for d s = is_full_for d s || (has_long s || (nat_lt param_limit (length (params_said s)) || nat_lt part_limit (count_said s)))
