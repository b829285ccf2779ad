-- Terms that hold a table's own variables alone.
use Rattle.std.specs.Prelude.{ℕ, Bool, true, not, nat_lt}
use Rattle.sessions.specs.TypeTerms.Promised.Label.{Label, Sort, of_type, of_const, of_lifetime, infer, canonical, principal, auto_trait}
use Rattle.sessions.specs.TypeTerms.Promised.Trees.{Trees, none, tree, erase_label, some_node}
use Rattle.sessions.specs.TypeTerms.Promised.Answers.{is_open}
use Rattle.sessions.specs.TypeTerms.Visits.{IsBound}
use Rattle.sessions.specs.TypeTerms.declared.visit.Seen.TheVariants.{Enter}
use Rattle.sessions.specs.CandidateAssembly.Finding.{BreaksAt, at_root}
use Rattle.explain_sessions.specs.declared.unknowns.FindsOther.{FindsOther}

-- A parameter, placeholder or variable that is no variable with a number below these. Lifetimes that a binder binds or a declaration names
-- do not count.
abbrev pub is_other_place : (Sort → ℕ) → Label → Bool
is_other_place counts (infer s v) = not (nat_lt v (counts s))
is_other_place counts (canonical s i) = true
is_other_place counts l = is_open (erase_label l)

-- The terms hold none of these.
abbrev pub speaks_of_known : (Sort → ℕ) → Trees → Bool
speaks_of_known counts t = not (some_node (is_other_place counts) t)

-- How many variables of each kind the visitor knows.
abbrev pub known_to : FindsOther → Sort → ℕ
known_to v of_type = v.ty_vars
known_to v of_const = v.const_vars
known_to v of_lifetime = v.region_vars

-- The bounds of a `dyn` are no open places.
pub bounds-are-closed : (B : Type 0) (counts : Sort → ℕ) (t : Trees) → IsBound t → BreaksAt {B = B} (at_root (is_other_place counts) t) Enter
bounds-are-closed B counts (tree (principal m i) c o) h = tt
bounds-are-closed B counts (tree (auto_trait i) c o) h = tt
bounds-are-closed B counts none h = tt
bounds-are-closed B counts (tree l c o) h = absurd h
