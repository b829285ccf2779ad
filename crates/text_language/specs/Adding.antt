-- What a line without a fault adds to the declarations.
use Rattle.std.specs.Prelude.{ℕ, ◌-◌, if◌then◌else◌, false, true, Bool, List, [], ◌∷◌, ◌++◌, length, map}
use Rattle.type_terms.specs.Promised.Label.{of_type, param, placeholder}
use Rattle.type_terms.specs.Promised.Trees.{leaf}
use Rattle.text_language.specs.Promised.Syntax.{Params, Bound, Clause, Types, Line, crate_line, struct_line, trait_line, impl_line, prove_line, refute_line, later_line, supers_line}
use Rattle.text_language.specs.Promised.Declarations.{Declarations, NamedCrate, NamedStruct, NamedTrait, NamedImpl, of_later, of_supers, Question, known, kinds_of, names_of, last_crate, last_later, impl_owner}
use Rattle.text_language.specs.Declarations.{sorted_names}
use Rattle.text_language.specs.Uses.{asked_uses, params_of}
use Rattle.text_language.specs.Promised.Faults.{with_own}
use Rattle.text_language.specs.Faults.{variables_in, once}
use Rattle.text_language.specs.Lowering.{Meanings, crate_number, field_trees, bound_with_self, clause_reference}

-- What the names in an item's line mean, where parameters are numbered from `first`, and what those in a query mean.
abbrev pub item_meanings : Declarations → Line → ℕ → Meanings
item_meanings d l first = record { items = with_own d l; params = params_of l; first = first; parameter = param; variables = [] }

abbrev pub question_meanings : Declarations → Line → Meanings
question_meanings d l = record { items = d; params = params_of l; first = 0; parameter = placeholder; variables = once (variables_in (asked_uses d l)) }

abbrev pub crate_of : Declarations → List ℕ → List (List ℕ) → NamedCrate
crate_of d n us = record { text = n; item = record { name = length d.crates; uses = map (λ u. crate_number (known d u)) us } }

abbrev pub struct_of : Declarations → Meanings → Bool → List ℕ → Params → Types → NamedStruct
struct_of d e f n ps fs = record { text = n; kinds = kinds_of ps; item = record { name = length d.structs; home = last_crate d; is_fundamental = f; fields = field_trees e fs } }

-- The trait of the line. Its parameter 0 is Self.
abbrev pub trait_of : Declarations → Meanings → Bool → Bool → List ℕ → Params → List Bound → NamedTrait
trait_of d e f a n ps bs = record { text = n; kinds = kinds_of ps; item = record { name = length d.traits; home = last_crate d; is_fundamental = f; is_auto = a; bounds = map (bound_with_self e (leaf (param of_type 0))) bs } }

-- The impl of the line. In a section it is numbered from 0, and is of the section's crate.
abbrev pub impl_of : Declarations → Meanings → Params → Clause → List Clause → NamedImpl
impl_of d e ps h ks = record {
  params = sorted_names ps;
  item = record { name = if d.in_section then last_later d else length d.impls; home = impl_owner d; params = length (kinds_of ps); header = clause_reference e h; clauses = map (clause_reference e) ks };
}

abbrev pub question_of : Declarations → Meanings → Bool → List ℕ → Params → Clause → List Clause → List Clause → Question
question_of d e r c ps a bs ks = record {
  is_refute = r;
  asker = crate_number (known d c);
  params = names_of ps;
  asked = clause_reference e a;
  further = map (clause_reference e) bs;
  clauses = map (clause_reference e) ks;
  variables = map (λ v. record { text = v.0; kind = v.1 }) e.variables;
}

abbrev pub with_impl : Declarations → NamedImpl → Declarations
with_impl d i =
    if d.in_section
    then record d { later_impls = d.later_impls ++ record { section = length d.sections - 1; added = i } ∷ [] }
    else record d { impls = d.impls ++ i ∷ [] }

abbrev pub with_section : Declarations → ℕ → Declarations
with_section d c = record d { sections = d.sections ++ c ∷ []; checks = d.checks ++ of_later (length d.sections) c ∷ []; in_section = true }

abbrev pub with_supers : Declarations → ℕ → Declarations
with_supers d c = record d { checks = d.checks ++ of_supers c ∷ [] }

-- The declarations with the line. A section ends at a `crate` line and at a `later` line, but not at a query or a
-- `supers` line.
abbrev pub added : Declarations → Line → Declarations
added d (crate_line n us) = record d { crates = d.crates ++ crate_of d n us ∷ []; in_section = false }
added d (struct_line f n ps fs) = record d { structs = d.structs ++ struct_of d (item_meanings d (struct_line f n ps fs) 0) f n ps fs ∷ [] }
added d (trait_line f a n ps bs) = record d { traits = d.traits ++ trait_of d (item_meanings d (trait_line f a n ps bs) 1) f a n ps bs ∷ [] }
added d (impl_line ps h ks) = with_impl d (impl_of d (item_meanings d (impl_line ps h ks) 0) ps h ks)
added d (prove_line c ps a bs ks) = record d { questions = d.questions ++ question_of d (question_meanings d (prove_line c ps a bs ks)) false c ps a bs ks ∷ [] }
added d (refute_line c ps a bs) = record d { questions = d.questions ++ question_of d (question_meanings d (refute_line c ps a bs)) true c ps a bs [] ∷ [] }
added d (later_line n) = with_section d (crate_number (known d n))
added d (supers_line n) = with_supers d (crate_number (known d n))
