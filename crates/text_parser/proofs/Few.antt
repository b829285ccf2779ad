-- How many declarations there are after some more.
use Rattle.std.proofs.Common.{ℕ, ◌+◌, ◌-◌, ◌≤◌, Bool, true, false, if◌then◌else◌, List, [], ◌∷◌, ◌++◌, length, fold, length-append, arith}
use Rattle.text_language.specs.Promised.Syntax.{Line, crate_line, struct_line, trait_line, impl_line, prove_line, refute_line, later_line, supers_line}
use Rattle.text_language.specs.Promised.Declarations.{Declarations, NamedImpl}
use Rattle.text_language.specs.Adding.{added, with_impl, impl_of, item_meanings}
use Rattle.text_tables.specs.Numbered.{IsFew}

impl-few : (d : Declarations) (i : NamedImpl) (k : ℕ) → IsFew d k → IsFew (with_impl d i) (k + 1)
impl-few d i k w = by d.in_section
  where
    by : (b : Bool)
        → IsFew (if b then record d { later_impls = d.later_impls ++ record { section = length d.sections - 1; added = i } ∷ [] } else record d { impls = d.impls ++ i ∷ [] }) (k + 1)
    by true = record { few_crates = omega (arith, w.few_crates); few_structs = omega (arith, w.few_structs); few_traits = omega (arith, w.few_traits); few_impls = omega (arith, w.few_impls); few_questions = omega (arith, w.few_questions); few_sections = omega (arith, w.few_sections); few_later = simp length-append (omega (arith, w.few_later)) }
    by false = record { few_crates = omega (arith, w.few_crates); few_structs = omega (arith, w.few_structs); few_traits = omega (arith, w.few_traits); few_impls = simp length-append (omega (arith, w.few_impls)); few_questions = omega (arith, w.few_questions); few_sections = omega (arith, w.few_sections); few_later = omega (arith, w.few_later) }

pub added-few : (d : Declarations) (l : Line) (k : ℕ) → IsFew d k → IsFew (added d l) (k + 1)
added-few d (crate_line n us) k f = record { few_crates = simp length-append (omega (arith, f.few_crates)); few_structs = omega (arith, f.few_structs); few_traits = omega (arith, f.few_traits); few_impls = omega (arith, f.few_impls); few_questions = omega (arith, f.few_questions); few_sections = omega (arith, f.few_sections); few_later = omega (arith, f.few_later) }
added-few d (struct_line f n ps fs) k w = record { few_crates = omega (arith, w.few_crates); few_structs = simp length-append (omega (arith, w.few_structs)); few_traits = omega (arith, w.few_traits); few_impls = omega (arith, w.few_impls); few_questions = omega (arith, w.few_questions); few_sections = omega (arith, w.few_sections); few_later = omega (arith, w.few_later) }
added-few d (trait_line f a n ps bs) k w = record { few_crates = omega (arith, w.few_crates); few_structs = omega (arith, w.few_structs); few_traits = simp length-append (omega (arith, w.few_traits)); few_impls = omega (arith, w.few_impls); few_questions = omega (arith, w.few_questions); few_sections = omega (arith, w.few_sections); few_later = omega (arith, w.few_later) }
added-few d (impl_line ps h ks) k w = impl-few d (impl_of d (item_meanings d (impl_line ps h ks) 0) ps h ks) k w
added-few d (prove_line c ps a bs ks) k w = record { few_crates = omega (arith, w.few_crates); few_structs = omega (arith, w.few_structs); few_traits = omega (arith, w.few_traits); few_impls = omega (arith, w.few_impls); few_questions = simp length-append (omega (arith, w.few_questions)); few_sections = omega (arith, w.few_sections); few_later = omega (arith, w.few_later) }
added-few d (refute_line c ps a bs) k w = record { few_crates = omega (arith, w.few_crates); few_structs = omega (arith, w.few_structs); few_traits = omega (arith, w.few_traits); few_impls = omega (arith, w.few_impls); few_questions = simp length-append (omega (arith, w.few_questions)); few_sections = omega (arith, w.few_sections); few_later = omega (arith, w.few_later) }
added-few d (later_line n) k w = record { few_crates = omega (arith, w.few_crates); few_structs = omega (arith, w.few_structs); few_traits = omega (arith, w.few_traits); few_impls = omega (arith, w.few_impls); few_questions = omega (arith, w.few_questions); few_sections = simp length-append (omega (arith, w.few_sections)); few_later = omega (arith, w.few_later) }
added-few d (supers_line n) k w = record { few_crates = omega (arith, w.few_crates); few_structs = omega (arith, w.few_structs); few_traits = omega (arith, w.few_traits); few_impls = omega (arith, w.few_impls); few_questions = omega (arith, w.few_questions); few_sections = omega (arith, w.few_sections); few_later = omega (arith, w.few_later) }

pub few-weaken : (d : Declarations) (j k : ℕ) → j ≤ k → IsFew d j → IsFew d k
few-weaken d j k h f = record { few_crates = omega (arith, h, f.few_crates); few_structs = omega (arith, h, f.few_structs); few_traits = omega (arith, h, f.few_traits); few_impls = omega (arith, h, f.few_impls); few_questions = omega (arith, h, f.few_questions); few_sections = omega (arith, h, f.few_sections); few_later = omega (arith, h, f.few_later) }

-- one more for each line
pub fold-few : (d : Declarations) (ls : List Line) (k : ℕ) → IsFew d k → IsFew (fold added d ls) (k + length ls)
fold-few d [] k f = few-weaken d k (k + 0) (omega arith) f
fold-few d (l ∷ ls) k f = few-weaken (fold added (added d l) ls) (k + 1 + length ls) (k + length (l ∷ ls)) (omega arith) (fold-few (added d l) ls (k + 1) (added-few d l k f))
