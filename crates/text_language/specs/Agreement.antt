-- The two definitions of each meaning agree: the short one of `Promised`, and the long one, which the reader and the
-- printer are proved against.
use Rattle.std.specs.Prelude.{◌≡◌, ℕ, min, Bool, false, if◌then◌else◌, List, [], ◌∷◌, ◌++◌, map, Result}
use Rattle.std.specs.List.{reduce}
use Rattle.std.specs.Option.{option_to_list}
use Rattle.type_terms.specs.Promised.Trees.{Trees}
use Rattle.text_language.specs.Promised.Syntax.{Bound, Clause, Line, crate_line, struct_line, trait_line, impl_line, prove_line, refute_line, later_line, supers_line, WrittenBound, WrittenClause, WrittenLine, written_crate, written_struct, written_trait, written_impl, written_prove, written_refute, written_later, written_supers}
use Rattle.text_language.specs.Promised.Declarations.{Declarations, Question}
use Rattle.text_language.specs.Promised.Desugared.{desugared, leaves_out, is_ill_bound, has_many_types}
use Rattle.text_language.specs.Syntax.{spelling, written_spelling}
use Rattle.text_language.specs.Names.{answer_values}
use Rattle.text_language.specs.Output.{values_text}
use Rattle.text_language.specs.Faults.{fault_of}
use Rattle.text_language.specs.Text.{TextGives, fault_written}
use Rattle.text_language.specs.Promised.Written.{is_overlong}
use Rattle.text_language.specs.Promised.PrintedTypes.{yes_values_text}
use Rattle.text_language.specs.Promised.TextSays.{TextSays}

-- A text has the meaning that the long definitions give.
abbrev pub TextsSayWhatTheyGive : Type 0
TextsSayWhatTheyGive = (bytes : List ℕ) (r : Result Declarations (ℕ × ℕ)) → (TextGives bytes r → TextSays bytes r) × (TextSays bytes r → TextGives bytes r)

-- The values of an answer are printed as the long definitions give them.
abbrev pub ValuesArePrintedAlike : Type 0
ValuesArePrintedAlike = (d : Declarations) (q : Question) (ts : List Trees) → yes_values_text d q ts ≡ values_text (answer_values d q ts)

-- The line, with nothing said of types.
abbrev pub plain_bound : Bound → WrittenBound
plain_bound b = record { bound = b; bindings = [] }

abbrev pub plain_clause : Clause → WrittenClause
plain_clause k = record { subject = k.subject; bound = plain_bound k.bound }

abbrev pub plain : Line → WrittenLine
plain (crate_line n us) = written_crate n us
plain (struct_line f n ps fs) = written_struct f n ps fs
plain (trait_line f a n ps bs) = written_trait f a n ps (map plain_bound bs) []
plain (impl_line ps h ks) = written_impl ps (plain_clause h) (map plain_clause ks)
plain (prove_line c ps a bs ks) = written_prove c ps (plain_clause a) (map plain_clause bs) (map plain_clause ks)
plain (refute_line c ps a bs) = written_refute c ps (plain_clause a) (map plain_clause bs)
plain (later_line n) = written_later n
plain (supers_line n) = written_supers n

-- A line without types is written as before, and stands for itself.
abbrev pub PlainLinesStandForThemselves : Type 0
PlainLinesStandForThemselves = (l : Line) → (desugared (plain l) ≡ l ∷ []) × (written_spelling (plain l) ≡ spelling l)

-- The line is an impl that gives none of the types that its trait has.
abbrev pub lacks_types : Declarations → Line → Bool
lacks_types d (impl_line ps h ks) = leaves_out d (plain_bound h.bound)
lacks_types d l = false

-- A line without types has no fault as a written line, unless it lacks types.
abbrev pub PlainLinesLackTypes : Type 0
PlainLinesLackTypes = (l : Line) → (has_many_types (plain l) ≡ false) × ((d : Declarations) → is_ill_bound d (plain l) ≡ lacks_types d l)

-- So it has its own fault, or fault 7 if it lacks types: the smaller one.
abbrev pub PlainLinesHaveTheirFaults : Type 0
PlainLinesHaveTheirFaults =
    (d : Declarations) (line : List ℕ) (l : Line) → is_overlong line ≡ false
    → fault_written d line (plain l) ≡ reduce min (option_to_list (fault_of d l) ++ (if lacks_types d l then 7 ∷ [] else []))
