-- What the parts of a line stand for, as the tables are given them.
use Rattle.std.specs.Prelude.{◌≡◌, ℕ, Bool, true, false, List, [], map}
use Rattle.type_terms.specs.Promised.Label.{Sort, of_type, param}
use Rattle.type_terms.specs.Promised.Trees.{Trees, leaf}
use Rattle.type_terms.specs.Promised.Worlds.{Reference}
use Rattle.text_language.specs.Promised.Syntax.{Line, struct_line, trait_line, impl_line, prove_line, refute_line}
use Rattle.text_language.specs.Promised.Declarations.{Declarations, known}
use Rattle.text_language.specs.Uses.{asked_uses}
use Rattle.text_language.specs.Faults.{variables_in, once}
use Rattle.text_language.specs.Lowering.{crate_number, field_trees, bound_with_self, clause_reference}
use Rattle.text_language.specs.Adding.{item_meanings, question_meanings}
use Rattle.text_lines.specs.Lines.{ReadsLine}
use Rattle.text_lines.specs.Statement.{Param, Statement, struct_statement, trait_statement, impl_statement, prove_statement, refute_statement}
use Rattle.text_lines.specs.declared.statement.LineRead.{LineRead}
use Rattle.text_tables.specs.Views.{asker_of, is_refute, reference_of, sorted_params}
use Rattle.text_tables.specs.declared.declared.Asked.{Asked}
use Rattle.text_tables.specs.declared.declared.QuestionEntry.{QuestionEntry}
use Rattle.text_parser.specs.BareLines.{sorted_param}

-- ---- the parts of a line; nothing is said of a line without such a part
-- The fields of a struct.
abbrev pub AreFields : Declarations → Line → List Trees → Type 0
AreFields d (struct_line f n ps fs) fields = fields ≡ field_trees (item_meanings d (struct_line f n ps fs) 0) fs
AreFields d _ fields = Unit {0}

-- The bounds of a trait, for its Self.
abbrev pub AreBoundsOfLine : Declarations → Line → List Reference → Type 0
AreBoundsOfLine d (trait_line f a n ps bs) bounds = bounds ≡ map (bound_with_self (item_meanings d (trait_line f a n ps bs) 1) (leaf (param of_type 0))) bs
AreBoundsOfLine d _ bounds = Unit {0}

-- The header of an impl, or the first bound of a query.
abbrev pub IsMain : Declarations → Line → Reference → Type 0
IsMain d (impl_line ps h ks) r = r ≡ clause_reference (item_meanings d (impl_line ps h ks) 0) h
IsMain d (prove_line c ps a bs ks) r = r ≡ clause_reference (question_meanings d (prove_line c ps a bs ks)) a
IsMain d (refute_line c ps a bs) r = r ≡ clause_reference (question_meanings d (refute_line c ps a bs)) a
IsMain d _ r = Unit {0}

-- The bounds of a query after the first.
abbrev pub AreFurther : Declarations → Line → List Reference → Type 0
AreFurther d (prove_line c ps a bs ks) rs = rs ≡ map (clause_reference (question_meanings d (prove_line c ps a bs ks))) bs
AreFurther d (refute_line c ps a bs) rs = rs ≡ map (clause_reference (question_meanings d (refute_line c ps a bs))) bs
AreFurther d _ rs = Unit {0}

-- The where-clauses of an impl or of a query.
abbrev pub AreClauses : Declarations → Line → List Reference → Type 0
AreClauses d (impl_line ps h ks) rs = rs ≡ map (clause_reference (item_meanings d (impl_line ps h ks) 0)) ks
AreClauses d (prove_line c ps a bs ks) rs = rs ≡ map (clause_reference (question_meanings d (prove_line c ps a bs ks))) ks
AreClauses d (refute_line c ps a bs) rs = rs ≡ []
AreClauses d _ rs = Unit {0}

-- the variables of a query, each once
abbrev pub AreVariables : Declarations → Line → List (List ℕ × Sort) → Type 0
AreVariables d l vs = vs ≡ once (variables_in (asked_uses d l))

-- ---- whichever line was read, it holds of that
abbrev pub OfRead : LineRead → (Line → Type 0) → Type 0
OfRead read P = (l : Line) → ReadsLine l read → P l

-- ---- what the statement says apart from its types
abbrev pub SaysStruct : Statement → (is_fundamental : Bool) → List ℕ → List Param → Type 0
SaysStruct (struct_statement f n ps ss) g m qs = (f ≡ g) × (n ≡ m) × (ps ≡ qs)
SaysStruct _ g m qs = ⊥

abbrev pub IsStruct : Statement → Type 0
IsStruct (struct_statement f n ps ss) = Unit {0}
IsStruct _ = ⊥

abbrev pub SaysTrait : Statement → (is_fundamental is_auto : Bool) → List ℕ → List Param → Type 0
SaysTrait (trait_statement f a n ps ss) g b m qs = (f ≡ g) × (a ≡ b) × (n ≡ m) × (ps ≡ qs)
SaysTrait _ g b m qs = ⊥

abbrev pub IsTrait : Statement → Type 0
IsTrait (trait_statement f a n ps ss) = Unit {0}
IsTrait _ = ⊥

abbrev pub SaysImpl : Statement → List Param → Type 0
SaysImpl (impl_statement ps h ks) qs = ps ≡ qs
SaysImpl _ qs = ⊥

abbrev pub IsImpl : Statement → Type 0
IsImpl (impl_statement ps h ks) = Unit {0}
IsImpl _ = ⊥

-- The statement is a query of this kind, of this crate, with these parameters.
abbrev pub AsksQuestion : Statement → (is_refute : Bool) → (asker : List ℕ) → List Param → Type 0
AsksQuestion (prove_statement c ps k js ks) false a qs = (c ≡ a) × (ps ≡ qs)
AsksQuestion (refute_statement c ps k js) true a qs = (c ≡ a) × (ps ≡ qs)
AsksQuestion _ _ a qs = ⊥

-- And the crate has this number.
abbrev pub IsAsking : Declarations → Statement → Asked → List Param → Type 0
IsAsking d s how ps = (c : List ℕ) × AsksQuestion s (is_refute how) c ps × (asker_of how ≡ crate_number (known d c))

-- The entry of a query has what was read.
pub record IsQuestionEntry (d : Declarations) (params : List Param) (read : LineRead) (q : QuestionEntry) : Type 0 where
  pub named : sorted_params q.params.items ≡ map sorted_param params
  pub asked : OfRead read (λ l. IsMain d l (reference_of q.asked))
  pub further : OfRead read (λ l. AreFurther d l (map reference_of q.further.items))
  pub clauses : OfRead read (λ l. AreClauses d l (map reference_of q.clauses.items))
  pub variables : OfRead read (λ l. AreVariables d l (sorted_params q.variables.items))
