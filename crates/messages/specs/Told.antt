-- What a call adds to a diagnostic that is being written.
use Rattle.std.specs.Prelude.{◌≡◌, ℕ, Bool, true, false, List, [], ◌∷◌, ◌++◌, map, Option, string_bytes}
use Rattle.explain_diagnostics.specs.declared.diagnostic.Diagnostic.{Diagnostic}
use Rattle.explain_diagnostics.specs.declared.diagnostic.ErrCode.{ErrCode}
use Rattle.explain_diagnostics.specs.declared.diagnostic.Level.{Level}
use Rattle.explain_diagnostics.specs.declared.diagnostic.ProofRow.{ProofRow}
use Rattle.explain_diagnostics.specs.declared.diagnostic.SpanLabel.{SpanLabel}
use Rattle.explain_diagnostics.specs.declared.diagnostic.Subdiagnostic.{Subdiagnostic}
use Rattle.explain_diagnostics.specs.declared.span.Span.{Span}
use Rattle.messages.specs.Written.{impl_line_of, piece_words, sentence_text}
use Rattle.messages.specs.declared.sentences.Piece.{Piece}
use Rattle.messages.specs.declared.sentences.Sentence.{Sentence}
use Rattle.messages.specs.declared.telling.Telling.{Telling}

-- Which parts are marked, and which of them the message is about.
abbrev pub marks : List SpanLabel → List (Span × Bool)
marks = map (λ (l : SpanLabel). (l.span, l.is_primary))

-- What the labels of these parts say.
abbrev pub label_texts : List SpanLabel → List (List ℕ)
label_texts = map (λ (l : SpanLabel). string_bytes l.label)

-- A child as it is displayed: its level, what it says, which parts it marks, and with which labels.
pub record Child : Type 0 where
  pub level : Level
  pub says : List ℕ
  pub marked : List (Span × Bool)
  pub labelled : List (List ℕ)

abbrev pub child_of : Subdiagnostic → Child
child_of c = record { level = c.level; says = string_bytes c.message; marked = marks c.spans.items; labelled = label_texts c.spans.items }

abbrev pub child_sentences : Diagnostic → List Child
child_sentences d = map child_of d.children.items

-- A row of a proof as it is displayed.
pub record Row : Type 0 where
  pub depth : ℕ
  pub goal : List ℕ
  pub reason : List ℕ
  pub impl_line : Option ℕ

abbrev pub row_of : ProofRow → Row
row_of r = record { depth = r.depth; goal = string_bytes r.goal; reason = string_bytes r.reason; impl_line = r.impl_line }

abbrev pub rows : Diagnostic → List Row
rows d = map row_of d.proof.items

-- One mark with this label behind the others, and nothing else.
pub record AddsMark (old new : Diagnostic) (span : Span) (is_primary : Bool) (label : List ℕ) : Type 0 where
  pub marked : marks new.spans.items ≡ marks old.spans.items ++ (span, is_primary) ∷ []
  pub labelled : label_texts new.spans.items ≡ label_texts old.spans.items ++ label ∷ []
  pub rest : new ≡ record old { spans = new.spans }

-- One child without marks behind the others, and nothing else.
pub record AddsChild (old new : Diagnostic) (level : Level) (text : List ℕ) : Type 0 where
  pub added : child_sentences new ≡ child_sentences old ++ record { level = level; says = text; marked = []; labelled = [] } ∷ []
  pub rest : new ≡ record old { children = new.children }

-- The last element is replaced by what it becomes. If there is none, nothing is.
abbrev pub change_last : {X : Type 0} → (X → X) → List X → List X
change_last becomes [] = []
change_last becomes (x ∷ []) = becomes x ∷ []
change_last becomes (x ∷ y ∷ ys) = x ∷ change_last becomes (y ∷ ys)

-- The last child becomes another one, and nothing else changes.
pub record ChangesLast (old new : Diagnostic) (becomes : Child → Child) : Type 0 where
  pub changed : child_sentences new ≡ change_last becomes (child_sentences old)
  pub rest : new ≡ record old { children = new.children }

-- The child with one mark more behind its others, with this label.
abbrev pub marked_more : Span → Bool → List ℕ → Child → Child
marked_more span is_primary label c = record c { marked = c.marked ++ (span, is_primary) ∷ []; labelled = c.labelled ++ label ∷ [] }

-- The child with a longer message.
abbrev pub saying_more : List ℕ → Child → Child
saying_more more c = record c { says = c.says ++ more }

-- The row of a goal and of why it holds.
abbrev pub told_row : ℕ → Piece → Sentence → Row
told_row depth goal reason = record { depth = depth; goal = piece_words goal; reason = sentence_text reason; impl_line = impl_line_of reason }

-- One row behind the others, and nothing else.
pub record AddsRow (old new : Diagnostic) (row : Row) : Type 0 where
  pub added : rows new ≡ rows old ++ row ∷ []
  pub rest : new ≡ record old { proof = new.proof }

-- The level, the code and the marks of the message stay. A refused request stays refused.
pub record KeepsMessage (old new : Telling) : Type 0 where
  pub level : new.told.level ≡ old.told.level
  pub code : new.told.code ≡ old.told.code
  pub marks : new.told.spans ≡ old.told.spans
  pub refused : new.is_refused ≡ false → old.is_refused ≡ false

-- A message of this level and code, which is about this part alone.
pub record IsAbout (level : Level) (code : Option ErrCode) (span : Span) (d : Diagnostic) : Type 0 where
  pub level_is : d.level ≡ level
  pub code_is : d.code ≡ code
  pub marked : marks d.spans.items ≡ (span, true) ∷ []
