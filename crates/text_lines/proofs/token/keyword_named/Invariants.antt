use Rattle.std.proofs.Common.{◌≡◌, ℕ, List, map, drop, Bor}
use Rattle.text_language.specs.Words as words
use Rattle.text_lines.specs.TokenViews.{keyword_of}
use Rattle.text_lines.specs.declared.token.Keyword.{Keyword}
use Rattle.text_lines.proofs.WordTables.{in_rows}
use Rattle.text_lines.proofs.token.keyword_named.Given as goal

-- a word of the table, and its keyword
abbrev pub row_of : Bor (List ℕ) × Keyword → List ℕ × words.Keyword
row_of p = (p.0.now, keyword_of p.1)

abbrev pub invariant-loop-text : goal.invariant-loop-text
invariant-loop-text l = in_rows l.word (map row_of (drop l.text-index l.text-items)) ≡ words.keyword_named l.word
