-- What a text says by the definitions that a reader follows is what it gives by those in which the reader of texts is proved.
use Rattle.std.proofs.Common.{ℕ, List, Ok}
use Rattle.text_language.specs.Promised.Declarations.{Declarations}
use Rattle.text_language.specs.Text.{TextGives}
use Rattle.text_language.proofs.SameTexts.{text-gives, text-says}
use Rattle.sessions.specs.Promised.Subjects.{IsOfText}

pub text-given : (d : Declarations) (text : IsOfText d) → TextGives text.0 (Ok d)
text-given d text = text-gives text.0 (Ok d) text.1

pub given-text : (bytes : List ℕ) (d : Declarations) → TextGives bytes (Ok d) → IsOfText d
given-text bytes d gives = (bytes, text-says bytes (Ok d) gives)
