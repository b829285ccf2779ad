use Rattle.text_language.proofs.SameTexts.{text-says, text-gives}
use Rattle.text_language.proofs.texts_say_what_they_give.Goals as goal

pub returns : goal.returns
returns c = λ bytes r. (text-says bytes r, text-gives bytes r)
