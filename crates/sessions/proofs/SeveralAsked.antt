-- The trait references of a question, one or several, as terms.
use Rattle.std.proofs.Common.{◌≡◌, ℕ, List, [], ◌∷◌, map, refl, sym, ap, ◌∙◌}
use Rattle.type_terms.specs.Promised.Handles.{Entry}
use Rattle.declarations.specs.Applied.{TraitRefsHeld, references_in}
use Rattle.declarations.specs.Items.{reference_in}
use Rattle.text_language.specs.Promised.Declarations.{Question}
use Rattle.text_lowering.specs.Plain.{unbound_references}
use Rattle.text_lowering.specs.Promised.SeenWorlds.{unbound_reference}
use Rattle.text_lowering.specs.Questions.{IsLowered}
use Rattle.text_lowering.specs.declared.question.LoweredQuestion.{LoweredQuestion}
use Rattle.candidate_assembly.specs.Solving.{Solving}
use Rattle.sessions.specs.Proving.{IsAnsweredBySolver}
use Rattle.sessions.specs.ProvingTogether.{AreAnsweredBySolver, IsQuestionAnswered, asked_references}
use Rattle.sessions.specs.declared.answers.ProveAnswer.{ProveAnswer}

none-of : {A B : Type 0} (f : A → B) (xs : List A) → map f xs ≡ [] → xs ≡ []
none-of f [] e = refl
none-of f (x ∷ xs) e = absurd cc

module _ (es : List Entry) (q : Question) (l : LoweredQuestion) (low : IsLowered es q l) where
  pub one-asked : l.further.items ≡ [] → q.further ≡ []
  one-asked e = none-of unbound_reference q.further (sym low.further ∙ ap (references_in es) e)

  pub one-lowered : q.further ≡ [] → l.further.items ≡ []
  one-lowered e = none-of (reference_in es) l.further.items (low.further ∙ ap unbound_references e)

  pub all-are : references_in es (l.asked ∷ l.further.items) ≡ asked_references q
  all-are = ap (λ r. r ∷ references_in es l.further.items) low.asked ∙ ap (λ rs. unbound_reference q.asked ∷ rs) low.further

  pub all-held : TraitRefsHeld es (l.asked ∷ l.further.items)
  all-held = (low.asked_held, low.further_held)

-- ---- what is answered to either
module _ (s : Solving) (depth : ℕ) (q : Question) (es : List Entry) (a : ProveAnswer) where
  pub one-answered : q.further ≡ [] → IsAnsweredBySolver s depth q es a → IsQuestionAnswered s depth q es a
  one-answered e h = (λ _. h, λ more. absurd (more e))

  pub several-answered : (q.further ≡ [] → ⊥) → AreAnsweredBySolver s depth q es a → IsQuestionAnswered s depth q es a
  several-answered more h = (λ e. absurd (more e), λ _. h)
