-- The responses of candidates, collected in order.
use Rattle.std.proofs.Common.{◌≡◌, ℕ, ◌+◌, ◌<◌, List, [], ◌∷◌, map, length, drop, get_or, refl, sym, ◌∙◌, ap, subst, Option, Some, None}
use Rattle.type_terms.specs.Promised.Handles.{Entry}
use Rattle.type_terms.specs.Promised.Handles.{ArgsHeld}
use Rattle.infer_table.specs.Content.{AllConstraintsHeld}
use Rattle.infer_table.specs.declared.response.CanonicalResponse.{CanonicalResponse}
use Rattle.infer_table.specs.Responses.{AnswerTrees, ResponseHeld, answer_trees}
use Rattle.infer_table.proofs.Values.{cut-at}
use Rattle.goal_evaluator.specs.declared.candidate.Considered.{Considered}
use Rattle.goal_evaluator.specs.Candidate.{Next, answer}
use Rattle.goal_evaluator.specs.Lists.{Every}
use Rattle.goal_evaluator.specs.Readings.{ResultHeld, ConsideredHeld}
use Rattle.goal_evaluator.specs.Responses.{Content, content}
use Rattle.goal_evaluator.specs.Table.{workings}
use Rattle.goal_evaluator.specs.TableAnswers.{IsWellFormed}
use Rattle.goal_evaluator.specs.Tables.{frame_tables}
use Rattle.goal_frames.specs.Fitting.{ResultFits, ConsideredFits}
use Rattle.goal_frames.specs.Merges.{with_response, responses_of}
use Rattle.goal_frames.proofs.Responses.{content_trees}

module _ (done : List Considered) (i : ℕ) (x : Considered) (lt : i < length done) (is : x ≡ get_or done i x) where
  cut : drop i done ≡ x ∷ drop (i + 1) done
  cut = cut-at done i x lt ∙ ap (λ z. z ∷ drop (i + 1) done) (sym is)

-- ---- what holds of the responses that were collected
abbrev ContentHeld : List Entry → Content → Type 0
ContentHeld es c = ArgsHeld es c.values × AllConstraintsHeld es c.constraints

held-responses : (es : List Entry) (done : List Considered) → ConsideredHeld es done → Every (λ r. ContentHeld es (content r)) (responses_of done)
held-responses es [] h = tt
held-responses es (x ∷ done) h = by x.result h.0 (held-responses es done h.1)
  where
    by : (o : Option CanonicalResponse) → ResultHeld es o → Every (λ r. ContentHeld es (content r)) (responses_of done) → Every (λ r. ContentHeld es (content r)) (with_response o (responses_of done))
    by None p q = q
    by (Some r) p q = ((p.values, p.constraints), q)

fitting-responses : (es : List Entry) (done : List Considered) → ConsideredFits es done → Every (λ r. IsWellFormed (answer_trees es r)) (responses_of done)
fitting-responses es [] h = tt
fitting-responses es (x ∷ done) h = by x.result h.0 (fitting-responses es done h.1)
  where
    by : (o : Option CanonicalResponse) → ResultFits es o → Every (λ r. IsWellFormed (answer_trees es r)) (responses_of done) → Every (λ r. IsWellFormed (answer_trees es r)) (with_response o (responses_of done))
    by None p q = q
    by (Some r) p q = (p, q)

each-content : (Q : Content → Type 0) (ys : List CanonicalResponse) → Every (λ r. Q (content r)) ys → Every Q (map content ys)
each-content Q [] h = tt
each-content Q (y ∷ ys) h = (h.0, each-content Q ys h.1)

content-each : (Q : Content → Type 0) (xs : List CanonicalResponse) → Every Q (map content xs) → Every (λ r. Q (content r)) xs
content-each Q [] h = tt
content-each Q (x ∷ xs) h = (h.0, content-each Q xs h.1)

same-each : (Q : Content → Type 0) (xs ys : List CanonicalResponse) → map content xs ≡ map content ys → Every (λ r. Q (content r)) ys → Every (λ r. Q (content r)) xs
same-each Q xs ys e h = content-each Q xs (subst (λ z. Every Q z) (sym e) (each-content Q ys h))

as-held : (es : List Entry) (xs : List CanonicalResponse) → Every (λ r. ContentHeld es (content r)) xs → Every (ResponseHeld es) xs
as-held es [] h = tt
as-held es (x ∷ xs) h = (record { values = h.0.0; constraints = h.0.1 }, as-held es xs h.1)

pub collected-held : (es : List Entry) (done : List Considered) (xs : List CanonicalResponse) → map content xs ≡ map content (responses_of done) → ConsideredHeld es done → Every (ResponseHeld es) xs
collected-held es done xs e h = as-held es xs (same-each (ContentHeld es) xs (responses_of done) e (held-responses es done h))

pub collected-fit : (es : List Entry) (done : List Considered) (xs : List CanonicalResponse) → map content xs ≡ map content (responses_of done) → ConsideredFits es done → Every (λ r. IsWellFormed (answer_trees es r)) xs
collected-fit es done xs e h = same-each (λ c. IsWellFormed (content_trees es c)) xs (responses_of done) e (fitting-responses es done h)

trees-of-contents : (es : List Entry) (xs : List CanonicalResponse) → map (answer_trees es) xs ≡ map (content_trees es) (map content xs)
trees-of-contents es [] = refl
trees-of-contents es (x ∷ xs) = ap (λ z. answer_trees es x ∷ z) (trees-of-contents es xs)

pub collected-trees : (es : List Entry) (xs ys : List CanonicalResponse) → map content xs ≡ map content ys → map (answer_trees es) xs ≡ map (answer_trees es) ys
collected-trees es xs ys e = trees-of-contents es xs ∙ ap (map (content_trees es)) e ∙ sym (trees-of-contents es ys)

-- ---- the end
pub one-end : (r : AnswerTrees) (a : Option AnswerTrees) (ns : List ℕ) → Some r ≡ a → ns ≡ [] → ◌≡◌ {A = Next (workings frame_tables)} (answer (Some r) ns) (answer a [])
one-end r a ns e f = ap (answer (Some r)) f ∙ ap (λ (z : Option AnswerTrees). answer z []) e
