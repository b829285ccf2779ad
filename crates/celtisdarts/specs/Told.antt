-- What the texts state as checked, in addition to the claims of traces.
use Rattle.std.specs.Prelude.{◌≡◌, ℕ, true}
use Rattle.explain_texts.specs.TypeTerms.declared.ImplId.{ImplId}
use Rattle.explain_texts.specs.TextLanguage.Promised.Declarations.{Question}
use Rattle.explain_texts.specs.ProofChecker.Steps.{term_of}
use Rattle.explain_texts.specs.Sessions.Checking.{HasJudged}
use Rattle.explain_texts.specs.Sessions.Promised.Promises.{view_in}
use Rattle.explain_texts.specs.Sessions.Shown.{AreProofOfBound}
use Rattle.explain_texts.specs.Sessions.Promised.Subjects.{Subject, AsksProof}
use Rattle.explain_texts.specs.ExplainSessions.Rules.{HasRulesByBoth}
use Rattle.explain_texts.specs.ExplainSessions.declared.walks.PairWalk.{PairWalk}
use Rattle.explain_texts.specs.ExplainSessions.declared.walks.ProofWalk.{ProofWalk}

-- Steps that are displayed as checked are a proof of the bound with number m, counted from 0, of the query with number n.
abbrev pub ShowsProofOf : Subject → ℕ → ℕ → ProofWalk → Type 0
ShowsProofOf s n m p =
    (q : Question) × AsksProof s.declarations s.of_crate n q × (p.is_checked ≡ true → AreProofOfBound s.declarations q m s.terms p.steps.items)

-- If the common instance of two impls is displayed as checked, both of them conclude it.
abbrev pub ShowsCommonOf : Subject → ImplId → ImplId → PairWalk → Type 0
ShowsCommonOf s i j p = p.is_checked ≡ true → HasRulesByBoth (view_in s.declarations s.of_crate) (term_of s.terms p.common) i.index j.index

-- Two impls overlap, as the verdict of the crate says it of a pair.
abbrev pub ShowsOverlap : Subject → ImplId → ImplId → Type 0
ShowsOverlap s i j = HasJudged s i.index j.index true
