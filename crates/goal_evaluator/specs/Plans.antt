-- A handler as a plan: a decision tree of candidates, whose responses select the next node.
use Rattle.std.specs.Prelude.{◌≡◌, ℕ, zero, suc, ◌+◌, ◌≤◌, Bool, false, List, [], ◌∷◌, length, Option, None, Some}
use Rattle.infer_table.specs.declared.certainty.Certainty.{Certainty}
use Rattle.goal_evaluator.specs.Lists.{IsNoneOf, IsDistinct}
use Rattle.goal_evaluator.specs.Table.{Tables, workings, IsFree}
use Rattle.goal_evaluator.specs.Candidate.{Spec, Considered, Next, consider, answer, used_numbers}
use Rattle.goal_evaluator.specs.Handler.{Handled, CandidateIsLawful, AnswerIsLawful}

module _ {Question Response : Type 0} (t : Tables Question Response) where
  -- A node evaluates a candidate, whose response and number select the next node. A leaf is a result with the numbers of the
  -- candidates to ignore.
  pub data Plan : Type 0 where
    considers : Spec (workings t) → (Option Response → ℕ → Plan) → Plan
    answers : Option Response → List ℕ → Plan

  -- a leaf stays a leaf
  abbrev pub told : Considered (workings t) → Plan → Plan
  told c (considers s go) = go c.response c.number
  told c (answers a ignored) = answers a ignored

  -- the rest of a plan after these evaluated candidates, the newest first
  abbrev pub after : Plan → List (Considered (workings t)) → Plan
  after p [] = p
  after p (c ∷ seen) = told c (after p seen)

  abbrev pub wanted : Plan → Next (workings t)
  wanted (considers s go) = consider s
  wanted (answers a ignored) = answer a ignored

  -- a goal with the plan of its candidates, and the rules of its proofs
  pub record Planned : Type 1 where
    pub goal : t.Values → t.Fact
    pub begin : t.Table
    pub plan : Plan
    pub Rule : t.Fact → List t.Fact → Type 0
    pub World : Type 0
    pub Proves : World → t.Fact → Type 0
    pub coinductive : Bool
    -- the greatest numbers of candidates and of nested goals, and the greatest width of terms
    pub candidates : ℕ
    pub number : ℕ
    pub widest : ℕ

  -- the handler that follows the plan
  abbrev pub planned : Planned → Handled t
  planned p = record {
    goal = p.goal;
    begin = p.begin;
    next = λ seen. wanted (after p.plan seen);
    Rule = p.Rule;
    World = p.World;
    Proves = p.Proves;
    coinductive = p.coinductive;
    candidates = p.candidates;
    number = p.number;
    widest = p.widest;
  }

  -- a candidate with its response and number
  abbrev pub came : Spec (workings t) → Option Response → ℕ → Considered (workings t)
  came s a n = record { spec = s; response = a; number = n }

  -- Each candidate is lawful, at most `room` follow, with at most `left` nested goals together, and each result is lawful after
  -- its path.
  abbrev pub KeepsLaws : Handled t → ℕ → ℕ → List (Considered (workings t)) → Plan → Type 0
  KeepsLaws h room left seen (answers a ignored) = IsDistinct (used_numbers (workings t) seen) → AnswerIsLawful t h seen a ignored
  KeepsLaws h zero left seen (considers s go) = ⊥
  KeepsLaws h (suc room) left seen (considers s go) =
      CandidateIsLawful t h s × ((rest : ℕ) × (length s.nested + rest ≤ left)
      × ((a : Option Response) (n : ℕ) → IsNoneOf n (used_numbers (workings t) seen) → KeepsLaws h room rest (came s a n ∷ seen) (go a n)))

  -- the laws of a plan
  pub record IsPlan (p : Planned) : Type 0 where
    pub begins : IsFree t p.begin
    pub says_nothing : (c : Certainty) → t.has_values (t.respond p.begin c) ≡ false
    pub begins_within : t.TableWithin p.widest p.begin
    pub keeps : KeepsLaws (planned p) p.candidates p.number [] p.plan

  -- ---- plans composed of others
  -- these candidates one after another, then the rest
  abbrev pub each_of : List (Spec (workings t)) → (List (Considered (workings t)) → Plan) → List (Considered (workings t)) → Plan
  each_of [] go seen = go seen
  each_of (s ∷ specs) go seen = considers s (λ a n. each_of specs go (came s a n ∷ seen))

  -- one candidate first, and the others only if it has no response
  abbrev pub if_refused : Plan → Plan → Option Response → Plan
  if_refused refused held None = refused
  if_refused refused held (Some r) = held

  abbrev pub first_alone : Spec (workings t) → (List (Considered (workings t)) → Plan) → (List (Considered (workings t)) → Plan) → List (Considered (workings t)) → Plan
  first_alone s refused held seen = considers s (λ a n. if_refused (refused (came s a n ∷ seen)) (held (came s a n ∷ seen)) a)

  -- the second list is the first after these candidates were evaluated
  abbrev pub GoesByConsidering : List (Spec (workings t)) → List (Considered (workings t)) → List (Considered (workings t)) → Type 0
  GoesByConsidering [] seen later = later ≡ seen
  GoesByConsidering (s ∷ specs) seen later = (a : Option Response) × (n : ℕ) × GoesByConsidering specs (came s a n ∷ seen) later

  -- the number of nested goals of all these candidates
  abbrev pub nested_in : List (Spec (workings t)) → ℕ
  nested_in [] = zero
  nested_in (s ∷ specs) = length s.nested + nested_in specs
