-- Plans whose candidates are the rule instances of a goal are exact handlers.
use Rattle.std.proofs.Common.{◌≡◌, ◌≤◌, ℕ, List, [], ◌∷◌, ◌++◌, length, refl, ◌∙◌, ap, subst, Option}
use Rattle.goal_evaluator.specs.Lists.{Every}
use Rattle.goal_evaluator.specs.Table.{Tables, workings}
use Rattle.goal_evaluator.specs.Candidate.{Spec, Considered, Next, consider, answer}
use Rattle.goal_evaluator.specs.Merge.{responses}
use Rattle.goal_evaluator.specs.Plans.{Plan, considers, answers, told, after, wanted, came, each_of, Planned, planned}
use Rattle.solver_completeness.specs.Closed.{Closing, AreWays, DeterminesNested, AsksSuch}
use Rattle.solver_completeness.specs.Ways.{IsSelection}
use Rattle.solver_completeness.specs.Exact.{WereConsidered, GoesTo, IsMadeOfResponses, IsExactHandler}

module _ {Question Response : Type 0} (t : Tables Question Response) where
  -- the plan considers those that are left, in order, and then an answer is made of the responses; some may be left out before one,
  -- but only where some candidate was not refused
  abbrev pub IsExactFrom : List (Spec (workings t)) → List (Considered (workings t)) → Plan t → Type 0
  IsExactFrom left seen (answers a ignored) = IsMadeOfResponses t left seen a
  IsExactFrom left seen (considers s go) =
      (skipped : List (Spec (workings t))) × (rest : List (Spec (workings t))) × (left ≡ skipped ++ s ∷ rest) × (responses t seen ≡ [] → skipped ≡ [])
      × ((a : Option Response) (n : ℕ) → IsExactFrom rest (came t s a n ∷ seen) (go a n))

  -- the laws of a plan for a question without unknowns
  pub record IsExactPlan (k : Closing t) (ways : t.Fact → List (List t.Fact)) (IsAsked : Question → t.Values → Type 0) (q : Question) (v : t.Values) (p : Planned t) : Type 1 where
    pub begins : k.shape p.begin ≡ k.shape_of q
    pub made : t.Made p.begin
    pub goal : p.goal v ≡ t.fact_of q v
    pub specs : List (Spec (workings t))
    pub few : length specs ≤ p.candidates
    pub exact : IsExactFrom specs [] p.plan
    pub determined : Every (DeterminesNested t p.begin) specs
    pub nested : Every (AsksSuch t k IsAsked p.begin v) specs
    pub found : List (List t.Fact)
    pub applies : AreWays t p.begin v specs found
    pub selects : IsSelection found (ways (p.goal v))

  consider-is : (c d : Spec (workings t)) → ◌≡◌ {A = Next (workings t)} (consider c) (consider d) → c ≡ d
  consider-is c d e = cc

  answer-is : (a b : Option Response) (ns ms : List ℕ) → ◌≡◌ {A = Next (workings t)} (answer a ns) (answer b ms) → a ≡ b
  answer-is a b ns ms e = cc

  came-is : (c : Considered (workings t)) (s : Spec (workings t)) → s ≡ c.spec → came t s c.response c.number ≡ c
  came-is c s e = ap (λ z. came t z c.response c.number) e

  -- ---- where a plan stands, and what is left then
  pub record At : Type 0 where
    pub plan : Plan t
    pub left : List (Spec (workings t))
    pub heard : List (Considered (workings t))
    pub exact : IsExactFrom left heard plan

  abbrev step-by : Considered (workings t) → (p : Plan t) (left : List (Spec (workings t))) (heard : List (Considered (workings t))) → IsExactFrom left heard p → At
  step-by c (considers s go) left heard e = record { plan = go c.response c.number; left = e.1; heard = came t s c.response c.number ∷ heard; exact = e.4 c.response c.number }
  step-by c (answers a ignored) left heard e = record { plan = answers a ignored; left = left; heard = heard; exact = e }

  abbrev step : Considered (workings t) → At → At
  step c x = step-by c x.plan x.left x.heard x.exact

  step-plan : (c : Considered (workings t)) (p : Plan t) (left : List (Spec (workings t))) (heard : List (Considered (workings t))) (e : IsExactFrom left heard p) → (step-by c p left heard e).plan ≡ told t c p
  step-plan c (considers s go) left heard e = refl
  step-plan c (answers a ignored) left heard e = refl

  step-heard : (c : Considered (workings t)) (p : Plan t) (left : List (Spec (workings t))) (heard : List (Considered (workings t))) (e : IsExactFrom left heard p) → wanted t p ≡ consider c.spec
      → (step-by c p left heard e).heard ≡ c ∷ heard
  step-heard c (considers s go) left heard e h = ap (λ z. z ∷ heard) (came-is c s (consider-is s c.spec h))
  step-heard c (answers a ignored) left heard e h = absurd (cc)

  goes-by : (p : Plan t) (left : List (Spec (workings t))) (heard : List (Considered (workings t))) (e : IsExactFrom left heard p) (seen : List (Considered (workings t))) → heard ≡ seen
      → (c : Spec (workings t)) → wanted t p ≡ consider c
      → (skipped : List (Spec (workings t))) × (rest : List (Spec (workings t))) × (left ≡ skipped ++ c ∷ rest) × (responses t seen ≡ [] → skipped ≡ [])
      × ((x : Option Response) (n : ℕ) → (step-by (came t c x n) p left heard e).left ≡ rest)
  goes-by (considers s go) left heard e seen q c h = (e.0, e.1, e.2 ∙ ap (λ z. e.0 ++ z ∷ e.1) (consider-is s c h), λ r. e.3 (ap (responses t) q ∙ r), λ x n. refl)
  goes-by (answers a ignored) left heard e seen q c h = absurd (cc)

  makes-by : (p : Plan t) (left : List (Spec (workings t))) (heard : List (Considered (workings t))) → IsExactFrom left heard p → (seen : List (Considered (workings t))) → heard ≡ seen
      → (a : Option Response) (ignored : List ℕ) → wanted t p ≡ answer a ignored → IsMadeOfResponses t left seen a
  makes-by (considers s go) left heard e seen q a ignored h = absurd (cc)
  makes-by (answers b ns) left heard e seen q a ignored h = subst (λ z. IsMadeOfResponses t left z a) q (subst (IsMadeOfResponses t left heard) (answer-is b a ns ignored h) e)

  module _ (p : Plan t) (specs : List (Spec (workings t))) (exact : IsExactFrom specs [] p) where
    abbrev pub at : List (Considered (workings t)) → At
    at [] = record { plan = p; left = specs; heard = []; exact = exact }
    at (c ∷ seen) = step c (at seen)

    abbrev pub left_at : List (Considered (workings t)) → List (Spec (workings t))
    left_at seen = (at seen).left

    plan-is : (seen : List (Considered (workings t))) → (at seen).plan ≡ after t p seen
    plan-is [] = refl
    plan-is (c ∷ seen) = step-plan c (at seen).plan (at seen).left (at seen).heard (at seen).exact ∙ ap (told t c) (plan-is seen)

    abbrev next : List (Considered (workings t)) → Next (workings t)
    next seen = wanted t (after t p seen)

    heard-is : (seen : List (Considered (workings t))) → WereConsidered t next seen → (at seen).heard ≡ seen
    heard-is [] w = refl
    heard-is (c ∷ seen) w =
        step-heard c (at seen).plan (at seen).left (at seen).heard (at seen).exact (ap (wanted t) (plan-is seen) ∙ w.0) ∙ ap (λ z. c ∷ z) (heard-is seen w.1)

    pub goes : (seen : List (Considered (workings t))) (c : Spec (workings t)) → WereConsidered t next seen → next seen ≡ consider c → GoesTo t left_at seen c
    goes seen c w e =
        let x = goes-by (at seen).plan (at seen).left (at seen).heard (at seen).exact seen (heard-is seen w) c (ap (wanted t) (plan-is seen) ∙ e) in
        record { skipped = x.0; rest = x.1; is = x.2; after = x.4; why = x.3 }

    pub makes : (seen : List (Considered (workings t))) (a : Option Response) (ignored : List ℕ) → WereConsidered t next seen → next seen ≡ answer a ignored → IsMadeOfResponses t (left_at seen) seen a
    makes seen a ignored w e = makes-by (at seen).plan (at seen).left (at seen).heard (at seen).exact seen (heard-is seen w) a ignored (ap (wanted t) (plan-is seen) ∙ e)

  abbrev pub planned-exact : (k : Closing t) (ways : t.Fact → List (List t.Fact)) (IsAsked : Question → t.Values → Type 0) (q : Question) (v : t.Values) (p : Planned t) → IsExactPlan k ways IsAsked q v p → IsExactHandler t k ways IsAsked q v (planned t p)
  planned-exact k ways IsAsked q v p is = record {
    begins = is.begins;
    made = is.made;
    goal = is.goal;
    specs = is.specs;
    few = is.few;
    left = left_at p.plan is.specs is.exact;
    all = refl;
    considers = λ seen c w e. goes p.plan is.specs is.exact seen c w e;
    makes = λ seen a ignored w e. makes p.plan is.specs is.exact seen a ignored w e;
    determined = is.determined;
    nested = is.nested;
    found = is.found;
    applies = is.applies;
    selects = is.selects;
  }

  -- ---- what holds of each leaf
  module _ (Ends : List (Considered (workings t)) → Option Response → Type 0) where
    abbrev pub EndsSo : List (Considered (workings t)) → Plan t → Type 0
    EndsSo seen (answers a ignored) = Ends seen a
    EndsSo seen (considers s go) = (a : Option Response) (n : ℕ) → EndsSo (came t s a n ∷ seen) (go a n)

    pub each-ends : (specs : List (Spec (workings t))) (go : List (Considered (workings t)) → Plan t) (seen : List (Considered (workings t)))
        → ((later : List (Considered (workings t))) → EndsSo later (go later)) → EndsSo seen (each_of t specs go seen)
    each-ends [] go seen h = h seen
    each-ends (s ∷ specs) go seen h = λ a n. each-ends specs go (came t s a n ∷ seen) h

    told-ends : (c : Considered (workings t)) (p : Plan t) (seen : List (Considered (workings t))) → EndsSo seen p → wanted t p ≡ consider c.spec → EndsSo (c ∷ seen) (told t c p)
    told-ends c (considers s go) seen e h = subst (λ z. EndsSo (z ∷ seen) (go c.response c.number)) (came-is c s (consider-is s c.spec h)) (e c.response c.number)
    told-ends c (answers a ignored) seen e h = absurd (cc)

    after-ends : (p : Plan t) → EndsSo [] p → (seen : List (Considered (workings t))) → WereConsidered t (λ before. wanted t (after t p before)) seen → EndsSo seen (after t p seen)
    after-ends p e [] w = e
    after-ends p e (c ∷ seen) w = told-ends c (after t p seen) seen (after-ends p e seen w.1) w.0

    at-leaf : (p : Plan t) (seen : List (Considered (workings t))) (a : Option Response) (ignored : List ℕ) → EndsSo seen p → wanted t p ≡ answer a ignored → Ends seen a
    at-leaf (answers b ns) seen a ignored e h = subst (Ends seen) (answer-is b a ns ignored h) e
    at-leaf (considers s go) seen a ignored e h = absurd (cc)

    pub ends-so : (p : Plan t) → EndsSo [] p → (seen : List (Considered (workings t))) (a : Option Response) (ignored : List ℕ)
        → WereConsidered t (λ before. wanted t (after t p before)) seen → wanted t (after t p seen) ≡ answer a ignored → Ends seen a
    ends-so p e seen a ignored w h = at-leaf (after t p seen) seen a ignored (after-ends p e seen w) h
