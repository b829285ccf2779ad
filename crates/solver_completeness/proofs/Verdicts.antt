-- The responses of all candidates of a goal without inference variables.
use Rattle.std.proofs.Common.{◌≡◌, ◌⊎◌, inl, inr, ℕ, suc, Bool, true, false, ◌&&◌, not, List, [], ◌∷◌, refl, ◌∙◌, ap, Option, Some, None}
use Rattle.infer_table.specs.declared.certainty.Certainty.{Certainty}
use Rattle.infer_table.specs.declared.certainty.Certainty.TheVariants.{Yes}
use Rattle.infer_table.specs.Certainties.{is_certain}
use Rattle.goal_evaluator.specs.Lists.{Every, SomeOf, Pairwise}
use Rattle.goal_evaluator.specs.Operations.{is_yes}
use Rattle.goal_evaluator.specs.Table.{Tables, operations, workings, IsTable}
use Rattle.goal_evaluator.specs.Candidate.{Spec, candidate}
use Rattle.solver_completeness.specs.Plays.{Ends}
use Rattle.solver_completeness.specs.Closed.{Closing, IsClosing, IsBare, AreWays, no_more, refused, applied, DeterminesNested, AsksSuch}
use Rattle.solver_completeness.specs.Ways.{AtMostOneHolds, IsRightFor}
use Rattle.solver_completeness.proofs.Rounds.{Says, SaysSome, SaysYes, SaysMaybe}
use Rattle.solver_completeness.proofs.Candidates.{Told, refused_is, applied_is}
use Rattle.solver_completeness.proofs.Merging.{present}

module _ {Question Response : Type 0} (t : Tables Question Response) (laws : IsTable t) (k : Closing t) (closing : IsClosing t k) (IsAsked : Question → t.Values → Type 0) (P : Question → Option Response → Type 0) (Sure : Certainty → Type 0) where
  abbrev SaysSo : t.Fact → Option Response → Type 0
  SaysSo f a = Says t laws k closing IsAsked P f a

  -- the results of candidates, and the ways of those that apply
  pub data Tells : List (List t.Fact) → List (Option Response) → Type 0 where
    end : Tells [] []
    skip : {ways : List (List t.Fact)} {xs : List (Option Response)} → Tells ways xs → Tells ways (None ∷ xs)
    way : {premises : List t.Fact} {ways : List (List t.Fact)} {x : Option Response} {xs : List (Option Response)} (c : Certainty) → Sure c → Told t laws k closing IsAsked P premises c x
        → Tells ways xs → Tells (premises ∷ ways) (x ∷ xs)

  skip_if : {ways : List (List t.Fact)} {xs : List (Option Response)} (x : Option Response) → x ≡ None → Tells ways xs → Tells ways (x ∷ xs)
  skip_if None e s = skip s
  skip_if (Some r) e s = absurd (cc)

  module _ (bare : (q : Question) (v : t.Values) (a : Option Response) → IsAsked q v → k.IsClosed (k.shape_of q) → k.IsApart (k.shape_of q) v → P q a → IsBare t a) (limited : ℕ) (begin : t.Table) (made : t.Made begin) (v : t.Values)
      (c : k.IsClosed (k.shape begin)) (d : k.IsApart (k.shape begin) v) where
    abbrev pub CandidateEnds : Spec (workings t) → Option Response → Type 0
    CandidateEnds s x = Ends P (candidate (workings t) (suc limited) begin s) x

    pub tells : (cs : List (Spec (workings t))) (ways : List (List t.Fact)) → AreWays t begin v cs ways → Every (DeterminesNested t begin) cs
        → Every (AsksSuch t k IsAsked begin v) cs → Every (λ (s : Spec (workings t)). Sure s.certainty) cs
        → (xs : List (Option Response)) → Pairwise CandidateEnds cs xs → Tells ways xs
    tells [] [] no_more a b s [] p = end
    tells [] [] no_more a b s (x ∷ xs) p = absurd p
    tells [] (premises ∷ ways) u a b s xs p = elim u [ ]
    tells (y ∷ cs) ways (refused none_meets u) a b s [] p = absurd p
    tells (y ∷ cs) ways (refused none_meets u) a b s (x ∷ xs) p =
        skip_if x (refused_is t laws k closing IsAsked P bare (suc limited) begin made v c d y none_meets x p.0) (tells cs ways u a.1 b.1 s.1 xs p.1)
    tells (y ∷ cs) (premises ∷ ways) (applied i u) a b s [] p = absurd p
    tells (y ∷ cs) (premises ∷ ways) (applied i u) a b s (x ∷ xs) p =
        way y.certainty s.0 (applied_is t laws k closing IsAsked P bare (suc limited) begin made v c d y a.0 b.0 limited refl premises i x p.0) (tells cs ways u a.1 b.1 s.1 xs p.1)

  -- no response holds values
  pub tells_bare : (ways : List (List t.Fact)) (xs : List (Option Response)) → Tells ways xs → Every (λ r. t.has_values r ≡ false) (present xs)
  tells_bare [] [] end = tt
  tells_bare (premises ∷ ways) [] s = elim s [ ]
  tells_bare [] (Some r ∷ xs) s = elim s [ ]
  tells_bare ways (None ∷ xs) (skip s) = tells_bare ways xs s
  tells_bare (premises ∷ ways) (None ∷ xs) (way c u a s) = tells_bare ways xs s
  tells_bare (premises ∷ ways) (Some r ∷ xs) (way c u a s) = (a.bare, tells_bare ways xs s)

  -- where all are refused, each way has a premise that is refused
  pub tells_none : (ways : List (List t.Fact)) (xs : List (Option Response)) → Tells ways xs → present xs ≡ [] → Every (λ premises. SomeOf (λ f. SaysSo f None) premises) ways
  tells_none [] [] end e = tt
  tells_none (premises ∷ ways) [] s e = elim s [ ]
  tells_none [] (Some r ∷ xs) s e = elim s [ ]
  tells_none ways (None ∷ xs) (skip s) e = tells_none ways xs s e
  tells_none (premises ∷ ways) (None ∷ xs) (way c u a s) e = (a, tells_none ways xs s e)
  tells_none (premises ∷ ways) (Some r ∷ xs) (way c u a s) e = absurd (cc)

  -- where one is not, some way has no premise that is refused
  pub tells_some : (ways : List (List t.Fact)) (xs : List (Option Response)) → Tells ways xs → (r : Response) (rs : List Response) → present xs ≡ r ∷ rs
      → SomeOf (λ premises. Every (SaysSome t laws k closing IsAsked P) premises) ways
  tells_some [] [] end r rs e = absurd (cc)
  tells_some (premises ∷ ways) [] s r rs e = elim s [ ]
  tells_some [] (Some x ∷ xs) s r rs e = elim s [ ]
  tells_some ways (None ∷ xs) (skip s) r rs e = tells_some ways xs s r rs e
  tells_some (premises ∷ ways) (None ∷ xs) (way c u a s) r rs e = inr (tells_some ways xs s r rs e)
  tells_some (premises ∷ ways) (Some x ∷ xs) (way c u a s) r rs e = inl a.each

  -- ---- where each answer is a definite yes or a refusal
  module _ (sure : (c : Certainty) → Sure c → c ≡ Yes) (Holds : t.Fact → Type 0) (Known : t.Fact → Type 0) (right : (f : t.Fact) (a : Option Response) → Known f → SaysSo f a → IsRightFor t Holds f a) where
    not-refused : (f : t.Fact) → Known f → SaysSo f None → Holds f → ⊥
    not-refused f i s = by (right f None i s)
      where
        by : IsRightFor t Holds f None → Holds f → ⊥
        by (inl x) h = x.1
        by (inr x) h = x.0 h

    has-refused : (premises : List t.Fact) → Every Known premises → SomeOf (λ f. SaysSo f None) premises → Every Holds premises → ⊥
    has-refused [] i s h = s
    has-refused (f ∷ fs) i (inl s) h = not-refused f i.0 s h.0
    has-refused (f ∷ fs) i (inr s) h = has-refused fs i.1 s h.1

    is-held : (f : t.Fact) → Known f → (r : Response) → SaysSo f (Some r) → Holds f × (is_yes (operations t) r ≡ true)
    is-held f i r s = by (right f (Some r) i s)
      where
        by : IsRightFor t Holds f (Some r) → Holds f × (is_yes (operations t) r ≡ true)
        by (inl x) = x
        by (inr x) = absurd (let e = x.1 in cc)

    all-held : (premises : List t.Fact) → Every Known premises → Every (SaysSome t laws k closing IsAsked P) premises → Every Holds premises
    all-held [] i s = tt
    all-held (f ∷ fs) i s = ((is-held f i.0 s.0.0 s.0.1).0, all-held fs i.1 s.1)

    true-false : (b : Bool) → b ≡ true → b ≡ false → ⊥
    true-false b e f = cc

    no-maybe : (premises : List t.Fact) → Every Known premises → SomeOf (SaysMaybe t laws k closing IsAsked P) premises → ⊥
    no-maybe [] i s = s
    no-maybe (f ∷ fs) i (inl s) = true-false _ (is-held f i.0 s.0 s.1).1 s.2
    no-maybe (f ∷ fs) i (inr s) = no-maybe fs i.1 s

    sure-yes : (r : Response) → t.has_values r ≡ false → t.certainty r ≡ Yes → is_yes (operations t) r ≡ true
    sure-yes r b e = ap (λ c. is_certain c && not (t.has_values r)) e ∙ ap (λ b. not b) b

    -- one response, a definite yes, where some way holds, and none where none does
    abbrev pub Settled : List (List t.Fact) → List Response → Type 0
    Settled ways rs =
        ((rs ≡ []) × (SomeOf (λ premises. Every Holds premises) ways → ⊥)) ⊎ ((r : Response) × (rs ≡ r ∷ []) × (is_yes (operations t) r ≡ true) × SomeOf (λ premises. Every Holds premises) ways)

    add-none : (premises : List t.Fact) (ways : List (List t.Fact)) (rs : List Response) → (Every Holds premises → ⊥) → Settled ways rs → Settled (premises ∷ ways) rs
    add-none premises ways rs n (inl x) = inl (x.0, by)
      where
        by : SomeOf (λ premises. Every Holds premises) (premises ∷ ways) → ⊥
        by (inl h) = n h
        by (inr h) = x.1 h
    add-none premises ways rs n (inr x) = inr (x.0, x.1, x.2, inr x.3)

    add-yes : (premises : List t.Fact) (ways : List (List t.Fact)) (r : Response) (rs : List Response) → (Every Holds premises → SomeOf (λ premises. Every Holds premises) ways → ⊥) → Every Holds premises
        → is_yes (operations t) r ≡ true → Settled ways rs → Settled (premises ∷ ways) (r ∷ rs)
    add-yes premises ways r rs one h y (inl x) = inr (r, ap (λ z. r ∷ z) x.0, y, inl h)
    add-yes premises ways r rs one h y (inr x) = absurd (one h x.3)

    pub tells_settled : (ways : List (List t.Fact)) (xs : List (Option Response)) → Tells ways xs → AtMostOneHolds (λ premises. Every Holds premises) ways → Every (λ premises. Every Known premises) ways → Settled ways (present xs)
    tells_settled [] [] end one i = inl (refl, λ s. s)
    tells_settled (premises ∷ ways) [] s one i = elim s [ ]
    tells_settled [] (Some r ∷ xs) s one i = elim s [ ]
    tells_settled ways (None ∷ xs) (skip s) one i = tells_settled ways xs s one i
    tells_settled (premises ∷ ways) (None ∷ xs) (way c u a s) one i = add-none premises ways (present xs) (has-refused premises i.0 a) (tells_settled ways xs s one.1 i.1)
    tells_settled (premises ∷ ways) (Some r ∷ xs) (way c u a s) one i = by a.how (tells_settled ways xs s one.1 i.1)
      where
        by : (Every (SaysYes t laws k closing IsAsked P) premises × (t.certainty r ≡ c)) ⊎ SomeOf (SaysMaybe t laws k closing IsAsked P) premises → Settled ways (present xs) → Settled (premises ∷ ways) (r ∷ present xs)
        by (inl x) rest = add-yes premises ways r (present xs) one.0 (all-held premises i.0 a.each) (sure-yes r a.bare (x.1 ∙ sure c u)) rest
        by (inr x) rest = absurd (no-maybe premises i.0 x)
