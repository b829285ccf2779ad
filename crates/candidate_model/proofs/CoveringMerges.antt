-- The merge of some of the candidates is lawful, also where solutions are looked for, if what agrees with the others agrees with these.
use Rattle.std.proofs.Common.{◌≡◌, ℕ, Bool, true, false, if◌then◌else◌, List, [], ◌∷◌, filter, inl, inr, refl, sym, subst, Option, Some, None}
use Rattle.infer_table.specs.declared.certainty.Certainty.{Certainty}
use Rattle.goal_evaluator.specs.Lists.{Every, SomeOf, IsAmong, IsNoneOf, IsDistinct}
use Rattle.goal_evaluator.specs.Table.{Tables, workings, IsTable}
use Rattle.goal_evaluator.specs.Candidate.{Considered, used_numbers}
use Rattle.goal_evaluator.specs.Law.{IsYes, AgreesTo, Realizes}
use Rattle.goal_evaluator.specs.Handler.{Handled, AnswerWithin, AnswerIsLawful}
use Rattle.goal_evaluator.specs.Merge.{TellsResponsesApart, IsTest, responses, merge_or_flounder}
use Rattle.goal_evaluator.specs.PlanAnswers.{kept_merged}
use Rattle.goal_evaluator.specs.Plans.{KeepsLaws}
use Rattle.goal_evaluator.proofs.ListLaws.{SomeOf-mono}
use Rattle.goal_evaluator.proofs.PlanAnswers.{all_merged_keeps, IsCovered}

-- ---- lists
some-kept : {A : Type 0} (P : A → Type 0) (kept : A → Bool) (xs : List A) → SomeOf P (filter kept xs) → SomeOf P xs
some-kept P kept [] s = absurd s
some-kept P kept (x ∷ xs) s = by (kept x) (λ r. some-kept P kept xs r) s
  where
    by : (b : Bool) → (SomeOf P (filter kept xs) → SomeOf P xs) → SomeOf P (if b then x ∷ filter kept xs else filter kept xs) → SomeOf P (x ∷ xs)
    by true go (inl p) = inl p
    by true go (inr r) = inr (go r)
    by false go r = inr (go r)

every-kept : {A : Type 0} (P : A → Type 0) (kept : A → Bool) (xs : List A) → Every P xs → Every P (filter kept xs)
every-kept P kept [] e = tt
every-kept P kept (x ∷ xs) e = by (kept x) (every-kept P kept xs e.1)
  where
    by : (b : Bool) → Every P (filter kept xs) → Every P (if b then x ∷ filter kept xs else filter kept xs)
    by true later = (e.0, later)
    by false later = later

module _ {Question Response : Type 0} (t : Tables Question Response) (kept : Considered (workings t) → Bool) where
  among-kept : (n : ℕ) (seen : List (Considered (workings t))) → IsAmong n (used_numbers (workings t) (filter kept seen)) → IsAmong n (used_numbers (workings t) seen)
  among-kept n [] i = i
  among-kept n (c ∷ seen) i = by (kept c) i (among-kept n seen)
    where
      by : (b : Bool) → IsAmong n (used_numbers (workings t) (if b then c ∷ filter kept seen else filter kept seen))
          → (IsAmong n (used_numbers (workings t) (filter kept seen)) → IsAmong n (used_numbers (workings t) seen)) → IsAmong n (used_numbers (workings t) (c ∷ seen))
      by true (inl e) go = inl e
      by true (inr j) go = inr (go j)
      by false j go = inr (go j)

  distinct-kept : (seen : List (Considered (workings t))) → IsDistinct (used_numbers (workings t) seen) → IsDistinct (used_numbers (workings t) (filter kept seen))
  distinct-kept [] d = d
  distinct-kept (c ∷ seen) d = by (kept c) (distinct-kept seen d.1)
    where
      by : (b : Bool) → IsDistinct (used_numbers (workings t) (filter kept seen)) → IsDistinct (used_numbers (workings t) (if b then c ∷ filter kept seen else filter kept seen))
      by true later = (λ i. d.0 (among-kept c.number seen i), later)
      by false later = later

module _ {Question Response : Type 0} (t : Tables Question Response) (laws : IsTable t) (applicable : Response → Bool) (is_test : IsTest t applicable) (same : Response → Response → Bool) (is_same : TellsResponsesApart same)
    (h : Handled t) (says_nothing : (c : Certainty) → t.has_values (t.respond h.begin c) ≡ false) (begins_within : t.TableWithin h.widest h.begin) (kept : Considered (workings t) → Bool) where
  -- Values that agree with a response also agree with one that is kept.
  abbrev pub LeavesCovered : List (Considered (workings t)) → Type 0
  LeavesCovered seen =
      (v : t.Values) → SomeOf (λ (c : Considered (workings t)). AgreesTo t c.response v) seen → SomeOf (λ (c : Considered (workings t)). AgreesTo t c.response v) (filter kept seen)

  -- The response has no values.
  abbrev pub IsSilent : Considered (workings t) → Type 0
  IsSilent c = (r : Response) × (c.response ≡ Some r) × (t.has_values r ≡ false)

  -- So it is if one that is kept has no values: all values agree with it.
  pub silent_leaves_covered : (seen : List (Considered (workings t))) → SomeOf IsSilent (filter kept seen) → LeavesCovered seen
  silent_leaves_covered seen s = λ v a.
      SomeOf-mono IsSilent (λ (c : Considered (workings t)). AgreesTo t c.response v) (λ c x. subst (λ o. AgreesTo t o v) (sym x.1) (laws.agrees x.0 x.2 v)) (filter kept seen) s

  -- the same goal, with nothing to be found in one place
  abbrev nowhere : Handled t
  nowhere = record {
    goal = h.goal;
    begin = h.begin;
    next = h.next;
    Rule = h.Rule;
    World = Unit {0};
    Proves = λ w f. ⊥;
    coinductive = h.coinductive;
    candidates = h.candidates;
    number = h.number;
    widest = h.widest;
  }

  merge_of_kept : (seen : List (Considered (workings t))) → IsDistinct (used_numbers (workings t) (filter kept seen)) → AnswerIsLawful t nowhere (filter kept seen) (merge_or_flounder t applicable same h.begin (responses t (filter kept seen))) []
  merge_of_kept seen d = all_merged_keeps t laws applicable is_test same is_same nowhere says_nothing begins_within 0 0 (filter kept seen) (λ w v p. absurd p) d

  pub covering_merged_keeps : (room left : ℕ) (seen : List (Considered (workings t))) → IsCovered t laws applicable is_test same is_same h says_nothing begins_within seen → (h.World → LeavesCovered seen)
      → KeepsLaws t h room left seen (kept_merged t applicable same h.begin kept seen)
  covering_merged_keeps room left seen covered leaves = λ d.
      let m = merge_of_kept seen (distinct-kept t kept seen d) in
      record {
        cover = covered;
        yes = λ y. some-kept (λ (c : Considered (workings t)). IsYes t c.response × IsNoneOf c.number []) kept seen (m.yes y);
        merged = λ w v s. m.merged tt v (leaves w v s);
        ignores = tt;
        once = tt;
        within = λ e. m.within (every-kept (λ (c : Considered (workings t)). AnswerWithin t h.widest c.response) kept seen e);
      }
