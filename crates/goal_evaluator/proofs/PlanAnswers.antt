-- Results that are merges are lawful.
use Rattle.std.proofs.Common.{◌≡◌, ℕ, ◌≤◌, ◌==◌, Bool, true, false, if◌then◌else◌, List, [], ◌∷◌, filter, inl, inr, refl, sym, ◌∙◌, subst, Option, Some, None, ◌+◌, arith, length}
use Rattle.infer_table.specs.declared.certainty.Certainty.{Certainty}
use Rattle.std.proofs.lemmas.Bool.{eq-eqb}
use Rattle.goal_evaluator.specs.Lists.{Every, SomeOf, IsAmong, IsNoneOf, IsDistinct}
use Rattle.goal_evaluator.specs.Table.{Tables, workings, IsTable}
use Rattle.goal_evaluator.specs.Candidate.{Spec, Considered, used_numbers}
use Rattle.goal_evaluator.specs.Law.{IsYes, AgreesTo, Realizes}
use Rattle.goal_evaluator.specs.Handler.{Handled, AnswerWithin, CandidateIsLawful}
use Rattle.goal_evaluator.specs.Merge.{if_there, or_else, responses, TellsResponsesApart, IsTest, merge_or_flounder, IsMergeOfResponses}
use Rattle.goal_evaluator.proofs.ListLaws.{Every-mono, SomeOf-mono, Every-at}
use Rattle.goal_evaluator.specs.Plans.{KeepsLaws, each_of, nested_in}
use Rattle.goal_evaluator.proofs.Plans.{keeps_more, keeps_each, goes_through}
use Rattle.goal_evaluator.specs.PlanAnswers.{all_merged, kept_merged, first_passing, numbers_but, taken_or_merged, first_taken, passes, if_so}
use Rattle.goal_evaluator.proofs.Merges.{merge_is}
use Rattle.type_terms.proofs.BooleanBasics.{true-false}
use Rattle.goal_evaluator.proofs.Basics.{every-append, some-append, some-parts}

-- ---- lists

some-kept : {A : Type 0} (P : A → Type 0) (kept : A → Bool) (xs : List A) → SomeOf P (filter kept xs) → SomeOf P xs
some-kept P kept [] s = absurd s
some-kept P kept (x ∷ xs) s = by (kept x) (λ r. some-kept P kept xs r) s
  where
    by : (b : Bool) → (SomeOf P (filter kept xs) → SomeOf P xs) → SomeOf P (if b then x ∷ filter kept xs else filter kept xs) → SomeOf P (x ∷ xs)
    by true go (inl p) = inl p
    by true go (inr r) = inr (go r)
    by false go r = inr (go r)

every-kept : {A : Type 0} (P : A → Type 0) (kept : A → Bool) (xs : List A) → Every P xs → Every P (filter kept xs)
every-kept P kept [] e = tt
every-kept P kept (x ∷ xs) e = by (kept x) (every-kept P kept xs e.1)
  where
    by : (b : Bool) → Every P (filter kept xs) → Every P (if b then x ∷ filter kept xs else filter kept xs)
    by true later = (e.0, later)
    by false later = later

module _ {Question Response : Type 0} (t : Tables Question Response) where
  -- ---- responses of what was considered
  agrees-there : (a : Option Response) (v : t.Values) → AgreesTo t a v → SomeOf (λ r. t.Agrees r v) (if_there a)
  agrees-there None v h = absurd h
  agrees-there (Some r) v h = inl h

  agrees-responses : (seen : List (Considered (workings t))) (v : t.Values) → SomeOf (λ (c : Considered (workings t)). AgreesTo t c.response v) seen → SomeOf (λ r. t.Agrees r v) (responses t seen)
  agrees-responses [] v s = s
  agrees-responses (c ∷ seen) v (inl a) = some-append (λ r. t.Agrees r v) (responses t seen) (if_there c.response) (inr (agrees-there c.response v a))
  agrees-responses (c ∷ seen) v (inr s) = some-append (λ r. t.Agrees r v) (responses t seen) (if_there c.response) (inl (agrees-responses seen v s))

  there-is : (a b : Option Response) → SomeOf (λ r. a ≡ Some r) (if_there b) → a ≡ b
  there-is a None s = absurd s
  there-is a (Some r) (inl e) = e
  there-is a (Some r) (inr s) = absurd s

  from-responses : (seen : List (Considered (workings t))) (a : Option Response) → SomeOf (λ r. a ≡ Some r) (responses t seen) → SomeOf (λ (c : Considered (workings t)). a ≡ c.response) seen
  from-responses [] a s = s
  from-responses (c ∷ seen) a s = elim (some-parts (λ r. a ≡ Some r) (responses t seen) (if_there c.response) s) [
    | inl x ↦ inr (from-responses seen a x)
    | inr y ↦ inl (there-is a c.response y)
  ]

  within-there : (n : ℕ) (a : Option Response) → AnswerWithin t n a → Every (λ r. t.number_in r ≤ n) (if_there a)
  within-there n None h = tt
  within-there n (Some r) h = (h, tt)

  within-responses : (n : ℕ) (seen : List (Considered (workings t))) → Every (λ (c : Considered (workings t)). AnswerWithin t n c.response) seen → Every (λ r. t.number_in r ≤ n) (responses t seen)
  within-responses n [] h = tt
  within-responses n (c ∷ seen) h = every-append (λ r. t.number_in r ≤ n) (responses t seen) (if_there c.response) (within-responses n seen h.1) (within-there n c.response h.0)

  -- ---- numbers
  abbrev Later : Considered (workings t) → List (Considered (workings t)) → List ℕ → Type 0
  Later c seen ns = Every (λ m. IsAmong m (used_numbers (workings t) (c ∷ seen))) ns

  numbers-among : (n : ℕ) (kept : Considered (workings t) → Bool) (seen : List (Considered (workings t))) → Every (λ m. IsAmong m (used_numbers (workings t) seen)) (numbers_but t n (filter kept seen))
  numbers-among n kept [] = tt
  numbers-among n kept (c ∷ seen) =
      by (kept c) (Every-mono (λ m. IsAmong m (used_numbers (workings t) seen)) (λ m. IsAmong m (used_numbers (workings t) (c ∷ seen))) (λ m i. inr i) (numbers_but t n (filter kept seen)) (numbers-among n kept seen))
    where
      here : (b : Bool) → Later c seen (numbers_but t n (filter kept seen)) → Later c seen (if b then numbers_but t n (filter kept seen) else c.number ∷ numbers_but t n (filter kept seen))
      here true later = later
      here false later = (inl refl, later)

      by : (b : Bool) → Later c seen (numbers_but t n (filter kept seen)) → Later c seen (numbers_but t n (if b then c ∷ filter kept seen else filter kept seen))
      by true later = here (c.number == n) later
      by false later = later

  -- a new number is not one of these
  new-to : (n : ℕ) (used ns : List ℕ) → IsNoneOf n used → Every (λ m. IsAmong m used) ns → IsNoneOf n ns
  new-to n used ns new e = λ i. Every-at (λ m. IsAmong m used) (λ m. n ≡ m) ⊥ (λ m a f. new (subst (λ k. IsAmong k used) (sym f) a)) ns e i

  numbers-once : (n : ℕ) (kept : Considered (workings t) → Bool) (seen : List (Considered (workings t))) → IsDistinct (used_numbers (workings t) seen) → IsDistinct (numbers_but t n (filter kept seen))
  numbers-once n kept [] d = tt
  numbers-once n kept (c ∷ seen) d =
      by (kept c) (numbers-once n kept seen d.1) (new-to c.number (used_numbers (workings t) seen) (numbers_but t n (filter kept seen)) d.0 (numbers-among n kept seen))
    where
      here : (b : Bool) → IsDistinct (numbers_but t n (filter kept seen)) → IsNoneOf c.number (numbers_but t n (filter kept seen))
          → IsDistinct (if b then numbers_but t n (filter kept seen) else c.number ∷ numbers_but t n (filter kept seen))
      here true later new = later
      here false later new = (new, later)

      by : (b : Bool) → IsDistinct (numbers_but t n (filter kept seen)) → IsNoneOf c.number (numbers_but t n (filter kept seen))
          → IsDistinct (numbers_but t n (if b then c ∷ filter kept seen else filter kept seen))
      by true later new = here (c.number == n) later new
      by false later new = later

  numbers-other : (n : ℕ) (seen : List (Considered (workings t))) → IsNoneOf n (numbers_but t n seen)
  numbers-other n [] = λ i. absurd i
  numbers-other n (c ∷ seen) = by (c.number == n) refl (numbers-other n seen)
    where
      differ : (b : Bool) → (c.number == n) ≡ b → b ≡ false → n ≡ c.number → ⊥
      differ true e f g = absurd (true-false f)
      differ false e f g = absurd (true-false (sym (eq-eqb c.number n (sym g)) ∙ e))

      by : (b : Bool) → (c.number == n) ≡ b → IsNoneOf n (numbers_but t n seen) → IsNoneOf n (if b then numbers_but t n seen else c.number ∷ numbers_but t n seen)
      by true e later = later
      by false e later = λ i. elim i [ inl g ↦ differ false e refl g | inr j ↦ later j ]

  module _ (laws : IsTable t) (applicable : Response → Bool) (is_test : IsTest t applicable) (same : Response → Response → Bool) (is_same : TellsResponsesApart same)
      (h : Handled t) (says_nothing : (c : Certainty) → t.has_values (t.respond h.begin c) ≡ false) (begins_within : t.TableWithin h.widest h.begin) where
    abbrev pub IsCovered : List (Considered (workings t)) → Type 0
    IsCovered seen = (w : h.World) (v : t.Values) → h.Proves w (h.goal v) → SomeOf (λ (c : Considered (workings t)). Realizes t (h.Proves w) h.begin v c.spec) seen

    merge_of : (seen : List (Considered (workings t))) → IsMergeOfResponses t h.begin (responses t seen) (merge_or_flounder t applicable same h.begin (responses t seen))
    merge_of seen = merge_is t laws applicable is_test same is_same h.begin says_nothing (responses t seen)

    -- all responses merged
    pub all_merged_keeps : (room left : ℕ) (seen : List (Considered (workings t))) → IsCovered seen → KeepsLaws t h room left seen (all_merged t applicable same h.begin seen)
    all_merged_keeps room left seen covered = λ d. record {
      cover = covered;
      yes = λ y.
          SomeOf-mono (λ (c : Considered (workings t)). merge_or_flounder t applicable same h.begin (responses t seen) ≡ c.response) (λ (c : Considered (workings t)). IsYes t c.response × IsNoneOf c.number [])
          (λ c e. (subst (IsYes t) e y, λ i. absurd i)) seen (from-responses seen (merge_or_flounder t applicable same h.begin (responses t seen)) ((merge_of seen).yes y));
      merged = λ w v s. (merge_of seen).covers v (agrees-responses seen v s);
      ignores = tt;
      once = tt;
      within = λ e. (merge_of seen).within h.widest begins_within (within-responses h.widest seen e);
    }

    -- a list of rules is a plan: one lawful candidate after the other, and then all responses merged
    pub list_keeps : (specs : List (Spec (workings t))) → Every (CandidateIsLawful t h) specs → ((w : h.World) (v : t.Values) → h.Proves w (h.goal v) → SomeOf (Realizes t (h.Proves w) h.begin v) specs)
        → length specs ≤ h.candidates → nested_in t specs ≤ h.number → KeepsLaws t h h.candidates h.number [] (each_of t specs (all_merged t applicable same h.begin) [])
    list_keeps specs each cover few asks =
        keeps_more t h (length specs + 0) h.candidates (nested_in t specs + 0) h.number [] (each_of t specs (all_merged t applicable same h.begin) []) (omega (arith, few)) (omega (arith, asks))
        (keeps_each t h 0 0 specs (all_merged t applicable same h.begin) [] each
        (λ later g. all_merged_keeps 0 0 later (λ w v p. goes_through t (Realizes t (h.Proves w) h.begin v) specs [] later g (cover w v p))))

    module _ (no_world : h.World → ⊥) (kept : Considered (workings t) → Bool) where
      -- those that are kept merged, where no solutions are looked for
      pub kept_merged_keeps : (room left : ℕ) (seen : List (Considered (workings t))) → KeepsLaws t h room left seen (kept_merged t applicable same h.begin kept seen)
      kept_merged_keeps room left seen = λ d. record {
        cover = λ w v p. absurd (no_world w);
        yes = λ y.
            SomeOf-mono (λ (c : Considered (workings t)). merge_or_flounder t applicable same h.begin (responses t (filter kept seen)) ≡ c.response) (λ (c : Considered (workings t)). IsYes t c.response × IsNoneOf c.number [])
            (λ c e. (subst (IsYes t) e y, λ i. absurd i)) seen
            (some-kept (λ (c : Considered (workings t)). merge_or_flounder t applicable same h.begin (responses t (filter kept seen)) ≡ c.response) kept seen
            (from-responses (filter kept seen) (merge_or_flounder t applicable same h.begin (responses t (filter kept seen))) ((merge_of (filter kept seen)).yes y)));
        merged = λ w. absurd (no_world w);
        ignores = tt;
        once = tt;
        within = λ e. (merge_of (filter kept seen)).within h.widest begins_within (within-responses h.widest (filter kept seen) (every-kept (λ (c : Considered (workings t)). AnswerWithin t h.widest c.response) kept seen e));
      }

      -- the first that passes is one that was considered, with a definite yes
      abbrev IsPassing : List (Considered (workings t)) → Option (Considered (workings t)) → Type 0
      IsPassing xs None = Unit {0}
      IsPassing xs (Some c) = IsAmong c xs × IsYes t c.response

      yes-passing : (o : Option Response) → passes t applicable same h.begin o ≡ true → IsYes t o
      yes-passing None e = absurd (cc)
      yes-passing (Some r) e = is_test r e

      passing : (xs : List (Considered (workings t))) → IsPassing xs (first_passing t applicable same h.begin xs)
      passing [] = tt
      passing (c ∷ xs) = by (first_passing t applicable same h.begin xs) (passing xs)
        where
          here : (b : Bool) → passes t applicable same h.begin c.response ≡ b → IsPassing (c ∷ xs) (if_so b c)
          here true e = (inl refl, yes-passing c.response e)
          here false e = tt

          by : (o : Option (Considered (workings t))) → IsPassing xs o → IsPassing (c ∷ xs) (or_else o (if_so (passes t applicable same h.begin c.response) c))
          by None p = here (passes t applicable same h.begin c.response) refl
          by (Some d) p = (inr p.0, p.1)

      taken : (room left : ℕ) (seen : List (Considered (workings t))) (o : Option (Considered (workings t))) → IsPassing (filter kept seen) o
          → KeepsLaws t h room left seen (taken_or_merged t applicable same h.begin (filter kept seen) o)
      taken room left seen None p = kept_merged_keeps room left seen
      taken room left seen (Some c) p = λ d. record {
        cover = λ w v q. absurd (no_world w);
        yes = λ y.
            SomeOf-mono (λ x. c ≡ x) (λ (x : Considered (workings t)). IsYes t x.response × IsNoneOf x.number (numbers_but t c.number (filter kept seen)))
            (λ x e. subst (λ (z : Considered (workings t)). IsYes t z.response × IsNoneOf z.number (numbers_but t c.number (filter kept seen))) e (p.1, numbers-other c.number (filter kept seen)))
            seen (some-kept (λ x. c ≡ x) kept seen p.0);
        merged = λ w. absurd (no_world w);
        ignores = numbers-among c.number kept seen;
        once = numbers-once c.number kept seen d;
        within = λ e.
            Every-at (λ (x : Considered (workings t)). AnswerWithin t h.widest x.response) (λ x. c ≡ x) (AnswerWithin t h.widest c.response)
            (λ x a f. subst (λ (z : Considered (workings t)). AnswerWithin t h.widest z.response) (sym f) a) seen e (some-kept (λ x. c ≡ x) kept seen p.0);
      }

      -- the first that passes is taken, and the others are ignored
      pub first_taken_keeps : (room left : ℕ) (seen : List (Considered (workings t))) → KeepsLaws t h room left seen (first_taken t applicable same h.begin kept seen)
      first_taken_keeps room left seen = taken room left seen (first_passing t applicable same h.begin (filter kept seen)) (passing (filter kept seen))
