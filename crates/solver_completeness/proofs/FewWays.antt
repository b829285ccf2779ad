-- Candidates in two groups, for a goal without inference variables: if of each group at most one rule instance holds, at most one
-- candidate of each has a response.
use Rattle.std.proofs.Common.{◌≡◌, ◌≤◌, ◌⊎◌, inl, inr, ℕ, zero, suc, arith, Bool, true, false, ◌&&◌, not, if◌then◌else◌, List, [], ◌∷◌, ◌++◌, length, filter, refl, sym, ◌∙◌, ap, subst, Option, Some, None}
use Rattle.infer_table.specs.declared.certainty.Certainty.{Certainty}
use Rattle.infer_table.specs.declared.certainty.Certainty.TheVariants.{Yes}
use Rattle.infer_table.specs.Certainties.{is_certain}
use Rattle.goal_evaluator.specs.Lists.{Every, SomeOf, Pairwise}
use Rattle.goal_evaluator.proofs.ListLaws.{Every-mono}
use Rattle.goal_evaluator.specs.Operations.{is_yes}
use Rattle.goal_evaluator.specs.Table.{Tables, operations, workings, IsTable}
use Rattle.goal_evaluator.specs.Candidate.{Spec, Considered, answer, candidate}
use Rattle.goal_evaluator.specs.Merge.{if_there, responses}
use Rattle.goal_evaluator.specs.Handler.{Handled}
use Rattle.solver_completeness.specs.Plays.{Ends}
use Rattle.solver_completeness.specs.Closed.{Closing, IsClosing, IsBare, Applies, EquationsRefuse, AreWays, no_more, refused, applied, DeterminesNested, AsksSuch}
use Rattle.solver_completeness.specs.Exact.{WereConsidered}
use Rattle.solver_completeness.specs.Ways.{AtMostOneHolds}
use Rattle.solver_completeness.proofs.Considering.{IsThinned, stop, take, skip}
use Rattle.solver_completeness.proofs.Rounds.{SaysSome, SaysYes, SaysMaybe}
use Rattle.solver_completeness.proofs.Candidates.{Told, refused_is, applied_is}
use Rattle.solver_completeness.proofs.Merging.{present, present_in}

-- ---- a list of which some are left out
pub data IsPart {A : Type 0} : List A → List A → Type 0 where
  none_left : {ys : List A} → IsPart [] ys
  kept_one : {x : A} {xs ys : List A} → IsPart xs ys → IsPart (x ∷ xs) (x ∷ ys)
  left_out : {y : A} {xs ys : List A} → IsPart xs ys → IsPart xs (y ∷ ys)

pub part-every : {A : Type 0} (P : A → Type 0) (xs ys : List A) → IsPart xs ys → Every P ys → Every P xs
part-every P [] ys none_left h = tt
part-every P (x ∷ xs) (y ∷ ys) (kept_one p) h = (h.0, part-every P xs ys p h.1)
part-every P xs (y ∷ ys) (left_out p) h = part-every P xs ys p h.1

pub part-some : {A : Type 0} (P : A → Type 0) (xs ys : List A) → IsPart xs ys → SomeOf P xs → SomeOf P ys
part-some P [] ys none_left s = absurd s
part-some P (x ∷ xs) (y ∷ ys) (kept_one p) (inl s) = inl s
part-some P (x ∷ xs) (y ∷ ys) (kept_one p) (inr s) = inr (part-some P xs ys p s)
part-some P xs (y ∷ ys) (left_out p) s = inr (part-some P xs ys p s)

pub part-one : {A : Type 0} (P : A → Type 0) (xs ys : List A) → IsPart xs ys → AtMostOneHolds P ys → AtMostOneHolds P xs
part-one P [] ys none_left h = tt
part-one P (x ∷ xs) (y ∷ ys) (kept_one p) h = (λ q s. h.0 q (part-some P xs ys p s), part-one P xs ys p h.1)
part-one P xs (y ∷ ys) (left_out p) h = part-one P xs ys p h.1

-- ---- candidates in two groups
module _ {Question Response : Type 0} (t : Tables Question Response) (begin : t.Table) (v : t.Values) (g : Spec (workings t) → Bool) where
  -- those of the first group that apply are the first rule instances, and those of the second group the second ones, in order
  pub data AreSorted : List (Spec (workings t)) → List (List t.Fact) → List (List t.Fact) → Type 0 where
    all_sorted : AreSorted [] [] []
    refuses : {c : Spec (workings t)} {cs : List (Spec (workings t))} {us ws : List (List t.Fact)} → EquationsRefuse t begin v c → AreSorted cs us ws → AreSorted (c ∷ cs) us ws
    in_first : {c : Spec (workings t)} {cs : List (Spec (workings t))} {premises : List t.Fact} {us ws : List (List t.Fact)}
        → g c ≡ true → Applies t begin v c premises → AreSorted cs us ws → AreSorted (c ∷ cs) (premises ∷ us) ws
    in_second : {c : Spec (workings t)} {cs : List (Spec (workings t))} {premises : List t.Fact} {us ws : List (List t.Fact)}
        → g c ≡ false → Applies t begin v c premises → AreSorted cs us ws → AreSorted (c ∷ cs) us (premises ∷ ws)

  -- a list of the first group, before one of the second
  pub second-sorted : (cs : List (Spec (workings t))) (ws : List (List t.Fact)) → AreWays t begin v cs ws → Every (λ c. g c ≡ false) cs → AreSorted cs [] ws
  second-sorted [] [] no_more h = all_sorted
  second-sorted [] (premises ∷ ws) u h = elim u [ ]
  second-sorted (c ∷ cs) ws (refused r u) h = refuses r (second-sorted cs ws u h.1)
  second-sorted (c ∷ cs) (premises ∷ ws) (applied i u) h = in_second h.0 i (second-sorted cs ws u h.1)

  pub both-sorted : (cs ds : List (Spec (workings t))) (us ws : List (List t.Fact)) → AreWays t begin v cs us → Every (λ c. g c ≡ true) cs → AreSorted ds [] ws → AreSorted (cs ++ ds) us ws
  both-sorted [] ds [] ws no_more h s = s
  both-sorted [] ds (premises ∷ us) ws u h s = elim u [ ]
  both-sorted (c ∷ cs) ds us ws (refused r u) h s = refuses r (both-sorted cs ds us ws u h.1 s)
  both-sorted (c ∷ cs) ds (premises ∷ us) ws (applied i u) h s = in_first h.0 i (both-sorted cs ds us ws u h.1 s)

  -- those that were considered
  pub record SortedParts (taken : List (Spec (workings t))) (us ws : List (List t.Fact)) : Type 0 where
    pub first : List (List t.Fact)
    pub second : List (List t.Fact)
    pub are : AreSorted taken first second
    pub of_first : IsPart first us
    pub of_second : IsPart second ws

  pub sorted-parts : (left cs taken : List (Spec (workings t))) (us ws : List (List t.Fact)) → IsThinned left cs taken → AreSorted cs us ws → SortedParts taken us ws
  sorted-parts left cs [] us ws stop s = record { first = []; second = []; are = all_sorted; of_first = none_left; of_second = none_left }
  sorted-parts left (c ∷ cs) (d ∷ taken) us ws (take h) (refuses r s) =
      let x = sorted-parts left cs taken us ws h s in
      record { first = x.first; second = x.second; are = refuses r x.are; of_first = x.of_first; of_second = x.of_second }
  sorted-parts left (c ∷ cs) (d ∷ taken) (premises ∷ us) ws (take h) (in_first e i s) =
      let x = sorted-parts left cs taken us ws h s in
      record { first = premises ∷ x.first; second = x.second; are = in_first e i x.are; of_first = kept_one x.of_first; of_second = x.of_second }
  sorted-parts left (c ∷ cs) (d ∷ taken) us (premises ∷ ws) (take h) (in_second e i s) =
      let x = sorted-parts left cs taken us ws h s in
      record { first = x.first; second = premises ∷ x.second; are = in_second e i x.are; of_first = x.of_first; of_second = kept_one x.of_second }
  sorted-parts left (c ∷ cs) taken us ws (skip h) (refuses r s) = sorted-parts left cs taken us ws h s
  sorted-parts left (c ∷ cs) taken (premises ∷ us) ws (skip h) (in_first e i s) =
      let x = sorted-parts left cs taken us ws h s in
      record { first = x.first; second = x.second; are = x.are; of_first = left_out x.of_first; of_second = x.of_second }
  sorted-parts left (c ∷ cs) taken us (premises ∷ ws) (skip h) (in_second e i s) =
      let x = sorted-parts left cs taken us ws h s in
      record { first = x.first; second = x.second; are = x.are; of_first = x.of_first; of_second = left_out x.of_second }

-- ---- their results
module _ {Question Response : Type 0} (t : Tables Question Response) (Holds : t.Fact → Type 0) where
  -- a response is a definite yes, and its premises hold
  abbrev pub IsGood : List t.Fact → Option Response → Type 0
  IsGood premises None = Unit {0}
  IsGood premises (Some r) = Every Holds premises × (is_yes (operations t) r ≡ true)

  pub data Judged (g : Spec (workings t) → Bool) : List (Spec (workings t)) → List (List t.Fact) → List (List t.Fact) → List (Option Response) → Type 0 where
    all_judged : Judged g [] [] [] []
    silent : {c : Spec (workings t)} {cs : List (Spec (workings t))} {us ws : List (List t.Fact)} {xs : List (Option Response)} → Judged g cs us ws xs → Judged g (c ∷ cs) us ws (None ∷ xs)
    good_first : {c : Spec (workings t)} {cs : List (Spec (workings t))} {premises : List t.Fact} {us ws : List (List t.Fact)} {x : Option Response} {xs : List (Option Response)}
        → g c ≡ true → IsGood premises x → Judged g cs us ws xs → Judged g (c ∷ cs) (premises ∷ us) ws (x ∷ xs)
    good_second : {c : Spec (workings t)} {cs : List (Spec (workings t))} {premises : List t.Fact} {us ws : List (List t.Fact)} {x : Option Response} {xs : List (Option Response)}
        → g c ≡ false → IsGood premises x → Judged g cs us ws xs → Judged g (c ∷ cs) us (premises ∷ ws) (x ∷ xs)

  pub silent-if : (g : Spec (workings t) → Bool) (c : Spec (workings t)) (cs : List (Spec (workings t))) (us ws : List (List t.Fact)) (x : Option Response) (xs : List (Option Response))
      → x ≡ None → Judged g cs us ws xs → Judged g (c ∷ cs) us ws (x ∷ xs)
  silent-if g c cs us ws None xs e s = silent s
  silent-if g c cs us ws (Some r) xs e s = absurd (cc)

  -- the groups exchanged
  exchanged : (g : Spec (workings t) → Bool) (cs : List (Spec (workings t))) (us ws : List (List t.Fact)) (xs : List (Option Response)) → Judged g cs us ws xs → Judged (λ c. not (g c)) cs ws us xs
  exchanged g [] [] [] [] all_judged = all_judged
  exchanged g [] [] [] (x ∷ xs) s = elim s [ ]
  exchanged g [] [] (premises ∷ ws) xs s = elim s [ ]
  exchanged g [] (premises ∷ us) ws xs s = elim s [ ]
  exchanged g (c ∷ cs) us ws [] s = elim s [ ]
  exchanged g (c ∷ cs) us ws (None ∷ xs) (silent s) = silent (exchanged g cs us ws xs s)
  exchanged g (c ∷ cs) (premises ∷ us) ws (x ∷ xs) (good_first e i s) = good_second (ap not e) i (exchanged g cs us ws xs s)
  exchanged g (c ∷ cs) us (premises ∷ ws) (x ∷ xs) (good_second e i s) = good_first (ap not e) i (exchanged g cs us ws xs s)

  -- each response is a definite yes
  yes-before : (premises : List t.Fact) (x : Option Response) (rs : List Response) → IsGood premises x → Every (λ r. is_yes (operations t) r ≡ true) rs → Every (λ r. is_yes (operations t) r ≡ true) (if_there x ++ rs)
  yes-before premises None rs i h = h
  yes-before premises (Some r) rs i h = (i.1, h)

  pub all-yes : (g : Spec (workings t) → Bool) (cs : List (Spec (workings t))) (us ws : List (List t.Fact)) (xs : List (Option Response)) → Judged g cs us ws xs → Every (λ r. is_yes (operations t) r ≡ true) (present xs)
  all-yes g [] [] [] [] all_judged = tt
  all-yes g [] [] [] (x ∷ xs) s = elim s [ ]
  all-yes g [] [] (premises ∷ ws) xs s = elim s [ ]
  all-yes g [] (premises ∷ us) ws xs s = elim s [ ]
  all-yes g (c ∷ cs) us ws [] s = elim s [ ]
  all-yes g (c ∷ cs) us ws (None ∷ xs) (silent s) = all-yes g cs us ws xs s
  all-yes g (c ∷ cs) (premises ∷ us) ws (x ∷ xs) (good_first e i s) = yes-before premises x (present xs) i (all-yes g cs us ws xs s)
  all-yes g (c ∷ cs) us (premises ∷ ws) (x ∷ xs) (good_second e i s) = yes-before premises x (present xs) i (all-yes g cs us ws xs s)

  -- ---- those of the first group
  taken-in : (b : Bool) (x : Option Response) (rs : List Response) → b ≡ true → (if b then if_there x else []) ++ rs ≡ if_there x ++ rs
  taken-in true x rs e = refl
  taken-in false x rs e = absurd (cc)

  passed-over : (b : Bool) (x : Option Response) (rs : List Response) → b ≡ false → (if b then if_there x else []) ++ rs ≡ rs
  passed-over false x rs e = refl
  passed-over true x rs e = absurd (cc)

  abbrev nothing : Option Response
  nothing = None

  silent-in : (b : Bool) (rs : List Response) → (if b then if_there nothing else []) ++ rs ≡ rs
  silent-in true rs = refl
  silent-in false rs = refl

  module _ (g : Spec (workings t) → Bool) where
    abbrev Answers : List (Spec (workings t)) → List (Option Response) → List Response
    Answers cs xs = present_in g cs xs

    some-first : (cs : List (Spec (workings t))) (us ws : List (List t.Fact)) (xs : List (Option Response)) → Judged g cs us ws xs → 1 ≤ length (Answers cs xs) → SomeOf (Every Holds) us
    some-first [] [] [] [] all_judged l = absurd (omega (arith, l))
    some-first [] [] [] (x ∷ xs) s l = elim s [ ]
    some-first [] [] (premises ∷ ws) xs s l = elim s [ ]
    some-first [] (premises ∷ us) ws xs s l = elim s [ ]
    some-first (c ∷ cs) us ws [] s l = elim s [ ]
    some-first (c ∷ cs) us ws (None ∷ xs) (silent s) l = some-first cs us ws xs s (subst (λ rs. 1 ≤ length rs) (silent-in (g c) (Answers cs xs)) l)
    some-first (c ∷ cs) (premises ∷ us) ws (None ∷ xs) (good_first e i s) l = inr (some-first cs us ws xs s (subst (λ rs. 1 ≤ length rs) (silent-in (g c) (Answers cs xs)) l))
    some-first (c ∷ cs) (premises ∷ us) ws (Some r ∷ xs) (good_first e i s) l = inl i.0
    some-first (c ∷ cs) us (premises ∷ ws) (x ∷ xs) (good_second e i s) l = some-first cs us ws xs s (subst (λ rs. 1 ≤ length rs) (passed-over (g c) x (Answers cs xs) e) l)

    one-more : (rs : List Response) (r : Response) → (1 ≤ length rs → ⊥) → length (r ∷ rs) ≤ 1
    one-more [] r h = omega arith
    one-more (x ∷ rs) r h = absurd (h (omega arith))

    one-first : (cs : List (Spec (workings t))) (us ws : List (List t.Fact)) (xs : List (Option Response)) → Judged g cs us ws xs → AtMostOneHolds (Every Holds) us → length (Answers cs xs) ≤ 1
    one-first [] [] [] [] all_judged h = omega arith
    one-first [] [] [] (x ∷ xs) s h = elim s [ ]
    one-first [] [] (premises ∷ ws) xs s h = elim s [ ]
    one-first [] (premises ∷ us) ws xs s h = elim s [ ]
    one-first (c ∷ cs) us ws [] s h = elim s [ ]
    one-first (c ∷ cs) us ws (None ∷ xs) (silent s) h = subst (λ rs. length rs ≤ 1) (sym (silent-in (g c) (Answers cs xs))) (one-first cs us ws xs s h)
    one-first (c ∷ cs) (premises ∷ us) ws (None ∷ xs) (good_first e i s) h = subst (λ rs. length rs ≤ 1) (sym (silent-in (g c) (Answers cs xs))) (one-first cs us ws xs s h.1)
    one-first (c ∷ cs) (premises ∷ us) ws (Some r ∷ xs) (good_first e i s) h =
        subst (λ rs. length rs ≤ 1) (sym (taken-in (g c) (Some r) (Answers cs xs) e)) (one-more (Answers cs xs) r (λ l. h.0 i.0 (some-first cs us ws xs s l)))
    one-first (c ∷ cs) us (premises ∷ ws) (x ∷ xs) (good_second e i s) h = subst (λ rs. length rs ≤ 1) (sym (passed-over (g c) x (Answers cs xs) e)) (one-first cs us ws xs s h)

  pub first-alone : (g : Spec (workings t) → Bool) (cs : List (Spec (workings t))) (us ws : List (List t.Fact)) (xs : List (Option Response)) → Judged g cs us ws xs
      → AtMostOneHolds (Every Holds) us → length (present_in g cs xs) ≤ 1
  first-alone g cs us ws xs s h = one-first g cs us ws xs s h

  pub second-alone : (g : Spec (workings t) → Bool) (cs : List (Spec (workings t))) (us ws : List (List t.Fact)) (xs : List (Option Response)) → Judged g cs us ws xs
      → AtMostOneHolds (Every Holds) ws → length (present_in (λ c. not (g c)) cs xs) ≤ 1
  second-alone g cs us ws xs s h = one-first (λ c. not (g c)) cs ws us xs (exchanged g cs us ws xs s) h

-- ---- what candidates say is good
module _ {Question Response : Type 0} (t : Tables Question Response) (laws : IsTable t) (k : Closing t) (closing : IsClosing t k) (IsAsked : Question → t.Values → Type 0) (P : Question → Option Response → Type 0)
    (Holds : t.Fact → Type 0) (Known : t.Fact → Type 0) (held : (f : t.Fact) → SaysSome t laws k closing IsAsked P f → Holds f) (known : (f : t.Fact) → Known f → SaysMaybe t laws k closing IsAsked P f → ⊥) where
  never-maybe : (premises : List t.Fact) → Every Known premises → SomeOf (SaysMaybe t laws k closing IsAsked P) premises → ⊥
  never-maybe [] i s = s
  never-maybe (f ∷ fs) i (inl s) = known f i.0 s
  never-maybe (f ∷ fs) i (inr s) = never-maybe fs i.1 s

  sure-yes : (r : Response) → t.has_values r ≡ false → t.certainty r ≡ Yes → is_yes (operations t) r ≡ true
  sure-yes r b e = ap (λ c. is_certain c && not (t.has_values r)) e ∙ ap (λ b. not b) b

  is-good : (premises : List t.Fact) (c : Certainty) (x : Option Response) → c ≡ Yes → Every Known premises → Told t laws k closing IsAsked P premises c x → IsGood t Holds premises x
  is-good premises c None e i s = tt
  is-good premises c (Some r) e i s = (Every-mono (SaysSome t laws k closing IsAsked P) Holds held premises s.each, by s.how)
    where
      by : (Every (SaysYes t laws k closing IsAsked P) premises × (t.certainty r ≡ c)) ⊎ SomeOf (SaysMaybe t laws k closing IsAsked P) premises → is_yes (operations t) r ≡ true
      by (inl y) = sure-yes r s.bare (y.1 ∙ e)
      by (inr y) = absurd (never-maybe premises i y)

  module _ (bare : (q : Question) (v : t.Values) (a : Option Response) → IsAsked q v → k.IsClosed (k.shape_of q) → k.IsApart (k.shape_of q) v → P q a → IsBare t a) (limited : ℕ) (begin : t.Table) (made : t.Made begin) (v : t.Values)
      (c : k.IsClosed (k.shape begin)) (d : k.IsApart (k.shape begin) v) (g : Spec (workings t) → Bool) where
    pub judged : (cs : List (Spec (workings t))) (us ws : List (List t.Fact)) → AreSorted t begin v g cs us ws → Every (DeterminesNested t begin) cs
        → Every (AsksSuch t k IsAsked begin v) cs → Every (λ (s : Spec (workings t)). s.certainty ≡ Yes) cs → Every (Every Known) us → Every (Every Known) ws
        → (xs : List (Option Response)) → Pairwise (λ s x. Ends P (candidate (workings t) (suc limited) begin s) x) cs xs → Judged t Holds g cs us ws xs
    judged [] [] [] all_sorted a b s i j [] p = all_judged
    judged [] [] (premises ∷ ws) u a b s i j [] p = elim u [ ]
    judged [] (premises ∷ us) ws u a b s i j [] p = elim u [ ]
    judged [] us ws u a b s i j (x ∷ xs) p = absurd p
    judged (y ∷ cs) us ws u a b s i j [] p = absurd p
    judged (y ∷ cs) us ws (refuses none_meets u) a b s i j (x ∷ xs) p =
        silent-if t Holds g y cs us ws x xs (refused_is t laws k closing IsAsked P bare (suc limited) begin made v c d y none_meets x p.0) (judged cs us ws u a.1 b.1 s.1 i j xs p.1)
    judged (y ∷ cs) (premises ∷ us) ws (in_first e h u) a b s i j (x ∷ xs) p =
        good_first e (is-good premises y.certainty x s.0 i.0 (applied_is t laws k closing IsAsked P bare (suc limited) begin made v c d y a.0 b.0 limited refl premises h x p.0)) (judged cs us ws u a.1 b.1 s.1 i.1 j xs p.1)
    judged (y ∷ cs) us (premises ∷ ws) (in_second e h u) a b s i j (x ∷ xs) p =
        good_second e (is-good premises y.certainty x s.0 j.0 (applied_is t laws k closing IsAsked P bare (suc limited) begin made v c d y a.0 b.0 limited refl premises h x p.0)) (judged cs us ws u a.1 b.1 s.1 i j.1 xs p.1)

-- ---- the merge
module _ {Question Response : Type 0} (t : Tables Question Response) (g : Spec (workings t) → Bool) where
  -- if each response is a definite yes, and at most one is of each group, so is the result
  abbrev pub MergesEach : List (Considered (workings t)) → Option Response → Type 0
  MergesEach seen a =
      Every (λ r. is_yes (operations t) r ≡ true) (responses t seen) → length (responses t (filter (λ c. g c.spec) seen)) ≤ 1 → length (responses t (filter (λ c. not (g c.spec)) seen)) ≤ 1
      → (r : Response) → a ≡ Some r → is_yes (operations t) r ≡ true

  -- The candidates of the handler are in two groups, whose rule instances are these but for order and repeats, and it merges so.
  pub record IsSorted (ways own others : t.Fact → List (List t.Fact)) (f : t.Fact) (v : t.Values) (h : Handled t) (specs : List (Spec (workings t))) : Type 1 where
    pub first : List (List t.Fact)
    pub second : List (List t.Fact)
    pub are : AreSorted t h.begin v g specs first second
    pub one_first : (Q : t.Fact → Type 0) → AtMostOneHolds (Every Q) (own f) → AtMostOneHolds (Every Q) first
    pub one_second : (Q : t.Fact → Type 0) → AtMostOneHolds (Every Q) (others f) → AtMostOneHolds (Every Q) second
    pub every_first : (Q : t.Fact → Type 0) → Every (Every Q) (ways f) → Every (Every Q) first
    pub every_second : (Q : t.Fact → Type 0) → Every (Every Q) (ways f) → Every (Every Q) second
    pub merges : (seen : List (Considered (workings t))) (a : Option Response) (ignored : List ℕ) → WereConsidered t h.next seen → h.next seen ≡ answer a ignored → MergesEach seen a

-- in chains of fewer than n steps, each trait reference has at most one rule instance of each group whose premises all hold
abbrev pub HasFewWaysWithin : {Fact : Type 0} → (ways own others : Fact → List (List Fact)) → (Fact → Type 0) → ℕ → Fact → Type 0
HasFewWaysWithin ways own others Holds zero f = ⊥
HasFewWaysWithin ways own others Holds (suc n) f =
    AtMostOneHolds (Every Holds) (own f) × AtMostOneHolds (Every Holds) (others f) × Every (Every (HasFewWaysWithin ways own others Holds n)) (ways f)
