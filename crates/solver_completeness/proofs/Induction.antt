-- Plain recursion over goals without inference variables, by induction on the length of chains.
use Rattle.std.proofs.Common.{◌≡◌, ◌⊎◌, inl, inr, ℕ, ◌<◌, ◌≤◌, arith, zero, suc, ◌++◌, Bool, true, false, not, List, [], ◌∷◌, length, refl, sym, ◌∙◌, ap, subst, Option, Some, None}
use Rattle.infer_table.specs.declared.certainty.Certainty.{Certainty}
use Rattle.infer_table.specs.declared.certainty.Certainty.TheVariants.{Yes}
use Rattle.search_graph.specs.declared.delegate.Reply.{Reply}
use Rattle.goal_evaluator.specs.Lists.{Every, SomeOf, Pairwise}
use Rattle.goal_evaluator.proofs.ListLaws.{Every-mono, SomeOf-mono, Every-at}
use Rattle.goal_evaluator.specs.Operations.{is_yes}
use Rattle.goal_evaluator.specs.Table.{Tables, operations, workings, IsTable}
use Rattle.goal_evaluator.specs.Law.{IsYes}
use Rattle.goal_evaluator.specs.Candidate.{Spec}
use Rattle.goal_evaluator.specs.Handler.{Handled}
use Rattle.goal_evaluator.specs.Promises.{frame_of_goal}
use Rattle.search_graph.specs.Meaning.{Meaning, AreReplies, IsInOrder}
use Rattle.search_graph.specs.Plain.{IsPlain}
use Rattle.goal_frames.specs.Programs.{Programs}
use Rattle.goal_frames.specs.Searches.{Handles, GoalInMode, goal_in, kind_of, meaning}
use Rattle.solver_completeness.specs.Plays.{CanEnd}
use Rattle.solver_completeness.specs.Closed.{Closing, IsClosing, IsBare, Applies, DeterminesNested, AsksSuch, AreWays, no_more, refused, applied}
use Rattle.solver_completeness.specs.Ways.{AtMostOneHolds, IsSelection, HasShortChains, IsPossible, HasOneWayWithin, HoldsByWays, IsExactFor, IsRightFor}
use Rattle.solver_completeness.specs.Exact.{IsMadeOfResponses, IsExactHandler, AnswersExactly, AreSure, Plain, PlainIsExact, PlainIsRight, PlainAnswers}
use Rattle.solver_completeness.proofs.Merging.{present}
use Rattle.solver_completeness.proofs.Considering.{IsThinned, stop, take, skip, ConsideredSome, CandidateEnds, considers_some, can_consider}
use Rattle.solver_completeness.proofs.Rounds.{Says, SaysSome, SaysMaybe}
use Rattle.solver_completeness.proofs.MovedWays.{possible_holds}
use Rattle.solver_completeness.proofs.FewWays.{part-every, part-one, sorted-parts, all-yes, first-alone, second-alone, judged, IsSorted, HasFewWaysWithin}
use Rattle.solver_completeness.proofs.Verdicts.{Tells, tells, tells_bare, tells_none, tells_some, tells_settled}
use Rattle.solver_completeness.proofs.Plainly.{plays, completes}
use Rattle.solver_completeness.proofs.Answering.{can_all}
use Rattle.type_terms.proofs.ListBasics.{append-empty as append-nil}
use Rattle.goal_evaluator.proofs.Basics.{every-unit}

less-next : (a b : ℕ) → a ≤ b → a < suc b
less-next a b h = omega (arith, h)

module _ {Question Response : Type 0} (t : Tables Question Response) (laws : IsTable t) (k : Closing t) (closing : IsClosing t k) (p : Programs t) (w : p.World) (mode : p.Mode) (e : AnswersExactly t k p w mode)
    {C I R F : Type 0} (handles : Handles C I R F p.World (GoalInMode t p) (Option Response)) where
  abbrev m : Meaning C I R F
  m = meaning t p handles

  abbrev By : ℕ → Question → Option Response → Type 0
  By n q a = Plain t k p w mode e handles n q a

  abbrev handled_of : Question → Handled t
  handled_of q = p.handled w mode (p.goal_of q)

  abbrev Any : Certainty → Type 0
  Any c = Unit {0}

  -- ---- the ways of the candidates that were considered
  pub record Parts (begin : t.Table) (v : t.Values) (taken : List (Spec (workings t))) (ways : List (List t.Fact)) : Type 1 where
    pub first : List (List t.Fact)
    pub are : AreWays t begin v taken first
    pub every : (Q : List t.Fact → Type 0) → Every Q ways → Every Q first
    pub back : (Q : List t.Fact → Type 0) → SomeOf Q first → SomeOf Q ways
    pub one : (Q : List t.Fact → Type 0) → AtMostOneHolds Q ways → AtMostOneHolds Q first

  left-out : (begin : t.Table) (v : t.Values) (taken : List (Spec (workings t))) (premises : List t.Fact) (ways : List (List t.Fact)) → Parts begin v taken ways → Parts begin v taken (premises ∷ ways)
  left-out begin v taken premises ways x = record { first = x.first; are = x.are; every = λ Q h. x.every Q h.1; back = λ Q s. inr (x.back Q s); one = λ Q h. x.one Q h.1 }

  put-before : (begin : t.Table) (v : t.Values) (c : Spec (workings t)) (taken : List (Spec (workings t))) (premises : List t.Fact) (ways : List (List t.Fact)) → Applies t begin v c premises → Parts begin v taken ways
      → Parts begin v (c ∷ taken) (premises ∷ ways)
  put-before begin v c taken premises ways i x = record {
    first = premises ∷ x.first;
    are = applied i x.are;
    every = λ Q h. (h.0, x.every Q h.1);
    back = λ Q s. by Q s;
    one = λ Q h. (λ p s. h.0 p (x.back Q s), x.one Q h.1);
  }
    where
      by : (Q : List t.Fact → Type 0) → SomeOf Q (premises ∷ x.first) → SomeOf Q (premises ∷ ways)
      by Q (inl p) = inl p
      by Q (inr s) = inr (x.back Q s)

  parts : (begin : t.Table) (v : t.Values) (left cs taken : List (Spec (workings t))) (ways : List (List t.Fact)) → IsThinned left cs taken → AreWays t begin v cs ways → Parts begin v taken ways
  parts begin v left cs [] ways stop u = record { first = []; are = no_more; every = λ Q h. tt; back = λ Q s. absurd s; one = λ Q h. tt }
  parts begin v left (c ∷ cs) (d ∷ taken) ways (take h) (refused r u) =
      let x = parts begin v left cs taken ways h u in
      record { first = x.first; are = refused r x.are; every = x.every; back = x.back; one = x.one }
  parts begin v left (c ∷ cs) (d ∷ taken) (premises ∷ ways) (take h) (applied i u) = put-before begin v c taken premises ways i (parts begin v left cs taken ways h u)
  parts begin v left (c ∷ cs) taken ways (skip h) (refused r u) = parts begin v left cs taken ways h u
  parts begin v left (c ∷ cs) taken (premises ∷ ways) (skip h) (applied i u) = left-out begin v taken premises ways (parts begin v left cs taken ways h u)

  -- what holds of each candidate holds of each that was considered
  thin-every : (Q : Spec (workings t) → Type 0) (left cs taken : List (Spec (workings t))) → IsThinned left cs taken → Every Q cs → Every Q taken
  thin-every Q left cs [] stop h = tt
  thin-every Q left (c ∷ cs) (d ∷ taken) (take x) h = (h.0, thin-every Q left cs taken x h.1)
  thin-every Q left (c ∷ cs) taken (skip x) h = thin-every Q left cs taken x h.1

  module _ (q : Question) (v : t.Values) (asked : e.IsAsked q v) (closed : k.IsClosed (k.shape_of q)) (apart : k.IsApart (k.shape_of q) v) where
    abbrev is : IsExactHandler t k e.ways e.IsAsked q v (handled_of q)
    is = e.exact q v asked closed apart

    begin_closed : k.IsClosed (k.shape (handled_of q).begin)
    begin_closed = subst k.IsClosed (sym is.begins) closed

    begin_apart : k.IsApart (k.shape (handled_of q).begin) v
    begin_apart = subst (λ z. k.IsApart z v) (sym is.begins) apart

    selection : IsSelection is.found (e.ways (t.fact_of q v))
    selection = subst (λ f. IsSelection is.found (e.ways f)) is.goal is.selects

    -- what plain recursion hears of the candidates
    abbrev Heard : ℕ → Option Response → Type 0
    Heard n a = ConsideredSome t (By n) 8 (handled_of q).begin (handled_of q).next is.left is.considers [] is.specs a

    heard : (n : ℕ) (a : Option Response) → By (suc n) q a → Heard n a
    heard n a x =
        let f = plays m Question (goal_in t p mode) (kind_of t) w (mode, p.goal_of q) (frame_of_goal t (handled_of q)) (λ h. refl) (IsPlain m w n) x.0 a x.1 in
        considers_some t (By n) 8 (handled_of q).begin (handled_of q).next is.left is.considers (suc (handled_of q).candidates) is.specs [] (less-next (length is.specs) (handled_of q).candidates is.few) tt is.all a f

    module _ (n : ℕ) (a : Option Response) (h : Heard n a) where
      ways_of : Parts (handled_of q).begin v h.taken is.found
      ways_of = parts (handled_of q).begin v (is.left h.last) is.specs h.taken is.found h.thinned is.applies

      made : IsMadeOfResponses t (is.left h.last) h.last a
      made = is.makes h.last a h.ignored h.were h.answered

      abbrev Bare : Type 0
      Bare = (q : Question) (v : t.Values) (a : Option Response) → e.IsAsked q v → k.IsClosed (k.shape_of q) → k.IsApart (k.shape_of q) v → By n q a → IsBare t a

      all_told : Bare → (Sure : Certainty → Type 0) → Every (λ (s : Spec (workings t)). Sure s.certainty) is.specs → Tells t laws k closing e.IsAsked (By n) Sure ways_of.first h.results
      all_told bare Sure sure =
          tells t laws k closing e.IsAsked (By n) Sure bare 7 (handled_of q).begin is.made v begin_closed begin_apart h.taken ways_of.first ways_of.are
          (thin-every (DeterminesNested t (handled_of q).begin) (is.left h.last) is.specs h.taken h.thinned is.determined)
          (thin-every (AsksSuch t k e.IsAsked (handled_of q).begin v) (is.left h.last) is.specs h.taken h.thinned is.nested)
          (thin-every (λ (s : Spec (workings t)). Sure s.certainty) (is.left h.last) is.specs h.taken h.thinned sure) h.results h.each

      -- where all were refused, all candidates were considered
      refused_all : present h.results ≡ [] → (a ≡ None) × (h.taken ≡ is.specs)
      refused_all r =
          let x = made.refused (h.heard ∙ r) in
          (x.0, sym (h.whole (h.heard ∙ r) ∙ ap (λ z. h.taken ++ z) x.1 ∙ append-nil h.taken))

      whole_told : Bare → (Sure : Certainty → Type 0) → Every (λ (s : Spec (workings t)). Sure s.certainty) is.specs → h.taken ≡ is.specs → Tells t laws k closing e.IsAsked (By n) Sure is.found h.results
      whole_told bare Sure sure r =
          tells t laws k closing e.IsAsked (By n) Sure bare 7 (handled_of q).begin is.made v begin_closed begin_apart is.specs is.found is.applies is.determined is.nested sure h.results
          (subst (λ cs. Pairwise (CandidateEnds t (By n) 8 (handled_of q).begin (handled_of q).next is.left is.considers) cs h.results) r h.each)

      some_way : (Q : t.Fact → Type 0) → SomeOf (Every Q) ways_of.first → SomeOf (Every Q) (e.ways (t.fact_of q v))
      some_way Q s = selection.back Q (ways_of.back (Every Q) s)

  -- ---- refused exactly if it is not possible
  abbrev Exact : ℕ → Type 0
  Exact n =
      (q : Question) (v : t.Values) (a : Option Response) → e.IsAsked q v → k.IsClosed (k.shape_of q) → k.IsApart (k.shape_of q) v
      → By n q a → IsBare t a × IsExactFor e.ways n (t.fact_of q v) a

  bare_by : (n : ℕ) → Exact n → (q : Question) (v : t.Values) (a : Option Response) → e.IsAsked q v → k.IsClosed (k.shape_of q) → k.IsApart (k.shape_of q) v → By n q a → IsBare t a
  bare_by n ih q v a i c d x = (ih q v a i c d x).0

  abbrev SaysSo : ℕ → t.Fact → Option Response → Type 0
  SaysSo n f a = Says t laws k closing e.IsAsked (By n) f a

  says_no : (n : ℕ) → Exact n → (f : t.Fact) → SaysSo n f None → (m : ℕ) → IsPossible e.ways m f → ⊥
  says_no n ih f s = subst (λ z. (m : ℕ) → IsPossible e.ways m z → ⊥) s.fact (ih s.question s.values None s.asked s.closed s.apart s.says).1

  says_some : (n : ℕ) → Exact n → (f : t.Fact) → SaysSome t laws k closing e.IsAsked (By n) f → IsPossible e.ways n f
  says_some n ih f s = subst (IsPossible e.ways n) s.1.fact (ih s.1.question s.1.values (Some s.0) s.1.asked s.1.closed s.1.apart s.1.says).1

  has_no : (n : ℕ) → Exact n → (m : ℕ) (premises : List t.Fact) → SomeOf (λ f. SaysSo n f None) premises → Every (IsPossible e.ways m) premises → ⊥
  has_no n ih m premises s h = Every-at (IsPossible e.ways m) (λ f. SaysSo n f None) ⊥ (λ f x y. says_no n ih f y m x) premises h s

  exact_step : (n : ℕ) → Exact n → Exact (suc n)
  exact_step n ih q v a asked closed apart x =
      let h = heard q v asked closed apart n a x in
      let u = all_told q v asked closed apart n a h (bare_by n ih) Any (every-unit (is q v asked closed apart).specs) in
      let b = tells_bare t laws k closing e.IsAsked (By n) Any (ways_of q v asked closed apart n a h).first h.results u in
      ((made q v asked closed apart n a h).bare (subst (Every (λ r. t.has_values r ≡ false)) (sym h.heard) b), by h u (present h.results) refl)
    where
      none_possible : (m : ℕ) → Every (λ premises. SomeOf (λ f. SaysSo n f None) premises) (is q v asked closed apart).found → IsPossible e.ways m (t.fact_of q v) → ⊥
      none_possible zero z y = y
      none_possible (suc m) z y =
          Every-at (λ premises. SomeOf (λ f. SaysSo n f None) premises) (Every (IsPossible e.ways m)) ⊥ (λ premises s i. has_no n ih m premises s i) (is q v asked closed apart).found z
          ((selection q v asked closed apart).some (IsPossible e.ways m) y)

      by : (h : Heard q v asked closed apart n a) → Tells t laws k closing e.IsAsked (By n) Any (ways_of q v asked closed apart n a h).first h.results → (rs : List Response) → present h.results ≡ rs
          → IsExactFor e.ways (suc n) (t.fact_of q v) a
      by h u [] r =
          let y = refused_all q v asked closed apart n a h r in
          let whole = whole_told q v asked closed apart n a h (bare_by n ih) Any (every-unit (is q v asked closed apart).specs) y.1 in
          subst (IsExactFor e.ways (suc n) (t.fact_of q v)) (sym y.0)
          (λ m z. none_possible m (tells_none t laws k closing e.IsAsked (By n) Any (is q v asked closed apart).found h.results whole r) z)
      by h u (c ∷ rs) r =
          let s = (made q v asked closed apart n a h).answers c rs (h.heard ∙ r) in
          subst (IsExactFor e.ways (suc n) (t.fact_of q v)) (sym s.1)
          (some_way q v asked closed apart n a h (IsPossible e.ways n)
          (SomeOf-mono (λ premises. Every (SaysSome t laws k closing e.IsAsked (By n)) premises) (Every (IsPossible e.ways n))
          (λ premises i. Every-mono (SaysSome t laws k closing e.IsAsked (By n)) (IsPossible e.ways n) (says_some n ih) premises i) (ways_of q v asked closed apart n a h).first
          (tells_some t laws k closing e.IsAsked (By n) Any (ways_of q v asked closed apart n a h).first h.results u c rs r)))

  pub plain_is_exact : PlainIsExact t k p w mode e handles
  plain_is_exact zero q v a asked closed apart x = absurd x
  plain_is_exact (suc n) q v a asked closed apart x = exact_step n (λ q v a i c d y. plain_is_exact n q v a i c d y) q v a asked closed apart x

  -- ---- a definite yes if it holds, and refused if it does not
  module _ (sure : AreSure t k p w mode e) (Holds : t.Fact → Type 0) (ways : HoldsByWays e.ways Holds) where
    abbrev IsYesOnly : Certainty → Type 0
    IsYesOnly c = c ≡ Yes

    abbrev Right : ℕ → Type 0
    Right n =
        (q : Question) (v : t.Values) (a : Option Response) → e.IsAsked q v → k.IsClosed (k.shape_of q) → k.IsApart (k.shape_of q) v
        → HasOneWayWithin e.ways Holds n (t.fact_of q v) → By n q a → IsRightFor t Holds (t.fact_of q v) a

    says_right : (n : ℕ) → Right n → (f : t.Fact) (a : Option Response) → HasOneWayWithin e.ways Holds n f → SaysSo n f a → IsRightFor t Holds f a
    says_right n ih f a i s =
        subst (λ z. IsRightFor t Holds z a) s.fact (ih s.question s.values a s.asked s.closed s.apart (subst (HasOneWayWithin e.ways Holds n) (sym s.fact) i) s.says)

    settled_by : (n : ℕ) → Right n → (ways : List (List t.Fact)) (results : List (Option Response)) → Tells t laws k closing e.IsAsked (By n) IsYesOnly ways results → AtMostOneHolds (Every Holds) ways
        → Every (Every (HasOneWayWithin e.ways Holds n)) ways
        → ((present results ≡ []) × (SomeOf (λ premises. Every Holds premises) ways → ⊥))
        ⊎ ((r : Response) × (present results ≡ r ∷ []) × (is_yes (operations t) r ≡ true) × SomeOf (λ premises. Every Holds premises) ways)
    settled_by n ih ways results u one known = tells_settled t laws k closing e.IsAsked (By n) IsYesOnly (λ c y. y) Holds (HasOneWayWithin e.ways Holds n) (says_right n ih) ways results u one known

    right_step : (n : ℕ) → Right n → Right (suc n)
    right_step n ih q v a asked closed apart i x =
        let h = heard q v asked closed apart n a x in
        let bare = bare_by n (λ q v a j c d y. plain_is_exact n q v a j c d y) in
        let s = selection q v asked closed apart in
        let y = ways_of q v asked closed apart n a h in
        by bare h (s.one Holds i.0) (s.every (HasOneWayWithin e.ways Holds n) i.1)
        (settled_by n ih y.first h.results (all_told q v asked closed apart n a h bare IsYesOnly (sure q v asked closed apart)) (y.one (Every Holds) (s.one Holds i.0))
        (y.every (Every (HasOneWayWithin e.ways Holds n)) (s.every (HasOneWayWithin e.ways Holds n) i.1)))
      where
        no-cons : (r : Response) (rs : List Response) → rs ≡ [] → rs ≡ r ∷ [] → ⊥
        no-cons r rs e f = cc

        none-holds : (found : List (List t.Fact)) (rs : List Response) → rs ≡ []
            → ((rs ≡ []) × (SomeOf (λ premises. Every Holds premises) found → ⊥)) ⊎ ((r : Response) × (rs ≡ r ∷ []) × (is_yes (operations t) r ≡ true) × SomeOf (λ premises. Every Holds premises) found)
            → SomeOf (Every Holds) found → ⊥
        none-holds found rs e (inl z) s = z.1 s
        none-holds found rs e (inr z) s = no-cons z.0 rs e z.1

        by : ((q : Question) (v : t.Values) (a : Option Response) → e.IsAsked q v → k.IsClosed (k.shape_of q) → k.IsApart (k.shape_of q) v → By n q a → IsBare t a) → (h : Heard q v asked closed apart n a)
            → AtMostOneHolds (Every Holds) (is q v asked closed apart).found → Every (Every (HasOneWayWithin e.ways Holds n)) (is q v asked closed apart).found
            → ((present h.results ≡ []) × (SomeOf (λ premises. Every Holds premises) (ways_of q v asked closed apart n a h).first → ⊥))
            ⊎ ((r : Response) × (present h.results ≡ r ∷ []) × (is_yes (operations t) r ≡ true) × SomeOf (λ premises. Every Holds premises) (ways_of q v asked closed apart n a h).first)
            → IsRightFor t Holds (t.fact_of q v) a
        by bare h one known (inl z) =
            let y = refused_all q v asked closed apart n a h z.0 in
            let u = settled_by n ih (is q v asked closed apart).found h.results (whole_told q v asked closed apart n a h bare IsYesOnly (sure q v asked closed apart) y.1) one known in
            inr ((λ x. none-holds (is q v asked closed apart).found (present h.results) z.0 u ((selection q v asked closed apart).some Holds (ways.has_way (t.fact_of q v) x))), y.0)
        by bare h one known (inr z) =
            inl (
              ways.by_way (t.fact_of q v) (some_way q v asked closed apart n a h Holds z.3),
              subst (IsYes t) (sym ((made q v asked closed apart n a h).only z.0 (h.heard ∙ z.1) z.2)) z.2,
            )

    pub plain_right : (n : ℕ) → Right n
    plain_right zero q v a asked closed apart i x = absurd x
    plain_right (suc n) q v a asked closed apart i x = right_step n (λ q v a j c d l y. plain_right n q v a j c d l y) q v a asked closed apart i x

    -- ---- no maybe if of each of two groups of candidates at most one rule instance holds
    true-false : (b : Bool) → b ≡ true → b ≡ false → ⊥
    true-false b y n = cc

    module _ (g : Spec (workings t) → Bool) (own others : t.Fact → List (List t.Fact))
        (sorted : (q : Question) (v : t.Values) (i : e.IsAsked q v) (c : k.IsClosed (k.shape_of q)) (d : k.IsApart (k.shape_of q) v) → IsSorted t g e.ways own others (t.fact_of q v) v (handled_of q) (e.exact q v i c d).specs) where
      abbrev Few : ℕ → t.Fact → Type 0
      Few n f = HasFewWaysWithin e.ways own others Holds n f

      abbrev NoMaybe : ℕ → Type 0
      NoMaybe n =
          (q : Question) (v : t.Values) (a : Option Response) → e.IsAsked q v → k.IsClosed (k.shape_of q) → k.IsApart (k.shape_of q) v
          → Few n (t.fact_of q v) → By n q a → (r : Response) → a ≡ Some r → is_yes (operations t) r ≡ true

      says-no-maybe : (n : ℕ) → NoMaybe n → (f : t.Fact) → Few n f → SaysMaybe t laws k closing e.IsAsked (By n) f → ⊥
      says-no-maybe n ih f i s =
          true-false (is_yes (operations t) s.0) (ih s.1.question s.1.values (Some s.0) s.1.asked s.1.closed s.1.apart (subst (Few n) (sym s.1.fact) i) s.1.says s.0 refl) s.2

      no_maybe_step : (n : ℕ) → NoMaybe n → NoMaybe (suc n)
      no_maybe_step n ih q v a asked closed apart few x r is_some =
          let h = heard q v asked closed apart n a x in
          let bare = bare_by n (λ q v a j c d y. plain_is_exact n q v a j c d y) in
          let z = sorted q v asked closed apart in
          let begin = (handled_of q).begin in
          let left = (is q v asked closed apart).left h.last in
          let specs = (is q v asked closed apart).specs in
          let y = sorted-parts t begin v g left specs h.taken z.first z.second h.thinned z.are in
          let j =
          judged t laws k closing e.IsAsked (By n) Holds (Few n) (λ f s. possible_holds e.ways Holds ways n f (says_some n (λ q v a j c d y. plain_is_exact n q v a j c d y) f s)) (λ f i s. says-no-maybe n ih f i s)
          bare 7 begin (is q v asked closed apart).made v (begin_closed q v asked closed apart) (begin_apart q v asked closed apart) g h.taken y.first y.second y.are
          (thin-every (DeterminesNested t begin) left specs h.taken h.thinned (is q v asked closed apart).determined)
          (thin-every (AsksSuch t k e.IsAsked begin v) left specs h.taken h.thinned (is q v asked closed apart).nested)
          (thin-every (λ (c : Spec (workings t)). c.certainty ≡ Yes) left specs h.taken h.thinned (sure q v asked closed apart))
          (part-every (Every (Few n)) y.first z.first y.of_first (z.every_first (Few n) few.2)) (part-every (Every (Few n)) y.second z.second y.of_second (z.every_second (Few n) few.2)) h.results h.each in
          z.merges h.last a h.ignored h.were h.answered (subst (Every (λ r. is_yes (operations t) r ≡ true)) (sym h.heard) (all-yes t Holds g h.taken y.first y.second h.results j))
          (subst (λ rs. length rs ≤ 1) (sym (h.heard_from g)) (first-alone t Holds g h.taken y.first y.second h.results j (part-one (Every Holds) y.first z.first y.of_first (z.one_first Holds few.0))))
          (subst (λ rs. length rs ≤ 1) (sym (h.heard_from (λ c. not (g c)))) (second-alone t Holds g h.taken y.first y.second h.results j (part-one (Every Holds) y.second z.second y.of_second (z.one_second Holds few.1))))
          r is_some

      pub no_maybe : (n : ℕ) → NoMaybe n
      no_maybe zero q v a asked closed apart few x r is_some = absurd x
      no_maybe (suc n) q v a asked closed apart few x r is_some = no_maybe_step n (λ q v a j c d l y r s. no_maybe n q v a j c d l y r s) q v a asked closed apart few x r is_some

  pub plain_is_right : AreSure t k p w mode e → (Holds : t.Fact → Type 0) → HoldsByWays e.ways Holds → PlainIsRight t k p w mode e handles Holds
  plain_is_right sure Holds ways = plain_right sure Holds ways

  -- ---- a goal of short chains has an answer
  module _ (ordered : (n : ℕ) (q : Question) (heard : List (Reply (Option Response))) → AreReplies m (IsPlain m w n) w (mode, p.goal_of q) heard → IsInOrder m w (mode, p.goal_of q) heard (m.asks w (mode, p.goal_of q) heard)) where
    answers_step : (n : ℕ)
        → ((q : Question) (v : t.Values) → e.IsAsked q v → k.IsClosed (k.shape_of q) → k.IsApart (k.shape_of q) v → HasShortChains e.ways n (t.fact_of q v) → (a : Option Response) × By n q a)
        → (q : Question) (v : t.Values) → e.IsAsked q v → k.IsClosed (k.shape_of q) → k.IsApart (k.shape_of q) v → HasShortChains e.ways (suc n) (t.fact_of q v) → (a : Option Response) × By (suc n) q a
    answers_step n ih q v asked closed apart short =
        let h = handled_of q in
        let x = is q v asked closed apart in
        let bare = bare_by n (λ q v a j c d y. plain_is_exact n q v a j c d y) in
        let each = can_all t laws k closing e.IsAsked (By n) bare (HasShortChains e.ways n) ih v 7 h.begin x.made (begin_closed q v asked closed apart) (begin_apart q v asked closed apart) x.specs x.found
        x.applies x.determined x.nested ((selection q v asked closed apart).every (HasShortChains e.ways n) short) in
        let can : CanEnd (By n) (frame_of_goal t h) =
        can_consider t (By n) 8 h.begin h.next x.left x.considers (suc h.candidates) x.specs [] (less-next (length x.specs) h.candidates x.few) tt x.all each in
        let y = completes m Question (goal_in t p mode) (kind_of t) w (mode, p.goal_of q) (frame_of_goal t h) (λ h. refl) (IsPlain m w n) (ordered n q) can in
        (y.1, (y.0, y.2))

    pub plain_answers : PlainAnswers t k p w mode e handles
    plain_answers zero q v asked closed apart short = absurd short
    plain_answers (suc n) q v asked closed apart short = answers_step n (λ q v i c d s. plain_answers n q v i c d s) q v asked closed apart short
