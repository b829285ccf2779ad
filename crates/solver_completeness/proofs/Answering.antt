-- A goal without inference variables has a result if its premises have.
use Rattle.std.proofs.Common.{◌≡◌, inl, inr, ℕ, suc, Bool, true, false, List, [], ◌∷◌, map, refl, sym, ◌∙◌, ap, subst, Option, Some, None}
use Rattle.infer_table.specs.declared.certainty.Certainty.{Certainty}
use Rattle.goal_evaluator.specs.Lists.{Every, Pairwise}
use Rattle.goal_evaluator.specs.Operations.{is_yes}
use Rattle.goal_evaluator.specs.Table.{Tables, operations, workings, IsTable, Narrows}
use Rattle.goal_evaluator.specs.Rounds.{Round, Rounds, kept, judged, applied, replied, round, settled, next_round, rounds}
use Rattle.goal_evaluator.specs.Candidate.{Spec, answered, equated, candidate}
use Rattle.solver_completeness.specs.Plays.{Ends}
use Rattle.solver_completeness.specs.Closed.{Closing, IsClosing, IsBare, Applies, EquationsRefuse, DeterminesNested, AsksSuch, AreWays, refused, applied as applies, here, answered as answered_by}
use Rattle.solver_completeness.proofs.Plays.{Ends-follows}
use Rattle.solver_completeness.proofs.Rounds.{IsNested, all_narrowed, RoundEnds, one_round}
use Rattle.solver_completeness.proofs.Candidates.{narrows_by, meets_by, asked_in, nested_all}

module _ {Question Response : Type 0} (t : Tables Question Response) (laws : IsTable t) (k : Closing t) (closing : IsClosing t k) (IsAsked : Question → t.Values → Type 0) (P : Question → Option Response → Type 0)
    (bare : (q : Question) (v : t.Values) (a : Option Response) → IsAsked q v → k.IsClosed (k.shape_of q) → k.IsApart (k.shape_of q) v → P q a → IsBare t a)
    (Short : t.Fact → Type 0) (answer : (q : Question) (v : t.Values) → IsAsked q v → k.IsClosed (k.shape_of q) → k.IsApart (k.shape_of q) v → Short (t.fact_of q v) → (a : Option Response) × P q a) (v : t.Values) where
  abbrev IsNestedHere : t.Table → t.Nested → t.Fact → Type 0
  IsNestedHere T n f = IsNested t laws k closing IsAsked P T v n f

  -- the nested goal has an answer
  asked_now : (T : t.Table) (n : t.Nested) (f : t.Fact) → t.Made T → k.IsClosed (k.shape T) → k.IsApart (k.shape T) v → IsNestedHere T n f → Short f → (a : Option Response) × P (t.question T n) a × IsBare t a
  asked_now T n f m c d i h =
      let x = closing.free T m c v in
      let apart = subst (k.IsApart (k.shape T)) (sym x.2) d in
      let asked = i.asked T x.0 here m c i.determined x.1 x.1 x.2 in
      let closed = closing.closed T n m c i.determined in
      let places = closing.apart T n c i.determined x.0 x.1 apart in
      let a = answer (t.question T n) (t.at T n x.0) asked closed places (subst Short (sym (laws.instance T n x.0 x.1 ∙ i.is x.0 x.1 x.2)) h) in
      (a.0, a.1, bare (t.question T n) (t.at T n x.0) a.0 asked closed places a.1)

  abbrev CanRound : t.Table → List t.Nested → Type 0
  CanRound T ns = (o : Option (Round (operations t))) × Ends P (round (operations t) ns T) o

  abbrev Onward : List t.Nested → List t.Fact → Type 0
  Onward ns fs = (U : t.Table) → t.Made U → k.IsClosed (k.shape U) → k.IsApart (k.shape U) v → Pairwise (IsNestedHere U) ns fs → CanRound U ns

  can_keep : (n : t.Nested) (r : Response) (x : Option (Round (operations t))) → (o : Option (Round (operations t))) × Ends P (kept (operations t) n r x) o
  can_keep n r None = (None, refl)
  can_keep n r (Some o) = (_, refl)

  can_round : (ns : List t.Nested) (fs : List t.Fact) → Every Short fs → (T : t.Table) → t.Made T → k.IsClosed (k.shape T) → k.IsApart (k.shape T) v → Pairwise (IsNestedHere T) ns fs → CanRound T ns
  can_round [] [] h T m c d p = (_, refl)
  can_round [] (f ∷ fs) h T m c d p = absurd p
  can_round (n ∷ ns) [] h T m c d p = absurd p
  can_round (n ∷ ns) (f ∷ fs) h T m c d p =
      let a = asked_now T n f m c d p.0 h.0 in
      let x = by (λ U i b e q. can_round ns fs h.1 U i b e q) a.0 a.2 in
      (x.0, (a.0, a.1, x.1))
    where
      judge : Onward ns fs → (r : Response) (U : t.Table) → t.apply T n r ≡ Some U → t.has_values r ≡ false → (b : Bool) → (o : Option (Round (operations t))) × Ends P (judged (operations t) (round (operations t) ns) n r U b) o
      judge go r U q w b =
          let narrow = laws.apply_narrows T U n r m q in
          let shape = closing.apply T U n r q in
          let x = go U narrow.made (subst k.IsClosed (sym shape) c) (subst (λ z. k.IsApart z v) (sym shape) d) (all_narrowed t laws k closing IsAsked P T U v ns fs (answered_by here q w) narrow p.1) in
          at b x
        where
          at : (b : Bool) → CanRound U ns → (o : Option (Round (operations t))) × Ends P (judged (operations t) (round (operations t) ns) n r U b) o
          at true x = x
          at false x = let y = can_keep n r x.0 in (y.0, Ends-follows P (kept (operations t) n r) (round (operations t) ns U) x.0 y.0 x.1 y.1)

      put : Onward ns fs → (r : Response) (U : Option t.Table) → t.apply T n r ≡ U → t.has_values r ≡ false → (o : Option (Round (operations t))) × Ends P (applied (operations t) (round (operations t) ns) n r U) o
      put go r None q w = (None, refl)
      put go r (Some U) q w = judge go r U q w (is_yes (operations t) r)

      by : Onward ns fs → (a : Option Response) → IsBare t a → (o : Option (Round (operations t))) × Ends P (replied (operations t) (round (operations t) ns) T n a) o
      by go None w = (None, refl)
      by go (Some r) w = put go r (t.apply T n r) refl w

  module _ (limited : ℕ) (begin : t.Table) (m : t.Made begin) (c : k.IsClosed (k.shape begin)) (d : k.IsApart (k.shape begin) v) (s : Spec (workings t)) where
    abbrev pub CanEndCandidate : Type 0
    CanEndCandidate = (x : Option Response) × Ends P (candidate (workings t) (suc limited) begin s) x

    under : (U : t.Table) → t.equate (t.fresh begin s.kinds) s.equations ≡ Some U → Narrows t (t.fresh begin s.kinds) U
    under U q = narrows_by t laws k closing IsAsked P bare (suc limited) begin m v c d s U q

    met : (U : t.Table) → t.equate (t.fresh begin s.kinds) s.equations ≡ Some U → (a : t.Assignment) → t.Allows U a → Every (λ e. t.Meets e a) s.equations
    met U q a h = meets_by t laws k closing IsAsked P bare (suc limited) begin m v c d s U q a h

    can_refuse : EquationsRefuse t begin v s → CanEndCandidate
    can_refuse none_meets = by (t.equate (t.fresh begin s.kinds) s.equations) refl
      where
        by : (o : Option t.Table) → t.equate (t.fresh begin s.kinds) s.equations ≡ o → (x : Option Response) × Ends P (equated (workings t) (suc limited) s o) x
        by None q = (None, refl)
        by (Some U) q =
            let shape = closing.equate (t.fresh begin s.kinds) U s.equations q ∙ closing.fresh begin s.kinds in
            let narrow = under U q in
            let y = closing.free U narrow.made (subst k.IsClosed (sym shape) c) v in
            absurd (none_meets y.0 (narrow.allows y.0 y.1) y.2 (met U q y.0 y.1))

    can_settle : (left : List t.Nested) (T : t.Table) (certainty : Certainty) (b : Bool) → b ≡ false → (y : Option (Rounds (operations t))) × Ends P (settled (operations t) (rounds (operations t) limited) left T certainty b) y
    can_settle left T certainty true e = absurd (cc)
    can_settle [] T certainty false e = (_, refl)
    can_settle (n ∷ ns) T certainty false e = (_, refl)

    can_answer : (y : Option (Rounds (operations t))) → (x : Option Response) × Ends P (answered (workings t) s.certainty y) x
    can_answer None = (None, refl)
    can_answer (Some o) = (_, refl)

    can_go : (U : t.Table) (premises : List t.Fact) (o : Option (Round (operations t))) → RoundEnds t laws k closing IsAsked P U premises o
        → (y : Option (Rounds (operations t))) × Ends P (next_round (operations t) (rounds (operations t) limited) o) y
    can_go U premises None e = (None, refl)
    can_go U premises (Some o) (inl z) = absurd (cc)
    can_go U premises (Some o) (inr z) = can_settle o.left o.table o.certainty o.changed (ap (λ (u : Round (operations t)). u.changed) (some-is o z.0 z.1) ∙ z.2.changed)
      where
        some-is : {A : Type 0} (x y : A) → Some x ≡ Some y → x ≡ y
        some-is x y e = cc

    can_apply : DeterminesNested t begin s → AsksSuch t k IsAsked begin v s → (premises : List t.Fact) → Applies t begin v s premises → Every Short premises → CanEndCandidate
    can_apply determined asked premises a h = by (t.equate (t.fresh begin s.kinds) s.equations) refl
      where
        by : (o : Option t.Table) → t.equate (t.fresh begin s.kinds) s.equations ≡ o → (x : Option Response) × Ends P (equated (workings t) (suc limited) s o) x
        by None q = (None, refl)
        by (Some U) q =
            let w = t.recorded U s.regions in
            let first = under U q in
            let narrow = laws.recorded_narrows U s.regions first.made in
            let onto = λ (b : t.Assignment) (h : t.Allows w b). first.allows b (narrow.allows b h) in
            let meets = λ (b : t.Assignment) (h : t.Allows w b). met U q b (narrow.allows b h) in
            let shape = closing.recorded U s.regions ∙ closing.equate (t.fresh begin s.kinds) U s.equations q ∙ closing.fresh begin s.kinds in
            let closed = subst k.IsClosed (sym shape) c in
            let apart = subst (λ y. k.IsApart y v) (sym shape) d in
            let ns = nested_all t laws k closing IsAsked P bare (suc limited) begin m v c d s determined asked limited refl w a.assignment a.own s.nested
            (λ b r h i o. determined b r (onto b h) (onto r i) (meets b h) (meets r i) o)
            (λ b h o. determined b a.assignment (onto b h) a.allowed (meets b h) a.meets o) (asked_in t laws k closing IsAsked P bare (suc limited) begin m v c d s determined asked limited refl U w q refl onto meets) in
            let x = can_round s.nested (map (λ n. t.fact n a.assignment) s.nested) (subst (Every Short) (sym a.needs) h) w narrow.made closed apart ns in
            let y = can_go w (map (λ n. t.fact n a.assignment) s.nested) x.0 (one_round t laws k closing IsAsked P bare v s.nested (map (λ n. t.fact n a.assignment) s.nested) w x.0 narrow.made closed apart ns x.1) in
            let z = can_answer y.0 in (
              z.0,
              Ends-follows P (answered (workings t) s.certainty) (rounds (operations t) (suc limited) s.nested w) y.0 z.0
                  (Ends-follows P (next_round (operations t) (rounds (operations t) limited)) (round (operations t) s.nested w) x.0 y.0 x.1 y.1) z.1,
            )

  -- each candidate of the list ends
  pub can_all : (limited : ℕ) (begin : t.Table) → t.Made begin → k.IsClosed (k.shape begin) → k.IsApart (k.shape begin) v → (cs : List (Spec (workings t))) (ways : List (List t.Fact)) → AreWays t begin v cs ways
      → Every (DeterminesNested t begin) cs → Every (AsksSuch t k IsAsked begin v) cs → Every (Every Short) ways
      → Every (λ (s : Spec (workings t)). (x : Option Response) × Ends P (candidate (workings t) (suc limited) begin s) x) cs
  can_all limited begin m c d [] [] u a b h = tt
  can_all limited begin m c d [] (premises ∷ ways) u a b h = tt
  can_all limited begin m c d (s ∷ cs) ways (refused none_meets u) a b h = (can_refuse limited begin m c d s none_meets, can_all limited begin m c d cs ways u a.1 b.1 h)
  can_all limited begin m c d (s ∷ cs) (premises ∷ ways) (applies i u) a b h = (can_apply limited begin m c d s a.0 b.0 premises i h.0, can_all limited begin m c d cs ways u a.1 b.1 h.1)
