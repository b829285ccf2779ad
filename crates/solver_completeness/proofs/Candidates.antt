-- A candidate for a goal without inference variables, if no response has values.
use Rattle.std.proofs.Common.{◌≡◌, ◌⊎◌, inl, inr, ℕ, suc, Bool, true, false, List, [], ◌∷◌, map, refl, sym, ◌∙◌, subst, Option, Some, None}
use Rattle.infer_table.specs.declared.certainty.Certainty.{Certainty}
use Rattle.infer_table.specs.declared.certainty.Certainty.TheVariants.{Yes, Maybe}
use Rattle.infer_table.specs.Certainties.{joined, unsettled}
use Rattle.goal_evaluator.specs.Lists.{Every, SomeOf, Pairwise}
use Rattle.goal_evaluator.proofs.ListLaws.{Every-mono}
use Rattle.goal_evaluator.specs.Table.{Tables, operations, workings, IsTable, Narrows, IsDetermined}
use Rattle.goal_evaluator.specs.Rounds.{Round, Rounds, round, settled, next_round, rounds}
use Rattle.goal_evaluator.specs.Candidate.{Spec, answered, equated, candidate}
use Rattle.solver_completeness.specs.Plays.{Ends}
use Rattle.solver_completeness.specs.Closed.{Closing, IsClosing, IsBare, Applies, EquationsRefuse, DeterminesNested, TableReaches, AsksSuch}
use Rattle.solver_completeness.proofs.Plays.{Ends-followed}
use Rattle.solver_completeness.proofs.Rounds.{Says, SaysSome, SaysYes, SaysMaybe, IsNested, Lasts, RoundEnds, one_round}
use Rattle.type_terms.proofs.Made.{false-true as not-both}
use Rattle.type_terms.proofs.TypeBasics.{some-is}

module _ {Question Response : Type 0} (t : Tables Question Response) (laws : IsTable t) (k : Closing t) (closing : IsClosing t k) (IsAsked : Question → t.Values → Type 0) (P : Question → Option Response → Type 0) where
  -- what a candidate with these premises says
  pub record Answered (premises : List t.Fact) (r : Response) (sure : Certainty) : Type 0 where
    pub bare : t.has_values r ≡ false
    pub each : Every (SaysSome t laws k closing IsAsked P) premises
    pub how : (Every (SaysYes t laws k closing IsAsked P) premises × (t.certainty r ≡ sure)) ⊎ SomeOf (SaysMaybe t laws k closing IsAsked P) premises

  abbrev pub Told : List t.Fact → Certainty → Option Response → Type 0
  Told premises sure None = SomeOf (λ f. Says t laws k closing IsAsked P f None) premises
  Told premises sure (Some r) = Answered premises r sure

  joined-yes : (c : Certainty) → joined c Yes ≡ c
  joined-yes Yes = refl
  joined-yes (Maybe cause) = refl

  module _ (bare : (q : Question) (v : t.Values) (a : Option Response) → IsAsked q v → k.IsClosed (k.shape_of q) → k.IsApart (k.shape_of q) v → P q a → IsBare t a) (limit : ℕ) (begin : t.Table) (m : t.Made begin) (v : t.Values)
      (c : k.IsClosed (k.shape begin)) (d : k.IsApart (k.shape begin) v) (s : Spec (workings t)) where
    -- where its equations hold for no choice, the candidate is refused
    pub narrows_by : (U : t.Table) → t.equate (t.fresh begin s.kinds) s.equations ≡ Some U → Narrows t (t.fresh begin s.kinds) U
    narrows_by U q = laws.equate_narrows (t.fresh begin s.kinds) U s.equations (laws.fresh_made begin s.kinds m) q

    pub meets_by : (U : t.Table) → t.equate (t.fresh begin s.kinds) s.equations ≡ Some U → (a : t.Assignment) → t.Allows U a → Every (λ e. t.Meets e a) s.equations
    meets_by U q = laws.equate_meets (t.fresh begin s.kinds) U s.equations (laws.fresh_made begin s.kinds m) q

    pub refused_is : EquationsRefuse t begin v s → (x : Option Response) → Ends P (candidate (workings t) limit begin s) x → x ≡ None
    refused_is none_meets x e = by (t.equate (t.fresh begin s.kinds) s.equations) refl e
      where
        by : (o : Option t.Table) → t.equate (t.fresh begin s.kinds) s.equations ≡ o → Ends P (equated (workings t) limit s o) x → x ≡ None
        by None q g = sym g
        by (Some U) q g =
            let shape = closing.equate (t.fresh begin s.kinds) U s.equations q ∙ closing.fresh begin s.kinds in
            let narrow = narrows_by U q in
            let y = closing.free U narrow.made (subst k.IsClosed (sym shape) c) v in
            absurd (none_meets y.0 (narrow.allows y.0 y.1) y.2 (meets_by U q y.0 y.1))

    module _ (determined : DeterminesNested t begin s) (asked : AsksSuch t k IsAsked begin v s) (limited : ℕ) (more : limit ≡ suc limited) where
      -- the nested goals, over a table in which the equations hold
      abbrev pub AreAsked : t.Table → t.Nested → Type 0
      AreAsked U n = (W : t.Table) (b : t.Assignment) → TableReaches t U W → t.Made W → k.IsClosed (k.shape W) → IsDetermined t W n → t.Allows W b → t.Allows U b → t.own b ≡ v → IsAsked (t.question W n) (t.at W n b)

      -- where the equations hold
      pub asked_in : (B U : t.Table) → t.equate (t.fresh begin s.kinds) s.equations ≡ Some B → t.recorded B s.regions ≡ U → ((b : t.Assignment) → t.Allows U b → t.Allows (t.fresh begin s.kinds) b) → ((b : t.Assignment) → t.Allows U b → Every (λ e. t.Meets e b) s.equations) → Every (AreAsked U) s.nested
      asked_in B U q w onto meets = Every-mono _ (AreAsked U) (λ n h W b z i x y a j e. h W b (record { table = B; equal = q; reached = subst (λ u. TableReaches t u W) (sym w) z }) i x y a (onto b j) (meets b j) e) s.nested asked

      pub nested_all : (U : t.Table) (a : t.Assignment) → t.own a ≡ v → (ns : List t.Nested)
          → ((s r : t.Assignment) → t.Allows U s → t.Allows U r → t.own s ≡ t.own r → Every (λ n. t.fact n s ≡ t.fact n r) ns)
          → ((s : t.Assignment) → t.Allows U s → t.own s ≡ t.own a → Every (λ n. t.fact n s ≡ t.fact n a) ns)
          → Every (AreAsked U) ns → Pairwise (IsNested t laws k closing IsAsked P U v) ns (map (λ n. t.fact n a) ns)
      nested_all U a o [] both one h = tt
      nested_all U a o (n ∷ ns) both one h = (
        record { determined = λ s r x y e. (both s r x y e).0; is = λ s x e. (one s x (e ∙ sym o)).0; asked = h.0 },
        nested_all U a o ns (λ s r x y e. (both s r x y e).1) (λ s x e. (one s x e).1) h.1,
      )

      no-cons : (n : t.Nested) (ns : List t.Nested) → [] ≡ n ∷ ns → ⊥
      no-cons n ns e = cc

      -- what the last table answers
      responds : (T : t.Table) (sure : Certainty) (premises : List t.Fact) → t.Made T → k.IsClosed (k.shape T) → Every (SaysSome t laws k closing IsAsked P) premises
          → (Every (SaysYes t laws k closing IsAsked P) premises × (sure ≡ s.certainty)) ⊎ SomeOf (SaysMaybe t laws k closing IsAsked P) premises → Told premises s.certainty (Some (t.respond T sure))
      responds T sure premises i h each (inl z) = record { bare = closing.silent T sure i h; each = each; how = inl (z.0, laws.respond_certainty T sure ∙ z.1) }
      responds T sure premises i h each (inr z) = record { bare = closing.silent T sure i h; each = each; how = inr z }

      settles : (U : t.Table) (premises : List t.Fact) (o : Round (operations t)) → k.shape U ≡ k.shape begin → Lasts t laws k closing IsAsked P U premises o → (b : Bool) → o.changed ≡ b → (left : List t.Nested) → o.left ≡ left
          → (y : Option (Rounds (operations t))) → Ends P (settled (operations t) (rounds (operations t) limited) left o.table o.certainty b) y
          → (x : Option Response) → Ends P (answered (workings t) s.certainty y) x → Told premises s.certainty x
      settles U premises o shape l true q left i y e x g = absurd (not-both (sym l.changed ∙ q))
      settles U premises o shape l false q [] i y e x g =
          subst (Told premises s.certainty) (subst (λ z. Ends P (answered (workings t) s.certainty z) x) (sym e) g)
          (responds o.table (joined s.certainty Yes) premises l.narrows.made (subst k.IsClosed (sym (l.shape ∙ shape)) c) l.each (by l.left))
        where
          by : (Every (SaysYes t laws k closing IsAsked P) premises × (o.left ≡ [])) ⊎ (SomeOf (SaysMaybe t laws k closing IsAsked P) premises × (n : t.Nested) × (ns : List t.Nested) × (o.left ≡ n ∷ ns))
              → (Every (SaysYes t laws k closing IsAsked P) premises × (joined s.certainty Yes ≡ s.certainty)) ⊎ SomeOf (SaysMaybe t laws k closing IsAsked P) premises
          by (inl z) = inl (z.0, joined-yes s.certainty)
          by (inr z) = inr z.0
      settles U premises o shape l false q (n ∷ ns) i y e x g =
          subst (Told premises s.certainty) (subst (λ z. Ends P (answered (workings t) s.certainty z) x) (sym e) g)
          (responds o.table (joined s.certainty (unsettled o.certainty)) premises l.narrows.made (subst k.IsClosed (sym (l.shape ∙ shape)) c) l.each (by l.left))
        where
          by : (Every (SaysYes t laws k closing IsAsked P) premises × (o.left ≡ [])) ⊎ (SomeOf (SaysMaybe t laws k closing IsAsked P) premises × (n : t.Nested) × (ns : List t.Nested) × (o.left ≡ n ∷ ns))
              → (Every (SaysYes t laws k closing IsAsked P) premises × (joined s.certainty (unsettled o.certainty) ≡ s.certainty)) ⊎ SomeOf (SaysMaybe t laws k closing IsAsked P) premises
          by (inl z) = absurd (no-cons n ns (sym z.1 ∙ i))
          by (inr z) = inr z.0

      goes_on : (U : t.Table) (premises : List t.Fact) → k.shape U ≡ k.shape begin → (o : Option (Round (operations t))) → RoundEnds t laws k closing IsAsked P U premises o
          → (y : Option (Rounds (operations t))) → Ends P (next_round (operations t) (rounds (operations t) limited) o) y
          → (x : Option Response) → Ends P (answered (workings t) s.certainty y) x → Told premises s.certainty x
      goes_on U premises shape None (inl z) y e x g = subst (Told premises s.certainty) (subst (λ u. Ends P (answered (workings t) s.certainty u) x) (sym e) g) z.1
      goes_on U premises shape None (inr z) y e x g = absurd (cc)
      goes_on U premises shape (Some o) (inl z) y e x g = absurd (cc)
      goes_on U premises shape (Some o) (inr z) y e x g =
          settles U premises o shape (subst (Lasts t laws k closing IsAsked P U premises) (sym (some-is o z.0 z.1)) z.2) o.changed refl o.left refl y e x g

      abbrev pub Ended : (limit : ℕ) → t.Table → Option Response → Type 0
      Ended l U x = (y : Option (Rounds (operations t))) × Ends P (rounds (operations t) l s.nested (t.recorded U s.regions)) y × Ends P (answered (workings t) s.certainty y) x

      -- where its equations hold, the candidate asks its nested goals once
      pub applied_is : (premises : List t.Fact) → Applies t begin v s premises → (x : Option Response) → Ends P (candidate (workings t) limit begin s) x → Told premises s.certainty x
      applied_is premises a x e = by (t.equate (t.fresh begin s.kinds) s.equations) refl e
        where
          no : (U : t.Table) → None ≡ Some U → ⊥
          no U q = cc

          by : (o : Option t.Table) → t.equate (t.fresh begin s.kinds) s.equations ≡ o → Ends P (equated (workings t) limit s o) x → Told premises s.certainty x
          by None q g =
              let shape = closing.fresh begin s.kinds in
              let apart = closing.tells (t.fresh begin s.kinds) a.assignment (subst (λ z. k.IsApart z (t.own a.assignment)) (sym shape) (subst (k.IsApart (k.shape begin)) (sym a.own) d)) a.allowed in
              let y = laws.equate_keeps (t.fresh begin s.kinds) s.equations a.assignment apart a.meets in
              absurd (no y.table (sym q ∙ y.is))
          by (Some U) q g =
              let y = Ends-followed P (answered (workings t) s.certainty) (rounds (operations t) limit s.nested (t.recorded U s.regions)) x g in
              let z : Ended (suc limited) U x = subst (λ l. Ended l U x) more (y.0, y.1, y.2) in
              let w = t.recorded U s.regions in
              let under = narrows_by U q in
              let narrow = laws.recorded_narrows U s.regions under.made in
              let onto = λ (b : t.Assignment) (h : t.Allows w b). under.allows b (narrow.allows b h) in
              let meets = λ (b : t.Assignment) (h : t.Allows w b). meets_by U q b (narrow.allows b h) in
              let shape = closing.recorded U s.regions ∙ closing.equate (t.fresh begin s.kinds) U s.equations q ∙ closing.fresh begin s.kinds in
              let ns = nested_all w a.assignment a.own s.nested
              (λ b r h i o. determined b r (onto b h) (onto r i) (meets b h) (meets r i) o)
              (λ b h o. determined b a.assignment (onto b h) a.allowed (meets b h) a.meets o) (asked_in U w q refl onto meets) in
              let u = Ends-followed P (next_round (operations t) (rounds (operations t) limited)) (round (operations t) s.nested w) z.0 z.1 in
              let ends = one_round t laws k closing IsAsked P bare v s.nested (map (λ n. t.fact n a.assignment) s.nested) w u.0 narrow.made
              (subst k.IsClosed (sym shape) c) (subst (λ y. k.IsApart y v) (sym shape) d) ns u.1 in
              goes_on w premises shape u.0 (subst (λ fs. RoundEnds t laws k closing IsAsked P w fs u.0) a.needs ends) z.0 u.2 x z.2
