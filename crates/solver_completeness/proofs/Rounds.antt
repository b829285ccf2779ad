-- One round of nested goals without inference variables, if no response has values.
use Rattle.std.proofs.Common.{◌≡◌, ◌⊎◌, inl, inr, Bool, true, false, ◌||◌, List, [], ◌∷◌, refl, sym, ◌∙◌, ap, subst, Option, Some, None}
use Rattle.goal_evaluator.specs.Lists.{Every, SomeOf, Pairwise}
use Rattle.goal_evaluator.specs.Operations.{is_yes}
use Rattle.goal_evaluator.specs.Table.{Tables, operations, Narrows, IsDetermined, IsTable}
use Rattle.goal_evaluator.specs.Rounds.{Round, kept, judged, applied, replied, round}
use Rattle.solver_completeness.specs.Plays.{Ends}
use Rattle.solver_completeness.specs.Closed.{Closing, IsClosing, IsBare, TableReaches, here, answered}
use Rattle.solver_completeness.proofs.Plays.{Ends-followed}

module _ {Question Response : Type 0} (t : Tables Question Response) (laws : IsTable t) (k : Closing t) (closing : IsClosing t k) (IsAsked : Question → t.Values → Type 0) (P : Question → Option Response → Type 0) where
  -- P answers a goal without unknowns, of which this is the reference, so
  pub record Says (f : t.Fact) (a : Option Response) : Type 0 where
    pub question : Question
    pub values : t.Values
    pub asked : IsAsked question values
    pub closed : k.IsClosed (k.shape_of question)
    pub apart : k.IsApart (k.shape_of question) values
    pub fact : t.fact_of question values ≡ f
    pub says : P question a

  abbrev pub SaysSome : t.Fact → Type 0
  SaysSome f = (r : Response) × Says f (Some r)

  abbrev pub SaysYes : t.Fact → Type 0
  SaysYes f = (r : Response) × Says f (Some r) × (is_yes (operations t) r ≡ true)

  abbrev pub SaysMaybe : t.Fact → Type 0
  SaysMaybe f = (r : Response) × Says f (Some r) × (is_yes (operations t) r ≡ false)

  -- the table's goal determines the nested goal, which is this reference
  pub record IsNested (T : t.Table) (v : t.Values) (n : t.Nested) (f : t.Fact) : Type 0 where
    pub determined : IsDetermined t T n
    pub is : (s : t.Assignment) → t.Allows T s → t.own s ≡ v → t.fact n s ≡ f
    pub asked : (U : t.Table) (s : t.Assignment) → TableReaches t T U → t.Made U → k.IsClosed (k.shape U) → IsDetermined t U n → t.Allows U s → t.Allows T s → t.own s ≡ v → IsAsked (t.question U n) (t.at U n s)

  -- what is reached from a table that is reached
  onward : (T U W : t.Table) → TableReaches t T U → TableReaches t U W → TableReaches t T W
  onward T U W x here = x
  onward T U W x (answered y q b) = answered (onward T U _ x y) q b

  narrowed : (T U : t.Table) (v : t.Values) (n : t.Nested) (f : t.Fact) → TableReaches t T U → Narrows t T U → IsNested T v n f → IsNested U v n f
  narrowed T U v n f reach narrow i = record {
    determined = λ s r a b e. i.determined s r (narrow.allows s a) (narrow.allows r b) e;
    is = λ s a e. i.is s (narrow.allows s a) e;
    asked = λ W s z m x y a b e. i.asked W s (onward T U W reach z) m x y a (narrow.allows s b) e;
  }

  pub all_narrowed : (T U : t.Table) (v : t.Values) (ns : List t.Nested) (fs : List t.Fact) → TableReaches t T U → Narrows t T U → Pairwise (IsNested T v) ns fs → Pairwise (IsNested U v) ns fs
  all_narrowed T U v [] [] reach narrow p = tt
  all_narrowed T U v (n ∷ ns) (f ∷ fs) reach narrow p = (narrowed T U v n f reach narrow p.0, all_narrowed T U v ns fs reach narrow p.1)
  all_narrowed T U v [] (f ∷ fs) reach narrow p = absurd p
  all_narrowed T U v (n ∷ ns) [] reach narrow p = absurd p

  -- terms that the table allows, at these values
  solution : (T : t.Table) (v : t.Values) → t.Made T → k.IsClosed (k.shape T) → (s : t.Assignment) × t.Allows T s × (t.own s ≡ v)
  solution T v m c = closing.free T m c v

  says : (T : t.Table) (v : t.Values) (n : t.Nested) (f : t.Fact) (a : Option Response) → t.Made T → k.IsClosed (k.shape T) → k.IsApart (k.shape T) v → IsNested T v n f → P (t.question T n) a → Says f a
  says T v n f a m c d i p =
      let x = solution T v m c in
      let apart = subst (k.IsApart (k.shape T)) (sym x.2) d in
      record {
        question = t.question T n;
        values = t.at T n x.0;
        asked = i.asked T x.0 here m c i.determined x.1 x.1 x.2;
        closed = closing.closed T n m c i.determined;
        apart = closing.apart T n c i.determined x.0 x.1 apart;
        fact = laws.instance T n x.0 x.1 ∙ i.is x.0 x.1 x.2;
        says = p;
      }

  -- an answer without values is never refused by a table
  goes : (T : t.Table) (v : t.Values) (n : t.Nested) (r : Response) → t.Made T → k.IsClosed (k.shape T) → k.IsApart (k.shape T) v → t.has_values r ≡ false → t.apply T n r ≡ None → ⊥
  goes T v n r m c d b e =
      let x = solution T v m c in
      let apart = closing.tells T x.0 (subst (k.IsApart (k.shape T)) (sym x.2) d) x.1 in
      let g = laws.apply_keeps T n r x.0 apart (closing.knows T n) (laws.agrees r b (t.at T n x.0)) in
      no g.table (sym e ∙ g.is)
    where
      no : (U : t.Table) → None ≡ Some U → ⊥
      no U q = cc

  -- how a round ends that is not refused
  pub record Lasts (T : t.Table) (fs : List t.Fact) (o : Round (operations t)) : Type 0 where
    pub narrows : Narrows t T o.table
    pub shape : k.shape o.table ≡ k.shape T
    pub changed : o.changed ≡ false
    pub each : Every SaysSome fs
    pub left : (Every SaysYes fs × (o.left ≡ [])) ⊎ (SomeOf SaysMaybe fs × (n : t.Nested) × (ns : List t.Nested) × (o.left ≡ n ∷ ns))

  abbrev pub RoundEnds : t.Table → List t.Fact → Option (Round (operations t)) → Type 0
  RoundEnds T fs o = ((o ≡ None) × SomeOf (λ f. Says f None) fs) ⊎ ((x : Round (operations t)) × (o ≡ Some x) × Lasts T fs x)

  or-both : (a b : Bool) → a ≡ false → b ≡ false → (a || b) ≡ false
  or-both a b e f = ap (λ x. x || b) e ∙ f

  module _ (bare : (q : Question) (v : t.Values) (a : Option Response) → IsAsked q v → k.IsClosed (k.shape_of q) → k.IsApart (k.shape_of q) v → P q a → IsBare t a) (v : t.Values) where
    -- a definite yes drops the goal
    dropped : (T U : t.Table) (f : t.Fact) (fs : List t.Fact) (o : Option (Round (operations t))) → Narrows t T U → k.shape U ≡ k.shape T → SaysYes f → RoundEnds U fs o → RoundEnds T (f ∷ fs) o
    dropped T U f fs o narrow shape y (inl x) = inl (x.0, inr x.1)
    dropped T U f fs o narrow shape y (inr x) = inr (
      x.0,
      x.1,
      record {
        narrows = record { made = x.2.narrows.made; allows = λ s a. narrow.allows s (x.2.narrows.allows s a) };
        shape = x.2.shape ∙ shape;
        changed = x.2.changed;
        each = ((y.0, y.1), x.2.each);
        left = by x.2.left;
      },
    )
      where
        by : (Every SaysYes fs × (x.0.left ≡ [])) ⊎ (SomeOf SaysMaybe fs × (n : t.Nested) × (ns : List t.Nested) × (x.0.left ≡ n ∷ ns))
            → (Every SaysYes (f ∷ fs) × (x.0.left ≡ [])) ⊎ (SomeOf SaysMaybe (f ∷ fs) × (n : t.Nested) × (ns : List t.Nested) × (x.0.left ≡ n ∷ ns))
        by (inl z) = inl ((y, z.0), z.1)
        by (inr z) = inr (inr z.0, z.1, z.2, z.3)

    -- another answer keeps it
    stays : (T U : t.Table) (n : t.Nested) (r : Response) (f : t.Fact) (fs : List t.Fact) (x o : Option (Round (operations t))) → Narrows t T U → k.shape U ≡ k.shape T → t.has_values r ≡ false → Says f (Some r)
        → is_yes (operations t) r ≡ false → RoundEnds U fs x → Ends P (kept (operations t) n r x) o → RoundEnds T (f ∷ fs) o
    stays T U n r f fs None o narrow shape b y i (inl x) e = inl (sym e, inr x.1)
    stays T U n r f fs None o narrow shape b y i (inr x) e = absurd (cc)
    stays T U n r f fs (Some z) o narrow shape b y i (inl x) e = absurd (cc)
    stays T U n r f fs (Some z) o narrow shape b y i (inr x) e =
        let same : x.0 ≡ z = cc in
        inr (
          _,
          sym e,
          record {
            narrows = let y = subst (λ (u : Round (operations t)). Narrows t U u.table) same x.2.narrows in record { made = y.made; allows = λ s a. narrow.allows s (y.allows s a) };
            shape = ap (λ (u : Round (operations t)). k.shape u.table) (sym same) ∙ x.2.shape ∙ shape;
            changed = or-both (t.has_values r) z.changed b (ap (λ (u : Round (operations t)). u.changed) (sym same) ∙ x.2.changed);
            each = ((r, y), x.2.each);
            left = inr (inl (r, y, i), n, z.left, refl);
          },
        )

    abbrev Onward : List t.Nested → List t.Fact → Type 0
    Onward ns fs =
        (U : t.Table) (x : Option (Round (operations t))) → t.Made U → k.IsClosed (k.shape U) → k.IsApart (k.shape U) v → Pairwise (IsNested U v) ns fs → Ends P (round (operations t) ns U) x → RoundEnds U fs x

    pub one_round : (ns : List t.Nested) (fs : List t.Fact) (T : t.Table) (o : Option (Round (operations t))) → t.Made T → k.IsClosed (k.shape T) → k.IsApart (k.shape T) v → Pairwise (IsNested T v) ns fs
        → Ends P (round (operations t) ns T) o → RoundEnds T fs o
    one_round [] [] T o m c d p e = inr (_, sym e, record { narrows = record { made = m; allows = λ s a. a }; shape = refl; changed = refl; each = tt; left = inl (tt, refl) })
    one_round [] (f ∷ fs) T o m c d p e = absurd p
    one_round (n ∷ ns) [] T o m c d p e = absurd p
    one_round (n ∷ ns) (f ∷ fs) T o m c d p e = by (λ U x i a b q g. one_round ns fs U x i a b q g) e.0 e.1 e.2
      where
        yes : Onward ns fs → (r : Response) (U : t.Table) (b : Bool) → t.apply T n r ≡ Some U → Says f (Some r) → t.has_values r ≡ false → is_yes (operations t) r ≡ b
            → Ends P (judged (operations t) (round (operations t) ns) n r U b) o → RoundEnds T (f ∷ fs) o
        yes go r U true q y w i g =
            let narrow = laws.apply_narrows T U n r m q in
            let shape = closing.apply T U n r q in
            dropped T U f fs o narrow shape (r, y, i)
            (go U o narrow.made (subst k.IsClosed (sym shape) c) (subst (λ z. k.IsApart z v) (sym shape) d) (all_narrowed T U v ns fs (answered here q w) narrow p.1) g)
        yes go r U false q y w i g =
            let narrow = laws.apply_narrows T U n r m q in
            let shape = closing.apply T U n r q in
            let x = Ends-followed P (kept (operations t) n r) (round (operations t) ns U) o g in
            stays T U n r f fs x.0 o narrow shape w y i
            (go U x.0 narrow.made (subst k.IsClosed (sym shape) c) (subst (λ z. k.IsApart z v) (sym shape) d) (all_narrowed T U v ns fs (answered here q w) narrow p.1) x.1) x.2

        put : Onward ns fs → (r : Response) (U : Option t.Table) → t.apply T n r ≡ U → Says f (Some r) → t.has_values r ≡ false → Ends P (applied (operations t) (round (operations t) ns) n r U) o → RoundEnds T (f ∷ fs) o
        put go r None q y w g = absurd (goes T v n r m c d w q)
        put go r (Some U) q y w g = yes go r U (is_yes (operations t) r) q y w refl g

        by : Onward ns fs → (a : Option Response) → P (t.question T n) a → Ends P (replied (operations t) (round (operations t) ns) T n a) o → RoundEnds T (f ∷ fs) o
        by go None q g = inl (sym g, inl (says T v n f None m c d p.0 q))
        by go (Some r) q g =
            let y = says T v n f (Some r) m c d p.0 q in
            put go r (t.apply T n r) refl y (bare y.question y.values (Some r) y.asked y.closed y.apart y.says) g
