-- Rounds in progress continue like the rounds.
use Rattle.std.proofs.Common.{◌≡◌, ℕ, suc, Bool, true, false, List, [], ◌∷◌, refl, sym, ◌∙◌, ap, append_assoc, Option, Some, None}
use Rattle.std.proofs.lemmas.List.{append-nil}
use Rattle.infer_table.specs.declared.certainty.Certainty.{Certainty}
use Rattle.infer_table.specs.declared.certainty.Certainty.TheVariants.{Yes, Maybe}
use Rattle.infer_table.specs.declared.certainty.MaybeCause.TheVariants.{Ambiguity, Overflow}
use Rattle.infer_table.specs.Certainties.{joined, unsettled}
use Rattle.goal_evaluator.specs.Script.{Script, done, ask, followed}
use Rattle.goal_evaluator.specs.Operations.{Operations, is_yes}
use Rattle.goal_evaluator.specs.Rounds.{Round, RoundAsking, kept, judged, applied, round, settled, next_round, rounds}
use Rattle.goal_evaluator.specs.OpenRounds.{SoFar, new_round, with_goal, behind, onward_from, rest_of_round, after_answer}
use Rattle.type_terms.proofs.BooleanBasics.{or-assoc, or-nothing as or-false}

-- ---- scripts that follow one another
pub followed-twice : {Q A X Y Z : Type 0} (f : Y → Script Q A Z) (g : X → Script Q A Y) (s : Script Q A X) → followed f (followed g s) ≡ followed (λ x. followed f (g x)) s
followed-twice f g (done x) = refl
followed-twice f g (ask q k) = ap (ask q) (λ i a. followed-twice f g (k a) i)

pub followed-alike : {Q A X Y : Type 0} (f g : X → Script Q A Y) → ((x : X) → f x ≡ g x) → (s : Script Q A X) → followed f s ≡ followed g s
followed-alike f g e (done x) = e x
followed-alike f g e (ask q k) = ap (ask q) (λ i a. followed-alike f g e (k a) i)

pub followed-done : {Q A X : Type 0} (f : X → Script Q A X) → ((x : X) → f x ≡ done x) → (s : Script Q A X) → followed f s ≡ s
followed-done f e (done x) = e x
followed-done f e (ask q k) = ap (ask q) (λ i a. followed-done f e (k a) i)

-- ---- what is put together

pub joined-assoc : (a b c : Certainty) → joined (joined a b) c ≡ joined a (joined b c)
joined-assoc Yes b c = refl
joined-assoc (Maybe x) Yes c = refl
joined-assoc (Maybe x) (Maybe y) Yes = refl
joined-assoc (Maybe Ambiguity) (Maybe y) (Maybe z) = refl
joined-assoc (Maybe Overflow) (Maybe y) (Maybe z) = refl

pub joined-yes : (a : Certainty) → joined a Yes ≡ a
joined-yes Yes = refl
joined-yes (Maybe x) = refl

module _ {Question Response : Type 0} (t : Operations Question Response) where
  -- each step of rounds that are under way is one of the rounds
  pub record GoesOn : Type 0 where
    -- the rounds begin so
    pub begins : (limit : ℕ) (ns : List t.Nested) (T : t.Table) → rounds t (suc limit) ns T ≡ rest_of_round t (new_round t limit) ns T
    -- the first goal is asked
    pub asks : (s : SoFar t) (n : t.Nested) (ns : List t.Nested) (T : t.Table) → rest_of_round t s (n ∷ ns) T ≡ ask (t.question T n) (after_answer t s T n ns)
    -- its answer refuses, cannot be applied, drops the goal, or keeps it
    pub refused : (s : SoFar t) (n : t.Nested) (ns : List t.Nested) (T : t.Table) → after_answer t s T n ns None ≡ done None
    pub unapplied : (s : SoFar t) (n : t.Nested) (ns : List t.Nested) (T : t.Table) (r : Response) → t.apply T n r ≡ None → after_answer t s T n ns (Some r) ≡ done None
    pub dropped : (s : SoFar t) (n : t.Nested) (ns : List t.Nested) (T U : t.Table) (r : Response) → t.apply T n r ≡ Some U → is_yes t r ≡ true
        → after_answer t s T n ns (Some r) ≡ rest_of_round t s ns U
    pub kept : (s : SoFar t) (n : t.Nested) (ns : List t.Nested) (T U : t.Table) (r : Response) → t.apply T n r ≡ Some U → is_yes t r ≡ false
        → after_answer t s T n ns (Some r) ≡ rest_of_round t (with_goal t s n r) ns U
    -- no goal is left in the round: it was the last one, or the next one begins, or there were too many
    pub settled : (s : SoFar t) (T : t.Table) → s.left ≡ [] → s.changed ≡ false → rest_of_round t s [] T ≡ done (Some (record { table = T; left = []; certainty = Yes }))
    pub unsure : (s : SoFar t) (n : t.Nested) (ns : List t.Nested) (T : t.Table) → s.left ≡ n ∷ ns → s.changed ≡ false
        → rest_of_round t s [] T ≡ done (Some (record { table = T; left = n ∷ ns; certainty = unsettled s.certainty }))
    pub overflows : (s : SoFar t) (T : t.Table) → s.changed ≡ true → s.limit ≡ 0 → rest_of_round t s [] T ≡ done (Some (record { table = T; left = s.left; certainty = Maybe Overflow }))
    pub again : (s : SoFar t) (limit : ℕ) (T : t.Table) → s.changed ≡ true → s.limit ≡ suc limit → rest_of_round t s [] T ≡ rest_of_round t (new_round t limit) s.left T

  abbrev Ended : Type 0
  Ended = RoundAsking t (Option (Round t))

  -- ---- the laws
  asks : (s : SoFar t) (n : t.Nested) (ns : List t.Nested) (T : t.Table) → rest_of_round t s (n ∷ ns) T ≡ ask (t.question T n) (after_answer t s T n ns)
  asks s n ns T = refl

  refused : (s : SoFar t) (n : t.Nested) (ns : List t.Nested) (T : t.Table) → after_answer t s T n ns None ≡ done None
  refused s n ns T = refl

  unapplied : (s : SoFar t) (n : t.Nested) (ns : List t.Nested) (T : t.Table) (r : Response) → t.apply T n r ≡ None → after_answer t s T n ns (Some r) ≡ done None
  unapplied s n ns T r e = ap (λ u. onward_from t s (applied t (round t ns) n r u)) e

  dropped : (s : SoFar t) (n : t.Nested) (ns : List t.Nested) (T U : t.Table) (r : Response) → t.apply T n r ≡ Some U → is_yes t r ≡ true
      → after_answer t s T n ns (Some r) ≡ rest_of_round t s ns U
  dropped s n ns T U r e y = ap (λ u. onward_from t s (applied t (round t ns) n r u)) e ∙ ap (λ b. onward_from t s (judged t (round t ns) n r U b)) y

  same-end : (T : t.Table) {l m : List t.Nested} {b c : Bool} {x y : Certainty} → l ≡ m → b ≡ c → x ≡ y
      → ◌≡◌ {A = Ended} (done (Some (record { table = T; left = l; changed = b; certainty = x }))) (done (Some (record { table = T; left = m; changed = c; certainty = y })))
  same-end T p q r = λ i. done (Some (record { table = T; left = p i; changed = q i; certainty = r i }))

  -- a goal that stays is the last of those that stay so far, or the first of those of the rest
  in-front : (s : SoFar t) (n : t.Nested) (r : Response) (o : Option (Round t)) → followed (behind t s) (kept t n r o) ≡ behind t (with_goal t s n r) o
  in-front s n r None = refl
  in-front s n r (Some o) =
      same-end o.table (sym (append_assoc s.left (n ∷ []) o.left)) (sym (or-assoc s.changed (t.has_values r) o.changed)) (sym (joined-assoc s.certainty (t.certainty r) o.certainty))

  kept-goal : (s : SoFar t) (n : t.Nested) (ns : List t.Nested) (T U : t.Table) (r : Response) → t.apply T n r ≡ Some U → is_yes t r ≡ false
      → after_answer t s T n ns (Some r) ≡ rest_of_round t (with_goal t s n r) ns U
  kept-goal s n ns T U r e y =
      ap (λ u. onward_from t s (applied t (round t ns) n r u)) e
      ∙ ap (λ b. onward_from t s (judged t (round t ns) n r U b)) y
      ∙ ap (followed (next_round t (rounds t s.limit)))
      (followed-twice (behind t s) (kept t n r) (round t ns U) ∙ followed-alike (λ o. followed (behind t s) (kept t n r o)) (behind t (with_goal t s n r)) (in-front s n r) (round t ns U))

  -- ---- the end of a round
  -- it ends with what it is so far
  nothing-more : (s : SoFar t) (T : t.Table) → behind t s (Some (record { table = T; left = []; changed = false; certainty = Yes })) ≡ done (Some (record { table = T; left = s.left; changed = s.changed; certainty = s.certainty }))
  nothing-more s T = same-end T (append-nil s.left) (or-false s.changed) (joined-yes s.certainty)

  ends : (s : SoFar t) (T : t.Table) → rest_of_round t s [] T ≡ settled t (rounds t s.limit) s.left T s.certainty s.changed
  ends s T = ap (followed (next_round t (rounds t s.limit))) (nothing-more s T)

  -- a round of which nothing is done yet
  untouched : (limit : ℕ) (o : Option (Round t)) → behind t (new_round t limit) o ≡ done o
  untouched limit None = refl
  untouched limit (Some o) = refl

  begins : (limit : ℕ) (ns : List t.Nested) (T : t.Table) → rounds t (suc limit) ns T ≡ rest_of_round t (new_round t limit) ns T
  begins limit ns T = ap (followed (next_round t (rounds t limit))) (sym (followed-done (behind t (new_round t limit)) (untouched limit) (round t ns T)))

  settled-now : (s : SoFar t) (T : t.Table) → s.left ≡ [] → s.changed ≡ false → rest_of_round t s [] T ≡ done (Some (record { table = T; left = []; certainty = Yes }))
  settled-now s T e f = ends s T ∙ ap (λ b. settled t (rounds t s.limit) s.left T s.certainty b) f ∙ ap (λ l. settled t (rounds t s.limit) l T s.certainty false) e

  unsure : (s : SoFar t) (n : t.Nested) (ns : List t.Nested) (T : t.Table) → s.left ≡ n ∷ ns → s.changed ≡ false
      → rest_of_round t s [] T ≡ done (Some (record { table = T; left = n ∷ ns; certainty = unsettled s.certainty }))
  unsure s n ns T e f = ends s T ∙ ap (λ b. settled t (rounds t s.limit) s.left T s.certainty b) f ∙ ap (λ l. settled t (rounds t s.limit) l T s.certainty false) e

  changed : (s : SoFar t) (T : t.Table) → s.changed ≡ true → rest_of_round t s [] T ≡ rounds t s.limit s.left T
  changed s T e = ends s T ∙ ap (λ b. settled t (rounds t s.limit) s.left T s.certainty b) e

  overflows : (s : SoFar t) (T : t.Table) → s.changed ≡ true → s.limit ≡ 0 → rest_of_round t s [] T ≡ done (Some (record { table = T; left = s.left; certainty = Maybe Overflow }))
  overflows s T e z = changed s T e ∙ ap (λ m. rounds t m s.left T) z

  again : (s : SoFar t) (limit : ℕ) (T : t.Table) → s.changed ≡ true → s.limit ≡ suc limit → rest_of_round t s [] T ≡ rest_of_round t (new_round t limit) s.left T
  again s limit T e z = changed s T e ∙ ap (λ m. rounds t m s.left T) z ∙ begins limit s.left T

  pub rounds-go-on : GoesOn
  rounds-go-on = record {
    begins = begins;
    asks = asks;
    refused = refused;
    unapplied = unapplied;
    dropped = dropped;
    kept = kept-goal;
    settled = settled-now;
    unsure = unsure;
    overflows = overflows;
    again = again;
  }
