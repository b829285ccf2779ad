-- Pairs that an equation has related, from step to step.
use Rattle.std.proofs.Common.{◌≡◌, ℕ, suc, ◌+◌, ◌<◌, ◌≤◌, Bool, true, false, refl, ap, sym, ◌∙◌, arith, List, [], ◌∷◌, ◌++◌, length, length-append, subst, ◌⊎◌, inl, inr, if◌then◌else◌, eqb-true}
use Rattle.std.proofs.lemmas.List.{append_assoc}
use Rattle.type_terms.specs.Promised.Trees.{Trees, none, ◌+++◌}
use Rattle.type_terms.proofs.TreeLaws.{append-none}
use Rattle.type_terms.specs.Promised.Handles.{Entry, Keeps, types, trees_at}
use Rattle.type_terms.specs.Terms.{Lawful}
use Rattle.type_terms.specs.Promised.Handles.{ArgHeld, arg_trees}
use Rattle.type_terms.specs.Kept.{has-later, trees-later}
use Rattle.infer_table.specs.Constraints.{constraints_trees}
use Rattle.infer_table.specs.Content.{Table, content, Ready, Grows}
use Rattle.infer_table.specs.Equations.{EquationsHeld, SameSolutions, MakesProgress}
use Rattle.infer_table.specs.WellFormed.{is_numbered}
use Rattle.infer_table.specs.Unification.{TableTrees, table_trees, Worklist, onward, step}
use Rattle.infer_table.specs.Worklists.{equation_trees, worklist_on, worklist, RunReaches, RunStands}
use Rattle.std.specs.Prelude.{Option, Result, Ok, Err, OnOk, OnErr, nat_eq, cond, ◌&&◌}
use Rattle.std.specs.List.{list_any}
use Rattle.std.specs.HashSet.{HashSet, contains, Updates, IsUnchanged}
use Rattle.infer_table.specs.Growth.{grows-refl}
use Rattle.infer_table.specs.Related.{pair_eq, RestsIn, rest_none, rest_waiting, pair_trees, IsPairOfTypes, PairIsSettled, IsBegun, AreAbove, BegunBelow, AreBegun, Tracks, TracksOpen, Begins}
use Rattle.infer_table.specs.declared.terms.Equation.{Equation}
use Rattle.infer_table.specs.declared.related.Pair.{Pair}
use Rattle.infer_table.specs.declared.related.Begun.{Begun}
use Rattle.infer_table.specs.declared.related.Related.{Related}
use Rattle.infer_table.proofs.Places.{ArePairsOfTrees, arg-term, one-tree, ready-terms}
use Rattle.infer_table.proofs.RunFacts.{worklist-last}
use Rattle.infer_table.proofs.StepFacts.{drop-same, drop-advances}
use Rattle.infer_table.proofs.RelatedFacts.{IsNext, rests-on, rests-more, Leaves, step-leaves, Passes, passes, reaches-passed, same-passed}

-- ---- lists
pub worklist-length : (es : List Entry) (todo : List Equation) → length (worklist es todo) ≡ length todo
worklist-length es todo = let q = on todo [] in omega (arith, q)
  where
    on : (todo : List Equation) (w : Worklist) → length (worklist_on es todo w) ≡ length todo + length w
    on [] w = omega arith
    on (e ∷ todo) w = let q = on todo (equation_trees es e ∷ w) in omega (arith, q)

above-last : (n : ℕ) (xs : List Begun) (b : Begun) → AreAbove n (xs ++ b ∷ []) → AreAbove n xs × (n ≤ b.left)
above-last n [] b h = (tt, h.0)
above-last n (x ∷ xs) b h = let p = above-last n xs b h.1 in ((h.0, p.0), p.1)

last-above : (n : ℕ) (xs : List Begun) (b : Begun) → AreAbove n xs → n ≤ b.left → AreAbove n (xs ++ b ∷ [])
last-above n [] b h le = (le, tt)
last-above n (x ∷ xs) b h le = (h.0, last-above n xs b h.1 le)

-- ---- a step
-- the equation is replaced by others, for which it waits unless a lifetime was opened
module _ (es fs : List Entry) (kept : Keeps es fs) (t u : Table) (grows : Grows t u) (e : Trees × Trees) (w v ps : Worklist) (split : v ≡ ps ++ w) (next : IsNext (content es t.values) (content fs u.values))
    (adds : (added : Trees) × (constraints_trees fs u.constraints ≡ constraints_trees es t.constraints +++ added)) (rests : u.region_vars ≡ t.region_vars → RestsIn fs u ps (e ∷ [])) where
  pair-later : (p : Pair) → IsPairOfTypes es p → pair_trees fs p ≡ pair_trees es p
  pair-later p h = ap (λ x. (x, trees_at fs p.right)) (trees-later es fs kept types p.left h.0) ∙ ap (λ x. (trees_at es p.left, x)) (trees-later es fs kept types p.right h.1)

  held-later : (p : Pair) → IsPairOfTypes es p → IsPairOfTypes fs p
  held-later p h = (has-later es fs kept types p.left h.0, has-later es fs kept types p.right h.1)

  settled-on : (p : Pair) → PairIsSettled es t p → PairIsSettled fs u p
  settled-on p h = record {
    held = held-later p h.held;
    rests = subst (λ (q : Trees × Trees). RestsIn fs u [] (q ∷ [])) (sym (pair-later p h.held))
        (rests-on (content es t.values) (content fs u.values) next (constraints_trees es t.constraints) (constraints_trees fs u.constraints) adds [] [] (λ f xs ys q. absurd (not-in-none xs ys f q)) (pair_trees es p ∷ []) h.rests);
  }
    where
      not-in-none : (xs ys : Worklist) (f : Trees × Trees) → [] ≡ xs ++ f ∷ ys → ⊥
      not-in-none [] ys f q = cc
      not-in-none (x ∷ xs) ys f q = cc

  same-lifetimes : (n : ℕ) → n ≤ t.region_vars → n ≡ u.region_vars → (n ≡ t.region_vars) × (u.region_vars ≡ t.region_vars)
  same-lifetimes n p r = let g = grows.region_vars_kept in (omega (arith, p, g, r), omega (arith, p, g, r))

  each-rests : (before : Worklist) → RestsIn fs u ps (e ∷ []) → (f : Trees × Trees) (xs ys : Worklist) → e ∷ before ≡ xs ++ f ∷ ys → RestsIn fs u (ps ++ before) (f ∷ [])
  each-rests before r f [] ys q = subst (λ (z : Trees × Trees). RestsIn fs u (ps ++ before) (z ∷ [])) (first q) (rests-more (content fs u.values) (constraints_trees fs u.constraints) ps before (e ∷ []) r)
    where
      first : {a b : Trees × Trees} {m n : Worklist} → ◌≡◌ {A = Worklist} (a ∷ m) (b ∷ n) → a ≡ b
      first q = cc
  each-rests before r f (x ∷ xs) ys q = rest_waiting (ps ++ xs) ys f.0 f.1 (ap (λ z. ps ++ z) (behind q) ∙ sym (append_assoc ps xs (f ∷ ys))) rest_none
    where
      behind : {a b : Trees × Trees} {m n : Worklist} → ◌≡◌ {A = Worklist} (a ∷ m) (b ∷ n) → m ≡ n
      behind q = cc

  begun-on : (b : Begun) → IsBegun es t (e ∷ w) b → b.left < suc (length w) → IsBegun fs u v b
  begun-on b h lt = by h.before h.list h.rests
    where
      by : (before : Worklist) → e ∷ w ≡ before ++ h.after → (b.lifetimes ≡ t.region_vars → RestsIn es t before (pair_trees es b.pair ∷ [])) → IsBegun fs u v b
      by [] q f = let n = ap length q in let m = h.left in absurd (omega (arith, n, m, lt))
      by (x ∷ before) q f =
          let first : e ≡ x = cc in
          let behind : w ≡ before ++ h.after = cc in
          record {
            before = ps ++ before;
            after = h.after;
            list = split ∙ ap (λ z. ps ++ z) behind ∙ sym (append_assoc ps before h.after);
            left = h.left;
            lifetimes = let p = h.lifetimes in let g = grows.region_vars_kept in omega (arith, p, g);
            held = held-later b.pair h.held;
            rests = λ r.
                let same = same-lifetimes b.lifetimes h.lifetimes r in
                subst (λ (z : Trees × Trees). RestsIn fs u (ps ++ before) (z ∷ [])) (sym (pair-later b.pair h.held))
                (rests-on (content es t.values) (content fs u.values) next (constraints_trees es t.constraints) (constraints_trees fs u.constraints) adds (e ∷ before) (ps ++ before) (each-rests before (rests same.1)) (pair_trees es b.pair ∷ [])
                (subst (λ (z : Trees × Trees). RestsIn es t (z ∷ before) (pair_trees es b.pair ∷ [])) (sym first) (f same.0)));
          }

  all-on : (xs : List Begun) → AreBegun es t (e ∷ w) xs → BegunBelow (suc (length w)) xs → AreBegun fs u v xs
  all-on [] h lt = tt
  all-on (x ∷ xs) h lt = (begun-on x h.0 lt.0, h.1, all-on xs h.2 lt.1)

  pub tracks-on : (r : Related) → TracksOpen es t (e ∷ w) r → Tracks fs u v r
  tracks-on r h = record { settled = λ p is. settled-on p (h.tracked.settled p is); begun = all-on r.begun.items h.tracked.begun h.undone }

  -- the equation itself is begun
  begun-new : (p : Pair) → IsPairOfTypes es p → pair_trees es p ≡ e → IsBegun fs u v (record { pair = p; left = length w; lifetimes = t.region_vars })
  begun-new p h is = record {
    before = ps;
    after = w;
    list = split;
    left = refl;
    lifetimes = grows.region_vars_kept;
    held = held-later p h;
    rests = λ q. subst (λ (z : Trees × Trees). RestsIn fs u ps (z ∷ [])) (sym (pair-later p h ∙ is)) (rests (sym q));
  }

  below-above : (xs : List Begun) (b : Begun) → AreBegun fs u v xs → BegunBelow (suc b.left) xs → IsBegun fs u v b → AreBegun fs u v (xs ++ b ∷ [])
  below-above [] b h lt g = (g, tt, tt)
  below-above (x ∷ xs) b h lt g = let p = lt.0 in (h.0, last-above x.left xs b h.1 (omega (arith, p)), below-above xs b h.2 lt.1 g)

  pub tracks-begun : (q : Equation) → equation_trees es q ≡ e → ArgHeld es q.left → ArgHeld es q.right → (old new : Related) → TracksOpen es t (e ∷ w) old → new.settled ≡ old.settled → Begins q (length w) t.region_vars old.begun.items new.begun.items → Tracks fs u v new
  tracks-begun q is hl hr old new h same (inl nothing) =
      let k = tracks-on old h in
      record { settled = subst (λ s. (p : Pair) → contains pair_eq s p ≡ true → PairIsSettled fs u p) (sym same) k.settled; begun = subst (AreBegun fs u v) (sym nothing) k.begun }
  tracks-begun q is hl hr old new h same (inr (a, b, ea, eb, more)) =
      let k = tracks-on old h in
      let p : Pair = record { left = a.0; right = b.0 } in
      let held : IsPairOfTypes es p = (subst (ArgHeld es) ea hl, subst (ArgHeld es) eb hr) in
      let trees : pair_trees es p ≡ e = sym (ap (λ z. (arg_trees es z, arg_trees es q.right)) ea ∙ ap (λ z. (trees_at es a.0, arg_trees es z)) eb) ∙ is in
      record {
        settled = subst (λ s. (p : Pair) → contains pair_eq s p ≡ true → PairIsSettled fs u p) (sym same) k.settled;
        begun = subst (AreBegun fs u v) (sym more) (below-above old.begun.items (record { pair = p; left = length w; lifetimes = t.region_vars }) k.begun h.undone (begun-new p held trees));
      }

-- ---- the steps of the code
module _ (es fs : List Entry) (law : Lawful es) (kept : Keeps es fs) (t u : Table) (ready : Ready es t) (grows : Grows t u) (q : Equation) (hl : ArgHeld es q.left) (hr : ArgHeld es q.right) (todo left : List Equation) (found : Bool)
    (is : step (table_trees es t) (equation_trees es q) (worklist es todo) ≡ onward found (table_trees fs u) (worklist fs left)) where
  leaves : Leaves (table_trees es t) (arg_trees es q.left) (arg_trees es q.right) (worklist es todo) (onward found (table_trees fs u) (worklist fs left))
  leaves =
      subst (Leaves (table_trees es t) (arg_trees es q.left) (arg_trees es q.right) (worklist es todo)) is
      (step-leaves (table_trees es t) (arg_trees es q.left) (arg_trees es q.right) (worklist es todo) (ready-terms es law t ready) (one-tree (arg_trees es q.left) (arg-term es law q.left hl)) (one-tree (arg_trees es q.right) (arg-term es law q.right hr)))

  pub step-tracks : (old new : Related) → TracksOpen es t (equation_trees es q ∷ worklist es todo) old → new.settled ≡ old.settled → Begins q (length todo) t.region_vars old.begun.items new.begun.items → Tracks fs u (worklist fs left) new
  step-tracks old new h same b =
      tracks-begun es fs kept t u grows (equation_trees es q) (worklist es todo) (worklist fs left) leaves.0 leaves.1 leaves.2 leaves.3.constraints leaves.4 q refl hl hr old new h same
      (subst (λ (n : ℕ). Begins q n t.region_vars old.begun.items new.begun.items) (sym (worklist-length es todo)) b)

-- an equation that needs nothing done is left out
pub skip-tracks : (es : List Entry) (t : Table) (e : Trees × Trees) (w : Worklist) (r : Related) → RestsIn es t [] (e ∷ []) → TracksOpen es t (e ∷ w) r → Tracks es t w r
skip-tracks es t e w r h k = tracks-on es es (λ i x g. g) t t (grows-refl t) e w w [] refl (inl refl) (none, sym (append-none (constraints_trees es t.constraints))) (λ q. h) r k

-- ---- what is done
-- the last pair that was begun
module _ (es : List Entry) (t : Table) (w : Worklist) where
  begun-last : (xs : List Begun) (b : Begun) → AreBegun es t w (xs ++ b ∷ []) → AreBegun es t w xs × IsBegun es t w b
  begun-last [] b h = (tt, h.0)
  begun-last (x ∷ xs) b h = let p = begun-last xs b h.2 in ((h.0, (above-last x.left xs b h.1).0, p.0), p.1)

  -- where it is not done, none is
  pub all-below : (xs : List Begun) (b : Begun) → AreBegun es t w (xs ++ b ∷ []) → b.left < length w → BegunBelow (length w) (xs ++ b ∷ [])
  all-below [] b h lt = (lt, tt)
  all-below (x ∷ xs) b h lt = let p = (above-last x.left xs b h.1).1 in (omega (arith, p, lt), all-below xs b h.2 lt)

  -- where it is done, and no lifetime was opened since, it needs nothing done any more
  pub done-settled : (b : Begun) → IsBegun es t w b → length w ≤ b.left → b.lifetimes ≡ t.region_vars → PairIsSettled es t b.pair
  done-settled b h le r = record { held = h.held; rests = subst (λ (z : Worklist). RestsIn es t z (pair_trees es b.pair ∷ [])) (by h.before h.list) (h.rests r) }
    where
      by : (before : Worklist) → w ≡ before ++ h.after → before ≡ []
      by [] q = refl
      by (x ∷ xs) q =
          let n = ap length q in
          let m = h.left in
          let l = length-append xs h.after in
          absurd (omega (arith, n, m, le, l))

-- the list of what was begun, one pair after the other
module _ (es : List Entry) (t : Table) (w : Worklist) (old : Related) (b : Begun) (xs : List Begun) (h : Tracks es t w old) (is : old.begun.items ≡ xs ++ b ∷ []) where
  parts : AreBegun es t w xs × IsBegun es t w b
  parts = begun-last es t w xs b (subst (AreBegun es t w) is h.begun)

  -- it is not done, and stays
  pub stays-open : (new : Related) → new.settled ≡ old.settled → (ok : Bool) → new.begun.items ≡ (if ok then xs ++ b ∷ [] else xs) → b.left < length w → TracksOpen es t w new
  stays-open new same true e lt = record {
    tracked = record { settled = subst (λ s. (p : Pair) → contains pair_eq s p ≡ true → PairIsSettled es t p) (sym same) h.settled; begun = subst (AreBegun es t w) (sym e) (subst (AreBegun es t w) is h.begun) };
    undone = subst (BegunBelow (length w)) (sym e) (all-below es t w xs b (subst (AreBegun es t w) is h.begun) lt);
  }
  stays-open new same false e lt = record {
    tracked = record { settled = subst (λ s. (p : Pair) → contains pair_eq s p ≡ true → PairIsSettled es t p) (sym same) h.settled; begun = subst (AreBegun es t w) (sym e) parts.0 };
    undone = subst (BegunBelow (length w)) (sym e) (first xs (all-below es t w xs b (subst (AreBegun es t w) is h.begun) lt));
  }
    where
      first : (ys : List Begun) → BegunBelow (length w) (ys ++ b ∷ []) → BegunBelow (length w) ys
      first [] g = tt
      first (y ∷ ys) g = (g.0, first ys g.1)

  -- it is done
  pub is-done : (new : Related) → new.begun.items ≡ xs → length w ≤ b.left → b.lifetimes ≡ t.region_vars → ((p : Pair) → contains pair_eq new.settled p ≡ true → (contains pair_eq old.settled p ≡ true) ⊎ (p ≡ b.pair)) → Tracks es t w new
  is-done new e le r one = record { settled = λ p c. by p (one p c); begun = subst (AreBegun es t w) (sym e) parts.0 }
    where
      by : (p : Pair) → (contains pair_eq old.settled p ≡ true) ⊎ (p ≡ b.pair) → PairIsSettled es t p
      by p (inl c) = h.settled p c
      by p (inr q) = subst (PairIsSettled es t) (sym q) (done-settled es t w b parts.1 le r)

  -- it is not kept
  pub is-dropped : (new : Related) → new.settled ≡ old.settled → new.begun.items ≡ xs → Tracks es t w new
  is-dropped new same e = record { settled = subst (λ s. (p : Pair) → contains pair_eq s p ≡ true → PairIsSettled es t p) (sym same) h.settled; begun = subst (AreBegun es t w) (sym e) parts.0 }

pub no-items : (xs : List Begun) → length xs ≡ 0 → xs ≡ []
no-items [] e = refl
no-items (x ∷ xs) e = cc

-- nothing is begun
pub none-begun : (es : List Entry) (t : Table) (w : Worklist) (new : Related) → ((p : Pair) → contains pair_eq new.settled p ≡ true → PairIsSettled es t p) → new.begun.items ≡ [] → TracksOpen es t w new
none-begun es t w new s e = record { tracked = record { settled = s; begun = subst (AreBegun es t w) (sym e) tt }; undone = subst (BegunBelow (length w)) (sym e) tt }

-- a pair that is put into a set
pub settled-one : {S E : Type 0} (old new : HashSet Pair S) (pair : Pair) (r : Result Bool E) → OnOk r (Updates pair_eq old new pair true) → OnErr r (IsUnchanged old new) → (p : Pair) → contains pair_eq new p ≡ true
    → (contains pair_eq old p ≡ true) ⊎ (p ≡ pair)
settled-one old new pair (Ok ok) u e p h = by (nat_eq pair.left p.left) refl (nat_eq pair.right p.right) refl
  where
    by : (a : Bool) → nat_eq pair.left p.left ≡ a → (b : Bool) → nat_eq pair.right p.right ≡ b → (contains pair_eq old p ≡ true) ⊎ (p ≡ pair)
    by true x true y = inr (sym (ap (λ (n : ℕ). record { left = n; right = pair.right }) (eqb-true pair.left p.left x) ∙ ap (λ (n : ℕ). record { left = p.left; right = n }) (eqb-true pair.right p.right y)))
    by true x false y = inl (sym (u.0 p ∙ ap (λ z. cond (z && nat_eq pair.right p.right) true (contains pair_eq old p)) x ∙ ap (λ z. cond z true (contains pair_eq old p)) y) ∙ h)
    by false x b y = inl (sym (u.0 p ∙ ap (λ z. cond (z && nat_eq pair.right p.right) true (contains pair_eq old p)) x) ∙ h)
settled-one old new pair (Err x) u e p h = inl (subst (λ ks. list_any (pair_eq p) ks ≡ true) e h)

-- ---- an equation that is left out, in code
pairs-on : (es : List Entry) → Lawful es → (todo : List Equation) (w : Worklist) → EquationsHeld es todo → ArePairsOfTrees is_numbered w → ArePairsOfTrees is_numbered (worklist_on es todo w)
pairs-on es law [] w h g = g
pairs-on es law (e ∷ todo) w h g = pairs-on es law todo (equation_trees es e ∷ w) h.2 (one-tree (arg_trees es e.left) (arg-term es law e.left h.0), one-tree (arg_trees es e.right) (arg-term es law e.right h.1), g)

module _ (es : List Entry) (law : Lawful es) (t : Table) (ready : Ready es t) (todo : List Equation) (held : EquationsHeld es todo) (q : Equation) (hl : ArgHeld es q.left) (hr : ArgHeld es q.right)
    (rests : RestsIn es t [] (equation_trees es q ∷ [])) where
  one-pair : (w : Worklist) → ArePairsOfTrees is_numbered w → ArePairsOfTrees is_numbered (equation_trees es q ∷ w)
  one-pair w g = (one-tree (arg_trees es q.left) (arg-term es law q.left hl), one-tree (arg_trees es q.right) (arg-term es law q.right hr), g)

  all-pairs : ArePairsOfTrees is_numbered (equation_trees es q ∷ worklist es todo)
  all-pairs = one-pair (worklist es todo) (pairs-on es law todo [] held tt)

  passed : (w : Worklist) → ArePairsOfTrees is_numbered (equation_trees es q ∷ w) → Passes (table_trees es t) (equation_trees es q ∷ w) w
  passed w h = passes (table_trees es t) (ready-terms es law t ready) (equation_trees es q ∷ []) w rests h

  pub skip-stands : (end : Option TableTrees) → RunStands end es t (todo ++ q ∷ []) → RunStands end es t todo
  skip-stands end r =
      reaches-passed (table_trees es t) (ready-terms es law t ready) end (equation_trees es q ∷ worklist es todo) (worklist es todo) (passed (worklist es todo) all-pairs) all-pairs
      (subst (λ (w : Worklist). RunReaches end (table_trees es t) w) (worklist-last es todo q) r)

  pub skip-same : SameSolutions es t (todo ++ q ∷ []) es t todo
  skip-same = drop-same es t todo q (λ s g. (same-passed (table_trees es t) (ready-terms es law t ready) s (equation_trees es q ∷ []) [] (passed [] (one-pair [] tt)) (one-pair [] tt) g tt).0)

  pub skip-advances : MakesProgress es t (todo ++ q ∷ []) es t todo false
  skip-advances = drop-advances es t todo q t refl law ready hl
