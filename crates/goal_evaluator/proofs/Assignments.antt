-- A reading is an assignment with a renaming of placeholders. So the laws of unification, which are about assignments, apply to
-- the tables that equations leave.
use Rattle.std.proofs.Common.{◌≡◌, ℕ, zero, suc, ◌+◌, ◌<◌, ◌≤◌, arith, Bool, true, false, ◌&&◌, List, [], ◌∷◌, refl, sym, ◌∙◌, ap, subst, Option, Some, None, if◌then◌else◌, ◌⊎◌, inl, inr}
use Rattle.std.specs.Prelude.{ltb, max}
use Rattle.std.proofs.lemmas.Bool.Decides.{nat_tests}
use Rattle.type_terms.specs.Promised.Label.{Label, Sort, of_type, of_const, of_lifetime, infer, param, placeholder, canonical, bound, static, dynamic, principal, auto_trait, predicate}
use Rattle.type_terms.specs.Promised.Trees.{Trees, none, tree, leaf, ◌+++◌, erase_label, erase, sort_of, is_sort, IsA}
use Rattle.type_terms.specs.Codes.{same_label}
use Rattle.type_terms.proofs.Matching.{same-label-sound}
use Rattle.type_terms.specs.Made.{terms, is_made}
use Rattle.type_terms.proofs.Made.{false-true, left, right, both}
use Rattle.infer_table.specs.Solutions.{Assignment, Binding, IsSorted, Solves, instance, tree_of, HasValues, AllValued, value_in, resolved}
use Rattle.infer_table.specs.Content.{IsProper, AllProper, rank}
use Rattle.infer_table.specs.Equations.{unbound_below, unbound_in, one_if_none}
use Rattle.infer_table.specs.Unification.{TableTrees, with_binding, Worklist, unified}
use Rattle.infer_table.specs.WellFormed.{AllSame}
use Rattle.infer_table.proofs.SolutionLaws.{is_sort-equal as is-sort}
use Rattle.infer_table.proofs.CanonicalLaws.{same_label-self}
use Rattle.infer_table.proofs.ContentFacts.{AllSorted}
use Rattle.infer_table.proofs.Places.{Place, in_terms, in_object, in_autos, AreTrees, IsOneTree, AllTrees, IsOfTrees, ArePairsOfTrees, trees-of, made-of, trees-proper}
use Rattle.infer_table.proofs.WellFacts.{label_in, is-a, lifetime-node}
use Rattle.infer_table.proofs.SolvableLaws.{IsTidy, completed, instance-completed, tidy-completion, itself, instance-itself, resolved-proper}
use Rattle.infer_table.proofs.SolveFacts.{Answers, unified-answers}
use Rattle.goal_evaluator.specs.Lists.{Every}
use Rattle.goal_evaluator.specs.Instances.{read_with, is_place, as_place, term_at}
use Rattle.goal_evaluator.specs.Content.{ChosenTerms, standing, UnknownStands}
use Rattle.goal_evaluator.specs.Equations.{AreOne, Hold, IsValue, IsTermPair, HasLifetimes, IsMadeTable, IsAfter, IsApart, EquationsNarrow, EquationsKeep, EquationsStayMade}
use Rattle.goal_evaluator.proofs.Reading.{Carries, carried-at, read-lifetime}
use Rattle.goal_evaluator.proofs.Questions.{read-resolved, is-place}
use Rattle.type_terms.proofs.TermBasics.{tree-cong}

-- ---- tables and equations, as the laws of unification have them
pub all-valued : (good : Label → Bool) (bs : List Binding) → Every (IsValue good) bs → AllValued bs
all-valued good [] h = tt
all-valued good (b ∷ bs) h = (h.0.sort, all-valued good bs h.1)

module _ (good : Label → Bool) (opens : HasLifetimes good) where
  value-tree : (b : Binding) → IsValue good b → IsOneTree good b.value
  value-tree b i = (i.single, trees-of good terms b.value i.made)

  all-sorted : (bs : List Binding) → Every (IsValue good) bs → AllSorted bs
  all-sorted [] h = tt
  all-sorted (b ∷ bs) h = (subst (λ k. IsA k b.value) h.0.same_sort (is-a good opens b.value (value-tree b h.0)), all-sorted bs h.1)

  all-trees : (bs : List Binding) → Every (IsValue good) bs → AllTrees good bs
  all-trees [] h = tt
  all-trees (b ∷ bs) h = ((value-tree b h.0).1, all-trees bs h.1)

  all-proper : (bs : List Binding) → AllTrees good bs → AllProper bs
  all-proper [] h = tt
  all-proper (b ∷ bs) h = (trees-proper good in_terms b.value h.0, all-proper bs h.1)

  of-trees : (t : TableTrees) → IsMadeTable good t → IsOfTrees good t
  of-trees t m = record { valued = all-valued good t.bindings m.values; acyclic = m.acyclic; sorted = all-sorted t.bindings m.values; terms = all-trees t.bindings m.values }

  tidy : (t : TableTrees) → IsOfTrees good t → IsTidy t.bindings
  tidy t h = record { valued = h.valued; acyclic = h.acyclic; sorted = h.sorted; proper = all-proper t.bindings h.terms }

  of-pairs : (todo : Worklist) → Every (IsTermPair good) todo → ArePairsOfTrees good todo
  of-pairs [] h = tt
  of-pairs (e ∷ todo) h = ((h.0.0.single, trees-of good terms e.0 h.0.0.made), (h.0.1.single, trees-of good terms e.1 h.0.1.made), of-pairs todo h.1)

  -- the variables of the values
  abbrev AllKnown : List Binding → Type 0
  AllKnown bs = Every (λ b. good (infer b.sort b.var) ≡ true) bs

  all-known : (bs : List Binding) → Every (IsValue good) bs → AllKnown bs
  all-known [] h = tt
  all-known (b ∷ bs) h = (h.0.known, all-known bs h.1)

  one-value : (k : Sort) (v : ℕ) (x : Trees) → HasValues k → good (infer k v) ≡ true → IsA k x → AreTrees good in_terms x → IsValue good (record { sort = k; var = v; value = x })
  one-value k v none h g i a = absurd i
  one-value of_type v (tree l c o) h g i a = record { sort = tt; known = g; single = i.1; same_sort = i.0; made = made-of good terms (tree l c o) a }
  one-value of_const v (tree l c o) h g i a = record { sort = tt; known = g; single = i.1; same_sort = i.0; made = made-of good terms (tree l c o) a }
  one-value of_lifetime v (tree l c o) h g i a = absurd h

  all-values : (bs : List Binding) → AllValued bs → AllSorted bs → AllTrees good bs → AllKnown bs → Every (IsValue good) bs
  all-values [] h i a g = tt
  all-values (b ∷ bs) h i a g = (one-value b.sort b.var b.value h.0 g.0 i.0 a.0, all-values bs h.1 i.1 a.1 g.1)

  -- ---- unification from a table whose unknowns are counted
  module _ (t : TableTrees) (made : IsMadeTable good t) where
    abbrev limit : Sort → ℕ
    limit of_type = t.ty_vars
    limit of_const = t.const_vars
    limit of_lifetime = zero

    within : (k : Sort) (v : ℕ) → HasValues k → good (infer k v) ≡ true → v < limit k
    within of_type v h g = made.counted.types v g
    within of_const v h g = made.counted.consts v g
    within of_lifetime v h g = absurd h

    -- what stays while equations are solved
    abbrev IsOver : TableTrees → Type 0
    IsOver u = (u.ty_vars ≡ t.ty_vars) × (u.const_vars ≡ t.const_vars) × AllKnown u.bindings

    stays : (u w : TableTrees) → w.bindings ≡ u.bindings → w.ty_vars ≡ u.ty_vars → w.const_vars ≡ u.const_vars → IsOver u → IsOver w
    stays u w e p q i = (p ∙ i.0, q ∙ i.1, subst AllKnown (sym e) i.2)

    max-stays : (n m v : ℕ) → n ≡ m → v < m → max n (v + 1) ≡ m
    max-stays n m v e h = grind (arith, nat_tests, e, h)

    keeps : (u : TableTrees) (k : Sort) (v : ℕ) (x : Trees) → HasValues k → IsOver u → good (infer k v) ≡ true → IsA k x → rank x ≤ v → IsOver (with_binding u k v x)
    keeps u of_type v x h i g a r = (max-stays u.ty_vars t.ty_vars v i.0 (within of_type v h g), i.1, (g, i.2))
    keeps u of_const v x h i g a r = (i.0, max-stays u.const_vars t.const_vars v i.1 (within of_const v h g), (g, i.2))
    keeps u of_lifetime v x h i g a r = absurd h

    few-below : (n : ℕ) (k : Sort) (bs : List Binding) → unbound_below n k bs ≤ n
    few-below zero k bs = omega arith
    few-below (suc n) k bs = let p = few-below n k bs in let q = one (value_in bs k n) in omega (arith, p, q)
      where
        one : (o : Option Trees) → one_if_none o ≤ 1
        one None = omega arith
        one (Some x) = omega arith

    few : unbound_below t.ty_vars of_type t.bindings + unbound_below t.const_vars of_const t.bindings ≤ unbound_in t.bindings + t.ty_vars + t.const_vars
    few = let p = few-below t.ty_vars of_type t.bindings in let q = few-below t.const_vars of_const t.bindings in omega (arith, p, q)

    abbrev Answered : Worklist → Option TableTrees → Type 0
    Answered todo o = Answers good opens limit within IsOver stays keeps t todo o

    answered : (todo : Worklist) → ArePairsOfTrees good todo → Answered todo (unified t todo)
    answered todo h = unified-answers good opens limit within IsOver stays keeps t todo (of-trees t made) (refl, refl, all-known t.bindings made.values) h few

    made-after : (u : TableTrees) → IsOfTrees good u → IsOver u → IsAfter good t u
    made-after u h i = record {
      made = record {
        acyclic = h.acyclic;
        values = all-values u.bindings h.valued h.sorted h.terms i.2;
        counted = record { types = λ v g. subst (λ n. v < n) (sym i.0) (made.counted.types v g); consts = λ v g. subst (λ n. v < n) (sym i.1) (made.counted.consts v g) };
      };
      ty_vars = i.0;
      const_vars = i.1;
    }

-- ---- what holds where what is left holds: by the assignment that gives each unknown what it resolves to
erased-carries : (s : ChosenTerms) (l : Label) → Carries (standing s) (standing s) l (erase_label l)
erased-carries s (infer of_lifetime v) = record { stands = refl; erased = λ e. refl }
erased-carries s (param of_lifetime v) = record { stands = refl; erased = λ e. refl }
erased-carries s (placeholder of_lifetime v) = record { stands = refl; erased = λ e. refl }
erased-carries s (canonical of_lifetime v) = record { stands = refl; erased = λ e. refl }
erased-carries s (bound of_lifetime k v) = record { stands = refl; erased = λ e. refl }
erased-carries s l = record { stands = refl; erased = λ e. refl }

read-erased : (s : ChosenTerms) (t : Trees) → read_with (standing s) (erase t) ≡ read_with (standing s) t
read-erased s none = refl
read-erased s (tree l c o) =
    carried-at (standing s) (standing s) l (erase_label l) (read_with (standing s) c) (read_with (standing s) (erase c)) (read_with (standing s) o) (read_with (standing s) (erase o)) (standing s l) refl
    (erased-carries s l) (read-erased s c) (read-erased s o)

module _ (good : Label → Bool) (opens : HasLifetimes good) (s : ChosenTerms) (u : TableTrees) (values : Every (IsValue good) u.bindings) (ok : IsOfTrees good u) (hold : Hold s u) where
  abbrev read : Trees → Trees
  read t = read_with (standing s) t

  abbrev resolving : Assignment
  resolving = completed u.bindings itself

  read-instance : (t : Trees) → IsProper t → read (instance resolving t) ≡ read t
  read-instance t p =
      let tidied = tidy good opens u ok in
      ap read (instance-completed u.bindings itself tidied (λ k v. refl) t p ∙ instance-itself (resolved u.bindings t) (resolved-proper u.bindings t tidied.proper p))
      ∙ read-erased s (resolved u.bindings t) ∙ read-resolved good s u.bindings values hold t

  variable-reads : (k : Sort) (v : ℕ) → HasValues k → read (tree_of (resolving k v)) ≡ tree_of (s.unknowns k v)
  variable-reads of_type v h = read-instance (leaf (infer of_type v)) (refl, tt)
  variable-reads of_const v h = read-instance (leaf (infer of_const v)) (refl, tt)
  variable-reads of_lifetime v h = absurd h

  solves : Solves resolving u.bindings
  solves = (tidy-completion u.bindings itself (tidy good opens u ok) (λ k v. refl)).solves

  all-stand : (bs : List Binding) → AllValued bs → AllTrees good bs → Solves resolving bs → Every (UnknownStands s) bs
  all-stand [] h a g = tt
  all-stand (b ∷ bs) h a g =
      (sym (variable-reads b.sort b.var h.0) ∙ ap read g.0 ∙ read-instance b.value (trees-proper good in_terms b.value a.0), all-stand bs h.1 a.1 g.1)

  all-one : (todo : Worklist) → ArePairsOfTrees good todo → AllSame resolving todo → Every (AreOne s) todo
  all-one [] h a = tt
  all-one (e ∷ todo) h a =
      (sym (read-instance e.0 (trees-proper good in_terms e.0 h.0.1)) ∙ ap read a.0 ∙ read-instance e.1 (trees-proper good in_terms e.1 h.1.1), all-one todo h.2 a.1)

unified_left : (good : Label → Bool) (t : TableTrees) (todo : Worklist) (u : TableTrees) → HasLifetimes good → IsMadeTable good t → Every (IsTermPair good) todo → unified t todo ≡ Some u
    → IsAfter good t u × ((s : ChosenTerms) → Hold s u → Hold s t × Every (AreOne s) todo)
unified_left good t todo u opens m p e =
    let ps = of-pairs good opens todo p in
    let f : Answered good opens t m todo (Some u) = subst (Answered good opens t m todo) e (answered good opens t m todo ps) in
    let after = made-after good opens t m u f.0 f.3 in
    let old = of-trees good opens t m in (
      after,
      λ s h. let z = f.2 (resolving good opens s u after.made.values f.0 h) (solves good opens s u after.made.values f.0 h) in
          (all-stand good opens s u after.made.values f.0 h t.bindings old.valued old.terms z.0, all-one good opens s u after.made.values f.0 h todo ps z.1),
    )

-- ---- what holds is left: by the assignment that gives the places in the terms other names, and the placeholders their own
abbrev doubled : ℕ → ℕ
doubled zero = zero
doubled (suc n) = suc (suc (doubled n))

abbrev half : ℕ → ℕ
half zero = zero
half (suc zero) = zero
half (suc (suc n)) = suc (half n)

abbrev is_odd : ℕ → Bool
is_odd zero = false
is_odd (suc zero) = true
is_odd (suc (suc n)) = is_odd n

half-even : (n : ℕ) → half (doubled n) ≡ n
half-even zero = refl
half-even (suc n) = ap suc (half-even n)

half-odd : (n : ℕ) → half (suc (doubled n)) ≡ n
half-odd zero = refl
half-odd (suc n) = ap suc (half-odd n)

even : (n : ℕ) → is_odd (doubled n) ≡ false
even zero = refl
even (suc n) = even n

odd : (n : ℕ) → is_odd (suc (doubled n)) ≡ true
odd zero = refl
odd (suc n) = odd n

-- a place: a parameter or a placeholder
abbrev IsPlaceLabel : Sort → Label → Type 0
IsPlaceLabel k l = ((i : ℕ) × (l ≡ param k i)) ⊎ ((i : ℕ) × (l ≡ placeholder k i))

place-leaf : (k : Sort) (t : Trees) → is_place k t ≡ true → (t ≡ leaf (label_in t)) × IsPlaceLabel k (label_in t)
place-leaf k none h = absurd (false-true h)
place-leaf k (tree (param j i) none none) h = (refl, inl (i, ap (λ z. param z i) (is-sort j k h)))
place-leaf k (tree (placeholder j i) none none) h = (refl, inr (i, ap (λ z. placeholder z i) (is-sort j k h)))
place-leaf k t h = absurd (false-true h)

some-is : (m j : ℕ) → Some m ≡ Some j → m ≡ j
some-is m j e = cc

last-or-below : (i m : ℕ) → i < suc m → (i < m) ⊎ (i ≡ m)
last-or-below zero zero h = inr refl
last-or-below zero (suc m) h = inl (omega arith)
last-or-below (suc i) zero h = absurd (omega (arith, h))
last-or-below (suc i) (suc m) h = elim (last-or-below i m (omega (arith, h))) [ inl x ↦ inl (omega (arith, x)) | inr y ↦ inr (ap suc y) ]

-- another name, if there is one
abbrev renamed : Option ℕ → Sort → Label → Label
renamed None k l = l
renamed (Some j) k l = placeholder k j

abbrev named : Sort → Bool → ℕ → Label
named k false i = param k i
named k true i = placeholder k i

module _ (good : Label → Bool) (s : ChosenTerms) (n : ℕ) where
  -- what a placeholder is read as
  abbrev seat : Sort → ℕ → Label
  seat k i = label_in (as_place k (term_at s.own.terms i))

  seated : (k : Sort) (i : ℕ) → as_place k (term_at s.own.terms i) ≡ leaf (seat k i)
  seated k i = (place-leaf k (as_place k (term_at s.own.terms i)) (is-place k (term_at s.own.terms i))).0

  -- the placeholder below a number that is read as the label
  abbrev found : Sort → Label → ℕ → Option ℕ
  found k l zero = None
  found k l (suc m) = if good (placeholder k m) && same_label (seat k m) l then Some m else found k l m

  found-is : (k : Sort) (l : Label) (m j : ℕ) → found k l m ≡ Some j → (good (placeholder k j) ≡ true) × (seat k j ≡ l)
  found-is k l zero j e = absurd (cc)
  found-is k l (suc m) j e = by (good (placeholder k m) && same_label (seat k m) l) refl e (found-is k l m j)
    where
      by : (b : Bool) → (good (placeholder k m) && same_label (seat k m) l) ≡ b → (if b then Some m else found k l m) ≡ Some j
          → (found k l m ≡ Some j → (good (placeholder k j) ≡ true) × (seat k j ≡ l)) → (good (placeholder k j) ≡ true) × (seat k j ≡ l)
      by true p q f =
          subst (λ i. (good (placeholder k i) ≡ true) × (seat k i ≡ l)) (some-is m j q)
          (left (good (placeholder k m)) _ p, same-label-sound (seat k m) l (right (good (placeholder k m)) _ p))
      by false p q f = f q

  finds : (k : Sort) (l : Label) (m i : ℕ) → i < m → good (placeholder k i) ≡ true → seat k i ≡ l → (j : ℕ) × (found k l m ≡ Some j)
  finds k l zero i lt g e = absurd (omega (arith, lt))
  finds k l (suc m) i lt g e = by (good (placeholder k m) && same_label (seat k m) l) refl (last-or-below i m lt) (λ h. finds k l m i h g e)
    where
      by : (b : Bool) → (good (placeholder k m) && same_label (seat k m) l) ≡ b → (i < m) ⊎ (i ≡ m) → (i < m → (j : ℕ) × (found k l m ≡ Some j)) → (j : ℕ) × (found k l (suc m) ≡ Some j)
      by true p o f = (m, ap (λ b. if b then Some m else found k l m) p)
      by false p (inl h) f = let r = f h in (r.0, ap (λ b. if b then Some m else found k l m) p ∙ r.1)
      by false p (inr h) f =
          absurd (false-true (sym p ∙ both (good (placeholder k m)) _ (subst (λ z. good (placeholder k z) ≡ true) h g)
          (ap (same_label (seat k m)) (sym e) ∙ ap (λ z. same_label (seat k m) (seat k z)) h ∙ same_label-self (seat k m))))

  abbrev marked : Label → Label
  marked (param k i) = renamed (found k (param k i) n) k (param k (doubled i))
  marked (placeholder k i) = renamed (found k (placeholder k i) n) k (param k (suc (doubled i)))
  marked l = l

  abbrev unmarked : Label → Label
  unmarked (placeholder k j) = seat k j
  unmarked (param k i) = named k (is_odd i) (half i)
  unmarked l = l

  unmarked-marked : (l : Label) → unmarked (marked l) ≡ l
  unmarked-marked (param k i) = by (found k (param k i) n) refl
    where
      by : (o : Option ℕ) → found k (param k i) n ≡ o → unmarked (renamed o k (param k (doubled i))) ≡ param k i
      by None e = ap (λ b. named k b (half (doubled i))) (even i) ∙ ap (param k) (half-even i)
      by (Some j) e = (found-is k (param k i) n j e).1
  unmarked-marked (placeholder k i) = by (found k (placeholder k i) n) refl
    where
      by : (o : Option ℕ) → found k (placeholder k i) n ≡ o → unmarked (renamed o k (param k (suc (doubled i)))) ≡ placeholder k i
      by None e = ap (λ b. named k b (half (suc (doubled i)))) (odd i) ∙ ap (placeholder k) (half-odd i)
      by (Some j) e = (found-is k (placeholder k i) n j e).1
  unmarked-marked l = refl

  marked-sort : (l : Label) → sort_of (marked l) ≡ sort_of l
  marked-sort (param k i) = by (found k (param k i) n)
    where
      by : (o : Option ℕ) → sort_of (renamed o k (param k (doubled i))) ≡ k
      by None = refl
      by (Some j) = refl
  marked-sort (placeholder k i) = by (found k (placeholder k i) n)
    where
      by : (o : Option ℕ) → sort_of (renamed o k (param k (suc (doubled i)))) ≡ k
      by None = refl
      by (Some j) = refl
  marked-sort l = refl

  marked-found : (k : Sort) (l : Label) (j : ℕ) → IsPlaceLabel k l → found k l n ≡ Some j → marked l ≡ placeholder k j
  marked-found k l j (inl (i, e)) q = ap marked e ∙ ap (λ o. renamed o k (param k (doubled i))) (sym (ap (λ z. found k z n) e) ∙ q)
  marked-found k l j (inr (i, e)) q = ap marked e ∙ ap (λ o. renamed o k (param k (suc (doubled i)))) (sym (ap (λ z. found k z n) e) ∙ q)

  abbrev mark : Trees → Trees
  mark none = none
  mark (tree l c o) = tree (marked l) (mark c) (mark o)

  abbrev unmark : Trees → Trees
  unmark none = none
  unmark (tree l c o) = tree (unmarked l) (unmark c) (unmark o)

  unmark-mark : (t : Trees) → unmark (mark t) ≡ t
  unmark-mark none = refl
  unmark-mark (tree l c o) = tree-cong (unmarked (marked l)) l (unmark (mark c)) c (unmark (mark o)) o (unmarked-marked l) (unmark-mark c) (unmark-mark o)

  mark-apart : (x y : Trees) → mark x ≡ mark y → x ≡ y
  mark-apart x y e = sym (unmark-mark x) ∙ ap unmark e ∙ unmark-mark y

  abbrev assigned : Assignment
  assigned k v = (marked (s.unknowns k v).0, mark (s.unknowns k v).1)

  module _ (lower : (k : Sort) (i : ℕ) → good (placeholder k i) ≡ true → i < n) (apart : IsApart good s) where
    assigned-sorted : IsSorted assigned
    assigned-sorted k v = marked-sort (s.unknowns k v).0 ∙ apart.sorted k v

    marked-seat : (k : Sort) (i : ℕ) → HasValues k → good (placeholder k i) ≡ true → marked (seat k i) ≡ placeholder k i
    marked-seat k i h g =
        let f = finds k (seat k i) n i (lower k i g) g refl in
        let w = found-is k (seat k i) n f.0 f.1 in
        let same : f.0 ≡ i = apart.apart k f.0 i h w.0 g (seated k f.0 ∙ ap leaf w.1 ∙ sym (seated k i)) in
        marked-found k (seat k i) f.0 (place-leaf k (as_place k (term_at s.own.terms i)) (is-place k (term_at s.own.terms i))).1 f.1 ∙ ap (placeholder k) same

    abbrev reads : Trees → Trees
    reads t = read_with (standing s) t

    lifetime-at : (c o : Trees) → c ≡ none → instance assigned o ≡ mark (reads o) → tree static (instance assigned c) (instance assigned o) ≡ tree static none (mark (reads o))
    lifetime-at c o e h = tree-cong static static (instance assigned c) none (instance assigned o) (mark (reads o)) refl (ap (instance assigned) e) h

    place-at : (k : Sort) (i : ℕ) (c o : Trees) → HasValues k → good (placeholder k i) ≡ true → c ≡ none → instance assigned o ≡ mark (reads o)
        → tree (placeholder k i) (instance assigned c) (instance assigned o) ≡ mark (as_place k (term_at s.own.terms i) +++ reads o)
    place-at k i c o v g e h =
        tree-cong (placeholder k i) (marked (seat k i)) (instance assigned c) none (instance assigned o) (mark (reads o)) (sym (marked-seat k i v g)) (ap (instance assigned) e) h
        ∙ ap (λ z. mark (z +++ reads o)) (sym (seated k i))

    end-at : (l : Label) → sort_of l ≡ of_lifetime → instance assigned (leaf l) ≡ mark (reads (leaf l))
    end-at l e = (lifetime-node assigned l e).0 ∙ sym (ap mark (read-lifetime s l none (ap (λ k. is_sort k of_lifetime) e)))

    -- under the assignment a term is as it is read, but for the names of places
    reads-marked : (p : Place) (t : Trees) → AreTrees good p t → instance assigned t ≡ mark (reads t)
    reads-marked in_terms none h = refl
    reads-marked in_terms (tree (infer of_type v) c o) h = ap (λ z. tree (marked (s.unknowns of_type v).0) (mark (s.unknowns of_type v).1) z) (reads-marked in_terms o h.2)
    reads-marked in_terms (tree (infer of_const v) c o) h = ap (λ z. tree (marked (s.unknowns of_const v).0) (mark (s.unknowns of_const v).1) z) (reads-marked in_terms o h.2)
    reads-marked in_terms (tree (infer of_lifetime v) c o) h = lifetime-at c o h.0 (reads-marked in_terms o h.2)
    reads-marked in_terms (tree (principal m t) c o) h = absurd h
    reads-marked in_terms (tree (auto_trait i) c o) h = absurd h
    reads-marked in_terms (tree (predicate k) c o) h = absurd h
    reads-marked in_terms (tree dynamic c o) h = tree-cong dynamic dynamic _ _ _ _ refl (reads-marked in_object c h.0) (reads-marked in_terms o h.1)
    reads-marked in_terms (tree (param of_type i) c o) h = absurd (apart.no_parameter of_type i tt h.3)
    reads-marked in_terms (tree (param of_const i) c o) h = absurd (apart.no_parameter of_const i tt h.3)
    reads-marked in_terms (tree (param of_lifetime i) c o) h = lifetime-at c o (h.0 refl) (reads-marked in_terms o h.2)
    reads-marked in_terms (tree (placeholder of_type i) c o) h = place-at of_type i c o tt h.3 (h.0 refl) (reads-marked in_terms o h.2)
    reads-marked in_terms (tree (placeholder of_const i) c o) h = place-at of_const i c o tt h.3 (h.0 refl) (reads-marked in_terms o h.2)
    reads-marked in_terms (tree (placeholder of_lifetime i) c o) h = lifetime-at c o (h.0 refl) (reads-marked in_terms o h.2)
    reads-marked in_terms (tree (canonical of_lifetime i) c o) h = lifetime-at c o (h.0 refl) (reads-marked in_terms o h.2)
    reads-marked in_terms (tree (bound of_lifetime i j) c o) h = lifetime-at c o (h.0 refl) (reads-marked in_terms o h.2)
    reads-marked in_terms (tree (canonical k i) c o) h = tree-cong (canonical k i) (canonical k i) _ _ _ _ refl (reads-marked in_terms c h.1) (reads-marked in_terms o h.2)
    reads-marked in_terms (tree (bound k i j) c o) h = tree-cong (bound k i j) (bound k i j) _ _ _ _ refl (reads-marked in_terms c h.1) (reads-marked in_terms o h.2)
    reads-marked in_terms (tree static c o) h = lifetime-at c o (h.0 refl) (reads-marked in_terms o h.2)
    reads-marked in_terms (tree l c o) h = tree-cong (erase_label l) (erase_label l) _ _ _ _ refl (reads-marked in_terms c h.1) (reads-marked in_terms o h.2)
    reads-marked in_object none h = absurd h
    reads-marked in_object (tree (principal m t) c o) h = tree-cong (principal zero t) (principal zero t) _ _ _ _ refl (reads-marked in_terms c h.0) (reads-marked in_autos o h.1)
    reads-marked in_object (tree (auto_trait i) none o) h = ap (λ z. tree (auto_trait i) none z) (reads-marked in_autos o h)
    reads-marked in_object (tree l none none) h = end-at l h.0
    reads-marked in_object (tree l c o) h = absurd h
    reads-marked in_autos none h = absurd h
    reads-marked in_autos (tree (auto_trait i) none o) h = ap (λ z. tree (auto_trait i) none z) (reads-marked in_autos o h)
    reads-marked in_autos (tree l none none) h = end-at l h.0
    reads-marked in_autos (tree l c o) h = absurd h

    all-solve : (bs : List Binding) → AllTrees good bs → Every (UnknownStands s) bs → Solves assigned bs
    all-solve [] a h = assigned-sorted
    all-solve (b ∷ bs) a h = (ap mark h.0 ∙ sym (reads-marked in_terms b.value a.0), all-solve bs a.1 h.1)

    all-stood : (bs : List Binding) → AllTrees good bs → Solves assigned bs → Every (UnknownStands s) bs
    all-stood [] a h = tt
    all-stood (b ∷ bs) a h = (mark-apart (tree_of (s.unknowns b.sort b.var)) (reads b.value) (h.0 ∙ reads-marked in_terms b.value a.0), all-stood bs a.1 h.1)

    all-same : (todo : Worklist) → ArePairsOfTrees good todo → Every (AreOne s) todo → AllSame assigned todo
    all-same [] a h = tt
    all-same (e ∷ todo) a h = (reads-marked in_terms e.0 a.0.1 ∙ ap mark h.0 ∙ sym (reads-marked in_terms e.1 a.1.1), all-same todo a.2 h.1)

    unified_keeps : (opens : HasLifetimes good) (t : TableTrees) (todo : Worklist) → IsMadeTable good t → ArePairsOfTrees good todo → Hold s t → Every (AreOne s) todo → (u : TableTrees) × (unified t todo ≡ Some u) × Hold s u
    unified_keeps opens t todo m ps hold ones = by (unified t todo) refl (answered good opens t m todo ps)
      where
        old : Solves assigned t.bindings
        old = all-solve t.bindings (of-trees good opens t m).terms hold

        by : (o : Option TableTrees) → unified t todo ≡ o → Answered good opens t m todo o → (u : TableTrees) × (unified t todo ≡ Some u) × Hold s u
        by None e f = absurd (f assigned old (all-same todo ps ones))
        by (Some u) e f = (u, e, all-stood u.bindings f.0.terms (f.1 assigned old (all-same todo ps ones)))

-- ---- no placeholder of terms has a greater number
abbrev top : Trees → ℕ
top none = zero
top (tree (placeholder k i) c o) = max (suc i) (max (top c) (top o))
top (tree l c o) = max (top c) (top o)

abbrev top_of_values : List Binding → ℕ
top_of_values [] = zero
top_of_values (b ∷ bs) = max (top b.value) (top_of_values bs)

abbrev top_of_pairs : Worklist → ℕ
top_of_pairs [] = zero
top_of_pairs (e ∷ todo) = max (max (top e.0) (top e.1)) (top_of_pairs todo)

abbrev is_below : ℕ → Label → Bool
is_below n (placeholder k i) = ltb i n
is_below n l = true

abbrev bounded : (Label → Bool) → ℕ → Label → Bool
bounded good n l = good l && is_below n l

module _ (good : Label → Bool) (n : ℕ) where
  below-number : (i m : ℕ) → max (suc i) m ≤ n → ltb i n ≡ true
  below-number i m h = let lt : i < n = omega (arith, h) in grind (arith, nat_tests, lt)

  bounded-trees : (p : Place) (t : Trees) → top t ≤ n → AreTrees good p t → AreTrees (bounded good n) p t
  bounded-trees in_terms none b h = tt
  bounded-trees in_terms (tree (infer k v) c o) b h = (h.0, both (good (infer k v)) true h.1 refl, bounded-trees in_terms o (omega (arith, b)) h.2)
  bounded-trees in_terms (tree (principal m t) c o) b h = absurd h
  bounded-trees in_terms (tree (auto_trait i) c o) b h = absurd h
  bounded-trees in_terms (tree (predicate k) c o) b h = absurd h
  bounded-trees in_terms (tree dynamic c o) b h = (bounded-trees in_object c (omega (arith, b)) h.0, bounded-trees in_terms o (omega (arith, b)) h.1)
  bounded-trees in_terms (tree (placeholder k i) c o) b h =
      (h.0, bounded-trees in_terms c (omega (arith, b)) h.1, bounded-trees in_terms o (omega (arith, b)) h.2, both (good (placeholder k i)) (ltb i n) h.3 (below-number i (max (top c) (top o)) b))
  bounded-trees in_terms (tree l c o) b h = (h.0, bounded-trees in_terms c (omega (arith, b)) h.1, bounded-trees in_terms o (omega (arith, b)) h.2, both (good l) true h.3 refl)
  bounded-trees in_object none b h = absurd h
  bounded-trees in_object (tree (principal m t) c o) b h = (bounded-trees in_terms c (omega (arith, b)) h.0, bounded-trees in_autos o (omega (arith, b)) h.1)
  bounded-trees in_object (tree (auto_trait i) none o) b h = bounded-trees in_autos o (omega (arith, b)) h
  bounded-trees in_object (tree (placeholder k i) none none) b h = (h.0, both (good (placeholder k i)) (ltb i n) h.1 (below-number i (max zero zero) b))
  bounded-trees in_object (tree l none none) b h = (h.0, both (good l) true h.1 refl)
  bounded-trees in_object (tree l c o) b h = absurd h
  bounded-trees in_autos none b h = absurd h
  bounded-trees in_autos (tree (auto_trait i) none o) b h = bounded-trees in_autos o (omega (arith, b)) h
  bounded-trees in_autos (tree (placeholder k i) none none) b h = (h.0, both (good (placeholder k i)) (ltb i n) h.1 (below-number i (max zero zero) b))
  bounded-trees in_autos (tree l none none) b h = (h.0, both (good l) true h.1 refl)
  bounded-trees in_autos (tree l c o) b h = absurd h

  bounded-made : (t : Trees) → top t ≤ n → is_made good terms t ≡ true → is_made (bounded good n) terms t ≡ true
  bounded-made t b h = made-of (bounded good n) terms t (bounded-trees in_terms t b (trees-of good terms t h))

  bounded-values : (bs : List Binding) → top_of_values bs ≤ n → Every (IsValue good) bs → Every (IsValue (bounded good n)) bs
  bounded-values [] b h = tt
  bounded-values (x ∷ bs) b h = (
    record { sort = h.0.sort; known = both (good (infer x.sort x.var)) true h.0.known refl; single = h.0.single; same_sort = h.0.same_sort; made = bounded-made x.value (omega (arith, b)) h.0.made },
    bounded-values bs (omega (arith, b)) h.1,
  )

  bounded-pairs : (todo : Worklist) → top_of_pairs todo ≤ n → Every (IsTermPair good) todo → ArePairsOfTrees (bounded good n) todo
  bounded-pairs [] b h = tt
  bounded-pairs (e ∷ todo) b h = (
    (h.0.0.single, bounded-trees in_terms e.0 (omega (arith, b)) (trees-of good terms e.0 h.0.0.made)),
    (h.0.1.single, bounded-trees in_terms e.1 (omega (arith, b)) (trees-of good terms e.1 h.0.1.made)),
    bounded-pairs todo (omega (arith, b)) h.1,
  )

  bounded-table : (t : TableTrees) → top_of_values t.bindings ≤ n → IsMadeTable good t → IsMadeTable (bounded good n) t
  bounded-table t b m = record {
    acyclic = m.acyclic;
    values = bounded-values t.bindings b m.values;
    counted = record { types = λ v g. m.counted.types v (left (good (infer of_type v)) true g); consts = λ v g. m.counted.consts v (left (good (infer of_const v)) true g) };
  }

  bounded-lower : (k : Sort) (i : ℕ) → bounded good n (placeholder k i) ≡ true → i < n
  bounded-lower k i g = let e : ltb i n ≡ true = right (good (placeholder k i)) (ltb i n) g in grind (arith, nat_tests, e)

  bounded-apart : (s : ChosenTerms) → IsApart good s → IsApart (bounded good n) s
  bounded-apart s a = record {
    sorted = a.sorted;
    no_parameter = λ k i v g. a.no_parameter k i v (left (good (param k i)) true g);
    apart = λ k i j v g h e. a.apart k i j v (left (good (placeholder k i)) (ltb i n) g) (left (good (placeholder k j)) (ltb j n) h) e;
  }

-- ---- the laws of equations
pub equations_narrow : EquationsNarrow
equations_narrow good t todo u opens m p e s h = (unified_left good t todo u opens m p e).1 s h

pub equations_stay_made : EquationsStayMade
equations_stay_made good t todo u opens m p e = (unified_left good t todo u opens m p e).0

pub equations_keep : EquationsKeep
equations_keep good t todo s opens m p apart h o =
    let n = max (top_of_values t.bindings) (top_of_pairs todo) in
    unified_keeps (bounded good n) s n (bounded-lower good n) (bounded-apart good n s apart) (λ v. both (good (infer of_lifetime v)) true (opens v) refl) t todo
    (bounded-table good n t (omega arith) m) (bounded-pairs good n todo (omega arith) p) h o
