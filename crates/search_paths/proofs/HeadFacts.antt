-- The heads in a list, and their paths.
use Rattle.std.proofs.Common.{◌≡◌, ℕ, zero, suc, ◌<◌, ◌+◌, ◌↔◌, ◌⊎◌, inl, inr, Bool, true, false, cond, eqb, List, [], ◌∷◌, ◌++◌, length, get_or, refl, sym, ap, subst, ◌∙◌, arith}
use Rattle.std.proofs.Common.{All, filter, not, Some, slice_get, position}
use Rattle.std.proofs.lemmas.Bool.{eq-eqb, eqb-true, ne_eqb}
use Rattle.std.proofs.lemmas.List.Elements.{All-head, All-tail}
use Rattle.std.proofs.lemmas.List.Quantifiers.{position-Some}
use Rattle.std.proofs.lemmas.List.{length-append}
use Rattle.std.proofs.lemmas.Option.{slice_get-get_or}
use Rattle.std.specs.Prelude.{Option, None, IfSome}
use Rattle.std.proofs.Math.ListN.{set}
use Rattle.std.specs.Int.Bits.{or_zero_l, or_zero_r}
use Rattle.std.specs.Int.RustNames.{bit_or}
use Rattle.std.proofs.lemmas.Nat.{or_comm}
use Rattle.type_terms.proofs.InfoFacts.{or-assoc}
use Rattle.search_paths.specs.declared.dependencies.CycleHead.{CycleHead}
use Rattle.search_paths.specs.KeptPaths.{indices, AreKept, AreBelow}
use Rattle.std.specs.Global.{Vec}
use Rattle.search_paths.specs.Heads.{IsHead, paths_to, paths_in, RestsOn, IsFirstOf, AreHeadsOfBoth, AreHeadsBut}

or_assoc : (a b c : ℕ) → bit_or a (bit_or b c) ≡ bit_or (bit_or a b) c
or_assoc a b c = sym (or-assoc a b c)

-- the heads of two lists
pub paths_to-append : (hs ks : List CycleHead) (place : ℕ) → paths_to (hs ++ ks) place ≡ bit_or (paths_to hs place) (paths_to ks place)
paths_to-append [] ks place = sym (or_zero_l (paths_to ks place))
paths_to-append (h ∷ hs) ks place =
    elim (eqb h.index place) as (λ b. cond b (bit_or h.paths.0 (paths_to (hs ++ ks) place)) (paths_to (hs ++ ks) place) ≡ bit_or (cond b (bit_or h.paths.0 (paths_to hs place)) (paths_to hs place)) (paths_to ks place)) [
      | true ↦ ap (bit_or h.paths.0) (paths_to-append hs ks place) ∙ or_assoc h.paths.0 (paths_to hs place) (paths_to ks place)
      | false ↦ paths_to-append hs ks place
    ]

-- a head by itself
pub read_alone : (head : CycleHead) (place : ℕ) → paths_to (head ∷ []) place ≡ cond (eqb head.index place) head.paths.0 0
read_alone head place = ap (λ paths. cond (eqb head.index place) paths 0) (or_zero_r head.paths.0)

-- the first head of the goal is one of it
pub head_found : (hs : List CycleHead) (index : ℕ) (place : Option ℕ) → place ≡ position (λ (head : CycleHead). eqb head.index index) hs
    → IfSome place (λ at. (head : CycleHead) × (slice_get hs at ≡ Some head) × (head.index ≡ index))
head_found hs index None is = tt
head_found hs index (Some place) is =
    let none : CycleHead = record { index = 0; paths = record { 0 = 0 } } in
    let at = position-Some (λ (head : CycleHead). eqb head.index index) hs place none (sym is) in
    (get_or hs place none, slice_get-get_or hs place none at.0, eqb-true _ index at.1)

-- a known head gets further paths
pub paths_to-set : (hs : List CycleHead) (i : ℕ) (k u : CycleHead) (q place : ℕ) → i < length hs → k ≡ get_or hs i k → u.index ≡ k.index → u.paths.0 ≡ bit_or k.paths.0 q
    → paths_to (set hs i u) place ≡ bit_or (paths_to hs place) (cond (eqb k.index place) (bit_or q 0) 0)
paths_to-set [] i k u q place lt is same more = absurd (omega arith)
paths_to-set (h ∷ hs) zero k u q place lt is same more =
    (λ i. cond (eqb (same i) place) (bit_or (more i) (paths_to hs place)) (paths_to hs place))
    ∙ at (eqb k.index place)
    ∙ (λ i. bit_or (cond (eqb (is i).index place) (bit_or (is i).paths.0 (paths_to hs place)) (paths_to hs place)) (cond (eqb k.index place) (bit_or q 0) 0))
  where
    at : (b : Bool) → cond b (bit_or (bit_or k.paths.0 q) (paths_to hs place)) (paths_to hs place) ≡ bit_or (cond b (bit_or k.paths.0 (paths_to hs place)) (paths_to hs place)) (cond b (bit_or q 0) 0)
    at true =
        sym (or_assoc k.paths.0 q (paths_to hs place)) ∙ ap (bit_or k.paths.0) (or_comm q (paths_to hs place)) ∙ or_assoc k.paths.0 (paths_to hs place) q
        ∙ ap (bit_or (bit_or k.paths.0 (paths_to hs place))) (sym (or_zero_r q))
    at false = sym (or_zero_r (paths_to hs place))
paths_to-set (h ∷ hs) (suc i) k u q place lt is same more =
    let rest = paths_to-set hs i k u q place (omega arith) is same more in
    elim (eqb h.index place) as (λ b. cond b (bit_or h.paths.0 (paths_to (set hs i u) place)) (paths_to (set hs i u) place) ≡ bit_or (cond b (bit_or h.paths.0 (paths_to hs place)) (paths_to hs place)) (cond (eqb k.index place) (bit_or q 0) 0)) [
      | true ↦ ap (bit_or h.paths.0) rest ∙ or_assoc h.paths.0 (paths_to hs place) (cond (eqb k.index place) (bit_or q 0) 0)
      | false ↦ rest
    ]

pub indices-none : (heads : List CycleHead) → indices heads ≡ [] → heads ≡ []
indices-none [] h = refl
indices-none (x ∷ heads) h = absurd (let n : suc (length (indices heads)) ≡ 0 = ap length h in omega (arith, n))

pub indices-append : (heads more : List CycleHead) → indices (heads ++ more) ≡ indices heads ++ indices more
indices-append [] more = refl
indices-append (x ∷ heads) more = ap (λ l. x.index ∷ l) (indices-append heads more)

-- a head that was not read adds no paths
pub unread_adds : (head : CycleHead) (x place : ℕ) → head.paths.0 ≡ 0 → bit_or x (paths_to (head ∷ []) place) ≡ x
unread_adds head x place none =
    elim (eqb head.index place) as (λ b. bit_or x (cond b (bit_or head.paths.0 0) 0) ≡ x) [
      | true ↦ ap (λ n. bit_or x (bit_or n 0)) none ∙ ap (bit_or x) (or_zero_r 0) ∙ or_zero_r x
      | false ↦ or_zero_r x
    ]

-- nor does one of another goal
pub other_adds : (head : CycleHead) (x place : ℕ) → (place ≡ head.index → ⊥) → bit_or x (paths_to (head ∷ []) place) ≡ x
other_adds head x place other =
    subst (λ b. bit_or x (cond b (bit_or head.paths.0 0) 0) ≡ x) (sym (ne_eqb head.index place (λ e. other (sym e)))) (or_zero_r x)

-- the paths in the lists of a longer list
pub paths_in-append : (reads : List (Vec CycleHead)) (more : Vec CycleHead) (place : ℕ) → paths_in (reads ++ more ∷ []) place ≡ bit_or (paths_in reads place) (paths_to more.items place)
paths_in-append [] more place = or_comm (paths_to more.items place) 0
paths_in-append (read ∷ reads) more place = ap (bit_or (paths_to read.items place)) (paths_in-append reads more place) ∙ or_assoc (paths_to read.items place) (paths_in reads place) (paths_to more.items place)

-- heads that lie below a place, one by one
pub below_head : (top place : ℕ) (heads : List ℕ) → AreBelow top heads → IsHead place heads → place < top
below_head top place [] low h = absurd h
below_head top place (x ∷ heads) low (inl e) = rw e low.0
below_head top place (x ∷ heads) low (inr h) = below_head top place heads low.1 h

pub all_below : (top : ℕ) (heads : List ℕ) → ((place : ℕ) → IsHead place heads → place < top) → AreBelow top heads
all_below top [] low = tt
all_below top (x ∷ heads) low = (low x (inl refl), all_below top heads (λ place h. low place (inr h)))

pub none_below_zero : (heads : List ℕ) → AreBelow 0 heads → heads ≡ []
none_below_zero [] low = refl
none_below_zero (x ∷ heads) low = absurd (omega (arith, low.0))

-- heads that are kept, one by one
pub kept_head : (kept : ℕ → Bool) (place : ℕ) (heads : List ℕ) → AreKept kept heads → IsHead place heads → kept place ≡ true
kept_head kept place [] all h = absurd h
kept_head kept place (x ∷ heads) all (inl e) = rw e all.0
kept_head kept place (x ∷ heads) all (inr h) = kept_head kept place heads all.1 h

pub all_kept : (kept : ℕ → Bool) (heads : List ℕ) → ((place : ℕ) → IsHead place heads → kept place ≡ true) → AreKept kept heads
all_kept kept [] f = tt
all_kept kept (x ∷ heads) f = (f x (inl refl), all_kept kept heads (λ place h. f place (inr h)))

-- the heads of two lists, one by one
head_left : (place : ℕ) (xs ys : List ℕ) → IsHead place xs → IsHead place (xs ++ ys)
head_left place [] ys h = absurd h
head_left place (x ∷ xs) ys (inl e) = inl e
head_left place (x ∷ xs) ys (inr h) = inr (head_left place xs ys h)

head_right : (place : ℕ) (xs ys : List ℕ) → IsHead place ys → IsHead place (xs ++ ys)
head_right place [] ys h = h
head_right place (x ∷ xs) ys h = inr (head_right place xs ys h)

head_parts : (place : ℕ) (xs ys : List ℕ) → IsHead place (xs ++ ys) → IsHead place xs ⊎ IsHead place ys
head_parts place [] ys h = inr h
head_parts place (x ∷ xs) ys (inl e) = inl (inl e)
head_parts place (x ∷ xs) ys (inr h) = elim (head_parts place xs ys h) [ inl a ↦ inl (inr a) | inr b ↦ inr b ]

pub rests_append : (heads more : List CycleHead) → AreHeadsOfBoth heads more (heads ++ more)
rests_append heads more place = (
  λ h. head_parts place (indices heads) (indices more) (subst (IsHead place) (indices-append heads more) h),
  λ h. subst (IsHead place) (sym (indices-append heads more)) (elim h [ inl x ↦ head_left place (indices heads) (indices more) x | inr y ↦ head_right place (indices heads) (indices more) y ]),
)

pub rests_none : (heads : List CycleHead) → AreHeadsOfBoth heads [] heads
rests_none heads place = (λ h. inl h, λ h. elim h [ inl x ↦ x | inr y ↦ absurd y ])

-- what is added in turn
pub rests_further : (first more further then now : List CycleHead) → AreHeadsOfBoth first more then → AreHeadsOfBoth then further now → AreHeadsOfBoth first (more ++ further) now
rests_further first more further then now one two place = (
  λ h. elim ((two place).0 h) [
    | inl x ↦ elim ((one place).0 x) [ inl y ↦ inl y | inr y ↦ inr ((rests_append more further place).1 (inl y)) ]
    | inr x ↦ inr ((rests_append more further place).1 (inr x))
  ],
  λ h. elim h [
    | inl x ↦ (two place).1 (inl ((one place).1 (inl x)))
    | inr x ↦ elim ((rests_append more further place).0 x) [ inl y ↦ (two place).1 (inl ((one place).1 (inr y))) | inr y ↦ (two place).1 (inr y) ]
  ],
)

-- a known head stays where it is
pub indices-set : (heads : List CycleHead) (i : ℕ) (k u : CycleHead) → i < length heads → k ≡ get_or heads i k → u.index ≡ k.index → indices (set heads i u) ≡ indices heads
indices-set [] i k u lt is same = refl
indices-set (h ∷ heads) zero k u lt is same = (λ i. same i ∷ indices heads) ∙ (λ i. (is i).index ∷ indices heads)
indices-set (h ∷ heads) (suc i) k u lt is same = ap (λ l. h.index ∷ l) (indices-set heads i k u (omega (arith, lt)) is same)

head_at : (heads : List CycleHead) (i : ℕ) (k : CycleHead) → i < length heads → k ≡ get_or heads i k → IsHead k.index (indices heads)
head_at [] i k lt is = absurd (omega (arith, lt))
head_at (h ∷ heads) zero k lt is = inl (ap (λ z. z.index) is)
head_at (h ∷ heads) (suc i) k lt is = inr (head_at heads i k (omega (arith, lt)) is)

pub rests_set : (heads : List CycleHead) (i : ℕ) (k u head : CycleHead) → i < length heads → k ≡ get_or heads i k → u.index ≡ k.index → k.index ≡ head.index → AreHeadsOfBoth heads (head ∷ []) (set heads i u)
rests_set heads i k u head lt is same known place =
    let stays = indices-set heads i k u lt is same in (
      λ h. inl (subst (IsHead place) stays h),
      λ h. subst (IsHead place) (sym stays)
          (elim h [
            | inl x ↦ x
            | inr y ↦ elim y [ inl e ↦ subst (λ n. IsHead n (indices heads)) (known ∙ sym e) (head_at heads i k lt is) | inr none ↦ absurd none ]
          ]),
    )

-- who keeps the heads of both keeps those of either
pub both_kept : (one other both : List CycleHead) → AreHeadsOfBoth one other both → (kept : ℕ → Bool) → AreKept kept (indices both) → AreKept kept (indices one) × AreKept kept (indices other)
both_kept one other both of kept all = (
  all_kept kept (indices one) (λ place h. kept_head kept place (indices both) all ((of place).1 (inl h))),
  all_kept kept (indices other) (λ place h. kept_head kept place (indices both) all ((of place).1 (inr h))),
)

pub both_below : (top : ℕ) (one other both : List CycleHead) → AreHeadsOfBoth one other both → AreBelow top (indices one) → AreBelow top (indices other) → AreBelow top (indices both)
both_below top one other both of low lower =
    all_below top (indices both) (λ place h. elim ((of place).0 h) [ inl x ↦ below_head top place (indices one) low x | inr y ↦ below_head top place (indices other) lower y ])

pub below_more : (top higher : ℕ) (heads : List ℕ) → top < higher + 1 → AreBelow top heads → AreBelow higher heads
below_more top higher heads h low = all_below higher heads (λ place i. let l = below_head top place heads low i in omega (arith, h, l))

-- what a run rests on but for the goal itself
pub but_kept : (place : ℕ) (less heads : List ℕ) → AreHeadsBut place less heads → (kept : ℕ → Bool) → AreKept kept less → kept place ≡ true → AreKept kept heads
but_kept place less heads but kept all own =
    all_kept kept heads (λ other h. elim (but other h) [ inl is ↦ subst (λ p. kept p ≡ true) (sym is) own | inr there ↦ kept_head kept other less all there ])

pub same_or_not : (a b : ℕ) → (a ≡ b) ⊎ (a ≡ b → ⊥)
same_or_not zero zero = inl refl
same_or_not zero (suc b) = inr (λ e. omega (arith, e))
same_or_not (suc a) zero = inr (λ e. omega (arith, e))
same_or_not (suc a) (suc b) = elim (same_or_not a b) [ inl e ↦ inl (ap suc e) | inr n ↦ inr (λ e. n (omega (arith, e))) ]

pub less_or : (place index : ℕ) → (place ≡ index → ⊥) → place < index + 1 → place < index
less_or place index n l = elim (same_or_not place index) [ inl e ↦ absurd (n e) | inr m ↦ omega (arith, l, m) ]

module _ (heads less : List CycleHead) (index : ℕ) (taken : (other : ℕ) → RestsOn less other ↔ (RestsOn heads other × (other ≡ index → ⊥))) where
  pub heads_but : AreHeadsBut index (indices less) (indices heads)
  heads_but other h = elim (same_or_not other index) [ inl e ↦ inl e | inr n ↦ inr ((taken other).1 (h, n)) ]

  pub below_but : AreBelow (index + 1) (indices heads) → AreBelow index (indices less)
  below_but low = all_below index (indices less) (λ place h. let was = (taken place).0 h in less_or place index was.1 (below_head (index + 1) place (indices heads) low was.0))

-- the heads of other goals
pub rests_filter : (heads : List CycleHead) (index other : ℕ) → RestsOn (filter (λ head. not (eqb head.index index)) heads) other ↔ (RestsOn heads other × (other ≡ index → ⊥))
rests_filter [] index other = (λ h. absurd h, λ h. absurd h.0)
rests_filter (x ∷ heads) index other =
    elim (same_or_not x.index index) [
      | inl e ↦ (
        λ h. let rest = (rests_filter heads index other).0 (subst (λ b. RestsOn (cond (not b) (x ∷ filter (λ head. not (eqb head.index index)) heads) (filter (λ head. not (eqb head.index index)) heads)) other) (eq-eqb x.index index e) h) in (inr rest.0, rest.1),
        λ h. subst (λ b. RestsOn (cond (not b) (x ∷ filter (λ head. not (eqb head.index index)) heads) (filter (λ head. not (eqb head.index index)) heads)) other) (sym (eq-eqb x.index index e))
            ((rests_filter heads index other).1 (elim h.0 [ inl i ↦ absurd (h.1 (i ∙ e)) | inr j ↦ j ], h.1)),
      )
      | inr n ↦ (
        λ h. elim (subst (λ b. RestsOn (cond (not b) (x ∷ filter (λ head. not (eqb head.index index)) heads) (filter (λ head. not (eqb head.index index)) heads)) other) (ne_eqb x.index index n) h) [
          | inl i ↦ (inl i, λ e. n (sym i ∙ e))
          | inr j ↦ let rest = (rests_filter heads index other).0 j in (inr rest.0, rest.1)
        ],
        λ h. subst (λ b. RestsOn (cond (not b) (x ∷ filter (λ head. not (eqb head.index index)) heads) (filter (λ head. not (eqb head.index index)) heads)) other) (sym (ne_eqb x.index index n))
            (elim h.0 [ inl i ↦ inl i | inr j ↦ inr ((rests_filter heads index other).1 (j, h.1)) ]),
      )
    ]

pub rests_absent : (heads : List CycleHead) (index other : ℕ) → All (λ head. head.index ≡ index → ⊥) heads → RestsOn heads other ↔ (RestsOn heads other × (other ≡ index → ⊥))
rests_absent heads index other none = (λ h. (h, λ e. absent heads none (subst (λ n. RestsOn heads n) e h)), λ h. h.0) where
  absent : (hs : List CycleHead) → All (λ head. head.index ≡ index → ⊥) hs → RestsOn hs index → ⊥
  absent [] a h = h
  absent (x ∷ hs) a (inl e) = All-head (λ head. head.index ≡ index → ⊥) x hs a (sym e)
  absent (x ∷ hs) a (inr h) = absent hs (All-tail (λ head. head.index ≡ index → ⊥) x hs a) h

-- what stands at a place
pub slice_get_at : {X : Type 0} (xs : List X) (i : ℕ) (x : X) → i < length xs → x ≡ get_or xs i x → slice_get xs i ≡ Some x
slice_get_at [] i x lt is = absurd (omega (arith, lt))
slice_get_at (y ∷ xs) zero x lt is = ap Some (sym is)
slice_get_at (y ∷ xs) (suc i) x lt is = slice_get_at xs i x (omega (arith, lt)) is

-- the head that was found first
pub first_of : (heads : List CycleHead) (index place : ℕ) (head : CycleHead) → position (λ (h : CycleHead). eqb h.index index) heads ≡ Some place → head ≡ get_or heads place head → IsFirstOf heads (record { index = index; paths = head.paths })
first_of heads index place head found is =
    let at = position-Some (λ (h : CycleHead). eqb h.index index) heads place head found in
    let same : head.index ≡ index = eqb-true head.index index ((λ i. eqb (is i).index index) ∙ at.1) in
    let whole : head ≡ record { index = index; paths = head.paths } = λ i. record { index = same i; paths = head.paths } in
    (place, found, subst (λ h. slice_get heads place ≡ Some h) whole (slice_get_at heads place head at.0 is))

-- heads below the place after the last step
pub below_last : {X : Type 0} (xs : List X) (y : X) (heads : List ℕ) → AreBelow (length (xs ++ y ∷ [])) heads → AreBelow (length xs + 1) heads
below_last xs y heads low = subst (λ n. AreBelow n heads) (length-append xs (y ∷ [])) low

-- over an empty stack there are none
pub root_alone : (size : ℕ) (heads : List CycleHead) → size ≡ 0 → AreBelow size (indices heads) → heads ≡ []
root_alone size heads empty low = indices-none heads (none_below_zero (indices heads) (subst (λ n. AreBelow n (indices heads)) empty low))
