-- An impl's rules are those of the arguments that fit and make its header the reference.
use Rattle.std.proofs.Common.{zero-add, ◌≡◌, ◌⊎◌, inl, inr, ℕ, suc, ◌+◌, ◌<◌, Bool, true, false, List, [], ◌∷◌, refl, ap, sym, ◌∙◌, ◌&&◌, ◌||◌, ◌==◌, if◌then◌else◌, subst, arith}
use Rattle.std.proofs.lemmas.Bool.Decides.{nat_tests}
use Rattle.type_terms.specs.Promised.Label.{Label, Sort, never, param, bound, fn_ptr, principal, inside, raise, shift_label}
use Rattle.type_terms.specs.Promised.Trees.{Trees, none, tree, ◌+++◌, leaf, nth, shift, instantiate, IsA, Fits, is_sort}
use Rattle.type_terms.specs.Trees.{arguments, standing_at, first_of, fits, Single}
use Rattle.type_terms.specs.Promised.Worlds.{Reference, ImplDecl, with_args, all_with_args}
use Rattle.type_terms.specs.Erased.{mentions}
use Rattle.type_terms.specs.Promised.Rules.{Rule, by_impl, impl_rules, same_reference}
use Rattle.type_terms.specs.Promised.Proofs.{Every}
use Rattle.type_terms.specs.Promised.Supers.{mentions_as}
use Rattle.type_terms.proofs.Members.{self-number, same-number}
use Rattle.type_terms.proofs.Walking.{both, left, right, or-left, or-right, or-cases as stands-either}
use Rattle.type_terms.proofs.TreeLaws.{single-nth, single-shift, shift-merge}
use Rattle.type_terms.proofs.Matching.{absent-nothing, same-where-asked, nth-arguments, first-left, nth-there}
use Rattle.type_terms.proofs.Applies.{fits-complete, same-reference-complete}
use Rattle.type_terms.proofs.Fitting.{fits-sound, same-reference-sound}
use Rattle.type_terms.specs.Promised.ReadByLaws.{ImplRulesAreInstances}
use Rattle.type_terms.proofs.TermBasics.{sort-self as is-sort-itself}

abbrev StandsAsSome : ℕ → Trees → Type 0
StandsAsSome n t = (s : Sort) × (mentions_as s n t ≡ true)

some-sort-in-two : (n : ℕ) (c o : Trees) → (mentions n c ≡ true → StandsAsSome n c) → (mentions n o ≡ true → StandsAsSome n o)
    → mentions n c || mentions n o ≡ true → (s : Sort) × (mentions_as s n c || mentions_as s n o ≡ true)
some-sort-in-two n c o f g h = by (stands-either (mentions n c) (mentions n o) h)
  where
    by : (mentions n c ≡ true) ⊎ (mentions n o ≡ true) → (s : Sort) × (mentions_as s n c || mentions_as s n o ≡ true)
    by (inl e) = let x = f e in (x.0, or-left (mentions_as x.0 n c) (mentions_as x.0 n o) x.1)
    by (inr e) = let x = g e in (x.0, or-right (mentions_as x.0 n c) (mentions_as x.0 n o) x.1)

stands-as-some : (n : ℕ) (t : Trees) → mentions n t ≡ true → StandsAsSome n t
stands-as-some n none h = cc
stands-as-some n (tree (param s j) c o) h = by (stands-either (n == j) (mentions n o) h) (stands-as-some n o)
  where
    by : (n == j ≡ true) ⊎ (mentions n o ≡ true) → (mentions n o ≡ true → StandsAsSome n o) → StandsAsSome n (tree (param s j) c o)
    by (inl e) f = (s, or-left (is_sort s s && (n == j)) (mentions_as s n o) (both (is_sort s s) (n == j) (is-sort-itself s) e))
    by (inr e) f = let x = f e in (x.0, or-right (is_sort x.0 s && (n == j)) (mentions_as x.0 n o) x.1)
stands-as-some n (tree l c o) h = some-sort-in-two n c o (stands-as-some n c) (stands-as-some n o) h

stands-as-one : (s : Sort) (n : ℕ) (t : Trees) → mentions_as s n t ≡ true → mentions n t ≡ true
stands-as-one s n none h = cc
stands-as-one s n (tree (param r j) c o) h = by (stands-either (is_sort s r && (n == j)) (mentions_as s n o) h) (stands-as-one s n o)
  where
    by : (is_sort s r && (n == j) ≡ true) ⊎ (mentions_as s n o ≡ true) → (mentions_as s n o ≡ true → mentions n o ≡ true) → (n == j) || mentions n o ≡ true
    by (inl e) f = or-left (n == j) (mentions n o) (right (is_sort s r) (n == j) e)
    by (inr e) f = or-right (n == j) (mentions n o) (f e)
stands-as-one s n (tree l c o) h = by (stands-either (mentions_as s n c) (mentions_as s n o) h) (stands-as-one s n c) (stands-as-one s n o)
  where
    by : (mentions_as s n c ≡ true) ⊎ (mentions_as s n o ≡ true) → (mentions_as s n c ≡ true → mentions n c ≡ true) → (mentions_as s n o ≡ true → mentions n o ≡ true)
        → mentions n c || mentions n o ≡ true
    by (inl e) f g = or-left (mentions n c) (mentions n o) (f e)
    by (inr e) f g = or-right (mentions n c) (mentions n o) (g e)

-- What a node's equation says of its parts.
same-node : {l m : Label} {c d o p : Trees} → tree l c o ≡ tree m d p → (l ≡ m) × (c ≡ d) × (o ≡ p)
same-node e = (cc, cc, cc)

one-node : (l m : Label) (c d o p : Trees) → l ≡ m → c ≡ d → o ≡ p → tree l c o ≡ tree m d p
one-node l m c d o p f g h = cc

-- A tree that one more step of a shift does not change is not changed by the shift.
raise-stays : (q d k : ℕ) → raise q (suc d) k ≡ raise q d k → raise q d k ≡ k
raise-stays q d k h = grind (arith, nat_tests)

same-bound : {s r : Sort} {k j v w : ℕ} → bound s k v ≡ bound r j w → k ≡ j
same-bound e = cc

label-stays-put : (q d : ℕ) (l : Label) → shift_label q (suc d) l ≡ shift_label q d l → shift_label q d l ≡ l
label-stays-put q d (bound s k v) h = ap (λ n. bound s n v) (raise-stays q d k (same-bound h))
label-stays-put q d l h = refl

shift-stays : (q d : ℕ) (t : Trees) → shift q (suc d) t ≡ shift q d t → shift q d t ≡ t
shift-stays q d none h = refl
shift-stays q d (tree l c o) h =
    let x = same-node h in one-node _ _ _ _ _ _ (label-stays-put q d l x.0) (shift-stays (inside l q) d c x.1) (shift-stays q d o x.2)

-- Of two lists of trees of which the first is one tree, a shift that changes none of them changes neither.
split-shift : (d : ℕ) (x y : Trees) → Single x → shift d 1 (x +++ y) ≡ x +++ y → (shift d 1 x ≡ x) × (shift d 1 y ≡ y)
split-shift d none y s h = absurd s
split-shift d (tree l c o) y s h = by o s h
  where
    by : (o : Trees) → o ≡ none → shift d 1 (tree l c (o +++ y)) ≡ tree l c (o +++ y) → (shift d 1 (tree l c o) ≡ tree l c o) × (shift d 1 y ≡ y)
    by none s h = let x = same-node h in (one-node _ _ _ _ _ _ x.0 x.1 refl, x.2)
    by (tree m e p) s h = cc

-- What stands at the first place of a parameter is its argument, where no binder number leads out of the instance.
module _ (A : Trees) (i : ℕ) where
  abbrev Closes : ℕ → Trees → Type 0
  Closes d p = shift d 1 (instantiate d A p) ≡ instantiate d A p

  abbrev Finds : ℕ → Trees → Type 0
  Finds d p = standing_at i p (instantiate d A p) ≡ nth A i

  found-either : (a b : Bool) (x y : Trees) → a || b ≡ true → (a ≡ true → x ≡ nth A i) → (a ≡ false → x ≡ none) → (b ≡ true → y ≡ nth A i) → first_of x y ≡ nth A i
  found-either true b x y h f g k = first-left x y (λ e. nth-there A i (sym (f refl) ∙ e)) ∙ f refl
  found-either false b x y h f g k = rw (g refl) (k h)

  found-front : (j : ℕ) (s : Sort) (c o x y : Trees) → Single x → (i == j) ≡ true → standing_at i (tree (param s j) c o) (x +++ y) ≡ x
  found-front j s c o none y h e = absurd h
  found-front j s c o (tree m d p) y h e = rw e (ap (λ z. tree m d z) (sym h))

  found-behind : (j : ℕ) (s : Sort) (c o x y : Trees) → Single x → (i == j) ≡ false → standing_at i (tree (param s j) c o) (x +++ y) ≡ standing_at i o y
  found-behind j s c o none y h e = absurd h
  found-behind j s c o (tree m d p) y h e = rw e (ap (λ z. standing_at i o (z +++ y)) h)

  found-first : (d : ℕ) (p : Trees) → mentions i p ≡ true → Closes d p → Finds d p
  found-first d none m h = cc
  found-first d (tree (param s j) c o) m h = by (i == j) refl (stands-either (i == j) (mentions i o) m) (λ g. found-first d o g parts.1)
    where
      single : Single (shift 0 d (nth A j))
      single = single-shift 0 d (nth A j) (single-nth A j)

      parts : (shift d 1 (shift 0 d (nth A j)) ≡ shift 0 d (nth A j)) × Closes d o
      parts = split-shift d (shift 0 d (nth A j)) (instantiate d A o) single h

      stays : shift 0 d (nth A j) ≡ nth A j
      stays = shift-stays 0 d (nth A j) (ap (λ n. shift 0 n (nth A j)) (one-more d) ∙ sym (shift-merge 0 d d 1 (nth A j) (omega arith) (omega arith)) ∙ parts.0)
        where
          one-more : (n : ℕ) → suc n ≡ n + 1
          one-more n = omega arith

      by : (b : Bool) → (i == j) ≡ b → ((i == j) ≡ true) ⊎ (mentions i o ≡ true) → (mentions i o ≡ true → Finds d o) → Finds d (tree (param s j) c o)
      by true e k f = found-front j s c o (shift 0 d (nth A j)) (instantiate d A o) single e ∙ stays ∙ ap (nth A) (sym (same-number i j e))
      by false e (inl k) f = cc
      by false e (inr k) f = found-behind j s c o (shift 0 d (nth A j)) (instantiate d A o) single e ∙ f k
  found-first d (tree (fn_ptr n) c o) m h =
      let x = same-node h in
      found-either (mentions i c) (mentions i o) _ _ m (λ g. found-first (suc d) c g x.1) (absent-nothing A i (suc d) c) (λ g. found-first d o g x.2)
  found-first d (tree (principal n j) c o) m h =
      let x = same-node h in
      found-either (mentions i c) (mentions i o) _ _ m (λ g. found-first (suc d) c g x.1) (absent-nothing A i (suc d) c) (λ g. found-first d o g x.2)
  found-first d (tree l c o) m h =
      let x = same-node h in
      found-either (mentions i c) (mentions i o) _ _ m (λ g. found-first d c g x.1) (absent-nothing A i d c) (λ g. found-first d o g x.2)

-- Arguments that are the same where a tree asks for them fit it too.
fits-by-the-asked : (A B t : Trees) → ((i : ℕ) → mentions i t ≡ true → nth A i ≡ nth B i) → Fits A t → Fits B t
fits-by-the-asked A B none h f = tt
fits-by-the-asked A B (tree (param s i) c o) h f = (
  subst (IsA s) (h i (or-left (i == i) (mentions i o) (self-number i))) f.0,
  f.1,
  fits-by-the-asked A B o (λ j g. h j (or-right (j == i) (mentions j o) g)) f.2,
)
fits-by-the-asked A B (tree l c o) h f = (
  fits-by-the-asked A B c (λ j g. h j (or-left (mentions j c) (mentions j o) g)) f.0,
  fits-by-the-asked A B o (λ j g. h j (or-right (mentions j c) (mentions j o) g)) f.1,
)

abbrev its-rule : ImplDecl → Trees → List Rule
its-rule i A = record { way = by_impl i.name; premises = all_with_args A i.clauses } ∷ []

-- A where-clause or the header stands in the impl with parameters that are below the number of them, and stand in the header.
abbrev IsWithin : ImplDecl → Reference → Type 0
IsWithin i k = (s : Sort) (n : ℕ) → mentions_as s n k.args ≡ true → (n < i.params) × (mentions_as s n i.header.args ≡ true)

stands-within : (i : ImplDecl) (k : Reference) → IsWithin i k → (n : ℕ) → mentions n k.args ≡ true → (n < i.params) × (mentions n i.header.args ≡ true)
stands-within i k w n h = let x = stands-as-some n k.args h in let y = w x.0 n x.1 in (y.0, stands-as-one x.0 n i.header.args y.1)

same-list : {a b : Reference} {c d : List Reference} → a ≡ b → c ≡ d → a ∷ c ≡ b ∷ d
same-list p q = cc

clauses-by-the-asked : (i : ImplDecl) (A B : Trees) → ((n : ℕ) → mentions n i.header.args ≡ true → nth A n ≡ nth B n)
    → (ks : List Reference) → ((s : Sort) (n : ℕ) → Every (λ k. mentions_as s n k.args ≡ true → (n < i.params) × (mentions_as s n i.header.args ≡ true)) ks)
    → all_with_args A ks ≡ all_with_args B ks
clauses-by-the-asked i A B h [] w = refl
clauses-by-the-asked i A B h (k ∷ ks) w =
    same-list
    (ap (λ z. (let x : Reference = record { trait = k.trait; args = z } in x)) (same-where-asked A B 0 k.args (λ n g. h n (stands-within i k (λ s n. (w s n).0) n g).1)))
    (clauses-by-the-asked i A B h ks (λ s n. (w s n).1))

-- Either no rule is given, or the one of the arguments that are read off.
none-or-its-rule : (r : Reference) (i : ImplDecl)
    → (impl_rules r i ≡ []) ⊎ ((A : Trees) × Fits A i.header.args × (with_args A i.header ≡ r) × (impl_rules r i ≡ its-rule i A))
none-or-its-rule r i = by (fits A i.header.args && same_reference (with_args A i.header) r) refl
  where
    A : Trees
    A = arguments i.params i.header.args r.args

    by : (b : Bool) → fits A i.header.args && same_reference (with_args A i.header) r ≡ b
        → (impl_rules r i ≡ []) ⊎ ((A : Trees) × Fits A i.header.args × (with_args A i.header ≡ r) × (impl_rules r i ≡ its-rule i A))
    by true e = inr (
      A,
      fits-sound A i.header.args (left (fits A i.header.args) _ e),
      same-reference-sound _ r (right (fits A i.header.args) _ e),
      ap (λ b. if b then its-rule i A else []) e,
    )
    by false e = inl (ap (λ b. if b then its-rule i A else []) e)

-- Whatever arguments make the header the reference, its rule is theirs.
rule-of-an-instance : (i : ImplDecl) (A : Trees)
    → ((s : Sort) (n : ℕ) → Every (λ k. mentions_as s n k.args ≡ true → (n < i.params) × (mentions_as s n i.header.args ≡ true)) (i.header ∷ i.clauses))
    → shift 0 1 (with_args A i.header).args ≡ (with_args A i.header).args → Fits A i.header.args → impl_rules (with_args A i.header) i ≡ its-rule i A
rule-of-an-instance i A w h f =
    ap (λ b. if b then its-rule i B else []) (both (fits B i.header.args) _ fitting is)
    ∙ ap (λ ks. (let x : Rule = record { way = by_impl i.name; premises = ks } in x) ∷ []) (clauses-by-the-asked i B A reads i.clauses (λ s n. (w s n).1))
  where
    B : Trees
    B = arguments i.params i.header.args (with_args A i.header).args

    reads : (n : ℕ) → mentions n i.header.args ≡ true → nth B n ≡ nth A n
    reads n g =
        let p = i.header.args in
        let t = (with_args A i.header).args in
        let found : standing_at n p t ≡ nth A n = found-first A n 0 p g h in
        nth-arguments 0 i.params n p t (stands-within i i.header (λ s n. (w s n).0) n g).0
        ∙ ap (λ k. first_of (standing_at k p t) (leaf never)) (zero-add n)
        ∙ first-left (standing_at n p t) (leaf never) (λ q. nth-there A n (sym found ∙ q))
        ∙ found

    fitting : fits B i.header.args ≡ true
    fitting = fits-complete B i.header.args (fits-by-the-asked A B i.header.args (λ n g. sym (reads n g)) f)

    is : same_reference (with_args B i.header) (with_args A i.header) ≡ true
    is = same-reference-complete (with_args B i.header) (with_args A i.header)
        (ap (λ z. (let x : Reference = record { trait = i.header.trait; args = z } in x)) (same-where-asked B A 0 i.header.args reads))

pub impl-rules-are-instances : ImplRulesAreInstances
impl-rules-are-instances r i = (
  none-or-its-rule r i,
  λ w h A f e. subst (λ x. impl_rules x i ≡ its-rule i A) e (rule-of-an-instance i A w (subst (λ x. shift 0 1 x.args ≡ x.args) (sym e) h) f),
)
