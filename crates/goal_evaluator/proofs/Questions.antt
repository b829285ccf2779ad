-- An instance of a canonical goal is an instance of its goal.
use Rattle.std.proofs.Common.{◌≡◌, ℕ, zero, suc, Bool, true, false, ◌&&◌, ◌||◌, List, [], ◌∷◌, map, refl, sym, ◌∙◌, ap, subst, Option, Some, None, if◌then◌else◌, is_some, inl, inr}
use Rattle.std.specs.Prelude.{IsSome}
use Rattle.type_terms.specs.Promised.Label.{Label, Sort, of_type, of_const, of_lifetime, infer, param, placeholder, canonical, bound, static, dynamic, principal, auto_trait, predicate}
use Rattle.type_terms.specs.Promised.Trees.{Trees, none, tree, leaf, ◌+++◌, erase_label, sort_of, is_sort}
use Rattle.type_terms.specs.Trees.{is_a, put_at_node, is_no_tree}
use Rattle.type_terms.specs.Codes.{same_label}
use Rattle.type_terms.proofs.Matching.{same-label-sound}
use Rattle.infer_table.specs.Canonical.{OpenKinds, GoalTrees, kind_of_leaf, kind_in_clause, StandsIn, HasNoCanonical, is_label_among, place_of, canonical_label, goal_leaves, leaves, renamed}
use Rattle.infer_table.specs.Solutions.{Binding, tree_of, resolved, HasValues}
use Rattle.infer_table.proofs.CanonicalLaws.{leaves-keep, leaves-hold}
use Rattle.goal_evaluator.specs.Lists.{Every}
use Rattle.infer_table.proofs.WithoutCanonical.{IsNoCanonical, clean-parts, clean-node, clean-append, clean-replace}
use Rattle.goal_evaluator.specs.Instances.{read_with, goal_read, put_in, default_label, of_sort, is_place, as_place, term_at}
use Rattle.type_terms.specs.Made.{Standing, terms, bounds, traits, is_made}
use Rattle.goal_evaluator.specs.Content.{ChosenTerms, Fact, given, fits, fits_kind, standing, reading_of, UnknownStands}
use Rattle.goal_evaluator.specs.Equations.{IsValue}
use Rattle.goal_evaluator.specs.FrameTables.{is_good, FrameTable, Allows, Nested, label_at, label_of_sort, slot_at, goal_in, InstanceOfQuestion}
use Rattle.type_terms.proofs.Made.{false-true, left, right, made-ordinary, no-tree, IsLast, last-bound, last-trait, never-dynamic, never-dynamic-bound, never-principal}
use Rattle.goal_evaluator.proofs.Traits.{trait-of-question}
use Rattle.goal_evaluator.proofs.Reading.{append-none, read-leaf, read-replace, EachLabel, Carries, read-relabeled, IsPutIn, read-put}
use Rattle.type_terms.proofs.BooleanBasics.{and-true}
use Rattle.goal_evaluator.proofs.Basics.{nothing-at as term-at-none}

pub some-none : (x : Trees) (T : Type 0) → Some x ≡ None → T
some-none x T e = absurd (cc)

-- ---- resolving
standing-value : (s : ChosenTerms) (b : Binding) → HasValues b.sort → standing s (infer b.sort b.var) ≡ Some (tree_of (s.unknowns b.sort b.var))
standing-value s b h = by b.sort b.var h
  where
    by : (k : Sort) (v : ℕ) → HasValues k → standing s (infer k v) ≡ Some (tree_of (s.unknowns k v))
    by of_type v h = refl
    by of_const v h = refl
    by of_lifetime v h = absurd h

pub read-resolved : (good : Label → Bool) (s : ChosenTerms) (bs : List Binding) → Every (IsValue good) bs → Every (UnknownStands s) bs → (t : Trees) → read_with (standing s) (resolved bs t) ≡ read_with (standing s) t
read-resolved good s [] i h t = refl
read-resolved good s (b ∷ older) i h t =
    read-replace (standing s) b.sort b.var (resolved older b.value)
    (standing-value s b i.0.sort ∙ ap Some (h.0 ∙ sym (read-resolved good s older i.1 h.1 b.value)))
    (resolved older t)
    ∙ read-resolved good s older i.1 h.1 t

-- ---- sorts
pub sort-of-sort : (s : Sort) (t : Trees) → is_a s t ≡ true → of_sort s t ≡ t
sort-of-sort s t h = ap (λ b. if b then t else leaf (default_label s)) h

pub not-of-sort : (s : Sort) (t : Trees) → is_a s t ≡ false → of_sort s t ≡ leaf (default_label s)
not-of-sort s t h = ap (λ b. if b then t else leaf (default_label s)) h

place-of-sort : (k : Sort) (t : Trees) → (b : Bool) → is_place k t ≡ b → is_place k (as_place k t) ≡ true
place-of-sort k t true h = ap (λ b. is_place k (if b then t else leaf (placeholder k 0))) h ∙ h
place-of-sort k t false h = ap (λ b. is_place k (if b then t else leaf (placeholder k 0))) h ∙ self k
  where
    self : (k : Sort) → is_sort k k ≡ true
    self of_type = refl
    self of_const = refl
    self of_lifetime = refl

pub is-place : (k : Sort) (t : Trees) → is_place k (as_place k t) ≡ true
is-place k t = place-of-sort k t (is_place k t) refl

-- a term that stands for itself is of its sort
pub place-is-a : (k j : Sort) (t : Trees) → is_place k t ≡ true → HasValues j → is_a j t ≡ is_sort k j
place-is-a k j none h v = absurd (false-true h)
place-is-a k j (tree (param i n) none none) h v = by i k j h v
  where
    by : (i k j : Sort) → is_sort i k ≡ true → HasValues j → is_a j (leaf (param i n)) ≡ is_sort k j
    by of_type of_type of_type h v = refl
    by of_type of_type of_const h v = refl
    by of_const of_const of_type h v = refl
    by of_const of_const of_const h v = refl
    by of_lifetime of_lifetime of_type h v = refl
    by of_lifetime of_lifetime of_const h v = refl
    by i k of_lifetime h v = absurd v
    by i k j h v = absurd (false-true h)
place-is-a k j (tree (placeholder i n) none none) h v = by i k j h v
  where
    by : (i k j : Sort) → is_sort i k ≡ true → HasValues j → is_a j (leaf (placeholder i n)) ≡ is_sort k j
    by of_type of_type of_type h v = refl
    by of_type of_type of_const h v = refl
    by of_const of_const of_type h v = refl
    by of_const of_const of_const h v = refl
    by of_lifetime of_lifetime of_type h v = refl
    by of_lifetime of_lifetime of_const h v = refl
    by i k of_lifetime h v = absurd v
    by i k j h v = absurd (false-true h)
place-is-a k j t h v = absurd (false-true h)

sorted-node : (p : Label × Trees) (i j : Sort) → sort_of p.0 ≡ i → HasValues j → is_a j (tree_of p +++ none) ≡ is_sort i j
sorted-node p i of_type e v = and-true (is_sort (sort_of p.0) of_type) ∙ ap (λ z. is_sort z of_type) e
sorted-node p i of_const e v = and-true (is_sort (sort_of p.0) of_const) ∙ ap (λ z. is_sort z of_const) e
sorted-node p i of_lifetime e v = absurd v

-- what stands for a leaf is of the leaf's sort
pub reading-sorted : (s : ChosenTerms) → ((k : Sort) (v : ℕ) → sort_of (s.unknowns k v).0 ≡ k) → (j : Sort) (l : Label) → HasValues j → is_a j (reading_of s l) ≡ is_sort (sort_of l) j
reading-sorted s h j (infer of_type v) k = sorted-node (s.unknowns of_type v) of_type j (h of_type v) k
reading-sorted s h j (infer of_const v) k = sorted-node (s.unknowns of_const v) of_const j (h of_const v) k
reading-sorted s h j (placeholder of_type i) k =
    ap (is_a j) (append-none (as_place of_type (term_at s.own.terms i))) ∙ place-is-a of_type j (as_place of_type (term_at s.own.terms i)) (is-place of_type (term_at s.own.terms i)) k
reading-sorted s h j (placeholder of_const i) k =
    ap (is_a j) (append-none (as_place of_const (term_at s.own.terms i))) ∙ place-is-a of_const j (as_place of_const (term_at s.own.terms i)) (is-place of_const (term_at s.own.terms i)) k
reading-sorted s h of_lifetime l k = absurd k
reading-sorted s h of_type (canonical of_type i) k = refl
reading-sorted s h of_type (canonical of_const i) k = refl
reading-sorted s h of_type (canonical of_lifetime i) k = refl
reading-sorted s h of_const (canonical of_type i) k = refl
reading-sorted s h of_const (canonical of_const i) k = refl
reading-sorted s h of_const (canonical of_lifetime i) k = refl
reading-sorted s h of_type (param of_type i) k = refl
reading-sorted s h of_type (param of_const i) k = refl
reading-sorted s h of_type (param of_lifetime i) k = refl
reading-sorted s h of_const (param of_type i) k = refl
reading-sorted s h of_const (param of_const i) k = refl
reading-sorted s h of_const (param of_lifetime i) k = refl
reading-sorted s h of_type (bound of_type a b) k = refl
reading-sorted s h of_type (bound of_const a b) k = refl
reading-sorted s h of_type (bound of_lifetime a b) k = refl
reading-sorted s h of_const (bound of_type a b) k = refl
reading-sorted s h of_const (bound of_const a b) k = refl
reading-sorted s h of_const (bound of_lifetime a b) k = refl
reading-sorted s h of_type l k = refl
reading-sorted s h of_const l k = refl

-- ---- slots
slot-here : (s : ChosenTerms) (k : Sort) (l : Label) (b : Bool) → is_sort (sort_of l) k ≡ b → is_a k (reading_of s l) ≡ is_sort (sort_of l) k → HasValues k
    → of_sort k (reading_of s l) ≡ read_with (standing s) (leaf (if b then l else default_label k))
slot-here s k l true e h v = sort-of-sort k (reading_of s l) (h ∙ e)
slot-here s of_type l false e h v = not-of-sort of_type (reading_of s l) (h ∙ e)
slot-here s of_const l false e h v = not-of-sort of_const (reading_of s l) (h ∙ e)
slot-here s of_lifetime l false e h v = absurd v

pub slot-term : (s : ChosenTerms) → ((k : Sort) (v : ℕ) → sort_of (s.unknowns k v).0 ≡ k) → (k : Sort) → HasValues k → (ls : List Label) (i : ℕ)
    → of_sort k (term_at (map (reading_of s) ls) i) ≡ read_with (standing s) (leaf (label_of_sort k (label_at ls i)))
slot-term s h of_type v [] i = ap (of_sort of_type) (term-at-none i)
slot-term s h of_const v [] i = ap (of_sort of_const) (term-at-none i)
slot-term s h of_lifetime v [] i = absurd v
slot-term s h k v (l ∷ ls) zero = slot-here s k l (is_sort (sort_of l) k) refl (reading-sorted s h k l v) v
slot-term s h k v (l ∷ ls) (suc i) = slot-term s h k v ls i

-- what is put in the place of a canonical variable is read as its slot
pub put-in-slots : (s : ChosenTerms) → ((k : Sort) (v : ℕ) → sort_of (s.unknowns k v).0 ≡ k) → (ls : List Label) → s.slots ≡ map (reading_of s) ls
    → (l : Label) → IsPutIn (standing s) (given s.slots) l (slot_at ls l)
put-in-slots s h ls e (canonical of_type i) = ap (λ z. Some (of_sort of_type (term_at z i))) e ∙ ap Some (slot-term s h of_type tt ls i)
put-in-slots s h ls e (canonical of_const i) = ap (λ z. Some (of_sort of_const (term_at z i))) e ∙ ap Some (slot-term s h of_const tt ls i)
put-in-slots s h ls e (canonical of_lifetime i) = lifetime (label_at ls i) (is_sort (sort_of (label_at ls i)) of_lifetime) refl
  where
    erased : (l : Label) → is_sort (sort_of l) of_lifetime ≡ true → read_with (standing s) (leaf l) ≡ leaf static
    erased (infer of_lifetime v) q = refl
    erased (param of_lifetime v) q = refl
    erased (placeholder of_lifetime v) q = refl
    erased (canonical of_lifetime v) q = refl
    erased (bound of_lifetime a b) q = refl
    erased static q = refl
    erased l q = absurd (false-true q)

    lifetime : (l : Label) (b : Bool) → is_sort (sort_of l) of_lifetime ≡ b → Some (leaf static) ≡ Some (read_with (standing s) (leaf (if b then l else static)))
    lifetime l true q = ap Some (sym (erased l q))
    lifetime l false q = refl
put-in-slots s h ls e (infer of_type v) = refl
put-in-slots s h ls e (infer of_const v) = refl
put-in-slots s h ls e (infer of_lifetime v) = refl
put-in-slots s h ls e (param of_type v) = refl
put-in-slots s h ls e (param of_const v) = refl
put-in-slots s h ls e (param of_lifetime v) = refl
put-in-slots s h ls e (placeholder of_type v) = refl
put-in-slots s h ls e (placeholder of_const v) = refl
put-in-slots s h ls e (placeholder of_lifetime v) = refl
put-in-slots s h ls e (bound of_type a b) = refl
put-in-slots s h ls e (bound of_const a b) = refl
put-in-slots s h ls e (bound of_lifetime a b) = refl
put-in-slots s h ls e static = refl
put-in-slots s h ls e l = refl

-- ---- canonical variables
-- no good label is a canonical variable
abbrev pub ExcludesCanonical : (Label → Bool) → Type 0
ExcludesCanonical good = (k : Sort) (i : ℕ) → good (canonical k i) ≡ false

good-clean : (good : Label → Bool) → ExcludesCanonical good → (l : Label) → good l ≡ true → IsNoCanonical l
good-clean good e (canonical k i) h = false-true (sym (e k i) ∙ h)
good-clean good e l h = tt

lifetime-clean : (good : Label → Bool) → ExcludesCanonical good → (l : Label) (c o : Trees) → IsLast good l c o → HasNoCanonical (tree l c o)
lifetime-clean good e l c o x = clean-node l c o (good-clean good e l x.good_label) (subst HasNoCanonical (sym x.children) tt) (subst HasNoCanonical (sym x.rest) tt)

pub made-clean : (good : Label → Bool) → ExcludesCanonical good → (m : Standing) (t : Trees) → is_made good m t ≡ true → HasNoCanonical t
made-clean good e terms none h = tt
made-clean good e terms (tree dynamic c o) h = (made-clean good e bounds c (left (is_made good bounds c) (is_made good terms o) h), made-clean good e terms o (right (is_made good bounds c) (is_made good terms o) h))
made-clean good e terms (tree (principal a b) c o) h = absurd (false-true h)
made-clean good e terms (tree (auto_trait a) c o) h = absurd (false-true h)
made-clean good e terms (tree (predicate k) c o) h = absurd (false-true h)
made-clean good e terms (tree l c o) h =
    let x = made-ordinary good l c o refl h in
    clean-node l c o (good-clean good e l x.0) (made-clean good e terms c x.2) (made-clean good e terms o x.3)
made-clean good e bounds none h = absurd (false-true h)
made-clean good e bounds (tree (principal a b) c o) h = (made-clean good e terms c (left (is_made good terms c) (is_made good traits o) h), made-clean good e traits o (right (is_made good terms c) (is_made good traits o) h))
made-clean good e bounds (tree (predicate k) c o) h = absurd (false-true h)
made-clean good e bounds (tree (auto_trait a) c o) h =
    (subst HasNoCanonical (sym (no-tree c (left (is_no_tree c) (is_made good traits o) h))) tt, made-clean good e traits o (right (is_no_tree c) (is_made good traits o) h))
made-clean good e bounds (tree dynamic c o) h = absurd (never-dynamic-bound good c o h)
made-clean good e bounds (tree l c o) h = lifetime-clean good e l c o (last-bound good l c o refl h)
made-clean good e traits none h = absurd (false-true h)
made-clean good e traits (tree (predicate k) c o) h = absurd (false-true h)
made-clean good e traits (tree (auto_trait a) c o) h =
    (subst HasNoCanonical (sym (no-tree c (left (is_no_tree c) (is_made good traits o) h))) tt, made-clean good e traits o (right (is_no_tree c) (is_made good traits o) h))
made-clean good e traits (tree dynamic c o) h = absurd (never-dynamic good c o h)
made-clean good e traits (tree (principal a b) c o) h = absurd (never-principal good a b c o h)
made-clean good e traits (tree l c o) h = lifetime-clean good e l c o (last-trait good l c o refl h)

pub clean-resolved : (good : Label → Bool) → ExcludesCanonical good → (bs : List Binding) → Every (IsValue good) bs → (t : Trees) → HasNoCanonical t → HasNoCanonical (resolved bs t)
clean-resolved good e [] h t q = q
clean-resolved good e (b ∷ older) h t q =
    clean-replace b.sort b.var (resolved older b.value) (resolved older t) (clean-resolved good e older h.1 b.value (made-clean good e terms b.value h.0.made)) (clean-resolved good e older h.1 t q)

label-clean : (ls : List Label) → Every IsNoCanonical ls → (i : ℕ) → IsNoCanonical (label_at ls i)
label-clean [] h i = tt
label-clean (l ∷ ls) h zero = h.0
label-clean (l ∷ ls) h (suc i) = label-clean ls h.1 i

slot-clean : (ls : List Label) → Every IsNoCanonical ls → (k : Sort) (i : ℕ) → IsNoCanonical (label_of_sort k (label_at ls i))
slot-clean ls h k i = by (is_sort (sort_of (label_at ls i)) k) k (label-clean ls h i)
  where
    by : (b : Bool) (k : Sort) → IsNoCanonical (label_at ls i) → IsNoCanonical (if b then label_at ls i else default_label k)
    by true k c = c
    by false of_type c = tt
    by false of_const c = tt
    by false of_lifetime c = tt

put-clean : (ls : List Label) → Every IsNoCanonical ls → (t : Trees) → HasNoCanonical (put_in (slot_at ls) t)
put-clean ls h none = tt
put-clean ls h (tree l c o) = node l (put_in (slot_at ls) c) (put_in (slot_at ls) o) (put-clean ls h c) (put-clean ls h o)
  where
    default : (k : Sort) → HasNoCanonical (leaf (default_label k))
    default of_type = (tt, tt)
    default of_const = (tt, tt)
    default of_lifetime = (tt, tt)

    node : (l : Label) (d p : Trees) → HasNoCanonical d → HasNoCanonical p → HasNoCanonical (put_at_node (slot_at ls l) (tree l d none) +++ p)
    node (canonical k i) d p a b = clean-append (leaf (label_of_sort k (label_at ls i))) p (clean-node (label_of_sort k (label_at ls i)) none none (slot-clean ls h k i) tt tt) b
    node (infer k v) d p a b = clean-append (leaf (default_label k)) p (default k) b
    node (param k v) d p a b = clean-append (leaf (default_label k)) p (default k) b
    node (placeholder k v) d p a b = clean-append (leaf (default_label k)) p (default k) b
    node static d p a b = clean-append (leaf static) p (tt, tt) b
    node (bound of_type i j) d p a b = (a, b)
    node (bound of_const i j) d p a b = (a, b)
    node (bound of_lifetime i j) d p a b = clean-append (leaf (bound of_lifetime i j)) p (tt, tt) b
    node l d p a b = (a, b)

-- ---- leaves of a canonical form
pub term-place : (f : Label → Trees) (l : Label) (ls : List Label) → is_label_among l ls ≡ true → term_at (map f ls) (place_of l ls) ≡ f l
term-place f l [] h = absurd (false-true h)
term-place f l (m ∷ ms) h = by (same_label m l) refl h (term-place f l ms)
  where
    by : (b : Bool) → same_label m l ≡ b → (b || is_label_among l ms) ≡ true → (is_label_among l ms ≡ true → term_at (map f ms) (place_of l ms) ≡ f l)
        → term_at (map f (m ∷ ms)) (if b then zero else suc (place_of l ms)) ≡ f l
    by true e q r = ap f (same-label-sound m l e)
    by false e q r = r q

module _ (s : ChosenTerms) (sorted : (k : Sort) (v : ℕ) → sort_of (s.unknowns k v).0 ≡ k) (ls : List Label) where
  abbrev leaves_read : List Trees
  leaves_read = map (reading_of s) ls

  term-of : (k : Sort) (l : Label) (x : Trees) → HasValues k → sort_of l ≡ k → standing s l ≡ Some x → is_label_among l ls ≡ true → Some (of_sort k (term_at leaves_read (place_of l ls))) ≡ standing s l
  term-of k l x v e h a =
      let here : is_a k (reading_of s l) ≡ true = reading-sorted s sorted k l v ∙ ap (λ z. is_sort z k) e ∙ self k v in
      ap (λ z. Some (of_sort k z)) (term-place (reading_of s) l ls a) ∙ ap Some (sort-of-sort k (reading_of s l) here ∙ read-leaf (standing s) l x h) ∙ sym h
    where
      self : (k : Sort) → HasValues k → is_sort k k ≡ true
      self of_type v = refl
      self of_const v = refl
      self of_lifetime v = refl

  abbrev IsListed : OpenKinds → Label → Type 0
  IsListed kind l = IsSome (kind l) → is_label_among l ls ≡ true

  open-carries : (l m : Label) (x : Trees) → standing s l ≡ Some x → given leaves_read m ≡ standing s l → Carries (given leaves_read) (standing s) l m
  open-carries l m x h e = record { stands = e; erased = λ n. some-none x (erase_label m ≡ erase_label l) (sym h ∙ n) }

  same-carries : (l : Label) → given leaves_read l ≡ standing s l → Carries (given leaves_read) (standing s) l l
  same-carries l e = record { stands = e; erased = λ n. refl }

  carries : (l : Label) → IsNoCanonical l → IsListed kind_of_leaf l → Carries (given leaves_read) (standing s) l (if is_some (kind_of_leaf l) then canonical_label ls l else l)
  carries (canonical k i) c h = absurd c
  carries (infer of_type v) c h = let x = tree_of (s.unknowns of_type v) in open-carries (infer of_type v) _ x refl (term-of of_type (infer of_type v) x tt refl refl (h refl))
  carries (infer of_const v) c h = let x = tree_of (s.unknowns of_const v) in open-carries (infer of_const v) _ x refl (term-of of_const (infer of_const v) x tt refl refl (h refl))
  carries (infer of_lifetime v) c h = open-carries (infer of_lifetime v) _ (leaf static) refl refl
  carries (param of_type v) c h = open-carries (param of_type v) _ (leaf (param of_type v)) refl (term-of of_type (param of_type v) (leaf (param of_type v)) tt refl refl (h refl))
  carries (param of_const v) c h = open-carries (param of_const v) _ (leaf (param of_const v)) refl (term-of of_const (param of_const v) (leaf (param of_const v)) tt refl refl (h refl))
  carries (param of_lifetime v) c h = open-carries (param of_lifetime v) _ (leaf static) refl refl
  carries (placeholder of_type v) c h = let x = as_place of_type (term_at s.own.terms v) in open-carries (placeholder of_type v) _ x refl (term-of of_type (placeholder of_type v) x tt refl refl (h refl))
  carries (placeholder of_const v) c h = let x = as_place of_const (term_at s.own.terms v) in open-carries (placeholder of_const v) _ x refl (term-of of_const (placeholder of_const v) x tt refl refl (h refl))
  carries (placeholder of_lifetime v) c h = open-carries (placeholder of_lifetime v) _ (leaf static) refl refl
  carries static c h = open-carries static _ (leaf static) refl refl
  carries (bound of_type a b) c h = same-carries (bound of_type a b) refl
  carries (bound of_const a b) c h = same-carries (bound of_const a b) refl
  carries (bound of_lifetime a b) c h = same-carries (bound of_lifetime a b) refl
  carries l c h = same-carries l refl

  carries-in-clause : (l : Label) → IsNoCanonical l → IsListed kind_in_clause l → Carries (given leaves_read) (standing s) l (if is_some (kind_in_clause l) then canonical_label ls l else l)
  carries-in-clause static c h = same-carries static refl
  carries-in-clause (canonical k i) c h = absurd c
  carries-in-clause (infer k v) c h = carries (infer k v) c h
  carries-in-clause (param k v) c h = carries (param k v) c h
  carries-in-clause (placeholder k v) c h = carries (placeholder k v) c h
  carries-in-clause (bound k a b) c h = carries (bound k a b) c h
  carries-in-clause l c h = same-carries l refl

  each-label : (kind : OpenKinds) (P : Label → Type 0) → ((l : Label) → IsNoCanonical l → IsListed kind l → P l)
      → (t : Trees) → HasNoCanonical t → ((l : Label) → StandsIn kind t l → is_label_among l ls ≡ true) → EachLabel P t
  each-label kind P f none h a = tt
  each-label kind P f (tree l c o) h a =
      let x = clean-parts l c o h in
      (f l x.0 (λ i. a l (inl (refl, i))), each-label kind P f c x.1 (λ m i. a m (inr (inl i))), each-label kind P f o x.2 (λ m i. a m (inr (inr i))))

  fits-label : (l : Label) → fits_kind (kind_of_leaf l) (reading_of s l) ≡ true
  fits-label (infer of_type v) = reading-sorted s sorted of_type (infer of_type v) tt
  fits-label (infer of_const v) = reading-sorted s sorted of_const (infer of_const v) tt
  fits-label (infer of_lifetime v) = refl
  fits-label (param of_type v) = refl
  fits-label (param of_const v) = refl
  fits-label (param of_lifetime v) = refl
  fits-label (placeholder of_type v) = let t = term_at s.own.terms v in ap (is_place of_type) (append-none (as_place of_type t)) ∙ is-place of_type t
  fits-label (placeholder of_const v) = let t = term_at s.own.terms v in ap (is_place of_const) (append-none (as_place of_const t)) ∙ is-place of_const t
  fits-label (placeholder of_lifetime v) = refl
  fits-label static = refl
  fits-label l = refl

fits-leaves : (s : ChosenTerms) → ((k : Sort) (v : ℕ) → sort_of (s.unknowns k v).0 ≡ k) → (ls : List Label) → fits (map kind_of_leaf ls) (map (reading_of s) ls) ≡ true
fits-leaves s h [] = refl
fits-leaves s h (l ∷ ls) = ap (λ b. b && fits (map kind_of_leaf ls) (map (reading_of s) ls)) (fits-label s h ls l) ∙ fits-leaves s h ls

-- ---- instances
-- the canonical form read with what stands for its leaves is the goal
read-form : (s : ChosenTerms) → ((k : Sort) (v : ℕ) → sort_of (s.unknowns k v).0 ≡ k) → (g : GoalTrees) → HasNoCanonical g.environment → HasNoCanonical g.predicate
    → goal_read (given (map (reading_of s) (goal_leaves g))) (renamed (canonical_label (goal_leaves g)) g) ≡ goal_read (standing s) g
read-form s h g e p =
    let ls = goal_leaves g in
    let q = given (map (reading_of s) ls) in
    same-goal _ _ _ _
    (read-relabeled q (standing s) kind_in_clause (canonical_label ls) g.environment
    (each-label s h ls kind_in_clause _ (carries-in-clause s h ls) g.environment e
    (λ l i. leaves-keep kind_of_leaf l (leaves kind_in_clause [] g.environment) g.predicate (leaves-hold kind_in_clause l [] g.environment i))))
    (read-relabeled q (standing s) kind_of_leaf (canonical_label ls) g.predicate
    (each-label s h ls kind_of_leaf _ (carries s h ls) g.predicate p
    (λ l i. leaves-hold kind_of_leaf l (leaves kind_in_clause [] g.environment) g.predicate i)))
  where
    same-goal : (a b c d : Trees) → a ≡ b → c ≡ d → ◌≡◌ {A = GoalTrees} (record { environment = a; predicate = c }) (record { environment = b; predicate = d })
    same-goal a b c d x y = cc

same-fact : (i j : Option ℕ) (g h : GoalTrees) (a b : Bool) → i ≡ j → g ≡ h → a ≡ b → ◌≡◌ {A = Fact} (record { trait = i; goal = g; proper = a }) (record { trait = j; goal = h; proper = b })
same-fact i j g h a b w x y = cc

same-goals : (a b c d : Trees) → a ≡ b → c ≡ d → ◌≡◌ {A = GoalTrees} (record { environment = a; predicate = c }) (record { environment = b; predicate = d })
same-goals a b c d x y = cc

pub excludes-canonical : (t : FrameTable) → ExcludesCanonical (is_good t.kinds t.content.ty_vars t.content.const_vars)
excludes-canonical t k i = refl

read-goal-in : (t : FrameTable) (n : Nested) (s : ChosenTerms) → Allows t s → goal_read (standing s) (goal_in t n) ≡ goal_read (given s.slots) n.goal
read-goal-in t n s a =
    let part = λ (x : Trees). read-resolved (is_good t.kinds t.content.ty_vars t.content.const_vars) s t.content.bindings a.made.table.values a.hold (put_in (slot_at t.labels) x)
    ∙ read-put (standing s) (given s.slots) (slot_at t.labels) (put-in-slots s a.sorted t.labels a.slots) x in
    same-goals _ _ _ _ (part n.goal.environment) (part n.goal.predicate)

labels-clean : (good : Label → Bool) → ExcludesCanonical good → (ls : List Label) → Every (λ l. is_made good terms (leaf l) ≡ true) ls → Every IsNoCanonical ls
labels-clean good e [] h = tt
labels-clean good e (l ∷ ls) h = ((clean-parts l none none (made-clean good e terms (leaf l) h.0)).0, labels-clean good e ls h.1)

pub instance_of_question : InstanceOfQuestion
instance_of_question t n s a =
    let good = is_good t.kinds t.content.ty_vars t.content.const_vars in
    let clean = λ (x : Trees). clean-resolved good (excludes-canonical t) t.content.bindings a.made.table.values (put_in (slot_at t.labels) x)
    (put-clean t.labels (labels-clean good (excludes-canonical t) t.labels a.made.leaves) x) in
    same-fact _ _ _ _ _ _ (trait-of-question t a.made n)
    (read-form s a.sorted (goal_in t n) (clean n.goal.environment) (clean n.goal.predicate) ∙ read-goal-in t n s a)
    (ap (λ b. s.proper && b) (fits-leaves s a.sorted (goal_leaves (goal_in t n))) ∙ and-true s.proper)
