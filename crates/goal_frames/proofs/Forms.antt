-- A list of rules decides the canonical form of each goal without where-clauses.
use Rattle.std.proofs.Common.{◌≡◌, ℕ, zero, suc, ◌==◌, Bool, true, false, not, ◌&&◌, ◌||◌, List, [], ◌∷◌, ◌++◌, map, length, inl, inr, refl, sym, ◌∙◌, ap, subst, Option, Some, None, if◌then◌else◌, is_some}
use Rattle.std.specs.Prelude.{IsSome}
use Rattle.type_terms.specs.Promised.Label.{Label, of_type, of_const, of_lifetime, infer, param, placeholder, canonical, static, dynamic, principal, auto_trait, predicate}
use Rattle.type_terms.specs.Promised.Trees.{Trees, none, tree, sort_of, is_sort, some_node}
use Rattle.type_terms.specs.Trees.{is_no_tree}
use Rattle.type_terms.specs.Codes.{same_label}
use Rattle.type_terms.proofs.Matching.{same-label-sound}
use Rattle.type_terms.specs.Made.{Standing, terms, bounds, traits, is_leaf_label, is_made}
use Rattle.infer_table.specs.Canonical.{kind_of_leaf, StandsIn, relabeled, is_label_among, with_label, leaves, place_of, canonical_label}
use Rattle.infer_table.specs.declared.canonical.CanonicalVarKind.{CanonicalVarKind}
use Rattle.infer_table.proofs.CanonicalLaws.{leaves-hold}
use Rattle.goal_evaluator.specs.Lists.{Every}
use Rattle.goal_evaluator.specs.FrameTables.{kind_at}
use Rattle.goal_evaluator.specs.TableAnswers.{is_kind_of, with_kind, kinds_of_labels}
use Rattle.type_terms.proofs.Made.{false-true, left, right, both, no-tree, is_ordinary, made-ordinary, makes-ordinary, IsLast, last-bound, last-trait, never-dynamic, never-dynamic-bound, never-principal}
use Rattle.goal_evaluator.proofs.Reading.{EachLabel}
use Rattle.goal_evaluator.proofs.Nodes.{every-leaf}
use Rattle.goal_frames.specs.Rules.{TraitBound}
use Rattle.goal_evaluator.specs.Variables.{is_variable_over}
use Rattle.goal_frames.specs.Handlers.{with_first, all_known, is_variable_label, places_stand, asked_with}
use Rattle.goal_frames.specs.Forms.{is_unnumbered, CanonicalGoalsAreAsked}
use Rattle.goal_evaluator.proofs.FirstAnswers.{AreFresh, append-list, length-more, place-is}
use Rattle.type_terms.proofs.TermBasics.{is_sort-self as sort-self}
use Rattle.type_terms.proofs.NumberBasics.{number-self}
use Rattle.type_terms.proofs.BooleanBasics.{either-last as or-right}

-- ---- kinds of open leaves
abbrev AreOpen : List Label → Type 0
AreOpen ls = Every (λ l. IsSome (kind_of_leaf l)) ls

pub known-next : (o : Option CanonicalVarKind) (ks : List CanonicalVarKind) → is_some o ≡ true → with_first o (Some ks) ≡ Some (with_kind o ks)
known-next None ks h = absurd (false-true h)
known-next (Some k) ks h = refl

known-kinds : (ls : List Label) → AreOpen ls → all_known (map kind_of_leaf ls) ≡ Some (kinds_of_labels ls)
known-kinds [] h = refl
known-kinds (l ∷ ls) h = ap (with_first (kind_of_leaf l)) (known-kinds ls h.1) ∙ known-next (kind_of_leaf l) (kinds_of_labels ls) h.0

pub kind-first : (o : Option CanonicalVarKind) (ks : List CanonicalVarKind) → is_some o ≡ true → kind_at (with_kind o ks) zero ≡ o
kind-first None ks h = absurd (false-true h)
kind-first (Some k) ks h = refl

pub kind-later : (o : Option CanonicalVarKind) (ks : List CanonicalVarKind) (i : ℕ) → is_some o ≡ true → kind_at (with_kind o ks) (suc i) ≡ kind_at ks i
kind-later None ks i h = absurd (false-true h)
kind-later (Some k) ks i h = refl

pub kind-place : (ls : List Label) → AreOpen ls → (l : Label) → is_label_among l ls ≡ true → kind_at (kinds_of_labels ls) (place_of l ls) ≡ kind_of_leaf l
kind-place [] h l a = absurd (false-true a)
kind-place (m ∷ ls) h l a = by (same_label m l) refl a (λ f. kind-place ls h.1 l f)
  where
    by : (b : Bool) → same_label m l ≡ b → (b || is_label_among l ls) ≡ true → (is_label_among l ls ≡ true → kind_at (kinds_of_labels ls) (place_of l ls) ≡ kind_of_leaf l)
        → kind_at (with_kind (kind_of_leaf m) (kinds_of_labels ls)) (if b then zero else suc (place_of l ls)) ≡ kind_of_leaf l
    by true q f g = kind-first (kind_of_leaf m) (kinds_of_labels ls) h.0 ∙ ap kind_of_leaf (same-label-sound m l q)
    by false q f g = kind-later (kind_of_leaf m) (kinds_of_labels ls) (place_of l ls) h.0 ∙ g f

pub open-kind : (l : Label) → is_some (kind_of_leaf l) ≡ true → is_kind_of (sort_of l) (kind_of_leaf l) ≡ true
open-kind (infer of_type v) h = refl
open-kind (infer of_const v) h = refl
open-kind (infer of_lifetime v) h = refl
open-kind (param of_type v) h = refl
open-kind (param of_const v) h = refl
open-kind (param of_lifetime v) h = refl
open-kind (placeholder of_type v) h = refl
open-kind (placeholder of_const v) h = refl
open-kind (placeholder of_lifetime v) h = refl
open-kind static h = refl
open-kind l h = absurd (false-true h)

-- ---- numbered terms are made
module _ (ls : List Label) (opens : AreOpen ls) where
  abbrev numbered : Label → Label
  numbered l = if is_some (kind_of_leaf l) then canonical_label ls l else l

  abbrev over : Label → Bool
  over l = is_variable_over (kinds_of_labels ls) l

  abbrev IsListed : Label → Type 0
  IsListed l = is_some (kind_of_leaf l) ≡ true → is_label_among l ls ≡ true

  stays-over : (l : Label) → is_unnumbered l ≡ true → is_some (kind_of_leaf l) ≡ false → over l ≡ true
  stays-over (canonical k i) g e = absurd (false-true g)
  stays-over (infer of_type v) g e = absurd (false-true (sym e))
  stays-over (infer of_const v) g e = absurd (false-true (sym e))
  stays-over (infer of_lifetime v) g e = absurd (false-true (sym e))
  stays-over (param of_type v) g e = absurd (false-true (sym e))
  stays-over (param of_const v) g e = absurd (false-true (sym e))
  stays-over (param of_lifetime v) g e = absurd (false-true (sym e))
  stays-over (placeholder of_type v) g e = absurd (false-true (sym e))
  stays-over (placeholder of_const v) g e = absurd (false-true (sym e))
  stays-over (placeholder of_lifetime v) g e = absurd (false-true (sym e))
  stays-over l g e = refl

  -- an ordinary label stays ordinary, good, of its sort, and a leaf if it becomes one
  record Stays (l m : Label) : Type 0 where
    pub ordinary : is_ordinary m ≡ true
    pub good : over m ≡ true
    pub sort : sort_of m ≡ sort_of l
    pub leaf : is_leaf_label l ≡ false → is_leaf_label m ≡ false

  open-leaf : (l : Label) → is_some (kind_of_leaf l) ≡ true → is_leaf_label l ≡ true
  open-leaf (infer k v) h = refl
  open-leaf (param k v) h = refl
  open-leaf (placeholder k v) h = refl
  open-leaf static h = refl
  open-leaf (canonical k v) h = refl
  open-leaf l h = absurd (false-true h)

  stays : (l : Label) → is_ordinary l ≡ true → is_unnumbered l ≡ true → IsListed l → Stays l (numbered l)
  stays l i g a = by (is_some (kind_of_leaf l)) refl
    where
      by : (b : Bool) → is_some (kind_of_leaf l) ≡ b → Stays l (if b then canonical_label ls l else l)
      by true e = record { ordinary = refl; good = ap (is_kind_of (sort_of l)) (kind-place ls opens l (a e)) ∙ open-kind l e; sort = refl; leaf = λ f. absurd (false-true (sym f ∙ open-leaf l e)) }
      by false e = record { ordinary = i; good = stays-over l g e; sort = refl; leaf = λ f. f }

  leaf-stays : (l m : Label) (c d : Trees) → Stays l m → (c ≡ none → d ≡ none) → (not (is_leaf_label l) || is_no_tree c) ≡ true → (not (is_leaf_label m) || is_no_tree d) ≡ true
  leaf-stays l m c d s n h = by (is_leaf_label l) refl h
    where
      or-true : (b : Bool) → (not b || true) ≡ true
      or-true true = refl
      or-true false = refl

      by : (b : Bool) → is_leaf_label l ≡ b → (not b || is_no_tree c) ≡ true → (not (is_leaf_label m) || is_no_tree d) ≡ true
      by true e h = ap (λ z. not (is_leaf_label m) || is_no_tree z) (n (no-tree c h)) ∙ or-true (is_leaf_label m)
      by false e h = ap (λ b. not b || is_no_tree d) (s.leaf e)

  last-made : (m : Label) → is_ordinary m ≡ true → over m ≡ true → is_sort (sort_of m) of_lifetime ≡ true → (is_made over traits (tree m none none) ≡ true) × (is_made over bounds (tree m none none) ≡ true)
  last-made dynamic i g e = absurd (false-true i)
  last-made (principal a b) i g e = absurd (false-true i)
  last-made (auto_trait a) i g e = absurd (false-true i)
  last-made (predicate k) i g e = absurd (false-true i)
  last-made m i g e = (both (over m) _ g (both (is_sort (sort_of m) of_lifetime) _ e refl), both (over m) _ g (both (is_sort (sort_of m) of_lifetime) _ e refl))

  ordinary-lifetime : (l : Label) → is_sort (sort_of l) of_lifetime ≡ true → is_ordinary l ≡ true
  ordinary-lifetime dynamic e = absurd (false-true e)
  ordinary-lifetime (principal a b) e = absurd (false-true e)
  ordinary-lifetime (auto_trait a) e = absurd (false-true e)
  ordinary-lifetime (predicate k) e = absurd (false-true e)
  ordinary-lifetime l e = refl

  abbrev renumbered : Trees → Trees
  renumbered t = relabeled kind_of_leaf (canonical_label ls) t

  last-renumbered : (l : Label) (c o : Trees) → IsLast is_unnumbered l c o → IsListed l → (is_made over traits (renumbered (tree l c o)) ≡ true) × (is_made over bounds (renumbered (tree l c o)) ≡ true)
  last-renumbered l c o x a =
      let s = stays l (ordinary-lifetime l x.lifetime) x.good_label a in
      subst (λ z. (is_made over traits (renumbered (tree l z o)) ≡ true) × (is_made over bounds (renumbered (tree l z o)) ≡ true)) (sym x.children)
      (subst (λ z. (is_made over traits (renumbered (tree l none z)) ≡ true) × (is_made over bounds (renumbered (tree l none z)) ≡ true)) (sym x.rest)
      (last-made (numbered l) s.ordinary s.good (ap (λ z. is_sort z of_lifetime) s.sort ∙ x.lifetime)))

  none-renumbered : (c : Trees) → c ≡ none → renumbered c ≡ none
  none-renumbered c e = ap renumbered e

  made-renumbered : (m : Standing) (t : Trees) → is_made is_unnumbered m t ≡ true → EachLabel IsListed t → is_made over m (renumbered t) ≡ true
  made-renumbered terms none h a = refl
  made-renumbered terms (tree dynamic c o) h a =
      both (is_made over bounds (renumbered c)) (is_made over terms (renumbered o)) (made-renumbered bounds c (left (is_made is_unnumbered bounds c) (is_made is_unnumbered terms o) h) a.1) (made-renumbered terms o (right (is_made is_unnumbered bounds c) (is_made is_unnumbered terms o) h) a.2)
  made-renumbered terms (tree (principal i j) c o) h a = absurd (false-true h)
  made-renumbered terms (tree (auto_trait i) c o) h a = absurd (false-true h)
  made-renumbered terms (tree (predicate k) c o) h a = absurd (false-true h)
  made-renumbered terms (tree l c o) h a =
      let x = made-ordinary is_unnumbered l c o refl h in
      let s = stays l refl x.0 a.0 in
      makes-ordinary over (numbered l) (renumbered c) (renumbered o) s.ordinary s.good (leaf-stays l (numbered l) c (renumbered c) s (none-renumbered c) x.1) (made-renumbered terms c x.2 a.1) (made-renumbered terms o x.3 a.2)
  made-renumbered bounds none h a = absurd (false-true h)
  made-renumbered bounds (tree (principal i j) c o) h a =
      both (is_made over terms (renumbered c)) (is_made over traits (renumbered o)) (made-renumbered terms c (left (is_made is_unnumbered terms c) (is_made is_unnumbered traits o) h) a.1) (made-renumbered traits o (right (is_made is_unnumbered terms c) (is_made is_unnumbered traits o) h) a.2)
  made-renumbered bounds (tree (predicate k) c o) h a = absurd (false-true h)
  made-renumbered bounds (tree (auto_trait i) c o) h a =
      both (is_no_tree (renumbered c)) (is_made over traits (renumbered o)) (ap is_no_tree (none-renumbered c (no-tree c (left (is_no_tree c) (is_made is_unnumbered traits o) h)))) (made-renumbered traits o (right (is_no_tree c) (is_made is_unnumbered traits o) h) a.2)
  made-renumbered bounds (tree dynamic c o) h a = absurd (never-dynamic-bound is_unnumbered c o h)
  made-renumbered bounds (tree l c o) h a = (last-renumbered l c o (last-bound is_unnumbered l c o refl h) a.0).1
  made-renumbered traits none h a = absurd (false-true h)
  made-renumbered traits (tree (predicate k) c o) h a = absurd (false-true h)
  made-renumbered traits (tree (auto_trait i) c o) h a =
      both (is_no_tree (renumbered c)) (is_made over traits (renumbered o)) (ap is_no_tree (none-renumbered c (no-tree c (left (is_no_tree c) (is_made is_unnumbered traits o) h)))) (made-renumbered traits o (right (is_no_tree c) (is_made is_unnumbered traits o) h) a.2)
  made-renumbered traits (tree dynamic c o) h a = absurd (never-dynamic is_unnumbered c o h)
  made-renumbered traits (tree (principal i j) c o) h a = absurd (never-principal is_unnumbered i j c o h)
  made-renumbered traits (tree l c o) h a = (last-renumbered l c o (last-trait is_unnumbered l c o refl h) a.0).0

  -- ---- a leaf stands at its number
  or-left : (a b c : Bool) → a ≡ true → (a || b || c) ≡ true
  or-left true b c h = refl
  or-left false b c h = absurd (false-true h)

  or-middle : (a b c : Bool) → b ≡ true → (a || b || c) ≡ true
  or-middle true b c h = refl
  or-middle false true c h = refl
  or-middle false false c h = absurd (false-true h)

  numbered-variable : (l m : Label) → m ≡ l → IsSome (kind_of_leaf m) → is_variable_label (sort_of l) (place_of l ls) (numbered m) ≡ true
  numbered-variable l m e i =
      ap (λ z. is_variable_label (sort_of l) (place_of l ls) (numbered z)) e
      ∙ ap (λ b. is_variable_label (sort_of l) (place_of l ls) (if b then canonical_label ls l else l)) (sym (ap (λ z. is_some (kind_of_leaf z)) e) ∙ i)
      ∙ ap (λ b. b && (place_of l ls == place_of l ls)) (sort-self (sort_of l)) ∙ number-self (place_of l ls)

  stands-numbered : (l : Label) (t : Trees) → StandsIn kind_of_leaf t l → some_node (is_variable_label (sort_of l) (place_of l ls)) (renumbered t) ≡ true
  stands-numbered l none s = absurd s
  stands-numbered l (tree m c o) (inl x) = or-left (is_variable_label (sort_of l) (place_of l ls) (numbered m)) _ _ (numbered-variable l m x.0 x.1)
  stands-numbered l (tree m c o) (inr (inl s)) = or-middle (is_variable_label (sort_of l) (place_of l ls) (numbered m)) _ _ (stands-numbered l c s)
  stands-numbered l (tree m c o) (inr (inr s)) = or-right (is_variable_label (sort_of l) (place_of l ls) (numbered m)) _ _ (stands-numbered l o s)

-- ---- leaves are collected once each
fresh-last : (seen xs : List Label) (l : Label) → AreFresh seen xs → is_some (kind_of_leaf l) ≡ true → is_label_among l (seen ++ xs) ≡ false → AreFresh seen (xs ++ l ∷ [])
fresh-last seen [] l f i a = (i, ap (is_label_among l) (sym (append-nil seen)) ∙ a, tt)
  where
    append-nil : (xs : List Label) → xs ++ [] ≡ xs
    append-nil [] = refl
    append-nil (x ∷ xs) = ap (λ z. x ∷ z) (append-nil xs)
fresh-last seen (x ∷ xs) l f i a = (f.0, f.1, fresh-last (seen ++ x ∷ []) xs l f.2 i (ap (is_label_among l) (append-list seen x xs) ∙ a))

fresh-leaf : (l : Label) (seen : List Label) → AreFresh [] seen → AreFresh [] (if is_some (kind_of_leaf l) then with_label l seen else seen)
fresh-leaf l seen f = by (is_some (kind_of_leaf l)) refl (is_label_among l seen) refl
  where
    by : (b : Bool) → is_some (kind_of_leaf l) ≡ b → (c : Bool) → is_label_among l seen ≡ c → AreFresh [] (if b then (if c then seen else seen ++ l ∷ []) else seen)
    by false e c q = f
    by true e true q = f
    by true e false q = fresh-last [] seen l f e q

fresh-leaves : (seen : List Label) (t : Trees) → AreFresh [] seen → AreFresh [] (leaves kind_of_leaf seen t)
fresh-leaves seen none f = f
fresh-leaves seen (tree l c o) f =
    fresh-leaves (leaves kind_of_leaf (if is_some (kind_of_leaf l) then with_label l seen else seen) c) o
    (fresh-leaves (if is_some (kind_of_leaf l) then with_label l seen else seen) c (fresh-leaf l seen f))

fresh-open : (seen ls : List Label) → AreFresh seen ls → AreOpen ls
fresh-open seen [] f = tt
fresh-open seen (l ∷ ls) f = (f.0, fresh-open (seen ++ l ∷ []) ls f.2)

-- ---- placeholders stand in the numbered terms
place-next : (l : Label) (i : ℕ) (ks : List CanonicalVarKind) (x : Trees) → is_some (kind_of_leaf l) ≡ true → some_node (is_variable_label (sort_of l) i) x ≡ true → places_stand (suc i) ks x ≡ true
    → places_stand i (with_kind (kind_of_leaf l) ks) x ≡ true
place-next (infer of_type v) i ks x h s r = r
place-next (infer of_const v) i ks x h s r = r
place-next (infer of_lifetime v) i ks x h s r = r
place-next (param of_type v) i ks x h s r = both (some_node (is_variable_label of_type i) x) _ s r
place-next (param of_const v) i ks x h s r = both (some_node (is_variable_label of_const i) x) _ s r
place-next (param of_lifetime v) i ks x h s r = r
place-next (placeholder of_type v) i ks x h s r = both (some_node (is_variable_label of_type i) x) _ s r
place-next (placeholder of_const v) i ks x h s r = both (some_node (is_variable_label of_const i) x) _ s r
place-next (placeholder of_lifetime v) i ks x h s r = r
place-next static i ks x h s r = r
place-next l i ks x h s r = absurd (false-true h)

places : (all seen ls : List Label) (x : Trees) → all ≡ seen ++ ls → AreFresh seen ls → Every (λ l. some_node (is_variable_label (sort_of l) (place_of l all)) x ≡ true) ls
    → places_stand (length seen) (kinds_of_labels ls) x ≡ true
places all seen [] x e f s = refl
places all seen (l ∷ ls) x e f s =
    place-next l (length seen) (kinds_of_labels ls) x f.0 (ap (λ n. some_node (is_variable_label (sort_of l) n) x) (sym (ap (place_of l) e ∙ place-is seen l ls f.1)) ∙ s.0)
    (ap (λ n. places_stand n (kinds_of_labels ls) x) (sym (length-more seen l)) ∙ places all (seen ++ l ∷ []) ls x (e ∙ sym (append-list seen l ls)) f.2 s.1)

-- ---- goals
each-listed : (ls : List Label) (t : Trees) → ((l : Label) → StandsIn kind_of_leaf t l → is_label_among l ls ≡ true) → EachLabel (λ l. is_some (kind_of_leaf l) ≡ true → is_label_among l ls ≡ true) t
each-listed ls none h = tt
each-listed ls (tree l c o) h = (λ i. h l (inl (refl, i)), each-listed ls c (λ m s. h m (inr (inl s))), each-listed ls o (λ m s. h m (inr (inr s))))

pub canonical-goals-are-asked : CanonicalGoalsAreAsked
canonical-goals-are-asked b m =
    let ls = leaves kind_of_leaf [] b.arguments in
    let fresh = fresh-leaves [] b.arguments tt in
    let opens = fresh-open [] ls fresh in
    let x = renumbered ls opens b.arguments in
    let made = made-renumbered ls opens terms b.arguments m (each-listed ls b.arguments (λ l s. leaves-hold kind_of_leaf l [] b.arguments s)) in
    let stand = places ls [] ls x refl fresh
    (every-leaf kind_of_leaf (λ l. some_node (is_variable_label (sort_of l) (place_of l ls)) x ≡ true) [] b.arguments tt (λ l s. stands-numbered ls opens l b.arguments s)) in
    let here : TraitBound = record { trait = b.trait; arguments = x } in (
      record { kinds = kinds_of_labels ls; bound = here },
      ap (λ o. asked_with o (Some here)) (known-kinds ls opens)
          ∙ ap (λ z. if z then Some (record { kinds = kinds_of_labels ls; bound = here }) else None) (both (is_made (is_variable_over (kinds_of_labels ls)) terms x) _ made stand),
      refl,
    )
