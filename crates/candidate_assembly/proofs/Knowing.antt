-- Walks do not see lifetimes, and where all names of a reference are declared so is what its walk meets.
use Rattle.std.proofs.Common.{◌≡◌, ◌<◌, arith, ℕ, refl, sym, ap, subst, ◌∙◌, Bool, true, false, ◌&&◌, ◌||◌, not, if◌then◌else◌, List, [], ◌∷◌, ◌++◌, map, Option, Some, None, cond}
use Rattle.std.specs.Prelude.{◌==◌, filter, Result, Ok, Err, is_ok}
use Rattle.std.specs.List.{list_any, list_all}
use Rattle.type_terms.specs.Promised.Label.{of_type, of_const, of_lifetime, adt, ref, dynamic, principal, param, placeholder, infer, canonical, bound, value, static}
use Rattle.type_terms.specs.Promised.Trees.{Trees, none, tree, some_node}
use Rattle.type_terms.specs.Trees.{depth}
use Rattle.type_terms.specs.Promised.Worlds.{World, Reference, StructDecl, TraitDecl}
use Rattle.type_terms.specs.Promised.Erased.{erased_world, erased_struct, erased_trait, erased_reference}
use Rattle.type_terms.specs.Promised.Walks.{Met, local, struct_leaf, dyn_leaf, entered, other_leaf, open_place, struct_is, trait_is, is_home, dyn_met, visited, until_decisive, ends_local, walk, open_walk, item_in, is_known_in}
use Rattle.type_terms.specs.Promised.Answers.{written_in, is_undeclared, is_open, is_closed}
use Rattle.type_terms.specs.Promised.Versions.{is_open_place}
use Rattle.type_terms.specs.Promised.Handles.{Entry, trees_at}
use Rattle.type_terms.proofs.Made.{left, right}
use Rattle.term_folds.specs.declared.predicate.TraitRef.{TraitRef}
use Rattle.infer_table.specs.Solutions.{resolved}
use Rattle.infer_table.specs.Content.{Table, content}
use Rattle.declarations.specs.Items.{Items, reference_in, written, declared}
use Rattle.orphan_check.specs.declared.errors.Conflict.{Conflict}
use Rattle.orphan_check.specs.declared.errors.Conflict.TheVariants.{Upstream, Downstream}
use Rattle.orphan_check.specs.declared.errors.WalkError.{WalkError}
use Rattle.orphan_check.specs.declared.errors.WalkError.TheVariants.{Deep}
use Rattle.orphan_check.specs.Exact.{reference_read, WalkTellsKnown, IsKnownOf}
use Rattle.orphan_check.specs.Knowing.{meets_open, is_knowable, is_written_in}
use Rattle.orphan_check.proofs.Visiting.{erased-visits}
use Rattle.type_terms.proofs.Walking.{each-append}
use Rattle.std.proofs.lemmas.Bool.{not-true, not-false}
use Rattle.type_terms.proofs.BooleanBasics.{both-true}
use Rattle.candidate_assembly.proofs.OpenPlaces.{none-here}

-- ---- the declarations without lifetimes
structs-erased : (p : StructDecl → Bool) → ((x : StructDecl) → p (erased_struct x) ≡ p x) → (s : ℕ) (xs : List StructDecl)
    → list_any p (filter (λ x. x.name == s) (map erased_struct xs)) ≡ list_any p (filter (λ x. x.name == s) xs)
structs-erased p h s [] = refl
structs-erased p h s (x ∷ xs) = by (x.name == s) (structs-erased p h s xs)
  where
    by : (b : Bool) → list_any p (filter (λ x. x.name == s) (map erased_struct xs)) ≡ list_any p (filter (λ x. x.name == s) xs)
        → list_any p (cond b (erased_struct x ∷ filter (λ x. x.name == s) (map erased_struct xs)) (filter (λ x. x.name == s) (map erased_struct xs)))
        ≡ list_any p (cond b (x ∷ filter (λ x. x.name == s) xs) (filter (λ x. x.name == s) xs))
    by true e = ap (λ b. b || list_any p (filter (λ x. x.name == s) (map erased_struct xs))) (h x) ∙ ap (λ b. p x || b) e
    by false e = e

pub traits-erased : (p : TraitDecl → Bool) → ((x : TraitDecl) → p (erased_trait x) ≡ p x) → (t : ℕ) (xs : List TraitDecl)
    → list_any p (filter (λ x. x.name == t) (map erased_trait xs)) ≡ list_any p (filter (λ x. x.name == t) xs)
traits-erased p h t [] = refl
traits-erased p h t (x ∷ xs) = by (x.name == t) (traits-erased p h t xs)
  where
    by : (b : Bool) → list_any p (filter (λ x. x.name == t) (map erased_trait xs)) ≡ list_any p (filter (λ x. x.name == t) xs)
        → list_any p (cond b (erased_trait x ∷ filter (λ x. x.name == t) (map erased_trait xs)) (filter (λ x. x.name == t) (map erased_trait xs)))
        ≡ list_any p (cond b (x ∷ filter (λ x. x.name == t) xs) (filter (λ x. x.name == t) xs))
    by true e = ap (λ b. b || list_any p (filter (λ x. x.name == t) (map erased_trait xs))) (h x) ∙ ap (λ b. p x || b) e
    by false e = e

appended : (xs ys us vs : List Met) → xs ≡ ys → us ≡ vs → xs ++ us ≡ ys ++ vs
appended xs ys us vs e f = ap (λ z. z ++ us) e ∙ ap (λ z. ys ++ z) f

pushed : (m : Met) (xs ys : List Met) → xs ≡ ys → ◌≡◌ {A = List Met} (m ∷ xs) (m ∷ ys)
pushed m xs ys e = ap (λ z. m ∷ z) e

struct-met : (s : ℕ) (a b p q : Bool) (xs ys : List Met) → a ≡ p → b ≡ q → xs ≡ ys
    → (if a then local ∷ [] else if b then entered s ∷ xs else struct_leaf s ∷ []) ≡ (if p then local ∷ [] else if q then entered s ∷ ys else struct_leaf s ∷ [])
struct-met s a b p q xs ys e f g =
    ap (λ z. if z then local ∷ [] else if b then entered s ∷ xs else struct_leaf s ∷ []) e
    ∙ ap (λ z. if p then local ∷ [] else if z then entered s ∷ xs else struct_leaf s ∷ []) f
    ∙ ap (λ z. if p then local ∷ [] else if q then entered s ∷ z else struct_leaf s ∷ []) g

module _ (W : World) where
  abbrev V : World
  V = erased_world W

  struct-same : (p : StructDecl → Bool) → ((x : StructDecl) → p (erased_struct x) ≡ p x) → (s : ℕ) → struct_is p V s ≡ struct_is p W s
  struct-same p h s = structs-erased p h s W.structs

  trait-same : (p : TraitDecl → Bool) → ((x : TraitDecl) → p (erased_trait x) ≡ p x) → (t : ℕ) → trait_is p V t ≡ trait_is p W t
  trait-same p h t = traits-erased p h t W.traits

  dyn-same : (d : Option ℕ) (c : Trees) → dyn_met V d c ≡ dyn_met W d c
  dyn-same d none = refl
  dyn-same d (tree (principal n t) c o) = ap (λ (b : Bool). (if b then local else dyn_leaf t) ∷ []) (trait-same (λ x. is_home d x.home) (λ x. refl) t)
  dyn-same d (tree l c o) = refl

  visited-same : (d : Option ℕ) (t : Trees) → visited V d t ≡ visited W d t
  visited-same d none = refl
  visited-same d (tree (ref b) c o) = appended _ _ _ _ (visited-same d c) (visited-same d o)
  visited-same d (tree (adt s) c o) =
      appended _ _ _ _
      (struct-met s _ _ _ _ _ _ (struct-same (λ x. is_home d x.home) (λ x. refl) s) (struct-same (λ x. x.is_fundamental) (λ x. refl) s) (visited-same d c))
      (visited-same d o)
  visited-same d (tree dynamic c o) = appended _ _ _ _ (dyn-same d c) (visited-same d o)
  visited-same d (tree (param of_type i) c o) = pushed open_place _ _ (visited-same d o)
  visited-same d (tree (placeholder of_type i) c o) = pushed open_place _ _ (visited-same d o)
  visited-same d (tree (infer of_type i) c o) = pushed open_place _ _ (visited-same d o)
  visited-same d (tree (canonical of_type i) c o) = pushed open_place _ _ (visited-same d o)
  visited-same d (tree (bound of_type i j) c o) = pushed open_place _ _ (visited-same d o)
  visited-same d (tree (param of_const i) c o) = visited-same d o
  visited-same d (tree (placeholder of_const i) c o) = visited-same d o
  visited-same d (tree (infer of_const i) c o) = visited-same d o
  visited-same d (tree (canonical of_const i) c o) = visited-same d o
  visited-same d (tree (bound of_const i j) c o) = visited-same d o
  visited-same d (tree (param of_lifetime i) c o) = visited-same d o
  visited-same d (tree (placeholder of_lifetime i) c o) = visited-same d o
  visited-same d (tree (infer of_lifetime i) c o) = visited-same d o
  visited-same d (tree (canonical of_lifetime i) c o) = visited-same d o
  visited-same d (tree (bound of_lifetime i j) c o) = visited-same d o
  visited-same d (tree (value n) c o) = visited-same d o
  visited-same d (tree static c o) = visited-same d o
  visited-same d (tree l c o) = pushed other_leaf _ _ (visited-same d o)

  item-same : (m : Met) → item_in V m ≡ item_in W m
  item-same (struct_leaf s) = struct-same (λ _. true) (λ x. refl) s
  item-same (entered s) = struct-same (λ _. true) (λ x. refl) s
  item-same (dyn_leaf t) = trait-same (λ _. true) (λ x. refl) t
  item-same local = refl
  item-same other_leaf = refl
  item-same open_place = refl

  items-same : (ms : List Met) → list_all (item_in V) ms ≡ list_all (item_in W) ms
  items-same [] = refl
  items-same (m ∷ ms) = ap (λ b. b && list_all (item_in V) ms) (item-same m) ∙ ap (λ b. item_in W m && b) (items-same ms)

  walked-same : (r : Reference) → list_all (item_in V) (open_walk V r) ≡ list_all (item_in W) (open_walk W r)
  walked-same r = ap (λ ms. list_all (item_in V) (until_decisive ms)) (visited-same None r.args) ∙ items-same (open_walk W r)

  pub open-same : (r : Reference) → meets_open V r ≡ meets_open W r
  open-same r = ap (list_any is_open_place) (visited-same None r.args)

  three : (a b c d x y z w : Bool) → a ≡ x → b ≡ y → c ≡ z → d ≡ w → (a && (b && (c || d))) ≡ (x && (y && (z || w)))
  three a b c d x y z w e f g h =
      ap (λ q. q && (b && (c || d))) e ∙ ap (λ q. x && (q && (c || d))) f ∙ ap (λ q. x && (y && (q || d))) g ∙ ap (λ q. x && (y && (z || q))) h

  pub known-same : (c : ℕ) (r : Reference) → is_known_in V c r ≡ is_known_in W c r
  known-same c r =
      three _ _ _ _ _ _ _ _
      (trait-same (λ _. true) (λ x. refl) r.trait) (walked-same r) (trait-same (λ x. (x.home == c) || x.is_fundamental) (λ x. refl) r.trait)
      (ap (λ ms. ends_local (until_decisive ms)) (visited-same (Some c) r.args))

  -- knowability by the declarations as they are written, and without lifetimes
  pub knowable-same : (c : ℕ) (r : Reference) → is_knowable V c r ≡ is_knowable W c r
  knowable-same c r = ap (λ b. b && not (meets_open V r)) (known-same c r) ∙ ap (λ b. is_known_in W c r && not b) (open-same r)

  pub written-same : (r : Reference) → is_written_in V r ≡ is_written_in W r
  written-same r =
      ap (λ b. b && list_all (item_in V) (open_walk V r)) (trait-same (λ _. true) (λ x. refl) r.trait) ∙ ap (λ b. trait_is (λ _. true) W r.trait && b) (walked-same r)

  -- and of a reference without lifetimes
  module _ (c : ℕ) (r : Reference) where
    abbrev fundamental : Bool
    fundamental = trait_is (λ x. (x.home == c) || x.is_fundamental) W r.trait

    pub knowable-erased : is_knowable W c (erased_reference r) ≡ is_knowable W c r
    knowable-erased =
        ap (λ ms. (trait_is (λ _. true) W r.trait && (list_all (item_in W) (until_decisive ms) && (fundamental || ends_local (walk W c (erased_reference r))))) && not (list_any is_open_place ms)) (erased-visits W None r.args)
        ∙ ap (λ ms. (trait_is (λ _. true) W r.trait && (list_all (item_in W) (open_walk W r) && (fundamental || ends_local (until_decisive ms)))) && not (meets_open W r)) (erased-visits W (Some c) r.args)

-- ---- what a walk meets
all-front : (p : Met → Bool) (ms : List Met) → p local ≡ true → p open_place ≡ true → list_all p ms ≡ true → list_all p (until_decisive ms) ≡ true
all-front p [] l o h = refl
all-front p (local ∷ ms) l o h = ap (λ b. b && true) l
all-front p (open_place ∷ ms) l o h = ap (λ b. b && true) o
all-front p (m ∷ ms) l o h = both-true (p m) _ (left (p m) _ h) (all-front p ms l o (right (p m) _ h))

module _ (W : World) where
  abbrev stray : Trees → Bool
  stray t = some_node (is_undeclared W) t

  abbrev seen : List Met → Bool
  seen ms = list_all (item_in W) ms

  one-more : (m : Met) (ms : List Met) → item_in W m ≡ true → seen ms ≡ true → seen (m ∷ ms) ≡ true
  one-more m ms e f = ap (λ b. b && seen ms) e ∙ f

  struct-seen : (s : ℕ) (ms : List Met) (a b : Bool) → struct_is (λ _. true) W s ≡ true → seen ms ≡ true
      → seen (if a then local ∷ [] else if b then entered s ∷ ms else struct_leaf s ∷ []) ≡ true
  struct-seen s ms true b e f = refl
  struct-seen s ms false true e f = one-more (entered s) ms e f
  struct-seen s ms false false e f = one-more (struct_leaf s) [] e refl

  dyn-seen : (d : Option ℕ) (c : Trees) → stray c ≡ false → seen (dyn_met W d c) ≡ true
  dyn-seen d none h = refl
  dyn-seen d (tree (principal n t) c o) h = by (trait_is (λ x. is_home d x.home) W t)
    where
      by : (b : Bool) → seen ((if b then local else dyn_leaf t) ∷ []) ≡ true
      by true = refl
      by false = one-more (dyn_leaf t) [] (not-false (trait_is (λ _. true) W t) (none-here (is_undeclared W (principal n t)) (stray c) (stray o) h).0) refl
  dyn-seen d (tree l c o) h = refl

  visited-seen : (d : Option ℕ) (t : Trees) → stray t ≡ false → seen (visited W d t) ≡ true
  visited-seen d none h = refl
  visited-seen d (tree (ref b) c o) h =
      let x = none-here (is_undeclared W (ref b)) (stray c) (stray o) h in each-append (item_in W) (visited W d c) (visited W d o) (visited-seen d c x.1) (visited-seen d o x.2)
  visited-seen d (tree (adt s) c o) h =
      let x = none-here (is_undeclared W (adt s)) (stray c) (stray o) h in
      let own = struct_is (λ x. is_home d x.home) W s in
      let fundamental = struct_is (λ x. x.is_fundamental) W s in
      each-append (item_in W) (if own then local ∷ [] else if fundamental then entered s ∷ visited W d c else struct_leaf s ∷ []) (visited W d o)
      (struct-seen s (visited W d c) own fundamental (not-false (struct_is (λ _. true) W s) x.0) (visited-seen d c x.1)) (visited-seen d o x.2)
  visited-seen d (tree dynamic c o) h =
      let x = none-here (is_undeclared W dynamic) (stray c) (stray o) h in each-append (item_in W) (dyn_met W d c) (visited W d o) (dyn-seen d c x.1) (visited-seen d o x.2)
  visited-seen d (tree (param of_type i) c o) h = visited-seen d o (none-here (is_undeclared W (param of_type i)) (stray c) (stray o) h).2
  visited-seen d (tree (placeholder of_type i) c o) h = visited-seen d o (none-here (is_undeclared W (placeholder of_type i)) (stray c) (stray o) h).2
  visited-seen d (tree (infer of_type i) c o) h = visited-seen d o (none-here (is_undeclared W (infer of_type i)) (stray c) (stray o) h).2
  visited-seen d (tree (canonical of_type i) c o) h = visited-seen d o (none-here (is_undeclared W (canonical of_type i)) (stray c) (stray o) h).2
  visited-seen d (tree (bound of_type i j) c o) h = visited-seen d o (none-here (is_undeclared W (bound of_type i j)) (stray c) (stray o) h).2
  visited-seen d (tree (param of_const i) c o) h = visited-seen d o (none-here (is_undeclared W (param of_const i)) (stray c) (stray o) h).2
  visited-seen d (tree (placeholder of_const i) c o) h = visited-seen d o (none-here (is_undeclared W (placeholder of_const i)) (stray c) (stray o) h).2
  visited-seen d (tree (infer of_const i) c o) h = visited-seen d o (none-here (is_undeclared W (infer of_const i)) (stray c) (stray o) h).2
  visited-seen d (tree (canonical of_const i) c o) h = visited-seen d o (none-here (is_undeclared W (canonical of_const i)) (stray c) (stray o) h).2
  visited-seen d (tree (bound of_const i j) c o) h = visited-seen d o (none-here (is_undeclared W (bound of_const i j)) (stray c) (stray o) h).2
  visited-seen d (tree (param of_lifetime i) c o) h = visited-seen d o (none-here (is_undeclared W (param of_lifetime i)) (stray c) (stray o) h).2
  visited-seen d (tree (placeholder of_lifetime i) c o) h = visited-seen d o (none-here (is_undeclared W (placeholder of_lifetime i)) (stray c) (stray o) h).2
  visited-seen d (tree (infer of_lifetime i) c o) h = visited-seen d o (none-here (is_undeclared W (infer of_lifetime i)) (stray c) (stray o) h).2
  visited-seen d (tree (canonical of_lifetime i) c o) h = visited-seen d o (none-here (is_undeclared W (canonical of_lifetime i)) (stray c) (stray o) h).2
  visited-seen d (tree (bound of_lifetime i j) c o) h = visited-seen d o (none-here (is_undeclared W (bound of_lifetime i j)) (stray c) (stray o) h).2
  visited-seen d (tree l c o) h = visited-seen d o (none-here (is_undeclared W l) (stray c) (stray o) h).2

  -- all names of the reference are declared, so what its walk meets is
  pub written-walk : (r : Reference) → written_in W r ≡ true → is_written_in W r ≡ true
  written-walk r h =
      let names = right (trait_is (λ _. true) W r.trait) _ h in
      both-true (trait_is (λ _. true) W r.trait) (seen (open_walk W r)) (left (trait_is (λ _. true) W r.trait) _ h)
      (all-front (item_in W) (visited W None r.args) refl refl (visited-seen None r.args (not-true (stray r.args) names)))

  -- where nothing is open, no open place is visited
  any-append : (xs ys : List Met) → list_any is_open_place xs ≡ false → list_any is_open_place ys ≡ false → list_any is_open_place (xs ++ ys) ≡ false
  any-append [] ys h g = g
  any-append (open_place ∷ xs) ys h g = cc
  any-append (local ∷ xs) ys h g = any-append xs ys h g
  any-append (struct_leaf s ∷ xs) ys h g = any-append xs ys h g
  any-append (dyn_leaf t ∷ xs) ys h g = any-append xs ys h g
  any-append (entered s ∷ xs) ys h g = any-append xs ys h g
  any-append (other_leaf ∷ xs) ys h g = any-append xs ys h g

  struct-unopened : (s : ℕ) (ms : List Met) (a b : Bool) → list_any is_open_place ms ≡ false
      → list_any is_open_place (if a then local ∷ [] else if b then entered s ∷ ms else struct_leaf s ∷ []) ≡ false
  struct-unopened s ms true b e = refl
  struct-unopened s ms false true e = e
  struct-unopened s ms false false e = refl

  dyn-unopened : (d : Option ℕ) (c : Trees) → list_any is_open_place (dyn_met W d c) ≡ false
  dyn-unopened d none = refl
  dyn-unopened d (tree (principal n t) c o) = by (trait_is (λ x. is_home d x.home) W t)
    where
      by : (b : Bool) → list_any is_open_place ((if b then local else dyn_leaf t) ∷ []) ≡ false
      by true = refl
      by false = refl
  dyn-unopened d (tree l c o) = refl

  visits-unopened : (d : Option ℕ) (t : Trees) → some_node is_open t ≡ false → list_any is_open_place (visited W d t) ≡ false
  visits-unopened d none h = refl
  visits-unopened d (tree (ref b) c o) h =
      let x = none-here false (some_node is_open c) (some_node is_open o) h in any-append (visited W d c) (visited W d o) (visits-unopened d c x.1) (visits-unopened d o x.2)
  visits-unopened d (tree (adt s) c o) h =
      let x = none-here false (some_node is_open c) (some_node is_open o) h in
      let own = struct_is (λ x. is_home d x.home) W s in
      let fundamental = struct_is (λ x. x.is_fundamental) W s in
      any-append (if own then local ∷ [] else if fundamental then entered s ∷ visited W d c else struct_leaf s ∷ []) (visited W d o)
      (struct-unopened s (visited W d c) own fundamental (visits-unopened d c x.1)) (visits-unopened d o x.2)
  visits-unopened d (tree dynamic c o) h =
      let x = none-here false (some_node is_open c) (some_node is_open o) h in any-append (dyn_met W d c) (visited W d o) (dyn-unopened d c) (visits-unopened d o x.2)
  visits-unopened d (tree (param s i) c o) h = cc
  visits-unopened d (tree (placeholder s i) c o) h = cc
  visits-unopened d (tree (infer s i) c o) h = cc
  visits-unopened d (tree (canonical s i) c o) h = cc
  visits-unopened d (tree (bound s i j) c o) h = cc
  visits-unopened d (tree l c o) h = visits-unopened d o (none-here false (some_node is_open c) (some_node is_open o) h).2

  all-of : (a b c d e : Bool) → (a && b) ≡ true → c ≡ true → e ≡ false → true ≡ ((a && (b && (c || d))) && not e)
  all-of true true true d false h f g = refl
  all-of false b c d e h f g = cc
  all-of true false c d e h f g = cc
  all-of true true false d e h f g = cc
  all-of true true true d true h f g = cc

  -- a reference to a trait of the crate that asks, or a fundamental one, is known where nothing is open
  pub closed-known : (c : ℕ) (r : Reference) → written_in W r ≡ true → (trait_is (λ x. (x.home == c) || x.is_fundamental) W r.trait && is_closed r.args) ≡ true
      → true ≡ is_knowable W c r
  closed-known c r h k =
      let own = trait_is (λ x. (x.home == c) || x.is_fundamental) W r.trait in
      all-of (trait_is (λ _. true) W r.trait) (seen (open_walk W r)) own (ends_local (walk W c r)) (meets_open W r) (written-walk r h) (left own _ k)
      (visits-unopened None r.args (not-true (some_node is_open r.args) (right own _ k)))

-- ---- the answer of a walk with a table in which no variable has a value
never-both : (a : Bool) → false ≡ (a && not true)
never-both true = refl
never-both false = refl

module _ (es : List Entry) (d : Items) (r : TraitRef) where
  abbrev W : World
  W = written es d

  abbrev own : Reference
  own = reference_in es r

  -- whether its trait is the crate's own or fundamental does not depend on lifetimes
  pub own-same : trait_is (λ x. (x.home == d.local) || x.is_fundamental) (declared es d) r.def_id.index ≡ trait_is (λ x. (x.home == d.local) || x.is_fundamental) W r.def_id.index
  own-same = trait-same W (λ x. (x.home == d.local) || x.is_fundamental) (λ x. refl) r.def_id.index

  unread : (t : Table) → t.values ≡ [] → reference_read es t r ≡ own
  unread t e = ap (λ vs. record { trait = r.def_id.index; args = resolved (content es vs) (trees_at es r.args.0) }) e

  module _ {E : Type 0} (t : Table) (none_has : t.values ≡ []) (limit : ℕ) (a : Result (Result (Unit {0}) Conflict) (WalkError E)) (h : IsKnownOf es d t limit r a) where
    known : (b : Result (Result (Unit {0}) Conflict) (WalkError E)) → a ≡ b → WalkTellsKnown (declared es d) d.local limit own b
    known b e = subst (λ x. WalkTellsKnown (declared es d) d.local limit x b) (unread t none_has) (subst (IsKnownOf es d t limit r) e h)

    known-yes : (x : Result (Unit {0}) Conflict) (u : Unit {0}) → a ≡ Ok x → x ≡ Ok u → written_in W own ≡ true → true ≡ is_knowable W d.local own
    known-yes x u e f w = sym (sym (knowable-same W d.local own) ∙ known (Ok (Ok u)) (e ∙ ap Ok f) (written-same W own ∙ written-walk W own w))

    known-no : (x : Result (Unit {0}) Conflict) (y : Conflict) → a ≡ Ok x → x ≡ Err y → false ≡ is_knowable W d.local own
    known-no x Downstream e f =
        never-both (is_known_in W d.local own) ∙ sym (ap (λ b. is_known_in W d.local own && not b) (sym (open-same W own) ∙ known (Ok (Err Downstream)) (e ∙ ap Ok f)))
    known-no x Upstream e f = sym (ap (λ b. b && not (meets_open W own)) (sym (known-same W d.local own) ∙ (known (Ok (Err Upstream)) (e ∙ ap Ok f)).1))

    pub known-by : (x : Result (Unit {0}) Conflict) → a ≡ Ok x → (b : Bool) → b ≡ is_ok x → written_in W own ≡ true → b ≡ is_knowable W d.local own
    known-by (Ok u) e b f w = f ∙ known-yes (Ok u) u e refl w
    known-by (Err y) e b f w = f ∙ known-no (Err y) y e refl

    pub never-deep : (x : WalkError E) → a ≡ Err x → x ≡ Deep → limit ≡ depth (trees_at es r.args.0) → ⊥
    never-deep x e f k = let deep : limit < depth (trees_at es r.args.0) = known (Err Deep) (e ∙ ap Err f) in omega (arith, deep, k)
