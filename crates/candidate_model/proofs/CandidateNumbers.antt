-- There are not too many candidates, and they have not too many nested goals together.
use Rattle.std.proofs.Common.{◌≡◌, ℕ, zero, suc, ◌+◌, ◌≤◌, Bool, true, false, not, ◌&&◌, List, [], ◌∷◌, ◌++◌, map, length, if◌then◌else◌, ◌==◌, refl, sym, ◌∙◌, ap, subst, arith}
use Rattle.std.specs.List.{flat_map}
use Rattle.type_terms.specs.Promised.Label.{Label, str, array, slice, tuple, dynamic, adt, fn_ptr, auto_trait, ref, raw_pointer, principal}
use Rattle.type_terms.specs.Promised.Trees.{Trees, none, tree, instantiate}
use Rattle.type_terms.specs.Promised.Worlds.{World, Reference, StructDecl, TraitDecl, structs_named, traits_named, all_with_args}
use Rattle.type_terms.specs.Promised.Rules.{Rule, sized_struct, auto_struct, unsize_to_dyn, row, is_dyn, is_written, are_dyn_compatible, is_coinductive, are_declared, upcasts_autos, some_unsizing, with_unsizing, sized, each_asked, last_asked, asked, together, fields_of, sized_rules, copy_rules, auto_rules, auto_rules_plain, tuple_rules, fn_ptr_rules, unsize_to_dyn_rules, principal_with, autos_with, last_unsizes, strict_supertraits, strict_supertraits_within}
use Rattle.type_terms.specs.Promised.Proofs.{In}
use Rattle.type_terms.proofs.Members.{here, in-filter, same-number}
use Rattle.goal_evaluator.specs.Plans.{nested_in}
use Rattle.goal_evaluator.specs.declared.candidate.CandidateSource.{CandidateSource}
use Rattle.goal_evaluator.specs.Tables.{frame_tables}
use Rattle.goal_evaluator.specs.Promised.Widths.{count}
use Rattle.goal_evaluator.proofs.Widths.{IsWithin, count-append}
use Rattle.candidate_model.specs.Asking.{GoalOverKinds}
use Rattle.candidate_model.specs.Candidates.{Candidate, premise, as_written, if_so, by_rule, can_be, all_equal, misc, upcast_source, upcasts_from, upcasts_to, upcasts_of, unsize_by_struct, bounds_from}
use Rattle.declarations.specs.Promised.Elaboration.{all_levels, elaborate, supertraits}
use Rattle.candidate_model.specs.Promised.Widths.{supers_of}
use Rattle.candidate_model.proofs.CandidateCounts.{elaborate-few, supertraits-few}
use Rattle.candidate_model.proofs.CandidateWidths.{count-instance}
use Rattle.candidate_model.proofs.Unsizing.{traits_of, within-same}
use Rattle.type_terms.proofs.ListBasics.{map-length, length-append}

-- ---- lists
pub nested-append : (xs ys : List Candidate) → nested_in frame_tables (xs ++ ys) ≡ nested_in frame_tables xs + nested_in frame_tables ys
nested-append [] ys = omega arith
nested-append (x ∷ xs) ys = let e = nested-append xs ys in omega (arith, e)

-- ---- rules
-- how many premises the rules have together
abbrev pub premises_in : List Rule → ℕ
premises_in [] = zero
premises_in (u ∷ us) = length u.premises + premises_in us

premises-append : (us vs : List Rule) → premises_in (us ++ vs) ≡ premises_in us + premises_in vs
premises-append [] vs = omega arith
premises-append (u ∷ us) vs = let e = premises-append us vs in omega (arith, e)

-- so many rules, with so many premises together
pub record AreFew (us : List Rule) (n m : ℕ) : Type 0 where
  pub few : length us ≤ n
  pub asks : premises_in us ≤ m

no-rules : (n m : ℕ) → AreFew [] n m
no-rules n m = record { few = omega arith; asks = omega arith }

-- one rule for each struct of a name, where there is at most one
of-one : (f : StructDecl → List Rule) (m : ℕ) (xs : List StructDecl) → length xs ≤ 1 → ((x : StructDecl) → In x xs → AreFew (f x) 1 m) → AreFew (flat_map f xs) 1 m
of-one f m [] h g = no-rules 1 m
of-one f m (x ∷ []) h g =
    let one = g x (here x []) in
    let l = length-append (f x) [] in
    let p = premises-append (f x) [] in
    let a = one.few in
    let b = one.asks in
    record { few = omega (arith, l, a); asks = omega (arith, p, b) }
of-one f m (x ∷ y ∷ xs) h g = absurd (omega (arith, h))

each-length : (t : ℕ) (u : Trees) → length (each_asked t u) ≡ count u
each-length t none = refl
each-length t (tree l c o) = ap suc (each-length t o)

pub last-few : (t : ℕ) (u : Trees) → length (last_asked t u) ≤ 1
last-few t none = omega arith
last-few t (tree l c none) = omega arith
last-few t (tree l c (tree m d o)) = last-few t (tree m d o)

count-together : (w : ℕ) (A : Trees) (h : IsWithin w A) (ts : List Trees) → count (together (map (instantiate zero A) ts)) ≡ count (together ts)
count-together w A h [] = refl
count-together w A h (t ∷ ts) =
    let a = count-append (instantiate zero A t) (together (map (instantiate zero A) ts)) in
    let b = count-append t (together ts) in
    let c = count-instance w zero A t h in
    let d = count-together w A h ts in
    omega (arith, a, b, c, d)

-- ---- rows
module _ (V : World) (w : ℕ) (one : (s : ℕ) → length (structs_named V s) ≤ 1) (fields : (x : StructDecl) → In x V.structs → count (together x.fields) ≤ w) where
  -- the fields of a struct with arguments put in
  fields-few : (x : StructDecl) (s : ℕ) (args : Trees) → IsWithin w args → In x (structs_named V s) → count (fields_of x args) ≤ w
  fields-few x s args h i =
      let c = count-together w args h x.fields in
      let f = fields x (in-filter (λ (y : StructDecl). y.name == s) V.structs x i).0 in
      omega (arith, c, f)

  pub sized-few : (t : Trees) → AreFew (sized_rules V t) 1 1
  sized-few none = no-rules 1 1
  sized-few (tree tuple items o) = let l = last-few sized items in record { few = omega arith; asks = omega (arith, l) }
  sized-few (tree (adt s) args o) =
      of-one (λ x. row sized_struct (last_asked sized (fields_of x args))) 1 (structs_named V s) (one s)
      (λ x i. let l = last-few sized (fields_of x args) in record { few = omega arith; asks = omega (arith, l) })
  sized-few (tree l c o) = record { few = omega arith; asks = omega arith }

  pub copy-few : (t : ℕ) (u : Trees) → IsWithin w u → AreFew (copy_rules t u) 1 w
  copy-few t none h = no-rules 1 w
  copy-few t (tree tuple items o) h = let e = each-length t items in let c = h.0 in record { few = omega arith; asks = omega (arith, e, c) }
  copy-few t (tree l c o) h = record { few = omega arith; asks = omega arith }

  plain-few : (t : ℕ) (l : Label) (c o : Trees) → 1 ≤ w → IsWithin w (tree l c o) → AreFew (auto_rules_plain V t (tree l c o)) 1 w
  plain-few t tuple items o g h = let e = each-length t items in let c = h.0 in record { few = omega arith; asks = omega (arith, e, c) }
  plain-few t (adt s) args o g h =
      of-one (λ x. row auto_struct (each_asked t (fields_of x args))) w (structs_named V s) (one s)
      (λ x i. let e = each-length t (fields_of x args) in let f = fields-few x s args h.1 i in record { few = omega arith; asks = omega (arith, e, f) })
  plain-few t (raw_pointer m) none o g h = no-rules 1 w
  plain-few t (raw_pointer m) (tree l c p) o g h = record { few = omega arith; asks = omega (arith, g) }
  plain-few t array none o g h = no-rules 1 w
  plain-few t array (tree l c p) o g h = record { few = omega arith; asks = omega (arith, g) }
  plain-few t slice none o g h = no-rules 1 w
  plain-few t slice (tree l c p) o g h = record { few = omega arith; asks = omega (arith, g) }
  plain-few t (ref m) none o g h = no-rules 1 w
  plain-few t (ref m) (tree r d none) o g h = no-rules 1 w
  plain-few t (ref m) (tree r d (tree l c p)) o g h = record { few = omega arith; asks = omega (arith, g) }
  plain-few t str c o g h = record { few = omega arith; asks = omega (arith, g) }
  plain-few t l c o g h = record { few = omega arith; asks = omega arith }

  pub auto-few : (t : ℕ) (u : Trees) → count u ≤ w → IsWithin w u → AreFew (auto_rules V t u) 1 w
  auto-few t none g h = no-rules 1 w
  auto-few t (tree l c o) g h = by (is_written V t l)
    where
      by : (b : Bool) → AreFew (if b then [] else auto_rules_plain V t (tree l c o)) 1 w
      by true = no-rules 1 w
      by false = plain-few t l c o (omega (arith, g)) h

pub tuple-few : (u : Trees) → AreFew (tuple_rules u) 1 zero
tuple-few none = no-rules 1 zero
tuple-few (tree tuple c o) = record { few = omega arith; asks = omega arith }
tuple-few (tree l c o) = no-rules 1 zero

pub fn-ptr-few : (u : Trees) → AreFew (fn_ptr_rules u) 1 zero
fn-ptr-few none = no-rules 1 zero
fn-ptr-few (tree (fn_ptr n) c o) = record { few = omega arith; asks = omega arith }
fn-ptr-few (tree l c o) = no-rules 1 zero

-- ---- bounds of a `dyn`
pub autos-few : (self b : Trees) → length (autos_with self b) ≤ count b
autos-few self none = omega arith
autos-few self (tree (auto_trait t) c o) = let e = autos-few self o in omega (arith, e)
autos-few self (tree l c o) = let e = autos-few self o in omega (arith, e)

pub principal-few : (self b : Trees) → length (principal_with self b) ≤ 1
principal-few self none = omega arith
principal-few self (tree (principal n t) c o) = omega arith
principal-few self (tree l c o) = omega arith

bounds-few : (self b : Trees) → length (principal_with self b) + length (autos_with self b) ≤ count b
bounds-few self none = omega arith
bounds-few self (tree (principal n t) c o) = let e = autos-few self o in omega (arith, e)
bounds-few self (tree l c o) = let e = autos-few self (tree l c o) in omega (arith, e)

pub to-dyn-few : (V : World) (w : ℕ) (u : Trees) → IsWithin w u → count u ≤ w → AreFew (unsize_to_dyn_rules V u) 1 (suc w)
to-dyn-few V w none h g = no-rules 1 (suc w)
to-dyn-few V w (tree l c none) h g = no-rules 1 (suc w)
to-dyn-few V w (tree l c (tree dynamic b o)) h g = by (not (is_dyn l) && are_dyn_compatible V (principal_with self b))
  where
    self : Trees
    self = tree l c none

    by : (t : Bool) → AreFew (if t then row unsize_to_dyn (principal_with self b ++ (autos_with self b ++ asked sized self ∷ [])) else []) 1 (suc w)
    by false = no-rules 1 (suc w)
    by true =
        let p = length-append (principal_with self b) (autos_with self b ++ asked sized self ∷ []) in
        let q = length-append (autos_with self b) (asked sized self ∷ []) in
        let f = bounds-few self b in
        let k = h.2.0 in
        record { few = omega arith; asks = omega (arith, p, q, f, k) }
to-dyn-few V w (tree l c (tree m d o)) h g = no-rules 1 (suc w)

-- ---- candidates of rules
pub written-length : (V : World) (a : GoalOverKinds) (source : CandidateSource) (us : List Rule) → length (as_written V a source us) ≡ length us
written-length V a source [] = refl
written-length V a source (u ∷ us) = ap suc (written-length V a source us)

pub written-nested : (V : World) (a : GoalOverKinds) (source : CandidateSource) (us : List Rule) → nested_in frame_tables (as_written V a source us) ≡ premises_in us
written-nested V a source [] = refl
written-nested V a source (u ∷ us) =
    let e = written-nested V a source us in
    let m = map-length (premise a (is_coinductive V a.reference.trait)) u.premises in
    omega (arith, e, m)

-- ---- supertraits
pub same-lengths : (rs ss : List Reference) → traits_of rs ≡ traits_of ss → length rs ≡ length ss
same-lengths rs ss e = sym (map-length (λ (r : Reference). r.trait) rs) ∙ ap length e ∙ map-length (λ (r : Reference). r.trait) ss

module _ (V : World) (w : ℕ) (each : (x : TraitDecl) → In x V.traits → supers_of V x ≤ w) where
  -- a trait that is not declared has none
  none-within : (n : ℕ) (r : Reference) → traits_named V r.trait ≡ [] → length (strict_supertraits_within n V r) ≡ 0
  none-within zero r e = refl
  none-within (suc n) r e = ap (λ ts. length (flat_map (λ s. s ∷ strict_supertraits_within n V s) (flat_map (λ (t : TraitDecl). all_with_args r.args t.bounds) ts))) e

  pub supers-few : (r : Reference) → length (strict_supertraits V r) ≤ w
  supers-few r = by (traits_named V r.trait) refl
    where
      by : (ts : List TraitDecl) → traits_named V r.trait ≡ ts → length (strict_supertraits V r) ≤ w
      by [] e = let z = none-within (length V.traits) r e in omega (arith, z)
      by (x ∷ ts) e =
          let i = in-filter (λ (y : TraitDecl). y.name == r.trait) V.traits x (subst (In x) (sym e) (here x ts)) in
          let q = same-lengths (strict_supertraits V r) (strict_supertraits V (record { trait = x.name; args = none })) (within-same (length V.traits) V r (record { trait = x.name; args = none }) (sym (same-number x.name r.trait i.1))) in
          let h = each x i.0 in
          omega (arith, q, h)

  pub asked-supers-few : (r : Reference) → length (supertraits V r) ≤ w
  asked-supers-few r = let a = supertraits-few V r in let b = supers-few r in omega (arith, a, b)

  -- the principal, if there is one, with its supertraits
  pub elaborated-few : (rs : List Reference) → length rs ≤ 1 → length (elaborate V rs) ≤ suc w
  elaborated-few rs h = let a = elaborate-few V rs in let b = levels rs h in omega (arith, a, b)
    where
      levels : (ss : List Reference) → length ss ≤ 1 → length (all_levels V ss) ≤ suc w
      levels [] g = omega arith
      levels (s ∷ []) g = let l = length-append (strict_supertraits V s) [] in let b = supers-few s in omega (arith, l, b)
      levels (s ∷ t ∷ ss) g = absurd (omega (arith, g))

  -- ---- upcasts and structs
  upcasts-from-few : (a : GoalOverKinds) (q : Reference) (i : ℕ) (rs : List Reference) → length (upcasts_from V a q i rs) ≤ length rs
  upcasts-from-few a q i [] = omega arith
  upcasts-from-few a q i (r ∷ rs) = by (r.trait == q.trait) (upcasts-from-few a q (suc i) rs)
    where
      by : (b : Bool) → length (upcasts_from V a q (suc i) rs) ≤ length rs
          → length (if b then by_rule V a (upcast_source i) (all_equal r.args q.args) [] ∷ upcasts_from V a q (suc i) rs else upcasts_from V a q (suc i) rs) ≤ suc (length rs)
      by true h = omega (arith, h)
      by false h = omega (arith, h)

  upcasts-from-ask : (a : GoalOverKinds) (q : Reference) (i : ℕ) (rs : List Reference) → nested_in frame_tables (upcasts_from V a q i rs) ≡ 0
  upcasts-from-ask a q i [] = refl
  upcasts-from-ask a q i (r ∷ rs) = by (r.trait == q.trait) (upcasts-from-ask a q (suc i) rs)
    where
      by : (b : Bool) → nested_in frame_tables (upcasts_from V a q (suc i) rs) ≡ 0
          → nested_in frame_tables (if b then by_rule V a (upcast_source i) (all_equal r.args q.args) [] ∷ upcasts_from V a q (suc i) rs else upcasts_from V a q (suc i) rs) ≡ 0
      by true h = omega (arith, h)
      by false h = h

  -- so many candidates, with so many nested goals together
  pub record FewCandidates (cs : List Candidate) (n m : ℕ) : Type 0 where
    pub few : length cs ≤ n
    pub asks : nested_in frame_tables cs ≤ m

  pub none-few : (n m : ℕ) → FewCandidates [] n m
  none-few n m = record { few = omega arith; asks = omega arith }

  -- none where the test fails
  pub tested-few : (b : Bool) (cs : List Candidate) (n m : ℕ) → FewCandidates cs n m → FewCandidates (if_so b cs) n (if b then m else zero)
  tested-few true cs n m h = h
  tested-few false cs n m h = none-few n zero

  pub if-few : (b : Bool) (cs : List Candidate) (n m : ℕ) → FewCandidates cs n m → FewCandidates (if_so b cs) n m
  if-few true cs n m h = h
  if-few false cs n m h = none-few n m

  pub both-few : (cs ds : List Candidate) (n m k l : ℕ) → FewCandidates cs n m → FewCandidates ds k l → FewCandidates (cs ++ ds) (n + k) (m + l)
  both-few cs ds n m k l h g =
      let p = length-append cs ds in
      let q = nested-append cs ds in
      let a = h.few in
      let b = h.asks in
      let c = g.few in
      let d = g.asks in
      record { few = omega (arith, p, a, c); asks = omega (arith, q, b, d) }

  pub written-few : (a : GoalOverKinds) (source : CandidateSource) (us : List Rule) (n m : ℕ) → AreFew us n m → FewCandidates (as_written V a source us) n m
  written-few a source us n m h =
      let p = written-length V a source us in
      let q = written-nested V a source us in
      let b = h.few in
      let c = h.asks in
      record { few = omega (arith, p, b); asks = omega (arith, q, c) }

  upcasts-to-few : (a : GoalOverKinds) (ps qs : List Reference) → FewCandidates (upcasts_to V a ps qs) (suc w) 0
  upcasts-to-few a ps [] = record { few = omega arith; asks = omega arith }
  upcasts-to-few a [] (q ∷ qs) = none-few (suc w) 0
  upcasts-to-few a (p ∷ ps) (q ∷ qs) = by (p.trait == q.trait)
    where
      by : (b : Bool) → FewCandidates (if b then by_rule V a misc (all_equal p.args q.args) [] ∷ [] else upcasts_from V a q 1 (supertraits V p)) (suc w) 0
      by true = record { few = omega arith; asks = omega arith }
      by false =
          let l = upcasts-from-few a q 1 (supertraits V p) in
          let n = upcasts-from-ask a q 1 (supertraits V p) in
          let s = asked-supers-few p in
          record { few = omega (arith, l, s); asks = omega (arith, n) }

  pub upcasts-few : (a : GoalOverKinds) (u : Trees) → FewCandidates (upcasts_of V a u) (suc w) 0
  upcasts-few a (tree dynamic b (tree dynamic d o)) =
      let self = tree dynamic b none in
      if-few (are_declared V (principal_with self b) && upcasts_autos V (principal_with self b) (autos_with self b) (autos_with self d)) (upcasts_to V a (principal_with self b) (principal_with self d)) (suc w) 0
      (upcasts-to-few a (principal_with self b) (principal_with self d))
  upcasts-few a u = none-few (suc w) 0

  last-unsizes-few : (fs : List Trees) (b d : Trees) → length (last_unsizes fs b d) ≤ 1
  last-unsizes-few [] b d = omega arith
  last-unsizes-few (f ∷ []) b d = omega arith
  last-unsizes-few (f ∷ g ∷ fs) b d = last-unsizes-few (g ∷ fs) b d

  struct-few : (a : GoalOverKinds) (b d : Trees) (x : StructDecl) → FewCandidates (unsize_by_struct V a b d x) 1 1
  struct-few a b d x =
      let l = last-unsizes-few x.fields b d in
      let m = map-length (premise a (is_coinductive V a.reference.trait)) (last_unsizes x.fields b d) in
      if-few (some_unsizing x.fields 0 b) (by_rule V a misc (all_equal (with_unsizing x.fields 0 b d) d) (last_unsizes x.fields b d) ∷ []) 1 1
      (record { few = omega arith; asks = omega (arith, l, m) })

  pub structs-few : (a : GoalOverKinds) (b d : Trees) (xs : List StructDecl) → length xs ≤ 1 → FewCandidates (flat_map (unsize_by_struct V a b d) xs) 1 1
  structs-few a b d [] h = none-few 1 1
  structs-few a b d (x ∷ []) h =
      let s = struct-few a b d x in
      let l = length-append (unsize_by_struct V a b d x) [] in
      let n = nested-append (unsize_by_struct V a b d x) [] in
      let p = s.few in
      let q = s.asks in
      record { few = omega (arith, l, p); asks = omega (arith, n, q) }
  structs-few a b d (x ∷ y ∷ xs) h = absurd (omega (arith, h))

  -- ---- object bounds
  pub from-bounds-few : (a : GoalOverKinds) (source : ℕ → CandidateSource) (i : ℕ) (rs : List Reference) → length (bounds_from V a source i rs) ≤ length rs
  from-bounds-few a source i [] = omega arith
  from-bounds-few a source i (r ∷ rs) = by (can_be a.reference r) (from-bounds-few a source (suc i) rs)
    where
      by : (b : Bool) → length (bounds_from V a source (suc i) rs) ≤ length rs
          → length (if b then by_rule V a (source i) (all_equal a.reference.args r.args) (supertraits V a.reference) ∷ bounds_from V a source (suc i) rs else bounds_from V a source (suc i) rs) ≤ suc (length rs)
      by true h = omega (arith, h)
      by false h = omega (arith, h)
