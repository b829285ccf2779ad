-- The bounds on candidates and nested goals, of which declarations whose names stand for one struct are within.
use Rattle.std.proofs.Common.{◌≡◌, ℕ, zero, suc, ◌+◌, ◌*◌, ◌≤◌, max, Bool, true, false, List, [], ◌∷◌, ◌++◌, map, length, if◌then◌else◌, ◌==◌, ◌&&◌, ◌||◌, not, refl, sym, ap, subst, arith}
use Rattle.std.proofs.lemmas.Nat.{mul-le}
use Rattle.std.specs.Prelude.{fold, Some}
use Rattle.type_terms.specs.Promised.Label.{Label, of_lifetime, array, slice, dynamic, adt, fn_ptr, principal, param, placeholder, infer, canonical, bound, of_trait, predicate}
use Rattle.type_terms.specs.Promised.Trees.{Trees, none, tree, erase_label}
use Rattle.type_terms.specs.Promised.Worlds.{World, Reference, StructDecl, TraitDecl, ImplDecl, structs_named}
use Rattle.type_terms.specs.Promised.Rules.{sized, clone, copy, tuple_trait, fn_ptr_trait, is_fn_trait, unsize, is_auto, is_coinductive, sized_rules, copy_rules, auto_rules, tuple_rules, fn_ptr_rules, unsize_to_dyn_rules, last_asked, principal_with, autos_with, are_dyn_compatible, together}
use Rattle.type_terms.specs.Promised.Proofs.{In}
use Rattle.infer_table.specs.Canonical.{CanonicalForm}
use Rattle.goal_evaluator.specs.Plans.{nested_in}
use Rattle.goal_evaluator.specs.declared.candidate.CandidateSource.TheVariants.{BuiltinImpl, ParamEnv}
use Rattle.goal_evaluator.specs.declared.candidate.BuiltinImplSource.TheVariants.{Trivial}
use Rattle.goal_evaluator.specs.Tables.{frame_tables}
use Rattle.goal_evaluator.specs.Promised.Widths.{count, with_self, width}
use Rattle.goal_evaluator.specs.Widths.{width_of_predicates, number_of}
use Rattle.goal_evaluator.proofs.Widths.{IsWithin, within}
use Rattle.candidate_model.specs.Facts.{clauses_of}
use Rattle.candidate_model.specs.Asking.{GoalOverKinds, goal_over_kinds, all_known, self_of, next_of, begins_unknown, with_plain_head, clauses}
use Rattle.declarations.specs.Promised.Elaboration.{elaborate, supertraits}
use Rattle.candidate_model.specs.Meaning.{ViewMeaning}
use Rattle.candidate_model.specs.Declared.{StructsAreOne, LeadDown}
use Rattle.candidate_model.specs.Candidates.{Candidate, premise, by_rule, by_the_impl, rules_behind, misc, all_equal, unsure, unknowable, can_be, by_clauses, by_impls, can_match, by_sized, by_copy, by_auto, by_tuple, by_fn_ptr, call_of, by_call, unsize_array_of, upcasts_of, unsize_struct_of, unsize_known, unsizing_outlives, unsize_recording, by_unsize, built_in, object_source, written_source, bounds_from, objects_of, by_objects, as_written, clause_source}
use Rattle.candidate_model.specs.Cover.{all_candidates}
use Rattle.candidate_model.specs.Promised.Widths.{greatest, width_of, supers_of, supertraits_in, declared_width, clauses_in, built_in_rows, dyn_bounds, number_at}
use Rattle.candidate_model.specs.Solver.{widest_of, most_candidates}
use Rattle.candidate_model.proofs.Premises.{CandidatesAreFew, PremisesAreFew}
use Rattle.candidate_model.proofs.Cover.{IsAsked, asked-by}
use Rattle.candidate_model.proofs.DeclaredWidths.{greatest-at}
use Rattle.candidate_model.proofs.ObjectCounts.{many, many-few, bounds-ask, objects-ask}
use Rattle.candidate_model.proofs.RowCounts.{one-of-core}
use Rattle.candidate_model.proofs.Recording.{length-recorded, nested-recorded}
use Rattle.candidate_model.proofs.CandidateNumbers.{nested-append, last-few, autos-few, principal-few, sized-few, copy-few, auto-few, tuple-few, fn-ptr-few, to-dyn-few, FewCandidates, none-few, if-few, both-few, written-few, upcasts-few, structs-few, from-bounds-few, asked-supers-few, supers-few, tested-few, elaborated-few}
use Rattle.type_terms.proofs.ListBasics.{map-length, length-append}
use Rattle.type_terms.proofs.NumberBasics.{in-goal}

-- ---- where-clauses and impls
clauses-few : (V : World) (a : GoalOverKinds) (rs : List Reference) → (length (by_clauses V a rs) ≤ length rs) × (nested_in frame_tables (by_clauses V a rs) ≡ 0)
clauses-few V a [] = (omega arith, refl)
clauses-few V a (r ∷ rs) = by (can_be a.reference r) (clauses-few V a rs)
  where
    by : (b : Bool) → (length (by_clauses V a rs) ≤ length rs) × (nested_in frame_tables (by_clauses V a rs) ≡ 0)
        → (length (if b then by_rule V a (ParamEnv (clause_source r)) (all_equal a.reference.args r.args) [] ∷ by_clauses V a rs else by_clauses V a rs) ≤ suc (length rs))
        × (nested_in frame_tables (if b then by_rule V a (ParamEnv (clause_source r)) (all_equal a.reference.args r.args) [] ∷ by_clauses V a rs else by_clauses V a rs) ≡ 0)
    by true h = let l = h.0 in let n = h.1 in (omega (arith, l), omega (arith, n))
    by false h = let l = h.0 in (omega (arith, l), h.1)

clauses-counted : (E : Trees) → length (clauses_of E) ≤ count E
clauses-counted none = omega arith
clauses-counted (tree (predicate (of_trait t)) c o) = let e = clauses-counted o in omega (arith, e)
clauses-counted (tree l c o) = let e = clauses-counted o in omega (arith, e)

-- the clauses of the impls together
abbrev sum_of : List ImplDecl → ℕ
sum_of [] = zero
sum_of (i ∷ is) = length i.clauses + sum_of is

sum-is : (z : ℕ) (is : List ImplDecl) → fold ◌+◌ z (map (λ (i : ImplDecl). length i.clauses) is) ≡ z + sum_of is
sum-is z [] = none-more z
  where
    none-more : (z : ℕ) → z ≡ z + 0
    none-more z = omega arith
sum-is z (i ∷ is) = let e = sum-is (z + length i.clauses) is in omega (arith, e)

-- ---- the self type
erased-self : (l : Label) (m : ℕ) → with_self (erase_label l) m ≡ with_self l m
erased-self (fn_ptr n) m = refl
erased-self (principal n i) zero = refl
erased-self (principal n i) (suc m) = refl
erased-self (param of_lifetime i) m = refl
erased-self (placeholder of_lifetime i) m = refl
erased-self (infer of_lifetime i) m = refl
erased-self (canonical of_lifetime i) m = refl
erased-self (bound of_lifetime k i) m = refl
erased-self l m = refl

pub plain-within : (w : ℕ) (t : Trees) → IsWithin w t → IsWithin w (with_plain_head t)
plain-within w none h = tt
plain-within w (tree l c o) h = (subst (λ z. z ≤ w) (sym (erased-self l (count c))) h.0, h.1, h.2)

pub plain-count : (t : Trees) → count (with_plain_head t) ≡ count t
plain-count none = refl
plain-count (tree l c o) = refl

module _ (V : World) (w : ℕ) (one : StructsAreOne V) (fields : (x : StructDecl) → In x V.structs → count (together x.fields) ≤ w) (supers : (x : TraitDecl) → In x V.traits → supers_of V x ≤ w) (rank : ℕ → ℕ) (down : LeadDown V rank) (a : GoalOverKinds) where
  -- ---- impls
  impls-few : (is : List ImplDecl) → FewCandidates V w supers (by_impls V a is) (length is) (sum_of is)
  impls-few [] = record { few = omega arith; asks = omega arith }
  impls-few (i ∷ is) = by ((i.header.trait == a.reference.trait) && can_match a.reference.args i.header.args) (impls-few is)
    where
      by : (b : Bool) → FewCandidates V w supers (by_impls V a is) (length is) (sum_of is)
          → FewCandidates V w supers (if b then by_the_impl V a i ∷ by_impls V a is else by_impls V a is) (suc (length is)) (length i.clauses + sum_of is)
      by true h =
          let l = h.few in
          let n = h.asks in
          let m = map-length (premise a (is_coinductive V a.reference.trait)) (map (rules_behind (length a.kinds)) i.clauses) in
          let k = map-length (rules_behind (length a.kinds)) i.clauses in
          record { few = omega (arith, l); asks = omega (arith, n, m, k) }
      by false h = let l = h.few in let n = h.asks in record { few = omega (arith, l); asks = omega (arith, n) }

  -- ---- rows
  call-few : (u : Trees) → FewCandidates V w supers (call_of V a u) 1 1
  call-few (tree (fn_ptr n) types (tree l c others)) =
      let f = last-few sized types in
      let m = map-length (premise a (is_coinductive V a.reference.trait)) (last_asked sized types) in
      record { few = omega arith; asks = omega (arith, f, m) }
  call-few u = none-few V w supers 1 1

  array-few : (u : Trees) → FewCandidates V w supers (unsize_array_of V a u) 1 0
  array-few (tree array (tree l c n) (tree slice (tree m d p) o)) = record { few = omega arith; asks = omega arith }
  array-few u = none-few V w supers 1 0

  struct-unsizes-few : (u : Trees) → FewCandidates V w supers (unsize_struct_of V a u) 1 1
  struct-unsizes-few (tree (adt s) b (tree (adt t) d o)) = if-few V w supers (s == t) _ 1 1 (structs-few V w supers a b d (structs_named V s) (one s))
  struct-unsizes-few u = none-few V w supers 1 1

  unsize-few : (u : Trees) → IsWithin w u → count u ≤ w → FewCandidates V w supers (unsize_known V a u) (w + 4) (w + 2)
  unsize-few u h g =
      let tail = both-few V w supers (upcasts_of V a u) (unsize_struct_of V a u) (suc w) 0 1 1 (upcasts-few V w supers a u) (struct-unsizes-few u) in
      let dyns = both-few V w supers (as_written V a misc (unsize_to_dyn_rules V u)) (upcasts_of V a u ++ unsize_struct_of V a u) 1 (suc w) (suc w + 1) (0 + 1) (written-few V w supers a misc (unsize_to_dyn_rules V u) 1 (suc w) (to-dyn-few V w u h g)) tail in
      let all = both-few V w supers (unsize_array_of V a u) (as_written V a misc (unsize_to_dyn_rules V u) ++ (upcasts_of V a u ++ unsize_struct_of V a u)) 1 0 (1 + (suc w + 1)) (suc w + (0 + 1)) (array-few u) dyns in
      let f = all.few in
      let n = all.asks in
      record { few = omega (arith, f); asks = omega (arith, n) }

  by-unsize-few : (t : Bool) → IsWithin w (self_of a) → count (self_of a) ≤ w → FewCandidates V w supers (if t then unsure ∷ [] else unsize_recording V a) (w + 4) (w + 2)
  by-unsize-few true h g = record { few = omega arith; asks = omega arith }
  by-unsize-few false h g =
      let r = unsizing_outlives a.reference.args in
      let cs = unsize_known V a (self_of a) in
      let x = unsize-few (self_of a) h g in
      record { few = subst (λ n. n ≤ w + 4) (sym (length-recorded r cs)) x.few; asks = subst (λ n. n ≤ w + 2) (sym (nested-recorded r cs)) x.asks }

  -- of these at most one counts
  abbrev of_sized : ℕ
  of_sized = if a.reference.trait == sized then 1 else zero

  abbrev of_copy : ℕ
  of_copy = if (a.reference.trait == copy) || (a.reference.trait == clone) then w else zero

  abbrev of_call : ℕ
  of_call = if is_fn_trait a.reference.trait then 1 else zero

  abbrev of_unsize : ℕ
  of_unsize = if a.reference.trait == unsize then w + 2 else zero

  built-in-few : IsWithin w (self_of a) → count (self_of a) ≤ w → FewCandidates V w supers (built_in V a) (w + 10) (w + (w + 2))
  built-in-few h g =
      let z0 = tested-few V w supers (a.reference.trait == sized) _ 1 1 (written-few V w supers a (BuiltinImpl Trivial) (sized_rules V (self_of a)) 1 1 (sized-few V w one fields (self_of a))) in
      let z1 = tested-few V w supers ((a.reference.trait == copy) || (a.reference.trait == clone)) _ 1 w (written-few V w supers a misc (copy_rules a.reference.trait (self_of a)) 1 w (copy-few V w one fields a.reference.trait (self_of a) h)) in
      let z2 = if-few V w supers (is_auto V a.reference.trait) _ 1 w (written-few V w supers a misc (auto_rules V a.reference.trait (self_of a)) 1 w (auto-few V w one fields a.reference.trait (self_of a) g h)) in
      let z3 = if-few V w supers (a.reference.trait == tuple_trait) _ 1 0 (written-few V w supers a misc (tuple_rules (self_of a)) 1 0 (tuple-few (self_of a))) in
      let z4 = if-few V w supers (a.reference.trait == fn_ptr_trait) _ 1 0 (written-few V w supers a misc (fn_ptr_rules (self_of a)) 1 0 (fn-ptr-few (self_of a))) in
      let z5 = tested-few V w supers (is_fn_trait a.reference.trait) _ 1 1 (call-few (self_of a)) in
      let z6 = tested-few V w supers (a.reference.trait == unsize) _ (w + 4) (w + 2) (by-unsize-few (begins_unknown a.kinds (next_of (self_of a))) h g) in
      let y5 = both-few V w supers (by_call V a) (by_unsize V a) 1 of_call (w + 4) of_unsize z5 z6 in
      let y4 = both-few V w supers (by_fn_ptr V a) _ 1 0 (1 + (w + 4)) (of_call + of_unsize) z4 y5 in
      let y3 = both-few V w supers (by_tuple V a) _ 1 0 (1 + (1 + (w + 4))) (0 + (of_call + of_unsize)) z3 y4 in
      let y2 = both-few V w supers (by_auto V a) _ 1 w (1 + (1 + (1 + (w + 4)))) (0 + (0 + (of_call + of_unsize))) z2 y3 in
      let y1 = both-few V w supers (by_copy V a) _ 1 of_copy (1 + (1 + (1 + (1 + (w + 4))))) (w + (0 + (0 + (of_call + of_unsize)))) z1 y2 in
      let y0 = both-few V w supers (by_sized V a) _ 1 of_sized (1 + (1 + (1 + (1 + (1 + (w + 4)))))) (of_copy + (w + (0 + (0 + (of_call + of_unsize))))) z0 y1 in
      let f = y0.few in
      let n = y0.asks in
      let o = one-of-core a.reference.trait w in
      record { few = omega (arith, f); asks = omega (arith, n, o) }

  -- ---- object bounds
  abbrev most : ℕ
  most = supertraits_in V

  -- no trait of the view has more supertraits
  within-most : (x : TraitDecl) → In x V.traits → supers_of V x ≤ most
  within-most x i = greatest-at (supers_of V) V.traits x i

  objects-few : (u : Trees) → IsWithin w u → FewCandidates V w supers (objects_of V a u) (w + (w + 1)) (most + w * most)
  objects-few (tree dynamic b o) h =
      let self = tree dynamic b none in
      let c = h.0 in
      let autos = autos-few self b in
      let p = elaborated-few V w supers (principal_with self b) (principal-few self b) in
      let x = if-few V w supers (not (a.reference.trait == sized)) (bounds_from V a written_source 0 (autos_with self b)) (length (autos_with self b)) (w * most)
      (record { few = from-bounds-few V w supers a written_source 0 (autos_with self b); asks = by-autos (autos_with self b) (omega (arith, autos, c)) }) in
      let y = if-few V w supers (not (a.reference.trait == sized)) (bounds_from V a object_source 0 (elaborate V (principal_with self b))) (length (elaborate V (principal_with self b))) most
      (record { few = from-bounds-few V w supers a object_source 0 (elaborate V (principal_with self b)); asks = by-principal (principal_with self b) (principal-few self b) }) in
      let z = both-few V w supers _ _ _ _ _ _ x y in
      let f = z.few in
      let n = z.asks in
      if-few V w supers (are_dyn_compatible V (principal_with self b)) _ _ _ (record { few = omega (arith, f, c, autos, p); asks = omega (arith, n) })
    where
      by-autos : (rs : List Reference) → length rs ≤ w → nested_in frame_tables (bounds_from V a written_source 0 rs) ≤ w * most
      by-autos rs g =
          let e = bounds-ask V a written_source 0 rs in
          let m = many-few a.reference.trait rs in
          let x = mul-le (many a.reference.trait rs) (length (supertraits V a.reference)) w most (omega (arith, m, g)) (asked-supers-few V most within-most a.reference) in
          omega (arith, e, x)

      by-principal : (rs : List Reference) → length rs ≤ 1 → nested_in frame_tables (bounds_from V a object_source 0 (elaborate V rs)) ≤ most
      by-principal rs g =
          let e = bounds-ask V a object_source 0 (elaborate V rs) in
          let x = objects-ask V rank down a.reference most (supers-few V most within-most) rs g in
          omega (arith, e, x)
  objects-few u h = none-few V w supers (w + (w + 1)) (most + w * most)

-- ---- all candidates of a goal that is decided
first-below : (p q s t n : ℕ) → max p q ≤ s → p ≤ max n (max s t)
first-below p q s t n h = omega (arith, h)

second-below : (p q r s t n : ℕ) → max p q ≤ s → p ≤ max n (max r (max s t))
second-below p q r s t n h = omega (arith, h)

module _ (m : ViewMeaning) (one : StructsAreOne m.view) (rank : ℕ → ℕ) (down : LeadDown m.view rank) (f : CanonicalForm) (a : GoalOverKinds) (is : goal_over_kinds m.view f ≡ Some a) where
  abbrev V : World
  V = m.view

  abbrev w : ℕ
  w = widest_of V f

  -- the three parts of what declarations have at most
  abbrev of_structs : ℕ
  of_structs = greatest (λ (x : StructDecl). max (count (together x.fields)) (greatest width x.fields)) V.structs

  abbrev of_traits : ℕ
  of_traits = greatest (λ (x : TraitDecl). max (supers_of V x) (max (length x.bounds) (greatest width_of x.bounds))) V.traits

  abbrev of_impls : ℕ
  of_impls = greatest (λ (i : ImplDecl). max (width_of i.header) (greatest width_of i.clauses)) V.impls

  abbrev number : ℕ
  number = number_of (record { form = f; coinductive = false })

  fields : (x : StructDecl) → In x V.structs → count (together x.fields) ≤ w
  fields x i =
      first-below (count (together x.fields)) (greatest width x.fields) of_structs (max of_traits of_impls) number
      (greatest-at (λ (y : StructDecl). max (count (together y.fields)) (greatest width y.fields)) V.structs x i)

  supers : (x : TraitDecl) → In x V.traits → supers_of V x ≤ w
  supers x i =
      second-below (supers_of V x) (max (length x.bounds) (greatest width_of x.bounds)) of_structs of_traits of_impls number
      (greatest-at (λ (y : TraitDecl). max (supers_of V y) (max (length y.bounds) (greatest width_of y.bounds))) V.traits x i)

  parts : IsAsked V f.goal.environment f.goal.predicate (all_known f.kinds) a
  parts = asked-by V f.goal.environment f.goal.predicate (all_known f.kinds) a is

  goal : (count a.reference.args ≤ w) × (width a.reference.args ≤ w)
  goal =
      in-goal (width_of_predicates f.goal.environment) (width_of_predicates f.goal.predicate) (declared_width V) (count a.reference.args) (width a.reference.args)
      (ap width_of_predicates parts.predicate_is)

  self-within : IsWithin w (self_of a)
  self-within = plain-within w a.reference.args (within w a.reference.args goal.1)

  self-count : count (self_of a) ≤ w
  self-count = subst (λ z. z ≤ w) (sym (plain-count a.reference.args)) goal.0

  abbrev rest : List Candidate
  rest = by_impls V a V.impls ++ by_objects V a

  few-rest : FewCandidates V w supers rest (length V.impls + (w + (w + 1))) (sum_of V.impls + dyn_bounds V w)
  few-rest =
      both-few V w supers (by_impls V a V.impls) (by_objects V a) (length V.impls) (sum_of V.impls) (w + (w + 1)) (dyn_bounds V w)
      (impls-few V w one fields supers rank down a V.impls) (objects-few V w one fields supers rank down a (self_of a) self-within)

  few-built-in : FewCandidates V w supers (built_in V a ++ rest) ((w + 10) + (length V.impls + (w + (w + 1)))) (built_in_rows w + (sum_of V.impls + dyn_bounds V w))
  few-built-in =
      both-few V w supers (built_in V a) rest (w + 10) (built_in_rows w) (length V.impls + (w + (w + 1))) (sum_of V.impls + dyn_bounds V w)
      (built-in-few V w one fields supers rank down a self-within self-count) few-rest

  pub few-candidates : suc (length (all_candidates V a)) ≤ most_candidates V f
  few-candidates =
      let l = length-append (by_clauses V a (clauses a)) (built_in V a ++ rest) in
      let c = (clauses-few V a (clauses a)).0 in
      let e = clauses-counted a.environment in
      let q = ap count parts.environment_is in
      let b = few-built-in.few in
      omega (arith, l, c, e, q, b)

  pub few-premises : nested_in frame_tables (unknowable V a ∷ all_candidates V a) ≤ number_at V w
  few-premises =
      let n = nested-append (by_clauses V a (clauses a)) (built_in V a ++ rest) in
      let c = (clauses-few V a (clauses a)).1 in
      let b = few-built-in.asks in
      let s = asked-supers-few V (supertraits_in V) (λ x j. greatest-at (supers_of V) V.traits x j) a.reference in
      let k = map-length (premise a false) (supertraits V a.reference) in
      let i = sum-is zero V.impls in
      total (length (map (premise a false) (supertraits V a.reference))) (length (supertraits V a.reference)) _ _ _ (clauses_in V) (sum_of V.impls) (supertraits_in V) (built_in_rows w) (dyn_bounds V w) k s n c b i
    where
      total : (u s n c b i j m r p : ℕ) → u ≡ s → s ≤ m → n ≡ c + b → c ≡ 0 → b ≤ r + (j + p) → i ≡ 0 + j → u + n ≤ i + (m + (r + p))
      total u s n c b i j m r p e g h k l q = omega (arith, e, g, h, k, l, q)

pub candidates-are-few : (m : ViewMeaning) → StructsAreOne m.view → (rank : ℕ → ℕ) → LeadDown m.view rank → CandidatesAreFew m × PremisesAreFew m
candidates-are-few m one rank down = (λ f a is. few-candidates m one rank down f a is, λ f a is. few-premises m one rank down f a is)
