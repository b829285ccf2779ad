-- What each step of unification keeps, all of it keeps: something of the table, and of each term that is compared.
use Rattle.std.proofs.Common.{◌≡◌, ℕ, zero, suc, ◌+◌, ltb, Bool, true, false, [], ◌∷◌, ◌++◌, refl, subst, Option, Some, None, if◌then◌else◌}
use Rattle.std.specs.Prelude.{option_map, option_and_then}
use Rattle.type_terms.specs.Promised.Label.{Label, Sort, of_type, of_const, of_lifetime}
use Rattle.type_terms.specs.Promised.Trees.{Trees, none, tree, is_sort}
use Rattle.type_terms.specs.Codes.{same}
use Rattle.infer_table.specs.Solutions.{resolved, occurs}
use Rattle.infer_table.specs.Resolving.{followed}
use Rattle.infer_table.specs.Equations.{unbound_in}
use Rattle.infer_table.specs.Unification.{TableTrees, with_binding, with_equal, with_regions, term_sort, variable_at, head_of, parts_of, binds, Worklist, pairs, Outcome, refused, onward, bound_to, in_pairs, by_parts, by_variables, by_sort, compared, step, load, Solver, after, steps, rounds, unified}
use Rattle.infer_table.specs.Applied.{solved_in_turn}
use Rattle.infer_table.proofs.TypeBasics.{some-one}

-- it holds of both sides of each equation
abbrev pub OfPairs : (Trees → Type 0) → Worklist → Type 0
OfPairs OfTerms [] = Unit {0}
OfPairs OfTerms (e ∷ rest) = OfTerms e.0 × OfTerms e.1 × OfPairs OfTerms rest

-- what holds of lists of terms holds of each of them, of the terms in them and of values; and tables keep what holds of
-- them with such terms put in
pub record Keeps (OfTerms : Trees → Type 0) (OfTables : TableTrees → Type 0) : Type 0 where
  pub first : (l : Label) (c o : Trees) → OfTerms (tree l c o) → OfTerms (tree l c none)
  pub others : (l : Label) (c o : Trees) → OfTerms (tree l c o) → OfTerms o
  pub parts : (from : ℕ) (t : Trees) → OfTerms t → OfTerms (parts_of from t)
  pub values : (t : TableTrees) (x : Trees) → OfTables t → OfTerms x → OfTerms (followed t.bindings x)
  pub bindings : (t : TableTrees) (k : Sort) (v : ℕ) (x : Trees) → OfTables t → OfTerms x → OfTables (with_binding t k v x)
  pub regions : (t : TableTrees) (n : ℕ) → OfTables t → OfTables (with_regions t n)
  pub equal : (t : TableTrees) (a b : Trees) → OfTables t → OfTables (with_equal t a b)

module _ (OfTerms : Trees → Type 0) (OfTables : TableTrees → Type 0) (keeps : Keeps OfTerms OfTables) where
  abbrev IfPaired : Option Worklist → Type 0
  IfPaired None = Unit {0}
  IfPaired (Some todo) = OfPairs OfTerms todo

  paired : (a b : Trees) → OfTerms a → OfTerms b → IfPaired (pairs a b)
  paired none none p q = tt
  paired none (tree m d u) p q = tt
  paired (tree l c o) none p q = tt
  paired (tree l c o) (tree m d u) p q = by (pairs o u) (keeps.first l c o p) (keeps.first m d u q) (paired o u (keeps.others l c o p) (keeps.others m d u q))
    where
      by : (r : Option Worklist) → OfTerms (tree l c none) → OfTerms (tree m d none) → IfPaired r → IfPaired (option_map (λ rest. (tree l c none, tree m d none) ∷ rest) r)
      by None p q h = tt
      by (Some rest) p q h = (p, q, h)

  together : (xs ys : Worklist) → OfPairs OfTerms xs → OfPairs OfTerms ys → OfPairs OfTerms (xs ++ ys)
  together [] ys p q = q
  together (x ∷ xs) ys p q = (p.0, p.1, together xs ys p.2 q)

  -- ---- a step
  abbrev Left : Outcome → Type 0
  Left refused = Unit {0}
  Left (onward found u todo) = OfTables u × OfPairs OfTerms todo

  either : (b : Bool) (x y : Outcome) → Left x → Left y → Left (if b then x else y)
  either true x y p q = p
  either false x y p q = q

  module _ (t : TableTrees) (rest : Worklist) (table : OfTables t) (more : OfPairs OfTerms rest) where
    bound : (k : Sort) (v : ℕ) (x : Trees) → OfTerms x → Left (bound_to t k v x rest)
    bound k v x h = either (occurs k v (resolved t.bindings x)) refused (onward true (with_binding t k v x) rest) tt (keeps.bindings t k v x table h, more)

    by-pairs : (n : ℕ) (o : Option Worklist) → IfPaired o → Left (in_pairs (with_regions t n) o rest)
    by-pairs n None h = tt
    by-pairs n (Some todo) h = (keeps.regions t n table, together todo rest h more)

    by-parts : (a b : Trees) → OfTerms a → OfTerms b → Left (by_parts t a b rest)
    by-parts a b p q =
        let x = parts_of t.region_vars a in
        let y = parts_of (t.region_vars + binds a) b in
        either (same (head_of a) (head_of b)) (in_pairs (with_regions t (binds a + binds b)) (pairs x y) rest) refused
        (by-pairs (binds a + binds b) (pairs x y) (paired x y (keeps.parts t.region_vars a p) (keeps.parts (t.region_vars + binds a) b q))) tt

    by-variables : (k : Sort) (a b : Trees) (o p : Option ℕ) → OfTerms a → OfTerms b → Left (by_variables t k a b o p rest)
    by-variables k a b (Some v) (Some w) p q = either (ltb v w) (bound_to t k w a rest) (bound_to t k v b rest) (bound k w a p) (bound k v b q)
    by-variables k a b (Some v) None p q = bound k v b q
    by-variables k a b None (Some w) p q = bound k w a p
    by-variables k a b None None p q = by-parts a b p q

    by-sort : (k : Sort) (a b : Trees) → OfTerms a → OfTerms b → Left (by_sort t k a b rest)
    by-sort of_type a b p q = by-variables of_type a b (variable_at a) (variable_at b) p q
    by-sort of_const a b p q = by-variables of_const a b (variable_at a) (variable_at b) p q
    by-sort of_lifetime a b p q = (keeps.equal t a b table, more)

    by-step : (e : Trees × Trees) → OfTerms e.0 → OfTerms e.1 → Left (step t e rest)
    unfolding step
    by-step e p q =
        let x = followed t.bindings e.0 in
        let y = followed t.bindings e.1 in
        let k = term_sort e.0 in
        either (is_sort k (term_sort e.1)) (compared t k x y rest) refused
        (either (same x y) (onward false t rest) (by_sort t k x y rest) (table, more) (by-sort k x y (keeps.values t e.0 table p) (keeps.values t e.1 table q))) tt

  -- ---- all of them
  abbrev KeptBy : Solver → Type 0
  KeptBy f = (t u : TableTrees) (todo : Worklist) → OfTables t → OfPairs OfTerms todo → f t todo ≡ Some u → OfTables u

  kept-after : (anew next : Solver) → KeptBy anew → KeptBy next → (u : TableTrees) (o : Outcome) → Left o → after anew next o ≡ Some u → OfTables u
  kept-after anew next p q u refused a e = cc
  kept-after anew next p q u (onward true w todo) a e = p w u todo a.0 a.1 e
  kept-after anew next p q u (onward false w todo) a e = q w u todo a.0 a.1 e

  kept-steps : (anew : Solver) → KeptBy anew → (n : ℕ) → KeptBy (steps anew n)
  kept-steps anew p zero t u todo h g e = cc
  kept-steps anew p (suc n) t u [] h g e = subst OfTables (some-one t u e) h
  kept-steps anew p (suc n) t u (x ∷ rest) h g e = kept-after anew (steps anew n) p (kept-steps anew p n) u (step t x rest) (by-step t rest h g.2 x g.0 g.1) e

  kept-rounds : (n : ℕ) → KeptBy (rounds n)
  kept-rounds zero t u todo h g e = cc
  kept-rounds (suc n) t u todo h g e = kept-steps (rounds n) (kept-rounds n) (suc (load t.bindings todo)) t u todo h g e

  pub unified-keeps : (t u : TableTrees) (todo : Worklist) → OfTables t → OfPairs OfTerms todo → unified t todo ≡ Some u → OfTables u
  unfolding unified
  unified-keeps t u todo h g e = kept-rounds (suc (unbound_in t.bindings + t.ty_vars + t.const_vars)) t u todo h g e

  -- equations in turn
  pub turns-keep : (t u : TableTrees) (x y : Trees) → OfTables t → OfTerms x → OfTerms y → solved_in_turn t x y ≡ Some u → OfTables u
  turns-keep t u none none h p q e = subst OfTables (some-one t u e) h
  turns-keep t u none (tree m d y) h p q e = cc
  turns-keep t u (tree l c x) none h p q e = cc
  turns-keep t u (tree l c x) (tree m d y) h p q e =
      by (unified t ((tree l c none, tree m d none) ∷ [])) refl (λ w g f. turns-keep w u x y g (keeps.others l c x p) (keeps.others m d y q) f) e
    where
      by : (r : Option TableTrees) → unified t ((tree l c none, tree m d none) ∷ []) ≡ r → ((w : TableTrees) → OfTables w → solved_in_turn w x y ≡ Some u → OfTables u)
          → option_and_then (λ w. solved_in_turn w x y) r ≡ Some u → OfTables u
      by None i next e = cc
      by (Some w) i next e = next w (unified-keeps t w ((tree l c none, tree m d none) ∷ []) h (keeps.first l c x p, keeps.first m d y q, tt) i) e
