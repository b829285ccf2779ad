-- Unknowns in terms that are made equal: all are the table's own, lifetimes too, and no canonical variable comes in.
use Rattle.std.proofs.Common.{◌≡◌, ℕ, zero, suc, ◌+◌, ◌<◌, ◌≤◌, ltb, Bool, true, false, refl, subst, arith, List, [], ◌∷◌, ◌++◌, Option, Some, None, if◌then◌else◌, cond}
use Rattle.std.specs.Prelude.{◌==◌, option_map, option_and_then}
use Rattle.std.proofs.lemmas.Bool.Decides.{nat_tests}
use Rattle.type_terms.specs.Promised.Label.{Label, Sort, of_type, of_const, of_lifetime, infer, canonical, bound, fn_ptr, dynamic, principal, auto_trait, predicate, inside}
use Rattle.type_terms.specs.Promised.Trees.{Trees, none, tree, ◌+++◌, is_sort}
use Rattle.type_terms.specs.Codes.{same}
use Rattle.infer_table.specs.Solutions.{Binding, is_same_variable, replace, resolved, occurs}
use Rattle.infer_table.specs.Resolving.{followed, is_root}
use Rattle.infer_table.specs.Opened.{is_opened, opened_label, opened_binder}
use Rattle.infer_table.specs.Equations.{unbound_in}
use Rattle.infer_table.specs.Unification.{TableTrees, with_binding, with_equal, with_regions, term_sort, variable_at, head_of, object_parts, parts_of, binds, Worklist, pairs, Outcome, refused, onward, bound_to, in_pairs, by_parts, by_variables, by_sort, compared, step, load, Solver, after, steps, rounds, unified}
use Rattle.infer_table.specs.Applied.{solved_in_turn}
use Rattle.infer_table.specs.Applying.{unknowns_of}
use Rattle.infer_table.specs.Canonical.{HasNoCanonical}
use Rattle.infer_table.specs.Covers.{AreKnown}
use Rattle.infer_table.proofs.Places.{in_terms, in_object, in_autos, AreTrees, AllTrees}
use Rattle.infer_table.proofs.WellFacts.{parts-terms, followed-terms}
use Rattle.infer_table.proofs.WithoutCanonical.{and-right}
use Rattle.infer_table.proofs.TypeBasics.{some-one}

-- the label is no canonical variable, and as an unknown it has a number below these
abbrev pub IsOwn : (Sort → ℕ) → Label → Type 0
IsOwn n (infer s v) = v < n s
IsOwn n (canonical s i) = ⊥
IsOwn n l = Unit {0}

abbrev pub AreOwn : (Sort → ℕ) → Trees → Type 0
AreOwn n none = Unit {0}
AreOwn n (tree l c o) = IsOwn n l × AreOwn n c × AreOwn n o

pub own-known : (n : Sort → ℕ) (t : Trees) → AreOwn n t → AreKnown n t
own-known n none h = tt
own-known n (tree (infer s v) c o) h = (h.0, own-known n c h.1, own-known n o h.2)
own-known n (tree l c o) h = (own-known n c h.1, own-known n o h.2)

pub own-clean : (n : Sort → ℕ) (t : Trees) → AreOwn n t → HasNoCanonical t
own-clean n none h = tt
own-clean n (tree (canonical s i) c o) h = absurd h.0
own-clean n (tree l c o) h = (own-clean n c h.1, own-clean n o h.2)

-- ---- more unknowns
abbrev pub NoFewer : (Sort → ℕ) → (Sort → ℕ) → Type 0
NoFewer n m = (k : Sort) → n k ≤ m k

label-more : (n m : Sort → ℕ) → NoFewer n m → (l : Label) → IsOwn n l → IsOwn m l
label-more n m le (infer s v) h = let a = le s in let b : v < n s = h in omega (arith, a, b)
label-more n m le (canonical s i) h = absurd h
label-more n m le l h = tt

pub own-more : (n m : Sort → ℕ) → NoFewer n m → (t : Trees) → AreOwn n t → AreOwn m t
own-more n m le none h = tt
own-more n m le (tree l c o) h = (label-more n m le l h.0, own-more n m le c h.1, own-more n m le o h.2)

abbrev pub AllOwn : (Sort → ℕ) → List Binding → Type 0
AllOwn n [] = Unit {0}
AllOwn n (b ∷ older) = AreOwn n b.value × AllOwn n older

pub all-more : (n m : Sort → ℕ) → NoFewer n m → (bs : List Binding) → AllOwn n bs → AllOwn m bs
all-more n m le [] h = tt
all-more n m le (b ∷ older) h = (own-more n m le b.value h.0, all-more n m le older h.1)

-- ---- terms
pub own-append : (n : Sort → ℕ) (x y : Trees) → AreOwn n x → AreOwn n y → AreOwn n (x +++ y)
own-append n none y h g = g
own-append n (tree l c o) y h g = (h.0, h.1, own-append n o y h.2 g)

own-replace : (n : Sort → ℕ) (k : Sort) (v : ℕ) (r t : Trees) → AreOwn n r → AreOwn n t → AreOwn n (replace k v r t)
own-replace n k v r none p q = tt
own-replace n k v r (tree (infer j w) c o) p q = by (is_same_variable j w k v) (own-replace n k v r o p q.2)
  where
    by : (b : Bool) → AreOwn n (replace k v r o) → AreOwn n (if b then r +++ replace k v r o else tree (infer j w) c (replace k v r o))
    by true h = own-append n r (replace k v r o) p h
    by false h = (q.0, q.1, h)
own-replace n k v r (tree l c o) p q = (q.0, own-replace n k v r c p q.1, own-replace n k v r o p q.2)

pub own-resolved : (n : Sort → ℕ) (bs : List Binding) (t : Trees) → AllOwn n bs → AreOwn n t → AreOwn n (resolved bs t)
own-resolved n [] t h q = q
own-resolved n (b ∷ older) t h q = own-replace n b.sort b.var (resolved older b.value) (resolved older t) (own-resolved n older b.value h.1 h.0) (own-resolved n older t h.1 q)

own-followed : (n : Sort → ℕ) (bs : List Binding) (t : Trees) → AllOwn n bs → AreOwn n t → AreOwn n (followed bs t)
own-followed n [] t h q = q
own-followed n (b ∷ older) t h q = by (is_root b (followed older t)) (own-followed n older b.value h.1 h.0) (own-followed n older t h.1 q)
  where
    by : (x : Bool) → AreOwn n (followed older b.value) → AreOwn n (followed older t) → AreOwn n (if x then followed older b.value else followed older t)
    by true p q = p
    by false p q = q

-- ---- the terms in a term: the lifetimes that it binds become unknowns of the table
test-below : (v m : ℕ) → ltb v m ≡ true → v < m
test-below v m e = grind (arith, nat_tests)

own-label : (n : Sort → ℕ) (first m d k v : ℕ) → first + m ≤ n of_lifetime → IsOwn n (opened_label first m d k v)
own-label n first m d k v le = by (is_opened m d k v) refl
  where
    by : (b : Bool) → is_opened m d k v ≡ b → IsOwn n (cond b (infer of_lifetime (first + v)) (bound of_lifetime k v))
    by true e = let low : v < m = test-below v m (and-right (k == d) (ltb v m) e) in omega (arith, le, low)
    by false e = tt

own-opened : (n : Sort → ℕ) (first m : ℕ) → first + m ≤ n of_lifetime → (d : ℕ) (t : Trees) → AreOwn n t → AreOwn n (opened_binder first m d t)
own-opened n first m le d none h = tt
own-opened n first m le d (tree (bound of_lifetime k v) none o) h = (own-label n first m d k v le, tt, own-opened n first m le d o h.2)
own-opened n first m le d (tree l c o) h = (h.0, own-opened n first m le (inside l d) c h.1, own-opened n first m le d o h.2)

module _ (good : Label → Bool) (opens : (v : ℕ) → good (infer of_lifetime v) ≡ true) where
  own-autos : (n : Sort → ℕ) (first : ℕ) (c : Trees) → AreTrees good in_autos c → AreOwn n c → AreOwn n (object_parts first c)
  own-autos n first none h q = absurd h
  own-autos n first (tree (auto_trait i) none o) h q = own-autos n first o h q.2
  own-autos n first (tree (principal k t) none none) h q = let e = h.0 in cc
  own-autos n first (tree l none none) h q = q
  own-autos n first (tree l c o) h q = absurd h

  own-object : (n : Sort → ℕ) (first : ℕ) (c x : Trees) → AreTrees good in_object c → first + binds (tree dynamic c x) ≤ n of_lifetime → AreOwn n c → AreOwn n (object_parts first c)
  own-object n first none x h le q = absurd h
  own-object n first (tree (principal m t) c o) x h le q = own-append n (opened_binder first m 0 c) (object_parts first o) (own-opened n first m le 0 c q.1) (own-autos n first o h.1 q.2)
  own-object n first (tree (auto_trait i) none o) x h le q = own-autos n first o h q.2
  own-object n first (tree l none none) x h le q = q
  own-object n first (tree l c o) x h le q = absurd h

  own-parts : (n : Sort → ℕ) (first : ℕ) (x : Trees) → AreTrees good in_terms x → first + binds x ≤ n of_lifetime → AreOwn n x → AreOwn n (parts_of first x)
  own-parts n first none h le q = tt
  own-parts n first (tree (fn_ptr m) c o) h le q = own-opened n first m le 0 c q.1
  own-parts n first (tree dynamic c o) h le q = own-object n first c o h.0 le q.1
  own-parts n first (tree l c o) h le q = q.1

  first-tree : (l : Label) (c o : Trees) → AreTrees good in_terms (tree l c o) → AreTrees good in_terms (tree l c none) × AreTrees good in_terms o
  first-tree (infer k v) c o h = ((h.0, h.1, tt), h.2)
  first-tree (principal m t) c o h = absurd h
  first-tree (auto_trait i) c o h = absurd h
  first-tree (predicate k) c o h = absurd h
  first-tree dynamic c o h = ((h.0, tt), h.1)
  first-tree l c o h = ((h.0, h.1, tt, h.3), h.2)

  -- ---- a step
  abbrev pub IsTerm : (Sort → ℕ) → Trees → Type 0
  IsTerm n x = AreOwn n x × AreTrees good in_terms x

  abbrev pub IsOwnTable : TableTrees → Type 0
  IsOwnTable t = AllOwn (unknowns_of t) t.bindings × AllTrees good t.bindings

  abbrev ArePairs : (Sort → ℕ) → Worklist → Type 0
  ArePairs n [] = Unit {0}
  ArePairs n (e ∷ rest) = IsTerm n e.0 × IsTerm n e.1 × ArePairs n rest

  abbrev IfPaired : (Sort → ℕ) → Option Worklist → Type 0
  IfPaired n None = Unit {0}
  IfPaired n (Some todo) = ArePairs n todo

  term-more : (n m : Sort → ℕ) → NoFewer n m → (x : Trees) → IsTerm n x → IsTerm m x
  term-more n m le x h = (own-more n m le x h.0, h.1)

  pairs-more : (n m : Sort → ℕ) → NoFewer n m → (todo : Worklist) → ArePairs n todo → ArePairs m todo
  pairs-more n m le [] h = tt
  pairs-more n m le (e ∷ rest) h = (term-more n m le e.0 h.0, term-more n m le e.1 h.1, pairs-more n m le rest h.2)

  first-term : (n : Sort → ℕ) (l : Label) (c o : Trees) → IsTerm n (tree l c o) → IsTerm n (tree l c none)
  first-term n l c o h = ((h.0.0, h.0.1, tt), (first-tree l c o h.1).0)

  other-terms : (n : Sort → ℕ) (l : Label) (c o : Trees) → IsTerm n (tree l c o) → IsTerm n o
  other-terms n l c o h = (h.0.2, (first-tree l c o h.1).1)

  paired : (n : Sort → ℕ) (a b : Trees) → IsTerm n a → IsTerm n b → IfPaired n (pairs a b)
  paired n none none p q = tt
  paired n none (tree m d u) p q = tt
  paired n (tree l c o) none p q = tt
  paired n (tree l c o) (tree m d u) p q = by (pairs o u) (first-term n l c o p) (first-term n m d u q) (paired n o u (other-terms n l c o p) (other-terms n m d u q))
    where
      by : (r : Option Worklist) → IsTerm n (tree l c none) → IsTerm n (tree m d none) → IfPaired n r → IfPaired n (option_map (λ rest. (tree l c none, tree m d none) ∷ rest) r)
      by None p q h = tt
      by (Some rest) p q h = (p, q, h)

  together : (n : Sort → ℕ) (xs ys : Worklist) → ArePairs n xs → ArePairs n ys → ArePairs n (xs ++ ys)
  together n [] ys p q = q
  together n (x ∷ xs) ys p q = (p.0, p.1, together n xs ys p.2 q)

  -- what is left is the second table's own, and it has no fewer unknowns
  abbrev Left : TableTrees → Outcome → Type 0
  Left t refused = Unit {0}
  Left t (onward found u todo) = IsOwnTable u × NoFewer (unknowns_of t) (unknowns_of u) × ArePairs (unknowns_of u) todo

  either : (t : TableTrees) (b : Bool) (x y : Outcome) → Left t x → Left t y → Left t (if b then x else y)
  either t true x y p q = p
  either t false x y p q = q

  pub bound-more : (t : TableTrees) (k : Sort) (v : ℕ) (x : Trees) → NoFewer (unknowns_of t) (unknowns_of (with_binding t k v x))
  bound-more t of_type v x of_type = omega arith
  bound-more t of_type v x of_const = omega arith
  bound-more t of_type v x of_lifetime = omega arith
  bound-more t of_const v x of_type = omega arith
  bound-more t of_const v x of_const = omega arith
  bound-more t of_const v x of_lifetime = omega arith
  bound-more t of_lifetime v x of_type = omega arith
  bound-more t of_lifetime v x of_const = omega arith
  bound-more t of_lifetime v x of_lifetime = omega arith

  bound-own : (t : TableTrees) (k : Sort) (v : ℕ) (x : Trees) → IsOwnTable t → IsTerm (unknowns_of t) x → IsOwnTable (with_binding t k v x)
  bound-own t of_type v x h g =
      let le = bound-more t of_type v x in
      let u = with_binding t of_type v x in
      ((own-more (unknowns_of t) (unknowns_of u) le x g.0, all-more (unknowns_of t) (unknowns_of u) le t.bindings h.0), (g.1, h.1))
  bound-own t of_const v x h g =
      let le = bound-more t of_const v x in
      let u = with_binding t of_const v x in
      ((own-more (unknowns_of t) (unknowns_of u) le x g.0, all-more (unknowns_of t) (unknowns_of u) le t.bindings h.0), (g.1, h.1))
  bound-own t of_lifetime v x h g = h

  pub regions-more : (t : TableTrees) (m : ℕ) → NoFewer (unknowns_of t) (unknowns_of (with_regions t m))
  regions-more t m of_type = omega arith
  regions-more t m of_const = omega arith
  regions-more t m of_lifetime = omega arith

  same-counts : (t : TableTrees) (a b : Trees) → NoFewer (unknowns_of t) (unknowns_of (with_equal t a b))
  same-counts t a b of_type = omega arith
  same-counts t a b of_const = omega arith
  same-counts t a b of_lifetime = omega arith

  itself : (n : Sort → ℕ) → NoFewer n n
  itself n k = omega arith

  module _ (t : TableTrees) (rest : Worklist) (table : IsOwnTable t) (more : ArePairs (unknowns_of t) rest) where
    abbrev n : Sort → ℕ
    n = unknowns_of t

    bound-left : (k : Sort) (v : ℕ) (x : Trees) → IsTerm n x → Left t (bound_to t k v x rest)
    bound-left k v x h =
        let le = bound-more t k v x in
        either t (occurs k v (resolved t.bindings x)) refused (onward true (with_binding t k v x) rest) tt (bound-own t k v x table h, le, pairs-more n (unknowns_of (with_binding t k v x)) le rest more)

    by-pairs : (m : ℕ) (o : Option Worklist) → IfPaired (unknowns_of (with_regions t m)) o → Left t (in_pairs (with_regions t m) o rest)
    by-pairs m None h = tt
    by-pairs m (Some todo) h =
        let le = regions-more t m in
        let u = with_regions t m in
        ((all-more n (unknowns_of u) le t.bindings table.0, table.1), le, together (unknowns_of u) todo rest h (pairs-more n (unknowns_of u) le rest more))

    by-terms : (a b : Trees) → IsTerm n a → IsTerm n b → variable_at a ≡ None → variable_at b ≡ None → Left t (by_parts t a b rest)
    by-terms a b p q e f =
        let m = binds a + binds b in
        let u = with_regions t m in
        let le = regions-more t m in
        let x = parts_of t.region_vars a in
        let y = parts_of (t.region_vars + binds a) b in
        let px = term-more n (unknowns_of u) le a p in
        let py = term-more n (unknowns_of u) le b q in
        either t (same (head_of a) (head_of b)) (in_pairs u (pairs x y) rest) refused
        (by-pairs m (pairs x y) (paired (unknowns_of u) x y
        (own-parts (unknowns_of u) t.region_vars a px.1 (omega arith) px.0, parts-terms good opens t.region_vars a px.1 e)
        (own-parts (unknowns_of u) (t.region_vars + binds a) b py.1 (omega arith) py.0, parts-terms good opens (t.region_vars + binds a) b py.1 f))) tt

    by-unknowns : (k : Sort) (a b : Trees) (o p : Option ℕ) → variable_at a ≡ o → variable_at b ≡ p → IsTerm n a → IsTerm n b → Left t (by_variables t k a b o p rest)
    by-unknowns k a b (Some v) (Some w) e f p q = either t (ltb v w) (bound_to t k w a rest) (bound_to t k v b rest) (bound-left k w a p) (bound-left k v b q)
    by-unknowns k a b (Some v) None e f p q = bound-left k v b q
    by-unknowns k a b None (Some w) e f p q = bound-left k w a p
    by-unknowns k a b None None e f p q = by-terms a b p q e f

    by-kind : (k : Sort) (a b : Trees) → IsTerm n a → IsTerm n b → Left t (by_sort t k a b rest)
    by-kind of_type a b p q = by-unknowns of_type a b (variable_at a) (variable_at b) refl refl p q
    by-kind of_const a b p q = by-unknowns of_const a b (variable_at a) (variable_at b) refl refl p q
    by-kind of_lifetime a b p q =
        let le = same-counts t a b in
        let u = with_equal t a b in
        ((all-more n (unknowns_of u) le t.bindings table.0, table.1), le, pairs-more n (unknowns_of u) le rest more)

    followed-own : (x : Trees) → IsTerm n x → IsTerm n (followed t.bindings x)
    followed-own x h = (own-followed n t.bindings x table.0 h.0, followed-terms good opens t.bindings x table.1 h.1)

    by-step : (e : Trees × Trees) → IsTerm n e.0 → IsTerm n e.1 → Left t (step t e rest)
    unfolding step
    by-step e p q =
        let x = followed t.bindings e.0 in
        let y = followed t.bindings e.1 in
        let k = term_sort e.0 in
        either t (is_sort k (term_sort e.1)) (compared t k x y rest) refused
        (either t (same x y) (onward false t rest) (by_sort t k x y rest) (table, itself n, more) (by-kind k x y (followed-own e.0 p) (followed-own e.1 q))) tt

  -- ---- all of them
  abbrev pub Ends : TableTrees → TableTrees → Type 0
  Ends t u = IsOwnTable u × NoFewer (unknowns_of t) (unknowns_of u)

  abbrev KeptBy : Solver → Type 0
  KeptBy f = (t u : TableTrees) (todo : Worklist) → IsOwnTable t → ArePairs (unknowns_of t) todo → f t todo ≡ Some u → Ends t u

  further : (n m l : Sort → ℕ) → NoFewer n m → NoFewer m l → NoFewer n l
  further n m l p q k = let a = p k in let b = q k in omega (arith, a, b)

  here : (t u : TableTrees) → IsOwnTable t → Some t ≡ Some u → Ends t u
  here t u h e = subst (Ends t) (some-one t u e) (h, itself (unknowns_of t))

  kept-after : (anew next : Solver) → KeptBy anew → KeptBy next → (t u : TableTrees) (o : Outcome) → Left t o → after anew next o ≡ Some u → Ends t u
  kept-after anew next p q t u refused a e = cc
  kept-after anew next p q t u (onward true w todo) a e = let r = p w u todo a.0 a.2 e in (r.0, further (unknowns_of t) (unknowns_of w) (unknowns_of u) a.1 r.1)
  kept-after anew next p q t u (onward false w todo) a e = let r = q w u todo a.0 a.2 e in (r.0, further (unknowns_of t) (unknowns_of w) (unknowns_of u) a.1 r.1)

  kept-steps : (anew : Solver) → KeptBy anew → (m : ℕ) → KeptBy (steps anew m)
  kept-steps anew p zero t u todo h g e = cc
  kept-steps anew p (suc m) t u [] h g e = here t u h e
  kept-steps anew p (suc m) t u (x ∷ rest) h g e = kept-after anew (steps anew m) p (kept-steps anew p m) t u (step t x rest) (by-step t rest h g.2 x g.0 g.1) e

  kept-rounds : (m : ℕ) → KeptBy (rounds m)
  kept-rounds zero t u todo h g e = cc
  kept-rounds (suc m) t u todo h g e = kept-steps (rounds m) (kept-rounds m) (suc (load t.bindings todo)) t u todo h g e

  unified-own : (t u : TableTrees) (todo : Worklist) → IsOwnTable t → ArePairs (unknowns_of t) todo → unified t todo ≡ Some u → Ends t u
  unfolding unified
  unified-own t u todo h g e = kept-rounds (suc (unbound_in t.bindings + t.ty_vars + t.const_vars)) t u todo h g e

  -- terms that are made equal in turn
  pub turns-own : (t u : TableTrees) (x y : Trees) → IsOwnTable t → IsTerm (unknowns_of t) x → IsTerm (unknowns_of t) y → solved_in_turn t x y ≡ Some u → Ends t u
  turns-own t u none none h p q e = here t u h e
  turns-own t u none (tree m d y) h p q e = cc
  turns-own t u (tree l c x) none h p q e = cc
  turns-own t u (tree l c x) (tree m d y) h p q e =
      by (unified t ((tree l c none, tree m d none) ∷ [])) refl (λ w. turns-own w u x y) e
    where
      by : (r : Option TableTrees) → unified t ((tree l c none, tree m d none) ∷ []) ≡ r
          → ((w : TableTrees) → IsOwnTable w → IsTerm (unknowns_of w) x → IsTerm (unknowns_of w) y → solved_in_turn w x y ≡ Some u → Ends w u)
          → option_and_then (λ w. solved_in_turn w x y) r ≡ Some u → Ends t u
      by None i next e = cc
      by (Some w) i next e =
          let r = unified-own t w ((tree l c none, tree m d none) ∷ []) h (first-term (unknowns_of t) l c x p, first-term (unknowns_of t) m d y q, tt) i in
          let s = next w r.0 (term-more (unknowns_of t) (unknowns_of w) r.1 x (other-terms (unknowns_of t) l c x p)) (term-more (unknowns_of t) (unknowns_of w) r.1 y (other-terms (unknowns_of t) m d y q)) e in
          (s.0, further (unknowns_of t) (unknowns_of w) (unknowns_of u) r.1 s.1)
