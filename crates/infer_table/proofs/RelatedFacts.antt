-- Equations that need nothing done: they stay so, and steps pass over them.
use Rattle.std.proofs.Common.{◌≡◌, ℕ, zero, ◌+◌, Bool, true, false, refl, ap, sym, ◌∙◌, arith, List, [], ◌∷◌, ◌++◌, subst, Option, Some, None, if◌then◌else◌, ◌⊎◌, inl, inr}
use Rattle.std.specs.Prelude.{cond, ltb, ◌||◌}
use Rattle.std.proofs.lemmas.Bool.Decides.{nat_tests}
use Rattle.std.proofs.lemmas.List.{append_assoc}
use Rattle.type_terms.specs.Promised.Label.{Label, Sort, of_type, of_const, of_lifetime, infer, fn_ptr, dynamic, principal, auto_trait, bound, inside}
use Rattle.type_terms.specs.Promised.Trees.{Trees, none, tree, leaf, ◌+++◌, sort_of, is_sort}
use Rattle.type_terms.specs.Trees.{Single}
use Rattle.type_terms.specs.Codes.{same}
use Rattle.type_terms.proofs.Matching.{same-sound}
use Rattle.type_terms.proofs.TreeLaws.{append-none}
use Rattle.infer_table.specs.Solutions.{Assignment, Binding, Solves, resolved, occurs, is_same_variable, HasValues}
use Rattle.infer_table.specs.Content.{IsUnbound}
use Rattle.infer_table.specs.Opened.{opened_binder, is_opened}
use Rattle.infer_table.specs.Resolving.{is_root, followed}
use Rattle.infer_table.specs.Unification.{TableTrees, Extends, equal_constraint, is_recorded, recorded_once, with_binding, with_equal, with_regions, term_sort, variable_at, binds, head_of, object_parts, parts_of, Worklist, pairs, Outcome, refused, onward, bound_to, in_pairs, by_parts, by_variables, by_sort, compared, step}
use Rattle.infer_table.specs.WellFormed.{is_numbered, IsOfTerms, AllSame}
use Rattle.infer_table.specs.Worklists.{RunReaches}
use Rattle.infer_table.specs.Related.{HasParts, RegionsAreRecorded, Rests, rest_none, rest_same, rest_recorded, rest_waiting, rest_parts}
use Rattle.infer_table.proofs.ExtendFacts.{extends-self, with-binding-adds, with-regions-adds, with-equal-adds}
use Rattle.infer_table.proofs.Places.{in_terms, in_object, in_autos, AreTrees, IsOneTree, IsOfTrees, ArePairsOfTrees, table-trees}
use Rattle.infer_table.proofs.ResolveFacts.{followed-unbound}
use Rattle.infer_table.proofs.RunFacts.{reaches-next}
use Rattle.infer_table.proofs.SolutionLaws.{is_sort-equal, is_variable-self}
use Rattle.infer_table.proofs.SolveFacts.{step-terms, bindings-with}
use Rattle.infer_table.proofs.UnifyFacts.{step-sorted, compared-same, same-self, equal-recorded}
use Rattle.infer_table.proofs.WellFacts.{followed-one, followed-open, followed-terms}
use Rattle.type_terms.proofs.TermBasics.{node-same as same-node}

-- ---- more values
not-root : (b : Binding) (x : Trees) → variable_at x ≡ None → is_root b x ≡ false
not-root b none e = refl
not-root b (tree (infer k v) c o) e = cc
not-root b (tree l c o) e = refl

-- a term that is followed to no variable is followed there for good
followed-on : (n : Binding) (bs : List Binding) (a : Trees) → variable_at (followed bs a) ≡ None → followed (n ∷ bs) a ≡ followed bs a
followed-on n bs a e = ap (λ (z : Bool). if z then followed bs n.value else followed bs a) (not-root n (followed bs a) e)

-- no binding more, or one
abbrev pub IsNext : List Binding → List Binding → Type 0
IsNext bs cs = (cs ≡ bs) ⊎ ((n : Binding) × HasValues n.sort × (cs ≡ n ∷ bs))

-- a variable that has a value is no lifetime
lifetime-no-root : (b : Binding) (x : Trees) → HasValues b.sort → term_sort x ≡ of_lifetime → is_root b x ≡ false
lifetime-no-root b (tree (infer k v) none none) h e = by b.sort k h e
  where
    by : (j k : Sort) → HasValues j → k ≡ of_lifetime → is_same_variable j b.var k v ≡ false
    by of_lifetime k g e = absurd g
    by of_type of_lifetime g e = refl
    by of_const of_lifetime g e = refl
    by of_type of_type g e = cc
    by of_type of_const g e = cc
    by of_const of_type g e = cc
    by of_const of_const g e = cc
lifetime-no-root b none h e = refl
lifetime-no-root b (tree l c o) h e = refl

-- ---- what is recorded
or-on : (s r q : Bool) → (r ≡ true → q ≡ true) → (s || r) ≡ true → (s || q) ≡ true
or-on true r q f h = refl
or-on false r q f h = f h

recorded-more : (c cs ds : Trees) → is_recorded c cs ≡ true → is_recorded c (cs +++ ds) ≡ true
recorded-more c none ds h = cc
recorded-more c (tree l d o) ds h = or-on (same c (tree l d none)) (is_recorded c o) (is_recorded c (o +++ ds)) (recorded-more c o ds) h

recorded-last : (a b cs : Trees) → is_recorded (equal_constraint a b) (cs +++ equal_constraint a b) ≡ true
recorded-last a b none = ap (λ z. z || false) (same-self (equal_constraint a b))
recorded-last a b (tree l c o) = or-on (same (equal_constraint a b) (tree l c none)) true (is_recorded (equal_constraint a b) (o +++ equal_constraint a b)) (λ e. recorded-last a b o) (either-true (same (equal_constraint a b) (tree l c none)))
  where
    either-true : (s : Bool) → (s || true) ≡ true
    either-true true = refl
    either-true false = refl

recorded-there : (a b cs : Trees) → is_recorded (equal_constraint a b) (recorded_once (equal_constraint a b) cs) ≡ true
recorded-there a b cs = by (is_recorded (equal_constraint a b) cs) refl
  where
    by : (z : Bool) → is_recorded (equal_constraint a b) cs ≡ z → is_recorded (equal_constraint a b) (if z then cs else cs +++ equal_constraint a b) ≡ true
    by true e = e
    by false e = recorded-last a b cs

same-more : (bs : List Binding) (n : Binding) (a b : Trees) → followed bs a ≡ followed bs b → followed (n ∷ bs) a ≡ followed (n ∷ bs) b
same-more bs n a b e = ap (λ z. if is_root n z then followed bs n.value else z) e

parts-more : (bs : List Binding) (n : Binding) (a b : Trees) (ps : Worklist) → HasParts (followed bs a) (followed bs b) ps → HasParts (followed (n ∷ bs) a) (followed (n ∷ bs) b) ps
parts-more bs n a b ps h =
    subst (λ (z : Trees). HasParts z (followed (n ∷ bs) b) ps) (sym (followed-on n bs a h.left)) (subst (λ (z : Trees). HasParts (followed bs a) z ps) (sym (followed-on n bs b h.right)) h)

-- ---- other equations to wait for
pub rests-with : (bs : List Binding) (cs : Trees) (waiting rest : Worklist) (e : Trees × Trees) → Rests bs cs waiting (e ∷ []) → Rests bs cs waiting rest → Rests bs cs waiting (e ∷ rest)
rests-with bs cs waiting rest e (rest_same a b s q n) r = rest_same a b s q r
rests-with bs cs waiting rest e (rest_recorded a b s q n) r = rest_recorded a b s q r
rests-with bs cs waiting rest e (rest_waiting xs ys a b q n) r = rest_waiting xs ys a b q r
rests-with bs cs waiting rest e (rest_parts a b ps s k h w n) r = rest_parts a b ps s k h w r

module _ (bs cs : List Binding) (next : IsNext bs cs) (old new : Trees) (adds : (added : Trees) × (new ≡ old +++ added)) (before after : Worklist)
    (each : (e : Trees × Trees) (xs ys : Worklist) → before ≡ xs ++ e ∷ ys → Rests cs new after (e ∷ [])) where
  lifetime-on : (x : Trees) → term_sort (followed bs x) ≡ of_lifetime → followed cs x ≡ followed bs x
  lifetime-on x k = by next
    where
      by : IsNext bs cs → followed cs x ≡ followed bs x
      by (inl e) = ap (λ z. followed z x) e
      by (inr (n, h, e)) = ap (λ z. followed z x) e ∙ ap (λ (z : Bool). if z then followed bs n.value else followed bs x) (lifetime-no-root n (followed bs x) h k)

  recorded-on : (a b : Trees) → RegionsAreRecorded bs old a b → RegionsAreRecorded cs new a b
  recorded-on a b q =
      let fa = lifetime-on a q.left in
      let fb = lifetime-on b q.right in
      record {
        lifetime = q.lifetime;
        left = ap term_sort fa ∙ q.left;
        right = ap term_sort fb ∙ q.right;
        recorded = ap (λ z. is_recorded (equal_constraint z (followed cs b)) new) fa ∙ ap (λ z. is_recorded (equal_constraint (followed bs a) z) new) fb
            ∙ ap (is_recorded (equal_constraint (followed bs a) (followed bs b))) adds.1 ∙ recorded-more (equal_constraint (followed bs a) (followed bs b)) old adds.0 q.recorded;
      }

  pub rests-on : (w : Worklist) → Rests bs old before w → Rests cs new after w
  rests-on w rest_none = rest_none
  rests-on w (rest_same {rest = rest} a b s q r) = rest_same a b s (by next) (rests-on rest r)
    where
      by : IsNext bs cs → followed cs a ≡ followed cs b
      by (inl e) = subst (λ (z : List Binding). followed z a ≡ followed z b) (sym e) q
      by (inr (n, h, e)) = subst (λ (z : List Binding). followed z a ≡ followed z b) (sym e) (same-more bs n a b q)
  rests-on w (rest_recorded {rest = rest} a b s q r) = rest_recorded a b s (recorded-on a b q) (rests-on rest r)
  rests-on w (rest_waiting {rest = rest} xs ys a b q r) = rests-with cs new after rest (a, b) (each (a, b) xs ys q) (rests-on rest r)
  rests-on w (rest_parts {rest = rest} a b ps s k h p r) = rest_parts a b ps s k (by next) (rests-on ps p) (rests-on rest r)
    where
      by : IsNext bs cs → HasParts (followed cs a) (followed cs b) ps
      by (inl e) = subst (λ (z : List Binding). HasParts (followed z a) (followed z b) ps) (sym e) h
      by (inr (n, g, e)) = subst (λ (z : List Binding). HasParts (followed z a) (followed z b) ps) (sym e) (parts-more bs n a b ps h)

pub rests-more : (bs : List Binding) (cs : Trees) (waiting more w : Worklist) → Rests bs cs waiting w → Rests bs cs (waiting ++ more) w
rests-more bs cs waiting more w r =
    rests-on bs bs (inl refl) cs cs (none, sym (append-none cs)) waiting (waiting ++ more)
    (λ e xs ys q. rest_waiting xs (ys ++ more) e.0 e.1 (ap (λ z. z ++ more) q ∙ append_assoc xs (e ∷ ys) more) rest_none) w r

pub all-wait : (bs : List Binding) (cs : Trees) (waiting before w : Worklist) → waiting ≡ before ++ w → Rests bs cs waiting w
all-wait bs cs waiting before [] e = rest_none
all-wait bs cs waiting before (x ∷ w) e = rest_waiting before w x.0 x.1 e (all-wait bs cs waiting (before ++ x ∷ []) w (e ∙ sym (append_assoc before (x ∷ []) w)))

-- ---- steps pass over them
pub data Passes : TableTrees → Worklist → Worklist → Type 0 where
  pass_none : {t : TableTrees} (w : Worklist) → Passes t w w
  pass : {t : TableTrees} {left w : Worklist} (e : Trees × Trees) (rest : Worklist) → step t e rest ≡ onward false t left → Passes t left w → Passes t (e ∷ rest) w

passes-on : (t : TableTrees) (u v w : Worklist) → Passes t u v → Passes t v w → Passes t u w
passes-on t u v w (pass_none x) q = q
passes-on t u v w (pass {left = left} e rest s p) q = pass e rest s (passes-on t left v w p q)

not-in-none : (xs ys : Worklist) (e : Trees × Trees) → [] ≡ xs ++ e ∷ ys → ⊥
not-in-none [] ys e q = cc
not-in-none (x ∷ xs) ys e q = cc

no-lifetimes : (t : TableTrees) (n : ℕ) → n ≡ zero → with_regions t n ≡ t
no-lifetimes t n e = ap (λ m. record t { region_vars = m }) (omega (arith, e))

pub with-values : (t : TableTrees) (k : Sort) (x y : Trees) (rest : Worklist) → HasValues k → by_sort t k x y rest ≡ by_variables t k x y (variable_at x) (variable_at y) rest
with-values t of_type x y rest h = refl
with-values t of_const x y rest h = refl
with-values t of_lifetime x y rest h = absurd h

module _ (t : TableTrees) (ok : IsOfTerms t) where
  sorted-step : (a b : Trees) (rest : Worklist) → is_sort (term_sort a) (term_sort b) ≡ true → step t (a, b) rest ≡ compared t (term_sort a) (followed t.bindings a) (followed t.bindings b) rest
  sorted-step a b rest s = step-sorted t (term_sort a) a b (followed t.bindings a) (followed t.bindings b) rest refl (sym (is_sort-equal (term_sort a) (term_sort b) s)) refl refl

  step-on-parts : (k : Sort) (x y : Trees) (ps rest : Worklist) → HasValues k → HasParts x y ps → by_sort t k x y rest ≡ onward false t (ps ++ rest)
  step-on-parts k x y ps rest hk h =
      with-values t k x y rest hk ∙ ap (λ z. by_variables t k x y z (variable_at y) rest) h.left ∙ ap (λ z. by_variables t k x y None z rest) h.right
      ∙ ap (λ (z : Bool). if z then in_pairs (with_regions t (binds x + binds y)) (pairs (parts_of t.region_vars x) (parts_of (t.region_vars + binds x) y)) rest else refused) h.heads
      ∙ ap (λ z. in_pairs (with_regions t (binds x + binds y)) z rest) (h.parts t.region_vars (t.region_vars + binds x))
      ∙ ap (λ z. onward false z (ps ++ rest)) (no-lifetimes t (binds x + binds y) h.alone)

  recorded-step : (x y : Trees) (rest : Worklist) → is_recorded (equal_constraint x y) t.constraints ≡ true → compared t of_lifetime x y rest ≡ onward false t rest
  recorded-step x y rest e = by (same x y)
    where
      by : (z : Bool) → (if z then onward false t rest else onward false (with_equal t x y) rest) ≡ onward false t rest
      by true = refl
      by false = ap (λ u. onward false u rest) (equal-recorded t x y e)

  pub passes : (w rest : Worklist) → Rests t.bindings t.constraints [] w → ArePairsOfTrees is_numbered (w ++ rest) → Passes t (w ++ rest) rest
  passes w rest rest_none h = pass_none rest
  passes w rest (rest_same {rest = v} a b s q r) h =
      pass (a, b) (v ++ rest) (sorted-step a b (v ++ rest) s ∙ compared-same t (term_sort a) (followed t.bindings a) (followed t.bindings b) (v ++ rest) q) (passes v rest r h.2)
  passes w rest (rest_recorded {rest = v} a b s q r) h =
      pass (a, b) (v ++ rest)
      (sorted-step a b (v ++ rest) s ∙ ap (λ k. compared t k (followed t.bindings a) (followed t.bindings b) (v ++ rest)) q.lifetime ∙ recorded-step (followed t.bindings a) (followed t.bindings b) (v ++ rest) q.recorded) (passes v rest r h.2)
  passes w rest (rest_waiting xs ys a b q r) h = absurd (not-in-none xs ys (a, b) q)
  passes w rest (rest_parts {rest = v} a b ps s k p r q) h = by (same (followed t.bindings a) (followed t.bindings b)) refl (passes v rest q h.2) (λ g. passes ps (v ++ rest) r g)
    where
      by : (z : Bool) → same (followed t.bindings a) (followed t.bindings b) ≡ z → Passes t (v ++ rest) rest → (ArePairsOfTrees is_numbered (ps ++ (v ++ rest)) → Passes t (ps ++ (v ++ rest)) (v ++ rest)) → Passes t ((a, b) ∷ (v ++ rest)) rest
      by true e behind parts =
          pass (a, b) (v ++ rest) (sorted-step a b (v ++ rest) s ∙ compared-same t (term_sort a) (followed t.bindings a) (followed t.bindings b) (v ++ rest) (same-sound (followed t.bindings a) (followed t.bindings b) e)) behind
      by false e behind parts =
          let is : step t (a, b) (v ++ rest) ≡ onward false t (ps ++ (v ++ rest)) =
          sorted-step a b (v ++ rest) s ∙ ap (λ (z : Bool). if z then onward false t (v ++ rest) else by_sort t (term_sort a) (followed t.bindings a) (followed t.bindings b) (v ++ rest)) e
          ∙ step-on-parts (term_sort a) (followed t.bindings a) (followed t.bindings b) ps (v ++ rest) k p in
          pass (a, b) (v ++ rest) is (passes-on t (ps ++ (v ++ rest)) (v ++ rest) rest (parts (step-terms t a b (v ++ rest) (ps ++ (v ++ rest)) t ok h is).0) behind)

  -- a run comes to where the steps come
  pub reaches-passed : (end : Option TableTrees) (u v : Worklist) → Passes t u v → ArePairsOfTrees is_numbered u → RunReaches end t u → RunReaches end t v
  reaches-passed end u v (pass_none w) h r = r
  reaches-passed end u v (pass {left = left} e rest s p) h r =
      let f = step-terms t e.0 e.1 rest left t ok h s in reaches-passed end left v p f.0 (reaches-next end t t e rest left r s refl f.2)

  -- what solves the equations behind them solves them too
  pub same-passed : (s : Assignment) (u v : Worklist) → Passes t u v → ArePairsOfTrees is_numbered u → Solves s t.bindings → AllSame s v → AllSame s u
  same-passed s u v (pass_none w) h g a = a
  same-passed s u v (pass {left = left} e rest q p) h g a =
      let f = step-terms t e.0 e.1 rest left t ok h q in (f.1 s g (same-passed s left v p f.0 g a)).1

-- ---- what a step leaves of its equation
-- a binder of no lifetimes opens nothing
none-opened : (d k v : ℕ) → is_opened zero d k v ≡ false
none-opened d k v = grind (arith, nat_tests)

opened-none : (i d : ℕ) (t : Trees) → opened_binder i zero d t ≡ t
opened-none i d none = refl
opened-none i d (tree (bound of_lifetime k v) none o) = same-node _ _ _ _ _ _ (ap (λ b. cond b (infer of_lifetime (i + v)) (bound of_lifetime k v)) (none-opened d k v)) refl (opened-none i d o)
opened-none i d (tree l c o) = same-node _ _ _ _ _ _ refl (opened-none i (inside l d) c) (opened-none i d o)

-- so the parts of a term that binds none are the same, whichever variables come next
autos-fixed : (i j : ℕ) (o : Trees) → AreTrees is_numbered in_autos o → object_parts i o ≡ object_parts j o
autos-fixed i j none h = absurd h
autos-fixed i j (tree (auto_trait k) none o) h = autos-fixed i j o h
autos-fixed i j (tree (principal n t) none none) h = absurd (no-principal h.0)
  where
    no-principal : sort_of (principal n t) ≡ of_lifetime → ⊥
    no-principal e = cc
autos-fixed i j (tree l none none) h = refl
autos-fixed i j (tree l c o) h = absurd h

object-fixed : (i j : ℕ) (c : Trees) → AreTrees is_numbered in_object c → binds (tree dynamic c none) ≡ zero → object_parts i c ≡ object_parts j c
object-fixed i j none h e = absurd h
object-fixed i j (tree (principal n t) c o) h e = both (ap (λ m. opened_binder i m 0 c) e ∙ opened-none i 0 c ∙ sym (opened-none j 0 c) ∙ sym (ap (λ m. opened_binder j m 0 c) e)) (autos-fixed i j o h.1)
  where
    both : {x y u v : Trees} → x ≡ y → u ≡ v → x +++ u ≡ y +++ v
    both p q = cc
object-fixed i j (tree (auto_trait k) none o) h e = autos-fixed i j o h
object-fixed i j (tree l none none) h e = refl
object-fixed i j (tree l c o) h e = absurd h

parts-fixed : (i j : ℕ) (x : Trees) → AreTrees is_numbered in_terms x → binds x ≡ zero → parts_of i x ≡ parts_of j x
parts-fixed i j none h e = refl
parts-fixed i j (tree (fn_ptr n) c o) h e = ap (λ m. opened_binder i m 0 c) e ∙ opened-none i 0 c ∙ sym (opened-none j 0 c) ∙ sym (ap (λ m. opened_binder j m 0 c) e)
parts-fixed i j (tree dynamic c o) h e = object-fixed i j c h.0 (by c e)
  where
    by : (c : Trees) → binds (tree dynamic c o) ≡ zero → binds (tree dynamic c none) ≡ zero
    by none e = refl
    by (tree l d p) e = go l e
      where
        go : (l : Label) → binds (tree dynamic (tree l d p) o) ≡ zero → binds (tree dynamic (tree l d p) none) ≡ zero
        go (principal n t) e = e
        go l e = refl
parts-fixed i j (tree l c o) h e = refl

either : (P : Outcome → Type 0) (b : Bool) (x y : Outcome) → (b ≡ true → P x) → (b ≡ false → P y) → P (if b then x else y)
either P true x y p q = p refl
either P false x y p q = q refl

variable-leaf : (k : Sort) (v : ℕ) (x : Trees) → IsOneTree is_numbered x → term_sort x ≡ k → variable_at x ≡ Some v → x ≡ leaf (infer k v)
variable-leaf k v none h p e = absurd h.0
variable-leaf k v (tree (infer j w) c o) h p e = let q : w ≡ v = cc in
    ap (λ z. tree (infer j w) z o) h.1.0 ∙ ap (λ z. tree (infer j w) none z) h.0 ∙ ap (λ z. leaf (infer z w)) p ∙ ap (λ z. leaf (infer k z)) q
variable-leaf k v (tree l c o) h p e = cc

-- it is replaced by others, for which it waits unless a lifetime was opened_binder
abbrev pub Leaves : TableTrees → Trees → Trees → Worklist → Outcome → Type 0
Leaves t a b rest refused = Unit {0}
Leaves t a b rest (onward f u left) =
    (ps : Worklist) × (left ≡ ps ++ rest) × IsNext t.bindings u.bindings × Extends t u × (u.region_vars ≡ t.region_vars → Rests u.bindings u.constraints ps ((a, b) ∷ []))

module _ (t : TableTrees) (ok : IsOfTerms t) (a b : Trees) (ha : IsOneTree is_numbered a) (hb : IsOneTree is_numbered b) (rest : Worklist) (s : is_sort (term_sort a) (term_sort b) ≡ true) where
  abbrev bs : List Binding
  bs = t.bindings

  abbrev x : Trees
  x = followed bs a

  abbrev y : Trees
  y = followed bs b

  of : IsOfTrees is_numbered t
  of = table-trees t ok

  abbrev k : Sort
  k = term_sort a

  fx : Single x × (term_sort x ≡ k)
  fx = followed-one is_numbered (λ v. refl) bs a of.sorted ha.0

  fy : Single y × (term_sort y ≡ k)
  fy = let p = followed-one is_numbered (λ v. refl) bs b of.sorted hb.0 in (p.0, p.1 ∙ sym (is_sort-equal (term_sort a) (term_sort b) s))

  hx : IsOneTree is_numbered x
  hx = (fx.0, followed-terms is_numbered (λ v. refl) bs a of.terms ha.1)

  hy : IsOneTree is_numbered y
  hy = (fy.0, followed-terms is_numbered (λ v. refl) bs b of.terms hb.1)

  ux : IsUnbound bs x
  ux = followed-open is_numbered (λ v. refl) bs a of.acyclic of.sorted of.terms ha

  uy : IsUnbound bs y
  uy = followed-open is_numbered (λ v. refl) bs b of.acyclic of.sorted of.terms hb

  -- a variable that got its value leads to it
  module _ (hk : HasValues k) (v : ℕ) (z : Trees) (uz : IsUnbound bs z) where
    abbrev n : Binding
    n = record { sort = k; var = v; value = z }

    to-value : (c : Trees) → followed bs c ≡ leaf (infer k v) → followed (n ∷ bs) c ≡ z
    to-value c e = ap (λ w. if is_root n w then followed bs z else w) e ∙ ap (λ (q : Bool). if q then followed bs z else leaf (infer k v)) (is_variable-self k v) ∙ followed-unbound bs z uz

    stays-value : (c : Trees) → followed bs c ≡ z → followed (n ∷ bs) c ≡ z
    stays-value c e = ap (λ w. if is_root n w then followed bs z else w) e ∙ by (is_root n z)
      where
        by : (q : Bool) → (if q then followed bs z else z) ≡ z
        by true = followed-unbound bs z uz
        by false = refl

    bound-leaves : followed (n ∷ bs) a ≡ followed (n ∷ bs) b → Leaves t a b rest (bound_to t k v z rest)
    bound-leaves e = either (Leaves t a b rest) (occurs k v (resolved bs z)) refused (onward true (with_binding t k v z) rest) (λ o. tt) (λ o.
        let is = bindings-with t k v z hk in
        ([], refl, inr (n, hk, is), with-binding-adds t k v z, λ p. subst (λ (cs : List Binding). Rests cs (with_binding t k v z).constraints [] ((a, b) ∷ [])) (sym is) (rest_same a b s e rest_none)))

  module _ (hk : HasValues k) where
    left-leaves : (v : ℕ) → variable_at x ≡ Some v → Leaves t a b rest (bound_to t k v y rest)
    left-leaves v e = bound-leaves hk v y uy (to-value hk v y uy a (variable-leaf k v x hx fx.1 e) ∙ sym (stays-value hk v y uy b refl))

    right-leaves : (w : ℕ) → variable_at y ≡ Some w → Leaves t a b rest (bound_to t k w x rest)
    right-leaves w e = bound-leaves hk w x ux (stays-value hk w x ux a refl ∙ sym (to-value hk w x ux b (variable-leaf k w y hy fy.1 e)))

    parts-leave : variable_at x ≡ None → variable_at y ≡ None → Leaves t a b rest (by_parts t x y rest)
    parts-leave ex ey =
        either (Leaves t a b rest) (same (head_of x) (head_of y)) (in_pairs u (pairs (parts_of i x) (parts_of j y)) rest) refused (λ h. paired h (pairs (parts_of i x) (parts_of j y)) refl) (λ h. tt)
      where
        i : ℕ
        i = t.region_vars

        j : ℕ
        j = t.region_vars + binds x

        u : TableTrees
        u = with_regions t (binds x + binds y)

        none-new : t.region_vars + (binds x + binds y) ≡ t.region_vars → binds x + binds y ≡ zero
        none-new e = omega (arith, e)

        paired : same (head_of x) (head_of y) ≡ true → (o : Option Worklist) → pairs (parts_of i x) (parts_of j y) ≡ o → Leaves t a b rest (in_pairs u o rest)
        paired h None e = tt
        paired h (Some ps) e = (
          ps,
          refl,
          inl refl,
          with-regions-adds t (binds x + binds y),
          λ p.
              let z = none-new p in
              let zx : binds x ≡ zero = omega (arith, z) in
              let zy : binds y ≡ zero = omega (arith, z) in
              rest_parts a b ps s hk
              (record { left = ex; right = ey; heads = h; alone = z; parts = λ f g. ap (λ w. pairs w (parts_of g y)) (parts-fixed f i x hx.1 zx) ∙ ap (pairs (parts_of i x)) (parts-fixed g j y hy.1 zy) ∙ e })
              (all-wait bs t.constraints ps [] ps refl) rest_none,
        )

    variables-leave : (o p : Option ℕ) → variable_at x ≡ o → variable_at y ≡ p → Leaves t a b rest (by_variables t k x y o p rest)
    variables-leave (Some v) (Some w) ex ey = either (Leaves t a b rest) (ltb v w) (bound_to t k w x rest) (bound_to t k v y rest) (λ e. right-leaves w ey) (λ e. left-leaves v ex)
    variables-leave (Some v) None ex ey = left-leaves v ex
    variables-leave None (Some w) ex ey = right-leaves w ey
    variables-leave None None ex ey = parts-leave ex ey

  sort-leaves : Leaves t a b rest (by_sort t k x y rest)
  sort-leaves = by k refl
    where
      by : (j : Sort) → j ≡ k → Leaves t a b rest (by_sort t j x y rest)
      by of_type e = subst (λ (j : Sort). Leaves t a b rest (by_variables t j x y (variable_at x) (variable_at y) rest)) (sym e) (variables-leave (subst HasValues e tt) (variable_at x) (variable_at y) refl refl)
      by of_const e = subst (λ (j : Sort). Leaves t a b rest (by_variables t j x y (variable_at x) (variable_at y) rest)) (sym e) (variables-leave (subst HasValues e tt) (variable_at x) (variable_at y) refl refl)
      by of_lifetime e = (
        [],
        refl,
        inl refl,
        with-equal-adds t x y,
        λ p. rest_recorded a b s (record { lifetime = sym e; left = fx.1 ∙ sym e; right = fy.1 ∙ sym e; recorded = recorded-there x y t.constraints }) rest_none,
      )

  compared-leaves : Leaves t a b rest (compared t k x y rest)
  compared-leaves =
      either (Leaves t a b rest) (same x y) (onward false t rest) (by_sort t k x y rest) (λ e. ([], refl, inl refl, extends-self t, λ p. rest_same a b s (same-sound x y e) rest_none)) (λ e. sort-leaves)

pub step-leaves : (t : TableTrees) (a b : Trees) (rest : Worklist) → IsOfTerms t → IsOneTree is_numbered a → IsOneTree is_numbered b → Leaves t a b rest (step t (a, b) rest)
unfolding step
step-leaves t a b rest ok ha hb =
    either (Leaves t a b rest) (is_sort (term_sort a) (term_sort b)) (compared t (term_sort a) (followed t.bindings a) (followed t.bindings b) rest) refused (λ s. compared-leaves t ok a b ha hb rest s) (λ s. tt)
