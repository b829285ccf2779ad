-- No canonical variable comes into the terms of a table, or into a goal that it resolves.
use Rattle.std.proofs.Common.{◌≡◌, ℕ, zero, suc, ◌+◌, Bool, true, false, refl, ap, sym, ◌∙◌, arith, List, [], ◌∷◌, subst, Option, Some, None, if◌then◌else◌, cond}
use Rattle.std.specs.Prelude.{◌&&◌, ◌==◌, option_map, unwrap_or}
use Rattle.std.specs.List.{slice_get}
use Rattle.std.proofs.lemmas.Bool.Decides.{nat_tests}
use Rattle.type_terms.specs.Promised.Label.{Label, Sort, of_type, of_const, of_lifetime, infer, canonical, bound, fn_ptr, dynamic, principal, auto_trait, inside}
use Rattle.type_terms.specs.Promised.Trees.{Trees, none, tree, ◌+++◌, is_sort}
use Rattle.type_terms.specs.Trees.{put_at_node}
use Rattle.infer_table.specs.declared.canonical.CanonicalVarKind.{CanonicalVarKind}
use Rattle.infer_table.specs.declared.canonical.CanonicalVarKind.TheVariants.{Ty, PlaceholderTy, Const, PlaceholderConst, Region}
use Rattle.infer_table.specs.Solutions.{Binding, is_same_variable, replace, resolved}
use Rattle.infer_table.specs.Resolving.{followed, is_root}
use Rattle.infer_table.specs.Opened.{is_opened, opened_label, opened_binder}
use Rattle.infer_table.specs.Unification.{TableTrees, with_binding, term_sort, object_parts, parts_of, Worklist}
use Rattle.infer_table.specs.Canonical.{HasNoCanonical}
use Rattle.infer_table.specs.Values.{Value, if_of_sort, filled_values}
use Rattle.infer_table.specs.Raw.{sort_of_kind}
use Rattle.infer_table.specs.Leaves.{root_label}
use Rattle.infer_table.specs.Answers.{have_same_sorts}
use Rattle.infer_table.specs.Applying.{is_numbered, root_labels, original_of, next_unknown, table_after, values_for, table_for, known_value, applied_values, applied_table}
use Rattle.infer_table.specs.Applied.{trees_of, solved_in_turn, with_constraints}
use Rattle.infer_table.specs.Covers.{AreNumbered}
use Rattle.infer_table.specs.WithoutCanonical.{HaveNoCanonical, EquateNoCanonical, AreWithoutCanonical, AreOfTheirSorts, ResolvingKeepsOut, EquationsKeepOut, AnswersKeepOut}
use Rattle.infer_table.proofs.SolutionLaws.{is_sort-equal}
use Rattle.infer_table.proofs.Covers.{numbered-parts}
use Rattle.infer_table.proofs.Kept.{Keeps, OfPairs, unified-keeps, turns-keep}
use Rattle.infer_table.proofs.TypeBasics.{some-one}
use Rattle.type_terms.proofs.TermBasics.{is_sort-self}

-- ---- trees
abbrev pub IsNoCanonical : Label → Type 0
IsNoCanonical (canonical s i) = ⊥
IsNoCanonical l = Unit {0}

pub clean-parts : (l : Label) (c o : Trees) → HasNoCanonical (tree l c o) → IsNoCanonical l × HasNoCanonical c × HasNoCanonical o
clean-parts (canonical s i) c o h = absurd h
clean-parts l c o h = (tt, h.0, h.1)

pub clean-node : (l : Label) (c o : Trees) → IsNoCanonical l → HasNoCanonical c → HasNoCanonical o → HasNoCanonical (tree l c o)
clean-node (canonical s i) c o h p q = absurd h
clean-node l c o h p q = (p, q)

pub clean-append : (a b : Trees) → HasNoCanonical a → HasNoCanonical b → HasNoCanonical (a +++ b)
clean-append none b p q = q
clean-append (tree l c o) b p q = let x = clean-parts l c o p in clean-node l c (o +++ b) x.0 x.1 (clean-append o b x.2 q)

pub clean-replace : (k : Sort) (v : ℕ) (r t : Trees) → HasNoCanonical r → HasNoCanonical t → HasNoCanonical (replace k v r t)
clean-replace k v r none p q = q
clean-replace k v r (tree (infer j w) c o) p q = by (is_same_variable j w k v) (clean-replace k v r o p q.1)
  where
    by : (b : Bool) → HasNoCanonical (replace k v r o) → HasNoCanonical (if b then r +++ replace k v r o else tree (infer j w) c (replace k v r o))
    by true h = clean-append r (replace k v r o) p h
    by false h = (q.0, h)
clean-replace k v r (tree (canonical s i) c o) p q = absurd q
clean-replace k v r (tree l c o) p q = (clean-replace k v r c p q.0, clean-replace k v r o p q.1)

pub clean-resolved : (bs : List Binding) (t : Trees) → HaveNoCanonical bs → HasNoCanonical t → HasNoCanonical (resolved bs t)
clean-resolved [] t h q = q
clean-resolved (b ∷ older) t h q = clean-replace b.sort b.var (resolved older b.value) (resolved older t) (clean-resolved older b.value h.1 h.0) (clean-resolved older t h.1 q)

pub resolving-keeps-out : ResolvingKeepsOut
resolving-keeps-out bs g h w = record { environment = clean-resolved bs g.environment h w.environment; predicate = clean-resolved bs g.predicate h w.predicate }

clean-followed : (bs : List Binding) (t : Trees) → HaveNoCanonical bs → HasNoCanonical t → HasNoCanonical (followed bs t)
clean-followed [] t h q = q
clean-followed (b ∷ older) t h q = by (is_root b (followed older t)) (clean-followed older b.value h.1 h.0) (clean-followed older t h.1 q)
  where
    by : (x : Bool) → HasNoCanonical (followed older b.value) → HasNoCanonical (followed older t) → HasNoCanonical (if x then followed older b.value else followed older t)
    by true p q = p
    by false p q = q

-- ---- the terms in a term
label-opened : (first n d k v : ℕ) → IsNoCanonical (opened_label first n d k v)
label-opened first n d k v = by (is_opened n d k v)
  where
    by : (b : Bool) → IsNoCanonical (cond b (infer of_lifetime (first + v)) (bound of_lifetime k v))
    by true = tt
    by false = tt

clean-opened : (first n d : ℕ) (t : Trees) → HasNoCanonical t → HasNoCanonical (opened_binder first n d t)
clean-opened first n d none h = tt
clean-opened first n d (tree (bound of_lifetime k v) none o) h = clean-node (opened_label first n d k v) none (opened_binder first n d o) (label-opened first n d k v) tt (clean-opened first n d o h.1)
clean-opened first n d (tree (canonical s i) c o) h = absurd h
clean-opened first n d (tree l c o) h = (clean-opened first n (inside l d) c h.0, clean-opened first n d o h.1)

clean-object : (first : ℕ) (t : Trees) → HasNoCanonical t → HasNoCanonical (object_parts first t)
clean-object first (tree (principal n i) c o) h = clean-append (opened_binder first n zero c) (object_parts first o) (clean-opened first n zero c h.0) (clean-object first o h.1)
clean-object first (tree (auto_trait i) c o) h = clean-object first o h.1
clean-object first none h = tt
clean-object first (tree l c o) h = h

clean-terms : (first : ℕ) (t : Trees) → HasNoCanonical t → HasNoCanonical (parts_of first t)
clean-terms first none h = tt
clean-terms first (tree (fn_ptr n) c o) h = clean-opened first n zero c h.0
clean-terms first (tree dynamic c o) h = clean-object first c h.0
clean-terms first (tree (canonical s i) c o) h = absurd h
clean-terms first (tree l c o) h = h.0

binding-stays : (t : TableTrees) (k : Sort) (v : ℕ) (x : Trees) → HaveNoCanonical t.bindings → HasNoCanonical x → HaveNoCanonical (with_binding t k v x).bindings
binding-stays t of_type v x h q = (q, h)
binding-stays t of_const v x h q = (q, h)
binding-stays t of_lifetime v x h q = h

-- ---- equations
abbrev IsClean : TableTrees → Type 0
IsClean t = HaveNoCanonical t.bindings

keeps-out : Keeps HasNoCanonical IsClean
keeps-out =
    record {
      first = λ l c o h. let p = clean-parts l c o h in clean-node l c none p.0 p.1 tt;
      others = λ l c o h. (clean-parts l c o h).2;
      parts = clean-terms;
      values = λ t x h p. clean-followed t.bindings x h p;
      bindings = binding-stays;
      regions = λ t n h. h;
      equal = λ t a b h. h;
    }

of-pairs : (todo : Worklist) → EquateNoCanonical todo → OfPairs HasNoCanonical todo
of-pairs [] h = tt
of-pairs (e ∷ rest) h = (h.0, h.1, of-pairs rest h.2)

pub equations-keep-out : EquationsKeepOut
equations-keep-out t u todo h g e = unified-keeps HasNoCanonical IsClean keeps-out t u todo h (of-pairs todo g) e

turn-stays : (t u : TableTrees) (x y : Trees) → HaveNoCanonical t.bindings → HasNoCanonical x → HasNoCanonical y → solved_in_turn t x y ≡ Some u → HaveNoCanonical u.bindings
turn-stays = turns-keep HasNoCanonical IsClean keeps-out

-- ---- the values that are put in for the variables of an answer
-- a value of the kind's sort
abbrev Suits : CanonicalVarKind → Value → Type 0
Suits k v = (v.sort ≡ sort_of_kind k) × HasNoCanonical v.trees

abbrev SuitsIfThere : CanonicalVarKind → Option Value → Type 0
SuitsIfThere k None = Unit {0}
SuitsIfThere k (Some v) = Suits k v

abbrev AllSuit : List CanonicalVarKind → List Value → Type 0
AllSuit [] [] = Unit {0}
AllSuit (k ∷ ks) (v ∷ vs) = Suits k v × AllSuit ks vs
AllSuit _ _ = ⊥

abbrev IsPut : Option Trees → Type 0
IsPut None = ⊥
IsPut (Some t) = HasNoCanonical t

suits-at : (ks : List CanonicalVarKind) (vs : List Value) (i : ℕ) (s : Sort) → AllSuit ks vs → option_map sort_of_kind (slice_get ks i) ≡ Some s → IsPut (if_of_sort s (slice_get vs i))
suits-at [] vs i s h e = cc
suits-at (k ∷ ks) [] i s h e = absurd h
suits-at (k ∷ ks) (v ∷ vs) zero s h e =
    let is : sort_of_kind k ≡ s = cc in
    let sorted : is_sort v.sort s ≡ true = ap (λ j. is_sort j s) (h.0.0 ∙ is) ∙ is_sort-self s in
    subst (λ (b : Bool). IsPut (if b then Some v.trees else None)) (sym sorted) h.0.1
suits-at (k ∷ ks) (v ∷ vs) (suc i) s h e = suits-at ks vs i s h.1 e

module _ (ks : List CanonicalVarKind) (vs : List Value) (all : AllSuit ks vs) where
  clean-placed : (r : Option Trees) (t : Trees) → IsPut r → HasNoCanonical (put_at_node r t)
  clean-placed None t h = absurd h
  clean-placed (Some x) t h = h

  clean-filled : (t : Trees) → AreNumbered ks t → HasNoCanonical (filled_values vs t)
  clean-filled none h = tt
  clean-filled (tree (canonical s i) c o) h =
      clean-append (put_at_node (if_of_sort s (slice_get vs i)) (tree (canonical s i) (filled_values vs c) none)) (filled_values vs o)
      (clean-placed (if_of_sort s (slice_get vs i)) (tree (canonical s i) (filled_values vs c) none) (suits-at ks vs i s all h.0)) (clean-filled o h.2)
  clean-filled (tree (infer k v) c o) h = absurd h
  clean-filled (tree l c o) h = (clean-filled c h.0, clean-filled o h.1)

first-suits : (v : Option Value) (t : TableTrees) (k : CanonicalVarKind) → SuitsIfThere k v → Suits k (unwrap_or v (next_unknown t k))
first-suits (Some v) t k h = h
first-suits None t Ty h = (refl, (tt, tt))
first-suits None t PlaceholderTy h = (refl, (tt, tt))
first-suits None t Const h = (refl, (tt, tt))
first-suits None t PlaceholderConst h = (refl, (tt, tt))
first-suits None t Region h = (refl, (tt, tt))

values-suit : (known : ℕ → Option Value) (t : TableTrees) (i : ℕ) (ks : List CanonicalVarKind) → ((n j : ℕ) (k : CanonicalVarKind) → j ≡ i + n → slice_get ks n ≡ Some k → SuitsIfThere k (known j)) → AllSuit ks (values_for known t i ks)
values-suit known t i [] h = tt
values-suit known t i (k ∷ ks) h =
    (first-suits (known i) t k (h 0 i k (omega arith) refl), values-suit known (table_after (known i) t k) (i + 1) ks (λ n j m e g. h (suc n) j m (omega (arith, e)) g))

pub and-left : (a b : Bool) → (a && b) ≡ true → a ≡ true
and-left true b e = refl
and-left false b e = cc

pub and-right : (a b : Bool) → (a && b) ≡ true → b ≡ true
and-right true b e = e
and-right false b e = cc

some-kind : (ks : List CanonicalVarKind) (j n : ℕ) (k : CanonicalVarKind) (s : Sort) → j ≡ n → slice_get ks n ≡ Some k → option_map sort_of_kind (slice_get ks j) ≡ Some s → s ≡ sort_of_kind k
some-kind ks j n k s i g e = one (sym e ∙ ap (λ m. option_map sort_of_kind (slice_get ks m)) i ∙ ap (option_map sort_of_kind) g)
  where
    one : Some s ≡ Some (sort_of_kind k) → s ≡ sort_of_kind k
    one e = cc

-- the sort of a canonical variable is that of its kind
root-sort : (ks : List CanonicalVarKind) (n : ℕ) (k : CanonicalVarKind) (t : Trees) → is_numbered n (root_label t) ≡ true → AreNumbered ks t → slice_get ks n ≡ Some k → term_sort t ≡ sort_of_kind k
root-sort ks n k none e h g = cc
root-sort ks n k (tree (canonical s j) c o) e h g = some-kind ks j n k s (equal j e) g h.0
  where
    equal : (j : ℕ) → (j == n) ≡ true → j ≡ n
    equal j e = grind (arith, nat_tests)
root-sort ks n k (tree l c o) e h g = cc

original-suits : (ks : List CanonicalVarKind) (n : ℕ) (k : CanonicalVarKind) (vs os : List Value) → have_same_sorts os vs ≡ true → AreOfTheirSorts vs → AreNumbered ks (trees_of vs) → AreWithoutCanonical os → slice_get ks n ≡ Some k
    → SuitsIfThere k (original_of n (root_labels vs) os)
original-suits ks n k [] os e s h q g = tt
original-suits ks n k (w ∷ ws) [] e s h q g = tt
original-suits ks n k (w ∷ ws) (o ∷ os) e s h q g =
    let parts = numbered-parts ks w.trees (trees_of ws) h in
    by (is_numbered n (root_label w.trees)) refl parts.0 (original-suits ks n k ws os (and-right (is_sort o.sort w.sort) (have_same_sorts os ws) e) s.1 parts.1 q.1 g)
  where
    by : (b : Bool) → is_numbered n (root_label w.trees) ≡ b → AreNumbered ks w.trees → SuitsIfThere k (original_of n (root_labels ws) os) → SuitsIfThere k (if b then Some o else original_of n (root_labels ws) os)
    by true i m rest = (is_sort-equal o.sort w.sort (and-left (is_sort o.sort w.sort) (have_same_sorts os ws) e) ∙ sym s.0 ∙ root-sort ks n k w.trees i m g, q.0)
    by false i m rest = rest

-- ---- an answer
clean-values : (vs : List Value) → AreWithoutCanonical vs → HasNoCanonical (trees_of vs)
clean-values [] h = tt
clean-values (v ∷ vs) h = clean-append v.trees (trees_of vs) h.0 (clean-values vs h.1)

table-after-stays : (v : Option Value) (t : TableTrees) (k : CanonicalVarKind) → HaveNoCanonical t.bindings → HaveNoCanonical (table_after v t k).bindings
table-after-stays (Some v) t k h = h
table-after-stays None t Ty h = h
table-after-stays None t PlaceholderTy h = h
table-after-stays None t Const h = h
table-after-stays None t PlaceholderConst h = h
table-after-stays None t Region h = h

table-for-stays : (known : ℕ → Option Value) (t : TableTrees) (i : ℕ) (ks : List CanonicalVarKind) → HaveNoCanonical t.bindings → HaveNoCanonical (table_for known t i ks).bindings
table-for-stays known t i [] h = h
table-for-stays known t i (k ∷ ks) h = table-for-stays known (table_after (known i) t k) (i + 1) ks (table-after-stays (known i) t k h)

pub answers-keep-out : AnswersKeepOut
answers-keep-out t u originals a h q fits e =
    let values = applied_values t originals a in
    let suit : AllSuit a.kinds values =
    values-suit (known_value a originals) t 0 a.kinds (λ n j k i g. original-suits a.kinds j k a.values originals fits.answers fits.sorted fits.numbered q (subst (λ (m : ℕ). slice_get a.kinds m ≡ Some k) (there n j i) g)) in
    by (solved_in_turn (applied_table t originals a) (trees_of originals) (filled_values values (trees_of a.values))) refl (clean-filled a.kinds values suit (trees_of a.values) fits.numbered) e
  where
    there : (n j : ℕ) → j ≡ 0 + n → n ≡ j
    there n j i = omega (arith, i)

    by : (r : Option TableTrees) → solved_in_turn (applied_table t originals a) (trees_of originals) (filled_values (applied_values t originals a) (trees_of a.values)) ≡ r
        → HasNoCanonical (filled_values (applied_values t originals a) (trees_of a.values)) → option_map (with_constraints (filled_values (applied_values t originals a) a.constraints)) r ≡ Some u → HaveNoCanonical u.bindings
    by None i f e = cc
    by (Some w) i f e =
        subst (λ (z : TableTrees). HaveNoCanonical z.bindings) (some-one (with_constraints (filled_values (applied_values t originals a) a.constraints) w) u e)
        (turn-stays (applied_table t originals a) w (trees_of originals) (filled_values (applied_values t originals a) (trees_of a.values)) (table-for-stays (known_value a originals) t 0 a.kinds h) (clean-values originals q) f i)
