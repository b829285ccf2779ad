-- Terms with unknowns in the place of parameters, and with what equations give to these in their place: they stay formed.
use Rattle.std.proofs.Common.{◌≡◌, ℕ, zero, suc, ◌+◌, Bool, true, false, List, [], ◌∷◌, ◌++◌, Some, refl, sym, ap, ◌∙◌, subst, cond, if◌then◌else◌}
use Rattle.std.proofs.lemmas.Option.{same_Some}
use Rattle.type_terms.specs.Promised.Label.{Label, Sort, of_type, of_const, of_lifetime, param, infer, canonical, bound, fn_ptr, dynamic, principal, auto_trait, predicate, inside}
use Rattle.type_terms.specs.Promised.Trees.{Trees, none, tree, leaf, ◌+++◌, nth, shift, instantiate, sort_of, IsA}
use Rattle.type_terms.specs.Trees.{Single}
use Rattle.type_terms.specs.Promised.Rules.{autos_with, asked}
use Rattle.type_terms.specs.Promised.Worlds.{World}
use Rattle.type_terms.specs.Made.{terms}
use Rattle.type_terms.proofs.Made.{false-true}
use Rattle.term_folds.specs.Arguments.{sort_at}
use Rattle.infer_table.specs.Content.{Table}
use Rattle.infer_table.specs.Opened.{is_opened, opened_binder}
use Rattle.infer_table.specs.Resolving.{followed, is_root}
use Rattle.infer_table.specs.Solutions.{Binding, is_same_variable, replace, resolved, AllValued}
use Rattle.infer_table.specs.Unification.{TableTrees, with_binding, object_parts, parts_of, term_sort}
use Rattle.infer_table.proofs.ContentFacts.{AllSorted}
use Rattle.infer_table.proofs.Kept.{Keeps}
use Rattle.infer_table.proofs.Places.{Place, in_terms, in_object, in_autos, AreTrees, AllTrees, trees-of, made-of}
use Rattle.infer_table.proofs.SolutionLaws.{is_variable-equal}
use Rattle.infer_table.proofs.WellFacts.{parts-terms, followed-terms}
use Rattle.goal_evaluator.specs.Lists.{Every}
use Rattle.goal_evaluator.specs.Equations.{IsValue}
use Rattle.goal_evaluator.proofs.Resolved.{made-resolved}
use Rattle.declarations.specs.Applied.{sorts_of}
use Rattle.candidate_model.specs.Declared.{is_declared_leaf}
use Rattle.overlap_check.specs.Fresh.{with_unknown, fresh_unknowns, HasArguments}
use Rattle.solver_completeness.specs.FormedFacts.{Sorts, NodesFit, FitsNode}
use Rattle.solver_completeness.proofs.FormedInstances.{node-same, sorts-append}
use Rattle.sessions.specs.Goals.{stands_free}
use Rattle.sessions.proofs.TextTerms.{nodes-append}
use Rattle.candidate_model.proofs.Basics.{same-autos}

-- ---- the auto traits in a row
autos-append : (x y : Trees) → autos_with none (x +++ y) ≡ autos_with none x ++ autos_with none y
autos-append none y = refl
autos-append (tree (auto_trait t) c o) y = ap (λ z. asked t none ∷ z) (autos-append o y)
autos-append (tree l c o) y = autos-append o y

-- terms are no bounds of a `dyn`
no-autos : (good : Label → Bool) (t : Trees) → AreTrees good in_terms t → autos_with none t ≡ []
no-autos good none h = refl
no-autos good (tree (infer k v) c o) h = no-autos good o h.2
no-autos good (tree (principal n t) c o) h = absurd h
no-autos good (tree (auto_trait t) c o) h = absurd h
no-autos good (tree (predicate k) c o) h = absurd h
no-autos good (tree dynamic c o) h = no-autos good o h.1
no-autos good (tree l c o) h = no-autos good o h.2

-- ---- unknowns in a row
abbrev pub AreUnknowns : Trees → Type 0
AreUnknowns none = Unit {0}
AreUnknowns (tree (infer k v) c o) = (c ≡ none) × AreUnknowns o
AreUnknowns (tree l c o) = ⊥

pub fresh-are : (t : Table) (ks : List Sort) → AreUnknowns (fresh_unknowns t ks)
fresh-are t [] = tt
fresh-are t (k ∷ ks) = (refl, fresh-are (with_unknown t k) ks)

at-unknown : (I : Trees) (i : ℕ) (s : Sort) → AreUnknowns I → sort_at I i ≡ Some s → (v : ℕ) × (nth I i ≡ leaf (infer s v))
at-unknown none i s h e = absurd cc
at-unknown (tree (infer k v) c o) zero s h e = (v, same (same_Some k s e) h.0)
  where
    same : k ≡ s → c ≡ none → tree (infer k v) c none ≡ tree (infer s v) none none
    same p q = cc
at-unknown (tree (infer k v) c o) (suc i) s h e = at-unknown o i s h.1 e
at-unknown (tree l c o) i s h e = absurd h

declared-free : (l : Label) → is_declared_leaf l ≡ true → stands_free l ≡ true
declared-free (canonical k i) h = absurd (false-true h)
declared-free (bound k j i) h = absurd (false-true h)
declared-free l h = refl

module _ (I : Trees) (are : AreUnknowns I) where
  abbrev put : ℕ → Trees → Trees
  put d t = instantiate d I t

  put-is : (d : ℕ) (s : Sort) (i : ℕ) (c o : Trees) → sort_at I i ≡ Some s → (v : ℕ) × (put d (tree (param s i) c o) ≡ tree (infer s v) none (put d o))
  put-is d s i c o e = let x = at-unknown I i s are e in (x.0, ap (λ z. shift zero d z +++ put d o) x.1)

  pub sorts-put : (d : ℕ) (t : Trees) → HasArguments I t → sorts_of (put d t) ≡ sorts_of t
  sorts-put d none h = refl
  sorts-put d (tree (param s i) c o) h = ap sorts_of (put-is d s i c o h.0).1 ∙ ap (λ z. s ∷ z) (sorts-put d o h.2)
  sorts-put d (tree (infer s i) c o) h = ap (λ z. s ∷ z) (sorts-put d o h.2)
  sorts-put d (tree l c o) h = ap (λ z. sort_of l ∷ z) (sorts-put d o h.2)

  autos-put : (d : ℕ) (t : Trees) → HasArguments I t → autos_with none (put d t) ≡ autos_with none t
  autos-put d none h = refl
  autos-put d (tree (param s i) c o) h = ap (autos_with none) (put-is d s i c o h.0).1 ∙ autos-put d o h.2
  autos-put d (tree (auto_trait t) c o) h = ap (λ z. asked t none ∷ z) (autos-put d o h.2)
  autos-put d (tree l c o) h = autos-put d o h.2

  pub nodes-put : (V : World) (sorts : Sorts) (d : ℕ) (t : Trees) → HasArguments I t → NodesFit V sorts t → NodesFit V sorts (put d t)
  nodes-put V sorts d none h n = tt
  nodes-put V sorts d (tree (param s i) c o) h n = subst (NodesFit V sorts) (sym (put-is d s i c o h.0).1) (tt, tt, nodes-put V sorts d o h.2 n.2)
  nodes-put V sorts d (tree (infer s i) c o) h n = (tt, subst (λ z. NodesFit V sorts (put d z)) (sym h.1) tt, nodes-put V sorts d o h.2 n.2)
  nodes-put V sorts d (tree dynamic c o) h n = (same-autos c (put d c) (autos-put d c h.1) ∙ n.0, nodes-put V sorts d c h.1 n.1, nodes-put V sorts d o h.2 n.2)
  nodes-put V sorts d (tree l c o) h n = (
    node-same V sorts l c (put (inside l d) c) refl (sorts-put (inside l d) c h.1) n.0,
    nodes-put V sorts (inside l d) c h.1 n.1,
    nodes-put V sorts d o h.2 n.2,
  )

  pub trees-put : (p : Place) (d : ℕ) (t : Trees) → HasArguments I t → AreTrees is_declared_leaf p t → AreTrees stands_free p (put d t)
  trees-put in_terms d none a h = tt
  trees-put in_terms d (tree (param s i) c o) a h = subst (AreTrees stands_free in_terms) (sym (put-is d s i c o a.0).1) (refl, refl, trees-put in_terms d o a.2 h.2)
  trees-put in_terms d (tree (infer k v) c o) a h = absurd (false-true h.1)
  trees-put in_terms d (tree (principal n t) c o) a h = absurd h
  trees-put in_terms d (tree (auto_trait t) c o) a h = absurd h
  trees-put in_terms d (tree (predicate k) c o) a h = absurd h
  trees-put in_terms d (tree dynamic c o) a h = (trees-put in_object d c a.1 h.0, trees-put in_terms d o a.2 h.1)
  trees-put in_terms d (tree l c o) a h = (λ e. ap (instantiate (inside l d) I) (h.0 e), trees-put in_terms (inside l d) c a.1 h.1, trees-put in_terms d o a.2 h.2, declared-free l h.3)
  trees-put in_object d none a h = absurd h
  trees-put in_object d (tree (principal n t) c o) a h = (trees-put in_terms (suc d) c a.1 h.0, trees-put in_autos d o a.2 h.1)
  trees-put in_object d (tree (auto_trait t) none o) a h = trees-put in_autos d o a.2 h
  trees-put in_object d (tree (auto_trait t) (tree m e p) o) a h = absurd h
  trees-put in_object d (tree (param s i) none none) a h = subst (AreTrees stands_free in_object) (sym (put-is d s i none none a.0).1) (h.0, refl)
  trees-put in_object d (tree (infer k v) none none) a h = absurd (false-true h.1)
  trees-put in_object d (tree l none none) a h = (h.0, declared-free l h.1)
  trees-put in_object d (tree l (tree m e p) o) a h = absurd h
  trees-put in_object d (tree l none (tree m e p)) a h = absurd h
  trees-put in_autos d none a h = absurd h
  trees-put in_autos d (tree (auto_trait t) none o) a h = trees-put in_autos d o a.2 h
  trees-put in_autos d (tree (auto_trait t) (tree m e p) o) a h = absurd h
  trees-put in_autos d (tree (param s i) none none) a h = subst (AreTrees stands_free in_autos) (sym (put-is d s i none none a.0).1) (h.0, refl)
  trees-put in_autos d (tree (infer k v) none none) a h = absurd (false-true h.1)
  trees-put in_autos d (tree l none none) a h = (h.0, declared-free l h.1)
  trees-put in_autos d (tree l (tree m e p) o) a h = absurd h
  trees-put in_autos d (tree l none (tree m e p)) a h = absurd h

-- ---- binders opened_binder
opened-sort : (b : Bool) (v k j : ℕ) → sort_of (cond b (infer of_lifetime v) (bound of_lifetime k j)) ≡ of_lifetime
opened-sort true v k j = refl
opened-sort false v k j = refl

opened-sorts : (first n d : ℕ) (t : Trees) → sorts_of (opened_binder first n d t) ≡ sorts_of t
opened-sorts first n d none = refl
opened-sorts first n d (tree (bound of_lifetime k v) none o) = ap (λ s. s ∷ sorts_of (opened_binder first n d o)) (opened-sort (is_opened n d k v) (first + v) k v) ∙ ap (λ z. of_lifetime ∷ z) (opened-sorts first n d o)
opened-sorts first n d (tree l c o) = ap (λ z. sort_of l ∷ z) (opened-sorts first n d o)

opened-autos : (first n d : ℕ) (t : Trees) → autos_with none (opened_binder first n d t) ≡ autos_with none t
opened-autos first n d none = refl
opened-autos first n d (tree (bound of_lifetime k v) none o) = by (is_opened n d k v) ∙ opened-autos first n d o
  where
    by : (b : Bool) → autos_with none (tree (cond b (infer of_lifetime (first + v)) (bound of_lifetime k v)) none (opened_binder first n d o)) ≡ autos_with none (opened_binder first n d o)
    by true = refl
    by false = refl
opened-autos first n d (tree (auto_trait t) c o) = ap (λ z. asked t none ∷ z) (opened-autos first n d o)
opened-autos first n d (tree l c o) = opened-autos first n d o

module _ (V : World) (sorts : Sorts) where
  abbrev Fit : Trees → Type 0
  Fit t = NodesFit V sorts t

  opened-nodes : (first n d : ℕ) (t : Trees) → Fit t → Fit (opened_binder first n d t)
  opened-nodes first n d none h = tt
  opened-nodes first n d (tree (bound of_lifetime k v) none o) h = by (is_opened n d k v) (opened_binder first n d o) (opened-nodes first n d o h.2)
    where
      by : (b : Bool) (r : Trees) → Fit r → Fit (tree (cond b (infer of_lifetime (first + v)) (bound of_lifetime k v)) none r)
      by true r q = (tt, tt, q)
      by false r q = (tt, tt, q)
  opened-nodes first n d (tree dynamic c o) h = (same-autos c (opened_binder first n d c) (opened-autos first n d c) ∙ h.0, opened-nodes first n d c h.1, opened-nodes first n d o h.2)
  opened-nodes first n d (tree l c o) h = (
    node-same V sorts l c (opened_binder first n (inside l d) c) refl (opened-sorts first n (inside l d) c) h.0,
    opened-nodes first n (inside l d) c h.1,
    opened-nodes first n d o h.2,
  )

  object-nodes : (first : ℕ) (c : Trees) → Fit c → Fit (object_parts first c)
  object-nodes first none h = tt
  object-nodes first (tree (principal n t) c o) h = nodes-append (FitsNode V sorts) (opened_binder first n zero c) (object_parts first o) (opened-nodes first n zero c h.1) (object-nodes first o h.2)
  object-nodes first (tree (auto_trait t) c o) h = object-nodes first o h.2
  object-nodes first (tree l c o) h = h

  parts-nodes : (first : ℕ) (t : Trees) → Fit t → Fit (parts_of first t)
  parts-nodes first none h = tt
  parts-nodes first (tree (fn_ptr n) c o) h = opened-nodes first n zero c h.1
  parts-nodes first (tree dynamic c o) h = object-nodes first c h.1
  parts-nodes first (tree l c o) h = h.1

  -- ---- equations
  abbrev pub AllFit : List Binding → Type 0
  AllFit [] = Unit {0}
  AllFit (b ∷ older) = Fit b.value × AllFit older

  followed-nodes : (bs : List Binding) (t : Trees) → AllFit bs → Fit t → Fit (followed bs t)
  followed-nodes [] t h q = q
  followed-nodes (b ∷ older) t h q = by (is_root b (followed older t)) (followed-nodes older b.value h.1 h.0) (followed-nodes older t h.1 q)
    where
      by : (x : Bool) → Fit (followed older b.value) → Fit (followed older t) → Fit (if x then followed older b.value else followed older t)
      by true p q = p
      by false p q = q

  abbrev pub IsFormedTerm : Trees → Type 0
  IsFormedTerm t = Fit t × AreTrees stands_free in_terms t

  abbrev pub IsFormedTable : TableTrees → Type 0
  IsFormedTable t = AllFit t.bindings × AllTrees stands_free t.bindings

  opens : (v : ℕ) → stands_free (infer of_lifetime v) ≡ true
  opens v = refl

  first-tree : (l : Label) (c o : Trees) → AreTrees stands_free in_terms (tree l c o) → AreTrees stands_free in_terms (tree l c none) × AreTrees stands_free in_terms o
  first-tree (infer k v) c o h = ((h.0, h.1, tt), h.2)
  first-tree (principal m t) c o h = absurd h
  first-tree (auto_trait i) c o h = absurd h
  first-tree (predicate k) c o h = absurd h
  first-tree dynamic c o h = ((h.0, tt), h.1)
  first-tree l c o h = ((h.0, h.1, tt, h.3), h.2)

  parts-trees : (first : ℕ) (t : Trees) → AreTrees stands_free in_terms t → AreTrees stands_free in_terms (parts_of first t)
  parts-trees first none h = tt
  parts-trees first (tree (infer k v) c o) h = subst (AreTrees stands_free in_terms) (sym h.0) tt
  parts-trees first (tree l c o) h = parts-terms stands_free opens first (tree l c o) h refl

  bound-formed : (t : TableTrees) (k : Sort) (v : ℕ) (x : Trees) → IsFormedTable t → IsFormedTerm x → IsFormedTable (with_binding t k v x)
  bound-formed t of_type v x h g = ((g.0, h.0), (g.1, h.1))
  bound-formed t of_const v x h g = ((g.0, h.0), (g.1, h.1))
  bound-formed t of_lifetime v x h g = h

  pub formed-kept : Keeps IsFormedTerm IsFormedTable
  formed-kept = record {
    first = λ l c o h. ((h.0.0, h.0.1, tt), (first-tree l c o h.1).0);
    others = λ l c o h. (h.0.2, (first-tree l c o h.1).1);
    parts = λ from t h. (parts-nodes from t h.0, parts-trees from t h.1);
    values = λ t x h g. (followed-nodes t.bindings x h.0 g.0, followed-terms stands_free opens t.bindings x h.1 g.1);
    bindings = bound-formed;
    regions = λ t n h. h;
    equal = λ t a b h. h;
  }

  -- ---- a term in the place of an unknown
  module _ (k : Sort) (v : ℕ) (r : Trees) (one : sorts_of r ≡ k ∷ []) (bare : autos_with none r ≡ []) (fit : Fit r) where
    sorts-replaced : (t : Trees) → sorts_of (replace k v r t) ≡ sorts_of t
    sorts-replaced none = refl
    sorts-replaced (tree (infer j w) c o) = by (is_same_variable j w k v) refl (sorts-replaced o)
      where
        by : (b : Bool) → is_same_variable j w k v ≡ b → sorts_of (replace k v r o) ≡ sorts_of o → sorts_of (if b then r +++ replace k v r o else tree (infer j w) c (replace k v r o)) ≡ j ∷ sorts_of o
        by true e q = sorts-append r (replace k v r o) ∙ ap (λ z. z ++ sorts_of (replace k v r o)) one ∙ ap (λ z. k ∷ z) q ∙ ap (λ z. z ∷ sorts_of o) (sym (is_variable-equal j k w v e).0)
        by false e q = ap (λ z. j ∷ z) q
    sorts-replaced (tree l c o) = ap (λ z. sort_of l ∷ z) (sorts-replaced o)

    autos-replaced : (t : Trees) → autos_with none (replace k v r t) ≡ autos_with none t
    autos-replaced none = refl
    autos-replaced (tree (infer j w) c o) = by (is_same_variable j w k v) (autos-replaced o)
      where
        by : (b : Bool) → autos_with none (replace k v r o) ≡ autos_with none o → autos_with none (if b then r +++ replace k v r o else tree (infer j w) c (replace k v r o)) ≡ autos_with none o
        by true q = autos-append r (replace k v r o) ∙ ap (λ z. z ++ autos_with none (replace k v r o)) bare ∙ q
        by false q = q
    autos-replaced (tree (auto_trait t) c o) = ap (λ z. asked t none ∷ z) (autos-replaced o)
    autos-replaced (tree l c o) = autos-replaced o

    nodes-replaced : (t : Trees) → Fit t → Fit (replace k v r t)
    nodes-replaced none h = tt
    nodes-replaced (tree (infer j w) c o) h = by (is_same_variable j w k v) (nodes-replaced o h.2)
      where
        by : (b : Bool) → Fit (replace k v r o) → Fit (if b then r +++ replace k v r o else tree (infer j w) c (replace k v r o))
        by true q = nodes-append (FitsNode V sorts) r (replace k v r o) fit q
        by false q = (tt, h.1, q)
    nodes-replaced (tree dynamic c o) h = (same-autos c (replace k v r c) (autos-replaced c) ∙ h.0, nodes-replaced c h.1, nodes-replaced o h.2)
    nodes-replaced (tree l c o) h = (node-same V sorts l c (replace k v r c) refl (sorts-replaced c) h.0, nodes-replaced c h.1, nodes-replaced o h.2)

  -- ---- all values
  one-sort : (k : Sort) (t : Trees) → Single t → term_sort t ≡ k → sorts_of t ≡ k ∷ []
  one-sort k none s e = absurd s
  one-sort k (tree l c o) s e = ap (λ z. sort_of l ∷ sorts_of z) s ∙ ap (λ z. z ∷ []) e

  pub resolved-formed : (bs : List Binding) → Every (IsValue stands_free) bs → AllFit bs → (t : Trees) → (sorts_of (resolved bs t) ≡ sorts_of t) × (Fit t → Fit (resolved bs t))
  resolved-formed [] i f t = (refl, λ h. h)
  resolved-formed (b ∷ older) i f t =
      let r = resolved older b.value in
      let x = resolved-formed older i.1 f.1 b.value in
      let y = resolved-formed older i.1 f.1 t in
      let one = x.0 ∙ one-sort b.sort b.value i.0.single i.0.same_sort in
      let made = made-resolved stands_free older i.1 terms b.value i.0.made in
      let bare = no-autos stands_free r (trees-of stands_free terms r made) in (
        sorts-replaced b.sort b.var r one bare (x.1 f.0) (resolved older t) ∙ y.0,
        λ h. nodes-replaced b.sort b.var r one bare (x.1 f.0) (resolved older t) (y.1 h),
      )

-- what the values of a table are
pub are-values : (bs : List Binding) → AllSorted bs → AllValued bs → AllTrees stands_free bs → Every (IsValue stands_free) bs
are-values [] s v h = tt
are-values (b ∷ older) s v h = (
  record { sort = v.0; known = refl; single = (one b.sort b.value s.0).0; same_sort = (one b.sort b.value s.0).1; made = made-of stands_free terms b.value h.0 },
  are-values older s.1 v.1 h.1,
)
  where
    one : (k : Sort) (t : Trees) → IsA k t → Single t × (term_sort t ≡ k)
    one k none a = absurd a
    one of_type (tree l c o) a = (a.1, a.0)
    one of_const (tree l c o) a = (a.1, a.0)
    one of_lifetime (tree l c o) a = (a.2, a.0)
