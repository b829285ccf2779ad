-- What visits find that look for what is not a goal's, and for names that are not declared.
use Rattle.std.proofs.Common.{◌≡◌, ◌≢◌, arith, subst, ℕ, List, [], ◌∷◌, refl, sym, ◌∙◌, ap, Bool, true, false, not, ◌&&◌, ◌||◌, Option, Some, None, is_some}
use Rattle.type_terms.specs.Promised.Label.{Label, of_type, of_const, of_lifetime, static, param, placeholder, infer, canonical, bound, dynamic, principal, auto_trait, predicate, adt}
use Rattle.type_terms.specs.Promised.Trees.{Trees, none, tree, leaf, ◌+++◌, IsA, sort_of, is_sort, some_node}
use Rattle.type_terms.specs.Trees.{is_no_tree}
use Rattle.type_terms.specs.Promised.Worlds.{World}
use Rattle.type_terms.specs.Promised.Walks.{trait_is}
use Rattle.type_terms.specs.Promised.Answers.{is_undeclared}
use Rattle.type_terms.specs.Promised.Handles.{Entry, Has, trees_at, term, types, consts, bounds_lists}
use Rattle.type_terms.specs.Terms.{Lawful, args_lists}
use Rattle.type_terms.specs.Promised.Handles.{region_label, region_trees}
use Rattle.type_terms.specs.Kinds.{autos_trees, principal_trees, bounds_trees}
use Rattle.type_terms.specs.declared.TraitId.{TraitId}
use Rattle.type_terms.specs.declared.kinds.Principal.{Principal}
use Rattle.type_terms.specs.declared.kinds.BoundsData.{BoundsData}
use Rattle.type_terms.specs.declared.region.Region.{Region}
use Rattle.type_terms.specs.declared.region.RegionKind.{RegionKind}
use Rattle.type_terms.specs.declared.region.RegionKind.TheVariants.{ReStatic, ReEarlyParam, RePlaceholder, ReBound, ReVar}
use Rattle.type_terms.specs.declared.number.BoundVarIndexKind.TheVariants.{Bound as KBinder, Canonical as KCanonical}
use Rattle.type_terms.specs.Made.{Standing, terms, bounds, traits, is_leaf_label, is_made, is_in_range}
use Rattle.type_terms.specs.Kept.{trees-is}
use Rattle.type_terms.specs.Visits.{Visits, ended, passed, broken, entered, broken_below}
use Rattle.type_terms.specs.declared.visit.Seen.{Seen}
use Rattle.type_terms.specs.declared.visit.Seen.TheVariants.{Break, Enter, Pass}
use Rattle.infer_table.specs.declared.canonical.CanonicalVarKind.{CanonicalVarKind}
use Rattle.type_terms.proofs.Made.{false-true, left, right, no-tree, made-ordinary, last-bound, last-trait, never-dynamic, never-dynamic-bound, never-principal}
use Rattle.goal_evaluator.specs.Variables.{is_variable_over}
use Rattle.candidate_assembly.specs.Finding.{BreaksAt, at_root, some_root, is_foreign_tree, names_undeclared}
use Rattle.type_terms.proofs.BooleanBasics.{behind-test, below-test, here-test, and-true, de-morgan, or-false}

-- ---- a visit that breaks at some trees
says-pass : (B : Type 0) (m : Bool) → BreaksAt {B = B} m Pass → ⊥
says-pass B true h = h
says-pass B false h = h

says-enter : (B : Type 0) (m : Bool) → BreaksAt {B = B} m Enter → m ≡ false
says-enter B true h = absurd h
says-enter B false h = refl

says-break : {B : Type 0} (m : Bool) (b : B) → BreaksAt m (Break b) → m ≡ true
says-break true b h = refl
says-break false b h = absurd h

-- one of the trees, each without those behind it, passes the test
abbrev pub some_tree : (Trees → Bool) → Trees → Bool
some_tree p none = false
some_tree p (tree l c o) = p (tree l c none) || some_tree p c || some_tree p o

abbrev pub Sees : {V : Type 0} → (V → Trees → Bool) → (B : Type 0) → List ℕ → Trees → V → V → Seen B → Type 0
Sees p B bs t v w a = (w ≡ v) × BreaksAt (p v t) a

pub visits-find : {V B : Type 0} (p : V → Trees → Bool) {bs : List ℕ} {t : Trees} {v w : V} {r : Option B} → Visits (Sees p B) bs t v w r → (w ≡ v) × (is_some r ≡ some_tree (p v) t)
visits-find p ended = (refl, refl)
visits-find p (passed s o) = absurd (says-pass _ _ s.1)
visits-find p (broken s) = (s.0, here-test _ _ _ (says-break _ _ s.1))
visits-find {V = V} p (entered {l = l} {c = c} {o = o} s a b) =
    let i = visits-find p a in
    let j = visits-find p b in
    let inner = i.1 ∙ ap (λ (z : V). some_tree (p z) c) s.0 in
    let rest = j.1 ∙ ap (λ (z : V). some_tree (p z) o) (i.0 ∙ s.0) in
    (j.0 ∙ i.0 ∙ s.0, behind-test _ _ _ _ (says-enter _ _ s.1) inner rest)
visits-find {V = V} p (broken_below {l = l} {c = c} s a) =
    let i = visits-find p a in
    (i.0 ∙ s.0, below-test _ _ _ (says-enter _ _ s.1) (i.1 ∙ ap (λ (z : V). some_tree (p z) c) s.0))

-- a test of labels
pub some-at-root : (p : Label → Bool) (t : Trees) → some_tree (at_root p) t ≡ some_node p t
some-at-root p none = refl
some-at-root p (tree l c o) =
    ap (λ x. p l || x || some_tree (at_root p) o) (some-at-root p c) ∙ ap (λ x. p l || some_node p c || x) (some-at-root p o)

-- ---- what is made, and holds nothing foreign
two : (a b x y : Bool) → x ≡ not a → y ≡ not b → (x && y) ≡ not (a || b)
two a b x y e f = ap (λ z. z && y) e ∙ ap (λ z. not a && z) f ∙ de-morgan a b

node : (g s a b x y : Bool) → s ≡ true → x ≡ not a → y ≡ not b → (g && (s && (x && y))) ≡ not (not g || a || b)
node false s a b x y p e f = refl
node true s a b x y p e f = ap (λ z. z && (x && y)) p ∙ two a b x y e f

bare : (n a b y : Bool) → n ≡ true → a ≡ false → y ≡ not b → (n && y) ≡ not (a || b)
bare n a b y p e f = rw (p, e) f

last : (g q a b : Bool) → q ≡ true → a ≡ false → b ≡ false → (g && q) ≡ not (not g || a || b)
last false q a b p e f = refl
last true q a b p e f = rw (p, e, f) refl

none-found : (p : Label → Bool) (t : Trees) → t ≡ none → some_node p t ≡ false
none-found p t e = ap (some_node p) e

module _ (kinds : List CanonicalVarKind) where
  abbrev pub foreign_label : Label → Bool
  foreign_label l = not (is_variable_over kinds l)

  abbrev pub foreign : Trees → Bool
  foreign t = some_node foreign_label t

  pub made-over : (m : Standing) (t : Trees) → is_made is_in_range m t ≡ true → is_made (is_variable_over kinds) m t ≡ not (foreign t)
  made-over terms none h = refl
  made-over terms (tree dynamic c o) h =
      two (foreign c) (foreign o) _ _ (made-over bounds c (left (is_made is_in_range bounds c) _ h)) (made-over terms o (right (is_made is_in_range bounds c) _ h))
  made-over terms (tree (principal n i) c o) h = absurd (false-true h)
  made-over terms (tree (auto_trait i) c o) h = absurd (false-true h)
  made-over terms (tree (predicate k) c o) h = absurd (false-true h)
  made-over terms (tree l c o) h =
      let x = made-ordinary is_in_range l c o refl h in
      node (is_variable_over kinds l) (not (is_leaf_label l) || is_no_tree c) (foreign c) (foreign o) _ _ x.1 (made-over terms c x.2) (made-over terms o x.3)
  made-over bounds none h = absurd (false-true h)
  made-over bounds (tree (principal n i) c o) h =
      two (foreign c) (foreign o) _ _ (made-over terms c (left (is_made is_in_range terms c) _ h)) (made-over traits o (right (is_made is_in_range terms c) _ h))
  made-over bounds (tree (predicate k) c o) h = absurd (false-true h)
  made-over bounds (tree (auto_trait i) c o) h =
      let e = left (is_no_tree c) _ h in
      bare (is_no_tree c) (foreign c) (foreign o) _ e (none-found foreign_label c (no-tree c e)) (made-over traits o (right (is_no_tree c) _ h))
  made-over bounds (tree dynamic c o) h = absurd (never-dynamic-bound is_in_range c o h)
  made-over bounds (tree l c o) h =
      let x = last-bound is_in_range l c o refl h in
      last (is_variable_over kinds l) (is_sort (sort_of l) of_lifetime && (is_no_tree c && is_no_tree o)) (foreign c) (foreign o)
      (right (is_in_range l) _ h) (none-found foreign_label c x.children) (none-found foreign_label o x.rest)
  made-over traits none h = absurd (false-true h)
  made-over traits (tree (predicate k) c o) h = absurd (false-true h)
  made-over traits (tree (auto_trait i) c o) h =
      let e = left (is_no_tree c) _ h in
      bare (is_no_tree c) (foreign c) (foreign o) _ e (none-found foreign_label c (no-tree c e)) (made-over traits o (right (is_no_tree c) _ h))
  made-over traits (tree dynamic c o) h = absurd (never-dynamic is_in_range c o h)
  made-over traits (tree (principal n i) c o) h = absurd (never-principal is_in_range n i c o h)
  made-over traits (tree l c o) h =
      let x = last-trait is_in_range l c o refl h in
      last (is_variable_over kinds l) (is_sort (sort_of l) of_lifetime && (is_no_tree c && is_no_tree o)) (foreign c) (foreign o)
      (right (is_in_range l) _ h) (none-found foreign_label c x.children) (none-found foreign_label o x.rest)

  -- a visit of what is made
  pub own-terms : (t : Trees) → is_made is_in_range terms t ≡ true → is_made (is_variable_over kinds) terms t ≡ not (some_tree (is_foreign_tree kinds) t)
  own-terms t h = made-over terms t h ∙ ap not (sym (some-at-root foreign_label t))

-- ---- terms of an interner
made-at : (es : List Entry) → Lawful es → (kind i : ℕ) → kind ≢ bounds_lists → Has es kind i → is_made is_in_range terms (trees_at es i) ≡ true
made-at es law kind i other h = subst (λ t. is_made is_in_range terms t ≡ true) (sym (trees-is es kind i h.0 h.1)) ((law.made i (term kind h.0) h.1).as_terms other)

pub args-made : (es : List Entry) → Lawful es → (i : ℕ) → Has es args_lists i → is_made is_in_range terms (trees_at es i) ≡ true
args-made es law i h = made-at es law args_lists i (λ e. absurd (omega (arith, e))) h

pub type-made : (es : List Entry) → Lawful es → (i : ℕ) → Has es types i → is_made is_in_range terms (trees_at es i) ≡ true
type-made es law i h = made-at es law types i (λ e. absurd (omega (arith, e))) h

-- ---- what is made, and names nothing undeclared
module _ (V : World) where
  abbrev pub undeclared : Trees → Bool
  undeclared t = some_node (is_undeclared V) t

  abbrev named : Trees → Bool
  named t = some_tree (names_undeclared V) t

  abbrev pub among : Trees → Bool
  among t = some_root (is_undeclared V) t

  -- a `dyn` is looked at as a whole, and then below
  whole : (r c o u p : Bool) → (r || c) ≡ u → o ≡ p → (r || c || o) ≡ (u || p)
  whole true c o u p e f = ap (λ z. z || p) e
  whole false c o u p e f = ap (λ z. z || o) e ∙ ap (λ z. u || z) f

  plain : (c o u p : Bool) → c ≡ u → o ≡ p → (c || o) ≡ (u || p)
  plain c o u p e f = ap (λ z. z || o) e ∙ ap (λ z. u || z) f

  own : (l c o u p : Bool) → c ≡ u → o ≡ p → (l || c || o) ≡ (l || u || p)
  own l c o u p e f = ap (λ z. l || z || o) e ∙ ap (λ z. l || u || z) f

  -- the first bound and its arguments, and the others
  first-bound : (l a r n u x : Bool) → a ≡ u → (r || n) ≡ x → ((l || r) || (false || a || n)) ≡ (l || u || x)
  first-bound true a r n u x e f = refl
  first-bound false true r n u x e f = other r n u x e f
    where
      other : (r n u x : Bool) → true ≡ u → (r || n) ≡ x → (r || (true || n)) ≡ (u || x)
      other true n u x e f = ap (λ z. z || x) e
      other false n u x e f = ap (λ z. z || x) e
  first-bound false false r n u x e f = f ∙ ap (λ z. z || x) e

  auto-bound : (l a r n u x : Bool) → a ≡ false → u ≡ false → (r || n) ≡ x → ((l || r) || (false || a || n)) ≡ (l || u || x)
  auto-bound l a r n u x e g f = first-bound l a r n u x (e ∙ sym g) f

  abbrev Claim : Standing → Trees → Type 0
  Claim terms t = named t ≡ undeclared t
  Claim bounds t = (among t || named t) ≡ undeclared t
  Claim traits t = (among t || named t) ≡ undeclared t

  made-named : (m : Standing) (t : Trees) → is_made is_in_range m t ≡ true → Claim m t
  made-named terms none h = refl
  made-named terms (tree dynamic c o) h =
      whole (among c) (named c) (named o) (undeclared c) (undeclared o) (made-named bounds c (left (is_made is_in_range bounds c) _ h)) (made-named terms o (right (is_made is_in_range bounds c) _ h))
  made-named terms (tree (principal n i) c o) h = absurd (false-true h)
  made-named terms (tree (auto_trait i) c o) h = absurd (false-true h)
  made-named terms (tree (predicate k) c o) h = absurd (false-true h)
  made-named terms (tree (adt s) c o) h =
      let x = made-ordinary is_in_range (adt s) c o refl h in
      own (is_undeclared V (adt s)) (named c) (named o) (undeclared c) (undeclared o) (made-named terms c x.2) (made-named terms o x.3)
  made-named terms (tree l c o) h =
      let x = made-ordinary is_in_range l c o refl h in
      plain (named c) (named o) (undeclared c) (undeclared o) (made-named terms c x.2) (made-named terms o x.3)
  made-named bounds none h = absurd (false-true h)
  made-named bounds (tree (principal n i) c o) h =
      first-bound (is_undeclared V (principal n i)) (named c) (among o) (named o) (undeclared c) (undeclared o)
      (made-named terms c (left (is_made is_in_range terms c) _ h)) (made-named traits o (right (is_made is_in_range terms c) _ h))
  made-named bounds (tree (predicate k) c o) h = absurd (false-true h)
  made-named bounds (tree (auto_trait i) c o) h =
      let e = no-tree c (left (is_no_tree c) _ h) in
      auto-bound (is_undeclared V (auto_trait i)) (named c) (among o) (named o) (undeclared c) (undeclared o)
      (ap named e) (ap undeclared e) (made-named traits o (right (is_no_tree c) _ h))
  made-named bounds (tree dynamic c o) h = absurd (never-dynamic-bound is_in_range c o h)
  made-named bounds (tree (adt s) c o) h = absurd (false-true (last-bound is_in_range (adt s) c o refl h).lifetime)
  made-named bounds (tree l c o) h = let x = last-bound is_in_range l c o refl h in rw (x.children, x.rest) refl
  made-named traits none h = absurd (false-true h)
  made-named traits (tree (predicate k) c o) h = absurd (false-true h)
  made-named traits (tree (auto_trait i) c o) h =
      let e = no-tree c (left (is_no_tree c) _ h) in
      auto-bound (is_undeclared V (auto_trait i)) (named c) (among o) (named o) (undeclared c) (undeclared o)
      (ap named e) (ap undeclared e) (made-named traits o (right (is_no_tree c) _ h))
  made-named traits (tree dynamic c o) h = absurd (never-dynamic is_in_range c o h)
  made-named traits (tree (principal n i) c o) h = absurd (never-principal is_in_range n i c o h)
  made-named traits (tree (adt s) c o) h = absurd (false-true (last-trait is_in_range (adt s) c o refl h).lifetime)
  made-named traits (tree l c o) h = let x = last-trait is_in_range l c o refl h in rw (x.children, x.rest) refl

  pub own-names : (t : Trees) → is_made is_in_range terms t ≡ true → not (undeclared t) ≡ not (some_tree (names_undeclared V) t)
  own-names t h = ap not (sym (made-named terms t h))

  -- ---- the traits of a `dyn`
  pub bounds-named : (x y : Trees) → among (x +++ y) ≡ (among x || among y)
  bounds-named none y = refl
  bounds-named (tree l c o) y = by (is_undeclared V l) (bounds-named o y)
    where
      by : (b : Bool) → among (o +++ y) ≡ (among o || among y) → (b || among (o +++ y)) ≡ ((b || among o) || among y)
      by true e = refl
      by false e = e

  region-unnamed : (k : RegionKind) → among (leaf (region_label k)) ≡ false
  region-unnamed ReStatic = refl
  region-unnamed (ReEarlyParam i) = refl
  region-unnamed (RePlaceholder i) = refl
  region-unnamed (ReBound (KBinder j) v) = refl
  region-unnamed (ReBound KCanonical v) = refl
  region-unnamed (ReVar v) = refl

  -- the lifetime of a `dyn` names nothing
  pub bounds-alone : (b : Trees) (r : Region) → among (b +++ region_trees r) ≡ among b
  bounds-alone b r = bounds-named b (region_trees r) ∙ ap (λ z. among b || z) (region-unnamed r.kind) ∙ or-false (among b)

  -- the bounds, with a principal or without one
  pub bounds-with : (es : List Entry) (b : BoundsData) (p : Principal) → b.principal ≡ Some p
      → among (bounds_trees es b) ≡ (not (trait_is (λ _. true) V p.def_id.index) || among (autos_trees b.autos.items))
  bounds-with es b p e = ap (λ o. among (principal_trees es o +++ autos_trees b.autos.items)) e

  pub bounds-without : (es : List Entry) (b : BoundsData) → b.principal ≡ None → among (bounds_trees es b) ≡ among (autos_trees b.autos.items)
  bounds-without es b e = ap (λ o. among (principal_trees es o +++ autos_trees b.autos.items)) e

  -- one auto trait after the other
  module _ (left : List TraitId) (r : Bool) (id : TraitId) (others : List TraitId) (e : left ≡ id ∷ others) (k : among (autos_trees left) ≡ r) where
    pub stray-next : trait_is (λ _. true) V id.index ≡ true → among (autos_trees others) ≡ r
    stray-next h = sym (ap (λ b. not b || among (autos_trees others)) h) ∙ sym (ap (λ l. among (autos_trees l)) e) ∙ k

    pub stray-found : trait_is (λ _. true) V id.index ≡ false → false ≡ not r
    stray-found h = ap not (sym (ap (λ b. not b || among (autos_trees others)) h) ∙ sym (ap (λ l. among (autos_trees l)) e) ∙ k)

  pub stray-none : (left : List TraitId) (r : Bool) → left ≡ [] → among (autos_trees left) ≡ r → true ≡ not r
  stray-none left r e k = ap not (sym (ap (λ l. among (autos_trees l)) e) ∙ k)

  -- a constant names nothing
  pub const-unnamed : (es : List Entry) → Lawful es → (i : ℕ) → Has es consts i → names_undeclared V (trees_at es i) ≡ false
  const-unnamed es law i h = by (trees_at es i) (subst (IsA of_const) (sym (trees-is es consts i h.0 h.1)) ((law.sorted i _ h.1).as_const refl))
    where
      by : (t : Trees) → IsA of_const t → names_undeclared V t ≡ false
      by none h = absurd h
      by (tree (adt s) c o) h = let e : of_type ≡ of_const = h.0 in absurd cc
      by (tree dynamic c o) h = let e : of_type ≡ of_const = h.0 in absurd cc
      by (tree l c o) h = refl

-- ---- terms one after the other
module _ (good : Label → Bool) where
  regroup : (g s x a b : Bool) → (g && (s && (x && (a && b)))) ≡ ((g && (s && (x && a))) && b)
  regroup false s x a b = refl
  regroup true false x a b = refl
  regroup true true false a b = refl
  regroup true true true a b = refl

  grouped : (x a b : Bool) → (x && (a && b)) ≡ ((x && a) && b)
  grouped true a b = refl
  grouped false a b = refl

  pub made-then : (x y : Trees) → is_made good terms (x +++ y) ≡ (is_made good terms x && is_made good terms y)
  made-then none y = refl
  made-then (tree dynamic c o) y = ap (λ z. is_made good bounds c && z) (made-then o y) ∙ grouped (is_made good bounds c) (is_made good terms o) (is_made good terms y)
  made-then (tree (principal n i) c o) y = refl
  made-then (tree (auto_trait i) c o) y = refl
  made-then (tree (predicate k) c o) y = refl
  made-then (tree l c o) y =
      ap (λ z. good l && ((not (is_leaf_label l) || is_no_tree c) && (is_made good terms c && z))) (made-then o y)
      ∙ regroup (good l) (not (is_leaf_label l) || is_no_tree c) (is_made good terms c) (is_made good terms o) (is_made good terms y)

  pub region-made : (k : RegionKind) → is_made good terms (leaf (region_label k)) ≡ good (region_label k)
  region-made ReStatic = and-true (good static)
  region-made (ReEarlyParam i) = and-true (good (param of_lifetime i))
  region-made (RePlaceholder i) = and-true (good (placeholder of_lifetime i))
  region-made (ReBound (KBinder j) v) = and-true (good (bound of_lifetime j.index v.index))
  region-made (ReBound KCanonical v) = and-true (good (canonical of_lifetime v.index))
  region-made (ReVar v) = and-true (good (infer of_lifetime v.index))
