-- A constraint that is added to a table is recorded once among the trees of its constraints.
use Rattle.std.proofs.Common.{◌≡◌, ◌∙◌, Bool, true, false, if◌then◌else◌, refl, ap, sym, subst, List, [], ◌∷◌, ◌++◌, ◌⊎◌, inl, inr}
use Rattle.std.specs.Bool.{Decides}
use Rattle.std.specs.Prelude.{◌||◌}
use Rattle.std.specs.List.{list_any}
use Rattle.indexmap.specs.IndexSet.{insert_key, insert_all}
use Rattle.type_terms.specs.Promised.Trees.{Trees, none, tree, ◌+++◌}
use Rattle.type_terms.specs.Trees.{Single}
use Rattle.type_terms.specs.Codes.{same}
use Rattle.type_terms.proofs.Matching.{same-sound}
use Rattle.type_terms.specs.Promised.Handles.{Entry, types, trees_at}
use Rattle.type_terms.specs.Terms.{Lawful}
use Rattle.type_terms.specs.Promised.Handles.{region_trees}
use Rattle.type_terms.specs.declared.region.Region.{Region}
use Rattle.type_terms.specs.declared.kinds.GenericArgKind.TheVariants.{Ty as AType}
use Rattle.type_terms.proofs.Equal.{both, through}
use Rattle.type_terms.proofs.Sorts.{arg-single}
use Rattle.infer_table.specs.Applied.{with_constraints}
use Rattle.infer_table.specs.Constraints.{constraints_trees}
use Rattle.infer_table.specs.Content.{Table, Ready, Grows, IsHeldConstraint, AllConstraintsHeld}
use Rattle.infer_table.specs.Growth.{grows-refl, grows-recorded}
use Rattle.infer_table.specs.Unification.{table_trees, is_recorded, recorded_once, all_recorded, with_equal}
use Rattle.infer_table.specs.contracts.terms.RegionConstraintPartialEq.TheImpl.{ghosts as constraint}
use Rattle.infer_table.specs.declared.terms.RegionConstraint.{RegionConstraint}
use Rattle.infer_table.specs.declared.terms.RegionConstraint.TheVariants.{Equal, RegionOutlives, TypeOutlives}
use Rattle.infer_table.proofs.ConstraintLists.{constraints-append, constraints-held-push}
use Rattle.infer_table.proofs.LeafFacts.{region-eq, ty-eq, same-handle}
use Rattle.infer_table.proofs.StepFacts.{ready-recorded}
use Rattle.infer_table.proofs.UnifyFacts.{same-self, region-one}

bools-same : (x y : Bool) → (x ≡ true → y ≡ true) → (y ≡ true → x ≡ true) → x ≡ y
bools-same true y f g = sym (f refl)
bools-same false true f g = g refl
bools-same false false f g = refl

-- ---- one constraint
abbrev alone : List Entry → RegionConstraint → Trees
alone es x = constraints_trees es (x ∷ [])

is-one : (x y : RegionConstraint) → Decides (constraint.eq x y) (x ≡ y)
is-one (Equal a b) (Equal x y) = through _ _ _ (both _ _ _ _ (region-eq a x) (region-eq b y)) (λ p. cc) (λ e. (cc, cc))
is-one (RegionOutlives a b) (RegionOutlives x y) = through _ _ _ (both _ _ _ _ (region-eq a x) (region-eq b y)) (λ p. cc) (λ e. (cc, cc))
is-one (TypeOutlives t r) (TypeOutlives u s) = through _ _ _ (both _ _ _ _ (ty-eq t u) (region-eq r s)) (λ p. cc) (λ e. (cc, cc))
is-one _ _ = (λ e. cc, λ e. cc)

-- its trees tell it from the other
abbrev IsTold : List Entry → RegionConstraint → RegionConstraint → Type 0
IsTold es x y = alone es x ≡ alone es y → x ≡ y

two-regions : (a b x y : Region) → region_trees a +++ region_trees b ≡ region_trees x +++ region_trees y → (a ≡ x) × (b ≡ y)
two-regions a b x y e =
    let p : region_trees a ≡ region_trees x = cc in
    let q : region_trees b ≡ region_trees y = cc in
    (region-one a x p, region-one b y q)

equal-told : (es : List Entry) (a b : Region) (y : RegionConstraint) → IsTold es (Equal a b) y
equal-told es a b (Equal x y) e = let p : region_trees a +++ region_trees b ≡ region_trees x +++ region_trees y = cc in let q = two-regions a b x y p in let f = q.0 in let g = q.1 in cc
equal-told es a b (RegionOutlives x y) e = cc
equal-told es a b (TypeOutlives t r) e = cc

first-of-two : (a b r s : Trees) → Single a → Single b → a +++ r ≡ b +++ s → (a ≡ b) × (r ≡ s)
first-of-two none b r s h g e = absurd h
first-of-two (tree l c o) none r s h g e = absurd g
first-of-two (tree l c o) (tree m d p) r s h g e =
    let q : o +++ r ≡ r = ap (λ z. z +++ r) h in
    let w : p +++ s ≡ s = ap (λ z. z +++ s) g in
    (cc, cc)

held-told : (es : List Entry) → Lawful es → (x y : RegionConstraint) → IsHeldConstraint es x → IsHeldConstraint es y → IsTold es x y
held-told es law (Equal a b) y h g = equal-told es a b y
held-told es law (RegionOutlives a b) (Equal x y) h g = λ e. cc
held-told es law (RegionOutlives a b) (RegionOutlives x y) h g = λ e.
    let p : region_trees a +++ region_trees b ≡ region_trees x +++ region_trees y = cc in
    let q = two-regions a b x y p in
    let f = q.0 in
    let k = q.1 in
    cc
held-told es law (RegionOutlives a b) (TypeOutlives t r) h g = λ e. cc
held-told es law (TypeOutlives t r) (Equal x y) h g = λ e. cc
held-told es law (TypeOutlives t r) (RegionOutlives x y) h g = λ e. cc
held-told es law (TypeOutlives t r) (TypeOutlives u s) h g = λ e.
    let p : trees_at es t.0 +++ region_trees r ≡ trees_at es u.0 +++ region_trees s = cc in
    let q = first-of-two _ _ _ _ (arg-single es law.sorted (AType t) h.0) (arg-single es law.sorted (AType u) g.0) p in
    ap (λ i. TypeOutlives (record { 0 = i }) r) (same-handle es law types t.0 u.0 h.0 g.0 q.0) ∙ ap (TypeOutlives u) (region-one r s q.1)

-- ---- among others
abbrev AreTold : List Entry → RegionConstraint → List RegionConstraint → Type 0
AreTold es x [] = Unit {0}
AreTold es x (y ∷ ys) = IsTold es x y × AreTold es x ys

equals-told : (es : List Entry) (a b : Region) (ys : List RegionConstraint) → AreTold es (Equal a b) ys
equals-told es a b [] = tt
equals-told es a b (y ∷ ys) = (equal-told es a b y, equals-told es a b ys)

all-told : (es : List Entry) → Lawful es → (x : RegionConstraint) → IsHeldConstraint es x → (ys : List RegionConstraint) → AllConstraintsHeld es ys → AreTold es x ys
all-told es law x h [] g = tt
all-told es law x h (y ∷ ys) g = (held-told es law x y h g.0, all-told es law x h ys g.1)

recorded-is : (es : List Entry) (x : RegionConstraint) (ys : List RegionConstraint) → AreTold es x ys → list_any (constraint.eq x) ys ≡ is_recorded (alone es x) (constraints_trees es ys)
recorded-is es x [] h = refl
recorded-is es x (y ∷ ys) h = ap (λ z. z || list_any (constraint.eq x) ys) one ∙ ap (λ z. same (alone es x) (alone es y) || z) (recorded-is es x ys h.1)
  where
    one : constraint.eq x y ≡ same (alone es x) (alone es y)
    one = bools-same (constraint.eq x y) (same (alone es x) (alone es y)) (λ e. subst (λ z. same (alone es x) (alone es z) ≡ true) ((is-one x y).0 e) (same-self (alone es x)))
        (λ e. (is-one x y).1 (h.0 (same-sound (alone es x) (alone es y) e)))

-- ---- put among them
inserted-trees : (es : List Entry) (x : RegionConstraint) (ys : List RegionConstraint) → AreTold es x ys → constraints_trees es (insert_key constraint.eq ys x) ≡ recorded_once (alone es x) (constraints_trees es ys)
inserted-trees es x ys h = ap (λ (z : Bool). constraints_trees es (if z then ys else ys ++ x ∷ [])) (recorded-is es x ys h) ∙ by (is_recorded (alone es x) (constraints_trees es ys))
  where
    by : (z : Bool) → constraints_trees es (if z then ys else ys ++ x ∷ []) ≡ (if z then constraints_trees es ys else constraints_trees es ys +++ alone es x)
    by true = refl
    by false = constraints-append es ys (x ∷ [])

-- either it was there, or it is the last one
pub inserted-either : (x : RegionConstraint) (ys : List RegionConstraint) → (insert_key constraint.eq ys x ≡ ys) ⊎ (insert_key constraint.eq ys x ≡ ys ++ x ∷ [])
inserted-either x ys = by (list_any (constraint.eq x) ys)
  where
    by : (z : Bool) → ((if z then ys else ys ++ x ∷ []) ≡ ys) ⊎ ((if z then ys else ys ++ x ∷ []) ≡ ys ++ x ∷ [])
    by true = inl refl
    by false = inr refl

pub inserted-held : (es : List Entry) (x : RegionConstraint) (ys : List RegionConstraint) → AllConstraintsHeld es ys → IsHeldConstraint es x → AllConstraintsHeld es (insert_key constraint.eq ys x)
inserted-held es x ys h g = by (inserted-either x ys)
  where
    by : (insert_key constraint.eq ys x ≡ ys) ⊎ (insert_key constraint.eq ys x ≡ ys ++ x ∷ []) → AllConstraintsHeld es (insert_key constraint.eq ys x)
    by (inl e) = subst (AllConstraintsHeld es) (sym e) h
    by (inr e) = subst (AllConstraintsHeld es) (sym e) (constraints-held-push es ys x h g)

pub inserted-ready : (es : List Entry) (t : Table) (x : RegionConstraint) → Ready es t → IsHeldConstraint es x → Ready es (record t { constraints = insert_key constraint.eq t.constraints x })
inserted-ready es t x r h = by (inserted-either x t.constraints)
  where
    by : (insert_key constraint.eq t.constraints x ≡ t.constraints) ⊎ (insert_key constraint.eq t.constraints x ≡ t.constraints ++ x ∷ []) → Ready es (record t { constraints = insert_key constraint.eq t.constraints x })
    by (inl e) = subst (λ cs. Ready es (record t { constraints = cs })) (sym e) r
    by (inr e) = subst (λ cs. Ready es (record t { constraints = cs })) (sym e) (ready-recorded es t x r h)

pub inserted-grows : (t : Table) (x : RegionConstraint) → Grows t (record t { constraints = insert_key constraint.eq t.constraints x })
inserted-grows t x = by (inserted-either x t.constraints)
  where
    by : (insert_key constraint.eq t.constraints x ≡ t.constraints) ⊎ (insert_key constraint.eq t.constraints x ≡ t.constraints ++ x ∷ []) → Grows t (record t { constraints = insert_key constraint.eq t.constraints x })
    by (inl e) = subst (λ cs. Grows t (record t { constraints = cs })) (sym e) (grows-refl t)
    by (inr e) = subst (λ cs. Grows t (record t { constraints = cs })) (sym e) (grows-recorded t x)

pub insert-last : (ys xs : List RegionConstraint) (x : RegionConstraint) → insert_all constraint.eq ys (xs ++ x ∷ []) ≡ insert_key constraint.eq (insert_all constraint.eq ys xs) x
insert-last ys [] x = refl
insert-last ys (y ∷ xs) x = insert-last (insert_key constraint.eq ys y) xs x

-- ---- tables
-- that two lifetimes are to be equal
pub equal-inserted : (es : List Entry) (t u : Table) (a b : Region) → u ≡ record t { constraints = insert_key constraint.eq t.constraints (Equal a b) } → table_trees es u ≡ with_equal (table_trees es t) (region_trees a) (region_trees b)
equal-inserted es t u a b e = ap (table_trees es) e ∙ ap (λ cs. record (table_trees es t) { constraints = cs }) (inserted-trees es (Equal a b) t.constraints (equals-told es a b t.constraints))

module _ (es : List Entry) (law : Lawful es) where
  pub all-inserted : (ys xs : List RegionConstraint) → AllConstraintsHeld es ys → AllConstraintsHeld es xs → constraints_trees es (insert_all constraint.eq ys xs) ≡ all_recorded (constraints_trees es xs) (constraints_trees es ys)
  all-inserted ys [] h g = refl
  all-inserted ys (x ∷ xs) h g =
      all-inserted (insert_key constraint.eq ys x) xs (inserted-held es x ys h g.0) g.1 ∙ ap (all_recorded (constraints_trees es xs)) (inserted-trees es x ys (all-told es law x g.0 ys h))

  -- further constraints of a table are further constraints of its trees, each once
  pub constraints-recorded : (t u : Table) (cs : List RegionConstraint) (c : Trees) → Ready es t → AllConstraintsHeld es cs → u ≡ record t { constraints = insert_all constraint.eq t.constraints cs } → constraints_trees es cs ≡ c
      → with_constraints c (table_trees es t) ≡ table_trees es u
  constraints-recorded t u cs c r h e f =
      ap (λ z. record (table_trees es t) { constraints = z }) (ap (λ z. all_recorded z (constraints_trees es t.constraints)) (sym f) ∙ sym (all-inserted t.constraints cs r.constraints_held h)) ∙ ap (table_trees es) (sym e)
