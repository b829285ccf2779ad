-- What the headers of two impls fix of their where-clauses, whatever makes them equal.
use Rattle.std.proofs.Common.{◌≡◌, ℕ, zero, true, false, not, List, [], ◌∷◌, ◌++◌, map, refl, sym, ap, subst, ◌∙◌, ◌||◌, inl, inr}
use Rattle.std.proofs.lemmas.List.{append-nil, append_assoc}
use Rattle.type_terms.specs.Promised.Label.{Label, of_type, of_const, of_lifetime, param, placeholder, infer, canonical, bound, adt}
use Rattle.type_terms.specs.Promised.Trees.{Trees, none, tree, leaf, ◌+++◌, erase, instantiate, nth, shift, some_node}
use Rattle.type_terms.specs.Trees.{Single, flags, label_flags}
use Rattle.type_terms.specs.Promised.Answers.{is_open}
use Rattle.type_terms.specs.Promised.Erased.{erased_impl, erased_reference}
use Rattle.type_terms.specs.Promised.Handles.{Entry, ArgHeld, arg_trees, trees_at}
use Rattle.type_terms.specs.Promised.Proofs.{In}
use Rattle.type_terms.specs.Promised.Worlds.{Reference}
use Rattle.type_terms.specs.Kinds.{args_trees}
use Rattle.type_terms.specs.Terms.{Lawful}
use Rattle.type_terms.specs.declared.ImplId.{ImplId}
use Rattle.type_terms.specs.declared.kinds.GenericArgKind.{GenericArgKind}
use Rattle.type_terms.proofs.Fitting.{or-no}
use Rattle.type_terms.proofs.Members.{in-map, there}
use Rattle.type_terms.proofs.TermBasics.{erase-append}
use Rattle.type_terms.proofs.TreeLaws.{instantiate-append, single-nth, single-shift}
use Rattle.term_folds.specs.declared.predicate.TraitRef.{TraitRef}
use Rattle.term_folds.proofs.ParamFacts.{arg-single}
use Rattle.declarations.specs.Apart.{is_fixed}
use Rattle.declarations.specs.Items.{impl_in, reference_in}
use Rattle.declarations.specs.Promised.Elaboration.{Each}
use Rattle.declarations.specs.declared.items.ImplDef.{ImplDef}
use Rattle.declarations.proofs.Basics.{each-append}
use Rattle.declarations.proofs.Fixed.{top, child, next, no-flags, fixed-erased, fixed-instance}
use Rattle.overlap_check.specs.FixedClauses.{IsFixedClauseBy, IsFixedBy, IsFixedGoalOf, IsFixedGoalIn, AppendsFixedGoals, fixed_reference}
use Rattle.overlap_check.specs.SessionLaws.{CoversLeft, CoversRight}
use Rattle.overlap_check.specs.declared.fixed.FixedGoal.{FixedGoal}
use Rattle.overlap_check.proofs.Filling.{filled-closed}

-- ---- terms with arguments in place of the parameters, one after the other
abbrev put : Trees → Trees → Trees
put A x = instantiate zero A (erase x)

put-append : (A x y : Trees) → put A (x +++ y) ≡ put A x +++ put A y
put-append A x y = ap (instantiate zero A) (erase-append x y) ∙ instantiate-append zero A (erase x) (erase y)

appended-single : (x y : Trees) → Single x → y ≡ none → Single (x +++ y)
appended-single none y s e = absurd s
appended-single (tree l c o) y s e = ap (λ z. z +++ y) s ∙ e

instance-single : (A x : Trees) → Single x → Single (instantiate zero A x)
instance-single A none s = absurd s
instance-single A (tree (param k i) c o) s =
    appended-single (shift zero zero (nth A i)) (instantiate zero A o) (single-shift zero zero (nth A i) (single-nth A i)) (ap (instantiate zero A) s)
instance-single A (tree l c o) s = ap (instantiate zero A) s

put-single : (A x : Trees) → Single x → Single (put A x)
put-single A none s = absurd s
put-single A (tree l c o) s = instance-single A (erase (tree l c o)) (ap erase s)

single-append : (x y a b : Trees) → Single x → Single y → x +++ a ≡ y +++ b → (x ≡ y) × (a ≡ b)
single-append none y a b s t e = absurd s
single-append (tree l c o) none a b s t e = absurd t
single-append (tree l c o) (tree m d p) a b s t e = by (ap (λ z. tree l c (z +++ a)) (sym s) ∙ e ∙ ap (λ z. tree m d (z +++ b)) t)
  where
    by : tree l c a ≡ tree m d b → (tree l c o ≡ tree m d p) × (a ≡ b)
    by q = (cc, cc)

-- if they are equal, the first ones are, and the others
module _ (A B x y xs ys : Trees) (one : Single x) (two : Single y) (e : put A (x +++ xs) ≡ put B (y +++ ys)) where
  both-equal : (put A x ≡ put B y) × (put A xs ≡ put B ys)
  both-equal =
      single-append (put A x) (put B y) (put A xs) (put B ys) (put-single A x one) (put-single B y two) (sym (put-append A x xs) ∙ e ∙ put-append B y ys)

-- so what one of them fixes is fixed
module _ (k x y xs ys t : Trees) (one : Single x) (two : Single y) where
  fixed-first : IsFixedClauseBy k x y t → IsFixedClauseBy k (x +++ xs) (y +++ ys) t
  fixed-first f = record { fixed = f.fixed; is = λ A B e. f.is A B (both-equal A B x y xs ys one two e).0 }

  fixed-others : IsFixedClauseBy k xs ys t → IsFixedClauseBy k (x +++ xs) (y +++ ys) t
  fixed-others f = record { fixed = f.fixed; is = λ A B e. f.is A B (both-equal A B x y xs ys one two e).1 }

module _ (es : List Entry) (law : Lawful es) (n : ℕ) (a b : GenericArgKind) (xs ys : List GenericArgKind) (ha : ArgHeld es a) (hb : ArgHeld es b) (t : Trees) where
  pub first-fixes : IsFixedBy n (arg_trees es a) (arg_trees es b) t → IsFixedBy n (args_trees es (a ∷ xs)) (args_trees es (b ∷ ys)) t
  first-fixes f = fixed-first (leaf (param of_type n)) (arg_trees es a) (arg_trees es b) (args_trees es xs) (args_trees es ys) t (arg-single es law a ha) (arg-single es law b hb) f

  pub others-fix : IsFixedBy n (args_trees es xs) (args_trees es ys) t → IsFixedBy n (args_trees es (a ∷ xs)) (args_trees es (b ∷ ys)) t
  others-fix f = fixed-others (leaf (param of_type n)) (arg_trees es a) (arg_trees es b) (args_trees es xs) (args_trees es ys) t (arg-single es law a ha) (arg-single es law b hb) f

-- a parameter is what stands at its place
pub param-fixed : (n : ℕ) (y : Trees) → is_fixed y ≡ true → IsFixedBy n (leaf (param of_type n)) y y
param-fixed n y f = record {
  fixed = f;
  is = λ A B e. e ∙ ap (instantiate zero B) (fixed-erased y (no-flags y f)) ∙ fixed-instance zero B y (no-flags y f);
}

-- what the arguments of two structs fix is fixed
pub struct-fixes : (n s u : ℕ) (xs ys t : Trees) → IsFixedBy n xs ys t → IsFixedBy n (tree (adt s) xs none) (tree (adt u) ys none) t
struct-fixes n s u xs ys t f = record { fixed = f.fixed; is = λ A B e. f.is A B (inner A B e) }
  where
    inner : (A B : Trees) → tree (adt s) (put A xs) none ≡ tree (adt u) (put B ys) none → put A xs ≡ put B ys
    inner A B e = cc

-- ---- what is fixed is closed
shut-label : (l : Label) → label_flags l ≡ 0 → is_open l ≡ false
shut-label (param of_type i) h = cc
shut-label (param of_const i) h = cc
shut-label (param of_lifetime i) h = cc
shut-label (placeholder of_type i) h = cc
shut-label (placeholder of_const i) h = cc
shut-label (placeholder of_lifetime i) h = cc
shut-label (infer of_type i) h = cc
shut-label (infer of_const i) h = cc
shut-label (infer of_lifetime i) h = cc
shut-label (canonical of_type i) h = cc
shut-label (canonical of_const i) h = cc
shut-label (canonical of_lifetime i) h = cc
shut-label (bound of_type k i) h = cc
shut-label (bound of_const k i) h = cc
shut-label (bound of_lifetime k i) h = cc
shut-label l h = refl

shut : (t : Trees) → flags t ≡ 0 → some_node is_open t ≡ false
shut none h = refl
shut (tree l c o) h =
    or-no (is_open l || some_node is_open c) (some_node is_open o) (or-no (is_open l) (some_node is_open c) (shut-label l (top l c o h)) (shut c (child l c o h))) (shut o (next l c o h))

pub fixed-shut : (t : Trees) → is_fixed t ≡ true → some_node is_open t ≡ false
fixed-shut t f = shut t (no-flags t f)

-- ---- the goals that are found
pub same-reference : (t u : ℕ) (a b : Trees) → t ≡ u → a ≡ b → (let r : Reference = record { trait = t; args = a } in r) ≡ record { trait = u; args = b }
same-reference t u a b p q = cc

module _ (es : List Entry) (w x : ImplDef) (g : FixedGoal) where
  left-covers : (f : IsFixedGoalOf es w.clauses.items w.header x.header g) (i j : ImplId)
      → CoversLeft (erased_impl (impl_in es i w)) (erased_impl (impl_in es j x)) (erased_reference (reference_in es f.clause)) [] (fixed_reference es g)
  left-covers f i j = record {
    clause = in-map erased_reference (map (reference_in es) w.clauses.items) (reference_in es f.clause) (in-map (reference_in es) w.clauses.items f.clause f.listed);
    values = λ m. [];
    fitting = λ m. tt;
    closed = λ m. tt;
    instance_of = λ m.
        same-reference f.clause.def_id.index g.def_id.index _ _ f.trait
        (f.by.is m.left m.right (ap (λ (r : Reference). r.args) m.equal) ∙ sym (filled-closed [] [] (trees_at es g.self_ty.0) (ap not (fixed-shut (trees_at es g.self_ty.0) f.by.fixed))));
  }

  right-covers : (f : IsFixedGoalOf es x.clauses.items x.header w.header g) (i j : ImplId)
      → CoversRight (erased_impl (impl_in es i w)) (erased_impl (impl_in es j x)) (erased_reference (reference_in es f.clause)) [] (fixed_reference es g)
  right-covers f i j = record {
    clause = in-map erased_reference (map (reference_in es) x.clauses.items) (reference_in es f.clause) (in-map (reference_in es) x.clauses.items f.clause f.listed);
    values = λ m. [];
    fitting = λ m. tt;
    closed = λ m. tt;
    instance_of = λ m.
        same-reference f.clause.def_id.index g.def_id.index _ _ f.trait
        (f.by.is m.right m.left (sym (ap (λ (r : Reference). r.args) m.equal)) ∙ sym (filled-closed [] [] (trees_at es g.self_ty.0) (ap not (fixed-shut (trees_at es g.self_ty.0) f.by.fixed))));
  }

  left-in : IsFixedGoalOf es w.clauses.items w.header x.header g → IsFixedGoalIn es w x g
  left-in f = record { held = f.held; fixed = f.by.fixed; covers = λ i j. inl (erased_reference (reference_in es f.clause), left-covers f i j) }

  right-in : IsFixedGoalOf es x.clauses.items x.header w.header g → IsFixedGoalIn es w x g
  right-in f = record { held = f.held; fixed = f.by.fixed; covers = λ i j. inr (erased_reference (reference_in es f.clause), right-covers f i j) }

each-weaker : {A : Type 0} (P Q : A → Type 0) (xs : List A) → ((x : A) → P x → Q x) → Each P xs → Each Q xs
each-weaker P Q [] f h = tt
each-weaker P Q (x ∷ xs) f h = (f x h.0, each-weaker P Q xs f h.1)

-- those of both impls
pub both-fixed : (es : List Entry) (w x : ImplDef) (empty one both : List FixedGoal) → empty ≡ [] → AppendsFixedGoals es w.clauses.items w.header x.header empty one
    → AppendsFixedGoals es x.clauses.items x.header w.header one both → Each (IsFixedGoalIn es w x) both
both-fixed es w x empty one both e f g = subst (Each (IsFixedGoalIn es w x)) (sym all) (each-append (IsFixedGoalIn es w x) f.0 g.0 (each-weaker _ _ f.0 (left-in es w x) f.2) (each-weaker _ _ g.0 (right-in es w x) g.2))
  where
    all : both ≡ f.0 ++ g.0
    all = g.1 ∙ ap (λ l. l ++ g.0) (f.1 ∙ ap (λ l. l ++ f.0) e)

-- one more
pub appended-none : (es : List Entry) (clauses : List TraitRef) (left right : TraitRef) (old : List FixedGoal) → AppendsFixedGoals es clauses left right old old
appended-none es clauses left right old = ([], sym (append-nil old), tt)

pub appended-one : (es : List Entry) (clauses : List TraitRef) (left right : TraitRef) (old now new : List FixedGoal) (g : FixedGoal) → new ≡ now ++ g ∷ [] → IsFixedGoalOf es clauses left right g
    → AppendsFixedGoals es clauses left right old now → AppendsFixedGoals es clauses left right old new
appended-one es clauses left right old now new g e f h =
    (h.0 ++ g ∷ [], e ∙ ap (λ l. l ++ g ∷ []) h.1 ∙ append_assoc old h.0 (g ∷ []), each-append (IsFixedGoalOf es clauses left right) h.0 (g ∷ []) h.2 (f, tt))

-- members of the rest of a list are members of the list
pub listed-next : (r : TraitRef) (rs all : List TraitRef) → ((k : TraitRef) → In k (r ∷ rs) → In k all) → (k : TraitRef) → In k rs → In k all
listed-next r rs all f k h = f k (there k r rs h)
