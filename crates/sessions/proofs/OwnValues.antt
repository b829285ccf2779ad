-- Values that speak of what their question speaks of: with lifetimes and without; and what follows of a question without parameters.
use Rattle.std.proofs.Common.{◌≡◌, ℕ, Bool, true, false, not, ◌||◌, ◌&&◌, ◌==◌, if◌then◌else◌, filter, List, [], ◌∷◌, ◌++◌, map, refl, sym, ap, ◌∙◌, subst, IsTrue}
use Rattle.std.specs.List.{list_any}
use Rattle.type_terms.specs.Promised.Answers.{is_closed, is_undeclared, is_variable}
use Rattle.type_terms.specs.Promised.Erased.{erased_reference, erased_struct}
use Rattle.type_terms.specs.Promised.Label.{Label, Sort, of_type, of_const, of_lifetime, bool, value, static, adt, fn_ptr, principal, auto_trait, predicate, of_trait, param, placeholder, infer, canonical, bound}
use Rattle.type_terms.specs.Promised.Proofs.{Every, HasProof}
use Rattle.type_terms.specs.Promised.Trees.{Trees, none, tree, leaf, erase, erase_label, some_node}
use Rattle.type_terms.specs.Promised.Worlds.{World, CrateDecl, StructDecl, Reference}
use Rattle.type_terms.proofs.Fitting.{or-no, child-shut, next-shut}
use Rattle.type_terms.proofs.Made.{false-true}
use Rattle.candidate_model.proofs.ErasedCandidates.{without_lifetimes}
use Rattle.type_terms.specs.Promised.Questions.{FitKinds, filled_reference, HoldUnknownsAlone, yes, is_bound_place}
use Rattle.overlap_check.proofs.Filling.{filled-shut}
use Rattle.sessions.specs.Foreign.{is_unknown_term, is_foreign_term, are_own_terms}
use Rattle.sessions.specs.Promised.Together.{filled_references, SolutionOfAll, AreProved}
use Rattle.sessions.specs.Promised.OwnValues.{is_unknown, is_same_param, occurs_among, is_stray_place, is_foreign, are_own, HasNoParameter, SpeakOfOwn}
use Rattle.type_terms.proofs.Matching.{or-false-left as no-left}
use Rattle.type_terms.proofs.BooleanBasics.{or-swap as swapped}

-- ---- tests of nodes
pub some-either : (p q : Label → Bool) (t : Trees) → some_node (λ l. p l || q l) t ≡ (some_node p t || some_node q t)
some-either p q none = refl
some-either p q (tree l c o) =
    ap (λ b. (p l || q l) || b || some_node (λ m. p m || q m) o) (some-either p q c)
    ∙ ap (λ b. (p l || q l) || (some_node p c || some_node q c) || b) (some-either p q o)
    ∙ ap (λ b. b || (some_node p o || some_node q o)) (swapped (p l) (q l) (some_node p c) (some_node q c))
    ∙ swapped (p l || some_node p c) (q l || some_node q c) (some_node p o) (some_node q o)

-- the same test, label by label
pub some-same : (p q : Label → Bool) → ((l : Label) → p (erase_label l) ≡ q l) → (t : Trees) → some_node p (erase t) ≡ some_node q t
some-same p q e none = refl
some-same p q e (tree l c o) =
    ap (λ b. b || some_node p (erase c) || some_node p (erase o)) (e l) ∙ ap (λ b. q l || b || some_node p (erase o)) (some-same p q e c) ∙ ap (λ b. q l || some_node q c || b) (some-same p q e o)

-- ---- unknowns
unknown-label : (l : Label) → is_unknown (erase_label l) ≡ is_unknown_term l
unknown-label (fn_ptr n) = refl
unknown-label (principal n t) = refl
unknown-label (param of_lifetime i) = refl
unknown-label (param of_type i) = refl
unknown-label (param of_const i) = refl
unknown-label (placeholder of_lifetime i) = refl
unknown-label (placeholder of_type i) = refl
unknown-label (placeholder of_const i) = refl
unknown-label (infer of_lifetime i) = refl
unknown-label (infer of_type i) = refl
unknown-label (infer of_const i) = refl
unknown-label (canonical of_lifetime i) = refl
unknown-label (canonical of_type i) = refl
unknown-label (canonical of_const i) = refl
unknown-label (bound of_lifetime j i) = refl
unknown-label (bound of_type j i) = refl
unknown-label (bound of_const j i) = refl
unknown-label l = refl

pub unknown-erased : (t : Trees) → some_node is_unknown (erase t) ≡ some_node is_unknown_term t
unknown-erased t = some-same is_unknown is_unknown_term unknown-label t

-- ---- parameters
param-same : (m l : Label) → is_same_param (erase_label l) m ≡ is_same_param l m
param-same m (fn_ptr n) = refl
param-same m (principal n t) = refl
param-same m (param of_lifetime i) = refl
param-same m (param of_type i) = refl
param-same m (param of_const i) = refl
param-same m (placeholder of_lifetime i) = refl
param-same m (placeholder of_type i) = refl
param-same m (placeholder of_const i) = refl
param-same m (infer of_lifetime i) = refl
param-same m (infer of_type i) = refl
param-same m (infer of_const i) = refl
param-same m (canonical of_lifetime i) = refl
param-same m (canonical of_type i) = refl
param-same m (canonical of_const i) = refl
param-same m (bound of_lifetime j i) = refl
param-same m (bound of_type j i) = refl
param-same m (bound of_const j i) = refl
param-same m l = refl

stands-same : (rs : List Reference) (m : Label) → occurs_among (map erased_reference rs) m ≡ occurs_among rs m
stands-same [] m = refl
stands-same (r ∷ rs) m =
    ap (λ b. b || occurs_among (map erased_reference rs) m) (some-same (λ l. is_same_param l m) (λ l. is_same_param l m) (param-same m) r.args)
    ∙ ap (λ b. some_node (λ l. is_same_param l m) r.args || b) (stands-same rs m)

stray-same : (rs : List Reference) (l : Label) → is_stray_place (map erased_reference rs) l ≡ is_stray_place rs l
stray-same rs (placeholder s i) = ap not (stands-same rs (placeholder s i))
stray-same rs l = refl

module _ (U V : World) (declared : (l : Label) → is_undeclared U (erase_label l) ≡ is_undeclared V l) where
  foreign-label : (rs : List Reference) (l : Label) → is_foreign U (map erased_reference rs) (erase_label l) ≡ is_foreign_term V rs l
  foreign-label rs l = ap (λ b. b || is_stray_place (map erased_reference rs) (erase_label l)) (declared l) ∙ ap (λ b. is_undeclared V l || b) (stray-same rs (erase_label l))

  pub own-erased : (rs : List Reference) (ts : List Trees) → are_own U (map erased_reference rs) (map erase ts) ≡ are_own_terms V rs ts
  own-erased rs [] = refl
  own-erased rs (t ∷ ts) =
      ap (λ b. not b && are_own U (map erased_reference rs) (map erase ts)) (some-same (is_foreign U (map erased_reference rs)) (is_foreign_term V rs) (foreign-label rs) t)
      ∙ ap (λ b. not (some_node (is_foreign_term V rs) t) && b) (own-erased rs ts)

-- ---- names
named-same : (s : ℕ) (xs : List StructDecl) → list_any (λ (x : StructDecl). true) (filter (λ x. x.name == s) (map erased_struct xs)) ≡ list_any (λ (x : StructDecl). true) (filter (λ x. x.name == s) xs)
named-same s [] = refl
named-same s (x ∷ xs) = by (x.name == s) (named-same s xs)
  where
    by : (b : Bool) → list_any (λ (y : StructDecl). true) (filter (λ y. y.name == s) (map erased_struct xs)) ≡ list_any (λ (y : StructDecl). true) (filter (λ y. y.name == s) xs)
        → list_any (λ (y : StructDecl). true) (if b then erased_struct x ∷ filter (λ y. y.name == s) (map erased_struct xs) else filter (λ y. y.name == s) (map erased_struct xs))
        ≡ list_any (λ (y : StructDecl). true) (if b then x ∷ filter (λ y. y.name == s) xs else filter (λ y. y.name == s) xs)
    by true e = refl
    by false e = e

pub undeclared-erased : (V : World) (cs : List CrateDecl) (l : Label) → is_undeclared (without_lifetimes V cs) (erase_label l) ≡ is_undeclared V l
undeclared-erased V cs (adt s) = ap not (named-same s V.structs)
undeclared-erased V cs (fn_ptr n) = refl
undeclared-erased V cs (principal n t) = refl
undeclared-erased V cs (auto_trait t) = refl
undeclared-erased V cs (predicate (of_trait t)) = refl
undeclared-erased V cs (param of_lifetime i) = refl
undeclared-erased V cs (param of_type i) = refl
undeclared-erased V cs (param of_const i) = refl
undeclared-erased V cs (placeholder of_lifetime i) = refl
undeclared-erased V cs (placeholder of_type i) = refl
undeclared-erased V cs (placeholder of_const i) = refl
undeclared-erased V cs (infer of_lifetime i) = refl
undeclared-erased V cs (infer of_type i) = refl
undeclared-erased V cs (infer of_const i) = refl
undeclared-erased V cs (canonical of_lifetime i) = refl
undeclared-erased V cs (canonical of_type i) = refl
undeclared-erased V cs (canonical of_const i) = refl
undeclared-erased V cs (bound of_lifetime j i) = refl
undeclared-erased V cs (bound of_type j i) = refl
undeclared-erased V cs (bound of_const j i) = refl
undeclared-erased V cs l = refl

-- ---- a reference without parameters
-- what no label of one test has none of the other has
pub some-less : (p q : Label → Bool) → ((l : Label) → p l ≡ false → q l ≡ false) → (t : Trees) → some_node p t ≡ false → some_node q t ≡ false
some-less p q f none h = refl
some-less p q f (tree l c o) h =
    or-no (q l || some_node q c) (some_node q o)
    (or-no (q l) (some_node q c) (f l (no-left (p l) (some_node p c) (no-left (p l || some_node p c) (some_node p o) h))) (some-less p q f c (child-shut p l c o h)))
    (some-less p q f o (next-shut p l c o h))

no-right : (a b : Bool) → (a || b) ≡ false → b ≡ false
no-right false b h = h
no-right true b h = cc

pub both-false : (a b : Bool) → a ≡ false → b ≡ false → (a || b) ≡ false
both-false a b e f = or-no a b e f

no-same : (m l : Label) → is_bound_place l ≡ false → is_same_param l m ≡ false
no-same m (placeholder s i) h = cc
no-same m l h = refl

-- an unknown is the one variable that no binder binds
variable-label : (l : Label) → (is_unknown l || is_bound_place l) ≡ false → is_variable l ≡ false
variable-label (infer s i) h = cc
variable-label (canonical s i) h = cc
variable-label l h = refl

default : Sort → Trees
default of_type = leaf bool
default of_const = leaf (value 0)
default of_lifetime = leaf static

defaults : List Sort → List Trees
defaults [] = []
defaults (k ∷ ks) = default k ∷ defaults ks

defaults-fit : (ks : List Sort) → FitKinds ks (defaults ks)
unfolding defaults default
defaults-fit [] = tt
defaults-fit (of_type ∷ ks) = ((refl, refl), defaults-fit ks)
defaults-fit (of_const ∷ ks) = ((refl, refl), defaults-fit ks)
defaults-fit (of_lifetime ∷ ks) = ((refl, refl, refl), defaults-fit ks)

defaults-closed : (ks : List Sort) → Every (λ t. IsTrue (is_closed t)) (defaults ks)
unfolding defaults default
defaults-closed [] = tt
defaults-closed (of_type ∷ ks) = (refl, defaults-closed ks)
defaults-closed (of_const ∷ ks) = (refl, defaults-closed ks)
defaults-closed (of_lifetime ∷ ks) = (refl, defaults-closed ks)

-- no parameter stands in references without parameters
none-stands : (rs : List Reference) → Every HasNoParameter rs → (m : Label) → occurs_among rs m ≡ false
none-stands [] alone m = refl
none-stands (r ∷ rs) alone m =
    both-false (some_node (λ l. is_same_param l m) r.args) (occurs_among rs m) (some-less is_bound_place (λ l. is_same_param l m) (no-same m) r.args alone.0) (none-stands rs alone.1 m)

-- what is unknown in none of them stays as it is
shut-in : (r : Reference) → HasNoParameter r → some_node is_unknown r.args ≡ false → some_node is_variable r.args ≡ false
shut-in r alone e = some-less (λ l. is_unknown l || is_bound_place l) is_variable variable-label r.args (some-either is_unknown is_bound_place r.args ∙ both-false (some_node is_unknown r.args) (some_node is_bound_place r.args) e alone)

all-same-filled : (ks : List Sort) (ts us : List Trees) (rs : List Reference) → Every HasNoParameter rs → list_any (λ (r : Reference). some_node is_unknown r.args) rs ≡ false → filled_references ks ts rs ≡ filled_references ks us rs
all-same-filled ks ts us [] alone e = refl
all-same-filled ks ts us (r ∷ rs) alone e =
    let shut = shut-in r alone.0 (no-left (some_node is_unknown r.args) (list_any (λ (x : Reference). some_node is_unknown x.args) rs) e) in
    ap (λ z. (let x : Reference = record { trait = r.trait; args = z } in x) ∷ filled_references ks ts rs) (filled-shut ks ts r.args shut ∙ sym (filled-shut ks us r.args shut))
    ∙ ap (λ xs. filled_reference ks us r ∷ xs) (all-same-filled ks ts us rs alone.1 (no-right (some_node is_unknown r.args) (list_any (λ (x : Reference). some_node is_unknown x.args) rs) e))

module _ (V : World) (rs : List Reference) (alone : Every HasNoParameter rs) where
  own-label : (l : Label) → is_foreign V rs l ≡ false → is_bound_place l ≡ false
  own-label (infer s i) h = refl
  own-label (placeholder s i) h = absurd (false-true (sym h ∙ ap not (none-stands rs alone (placeholder s i))))
  own-label l h = no-right (is_undeclared V l) (is_bound_place l) h

  own-each : (ts : List Trees) → are_own V rs ts ≡ true → HoldUnknownsAlone ts
  own-each [] h = tt
  own-each (t ∷ ts) h =
      let x = both (not (some_node (is_foreign V rs) t)) (are_own V rs ts) h in
      (some-less (is_foreign V rs) is_bound_place own-label t (not-false (some_node (is_foreign V rs) t) x.0), own-each ts x.1)
    where
      both : (a b : Bool) → (a && b) ≡ true → (a ≡ true) × (b ≡ true)
      both true b h = (refl, h)
      both false b h = cc

      not-false : (a : Bool) → not a ≡ true → a ≡ false
      not-false false h = refl
      not-false true h = cc

  nothing-behind : (xs : List Reference) → xs ++ [] ≡ xs
  nothing-behind [] = refl
  nothing-behind (x ∷ xs) = ap (λ ys. x ∷ ys) (nothing-behind xs)

  -- what is answered yes without where-clauses has a solution
  pub solved : (ks : List Sort) (ts : List Trees) → AreProved V ks [] rs (yes ts) → SpeakOfOwn V [] rs ts → SolutionOfAll (HasProof V []) ks rs
  solved ks ts y own = by (list_any (λ (r : Reference). some_node is_unknown r.args) rs) refl
    where
      by : (b : Bool) → list_any (λ (r : Reference). some_node is_unknown r.args) rs ≡ b → SolutionOfAll (HasProof V []) ks rs
      by true e = y.2 (own-each ts (subst (λ xs. are_own V xs ts ≡ true) (nothing-behind rs) (own e)))
      by false e = record {
        values = defaults ks;
        fitting = defaults-fit ks;
        closed = defaults-closed ks;
        proved = subst (Every (HasProof V [])) (all-same-filled ks ts (defaults ks) rs alone e) y.1;
      }
