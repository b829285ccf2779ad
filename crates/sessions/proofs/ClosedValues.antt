-- The solution that gives a closed term to each unknown without value.
use Rattle.std.proofs.Common.{◌≡◌, ◌||◌, ℕ, zero, Bool, true, false, not, List, [], ◌∷◌, map, refl, sym, ap, IsTrue}
use Rattle.type_terms.specs.Promised.Label.{Label, Sort, of_type, of_const, of_lifetime, bool, char, value, static, fn_ptr, principal, param, placeholder, infer, canonical, bound}
use Rattle.type_terms.specs.Promised.Trees.{Trees, none, tree, leaf, erase, erase_label, sort_of, some_node}
use Rattle.type_terms.specs.Promised.Handles.{Entry}
use Rattle.type_terms.specs.Promised.Proofs.{Every}
use Rattle.type_terms.specs.Promised.Answers.{is_open, is_closed}
use Rattle.type_terms.proofs.Fitting.{or-no, child-shut, next-shut}
use Rattle.type_terms.proofs.Made.{false-true}
use Rattle.infer_table.specs.Content.{Table, content, Ready, IsProper}
use Rattle.infer_table.specs.Covers.{AreKnown}
use Rattle.infer_table.specs.Solutions.{Assignment, Binding, HasValues, IsSorted, Solves, tree_of, instance, resolved}
use Rattle.infer_table.proofs.ContentFacts.{valued}
use Rattle.infer_table.proofs.EquationFacts.{solved-sorted}
use Rattle.infer_table.proofs.OccurFacts.{lifetime-unbound}
use Rattle.infer_table.proofs.SolutionLaws.{resolved-unbound}
use Rattle.infer_table.proofs.SolvableLaws.{completed, instance-completed, tidy-completion}
use Rattle.candidate_model.specs.Facts.{is_unerased}
use Rattle.type_terms.specs.Promised.Questions.{FitKinds, filled, is_bound_place}
use Rattle.sessions.specs.Proving.{is_bound_term}
use Rattle.sessions.specs.Tables.{count_of}
use Rattle.sessions.specs.Values.{unknowns_of}
use Rattle.sessions.proofs.Filling.{node, values-fit-kinds, filled-is}
use Rattle.sessions.proofs.Itself.{tidied}
use Rattle.type_terms.proofs.Matching.{or-false-left as no-left}

-- ---- closed terms for unknowns
-- one for all types, and one for all constants
abbrev pub constant : (ty ct : Label) → Assignment
constant ty ct of_type v = (ty, none)
constant ty ct of_const v = (ct, none)
constant ty ct of_lifetime v = (static, none)

-- they are of their kinds, without anything open
pub record IsGround (ty ct : Label) : Type 0 where
  pub type_sorted : sort_of ty ≡ of_type
  pub const_sorted : sort_of ct ≡ of_const
  pub type_plain : is_unerased ty ≡ false
  pub const_plain : is_unerased ct ≡ false
  pub type_shut : is_open ty ≡ false
  pub const_shut : is_open ct ≡ false

pub bools-are : IsGround bool (value 0)
bools-are = record { type_sorted = refl; const_sorted = refl; type_plain = refl; const_plain = refl; type_shut = refl; const_shut = refl }

pub chars-are : IsGround char (value 1)
chars-are = record { type_sorted = refl; const_sorted = refl; type_plain = refl; const_plain = refl; type_shut = refl; const_shut = refl }

-- where no type and no constant is bound, terms are written up to lifetimes once these are erased
pub label-plain : (l : Label) → is_bound_term l ≡ false → is_unerased (erase_label l) ≡ false
label-plain (fn_ptr n) h = refl
label-plain (principal n t) h = refl
label-plain (param of_lifetime i) h = refl
label-plain (param of_type i) h = refl
label-plain (param of_const i) h = refl
label-plain (placeholder of_lifetime i) h = refl
label-plain (placeholder of_type i) h = refl
label-plain (placeholder of_const i) h = refl
label-plain (infer of_lifetime i) h = refl
label-plain (infer of_type i) h = refl
label-plain (infer of_const i) h = refl
label-plain (canonical of_lifetime i) h = refl
label-plain (canonical of_type i) h = absurd (false-true (sym h))
label-plain (canonical of_const i) h = absurd (false-true (sym h))
label-plain (bound of_lifetime j i) h = refl
label-plain (bound of_type j i) h = absurd (false-true (sym h))
label-plain (bound of_const j i) h = absurd (false-true (sym h))
label-plain l h = refl

-- a leaf without such a label
leaf-shut : (P : Label → Bool) (l : Label) (rest : Bool) → P l ≡ false → rest ≡ false → (P l || false || rest) ≡ false
leaf-shut P l rest e h = or-no (P l || false) rest (or-no (P l) false e refl) h

-- with closed terms for its unknowns it is
module _ (ty ct : Label) (is : IsGround ty ct) where
  pub plain-ground : (t : Trees) → some_node is_bound_term t ≡ false → some_node is_unerased (instance (constant ty ct) t) ≡ false
  plain-ground none h = refl
  plain-ground (tree (infer of_type v) c o) h = leaf-shut is_unerased ty (some_node is_unerased (instance (constant ty ct) o)) is.type_plain (plain-ground o (next-shut is_bound_term (infer of_type v) c o h))
  plain-ground (tree (infer of_const v) c o) h = leaf-shut is_unerased ct (some_node is_unerased (instance (constant ty ct) o)) is.const_plain (plain-ground o (next-shut is_bound_term (infer of_const v) c o h))
  plain-ground (tree l c o) h =
      or-no (is_unerased (erase_label l) || some_node is_unerased (instance (constant ty ct) c)) (some_node is_unerased (instance (constant ty ct) o))
      (or-no (is_unerased (erase_label l)) (some_node is_unerased (instance (constant ty ct) c))
      (label-plain l (no-left (is_bound_term l) (some_node is_bound_term c) (no-left (is_bound_term l || some_node is_bound_term c) (some_node is_bound_term o) h))) (plain-ground c (child-shut is_bound_term l c o h)))
      (plain-ground o (next-shut is_bound_term l c o h))

-- ---- what holds unknowns alone is closed then
abbrev IsNoUnknown : Label → Type 0
IsNoUnknown (infer of_type i) = ⊥
IsNoUnknown (infer of_const i) = ⊥
IsNoUnknown l = Unit {0}

label-shut : (l : Label) → is_bound_place (erase_label l) ≡ false → IsNoUnknown l → is_open (erase_label l) ≡ false
label-shut (fn_ptr n) h u = refl
label-shut (principal n t) h u = refl
label-shut (param of_lifetime i) h u = refl
label-shut (param of_type i) h u = h
label-shut (param of_const i) h u = h
label-shut (placeholder of_lifetime i) h u = refl
label-shut (placeholder of_type i) h u = h
label-shut (placeholder of_const i) h u = h
label-shut (infer of_lifetime i) h u = refl
label-shut (infer of_type i) h u = absurd u
label-shut (infer of_const i) h u = absurd u
label-shut (canonical of_lifetime i) h u = refl
label-shut (canonical of_type i) h u = h
label-shut (canonical of_const i) h u = h
label-shut (bound of_lifetime j i) h u = refl
label-shut (bound of_type j i) h u = h
label-shut (bound of_const j i) h u = h
label-shut l h u = refl

module _ (ty ct : Label) (is : IsGround ty ct) where
  shut-ground : (t : Trees) → some_node is_bound_place (erase t) ≡ false → some_node is_open (instance (constant ty ct) t) ≡ false
  shut-ground none h = refl
  shut-ground (tree (infer of_type v) c o) h =
      leaf-shut is_open ty (some_node is_open (instance (constant ty ct) o)) is.type_shut (shut-ground o (next-shut is_bound_place (infer of_type v) (erase c) (erase o) h))
  shut-ground (tree (infer of_const v) c o) h =
      leaf-shut is_open ct (some_node is_open (instance (constant ty ct) o)) is.const_shut (shut-ground o (next-shut is_bound_place (infer of_const v) (erase c) (erase o) h))
  shut-ground (tree l c o) h =
      or-no (is_open (erase_label l) || some_node is_open (instance (constant ty ct) c)) (some_node is_open (instance (constant ty ct) o))
      (or-no (is_open (erase_label l)) (some_node is_open (instance (constant ty ct) c))
      (label-shut l
      (no-left (is_bound_place (erase_label l)) (some_node is_bound_place (erase c)) (no-left (is_bound_place (erase_label l) || some_node is_bound_place (erase c)) (some_node is_bound_place (erase o)) h))
      tt)
      (shut-ground c (child-shut is_bound_place (erase_label l) (erase c) (erase o) h)))
      (shut-ground o (next-shut is_bound_place (erase_label l) (erase c) (erase o) h))

  pub closed-each : (bs : List Binding) (us : List Trees) → Every (λ t. some_node is_bound_place t ≡ false) (map (λ u. erase (resolved bs u)) us)
      → Every (λ t. IsTrue (is_closed t)) (map (λ u. instance (constant ty ct) (resolved bs u)) us)
  closed-each bs [] h = tt
  closed-each bs (u ∷ us) h = (ap not (shut-ground (resolved bs u) h.0), closed-each bs us h.1)

-- ---- a term that reads alike with either holds no unknowns
abbrev child-of : Trees → Trees
child-of none = none
child-of (tree l c o) = c

abbrev next-of : Trees → Trees
next-of none = none
next-of (tree l c o) = o

abbrev is-of-the-first : Trees → Bool
is-of-the-first (tree bool c o) = true
is-of-the-first (tree (value zero) c o) = true
is-of-the-first t = false

pub alike-shut : (t : Trees) → instance (constant bool (value 0)) t ≡ instance (constant char (value 1)) t → erase t ≡ instance (constant bool (value 0)) t
alike-shut none e = refl
alike-shut (tree (infer of_type v) c o) e = absurd (false-true (sym (ap is-of-the-first e)))
alike-shut (tree (infer of_const v) c o) e = absurd (false-true (sym (ap is-of-the-first e)))
alike-shut (tree l c o) e = node refl (alike-shut c (ap child-of e)) (alike-shut o (ap next-of e))

abbrev first-of : List Trees → Trees
first-of [] = none
first-of (t ∷ ts) = t

abbrev rest-of : List Trees → List Trees
rest-of [] = []
rest-of (t ∷ ts) = ts

both : {x y : Trees} {xs ys : List Trees} → x ≡ y → xs ≡ ys → x ∷ xs ≡ y ∷ ys
both p q = cc

pub alike-each : (bs : List Binding) (us : List Trees)
    → map (λ u. instance (constant bool (value 0)) (resolved bs u)) us ≡ map (λ u. instance (constant char (value 1)) (resolved bs u)) us
    → map (λ u. erase (resolved bs u)) us ≡ map (λ u. instance (constant bool (value 0)) (resolved bs u)) us
alike-each bs [] e = refl
alike-each bs (u ∷ us) e = both (alike-shut (resolved bs u) (ap first-of e)) (alike-each bs us (ap rest-of e))

module _ (es : List Entry) (t : Table) (ready : Ready es t) (ty ct : Label) (is : IsGround ty ct) where
  constant-sorted : IsSorted (constant ty ct)
  constant-sorted of_type v = is.type_sorted
  constant-sorted of_const v = is.const_sorted
  constant-sorted of_lifetime v = refl

  -- the solution
  abbrev pub closing : Assignment
  closing = completed (content es t.values) (constant ty ct)

  pub closing-solves : Solves closing (content es t.values)
  closing-solves = (tidy-completion (content es t.values) (constant ty ct) (tidied es t ready) constant-sorted).solves

  pub closing-reads : (x : Trees) → IsProper x → instance closing x ≡ instance (constant ty ct) (resolved (content es t.values) x)
  closing-reads x p = instance-completed (content es t.values) (constant ty ct) (tidied es t ready) constant-sorted x p

  -- what it gives for the unknowns of a question
  abbrev pub closed_value : Trees → Trees
  closed_value u = instance (constant ty ct) (resolved (content es t.values) u)

  sorted : IsSorted closing
  sorted = solved-sorted closing (content es t.values) closing-solves

  gives : (k : Sort) (v : ℕ) → HasValues k → closed_value (leaf (infer k v)) ≡ tree_of (closing k v)
  gives of_type v h = sym (closing-reads (leaf (infer of_type v)) (refl, tt))
  gives of_const v h = sym (closing-reads (leaf (infer of_const v)) (refl, tt))
  gives of_lifetime v h = absurd h

  lifetime-is : (v : ℕ) → closed_value (leaf (infer of_lifetime v)) ≡ leaf static
  lifetime-is v = ap (instance (constant ty ct)) (resolved-unbound (content es t.values) of_lifetime v (lifetime-unbound (content es t.values) v (valued es t.values)))

  pub closed-fit : (ks : List Sort) → FitKinds ks (map closed_value (unknowns_of ks))
  closed-fit ks = values-fit-kinds closed_value closing sorted gives lifetime-is ks

  pub closed-fill : (ks : List Sort) (x : Trees) → IsProper x → AreKnown (λ s. count_of s ks) x → filled ks (map closed_value (unknowns_of ks)) (erase x) ≡ instance closing x
  closed-fill ks x p k = filled-is closed_value closing sorted gives lifetime-is ks x p k
