-- The rule of an impl that concludes a solution is the impl's candidate.
use Rattle.std.proofs.Common.{◌≡◌, ℕ, zero, suc, ◌+◌, Bool, true, false, not, ◌&&◌, ◌||◌, ◌==◌, if◌then◌else◌, List, [], ◌∷◌, map, length, ◌⊎◌, inl, inr, refl, sym, ◌∙◌, ap, subst, Some, arith}
use Rattle.std.specs.List.{flat_map, list_all}
use Rattle.type_terms.specs.Promised.Label.{Label, Sort, of_type, of_const, of_lifetime, param}
use Rattle.type_terms.specs.Promised.Label.{never}
use Rattle.type_terms.specs.Promised.Trees.{Trees, none, tree, leaf, ◌+++◌, IsA, Fits, is_sort, nth, instantiate, some_node, erase_label}
use Rattle.type_terms.specs.Trees.{is_a, first_of, standing_at, arguments_from, arguments}
use Rattle.type_terms.specs.Promised.Worlds.{World, Reference, StructDecl, TraitDecl, ImplDecl, with_args, all_with_args}
use Rattle.type_terms.specs.Promised.Rules.{Rule, impl_rules, same_head, is_coinductive}
use Rattle.type_terms.specs.Codes.{same_label, numbers}
use Rattle.type_terms.specs.Promised.Proofs.{In}
use Rattle.type_terms.specs.Promised.Answers.{is_closed, is_open}
use Rattle.type_terms.proofs.Members.{here, there, in-nothing, in-cases, in-flat, self-number, same-number}
use Rattle.type_terms.proofs.Fitting.{ByImpl, impl-rule, closed-arguments}
use Rattle.type_terms.proofs.NoHolds.{member-each}
use Rattle.type_terms.proofs.Walking.{left, right, or-cases}
use Rattle.type_terms.specs.Made.{terms}
use Rattle.type_terms.specs.Made.{is_made}
use Rattle.infer_table.specs.declared.canonical.CanonicalVarKind.TheVariants.{Ty, Const, Region}
use Rattle.goal_evaluator.specs.Lists.{Every, SomeOf}
use Rattle.goal_evaluator.specs.Instances.{read_with, put_in}
use Rattle.goal_evaluator.specs.Content.{Values, given, fits, fits_kind}
use Rattle.goal_evaluator.specs.FrameTables.{Equation}
use Rattle.candidate_model.specs.Declared.{is_declared_leaf, is_counted, IsDeclared, are_terms, are_references, is_declared_view}
use Rattle.candidate_model.specs.Slots.{as_slots}
use Rattle.candidate_model.specs.Determined.{ImplsAreDetermined}
use Rattle.candidate_model.specs.Asking.{GoalOverKinds, self_of}
use Rattle.declarations.specs.Apart.{are_apart}
use Rattle.candidate_model.proofs.Apart.{instances-meet}
use Rattle.goal_evaluator.specs.Variables.{is_variable_over}
use Rattle.candidate_model.specs.Candidates.{Candidate, premise, all_equal, is_this_param, kind_of_param, kinds_of_params, moved, rules_behind, by_the_impl, is_relevant_to, can_match, by_impls}
use Rattle.candidate_model.specs.Solver.{IsSolution}
use Rattle.candidate_model.specs.Cover.{slots, nested_at, SolvesEquations}
use Rattle.candidate_model.proofs.Reading.{IsOne, begins, read_reference}
use Rattle.candidate_model.proofs.Agreeing.{own-read}
use Rattle.candidate_model.proofs.Headers.{as_list, behind-read}
use Rattle.candidate_model.proofs.ImplSlots.{slots-again, own-slots-read}
use Rattle.candidate_model.proofs.Facts.{same-numbers-self}
use Rattle.candidate_model.proofs.Supers.{Proved, open-none}
use Rattle.type_terms.proofs.BooleanBasics.{true-false}

-- ---- sorts
same-sort : (k s : Sort) → is_sort k s ≡ true → k ≡ s
same-sort of_type of_type e = refl
same-sort of_const of_const e = refl
same-sort of_lifetime of_lifetime e = refl
same-sort of_type of_const e = absurd (true-false (sym e))
same-sort of_type of_lifetime e = absurd (true-false (sym e))
same-sort of_const of_type e = absurd (true-false (sym e))
same-sort of_const of_lifetime e = absurd (true-false (sym e))
same-sort of_lifetime of_type e = absurd (true-false (sym e))
same-sort of_lifetime of_const e = absurd (true-false (sym e))

number-is : (x y : ℕ) → (x == y) ≡ true → x ≡ y
number-is x y e = same-number x y e

-- what fits is of the sorts that stand there
pub fits-sorted : (A t : Trees) → Fits A t → (s : Sort) (j : ℕ) → some_node (is_this_param s j) t ≡ true → IsA s (nth A j)
fits-sorted A none f s j e = absurd (true-false (sym e))
fits-sorted A (tree (param k i) c o) f s j e = by (or-cases ((is_sort s k && (j == i)) || some_node (is_this_param s j) c) (some_node (is_this_param s j) o) e) (λ g. fits-sorted A o f.2 s j g)
  where
    child : some_node (is_this_param s j) c ≡ true → ⊥
    child g = true-false (sym (sym (ap (some_node (is_this_param s j)) f.1) ∙ g))

    at : (is_sort s k && (j == i)) ≡ true → IsA s (nth A j)
    at g = subst (λ z. IsA z (nth A j)) (sym (same-sort s k (left (is_sort s k) (j == i) g))) (subst (λ z. IsA k (nth A z)) (sym (number-is j i (right (is_sort s k) (j == i) g))) f.0)

    by : (((is_sort s k && (j == i)) || some_node (is_this_param s j) c) ≡ true) ⊎ (some_node (is_this_param s j) o ≡ true) → (some_node (is_this_param s j) o ≡ true → IsA s (nth A j)) → IsA s (nth A j)
    by (inl g) go = elim (or-cases (is_sort s k && (j == i)) (some_node (is_this_param s j) c) g) [ inl x ↦ at x | inr y ↦ absurd (child y) ]
    by (inr g) go = go g
fits-sorted A (tree l c o) f s j e =
    elim (or-cases (some_node (is_this_param s j) c) (some_node (is_this_param s j) o) e) [ inl x ↦ fits-sorted A c f.0 s j x | inr y ↦ fits-sorted A o f.1 s j y ]

-- ---- the arguments that are read off
standing-one : (i : ℕ) (p t : Trees) → (standing_at i p t ≡ none) ⊎ IsOne (standing_at i p t)
standing-one i none t = inl refl
standing-one i (tree l c o) none = inl refl
standing-one i (tree (param s j) pc po) (tree m c o) = by (i == j) (standing-one i po o)
  where
    by : (b : Bool) → (standing_at i po o ≡ none) ⊎ IsOne (standing_at i po o) → ((if b then tree m c none else standing_at i po o) ≡ none) ⊎ IsOne (if b then tree m c none else standing_at i po o)
    by true x = inr (record { label = m; children = c; is = refl })
    by false x = x
standing-one i (tree l pc po) (tree m c o) = by (standing_at i pc c) (standing-one i pc c) (standing_at i po o) (standing-one i po o)
  where
    by : (x : Trees) → (x ≡ none) ⊎ IsOne x → (y : Trees) → (y ≡ none) ⊎ IsOne y → (first_of x y ≡ none) ⊎ IsOne (first_of x y)
    by none q y r = r
    by (tree n d p) q y r = q

argument-one : (i : ℕ) (p t : Trees) → IsOne (first_of (standing_at i p t) (leaf never))
argument-one i p t = by (standing_at i p t) (standing-one i p t)
  where
    by : (x : Trees) → (x ≡ none) ⊎ IsOne x → IsOne (first_of x (leaf never))
    by none q = record { label = never; children = none; is = refl }
    by (tree n d o) (inl q) = absurd (no q)
      where
        no : tree n d o ≡ none → ⊥
        no e = cc
    by (tree n d o) (inr q) = q

type-test : (t : Trees) → IsA of_type t → is_a of_type t ≡ true
type-test none a = absurd a
type-test (tree l c none) a = ap (λ s. is_sort s of_type && true) a.0
type-test (tree l c (tree m d o)) a = absurd (no a.1)
  where
    no : tree m d o ≡ none → ⊥
    no e = cc

const-test : (t : Trees) → IsA of_const t → is_a of_const t ≡ true
const-test none a = absurd a
const-test (tree l c none) a = ap (λ s. is_sort s of_const && true) a.0
const-test (tree l c (tree m d o)) a = absurd (no a.1)
  where
    no : tree m d o ≡ none → ⊥
    no e = cc

kind-fits : (h : Trees) (i : ℕ) (x : Trees) → ((s : Sort) → some_node (is_this_param s i) h ≡ true → IsA s x) → fits_kind (Some (kind_of_param h i)) x ≡ true
kind-fits h i x f = by (some_node (is_this_param of_type i) h) refl (some_node (is_this_param of_const i) h) refl
  where
    by : (a : Bool) → some_node (is_this_param of_type i) h ≡ a → (b : Bool) → some_node (is_this_param of_const i) h ≡ b → fits_kind (Some (if a then Ty else if b then Const else Region)) x ≡ true
    by true p b q = type-test x (f of_type p)
    by false p true q = const-test x (f of_const q)
    by false p false q = refl

arguments-fit : (h t : Trees) (k n : ℕ) → ((s : Sort) (j : ℕ) → some_node (is_this_param s (k + j)) h ≡ true → IsA s (nth (arguments_from k n h t) j)) → fits (map Some (kinds_of_params h k n)) (as_list (arguments_from k n h t)) ≡ true
arguments-fit h t k zero f = refl
arguments-fit h t k (suc n) f = by (first_of (standing_at k h t) (leaf never)) (argument-one k h t) f (λ g. arguments-fit h t (suc k) n g)
  where
    zero-on : (i : ℕ) → i + zero ≡ i
    zero-on i = omega arith

    suc-on : (i j : ℕ) → suc i + j ≡ i + suc j
    suc-on i j = omega arith

    both : (a b : Bool) → a ≡ true → b ≡ true → a && b ≡ true
    both a b p q = rw (p, q) refl

    by-one : (l : Label) (c : Trees) → ((s : Sort) (j : ℕ) → some_node (is_this_param s (k + j)) h ≡ true → IsA s (nth (tree l c none +++ arguments_from (suc k) n h t) j))
        → (((s : Sort) (j : ℕ) → some_node (is_this_param s (suc k + j)) h ≡ true → IsA s (nth (arguments_from (suc k) n h t) j)) → fits (map Some (kinds_of_params h (suc k) n)) (as_list (arguments_from (suc k) n h t)) ≡ true)
        → fits (map Some (kinds_of_params h k (suc n))) (as_list (tree l c none +++ arguments_from (suc k) n h t)) ≡ true
    by-one l c g go =
        both (fits_kind (Some (kind_of_param h k)) (tree l c none)) (fits (map Some (kinds_of_params h (suc k) n)) (as_list (arguments_from (suc k) n h t)))
        (kind-fits h k (tree l c none) (λ s e. g s zero (ap (λ z. some_node (is_this_param s z) h) (zero-on k) ∙ e)))
        (go (λ s j e. g s (suc j) (ap (λ z. some_node (is_this_param s z) h) (sym (suc-on k j)) ∙ e)))

    by : (x : Trees) → IsOne x → ((s : Sort) (j : ℕ) → some_node (is_this_param s (k + j)) h ≡ true → IsA s (nth (x +++ arguments_from (suc k) n h t) j))
        → (((s : Sort) (j : ℕ) → some_node (is_this_param s (suc k + j)) h ≡ true → IsA s (nth (arguments_from (suc k) n h t) j)) → fits (map Some (kinds_of_params h (suc k) n)) (as_list (arguments_from (suc k) n h t)) ≡ true)
        → fits (map Some (kinds_of_params h k (suc n))) (as_list (x +++ arguments_from (suc k) n h t)) ≡ true
    by x one g go =
        subst (λ z. fits (map Some (kinds_of_params h k (suc n))) (as_list (z +++ arguments_from (suc k) n h t)) ≡ true) (sym one.is)
        (by-one one.label one.children (λ s j e. subst (λ z. IsA s (nth (z +++ arguments_from (suc k) n h t) j)) one.is (g s j e)) go)

arguments-counted : (h t : Trees) (k n : ℕ) → length (as_list (arguments_from k n h t)) ≡ n
arguments-counted h t k zero = refl
arguments-counted h t k (suc n) = by (first_of (standing_at k h t) (leaf never)) (argument-one k h t) (arguments-counted h t (suc k) n)
  where
    by : (x : Trees) → IsOne x → length (as_list (arguments_from (suc k) n h t)) ≡ n → length (as_list (x +++ arguments_from (suc k) n h t)) ≡ suc n
    by x one e = ap (λ z. length (as_list (z +++ arguments_from (suc k) n h t))) one.is ∙ ap suc e

-- ---- equations
-- lists of trees that are read as one are equal one by one
pub pairwise : (xs : List Trees) (x y : Trees) → read_with (given xs) x ≡ read_with (given xs) y → Every (λ (e : Equation). read_with (given xs) e.left.trees ≡ read_with (given xs) e.right.trees) (all_equal x y)
pairwise xs none none e = tt
pairwise xs none (tree m d p) e = let b = begins xs m d p in absurd (no b.label b.children (read_with (given xs) p) (e ∙ b.before))
  where
    no : (i : Label) (u w : Trees) → none ≡ tree i u w → ⊥
    no i u w q = cc
pairwise xs (tree l c o) none e = let b = begins xs l c o in absurd (no b.label b.children (read_with (given xs) o) (sym e ∙ b.before))
  where
    no : (i : Label) (u w : Trees) → none ≡ tree i u w → ⊥
    no i u w q = cc
pairwise xs (tree l c o) (tree m d p) e =
    let a = begins xs l c o in
    let b = begins xs m d p in
    let q = sym a.before ∙ e ∙ b.before in
    (a.alone ∙ first a.label a.children (read_with (given xs) o) b.label b.children (read_with (given xs) p) q ∙ sym b.alone, pairwise xs o p (second a.label a.children (read_with (given xs) o) b.label b.children (read_with (given xs) p) q))
  where
    first : (i : Label) (u w : Trees) (j : Label) (v z : Trees) → tree i u w ≡ tree j v z → tree i u none ≡ tree j v none
    first i u w j v z q = cc

    second : (i : Label) (u w : Trees) (j : Label) (v z : Trees) → tree i u w ≡ tree j v z → w ≡ z
    second i u w j v z q = cc

module _ (H : Reference → Type 0) (V : World) (declared : is_declared_view V ≡ true) (determined : ImplsAreDetermined V) (a : GoalOverKinds) (v : Values) (over : is_made (is_variable_over a.kinds) terms a.reference.args ≡ true) where
  abbrev xs : List Trees
  xs = slots a.kinds v []

  abbrev rx : Reference
  rx = read_reference xs a.reference

  impl-declared : (i : ImplDecl) → In i V.impls → (are_terms i.header.args ≡ true) × (are_references i.clauses ≡ true)
  impl-declared i j =
      let later = right (list_all (λ (x : StructDecl). list_all are_terms x.fields) V.structs) (list_all (λ (x : TraitDecl). are_references x.bounds) V.traits && list_all (λ (x : ImplDecl). are_terms x.header.args && are_references x.clauses) V.impls) declared in
      let impls = right (list_all (λ (x : TraitDecl). are_references x.bounds) V.traits) (list_all (λ (x : ImplDecl). are_terms x.header.args && are_references x.clauses) V.impls) later in
      let one = member-each (λ (x : ImplDecl). are_terms x.header.args && are_references x.clauses) V.impls i impls j in
      (left (are_terms i.header.args) (are_references i.clauses) one, right (are_terms i.header.args) (are_references i.clauses) one)

  impl-gives : (i : ImplDecl) (u : Rule) → In i V.impls → is_closed rx.args ≡ true → ByImpl rx i u → Every (Proved H) u.premises → SolvesEquations H a.kinds v (by_the_impl V a i)
  impl-gives i u j closed b ps = record {
    own = own;
    sorted = slots-again (kinds_of_params i.header.args zero i.params) (as_list A);
    equal = pairwise (slots a.kinds v own) a.reference.args (rules_behind (length a.kinds) i.header).args same_args;
    solves = each i.clauses (λ r k. k) (subst (λ (z : Rule). Every (Proved H) z.premises) (sym b.is-rule) ps);
  }
    where
      A : Trees
      A = arguments i.params i.header.args rx.args

      zero-plus : (k : ℕ) → 0 + k ≡ k
      zero-plus k = omega arith

      -- as slots have them
      own : List Trees
      own = as_slots (kinds_of_params i.header.args zero i.params) (as_list A)

      shut : some_node is_open A ≡ false
      shut = open-none A (closed-arguments i.params i.header.args rx.args closed)

      sorted : (s : Sort) (k : ℕ) → some_node (is_this_param s k) i.header.args ≡ true → IsA s (nth A k)
      sorted s k e = fits-sorted A i.header.args b.fitting s k e

      fitting : fits (map Some (kinds_of_params i.header.args zero i.params)) (as_list A) ≡ true
      fitting = arguments-fit i.header.args rx.args zero i.params (λ s k e. sorted s k (ap (λ z. some_node (is_this_param s z) i.header.args) (sym (zero-plus k)) ∙ e))

      read-as : (t : Trees) → IsDeclared t → ((s : Sort) (k : ℕ) → some_node (is_this_param s k) t ≡ true → some_node (is_this_param s k) i.header.args ≡ true)
          → read_with (given (slots a.kinds v own)) (put_in (moved (length a.kinds)) t) ≡ instantiate zero A t
      read-as t d st =
          own-slots-read a.kinds v.terms (as_list A) i.header.args i.params (arguments-counted i.header.args rx.args zero i.params) fitting t (left (is_made is_declared_leaf terms t) (not (some_node is_counted t)) d) st
          ∙ behind-read a.kinds v.terms A shut t d (λ s k e. sorted s k (st s k e))

      same_args : read_with (given (slots a.kinds v own)) a.reference.args ≡ read_with (given (slots a.kinds v own)) (put_in (moved (length a.kinds)) i.header.args)
      same_args =
          own-read a.kinds v.terms own a.reference.args over ∙ sym (own-read a.kinds v.terms [] a.reference.args over) ∙ sym (ap (λ (r : Reference). r.args) b.is-instance)
          ∙ sym (read-as i.header.args (impl-declared i j).0 (λ s k e. e))

      each : (rs : List Reference) → ((r : Reference) → In r rs → In r i.clauses) → Every (Proved H) (all_with_args A rs)
          → Every (λ n. IsSolution H (nested_at (slots a.kinds v own) n)) (map (premise a (is_coinductive V a.reference.trait)) (map (rules_behind (length a.kinds)) rs))
      each [] among e = tt
      each (r ∷ rs) among e =
          let is = read-as r.args (member-each (λ (q : Reference). are_terms q.args) i.clauses r (impl-declared i j).1 (among r (here r rs))) (λ s k f. determined i r j (among r (here r rs)) s k f) in
          let p = subst (λ z. Proved H (record { trait = r.trait; args = z })) (sym is) e.0 in
          (record { asks = refl; proper = refl; closed = p.0; proof = p.1 }, each rs (λ q k. among q (there q r rs k)) e.1)

  relevant : (l : Label) (c o : Trees) (i : ImplDecl) → self_of a ≡ tree (erase_label l) c o → rx.args ≡ tree (erase_label l) (read_with (given xs) c) (read_with (given xs) o) → (A : Trees) → with_args A i.header ≡ rx
      → ((i.header.trait == a.reference.trait) && can_match a.reference.args i.header.args) ≡ true
  relevant l c o i self read A is =
      both (i.header.trait == a.reference.trait) (can_match a.reference.args i.header.args) (ap (λ z. z == a.reference.trait) (ap (λ (r : Reference). r.trait) is) ∙ self-number a.reference.trait)
      (both (is_relevant_to (self_of a) i.header.args) (not (are_apart a.reference.args i.header.args)) (ap (λ t. is_relevant_to t i.header.args) self ∙ head i.header.args (ap (λ (r : Reference). r.args) is ∙ read))
      (instances-meet xs A a.reference.args i.header.args (ap (λ (r : Reference). r.args) is)))
    where
      both : (x y : Bool) → x ≡ true → y ≡ true → x && y ≡ true
      both x y p q = rw (p, q) refl

      label-is : (m n : Label) (x y z w : Trees) → tree m x y ≡ tree n z w → same_label n m ≡ true
      label-is m n x y z w e = let f : m ≡ n = cc in ap (same_label n) f ∙ same-numbers-self (numbers n)

      head : (h : Trees) → instantiate zero A h ≡ tree (erase_label l) (read_with (given xs) c) (read_with (given xs) o) → same_head (erase_label l) h ≡ true
      head none e = absurd (no e)
        where
          no : none ≡ tree (erase_label l) (read_with (given xs) c) (read_with (given xs) o) → ⊥
          no f = cc
      head (tree (param s k) d p) e = refl
      head (tree m d p) e = label-is m (erase_label l) _ _ _ _ e

  among-impls : (i : ImplDecl) (is : List ImplDecl) → In i is → ((i.header.trait == a.reference.trait) && can_match a.reference.args i.header.args) ≡ true → (P : Candidate → Type 0) → P (by_the_impl V a i) → SomeOf P (by_impls V a is)
  among-impls i [] j e P p = absurd (in-nothing i j)
  among-impls i (x ∷ is) j e P p = by ((x.header.trait == a.reference.trait) && can_match a.reference.args x.header.args) refl (in-cases i x is j) (λ k. among-impls i is k e P p)
    where
      by : (b : Bool) → ((x.header.trait == a.reference.trait) && can_match a.reference.args x.header.args) ≡ b → (x ≡ i) ⊎ In i is → (In i is → SomeOf P (by_impls V a is)) → SomeOf P (if b then by_the_impl V a x ∷ by_impls V a is else by_impls V a is)
      by true q (inl f) go = inl (subst (λ z. P (by_the_impl V a z)) (sym f) p)
      by true q (inr k) go = inr (go k)
      by false q (inl f) go = absurd (true-false (sym e ∙ ap (λ (z : ImplDecl). (z.header.trait == a.reference.trait) && can_match a.reference.args z.header.args) (sym f) ∙ q))
      by false q (inr k) go = go k

  -- the row of impls
  pub impl-row : (l : Label) (c o : Trees) → self_of a ≡ tree (erase_label l) c o → rx.args ≡ tree (erase_label l) (read_with (given xs) c) (read_with (given xs) o) → is_closed rx.args ≡ true
      → (u : Rule) → In u (flat_map (impl_rules rx) V.impls) → Every (Proved H) u.premises → SomeOf (SolvesEquations H a.kinds v) (by_impls V a V.impls)
  impl-row l c o self read closed u i ps =
      let m = in-flat (impl_rules rx) V.impls u i in
      let b = impl-rule rx m.0 u m.2 in
      among-impls m.0 V.impls m.1 (relevant l c o m.0 self read (arguments m.0.params m.0.header.args rx.args) b.is-instance) (SolvesEquations H a.kinds v) (impl-gives m.0 u m.1 closed b ps)
