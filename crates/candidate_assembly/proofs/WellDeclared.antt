-- Impls of declarations that are declared well can be candidates, where each parameter stands in the header.
use Rattle.std.proofs.Common.{◌≡◌, ◌<◌, ℕ, zero, suc, ◌+◌, arith, ◌==◌, Bool, true, false, cond, not, ◌&&◌, ◌||◌, if◌then◌else◌, List, [], ◌∷◌, map, length, Some, None, refl, sym, ◌∙◌, ap}
use Rattle.std.proofs.lemmas.Bool.Decides.{nat_tests}
use Rattle.std.specs.Prelude.{nat_lt}
use Rattle.std.specs.Option.{option_or}
use Rattle.std.specs.List.{list_all, slice_get}
use Rattle.type_terms.specs.Promised.Label.{Label, Sort, of_type, of_const, of_lifetime, bool, char, str, never, array, slice, tuple, dynamic, int, uint, adt, fn_ptr, ref, raw_pointer, param}
use Rattle.type_terms.specs.Promised.Trees.{Trees, none, tree, is_sort, some_node}
use Rattle.type_terms.specs.Promised.Worlds.{World, Reference, StructDecl, TraitDecl, ImplDecl}
use Rattle.type_terms.specs.Promised.Proofs.{In}
use Rattle.type_terms.proofs.Members.{here, there, not-both, same-number}
use Rattle.type_terms.specs.Made.{terms, is_made}
use Rattle.type_terms.specs.Promised.Handles.{Entry, trees_at}
use Rattle.term_folds.specs.Arguments.{sort_at, misfit, first_misfit}
use Rattle.term_folds.specs.declared.instantiate.InstantiateError.TheVariants.{ParamKind}
use Rattle.term_folds.specs.declared.predicate.TraitRef.{TraitRef}
use Rattle.declarations.specs.declared.items.GenericParamKind.{GenericParamKind}
use Rattle.declarations.specs.declared.items.GenericParamKind.TheVariants.{Lifetime, «Type» as TypeParam, Const}
use Rattle.declarations.specs.Applied.{sort_of_param, sorts_of, SpeaksOf}
use Rattle.declarations.specs.Heads.{begins_declared}
use Rattle.declarations.specs.Held.{ImplHeld}
use Rattle.declarations.specs.Items.{HeldImpl, reference_in, impl_in, written}
use Rattle.declarations.specs.Promised.Elaboration.{Each}
use Rattle.infer_table.specs.declared.canonical.CanonicalVarKind.{CanonicalVarKind}
use Rattle.infer_table.specs.declared.canonical.CanonicalVarKind.TheVariants.{Ty, Const as ConstVar, Region}
use Rattle.candidate_model.specs.Asking.{with_plain_head}
use Rattle.candidate_model.specs.Candidates.{is_this_param, kind_of_param, kinds_of_params}
use Rattle.candidate_model.specs.Declared.{is_declared_leaf, is_counted, are_terms, are_references, is_otherwise, is_unsorted}
use Rattle.candidate_model.specs.Determined.{ImplsAreDetermined}
use Rattle.infer_table.proofs.SolutionLaws.{is_sort-equal}
use Rattle.type_terms.proofs.Made.{left, right}
use Rattle.candidate_model.proofs.Headers.{child-some, next-some}
use Rattle.candidate_assembly.specs.Headers.{var_kind, StandInHeader, CanBeCandidate, WellDeclaredHaveCandidates}
use Rattle.type_terms.proofs.TermBasics.{sort-self as one-sort}
use Rattle.type_terms.proofs.NumberBasics.{number-self as same-itself, place-here, zero-first}
use Rattle.std.proofs.lemmas.Bool.{not-true, not-false}
use Rattle.type_terms.proofs.BooleanBasics.{left-false, right-false}
use Rattle.type_terms.proofs.TypeBasics.{some-is}
use Rattle.std.proofs.Math.Nat.{suc-add, add-suc}

-- ---- tests
pub is-less : (m n : ℕ) → nat_lt m n ≡ true → m < n
is-less m n h = grind (arith, nat_tests)

-- ---- nodes
-- a label that passes one test passes no test that no node passes
pub found : (p q : Label → Bool) (t : Trees) → some_node p t ≡ true → some_node q t ≡ false → (l : Label) × (p l ≡ true) × (q l ≡ false)
found p q none h g = absurd cc
found p q (tree l c o) h g = by (p l) refl (some_node p c) refl h (λ e. found p q c e qc) (λ e. found p q o e qo)
  where
    qc : some_node q c ≡ false
    qc = right-false (q l) (some_node q c) (left-false (q l || some_node q c) (some_node q o) g)

    qo : some_node q o ≡ false
    qo = right-false (q l || some_node q c) (some_node q o) g

    by : (x : Bool) → p l ≡ x → (y : Bool) → some_node p c ≡ y → (x || y || some_node p o) ≡ true
        → (some_node p c ≡ true → (m : Label) × (p m ≡ true) × (q m ≡ false)) → (some_node p o ≡ true → (m : Label) × (p m ≡ true) × (q m ≡ false)) → (m : Label) × (p m ≡ true) × (q m ≡ false)
    by true e y f k u v = (l, e, left-false (q l) (some_node q c) (left-false (q l || some_node q c) (some_node q o) g))
    by false e true f k u v = u f
    by false e false f k u v = v k

none-passes : (p q : Label → Bool) → ((l : Label) → p l ≡ true → q l ≡ true) → (t : Trees) → some_node q t ≡ false → some_node p t ≡ false
none-passes p q f t h = by (some_node p t) refl
  where
    by : (b : Bool) → some_node p t ≡ b → b ≡ false
    by true e = let m = found p q t e h in absurd (not-both (q m.0) (f m.0 m.1) m.2)
    by false e = refl

-- ---- parameters
pub label-of : (s : Sort) (i : ℕ) (l : Label) → is_this_param s i l ≡ true → l ≡ param s i
label-of s i (param r j) h =
    let first = is_sort-equal s r (left (is_sort s r) (i == j) h) in
    let second = same-number i j (right (is_sort s r) (i == j) h) in
    sym (ap (λ z. param z i) first ∙ ap (λ n. param r n) second)
label-of s i l h = absurd cc

pub itself : (s : Sort) (i : ℕ) → is_this_param s i (param s i) ≡ true
itself s i = ap (λ b. b && (i == i)) (one-sort s) ∙ same-itself i

-- the kind of a parameter of this sort
abbrev pub kind_for : Sort → CanonicalVarKind
kind_for of_type = Ty
kind_for of_const = ConstVar
kind_for of_lifetime = Region

sort-back : (k : GenericParamKind) (s : Sort) → var_kind k ≡ kind_for s → sort_of_param k ≡ s
sort-back Lifetime of_lifetime h = refl
sort-back TypeParam of_type h = refl
sort-back Const of_const h = refl
sort-back Lifetime of_type h = absurd cc
sort-back Lifetime of_const h = absurd cc
sort-back TypeParam of_lifetime h = absurd cc
sort-back TypeParam of_const h = absurd cc
sort-back Const of_lifetime h = absurd cc
sort-back Const of_type h = absurd cc

module _ (H : Trees) where
  -- a parameter that stands in the header with one sort has its kind
  pub kind-is : (s : Sort) (i : ℕ) → some_node (is_this_param s i) H ≡ true → some_node (is_otherwise s i) H ≡ false → kind_of_param H i ≡ kind_for s
  kind-is of_type i h g = ap (λ b. if b then Ty else if some_node (is_this_param of_const i) H then ConstVar else Region) h
  kind-is of_const i h g =
      ap (λ b. if b then Ty else if some_node (is_this_param of_const i) H then ConstVar else Region) (none-passes (is_this_param of_type i) (is_otherwise of_const i) types-are-other H g)
      ∙ ap (λ b. if b then ConstVar else Region) h
    where
      types-are-other : (l : Label) → is_this_param of_type i l ≡ true → is_otherwise of_const i l ≡ true
      types-are-other (param of_type j) k = k
      types-are-other (param of_const j) k = absurd cc
      types-are-other (param of_lifetime j) k = absurd cc
      types-are-other l k = absurd cc
  kind-is of_lifetime i h g =
      ap (λ b. if b then Ty else if some_node (is_this_param of_const i) H then ConstVar else Region) (none-passes (is_this_param of_type i) (is_otherwise of_lifetime i) types-are-other H g)
      ∙ ap (λ b. if b then ConstVar else Region) (none-passes (is_this_param of_const i) (is_otherwise of_lifetime i) consts-are-other H g)
    where
      types-are-other : (l : Label) → is_this_param of_type i l ≡ true → is_otherwise of_lifetime i l ≡ true
      types-are-other (param of_type j) k = k
      types-are-other (param of_const j) k = absurd cc
      types-are-other (param of_lifetime j) k = absurd cc
      types-are-other l k = absurd cc

      consts-are-other : (l : Label) → is_this_param of_const i l ≡ true → is_otherwise of_lifetime i l ≡ true
      consts-are-other (param of_const j) k = k
      consts-are-other (param of_type j) k = absurd cc
      consts-are-other (param of_lifetime j) k = absurd cc
      consts-are-other l k = absurd cc

  pub kinds-at : (k n i : ℕ) → i < n → slice_get (kinds_of_params H k n) i ≡ Some (kind_of_param H (k + i))
  kinds-at k zero i h = absurd (omega (arith, h))
  kinds-at k (suc n) zero h = ap (λ m. Some (kind_of_param H m)) (place-here k)
  kinds-at k (suc n) (suc i) h = kinds-at (suc k) n i (omega (arith, h)) ∙ ap (λ m. Some (kind_of_param H m)) (suc-add k i ∙ sym (add-suc k i))

  kind-back : (ps : List GenericParamKind) (i : ℕ) (s : Sort) → slice_get (map var_kind ps) i ≡ Some (kind_for s) → slice_get (map sort_of_param ps) i ≡ Some s
  kind-back [] i s h = absurd cc
  kind-back (p ∷ ps) zero s h = ap (λ z. Some z) (sort-back p s (some-is (var_kind p) (kind_for s) h))
  kind-back (p ∷ ps) (suc i) s h = kind-back ps i s h

  at-sorts : (A : Trees) (i : ℕ) → sort_at A i ≡ slice_get (sorts_of A) i
  at-sorts none i = refl
  at-sorts (tree l c o) zero = refl
  at-sorts (tree l c o) (suc i) = at-sorts o i

  module _ (ps : List GenericParamKind) (stand : map var_kind ps ≡ kinds_of_params H 0 (length ps)) (sorted : some_node (is_unsorted (length ps) H) H ≡ false) where
    -- what a parameter of the header stands for
    sort-of-param : (s : Sort) (i : ℕ) → some_node (is_this_param s i) H ≡ true → slice_get (map sort_of_param ps) i ≡ Some s
    sort-of-param s i h =
        let m = found (is_this_param s i) (is_unsorted (length ps) H) H h sorted in
        let other : is_unsorted (length ps) H (param s i) ≡ false = sym (ap (is_unsorted (length ps) H) (label-of s i m.0 m.1)) ∙ m.2 in
        let below : i < length ps = is-less i (length ps) (not-false (nat_lt i (length ps)) (left-false (not (nat_lt i (length ps))) (some_node (is_otherwise s i) H) other)) in
        let one : some_node (is_otherwise s i) H ≡ false = right-false (not (nat_lt i (length ps))) (some_node (is_otherwise s i) H) other in
        kind-back ps i s (ap (λ ks. slice_get ks i) stand ∙ kinds-at 0 (length ps) i below ∙ ap (λ n. Some (kind_of_param H n)) (zero-first i) ∙ ap (λ k. Some k) (kind-is s i h one))

    -- trees whose parameters all stand in the header
    fits : (A : Trees) → sorts_of A ≡ map sort_of_param ps → (t : Trees) → ((s : Sort) (i : ℕ) → some_node (is_this_param s i) t ≡ true → some_node (is_this_param s i) H ≡ true) → first_misfit A t ≡ None
    fits A e none f = refl
    fits A e (tree (param s i) c o) f =
        let here : sort_at A i ≡ Some s = at-sorts A i ∙ ap (λ l. slice_get l i) e ∙ sort-of-param s i (f s i (ap (λ b. b || some_node (is_this_param s i) c || some_node (is_this_param s i) o) (itself s i))) in
        ap (λ z. option_or (misfit s z) (first_misfit A o)) here ∙ ap (λ b. option_or (cond b None (Some ParamKind)) (first_misfit A o)) (one-sort s)
        ∙ fits A e o (λ r j h. f r j (next-some (is_this_param r j) (param s i) c o h))
    fits A e (tree l c o) f =
        ap (λ z. option_or z (first_misfit A o)) (fits A e c (λ r j h. f r j (child-some (is_this_param r j) l c o h)))
        ∙ fits A e o (λ r j h. f r j (next-some (is_this_param r j) l c o h))

    speaks : (t : Trees) → ((s : Sort) (i : ℕ) → some_node (is_this_param s i) t ≡ true → some_node (is_this_param s i) H ≡ true) → SpeaksOf (map sort_of_param ps) t
    speaks t f A e = fits A e t f

-- ---- heads
plain-head : (H : Trees) → begins_declared H ≡ true → some_node is_counted H ≡ false → with_plain_head H ≡ H
plain-head none h g = refl
plain-head (tree bool c o) h g = refl
plain-head (tree char c o) h g = refl
plain-head (tree str c o) h g = refl
plain-head (tree never c o) h g = refl
plain-head (tree array c o) h g = refl
plain-head (tree slice c o) h g = refl
plain-head (tree tuple c o) h g = refl
plain-head (tree dynamic c o) h g = refl
plain-head (tree (int n) c o) h g = refl
plain-head (tree (uint n) c o) h g = refl
plain-head (tree (adt n) c o) h g = refl
plain-head (tree (fn_ptr zero) c o) h g = refl
plain-head (tree (fn_ptr (suc n)) c o) h g = absurd cc
plain-head (tree (ref b) c o) h g = refl
plain-head (tree (raw_pointer b) c o) h g = refl
plain-head (tree (param of_type i) c o) h g = refl
plain-head (tree l c o) h g = absurd cc

-- ---- impls
module _ (es : List Entry) (V : World) (determined : ImplsAreDetermined V) where
  clauses-speak : (ps : List GenericParamKind) (H : Trees) → map var_kind ps ≡ kinds_of_params H 0 (length ps) → some_node (is_unsorted (length ps) H) H ≡ false
      → (rs : List TraitRef) → ((r : Reference) → In r (map (reference_in es) rs) → (s : Sort) (j : ℕ) → some_node (is_this_param s j) r.args ≡ true → some_node (is_this_param s j) H ≡ true)
      → Each (λ (r : TraitRef). SpeaksOf (map sort_of_param ps) (trees_at es r.args.0)) rs
  clauses-speak ps H stand sorted [] f = tt
  clauses-speak ps H stand sorted (r ∷ rs) f = (
    speaks H ps stand sorted (trees_at es r.args.0) (f (reference_in es r) (here (reference_in es r) (map (reference_in es) rs))),
    clauses-speak ps H stand sorted rs (λ x i. f x (there x (reference_in es r) (map (reference_in es) rs) i)),
  )

  one-can : (i : HeldImpl) → In (impl_in es i.id i.def) V.impls → ImplHeld es i.def → StandInHeader es i.def → are_terms (trees_at es i.def.header.args.0) ≡ true
      → some_node (is_unsorted (length i.def.params.items) (trees_at es i.def.header.args.0)) (trees_at es i.def.header.args.0) ≡ false → CanBeCandidate es i.def
  one-can i k held stand made sorted =
      let H = trees_at es i.def.header.args.0 in
      let ps = i.def.params.items in
      record {
        params = stand;
        speaks = record {
          header = speaks H ps stand sorted H (λ s j h. h);
          clauses = clauses-speak ps H stand sorted i.def.clauses.items (λ r m s j h. determined (impl_in es i.id i.def) r k m s j h);
        };
        plain = plain-head H held.begins (not-true (some_node is_counted H) (right (is_made is_declared_leaf terms H) (not (some_node is_counted H)) made));
      }

  abbrev decls : List HeldImpl → List ImplDecl
  decls is = map (λ (i : HeldImpl). impl_in es i.id i.def) is

  pub all-can : (is : List HeldImpl) → ((x : ImplDecl) → In x (decls is) → In x V.impls) → Each (λ (i : HeldImpl). ImplHeld es i.def) is → Each (λ (i : HeldImpl). StandInHeader es i.def) is
      → list_all (λ (x : ImplDecl). are_terms x.header.args && are_references x.clauses) (decls is) ≡ true
      → list_all (λ (x : ImplDecl). not (some_node (is_unsorted x.params x.header.args) x.header.args)) (decls is) ≡ true
      → Each (λ (i : HeldImpl). CanBeCandidate es i.def) is
  all-can [] f held stand made sorted = tt
  all-can (i ∷ is) f held stand made sorted =
      let x = impl_in es i.id i.def in
      let now = left (are_terms x.header.args && are_references x.clauses) (list_all (λ (y : ImplDecl). are_terms y.header.args && are_references y.clauses) (decls is)) made in
      let ordered = left (not (some_node (is_unsorted x.params x.header.args) x.header.args)) (list_all (λ (y : ImplDecl). not (some_node (is_unsorted y.params y.header.args) y.header.args)) (decls is)) sorted in (
        one-can i (f x (here x (decls is))) held.0 stand.0 (left (are_terms x.header.args) (are_references x.clauses) now) (not-true (some_node (is_unsorted x.params x.header.args) x.header.args) ordered),
        all-can is (λ y k. f y (there y x (decls is) k)) held.1 stand.1
            (right (are_terms x.header.args && are_references x.clauses) (list_all (λ (y : ImplDecl). are_terms y.header.args && are_references y.clauses) (decls is)) made)
            (right (not (some_node (is_unsorted x.params x.header.args) x.header.args)) (list_all (λ (y : ImplDecl). not (some_node (is_unsorted y.params y.header.args) y.header.args)) (decls is)) sorted),
      )

pub well-declared-have-candidates : WellDeclaredHaveCandidates
well-declared-have-candidates es d held well stand =
    let V = written es d in
    let rest = right (list_all (λ (x : StructDecl). list_all are_terms x.fields) V.structs) (list_all (λ (x : TraitDecl). are_references x.bounds) V.traits && list_all (λ (i : ImplDecl). are_terms i.header.args && are_references i.clauses) V.impls) well.terms in
    let made = right (list_all (λ (x : TraitDecl). are_references x.bounds) V.traits) (list_all (λ (i : ImplDecl). are_terms i.header.args && are_references i.clauses) V.impls) rest in
    all-can es V well.determined d.impls (λ x i. i) held.impls stand made well.sorted
