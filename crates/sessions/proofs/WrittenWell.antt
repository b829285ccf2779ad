-- Declarations by which goals are decided are written well: what their impls speak of stands in their headers.
use Rattle.std.proofs.Common.{◌≡◌, ◌<◌, ℕ, zero, suc, ◌+◌, Bool, true, false, not, ◌||◌, List, [], ◌∷◌, map, length, Some, refl, sym, ap, ◌∙◌, subst, arith}
use Rattle.std.proofs.lemmas.Bool.{eqb-true}
use Rattle.std.proofs.lemmas.Option.{same_Some}
use Rattle.std.specs.Prelude.{if◌then◌else◌, nat_lt, slice_get, ◌==◌}
use Rattle.type_terms.specs.Promised.Answers.{is_variable}
use Rattle.type_terms.specs.Promised.Label.{Label, Sort, of_type, of_const, of_lifetime, param, infer, canonical}
use Rattle.type_terms.specs.Promised.LinkedSet.{is_stray}
use Rattle.type_terms.specs.Promised.Proofs.{In}
use Rattle.type_terms.specs.Erased.{mentions}
use Rattle.type_terms.specs.Promised.Erased.{erased_reference}
use Rattle.type_terms.specs.Promised.Trees.{Trees, none, tree, erase, is_sort, some_node}
use Rattle.type_terms.specs.Promised.Worlds.{World, Reference, ImplDecl}
use Rattle.type_terms.proofs.ProofEntries.{map-in}
use Rattle.type_terms.proofs.Members.{in-map}
use Rattle.type_terms.proofs.NoHolds.{member-each}
use Rattle.type_terms.proofs.Walking.{left, right}
use Rattle.type_terms.specs.Made.{terms, is_made}
use Rattle.type_terms.specs.Promised.Handles.{Entry, trees_at}
use Rattle.type_terms.proofs.Made.{false-true}
use Rattle.term_folds.specs.declared.predicate.TraitRef.{TraitRef}
use Rattle.infer_table.specs.declared.canonical.CanonicalVarKind.{CanonicalVarKind}
use Rattle.infer_table.specs.declared.canonical.CanonicalVarKind.TheVariants.{Ty, Const, Region}
use Rattle.declarations.specs.declared.items.GenericParamKind.{GenericParamKind}
use Rattle.declarations.specs.declared.items.GenericParamKind.TheVariants as params
use Rattle.declarations.specs.Applied.{sort_of_param}
use Rattle.declarations.specs.Items.{Items, HeldImpl, reference_in, impl_in, written}
use Rattle.declarations.proofs.Elaborating.{each-in}
use Rattle.candidate_model.specs.Candidates.{is_this_param, kind_of_param, kinds_of_params}
use Rattle.candidate_model.specs.Declared.{is_declared_leaf, is_counted, are_terms, is_otherwise, is_unsorted}
use Rattle.candidate_model.specs.DeclaredWell.{IsDeclaredWell}
use Rattle.candidate_model.proofs.ClosedPremises.{plain}
use Rattle.candidate_model.proofs.DeclaredParts.{header-declared, clause-declared}
use Rattle.candidate_model.proofs.DeclaredWell.{tests-tell}
use Rattle.candidate_model.proofs.ErasedTerms.{declared-stays, erased-lifetimes}
use Rattle.candidate_assembly.specs.Headers.{CanBeCandidate, var_kind}
use Rattle.candidate_assembly.specs.Ready.{AreReadyDeclarations}
use Rattle.candidate_assembly.proofs.WellDeclared.{is-less}
use Rattle.overlap_check.specs.Headers.{IsWithoutVariables}
use Rattle.type_terms.specs.Promised.OpenedHeaders.{is_param as is_label}
use Rattle.overlap_check.specs.Orphans.{HoldsParams, HeaderHoldsParams}
use Rattle.overlap_check.specs.Written.{IsWrittenWell}
use Rattle.sessions.specs.Checking.{ReadyAreWritten}
use Rattle.sessions.proofs.Mentioned.{node-weaker, kept-node, mentioned-kept, standing-mentioned}
use Rattle.candidate_assembly.proofs.Fitting.{is-true as not-true}
use Rattle.sessions.proofs.ClausesApply.{each-of}

is-false : (b : Bool) → (b ≡ true → ⊥) → b ≡ false
is-false true f = absurd (f refl)
is-false false f = refl

-- ---- each parameter that is a type or a constant stands in a header that tells its kind
same-label : (s : Sort) (i : ℕ) (l : Label) → is_this_param s i l ≡ is_label s i l
same-label s i (param r j) = refl
same-label s i l = refl

same-stands : (s : Sort) (i : ℕ) (t : Trees) → some_node (is_this_param s i) t ≡ some_node (is_label s i) t
same-stands s i none = refl
same-stands s i (tree l c o) = by (same-label s i l) (same-stands s i c) (same-stands s i o)
  where
    by : {a b d x y z : Bool} → a ≡ x → b ≡ y → d ≡ z → (a || b || d) ≡ (x || y || z)
    by e f g = cc

abbrev kind_of : Sort → CanonicalVarKind
kind_of of_type = Ty
kind_of of_const = Const
kind_of of_lifetime = Region

told : (h : Trees) (s : Sort) (i : ℕ) → is_sort s of_lifetime ≡ false → kind_of s ≡ kind_of_param h i → some_node (is_this_param s i) h ≡ true
told h of_type i n e = by (some_node (is_this_param of_type i) h) (some_node (is_this_param of_const i) h) e
  where
    by : (a b : Bool) → Ty ≡ (if a then Ty else if b then Const else Region) → a ≡ true
    by true b e = refl
    by false true e = cc
    by false false e = cc
told h of_const i n e = by (some_node (is_this_param of_type i) h) (some_node (is_this_param of_const i) h) e
  where
    by : (a b : Bool) → Const ≡ (if a then Ty else if b then Const else Region) → b ≡ true
    by true b e = cc
    by false true e = refl
    by false false e = cc
told h of_lifetime i n e = cc

kind-is : (p : GenericParamKind) → var_kind p ≡ kind_of (sort_of_param p)
kind-is params.Lifetime = refl
kind-is params.«Type» = refl
kind-is params.Const = refl

at-place : (h : Trees) (first : ℕ) (ps : List GenericParamKind) → map var_kind ps ≡ kinds_of_params h first (length ps) → (k : ℕ) (s : Sort) → slice_get (map sort_of_param ps) k ≡ Some s
    → kind_of s ≡ kind_of_param h (first + k)
at-place h first [] e k s f = cc
at-place h first (p ∷ ps) e zero s f = ap kind_of (sym (same_Some (sort_of_param p) s f)) ∙ sym (kind-is p) ∙ head ∙ ap (kind_of_param h) (no-more first)
  where
    head : var_kind p ≡ kind_of_param h first
    head = cc

    no-more : (n : ℕ) → n ≡ n + zero
    no-more n = omega arith
at-place h first (p ∷ ps) e (suc k) s f = at-place h (suc first) ps rest k s f ∙ ap (kind_of_param h) (more first k)
  where
    rest : map var_kind ps ≡ kinds_of_params h (suc first) (length ps)
    rest = cc

    more : (a i : ℕ) → suc a + i ≡ a + suc i
    more a i = omega arith

header-holds : (h : Trees) (ps : List GenericParamKind) → map var_kind ps ≡ kinds_of_params h 0 (length ps) → HoldsParams (map sort_of_param ps) h
header-holds h ps e i s f n = sym (same-stands s i h) ∙ told h s i n (at-place h 0 ps e i s f ∙ ap (kind_of_param h) (first i))
  where
    first : (k : ℕ) → 0 + k ≡ k
    first k = omega arith

-- ---- labels
unsorted : (n : ℕ) (h : Trees) (s : Sort) (j : ℕ) → nat_lt j n ≡ false → (l : Label) → is_this_param s j l ≡ true → is_unsorted n h l ≡ true
unsorted n h s j x (param r i) e =
    let same : i ≡ j = sym (eqb-true j i (right (is_sort s r) (j == i) e)) in
    subst (λ k. not (nat_lt k n) || some_node (is_otherwise r k) h ≡ true) (sym same) (ap (λ b. not b || some_node (is_otherwise r j) h) x)
unsorted n h s j x l e = absurd (false-true e)

stray : (l : Label) → is_variable l ≡ true → is_stray l ≡ true
stray (infer s i) e = refl
stray (canonical s i) e = refl
stray l e = absurd (false-true e)

without : (t : Trees) → some_node is_stray t ≡ false → some_node is_variable t ≡ false
without t e = is-false (some_node is_variable t) (λ f. false-true (sym e ∙ node-weaker is_variable is_stray stray t f))

-- ---- an impl
module _ (es : List Entry) (d : Items) (ready : AreReadyDeclarations es d) where
  abbrev V : World
  V = written es d

  well : IsDeclaredWell V
  well = tests-tell V ready.well

  abbrev decl : HeldImpl → ImplDecl
  decl i = impl_in es i.id i.def

  module _ (i : HeldImpl) (stands : In i d.impls) where
    abbrev header : Trees
    header = trees_at es i.def.header.args.0

    declared-impl : In (decl i) V.impls
    declared-impl = in-map decl d.impls i stands

    candidate : CanBeCandidate es i.def
    candidate = each-in (λ x. CanBeCandidate es x.def) d.impls ready.impls i stands

    header-terms : are_terms header ≡ true
    header-terms = header-declared V well.terms (decl i) declared-impl

    clause-stands : (r : TraitRef) → In r i.def.clauses.items → In (reference_in es r) (decl i).clauses
    clause-stands r k = in-map (reference_in es) i.def.clauses.items r k

    clause-terms : (r : TraitRef) → In r i.def.clauses.items → are_terms (trees_at es r.args.0) ≡ true
    clause-terms r k = clause-declared V well.terms (decl i) (reference_in es r) declared-impl (clause-stands r k)

    plain-erased : (t : Trees) → are_terms t ≡ true → some_node is_stray (erase t) ≡ false
    plain-erased t e = plain (erase t) (declared-stays t e)

    -- a parameter of the header is one of the impl's
    sorted : some_node (is_unsorted (length i.def.params.items) header) header ≡ false
    sorted = not-true (some_node (is_unsorted (length i.def.params.items) header) header) (member-each (λ (x : ImplDecl). not (some_node (is_unsorted x.params x.header.args) x.header.args)) V.impls (decl i) well.sorted declared-impl)

    below : (j : ℕ) → mentions j (erase header) ≡ true → j < length i.def.params.items
    below j e =
        let x = mentioned-kept j (erase header) (erased-lifetimes header) e in
        let f : some_node (is_this_param x.0 j) header ≡ true = sym (kept-node x.0 j x.1 header) ∙ x.2 in
        is-less j (length i.def.params.items) (is-less-than x.0 f (nat_lt j (length i.def.params.items)) refl)
      where
        is-less-than : (s : Sort) → some_node (is_this_param s j) header ≡ true → (b : Bool) → b ≡ nat_lt j (length i.def.params.items) → nat_lt j (length i.def.params.items) ≡ true
        is-less-than s f true q = sym q
        is-less-than s f false q = absurd (false-true (sym sorted ∙ node-weaker (is_this_param s j) (is_unsorted (length i.def.params.items) header) (unsorted (length i.def.params.items) header s j (sym q)) header f))

    in-header : (k : Reference) → In k (map erased_reference (decl i).clauses) → (j : ℕ) → mentions j k.args ≡ true → mentions j (erase header) ≡ true
    in-header k n j e =
        let a = map-in erased_reference (decl i).clauses k n in
        let e' : mentions j (erase a.0.args) ≡ true = subst (λ (r : Reference). mentions j r.args ≡ true) (sym a.2) e in
        let x = mentioned-kept j (erase a.0.args) (erased-lifetimes a.0.args) e' in
        let f : some_node (is_this_param x.0 j) a.0.args ≡ true = sym (kept-node x.0 j x.1 a.0.args) ∙ x.2 in
        let g : some_node (is_this_param x.0 j) header ≡ true = well.determined (decl i) a.0 declared-impl a.1 x.0 j f in
        standing-mentioned x.0 j terms (erase header) (left (is_made is_declared_leaf terms (erase header)) (not (some_node is_counted (erase header))) (declared-stays header header-terms)) (kept-node x.0 j x.1 header ∙ g)

    written-well : IsWrittenWell es i.def
    written-well = record {
      header = candidate.speaks.header;
      clauses = candidate.speaks.clauses;
      plain_header = plain-erased header header-terms;
      plain_clauses = each-of (λ (r : TraitRef). some_node is_stray (erase (trees_at es r.args.0)) ≡ false) i.def.clauses.items (λ r k. plain-erased (trees_at es r.args.0) (clause-terms r k));
      covered = λ id. record { below = below; in_header = in-header };
    }

    holds : HeaderHoldsParams es i.def
    holds = header-holds header i.def.params.items candidate.params

    no-variables : IsWithoutVariables es i.def
    no-variables = record {
      header = without header (plain header header-terms);
      clauses = each-of (λ (r : TraitRef). some_node is_variable (trees_at es r.args.0) ≡ false) i.def.clauses.items (λ r k. without (trees_at es r.args.0) (plain (trees_at es r.args.0) (clause-terms r k)));
    }

pub ready-are-written : ReadyAreWritten
ready-are-written es d ready = (
  each-of (λ (i : HeldImpl). IsWrittenWell es i.def × HeaderHoldsParams es i.def) d.impls (λ i k. (written-well es d ready i k, holds es d ready i k)),
  each-of (λ (i : HeldImpl). IsWithoutVariables es i.def) d.impls (λ i k. no-variables es d ready i k),
)
