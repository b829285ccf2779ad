-- A reference without lifetimes has the same rules by declarations as they are written and by the same declarations without their lifetimes,
-- where no lifetime parameter stands in the fields of structs: so by both the same is bounded and possible.
use Rattle.std.proofs.Common.{◌≡◌, ◌+◌, ◌<◌, ◌==◌, ℕ, zero, suc, Bool, true, false, not, ◌&&◌, ◌||◌, if◌then◌else◌, List, [], ◌∷◌, ◌++◌, map, length, inl, inr, refl, sym, ◌∙◌, ap, subst, arith, zero-add, Option, Some, None}
use Rattle.std.specs.Prelude.{filter}
use Rattle.std.specs.List.{flat_map, list_all, list_any}
use Rattle.type_terms.specs.Promised.Label.{Label, Sort, of_type, of_const, of_lifetime, array, slice, dynamic, static, adt, fn_ptr, ref, raw_pointer, principal, of_trait, predicate, param, placeholder, infer, canonical, bound, value}
use Rattle.type_terms.specs.Promised.Trees.{Trees, none, tree, leaf, ◌+++◌, erase, erase_label, instantiate, nth, is_sort, some_node, Fits}
use Rattle.type_terms.specs.Trees.{arguments, is_a, fits, Single}
use Rattle.type_terms.specs.Promised.Erased.{erased_reference, erased_struct, erased_trait, erased_impl, erased_world}
use Rattle.type_terms.specs.Erased.{mentions, IsCovered}
use Rattle.type_terms.specs.Promised.Worlds.{World, CrateDecl, Reference, StructDecl, TraitDecl, ImplDecl, structs_named, with_args, all_with_args}
use Rattle.type_terms.specs.Promised.Rules.{Rule, same_head, by_impl, row, rules, sized, sized_struct, auto_struct, object_auto, object_principal, unsize, unsize_to_dyn, unsize_dyn, unsize_upcast, unsize_struct, is_auto, is_dyn, is_written, same_reference, impl_rules, plain_rules, sized_rules, auto_rules, auto_rules_plain, unsize_rules, unsize_array_rules, unsize_to_dyn_rules, unsize_upcast_rules, unsize_struct_rules, upcasts_principal, upcasts_autos, object_rules, built_in_rules, equal_rows, elaborated, are_declared, are_dyn_compatible, is_declared, principal_with, autos_with, asked, last_asked, each_asked, fields_of, some_unsizing, with_unsizing, last_unsizes, strict_supertraits, strict_supertraits_within, written_supertraits, clause_rules, super_rules, by_clause}
use Rattle.type_terms.specs.Promised.Answers.{is_closed, is_undeclared, written_in, children, short_chains, is_bounded, is_possible}
use Rattle.type_terms.specs.Promised.Walks.{Met, local, entered, struct_leaf, open_place, other_leaf, struct_is, trait_is, is_home, dyn_met, visited, until_decisive, item_in, ends_local, is_known_in}
use Rattle.type_terms.specs.Codes.{same}
use Rattle.type_terms.specs.Promised.Proofs.{In}
use Rattle.type_terms.proofs.Applies.{applies-in, fits-erased}
use Rattle.type_terms.proofs.Fitting.{not-true, append-shut, child-shut, next-shut, head-shut, fits-sound, same-reference-sound}
use Rattle.type_terms.proofs.Matching.{same-where-asked, or-false-left as no-left}
use Rattle.type_terms.proofs.ProofEntries.{map-in}
use Rattle.type_terms.proofs.Members.{here, there, in-cases, in-nothing, same-number}
use Rattle.type_terms.proofs.NoHolds.{member-each}
use Rattle.type_terms.proofs.Supertraits.{flat-same}
use Rattle.type_terms.proofs.TreeLaws.{erase-instantiate, nth-single-zero, nth-single-suc, single-nth}
use Rattle.type_terms.proofs.Walking.{left, right, or-right as or-second}
use Rattle.type_terms.specs.Made.{terms, is_made}
use Rattle.type_terms.proofs.Made.{false-true}
use Rattle.goal_evaluator.specs.Lists.{Every}
use Rattle.candidate_model.specs.Candidates.{is_this_param}
use Rattle.candidate_model.specs.Declared.{is_declared_leaf as is_declared_label, are_terms, is_unsorted, is_lifetime_parameter}
use Rattle.candidate_model.specs.DeclaredWell.{IsDeclaredWell}
use Rattle.candidate_model.specs.Facts.{is_unerased}
use Rattle.candidate_model.specs.Meaning.{SelfTypesBegin}
use Rattle.candidate_model.proofs.DeclaredParts.{header-declared, clause-declared, bound-declared}
use Rattle.candidate_model.proofs.ErasedCandidates.{types-same, consts-same, without_lifetimes}
use Rattle.candidate_model.proofs.ErasedRows.{declared-head, label-stays as kept-label}
use Rattle.candidate_model.proofs.ErasedTerms.{erased-lifetimes, declared-stays}
use Rattle.candidate_model.proofs.PlainRules.{is_wild, tame, Plain, IsPlainReference, HavePlainPremises, plain-unbound, plain-instance}
use Rattle.candidate_model.proofs.ReadOff.{by-declared, is_kept, none-passes, below, one-sort, arguments-plain}
use Rattle.candidate_model.proofs.Headers.{child-some, next-some, here-some}
use Rattle.candidate_model.proofs.Rows.{fields-declared}
use Rattle.sessions.proofs.PlainPremises.{supers-plain, rules-plain}
use Rattle.solver_completeness.proofs.FormedInstances.{Stands, stands-cases, fits-by, sort-where}
use Rattle.sessions.proofs.Fitting.{shut}
use Rattle.type_terms.proofs.TermBasics.{three as same-node, is_sort-self as sort-self, if-same}
use Rattle.goal_evaluator.proofs.Basics.{every-append}

-- ---- terms
label-stays : (l : Label) → is_unerased l ≡ false → erase_label l ≡ l
label-stays (fn_ptr zero) h = refl
label-stays (fn_ptr (suc n)) h = absurd (false-true (sym h))
label-stays (principal zero t) h = refl
label-stays (principal (suc n) t) h = absurd (false-true (sym h))
label-stays (param of_type i) h = refl
label-stays (param of_const i) h = refl
label-stays (param of_lifetime i) h = absurd (false-true (sym h))
label-stays (placeholder of_type i) h = refl
label-stays (placeholder of_const i) h = refl
label-stays (placeholder of_lifetime i) h = absurd (false-true (sym h))
label-stays (infer of_type i) h = refl
label-stays (infer of_const i) h = refl
label-stays (infer of_lifetime i) h = absurd (false-true (sym h))
label-stays (canonical of_type i) h = refl
label-stays (canonical of_const i) h = refl
label-stays (canonical of_lifetime i) h = absurd (false-true (sym h))
label-stays (bound s k i) h = absurd (false-true (sym h))
label-stays l h = refl

-- what is written up to lifetimes stays
pub plain-stays : (t : Trees) → Plain t → erase t ≡ t
plain-stays none h = refl
plain-stays (tree l c o) h =
    same-node (label-stays l (no-left (is_unerased l) (some_node is_unerased c) (no-left (is_unerased l || some_node is_unerased c) (some_node is_unerased o) h)))
    (plain-stays c (child-shut is_unerased l c o h)) (plain-stays o (next-shut is_unerased l c o h))

-- and so does a declared term in which no lifetime parameter stands
declared-same : (t : Trees) → some_node is_wild t ≡ false → some_node is_lifetime_parameter t ≡ false → erase t ≡ t
declared-same none w p = refl
declared-same (tree l c o) w p =
    same-node (kept-label l (no-left (is_wild l) (some_node is_wild c) (no-left (is_wild l || some_node is_wild c) (some_node is_wild o) w))
    (no-left (is_lifetime_parameter l) (some_node is_lifetime_parameter c) (no-left (is_lifetime_parameter l || some_node is_lifetime_parameter c) (some_node is_lifetime_parameter o) p)))
    (declared-same c (child-shut is_wild l c o w) (child-shut is_lifetime_parameter l c o p)) (declared-same o (next-shut is_wild l c o w) (next-shut is_lifetime_parameter l c o p))

all-stay : {A : Type 0} (f : A → A) (xs : List A) → ((x : A) → In x xs → f x ≡ x) → map f xs ≡ xs
all-stay f [] h = refl
all-stay {A = A} f (x ∷ xs) h = two (h x (here x xs)) (all-stay f xs (λ y i. h y (there y x xs i)))
  where
    two : {a b : A} {c d : List A} → a ≡ b → c ≡ d → a ∷ c ≡ b ∷ d
    two p q = cc

-- arguments up to lifetimes make the same of a declared term with its lifetimes and without
put-same : (A t : Trees) → Plain A → are_terms t ≡ true → fits A t ≡ true → instantiate zero A (erase t) ≡ instantiate zero A t
put-same A t p h f = ap (λ z. instantiate zero z (erase t)) (sym (plain-stays A p)) ∙ sym (erase-instantiate zero A t (fits-sound A t f)) ∙ plain-stays (instantiate zero A t) (plain-instance A t p h)

nth-plain : (A : Trees) (i : ℕ) → Plain A → Plain (nth A i)
nth-plain none i h = refl
nth-plain (tree l c o) zero h = head-shut is_unerased l c o h
nth-plain (tree l c o) (suc i) h = nth-plain o i (next-shut is_unerased l c o h)

-- ---- parameters
or-first : (a b : Bool) → a ≡ true → a || b ≡ true
or-first true b h = refl
or-first false b h = absurd (false-true h)

kept-mentions : (j : ℕ) (l : Label) (c o : Trees) → is_kept l ≡ true → mentions j (tree l c o) ≡ mentions j c || mentions j o
kept-mentions j (param s i) c o h = absurd (false-true h)
kept-mentions j l c o h = refl

kept-no-param : (s : Sort) (j : ℕ) (l : Label) → is_kept l ≡ true → is_this_param s j l ≡ true → ⊥
kept-no-param s j (param k i) h e = false-true h
kept-no-param s j l h e = false-true e

abbrev Mentioned : Trees → Type 0
Mentioned t = (s : Sort) (j : ℕ) → Stands s j t → mentions j t ≡ true

-- a parameter that stands in a declared term is mentioned there
stands-mentioned : (t : Trees) → are_terms t ≡ true → Mentioned t
stands-mentioned t h = by-declared Mentioned (λ s j e. absurd (false-true e)) at-param at-static at-kept t h
  where
    at-param : (k : Sort) (i : ℕ) (o : Trees) → Mentioned o → Mentioned (tree (param k i) none o)
    at-param k i o f s j e =
        stands-cases s j (param k i) none o e (λ x. or-first (j == i) (mentions j o) (right (is_sort s k) (j == i) x)) (λ x. absurd (false-true x)) (λ x. or-second (j == i) (mentions j o) (f s j x))

    at-static : (o : Trees) → Mentioned o → Mentioned (tree static none o)
    at-static o f s j e = stands-cases s j static none o e (λ x. absurd (false-true x)) (λ x. absurd (false-true x)) (λ x. f s j x)

    at-kept : (l : Label) (c o : Trees) → is_kept l ≡ true → Mentioned c → Mentioned o → Mentioned (tree l c o)
    at-kept l c o q f g s j e =
        kept-mentions j l c o q
        ∙ stands-cases s j l c o e (λ x. absurd (kept-no-param s j l q x)) (λ x. or-first (mentions j c) (mentions j o) (f s j x)) (λ x. or-second (mentions j c) (mentions j o) (g s j x))

-- and what is mentioned stands there, with some sort
mentioned-stands : (t : Trees) (j : ℕ) → mentions j t ≡ true → (s : Sort) × Stands s j t
mentioned-stands none j h = absurd (false-true h)
mentioned-stands (tree (param s i) c o) j h = by (j == i) refl h (mentioned-stands o j)
  where
    by : (b : Bool) → (j == i) ≡ b → (b || mentions j o) ≡ true → (mentions j o ≡ true → (k : Sort) × Stands k j o) → (k : Sort) × Stands k j (tree (param s i) c o)
    by true e g f = (s, subst (λ z. Stands s z (tree (param s i) c o)) (sym (same-number j i e)) (here-some s i c o (sort-self s)))
    by false e g f = let x = f g in (x.0, next-some (is_this_param x.0 j) (param s i) c o x.1)
mentioned-stands (tree l c o) j h = by (mentions j c) refl h (mentioned-stands c j) (mentioned-stands o j)
  where
    by : (b : Bool) → mentions j c ≡ b → (b || mentions j o) ≡ true → (mentions j c ≡ true → (k : Sort) × Stands k j c) → (mentions j o ≡ true → (k : Sort) × Stands k j o) → (k : Sort) × Stands k j (tree l c o)
    by true e g f k = let x = f e in (x.0, child-some (is_this_param x.0 j) l c o x.1)
    by false e g f k = let x = k g in (x.0, next-some (is_this_param x.0 j) l c o x.1)

-- no lifetime stands where lifetimes are left out
no-lifetime : (t : Trees) (j : ℕ) → Stands of_lifetime j (erase t) → ⊥
no-lifetime t j e = false-true (sym (none-passes is_lifetime_parameter of_lifetime j (erase t) e (erased-lifetimes t)))

from-erased : (t : Trees) (s : Sort) (j : ℕ) → Stands s j (erase t) → Stands s j t
from-erased t of_type j e = sym (types-same j t) ∙ e
from-erased t of_const j e = sym (consts-same j t) ∙ e
from-erased t of_lifetime j e = absurd (no-lifetime t j e)

-- ---- lists of terms
abbrev listed : (ℕ → Trees) → ℕ → ℕ → Trees
listed f k zero = none
listed f k (suc n) = f k +++ listed f (suc k) n

nth-listed : (f : ℕ → Trees) → ((j : ℕ) → Single (f j)) → (k n i : ℕ) → i < n → nth (listed f k n) i ≡ f (k + i)
nth-listed f one k zero i h = absurd (omega (arith, h))
nth-listed f one k (suc n) zero h = nth-single-zero (f k) (listed f (suc k) n) (one k) ∙ ap f (plus-zero k)
  where
    plus-zero : (k : ℕ) → k ≡ k + zero
    plus-zero k = omega arith
nth-listed f one k (suc n) (suc i) h = nth-single-suc (f k) (listed f (suc k) n) i (one k) ∙ nth-listed f one (suc k) n i (omega (arith, h)) ∙ ap f (plus-suc k i)
  where
    plus-suc : (k i : ℕ) → suc k + i ≡ k + suc i
    plus-suc k i = omega arith

plain-listed : (f : ℕ → Trees) → ((j : ℕ) → Plain (f j)) → (k n : ℕ) → Plain (listed f k n)
plain-listed f h k zero = refl
plain-listed f h k (suc n) = append-shut is_unerased (f k) (listed f (suc k) n) (h k) (plain-listed f h (suc k) n)

-- ---- lists of rules
flat-over : {A B : Type 0} (g : A → A) (f : A → List B) (xs : List A) → ((x : A) → In x xs → f (g x) ≡ f x) → flat_map f (map g xs) ≡ flat_map f xs
flat-over g f [] h = refl
flat-over {B = B} g f (x ∷ xs) h = join (h x (here x xs)) (flat-over g f xs (λ y i. h y (there y x xs i)))
  where
    join : {a b c d : List B} → a ≡ b → c ≡ d → a ++ c ≡ b ++ d
    join p q = cc

any-over : {A : Type 0} (g : A → A) (p q : A → Bool) (xs : List A) → ((x : A) → In x xs → p (g x) ≡ q x) → list_any p (map g xs) ≡ list_any q xs
any-over g p q [] h = refl
any-over g p q (x ∷ xs) h = ap (λ b. b || list_any p (map g xs)) (h x (here x xs)) ∙ ap (λ b. q x || b) (any-over g p q xs (λ y i. h y (there y x xs i)))

if-rule : (b : Bool) (w u : Rule) → In u (if b then w ∷ [] else []) → (if b then w ∷ [] else []) ≡ u ∷ []
if-rule true w u g = elim (in-cases u w [] g) [ inl e ↦ ap (λ z. z ∷ []) e | inr i ↦ absurd (in-nothing u i) ]
if-rule false w u g = absurd (in-nothing u g)

one-rule : (s : Reference) (k : ImplDecl) (u : Rule) → In u (impl_rules s k) → impl_rules s k ≡ u ∷ []
one-rule s k u h =
    let A = arguments k.params k.header.args s.args in
    if-rule (fits A k.header.args && same_reference (with_args A k.header) s) (record { way = by_impl k.name; premises = all_with_args A k.clauses }) u h

-- ---- the same world
module _ (V : World) (well : IsDeclaredWell V) (cs : List CrateDecl) where
  -- what bounds of traits hold is up to lifetimes already
  bound-stays : (x : TraitDecl) → In x V.traits → (b : Reference) → In b x.bounds → erased_reference b ≡ b
  bound-stays x i b j = ap (λ t. record { trait = b.trait; args = t }) (declared-same b.args (tame b.args (bound-declared V well.terms x b i j)) (well.erased x b i j))

  trait-stays : (x : TraitDecl) → In x V.traits → erased_trait x ≡ x
  trait-stays x i = ap (λ bs. record { name = x.name; home = x.home; is_fundamental = x.is_fundamental; is_auto = x.is_auto; bounds = bs }) (all-stay erased_reference x.bounds (bound-stays x i))

  abbrev world_with : List TraitDecl → World
  world_with ts = record { crates = cs; structs = map erased_struct V.structs; traits = ts; impls = map erased_impl V.impls }

  pub erased-is : record (erased_world V) { crates = cs } ≡ without_lifetimes V cs
  erased-is = ap (λ ts. world_with ts) (all-stay erased_trait V.traits trait-stays)

-- no lifetime parameter stands in the fields of structs
abbrev pub FieldsAreErased : World → Type 0
FieldsAreErased V = (x : StructDecl) (f : Trees) → In x V.structs → In f x.fields → some_node is_lifetime_parameter f ≡ false

-- ---- a view, and the same without lifetimes
module _ (V : World) (well : IsDeclaredWell V) (begin : SelfTypesBegin V) (erased : FieldsAreErased V) (cs : List CrateDecl) where
  abbrev U : World
  U = without_lifetimes V cs

  -- ---- impls
  module _ (r : Reference) (plain : Plain r.args) (i : ImplDecl) (stands : In i V.impls) where
    abbrev h : Trees
    h = i.header.args

    abbrev A : Trees
    A = arguments i.params h r.args

    abbrev B : Trees
    B = arguments i.params (erase h) r.args

    h-declared : are_terms h ≡ true
    h-declared = header-declared V well.terms i stands

    h-sorted : some_node (is_unsorted i.params h) h ≡ false
    h-sorted = not-true _ (member-each (λ (x : ImplDecl). not (some_node (is_unsorted x.params x.header.args) x.header.args)) V.impls i well.sorted stands)

    covered : IsCovered i
    covered = record {
      below = λ j e. let m = mentioned-stands h j e in below i.params h h-sorted m.0 j m.1;
      in_header = λ k c j e. let m = mentioned-stands k.args j e in stands-mentioned h h-declared m.0 j (well.determined i k stands c m.0 j m.1);
    }

    -- a parameter of a clause stands in the header, also where lifetimes are left out
    through : (k : Reference) → In k i.clauses → (s : Sort) (j : ℕ) → Stands s j (erase k.args) → Stands s j (erase h)
    through k c of_type j e = types-same j h ∙ well.determined i k stands c of_type j (from-erased k.args of_type j e)
    through k c of_const j e = consts-same j h ∙ well.determined i k stands c of_const j (from-erased k.args of_const j e)
    through k c of_lifetime j e = absurd (no-lifetime k.args j e)

    covered-so : IsCovered (erased_impl i)
    covered-so = record {
      below = λ j e. let m = mentioned-stands (erase h) j e in below i.params h h-sorted m.0 j (from-erased h m.0 j m.1);
      in_header = λ k c j e.
          let x = map-in erased_reference i.clauses k c in
          let m = mentioned-stands (erase x.0.args) j (subst (λ (z : Reference). mentions j z.args ≡ true) (sym x.2) e) in
          stands-mentioned (erase h) (declared-stays h h-declared) m.0 j (through x.0 x.1 m.0 j m.1);
    }

    -- ---- where the impl applies, it does so without lifetimes
    abbrev rule : Rule
    rule = record { way = by_impl i.name; premises = all_with_args A i.clauses }

    clauses-same : (C : Trees) → Plain C → fits C h ≡ true → (ks : List Reference) → ((k : Reference) → In k ks → In k i.clauses) → all_with_args C (map erased_reference ks) ≡ all_with_args C ks
    clauses-same C p f [] g = refl
    clauses-same C p f (k ∷ ks) g =
        let c = g k (here k ks) in
        let d = clause-declared V well.terms i k stands c in
        two (ap (λ z. (let x : Reference = record { trait = k.trait; args = z } in x))
        (put-same C k.args p d (fits-by C terms k.args (left (is_made is_declared_label terms k.args) _ d) (λ s j e. sort-where C h f s j (well.determined i k stands c s j e)))))
        (clauses-same C p f ks (λ x m. g x (there x k ks m)))
      where
        two : {a b : Reference} {c d : List Reference} → a ≡ b → c ≡ d → a ∷ c ≡ b ∷ d
        two p q = cc

    A-plain : Plain A
    A-plain = arguments-plain 0 i.params h r.args plain

    applied-so : fits A h ≡ true → with_args A i.header ≡ r → impl_rules r (erased_impl i) ≡ rule ∷ []
    applied-so f is =
        let so : with_args A (erased_reference i.header) ≡ r = ap (λ z. (let x : Reference = record { trait = i.header.trait; args = z } in x)) (put-same A h A-plain h-declared f) ∙ is in
        one-rule r (erased_impl i) rule
        (subst (λ z. In rule (impl_rules z (erased_impl i))) so
        (applies-in (erased_impl i) covered-so A (shut A (plain-unbound A A-plain)) (subst (λ z. Fits z (erase h)) (plain-stays A A-plain) (fits-erased A h (fits-sound A h f))) rule
        (ap (λ ks. (let w : Rule = record { way = by_impl i.name; premises = ks } in w)) (sym (clauses-same A A-plain f i.clauses (λ k c. c))))))

    -- ---- and where it applies without, it does so with `'static` for its lifetimes
    abbrev value_of : Bool → ℕ → Trees
    value_of true j = leaf static
    value_of false j = nth B j

    abbrev value_at : ℕ → Trees
    value_at j = value_of (some_node (is_this_param of_lifetime j) h) j

    abbrev C : Trees
    C = listed value_at 0 i.params

    B-plain : Plain B
    B-plain = arguments-plain 0 i.params (erase h) r.args plain

    one-value : (j : ℕ) → Single (value_at j)
    one-value j = by (some_node (is_this_param of_lifetime j) h)
      where
        by : (b : Bool) → Single (value_of b j)
        by true = refl
        by false = single-nth B j

    plain-value : (j : ℕ) → Plain (value_at j)
    plain-value j = by (some_node (is_this_param of_lifetime j) h)
      where
        by : (b : Bool) → Plain (value_of b j)
        by true = refl
        by false = nth-plain B j B-plain

    C-plain : Plain C
    C-plain = plain-listed value_at plain-value 0 i.params

    at-lifetime : (j : ℕ) → Stands of_lifetime j h → nth C j ≡ leaf static
    at-lifetime j e = nth-listed value_at one-value 0 i.params j (below i.params h h-sorted of_lifetime j e) ∙ ap value_at (zero-add j) ∙ ap (λ b. value_of b j) e

    not-lifetime : (s : Sort) (j : ℕ) → is_sort s of_lifetime ≡ false → Stands s j h → some_node (is_this_param of_lifetime j) h ≡ false
    not-lifetime s j n e = by (some_node (is_this_param of_lifetime j) h) refl
      where
        by : (b : Bool) → some_node (is_this_param of_lifetime j) h ≡ b → b ≡ false
        by false f = refl
        by true f = absurd (false-true (sym n ∙ ap (λ k. is_sort k of_lifetime) (sym (one-sort i.params h h-sorted s of_lifetime j e f))))

    at-other : (s : Sort) (j : ℕ) → is_sort s of_lifetime ≡ false → Stands s j h → nth C j ≡ nth B j
    at-other s j n e = nth-listed value_at one-value 0 i.params j (below i.params h h-sorted s j e) ∙ ap value_at (zero-add j) ∙ ap (λ b. value_of b j) (not-lifetime s j n e)

    sorts-at : fits B (erase h) ≡ true → (s : Sort) (j : ℕ) → Stands s j h → is_a s (nth C j) ≡ true
    sorts-at f of_type j e = subst (λ z. is_a of_type z ≡ true) (sym (at-other of_type j refl e)) (sort-where B (erase h) f of_type j (types-same j h ∙ e))
    sorts-at f of_const j e = subst (λ z. is_a of_const z ≡ true) (sym (at-other of_const j refl e)) (sort-where B (erase h) f of_const j (consts-same j h ∙ e))
    sorts-at f of_lifetime j e = subst (λ z. is_a of_lifetime z ≡ true) (sym (at-lifetime j e)) refl

    reads-same : (j : ℕ) → mentions j (erase h) ≡ true → nth C j ≡ nth B j
    reads-same j e = let m = mentioned-stands (erase h) j e in by m.0 m.1
      where
        by : (s : Sort) → Stands s j (erase h) → nth C j ≡ nth B j
        by of_type x = at-other of_type j refl (from-erased h of_type j x)
        by of_const x = at-other of_const j refl (from-erased h of_const j x)
        by of_lifetime x = absurd (no-lifetime h j x)

    applied-too : fits B (erase h) ≡ true → with_args B (erased_reference i.header) ≡ r → (u : Rule) × In u (impl_rules r i)
    applied-too f is =
        let fitting : fits C h ≡ true = fits-by C terms h (left (is_made is_declared_label terms h) _ h-declared) (sorts-at f) in
        let so : with_args C i.header ≡ r =
        ap (λ z. (let x : Reference = record { trait = i.header.trait; args = z } in x)) (sym (put-same C h C-plain h-declared fitting) ∙ same-where-asked C B 0 (erase h) reads-same) ∙ is in
        let u : Rule = record { way = by_impl i.name; premises = all_with_args C i.clauses } in
        (u, subst (λ z. In u (impl_rules z i)) so (applies-in i covered C (shut C (plain-unbound C C-plain)) (fits-sound C h fitting) u refl))

    abbrev applies : Bool
    applies = fits A h && same_reference (with_args A i.header) r

    abbrev applies_so : Bool
    applies_so = fits B (erase h) && same_reference (with_args B (erased_reference i.header)) r

    abbrev rule_so : Rule
    rule_so = record { way = by_impl i.name; premises = all_with_args B (map erased_reference i.clauses) }

    impl-same : impl_rules r (erased_impl i) ≡ impl_rules r i
    impl-same = by applies refl applies_so refl
      where
        by : (b : Bool) → applies ≡ b → (d : Bool) → applies_so ≡ d → impl_rules r (erased_impl i) ≡ impl_rules r i
        by true e d g =
            applied-so (left (fits A h) _ e) (same-reference-sound (with_args A i.header) r (right (fits A h) _ e)) ∙ sym (ap (λ z. if z then rule ∷ [] else []) e)
        by false e true g =
            let x = applied-too (left (fits B (erase h)) _ g) (same-reference-sound (with_args B (erased_reference i.header)) r (right (fits B (erase h)) _ g)) in
            absurd (in-nothing x.0 (subst (λ (us : List Rule). In x.0 us) (ap (λ z. if z then rule ∷ [] else []) e) x.1))
        by false e false g = ap (λ z. if z then rule_so ∷ [] else []) g ∙ sym (ap (λ z. if z then rule ∷ [] else []) e)

  impls-same : (r : Reference) → Plain r.args → flat_map (impl_rules r) U.impls ≡ flat_map (impl_rules r) V.impls
  impls-same r plain = flat-over erased_impl (impl_rules r) V.impls (λ i stands. impl-same r plain i stands)

  -- ---- supertraits
  within-same : (n : ℕ) (r : Reference) → strict_supertraits_within n U r ≡ strict_supertraits_within n V r
  within-same zero r = refl
  within-same (suc n) r = flat-same (λ s. s ∷ strict_supertraits_within n U s) (λ s. s ∷ strict_supertraits_within n V s) (written_supertraits V r) (λ s i. ap (λ z. s ∷ z) (within-same n s))

  pub supers-same : (r : Reference) → strict_supertraits U r ≡ strict_supertraits V r
  supers-same r = within-same (length V.traits) r

  elaborated-same : (rs : List Reference) → elaborated U rs ≡ elaborated V rs
  elaborated-same rs = flat-same (λ r. r ∷ strict_supertraits U r) (λ r. r ∷ strict_supertraits V r) rs (λ r i. ap (λ z. r ∷ z) (supers-same r))

  compatible-same : (ps : List Reference) → are_dyn_compatible U ps ≡ are_dyn_compatible V ps
  compatible-same ps = ap (λ es. are_declared V ps && not (list_any (λ s. s.trait == sized) es)) (elaborated-same ps)

  -- ---- structs, which are the same
  field-stays : (x : StructDecl) → In x V.structs → (f : Trees) → In f x.fields → erase f ≡ f
  field-stays x i f j = declared-same f (tame f (member-each are_terms x.fields f (fields-declared V well.terms [] x i) j)) (erased x f i j)

  struct-stays : (x : StructDecl) → In x V.structs → erased_struct x ≡ x
  struct-stays x i = ap (λ fs. record { name = x.name; home = x.home; is_fundamental = x.is_fundamental; fields = fs }) (all-stay erase x.fields (field-stays x i))

  structs-are : (s : ℕ) → structs_named U s ≡ structs_named V s
  structs-are s = ap (filter (λ (x : StructDecl). x.name == s)) (all-stay erased_struct V.structs struct-stays)

  sized-same : (t : Trees) → sized_rules U t ≡ sized_rules V t
  sized-same none = refl
  sized-same (tree (adt s) c o) = ap (flat_map (λ x. row sized_struct (last_asked sized (fields_of x c)))) (structs-are s)
  sized-same (tree l c o) = refl

  auto-same : (t : ℕ) (x : Trees) → auto_rules_plain U t x ≡ auto_rules_plain V t x
  auto-same t none = refl
  auto-same t (tree (adt s) c o) = ap (flat_map (λ x. row auto_struct (each_asked t (fields_of x c)))) (structs-are s)
  auto-same t (tree (raw_pointer b) none o) = refl
  auto-same t (tree (raw_pointer b) (tree l c p) o) = refl
  auto-same t (tree array none o) = refl
  auto-same t (tree array (tree l c p) o) = refl
  auto-same t (tree slice none o) = refl
  auto-same t (tree slice (tree l c p) o) = refl
  auto-same t (tree (ref b) none o) = refl
  auto-same t (tree (ref b) (tree k d none) o) = refl
  auto-same t (tree (ref b) (tree k d (tree l c p)) o) = refl
  auto-same t (tree l c o) = refl

  heads-same : (t : ℕ) (l : Label) → is_written U t l ≡ is_written V t l
  heads-same t l =
      any-over erased_impl (λ (i : ImplDecl). (i.header.trait == t) && same_head l i.header.args) (λ (i : ImplDecl). (i.header.trait == t) && same_head l i.header.args) V.impls
      (λ i j. ap (λ b. (i.header.trait == t) && b) (declared-head l i.header.args (header-declared V well.terms i j) (begin i j)))

  autos-same : (t : ℕ) (x : Trees) → auto_rules U t x ≡ auto_rules V t x
  autos-same t none = refl
  autos-same t (tree l c o) = ap (λ b. if b then [] else auto_rules_plain U t (tree l c o)) (heads-same t l) ∙ ap (λ z. if is_written V t l then [] else z) (auto-same t (tree l c o))

  -- ---- `Unsize`
  to-dyn-same : (t : Trees) → unsize_to_dyn_rules U t ≡ unsize_to_dyn_rules V t
  to-dyn-same (tree l c (tree dynamic bounds o)) =
      ap (λ b. if not (is_dyn l) && b then row unsize_to_dyn (principal_with (tree l c none) bounds ++ (autos_with (tree l c none) bounds ++ asked sized (tree l c none) ∷ [])) else [])
      (compatible-same (principal_with (tree l c none) bounds))
  to-dyn-same none = refl
  to-dyn-same (tree l c none) = refl
  to-dyn-same (tree l c (tree m d o)) = refl

  upcasts-same : (ps qs : List Reference) → upcasts_principal U ps qs ≡ upcasts_principal V ps qs
  upcasts-same ps [] = refl
  upcasts-same [] (q ∷ qs) = refl
  upcasts-same (p ∷ ps) (q ∷ qs) = ap (λ z. if p.trait == q.trait then (if same_reference p q then row unsize_dyn [] else []) else equal_rows unsize_upcast [] q 1 z) (supers-same p)

  upcast-same : (t : Trees) → unsize_upcast_rules U t ≡ unsize_upcast_rules V t
  upcast-same (tree dynamic a (tree dynamic b o)) =
      let self = tree dynamic a none in
      let ps = principal_with self a in
      ap (λ es. if are_declared V ps && list_all (λ x. list_any (λ q. q.trait == x.trait) (autos_with self a ++ es)) (autos_with self b) then upcasts_principal U ps (principal_with self b) else []) (elaborated-same ps)
      ∙ ap (λ z. if are_declared V ps && upcasts_autos V ps (autos_with self a) (autos_with self b) then z else []) (upcasts-same ps (principal_with self b))
  upcast-same none = refl
  upcast-same (tree dynamic a none) = refl
  upcast-same (tree dynamic a (tree m d o)) = refl
  upcast-same (tree l c o) = refl

  abbrev by_struct : Trees → Trees → StructDecl → List Rule
  by_struct a b x = if some_unsizing x.fields 0 a && same (with_unsizing x.fields 0 a b) b then row unsize_struct (last_unsizes x.fields a b) else []

  structs-same : (t : Trees) → unsize_struct_rules U t ≡ unsize_struct_rules V t
  structs-same none = refl
  structs-same (tree (adt s) a none) = refl
  structs-same (tree (adt s) a (tree (adt u) b o)) = ap (λ xs. if s == u then flat_map (by_struct a b) xs else []) (structs-are s)
  structs-same (tree (adt s) a (tree m b o)) = refl
  structs-same (tree l c o) = refl

  unsize-same : (t : Trees) → unsize_rules U t ≡ unsize_rules V t
  unsize-same t = three (to-dyn-same t) (upcast-same t) (structs-same t)
    where
      three : {a a' b b' c c' : List Rule} → a ≡ a' → b ≡ b' → c ≡ c' → unsize_array_rules t ++ (a ++ (b ++ c)) ≡ unsize_array_rules t ++ (a' ++ (b' ++ c'))
      three e f g = cc

  -- ---- object bounds
  abbrev by_supers : Reference → List Reference → List Reference → List Reference → List Rule
  by_supers r qs ss es = (if not (r.trait == sized) && list_any (same_reference r) qs then row object_auto ss else []) ++ (if not (r.trait == sized) then equal_rows object_principal ss r 0 es else [])

  objects-same : (r : Reference) (t : Trees) → object_rules U r t ≡ object_rules V r t
  objects-same r none = refl
  objects-same r (tree dynamic bounds o) =
      let self = tree dynamic bounds none in
      let ps = principal_with self bounds in
      let qs = autos_with self bounds in
      ap (λ b. if is_declared V r.trait && b then by_supers r qs (strict_supertraits U r) (elaborated U ps) else []) (compatible-same ps)
      ∙ ap (λ z. if is_declared V r.trait && are_dyn_compatible V ps then by_supers r qs z (elaborated U ps) else []) (supers-same r)
      ∙ ap (λ z. if is_declared V r.trait && are_dyn_compatible V ps then by_supers r qs (strict_supertraits V r) z else []) (elaborated-same ps)
  objects-same r (tree l c o) = refl

  -- ---- all rules
  built-in-same : (r : Reference) → built_in_rules U r ≡ built_in_rules V r
  built-in-same r =
      four (ap (λ z. if r.trait == sized then z else []) (sized-same r.args)) (ap (λ z. if is_auto V r.trait then z else []) (autos-same r.trait r.args))
      (ap (λ z. if r.trait == unsize then z else []) (unsize-same r.args)) (objects-same r r.args)
    where
      four : {a a' b b' c c' d d' : List Rule} → a ≡ a' → b ≡ b' → c ≡ c' → d ≡ d' → plain_rules r ++ (a ++ (b ++ (c ++ d))) ≡ plain_rules r ++ (a' ++ (b' ++ (c' ++ d')))
      four e f g h = cc

  where-clauses-same : (r : Reference) (k : ℕ) (ss : List Reference) → clause_rules U r k ss ≡ clause_rules V r k ss
  where-clauses-same r k [] = refl
  where-clauses-same r k (s ∷ ss) =
      let own = if same_reference s r then record { way = by_clause k; premises = [] } ∷ [] else [] in
      ap (λ zs. own ++ (super_rules r k 0 zs ++ clause_rules U r (suc k) ss)) (supers-same s) ∙ ap (λ us. own ++ (super_rules r k 0 (strict_supertraits V s) ++ us)) (where-clauses-same r (suc k) ss)

  pub rules-same : (E : List Reference) (r : Reference) → Plain r.args → rules U E r ≡ rules V E r
  rules-same E r plain = three (impls-same r plain) (built-in-same r) (where-clauses-same r 0 E)
    where
      three : {a a' b b' c c' : List Rule} → a ≡ a' → b ≡ b' → c ≡ c' → a ++ (b ++ c) ≡ a' ++ (b' ++ c')
      three e f g = cc

  -- ---- what is read of names alone
  struct-same : (p : StructDecl → Bool) (s : ℕ) → struct_is p U s ≡ struct_is p V s
  struct-same p s = ap (list_any p) (structs-are s)

  dyn-same : (d : Option ℕ) (c : Trees) → dyn_met U d c ≡ dyn_met V d c
  dyn-same d (tree (principal n t) c o) = refl
  dyn-same d none = refl
  dyn-same d (tree l c o) = refl

  visited-same : (d : Option ℕ) (t : Trees) → visited U d t ≡ visited V d t
  visited-same d none = refl
  visited-same d (tree (ref b) c o) = ap (λ z. z ++ visited U d o) (visited-same d c) ∙ ap (λ z. visited V d c ++ z) (visited-same d o)
  visited-same d (tree (adt s) c o) =
      ap (λ z. z ++ visited U d o)
      (if-same (struct_is (λ x. is_home d x.home) U s) (struct_is (λ x. is_home d x.home) V s) (struct_is (λ x. x.is_fundamental) U s) (struct_is (λ x. x.is_fundamental) V s) (visited U d c) (visited V d c) s
      (struct-same (λ x. is_home d x.home) s) (struct-same (λ x. x.is_fundamental) s) (visited-same d c))
      ∙ ap (λ z. (if struct_is (λ x. is_home d x.home) V s then local ∷ [] else if struct_is (λ x. x.is_fundamental) V s then entered s ∷ visited V d c else struct_leaf s ∷ []) ++ z) (visited-same d o)
  visited-same d (tree dynamic c o) = ap (λ z. z ++ visited U d o) (dyn-same d c) ∙ ap (λ z. dyn_met V d c ++ z) (visited-same d o)
  visited-same d (tree (param of_type i) c o) = ap (λ z. open_place ∷ z) (visited-same d o)
  visited-same d (tree (param of_const i) c o) = visited-same d o
  visited-same d (tree (param of_lifetime i) c o) = visited-same d o
  visited-same d (tree (placeholder of_type i) c o) = ap (λ z. open_place ∷ z) (visited-same d o)
  visited-same d (tree (placeholder of_const i) c o) = visited-same d o
  visited-same d (tree (placeholder of_lifetime i) c o) = visited-same d o
  visited-same d (tree (infer of_type i) c o) = ap (λ z. open_place ∷ z) (visited-same d o)
  visited-same d (tree (infer of_const i) c o) = visited-same d o
  visited-same d (tree (infer of_lifetime i) c o) = visited-same d o
  visited-same d (tree (canonical of_type i) c o) = ap (λ z. open_place ∷ z) (visited-same d o)
  visited-same d (tree (canonical of_const i) c o) = visited-same d o
  visited-same d (tree (canonical of_lifetime i) c o) = visited-same d o
  visited-same d (tree (bound of_type k i) c o) = ap (λ z. open_place ∷ z) (visited-same d o)
  visited-same d (tree (bound of_const k i) c o) = visited-same d o
  visited-same d (tree (bound of_lifetime k i) c o) = visited-same d o
  visited-same d (tree (value n) c o) = visited-same d o
  visited-same d (tree static c o) = visited-same d o
  visited-same d (tree l c o) = ap (λ z. other_leaf ∷ z) (visited-same d o)

  item-same : (x : Met) → item_in U x ≡ item_in V x
  item-same (struct_leaf s) = struct-same (λ x. true) s
  item-same (entered s) = struct-same (λ x. true) s
  item-same x = refl

  items-same : (xs : List Met) → list_all (item_in U) xs ≡ list_all (item_in V) xs
  items-same [] = refl
  items-same (x ∷ xs) = ap (λ b. b && list_all (item_in U) xs) (item-same x) ∙ ap (λ b. item_in V x && b) (items-same xs)

  known-same : (c : ℕ) (r : Reference) → is_known_in U c r ≡ is_known_in V c r
  known-same c r =
      ap (λ b. trait_is (λ _. true) V r.trait && (b && (trait_is (λ x. (x.home == c) || x.is_fundamental) V r.trait || ends_local (until_decisive (visited U (Some c) r.args)))))
      (items-same (until_decisive (visited U None r.args)) ∙ ap (λ z. list_all (item_in V) (until_decisive z)) (visited-same None r.args))
      ∙ ap (λ z. trait_is (λ _. true) V r.trait && (list_all (item_in V) (until_decisive (visited V None r.args)) && (trait_is (λ x. (x.home == c) || x.is_fundamental) V r.trait || ends_local (until_decisive z)))) (visited-same (Some c) r.args)

  undeclared-same : (l : Label) → is_undeclared U l ≡ is_undeclared V l
  undeclared-same (adt s) = ap not (struct-same (λ x. true) s)
  undeclared-same (predicate (of_trait t)) = refl
  undeclared-same l = refl

  nodes-undeclared : (t : Trees) → some_node (is_undeclared U) t ≡ some_node (is_undeclared V) t
  nodes-undeclared none = refl
  nodes-undeclared (tree l c o) =
      ap (λ b. b || some_node (is_undeclared U) c || some_node (is_undeclared U) o) (undeclared-same l) ∙ ap (λ b. is_undeclared V l || b || some_node (is_undeclared U) o) (nodes-undeclared c)
      ∙ ap (λ b. is_undeclared V l || some_node (is_undeclared V) c || b) (nodes-undeclared o)

  written-same : (r : Reference) → written_in U r ≡ written_in V r
  written-same r = ap (λ b. trait_is (λ _. true) V r.trait && not b) (nodes-undeclared r.args)

  -- ---- what follows
  all-alike : {A : Type 0} (P : A → Type 0) (p q : A → Bool) → ((x : A) → P x → p x ≡ q x) → (xs : List A) → Every P xs → list_all p xs ≡ list_all q xs
  all-alike P p q f [] h = refl
  all-alike P p q f (x ∷ xs) h = ap (λ b. b && list_all p xs) (f x h.0) ∙ ap (λ b. q x && b) (all-alike P p q f xs h.1)

  any-alike : {A : Type 0} (P : A → Type 0) (p q : A → Bool) → ((x : A) → P x → p x ≡ q x) → (xs : List A) → Every P xs → list_any p xs ≡ list_any q xs
  any-alike P p q f [] h = refl
  any-alike P p q f (x ∷ xs) h = ap (λ b. b || list_any p xs) (f x h.0) ∙ ap (λ b. q x || b) (any-alike P p q f xs h.1)

  pub possible-same : (n c : ℕ) (r : Reference) → Plain r.args → is_possible n U c r ≡ is_possible n V c r
  possible-same zero c r plain = refl
  possible-same (suc n) c r plain =
      join
      (ap (list_any (λ u. list_all (λ p. is_possible n U c p) u.premises)) (rules-same [] r plain)
      ∙ any-alike (λ (u : Rule). Every IsPlainReference u.premises) (λ u. list_all (λ p. is_possible n U c p) u.premises) (λ u. list_all (λ p. is_possible n V c p) u.premises)
      (λ u h. all-alike IsPlainReference (λ p. is_possible n U c p) (λ p. is_possible n V c p) (λ p g. possible-same n c p g) u.premises h) (rules V [] r) (rules-plain V well.terms [] r plain))
      (known-same c r)
      (ap (list_all (λ p. is_possible n U c p)) (supers-same r)
      ∙ all-alike IsPlainReference (λ p. is_possible n U c p) (λ p. is_possible n V c p) (λ p g. possible-same n c p g) (strict_supertraits V r) (supers-plain V well.terms r plain))
    where
      join : {a b k m x y : Bool} → a ≡ b → k ≡ m → x ≡ y → (a || (not k && x)) ≡ (b || (not m && y))
      join e f g = cc

  premises-plain : (us : List Rule) → HavePlainPremises us → Every IsPlainReference (flat_map (λ u. u.premises) us)
  premises-plain [] h = tt
  premises-plain (u ∷ us) h = every-append IsPlainReference u.premises (flat_map (λ v. v.premises) us) h.0 (premises-plain us h.1)

  children-plain : (c : ℕ) (r : Reference) → Plain r.args → Every IsPlainReference (children V c r)
  children-plain c r plain =
      every-append IsPlainReference (flat_map (λ u. u.premises) (rules V [] r)) (if is_known_in V c r then [] else strict_supertraits V r) (premises-plain (rules V [] r) (rules-plain V well.terms [] r plain)) (by (is_known_in V c r))
    where
      by : (b : Bool) → Every IsPlainReference (if b then [] else strict_supertraits V r)
      by true = tt
      by false = supers-plain V well.terms r plain

  children-same : (c : ℕ) (r : Reference) → Plain r.args → children U c r ≡ children V c r
  children-same c r plain =
      ap (λ us. flat_map (λ u. u.premises) us ++ (if is_known_in U c r then [] else strict_supertraits U r)) (rules-same [] r plain)
      ∙ ap (λ b. flat_map (λ u. u.premises) (rules V [] r) ++ (if b then [] else strict_supertraits U r)) (known-same c r)
      ∙ ap (λ z. flat_map (λ u. u.premises) (rules V [] r) ++ (if is_known_in V c r then [] else z)) (supers-same r)

  short-same : (n c : ℕ) (r : Reference) → Plain r.args → short_chains n U c r ≡ short_chains n V c r
  short-same zero c r plain = refl
  short-same (suc n) c r plain =
      ap (list_all (λ s. short_chains n U c s)) (children-same c r plain)
      ∙ all-alike IsPlainReference (λ s. short_chains n U c s) (λ s. short_chains n V c s) (λ s g. short-same n c s g) (children V c r) (children-plain c r plain)

  pub bounded-same : (n c : ℕ) (r : Reference) → Plain r.args → is_bounded n U c r ≡ is_bounded n V c r
  bounded-same n c r plain =
      ap (λ b. is_closed r.args && (b && short_chains n U c r)) (written-same r) ∙ ap (λ b. is_closed r.args && (written_in V r && b)) (short-same n c r plain)
