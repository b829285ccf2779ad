-- What an entry of a proof means. A rule instance of an impl is of an impl of the world.
use Rattle.std.proofs.Common.{◌≡◌, ℕ, Bool, true, false, List, [], ◌∷◌, ◌++◌, refl, sym, ◌∙◌, ◌&&◌, ◌||◌, ◌==◌, not, if◌then◌else◌, subst, ◌⊎◌, inl, inr, map, append_assoc}
use Rattle.std.specs.List.{flat_map, list_all, list_any}
use Rattle.type_terms.specs.Promised.Label.{array, slice, raw_pointer, ref, adt, tuple, fn_ptr, dynamic}
use Rattle.type_terms.specs.Codes.{same}
use Rattle.type_terms.specs.Promised.Trees.{Trees, none, tree}
use Rattle.type_terms.specs.Promised.Worlds.{World, Reference, ImplDecl, structs_named}
use Rattle.type_terms.specs.Promised.Rules.{sized_struct, auto_struct, fn_ptr_call, unsize_array, unsize_to_dyn, unsize_dyn, unsize_upcast, unsize_struct, object_auto, object_principal, equal_rows, upcasts_principal, upcasts_autos, are_declared, principal_with, autos_with, Rule, Way, by_impl, by_clause, by_super, built_in, rules, impl_rules, built_in_rules, plain_rules, sized_rules, copy_rules, tuple_rules, fn_ptr_rules, call_rules, but_last, auto_rules, auto_rules_plain, unsize_rules, unsize_array_rules, unsize_to_dyn_rules, unsize_upcast_rules, unsize_struct_rules, last_unsizes, object_rules, object_bound_rules, is_declared, are_dyn_compatible, same_reference, elaborated, strict_supertraits, is_auto, is_written, is_fn_trait, sized, copy, clone, tuple_trait, fn_ptr_trait, unsize, row, last_asked, each_asked, fields_of, is_coinductive}
use Rattle.type_terms.specs.Promised.Proofs.{ProofEntry, In, Every, Stands, Follows, IsProof, HasProof}
use Rattle.type_terms.proofs.Members.{here, there, in-cases, in-nothing, in-append, in-left, in-map, in-flat}
use Rattle.type_terms.proofs.RuleLists.{append-all, if-all, unless-all, equal-all, flat-all, member-all}

pub map-in : {A B : Type 0} (f : A → B) (xs : List A) (y : B) → In y (map f xs) → (x : A) × In x xs × (f x ≡ y)
map-in f [] y h = absurd (in-nothing y h)
map-in {A = A} f (x ∷ xs) y h = by (in-cases y (f x) (map f xs) h) (map-in f xs y)
  where
    by : (f x ≡ y) ⊎ In y (map f xs) → (In y (map f xs) → (z : A) × In z xs × (f z ≡ y)) → (z : A) × In z (x ∷ xs) × (f z ≡ y)
    by (inl q) g = (x, here x xs, q)
    by (inr q) g = let r = g q in (r.0, there r.0 x xs r.1, r.2)

pub stands-more : (p : Reference) (xs ys : List ProofEntry) → Stands p xs → Stands p (xs ++ ys)
stands-more p xs ys h =
    let m = map-in (λ (e : ProofEntry). e.of) xs p h in
    subst (λ q. Stands q (xs ++ ys)) m.2 (in-map (λ (e : ProofEntry). e.of) (xs ++ ys) m.0 (in-left m.0 xs ys m.1))

pub every-map : {A : Type 0} (P Q : A → Type 0) (xs : List A) → ((x : A) → P x → Q x) → Every P xs → Every Q xs
every-map P Q [] f h = tt
every-map P Q (x ∷ xs) f h = (f x h.0, every-map P Q xs f h.1)

-- an entry's rule is one of its reference's, and its premises stand in the proof
pub entry-stands : (W : World) (E : List Reference) (all earlier rest : List ProofEntry) → all ≡ earlier ++ rest → Follows W E all earlier rest → (e : ProofEntry) → In e rest
    → In e.rule (rules W E e.of) × Every (λ p. Stands p all) e.rule.premises
entry-stands W E all earlier [] q f e h = absurd (in-nothing e h)
entry-stands W E all earlier (x ∷ rest) q f e h =
    by (in-cases e x rest h) (entry-stands W E all (earlier ++ x ∷ []) rest (q ∙ sym (append_assoc earlier (x ∷ []) rest)) f.2 e)
  where
    more : (b : Bool) (p : Reference) → Stands p (if b then all else earlier) → Stands p all
    more true p s = s
    more false p s = subst (Stands p) (sym q) (stands-more p earlier (x ∷ rest) s)

    by : (x ≡ e) ⊎ In e rest → (In e rest → In e.rule (rules W E e.of) × Every (λ p. Stands p all) e.rule.premises)
        → In e.rule (rules W E e.of) × Every (λ p. Stands p all) e.rule.premises
    by (inl z) g =
        subst (λ (y : ProofEntry). In y.rule (rules W E y.of) × Every (λ p. Stands p all) y.rule.premises) z
        (f.0, every-map (λ p. Stands p (if is_coinductive W x.of.trait then all else earlier)) (λ p. Stands p all) x.rule.premises (more (is_coinductive W x.of.trait)) f.1)
    by (inr z) g = g z

pub entry-proved : (W : World) (E : List Reference) (ps : List ProofEntry) → IsProof W E ps → (e : ProofEntry) → In e ps
    → In e.rule (rules W E e.of) × Every (HasProof W E) e.rule.premises
entry-proved W E ps f e h =
    let m = entry-stands W E ps [] ps refl f e h in
    (m.0, every-map (λ p. Stands p ps) (HasProof W E) e.rule.premises (λ p s. (ps, f, s)) m.1)

-- Built-in rules are of no impl
abbrev pub way-built-in : Way → Bool
way-built-in (built_in n) = true
way-built-in _ = false

abbrev is-built-in : Rule → Bool
is-built-in u = way-built-in u.way

abbrev Built : List Rule → Type 0
Built us = list_all is-built-in us ≡ true

sized-built : (W : World) (a : Trees) → Built (sized_rules W a)
sized-built W none = refl
sized-built W (tree (adt s) k o) = flat-all is-built-in (λ x. row sized_struct (last_asked sized (fields_of x k))) (structs_named W s) (λ x g. refl)
sized-built W (tree l k o) = refl

copy-built : (t : ℕ) (a : Trees) → Built (copy_rules t a)
copy-built t none = refl
copy-built t (tree (fn_ptr _) k o) = refl
copy-built t (tree tuple k o) = refl
copy-built t (tree l k o) = refl

tuple-built : (a : Trees) → Built (tuple_rules a)
tuple-built none = refl
tuple-built (tree tuple k o) = refl
tuple-built (tree l k o) = refl

fn-ptr-built : (a : Trees) → Built (fn_ptr_rules a)
fn-ptr-built none = refl
fn-ptr-built (tree (fn_ptr _) k o) = refl
fn-ptr-built (tree l k o) = refl

call-built : (a : Trees) → Built (call_rules a)
call-built (tree (fn_ptr _) types (tree tuple inputs o)) = if-all is-built-in (same (but_last types) inputs) (row fn_ptr_call (last_asked sized types)) refl
call-built a = refl

plain-built : (r : Reference) → Built (plain_rules r)
plain-built r =
    append-all is-built-in (if (r.trait == copy) || (r.trait == clone) then copy_rules r.trait r.args else []) _
    (if-all is-built-in ((r.trait == copy) || (r.trait == clone)) (copy_rules r.trait r.args) (copy-built r.trait r.args))
    (append-all is-built-in (if r.trait == tuple_trait then tuple_rules r.args else []) _
    (if-all is-built-in (r.trait == tuple_trait) (tuple_rules r.args) (tuple-built r.args))
    (append-all is-built-in (if r.trait == fn_ptr_trait then fn_ptr_rules r.args else []) _
    (if-all is-built-in (r.trait == fn_ptr_trait) (fn_ptr_rules r.args) (fn-ptr-built r.args))
    (if-all is-built-in (is_fn_trait r.trait) (call_rules r.args) (call-built r.args))))

auto-plain-built : (W : World) (t : ℕ) (a : Trees) → Built (auto_rules_plain W t a)
auto-plain-built W t none = refl
auto-plain-built W t (tree (adt s) k o) = flat-all is-built-in (λ x. row auto_struct (each_asked t (fields_of x k))) (structs_named W s) (λ x g. refl)
auto-plain-built W t (tree (raw_pointer _) none p) = refl
auto-plain-built W t (tree (raw_pointer _) (tree l k o) p) = refl
auto-plain-built W t (tree array none p) = refl
auto-plain-built W t (tree array (tree l k o) p) = refl
auto-plain-built W t (tree slice none p) = refl
auto-plain-built W t (tree slice (tree l k o) p) = refl
auto-plain-built W t (tree (ref _) none p) = refl
auto-plain-built W t (tree (ref _) (tree r rc none) p) = refl
auto-plain-built W t (tree (ref _) (tree r rc (tree l k o)) p) = refl
auto-plain-built W t (tree l k o) = refl

auto-built : (W : World) (t : ℕ) (a : Trees) → Built (auto_rules W t a)
auto-built W t none = refl
auto-built W t (tree l k o) = unless-all is-built-in (is_written W t l) (auto_rules_plain W t (tree l k o)) (auto-plain-built W t (tree l k o))

unsize-array-built : (a : Trees) → Built (unsize_array_rules a)
unsize-array-built (tree array (tree l c n) (tree slice (tree m d p) o)) = if-all is-built-in (same (tree l c none) (tree m d none)) (row unsize_array []) refl
unsize-array-built a = refl

unsize-to-dyn-built : (W : World) (a : Trees) → Built (unsize_to_dyn_rules W a)
unsize-to-dyn-built W (tree l c (tree dynamic b o)) = if-all is-built-in _ (row unsize_to_dyn _) refl
unsize-to-dyn-built W a = refl

upcasts-built : (W : World) (ps qs : List Reference) → Built (upcasts_principal W ps qs)
upcasts-built W ps [] = refl
upcasts-built W [] (q ∷ qs) = refl
upcasts-built W (p ∷ ps) (q ∷ qs) = by (p.trait == q.trait)
  where
    by : (b : Bool) → Built (if b then (if same_reference p q then row unsize_dyn [] else []) else equal_rows unsize_upcast [] q 1 (strict_supertraits W p))
    by true = if-all is-built-in (same_reference p q) (row unsize_dyn []) refl
    by false = equal-all is-built-in unsize_upcast [] q 1 (strict_supertraits W p) (λ n. refl)

unsize-upcast-built : (W : World) (a : Trees) → Built (unsize_upcast_rules W a)
unsize-upcast-built W (tree dynamic a (tree dynamic b o)) =
    let self = tree dynamic a none in
    let p = principal_with self a in
    let q = principal_with self b in
    if-all is-built-in (are_declared W p && upcasts_autos W p (autos_with self a) (autos_with self b)) (upcasts_principal W p q) (upcasts-built W p q)
unsize-upcast-built W a = refl

unsize-struct-built : (W : World) (a : Trees) → Built (unsize_struct_rules W a)
unsize-struct-built W (tree (adt s) a (tree (adt u) b o)) =
    if-all is-built-in (s == u) _ (flat-all is-built-in _ (structs_named W s) (λ x g. if-all is-built-in _ (row unsize_struct (last_unsizes x.fields a b)) refl))
unsize-struct-built W a = refl

unsize-built : (W : World) (a : Trees) → Built (unsize_rules W a)
unsize-built W a =
    append-all is-built-in (unsize_array_rules a) _ (unsize-array-built a)
    (append-all is-built-in (unsize_to_dyn_rules W a) _ (unsize-to-dyn-built W a)
    (append-all is-built-in (unsize_upcast_rules W a) _ (unsize-upcast-built W a) (unsize-struct-built W a)))

object-bound-built : (W : World) (r : Reference) (ps qs : List Reference) → Built (object_bound_rules W r ps qs)
object-bound-built W r ps qs =
    if-all is-built-in (is_declared W r.trait && are_dyn_compatible W ps) (autos ++ principal)
    (append-all is-built-in autos principal
    (if-all is-built-in (not (r.trait == sized) && list_any (same_reference r) qs) (row object_auto (strict_supertraits W r)) refl)
    (if-all is-built-in (not (r.trait == sized)) (equal_rows object_principal (strict_supertraits W r) r 0 (elaborated W ps))
    (equal-all is-built-in object_principal (strict_supertraits W r) r 0 (elaborated W ps) (λ n. refl))))
  where
    autos : List Rule
    autos = if not (r.trait == sized) && list_any (same_reference r) qs then row object_auto (strict_supertraits W r) else []

    principal : List Rule
    principal = if not (r.trait == sized) then equal_rows object_principal (strict_supertraits W r) r 0 (elaborated W ps) else []

object-built : (W : World) (r : Reference) (a : Trees) → Built (object_rules W r a)
object-built W r none = refl
object-built W r (tree dynamic k o) = object-bound-built W r _ _
object-built W r (tree l k o) = refl

built-in-built : (W : World) (r : Reference) → Built (built_in_rules W r)
built-in-built W r =
    append-all is-built-in (plain_rules r) _ (plain-built r)
    (append-all is-built-in (if r.trait == sized then sized_rules W r.args else []) _ (if-all is-built-in (r.trait == sized) (sized_rules W r.args) (sized-built W r.args))
    (append-all is-built-in (if is_auto W r.trait then auto_rules W r.trait r.args else []) _ (if-all is-built-in (is_auto W r.trait) (auto_rules W r.trait r.args) (auto-built W r.trait r.args))
    (append-all is-built-in (if r.trait == unsize then unsize_rules W r.args else []) _ (if-all is-built-in (r.trait == unsize) (unsize_rules W r.args) (unsize-built W r.args))
    (object-built W r r.args))))

pub built-in-way : (W : World) (r : Reference) (u : Rule) → In u (built_in_rules W r) → way-built-in u.way ≡ true
built-in-way W r u g = member-all is-built-in (built_in_rules W r) (built-in-built W r) u g

pub built-in-of-no-impl : (W : World) (r : Reference) (u : Rule) (n : ℕ) → In u (built_in_rules W r) → u.way ≡ by_impl n → ⊥
built-in-of-no-impl W r u n g e = no u.way e (member-all is-built-in (built_in_rules W r) (built-in-built W r) u g)
  where
    no : (w : Way) → w ≡ by_impl n → way-built-in w ≡ true → ⊥
    no (by_impl k) q b = cc
    no (by_clause k) q b = cc
    no (by_super k j) q b = cc
    no (built_in k) q b = cc

-- a rule of an impl, in a list of rules without where-clauses
pub of-an-impl : (W : World) (r : Reference) (u : Rule) (n : ℕ) → In u (rules W [] r) → u.way ≡ by_impl n → (i : ImplDecl) × In i W.impls × In u (impl_rules r i)
of-an-impl W r u n h e = by (in-append u (flat_map (impl_rules r) W.impls) (built_in_rules W r ++ []) h)
  where
    by : In u (flat_map (impl_rules r) W.impls) ⊎ In u (built_in_rules W r ++ []) → (i : ImplDecl) × In i W.impls × In u (impl_rules r i)
    by (inl g) = in-flat (impl_rules r) W.impls u g
    by (inr g) = no (in-append u (built_in_rules W r) [] g)
      where
        no : In u (built_in_rules W r) ⊎ In u [] → (i : ImplDecl) × In i W.impls × In u (impl_rules r i)
        no (inl q) = absurd (built-in-of-no-impl W r u n q e)
        no (inr q) = absurd (in-nothing u q)
