-- A proof by the rules of a crate's view is a proof in the linked set.
use Rattle.std.proofs.Common.{◌≡◌, ℕ, zero, suc, length, Bool, true, false, List, [], ◌∷◌, ◌++◌, refl, ap, sym, ◌∙◌, ◌&&◌, ◌||◌, ◌==◌, not, if◌then◌else◌, subst, ◌⊎◌, inl, inr, append_assoc}
use Rattle.std.specs.List.{flat_map, list_any}
use Rattle.type_terms.specs.Promised.Label.{Label, adt, array, slice, raw_pointer, ref, dynamic}
use Rattle.type_terms.specs.Promised.Trees.{Trees, none, tree}
use Rattle.type_terms.specs.Codes.{same}
use Rattle.type_terms.specs.Promised.Worlds.{World, Reference, StructDecl, TraitDecl, ImplDecl, structs_named, traits_named, sees, view_of, all_with_args}
use Rattle.type_terms.specs.Promised.Walks.{struct_is}
use Rattle.type_terms.specs.Promised.Rules.{clause_rules, super_rules, by_clause, same_reference, strict_supertraits, strict_supertraits_within, sized_struct, auto_struct, unsize_struct, Rule, rules, impl_rules, built_in_rules, plain_rules, sized_rules, auto_rules, auto_rules_plain, unsize_rules, unsize_array_rules, unsize_to_dyn_rules, unsize_upcast_rules, unsize_struct_rules, upcasts_principal, upcasts_autos, some_unsizing, with_unsizing, last_unsizes, object_rules, principal_with, autos_with, is_declared, are_declared, are_dyn_compatible, is_dyn, is_auto, is_written, same_head, sized, unsize, row, last_asked, each_asked, fields_of, is_coinductive}
use Rattle.type_terms.specs.Promised.Proofs.{ProofEntry, In, Stands, Follows, HasProof}
use Rattle.type_terms.specs.Promised.Renumbering.{View}
use Rattle.type_terms.specs.Promised.LinkedSet.{JoinedSet, AutoAtHome}
use Rattle.type_terms.proofs.Members.{true-or-false, in-nothing, in-filter, filter-in, some-member, member-some, in-append, in-left, in-right, in-flat, flat-in, not-both, so-false, same-number}
use Rattle.type_terms.proofs.Walking.{left, right, or-left, or-right, or-cases}
use Rattle.type_terms.proofs.Matching.{same-label-sound}
use Rattle.type_terms.proofs.ProofEntries.{every-map, stands-more}
use Rattle.type_terms.proofs.Unseen.{OneEach, struct-there}
use Rattle.type_terms.proofs.Supertraits.{same-supers}
use Rattle.type_terms.proofs.DynRows.{same-object-bounds, same-to-dyn, same-upcast, declared-seen, all-declared-seen}
use Rattle.type_terms.proofs.OpenWorld.{was-true}

struct-up : (W : World) (c s : ℕ) (x : StructDecl) → In x (structs_named (view_of W c) s) → In x (structs_named W s)
struct-up W c s x h =
    let a = in-filter (λ (y : StructDecl). y.name == s) (view_of W c).structs x h in
    filter-in (λ (y : StructDecl). y.name == s) W.structs x (in-filter (λ (y : StructDecl). sees W c y.home) W.structs x a.0).0 a.1

flat-up : (W : World) (c s : ℕ) (f : StructDecl → List Rule) (u : Rule) → In u (flat_map f (structs_named (view_of W c) s)) → In u (flat_map f (structs_named W s))
flat-up W c s f u h = let m = in-flat f (structs_named (view_of W c) s) u h in flat-in f (structs_named W s) m.0 u (struct-up W c s m.0 m.1) m.2

auto-up : (W : World) (c t : ℕ) → is_auto (view_of W c) t ≡ true → is_auto W t ≡ true
auto-up W c t h =
    let x = some-member (λ (y : TraitDecl). y.is_auto) (traits_named (view_of W c) t) h in
    let a = in-filter (λ (y : TraitDecl). y.name == t) (view_of W c).traits x.0 x.1 in
    member-some (λ (y : TraitDecl). y.is_auto) (traits_named W t) x.0 (filter-in (λ (y : TraitDecl). y.name == t) W.traits x.0 (in-filter (λ (y : TraitDecl). sees W c y.home) W.traits x.0 a.0).0 a.1) x.2

sized-up : (W : World) (c : ℕ) (a : Trees) (u : Rule) → In u (sized_rules (view_of W c) a) → In u (sized_rules W a)
sized-up W c none u h = h
sized-up W c (tree (adt s) k o) u h = flat-up W c s (λ x. row sized_struct (last_asked sized (fields_of x k))) u h
sized-up W c (tree l k o) u h = h

plain-up : (W : World) (c t : ℕ) (a : Trees) (u : Rule) → In u (auto_rules_plain (view_of W c) t a) → In u (auto_rules_plain W t a)
plain-up W c t none u h = h
plain-up W c t (tree (adt s) k o) u h = flat-up W c s (λ x. row auto_struct (each_asked t (fields_of x k))) u h
plain-up W c t (tree (raw_pointer _) none p) u h = h
plain-up W c t (tree (raw_pointer _) (tree l k o) p) u h = h
plain-up W c t (tree array none p) u h = h
plain-up W c t (tree array (tree l k o) p) u h = h
plain-up W c t (tree slice none p) u h = h
plain-up W c t (tree slice (tree l k o) p) u h = h
plain-up W c t (tree (ref _) none p) u h = h
plain-up W c t (tree (ref _) (tree r rc none) p) u h = h
plain-up W c t (tree (ref _) (tree r rc (tree l k o)) p) u h = h
plain-up W c t (tree l k o) u h = h

-- the struct of a rule that the view has is of the view
struct-of : (W : World) (c t s : ℕ) (k o : Trees) (u : Rule) → In u (auto_rules_plain (view_of W c) t (tree (adt s) k o)) → (x : StructDecl) × In x W.structs × (x.name ≡ s) × (sees W c x.home ≡ true)
struct-of W c t s k o u h =
    let m = in-flat (λ x. row auto_struct (each_asked t (fields_of x k))) (structs_named (view_of W c) s) u h in
    let a = in-filter (λ (y : StructDecl). y.name == s) (view_of W c).structs m.0 m.1 in
    let b = in-filter (λ (y : StructDecl). sees W c y.home) W.structs m.0 a.0 in
    (m.0, b.0, same-number m.0.name s a.1, b.1)

-- an impl that switches a rule of the view off is of the view
off : (W : World) → OneEach W → AutoAtHome W → (c t : ℕ) → is_auto W t ≡ true → (l : Label) (k o : Trees) (u : Rule) → In u (auto_rules_plain (view_of W c) t (tree l k o))
    → is_written (view_of W c) t l ≡ false → is_written W t l ≡ false
off W one home c t au l k o u h e = so-false _ (λ g. no (some-member (λ (i : ImplDecl). (i.header.trait == t) && same_head l i.header.args) W.impls g))
  where
    no : (i : ImplDecl) × In i W.impls × ((i.header.trait == t) && same_head l i.header.args ≡ true) → ⊥
    no m = by (home i m.1 (subst (λ v. is_auto W v ≡ true) (sym tr) au))
      where
        i : ImplDecl
        i = m.0

        tr : i.header.trait ≡ t
        tr = same-number i.header.trait t (left (i.header.trait == t) _ m.2)

        by : (s : ℕ) × (ks : Trees) × (os : Trees) × (i.header.args ≡ tree (adt s) ks os) × (struct_is (λ x. x.home == i.home) W s ≡ true) → ⊥
        by q = not-both (is_written (view_of W c) t l) on e
          where
            head : l ≡ adt q.0
            head = same-label-sound l (adt q.0) (subst (λ z. same_head l z ≡ true) q.3 (right (i.header.trait == t) _ m.2))

            x : (x : StructDecl) × In x W.structs × (x.name ≡ q.0) × (sees W c x.home ≡ true)
            x = struct-of W c t q.0 k o u (subst (λ z. In u (auto_rules_plain (view_of W c) t (tree z k o))) head h)

            y : (y : StructDecl) × In y W.structs × (y.name ≡ q.0) × ((y.home == i.home) ≡ true)
            y = struct-there (λ z. z.home == i.home) W q.0 q.4

            seen-home : sees W c i.home ≡ true
            seen-home = subst (λ v. sees W c v ≡ true) (ap (λ (z : StructDecl). z.home) (one.0 x.0 y.0 x.1 y.1 (x.2 ∙ sym y.2)) ∙ same-number y.0.home i.home y.3) x.3

            on : is_written (view_of W c) t l ≡ true
            on = member-some (λ (j : ImplDecl). (j.header.trait == t) && same_head l j.header.args) (view_of W c).impls i (filter-in (λ (j : ImplDecl). sees W c j.home) W.impls i m.1 seen-home) m.2

auto-rules-up : (W : World) → OneEach W → AutoAtHome W → (c t : ℕ) → is_auto W t ≡ true → (a : Trees) (u : Rule) → In u (auto_rules (view_of W c) t a) → In u (auto_rules W t a)
auto-rules-up W one home c t au none u h = h
auto-rules-up W one home c t au (tree l k o) u h = by (is_written (view_of W c) t l) (is_written W t l) refl refl h
  where
    by : (v w : Bool) → is_written (view_of W c) t l ≡ v → is_written W t l ≡ w → In u (if v then [] else auto_rules_plain (view_of W c) t (tree l k o))
        → In u (if w then [] else auto_rules_plain W t (tree l k o))
    by true w e f g = absurd (in-nothing u g)
    by false true e f g = absurd (not-both (is_written W t l) f (off W one home c t au l k o u g e))
    by false false e f g = plain-up W c t (tree l k o) u g

pub ups : (us vs us' vs' : List Rule) (u : Rule) → (In u us → In u us') → (In u vs → In u vs') → In u (us ++ vs) → In u (us' ++ vs')
ups us vs us' vs' u f g h = by (in-append u us vs h)
  where
    by : In u us ⊎ In u vs → In u (us' ++ vs')
    by (inl e) = in-left u us' vs' (f e)
    by (inr e) = in-right u us' vs' (g e)

cond-up : (b d : Bool) (us vs : List Rule) (u : Rule) → (b ≡ true → d ≡ true) → (b ≡ true → In u us → In u vs) → In u (if b then us else []) → In u (if d then vs else [])
cond-up true true us vs u f g h = g refl h
cond-up true false us vs u f g h = let e = f refl in absurd (not-both true refl (sym e))
cond-up false d us vs u f g h = absurd (in-nothing u h)

-- the rows of `dyn` and of unsizing: a rule that the view has says that c sees what it reads
object-up : (W : World) (vs : List View) (rank : ℕ → ℕ) (l : JoinedSet W vs rank) (c : ℕ) (r : Reference) (a : Trees) (u : Rule)
    → In u (object_rules (view_of W c) r a) → In u (object_rules W r a)
object-up W vs rank l c r none u h = h
object-up W vs rank l c r (tree dynamic k o) u h =
    subst (λ us. In u us)
    (same-object-bounds W vs rank l c r p q (declared-seen W vs rank l c r.trait (left (is_declared (view_of W c) r.trait) _ guard))
    (all-declared-seen W vs rank l c p (left (are_declared (view_of W c) p) _ (right (is_declared (view_of W c) r.trait) _ guard)))) h
  where
    p : List Reference
    p = principal_with (tree dynamic k none) k

    q : List Reference
    q = autos_with (tree dynamic k none) k

    guard : is_declared (view_of W c) r.trait && are_dyn_compatible (view_of W c) p ≡ true
    guard = (was-true (is_declared (view_of W c) r.trait && are_dyn_compatible (view_of W c) p) _ u h).0
object-up W vs rank l c r (tree m k o) u h = h

unsize-to-dyn-up : (W : World) (vs : List View) (rank : ℕ → ℕ) (l : JoinedSet W vs rank) (c : ℕ) (a : Trees) (u : Rule)
    → In u (unsize_to_dyn_rules (view_of W c) a) → In u (unsize_to_dyn_rules W a)
unsize-to-dyn-up W vs rank l c (tree m k (tree dynamic b o)) u h =
    subst (λ us. In u us) (same-to-dyn W vs rank l c m k b o (all-declared-seen W vs rank l c p (left (are_declared (view_of W c) p) _ (right (not (is_dyn m)) _ guard)))) h
  where
    p : List Reference
    p = principal_with (tree m k none) b

    guard : not (is_dyn m) && are_dyn_compatible (view_of W c) p ≡ true
    guard = (was-true (not (is_dyn m) && are_dyn_compatible (view_of W c) p) _ u h).0
unsize-to-dyn-up W vs rank l c a u h = h

unsize-upcast-up : (W : World) (vs : List View) (rank : ℕ → ℕ) (l : JoinedSet W vs rank) (c : ℕ) (a : Trees) (u : Rule)
    → In u (unsize_upcast_rules (view_of W c) a) → In u (unsize_upcast_rules W a)
unsize-upcast-up W vs rank l c (tree dynamic k (tree dynamic b o)) u h =
    subst (λ us. In u us) (same-upcast W vs rank l c k b o (all-declared-seen W vs rank l c p (left (are_declared (view_of W c) p) _ guard))) h
  where
    p : List Reference
    p = principal_with (tree dynamic k none) k

    q : List Reference
    q = autos_with (tree dynamic k none) k

    test : Bool
    test = upcasts_autos (view_of W c) p q (autos_with (tree dynamic k none) b)

    guard : are_declared (view_of W c) p && test ≡ true
    guard = (was-true (are_declared (view_of W c) p && test) (upcasts_principal (view_of W c) p (principal_with (tree dynamic k none) b)) u h).0
unsize-upcast-up W vs rank l c a u h = h

unsize-struct-up : (W : World) (c : ℕ) (a : Trees) (u : Rule) → In u (unsize_struct_rules (view_of W c) a) → In u (unsize_struct_rules W a)
unsize-struct-up W c (tree (adt s) x (tree (adt v) y o)) u h =
    cond-up (s == v) (s == v) (flat_map f (structs_named (view_of W c) s)) (flat_map f (structs_named W s)) u (λ e. e) (λ e g. flat-up W c s f u g) h
  where
    f : StructDecl → List Rule
    f d = if some_unsizing d.fields 0 x && same (with_unsizing d.fields 0 x y) y then row unsize_struct (last_unsizes d.fields x y) else []
unsize-struct-up W c a u h = h

unsize-up : (W : World) (vs : List View) (rank : ℕ → ℕ) (l : JoinedSet W vs rank) (c : ℕ) (a : Trees) (u : Rule) → In u (unsize_rules (view_of W c) a) → In u (unsize_rules W a)
unsize-up W vs rank l c a u =
    ups (unsize_array_rules a) (unsize_to_dyn_rules V a ++ (unsize_upcast_rules V a ++ unsize_struct_rules V a)) (unsize_array_rules a)
    (unsize_to_dyn_rules W a ++ (unsize_upcast_rules W a ++ unsize_struct_rules W a)) u (λ h. h)
    (ups (unsize_to_dyn_rules V a) (unsize_upcast_rules V a ++ unsize_struct_rules V a) (unsize_to_dyn_rules W a) (unsize_upcast_rules W a ++ unsize_struct_rules W a) u
    (unsize-to-dyn-up W vs rank l c a u)
    (ups (unsize_upcast_rules V a) (unsize_struct_rules V a) (unsize_upcast_rules W a) (unsize_struct_rules W a) u (unsize-upcast-up W vs rank l c a u) (unsize-struct-up W c a u)))
  where
    V : World
    V = view_of W c

-- the where-clauses give in the set what they give in the view
nothing-named : (xs : List TraitDecl) → list_any (λ (x : TraitDecl). true) xs ≡ false → xs ≡ []
nothing-named [] h = refl
nothing-named (x ∷ xs) h = cc

no-supers : (V : World) (r : Reference) → is_declared V r.trait ≡ false → strict_supertraits V r ≡ []
no-supers V r h = within (length V.traits)
  where
    within : (n : ℕ) → strict_supertraits_within n V r ≡ []
    within zero = refl
    within (suc n) =
        ap (λ ts. flat_map (λ s. s ∷ strict_supertraits_within n V s) (flat_map (λ (t : TraitDecl). all_with_args r.args t.bounds) ts)) (nothing-named (traits_named V r.trait) h)

clause-up : (W : World) (vs : List View) (rank : ℕ → ℕ) → JoinedSet W vs rank → (c : ℕ) (r : Reference) (k : ℕ) (E : List Reference) (u : Rule)
    → In u (clause_rules (view_of W c) r k E) → In u (clause_rules W r k E)
clause-up W vs rank l c r k [] u h = h
clause-up W vs rank l c r k (s ∷ ss) u h =
    ups (if same_reference s r then record { way = by_clause k; premises = [] } ∷ [] else []) (super_rules r k 0 (strict_supertraits (view_of W c) s) ++ clause_rules (view_of W c) r (suc k) ss)
    (if same_reference s r then record { way = by_clause k; premises = [] } ∷ [] else []) (super_rules r k 0 (strict_supertraits W s) ++ clause_rules W r (suc k) ss) u (λ g. g)
    (ups (super_rules r k 0 (strict_supertraits (view_of W c) s)) (clause_rules (view_of W c) r (suc k) ss) (super_rules r k 0 (strict_supertraits W s)) (clause_rules W r (suc k) ss) u
    (by (true-or-false (is_declared (view_of W c) s.trait))) (clause-up W vs rank l c r (suc k) ss u)) h
  where
    by : (is_declared (view_of W c) s.trait ≡ true) ⊎ (is_declared (view_of W c) s.trait ≡ false) → In u (super_rules r k 0 (strict_supertraits (view_of W c) s)) → In u (super_rules r k 0 (strict_supertraits W s))
    by (inl e) g = subst (λ z. In u (super_rules r k 0 z)) (same-supers W vs rank l c s (declared-seen W vs rank l c s.trait e)) g
    by (inr e) g = absurd (in-nothing u (subst (λ z. In u (super_rules r k 0 z)) (no-supers (view_of W c) s e) g))

-- the rules of a view are rules of the set
pub rules-up : (W : World) (vs : List View) (rank : ℕ → ℕ) → JoinedSet W vs rank → (c : ℕ) (E : List Reference) (r : Reference) (u : Rule) → In u (rules (view_of W c) E r) → In u (rules W E r)
rules-up W vs rank l c E r u =
    ups (flat_map (impl_rules r) V.impls) (built_in_rules V r ++ clause_rules V r 0 E) (flat_map (impl_rules r) W.impls) (built_in_rules W r ++ clause_rules W r 0 E) u
    (λ h. let m = in-flat (impl_rules r) V.impls u h in flat-in (impl_rules r) W.impls m.0 u (in-filter (λ (i : ImplDecl). sees W c i.home) W.impls m.0 m.1).0 m.2)
    (ups (built_in_rules V r) (clause_rules V r 0 E) (built_in_rules W r) (clause_rules W r 0 E) u built (clause-up W vs rank l c r 0 E u))
  where
    V : World
    V = view_of W c

    t : ℕ
    t = r.trait

    a : Trees
    a = r.args

    one : OneEach W
    one = (l.fits.one_struct, l.fits.one_trait)

    s1 : World → List Rule
    s1 U = if t == sized then sized_rules U a else []

    s2 : World → List Rule
    s2 U = if is_auto U t then auto_rules U t a else []

    s3 : World → List Rule
    s3 U = if t == unsize then unsize_rules U a else []

    built : In u (built_in_rules V r) → In u (built_in_rules W r)
    built =
        ups (plain_rules r) (s1 V ++ (s2 V ++ (s3 V ++ object_rules V r a))) (plain_rules r) (s1 W ++ (s2 W ++ (s3 W ++ object_rules W r a))) u (λ h. h)
        (ups (s1 V) (s2 V ++ (s3 V ++ object_rules V r a)) (s1 W) (s2 W ++ (s3 W ++ object_rules W r a)) u
        (cond-up (t == sized) (t == sized) (sized_rules V a) (sized_rules W a) u (λ e. e) (λ e h. sized-up W c a u h))
        (ups (s2 V) (s3 V ++ object_rules V r a) (s2 W) (s3 W ++ object_rules W r a) u
        (cond-up (is_auto V t) (is_auto W t) (auto_rules V t a) (auto_rules W t a) u (auto-up W c t)
        (λ e h. auto-rules-up W one l.rules.autos_at_home c t (auto-up W c t e) a u h))
        (ups (s3 V) (object_rules V r a) (s3 W) (object_rules W r a) u
        (cond-up (t == unsize) (t == unsize) (unsize_rules V a) (unsize_rules W a) u (λ e. e) (λ e h. unsize-up W vs rank l c a u h))
        (object-up W vs rank l c r a u))))

-- A proof by the view is a proof by the set
coinductive-up : (W : World) (c t : ℕ) → is_coinductive (view_of W c) t ≡ true → is_coinductive W t ≡ true
coinductive-up W c t h = by (or-cases (is_auto (view_of W c) t) (t == sized) h)
  where
    by : (is_auto (view_of W c) t ≡ true) ⊎ ((t == sized) ≡ true) → is_auto W t || (t == sized) ≡ true
    by (inl e) = or-left (is_auto W t) _ (auto-up W c t e)
    by (inr e) = or-right (is_auto W t) (t == sized) e

follows-up : (W : World) (vs : List View) (rank : ℕ → ℕ) → JoinedSet W vs rank → (c : ℕ) (E : List Reference) (all earlier rest : List ProofEntry) → all ≡ earlier ++ rest
    → Follows (view_of W c) E all earlier rest → Follows W E all earlier rest
follows-up W vs rank l c E all earlier [] q f = tt
follows-up W vs rank l c E all earlier (e ∷ rest) q f = (
  rules-up W vs rank l c E e.of e.rule f.0,
  every-map (λ p. Stands p (if is_coinductive (view_of W c) e.of.trait then all else earlier)) (λ p. Stands p (if is_coinductive W e.of.trait then all else earlier))
      e.rule.premises (at (is_coinductive (view_of W c) e.of.trait) (is_coinductive W e.of.trait) (coinductive-up W c e.of.trait)) f.1,
  follows-up W vs rank l c E all (earlier ++ e ∷ []) rest (q ∙ sym (append_assoc earlier (e ∷ []) rest)) f.2,
)
  where
    at : (v w : Bool) → (v ≡ true → w ≡ true) → (p : Reference) → Stands p (if v then all else earlier) → Stands p (if w then all else earlier)
    at true true g p s = s
    at true false g p s = absurd (not-both true refl (sym (g refl)))
    at false true g p s = subst (Stands p) (sym q) (stands-more p earlier (e ∷ rest) s)
    at false false g p s = s

pub proof-up : (W : World) (vs : List View) (rank : ℕ → ℕ) → JoinedSet W vs rank → (c : ℕ) (E : List Reference) (r : Reference) → HasProof (view_of W c) E r → HasProof W E r
proof-up W vs rank l c E r p = (p.0, follows-up W vs rank l c E p.0 [] p.0 refl p.1, p.2)
