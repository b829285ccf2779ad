-- What has a proof from where-clauses by the view of an answer is entailed by them in each linked set with the view.
use Rattle.std.proofs.Common.{◌≡◌, ◌⊎◌, inl, inr, ◌==◌, ℕ, Bool, true, false, List, [], ◌∷◌, ◌++◌, map, refl, sym, ap, ◌&&◌, subst, if◌then◌else◌}
use Rattle.std.specs.List.{flat_map}
use Rattle.type_terms.specs.Promised.Label.{Label, Sort, of_type, of_const, of_lifetime, never, dynamic, bound, placeholder, inside, shift_label}
use Rattle.type_terms.specs.Promised.Trees.{Trees, none, tree, ◌+++◌, sort_of, some_node, IsA}
use Rattle.type_terms.specs.Promised.Worlds.{World, Reference}
use Rattle.type_terms.specs.Promised.Rules.{Rule, rules, impl_rules, built_in_rules, clause_rules, strict_supertraits, is_auto, is_written, auto_rules, is_declared, are_dyn_compatible, object_rules, principal_with, asked, sized}
use Rattle.type_terms.specs.Promised.Proofs.{ProofEntry, In, Every, Stands, IsProof, HasProof}
use Rattle.type_terms.specs.Promised.Answers.{is_open}
use Rattle.type_terms.specs.Promised.Renumbering.{View, view_before, asker_in_set, renumbered_reference}
use Rattle.type_terms.specs.Promised.LinkedSet.{JoinedSet, LinkedSet, InEveryLinkedSet}
use Rattle.type_terms.proofs.Members.{here, there, in-cases, in-nothing, in-append, in-flat, flat-in, in-map, self-number, not-both}
use Rattle.type_terms.proofs.TermBasics.{node}
use Rattle.type_terms.proofs.ProofEntries.{map-in, entry-proved}
use Rattle.type_terms.proofs.Fitting.{impl-rule, not-true, child-shut}
use Rattle.type_terms.proofs.OpenWorld.{was-true}
use Rattle.type_terms.proofs.NoHolds.{every-member}
use Rattle.type_terms.proofs.ProofLists.{all-stand}
use Rattle.type_terms.proofs.SupersProved.{supers-proved-for-all}
use Rattle.type_terms.proofs.LaterVersions.{proof-before}
use Rattle.type_terms.proofs.RenumberedAnswers.{proof-there}
use Rattle.type_terms.proofs.FilledTrees.{Filling, put}
use Rattle.type_terms.proofs.FilledRules.{PlainWorld, over-supers}
use Rattle.type_terms.proofs.Fillings.{shift-shut}
use Rattle.type_terms.proofs.Discharged.{Given, given, discharged}
use Rattle.type_terms.proofs.ArrangedTrees.{reference-at}
use Rattle.sessions.specs.Promised.Together.{filled_references}
use Rattle.type_terms.proofs.JoinedParts.{map-written}
use Rattle.sessions.specs.Promised.Entailment.{ClosedArguments, closed_instance, closed_bounds, closed_reference, HasClosedProof, Entails, YesHolds}

-- ---- arguments as a filling
abbrev head_of : Trees → Label
head_of none = never
head_of (tree l c o) = l

abbrev inner_of : Trees → Trees
inner_of none = none
inner_of (tree l c o) = c

head-sorted : (s : Sort) (t : Trees) → IsA s t → sort_of (head_of t) ≡ s
head-sorted s none h = absurd h
head-sorted of_lifetime (tree l c o) h = h.0
head-sorted of_type (tree l c o) h = h.0
head-sorted of_const (tree l c o) h = h.0

inner-bare : (t : Trees) → IsA of_lifetime t → inner_of t ≡ none
inner-bare none h = refl
inner-bare (tree l c o) h = h.1

inner-shut : (t : Trees) → some_node is_open t ≡ false → some_node is_open (inner_of t) ≡ false
inner-shut none h = refl
inner-shut (tree l c o) h = child-shut is_open l c o h

head-shut-of : (t : Trees) → some_node is_open t ≡ false → (d a : ℕ) → shift_label d a (head_of t) ≡ head_of t
head-shut-of none h d a = refl
head-shut-of (tree (bound s k v) c o) h d a = cc
head-shut-of (tree l c o) h d a = refl

shut : (A : ClosedArguments) (s : Sort) (i : ℕ) → some_node is_open (A.term s i) ≡ false
shut A s i = not-true (some_node is_open (A.term s i)) (A.closed s i)

abbrev filling_of : ClosedArguments → Filling
filling_of A = record {
  label = λ s i. head_of (A.term s i);
  inner = λ s i. inner_of (A.term s i);
  sorted = λ s i. head-sorted s (A.term s i) (A.of_kind s i);
  bare = λ i. inner-bare (A.term of_lifetime i) (A.of_kind of_lifetime i);
  label_stays = λ d a s i. head-shut-of (A.term s i) (shut A s i) d a;
  inner_stays = λ d a s i. shift-shut (inside (head_of (A.term s i)) d) a (inner_of (A.term s i)) (inner-shut (A.term s i) (shut A s i));
}

-- one term, with what follows it
one-term : (s : Sort) (x : Trees) → IsA s x → {y z : Trees} → y ≡ z → tree (head_of x) (inner_of x) y ≡ x +++ z
one-term s none h e = absurd h
one-term of_lifetime (tree l c o) h {y = y} {z = z} e = subst (λ w. tree l c y ≡ tree l c (w +++ z)) (sym h.2) (ap (tree l c) e)
one-term of_type (tree l c o) h {y = y} {z = z} e = subst (λ w. tree l c y ≡ tree l c (w +++ z)) (sym h.1) (ap (tree l c) e)
one-term of_const (tree l c o) h {y = y} {z = z} e = subst (λ w. tree l c y ≡ tree l c (w +++ z)) (sym h.1) (ap (tree l c) e)

module _ (A : ClosedArguments) where
  mutual
    instance-is : (t : Trees) → put (filling_of A) true t ≡ closed_instance A t
    instance-is none = refl
    instance-is (tree (placeholder s i) c o) = one-term s (A.term s i) (A.of_kind s i) (instance-is o)
    instance-is (tree dynamic c o) = node refl (bounds-are c) (instance-is o)
    instance-is (tree l c o) = node refl (instance-is c) (instance-is o)

    bounds-are : (t : Trees) → put (filling_of A) false t ≡ closed_bounds A t
    bounds-are none = refl
    bounds-are (tree (placeholder s i) c o) = node refl (instance-is c) (bounds-are o)
    bounds-are (tree dynamic c o) = node refl (bounds-are c) (bounds-are o)
    bounds-are (tree l c o) = node refl (instance-is c) (bounds-are o)

-- ---- a joined set
neither : {u : Rule} (b : Bool) → In u (if b then [] else []) → ⊥
neither {u = u} true h = in-nothing u h
neither {u = u} false h = in-nothing u h

module _ (W : World) (vs : List View) (rank : ℕ → ℕ) (l : JoinedSet W vs rank) where
  -- no impl is of `Sized`, no `dyn` is, and a parameter is by where-clauses alone
  not-by-impl : (a : Trees) (u : Rule) → In u (flat_map (impl_rules (asked sized a)) W.impls) → ⊥
  not-by-impl a u h =
      let m = in-flat (impl_rules (asked sized a)) W.impls u h in
      let b = impl-rule (asked sized a) m.0 u m.2 in
      not-both (m.0.header.trait == sized) (subst (λ n. (n == sized) ≡ true) (sym (ap (λ (x : Reference). x.trait) b.is-instance)) (self-number sized)) (l.rules.sized_alone m.0 m.1)

  no-row-of-dyn : (c : Trees) (u : Rule) → In u (built_in_rules W (asked sized (tree dynamic c none))) → ⊥
  no-row-of-dyn c u h = by (in-append u (if is_auto W sized then auto_rules W sized (tree dynamic c none) else []) _ h)
    where
      by : In u (if is_auto W sized then auto_rules W sized (tree dynamic c none) else []) ⊎ In u (object_rules W (asked sized (tree dynamic c none)) (tree dynamic c none)) → ⊥
      by (inl k) = neither (is_written W sized dynamic) (was-true (is_auto W sized) (auto_rules W sized (tree dynamic c none)) u k).1
      by (inr k) = neither (is_declared W sized && are_dyn_compatible W (principal_with (tree dynamic c none) c)) k

  never-sized : (c : Trees) → HasProof W [] (asked sized (tree dynamic c none)) → ⊥
  never-sized c p = no-rule m.0.rule (subst (λ r. In m.0.rule (rules W [] r)) m.2 (entry-proved W [] p.0 p.1 m.0 m.1).0)
    where
      d : Reference
      d = asked sized (tree dynamic c none)

      m : (e : ProofEntry) × In e p.0 × (e.of ≡ d)
      m = map-in (λ (e : ProofEntry). e.of) p.0 d p.2

      no-rule : (u : Rule) → In u (rules W [] d) → ⊥
      no-rule u h = by (in-append u (flat_map (impl_rules d) W.impls) _ h)
        where
          rest : In u (built_in_rules W d) ⊎ In u [] → ⊥
          rest (inl k) = no-row-of-dyn c u k
          rest (inr k) = in-nothing u k

          by : In u (flat_map (impl_rules d) W.impls) ⊎ In u (built_in_rules W d ++ []) → ⊥
          by (inl k) = not-by-impl (tree dynamic c none) u k
          by (inr k) = rest (in-append u (built_in_rules W d) [] k)

  sized-by-clauses : (E : List Reference) (s : Sort) (i : ℕ) (c : Trees) (u : Rule) → In u (rules W E (asked sized (tree (placeholder s i) c none)))
      → In u (clause_rules W (asked sized (tree (placeholder s i) c none)) 0 E)
  sized-by-clauses E s i c u h = by (in-append u (flat_map (impl_rules r) W.impls) (built_in_rules W r ++ clause_rules W r 0 E) h)
    where
      r : Reference
      r = asked sized (tree (placeholder s i) c none)

      no-row : In u (if is_auto W sized then auto_rules W sized (tree (placeholder s i) c none) else []) ⊎ In u [] → ⊥
      no-row (inl k) = neither (is_written W sized (placeholder s i)) (was-true (is_auto W sized) (auto_rules W sized (tree (placeholder s i) c none)) u k).1
      no-row (inr k) = in-nothing u k

      rest : In u (built_in_rules W r) ⊎ In u (clause_rules W r 0 E) → In u (clause_rules W r 0 E)
      rest (inl k) = absurd (no-row (in-append u (if is_auto W sized then auto_rules W sized (tree (placeholder s i) c none) else []) [] k))
      rest (inr k) = k

      by : In u (flat_map (impl_rules r) W.impls) ⊎ In u (built_in_rules W r ++ clause_rules W r 0 E) → In u (clause_rules W r 0 E)
      by (inl k) = absurd (not-by-impl (tree (placeholder s i) c none) u k)
      by (inr k) = rest (in-append u (built_in_rules W r) (clause_rules W r 0 E) k)

-- the reference with the filling
abbrev pub put_in : Filling → Reference → Reference
put_in σ r = record { trait = r.trait; args = put σ true r.args }

-- ---- a linked set
module _ (W : World) (vs : List View) (rank : ℕ → ℕ) (l : LinkedSet W vs rank) where
  -- where the filled clauses have proofs, so has what they prove
  pub filled-proved : (σ : Filling) (E : List Reference) (r : Reference) → HasProof W E r → ((k : Reference) → In k E → HasClosedProof W (put_in σ k)) → HasProof W [] (put_in σ r)
  filled-proved σ E r p proved = discharged W w σ E (never-sized W vs rank l.joined) (sized-by-clauses W vs rank l.joined E) base.0 base.1 base-has p.0 p.1 r p.2
    where
      w : PlainWorld W
      w = map-written W (λ t p. (p.open_places, p.dyns)) l.joined.rules.plain

      -- what the clauses give
      gives : Reference → List Reference
      gives k = put_in σ k ∷ strict_supertraits W (put_in σ k)

      all-given : List Reference
      all-given = flat_map gives E

      of-one : (k : Reference) → HasClosedProof W k → (x : Reference) → (k ≡ x) ⊎ In x (strict_supertraits W k) → HasProof W [] x
      of-one k h x (inl e) = subst (HasProof W []) e h.1
      of-one k h x (inr m) = every-member (HasProof W []) (strict_supertraits W k) x (supers-proved-for-all W vs rank l k h.0 h.1) m

      each : (xs : List Reference) → ((x : Reference) → In x xs → HasProof W [] x) → Every (HasProof W []) xs
      each [] f = tt
      each (x ∷ xs) f = (f x (here x xs), each xs (λ y m. f y (there y x xs m)))

      all-proved : Every (HasProof W []) all-given
      all-proved = each all-given (λ x m. let n = in-flat gives E x m in of-one (put_in σ n.0) (proved n.0 n.1) x (in-cases x (put_in σ n.0) (strict_supertraits W (put_in σ n.0)) n.2))

      base : (qs : List ProofEntry) × IsProof W [] qs × Every (λ x. Stands x qs) all-given
      base = all-stand W [] all-given all-proved

      stands : (s x : Reference) → In s E → In x (gives s) → Stands x base.0
      stands s x m g = every-member (λ y. Stands y base.0) all-given x base.2 (flat-in gives E s x m g)

      base-has : (x : Reference) → Given W E x → Stands (put_in σ x) base.0
      base-has x (given s m d) = at d
        where
          at : (s ≡ x) ⊎ In x (strict_supertraits W s) → Stands (put_in σ x) base.0
          at (inl e) = subst (λ y. Stands (put_in σ y) base.0) e (stands s (put_in σ s) m (here (put_in σ s) _))
          at (inr g) =
              stands s (put_in σ x) m
              (there (put_in σ x) (put_in σ s) (strict_supertraits W (put_in σ s))
              (subst (In (put_in σ x)) (over-supers W w σ s) (in-map (put_in σ) (strict_supertraits W s) x g)))

  instance-proved : (E : List Reference) (r : Reference) → HasProof W E r → (A : ClosedArguments) → Every (HasClosedProof W) (map (closed_reference A) E) → HasProof W [] (closed_reference A r)
  instance-proved E r p A proved =
      subst (HasProof W []) (named r)
      (filled-proved (filling_of A) E r p
      (λ k m. subst (HasClosedProof W) (sym (named k)) (every-member (HasClosedProof W) (map (closed_reference A) E) (closed_reference A k) proved (in-map (closed_reference A) E k m))))
    where
      named : (x : Reference) → put_in (filling_of A) x ≡ closed_reference A x
      named x = reference-at x.trait (instance-is A x.args)

  pub entailed : (E : List Reference) (r : Reference) → HasProof W E r → Entails W E r
  entailed E r p = record { generic = p; instances = instance-proved E r p }

-- a `yes` holds in each set with its view
pub yes-holds : InEveryLinkedSet YesHolds
yes-holds W vs rank l v s ks ts E rs a = each (filled_references ks ts rs) a.1
  where
    one : (x : Reference) → HasProof v.world E x → Entails W (map (renumbered_reference v.numbers) E) (renumbered_reference v.numbers x)
    one x p =
        entailed W vs rank l (map (renumbered_reference v.numbers) E) (renumbered_reference v.numbers x)
        (proof-before W vs rank l.joined (asker_in_set v) (view_before W v).impls s.later (map (renumbered_reference v.numbers) E) (renumbered_reference v.numbers x)
        (proof-there v.numbers v.world (view_before W v) s.renumbers E x p))

    each : (xs : List Reference) → Every (HasProof v.world E) xs → Every (λ x. Entails W (map (renumbered_reference v.numbers) E) (renumbered_reference v.numbers x)) xs
    each [] h = tt
    each (x ∷ xs) h = (one x h.0, each xs h.1)
