-- Where each old impl has a proof of its header from its where-clauses, what had a proof has one.
use Rattle.std.proofs.Common.{◌≡◌, ◌⊎◌, inl, inr, ◌==◌, ℕ, zero, suc, Bool, true, false, List, [], ◌∷◌, ◌++◌, map, refl, sym, ap, ◌∙◌, subst, if◌then◌else◌, append_assoc}
use Rattle.std.specs.List.{flat_map}
use Rattle.type_terms.specs.Promised.Trees.{Trees, some_node}
use Rattle.type_terms.specs.Trees.{arguments}
use Rattle.type_terms.specs.Promised.Worlds.{World, Reference, ImplDecl, sees, view_of, with_args}
use Rattle.type_terms.specs.Promised.Rules.{Rule, rules, impl_rules, built_in_rules, plain_rules, sized_rules, auto_rules, unsize_rules, object_rules, strict_supertraits, is_auto, is_coinductive, sized, unsize}
use Rattle.type_terms.specs.Promised.Proofs.{ProofEntry, In, Every, Stands, Follows, IsProof, HasProof}
use Rattle.type_terms.specs.Promised.Answers.{is_open, is_closed}
use Rattle.type_terms.specs.Promised.Walks.{is_known_in}
use Rattle.type_terms.specs.Promised.Supers.{opaque_reference}
use Rattle.type_terms.specs.Promised.Renumbering.{View, renumbered_reference}
use Rattle.type_terms.specs.Promised.Questions.{filled_reference}
use Rattle.type_terms.specs.Wider.{anything}
use Rattle.type_terms.specs.Promised.LinkedSet.{JoinedSet, LinkedSet, InEveryLinkedSet}
use Rattle.type_terms.proofs.Members.{in-cases, in-nothing, in-append, in-left, in-right, in-flat, flat-in, in-filter, in-map}
use Rattle.type_terms.proofs.ProofEntries.{map-in}
use Rattle.type_terms.proofs.Fitting.{ByImpl, impl-rule, closed-arguments, not-true}
use Rattle.type_terms.proofs.Matching.{or-false-left}
use Rattle.type_terms.proofs.NoHolds.{every-member, shut}
use Rattle.type_terms.proofs.ProofLists.{by-rule, stands-after, stands-split}
use Rattle.type_terms.proofs.ViewProofs.{ups, rules-up}
use Rattle.type_terms.proofs.OtherImpls.{sized-same, unsize-same, object-same}
use Rattle.type_terms.proofs.WiderProofs.{above-has-rules}
use Rattle.type_terms.proofs.WiderSets.{proofs-above}
use Rattle.type_terms.proofs.FilledTrees.{Filling}
use Rattle.type_terms.proofs.Fillings.{filling, fits-meets, fits-mentioned, meets-mentioned, over-opaque}
use Rattle.type_terms.proofs.ArrangedTrees.{reference-at}
use Rattle.type_terms.proofs.JoinedParts.{ImplObeys, impl-rules}
use Rattle.sessions.specs.Promised.Entailment.{HasClosedProof}
use Rattle.sessions.specs.Promised.Releases.{KeepsWhatHeld, OldProofsStay}
use Rattle.sessions.specs.Later.{OldRefutationsStay}
use Rattle.sessions.proofs.Entailment.{put_in, filled-proved}

module _ (W : World) (us : List View) (rank : ℕ → ℕ) (l : LinkedSet W us rank) (old : World) (vs : List View) (before : ℕ → ℕ) (o : JoinedSet old vs before) (c : ℕ) (k : KeepsWhatHeld (view_of old c) (view_of W c) W) where
  abbrev V : World
  V = view_of old c

  abbrev U : World
  U = view_of W c

  -- what is seen now is what was seen, with other crates and impls
  same : U ≡ record V { crates = U.crates; impls = U.impls }
  same = join U.crates V.structs U.structs V.traits U.traits U.impls k.structs k.traits
    where
      join : (cs : _) (ss ss' : _) (ts ts' : _) (is : _) → ss' ≡ ss → ts' ≡ ts
          → (let X : World = record { crates = cs; structs = ss'; traits = ts'; impls = is } in X) ≡ record { crates = cs; structs = ss; traits = ts; impls = is }
      join cs ss ss' ts ts' is p q = cc

  seen-impl : (i : ImplDecl) → In i V.impls → In i old.impls
  seen-impl i m = (in-filter (λ (x : ImplDecl). sees old c x.home) old.impls i m).0

  -- built-in rules of traits that are not auto stay
  built-in-stays : (r : Reference) → is_auto V r.trait ≡ false → (u : Rule) → In u (built_in_rules V r) → In u (built_in_rules U r)
  built-in-stays r a u g = subst (λ (X : World). In u (built_in_rules X r)) (sym same) (there-too g)
    where
      X : World
      X = record V { crates = U.crates; impls = U.impls }

      no-auto : (b : Bool) → b ≡ false → In u (if b then auto_rules V r.trait r.args else []) → In u (if b then auto_rules X r.trait r.args else [])
      no-auto true e m = cc
      no-auto false e m = m

      there-too : In u (built_in_rules V r) → In u (built_in_rules X r)
      there-too =
          ups (plain_rules r) _ (plain_rules r) _ u (λ m. m)
          (ups (if r.trait == sized then sized_rules V r.args else []) _ (if r.trait == sized then sized_rules X r.args else []) _ u
          (λ m. subst (λ z. In u (if r.trait == sized then z else [])) (sym (sized-same V U.crates U.impls r.args)) m)
          (ups (if is_auto V r.trait then auto_rules V r.trait r.args else []) _ (if is_auto V r.trait then auto_rules X r.trait r.args else []) _ u (no-auto (is_auto V r.trait) a)
          (ups (if r.trait == unsize then unsize_rules V r.args else []) (object_rules V r r.args) (if r.trait == unsize then unsize_rules X r.args else []) (object_rules X r r.args) u
          (λ m. subst (λ z. In u (if r.trait == unsize then z else [])) (sym (unsize-same V U.crates U.impls r.args)) m)
          (λ m. subst (In u) (sym (object-same V U.crates U.impls r r.args)) m))))

  -- premises of closed references are closed
  closed-premise : (r : Reference) → is_closed r.args ≡ true → (u : Rule) → In u (rules V [] r) → (p : Reference) → In p u.premises → is_closed p.args ≡ true
  closed-premise r z u h p g =
      shut old vs before o c r p z
      (in-left p (flat_map (λ (x : Rule). x.premises) (rules V [] r)) (if is_known_in V c r then [] else strict_supertraits V r)
      (flat-in (λ (x : Rule). x.premises) (rules V [] r) u p h g))

  -- an instance of an old impl whose where-clauses have proofs
  impl-holds : (r : Reference) → is_closed r.args ≡ true → is_auto V r.trait ≡ false → (i : ImplDecl) → In i V.impls → (u : Rule) → In u (impl_rules r i)
      → ((p : Reference) → In p u.premises → HasClosedProof W p) → HasProof W [] r
  impl-holds r z a i m u g proved =
      subst (HasProof W []) (header-is ∙ b.is-instance)
      (filled-proved W us rank l σ (map opaque_reference i.clauses) (opaque_reference i.header) (k.impls i m (ap (λ t. is_auto V t) (ap (λ (x : Reference). x.trait) b.is-instance) ∙ a)) clause-proved)
    where
      b : ByImpl r i u
      b = impl-rule r i u g

      A : Trees
      A = arguments i.params i.header.args r.args

      open-none : some_node is_open A ≡ false
      open-none = not-true (some_node is_open A) (closed-arguments i.params i.header.args r.args z)

      σ : Filling
      σ = filling A open-none

      obeys : ImplObeys old i
      obeys = impl-rules old o.rules i (seen-impl i m)

      header-is : put_in σ (opaque_reference i.header) ≡ with_args A i.header
      header-is =
          reference-at i.header.trait
          (over-opaque A open-none i.header.args (obeys.plain_header.open_places, obeys.plain_header.dyns) obeys.plain_header.term (fits-meets A i.header.args b.fitting))

      clause-is : (q : Reference) → In q i.clauses → put_in σ (opaque_reference q) ≡ with_args A q
      clause-is q n =
          let y = obeys.plain_clauses q n in
          reference-at q.trait
          (over-opaque A open-none q.args (y.open_places, y.dyns) y.term (meets-mentioned A q.args (λ s x e. fits-mentioned A i.header.args b.fitting s x (obeys.covered q n s x e))))

      clause-proved : (q : Reference) → In q (map opaque_reference i.clauses) → HasClosedProof W (put_in σ q)
      clause-proved q n =
          let x = map-in opaque_reference i.clauses q n in
          subst (λ y. HasClosedProof W (put_in σ y)) x.2
          (subst (HasClosedProof W) (sym (clause-is x.0 x.1))
          (proved (with_args A x.0) (subst (λ (v : Rule). In (with_args A x.0) v.premises) b.is-rule (in-map (with_args A) i.clauses x.0 x.1))))

  -- a rule of a trait that is not coinductive
  rule-holds : (r : Reference) → is_closed r.args ≡ true → is_coinductive V r.trait ≡ false → (u : Rule) → In u (rules V [] r) → ((p : Reference) → In p u.premises → HasClosedProof W p) → HasProof W [] r
  rule-holds r z n u h proved = by (in-append u (flat_map (impl_rules r) V.impls) (built_in_rules V r ++ []) h)
    where
      a : is_auto V r.trait ≡ false
      a = or-false-left (is_auto V r.trait) (r.trait == sized) n

      each : (ps : List Reference) → ((p : Reference) → In p ps → HasClosedProof W p) → Every (HasProof W []) ps
      each [] f = tt
      each (p ∷ ps) f = ((f p (zero, refl)).1, each ps (λ q m. f q (suc m.0, m.1)))

      rest : In u (built_in_rules V r) ⊎ In u [] → HasProof W [] r
      rest (inl g) =
          by-rule W [] r u
          (rules-up W us rank l.joined c [] r u (in-right u (flat_map (impl_rules r) U.impls) (built_in_rules U r ++ []) (in-left u (built_in_rules U r) [] (built-in-stays r a u g))))
          (each u.premises proved)
      rest (inr g) = absurd (in-nothing u g)

      by : In u (flat_map (impl_rules r) V.impls) ⊎ In u (built_in_rules V r ++ []) → HasProof W [] r
      by (inl g) = let m = in-flat (impl_rules r) V.impls u g in impl-holds r z a m.0 m.1 u m.2 proved
      by (inr g) = rest (in-append u (built_in_rules V r) [] g)

  -- ---- a proof, entry by entry
  module _ (ps : List ProofEntry) (whole : IsProof V [] ps) where
    Holds : List ProofEntry → Type 0
    Holds es = (p : Reference) → is_closed p.args ≡ true → Stands p es → HasProof W [] p

    entry-holds : (earlier left : List ProofEntry) (e : ProofEntry) → ps ≡ earlier ++ e ∷ left → Follows V [] ps earlier (e ∷ left) → Holds earlier → is_closed e.of.args ≡ true → HasProof W [] e.of
    unfolding Holds
    entry-holds earlier left e is f h z = by (is_coinductive V e.of.trait) refl f.1
      where
        by : (x : Bool) → is_coinductive V e.of.trait ≡ x → Every (λ p. Stands p (if x then ps else earlier)) e.rule.premises → HasProof W [] e.of
        by true q g = k.autos e.of z q (ps, whole, subst (Stands e.of) (sym is) (stands-after e.of earlier (e ∷ left) (zero, refl)))
        by false q g =
            rule-holds e.of z q e.rule f.0
            (λ p m. let y = closed-premise e.of z e.rule f.0 p m in (y, h p y (every-member (λ s. Stands s earlier) e.rule.premises p g m)))

    all-hold : (earlier left : List ProofEntry) → ps ≡ earlier ++ left → Follows V [] ps earlier left → Holds earlier → Holds ps
    unfolding Holds
    all-hold earlier [] is f h p z s = h p z (subst (Stands p) (is ∙ append-none earlier) s)
      where
        append-none : (xs : List ProofEntry) → xs ++ [] ≡ xs
        append-none [] = refl
        append-none (x ∷ xs) = ap (λ z. x ∷ z) (append-none xs)
    all-hold earlier (e ∷ left) is f h q y t = all-hold (earlier ++ e ∷ []) left (is ∙ sym (append_assoc earlier (e ∷ []) left)) f.2 (λ p z s. by p z (stands-split p earlier (e ∷ []) s)) q y t
      where
        one : (p : Reference) → is_closed p.args ≡ true → (e.of ≡ p) ⊎ In p [] → HasProof W [] p
        one p z (inl q) = subst (HasProof W []) q (entry-holds earlier left e is f h (subst (λ (x : Reference). is_closed x.args ≡ true) (sym q) z))
        one p z (inr m) = absurd (in-nothing p m)

        by : (p : Reference) → is_closed p.args ≡ true → Stands p earlier ⊎ Stands p (e ∷ []) → HasProof W [] p
        by p z (inl s) = h p z s
        by p z (inr s) = one p z (in-cases p e.of [] s)

    pub stays : (r : Reference) → is_closed r.args ≡ true → Stands r ps → HasProof W [] r
    unfolding Holds
    stays r z s = all-hold [] ps refl whole (λ p y g. absurd (in-nothing p g)) r z s

pub old-proofs-stay : InEveryLinkedSet OldProofsStay
old-proofs-stay W us rank l V vs before o c k r z p = stays W us rank l V vs before o c k p.0 p.1 r z p.2

-- what has a solution in a set with fewer rules has one in the old set
pub old-refutations-stay : InEveryLinkedSet OldRefutationsStay
old-refutations-stay V vs rank l v holds ks r refuted W below s =
    refuted.1 V vs rank l v.numbers holds
    (record {
      values = s.values;
      fitting = s.fitting;
      closed = s.closed;
      proved = proofs-above W V [] (above-has-rules anything W V below []) (filled_reference ks s.values (renumbered_reference v.numbers r)) s.proved;
    })
