-- Arranged auto traits: what has a proof still has one.
use Rattle.std.proofs.Common.{◌≡◌, Bool, true, false, List, [], ◌∷◌, ◌++◌, refl, ap, sym, ◌∙◌, if◌then◌else◌, subst, ◌⊎◌, inl, inr, map}
use Rattle.type_terms.specs.Promised.Worlds.{World, CrateDecl, Reference, StructDecl, TraitDecl, ImplDecl}
use Rattle.type_terms.specs.Promised.Rules.{is_coinductive}
use Rattle.type_terms.specs.Promised.Proofs.{ProofEntry, In, Stands, Follows, HasProof}
use Rattle.type_terms.specs.Promised.Supers.{dyns_of_bounds}
use Rattle.type_terms.specs.LinkedSet.{all_written}
use Rattle.type_terms.specs.Promised.Arranging.{Arrangement, arranged, arranged_reference, arranged_struct, arranged_trait, arranged_impl, arranged_world}
use Rattle.type_terms.specs.Arranging.{turned_back}
use Rattle.type_terms.proofs.Members.{here, there, in-cases, in-append, in-left, in-right, in-nothing}
use Rattle.type_terms.proofs.ProofEntries.{map-in}
use Rattle.type_terms.proofs.NoHolds.{every-member}
use Rattle.type_terms.proofs.RenumberedTrees.{map-back}
use Rattle.type_terms.proofs.RenumberedRules.{map-append}
use Rattle.type_terms.proofs.ArrangedTrees.{back-to, reference-back, dyns-stay}
use Rattle.type_terms.proofs.ArrangedTwice.{written-over}
use Rattle.type_terms.proofs.ArrangedRules.{BoundWorld, rules-arranged, coinductive-same}
use Rattle.type_terms.proofs.TermRules.{every-of as each-of}
use Rattle.type_terms.proofs.JoinedParts.{each-written}

pub bound-world : (W : World) → all_written dyns_of_bounds W ≡ true → BoundWorld W
bound-world W h = each-written dyns_of_bounds W h

pub written-stays : (α : Arrangement) (W : World) → all_written dyns_of_bounds (arranged_world α W) ≡ all_written dyns_of_bounds W
written-stays α W = written-over α W dyns_of_bounds dyns_of_bounds (dyns-stay α)

-- There and back, of a world
pub world-back : (α : Arrangement) (W : World) → arranged_world (turned_back α) (arranged_world α W) ≡ W
world-back α W =
    join W.crates _ _ _ _ _ _ (map-back (arranged_struct (turned_back α)) (arranged_struct α) struct-back W.structs) (map-back (arranged_trait (turned_back α)) (arranged_trait α) trait-back W.traits)
    (map-back (arranged_impl (turned_back α)) (arranged_impl α) impl-back W.impls)
  where
    references : (rs : List Reference) → map (arranged_reference (turned_back α)) (map (arranged_reference α) rs) ≡ rs
    references rs = map-back (arranged_reference (turned_back α)) (arranged_reference α) (reference-back α) rs

    struct-back : (x : StructDecl) → arranged_struct (turned_back α) (arranged_struct α x) ≡ x
    struct-back x = ap (λ z. (let y : StructDecl = record { name = x.name; home = x.home; is_fundamental = x.is_fundamental; fields = z } in y)) (map-back (arranged (turned_back α)) (arranged α) (back-to α) x.fields)

    trait-back : (x : TraitDecl) → arranged_trait (turned_back α) (arranged_trait α x) ≡ x
    trait-back x = ap (λ z. (let y : TraitDecl = record { name = x.name; home = x.home; is_fundamental = x.is_fundamental; is_auto = x.is_auto; bounds = z } in y)) (references x.bounds)

    impl-back : (x : ImplDecl) → arranged_impl (turned_back α) (arranged_impl α x) ≡ x
    impl-back x = two _ _ _ _ (reference-back α x.header) (references x.clauses)
      where
        two : (r r' : Reference) (ks ks' : List Reference) → r ≡ r' → ks ≡ ks'
            → (let y : ImplDecl = record { name = x.name; home = x.home; params = x.params; header = r; clauses = ks } in y) ≡ record { name = x.name; home = x.home; params = x.params; header = r'; clauses = ks' }
        two r r' ks ks' p q = cc

    join : (cs : List CrateDecl) (ss ss' : List StructDecl) (ts ts' : List TraitDecl) (is is' : List ImplDecl) → ss ≡ ss' → ts ≡ ts' → is ≡ is'
        → (let V : World = record { crates = cs; structs = ss; traits = ts; impls = is } in V) ≡ record { crates = cs; structs = ss'; traits = ts'; impls = is' }
    join cs ss ss' ts ts' is is' p q r = cc

module _ (α : Arrangement) (V : World) (w : BoundWorld V) where
  abbrev U : World
  U = arranged_world α V

  abbrev Q : Reference → Reference
  Q r = arranged_reference α r

  Over : List ProofEntry → List ProofEntry → Type 0
  Over ps qs = (p : Reference) → Stands p ps → Stands (Q p) qs

  pub entries : (E : List Reference) (all earlier rest : List ProofEntry) → Follows V E all earlier rest → List ProofEntry
  entries E all earlier [] f = []
  entries E all earlier (e ∷ rest) f = record { of = Q e.of; rule = (rules-arranged α V w E e.of e.rule f.0).0 } ∷ entries E all (earlier ++ e ∷ []) rest f.2

  nothing-over : (qs : List ProofEntry) → Over [] qs
  unfolding Over entries
  nothing-over qs p h = absurd (in-nothing p h)

  more-over : (ps qs : List ProofEntry) (e d : ProofEntry) → d.of ≡ Q e.of → Over ps qs → Over (ps ++ e ∷ []) (qs ++ d ∷ [])
  unfolding Over entries
  more-over ps qs e d q f p h =
      subst (In (Q p)) (sym (map-append (λ (x : ProofEntry). x.of) qs (d ∷ []))) (by (in-append p (map (λ (x : ProofEntry). x.of) ps) (e.of ∷ []) (subst (In p) (map-append (λ (x : ProofEntry). x.of) ps (e ∷ [])) h)))
    where
      last : (e.of ≡ p) ⊎ In p [] → In (Q p) (map (λ (x : ProofEntry). x.of) qs ++ d.of ∷ [])
      last (inl k) = in-right (Q p) (map (λ (x : ProofEntry). x.of) qs) (d.of ∷ []) (subst (λ (x : Reference). In x (d.of ∷ [])) (q ∙ ap Q k) (here d.of []))
      last (inr k) = absurd (in-nothing p k)

      by : In p (map (λ (x : ProofEntry). x.of) ps) ⊎ In p (e.of ∷ []) → In (Q p) (map (λ (x : ProofEntry). x.of) qs ++ d.of ∷ [])
      by (inl k) = in-left (Q p) (map (λ (x : ProofEntry). x.of) qs) (d.of ∷ []) (f p k)
      by (inr k) = last (in-cases p e.of [] k)

  either-over : (b c : Bool) (all all' earlier earlier' : List ProofEntry) → c ≡ b → Over all all' → Over earlier earlier' → Over (if b then all else earlier) (if c then all' else earlier')
  either-over true true all all' earlier earlier' e f g = f
  either-over true false all all' earlier earlier' e f g = cc
  either-over false true all all' earlier earlier' e f g = cc
  either-over false false all all' earlier earlier' e f g = g

  follows-arranged : (E : List Reference) (all all' : List ProofEntry) → Over all all' → (earlier earlier' : List ProofEntry) → Over earlier earlier' → (rest : List ProofEntry) (f : Follows V E all earlier rest)
      → Follows U (map Q E) all' earlier' (entries E all earlier rest f)
  unfolding Over entries
  follows-arranged E all all' o earlier earlier' g [] f = tt
  follows-arranged E all all' o earlier earlier' g (e ∷ rest) f =
      let v = rules-arranged α V w E e.of e.rule f.0 in (
        v.1,
        each-of (λ p. Stands p (if is_coinductive U e.of.trait then all' else earlier')) v.0.premises
            (λ p h.
            let m = map-in Q e.rule.premises p (v.2.same_premises.1 p h) in
            subst (λ (x : Reference). Stands x (if is_coinductive U e.of.trait then all' else earlier')) m.2
            (either-over (is_coinductive V e.of.trait) (is_coinductive U e.of.trait) all all' earlier earlier' (coinductive-same α V w e.of.trait) o g m.0
            (every-member (λ q. Stands q (if is_coinductive V e.of.trait then all else earlier)) e.rule.premises m.0 f.1 m.1))),
        follows-arranged E all all' o (earlier ++ e ∷ []) (earlier' ++ record { of = Q e.of; rule = v.0 } ∷ []) (more-over earlier earlier' e (record { of = Q e.of; rule = v.0 }) refl g) rest f.2,
      )

  entries-over : (E : List Reference) (all earlier rest : List ProofEntry) (f : Follows V E all earlier rest) → Over rest (entries E all earlier rest f)
  unfolding Over entries
  entries-over E all earlier [] f p h = absurd (in-nothing p h)
  entries-over E all earlier (e ∷ rest) f p h = by (in-cases p e.of (map (λ (x : ProofEntry). x.of) rest) h) (entries-over E all (earlier ++ e ∷ []) rest f.2 p)
    where
      by : (e.of ≡ p) ⊎ In p (map (λ (x : ProofEntry). x.of) rest) → (In p (map (λ (x : ProofEntry). x.of) rest) → In (Q p) (map (λ (x : ProofEntry). x.of) (entries E all (earlier ++ e ∷ []) rest f.2)))
          → In (Q p) (Q e.of ∷ map (λ (x : ProofEntry). x.of) (entries E all (earlier ++ e ∷ []) rest f.2))
      by (inl k) g = subst (λ (x : Reference). In x (Q e.of ∷ map (λ (y : ProofEntry). y.of) (entries E all (earlier ++ e ∷ []) rest f.2))) (ap Q k) (here (Q e.of) _)
      by (inr k) g = there (Q p) (Q e.of) (map (λ (x : ProofEntry). x.of) (entries E all (earlier ++ e ∷ []) rest f.2)) (g k)

  -- a proof in the one order is one in the other
  pub proof-arranged : (E : List Reference) (r : Reference) → HasProof V E r → HasProof U (map Q E) (Q r)
  unfolding Over entries
  proof-arranged E r p =
      let there-all = entries-over E p.0 [] p.0 p.1 in
      (entries E p.0 [] p.0 p.1, follows-arranged E p.0 (entries E p.0 [] p.0 p.1) there-all [] [] (nothing-over []) p.0 p.1, there-all r p.2)

-- and back
pub proof-unarranged : (α : Arrangement) (V : World) → all_written dyns_of_bounds V ≡ true → (E : List Reference) (r : Reference) → HasProof (arranged_world α V) (map (arranged_reference α) E) (arranged_reference α r) → HasProof V E r
proof-unarranged α V h E r p =
    subst (λ (W : World). HasProof W E r) (world-back α V)
    (subst (λ (x : Reference). HasProof (arranged_world (turned_back α) (arranged_world α V)) E x) (reference-back α r)
    (subst (λ (F : List Reference). HasProof (arranged_world (turned_back α) (arranged_world α V)) F (arranged_reference (turned_back α) (arranged_reference α r)))
    (map-back (arranged_reference (turned_back α)) (arranged_reference α) (reference-back α) E)
    (proof-arranged (turned_back α) (arranged_world α V) (bound-world (arranged_world α V) (written-stays α V ∙ h)) (map (arranged_reference α) E) (arranged_reference α r) p)))
