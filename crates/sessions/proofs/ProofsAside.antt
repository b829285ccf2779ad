-- Which crates a world lists makes no difference to its rules, nor to what is a proof by them.
use Rattle.std.proofs.Common.{◌≡◌, ◌==◌, ℕ, suc, List, [], ◌∷◌, ◌++◌, if◌then◌else◌, refl, sym, ap, ◌∙◌, subst}
use Rattle.std.specs.List.{flat_map}
use Rattle.type_terms.specs.Promised.Trees.{Trees, none, tree}
use Rattle.type_terms.specs.Promised.Worlds.{World, CrateDecl, Reference}
use Rattle.type_terms.specs.Promised.Rules.{Rule, by_clause, rules, impl_rules, built_in_rules, plain_rules, clause_rules, super_rules, same_reference, strict_supertraits, sized, unsize, auto_rules, is_auto, is_written}
use Rattle.type_terms.specs.Promised.Proofs.{ProofEntry, In, Follows}
use Rattle.type_terms.specs.Promised.Handles as terms
use Rattle.type_terms.proofs.OtherImpls.{supers-same, sized-same, plain-same, unsize-same, object-same}
use Rattle.proof_checker.specs.Steps.{AreProofOf}
use Rattle.proof_checker.specs.declared.steps.Step.{Step}

module _ (V : World) (cs : List CrateDecl) where
  abbrev W : World
  W = record V { crates = cs }

  autos-aside : (t : ℕ) (a : Trees) → auto_rules W t a ≡ auto_rules V t a
  autos-aside t none = refl
  autos-aside t (tree l c o) = ap (λ z. if is_written V t l then [] else z) (plain-same V cs V.impls t (tree l c o))

  built-in-aside : (r : Reference) → built_in_rules W r ≡ built_in_rules V r
  built-in-aside r =
      four (ap (λ z. if r.trait == sized then z else []) (sized-same V cs V.impls r.args)) (ap (λ z. if is_auto V r.trait then z else []) (autos-aside r.trait r.args))
      (ap (λ z. if r.trait == unsize then z else []) (unsize-same V cs V.impls r.args)) (object-same V cs V.impls r r.args)
    where
      four : {a a' b b' c c' d d' : List Rule} → a ≡ a' → b ≡ b' → c ≡ c' → d ≡ d' → plain_rules r ++ (a ++ (b ++ (c ++ d))) ≡ plain_rules r ++ (a' ++ (b' ++ (c' ++ d')))
      four e f g h = cc

  clauses-aside : (r : Reference) (k : ℕ) (ss : List Reference) → clause_rules W r k ss ≡ clause_rules V r k ss
  clauses-aside r k [] = refl
  clauses-aside r k (s ∷ ss) =
      let own = if same_reference s r then record { way = by_clause k; premises = [] } ∷ [] else [] in
      ap (λ zs. own ++ (super_rules r k 0 zs ++ clause_rules W r (suc k) ss)) (supers-same V cs V.impls s) ∙ ap (λ us. own ++ (super_rules r k 0 (strict_supertraits V s) ++ us)) (clauses-aside r (suc k) ss)

  pub rules-aside : (E : List Reference) (r : Reference) → rules W E r ≡ rules V E r
  rules-aside E r = two (built-in-aside r) (clauses-aside r 0 E)
    where
      two : {b b' c c' : List Rule} → b ≡ b' → c ≡ c' → flat_map (impl_rules r) V.impls ++ (b ++ c) ≡ flat_map (impl_rules r) V.impls ++ (b' ++ c')
      two f g = cc

  follows-aside : (E : List Reference) (all earlier left : List ProofEntry) → Follows V E all earlier left → Follows W E all earlier left
  follows-aside E all earlier [] f = tt
  follows-aside E all earlier (e ∷ left) f = (subst (In e.rule) (sym (rules-aside E e.of)) f.0, f.1, follows-aside E all (earlier ++ e ∷ []) left f.2)

  pub proof-aside : (es : List terms.Entry) (E : List Reference) (r : Reference) (ss : List Step) → AreProofOf es V E r ss → AreProofOf es W E r ss
  proof-aside es E r ss h = record {
    proof = record { entries = h.proof.entries; are = h.proof.are; proof = follows-aside _ h.proof.entries [] h.proof.entries h.proof.proof };
    stands = h.stands;
  }
