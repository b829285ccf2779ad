-- The rule instances of a world are those of each world above it, except for premises.
use Rattle.std.proofs.Common.{◌≡◌, ℕ, suc, Bool, true, false, List, [], ◌∷◌, ◌++◌, refl, ap, sym, ◌==◌, if◌then◌else◌, subst, ◌⊎◌, inl, inr}
use Rattle.std.specs.List.{flat_map}
use Rattle.type_terms.specs.Promised.Label.{Label}
use Rattle.type_terms.specs.Promised.Trees.{Trees, none, tree}
use Rattle.type_terms.specs.Promised.Worlds.{World, Reference, CrateDecl, ImplDecl}
use Rattle.type_terms.specs.Promised.Rules.{Rule, rules, impl_rules, built_in_rules, plain_rules, sized_rules, auto_rules, auto_rules_plain, unsize_rules, object_rules, is_auto, is_written, sized, unsize, clause_rules, super_rules}
use Rattle.type_terms.specs.Promised.Proofs.{In, Every}
use Rattle.type_terms.specs.Wider.{AsksNoMore, IsBelow}
use Rattle.type_terms.proofs.Members.{in-nothing, in-append, in-left, in-right, in-flat, flat-in, not-both}
use Rattle.type_terms.proofs.OtherImpls.{supers-same, sized-same, plain-same, unsize-same, object-same}
use Rattle.type_terms.proofs.ViewProofs.{ups as parts}

-- V with other crates and impls
module _ (V : World) (cs : List CrateDecl) (is : List ImplDecl) where
  abbrev U : World
  U = record V { crates = cs; impls = is }

  two : {a b c d : List Rule} → a ≡ b → c ≡ d → a ++ c ≡ b ++ d
  two p q = cc

  same-clause-rules : (r : Reference) (k : ℕ) (E : List Reference) → clause_rules V r k E ≡ clause_rules U r k E
  same-clause-rules r k [] = refl
  same-clause-rules r k (s ∷ ss) = two refl (two (ap (super_rules r k 0) (sym (supers-same V cs is s))) (same-clause-rules r (suc k) ss))

  -- the rules of auto traits
  auto-there : (t : ℕ) (a : Trees) → ((l : Label) → is_written U t l ≡ true → is_written V t l ≡ true) → (u : Rule) → In u (auto_rules V t a) → In u (auto_rules U t a)
  auto-there t none h u g = g
  auto-there t (tree l k o) h u g = by (is_written V t l) (is_written U t l) (h l) g
    where
      by : (b d : Bool) → (d ≡ true → b ≡ true) → In u (if b then [] else auto_rules_plain V t (tree l k o)) → In u (if d then [] else auto_rules_plain U t (tree l k o))
      by true d f g = absurd (in-nothing u g)
      by false true f g = absurd (not-both true refl (sym (f refl)))
      by false false f g = subst (In u) (sym (plain-same V cs is t (tree l k o))) g

  built-in-there : (r : Reference) → ((l : Label) → is_auto V r.trait ≡ true → is_written U r.trait l ≡ true → is_written V r.trait l ≡ true)
      → (u : Rule) → In u (built_in_rules V r) → In u (built_in_rules U r)
  built-in-there r h u =
      parts (plain_rules r) _ (plain_rules r) _ u (λ g. g)
      (parts (if r.trait == sized then sized_rules V r.args else []) _ (if r.trait == sized then sized_rules U r.args else []) _ u
      (λ g. subst (λ z. In u (if r.trait == sized then z else [])) (sym (sized-same V cs is r.args)) g)
      (parts (if is_auto V r.trait then auto_rules V r.trait r.args else []) _ (if is_auto V r.trait then auto_rules U r.trait r.args else []) _ u
      (of-auto (is_auto V r.trait) refl)
      (parts (if r.trait == unsize then unsize_rules V r.args else []) (object_rules V r r.args) (if r.trait == unsize then unsize_rules U r.args else []) (object_rules U r r.args) u
      (λ g. subst (λ z. In u (if r.trait == unsize then z else [])) (sym (unsize-same V cs is r.args)) g)
      (λ g. subst (In u) (sym (object-same V cs is r r.args)) g))))
    where
      of-auto : (b : Bool) → is_auto V r.trait ≡ b → In u (if b then auto_rules V r.trait r.args else []) → In u (if b then auto_rules U r.trait r.args else [])
      of-auto true e g = auto-there r.trait r.args (λ l w. h l e w) u g
      of-auto false e g = g

-- U is V with U's crates and impls
pub as-changed : (t : Trees → Bool) (V U : World) → IsBelow t V U → U ≡ record V { crates = U.crates; impls = U.impls }
as-changed t V U b = join _ _ _ _ _ _ b.structs b.traits
  where
    join : (cs : _) (ss ss' : _) (ts ts' : _) (is : _) → ss ≡ ss' → ts ≡ ts' → (let X : World = record { crates = cs; structs = ss; traits = ts; impls = is } in X) ≡ record { crates = cs; structs = ss'; traits = ts'; impls = is }
    join cs ss ss' ts ts' is p q = cc

itself : (u : Rule) (us : List Rule) → In u us → AsksNoMore us u
itself u us h = (u, h, all u.premises (λ p g. g))
  where
    all : (ps : List Reference) → ((p : Reference) → In p ps → In p u.premises) → Every (λ p. In p u.premises) ps
    all [] f = tt
    all (p ∷ ps) f = (f p (0, refl), all ps (λ q g. f q (suc g.0, g.1)))

pub rules-above : (t : Trees → Bool) (V U : World) → IsBelow t V U → (E : List Reference) (r : Reference) → t r.args ≡ true → (u : Rule) → In u (rules V E r) → AsksNoMore (rules U E r) u
rules-above t V U b E r a u h = by (in-append u (flat_map (impl_rules r) V.impls) (built_in_rules V r ++ clause_rules V r 0 E) h)
  where
    X : World
    X = record V { crates = U.crates; impls = U.impls }

    same : U ≡ X
    same = as-changed t V U b

    rest : In u (built_in_rules V r) ⊎ In u (clause_rules V r 0 E) → In u (built_in_rules X r ++ clause_rules X r 0 E)
    rest (inl g) =
        in-left u (built_in_rules X r) (clause_rules X r 0 E)
        (built-in-there V U.crates U.impls r (λ l e w. b.autos_stay r.trait l e (subst (λ (Y : World). is_written Y r.trait l ≡ true) (sym same) w)) u g)
    rest (inr g) = in-right u (built_in_rules X r) (clause_rules X r 0 E) (subst (In u) (same-clause-rules V U.crates U.impls r 0 E) g)

    by : In u (flat_map (impl_rules r) V.impls) ⊎ In u (built_in_rules V r ++ clause_rules V r 0 E) → AsksNoMore (rules U E r) u
    by (inl g) =
        let i = in-flat (impl_rules r) V.impls u g in
        let j = b.matched i.0 i.1 in
        let w = j.2.concludes r a u i.2 in
        (w.0, in-left w.0 (flat_map (impl_rules r) U.impls) (built_in_rules U r ++ clause_rules U r 0 E) (flat-in (impl_rules r) U.impls j.0 w.0 j.1 w.1), w.2)
    by (inr g) =
        itself u (rules U E r)
        (in-right u (flat_map (impl_rules r) U.impls) (built_in_rules U r ++ clause_rules U r 0 E)
        (subst (λ (Y : World). In u (built_in_rules Y r ++ clause_rules Y r 0 E)) (sym same) (rest (in-append u (built_in_rules V r) (clause_rules V r 0 E) g))))
