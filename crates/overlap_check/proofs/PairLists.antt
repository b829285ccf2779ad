-- The impls of two numbers, and the pairs that a crate brings together.
use Rattle.std.proofs.Common.{◌≡◌, ℕ, ◌<◌, Bool, true, false, ◌&&◌, ◌||◌, ◌==◌, List, [], ◌∷◌, Some, refl, sym, ap, ◌∙◌, subst, arith}
use Rattle.std.proofs.lemmas.Bool.Decides.{nat_tests}
use Rattle.std.specs.Prelude.{not, nat_lt}
use Rattle.type_terms.specs.Promised.Erased.{erased_impl}
use Rattle.type_terms.specs.Promised.Worlds.{World, ImplDecl}
use Rattle.type_terms.specs.Promised.Handles.{Entry}
use Rattle.type_terms.specs.declared.ImplId.{ImplId}
use Rattle.type_terms.specs.Promised.LinkedSet.{IsPair}
use Rattle.declarations.specs.Items.{Items, IsAbove, declared, impl_at, impl_in}
use Rattle.declarations.specs.Relevant.{impls_named}
use Rattle.declarations.specs.declared.items.ImplDef.{ImplDef}
use Rattle.overlap_check.specs.Partners.{are_partners, IsPairAt, NoPairAt}
use Rattle.overlap_check.proofs.Judged.{none-named, is-named, one-named, named-below}
use Rattle.type_terms.proofs.BooleanBasics.{no-both}

-- ---- the test
both : (a b : Bool) → a && b ≡ true → (a ≡ true) × (b ≡ true)
both true b e = (refl, e)
both false b e = cc

less : (j k : ℕ) → nat_lt j k ≡ true → j < k
less j k e = grind (arith, nat_tests)

same : (a b : ℕ) → (a == b) ≡ true → a ≡ b
same a b e = grind (arith, nat_tests)

is-same : (a b : ℕ) → a ≡ b → (a == b) ≡ true
is-same a b e = grind (arith, nat_tests)

is-less : (j k : ℕ) → j < k → nat_lt j k ≡ true
is-less j k e = grind (arith, nat_tests)

before : (home c j k : ℕ) → not (home == c) || nat_lt j k ≡ true → home ≡ c → j < k
before home c j k e h = less j k (by (home == c) (is-same home c h) e)
  where
    by : (b : Bool) → b ≡ true → not b || nat_lt j k ≡ true → nat_lt j k ≡ true
    by true f g = g
    by false f g = cc

or-before : (home c j k : ℕ) → (home ≡ c → j < k) → not (home == c) || nat_lt j k ≡ true
or-before home c j k f = by (home == c) refl
  where
    by : (b : Bool) → (home == c) ≡ b → not b || nat_lt j k ≡ true
    by true e = is-less j k (f (same home c e))
    by false e = refl

all-true : (a b d : Bool) → a ≡ true → b ≡ true → d ≡ true → a && (b && d) ≡ true
all-true a b d e f g = ap (λ x. x && (b && d)) e ∙ ap (λ x. x && d) f ∙ g

-- ---- the impls of these numbers
module _ (es : List Entry) (d : Items) (k j : ImplId) where
  abbrev V : World
  V = declared es d

  abbrev at : ImplId → ImplDef → ImplDecl
  at n w = erased_impl (impl_in es n w)

  pub no-later : impls_named V k.index ≡ [] → NoPairAt V d.local k.index j.index
  no-later e x y p q r s = none-named V k.index e x p.stands q

  pub no-earlier : impls_named V j.index ≡ [] → NoPairAt V d.local k.index j.index
  no-earlier e x y p q r s = none-named V j.index e y p.partner r

  module _ (w x : ImplDef) (left : impls_named V k.index ≡ at k w ∷ []) (right : impls_named V j.index ≡ at j x ∷ []) where
    pub is-pair : Some w ≡ impl_at k.index d.impls → Some x ≡ impl_at j.index d.impls → are_partners d.local k w j x ≡ true → IsPairAt es d k j w x
    is-pair e f t =
        let own = both (w.home.index == d.local) _ t in
        let rest = both (w.header.def_id.index == x.header.def_id.index) _ own.1 in
        record {
          later = e;
          earlier = f;
          pair = record {
            stands = (is-named V k.index (at k w) left).0;
            partner = (is-named V j.index (at j x) right).0;
            own = same w.home.index d.local own.0;
            before = before x.home.index d.local j.index k.index rest.1;
          };
          one_trait = same w.header.def_id.index x.header.def_id.index rest.0;
        }

    pub no-pair : are_partners d.local k w j x ≡ false → NoPairAt V d.local k.index j.index
    no-pair t a b p q r s =
        let first : at k w ≡ a = one-named V k.index (at k w) left a p.stands q in
        let second : at j x ≡ b = one-named V j.index (at j x) right b p.partner r in
        let own : w.home.index ≡ d.local = ap (λ (i : ImplDecl). i.home) first ∙ p.own in
        let traits : w.header.def_id.index ≡ x.header.def_id.index = ap (λ (i : ImplDecl). i.header.trait) first ∙ s ∙ sym (ap (λ (i : ImplDecl). i.header.trait) second) in
        let order : x.home.index ≡ d.local → j.index < k.index = λ h.
        subst (λ n. n < k.index) r (subst (λ n. b.name < n) q (p.before (sym (ap (λ (i : ImplDecl). i.home) second) ∙ h))) in
        no-both (are_partners d.local k w j x)
        (all-true (w.home.index == d.local) (w.header.def_id.index == x.header.def_id.index) (not (x.home.index == d.local) || nat_lt j.index k.index) (is-same w.home.index d.local own)
        (is-same w.header.def_id.index x.header.def_id.index traits) (or-before x.home.index d.local j.index k.index order))
        t

pub pairs-below : (es : List Entry) (d : Items) (end : ℕ) → IsAbove end d → (x y : ImplDecl) → IsPair (declared es d) d.local x y → (x.name < end) × (y.name < end)
pairs-below es d end h x y p = (named-below d es end h x p.stands, named-below d es end h y p.partner)
