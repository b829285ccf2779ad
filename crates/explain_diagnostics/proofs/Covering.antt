-- One more range covers the bytes up to its end.
use Rattle.std.proofs.Common.{◌≡◌, ℕ, ◌<◌, ◌≤◌, Bool, true, false, ◌||◌, ◌&&◌, List, [], ◌∷◌, ◌++◌, ltb, ltb-true, ltb-false, nat_le, nat_lt, refl, ◌∙◌, arith}
use Rattle.std.proofs.lemmas.Bool.{or_left, or_right}
use Rattle.std.proofs.lemmas.Bool.Decides.{nat_tests}
use Rattle.std.proofs.lemmas.List.Folds.{list_any-append}
use Rattle.explain_diagnostics.specs.declared.span.Place.{Place}
use Rattle.explain_diagnostics.specs.Places.{CoverUpTo, is_covered}

in-range : (p : Place) (at : ℕ) → p.start ≤ at → at < p.end → is_covered (p ∷ []) at ≡ true
in-range p at h k =
    let behind : nat_le p.start at ≡ true = grind (arith, nat_tests) in
    let before : nat_lt at p.end ≡ true = grind (arith, nat_tests) in
    rw (behind, before) refl

pub covers-more : (line : List ℕ) (ps : List Place) (p : Place) → CoverUpTo line ps p.start → CoverUpTo line (ps ++ p ∷ []) p.end
covers-more line ps p covered at below seen =
    list_any-append (λ (q : Place). nat_le q.start at && nat_lt at q.end) ps (p ∷ []) ∙ by (ltb at p.start) refl
  where
    by : (t : Bool) → ltb at p.start ≡ t → is_covered ps at || is_covered (p ∷ []) at ≡ true
    by true e = or_left _ _ (covered at (ltb-true at p.start e) seen)
    by false e = or_right _ _ (in-range p at (ltb-false at p.start e) below)
