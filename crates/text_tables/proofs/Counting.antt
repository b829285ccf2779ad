-- How many terms lowering adds, and how many cells there are at most where the trees are known.
use Rattle.std.proofs.Common.{◌≡◌, ◌≤◌, ◌+◌, List, [], ◌∷◌, length, ap, ◌∙◌, arith, inl, inr}
use Rattle.std.proofs.lemmas.List.{length-append}
use Rattle.type_terms.specs.Promised.Handles.{Entry}
use Rattle.type_terms.specs.Terms.{AddsAtMost}

-- a term is added at most
pub at-most-one : {old new : List Entry} {e : Entry} → AddsAtMost old e new → length new ≤ length old + 1
at-most-one (inl p) = let q = ap length p in omega (arith, q)
at-most-one {old = old} {e = e} (inr p) = let q = ap length p.1 ∙ length-append old (e ∷ []) in omega (arith, q)

pub none-added : {old new : List Entry} → new ≡ old → length new ≤ length old
none-added p = let q = ap length p in omega (arith, q)
