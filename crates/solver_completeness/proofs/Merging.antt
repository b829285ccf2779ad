-- The merge of the responses of candidates for a goal without inference variables.
use Rattle.std.proofs.Common.{◌≡◌, Bool, true, false, List, [], ◌∷◌, ◌++◌, map, refl, Option, Some, None, find, if◌then◌else◌}
use Rattle.infer_table.specs.declared.certainty.Certainty.{Certainty}
use Rattle.infer_table.specs.Certainties.{all_joined, unsettled}
use Rattle.goal_evaluator.specs.Lists.{Every}
use Rattle.goal_evaluator.specs.Table.{Tables}
use Rattle.goal_evaluator.specs.Merge.{if_there, or_else, are_equal, first_of, common, merge_by, flounder, merge_or_flounder}
use Rattle.solver_completeness.specs.Closed.{IsBare}

-- those that are there
abbrev pub present : {A : Type 0} → List (Option A) → List A
present [] = []
present (x ∷ xs) = if_there x ++ present xs

-- those of the candidates that pass a test
abbrev pub present_in : {A B : Type 0} → (B → Bool) → List B → List (Option A) → List A
present_in p [] xs = []
present_in p (c ∷ cs) [] = []
present_in p (c ∷ cs) (x ∷ xs) = (if p c then if_there x else []) ++ present_in p cs xs

module _ {Question Response : Type 0} (t : Tables Question Response) (applicable : Response → Bool) (same : Response → Response → Bool) (begin : t.Table) where
  abbrev pub merged : List Response → Option Response
  merged rs = merge_or_flounder t applicable same begin rs

  pub merged-one : (r : Response) → merged (r ∷ []) ≡ Some r
  merged-one r = by (applicable r) refl
    where
      by : (b : Bool) → applicable r ≡ b → merged (r ∷ []) ≡ Some r
      by true e = rw e refl
      by false e = rw e refl

  some-of : {A : Type 0} (a b : Option A) (x : A) → b ≡ Some x → (y : A) × (or_else a b ≡ Some y)
  some-of (Some z) b x e = (z, refl)
  some-of None b x e = (x, e)

  pub merged-some : (r : Response) (rs : List Response) → (x : Response) × (merged (r ∷ rs) ≡ Some x)
  merged-some r rs = some-of (merge_by applicable same (r ∷ rs)) (flounder t begin (r ∷ rs)) _ refl

  module _ (silent : (c : Certainty) → t.has_values (t.respond begin c) ≡ false) where
    bare-or : (a b : Option Response) → IsBare t a → IsBare t b → IsBare t (or_else a b)
    bare-or (Some x) b h g = h
    bare-or None b h g = g

    bare-first : (rs : List Response) → Every (λ r. t.has_values r ≡ false) rs → IsBare t (first_of rs)
    bare-first [] h = tt
    bare-first (r ∷ rs) h = h.0

    bare-if : (b : Bool) (a : Option Response) → IsBare t a → IsBare t (if b then a else None)
    bare-if true a h = h
    bare-if false a h = tt

    bare-find : (p : Response → Bool) (rs : List Response) → Every (λ r. t.has_values r ≡ false) rs → IsBare t (find p rs)
    bare-find p [] h = tt
    bare-find p (r ∷ rs) h = by (p r) (bare-find p rs h.1)
      where
        by : (b : Bool) → IsBare t (find p rs) → IsBare t (if b then Some r else find p rs)
        by true g = h.0
        by false g = g

    bare-flounder : (rs : List Response) → IsBare t (flounder t begin rs)
    bare-flounder [] = tt
    bare-flounder (r ∷ rs) = silent (unsettled (all_joined (map t.certainty (r ∷ rs))))

    pub merged-bare : (rs : List Response) → Every (λ r. t.has_values r ≡ false) rs → IsBare t (merged rs)
    merged-bare rs h =
        bare-or (merge_by applicable same rs) (flounder t begin rs)
        (bare-or (find applicable rs) (common same rs) (bare-find applicable rs h) (bare-if (are_equal same rs) (first_of rs) (bare-first rs h)))
        (bare-flounder rs)
