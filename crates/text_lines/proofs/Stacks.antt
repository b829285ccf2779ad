-- The stack, whose last item in the vector is on top.
use Rattle.std.proofs.Common.{◌≡◌, ◌↔◌, ◌<◌, List, [], ◌∷◌, ◌++◌, length, Option, Some, None, IsSome, refl, ap, ◌∙◌, arith}
use Rattle.std.specs.Prelude.{MatchOption}
use Rattle.std.specs.Option.{option_to_list}
use Rattle.text_lines.specs.declared.cell.Open.{Open}
use Rattle.text_lines.specs.Machine as machine
use Rattle.text_lines.specs.TypeViews.{open_of, opens_onto, opens_in}

pub opens-push : (os : List Open) (o : Open) (s : List machine.Open) → opens_onto (os ++ o ∷ []) s ≡ open_of o ∷ opens_onto os s
opens-push [] o s = refl
opens-push (h ∷ os) o s = opens-push os o (open_of h ∷ s)

pub opens-pop : (os ns : List Open) (r : Option Open) → os ≡ ns ++ option_to_list r → (IsSome r ↔ (0 < length os)) → MatchOption r (opens_in os ≡ []) (λ o. opens_in os ≡ open_of o ∷ opens_in ns)
opens-pop [] ns None e v = refl
opens-pop (h ∷ os) ns None e v = let some : 0 < length (h ∷ os) = omega arith in let wrong = v.1 some in absurd cc
opens-pop os ns (Some o) e v = ap opens_in e ∙ opens-push ns o []
