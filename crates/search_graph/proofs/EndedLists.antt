-- A goal is pushed with its list of entries, and popped with it.
use Rattle.std.proofs.Common.{◌≡◌, ◌+◌, true, false, List, [], ◌∷◌, ◌++◌, Option, Some, None, Result, Ok, Err, length, refl, ap, arith}
use Rattle.std.specs.Option.{option_to_list, IsSome}
use Rattle.std.specs.Result.{OnOk}
use Rattle.std.proofs.lemmas.List.{length-append}

pub ended_list : {X : Type 0} (old new : List X) (r : Option X) → old ≡ new ++ option_to_list r → IsSome r → (list : X) × (old ≡ new ++ list ∷ [])
ended_list old new None is some = let e : false ≡ true = some in absurd cc
ended_list old new (Some list) is some = (list, is)

pub one_less : {X : Type 0} (old new : List X) (list : X) → old ≡ new ++ list ∷ [] → length old ≡ length new + 1
one_less old new list is = let a = length-append new (list ∷ []) in let b = ap length is in omega (arith, a, b)

-- what a success says, where there was no refusal
pub not_refused : {T E P : Type 0} (r : Result T E) → OnOk r P → ((e : E) → r ≡ Err e → ⊥) → P
not_refused (Ok x) p not = p
not_refused (Err e) p not = absurd (not e refl)
