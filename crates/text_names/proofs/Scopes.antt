-- The binders of a stack.
use Rattle.std.proofs.Common.{◌≡◌, ◌↔◌, IsSome, ℕ, suc, ◌-◌, ◌<◌, ◌≤◌, List, [], ◌∷◌, ◌++◌, map, length, get_or, take, Option, Some, None, refl, sym, ap, ◌∙◌, arith, true}
use Rattle.std.specs.Borrow.{Bor}
use Rattle.std.specs.Option.{option_map_or, option_to_list}
use Rattle.std.proofs.lemmas.List.{append-nil}
use Rattle.std.specs.declared.vec.Vec.{Vec}
use Rattle.std.proofs.Math.Seq.{take-suc}
use Rattle.text_lines.specs.TokenViews.{text_of}
use Rattle.text_names.specs.Views.{scope_onto}
use Rattle.text_names.specs.LookUps.{place_in, scope_place}
use Rattle.text_names.specs.Machine.{outer_scope}

pub scope-push : {A : Type 0} (bs : List (Vec (Bor (List ℕ)) A)) (b : Vec (Bor (List ℕ)) A) (s : List (List (List ℕ))) → scope_onto (bs ++ b ∷ []) s ≡ map text_of b.items ∷ scope_onto bs s
scope-push [] b s = refl
scope-push (h ∷ bs) b s = scope-push bs b (map text_of h.items ∷ s)

pub scope-pop : {A : Type 0} (bs ns : List (Vec (Bor (List ℕ)) A)) (r : Option (Vec (Bor (List ℕ)) A)) → bs ≡ ns ++ option_to_list r → (IsSome r ↔ (0 < length bs)) → scope_onto ns [] ≡ outer_scope true (scope_onto bs [])
scope-pop bs ns (Some b) e v = sym (ap (outer_scope true) (ap (λ x. scope_onto x []) e ∙ scope-push ns b []))
scope-pop [] ns None e v = let m : ns ≡ [] = sym (e ∙ append-nil ns) in ap (λ x. scope_onto x []) m
scope-pop (h ∷ bs) ns None e v = let some : 0 < length (h ∷ bs) = omega arith in let wrong = v.1 some in absurd cc

-- the binder at a place is the innermost of those up to it
pub scope-at : {A : Type 0} (bs : List (Vec (Bor (List ℕ)) A)) (k : ℕ) (d : Vec (Bor (List ℕ)) A) → k < length bs → scope_onto (take (suc k) bs) [] ≡ map text_of (get_or bs k d).items ∷ scope_onto (take k bs) []
scope-at bs k d h = ap (λ x. scope_onto x []) (take-suc bs k d h) ∙ scope-push (take k bs) (get_or bs k d) []

at-place : {A : Type 0} (bs : List (Vec (Bor (List ℕ)) A)) (at : ℕ) (d : Vec (Bor (List ℕ)) A) → 0 < at → at ≤ length bs → scope_onto (take at bs) [] ≡ map text_of (get_or bs (at - 1) d).items ∷ scope_onto (take (at - 1) bs) []
at-place bs at d h k =
    let e : at ≡ suc (at - 1) = omega arith in
    let l : at - 1 < length bs = omega arith in
    ap (λ m. scope_onto (take m bs) []) e ∙ scope-at bs (at - 1) d l

pub found-at : {A : Type 0} (bs : List (Vec (Bor (List ℕ)) A)) (at k place : ℕ) (d : Vec (Bor (List ℕ)) A) (n : List ℕ) → 0 < at → at ≤ length bs → Some place ≡ place_in n (map text_of (get_or bs (at - 1) d).items)
    → scope_place k (scope_onto (take at bs) []) n ≡ Some (k, place)
found-at bs at k place d n h l e =
    ap (λ s. scope_place k s n) (at-place bs at d h l) ∙ ap (λ o. option_map_or (λ i. Some (k, i)) o (scope_place (suc k) (scope_onto (take (at - 1) bs) []) n)) (sym e)

pub further-at : {A : Type 0} (bs : List (Vec (Bor (List ℕ)) A)) (at k : ℕ) (d : Vec (Bor (List ℕ)) A) (n : List ℕ) → 0 < at → at ≤ length bs → None ≡ place_in n (map text_of (get_or bs (at - 1) d).items)
    → scope_place k (scope_onto (take at bs) []) n ≡ scope_place (suc k) (scope_onto (take (at - 1) bs) []) n
further-at bs at k d n h l e =
    ap (λ s. scope_place k s n) (at-place bs at d h l) ∙ ap (λ o. option_map_or (λ i. Some (k, i)) o (scope_place (suc k) (scope_onto (take (at - 1) bs) []) n)) (sym e)
