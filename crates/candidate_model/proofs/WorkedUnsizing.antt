-- Worked rows: the candidates of upcasts, of structs that unsize, and of object bounds.
use Rattle.std.proofs.Common.{◌≡◌, ℕ, List, [], ◌∷◌, map, length, refl}
use Rattle.type_terms.specs.Promised.Label.{of_type, dynamic, static, slice, param, canonical, principal}
use Rattle.type_terms.specs.Promised.Trees.{Trees, none, tree, leaf}
use Rattle.type_terms.specs.Promised.Worlds.{World, Reference}
use Rattle.type_terms.specs.Promised.Rules.{asked, unsize}
use Rattle.type_terms.specs.Worked.{beside_core, trait_of, struct, base, T, u8, to, applied, dyn_of}
use Rattle.infer_table.specs.declared.canonical.CanonicalVarKind.TheVariants.{Ty}
use Rattle.goal_evaluator.specs.declared.candidate.CandidateSource.{CandidateSource}
use Rattle.goal_evaluator.specs.declared.candidate.CandidateSource.TheVariants.{BuiltinImpl}
use Rattle.goal_evaluator.specs.declared.candidate.BuiltinImplSource.TheVariants.{Misc, Object, TraitUpcasting}
use Rattle.goal_evaluator.specs.FrameTables.{Nested}
use Rattle.candidate_model.specs.Facts.{tree_of_reference}
use Rattle.candidate_model.specs.Asking.{GoalOverKinds}
use Rattle.candidate_model.specs.Candidates.{Candidate, by_unsize, by_objects}

-- a goal over two type variables
abbrev goal : Reference → GoalOverKinds
goal r = record { kinds = Ty ∷ Ty ∷ []; environment = none; reference = r }

abbrev X : Trees
X = leaf (canonical of_type 0)

abbrev sources : List Candidate → List CandidateSource
sources cs = map (λ (c : Candidate). c.source) cs

abbrev asks : List Candidate → List (List Trees)
asks cs = map (λ (c : Candidate). map (λ (n : Nested). n.goal.predicate) c.nested) cs

abbrev equates : List Candidate → List ℕ
equates cs = map (λ (c : Candidate). length c.equations) cs

-- `trait Bottom: Left + Right`, both over Top: the stack has Bottom, Right, Top, Left
abbrev diamond : World
diamond = beside_core [] (trait_of 20 base [] ∷ trait_of 21 base (asked 20 T ∷ []) ∷ trait_of 22 base (asked 20 T ∷ []) ∷ trait_of 23 base (asked 21 T ∷ asked 22 T ∷ []) ∷ []) []

-- one candidate though two paths lead there
to-top : sources (by_unsize diamond (goal (to unsize (dyn_of 23) (dyn_of 20)))) ≡ BuiltinImpl (TraitUpcasting 2) ∷ []
to-top = refl

kept : sources (by_unsize diamond (goal (to unsize (dyn_of 23) (dyn_of 23)))) ≡ BuiltinImpl Misc ∷ []
kept = refl

downwards : sources (by_unsize diamond (goal (to unsize (dyn_of 20) (dyn_of 23)))) ≡ []
downwards = refl

bound-of-dyn : sources (by_objects diamond (goal (asked 20 (dyn_of 23)))) ≡ BuiltinImpl (Object 2) ∷ []
bound-of-dyn = refl

-- `trait Sup<U>; trait Sub<U>: Sup<U>`: `dyn Sub<u8>: Unsize<dyn Sup<?x>>` equates `dyn Sub<u8>` with itself and u8 with ?x
abbrev with_argument : World
with_argument = beside_core [] (trait_of 20 base [] ∷ trait_of 21 base (to 20 T (leaf (param of_type 1)) ∷ []) ∷ []) []

abbrev dyn_with : ℕ → Trees → Trees
dyn_with t args = tree dynamic (tree (principal 0 t) args (leaf static)) none

upcast-equates : equates (by_unsize with_argument (goal (to unsize (dyn_with 21 u8) (dyn_with 20 X)))) ≡ 2 ∷ []
upcast-equates = refl

-- `struct S<T>(u8, V<T>)`: `S<?x>: Unsize<S<[u8]>>` asks `V<?x>: Unsize<V<[u8]>>`; the parameter of V is not looked through
abbrev structs : World
structs = beside_core (struct 10 base (u8 ∷ applied 11 T ∷ []) ∷ struct 11 base (T ∷ []) ∷ struct 12 base (T ∷ T ∷ []) ∷ []) [] []

abbrev bytes : Trees
bytes = tree slice u8 none

last-field : asks (by_unsize structs (goal (to unsize (applied 10 X) (applied 10 bytes)))) ≡ (tree_of_reference (to unsize (applied 11 X) (applied 11 bytes)) none ∷ []) ∷ []
last-field = refl

-- a parameter that an earlier field mentions is not unsizing, and another struct is no target
mentioned : by_unsize structs (goal (to unsize (applied 12 X) (applied 12 bytes))) ≡ []
mentioned = refl

other-struct : by_unsize structs (goal (to unsize (applied 10 X) (applied 11 bytes))) ≡ []
other-struct = refl
