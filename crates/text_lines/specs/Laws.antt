-- The promises of the reader of types.
use Rattle.std.specs.Prelude.{◌≡◌, ℕ, List, [], ◌++◌}
use Rattle.text_language.specs.Tokens.{Token}
use Rattle.text_language.specs.Promised.Syntax.{TypeTree, named, Args}
use Rattle.text_language.specs.Syntax.{type_spelling}
use Rattle.text_lines.specs.Cells.{Cell, type_onto}
use Rattle.text_lines.specs.Follows.{IsCompleteType}
use Rattle.text_lines.specs.TokenSteps.{NoAngle}
use Rattle.text_lines.specs.Machine.{opening, finished, stuck, Reaches}

-- the tokens at the front spell a type, `out` is `o` with its cells appended, and `left` are the tokens after it
abbrev pub SpellsType : List Token → List Cell → List Cell → List Token → Type 0
SpellsType ts o out left = (t : TypeTree) × (ts ≡ type_spelling t ++ left) × (out ≡ type_onto t o)

-- This type was read: `out` is `o` with its cells appended, and the tokens after it remain.
abbrev pub ReadsType : TypeTree → List Cell → List Cell → List Token → List Token → Type 0
ReadsType t o out rest left = (out ≡ type_onto t o) × (left ≡ rest)

-- No two types have the same spelling.
abbrev pub OneType : Type 0
OneType = (t u : TypeTree) (r q : List Token) → IsCompleteType r → IsCompleteType q → type_spelling t ++ r ≡ type_spelling u ++ q → (t ≡ u) × (r ≡ q)

-- if the machine ends with cells, the tokens spell their type
abbrev pub MachineFinds : Type 0
MachineFinds = (o : List Cell) (ts left : List Token) (out : List Cell) → Reaches (opening [] o ts) (finished out left) → SpellsType ts o out left

-- if the tokens spell a type and the machine ends, it ends with the cells of this type
abbrev pub MachineReads : Type 0
MachineReads =
    (o : List Cell) (ts left : List Token) (out : List Cell) (t : TypeTree) (r : List Token) → Reaches (opening [] o ts) (finished out left) → IsCompleteType r
    → ts ≡ type_spelling t ++ r → ReadsType t o out r left

-- if the machine is stuck, the tokens spell no type
abbrev pub MachineRefuses : Type 0
MachineRefuses = (o : List Cell) (ts : List Token) (t : TypeTree) (r : List Token) → Reaches (opening [] o ts) stuck → IsCompleteType r → ts ≡ type_spelling t ++ r → ⊥

-- P holds of each type that the tokens at the front spell, and of the tokens after it
abbrev pub IfSpelled : List Token → (TypeTree → List Token → Type 0) → Type 0
IfSpelled ts P = (t : TypeTree) (rest : List Token) → IsCompleteType rest → ts ≡ type_spelling t ++ rest → P t rest

-- If the tokens spell a bound and the machine ends, it ends with the type of the bound's name and arguments.
abbrev pub MachineReadsBound : Type 0
MachineReadsBound =
    (o : List Cell) (ts left : List Token) (out : List Cell) (n : List ℕ) (args : Args) (r : List Token) → Reaches (opening [] o ts) (finished out left) → NoAngle r
    → ts ≡ type_spelling (named n args) ++ r → ReadsType (named n args) o out r left
