-- Which lists of cells are made as types are: each cell finds its parts on the stack.
use Rattle.std.specs.Prelude.{◌≡◌, ℕ, zero, suc, Bool, true, false, List, [], ◌∷◌, Option, Some, None, nat_lt, if◌then◌else◌}
use Rattle.std.specs.Option.{option_map, option_and_then}
use Rattle.std.specs.List.{list_all}
use Rattle.type_terms.specs.Promised.Handles.{RegionHeld}
use Rattle.type_terms.specs.Kinds.{ConstHeld}
use Rattle.text_tables.specs.Numbered.{EachNumbered}
use Rattle.text_tables.specs.declared.declared.ReferenceCells.{ReferenceCells}
use Rattle.text_tables.specs.declared.cell.TermCell.{TermCell}
use Rattle.text_tables.specs.declared.cell.TermCell.TheVariants as cells

-- The kinds of terms on the stack.
pub data StackPart : Type 0 where
  type_part const_part lifetime_part principal_part : StackPart
  auto_part : (trait : ℕ) → StackPart

abbrev pub is_type : StackPart → Bool
is_type type_part = true
is_type _ = false

abbrev pub is_const : StackPart → Bool
is_const const_part = true
is_const _ = false

abbrev pub is_lifetime_on_stack : StackPart → Bool
is_lifetime_on_stack lifetime_part = true
is_lifetime_on_stack _ = false

abbrev pub is_principal : StackPart → Bool
is_principal principal_part = true
is_principal _ = false

-- a generic argument
abbrev pub is_arg : StackPart → Bool
is_arg type_part = true
is_arg const_part = true
is_arg lifetime_part = true
is_arg _ = false

-- The stack without the n topmost, if they are of this kind.
abbrev pub off : (StackPart → Bool) → ℕ → List StackPart → Option (List StackPart)
off p zero S = Some S
off p (suc n) [] = None
off p (suc n) (x ∷ S) = if p x then off p n S else None

abbrev pub is_below : ℕ → Option ℕ → Bool
is_below t None = true
is_below t (Some u) = nat_lt t u

-- The stack without n auto traits, which rise towards the top.
abbrev pub off_autos : ℕ → Option ℕ → List StackPart → Option (List StackPart)
off_autos zero u S = Some S
off_autos (suc n) u (auto_part t ∷ S) = if is_below t u then off_autos n (Some t) S else None
off_autos (suc n) u _ = None

abbrev pub off_principal : Bool → List StackPart → Option (List StackPart)
off_principal false S = Some S
off_principal true S = off is_principal 1 S

-- The stack with one more on top.
abbrev pub putting : StackPart → Option (List StackPart) → Option (List StackPart)
putting x o = option_map (λ S. x ∷ S) o

-- The stack after a cell.
abbrev pub parts_behind : TermCell → List StackPart → Option (List StackPart)
parts_behind (cells.Const k) S = Some (const_part ∷ S)
parts_behind (cells.Lifetime r) S = Some (lifetime_part ∷ S)
parts_behind (cells.Adt s n) S = putting type_part (off is_arg n S)
parts_behind (cells.Ref r m) S = putting type_part (off is_type 1 S)
parts_behind (cells.RawPtr m) S = putting type_part (off is_type 1 S)
parts_behind cells.Slice S = putting type_part (off is_type 1 S)
parts_behind cells.Array S = putting type_part (option_and_then (off is_type 1) (off is_const 1 S))
parts_behind (cells.Tuple n) S = putting type_part (off is_type n S)
parts_behind (cells.FnPtr b zero) S = None
parts_behind (cells.FnPtr b (suc n)) S = putting type_part (off is_type (suc n) S)
parts_behind (cells.Principal b t n) S = putting principal_part (off is_arg n S)
parts_behind (cells.Auto t) S = Some (auto_part t.index ∷ S)
parts_behind (cells.Dynamic p n) S = putting type_part (option_and_then (off_principal p) (option_and_then (off_autos n None) (off is_lifetime_on_stack 1 S)))
parts_behind _ S = Some (type_part ∷ S)

-- the stack after all cells
abbrev pub parts_of : List TermCell → List StackPart → Option (List StackPart)
parts_of [] S = Some S
parts_of (c ∷ cs) S = option_and_then (parts_of cs) (parts_behind c S)

-- A bound lifetime's binder has a number below the greatest.
abbrev pub CellHeld : TermCell → Type 0
CellHeld (cells.Const k) = ConstHeld k
CellHeld (cells.Lifetime r) = RegionHeld r.kind
CellHeld (cells.Ref r m) = RegionHeld r.kind
CellHeld _ = Unit {0}

abbrev pub CellsHeld : List TermCell → Type 0
CellsHeld [] = Unit {0}
CellsHeld (c ∷ cs) = CellHeld c × CellsHeld cs

-- the cells are made as types are, or as arguments are
pub record AreMade (p : StackPart → Bool) (cs : List TermCell) : Type 0 where
  pub held : CellsHeld cs
  pub parts : option_map (list_all p) (parts_of cs []) ≡ Some true

-- a trait reference of arguments, Self first
abbrev pub ReferenceMade : ReferenceCells → Type 0
ReferenceMade r = AreMade is_arg r.args.items

abbrev pub ReferencesMade : List ReferenceCells → Type 0
ReferencesMade rs = EachNumbered (λ k r. ReferenceMade r) rs
