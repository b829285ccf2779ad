-- The cache of a fold.
use Rattle.std.specs.Prelude.{◌≡◌, ℕ, ◌&&◌, Bool, nat_eq, List, length, IfSome}
use Rattle.std.specs.HashMap.{get}
use Rattle.type_terms.specs.Promised.Trees.{Trees}
use Rattle.type_terms.specs.Binders.{counts_of}
use Rattle.type_terms.specs.declared.binders.Binders.{Binders}
use Rattle.type_terms.specs.Promised.Handles.{Entry, Has, types, trees_at}
use Rattle.term_folds.specs.declared.memo.Place.{Place}
use Rattle.term_folds.specs.declared.memo.Memo.{Memo}
use Rattle.term_folds.specs.Folds.{Does, Folds}

-- what a folder does at a node below binders of these numbers of lifetimes
abbrev pub Action : Type 0
Action = List ℕ → Trees → Does

-- type j is the fold of type i below `depth` binders, however many lifetimes each binds
pub record IsMemo (f : Action) (es : List Entry) (i depth j : ℕ) : Type 0 where
  pub of : Has es types i
  pub has : Has es types j
  pub folded : (bs : List ℕ) → length bs ≡ depth → Folds f bs (trees_at es i) (trees_at es j)

-- the same below these binders
abbrev pub IsMemoUnder : Action → List Entry → Binders → (i j : ℕ) → Type 0
IsMemoUnder f es bs i j = IsMemo f es i (length (counts_of bs)) j

abbrev pub place_eq : Place → Place → Bool
place_eq p q = nat_eq p.ty q.ty && nat_eq p.depth q.depth

-- each cached type is the fold
abbrev pub Remembers : Action → List Entry → Memo → Type 0
Remembers f es m = (p : Place) → IfSome (get place_eq m.found p) (λ t. IsMemo f es p.ty p.depth t.0)

-- if type j is the fold of type i below these binders, the new cache is right wherever the old one was
abbrev pub IsNoted : Memo → Memo → Binders → (i j : ℕ) → Type 0
IsNoted old new bs i j = (f : Action) (es : List Entry) → Remembers f es old → IsMemoUnder f es bs i j → Remembers f es new
