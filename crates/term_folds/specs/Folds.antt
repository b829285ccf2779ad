-- Folds: what a folder does at a node, and the relation between a term and its fold.
use Rattle.std.specs.Prelude.{[], ◌≡◌, ℕ, ◌≤◌, List, ◌∷◌, ◌++◌, Option}
use Rattle.std.proofs.Common.{arith}
use Rattle.type_terms.specs.Promised.Label.{Label}
use Rattle.type_terms.specs.Promised.Trees.{Trees, none, tree, ◌+++◌}
use Rattle.type_terms.specs.Terms.{Terms}
use Rattle.type_terms.specs.Kinds.{kind_trees}
use Rattle.type_terms.specs.Binders.{counts_of}
use Rattle.type_terms.specs.Visits.{around, VisitsBelow}
use Rattle.type_terms.specs.declared.binders.Binders.{Binders}
use Rattle.type_terms.specs.declared.kinds.TyKind.{TyKind}
use Rattle.type_terms.specs.declared.visit.Seen.{Seen}
use Rattle.type_terms.specs.Pieces.{Piece}
use Rattle.type_terms.specs.Promised.Handles.{Entry, Is, Has, trees_at, types, consts}
use Rattle.type_terms.specs.Promised.Handles.{region_trees, RegionHeld}
use Rattle.type_terms.specs.declared.kinds.Ty.{Ty}
use Rattle.type_terms.specs.declared.kinds.Const.{Const}
use Rattle.type_terms.specs.declared.region.Region.{Region}
use Rattle.term_folds.specs.declared.fold.Answer.{Answer}
use Rattle.term_folds.specs.declared.fold.Answer.TheVariants.{Enter, Replace, Again}

-- what a folder does at a node: it enters the node's children, or replaces the node by trees, or by the fold of trees
pub data Does : Type 0 where
  enters : Does
  puts again : Trees → Does

-- below binders of `bs` lifetimes, innermost first, the fold of the first forest is the second
pub data Folds (f : List ℕ → Trees → Does) : List ℕ → Trees → Trees → Type 0 where
  nothing : {bs : List ℕ} → Folds f bs none none
  entered : {bs : List ℕ} {l : Label} {c o c' o' : Trees} → f bs (tree l c none) ≡ enters → Folds f (around l bs) c c' → Folds f bs o o' → Folds f bs (tree l c o) (tree l c' o')
  put : {bs : List ℕ} {l : Label} {c o r o' : Trees} → f bs (tree l c none) ≡ puts r → Folds f bs o o' → Folds f bs (tree l c o) (r +++ o')
  in_turn : {bs : List ℕ} {l : Label} {c o s r o' : Trees} → f bs (tree l c none) ≡ again s → Folds f bs s r → Folds f bs o o' → Folds f bs (tree l c o) (r +++ o')

-- the same label over the folds of the children
pub data FoldsBelow (f : List ℕ → Trees → Does) (bs : List ℕ) : Trees → Trees → Type 0 where
  below : {l : Label} {c c' : Trees} → Folds f (around l bs) c c' → FoldsBelow f bs (tree l c none) (tree l c' none)

-- the folder's response at a node is what it does there, where P relates values and trees
abbrev pub Answers : {T : Type 0} → (T → Trees → Type 0) → Does → Answer T → Type 0
Answers P enters Enter = Unit {0}
Answers P (puts t) (Replace x) = P x t
Answers P (again t) (Again x) = P x t
Answers P _ _ = ⊥

abbrev pub TyAnswer : Does → Terms → Answer Ty → Type 0
TyAnswer d cx a = Answers (λ x t. Is cx.entries types x.0 t) d a

abbrev pub ConstAnswer : Does → Terms → Answer Const → Type 0
ConstAnswer d cx a = Answers (λ x t. Is cx.entries consts x.0 t) d a

abbrev pub RegionAnswer : Does → Answer Region → Type 0
RegionAnswer d a = Answers (λ x t. (region_trees x ≡ t) × RegionHeld x.kind) d a

-- handle i has a term of this table, which is the fold of t
pub record IsFold (f : List ℕ → Trees → Does) (bs : List ℕ) (t : Trees) (es : List Entry) (table i : ℕ) : Type 0 where
  pub has : Has es table i
  pub folded : Folds f bs t (trees_at es i)

-- the same, if the folder is not called at the root
pub record IsFoldBelow (f : List ℕ → Trees → Does) (bs : List ℕ) (t : Trees) (es : List Entry) (table i : ℕ) : Type 0 where
  pub has : Has es table i
  pub folded : FoldsBelow f bs t (trees_at es i)

-- handle j of the interner after the call is the fold of handle i of the interner before it
abbrev pub IsHandleFold : (List Entry → List ℕ → Trees → Does) → Binders → Terms → Terms → (table i j : ℕ) → Type 0
IsHandleFold f bs old new table i j = IsFold (f old.entries) (counts_of bs) (trees_at old.entries i) new.entries table j

-- the same, if the folder is not called at the root
abbrev pub IsHandleFoldBelow : (List Entry → List ℕ → Trees → Does) → Binders → Terms → Terms → (table i j : ℕ) → Type 0
IsHandleFoldBelow f bs old new table i j = IsFoldBelow (f old.entries) (counts_of bs) (trees_at old.entries i) new.entries table j

-- the same without binders around the root
abbrev pub IsSuperFold : (List Entry → List ℕ → Trees → Does) → Terms → Terms → (table i j : ℕ) → Type 0
IsSuperFold f old new table i j = IsFoldBelow (f old.entries) [] (trees_at old.entries i) new.entries table j

-- the kind of type i, over the folds of its children
abbrev pub IsKindFold : (List Entry → List ℕ → Trees → Does) → Binders → Terms → Terms → ℕ → TyKind → Type 0
IsKindFold f bs old new i k = FoldsBelow (f old.entries) (counts_of bs) (trees_at old.entries i) (kind_trees new.entries k)

-- y is the fold of x, where `trees` gives the trees of both
abbrev pub IsFoldUnder : {A : Type 0} → (List Entry → List ℕ → Trees → Does) → Binders → Terms → Terms → (List Entry → A → Trees) → A → A → Type 0
IsFoldUnder f bs old new trees x y = Folds (f old.entries) (counts_of bs) (trees old.entries x) (trees new.entries y)

-- each piece of the second value is the fold of that piece of the first
abbrev pub FoldsEach : (List ℕ → Trees → Does) → List ℕ → List Piece → List Piece → Type 0
FoldsEach f bs [] [] = Unit {0}
FoldsEach f bs (p ∷ ps) (q ∷ qs) = (p.counts ≡ q.counts) × Folds f (p.counts ++ bs) p.trees q.trees × FoldsEach f bs ps qs
FoldsEach f bs _ _ = ⊥

-- the same for the pieces of a value in the interner before a call, and of its fold in the interner after it
abbrev pub IsValueFold : (List Entry → List ℕ → Trees → Does) → List ℕ → Terms → Terms → (List Entry → List Piece) → (List Entry → List Piece) → Type 0
IsValueFold f bs old new pieces folded = FoldsEach (f old.entries) bs (pieces old.entries) (folded new.entries)

-- the visit of what is below the root of term i
abbrev pub IsSuperVisit : {V B : Type 0} → (List Entry → List ℕ → Trees → V → V → Seen B → Type 0) → Terms → ℕ → V → V → Option B → Type 0
IsSuperVisit sees cx i v w r = VisitsBelow (sees cx.entries) [] (trees_at cx.entries i) v w r

pub enters-once : (s : Trees) → enters ≡ again s → ⊥
enters-once s e = cc

-- for the fuel of a folder that never returns `Again`
pub none_above : 0 ≤ 0
none_above = omega arith
