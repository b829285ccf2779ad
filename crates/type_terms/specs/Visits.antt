-- What a visitor does at a node, and what a visit is.
use Rattle.std.specs.ControlFlow.{break_value}
use Rattle.std.proofs.Common.{ControlFlow}
use Rattle.std.specs.Prelude.{ℕ, List, [], ◌∷◌, ◌++◌, Option, Some, None}
use Rattle.type_terms.specs.Promised.Label.{Label, fn_ptr, principal, auto_trait}
use Rattle.type_terms.specs.Promised.Trees.{Trees, none, tree}
use Rattle.type_terms.specs.Promised.Handles.{Entry}
use Rattle.type_terms.specs.Binders.{counts_of}
use Rattle.type_terms.specs.Pieces.{Piece}
use Rattle.type_terms.specs.declared.binders.Binders.{Binders}
use Rattle.type_terms.specs.declared.visit.Seen.{Seen}
use Rattle.type_terms.specs.declared.visit.Seen.TheVariants.{Break, Enter, Pass}

-- The binders around the children of a node, the innermost first, where `bs` are around the node.
abbrev pub around : Label → List ℕ → List ℕ
around (fn_ptr n) bs = n ∷ bs
around (principal n _) bs = n ∷ bs
around _ bs = bs

-- Below the binders `bs`, a visit of the terms turns the first visitor into the second, and ends with a break or
-- without. It visits each node in order, and the children of those that the visitor enters. It visits nothing after a
-- break.
pub data Visits {V B : Type 0} (sees : List ℕ → Trees → V → V → Seen B → Type 0) : List ℕ → Trees → V → V → Option B → Type 0 where
  ended : {bs : List ℕ} {v : V} → Visits sees bs none v v None
  passed : {bs : List ℕ} {l : Label} {c o : Trees} {v w x : V} {r : Option B} → sees bs (tree l c none) v w Pass → Visits sees bs o w x r → Visits sees bs (tree l c o) v x r
  broken : {bs : List ℕ} {l : Label} {c o : Trees} {v w : V} {b : B} → sees bs (tree l c none) v w (Break b) → Visits sees bs (tree l c o) v w (Some b)
  entered : {bs : List ℕ} {l : Label} {c o : Trees} {v u w x : V} {r : Option B} → sees bs (tree l c none) v u Enter → Visits sees (around l bs) c u w None → Visits sees bs o w x r → Visits sees bs (tree l c o) v x r
  broken_below : {bs : List ℕ} {l : Label} {c o : Trees} {v u w : V} {b : B} → sees bs (tree l c none) v u Enter → Visits sees (around l bs) c u w (Some b) → Visits sees bs (tree l c o) v w (Some b)

-- A visit of the children of one node.
pub data VisitsBelow {V B : Type 0} (sees : List ℕ → Trees → V → V → Seen B → Type 0) (bs : List ℕ) : Trees → V → V → Option B → Type 0 where
  below : {l : Label} {c : Trees} {v w : V} {r : Option B} → Visits sees (around l bs) c v w r → VisitsBelow sees bs (tree l c none) v w r

-- A visit of the parts of a value, in order.
pub data VisitsEach {V B : Type 0} (sees : List ℕ → Trees → V → V → Seen B → Type 0) (bs : List ℕ) : List Piece → V → V → Option B → Type 0 where
  ended_each : {v : V} → VisitsEach sees bs [] v v None
  next_each : {p : Piece} {ps : List Piece} {v w x : V} {r : Option B} → Visits sees (p.counts ++ bs) p.trees v w None → VisitsEach sees bs ps w x r → VisitsEach sees bs (p ∷ ps) v x r
  broken_each : {p : Piece} {ps : List Piece} {v w : V} {b : B} → Visits sees (p.counts ++ bs) p.trees v w (Some b) → VisitsEach sees bs (p ∷ ps) v w (Some b)

-- What a call did that ends with this result: a visit of these terms, or of these pieces, below these binders.
abbrev pub VisitsTerms : {V B : Type 0} → (List Entry → List ℕ → Trees → V → V → Seen B → Type 0) → List Entry → Binders → Trees → V → V → ControlFlow B (Unit {0}) → Type 0
VisitsTerms sees es bs t v w r = Visits (sees es) (counts_of bs) t v w (break_value r)

abbrev pub VisitsPieces : {V B : Type 0} → (List Entry → List ℕ → Trees → V → V → Seen B → Type 0) → List Entry → Binders → List Piece → V → V → ControlFlow B (Unit {0}) → Type 0
VisitsPieces sees es bs ps v w r = VisitsEach (sees es) (counts_of bs) ps v w (break_value r)

-- A bound of a `dyn`. No folder and no visitor is called there.
abbrev pub IsBound : Trees → Type 0
IsBound (tree (principal n i) c o) = Unit {0}
IsBound (tree (auto_trait i) c o) = Unit {0}
IsBound _ = ⊥
