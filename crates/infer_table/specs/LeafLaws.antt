-- The laws of the traits of visitors and folders, for the collector and the numbering of leaves.
use Rattle.std.specs.Prelude.{◌≡◌, ℕ, Bool, true, false, List, [], ◌∷◌, is_some, if◌then◌else◌, ◌&&◌, refl, None}
use Rattle.std.proofs.Common.{ap, sym, ◌∙◌}
use Rattle.type_terms.specs.Promised.Label.{Label, principal, auto_trait}
use Rattle.type_terms.specs.Promised.Trees.{Trees, none, tree, leaf}
use Rattle.type_terms.specs.Promised.Handles.{Entry, Keeps}
use Rattle.type_terms.specs.declared.Fault.{Fault}
use Rattle.type_terms.specs.declared.kinds.GenericArgKind.{GenericArgKind}
use Rattle.type_terms.specs.declared.visit.Seen.{Seen}
use Rattle.type_terms.specs.declared.visit.Seen.TheVariants.{Enter}
use Rattle.term_folds.specs.Folds.{Does, enters, puts, again}
use Rattle.type_terms.specs.Visits.{IsBound, VisitsEach}
use Rattle.type_terms.specs.Kept.{arg-held-later, arg-trees-later}
use Rattle.type_terms.specs.Pieces.{Piece}
use Rattle.infer_table.specs.declared.canonicalizer.LeafCollector.{LeafCollector}
use Rattle.infer_table.specs.Leaves.{open_kinds, root_label, leaf_label, labels, IsLeaf, AreLeaves, Collects, is_closed_by, is_type_label, numbering}

-- the response of a collector at a node
abbrev pub Collecting : List Entry → Trees → LeafCollector → LeafCollector → Seen Fault → Type 0
Collecting es t v w a = (w.in_clause ≡ v.in_clause) × Collects (open_kinds v.in_clause) t (labels es v.leaves.keys) (labels es w.leaves.keys) a

-- a collector visited a value completely
abbrev pub CollectsEach : List Entry → List Piece → LeafCollector → LeafCollector → Type 0
CollectsEach es ps v w = VisitsEach (λ bs t v w a. Collecting es t v w a) [] ps v w None

pub bounds-collect : (b : Bool) (seen : List Label) (t : Trees) → IsBound t → Collects (open_kinds b) t seen seen Enter
bounds-collect true seen (tree (principal n i) c o) h = (refl, λ e. cc)
bounds-collect false seen (tree (principal n i) c o) h = (refl, λ e. cc)
bounds-collect true seen (tree (auto_trait i) c o) h = (refl, λ e. cc)
bounds-collect false seen (tree (auto_trait i) c o) h = (refl, λ e. cc)
bounds-collect b seen none h = absurd h
bounds-collect b seen (tree l c o) h = absurd h

pub numbering-bounds : (b : Bool) (ls : List Label) (bs : List ℕ) (t : Trees) → IsBound t → numbering b ls bs t ≡ enters
numbering-bounds true ls bs (tree (principal n i) c o) h = refl
numbering-bounds false ls bs (tree (principal n i) c o) h = refl
numbering-bounds true ls bs (tree (auto_trait i) c o) h = refl
numbering-bounds false ls bs (tree (auto_trait i) c o) h = refl
numbering-bounds b ls bs none h = refl
numbering-bounds b ls bs (tree l c o) h = absurd h

pub numbering-once : (b : Bool) (ls : List Label) (bs : List ℕ) (t s : Trees) → numbering b ls bs t ≡ again s → ⊥
numbering-once b ls bs none s e = cc
numbering-once b ls bs (tree l c o) s e = by (is_some (open_kinds b l)) (is_type_label l && is_closed_by b (tree l c none)) _ _ e
  where
    by : (x y : Bool) (t u : Trees) → (if x then puts t else (if y then puts u else enters)) ≡ again s → ⊥
    by true y t u e = cc
    by false true t u e = cc
    by false false t u e = cc

leaf-later : (old new : List Entry) → Keeps old new → (a : GenericArgKind) → IsLeaf old a → leaf_label new a ≡ leaf_label old a
leaf-later old new k a h = ap root_label (arg-trees-later old new k a h.0)

pub leaves-later : (old new : List Entry) → Keeps old new → (xs : List GenericArgKind) → AreLeaves old xs → AreLeaves new xs
leaves-later old new k [] h = tt
leaves-later old new k (a ∷ rest) h =
    ((arg-held-later old new k a h.0.0, arg-trees-later old new k a h.0.0 ∙ h.0.1 ∙ ap leaf (sym (leaf-later old new k a h.0))), leaves-later old new k rest h.1)

both : (l m : Label) (ls ms : List Label) → l ≡ m → ls ≡ ms → ◌≡◌ {A = List Label} (l ∷ ls) (m ∷ ms)
both l m ls ms p q = cc

pub labels-later : (old new : List Entry) → Keeps old new → (xs : List GenericArgKind) → AreLeaves old xs → labels new xs ≡ labels old xs
labels-later old new k [] h = refl
labels-later old new k (a ∷ rest) h = both _ _ _ _ (leaf-later old new k a h.0) (labels-later old new k rest h.1)

pub numbering-later : (b : Bool) (old new : List Entry) → Keeps old new → (xs : List GenericArgKind) → AreLeaves old xs
    → ◌≡◌ {A = List ℕ → Trees → Does} (λ bs t. numbering b (labels new xs) bs t) (λ bs t. numbering b (labels old xs) bs t)
numbering-later b old new k xs h = ap (λ ls. λ (bs : List ℕ) (t : Trees). numbering b ls bs t) (labels-later old new k xs h)
