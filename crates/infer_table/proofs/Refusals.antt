-- Canonical forms that fail.
use Rattle.std.proofs.Common.{◌≡◌, ℕ, List, refl, subst, Option, Some}
use Rattle.type_terms.specs.Promised.Trees.{Trees}
use Rattle.type_terms.specs.Promised.Handles.{Entry}
use Rattle.type_terms.specs.declared.Fault.{Fault}
use Rattle.type_terms.specs.declared.Fault.TheVariants.{Memory}
use Rattle.type_terms.specs.declared.visit.Seen.{Seen}
use Rattle.type_terms.specs.declared.visit.Seen.TheVariants.{Break}
use Rattle.type_terms.specs.Pieces.{Piece}
use Rattle.type_terms.specs.Visits.{Visits, ended, passed, broken, entered, broken_below, VisitsEach, ended_each, next_each, broken_each}
use Rattle.infer_table.specs.LeafLaws.{Collecting}
use Rattle.infer_table.specs.declared.canonicalizer.LeafCollector.{LeafCollector}

-- what is true of each value with which a visitor breaks is true of the one with which its visit does
pub visits-break : {V B : Type 0} {sees : List ℕ → Trees → V → V → Seen B → Type 0} (P : B → Type 0) → ((bs : List ℕ) (t : Trees) (v w : V) (b : B) → sees bs t v w (Break b) → P b)
    → {bs : List ℕ} {x : Trees} {u w : V} {q : Option B} → Visits sees bs x u w q → {b : B} → q ≡ Some b → P b
visits-break P s ended e = cc
visits-break P s (passed a o) e = visits-break P s o e
visits-break P s {bs = bs} (broken {v = v} {w = w} {b = b} a) {b = b'} e =
    let p : b ≡ b' = cc in subst P p (s bs _ v w b a)
visits-break P s (entered a c o) e = visits-break P s o e
visits-break P s (broken_below a c) e = visits-break P s c e

pub each-break : {V B : Type 0} {sees : List ℕ → Trees → V → V → Seen B → Type 0} (P : B → Type 0) → ((bs : List ℕ) (t : Trees) (v w : V) (b : B) → sees bs t v w (Break b) → P b)
    → {bs : List ℕ} {ps : List Piece} {u w : V} {q : Option B} → VisitsEach sees bs ps u w q → {b : B} → q ≡ Some b → P b
each-break P s ended_each e = cc
each-break P s (next_each a o) e = each-break P s o e
each-break P s (broken_each a) e = visits-break P s a e

-- a collector breaks for want of memory alone
pub collecting-breaks : (es : List Entry) {bs : List ℕ} {ps : List Piece} {u w : LeafCollector} {f : Fault} → VisitsEach (λ ds t v v' a. Collecting es t v v' a) bs ps u w (Some f) → f ≡ Memory
collecting-breaks es h = each-break (λ f. f ≡ Memory) (λ ds t v w b k. k.1.0) h refl
