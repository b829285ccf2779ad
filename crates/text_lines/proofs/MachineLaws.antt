-- The laws of the machine of specs/, by the machine that makes trees.
use Rattle.std.proofs.Common.{◌≡◌, ℕ, zero, suc, ◌+◌, List, [], ◌++◌, refl, sym, ap, ◌∙◌, subst, arith}
use Rattle.text_language.specs.Tokens.{Token}
use Rattle.text_language.specs.Promised.Syntax.{TypeTree, named, Args}
use Rattle.text_language.specs.Syntax.{type_spelling}
use Rattle.text_lines.specs.Cells.{Cell, type_onto}
use Rattle.text_lines.specs.Follows.{IsCompleteType}
use Rattle.text_lines.specs.TokenSteps.{NoAngle}
use Rattle.text_lines.specs.Machine.{State, opening, finished, stuck, step, run, Reaches}
use Rattle.text_lines.specs.Laws.{OneType, MachineFinds, MachineReads, MachineRefuses, MachineReadsBound}
use Rattle.text_lines.proofs.TreeMachine as trees
use Rattle.text_lines.proofs.InStep.{view, view-run}
use Rattle.text_lines.proofs.WhatIsSpelled.{all_read, bound_read}
use Rattle.text_lines.proofs.WhatIsRead.{spells}

run-then : (n m : ℕ) (x : State) → run m (run n x) ≡ run (n + m) x
run-then zero m x = let e : 0 + m ≡ m = omega arith in rw e refl
run-then (suc n) m x = let e : suc n + m ≡ suc (n + m) = omega arith in rw e (run-then n m (step x))

-- the order doesn't matter
pub run-again : (n m : ℕ) (x : State) → run m (run n x) ≡ run n (run m x)
run-again n m x = let e : n + m ≡ m + n = omega arith in run-then n m x ∙ ap (λ k. run k x) e ∙ sym (run-then m n x)

pub stays-finished : (n : ℕ) (out : List Cell) (r : List Token) → run n (finished out r) ≡ finished out r
stays-finished zero out r = refl
stays-finished (suc n) out r = stays-finished n out r

pub stays-stuck : (n : ℕ) → run n stuck ≡ stuck
stays-stuck zero = refl
stays-stuck (suc n) = stays-stuck n

-- what a state ends with
abbrev cells : State → List Cell
cells (finished out r) = out
cells _ = []

abbrev left : State → List Token
left (finished out r) = r
left _ = []

-- two ends are one
one-end : (x : State) (out o : List Cell) (r q : List Token) → Reaches x (finished out r) → Reaches x (finished o q) → finished out r ≡ finished o q
one-end x out o r q (n, e) (m, f) =
    sym (stays-finished m out r) ∙ ap (run m) (sym e) ∙ run-again n m x ∙ ap (run n) f ∙ stays-finished n o q

no-end : (x : State) (out : List Cell) (r : List Token) → Reaches x (finished out r) → Reaches x stuck → finished out r ≡ stuck
no-end x out r (n, e) (m, f) = sym (stays-finished m out r) ∙ ap (run m) (sym e) ∙ run-again n m x ∙ ap (run n) f ∙ stays-stuck n

pub reaches : (o : List Cell) (t : TypeTree) (r : List Token) → IsCompleteType r → Reaches (opening [] o (type_spelling t ++ r)) (finished (type_onto t o) r)
reaches o t r h =
    let p = all_read t r h in
    (p.steps, sym (view-run o p.steps (trees.opening [] (type_spelling t ++ r))) ∙ ap (view o) p.comes)

-- ---- the laws
finished-view : (o : List Cell) (x : trees.TreeState) (out : List Cell) (r : List Token) → view o x ≡ finished out r → (t : TypeTree) × (x ≡ trees.finished t r) × (out ≡ type_onto t o)
finished-view o (trees.opening s ts) out r e = absurd cc
finished-view o (trees.item s is ts) out r e = absurd cc
finished-view o (trees.closing s t ts) out r e = absurd cc
finished-view o (trees.finished t ts) out r e = (t, ap (trees.finished t) (ap left e), sym (ap cells e))
finished-view o trees.stuck out r e = absurd cc

pub finds : MachineFinds
finds o ts r out (n, e) =
    let p = finished-view o (trees.run n (trees.opening [] ts)) out r (view-run o n (trees.opening [] ts) ∙ e) in
    (p.0, spells n ts r p.0 p.1, p.2)

pub machine_reads : MachineReads
machine_reads o ts r out t q reached h e =
    let f : finished out r ≡ finished (type_onto t o) q = one-end (opening [] o ts) out (type_onto t o) r q reached (subst (λ x. Reaches (opening [] o x) (finished (type_onto t o) q)) (sym e) (reaches o t q h)) in
    (ap cells f, ap left f)

is-stuck : (out : List Cell) (r : List Token) → finished out r ≡ stuck → ⊥
is-stuck out r e = absurd cc

pub refuses : MachineRefuses
refuses o ts t q reached h e = is-stuck (type_onto t o) q (no-end (opening [] o ts) (type_onto t o) q (subst (λ x. Reaches (opening [] o x) (finished (type_onto t o) q)) (sym e) (reaches o t q h)) reached)

-- ---- no two types are spelled alike: the machine that makes trees would end with both
tree-then : (n m : ℕ) (x : trees.TreeState) → trees.run m (trees.run n x) ≡ trees.run (n + m) x
tree-then zero m x = let e : 0 + m ≡ m = omega arith in rw e refl
tree-then (suc n) m x = let e : suc n + m ≡ suc (n + m) = omega arith in rw e (tree-then n m (trees.step x))

tree-stays : (n : ℕ) (t : TypeTree) (r : List Token) → trees.run n (trees.finished t r) ≡ trees.finished t r
tree-stays zero t r = refl
tree-stays (suc n) t r = tree-stays n t r

abbrev tree-of : TypeTree → trees.TreeState → TypeTree
tree-of u (trees.finished t r) = t
tree-of u _ = u

abbrev rest-of : trees.TreeState → List Token
rest-of (trees.finished t r) = r
rest-of _ = []

pub one_type : OneType
one_type t u r q h k e =
    let p = all_read t r h in
    let o = all_read u q k in
    let same : trees.run o.steps (trees.opening [] (type_spelling t ++ r)) ≡ trees.finished u q = subst (λ x. trees.run o.steps (trees.opening [] x) ≡ trees.finished u q) (sym e) o.comes in
    let sums : p.steps + o.steps ≡ o.steps + p.steps = omega arith in
    let f : trees.finished t r ≡ trees.finished u q =
    sym (tree-stays o.steps t r) ∙ ap (trees.run o.steps) (sym p.comes) ∙ tree-then p.steps o.steps (trees.opening [] (type_spelling t ++ r)) ∙ ap (λ n. trees.run n (trees.opening [] (type_spelling t ++ r))) sums
    ∙ sym (tree-then o.steps p.steps (trees.opening [] (type_spelling t ++ r))) ∙ ap (trees.run p.steps) same ∙ tree-stays p.steps u q in
    (ap (tree-of t) f, ap rest-of f)

-- ---- bounds
pub bound-reaches : (o : List Cell) (n : List ℕ) (args : Args) (r : List Token) → NoAngle r → Reaches (opening [] o (type_spelling (named n args) ++ r)) (finished (type_onto (named n args) o) r)
bound-reaches o n args r h =
    let p = bound_read n args r h in
    (p.steps, sym (view-run o p.steps (trees.opening [] (type_spelling (named n args) ++ r))) ∙ ap (view o) p.comes)

pub machine_reads_bound : MachineReadsBound
machine_reads_bound o ts r out n args q reached h e =
    let f : finished out r ≡ finished (type_onto (named n args) o) q = one-end (opening [] o ts) out (type_onto (named n args) o) r q reached (subst (λ x. Reaches (opening [] o x) (finished (type_onto (named n args) o) q)) (sym e) (bound-reaches o n args q h)) in
    (ap cells f, ap left f)
