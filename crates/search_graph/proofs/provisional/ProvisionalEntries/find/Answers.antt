use Rattle.std.proofs.Common.{◌≡◌, ◌<◌, ◌≤◌, ◌+◌, ◌-◌, ℕ, suc, zero, List, Option, Some, None, slice_get, get_or, drop, length, arith, sym, ◌∙◌, ap, refl, subst, ◌⊎◌, inl, inr}
use Rattle.std.specs.Option.{IfNone}
use Rattle.std.proofs.lemmas.Option.{slice_get_read, same_Some}
use Rattle.std.proofs.lemmas.List.{at_drop_more, at_drop_all}
use Rattle.search_paths.specs.declared.path_kind.PathKind.{PathKind}
use Rattle.search_graph.specs.declared.stack.StackEntry.{StackEntry}
use Rattle.search_paths.specs.Path.{greater}
use Rattle.search_graph.specs.Stack.{kind_after}
use Rattle.search_graph.specs.Provisional.{IsServing}
use Rattle.search_graph.proofs.Entries.{head_within}
use Rattle.search_graph.proofs.provisional.ProvisionalEntries.find.Goals as goal

-- the step of one more goal comes first
kind_more : {I R : Type 0} (es : List (StackEntry I R)) (head : ℕ) (entry : StackEntry I R) (k path new : PathKind) → 0 < head → head ≤ length es → new ≡ greater (get_or es (head - 1) entry).step_kind path → path ≡ kind_after (drop head es) k → new ≡ kind_after (drop (head - 1) es) k
kind_more es head entry k path new positive inside is kind =
    let next : head - 1 + 1 ≡ head = omega (arith, positive) in
    is
    ∙ ap (greater (get_or es (head - 1) entry).step_kind) (kind ∙ ap (λ n. kind_after (drop n es) k) (sym next))
    ∙ sym (at_drop_more (λ xs. kind_after xs k) es (head - 1) entry (omega (arith, positive, inside)))

none_in : {A : Type 0} (o : Option A) (P : Type 0) → IfNone o P → ((x : A) → o ≡ Some x → ⊥) → P
none_in None P h n = h
none_in (Some x) P h n = absurd (n x refl)

at_least : (head i : ℕ) → 0 < head → head - 1 ≤ i → (head ≤ i) ⊎ (i ≡ head - 1)
at_least zero i positive h = absurd (omega (arith, positive))
at_least (suc zero) zero positive h = inr (omega arith)
at_least (suc zero) (suc i) positive h = inl (omega arith)
at_least (suc (suc head)) zero positive h = absurd (omega (arith, h))
at_least (suc (suc head)) (suc i) positive h = elim (at_least (suc head) i (omega arith) (omega (arith, h))) [ inl x ↦ inl (omega (arith, x)) | inr e ↦ inr (omega (arith, e)) ]

pub loop-head-init : goal.loop-head-init
loop-head-init g c =
    record {
      within = omega arith;
      kind = sym (at_drop_all (λ xs. kind_after xs c.args.step_kind) c.args.stack.now (length c.args.stack.now) (omega arith));
      above = λ head place past at. let inside = head_within c.args.self.now.lists.items head place at.0 at.1 in omega (arith, c.requires, past, inside);
    }

pub returns-in-Some-clause-found : goal.returns-in-Some-clause-found
returns-in-Some-clause-found g c =
    let positive : 0 < c.loop-head.head = c.loop-head-test.true in
    let within : c.loop-head.head ≤ length c.args.stack.now = c.loop-head.invariant.within in
    let next : c.loop-head.head ≡ c.loop-head.head - 1 + 1 = omega (arith, positive) in
    let found = c.in-Some.ensures.found in
    let at = slice_get_read c.args.self.now.lists.items (length c.args.self.now.lists.items) (c.loop-head.head - 1) c.index-list.result.now refl (omega (arith, positive, within, c.requires)) c.index-list.ensures in
    let kind : c.loop-head.path_kind ≡ kind_after (drop (c.loop-head.head - 1 + 1) c.args.stack.now) c.args.step_kind = c.loop-head.invariant.kind ∙ ap (λ n. kind_after (drop n c.args.stack.now) c.args.step_kind) next in
    (found.0, (c.index-list.result.now, at, rw (sym c.deref.ensures.value) found.1), subst (λ p. IsServing c.args.number c.args.input.now p c.args.depth found.0) kind found.2)

pub loop-head-preserved : goal.loop-head-preserved
loop-head-preserved g c =
    let positive : 0 < c.loop-head.head = c.loop-head-test.true in
    let within : c.loop-head.head ≤ length c.args.stack.now = c.loop-head.invariant.within in
    let next : c.loop-head.head - 1 + 1 ≡ c.loop-head.head = omega (arith, positive) in
    let at = slice_get_read c.args.self.now.lists.items (length c.args.self.now.lists.items) (c.loop-head.head - 1) c.index-list.result.now refl (omega (arith, positive, within, c.requires)) c.index-list.ensures in
    let none = none_in c.find_among.result _ c.find_among.ensures.none (λ x e. c.in_default.not-Some x e) in
    record {
      within = omega (arith, within);
      kind = kind_more c.args.stack.now c.loop-head.head _ c.args.step_kind c.loop-head.path_kind c.extend-path_kind.result positive within c.extend-path_kind.ensures.is c.loop-head.invariant.kind;
      above = λ head place past there. elim (at_least c.loop-head.head head positive past) [
        | inl x ↦ c.loop-head.invariant.above head place x there
        | inr same ↦
            let list : there.1.0 ≡ c.index-list.result.now = same_Some there.1.0 c.index-list.result.now (sym there.1.1 ∙ ap (λ n. slice_get c.args.self.now.lists.items n) same ∙ at) in
            let step : head + 1 ≡ c.loop-head.head = omega (arith, same, next) in
            let kind : kind_after (drop (head + 1) c.args.stack.now) c.args.step_kind ≡ c.loop-head.path_kind = ap (λ n. kind_after (drop n c.args.stack.now) c.args.step_kind) step ∙ sym c.loop-head.invariant.kind in
            none place there.0 (rw (c.deref.ensures.value, sym list) there.1.2) (subst (λ p. IsServing c.args.number c.args.input.now p c.args.depth there.0) kind there.2)
      ];
    }

pub returns-clause-none : goal.returns-clause-none
returns-clause-none g c head place at = c.loop-head.invariant.above head place (omega (arith, c.loop-head-test.false)) at

pub returns-then-not-self-clause-none : goal.returns-then-not-self-clause-none
returns-then-not-self-clause-none g c head place at = c.args.self.now.unused c.if-not-self.true head place at.0 at.1
