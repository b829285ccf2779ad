use Rattle.std.proofs.Common.{◌≡◌, ℕ, ◌<◌, ◌≤◌, List, [], ◌∷◌, arith, sym, subst, ◌∙◌, get_or, length, ap, refl, Option, Some, None, Err}
use Rattle.std.proofs.lemmas.Grind.{common_steps}
use Rattle.type_terms.specs.Promised.Trees.{Trees, ◌+++◌}
use Rattle.type_terms.specs.Trees.{Single}
use Rattle.type_terms.specs.Promised.Handles.{Has, Keeps, types, consts, bounds_lists, trees_at}
use Rattle.type_terms.specs.Terms.{type_lists, args_lists}
use Rattle.type_terms.specs.Kinds.{tys_trees, ArgOlder, args_trees, kind_trees, is_mut, principal_trees, autos_trees, PrincipalOlder}
use Rattle.type_terms.specs.Promised.Handles.{ArgHeld, arg_trees, region_trees}
use Rattle.type_terms.specs.declared.kinds.GenericArgKind.{GenericArgKind}
use Rattle.type_terms.specs.declared.kinds.GenericArgKind.TheVariants.{Lifetime, Ty, Const}
use Rattle.type_terms.specs.declared.kinds.TyKind.TheVariants.{Ref}
use Rattle.type_terms.specs.declared.TraitId.{TraitId}
use Rattle.type_terms.specs.declared.kinds.Principal.{Principal}
use Rattle.type_terms.specs.Promised.Label.{ref, principal}
use Rattle.type_terms.specs.Binders.{counts_of}
use Rattle.type_terms.proofs.Grown.{grew-none, grew-on}
use Rattle.term_folds.specs.Folds.{Does, enters, Folds, nothing, entered, below}
use Rattle.type_terms.specs.Visits.{IsBound}
use Rattle.type_terms.specs.Kept.{trees-is, has-later, trees-later, arg-held-later, arg-trees-later, args-held-later, tys-held-later}
use Rattle.term_folds.proofs.FoldFacts.{TyIs, says-enters, says-puts, says-again, put-handle, turn-handle, enter-later, folds-append, by-action, two-folds, ok-map}
use Rattle.type_terms.proofs.Items.{type-is-one, ty-held-at, ty-older-at, tys-held-push, fuel-of-ty, no-tys, arg-held-at, arg-older-at, args-held-push, fuel-of-arg}
use Rattle.type_terms.proofs.Equal.{arg-eq}
use Rattle.term_folds.proofs.Items.{one-more-ty, one-more-arg, one-arg-list, one-arg-folds, one-arg-stays}
use Rattle.term_folds.proofs.KindFacts.{leaf-below}
use Rattle.term_folds.proofs.MemoFacts.{remembers-later, fold-known}
use Rattle.type_terms.proofs.FailFacts.{fault-error, memory-error, refused-term}
use Rattle.term_folds.proofs.ErrorFacts.{no-value, same-error}
use Rattle.term_folds.proofs.walk.+walks.Invariants.{number_of, number_of_principal}
use Rattle.term_folds.proofs.walk.+walks.Goals as goal

pub walk_ty-returns-in_ok-note-in-Enter-clause-folded : goal.walk_ty-returns-in_ok-note-in-Enter-clause-folded
walk_ty-returns-in_ok-note-in-Enter-clause-folded g t c =
    let es = c.args.cx.now.entries in
    let es1 = c.try_fold_ty.new.cx.entries in
    let bs = counts_of c.args.binders.now in
    let f = g.F.FallibleTypeFolder.action c.args.folder.now es in
    let law = g.met.F.FallibleTypeFolder.action_kept c.args.folder.now es es1 c.try_fold_ty.ensures.grew.keeps c.requires.ready in
    let does = says-enters (TyIs c.try_fold_ty.new.cx.entries) (f bs (trees_at es c.args.ty.0)) (rw (← c.in-Enter.is) c.in_ok-try_fold_ty.ensures.answer) in
    enter-later (g.F.FallibleTypeFolder.action c.args.folder.now es1) f bs (trees_at es1 c.args.ty.0) (trees_at es c.args.ty.0) c.super_walk_ty.new.cx.entries types _
    law (trees-later es es1 c.try_fold_ty.ensures.grew.keeps types c.args.ty.0 c.requires.held) does c.in_ok-folded-in-Enter.ensures.folded

pub walk_ty-returns-in_ok-note-in-Enter-clause-known : goal.walk_ty-returns-in_ok-note-in-Enter-clause-known
walk_ty-returns-in_ok-note-in-Enter-clause-known g t c =
    let es = c.args.cx.now.entries in
    let es2 = c.super_walk_ty.new.cx.entries in
    let keeps : Keeps es es2 = λ j e h. c.super_walk_ty.ensures.grew.keeps j e (c.try_fold_ty.ensures.grew.keeps j e h) in
    let f = g.F.FallibleTypeFolder.action c.args.folder.now es2 in
    let law = g.met.F.FallibleTypeFolder.action_kept c.args.folder.now es es2 keeps c.requires.ready in
    c.in_ok-note-in-Enter.ensures.noted f es2 c.in_ok-folded-in-Enter.ensures.known
    (fold-known (g.F.FallibleTypeFolder.action c.args.folder.now es) f (counts_of c.args.binders.now) es es2 keeps law (g.met.F.FallibleTypeFolder.by_depth c.args.folder.now es2) c.args.ty.0 c.in_ok-folded-in-Enter.folded.0
    c.requires.held (walk_ty-returns-in_ok-note-in-Enter-clause-folded g t c))

-- ---- lists of types
pub walk_tys-loop-ty-init : goal.walk_tys-loop-ty-init
walk_tys-loop-ty-init g t c =
    let same = c.deref-ty-items.ensures.value ∙ c.in_ok-old.ensures.copied in (
      λ i e h. h,
      c.requires.ready,
      rw c.new-new.ensures.items tt,
      rw c.new-new.ensures.items nothing,
      rw same c.tys.ensures.held,
      rw same c.tys.ensures.older,
      rw same c.tys.ensures.is,
      rw c.new-new.ensures.items refl,
      refl,
      c.requires.known,
    )

pub walk_tys-walk_ty-requires : goal.walk_tys-walk_ty-requires
walk_tys-walk_ty-requires g t c κs within =
    let inv = c.loop-ty.invariant in
    let xs = c.deref-ty-items.result.now in
    let es = c.args.cx.now.entries in
    let now = c.loop-ty.cx.entries in
    let i = c.loop-ty.ty-index in
    let lt = ty-older-at c.args.tys.0 xs i (record { 0 = 0 }) inv.5 c.loop-ty-test.true in
    let old = ty-held-at es xs i (record { 0 = 0 }) inv.4 c.loop-ty-test.true in
    let fuel = g.F.FallibleTypeFolder.fuel c.args.folder.now es in
    let part = fuel-of-ty fuel (g.met.F.FallibleTypeFolder.below_left c.args.folder.now es) (g.met.F.FallibleTypeFolder.below_right c.args.folder.now es) es xs i (record { 0 = 0 }) c.loop-ty-test.true in
    let law = g.met.F.FallibleTypeFolder.fuel_kept c.args.folder.now es now inv.0 c.requires.ready in
    let same : trees_at now (get_or xs i (record { 0 = 0 })).0 ≡ trees_at es (get_or xs i (record { 0 = 0 })).0 = trees-later es now inv.0 types _ old in
    let whole : trees_at es c.args.tys.0 ≡ tys_trees es xs = trees-is es type_lists c.args.tys.0 _ inv.6 in
    let fuel-now : g.F.FallibleTypeFolder.fuel c.args.folder.now now (trees_at now (get_or xs i (record { 0 = 0 })).0) ≤ fuel (trees_at es c.args.tys.0) = rw (law, same, whole) part in
    (omega (arith, lt, c.decreases, fuel-now), (within.0, (within.1, (inv.1, (inv.9, has-later es now inv.0 types _ old)))))

pub walk_tys-loop-ty-preserved : goal.walk_tys-loop-ty-preserved
walk_tys-loop-ty-preserved g t c =
    let inv = c.loop-ty.invariant in
    let xs = c.deref-ty-items.result.now in
    let es = c.args.cx.now.entries in
    let now = c.loop-ty.cx.entries in
    let next = c.walk_ty.new.cx.entries in
    let i = c.loop-ty.ty-index in
    let bs = counts_of c.args.binders.now in
    let f = g.F.FallibleTypeFolder.action c.args.folder.now es in
    let keeps : Keeps es next = λ j e h. c.walk_ty.ensures.grew.keeps j e (inv.0 j e h) in
    let law = g.met.F.FallibleTypeFolder.action_kept c.args.folder.now es now inv.0 c.requires.ready in
    let old = ty-held-at es xs i (record { 0 = 0 }) inv.4 c.loop-ty-test.true in
    let y = c.in_ok-folded.folded in
    let inner = by-action (g.F.FallibleTypeFolder.action c.args.folder.now now) f bs _ _ _ law (trees-later es now inv.0 types _ old) c.in_ok-folded.ensures.folded.folded in (
      keeps,
      g.met.F.FallibleTypeFolder.ready_kept c.args.folder.now now next c.walk_ty.ensures.grew.keeps inv.1,
      rw c.in_ok-append.ensures.appended (tys-held-push next c.loop-ty.new.items y (tys-held-later now next c.walk_ty.ensures.grew.keeps c.loop-ty.new.items inv.2) c.in_ok-folded.ensures.folded.has),
      rw c.in_ok-append.ensures.appended (one-more-ty f bs es now next c.walk_ty.ensures.grew.keeps xs c.loop-ty.new.items i (record { 0 = 0 }) y c.loop-ty-test.true inv.2 inv.3 inner),
      inv.4,
      inv.5,
      inv.6,
      rw c.in_ok-append.ensures.appended (grind (arith, common_steps, inv.7)),
      c.walk_ty.ensures.grew.limit ∙ inv.8,
      c.in_ok-folded.ensures.known,
    )

pub walk_tys-returns-clause-whole : goal.walk_tys-returns-clause-whole
walk_tys-returns-clause-whole g t c =
    let inv = c.loop-ty.invariant in
    let xs = c.deref-ty-items.result.now in
    let ys = c.loop-ty.new.items in
    let es = c.args.cx.now.entries in
    let many : length ys ≡ length xs = omega (arith, inv.7, c.loop-ty-test.false, c.loop-ty.auto.ty-index-end) in
    rw (trees-is c.mk_tys.new.self.entries type_lists _ _ c.in_ok-mk_tys.ensures.is, trees-is es type_lists c.args.tys.0 _ inv.6)
    (no-tys c.loop-ty.cx.entries c.lawful-2.ensures ys xs inv.2 es c.lawful.ensures inv.4 many)

-- ---- lists of arguments
number-older : (n : ℕ) (a : GenericArgKind) → ArgOlder n a → number_of a ≤ n
number-older n (Lifetime r) h = omega arith
number-older n (Ty t) h = omega arith
number-older n (Const t) h = omega arith

pub walk_each_arg-loop-arg-init : goal.walk_each_arg-loop-arg-init
walk_each_arg-loop-arg-init g t c =
    let same = c.deref-arg-items.ensures.value ∙ c.in_ok-old.ensures.copied in (
      λ i e h. h,
      c.requires.ready,
      rw c.new-new.ensures.items tt,
      rw c.new-new.ensures.items nothing,
      rw same c.args-2.ensures.held,
      rw same c.args-2.ensures.older,
      rw same c.args-2.ensures.is,
      refl,
      c.requires.known,
    )

pub walk_each_arg-walk_arg-requires : goal.walk_each_arg-walk_arg-requires
walk_each_arg-walk_arg-requires g t c κs within =
    let inv = c.loop-arg.invariant in
    let xs = c.deref-arg-items.result.now in
    let es = c.args.cx.now.entries in
    let now = c.loop-arg.cx.entries in
    let i = c.loop-arg.arg-index in
    let x = c.arg-item.result in
    let older : ArgOlder c.args.args.0 x = rw c.arg-item.is (arg-older-at c.args.args.0 xs i x inv.5 c.loop-arg-test.true) in
    let old : ArgHeld es x = rw c.arg-item.is (arg-held-at es xs i x inv.4 c.loop-arg-test.true) in
    let lt = number-older c.args.args.0 x older in
    let fuel = g.F.FallibleTypeFolder.fuel c.args.folder.now es in
    let part : fuel (arg_trees es x) ≤ fuel (args_trees es xs) = rw c.arg-item.is (fuel-of-arg fuel (g.met.F.FallibleTypeFolder.below_left c.args.folder.now es) (g.met.F.FallibleTypeFolder.below_right c.args.folder.now es) es xs i x c.loop-arg-test.true) in
    let law = g.met.F.FallibleTypeFolder.fuel_kept c.args.folder.now es now inv.0 c.requires.ready in
    let same : arg_trees now x ≡ arg_trees es x = arg-trees-later es now inv.0 x old in
    let whole : trees_at es c.args.args.0 ≡ args_trees es xs = trees-is es args_lists c.args.args.0 _ inv.6 in
    let fuel-now : g.F.FallibleTypeFolder.fuel c.args.folder.now now (arg_trees now x) ≤ fuel (trees_at es c.args.args.0) = rw (law, same, whole) part in
    (omega (arith, lt, c.decreases, fuel-now), (within.0, (within.1, (inv.1, (inv.8, arg-held-later es now inv.0 x old)))))

pub walk_each_arg-loop-arg-preserved : goal.walk_each_arg-loop-arg-preserved
walk_each_arg-loop-arg-preserved g t c =
    let inv = c.loop-arg.invariant in
    let xs = c.deref-arg-items.result.now in
    let es = c.args.cx.now.entries in
    let now = c.loop-arg.cx.entries in
    let next = c.walk_arg.new.cx.entries in
    let i = c.loop-arg.arg-index in
    let x = c.arg-item.result in
    let bs = counts_of c.args.binders.now in
    let f = g.F.FallibleTypeFolder.action c.args.folder.now es in
    let keeps : Keeps es next = λ j e h. c.walk_arg.ensures.grew.keeps j e (inv.0 j e h) in
    let law = g.met.F.FallibleTypeFolder.action_kept c.args.folder.now es now inv.0 c.requires.ready in
    let old : ArgHeld es x = rw c.arg-item.is (arg-held-at es xs i x inv.4 c.loop-arg-test.true) in
    let y = c.in_ok-folded.folded in
    let inner = by-action (g.F.FallibleTypeFolder.action c.args.folder.now now) f bs _ _ _ law (arg-trees-later es now inv.0 x old) c.in_ok-folded.ensures.folded in
    let inner-at = subst (λ z. Folds f bs (arg_trees es z) (arg_trees next y)) c.arg-item.is inner in (
      keeps,
      g.met.F.FallibleTypeFolder.ready_kept c.args.folder.now now next c.walk_arg.ensures.grew.keeps inv.1,
      rw c.in_ok-append.ensures.appended (args-held-push next c.loop-arg.new.items y (args-held-later now next c.walk_arg.ensures.grew.keeps c.loop-arg.new.items inv.2) c.in_ok-folded.ensures.held),
      rw c.in_ok-append.ensures.appended (one-more-arg f bs es now next c.walk_arg.ensures.grew.keeps xs c.loop-arg.new.items i x y c.loop-arg-test.true inv.2 inv.3 inner-at),
      inv.4,
      inv.5,
      inv.6,
      c.walk_arg.ensures.grew.limit ∙ inv.7,
      c.in_ok-folded.ensures.known,
    )

-- ---- lists of one argument
pub walk_args-returns-then-eq-clause-folded : goal.walk_args-returns-then-eq-clause-folded
walk_args-returns-then-eq-clause-folded g t c =
    let es = c.args.cx.now.entries in
    let next = c.walk_arg.new.cx.entries in
    let xs = c.args-2.result.now in
    let x = c.arg-item.result in
    let y = c.in_ok-folded.folded in
    let keeps = c.walk_arg.ensures.grew.keeps in
    let only = one-arg-list xs x _ c.in-len1.len_at_least c.in-len1.len_below c.arg-item.is in
    let same : y ≡ x = (arg-eq y x).0 (sym c.eq.ensures ∙ c.if-eq.true) in
    record {
      has = has-later es next keeps args_lists c.args.args.0 c.requires.held;
      folded = rw (trees-later es next keeps args_lists c.args.args.0 c.requires.held, trees-is es args_lists c.args.args.0 _ c.args-2.ensures.is)
          (one-arg-stays (g.F.FallibleTypeFolder.action c.args.folder.now es) (counts_of c.args.binders.now) es next keeps xs x y only c.args-2.ensures.held same c.in_ok-folded.ensures.folded);
    }

pub walk_args-returns-in_err-one_arg-clause-failed : goal.walk_args-returns-in_err-one_arg-clause-failed
walk_args-returns-in_err-one_arg-clause-failed g t c = fault-error _ _ c.from_residual-in_err-one_arg.result c.from_residual-in_err-one_arg.ensures.1 c.in_err-one_arg.ensures.grew.full

pub walk_args-returns-clause-folded : goal.walk_args-returns-clause-folded
walk_args-returns-clause-folded g t c =
    let es = c.args.cx.now.entries in
    let is = c.in_ok-one_arg.ensures.is in
    let only = one-arg-list c.args-2.result.now c.arg-item.result _ c.in-len1.len_at_least c.in-len1.len_below c.arg-item.is in
    record {
      has = (_, is);
      folded = rw (trees-is c.one_arg.new.cx.entries args_lists c.in_ok-one_arg.field-0.0 _ is, trees-is es args_lists c.args.args.0 _ c.args-2.ensures.is)
          (one-arg-folds (g.F.FallibleTypeFolder.action c.args.folder.now es) (counts_of c.args.binders.now) es c.walk_arg.new.cx.entries _ _ _ only c.in_ok-folded.ensures.folded);
    }

pub walk_args-returns-clause-known : goal.walk_args-returns-clause-known
walk_args-returns-clause-known g t c =
    let now = c.walk_arg.new.cx.entries in
    let next = c.one_arg.new.cx.entries in
    let keeps = c.one_arg.ensures.grew.grew.keeps in
    let ready = g.met.F.FallibleTypeFolder.ready_kept c.args.folder.now c.args.cx.now.entries now c.walk_arg.ensures.grew.keeps c.requires.ready in
    let law = g.met.F.FallibleTypeFolder.action_kept c.args.folder.now now next keeps ready in
    remembers-later _ (g.F.FallibleTypeFolder.action c.args.folder.now next) now next c.walk_arg.new.memo keeps law c.in_ok-folded.ensures.known

-- ---- kinds
pub walk_kind-walk_ty-requires : goal.walk_kind-walk_ty-requires
walk_kind-walk_ty-requires g t c κs within =
    let es = c.args.cx.now.entries in
    let fuel = g.F.FallibleTypeFolder.fuel c.args.folder.now es in
    let held = rw c.in-Ref.is at c.kind-kind.ensures.held in
    let older : c.in-Ref.to.0 < c.args.ty.0 = rw c.in-Ref.is at c.kind-kind.ensures.older in
    let here : trees_at es c.args.ty.0 ≡ kind_trees es (Ref c.in-Ref.region c.in-Ref.to c.in-Ref.mutability) = trees-is es types c.args.ty.0 _ c.kind-kind.ensures.is ∙ ap (kind_trees es) c.in-Ref.is in
    let part = g.met.F.FallibleTypeFolder.below_right c.args.folder.now es (region_trees c.in-Ref.region) (trees_at es c.in-Ref.to.0) in
    let node = g.met.F.FallibleTypeFolder.below_node c.args.folder.now es (ref (is_mut c.in-Ref.mutability)) (region_trees c.in-Ref.region +++ trees_at es c.in-Ref.to.0) in
    let less : fuel (trees_at es c.in-Ref.to.0) ≤ fuel (trees_at es c.args.ty.0) = rw here (omega (arith, part, node)) in
    (omega (arith, older, c.decreases, less), (within.0, (within.1, (c.requires.ready, (c.requires.known, held.1)))))

-- ---- bounds
autos-stay : (f : List ℕ → Trees → Does) (bs : List ℕ) → ((t : Trees) → IsBound t → f bs t ≡ enters) → (xs : List TraitId) → Folds f bs (autos_trees xs) (autos_trees xs)
autos-stay f bs law [] = nothing
autos-stay f bs law (x ∷ xs) = entered (law _ tt) nothing (autos-stay f bs law xs)

pub walk_principal-walk_args-requires : goal.walk_principal-walk_args-requires
walk_principal-walk_args-requires g t c κs within =
    let es = c.args.cx.now.entries in
    let p = c.in-Some.principal in
    let fuel = g.F.FallibleTypeFolder.fuel c.args.folder.now es in
    let held : Has es args_lists p.args.0 = rw c.in-Some.is at c.requires.held in
    let node = g.met.F.FallibleTypeFolder.below_node c.args.folder.now es (principal p.bound_vars p.def_id.index) (trees_at es p.args.0) in
    let falls = rw c.in-Some.is at c.decreases in
    (omega (arith, falls, node), (within.0, (within.1, (c.requires.ready, (c.requires.known, held)))))

number-of-principal : (n : ℕ) (p : Option Principal) → PrincipalOlder n p → number_of_principal p ≤ n
number-of-principal n None h = omega arith
number-of-principal n (Some p) h = omega (arith, h)

pub walk_bounds-walk_principal-requires : goal.walk_bounds-walk_principal-requires
walk_bounds-walk_principal-requires g t c κs within =
    let es = c.args.cx.now.entries in
    let old = c.bounds-data.result.now in
    let fuel = g.F.FallibleTypeFolder.fuel c.args.folder.now es in
    let older = number-of-principal c.args.bounds.0 old.principal c.bounds-data.ensures.older in
    let here : trees_at es c.args.bounds.0 ≡ principal_trees es old.principal +++ autos_trees old.autos.items = trees-is es bounds_lists c.args.bounds.0 _ c.bounds-data.ensures.is in
    let part = g.met.F.FallibleTypeFolder.below_left c.args.folder.now es (principal_trees es old.principal) (autos_trees old.autos.items) in
    let less : fuel (principal_trees es old.principal) ≤ fuel (trees_at es c.args.bounds.0) = rw here part in
    (omega (arith, older, c.decreases, less), (within.0, (within.1, (c.requires.ready, (c.requires.known, c.bounds-data.ensures.held.0)))))

-- ---- the cache
pub walk_tys-returns-clause-known : goal.walk_tys-returns-clause-known
walk_tys-returns-clause-known g t c =
    let inv = c.loop-ty.invariant in
    let now = c.loop-ty.cx.entries in
    let next = c.mk_tys.new.self.entries in
    let law = g.met.F.FallibleTypeFolder.action_kept c.args.folder.now now next c.mk_tys.ensures.grew.keeps inv.1 in
    remembers-later _ (g.F.FallibleTypeFolder.action c.args.folder.now next) now next c.loop-ty.memo c.mk_tys.ensures.grew.keeps law inv.9

pub walk_each_arg-returns-clause-known : goal.walk_each_arg-returns-clause-known
walk_each_arg-returns-clause-known g t c =
    let inv = c.loop-arg.invariant in
    let now = c.loop-arg.cx.entries in
    let next = c.mk_args.new.self.entries in
    let law = g.met.F.FallibleTypeFolder.action_kept c.args.folder.now now next c.mk_args.ensures.grew.keeps inv.1 in
    remembers-later _ (g.F.FallibleTypeFolder.action c.args.folder.now next) now next c.loop-arg.memo c.mk_args.ensures.grew.keeps law inv.8

-- ---- each return: the interner and the cache
pub walk_ty-returns-in_err-note-in-Enter : goal.walk_ty-returns-in_err-note-in-Enter
walk_ty-returns-in_err-note-in-Enter g t c =
    record {
      grew = grew-on c.try_fold_ty.ensures.grew c.super_walk_ty.ensures.grew;
      folded = no-value _ _ c.from_residual-in_err-note-in-Enter.result c.from_residual-in_err-note-in-Enter.ensures.1;
      known = no-value _ _ c.from_residual-in_err-note-in-Enter.result c.from_residual-in_err-note-in-Enter.ensures.1;
      failed = memory-error _ _ _ _ c.from_residual-in_err-note-in-Enter.result c.from_residual-in_err-note-in-Enter.ensures.1 c.in_err-note-in-Enter.ensures.memory;
    }

pub walk_ty-returns-in-Replace : goal.walk_ty-returns-in-Replace
walk_ty-returns-in-Replace g t c =
    record {
      grew = c.try_fold_ty.ensures.grew;
      folded = (let es = c.args.cx.now.entries in
          let bs = counts_of c.args.binders.now in
          let f = g.F.FallibleTypeFolder.action c.args.folder.now es in
          let one : Single (trees_at es c.args.ty.0) = type-is-one es c.lawful.ensures c.args.ty.0 c.requires.held in
          put-handle f bs (trees_at es c.args.ty.0) c.try_fold_ty.new.cx.entries types c.in-Replace.new.0 one
          (says-puts (TyIs c.try_fold_ty.new.cx.entries) (f bs (trees_at es c.args.ty.0)) c.in-Replace.new (rw (← c.in-Replace.is) c.in_ok-try_fold_ty.ensures.answer)));
      known = (let es = c.args.cx.now.entries in
          let es1 = c.try_fold_ty.new.cx.entries in
          let law = g.met.F.FallibleTypeFolder.action_kept c.args.folder.now es es1 c.try_fold_ty.ensures.grew.keeps c.requires.ready in
          remembers-later _ (g.F.FallibleTypeFolder.action c.args.folder.now es1) es es1 c.args.memo.now c.try_fold_ty.ensures.grew.keeps law c.requires.known);
      failed = tt;
    }

pub walk_ty-returns-in-Again : goal.walk_ty-returns-in-Again
walk_ty-returns-in-Again g t c =
    record {
      grew = grew-on c.try_fold_ty.ensures.grew c.walk_ty.ensures.grew;
      folded = (let es = c.args.cx.now.entries in
          let es1 = c.try_fold_ty.new.cx.entries in
          let bs = counts_of c.args.binders.now in
          let f = g.F.FallibleTypeFolder.action c.args.folder.now es in
          let one : Single (trees_at es c.args.ty.0) = type-is-one es c.lawful.ensures c.args.ty.0 c.requires.held in
          let law = g.met.F.FallibleTypeFolder.action_kept c.args.folder.now es es1 c.try_fold_ty.ensures.grew.keeps c.requires.ready in
          ok-map c.walk_ty.result c.walk_ty.ensures.folded
          (λ r h. turn-handle (g.F.FallibleTypeFolder.action c.args.folder.now es1) f bs (trees_at es c.args.ty.0) es1 c.walk_ty.new.cx.entries types c.in-Again.next.0 r.0 one law
          (says-again (TyIs c.try_fold_ty.new.cx.entries) (f bs (trees_at es c.args.ty.0)) c.in-Again.next (rw (← c.in-Again.is) c.in_ok-try_fold_ty.ensures.answer)) h));
      known = c.walk_ty.ensures.known;
      failed = c.walk_ty.ensures.failed;
    }

pub walk_kind-returns-in_ok-walk_args-in-Adt : goal.walk_kind-returns-in_ok-walk_args-in-Adt
walk_kind-returns-in_ok-walk_args-in-Adt g t c =
    record {
      grew = c.walk_args.ensures.grew;
      held = c.in_ok-walk_args-in-Adt.ensures.folded.has;
      folded = rw (trees-is c.args.cx.now.entries types c.args.ty.0 _ c.kind-kind.ensures.is, c.in-Adt.is) (below c.in_ok-walk_args-in-Adt.ensures.folded.folded);
      known = c.in_ok-walk_args-in-Adt.ensures.known;
      failed = tt;
    }

pub walk_kind-returns-in_ok-walk_ty-in-Ref : goal.walk_kind-returns-in_ok-walk_ty-in-Ref
walk_kind-returns-in_ok-walk_ty-in-Ref g t c =
    record {
      grew = c.walk_ty.ensures.grew;
      held = (c.in_ok-region-in-Ref.ensures.held, c.in_ok-walk_ty-in-Ref.ensures.folded.has);
      folded = rw (trees-is c.args.cx.now.entries types c.args.ty.0 _ c.kind-kind.ensures.is, c.in-Ref.is) (below (folds-append c.in_ok-region-in-Ref.ensures.folded c.in_ok-walk_ty-in-Ref.ensures.folded.folded));
      known = c.in_ok-walk_ty-in-Ref.ensures.known;
      failed = tt;
    }

pub walk_kind-returns-in_ok-walk_ty-in-RawPtr : goal.walk_kind-returns-in_ok-walk_ty-in-RawPtr
walk_kind-returns-in_ok-walk_ty-in-RawPtr g t c =
    record {
      grew = c.walk_ty-in-RawPtr.ensures.grew;
      held = c.in_ok-walk_ty-in-RawPtr.ensures.folded.has;
      folded = rw (trees-is c.args.cx.now.entries types c.args.ty.0 _ c.kind-kind.ensures.is, c.in-RawPtr.is) (below c.in_ok-walk_ty-in-RawPtr.ensures.folded.folded);
      known = c.in_ok-walk_ty-in-RawPtr.ensures.known;
      failed = tt;
    }

pub walk_kind-returns-in_ok-fold_const-in-Array : goal.walk_kind-returns-in_ok-fold_const-in-Array
walk_kind-returns-in_ok-fold_const-in-Array g t c =
    record {
      grew = grew-on c.walk_ty-in-Array.ensures.grew c.fold_const.ensures.grew;
      held = (has-later c.walk_ty-in-Array.new.cx.entries c.fold_const.new.cx.entries c.fold_const.ensures.grew.keeps types _ c.in_ok-item-in-Array.ensures.folded.has, c.in_ok-fold_const-in-Array.ensures.folded.has);
      folded = (let es = c.args.cx.now.entries in
          let es1 = c.walk_ty-in-Array.new.cx.entries in
          let bs = counts_of c.args.binders.now in
          let held = rw c.in-Array.is at c.kind-kind.ensures.held in
          let law = g.met.F.FallibleTypeFolder.action_kept c.args.folder.now es es1 c.walk_ty-in-Array.ensures.grew.keeps c.requires.ready in
          rw (trees-is c.args.cx.now.entries types c.args.ty.0 _ c.kind-kind.ensures.is, c.in-Array.is)
          (below (two-folds (g.F.FallibleTypeFolder.action c.args.folder.now es1) (g.F.FallibleTypeFolder.action c.args.folder.now es) bs es es1 c.fold_const.new.cx.entries types _ _ consts _ _
          law c.walk_ty-in-Array.ensures.grew.keeps c.fold_const.ensures.grew.keeps c.in_ok-item-in-Array.ensures.folded held.1 c.in_ok-fold_const-in-Array.ensures.folded)));
      known = (let es = c.args.cx.now.entries in
          let es1 = c.walk_ty-in-Array.new.cx.entries in
          let es2 = c.fold_const.new.cx.entries in
          let ready = g.met.F.FallibleTypeFolder.ready_kept c.args.folder.now es es1 c.walk_ty-in-Array.ensures.grew.keeps c.requires.ready in
          let law = g.met.F.FallibleTypeFolder.action_kept c.args.folder.now es1 es2 c.fold_const.ensures.grew.keeps ready in
          remembers-later _ (g.F.FallibleTypeFolder.action c.args.folder.now es2) es1 es2 c.walk_ty-in-Array.new.memo c.fold_const.ensures.grew.keeps law c.in_ok-item-in-Array.ensures.known);
      failed = tt;
    }

pub walk_kind-returns-in_ok-walk_ty-in-Slice : goal.walk_kind-returns-in_ok-walk_ty-in-Slice
walk_kind-returns-in_ok-walk_ty-in-Slice g t c =
    record {
      grew = c.walk_ty-in-Slice.ensures.grew;
      held = c.in_ok-walk_ty-in-Slice.ensures.folded.has;
      folded = rw (trees-is c.args.cx.now.entries types c.args.ty.0 _ c.kind-kind.ensures.is, c.in-Slice.is) (below c.in_ok-walk_ty-in-Slice.ensures.folded.folded);
      known = c.in_ok-walk_ty-in-Slice.ensures.known;
      failed = tt;
    }

pub walk_kind-returns-in_ok-walk_tys-in-Tuple : goal.walk_kind-returns-in_ok-walk_tys-in-Tuple
walk_kind-returns-in_ok-walk_tys-in-Tuple g t c =
    record {
      grew = c.walk_tys.ensures.grew;
      held = c.in_ok-walk_tys-in-Tuple.ensures.folded.has;
      folded = rw (trees-is c.args.cx.now.entries types c.args.ty.0 _ c.kind-kind.ensures.is, c.in-Tuple.is) (below c.in_ok-walk_tys-in-Tuple.ensures.folded.folded);
      known = c.in_ok-walk_tys-in-Tuple.ensures.known;
      failed = tt;
    }

pub walk_kind-returns-in_ok-walk_tys-in-FnPtr : goal.walk_kind-returns-in_ok-walk_tys-in-FnPtr
walk_kind-returns-in_ok-walk_tys-in-FnPtr g t c =
    record {
      grew = c.walk_tys-in-FnPtr.ensures.grew;
      held = (let held = rw c.in-FnPtr.is at c.kind-kind.ensures.held in
          (c.in_ok-walk_tys-in-FnPtr.ensures.folded.has, c.in_ok-walk_tys-in-FnPtr.ensures.whole ∙ held.1));
      folded = rw (trees-is c.args.cx.now.entries types c.args.ty.0 _ c.kind-kind.ensures.is, c.in-FnPtr.is) (below c.in_ok-walk_tys-in-FnPtr.ensures.folded.folded);
      known = c.in_ok-walk_tys-in-FnPtr.ensures.known;
      failed = tt;
    }

pub walk_kind-returns-in_ok-walk_bounds-in-Dynamic : goal.walk_kind-returns-in_ok-walk_bounds-in-Dynamic
walk_kind-returns-in_ok-walk_bounds-in-Dynamic g t c =
    record {
      grew = c.walk_bounds.ensures.grew;
      held = (c.in_ok-walk_bounds-in-Dynamic.ensures.folded.has, c.in_ok-region-in-Dynamic.ensures.held);
      folded = rw (trees-is c.args.cx.now.entries types c.args.ty.0 _ c.kind-kind.ensures.is, c.in-Dynamic.is) (below (folds-append c.in_ok-walk_bounds-in-Dynamic.ensures.folded.folded c.in_ok-region-in-Dynamic.ensures.folded));
      known = c.in_ok-walk_bounds-in-Dynamic.ensures.known;
      failed = tt;
    }

pub walk_kind-returns-in_default : goal.walk_kind-returns-in_default
walk_kind-returns-in_default g t c =
    record {
      grew = grew-none;
      held = c.kind-kind.ensures.held;
      folded = rw (trees-is c.args.cx.now.entries types c.args.ty.0 _ c.kind-kind.ensures.is) (leaf-below (g.F.FallibleTypeFolder.action c.args.folder.now c.args.cx.now.entries) (counts_of c.args.binders.now) c.args.cx.now.entries c.kind-kind.result
          c.in_default.not-Adt c.in_default.not-Ref c.in_default.not-RawPtr c.in_default.not-Array c.in_default.not-Slice c.in_default.not-Tuple c.in_default.not-FnPtr c.in_default.not-Dynamic);
      known = c.requires.known;
      failed = tt;
    }

pub walk_principal-returns-in_ok-args-in-Some : goal.walk_principal-returns-in_ok-args-in-Some
walk_principal-returns-in_ok-args-in-Some g t c =
    record {
      grew = c.walk_args.ensures.grew;
      held = c.in_ok-args-in-Some.ensures.folded.has;
      folded = (let es = c.args.cx.now.entries in
          let bs = counts_of c.args.binders.now in
          rw c.in-Some.is (entered (g.met.F.FallibleTypeFolder.enters_bounds c.args.folder.now es bs _ tt) c.in_ok-args-in-Some.ensures.folded.folded nothing));
      known = c.in_ok-args-in-Some.ensures.known;
      failed = tt;
    }

pub walk_principal-returns-in-None : goal.walk_principal-returns-in-None
walk_principal-returns-in-None g t c =
    record {
      grew = grew-none;
      held = tt;
      folded = rw c.in-None.is nothing;
      known = c.requires.known;
      failed = tt;
    }

pub walk_bounds-returns : goal.walk_bounds-returns
walk_bounds-returns g t c =
    record {
      grew = grew-on c.walk_principal.ensures.grew c.mk_bounds.ensures.grew;
      folded = (let es = c.args.cx.now.entries in
          let es1 = c.walk_principal.new.cx.entries in
          let bs = counts_of c.args.binders.now in
          let f = g.F.FallibleTypeFolder.action c.args.folder.now es in
          let old = c.bounds-data.result.now in
          let same : c.in_ok-autos.autos.items ≡ old.autos.items = c.in_ok-autos.ensures.copied ∙ c.deref.ensures.value in
          let before : trees_at es c.args.bounds.0 ≡ principal_trees es old.principal +++ autos_trees old.autos.items = trees-is es bounds_lists c.args.bounds.0 _ c.bounds-data.ensures.is in
          let after : trees_at c.mk_bounds.new.self.entries c.in_ok-mk_bounds.field-0.0 ≡ principal_trees es1 c.in_ok-principal.principal +++ autos_trees c.in_ok-autos.autos.items =
          trees-is c.mk_bounds.new.self.entries bounds_lists _ _ c.in_ok-mk_bounds.ensures.is in
          record {
            has = (_, c.in_ok-mk_bounds.ensures.is);
            folded = rw (before, after, same) (folds-append c.in_ok-principal.ensures.folded (autos-stay f bs (g.met.F.FallibleTypeFolder.enters_bounds c.args.folder.now es bs) old.autos.items));
          });
      known = (let es = c.args.cx.now.entries in
          let es1 = c.walk_principal.new.cx.entries in
          let es2 = c.mk_bounds.new.self.entries in
          let ready = g.met.F.FallibleTypeFolder.ready_kept c.args.folder.now es es1 c.walk_principal.ensures.grew.keeps c.requires.ready in
          let law = g.met.F.FallibleTypeFolder.action_kept c.args.folder.now es1 es2 c.mk_bounds.ensures.grew.keeps ready in
          remembers-later _ (g.F.FallibleTypeFolder.action c.args.folder.now es2) es1 es2 c.walk_principal.new.memo c.mk_bounds.ensures.grew.keeps law c.in_ok-principal.ensures.known);
      failed = tt;
    }

pub super_walk_ty-returns-in_err-mk_ty : goal.super_walk_ty-returns-in_err-mk_ty
super_walk_ty-returns-in_err-mk_ty g t c =
    record {
      grew = grew-on c.walk_kind.ensures.grew c.mk_ty.ensures.grew;
      folded = no-value _ _ c.from_residual-in_err-mk_ty.result c.from_residual-in_err-mk_ty.ensures.1;
      known = no-value _ _ c.from_residual-in_err-mk_ty.result c.from_residual-in_err-mk_ty.ensures.1;
      failed = fault-error _ _ c.from_residual-in_err-mk_ty.result c.from_residual-in_err-mk_ty.ensures.1
          (λ q. refused-term types (omega arith) (c.in_err-mk_ty.ensures.full (ap Err q)) c.mk_ty.ensures.grew.limit c.in_err-mk_ty.ensures.refused);
    }

pub walk_tys-returns-in_err-old : goal.walk_tys-returns-in_err-old
walk_tys-returns-in_err-old g t c =
    record {
      grew = grew-none;
      folded = no-value _ _ c.from_residual.result c.from_residual.ensures.1;
      whole = no-value _ _ c.from_residual.result c.from_residual.ensures.1;
      known = no-value _ _ c.from_residual.result c.from_residual.ensures.1;
      failed = memory-error _ _ _ _ c.from_residual.result c.from_residual.ensures.1 c.in_err-old.ensures.memory;
    }

pub walk_tys-returns-in_err-append : goal.walk_tys-returns-in_err-append
walk_tys-returns-in_err-append g t c =
    record {
      grew = grew-on (record { keeps = c.loop-ty.invariant.0; limit = c.loop-ty.invariant.8 }) c.walk_ty.ensures.grew;
      folded = no-value _ _ c.from_residual-in_err-append.result c.from_residual-in_err-append.ensures.1;
      whole = no-value _ _ c.from_residual-in_err-append.result c.from_residual-in_err-append.ensures.1;
      known = no-value _ _ c.from_residual-in_err-append.result c.from_residual-in_err-append.ensures.1;
      failed = memory-error _ _ _ _ c.from_residual-in_err-append.result c.from_residual-in_err-append.ensures.1 c.in_err-append.ensures.memory;
    }

pub walk_tys-returns-in_err-mk_tys : goal.walk_tys-returns-in_err-mk_tys
walk_tys-returns-in_err-mk_tys g t c =
    record {
      grew = grew-on (record { keeps = c.loop-ty.invariant.0; limit = c.loop-ty.invariant.8 }) c.mk_tys.ensures.grew;
      folded = no-value _ _ c.from_residual-in_err-mk_tys.result c.from_residual-in_err-mk_tys.ensures.1;
      whole = no-value _ _ c.from_residual-in_err-mk_tys.result c.from_residual-in_err-mk_tys.ensures.1;
      known = no-value _ _ c.from_residual-in_err-mk_tys.result c.from_residual-in_err-mk_tys.ensures.1;
      failed = fault-error _ _ c.from_residual-in_err-mk_tys.result c.from_residual-in_err-mk_tys.ensures.1
          (λ q. refused-term type_lists (omega arith) (c.in_err-mk_tys.ensures.full (ap Err q)) c.mk_tys.ensures.grew.limit c.in_err-mk_tys.ensures.refused);
    }

pub walk_each_arg-returns-in_err-old : goal.walk_each_arg-returns-in_err-old
walk_each_arg-returns-in_err-old g t c =
    record {
      grew = grew-none;
      folded = no-value _ _ c.from_residual.result c.from_residual.ensures.1;
      known = no-value _ _ c.from_residual.result c.from_residual.ensures.1;
      failed = memory-error _ _ _ _ c.from_residual.result c.from_residual.ensures.1 c.in_err-old.ensures.memory;
    }

pub walk_each_arg-returns-in_err-append : goal.walk_each_arg-returns-in_err-append
walk_each_arg-returns-in_err-append g t c =
    record {
      grew = grew-on (record { keeps = c.loop-arg.invariant.0; limit = c.loop-arg.invariant.7 }) c.walk_arg.ensures.grew;
      folded = no-value _ _ c.from_residual-in_err-append.result c.from_residual-in_err-append.ensures.1;
      known = no-value _ _ c.from_residual-in_err-append.result c.from_residual-in_err-append.ensures.1;
      failed = memory-error _ _ _ _ c.from_residual-in_err-append.result c.from_residual-in_err-append.ensures.1 c.in_err-append.ensures.memory;
    }

pub walk_each_arg-returns-in_err-mk_args : goal.walk_each_arg-returns-in_err-mk_args
walk_each_arg-returns-in_err-mk_args g t c =
    record {
      grew = grew-on (record { keeps = c.loop-arg.invariant.0; limit = c.loop-arg.invariant.7 }) c.mk_args.ensures.grew;
      folded = no-value _ _ c.from_residual-in_err-mk_args.result c.from_residual-in_err-mk_args.ensures.1;
      known = no-value _ _ c.from_residual-in_err-mk_args.result c.from_residual-in_err-mk_args.ensures.1;
      failed = fault-error _ _ c.from_residual-in_err-mk_args.result c.from_residual-in_err-mk_args.ensures.1
          (λ q. refused-term args_lists (omega arith) (c.in_err-mk_args.ensures.full (ap Err q)) c.mk_args.ensures.grew.limit c.in_err-mk_args.ensures.refused);
    }

pub walk_bounds-returns-in_err-autos : goal.walk_bounds-returns-in_err-autos
walk_bounds-returns-in_err-autos g t c =
    record {
      grew = grew-none;
      folded = no-value _ _ c.from_residual.result c.from_residual.ensures.1;
      known = no-value _ _ c.from_residual.result c.from_residual.ensures.1;
      failed = memory-error _ _ _ _ c.from_residual.result c.from_residual.ensures.1 c.in_err-autos.ensures.memory;
    }

pub walk_bounds-returns-in_err-mk_bounds : goal.walk_bounds-returns-in_err-mk_bounds
walk_bounds-returns-in_err-mk_bounds g t c =
    record {
      grew = grew-on c.walk_principal.ensures.grew c.mk_bounds.ensures.grew;
      folded = no-value _ _ c.from_residual-in_err-mk_bounds.result c.from_residual-in_err-mk_bounds.ensures.1;
      known = no-value _ _ c.from_residual-in_err-mk_bounds.result c.from_residual-in_err-mk_bounds.ensures.1;
      failed = fault-error _ _ c.from_residual-in_err-mk_bounds.result c.from_residual-in_err-mk_bounds.ensures.1
          (λ q. refused-term bounds_lists (omega arith) (c.in_err-mk_bounds.ensures.full (ap Err q)) c.mk_bounds.ensures.grew.limit c.in_err-mk_bounds.ensures.refused);
    }

pub walk_kind-returns-in_err-walk_args-in-Adt : goal.walk_kind-returns-in_err-walk_args-in-Adt
walk_kind-returns-in_err-walk_args-in-Adt g t c =
    record {
      grew = c.walk_args.ensures.grew;
      held = no-value _ _ c.from_residual.result c.from_residual.ensures.1;
      folded = no-value _ _ c.from_residual.result c.from_residual.ensures.1;
      known = no-value _ _ c.from_residual.result c.from_residual.ensures.1;
      failed = same-error _ _ c.from_residual.result c.from_residual.ensures.1 c.in_err-walk_args-in-Adt.ensures.failed;
    }

pub walk_kind-returns-in_err-region-in-Ref : goal.walk_kind-returns-in_err-region-in-Ref
walk_kind-returns-in_err-region-in-Ref g t c =
    record {
      grew = grew-none;
      held = no-value _ _ c.from_residual-in_err-region-in-Ref.result c.from_residual-in_err-region-in-Ref.ensures.1;
      folded = no-value _ _ c.from_residual-in_err-region-in-Ref.result c.from_residual-in_err-region-in-Ref.ensures.1;
      known = no-value _ _ c.from_residual-in_err-region-in-Ref.result c.from_residual-in_err-region-in-Ref.ensures.1;
      failed = same-error _ _ c.from_residual-in_err-region-in-Ref.result c.from_residual-in_err-region-in-Ref.ensures.1 c.in_err-region-in-Ref.ensures.failed;
    }

pub walk_kind-returns-in_err-walk_ty-in-Ref : goal.walk_kind-returns-in_err-walk_ty-in-Ref
walk_kind-returns-in_err-walk_ty-in-Ref g t c =
    record {
      grew = c.walk_ty.ensures.grew;
      held = no-value _ _ c.from_residual-in_err-walk_ty-in-Ref.result c.from_residual-in_err-walk_ty-in-Ref.ensures.1;
      folded = no-value _ _ c.from_residual-in_err-walk_ty-in-Ref.result c.from_residual-in_err-walk_ty-in-Ref.ensures.1;
      known = no-value _ _ c.from_residual-in_err-walk_ty-in-Ref.result c.from_residual-in_err-walk_ty-in-Ref.ensures.1;
      failed = same-error _ _ c.from_residual-in_err-walk_ty-in-Ref.result c.from_residual-in_err-walk_ty-in-Ref.ensures.1 c.in_err-walk_ty-in-Ref.ensures.failed;
    }

pub walk_kind-returns-in_err-walk_ty-in-RawPtr : goal.walk_kind-returns-in_err-walk_ty-in-RawPtr
walk_kind-returns-in_err-walk_ty-in-RawPtr g t c =
    record {
      grew = c.walk_ty-in-RawPtr.ensures.grew;
      held = no-value _ _ c.from_residual-in_err-walk_ty-in-RawPtr.result c.from_residual-in_err-walk_ty-in-RawPtr.ensures.1;
      folded = no-value _ _ c.from_residual-in_err-walk_ty-in-RawPtr.result c.from_residual-in_err-walk_ty-in-RawPtr.ensures.1;
      known = no-value _ _ c.from_residual-in_err-walk_ty-in-RawPtr.result c.from_residual-in_err-walk_ty-in-RawPtr.ensures.1;
      failed = same-error _ _ c.from_residual-in_err-walk_ty-in-RawPtr.result c.from_residual-in_err-walk_ty-in-RawPtr.ensures.1 c.in_err-walk_ty-in-RawPtr.ensures.failed;
    }

pub walk_kind-returns-in_err-item-in-Array : goal.walk_kind-returns-in_err-item-in-Array
walk_kind-returns-in_err-item-in-Array g t c =
    record {
      grew = c.walk_ty-in-Array.ensures.grew;
      held = no-value _ _ c.from_residual-in_err-item-in-Array.result c.from_residual-in_err-item-in-Array.ensures.1;
      folded = no-value _ _ c.from_residual-in_err-item-in-Array.result c.from_residual-in_err-item-in-Array.ensures.1;
      known = no-value _ _ c.from_residual-in_err-item-in-Array.result c.from_residual-in_err-item-in-Array.ensures.1;
      failed = same-error _ _ c.from_residual-in_err-item-in-Array.result c.from_residual-in_err-item-in-Array.ensures.1 c.in_err-item-in-Array.ensures.failed;
    }

pub walk_kind-returns-in_err-fold_const-in-Array : goal.walk_kind-returns-in_err-fold_const-in-Array
walk_kind-returns-in_err-fold_const-in-Array g t c =
    record {
      grew = grew-on c.walk_ty-in-Array.ensures.grew c.fold_const.ensures.grew;
      held = no-value _ _ c.from_residual-in_err-fold_const-in-Array.result c.from_residual-in_err-fold_const-in-Array.ensures.1;
      folded = no-value _ _ c.from_residual-in_err-fold_const-in-Array.result c.from_residual-in_err-fold_const-in-Array.ensures.1;
      known = no-value _ _ c.from_residual-in_err-fold_const-in-Array.result c.from_residual-in_err-fold_const-in-Array.ensures.1;
      failed = same-error _ _ c.from_residual-in_err-fold_const-in-Array.result c.from_residual-in_err-fold_const-in-Array.ensures.1 c.in_err-fold_const-in-Array.ensures.failed;
    }

pub walk_kind-returns-in_err-walk_ty-in-Slice : goal.walk_kind-returns-in_err-walk_ty-in-Slice
walk_kind-returns-in_err-walk_ty-in-Slice g t c =
    record {
      grew = c.walk_ty-in-Slice.ensures.grew;
      held = no-value _ _ c.from_residual-in_err-walk_ty-in-Slice.result c.from_residual-in_err-walk_ty-in-Slice.ensures.1;
      folded = no-value _ _ c.from_residual-in_err-walk_ty-in-Slice.result c.from_residual-in_err-walk_ty-in-Slice.ensures.1;
      known = no-value _ _ c.from_residual-in_err-walk_ty-in-Slice.result c.from_residual-in_err-walk_ty-in-Slice.ensures.1;
      failed = same-error _ _ c.from_residual-in_err-walk_ty-in-Slice.result c.from_residual-in_err-walk_ty-in-Slice.ensures.1 c.in_err-walk_ty-in-Slice.ensures.failed;
    }

pub walk_kind-returns-in_err-walk_tys-in-Tuple : goal.walk_kind-returns-in_err-walk_tys-in-Tuple
walk_kind-returns-in_err-walk_tys-in-Tuple g t c =
    record {
      grew = c.walk_tys.ensures.grew;
      held = no-value _ _ c.from_residual-in_err-walk_tys-in-Tuple.result c.from_residual-in_err-walk_tys-in-Tuple.ensures.1;
      folded = no-value _ _ c.from_residual-in_err-walk_tys-in-Tuple.result c.from_residual-in_err-walk_tys-in-Tuple.ensures.1;
      known = no-value _ _ c.from_residual-in_err-walk_tys-in-Tuple.result c.from_residual-in_err-walk_tys-in-Tuple.ensures.1;
      failed = same-error _ _ c.from_residual-in_err-walk_tys-in-Tuple.result c.from_residual-in_err-walk_tys-in-Tuple.ensures.1 c.in_err-walk_tys-in-Tuple.ensures.failed;
    }

pub walk_kind-returns-in_err-walk_tys-in-FnPtr : goal.walk_kind-returns-in_err-walk_tys-in-FnPtr
walk_kind-returns-in_err-walk_tys-in-FnPtr g t c =
    record {
      grew = c.walk_tys-in-FnPtr.ensures.grew;
      held = no-value _ _ c.from_residual-in_err-walk_tys-in-FnPtr.result c.from_residual-in_err-walk_tys-in-FnPtr.ensures.1;
      folded = no-value _ _ c.from_residual-in_err-walk_tys-in-FnPtr.result c.from_residual-in_err-walk_tys-in-FnPtr.ensures.1;
      known = no-value _ _ c.from_residual-in_err-walk_tys-in-FnPtr.result c.from_residual-in_err-walk_tys-in-FnPtr.ensures.1;
      failed = same-error _ _ c.from_residual-in_err-walk_tys-in-FnPtr.result c.from_residual-in_err-walk_tys-in-FnPtr.ensures.1 c.in_err-walk_tys-in-FnPtr.ensures.failed;
    }

pub walk_kind-returns-in_err-region-in-Dynamic : goal.walk_kind-returns-in_err-region-in-Dynamic
walk_kind-returns-in_err-region-in-Dynamic g t c =
    record {
      grew = grew-none;
      held = no-value _ _ c.from_residual-in_err-region-in-Dynamic.result c.from_residual-in_err-region-in-Dynamic.ensures.1;
      folded = no-value _ _ c.from_residual-in_err-region-in-Dynamic.result c.from_residual-in_err-region-in-Dynamic.ensures.1;
      known = no-value _ _ c.from_residual-in_err-region-in-Dynamic.result c.from_residual-in_err-region-in-Dynamic.ensures.1;
      failed = same-error _ _ c.from_residual-in_err-region-in-Dynamic.result c.from_residual-in_err-region-in-Dynamic.ensures.1 c.in_err-region-in-Dynamic.ensures.failed;
    }

pub walk_kind-returns-in_err-walk_bounds-in-Dynamic : goal.walk_kind-returns-in_err-walk_bounds-in-Dynamic
walk_kind-returns-in_err-walk_bounds-in-Dynamic g t c =
    record {
      grew = c.walk_bounds.ensures.grew;
      held = no-value _ _ c.from_residual-in_err-walk_bounds-in-Dynamic.result c.from_residual-in_err-walk_bounds-in-Dynamic.ensures.1;
      folded = no-value _ _ c.from_residual-in_err-walk_bounds-in-Dynamic.result c.from_residual-in_err-walk_bounds-in-Dynamic.ensures.1;
      known = no-value _ _ c.from_residual-in_err-walk_bounds-in-Dynamic.result c.from_residual-in_err-walk_bounds-in-Dynamic.ensures.1;
      failed = same-error _ _ c.from_residual-in_err-walk_bounds-in-Dynamic.result c.from_residual-in_err-walk_bounds-in-Dynamic.ensures.1 c.in_err-walk_bounds-in-Dynamic.ensures.failed;
    }

pub walk_arg-returns-in_err-fold_region-in-Lifetime : goal.walk_arg-returns-in_err-fold_region-in-Lifetime
walk_arg-returns-in_err-fold_region-in-Lifetime g t c =
    record {
      grew = grew-none;
      held = no-value _ _ c.from_residual.result c.from_residual.ensures.1;
      folded = no-value _ _ c.from_residual.result c.from_residual.ensures.1;
      known = no-value _ _ c.from_residual.result c.from_residual.ensures.1;
      failed = same-error _ _ c.from_residual.result c.from_residual.ensures.1 c.in_err-fold_region-in-Lifetime.ensures.failed;
    }

pub walk_arg-returns-in_err-walk_ty-in-Ty : goal.walk_arg-returns-in_err-walk_ty-in-Ty
walk_arg-returns-in_err-walk_ty-in-Ty g t c =
    record {
      grew = c.walk_ty.ensures.grew;
      held = no-value _ _ c.from_residual-in_err-walk_ty-in-Ty.result c.from_residual-in_err-walk_ty-in-Ty.ensures.1;
      folded = no-value _ _ c.from_residual-in_err-walk_ty-in-Ty.result c.from_residual-in_err-walk_ty-in-Ty.ensures.1;
      known = no-value _ _ c.from_residual-in_err-walk_ty-in-Ty.result c.from_residual-in_err-walk_ty-in-Ty.ensures.1;
      failed = same-error _ _ c.from_residual-in_err-walk_ty-in-Ty.result c.from_residual-in_err-walk_ty-in-Ty.ensures.1 c.in_err-walk_ty-in-Ty.ensures.failed;
    }

pub walk_arg-returns-in_err-fold_const-in-Const : goal.walk_arg-returns-in_err-fold_const-in-Const
walk_arg-returns-in_err-fold_const-in-Const g t c =
    record {
      grew = c.fold_const.ensures.grew;
      held = no-value _ _ c.from_residual-in_err-fold_const-in-Const.result c.from_residual-in_err-fold_const-in-Const.ensures.1;
      folded = no-value _ _ c.from_residual-in_err-fold_const-in-Const.result c.from_residual-in_err-fold_const-in-Const.ensures.1;
      known = no-value _ _ c.from_residual-in_err-fold_const-in-Const.result c.from_residual-in_err-fold_const-in-Const.ensures.1;
      failed = same-error _ _ c.from_residual-in_err-fold_const-in-Const.result c.from_residual-in_err-fold_const-in-Const.ensures.1 c.in_err-fold_const-in-Const.ensures.failed;
    }

pub walk_arg-returns-in_ok-fold_region-in-Lifetime : goal.walk_arg-returns-in_ok-fold_region-in-Lifetime
walk_arg-returns-in_ok-fold_region-in-Lifetime g t c =
    record {
      grew = grew-none;
      held = c.in_ok-fold_region-in-Lifetime.ensures.held;
      folded = rw c.in-Lifetime.is c.in_ok-fold_region-in-Lifetime.ensures.folded;
      known = c.requires.known;
      failed = tt;
    }

pub walk_arg-returns-in_ok-walk_ty-in-Ty : goal.walk_arg-returns-in_ok-walk_ty-in-Ty
walk_arg-returns-in_ok-walk_ty-in-Ty g t c =
    record {
      grew = c.walk_ty.ensures.grew;
      held = c.in_ok-walk_ty-in-Ty.ensures.folded.has;
      folded = rw c.in-Ty.is c.in_ok-walk_ty-in-Ty.ensures.folded.folded;
      known = c.in_ok-walk_ty-in-Ty.ensures.known;
      failed = tt;
    }

pub walk_arg-returns-in_ok-fold_const-in-Const : goal.walk_arg-returns-in_ok-fold_const-in-Const
walk_arg-returns-in_ok-fold_const-in-Const g t c =
    record {
      grew = c.fold_const.ensures.grew;
      held = c.in_ok-fold_const-in-Const.ensures.folded.has;
      folded = rw c.in-Const.is c.in_ok-fold_const-in-Const.ensures.folded.folded;
      known = (let es = c.args.cx.now.entries in
          let es1 = c.fold_const.new.cx.entries in
          let law = g.met.F.FallibleTypeFolder.action_kept c.args.folder.now es es1 c.fold_const.ensures.grew.keeps c.requires.ready in
          remembers-later _ (g.F.FallibleTypeFolder.action c.args.folder.now es1) es es1 c.args.memo.now c.fold_const.ensures.grew.keeps law c.requires.known);
      failed = tt;
    }

pub walk_ty-returns-in_err-try_fold_ty : goal.walk_ty-returns-in_err-try_fold_ty
walk_ty-returns-in_err-try_fold_ty g t c =
    record {
      grew = c.try_fold_ty.ensures.grew;
      folded = no-value _ _ c.from_residual.result c.from_residual.ensures.1;
      known = no-value _ _ c.from_residual.result c.from_residual.ensures.1;
      failed = same-error _ _ c.from_residual.result c.from_residual.ensures.1 c.in_err-try_fold_ty.ensures.failed;
    }

pub walk_ty-returns-in_err-folded-in-Enter : goal.walk_ty-returns-in_err-folded-in-Enter
walk_ty-returns-in_err-folded-in-Enter g t c =
    record {
      grew = grew-on c.try_fold_ty.ensures.grew c.super_walk_ty.ensures.grew;
      folded = no-value _ _ c.from_residual-in_err-folded-in-Enter.result c.from_residual-in_err-folded-in-Enter.ensures.1;
      known = no-value _ _ c.from_residual-in_err-folded-in-Enter.result c.from_residual-in_err-folded-in-Enter.ensures.1;
      failed = same-error _ _ c.from_residual-in_err-folded-in-Enter.result c.from_residual-in_err-folded-in-Enter.ensures.1 c.in_err-folded-in-Enter.ensures.failed;
    }

pub super_walk_ty-returns-in_err-folded : goal.super_walk_ty-returns-in_err-folded
super_walk_ty-returns-in_err-folded g t c =
    record {
      grew = c.walk_kind.ensures.grew;
      folded = no-value _ _ c.from_residual.result c.from_residual.ensures.1;
      known = no-value _ _ c.from_residual.result c.from_residual.ensures.1;
      failed = same-error _ _ c.from_residual.result c.from_residual.ensures.1 c.in_err-folded.ensures.failed;
    }

pub walk_tys-returns-in_err-folded : goal.walk_tys-returns-in_err-folded
walk_tys-returns-in_err-folded g t c =
    record {
      grew = grew-on (record { keeps = c.loop-ty.invariant.0; limit = c.loop-ty.invariant.8 }) c.walk_ty.ensures.grew;
      folded = no-value _ _ c.from_residual-in_err-folded.result c.from_residual-in_err-folded.ensures.1;
      whole = no-value _ _ c.from_residual-in_err-folded.result c.from_residual-in_err-folded.ensures.1;
      known = no-value _ _ c.from_residual-in_err-folded.result c.from_residual-in_err-folded.ensures.1;
      failed = same-error _ _ c.from_residual-in_err-folded.result c.from_residual-in_err-folded.ensures.1 c.in_err-folded.ensures.failed;
    }

pub walk_each_arg-returns-in_err-folded : goal.walk_each_arg-returns-in_err-folded
walk_each_arg-returns-in_err-folded g t c =
    record {
      grew = grew-on (record { keeps = c.loop-arg.invariant.0; limit = c.loop-arg.invariant.7 }) c.walk_arg.ensures.grew;
      folded = no-value _ _ c.from_residual-in_err-folded.result c.from_residual-in_err-folded.ensures.1;
      known = no-value _ _ c.from_residual-in_err-folded.result c.from_residual-in_err-folded.ensures.1;
      failed = same-error _ _ c.from_residual-in_err-folded.result c.from_residual-in_err-folded.ensures.1 c.in_err-folded.ensures.failed;
    }

pub walk_bounds-returns-in_err-principal : goal.walk_bounds-returns-in_err-principal
walk_bounds-returns-in_err-principal g t c =
    record {
      grew = c.walk_principal.ensures.grew;
      folded = no-value _ _ c.from_residual-in_err-principal.result c.from_residual-in_err-principal.ensures.1;
      known = no-value _ _ c.from_residual-in_err-principal.result c.from_residual-in_err-principal.ensures.1;
      failed = same-error _ _ c.from_residual-in_err-principal.result c.from_residual-in_err-principal.ensures.1 c.in_err-principal.ensures.failed;
    }

pub walk_principal-returns-in_err-args-in-Some : goal.walk_principal-returns-in_err-args-in-Some
walk_principal-returns-in_err-args-in-Some g t c =
    record {
      grew = c.walk_args.ensures.grew;
      held = no-value _ _ c.from_residual.result c.from_residual.ensures.1;
      folded = no-value _ _ c.from_residual.result c.from_residual.ensures.1;
      known = no-value _ _ c.from_residual.result c.from_residual.ensures.1;
      failed = same-error _ _ c.from_residual.result c.from_residual.ensures.1 c.in_err-args-in-Some.ensures.failed;
    }
