use Rattle.std.proofs.Common.{refl, ◌∙◌}
use Rattle.type_terms.specs.Promised.Label.{adt, ref, raw_pointer, array, slice, tuple, fn_ptr, dynamic}
use Rattle.type_terms.specs.Promised.Trees.{◌+++◌}
use Rattle.type_terms.specs.Promised.Handles.{trees_at}
use Rattle.type_terms.specs.Kinds.{is_mut}
use Rattle.type_terms.specs.Promised.Handles.{region_trees}
use Rattle.type_terms.proofs.InfoFacts.{info-plain, info-binder, info-joined}
use Rattle.type_terms.proofs.interner.Interner.kind_info.Goals as goal

pub returns-in-Adt : goal.returns-in-Adt
returns-in-Adt c = rw c.in-Adt.is (c.plain.ensures ∙ info-plain (adt c.in-Adt.field-0.index) _ _ c.info.ensures.is refl refl (λ n. refl))

pub returns-in-Ref : goal.returns-in-Ref
returns-in-Ref c =
    let children = c.join.ensures ∙ info-joined (region_trees c.in-Ref.region) (trees_at c.args.self.now.entries c.in-Ref.ty.0) c.region_info.result c.info-in-Ref.result c.region_info.ensures c.info-in-Ref.ensures.is in
    rw c.in-Ref.is (c.plain-in-Ref.ensures ∙ info-plain (ref (is_mut c.in-Ref.field-2)) (region_trees c.in-Ref.region +++ trees_at c.args.self.now.entries c.in-Ref.ty.0) c.join.result children refl refl (λ n. refl))

pub returns-in-RawPtr : goal.returns-in-RawPtr
returns-in-RawPtr c = rw c.in-RawPtr.is (c.plain-in-RawPtr.ensures ∙ info-plain (raw_pointer (is_mut c.in-RawPtr.field-1)) _ _ c.info-in-RawPtr.ensures.is refl refl (λ n. refl))

pub returns-in-Array : goal.returns-in-Array
returns-in-Array c =
    let children = c.join-in-Array.ensures ∙ info-joined (trees_at c.args.self.now.entries c.in-Array.ty.0) (trees_at c.args.self.now.entries c.in-Array.len.0) c.info-in-Array.result c.info-in-Array-2.result c.info-in-Array.ensures.is c.info-in-Array-2.ensures.is in
    rw c.in-Array.is (c.plain-in-Array.ensures ∙ info-plain array (trees_at c.args.self.now.entries c.in-Array.ty.0 +++ trees_at c.args.self.now.entries c.in-Array.len.0) c.join-in-Array.result children refl refl (λ n. refl))

pub returns-in-Slice : goal.returns-in-Slice
returns-in-Slice c = rw c.in-Slice.is (c.plain-in-Slice.ensures ∙ info-plain slice _ _ c.info-in-Slice.ensures.is refl refl (λ n. refl))

pub returns-in-Tuple : goal.returns-in-Tuple
returns-in-Tuple c = rw c.in-Tuple.is (c.plain-in-Tuple.ensures ∙ info-plain tuple _ _ c.info-in-Tuple.ensures.is refl refl (λ n. refl))

pub returns-in-FnPtr : goal.returns-in-FnPtr
returns-in-FnPtr c = rw c.in-FnPtr.is (c.binder.ensures ∙ info-binder (fn_ptr c.in-FnPtr.bound_vars) _ _ c.info-in-FnPtr.ensures.is)

pub returns-in-Dynamic : goal.returns-in-Dynamic
returns-in-Dynamic c =
    let children = c.join-in-Dynamic.ensures ∙ info-joined (trees_at c.args.self.now.entries c.in-Dynamic.bounds.0) (region_trees c.in-Dynamic.region) c.info-in-Dynamic.result c.region_info-in-Dynamic.result c.info-in-Dynamic.ensures.is c.region_info-in-Dynamic.ensures in
    rw c.in-Dynamic.is (c.plain-in-Dynamic.ensures ∙ info-plain dynamic (trees_at c.args.self.now.entries c.in-Dynamic.bounds.0 +++ region_trees c.in-Dynamic.region) c.join-in-Dynamic.result children refl refl (λ n. refl))
