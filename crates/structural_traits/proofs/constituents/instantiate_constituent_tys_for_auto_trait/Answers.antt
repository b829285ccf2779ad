use Rattle.std.proofs.Common.{[], ◌∷◌, List, map, sym, ap, ◌∙◌, subst}
use Rattle.type_terms.specs.Kinds.{TysHeld}
use Rattle.type_terms.specs.Kept.{trees-is}
use Rattle.type_terms.specs.Promised.Erased.{erased_reference}
use Rattle.type_terms.specs.Promised.Rules.{asked, each_asked, auto_rules_plain}
use Rattle.type_terms.specs.Promised.Handles.{types, trees_at}
use Rattle.type_terms.specs.Promised.Trees.{erase}
use Rattle.type_terms.specs.Terms.{type_lists}
use Rattle.type_terms.specs.declared.kinds.Ty.{Ty}
use Rattle.declarations.specs.Items.{written, declared}
use Rattle.structural_traits.specs.Constituents.{AreConstituents, FitsFields, IsOneRow, premises_of, types_asked, each_asked_of}
use Rattle.structural_traits.proofs.Rows.{pointee-row, referent-row, item-row, element-row}
use Rattle.structural_traits.proofs.Trees.{type-is, tys-asked, each-erased, asked-erased}
use Rattle.structural_traits.proofs.constituents.instantiate_constituent_tys_for_auto_trait.Goals as goal
use Rattle.type_terms.proofs.TypeBasics.{if-ok}

pub returns-in_ok-tys-in-Str-clause-are : goal.returns-in_ok-tys-in-Str-clause-are
returns-in_ok-tys-in-Str-clause-are c = λ _ t.
    let es = c.args.cx.now.entries in
    let new = c.str_bytes.new.cx.entries in
    let V = written es c.args.declarations.now in
    let self = trees-is es types c.args.self_ty.0 _ c.in-Str.ensures.is in
    ap (λ s. premises_of (auto_rules_plain V t s)) self
    ∙ ap (λ x. (asked t x ∷ []) ∷ []) (sym c.in_ok-bytes-in-Str.ensures.is)
    ∙ ap (λ l. types_asked new t l ∷ []) (sym c.in_ok-tys-in-Str.ensures.items)

pub returns-in_ok-tys-in-Str-clause-erased : goal.returns-in_ok-tys-in-Str-clause-erased
returns-in_ok-tys-in-Str-clause-erased c = λ t.
    let es = c.args.cx.now.entries in
    let new = c.str_bytes.new.cx.entries in
    let W = declared es c.args.declarations.now in
    let self = trees-is es types c.args.self_ty.0 _ c.in-Str.ensures.is in
    let asks = ap (λ x. asked t (erase x) ∷ []) (sym c.in_ok-bytes-in-Str.ensures.is) ∙ ap (each_asked_of new t) (sym c.in_ok-tys-in-Str.ensures.items) in
    subst (λ s. IsOneRow (auto_rules_plain W t (erase s)) (each_asked_of new t c.in_ok-tys-in-Str.tys.items)) (sym self) (tt, asks)

pub returns-in_ok-tys-in-Str-clause-held : goal.returns-in_ok-tys-in-Str-clause-held
returns-in_ok-tys-in-Str-clause-held c = subst (TysHeld c.str_bytes.new.cx.entries) (sym c.in_ok-tys-in-Str.ensures.items) (c.in_ok-bytes-in-Str.ensures.held, tt)

pub returns-in_ok-tys-in-RawPtr-clause-are : goal.returns-in_ok-tys-in-RawPtr-clause-are
returns-in_ok-tys-in-RawPtr-clause-are c = λ _ t.
    let es = c.args.cx.now.entries in
    let V = written es c.args.declarations.now in
    let W = declared es c.args.declarations.now in
    let self = trees-is es types c.args.self_ty.0 _ c.in-RawPtr.ensures.is in
    let x = c.in-RawPtr.pointee.0 in
    let asks = pointee-row V W t (trees_at es c.args.self_ty.0) (trees_at es x) self (type-is es c.lawful.ensures x c.in-RawPtr.ensures.held) in
    asks.are ∙ ap (λ l. types_asked es t l ∷ []) (sym c.in_ok-tys-in-RawPtr.ensures.items)

pub returns-in_ok-tys-in-RawPtr-clause-erased : goal.returns-in_ok-tys-in-RawPtr-clause-erased
returns-in_ok-tys-in-RawPtr-clause-erased c = λ t.
    let es = c.args.cx.now.entries in
    let V = written es c.args.declarations.now in
    let W = declared es c.args.declarations.now in
    let self = trees-is es types c.args.self_ty.0 _ c.in-RawPtr.ensures.is in
    let x = c.in-RawPtr.pointee.0 in
    let asks = pointee-row V W t (trees_at es c.args.self_ty.0) (trees_at es x) self (type-is es c.lawful.ensures x c.in-RawPtr.ensures.held) in
    subst (λ (l : List Ty). IsOneRow (auto_rules_plain W t (erase (trees_at es c.args.self_ty.0))) (each_asked_of es t l)) (sym c.in_ok-tys-in-RawPtr.ensures.items) asks.erased

pub returns-in_ok-tys-in-RawPtr-clause-held : goal.returns-in_ok-tys-in-RawPtr-clause-held
returns-in_ok-tys-in-RawPtr-clause-held c = subst (TysHeld c.args.cx.now.entries) (sym c.in_ok-tys-in-RawPtr.ensures.items) (c.in-RawPtr.ensures.held, tt)

pub returns-in_ok-tys-in-Ref-clause-are : goal.returns-in_ok-tys-in-Ref-clause-are
returns-in_ok-tys-in-Ref-clause-are c = λ _ t.
    let es = c.args.cx.now.entries in
    let V = written es c.args.declarations.now in
    let W = declared es c.args.declarations.now in
    let self = trees-is es types c.args.self_ty.0 _ c.in-Ref.ensures.is in
    let x = c.in-Ref.referent.0 in
    let asks = referent-row V W t (trees_at es c.args.self_ty.0) (trees_at es x) self (type-is es c.lawful.ensures x c.in-Ref.ensures.held.1) in
    asks.are ∙ ap (λ l. types_asked es t l ∷ []) (sym c.in_ok-tys-in-Ref.ensures.items)

pub returns-in_ok-tys-in-Ref-clause-erased : goal.returns-in_ok-tys-in-Ref-clause-erased
returns-in_ok-tys-in-Ref-clause-erased c = λ t.
    let es = c.args.cx.now.entries in
    let V = written es c.args.declarations.now in
    let W = declared es c.args.declarations.now in
    let self = trees-is es types c.args.self_ty.0 _ c.in-Ref.ensures.is in
    let x = c.in-Ref.referent.0 in
    let asks = referent-row V W t (trees_at es c.args.self_ty.0) (trees_at es x) self (type-is es c.lawful.ensures x c.in-Ref.ensures.held.1) in
    subst (λ (l : List Ty). IsOneRow (auto_rules_plain W t (erase (trees_at es c.args.self_ty.0))) (each_asked_of es t l)) (sym c.in_ok-tys-in-Ref.ensures.items) asks.erased

pub returns-in_ok-tys-in-Ref-clause-held : goal.returns-in_ok-tys-in-Ref-clause-held
returns-in_ok-tys-in-Ref-clause-held c = subst (TysHeld c.args.cx.now.entries) (sym c.in_ok-tys-in-Ref.ensures.items) (c.in-Ref.ensures.held.1, tt)

pub returns-in_ok-tys-in-Array-clause-are : goal.returns-in_ok-tys-in-Array-clause-are
returns-in_ok-tys-in-Array-clause-are c = λ _ t.
    let es = c.args.cx.now.entries in
    let V = written es c.args.declarations.now in
    let W = declared es c.args.declarations.now in
    let self = trees-is es types c.args.self_ty.0 _ c.in-Array.ensures.is in
    let x = c.in-Array.element.0 in
    let asks = item-row V W t (trees_at es c.args.self_ty.0) (trees_at es x) _ self (type-is es c.lawful.ensures x c.in-Array.ensures.held.0) in
    asks.are ∙ ap (λ l. types_asked es t l ∷ []) (sym c.in_ok-tys-in-Array.ensures.items)

pub returns-in_ok-tys-in-Array-clause-erased : goal.returns-in_ok-tys-in-Array-clause-erased
returns-in_ok-tys-in-Array-clause-erased c = λ t.
    let es = c.args.cx.now.entries in
    let V = written es c.args.declarations.now in
    let W = declared es c.args.declarations.now in
    let self = trees-is es types c.args.self_ty.0 _ c.in-Array.ensures.is in
    let x = c.in-Array.element.0 in
    let asks = item-row V W t (trees_at es c.args.self_ty.0) (trees_at es x) _ self (type-is es c.lawful.ensures x c.in-Array.ensures.held.0) in
    subst (λ (l : List Ty). IsOneRow (auto_rules_plain W t (erase (trees_at es c.args.self_ty.0))) (each_asked_of es t l)) (sym c.in_ok-tys-in-Array.ensures.items) asks.erased

pub returns-in_ok-tys-in-Array-clause-held : goal.returns-in_ok-tys-in-Array-clause-held
returns-in_ok-tys-in-Array-clause-held c = subst (TysHeld c.args.cx.now.entries) (sym c.in_ok-tys-in-Array.ensures.items) (c.in-Array.ensures.held.0, tt)

pub returns-in_ok-tys-in-Slice-clause-are : goal.returns-in_ok-tys-in-Slice-clause-are
returns-in_ok-tys-in-Slice-clause-are c = λ _ t.
    let es = c.args.cx.now.entries in
    let V = written es c.args.declarations.now in
    let W = declared es c.args.declarations.now in
    let self = trees-is es types c.args.self_ty.0 _ c.in-Slice.ensures.is in
    let x = c.in-Slice.element.0 in
    let asks = element-row V W t (trees_at es c.args.self_ty.0) (trees_at es x) self (type-is es c.lawful.ensures x c.in-Slice.ensures.held) in
    asks.are ∙ ap (λ l. types_asked es t l ∷ []) (sym c.in_ok-tys-in-Slice.ensures.items)

pub returns-in_ok-tys-in-Slice-clause-erased : goal.returns-in_ok-tys-in-Slice-clause-erased
returns-in_ok-tys-in-Slice-clause-erased c = λ t.
    let es = c.args.cx.now.entries in
    let V = written es c.args.declarations.now in
    let W = declared es c.args.declarations.now in
    let self = trees-is es types c.args.self_ty.0 _ c.in-Slice.ensures.is in
    let x = c.in-Slice.element.0 in
    let asks = element-row V W t (trees_at es c.args.self_ty.0) (trees_at es x) self (type-is es c.lawful.ensures x c.in-Slice.ensures.held) in
    subst (λ (l : List Ty). IsOneRow (auto_rules_plain W t (erase (trees_at es c.args.self_ty.0))) (each_asked_of es t l)) (sym c.in_ok-tys-in-Slice.ensures.items) asks.erased

pub returns-in_ok-tys-in-Slice-clause-held : goal.returns-in_ok-tys-in-Slice-clause-held
returns-in_ok-tys-in-Slice-clause-held c = subst (TysHeld c.args.cx.now.entries) (sym c.in_ok-tys-in-Slice.ensures.items) (c.in-Slice.ensures.held, tt)

pub returns-in_ok-tys-in-Tuple-clause-are : goal.returns-in_ok-tys-in-Tuple-clause-are
returns-in_ok-tys-in-Tuple-clause-are c = λ _ t.
    let es = c.args.cx.now.entries in
    let self = trees-is es types c.args.self_ty.0 _ c.in-Tuple.ensures.is in
    let list = trees-is es type_lists c.in-Tuple.tys.0 _ c.tys.ensures.is in
    ap (λ s. premises_of (auto_rules_plain (written es c.args.declarations.now) t s)) self
    ∙ ap (λ l. l ∷ []) (ap (each_asked t) list ∙ tys-asked es c.lawful.ensures t c.tys.result.now c.tys.ensures.held ∙ ap (types_asked es t) (sym c.in_ok-tys-in-Tuple.ensures.items))

pub returns-in_ok-tys-in-Tuple-clause-erased : goal.returns-in_ok-tys-in-Tuple-clause-erased
returns-in_ok-tys-in-Tuple-clause-erased c = λ t.
    let es = c.args.cx.now.entries in
    let self = trees-is es types c.args.self_ty.0 _ c.in-Tuple.ensures.is in
    let list = trees-is es type_lists c.in-Tuple.tys.0 _ c.tys.ensures.is in
    let tys = c.in_ok-tys-in-Tuple.tys.items in
    let asks = each-erased t (trees_at es c.in-Tuple.tys.0)
    ∙ ap (map erased_reference) (ap (each_asked t) list ∙ tys-asked es c.lawful.ensures t c.tys.result.now c.tys.ensures.held ∙ ap (types_asked es t) (sym c.in_ok-tys-in-Tuple.ensures.items))
    ∙ asked-erased es t tys in
    subst (λ s. IsOneRow (auto_rules_plain (declared es c.args.declarations.now) t (erase s)) (each_asked_of es t tys)) (sym self) (tt, asks)

pub returns-in_ok-tys-in-Tuple-clause-held : goal.returns-in_ok-tys-in-Tuple-clause-held
returns-in_ok-tys-in-Tuple-clause-held c = subst (TysHeld c.args.cx.now.entries) (sym c.in_ok-tys-in-Tuple.ensures.items) c.tys.ensures.held

pub returns-in-Adt-clause-are : goal.returns-in-Adt-clause-are
returns-in-Adt-clause-are c =
    let es = c.args.cx.now.entries in
    let new = c.all_fields.new.cx.entries in
    let d = c.args.declarations.now in
    let V = written es d in
    let self = trees-is es types c.args.self_ty.0 _ c.in-Adt.ensures.is in
    if-ok _ _ c.all_fields.result
    (λ o are. λ h t. subst (λ us. AreConstituents (λ v. v.items) new t us o) (sym (ap (auto_rules_plain V t) self)) (are (λ n. subst (FitsFields es d) self (h n)) t))
    c.all_fields.ensures.are
