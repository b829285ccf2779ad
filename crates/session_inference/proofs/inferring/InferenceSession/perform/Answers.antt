use Rattle.std.proofs.Common.{◌∙◌, ap, refl, Err}
use Rattle.session_inference.specs.Inferences.{Inference}
use Rattle.session_inference.specs.declared.error.InferenceError.TheVariants.{NoSolution, NoSuchTerm}
use Rattle.session_inference.proofs.Faults.{handed-error, refused-so}
use Rattle.session_inference.proofs.Operations.{alone-goes-on, alone-stays, alone-still, can-number, lacks-obligation, residual-full, residual-there, select-number, stands-too, yes-no}
use Rattle.session_inference.proofs.inferring.InferenceSession.perform.Goals as goal

pub returns-in_err-id-in-FreshTy-clause-full : goal.returns-in_err-id-in-FreshTy-clause-full
returns-in_err-id-in-FreshTy-clause-full c = residual-full c.fresh_ty.new.self.subject c.from_residual.result _ c.from_residual.ensures.1 c.in_err-id-in-FreshTy.ensures.full

pub returns-in_err-id-in-FreshConst-clause-full : goal.returns-in_err-id-in-FreshConst-clause-full
returns-in_err-id-in-FreshConst-clause-full c =
    residual-full c.fresh_const.new.self.subject c.from_residual-in_err-id-in-FreshConst.result _ c.from_residual-in_err-id-in-FreshConst.ensures.1 c.in_err-id-in-FreshConst.ensures.full

pub returns-in_err-id-in-Primitive-clause-full : goal.returns-in_err-id-in-Primitive-clause-full
returns-in_err-id-in-Primitive-clause-full c =
    residual-full c.primitive.new.self.subject c.from_residual-in_err-id-in-Primitive.result _ c.from_residual-in_err-id-in-Primitive.ensures.1 c.in_err-id-in-Primitive.ensures.full

pub returns-in_err-id-in-Constant-clause-full : goal.returns-in_err-id-in-Constant-clause-full
returns-in_err-id-in-Constant-clause-full c =
    residual-full c.constant.new.self.subject c.from_residual-in_err-id-in-Constant.result _ c.from_residual-in_err-id-in-Constant.ensures.1 c.in_err-id-in-Constant.ensures.full

pub returns-in_err-selected-in-SelectWherePossible-clause-full : goal.returns-in_err-selected-in-SelectWherePossible-clause-full
returns-in_err-selected-in-SelectWherePossible-clause-full c =
    residual-full c.select_where_possible.new.self.subject c.from_residual-in_err-selected-in-SelectWherePossible.result _ c.from_residual-in_err-selected-in-SelectWherePossible.ensures.1 c.in_err-selected-in-SelectWherePossible.ensures.full

pub returns-in_err-id-in-TyParam-clause-full : goal.returns-in_err-id-in-TyParam-clause-full
returns-in_err-id-in-TyParam-clause-full c =
    residual-full c.ty_param.new.self.subject c.from_residual-in_err-id-in-TyParam.result _ c.from_residual-in_err-id-in-TyParam.ensures.1 c.in_err-id-in-TyParam.ensures.full

pub returns-in_err-id-in-ConstParam-clause-full : goal.returns-in_err-id-in-ConstParam-clause-full
returns-in_err-id-in-ConstParam-clause-full c =
    residual-full c.const_param.new.self.subject c.from_residual-in_err-id-in-ConstParam.result _ c.from_residual-in_err-id-in-ConstParam.ensures.1 c.in_err-id-in-ConstParam.ensures.full

pub returns-in_err-id-in-FreshTy-clause-refused : goal.returns-in_err-id-in-FreshTy-clause-refused
returns-in_err-id-in-FreshTy-clause-refused c = refused-so c.from_residual.result _ (record { goes_on = c.fresh_ty.ensures.goes_on; terms = c.in_err-id-in-FreshTy.ensures.terms; faithful = c.fresh_ty.ensures.still })

pub returns-in_err-id-in-FreshTy-clause-no_term : goal.returns-in_err-id-in-FreshTy-clause-no_term
returns-in_err-id-in-FreshTy-clause-no_term c = residual-there c.from_residual.result _ _ c.from_residual.ensures.1

pub returns-in_err-id-in-FreshConst-clause-refused : goal.returns-in_err-id-in-FreshConst-clause-refused
returns-in_err-id-in-FreshConst-clause-refused c = refused-so c.from_residual-in_err-id-in-FreshConst.result _ (record { goes_on = c.fresh_const.ensures.goes_on; terms = c.in_err-id-in-FreshConst.ensures.terms; faithful = c.fresh_const.ensures.still })

pub returns-in_err-id-in-FreshConst-clause-no_term : goal.returns-in_err-id-in-FreshConst-clause-no_term
returns-in_err-id-in-FreshConst-clause-no_term c = residual-there c.from_residual-in_err-id-in-FreshConst.result _ _ c.from_residual-in_err-id-in-FreshConst.ensures.1

pub returns-in_err-id-in-Primitive-clause-refused : goal.returns-in_err-id-in-Primitive-clause-refused
returns-in_err-id-in-Primitive-clause-refused c = refused-so c.from_residual-in_err-id-in-Primitive.result _ (record { goes_on = c.primitive.ensures.goes_on; terms = c.in_err-id-in-Primitive.ensures.terms; faithful = c.primitive.ensures.faithful })

pub returns-in_err-id-in-Primitive-clause-no_term : goal.returns-in_err-id-in-Primitive-clause-no_term
returns-in_err-id-in-Primitive-clause-no_term c = residual-there c.from_residual-in_err-id-in-Primitive.result _ _ c.from_residual-in_err-id-in-Primitive.ensures.1

pub returns-in_err-id-in-Constant-clause-refused : goal.returns-in_err-id-in-Constant-clause-refused
returns-in_err-id-in-Constant-clause-refused c = refused-so c.from_residual-in_err-id-in-Constant.result _ (record { goes_on = c.constant.ensures.goes_on; terms = c.in_err-id-in-Constant.ensures.terms; faithful = c.constant.ensures.faithful })

pub returns-in_err-id-in-Constant-clause-no_term : goal.returns-in_err-id-in-Constant-clause-no_term
returns-in_err-id-in-Constant-clause-no_term c = residual-there c.from_residual-in_err-id-in-Constant.result _ _ c.from_residual-in_err-id-in-Constant.ensures.1

pub returns-in_err-id-in-TyParam-clause-refused : goal.returns-in_err-id-in-TyParam-clause-refused
returns-in_err-id-in-TyParam-clause-refused c = refused-so c.from_residual-in_err-id-in-TyParam.result _ (record { goes_on = c.ty_param.ensures.goes_on; terms = c.in_err-id-in-TyParam.ensures.terms; faithful = c.ty_param.ensures.faithful })

pub returns-in_err-id-in-TyParam-clause-no_term : goal.returns-in_err-id-in-TyParam-clause-no_term
returns-in_err-id-in-TyParam-clause-no_term c = residual-there c.from_residual-in_err-id-in-TyParam.result _ _ c.from_residual-in_err-id-in-TyParam.ensures.1

pub returns-in_err-id-in-ConstParam-clause-refused : goal.returns-in_err-id-in-ConstParam-clause-refused
returns-in_err-id-in-ConstParam-clause-refused c = refused-so c.from_residual-in_err-id-in-ConstParam.result _ (record { goes_on = c.const_param.ensures.goes_on; terms = c.in_err-id-in-ConstParam.ensures.terms; faithful = c.const_param.ensures.faithful })

pub returns-in_err-id-in-ConstParam-clause-no_term : goal.returns-in_err-id-in-ConstParam-clause-no_term
returns-in_err-id-in-ConstParam-clause-no_term c = residual-there c.from_residual-in_err-id-in-ConstParam.result _ _ c.from_residual-in_err-id-in-ConstParam.ensures.1

pub returns-in_err-id-in-Lifetime-clause-refused : goal.returns-in_err-id-in-Lifetime-clause-refused
returns-in_err-id-in-Lifetime-clause-refused c =
    let e = c.lifetime.ensures in
    refused-so c.from_residual-in_err-id-in-Lifetime.result _ (alone-stays c.args.self.now c.lifetime.new.self e.subject e.context c.in_err-id-in-Lifetime.ensures.terms e.snapshots e.assumptions)

pub returns-in_err-id-in-Lifetime-clause-no_term : goal.returns-in_err-id-in-Lifetime-clause-no_term
returns-in_err-id-in-Lifetime-clause-no_term c = residual-there c.from_residual-in_err-id-in-Lifetime.result _ _ c.from_residual-in_err-id-in-Lifetime.ensures.1

pub returns-in_err-id-in-Ty-clause-refused : goal.returns-in_err-id-in-Ty-clause-refused
returns-in_err-id-in-Ty-clause-refused c = refused-so c.from_residual-in_err-id-in-Ty.result _ (record { goes_on = c.ty.ensures.goes_on; terms = c.in_err-id-in-Ty.ensures.terms; faithful = c.ty.ensures.faithful })

pub returns-in_err-eq-in-Eq-clause-refused : goal.returns-in_err-eq-in-Eq-clause-refused
returns-in_err-eq-in-Eq-clause-refused c = refused-so c.from_residual-in_err-eq-in-Eq.result _ (record { goes_on = c.eq.ensures.goes_on; terms = c.eq.ensures.terms; faithful = c.in_err-eq-in-Eq.ensures.still })

pub returns-in_err-can-in-CanEq-clause-refused : goal.returns-in_err-can-in-CanEq-clause-refused
returns-in_err-can-in-CanEq-clause-refused c = refused-so c.from_residual-in_err-can-in-CanEq.result _ (record { goes_on = c.can_eq.ensures.goes_on; terms = c.can_eq.ensures.terms; faithful = c.can_eq.ensures.faithful })

pub returns-in_err-id-in-Register-clause-refused : goal.returns-in_err-id-in-Register-clause-refused
returns-in_err-id-in-Register-clause-refused c = refused-so c.from_residual-in_err-id-in-Register.result _ (record { goes_on = c.register.ensures.goes_on; terms = c.register.ensures.terms; faithful = c.in_err-id-in-Register.ensures.still })

pub returns-in_err-selected-in-SelectWherePossible-clause-refused : goal.returns-in_err-selected-in-SelectWherePossible-clause-refused
returns-in_err-selected-in-SelectWherePossible-clause-refused c = refused-so c.from_residual-in_err-selected-in-SelectWherePossible.result _ (record { goes_on = c.select_where_possible.ensures.goes_on; terms = c.select_where_possible.ensures.terms; faithful = c.select_where_possible.ensures.faithful })

pub returns-in_err-selected-in-SelectWherePossible-clause-no_term : goal.returns-in_err-selected-in-SelectWherePossible-clause-no_term
returns-in_err-selected-in-SelectWherePossible-clause-no_term c = residual-there c.from_residual-in_err-selected-in-SelectWherePossible.result _ _ c.from_residual-in_err-selected-in-SelectWherePossible.ensures.1

pub returns-in_err-id-in-Resolve-clause-refused : goal.returns-in_err-id-in-Resolve-clause-refused
returns-in_err-id-in-Resolve-clause-refused c = refused-so c.from_residual-in_err-id-in-Resolve.result _ (record { goes_on = c.resolve.ensures.goes_on; terms = c.in_err-id-in-Resolve.ensures.terms; faithful = c.resolve.ensures.faithful })

pub returns-in_err-assume-in-Assume-clause-refused : goal.returns-in_err-assume-in-Assume-clause-refused
returns-in_err-assume-in-Assume-clause-refused c =
    let e = c.assume.ensures in
    refused-so c.from_residual-in_err-assume-in-Assume.result _ (alone-stays c.args.self.now c.assume.new.self e.subject e.context e.terms e.snapshots c.in_err-assume-in-Assume.ensures.refused)

pub returns-in_err-start_snapshot-in-StartSnapshot-clause-refused : goal.returns-in_err-start_snapshot-in-StartSnapshot-clause-refused
returns-in_err-start_snapshot-in-StartSnapshot-clause-refused c =
    let e = c.start_snapshot.ensures in
    refused-so c.from_residual-in_err-start_snapshot-in-StartSnapshot.result _
    (alone-stays c.args.self.now c.start_snapshot.new.self e.subject e.context e.terms c.in_err-start_snapshot-in-StartSnapshot.ensures.refused e.assumptions)

pub returns-in-Standing-clause-refused : goal.returns-in-Standing-clause-refused
returns-in-Standing-clause-refused c = refused-so c.standing_at.result _ (alone-stays c.args.self.now c.args.self.now refl refl refl refl refl)

pub returns-in_err-id-in-Ty-clause-no_term : goal.returns-in_err-id-in-Ty-clause-no_term
returns-in_err-id-in-Ty-clause-no_term c =
    λ q.
    rw c.in-Ty.is
    (c.ty.ensures.no_term (c.in_err-id-in-Ty.was ∙ ap Err (handed-error c.from_residual-in_err-id-in-Ty.result _ NoSuchTerm c.from_residual-in_err-id-in-Ty.ensures.1 q)))

pub returns-in_err-eq-in-Eq-clause-no_term : goal.returns-in_err-eq-in-Eq-clause-no_term
returns-in_err-eq-in-Eq-clause-no_term c =
    λ q.
    rw c.in-Eq.is
    (c.eq.ensures.no_term (c.in_err-eq-in-Eq.was ∙ ap Err (handed-error c.from_residual-in_err-eq-in-Eq.result _ NoSuchTerm c.from_residual-in_err-eq-in-Eq.ensures.1 q)))

pub returns-in_err-can-in-CanEq-clause-no_term : goal.returns-in_err-can-in-CanEq-clause-no_term
returns-in_err-can-in-CanEq-clause-no_term c =
    λ q.
    rw c.in-CanEq.is
    (c.can_eq.ensures.no_term (c.in_err-can-in-CanEq.was ∙ ap Err (handed-error c.from_residual-in_err-can-in-CanEq.result _ NoSuchTerm c.from_residual-in_err-can-in-CanEq.ensures.1 q)))

pub returns-in_err-assume-in-Assume-clause-no_term : goal.returns-in_err-assume-in-Assume-clause-no_term
returns-in_err-assume-in-Assume-clause-no_term c =
    λ q.
    rw c.in-Assume.is
    (c.assume.ensures.no_term (c.in_err-assume-in-Assume.was ∙ ap Err (handed-error c.from_residual-in_err-assume-in-Assume.result _ NoSuchTerm c.from_residual-in_err-assume-in-Assume.ensures.1 q)))

pub returns-in_err-id-in-Register-clause-no_term : goal.returns-in_err-id-in-Register-clause-no_term
returns-in_err-id-in-Register-clause-no_term c =
    λ q.
    rw c.in-Register.is
    (c.register.ensures.no_term (c.in_err-id-in-Register.was ∙ ap Err (handed-error c.from_residual-in_err-id-in-Register.result _ NoSuchTerm c.from_residual-in_err-id-in-Register.ensures.1 q)))

pub returns-in_err-id-in-Resolve-clause-no_term : goal.returns-in_err-id-in-Resolve-clause-no_term
returns-in_err-id-in-Resolve-clause-no_term c =
    λ q.
    rw c.in-Resolve.is
    (c.resolve.ensures.no_term (c.in_err-id-in-Resolve.was ∙ ap Err (handed-error c.from_residual-in_err-id-in-Resolve.result _ NoSuchTerm c.from_residual-in_err-id-in-Resolve.ensures.1 q)))

pub returns-in-Standing-clause-no_term : goal.returns-in-Standing-clause-no_term
returns-in-Standing-clause-no_term c = λ q. rw c.in-Standing.is (lacks-obligation c.obligations.result.now _ c.in-Standing.id c.standing_at.result c.obligations.ensures q c.standing_at.ensures.none)

pub returns-in_ok-id-in-Lifetime-clause-does : goal.returns-in_ok-id-in-Lifetime-clause-does
returns-in_ok-id-in-Lifetime-clause-does c =
    let e = c.lifetime.ensures in
    rw c.in-Lifetime.is
    (alone-goes-on c.args.self.now c.lifetime.new.self e.subject e.context e.snapshots e.assumptions, c.in_ok-id-in-Lifetime.ensures.is, alone-still c.args.self.now c.lifetime.new.self e.subject e.context)

pub returns-in_ok-eq-in-Eq-clause-does : goal.returns-in_ok-eq-in-Eq-clause-does
returns-in_ok-eq-in-Eq-clause-does c = rw c.in-Eq.is ((c.eq.ensures.goes_on, c.eq.ensures.terms), c.in_ok-eq-in-Eq.ensures.faithful)

pub returns-in_ok-can-in-CanEq-clause-does : goal.returns-in_ok-can-in-CanEq-clause-does
returns-in_ok-can-in-CanEq-clause-does c =
    let can = c.can_eq.ensures in
    let both = can-number c.in_ok-can-in-CanEq.can c.can_eq.result c.number_of.result _ _ c.number_of.ensures c.in_ok-can-in-CanEq.was can.possible can.impossible in
    rw c.in-CanEq.is ((can.goes_on, can.terms), can.as_before, can.faithful, both.0, both.1)

pub returns-in_ok-assume-in-Assume-clause-does : goal.returns-in_ok-assume-in-Assume-clause-does
returns-in_ok-assume-in-Assume-clause-does c =
    let e = c.assume.ensures in
    rw c.in-Assume.is (c.in_ok-assume-in-Assume.ensures.assumed, e.subject, e.context, e.terms, e.snapshots)

pub returns-in_ok-id-in-Register-clause-does : goal.returns-in_ok-id-in-Register-clause-does
returns-in_ok-id-in-Register-clause-does c =
    rw c.in-Register.is ((c.register.ensures.goes_on, c.register.ensures.terms), c.in_ok-id-in-Register.ensures.registered, c.in_ok-id-in-Register.ensures.faithful)

pub returns-in_ok-selected-in-SelectWherePossible-clause-does : goal.returns-in_ok-selected-in-SelectWherePossible-clause-does
returns-in_ok-selected-in-SelectWherePossible-clause-does c =
    let s = c.select_where_possible.ensures in
    let ends = select-number c.in_ok-selected-in-SelectWherePossible.selected c.select_where_possible.result c.selected_number.result _ _ _ _ c.selected_number.ensures c.in_ok-selected-in-SelectWherePossible.was s.all_done s.unsettled s.stopped s.refused in
    rw c.in-SelectWherePossible.is ((s.goes_on, s.terms), s.done, s.faithful, ends.0, ends.1, ends.2, ends.3)

pub returns-in-Standing-clause-does : goal.returns-in-Standing-clause-does
returns-in-Standing-clause-does c = rw c.in-Standing.is (stands-too c.obligations.result.now _ c.in-Standing.id c.standing_at.result c.args.self.now c.obligations.ensures c.standing_at.ensures.stands)

pub returns-in_ok-start_snapshot-in-StartSnapshot-clause-does : goal.returns-in_ok-start_snapshot-in-StartSnapshot-clause-does
returns-in_ok-start_snapshot-in-StartSnapshot-clause-does c =
    let t = c.in_ok-start_snapshot-in-StartSnapshot.ensures.taken in
    let e = c.start_snapshot.ensures in
    rw c.in-StartSnapshot.is (t.0, t.1, t.2, t.3, t.4, (e.subject, e.context, e.terms, e.assumptions))

pub returns-in-Commit-clause-does : goal.returns-in-Commit-clause-does
returns-in-Commit-clause-does c =
    let e = c.commit.ensures in
    let both = yes-no c.commit.result c.number_of-in-Commit.result _ _ c.number_of-in-Commit.ensures (λ h. let m = e.ended h in (m.0, m.1, tt)) e.none in
    rw c.in-Commit.is ((both.0, both.1), (e.subject, e.context, e.terms, e.assumptions))

pub returns-in-RollBack-clause-does : goal.returns-in-RollBack-clause-does
returns-in-RollBack-clause-does c =
    let e = c.roll_back.ensures in
    let both =
    yes-no c.roll_back.result c.number_of-in-RollBack.result _ _ c.number_of-in-RollBack.ensures (λ h. let m = e.restored h in (m.0, m.1, (m.2, m.3, m.4)))
    (λ h. let n = e.none h in (n.0, ap (λ (v : Inference). v.snapshots) n.1 ∙ n.0))
    in
    rw c.in-RollBack.is (e.subject, both)

pub returns-in_err-eq-in-Eq-clause-no_solution : goal.returns-in_err-eq-in-Eq-clause-no_solution
returns-in_err-eq-in-Eq-clause-no_solution c =
    λ q.
    rw c.in-Eq.is
    (c.eq.ensures.no_solution (c.in_err-eq-in-Eq.was ∙ ap Err (handed-error c.from_residual-in_err-eq-in-Eq.result _ NoSolution c.from_residual-in_err-eq-in-Eq.ensures.1 q)))
