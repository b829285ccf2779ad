use Rattle.std.proofs.Common.{◌≡◌, ◌++◌, [], refl, ap, sym, ◌∙◌, subst, take}
use Rattle.std.specs.Prelude.{IfSome, List}
use Rattle.type_terms.specs.Promised.Worlds.{Reference}
use Rattle.type_terms.specs.Promised.Rules as rule
use Rattle.type_terms.specs.Promised.Rules.{is_coinductive}
use Rattle.type_terms.specs.Promised.Proofs.{In, Every}
use Rattle.declarations.specs.Items.{declared}
use Rattle.proof_checker.specs.Checked.{IsRuleByWay, IsBuiltInRule}
use Rattle.proof_checker.specs.Steps.{term_of, terms_of, steps_say, at_places, assumed_in, IsWayOf, StepHeld, WayHeld}
use Rattle.proof_checker.proofs.Results.{mapped, both, not-ok, never}
use Rattle.proof_checker.proofs.Places.{each-below}
use Rattle.proof_checker.proofs.Ends.{rule-at, stand-at}
use Rattle.proof_checker.proofs.Ways.{rule-more, assumed-rule, get-at}
use Rattle.proof_checker.proofs.Later.{steps-kept, say-same, say-length, stand-all, stand-before, assumed-in}
use Rattle.type_terms.proofs.Grown.{grew-none, grew-on}
use Rattle.type_terms.proofs.FailFacts.{at-limit}
use Rattle.declarations.specs.Applied.{TraitRefsHeld}
use Rattle.proof_checker.proofs.checker.is_step.Goals as goal
use Rattle.proof_checker.proofs.checker.is_step.Goals.{then-is_coinductive, else-is_coinductive}

pub premises_stand-requires-clause-steps : goal.premises_stand-requires-clause-steps
premises_stand-requires-clause-steps c = steps-kept c.args.cx.now.entries c.by_impl.new.cx.entries c.by_impl.ensures.terms.grew.keeps c.args.steps.now c.requires.steps

pub by_clause-requires-clause-reference : goal.by_clause-requires-clause-reference
by_clause-requires-clause-reference c = (each-below (StepHeld c.args.cx.now.entries) c.args.steps.now c.args.place c.index-steps-place.result c.requires.steps c.requires.place c.index-steps-place.is).0

pub by_supertrait-requires-clause-reference : goal.by_supertrait-requires-clause-reference
by_supertrait-requires-clause-reference c = (each-below (StepHeld c.args.cx.now.entries) c.args.steps.now c.args.place c.index-steps-place.result c.requires.steps c.requires.place c.index-steps-place.is).0

-- ---- impls
pub returns-in-Some-clause-rule : goal.returns-in-Some-clause-rule
returns-in-Some-clause-rule c =
    let es = c.args.cx.now.entries in
    let fs = c.by_impl.new.cx.entries in
    let ss = c.args.steps.now in
    let st = c.index-steps-place.result in
    let W = declared es c.args.declarations.now in
    let E = terms_of es c.args.clauses.now ++ assumed_in es ss in
    let r = term_of es st.reference in
    let rs = steps_say es ss in
    let ps = st.premises.items in
    let way = rule.by_impl c.in-Impl.source.impl_def_id.index in
    let same = say-same es fs c.by_impl.ensures.terms.grew.keeps ss c.requires.steps in
    let by = subst (λ o. IfSome o (λ v. (F : _) → IsRuleByWay W F r way (terms_of fs v.items))) c.in-Some.is c.in_ok-premises-in-Impl.ensures.rule in
    mapped _ _ c.premises_stand.result
    (λ b are q.
    let places : at_places rs ps ≡ terms_of fs c.in-Some.premises.items =
    ap (λ l. at_places l ps) (sym same) ∙ ap (at_places (steps_say fs ss)) (sym c.deref.ensures.value) ∙ are q ∙ ap (terms_of fs) c.deref-in-Some.ensures.value in
    rule-at W es ss c.args.place st c.requires.place c.index-steps-place.is (terms_of fs c.in-Some.premises.items) places E way (subst (λ w. IsWayOf w way) (sym c.in-Impl.is) refl) (by E))
    c.premises_stand.ensures.are

pub returns-in-Some-clause-stand : goal.returns-in-Some-clause-stand
returns-in-Some-clause-stand c =
    let es = c.args.cx.now.entries in
    let fs = c.by_impl.new.cx.entries in
    let ss = c.args.steps.now in
    let st = c.index-steps-place.result in
    let W = declared es c.args.declarations.now in
    let t = st.reference.def_id.index in
    let rs = steps_say es ss in
    let ps = at_places rs st.premises.items in
    let same = say-same es fs c.by_impl.ensures.terms.grew.keeps ss c.requires.steps in
    let n = c.if-is_coinductive.allowed in
    let co = c.is_coinductive.ensures es in
    both _ _ _ c.premises_stand.result
    (λ b are stands q.
    let places : ps ≡ terms_of fs c.deref-in-Some.result.now =
    ap (λ l. at_places l st.premises.items) (sym same) ∙ ap (at_places (steps_say fs ss)) (sym c.deref.ensures.value) ∙ are q in
    let stand : Every (λ (p : Reference). In p (take n rs)) ps =
    subst (λ l. Every (λ (p : Reference). In p (take n l)) ps) same (subst (λ l. Every (λ (p : Reference). In p (take n (steps_say fs ss))) l) (sym places) (stands q)) in
    stand-at W es ss c.args.place st c.requires.place c.index-steps-place.is ps refl
    (elim c.if-is_coinductive.branch [
      | then-is_coinductive w ↦ stand-all (is_coinductive W t) (sym co ∙ w.if-is_coinductive.true) n c.args.place rs ps (w.allowed-is ∙ sym (say-length es ss)) stand
      | else-is_coinductive w ↦ stand-before (is_coinductive W t) (sym co ∙ w.if-is_coinductive.false) n c.args.place rs ps w.allowed-is stand
    ]))
    c.premises_stand.ensures.are c.premises_stand.ensures.stand

-- ---- built-in rules
pub premises_stand-requires-in-Some-2-clause-steps : goal.premises_stand-requires-in-Some-2-clause-steps
premises_stand-requires-in-Some-2-clause-steps c = steps-kept c.args.cx.now.entries c.by_built_in.new.cx.entries c.by_built_in.ensures.terms.grew.keeps c.args.steps.now c.requires.steps

pub by_built_in-requires-clause-reference : goal.by_built_in-requires-clause-reference
by_built_in-requires-clause-reference c = (each-below (StepHeld c.args.cx.now.entries) c.args.steps.now c.args.place c.index-steps-place.result c.requires.steps c.requires.place c.index-steps-place.is).0

pub returns-in-Some-2-clause-rule : goal.returns-in-Some-2-clause-rule
returns-in-Some-2-clause-rule c =
    let es = c.args.cx.now.entries in
    let fs = c.by_built_in.new.cx.entries in
    let ss = c.args.steps.now in
    let st = c.index-steps-place.result in
    let W = declared es c.args.declarations.now in
    let E = terms_of es c.args.clauses.now ++ assumed_in es ss in
    let r = term_of es st.reference in
    let rs = steps_say es ss in
    let ps = st.premises.items in
    let same = say-same es fs c.by_built_in.ensures.terms.grew.keeps ss c.requires.steps in
    let found = subst (λ o. IfSome o (λ v. (F : List Reference) → IsBuiltInRule W F r (terms_of fs v.items))) c.in-Some-2.is c.in_ok-premises-in-BuiltIn.ensures.rule E in
    let way = rule.built_in found.0 in
    mapped _ _ c.premises_stand-in-Some-2.result
    (λ b are q.
    let places : at_places rs ps ≡ terms_of fs c.in-Some-2.premises.items =
    ap (λ l. at_places l ps) (sym same) ∙ ap (at_places (steps_say fs ss)) (sym c.deref-in-Some-2.ensures.value) ∙ are q ∙ ap (terms_of fs) c.deref-in-Some-2-2.ensures.value in
    rule-at W es ss c.args.place st c.requires.place c.index-steps-place.is (terms_of fs c.in-Some-2.premises.items) places E way (subst (λ w. IsWayOf w way) (sym c.in-BuiltIn.is) (found.0, refl)) found.1)
    c.premises_stand-in-Some-2.ensures.are

pub returns-in-Some-2-clause-stand : goal.returns-in-Some-2-clause-stand
returns-in-Some-2-clause-stand c =
    let es = c.args.cx.now.entries in
    let fs = c.by_built_in.new.cx.entries in
    let ss = c.args.steps.now in
    let st = c.index-steps-place.result in
    let W = declared es c.args.declarations.now in
    let t = st.reference.def_id.index in
    let rs = steps_say es ss in
    let ps = at_places rs st.premises.items in
    let same = say-same es fs c.by_built_in.ensures.terms.grew.keeps ss c.requires.steps in
    let n = c.if-is_coinductive.allowed in
    let co = c.is_coinductive.ensures es in
    both _ _ _ c.premises_stand-in-Some-2.result
    (λ b are stands q.
    let places : ps ≡ terms_of fs c.deref-in-Some-2-2.result.now =
    ap (λ l. at_places l st.premises.items) (sym same) ∙ ap (at_places (steps_say fs ss)) (sym c.deref-in-Some-2.ensures.value) ∙ are q in
    let stand : Every (λ (p : Reference). In p (take n rs)) ps =
    subst (λ l. Every (λ (p : Reference). In p (take n l)) ps) same (subst (λ l. Every (λ (p : Reference). In p (take n (steps_say fs ss))) l) (sym places) (stands q)) in
    stand-at W es ss c.args.place st c.requires.place c.index-steps-place.is ps refl
    (elim c.if-is_coinductive.branch [
      | then-is_coinductive w ↦ stand-all (is_coinductive W t) (sym co ∙ w.if-is_coinductive.true) n c.args.place rs ps (w.allowed-is ∙ sym (say-length es ss)) stand
      | else-is_coinductive w ↦ stand-before (is_coinductive W t) (sym co ∙ w.if-is_coinductive.false) n c.args.place rs ps w.allowed-is stand
    ]))
    c.premises_stand-in-Some-2.ensures.are c.premises_stand-in-Some-2.ensures.stand

-- ---- where-clauses
pub returns-then-found-clause-rule : goal.returns-then-found-clause-rule
returns-then-found-clause-rule c = λ q.
    let es = c.args.cx.now.entries in
    let ss = c.args.steps.now in
    let st = c.index-steps-place.result in
    let W = declared es c.args.declarations.now in
    let r = term_of es st.reference in
    let way = rule.by_clause c.in-Clause.place in
    let none = ap (at_places (steps_say es ss)) (c.is_leaf-leaf.ensures q) in
    rule-at W es ss c.args.place st c.requires.place c.index-steps-place.is [] none (terms_of es c.args.clauses.now ++ assumed_in es ss) way (subst (λ w. IsWayOf w way) (sym c.in-Clause.is) refl)
    (rule-more W (terms_of es c.args.clauses.now) (assumed_in es ss) r way [] (c.in_ok-found-in-Clause.ensures.rule c.if-found.true W))

pub returns-then-found-2-clause-rule : goal.returns-then-found-2-clause-rule
returns-then-found-2-clause-rule c = λ q.
    let es = c.args.cx.now.entries in
    let ss = c.args.steps.now in
    let st = c.index-steps-place.result in
    let W = declared es c.args.declarations.now in
    let r = term_of es st.reference in
    let found = c.in_ok-found-in-Supertrait.ensures.rule c.if-found-2.true in
    let way = rule.by_super c.in-Supertrait.place found.0 in
    let none = ap (at_places (steps_say es ss)) (c.is_leaf-leaf.ensures q) in
    rule-at W es ss c.args.place st c.requires.place c.index-steps-place.is [] none (terms_of es c.args.clauses.now ++ assumed_in es ss) way (subst (λ w. IsWayOf w way) (sym c.in-Supertrait.is) (found.0, refl))
    (rule-more W (terms_of es c.args.clauses.now) (assumed_in es ss) r way [] found.1)

-- ---- what is assumed
pub returns-in-Assumed-clause-rule : goal.returns-in-Assumed-clause-rule
returns-in-Assumed-clause-rule c = λ q.
    let es = c.args.cx.now.entries in
    let ss = c.args.steps.now in
    let st = c.index-steps-place.result in
    let W = declared es c.args.declarations.now in
    let r = term_of es st.reference in
    let found = assumed-rule W (terms_of es c.args.clauses.now) (assumed_in es ss) r (assumed-in es ss c.args.place st (get-at ss c.args.place st c.requires.place c.index-steps-place.is) c.in-Assumed.is) in
    let way = rule.by_clause found.0 in
    let none = ap (at_places (steps_say es ss)) (c.is_leaf-leaf.ensures q) in
    rule-at W es ss c.args.place st c.requires.place c.index-steps-place.is [] none (terms_of es c.args.clauses.now ++ assumed_in es ss) way (subst (λ w. IsWayOf w way) (sym c.in-Assumed.is) (found.0, refl))
    found.1

pub by_impl-requires-clause-declared : goal.by_impl-requires-clause-declared
by_impl-requires-clause-declared c = c.requires.declared

pub by_impl-requires-clause-covered : goal.by_impl-requires-clause-covered
by_impl-requires-clause-covered c = c.requires.covered

pub by_impl-requires-clause-reference : goal.by_impl-requires-clause-reference
by_impl-requires-clause-reference c = (each-below (StepHeld c.args.cx.now.entries) c.args.steps.now c.args.place c.index-steps-place.result c.requires.steps c.requires.place c.index-steps-place.is).0

pub by_impl-requires-clause-args : goal.by_impl-requires-clause-args
by_impl-requires-clause-args c =
    subst (WayHeld c.args.cx.now.entries) c.in-Impl.is (each-below (StepHeld c.args.cx.now.entries) c.args.steps.now c.args.place c.index-steps-place.result c.requires.steps c.requires.place c.index-steps-place.is).1

pub returns-in_err-premises-in-Impl-clause-terms : goal.returns-in_err-premises-in-Impl-clause-terms
returns-in_err-premises-in-Impl-clause-terms c = record {
  grew = c.by_impl.ensures.terms.grew;
  full = at-limit c.from_residual.result c.from_residual.ensures.1 c.in_err-premises-in-Impl.ensures.terms.full;
}

pub returns-in_err-premises-in-Impl-clause-rule : goal.returns-in_err-premises-in-Impl-clause-rule
returns-in_err-premises-in-Impl-clause-rule c = not-ok _ _ c.from_residual.result c.from_residual.ensures.1

pub returns-in_err-premises-in-Impl-clause-stand : goal.returns-in_err-premises-in-Impl-clause-stand
returns-in_err-premises-in-Impl-clause-stand c = not-ok _ _ c.from_residual.result c.from_residual.ensures.1

pub premises_stand-requires-clause-premises : goal.premises_stand-requires-clause-premises
premises_stand-requires-clause-premises c =
    let fs = c.by_impl.new.cx.entries in
    subst (TraitRefsHeld fs) (sym c.deref-in-Some.ensures.value) (subst (λ o. IfSome o (λ v. TraitRefsHeld fs v.items)) c.in-Some.is c.in_ok-premises-in-Impl.ensures.held)

pub returns-in-Some-clause-terms : goal.returns-in-Some-clause-terms
returns-in-Some-clause-terms c = record {
  grew = grew-on c.by_impl.ensures.terms.grew c.premises_stand.ensures.terms.grew;
  full = c.premises_stand.ensures.terms.full;
}

pub returns-in-None-clause-terms : goal.returns-in-None-clause-terms
returns-in-None-clause-terms c = record {
  grew = c.by_impl.ensures.terms.grew;
  full = tt;
}

pub returns-in-None-clause-rule : goal.returns-in-None-clause-rule
returns-in-None-clause-rule c = never

pub returns-in-None-clause-stand : goal.returns-in-None-clause-stand
returns-in-None-clause-stand c = never

pub by_clause-requires-clause-clauses : goal.by_clause-requires-clause-clauses
by_clause-requires-clause-clauses c = c.requires.clauses

pub returns-in_err-found-in-Clause-clause-terms : goal.returns-in_err-found-in-Clause-clause-terms
returns-in_err-found-in-Clause-clause-terms c = record {
  grew = c.by_clause.ensures.terms.grew;
  full = at-limit c.from_residual-in_err-found-in-Clause.result c.from_residual-in_err-found-in-Clause.ensures.1 c.in_err-found-in-Clause.ensures.terms.full;
}

pub returns-in_err-found-in-Clause-clause-rule : goal.returns-in_err-found-in-Clause-clause-rule
returns-in_err-found-in-Clause-clause-rule c = not-ok _ _ c.from_residual-in_err-found-in-Clause.result c.from_residual-in_err-found-in-Clause.ensures.1

pub returns-in_err-found-in-Clause-clause-stand : goal.returns-in_err-found-in-Clause-clause-stand
returns-in_err-found-in-Clause-clause-stand c = not-ok _ _ c.from_residual-in_err-found-in-Clause.result c.from_residual-in_err-found-in-Clause.ensures.1

pub returns-then-found-clause-terms : goal.returns-then-found-clause-terms
returns-then-found-clause-terms c = record {
  grew = c.by_clause.ensures.terms.grew;
  full = tt;
}

pub returns-then-found-clause-stand : goal.returns-then-found-clause-stand
returns-then-found-clause-stand c = λ q.
    let es = c.args.cx.now.entries in
    let ss = c.args.steps.now in
    stand-at (declared es c.args.declarations.now) es ss c.args.place c.index-steps-place.result c.requires.place c.index-steps-place.is [] (ap (at_places (steps_say es ss)) (c.is_leaf-leaf.ensures q)) tt

pub returns-else-found-clause-terms : goal.returns-else-found-clause-terms
returns-else-found-clause-terms c = record {
  grew = c.by_clause.ensures.terms.grew;
  full = tt;
}

pub returns-else-found-clause-rule : goal.returns-else-found-clause-rule
returns-else-found-clause-rule c = λ q. never (sym c.if-found.false ∙ q)

pub returns-else-found-clause-stand : goal.returns-else-found-clause-stand
returns-else-found-clause-stand c = λ q. never (sym c.if-found.false ∙ q)

pub by_supertrait-requires-clause-declared : goal.by_supertrait-requires-clause-declared
by_supertrait-requires-clause-declared c = c.requires.declared

pub by_supertrait-requires-clause-bounds : goal.by_supertrait-requires-clause-bounds
by_supertrait-requires-clause-bounds c = c.requires.bounds

pub by_supertrait-requires-clause-clauses : goal.by_supertrait-requires-clause-clauses
by_supertrait-requires-clause-clauses c = c.requires.clauses

pub returns-in_err-found-in-Supertrait-clause-terms : goal.returns-in_err-found-in-Supertrait-clause-terms
returns-in_err-found-in-Supertrait-clause-terms c = record {
  grew = c.by_supertrait.ensures.terms.grew;
  full = at-limit c.from_residual-in_err-found-in-Supertrait.result c.from_residual-in_err-found-in-Supertrait.ensures.1 c.in_err-found-in-Supertrait.ensures.terms.full;
}

pub returns-in_err-found-in-Supertrait-clause-rule : goal.returns-in_err-found-in-Supertrait-clause-rule
returns-in_err-found-in-Supertrait-clause-rule c = not-ok _ _ c.from_residual-in_err-found-in-Supertrait.result c.from_residual-in_err-found-in-Supertrait.ensures.1

pub returns-in_err-found-in-Supertrait-clause-stand : goal.returns-in_err-found-in-Supertrait-clause-stand
returns-in_err-found-in-Supertrait-clause-stand c = not-ok _ _ c.from_residual-in_err-found-in-Supertrait.result c.from_residual-in_err-found-in-Supertrait.ensures.1

pub returns-then-found-2-clause-terms : goal.returns-then-found-2-clause-terms
returns-then-found-2-clause-terms c = record {
  grew = c.by_supertrait.ensures.terms.grew;
  full = tt;
}

pub returns-then-found-2-clause-stand : goal.returns-then-found-2-clause-stand
returns-then-found-2-clause-stand c = λ q.
    let es = c.args.cx.now.entries in
    let ss = c.args.steps.now in
    stand-at (declared es c.args.declarations.now) es ss c.args.place c.index-steps-place.result c.requires.place c.index-steps-place.is [] (ap (at_places (steps_say es ss)) (c.is_leaf-leaf.ensures q)) tt

pub returns-else-found-2-clause-terms : goal.returns-else-found-2-clause-terms
returns-else-found-2-clause-terms c = record {
  grew = c.by_supertrait.ensures.terms.grew;
  full = tt;
}

pub returns-else-found-2-clause-rule : goal.returns-else-found-2-clause-rule
returns-else-found-2-clause-rule c = λ q. never (sym c.if-found-2.false ∙ q)

pub returns-else-found-2-clause-stand : goal.returns-else-found-2-clause-stand
returns-else-found-2-clause-stand c = λ q. never (sym c.if-found-2.false ∙ q)

pub by_built_in-requires-clause-declared : goal.by_built_in-requires-clause-declared
by_built_in-requires-clause-declared c = c.requires.declared

pub returns-in_err-premises-in-BuiltIn-clause-terms : goal.returns-in_err-premises-in-BuiltIn-clause-terms
returns-in_err-premises-in-BuiltIn-clause-terms c = record {
  grew = c.by_built_in.ensures.terms.grew;
  full = at-limit c.from_residual-in_err-premises-in-BuiltIn.result c.from_residual-in_err-premises-in-BuiltIn.ensures.1 c.in_err-premises-in-BuiltIn.ensures.terms.full;
}

pub returns-in_err-premises-in-BuiltIn-clause-rule : goal.returns-in_err-premises-in-BuiltIn-clause-rule
returns-in_err-premises-in-BuiltIn-clause-rule c = not-ok _ _ c.from_residual-in_err-premises-in-BuiltIn.result c.from_residual-in_err-premises-in-BuiltIn.ensures.1

pub returns-in_err-premises-in-BuiltIn-clause-stand : goal.returns-in_err-premises-in-BuiltIn-clause-stand
returns-in_err-premises-in-BuiltIn-clause-stand c = not-ok _ _ c.from_residual-in_err-premises-in-BuiltIn.result c.from_residual-in_err-premises-in-BuiltIn.ensures.1

pub premises_stand-requires-in-Some-2-clause-premises : goal.premises_stand-requires-in-Some-2-clause-premises
premises_stand-requires-in-Some-2-clause-premises c =
    let fs = c.by_built_in.new.cx.entries in
    subst (TraitRefsHeld fs) (sym c.deref-in-Some-2-2.ensures.value) (subst (λ o. IfSome o (λ v. TraitRefsHeld fs v.items)) c.in-Some-2.is c.in_ok-premises-in-BuiltIn.ensures.held)

pub returns-in-Some-2-clause-terms : goal.returns-in-Some-2-clause-terms
returns-in-Some-2-clause-terms c = record {
  grew = grew-on c.by_built_in.ensures.terms.grew c.premises_stand-in-Some-2.ensures.terms.grew;
  full = c.premises_stand-in-Some-2.ensures.terms.full;
}

pub returns-in-None-2-clause-terms : goal.returns-in-None-2-clause-terms
returns-in-None-2-clause-terms c = record {
  grew = c.by_built_in.ensures.terms.grew;
  full = tt;
}

pub returns-in-None-2-clause-rule : goal.returns-in-None-2-clause-rule
returns-in-None-2-clause-rule c = never

pub returns-in-None-2-clause-stand : goal.returns-in-None-2-clause-stand
returns-in-None-2-clause-stand c = never

pub returns-in-Assumed-clause-terms : goal.returns-in-Assumed-clause-terms
returns-in-Assumed-clause-terms c = record {
  grew = grew-none;
  full = tt;
}

pub returns-in-Assumed-clause-stand : goal.returns-in-Assumed-clause-stand
returns-in-Assumed-clause-stand c = λ q.
    let es = c.args.cx.now.entries in
    let ss = c.args.steps.now in
    stand-at (declared es c.args.declarations.now) es ss c.args.place c.index-steps-place.result c.requires.place c.index-steps-place.is [] (ap (at_places (steps_say es ss)) (c.is_leaf-leaf.ensures q)) tt
