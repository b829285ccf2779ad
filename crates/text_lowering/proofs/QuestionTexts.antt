-- A `refute` question of a text without a fault speaks of its variables alone.
use Rattle.std.proofs.Common.{◌≡◌, ◌<◌, ℕ, suc, arith, ltb, Bool, true, false, not, ◌||◌, List, [], ◌∷◌, map, length, None, refl, sym, ap, ◌∙◌, subst}
use Rattle.std.proofs.lemmas.Bool.{eqb-true}
use Rattle.std.proofs.lemmas.Bool.Decides.{nat_tests}
use Rattle.std.specs.Prelude.{◌==◌}
use Rattle.std.specs.List.{flat_map}
use Rattle.type_terms.specs.Promised.Label.{Label, Sort, of_type, of_const, of_lifetime, fn_ptr, principal, param, bound}
use Rattle.type_terms.specs.Promised.Trees.{Trees, none, tree, some_node}
use Rattle.type_terms.specs.Promised.Worlds.{Reference}
use Rattle.text_language.specs.Promised.Syntax.{Params, Clause, refute_line}
use Rattle.text_language.specs.Promised.Declarations.{Declarations, Question, Variable, kinds_of}
use Rattle.text_language.specs.Uses.{Use, variable_use, clause_uses}
use Rattle.text_language.specs.Faults.{fault_of, variables_in, once}
use Rattle.text_language.specs.Lowering.{clause_reference}
use Rattle.text_language.specs.Adding.{question_of, question_meanings}
use Rattle.text_language.specs.Syntax.{spelling}
use Rattle.declarations.specs.Promised.Elaboration.{Each}
use Rattle.text_lines.specs.Faultless.{UsesFit}
use Rattle.text_lines.proofs.NoFault.{passes-tests}
use Rattle.text_lines.proofs.FittingUses.{faultless-uses}
use Rattle.text_lowering.specs.Promised.SeenWorlds.{plain, plain_label, all_kept}
use Rattle.text_lowering.specs.QuestionVariables.{is_undeclared_variable, HoldsVariablesAlone, HasVariablesAlone, RefutationsHaveVariablesAlone}
use Rattle.text_lowering.proofs.ScalarTokens.{AllFine, refute-scalars}
use Rattle.text_lowering.proofs.EachLine.{question-keeps}
use Rattle.text_lowering.proofs.Variables.{ArePlaced, are-placed}
use Rattle.text_lowering.proofs.QuestionTypes.{bare, line, means, AllIn, good-clauses}

-- ---- variables have places
below-fine : (i n : ℕ) → i < n → not (ltb i n) ≡ false
below-fine i n h = by (ltb i n) refl
  where
    by : (b : Bool) → ltb i n ≡ b → not b ≡ false
    by true e = refl
    by false e = absurd (grind (arith, nat_tests))

module _ (d : Declarations) (c : List ℕ) (a : Clause) (bs : List Clause) (all : List (List ℕ × Sort)) where
  abbrev vars : List (List ℕ × Sort)
  vars = once all

  uses-in : (us : List Use) → ArePlaced all (variables_in us) → UsesFit d (line d c a bs vars) us → AllIn d c a bs vars us
  uses-in [] h f = tt
  uses-in (variable_use of_type n ∷ us) h f = ((f.0, below-fine _ _ h.0), uses-in us h.1 f.1)
  uses-in (variable_use of_const n ∷ us) h f = ((f.0, below-fine _ _ h.0), uses-in us h.1 f.1)
  uses-in (variable_use of_lifetime n ∷ us) h f = ((f.0, tt), uses-in us h.1 f.1)
  uses-in (u ∷ us) h f = ((f.0, tt), uses-in us h f.1)

-- ---- lifetimes change nothing
label-stray : (ks : List Sort) (l : Label) → is_undeclared_variable ks (plain_label all_kept l) ≡ is_undeclared_variable ks l
label-stray ks (param of_lifetime i) = refl
label-stray ks (bound of_lifetime j i) = refl
label-stray ks (fn_ptr n) = refl
label-stray ks (principal n t) = refl
label-stray ks l = refl

same-or : (x y z a b e : Bool) → x ≡ a → y ≡ b → z ≡ e → x || y || z ≡ a || b || e
same-or x y z a b e p q r = cc

plain-stray : (ks : List Sort) (t : Trees) → some_node (is_undeclared_variable ks) (plain all_kept t) ≡ some_node (is_undeclared_variable ks) t
plain-stray ks none = refl
plain-stray ks (tree l c o) = same-or _ _ _ _ _ _ (label-stray ks l) (plain-stray ks c) (plain-stray ks o)

map-twice : (vs : List (List ℕ × Sort)) → map (λ v. v.1) vs ≡ map (λ v. v.kind) (map (λ v. (let x : Variable = record { text = v.0; kind = v.1 } in x)) vs)
map-twice [] = refl
map-twice (v ∷ vs) = ap (λ ks. v.1 ∷ ks) (map-twice vs)

-- ---- a line
abbrev Alone : Question → Type 0
Alone q = q.is_refute ≡ true → HasVariablesAlone q

no-params : (ps : Params) → not (length (kinds_of ps) == 0) ≡ false → ps ≡ bare
no-params ps h = by ps.lifetimes ps.types ps.consts (drop-not _ h)
  where
    drop-not : (b : Bool) → not b ≡ false → b ≡ true
    drop-not true g = refl
    drop-not false g = absurd cc

    none-there : (n : ℕ) → (suc n == 0) ≡ true → ⊥
    none-there n g = omega (arith, eqb-true (suc n) 0 g)

    by : (ls ts cs : List (List ℕ)) → (length (kinds_of (record { lifetimes = ls; types = ts; consts = cs })) == 0) ≡ true → (let x : Params = record { lifetimes = ls; types = ts; consts = cs } in x) ≡ bare
    by [] [] [] g = refl
    by (x ∷ ls) ts cs g = absurd (none-there _ g)
    by [] (x ∷ ts) cs g = absurd (none-there _ g)
    by [] [] (x ∷ cs) g = absurd (none-there _ g)

-- each holds its variables alone, whatever its lifetimes are
plain-alone : (vs : List (List ℕ × Sort)) (rs : List Reference) → Each (λ r. some_node (is_undeclared_variable (map (λ v. v.1) vs)) r.args ≡ false) rs
    → Each (HoldsVariablesAlone (map (λ v. v.kind) (map (λ v. (let x : Variable = record { text = v.0; kind = v.1 } in x)) vs))) rs
plain-alone vs [] h = tt
plain-alone vs (r ∷ rs) h = (
  ap (λ ks. some_node (is_undeclared_variable ks) (plain all_kept r.args)) (sym (map-twice vs)) ∙ plain-stray (map (λ v. v.1) vs) r.args ∙ h.0,
  plain-alone vs rs h.1,
)

bare-alone : (d : Declarations) (c : List ℕ) (a : Clause) (bs : List Clause) → AllFine (spelling (refute_line c bare a bs)) → fault_of d (refute_line c bare a bs) ≡ None
    → HasVariablesAlone (question_of d (question_meanings d (refute_line c bare a bs)) true c bare a bs [])
bare-alone d c a bs w f =
    let us : List Use = flat_map (clause_uses d) (a ∷ bs) in
    let all = variables_in us in
    let p = passes-tests d (refute_line c bare a bs) f in
    let fit = uses-in d c a bs all us (are-placed all all (λ n q h. h) p.has_asked_variables) (faultless-uses d (refute_line c bare a bs) f).1 in
    plain-alone (once all) (map (clause_reference (means d c a bs (once all))) (a ∷ bs)) (good-clauses d c a bs (once all) (a ∷ bs) (refute-scalars c bare a bs w) fit)

refute-alone : (d : Declarations) (c : List ℕ) (ps : Params) (a : Clause) (bs : List Clause) → AllFine (spelling (refute_line c ps a bs)) → fault_of d (refute_line c ps a bs) ≡ None
    → HasVariablesAlone (question_of d (question_meanings d (refute_line c ps a bs)) true c ps a bs [])
refute-alone d c ps a bs w f =
    let e : ps ≡ bare = no-params ps (passes-tests d (refute_line c ps a bs) f).refutes_bare in
    subst (λ z. AllFine (spelling (refute_line c z a bs)) → fault_of d (refute_line c z a bs) ≡ None → HasVariablesAlone (question_of d (question_meanings d (refute_line c z a bs)) true c z a bs [])) (sym e)
    (bare-alone d c a bs) w f

-- ---- texts
pub refutations-alone : RefutationsHaveVariablesAlone
refutations-alone bytes d t k q at = question-keeps Alone (λ e c ps a bs ks w f r. absurd cc) (λ e c ps a bs w f r. refute-alone e c ps a bs w f) bytes d t k q at
