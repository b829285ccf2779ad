-- The laws of the operations of a frame's table: they allow nothing new, and lose nothing that satisfies what is added.
use Rattle.std.proofs.Common.{◌≡◌, ℕ, Bool, true, false, List, [], ◌∷◌, map, refl, sym, ◌∙◌, ap, subst, Option, Some, if◌then◌else◌, ◌⊎◌, inl, inr}
use Rattle.std.specs.Prelude.{option_map}
use Rattle.type_terms.specs.Promised.Trees.{Trees}
use Rattle.infer_table.specs.Canonical.{goal_leaves}
use Rattle.infer_table.specs.Solutions.{Assignment, IsSorted}
use Rattle.infer_table.specs.Unification.{TableTrees}
use Rattle.infer_table.specs.declared.canonical.CanonicalVarKind.{CanonicalVarKind}
use Rattle.infer_table.specs.Values.{filled_values}
use Rattle.infer_table.specs.Responses.{AnswerTrees}
use Rattle.infer_table.specs.Applied.{with_constraints, applied}
use Rattle.goal_evaluator.specs.Lists.{Every}
use Rattle.goal_evaluator.specs.Table.{Narrows, Goes}
use Rattle.goal_evaluator.specs.Content.{Values, ChosenTerms, reading_of, UnknownStands}
use Rattle.goal_evaluator.specs.Equations.{AreOne, Hold}
use Rattle.goal_evaluator.specs.FrameTables.{FrameTable, IsMadeFrame, good_in, Allows, AllowsApart, Nested, goal_in, values_at, in_turn, Equation, EquationIsMet, labels_from, recorded_content, pairs_in}
use Rattle.goal_evaluator.specs.TableAnswers.{ArePicked, IsInstanceOfAnswer, is_fitting_answer, put_into, originals_of}
use Rattle.goal_evaluator.specs.TableOperations.{apply, begin, equate, recorded, with_content}
use Rattle.goal_evaluator.specs.Widths.{TableWithin}
use Rattle.goal_evaluator.proofs.Reading.{same-map}
use Rattle.goal_evaluator.proofs.TableBeginning.{begin-made, terms_for, values-sorted, given-values}
use Rattle.goal_evaluator.proofs.Fresh.{recorded-made}
use Rattle.goal_evaluator.proofs.Equating.{equations-narrow, in-turn-keeps, is-apart, lifetimes-good, made-in-turn, pair-reads, pairs-terms, with-content-is, further-apart}
use Rattle.goal_evaluator.proofs.Applying.{all-agree, better_in, extended-sorted, for-bindings, further, further-holds, further-map, goal-leaves, grown-made, grown_of, is-left, known_in, opens, pairs-made, pairs-one, put-cases, put-made, todo, turned, turns, values_in, with_unknowns}
use Rattle.goal_evaluator.specs.Tables.{frame_tables}
use Rattle.type_terms.proofs.NumberBasics.{zero-first as zero-plus}

-- ---- the table with which a frame begins
-- the variables with which a frame begins can have all values
pub begins-free : (kinds : List CanonicalVarKind) (v : Values) → (s : ChosenTerms) × Allows (begin kinds) s × (s.own ≡ v)
begins-free kinds v =
    let s = terms_for kinds v in (
      s,
      record {
        made = begin-made kinds;
        sorted = values-sorted kinds v.terms;
        hold = tt;
        slots = same-map (record { own = v; slots = []; unknowns = s.unknowns; proper = true }) s refl refl (labels_from 0 0 0 0 kinds);
        own = given-values kinds v;
        proper = refl;
      },
      refl,
    )

pub begins-within : (n : ℕ) (kinds : List CanonicalVarKind) → TableWithin n (begin kinds)
begins-within n kinds = record { made = begin-made kinds; values = tt }

-- ---- a table with other content
-- it allows the terms if they hold in it
allows-with : (t : FrameTable) (c d : TableTrees) (s : ChosenTerms) → IsMadeFrame (with_content t d) → Hold s d → Allows (with_content t c) s → Allows (with_content t d) s
allows-with t c d s m h a = record { made = m; sorted = a.sorted; hold = h; slots = a.slots; own = a.own; proper = a.proper }

-- what is left was not refused, and allows terms with other unknowns that hold in it and are read alike
goes-on : (t : FrameTable) (s : ChosenTerms) (u : Assignment) (o : Option TableTrees) (c : TableTrees) → AllowsApart t s → o ≡ Some c → IsMadeFrame (with_content t c) → IsSorted u → Hold (with_unknowns s u) c
    → map (reading_of s) t.labels ≡ map (reading_of (with_unknowns s u)) t.labels → Goes frame_tables t s (option_map (with_content t) o)
goes-on t s u o c h is made sorted hold same = record {
  table = with_content t c;
  assignment = with_unknowns s u;
  is = ap (option_map (with_content t)) is;
  allows = record {
    allowed = record { made = made; sorted = sorted; hold = hold; slots = h.allowed.slots ∙ same; own = h.allowed.own; proper = h.allowed.proper };
    apart = h.apart;
    fit = h.fit;
  };
  extends = record { own = refl; known = λ n k. (tt, refl) };
}

-- ---- constraints on lifetimes
pub recorded_narrows : (t : FrameTable) (c : Trees) → IsMadeFrame t → Narrows frame_tables t (recorded t c)
recorded_narrows t c m = record { made = recorded-made t m c; allows = λ s a. allows-with t (recorded_content t c) t.content s m a.hold a }

pub recorded_keeps : (t : FrameTable) (c : Trees) (s : ChosenTerms) → AllowsApart t s → Goes frame_tables t s (Some (recorded t c))
recorded_keeps t c s h = goes-on t s s.unknowns (Some (recorded_content t c)) (recorded_content t c) h refl (recorded-made t h.allowed.made c) h.allowed.sorted h.allowed.hold refl

-- ---- equations
met-all : (t : FrameTable) (s : ChosenTerms) → Allows t s → (es : List Equation) → Every (AreOne s) (pairs_in t es) → Every (λ e. EquationIsMet e s) es
met-all t s a [] h = tt
met-all t s a (e ∷ es) h = ((pair-reads t s a e).0 h.0, met-all t s a es h.1)

one-all : (t : FrameTable) (s : ChosenTerms) → Allows t s → (es : List Equation) → Every (λ e. EquationIsMet e s) es → Every (AreOne s) (pairs_in t es)
one-all t s a [] h = tt
one-all t s a (e ∷ es) h = ((pair-reads t s a e).1 h.0, one-all t s a es h.1)

-- what is left narrows, and its terms meet the equations
equated-is : (t u : FrameTable) (es : List Equation) → IsMadeFrame t → equate t es ≡ Some u → Narrows frame_tables t u × ((s : ChosenTerms) → Allows u s → Every (λ e. EquationIsMet e s) es)
equated-is t u es m e =
    let x = with-content-is t (in_turn (pairs_in t es) t.content) u e in
    let y = λ (s : ChosenTerms) (a : Allows (with_content t x.0) s). (equations-narrow t m es x.0 x.1).only s a.hold in
    let z = λ (s : ChosenTerms) (a : Allows (with_content t x.0) s). allows-with t x.0 t.content s m (y s a).0 a in
    subst (λ v. Narrows frame_tables t v × ((s : ChosenTerms) → Allows v s → Every (λ e. EquationIsMet e s) es)) x.2
    (record { made = made-in-turn t m es x.0 x.1; allows = λ s a. z s a }, λ s a. met-all t s (z s a) es (y s a).1)

pub equate_narrows : (t u : FrameTable) (es : List Equation) → IsMadeFrame t → equate t es ≡ Some u → Narrows frame_tables t u
equate_narrows t u es m e = (equated-is t u es m e).0

pub equate_meets : (t u : FrameTable) (es : List Equation) → IsMadeFrame t → equate t es ≡ Some u → (s : ChosenTerms) → Allows u s → Every (λ e. EquationIsMet e s) es
equate_meets t u es m e = (equated-is t u es m e).1

pub equate_keeps : (t : FrameTable) (es : List Equation) (s : ChosenTerms) → AllowsApart t s → Every (λ e. EquationIsMet e s) es → Goes frame_tables t s (equate t es)
equate_keeps t es s h m =
    let made = h.allowed.made in
    let x = in-turn-keeps (good_in t) (lifetimes-good t.kinds t.content.ty_vars t.content.const_vars) (pairs_in t es) t.content s made.table (pairs-terms t made es) (is-apart t s h) h.allowed.hold (one-all t s h.allowed es m) in
    goes-on t s s.unknowns (in_turn (pairs_in t es) t.content) x.0 h x.1 (made-in-turn t made es x.0 x.1) h.allowed.sorted x.2 refl

-- ---- answers
pub apply_narrows : (t u : FrameTable) (n : Nested) (a : AnswerTrees) → IsMadeFrame t → apply t n a ≡ Some u → Narrows frame_tables t u
apply_narrows t u n a m e =
    let x = with-content-is t (put_into t.content (originals_of t n) a) u e in
    subst (Narrows frame_tables t) x.2 (record { made = put-made t m n a x.0 x.1; allows = λ s h. by x.0 s h (put-cases t.content (originals_of t n) a x.0 x.1) })
  where
    by : (c : TableTrees) (s : ChosenTerms) → Allows (with_content t c) s → ((is_fitting_answer (originals_of t n) a ≡ true) × (applied t.content (originals_of t n) a ≡ Some c)) ⊎ (t.content ≡ c) → Allows t s
    by c s h (inl x) =
        let y = is-left t m n a x.0 c x.1 in
        let hold : Hold s y.before = subst (Hold s) (sym y.is) h.hold in
        allows-with t c t.content s m (subst (Every (UnknownStands s)) (for-bindings (known_in t m n a x.0) t.content 0 a.kinds) ((turned t m n a x.0 y.before y.solved).only s hold).0) h
    by c s h (inr x) = allows-with t c t.content s m (subst (Hold s) (sym x) h.hold) h

answer-keeps : (t : FrameTable) (n : Nested) (a : AnswerTrees) → is_fitting_answer (originals_of t n) a ≡ true → (s : ChosenTerms) → AllowsApart t s → IsInstanceOfAnswer a (values_at t n s) → Goes frame_tables t s (apply t n a)
answer-keeps t n a e s h g =
    let made = h.allowed.made in
    let ls = goal_leaves (goal_in t n) in
    let theirs = goal-leaves t made n in
    let q = g.0 in
    let known = known_in t made n a e in
    let grown = grown_of t made n a e in
    let r = further t s q known a.kinds in
    let sorted : IsSorted r.unknowns = extended-sorted s.unknowns q known t.content 0 a.kinds h.allowed.sorted g.1 in
    let picks : ArePicked q a.values (map (reading_of r) ls) = subst (ArePicked q a.values) (sym (further-map t s q known a.kinds ls theirs)) g.2 in
    let ones = pairs-one t.kinds t.content ls theirs a e r q sorted (all-agree r q ls a.values picks) (λ k i x. x.stands s.unknowns q ∙ ap (q k) (zero-plus i)) in
    let hold : Hold r grown = subst (Every (UnknownStands r)) (sym (for-bindings known t.content 0 a.kinds)) (further-holds t s q known a.kinds t.content.bindings made.table.values h.allowed.hold) in
    let x = in-turn-keeps (better_in t made n a e) (opens t made n a e) (todo t made n a e) grown r (grown-made t.kinds t.content ls theirs a e made.table) (pairs-made t.kinds t.content ls theirs a e)
    (further-apart t s r grown.ty_vars grown.const_vars h refl sorted) hold ones in
    let left = with_constraints (filled_values (values_in t made n a e) a.constraints) x.0 in
    let put : put_into t.content (originals_of t n) a ≡ Some left =
    ap (λ b. if b then applied t.content (originals_of t n) a else Some t.content) e
    ∙ ap (option_map (with_constraints (filled_values (values_in t made n a e) a.constraints))) (turns t.kinds t.content ls theirs a e grown ∙ x.1) in
    goes-on t s r.unknowns (put_into t.content (originals_of t n) a) left h put (put-made t made n a left put) sorted x.2 (sym (further-map t s q known a.kinds t.labels made.leaves))

-- another answer changes nothing
other-keeps : (t : FrameTable) (n : Nested) (a : AnswerTrees) → is_fitting_answer (originals_of t n) a ≡ false → (s : ChosenTerms) → AllowsApart t s → Goes frame_tables t s (apply t n a)
other-keeps t n a e s h =
    goes-on t s s.unknowns (put_into t.content (originals_of t n) a) t.content h (ap (λ b. if b then applied t.content (originals_of t n) a else Some t.content) e) h.allowed.made h.allowed.sorted h.allowed.hold refl

pub apply_keeps : (t : FrameTable) (n : Nested) (a : AnswerTrees) (s : ChosenTerms) → AllowsApart t s → IsInstanceOfAnswer a (values_at t n s) → Goes frame_tables t s (apply t n a)
apply_keeps t n a s h g = by (is_fitting_answer (originals_of t n) a) refl
  where
    by : (b : Bool) → is_fitting_answer (originals_of t n) a ≡ b → Goes frame_tables t s (apply t n a)
    by true e = answer-keeps t n a e s h g
    by false e = other-keeps t n a e s h
