-- Goals that the headers of a pair fix: what is refused is refuted, and then the pair is passed.
use Rattle.std.proofs.Common.{◌≡◌, ℕ, Bool, true, false, ◌==◌, cond, List, [], ◌∷◌, Some, None, Result, Ok, Err, refl, sym, ap, ◌∙◌, subst, inr, ◌||◌, IsTrue}
use Rattle.std.specs.Prelude.{IfOk, OnOk}
use Rattle.std.specs.HashMap.{HashMap, get_by}
use Rattle.type_terms.specs.Promised.Label.{Sort, param, placeholder, infer, canonical, bound}
use Rattle.type_terms.specs.Promised.Trees.{Trees, none, tree, erase, some_node}
use Rattle.type_terms.specs.Promised.Answers.{is_open}
use Rattle.type_terms.specs.Promised.Handles.{Entry, Has, Keeps, types, trees_at}
use Rattle.type_terms.specs.Promised.Questions.{IsRefuted}
use Rattle.type_terms.specs.Promised.Erased.{erased_world}
use Rattle.type_terms.specs.Promised.Worlds.{Reference}
use Rattle.type_terms.specs.Terms.{Lawful}
use Rattle.type_terms.specs.Kept.{has-later, trees-later}
use Rattle.type_terms.specs.declared.Fault.{Fault}
use Rattle.type_terms.specs.declared.ImplId.{ImplId}
use Rattle.type_terms.proofs.BooleanBasics.{and-both}
use Rattle.type_terms.proofs.Fitting.{child-shut, next-shut, or-no}
use Rattle.type_terms.proofs.Members.{same-number}
use Rattle.term_folds.specs.declared.predicate.TraitRef.{TraitRef}
use Rattle.infer_table.specs.Canonical.{HasNoCanonical, canonical_form}
use Rattle.infer_table.specs.Content.{Table, variables_of}
use Rattle.infer_table.specs.Covers.{AreKnown}
use Rattle.infer_table.proofs.TableFacts.{empty-ready}
use Rattle.search_graph.specs.SearchState.{SearchState}
use Rattle.declarations.specs.Apart.{is_fixed}
use Rattle.declarations.specs.Held.{ReferenceHeld}
use Rattle.declarations.specs.Items.{reference_in}
use Rattle.declarations.specs.Promised.Elaboration.{Each}
use Rattle.declarations.specs.declared.items.ImplDef.{ImplDef}
use Rattle.declarations.proofs.Fixed.{no-flags, fixed-erased}
use Rattle.goal_frames.specs.Handlers.{same_answer, applies_always}
use Rattle.solver_graph.specs.declared.context.SolverCx.{SolverCx}
use Rattle.solver_graph.specs.Contexts.{entries_of}
use Rattle.candidate_assembly.specs.declared.solver.Solver.{Solver}
use Rattle.candidate_assembly.specs.Solving.{Solving, solver_for, meaning_for}
use Rattle.overlap_check.specs.FixedClauses.{fixed_reference, IsFixedGoalIn}
use Rattle.overlap_check.specs.Headers.{IsOfTable, empty_table, resolved_reference}
use Rattle.overlap_check.specs.Partners.{IsPairAt}
use Rattle.overlap_check.specs.SessionLaws.{CoversClause}
use Rattle.overlap_check.specs.declared.fixed.FixedGoal.{FixedGoal}
use Rattle.overlap_check.proofs.FixedClauses.{fixed-shut, same-reference}
use Rattle.text_language.specs.Promised.Declarations.{Declarations}
use Rattle.sessions.specs.Checking.{HaveOwnNumbers, ArePassedAt, rules_in, solving_in}
use Rattle.sessions.specs.FixedGoals.{IsRefutedIn, is_goal, AreRefutedAsNoted, IsGoalAt, AreGoalsAt, RestsSince}
use Rattle.sessions.specs.declared.fixed_goals.FixedAnswers.{FixedAnswers}
use Rattle.pair_checks.specs.Impossible.{HasNoProofInWorlds, resolved_alone}
use Rattle.sessions.specs.Promised.Promises.{view_in}
use Rattle.sessions.specs.Resting.{Cached}
use Rattle.sessions.specs.Sessions.{IsSession, SolverRests}
use Rattle.sessions.proofs.PairChecks.{only, pair-here}
use Rattle.sessions.proofs.PairRefusals.{is_place, HasNoPlace, unproved}
use Rattle.sessions.proofs.RefutedGoals.{is-refuted}
use Rattle.sessions.proofs.SelfTypes.{self-types-begin}
use Rattle.solver_graph.proofs.Growing.{limits-further}

-- ---- what is closed has no variables and places
shut-known : (counts : Sort → ℕ) (t : Trees) → some_node is_open t ≡ false → AreKnown counts t
shut-known counts none h = tt
shut-known counts (tree (infer s i) c o) h = absurd cc
shut-known counts (tree l c o) h = (shut-known counts c (child-shut is_open l c o h), shut-known counts o (next-shut is_open l c o h))

shut-clean : (t : Trees) → some_node is_open t ≡ false → HasNoCanonical t
shut-clean none h = tt
shut-clean (tree (canonical s i) c o) h = absurd cc
shut-clean (tree l c o) h = (shut-clean c (child-shut is_open l c o h), shut-clean o (next-shut is_open l c o h))

shut-free : (t : Trees) → some_node is_open t ≡ false → HasNoPlace t
shut-free none h = refl
shut-free (tree (param s i) c o) h = absurd cc
shut-free (tree (placeholder s i) c o) h = absurd cc
shut-free (tree (infer s i) c o) h = absurd cc
shut-free (tree (canonical s i) c o) h = absurd cc
shut-free (tree (bound s k i) c o) h = absurd cc
shut-free (tree l c o) h =
    or-no (is_place l || some_node is_place c) (some_node is_place o) (or-no (is_place l) (some_node is_place c) refl (shut-free c (child-shut is_open l c o h))) (shut-free o (next-shut is_open l c o h))

-- the goal is the same once the interner has grown
pub reference-later : (old new : List Entry) → Keeps old new → (g : FixedGoal) → Has old types g.self_ty.0 → fixed_reference new g ≡ fixed_reference old g
reference-later old new k g h = same-reference g.def_id.index g.def_id.index _ _ refl (trees-later old new k types g.self_ty.0 h)

pub held-later : (old new : List Entry) → Keeps old new → (g : FixedGoal) → Has old types g.self_ty.0 → Has new types g.self_ty.0
held-later old new k g h = has-later old new k types g.self_ty.0 h

pub fixed-later : (old new : List Entry) → Keeps old new → (g : FixedGoal) → Has old types g.self_ty.0 → is_fixed (trees_at old g.self_ty.0) ≡ true → is_fixed (trees_at new g.self_ty.0) ≡ true
fixed-later old new k g h f = ap is_fixed (trees-later old new k types g.self_ty.0 h) ∙ f

-- ---- a goal that is asked, over an empty table
module _ (es : List Entry) (law : Lawful es) (g : FixedGoal) (fixed : is_fixed (trees_at es g.self_ty.0) ≡ true) (r : TraitRef) (held : ReferenceHeld es r) (is : reference_in es r ≡ fixed_reference es g) where
  args : trees_at es r.args.0 ≡ trees_at es g.self_ty.0
  args = ap (λ (x : Reference). x.args) is

  shut : some_node is_open (trees_at es r.args.0) ≡ false
  shut = ap (some_node is_open) args ∙ fixed-shut (trees_at es g.self_ty.0) fixed

  of-table : IsOfTable es empty_table r
  of-table = record { known = shut-known (variables_of empty_table) (trees_at es r.args.0) shut; clean = shut-clean (trees_at es r.args.0) shut }

  same : resolved_reference [] (reference_in es r) ≡ fixed_reference es g
  same = same-reference r.def_id.index g.def_id.index _ _ (ap (λ (x : Reference). x.trait) is) (ap erase args ∙ fixed-erased (trees_at es g.self_ty.0) (no-flags (trees_at es g.self_ty.0) fixed))

  module _ (d : Declarations) (c depth : ℕ) (cx : SolverCx Solver) (graph : SearchState) (cache : Cached) (s : IsSession d c depth cx graph cache) where
    refused-refuted : HasNoProofInWorlds (solver_for (solving_in cx)) es empty_table r → IsRefuted (view_in d c) c [] (fixed_reference es g)
    refused-refuted refused =
        subst (IsRefuted (view_in d c) c []) same
        (is-refuted d c (meaning_for (solving_in cx) (canonical_form (resolved_alone es empty_table r))) s.view.rules s.view.local [] (resolved_reference [] (reference_in es r))
        (unproved es law empty_table (empty-ready es empty_table refl) r held of-table (shut-free (trees_at es r.args.0) shut) (λ p q solves sorted more. sorted) applies_always same_answer
        (meaning_for (solving_in cx) (canonical_form (resolved_alone es empty_table r))) refused)
        (self-types-begin (entries_of cx) cx.handler.declarations s.rest.ready.handler.held))

-- what a call says of it
pub evaluated-refuted : (d : Declarations) (c depth : ℕ) (cx : SolverCx Solver) (graph : SearchState) (cache : Cached) → IsSession d c depth cx graph cache
    → (es : List Entry) → Lawful es → Keeps (entries_of cx) es → (g : FixedGoal) → Has (entries_of cx) types g.self_ty.0 → is_fixed (trees_at (entries_of cx) g.self_ty.0) ≡ true
    → (r : TraitRef) → ReferenceHeld es r → reference_in es r ≡ fixed_reference (entries_of cx) g → (t : Table) → t ≡ empty_table → (w : Solving) → w ≡ solving_in cx
    → (result : Result Bool Fault) → IfOk result (λ b. IsTrue b → HasNoProofInWorlds (solver_for w) es t r) → IfOk result (λ b. b ≡ true → IsRefutedIn d c (entries_of cx) g)
evaluated-refuted d c depth cx graph cache s es law k g held fixed r rheld is t empty w same (Err x) h = tt
evaluated-refuted d c depth cx graph cache s es law k g held fixed r rheld is t empty w same (Ok false) h = λ e. absurd cc
evaluated-refuted d c depth cx graph cache s es law k g held fixed r rheld is t empty w same (Ok true) h = λ e. record {
  held = held;
  refuted = subst (IsRefuted (view_in d c) c []) (reference-later (entries_of cx) es k g held)
      (refused-refuted es law g (fixed-later (entries_of cx) es k g held fixed) r rheld (is ∙ sym (reference-later (entries_of cx) es k g held)) d c depth cx graph cache s
      (subst (λ z. HasNoProofInWorlds (solver_for z) es empty_table r) same (subst (λ z. HasNoProofInWorlds (solver_for w) es z r) empty (h refl))));
}

-- ---- calls one after the other
pub rests-further : (n : ℕ) (c d e : SolverCx Solver) (sd se : SearchState) (kd ke : Cached) → RestsSince n c d sd kd → RestsSince sd.root_depth d e se ke → RestsSince n c e se ke
rests-further n c d e sd se kd ke f g = record {
  rest = record { empty = g.rest.empty; depth = g.rest.depth ∙ f.rest.depth; cached = g.rest.cached; ready = g.rest.ready };
  solving = g.solving ∙ f.solving;
  entries = λ i x h. g.entries i x (f.entries i x h);
  limits = limits-further c d e f.limits g.limits;
}

pub rests-here : (c : SolverCx Solver) (s : SearchState) (k : Cached) → SolverRests s.root_depth c s k → RestsSince s.root_depth c c s k
rests-here c s k r = record { rest = r; solving = refl; entries = λ i x h. h; limits = record { terms = refl; kept = refl } }

-- it is at rest for the next one
pub rests-now : (n : ℕ) (c d : SolverCx Solver) (s : SearchState) (k : Cached) → RestsSince n c d s k → SolverRests s.root_depth d s k
rests-now n c d s k f = record { empty = f.rest.empty; depth = refl; cached = f.rest.cached; ready = f.rest.ready }

-- numbers stay those of one impl alone, and a session stays one
pub numbers-stay : (c d : SolverCx Solver) → solving_in d ≡ solving_in c → HaveOwnNumbers (rules_in c) → HaveOwnNumbers (rules_in d)
numbers-stay c d e h = subst HaveOwnNumbers (sym (ap (λ (x : Solving). erased_world x.view) e)) h

-- ---- what is noted
pub none-noted : (d : Declarations) (c : ℕ) (es : List Entry) (g : FixedGoal) → None ≡ Some true → IsRefutedIn d c es g
none-noted d c es g e = absurd cc

pub refuted-later : (d : Declarations) (c : ℕ) (old new : List Entry) → Keeps old new → (g : FixedGoal) → IsRefutedIn d c old g → IsRefutedIn d c new g
refuted-later d c old new k g h = record {
  held = has-later old new k types g.self_ty.0 h.held;
  refuted = subst (IsRefuted (view_in d c) c []) (sym (reference-later old new k g h.held)) h.refuted;
}

-- equal goals are refuted alike
pub refuted-same : (d : Declarations) (c : ℕ) (es : List Entry) (g h : FixedGoal) → is_goal g h ≡ true → IsRefutedIn d c es g → IsRefutedIn d c es h
refuted-same d c es g h e r =
    let both = and-both (g.def_id.index == h.def_id.index) (g.self_ty.0 == h.self_ty.0) e in
    let trait = same-number g.def_id.index h.def_id.index both.0 in
    let ty = same-number g.self_ty.0 h.self_ty.0 both.1 in
    record {
      held = subst (Has es types) ty r.held;
      refuted = subst (IsRefuted (view_in d c) c []) (same-reference g.def_id.index h.def_id.index _ _ trait (ap (trees_at es) ty)) r.refuted;
    }

pub refuted-before : (d : Declarations) (c : ℕ) (old new : List Entry) → Keeps old new → (g : FixedGoal) → Has old types g.self_ty.0 → IsRefutedIn d c new g → IsRefutedIn d c old g
refuted-before d c old new k g held h = record { held = held; refuted = subst (IsRefuted (view_in d c) c []) (reference-later old new k g held) h.refuted }

pub noted-later : (d : Declarations) (c : ℕ) (old new : List Entry) → Keeps old new → (m : FixedAnswers) → AreRefutedAsNoted d c old m → AreRefutedAsNoted d c new m
noted-later d c old new k m h g e = refuted-later d c old new k g (h g e)

-- what holds in any case holds of a call that returns
pub always : {E A : Type 0} (P : Type 0) (r : Result A E) → P → OnOk r P
always P (Ok x) h = h
always P (Err e) h = tt

-- one more is noted
module _ {S : Type 0} (d : Declarations) (c : ℕ) (es : List Entry) (m n : HashMap FixedGoal Bool S) (g : FixedGoal) (b : Bool)
    (updates : (q : FixedGoal) → get_by (is_goal q) n ≡ cond (is_goal g q) (Some b) (get_by (is_goal q) m)) where
  pub one-noted : (b ≡ true → IsRefutedIn d c es g) → ((q : FixedGoal) → get_by (is_goal q) m ≡ Some true → IsRefutedIn d c es q)
      → (q : FixedGoal) → get_by (is_goal q) n ≡ Some true → IsRefutedIn d c es q
  one-noted now before q e = by (is_goal g q) refl (sym (updates q) ∙ e)
    where
      so : Some b ≡ Some true → b ≡ true
      so h = cc

      by : (z : Bool) → is_goal g q ≡ z → cond z (Some b) (get_by (is_goal q) m) ≡ Some true → IsRefutedIn d c es q
      by true f h = refuted-same d c es g q f (now (so h))
      by false f h = before q h

-- ---- the goals of a pair
module _ (cx : SolverCx Solver) (k j : ImplId) (w x : ImplDef) (at : IsPairAt (entries_of cx) cx.handler.declarations k j w x) (own : HaveOwnNumbers (rules_in cx)) where
  one-goal : (g : FixedGoal) → IsFixedGoalIn (entries_of cx) w x g → IsGoalAt cx k.index j.index g
  one-goal g f = record {
    held = f.held;
    fixed = f.fixed;
    covers = only (entries_of cx) cx.handler.declarations k j w x at own (λ a b. CoversClause a b [] (fixed_reference (entries_of cx) g)) (f.covers k j);
  }

  pub goals-at : (gs : List FixedGoal) → Each (IsFixedGoalIn (entries_of cx) w x) gs → AreGoalsAt cx k.index j.index gs
  goals-at [] h = tt
  goals-at (g ∷ gs) h = (one-goal g h.0, goals-at gs h.1)

-- a refuted one passes the pair
pub refuted-passes : (d : Declarations) (c depth : ℕ) (cx : SolverCx Solver) (graph : SearchState) (cache : Cached) → IsSession d c depth cx graph cache → (k j : ℕ) (g : FixedGoal) → IsGoalAt cx k j g
    → IsRefutedIn d c (entries_of cx) g → ArePassedAt (view_in d c) c k j
refuted-passes d c depth cx graph cache s k j g at refuted x y p = inr ([], fixed_reference (entries_of cx) g, at.covers x y (pair-here d c depth cx graph cache s k j x y p), refuted.refuted)
