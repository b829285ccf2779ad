-- What sessions leave, and sessions that begin on it.
use Rattle.std.proofs.Common.{◌≡◌, ◌≤◌, ℕ, Bool, true, false, List, [], ◌∷◌, sym, ap, ◌∙◌, subst, arith}
use Rattle.std.proofs.lemmas.List.Sums.{sum_by-cons}
use Rattle.std.specs.Prelude.{if◌then◌else◌, sum_by}
use Rattle.type_terms.specs.Promised.Handles.{Entry}
use Rattle.type_terms.specs.Terms.{Terms}
use Rattle.type_terms.specs.Promised.Worlds.{sees}
use Rattle.search_graph.specs.SearchState.{SearchState}
use Rattle.declarations.specs.Items.{Items}
use Rattle.text_language.specs.Promised.Declarations.{Declarations, NamedStruct, NamedTrait, NamedImpl, world_of}
use Rattle.text_lowering.specs.Behind.{from_difference, most_new_terms}
use Rattle.text_lowering.specs.MostTerms.{most_terms, struct_terms_seen, trait_terms_seen, impl_terms_seen}
use Rattle.goal_frames.specs.Stores.{limit_of}
use Rattle.solver_graph.specs.Contexts.{IsReady as IsReadyContext}
use Rattle.solver_graph.specs.declared.context.SolverCx.{SolverCx}
use Rattle.candidate_assembly.specs.Ready.{AreReadyDeclarations}
use Rattle.candidate_assembly.specs.declared.solver.Solver.{Solver}
use Rattle.sessions.specs.declared.seen_view.SeenView.{SeenView}
use Rattle.sessions.specs.Resting.{Cached}
use Rattle.sessions.specs.SeenViews.{IsViewOf}
use Rattle.sessions.specs.Sessions.{IsSessionWithin}
use Rattle.sessions.specs.Promised.Subjects.{IsOfText}
use Rattle.sessions.proofs.Keeping.{solves-view, solves-seen, solver-rests-first}

-- ---- what is new is made no more terms than all that is seen
rest-fewer : {A : Type 0} (p q : A → Bool) (f : A → ℕ) (xs : List A) → sum_by f (from_difference p q xs) ≤ sum_by f xs
rest-fewer p q f [] = let le : 0 ≤ 0 = omega arith in le
rest-fewer p q f (x ∷ xs) = by (p x) (q x) (rest-fewer p q f xs)
  where
    fewer : sum_by f (from_difference p q xs) ≤ sum_by f xs → sum_by f (from_difference p q xs) ≤ sum_by f (x ∷ xs)
    fewer h = let e = sum_by-cons f x xs in omega (arith, h, e)

    all : sum_by f (x ∷ xs) ≤ sum_by f (x ∷ xs)
    all = omega arith

    by : (a b : Bool) → sum_by f (from_difference p q xs) ≤ sum_by f xs
        → sum_by f (if a then (if b then from_difference p q xs else x ∷ xs) else (if b then x ∷ xs else from_difference p q xs)) ≤ sum_by f (x ∷ xs)
    by true true h = fewer h
    by true false h = all
    by false true h = all
    by false false h = fewer h

pub new-are-fewer : (d : Declarations) (c e : ℕ) → most_new_terms d c e ≤ most_terms d c
new-are-fewer d c e =
    let structs = rest-fewer (λ (s : NamedStruct). sees (world_of d) c s.item.home) (λ s. sees (world_of d) e s.item.home) (struct_terms_seen d c) d.structs in
    let traits = rest-fewer (λ (t : NamedTrait). sees (world_of d) c t.item.home) (λ t. sees (world_of d) e t.item.home) (trait_terms_seen d c) d.traits in
    let impls = rest-fewer (λ (i : NamedImpl). sees (world_of d) c i.item.home) (λ i. sees (world_of d) e i.item.home) (impl_terms_seen d c) d.impls in
    omega (arith, structs, traits, impls)

-- ---- a session begins on it
pub ready-by : (es fs : List Entry) (x y : Items) → fs ≡ es → y ≡ x → AreReadyDeclarations es x → AreReadyDeclarations fs y
ready-by es fs x y terms by r = subst (λ z. AreReadyDeclarations z y) (sym terms) (subst (AreReadyDeclarations es) (sym by) r)

pub session-on : (d : Declarations) (depth handles : ℕ) (view : SeenView) → IsOfText d → IsViewOf d view.crate_id.index handles view → (cx : SolverCx Solver) → cx.interner ≡ view.interner → cx.handler.declarations ≡ view.declarations
    → IsReadyContext (λ (h : Solver) es. AreReadyDeclarations es h.declarations) cx → limit_of cx.store ≡ handles
    → (graph : SearchState) (cache : Cached) → graph ≡ record { root_depth = depth; current_depth = 0; frames = 0; limits_met = false; spent = 0 } → cache ≡ [] → IsSessionWithin d view.crate_id.index depth handles cx graph cache
session-on d depth handles view text is cx same by ready kept graph cache begun none =
    let c = view.crate_id.index in
    let es = view.interner.entries in
    let terms = ap (λ (t : Terms). t.entries) same in
    record {
      session = record {
        text = text;
        declared = is.declared;
        view = solves-view d c es view.declarations cx terms by is.seen.written is.rules is.local;
        solving = solves-seen d c es view.declarations cx terms by is.seen is.local;
        rest = solver-rests-first depth cx graph cache begun none ready;
      };
      limits = record { terms = ap (λ (t : Terms). t.limit) same ∙ is.limit; kept = kept };
    }
