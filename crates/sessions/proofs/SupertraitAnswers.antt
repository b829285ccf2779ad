-- What a search tells of the supertraits of an impl's header is right, by what the crate that asks sees of a text and by the impl's
-- where-clauses.
use Rattle.std.proofs.Common.{◌≡◌, ◌⊎◌, ◌-◌, ℕ, zero, suc, true, List, [], ◌∷◌, map, take, length, Some, inl, inr, refl, sym, ◌∙◌, ap, subst}
use Rattle.std.specs.Prelude.{slice_get}
use Rattle.type_terms.specs.Promised.Answers.{IsDeterminate}
use Rattle.type_terms.specs.Promised.Proofs.{In, Every, HasProof}
use Rattle.type_terms.specs.Promised.Rules.{strict_supertraits}
use Rattle.type_terms.specs.Promised.Supers.{opaque_reference, SupersHold}
use Rattle.type_terms.specs.Promised.Erased.{erased_reference, erased_impl}
use Rattle.type_terms.specs.Promised.Label.{Label}
use Rattle.type_terms.specs.Promised.Trees.{Trees, erase}
use Rattle.type_terms.specs.Promised.Worlds.{World, CrateDecl, Reference, ImplDecl, view_of}
use Rattle.type_terms.proofs.ProofEntries.{map-in}
use Rattle.type_terms.proofs.Members.{here, there, in-cases, in-nothing, in-map}
use Rattle.type_terms.specs.Promised.Handles.{arg_trees}
use Rattle.type_terms.specs.Made.{terms}
use Rattle.type_terms.specs.Promised.Handles.{Entry}
use Rattle.type_terms.proofs.Made.{false-true}
use Rattle.infer_table.specs.Canonical.{HasNoCanonical}
use Rattle.infer_table.specs.Content.{Table, Ready, content}
use Rattle.infer_table.proofs.ContentFacts.{valued}
use Rattle.goal_evaluator.proofs.Labels.{made-labels}
use Rattle.declarations.specs.Applied.{references_in}
use Rattle.declarations.specs.Promised.Elaboration.{elaborate, supertraits}
use Rattle.declarations.specs.Items.{Items, written}
use Rattle.text_language.specs.Promised.Declarations.{Declarations, world_of}
use Rattle.candidate_model.specs.DeclaredWell.{IsDeclaredWell}
use Rattle.candidate_model.specs.Facts.{children_of, reference_in}
use Rattle.candidate_model.proofs.ErasedCandidates.{without_lifetimes}
use Rattle.solver_graph.specs.Roots.{fact_under}
use Rattle.candidate_assembly.specs.Fitting.{solving_of}
use Rattle.candidate_assembly.specs.Solving.{Solving}
use Rattle.text_lowering.specs.Promised.SeenWorlds.{plain_reference, plain_impl, unbound_reference, stands_in}
use Rattle.text_lowering.specs.Ready.{AreSeen}
use Rattle.type_terms.specs.Promised.Questions.{filled_reference}
use Rattle.sessions.specs.Fitting.{sorts_in}
use Rattle.sessions.specs.Goals.{goal_of, is_fixed, are_fixed}
use Rattle.sessions.specs.Promised.Promises.{view_in}
use Rattle.sessions.specs.Proved.{fact_with_values}
use Rattle.sessions.specs.Proving.{IsGoalAnswered}
use Rattle.sessions.specs.Promised.Releases.{StopsIn, asked_supers, given_clauses}
use Rattle.sessions.specs.Sessions.{IsSolvingOf}
use Rattle.sessions.specs.Promised.Subjects.{IsOfText}
use Rattle.sessions.specs.Supertraits.{AreOfImpl, HasNoOwn, IsCheckedAt, IsFirstTold, IsHeaderTold, IsHeldAt, SolverTells, SupertraitsAreTold, opaque_clauses, outcome_of}
use Rattle.sessions.specs.Values.{values_in}
use Rattle.sessions.specs.declared.answers.ProveAnswer.{ProveAnswer}
use Rattle.sessions.specs.declared.answers.ProveAnswer.TheVariants.{Yes, Unproved as IsUnproved, Maybe as IsMaybe}
use Rattle.solver_graph.specs.declared.settling.Outcome.{Outcome}
use Rattle.solver_graph.specs.declared.settling.Outcome.TheVariants.{Proved, Unproved, Maybe}
use Rattle.sessions.specs.declared.supertraits.HeaderAnswer.{HeaderAnswer}
use Rattle.sessions.specs.declared.supertraits.HeaderAnswer.TheVariants.{Held, Missing, Undecided}
use Rattle.sessions.specs.declared.supertraits.SupertraitGoals.{SupertraitGoals}
use Rattle.sessions.proofs.ElaboratedClauses.{within-erased}
use Rattle.sessions.proofs.OpaqueImpls.{declared-well, formed-view, header-formed, clauses-formed, super-formed, super-as-written}
use Rattle.sessions.proofs.OpaqueTerms.{plain-opaque, reference-opaque-erased}
use Rattle.sessions.proofs.OtherAnswers.{never-unsettled, refused-unproved, resolved-stays}
use Rattle.sessions.proofs.ClosedValues.{IsGround, closing}
use Rattle.sessions.proofs.ProvedQuestions.{args-fixed, clean-fixed, filled-fixed, fixed-instance, fixed-proper, yes-proves}
use Rattle.sessions.proofs.SeenPlainly.{rules-are, seen-begin, seen-erased}
use Rattle.sessions.proofs.StrictSupertraits.{strict-among}
use Rattle.sessions.proofs.WithoutLifetimes.{FieldsAreErased, erased-is, supers-same}
use Rattle.candidate_model.specs.Meaning.{SelfTypesBegin}
use Rattle.sessions.proofs.GivenTexts.{text-given}
use Rattle.type_terms.proofs.ListBasics.{take-map}
use Rattle.candidate_model.proofs.Elaborating.{every-in as every-of}
use Rattle.sessions.proofs.HeaderChecks.{get-map}

-- ---- lists
every-in : {A : Type 0} (P : A → Type 0) (xs : List A) → Every P xs → (x : A) → In x xs → P x
every-in P [] h x i = absurd (in-nothing x i)
every-in P (y ∷ xs) h x i = by (in-cases x y xs i) (every-in P xs h.1 x)
  where
    by : (y ≡ x) ⊎ In x xs → (In x xs → P x) → P x
    by (inl e) f = subst P e h.0
    by (inr j) f = f j

in-take : {A : Type 0} (n : ℕ) (xs : List A) (x : A) → In x (take n xs) → In x xs
in-take zero xs x i = absurd (in-nothing x i)
in-take (suc n) [] x i = absurd (in-nothing x i)
in-take (suc n) (y ∷ xs) x i = by (in-cases x y (take n xs) i) (in-take n xs x)
  where
    by : (y ≡ x) ⊎ In x (take n xs) → (In x (take n xs) → In x xs) → In x (y ∷ xs)
    by (inl e) f = subst (λ z. In z (y ∷ xs)) e (here y xs)
    by (inr j) f = there x y xs (f j)

map-two : (f g h k : Reference → Reference) → ((r : Reference) → f (g r) ≡ h (k r)) → (rs : List Reference) → map f (map g rs) ≡ map h (map k rs)
map-two f g h k e [] = refl
map-two f g h k e (r ∷ rs) = two (e r) (map-two f g h k e rs)
  where
    two : {a b : Reference} {xs ys : List Reference} → a ≡ b → xs ≡ ys → a ∷ xs ≡ b ∷ ys
    two p q = cc

map-over : (f g h k : Reference → Reference) → ((r : Reference) → f (g (h r)) ≡ k r) → (rs : List Reference) → map f (map g (map h rs)) ≡ map k rs
map-over f g h k e [] = refl
map-over f g h k e (r ∷ rs) = two (e r) (map-over f g h k e rs)
  where
    two : {a b : Reference} {xs ys : List Reference} → a ≡ b → xs ≡ ys → a ∷ xs ≡ b ∷ ys
    two p q = cc

-- ---- one supertrait
module _ (d : Declarations) (text : IsOfText d) (c : ℕ) (items : List Entry) (decls : Items) (seen : AreSeen items decls d c) (local : decls.local ≡ c) (depth : ℕ) where
  abbrev s : Solving
  s = solving_of items decls

  abbrev of : IsSolvingOf d c s
  of = record { entries = items; declarations = decls; seen = seen; local = local; is = refl }

  abbrev V : World
  V = written items decls

  abbrev U : World
  U = view_in d c

  abbrev cs : List CrateDecl
  cs = (view_in d c).crates

  view-is : U ≡ without_lifetimes V cs
  view-is = ap (λ (W : World). record W { crates = cs }) (sym (rules-are items decls d c seen.written)) ∙ erased-is V (declared-well d text c items decls seen) cs

  module _ (i : ImplDecl) (stands : In i V.impls) where
    abbrev E : List Reference
    E = opaque_clauses i

    abbrev own : List Reference
    own = map erased_reference E

    abbrev header : Reference
    header = opaque_reference i.header

    module _ (r : Reference) (among : In r (supertraits V header)) where
      fixed : are_fixed r.args ≡ true
      fixed = (super-formed d text c items decls seen i stands r among).fixed

      abbrev F : List Reference
      F = elaborate V E

      abbrev refer : ℕ → Trees → Reference
      refer t x = record { trait = t; args = x }

      stays-so : (ts : List Trees) → filled_reference [] ts (erased_reference r) ≡ erased_reference r
      stays-so ts = ap (refer r.trait) (filled-fixed [] ts r.args (args-fixed r.args fixed))

      clean : HasNoCanonical r.args
      clean = clean-fixed r.args (args-fixed r.args fixed)

      asked : (fs : List Entry) (t : Table) → Ready fs t → reference_in (fact_with_values (content fs t.values) (goal_of F r)) ≡ filled_reference [] (values_in (content fs t.values) []) (erased_reference r)
      asked fs t ready =
          ap (λ z. refer r.trait (children_of (erase z)))
          (resolved-stays (content fs t.values) (valued fs t.values) (goal_of F r).predicate (λ o. absurd (false-true o), made-labels is_fixed terms r.args fixed, tt))
          ∙ sym (stays-so (values_in (content fs t.values) []))

      asked-closed : (fs : List Entry) (t : Table) (ready : Ready fs t) (ty ct : Label) (is : IsGround ty ct)
          → reference_in (fact_under (closing fs t ready ty ct is) (goal_of F r)) ≡ filled_reference [] [] (erased_reference r)
      asked-closed fs t ready ty ct is = ap (refer r.trait) (fixed-instance (closing fs t ready ty ct is) r.args (args-fixed r.args fixed)) ∙ sym (stays-so [])

      -- what it proves has a proof
      told-proved : SolverTells s depth F r Proved → HasProof U own (erased_reference r)
      told-proved t = by t.answer t.outcome t.answered
        where
          by : (a : ProveAnswer) → outcome_of a ≡ Proved → IsGoalAnswered s depth [] (goal_of F r) [] t.entries a → HasProof U own (erased_reference r)
          by (Yes values) e h =
              subst (λ x. HasProof U own x) (stays-so (map (λ v. erase (arg_trees t.entries v)) values.items))
              (yes-proves d text c items decls seen [] E r (clauses-formed d text c items decls seen i stands) clean (fixed-proper r.args fixed) asked asked-closed depth t.entries values h depth).1
          by IsUnproved e h = absurd cc
          by (IsMaybe values) e h = absurd cc

      -- and what it does not prove is not determinate
      told-unproved : SolverTells s depth F r Unproved → IsDeterminate depth U own (erased_reference r) → ⊥
      told-unproved t x = by t.answer t.outcome t.answered
        where
          by : (a : ProveAnswer) → outcome_of a ≡ Unproved → IsGoalAnswered s depth [] (goal_of F r) [] t.entries a → ⊥
          by (Yes values) e h = absurd cc
          by IsUnproved e h = refused-unproved d text c s of E r (super-as-written d text c items decls seen i stands r among) [] depth x.0.1 h x.1
          by (IsMaybe values) e h = absurd cc

      told-maybe : SolverTells s depth F r Maybe → IsDeterminate depth U own (erased_reference r) → ⊥
      told-maybe t x = by t.answer t.outcome t.answered
        where
          by : (a : ProveAnswer) → outcome_of a ≡ Maybe → IsGoalAnswered s depth [] (goal_of F r) [] t.entries a → ⊥
          by (Yes values) e h = absurd cc
          by IsUnproved e h = absurd cc
          by (IsMaybe values) e h = never-unsettled d text c s of E r (super-as-written d text c items decls seen i stands r among) [] depth x.0.1 h.0

    -- ---- all of them
    well : IsDeclaredWell V
    well = declared-well d text c items decls seen

    begin : SelfTypesBegin V
    begin = subst SelfTypesBegin (sym seen.written) (seen-begin text.0 d (text-given d text) c)

    erased : FieldsAreErased V
    erased = subst FieldsAreErased (sym seen.written) (seen-erased d c)

    supers-are : strict_supertraits U (opaque_reference (erased_reference i.header)) ≡ map erased_reference (strict_supertraits V header)
    supers-are =
        ap (strict_supertraits U) (reference-opaque-erased i.header)
        ∙ ap (λ (W : World). strict_supertraits W (erased_reference header)) view-is
        ∙ supers-same V well begin erased cs (erased_reference header)
        ∙ within-erased V (sorts_in decls) well (formed-view d text c items decls seen) (length V.traits) header (header-formed d text c items decls seen i stands)

    clauses-are : map opaque_reference (map erased_reference i.clauses) ≡ own
    clauses-are = map-two opaque_reference erased_reference erased_reference opaque_reference reference-opaque-erased i.clauses

    all-hold : Every (λ r. SolverTells s depth (elaborate V E) r Proved) (supertraits V header) → SupersHold U (erased_impl i)
    all-hold h =
        subst (λ G. Every (HasProof U G) (strict_supertraits U (opaque_reference (erased_reference i.header)))) (sym clauses-are)
        (subst (Every (HasProof U own)) (sym supers-are)
        (every-of (HasProof U own) (map erased_reference (strict_supertraits V header))
        (λ x j.
        let m = map-in erased_reference (strict_supertraits V header) x j in
        let k = strict-among V well.rank well.acyclic header m.0 m.1 in
        subst (λ z. HasProof U own z) m.2 (told-proved m.0 k (every-in (λ r. SolverTells s depth (elaborate V E) r Proved) (supertraits V header) h m.0 k)))))

    -- up to one
    before-hold : (n : ℕ) → Every (λ r. SolverTells s depth (elaborate V E) r Proved) (take n (supertraits V header)) → Every (HasProof U own) (take n (map erased_reference (supertraits V header)))
    before-hold n h =
        subst (Every (HasProof U own)) (sym (take-map erased_reference n (supertraits V header)))
        (every-of (HasProof U own) (map erased_reference (take n (supertraits V header)))
        (λ x j.
        let m = map-in erased_reference (take n (supertraits V header)) x j in
        subst (λ z. HasProof U own z) m.2
        (told-proved m.0 (in-take n (supertraits V header) m.0 m.1) (every-in (λ r. SolverTells s depth (elaborate V E) r Proved) (take n (supertraits V header)) h m.0 m.1))))

  -- ---- an impl of the text
  module _ (k : ℕ) (x : ImplDecl) (shown : In x (view_of (world_of d) c).impls) (named : x.name ≡ k) (at_home : x.home ≡ c) where
    abbrev decl : ImplDecl
    decl = plain_impl x

    stands-there : In decl V.impls
    stands-there = subst (λ (W : World). In decl W.impls) (sym seen.written) (in-map plain_impl (view_of (world_of d) c).impls x shown)

    abbrev supers : List Reference
    supers = supertraits V (opaque_reference decl.header)

    supers-asked : map erased_reference supers ≡ asked_supers d c x
    supers-asked = ap (λ (W : World). map erased_reference (supertraits W (opaque_reference (unbound_reference x.header)))) seen.written

    clauses-given : map erased_reference (opaque_clauses decl) ≡ given_clauses x
    clauses-given = map-over erased_reference opaque_reference (plain_reference (stands_in x.header.args)) (λ r. erased_reference (opaque_reference r)) (plain-opaque (stands_in x.header.args)) x.clauses

    module _ (n : ℕ) (o : Outcome) (h : IsFirstTold s depth (elaborate V (opaque_clauses decl)) supers n o)
        (never : (r : Reference) → In r supers → SolverTells s depth (elaborate V (opaque_clauses decl)) r o → IsDeterminate depth U (map erased_reference (opaque_clauses decl)) (erased_reference r) → ⊥) where
      stops : StopsIn depth d c k n
      stops = record {
        found = x;
        stands = shown;
        named = named;
        own = at_home;
        counted = h.counted;
        super = erased_reference h.super;
        at = subst (λ rs. slice_get rs (n - 1) ≡ Some (erased_reference h.super)) supers-asked (get-map erased_reference supers (n - 1) h.super h.at);
        before = subst (λ G. Every (HasProof U G) (take (n - 1) (asked_supers d c x))) clauses-given
            (subst (λ rs. Every (HasProof U (map erased_reference (opaque_clauses decl))) (take (n - 1) rs)) supers-asked (before-hold decl stands-there (n - 1) h.before));
        not_determinate = λ y. never h.super (n - 1, h.at) h.told (subst (λ G. IsDeterminate depth U G (erased_reference h.super)) (sym clauses-given) y);
      }

    erased-alone : ((i : ImplDecl) → In i V.impls → i.name ≡ k → i ≡ decl) → SupersHold U (erased_impl decl) → IsHeldAt d c k
    erased-alone alone holds j there_is of_c name =
        let m = map-in erased_impl V.impls j (subst (λ (W : World). In j W.impls) view-is there_is) in
        let e : erased_impl decl ≡ j = ap erased_impl (sym (alone m.0 m.1 (ap (λ (i : ImplDecl). i.name) m.2 ∙ name))) ∙ m.2 in
        subst (SupersHold U) e holds

    checked : ((i : ImplDecl) → In i V.impls → i.name ≡ k → i ≡ decl) → (a : HeaderAnswer) → IsHeaderTold s depth (elaborate V (opaque_clauses decl)) supers a → IsCheckedAt depth d c k a
    checked alone Held h = erased-alone alone (all-hold decl stands-there h)
    checked alone (Missing n) h = stops n Unproved h (λ r j. told-unproved decl stands-there r j)
    checked alone (Undecided n) h = stops n Maybe h (λ r j. told-maybe decl stands-there r j)

  none-held : (k : ℕ) → HasNoOwn V c k → IsHeldAt d c k
  none-held k no_own j there_is of_c name =
      let m = map-in erased_impl V.impls j (subst (λ (W : World). In j W.impls) view-is there_is) in
      absurd (no_own m.0 m.1 (ap (λ (i : ImplDecl). i.home) m.2 ∙ of_c) (ap (λ (i : ImplDecl). i.name) m.2 ∙ name))

  of-impl : (k : ℕ) (es : List Entry) (goals : SupertraitGoals) → AreOfImpl V c k es goals → (a : HeaderAnswer)
      → IsHeaderTold s depth (references_in es goals.clauses.items) (references_in es goals.supertraits.items) a → IsCheckedAt depth d c k a
  of-impl k es goals g a h =
      let m = map-in plain_impl (view_of (world_of d) c).impls g.decl (subst (λ (W : World). In g.decl W.impls) seen.written g.stands) in
      let i = plain_impl m.0 in
      checked k m.0 m.1 (ap (λ (z : ImplDecl). z.name) m.2 ∙ g.named) (ap (λ (z : ImplDecl). z.home) m.2 ∙ g.own) (λ z j e. g.alone z j e ∙ sym m.2) a
      (subst (λ G. IsHeaderTold s depth G (supertraits V (opaque_reference i.header)) a) (g.asked.clauses ∙ ap (λ z. elaborate V (opaque_clauses z)) (sym m.2))
      (subst (λ rs. IsHeaderTold s depth (references_in es goals.clauses.items) rs a) (g.asked.supertraits ∙ ap (λ (z : ImplDecl). supertraits V (opaque_reference z.header)) (sym m.2)) h))

abbrev Told : Declarations → ℕ → ℕ → ℕ → Solving → Type 0
Told d c depth k s =
    (HasNoOwn s.view c k → IsHeldAt d c k)
    × ((es : List Entry) (goals : SupertraitGoals) → AreOfImpl s.view c k es goals
    → (a : HeaderAnswer) → IsHeaderTold s depth (references_in es goals.clauses.items) (references_in es goals.supertraits.items) a → IsCheckedAt depth d c k a)

pub supertraits-are-told : SupertraitsAreTold
supertraits-are-told d text c s of depth k =
    subst (Told d c depth k) (sym of.is)
    (none-held d text c of.entries of.declarations of.seen of.local depth k, of-impl d text c of.entries of.declarations of.seen of.local depth k)
