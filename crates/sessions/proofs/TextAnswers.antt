-- The solver answers questions without unknowns exactly, by what a crate sees of a text.
use Rattle.std.proofs.Common.{◌≡◌, ◌≤◌, ℕ, zero, suc, Bool, true, false, ◌||◌, if◌then◌else◌, List, [], ◌∷◌, ◌++◌, map, length, Option, Some, None, Ok, inl, inr, refl, sym, ◌∙◌, ap, subst}
use Rattle.std.specs.List.{list_any}
use Rattle.type_terms.specs.Promised.Answers.{SingleWay, is_bounded}
use Rattle.type_terms.specs.Promised.Label.{Label, of_type, of_const, of_lifetime, static, fn_ptr, principal, param, placeholder, infer, canonical, bound}
use Rattle.type_terms.specs.Promised.Erased.{erased_reference}
use Rattle.type_terms.specs.Promised.Trees.{Trees, none, tree, erase, erase_label, some_node}
use Rattle.type_terms.proofs.Fitting.{same-reference-sound}
use Rattle.type_terms.proofs.TermBasics.{same-references}
use Rattle.type_terms.specs.Promised.Worlds.{World, CrateDecl, Reference}
use Rattle.type_terms.specs.Promised.Proofs.{In, HasProof}
use Rattle.type_terms.specs.Promised.Rules.{by_clause, clause_rules, super_rules, same_reference, written_supertraits, strict_supertraits, strict_supertraits_within, elaborated}
use Rattle.type_terms.proofs.Supertraits.{flat-same}
use Rattle.type_terms.proofs.ProofEntries.{map-in}
use Rattle.type_terms.proofs.Members.{here, in-map, flat-in}
use Rattle.type_terms.proofs.NoHolds.{member-each}
use Rattle.type_terms.specs.Promised.Handles.{Entry}
use Rattle.infer_table.specs.Responses.{AnswerTrees}
use Rattle.infer_table.specs.Solutions.{Assignment, IsSorted}
use Rattle.infer_table.specs.declared.certainty.TypingMode.{TypingMode}
use Rattle.infer_table.specs.declared.certainty.TypingMode.TheVariants.{Coherence, PostAnalysis}
use Rattle.goal_evaluator.specs.Content.{Values, NestedQuestion, Fact, fact_of}
use Rattle.goal_evaluator.specs.Instances.{default_label}
use Rattle.goal_evaluator.specs.Law.{IsYes}
use Rattle.goal_evaluator.specs.Tables.{frame_tables}
use Rattle.goal_frames.specs.Handlers.{same_answer, applies_always}
use Rattle.goal_frames.specs.Programs.{ArePrograms}
use Rattle.goal_frames.specs.Searches.{Handles, GoalInMode}
use Rattle.goal_frames.proofs.HandlerPrograms.{handlers-are-programs}
use Rattle.declarations.specs.Promised.Elaboration.{elaborate}
use Rattle.declarations.specs.Items.{Items, written}
use Rattle.text_language.specs.Promised.Declarations as text
use Rattle.text_language.specs.Text.{TextGives}
use Rattle.candidate_model.specs.DeclaredWell.{IsDeclaredWell, is_declared_well}
use Rattle.candidate_model.specs.Facts.{clauses_of, reference_in}
use Rattle.candidate_model.specs.Meaning.{ViewMeaning, SelfTypesBegin}
use Rattle.candidate_model.proofs.DeclaredWell.{tests-tell}
use Rattle.candidate_model.proofs.ErasedCandidates.{without_lifetimes}
use Rattle.candidate_model.proofs.Stack.{elaborated-all, elaborated-only}
use Rattle.candidate_assembly.specs.Fitting.{solving_of}
use Rattle.candidate_assembly.specs.Solving.{Solving}
use Rattle.candidate_assembly.specs.SolverMeaning.{goals_by_view}
use Rattle.candidate_assembly.specs.SolverLaws.{goals-are-lawful}
use Rattle.text_lowering.specs.Ready.{AreSeen, OfTexts}
use Rattle.text_lowering.proofs.WellSeen.{texts-seen-well}
use Rattle.solver_graph.specs.Roots.{question_of, values_under}
use Rattle.solver_completeness.specs.FormedAnswers.{IsFormedGoal, AreDeclared}
use Rattle.solver_completeness.specs.FormedFacts.{Sorts, IsFormed, IsFormedFact, IsFormedView}
use Rattle.solver_completeness.specs.SolverAnswers.{solver_programs, TellsPossible}
use Rattle.solver_completeness.specs.SolverChoices.{IsElaborated}
use Rattle.solver_completeness.specs.SolverWays.{facts_beside, premises_of}
use Rattle.solver_completeness.specs.UnboundGoals.{is_unbound}
use Rattle.solver_completeness.specs.RowWays.{clause_ways}
use Rattle.solver_completeness.specs.Ways.{HasShortChains, HasOneWayWithin}
use Rattle.solver_completeness.proofs.FewWays.{HasFewWaysWithin}
use Rattle.solver_completeness.proofs.FormedAnswers.{formed-searches-are-right, formed-tells-possible}
use Rattle.solver_completeness.proofs.ModelWays.{single_way_is_decided}
use Rattle.solver_completeness.proofs.Once.{elaborated-once}
use Rattle.solver_completeness.proofs.Selecting.{hits, hits-map, once-hit}
use Rattle.solver_completeness.proofs.UnboundGoals.{unbound-are-admitted}
use Rattle.sessions.specs.Promised.Promises.{EndsWithin, HasFewRules, has_lifetimes}
use Rattle.sessions.specs.Answers.{solver_goals, IsOnlyAnswer, IsRightOf, TellsProof, AreAnsweredRight, AreAnsweredAsWritten, AreToldPossible}
use Rattle.sessions.specs.Clauses.{AddSupertraits}
use Rattle.sessions.specs.Fitting.{sorts_in, fits_in}
use Rattle.sessions.specs.Goals.{goal_of, are_fixed, IsFormedQuestion, AsksUnderClauses}
use Rattle.sessions.specs.Questions.{IsFormedAsWritten}
use Rattle.sessions.proofs.AskedGoals.{formed-question}
use Rattle.sessions.proofs.Clauses.{supertraits-prove-no-more}
use Rattle.sessions.proofs.DirectRules.{own_rules, direct_clauses, direct_under, direct_ways, others, others_under, other_ways, direct-split, without-clauses, direct-decided, decided-directly, direct-short, short-directly, direct-few, few-directly, hits-fewer}
use Rattle.sessions.proofs.DirectWays.{directly-right, directly-exact, directly-sure}
use Rattle.sessions.proofs.ElaboratedClauses.{IsFormedClause, elaborated-formed, elaborated-closed, all-are-fixed, levels-erased}
use Rattle.sessions.proofs.Fitting.{sorts-tell}
use Rattle.sessions.proofs.FormedViews.{texts-views-are-formed}
use Rattle.sessions.proofs.SeenPlainly.{seen-erased}
use Rattle.sessions.proofs.WithoutLifetimes.{FieldsAreErased, rules-same}

-- what declarations mean: the solver decides the goals that fit them
abbrev meaning_in : Solving → ViewMeaning
meaning_in s = record { view = s.view; crate = s.crate; is_sound = is_declared_well s.view }

programs : ArePrograms frame_tables (solver_programs applies_always same_answer meaning_in fits_in)
programs =
    handlers-are-programs goals_by_view goals-are-lawful

-- some terms for unknowns; none stand in these questions
some-terms : Assignment
some-terms k v = (default_label k, none)

are-sorted : IsSorted some-terms
unfolding some-terms
are-sorted of_type v = refl
are-sorted of_const v = refl
are-sorted of_lifetime v = refl

-- ---- terms without lifetimes
label-stays : (l : Label) → has_lifetimes (erase_label l) ≡ false → erase_label l ≡ l
label-stays static e = refl
label-stays (fn_ptr n) e = absurd (cc)
label-stays (principal n t) e = absurd (cc)
label-stays (param of_lifetime i) e = absurd (cc)
label-stays (placeholder of_lifetime i) e = absurd (cc)
label-stays (infer of_lifetime i) e = absurd (cc)
label-stays (canonical of_lifetime i) e = absurd (cc)
label-stays (bound of_lifetime i j) e = absurd (cc)
label-stays l e = refl

erased-stays : (t : Trees) → some_node has_lifetimes (erase t) ≡ false → erase t ≡ t
erased-stays none e = refl
erased-stays (tree l c o) e =
    let x = neither (has_lifetimes (erase_label l) || some_node has_lifetimes (erase c)) (some_node has_lifetimes (erase o)) e in
    let y = neither (has_lifetimes (erase_label l)) (some_node has_lifetimes (erase c)) x.0 in
    same-tree (label-stays l y.0) (erased-stays c y.1) (erased-stays o x.1)
  where
    neither : (a b : Bool) → (a || b) ≡ false → (a ≡ false) × (b ≡ false)
    neither false false e = (refl, refl)
    neither true b e = absurd (cc)
    neither false true e = absurd (cc)

    same-tree : {l m : Label} {c d o p : Trees} → l ≡ m → c ≡ d → o ≡ p → tree l c o ≡ tree m d p
    same-tree e f g = cc

moved : (P : List Reference → Reference → Type 0) (E F : List Reference) (r s : Reference) → E ≡ F → r ≡ s → P E r → P F s
moved P E F r s e f h = subst (λ z. P z s) e (subst (P E) f h)

module _ {C I R F : Type 0} (handles : Handles C I R F Solving (GoalInMode frame_tables solver_goals) (Option AnswerTrees)) where
  module _ (bytes : List ℕ) (d : text.Declarations) (h : TextGives bytes (Ok d)) (c : ℕ) (es : List Entry) (decls : Items) (seen : AreSeen es decls d c) where
    abbrev V : World
    V = written es decls

    abbrev sorts : Sorts
    sorts = sorts_in decls

    abbrev w : Solving
    w = solving_of es decls

    well-test : is_declared_well V ≡ true
    well-test = ap is_declared_well seen.written ∙ texts-seen-well bytes d h c

    pub well : IsDeclaredWell V
    well = tests-tell V well-test

    erased : FieldsAreErased V
    erased = subst FieldsAreErased (sym seen.written) (seen-erased d c)

    pub formed : IsFormedView V sorts
    formed = texts-views-are-formed bytes d h c es decls seen

    declared : (mode : TypingMode) → AreDeclared (meaning_in w) mode (fits_in w) is_unbound sorts
    declared mode = record { sound = well-test; well = well; formed = formed; admitted = unbound-are-admitted (meaning_in w) mode (fits_in w) sorts well (sorts-tell es decls formed) }

    module _ (E : List Reference) (r : Reference) (q : IsFormedQuestion V sorts E r) where
      abbrev asked : NestedQuestion
      asked = question_of (goal_of E r)

      abbrev values : Values
      values = values_under some-terms (goal_of E r)

      abbrev f : Fact
      f = fact_of asked values

      goal : IsFormedGoal V sorts is_unbound asked values × AsksUnderClauses E r some-terms
      goal = formed-question V sorts formed E r q some-terms are-sorted

      back : (P : List Reference → Reference → Type 0) → P (clauses_of f.goal.environment) (reference_in f) → P (map erased_reference E) (erased_reference r)
      back P h = moved P (clauses_of f.goal.environment) (map erased_reference E) (reference_in f) (erased_reference r) goal.1.clauses goal.1.reference h

      there : (P : List Reference → Reference → Type 0) → P (map erased_reference E) (erased_reference r) → P (clauses_of f.goal.environment) (reference_in f)
      there P h = moved P (map erased_reference E) (clauses_of f.goal.environment) (erased_reference r) (reference_in f) (sym goal.1.clauses) (sym goal.1.reference) h

    pub answered-right : AreAnsweredRight handles es decls
    answered-right E r q n limit l single a only =
        back E r q (λ F s. IsRightOf V F s a)
        (formed-searches-are-right applies_always same_answer meaning_in fits_in handles programs w sorts is_unbound (declared PostAnalysis) n limit (asked E r q) (values E r q) a l (goal E r q).0 (there E r q (SingleWay n V) single) only)

    pub told-possible : AreToldPossible handles es decls
    told-possible r q n limit l bounded a only =
        back [] r q (λ F s. TellsPossible V decls.local n s a)
        (formed-tells-possible applies_always same_answer meaning_in fits_in handles programs w sorts is_unbound (declared Coherence) n limit (asked [] r q) (values [] r q) a l (goal [] r q).0 (goal [] r q).1.clauses
        (there [] r q (λ F s. is_bounded n V decls.local s ≡ true) bounded) only)

    -- ---- under where-clauses with all their supertraits, by the clauses as they are written
    module _ (E : List Reference) (r : Reference) (q : IsFormedAsWritten V sorts E r) where
      abbrev all : List Reference
      all = elaborate V E

      abbrev own : List Reference
      own = map erased_reference E

      abbrev more : List Reference
      more = map erased_reference all

      each : (x : Reference) → In x E → IsFormedClause V sorts x
      each x i = record { fixed = member-each (λ (y : Reference). are_fixed y.args) E x q.clauses i; fit = q.fit x i }

      closed : IsElaborated V more
      closed = elaborated-closed V sorts well formed E each

      with-all : IsFormedQuestion V sorts all r
      with-all = q.asked all (all-are-fixed V sorts well formed E each all (elaborated-formed V sorts well formed E each)) closed

      levels : elaborated V own ≡ map erased_reference (elaborated V E)
      levels = levels-erased V sorts well formed E each

      all-levels : (x : Reference) → In x all → In x (elaborated V E)
      all-levels x i = elaborated-only V well.rank well.acyclic E x i

      adds : AddSupertraits V own more
      adds x i =
          let m = map-in erased_reference all x i in
          subst (λ zs. In x zs) (sym levels) (subst (λ z. In z (map erased_reference (elaborated V E))) m.2 (in-map erased_reference (elaborated V E) m.0 (all-levels m.0 m.1)))

      own-level : (xs : List Reference) (x : Reference) → In x xs → In x (elaborated V xs)
      own-level xs x i = flat-in (λ s. s ∷ strict_supertraits V s) xs x x i (here x (strict_supertraits V x))

      holds : AddSupertraits V more own
      holds x i =
          let m = map-in erased_reference E x i in
          own-level more x (subst (λ z. In z more) m.2 (in-map erased_reference all m.0 (elaborated-all V well.rank well.acyclic E m.0 (own-level E m.0 m.1))))

      no-more : (x : Reference) → HasProof V more x → HasProof V own x
      no-more x p = supertraits-prove-no-more V well.rank well.acyclic own more adds x p

      no-less : (x : Reference) → HasProof V own x → HasProof V more x
      no-less x p = supertraits-prove-no-more V well.rank well.acyclic more own holds x p

      no-more-clauses : (x : Reference) → hits (λ s. same_reference s x) more ≤ hits (λ s. same_reference s x) (elaborated V own)
      no-more-clauses x =
          let is = λ (s : Reference). same_reference s x in
          subst (λ n. n ≤ hits is (elaborated V own)) (sym (hits-map is erased_reference all))
          (subst (λ zs. hits (λ s. is (erased_reference s)) all ≤ hits is zs) (sym levels)
          (subst (λ n. hits (λ s. is (erased_reference s)) all ≤ n) (sym (hits-map is erased_reference (elaborated V E)))
          (hits-fewer all (elaborated V E) (elaborated-once V E) all-levels (λ s. is (erased_reference s)))))

      -- where-clauses without lifetimes stand once
      lone : (x : Reference) → some_node has_lifetimes x.args ≡ false → hits (λ s. same_reference s x) more ≤ 1
      lone x e =
          subst (λ n. n ≤ 1) (sym (hits-map (λ s. same_reference s x) erased_reference all))
          (once-hit (λ y. same_reference (erased_reference y) x) all (elaborated-once V E) (λ y z p g. is-it y p ∙ sym (is-it z g)))
        where
          is-it : (y : Reference) → same_reference (erased_reference y) x ≡ true → y ≡ x
          is-it y p =
              let s = same-reference-sound (erased_reference y) x p in
              same-references y.trait y.trait y.args (erase y.args) refl (sym (erased-stays y.args (ap (λ (z : Reference). some_node has_lifetimes z.args) s ∙ e))) ∙ s

      is-decided : (n : ℕ) → SingleWay n V own (erased_reference r) → HasOneWayWithin (direct_under V more) (HasProof V more) n (erased_reference r)
      is-decided n single = direct-decided V own more closed no-more no-more-clauses n (erased_reference r) (single_way_is_decided V own n (erased_reference r) single)

      as-written : (a : Option AnswerTrees) → IsRightOf V more (erased_reference r) a → IsRightOf V own (erased_reference r) a
      as-written a (inl (p, y)) = inl (no-more (erased_reference r) p, y)
      as-written a (inr (never, e)) = inr (λ p. never (no-less (erased_reference r) p), e)

    pub answered-as-written : AreAnsweredAsWritten handles es decls
    answered-as-written E r q n limit l single a only =
        let all = elaborate V E in
        let x = with-all E r q in
        as-written E r q a
        (back all r x (λ F s. IsRightOf V F s a)
        (directly-right applies_always same_answer meaning_in fits_in handles programs w sorts is_unbound (declared PostAnalysis) V (λ f h. refl) n limit (asked all r x) (values all r x) a l (goal all r x).0
        (decided-directly V n (f all r x) (there all r x (λ F s. HasOneWayWithin (direct_under V F) (HasProof V F) n s) (is-decided E r q n single))) only))

    -- ---- and by what rules are read from, without lifetimes
    module _ (begin : SelfTypesBegin V) (cs : List CrateDecl) where
      abbrev U : World
      U = without_lifetimes V cs

      within-same : (n : ℕ) (r : Reference) → strict_supertraits_within n U r ≡ strict_supertraits_within n V r
      within-same zero r = refl
      within-same (suc n) r = flat-same (λ s. s ∷ strict_supertraits_within n U s) (λ s. s ∷ strict_supertraits_within n V s) (written_supertraits V r) (λ s i. ap (λ z. s ∷ z) (within-same n s))

      supers-same : (r : Reference) → strict_supertraits U r ≡ strict_supertraits V r
      supers-same r = within-same (length V.traits) r

      levels-same : (rs : List Reference) → elaborated U rs ≡ elaborated V rs
      levels-same rs = flat-same (λ r. r ∷ strict_supertraits U r) (λ r. r ∷ strict_supertraits V r) rs (λ r i. ap (λ z. r ∷ z) (supers-same r))

      clauses-same : (r : Reference) (k : ℕ) (ss : List Reference) → clause_rules U r k ss ≡ clause_rules V r k ss
      clauses-same r k [] = refl
      clauses-same r k (s ∷ ss) =
          let own = if same_reference s r then record { way = by_clause k; premises = [] } ∷ [] else [] in
          ap (λ zs. own ++ (super_rules r k 0 zs ++ clause_rules U r (suc k) ss)) (supers-same s) ∙ ap (λ us. own ++ (super_rules r k 0 (strict_supertraits V s) ++ us)) (clauses-same r (suc k) ss)

      direct-clauses-same : (r : Reference) (E : List Reference) → direct_clauses U r E ≡ direct_clauses V r E
      direct-clauses-same r E = ap (λ us. if list_any (λ s. same_reference s r) E then own_rules r 0 E else us) (clauses-same r 0 E)

      others-same : (r : Reference) → IsFormed V sorts r → others V r ≡ others U r
      others-same r good = sym (without-clauses V r) ∙ sym (rules-same V well begin erased cs [] r good.args.plain) ∙ without-clauses U r

      direct-same : (E : List Reference) (r : Reference) → IsFormed V sorts r → direct_under V E r ≡ direct_under U E r
      direct-same E r good =
          direct-split V E r ∙ ap (λ us. premises_of us ++ premises_of (direct_clauses V r E)) (others-same r good)
          ∙ ap (λ us. premises_of (others U r) ++ premises_of us) (sym (direct-clauses-same r E)) ∙ sym (direct-split U E r)

      ways-same : (g : Fact) → IsFormedFact V sorts g → direct_ways V g ≡ direct_ways U g
      ways-same g h = ap (facts_beside g) (direct-same (clauses_of g.goal.environment) (reference_in g) h.reference)

      others-by-same : (g : Fact) → IsFormedFact V sorts g → other_ways V g ≡ other_ways U g
      others-by-same g h = ap (λ us. facts_beside g (premises_of us)) (others-same (reference_in g) h.reference)

      module _ (E : List Reference) (r : Reference) (q : IsFormedAsWritten V sorts E r) where
        closed-so : IsElaborated U (more E r q)
        closed-so s t i j = closed E r q s t i (subst (λ zs. In t zs) (supers-same s) j)

        adds-so : AddSupertraits U (own E r q) (more E r q)
        adds-so x i = subst (λ zs. In x zs) (sym (levels-same (own E r q))) (adds E r q x i)

        holds-so : AddSupertraits U (more E r q) (own E r q)
        holds-so x i = subst (λ zs. In x zs) (sym (levels-same (more E r q))) (holds E r q x i)

        no-more-so : (x : Reference) → HasProof U (more E r q) x → HasProof U (own E r q) x
        no-more-so x p = supertraits-prove-no-more U well.rank well.acyclic (own E r q) (more E r q) adds-so x p

        no-less-so : (x : Reference) → HasProof U (own E r q) x → HasProof U (more E r q) x
        no-less-so x p = supertraits-prove-no-more U well.rank well.acyclic (more E r q) (own E r q) holds-so x p

        few-so : (x : Reference) → hits (λ s. same_reference s x) (more E r q) ≤ hits (λ s. same_reference s x) (elaborated U (own E r q))
        few-so x = subst (λ zs. hits (λ s. same_reference s x) (more E r q) ≤ hits (λ s. same_reference s x) zs) (sym (levels-same (own E r q))) (no-more-clauses E r q x)

        decided-so : (n : ℕ) → SingleWay n U (own E r q) (erased_reference r) → HasOneWayWithin (direct_under U (more E r q)) (HasProof U (more E r q)) n (erased_reference r)
        decided-so n single =
            direct-decided U (own E r q) (more E r q) closed-so no-more-so few-so n (erased_reference r) (single_way_is_decided U (own E r q) n (erased_reference r) single)

        as-written-so : (a : Option AnswerTrees) → IsRightOf U (more E r q) (erased_reference r) a → IsRightOf U (own E r q) (erased_reference r) a
        as-written-so a (inl (p, y)) = inl (no-more-so (erased_reference r) p, y)
        as-written-so a (inr (never, e)) = inr (λ p. never (no-less-so (erased_reference r) p), e)

        pub answered-by-view : (n limit : ℕ) → n ≤ limit → SingleWay n U (map erased_reference E) (erased_reference r)
            → (a : Option AnswerTrees) → IsOnlyAnswer handles (solving_of es decls) PostAnalysis limit (goal_of (elaborate V E) r) a → IsRightOf U (map erased_reference E) (erased_reference r) a
        answered-by-view n limit l single a only =
            let all = elaborate V E in
            let x = with-all E r q in
            as-written-so a
            (back all r x (λ F s. IsRightOf U F s a)
            (directly-right applies_always same_answer meaning_in fits_in handles programs w sorts is_unbound (declared PostAnalysis) U ways-same n limit (asked all r x) (values all r x) a l (goal all r x).0
            (decided-directly U n (f all r x) (there all r x (λ F s. HasOneWayWithin (direct_under U F) (HasProof U F) n s) (decided-so n single))) only))

        short-so : (n : ℕ) → EndsWithin n U (own E r q) (erased_reference r) → HasShortChains (direct_under U (more E r q)) n (erased_reference r)
        short-so n short = direct-short U (own E r q) (more E r q) closed-so no-more-so few-so n (erased_reference r) short

        few-rules-so : (n : ℕ) → HasFewRules n U (own E r q) (erased_reference r)
            → HasFewWaysWithin (direct_under U (more E r q)) (λ p. clause_ways p (more E r q)) (others_under U) (HasProof U (more E r q)) n (erased_reference r)
        few-rules-so n few = direct-few U (own E r q) (more E r q) closed-so no-more-so few-so (lone E r q) n (erased_reference r) few

        told-so : (a : Option AnswerTrees) → TellsProof (HasProof U (more E r q) (erased_reference r)) a → TellsProof (HasProof U (own E r q) (erased_reference r)) a
        told-so None never = λ p. never (no-less-so (erased_reference r) p)
        told-so (Some a) (p, bare) = (no-more-so (erased_reference r) p, bare)

        -- what has short chains is told exactly
        pub told-by-view : (n limit : ℕ) → n ≤ limit → EndsWithin n U (map erased_reference E) (erased_reference r)
            → (a : Option AnswerTrees) → IsOnlyAnswer handles (solving_of es decls) PostAnalysis limit (goal_of (elaborate V E) r) a → TellsProof (HasProof U (map erased_reference E) (erased_reference r)) a
        told-by-view n limit l short a only =
            let all = elaborate V E in
            let x = with-all E r q in
            told-so a
            (back all r x (λ F s. TellsProof (HasProof U F s) a)
            (directly-exact applies_always same_answer meaning_in fits_in handles programs w sorts is_unbound (declared PostAnalysis) U ways-same n limit (asked all r x) (values all r x) a l (goal all r x).0
            (short-directly U n (f all r x) (there all r x (λ F s. HasShortChains (direct_under U F) n s) (short-so n short))) only))

        -- and with few rules at each step a definite yes is given
        pub sure-by-view : (n limit : ℕ) → n ≤ limit → HasFewRules n U (map erased_reference E) (erased_reference r)
            → (a : Option AnswerTrees) → IsOnlyAnswer handles (solving_of es decls) PostAnalysis limit (goal_of (elaborate V E) r) a → (x : AnswerTrees) → a ≡ Some x → IsYes frame_tables (Some x)
        sure-by-view n limit l few a only =
            let all = elaborate V E in
            let x = with-all E r q in
            directly-sure applies_always same_answer meaning_in fits_in handles programs w sorts is_unbound (declared PostAnalysis) U ways-same others-by-same n limit (asked all r x) (values all r x) a l (goal all r x).0
            (few-directly U n (f all r x) (there all r x (λ F s. HasFewWaysWithin (direct_under U F) (λ p. clause_ways p F) (others_under U) (HasProof U F) n s) (few-rules-so n few))) only

  pub texts-are-answered : OfTexts (AreAnsweredRight handles)
  texts-are-answered bytes d h c es decls seen = answered-right bytes d h c es decls seen

  pub texts-tell-possible : OfTexts (AreToldPossible handles)
  texts-tell-possible bytes d h c es decls seen = told-possible bytes d h c es decls seen

  pub texts-are-answered-as-written : OfTexts (AreAnsweredAsWritten handles)
  texts-are-answered-as-written bytes d h c es decls seen = answered-as-written bytes d h c es decls seen
