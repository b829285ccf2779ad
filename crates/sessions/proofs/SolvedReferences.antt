-- Closed values with which the trait references of a question are proved, as solutions for the solver.
use Rattle.std.proofs.Common.{◌≡◌, ℕ, false, not, IsTrue, List, [], ◌∷◌, map, refl, sym, ap, ◌∙◌, subst}
use Rattle.type_terms.specs.Promised.Answers.{is_open, is_closed}
use Rattle.type_terms.specs.Promised.Erased.{erased_world, erased_reference}
use Rattle.type_terms.specs.Promised.Label.{Sort}
use Rattle.type_terms.specs.Promised.Proofs.{Every, HasProof}
use Rattle.type_terms.specs.Promised.Questions.{FitKinds, filled, filled_reference, is_bound_place}
use Rattle.type_terms.specs.Promised.Trees.{Trees, erase, some_node}
use Rattle.type_terms.specs.Promised.Worlds.{World, CrateDecl, Reference}
use Rattle.infer_table.specs.Applying.{unknowns_of}
use Rattle.infer_table.specs.Canonical.{CanonicalForm, canonical_form}
use Rattle.infer_table.specs.Covers.{AreKnown}
use Rattle.infer_table.specs.Solutions.{instance}
use Rattle.infer_table.specs.declared.certainty.TypingMode.TheVariants.{PostAnalysis}
use Rattle.infer_table.proofs.Covers.{same-unknowns}
use Rattle.candidate_model.specs.Meaning.{SelfTypesBegin}
use Rattle.candidate_model.specs.Solver.{SizedIsBuiltIn, SearchedAlone}
use Rattle.candidate_assembly.specs.Solving.{Solving, meaning_for}
use Rattle.overlap_check.proofs.Owning.{AreOwn}
use Rattle.text_language.specs.Promised.Declarations.{Declarations}
use Rattle.text_lowering.specs.Promised.SeenWorlds.{plainly_seen_from, unbound_reference}
use Rattle.text_lowering.specs.Plain.{unbound_references}
use Rattle.text_lowering.specs.Seen.{rules_seen_from}
use Rattle.sessions.specs.Asking.{goal_alone}
use Rattle.sessions.specs.Promised.OwnValues.{HasNoParameter}
use Rattle.sessions.specs.Promised.Promises.{view_in}
use Rattle.sessions.specs.Promised.Subjects.{IsOfText}
use Rattle.sessions.specs.Promised.Together.{filled_references}
use Rattle.sessions.specs.Sessions.{IsSolvingOf}
use Rattle.sessions.specs.Tables.{table_of}
use Rattle.sessions.proofs.CoveringValues.{own-both}
use Rattle.sessions.proofs.Given.{given}
use Rattle.sessions.proofs.GivenTexts.{text-given}
use Rattle.sessions.proofs.Instances.{first_table}
use Rattle.sessions.proofs.KeptSolutions.{IsLookedFor, IsSolvedBy}
use Rattle.sessions.proofs.Posed.{no-places}
use Rattle.sessions.proofs.ProvedQuestions.{AllGood, clean-own, known, good, proper-args}
use Rattle.sessions.proofs.QuestionTerms.{is_own, IsOwnReference}
use Rattle.sessions.proofs.Refusals.{plain-erased, same-args}
use Rattle.sessions.proofs.SeenPlainly.{rules-are, seen-begin}
use Rattle.sessions.proofs.SizedAlone.{sized-alone}
use Rattle.sessions.proofs.Unsolved.{NoPlace, filled-is, is_place, known-there, one-fine, shut-is}

-- ---- a trait reference as it is written, with variables of these kinds alone
module _ (ks : List Sort) (r : Reference) (own : IsOwnReference ks r) where
  abbrev asked : Reference
  asked = unbound_reference r

  fine : AllGood (is_own ks) asked.args
  fine = good ks [] asked own

  pub args-own : AreOwn (unknowns_of (first_table ks)) asked.args
  args-own =
      own-both (unknowns_of (first_table ks)) asked.args
      (subst (λ (m : Sort → ℕ). AreKnown m asked.args) (sym (same-unknowns [] (table_of ks))) (known-there ks asked.args (known ks asked.args fine))) (clean-own ks asked.args fine)

  module _ (alone : HasNoParameter (erased_reference r)) where
    pub no-place : NoPlace asked.args
    no-place = ap (some_node is_bound_place) (plain-erased r.args) ∙ alone

    -- closed values with which it is proved by H solve it
    module _ (values : List Trees) (fitting : FitKinds ks values) (closed : Every (λ t. IsTrue (is_closed t)) values) (H : Reference → Type 0) where
      args-are : instance (given ks values) asked.args ≡ filled ks values (erase r.args)
      args-are = filled-is ks values fitting closed asked.args fine ∙ ap (filled ks values) (plain-erased r.args)

      shut : some_node is_open (instance (given ks values) asked.args) ≡ false
      shut = shut-is ks values fitting closed asked.args fine no-place

      pub solved-by : H (filled_reference ks values (erased_reference r)) → IsSolvedBy ks (given ks values) H asked
      solved-by proved = record {
        own = args-own;
        proper = proper-args ks [] asked own;
        shut = shut;
        solution = record {
          asks = refl;
          proper = refl;
          closed = ap not shut;
          proof = subst H (sym (same-args r.trait _ _ args-are)) proved;
        };
      }

-- several of them
module _ (ks : List Sort) (values : List Trees) (fitting : FitKinds ks values) (closed : Every (λ t. IsTrue (is_closed t)) values) (H : Reference → Type 0) where
  pub all-solved : (rs : List Reference) → Every (IsOwnReference ks) rs → Every HasNoParameter (map erased_reference rs) → Every H (filled_references ks values (map erased_reference rs))
      → Every (IsSolvedBy ks (given ks values) H) (unbound_references rs)
  all-solved [] own alone h = tt
  all-solved (r ∷ rs) own alone h = (solved-by ks r own.0 alone.0 values fitting closed H h.0, all-solved rs own.1 alone.1 h.1)

-- ---- where the solver looks for solutions outside coherence
module _ (d : Declarations) (text : IsOfText d) (c : ℕ) (s : Solving) (of : IsSolvingOf d c s) where
  abbrev cs : List CrateDecl
  cs = (view_in d c).crates

  view-is : s.view ≡ plainly_seen_from d c
  view-is = ap (λ (x : Solving). x.view) of.is ∙ of.seen.written

  pub begin : SelfTypesBegin s.view
  begin = subst SelfTypesBegin (sym view-is) (seen-begin text.0 d (text-given d text) c)

  pub sized : SizedIsBuiltIn s.view
  sized = subst SizedIsBuiltIn (sym view-is) (sized-alone text.0 d (text-given d text) c)

  rules-so : erased_world s.view ≡ rules_seen_from d c
  rules-so = ap (λ (x : Solving). erased_world x.view) of.is ∙ rules-are of.entries of.declarations d c of.seen.written

  abbrev pub IsProvedThere : Reference → Type 0
  IsProvedThere r = HasProof (record (erased_world s.view) { crates = cs }) [] r

  pub there : (r : Reference) → HasProof (view_in d c) [] r → IsProvedThere r
  there r p = subst (λ (V : World). HasProof (record V { crates = cs }) [] r) (sym rules-so) p

  pub all-there : (rs : List Reference) → Every (HasProof (view_in d c) []) rs → Every IsProvedThere rs
  all-there [] h = tt
  all-there (r ∷ rs) h = (there r h.0, all-there rs h.1)

  -- it looks for those of references without parameters
  abbrev form : Reference → CanonicalForm
  form r = canonical_form (goal_alone r)

  abbrev pub searched : (r : Reference) → some_node is_place r.args ≡ false → SearchedAlone (meaning_for s (form r)) (form r)
  searched r h = record { crates = cs; begin = begin; sized_alone = sized; no_clauses = refl; no_placeholders = no-places is_place one-fine r h }

  pub looked-for : (r : Reference) → some_node is_place r.args ≡ false → IsLookedFor s PostAnalysis IsProvedThere r
  looked-for r h = (searched r h, λ f x. x)
