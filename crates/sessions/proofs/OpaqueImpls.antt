-- The header and the where-clauses of an impl that a crate sees of a text without a fault, with placeholders for its parameters, and the
-- supertraits of the header: they are formed, so that these may be asked for under the clauses.
use Rattle.std.proofs.Common.{◌≡◌, ◌⊎◌, true, not, List, [], ◌∷◌, inl, inr, ◌∙◌, ap, subst}
use Rattle.type_terms.specs.Promised.Proofs.{In}
use Rattle.type_terms.specs.Promised.Supers.{opaque_reference}
use Rattle.type_terms.specs.Promised.Trees.{some_node}
use Rattle.type_terms.specs.Promised.Worlds.{World, Reference, ImplDecl}
use Rattle.type_terms.proofs.ProofEntries.{map-in}
use Rattle.type_terms.proofs.Members.{there, in-cases, in-nothing}
use Rattle.type_terms.specs.Made.{terms, is_made}
use Rattle.type_terms.specs.Promised.Handles.{Entry, trees_at}
use Rattle.type_terms.proofs.Made.{left}
use Rattle.term_folds.specs.declared.predicate.TraitRef.{TraitRef}
use Rattle.declarations.specs.Applied.{IsApplied, sorts_of}
use Rattle.declarations.specs.Promised.Elaboration.{supertraits}
use Rattle.declarations.specs.Items.{Items, reference_in, trait_at, written}
use Rattle.text_language.specs.Promised.Declarations.{Declarations}
use Rattle.candidate_model.specs.Declared.{is_counted, is_declared_leaf, are_terms}
use Rattle.candidate_model.specs.DeclaredWell.{IsDeclaredWell, is_declared_well}
use Rattle.candidate_model.proofs.DeclaredParts.{header-declared, clause-declared}
use Rattle.candidate_model.proofs.DeclaredWell.{tests-tell}
use Rattle.candidate_model.proofs.Instances.{is_bound}
use Rattle.candidate_assembly.specs.Solving.{Solving}
use Rattle.text_lowering.specs.Ready.{AreSeen}
use Rattle.text_lowering.proofs.WellSeen.{texts-seen-well}
use Rattle.solver_completeness.specs.FormedFacts.{Sorts, FitsSorts, IsFormedView}
use Rattle.sessions.specs.Fitting.{sorts_in}
use Rattle.sessions.specs.Questions.{AreFixedReferences, IsFormedAsWritten}
use Rattle.sessions.specs.Promised.Subjects.{IsOfText}
use Rattle.sessions.specs.Supertraits.{SolversImplsApply, opaque_clauses}
use Rattle.sessions.proofs.AskedGoals.{all-fixed, none-pass, fixed-unbound}
use Rattle.sessions.proofs.ClausesApply.{declared-sorts, unbound-outer}
use Rattle.sessions.proofs.ElaboratedClauses.{IsFormedClause, all-are-fixed, elaborated-formed}
use Rattle.sessions.proofs.FormedViews.{texts-views-are-formed, texts-impls-are-formed}
use Rattle.sessions.proofs.OpaqueTerms.{opaque-made, opaque-nodes, opaque-sorts}
use Rattle.sessions.proofs.SolversClauses.{applied-alike}
use Rattle.sessions.proofs.GivenTexts.{text-given}

module _ (d : Declarations) (text : IsOfText d) (c : _) (es : List Entry) (decls : Items) (seen : AreSeen es decls d c) where
  abbrev V : World
  V = written es decls

  abbrev sorts : Sorts
  sorts = sorts_in decls

  pub declared-well : IsDeclaredWell V
  declared-well = tests-tell V (ap is_declared_well seen.written ∙ texts-seen-well text.0 d (text-given d text) c)

  pub formed-view : IsFormedView V sorts
  formed-view = texts-views-are-formed text.0 d (text-given d text) c es decls seen

  opaque-formed : (r : Reference) → are_terms r.args ≡ true → FitsSorts V sorts r → IsFormedClause V sorts (opaque_reference r)
  opaque-formed r t f = record {
    fixed = opaque-made terms r.args (left (is_made is_declared_leaf terms r.args) (not (some_node is_counted r.args)) t);
    fit = record { nodes = opaque-nodes V sorts r.args f.nodes; trait = (f.trait.0, opaque-sorts r.args ∙ f.trait.1) };
  }

  module _ (i : ImplDecl) (stands : In i V.impls) where
    abbrev header : Reference
    header = opaque_reference i.header

    pub header-formed : IsFormedClause V sorts header
    header-formed = opaque-formed i.header (header-declared V declared-well.terms i stands) (texts-impls-are-formed text.0 d (text-given d text) c es decls seen i stands)

    pub clauses-formed : (x : Reference) → In x (opaque_clauses i) → IsFormedClause V sorts x
    clauses-formed x j =
        let m = map-in opaque_reference i.clauses x j in
        subst (λ r. IsFormedClause V sorts r) m.2
        (opaque-formed m.0 (clause-declared V declared-well.terms i m.0 stands m.1) (record { nodes = formed-view.clause_nodes i m.0 stands m.1; trait = formed-view.clause_traits i m.0 stands m.1 }))

    clauses-fixed : AreFixedReferences (opaque_clauses i)
    clauses-fixed = all-are-fixed V sorts declared-well formed-view (opaque_clauses i) clauses-formed (opaque_clauses i) clauses-formed

    header-alone : (x : Reference) → In x (header ∷ []) → IsFormedClause V sorts x
    header-alone x j = by (in-cases x header [] j)
      where
        by : (header ≡ x) ⊎ In x [] → IsFormedClause V sorts x
        by (inl e) = subst (λ r. IsFormedClause V sorts r) e header-formed
        by (inr k) = absurd (in-nothing x k)

    pub super-formed : (s : Reference) → In s (supertraits V header) → IsFormedClause V sorts s
    super-formed s j = elaborated-formed V sorts declared-well formed-view (header ∷ []) header-alone s (there s header (supertraits V header) j)

    -- each supertrait of the header may be asked for under the clauses
    pub super-as-written : (s : Reference) → In s (supertraits V header) → IsFormedAsWritten V sorts (opaque_clauses i) s
    super-as-written s j =
        let f = super-formed s j in
        record {
          clauses = clauses-fixed;
          fit = λ x k. (clauses-formed x k).fit;
          asked = λ F g e. record { terms = f.fixed; nodes = f.fit.nodes; trait = f.fit.trait; clauses = g; elaborated = e };
        }

    one-formed : (x : Reference) → In x (header ∷ opaque_clauses i) → IsFormedClause V sorts x
    one-formed x j = by (in-cases x header (opaque_clauses i) j)
      where
        by : (header ≡ x) ⊎ In x (opaque_clauses i) → IsFormedClause V sorts x
        by (inl e) = subst (λ r. IsFormedClause V sorts r) e header-formed
        by (inr k) = clauses-formed x k

    -- header and clauses have an argument for each parameter of their traits
    pub opaque-applied : (held : List Entry) (r : TraitRef) → In (reference_in held r) (header ∷ opaque_clauses i) → IsApplied held decls r
    opaque-applied held r j =
        let f = one-formed (reference_in held r) j in
        let t = trees_at held r.args.0 in
        record {
          sorts = declared-sorts (sorts_of t) (trait_at r.def_id.index decls.traits) f.fit.trait.1;
          closed = unbound-outer t (none-pass is_bound fixed-unbound t (all-fixed terms t f.fixed));
        }

pub solvers-impls-apply : SolversImplsApply
solvers-impls-apply d text c es decls of i stands held r j =
    let there_too : In i (written of.entries of.declarations).impls = subst (λ (s : Solving). In i s.view.impls) of.is stands in
    applied-alike es of.entries decls of.declarations of.is held r (opaque-applied d text c of.entries of.declarations of.seen i there_too held r j)
