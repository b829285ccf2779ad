-- The goals of a pair of impls are formed, as the table of the pair resolves them.
use Rattle.std.proofs.Common.{◌≡◌, zero, true, ◌&&◌, List, [], ◌∷◌, sym, ap, ◌∙◌, subst}
use Rattle.std.specs.List.{list_all}
use Rattle.type_terms.specs.Promised.Trees.{Trees, instantiate}
use Rattle.type_terms.specs.Promised.Worlds.{World, Reference, StructDecl, TraitDecl, ImplDecl, with_args, all_with_args}
use Rattle.type_terms.specs.Promised.Proofs.{In}
use Rattle.type_terms.proofs.Members.{here, there}
use Rattle.type_terms.proofs.NoHolds.{member-each}
use Rattle.type_terms.proofs.Walking.{left, right}
use Rattle.type_terms.specs.Made.{terms, is_made}
use Rattle.type_terms.specs.Promised.Handles.{Entry, trees_at}
use Rattle.type_terms.specs.Terms.{Lawful}
use Rattle.type_terms.specs.declared.ImplId.{ImplId}
use Rattle.term_folds.specs.declared.predicate.TraitRef.{TraitRef}
use Rattle.infer_table.specs.Content.{Table, content, variables_of}
use Rattle.infer_table.specs.Solutions.{Binding, resolved}
use Rattle.infer_table.specs.Unification.{table_trees}
use Rattle.infer_table.proofs.ContentFacts.{older-sorted, valued}
use Rattle.infer_table.proofs.Kept.{turns-keep}
use Rattle.infer_table.proofs.Places.{in_terms, AllTrees, trees-of, made-of}
use Rattle.goal_evaluator.specs.Equations.{IsValue}
use Rattle.goal_evaluator.specs.Lists.{Every}
use Rattle.goal_evaluator.proofs.Resolved.{made-resolved}
use Rattle.declarations.specs.Applied.{references_in}
use Rattle.declarations.specs.Items.{reference_in, impl_in, written}
use Rattle.declarations.specs.Promised.Elaboration.{Each}
use Rattle.declarations.specs.declared.items.ImplDef.{ImplDef}
use Rattle.candidate_model.specs.Declared.{is_declared_leaf, are_terms, are_references, is_declared_view}
use Rattle.candidate_model.specs.DeclaredWell.{is_declared_well}
use Rattle.candidate_model.proofs.DeclaredWell.{tests-tell}
use Rattle.overlap_check.specs.Fresh.{HasArguments}
use Rattle.overlap_check.specs.Goals.{IsInstantiable}
use Rattle.overlap_check.specs.Headers.{sorts_of_impl, unknowns_for, with_unknowns_for, empty_table, pair_table, left_args, right_args, IsIntersection, IsSolved}
use Rattle.overlap_check.specs.declared.intersection.ImplIntersection.{ImplIntersection}
use Rattle.overlap_check.proofs.Headers.{pair-values}
use Rattle.overlap_check.proofs.Written.{held-instantiable}
use Rattle.text_lowering.specs.Promised.SeenWorlds.{plainly_seen_from}
use Rattle.text_lowering.proofs.WellSeen.{texts-seen-well}
use Rattle.solver_completeness.specs.FormedFacts.{Sorts, NodesFit, IsTraitOf, IsFormedView}
use Rattle.sessions.specs.Fitting.{sorts_in}
use Rattle.sessions.specs.Goals.{stands_free, HasFormedTerms}
use Rattle.sessions.specs.PairGoals.{IsImplOf, AreFormedOver, PairGoalsAreFormed}
use Rattle.sessions.proofs.FormedViews.{texts-views-are-formed, texts-headers-are-formed}
use Rattle.sessions.proofs.PairTerms.{fresh-are, sorts-put, nodes-put, trees-put, AllFit, IsFormedTerm, IsFormedTable, formed-kept, resolved-formed, are-values}
use Rattle.sessions.proofs.GivenTexts.{text-given}

abbrev with_terms : Reference → Trees → Reference
with_terms r t = record { trait = r.trait; args = t }

module _ (V : World) (sorts : Sorts) (view : IsFormedView V sorts) (terms_declared : is_declared_view V ≡ true) (headers : (i : ImplDecl) → In i V.impls → NodesFit V sorts i.header.args) where
  impls-declared : list_all (λ (i : ImplDecl). are_terms i.header.args && are_references i.clauses) V.impls ≡ true
  impls-declared = right (list_all (λ (x : TraitDecl). are_references x.bounds) V.traits) _ (right (list_all (λ (x : StructDecl). list_all are_terms x.fields) V.structs) _ terms_declared)

  impl-declared : (i : ImplDecl) → In i V.impls → (are_terms i.header.args && are_references i.clauses) ≡ true
  impl-declared i a = member-each (λ (y : ImplDecl). are_terms y.header.args && are_references y.clauses) V.impls i impls-declared a

  -- ---- an impl with a table's unknowns
  module _ (es : List Entry) (lawful : Lawful es) (i : ImplId) (def : ImplDef) (of : IsImplOf V es i def) (t : Table) where
    abbrev decl : ImplDecl
    decl = impl_in es i def

    abbrev I : Trees
    I = unknowns_for t def

    has-arguments : IsInstantiable I decl
    has-arguments = held-instantiable es lawful i def of.held of.written t

    term-of : (x : Trees) → HasArguments I x → NodesFit V sorts x → are_terms x ≡ true → IsFormedTerm V sorts (instantiate zero I x)
    term-of x a n h =
        let are = fresh-are t (sorts_of_impl def) in
        (nodes-put I are V sorts zero x a n, trees-put I are in_terms zero x a (trees-of is_declared_leaf terms x (left (is_made is_declared_leaf terms x) _ h)))

    pub header-term : IsFormedTerm V sorts (instantiate zero I (trees_at es def.header.args.0))
    header-term = term-of (trees_at es def.header.args.0) has-arguments.header (headers decl of.seen) (left (are_terms decl.header.args) (are_references decl.clauses) (impl-declared decl of.seen))

    clause-term : (k : Reference) → In k decl.clauses → IsFormedTerm V sorts (instantiate zero I k.args)
    clause-term k a =
        term-of k.args (has-arguments.clauses k a) (view.clause_nodes decl k of.seen a)
        (member-each (λ (r : Reference). are_terms r.args) decl.clauses k (right (are_terms decl.header.args) (are_references decl.clauses) (impl-declared decl of.seen)) a)

    -- a where-clause with the values that these have
    module _ (bs : List Binding) (values : Every (IsValue stands_free) bs) (fit : AllFit V sorts bs) where
      clause-formed : (k : Reference) → In k decl.clauses → HasFormedTerms V sorts (with_terms k (resolved bs (instantiate zero I k.args)))
      clause-formed k a =
          let x = clause-term k a in
          let y = resolved-formed V sorts bs values fit (instantiate zero I k.args) in
          record {
            terms = made-resolved stands_free bs values terms (instantiate zero I k.args) (made-of stands_free terms (instantiate zero I k.args) x.1);
            nodes = y.1 x.0;
            trait = subst (IsTraitOf V sorts k.trait) (sym (y.0 ∙ sorts-put I (fresh-are t (sorts_of_impl def)) zero k.args (has-arguments.clauses k a))) (view.clause_traits decl k of.seen a);
          }

      each-formed : (new : List Entry) (ks : List Reference) → ((k : Reference) → In k ks → In k decl.clauses) → (rs : List TraitRef) → references_in new rs ≡ all_with_args I ks
          → Each (λ (r : TraitRef). HasFormedTerms V sorts (with_terms (reference_in new r) (resolved bs (reference_in new r).args))) rs
      each-formed new [] g [] q = tt
      each-formed new [] g (r ∷ rs) q = cc
      each-formed new (k ∷ ks) g [] q = cc
      each-formed new (k ∷ ks) g (r ∷ rs) q =
          let head : reference_in new r ≡ with_args I k = cc in
          let tail : references_in new rs ≡ all_with_args I ks = cc in (
            subst (λ (z : Reference). HasFormedTerms V sorts (with_terms z (resolved bs z.args))) (sym head) (clause-formed k (g k (here k ks))),
            each-formed new ks (λ y a. g y (there y k ks a)) rs tail,
          )

  -- ---- two impls
  module _ (es : List Entry) (lawful : Lawful es) (i j : ImplId) (w x : ImplDef) (left_of : IsImplOf V es i w) (right_of : IsImplOf V es j x)
      (new : List Entry) (found : ImplIntersection) (is : IsIntersection es w x new found) (solved : IsSolved es w x new found) where
    abbrev bs : List Binding
    bs = content new found.table.values

    no-values : IsFormedTable V sorts (table_trees new (pair_table w x))
    no-values = subst (λ (z : List Binding). AllFit V sorts z × AllTrees stands_free z) (sym (ap (content new) (pair-values w x))) (tt, tt)

    table-formed : IsFormedTable V sorts (table_trees new found.table)
    table-formed =
        turns-keep (IsFormedTerm V sorts) (IsFormedTable V sorts) (formed-kept V sorts) (table_trees new (pair_table w x)) (table_trees new found.table) (left_args es w) (right_args es w x) no-values
        (header-term es lawful i w left_of empty_table) (header-term es lawful j x right_of (with_unknowns_for empty_table w)) solved.table

    all-values : Every (IsValue stands_free) bs
    all-values = are-values bs (older-sorted (variables_of found.table) bs is.ready.older) (valued new found.table.values) table-formed.1

    pub both-formed : AreFormedOver V sorts new found.table found.left.items × AreFormedOver V sorts new found.table found.right.items
    both-formed = (
      each-formed es lawful i w left_of empty_table bs all-values table-formed.0 new (references_in es w.clauses.items) (λ k a. a) found.left.items solved.left,
      each-formed es lawful j x right_of (with_unknowns_for empty_table w) bs all-values table-formed.0 new (references_in es x.clauses.items) (λ k a. a) found.right.items solved.right,
    )

-- ---- of a text
impl-there : (U V : World) → V ≡ U → (es : List Entry) (k : ImplId) (w : ImplDef) → IsImplOf U es k w → IsImplOf V es k w
impl-there U V e es k w h = record { seen = subst (λ (z : World). In (impl_in es k w) z.impls) (sym e) h.seen; held = h.held; written = h.written }

pub pair-goals-are-formed : PairGoalsAreFormed
pair-goals-are-formed d of c es lawful k j w x l r new found is solved at decls seen =
    let V = written at decls in
    let U = plainly_seen_from d c in
    let well : is_declared_well V ≡ true = ap is_declared_well seen.written ∙ texts-seen-well of.0 d (text-given d of) c in
    both-formed V (sorts_in decls) (texts-views-are-formed of.0 d (text-given d of) c at decls seen) (tests-tell V well).terms (texts-headers-are-formed of.0 d (text-given d of) c at decls seen)
    es lawful k j w x (impl-there U V seen.written es k w l) (impl-there U V seen.written es j x r) new found is solved
