-- Pairs of impls over the terms of an interner that grows.
use Rattle.std.proofs.Common.{◌≡◌, ℕ, zero, false, List, [], ◌∷◌, length, map, refl, sym, ap, ◌∙◌, subst, None, Some}
use Rattle.std.specs.Prelude.{◌≢◌}
use Rattle.type_terms.specs.Promised.Trees.{Trees, none, erase, instantiate, some_node}
use Rattle.type_terms.specs.Promised.Erased.{erased_impl}
use Rattle.type_terms.specs.Erased.{IsCovered}
use Rattle.type_terms.specs.Promised.LinkedSet.{is_stray}
use Rattle.type_terms.specs.Promised.Worlds.{Reference, ImplDecl, all_with_args}
use Rattle.type_terms.specs.Promised.Handles.{Entry, Keeps, trees_at}
use Rattle.type_terms.specs.Kinds.{args_trees}
use Rattle.type_terms.specs.declared.kinds.GenericArgs.{GenericArgs}
use Rattle.type_terms.specs.declared.kinds.GenericArgKind.{GenericArgKind}
use Rattle.type_terms.specs.Terms.{Lawful, args_lists}
use Rattle.type_terms.specs.declared.ImplId.{ImplId}
use Rattle.term_folds.specs.Arguments.{first_misfit}
use Rattle.type_terms.specs.Kept.{has-later, trees-later, args-held-later, args-trees-later}
use Rattle.term_folds.specs.declared.predicate.TraitRef.{TraitRef}
use Rattle.infer_table.specs.Solutions.{Binding, Equates, HasNoSolution}
use Rattle.infer_table.specs.Constraints.{constraints_trees}
use Rattle.infer_table.specs.Content.{Table, content, Ready, Grows}
use Rattle.infer_table.specs.Growth.{counts-kept}
use Rattle.infer_table.specs.Applied.{solved_in_turn}
use Rattle.infer_table.specs.Kept.{content-kept, ready-later}
use Rattle.infer_table.specs.Unification.{table_trees}
use Rattle.declarations.specs.Applied.{SpeaksOf, references_in, TraitRefsHeld}
use Rattle.declarations.specs.Heads.{begins_declared}
use Rattle.declarations.specs.Held.{ImplHeld}
use Rattle.declarations.specs.Items.{reference_in, impl_in}
use Rattle.declarations.specs.Promised.Elaboration.{Each}
use Rattle.declarations.specs.declared.items.ImplDef.{ImplDef}
use Rattle.declarations.proofs.Growth.{args-same, reference-same, reference-kept, references-kept}
use Rattle.declarations.proofs.Bounded.{all-same}
use Rattle.overlap_check.specs.Goals.{unknown_kinds, HasGoals, goal_of}
use Rattle.overlap_check.specs.Headers.{sorts_of_impl, unknowns_for, with_unknowns_for, AreHeaderArgs, IsHeaderOver, args_at, empty_table, pair_table, left_args, right_args, AreDisjointImpls, AreEqualHeaders, resolved_reference, goals_over}
use Rattle.overlap_check.specs.Written.{IsWrittenWell}
use Rattle.overlap_check.specs.declared.header.ImplHeader.{ImplHeader}
use Rattle.overlap_check.proofs.Pairs.{apart, has-goals}
use Rattle.overlap_check.proofs.Solved.{ready-facts}
use Rattle.overlap_check.proofs.Unknowns.{fresh-values, fresh-constraints}
use Rattle.overlap_check.proofs.Written.{fresh-sorts, held-instantiable}

-- ---- what stays as the interner grows
pub same-entries : (es : List Entry) → Keeps es es
same-entries es i e h = h

module _ (old new : List Entry) (k : Keeps old new) where
  held-each : (P : Trees → Type 0) → (rs : List TraitRef) → TraitRefsHeld old rs → Each (λ (r : TraitRef). P (trees_at old r.args.0)) rs → Each (λ (r : TraitRef). P (trees_at new r.args.0)) rs
  held-each P [] h e = tt
  held-each P (r ∷ rs) h e = (subst P (sym (args-same old new k r h.0)) e.0, held-each P rs h.1 e.1)

  abbrev with : ImplId → ImplDef → Reference → List Reference → ImplDecl
  with id def r rs = record { name = id.index; home = def.home.index; params = length def.params.items; header = r; clauses = rs }

  same-impl : (id : ImplId) (def : ImplDef) → ImplHeld old def → impl_in new id def ≡ impl_in old id def
  same-impl id def h =
      ap (λ r. with id def r (references_in new def.clauses.items)) (reference-same old new k def.header h.header)
      ∙ ap (with id def (reference_in old def.header)) (all-same old new k def.clauses.items h.clauses)

  pub well-later : (def : ImplDef) → ImplHeld old def → IsWrittenWell old def → IsWrittenWell new def
  well-later def h w =
      record {
        header = subst (SpeaksOf (sorts_of_impl def)) (sym (args-same old new k def.header h.header)) w.header;
        clauses = held-each (SpeaksOf (sorts_of_impl def)) def.clauses.items h.clauses w.clauses;
        plain_header = ap (λ t. some_node is_stray (erase t)) (args-same old new k def.header h.header) ∙ w.plain_header;
        plain_clauses = held-each (λ t. some_node is_stray (erase t) ≡ false) def.clauses.items h.clauses w.plain_clauses;
        covered = λ id. subst (λ (i : ImplDecl). IsCovered (erased_impl i)) (sym (same-impl id def h)) (w.covered id);
      }

  pub impl-later : (def : ImplDef) → ImplHeld old def → ImplHeld new def
  impl-later def h =
      record {
        header = reference-kept old new k def.header h.header;
        clauses = references-kept old new k def.clauses.items h.clauses;
        begins = ap begins_declared (args-same old new k def.header h.header) ∙ h.begins;
      }

  -- ---- each parameter has its unknown
  module _ (t : Table) (def : ImplDef) (h : ImplHeld old def) (w : IsWrittenWell old def) (a : ℕ) (e : trees_at new a ≡ unknowns_for t def) where
    fits : (x : Trees) → SpeaksOf (sorts_of_impl def) x → first_misfit (trees_at new a) x ≡ None
    fits x s = ap (λ z. first_misfit z x) e ∙ s (unknowns_for t def) (fresh-sorts t (sorts_of_impl def))

    pub header-fits : first_misfit (trees_at new a) (trees_at new def.header.args.0) ≡ None
    header-fits = fits (trees_at new def.header.args.0) (subst (SpeaksOf (sorts_of_impl def)) (sym (args-same old new k def.header h.header)) w.header)

    all-fit : (rs : List TraitRef) → Each (λ (r : TraitRef). SpeaksOf (sorts_of_impl def) (trees_at new r.args.0)) rs → Each (λ (r : TraitRef). first_misfit (trees_at new a) (trees_at new r.args.0) ≡ None) rs
    all-fit [] s = tt
    all-fit (r ∷ rs) s = (fits (trees_at new r.args.0) s.0, all-fit rs s.1)

    pub clauses-fit : Each (λ (r : TraitRef). first_misfit (trees_at new a) (trees_at new r.args.0) ≡ None) def.clauses.items
    clauses-fit = all-fit def.clauses.items (held-each (SpeaksOf (sorts_of_impl def)) def.clauses.items h.clauses w.clauses)

-- ---- headers
pub header-later : (old mid new : List Entry) → Keeps mid new → (t : Table) (def : ImplDef) (h : ImplHeader) → IsHeaderOver old t def mid h
    → args_at new h ≡ instantiate zero (unknowns_for t def) (trees_at old def.header.args.0)
header-later old mid new k t def h is = args-same mid new k h.trait_ref is.held ∙ ap (λ (r : Reference). r.args) is.is

pair-constraints : (w x : ImplDef) → (pair_table w x).constraints ≡ []
pair-constraints w x = fresh-constraints (with_unknowns_for empty_table w) (sorts_of_impl x) ∙ fresh-constraints empty_table (sorts_of_impl w)

pub pair-values : (w x : ImplDef) → (pair_table w x).values ≡ []
pair-values w x = fresh-values (with_unknowns_for empty_table w) (sorts_of_impl x) ∙ fresh-values empty_table (sorts_of_impl w)

-- it holds no terms, so it has the same trees over each interner
pub pair-trees : (w x : ImplDef) (old new : List Entry) → table_trees old (pair_table w x) ≡ table_trees new (pair_table w x)
pair-trees w x old new =
    let t = pair_table w x in
    let none_bound : (es : List Entry) → content es t.values ≡ [] = λ es. ap (content es) (pair-values w x) in
    let none_recorded : (es : List Entry) → constraints_trees es t.constraints ≡ none = λ es. ap (constraints_trees es) (pair-constraints w x) in
    ap (λ bs. record (table_trees old t) { bindings = bs }) (none_bound old ∙ sym (none_bound new))
    ∙ ap (λ cs. record (table_trees old t) { bindings = content new t.values; constraints = cs }) (none_recorded old ∙ sym (none_recorded new))

module _ (es : List Entry) (lawful : Lawful es) (w x : ImplDef) (hw : ImplHeld es w) (hx : ImplHeld es x) (ww : IsWrittenWell es w) (wx : IsWrittenWell es x) where
  -- headers of two traits
  pub traits-apart : w.header.def_id.index ≢ x.header.def_id.index → AreDisjointImpls es w x
  traits-apart n i j m = n (ap (λ (r : Reference). r.trait) m.equal)

  module _ (one two : List Entry) (k1 : Keeps es one) (k2 : Keeps one two) (a1 a2 : GenericArgs) (l1 l2 : List GenericArgKind)
      (is1 : AreHeaderArgs es empty_table w one a1 l1) (is2 : AreHeaderArgs one (with_unknowns_for empty_table w) x two a2 l2) where
    left-at : args_trees two l1 ≡ left_args es w
    left-at = args-trees-later one two k2 l1 is1.held ∙ is1.are

    right-at : args_trees two l2 ≡ right_args es w x
    right-at = is2.are ∙ ap (instantiate zero (unknowns_for (with_unknowns_for empty_table w) x)) (args-same es one k1 x.header hx.header)

    -- headers that cannot be made equal
    pub pair-apart : HasNoSolution (content two (pair_table w x).values) (args_trees two l1) (args_trees two l2) → AreDisjointImpls es w x
    pair-apart n i j m =
        apart (impl_in es i w) (impl_in es j x) empty_table (sorts_of_impl w) (sorts_of_impl x)
        (held-instantiable es lawful i w hw ww empty_table) (held-instantiable es lawful j x hx wx (with_unknowns_for empty_table w))
        (subst (λ b. HasNoSolution [] (left_args es w) b) right-at (subst (λ a. HasNoSolution [] a (args_trees two l2)) left-at
        (subst (λ vs. HasNoSolution (content two vs) (args_trees two l1) (args_trees two l2)) (pair-values w x) n))) m

    -- headers that are made equal
    pub pair-equal : w.header.def_id.index ≡ x.header.def_id.index → (three : List Entry) → Keeps two three → (u : Table) → Ready three u → Grows (pair_table w x) u
        → Equates (content two (pair_table w x).values) (content three u.values) (args_trees two l1) (args_trees two l2)
        → solved_in_turn (table_trees two (pair_table w x)) (args_trees two l1) (args_trees two l2) ≡ Some (table_trees three u) → AreEqualHeaders es w x three u a1 a2
    pair-equal same three k3 u ready grows equates exact =
        let k23 : Keeps one three = λ j e h. k3 j e (k2 j e h) in
        record {
          ready = ready;
          grows = grows;
          left_unknowns = record {
            held = has-later one three k23 args_lists a1.0 is1.unknowns.held;
            are = trees-later one three k23 args_lists a1.0 is1.unknowns.held ∙ is1.unknowns.are;
          };
          right_unknowns = record {
            held = has-later two three k3 args_lists a2.0 is2.unknowns.held;
            are = trees-later two three k3 args_lists a2.0 is2.unknowns.held ∙ is2.unknowns.are;
          };
          left_made = record { args = l1; held = args-held-later one three k23 l1 is1.held; are = args-trees-later one three k23 l1 is1.held ∙ is1.are };
          right_made = record { args = l2; held = args-held-later two three k3 l2 is2.held; are = args-trees-later two three k3 l2 is2.held ∙ right-at };
          one_trait = same;
          equates = subst (λ b. Equates [] (content three u.values) (left_args es w) b) right-at (subst (λ a. Equates [] (content three u.values) a (args_trees two l2)) left-at
              (subst (λ vs. Equates (content two vs) (content three u.values) (args_trees two l1) (args_trees two l2)) (pair-values w x) equates));
          exact = subst (λ t. solved_in_turn t (left_args es w) (right_args es w x) ≡ Some (table_trees three u)) (pair-trees w x two three)
              (subst (λ b. solved_in_turn (table_trees two (pair_table w x)) (left_args es w) b ≡ Some (table_trees three u)) right-at
              (subst (λ a. solved_in_turn (table_trees two (pair_table w x)) a (args_trees two l2) ≡ Some (table_trees three u)) left-at exact));
        }

-- the goals of a pair whose headers are equal
pub pair-goals : (es : List Entry) → Lawful es → (w x : ImplDef) → ImplHeld es w → ImplHeld es x → IsWrittenWell es w → IsWrittenWell es x
    → (three : List Entry) (u : Table) (h1 h2 : GenericArgs) → AreEqualHeaders es w x three u h1 h2 → (new : List Entry) → Keeps three new → (i j : ImplId)
    → HasGoals (erased_impl (impl_in es i w)) (erased_impl (impl_in es j x)) (unknown_kinds u)
    (map (goal_of (content new u.values) (unknowns_for empty_table w)) (references_in es w.clauses.items))
    (map (goal_of (content new u.values) (unknowns_for (with_unknowns_for empty_table w) x)) (references_in es x.clauses.items))
pair-goals es lawful w x hw hx ww wx three u h1 h2 equal new k i j =
    has-goals (impl_in es i w) (impl_in es j x) empty_table (sorts_of_impl w) (sorts_of_impl x)
    (held-instantiable es lawful i w hw ww empty_table) (held-instantiable es lawful j x hx wx (with_unknowns_for empty_table w))
    equal.one_trait u (counts-kept (pair_table w x) u equal.grows) (content new u.values)
    (subst (λ cs. Equates [] cs (left_args es w) (right_args es w x)) (sym (content-kept three new u.values k equal.ready.held)) equal.equates) (ready-facts new u (ready-later three new u k equal.ready))

-- ---- goals
each-asked : (bs : List Binding) (I : Trees) (ks : List Reference) → map (resolved_reference bs) (all_with_args I ks) ≡ map (goal_of bs I) ks
each-asked bs I [] = refl
each-asked bs I (k ∷ ks) = ap (λ l. goal_of bs I k ∷ l) (each-asked bs I ks)

-- clauses of an impl, with unknowns in the place of parameters, are its goals
pub asked-are : (old mid put new : List Entry) → Keeps old mid → Keeps put new → (t u : Table) (def : ImplDef) → ImplHeld old def → (a : ℕ) → trees_at mid a ≡ unknowns_for t def
    → (rs : List TraitRef) → TraitRefsHeld put rs → references_in put rs ≡ all_with_args (trees_at mid a) (references_in mid def.clauses.items)
    → goals_over new u rs ≡ map (goal_of (content new u.values) (unknowns_for t def)) (references_in old def.clauses.items)
asked-are old mid put new k g t u def h a e rs held are =
    ap (map (resolved_reference (content new u.values)))
    (all-same put new g rs held ∙ are ∙ ap (λ z. all_with_args z (references_in mid def.clauses.items)) e ∙ ap (all_with_args (unknowns_for t def)) (all-same old mid k def.clauses.items h.clauses))
    ∙ each-asked (content new u.values) (unknowns_for t def) (references_in old def.clauses.items)
