-- An impl that a later version may add by its crate's view may be added in each linked set with this view.
use Rattle.std.proofs.Common.{◌≡◌, ℕ, Bool, true, List, [], ◌∷◌, refl, ap, sym, ◌∙◌, ◌==◌, not, if◌then◌else◌, Option, None, Some}
use Rattle.std.specs.List.{list_any}
use Rattle.type_terms.specs.Promised.Label.{Label, of_type, of_const, of_lifetime, dynamic, static, adt, value, ref, principal, auto_trait, of_trait, predicate, param, placeholder, infer, canonical, bound}
use Rattle.type_terms.specs.Promised.Trees.{Trees, none, tree}
use Rattle.type_terms.specs.Promised.Worlds.{World, Reference, StructDecl, TraitDecl, ImplDecl, structs_named, traits_named, sees, view_of}
use Rattle.type_terms.specs.Promised.Walks.{Met, local, struct_leaf, dyn_leaf, entered, struct_is, trait_is, is_home, dyn_met, visited, until_decisive, ends_local, keeps_orphan_rule}
use Rattle.type_terms.specs.Promised.Renumbering.{Renumbering, View, HoldsView, view_before, asker_in_set, renumbered_label, renumbered, renumbered_reference, renumbered_impl}
use Rattle.type_terms.specs.Promised.Versions.{begins_with_bound, label_allowed, label_shaped, well_written, sees_struct, sees_trait, in_scope, is_open_place, is_addable, Added, with_impls}
use Rattle.type_terms.specs.Promised.LinkedSet.{JoinedSet}
use Rattle.type_terms.proofs.Members.{filter-in, some-member, member-some, self-number}
use Rattle.type_terms.proofs.Walking.{left, right, both}
use Rattle.type_terms.proofs.Unseen.{OneEach, struct-there, trait-there}
use Rattle.type_terms.proofs.RenumberedTrees.{and-same}
use Rattle.type_terms.proofs.RenumberedRules.{or-same, append-same, cons-same}
use Rattle.type_terms.proofs.RenumberedAnswers.{keeps-same, addable-same, struct-same, trait-same}
use Rattle.type_terms.proofs.OtherImpls.{visited-same}
use Rattle.type_terms.proofs.ViewKnown.{struct-both, trait-both}

-- What is well written by the names of a view is so with other numbers
module _ (ρ : Renumbering) (S P S' P' : ℕ → Bool) (structs : (s : ℕ) → S s ≡ true → S' (ρ.structs.to s) ≡ true) (traits : (t : ℕ) → P t ≡ true → P' (ρ.traits.to t) ≡ true) where
  allowed-over : (l : Label) → label_allowed S P l ≡ true → label_allowed S' P' (renumbered_label ρ l) ≡ true
  allowed-over (adt s) h = structs s h
  allowed-over (principal n t) h = traits t h
  allowed-over (auto_trait t) h = traits t h
  allowed-over (predicate (of_trait t)) h = traits t h
  allowed-over l h = refl

  begins-over : (c : Trees) → begins_with_bound c ≡ true → begins_with_bound (renumbered ρ c) ≡ true
  begins-over none h = refl
  begins-over (tree (param s i) c o) h = cc
  begins-over (tree (adt s) c o) h = refl
  begins-over (tree (principal n t) c o) h = refl
  begins-over (tree (auto_trait t) c o) h = refl
  begins-over (tree (predicate k) c o) h = refl
  begins-over (tree l c o) h = refl

  shaped-over : (l : Label) (c : Trees) → label_shaped l c ≡ true → label_shaped (renumbered_label ρ l) (renumbered ρ c) ≡ true
  shaped-over dynamic c h = begins-over c h
  shaped-over (adt s) c h = refl
  shaped-over (principal n t) c h = refl
  shaped-over (auto_trait t) c h = refl
  shaped-over (predicate k) c h = refl
  shaped-over l c h = refl

  pub written-over : (t : Trees) → well_written S P t ≡ true → well_written S' P' (renumbered ρ t) ≡ true
  written-over none h = refl
  written-over (tree l c o) h =
      let h1 = right (label_allowed S P l) _ h in
      let h2 = right (label_shaped l c) _ h1 in
      both (label_allowed S' P' (renumbered_label ρ l)) _ (allowed-over l (left (label_allowed S P l) _ h))
      (both (label_shaped (renumbered_label ρ l) (renumbered ρ c)) _ (shaped-over l c (left (label_shaped l c) _ h1))
      (both (well_written S' P' (renumbered ρ c)) _ (written-over c (left (well_written S P c) _ h2)) (written-over o (right (well_written S P c) _ h2))))

-- The walks of what is well written are the same in a view and in the set
module _ (W : World) (one : OneEach W) (c : ℕ) where
  abbrev V : World
  V = view_of W c

  struct-in-view : (s : ℕ) → sees_struct W c s ≡ true → (p : StructDecl → Bool) → struct_is p V s ≡ struct_is p W s
  struct-in-view s h =
      let x = struct-there (λ x. sees W c x.home) W s h in
      (struct-both W one c s (member-some (λ (_ : StructDecl). true) (structs_named V s) x.0
      (filter-in (λ (y : StructDecl). y.name == s) V.structs x.0 (filter-in (λ (y : StructDecl). sees W c y.home) W.structs x.0 x.1 x.3) (named x.0.name s x.2)) refl)).0
    where
      named : (a b : ℕ) → a ≡ b → (a == b) ≡ true
      named a b e = ap (λ n. a == n) (sym e) ∙ self-number a

  trait-in-view : (t : ℕ) → sees_trait W c t ≡ true → (p : TraitDecl → Bool) → trait_is p V t ≡ trait_is p W t
  trait-in-view t h =
      let x = trait-there (λ x. sees W c x.home) W t h in
      (trait-both W one c t (member-some (λ (_ : TraitDecl). true) (traits_named V t) x.0
      (filter-in (λ (y : TraitDecl). y.name == t) V.traits x.0 (filter-in (λ (y : TraitDecl). sees W c y.home) W.traits x.0 x.1 x.3) (named x.0.name t x.2)) refl)).0
    where
      named : (a b : ℕ) → a ≡ b → (a == b) ≡ true
      named a b e = ap (λ n. a == n) (sym e) ∙ self-number a

  abbrev Written : Trees → Type 0
  Written t = well_written (sees_struct W c) (sees_trait W c) t ≡ true

  -- the parts of what is well written
  inner : (l : Label) (k o : Trees) → Written (tree l k o) → Written k
  inner l k o w = left (well_written (sees_struct W c) (sees_trait W c) k) _ (right (label_shaped l k) _ (right (label_allowed (sees_struct W c) (sees_trait W c) l) _ w))

  next : (l : Label) (k o : Trees) → Written (tree l k o) → Written o
  next l k o w = right (well_written (sees_struct W c) (sees_trait W c) k) _ (right (label_shaped l k) _ (right (label_allowed (sees_struct W c) (sees_trait W c) l) _ w))

  dyn-in-view : (d : Option ℕ) (k : Trees) → Written k → dyn_met V d k ≡ dyn_met W d k
  dyn-in-view d none w = refl
  dyn-in-view d (tree (principal n t) k o) w = ap (λ b. (if b then local else dyn_leaf t) ∷ []) (trait-in-view t (left (sees_trait W c t) _ w) (λ x. is_home d x.home))
  dyn-in-view d (tree l k o) w = refl

  abbrev met-struct : Bool → Bool → ℕ → List Met → List Met
  met-struct b0 b2 s xs = if b0 then local ∷ [] else if b2 then entered s ∷ xs else struct_leaf s ∷ []

  visited-in-view : (d : Option ℕ) (a : Trees) → Written a → visited V d a ≡ visited W d a
  visited-in-view d none w = refl
  visited-in-view d (tree (ref m) k o) w = append-same (visited-in-view d k (inner (ref m) k o w)) (visited-in-view d o (next (ref m) k o w))
  visited-in-view d (tree (adt s) k o) w =
      append-same
      (ap (λ b. met-struct b (struct_is (λ x. x.is_fundamental) V s) s (visited V d k)) (struct-in-view s (left (sees_struct W c s) _ w) (λ x. is_home d x.home))
      ∙ ap (λ b. met-struct (struct_is (λ x. is_home d x.home) W s) b s (visited V d k)) (struct-in-view s (left (sees_struct W c s) _ w) (λ x. x.is_fundamental))
      ∙ ap (λ z. met-struct (struct_is (λ x. is_home d x.home) W s) (struct_is (λ x. x.is_fundamental) W s) s z) (visited-in-view d k (inner (adt s) k o w)))
      (visited-in-view d o (next (adt s) k o w))
  visited-in-view d (tree dynamic k o) w = append-same (dyn-in-view d k (inner dynamic k o w)) (visited-in-view d o (next dynamic k o w))
  visited-in-view d (tree (param of_type i) k o) w = cons-same refl (visited-in-view d o (next (param of_type i) k o w))
  visited-in-view d (tree (placeholder of_type i) k o) w = cons-same refl (visited-in-view d o (next (placeholder of_type i) k o w))
  visited-in-view d (tree (infer of_type i) k o) w = cons-same refl (visited-in-view d o (next (infer of_type i) k o w))
  visited-in-view d (tree (canonical of_type i) k o) w = cons-same refl (visited-in-view d o (next (canonical of_type i) k o w))
  visited-in-view d (tree (bound of_type n i) k o) w = cons-same refl (visited-in-view d o (next (bound of_type n i) k o w))
  visited-in-view d (tree (param of_const i) k o) w = visited-in-view d o (next (param of_const i) k o w)
  visited-in-view d (tree (placeholder of_const i) k o) w = visited-in-view d o (next (placeholder of_const i) k o w)
  visited-in-view d (tree (infer of_const i) k o) w = visited-in-view d o (next (infer of_const i) k o w)
  visited-in-view d (tree (canonical of_const i) k o) w = visited-in-view d o (next (canonical of_const i) k o w)
  visited-in-view d (tree (bound of_const n i) k o) w = visited-in-view d o (next (bound of_const n i) k o w)
  visited-in-view d (tree (param of_lifetime i) k o) w = visited-in-view d o (next (param of_lifetime i) k o w)
  visited-in-view d (tree (placeholder of_lifetime i) k o) w = visited-in-view d o (next (placeholder of_lifetime i) k o w)
  visited-in-view d (tree (infer of_lifetime i) k o) w = visited-in-view d o (next (infer of_lifetime i) k o w)
  visited-in-view d (tree (canonical of_lifetime i) k o) w = visited-in-view d o (next (canonical of_lifetime i) k o w)
  visited-in-view d (tree (bound of_lifetime n i) k o) w = visited-in-view d o (next (bound of_lifetime n i) k o w)
  visited-in-view d (tree (value n) k o) w = visited-in-view d o (next (value n) k o w)
  visited-in-view d (tree static k o) w = visited-in-view d o (next static k o w)
  visited-in-view d (tree l k o) w = cons-same refl (visited-in-view d o (next l k o w))

  -- so a header that names what c sees keeps the orphan rule, and is addable, by the view exactly if in the set
  module _ (is : List ImplDecl) (h : Reference) (scope : in_scope W c h ≡ true) where
    abbrev U : World
    U = with_impls V is

    seen : sees_trait W c h.trait ≡ true
    seen = left (sees_trait W c h.trait) _ scope

    walks : (d : Option ℕ) → visited U d h.args ≡ visited W d h.args
    walks d = visited-same V V.crates is d h.args ∙ visited-in-view d h.args (right (sees_trait W c h.trait) _ scope)

    pub keeps-in-set : keeps_orphan_rule U c h ≡ keeps_orphan_rule W c h
    keeps-in-set = or-same (trait-in-view h.trait seen (λ x. x.home == c)) (ap (λ ms. ends_local (until_decisive ms)) (walks (Some c)))

    pub addable-in-set : is_addable U c h ≡ is_addable W c h
    addable-in-set =
        and-same keeps-in-set
        (and-same (ap (λ ms. not (list_any is_open_place (until_decisive ms))) (walks None))
        (and-same (ap not (trait-in-view h.trait seen (λ x. x.is_fundamental))) (ap not (trait-in-view h.trait seen (λ x. x.is_auto)))))

-- The crate of a view
module _ (W : World) (vs : List View) (rank : ℕ → ℕ) (l : JoinedSet W vs rank) (v : View) (s : HoldsView W v) where
  one : OneEach W
  one = (l.fits.one_struct, l.fits.one_trait)

  struct-seen : (k : ℕ) → struct_is (λ x. sees v.world v.asker x.home) v.world k ≡ true → sees_struct W (asker_in_set v) (v.numbers.structs.to k) ≡ true
  struct-seen k h =
      (struct-both W one (asker_in_set v) (v.numbers.structs.to k)
      (struct-same v.numbers v.world (view_before W v) s.renumbers (λ _. true) (λ _. true) (λ _. refl) k ∙ any-struct k h)).1
    where
      any-struct : (k : ℕ) → struct_is (λ x. sees v.world v.asker x.home) v.world k ≡ true → struct_is (λ _. true) v.world k ≡ true
      any-struct k h =
          let m = some-member (λ (x : StructDecl). sees v.world v.asker x.home) (structs_named v.world k) h in
          member-some (λ (_ : StructDecl). true) (structs_named v.world k) m.0 m.1 refl

  trait-seen : (k : ℕ) → trait_is (λ x. sees v.world v.asker x.home) v.world k ≡ true → sees_trait W (asker_in_set v) (v.numbers.traits.to k) ≡ true
  trait-seen k h =
      (trait-both W one (asker_in_set v) (v.numbers.traits.to k)
      (trait-same v.numbers v.world (view_before W v) s.renumbers (λ _. true) (λ _. true) (λ _. refl) k ∙ any-trait k h)).1
    where
      any-trait : (k : ℕ) → trait_is (λ x. sees v.world v.asker x.home) v.world k ≡ true → trait_is (λ _. true) v.world k ≡ true
      any-trait k h =
          let m = some-member (λ (x : TraitDecl). sees v.world v.asker x.home) (traits_named v.world k) h in
          member-some (λ (_ : TraitDecl). true) (traits_named v.world k) m.0 m.1 refl

  pub scope-in-set : (h : Reference) → in_scope v.world v.asker h ≡ true → in_scope W (asker_in_set v) (renumbered_reference v.numbers h) ≡ true
  scope-in-set h e =
      both (sees_trait W (asker_in_set v) (v.numbers.traits.to h.trait)) _ (trait-seen h.trait (left (sees_trait v.world v.asker h.trait) _ e))
      (written-over v.numbers (sees_struct v.world v.asker) (sees_trait v.world v.asker) (sees_struct W (asker_in_set v)) (sees_trait W (asker_in_set v)) struct-seen trait-seen h.args
      (right (sees_trait v.world v.asker h.trait) _ e))

  pub keeps-by-view : (h : Reference) → in_scope v.world v.asker h ≡ true → keeps_orphan_rule W (asker_in_set v) (renumbered_reference v.numbers h) ≡ keeps_orphan_rule v.world v.asker h
  keeps-by-view h e =
      sym (keeps-in-set W one (asker_in_set v) (view_before W v).impls (renumbered_reference v.numbers h) (scope-in-set h e))
      ∙ keeps-same v.numbers v.world (view_before W v) s.renumbers v.asker h

  pub addable-by-view : (h : Reference) → in_scope v.world v.asker h ≡ true → is_addable W (asker_in_set v) (renumbered_reference v.numbers h) ≡ is_addable v.world v.asker h
  addable-by-view h e =
      sym (addable-in-set W one (asker_in_set v) (view_before W v).impls (renumbered_reference v.numbers h) (scope-in-set h e))
      ∙ addable-same v.numbers v.world (view_before W v) s.renumbers v.asker h

  pub kept-in-set : (h : Reference) → in_scope v.world v.asker h ≡ true → keeps_orphan_rule v.world v.asker h ≡ true
      → (in_scope W (asker_in_set v) (renumbered_reference v.numbers h) ≡ true) × (keeps_orphan_rule W (asker_in_set v) (renumbered_reference v.numbers h) ≡ true)
  kept-in-set h e k = (scope-in-set h e, keeps-by-view h e ∙ k)

  pub added-in-set : (i : ImplDecl) → Added v.world v.asker i → Added W (asker_in_set v) (renumbered_impl v.numbers i)
  added-in-set i a = record { addable = addable-by-view i.header a.scope ∙ a.addable; scope = scope-in-set i.header a.scope }
