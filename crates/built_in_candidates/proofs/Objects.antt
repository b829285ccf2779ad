-- `dyn` types: what is read off their bounds, and the bounds that can be the goal as candidates.
use Rattle.std.proofs.Common.{◌≡◌, ℕ, zero, suc, ◌-◌, ◌<◌, ◌≤◌, Bool, true, false, ◌&&◌, ◌||◌, not, if◌then◌else◌, List, [], ◌∷◌, ◌++◌, map, length, count_by, Option, Some, None, refl, sym, ap, ◌∙◌, subst, inl, inr, arith}
use Rattle.std.specs.Prelude.{◌==◌, option_map, filter, ◌⊎◌}
use Rattle.std.specs.List.{slice_get, list_any, list_all}
use Rattle.std.proofs.lemmas.List.{map-append}
use Rattle.std.proofs.lemmas.List.Sums.{length-filter}
use Rattle.std.proofs.lemmas.List.Folds.{list_any-append}
use Rattle.std.proofs.lemmas.Option.{same_Some, slice_get-map}
use Rattle.type_terms.specs.Promised.Label.{Label, of_type, of_lifetime, of_const, dynamic, principal, auto_trait, param, placeholder, infer, canonical, bound}
use Rattle.type_terms.specs.Promised.Trees.{Trees, none, tree, leaf, nth, ◌+++◌, sort_of}
use Rattle.type_terms.specs.Promised.Worlds.{World, Reference, TraitDecl, traits_named}
use Rattle.type_terms.specs.Promised.Rules.{asked, sized, principal_with, autos_with, are_declared, are_dyn_compatible, upcasts_autos, elaborated}
use Rattle.type_terms.specs.Promised.Proofs.{In}
use Rattle.type_terms.proofs.Walking.{left}
use Rattle.type_terms.proofs.Members.{some-member, member-some, same-number, self-number, true-or-false, so-false, not-both}
use Rattle.type_terms.specs.Promised.Handles.{Entry, Is, bounds_lists, trees_at}
use Rattle.type_terms.specs.Kinds.{principal_trees, autos_trees, bounds_trees}
use Rattle.type_terms.specs.declared.TraitId.{TraitId}
use Rattle.type_terms.specs.declared.kinds.Principal.{Principal}
use Rattle.type_terms.specs.declared.kinds.BoundsData.{BoundsData}
use Rattle.type_terms.specs.Kept.{trees-is}
use Rattle.term_folds.specs.Signatures.{StartsWithType}
use Rattle.term_folds.specs.declared.predicate.TraitRef.{TraitRef}
use Rattle.goal_evaluator.specs.Merge.{if_there}
use Rattle.goal_evaluator.specs.declared.candidate.CandidateSource.TheVariants.{BuiltinImpl}
use Rattle.goal_evaluator.specs.declared.candidate.BuiltinImplSource.{BuiltinImplSource}
use Rattle.goal_evaluator.specs.declared.candidate.BuiltinImplSource.TheVariants.{Misc, Object, TraitUpcasting}
use Rattle.declarations.specs.Items.{Items, reference_in, written}
use Rattle.declarations.specs.Held.{ReferenceHeld}
use Rattle.declarations.specs.Promised.Elaboration.{Each}
use Rattle.declarations.specs.Apart.{are_apart}
use Rattle.declarations.specs.Applied.{references_in, TraitRefsHeld, AreApplied, HaveBounds}
use Rattle.declarations.specs.Promised.Elaboration.{elaborate, supertraits}
use Rattle.declarations.proofs.Elaborating.{lead-down}
use Rattle.candidate_model.specs.Asking.{GoalOverKinds, with_plain_head}
use Rattle.candidate_model.specs.Candidates.{Candidate, by_rule, can_be, misc, all_equal, if_so, bounds_from, written_source, object_source, upcasts_from, upcasts_to, upcasts_of, objects_of}
use Rattle.candidate_model.proofs.Stack.{elaborated-all, elaborated-only}
use Rattle.built_in_candidates.specs.Objects.{bounds_of, AreArgumentsOf, ObjectIsApplied, numbered_to, BoundRule, bound_in, bounds_to, written_and_elaborated, object_bounds, upcast_bounds, upcasts_between}
use Rattle.built_in_candidates.specs.Unsizing.{traits_asked}

-- ---- what is read off bounds
pub lifetime-no-principal : (self : Trees) (l : Label) → sort_of l ≡ of_lifetime → principal_with self (leaf l) ≡ []
lifetime-no-principal self (principal n t) h = absurd cc
lifetime-no-principal self l h = refl

lifetime-no-auto : (self : Trees) (l : Label) → sort_of l ≡ of_lifetime → autos_with self (leaf l) ≡ []
lifetime-no-auto self (auto_trait t) h = absurd cc
lifetime-no-auto self l h = refl

autos-no-principal : (self : Trees) (autos : List TraitId) (l : Label) → sort_of l ≡ of_lifetime → principal_with self (autos_trees autos +++ leaf l) ≡ []
autos-no-principal self [] l h = lifetime-no-principal self l h
autos-no-principal self (a ∷ autos) l h = refl

abbrev pub principal_of : List Entry → Trees → Option Principal → List Reference
principal_of es self None = []
principal_of es self (Some p) = record { trait = p.def_id.index; args = self +++ trees_at es p.args.0 } ∷ []

principal-read : (es : List Entry) (self : Trees) (b : BoundsData) (l : Label) → sort_of l ≡ of_lifetime → principal_with self (bounds_trees es b +++ leaf l) ≡ principal_of es self b.principal
principal-read es self b l h = by b.principal
  where
    by : (o : Option Principal) → principal_with self ((principal_trees es o +++ autos_trees b.autos.items) +++ leaf l) ≡ principal_of es self o
    by None = autos-no-principal self b.autos.items l h
    by (Some p) = refl

autos-alone : (self : Trees) (autos : List TraitId) (l : Label) → sort_of l ≡ of_lifetime → autos_with self (autos_trees autos +++ leaf l) ≡ traits_asked autos self
autos-alone self [] l h = lifetime-no-auto self l h
autos-alone self (a ∷ autos) l h = ap (λ rs. asked a.index self ∷ rs) (autos-alone self autos l h)

autos-read : (es : List Entry) (self : Trees) (b : BoundsData) (l : Label) → sort_of l ≡ of_lifetime → autos_with self (bounds_trees es b +++ leaf l) ≡ traits_asked b.autos.items self
autos-read es self b l h = by b.principal
  where
    by : (o : Option Principal) → autos_with self ((principal_trees es o +++ autos_trees b.autos.items) +++ leaf l) ≡ traits_asked b.autos.items self
    by None = autos-alone self b.autos.items l h
    by (Some p) = autos-alone self b.autos.items l h

-- the same of a handle
pub principal-at : (es : List Entry) (self : Trees) (i : ℕ) (b : BoundsData) → Is es bounds_lists i (bounds_trees es b) → (l : Label) → sort_of l ≡ of_lifetime → principal_with self (trees_at es i +++ leaf l) ≡ principal_of es self b.principal
principal-at es self i b e l h = ap (λ t. principal_with self (t +++ leaf l)) (trees-is es bounds_lists i (bounds_trees es b) e) ∙ principal-read es self b l h

pub autos-at : (es : List Entry) (self : Trees) (i : ℕ) (b : BoundsData) → Is es bounds_lists i (bounds_trees es b) → (l : Label) → sort_of l ≡ of_lifetime → autos_with self (trees_at es i +++ leaf l) ≡ traits_asked b.autos.items self
autos-at es self i b e l h = ap (λ t. autos_with self (t +++ leaf l)) (trees-is es bounds_lists i (bounds_trees es b) e) ∙ autos-read es self b l h

-- the lifetime behind the bounds does not count
pub principal-any : (self t : Trees) (l k : Label) → sort_of l ≡ of_lifetime → sort_of k ≡ of_lifetime → principal_with self (t +++ leaf l) ≡ principal_with self (t +++ leaf k)
principal-any self none l k h g = lifetime-no-principal self l h ∙ sym (lifetime-no-principal self k g)
principal-any self (tree (principal n t) c o) l k h g = refl
principal-any self (tree m c o) l k h g = refl

-- so many of them are of the trait
pub autos-counted : (self : Trees) (t : ℕ) (autos : List TraitId) → count_by (λ (x : TraitId). x.index == t) autos ≡ length (filter (λ (r : Reference). r.trait == t) (traits_asked autos self))
autos-counted self t autos = sym (length-filter (λ (x : TraitId). x.index == t) autos) ∙ alike autos
  where
    alike : (xs : List TraitId) → length (filter (λ (x : TraitId). x.index == t) xs) ≡ length (filter (λ (r : Reference). r.trait == t) (traits_asked xs self))
    alike [] = refl
    alike (a ∷ xs) = by (a.index == t) (alike xs)
      where
        by : (b : Bool) → length (filter (λ (x : TraitId). x.index == t) xs) ≡ length (filter (λ (r : Reference). r.trait == t) (traits_asked xs self))
            → length (if b then a ∷ filter (λ (x : TraitId). x.index == t) xs else filter (λ (x : TraitId). x.index == t) xs)
            ≡ length (if b then asked a.index self ∷ filter (λ (r : Reference). r.trait == t) (traits_asked xs self) else filter (λ (r : Reference). r.trait == t) (traits_asked xs self))
        by true e = ap suc e
        by false e = e

-- each is asked of Self alone
asked-of-self : (self b : Trees) → Each (λ (r : Reference). r.args ≡ self) (autos_with self b)
asked-of-self self none = tt
asked-of-self self (tree (auto_trait t) c o) = (refl, asked-of-self self o)
asked-of-self self (tree l c o) = asked-of-self self o

-- ---- the trait of a principal
pub declared-one : (V : World) (r : Reference) (x : TraitDecl) → traits_named V r.trait ≡ x ∷ [] → true ≡ are_declared V (r ∷ [])
declared-one V r x e = sym (ap (λ (ts : List TraitDecl). list_any (λ y. true) ts && true) e)

pub declared-none : (V : World) (r : Reference) → traits_named V r.trait ≡ [] → false ≡ are_declared V (r ∷ [])
declared-none V r e = sym (ap (λ (ts : List TraitDecl). list_any (λ y. true) ts && true) e)

-- a principal that has its trait's arguments
pub applied-in : (es : List Entry) (d : Items) (rs : List TraitRef) → Each (AreArgumentsOf d) (references_in es rs) → AreApplied es d rs
applied-in es d [] h = tt
applied-in es d (r ∷ rs) h = (record { sorts = h.0.sorts; closed = h.0.closed }, applied-in es d rs h.1)

-- ---- one of them is of the trait
any-read : (es : List Entry) (t : ℕ) (rs : List TraitRef) → list_any (λ (r : TraitRef). r.def_id.index == t) rs ≡ list_any (λ (r : Reference). r.trait == t) (references_in es rs)
any-read es t [] = refl
any-read es t (r ∷ rs) = ap (λ b. (r.def_id.index == t) || b) (any-read es t rs)

any-asked : (self : Trees) (t : ℕ) (autos : List TraitId) → list_any (λ (x : TraitId). x.index == t) autos ≡ list_any (λ (r : Reference). r.trait == t) (traits_asked autos self)
any-asked self t [] = refl
any-asked self t (a ∷ autos) = ap (λ b. (a.index == t) || b) (any-asked self t autos)

same-any : {A : Type 0} (p : A → Bool) (xs ys : List A) → ((x : A) → In x xs → In x ys) → ((y : A) → In y ys → In y xs) → list_any p xs ≡ list_any p ys
same-any p xs ys f g = by (true-or-false (list_any p xs)) (true-or-false (list_any p ys))
  where
    on : (xs ys : List _) → ((x : _) → In x xs → In x ys) → list_any p xs ≡ true → list_any p ys ≡ true
    on us vs k e = let m = some-member p us e in member-some p vs m.0 (k m.0 m.1) m.2

    by : (list_any p xs ≡ true) ⊎ (list_any p xs ≡ false) → (list_any p ys ≡ true) ⊎ (list_any p ys ≡ false) → list_any p xs ≡ list_any p ys
    by (inl a) (inl b) = a ∙ sym b
    by (inl a) (inr b) = absurd (not-both (list_any p ys) (on xs ys f a) b)
    by (inr a) (inl b) = absurd (not-both (list_any p xs) (on ys xs g b) a)
    by (inr a) (inr b) = a ∙ sym b

-- each of these auto traits is written, or is one of the references
abbrev pub all_found : List TraitId → List TraitRef → List TraitId → Bool
all_found autos rs bs = list_all (λ (b : TraitId). list_any (λ (q : TraitId). q.index == b.index) autos || list_any (λ (r : TraitRef). r.def_id.index == b.index) rs) bs

-- the stack has the same traits as the levels
module _ (es : List Entry) (d : Items) (h : HaveBounds es d) where
  levels-any : (ps : List Reference) (t : ℕ) → list_any (λ (r : Reference). r.trait == t) (elaborate (written es d) ps) ≡ list_any (λ (r : Reference). r.trait == t) (elaborated (written es d) ps)
  levels-any ps t =
      same-any (λ (r : Reference). r.trait == t) (elaborate (written es d) ps) (elaborated (written es d) ps)
      (λ r i. elaborated-only (written es d) h.rank (lead-down es d h) ps r i) (λ r i. elaborated-all (written es d) h.rank (lead-down es d h) ps r i)

  pub any-level : (now : List Entry) (rs : List TraitRef) (ps : List Reference) (t : ℕ) → references_in now rs ≡ elaborate (written es d) ps
      → list_any (λ (r : TraitRef). r.def_id.index == t) rs ≡ list_any (λ (r : Reference). r.trait == t) (elaborated (written es d) ps)
  any-level now rs ps t e = any-read now t rs ∙ ap (list_any (λ (r : Reference). r.trait == t)) e ∙ levels-any ps t

  pub compatible-is : (now : List Entry) (rs : List TraitRef) (ps : List Reference) → references_in now rs ≡ elaborate (written es d) ps
      → (are_declared (written es d) ps && not (list_any (λ (r : TraitRef). r.def_id.index == sized) rs)) ≡ are_dyn_compatible (written es d) ps
  compatible-is now rs ps e = ap (λ b. are_declared (written es d) ps && not b) (any-level now rs ps sized e)

  pub autos-are : (now : List Entry) (rs : List TraitRef) (ps : List Reference) → references_in now rs ≡ elaborate (written es d) ps → (self : Trees) (autos bs : List TraitId)
      → all_found autos rs bs ≡ upcasts_autos (written es d) ps (traits_asked autos self) (traits_asked bs self)
  autos-are now rs ps e self autos [] = refl
  autos-are now rs ps e self autos (b ∷ bs) = both _ _ _ _ here-auto (autos-are now rs ps e self autos bs)
    where
      both : (x y z w : Bool) → x ≡ y → z ≡ w → (x && z) ≡ (y && w)
      both x y z w p q = cc

      here-auto : (list_any (λ (q : TraitId). q.index == b.index) autos || list_any (λ (r : TraitRef). r.def_id.index == b.index) rs)
          ≡ list_any (λ (q : Reference). q.trait == b.index) (traits_asked autos self ++ elaborated (written es d) ps)
      here-auto =
          ap (λ z. z || list_any (λ (r : TraitRef). r.def_id.index == b.index) rs) (any-asked self b.index autos)
          ∙ ap (λ z. list_any (λ (q : Reference). q.trait == b.index) (traits_asked autos self) || z) (any-level now rs ps b.index e)
          ∙ sym (list_any-append (λ (q : Reference). q.trait == b.index) (traits_asked autos self) (elaborated (written es d) ps))

-- ---- one reference after the other
pub numbered-held : (es : List Entry) (p : TraitRef → Bool) (i n : ℕ) (rs : List TraitRef) (k : ℕ) (r : TraitRef) → TraitRefsHeld es rs → Some (k, r) ≡ slice_get (numbered_to p i rs) n → ReferenceHeld es r
numbered-held es p i n [] k r h e = absurd cc
numbered-held es p i n (x ∷ rs) k r h e = by (p x) n e (λ m g. numbered-held es p (suc i) m rs k r h.1 g)
  where
    by : (b : Bool) (m : ℕ) → Some (k, r) ≡ slice_get (if b then (i, x) ∷ numbered_to p (suc i) rs else numbered_to p (suc i) rs) m
        → ((j : ℕ) → Some (k, r) ≡ slice_get (numbered_to p (suc i) rs) j → ReferenceHeld es r) → ReferenceHeld es r
    by true zero g go = subst (ReferenceHeld es) (sym (ap (λ (z : ℕ × TraitRef). z.1) (same_Some {A = ℕ × TraitRef} (k, r) (i, x) g))) h.0
    by true (suc m) g go = go m g
    by false m g go = go m g

-- numbers that differ
pub differ : (a b : ℕ) → (a ≡ b → ⊥) → (a == b) ≡ false
differ a b h = so-false (a == b) (λ e. h (same-number a b e))

-- ---- bounds of a kind
abbrev pub with_source : (ℕ → BuiltinImplSource) → List Entry → ℕ × TraitRef → BoundRule
with_source source es x = bound_in es (source x.0, x.1)

module _ (source : ℕ → BuiltinImplSource) (es : List Entry) (p : Reference → Bool) where
  abbrev at : TraitRef → Bool
  at r = p (reference_in es r)

  numbered-bounds : (i : ℕ) (rs : List TraitRef) → map (with_source source es) (numbered_to at i rs) ≡ bounds_to p source i (references_in es rs)
  numbered-bounds i [] = refl
  numbered-bounds i (r ∷ rs) = by (at r) (numbered-bounds (suc i) rs)
    where
      by : (b : Bool) → map (with_source source es) (numbered_to at (suc i) rs) ≡ bounds_to p source (suc i) (references_in es rs)
          → map (with_source source es) (if b then (i, r) ∷ numbered_to at (suc i) rs else numbered_to at (suc i) rs)
          ≡ (if b then with_source source es (i, r) ∷ bounds_to p source (suc i) (references_in es rs) else bounds_to p source (suc i) (references_in es rs))
      by true e = ap (λ l. with_source source es (i, r) ∷ l) e
      by false e = e

  pub bound-at : (i n : ℕ) (rs : List TraitRef) (o : Option (ℕ × TraitRef)) → o ≡ slice_get (numbered_to at i rs) n → option_map (with_source source es) o ≡ slice_get (bounds_to p source i (references_in es rs)) n
  bound-at i n rs o e =
      ap (option_map (with_source source es)) e ∙ sym (slice_get-map (with_source source es) (numbered_to at i rs) n)
      ∙ ap (λ l. slice_get l n) (numbered-bounds i rs)

-- ---- auto traits come first
abbrev auto_bound : ℕ → Trees → BoundRule
auto_bound t self = record { source = Misc; reference = asked t self }

same-bound : (t : ℕ) (self : Trees) (r : Reference) → r.args ≡ self → (r.trait == t) ≡ true → auto_bound t self ≡ record { source = Misc; reference = r }
same-bound t self r e q = let n : r.trait ≡ t = same-number r.trait t q in ap (λ m. auto_bound m self) (sym n) ∙ ap (auto_bound r.trait) (sym e)

module _ (q : Reference) (self : Trees) where
  abbrev t : ℕ
  t = q.trait

  abbrev many : List Reference → ℕ
  many rs = length (filter (can_be q) rs)

  abbrev of_trait : Reference → Bool
  of_trait r = r.trait == t

  -- all or none of the auto traits that are of the trait can be q
  written-counted : (rs : List Reference) → Each (λ (r : Reference). r.args ≡ self) rs → (c : Bool) → can_be q (asked t self) ≡ c → (if c then length (filter of_trait rs) else 0) ≡ many rs
  written-counted [] h true e = refl
  written-counted [] h false e = refl
  written-counted (r ∷ rs) h c e = by (r.trait == t) refl (not (are_apart q.args r.args)) (ap (λ z. not (are_apart q.args z)) h.0) c e (written-counted rs h.1 c e)
    where
      as-asked : not (are_apart q.args self) ≡ can_be q (asked t self)
      as-asked = sym (ap (λ z. z && not (are_apart q.args self)) (self-number t))

      clash : (x : Bool) → x ≡ true → x ≡ false → ⊥
      clash x f g = absurd cc

      by : (b : Bool) → (r.trait == t) ≡ b → (n : Bool) → n ≡ not (are_apart q.args self) → (c : Bool) → can_be q (asked t self) ≡ c
          → (if c then length (filter of_trait rs) else 0) ≡ many rs
          → (if c then length (if b then r ∷ filter of_trait rs else filter of_trait rs) else 0) ≡ length (if b && n then r ∷ filter (can_be q) rs else filter (can_be q) rs)
      by false f n g true e go = go
      by false f n g false e go = go
      by true f true g true e go = ap suc go
      by true f false g false e go = go
      by true f true g false e go = absurd (clash true refl (g ∙ as-asked ∙ e))
      by true f false g true e go = absurd (clash true refl (sym (g ∙ as-asked ∙ e)))

  -- so many are counted: none if none is of the trait, and else as many as these if one that is asked of Self can be q
  pub written-some : (b : Trees) (n : ℕ) → n ≡ length (filter of_trait (autos_with self b)) → (c : Bool) → c ≡ can_be q (asked t self) → (if c then n else 0) ≡ many (autos_with self b)
  written-some b n e c f = ap (λ m. if c then m else 0) e ∙ written-counted (autos_with self b) (asked-of-self self b) c (sym f)

  pub written-none : (b : Trees) (n : ℕ) → n ≡ length (filter of_trait (autos_with self b)) → n ≡ 0 → 0 ≡ many (autos_with self b)
  written-none b n e z = by (can_be q (asked t self)) refl
    where
      by : (c : Bool) → c ≡ can_be q (asked t self) → 0 ≡ many (autos_with self b)
      by true f = sym z ∙ written-some b n e true f
      by false f = written-some b n e false f

  abbrev misc_bounds : ℕ → List Reference → List BoundRule
  misc_bounds i rs = bounds_to (can_be q) (λ j. Misc) i rs

  autos-there : (ys : List BoundRule) (i n : ℕ) (rs : List Reference) → Each (λ (r : Reference). r.args ≡ self) rs → n < many rs → Some (auto_bound t self) ≡ slice_get (misc_bounds i rs ++ ys) n
  autos-there ys i n [] h lt = absurd (omega (arith, lt))
  autos-there ys i n (r ∷ rs) h lt = by (can_be q r) refl n lt (λ m k. autos-there ys (suc i) m rs h.1 k)
    where
      by : (b : Bool) → can_be q r ≡ b → (m : ℕ) → m < length (if b then r ∷ filter (can_be q) rs else filter (can_be q) rs)
          → ((k : ℕ) → k < many rs → Some (auto_bound t self) ≡ slice_get (misc_bounds (suc i) rs ++ ys) k)
          → Some (auto_bound t self) ≡ slice_get ((if b then record { source = Misc; reference = r } ∷ misc_bounds (suc i) rs else misc_bounds (suc i) rs) ++ ys) m
      by true e zero k go = ap Some (same-bound t self r h.0 (left (r.trait == t) (not (are_apart q.args r.args)) e))
      by true e (suc m) k go = go m (omega (arith, k))
      by false e m k go = go m k

  minus-zero : (n : ℕ) → n ≡ n - 0
  minus-zero n = omega arith

  minus-both : (n m : ℕ) → n - m ≡ suc n - suc m
  minus-both n m = omega arith

  autos-past : (ys : List BoundRule) (i n : ℕ) (rs : List Reference) → many rs ≤ n → slice_get (misc_bounds i rs ++ ys) n ≡ slice_get ys (n - many rs)
  autos-past ys i n [] le = ap (slice_get ys) (minus-zero n)
  autos-past ys i n (r ∷ rs) le = by (can_be q r) n le (λ m k. autos-past ys (suc i) m rs k)
    where
      by : (b : Bool) (m : ℕ) → length (if b then r ∷ filter (can_be q) rs else filter (can_be q) rs) ≤ m
          → ((k : ℕ) → many rs ≤ k → slice_get (misc_bounds (suc i) rs ++ ys) k ≡ slice_get ys (k - many rs))
          → slice_get ((if b then record { source = Misc; reference = r } ∷ misc_bounds (suc i) rs else misc_bounds (suc i) rs) ++ ys) m ≡ slice_get ys (m - length (if b then r ∷ filter (can_be q) rs else filter (can_be q) rs))
      by true zero k go = absurd (omega (arith, k))
      by true (suc m) k go = go m (omega (arith, k)) ∙ ap (slice_get ys) (minus-both m (many rs))
      by false m k go = go m k

  abbrev all_bounds : Trees → List Reference → List BoundRule
  all_bounds b rs = bounds_to (can_be q) (λ i. Misc) 0 (autos_with self b) ++ bounds_to (can_be q) Object 0 rs

  pub auto-found : (b : Trees) (rs : List Reference) (n : ℕ) → n < many (autos_with self b) → (t == sized) ≡ false → Some (auto_bound t self) ≡ slice_get (written_and_elaborated q self b rs) n
  auto-found b rs n lt e =
      autos-there (bounds_to (can_be q) Object 0 rs) 0 n (autos_with self b) (asked-of-self self b) lt
      ∙ sym (ap (λ c. slice_get (if_so (not c) (all_bounds b rs)) n) e)

  pub sized-left-out : (b : Trees) (rs : List Reference) (n : ℕ) → (t == sized) ≡ true → None ≡ slice_get (written_and_elaborated q self b rs) n
  sized-left-out b rs n e = sym (ap (λ c. slice_get (if_so (not c) (all_bounds b rs)) n) e)

  pub level-found : (b : Trees) (rs : List Reference) (n : ℕ) → many (autos_with self b) ≤ n → (t == sized) ≡ false
      → slice_get (bounds_to (can_be q) Object 0 rs) (n - many (autos_with self b)) ≡ slice_get (written_and_elaborated q self b rs) n
  level-found b rs n le e =
      sym (ap (λ c. slice_get (if_so (not c) (all_bounds b rs)) n) e
      ∙ autos-past (bounds_to (can_be q) Object 0 rs) 0 n (autos_with self b) le)

-- ---- as candidates
map-if : {A B : Type 0} (f : A → B) (b : Bool) (xs : List A) → if_so b (map f xs) ≡ map f (if_so b xs)
map-if f true xs = refl
map-if f false xs = refl

module _ (V : World) (a : GoalOverKinds) where
  abbrev pub by_bound : BoundRule → Candidate
  by_bound x = by_rule V a (BuiltinImpl x.source) (all_equal a.reference.args x.reference.args) (supertraits V a.reference)

  bounds-read : (source : ℕ → BuiltinImplSource) (i : ℕ) (rs : List Reference) → bounds_from V a (λ n. BuiltinImpl (source n)) i rs ≡ map by_bound (bounds_to (can_be a.reference) source i rs)
  bounds-read source i [] = refl
  bounds-read source i (r ∷ rs) = by (can_be a.reference r) (bounds-read source (suc i) rs)
    where
      by : (b : Bool) → bounds_from V a (λ n. BuiltinImpl (source n)) (suc i) rs ≡ map by_bound (bounds_to (can_be a.reference) source (suc i) rs)
          → (if b then by_bound (record { source = source i; reference = r }) ∷ bounds_from V a (λ n. BuiltinImpl (source n)) (suc i) rs else bounds_from V a (λ n. BuiltinImpl (source n)) (suc i) rs)
          ≡ map by_bound (if b then record { source = source i; reference = r } ∷ bounds_to (can_be a.reference) source (suc i) rs else bounds_to (can_be a.reference) source (suc i) rs)
      by true e = ap (λ l. by_bound (record { source = source i; reference = r }) ∷ l) e
      by false e = e

  both-read : (self b : Trees) (rs : List Reference)
      → if_so (not (a.reference.trait == sized)) (bounds_from V a written_source 0 (autos_with self b)) ++ if_so (not (a.reference.trait == sized)) (bounds_from V a object_source 0 rs)
      ≡ map by_bound (written_and_elaborated a.reference self b rs)
  both-read self b rs = by (not (a.reference.trait == sized))
    where
      by : (c : Bool) → if_so c (bounds_from V a written_source 0 (autos_with self b)) ++ if_so c (bounds_from V a object_source 0 rs)
          ≡ map by_bound (if_so c (bounds_to (can_be a.reference) (λ n. Misc) 0 (autos_with self b) ++ bounds_to (can_be a.reference) Object 0 rs))
      by true =
          ap (λ l. l ++ bounds_from V a object_source 0 rs) (bounds-read (λ n. Misc) 0 (autos_with self b))
          ∙ ap (λ l. map by_bound (bounds_to (can_be a.reference) (λ n. Misc) 0 (autos_with self b)) ++ l) (bounds-read Object 0 rs)
          ∙ sym (map-append by_bound (bounds_to (can_be a.reference) (λ n. Misc) 0 (autos_with self b)) (bounds_to (can_be a.reference) Object 0 rs))
      by false = refl

  objects-read : (b o : Trees) → objects_of V a (tree dynamic b o) ≡ map by_bound (object_bounds V a.reference (tree dynamic b none) b)
  objects-read b o =
      let self = tree dynamic b none in
      ap (if_so (are_dyn_compatible V (principal_with self b))) (both-read self b (elaborate V (principal_with self b)))
      ∙ map-if by_bound (are_dyn_compatible V (principal_with self b)) (written_and_elaborated a.reference self b (elaborate V (principal_with self b)))

  -- the candidates of a goal whose self type is a `dyn`
  pub objects-at : (T S b : Trees) → StartsWithType T → S ≡ nth T 0 → S ≡ tree dynamic b none → (n : ℕ) → slice_get (objects_of V a (with_plain_head T)) n ≡ option_map by_bound (slice_get (object_bounds V a.reference S b) n)
  objects-at none S b h e f n = absurd h
  objects-at (tree l c o) S b h e f n =
      let same : tree dynamic b none ≡ tree l c none = sym f ∙ e in
      let label : dynamic ≡ l = cc in
      let children : b ≡ c = cc in
      ap (λ m. slice_get (objects_of V a (with_plain_head (tree m c o))) n) (sym label)
      ∙ ap (λ z. slice_get (objects_of V a (tree dynamic z o)) n) (sym children)
      ∙ ap (λ l. slice_get l n) (objects-read b o)
      ∙ slice_get-map by_bound (object_bounds V a.reference (tree dynamic b none) b) n
      ∙ ap (λ z. option_map by_bound (slice_get (object_bounds V a.reference z b) n)) (sym f)

  -- no other has one
  no-bounds : (T : Trees) → bounds_of T ≡ None → objects_of V a (with_plain_head T) ≡ []
  no-bounds none e = refl
  no-bounds (tree dynamic c o) e = absurd cc
  no-bounds (tree (param of_type i) c o) e = refl
  no-bounds (tree (param of_const i) c o) e = refl
  no-bounds (tree (param of_lifetime i) c o) e = refl
  no-bounds (tree (placeholder of_type i) c o) e = refl
  no-bounds (tree (placeholder of_const i) c o) e = refl
  no-bounds (tree (placeholder of_lifetime i) c o) e = refl
  no-bounds (tree (infer of_type i) c o) e = refl
  no-bounds (tree (infer of_const i) c o) e = refl
  no-bounds (tree (infer of_lifetime i) c o) e = refl
  no-bounds (tree (canonical of_type i) c o) e = refl
  no-bounds (tree (canonical of_const i) c o) e = refl
  no-bounds (tree (canonical of_lifetime i) c o) e = refl
  no-bounds (tree (bound of_type i j) c o) e = refl
  no-bounds (tree (bound of_const i j) c o) e = refl
  no-bounds (tree (bound of_lifetime i j) c o) e = refl
  no-bounds (tree l c o) e = refl

  bounds-alone : (l : Label) (c o : Trees) → bounds_of (tree l c o) ≡ bounds_of (tree l c none)
  bounds-alone dynamic c o = refl
  bounds-alone l c o = refl

  pub no-objects : (T S : Trees) → StartsWithType T → S ≡ nth T 0 → bounds_of S ≡ None → (n : ℕ) → None ≡ slice_get (objects_of V a (with_plain_head T)) n
  no-objects none S h e f n = absurd h
  no-objects (tree l c o) S h e f n = sym (ap (λ l. slice_get l n) (no-bounds (tree l c o) (bounds-alone l c o ∙ ap bounds_of (sym e) ∙ f)))

-- the first of the arguments has what is asked of a `dyn`
object-alone : (d : Items) (l : Label) (c o : Trees) → ObjectIsApplied d (tree l c o) → ObjectIsApplied d (tree l c none)
object-alone d dynamic c o h = h
object-alone d l c o h = tt

pub object-first : (d : Items) (T S : Trees) → StartsWithType T → S ≡ nth T 0 → ObjectIsApplied d T → ObjectIsApplied d S
object-first d none S s e h = absurd s
object-first d (tree l c o) S s e h = subst (ObjectIsApplied d) (sym e) (object-alone d l c o h)

pub object-applied : (d : Items) (S b : Trees) → S ≡ tree dynamic b none → ObjectIsApplied d S → Each (AreArgumentsOf d) (principal_with S b)
object-applied d S b e h = subst (λ z. Each (AreArgumentsOf d) (principal_with z b)) (sym e) (subst (ObjectIsApplied d) e h)

-- ---- upcasts
abbrev is_of : ℕ → Reference → Bool
is_of t r = r.trait == t

module _ (V : World) (a : GoalOverKinds) (q : Reference) where
  abbrev pub by_upcast : BoundRule → Candidate
  by_upcast x = by_rule V a (BuiltinImpl x.source) (all_equal x.reference.args q.args) []

  from-read : (i : ℕ) (rs : List Reference) → upcasts_from V a q i rs ≡ map by_upcast (bounds_to (is_of q.trait) TraitUpcasting i rs)
  from-read i [] = refl
  from-read i (r ∷ rs) = by (r.trait == q.trait) (from-read (suc i) rs)
    where
      by : (b : Bool) → upcasts_from V a q (suc i) rs ≡ map by_upcast (bounds_to (is_of q.trait) TraitUpcasting (suc i) rs)
          → (if b then by_upcast (record { source = TraitUpcasting i; reference = r }) ∷ upcasts_from V a q (suc i) rs else upcasts_from V a q (suc i) rs)
          ≡ map by_upcast (if b then record { source = TraitUpcasting i; reference = r } ∷ bounds_to (is_of q.trait) TraitUpcasting (suc i) rs else bounds_to (is_of q.trait) TraitUpcasting (suc i) rs)
      by true e = ap (λ l. by_upcast (record { source = TraitUpcasting i; reference = r }) ∷ l) e
      by false e = e

  to-read : (ps qs : List Reference) → upcasts_to V a ps (q ∷ qs) ≡ map by_upcast (upcast_bounds V q.trait ps)
  to-read [] qs = refl
  to-read (p ∷ ps) qs = by (p.trait == q.trait)
    where
      by : (b : Bool) → (if b then by_rule V a misc (all_equal p.args q.args) [] ∷ [] else upcasts_from V a q 1 (supertraits V p))
          ≡ map by_upcast (if b then record { source = Misc; reference = p } ∷ [] else bounds_to (is_of q.trait) TraitUpcasting 1 (supertraits V p))
      by true = refl
      by false = from-read 1 (supertraits V p)

  pub upcast-at : (ps qs : List Reference) (n : ℕ) → slice_get (upcasts_to V a ps (q ∷ qs)) n ≡ option_map by_upcast (slice_get (upcast_bounds V q.trait ps) n)
  upcast-at ps qs n = ap (λ l. slice_get l n) (to-read ps qs) ∙ slice_get-map by_upcast (upcast_bounds V q.trait ps) n

-- the principal is skipped where it is of another trait
skips-principal : (V : World) (t : ℕ) (p : Reference) → (p.trait == t) ≡ false → (n : ℕ) → slice_get (bounds_to (is_of t) TraitUpcasting 0 (elaborate V (p ∷ []))) n ≡ slice_get (upcast_bounds V t (p ∷ [])) n
skips-principal V t p e n =
    ap (λ b. slice_get (if b then record { source = TraitUpcasting 0; reference = p } ∷ bounds_to (is_of t) TraitUpcasting 1 (supertraits V p) else bounds_to (is_of t) TraitUpcasting 1 (supertraits V p)) n) e
    ∙ sym (ap (λ b. slice_get (if b then record { source = Misc; reference = p } ∷ [] else bounds_to (is_of t) TraitUpcasting 1 (supertraits V p)) n) e)

pub upcast-level : (V : World) (es : List Entry) (t n : ℕ) (o : Option TraitRef) (p : TraitRef) → o ≡ Some p → (p.def_id.index ≡ t → ⊥) → (rs found : List TraitRef) → found ≡ rs
    → references_in es rs ≡ elaborate V (references_in es (if_there o)) → (r : Option (ℕ × TraitRef)) → r ≡ slice_get (numbered_to (λ (x : TraitRef). x.def_id.index == t) 0 found) n
    → option_map (with_source TraitUpcasting es) r ≡ slice_get (upcast_bounds V t (references_in es (if_there o))) n
upcast-level V es t n o p same other rs found all e r at =
    let ps : references_in es (if_there o) ≡ reference_in es p ∷ [] = ap (λ x. references_in es (if_there x)) same in
    bound-at TraitUpcasting es (is_of t) 0 n found r at
    ∙ ap (λ l. slice_get (bounds_to (is_of t) TraitUpcasting 0 (references_in es l)) n) all
    ∙ ap (λ l. slice_get (bounds_to (is_of t) TraitUpcasting 0 l) n) (e ∙ ap (elaborate V) ps)
    ∙ skips-principal V t (reference_in es p) (differ p.def_id.index t other) n
    ∙ ap (λ l. slice_get (upcast_bounds V t l) n) (sym ps)

-- ---- a `dyn` and its target

pub between-read : (V : World) (a : GoalOverKinds) (S T b d : Trees) → S ≡ tree dynamic b none → T ≡ tree dynamic d none → upcasts_between V a S b d ≡ upcasts_of V a (S +++ T)
between-read V a S T b d e f = ap (λ z. upcasts_between V a z b d) e ∙ sym (ap (λ z. upcasts_of V a (z +++ T)) e ∙ ap (λ z. upcasts_of V a (tree dynamic b z)) f)
