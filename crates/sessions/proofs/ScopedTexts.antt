-- The header and the where-clauses of each impl of a text without a fault, of those that later versions add too, name only what its
-- crate sees, by the crate's own view.
use Rattle.std.proofs.Common.{◌≡◌, ◌⊎◌, inl, inr, ℕ, Bool, true, ◌==◌, map, refl, sym, subst, Ok}
use Rattle.type_terms.specs.Promised.Label.{Label, adt, principal, auto_trait, of_trait, predicate}
use Rattle.type_terms.specs.Promised.Trees.{Trees, none, tree}
use Rattle.type_terms.specs.Promised.Worlds.{World, StructDecl, TraitDecl, Reference, sees, structs_named, traits_named, view_of}
use Rattle.type_terms.specs.Promised.Erased.{erased_reference}
use Rattle.type_terms.specs.Promised.Proofs.{In}
use Rattle.type_terms.specs.Promised.Versions.{sees_struct, sees_trait, label_allowed, label_shaped, well_written, in_scope}
use Rattle.type_terms.proofs.Members.{in-append, in-filter, filter-in, in-map, some-member, member-some}
use Rattle.text_lowering.proofs.Trees.{and, and-left, and-right}
use Rattle.text_language.specs.Promised.Declarations.{Declarations, NamedImpl, LaterImpl}
use Rattle.text_lowering.proofs.Tests.{is_good_impl}
use Rattle.type_terms.proofs.NoHolds.{member-each}
use Rattle.sessions.specs.Promised.CoherentTexts.{text_world}
use Rattle.sessions.specs.ScopedTexts.{written_impls, IsInScope, ImplsAreInScope}
use Rattle.sessions.proofs.FormedTexts.{ImplFormed}
use Rattle.sessions.proofs.FormedViews.{each-in, map-in}
use Rattle.sessions.proofs.KeptTexts.{HeaderKept, AllKept, texts-are-kept}
use Rattle.sessions.proofs.JoinedTexts.{ordered, uses-there, scope-of, clause-scope-of}
use Rattle.sessions.proofs.Seeing.{seen-in-view}
use Rattle.text_language.proofs.SameTexts.{text-gives}

-- ---- what is well written with some names is so with more
module _ (S P S' P' : ℕ → Bool) (structs : (s : ℕ) → S s ≡ true → S' s ≡ true) (traits : (t : ℕ) → P t ≡ true → P' t ≡ true) where
  allowed-more : (l : Label) → label_allowed S P l ≡ true → label_allowed S' P' l ≡ true
  allowed-more (adt s) h = structs s h
  allowed-more (principal n t) h = traits t h
  allowed-more (auto_trait t) h = traits t h
  allowed-more (predicate (of_trait t)) h = traits t h
  allowed-more l h = refl

  written-more : (t : Trees) → well_written S P t ≡ true → well_written S' P' t ≡ true
  written-more none h = refl
  written-more (tree l c o) h =
      let a = and-right (label_allowed S P l) _ h in
      let b = and-right (label_shaped l c) _ a in
      and (label_allowed S' P' l) _ (allowed-more l (and-left (label_allowed S P l) _ h))
      (and (label_shaped l c) _ (and-left (label_shaped l c) _ a)
      (and (well_written S' P' c) _ (written-more c (and-left (well_written S P c) _ b)) (written-more o (and-right (well_written S P c) _ b))))

-- ---- by a crate's own view
module _ (d : Declarations) (a : AllKept d) (c : ℕ) where
  abbrev W : World
  W = text_world d

  abbrev V : World
  V = view_of W c

  shown : (e : ℕ) → sees W c e ≡ true → sees V c e ≡ true
  shown e h = seen-in-view W (ordered d a) (uses-there d a) c e h

  struct-shown : (s : ℕ) → sees_struct W c s ≡ true → sees_struct V c s ≡ true
  struct-shown s h =
      let x = some-member (λ (y : StructDecl). sees W c y.home) (structs_named W s) h in
      let i = in-filter (λ (y : StructDecl). y.name == s) W.structs x.0 x.1 in
      member-some (λ (y : StructDecl). sees V c y.home) (structs_named V s) x.0
      (filter-in (λ (y : StructDecl). y.name == s) V.structs x.0 (filter-in (λ (y : StructDecl). sees W c y.home) W.structs x.0 i.0 x.2) i.1) (shown x.0.home x.2)

  trait-shown : (t : ℕ) → sees_trait W c t ≡ true → sees_trait V c t ≡ true
  trait-shown t h =
      let x = some-member (λ (y : TraitDecl). sees W c y.home) (traits_named W t) h in
      let i = in-filter (λ (y : TraitDecl). y.name == t) W.traits x.0 x.1 in
      member-some (λ (y : TraitDecl). sees V c y.home) (traits_named V t) x.0
      (filter-in (λ (y : TraitDecl). y.name == t) V.traits x.0 (filter-in (λ (y : TraitDecl). sees W c y.home) W.traits x.0 i.0 x.2) i.1) (shown x.0.home x.2)

  pub scope-shown : (r : Reference) → in_scope W c r ≡ true → in_scope V c r ≡ true
  scope-shown r h =
      and (sees_trait V c r.trait) _ (trait-shown r.trait (and-left (sees_trait W c r.trait) _ h))
      (written-more (sees_struct W c) (sees_trait W c) (sees_struct V c) (sees_trait V c) struct-shown trait-shown r.args (and-right (sees_trait W c r.trait) _ h))

-- ---- impls
pub header-scoped : (d : Declarations) (a : AllKept d) (n : NamedImpl) → is_good_impl n ≡ true → HeaderKept d n → ImplFormed d n → in_scope (view_of (text_world d) n.item.home) n.item.home (erased_reference n.item.header) ≡ true
header-scoped d a n g h f = scope-shown d a n.item.home (erased_reference n.item.header) (scope-of d a n g h f)

pub clause-scoped : (d : Declarations) (a : AllKept d) (n : NamedImpl) → is_good_impl n ≡ true → ImplFormed d n → (r : Reference) → In r n.item.clauses → in_scope (view_of (text_world d) n.item.home) n.item.home (erased_reference r) ≡ true
clause-scoped d a n g f r i = scope-shown d a n.item.home (erased_reference r) (clause-scope-of d a n g f r i)

-- of the impls that a text declares, and of those that later versions add
module _ (d : Declarations) (a : AllKept d) where
  good-later : (i : LaterImpl) → In i d.later_impls → is_good_impl i.added ≡ true
  good-later i m = member-each is_good_impl (map (λ (x : LaterImpl). x.added) d.later_impls) i.added a.well.later_impls (in-map (λ (x : LaterImpl). x.added) d.later_impls i m)

  own-scoped : (n : NamedImpl) → In n d.impls → IsInScope d n
  own-scoped n i =
      let good = member-each is_good_impl d.impls n a.well.impls i in
      let formed = each-in (ImplFormed d) d.impls a.formed.impls n i in
      record { header = header-scoped d a n good (each-in (HeaderKept d) d.impls a.kept.headers n i) formed; clauses = clause-scoped d a n good formed }

  pub later-scoped : (i : LaterImpl) → In i d.later_impls → IsInScope d i.added
  later-scoped i m =
      let formed = each-in (λ (x : LaterImpl). ImplFormed d x.added) d.later_impls a.formed.later_impls i m in
      record {
        header = header-scoped d a i.added (good-later i m) (each-in (λ (x : LaterImpl). HeaderKept d x.added) d.later_impls a.kept.later_headers i m) formed;
        clauses = clause-scoped d a i.added (good-later i m) formed;
      }

  all-scoped : (n : NamedImpl) → In n (written_impls d) → IsInScope d n
  all-scoped n m = by (in-append n d.impls (map (λ (x : LaterImpl). x.added) d.later_impls) m)
    where
      by : In n d.impls ⊎ In n (map (λ (x : LaterImpl). x.added) d.later_impls) → IsInScope d n
      by (inl i) = own-scoped n i
      by (inr i) = let q = map-in (λ (x : LaterImpl). x.added) d.later_impls n i in subst (IsInScope d) (sym q.2) (later-scoped q.0 q.1)

pub impls-are-in-scope : ImplsAreInScope
impls-are-in-scope d (bytes, t) n m = all-scoped d (texts-are-kept bytes d (text-gives bytes (Ok d) t)) n m
