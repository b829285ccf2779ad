-- The numbers of the impls that a crate sees of a text: each is that of one impl alone, and all are below that of the text's impls.
use Rattle.std.proofs.Common.{◌≡◌, ℕ, zero, suc, ◌<◌, arith, List, [], ◌∷◌, map, length, Some, sym, ap, ◌∙◌, subst}
use Rattle.std.proofs.lemmas.Option.{same_Some}
use Rattle.std.specs.List.{slice_get}
use Rattle.type_terms.specs.Promised.Erased.{erased_impl, erased_world}
use Rattle.type_terms.specs.Promised.Worlds.{World, ImplDecl, sees}
use Rattle.type_terms.specs.Promised.Proofs.{In}
use Rattle.type_terms.proofs.ProofEntries.{map-in}
use Rattle.type_terms.proofs.Members.{here, there, in-filter, in-map}
use Rattle.type_terms.specs.Promised.Handles.{Entry}
use Rattle.declarations.specs.Items.{Items, HeldImpl, IsAbove, declared, impl_in}
use Rattle.declarations.specs.Promised.Elaboration.{Each}
use Rattle.text_language.specs.Promised.Declarations.{Declarations, NamedImpl, world_of}
use Rattle.text_lowering.specs.Seen.{rules_seen_from}
use Rattle.text_tables.specs.Numbered.{IsNumbered}
use Rattle.sessions.specs.Checking.{HaveOwnNumbers}
use Rattle.sessions.specs.Numbers.{ImplsAreNumbered}
use Rattle.sessions.proofs.SeenPlainly.{rules-are}

-- an impl of the text, with its place
record Written (d : Declarations) (x : ImplDecl) : Type 0 where
  impl : NamedImpl
  place : ℕ
  there_is : slice_get d.impls place ≡ Some impl
  is : erased_impl impl.item ≡ x

module _ (d : Declarations) (c : ℕ) (numbered : IsNumbered d) where
  written-at : (x : ImplDecl) → In x (rules_seen_from d c).impls → Written d x
  written-at x h =
      let f = in-filter (λ (y : ImplDecl). sees (erased_world (world_of d)) c y.home) (map erased_impl (map (λ (n : NamedImpl). n.item) d.impls)) x h in
      let a = map-in erased_impl (map (λ (n : NamedImpl). n.item) d.impls) x f.0 in
      let b = map-in (λ (n : NamedImpl). n.item) d.impls a.0 a.1 in
      record { impl = b.0; place = b.1.0; there_is = b.1.1; is = ap erased_impl b.2 ∙ a.2 }

  number-is : (x : ImplDecl) (w : Written d x) → x.name ≡ w.place
  number-is x w = ap (λ (y : ImplDecl). y.name) (sym w.is) ∙ (numbered.impls w.place w.impl w.there_is).0

  pub own-numbers : HaveOwnNumbers (rules_seen_from d c)
  own-numbers x y h g e =
      let v = written-at x h in
      let w = written-at y g in
      let place : v.place ≡ w.place = sym (number-is x v) ∙ e ∙ number-is y w in
      let impl : v.impl ≡ w.impl = same_Some v.impl w.impl (sym v.there_is ∙ ap (slice_get d.impls) place ∙ w.there_is) in
      sym v.is ∙ ap (λ (n : NamedImpl). erased_impl n.item) impl ∙ w.is

  place-below : {A : Type 0} (xs : List A) (k : ℕ) (x : A) → slice_get xs k ≡ Some x → k < length xs
  place-below [] k x e = absurd cc
  place-below (y ∷ xs) zero x e = omega arith
  place-below (y ∷ xs) (suc k) x e = let h = place-below xs k x e in omega (arith, h)

  pub names-below : (x : ImplDecl) → In x (rules_seen_from d c).impls → x.name < length d.impls
  names-below x h = let w = written-at x h in subst (λ n. n < length d.impls) (sym (number-is x w)) (place-below d.impls w.place w.impl w.there_is)

  all-of : {A : Type 0} (P : A → Type 0) (xs : List A) → ((x : A) → In x xs → P x) → Each P xs
  all-of P [] f = tt
  all-of P (x ∷ xs) f = (f x (here x xs), all-of P xs (λ y h. f y (there y x xs h)))

  pub numbers-below : (es : List Entry) (decls : Items) → declared es decls ≡ rules_seen_from d c → IsAbove (length d.impls) decls
  numbers-below es decls e =
      all-of (λ (i : HeldImpl). i.id.index < length d.impls) decls.impls
      (λ i h. names-below (erased_impl (impl_in es i.id i.def))
      (subst (λ (W : World). In (erased_impl (impl_in es i.id i.def)) W.impls) e
      (in-map erased_impl (map (λ (j : HeldImpl). impl_in es j.id j.def) decls.impls) (impl_in es i.id i.def) (in-map (λ (j : HeldImpl). impl_in es j.id j.def) decls.impls i h))))

pub impls-numbered : ImplsAreNumbered
impls-numbered d numbered c es decls seen =
    let rules = rules-are es decls d c seen in
    record { above = numbers-below d c numbered es decls rules; own = subst HaveOwnNumbers (sym rules) (own-numbers d c numbered) }
