-- What a crate sees behind what it sees alike with an earlier one, and all that a crate sees as what is from the number 0 on.
use Rattle.std.proofs.Common.{◌≡◌, ℕ, ◌+◌, Bool, List, [], ◌∷◌, ◌++◌, ◌&&◌, map, take, refl, sym, ap, ◌∙◌}
use Rattle.std.proofs.lemmas.List.{take-map}
use Rattle.std.specs.Prelude.{filter, leb, sum_by}
use Rattle.type_terms.specs.Promised.Label.{Sort, of_type}
use Rattle.type_terms.specs.Promised.Worlds.{StructDecl, TraitDecl, ImplDecl, sees}
use Rattle.type_terms.specs.Promised.Handles.{Entry, Keeps}
use Rattle.type_terms.specs.declared.AdtId.{AdtId}
use Rattle.type_terms.specs.declared.TraitId.{TraitId}
use Rattle.text_language.specs.Promised.Declarations as text
use Rattle.text_language.specs.Promised.Declarations.{world_of}
use Rattle.declarations.specs.declared.items.AdtDef.{AdtDef}
use Rattle.declarations.specs.declared.items.TraitDef.{TraitDef}
use Rattle.declarations.specs.Held.{AreHeld}
use Rattle.declarations.specs.Items.{Items, HeldImpl, struct_in, trait_in, written}
use Rattle.declarations.proofs.Growth.{all-written}
use Rattle.text_tables.specs.Numbered.{IsNumbered, EachNumbered}
use Rattle.text_lowering.specs.Behind.{AreBefore, AreSeenAlike, EndAtDifference, from_difference, is_new, new_structs, new_traits, new_impls, new_struct_sorts, new_trait_sorts, new_impl_sorts, new_struct_terms, new_trait_terms, new_impl_terms, most_new_terms}
use Rattle.text_lowering.specs.MostTerms.{struct_terms, trait_terms, impl_terms, struct_terms_seen, trait_terms_seen, impl_terms_seen}
use Rattle.text_lowering.specs.Promised.SeenWorlds.{plain_struct, plain_trait, plain_impl, plainly_seen_from}
use Rattle.text_lowering.specs.Seen.{param_sorts, struct_sorts_seen, trait_sorts_seen, impl_sorts_seen}
use Rattle.text_lowering.proofs.Rows.{filter-read, first-kept, rest-behind, first-before, sum-from, from-zero, sum-from-zero}
use Rattle.text_lowering.proofs.Views.{held_in, view-written}

map-same : {A B C : Type 0} (f : A → B) (g : B → C) (h : A → C) → ((x : A) → g (f x) ≡ h x) → (xs : List A) → map g (map f xs) ≡ map h xs
map-same f g h e [] = refl
map-same f g h e (x ∷ xs) = ap (λ y. y ∷ map g (map f xs)) (e x) ∙ ap (λ l. h x ∷ l) (map-same f g h e xs)

-- ---- items that are read plainly
module _ {N D : Type 0} (plain : D → D) (item : N → D) (ns : List N) where
  plainly : (p : D → Bool) → map plain (filter p (map item ns)) ≡ map (λ n. plain (item n)) (filter (λ n. p (item n)) ns)
  plainly p = ap (map plain) (filter-read item p ns) ∙ map-same item plain (λ n. plain (item n)) (λ n. refl) (filter (λ n. p (item n)) ns)

  module _ (name : D → ℕ) (numbered : EachNumbered (λ k n. name (item n) ≡ k) ns) (p q : D → Bool) (end seen : ℕ) (alike : AreSeenAlike (λ n. p (item n)) (λ n. q (item n)) ns end seen) (old : List D) (was : old ≡ map plain (filter q (map item ns))) where
    kept : take seen old ≡ map (λ n. plain (item n)) (filter (λ n. p (item n)) (take end ns))
    kept = first-kept (λ n. plain (item n)) (λ n. p (item n)) (λ n. q (item n)) ns end seen alike old (was ∙ plainly q)

    kept-and-new : take seen old ++ map plain (filter (λ x. leb end (name x) && p x) (map item ns)) ≡ map plain (filter p (map item ns))
    kept-and-new =
        ap (λ l. l ++ map plain (filter (λ x. leb end (name x) && p x) (map item ns))) kept
        ∙ ap (λ l. map (λ n. plain (item n)) (filter (λ n. p (item n)) (take end ns)) ++ l) (plainly (λ x. leb end (name x) && p x))
        ∙ rest-behind (λ n. p (item n)) (λ n. name (item n)) ns numbered (λ n. plain (item n)) end
        ∙ sym (plainly p)

    kept-before : {X : Type 0} (own : X → ℕ) (read : X → D) → ((x : X) → name (read x) ≡ own x) → ((x : D) → name (plain x) ≡ name x) → (xs : List X) → map read xs ≡ take seen old
        → AreBefore (λ n. leb end (name (item n)) && p (item n)) ns own xs
    kept-before own read e f xs h =
        first-before (λ n. p (item n)) (λ n. name (item n)) ns numbered end own xs
        (sym (map-same read name own e xs) ∙ ap (map name) (h ∙ kept)
        ∙ map-same (λ n. plain (item n)) name (λ n. name (item n)) (λ n. f (item n)) (filter (λ n. p (item n)) (take end ns)))

module _ (d : text.Declarations) (c e : ℕ) (numbered : IsNumbered d) where
  struct-names : EachNumbered (λ k s. s.item.name ≡ k) d.structs
  struct-names k s at = (numbered.structs k s at).0

  trait-names : EachNumbered (λ k t. t.item.name ≡ k) d.traits
  trait-names k t at = (numbered.traits k t at).0

  impl-names : EachNumbered (λ k i. i.item.name ≡ k) d.impls
  impl-names k i at = (numbered.impls k i at).0

  abbrev StructsAlike : ℕ → ℕ → Type 0
  StructsAlike = AreSeenAlike (λ (s : text.NamedStruct). sees (world_of d) c s.item.home) (λ s. sees (world_of d) e s.item.home) d.structs

  abbrev TraitsAlike : ℕ → ℕ → Type 0
  TraitsAlike = AreSeenAlike (λ (t : text.NamedTrait). sees (world_of d) c t.item.home) (λ t. sees (world_of d) e t.item.home) d.traits

  abbrev ImplsAlike : ℕ → ℕ → Type 0
  ImplsAlike = AreSeenAlike (λ (i : text.NamedImpl). sees (world_of d) c i.item.home) (λ i. sees (world_of d) e i.item.home) d.impls

  -- ---- what they are
  module _ (es : List Entry) (end seen : ℕ) where
    pub structs-behind : StructsAlike end seen → (xs old : List (AdtId × AdtDef)) → map (struct_in es) old ≡ (plainly_seen_from d e).structs → xs ≡ take seen old → map (struct_in es) xs ++ new_structs d c end ≡ (plainly_seen_from d c).structs
    structs-behind alike xs old was is =
        ap (λ l. l ++ new_structs d c end) (ap (map (struct_in es)) is ∙ sym (take-map (struct_in es) seen old))
        ∙ kept-and-new plain_struct (λ (s : text.NamedStruct). s.item) d.structs (λ x. x.name) struct-names (λ (x : StructDecl). sees (world_of d) c x.home) (λ x. sees (world_of d) e x.home) end seen alike (map (struct_in es) old) was

    pub traits-behind : TraitsAlike end seen → (xs old : List (TraitId × TraitDef)) → map (trait_in es) old ≡ (plainly_seen_from d e).traits → xs ≡ take seen old → map (trait_in es) xs ++ new_traits d c end ≡ (plainly_seen_from d c).traits
    traits-behind alike xs old was is =
        ap (λ l. l ++ new_traits d c end) (ap (map (trait_in es)) is ∙ sym (take-map (trait_in es) seen old))
        ∙ kept-and-new plain_trait (λ (t : text.NamedTrait). t.item) d.traits (λ x. x.name) trait-names (λ (x : TraitDecl). sees (world_of d) c x.home) (λ x. sees (world_of d) e x.home) end seen alike (map (trait_in es) old) was

    pub impls-behind : ImplsAlike end seen → (xs old : List HeldImpl) → map (held_in es) old ≡ (plainly_seen_from d e).impls → xs ≡ take seen old → map (held_in es) xs ++ new_impls d c end ≡ (plainly_seen_from d c).impls
    impls-behind alike xs old was is =
        ap (λ l. l ++ new_impls d c end) (ap (map (held_in es)) is ∙ sym (take-map (held_in es) seen old))
        ∙ kept-and-new plain_impl (λ (i : text.NamedImpl). i.item) d.impls (λ x. x.name) impl-names (λ (x : ImplDecl). sees (world_of d) c x.home) (λ x. sees (world_of d) e x.home) end seen alike (map (held_in es) old) was

    -- ---- the numbers of what stays are below those of what is new
    pub structs-before : StructsAlike end seen → (xs old : List (AdtId × AdtDef)) → map (struct_in es) old ≡ (plainly_seen_from d e).structs → xs ≡ take seen old
        → AreBefore (λ s. is_new d c end s.item.home s.item.name) d.structs (λ x. x.0.index) xs
    structs-before alike xs old was is =
        kept-before plain_struct (λ (s : text.NamedStruct). s.item) d.structs (λ x. x.name) struct-names (λ (x : StructDecl). sees (world_of d) c x.home) (λ x. sees (world_of d) e x.home) end seen alike (map (struct_in es) old) was
        (λ (x : AdtId × AdtDef). x.0.index) (struct_in es) (λ x. refl) (λ x. refl) xs (ap (map (struct_in es)) is ∙ sym (take-map (struct_in es) seen old))

    pub traits-before : TraitsAlike end seen → (xs old : List (TraitId × TraitDef)) → map (trait_in es) old ≡ (plainly_seen_from d e).traits → xs ≡ take seen old
        → AreBefore (λ t. is_new d c end t.item.home t.item.name) d.traits (λ x. x.0.index) xs
    traits-before alike xs old was is =
        kept-before plain_trait (λ (t : text.NamedTrait). t.item) d.traits (λ x. x.name) trait-names (λ (x : TraitDecl). sees (world_of d) c x.home) (λ x. sees (world_of d) e x.home) end seen alike (map (trait_in es) old) was
        (λ (x : TraitId × TraitDef). x.0.index) (trait_in es) (λ x. refl) (λ x. refl) xs (ap (map (trait_in es)) is ∙ sym (take-map (trait_in es) seen old))

    pub impls-before : ImplsAlike end seen → (xs old : List HeldImpl) → map (held_in es) old ≡ (plainly_seen_from d e).impls → xs ≡ take seen old
        → AreBefore (λ i. is_new d c end i.item.home i.item.name) d.impls (λ x. x.id.index) xs
    impls-before alike xs old was is =
        kept-before plain_impl (λ (i : text.NamedImpl). i.item) d.impls (λ x. x.name) impl-names (λ (x : ImplDecl). sees (world_of d) c x.home) (λ x. sees (world_of d) e x.home) end seen alike (map (held_in es) old) was
        (λ (x : HeldImpl). x.id.index) (held_in es) (λ x. refl) (λ x. refl) xs (ap (map (held_in es)) is ∙ sym (take-map (held_in es) seen old))

  -- ---- the sorts of their parameters
  module _ (end seen : ℕ) where
    pub struct-sorts-behind : StructsAlike end seen → (old : List (List Sort)) → old ≡ struct_sorts_seen d e → take seen old ++ new_struct_sorts d c end ≡ struct_sorts_seen d c
    struct-sorts-behind alike old was =
        ap (λ l. l ++ new_struct_sorts d c end) (first-kept (λ (s : text.NamedStruct). s.kinds) (λ s. sees (world_of d) c s.item.home) (λ s. sees (world_of d) e s.item.home) d.structs end seen alike old was)
        ∙ rest-behind (λ (s : text.NamedStruct). sees (world_of d) c s.item.home) (λ s. s.item.name) d.structs struct-names (λ s. s.kinds) end

    pub trait-sorts-behind : TraitsAlike end seen → (old : List (List Sort)) → old ≡ trait_sorts_seen d e → take seen old ++ new_trait_sorts d c end ≡ trait_sorts_seen d c
    trait-sorts-behind alike old was =
        ap (λ l. l ++ new_trait_sorts d c end) (first-kept (λ (t : text.NamedTrait). of_type ∷ t.kinds) (λ t. sees (world_of d) c t.item.home) (λ t. sees (world_of d) e t.item.home) d.traits end seen alike old was)
        ∙ rest-behind (λ (t : text.NamedTrait). sees (world_of d) c t.item.home) (λ t. t.item.name) d.traits trait-names (λ t. of_type ∷ t.kinds) end

    pub impl-sorts-behind : ImplsAlike end seen → (old : List (List Sort)) → old ≡ impl_sorts_seen d e → take seen old ++ new_impl_sorts d c end ≡ impl_sorts_seen d c
    impl-sorts-behind alike old was =
        ap (λ l. l ++ new_impl_sorts d c end) (first-kept param_sorts (λ (i : text.NamedImpl). sees (world_of d) c i.item.home) (λ i. sees (world_of d) e i.item.home) d.impls end seen alike old was)
        ∙ rest-behind (λ (i : text.NamedImpl). sees (world_of d) c i.item.home) (λ i. i.item.name) d.impls impl-names param_sorts end

  -- ---- the terms that are made of them
  pub most-new : (s t i : ℕ) → EndAtDifference (λ (x : text.NamedStruct). sees (world_of d) c x.item.home) (λ x. sees (world_of d) e x.item.home) d.structs s
      → EndAtDifference (λ (x : text.NamedTrait). sees (world_of d) c x.item.home) (λ x. sees (world_of d) e x.item.home) d.traits t
      → EndAtDifference (λ (x : text.NamedImpl). sees (world_of d) c x.item.home) (λ x. sees (world_of d) e x.item.home) d.impls i
      → sum_by (new_struct_terms d c s) d.structs + sum_by (new_trait_terms d c t) d.traits + sum_by (new_impl_terms d c i) d.impls ≡ most_new_terms d c e
  most-new s t i f g h =
      ap (λ n. n + sum_by (new_trait_terms d c t) d.traits + sum_by (new_impl_terms d c i) d.impls)
      (sum-from (λ (x : text.NamedStruct). sees (world_of d) c x.item.home) (λ x. x.item.name) d.structs struct-names s (λ x. struct_terms x.item) ∙ ap (sum_by (struct_terms_seen d c)) f)
      ∙ ap (λ n. structs + n + sum_by (new_impl_terms d c i) d.impls)
      (sum-from (λ (x : text.NamedTrait). sees (world_of d) c x.item.home) (λ x. x.item.name) d.traits trait-names t (λ x. trait_terms x.item) ∙ ap (sum_by (trait_terms_seen d c)) g)
      ∙ ap (λ n. structs + traits + n)
      (sum-from (λ (x : text.NamedImpl). sees (world_of d) c x.item.home) (λ x. x.item.name) d.impls impl-names i (λ x. impl_terms x.item) ∙ ap (sum_by (impl_terms_seen d c)) h)
    where
      structs : ℕ
      structs = sum_by (struct_terms_seen d c) (from_difference (λ (x : text.NamedStruct). sees (world_of d) c x.item.home) (λ x. sees (world_of d) e x.item.home) d.structs)

      traits : ℕ
      traits = sum_by (trait_terms_seen d c) (from_difference (λ (x : text.NamedTrait). sees (world_of d) c x.item.home) (λ x. sees (world_of d) e x.item.home) d.traits)

-- ---- all three, one after the other: over entries `es` what stays, then the structs over `one`, the traits over `two`, the impls over `all`
module _ (d : text.Declarations) (c : ℕ) where
  pub written-behind : (es one two all : List Entry) → Keeps es one → Keeps one two → Keeps two all → (old first second last : Items) → AreHeld es old → AreHeld one first → AreHeld two second → (s t n : ℕ)
      → map (struct_in es) old.structs ++ new_structs d c s ≡ (plainly_seen_from d c).structs → map (trait_in es) old.traits ++ new_traits d c t ≡ (plainly_seen_from d c).traits
      → map (held_in es) old.impls ++ new_impls d c n ≡ (plainly_seen_from d c).impls
      → first ≡ record old { structs = first.structs } → second ≡ record first { traits = second.traits } → last ≡ record second { impls = last.impls }
      → map (struct_in one) first.structs ≡ map (struct_in es) old.structs ++ new_structs d c s → map (trait_in two) second.traits ≡ map (trait_in one) first.traits ++ new_traits d c t
      → map (held_in all) last.impls ≡ map (held_in two) second.impls ++ new_impls d c n → written all last ≡ plainly_seen_from d c
  written-behind es one two all i j k old first second last held held_first held_second s t n was_structs was_traits was_impls a b z structs traits impls =
      view-written one two all j k first second last b z held_first held_second (plainly_seen_from d c).structs (plainly_seen_from d c).traits (plainly_seen_from d c).impls
      (structs ∙ was_structs)
      (traits ∙ ap (λ l. l ++ new_traits d c t) (ap (λ (l : Items). map (trait_in one) l.traits) a ∙ ap (λ w. w.traits) (all-written es one i old held)) ∙ was_traits)
      (impls
      ∙ ap (λ l. l ++ new_impls d c n)
      (ap (λ (l : Items). map (held_in two) l.impls) b ∙ ap (λ (l : Items). map (held_in two) l.impls) a ∙ ap (λ w. w.impls) (all-written es two (λ m x y. j m x (i m x y)) old held))
      ∙ was_impls)

  -- ---- all from the number 0 on
  pub all-structs : new_structs d c 0 ≡ (plainly_seen_from d c).structs
  all-structs = ap (map plain_struct) (from-zero (λ (x : StructDecl). sees (world_of d) c x.home) (λ x. x.name) (world_of d).structs)

  pub all-traits : new_traits d c 0 ≡ (plainly_seen_from d c).traits
  all-traits = ap (map plain_trait) (from-zero (λ (x : TraitDecl). sees (world_of d) c x.home) (λ x. x.name) (world_of d).traits)

  pub all-impls : new_impls d c 0 ≡ (plainly_seen_from d c).impls
  all-impls = ap (map plain_impl) (from-zero (λ (x : ImplDecl). sees (world_of d) c x.home) (λ x. x.name) (world_of d).impls)

  pub all-struct-sorts : new_struct_sorts d c 0 ≡ struct_sorts_seen d c
  all-struct-sorts = ap (map (λ s. s.kinds)) (from-zero (λ (s : text.NamedStruct). sees (world_of d) c s.item.home) (λ s. s.item.name) d.structs)

  pub all-trait-sorts : new_trait_sorts d c 0 ≡ trait_sorts_seen d c
  all-trait-sorts = ap (map (λ t. of_type ∷ t.kinds)) (from-zero (λ (t : text.NamedTrait). sees (world_of d) c t.item.home) (λ t. t.item.name) d.traits)

  pub all-impl-sorts : new_impl_sorts d c 0 ≡ impl_sorts_seen d c
  all-impl-sorts = ap (map param_sorts) (from-zero (λ (i : text.NamedImpl). sees (world_of d) c i.item.home) (λ i. i.item.name) d.impls)

  pub all-struct-terms : sum_by (new_struct_terms d c 0) d.structs ≡ sum_by (struct_terms_seen d c) d.structs
  all-struct-terms = sum-from-zero (λ (s : text.NamedStruct). sees (world_of d) c s.item.home) (λ s. s.item.name) (λ s. struct_terms s.item) d.structs

  pub all-trait-terms : sum_by (new_trait_terms d c 0) d.traits ≡ sum_by (trait_terms_seen d c) d.traits
  all-trait-terms = sum-from-zero (λ (t : text.NamedTrait). sees (world_of d) c t.item.home) (λ t. t.item.name) (λ t. trait_terms t.item) d.traits

  pub all-impl-terms : sum_by (new_impl_terms d c 0) d.impls ≡ sum_by (impl_terms_seen d c) d.impls
  all-impl-terms = sum-from-zero (λ (i : text.NamedImpl). sees (world_of d) c i.item.home) (λ i. i.item.name) (λ i. impl_terms i.item) d.impls
