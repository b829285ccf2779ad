-- The items of a view, added one after the other.
use Rattle.std.proofs.Common.{◌≡◌, ℕ, ◌+◌, ◌<◌, ◌≤◌, Bool, true, false, cond, List, [], ◌∷◌, ◌++◌, length, map, take, Some, refl, sym, ap, ◌∙◌, subst, arith}
use Rattle.std.specs.Prelude.{◌==◌, filter, slice_get, sum_by, if◌then◌else◌}
use Rattle.std.proofs.lemmas.Bool.{ne_eqb}
use Rattle.std.proofs.lemmas.List.{length-map}
use Rattle.std.proofs.lemmas.List.Sums.{sum_by_push, sum_by-take-le}
use Rattle.type_terms.specs.Promised.Label.{of_type}
use Rattle.type_terms.proofs.TermRules.{erased-views, filter-map}
use Rattle.type_terms.specs.Promised.Erased.{erased_struct, erased_trait, erased_world}
use Rattle.type_terms.specs.Promised.Worlds.{World, StructDecl, TraitDecl, ImplDecl, structs_named, traits_named}
use Rattle.text_language.specs.Promised.Declarations as text
use Rattle.text_language.specs.Promised.Declarations.{world_of}
use Rattle.type_terms.specs.Promised.Handles.{Entry, Keeps}
use Rattle.type_terms.specs.declared.AdtId.{AdtId}
use Rattle.type_terms.specs.declared.TraitId.{TraitId}
use Rattle.declarations.specs.declared.items.AdtDef.{AdtDef}
use Rattle.declarations.specs.declared.items.TraitDef.{TraitDef}
use Rattle.declarations.specs.Held.{AreHeld}
use Rattle.declarations.specs.Items.{Items, HeldImpl, struct_in, trait_in, impl_in, written, declared, with_struct, with_trait, with_impl}
use Rattle.declarations.specs.Promised.Elaboration.{Each}
use Rattle.declarations.proofs.Growth.{all-written}
use Rattle.text_lowering.specs.Promised.SeenWorlds.{plain_struct, plain_trait, plain_impl, plainly_seen_from}
use Rattle.text_lowering.proofs.Plainly.{world-erased}
use Rattle.text_lowering.specs.Behind.{AreBefore, is_new, new_structs, new_traits, new_impls, new_struct_sorts, new_trait_sorts, new_impl_sorts, new_struct_terms, new_trait_terms, new_impl_terms}
use Rattle.text_lowering.specs.MostTerms.{struct_terms, trait_terms, impl_terms}
use Rattle.text_lowering.specs.Promised.SeenWorlds.{seen_from}
use Rattle.text_lowering.specs.Seen.{rules_seen_from, impl_sorts, param_sorts, struct_sorts, trait_sorts}
use Rattle.text_lowering.proofs.Going.{one-more-taken, Gone, gone-first, gone-passed, gone-taken, gone-again, all-taken}

-- numbers that are below n are not n
none-there : {A B C : Type 0} (number : A → ℕ) (name : C → ℕ) (read : A → B) (erase : B → C) → ((x : A) → name (erase (read x)) ≡ number x) → (n : ℕ) (xs : List A) → Each (λ x. number x < n) xs
    → filter (λ x. name x == n) (map erase (map read xs)) ≡ []
none-there number name read erase same n [] h = refl
none-there number name read erase same n (x ∷ xs) h =
    ap (λ b. cond b (erase (read x) ∷ filter (λ y. name y == n) (map erase (map read xs))) (filter (λ y. name y == n) (map erase (map read xs))))
    (ap (λ k. k == n) (same x) ∙ ne_eqb (number x) n (λ e. omega (arith, e, h.0))) ∙ none-there number name read erase same n xs h.1

-- all are gone over, each read plainly: those that pass, which is told by what stays
all-plain : {N D : Type 0} (plain : D → D) (item : N → D) (p : D → Bool) → ((x : D) → p (plain x) ≡ p x) → (ns : List N) (i : ℕ) → i ≡ length ns
    → filter p (take i (map (λ n. plain (item n)) ns)) ≡ map plain (filter p (map item ns))
all-plain plain item p h ns i e =
    ap (filter p) (all-taken (map (λ n. plain (item n)) ns) i (e ∙ sym (length-map ns (λ n. plain (item n)))) ∙ in-turn plain item ns) ∙ filter-map plain p p h (map item ns)
  where
    in-turn : {N D : Type 0} (plain : D → D) (item : N → D) (ns : List N) → map (λ n. plain (item n)) ns ≡ map plain (map item ns)
    in-turn plain item [] = refl
    in-turn plain item (n ∷ ns) = ap (λ l. plain (item n) ∷ l) (in-turn plain item ns)

abbrev pub held_in : List Entry → HeldImpl → ImplDecl
held_in es i = impl_in es i.id i.def

-- ---- sums
sum-taken : {A : Type 0} (f : A → ℕ) (xs : List A) (i : ℕ) (x : A) → slice_get xs i ≡ Some x → sum_by f (take (i + 1) xs) ≡ sum_by f (take i xs) + f x
sum-taken f xs i x e = ap (sum_by f) (one-more-taken xs i x e) ∙ sum_by_push f (take i xs) x

sum-passed : {A : Type 0} (f : A → ℕ) (xs : List A) (i : ℕ) (x : A) → slice_get xs i ≡ Some x → sum_by f (take i xs) ≤ sum_by f (take (i + 1) xs)
sum-passed f xs i x e = let more = sum-taken f xs i x e in omega (arith, more)

-- ---- Structs: the state of the loop
abbrev pub StructsGone : text.Declarations → ℕ → ℕ → List Entry → Items → List Entry → ℕ → List (AdtId × AdtDef) → Type 0
StructsGone d c r old start es i xs =
    Gone (struct_in es) (struct_sorts) (λ x. x.0.index) (λ s. plain_struct s.item) (λ s. s.kinds) (λ (x : StructDecl). is_new d c r x.home x.name) d.structs (map (struct_in old) start.structs) (map struct_sorts start.structs) i xs

pub record StructsAdded (d : text.Declarations) (c : ℕ) (r : ℕ) (old : List Entry) (limit : ℕ) (start : Items) (i : ℕ) (es : List Entry) (now_limit : ℕ) (now : Items) : Type 0 where
  pub keeps : Keeps old es
  pub limited : now_limit ≡ limit
  pub others : now ≡ record start { structs = now.structs }
  pub held : AreHeld es now
  pub gone : StructsGone d c r old start es i now.structs
  pub few : length es ≤ length old + sum_by (new_struct_terms d c r) (take i d.structs)

module _ (d : text.Declarations) (c : ℕ) (r : ℕ) (old : List Entry) (limit : ℕ) (start : Items) where
  pub structs-first : AreBefore (λ s. is_new d c r s.item.home s.item.name) d.structs (λ x. x.0.index) start.structs → AreHeld old start → StructsAdded d c r old limit start 0 old limit start
  structs-first before held =
      record {
        keeps = λ j e h. h;
        limited = refl;
        others = refl;
        held = held;
        gone = gone-first (struct_in old) (struct_sorts) (λ x. x.0.index) (λ s. plain_struct s.item) (λ s. s.kinds) (λ (x : StructDecl). is_new d c r x.home x.name) d.structs (map (struct_in old) start.structs) (map struct_sorts start.structs) start.structs refl refl before;
        few = omega arith;
      }

  pub structs-passed : (i : ℕ) (es : List Entry) (now_limit : ℕ) (now : Items) (s : text.NamedStruct) → slice_get d.structs i ≡ Some s → is_new d c r s.item.home s.item.name ≡ false → StructsAdded d c r old limit start i es now_limit now
      → StructsAdded d c r old limit start (i + 1) es now_limit now
  structs-passed i es now_limit now s there unseen a =
      record {
        keeps = a.keeps;
        limited = a.limited;
        others = a.others;
        held = a.held;
        gone = gone-passed (struct_in es) (struct_sorts) (λ x. x.0.index) (λ y. plain_struct y.item) (λ s. s.kinds) (λ (x : StructDecl). is_new d c r x.home x.name) d.structs (map (struct_in old) start.structs) (map struct_sorts start.structs) i s now.structs there unseen a.gone;
        few = let more = sum-passed (new_struct_terms d c r) d.structs i s there in let had = a.few in omega (arith, more, had);
      }

  pub structs-taken : (i : ℕ) (es : List Entry) (now_limit : ℕ) (now : Items) (s : text.NamedStruct) (new : List Entry) (new_limit : ℕ) (id : AdtId) (def : AdtDef) (next : Items)
      → slice_get d.structs i ≡ Some s → is_new d c r s.item.home s.item.name ≡ true → s.item.name ≡ i → Keeps es new → new_limit ≡ now_limit
      → struct_in new (id, def) ≡ plain_struct s.item → struct_sorts (id, def) ≡ s.kinds → next ≡ with_struct now (id, def) → AreHeld new next → length new ≤ length es + struct_terms s.item → StructsAdded d c r old limit start i es now_limit now
      → StructsAdded d c r old limit start (i + 1) new new_limit next
  structs-taken i es now_limit now s new new_limit id def next there seen number k same_limit same sorted put held few a =
      record {
        keeps = λ j e h. k j e (a.keeps j e h);
        limited = same_limit ∙ a.limited;
        others = put ∙ ap (λ (n : Items). record n { structs = now.structs ++ (id, def) ∷ [] }) a.others ∙ ap (λ l. record start { structs = l }) (sym (ap (λ n. n.structs) put));
        held = held;
        gone =
            subst (StructsGone d c r old start new (i + 1)) (sym (ap (λ n. n.structs) put))
            (gone-taken (struct_in new) (struct_sorts) (λ x. x.0.index) (λ y. plain_struct y.item) (λ s. s.kinds) (λ (x : StructDecl). is_new d c r x.home x.name) d.structs (map (struct_in old) start.structs) (map struct_sorts start.structs) i s now.structs (id, def) there seen same (sorted) (ap (λ x. x.name) same ∙ number)
            (gone-again (struct_in es) (struct_in new) (struct_sorts) (λ x. x.0.index) (λ y. plain_struct y.item) (λ s. s.kinds) (λ (x : StructDecl). is_new d c r x.home x.name) d.structs (map (struct_in old) start.structs) (map struct_sorts start.structs) i now.structs (ap (λ w. w.structs) (all-written es new k now a.held)) a.gone));
        few =
            let more = sum-taken (new_struct_terms d c r) d.structs i s there ∙ ap (λ b. sum_by (new_struct_terms d c r) (take i d.structs) + (if b then struct_terms s.item else 0)) seen in
            let had = a.few in
            omega (arith, more, had, few);
      }

  pub structs-all : (i : ℕ) (es : List Entry) (now_limit : ℕ) (now : Items) → length d.structs ≡ i → StructsAdded d c r old limit start i es now_limit now → map (struct_in es) now.structs ≡ map (struct_in old) start.structs ++ new_structs d c r
  structs-all i es now_limit now end a =
      a.gone.are
      ∙ ap (λ l. map (struct_in old) start.structs ++ l) (all-plain plain_struct (λ (s : text.NamedStruct). s.item) (λ (x : StructDecl). is_new d c r x.home x.name) (λ x. refl) d.structs i (sym end))

  pub structs-few : (i : ℕ) (es : List Entry) (now_limit : ℕ) (now : Items) → StructsAdded d c r old limit start i es now_limit now → length es ≤ length old + sum_by (new_struct_terms d c r) d.structs
  structs-few i es now_limit now a = let less = sum_by-take-le (new_struct_terms d c r) d.structs i in let had = a.few in omega (arith, less, had)

  -- where the next one is seen, and fails
  pub structs-fewer : (i : ℕ) (es : List Entry) (now_limit : ℕ) (now : Items) (s : text.NamedStruct) (new : List Entry) → slice_get d.structs i ≡ Some s → is_new d c r s.item.home s.item.name ≡ true → length new ≤ length es + struct_terms s.item
      → StructsAdded d c r old limit start i es now_limit now → length new ≤ length old + sum_by (new_struct_terms d c r) d.structs
  structs-fewer i es now_limit now s new there seen few a =
      let less = sum_by-take-le (new_struct_terms d c r) d.structs (i + 1) in
      let more = sum-taken (new_struct_terms d c r) d.structs i s there ∙ ap (λ b. sum_by (new_struct_terms d c r) (take i d.structs) + (if b then struct_terms s.item else 0)) seen in
      let had = a.few in
      omega (arith, less, more, had, few)

  pub structs-sorted : (i : ℕ) (es : List Entry) (now_limit : ℕ) (now : Items) → length d.structs ≡ i → StructsAdded d c r old limit start i es now_limit now → map struct_sorts now.structs ≡ map struct_sorts start.structs ++ new_struct_sorts d c r
  structs-sorted i es now_limit now end a =
      a.gone.sorts_are
      ∙ ap (λ l. map struct_sorts start.structs ++ map (λ s. s.kinds) (filter (λ (s : text.NamedStruct). is_new d c r s.item.home s.item.name) l)) (all-taken d.structs i (sym end))

-- ---- Traits: the state of the loop
abbrev pub TraitsGone : text.Declarations → ℕ → ℕ → List Entry → Items → List Entry → ℕ → List (TraitId × TraitDef) → Type 0
TraitsGone d c r old start es i xs =
    Gone (trait_in es) (trait_sorts) (λ x. x.0.index) (λ s. plain_trait s.item) (λ t. of_type ∷ t.kinds) (λ (x : TraitDecl). is_new d c r x.home x.name) d.traits (map (trait_in old) start.traits) (map trait_sorts start.traits) i xs

pub record TraitsAdded (d : text.Declarations) (c : ℕ) (r : ℕ) (old : List Entry) (limit : ℕ) (start : Items) (i : ℕ) (es : List Entry) (now_limit : ℕ) (now : Items) : Type 0 where
  pub keeps : Keeps old es
  pub limited : now_limit ≡ limit
  pub others : now ≡ record start { traits = now.traits }
  pub held : AreHeld es now
  pub gone : TraitsGone d c r old start es i now.traits
  pub few : length es ≤ length old + sum_by (new_trait_terms d c r) (take i d.traits)

module _ (d : text.Declarations) (c : ℕ) (r : ℕ) (old : List Entry) (limit : ℕ) (start : Items) where
  pub traits-first : AreBefore (λ s. is_new d c r s.item.home s.item.name) d.traits (λ x. x.0.index) start.traits → AreHeld old start → TraitsAdded d c r old limit start 0 old limit start
  traits-first before held =
      record {
        keeps = λ j e h. h;
        limited = refl;
        others = refl;
        held = held;
        gone = gone-first (trait_in old) (trait_sorts) (λ x. x.0.index) (λ s. plain_trait s.item) (λ t. of_type ∷ t.kinds) (λ (x : TraitDecl). is_new d c r x.home x.name) d.traits (map (trait_in old) start.traits) (map trait_sorts start.traits) start.traits refl refl before;
        few = omega arith;
      }

  pub traits-passed : (i : ℕ) (es : List Entry) (now_limit : ℕ) (now : Items) (s : text.NamedTrait) → slice_get d.traits i ≡ Some s → is_new d c r s.item.home s.item.name ≡ false → TraitsAdded d c r old limit start i es now_limit now
      → TraitsAdded d c r old limit start (i + 1) es now_limit now
  traits-passed i es now_limit now s there unseen a =
      record {
        keeps = a.keeps;
        limited = a.limited;
        others = a.others;
        held = a.held;
        gone = gone-passed (trait_in es) (trait_sorts) (λ x. x.0.index) (λ y. plain_trait y.item) (λ t. of_type ∷ t.kinds) (λ (x : TraitDecl). is_new d c r x.home x.name) d.traits (map (trait_in old) start.traits) (map trait_sorts start.traits) i s now.traits there unseen a.gone;
        few = let more = sum-passed (new_trait_terms d c r) d.traits i s there in let had = a.few in omega (arith, more, had);
      }

  pub traits-taken : (i : ℕ) (es : List Entry) (now_limit : ℕ) (now : Items) (s : text.NamedTrait) (new : List Entry) (new_limit : ℕ) (id : TraitId) (def : TraitDef) (next : Items)
      → slice_get d.traits i ≡ Some s → is_new d c r s.item.home s.item.name ≡ true → s.item.name ≡ i → Keeps es new → new_limit ≡ now_limit
      → trait_in new (id, def) ≡ plain_trait s.item → trait_sorts (id, def) ≡ of_type ∷ s.kinds → next ≡ with_trait now (id, def) → AreHeld new next → length new ≤ length es + trait_terms s.item → TraitsAdded d c r old limit start i es now_limit now
      → TraitsAdded d c r old limit start (i + 1) new new_limit next
  traits-taken i es now_limit now s new new_limit id def next there seen number k same_limit same sorted put held few a =
      record {
        keeps = λ j e h. k j e (a.keeps j e h);
        limited = same_limit ∙ a.limited;
        others = put ∙ ap (λ (n : Items). record n { traits = now.traits ++ (id, def) ∷ [] }) a.others ∙ ap (λ l. record start { traits = l }) (sym (ap (λ n. n.traits) put));
        held = held;
        gone =
            subst (TraitsGone d c r old start new (i + 1)) (sym (ap (λ n. n.traits) put))
            (gone-taken (trait_in new) (trait_sorts) (λ x. x.0.index) (λ y. plain_trait y.item) (λ t. of_type ∷ t.kinds) (λ (x : TraitDecl). is_new d c r x.home x.name) d.traits (map (trait_in old) start.traits) (map trait_sorts start.traits) i s now.traits (id, def) there seen same (sorted) (ap (λ x. x.name) same ∙ number)
            (gone-again (trait_in es) (trait_in new) (trait_sorts) (λ x. x.0.index) (λ y. plain_trait y.item) (λ t. of_type ∷ t.kinds) (λ (x : TraitDecl). is_new d c r x.home x.name) d.traits (map (trait_in old) start.traits) (map trait_sorts start.traits) i now.traits (ap (λ w. w.traits) (all-written es new k now a.held)) a.gone));
        few =
            let more = sum-taken (new_trait_terms d c r) d.traits i s there ∙ ap (λ b. sum_by (new_trait_terms d c r) (take i d.traits) + (if b then trait_terms s.item else 0)) seen in
            let had = a.few in
            omega (arith, more, had, few);
      }

  pub traits-all : (i : ℕ) (es : List Entry) (now_limit : ℕ) (now : Items) → length d.traits ≡ i → TraitsAdded d c r old limit start i es now_limit now → map (trait_in es) now.traits ≡ map (trait_in old) start.traits ++ new_traits d c r
  traits-all i es now_limit now end a =
      a.gone.are
      ∙ ap (λ l. map (trait_in old) start.traits ++ l) (all-plain plain_trait (λ (s : text.NamedTrait). s.item) (λ (x : TraitDecl). is_new d c r x.home x.name) (λ x. refl) d.traits i (sym end))

  pub traits-few : (i : ℕ) (es : List Entry) (now_limit : ℕ) (now : Items) → TraitsAdded d c r old limit start i es now_limit now → length es ≤ length old + sum_by (new_trait_terms d c r) d.traits
  traits-few i es now_limit now a = let less = sum_by-take-le (new_trait_terms d c r) d.traits i in let had = a.few in omega (arith, less, had)

  -- where the next one is seen, and fails
  pub traits-fewer : (i : ℕ) (es : List Entry) (now_limit : ℕ) (now : Items) (s : text.NamedTrait) (new : List Entry) → slice_get d.traits i ≡ Some s → is_new d c r s.item.home s.item.name ≡ true → length new ≤ length es + trait_terms s.item
      → TraitsAdded d c r old limit start i es now_limit now → length new ≤ length old + sum_by (new_trait_terms d c r) d.traits
  traits-fewer i es now_limit now s new there seen few a =
      let less = sum_by-take-le (new_trait_terms d c r) d.traits (i + 1) in
      let more = sum-taken (new_trait_terms d c r) d.traits i s there ∙ ap (λ b. sum_by (new_trait_terms d c r) (take i d.traits) + (if b then trait_terms s.item else 0)) seen in
      let had = a.few in
      omega (arith, less, more, had, few)

  pub traits-sorted : (i : ℕ) (es : List Entry) (now_limit : ℕ) (now : Items) → length d.traits ≡ i → TraitsAdded d c r old limit start i es now_limit now → map trait_sorts now.traits ≡ map trait_sorts start.traits ++ new_trait_sorts d c r
  traits-sorted i es now_limit now end a =
      a.gone.sorts_are
      ∙ ap (λ l. map trait_sorts start.traits ++ map (λ t. of_type ∷ t.kinds) (filter (λ (s : text.NamedTrait). is_new d c r s.item.home s.item.name) l)) (all-taken d.traits i (sym end))

-- ---- Impls: the state of the loop
abbrev pub ImplsGone : text.Declarations → ℕ → ℕ → List Entry → Items → List Entry → ℕ → List (HeldImpl) → Type 0
ImplsGone d c r old start es i xs =
    Gone (held_in es) (impl_sorts) (λ x. x.id.index) (λ s. plain_impl s.item) (param_sorts) (λ (x : ImplDecl). is_new d c r x.home x.name) d.impls (map (held_in old) start.impls) (map impl_sorts start.impls) i xs

pub record ImplsAdded (d : text.Declarations) (c : ℕ) (r : ℕ) (old : List Entry) (limit : ℕ) (start : Items) (i : ℕ) (es : List Entry) (now_limit : ℕ) (now : Items) : Type 0 where
  pub keeps : Keeps old es
  pub limited : now_limit ≡ limit
  pub others : now ≡ record start { impls = now.impls }
  pub held : AreHeld es now
  pub gone : ImplsGone d c r old start es i now.impls
  pub few : length es ≤ length old + sum_by (new_impl_terms d c r) (take i d.impls)

module _ (d : text.Declarations) (c : ℕ) (r : ℕ) (old : List Entry) (limit : ℕ) (start : Items) where
  pub impls-first : AreBefore (λ s. is_new d c r s.item.home s.item.name) d.impls (λ x. x.id.index) start.impls → AreHeld old start → ImplsAdded d c r old limit start 0 old limit start
  impls-first before held =
      record {
        keeps = λ j e h. h;
        limited = refl;
        others = refl;
        held = held;
        gone = gone-first (held_in old) (impl_sorts) (λ x. x.id.index) (λ s. plain_impl s.item) (param_sorts) (λ (x : ImplDecl). is_new d c r x.home x.name) d.impls (map (held_in old) start.impls) (map impl_sorts start.impls) start.impls refl refl before;
        few = omega arith;
      }

  pub impls-passed : (i : ℕ) (es : List Entry) (now_limit : ℕ) (now : Items) (s : text.NamedImpl) → slice_get d.impls i ≡ Some s → is_new d c r s.item.home s.item.name ≡ false → ImplsAdded d c r old limit start i es now_limit now
      → ImplsAdded d c r old limit start (i + 1) es now_limit now
  impls-passed i es now_limit now s there unseen a =
      record {
        keeps = a.keeps;
        limited = a.limited;
        others = a.others;
        held = a.held;
        gone = gone-passed (held_in es) (impl_sorts) (λ x. x.id.index) (λ y. plain_impl y.item) (param_sorts) (λ (x : ImplDecl). is_new d c r x.home x.name) d.impls (map (held_in old) start.impls) (map impl_sorts start.impls) i s now.impls there unseen a.gone;
        few = let more = sum-passed (new_impl_terms d c r) d.impls i s there in let had = a.few in omega (arith, more, had);
      }

  pub impls-taken : (i : ℕ) (es : List Entry) (now_limit : ℕ) (now : Items) (s : text.NamedImpl) (new : List Entry) (new_limit : ℕ) (x : HeldImpl) (next : Items)
      → slice_get d.impls i ≡ Some s → is_new d c r s.item.home s.item.name ≡ true → s.item.name ≡ i → Keeps es new → new_limit ≡ now_limit
      → held_in new (x) ≡ plain_impl s.item → impl_sorts x ≡ param_sorts s → next ≡ with_impl now (x) → AreHeld new next → length new ≤ length es + impl_terms s.item → ImplsAdded d c r old limit start i es now_limit now
      → ImplsAdded d c r old limit start (i + 1) new new_limit next
  impls-taken i es now_limit now s new new_limit x next there seen number k same_limit same sorted put held few a =
      record {
        keeps = λ j e h. k j e (a.keeps j e h);
        limited = same_limit ∙ a.limited;
        others = put ∙ ap (λ (n : Items). record n { impls = now.impls ++ x ∷ [] }) a.others ∙ ap (λ l. record start { impls = l }) (sym (ap (λ n. n.impls) put));
        held = held;
        gone =
            subst (ImplsGone d c r old start new (i + 1)) (sym (ap (λ n. n.impls) put))
            (gone-taken (held_in new) (impl_sorts) (λ x. x.id.index) (λ y. plain_impl y.item) (param_sorts) (λ (x : ImplDecl). is_new d c r x.home x.name) d.impls (map (held_in old) start.impls) (map impl_sorts start.impls) i s now.impls (x) there seen same (sorted) (ap (λ x. x.name) same ∙ number)
            (gone-again (held_in es) (held_in new) (impl_sorts) (λ x. x.id.index) (λ y. plain_impl y.item) (param_sorts) (λ (x : ImplDecl). is_new d c r x.home x.name) d.impls (map (held_in old) start.impls) (map impl_sorts start.impls) i now.impls (ap (λ w. w.impls) (all-written es new k now a.held)) a.gone));
        few =
            let more = sum-taken (new_impl_terms d c r) d.impls i s there ∙ ap (λ b. sum_by (new_impl_terms d c r) (take i d.impls) + (if b then impl_terms s.item else 0)) seen in
            let had = a.few in
            omega (arith, more, had, few);
      }

  pub impls-all : (i : ℕ) (es : List Entry) (now_limit : ℕ) (now : Items) → length d.impls ≡ i → ImplsAdded d c r old limit start i es now_limit now → map (held_in es) now.impls ≡ map (held_in old) start.impls ++ new_impls d c r
  impls-all i es now_limit now end a =
      a.gone.are
      ∙ ap (λ l. map (held_in old) start.impls ++ l) (all-plain plain_impl (λ (s : text.NamedImpl). s.item) (λ (x : ImplDecl). is_new d c r x.home x.name) (λ x. refl) d.impls i (sym end))

  pub impls-few : (i : ℕ) (es : List Entry) (now_limit : ℕ) (now : Items) → ImplsAdded d c r old limit start i es now_limit now → length es ≤ length old + sum_by (new_impl_terms d c r) d.impls
  impls-few i es now_limit now a = let less = sum_by-take-le (new_impl_terms d c r) d.impls i in let had = a.few in omega (arith, less, had)

  -- where the next one is seen, and fails
  pub impls-fewer : (i : ℕ) (es : List Entry) (now_limit : ℕ) (now : Items) (s : text.NamedImpl) (new : List Entry) → slice_get d.impls i ≡ Some s → is_new d c r s.item.home s.item.name ≡ true → length new ≤ length es + impl_terms s.item
      → ImplsAdded d c r old limit start i es now_limit now → length new ≤ length old + sum_by (new_impl_terms d c r) d.impls
  impls-fewer i es now_limit now s new there seen few a =
      let less = sum_by-take-le (new_impl_terms d c r) d.impls (i + 1) in
      let more = sum-taken (new_impl_terms d c r) d.impls i s there ∙ ap (λ b. sum_by (new_impl_terms d c r) (take i d.impls) + (if b then impl_terms s.item else 0)) seen in
      let had = a.few in
      omega (arith, less, more, had, few)

  pub impls-sorted : (i : ℕ) (es : List Entry) (now_limit : ℕ) (now : Items) → length d.impls ≡ i → ImplsAdded d c r old limit start i es now_limit now → map impl_sorts now.impls ≡ map impl_sorts start.impls ++ new_impl_sorts d c r
  impls-sorted i es now_limit now end a =
      a.gone.sorts_are
      ∙ ap (λ l. map impl_sorts start.impls ++ map (param_sorts) (filter (λ (s : text.NamedImpl). is_new d c r s.item.home s.item.name) l)) (all-taken d.impls i (sym end))

pub structs-absent : (d : text.Declarations) (c : ℕ) (r : ℕ) (old : List Entry) (limit : ℕ) (start : Items) (i : ℕ) (es : List Entry) (now_limit : ℕ) (now : Items) (s : text.NamedStruct) (n : ℕ) → slice_get d.structs i ≡ Some s → is_new d c r s.item.home s.item.name ≡ true
    → n ≡ i → StructsAdded d c r old limit start i es now_limit now → structs_named (declared [] now) n ≡ []
structs-absent d c r old limit start i es now_limit now s n there new at a =
    none-there (λ x. x.0.index) (λ s. s.name) (struct_in []) erased_struct (λ x. refl) n now.structs (subst (λ j. Each (λ x. x.0.index < j) now.structs) (sym at) (a.gone.below i s (omega arith) there new))

pub traits-absent : (d : text.Declarations) (c : ℕ) (r : ℕ) (old : List Entry) (limit : ℕ) (start : Items) (i : ℕ) (es : List Entry) (now_limit : ℕ) (now : Items) (s : text.NamedTrait) (n : ℕ) → slice_get d.traits i ≡ Some s → is_new d c r s.item.home s.item.name ≡ true
    → n ≡ i → TraitsAdded d c r old limit start i es now_limit now → traits_named (declared [] now) n ≡ []
traits-absent d c r old limit start i es now_limit now s n there new at a =
    none-there (λ x. x.0.index) (λ s. s.name) (trait_in []) erased_trait (λ x. refl) n now.traits (subst (λ j. Each (λ x. x.0.index < j) now.traits) (sym at) (a.gone.below i s (omega arith) there new))

-- ---- all three
abbrev world : List StructDecl → List TraitDecl → List ImplDecl → World
world xs ts is = record { crates = []; structs = xs; traits = ts; impls = is }

same-world : (a b : List StructDecl) (p q : List TraitDecl) (x y : List ImplDecl) → a ≡ b → p ≡ q → x ≡ y → world a p x ≡ world b q y
same-world a b p q x y e f g = ap (λ z. world z p x) e ∙ ap (λ z. world b z x) f ∙ ap (world b q) g

pub view-written : (one two all : List Entry) → Keeps one two → Keeps two all → (first second last : Items) → second ≡ record first { traits = second.traits } → last ≡ record second { impls = last.impls }
    → AreHeld one first → AreHeld two second → (xs : List StructDecl) (ts : List TraitDecl) (is : List ImplDecl) → map (struct_in one) first.structs ≡ xs → map (trait_in two) second.traits ≡ ts
    → map (held_in all) last.impls ≡ is → written all last ≡ world xs ts is
view-written one two all j k first second last e f h g xs ts is structs traits impls =
    same-world (map (struct_in all) last.structs) xs (map (trait_in all) last.traits) ts (map (held_in all) last.impls) is
    (ap (λ (l : Items). map (struct_in all) l.structs) f ∙ ap (λ (l : Items). map (struct_in all) l.structs) e ∙ ap (λ w. w.structs) (all-written one all (λ i x m. k i x (j i x m)) first h) ∙ structs)
    (ap (λ (l : Items). map (trait_in all) l.traits) f ∙ ap (λ w. w.traits) (all-written two all k second g) ∙ traits) impls

pub view-rules : (es : List Entry) (items : Items) (d : text.Declarations) (c : ℕ) → written es items ≡ plainly_seen_from d c → declared es items ≡ rules_seen_from d c
view-rules es items d c e = ap erased_world e ∙ world-erased (seen_from d c) ∙ ap (λ (V : World). record V { crates = [] }) (sym (erased-views (world_of d) c))
