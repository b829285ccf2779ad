-- The impls of a section, lowered one after the other.
use Rattle.std.proofs.Common.{◌≡◌, ℕ, zero, suc, ◌+◌, Bool, true, false, cond, List, [], ◌∷◌, ◌++◌, length, map, take, Some, refl, sym, ap, ◌∙◌, subst}
use Rattle.std.specs.Prelude.{◌==◌, filter, slice_get}
use Rattle.std.proofs.lemmas.List.{map_push}
use Rattle.std.proofs.lemmas.Option.{same_Some}
use Rattle.type_terms.specs.Promised.Worlds.{ImplDecl, Reference}
use Rattle.text_language.specs.Promised.Declarations.{Declarations, NamedImpl, LaterImpl, section_impls}
use Rattle.type_terms.specs.Promised.Handles.{Entry, Keeps}
use Rattle.type_terms.specs.declared.ImplId.{ImplId}
use Rattle.declarations.specs.declared.items.ImplDef.{ImplDef}
use Rattle.declarations.specs.Heads.{begins_declared}
use Rattle.declarations.specs.Held.{ImplHeld}
use Rattle.declarations.specs.Items.{reference_in, impl_in}
use Rattle.declarations.specs.Promised.Elaboration.{Each}
use Rattle.declarations.proofs.Bounded.{all-same}
use Rattle.declarations.proofs.Growth.{args-same, reference-kept, reference-same, references-kept, each-kept as each-map}
use Rattle.text_tables.specs.Numbered as AtEach
use Rattle.text_lowering.specs.Later.{unnumbered, added_impls, added_in, added_sorts, sorts_of_added}
use Rattle.text_lowering.specs.Promised.SeenWorlds.{plain_impl}
use Rattle.text_lowering.specs.Seen.{param_sorts}
use Rattle.text_lowering.proofs.Applied.{each-more}
use Rattle.text_lowering.proofs.Going.{all-taken, one-more-taken}

-- ---- as the interner grows
module _ (old new : List Entry) (k : Keeps old new) where
  pub impl-later : (def : ImplDef) → ImplHeld old def → ImplHeld new def
  impl-later def h = record {
    header = reference-kept old new k def.header h.header;
    clauses = references-kept old new k def.clauses.items h.clauses;
    begins = ap begins_declared (args-same old new k def.header h.header) ∙ h.begins;
  }

  pub impls-later : (defs : List ImplDef) → Each (ImplHeld old) defs → Each (ImplHeld new) defs
  impls-later defs h = each-map (ImplHeld old) (ImplHeld new) impl-later defs h

  pub added-same : (def : ImplDef) → ImplHeld old def → added_in new def ≡ added_in old def
  added-same def h = join (reference_in new def.header) (reference_in old def.header) _ _ (reference-same old new k def.header h.header) (all-same old new k def.clauses.items h.clauses)
    where
      join : (r s : Reference) (ks ls : List Reference) → r ≡ s → ks ≡ ls
          → (let i : ImplDecl = record { name = 0; home = def.home.index; params = length def.params.items; header = r; clauses = ks } in i) ≡ record { name = 0; home = def.home.index; params = length def.params.items; header = s; clauses = ls }
      join r s ks ls p q = cc

  all-added-same : (defs : List ImplDef) → Each (ImplHeld old) defs → map (added_in new) defs ≡ map (added_in old) defs
  all-added-same [] h = refl
  all-added-same (def ∷ defs) h = ap (λ x. x ∷ map (added_in new) defs) (added-same def h.0) ∙ ap (λ l. added_in old def ∷ l) (all-added-same defs h.1)

-- ---- lists
-- what holds of each holds of those that are kept
pub each-kept : {A : Type 0} (Q : A → Type 0) (p : A → Bool) (xs : List A) → AtEach.EachNumbered (λ k. Q) xs → AtEach.EachNumbered (λ k. Q) (filter p xs)
each-kept Q p [] h = h
each-kept {A = A} Q p (x ∷ xs) h = by (p x) (each-kept Q p xs (λ k y e. h (suc k) y e))
  where
    by : (b : Bool) → AtEach.EachNumbered (λ k. Q) (filter p xs) → AtEach.EachNumbered (λ k. Q) (cond b (x ∷ filter p xs) (filter p xs))
    by true r zero y e = subst Q (same_Some x y e) (h 0 x refl)
    by true r (suc k) y e = r k y e
    by false r k y e = r k y e

-- ---- the state of the loop
abbrev pub of_section : Declarations → ℕ → List LaterImpl
of_section d k = filter (λ (j : LaterImpl). j.section == k) d.later_impls

-- the first i impls of section k
abbrev pub gone : Declarations → ℕ → ℕ → List NamedImpl
gone d k i = map (λ (j : LaterImpl). j.added) (take i (of_section d k))

pub record LaterAdded (d : Declarations) (k : ℕ) (old : List Entry) (limit : ℕ) (i : ℕ) (es : List Entry) (now_limit : ℕ) (defs : List ImplDef) : Type 0 where
  pub keeps : Keeps old es
  pub limited : now_limit ≡ limit
  pub impls : map (added_in es) defs ≡ map (λ (n : NamedImpl). unnumbered (plain_impl n.item)) (gone d k i)
  pub sorts : map sorts_of_added defs ≡ map param_sorts (gone d k i)
  pub held : Each (ImplHeld es) defs

module _ (d : Declarations) (k : ℕ) (old : List Entry) (limit : ℕ) where
  pub later-taken : (i : ℕ) (es : List Entry) (now_limit : ℕ) (defs : List ImplDef) (s : LaterImpl) (new : List Entry) (new_limit : ℕ) (id : ImplId) (def : ImplDef) → slice_get (of_section d k) i ≡ Some s
      → Keeps es new → new_limit ≡ now_limit → impl_in new id def ≡ plain_impl s.added.item → sorts_of_added def ≡ param_sorts s.added → ImplHeld new def
      → LaterAdded d k old limit i es now_limit defs → LaterAdded d k old limit (i + 1) new new_limit (defs ++ def ∷ [])
  later-taken i es now_limit defs s new new_limit id def there kept same_limit is sorted held a =
      let more : gone d k (i + 1) ≡ gone d k i ++ s.added ∷ [] =
      ap (map (λ (j : LaterImpl). j.added)) (one-more-taken (of_section d k) i s there) ∙ map_push (λ (j : LaterImpl). j.added) (take i (of_section d k)) s in
      record {
        keeps = λ j e h. kept j e (a.keeps j e h);
        limited = same_limit ∙ a.limited;
        impls =
            map_push (added_in new) defs def ∙ ap (λ l. l ++ added_in new def ∷ []) (all-added-same es new kept defs a.held ∙ a.impls)
            ∙ ap (λ x. map (λ (n : NamedImpl). unnumbered (plain_impl n.item)) (gone d k i) ++ x ∷ []) (ap unnumbered is)
            ∙ sym (ap (map (λ (n : NamedImpl). unnumbered (plain_impl n.item))) more ∙ map_push (λ (n : NamedImpl). unnumbered (plain_impl n.item)) (gone d k i) s.added);
        sorts =
            map_push sorts_of_added defs def ∙ ap (λ l. l ++ sorts_of_added def ∷ []) a.sorts ∙ ap (λ x. map param_sorts (gone d k i) ++ x ∷ []) sorted
            ∙ sym (ap (map param_sorts) more ∙ map_push param_sorts (gone d k i) s.added);
        held = each-more (ImplHeld new) defs def (impls-later es new kept defs a.held) held;
      }

  -- all are gone over
  all-gone : (i : ℕ) → length (of_section d k) ≡ i → gone d k i ≡ section_impls d k
  all-gone i e = ap (map (λ (j : LaterImpl). j.added)) (all-taken (of_section d k) i (sym e))

  pub later-all : (i : ℕ) (es : List Entry) (now_limit : ℕ) (defs : List ImplDef) → length (of_section d k) ≡ i → LaterAdded d k old limit i es now_limit defs → map (added_in es) defs ≡ added_impls d k
  later-all i es now_limit defs e a = a.impls ∙ ap (map (λ (n : NamedImpl). unnumbered (plain_impl n.item))) (all-gone i e)

  pub later-sorted : (i : ℕ) (es : List Entry) (now_limit : ℕ) (defs : List ImplDef) → length (of_section d k) ≡ i → LaterAdded d k old limit i es now_limit defs → map sorts_of_added defs ≡ added_sorts d k
  later-sorted i es now_limit defs e a = a.sorts ∙ ap (map param_sorts) (all-gone i e)

-- ---- one of them
