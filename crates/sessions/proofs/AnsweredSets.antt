-- A set of answered crates whose texts list auto traits as it does.
use Rattle.std.proofs.Common.{◌≡◌, ◌⊎◌, inl, inr, ℕ, true, List, map, sym, subst}
use Rattle.type_terms.specs.Promised.Worlds.{World, ImplDecl, core}
use Rattle.type_terms.specs.Promised.Core.{core_world}
use Rattle.type_terms.specs.Promised.Proofs.{In, Every}
use Rattle.type_terms.specs.Promised.Walks.{keeps_orphan_rule}
use Rattle.type_terms.specs.Promised.Renumbering.{View, HoldsView}
use Rattle.type_terms.specs.ArrangingLaws.{Listed, HoldsInOrder}
use Rattle.type_terms.specs.Promised.LinkedSet.{OrderedCrates, JoinedSet}
use Rattle.type_terms.proofs.Members.{in-map}
use Rattle.type_terms.proofs.ProofEntries.{map-in}
use Rattle.type_terms.proofs.NoHolds.{every-member}
use Rattle.sessions.specs.Promised.AnsweredSets.{WasAsked, IsOfAskedCrates}
use Rattle.sessions.specs.AnsweredSets.{WasAskedInOrder}
use Rattle.sessions.proofs.AnsweredInOrder.{SeesText, as-listed, world-listed, answered-obey}

module _ (W : World) (vs : List View) (rank : ℕ → ℕ) (o : OrderedCrates W rank) (holds : Every (HoldsView W) vs) (of : IsOfAskedCrates W (WasAsked vs)) (texts : (v : View) → In v vs → SeesText v) where
  abbrev listed : View → Listed
  listed v = record { order = as-listed; view = v }

  abbrev os : List Listed
  os = map listed vs

  -- what is so of each view is so of each with the set's order
  of-each : (P : View → Type 0) → ((v : View) → In v vs → P v) → (l : Listed) → In l os → P l.view
  of-each P h l m = let v = map-in listed vs l m in subst (λ (z : Listed). P z.view) v.2 (h v.0 v.1)

  asked : (c : ℕ) → WasAsked vs c → WasAskedInOrder os c
  asked c a = (listed a.0, in-map listed vs a.0 a.1, a.2)

  stand : (l : Listed) → In l os → HoldsInOrder W l.order l.view
  stand l m =
      let v = map-in listed vs l m in
      subst (λ (z : Listed). HoldsInOrder W z.order z.view) v.2 (subst (λ V. HoldsView V v.0) (sym (world-listed W)) (every-member (HoldsView W) vs v.0 holds v.1))

  crates : IsOfAskedCrates W (WasAskedInOrder os)
  crates = record { structs = λ x m. home x.home (of.structs x m); traits = λ x m. home x.home (of.traits x m); impls = λ i m. impl i (of.impls i m) }
    where
      home : (c : ℕ) → (c ≡ core) ⊎ WasAsked vs c → (c ≡ core) ⊎ WasAskedInOrder os c
      home c (inl e) = inl e
      home c (inr a) = inr (asked c a)

      impl : (i : ImplDecl) → In i core_world.impls ⊎ WasAsked vs i.home → In i core_world.impls ⊎ WasAskedInOrder os i.home
      impl i (inl m) = inl m
      impl i (inr a) = inr (asked i.home a)

  pub answered-joined : ((v : View) → In v vs → (i : ImplDecl) → In i v.world.impls → i.home ≡ v.asker → keeps_orphan_rule v.world v.asker i.header ≡ true) → JoinedSet W vs rank
  answered-joined kept =
      let q = answered-obey W os rank o stand crates (of-each SeesText texts) (of-each (λ v. (i : ImplDecl) → In i v.world.impls → i.home ≡ v.asker → keeps_orphan_rule v.world v.asker i.header ≡ true) kept) in
      record { rules = q.0; fits = o; orphan_rule = q.1; as_answered = holds }
