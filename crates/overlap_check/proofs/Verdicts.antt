-- From answers to the goals of a pair to what is said of it.
use Rattle.std.proofs.Common.{ℕ, List, ◌⊎◌, inl, inr}
use Rattle.type_terms.specs.Promised.Label.{Sort}
use Rattle.type_terms.specs.Promised.Worlds.{World, Reference, ImplDecl}
use Rattle.type_terms.specs.Promised.Proofs.{In}
use Rattle.overlap_check.specs.SessionLaws.{IsPassed, IsRefused}
use Rattle.type_terms.specs.Promised.Questions.{IsRefuted, IsRefuteAnswer, unrefuted}
use Rattle.overlap_check.specs.Goals.{HasGoals}

module _ (i j : ImplDecl) (ks : List Sort) (left right : List Reference) (goals : HasGoals i j ks left right) where
  pub passes : (V : World) (c : ℕ) (g : Reference) → In g left ⊎ In g right → IsRefuted V c ks g → IsPassed V c i j
  passes V c g (inl h) r = let k = goals.left_only g h in inr (ks, g, inl (k.0, k.1.covers), r)
  passes V c g (inr h) r = let k = goals.right_only g h in inr (ks, g, inr (k.0, k.1.covers), r)

  pub refuses : (limit : ℕ) (V : World) (c : ℕ) → ((g : Reference) → In g left ⊎ In g right → IsRefuteAnswer limit V c ks g unrefuted) → IsRefused limit V c i j
  refuses limit V c unrefuted_all =
      record {
        common = goals.common;
        left = λ k h. let a = goals.left_asked k h in (ks, a.0, a.2.covers, unrefuted_all a.0 (inl a.1), a.2.determined);
        right = λ k h. let a = goals.right_asked k h in (ks, a.0, a.2.covers, unrefuted_all a.0 (inr a.1), a.2.determined);
      }
