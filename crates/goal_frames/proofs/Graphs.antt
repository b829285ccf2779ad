-- A proof graph of a search unfolds to a proof.
use Rattle.std.proofs.Common.{◌≡◌, Bool, true, false, List, [], ◌∷◌, inl, inr, refl, sym, ◌∙◌, ap, subst}
use Rattle.search_graph.specs.SearchPaths.declared.path_kind.PathKind.{PathKind}
use Rattle.search_graph.specs.Path.{is_coinductive_path}
use Rattle.search_graph.specs.Proof as Searched
use Rattle.goal_evaluator.specs.Lists.{IsAmong}
use Rattle.goal_evaluator.specs.Table.{Tables}
use Rattle.goal_evaluator.specs.Law.{IsInstance}
use Rattle.goal_evaluator.specs.Proof.{GoalDerivation, end, again, by_rule, HasGraph}
use Rattle.goal_evaluator.proofs.ListLaws.{Every-mono}
use Rattle.goal_evaluator.proofs.Unfold.{Instances, IsInstanceOf, FollowsFromQuestions, graph_unfolds}
use Rattle.goal_frames.specs.Programs.{Programs, ArePrograms}
use Rattle.goal_frames.specs.Searches.{step_kind, kind_of, GoalInMode, goal_in, FollowsInMode}
use Rattle.goal_frames.specs.Graphs.{GraphsGiveProofLists}

kind-is : (b : Bool) → is_coinductive_path (step_kind b) ≡ b
kind-is true = refl
kind-is false = refl

same-among : {G : Type 0} (g : G) (goals : List G) → Searched.IsAmong g goals → IsAmong g goals
same-among g [] i = i
same-among g (h ∷ goals) (inl e) = inl e
same-among g (h ∷ goals) (inr i) = inr (same-among g goals i)

-- the questions, each with whether the step to it is coinductive
abbrev told_apart : {G : Type 0} → List (G × PathKind) → List (G × Bool)
told_apart [] = []
told_apart (q ∷ questions) = (q.0, is_coinductive_path q.1) ∷ told_apart questions

told-among : {G : Type 0} (g : G) (k : PathKind) (questions : List (G × PathKind)) → IsAmong (g, k) questions → IsAmong (g, is_coinductive_path k) (told_apart questions)
told-among {G = G} g k [] i = absurd i
told-among {G = G} g k (q ∷ questions) (inl e) = inl (ap (λ (x : G × PathKind). (x.0, is_coinductive_path x.1)) e)
told-among {G = G} g k (q ∷ questions) (inr i) = inr (told-among g k questions i)

module _ {G : Type 0} (F : G → List (G × PathKind) → Type 0) (H : G → List (G × Bool) → Type 0)
    (weaker : (g : G) (questions : List (G × PathKind)) → F g questions → H g (told_apart questions)) where
  derived : (assumed : List G) (questions : List (G × PathKind)) → Searched.Derivation G F assumed questions → GoalDerivation G H assumed (told_apart questions)
  derived assumed [] Searched.end = end
  derived assumed ((g, k) ∷ rest) (Searched.again c i d) =
      subst (λ z. GoalDerivation G H assumed ((g, z) ∷ told_apart rest)) (sym c) (again (same-among g assumed i) (derived assumed rest d))
  derived assumed ((g, k) ∷ rest) (Searched.by_rule {premises = premises} f below d) =
      by_rule (weaker g premises f) (derived assumed premises below) (derived assumed rest d)

  searched-among : (g : G) (goals : List G) → IsAmong g goals → Searched.IsAmong g goals
  searched-among g [] i = i
  searched-among g (h ∷ goals) (inl e) = inl e
  searched-among g (h ∷ goals) (inr i) = inr (searched-among g goals i)

  graph : (g : G) → Searched.HasGraphProof G F g → HasGraph G H g
  graph g h = record {
    goals = h.goals;
    among = same-among g h.goals h.among;
    derived = λ p i. let d = h.derived p (searched-among p h.goals i) in (told_apart d.0, weaker p d.0 d.1, derived h.goals d.0 d.2);
  }

module _ {Question Response : Type 0} (t : Tables Question Response) (p : Programs t) (laws : ArePrograms t p) where
  -- the goals with the values that are made of the root's
  abbrev instances_of : p.World → t.Values → Instances (GoalInMode t p) t.Values t.Fact
  instances_of w root =
      record { fact = λ g v. (p.handled w g.0 g.1).goal v; values = λ g. p.made_of g.1 root; coinductive = p.coinductive w; Rule = p.Rule w }

  from_questions : (w : p.World) (root : t.Values) (g : GoalInMode t p) (questions : List (GoalInMode t p × PathKind)) → FollowsInMode t p w g questions
      → FollowsFromQuestions (instances_of w root) g (told_apart questions)
  from_questions w root g questions follows v i =
      let f = follows v in
      let h = p.handled w g.0 g.1 in
      let law = laws.systems w g.0 in (
        f.premises,
        law.rule g.1 (h.goal v) f.premises f.rule,
        Every-mono (IsInstance t (λ q. IsAmong (goal_in t p g.0 q, kind_of t q) questions × (t.is_coinductive q ≡ h.coinductive)) v)
            (IsInstanceOf (instances_of w root) (told_apart questions) (p.coinductive w (h.goal v)))
            (λ c x. (
              goal_in t p g.0 x.0,
              x.1,
              subst (λ k. IsAmong (goal_in t p g.0 x.0, k) (told_apart questions)) ((kind-is (t.is_coinductive x.0) ∙ x.2.1) ∙ sym (law.kind g.1 v))
                  (told-among (goal_in t p g.0 x.0) (kind_of t x.0) questions x.2.0),
              law.closed g.1 (p.goal_of x.0) root v x.1 i (subst (IsAmong x.1) (law.made x.0 v) x.3),
              sym (law.instance x.0 x.1) ∙ x.4,
            )) f.premises f.each,
      )

  pub graphs_prove : GraphsGiveProofLists t p
  graphs_prove w g h v i =
      graph_unfolds (instances_of w v) g (graph (FollowsInMode t p w) (FollowsFromQuestions (instances_of w v)) (λ q questions f. from_questions w v q questions f) g h) v i
