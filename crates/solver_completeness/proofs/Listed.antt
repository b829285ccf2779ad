-- Lists of candidates that are evaluated one after another are exact handlers.
use Rattle.std.proofs.Common.{◌≡◌, Bool, false, List, [], ◌∷◌, length, refl, ◌∙◌, ap, Option}
use Rattle.infer_table.specs.declared.certainty.Certainty.{Certainty}
use Rattle.goal_evaluator.specs.Lists.{Every}
use Rattle.goal_evaluator.specs.Table.{Tables, workings}
use Rattle.goal_evaluator.specs.Candidate.{Spec, Considered}
use Rattle.goal_evaluator.specs.Merge.{responses, merge_or_flounder}
use Rattle.goal_evaluator.specs.Plans.{came, each_of}
use Rattle.goal_evaluator.specs.PlanAnswers.{all_merged}
use Rattle.goal_frames.specs.Listings.{Listing, as_plan, listed}
use Rattle.solver_completeness.specs.Closed.{Closing, IsClosing, AreWays, DeterminesNested, AsksSuch}
use Rattle.solver_completeness.specs.Ways.{IsSelection}
use Rattle.solver_completeness.specs.Exact.{IsExactHandler}
use Rattle.solver_completeness.proofs.ExactPlans.{IsExactFrom, IsExactPlan, planned-exact}
use Rattle.solver_completeness.proofs.Merging.{merged-one, merged-some, merged-bare}
use Rattle.type_terms.proofs.NumberBasics.{itself}

-- a list whose candidates are the ways of its goal
module _ {Question Response : Type 0} (t : Tables Question Response) (k : Closing t) (ways : t.Fact → List (List t.Fact)) (IsAsked : Question → t.Values → Type 0) (q : Question) (v : t.Values) where
  pub record IsExactListing (l : Listing t) : Type 1 where
    pub begins : k.shape l.begin ≡ k.shape_of q
    pub made : t.Made l.begin
    pub goal : l.goal v ≡ t.fact_of q v
    pub closed : k.IsClosed (k.shape l.begin)
    pub determined : Every (DeterminesNested t l.begin) l.specs
    pub nested : Every (AsksSuch t k IsAsked l.begin v) l.specs
    pub found : List (List t.Fact)
    pub applies : AreWays t l.begin v l.specs found
    pub selects : IsSelection found (ways (l.goal v))

module _ {Question Response : Type 0} (t : Tables Question Response) (applicable : Response → Bool) (same : Response → Response → Bool) (begin : t.Table) (silent : (c : Certainty) → t.has_values (t.respond begin c) ≡ false) where
  abbrev pub merged : List Response → Option Response
  merged rs = merge_or_flounder t applicable same begin rs

  -- each is considered, and then all responses are merged
  pub each-exact : (left : List (Spec (workings t))) (seen : List (Considered (workings t))) → IsExactFrom t left seen (each_of t left (all_merged t applicable same begin) seen)
  each-exact [] seen = record {
    refused = λ n. (ap merged n, refl);
    answers = λ c rs n. let z = merged-some t applicable same begin c rs in (z.0, ap merged n ∙ z.1);
    bare = λ h. merged-bare t applicable same begin silent (responses t seen) h;
    only = λ c n i. ap merged n ∙ merged-one t applicable same begin c;
  }
  each-exact (s ∷ left) seen = ([], left, refl, λ h. refl, λ a n. each-exact left (came t s a n ∷ seen))

module _ {Question Response : Type 0} (t : Tables Question Response) (k : Closing t) (closing : IsClosing t k) (ways : t.Fact → List (List t.Fact)) (IsAsked : Question → t.Values → Type 0) (q : Question) (v : t.Values)
    (applicable : Response → Bool) (same : Response → Response → Bool) (l : Listing t) (is : IsExactListing t k ways IsAsked q v l) where
  abbrev pub listed-plan : IsExactPlan t k ways IsAsked q v (as_plan t applicable same l)
  listed-plan = record {
    begins = is.begins;
    made = is.made;
    goal = is.goal;
    specs = l.specs;
    few = itself (length l.specs);
    exact = each-exact t applicable same l.begin (λ c. closing.silent l.begin c is.made is.closed) l.specs [];
    determined = is.determined;
    nested = is.nested;
    found = is.found;
    applies = is.applies;
    selects = is.selects;
  }

  abbrev pub listed-exact : IsExactHandler t k ways IsAsked q v (listed t applicable same l)
  listed-exact = planned-exact t k ways IsAsked q v (as_plan t applicable same l) listed-plan
