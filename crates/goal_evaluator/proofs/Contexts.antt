-- Contexts stay ready as the interner grows.
use Rattle.std.specs.Prelude.{◌≡◌, List, [], ◌∷◌, ◌++◌, Option, Some, None}
use Rattle.std.proofs.Common.{subst, sym}
use Rattle.type_terms.specs.Promised.Handles.{Entry, Keeps}
use Rattle.type_terms.specs.Terms.{args_lists}
use Rattle.type_terms.specs.Kept.{args-held-later, has-later}
use Rattle.infer_table.specs.Content.{Table, Ready}
use Rattle.infer_table.specs.Kept.{constraints-kept, ready-later}
use Rattle.infer_table.specs.declared.response.CanonicalResponse.{CanonicalResponse}
use Rattle.infer_table.proofs.Numbers.{clauses-held-later}
use Rattle.goal_evaluator.specs.Lists.{Every}
use Rattle.infer_table.specs.Responses.{ResponseHeld}
use Rattle.goal_evaluator.specs.Readings.{ResultHeld}
use Rattle.goal_evaluator.specs.Context.{Context, NestedGoal, GoalIsHeld, NestedHeld, IsReadyContext}

pub nested-later : (old new : List Entry) → Keeps old new → (ns : List NestedGoal) → NestedHeld old ns → NestedHeld new ns
nested-later old new k [] h = tt
nested-later old new k (n ∷ ns) h =
    (record { clauses = clauses-held-later old new k n.clauses h.0.clauses; predicate = has-later old new k args_lists n.predicate.trait_ref.args.0 h.0.predicate }, nested-later old new k ns h.1)

pub response-later : (old new : List Entry) → Keeps old new → (r : CanonicalResponse) → ResponseHeld old r → ResponseHeld new r
response-later old new k r h =
    record {
      values = args-held-later old new k r.var_values.items h.values;
      constraints = constraints-kept old new r.region_constraints.items k h.constraints;
    }

pub reply-later : (old new : List Entry) → Keeps old new → (r : Option CanonicalResponse) → ResultHeld old r → ResultHeld new r
reply-later old new k None h = tt
reply-later old new k (Some r) h = response-later old new k r h

pub replies-later : (old new : List Entry) → Keeps old new → (rs : List (Option CanonicalResponse)) → Every (ResultHeld old) rs → Every (ResultHeld new) rs
replies-later old new k [] h = tt
replies-later old new k (r ∷ rs) h = (reply-later old new k r h.0, replies-later old new k rs h.1)

-- a context stays ready with another table
pub ready-with-table : (old new : List Entry) (c : Context) (t : Table) → Keeps old new → IsReadyContext old c → Ready new t → IsReadyContext new (record c { table = t })
ready-with-table old new c t k h r =
    record {
      table = r;
      values = args-held-later old new k c.values h.values;
      nested = nested-later old new k c.nested h.nested;
      replies = replies-later old new k c.replies h.replies;
    }

pub context-later : (old new : List Entry) → Keeps old new → (c : Context) → IsReadyContext old c → IsReadyContext new c
context-later old new k c h = ready-with-table old new c c.table k h (ready-later old new c.table k h.table)

pub every-more : {A : Type 0} (P : A → Type 0) (xs : List A) (x : A) → Every P xs → P x → Every P (xs ++ x ∷ [])
every-more P [] x h p = (p, tt)
every-more P (y ∷ ys) x h p = (h.0, every-more P ys x h.1 p)

-- a context stays ready with one more goal
pub ready-added : (es : List Entry) (c d : Context) (n : NestedGoal) → d ≡ record c { nested = c.nested ++ n ∷ [] } → IsReadyContext es c → GoalIsHeld es n → IsReadyContext es d
ready-added es c d n e r h =
    let there : IsReadyContext es (record c { nested = c.nested ++ n ∷ [] }) = record { table = r.table; values = r.values; nested = every-more (GoalIsHeld es) c.nested n r.nested h; replies = r.replies } in
    subst (IsReadyContext es) (sym e) there

-- a context that is as before stays ready
pub ready-same : (old new : List Entry) (c d : Context) → Keeps old new → d ≡ c → IsReadyContext old c → IsReadyContext new d
ready-same old new c d k e h = subst (IsReadyContext new) (sym e) (context-later old new k c h)

-- with more room, too
pub ready-with-room : (old new : List Entry) (c d : Context) → Keeps old new → d ≡ record c { capacity = d.capacity } → IsReadyContext old c → IsReadyContext new d
ready-with-room old new c d k e h =
    let later = context-later old new k c h in
    let there : IsReadyContext new (record c { capacity = d.capacity }) = record { table = later.table; values = later.values; nested = later.nested; replies = later.replies } in
    subst (IsReadyContext new) (sym e) there
