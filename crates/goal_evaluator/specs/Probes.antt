-- The requirements on the closure of a probe.
use Rattle.std.specs.Prelude.{◌≡◌}
use Rattle.std.specs.Fn.{Once}
use Rattle.std.proofs.Common.{MutBor}
use Rattle.infer_table.specs.Content.{Grows}
use Rattle.goal_evaluator.specs.Context.{Context}

-- The second context differs from the first only by additions to its table, and by its nested goals.
pub record ContextContinues (old new : Context) : Type 0 where
  pub mode : new.mode ≡ old.mode
  pub table : Grows old.table new.table
  pub variables : new.variables ≡ old.variables
  pub values : new.values ≡ old.values
  pub replies : new.replies ≡ old.replies

module _ {F I T : Type 0} (g : Once F (MutBor Context × (MutBor I × Unit {0})) (T × (MutBor Context × (MutBor I × Unit {0})))) (f : F) where
  -- the closure may be called with this context and this interner
  abbrev pub TakesBoth : Context → I → Type 0
  TakesBoth c i = (p : MutBor Context) (q : MutBor I) → p.now ≡ c → q.now ≡ i → g.pre f (p, (q, tt))

  -- such a call may return r, with this context and interner afterwards
  pub record Returns (c : Context) (i : I) (r : T) (d : Context) (j : I) : Type 0 where
    pub context : MutBor Context
    pub interner : MutBor I
    pub shows : (context.now ≡ c) × (interner.now ≡ i)
    pub left : MutBor Context × (MutBor I × Unit {0})
    pub met : g.post f (context, (interner, tt)) (r, left)
    pub leaves : (left.0.now ≡ d) × (left.1.0.now ≡ j)

  -- the context after any such call can be restored
  abbrev pub IsUndoable : Context → I → Type 0
  IsUndoable c i = (r : T) (d : Context) (j : I) → Returns c i r d j → ContextContinues c d
