-- The ends of scripts, one after another.
use Rattle.std.proofs.Common.{refl, subst, sym}
use Rattle.goal_evaluator.specs.Script.{Script, done, ask, followed}
use Rattle.solver_completeness.specs.Plays.{Ends}

pub Ends-followed : {Q A X Y : Type 0} (P : Q → A → Type 0) (f : X → Script Q A Y) (s : Script Q A X) (y : Y) → Ends P (followed f s) y → (x : X) × Ends P s x × Ends P (f x) y
Ends-followed P f (done x) y e = (x, refl, e)
Ends-followed P f (ask q k) y e = let z = Ends-followed P f (k e.0) y e.2 in (z.0, (e.0, e.1, z.1), z.2)

pub Ends-follows : {Q A X Y : Type 0} (P : Q → A → Type 0) (f : X → Script Q A Y) (s : Script Q A X) (x : X) (y : Y) → Ends P s x → Ends P (f x) y → Ends P (followed f s) y
Ends-follows P f (done z) x y e g = subst (λ u. Ends P (f u) y) (sym e) g
Ends-follows P f (ask q k) x y e g = (e.0, e.1, Ends-follows P f (k e.0) x y e.2 g)
