-- What follows of a call from what it says of both outcomes.
use Rattle.std.specs.Prelude.{IfErr, IfOk, IsOk, OnErr, OnOk}
use Rattle.std.proofs.Common.{◌≡◌, ◌≤◌, ◌∙◌, ℕ, sym, ap, Result, Ok, Err, subst}
use Rattle.type_terms.specs.Growth.{FullAtLimit}
use Rattle.type_terms.specs.Promised.Handles.{bounds_lists, full, held}
use Rattle.type_terms.specs.Terms.{Terms}
use Rattle.infer_table.specs.Shortages.{EqFullAtLimit}
use Rattle.infer_table.specs.declared.certainty.EqError.{EqError}
use Rattle.infer_table.specs.declared.certainty.EqError.TheVariants.{Fault as Faulty}
use Rattle.type_terms.specs.declared.Fault.{Fault}
use Rattle.type_terms.specs.declared.Fault.TheVariants.{Full}

pub on-ok : {T E : Type 0} (r : Result T E) (P Q : Type 0) → (P → Q) → OnOk r P → OnOk r Q
on-ok (Ok x) P Q f p = f p
on-ok (Err e) P Q f p = tt

pub on-err : {T E : Type 0} (r : Result T E) (P Q : Type 0) → (P → Q) → OnErr r P → OnErr r Q
on-err (Ok x) P Q f p = tt
on-err (Err e) P Q f p = f p

-- what holds in both outcomes
pub either : {T E : Type 0} (r : Result T E) (P : Type 0) → OnOk r P → OnErr r P → P
either (Ok x) P p q = p
either (Err e) P p q = q

pub either-ok : {T E : Type 0} {P : T → Type 0} (r : Result T E) (Q : Type 0) → IfOk r P → ((x : T) → P x → Q) → OnErr r Q → Q
either-ok (Ok x) Q p f q = f x p
either-ok (Err e) Q p f q = q

pub if-ok : {T E : Type 0} {P : T → Type 0} (r : Result T E) (Q : Type 0) → IfOk r P → ((x : T) → P x → Q) → OnOk r Q
if-ok (Ok x) Q p f = f x p
if-ok (Err e) Q p f = tt

-- an interner that refuses a term is as it was
pub full-at-limit : {T : Type 0} (r : Result T Fault) (old new : Terms) (kind : ℕ) → kind ≤ bounds_lists → (r ≡ Err Full → held kind old.entries ≡ old.limit) → OnErr r (new.entries ≡ old.entries)
    → new.limit ≡ old.limit → IfErr r (FullAtLimit new)
full-at-limit (Ok x) old new kind low f e l = tt
full-at-limit (Err x) old new kind low f e l = λ is. full kind low (ap (held kind) e ∙ f (ap Err is) ∙ sym l)

-- so does an equation
pub full-of-equation : {A B : Type 0} (r : Result A Fault) (m : Result B EqError) (t : Terms) → IfErr r (λ f. m ≡ Err (Faulty f)) → IfErr m (EqFullAtLimit t) → IfErr r (FullAtLimit t)
full-of-equation (Ok x) m t e h = tt
full-of-equation (Err f) m t e h = λ is. subst (λ z. IfErr z (EqFullAtLimit t)) e h (ap Faulty is)

pub of-ok : {T E : Type 0} (r : Result T E) (P : Type 0) → IsOk r → OnOk r P → P
of-ok (Ok x) P i p = p
of-ok (Err e) P i p = absurd cc
