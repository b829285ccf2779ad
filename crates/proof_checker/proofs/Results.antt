-- What is known of a result, made of what is known of it.
use Rattle.std.specs.Prelude.{◌≡◌, true, false, List, [], ◌∷◌, Option, Some, None, Result, Ok, Err, IfOk, IfErr, IsErrAnd, IfSome}
use Rattle.type_terms.specs.declared.Fault.{Fault}
use Rattle.type_terms.specs.declared.Fault.TheVariants.{Full, Memory}
use Rattle.type_terms.proofs.FailFacts.{at-limit}
use Rattle.declarations.specs.Promised.Elaboration.{Each}

pub mapped : {A F : Type 0} (P Q : A → Type 0) (r : Result A F) → ((v : A) → P v → Q v) → IfOk r P → IfOk r Q
mapped P Q (Ok v) f p = f v p
mapped P Q (Err e) f p = tt

pub both : {A F : Type 0} (P Q R : A → Type 0) (r : Result A F) → ((v : A) → P v → Q v → R v) → IfOk r P → IfOk r Q → IfOk r R
both P Q R (Ok v) f p q = f v p q
both P Q R (Err e) f p q = tt

pub both-some : {A F : Type 0} (P Q R : A → Type 0) (r : Result (Option A) F) → ((v : A) → P v → Q v → R v) → IfOk r (λ o. IfSome o P) → IfOk r (λ o. IfSome o Q) → IfOk r (λ o. IfSome o R)
both-some P Q R (Ok (Some v)) f p q = f v p q
both-some P Q R (Ok None) f p q = tt
both-some P Q R (Err e) f p q = tt

pub mapped-if : {A : Type 0} (P Q : A → Type 0) (o : Option A) → ((v : A) → P v → Q v) → IfSome o P → IfSome o Q
mapped-if P Q (Some v) f p = f v p
mapped-if P Q None f p = tt

pub mapped-some : {A F : Type 0} (P Q : A → Type 0) (r : Result (Option A) F) → ((v : A) → P v → Q v) → IfOk r (λ o. IfSome o P) → IfOk r (λ o. IfSome o Q)
mapped-some P Q (Ok (Some v)) f p = f v p
mapped-some P Q (Ok None) f p = tt
mapped-some P Q (Err e) f p = tt

-- nothing is said of what was found where an error is handed on
pub not-ok : {A F : Type 0} (P : A → Type 0) (Q : F → Type 0) (r : Result A F) → IsErrAnd r Q → IfOk r P
not-ok P Q (Ok v) h = absurd h
not-ok P Q (Err e) h = tt

pub never : {A : Type 0} → false ≡ true → A
never q = absurd cc

pub none-each : {A : Type 0} (P : A → Type 0) (xs : List A) → xs ≡ [] → Each P xs
none-each P [] e = tt
none-each P (x ∷ xs) e = absurd cc

-- a `?` behind a call that fails for want of memory alone
pub memory-at-limit : {T : Type 0} (A : Type 0) (r : Result T Fault) {x : Fault} → IsErrAnd r (λ y. y ≡ x) → x ≡ Memory → IfErr r (λ e. e ≡ Full → A)
memory-at-limit A r h m = at-limit r h (λ q. cc)
