-- What calls say of the terms that they make, and of their faults.
use Rattle.std.specs.Prelude.{IfErr, IfOk, IfSome, IsErr, IsOk, OnErr, OnOk, is_some}
use Rattle.std.specs.Option.{option_map}
use Rattle.std.proofs.Common.{◌≡◌, ◌∙◌, ◌<◌, ℕ, Bool, refl, sym, ap, subst, List, [], ◌∷◌, Option, Some, None, Result, Ok, Err}
use Rattle.type_terms.specs.Promised.Handles.{Entry, ArgHeld, ArgsHeld, Is, arg_trees, consts, types}
use Rattle.type_terms.specs.Promised.Label.{Sort, infer}
use Rattle.type_terms.specs.Promised.Trees.{Trees, leaf}
use Rattle.type_terms.specs.Kept.{trees-is}
use Rattle.type_terms.specs.Kinds.{args_trees}
use Rattle.type_terms.specs.declared.Fault.{Fault}
use Rattle.type_terms.specs.declared.Fault.TheVariants.{Full}
use Rattle.type_terms.specs.declared.kinds.Const.{Const}
use Rattle.type_terms.specs.declared.kinds.GenericArgKind.{GenericArgKind}
use Rattle.type_terms.specs.declared.kinds.GenericArgKind.TheVariants as arg
use Rattle.type_terms.specs.declared.kinds.Ty.{Ty}
use Rattle.infer_table.specs.Solutions.{Binding, resolved}
use Rattle.infer_table.specs.declared.certainty.EqError.{EqError}
use Rattle.infer_table.specs.declared.certainty.EqError.TheVariants as equation
use Rattle.overlap_check.proofs.Owning.{AllOwn, AreOwn, own-append, own-resolved}
use Rattle.sessions.specs.Promised.Shortages.{IsAtLimit, SessionFullAtLimit}
use Rattle.sessions.specs.Promised.Subjects.{Subject}
use Rattle.inference.specs.Inferring.{IsOverVariables, ValuesAreOver}
use Rattle.inference.proofs.Owned.{over, own}
use Rattle.session_inference.specs.Contexts.{AreTermsOver, EquationAtLimit, IsTermOver}
use Rattle.session_inference.specs.declared.error.InferenceError.{InferenceError}
use Rattle.session_inference.specs.declared.error.InferenceError.TheVariants as error

-- ---- what was made
pub type-is : (es : List Entry) (t : Trees) (r : Result GenericArgKind Fault) (m : Result Ty Fault) → IfOk r (λ a. IfOk m (λ x. a ≡ arg.Ty x)) → OnOk r (IsOk m) → IfOk m (λ x. Is es types x.0 t)
    → IfOk r (λ a. (arg_trees es a ≡ t) × ArgHeld es a)
type-is es t (Err f) m e i h = tt
type-is es t (Ok a) (Err f) e i h = absurd cc
type-is es t (Ok a) (Ok x) e i h = subst (λ (z : GenericArgKind). (arg_trees es z ≡ t) × ArgHeld es z) (sym e) (trees-is es types x.0 t h, (t, h))

pub const-is : (es : List Entry) (t : Trees) (r : Result GenericArgKind Fault) (m : Result Const Fault) → IfOk r (λ a. IfOk m (λ x. a ≡ arg.Const x)) → OnOk r (IsOk m) → IfOk m (λ x. Is es consts x.0 t)
    → IfOk r (λ a. (arg_trees es a ≡ t) × ArgHeld es a)
const-is es t (Err f) m e i h = tt
const-is es t (Ok a) (Err f) e i h = absurd cc
const-is es t (Ok a) (Ok x) e i h = subst (λ (z : GenericArgKind). (arg_trees es z ≡ t) × ArgHeld es z) (sym e) (trees-is es consts x.0 t h, (t, h))

-- a type that was made if a shape takes its parts
pub shaped-is : (es : List Entry) (t : Trees) (r : Result (Option GenericArgKind) Fault) (m : Result (Option Ty) Fault) → IfOk r (λ o. IfOk m (λ x. o ≡ option_map arg.Ty x)) → OnOk r (IsOk m)
    → IfOk m (λ x. IfSome x (λ y. Is es types y.0 t)) → IfOk r (λ o. IfSome o (λ a. (arg_trees es a ≡ t) × ArgHeld es a))
shaped-is es t (Err f) m e i h = tt
shaped-is es t (Ok o) (Err f) e i h = absurd cc
shaped-is es t (Ok o) (Ok None) e i h = subst (λ z. IfSome z (λ a. (arg_trees es a ≡ t) × ArgHeld es a)) (sym e) tt
shaped-is es t (Ok o) (Ok (Some x)) e i h = subst (λ z. IfSome z (λ a. (arg_trees es a ≡ t) × ArgHeld es a)) (sym e) (trees-is es types x.0 t h, (t, h))

pub shaped-takes : (b : Bool) (r : Result (Option GenericArgKind) Fault) (m : Result (Option Ty) Fault) → IfOk r (λ o. IfOk m (λ x. o ≡ option_map arg.Ty x)) → OnOk r (IsOk m) → IfOk m (λ x. is_some x ≡ b)
    → IfOk r (λ o. is_some o ≡ b)
shaped-takes b (Err f) m e i h = tt
shaped-takes b (Ok o) (Err f) e i h = absurd cc
shaped-takes b (Ok o) (Ok None) e i h = ap is_some e ∙ h
shaped-takes b (Ok o) (Ok (Some x)) e i h = ap is_some e ∙ h

pub trees-there : (es : List Entry) (t : Trees) (r : Result (Option GenericArgKind) Fault) → IfOk r (λ o. IfSome o (λ a. (arg_trees es a ≡ t) × ArgHeld es a)) → IfOk r (λ o. IfSome o (λ a. arg_trees es a ≡ t))
trees-there es t (Ok None) h = tt
trees-there es t (Ok (Some a)) h = h.0
trees-there es t (Err f) h = tt

pub trees-made : (es : List Entry) (t : Trees) (r : Result GenericArgKind Fault) → IfOk r (λ a. (arg_trees es a ≡ t) × ArgHeld es a) → IfOk r (λ a. arg_trees es a ≡ t)
trees-made es t (Ok a) h = h.0
trees-made es t (Err f) h = tt

-- a variable that was made
pub variable-over : {A : Type 0} (es : List Entry) (counts : Sort → ℕ) (s : Sort) (v : ℕ) (r : Result GenericArgKind Fault) (m : Result A Fault) → OnOk r (IsOk m) → OnOk m (v < counts s)
    → IfOk r (λ a. (arg_trees es a ≡ leaf (infer s v)) × ArgHeld es a) → IfOk r (IsTermOver es counts)
variable-over es counts s v (Err f) m i k h = tt
variable-over es counts s v (Ok a) (Err f) i k h = absurd cc
variable-over es counts s v (Ok a) (Ok x) i k h = (h.1, subst (IsOverVariables counts) (sym h.0) ((k, tt, tt), (tt, tt)))

-- ---- both outcomes
pub on-made : {A B E F : Type 0} (r : Result A E) (m : Result B F) (P : Type 0) → OnOk r (IsOk m) → OnOk m P → OnOk r P
on-made (Ok x) (Ok y) P i p = p
on-made (Ok x) (Err f) P i p = absurd cc
on-made (Err f) m P i p = tt

pub err-both : {A B E F : Type 0} (r : Result A E) (m : Result B F) (P : Type 0) → OnErr r (IsErr m) → OnErr m P → OnErr r P
err-both (Ok x) m P i p = tt
err-both (Err e) (Ok y) P i p = absurd cc
err-both (Err e) (Err f) P i p = p

pub err-made : {A B : Type 0} (r : Result A Fault) (m : Result B Fault) (P : Type 0) → IfErr r (λ e. m ≡ Err e) → OnErr m P → OnErr r P
err-made (Ok x) m P e p = tt
err-made (Err f) m P e p = subst (λ z. OnErr z P) e p

pub fault-made : {A B : Type 0} (r : Result A Fault) (m : Result B Fault) (P : Fault → Type 0) → IfErr r (λ e. m ≡ Err e) → IfErr m P → IfErr r P
fault-made (Ok x) m P e p = tt
fault-made (Err f) m P e p = subst (λ z. IfErr z P) e p

-- ---- terms over variables
all-own : (n : Sort → ℕ) (bs : List Binding) → ValuesAreOver n bs → AllOwn n bs
all-own n [] h = tt
all-own n (b ∷ older) h = (own n b.value h.0.0 h.0.1, all-own n older h.1)

pub resolved-over : (n : Sort → ℕ) (bs : List Binding) (t : Trees) → ValuesAreOver n bs → IsOverVariables n t → IsOverVariables n (resolved bs t)
resolved-over n bs t values h = over n (resolved bs t) (own-resolved n bs t (all-own n bs values) (own n t h.0 h.1))

pub terms-held : (es : List Entry) (n : Sort → ℕ) (ts : List GenericArgKind) → AreTermsOver es n ts → ArgsHeld es ts
terms-held es n [] h = tt
terms-held es n (a ∷ ts) h = (h.0.0, terms-held es n ts h.1)

all-trees-own : (es : List Entry) (n : Sort → ℕ) (ts : List GenericArgKind) → AreTermsOver es n ts → AreOwn n (args_trees es ts)
all-trees-own es n [] h = tt
all-trees-own es n (a ∷ ts) h = own-append n (arg_trees es a) (args_trees es ts) (own n (arg_trees es a) h.0.1.0 h.0.1.1) (all-trees-own es n ts h.1)

pub args-over : (es : List Entry) (n : Sort → ℕ) (ts : List GenericArgKind) → AreTermsOver es n ts → IsOverVariables n (args_trees es ts)
args-over es n ts h = over n (args_trees es ts) (all-trees-own es n ts h)

-- ---- what is shown
pub shown-over : (es : List Entry) (n : Sort → ℕ) (bs : List Binding) (t : Trees) (r : Result GenericArgKind Fault) → ValuesAreOver n bs → IsOverVariables n t → IfOk r (λ a. ArgHeld es a)
    → IfOk r (λ a. arg_trees es a ≡ resolved bs t) → IfOk r (IsTermOver es n)
shown-over es n bs t (Ok a) values term held e = (held, subst (IsOverVariables n) (sym e) (resolved-over n bs t values term))
shown-over es n bs t (Err f) values term held e = tt

pub all-shown : {A : Type 0} (r : Result A Fault) (P Q : A → Type 0) → ((a : A) → P a → Q a) → IfOk r P → IfOk r Q
all-shown (Ok a) P Q f h = f a h
all-shown (Err e) P Q f h = tt

-- ---- errors
given-fault : {A : Type 0} (s : Subject) (m : Result A Fault) (e : InferenceError) → ((f : Fault) × (m ≡ Err f) × (e ≡ error.Fault f)) → IfErr m (SessionFullAtLimit s) → e ≡ error.Fault Full → IsAtLimit s
given-fault s m e x h q = let same : x.0 ≡ Full = cc in subst (λ z. IfErr z (SessionFullAtLimit s)) x.1 h same

pub given-full : {A B : Type 0} (s : Subject) (m : Result A Fault) (r : Result B InferenceError) → IfErr r (λ e. (f : Fault) × (m ≡ Err f) × (e ≡ error.Fault f)) → IfErr m (SessionFullAtLimit s)
    → IfErr r (λ e. e ≡ error.Fault Full → IsAtLimit s)
given-full s m (Ok x) e h = tt
given-full s m (Err e) x h = given-fault s m e x h

pub equation-full : {A B : Type 0} (s : Subject) (m : Result A EqError) (r : Result B InferenceError) → ((f : Fault) → r ≡ Err (error.Fault f) → m ≡ Err (equation.Fault f)) → IfErr m (EquationAtLimit s)
    → IfErr r (λ e. e ≡ error.Fault Full → IsAtLimit s)
equation-full s m (Ok x) f h = tt
equation-full s m (Err e) f h = λ q. subst (λ z. IfErr z (EquationAtLimit s)) (f Full (ap Err q)) h refl

pub given-ok : {A : Type 0} (m : Result A Fault) (r : Result A InferenceError) (x : A) → IfOk r (λ y. m ≡ Ok y) → r ≡ Ok x → m ≡ Ok x
given-ok m r x h e = subst (λ z. IfOk z (λ y. m ≡ Ok y)) e h

-- ---- what is given on
pub err-given : {A B : Type 0} (m : Result A Fault) (r : Result B InferenceError) (P : Type 0) → IfErr r (λ e. (f : Fault) × (m ≡ Err f) × (e ≡ error.Fault f)) → OnErr m P → OnErr r P
err-given m (Ok x) P h p = tt
err-given m (Err e) P h p = subst (λ z. OnErr z P) h.1 p

pub given-if : {A : Type 0} (m : Result A Fault) (r : Result A InferenceError) (P : A → Type 0) → IfOk r (λ y. m ≡ Ok y) → IfOk m P → IfOk r P
given-if m (Ok x) P h p = subst (λ z. IfOk z P) h p
given-if m (Err e) P h p = tt

pub given-on : {A : Type 0} (m : Result A Fault) (r : Result A InferenceError) (P : Type 0) → IfOk r (λ y. m ≡ Ok y) → OnOk m P → OnOk r P
given-on m (Ok x) P h p = subst (λ z. OnOk z P) h p
given-on m (Err e) P h p = tt

pub shown-ok : (es : List Entry) (t : Trees) (r : Result GenericArgKind Fault) (P : Trees → Type 0) → IfOk r (λ a. arg_trees es a ≡ t) → IfOk r (λ a. P (arg_trees es a)) → OnOk r (P t)
shown-ok es t (Ok a) P e h = subst P e h
shown-ok es t (Err f) P e h = tt
