-- Terms without binders: a header with placeholders for its parameters is the one that is asked, and without any lifetime parameter they are erased.
use Rattle.std.proofs.Common.{◌≡◌, Bool, true, false, ◌||◌, refl}
use Rattle.sessions.specs.TypeTerms.Promised.Label.{Label, of_type, of_const, of_lifetime, static, fn_ptr, principal, param, placeholder, infer, canonical, bound}
use Rattle.sessions.specs.TypeTerms.Promised.Supers.{opaque}
use Rattle.sessions.specs.TypeTerms.Promised.Trees.{Trees, none, tree, erase, some_node}
use Rattle.sessions.proofs.CandidateModel.PlainRules.{is_wild}
use Rattle.sessions.specs.TextLowering.Promised.SeenWorlds.{plain, plain_label, all_kept, none_kept}
use Rattle.coherence.specs.Promised.CheckAnswers.{asked_header}
use Rattle.sessions.proofs.TypeTerms.BooleanBasics.{true-false as refuse}
use Rattle.sessions.proofs.OpaqueTerms.{node}

all-no : (a b c : Bool) → a || b || c ≡ false → (a ≡ false) × (b ≡ false) × (c ≡ false)
all-no false false false h = (refl, refl, refl)
all-no true b c h = absurd cc
all-no false true c h = absurd cc
all-no false false true h = absurd cc

pub opaque-same : (t : Trees) → some_node is_wild (plain all_kept t) ≡ false → opaque (plain all_kept t) ≡ asked_header t
opaque-same none h = refl
opaque-same (tree l c o) h =
    let x = all-no (is_wild (plain_label all_kept l)) (some_node is_wild (plain all_kept c)) (some_node is_wild (plain all_kept o)) h in
    by l x.0 (opaque-same c x.1) (opaque-same o x.2)
  where
    by : (l : Label) → is_wild (plain_label all_kept l) ≡ false → opaque (plain all_kept c) ≡ asked_header c → opaque (plain all_kept o) ≡ asked_header o
        → opaque (tree (plain_label all_kept l) (plain all_kept c) (plain all_kept o)) ≡ asked_header (tree l c o)
    by (param of_type i) g e f = node (placeholder of_type i) e f
    by (param of_const i) g e f = node (placeholder of_const i) e f
    by (param of_lifetime i) g e f = node (placeholder of_lifetime i) e f
    by (placeholder of_type i) g e f = node (placeholder of_type i) e f
    by (placeholder of_const i) g e f = node (placeholder of_const i) e f
    by (placeholder of_lifetime i) g e f = absurd (refuse g)
    by (infer of_type i) g e f = node (infer of_type i) e f
    by (infer of_const i) g e f = node (infer of_const i) e f
    by (infer of_lifetime i) g e f = absurd (refuse g)
    by (canonical of_type i) g e f = node (canonical of_type i) e f
    by (canonical of_const i) g e f = node (canonical of_const i) e f
    by (canonical of_lifetime i) g e f = absurd (refuse g)
    by (bound of_type j i) g e f = absurd (refuse g)
    by (bound of_const j i) g e f = absurd (refuse g)
    by (bound of_lifetime j i) g e f = node static e f
    by (fn_ptr n) g e f = node (fn_ptr 0) e f
    by (principal n t) g e f = node (principal 0 t) e f
    by l g e f = node l e f

pub plain-is-erased : (t : Trees) → some_node is_wild (plain none_kept t) ≡ false → plain none_kept t ≡ erase t
plain-is-erased none h = refl
plain-is-erased (tree l c o) h =
    let x = all-no (is_wild (plain_label none_kept l)) (some_node is_wild (plain none_kept c)) (some_node is_wild (plain none_kept o)) h in
    by l x.0 (plain-is-erased c x.1) (plain-is-erased o x.2)
  where
    by : (l : Label) → is_wild (plain_label none_kept l) ≡ false → plain none_kept c ≡ erase c → plain none_kept o ≡ erase o → plain none_kept (tree l c o) ≡ erase (tree l c o)
    by (param of_type i) g e f = node (param of_type i) e f
    by (param of_const i) g e f = node (param of_const i) e f
    by (param of_lifetime i) g e f = node static e f
    by (placeholder of_type i) g e f = node (placeholder of_type i) e f
    by (placeholder of_const i) g e f = node (placeholder of_const i) e f
    by (placeholder of_lifetime i) g e f = absurd (refuse g)
    by (infer of_type i) g e f = node (infer of_type i) e f
    by (infer of_const i) g e f = node (infer of_const i) e f
    by (infer of_lifetime i) g e f = absurd (refuse g)
    by (canonical of_type i) g e f = node (canonical of_type i) e f
    by (canonical of_const i) g e f = node (canonical of_const i) e f
    by (canonical of_lifetime i) g e f = absurd (refuse g)
    by (bound of_type j i) g e f = absurd (refuse g)
    by (bound of_const j i) g e f = absurd (refuse g)
    by (bound of_lifetime j i) g e f = node static e f
    by (fn_ptr n) g e f = node (fn_ptr 0) e f
    by (principal n t) g e f = node (principal 0 t) e f
    by l g e f = node l e f
