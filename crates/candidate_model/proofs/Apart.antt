-- Arguments that are apart have no common instance: what is fixed stays as it is, whatever is put in, and what is read as one is not kept apart by its first levels.
use Rattle.std.proofs.Common.{◌≡◌, ℕ, zero, ◌==◌, true, not, List, refl, sym, ap, ◌∙◌, subst}
use Rattle.type_terms.specs.Promised.Label.{Label, of_type, of_const, of_lifetime, static, fn_ptr, principal, param, placeholder, infer, canonical, bound}
use Rattle.type_terms.specs.Promised.Worlds.{Reference}
use Rattle.type_terms.specs.Promised.Trees.{Trees, none, tree, erase, erase_label, instantiate}
use Rattle.type_terms.specs.Trees.{flags, label_flags}
use Rattle.type_terms.specs.Promised.Answers.{is_open}
use Rattle.type_terms.specs.Codes.{same}
use Rattle.type_terms.proofs.Applies.{same-complete}
use Rattle.goal_evaluator.specs.Instances.{read_with}
use Rattle.goal_evaluator.specs.Content.{given}
use Rattle.declarations.specs.Apart.{is_fixed, are_apart, levels}
use Rattle.declarations.proofs.Fixed.{top, child, next, no-flags, some-flag, fixed-label, fixed-erased, fixed-instance}
use Rattle.declarations.proofs.MeetingLaws.{Reads, ReadNode, instantiate-reads, meet, erased-meet, not-apart, may-be-one}
use Rattle.candidate_model.specs.Candidates.{can_be}
use Rattle.candidate_model.specs.Cover.{read_reference}
use Rattle.candidate_model.proofs.Reading.{begins}
use Rattle.type_terms.proofs.Members.{self-number}
use Rattle.type_terms.proofs.Walking.{both}
use Rattle.type_terms.proofs.TermBasics.{three}
use Rattle.type_terms.proofs.BooleanBasics.{true-false}

-- no label without flags stands for a term
read-itself : (ts : List Trees) (l : Label) (c o : Trees) → label_flags l ≡ 0 → read_with (given ts) (tree l c o) ≡ tree (erase_label l) (read_with (given ts) c) (read_with (given ts) o)
read-itself ts (param of_type i) c o h = absurd (some-flag 0 h)
read-itself ts (param of_const i) c o h = absurd (some-flag 255 h)
read-itself ts (param of_lifetime i) c o h = absurd (some-flag 15 h)
read-itself ts (placeholder of_type i) c o h = absurd (some-flag 3 h)
read-itself ts (placeholder of_const i) c o h = absurd (some-flag 1023 h)
read-itself ts (placeholder of_lifetime i) c o h = absurd (some-flag 63 h)
read-itself ts (infer of_type i) c o h = absurd (some-flag 1 h)
read-itself ts (infer of_const i) c o h = absurd (some-flag 511 h)
read-itself ts (infer of_lifetime i) c o h = absurd (some-flag 31 h)
read-itself ts (canonical of_type i) c o h = absurd (some-flag 7 h)
read-itself ts (canonical of_const i) c o h = absurd (some-flag 2047 h)
read-itself ts (canonical of_lifetime i) c o h = absurd (some-flag 127 h)
read-itself ts (bound of_type k i) c o h = absurd (some-flag 7 h)
read-itself ts (bound of_const k i) c o h = absurd (some-flag 2047 h)
read-itself ts (bound of_lifetime k i) c o h = absurd (some-flag 127 h)
read-itself ts static c o h = absurd (some-flag 8191 h)
read-itself ts l c o h = refl

fixed-read : (ts : List Trees) (t : Trees) → flags t ≡ 0 → read_with (given ts) t ≡ t
fixed-read ts none h = refl
fixed-read ts (tree l c o) h =
    read-itself ts l c o (top l c o h) ∙ three (fixed-label l (top l c o h)) (fixed-read ts c (child l c o h)) (fixed-read ts o (next l c o h))

-- ---- putting terms in for canonical variables is a way of reading; how many binders are around makes no difference
read-reads : (ts : List Trees) → Reads (λ d. read_with (given ts))
read-reads ts = record { nothing = λ d. refl; node = at }
  where
    -- where something is open any one tree may stand
    open-place : (d : ℕ) (l : Label) (c o : Trees) → is_open l ≡ true → ReadNode (λ d. read_with (given ts)) d l c o
    open-place d l c o e =
        let b = begins ts l c o in
        record {
          label = b.label;
          children = b.children;
          is = b.before;
          labelled = λ h. absurd (true-false (sym e ∙ h));
          within = d;
          parts = λ h k. absurd (true-false (sym e ∙ h));
        }

    at : (d : ℕ) (l : Label) (c o : Trees) → ReadNode (λ d. read_with (given ts)) d l c o
    at d (param s i) c o = open-place d (param s i) c o refl
    at d (placeholder s i) c o = open-place d (placeholder s i) c o refl
    at d (infer s i) c o = open-place d (infer s i) c o refl
    at d (canonical s i) c o = open-place d (canonical s i) c o refl
    at d (bound s k i) c o = open-place d (bound s k i) c o refl
    at d static c o = record {
      label = static;
      children = none;
      is = refl;
      labelled = λ h. refl;
      within = d;
      parts = λ h k. absurd (true-false (sym k));
    }
    at d (fn_ptr n) c o = record {
      label = fn_ptr zero;
      children = read_with (given ts) c;
      is = refl;
      labelled = λ h. refl;
      within = d;
      parts = λ h k. refl;
    }
    at d (principal n t) c o = record {
      label = principal zero t;
      children = read_with (given ts) c;
      is = refl;
      labelled = λ h. refl;
      within = d;
      parts = λ h k. refl;
    }
    at d l c o = record {
      label = l;
      children = read_with (given ts) c;
      is = refl;
      labelled = λ h. refl;
      within = d;
      parts = λ h k. refl;
    }

-- ---- the laws
-- what has a common instance is not apart
pub instances-meet : (ts : List Trees) (A t h : Trees) → instantiate zero A h ≡ read_with (given ts) t → not (are_apart t h) ≡ true
instances-meet ts A t h e =
    ap not
    (not-apart t h record {
      one = λ f g. same-complete t h (sym (fixed-read ts t (no-flags t f)) ∙ sym e ∙ fixed-instance zero A h (no-flags h g));
      levels_meet = meet (λ d. read_with (given ts)) (λ d. instantiate d A) (read-reads ts) (instantiate-reads A) levels zero zero t h (sym e);
    })

-- so is what is read as one
pub reads-meet : (ts : List Trees) (x y : Trees) → read_with (given ts) x ≡ read_with (given ts) y → not (are_apart x y) ≡ true
reads-meet ts x y e =
    ap not
    (not-apart x y record {
      one = λ f g. same-complete x y (sym (fixed-read ts x (no-flags x f)) ∙ e ∙ fixed-read ts y (no-flags y g));
      levels_meet = meet (λ d. read_with (given ts)) (λ d. read_with (given ts)) (read-reads ts) (read-reads ts) levels zero zero x y e;
    })

-- so a trait reference that is read as the goal can be the goal
pub reads-can-be : (ts : List Trees) (q r : Reference) → read_reference ts r ≡ read_reference ts q → can_be q r ≡ true
reads-can-be ts q r e =
    both (r.trait == q.trait) (not (are_apart q.args r.args)) (ap (λ (z : Reference). z.trait == q.trait) e ∙ self-number q.trait)
    (reads-meet ts q.args r.args (sym (ap (λ (z : Reference). z.args) e)))

-- lifetimes tell nothing apart
pub erased-apart : (t h : Trees) → not (are_apart t (erase h)) ≡ true → not (are_apart t h) ≡ true
erased-apart t h e =
    let p = may-be-one t (erase h) e in
    ap not
    (not-apart t h record {
      one = λ f g.
          let stays : erase h ≡ h = fixed-erased h (no-flags h g) in
          subst (λ z. same t z ≡ true) stays (p.one f (subst (λ z. is_fixed z ≡ true) (sym stays) g));
      levels_meet = erased-meet levels t h p.levels_meet;
    })
