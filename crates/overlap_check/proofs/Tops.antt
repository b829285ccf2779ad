-- Trees that never meet, whatever stands for their parameters: their heads or their first levels tell them apart, or nothing is open in them.
use Rattle.std.proofs.Common.{◌≡◌, ℕ, zero, Bool, true, false, Option, Some, None, refl, sym, ap, ◌∙◌}
use Rattle.std.specs.Prelude.{if◌then◌else◌}
use Rattle.type_terms.specs.Promised.Label.{Label, bool, char, str, never, array, slice, tuple, dynamic, int, uint, adt, fn_ptr, ref, raw_pointer}
use Rattle.type_terms.specs.Promised.Trees.{Trees, none, tree, erase, erase_label, instantiate}
use Rattle.type_terms.specs.Promised.Answers.{is_open}
use Rattle.type_terms.proofs.Applies.{same-complete}
use Rattle.type_terms.proofs.Made.{false-true}
use Rattle.declarations.specs.Apart.{is_fixed, levels, are_apart}
use Rattle.declarations.specs.Heads.{is_rigid, head_of}
use Rattle.declarations.proofs.Fixed.{no-flags, fixed-erased, fixed-instance}
use Rattle.declarations.proofs.MeetingLaws.{Reads, ReadNode, MayBeOne, parts-erased, erased-again, open-erased, instantiate-reads, meet, not-apart}
use Rattle.overlap_check.specs.Heads.{NeverMeet}

-- ---- heads
abbrev first_label : Trees → Option Label
first_label none = None
first_label (tree l c o) = Some l

-- a rigid head stays whatever is put in
rigid-stays : (l : Label) (A c o : Trees) → is_rigid l ≡ true → first_label (instantiate zero A (tree (erase_label l) c o)) ≡ Some (erase_label l)
rigid-stays bool A c o r = refl
rigid-stays char A c o r = refl
rigid-stays str A c o r = refl
rigid-stays never A c o r = refl
rigid-stays array A c o r = refl
rigid-stays slice A c o r = refl
rigid-stays tuple A c o r = refl
rigid-stays dynamic A c o r = refl
rigid-stays (int n) A c o r = refl
rigid-stays (uint n) A c o r = refl
rigid-stays (adt n) A c o r = refl
rigid-stays (fn_ptr n) A c o r = refl
rigid-stays (ref b) A c o r = refl
rigid-stays (raw_pointer b) A c o r = refl
rigid-stays l A c o r = absurd (false-true r)

head-stays : (t A : Trees) (l : Label) → head_of t ≡ Some l → first_label (instantiate zero A (erase t)) ≡ Some l
head-stays none A l e = cc
head-stays (tree m c o) A l e = by (is_rigid m) refl e
  where
    by : (b : Bool) → is_rigid m ≡ b → (if b then Some (erase_label m) else None) ≡ Some l → first_label (instantiate zero A (tree (erase_label m) (erase c) (erase o))) ≡ Some l
    by true r f = rigid-stays m A (erase c) (erase o) r ∙ f
    by false r f = cc

same-some : (a b : Label) → Some a ≡ Some b → a ≡ b
same-some a b e = cc

pub heads-differ : (x y : Trees) (l m : Label) → Some l ≡ head_of x → Some m ≡ head_of y → (l ≡ m → ⊥) → NeverMeet x y
heads-differ x y l m f g n A B p q e = n (same-some l m (sym (head-stays x A l (sym f)) ∙ ap first_label e ∙ head-stays y B m (sym g)))

-- ---- some levels deep
-- what is not open is not open without lifetimes
shut-erased : (l : Label) → is_open l ≡ false → is_open (erase_label l) ≡ false
shut-erased l h = by (is_open (erase_label l)) refl
  where
    by : (b : Bool) → is_open (erase_label l) ≡ b → b ≡ false
    by true e = absurd (false-true (sym h ∙ open-erased l e))
    by false e = refl

-- to read trees without their lifetimes is a way of reading
pub erased-reads : (f : ℕ → Trees → Trees) → Reads f → Reads (λ d t. f d (erase t))
erased-reads f F = record { nothing = F.nothing; node = at }
  where
    at : (d : ℕ) (l : Label) (c o : Trees) → ReadNode (λ e t. f e (erase t)) d l c o
    at d l c o =
        let x = F.node d (erase_label l) (erase c) (erase o) in
        record {
          label = x.label;
          children = x.children;
          is = x.is;
          labelled = λ h. x.labelled (shut-erased l h) ∙ erased-again l;
          within = x.within;
          parts = λ h g. x.parts (shut-erased l h) (parts-erased l ∙ g);
        }

pub apart-never-meet : (x y : Trees) → are_apart x y ≡ true → NeverMeet x y
apart-never-meet x y e A B p q same = false-true (sym (not-apart x y may) ∙ e)
  where
    reads : (C : Trees) → Reads (λ d t. instantiate d C (erase t))
    reads C = erased-reads (λ d. instantiate d C) (instantiate-reads C)

    stays : (C t : Trees) → is_fixed t ≡ true → instantiate zero C (erase t) ≡ t
    stays C t f = ap (instantiate zero C) (fixed-erased t (no-flags t f)) ∙ fixed-instance zero C t (no-flags t f)

    may : MayBeOne x y
    may = record {
      one = λ f g. same-complete x y (sym (stays A x f) ∙ same ∙ stays B y g);
      levels_meet = meet (λ d t. instantiate d A (erase t)) (λ d t. instantiate d B (erase t)) (reads A) (reads B) levels zero zero x y same;
    }
