-- Trees that are read as one are not told apart by what stands on their first levels, and what is apart has no instance in common.
use Rattle.std.proofs.Common.{◌≡◌, ℕ, zero, suc, Bool, true, false, not, ◌&&◌, ◌||◌, refl, sym, ap, ◌∙◌, subst}
use Rattle.type_terms.specs.Promised.Label.{Label, Sort, of_type, of_const, of_lifetime, param, placeholder, infer, canonical, bound, inside}
use Rattle.type_terms.specs.Promised.Trees.{Trees, none, tree, ◌+++◌, erase, erase_label, instantiate, nth, shift}
use Rattle.type_terms.specs.Trees.{Single}
use Rattle.type_terms.specs.Codes.{same, same_label}
use Rattle.type_terms.specs.Promised.Answers.{is_open}
use Rattle.type_terms.proofs.TreeLaws.{single-nth, single-shift}
use Rattle.type_terms.proofs.Applies.{same-label-itself}
use Rattle.declarations.specs.Apart.{is_fixed, has_parts, tops_may_meet, may_meet, levels, are_apart}
use Rattle.type_terms.proofs.Made.{false-true}
use Rattle.type_terms.proofs.BooleanBasics.{both}

first-of-both : (x y : Bool) → x && y ≡ true → x ≡ true
first-of-both true y e = refl
first-of-both false y e = e

second-of-both : (x y : Bool) → x && y ≡ true → y ≡ true
second-of-both true y e = e
second-of-both false y e = absurd (false-true e)

-- ---- labels up to lifetimes
pub parts-erased : (l : Label) → has_parts (erase_label l) ≡ has_parts l
parts-erased (param of_type i) = refl
parts-erased (param of_const i) = refl
parts-erased (param of_lifetime i) = refl
parts-erased (placeholder of_type i) = refl
parts-erased (placeholder of_const i) = refl
parts-erased (placeholder of_lifetime i) = refl
parts-erased (infer of_type i) = refl
parts-erased (infer of_const i) = refl
parts-erased (infer of_lifetime i) = refl
parts-erased (canonical of_type i) = refl
parts-erased (canonical of_const i) = refl
parts-erased (canonical of_lifetime i) = refl
parts-erased (bound of_type k i) = refl
parts-erased (bound of_const k i) = refl
parts-erased (bound of_lifetime k i) = refl
parts-erased l = refl

pub erased-again : (l : Label) → erase_label (erase_label l) ≡ erase_label l
erased-again (param of_type i) = refl
erased-again (param of_const i) = refl
erased-again (param of_lifetime i) = refl
erased-again (placeholder of_type i) = refl
erased-again (placeholder of_const i) = refl
erased-again (placeholder of_lifetime i) = refl
erased-again (infer of_type i) = refl
erased-again (infer of_const i) = refl
erased-again (infer of_lifetime i) = refl
erased-again (canonical of_type i) = refl
erased-again (canonical of_const i) = refl
erased-again (canonical of_lifetime i) = refl
erased-again (bound of_type k i) = refl
erased-again (bound of_const k i) = refl
erased-again (bound of_lifetime k i) = refl
erased-again l = refl

-- a lifetime that is open is `'static` there; nothing else changes
pub open-erased : (l : Label) → is_open (erase_label l) ≡ true → is_open l ≡ true
open-erased (param s i) e = refl
open-erased (placeholder s i) e = refl
open-erased (infer s i) e = refl
open-erased (canonical s i) e = refl
open-erased (bound s k i) e = refl
open-erased l e = e

label-complete : (l m : Label) → l ≡ m → same_label l m ≡ true
label-complete l m e = subst (λ z. same_label l z ≡ true) e (same-label-itself l)

-- ---- ways of reading
-- What f at d makes of a node: one node, before what it makes of the others. Where nothing is open it is of the same label up to lifetimes, and of a type with parts
-- these are read by f too.
pub record ReadNode (f : ℕ → Trees → Trees) (d : ℕ) (l : Label) (c o : Trees) : Type 0 where
  pub label : Label
  pub children : Trees
  pub is : f d (tree l c o) ≡ tree label children (f d o)
  pub labelled : is_open l ≡ false → erase_label label ≡ erase_label l
  pub within : ℕ
  pub parts : is_open l ≡ false → has_parts l ≡ true → children ≡ f within c

-- A way of reading trees, by a number: that of the binders around them, or any other.
pub record Reads (f : ℕ → Trees → Trees) : Type 0 where
  pub nothing : (d : ℕ) → f d none ≡ none
  pub node : (d : ℕ) (l : Label) (c o : Trees) → ReadNode f d l c o

-- putting in arguments is one
pub instantiate-reads : (A : Trees) → Reads (λ d. instantiate d A)
instantiate-reads A = record { nothing = λ d. refl; node = at }
  where
    put : (d : ℕ) (s : Sort) (i : ℕ) (c o x : Trees) → shift zero d (nth A i) ≡ x → Single x → ReadNode (λ e. instantiate e A) d (param s i) c o
    put d s i c o none e h = absurd h
    put d s i c o (tree m p q) e h = record {
      label = m;
      children = p;
      is = ap (λ z. z +++ instantiate d A o) (e ∙ ap (λ z. tree m p z) h);
      labelled = λ g. absurd (false-true (sym g));
      within = d;
      parts = λ g k. absurd (false-true (sym g));
    }

    at : (d : ℕ) (l : Label) (c o : Trees) → ReadNode (λ e. instantiate e A) d l c o
    at d (param s i) c o = put d s i c o (shift zero d (nth A i)) refl (single-shift zero d (nth A i) (single-nth A i))
    at d l c o = record { label = l; children = instantiate (inside l d) A c; is = refl; labelled = λ g. refl; within = inside l d; parts = λ g k. refl }

-- ---- what is read as one may meet
module _ (f g : ℕ → Trees → Trees) (F : Reads f) (G : Reads g) where
  tops : (d e : ℕ) (l m : Label) (c b o p : Trees) (parts : Bool) (x : ReadNode f d l c o) (y : ReadNode g e m b p) → x.label ≡ y.label → x.children ≡ y.children
      → ((i j : ℕ) → f i c ≡ g j b → parts ≡ true) → tops_may_meet l m parts ≡ true
  tops d e l m c b o p parts x y labels children deeper = by (is_open l) (is_open m) refl refl
    where
      by : (u v : Bool) → is_open l ≡ u → is_open m ≡ v → (u || (v || (same_label (erase_label l) (erase_label m) && (not (has_parts l) || parts)))) ≡ true
      by true v h k = refl
      by false true h k = refl
      by false false h k =
          both (same_label (erase_label l) (erase_label m)) (not (has_parts l) || parts) (label-complete (erase_label l) (erase_label m) one) (inner (has_parts l) refl)
        where
          one : erase_label l ≡ erase_label m
          one = sym (x.labelled h) ∙ ap erase_label labels ∙ y.labelled k

          inner : (w : Bool) → has_parts l ≡ w → (not w || parts) ≡ true
          inner false q = refl
          inner true q =
              deeper x.within y.within (sym (x.parts h q) ∙ children ∙ y.parts k (sym (parts-erased m) ∙ ap has_parts (sym one) ∙ parts-erased l ∙ q))

  pub meet : (n d e : ℕ) (t h : Trees) → f d t ≡ g e h → may_meet n t h ≡ true
  meet zero d e t h q = refl
  meet (suc n) d e none none q = refl
  meet (suc n) d e none (tree m b p) q = let y = G.node e m b p in absurd (ends y.label y.children (g e p) (sym (F.nothing d) ∙ q ∙ y.is))
    where
      ends : (k : Label) (r s : Trees) → none ≡ tree k r s → ⊥
      ends k r s z = cc
  meet (suc n) d e (tree l c o) none q = let x = F.node d l c o in absurd (ends x.label x.children (f d o) (sym (G.nothing e) ∙ sym q ∙ x.is))
    where
      ends : (k : Label) (r s : Trees) → none ≡ tree k r s → ⊥
      ends k r s z = cc
  meet (suc n) d e (tree l c o) (tree m b p) q =
      let x = F.node d l c o in
      let y = G.node e m b p in
      let is : tree x.label x.children (f d o) ≡ tree y.label y.children (g e p) = sym x.is ∙ q ∙ y.is in
      let labels : x.label ≡ y.label = cc in
      let children : x.children ≡ y.children = cc in
      let others : f d o ≡ g e p = cc in
      both (tops_may_meet l m (may_meet n c b)) (may_meet (suc n) o p) (tops d e l m c b o p (may_meet n c b) x y labels children (λ i j r. meet n i j c b r)) (meet (suc n) d e o p others)

-- ---- up to lifetimes
tops-erased : (l m : Label) (a b : Bool) → (a ≡ true → b ≡ true) → tops_may_meet l (erase_label m) a ≡ true → tops_may_meet l m b ≡ true
tops-erased l m a b f e =
    weaker (is_open l) (is_open m) (is_open (erase_label m)) (same_label (erase_label l) (erase_label m)) (same_label (erase_label l) (erase_label (erase_label m))) (has_parts l) a b
    (open-erased m) (ap (λ z. same_label (erase_label l) z) (erased-again m)) f e
  where
    weaker : (u v w s r k a b : Bool) → (w ≡ true → v ≡ true) → r ≡ s → (a ≡ true → b ≡ true)
        → (u || (w || (r && (not k || a)))) ≡ true → (u || (v || (s && (not k || b)))) ≡ true
    weaker true v w s r k a b f g h e = refl
    weaker false true w s r k a b f g h e = refl
    weaker false false true s r k a b f g h e = absurd (false-true (f refl))
    weaker false false false true r false a b f g h e = refl
    weaker false false false true r true a b f g h e = h (second-of-both r a e)
    weaker false false false false r k a b f g h e = absurd (false-true (sym g ∙ first-of-both r (not k || a) e))

pub erased-meet : (n : ℕ) (t h : Trees) → may_meet n t (erase h) ≡ true → may_meet n t h ≡ true
erased-meet zero t h q = refl
erased-meet (suc n) none none q = refl
erased-meet (suc n) none (tree m b p) q = q
erased-meet (suc n) (tree l c o) none q = q
erased-meet (suc n) (tree l c o) (tree m b p) q =
    both (tops_may_meet l m (may_meet n c b)) (may_meet (suc n) o p)
    (tops-erased l m (may_meet n c (erase b)) (may_meet n c b) (erased-meet n c b) (first-of-both (tops_may_meet l (erase_label m) (may_meet n c (erase b))) (may_meet (suc n) o (erase p)) q))
    (erased-meet (suc n) o p (second-of-both (tops_may_meet l (erase_label m) (may_meet n c (erase b))) (may_meet (suc n) o (erase p)) q))

-- ---- the test
-- what it leaves of two: they are one if both are fixed, and their first levels may meet
pub record MayBeOne (x y : Trees) : Type 0 where
  pub one : is_fixed x ≡ true → is_fixed y ≡ true → same x y ≡ true
  pub levels_meet : may_meet levels x y ≡ true

pub not-apart : (x y : Trees) → MayBeOne x y → are_apart x y ≡ false
not-apart x y p = by (is_fixed x) (is_fixed y) (same x y) (may_meet levels x y) refl refl refl p.levels_meet
  where
    by : (a b s m : Bool) → is_fixed x ≡ a → is_fixed y ≡ b → same x y ≡ s → m ≡ true → ((a && (b && not s)) || not m) ≡ false
    by a b s false f g h e = absurd (false-true e)
    by true true true true f g h e = refl
    by true true false true f g h e = absurd (false-true (sym h ∙ p.one f g))
    by true false s true f g h e = refl
    by false b s true f g h e = refl

pub may-be-one : (x y : Trees) → not (are_apart x y) ≡ true → MayBeOne x y
may-be-one x y e = record {
  one = λ f g. by (is_fixed x) (is_fixed y) (same x y) (may_meet levels x y) f g e;
  levels_meet = so (is_fixed x && (is_fixed y && not (same x y))) (may_meet levels x y) e;
}
  where
    by : (a b s m : Bool) → a ≡ true → b ≡ true → not ((a && (b && not s)) || not m) ≡ true → s ≡ true
    by true true true m f g q = refl
    by true true false m f g q = absurd (false-true q)
    by true false s m f g q = absurd (false-true g)
    by false b s m f g q = absurd (false-true f)

    so : (k m : Bool) → not (k || not m) ≡ true → m ≡ true
    so k true q = refl
    so true false q = q
    so false false q = q
