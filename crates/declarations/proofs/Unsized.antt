-- A visit that looks for a parameter finds it where it stands.
use Rattle.std.proofs.Common.{◌≡◌, ℕ, Bool, true, false, cond, List, [], ◌∷◌, Option, refl, sym, ap, ◌∙◌}
use Rattle.std.specs.Prelude.{◌||◌, ◌&&◌, ◌++◌, zero, suc, not, map, length, is_some}
use Rattle.type_terms.specs.Promised.Label.{Label, of_type, of_const, of_lifetime, param, placeholder, infer, canonical, bound}
use Rattle.type_terms.specs.Promised.Trees.{Trees, none, tree, some_node, erase, erase_label}
use Rattle.type_terms.specs.Promised.Rules.{is_parameter, is_unsizing}
use Rattle.type_terms.specs.declared.visit.Seen.{Seen}
use Rattle.type_terms.specs.declared.visit.Seen.TheVariants.{Break, Enter, Pass}
use Rattle.type_terms.specs.Pieces.{one_piece}
use Rattle.type_terms.specs.Visits.{Visits, ended, passed, broken, entered, broken_below, VisitsEach, ended_each, next_each, broken_each}
use Rattle.declarations.specs.declared.unsizing.ParamFinder.{ParamFinder}
use Rattle.declarations.specs.Unsizing.{looked_for, unsizing_flags}
use Rattle.type_terms.proofs.ListBasics.{pushed-length}

abbrev Sees : List ℕ → Trees → ParamFinder → ParamFinder → Seen (Unit {0}) → Type 0
Sees bs t v w a = (w ≡ v) × (a ≡ looked_for v.index t)

-- what the visit of t says
record Finds (t : Trees) (v w : ParamFinder) (r : Option (Unit {0})) : Type 0 where
  same : w ≡ v
  found : is_some r ≡ some_node (is_parameter v.index) t

abbrev pass : Seen (Unit {0})
pass = Pass

abbrev enter : Seen (Unit {0})
enter = Enter

abbrev break : Unit {0} → Seen (Unit {0})
break b = Break b

no-pass : (b : Bool) → pass ≡ cond b (break tt) enter → ⊥
no-pass true h = cc
no-pass false h = cc

breaks : (b : Bool) (u : Unit {0}) → break u ≡ cond b (break tt) enter → b ≡ true
breaks true u h = refl
breaks false u h = absurd cc

enters : (b : Bool) → enter ≡ cond b (break tt) enter → b ≡ false
enters true h = absurd cc
enters false h = refl

first-is : (a b c : Bool) → a ≡ true → true ≡ (a || b) || c
first-is true b c h = refl
first-is false b c h = absurd cc

second-is : (a b c : Bool) → true ≡ b → true ≡ (a || b) || c
second-is true b c h = refl
second-is false true c h = refl
second-is false false c h = absurd cc

third-is : (a b c d : Bool) → a ≡ false → false ≡ b → d ≡ c → d ≡ (a || b) || c
third-is true b c d h k e = absurd cc
third-is false true c d h k e = absurd cc
third-is false false c d h k e = e

visit-finds : {bs : List ℕ} {t : Trees} {v w : ParamFinder} {r : Option (Unit {0})} → Visits Sees bs t v w r → Finds t v w r
visit-finds ended = record { same = refl; found = refl }
visit-finds (passed {l = l} {v = v} s rest) = absurd (no-pass (is_parameter v.index l) s.1)
visit-finds (broken {l = l} {c = c} {o = o} {v = v} {b = b} s) = record {
  same = s.0;
  found = first-is (is_parameter v.index l) (some_node (is_parameter v.index) c) (some_node (is_parameter v.index) o) (breaks (is_parameter v.index l) b s.1);
}
visit-finds (entered {l = l} {c = c} {o = o} {v = v} {u = u} {w = w} {x = x} {r = r} s inner rest) =
    let below = visit-finds inner in
    let more = visit-finds rest in
    let one : w ≡ v = below.same ∙ s.0 in
    record {
      same = more.same ∙ one;
      found = third-is (is_parameter v.index l) (some_node (is_parameter v.index) c) (some_node (is_parameter v.index) o) (is_some r)
          (enters (is_parameter v.index l) s.1) (below.found ∙ ap (λ (z : ParamFinder). some_node (is_parameter z.index) c) s.0) (more.found ∙ ap (λ (z : ParamFinder). some_node (is_parameter z.index) o) one);
    }
visit-finds (broken_below {l = l} {c = c} {o = o} {v = v} {u = u} {w = w} {b = b} s inner) =
    let below = visit-finds inner in
    record {
      same = below.same ∙ s.0;
      found = second-is (is_parameter v.index l) (some_node (is_parameter v.index) c) (some_node (is_parameter v.index) o) (below.found ∙ ap (λ (z : ParamFinder). some_node (is_parameter z.index) c) s.0);
    }

pub value-finds : {bs : List ℕ} (t : Trees) {v w : ParamFinder} {r : Option (Unit {0})} → VisitsEach Sees bs (one_piece t) v w r → is_some r ≡ some_node (is_parameter v.index) t
value-finds t (next_each {v = v} first ended_each) = (visit-finds first).found
value-finds t (broken_each {v = v} first) = (visit-finds first).found

-- ---- the same without lifetimes
parameter-erased : (i : ℕ) (l : Label) → is_parameter i (erase_label l) ≡ is_parameter i l
parameter-erased i (param of_type j) = refl
parameter-erased i (param of_const j) = refl
parameter-erased i (param of_lifetime j) = refl
parameter-erased i (placeholder of_type j) = refl
parameter-erased i (placeholder of_const j) = refl
parameter-erased i (placeholder of_lifetime j) = refl
parameter-erased i (infer of_type j) = refl
parameter-erased i (infer of_const j) = refl
parameter-erased i (infer of_lifetime j) = refl
parameter-erased i (canonical of_type j) = refl
parameter-erased i (canonical of_const j) = refl
parameter-erased i (canonical of_lifetime j) = refl
parameter-erased i (bound of_type j k) = refl
parameter-erased i (bound of_const j k) = refl
parameter-erased i (bound of_lifetime j k) = refl
parameter-erased i l = refl

some-erased : (i : ℕ) (t : Trees) → some_node (is_parameter i) (erase t) ≡ some_node (is_parameter i) t
some-erased i none = refl
some-erased i (tree l c o) =
    ap (λ b. (b || some_node (is_parameter i) (erase c)) || some_node (is_parameter i) (erase o)) (parameter-erased i l)
    ∙ ap (λ b. (is_parameter i l || b) || some_node (is_parameter i) (erase o)) (some-erased i c)
    ∙ ap (λ b. (is_parameter i l || some_node (is_parameter i) c) || b) (some-erased i o)

unsizing-erased : (i : ℕ) (fs : List Trees) → is_unsizing (map erase fs) i ≡ is_unsizing fs i
unsizing-erased i [] = refl
unsizing-erased i (f ∷ []) = some-erased i f
unsizing-erased i (f ∷ g ∷ fs) = ap (λ b. not b && is_unsizing (erase g ∷ map erase fs) i) (some-erased i f) ∙ ap (λ b. not (some_node (is_parameter i) f) && b) (unsizing-erased i (g ∷ fs))

flags-erased : (fs : List Trees) (n : ℕ) → unsizing_flags (map erase fs) n ≡ unsizing_flags fs n
flags-erased fs zero = refl
flags-erased fs (suc n) = ap (λ l. l ++ is_unsizing (map erase fs) n ∷ []) (flags-erased fs n) ∙ ap (λ b. unsizing_flags fs n ++ b ∷ []) (unsizing-erased n fs)

flags-length : (fs : List Trees) (n : ℕ) → length (unsizing_flags fs n) ≡ n
flags-length fs zero = refl
flags-length fs (suc n) = pushed-length (unsizing_flags fs n) (is_unsizing fs n) ∙ ap suc (flags-length fs n)

pub flags-told : (fs : List Trees) (n : ℕ) (bs : List Bool) → bs ≡ unsizing_flags fs n → bs ≡ unsizing_flags (map erase fs) (length bs)
flags-told fs n bs h = h ∙ sym (flags-erased fs n) ∙ ap (unsizing_flags (map erase fs)) (sym (flags-length fs n) ∙ ap length (sym h))

-- ---- a field that is not the last
