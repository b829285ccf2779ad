-- Steps of the walk.
use Rattle.std.proofs.Common.{suc, ◌+◌, ◌≤◌, Bool, true, false, ◌≡◌, ◌↔◌, ℕ, ◌<◌, List, [], ◌∷◌, ◌++◌, length, Option, Some, None, IsSome, refl, sym, ap, ◌∙◌, arith}
use Rattle.std.specs.Prelude.{◌==◌, nat_le, MatchOption, if◌then◌else◌}
use Rattle.std.specs.Option.{option_to_list}
use Rattle.text_language.specs.Uses.{Use, binder_uses, items_use, trait_use, name_use, variable_use, lifetime_use, lifetime_arg_uses}
use Rattle.text_language.specs.Faults.{variables_in}
use Rattle.type_terms.specs.Promised.Label.{Sort, of_type, of_const, of_lifetime}
use Rattle.text_lines.specs.Cells.{Cell}
use Rattle.text_names.specs.declared.findings.Findings.{Findings}
use Rattle.text_names.specs.Machine as machine
use Rattle.text_names.specs.Machine.{Sight, Found, findings, either, using, keeping, noting, sort_misfits, name_misfits, lifetime_misfits}
use Rattle.text_names.specs.Resolved as resolved
use Rattle.text_lines.specs.Back.{begins, parts, count_above}
use Rattle.text_names.specs.declared.walk.Frame.{Frame}
use Rattle.text_names.specs.WalkViews.{frame_of, frames_onto, frames_in}
use Rattle.text_names.proofs.Uses.{findings-append}

pub frames-push : (fs : List Frame) (f : Frame) (s : List machine.WalkFrame) → frames_onto (fs ++ f ∷ []) s ≡ frame_of f ∷ frames_onto fs s
frames-push [] f s = refl
frames-push (h ∷ fs) f s = frames-push fs f (frame_of h ∷ s)

pub frames-pop : (fs ns : List Frame) (r : Option Frame) → fs ≡ ns ++ option_to_list r → (IsSome r ↔ (0 < length fs)) → MatchOption r (frames_in fs ≡ []) (λ f. frames_in fs ≡ frame_of f ∷ frames_in ns)
frames-pop [] ns None e v = refl
frames-pop (h ∷ fs) ns None e v = let some : 0 < length (h ∷ fs) = omega arith in let wrong = v.1 some in absurd cc
frames-pop fs ns (Some f) e v = ap frames_in e ∙ frames-push ns f []

-- faults that are those of uses without a variable
pub noted : (v : Sight) (us : List Use) (f : Findings) (a b : Found) → variables_in us ≡ [] → f ≡ findings v us → b ≡ noting f a → using v us a ≡ b
noted v us f a b h e g =
    ap (λ vs. record a { faults = either (findings v us) a.faults; variables = vs ++ a.variables }) h ∙ ap (λ x. noting x a) (sym e) ∙ sym g

pub no-variables-with : (p : Sort) (us : List Use) → variables_in us ≡ [] → variables_in (sort_misfits p ++ us) ≡ []
no-variables-with of_type us h = h
no-variables-with of_const us h = h
no-variables-with of_lifetime us h = h

-- two findings together
pub together : (v : Sight) (xs ys : List Use) (f g h : Findings) → f ≡ findings v xs → g ≡ findings v ys → h ≡ either f g → h ≡ findings v (xs ++ ys)
together v xs ys f g h p q r = r ∙ ap (λ x. either x g) p ∙ ap (either (findings v xs)) q ∙ sym (findings-append v xs ys)

pub going-same : (fs gs : List machine.WalkFrame) (s t : List (List (List ℕ))) (r q : List Cell) (a b : Found) → gs ≡ fs → t ≡ s → q ≡ r → b ≡ a → machine.going fs s r a ≡ machine.going gs t q b
going-same fs gs s t r q a b e f g h =
    ap (λ x. machine.going x s r a) (sym e) ∙ ap (λ x. machine.going gs x r a) (sym f) ∙ ap (λ x. machine.going gs t x a) (sym g) ∙ ap (machine.going gs t q) (sym h)

-- a variable
abbrev before-all : List ℕ × Sort → Found → Found
before-all x b = record b { variables = x ∷ b.variables }

abbrev with-faults : List ℕ × Sort → Found → Findings → Found
with-faults x a f = record a { faults = either f a.faults; variables = x ∷ a.variables }

pub noted-variable : (v : Sight) (p : Sort) (n : List ℕ) (f : Findings) (a b c : Found) → f ≡ findings v (name_misfits p ++ variable_use p n ∷ []) → b ≡ noting f a → c ≡ record b { variables = (n, p) ∷ b.variables }
    → using v (name_misfits p ++ variable_use p n ∷ []) a ≡ c
noted-variable v of_type n f a b c e g h = ap (with-faults (n, of_type) a) (sym e) ∙ ap (before-all (n, of_type)) (sym g) ∙ sym h
noted-variable v of_const n f a b c e g h = ap (with-faults (n, of_const) a) (sym e) ∙ ap (before-all (n, of_const)) (sym g) ∙ sym h
noted-variable v of_lifetime n f a b c e g h = ap (with-faults (n, of_lifetime) a) (sym e) ∙ ap (before-all (n, of_lifetime)) (sym g) ∙ sym h

-- a lifetime where an argument stands
pub lifetime-uses : (s : List (List (List ℕ))) (p : Sort) (n : List ℕ) → (lifetime_use s n ∷ []) ++ lifetime_misfits p ≡ lifetime_arg_uses s p n
lifetime-uses s of_type n = refl
lifetime-uses s of_const n = refl
lifetime-uses s of_lifetime n = refl

pub no-lifetime-variables : (s : List (List (List ℕ))) (p : Sort) (n : List ℕ) → variables_in (lifetime_arg_uses s p n) ≡ []
no-lifetime-variables s of_type n = refl
no-lifetime-variables s of_const n = refl
no-lifetime-variables s of_lifetime n = refl

-- ---- cells and variables together
abbrev more-variables : List (List ℕ × Sort) → Found → Found
more-variables vs b = record b { variables = vs ++ b.variables }

abbrev found-with : Found → Findings → List (List ℕ × Sort) → Found
found-with a f vs = record a { faults = either f a.faults; variables = vs ++ a.variables }

pub noted-with : (v : Sight) (us : List Use) (vs : List (List ℕ × Sort)) (f : Findings) (a b c : Found) → variables_in us ≡ vs → f ≡ findings v us → b ≡ noting f a → c ≡ record b { variables = vs ++ b.variables } → using v us a ≡ c
noted-with v us vs f a b c h e g k =
    ap (found-with a (findings v us)) h ∙ ap (λ y. found-with a y vs) (sym e) ∙ ap (more-variables vs) (sym g) ∙ sym k

pub misfit-variables : (p : Sort) (us : List Use) → variables_in (sort_misfits p ++ us) ≡ variables_in us
misfit-variables of_type us = refl
misfit-variables of_const us = refl
misfit-variables of_lifetime us = refl

pub name-variables : (p : Sort) (n : List ℕ) (k : ℕ) → variables_in (name_misfits p ++ name_use p n k ∷ []) ≡ []
name-variables of_type n k = refl
name-variables of_const n k = refl
name-variables of_lifetime n k = refl

pub kept-twice : (b : Bool) (f g : List resolved.ResolvedCell → List resolved.ResolvedCell) (a : Found) → keeping b (λ cs. f (g cs)) a ≡ keeping b f (keeping b g a)
kept-twice true f g a = refl
kept-twice false f g a = refl

pub kept-same : (b : Bool) (f g : List resolved.ResolvedCell → List resolved.ResolvedCell) (a : Found) → f a.cells ≡ g a.cells → keeping b f a ≡ keeping b g a
kept-same b f g a h = ap (λ z. record a { cells = if b then z else a.cells }) h

-- a binder and inputs
pub binder-variables : (s : List (List (List ℕ))) (b : List (List ℕ)) (us : List Use) → variables_in (binder_uses s b ++ us) ≡ variables_in us
binder-variables s [] us = refl
binder-variables s (n ∷ ns) us = refl

pub fn-variables : (p : Sort) (s : List (List (List ℕ))) (b : List (List ℕ)) (k : ℕ) → variables_in (sort_misfits p ++ (binder_uses s b ++ items_use k ∷ [])) ≡ []
fn-variables p s b k = misfit-variables p (binder_uses s b ++ items_use k ∷ []) ∙ binder-variables s b (items_use k ∷ [])

pub bound-variables : (s : List (List (List ℕ))) (b : List (List ℕ)) (n : List ℕ) (k : ℕ) → variables_in (binder_uses s b ++ trait_use n k ∷ []) ≡ []
bound-variables s b n k = binder-variables s b (trait_use n k ∷ [])

-- there are no more parts than cells
parts-within : (start end : ℕ) (r later : List Cell) → length (parts start end r later) ≤ length later + length r
parts-within start end [] later = omega arith
parts-within start end (c ∷ r) later = by (nat_le end start) (suc (length r) == end) (parts-within start (begins (c ∷ r)) r (c ∷ later)) (parts-within start end r later)
  where
    by : (a b : Bool) → length (parts start (begins (c ∷ r)) r (c ∷ later)) ≤ length (c ∷ later) + length r → length (parts start end r later) ≤ length later + length r
        → length (if a then later else (if b then parts start (begins (c ∷ r)) r (c ∷ later) else parts start end r later)) ≤ length later + length (c ∷ r)
    by true b h k = omega arith
    by false true h k = omega arith
    by false false h k = omega arith

pub count-within : (start : ℕ) (r : List Cell) → count_above start r ≤ length r
count-within start r = let h : length (parts start (length r) r []) ≤ 0 + length r = parts-within start (length r) r [] in omega arith
