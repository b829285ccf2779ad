-- The supertraits that a stack gives are those that come up in turn, and of a world the traits alone are read for them.
use Rattle.std.proofs.Common.{◌≡◌, ℕ, zero, suc, Bool, true, false, ◌||◌, List, [], ◌∷◌, ◌++◌, length, drop, refl, sym, ap, ◌∙◌}
use Rattle.std.specs.Prelude.{◌==◌, if◌then◌else◌, filter}
use Rattle.std.specs.List.{fold, list_any, flat_map}
use Rattle.std.proofs.lemmas.List.Folds.{list_any-append}
use Rattle.sessions.specs.TypeTerms.Promised.Worlds.{World, Reference, TraitDecl, all_with_args}
use Rattle.sessions.specs.TypeTerms.Promised.Rules.{same_reference, elaborated, written_supertraits, strict_supertraits, strict_supertraits_within}
use Rattle.sessions.proofs.TypeTerms.Supertraits.{flat-same}
use Rattle.sessions.specs.Declarations.Promised.Elaboration.{is_put, new_of, pushed, off_stack, supertraits}
use Rattle.coherence.specs.Promised.CheckAnswers.{supers_in_turn}
use Rattle.sessions.proofs.TypeTerms.BooleanBasics.{either-deep}

-- A reference's strict supertraits in turn.
abbrev pub turns_of : World → Reference → List Reference
turns_of V r = drop 1 (supers_in_turn (length (elaborated V (r ∷ []))) V [] (r ∷ []))

either-first : (a b c : Bool) → a || (b || c) ≡ b || (a || c)
either-first true true c = refl
either-first true false c = refl
either-first false b c = refl

-- where an element stands does not matter
any-moved : (p : Reference → Bool) (xs ys : List Reference) (x : Reference) → list_any p (xs ++ x ∷ ys) ≡ list_any p (x ∷ xs ++ ys)
any-moved p xs ys x = list_any-append p xs (x ∷ ys) ∙ either-first (list_any p xs) (p x) (list_any p ys) ∙ ap (λ b. p x || b) (sym (list_any-append p xs ys))

any-pushed : (p : Reference → Bool) (rs stack : List Reference) → list_any p (pushed rs stack) ≡ list_any p rs || list_any p stack
any-pushed p [] stack = refl
any-pushed p (r ∷ rs) stack = any-pushed p rs (r ∷ stack) ∙ either-deep (p r) (list_any p rs) (list_any p stack)

-- What was put on the stack stands on it, or around it.
abbrev IsPut : List Reference → List Reference → List Reference → Type 0
IsPut before around stack = (s : Reference) → is_put s before ≡ list_any (same_reference s) (around ++ stack)

abbrev on_stack : List Reference → List Reference → List Reference → List Reference
on_stack around stack ws = fold (λ rs s. if list_any (same_reference s) (around ++ rs) then rs else s ∷ rs) stack ws

push-same : (around before stack ws : List Reference) → IsPut before around stack → pushed (new_of before ws) stack ≡ on_stack around stack ws
push-same around before stack [] h = refl
push-same around before stack (w ∷ ws) h =
    by (is_put w before) (push-same around before stack ws h) (push-same around (w ∷ before) (w ∷ stack) ws (λ s. ap (λ b. same_reference s w || b) (h s) ∙ sym (any-moved (same_reference s) around stack w)))
    ∙ ap (λ b. on_stack around (if b then stack else w ∷ stack) ws) (h w)
  where
    by : (b : Bool) → pushed (new_of before ws) stack ≡ on_stack around stack ws → pushed (new_of (w ∷ before) ws) (w ∷ stack) ≡ on_stack around (w ∷ stack) ws
        → pushed (if b then new_of before ws else w ∷ new_of (w ∷ before) ws) stack ≡ on_stack around (if b then stack else w ∷ stack) ws
    by true p q = p
    by false p q = q

put-after : (around before stack news : List Reference) → IsPut before around stack → IsPut (news ++ before) around (pushed news stack)
put-after around before stack news h s =
    let p = same_reference s in
    list_any-append p news before
    ∙ ap (λ b. list_any p news || b) (h s ∙ list_any-append p around stack)
    ∙ either-first (list_any p news) (list_any p around) (list_any p stack)
    ∙ ap (λ b. list_any p around || b) (sym (any-pushed p news stack))
    ∙ sym (list_any-append p around (pushed news stack))

off-same : (n : ℕ) (V : World) (before around stack : List Reference) → IsPut before around stack → off_stack n V before stack ≡ supers_in_turn n V around stack
off-same zero V before around stack h = refl
off-same (suc n) V before around [] h = refl
off-same (suc n) V before around (r ∷ stack) h =
    let news = new_of before (written_supertraits V r) in
    let g : IsPut before (r ∷ around) stack = λ s. h s ∙ any-moved (same_reference s) around stack r in
    ap (λ rs. r ∷ rs)
    (off-same n V (news ++ before) (r ∷ around) (pushed news stack) (put-after (r ∷ around) before stack news g)
    ∙ ap (supers_in_turn n V (r ∷ around)) (push-same (r ∷ around) before stack (written_supertraits V r) g))

pub supertraits-in-turn : (V : World) (r : Reference) → supertraits V r ≡ turns_of V r
supertraits-in-turn V r =
    off-same (length (strict_supertraits V r ++ [])) V (new_of (r ∷ []) (written_supertraits V r) ++ r ∷ []) (r ∷ []) (pushed (new_of (r ∷ []) (written_supertraits V r)) [])
    (put-after (r ∷ []) (r ∷ []) [] (new_of (r ∷ []) (written_supertraits V r)) (λ s. refl))
    ∙ ap (supers_in_turn (length (strict_supertraits V r ++ [])) V (r ∷ [])) (push-same (r ∷ []) (r ∷ []) [] (written_supertraits V r) (λ s. refl))

-- ---- the traits alone are read
module _ (V U : World) (traits : V.traits ≡ U.traits) where
  written-same : (r : Reference) → written_supertraits V r ≡ written_supertraits U r
  written-same r = ap (λ (ts : List TraitDecl). flat_map (λ (t : TraitDecl). all_with_args r.args t.bounds) (filter (λ (x : TraitDecl). x.name == r.trait) ts)) traits

  turns-same : (n : ℕ) (before left : List Reference) → supers_in_turn n V before left ≡ supers_in_turn n U before left
  turns-same zero before left = refl
  turns-same (suc n) before [] = refl
  turns-same (suc n) before (r ∷ left) =
      ap (λ rs. r ∷ rs)
      (turns-same n (r ∷ before) (on_stack (r ∷ before) left (written_supertraits V r)) ∙ ap (λ ws. supers_in_turn n U (r ∷ before) (on_stack (r ∷ before) left ws)) (written-same r))

  within-same : (n : ℕ) (r : Reference) → strict_supertraits_within n V r ≡ strict_supertraits_within n U r
  within-same zero r = refl
  within-same (suc n) r =
      flat-same (λ s. s ∷ strict_supertraits_within n V s) (λ s. s ∷ strict_supertraits_within n U s) (written_supertraits V r) (λ s i. ap (λ rs. s ∷ rs) (within-same n s))
      ∙ ap (flat_map (λ s. s ∷ strict_supertraits_within n U s)) (written-same r)

  pub turns-by-traits : (r : Reference) → turns_of V r ≡ turns_of U r
  turns-by-traits r =
      ap (λ n. drop 1 (supers_in_turn n V [] (r ∷ []))) (ap (λ rs. length (r ∷ rs ++ [])) (within-same (length V.traits) r ∙ ap (λ (ts : List TraitDecl). strict_supertraits_within (length ts) U r) traits))
      ∙ ap (drop 1) (turns-same (length (elaborated U (r ∷ []))) [] (r ∷ []))
