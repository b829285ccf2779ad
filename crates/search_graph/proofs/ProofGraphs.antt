-- Proof graphs over longer paths.
use Rattle.std.proofs.Common.{◌≡◌, Bool, true, false, ◌||◌, List, [], ◌∷◌, ◌⊎◌, inl, inr, refl, sym, subst}
use Rattle.search_paths.specs.declared.path_kind.PathKind.{PathKind}
use Rattle.search_paths.specs.declared.path_kind.PathKind.TheVariants.{ForcedAmbiguity}
use Rattle.search_paths.specs.Path.{is_coinductive_path, greater}
use Rattle.search_graph.specs.Shown.{Shown, none, loop, rule, LoopsBack}
use Rattle.search_paths.proofs.KindOrder.{greater_passes, greater_keeps}

or_mono : (a b x : Bool) → (a ≡ true → b ≡ true) → a || x ≡ true → b || x ≡ true
or_mono true b x h e = rw (h refl) refl
or_mono false true x h e = refl
or_mono false false x h e = e

pub or_left : (a b : Bool) → a ≡ true → a || b ≡ true
or_left a b h = rw h refl

pub LoopsBack-mono : {G : Type 0} (path : List (G × PathKind)) (g : G) (a b : Bool) → (a ≡ true → b ≡ true) → LoopsBack path g a → LoopsBack path g b
LoopsBack-mono [] g a b h l = l
LoopsBack-mono (q ∷ path) g a b h (inl l) = inl (l.0, h l.1)
LoopsBack-mono (q ∷ path) g a b h (inr l) = inr (LoopsBack-mono path g (a || is_coinductive_path q.1) (b || is_coinductive_path q.1) (or_mono a b (is_coinductive_path q.1) h) l)

-- what leads back to the first path leads back to the second
abbrev pub Extends : {G : Type 0} → List (G × PathKind) → List (G × PathKind) → Type 0
Extends {G} path longer = (g : G) (b : Bool) → LoopsBack path g b → LoopsBack longer g b

pub Extends-cons : {G : Type 0} (path longer : List (G × PathKind)) (q : G × PathKind) → Extends path longer → Extends (q ∷ path) (q ∷ longer)
Extends-cons path longer q e g b l = elim l [ inl x ↦ inl x | inr y ↦ inr (e g (b || is_coinductive_path q.1) y) ]

module _ {G : Type 0} (Follows : G → List (G × PathKind) → Type 0) where
  pub Shown-weaken : {path qs : List (G × PathKind)} (longer : List (G × PathKind)) → Extends path longer → Shown G Follows path qs → Shown G Follows longer qs
  Shown-weaken longer e none = none
  Shown-weaken longer e (loop l rest) = loop (e _ _ l) (Shown-weaken longer e rest)
  Shown-weaken longer e (rule {path = path} {g = g} {k = k} f below rest) = rule f (Shown-weaken ((g, k) ∷ longer) (Extends-cons path longer (g, k) e) below) (Shown-weaken longer e rest)

  -- a question that is asked by a step of another kind over another path
  pub Shown-moved : (path longer : List (G × PathKind)) (g : G) (i k : PathKind) → ((x : G) (b : Bool) → LoopsBack path x (b || is_coinductive_path i) → LoopsBack longer x (b || is_coinductive_path k))
      → Shown G Follows path ((g, i) ∷ []) → Shown G Follows longer ((g, k) ∷ [])
  Shown-moved path longer g i k e (loop l none) = loop (e g false l) none
  Shown-moved path longer g i k e (rule f below none) =
      rule f (Shown-weaken ((g, k) ∷ longer) (λ x b l. elim l [ inl y ↦ inl y | inr y ↦ inr (e x b y) ]) below) none

  -- a goal is put between
  pub Shown-between : (path : List (G × PathKind)) (h g : G) (j k : PathKind) → Shown G Follows path ((g, greater j k) ∷ []) → Shown G Follows ((h, j) ∷ path) ((g, k) ∷ [])
  Shown-between path h g j k s =
      Shown-moved path ((h, j) ∷ path) g (greater j k) k
      (λ x b l. inr (LoopsBack-mono path x (b || is_coinductive_path (greater j k)) ((b || is_coinductive_path k) || is_coinductive_path j) (greater_passes j k b) l)) s

  -- behind a goal, its own proof of an earlier run serves
  pub Shown-again : (path premises : List (G × PathKind)) (h : G) (j k : PathKind) → Follows h premises → Shown G Follows ((h, j) ∷ path) premises → Shown G Follows ((h, j) ∷ path) ((h, k) ∷ [])
  Shown-again path premises h j k f s =
      rule f (Shown-weaken ((h, k) ∷ (h, j) ∷ path) (λ x b l. inr (LoopsBack-mono ((h, j) ∷ path) x b (b || is_coinductive_path k) (or_left b (is_coinductive_path k)) l)) s) none

-- what leads back to the long path leads back to the goal p, or to the short path
abbrev pub Cuts : {G : Type 0} → G → List (G × PathKind) → List (G × PathKind) → Type 0
Cuts {G} p long short = (x : G) (b : Bool) → LoopsBack long x b → (x ≡ p) ⊎ LoopsBack short x b

-- what leads back to p on a path leads back to p, or to the short path
abbrev pub Places : {G : Type 0} → G → PathKind → List (G × PathKind) → List (G × PathKind) → Type 0
Places {G} p a path short = (x : G) (b : Bool) → LoopsBack ((p, a) ∷ path) x b → ((x ≡ p) × (b ≡ true)) ⊎ LoopsBack short x b

module _ {G : Type 0} (Follows : G → List (G × PathKind) → Type 0) (p : G) (a : PathKind) (path premises : List (G × PathKind)) (follows : Follows p premises) (proof : Shown G Follows ((p, a) ∷ path) premises) where
  -- the proof of p is put in below a question on p
  placed : (short : List (G × PathKind)) (k : PathKind) → Places p a path short → Shown G Follows ((p, k) ∷ short) premises
  placed short k places =
      Shown-weaken Follows ((p, k) ∷ short)
      (λ x b l. elim (places x b l) [ inl y ↦ inl y | inr y ↦ inr (LoopsBack-mono short x b (b || is_coinductive_path k) (or_left b (is_coinductive_path k)) y) ]) proof

  -- p leaves the path: its own proof is put in where it was looped to
  pub Shown-cut : {long qs : List (G × PathKind)} (short : List (G × PathKind)) → Places p a path short → Cuts p long short → Shown G Follows long qs → Shown G Follows short qs
  Shown-cut short places cuts none = none
  Shown-cut short places cuts (loop {rest = rest} {g = g} {k = k} l more) =
      elim (cuts g (is_coinductive_path k) l) [
        | inl is ↦ subst (λ z. Shown G Follows short ((z, k) ∷ rest)) (sym is) (rule follows (placed short k places) (Shown-cut short places cuts more))
        | inr back ↦ loop back (Shown-cut short places cuts more)
      ]
  Shown-cut short places cuts (rule {g = g} {k = k} f below more) =
      rule f
      (Shown-cut ((g, k) ∷ short)
      (λ x b l. elim (places x b l) [ inl y ↦ inl y | inr y ↦ inr (inr (LoopsBack-mono short x b (b || is_coinductive_path k) (or_left b (is_coinductive_path k)) y)) ])
      (λ x b l. elim l [ inl y ↦ inr (inl y) | inr y ↦ elim (cuts x (b || is_coinductive_path k) y) [ inl z ↦ inl z | inr z ↦ inr (inr z) ] ])
      below)
      (Shown-cut short places cuts more)

  -- a coinductive step to p is one to g
  kept_first : (k : PathKind) (b : Bool) → (greater a k ≡ ForcedAmbiguity → ⊥) → b || is_coinductive_path a ≡ true → b || is_coinductive_path (greater a k) ≡ true
  kept_first k b free h = greater_keeps a k b free (or_mono b (b || is_coinductive_path k) (is_coinductive_path a) (or_left b (is_coinductive_path k)) h)

  -- a question that was asked by p is asked by the goal before it
  pub Shown-moves : (g : G) (k : PathKind) → (greater a k ≡ ForcedAmbiguity → ⊥) → Shown G Follows ((p, a) ∷ path) ((g, k) ∷ []) → Shown G Follows path ((g, greater a k) ∷ [])
  Shown-moves g k free (loop (inl is) none) =
      subst (λ z. Shown G Follows path ((z, greater a k) ∷ [])) (sym is.0)
      (rule follows
      (Shown-weaken Follows ((p, greater a k) ∷ path)
      (λ x b l. elim l [ inl y ↦ inl y | inr y ↦ inr (LoopsBack-mono path x (b || is_coinductive_path a) (b || is_coinductive_path (greater a k)) (kept_first k b free) y) ]) proof)
      none)
  Shown-moves g k free (loop (inr l) none) = loop (LoopsBack-mono path g (is_coinductive_path k || is_coinductive_path a) (is_coinductive_path (greater a k)) (greater_keeps a k false free) l) none
  Shown-moves g k free (rule f below none) =
      rule f
      (Shown-cut ((g, greater a k) ∷ path)
      (λ x b l. elim l [ inl y ↦ inl y | inr y ↦ inr (inr (LoopsBack-mono path x (b || is_coinductive_path a) (b || is_coinductive_path (greater a k)) (kept_first k b free) y)) ])
      (λ x b l. elim l [ inl y ↦ inr (inl y) | inr (inl z) ↦ inl z.0 | inr (inr z) ↦ inr (inr (LoopsBack-mono path x ((b || is_coinductive_path k) || is_coinductive_path a) (b || is_coinductive_path (greater a k)) (greater_keeps a k b free) z)) ])
      below)
      none
