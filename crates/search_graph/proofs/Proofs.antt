-- A proof graph without open ends is a proof.
use Rattle.std.proofs.Common.{◌≡◌, ℕ, Bool, true, false, ◌||◌, List, [], ◌∷◌, ◌++◌, ◌⊎◌, inl, inr, refl, sym, subst}
use Rattle.search_paths.specs.declared.path_kind.PathKind.{PathKind}
use Rattle.search_paths.specs.Path.{is_coinductive_path}
use Rattle.search_graph.specs.Shown.{Shown, none, loop, rule, LoopsBack}
use Rattle.search_graph.specs.Proof.{IsAmong, Derivation, end, again, by_rule, IsDerived, HasGraphProof}
use Rattle.search_graph.specs.Meaning.{Meaning}
use Rattle.search_graph.specs.Stack.{IsAnswer}
use Rattle.search_graph.specs.Answer.{IsSound}
use Rattle.search_graph.proofs.ProofGraphs.{LoopsBack-mono}
use Rattle.search_paths.proofs.HeadFacts.{all_kept}

among_left : {G : Type 0} (g : G) (xs ys : List G) → IsAmong g xs → IsAmong g (xs ++ ys)
among_left g [] ys h = absurd h
among_left g (x ∷ xs) ys (inl e) = inl e
among_left g (x ∷ xs) ys (inr h) = inr (among_left g xs ys h)

among_right : {G : Type 0} (g : G) (xs ys : List G) → IsAmong g ys → IsAmong g (xs ++ ys)
among_right g [] ys h = h
among_right g (x ∷ xs) ys h = inr (among_right g xs ys h)

among_parts : {G : Type 0} (g : G) (xs ys : List G) → IsAmong g (xs ++ ys) → IsAmong g xs ⊎ IsAmong g ys
among_parts g [] ys h = inr h
among_parts g (x ∷ xs) ys (inl e) = inl (inl e)
among_parts g (x ∷ xs) ys (inr h) = elim (among_parts g xs ys h) [ inl a ↦ inl (inr a) | inr b ↦ inr b ]

module _ (G : Type 0) (Follows : G → List (G × PathKind) → Type 0) where
  -- the goals of the rules
  abbrev goals_of : {path qs : List (G × PathKind)} → Shown G Follows path qs → List G
  goals_of none = []
  goals_of (loop l rest) = goals_of rest
  goals_of (rule {g = g} f below rest) = g ∷ goals_of below ++ goals_of rest

  module _ (all : List G) where
    record IsOpen (path : List (G × PathKind)) : Type 0 where
      among : (g : G) → LoopsBack path g true → IsAmong g all
      derived : (g : G) → LoopsBack path g false → IsDerived G Follows all g

    to_true : (path : List (G × PathKind)) (g : G) (b : Bool) → LoopsBack path g b → LoopsBack path g true
    to_true path g b l = LoopsBack-mono path g b true (λ e. refl) l

    loop_case : (path rest : List (G × PathKind)) (g : G) (k : PathKind) (b : Bool) → is_coinductive_path k ≡ b → IsOpen path → LoopsBack path g b → Derivation G Follows all rest → Derivation G Follows all ((g, k) ∷ rest)
    loop_case path rest g k true is o l d = again is (o.among g l) d
    loop_case path rest g k false is o l d = let x = o.derived g l in by_rule x.1 x.2 d

    under : (path : List (G × PathKind)) (g : G) (k : PathKind) → is_coinductive_path k ≡ false → IsAmong g all → IsOpen path → IsOpen ((g, k) ∷ path)
    under path g k is here o = record {
      among = λ h l. elim l [ inl x ↦ subst (λ z. IsAmong z all) (sym x.0) here | inr y ↦ o.among h (to_true path h (true || is_coinductive_path k) y) ];
      derived = λ h l. elim l [ inl x ↦ absurd (let e : false ≡ true = x.1 in cc) | inr y ↦ o.derived h (rw is at y) ];
    }

    under_whole : (path : List (G × PathKind)) (g : G) (k : PathKind) → IsAmong g all → IsOpen path → ((x : G) → LoopsBack path x true → IsDerived G Follows all x) → IsOpen ((g, k) ∷ path)
    under_whole path g k here o whole = record {
      among = λ h l. elim l [ inl x ↦ subst (λ z. IsAmong z all) (sym x.0) here | inr y ↦ o.among h (to_true path h (true || is_coinductive_path k) y) ];
      derived = λ h l. elim l [ inl x ↦ absurd (let e : false ≡ true = x.1 in cc) | inr y ↦ whole h (to_true path h (false || is_coinductive_path k) y) ];
    }

    rule_case : (rest premises : List (G × PathKind)) (g : G) (k : PathKind) (b : Bool) → is_coinductive_path k ≡ b → Follows g premises → IsAmong g all
        → (is_coinductive_path k ≡ false → Derivation G Follows all premises) → Derivation G Follows all rest → Derivation G Follows all ((g, k) ∷ rest)
    rule_case rest premises g k true is f here below d = again is here d
    rule_case rest premises g k false is f here below d = by_rule f (below is) d

    derive : {path qs : List (G × PathKind)} → (s : Shown G Follows path qs) → ((h : G) → IsAmong h (goals_of s) → IsAmong h all) → IsOpen path → Derivation G Follows all qs
    derive none within o = end
    derive (loop {path = path} {rest = more} {g = g} {k = k} l rest) within o = loop_case path more g k (is_coinductive_path k) refl o l (derive rest within o)
    derive (rule {path = path} {rest = more} {premises = premises} {g = g} {k = k} f below rest) within o =
        rule_case more premises g k (is_coinductive_path k) refl f (within g (inl refl))
        (λ e. derive below (λ h i. within h (inr (among_left h (goals_of below) (goals_of rest) i))) (under path g k e (within g (inl refl)) o))
        (derive rest (λ h i. within h (inr (among_right h (goals_of below) (goals_of rest) i))) o)

    all_derived : {path qs : List (G × PathKind)} → (s : Shown G Follows path qs) → ((h : G) → IsAmong h (goals_of s) → IsAmong h all) → IsOpen path → ((x : G) → LoopsBack path x true → IsDerived G Follows all x)
        → (h : G) → IsAmong h (goals_of s) → IsDerived G Follows all h
    all_derived none within o whole h i = absurd i
    all_derived (loop l rest) within o whole h i = all_derived rest within o whole h i
    all_derived (rule {path = path} {premises = premises} {g = g} {k = k} f below rest) within o whole h i =
        let here = within g (inl refl) in
        let lower : (x : G) → IsAmong x (goals_of below) → IsAmong x all = λ x j. within x (inr (among_left x (goals_of below) (goals_of rest) j)) in
        let opened = under_whole path g k here o whole in
        let own : IsDerived G Follows all g = (premises, f, derive below lower opened) in
        elim i [
          | inl e ↦ subst (λ z. IsDerived G Follows all z) (sym e) own
          | inr j ↦ elim (among_parts h (goals_of below) (goals_of rest) j) [
            | inl a ↦ all_derived below lower opened (λ x l. elim l [ inl y ↦ subst (λ z. IsDerived G Follows all z) (sym y.0) own | inr y ↦ whole x (to_true path x (true || is_coinductive_path k) y) ]) h a
            | inr b ↦ all_derived rest (λ x j. within x (inr (among_right x (goals_of below) (goals_of rest) j))) o whole h b
          ]
        ]

  -- a question that is shown with no path has a proof
  pub HasProof-from_shown : (g : G) (k : PathKind) → Shown G Follows [] ((g, k) ∷ []) → HasGraphProof G Follows g
  HasProof-from_shown g k (loop l rest) = absurd l
  HasProof-from_shown g k (rule f below rest) =
      let s = rule f below rest in
      record { goals = goals_of s; among = inl refl; derived = λ h i. all_derived (goals_of s) s (λ x j. j) (record { among = λ x l. absurd l; derived = λ x l. absurd l }) (λ x l. absurd l) h i }

-- an answer over no stack is sound
pub sound_answer : {C I R F : Type 0} (m : Meaning C I R F) (w : m.World) (g : m.Goal) (k : PathKind) (heads : List ℕ) (c : C) (r : R) → IsAnswer m w [] (g, k) heads c r → IsSound m w g c r
sound_answer m w g k heads c r a = record { known = a.known; fair = a.fair; yes = λ y. HasProof-from_shown m.Goal (m.Follows w) g k (a.yes y (λ place. true) (all_kept (λ place. true) heads (λ place h. refl))) }
