-- Groups of checks and of questions, as they are made.
use Rattle.std.proofs.Common.{◌≡◌, ℕ, ◌+◌, ◌⊎◌, inl, inr, List, [], ◌∷◌, ◌++◌, length, set, Some, sym, ap, ◌∙◌, subst, arith}
use Rattle.std.specs.List.{slice_get}
use Rattle.std.proofs.lemmas.Bool.{cases_eq, cases_lt}
use Rattle.std.proofs.lemmas.List.{length-set}
use Rattle.std.proofs.lemmas.Option.{same_Some, slice_get_within}
use Rattle.sessions.proofs.TypeTerms.Lists.{slice_get-append, slice_get-last}
use Rattle.sessions.specs.TextLanguage.Promised.Declarations.{Declarations, Check, Question}
use Rattle.coherence.specs.Groups.{checked_crate, IsCheckedIn, IsAskedIn, ArePlacesWhere, IsGroup, AreGroups}
use Rattle.coherence.specs.declared.groups.Group.{Group}
use Rattle.coherence.proofs.Sets.{set-here, set-elsewhere, snoc-get}

-- a question asks in one crate, and a check is of one
pub one-asker : (d : Declarations) (b c n : ℕ) → IsAskedIn d b n → IsAskedIn d c n → b ≡ c
one-asker d b c n (q, e, f) (r, g, h) = sym f ∙ ap (λ (x : Question). x.asker) (same_Some q r (sym e ∙ g)) ∙ h

pub one-checked : (d : Declarations) (b c n : ℕ) → IsCheckedIn d b n → IsCheckedIn d c n → b ≡ c
one-checked d b c n (q, e, f) (r, g, h) = sym f ∙ ap (λ (x : Check). checked_crate x) (same_Some q r (sym e ∙ g)) ∙ h

-- one more, of this crate
own-more : (Of : ℕ → Type 0) (n : ℕ) (ps : List ℕ) → ArePlacesWhere n Of ps → Of n → ArePlacesWhere (n + 1) Of (ps ++ n ∷ [])
own-more Of n ps g a = record {
  only = λ i k h. elim (snoc-get ps n i k h) [ inl e ↦ g.only i k e | inr e ↦ subst Of e a ];
  all = λ k h b. elim (cases_lt k n) [
    | inl lt ↦ let at = g.all k lt b in (at.0, slice_get-append ps (n ∷ []) at.0 k at.1)
    | inr le ↦ (length ps, let e : n ≡ k = omega arith in subst (λ m. slice_get (ps ++ n ∷ []) (length ps) ≡ Some m) e (slice_get-last ps n))
  ];
}

-- ... and of another
other-more : (Of : ℕ → Type 0) (n : ℕ) (ps : List ℕ) → ArePlacesWhere n Of ps → (Of n → ⊥) → ArePlacesWhere (n + 1) Of ps
other-more Of n ps g elsewhere = record {
  only = g.only;
  all = λ k h x. elim (cases_lt k n) [
    | inl lt ↦ g.all k lt x
    | inr le ↦ let e : k ≡ n = omega arith in absurd (elsewhere (subst Of e x))
  ];
}

-- one check more
pub check-added : (d : Declarations) (m n c : ℕ) (gs : List Group) (g h : Group) → AreGroups m n d gs → IsCheckedIn d c m → slice_get gs c ≡ Some g
    → h.checks.items ≡ g.checks.items ++ m ∷ [] → h.questions.items ≡ g.questions.items → AreGroups (m + 1) n d (set gs c h)
check-added d m n c gs g h all a at is same_questions = record { for_each = length-set gs c h ∙ all.for_each; are = each }
  where
    each : (b : ℕ) (x : Group) → slice_get (set gs c h) b ≡ Some x → IsGroup (m + 1) n d b x
    each b x e = by (cases_eq b c)
      where
        by : (b ≡ c) ⊎ (b ≡ c → ⊥) → IsGroup (m + 1) n d b x
        by (inl s) =
            let here : slice_get (set gs c h) c ≡ Some h = set-here gs c h (slice_get_within gs c g at) in
            let same : h ≡ x = same_Some h x (sym here ∙ subst (λ k. slice_get (set gs c h) k ≡ Some x) s e) in
            let old = all.are c g at in
            let new : IsGroup (m + 1) n d c h = record { checks = subst (ArePlacesWhere (m + 1) (IsCheckedIn d c)) (sym is) (own-more (IsCheckedIn d c) m g.checks.items old.checks a); questions = subst (ArePlacesWhere n (IsAskedIn d c)) (sym same_questions) old.questions } in
            subst (λ k. IsGroup (m + 1) n d k x) (sym s) (subst (IsGroup (m + 1) n d c) same new)
        by (inr ne) =
            let old = all.are b x (sym (set-elsewhere gs c h b ne) ∙ e) in
            record { checks = other-more (IsCheckedIn d b) m x.checks.items old.checks (λ z. ne (one-checked d b c m z a)); questions = old.questions }

-- one question more
pub question-added : (d : Declarations) (m n c : ℕ) (gs : List Group) (g h : Group) → AreGroups m n d gs → IsAskedIn d c n → slice_get gs c ≡ Some g
    → h.questions.items ≡ g.questions.items ++ n ∷ [] → h.checks.items ≡ g.checks.items → AreGroups m (n + 1) d (set gs c h)
question-added d m n c gs g h all a at is same_checks = record { for_each = length-set gs c h ∙ all.for_each; are = each }
  where
    each : (b : ℕ) (x : Group) → slice_get (set gs c h) b ≡ Some x → IsGroup m (n + 1) d b x
    each b x e = by (cases_eq b c)
      where
        by : (b ≡ c) ⊎ (b ≡ c → ⊥) → IsGroup m (n + 1) d b x
        by (inl s) =
            let here : slice_get (set gs c h) c ≡ Some h = set-here gs c h (slice_get_within gs c g at) in
            let same : h ≡ x = same_Some h x (sym here ∙ subst (λ k. slice_get (set gs c h) k ≡ Some x) s e) in
            let old = all.are c g at in
            let new : IsGroup m (n + 1) d c h = record { checks = subst (ArePlacesWhere m (IsCheckedIn d c)) (sym same_checks) old.checks; questions = subst (ArePlacesWhere (n + 1) (IsAskedIn d c)) (sym is) (own-more (IsAskedIn d c) n g.questions.items old.questions a) } in
            subst (λ k. IsGroup m (n + 1) d k x) (sym s) (subst (IsGroup m (n + 1) d c) same new)
        by (inr ne) =
            let old = all.are b x (sym (set-elsewhere gs c h b ne) ∙ e) in
            record { checks = old.checks; questions = other-more (IsAskedIn d b) n x.questions.items old.questions (λ z. ne (one-asker d b c n z a)) }
