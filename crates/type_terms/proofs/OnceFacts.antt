-- A visit that enters each type once is a visit.
use Rattle.std.proofs.Common.{◌≡◌, ℕ, suc, ◌+◌, ◌<◌, ◌≤◌, List, Option, Some, None, refl, inl, inr, sym, subst, arith}
use Rattle.std.specs.Prelude.{◌⊎◌}
use Rattle.type_terms.specs.Promised.Label.{Label}
use Rattle.type_terms.specs.Promised.Trees.{Trees, none, tree}
use Rattle.type_terms.specs.Promised.Handles.{Entry}
use Rattle.type_terms.specs.declared.entered.Entered.{Entered}
use Rattle.type_terms.specs.declared.once.Once.{Once}
use Rattle.type_terms.specs.declared.visit.Seen.{Seen}
use Rattle.type_terms.specs.declared.visit.Seen.TheVariants.{Break, Enter, Pass}
use Rattle.type_terms.specs.Visits.{around, Visits, VisitsBelow, below, ended, passed, broken, entered, broken_below, VisitsEach, ended_each, next_each, broken_each}
use Rattle.type_terms.specs.Pieces.{Piece}
use Rattle.type_terms.specs.Entering.{HasEntered, EntersOnly, SeesOnce}

-- how many nodes a forest has
abbrev pub size : Trees → ℕ
size none = 0
size (tree l c o) = suc (size c + size o)

part-smaller : (l : Label) (c o : Trees) (n : ℕ) → size (tree l c o) < n → (size c < n) × (size o < n)
part-smaller l c o n h = (omega (arith, h), omega (arith, h))

children-smaller : (l : Label) (c : Trees) → size c < size (tree l c none)
children-smaller l c = omega arith

not-smaller : (T : Type 0) (l : Label) (c o : Trees) → size (tree l c o) < size (tree l c none) → T
not-smaller T l c o h = absurd (omega (arith, h))

-- a visitor that goes on after an answer
abbrev GoesOn : {B : Type 0} → Seen B → Type 0
GoesOn (Break b) = ⊥
GoesOn Enter = Unit {0}
GoesOn Pass = Unit {0}

-- `leads v w`: what further nodes can make of v is w. To a node that it has seen it answers the same again, then and later,
-- whatever binders are around, and stays as it is
pub record Repeats {V B : Type 0} (sees : List ℕ → Trees → V → V → Seen B → Type 0) (leads : V → V → Type 0) : Type 0 where
  pub nowhere : (v : V) → leads v v
  pub on : (u v w : V) → leads u v → leads v w → leads u w
  pub by : (bs : List ℕ) (t : Trees) (v w : V) (a : Seen B) → sees bs t v w a → leads v w
  pub again : (bs cs : List ℕ) (t : Trees) (v w x : V) (a : Seen B) → sees bs t v w a → leads w x → sees cs t x x a

module _ {V B : Type 0} (sees : List ℕ → Trees → V → V → Seen B → Type 0) (leads : V → V → Type 0) (law : Repeats sees leads) where
  visits-lead : (bs : List ℕ) (t : Trees) (v w : V) (r : Option B) → Visits sees bs t v w r → leads v w
  visits-lead bs _ v _ _ ended = law.nowhere v
  visits-lead bs _ v w r (passed {l = l} {c = c} {o = o} {w = u} s a) = law.on v u w (law.by bs (tree l c none) v u Pass s) (visits-lead bs o u w r a)
  visits-lead bs _ v w _ (broken {l = l} {c = c} {b = b} s) = law.by bs (tree l c none) v w (Break b) s
  visits-lead bs _ v w r (entered {l = l} {c = c} {o = o} {u = u} {w = z} s a b) =
      law.on v z w (law.on v u z (law.by bs (tree l c none) v u Enter s) (visits-lead (around l bs) c u z None a)) (visits-lead bs o z w r b)
  visits-lead bs _ v w _ (broken_below {l = l} {c = c} {u = u} {b = b} s a) = law.on v u w (law.by bs (tree l c none) v u Enter s) (visits-lead (around l bs) c u w (Some b) a)

  visits-again : (bs cs : List ℕ) (t : Trees) (v w x : V) (r : Option B) → r ≡ None → Visits sees bs t v w r → leads w x → Visits sees cs t x x None
  visits-again bs cs _ v w x _ n ended l = ended
  visits-again bs cs _ v w x r n (passed {l = m} {c = c} {o = o} {w = u} s a) l =
      passed (law.again bs cs (tree m c none) v u x Pass s (law.on u w x (visits-lead bs o u w r a) l)) (visits-again bs cs o u w x r n a l)
  visits-again bs cs _ v w x _ n (broken s) l = cc
  visits-again bs cs _ v w x r n (entered {l = m} {c = c} {o = o} {u = u} {w = z} s a b) l =
      let after = law.on z w x (visits-lead bs o z w r b) l in
      entered (law.again bs cs (tree m c none) v u x Enter s (law.on u z x (visits-lead (around m bs) c u z None a) after))
      (visits-again (around m bs) (around m cs) c u z x None refl a after) (visits-again bs cs o z w x r n b l)
  visits-again bs cs _ v w x _ n (broken_below s a) l = cc

  -- from v on a visit of the term's children changes nothing
  abbrev pub CanPass : V → Trees → Type 0
  CanPass v t = (bs : List ℕ) (x : V) → leads v x → VisitsBelow sees bs t x x None

  can-pass-later : (v w : V) (t : Trees) → leads v w → CanPass v t → CanPass w t
  can-pass-later v w t l h bs x g = h bs x (law.on v w x l g)

  children : (bs : List ℕ) (l : Label) (c : Trees) (x : V) → VisitsBelow sees bs (tree l c none) x x None → Visits sees (around l bs) c x x None
  children bs l c x (below h) = h

  can-pass-node : (bs : List ℕ) (l : Label) (c : Trees) (u w : V) → Visits sees (around l bs) c u w None → CanPass w (tree l c none)
  can-pass-node bs l c u w h cs x g = below (visits-again (around l bs) (around l cs) c u w x None refl h g)

  -- what was entered can be passed over, or is being visited: then it is larger than what is visited next
  abbrev pub Open : List Entry → V → Entered → ℕ → Type 0
  Open es v e n = (s : Trees) → HasEntered es e s → CanPass v s ⊎ (n < size s)

  -- it is a visit, and what it has entered since can be passed over where it went on to the end
  pub record IsVisit (es : List Entry) (bs : List ℕ) (t : Trees) (v w : Once V) (r : Option B) : Type 0 where
    pub visited : Visits sees bs t v.visitor w.visitor r
    pub since : r ≡ None → (s : Trees) → HasEntered es w.entered s → HasEntered es v.entered s ⊎ CanPass w.visitor s

  -- what was start stays so
  open-later : (es : List Entry) (v w : V) (e f : Entered) (n m : ℕ) → leads v w → ((s : Trees) → HasEntered es f s → HasEntered es e s ⊎ CanPass w s) → m ≤ n → Open es v e n → Open es w f m
  open-later es v w e f n m l more less h s has = go (more s has)
    where
      old : CanPass v s ⊎ (n < size s) → CanPass w s ⊎ (m < size s)
      old (inl p) = inl (can-pass-later v w s l p)
      old (inr g) = inr (omega (arith, g, less))

      go : HasEntered es e s ⊎ CanPass w s → CanPass w s ⊎ (m < size s)
      go (inl p) = old (h s p)
      go (inr p) = inl p

  -- below a node that is entered
  open-below : (es : List Entry) (v u : V) (e f : Entered) (l : Label) (c o : Trees) → leads v u → EntersOnly es e f (tree l c none) → Open es v e (size (tree l c o)) → Open es u f (size c)
  open-below es v u e f l c o g only h s has = go (only s has)
    where
      old : CanPass v s ⊎ (size (tree l c o) < size s) → CanPass u s ⊎ (size c < size s)
      old (inl p) = inl (can-pass-later v u s g p)
      old (inr q) = inr (part-smaller l c o (size s) q).0

      go : HasEntered es e s ⊎ (s ≡ tree l c none) → CanPass u s ⊎ (size c < size s)
      go (inl p) = old (h s p)
      go (inr q) = inr (subst (λ z. size c < size z) (sym q) (children-smaller l c))

  -- a node whose children were visited to the end
  since-below : (es : List Entry) (bs : List ℕ) (l : Label) (c : Trees) (u w : V) (e f k : Entered) → Visits sees (around l bs) c u w None → EntersOnly es e f (tree l c none)
      → ((s : Trees) → HasEntered es k s → HasEntered es f s ⊎ CanPass w s) → (s : Trees) → HasEntered es k s → HasEntered es e s ⊎ CanPass w s
  since-below es bs l c u w e f k h only more s has = go (more s has)
    where
      old : HasEntered es e s ⊎ (s ≡ tree l c none) → HasEntered es e s ⊎ CanPass w s
      old (inl p) = inl p
      old (inr q) = inr (subst (CanPass w) (sym q) (can-pass-node bs l c u w h))

      go : HasEntered es f s ⊎ CanPass w s → HasEntered es e s ⊎ CanPass w s
      go (inl p) = old (only s p)
      go (inr p) = inr p

  -- one stretch after the other
  since-both : (es : List Entry) (v w : V) (e f k : Entered) → leads v w → ((s : Trees) → HasEntered es f s → HasEntered es e s ⊎ CanPass v s)
      → ((s : Trees) → HasEntered es k s → HasEntered es f s ⊎ CanPass w s) → (s : Trees) → HasEntered es k s → HasEntered es e s ⊎ CanPass w s
  since-both es v w e f k l first more s has = go (more s has)
    where
      old : HasEntered es e s ⊎ CanPass v s → HasEntered es e s ⊎ CanPass w s
      old (inl p) = inl p
      old (inr p) = inr (can-pass-later v w s l p)

      go : HasEntered es f s ⊎ CanPass w s → HasEntered es e s ⊎ CanPass w s
      go (inl p) = old (first s p)
      go (inr p) = inr p

  more-of : (T : Type 0) (S : Type 0) → T → T ⊎ S
  more-of T S x = inl x

  -- a node that is passed over, by the visitor or since it was entered before
  over : (es : List Entry) (bs : List ℕ) (l : Label) (c o : Trees) (v u : Once V) (w : V) (r : Option B) → SeesOnce sees es bs (tree l c none) v u Pass
      → Open es v.visitor v.entered (size (tree l c o)) → Visits sees bs o u.visitor w r → leads v.visitor u.visitor × Visits sees bs (tree l c o) v.visitor w r
  over es bs l c o v u w r s start rest = go s.0
    where
      node : Trees
      node = tree l c none

      seen : sees bs node v.visitor u.visitor Enter → CanPass v.visitor node ⊎ (size (tree l c o) < size node) → leads v.visitor u.visitor × Visits sees bs (tree l c o) v.visitor w r
      seen e (inl p) =
          let lead = law.by bs node v.visitor u.visitor Enter e in
          (lead, entered e (children bs l c u.visitor (p bs u.visitor lead)) rest)
      seen e (inr q) = not-smaller _ l c o q

      go : sees bs node v.visitor u.visitor Pass ⊎ (sees bs node v.visitor u.visitor Enter × HasEntered es v.entered node) → leads v.visitor u.visitor × Visits sees bs (tree l c o) v.visitor w r
      go (inl p) = (law.by bs node v.visitor u.visitor Pass p, passed p rest)
      go (inr p) = seen p.0 (start node p.1)

  over-leads : (es : List Entry) (bs : List ℕ) (t : Trees) (v u : Once V) → SeesOnce sees es bs t v u Pass → leads v.visitor u.visitor
  over-leads es bs t v u s = go s.0
    where
      go : sees bs t v.visitor u.visitor Pass ⊎ (sees bs t v.visitor u.visitor Enter × HasEntered es v.entered t) → leads v.visitor u.visitor
      go (inl p) = law.by bs t v.visitor u.visitor Pass p
      go (inr p) = law.by bs t v.visitor u.visitor Enter p.0

  pub once-visits : (es : List Entry) (bs : List ℕ) (t : Trees) (v w : Once V) (r : Option B) → Visits (SeesOnce sees es) bs t v w r → Open es v.visitor v.entered (size t) → IsVisit es bs t v w r
  once-visits es bs _ v _ _ ended start = record { visited = ended; since = λ n s h. inl h }
  once-visits es bs _ v w r (passed {l = l} {c = c} {o = o} {w = u} s a) start =
      let lead = over-leads es bs (tree l c none) v u s in
      let after = open-later es v.visitor u.visitor v.entered u.entered (size (tree l c o)) (size o) lead (λ z h. more-of (HasEntered es v.entered z) (CanPass u.visitor z) (s.1 z h)) (omega arith) start in
      let rest = once-visits es bs o u w r a after in
      record {
        visited = (over es bs l c o v u w.visitor r s start rest.visited).1;
        since = λ n. since-both es u.visitor w.visitor v.entered u.entered w.entered (visits-lead bs o u.visitor w.visitor r rest.visited)
            (λ z h. more-of (HasEntered es v.entered z) (CanPass u.visitor z) (s.1 z h)) (rest.since n);
      }
  once-visits es bs _ v w _ (broken {l = l} {c = c} {b = b} s) start = record { visited = broken s; since = λ n. absurd (some-none n) }
    where
      some-none : {e : B} → Some e ≡ None → ⊥
      some-none n = cc
  once-visits es bs _ v w r (entered {l = l} {c = c} {o = o} {u = u} {w = z} s a b) start =
      let lead = law.by bs (tree l c none) v.visitor u.visitor Enter s.0 in
      let inside = once-visits es (around l bs) c u z None a (open-below es v.visitor u.visitor v.entered u.entered l c o lead s.1 start) in
      let inner = visits-lead (around l bs) c u.visitor z.visitor None inside.visited in
      let first = since-below es bs l c u.visitor z.visitor v.entered u.entered z.entered inside.visited s.1 (inside.since refl) in
      let after = open-later es v.visitor z.visitor v.entered z.entered (size (tree l c o)) (size o) (law.on v.visitor u.visitor z.visitor lead inner) first (omega arith) start in
      let rest = once-visits es bs o z w r b after in
      record {
        visited = entered s.0 inside.visited rest.visited;
        since = λ n. since-both es z.visitor w.visitor v.entered z.entered w.entered (visits-lead bs o z.visitor w.visitor r rest.visited) first (rest.since n);
      }
  once-visits es bs _ v w _ (broken_below {l = l} {c = c} {o = o} {u = u} {b = b} s a) start =
      let lead = law.by bs (tree l c none) v.visitor u.visitor Enter s.0 in
      let inside = once-visits es (around l bs) c u w (Some b) a (open-below es v.visitor u.visitor v.entered u.entered l c o lead s.1 start) in
      record { visited = broken_below s.0 inside.visited; since = λ n. absurd (some-none n) }
    where
      some-none : {e : B} → Some e ≡ None → ⊥
      some-none n = cc

  -- all that was entered can be passed over
  abbrev pub AllPass : List Entry → Once V → Type 0
  AllPass es v = (s : Trees) → HasEntered es v.entered s → CanPass v.visitor s

  all-open : (es : List Entry) (v : Once V) (n : ℕ) → AllPass es v → Open es v.visitor v.entered n
  all-open es v n h s has = inl (h s has)

  all-later : (es : List Entry) (v w : Once V) → leads v.visitor w.visitor → ((s : Trees) → HasEntered es w.entered s → HasEntered es v.entered s ⊎ CanPass w.visitor s) → AllPass es v → AllPass es w
  all-later es v w l more h s has = go (more s has)
    where
      go : HasEntered es v.entered s ⊎ CanPass w.visitor s → CanPass w.visitor s
      go (inl p) = can-pass-later v.visitor w.visitor s l (h s p)
      go (inr p) = p

  -- so is a visit of a value
  pub once-visits-each : (es : List Entry) (bs : List ℕ) (ps : List Piece) (v w : Once V) (r : Option B) → VisitsEach (SeesOnce sees es) bs ps v w r → AllPass es v → VisitsEach sees bs ps v.visitor w.visitor r
  once-visits-each es bs _ v _ _ ended_each h = ended_each
  once-visits-each es bs _ v w r (next_each {p = p} {ps = ps} {w = u} first rest) h =
      let here = once-visits es _ p.trees v u None first (all-open es v (size p.trees) h) in
      next_each here.visited (once-visits-each es bs ps u w r rest (all-later es v u (visits-lead _ p.trees v.visitor u.visitor None here.visited) (here.since refl) h))
  once-visits-each es bs _ v w _ (broken_each {p = p} {b = b} first) h =
      broken_each (once-visits es _ p.trees v w (Some b) first (all-open es v (size p.trees) h)).visited
