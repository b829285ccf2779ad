-- A part of a line: what is read is spelled so, and what is spelled so is read. And how that follows for what is put together.
use Rattle.std.proofs.Common.{◌≡◌, ℕ, zero, suc, ◌<◌, ◌≤◌, Bool, true, false, List, [], ◌∷◌, ◌++◌, length, Option, Some, None, refl, sym, ap, ◌∙◌, subst, append_assoc, append-nil, arith}
use Rattle.std.specs.Prelude.{map, if◌then◌else◌}
use Rattle.std.proofs.lemmas.Option.{same_Some}
use Rattle.std.proofs.lemmas.List.{length-append}
use Rattle.text_language.specs.Tokens.{Token}
use Rattle.text_language.specs.Syntax.{after_each}
use Rattle.text_lines.specs.Cells.{Cell}
use Rattle.text_lines.specs.Statement.{all_onto, all_spans}
use Rattle.text_lines.specs.Parts.{Progress, Part, Mark, ◌>>=◌, given, both, behind_mark, before_mark, kept, list_behind, optional, next_with, next_parts, parts_below, parts_between}

-- ---- a part, and trees of it: how they are spelled, their cells and their places
pub record Found {T Y : Type 0} (s : T → List Token) (o : T → List Cell → List Cell) (l : T → List Cell → Y) (p q : Progress) (y : Y) : Type 0 where
  pub tree : T
  pub tokens : p.1 ≡ s tree ++ q.1
  pub placed : y ≡ l tree p.0
  pub cells : q.0 ≡ o tree p.0

pub record IsPart {T Y : Type 0} (f : Part Y) (s : T → List Token) (o : T → List Cell → List Cell) (l : T → List Cell → Y) (B : List Token → Type 0) : Type 0 where
  pub takes : (p q : Progress) (y : Y) → f p ≡ Some (y, q) → Found s o l p q y
  pub again : (c : List Cell) (t : T) (r : List Token) → B r → f (c, s t ++ r) ≡ Some (l t c, (o t c, r))

-- a mark, and its token
pub record IsMark (m : Mark) (k : Token) : Type 0 where
  pub takes : (ts r : List Token) → m ts ≡ Some r → ts ≡ k ∷ r
  pub again : (r : List Token) → m (k ∷ r) ≡ Some r

abbrev pub Any : List Token → Type 0
Any r = Unit {0}

-- ---- steps
pub bind-some : {A B : Type 0} (r : Option A) (f : A → Option B) (y : B) → (r >>= f) ≡ Some y → (x : A) × (r ≡ Some x) × (f x ≡ Some y)
bind-some (Some x) f y e = (x, refl, e)
bind-some None f y e = absurd cc

pub if-some : {A : Type 0} (b : Bool) (x : Option A) (y : A) → (if b then x else None) ≡ Some y → (b ≡ true) × (x ≡ Some y)
if-some true x y e = (refl, e)
if-some false x y e = absurd cc

pub moved : {T Y : Type 0} {s : T → List Token} {o : T → List Cell → List Cell} {l : T → List Cell → Y} {p : Progress} (a b : Y × Progress) → Found s o l p a.1 a.0 → a ≡ b → Found s o l p b.1 b.0
moved {T} {Y} {s} {o} {l} {p} a b k e = subst (λ (x : Y × Progress). Found s o l p x.1 x.0) e k

-- ---- one and then another
abbrev pub spell_both : {T U : Type 0} → (T → List Token) → (U → List Token) → T × U → List Token
spell_both s r x = s x.0 ++ r x.1

abbrev pub onto_both : {T U : Type 0} → (T → List Cell → List Cell) → (U → List Cell → List Cell) → T × U → List Cell → List Cell
onto_both o i x c = i x.1 (o x.0 c)

abbrev pub place_both : {T U Y Z : Type 0} → (T → List Cell → List Cell) → (T → List Cell → Y) → (U → List Cell → Z) → T × U → List Cell → Y × Z
place_both o l k x c = (l x.0 c, k x.1 (o x.0 c))

both-found : {T U Y Z : Type 0} {s : T → List Token} {r : U → List Token} {o : T → List Cell → List Cell} {i : U → List Cell → List Cell} {l : T → List Cell → Y} {k : U → List Cell → Z} {p q u : Progress} {y : Y} {z : Z}
    → Found s o l p q y → Found r i k q u z → Found (spell_both s r) (onto_both o i) (place_both o l k) p u (y, z)
both-found {T} {U} {Y} {Z} {s} {r} {o} {i} {l} {k} {p} {q} {u} {y} {z} m n = record {
  tree = (m.tree, n.tree);
  tokens = m.tokens ∙ ap (λ x. s m.tree ++ x) n.tokens ∙ sym (append_assoc (s m.tree) (r n.tree) u.1);
  placed = ap (λ x. (x, z)) m.placed ∙ ap (λ x. (l m.tree p.0, x)) (n.placed ∙ ap (k n.tree) m.cells);
  cells = n.cells ∙ ap (i n.tree) m.cells;
}

pub both-part : {T U Y Z : Type 0} {f : Part Y} {g : Part Z} {s : T → List Token} {r : U → List Token} {o : T → List Cell → List Cell} {i : U → List Cell → List Cell} {l : T → List Cell → Y} {k : U → List Cell → Z} {B C : List Token → Type 0}
    → IsPart f s o l B → IsPart g r i k C → ((u : U) (ts : List Token) → C ts → B (r u ++ ts)) → IsPart (both f g) (spell_both s r) (onto_both o i) (place_both o l k) C
both-part {T} {U} {Y} {Z} {f} {g} {s} {r} {o} {i} {l} {k} {B} {C} w v fits = record {
  takes = λ p q z e.
      let a = bind-some (f p) (λ x. g x.1 >>= λ y. Some ((x.0, y.0), y.1)) (z, q) e in
      let b = bind-some (g a.0.1) (λ y. Some ((a.0.0, y.0), y.1)) (z, q) a.2 in
      let found = both-found (w.takes p a.0.1 a.0.0 a.1) (v.takes a.0.1 b.0.1 b.0.0 b.1) in
      moved ((a.0.0, b.0.0), b.0.1) (z, q) found (same_Some ((a.0.0, b.0.0), b.0.1) (z, q) b.2);
  again = λ c t ts h.
      ap (λ x. both f g (c, x)) (append_assoc (s t.0) (r t.1) ts)
      ∙ ap (λ x. x >>= λ y. g y.1 >>= λ z. Some ((y.0, z.0), z.1)) (w.again c t.0 (r t.1 ++ ts) (fits t.1 ts h))
      ∙ ap (λ x. x >>= λ z. Some ((l t.0 c, z.0), z.1)) (v.again (o t.0 c) t.1 ts h);
}

-- ---- made into something else
pub given-part : {T Y Z : Type 0} {f : Part Y} {s : T → List Token} {o : T → List Cell → List Cell} {l : T → List Cell → Y} {B : List Token → Type 0} (h : Y → Z) → IsPart f s o l B → IsPart (given h f) s o (λ t c. h (l t c)) B
given-part {T} {Y} {Z} {f} {s} {o} {l} {B} h w = record {
  takes = λ p q z e.
      let a = bind-some (f p) (λ x. Some (h x.0, x.1)) (z, q) e in
      let m = w.takes p a.0.1 a.0.0 a.1 in
      let found : Found s o (λ t c. h (l t c)) p a.0.1 (h a.0.0) = record { tree = m.tree; tokens = m.tokens; placed = ap h m.placed; cells = m.cells } in
      moved (h a.0.0, a.0.1) (z, q) found (same_Some (h a.0.0, a.0.1) (z, q) a.2);
  again = λ c t r b. ap (λ x. x >>= λ y. Some (h y.0, y.1)) (w.again c t r b);
}

-- ---- behind a mark, and before one
pub behind-part : {T Y : Type 0} {m : Mark} {k : Token} {f : Part Y} {s : T → List Token} {o : T → List Cell → List Cell} {l : T → List Cell → Y} {B : List Token → Type 0} → IsMark m k → IsPart f s o l B → IsPart (behind_mark m f) (λ t. k ∷ s t) o l B
behind-part {T} {Y} {m} {k} {f} {s} {o} {l} {B} mark w = record {
  takes = λ p q y e.
      let a = bind-some (m p.1) (λ ts. f (p.0, ts)) (y, q) e in
      let n = w.takes (p.0, a.0) q y a.2 in
      record { tree = n.tree; tokens = mark.takes p.1 a.0 a.1 ∙ ap (λ x. k ∷ x) n.tokens; placed = n.placed; cells = n.cells };
  again = λ c t r b. ap (λ x. x >>= λ ts. f (c, ts)) (mark.again (s t ++ r)) ∙ w.again c t r b;
}

before-found : {T Y : Type 0} {m : Mark} {k : Token} {s : T → List Token} {o : T → List Cell → List Cell} {l : T → List Cell → Y} {p q : Progress} {y : Y} {ts : List Token} → IsMark m k → Found s o l p q y → m q.1 ≡ Some ts → Found (λ t. s t ++ k ∷ []) o l p (q.0, ts) y
before-found {T} {Y} {m} {k} {s} {o} {l} {p} {q} {y} {ts} mark n e = record {
  tree = n.tree;
  tokens = n.tokens ∙ ap (λ x. s n.tree ++ x) (mark.takes q.1 ts e) ∙ sym (append_assoc (s n.tree) (k ∷ []) ts);
  placed = n.placed;
  cells = n.cells;
}

pub before-part : {T Y : Type 0} {m : Mark} {k : Token} {f : Part Y} {s : T → List Token} {o : T → List Cell → List Cell} {l : T → List Cell → Y} {B : List Token → Type 0} → IsMark m k → IsPart f s o l B → ((r : List Token) → B (k ∷ r)) → IsPart (before_mark f m) (λ t. s t ++ k ∷ []) o l Any
before-part {T} {Y} {m} {k} {f} {s} {o} {l} {B} mark w fits = record {
  takes = λ p q y e.
      let a = bind-some (f p) (λ x. m x.1.1 >>= λ ts. Some (x.0, (x.1.0, ts))) (y, q) e in
      let b = bind-some (m a.0.1.1) (λ ts. Some (a.0.0, (a.0.1.0, ts))) (y, q) a.2 in
      let found = before-found mark (w.takes p a.0.1 a.0.0 a.1) b.1 in
      moved (a.0.0, (a.0.1.0, b.0)) (y, q) found (same_Some (a.0.0, (a.0.1.0, b.0)) (y, q) b.2);
  again = λ c t r b.
      ap (λ x. before_mark f m (c, x)) (append_assoc (s t) (k ∷ []) r)
      ∙ ap (λ x. x >>= λ u. m u.1.1 >>= λ ts. Some (u.0, (u.1.0, ts))) (w.again c t (k ∷ r) (fits r))
      ∙ ap (λ x. x >>= λ ts. Some (l t c, (o t c, ts))) (mark.again r);
}

-- ---- those of which a test holds
kept-found : {T U Y : Type 0} {s : T → List Token} {o : T → List Cell → List Cell} {l : T → List Cell → Y} {p q : Progress} {y : Y} (good : U → T) → (n : Found s o l p q y) → (u : U) → n.tree ≡ good u → Found (λ v. s (good v)) (λ v. o (good v)) (λ v. l (good v)) p q y
kept-found {T} {U} {Y} {s} {o} {l} {p} {q} {y} good n u e = record {
  tree = u;
  tokens = n.tokens ∙ ap (λ t. s t ++ q.1) e;
  placed = n.placed ∙ ap (λ t. l t p.0) e;
  cells = n.cells ∙ ap (λ t. o t p.0) e;
}

pub kept-part : {T U Y : Type 0} {f : Part Y} {s : T → List Token} {o : T → List Cell → List Cell} {l : T → List Cell → Y} {B : List Token → Type 0} (test : Y → Bool) (good : U → T)
    → IsPart f s o l B → ((u : U) (c : List Cell) → test (l (good u) c) ≡ true) → ((t : T) (c : List Cell) → test (l t c) ≡ true → (u : U) × (t ≡ good u))
    → IsPart (kept test f) (λ u. s (good u)) (λ u. o (good u)) (λ u. l (good u)) B
kept-part {T} {U} {Y} {f} {s} {o} {l} {B} test good w holds only = record {
  takes = λ p q y e.
      let a = bind-some (f p) (λ x. if test x.0 then Some x else None) (y, q) e in
      let b = if-some (test a.0.0) (Some a.0) (y, q) a.2 in
      let n = w.takes p a.0.1 a.0.0 a.1 in
      let u = only n.tree p.0 (ap test (sym n.placed) ∙ b.0) in
      let found = kept-found good n u.0 u.1 in
      moved a.0 (y, q) found (same_Some a.0 (y, q) b.1);
  again = λ c u r b.
      ap (λ x. x >>= λ y. if test y.0 then Some y else None) (w.again c (good u) r b)
      ∙ ap (λ x. if x then Some (l (good u) c, (o (good u) c, r)) else None) (holds u c);
}

-- ---- other trees of the same
pub recast : {T U Y : Type 0} {f : Part Y} {s : T → List Token} {o : T → List Cell → List Cell} {l : T → List Cell → Y} {B : List Token → Type 0} {r : U → List Token} {i : U → List Cell → List Cell} {k : U → List Cell → Y} (to : T → U) (from : U → T)
    → IsPart f s o l B → ((t : T) → s t ≡ r (to t)) → ((t : T) (c : List Cell) → o t c ≡ i (to t) c) → ((t : T) (c : List Cell) → l t c ≡ k (to t) c) → ((u : U) → to (from u) ≡ u) → IsPart f r i k B
recast {T} {U} {Y} {f} {s} {o} {l} {B} {r} {i} {k} to from w spelled cells placed same = record {
  takes = λ p q y e.
      let n = w.takes p q y e in
      record { tree = to n.tree; tokens = n.tokens ∙ ap (λ x. x ++ q.1) (spelled n.tree); placed = n.placed ∙ placed n.tree p.0; cells = n.cells ∙ cells n.tree p.0 };
  again = λ c u ts b.
      let spells : r u ≡ s (from u) = sym (spelled (from u) ∙ ap r (same u)) in
      let puts : o (from u) c ≡ i u c = cells (from u) c ∙ ap (λ x. i x c) (same u) in
      let places : l (from u) c ≡ k u c = placed (from u) c ∙ ap (λ x. k x c) (same u) in
      ap (λ x. f (c, x ++ ts)) spells ∙ w.again c (from u) ts b ∙ ap (λ x. Some (x, (o (from u) c, ts))) places ∙ ap (λ x. Some (k u c, (x, ts))) puts;
}

-- ---- at least one, with a token between each two
abbrev pub spell_list : {T : Type 0} → (T → List Token) → Token → T × List T → List Token
spell_list s g x = s x.0 ++ after_each g (map s x.1)

abbrev pub onto_list : {T : Type 0} → (T → List Cell → List Cell) → T × List T → List Cell → List Cell
onto_list o x c = all_onto o (x.0 ∷ x.1) c

abbrev pub place_list : {T Y : Type 0} → (T → List Cell → List Cell) → (T → List Cell → Y) → T × List T → List Cell → List Y
place_list o l x c = all_spans o l (x.0 ∷ x.1) c

more-found : {T Y : Type 0} {s : T → List Token} {o : T → List Cell → List Cell} {l : T → List Cell → Y} {m : Mark} {g : Token} {p q r : Progress} {y : Y} {ys : List Y} {ts : List Token} → IsMark m g
    → Found s o l p q y → m q.1 ≡ Some ts → Found (spell_list s g) (onto_list o) (place_list o l) (q.0, ts) r ys → Found (spell_list s g) (onto_list o) (place_list o l) p r (y ∷ ys)
more-found {T} {Y} {s} {o} {l} {m} {g} {p} {q} {r} {y} {ys} {ts} mark u e n = record {
  tree = (u.tree, n.tree.0 ∷ n.tree.1);
  tokens = u.tokens ∙ ap (λ z. s u.tree ++ z) (mark.takes q.1 ts e ∙ ap (λ z. g ∷ z) n.tokens) ∙ sym (append_assoc (s u.tree) (after_each g (map s (n.tree.0 ∷ n.tree.1))) r.1);
  placed = ap (λ z. z ∷ ys) u.placed ∙ ap (λ z. l u.tree p.0 ∷ z) (n.placed ∙ ap (place_list o l n.tree) u.cells);
  cells = n.cells ∙ ap (onto_list o n.tree) u.cells;
}

last-found : {T Y : Type 0} {s : T → List Token} {o : T → List Cell → List Cell} {l : T → List Cell → Y} {p q : Progress} {y : Y} (g : Token) → Found s o l p q y → Found (spell_list s g) (onto_list o) (place_list o l) p q (y ∷ [])
last-found {T} {Y} {s} {o} {l} {p} {q} {y} g u = record {
  tree = (u.tree, []);
  tokens = u.tokens ∙ ap (λ z. z ++ q.1) (sym (append-nil (s u.tree)));
  placed = ap (λ z. z ∷ []) u.placed;
  cells = u.cells;
}

next-takes : {T Y : Type 0} {s : T → List Token} {o : T → List Cell → List Cell} {l : T → List Cell → Y} {m : Mark} {g : Token} → IsMark m g → (more : Part (List Y))
    → ((p q : Progress) (ys : List Y) → more p ≡ Some (ys, q) → Found (spell_list s g) (onto_list o) (place_list o l) p q ys) → (p : Progress) (x : Y × Progress) → Found s o l p x.1 x.0
    → (r : Option (List Token)) → m x.1.1 ≡ r → (q : Progress) (ys : List Y) → next_with r more x ≡ Some (ys, q) → Found (spell_list s g) (onto_list o) (place_list o l) p q ys
next-takes {T} {Y} {s} {o} {l} {m} {g} mark more w p x u (Some ts) e q ys d =
    let a = bind-some (more (x.1.0, ts)) (λ zs. Some (x.0 ∷ zs.0, zs.1)) (ys, q) d in
    let found = more-found mark u e (w (x.1.0, ts) a.0.1 a.0.0 a.1) in
    moved (x.0 ∷ a.0.0, a.0.1) (ys, q) found (same_Some (x.0 ∷ a.0.0, a.0.1) (ys, q) a.2)
next-takes {T} {Y} {s} {o} {l} {m} {g} mark more w p x u None e q ys d =
    let found = last-found g u in
    moved (x.0 ∷ [], x.1) (ys, q) found (same_Some (x.0 ∷ [], x.1) (ys, q) d)

below-takes : {T Y : Type 0} {f : Part Y} {s : T → List Token} {o : T → List Cell → List Cell} {l : T → List Cell → Y} {B : List Token → Type 0} {m : Mark} {g : Token} → IsPart f s o l B → IsMark m g
    → (n : ℕ) (p q : Progress) (ys : List Y) → parts_below n f m p ≡ Some (ys, q) → Found (spell_list s g) (onto_list o) (place_list o l) p q ys
below-takes w mark zero p q ys e = absurd cc
below-takes {T} {Y} {f} {s} {o} {l} {B} {m} {g} w mark (suc n) p q ys e =
    let a = bind-some (f p) (next_parts m (parts_below n f m)) (ys, q) e in
    next-takes mark (parts_below n f m) (below-takes w mark n) p a.0 (w.takes p a.0.1 a.0.0 a.1) (m a.0.1.1) refl q ys a.2

below-again : {T Y : Type 0} {f : Part Y} {s : T → List Token} {o : T → List Cell → List Cell} {l : T → List Cell → Y} {B D : List Token → Type 0} {m : Mark} {g : Token} → IsPart f s o l B → IsMark m g
    → ((r : List Token) → B (g ∷ r)) → ((r : List Token) → D r → B r) → ((r : List Token) → D r → m r ≡ None)
    → (n : ℕ) (c : List Cell) (t : T) (us : List T) (r : List Token) → D r → length us < n → parts_below n f m (c, spell_list s g (t, us) ++ r) ≡ Some (place_list o l (t, us) c, (onto_list o (t, us) c, r))
below-again w mark goes fits ends zero c t us r d h = let wrong : ⊥ = omega (arith, h) in absurd wrong
below-again {T} {Y} {f} {s} {o} {l} {B} {D} {m} {g} w mark goes fits ends (suc n) c t [] r d h =
    ap (λ z. parts_below (suc n) f m (c, z ++ r)) (append-nil (s t))
    ∙ ap (λ z. z >>= next_parts m (parts_below n f m)) (w.again c t r (fits r d))
    ∙ ap (λ z. next_with z (parts_below n f m) (l t c, (o t c, r))) (ends r d)
below-again {T} {Y} {f} {s} {o} {l} {B} {D} {m} {g} w mark goes fits ends (suc n) c t (u ∷ us) r d h =
    let rest = spell_list s g (u, us) ++ r in
    ap (λ z. parts_below (suc n) f m (c, z)) (append_assoc (s t) (after_each g (map s (u ∷ us))) r)
    ∙ ap (λ z. z >>= next_parts m (parts_below n f m)) (w.again c t (g ∷ rest) (goes rest))
    ∙ ap (λ z. next_with z (parts_below n f m) (l t c, (o t c, g ∷ rest))) (mark.again rest)
    ∙ ap (λ z. z >>= λ ys. Some (l t c ∷ ys.0, ys.1)) (below-again w mark goes fits ends n (o t c) u us r d (omega (arith, h)))

behind-length : {T : Type 0} (s : T → List Token) (g : Token) (us : List T) → length us ≤ length (after_each g (map s us))
behind-length s g [] = omega arith
behind-length s g (u ∷ us) = let h = behind-length s g us in let e = length-append (s u) (after_each g (map s us)) in omega (arith, h, e)

enough : {T : Type 0} (s : T → List Token) (g : Token) (t : T) (us : List T) (r : List Token) → length us < suc (length (spell_list s g (t, us) ++ r))
enough s g t us r =
    let h = behind-length s g us in
    let a = length-append (s t) (after_each g (map s us)) in
    let b = length-append (spell_list s g (t, us)) r in
    omega (arith, h, a, b)

pub list-part : {T Y : Type 0} {f : Part Y} {s : T → List Token} {o : T → List Cell → List Cell} {l : T → List Cell → Y} {B D : List Token → Type 0} {m : Mark} {g : Token} → IsPart f s o l B → IsMark m g
    → ((r : List Token) → B (g ∷ r)) → ((r : List Token) → D r → B r) → ((r : List Token) → D r → m r ≡ None)
    → IsPart (parts_between f m) (spell_list s g) (onto_list o) (place_list o l) D
unfolding parts_between
list-part {T} {Y} {f} {s} {o} {l} {B} {D} {m} {g} w mark goes fits ends = record {
  takes = λ p q ys e. below-takes w mark (suc (length p.1)) p q ys e;
  again = λ c t r d. below-again w mark goes fits ends (suc (length (spell_list s g t ++ r))) c t.0 t.1 r d (enough s g t.0 t.1 r);
}

-- ---- a list behind a mark, or nothing
abbrev pub spell_optional : {T : Type 0} → Token → (T × List T → List Token) → List T → List Token
spell_optional k s [] = []
spell_optional k s (t ∷ ts) = k ∷ s (t, ts)

optional-takes : {T Y : Type 0} {f : Part (List Y)} {s : T × List T → List Token} {o : T → List Cell → List Cell} {l : T → List Cell → Y} {D : List Token → Type 0} {m : Mark} {k : Token} → IsMark m k → IsPart f s (onto_list o) (place_list o l) D
    → (p q : Progress) (ys : List Y) (r : Option (List Token)) → m p.1 ≡ r → list_behind r f p ≡ Some (ys, q) → Found (spell_optional k s) (all_onto o) (all_spans o l) p q ys
optional-takes {T} {Y} {f} {s} {o} {l} {D} {m} {k} mark w p q ys (Some ts) e d =
    let n = w.takes (p.0, ts) q ys d in
    record { tree = n.tree.0 ∷ n.tree.1; tokens = mark.takes p.1 ts e ∙ ap (λ x. k ∷ x) n.tokens; placed = n.placed; cells = n.cells }
optional-takes {T} {Y} {f} {s} {o} {l} {D} {m} {k} mark w p q ys None e d =
    let found : Found (spell_optional k s) (all_onto o) (all_spans o l) p p [] = record { tree = []; tokens = refl; placed = refl; cells = refl } in
    moved ([], p) (ys, q) found (same_Some ([], p) (ys, q) d)

optional-again : {T Y : Type 0} {f : Part (List Y)} {s : T × List T → List Token} {o : T → List Cell → List Cell} {l : T → List Cell → Y} {D E : List Token → Type 0} {m : Mark} {k : Token} → IsMark m k → IsPart f s (onto_list o) (place_list o l) D
    → ((r : List Token) → E r → D r) → ((r : List Token) → E r → m r ≡ None) → (c : List Cell) (ts : List T) (r : List Token) → E r → optional m f (c, spell_optional k s ts ++ r) ≡ Some (all_spans o l ts c, (all_onto o ts c, r))
optional-again {T} {Y} {f} {s} {o} {l} {D} {E} {m} {k} mark w fits none c [] r b = ap (λ z. list_behind z f (c, r)) (none r b)
optional-again {T} {Y} {f} {s} {o} {l} {D} {E} {m} {k} mark w fits none c (t ∷ ts) r b =
    ap (λ z. list_behind z f (c, k ∷ (s (t, ts) ++ r))) (mark.again (s (t, ts) ++ r)) ∙ w.again c (t, ts) r (fits r b)

pub optional-part : {T Y : Type 0} {f : Part (List Y)} {s : T × List T → List Token} {o : T → List Cell → List Cell} {l : T → List Cell → Y} {D E : List Token → Type 0} {m : Mark} {k : Token} → IsMark m k → IsPart f s (onto_list o) (place_list o l) D
    → ((r : List Token) → E r → D r) → ((r : List Token) → E r → m r ≡ None) → IsPart (optional m f) (spell_optional k s) (all_onto o) (all_spans o l) E
optional-part {T} {Y} {f} {s} {o} {l} {D} {E} {m} {k} mark w fits none = record {
  takes = λ p q ys e. optional-takes mark w p q ys (m p.1) refl e;
  again = λ c ts r b. optional-again mark w fits none c ts r b;
}
