-- Small facts on truth values.
use Rattle.std.proofs.Common.{Bool, ◌≡◌, ◌||◌, false, true, refl, ◌&&◌, if◌then◌else◌, ap, sym, ◌∙◌}
use Rattle.std.specs.Prelude.{not}

pub join-tests : (p q r p' q' r' : Bool) → p ≡ p' → q ≡ q' → r ≡ r' → (p || q || r) ≡ (p' || q' || r')
join-tests p q r p' q' r' x y z = cc

pub not_false : (b : Bool) → not b ≡ false → b ≡ true
not_false true h = refl
not_false false h = cc

pub or-cong : (a b c a' b' c' : Bool) → a ≡ a' → b ≡ b' → c ≡ c' → a || b || c ≡ a' || b' || c'
or-cong a b c a' b' c' p q r = cc

pub behind-test : (a p q r : Bool) → p ≡ false → false ≡ q → a ≡ r → a ≡ (p || q || r)
behind-test a p q r h k e = rw (h, ← k) e

pub below-test : (p q r : Bool) → p ≡ false → true ≡ q → true ≡ (p || q || r)
below-test p q r h k = rw (h, ← k) refl

pub here-test : (p q r : Bool) → p ≡ true → true ≡ (p || q || r)
here-test p q r h = rw h refl

pub and-both : (a b : Bool) → (a && b) ≡ true → (a ≡ true) × (b ≡ true)
and-both true b h = (refl, h)
and-both false b h = absurd cc

pub and-false : (b : Bool) → false ≡ (b && false)
and-false true = refl
and-false false = refl

pub and-true : (b : Bool) → (b && true) ≡ b
and-true true = refl
and-true false = refl

pub both : (x y : Bool) → x ≡ true → y ≡ true → x && y ≡ true
both x y p q = rw (p, q) refl

pub or-false : (b : Bool) → (b || false) ≡ b
or-false true = refl
or-false false = refl

pub true-false : true ≡ false → ⊥
true-false e = cc

pub or-both : (a b : Bool) → a ≡ false → b ≡ false → (a || b) ≡ false
or-both false b p q = q
or-both true b p q = p

pub or-left : (a b : Bool) → (a || b) ≡ false → a ≡ false
or-left true b e = e
or-left false b e = refl

pub or-right : (a b : Bool) → b ≡ true → (a || b) ≡ true
or-right true b e = refl
or-right false b e = e

pub if-false : {A : Type 0} (x : Bool) (a b : A) → x ≡ false → (if x then a else b) ≡ b
if-false true a b e = cc
if-false false a b e = refl

pub if-true : {A : Type 0} (x : Bool) (a b : A) → x ≡ true → (if x then a else b) ≡ a
if-true true a b e = refl
if-true false a b e = cc

pub later-true : (a b : Bool) → b ≡ true → a || b ≡ true
later-true true b e = refl
later-true false b e = e

pub no-both : (b : Bool) → b ≡ true → b ≡ false → ⊥
no-both b e f = cc

pub same-three : {a b d x y z : Bool} → a ≡ x → b ≡ y → d ≡ z → (a || b || d) ≡ (x || y || z)
same-three e f g = cc

pub true-apart : (b : Bool) → b ≡ true → b ≡ false → ⊥
true-apart b p q = cc

pub equal : {X : Type 0} (eq : X → X → Bool) (a b : X) → ((x : X) → eq x x ≡ true) → a ≡ b → eq a b ≡ true
equal eq a b own same = ap (eq a) (sym same) ∙ own a

pub both-left : (a b : Bool) → (a && b) ≡ true → a ≡ true
both-left true b e = refl
both-left false b e = e

pub or-assoc : (a b c : Bool) → (a || b) || c ≡ a || (b || c)
or-assoc true b c = refl
or-assoc false b c = refl

pub or-nothing : (a : Bool) → a || false ≡ a
or-nothing true = refl
or-nothing false = refl

pub either-last : (a b c : Bool) → c ≡ true → (a || b || c) ≡ true
either-last true b c h = refl
either-last false true c h = refl
either-last false false c h = h

pub de-morgan : (a b : Bool) → (not a && not b) ≡ not (a || b)
de-morgan true b = refl
de-morgan false b = refl

pub turned : (a b : Bool) → (a || (b || false)) ≡ b || a
turned true true = refl
turned true false = refl
turned false true = refl
turned false false = refl

pub twice : (b : Bool) → not (not b) ≡ b
twice true = refl
twice false = refl

pub both-true : (a b : Bool) → a ≡ true → b ≡ true → (a && b) ≡ true
both-true a b e f = ap (λ x. x && b) e ∙ f

pub none-of : (a b c : Bool) → a ≡ false → b ≡ false → c ≡ false → (a || b || c) ≡ false
none-of a b c e f g = rw (e, f, g) refl

pub left-false : (a b : Bool) → a || b ≡ false → a ≡ false
left-false true b e = absurd cc
left-false false b e = refl

pub no-and : (b : Bool) → b && false ≡ false
no-and true = refl
no-and false = refl

pub not-either : (a b : Bool) → not (a || b) ≡ not a && not b
not-either true b = refl
not-either false b = refl

pub no-more : (b : Bool) → b || false ≡ b
no-more true = refl
no-more false = refl

pub or-swap : (a b c d : Bool) → (a || b) || (c || d) ≡ (a || c) || (b || d)
or-swap true b c d = refl
or-swap false true true d = refl
or-swap false true false d = refl
or-swap false false c d = refl

pub right-false : (a b : Bool) → a || b ≡ false → b ≡ false
right-false true b e = absurd cc
right-false false b e = e

pub and-end : (b : Bool) → b ≡ true → b && true ≡ true
and-end true h = refl
and-end false h = absurd cc

pub implied : (a b : Bool) → a && not b ≡ false → a ≡ true → b ≡ true
implied true true h e = refl
implied true false h e = absurd cc
implied false b h e = absurd cc

pub not-true : (b : Bool) → b ≡ true → not b ≡ false
not-true true h = refl
not-true false h = absurd cc

pub not-false : (b : Bool) → not b ≡ true → b ≡ false
not-false false h = refl
not-false true h = absurd cc

pub either-deep : (a b c : Bool) → b || (a || c) ≡ (a || b) || c
either-deep true true c = refl
either-deep true false c = refl
either-deep false b c = refl
