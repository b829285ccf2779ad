-- Lists of tokens that are made of pieces.
use Rattle.std.proofs.Common.{◌≡◌, ℕ, ◌≤◌, ◌-◌, true, false, List, [], ◌∷◌, ◌++◌, length, take, drop, get_or, arith, sub-one, Result, Ok, Err, refl, sym, ap, ◌∙◌, subst, append_assoc, append-nil}
use Rattle.std.specs.Prelude.{map}
use Rattle.std.specs.List.{flat_map}
use Rattle.std.proofs.Math.Seq.{take-length}
use Rattle.std.proofs.lemmas.List.{drop-map}
use Rattle.std.proofs.lemmas.List.Concat.{flat_map-append}
use Rattle.text_language.specs.Words.{Sign, open_angle, close_angle, comma, colon, plus, Keyword, where_word, trait_word, for_word, impl_word, in_word}
use Rattle.text_language.specs.Tokens.{Token, keyword, name, sign}
use Rattle.text_language.specs.Syntax.{after_each, behind, in_angles, bounds_spelling, where_spelling}
use Rattle.text_language.specs.Promised.Desugared.{companion_name, wrapper_name}
use Rattle.text_lines.specs.WrittenParts.{BindingTokens, Entry, argument, binding, BoundTokens, ClauseTokens, is_all_arguments}
use Rattle.text_lines.specs.LineLists.{arguments_in, bindings_in, plain_list, value_list, companion_list, bound_lists, clause_lists, if_bound, asked_bounds, asked_lists, asking_list}
use Rattle.text_lines.specs.declared.line_lists.Piece.{Piece}
use Rattle.text_lines.specs.Pieces.{piece_tokens, pieces_tokens, Writes, led, sign_behind, each_behind}

pub written : (xs ys : List Piece) → pieces_tokens (xs ++ ys) ≡ pieces_tokens xs ++ pieces_tokens ys
written xs ys = flat_map-append piece_tokens xs ys

pub led-each : (k : Token) (ps : List (List Token)) → led (k ∷ []) (k ∷ []) ps ≡ after_each k ps
led-each k [] = refl
led-each k (p ∷ ps) = ap (λ z. k ∷ (p ++ z)) (led-each k ps)

-- ---- arguments
abbrev pub opened : List (List Token) → List Token
opened ps = led (sign open_angle ∷ []) (sign comma ∷ []) ps

-- what ends the arguments, if there are some
abbrev pub ended : Sign → List Token
ended comma = sign close_angle ∷ []
ended _ = []

pub angles-led : (ps : List (List Token)) → opened ps ++ ended (sign_behind open_angle ps) ≡ in_angles ps
angles-led [] = refl
angles-led (p ∷ ps) =
    ap (λ z. sign open_angle ∷ z) (append_assoc p (led (sign comma ∷ []) (sign comma ∷ []) ps) (sign close_angle ∷ []) ∙ ap (λ z. p ++ (z ++ sign close_angle ∷ [])) (led-each (sign comma) ps))

each-more : (k : Token) (ps : List (List Token)) (v e : List Token) → after_each k (ps ++ v ∷ []) ++ e ≡ after_each k ps ++ k ∷ (v ++ e)
each-more k [] v e = ap (λ z. k ∷ z) (append_assoc v [] e)
each-more k (p ∷ ps) v e =
    ap (λ z. k ∷ z) (append_assoc p (after_each k (ps ++ v ∷ [])) e ∙ ap (λ z. p ++ z) (each-more k ps v e) ∙ sym (append_assoc p (after_each k ps) (k ∷ (v ++ e))))

-- a further argument
pub angles-more : (ps : List (List Token)) (v : List Token) → opened ps ++ sign (sign_behind open_angle ps) ∷ (v ++ sign close_angle ∷ []) ≡ in_angles (ps ++ v ∷ [])
angles-more [] v = refl
angles-more (p ∷ ps) v =
    ap (λ z. sign open_angle ∷ z) (append_assoc p (led (sign comma ∷ []) (sign comma ∷ []) ps) (sign comma ∷ (v ++ sign close_angle ∷ []))
    ∙ ap (λ z. p ++ (z ++ sign comma ∷ (v ++ sign close_angle ∷ []))) (led-each (sign comma) ps)
    ∙ ap (λ z. p ++ z) (sym (each-more (sign comma) ps v (sign close_angle ∷ []))))

-- ---- steps one after another
twice : (o x y a b : List Token) → x ≡ o ++ a → y ≡ x ++ b → y ≡ o ++ (a ++ b)
twice o x y a b e f = f ∙ ap (λ z. z ++ b) e ∙ append_assoc o a b

thrice : (o x y z a b c : List Token) → x ≡ o ++ a → y ≡ x ++ b → z ≡ y ++ c → z ≡ o ++ (a ++ (b ++ c))
thrice o x y z a b c e f g = twice o x z a (b ++ c) e (twice x y z b c f g)

pub then-writes : {E : Type 0} (r : Result (Unit {0}) E) (o x z : List Piece) (a b : List Token) → pieces_tokens x ≡ pieces_tokens o ++ a → Writes r b x z → Writes r (a ++ b) o z
then-writes (Ok u) o x z a b e f = twice (pieces_tokens o) (pieces_tokens x) (pieces_tokens z) a b e f
then-writes (Err y) o x z a b e f = tt

writes-as : {E : Type 0} (r : Result (Unit {0}) E) (o z : List Piece) (a b : List Token) → a ≡ b → Writes r a o z → Writes r b o z
writes-as r o z a b e w = subst (λ (ts : List Token). Writes r ts o z) e w

-- ---- parts behind marks
pub mark_behind : List Token → List Token → List (List Token) → List Token
mark_behind a b [] = a
mark_behind a b (p ∷ ps) = b

same-mark : (b : List Token) (ps : List (List Token)) → mark_behind b b ps ≡ b
unfolding mark_behind
same-mark b [] = refl
same-mark b (p ∷ ps) = refl

pub led-append : (a b : List Token) (ps qs : List (List Token)) → led a b (ps ++ qs) ≡ led a b ps ++ led (mark_behind a b ps) b qs
unfolding mark_behind
led-append a b [] qs = refl
led-append a b (p ∷ ps) qs =
    ap (λ z. a ++ (p ++ z)) (led-append b b ps qs ∙ ap (λ m. led b b ps ++ led m b qs) (same-mark b ps))
    ∙ ap (λ z. a ++ z) (sym (append_assoc p (led b b ps) (led b b qs))) ∙ sym (append_assoc a (p ++ led b b ps) (led b b qs))

pub bounds-led : (ps : List (List Token)) → led (sign colon ∷ []) (sign plus ∷ []) ps ≡ bounds_spelling ps
bounds-led [] = refl
bounds-led (p ∷ ps) = ap (λ z. sign colon ∷ (p ++ z)) (led-each (sign plus) ps)

pub where-led : (ps : List (List Token)) → led (keyword where_word ∷ []) (sign comma ∷ []) ps ≡ where_spelling ps
where-led [] = refl
where-led (p ∷ ps) = ap (λ z. keyword where_word ∷ (p ++ z)) (led-each (sign comma) ps)

-- ---- the steps of the loops
-- an argument was written
pub argument-step : (o w : List Token) (m : Sign) (t : List Token) (rest : List (List Token)) → w ≡ o ++ (sign m ∷ (t ++ []))
    → w ++ led (sign comma ∷ []) (sign comma ∷ []) rest ≡ o ++ led (sign m ∷ []) (sign comma ∷ []) (t ∷ rest)
argument-step o w m t rest e =
    ap (λ z. z ++ led (sign comma ∷ []) (sign comma ∷ []) rest) (e ∙ ap (λ z. o ++ sign m ∷ z) (append-nil t)) ∙ append_assoc o (sign m ∷ t) (led (sign comma ∷ []) (sign comma ∷ []) rest)

-- a part was written: its mark, its subject and what is said of it
pub part-step : (o w m n s c : List Token) (rest : List (List Token)) → w ≡ o ++ (m ++ (s ++ c)) → w ++ led n n rest ≡ o ++ led m n ((s ++ c) ∷ rest)
part-step o w m n s c rest e =
    ap (λ z. z ++ led n n rest) e ∙ append_assoc o (m ++ (s ++ c)) (led n n rest) ∙ ap (λ z. o ++ z) (append_assoc m (s ++ c) (led n n rest))

-- ---- bounds
pub plain-written : {E : Type 0} (r : Result (Unit {0}) E) (b : BoundTokens) (o x y z : List Piece) → pieces_tokens x ≡ pieces_tokens o ++ name b.trait ∷ [] → pieces_tokens y ≡ pieces_tokens x ++ opened (arguments_in b.entries)
    → sign_behind open_angle (arguments_in b.entries) ≡ comma → Writes r (sign close_angle ∷ []) y z → Writes r (plain_list b) o z
plain-written r b o x y z e f m w =
    let all = then-writes r o x z (name b.trait ∷ []) (opened (arguments_in b.entries) ++ sign close_angle ∷ []) e (then-writes r x y z (opened (arguments_in b.entries)) (sign close_angle ∷ []) f w) in
    writes-as r o z (name b.trait ∷ (opened (arguments_in b.entries) ++ sign close_angle ∷ [])) (plain_list b)
    (ap (λ t. name b.trait ∷ t) (ap (λ k. opened (arguments_in b.entries) ++ ended k) (sym m) ∙ angles-led (arguments_in b.entries))) all

-- the value, and the end of the arguments
abbrev pub value_end : Sign → List Token → List Token
value_end m v = sign m ∷ name wrapper_name ∷ sign open_angle ∷ (v ++ sign close_angle ∷ sign close_angle ∷ [])

pub companion-written : {E : Type 0} (r : Result (Unit {0}) E) (b : BoundTokens) (v : BindingTokens) (o x y z : List Piece) (m : Sign) → pieces_tokens x ≡ pieces_tokens o ++ name (companion_name b.trait v.name) ∷ []
    → pieces_tokens y ≡ pieces_tokens x ++ opened (arguments_in b.entries) → m ≡ sign_behind open_angle (arguments_in b.entries) → Writes r (value_end m v.value) y z → Writes r (companion_list b v) o z
companion-written r b v o x y z m e f k w =
    let ps = arguments_in b.entries in
    let c = companion_name b.trait v.name in
    let all = then-writes r o x z (name c ∷ []) (opened ps ++ value_end m v.value) e (then-writes r x y z (opened ps) (value_end m v.value) f w) in
    let same : opened ps ++ value_end m v.value ≡ in_angles (ps ++ value_list v.value ∷ []) =
    ap (λ s. opened ps ++ value_end s v.value) k
    ∙ ap (λ t. opened ps ++ sign (sign_behind open_angle ps) ∷ name wrapper_name ∷ sign open_angle ∷ t) (sym (append_assoc v.value (sign close_angle ∷ []) (sign close_angle ∷ [])))
    ∙ angles-more ps (value_list v.value) in
    writes-as r o z (name c ∷ (opened ps ++ value_end m v.value)) (companion_list b v) (ap (λ t. name c ∷ t) same) all

-- one of the bounds by companions was written
pub companion-step : (o x y z m n s c : List Token) (rest : List (List Token)) → x ≡ o ++ m → y ≡ x ++ s → z ≡ y ++ c → z ++ led n n rest ≡ o ++ led m n ((s ++ c) ∷ rest)
companion-step o x y z m n s c rest e f g = part-step o z m n s c rest (thrice o x y z m s c e f g)

-- a bound and those by its companions
pub bounds-written : {E : Type 0} (r : Result (Unit {0}) E) (o x y z u : List Piece) (m n s c : List Token) (rest : List (List Token)) → pieces_tokens x ≡ pieces_tokens o ++ m → pieces_tokens y ≡ pieces_tokens x ++ s
    → pieces_tokens z ≡ pieces_tokens y ++ c → Writes r (led n n rest) z u → Writes r (led m n ((s ++ c) ∷ rest)) o u
bounds-written r o x y z u m n s c rest e f g w =
    let all = then-writes r o z u (m ++ (s ++ c)) (led n n rest) (thrice (pieces_tokens o) (pieces_tokens x) (pieces_tokens y) (pieces_tokens z) m s c e f g) w in
    writes-as r o u ((m ++ (s ++ c)) ++ led n n rest) (led m n ((s ++ c) ∷ rest)) (append_assoc m (s ++ c) (led n n rest)) all

-- a bound alone
pub bound-written : {E : Type 0} (r : Result (Unit {0}) E) (o x y z : List Piece) (m n s c : List Token) → pieces_tokens x ≡ pieces_tokens o ++ m → pieces_tokens y ≡ pieces_tokens x ++ s → Writes r c y z → Writes r (led m n ((s ++ c) ∷ [])) o z
bound-written r o x y z m n s c e f w =
    let all = then-writes r o x z m (s ++ c) e (then-writes r x y z s c f w) in
    writes-as r o z (m ++ (s ++ c)) (led m n ((s ++ c) ∷ [])) (ap (λ t. m ++ t) (sym (append-nil (s ++ c)))) all

-- ---- lists of bounds
-- the bounds of one part were written
pub bounds-step : (o w m n : List Token) (p : List Token) (ps rest : List (List Token)) → w ≡ o ++ led m n (p ∷ ps) → w ++ led n n rest ≡ o ++ led m n ((p ∷ ps) ++ rest)
unfolding mark_behind
bounds-step o w m n p ps rest e = ap (λ t. t ++ led n n rest) e ∙ append_assoc o (led m n (p ∷ ps)) (led n n rest) ∙ ap (λ t. o ++ t) (sym (led-append m n (p ∷ ps) rest))

pub behind-none : (ps : List (List Token)) → each_behind [] ps ≡ ps
behind-none [] = refl
behind-none (p ∷ ps) = ap (λ t. p ∷ t) (behind-none ps)

pub behind-subject : (s : List Token) (ps : List (List Token)) → each_behind (s ++ sign colon ∷ []) ps ≡ map (λ b. s ++ sign colon ∷ b) ps
behind-subject s [] = refl
behind-subject s (p ∷ ps) = ap (λ t. t ∷ each_behind (s ++ sign colon ∷ []) ps) (append_assoc s (sign colon ∷ []) p) ∙ ap (λ t. (s ++ sign colon ∷ p) ∷ t) (behind-subject s ps)

pub params-written : {E : Type 0} (r : Result (Unit {0}) E) (ps : List (List Token)) (o y z : List Piece) → pieces_tokens y ≡ pieces_tokens o ++ opened ps → sign_behind open_angle ps ≡ comma → Writes r (sign close_angle ∷ []) y z
    → Writes r (in_angles ps) o z
params-written r ps o y z f m w =
    writes-as r o z (opened ps ++ sign close_angle ∷ []) (in_angles ps) (ap (λ k. opened ps ++ ended k) (sym m) ∙ angles-led ps) (then-writes r o y z (opened ps) (sign close_angle ∷ []) f w)

-- ---- what a query asks
bindings-none : (es : List Entry) → is_all_arguments es ≡ true → bindings_in es ≡ []
bindings-none [] e = refl
bindings-none (argument ts ∷ es) e = bindings-none es e
bindings-none (binding v ∷ es) e = absurd cc

bindings-some : (es : List Entry) → is_all_arguments es ≡ false → (v : BindingTokens) × (vs : List BindingTokens) × (bindings_in es ≡ v ∷ vs)
bindings-some [] e = absurd cc
bindings-some (argument ts ∷ es) e = bindings-some es e
bindings-some (binding v ∷ es) e = (v, bindings_in es, refl)

pub asked-plain : (b : BoundTokens) → is_all_arguments b.entries ≡ true → asked_bounds b ≡ plain_list b ∷ []
asked-plain b e = ap (λ vs. if_bound vs (plain_list b ∷ map (companion_list b) vs)) (bindings-none b.entries e)

pub asked-companions : (b : BoundTokens) → is_all_arguments b.entries ≡ false → asked_bounds b ≡ map (companion_list b) (bindings_in b.entries)
asked-companions b e =
    let n = bindings-some b.entries e in
    ap (λ vs. if_bound vs (plain_list b ∷ map (companion_list b) vs)) n.2 ∙ ap (map (companion_list b)) (sym n.2)

pub asked-written : {E : Type 0} (r : Result (Unit {0}) E) (o z : List Piece) (m n s : List Token) (ps qs : List (List Token)) → qs ≡ ps → Writes r (led m n (each_behind s ps)) o z → Writes r (led m n (each_behind s qs)) o z
asked-written r o z m n s ps qs e w = writes-as r o z (led m n (each_behind s ps)) (led m n (each_behind s qs)) (ap (λ t. led m n (each_behind s t)) (sym e)) w

-- ---- the subject of a clause
pub clause-written : {E : Type 0} (r : Result (Unit {0}) E) (o z : List Piece) (m n s : List Token) (ps : List (List Token)) → Writes r (led m n (each_behind (s ++ sign colon ∷ []) ps)) o z → Writes r (led m n (map (λ b. s ++ sign colon ∷ b) ps)) o z
clause-written r o z m n s ps w = writes-as r o z (led m n (each_behind (s ++ sign colon ∷ []) ps)) (led m n (map (λ b. s ++ sign colon ∷ b) ps)) (ap (led m n) (behind-subject s ps)) w

each-if : (f : List Token → List Token) (vs : List BindingTokens) (ps : List (List Token)) → map f (if_bound vs ps) ≡ if_bound vs (map f ps)
each-if f [] ps = refl
each-if f (v ∷ vs) ps = sym (drop-map f 1 ps)

pub query-written : {E : Type 0} (r : Result (Unit {0}) E) (o z : List Piece) (m n : List Token) (k : ClauseTokens) → Writes r (led m n (each_behind (k.subject ++ sign colon ∷ []) (asked_bounds k.bound))) o z → Writes r (led m n (asked_lists k)) o z
query-written r o z m n k w =
    writes-as r o z (led m n (map (λ b. k.subject ++ sign colon ∷ b) (asked_bounds k.bound))) (led m n (asked_lists k))
    (ap (led m n) (each-if (λ b. k.subject ++ sign colon ∷ b) (bindings_in k.bound.entries) (bound_lists k.bound))) (clause-written r o z m n k.subject (asked_bounds k.bound) w)

-- ---- the loops
-- there is a part
abbrev Filled : List (List Token) → Type 0
Filled ps = (p : List Token) × (qs : List (List Token)) × (ps ≡ p ∷ qs)

pub bounds-filled : (b : BoundTokens) → Filled (bound_lists b)
bounds-filled b = (_, _, refl)

pub clause-filled : (k : ClauseTokens) → Filled (clause_lists k)
clause-filled k = (_, _, refl)

if-filled : (vs : List BindingTokens) (p : List Token) (f : BindingTokens → List Token) (g : List Token → List Token) → Filled (if_bound vs (p ∷ map g (map f vs)))
if-filled [] p f g = (p, [], refl)
if-filled (v ∷ vs) p f g = (g (f v), map g (map f vs), refl)

pub asked-filled : (k : ClauseTokens) → Filled (asked_lists k)
asked-filled k = if-filled (bindings_in k.bound.entries) (k.subject ++ sign colon ∷ plain_list k.bound) (companion_list k.bound) (λ b. k.subject ++ sign colon ∷ b)

pub item-split : {A : Type 0} (xs : List A) (x : A) → 1 ≤ length xs → x ≡ get_or xs 0 x → xs ≡ x ∷ take (length xs - 1) (drop 1 xs)
item-split [] x n e = absurd (omega arith)
item-split (y ∷ ys) x n e =
    let rest : take (length (y ∷ ys) - 1) (drop 1 (y ∷ ys)) ≡ ys = rw sub-one (take-length ys) in
    ap (λ z. z ∷ ys) (sym e) ∙ ap (λ z. x ∷ z) (sym rest)

-- the parts of one item were written
pub list-step : {A B : Type 0} (f : B → List (List Token)) (v : A → B) → ((b : B) → Filled (f b)) → (o w m n t : List Token) (xs others : List A) (x : A) → xs ≡ x ∷ others
    → w ≡ o ++ led m n (f (v x)) → o ++ led m n (flat_map f (map v xs)) ≡ t → w ++ led n n (flat_map f (map v others)) ≡ t
list-step f v filled o w m n t xs others x split e inv =
    let g = filled (v x) in
    bounds-step o w m n g.0 g.1 (flat_map f (map v others)) (e ∙ ap (λ z. o ++ led m n z) g.2) ∙ ap (λ z. o ++ led m n (z ++ flat_map f (map v others))) (sym g.2)
    ∙ ap (λ z. o ++ led m n (flat_map f (map v z))) (sym split) ∙ inv

-- ---- lines
pub trait-written : {E : Type 0} (r : Result (Unit {0}) E) (o x y u z : List Piece) (a b n ps : List Token) → pieces_tokens x ≡ pieces_tokens o ++ a → pieces_tokens y ≡ pieces_tokens x ++ b
    → pieces_tokens u ≡ pieces_tokens y ++ keyword trait_word ∷ (n ++ []) → Writes r ps u z → Writes r (a ++ (b ++ keyword trait_word ∷ (n ++ ps))) o z
trait-written r o x y u z a b n ps e f g w =
    let named = g ∙ ap (λ t. pieces_tokens y ++ keyword trait_word ∷ t) (append-nil n) in
    then-writes r o x z a (b ++ keyword trait_word ∷ (n ++ ps)) e (then-writes r x y z b (keyword trait_word ∷ (n ++ ps)) f (then-writes r y u z (keyword trait_word ∷ n) ps named w))

-- nothing is there at first
pub first-written : (o x : List Piece) (a : List Token) → o ≡ [] → pieces_tokens x ≡ pieces_tokens o ++ a → pieces_tokens x ≡ a
first-written o x a n e = e ∙ ap (λ z. pieces_tokens z ++ a) n

trait-end : (a b n ps end : List Token) → (a ++ (b ++ keyword trait_word ∷ (n ++ ps))) ++ end ≡ a ++ (b ++ keyword trait_word ∷ (n ++ (ps ++ end)))
trait-end a b n ps end =
    append_assoc a (b ++ keyword trait_word ∷ (n ++ ps)) end ∙ ap (λ t. a ++ t) (append_assoc b (keyword trait_word ∷ (n ++ ps)) end ∙ ap (λ t. b ++ keyword trait_word ∷ t) (append_assoc n ps end))

pub trait-line-is : (o x y : List Piece) (a b n ps : List Token) (bs : List (List Token)) → o ≡ [] → pieces_tokens x ≡ pieces_tokens o ++ (a ++ (b ++ keyword trait_word ∷ (n ++ ps)))
    → pieces_tokens y ≡ pieces_tokens x ++ led (sign colon ∷ []) (sign plus ∷ []) bs → pieces_tokens y ≡ a ++ (b ++ keyword trait_word ∷ (n ++ (ps ++ bounds_spelling bs)))
trait-line-is o x y a b n ps bs none e f =
    f ∙ ap (λ t. t ++ led (sign colon ∷ []) (sign plus ∷ []) bs) (first-written o x (a ++ (b ++ keyword trait_word ∷ (n ++ ps))) none e)
    ∙ trait-end a b n ps (led (sign colon ∷ []) (sign plus ∷ []) bs) ∙ ap (λ t. a ++ (b ++ keyword trait_word ∷ (n ++ (ps ++ t)))) (bounds-led bs)

pub companion-line-is : (o x : List Piece) (a b n ps : List Token) → o ≡ [] → pieces_tokens x ≡ pieces_tokens o ++ (a ++ (b ++ keyword trait_word ∷ (n ++ ps)))
    → pieces_tokens x ≡ a ++ (b ++ keyword trait_word ∷ (n ++ (ps ++ [])))
companion-line-is o x a b n ps none e =
    first-written o x (a ++ (b ++ keyword trait_word ∷ (n ++ ps))) none e ∙ ap (λ t. a ++ (b ++ keyword trait_word ∷ (n ++ t))) (sym (append-nil ps))

pub impl-end-written : {E : Type 0} (r : Result (Unit {0}) E) (o x z : List Piece) (t : List Token) (ks : List (List Token)) → pieces_tokens x ≡ pieces_tokens o ++ keyword for_word ∷ (t ++ [])
    → Writes r (led (keyword where_word ∷ []) (sign comma ∷ []) ks) x z → Writes r (keyword for_word ∷ (t ++ where_spelling ks)) o z
impl-end-written r o x z t ks e w =
    let named = e ∙ ap (λ u. pieces_tokens o ++ keyword for_word ∷ u) (append-nil t) in
    writes-as r o z ((keyword for_word ∷ t) ++ led (keyword where_word ∷ []) (sign comma ∷ []) ks) (keyword for_word ∷ (t ++ where_spelling ks)) (ap (λ u. keyword for_word ∷ (t ++ u)) (where-led ks))
    (then-writes r o x z (keyword for_word ∷ t) (led (keyword where_word ∷ []) (sign comma ∷ []) ks) named w)

pub impl-written : {E : Type 0} (r : Result (Unit {0}) E) (o x z : List Piece) (ps : List Token) → pieces_tokens x ≡ pieces_tokens o ++ keyword impl_word ∷ [] → Writes r ps x z → Writes r (keyword impl_word ∷ ps) o z
impl-written r o x z ps e w = then-writes r o x z (keyword impl_word ∷ []) ps e w

pub impl-line-is : (o x y z : List Piece) (ps b end : List Token) → o ≡ [] → pieces_tokens x ≡ pieces_tokens o ++ keyword impl_word ∷ ps → pieces_tokens y ≡ pieces_tokens x ++ b → pieces_tokens z ≡ pieces_tokens y ++ end
    → pieces_tokens z ≡ keyword impl_word ∷ (ps ++ (b ++ end))
impl-line-is o x y z ps b end none e f g = first-written o z ((keyword impl_word ∷ ps) ++ (b ++ end)) none (thrice (pieces_tokens o) (pieces_tokens x) (pieces_tokens y) (pieces_tokens z) (keyword impl_word ∷ ps) b end e f g)

-- ---- queries
pub queries-written : {E : Type 0} (r : Result (Unit {0}) E) (o x z : List Piece) (m n : List Token) (ps qs : List (List Token)) → Filled ps → pieces_tokens x ≡ pieces_tokens o ++ led m n ps → Writes r (led n n qs) x z → Writes r (led m n (ps ++ qs)) o z
unfolding mark_behind
queries-written r o x z m n ps qs g e w =
    let all : led m n ps ++ led n n qs ≡ led m n (ps ++ qs) =
    ap (λ t. led m n t ++ led n n qs) g.2 ∙ sym (led-append m n (g.0 ∷ g.1) qs) ∙ ap (λ t. led m n (t ++ qs)) (sym g.2) in
    writes-as r o z (led m n ps ++ led n n qs) (led m n (ps ++ qs)) all (then-writes r o x z (led m n ps) (led n n qs) e w)

pub where-written : {E : Type 0} (r : Result (Unit {0}) E) (o z : List Piece) (ks : List (List Token)) → Writes r (led (keyword where_word ∷ []) (sign comma ∷ []) ks) o z → Writes r (where_spelling ks) o z
where-written r o z ks w = writes-as r o z (led (keyword where_word ∷ []) (sign comma ∷ []) ks) (where_spelling ks) (where-led ks) w

pub all-filled : (k : ClauseTokens) (ks : List ClauseTokens) → Filled (flat_map asked_lists (k ∷ ks))
all-filled k ks = let g = asked-filled k in (g.0, g.1 ++ flat_map asked_lists ks, ap (λ z. z ++ flat_map asked_lists ks) g.2)

abbrev asked_front : Keyword → List ℕ → List Token → List Token
asked_front k c ps = keyword k ∷ keyword in_word ∷ name c ∷ ps

pub refute-line-is : (o x y : List Piece) (k : Keyword) (c : List ℕ) (ps : List Token) (all : List (List Token)) → Filled all → o ≡ [] → pieces_tokens x ≡ pieces_tokens o ++ asked_front k c ps
    → pieces_tokens y ≡ pieces_tokens x ++ led [] (sign comma ∷ []) all → pieces_tokens y ∷ [] ≡ asking_list (λ q qs. asked_front k c (ps ++ (q ++ behind comma qs))) all
refute-line-is o x y k c ps all g none e f =
    let whole = f ∙ ap (λ t. t ++ led [] (sign comma ∷ []) all) (first-written o x (asked_front k c ps) none e) in
    ap (λ t. t ∷ []) (whole ∙ ap (λ z. asked_front k c (ps ++ led [] (sign comma ∷ []) z)) g.2 ∙ ap (λ z. asked_front k c (ps ++ (g.0 ++ z))) (led-each (sign comma) g.1))
    ∙ ap (asking_list (λ q qs. asked_front k c (ps ++ (q ++ behind comma qs)))) (sym g.2)

pub prove-line-is : (o x y z : List Piece) (k : Keyword) (c : List ℕ) (ps end : List Token) (all : List (List Token)) → Filled all → o ≡ [] → pieces_tokens x ≡ pieces_tokens o ++ asked_front k c ps
    → pieces_tokens y ≡ pieces_tokens x ++ led [] (sign comma ∷ []) all → pieces_tokens z ≡ pieces_tokens y ++ end
    → pieces_tokens z ∷ [] ≡ asking_list (λ q qs. asked_front k c (ps ++ (q ++ (behind comma qs ++ end)))) all
prove-line-is o x y z k c ps end all g none e f h =
    let whole = h ∙ ap (λ t. t ++ end) (f ∙ ap (λ t. t ++ led [] (sign comma ∷ []) all) (first-written o x (asked_front k c ps) none e)) in
    ap (λ t. t ∷ []) (whole ∙ ap (λ u. asked_front k c ((ps ++ led [] (sign comma ∷ []) u) ++ end)) g.2 ∙ ap (λ u. asked_front k c ((ps ++ (g.0 ++ u)) ++ end)) (led-each (sign comma) g.1)
    ∙ ap (λ u. asked_front k c u) (append_assoc ps (g.0 ++ behind comma g.1) end ∙ ap (λ u. ps ++ u) (append_assoc g.0 (behind comma g.1) end)))
    ∙ ap (asking_list (λ q qs. asked_front k c (ps ++ (q ++ (behind comma qs ++ end))))) (sym g.2)

-- ---- lists of lines
-- one more line
pub lines-step : {A B : Type 0} (f : B → List Token) (v : A → B) (lines : List (List Token)) (line : List Token) (t : List (List Token)) (xs others : List A) (x : A) → xs ≡ x ∷ others → line ≡ f (v x) → lines ++ map f (map v xs) ≡ t
    → (lines ++ line ∷ []) ++ map f (map v others) ≡ t
lines-step f v lines line t xs others x split e inv =
    append_assoc lines (line ∷ []) (map f (map v others)) ∙ ap (λ z. lines ++ z ∷ map f (map v others)) e ∙ ap (λ z. lines ++ map f (map v z)) (sym split) ∙ inv
