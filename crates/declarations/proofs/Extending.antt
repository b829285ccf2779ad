-- References that are put on a stack if they were not put there before.
use Rattle.std.proofs.Common.{◌≡◌, ℕ, Bool, true, false, not, ◌==◌, ◌&&◌, ◌||◌, if◌then◌else◌, List, [], ◌∷◌, ◌++◌, refl, sym, ap, ◌∙◌, subst, append_assoc, ◌⊎◌, inl, inr}
use Rattle.std.specs.List.{list_any}
use Rattle.type_terms.specs.Promised.Worlds.{Reference}
use Rattle.type_terms.specs.Codes.{same}
use Rattle.type_terms.specs.Promised.Proofs.{In}
use Rattle.type_terms.proofs.Matching.{same-sound}
use Rattle.type_terms.proofs.Members.{same-number, self-number, here, there, in-nothing, in-append, in-cases}
use Rattle.type_terms.specs.Promised.Handles.{Entry, Has, Is, trees_at}
use Rattle.type_terms.specs.Terms.{Lawful, args_lists}
use Rattle.type_terms.specs.Kept.{is-at}
use Rattle.indexmap.specs.IndexSet.{insert_key}
use Rattle.term_folds.specs.contracts.predicate.TraitRefPartialEq.TheImpl.{ghosts as reference}
use Rattle.term_folds.specs.declared.predicate.TraitRef.{TraitRef}
use Rattle.declarations.specs.declared.elaborate.Elaborator.{Elaborator}
use Rattle.declarations.specs.Items.{reference_in}
use Rattle.declarations.specs.Held.{ReferenceHeld}
use Rattle.declarations.specs.Promised.Elaboration.{is_put, new_of}
use Rattle.declarations.specs.Applied.{references_in, TraitRefsHeld}
use Rattle.declarations.proofs.Bounded.{all-put}
use Rattle.declarations.proofs.Stacks.{same-self, new-same, put-last}
use Rattle.type_terms.proofs.ListBasics.{append-none}

-- handles are equal exactly if their trees are
numbers-tell : (es : List Entry) → Lawful es → (kind i j : ℕ) → Has es kind i → Has es kind j → (i == j) ≡ same (trees_at es i) (trees_at es j)
numbers-tell es law kind i j h g = by (i == j) refl (same (trees_at es i) (trees_at es j)) refl
  where
    by : (p : Bool) → (i == j) ≡ p → (q : Bool) → same (trees_at es i) (trees_at es j) ≡ q → p ≡ q
    by true e true f = refl
    by false e false f = refl
    by true e false f =
        let one : i ≡ j = same-number i j e in
        let self : same (trees_at es i) (trees_at es j) ≡ true = subst (λ n. same (trees_at es i) (trees_at es n) ≡ true) one (same-self (trees_at es i)) in
        sym self ∙ f
    by false e true f =
        let trees : trees_at es i ≡ trees_at es j = same-sound (trees_at es i) (trees_at es j) f in
        let one : i ≡ j = law.distinct i j (record { kind = kind; trees = trees_at es j }) (subst (Is es kind i) trees (is-at es kind i h)) (is-at es kind j g) in
        sym e ∙ subst (λ n. (i == n) ≡ true) one (self-number i)

both : (a b c : Bool) → b ≡ c → (a && b) ≡ (a && c)
both a b c e = ap (λ z. a && z) e

either : (a b c d : Bool) → a ≡ b → c ≡ d → (a || c) ≡ (b || d)
either a b c d e f = cc

among-put : (es : List Entry) → Lawful es → (x : TraitRef) → ReferenceHeld es x → (ss : List TraitRef) → TraitRefsHeld es ss
    → list_any (reference.eq x) ss ≡ is_put (reference_in es x) (references_in es ss)
among-put es law x h [] g = refl
among-put es law x h (s ∷ ss) g =
    either _ _ _ _ (both (x.def_id.index == s.def_id.index) (x.args.0 == s.args.0) (same (trees_at es x.args.0) (trees_at es s.args.0)) (numbers-tell es law args_lists x.args.0 s.args.0 h g.0))
    (among-put es law x h ss g.1)

-- so much was added, and these are left
pub record Extending (es : List Entry) (references : List TraitRef) (old : Elaborator) (left : List TraitRef) (now : Elaborator) : Type 0 where
  pub left_held : TraitRefsHeld es left
  pub visited_held : TraitRefsHeld es now.visited.keys
  pub left_among : (r : TraitRef) → In r left → In r references
  pub added : List TraitRef
  pub among : (r : TraitRef) → In r added → In r references
  pub are_new : references_in es added ++ new_of (references_in es now.visited.keys) (references_in es left) ≡ new_of (references_in es old.visited.keys) (references_in es references)
  pub visited : now.visited.keys ≡ old.visited.keys ++ added
  pub stack : now.stack.items ≡ old.stack.items ++ added

pub extending-first : (es : List Entry) (references : List TraitRef) (old : Elaborator) → TraitRefsHeld es references → TraitRefsHeld es old.visited.keys → Extending es references old references old
extending-first es references old h g = record {
  left_held = h;
  visited_held = g;
  left_among = λ r i. i;
  added = [];
  among = λ r i. absurd (in-nothing r i);
  are_new = refl;
  visited = sym (append-none old.visited.keys);
  stack = sym (append-none old.stack.items);
}

-- the set tells whether a reference was put before
no-then-yes : (a b : Bool) → not a ≡ b → a ≡ not b
no-then-yes true b h = ap not h
no-then-yes false b h = ap not h

was-put : (es : List Entry) → Lawful es → (x : TraitRef) → ReferenceHeld es x → (ss : List TraitRef) → TraitRefsHeld es ss → (b : Bool) → not (list_any (reference.eq x) ss) ≡ b
    → is_put (reference_in es x) (references_in es ss) ≡ not b
was-put es law x h ss g b e = sym (among-put es law x h ss g) ∙ no-then-yes (list_any (reference.eq x) ss) b e

-- one that it has changes nothing
pub extending-known : (es : List Entry) → Lawful es → (references : List TraitRef) (old now next : Elaborator) (x : TraitRef) (left : List TraitRef)
    → not (list_any (reference.eq x) now.visited.keys) ≡ false → next.visited.keys ≡ insert_key reference.eq now.visited.keys x → next.stack.items ≡ now.stack.items
    → Extending es references old (x ∷ left) now → Extending es references old left next
extending-known es law references old now next x left new v s h = record {
  left_held = h.left_held.1;
  visited_held = subst (TraitRefsHeld es) (sym stays) h.visited_held;
  left_among = λ r i. h.left_among r (there r x left i);
  added = h.added;
  among = h.among;
  are_new = ap (λ l. references_in es h.added ++ new_of (references_in es l) (references_in es left)) stays
      ∙ ap (λ (b : Bool). references_in es h.added ++ (if b then rest else reference_in es x ∷ new_of (reference_in es x ∷ references_in es now.visited.keys) (references_in es left))) (sym put)
      ∙ h.are_new;
  visited = stays ∙ h.visited;
  stack = s ∙ h.stack;
}
  where
    rest : List Reference
    rest = new_of (references_in es now.visited.keys) (references_in es left)

    put : is_put (reference_in es x) (references_in es now.visited.keys) ≡ true
    put = was-put es law x h.left_held.0 now.visited.keys h.visited_held false new

    stays : next.visited.keys ≡ now.visited.keys
    stays = v ∙ ap (λ (b : Bool). if b then now.visited.keys else now.visited.keys ++ x ∷ []) (no-then-yes (list_any (reference.eq x) now.visited.keys) false new)

references-append : (es : List Entry) (xs ys : List TraitRef) → references_in es (xs ++ ys) ≡ references_in es xs ++ references_in es ys
references-append es [] ys = refl
references-append es (x ∷ xs) ys = ap (λ l. reference_in es x ∷ l) (references-append es xs ys)

-- one that it has not goes last
pub extending-new : (es : List Entry) → Lawful es → (references : List TraitRef) (old now next : Elaborator) (x : TraitRef) (left : List TraitRef)
    → not (list_any (reference.eq x) now.visited.keys) ≡ true → next.visited.keys ≡ insert_key reference.eq now.visited.keys x → next.stack.items ≡ now.stack.items ++ x ∷ []
    → Extending es references old (x ∷ left) now → Extending es references old left next
extending-new es law references old now next x left new inserted s h = record {
  left_held = h.left_held.1;
  visited_held = subst (TraitRefsHeld es) (sym v) (all-put es now.visited.keys x h.visited_held h.left_held.0);
  left_among = λ r i. h.left_among r (there r x left i);
  added = h.added ++ x ∷ [];
  among = λ r i. by r (in-append r h.added (x ∷ []) i);
  are_new = are_new;
  visited = v ∙ ap (λ l. l ++ x ∷ []) h.visited ∙ append_assoc old.visited.keys h.added (x ∷ []);
  stack = s ∙ ap (λ l. l ++ x ∷ []) h.stack ∙ append_assoc old.stack.items h.added (x ∷ []);
}
  where
    by : (z : TraitRef) → In z h.added ⊎ In z (x ∷ []) → In z references
    by z (inl i) = h.among z i
    by z (inr i) = elim (in-cases z x [] i) [ inl q ↦ subst (λ w. In w references) q (h.left_among x (here x left)) | inr k ↦ absurd (in-nothing z k) ]

    e : is_put (reference_in es x) (references_in es now.visited.keys) ≡ false
    e = was-put es law x h.left_held.0 now.visited.keys h.visited_held true new

    v : next.visited.keys ≡ now.visited.keys ++ x ∷ []
    v = inserted ∙ ap (λ (b : Bool). if b then now.visited.keys else now.visited.keys ++ x ∷ []) (no-then-yes (list_any (reference.eq x) now.visited.keys) true new)

    r : Reference
    r = reference_in es x

    before : List Reference
    before = references_in es now.visited.keys

    put-as : references_in es next.visited.keys ≡ before ++ r ∷ []
    put-as = ap (references_in es) v ∙ references-append es now.visited.keys (x ∷ [])

    rest-same : new_of (references_in es next.visited.keys) (references_in es left) ≡ new_of (r ∷ before) (references_in es left)
    rest-same = ap (λ l. new_of l (references_in es left)) put-as ∙ new-same (before ++ r ∷ []) (r ∷ before) (references_in es left) (λ z. put-last z r before)

    are_new : references_in es (h.added ++ x ∷ []) ++ new_of (references_in es next.visited.keys) (references_in es left) ≡ new_of (references_in es old.visited.keys) (references_in es references)
    are_new =
        ap (λ l. l ++ new_of (references_in es next.visited.keys) (references_in es left)) (references-append es h.added (x ∷ []))
        ∙ append_assoc (references_in es h.added) (r ∷ []) (new_of (references_in es next.visited.keys) (references_in es left))
        ∙ ap (λ l. references_in es h.added ++ r ∷ l) rest-same
        ∙ ap (λ (b : Bool). references_in es h.added ++ (if b then new_of before (references_in es left) else r ∷ new_of (r ∷ before) (references_in es left))) (sym e)
        ∙ h.are_new
