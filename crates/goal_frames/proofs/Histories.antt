-- A history of a search's replies is one of the frame's, and its premises include the nested goals that count.
use Rattle.std.proofs.Common.{◌≡◌, ℕ, zero, suc, ◌+◌, ◌≤◌, ◌<◌, Bool, true, false, cond, List, [], ◌∷◌, ◌++◌, length, ◌⊎◌, inl, inr, refl, sym, ◌∙◌, ap, subst, Option, Some, None, unwrap_or, slice_get, arith}
use Rattle.std.specs.Prelude.{slice_set}
use Rattle.std.proofs.lemmas.List.{length-set}
use Rattle.search_graph.specs.SearchPaths.declared.path_kind.PathKind.{PathKind}
use Rattle.search_graph.specs.declared.delegate.Request.{Request}
use Rattle.search_graph.specs.declared.delegate.Request.TheVariants.{Evaluate, IgnoreCandidate, Done}
use Rattle.search_graph.specs.declared.delegate.Reply.{Reply}
use Rattle.search_graph.specs.declared.delegate.Reply.TheVariants.{Begin, Result, Entered, Finished, Ignored}
use Rattle.search_graph.specs.Meaning.{Meaning, finished, ignoring, IsReplyTo, IsReplyBy, AreReplies, premise_of, premises_back, premises, answer_count, has_open_candidate, IsInOrder}
use Rattle.goal_evaluator.specs.Lists.{SomeOf, IsAmong, IsNoneOf}
use Rattle.goal_evaluator.specs.Script.{Script, done, ask}
use Rattle.goal_evaluator.specs.Frame as Scripts
use Rattle.goal_evaluator.specs.Frame.{considers, answers, numbers}
use Rattle.goal_evaluator.specs.History as Frames
use Rattle.goal_evaluator.specs.History.{Position, between, inside, request, told, position, CameInOrder, finished_at, ignored_at, results, others}
use Rattle.goal_evaluator.proofs.ListLaws.{SomeOf-mono}
use Rattle.goal_frames.specs.Searches.{reply_of, replies_of, request_of}
use Rattle.type_terms.proofs.ListBasics.{pushed-length as length-last}

-- ---- the numbers below this one, the greatest first
abbrev down : ℕ → List ℕ
down zero = []
down (suc n) = n ∷ down n

not-below : (n k : ℕ) → n ≤ k → IsNoneOf k (down n)
not-below zero k h = λ i. absurd i
not-below (suc n) k h = λ i. elim i [ inl e ↦ omega arith | inr j ↦ not-below n k (omega arith) j ]

in-down : (k n : ℕ) → IsAmong k (down n) → k < n
in-down k zero i = absurd i
in-down k (suc n) i = elim i [ inl e ↦ omega arith | inr j ↦ (let x = in-down k n j in omega arith) ]

-- ---- flags of candidates
set_flag : (bs : List Bool) (n k : ℕ) → slice_get (slice_set bs n true) k ≡ Some true → (k ≡ n) ⊎ (slice_get bs k ≡ Some true)
set_flag [] n k e = inr e
set_flag (b ∷ bs) zero zero e = inl refl
set_flag (b ∷ bs) zero (suc k) e = inr e
set_flag (b ∷ bs) (suc n) zero e = inr e
set_flag (b ∷ bs) (suc n) (suc k) e = elim (set_flag bs n k e) [ inl x ↦ inl (ap suc x) | inr y ↦ inr y ]

new_flag : (bs : List Bool) (k : ℕ) → slice_get (bs ++ false ∷ []) k ≡ Some true → slice_get bs k ≡ Some true
new_flag [] zero e = absurd (cc)
new_flag [] (suc k) e = e
new_flag (b ∷ bs) zero e = e
new_flag (b ∷ bs) (suc k) e = new_flag bs k e

flag_off : (o : Option Bool) → (o ≡ Some true → ⊥) → unwrap_or o false ≡ false
flag_off None h = refl
flag_off (Some true) h = absurd (h refl)
flag_off (Some false) h = refl

unflagged : (bs : List Bool) (n : ℕ) → n < length bs → (slice_get bs n ≡ Some true → ⊥) → slice_get bs n ≡ Some false
unflagged [] n h f = absurd (omega arith)
unflagged (true ∷ bs) zero h f = absurd (f refl)
unflagged (false ∷ bs) zero h f = refl
unflagged (b ∷ bs) (suc n) h f = unflagged bs n (omega arith) f

-- ---- elements under a condition
among_if : {A : Type 0} (b : Bool) (x : A) (xs ys : List A) → b ≡ true → IsAmong x xs → IsAmong x (cond b xs ys)
among_if true x xs ys e i = i
among_if false x xs ys e i = absurd (cc)

among_else : {A : Type 0} (b : Bool) (x : A) (xs ys : List A) → b ≡ false → IsAmong x ys → IsAmong x (cond b xs ys)
among_else true x xs ys e i = absurd (cc)
among_else false x xs ys e i = i

among_either : {A : Type 0} (b : Bool) (x : A) (xs ys : List A) → IsAmong x xs → IsAmong x ys → IsAmong x (cond b xs ys)
among_either true x xs ys i j = i
among_either false x xs ys i j = j

module _ {C I R F : Type 0} (m : Meaning C I R F) where
  stays_premise : (x : m.Goal × PathKind) (q : Request m.Goal m.Answer) (a : m.Answer) (others : List (m.Goal × PathKind)) → IsAmong x others → IsAmong x (premise_of m q a others)
  stays_premise x (Evaluate h k) a others i = among_either (m.is_yes a) x ((h, k) ∷ others) others (inr i) i
  stays_premise x request a others i = i

  pub answer_count-is : (heard : List (Reply m.Answer)) → results (replies_of heard) ≡ answer_count m heard
  answer_count-is [] = refl
  answer_count-is (Result a ∷ heard) = let e = answer_count-is heard in omega arith
  answer_count-is (reply ∷ heard) = answer_count-is heard

-- ---- requests of frames
module _ {Q G A : Type 0} (goal : Q → G) (kind : Q → PathKind) where
  pub done_returns : (r : Frames.Request Q A) (a : A) → request_of goal kind r ≡ Done a → r ≡ Frames.returns a
  done_returns (Frames.returns b) a e = cc
  done_returns request a e = absurd (cc)

  pub evaluates : (r : Frames.Request Q A) (h : G) (k : PathKind) → request_of goal kind r ≡ Evaluate h k → (q : Q) × (r ≡ Frames.evaluate q) × (goal q ≡ h) × (kind q ≡ k)
  evaluates (Frames.evaluate q) h k e = (q, refl, (cc), (cc))
  evaluates request h k e = absurd (cc)

pub told-begin : {Q A : Type 0} (p : Position Q A) → told Frames.begin p ≡ p
told-begin (between heard gone (answers a [])) = refl
told-begin (inside heard replies (done a) go) = refl
told-begin p = refl

-- what was asked and answered in the candidate that is open
abbrev open_replies : {Q A : Type 0} → Position Q A → List (Q × A)
open_replies (between before gone f) = []
open_replies (inside before replies s go) = replies

-- whether a candidate is open
abbrev is_inside : {Q A : Type 0} → Position Q A → Bool
is_inside (between before gone f) = false
is_inside (inside before replies s go) = true

-- ---- a frame of which the search asks what the frame asks
module _ {C I R F : Type 0} (m : Meaning C I R F) (Q : Type 0) (goal : Q → m.Goal) (kind : Q → PathKind) (w : m.World) (g : m.Goal) (f : Scripts.Frame Q m.Answer)
    (same : (heard : List (Reply m.Answer)) → m.asks w g heard ≡ request_of goal kind (Frames.asks f (replies_of heard))) where
  abbrev place : List (Reply m.Answer) → Position Q m.Answer
  place heard = position f (replies_of heard)

  abbrev asked : Position Q m.Answer → Request m.Goal m.Answer
  asked p = request_of goal kind (request p)

  module _ (P : m.Goal → m.Answer → Type 0) where
    -- a reply that is due is one of four
    step : (heard : List (Reply m.Answer)) (S : Position Q m.Answer → Reply m.Answer → Position Q m.Answer → Type 0)
        → ((before : List (Scripts.Finished Q m.Answer)) (gone : List ℕ) (s : Script Q m.Answer m.Answer) (go : m.Answer → ℕ → Scripts.Frame Q m.Answer)
        → S (between before gone (considers s go)) Entered (inside before [] s go))
        → ((before : List (Scripts.Finished Q m.Answer)) (gone : List ℕ) (a : m.Answer) (n : ℕ) (ns : List ℕ) → m.asks w g heard ≡ IgnoreCandidate n
        → S (between before gone (answers a (n ∷ ns))) Ignored (between before (n ∷ gone) (answers a ns)))
        → ((before : List (Scripts.Finished Q m.Answer)) (replies : List (Q × m.Answer)) (q : Q) (k : m.Answer → Script Q m.Answer m.Answer) (go : m.Answer → ℕ → Scripts.Frame Q m.Answer) (a : m.Answer)
        → m.asks w g heard ≡ Evaluate (goal q) (kind q) → P (goal q) a
        → S (inside before replies (ask q k) go) (Result a) (inside before ((q, a) ∷ replies) (k a) go))
        → ((before : List (Scripts.Finished Q m.Answer)) (replies : List (Q × m.Answer)) (a : m.Answer) (go : m.Answer → ℕ → Scripts.Frame Q m.Answer) (n : ℕ) → n ≡ length (finished m w g heard)
        → S (inside before replies (done a) go) (Finished n) (between ((n, replies) ∷ before) [] (go a n)))
        → (p : Position Q m.Answer) (reply : Reply m.Answer) → m.asks w g heard ≡ asked p → IsReplyTo m w g heard (asked p) reply → IsReplyBy m P (asked p) reply → S p reply (told (reply_of reply) p)
    step heard S enters ignores hears ends (between before gone (considers s go)) Entered e i b = enters before gone s go
    step heard S enters ignores hears ends (between before gone (answers a (n ∷ ns))) Ignored e i b = ignores before gone a n ns e
    step heard S enters ignores hears ends (inside before replies (ask q k) go) (Result a) e i b = hears before replies q k go a e b
    step heard S enters ignores hears ends (inside before replies (done a) go) (Finished n) e i b = ends before replies a go n i
    step heard S enters ignores hears ends (between before gone (considers s go)) reply e i b = absurd i
    step heard S enters ignores hears ends (between before gone (answers a [])) reply e i b = absurd i
    step heard S enters ignores hears ends (between before gone (answers a (n ∷ ns))) reply e i b = absurd i
    step heard S enters ignores hears ends (inside before replies (ask q k) go) reply e i b = absurd i
    step heard S enters ignores hears ends (inside before replies (done a) go) reply e i b = absurd i

    abbrev IsKept : (List (Reply m.Answer) → Position Q m.Answer → Type 0) → Type 0
    IsKept Inv =
        (heard : List (Reply m.Answer)) (p : Position Q m.Answer) (reply : Reply m.Answer) → m.asks w g heard ≡ asked p → IsReplyTo m w g heard (asked p) reply → IsReplyBy m P (asked p) reply
        → Inv heard p → Inv (reply ∷ heard) (told (reply_of reply) p)

    -- what holds at the beginning and is kept by each reply
    holds : (Inv : List (Reply m.Answer) → Position Q m.Answer → Type 0) → Inv (Begin ∷ []) (between [] [] f) → IsKept Inv
        → (last : Reply m.Answer) (heard : List (Reply m.Answer)) → AreReplies m P w g (last ∷ heard) → Inv (last ∷ heard) (place (last ∷ heard))
    holds Inv start on reply [] r =
        subst (λ x. Inv (x ∷ []) (place (x ∷ []))) (sym r.0) (subst (Inv (Begin ∷ [])) (sym (told-begin (between [] [] f))) start)
    holds Inv start on reply (last ∷ heard) r =
        on (last ∷ heard) (place (last ∷ heard)) reply (same (last ∷ heard))
        (subst (λ q. IsReplyTo m w g (last ∷ heard) q reply) (same (last ∷ heard)) r.0.1) (subst (λ q. IsReplyBy m P q reply) (same (last ∷ heard)) r.1)
        (holds Inv start on last heard r.2)

    -- ---- candidates are numbered in order
    abbrev Numbered : List (Reply m.Answer) → Position Q m.Answer → Type 0
    Numbered heard p = numbers (finished_at p) ≡ down (length (finished m w g heard))

    numbered_on : IsKept Numbered
    numbered_on heard =
        step heard (λ p reply q. Numbered heard p → Numbered (reply ∷ heard) q) (λ before gone s go x. x)
        (λ before gone a n ns e x.
        subst (λ q. numbers before ≡ down (length (ignoring m q (finished m w g heard)))) (sym e) (x ∙ ap down (sym (length-set (finished m w g heard) n true))))
        (λ before replies q k go a e b x. x)
        (λ before replies a go n e x.
        (ap (λ k. k ∷ numbers before) e ∙ ap (λ ks. length (finished m w g heard) ∷ ks) x) ∙ ap down (sym (length-last (finished m w g heard) false)))

    numbered : (last : Reply m.Answer) (heard : List (Reply m.Answer)) → AreReplies m P w g (last ∷ heard) → Numbered (last ∷ heard) (place (last ∷ heard))
    numbered = holds Numbered refl numbered_on

    -- ---- what is ignored
    abbrev IsFlagged : List (Reply m.Answer) → ℕ → Type 0
    IsFlagged heard k = slice_get (finished m w g heard) k ≡ Some true

    abbrev Flags : List (Reply m.Answer) → Position Q m.Answer → Type 0
    Flags heard (between before gone (considers s go)) = (k : ℕ) → IsFlagged heard k → ⊥
    Flags heard (between before gone (answers a ns)) = (k : ℕ) → IsFlagged heard k → IsAmong k gone
    Flags heard (inside before replies s go) = (k : ℕ) → IsFlagged heard k → ⊥

    flags_start : (heard : List (Reply m.Answer)) (before : List (Scripts.Finished Q m.Answer)) (x : Scripts.Frame Q m.Answer) → ((k : ℕ) → IsFlagged heard k → ⊥) → Flags heard (between before [] x)
    flags_start heard before (considers s go) h = h
    flags_start heard before (answers a ns) h = λ k e. absurd (h k e)

    flags_on : IsKept Flags
    flags_on heard =
        step heard (λ p reply q. Flags heard p → Flags (reply ∷ heard) q) (λ before gone s go x. x)
        (λ before gone a n ns e x k flagged.
        elim (set_flag (finished m w g heard) n k (subst (λ q. slice_get (ignoring m q (finished m w g heard)) k ≡ Some true) e flagged)) [ inl is ↦ inl is | inr was ↦ inr (x k was) ])
        (λ before replies q k go a e b x. x)
        (λ before replies a go n e x. flags_start (Finished n ∷ heard) ((n, replies) ∷ before) (go a n) (λ k flagged. x k (new_flag (finished m w g heard) k flagged)))

    flags : (last : Reply m.Answer) (heard : List (Reply m.Answer)) → AreReplies m P w g (last ∷ heard) → Flags (last ∷ heard) (place (last ∷ heard))
    flags = holds Flags (flags_start (Begin ∷ []) [] f (λ k e. absurd (cc))) flags_on

    flagged_ignored : (heard : List (Reply m.Answer)) (p : Position Q m.Answer) → Flags heard p → (k : ℕ) → IsFlagged heard k → IsAmong k (ignored_at p)
    flagged_ignored heard (between before gone (considers s go)) x k e = absurd (x k e)
    flagged_ignored heard (between before gone (answers a ns)) x k e = x k e
    flagged_ignored heard (inside before replies s go) x k e = absurd (x k e)

    -- ---- what was answered by a yes
    abbrev AnsweredIn : List (Q × m.Answer) → Q → Type 0
    AnsweredIn replies q = SomeOf (λ (x : Q × m.Answer). (x.0 ≡ q) × (m.is_yes x.1 ≡ true)) replies

    abbrev CountsBy : List Bool → List (Scripts.Finished Q m.Answer) → Q → Type 0
    CountsBy flags before q = SomeOf (λ (c : Scripts.Finished Q m.Answer). (unwrap_or (slice_get flags c.0) false ≡ false) × AnsweredIn c.1 q) before

    -- whatever is ignored later, the premises hold what counts by then
    pub record Holds (heard : List (Reply m.Answer)) (p : Position Q m.Answer) (flags : List Bool) (ignored : Bool) : Type 0 where
      pub finished : (q : Q) → CountsBy flags (finished_at p) q → IsAmong (goal q, kind q) (premises_back m w g flags ignored heard)
      pub opened : ignored ≡ false → (q : Q) → AnsweredIn (open_replies p) q → IsAmong (goal q, kind q) (premises_back m w g flags ignored heard)

    abbrev HoldsAll : List (Reply m.Answer) → Position Q m.Answer → Type 0
    HoldsAll heard p = (flags : List Bool) (ignored : Bool) → Holds heard p flags ignored

    holds_start : HoldsAll (Begin ∷ []) (between [] [] f)
    holds_start flags ignored = record { finished = λ q i. absurd i; opened = λ off q i. absurd i }

    holds_result : (heard : List (Reply m.Answer)) (before : List (Scripts.Finished Q m.Answer)) (replies : List (Q × m.Answer)) (q : Q) (k : m.Answer → Script Q m.Answer m.Answer)
        (go : m.Answer → ℕ → Scripts.Frame Q m.Answer) (a : m.Answer) → m.asks w g heard ≡ Evaluate (goal q) (kind q)
        → HoldsAll heard (inside before replies (ask q k) go) → HoldsAll (Result a ∷ heard) (inside before ((q, a) ∷ replies) (k a) go)
    holds_result heard before replies q k go a e x flags ignored =
        let more = premises_back m w g flags ignored heard in
        let now = premise_of m (m.asks w g heard) a more in
        record {
          finished = λ r i. let j = (x flags ignored).finished r i in among_either ignored (goal r, kind r) more now j (stays_premise m (goal r, kind r) (m.asks w g heard) a more j);
          opened = λ off r i. among_else ignored (goal r, kind r) more now off (elim i [
            | inl y ↦
                subst (λ z. IsAmong (goal r, kind r) (premise_of m z a more)) (sym e)
                (among_if (m.is_yes a) (goal r, kind r) ((goal q, kind q) ∷ more) more y.1 (inl (ap (λ (z : Q). (goal z, kind z)) (sym y.0))))
            | inr j ↦ stays_premise m (goal r, kind r) (m.asks w g heard) a more ((x flags ignored).opened off r j)
          ]);
        }

    holds_end : (heard : List (Reply m.Answer)) (before : List (Scripts.Finished Q m.Answer)) (replies : List (Q × m.Answer)) (a : m.Answer) (go : m.Answer → ℕ → Scripts.Frame Q m.Answer) (n : ℕ)
        → HoldsAll heard (inside before replies (done a) go) → HoldsAll (Finished n ∷ heard) (between ((n, replies) ∷ before) [] (go a n))
    holds_end heard before replies a go n x flags ignored =
        let y = x flags (unwrap_or (slice_get flags n) false) in
        record { finished = λ q i. elim i [ inl c ↦ y.opened c.0 q c.1 | inr j ↦ y.finished q j ]; opened = λ off q i. absurd i }

    holds_on : IsKept HoldsAll
    holds_on heard =
        step heard (λ p reply q. HoldsAll heard p → HoldsAll (reply ∷ heard) q)
        (λ before gone s go x flags ignored. record { finished = λ q i. (x flags false).finished q i; opened = λ off q i. absurd i })
        (λ before gone a n ns e x flags ignored. record { finished = λ q i. (x flags ignored).finished q i; opened = λ off q i. absurd i })
        (λ before replies q k go a e b x. holds_result heard before replies q k go a e x)
        (λ before replies a go n e x. holds_end heard before replies a go n x)

    -- a question that was answered by a yes in a candidate that is not ignored is a premise
    pub counted : (last : Reply m.Answer) (heard : List (Reply m.Answer)) → AreReplies m P w g (last ∷ heard) → (q : Q)
        → SomeOf (λ (c : Scripts.Finished Q m.Answer). IsNoneOf c.0 (ignored_at (place (last ∷ heard))) × AnsweredIn c.1 q) (finished_at (place (last ∷ heard)))
        → IsAmong (goal q, kind q) (premises m w g (last ∷ heard))
    counted last heard r q i =
        let all = finished m w g (last ∷ heard) in
        let p = place (last ∷ heard) in
        let ignored = flagged_ignored (last ∷ heard) p (flags last heard r) in
        (holds HoldsAll holds_start holds_on last heard r all false).finished q
        (SomeOf-mono (λ (c : Scripts.Finished Q m.Answer). IsNoneOf c.0 (ignored_at p) × AnsweredIn c.1 q)
        (λ (c : Scripts.Finished Q m.Answer). (unwrap_or (slice_get all c.0) false ≡ false) × AnsweredIn c.1 q)
        (λ c x. (flag_off (slice_get all c.0) (λ e. x.0 (ignored c.0 e)), x.1)) (finished_at p) i)

    -- ---- requests come in order
    abbrev IsOpenAt : List (Reply m.Answer) → Position Q m.Answer → Type 0
    IsOpenAt heard p = has_open_candidate m heard ≡ is_inside p

    open_on : IsKept IsOpenAt
    open_on heard =
        step heard (λ p reply q. IsOpenAt heard p → IsOpenAt (reply ∷ heard) q) (λ before gone s go x. refl) (λ before gone a n ns e x. x) (λ before replies q k go a e b x. x)
        (λ before replies a go n e x. refl)

    -- a number that is to be ignored is that of a candidate that was finished, and was not ignored before
    abbrev Ignores : Position Q m.Answer → Type 0
    Ignores p = (n : ℕ) → request p ≡ Frames.ignore_candidate n → IsAmong n (numbers (finished_at p)) × IsNoneOf n (ignored_at p)

    order_at : (heard : List (Reply m.Answer)) (p : Position Q m.Answer) → IsOpenAt heard p → Numbered heard p → Flags heard p → Ignores p → IsInOrder m w g heard (asked p)
    order_at heard (between before gone (considers s go)) o n x i = o
    order_at heard (between before gone (answers a [])) o n x i = o
    order_at heard (between before gone (answers a (k ∷ ks))) o n x i =
        let y = i k refl in
        unflagged (finished m w g heard) k (in-down k (length (finished m w g heard)) (subst (IsAmong k) n y.0)) (λ e. y.1 (x k e))
    order_at heard (inside before replies (ask q k) go) o n x i = tt
    order_at heard (inside before replies (done a) go) o n x i = o

    pub in_order : (last : Reply m.Answer) (heard : List (Reply m.Answer)) → AreReplies m P w g (last ∷ heard) → Ignores (place (last ∷ heard))
        → IsInOrder m w g (last ∷ heard) (m.asks w g (last ∷ heard))
    in_order last heard r i =
        subst (IsInOrder m w g (last ∷ heard)) (sym (same (last ∷ heard)))
        (order_at (last ∷ heard) (place (last ∷ heard)) (holds IsOpenAt refl open_on last heard r) (numbered last heard r) (flags last heard r) i)

    -- ---- how many replies there are
    abbrev Long : List (Reply m.Answer) → Position Q m.Answer → Type 0
    Long heard p = length heard ≡ suc (results (replies_of heard) + others (replies_of heard))

    long_on : IsKept Long
    long_on heard =
        step heard (λ p reply q. Long heard p → Long (reply ∷ heard) q) (λ before gone s go x. omega arith) (λ before gone a n ns e x. omega arith) (λ before replies q k go a e b x. omega arith)
        (λ before replies a go n e x. omega arith)

    pub long : (last : Reply m.Answer) (heard : List (Reply m.Answer)) → AreReplies m P w g (last ∷ heard)
        → length (last ∷ heard) ≡ suc (results (replies_of (last ∷ heard)) + others (replies_of (last ∷ heard)))
    long last heard r = holds Long (omega arith) long_on last heard r

    -- ---- the frame's histories
    module _ (T : Q → m.Answer → Type 0)
        (fits : (heard : List (Reply m.Answer)) (q : Q) (a : m.Answer) → CameInOrder T f (replies_of heard) → Frames.asks f (replies_of heard) ≡ Frames.evaluate q → P (goal q) a → T q a) where
      came_next : (reply last : Reply m.Answer) (heard : List (Reply m.Answer)) → Frames.IsAwaitedReply T (place (last ∷ heard)) (reply_of reply) → CameInOrder T f (replies_of (last ∷ heard))
          → CameInOrder T f (replies_of (reply ∷ last ∷ heard))
      came_next Begin last heard i c = (i, c)
      came_next reply last heard i c = (i, c)

      is_reply : (heard : List (Reply m.Answer)) → CameInOrder T f (replies_of heard) → (p : Position Q m.Answer) (reply : Reply m.Answer) → m.asks w g heard ≡ asked p → IsReplyTo m w g heard (asked p) reply → IsReplyBy m P (asked p) reply
          → Frames.asks f (replies_of heard) ≡ request p → Numbered heard p → Frames.IsAwaitedReply T p (reply_of reply)
      is_reply heard c =
          step heard (λ p reply q. Frames.asks f (replies_of heard) ≡ request p → Numbered heard p → Frames.IsAwaitedReply T p (reply_of reply)) (λ before gone s go e x. tt)
          (λ before gone a n ns d e x. tt) (λ before replies q k go a d b e x. fits heard q a c e b)
          (λ before replies a go n d e x.
          subst (λ ks. IsNoneOf n ks) (sym x) (subst (λ k. IsNoneOf n (down k)) d (not-below n n (omega arith))))

      pub came : (last : Reply m.Answer) (heard : List (Reply m.Answer)) → AreReplies m P w g (last ∷ heard) → CameInOrder T f (replies_of (last ∷ heard))
      came reply [] r = subst (λ x. CameInOrder T f (reply_of x ∷ [])) (sym r.0) tt
      came reply (last ∷ heard) r =
          let c = came last heard r.2 in
          came_next reply last heard
          (is_reply (last ∷ heard) c (place (last ∷ heard)) reply (same (last ∷ heard)) (subst (λ q. IsReplyTo m w g (last ∷ heard) q reply) (same (last ∷ heard)) r.0.1)
          (subst (λ q. IsReplyBy m P q reply) (same (last ∷ heard)) r.1) refl (numbered last heard r.2)) c
