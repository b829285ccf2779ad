-- Terms and snapshots of inference sessions.
use Rattle.std.specs.Prelude.{IfErr, IfOk, IfSome, OnErr, OnOk, is_some, option_to_list}
use Rattle.std.proofs.Common.{◌≡◌, ◌∙◌, ◌≤◌, ◌⊎◌, inl, inr, ℕ, zero, suc, arith, Bool, true, false, ◌||◌, refl, sym, ap, subst, List, [], ◌∷◌, ◌++◌, length, map, take, Option, Some, None, slice_get, Result, Ok, Err}
use Rattle.type_terms.specs.Promised.Handles.{Entry, Keeps, arg_trees}
use Rattle.type_terms.specs.Promised.Label.{Sort}
use Rattle.type_terms.specs.Promised.Trees.{Trees}
use Rattle.type_terms.specs.Kinds.{args_trees}
use Rattle.type_terms.proofs.ListBasics.{append-none, first-same, rest-same}
use Rattle.type_terms.specs.Kept.{arg-held-later, arg-trees-later}
use Rattle.type_terms.specs.declared.Fault.{Fault}
use Rattle.type_terms.specs.declared.Fault.TheVariants.{Full, Memory}
use Rattle.type_terms.specs.declared.kinds.GenericArgKind.{GenericArgKind}
use Rattle.infer_table.specs.Canonical.{HasNoCanonical}
use Rattle.infer_table.specs.Content.{Table, variables_of}
use Rattle.infer_table.specs.Covers.{AreKnown}
use Rattle.infer_table.specs.Growth.{counts-kept}
use Rattle.infer_table.proofs.KnownUnknowns.{known-more}
use Rattle.overlap_check.proofs.Owning.{NoFewer}
use Rattle.sessions.specs.Promised.Shortages.{IsAtLimit, SessionFullAtLimit}
use Rattle.sessions.specs.Promised.Subjects.{Subject, StaysOn}
use Rattle.candidate_assembly.specs.SolverMeaning.{solver_by_view}
use Rattle.candidate_assembly.specs.declared.solver.Solver.{Solver}
use Rattle.infer_table.specs.Solutions.{Assignment, is_same_variable}
use Rattle.inference.specs.Inference.{AgreeOnOwn, Demand, IsFaithfulTo, OwnVariables}
use Rattle.inference.specs.Inferring.{HasGrownFrom, IsAsBefore, IsSnapshotOf, with_own_variable}
use Rattle.solver_graph.specs.declared.context.SolverCx.{SolverCx}
use Rattle.inference.specs.declared.context.Infer.{Infer}
use Rattle.inference.proofs.Growing.{further, itself}
use Rattle.session_inference.specs.Contexts.{AreTermsOver, CanInferIn, HasOneMoreIn, IsAskedFurtherIn, IsTermOver, LeavesInferring, LetsRest}
use Rattle.session_inference.specs.Inferences.{AreTaken, AreTakenAfter, AsksFurther, HasNewTerm, Inference, InfersOn, IsInferring, IsOpenSnapshot, terms_numbered}
use Rattle.session_inference.specs.declared.assumption.Assumption.{Assumption}
use Rattle.session_inference.specs.declared.error.InferenceError.{InferenceError}
use Rattle.session_inference.specs.declared.error.InferenceError.TheVariants as error
use Rattle.session_inference.specs.declared.open_snapshot.OpenSnapshot.{OpenSnapshot}
use Rattle.session_inference.specs.declared.term_id.TermId.{TermId}
use Rattle.session_inference.proofs.Assumed.{terms-found}
use Rattle.session_inference.proofs.Restored.{can-as, grown-same-context}

-- ---- terms
module _ (es fs : List Entry) (n m : Sort → ℕ) (k : Keeps es fs) (le : NoFewer n m) where
  term-grown : (a : GenericArgKind) → IsTermOver es n a → IsTermOver fs m a
  term-grown a h =
      (arg-held-later es fs k a h.0, subst (λ (t : Trees). AreKnown m t × HasNoCanonical t) (sym (arg-trees-later es fs k a h.0)) (known-more n m le (arg_trees es a) h.1.0, h.1.1))

  pub terms-grown : (ts : List GenericArgKind) → AreTermsOver es n ts → AreTermsOver fs m ts
  terms-grown [] h = tt
  terms-grown (a ∷ ts) h = (term-grown a h.0, terms-grown ts h.1)

pub terms-added : (es : List Entry) (n : Sort → ℕ) (ts : List GenericArgKind) (a : GenericArgKind) → AreTermsOver es n ts → IsTermOver es n a → AreTermsOver es n (ts ++ a ∷ [])
terms-added es n [] a h x = (x, tt)
terms-added es n (t ∷ ts) a h x = (h.0, terms-added es n ts a h.1 x)

pub term-there : (es : List Entry) (n : Sort → ℕ) (ts : List GenericArgKind) (i : ℕ) (a : GenericArgKind) → AreTermsOver es n ts → slice_get ts i ≡ Some a → IsTermOver es n a
term-there es n [] i a h e = absurd cc
term-there es n (t ∷ ts) zero a h e = let same : t ≡ a = cc in subst (IsTermOver es n) same h.0
term-there es n (t ∷ ts) (suc i) a h e = term-there es n ts i a h.1 e

-- ---- parts of lists
pub take-over : {A : Type 0} (k : ℕ) (xs ys : List A) → k ≤ length xs → take k (xs ++ ys) ≡ take k xs
take-over zero xs ys le = refl
take-over (suc k) [] ys le = absurd (omega (arith, le))
take-over (suc k) (x ∷ xs) ys le = ap (λ zs. x ∷ zs) (take-over k xs ys (omega (arith, le)))

take-within : {A : Type 0} (j k : ℕ) (xs : List A) → j ≤ k → take j (take k xs) ≡ take j xs
take-within zero k xs le = refl
take-within (suc j) zero xs le = absurd (omega (arith, le))
take-within (suc j) (suc k) [] le = refl
take-within (suc j) (suc k) (x ∷ xs) le = ap (λ zs. x ∷ zs) (take-within j k xs (omega (arith, le)))

take-count : {A : Type 0} (k : ℕ) (xs : List A) → k ≤ length xs → length (take k xs) ≡ k
take-count zero xs le = refl
take-count (suc k) [] le = absurd (omega (arith, le))
take-count (suc k) (x ∷ xs) le = ap suc (take-count k xs (omega (arith, le)))

take-all : {A : Type 0} (xs : List A) → take (length xs) xs ≡ xs
take-all [] = refl
take-all (x ∷ xs) = ap (λ zs. x ∷ zs) (take-all xs)

longer : {A : Type 0} (xs ys : List A) → length xs ≤ length (xs ++ ys)
longer [] ys = omega arith
longer (x ∷ xs) ys = let h = longer xs ys in omega (arith, h)

-- ---- snapshots while the session goes on and terms are added
module _ (s t : Subject) (ts more : List GenericArgKind) (stays : StaysOn s t) (rests : LetsRest s t) where
  taken-later : (m : OpenSnapshot) (b : Infer) → IsOpenSnapshot s ts m b → IsOpenSnapshot t (ts ++ more) m b
  taken-later m b h = record {
    snapshot = h.snapshot;
    can = rests.can b h.can;
    few = let p = longer ts more in let q = h.few in omega (arith, p, q);
    terms =
        subst (AreTermsOver t.terms (variables_of b.table)) (sym (take-over m.terms ts more h.few))
        (terms-grown s.terms t.terms (variables_of b.table) (variables_of b.table) stays.terms (λ k. omega arith) (take m.terms ts) h.terms);
  }

  after-later : (e : Infer) (n : ℕ) (ms : List OpenSnapshot) (i j : Infer) → HasGrownFrom i j → AreTakenAfter s ts e n ms i → AreTakenAfter t (ts ++ more) e n ms j
  after-later e n [] i j g h = further e i j h g
  after-later e n (m ∷ ms) i j g h = (h.0, h.1, h.2, taken-later m h.0 h.3, after-later h.0 m.terms ms i j g h.4)

  pub snapshots-later : (ms : List OpenSnapshot) (i j : Infer) → HasGrownFrom i j → AreTaken s ts ms i → AreTaken t (ts ++ more) ms j
  snapshots-later [] i j g h = tt
  snapshots-later (m ∷ ms) i j g h = (h.0, taken-later m h.0 h.1, after-later h.0 m.terms ms i j g h.2)

-- ---- one more snapshot
module _ (s : Subject) (ts : List GenericArgKind) where
  after-opened : (e : Infer) (n : ℕ) (ms : List OpenSnapshot) (m : OpenSnapshot) (i : Infer) → n ≤ m.terms → m.terms ≡ length ts → IsOpenSnapshot s ts m i → AreTakenAfter s ts e n ms i
      → AreTakenAfter s ts e n (ms ++ m ∷ []) i
  after-opened e n [] m i le all x h = (i, h, le, x, itself i)
  after-opened e n (o ∷ ms) m i le all x h =
      (h.0, h.1, h.2, h.3, after-opened h.0 o.terms ms m i (let q = h.3.few in omega (arith, q, all)) all x h.4)

  pub snapshot-opened : (ms : List OpenSnapshot) (m : OpenSnapshot) (i : Infer) → m.terms ≡ length ts → IsOpenSnapshot s ts m i → AreTaken s ts ms i → AreTaken s ts (ms ++ m ∷ []) i
  snapshot-opened [] m i all x h = (i, x, itself i)
  snapshot-opened (o ∷ ms) m i all x h = (h.0, h.1, after-opened h.0 o.terms ms m i (let q = h.1.few in omega (arith, q, all)) all x h.2)

  -- ---- the last one ends
  after-ended : (e : Infer) (n : ℕ) (ms : List OpenSnapshot) (m : OpenSnapshot) (i : Infer) → AreTakenAfter s ts e n (ms ++ m ∷ []) i → AreTakenAfter s ts e n ms i
  after-ended e n [] m i h = further e h.0 i h.1 h.4
  after-ended e n (o ∷ ms) m i h = (h.0, h.1, h.2, h.3, after-ended h.0 o.terms ms m i h.4)

  pub snapshot-ended : (ms : List OpenSnapshot) (m : OpenSnapshot) (i : Infer) → AreTaken s ts (ms ++ m ∷ []) i → AreTaken s ts ms i
  snapshot-ended [] m i h = tt
  snapshot-ended (o ∷ ms) m i h = (h.0, h.1, after-ended h.0 o.terms ms m i h.2)

  -- ---- the context is as it was there
  fewer-terms : (k : ℕ) → k ≤ length ts → (m : OpenSnapshot) (b : Infer) → m.terms ≤ k → IsOpenSnapshot s ts m b → IsOpenSnapshot s (take k ts) m b
  fewer-terms k le m b within h = record {
    snapshot = h.snapshot;
    can = h.can;
    few = let e = take-count k ts le in omega (arith, within, e);
    terms = subst (AreTermsOver s.terms (variables_of b.table)) (sym (take-within m.terms k ts within)) h.terms;
  }

  -- the last snapshot, and those before it
  pub record Before (ms : List OpenSnapshot) (m : OpenSnapshot) (i : Infer) : Type 0 where
    pub context : Infer
    pub taken : IsOpenSnapshot s ts m context
    pub grown : HasGrownFrom context i
    pub earlier : AreTaken s (take m.terms ts) ms context

  record BeforeAfter (e : Infer) (n : ℕ) (ms : List OpenSnapshot) (m : OpenSnapshot) (i : Infer) : Type 0 where
    context : Infer
    taken : IsOpenSnapshot s ts m context
    grown : HasGrownFrom context i
    more : n ≤ m.terms
    earlier : AreTakenAfter s (take m.terms ts) e n ms context

  after-last : (e : Infer) (n : ℕ) (ms : List OpenSnapshot) (m : OpenSnapshot) (i : Infer) → AreTakenAfter s ts e n (ms ++ m ∷ []) i → BeforeAfter e n ms m i
  after-last e n [] m i h = record { context = h.0; taken = h.3; grown = h.4; more = h.2; earlier = h.1 }
  after-last e n (o ∷ ms) m i h =
      let r = after-last h.0 o.terms ms m i h.4 in
      record {
        context = r.context;
        taken = r.taken;
        grown = r.grown;
        more = let p = h.2 in let q = r.more in omega (arith, p, q);
        earlier = (h.0, h.1, h.2, fewer-terms m.terms r.taken.few o h.0 r.more h.3, r.earlier);
      }

  pub last-snapshot : (ms : List OpenSnapshot) (m : OpenSnapshot) (i : Infer) → AreTaken s ts (ms ++ m ∷ []) i → Before ms m i
  last-snapshot [] m i h = record { context = h.0; taken = h.1; grown = h.2; earlier = tt }
  last-snapshot (o ∷ ms) m i h =
      let r = after-last h.0 o.terms ms m i h.2 in
      record { context = r.context; taken = r.taken; grown = r.grown; earlier = (h.0, fewer-terms m.terms r.taken.few o h.0 r.more h.1, r.earlier) }

-- ---- between two calls
-- a call of the context, after which further terms have numbers
pub inferring-on : (s t : Subject) (i j : Infer) (ts more : List GenericArgKind) (ms : List OpenSnapshot) → IsInferring s i ts ms → LeavesInferring s i t j
    → AreTermsOver t.terms (variables_of j.table) more → IsInferring t j (ts ++ more) ms
inferring-on s t i j ts more ms h l x = record {
  can = l.can;
  terms = all-over ts (terms-grown s.terms t.terms (variables_of i.table) (variables_of j.table) l.stays.terms (counts-kept i.table j.table l.grows.table) ts h.terms);
  snapshots = snapshots-later s t ts more l.stays l.rests ms i j l.grows h.snapshots;
}
  where
    all-over : (us : List GenericArgKind) → AreTermsOver t.terms (variables_of j.table) us → AreTermsOver t.terms (variables_of j.table) (us ++ more)
    all-over [] y = x
    all-over (a ∷ us) y = (y.0, all-over us y.1)

-- after which none has
pub inferring-same : (s t : Subject) (i j : Infer) (ts : List GenericArgKind) (ms : List OpenSnapshot) → IsInferring s i ts ms → LeavesInferring s i t j → IsInferring t j ts ms
inferring-same s t i j ts ms h l = subst (λ us. IsInferring t j us ms) (append-none ts) (inferring-on s t i j ts [] ms h l tt)

-- a snapshot is opened
pub inferring-opened : (s : Subject) (i : Infer) (ts : List GenericArgKind) (ms : List OpenSnapshot) (m : OpenSnapshot) → IsInferring s i ts ms → IsSnapshotOf i m.context → m.terms ≡ length ts
    → IsInferring s i ts (ms ++ m ∷ [])
inferring-opened s i ts ms m h snapshot all = record {
  can = h.can;
  terms = h.terms;
  snapshots =
      snapshot-opened s ts ms m i all
      (record {
        snapshot = snapshot;
        can = h.can;
        few = omega (arith, all);
        terms = subst (λ (k : ℕ). AreTermsOver s.terms (variables_of i.table) (take k ts)) (sym all) (subst (AreTermsOver s.terms (variables_of i.table)) (sym (take-all ts)) h.terms);
      })
      h.snapshots;
}

-- the last one is ended
pub inferring-ended : (s : Subject) (i : Infer) (ts : List GenericArgKind) (ms : List OpenSnapshot) (m : OpenSnapshot) → IsInferring s i ts (ms ++ m ∷ []) → IsInferring s i ts ms
inferring-ended s i ts ms m h = record { can = h.can; terms = h.terms; snapshots = snapshot-ended s ts ms m i h.snapshots }

-- the context is as it was at the last one
pub inferring-before : (s : Subject) (i j : Infer) (ts : List GenericArgKind) (ms : List OpenSnapshot) (m : OpenSnapshot) → IsInferring s i ts (ms ++ m ∷ [])
    → ((b : Infer) → IsSnapshotOf b m.context → HasGrownFrom b i → IsAsBefore b j) → IsInferring s j (take m.terms ts) ms
inferring-before s i j ts ms m h restored =
    let x = last-snapshot s ts ms m i h.snapshots in
    let b = x.context in
    let same = restored b x.taken.snapshot x.grown in
    record {
      can = can-as b j same s x.taken.can;
      terms = subst (λ (t : Table). AreTermsOver s.terms (variables_of t) (take m.terms ts)) (sym same.table) x.taken.terms;
      snapshots = before-on b (take m.terms ts) ms (grown-same-context b j same) x.earlier;
    }
  where
    after-on : (b : Infer) (us : List GenericArgKind) (e : Infer) (n : ℕ) (ks : List OpenSnapshot) → HasGrownFrom b j → AreTakenAfter s us e n ks b → AreTakenAfter s us e n ks j
    after-on b us e n [] g y = further e b j y g
    after-on b us e n (k ∷ ks) g y = (y.0, y.1, y.2, y.3, after-on b us y.0 k.terms ks g y.4)

    before-on : (b : Infer) (us : List GenericArgKind) (ks : List OpenSnapshot) → HasGrownFrom b j → AreTaken s us ks b → AreTaken s us ks j
    before-on b us [] g y = tt
    before-on b us (k ∷ ks) g y = (y.0, y.1, after-on b us y.0 k.terms ks g y.2)

-- ---- a term that was made has a number
pub inferring-numbered : (s t : Subject) (i j : Infer) (ts us : List GenericArgKind) (ms : List OpenSnapshot) (m : Result GenericArgKind Fault) (r : Result TermId Fault) → IsInferring s i ts ms
    → LeavesInferring s i t j → IfOk m (IsTermOver t.terms (variables_of j.table)) → IfOk r (λ id. (a : GenericArgKind) × (m ≡ Ok a) × (us ≡ ts ++ a ∷ [])) → OnErr r (us ≡ ts) → IsInferring t j us ms
inferring-numbered s t i j ts us ms m (Ok id) h l x added refused =
    let over = subst (λ z. IfOk z (IsTermOver t.terms (variables_of j.table))) added.1 x in
    subst (λ zs. IsInferring t j zs ms) (sym added.2) (inferring-on s t i j ts (added.0 ∷ []) ms h l (over, tt))
inferring-numbered s t i j ts us ms m (Err f) h l x added refused = subst (λ zs. IsInferring t j zs ms) (sym refused) (inferring-same s t i j ts ms h l)

pub new-term : (s : Subject) (i : Infer) (ts : List GenericArgKind) (ms : List OpenSnapshot) (qs : List Assumption) (w : Inference) (t : Trees) (m : Result GenericArgKind Fault) (r : Result TermId Fault)
    → IfOk r (λ id. id.index ≡ length ts) → IfOk r (λ id. (a : GenericArgKind) × (m ≡ Ok a) × (w.terms ≡ ts ++ a ∷ [])) → IfOk m (λ a. arg_trees w.subject.terms a ≡ t)
    → IfOk r (HasNewTerm (record { subject = s; context = i; terms = ts; snapshots = ms; assumptions = qs }) w t)
new-term s i ts ms qs w t m (Ok id) n added x = record { number = n; term = added.0; added = added.2; is = subst (λ z. IfOk z (λ a. arg_trees w.subject.terms a ≡ t)) added.1 x }
new-term s i ts ms qs w t m (Err f) n added x = tt

pub on-numbered : (m : Result GenericArgKind Fault) (r : Result TermId Fault) (ts us : List GenericArgKind) (P : Type 0) → IfOk r (λ id. (a : GenericArgKind) × (m ≡ Ok a) × (us ≡ ts ++ a ∷ [])) → OnOk m P → OnOk r P
on-numbered m (Ok id) ts us P added p = subst (λ z. OnOk z P) added.1 p
on-numbered m (Err f) ts us P added p = tt

pub number-full : (s : Subject) (m : Result GenericArgKind Fault) (r : Result TermId Fault) → IfErr r (λ e. (e ≡ Memory) ⊎ (m ≡ Err e)) → IfErr m (SessionFullAtLimit s) → IfErr r (SessionFullAtLimit s)
number-full s m (Ok id) e h = tt
number-full s m (Err f) (inl e) h = λ q. absurd cc
number-full s m (Err f) (inr e) h = subst (λ z. IfErr z (SessionFullAtLimit s)) e h

pub given-new : (v w : Inference) (t : Trees) (m : Result TermId Fault) (r : Result TermId InferenceError) → IfOk r (λ y. m ≡ Ok y) → IfOk m (HasNewTerm v w t) → IfOk r (HasNewTerm v w t)
given-new v w t m (Ok x) h p = subst (λ z. IfOk z (HasNewTerm v w t)) h p
given-new v w t m (Err e) h p = tt

-- ---- a term that was made if a shape takes its parts has a number
pub inferring-there : (s t : Subject) (i j : Infer) (ts us : List GenericArgKind) (ms : List OpenSnapshot) (m : Result (Option GenericArgKind) Fault) (r : Result TermId InferenceError) → IsInferring s i ts ms
    → LeavesInferring s i t j → IfOk m (λ o. IfSome o (IsTermOver t.terms (variables_of j.table))) → IfOk r (λ id. (a : GenericArgKind) × (m ≡ Ok (Some a)) × (us ≡ ts ++ a ∷ [])) → OnErr r (us ≡ ts)
    → IsInferring t j us ms
inferring-there s t i j ts us ms m (Ok id) h l x added refused =
    let over = subst (λ z. IfOk z (λ o. IfSome o (IsTermOver t.terms (variables_of j.table)))) added.1 x in
    subst (λ zs. IsInferring t j zs ms) (sym added.2) (inferring-on s t i j ts (added.0 ∷ []) ms h l (over, tt))
inferring-there s t i j ts us ms m (Err f) h l x added refused = subst (λ zs. IsInferring t j zs ms) (sym refused) (inferring-same s t i j ts ms h l)

pub new-term-there : (s : Subject) (i : Infer) (ts : List GenericArgKind) (ms : List OpenSnapshot) (qs : List Assumption) (w : Inference) (t : Trees) (m : Result (Option GenericArgKind) Fault) (r : Result TermId InferenceError)
    → IfOk r (λ id. id.index ≡ length ts) → IfOk r (λ id. (a : GenericArgKind) × (m ≡ Ok (Some a)) × (w.terms ≡ ts ++ a ∷ [])) → IfOk m (λ o. IfSome o (λ a. arg_trees w.subject.terms a ≡ t))
    → IfOk r (HasNewTerm (record { subject = s; context = i; terms = ts; snapshots = ms; assumptions = qs }) w t)
new-term-there s i ts ms qs w t m (Ok id) n added x = record {
  number = n;
  term = added.0;
  added = added.2;
  is = subst (λ z. IfOk z (λ o. IfSome o (λ a. arg_trees w.subject.terms a ≡ t))) added.1 x;
}
new-term-there s i ts ms qs w t m (Err f) n added x = tt

pub full-there : (s : Subject) (m : Result (Option GenericArgKind) Fault) (r : Result TermId InferenceError) → ((f : Fault) → r ≡ Err (error.Fault f) → (f ≡ Memory) ⊎ (m ≡ Err f)) → IfErr m (SessionFullAtLimit s)
    → IfErr r (λ e. e ≡ error.Fault Full → IsAtLimit s)
full-there s m (Ok id) e h = tt
full-there s m (Err f) e h = λ q. by (e Full (ap Err q))
  where
    by : (Full ≡ Memory) ⊎ (m ≡ Err Full) → IsAtLimit s
    by (inl x) = absurd cc
    by (inr x) = subst (λ z. IfErr z (SessionFullAtLimit s)) x h refl

-- ---- terms by their numbers
pub all-there : (es : List Entry) (n : Sort → ℕ) (ts : List GenericArgKind) (ids : List TermId) (xs : List GenericArgKind) → AreTermsOver es n ts → map (λ (id : TermId). slice_get ts id.index) ids ≡ map Some xs
    → AreTermsOver es n xs
all-there es n ts [] [] h e = tt
all-there es n ts [] (x ∷ xs) h e = absurd cc
all-there es n ts (id ∷ ids) [] h e = absurd cc
all-there es n ts (id ∷ ids) (x ∷ xs) h e = (term-there es n ts id.index x h (first-same _ _ _ _ e), all-there es n ts ids xs h (rest-same _ _ _ _ e))

pub terms-are : (v : Inference) (ids : List TermId) (xs : List GenericArgKind) → map (λ (id : TermId). slice_get v.terms id.index) ids ≡ map Some xs → terms_numbered v ids ≡ args_trees v.subject.terms xs
terms-are v ids xs e = terms-found v.subject.terms v.terms ids xs e

-- ---- snapshots that calls open and end
pub inferring-taken : {T E : Type 0} (s : Subject) (i : Infer) (ts : List GenericArgKind) (ms ns : List OpenSnapshot) (m : OpenSnapshot) (r : Result T E) → IsInferring s i ts ms → IsSnapshotOf i m.context
    → m.terms ≡ length ts → OnOk r (ns ≡ ms ++ m ∷ []) → OnErr r (ns ≡ ms) → IsInferring s i ts ns
inferring-taken s i ts ms ns m (Ok x) h snapshot all added refused = subst (IsInferring s i ts) (sym added) (inferring-opened s i ts ms m h snapshot all)
inferring-taken s i ts ms ns m (Err e) h snapshot all added refused = subst (IsInferring s i ts) (sym refused) h

pub taken-there : {T E : Type 0} (i : Infer) (ts : List GenericArgKind) (ms ns : List OpenSnapshot) (qs : List Assumption) (m : OpenSnapshot) (r : Result T E) → IsSnapshotOf i m.context → m.terms ≡ length ts
    → m.assumptions ≡ length qs → OnOk r (ns ≡ ms ++ m ∷ []) → IfOk r (λ _. (o : OpenSnapshot) × (ns ≡ ms ++ o ∷ []) × IsSnapshotOf i o.context × (o.terms ≡ length ts) × (o.assumptions ≡ length qs))
taken-there i ts ms ns qs m (Ok x) snapshot all assumed added = (m, added, snapshot, all, assumed)
taken-there i ts ms ns qs m (Err e) snapshot all assumed added = tt

pub inferring-popped : (s : Subject) (i : Infer) (ts : List GenericArgKind) (ms ns : List OpenSnapshot) (o : Option OpenSnapshot) → ms ≡ ns ++ option_to_list o → IsInferring s i ts ms → IsInferring s i ts ns
inferring-popped s i ts ms ns None e h = subst (IsInferring s i ts) (e ∙ append-none ns) h
inferring-popped s i ts ms ns (Some m) e h = inferring-ended s i ts ns m (subst (IsInferring s i ts) e h)

pub popped-some : (ms ns : List OpenSnapshot) (o : Option OpenSnapshot) → ms ≡ ns ++ option_to_list o → is_some o ≡ true → (m : OpenSnapshot) × (ms ≡ ns ++ m ∷ [])
popped-some ms ns (Some m) e h = (m, e)
popped-some ms ns None e h = absurd cc

pub popped-none : (ms ns : List OpenSnapshot) (o : Option OpenSnapshot) → ms ≡ ns ++ option_to_list o → is_some o ≡ false → ms ≡ [] → (ms ≡ []) × (ns ≡ [])
popped-none ms ns None e h none = (none, sym (e ∙ append-none ns) ∙ none)
popped-none ms ns (Some m) e h none = absurd cc

-- ---- a call that fails
-- after one that fails the context is faithful to what it was faithful to
pub still-after : {T E : Type 0} (r : Result T E) (s t : Subject) (i j : Infer) → CanInferIn s i → LetsRest s t → OnErr r (j ≡ i) → OnErr r (IsAskedFurtherIn [] s i t j)
still-after (Ok x) s t i j can rests h = tt
still-after (Err e) s t i j can rests h = subst (λ (z : Infer). IsAskedFurtherIn [] s i t z) (sym h) (rests.faithful i can)

-- fewer variables are own
module _ (own : OwnVariables) (k : Sort) (v : ℕ) where
  more-agrees : (s r : Assignment) → AgreeOnOwn (with_own_variable own k v) s r → AgreeOnOwn own s r
  more-agrees s r h j w e = h j w (ap (λ b. is_same_variable j w k v || b) e ∙ or-true (is_same_variable j w k v))
    where
      or-true : (b : Bool) → b || true ≡ true
      or-true true = refl
      or-true false = refl

  fewer-faithful : (asked : List Demand) (c : SolverCx Solver) (i : Infer) → IsFaithfulTo solver_by_view (with_own_variable own k v) asked c i → IsFaithfulTo solver_by_view own asked c i
  fewer-faithful asked c i f = record {
    own_known = λ j w e. f.own_known j w (ap (λ b. is_same_variable j w k v || b) e ∙ or-true (is_same_variable j w k v));
    asked_known = f.asked_known;
    registered = f.registered;
    covers =
        λ s h.
        let z = f.covers s (record { sorted = h.sorted; meets = λ r sorted agrees. h.meets r sorted (more-agrees s r agrees) }) in
        (z.0, more-agrees s z.0 z.1, z.2);
    equations = f.equations;
    done = f.done;
  }
    where
      or-true : (b : Bool) → b || true ≡ true
      or-true true = refl
      or-true false = refl

-- a variable more loses no solution
pub still-with : {T E : Type 0} (r : Result T E) (k : Sort) (v : ℕ) (s t : Subject) (i j : Infer) → CanInferIn s i → LetsRest s t → OnOk r (HasOneMoreIn k v s i t j) → OnErr r (j ≡ i) → IsAskedFurtherIn [] s i t j
still-with (Ok x) k v s t i j can rests h e = λ own asked f c of. fewer-faithful own k v asked c j (h own asked f c of)
still-with (Err x) k v s t i j can rests h e = subst (λ (z : Infer). IsAskedFurtherIn [] s i t z) (sym e) (rests.faithful i can)

-- ---- a call that does nothing
pub still-itself : (v : Inference) → AsksFurther [] v v
still-itself v = λ own asked f. f

pub goes-on-itself : (v : Inference) → InfersOn v v
goes-on-itself v = record { stays = record { declarations = refl; of_crate = refl; depth = refl; handles = refl; terms = λ i e h. h }; grows = itself v.context; snapshots = refl; assumptions = refl }

pub leaves-itself : (s : Subject) (i : Infer) → CanInferIn s i → LeavesInferring s i s i
leaves-itself s i can = record {
  can = can;
  stays = record { declarations = refl; of_crate = refl; depth = refl; handles = refl; terms = λ j e h. h };
  grows = itself i;
  rests = record { can = λ j h. h; faithful = λ j h own asked f. f };
}
