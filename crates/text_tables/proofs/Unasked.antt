-- The tables stay in agreement with what they declare where the last question is taken out again.
use Rattle.std.proofs.Common.{◌≡◌, ℕ, zero, suc, ◌-◌, ◌<◌, List, [], ◌∷◌, ◌++◌, length, take, Some, sym, ap, ◌∙◌, subst, arith, length-append, Vec, Global}
use Rattle.std.specs.Prelude.{map, slice_get}
use Rattle.std.proofs.Math.Seq.{take-length, take-append_seam}
use Rattle.std.proofs.lemmas.List.{length-map, take-map}
use Rattle.text_language.specs.Promised.Declarations.{Question}
use Rattle.text_tables.specs.Made.{ReferencesMade}
use Rattle.text_tables.specs.Numbered.{EachNumbered}
use Rattle.text_tables.specs.Tables.{IsConsistent, declared}
use Rattle.text_tables.specs.Views.{question_of}
use Rattle.text_tables.specs.declared.declared.Asked.{Asked}
use Rattle.text_tables.specs.declared.declared.QuestionEntry.{QuestionEntry}
use Rattle.text_tables.specs.declared.tables.Tables.{Tables}

-- ---- what holds of each holds of the first ones
slice_get-taken : {A : Type 0} (n : ℕ) (xs : List A) (k : ℕ) (y : A) → slice_get (take n xs) k ≡ Some y → slice_get xs k ≡ Some y
slice_get-taken zero xs k y e = absurd cc
slice_get-taken (suc n) [] k y e = e
slice_get-taken (suc n) (x ∷ xs) zero y e = e
slice_get-taken (suc n) (x ∷ xs) (suc k) y e = slice_get-taken n xs k y e

Each-take : {A : Type 0} {P : ℕ → A → Type 0} (n : ℕ) (xs : List A) → EachNumbered P xs → EachNumbered P (take n xs)
Each-take n xs h = λ k y e. h k y (slice_get-taken n xs k y e)

-- ---- the tables with the first questions alone
pub taken : (t : Tables) (n : ℕ) (questions : Vec QuestionEntry Global) (asked : Vec Asked Global) → IsConsistent t → questions.items ≡ take n t.questions.items → asked.items ≡ take n t.asked.items
    → IsConsistent (record t { questions = questions; asked = asked })
taken t n questions asked i first also =
    let d = declared t in
    let fewer : map question_of questions.items ≡ take n d.questions = ap (map question_of) first ∙ sym (take-map question_of n t.questions.items) in
    record {
      numbered = record {
        has_core = i.numbered.has_core;
        crates = i.numbered.crates;
        structs = i.numbered.structs;
        traits = i.numbered.traits;
        impls = i.numbered.impls;
        questions = subst (EachNumbered (λ k (q : Question). q.asker < length d.crates)) (sym fewer) (Each-take n d.questions i.numbered.questions);
        sections = i.numbered.sections;
        later_impls = i.numbered.later_impls;
        checks = i.numbered.checks;
        has_section = i.numbered.has_section;
      };
      ids = i.ids;
      asked = also ∙ ap (take n) i.asked ∙ take-map (λ (x : QuestionEntry). x.asked_how) n t.questions.items ∙ sym (ap (map (λ (x : QuestionEntry). x.asked_how)) first);
      rows = i.rows;
      names = i.names;
      numbers = i.numbers;
      last_impls = i.last_impls;
      last_items = i.last_items;
      last_later = i.last_later;
      sections_rise = i.sections_rise;
      made = record {
        fields = i.made.fields;
        bounds = i.made.bounds;
        headers = i.made.headers;
        clauses = i.made.clauses;
        asked = subst (EachNumbered (λ k x. ReferencesMade (x.asked ∷ x.further.items))) (sym first) (Each-take n t.questions.items i.made.asked);
        given = subst (EachNumbered (λ k x. ReferencesMade x.clauses.items)) (sym first) (Each-take n t.questions.items i.made.given);
        later_headers = i.made.later_headers;
        later_clauses = i.made.later_clauses;
      };
    }

-- as many are asked as have entries
as-many : (t : Tables) → IsConsistent t → length t.asked.items ≡ length t.questions.items
as-many t i = ap length i.asked ∙ length-map t.questions.items (λ (x : QuestionEntry). x.asked_how)

-- the last one taken out of both
pub last-removed : (t : Tables) (questions : Vec QuestionEntry Global) (asked : Vec Asked Global) → IsConsistent t
    → questions.items ≡ take (length t.questions.items - 1) t.questions.items → asked.items ≡ take (length t.asked.items - 1) t.asked.items → IsConsistent (record t { questions = questions; asked = asked })
last-removed t questions asked i first also =
    taken t (length t.questions.items - 1) questions asked i first (also ∙ ap (λ m. take (m - 1) t.asked.items) (as-many t i))

-- what `Vec::pop` leaves
pub all-but-last : {A : Type 0} (v : Vec A Global) (zs : List A) → zs ≡ take (v.len - 1) v.items → zs ≡ take (length v.items - 1) v.items
all-but-last v zs e = e ∙ ap (λ n. take (n - 1) v.items) v.ok.0

-- none of either, where one that was asked is taken out again
pub popped : {A : Type 0} (xs ys zs : List A) (x : A) → ys ≡ xs ++ x ∷ [] → zs ≡ take (length ys - 1) ys → zs ≡ xs
popped xs ys zs x pushed rest =
    let n : length ys - 1 ≡ length xs = omega (arith, ap length pushed, length-append xs (x ∷ [])) in
    rest ∙ ap (λ m. take m ys) n ∙ ap (take (length xs)) pushed ∙ take-append_seam xs (x ∷ [])

pub refused : (t : Tables) (questions : Vec QuestionEntry Global) (asked : Vec Asked Global) → IsConsistent t → questions.items ≡ t.questions.items → asked.items ≡ t.asked.items
    → IsConsistent (record t { questions = questions; asked = asked })
refused t questions asked i same also =
    taken t (length t.questions.items) questions asked i (same ∙ sym (take-length t.questions.items))
    (also ∙ sym (ap (λ m. take m t.asked.items) (sym (as-many t i)) ∙ take-length t.asked.items))

-- ---- a workspace
