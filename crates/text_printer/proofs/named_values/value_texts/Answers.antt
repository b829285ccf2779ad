-- Each turn makes the text of the next listed value.
use Rattle.std.proofs.Common.{◌≡◌, ℕ, ◌+◌, ◌<◌, ◌≤◌, List, [], ◌∷◌, ◌++◌, length, map, drop, get_or, append-nil, append_assoc, sym, ap, ◌∙◌}
use Rattle.std.proofs.lemmas.List.{at_drop_more, at_drop_all, map-append}
use Rattle.text_printer.specs.Answers.{value_of}
use Rattle.text_printer.specs.Listed.{listed_of}
use Rattle.text_printer.specs.Valued.{printed_names, text_by}
use Rattle.text_printer.proofs.Listing.{list-held-at}
use Rattle.text_printer.proofs.named_values.value_texts.Goals as goal

-- one more text for the item at a place
one-more : {A B C D : Type 0} (v : C → D) (l : A → B) (f : B → D) (whole : List D) (ts us : List C) (t : C) (xs : List A) (i : ℕ) (x : A) → i < length xs → x ≡ get_or xs i x
    → v t ≡ f (l x) → us ≡ ts ++ t ∷ [] → whole ≡ map v ts ++ map f (map l (drop i xs)) → whole ≡ map v us ++ map f (map l (drop (i + 1) xs))
one-more v l f whole ts us t xs i x lt is e p h =
    let rest = map f (map l (drop (i + 1) xs)) in
    h ∙ at_drop_more (λ r. map v ts ++ map f (map l r)) xs i x lt ∙ ap (λ y. map v ts ++ (f (l y) ∷ rest)) (sym is) ∙ ap (λ y. map v ts ++ (y ∷ rest)) (sym e) ∙ sym (append_assoc (map v ts) (v t ∷ []) rest)
    ∙ ap (λ y. y ++ rest) (sym (map-append v ts (t ∷ []))) ∙ ap (λ y. map v y ++ rest) (sym p)

no-more : {A B C D : Type 0} (v : C → D) (l : A → B) (f : B → D) (whole : List D) (ts : List C) (xs : List A) (i : ℕ) → length xs ≤ i → whole ≡ map v ts ++ map f (map l (drop i xs)) → map v ts ≡ whole
no-more v l f whole ts xs i le h = sym (h ∙ at_drop_all (λ r. map v ts ++ map f (map l r)) xs i le ∙ append-nil (map v ts))

pub value_text-requires : goal.value_text-requires
value_text-requires c = list-held-at c.args.cx.now.entries c.args.listed.now c.loop-one.one-index c.one-item.result c.requires c.loop-one-test.true c.one-item.is

pub loop-one-preserved : goal.loop-one-preserved
loop-one-preserved c =
    record {
      texts =
          one-more value_of (listed_of c.args.cx.now.entries) (text_by (printed_names c.args.names.now)) _ c.loop-one.texts.items c.push.new.self.items c.in_ok-text.text c.args.listed.now c.loop-one.one-index c.one-item.result
          c.loop-one-test.true c.one-item.is c.in_ok-text.ensures c.in_ok-push.ensures.items c.loop-one.invariant.texts;
    }

pub returns : goal.returns
returns c = no-more value_of (listed_of c.args.cx.now.entries) (text_by (printed_names c.args.names.now)) _ c.loop-one.texts.items c.args.listed.now c.loop-one.one-index c.loop-one-test.false c.loop-one.invariant.texts
