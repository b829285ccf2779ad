use Rattle.std.proofs.Common.{◌≡◌, ◌-◌, true, not, is_ok, if◌then◌else◌, ◌∷◌, [], ◌++◌, subst, ap, ◌∙◌, arith}
use Rattle.std.proofs.lemmas.List.{map-append}
use Rattle.explain_diagnostics.specs.declared.diagnostic.SpanLabel.{SpanLabel}
use Rattle.std.specs.Vec.{with_item}
use Rattle.explain_diagnostics.specs.declared.diagnostic.Diagnostic.{Diagnostic}
use Rattle.explain_diagnostics.specs.declared.diagnostic.Subdiagnostic.{Subdiagnostic}
use Rattle.messages.specs.Told.{change_last, child_of, child_sentences, label_texts, marked_more, marks}
use Rattle.messages.specs.Written.{sentence_text}
use Rattle.messages.proofs.LastChild.{last-changed}
use Rattle.messages.proofs.telling.Telling.mark_last.Goals as goal

pub returns-in-Some-last_mut-clause-told : goal.returns-in-Some-last_mut-clause-told
returns-in-Some-last_mut-clause-told c = λ granted.
    let becomes = marked_more c.args.span c.args.is_primary (sentence_text c.args.label) in
    let children = c.sentence_text.new.self.told.children in
    let child = c.in-Some-last_mut.child.now in
    let changed : Subdiagnostic = record { level = child.level; message = child.message; spans = c.push.new.self } in
    let there = c.in-Some-last_mut.ensures.item.3 in
    let ok : is_ok c.push.result ≡ true = c.is_err-self.ensures.negation ∙ ap not granted in
    let mark : SpanLabel = record { span = c.args.span; is_primary = c.args.is_primary; label = c.in-Some.label } in
    let items : c.push.new.self.items ≡ child.spans.items ++ mark ∷ [] = c.push.ensures.items ∙ ap (λ b. if b then child.spans.items ++ mark ∷ [] else child.spans.items) ok in
    let one : child_of changed ≡ becomes (child_of child) =
    ap (λ xs. record (child_of child) { marked = marks xs; labelled = label_texts xs }) items
    ∙ ap (λ zs. record (child_of child) { marked = zs; labelled = label_texts (child.spans.items ++ mark ∷ []) }) (map-append _ child.spans.items (mark ∷ []))
    ∙ ap (λ zs. record (becomes (child_of child)) { labelled = zs }) (map-append _ child.spans.items (mark ∷ []) ∙ ap (λ t. label_texts child.spans.items ++ t ∷ []) c.in-Some.ensures.text) in
    let all = last-changed child_of becomes children.items (children.len - 1) changed child (omega (arith, there.0, children.ok.0)) (λ d. subst (λ y. child_of changed ≡ becomes (child_of y)) (there.1 d) one) in
    let same = c.sentence_text.ensures.told in
    record {
      changed = all ∙ ap (λ (d : Diagnostic). change_last becomes (child_sentences d)) same;
      rest = ap (λ (d : Diagnostic). record d { children = with_item children (children.len - 1) changed }) same;
    }
