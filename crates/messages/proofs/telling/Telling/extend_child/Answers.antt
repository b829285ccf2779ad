use Rattle.std.proofs.Common.{◌≡◌, ◌-◌, true, not, is_ok, if◌then◌else◌, ◌++◌, string_bytes, subst, sym, ap, ◌∙◌, arith}
use Rattle.std.specs.Vec.{with_item}
use Rattle.explain_diagnostics.specs.declared.diagnostic.Diagnostic.{Diagnostic}
use Rattle.explain_diagnostics.specs.declared.diagnostic.Subdiagnostic.{Subdiagnostic}
use Rattle.messages.specs.Told.{Child, change_last, child_of, child_sentences, saying_more}
use Rattle.messages.specs.Written.{sentence_text}
use Rattle.messages.proofs.LastChild.{last-changed}
use Rattle.messages.proofs.telling.Telling.extend_child.Goals as goal

pub returns-in-Some-last_mut-clause-told : goal.returns-in-Some-last_mut-clause-told
returns-in-Some-last_mut-clause-told c = λ granted.
    let becomes = saying_more (sentence_text c.args.more) in
    let children = c.sentence_text.new.self.told.children in
    let child = c.in-Some-last_mut.child.now in
    let changed : Subdiagnostic = record { level = child.level; message = c.push_str.new.self; spans = child.spans } in
    let there = c.in-Some-last_mut.ensures.item.3 in
    let ok : is_ok c.push_str.result ≡ true = c.is_err-self.ensures.negation ∙ ap not granted in
    let before = string_bytes child.message in
    let says : string_bytes c.push_str.new.self ≡ before ++ sentence_text c.args.more =
    c.push_str.ensures.bytes ∙ ap (λ b. if b then before ++ c.as_str.result.now else before) ok ∙ ap (λ t. before ++ t) (c.as_str.ensures.value ∙ c.in-Some.ensures.text) in
    let one : child_of changed ≡ becomes (child_of child) = ap (λ t. record (child_of child) { says = t }) says in
    let all = last-changed child_of becomes children.items (children.len - 1) changed child (omega (arith, there.0, children.ok.0)) (λ d. subst (λ y. child_of changed ≡ becomes (child_of y)) (there.1 d) one) in
    let same = c.sentence_text.ensures.told in
    record {
      changed = all ∙ ap (λ (d : Diagnostic). change_last becomes (child_sentences d)) same;
      rest = ap (λ (d : Diagnostic). record d { children = with_item children (children.len - 1) changed }) same;
    }
