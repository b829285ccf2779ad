use Rattle.std.proofs.Common.{refl, inl, inr, ◌∙◌}
use Rattle.test_handlers.proofs.rule_books_are_systems.Goals as goal

pub returns : goal.returns
returns c = λ book. record {
  instance = λ q v. refl;
  rule = λ g f ps r. r;
  kind = λ g v. refl;
  made = λ q v. refl;
  closed = λ g p u v w i j. elim i [ inl e ↦ (elim j [ inl f ↦ inl (f ∙ e) | inr n ↦ absurd n ]) | inr n ↦ absurd n ];
}
