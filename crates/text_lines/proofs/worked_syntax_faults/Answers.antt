use Rattle.std.proofs.Common.{refl, arith, Err, []}
use Rattle.std.specs.Prelude.{codes, ◌∷◌, ◌++◌}
use Rattle.text_language.specs.Tokens.{tokens_of}
use Rattle.text_language.specs.Declarations.{nothing_declared}
use Rattle.text_language.specs.Text.{fits, fails, unwritten as no_line, other_byte}
use Rattle.text_lines.specs.TypeReading.{type_read}
use Rattle.text_lines.specs.Parts.{parts_between, name_at, param_at, params_at}
use Rattle.text_lines.specs.WrittenParts.{type_tokens_at, argument_at, binding_at, entry_at, entries_at, bound_tokens_at, clause_tokens_at, plain_tokens_at, header_tokens_at, bounds_tokens_at, further_tokens_at, where_tokens_at, types_at, given_at, trait_tokens_at, impl_tokens_at, prove_tokens_at, refute_tokens_at, written_at, written_in}
use Rattle.text_lines.proofs.OneWritten.{unspelled}
use Rattle.text_lines.proofs.worked_syntax_faults.Goals as goal

pub returns-clause-lines : goal.returns-clause-lines
unfolding tokens_of type_read parts_between name_at param_at params_at type_tokens_at argument_at binding_at entry_at entries_at bound_tokens_at clause_tokens_at plain_tokens_at header_tokens_at bounds_tokens_at further_tokens_at where_tokens_at types_at given_at trait_tokens_at impl_tokens_at prove_tokens_at refute_tokens_at written_at written_in
returns-clause-lines c = (
  (unspelled (tokens_of (codes "crate")) refl refl, (unspelled (tokens_of (codes "crate b uses")) refl refl, (unspelled (tokens_of (codes "struct")) refl refl, (unspelled (tokens_of (codes "impl Show for")) refl refl, (unspelled (tokens_of (codes "impl Show for &'static")) refl refl, (unspelled (tokens_of (codes "impl Show for fn(u8")) refl refl, (unspelled (tokens_of (codes "impl Show for dyn")) refl refl, (unspelled (tokens_of (codes "prove in base u8")) refl refl, (unspelled (tokens_of (codes "refute in base u8: Show,")) refl refl, (unspelled (tokens_of (codes "trait Show:")) refl refl, (unspelled (tokens_of (codes "impl Show for u8 where")) refl refl, tt))))))))))),
  (unspelled (tokens_of (codes "struct V()")) refl refl, (unspelled (tokens_of (codes "struct V<>")) refl refl, (unspelled (tokens_of (codes "impl Show for (u8)")) refl refl, (unspelled (tokens_of (codes "impl Show for [u8; ]")) refl refl, (unspelled (tokens_of (codes "impl Show for for<> fn()")) refl refl, tt))))),
  (unspelled (tokens_of (codes "struct V<T, 'a>")) refl refl, (unspelled (tokens_of (codes "struct V<const N, T>")) refl refl, (unspelled (tokens_of (codes "auto fundamental trait Show")) refl refl, (unspelled (tokens_of (codes "impl Show for mut &u8")) refl refl, tt)))),
  (unspelled (tokens_of (codes "refute in base u8: Show where u8: Show")) refl refl, (unspelled (tokens_of (codes "trait Show: 'a")) refl refl, (unspelled (tokens_of (codes "struct V(u8) -> u8")) refl refl, (unspelled (tokens_of (codes "impl Show for ?u8")) refl refl, (unspelled (tokens_of (codes "impl Show for &'1 u8")) refl refl, tt))))),
  (unspelled (tokens_of (codes "trait It {}")) refl refl, (unspelled (tokens_of (codes "trait It { type Item }")) refl refl, (unspelled (tokens_of (codes "trait It { type Item = u8; }")) refl refl, (unspelled (tokens_of (codes "impl It for u8 { type Item; }")) refl refl, (unspelled (tokens_of (codes "impl It for u8 { Item = u8; }")) refl refl, (unspelled (tokens_of (codes "impl It<Item = u8> for u8")) refl refl, (unspelled (tokens_of (codes "trait Show: It<Item = u8, u8>")) refl refl, (unspelled (tokens_of (codes "struct V { type Item; }")) refl refl, (unspelled (tokens_of (codes "prove in base u8: It<?x = u8>")) refl refl, tt))))))))),
)

pub returns-clause-texts : goal.returns-clause-texts
unfolding tokens_of type_read parts_between name_at param_at params_at type_tokens_at argument_at binding_at entry_at entries_at bound_tokens_at clause_tokens_at plain_tokens_at header_tokens_at bounds_tokens_at further_tokens_at where_tokens_at types_at given_at trait_tokens_at impl_tokens_at prove_tokens_at refute_tokens_at written_at written_in
returns-clause-texts c = (
  fits (Err (1, 2)) (omega arith) (fails nothing_declared 1 (codes "struct") [] 2 (no_line refl refl (unspelled (tokens_of (codes "struct")) refl refl))),
  fits (Err (1, 1)) (omega arith) (fails nothing_declared 1 (200 ∷ []) [] 1 (other_byte refl)),
  fits (Err (1, 1)) (omega arith) (fails nothing_declared 1 (codes "// " ++ 200 ∷ []) [] 1 (other_byte refl)),
  fits (Err (1, 1)) (omega arith) (fails nothing_declared 1 (codes "struct" ++ 200 ∷ []) [] 1 (other_byte refl)),
)
