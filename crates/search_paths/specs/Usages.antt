-- How often results were read.
use Rattle.std.specs.Prelude.{◌+◌, ◌-◌, ◌^◌, ℕ, min, unwrap_or, refl}
use Rattle.std.specs.Coded.{Coded, code_by, coded×, coded_ℕ}
use Rattle.std.specs.Ordering.{nat_cmp}
use Rattle.std.specs.FinMap as map
use Rattle.search_paths.specs.declared.path_kind.PathKind.{PathKind}
use Rattle.search_paths.specs.declared.path_kind.PathKind.TheVariants.{Inductive, Unknown, Coinductive, ForcedAmbiguity}
use Rattle.search_paths.specs.declared.head_usages.HeadUsages.{HeadUsages}

-- a sum of at most `u32::MAX`
abbrev pub sticking_sum : ℕ → ℕ → ℕ
sticking_sum a b = min (a + b) (2 ^ 32 - 1)

-- how often a result was read by paths of this kind
abbrev pub count_by : HeadUsages → PathKind → ℕ
count_by u Inductive = u.inductive
count_by u Unknown = u.unknown
count_by u Coinductive = u.coinductive
count_by u ForcedAmbiguity = u.forced_ambiguity

-- a result that was never read
abbrev pub no_usages : HeadUsages
no_usages = record { inductive = 0; unknown = 0; coinductive = 0; forced_ambiguity = 0 }

-- they are stored as the four numbers
abbrev pub usages_code : Coded HeadUsages
usages_code =
    code_by ((ℕ × ℕ) × (ℕ × ℕ)) (coded× (coded× coded_ℕ coded_ℕ) (coded× coded_ℕ coded_ℕ))
    (λ u. ((u.inductive, u.unknown), (u.coinductive, u.forced_ambiguity)))
    (λ p. record { inductive = p.0.0; unknown = p.0.1; coinductive = p.1.0; forced_ambiguity = p.1.1 }) (λ _. refl)

-- how often the result of this head was read by paths of this kind
abbrev pub usage_count : map.FinMap nat_cmp HeadUsages → ℕ → PathKind → ℕ
usage_count usages head kind = count_by (unwrap_or (map.get usages head) no_usages) kind
