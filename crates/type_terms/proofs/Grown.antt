-- Interners that grow.
use Rattle.std.proofs.Common.{refl, ◌∙◌}
use Rattle.type_terms.specs.Terms.{Terms}
use Rattle.type_terms.specs.Growth.{Grew}

pub grew-none : {a : Terms} → Grew a a
grew-none = record { keeps = λ i e h. h; limit = refl }

pub grew-on : {a b c : Terms} → Grew a b → Grew b c → Grew a c
grew-on f g = record { keeps = λ i e h. g.keeps i e (f.keeps i e h); limit = g.limit ∙ f.limit }
