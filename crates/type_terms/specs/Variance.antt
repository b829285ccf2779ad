-- Variances, one inside the other.
use Rattle.std.specs.Prelude.{◌≡◌}
use Rattle.type_terms.specs.declared.variance.Variance.{Variance}
use Rattle.type_terms.specs.declared.variance.Variance.TheVariants.{Covariant, Contravariant}

-- The two directions exchanged.
abbrev pub exchanged : Variance → Variance
exchanged Covariant = Contravariant
exchanged Contravariant = Covariant
exchanged v = v

-- The variance of an argument with variance v, in a type that has the first variance.
abbrev pub xform_of : Variance → Variance → Variance
xform_of Covariant v = v
xform_of Contravariant v = exchanged v
xform_of u v = u

-- The grouping does not matter for three types inside of each other.
abbrev pub IsAssociative : (Variance → Variance → Variance) → Type 0
IsAssociative f = (a b c : Variance) → f (f a b) c ≡ f a (f b c)

-- v changes nothing on either side.
abbrev pub IsNeutral : Variance → (Variance → Variance → Variance) → Type 0
IsNeutral v f = ((a : Variance) → f v a ≡ a) × ((a : Variance) → f a v ≡ a)
