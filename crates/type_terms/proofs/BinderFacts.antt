-- Binders of no lifetime.
use Rattle.std.proofs.Common.{◌≡◌, ℕ, ◌<◌, ◌≤◌, Some, None, ◌∙◌, ap, replicate}
use Rattle.std.specs.List.{slice_get}
use Rattle.std.proofs.lemmas.List.{get_or-replicate, length-replicate}
use Rattle.std.proofs.lemmas.Option.{slice_get-get_or, slice_get_past}

pub count-within : (n i d : ℕ) → i < n → slice_get (replicate n d) i ≡ Some d
count-within n i d l = slice_get-get_or (replicate n d) i d (rw (length-replicate n d) l) ∙ ap Some (get_or-replicate n i d d l)

pub count-past : (n i d : ℕ) → n ≤ i → slice_get (replicate n d) i ≡ None
count-past n i d l = slice_get_past (replicate n d) i (rw (length-replicate n d) l)
