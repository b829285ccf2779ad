-- What a text gives is known from its first 67,108,865 bytes.
use Rattle.std.proofs.Common.{◌≡◌, ℕ, List, take, Result, subst, Option, Some, None, inl, inr, IfSome}
use Rattle.sessions.specs.TextLanguage.Promised.Declarations.{Declarations}
use Rattle.text_parser.specs.Prefixes.{FirstBytesDecide}
use Rattle.sessions.specs.TextLanguage.Promised.TextSays.{TextSays}
use Rattle.sessions.proofs.TextLanguage.SameTexts.{text-says, text-gives}
use Rattle.coherence.specs.Promised.Told.{IsToldText, BeginsToldText, TellsAll, TellsSome}
use Rattle.coherence.specs.declared.status.Status.{Status}

module _ (law : FirstBytesDecide) where
  said-of-all : (bytes : List ℕ) (r : Result Declarations (ℕ × ℕ)) → TextSays (take 67108865 bytes) r → TextSays bytes r
  said-of-all bytes r h = text-says bytes r ((law bytes r).0 (text-gives (take 67108865 bytes) r h))

  told-of-all : (limit : ℕ) (bytes : List ℕ) (s : Status) (out : List ℕ) → IsToldText limit (take 67108865 bytes) s out → IsToldText limit bytes s out
  told-of-all limit bytes s out (r, ls, says, told, status, text) = (r, ls, said-of-all bytes r says, told, status, text)

  beginning-of-all : (limit : ℕ) (bytes out : List ℕ) → BeginsToldText limit (take 67108865 bytes) out → BeginsToldText limit bytes out
  beginning-of-all limit bytes out (r, n, ls, says, told, text) = (r, n, ls, said-of-all bytes r says, told, text)

  -- what is known of the bytes that were read is known of all that a reader holds
  pub whole-of-all : (o : Option (List ℕ)) (limit : ℕ) (text : List ℕ) (s : Status) (a b : Option (List ℕ)) → IfSome o (λ bytes. text ≡ take 67108865 bytes) → TellsAll limit text s a b
      → IfSome o (λ bytes. TellsAll limit bytes s a b)
  whole-of-all None limit text s a b h w = tt
  whole-of-all (Some bytes) limit text s a b h w = (w.0, told-of-all limit bytes s w.0 (subst (λ (bs : List ℕ). IsToldText limit bs s w.0) h w.1), w.2)

  pub prefix-of-all : (o : Option (List ℕ)) (limit : ℕ) (text : List ℕ) (a b : Option (List ℕ)) → IfSome o (λ bytes. text ≡ take 67108865 bytes) → TellsSome limit text a b
      → IfSome o (λ bytes. TellsSome limit bytes a b)
  prefix-of-all None limit text a b h w = tt
  prefix-of-all (Some bytes) limit text a b h (inl kept) = inl kept
  prefix-of-all (Some bytes) limit text a b h (inr w) = inr (w.0, beginning-of-all limit bytes w.0 (subst (λ (bs : List ℕ). BeginsToldText limit bs w.0) h w.1), w.2)
