-- Two chunks whose places fit.
use Rattle.std.proofs.Common.{◌<◌, ◌^◌, [], ◌∷◌}
use Rattle.std.specs.List.{All}
use Rattle.std.proofs.lemmas.List.Elements.{All-nil, All-cons}
use Rattle.fd_footer.specs.declared.footer.Chunk.{Chunk}
use Rattle.fd_footer.specs.Footers.{IsPlaced}

pub both_placed : (a b : Chunk) → a.place < 2 ^ 63 → a.data_page < 2 ^ 63 → b.place < 2 ^ 63 → b.data_page < 2 ^ 63 → All IsPlaced (a ∷ b ∷ [])
both_placed a b p q r s =
    All-cons IsPlaced a (b ∷ []) (record { place = p; data_page = q }) (All-cons IsPlaced b [] (record { place = r; data_page = s }) (All-nil IsPlaced))
