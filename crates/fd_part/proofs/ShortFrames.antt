-- The frames of rows that are few bytes have lengths of four bytes.
use Rattle.std.proofs.Common.{◌≡◌, ℕ, ◌+◌, ◌<◌, ◌^◌, List, [], ◌∷◌, length, arith}
use Rattle.std.specs.Prelude.{All, sum_by}
use Rattle.std.proofs.lemmas.List.Sums.{sum_by-cons}
use Rattle.std.proofs.lemmas.List.Elements.{All-nil, All-cons}
use Rattle.fd_kinds.specs.declared.row.Row.{Row}
use Rattle.fd_kinds.specs.History.{IsSmall}
use Rattle.fd_kinds.specs.RowSize.{text_size, row_size}
use Rattle.fd_column.specs.Stacks.{AreShort}

short_frames : (frames : List (List ℕ)) → sum_by text_size frames < 2 ^ 32 → AreShort frames
short_frames [] h = All-nil (λ frame. length frame < 2 ^ 32)
short_frames (frame ∷ frames) h =
    let sum : sum_by text_size (frame ∷ frames) ≡ text_size frame + sum_by text_size frames = sum_by-cons text_size frame frames in
    All-cons (λ frame. length frame < 2 ^ 32) frame frames (omega (arith, sum, h)) (short_frames frames (omega (arith, sum, h)))

short_rows : (rows : List Row) → sum_by row_size rows < 2 ^ 32 → All (λ row. AreShort row.stack) rows
short_rows [] h = All-nil (λ row. AreShort row.stack)
short_rows (row ∷ rows) h =
    let sum : sum_by row_size (row ∷ rows) ≡ row_size row + sum_by row_size rows = sum_by-cons row_size row rows in
    All-cons (λ row. AreShort row.stack) row rows (short_frames row.stack (omega (arith, sum, h))) (short_rows rows (omega (arith, sum, h)))

pub short_batch : (rows : List Row) → IsSmall rows → All (λ row. AreShort row.stack) rows
short_batch rows small = short_rows rows (omega (arith, small))
