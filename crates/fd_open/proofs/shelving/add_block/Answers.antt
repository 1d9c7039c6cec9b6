use Rattle.std.proofs.Common.{◌≡◌, ◌+◌, ◌<◌, List, length, ap, sym, ◌∙◌, subst, arith}
use Rattle.std.specs.List.{All}
use Rattle.std.proofs.lemmas.List.{length-map}
use Rattle.fd_kinds.specs.declared.batch.NumberedBatch.{NumberedBatch}
use Rattle.fd_kinds.specs.declared.limits.TheConstants.{BLOCK_BYTES_LIMIT}
use Rattle.fd_shelf.specs.Books.{Book, Shelved, IsUsed}
use Rattle.fd_wal.specs.Frames.{batches_size, IsBatch}
use Rattle.fd_wal.specs.Runs.{rows_in, AreNumberedFrom}
use Rattle.fd_open.proofs.LogLimits.{found_fits, found_some}
use Rattle.fd_open.proofs.Shelves.{used_parts}
use Rattle.fd_open.proofs.shelving.add_block.Goals as goal

pub add_batches-requires-clause-numbered : goal.add_batches-requires-clause-numbered
add_batches-requires-clause-numbered c =
    subst (λ (l : List NumberedBatch). AreNumberedFrom (c.args.shelf.now.mark + 1) l) (sym c.as_slice.ensures) (found_fits c.args.shelf.now.mark c.args.found.now c.requires.found c.requires.below).numbered

pub add_batches-requires-clause-below : goal.add_batches-requires-clause-below
add_batches-requires-clause-below c =
    let below = (found_fits c.args.shelf.now.mark c.args.found.now c.requires.found c.requires.below).below in
    let same = ap length c.as_slice.ensures in
    omega (arith, below, same)

pub add_batches-requires-clause-each : goal.add_batches-requires-clause-each
add_batches-requires-clause-each c =
    subst (λ (l : List NumberedBatch). All IsBatch (rows_in l)) (sym c.as_slice.ensures) (found_fits c.args.shelf.now.mark c.args.found.now c.requires.found c.requires.below).each

pub add_batches-requires-clause-light : goal.add_batches-requires-clause-light
add_batches-requires-clause-light c =
    subst (λ (l : List NumberedBatch). batches_size (rows_in l) < BLOCK_BYTES_LIMIT) (sym c.as_slice.ensures) (found_fits c.args.shelf.now.mark c.args.found.now c.requires.found c.requires.below).light

pub rotate-requires-clause-used : goal.rotate-requires-clause-used
rotate-requires-clause-used c κs =
    let some = found_some c.args.shelf.now.mark c.args.found.now c.requires.found c.if-found.true in
    let batches : List NumberedBatch = c.as_slice.result.now in
    let count : length (rows_in batches) ≡ length batches = length-map batches _ in
    let same = ap length c.as_slice.ensures in
    let active = ap (λ (b : Book). b.active) (c.reserve.ensures.book ∙ c.in_ok-add_batches.ensures.added.book) in
    subst IsUsed (sym active) (used_parts (c.args.shelf.now.mark + 1) (rows_in batches) (omega (arith, some, count, same)))

pub returns-then-found-clause-next : goal.returns-then-found-clause-next
returns-then-found-clause-next c =
    let some = found_some c.args.shelf.now.mark c.args.found.now c.requires.found c.if-found.true in
    let batches : List NumberedBatch = c.as_slice.result.now in
    let count : length (rows_in batches) ≡ length batches = length-map batches _ in
    let same = ap length c.as_slice.ensures in
    let added = c.in_ok-add_batches.ensures.added.mark in
    let mark : c.rotate.new.self.mark ≡ c.add_batches.new.shelf.mark = ap (λ (s : Shelved). s.mark) c.rotate.ensures.rotated ∙ c.reserve.ensures.mark in
    (ap (λ (s : Shelved). s.book.active) c.rotate.ensures.rotated, omega (arith, some, count, same, added, mark))
