use Rattle.std.proofs.Common.{◌∙◌, sym, ap, subst, arith, ◌<◌, length, drop}
use Rattle.std.specs.Prelude.{IsSome, All}
use Rattle.fd_column.specs.RowNumbers.{IsNumber}
use Rattle.fd_merge.specs.Merges.{MovesFirst}
use Rattle.fd_merge.proofs.Remainders.{some_first, inside_from, small_first, short_first, first_moves}
use Rattle.fd_merge.proofs.cursor.Cursor.move_first.Goals as goal

pub unwrap-row-requires : goal.unwrap-row-requires
unwrap-row-requires c =
    subst IsSome (sym c.self.invariant.1) (some_first c.self.inside.part.now c.self.inside.at (subst (λ rows. 0 < length rows) (sym c.self.view_is) c.requires.some))

pub with_row-requires-clause-short : goal.with_row-requires-clause-short
with_row-requires-clause-short c =
    short_first c.self.inside.part.now c.self.inside.at c.unwrap-row.result (sym c.self.invariant.1 ∙ c.unwrap-row.ensures) c.short.ensures

pub with_row-requires-clause-number : goal.with_row-requires-clause-number
with_row-requires-clause-number c =
    small_first c.self.inside.part.now c.self.inside.at c.unwrap-row.result (sym c.self.invariant.1 ∙ c.unwrap-row.ensures) (subst (All IsNumber) (sym c.self.view_is) c.requires.numbers)

pub next_place-next-requires : goal.next_place-next-requires
next_place-next-requires c =
    let inside : c.self.inside.at < length c.self.inside.part.now = inside_from c.self.inside.part.now c.self.inside.at (subst (λ rows. 0 < length rows) (sym c.self.view_is) c.requires.some) in
    omega (arith, inside, c.self.invariant.0)

pub returns : goal.returns
returns c =
    let moves = first_moves c.self.inside.part.now c.self.inside.at c.unwrap-row.result c.args.builder c.in_ok-builder.builder c.in_ok-from_place.field-0 (sym c.self.invariant.1 ∙ c.unwrap-row.ensures) c.in_ok-builder.ensures (c.in_ok-from_place.ensures ∙ ap (λ at. drop at c.self.inside.part.now) c.next_place-next.ensures) in
    subst (λ rest. MovesFirst c.args.builder rest c.in_ok-builder.builder c.in_ok-from_place.field-0) c.self.view_is moves
