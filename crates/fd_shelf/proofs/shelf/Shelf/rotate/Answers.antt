use Rattle.std.proofs.Common.{map, arith, ap, ◌∙◌, ◌<◌, ◌++◌, ◌∷◌, [], subst}
use Rattle.fd_shelf.specs.Books.{Shelved, IsUsed, all_parts}
use Rattle.fd_shelf.specs.Histories.{hist}
use Rattle.fd_shelf.specs.Numbers.{Keeps}
use Rattle.fd_shelf.proofs.Rotations.{parts_same, rotated_history, rotated_is_book, rotated_keeps}
use Rattle.fd_shelf.proofs.shelf.Shelf.rotate.Goals as goal

pub invariant_of-self : goal.invariant_of-self
invariant_of-self g c =
    let some : 0 < c.self.inside.spare = rw (ap (λ s. s.spare) c.self.view_is) c.requires.spare in (
      rw c.close.ensures.closed (rw c.close.ensures.active
          (rotated_is_book c.self.inside.blocks.closed c.self.inside.blocks.active (map g.P.Held.means c.self.inside.waiting.items) c.self.inside.mark c.self.invariant.0
          (rw (ap (λ s. s.book.active) c.self.view_is) c.requires.used))),
      record {
        for_parts = omega (arith, some, c.self.invariant.1.for_parts, c.close.ensures.room.0);
        for_blocks = omega (arith, some, c.self.invariant.1.for_blocks, c.close.ensures.room.1);
        to_wait = omega (arith, some, c.self.invariant.1.to_wait);
      },
    )

pub returns-clause-kept : goal.returns-clause-kept
returns-clause-kept g c =
    rw c.close.ensures.closed (rw c.close.ensures.active
    (parts_same c.self.inside.blocks.closed c.self.inside.blocks.active (map g.P.Held.means c.self.inside.waiting.items)
    ∙ ap (λ s. all_parts s.book) c.self.view_is))

pub returns-clause-history : goal.returns-clause-history
returns-clause-history g c m =
    rw c.close.ensures.closed (rw c.close.ensures.active
    (rotated_history c.self.inside.blocks.closed c.self.inside.blocks.active (map g.P.Held.means c.self.inside.waiting.items) m
    ∙ ap (λ s. hist s.book m) c.self.view_is))

pub returns-clause-numbers : goal.returns-clause-numbers
returns-clause-numbers g c =
    rw c.close.ensures.closed (rw c.close.ensures.active
    (subst
    (λ (s : Shelved).
    Keeps s.book
    (record { closed = c.self.inside.blocks.closed ++ c.self.inside.blocks.active ∷ []; active = []; stragglers = map g.P.Held.means c.self.inside.waiting.items }))
    c.self.view_is
    (rotated_keeps c.self.inside.blocks.closed c.self.inside.blocks.active (map g.P.Held.means c.self.inside.waiting.items))))
