-- The last numbers of the blocks of a shelf that has the batches of logs.
use Rattle.std.proofs.Common.{◌≡◌, ℕ, ◌+◌, List, [], ◌∷◌, length, map, refl, ◌∙◌, ap, subst, arith}
use Rattle.fd_kinds.specs.History.{History}
use Rattle.fd_shelf.specs.Books.{Each, IsUsed}
use Rattle.fd_shelf.specs.Steps.{highest, last_hi}
use Rattle.fd_wal.specs.Logs.{history_of}
use Rattle.fd_keeper.specs.Blocks.{Block, Logged}
use Rattle.fd_open.specs.Shelving.{parts_from, blocks_from, ends_behind}

last_number : (n : ℕ) (batches : History) → last_hi n (parts_from (n + 1) batches) ≡ n + length batches
last_number n [] = omega arith
last_number n (rows ∷ batches) = let rest = last_number (n + 1) batches in omega (arith, rest)

highest_number : (n : ℕ) (batches : History) → IsUsed (parts_from (n + 1) batches) → highest (parts_from (n + 1) batches) ≡ n + length batches
highest_number n [] used = absurd used
highest_number n (rows ∷ batches) used = let rest = last_number (n + 1) batches in omega (arith, rest)

pub same_ends : (n : ℕ) (closed : List Block) → Each IsUsed (blocks_from (n + 1) closed) → map highest (blocks_from (n + 1) closed) ≡ ends_behind n closed
same_ends n [] used = refl
same_ends n (Logged frames ∷ closed) used =
    let here = highest_number n (history_of frames) used.0 in
    let at : n + 1 + length (history_of frames) ≡ n + length (history_of frames) + 1 = omega arith in
    let rest = same_ends (n + length (history_of frames)) closed (subst (λ (k : ℕ). Each IsUsed (blocks_from k closed)) at used.1) in
    ap (λ (k : ℕ). k ∷ map highest (blocks_from (n + 1 + length (history_of frames)) closed)) here
    ∙ ap (λ (k : ℕ). (n + length (history_of frames)) ∷ map highest (blocks_from k closed)) at
    ∙ ap (λ (l : List ℕ). (n + length (history_of frames)) ∷ l) rest
