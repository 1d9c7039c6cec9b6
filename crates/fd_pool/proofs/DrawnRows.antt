-- What a seat drew, in the history of a book.
use Rattle.std.proofs.Common.{◌≡◌, ℕ, ◌-◌, ◌<◌, ◌≤◌, List, [], ◌∷◌, length, sym, subst, ⊎_elim, arith, Option, IfSome}
use Rattle.std.proofs.lemmas.Bool.{cases_lt}
use Rattle.std.proofs.lemmas.Option.{slice_get_past}
use Rattle.fd_kinds.specs.declared.row.Row.{Row}
use Rattle.fd_kinds.specs.History.{History}
use Rattle.fd_kinds.specs.Stores.{Holds, IsHeld, Written}
use Rattle.fd_shelf.specs.Books.{Book, Shelved, all_parts}
use Rattle.fd_shelf.specs.Histories.{hist, in_row_order}
use Rattle.fd_shelf.specs.Numbers.{IsIn}
use Rattle.fd_rule.specs.Kinds.TurnTry.{Later, with_book}
use Rattle.fd_rule.specs.Lists.{AllAsDrawn}
use Rattle.fd_rule.specs.View.{View}
use Rattle.fd_pool.specs.Kept.{HasDrawn, in_order}
use Rattle.fd_pool.proofs.Replaced.{nth_batch}

module _ (book : Book) (mark : ℕ) (count : length (hist book mark) ≡ mark) (held : (n : ℕ) → 0 < n → n ≤ mark → IsIn n (all_parts book)) where
  -- a batch that has its rows in the book stands in its history
  one_held : (o : Written) → 0 < o.number → AllAsDrawn book (o ∷ []) → IsHeld (hist book mark) (record { number = o.number; rows = in_row_order o.rows })
  one_held o some drawn = (
    some,
    ⊎_elim
        (λ (beyond : mark < o.number). subst (λ (b : Option (List Row)). IfSome b (λ rows. rows ≡ in_row_order o.rows)) (sym (slice_get_past (hist book mark) (o.number - 1) (omega (arith, beyond, count)))) tt)
        (λ (low : o.number ≤ mark). subst (λ (b : Option (List Row)). IfSome b (λ rows. rows ≡ in_row_order o.rows)) (sym (nth_batch book mark o.number some low)) (drawn.0 (held o.number some low)))
        (cases_lt mark o.number),
  )

  -- what the seat drew stands in the history of a book that has its rows
  pub drawn_held : (history : History) (own : List Written) → AllAsDrawn book own → Holds history (in_order own) → Holds (hist book mark) (in_order own)
  drawn_held history [] drawn before = tt
  drawn_held history (o ∷ os) drawn before = (one_held o before.0.0 (drawn.0, tt), drawn_held history os drawn.1 before.1)

-- .. and so in that of a book which was just taken
pub taken_drawn : (shelf : Shelved) (v : View) → Later shelf v → HasDrawn v → HasDrawn (with_book shelf v)
taken_drawn shelf v later before = drawn_held shelf.book shelf.mark later.count later.held v.seen.history v.draws.own later.drawn before
