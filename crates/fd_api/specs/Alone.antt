-- A run over a store that nobody else writes: its numbers are exact.
use Rattle.std.specs.Prelude.{◌≡◌, ℕ, ◌+◌, List, [], ◌∷◌, ◌++◌}
use Rattle.fd_kinds.specs.History.{History, LocalView, history_of, count_of}
use Rattle.fd_kinds.specs.Stores.{numbered_from}
use Rattle.fd_http.specs.declared.limits.TheConstants.{MOST_REQUESTS}
use Rattle.fd_http.specs.declared.request.Request.{Request}
use Rattle.fd_api.specs.declared.note.Note.{Note}
use Rattle.fd_api.specs.declared.note.Note.TheVariants.{Read, Wrote, Stood, NotDrawn, Spent, Refused, Faulted, Short}
use Rattle.fd_api.specs.declared.sessions.EndKind.{EndKind}
use Rattle.fd_api.specs.Accounts.{Accounts}
use Rattle.fd_api.specs.Sessions.{ReadBy, SentBy}
use Rattle.fd_api.specs.Streams.{Streams}

-- After so many batches: an accepted write has the next number, and each other number is that of the batches so far.
abbrev pub Exact : ℕ → List Note → Type 0
Exact count [] = Unit {0}
Exact count (Wrote n ∷ notes) = (n ≡ count + 1) × Exact (count + 1) notes
Exact count (Read w ∷ notes) = (w ≡ count) × Exact count notes
Exact count (Stood drawn synced w ∷ notes) = (drawn ≡ count) × (synced ≡ count) × (w ≡ count) × Exact count notes
Exact count (NotDrawn drawn ∷ notes) = (drawn ≡ count) × Exact count notes
Exact count (Spent drawn ∷ notes) = (drawn ≡ count) × Exact count notes
Exact count (Refused ∷ notes) = Exact count notes
Exact count (Faulted ∷ notes) = Exact count notes
Exact count (Short ∷ notes) = Exact count notes

-- The store was opened with the same history as before, and was added exactly the batches of the notes, which have the
-- numbers behind its batches.
pub record AloneRan (old : LocalView) (room : ℕ) (requests : List Request) (notes : List Note) (new : LocalView) (output : List ℕ) : Type 0 where
  pub opening : new.opening ≡ old.opening
  pub more : History
  pub added : new.added ≡ old.added ++ more
  pub exact : Exact (count_of old) notes
  pub accounts : Accounts (history_of new) room requests notes (numbered_from (1 + count_of old) more) output

-- A session over such a store: the requests that it read, what became of the store by them, and what was sent.
pub record AloneSessionRan (old new : Streams) (first : LocalView) (notes : List Note) (last : LocalView) (end : EndKind) : Type 0 where
  pub requests : List Request
  pub output : List ℕ
  pub read : ReadBy old.input new.input end requests
  pub ran : AloneRan first MOST_REQUESTS requests notes last output
  pub written : SentBy old new end requests output
