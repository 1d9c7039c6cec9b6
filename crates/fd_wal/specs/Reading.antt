-- Reading from the front of bytes, value by value. A reading is a value and the bytes behind it, and none where the
-- bytes begin with no value of the kind.
use Rattle.std.specs.Prelude.{◌≡◌, ℕ, zero, suc, ◌+◌, ◌*◌, ◌≤◌, ◌<◌, ℤ, Bool, true, false, List, [], ◌∷◌, ◌++◌, length, take, drop, Option, Some, None, Result, Ok, Err, nat_lt, ◌==◌, if◌then◌else◌, refl}
use Rattle.std.specs.Int.{Width, w32, w64, byte_len, from_le_bytes, cast_signed}
use Rattle.std.specs.Str.{is_utf8}
use Rattle.fd_kinds.specs.declared.pair.Pair.{Pair}
use Rattle.fd_kinds.specs.declared.labels.Labels.{Labels}
use Rattle.fd_kinds.specs.declared.row.Row.{Row}
use Rattle.fd_kinds.specs.Labels.{are_labels}
use Rattle.fd_wal.specs.declared.fault.ReadFault.{ReadFault}
use Rattle.fd_wal.specs.declared.fault.ReadFault.TheVariants.{Malformed, NoMemory}
use Rattle.fd_wal.specs.Frames.{Frame, Transactions}

infixl 10 ◌>>=◌
abbrev pub ◌>>=◌ : {A B : Type 0} → Option A → (A → Option B) → Option B
(Some x) >>= f = f x
None >>= f = None

abbrev pub Reading : Type 0 → Type 0
Reading A = Option (A × List ℕ)

-- a number in so many bytes, the lowest first
abbrev pub number_at : Width → List ℕ → Reading ℕ
number_at w bytes = if nat_lt (length bytes) (byte_len w) then None else Some (from_le_bytes w (take (byte_len w) bytes), drop (byte_len w) bytes)

-- a number of 64 bits with a sign
unfoldable pub whole_at : List ℕ → Reading ℤ
whole_at bytes = number_at w64 bytes >>= λ n. Some (cast_signed w64 n.0, n.1)

-- a length, and so many bytes of UTF-8
unfoldable pub text_at : List ℕ → Reading (List ℕ)
text_at bytes =
    number_at w32 bytes >>= λ size.
    if nat_lt (length size.1) size.0 then None
    else if is_utf8 (take size.0 size.1) then Some (take size.0 size.1, drop size.0 size.1)
    else None

-- a name and a value
unfoldable pub pair_at : List ℕ → Reading Pair
pair_at bytes =
    text_at bytes >>= λ name.
    text_at name.1 >>= λ value.
    Some (record { name = name.0; value = value.0 }, value.1)

-- so many values, one behind the other
unfoldable pub many_at : {A : Type 0} → (List ℕ → Reading A) → ℕ → List ℕ → Reading (List A)
many_at read zero bytes = Some ([], bytes)
many_at read (suc n) bytes =
    read bytes >>= λ first.
    many_at read n first.1 >>= λ others.
    Some (first.0 ∷ others.0, others.1)

-- A count, and so many values, of which each takes at least `least` bytes.
unfoldable pub list_at : {A : Type 0} → ℕ → (List ℕ → Reading A) → List ℕ → Reading (List A)
list_at least read bytes =
    number_at w32 bytes >>= λ count.
    if nat_lt (length count.1) (least * count.0) then None else many_at read count.0 count.1

-- the labels of pairs that are in order, each with a value
abbrev pub checked_labels : (pairs : List Pair) (b : Bool) → are_labels pairs ≡ b → Option Labels
checked_labels pairs true e = Some (record { pairs = pairs; in_order = e })
checked_labels pairs false e = None

-- the least bytes of a pair, of a frame, of a row and of a batch
abbrev pub least_pair : ℕ
least_pair = 8

abbrev pub least_text : ℕ
least_text = 4

abbrev pub least_row : ℕ
least_row = 64

abbrev pub least_batch : ℕ
least_batch = 4

unfoldable pub labels_at : List ℕ → Reading Labels
labels_at bytes =
    list_at least_pair pair_at bytes >>= λ pairs.
    checked_labels pairs.0 (are_labels pairs.0) refl >>= λ labels.
    Some (labels, pairs.1)

unfoldable pub stack_at : List ℕ → Reading (List (List ℕ))
stack_at bytes = list_at least_text text_at bytes

-- one value, and another behind it
pub record Both (A B : Type 0) : Type 0 where
  pub first : A
  pub second : B

unfoldable pub both_at : {A B : Type 0} → (List ℕ → Reading A) → (List ℕ → Reading B) → List ℕ → Reading (Both A B)
both_at read next bytes =
    read bytes >>= λ a.
    next a.1 >>= λ b.
    Some (record { first = a.0; second = b.0 }, b.1)

-- the three numbers that a row ends with
unfoldable pub numbers_at : List ℕ → Reading (Both ℤ (Both ℤ ℤ))
numbers_at bytes = both_at whole_at (both_at whole_at whole_at) bytes

-- the fields of a row, one behind the other
abbrev pub RowParts : Type 0
RowParts = Both (List ℕ) (Both (List ℕ) (Both (List ℕ) (Both (List ℕ) (Both (List ℕ) (Both Labels (Both ℤ (Both (List (List ℕ)) (Both Labels (Both ℤ (Both ℤ ℤ))))))))))

abbrev pub row_parts_at : List ℕ → Reading RowParts
row_parts_at = both_at text_at (both_at text_at (both_at text_at (both_at text_at (both_at text_at (both_at labels_at (both_at whole_at (both_at stack_at (both_at labels_at numbers_at))))))))

abbrev pub row_of : RowParts → Row
row_of p = record {
  name = p.first;
  sample_type = p.second.first;
  sample_unit = p.second.second.first;
  period_type = p.second.second.second.first;
  period_unit = p.second.second.second.second.first;
  labels = p.second.second.second.second.second.first;
  timestamp = p.second.second.second.second.second.second.first;
  stack = p.second.second.second.second.second.second.second.first;
  pprof_labels = p.second.second.second.second.second.second.second.second.first;
  period = p.second.second.second.second.second.second.second.second.second.first;
  duration = p.second.second.second.second.second.second.second.second.second.second.first;
  value = p.second.second.second.second.second.second.second.second.second.second.second;
}

unfoldable pub row_at : List ℕ → Reading Row
row_at bytes = row_parts_at bytes >>= λ p. Some (row_of p.0, p.1)

-- the rows of a batch, in any order
unfoldable pub batch_at : List ℕ → Reading (List Row)
batch_at bytes = list_at least_row row_at bytes

-- a first number, and batches
unfoldable pub transactions_at : List ℕ → Reading Frame
transactions_at bytes =
    number_at w64 bytes >>= λ first.
    list_at least_batch batch_at first.1 >>= λ batches.
    Some (Transactions first.0 batches.0, batches.1)

-- nothing is left
abbrev pub ended : {A : Type 0} → Reading A → Option A
ended read = read >>= λ x. if length x.1 == 0 then Some x.0 else None

-- what is read behind others
abbrev pub with_front : {A : Type 0} → List A → Reading (List A) → Reading (List A)
with_front front read = read >>= λ x. Some (front ++ x.0, x.1)

-- ---- what calls answer

-- the reading is none, unless memory ran out
abbrev pub Fails : {Y : Type 0} → ReadFault → Option Y → Type 0
Fails NoMemory read = Unit {0}
Fails Malformed read = read ≡ None

-- what a call answers and leaves is what reading gives, unless memory ran out
abbrev pub Reads : {X : Type 0} → Result X ReadFault → List ℕ → Reading X → Type 0
Reads (Ok x) rest read = read ≡ Some (x, rest)
Reads (Err e) rest read = Fails e read

-- what a call answers is this, unless memory ran out
abbrev pub Finds : {X : Type 0} → Result X ReadFault → Option X → Type 0
Finds (Ok x) found = found ≡ Some x
Finds (Err e) found = Fails e found

-- ---- frames

-- the length of the payload that a frame names
abbrev pub payload_length : List ℕ → ℕ
payload_length bytes = from_le_bytes w32 (take 4 bytes)

-- the digest and the payload of a frame, and the bytes behind it
pub record HasParts (bytes digest payload behind : List ℕ) : Type 0 where
  pub long : 36 + payload_length bytes < length bytes
  pub digest_is : digest ≡ take 32 (drop 4 bytes)
  pub payload_is : payload ≡ take (payload_length bytes) (drop 32 (drop 4 bytes))
  pub behind_is : behind ≡ drop (payload_length bytes) (drop 32 (drop 4 bytes))

-- too short for a frame and a gate behind it
abbrev pub IsCut : List ℕ → Type 0
IsCut bytes = length bytes ≤ 36 + payload_length bytes
