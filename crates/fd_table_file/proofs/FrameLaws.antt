-- The parts of a file, from its two ends.
use Rattle.std.proofs.Common.{◌≡◌, ℕ, ◌<◌, ◌^◌, List, ◌++◌, length, refl, sym, ap, ◌∙◌, append_assoc, arith, length-append}
use Rattle.std.specs.Int.{w32, to_le_bytes, from_le_bytes}
use Rattle.std.proofs.lemmas.Nat.{from_le_bytes-to_le_bytes_4}
use Rattle.std.proofs.lemmas.List.{append_cancel_left}
use Rattle.fd_table_file.specs.Files.{magic, framed}
use Rattle.fd_table_file.proofs.OneDataPages.{split_same}

-- what stands behind the footer
abbrev pub ending : List ℕ → List ℕ
ending footer = to_le_bytes w32 (length footer) ++ magic

-- lists whose ends are of one length
pub split_end : {X : Type 0} (a b x y : List X) → a ++ x ≡ b ++ y → length x ≡ length y → (a ≡ b) × (x ≡ y)
split_end a b x y e len = split_same a b x y e (omega (arith, ap length e, length-append a x, length-append b y, len))

-- a file has its chunks and its footer alone
pub framed_once : (body other footer more : List ℕ) → length footer < 2 ^ 32 → length more < 2 ^ 32 → framed body footer ≡ framed other more → (body ≡ other) × (footer ≡ more)
framed_once body other footer more short short' e =
    let inner : body ++ (footer ++ ending footer) ≡ other ++ (more ++ ending more) =
    append_cancel_left magic (body ++ (footer ++ ending footer)) (other ++ (more ++ ending more)) e in
    let grouped : (body ++ footer) ++ ending footer ≡ (other ++ more) ++ ending more =
    append_assoc body footer (ending footer) ∙ inner ∙ sym (append_assoc other more (ending more)) in
    let ends = split_end (body ++ footer) (other ++ more) (ending footer) (ending more) grouped refl in
    let numbers : to_le_bytes w32 (length footer) ≡ to_le_bytes w32 (length more) =
    (split_same (to_le_bytes w32 (length footer)) (to_le_bytes w32 (length more)) magic magic ends.1 refl).0 in
    let same : length footer ≡ length more =
    sym (from_le_bytes-to_le_bytes_4 (length footer) short) ∙ ap (λ (xs : List ℕ). from_le_bytes w32 xs) numbers ∙ from_le_bytes-to_le_bytes_4 (length more) short' in
    split_end body other footer more ends.0 same
