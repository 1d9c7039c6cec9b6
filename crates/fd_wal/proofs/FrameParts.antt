-- The parts of a frame in bytes.
use Rattle.std.proofs.Common.{◌≡◌, ℕ, ◌^◌, ◌<◌, List, ◌++◌, length, take, drop, refl, sym, ap, ◌∙◌, append_assoc, arith, length-drop}
use Rattle.std.specs.Int.{w32, to_le_bytes, from_le_bytes}
use Rattle.sha2.specs.Sha256.{sha256}
use Rattle.std.proofs.lemmas.List.{take_at, drop_at, take-append-drop, length-append, length-take}
use Rattle.fd_wal.specs.Frames.{framed}
use Rattle.fd_wal.specs.Reading.{payload_length, HasParts, IsCut}
use Rattle.fd_wal.proofs.Numbers.{IsBytes, IsBytes-take, wide32}
use Rattle.fd_wal.proofs.LogLaws.{sha256_length}

-- ---- bytes with parts

length_is : (bytes digest payload behind : List ℕ) → HasParts bytes digest payload behind → length payload ≡ payload_length bytes
length_is bytes digest payload behind parts =
    let long = parts.long in
    ap length parts.payload_is ∙ omega (arith, long, length-take (payload_length bytes) (drop 32 (drop 4 bytes)), length-drop 32 (drop 4 bytes), length-drop 4 bytes)

pub whole_frame : (bytes digest payload behind : List ℕ) → IsBytes bytes → HasParts bytes digest payload behind → sha256 payload ≡ digest → bytes ≡ framed payload ++ behind
whole_frame bytes digest payload behind fits parts is =
    let n = payload_length bytes in
    let long = parts.long in
    let front : to_le_bytes w32 n ≡ take 4 bytes = wide32.back (take 4 bytes) (omega (arith, length-take 4 bytes, long)) (IsBytes-take 4 bytes fits) in
    let size : length payload ≡ n = length_is bytes digest payload behind parts in
    let tail : drop 32 (drop 4 bytes) ≡ payload ++ behind = rw (parts.payload_is, parts.behind_is) (sym (take-append-drop n (drop 32 (drop 4 bytes)))) in
    let middle : drop 4 bytes ≡ digest ++ (payload ++ behind) = sym (take-append-drop 32 (drop 4 bytes)) ∙ ap (λ (t : List ℕ). t ++ drop 32 (drop 4 bytes)) (sym parts.digest_is) ∙ ap (λ (t : List ℕ). digest ++ t) tail in
    let framing : drop 4 bytes ≡ (sha256 payload ++ payload) ++ behind = middle ∙ ap (λ (t : List ℕ). t ++ (payload ++ behind)) (sym is) ∙ sym (append_assoc (sha256 payload) payload behind) in
    sym (take-append-drop 4 bytes)
    ∙ ap (λ (t : List ℕ). t ++ drop 4 bytes) (sym front)
    ∙ ap (λ (t : List ℕ). to_le_bytes w32 n ++ t) framing
    ∙ ap (λ (m : ℕ). to_le_bytes w32 m ++ ((sha256 payload ++ payload) ++ behind)) (sym size)

pub short_payload : (bytes digest payload behind : List ℕ) → IsBytes bytes → HasParts bytes digest payload behind → length payload < 2 ^ 32
short_payload bytes digest payload behind fits parts =
    let size = length_is bytes digest payload behind parts in
    let small = wide32.below (take 4 bytes) (IsBytes-take 4 bytes fits) in
    omega (arith, size, small)

pub gate_behind : (bytes digest payload behind : List ℕ) → HasParts bytes digest payload behind → 0 < length behind
gate_behind bytes digest payload behind parts =
    let long = parts.long in
    let size = ap length parts.behind_is in
    omega (arith, long, size, length-drop (payload_length bytes) (drop 32 (drop 4 bytes)), length-drop 32 (drop 4 bytes), length-drop 4 bytes)

-- ---- bytes that are a frame

names_length : (bytes payload rest : List ℕ) → length payload < 2 ^ 32 → bytes ≡ framed payload ++ rest → payload_length bytes ≡ length payload
names_length bytes payload rest short e = ap (λ (b : List ℕ). from_le_bytes w32 (take 4 b)) e ∙ wide32.again (length payload) short

behind_length : (bytes payload rest : List ℕ) → bytes ≡ framed payload ++ rest → drop 4 bytes ≡ sha256 payload ++ (payload ++ rest)
behind_length bytes payload rest e = ap (drop 4) e ∙ append_assoc (sha256 payload) payload rest

pub cut_frame : (bytes : List ℕ) → IsCut bytes → (payload rest : List ℕ) → length payload < 2 ^ 32 → 0 < length rest → bytes ≡ framed payload ++ rest → ⊥
cut_frame bytes cut payload rest short some e =
    let n = names_length bytes payload rest short e in
    let long = ap length (behind_length bytes payload rest e) ∙ length-append (sha256 payload) (payload ++ rest) in
    let more = length-append payload rest in
    let digest = sha256_length payload in
    let front = length-drop 4 bytes in
    omega (arith, cut, n, long, more, digest, front, some)

pub other_digest : (bytes digest payload behind : List ℕ) → HasParts bytes digest payload behind → (sha256 payload ≡ digest → ⊥) → (other rest : List ℕ) → length other < 2 ^ 32 → 0 < length rest → bytes ≡ framed other ++ rest → ⊥
other_digest bytes digest payload behind parts never other rest short some e =
    let middle = behind_length bytes other rest e in
    let known : digest ≡ sha256 other = parts.digest_is ∙ ap (take 32) middle ∙ take_at (sha256 other) (other ++ rest) 32 (sha256_length other) in
    let tail : drop 32 (drop 4 bytes) ≡ other ++ rest = ap (drop 32) middle ∙ drop_at (sha256 other) (other ++ rest) 32 (sha256_length other) in
    let n = names_length bytes other rest short e in
    let same : payload ≡ other = parts.payload_is ∙ ap (λ (k : ℕ). take k (drop 32 (drop 4 bytes))) n ∙ ap (take (length other)) tail ∙ take_at other rest (length other) refl in
    never (ap sha256 same ∙ sym known)
