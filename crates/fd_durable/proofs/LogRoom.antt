-- How many bytes the batches of the active log have: those of the rows of the shelf's active block.
use Rattle.std.specs.Prelude.{◌≡◌, ℕ, ◌+◌, ◌<◌, ◌≤◌, List, [], ◌∷◌, ◌++◌, length, map, flat_map, filter, take, sum_by, IsPermutation, refl}
use Rattle.std.proofs.Common.{arith, ap, sym, ◌∙◌, subst}
use Rattle.std.proofs.lemmas.List.{length-append, take_all, take-append-le}
use Rattle.std.proofs.lemmas.List.Concat.{flat_map-cons, flat_map-append}
use Rattle.std.proofs.lemmas.List.Sorted.{sum_by-IsPermutation}
use Rattle.std.proofs.lemmas.List.Sums.{sum_by-append, sum_by-cons}
use Rattle.fd_kinds.specs.declared.row.Row.{Row}
use Rattle.fd_kinds.specs.declared.row.Numbered.{Numbered}
use Rattle.fd_kinds.specs.History.{History, upto}
use Rattle.fd_kinds.specs.Parts.{PartMeaning, rows_of}
use Rattle.fd_kinds.specs.RowSize.{row_size}
use Rattle.fd_shelf.specs.Books.{Book, Each, Follows, settled_parts, rows_in, bytes_of}
use Rattle.fd_shelf.specs.Histories.{hist}
use Rattle.fd_shelf.specs.Steps.{is_upto, IsWholeAt}
use Rattle.fd_wal.specs.Frames.{rows_size, batches_size}
use Rattle.fd_durable.proofs.BlockEnds.{IsCut, whole_upto, whole_behind, each_both, front_upto, reaches}

bytes_by_rows : (xs : List Numbered) → bytes_of xs ≡ rows_size (rows_of xs)
bytes_by_rows [] = refl
bytes_by_rows (x ∷ xs) =
    sum_by-cons (λ (n : Numbered). row_size n.row) x xs ∙ ap (λ n. row_size x.row + n) (bytes_by_rows xs) ∙ sym (sum_by-cons row_size x.row (rows_of xs))

size_by_batches : (history : History) → rows_size (flat_map (λ batch. batch) history) ≡ batches_size history
size_by_batches [] = refl
size_by_batches (rows ∷ history) =
    ap rows_size (flat_map-cons (λ (batch : List Row). batch) rows history)
    ∙ sum_by-append row_size rows (flat_map (λ batch. batch) history)
    ∙ ap (λ n. rows_size rows + n) (size_by_batches history)
    ∙ sym (sum_by-cons rows_size rows history)

-- what parts have by their rows
abbrev pub parts_size : List PartMeaning → ℕ
parts_size parts = bytes_of (rows_in parts)

parts_both : (front back : List PartMeaning) → parts_size (front ++ back) ≡ parts_size front + parts_size back
parts_both front back = ap bytes_of (flat_map-append (λ (p : PartMeaning). p.rows) front back) ∙ sum_by-append (λ (n : Numbered). row_size n.row) (rows_in front) (rows_in back)

-- parts with the rows of the first batches have their bytes
as_many : (parts : List PartMeaning) (history : History) (w : ℕ) → IsPermutation (rows_of (rows_in parts)) (upto history w) → parts_size parts ≡ batches_size (take w history)
as_many parts history w same =
    bytes_by_rows (rows_in parts)
    ∙ sym (sum_by-IsPermutation row_size (rows_of (rows_in parts)) (upto history w) same)
    ∙ size_by_batches (take w history)

-- The batches behind those of a front of the parts have the bytes of the others.
pub back_size : (front back : List PartMeaning) (w mark : ℕ) (before behind history : History)
    → Follows 1 front w → Follows (w + 1) back mark → history ≡ before ++ behind → length before ≡ w → length history ≡ mark
    → IsPermutation (rows_of (rows_in (front ++ back))) (upto history mark)
    → ((v : ℕ) → v ≤ mark → Each (IsWholeAt v) (front ++ back) → IsPermutation (rows_of (rows_in (filter (is_upto v) (front ++ back)))) (upto history v))
    → batches_size behind ≡ parts_size back
back_size front back w mark before behind history front_follows follows is counted long all upto_is =
    let reach = reaches (w + 1) mark back follows in
    let whole : Each (IsWholeAt w) (front ++ back) = each_both (IsWholeAt w) front back (whole_upto 1 w front front_follows) (whole_behind (w + 1) w mark back follows (omega arith)) in
    let some : IsPermutation (rows_of (rows_in front)) (upto history w) =
    subst (λ (ps : List PartMeaning). IsPermutation (rows_of (rows_in ps)) (upto history w)) (front_upto 1 w mark front back front_follows follows) (upto_is w (omega (arith, reach)) whole) in
    let all_size : parts_size (front ++ back) ≡ batches_size history = as_many (front ++ back) history mark all ∙ ap batches_size (take_all mark history (omega (arith, long))) in
    let front_size : parts_size front ≡ batches_size before =
    as_many front history w some ∙ ap batches_size (ap (take w) is ∙ take-append-le w before behind (omega (arith, counted)) ∙ take_all w before (omega (arith, counted))) in
    let both : batches_size history ≡ batches_size before + batches_size behind = ap batches_size is ∙ sum_by-append rows_size before behind in
    let parts : parts_size (front ++ back) ≡ parts_size front + parts_size back = parts_both front back in
    omega (arith, all_size, front_size, both, parts)
