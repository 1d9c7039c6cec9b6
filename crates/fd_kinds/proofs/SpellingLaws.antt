-- The spelling of a row in the log has the length that is counted.
use Rattle.std.specs.Prelude.{◌≡◌, ℕ, ℤ, ◌+◌, ◌++◌, List, [], ◌∷◌, length, sum_by, flat_map, refl}
use Rattle.std.proofs.Common.{arith, ap, sym, ◌∙◌, length-append}
use Rattle.std.proofs.lemmas.List.Concat.{length-flat_map}
use Rattle.std.proofs.lemmas.List.Sums.{sum_by-cons}
use Rattle.fd_kinds.specs.declared.pair.Pair.{Pair}
use Rattle.fd_kinds.specs.declared.row.Row.{Row}
use Rattle.fd_kinds.specs.RowSize.{text_size, pair_size, labels_size, stack_size, row_size}
use Rattle.fd_kinds.specs.RowSpelling.{count_bytes, text_spelling, pair_spelling, labels_spelling, stack_spelling, whole_spelling, row_spelling}

sum_same : {X : Type 0} (f g : X → ℕ) → ((x : X) → f x ≡ g x) → (xs : List X) → sum_by f xs ≡ sum_by g xs
sum_same f g same [] = refl
sum_same f g same (x ∷ xs) = sum_by-cons f x xs ∙ ap (λ n. f x + n) (sum_same f g same xs) ∙ ap (λ n. n + sum_by g xs) (same x) ∙ sym (sum_by-cons g x xs)

count_length : (n : ℕ) → length (count_bytes n) ≡ 4
count_length n = refl

whole_length : (n : ℤ) → length (whole_spelling n) ≡ 8
whole_length n = refl

text_length : (text : List ℕ) → length (text_spelling text) ≡ text_size text
text_length text = length-append (count_bytes (length text)) text

pair_length : (p : Pair) → length (pair_spelling p) ≡ pair_size p
pair_length p = length-append (text_spelling p.name) (text_spelling p.value) ∙ ap (λ n. n + length (text_spelling p.value)) (text_length p.name) ∙ ap (λ n. text_size p.name + n) (text_length p.value)

labels_length : (pairs : List Pair) → length (labels_spelling pairs) ≡ labels_size pairs
labels_length pairs =
    length-append (count_bytes (length pairs)) (flat_map pair_spelling pairs)
    ∙ ap (λ n. 4 + n) (length-flat_map pair_spelling pairs ∙ sum_same (λ p. length (pair_spelling p)) pair_size pair_length pairs)

stack_length : (frames : List (List ℕ)) → length (stack_spelling frames) ≡ stack_size frames
stack_length frames =
    length-append (count_bytes (length frames)) (flat_map text_spelling frames)
    ∙ ap (λ n. 4 + n) (length-flat_map text_spelling frames ∙ sum_same (λ f. length (text_spelling f)) text_size text_length frames)

-- the bytes are so many
record Long (bytes : List ℕ) (count : ℕ) : Type 0 where
  is : length bytes ≡ count

-- one field and the rest
then_long : (first : List ℕ) {rest : List ℕ} {n m : ℕ} → length first ≡ n → Long rest m → Long (first ++ rest) (n + m)
then_long first {rest} {n} {m} is more = record { is = length-append first rest ∙ ap (λ k. k + length rest) is ∙ ap (λ k. n + k) more.is }

behind_texts : (r : Row) → Long (labels_spelling r.labels.pairs ++ (whole_spelling r.timestamp ++ (stack_spelling r.stack ++ (labels_spelling r.pprof_labels.pairs ++ (whole_spelling r.period ++ (whole_spelling r.duration ++ whole_spelling r.value))))))
    (labels_size r.labels.pairs + (8 + (stack_size r.stack + (labels_size r.pprof_labels.pairs + (8 + (8 + 8))))))
behind_texts r =
    then_long (labels_spelling r.labels.pairs) (labels_length r.labels.pairs)
    (then_long (whole_spelling r.timestamp) (whole_length r.timestamp)
    (then_long (stack_spelling r.stack) (stack_length r.stack)
    (then_long (labels_spelling r.pprof_labels.pairs) (labels_length r.pprof_labels.pairs)
    (then_long (whole_spelling r.period) (whole_length r.period)
    (then_long (whole_spelling r.duration) (whole_length r.duration)
    (record { is = whole_length r.value }))))))

pub row_spelling_length : (r : Row) → length (row_spelling r) ≡ row_size r
row_spelling_length r =
    let all : Long (row_spelling r) (text_size r.name + (text_size r.sample_type + (text_size r.sample_unit + (text_size r.period_type + (text_size r.period_unit + (labels_size r.labels.pairs + (8 + (stack_size r.stack + (labels_size r.pprof_labels.pairs + (8 + (8 + 8))))))))))) =
    then_long (text_spelling r.name) (text_length r.name)
    (then_long (text_spelling r.sample_type) (text_length r.sample_type)
    (then_long (text_spelling r.sample_unit) (text_length r.sample_unit)
    (then_long (text_spelling r.period_type) (text_length r.period_type)
    (then_long (text_spelling r.period_unit) (text_length r.period_unit) (behind_texts r))))) in
    all.is ∙ omega arith
