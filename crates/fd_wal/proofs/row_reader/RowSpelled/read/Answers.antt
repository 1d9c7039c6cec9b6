use Rattle.std.proofs.Common.{◌≡◌, ℤ, List, ℕ, refl}
use Rattle.std.specs.Prelude.{Some}
use Rattle.std.proofs.lemmas.Result.{err_from_is_err_and}
use Rattle.fd_kinds.specs.declared.labels.Labels.{Labels}
use Rattle.fd_wal.specs.declared.fault.ReadFault.{ReadFault}
use Rattle.fd_wal.specs.declared.fault.ReadFault.TheVariants.{Malformed, NoMemory}
use Rattle.fd_wal.specs.Reading.{Fails, text_at, labels_at, whole_at, stack_at, numbers_at, both_at, row_at}
use Rattle.fd_wal.proofs.row_reader.RowSpelled.read.Goals as goal

-- the numbers at the end are missing
numbers_fail : (e : ReadFault) (bytes a b c d f g h i j : List ℕ) (name sample_type sample_unit period_type period_unit : List ℕ) (labels : Labels) (timestamp : ℤ) (stack : List (List ℕ)) (others : Labels)
    → text_at bytes ≡ Some (name, a) → text_at a ≡ Some (sample_type, b) → text_at b ≡ Some (sample_unit, c) → text_at c ≡ Some (period_type, d) → text_at d ≡ Some (period_unit, f)
    → labels_at f ≡ Some (labels, g) → whole_at g ≡ Some (timestamp, h) → stack_at h ≡ Some (stack, i) → labels_at i ≡ Some (others, j) → Fails e (numbers_at j) → Fails e (row_at bytes)
unfolding row_at both_at
numbers_fail NoMemory bytes a b c d f g h i j name sample_type sample_unit period_type period_unit labels timestamp stack others p0 p1 p2 p3 p4 p5 p6 p7 p8 fails = tt
numbers_fail Malformed bytes a b c d f g h i j name sample_type sample_unit period_type period_unit labels timestamp stack others p0 p1 p2 p3 p4 p5 p6 p7 p8 fails = rw (p0, p1, p2, p3, p4, p5, p6, p7, p8, fails) refl

pub returns-in_err-period : goal.returns-in_err-period
returns-in_err-period c =
    let p = err_from_is_err_and c.from_residual-in_err-period.result c.from_residual-in_err-period.ensures.1 in
    rw (p.1, p.2) (numbers_fail _ c.args.cursor.now c.text.new.self c.text-2.new.self c.text-3.new.self c.text-4.new.self c.text-5.new.self c.read_labels.new.cursor c.whole.new.self c.read_stack.new.cursor c.read_labels-2.new.cursor
    _ _ _ _ _ _ _ _ _ c.in_ok-name.ensures c.in_ok-sample_type.ensures c.in_ok-sample_unit.ensures c.in_ok-period_type.ensures c.in_ok-period_unit.ensures c.in_ok-labels.ensures c.in_ok-timestamp.ensures c.in_ok-stack.ensures c.in_ok-pprof_labels.ensures c.in_err-period.ensures.err)
