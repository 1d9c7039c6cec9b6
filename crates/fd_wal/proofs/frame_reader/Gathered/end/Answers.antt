use Rattle.std.proofs.Common.{refl, arith}
use Rattle.std.proofs.lemmas.Bool.{iff_false}
use Rattle.fd_wal.proofs.GatheredFrames.{ends_log, refuses_more, refuses_number}
use Rattle.fd_wal.proofs.frame_reader.Gathered.end.Goals as goal

pub returns-then-left-gt0-clause-refused : goal.returns-then-left-gt0-clause-refused
returns-then-left-gt0-clause-refused c err = refuses_more c.args.self.now c.args.bytes.now c.number.new.self c.in_ok-hi.hi (rw c.new-cursor.ensures at c.in_ok-hi.ensures) (omega (arith, c.if-left-gt0.true, c.left.ensures))

pub returns-then-not-may_end-clause-refused : goal.returns-then-not-may_end-clause-refused
returns-then-not-may_end-clause-refused c err = refuses_number c.args.self.now c.args.bytes.now c.number.new.self c.in_ok-hi.hi (rw c.new-cursor.ensures at c.in_ok-hi.ensures) (iff_false c.may_end.ensures c.if-not-may_end.true)

pub returns-clause-ok : goal.returns-clause-ok
returns-clause-ok c =
    let may = c.may_end.ensures.0 c.if-not-may_end.false in
    ends_log c.args.self.now _ c.args.bytes.now c.number.new.self c.in_ok-hi.hi (λ i. (c.type_inv.bytes i).fits) (rw c.new-cursor.ensures at c.in_ok-hi.ensures) (omega (arith, c.if-left-gt0.false, c.left.ensures)) may.unended may.some may.greatest refl refl refl refl
