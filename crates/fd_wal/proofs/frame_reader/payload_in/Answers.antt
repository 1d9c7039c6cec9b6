use Rattle.std.proofs.lemmas.Bool.{iff_false}
use Rattle.fd_wal.proofs.FrameParts.{whole_frame, short_payload, gate_behind, cut_frame, other_digest}
use Rattle.fd_wal.proofs.frame_reader.payload_in.Goals as goal

pub returns-in_err-digest-clause-none : goal.returns-in_err-digest-clause-none
returns-in_err-digest-clause-none c none payload rest short some e = cut_frame c.args.bytes.now c.in_err-digest.ensures payload rest short some e

pub returns-then-not-is_digest-clause-none : goal.returns-then-not-is_digest-clause-none
returns-then-not-is_digest-clause-none c none payload rest short some e =
    other_digest c.args.bytes.now c.in_ok-digest.digest.now c.in_ok-digest.payload.now c.in_ok-digest.behind.now c.in_ok-digest.ensures (iff_false c.is_digest.ensures c.if-not-is_digest.true) payload rest short some e

pub returns-clause-found : goal.returns-clause-found
returns-clause-found c = whole_frame c.args.bytes.now c.in_ok-digest.digest.now c.in_ok-digest.payload.now c.in_ok-digest.behind.now (λ i. (c.type_inv.bytes i).fits) c.in_ok-digest.ensures (c.is_digest.ensures.0 c.if-not-is_digest.false)

pub returns-clause-short : goal.returns-clause-short
returns-clause-short c = short_payload c.args.bytes.now c.in_ok-digest.digest.now c.in_ok-digest.payload.now c.in_ok-digest.behind.now (λ i. (c.type_inv.bytes i).fits) c.in_ok-digest.ensures

pub returns-clause-gate : goal.returns-clause-gate
returns-clause-gate c = gate_behind c.args.bytes.now c.in_ok-digest.digest.now c.in_ok-digest.payload.now c.in_ok-digest.behind.now c.in_ok-digest.ensures
