use Rattle.std.proofs.Common.{ℕ, List, refl, sym, ap, subst}
use Rattle.std.specs.Prelude.{Err}
use Rattle.std.proofs.lemmas.Bool.{iff_false}
use Rattle.std.proofs.lemmas.List.{take_rest}
use Rattle.fd_wal.specs.Logs.{IsDamaged}
use Rattle.fd_wal.specs.Gathering.{PassesFrame, RefusesFrame}
use Rattle.fd_wal.proofs.Replaying.{starts, passes_on, stops, ends_log, within}
use Rattle.fd_wal.proofs.log_reader.read_frames.Goals as goal

pub loop-gathered-init : goal.loop-gathered-init
loop-gathered-init c = starts c.args.bytes.now c.args.first c.new-gathered.result c.new-gathered.ensures

pub place_of-at-requires : goal.place_of-at-requires
place_of-at-requires c = within c.args.bytes.now c.loop-gathered.rest.now c.args.first c.loop-gathered.gathered c.loop-gathered.invariant

pub returns-in-Err-Malformed-clause-damaged : goal.returns-in-Err-Malformed-clause-damaged
returns-in-Err-Malformed-clause-damaged c =
    subst (λ (at : ℕ). IsDamaged c.args.bytes.now c.args.first at) (sym c.place_of-at.ensures)
    (stops c.args.bytes.now c.loop-gathered.rest.now c.args.first c.loop-gathered.gathered c.loop-gathered.invariant (c.is_open.ensures.value.0 c.loop-gathered-test.true)
    (subst (λ (bytes : List ℕ). RefusesFrame bytes c.loop-gathered.gathered) (take_rest c.loop-gathered.rest.now 1) (c.in-Err-Malformed.ensures.refused (ap Err c.in-Err-Malformed.field-0-is))))

pub loop-gathered-preserved : goal.loop-gathered-preserved
loop-gathered-preserved c =
    passes_on c.args.bytes.now c.loop-gathered.rest.now c.in-Ok.behind.now c.args.first c.loop-gathered.gathered c.frame.new.self c.loop-gathered.invariant (c.is_open.ensures.value.0 c.loop-gathered-test.true)
    (subst (λ (bytes : List ℕ). PassesFrame bytes c.in-Ok.behind.now c.loop-gathered.gathered c.frame.new.self) (take_rest c.loop-gathered.rest.now 1) c.in-Ok.ensures.ok)

pub place_of-requires : goal.place_of-requires
place_of-requires c = within c.args.bytes.now c.loop-gathered.rest.now c.args.first c.loop-gathered.gathered c.loop-gathered.invariant

pub returns-clause-ok : goal.returns-clause-ok
returns-clause-ok c =
    ends_log c.args.bytes.now c.loop-gathered.rest.now c.args.first c.loop-gathered.gathered _ c.loop-gathered.invariant (iff_false c.is_open.ensures.value c.loop-gathered-test.false) c.from_vec.ensures refl c.place_of.ensures
