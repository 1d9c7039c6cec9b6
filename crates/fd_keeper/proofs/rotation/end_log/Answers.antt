use Rattle.std.proofs.Common.{◌≡◌, [], ◌∷◌, ◌++◌, ◌∙◌}
use Rattle.fd_keeper.proofs.Rotations.{last_is}
use Rattle.fd_keeper.proofs.rotation.end_log.Goals as goal

pub turn-requires-clause-ends : goal.turn-requires-clause-ends
turn-requires-clause-ends g c = λ honest. (c.requires.rests honest).rests.last

pub turn-requires-clause-durable : goal.turn-requires-clause-durable
turn-requires-clause-durable g c = λ honest. (c.requires.rests honest).rests.durable

pub returns-in_err-turn-clause-any_moment : goal.returns-in_err-turn-clause-any_moment
returns-in_err-turn-clause-any_moment g c = λ honest closed active rests.
    let d = g.D.Disk in
    let t = c.args.tail.now in
    let same : c.as_slice-2.result.now ≡ c.in_ok-frame.frame ++ 0 ∷ [] = c.as_slice-2.ensures ∙ c.in_ok-push.ensures.ok in
    c.turn.ensures.any_moment honest closed active t.synced t.synced rests
    (last_is d.seen d.may_leave c.args.disk.now t.block t.gate t.synced closed active rests (c.requires.used honest closed active rests) c.requires.below c.in_ok-frame.frame c.as_slice-2.result.now c.in_ok-frame.ensures same)

pub returns-clause-any_moment : goal.returns-clause-any_moment
returns-clause-any_moment g c = λ honest closed active rests.
    let d = g.D.Disk in
    let t = c.args.tail.now in
    let same : c.as_slice-2.result.now ≡ c.in_ok-frame.frame ++ 0 ∷ [] = c.as_slice-2.ensures ∙ c.in_ok-push.ensures.ok in
    c.turn.ensures.any_moment honest closed active t.synced t.synced rests
    (last_is d.seen d.may_leave c.args.disk.now t.block t.gate t.synced closed active rests (c.requires.used honest closed active rests) c.requires.below c.in_ok-frame.frame c.as_slice-2.result.now c.in_ok-frame.ensures same)

pub returns-clause-ended : goal.returns-clause-ended
returns-clause-ended g c = λ honest closed active rests.
    let d = g.D.Disk in
    let t = c.args.tail.now in
    let same : c.as_slice-2.result.now ≡ c.in_ok-frame.frame ++ 0 ∷ [] = c.as_slice-2.ensures ∙ c.in_ok-push.ensures.ok in
    c.in_ok-turn.ensures.turned honest closed active t.synced t.synced rests
    (last_is d.seen d.may_leave c.args.disk.now t.block t.gate t.synced closed active rests (c.requires.used honest closed active rests) c.requires.below c.in_ok-frame.frame c.as_slice-2.result.now c.in_ok-frame.ensures same)
