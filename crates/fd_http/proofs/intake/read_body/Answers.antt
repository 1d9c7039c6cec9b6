use Rattle.std.proofs.Common.{ℕ, ◌≡◌, ◌<◌, ◌≤◌, List, [], length, take, arith, ◌++◌, sym, subst, ap, refl, length-append, length-take}
use Rattle.std.specs.Io.KnownBytes.{Consumes}
use Rattle.fd_http.specs.declared.limits.TheConstants.{LONGEST_PIECE}
use Rattle.fd_http.specs.Remainders.{IfTold, Given}
use Rattle.std.proofs.lemmas.Grind.{common_steps}
use Rattle.fd_http.proofs.GivenLemmas.{given_start, given_body, given_kept, paced_none, paced_more, paced_kept}
use Rattle.fd_http.proofs.InputLemmas.{body_start, body_more}
use Rattle.fd_http.proofs.intake.read_body.Goals as goal

-- the body is not there yet
still_short : (given body inbox : List ℕ) (size : ℕ) → length body < size → inbox ≡ [] → given ≡ body ++ inbox → length given < size
still_short given body inbox size short used is = omega (arith, short, ap length is, length-append body inbox, ap length used)

pub loop-room-init : goal.loop-room-init
loop-room-init g c =
    let begun : c.extend_from_slice.new.self.items ≡ take c.min-here.result c.args.inbox.now = grind (arith, common_steps) in
    record {
      given = given_start (g.S.Source.left c.args.source.now) c.args.inbox.now c.skip.new.self c.extend_from_slice.new.self.items c.min-here.result begun (grind (arith, common_steps));
      alone = λ enough. (grind (arith, common_steps), refl);
      paced = paced_none (g.S.Source.left c.args.source.now) c.args.inbox.now (λ given. length given < c.args.size);
      told = body_start _ c.args.inbox.now c.skip.new.self c.extend_from_slice.new.self.items c.min-here.result begun (grind (arith, common_steps));
      within = grind (arith, common_steps);
      used = λ short. grind (arith, common_steps);
      ahead = grind (arith, common_steps);
      faults = grind (arith, common_steps);
    }

pub loop-room-preserved : goal.loop-room-preserved
loop-room-preserved g c =
    let took : Consumes (g.S.Source.left c.loop-room.source) (g.S.Source.left c.read.new.self) (take c.in-Got.count c.read.new.piece) = c.in-Got.ensures.bytes.0 in
    let grown : c.extend_from_slice-in-Got.new.self.items ≡ c.loop-room.body.items ++ take c.in-Got.count c.read.new.piece = c.in_ok-extend_from_slice-in-Got.ensures.items in
    let short : length c.loop-room.body.items < c.args.size = omega (arith, c.loop-room-test.true) in
    let small : length (take c.in-Got.count c.read.new.piece) ≤ LONGEST_PIECE = grind (arith, common_steps) in
    let P : List ℕ → Type 0 = λ xs. IfTold (g.S.Source.left c.args.source.now) (g.S.Source.left c.read.new.self) c.args.inbox.now c.skip.new.self (λ (rest after : List ℕ). rest ≡ xs ++ after) in
    let G : List ℕ → Type 0 = λ xs. Given (g.S.Source.left c.args.source.now) (g.S.Source.left c.read.new.self) c.args.inbox.now (λ given. given ≡ xs ++ c.skip.new.self) in
    record {
      given = subst G (sym grown) (given_body (g.S.Source.left c.args.source.now) (g.S.Source.left c.loop-room.source) (g.S.Source.left c.read.new.self) c.args.inbox.now c.skip.new.self c.loop-room.body.items (take c.in-Got.count c.read.new.piece) (c.loop-room.invariant.used short) c.loop-room.invariant.given took);
      alone = λ enough. absurd (omega (arith, short, (c.loop-room.invariant.alone enough).0));
      paced = paced_more (g.S.Source.left c.args.source.now) (g.S.Source.left c.loop-room.source) (g.S.Source.left c.read.new.self) c.args.inbox.now (take c.in-Got.count c.read.new.piece) (λ given. given ≡ c.loop-room.body.items ++ c.skip.new.self) (λ given. length given < c.args.size) c.loop-room.invariant.given took small
          (λ xs same. still_short xs c.loop-room.body.items c.skip.new.self c.args.size short (c.loop-room.invariant.used short) same);
      told = subst P (sym grown) (body_more (g.S.Source.left c.args.source.now) (g.S.Source.left c.loop-room.source) (g.S.Source.left c.read.new.self) c.args.inbox.now c.skip.new.self c.loop-room.body.items (take c.in-Got.count c.read.new.piece) (c.loop-room.invariant.used short) c.loop-room.invariant.told took);
      within = grind (arith, common_steps);
      used = λ _. c.loop-room.invariant.used short;
      ahead = c.loop-room.invariant.ahead;
      faults = grind (arith, common_steps);
    }

pub returns-in-Failed-clause-fault : goal.returns-in-Failed-clause-fault
returns-in-Failed-clause-fault g c =
    let short : length c.loop-room.body.items < c.args.size = omega (arith, c.loop-room-test.true) in
    given_kept (g.S.Source.left c.args.source.now) (g.S.Source.left c.loop-room.source) (g.S.Source.left c.read.new.self) c.args.inbox.now (λ given. given ≡ c.loop-room.body.items ++ c.skip.new.self) (λ given. length given < c.args.size) c.loop-room.invariant.given c.in-Failed.ensures.bytes
    (λ xs same. still_short xs c.loop-room.body.items c.skip.new.self c.args.size short (c.loop-room.invariant.used short) same)

pub returns-in-Failed-clause-paced : goal.returns-in-Failed-clause-paced
returns-in-Failed-clause-paced g c =
    paced_kept (g.S.Source.left c.args.source.now) (g.S.Source.left c.loop-room.source) (g.S.Source.left c.read.new.self) c.args.inbox.now (λ given. length given < c.args.size) c.loop-room.invariant.paced c.in-Failed.ensures.bytes

pub returns-in-Got-eq0-clause-paced : goal.returns-in-Got-eq0-clause-paced
returns-in-Got-eq0-clause-paced g c =
    let short : length c.loop-room.body.items < c.args.size = omega (arith, c.loop-room-test.true) in
    let small : length (take c.in-Got-eq0.field-0 c.read.new.piece) ≤ LONGEST_PIECE = omega (arith, length-take c.in-Got-eq0.field-0 c.read.new.piece, c.in-Got-eq0.ensures.bound) in
    paced_more (g.S.Source.left c.args.source.now) (g.S.Source.left c.loop-room.source) (g.S.Source.left c.read.new.self) c.args.inbox.now (take c.in-Got-eq0.field-0 c.read.new.piece) (λ given. given ≡ c.loop-room.body.items ++ c.skip.new.self) (λ given. length given < c.args.size) c.loop-room.invariant.given c.in-Got-eq0.ensures.bytes.0 small
    (λ xs same. still_short xs c.loop-room.body.items c.skip.new.self c.args.size short (c.loop-room.invariant.used short) same)

pub returns-in_err-extend_from_slice-in-Got-clause-paced : goal.returns-in_err-extend_from_slice-in-Got-clause-paced
returns-in_err-extend_from_slice-in-Got-clause-paced g c =
    let short : length c.loop-room.body.items < c.args.size = omega (arith, c.loop-room-test.true) in
    let small : length (take c.in-Got.count c.read.new.piece) ≤ LONGEST_PIECE = grind (arith, common_steps) in
    paced_more (g.S.Source.left c.args.source.now) (g.S.Source.left c.loop-room.source) (g.S.Source.left c.read.new.self) c.args.inbox.now (take c.in-Got.count c.read.new.piece) (λ given. given ≡ c.loop-room.body.items ++ c.skip.new.self) (λ given. length given < c.args.size) c.loop-room.invariant.given c.in-Got.ensures.bytes.0 small
    (λ xs same. still_short xs c.loop-room.body.items c.skip.new.self c.args.size short (c.loop-room.invariant.used short) same)
