use Rattle.std.proofs.Common.{refl, ℕ, ◌≡◌, ◌≤◌, ◌<◌, List, [], ◌++◌, length, take, arith, sym, subst, ap, ◌∙◌, length-append, length-take}
use Rattle.fd_http.specs.declared.limits.TheConstants.{LONGEST_FRONT, LONGEST_PIECE}
use Rattle.fd_http.specs.Arrivals.{IsUnfinished}
use Rattle.fd_http.specs.Front.{HasNoFront}
use Rattle.fd_http.specs.Search.{HasSearched}
use Rattle.fd_http.specs.Inputs.{LongFront}
use Rattle.fd_http.specs.Remainders.{IfTold, Given}
use Rattle.fd_http.proofs.RemainderLemmas.{told_then, told_same}
use Rattle.fd_http.proofs.InputLemmas.{long_front, cut_front, read_more}
use Rattle.fd_http.proofs.GivenLemmas.{given_none, given_more, given_kept, paced_none, paced_more, paced_kept, unfinished_front, no_front_in}
use Rattle.fd_http.proofs.SearchLemmas.{searched_append}
use Rattle.fd_http.proofs.intake.fill_front.Goals as goal

unfronted : (inbox bytes : List ℕ) → bytes ≡ inbox → HasNoFront (take LONGEST_FRONT bytes) → HasNoFront (take LONGEST_FRONT inbox)
unfronted inbox bytes is none = let L : List ℕ → Type 0 = λ xs. HasNoFront (take LONGEST_FRONT xs) in subst L is none

pub returns-then-len-ge-LONGEST_FRONT-clause-fills : goal.returns-then-len-ge-LONGEST_FRONT-clause-fills
returns-then-len-ge-LONGEST_FRONT-clause-fills g c =
    let R : List ℕ → Type 0 = λ rest. LongFront rest in
    let many : LONGEST_FRONT ≤ length c.loop-size.inbox = omega (arith, ap length c.as_slice-bytes.ensures) in
    let L : List ℕ → Type 0 = λ xs. HasNoFront (take LONGEST_FRONT xs) in
    let none : HasNoFront (take LONGEST_FRONT c.loop-size.inbox) = subst L c.as_slice-bytes.ensures c.in_default.ensures.none in
    told_then _ _ _ _ (λ (rest after : List ℕ). rest ≡ after) (λ (rest after : List ℕ). LongFront rest) c.loop-size.invariant.told
    (λ x y same. subst R (sym same) (long_front c.loop-size.inbox y many none))

pub returns-in-Got-eq0-clause-fills : goal.returns-in-Got-eq0-clause-fills
returns-in-Got-eq0-clause-fills g c =
    let L : List ℕ → Type 0 = λ xs. HasNoFront (take LONGEST_FRONT xs) in
    let none : HasNoFront (take LONGEST_FRONT c.loop-size.inbox) = subst L c.as_slice-bytes.ensures c.in_default.ensures.none in
    let zero : c.in-Got-eq0.field-0 ≡ 0 = omega arith in
    let empty : take c.in-Got-eq0.field-0 c.read.new.piece ≡ [] = ap (λ (k : ℕ). take k c.read.new.piece) zero in
    cut_front (g.S.Source.left c.args.source.now) (g.S.Source.left c.loop-size.source) (g.S.Source.left c.read.new.self) c.args.inbox.now c.loop-size.inbox
    (take c.in-Got-eq0.field-0 c.read.new.piece) c.loop-size.invariant.told c.in-Got-eq0.ensures.bytes.0 (c.in-Got-eq0.ensures.bytes.1 zero) empty
    (omega (arith, ap length c.as_slice-bytes.ensures)) (omega (arith, ap length c.as_slice-bytes.ensures)) none

pub loop-size-init : goal.loop-size-init
loop-size-init g c = record {
  told = told_same (g.S.Source.left c.args.source.now) c.args.inbox.now;
  given = given_none (g.S.Source.left c.args.source.now) c.args.inbox.now (λ given. given ≡ c.args.inbox.now) refl;
  alone = λ n at. (refl, refl);
  paced = paced_none (g.S.Source.left c.args.source.now) c.args.inbox.now IsUnfinished;
  faults = refl;
  searched = c.new-search.ensures.searched c.args.inbox.now;
  ahead = omega arith;
  short = omega (arith, c.new-search.ensures.place);
}

pub loop-size-preserved : goal.loop-size-preserved
loop-size-preserved g c =
    let here : length c.as_slice-bytes.result.now ≡ length c.loop-size.inbox = ap length c.as_slice-bytes.ensures in
    let few : length c.loop-size.inbox < LONGEST_FRONT = omega arith in
    let S : List ℕ → Type 0 = λ xs. HasSearched xs c.find_front.new.search in
    let searched : HasSearched c.loop-size.inbox c.find_front.new.search = subst S c.as_slice-bytes.ensures (c.in_default.ensures.searched (omega arith)) in
    let grown : c.extend.new.self ≡ c.loop-size.inbox ++ take c.in-Got.count c.read.new.piece = c.in_ok-extend-in-Got.ensures.ok in
    let T : List ℕ → Type 0 = λ xs. IfTold (g.S.Source.left c.args.source.now) (g.S.Source.left c.read.new.self) c.args.inbox.now xs (λ (rest after : List ℕ). rest ≡ after) in
    let faults : g.S.Source.faults c.read.new.self ≡ g.S.Source.faults c.loop-size.source = c.in-Got.ensures.cause in
    let none : HasNoFront (take LONGEST_FRONT c.loop-size.inbox) = unfronted c.loop-size.inbox c.as_slice-bytes.result.now c.as_slice-bytes.ensures c.in_default.ensures.none in
    let G : List ℕ → Type 0 = λ xs. Given (g.S.Source.left c.args.source.now) (g.S.Source.left c.read.new.self) c.args.inbox.now (λ given. given ≡ xs) in
    let small : length (take c.in-Got.count c.read.new.piece) ≤ LONGEST_PIECE = omega (arith, length-take c.in-Got.count c.read.new.piece, c.in-Got.ensures.bound) in
    record {
      paced = paced_more (g.S.Source.left c.args.source.now) (g.S.Source.left c.loop-size.source) (g.S.Source.left c.read.new.self) c.args.inbox.now (take c.in-Got.count c.read.new.piece) (λ given. given ≡ c.loop-size.inbox) IsUnfinished c.loop-size.invariant.given c.in-Got.ensures.bytes.0 small
          (λ xs same. unfinished_front c.loop-size.inbox xs few none same);
      given = subst G (sym grown) (given_more (g.S.Source.left c.args.source.now) (g.S.Source.left c.loop-size.source) (g.S.Source.left c.read.new.self) c.args.inbox.now (take c.in-Got.count c.read.new.piece) (λ given. given ≡ c.loop-size.inbox) (λ given. given ≡ c.loop-size.inbox ++ take c.in-Got.count c.read.new.piece) c.loop-size.invariant.given c.in-Got.ensures.bytes.0
          (λ xs same. ap (λ (ys : List ℕ). ys ++ take c.in-Got.count c.read.new.piece) same));
      alone = λ n at. absurd (no_front_in c.loop-size.inbox c.args.inbox.now n at (c.loop-size.invariant.alone n at).1 none);
      told = subst T (sym grown) (read_more (g.S.Source.left c.args.source.now) (g.S.Source.left c.loop-size.source) (g.S.Source.left c.read.new.self) c.args.inbox.now c.loop-size.inbox (take c.in-Got.count c.read.new.piece) c.loop-size.invariant.told c.in-Got.ensures.bytes.0);
      faults = faults ∙ c.loop-size.invariant.faults;
      searched = subst S (sym grown) (searched_append c.loop-size.inbox (take c.in-Got.count c.read.new.piece) c.find_front.new.search searched);
      ahead = omega (arith, few, ap length grown, length-append c.loop-size.inbox (take c.in-Got.count c.read.new.piece), length-take c.in-Got.count c.read.new.piece, c.in-Got.ensures.bound);
      short = omega (arith, searched.within, few);
    }

pub returns-in-Failed-clause-fault : goal.returns-in-Failed-clause-fault
returns-in-Failed-clause-fault g c =
    let few : length c.loop-size.inbox < LONGEST_FRONT = omega (arith, ap length c.as_slice-bytes.ensures) in
    let none : HasNoFront (take LONGEST_FRONT c.loop-size.inbox) = unfronted c.loop-size.inbox c.as_slice-bytes.result.now c.as_slice-bytes.ensures c.in_default.ensures.none in
    given_kept (g.S.Source.left c.args.source.now) (g.S.Source.left c.loop-size.source) (g.S.Source.left c.read.new.self) c.args.inbox.now (λ given. given ≡ c.loop-size.inbox) IsUnfinished c.loop-size.invariant.given c.in-Failed.ensures.bytes
    (λ xs same. unfinished_front c.loop-size.inbox xs few none same)

pub returns-in-Failed-clause-alone : goal.returns-in-Failed-clause-alone
returns-in-Failed-clause-alone g c n at =
    absurd (no_front_in c.loop-size.inbox c.args.inbox.now n at (c.loop-size.invariant.alone n at).1 (unfronted c.loop-size.inbox c.as_slice-bytes.result.now c.as_slice-bytes.ensures c.in_default.ensures.none))

pub returns-in-Got-eq0-clause-alone : goal.returns-in-Got-eq0-clause-alone
returns-in-Got-eq0-clause-alone g c n at =
    absurd (no_front_in c.loop-size.inbox c.args.inbox.now n at (c.loop-size.invariant.alone n at).1 (unfronted c.loop-size.inbox c.as_slice-bytes.result.now c.as_slice-bytes.ensures c.in_default.ensures.none))

pub returns-in_err-extend-in-Got-clause-alone : goal.returns-in_err-extend-in-Got-clause-alone
returns-in_err-extend-in-Got-clause-alone g c n at =
    absurd (no_front_in c.loop-size.inbox c.args.inbox.now n at (c.loop-size.invariant.alone n at).1 (unfronted c.loop-size.inbox c.as_slice-bytes.result.now c.as_slice-bytes.ensures c.in_default.ensures.none))

pub returns-in-Failed-clause-paced : goal.returns-in-Failed-clause-paced
returns-in-Failed-clause-paced g c =
    paced_kept (g.S.Source.left c.args.source.now) (g.S.Source.left c.loop-size.source) (g.S.Source.left c.read.new.self) c.args.inbox.now IsUnfinished c.loop-size.invariant.paced c.in-Failed.ensures.bytes

pub returns-in-Got-eq0-clause-paced : goal.returns-in-Got-eq0-clause-paced
returns-in-Got-eq0-clause-paced g c =
    let few : length c.loop-size.inbox < LONGEST_FRONT = omega (arith, ap length c.as_slice-bytes.ensures) in
    let none : HasNoFront (take LONGEST_FRONT c.loop-size.inbox) = unfronted c.loop-size.inbox c.as_slice-bytes.result.now c.as_slice-bytes.ensures c.in_default.ensures.none in
    let small : length (take c.in-Got-eq0.field-0 c.read.new.piece) ≤ LONGEST_PIECE = omega (arith, length-take c.in-Got-eq0.field-0 c.read.new.piece, c.in-Got-eq0.ensures.bound) in
    paced_more (g.S.Source.left c.args.source.now) (g.S.Source.left c.loop-size.source) (g.S.Source.left c.read.new.self) c.args.inbox.now (take c.in-Got-eq0.field-0 c.read.new.piece) (λ given. given ≡ c.loop-size.inbox) IsUnfinished c.loop-size.invariant.given c.in-Got-eq0.ensures.bytes.0 small
    (λ xs same. unfinished_front c.loop-size.inbox xs few none same)

pub returns-in_err-extend-in-Got-clause-paced : goal.returns-in_err-extend-in-Got-clause-paced
returns-in_err-extend-in-Got-clause-paced g c =
    let few : length c.loop-size.inbox < LONGEST_FRONT = omega (arith, ap length c.as_slice-bytes.ensures) in
    let none : HasNoFront (take LONGEST_FRONT c.loop-size.inbox) = unfronted c.loop-size.inbox c.as_slice-bytes.result.now c.as_slice-bytes.ensures c.in_default.ensures.none in
    let small : length (take c.in-Got.count c.read.new.piece) ≤ LONGEST_PIECE = omega (arith, length-take c.in-Got.count c.read.new.piece, c.in-Got.ensures.bound) in
    paced_more (g.S.Source.left c.args.source.now) (g.S.Source.left c.loop-size.source) (g.S.Source.left c.read.new.self) c.args.inbox.now (take c.in-Got.count c.read.new.piece) (λ given. given ≡ c.loop-size.inbox) IsUnfinished c.loop-size.invariant.given c.in-Got.ensures.bytes.0 small
    (λ xs same. unfinished_front c.loop-size.inbox xs few none same)
