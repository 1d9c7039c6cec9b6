use Rattle.std.proofs.Common.{◌<◌, ◌-◌, ◌∙◌, ◌∷◌, [], ap, map, drop, get_or, sym, subst, arith, List}
use Rattle.std.proofs.lemmas.List.{map-append}
use Rattle.fd_kinds.specs.declared.pair.Pair.{Pair}
use Rattle.fd_proto.specs.declared.raw.RawLabel.{RawLabel}
use Rattle.fd_pprof.specs.Profile.{pair_of}
use Rattle.fd_pprof.specs.Winners.{AreSeen, AreWinners}
use Rattle.fd_pprof.proofs.WinnerSteps.{won, lost, one_before}
use Rattle.fd_pprof.proofs.winners.winners.Goals as goal

pub loop-i-preserved : goal.loop-i-preserved
loop-i-preserved c =
    let ts = c.args.tables.now.texts in
    let raw = c.args.raw.now in
    let i = c.loop-i.i in
    let some : 0 < i = omega arith in
    let none : RawLabel = record { key = 0; text = 0 } in
    let front = one_before (pair_of ts) raw i none some c.loop-i.invariant.within in
    let behind = map (pair_of ts) (drop i raw) in
    let p = pair_of ts (get_or raw (i - 1) none) in
    let kept = map (pair_of ts) c.loop-i.labels in
    let more = won kept behind p (sym (c.in_ok-counts.ensures.wins behind c.loop-i.invariant.seen) ∙ c.if-not-counts.false) c.loop-i.invariant.won in
    let pushed = ap (map (pair_of ts)) c.in_ok-push.ensures.ok ∙ map-append (pair_of ts) c.loop-i.labels (get_or raw (i - 1) none ∷ []) in
    record {
      within = omega arith;
      seen = subst (λ (ps : List Pair). AreSeen ts ps c.wins.new.seen) (sym front) (c.in_ok-counts.ensures.seen behind c.loop-i.invariant.seen);
      won = subst (λ (ps : List Pair). AreWinners (map (pair_of ts) c.push.new.self) ps) (sym front) (subst (λ (ks : List Pair). AreWinners ks (p ∷ behind)) (sym pushed) more);
    }

pub loop-i-preserved-then-not-counts : goal.loop-i-preserved-then-not-counts
loop-i-preserved-then-not-counts c =
    let ts = c.args.tables.now.texts in
    let raw = c.args.raw.now in
    let i = c.loop-i.i in
    let some : 0 < i = omega arith in
    let none : RawLabel = record { key = 0; text = 0 } in
    let front = one_before (pair_of ts) raw i none some c.loop-i.invariant.within in
    let behind = map (pair_of ts) (drop i raw) in
    let p = pair_of ts (get_or raw (i - 1) none) in
    let kept = map (pair_of ts) c.loop-i.labels in
    record {
      within = omega arith;
      seen = subst (λ (ps : List Pair). AreSeen ts ps c.wins.new.seen) (sym front) (c.in_ok-counts.ensures.seen behind c.loop-i.invariant.seen);
      won = subst (λ (ps : List Pair). AreWinners kept ps) (sym front) (lost kept behind p (sym (c.in_ok-counts.ensures.wins behind c.loop-i.invariant.seen) ∙ c.if-not-counts.true) c.loop-i.invariant.won);
    }
