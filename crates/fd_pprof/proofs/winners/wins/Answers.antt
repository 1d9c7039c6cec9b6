use Rattle.std.proofs.Common.{◌≡◌, ◌∙◌, refl, ap, sym, ℕ, List, Some, None}
use Rattle.std.specs.Prelude.{slice_get}
use Rattle.fd_pprof.specs.Frames.{text}
use Rattle.fd_pprof.specs.Profile.{pair_of}
use Rattle.fd_pprof.specs.Winners.{text_numbers}
use Rattle.fd_pprof.proofs.WinnerSteps.{seen_more, not_there}
use Rattle.fd_pprof.proofs.winners.wins.Goals as goal

pub returns-in_ok-insert-in-Some-clause-seen : goal.returns-in_ok-insert-in-Some-clause-seen
returns-in_ok-insert-in-Some-clause-seen c =
    let ts = c.args.tables.now.texts in
    let label = c.args.label in
    let at : slice_get (text_numbers ts) label.key ≡ Some c.in-Some.number.now = ap (λ (ns : List ℕ). slice_get ns label.key) (sym c.args.tables.now.numbered) ∙ sym c.in-Some.ensures in
    λ behind before. seen_more ts behind (pair_of ts label) c.args.seen.now c.insert.new.self label.key c.in-Some.number.now (sym c.if-not-is_kept.ensures) refl at c.in_ok-insert-in-Some.ensures.updates.0 before

pub returns-in-None-clause-wins : goal.returns-in-None-clause-wins
returns-in-None-clause-wins c =
    let ts = c.args.tables.now.texts in
    let label = c.args.label in
    let none : slice_get (text_numbers ts) label.key ≡ None = ap (λ (ns : List ℕ). slice_get ns label.key) (sym c.args.tables.now.numbered) ∙ sym c.in-None.ensures in
    absurd (not_there ts label.key (text ts label.text) none (sym c.if-not-is_kept.ensures))

pub returns-in-None-clause-seen : goal.returns-in-None-clause-seen
returns-in-None-clause-seen c =
    let ts = c.args.tables.now.texts in
    let label = c.args.label in
    let none : slice_get (text_numbers ts) label.key ≡ None = ap (λ (ns : List ℕ). slice_get ns label.key) (sym c.args.tables.now.numbered) ∙ sym c.in-None.ensures in
    absurd (not_there ts label.key (text ts label.text) none (sym c.if-not-is_kept.ensures))
