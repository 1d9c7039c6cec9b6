-- A scan that passes one more seat.
use Rattle.std.proofs.Common.{◌≡◌, ℕ, ◌+◌, min, ◌∷◌, sym, ap, ◌∙◌, arith}
use Rattle.fd_rule.specs.Kinds.MarkLoad.{with_scan}
use Rattle.fd_rule.specs.Kinds.PinScan.{with_passed}
use Rattle.fd_rule.specs.Tables.{Seated}
use Rattle.fd_rule.specs.View.{View}
use Rattle.fd_pins.specs.Scans.{IsScan, with_limit}

pub scan_more : {P : Type 0} (at pin limit limit' : ℕ) (old : View) (m m' : Seated P) → IsScan at old limit m.0 → m' ≡ (with_passed pin m.0, m.1) → limit' ≡ min limit pin → IsScan (at + 1) old limit' m'.0
scan_more {P} at pin limit limit' old m m' r is now = let all = r.all in record {
  mark = r.mark;
  loaded = r.loaded;
  pins = pin ∷ r.pins;
  all = omega (arith, all);
  is_least = now ∙ ap (λ n. min n pin) r.is_least;
  becomes = ap (λ (x : Seated P). x.0) is ∙ (ap (λ v. with_passed pin v) r.becomes ∙ ap (λ n. with_limit n (at + 1) (with_scan r.mark old)) (sym now));
}
