use Rattle.std.proofs.Common.{rules, ◌≡◌, ℕ, List, [], ◌∷◌, Err, refl, sym, subst, ap, ◌∙◌}
use Rattle.std.proofs.lemmas.Result.{err_from_is_err_and}
use Rattle.fd_kinds.specs.declared.row.Row.{Row}
use Rattle.fd_kinds.specs.declared.store.WriteRefusal.TheVariants.{NoMemory}
use Rattle.fd_kinds.specs.Parts.{rows_of, with_number}
use Rattle.fd_part.specs.Parts.{part_meaning}
use Rattle.fd_rule.specs.Seats.{seat_count}
use Rattle.fd_pool.specs.Sweeps.{HasSwept}
use Rattle.fd_pool.specs.Writes.{Took}
use Rattle.fd_pooled.specs.Calls.{HasWrittenOr}
use Rattle.fd_pooled.proofs.Passing.{kept_self}
use Rattle.fd_pooled.proofs.writes.write_batch.Goals as goal

-- rows do not change by their numbers
rows_of_numbered : (n : ℕ) (rows : List Row) → rows_of (with_number n rows) ≡ rows
rows_of_numbered n [] = refl
rows_of_numbered n (r ∷ rows) = ap (λ rs. r ∷ rs) (rows_of_numbered n rows)

pub returns-in_err-part-clause-gives : goal.returns-in_err-part-clause-gives
returns-in_err-part-clause-gives g c = let v = c.args.seat.now.inner.me.0 in let p = err_from_is_err_and c.from_residual.result c.from_residual.ensures.1 in
    let is : c.from_residual.result ≡ Err NoMemory = p.1 ∙ ap (λ e. Err e) p.2 in
    subst (λ r. HasWrittenOr (seat_count c.args.seat.now) v c.args.batch.rows r v) (sym is) (kept_self v)

pub returns-in-Ok-clause-gives : goal.returns-in-Ok-clause-gives
returns-in-Ok-clause-gives g c = let ready = c.ready.new.seat.inner.me.0 in let landed = c.draw_and_land.new.seat.inner.me.0 in
    let rows : rows_of (part_meaning c.in_ok-part.part).rows ≡ c.args.batch.rows = ap (λ p. rows_of p.rows) c.in_ok-part.ensures ∙ rows_of_numbered 0 c.args.batch.rows in
    let count : seat_count c.draw_and_land.new.seat ≡ seat_count c.args.seat.now = search rules in record {
      sorted = c.batch_laws.ensures.sorted c.args.batch.rows c.args.batch.sorted;
      ready = ready;
      waited = c.ready.ensures.kept;
      landed = landed;
      took = subst (λ (rs : List Row). Took ready rs c.in-Ok.receipt.number landed) rows c.in-Ok.ensures.ok;
      sweep = c.try_sweep.result;
      swept = subst (λ (n : ℕ). HasSwept n landed c.try_sweep.result c.try_sweep.new.seat.inner.me.0) count c.try_sweep.ensures.swept;
    }
