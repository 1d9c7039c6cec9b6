-- What images of a disk recover to, once a batch is added to its logs.
use Rattle.std.specs.Prelude.{◌≡◌, ◌⊎◌, ℕ, zero, suc, ◌≤◌, List, [], ◌∷◌, ◌++◌, length, take, refl}
use Rattle.std.proofs.Common.{arith, ap, sym, ◌∙◌, subst, inl, inr}
use Rattle.std.proofs.lemmas.List.{append-nil, length-map, take_all}
use Rattle.fd_kinds.specs.declared.batch.NumberedBatch.{NumberedBatch}
use Rattle.fd_kinds.specs.History.{History}
use Rattle.fd_device.specs.Disks.{Files}
use Rattle.fd_wal.specs.Runs.{rows_in}
use Rattle.fd_keeper.specs.Blocks.{RecoversTo, Extends}
use Rattle.fd_durable.specs.Durable.{Whole}

one_more_by : (k : ℕ) (old held batches : History) (image : Files) → old ≡ held → length batches ≡ 1 → k ≤ 1 → RecoversTo (old ++ take k batches) image → Whole held batches image
one_more_by zero old held batches image same one within is = inl (subst (λ (h : History). RecoversTo h image) (append-nil old ∙ same) is)
one_more_by (suc zero) old held batches image same one within is =
    inr (subst (λ (h : History). RecoversTo h image) (ap (λ (h : History). h ++ take 1 batches) same ∙ ap (λ (more : History). held ++ more) (take_all 1 batches (omega (arith, one)))) is)
one_more_by (suc (suc k)) old held batches image same one within is = absurd (omega (arith, within))

-- the history, or it and the one batch
pub one_more : (old held : History) (batches : List NumberedBatch) → old ≡ held → length batches ≡ 1 → (image : Files) → Extends old (rows_in batches) image → Whole held (rows_in batches) image
one_more old held batches same one image extends =
    let long : length (rows_in batches) ≡ 1 = length-map batches (λ (b : NumberedBatch). b.batch.rows) ∙ one in
    let within = extends.within in
    one_more_by extends.count old held (rows_in batches) image same long (omega (arith, within, long)) extends.recovers
