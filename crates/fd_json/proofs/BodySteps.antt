-- What the loops over sent profiles and series have gathered.
use Rattle.std.proofs.Common.{◌≡◌, ℕ, ◌+◌, List, [], ◌∷◌, ◌++◌, length, Option, Some, None, Result, Ok, Err, refl, sym, ap, ◌∙◌, arith, append_assoc, append-nil}
use Rattle.fd_kinds.specs.declared.pair.Pair.{Pair}
use Rattle.fd_kinds.specs.declared.body.RawSeries.{RawSeries}
use Rattle.fd_json.specs.declared.fault.BodyFault.{BodyFault}
use Rattle.fd_json.specs.declared.fault.BodyFault.TheVariants.{BadBase64}
use Rattle.fd_json.specs.declared.shape.SentSeries.{SentSeries}
use Rattle.fd_json.specs.Body.{onto, and_then, profiles_from, series_from}

abbrev pub Maybe : Type 0
Maybe = Option (List ℕ)

same_result : {A : Type 0} (r : Result A BodyFault) → onto (λ a. a) r ≡ r
same_result (Ok a) = refl
same_result (Err e) = refl

moved : {A : Type 0} (done : List A) (y : A) (r : Result (List A) BodyFault) → onto (λ more. done ++ more) (onto (λ more. y ∷ more) r) ≡ onto (λ more. (done ++ y ∷ []) ++ more) r
moved done y (Ok ys) = ap (λ l. Ok l) (sym (append_assoc done (y ∷ []) ys))
moved done y (Err e) = refl

pub record Decodes (series : ℕ) (sent : List Maybe) (sample : ℕ) (done : List (List ℕ)) (rest : List Maybe) : Type 0 where
  pub is : onto (λ more. done ++ more) (profiles_from series sample rest) ≡ profiles_from series 0 sent
  pub count : sample + length rest ≡ length sent

pub decodes_none : (series : ℕ) (sent : List Maybe) → Decodes series sent 0 [] sent
decodes_none series sent = record { is = same_result (profiles_from series 0 sent); count = omega arith }

pub decodes_more : (series : ℕ) (sent : List Maybe) (sample : ℕ) (done : List (List ℕ)) (rest later : List Maybe) (bytes : List ℕ)
    → Decodes series sent sample done rest → rest ≡ Some bytes ∷ later → Decodes series sent (sample + 1) (done ++ bytes ∷ []) later
decodes_more series sent sample done rest later bytes d next = record {
  is = sym (moved done bytes (profiles_from series (sample + 1) later)) ∙ ap (λ r. onto (λ more. done ++ more) (profiles_from series sample r)) (sym next) ∙ d.is;
  count = omega (arith, d.count, ap length next);
}

pub decodes_refused : (series : ℕ) (sent : List Maybe) (sample : ℕ) (done : List (List ℕ)) (rest later : List Maybe)
    → Decodes series sent sample done rest → rest ≡ None ∷ later → profiles_from series 0 sent ≡ Err (BadBase64 series sample)
decodes_refused series sent sample done rest later d next = sym d.is ∙ ap (λ r. onto (λ more. done ++ more) (profiles_from series sample r)) next

pub decodes_all : (series : ℕ) (sent : List Maybe) (sample : ℕ) (done : List (List ℕ)) (rest : List Maybe)
    → Decodes series sent sample done rest → rest ≡ [] → profiles_from series 0 sent ≡ Ok done
decodes_all series sent sample done rest d end =
    sym d.is ∙ ap (λ r. onto (λ more. done ++ more) (profiles_from series sample r)) end ∙ ap (λ l. Ok l) (append-nil done)

pub record Collects (sent : List SentSeries) (n : ℕ) (done : List RawSeries) (rest : List SentSeries) : Type 0 where
  pub is : onto (λ more. done ++ more) (series_from n rest) ≡ series_from 0 sent
  pub count : n + length rest ≡ length sent

pub collects_none : (sent : List SentSeries) → Collects sent 0 [] sent
collects_none sent = record { is = same_result (series_from 0 sent); count = omega arith }

with_profiles : (n : ℕ) (labels : List Pair) (later : List SentSeries) → List (List ℕ) → Result (List RawSeries) BodyFault
with_profiles n labels later profiles = onto (λ more. record { labels = labels; profiles = profiles } ∷ more) (series_from (n + 1) later)

pub collects_more : (sent : List SentSeries) (n : ℕ) (done : List RawSeries) (rest later : List SentSeries) (labels : List Pair) (maybe : List Maybe) (profiles : List (List ℕ))
    → Collects sent n done rest → rest ≡ record { labels = labels; profiles = maybe } ∷ later → profiles_from n 0 maybe ≡ Ok profiles
    → Collects sent (n + 1) (done ++ record { labels = labels; profiles = profiles } ∷ []) later
unfolding with_profiles
collects_more sent n done rest later labels maybe profiles d next ok = record {
  is =
      sym (moved done (record { labels = labels; profiles = profiles }) (series_from (n + 1) later))
      ∙ ap (λ r. onto (λ more. done ++ more) (and_then (with_profiles n labels later) r)) (sym ok)
      ∙ ap (λ r. onto (λ more. done ++ more) (series_from n r)) (sym next)
      ∙ d.is;
  count = omega (arith, d.count, ap length next);
}

pub collects_refused : (sent : List SentSeries) (n : ℕ) (done : List RawSeries) (rest later : List SentSeries) (labels : List Pair) (maybe : List Maybe) (e : BodyFault)
    → Collects sent n done rest → rest ≡ record { labels = labels; profiles = maybe } ∷ later → profiles_from n 0 maybe ≡ Err e → series_from 0 sent ≡ Err e
unfolding with_profiles
collects_refused sent n done rest later labels maybe e d next err =
    sym d.is
    ∙ ap (λ r. onto (λ more. done ++ more) (series_from n r)) next
    ∙ ap (λ r. onto (λ more. done ++ more) (and_then (with_profiles n labels later) r)) err

pub collects_all : (sent : List SentSeries) (n : ℕ) (done : List RawSeries) (rest : List SentSeries)
    → Collects sent n done rest → rest ≡ [] → series_from 0 sent ≡ Ok done
collects_all sent n done rest d end =
    sym d.is ∙ ap (λ r. onto (λ more. done ++ more) (series_from n r)) end ∙ ap (λ l. Ok l) (append-nil done)

pub ruleset decode_steps = (decodes_none, decodes_more, decodes_refused, decodes_all)

pub ruleset collect_steps = (collects_none, collects_more, collects_refused, collects_all)
