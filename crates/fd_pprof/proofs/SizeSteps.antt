-- The bytes of frames, added up.
use Rattle.std.proofs.Common.{◌≡◌, ℕ, ◌+◌, ◌-◌, ◌^◌, min, List, [], ◌∷◌, ◌++◌, Option, Some, None, refl, ap, arith, ◌∙◌, sym}
use Rattle.std.specs.Prelude.{slice_get, find, ◌==◌}
use Rattle.std.proofs.lemmas.List.Sums.{sum_by-append, sum_by_push}
use Rattle.std.specs.Option.{unwrap_or, option_map}
use Rattle.std.proofs.lemmas.Option.{slice_get-map}
use Rattle.fd_kinds.specs.RowSize.{text_size}
use Rattle.fd_proto.specs.declared.raw.Raw.{Raw}
use Rattle.fd_proto.specs.declared.raw.RawLocation.{RawLocation}
use Rattle.fd_pprof.specs.Frames.{location_frames, frames_at, frames_of}
use Rattle.fd_pprof.specs.Sizes.{frames_size, location_sizes}

pub more_frames : (xs ys : List (List ℕ)) → min (frames_size xs + frames_size ys) (2 ^ 64 - 1) ≡ frames_size (xs ++ ys)
more_frames xs ys = omega (arith, sum_by-append text_size xs ys)

pub one_frame : (xs : List (List ℕ)) (t : List ℕ) → min (frames_size xs + text_size t) (2 ^ 64 - 1) ≡ frames_size (xs ++ t ∷ [])
one_frame xs t = omega (arith, sum_by_push text_size xs t)

pub ruleset size_steps = (more_frames, one_frame)

-- the size of the frames at an optional location, and 0 for none
size_or : (ts : List (List ℕ)) (p : Raw) (l : Option RawLocation) → unwrap_or (option_map (λ x. frames_size (location_frames ts p x)) l) 0 ≡ frames_size (frames_at ts p l)
size_or ts p None = refl
size_or ts p (Some l) = refl

pub size_found : (ts : List (List ℕ)) (p : Raw) (sizes : List ℕ) (at id : ℕ) → sizes ≡ location_sizes ts p → slice_get p.locations at ≡ find (λ (x : RawLocation). x.id == id) p.locations
    → (n : ℕ) → n ≡ unwrap_or (slice_get sizes at) 0 → n ≡ frames_size (frames_of ts p id)
size_found ts p sizes at id e found n h =
    h
    ∙ ap (λ xs. unwrap_or (slice_get xs at) 0) e
    ∙ ap (λ o. unwrap_or o 0) (slice_get-map (λ x. frames_size (location_frames ts p x)) p.locations at)
    ∙ ap (λ o. unwrap_or (option_map (λ x. frames_size (location_frames ts p x)) o) 0) found
    ∙ size_or ts p (find (λ (x : RawLocation). x.id == id) p.locations)

pub size_missed : (ts : List (List ℕ)) (p : Raw) (id : ℕ) → find (λ (x : RawLocation). x.id == id) p.locations ≡ None → 0 ≡ frames_size (frames_of ts p id)
size_missed ts p id h = sym (ap (λ o. frames_size (frames_at ts p o)) h)
