-- The text of a made body: compact JSON, as `POST /profiles/writeraw` takes it.
use Rattle.std.specs.Prelude.{ℕ, Bool, List, [], ◌++◌, codes, decimal, if◌then◌else◌}
use Rattle.base64.specs.Engines.{standard}
use Rattle.base64.specs.GeneralPurpose.{encode_of}
use Rattle.rand_pcg.specs.Lcg.{Lcg}
use Rattle.fd_gen.specs.declared.draws.Choices.{Choices}
use Rattle.fd_gen.specs.Draws.{choices_of}
use Rattle.fd_gen.specs.Profile.{profile}

-- a label as an object
abbrev pub label : List ℕ → List ℕ → List ℕ
label name value = codes "{\"name\":\"" ++ name ++ codes "\",\"value\":\"" ++ value ++ codes "\"}"

abbrev pub job_label : ℕ → List ℕ
job_label job = label (codes "job") (codes "job-" ++ decimal job)

-- the label that only production has, behind a comma
abbrev pub environment : Bool → List ℕ
environment is_production = if is_production then codes "," ++ label (codes "env") (codes "prod") else []

abbrev pub labels : Choices → List ℕ
labels c =
    label (codes "__name__") (codes "gen_cpu") ++ codes "," ++ job_label c.job ++ environment c.is_production

-- one series with its labels and one sample, the profile in base64 (RFC 4648, section 4)
abbrev pub body : ℕ → Choices → List ℕ
body k c =
    codes "{\"series\":[{\"labels\":{\"labels\":[" ++ labels c
    ++ codes "]},\"samples\":[{\"rawProfile\":\"" ++ encode_of standard (profile k c.samples) ++ codes "\"}]}]}"

-- a made body, and the generator behind what was drawn for it
pub record Made : Type 0 where
  pub body : List ℕ
  pub generator : Lcg

-- the body k
abbrev pub made : ℕ → Lcg → Made
made k g = record { body = body k (choices_of g).0; generator = (choices_of g).1 }
