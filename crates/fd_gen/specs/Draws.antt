-- What is drawn for one body, word by word.
use Rattle.std.specs.Prelude.{ℕ, zero, suc, ◌+◌, ◌%◌, ◌==◌, List, [], ◌∷◌, ◌++◌}
use Rattle.rand_pcg.specs.Lcg.{Lcg}
use Rattle.rand_pcg.specs.Pcg.{pcg32}
use Rattle.fd_gen.specs.declared.draws.Sample.{Sample}
use Rattle.fd_gen.specs.declared.draws.Choices.{Choices}

-- the next word of the generator, modulo m, and the generator after it
abbrev pub draw : ℕ → Lcg → ℕ × Lcg
draw m g = ((pcg32 g).0 % m, (pcg32 g).1)

-- so many of one kind, each drawn behind those before it, and the generator after them
abbrev pub several : {A : Type 0} → ℕ → (Lcg → A × Lcg) → Lcg → List A × Lcg
several zero one g = ([], g)
several (suc n) one g =
    let before = several n one g in
    let last = one before.1 in
    (before.0 ++ last.0 ∷ [], last.1)

-- 1 to 8 functions, the leaf first, each one of 50, and then a value from 1 to 1,000
abbrev pub sample_of : Lcg → Sample × Lcg
sample_of g =
    let depth = draw 8 g in
    let functions = several (1 + depth.0) (draw 50) depth.1 in
    let value = draw 1000 functions.1 in
    (record { functions = functions.0; value = 1 + value.0 }, value.1)

-- the job, one of 4; whether it runs in production, at one of two words; and 1 to 20 samples
abbrev pub choices_of : Lcg → Choices × Lcg
choices_of g =
    let job = draw 4 g in
    let environment = draw 2 job.1 in
    let count = draw 20 environment.1 in
    let samples = several (1 + count.0) sample_of count.1 in
    (record { job = job.0; is_production = environment.0 == 1; samples = samples.0 }, samples.1)
