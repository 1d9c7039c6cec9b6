-- What a part without rows means.
use Rattle.std.specs.Prelude.{ℕ, true, []}
use Rattle.fd_kinds.specs.Parts.{PartMeaning}
use Rattle.stubs.specs.declared.stub.Stub.{Stub}

abbrev pub stub_meaning : Stub → PartMeaning
stub_meaning part = record { lo = part.lo; hi = part.hi; sealed = part.sealed; rows = [] }

-- the sealed part of a range
abbrev pub sealed_stub : ℕ → ℕ → PartMeaning
sealed_stub lo hi = record { lo = lo; hi = hi; sealed = true; rows = [] }
