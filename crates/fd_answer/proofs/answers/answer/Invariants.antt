use Rattle.std.proofs.Common.{take}
use Rattle.std.specs.Prelude.{flat_map}
use Rattle.fd_kinds.specs.Parts.{rows_of}
use Rattle.fd_part.specs.Parts.{part_meaning}
use Rattle.fd_scan.specs.Aggregates.{AreGathered}
use Rattle.fd_answer.proofs.answers.answer.Given as goal

abbrev pub invariant-loop-picked : goal.invariant-loop-picked
invariant-loop-picked l = AreGathered l.query (flat_map (λ i. rows_of (part_meaning i.part).rows) (take l.picked-index l.parts)) l.gathered
