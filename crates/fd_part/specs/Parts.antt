-- What a part means.
use Rattle.fd_kinds.specs.Parts.{PartMeaning, IsPart, loose_part}
use Rattle.fd_kinds.proofs.PartLaws.{loose_part_is_part}
use Rattle.fd_part.specs.Ranges.{meaning_of}
use Rattle.fd_part.specs.declared.sealed_range.SealedRange.{SealedRange}
use Rattle.fd_part.specs.declared.part.Form.{Form}
use Rattle.fd_part.specs.declared.part.Form.TheVariants.{Loose, Sealed}
use Rattle.fd_part.specs.declared.part.Part.{Part}

-- the rows of a range are a sealed part
abbrev pub range_meaning : SealedRange → PartMeaning
range_meaning range = meaning_of range.rows

-- a loose part of one batch with its number, or the rows of a range with their file
abbrev pub form_meaning : Form → PartMeaning
form_meaning (Loose number columns) = loose_part number columns
form_meaning (Sealed range) = range_meaning range

abbrev pub part_meaning : Part → PartMeaning
part_meaning part = form_meaning part.form

-- the rows of each form lie in its range
pub form_is_part : (form : Form) → IsPart (form_meaning form)
form_is_part (Loose number columns) = loose_part_is_part number columns
form_is_part (Sealed range) = range.in_range
