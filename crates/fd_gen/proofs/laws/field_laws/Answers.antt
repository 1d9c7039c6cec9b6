use Rattle.fd_gen.proofs.FieldLaws.{is_varint, is_number, is_span}
use Rattle.fd_gen.proofs.laws.field_laws.Goals as goal

pub returns-clause-varint : goal.returns-clause-varint
returns-clause-varint c = is_varint

pub returns-clause-number : goal.returns-clause-number
returns-clause-number c = is_number

pub returns-clause-span : goal.returns-clause-span
returns-clause-span c = is_span
