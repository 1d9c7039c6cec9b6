use Rattle.std.proofs.Common.{◌≡◌, drop}
use Rattle.fd_thrift.specs.View.{fields_view}
use Rattle.fd_footer.specs.Lookups.{field_in}
use Rattle.fd_footer.proofs.lookup.find.Given as goal

-- what is found in all fields is found in those that are left
abbrev pub invariant-loop-field : goal.invariant-loop-field
invariant-loop-field l = field_in l.id (fields_view (drop l.field-index l.fields)) ≡ field_in l.id (fields_view l.fields)
