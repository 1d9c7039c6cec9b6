use Rattle.std.proofs.Common.{◌≡◌, ◌++◌, drop, map}
use Rattle.std.specs.Prelude.{not}
use Rattle.std.specs.List.{list_any}
use Rattle.std.specs.Str.{is_utf8}
use Rattle.fd_proto.specs.Messages.{text_in}
use Rattle.fd_pprof.proofs.texts.texts_of.Given as goal

abbrev pub invariant-loop-place : goal.invariant-loop-place
invariant-loop-place l = record {
  so_far : l.all ++ map (text_in l.bytes) (drop l.place-index l.places) ≡ map (text_in l.bytes) l.places;
  none_bad : list_any (λ t. not (is_utf8 t)) (map (text_in l.bytes) (drop l.place-index l.places)) ≡ list_any (λ t. not (is_utf8 t)) (map (text_in l.bytes) l.places);
}
