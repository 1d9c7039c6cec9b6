use Rattle.std.proofs.Common.{◌≡◌, ◌+◌}
use Rattle.fd_http.specs.Search.{HasSearched}
use Rattle.fd_http.proofs.front.FrontSearch.front_len.Given as goal

abbrev pub invariant-loop-byte : goal.invariant-loop-byte
invariant-loop-byte l = record {
  searched : HasSearched l.bytes l.self;
  place : l.self.place ≡ l.fn.self.place + l.byte-index;
}
