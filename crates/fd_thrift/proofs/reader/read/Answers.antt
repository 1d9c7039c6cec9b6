use Rattle.std.proofs.Common.{ℕ, slice_range, arith}
use Rattle.fd_thrift.specs.declared.tree.Tree.{Tree}
use Rattle.fd_thrift.specs.View.{view}
use Rattle.fd_thrift.proofs.Fronts.{answer_cut, answer_front, answer_first}
use Rattle.fd_thrift.proofs.Places.{answer_found, answer_only, bytes_range}
use Rattle.fd_thrift.proofs.reader.read.Goals as goal

pub returns-clause-found : goal.returns-clause-found
returns-clause-found c =
    let fits = bytes_range c.args.bytes.now c.args.at c.args.end (λ i. omega (arith, c.type_inv.bytes i)) in
    answer_found (λ (r : Tree × ℕ). (view r.0, r.1)) c.tree_of.result c.args.at (slice_range c.args.bytes.now c.args.at c.args.end) fits c.tree_of.ensures

pub returns-clause-only : goal.returns-clause-only
returns-clause-only c =
    answer_only (λ (r : Tree × ℕ). (view r.0, r.1)) c.tree_of.result c.args.at (slice_range c.args.bytes.now c.args.at c.args.end) c.tree_of.ensures

pub returns-clause-cut : goal.returns-clause-cut
returns-clause-cut c =
    let fits = bytes_range c.args.bytes.now c.args.at c.args.end (λ i. omega (arith, c.type_inv.bytes i)) in
    answer_cut (λ (r : Tree × ℕ). (view r.0, r.1)) c.tree_of.result c.args.at (slice_range c.args.bytes.now c.args.at c.args.end) fits c.tree_of.ensures

pub returns-clause-first : goal.returns-clause-first
returns-clause-first c =
    let fits = bytes_range c.args.bytes.now c.args.at c.args.end (λ i. omega (arith, c.type_inv.bytes i)) in
    answer_first (λ (r : Tree × ℕ). (view r.0, r.1)) c.tree_of.result c.args.at (slice_range c.args.bytes.now c.args.at c.args.end) fits c.tree_of.ensures

pub returns-clause-front : goal.returns-clause-front
returns-clause-front c =
    answer_front (λ (r : Tree × ℕ). (view r.0, r.1)) c.tree_of.result c.args.at (slice_range c.args.bytes.now c.args.at c.args.end) c.tree_of.ensures
