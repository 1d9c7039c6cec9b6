use Rattle.std.proofs.Common.{◌+◌, [], ◌∷◌, ◌++◌, sym, subst}
use Rattle.fd_parquet.proofs.ColumnReads.{ReadsColumns, columns_none, columns_more, columns_all, columns_one, refused_gives, refused_fails, refused_only}
use Rattle.fd_parquet.proofs.columns.columns_in.Goals as goal

pub loop-at-init : goal.loop-at-init
loop-at-init c =
    subst (λ xs. ReadsColumns c.args.pages c.args.count c.args.columns.now c.args.bytes.now 0 xs c.new-places.result c.args.bytes.now) (sym c.new-cells.ensures)
    (subst (λ xs. ReadsColumns c.args.pages c.args.count c.args.columns.now c.args.bytes.now 0 [] xs c.args.bytes.now) (sym c.new-places.ensures)
    (columns_none c.args.pages c.args.count c.args.columns.now c.args.bytes.now))

pub returns-in-Err-clause-only : goal.returns-in-Err-clause-only
returns-in-Err-clause-only c = λ cells places rest b.
    refused_gives c.args.pages c.args.count c.args.columns.now c.args.bytes.now c.loop-at.at c.loop-at.cells c.loop-at.places c.loop-at.rest.now c.index-columns-at.result c.loop-at-test.true c.index-columns-at.is c.loop-at.invariant
    c.in-Err.fault c.fault_at.result c.fault_at.ensures.bad c.fault_at.ensures.memory
    c.in-Err.ensures.only cells places rest b

pub returns-in-Err-clause-fails : goal.returns-in-Err-clause-fails
returns-in-Err-clause-fails c =
    refused_fails c.args.pages c.args.count c.args.columns.now c.args.bytes.now c.loop-at.at c.loop-at.cells c.loop-at.places c.loop-at.rest.now c.index-columns-at.result c.loop-at-test.true c.index-columns-at.is c.loop-at.invariant
    c.in-Err.fault c.fault_at.result c.fault_at.ensures.bad c.fault_at.ensures.memory
    c.in-Err.ensures.only

pub returns-in-Err-clause-fails_only : goal.returns-in-Err-clause-fails_only
returns-in-Err-clause-fails_only c =
    refused_only c.args.pages c.args.count c.args.columns.now c.args.bytes.now c.loop-at.at c.loop-at.cells c.loop-at.places c.loop-at.rest.now c.index-columns-at.result c.loop-at-test.true c.index-columns-at.is c.loop-at.invariant
    _ c.in-Err.fault c.fault_at.result c.fault_at.ensures.bad c.fault_at.ensures.memory
    c.in-Err.ensures.only

pub loop-at-preserved : goal.loop-at-preserved
loop-at-preserved c =
    subst (λ xs. ReadsColumns c.args.pages c.args.count c.args.columns.now c.args.bytes.now (c.loop-at.at + 1) xs c.push.new.self c.in-Ok.found.1.now) (sym c.in_ok-push-2.ensures.ok)
    (subst (λ xs. ReadsColumns c.args.pages c.args.count c.args.columns.now c.args.bytes.now (c.loop-at.at + 1) (c.loop-at.cells ++ c.in-Ok.found.0 ∷ []) xs c.in-Ok.found.1.now) (sym c.in_ok-push.ensures.ok)
    (columns_more c.args.pages c.args.count c.args.columns.now c.args.bytes.now c.loop-at.at c.loop-at.cells c.loop-at.places c.loop-at.rest.now c.index-columns-at.result c.loop-at-test.true c.index-columns-at.is c.loop-at.invariant
    c.chunks_are_placed.ensures.plain c.in-Ok.found.0 c.in-Ok.found.1.now c.placed.result c.placed.ensures c.in-Ok.ensures.found c.in-Ok.ensures.only))

pub returns-clause-found : goal.returns-clause-found
returns-clause-found c = columns_all c.args.pages c.args.count c.args.columns.now c.args.bytes.now c.loop-at.at c.loop-at.cells c.loop-at.places c.loop-at.rest.now c.loop-at-test.false c.loop-at.invariant

pub returns-clause-only : goal.returns-clause-only
returns-clause-only c = columns_one c.args.pages c.args.count c.args.columns.now c.args.bytes.now c.loop-at.at c.loop-at.cells c.loop-at.places c.loop-at.rest.now c.loop-at-test.false c.loop-at.invariant
