use Rattle.std.proofs.Common.{◌∙◌, ap, sym}
use Rattle.fd_pprof.specs.Profile.{messages_refusal}
use Rattle.fd_pprof.proofs.Refusals.{plain_refused, read_so_far, deep_refused, long_refused, none_refused}
use Rattle.fd_pprof.proofs.reader.tables_of.Goals as goal

pub returns-in-Some-clause-err : goal.returns-in-Some-clause-err
returns-in-Some-clause-err c =
    λ free. ap (messages_refusal c.args.bytes.now) (sym c.in_ok-catalog.ensures) ∙ plain_refused c.args.bytes.now c.in_ok-catalog.catalog.raw c.in-Some.fault (sym c.in-Some.ensures)

pub returns-then-has_deep_stack-clause-err : goal.returns-then-has_deep_stack-clause-err
returns-then-has_deep_stack-clause-err c =
    let read =
    read_so_far c.args.bytes.now c.args.raw c.in_ok-catalog.catalog.raw c.in_ok-tables.tables.catalog.raw c.in-Some-2.texts c.in_ok-tables.tables.texts c.as_slice.result.now c.in_ok-texts.field-0
    c.in_ok-catalog.ensures c.in_default.ensures c.as_slice.ensures c.in_ok-texts.ensures c.in-Some-2.is c.in_ok-tables.ensures.raw c.in_ok-tables.ensures.texts in
    λ free. deep_refused c.args.bytes.now c.args.raw c.in_ok-tables.tables.catalog.raw c.in_ok-tables.tables.texts read c.if-has_deep_stack.ensures

pub returns-then-has_long_text-clause-err : goal.returns-then-has_long_text-clause-err
returns-then-has_long_text-clause-err c =
    let read =
    read_so_far c.args.bytes.now c.args.raw c.in_ok-catalog.catalog.raw c.in_ok-tables.tables.catalog.raw c.in-Some-2.texts c.in_ok-tables.tables.texts c.as_slice.result.now c.in_ok-texts.field-0
    c.in_ok-catalog.ensures c.in_default.ensures c.as_slice.ensures c.in_ok-texts.ensures c.in-Some-2.is c.in_ok-tables.ensures.raw c.in_ok-tables.ensures.texts in
    λ free. long_refused c.args.bytes.now c.args.raw c.in_ok-tables.tables.catalog.raw c.in_ok-tables.tables.texts read c.if-has_deep_stack.ensures c.if-has_long_text.ensures

pub returns-clause-none : goal.returns-clause-none
returns-clause-none c =
    let read =
    read_so_far c.args.bytes.now c.args.raw c.in_ok-catalog.catalog.raw c.in_ok-tables.tables.catalog.raw c.in-Some-2.texts c.in_ok-tables.tables.texts c.as_slice.result.now c.in_ok-texts.field-0
    c.in_ok-catalog.ensures c.in_default.ensures c.as_slice.ensures c.in_ok-texts.ensures c.in-Some-2.is c.in_ok-tables.ensures.raw c.in_ok-tables.ensures.texts in
    none_refused c.args.bytes.now c.args.raw c.in_ok-tables.tables.catalog.raw c.in_ok-tables.tables.texts read c.if-has_deep_stack.ensures c.if-has_long_text.ensures
