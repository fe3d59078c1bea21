use Rattle.built_in_tables.proofs.Valid.{five_refused}
use Rattle.built_in_tables.proofs.tables.built_in_5.Goals as goal

pub unreachable-requires : goal.unreachable-requires
unreachable-requires c = five_refused c.as_slice.result.now c.in-Err.field-0 (cc) c.in-Err.ensures.error
