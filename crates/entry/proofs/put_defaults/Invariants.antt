-- `put_defaults` puts each word. The invariant: the words to come, on the values as they are, make the defaults, and each has room. Assumes nothing.
use Rattle.std.proofs.Common.{◌≡◌, T, replicate}
use Rattle.table.specs.Rows.{rows}
use Rattle.entry.specs.Entry.{defaults}
use Rattle.entry.proofs.Writes.{worded, roomy}
use Rattle.entry.proofs.put_defaults.Given as goal

abbrev pub invariant-loop-place : goal.invariant-loop-place
invariant-loop-place l = record {
  made : worded l.place-iterator.a.rest.now l.place-iterator.b.rest.now l.values ≡ defaults rows (replicate 1024 0);
  room : T (roomy l.place-iterator.a.rest.now);
}
