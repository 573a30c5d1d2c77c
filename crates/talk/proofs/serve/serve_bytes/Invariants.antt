-- The bytes that are still to come, served from here, leave what all of them leave; so far those before them were taken; and no more than twenty are kept.
use Rattle.std.proofs.Common.{◌≡◌, ◌≤◌, take, drop}
use Rattle.talk.specs.Run.{progress, after_bytes}
use Rattle.talk.proofs.serve.serve_bytes.Given as goal

abbrev pub invariant-loop-byte : goal.invariant-loop-byte
invariant-loop-byte g l = record {
  to_come : after_bytes (progress l.pending l.memory) (drop l.byte-index l.bytes) ≡ after_bytes (progress l.initial.pending l.initial.memory) l.bytes;
  so_far : progress l.pending l.memory ≡ after_bytes (progress l.initial.pending l.initial.memory) (take l.byte-index l.bytes);
  kept : l.initial.pending.count ≤ 20 → l.pending.count ≤ 20;
}
