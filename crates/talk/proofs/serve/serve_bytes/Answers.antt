-- `serve::serve_bytes`: before the first byte, after one more, after the last, and where a reply was not printed. Assumes nothing.
use Rattle.std.proofs.Common.{refl, ap, ◌∙◌, arith}
use Rattle.std.proofs.lemmas.Result.{err_from_is_err_and}
use Rattle.talk.specs.Run.{Progress, progress, after_bytes}
use Rattle.talk.proofs.TurnLaws.{byte-kept, bytes-turn, bytes-done}
use Rattle.talk.proofs.Whole.{taken_next, left_next}
use Rattle.talk.proofs.serve.serve_bytes.Goals as goal

pub loop-byte-init : goal.loop-byte-init
unfolding after_bytes
loop-byte-init g c = record { to_come = refl; so_far = refl; kept = λ h. h }

pub loop-byte-preserved : goal.loop-byte-preserved
loop-byte-preserved g c =
    let w = c.loop-byte in
    let now = progress w.pending w.memory in
    let next = progress c.serve_byte.new.pending c.serve_byte.new.memory in
    record {
      to_come = bytes-turn c.args.bytes.now w.byte-index now next (omega arith) c.serve_byte.ensures ∙ w.invariant.to_come;
      so_far = taken_next c.args.bytes.now w.byte-index (progress c.args.pending.now c.args.memory.now) now (omega arith) w.invariant.so_far next c.serve_byte.ensures;
      kept = λ h. byte-kept now next _ c.serve_byte.ensures (w.invariant.kept h);
    }

pub returns-in_err-serve_byte-clause-kept : goal.returns-in_err-serve_byte-clause-kept
returns-in_err-serve_byte-clause-kept g c =
    λ h. byte-kept (progress c.loop-byte.pending c.loop-byte.memory) (progress c.serve_byte.new.pending c.serve_byte.new.memory) _ c.serve_byte.ensures (c.loop-byte.invariant.kept h)

pub returns-clause-kept : goal.returns-clause-kept
returns-clause-kept g c = c.loop-byte.invariant.kept

pub returns-in_err-serve_byte-clause-err : goal.returns-in_err-serve_byte-clause-err
returns-in_err-serve_byte-clause-err g c =
    let w = c.loop-byte in
    let p = err_from_is_err_and c.from_residual.result c.from_residual.ensures.1 in
    rw p.1 (w.byte-index, (omega arith, left_next c.args.bytes.now w.byte-index (progress c.args.pending.now c.args.memory.now) (progress w.pending w.memory) (omega arith) w.invariant.so_far c.serve_byte.new.memory (ap (λ (x : Progress). x.left) c.serve_byte.ensures)))

pub returns-clause-ok : goal.returns-clause-ok
returns-clause-ok g c = bytes-done c.args.bytes.now c.loop-byte.byte-index _ _ (omega arith) c.loop-byte.invariant.to_come
