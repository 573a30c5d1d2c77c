-- RULE: what a command word does when it is written. Assumes nothing.
use Rattle.std.specs.Prelude.{Bool, cond, List, ℕ}
use Rattle.order.specs.Talk.{Outcome, stored, restarted}
use Rattle.block.specs.Saved.{storable, stored_block, loadable}
use Rattle.command.specs.Words.{word_of, with_status, same_bytes}
use Rattle.command.specs.Exceptions.{exceptions_cleared}
use Rattle.command.specs.declared.word.Command.{Command}
use Rattle.command.specs.declared.word.Command.TheVariants.{DeviceReset, ExceptionReset, StoreParameters, LoadParameters}
use Rattle.gauge.specs.Memory.{Memory, memory_of, with_values}
use Rattle.gauge.specs.PowerUp.{block_taken, powered_up}

-- status 0, done, or 2
unfoldable pub status_by : Bool → ℕ
status_by right = cond right 0 2

-- the right word (R8.4 to R8.8)
unfoldable pub done : Command → Memory → Outcome Memory
done DeviceReset m = restarted (powered_up m)
done ExceptionReset m = stored (with_values m (with_status ExceptionReset 0 (exceptions_cleared m.values)))
done StoreParameters m =
    stored (memory_of (with_status StoreParameters (status_by (storable m.values)) m.values) (stored_block m.values m.block))
done LoadParameters m =
    stored (with_values m (with_status LoadParameters (status_by (loadable m.block)) (block_taken m.block m.values)))

-- a wrong word is accepted, and only the status says so (R8.3)
unfoldable pub obeyed : Command → List ℕ → Memory → Outcome Memory
obeyed c bytes m = cond (same_bytes bytes (word_of c)) (done c m) (stored (with_values m (with_status c 2 m.values)))
