-- `gauge::commit::carry_out`: each return is one law, given what the calls ensure. Assumes nothing.
use Rattle.gauge.proofs.CommitLaws.{reset-done, exceptions_done, store-done, load_done}
use Rattle.gauge.proofs.commit.carry_out.Goals as goal

pub returns-in-DeviceReset : goal.returns-in-DeviceReset
returns-in-DeviceReset c =
    rw c.in-DeviceReset.is (reset-done c.args.values.now c.args.block.now c.fill.ensures)

pub returns-in-ExceptionReset : goal.returns-in-ExceptionReset
returns-in-ExceptionReset c =
    rw c.in-ExceptionReset.is (exceptions_done c.args.values.now c.args.block.now c.clear_latched.ensures c.set_status.ensures)

pub returns-in-StoreParameters : goal.returns-in-StoreParameters
returns-in-StoreParameters c =
    rw c.in-StoreParameters.is (store-done c.args.values.now c.args.block.now c.store.ensures.0 c.store.ensures.1 c.status_by-code.ensures c.set_status-in-StoreParameters.ensures)

pub returns-in-LoadParameters : goal.returns-in-LoadParameters
returns-in-LoadParameters c =
    rw c.in-LoadParameters.is (load_done c.args.values.now c.args.block.now c.take_block.ensures.taken c.take_block.ensures.values c.status_by-code-in-LoadParameters.ensures c.set_status-in-LoadParameters.ensures)
