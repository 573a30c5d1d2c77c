-- `command::word::status_of`: by the command. Assumes nothing.
use mathlib.Core.Path.{refl}
use borrow.Author.Rules.{rules}
use Rattle.command.specs.Words.{status_of}
use Rattle.command.proofs.word.status_of.Goals as goal

pub returns-in-DeviceReset : goal.returns-in-DeviceReset
unfolding status_of
returns-in-DeviceReset c = rw c.in-DeviceReset.is (refl, search rules)

pub returns-in-ExceptionReset : goal.returns-in-ExceptionReset
unfolding status_of
returns-in-ExceptionReset c = rw c.in-ExceptionReset.is (refl, search rules)

pub returns-in-StoreParameters : goal.returns-in-StoreParameters
unfolding status_of
returns-in-StoreParameters c = rw c.in-StoreParameters.is (refl, search rules)

pub returns-in-LoadParameters : goal.returns-in-LoadParameters
unfolding status_of
returns-in-LoadParameters c = rw c.in-LoadParameters.is (refl, search rules)
