-- `command::word::is_word`: by the command. Assumes nothing.
use Rattle.command.specs.Words.{word_of}
use Rattle.command.proofs.word.is_word.Goals as goal

pub returns-in-DeviceReset : goal.returns-in-DeviceReset
unfolding word_of
returns-in-DeviceReset c = rw c.in-DeviceReset.is c.same.ensures

pub returns-in-ExceptionReset : goal.returns-in-ExceptionReset
unfolding word_of
returns-in-ExceptionReset c = rw c.in-ExceptionReset.is c.same-in-ExceptionReset.ensures

pub returns-in-StoreParameters : goal.returns-in-StoreParameters
unfolding word_of
returns-in-StoreParameters c = rw c.in-StoreParameters.is c.same-in-StoreParameters.ensures

pub returns-in-LoadParameters : goal.returns-in-LoadParameters
unfolding word_of
returns-in-LoadParameters c = rw c.in-LoadParameters.is c.same-in-LoadParameters.ensures
