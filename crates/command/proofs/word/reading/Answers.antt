-- `command::word::reading`: only store and load have a printed value. Assumes nothing.
use mathlib.Core.Logic.{inl, inr}
use Rattle.wire.specs.Splice.{splice}
use Rattle.command.specs.Words.{read_word}
use Rattle.command.proofs.word.reading.Goals as goal

pub returns-in-DeviceReset : goal.returns-in-DeviceReset
unfolding read_word splice
returns-in-DeviceReset c = elim c.in-DeviceReset.is [ inl e ↦ rw e | inr e ↦ rw e ]

pub returns-in-StoreParameters : goal.returns-in-StoreParameters
unfolding read_word splice
returns-in-StoreParameters c = elim c.in-StoreParameters.is [ inl e ↦ rw e | inr e ↦ rw e ]
