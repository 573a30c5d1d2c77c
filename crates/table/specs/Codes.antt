-- RULE: the codes of what is refused by its key (R7.3, R7.4), by the lock (R7.6), or since it leaves a trip point crossed (R7.7). Assumes nothing.
use Rattle.std.specs.Prelude.{ℕ}
use Rattle.table.specs.declared.code.AbortCode.{AbortCode}
use Rattle.table.specs.declared.code.AbortCode.TheVariants.{IndexAbsent, SubindexAbsent, WriteOnly, ReadOnly, TooLong, TooShort, LockShut, NotANumber, TooHigh, TooLow, LeftCrossed}

abbrev pub index_absent : ℕ
index_absent = 0x06020000

abbrev pub subindex_absent : ℕ
subindex_absent = 0x06090011

abbrev pub write_only : ℕ
write_only = 0x06010001

abbrev pub read_only : ℕ
read_only = 0x06010002

abbrev pub lock_shut : ℕ
lock_shut = 0x08000022

abbrev pub left_crossed : ℕ
left_crossed = 0x06090036

-- of every abort: also of a length (order/specs/Gauge) and of a value outside its limits (R2.4)
abbrev pub code_of : AbortCode → ℕ
code_of IndexAbsent = index_absent
code_of SubindexAbsent = subindex_absent
code_of WriteOnly = write_only
code_of ReadOnly = read_only
code_of TooLong = 0x06070012
code_of TooShort = 0x06070013
code_of LockShut = lock_shut
code_of NotANumber = 0x06090030
code_of TooHigh = 0x06090031
code_of TooLow = 0x06090032
code_of LeftCrossed = left_crossed
