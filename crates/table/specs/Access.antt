-- SHAPE: the accesses as the code names them (R1.5). Assumes nothing.
use Rattle.std.specs.Prelude.{ℕ}
use Rattle.table.specs.Row.{RO, WO, RW}
use Rattle.table.specs.declared.access.Access.{Access}
use Rattle.table.specs.declared.access.Access.TheVariants.{ReadWrite, ReadOnly, WriteOnly}

unfoldable pub access_number : Access → ℕ
access_number ReadWrite = RW
access_number ReadOnly = RO
access_number WriteOnly = WO
