-- RULE: the four command words: which bytes each takes, what it reads as, and where its status stands. Assumes nothing.
use Rattle.std.specs.Prelude.{Bool, true, false, cond, ◌&&◌, List, [], ◌∷◌, ℕ, ◌+◌, eqb}
use Rattle.wire.specs.Splice.{splice}
use Rattle.wire.specs.Little.{little}
use Rattle.table.specs.Places.{reset_status, exception_status, store_status, load_status}
use Rattle.command.specs.declared.word.Command.{Command}
use Rattle.command.specs.declared.word.Command.TheVariants.{DeviceReset, ExceptionReset, StoreParameters, LoadParameters}

-- by the index of the command word's row
unfoldable pub command_at : ℕ → Command
command_at i = cond (eqb i 0xFBF0) DeviceReset (cond (eqb i 0xFBF1) ExceptionReset (cond (eqb i 0xFBF2) StoreParameters LoadParameters))

-- R8.1
unfoldable pub word_of : Command → List ℕ
word_of DeviceReset = 0x74 ∷ 0x65 ∷ 0x73 ∷ 0x65 ∷ 0x72 ∷ 0x00 ∷ []
word_of ExceptionReset = 0x74 ∷ 0x65 ∷ 0x73 ∷ 0x65 ∷ 0x72 ∷ []
word_of StoreParameters = 0x73 ∷ 0x61 ∷ 0x76 ∷ 0x65 ∷ []
word_of LoadParameters = 0x6C ∷ 0x6F ∷ 0x61 ∷ 0x64 ∷ []

-- R8.2
unfoldable pub read_word : Command → List ℕ
read_word DeviceReset = 0 ∷ 0 ∷ 0 ∷ 0 ∷ 0 ∷ 0 ∷ []
read_word ExceptionReset = 0 ∷ 0 ∷ 0 ∷ 0 ∷ 0 ∷ []
read_word StoreParameters = 1 ∷ 0 ∷ 0 ∷ 0 ∷ []
read_word LoadParameters = 1 ∷ 0 ∷ 0 ∷ 0 ∷ []

unfoldable pub status_of : Command → ℕ
status_of DeviceReset = reset_status
status_of ExceptionReset = exception_status
status_of StoreParameters = store_status
status_of LoadParameters = load_status

-- status and response byte 0 (R8.3, R8.4)
unfoldable pub with_status : Command → ℕ → List ℕ → List ℕ
with_status c code values = splice (splice values (status_of c) (little 1 code)) (status_of c + 1) (little 1 code)

-- are these the same bytes?
unfoldable pub same_bytes : List ℕ → List ℕ → Bool
same_bytes [] [] = true
same_bytes [] (y ∷ ys) = false
same_bytes (x ∷ xs) [] = false
same_bytes (x ∷ xs) (y ∷ ys) = eqb x y && same_bytes xs ys
