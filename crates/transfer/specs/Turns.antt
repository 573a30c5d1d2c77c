-- SHAPE: a record as the code makes it: opened, and after a part. transfer/proofs/RecordLaws joins them to what `lay` gives.
use Rattle.std.specs.Prelude.{ℕ, ◌+◌, Bool, true, false, not, List, length, replicate}
use Rattle.wire.specs.Splice.{splice}
use Rattle.transfer.specs.declared.Direction.{Direction}
use Rattle.transfer.specs.declared.Direction.TheVariants.{Neither, Reads, Writes}
use Rattle.transfer.specs.declared.Transfer.{Transfer}

-- does a transfer with the second go in the first?
unfoldable pub goes : Direction → Direction → Bool
goes Neither Neither = true
goes Neither Reads = false
goes Neither Writes = false
goes Reads Neither = false
goes Reads Reads = true
goes Reads Writes = false
goes Writes Neither = false
goes Writes Reads = false
goes Writes Writes = true

abbrev pub is_reading : Direction → Bool
is_reading d = goes Reads d

abbrev pub is_writing : Direction → Bool
is_writing d = goes Writes d

-- 64 bytes that begin with these, then zeros
abbrev pub filled : List ℕ → List ℕ
filled bytes = splice (replicate 64 0) 0 bytes

-- from an opening on, of which so many bytes went with it
abbrev pub opened_record : Direction → ℕ → List ℕ → ℕ → ℕ → Transfer
opened_record d row held len place = record { held = held; row = row; direction = d; len = len; place = place; toggle = false }

-- after a part of a read that was not the last, of some size
abbrev pub turned : Transfer → ℕ → Transfer
turned t size = record { held = t.held; row = t.row; direction = Reads; len = t.len; place = t.place + size; toggle = not t.toggle }

-- with the bytes of a part of a write
abbrev pub grown : Transfer → List ℕ → Transfer
grown t bytes =
    record {
      held = splice t.held t.place bytes;
      row = t.row;
      direction = Writes;
      len = t.len;
      place = t.place + length bytes;
      toggle = not t.toggle;
    }
