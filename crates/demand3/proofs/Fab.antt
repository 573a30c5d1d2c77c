-- The fab's story over the exported calls. Computed.
use mathlib.Core.Path.{◌≡◌, refl}
use mathlib.Core.List.{List, map}
use Rattle.sample.proofs.Opened.{sample-opened}
use Rattle.line.specs.Gauge.{sampled}
use Rattle.board.specs.Calls.{fed_by, sample_call}
use Rattle.demand3.specs.Open.{all_opened}
use Rattle.demand3.specs.Conversation.{fresh_arrays, given_to}
use Rattle.demand3.specs.Fab.{Turn, asked_in, expected_in, masked_by_write, masked_by_load, fab}

-- THEOREM: the board answers just so
pub fab-answered : map (λ (ts : List Turn). given_to fresh_arrays (map asked_in ts)) fab ≡ map (map expected_in) fab
unfolding fab masked_by_write masked_by_load sample-opened sampled fed_by sample_call all_opened
fab-answered = refl
