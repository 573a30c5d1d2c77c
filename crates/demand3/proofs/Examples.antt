-- The examples A to J over the exported message call at full size, as ONE statement over a list. Computed.
use mathlib.Core.Path.{◌≡◌, refl}
use mathlib.Core.List.{map}
use Rattle.demand3.specs.Open.{all_opened}
use Rattle.demand3.specs.Conversation.{gives, expected}
use Rattle.demand3.specs.Examples.{case_a, case_b, case_c, case_d, case_e, case_f, case_g, case_h, case_i, label_changed, case_j, cases}

-- THEOREM: each call gives back 0 and exactly these eight bytes
pub examples : map gives cases ≡ map expected cases
unfolding cases case_a case_b case_c case_d case_e case_f case_g case_h case_i label_changed case_j all_opened
examples = refl
