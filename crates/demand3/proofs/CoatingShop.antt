-- The coating shop's story over the exported calls. Computed.
use mathlib.Core.Path.{◌≡◌, refl}
use Rattle.demand3.specs.Open.{all_opened}
use Rattle.demand3.specs.Conversation.{gives, expected}
use Rattle.demand3.specs.CoatingShop.{old_pair, new_pair, saved_before, read_across_load, story}

-- THEOREM: the board answers just so
pub coating_shop : gives story ≡ expected story
unfolding story saved_before read_across_load old_pair new_pair all_opened
coating_shop = refl
