-- The relay's story over the exported calls. Computed.
use mathlib.Core.Path.{◌≡◌, refl}
use Rattle.demand3.specs.Open.{all_opened}
use Rattle.demand3.specs.Conversation.{gives, expected}
use Rattle.demand3.specs.Relay.{relay}

-- THEOREM: the board answers just so
pub relay-answered : gives relay ≡ expected relay
unfolding relay all_opened
relay-answered = refl
