-- NO SECOND OUTCOME: two outcomes that meet the promise of an exported call are equal. Assumes nothing.
use Prim.Native.Nat.{ℕ}
use mathlib.Core.Path.{◌≡◌, sym, ◌∙◌}
use mathlib.Core.List.{List}
use lib.Ieee.{Float}
use Rattle.board.specs.Calls.{Called, Powered, Fed, Shown}
use Rattle.demand3.specs.Promised.{Given, MessagePromised, MailboxPromised, PowerUpPromised, SamplePromised, ImagePromised}

pub one_message : (i : Given) (o p : Called) → MessagePromised i o → MessagePromised i p → o ≡ p
one_message i o p e f = e ∙ sym f

pub one_mailbox : (m v b s r : List ℕ) (o p : Called) → MailboxPromised m v b s r o → MailboxPromised m v b s r p → o ≡ p
one_mailbox m v b s r o p e f = e ∙ sym f

pub one_power_up : (form : ℕ) (v b s : List ℕ) (o p : Powered) → PowerUpPromised form v b s o → PowerUpPromised form v b s p → o ≡ p
one_power_up form v b s o p e f = e ∙ sym f

pub one_sample : (x : Float) (k f n : ℕ) (v s : List ℕ) (o p : Fed) → SamplePromised x k f n v s o → SamplePromised x k f n v s p → o ≡ p
one_sample x k f n v s o p e q = e ∙ sym q

pub one_image : (v r : List ℕ) (o p : Shown) → ImagePromised v r o → ImagePromised v r p → o ≡ p
one_image v r o p e f = e ∙ sym f
