-- `sample::put_summary`: two words are read and a byte is put. Assumes nothing.
use mathlib.Core.Path.{ap₂, ◌∙◌}
use Rattle.sample.specs.Faults.{summary_of, with_summary}
use Rattle.sample.proofs.put_summary.Goals as goal

pub returns : goal.returns
unfolding with_summary
returns c =
    rw (c.put.ensures, c.summary_of.ensures ∙ ap₂ summary_of c.at-active.ensures c.at-mask.ensures)
