-- One name that opens every definition that a sample comes to, for what is computed: `unfolding sample-opened`. Assumes nothing.
use lib.Ieee.{of_bits, to_bits, lt, add, sub}
use Rattle.wire.specs.Splice.{splice}
use Rattle.wire.specs.Little.{little, from_little, number}
use Rattle.wire.specs.Real.{real}
use Rattle.wire.specs.Flags.{is_set}
use Rattle.trip.specs.Trip.{side_settled, low_next, high_next, point_next, finite, usable_pressure, off, point_after}
use Rattle.sample.specs.Faults.{kept_faults, with_faults, all_hidden, summary_of, with_summary}
use Rattle.sample.specs.Sample.{settings, trips_after, with_reading, trip_word, with_trip_entries, values_after}

unfoldable pub sample-opened : Unit {0}
unfolding splice little from_little number real side_settled low_next high_next point_next finite usable_pressure off point_after kept_faults with_faults all_hidden summary_of with_summary is_set settings trips_after with_reading trip_word with_trip_entries values_after of_bits to_bits lt add sub
sample-opened = tt
