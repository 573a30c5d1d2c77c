-- `put_defaults` leaves the defaults of all rows on zeros: the words make them, as is computed once. Assumes nothing.
use Rattle.std.proofs.Common.{◌≡◌, length, replicate, refl, arith}
use mathlib.Core.Logic.{inl, inr, ⊎_elim}
use Rattle.wire.specs.Splice.{splice}
use Rattle.wire.specs.Little.{little}
use Rattle.table.specs.Rows.{rows}
use Rattle.table.specs.Rule.{pick, held}
use Rattle.table.specs.Walk.{every}
use Rattle.table.proofs.DefaultWords.{word_places, words}
use Rattle.entry.proofs.Writes.{worded, words_turn, words_end, room_first, room_rest}
use Rattle.entry.specs.Entry.{with_entry, default_of, defaulted, defaults}
use Rattle.entry.proofs.put_defaults.Goals as goal

computed : worded word_places words (replicate 1024 0) ≡ defaults rows (replicate 1024 0)
unfolding rows pick held with_entry default_of defaulted defaults little splice worded word_places words
computed = refl

pub loop-place-init : goal.loop-place-init
unfolding word_places words every
loop-place-init c =
    let n : length c.args.values.now ≡ 1024 = omega arith in
    record {
      made = rw (c.into_iter-place-iterator.ensures.into_iter_gives, c.zip-place-items.ensures.second.0, c.zip-place-items.ensures.first, c.iter.ensures.rest, c.fill.ensures.after (λ y e. e), n) computed;
      room = rw (c.into_iter-place-iterator.ensures.into_iter_gives, c.zip-place-items.ensures.first, c.iter.ensures.rest) tt;
    }

pub put-requires : goal.put-requires
put-requires c =
    omega (arith, room_first _ _ c.in-Some.ensures.steps.0 c.loop-place.invariant.room)

pub loop-place-preserved : goal.loop-place-preserved
loop-place-preserved c = record {
  made = words_turn _ _ _ _ _ c.from.ensures c.put.ensures c.in-Some.ensures.steps.0 c.in-Some.ensures.steps.1 c.loop-place.invariant.made;
  room = room_rest _ _ c.in-Some.ensures.steps.0 c.loop-place.invariant.room;
}

pub returns : goal.returns
returns c =
    ⊎_elim
    (λ e. words_end _ _ _ _ (inl e.1.0) c.loop-place.invariant.made)
    (λ e. words_end _ _ _ _ (inr e.1.0) c.loop-place.invariant.made)
    c.in-None.ensures.steps
