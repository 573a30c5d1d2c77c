-- SHAPE: one name that opens every definition that a message, a mailbox and a power-up come to, and one that opens the observer and the plain gauge's
-- operations, for what is computed: `unfolding all_opened`. Assumes nothing.
use Rattle.std.specs.Float.Ieee.{lt, is_nan, of_bits, of_fields}
use Rattle.wire.specs.Splice.{splice}
use Rattle.wire.specs.Little.{little, from_little, number}
use Rattle.wire.specs.Real.{real}
use Rattle.wire.specs.Flags.{is_set}
use Rattle.bits.specs.Bits.{msb, bits, num_from, num, field, packed}
use Rattle.bits.specs.Fields.{encode, decode}
use Rattle.table.specs.Rows.{rows}
use Rattle.table.specs.Find.{find_from, find_row, row_number}
use Rattle.table.specs.Rule.{pick, held}
use Rattle.table.specs.Places.{is_mask, of_point_1, of_point_2}
use Rattle.table.specs.Row.{smallest, largest}
use Rattle.limits.specs.Limits.{verdict_code, first_fault, whole_verdict, real_verdict, by_kind, kind_verdict, number_verdict, row_verdict}
use Rattle.entry.specs.Entry.{entry_of, with_entry, default_of, defaulted, defaults}
use Rattle.crossed.specs.Crossed.{crossed, crossed_at, straight}
use Rattle.card.specs.Card.{enable, point_fields, point_bits, card_bits, card_of, fields_of, layout_verdict, level_verdict, first_bad, point_verdict, card_verdict, with_point, with_card}
use Rattle.block.specs.Block.{width, entry_bits, entry_bytes, within, nv_rows, widths, saved, load_rows, values_good, rows_good, all_zero, block_of, headed, good}
use Rattle.block.specs.Saved.{storable, stored_block, loadable, loaded}
use Rattle.gate.specs.Lock.{guarded, locked}
use Rattle.command.specs.Words.{command_at, word_of, read_word, status_of, with_status, same_bytes}
use Rattle.sample.specs.Faults.{all_hidden, summary_of, with_summary}
use Rattle.gauge.specs.Masks.{heeding}
use Rattle.gauge.specs.Written.{with_value, crosses}
use Rattle.gauge.specs.PowerUp.{block_taken, fresh_values, powered_up}
use Rattle.gauge.specs.Commands.{status_by, done, obeyed}
use Rattle.gauge.specs.Checks.{code_of, is_no_index, is_no_sub, verdict_of, fails, read_order, key_order, last_order, refused_by, unless_refused}
use Rattle.gauge.specs.Whole.{value_of, read_checked, read_whole, sizes_checked, write_sizes, effect, write_by, with_trips, commit_whole}
use Rattle.order.specs.Gauge.{by_length, narrowed, narrow, counted, judged, judged_by, write_whole, read_result, write_result, written, result, after, results}
use Rattle.order.specs.Observe.{gained_by, gain, ended, ended_early, if_yes, noted, note, onward, read_done, part_done, finished, placed, follow_one, follow, observe_one, observe}
use Rattle.order.specs.Bytes.{client}
use Rattle.order.specs.Serve.{put_at, read_opening, give_part, read_part, take_more, write_opening, conclude, take_part, write_part, serve}
use Rattle.order.specs.Promise.{is_abort}
use Rattle.order.specs.Keep.{speak}
use Rattle.sdo.specs.Eight.{choice, opening_by, heard_of, request_of, request_heard, ask_of, answer_of, abort_of, tell_of, eight}
use Rattle.sdo.specs.Long.{opening_with, asked_with, ask_long, long_form, long_answer, told_with, tell_long}
use Rattle.mailbox.specs.Mail.{well_shaped, asks_sdo, mail_of, service_of, mailed, mail_answer}
use Rattle.transfer.specs.Records.{allows, counts, pending, view, base, lay}
use Rattle.state.specs.State.{direction_of, direction_byte, record_at, record_tail, record_bytes, trips_at, trips_bytes, form_at, fresh_state, settled}
use Rattle.board.specs.Calls.{sized, number_by, served, hears_eight, message_call, by_mail, mail_call, mailbox_call, with_form, power_up_call}
use Rattle.demand3.specs.Firmware.{exported, history, final, power_on, line_of, answer_by, event_of, with_event, events, observed}

unfoldable pub all_opened : Unit {0}
unfolding lt is_nan of_bits of_fields splice little from_little number real is_set msb bits num_from num field packed encode decode rows find_from find_row pick held verdict_code first_fault whole_verdict real_verdict by_kind kind_verdict entry_of with_entry default_of defaulted defaults number_verdict row_verdict enable point_fields point_bits card_bits card_of fields_of layout_verdict level_verdict first_bad point_verdict card_verdict with_point with_card width entry_bits entry_bytes within nv_rows widths saved load_rows values_good rows_good all_zero block_of headed good storable stored_block loadable loaded smallest largest command_at word_of read_word status_of with_status same_bytes guarded locked is_mask all_hidden summary_of with_summary heeding of_point_1 of_point_2 with_value crosses crossed crossed_at straight block_taken fresh_values powered_up status_by done obeyed row_number code_of is_no_index is_no_sub verdict_of fails read_order key_order last_order refused_by unless_refused value_of read_checked read_whole sizes_checked write_sizes effect write_by with_trips commit_whole by_length narrowed narrow counted judged judged_by write_whole read_opening give_part read_part take_more write_opening conclude take_part write_part serve choice opening_by heard_of request_of request_heard ask_of answer_of eight opening_with asked_with ask_long long_form is_abort long_answer well_shaped asks_sdo mail_of service_of mailed mail_answer allows counts pending view base lay speak direction_of direction_byte record_at record_tail record_bytes trips_at trips_bytes form_at sized number_by fresh_state settled served hears_eight message_call by_mail mail_call mailbox_call with_form power_up_call exported history final power_on
all_opened = tt

unfoldable pub observer_opened : Unit {0}
unfolding read_result write_result written result after results gained_by gain ended ended_early if_yes noted note onward read_done part_done finished placed put_at follow_one follow observe_one observe client abort_of tell_of told_with tell_long line_of answer_by event_of with_event events observed
observer_opened = tt
