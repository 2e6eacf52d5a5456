-- One name for the large definitions: a proof that is to compute with the machine has the line `unfolding machine`.
use Rattle.fab_model.specs.Complete.{paste, received, truncated, entry_of, fill, release_multi, reply, book}
use Rattle.fab_model.specs.Sending.{transmit_fault, letting_out, accepting, transmit_to, transmit, success_of, end_with, transmitting, do_sent, expects, answering, do_answer}
use Rattle.fab_model.specs.Target.{element, elements, outcome_of, changed_range, perform}
use Rattle.fab_model.specs.Receiving.{give, drop_arrival, post, post_fault, look, look_fault, take_claimed, drop_claimed, claimed_fault, cancel, cancel_fault}
use Rattle.fab_model.specs.Arrivals.{heading_message, heading_other, do_head, do_draw, keeping, do_request, tail_to, made_whole, do_tail}
use Rattle.fab_model.specs.Calls.{insert, remove, reg, close, put, show, do_call, call_of}
use Rattle.fab_model.specs.Peers.{wait_line, call_line, do_line, do_next, bytes_kept, read_next, head_step, tail_step, sent_step, draw_step, final_step, step, is_calm, fabric}
use Rattle.fab_model.specs.Replay.{opening, replayed, at_rest, is_drained}
use Rattle.fab_model.specs.Report.{verb_of, taken_words, result_words, peer_lines, all_lines, report_lines, report_of, report, step_in, traces}
use Rattle.std.specs.Fmt.{digits}

unfoldable pub machine : Unit {0}
unfolding digits paste received truncated entry_of fill release_multi reply book transmit_fault letting_out accepting transmit_to transmit success_of end_with transmitting do_sent expects answering do_answer element elements outcome_of changed_range perform give drop_arrival post post_fault look look_fault take_claimed drop_claimed claimed_fault cancel cancel_fault heading_message heading_other do_head do_draw keeping do_request tail_to made_whole do_tail insert remove reg close put show do_call call_of wait_line call_line do_line do_next bytes_kept read_next head_step tail_step sent_step draw_step final_step step is_calm fabric opening replayed at_rest is_drained verb_of taken_words result_words peer_lines all_lines report_lines report_of report step_in traces
machine = tt
