-- The parts of a report, one peer after another.
use Rattle.std.proofs.Common.{◌≡◌, ◌<◌, ◌≤◌, ◌+◌, ◌&&◌, ℕ, zero, suc, List, [], ◌∷◌, ◌++◌, length, drop, map, get_or, slice_get, Option, Some, None, refl, sym, ap, ◌∙◌, arith, append_assoc, append-nil}
use Rattle.std.specs.List.{list_all}
use Rattle.std.specs.Option.{option_map}
use Rattle.std.proofs.lemmas.List.{length-map}
use Rattle.std.proofs.lemmas.Option.{slice_get-map}
use Rattle.std.proofs.Math.ListN.{drop_of_length-le}
use Rattle.fab_base.specs.declared.entries.Kept.{Kept}
use Rattle.fab_base.specs.declared.peers.LineResult.{LineResult}
use Rattle.fab_base.specs.declared.peers.Step.{Step}
use Rattle.fab_base.specs.declared.script.Bound.{Bound}
use Rattle.fab_base.specs.declared.script.Line.{Line}
use Rattle.fab_base.specs.declared.script.LineOp.{LineOp}
use Rattle.fab_base.specs.declared.script.LineOp.TheVariants.{Wait}
use Rattle.fab_model.specs.Peers.{is_finished}
use Rattle.fab_model.specs.Report.{all_lines, actor_lines, done_lines, stuck_line, verb_of, peer_lines, pending_of, deferred_of, report_of, report_lines, first_line, last_line}
use Rattle.fab_model.specs.Replay.{all_done, bind_op, bind_line, lines_of}
use Rattle.fab_model.specs.Words.{text_of, line_of}
use Rattle.fab_report.proofs.Blanks.{text_of-append}
use Rattle.fab_replay.specs.declared.turns.Peer.{Peer}
use Rattle.fab_replay.specs.Seen.{actor_of, actors_of, steps_of}

-- ---- payload files stand in no report

verb_bound : (b : Bound) (op : LineOp) → verb_of (bind_op b op) ≡ verb_of op
unfolding verb_of
verb_bound b (Wait ctx) = refl
verb_bound b _ = refl

done_bound : (b : Bound) (lines : List Line) (results : List LineResult) → done_lines (map (bind_line b) lines) results ≡ done_lines lines results
done_bound b [] results = refl
done_bound b (line ∷ lines) [] = refl
done_bound b (line ∷ lines) (x ∷ results) = rw (verb_bound b line.op, done_bound b lines results) refl

stuck_by : (b : Bound) (o : Option Line) → stuck_line (option_map (bind_line b) o) ≡ stuck_line o
stuck_by b None = refl
stuck_by b (Some line) = refl

stuck_bound : (b : Bound) (lines : List Line) (n : ℕ) → stuck_line (slice_get (map (bind_line b) lines) n) ≡ stuck_line (slice_get lines n)
stuck_bound b lines n = ap stuck_line (slice_get-map (bind_line b) lines n) ∙ stuck_by b (slice_get lines n)

pub peer_bound : (b : Bound) (p : ℕ) (lines : List Line) (results : List LineResult) (kept : List Kept) (pending deferred : ℕ) (steps : List Step)
    → peer_lines p (map (bind_line b) lines) results kept pending deferred steps ≡ peer_lines p lines results kept pending deferred steps
unfolding peer_lines
peer_bound b p lines results kept pending deferred steps = rw (done_bound b lines results, stuck_bound b lines (length results)) refl

-- ---- parts

pub drop_here : {X : Type 0} (xs : List X) (k : ℕ) (d : X) → k < length xs → drop k xs ≡ get_or xs k d ∷ drop (suc k) xs
drop_here [] k d l = absurd (omega arith)
drop_here (y ∷ xs) zero d l = refl
drop_here (y ∷ xs) (suc k) d l = drop_here xs k d (omega arith)

-- the text of the parts from peer k on
abbrev pub parts_from : Bound → ℕ → List Peer → List ℕ
parts_from b k peers = text_of (all_lines k (actors_of b (drop k peers)) (steps_of (drop k peers)))

parts_step : (b : Bound) (k : ℕ) (peers : List Peer) (d : Peer) → k < length peers
    → parts_from b k peers ≡ text_of (actor_lines k (actor_of b (get_or peers k d).actor) (get_or peers k d).steps) ++ parts_from b (k + 1) peers
unfolding all_lines
parts_step b k peers d l =
    let x = get_or peers k d in
    let one : suc k ≡ k + 1 = omega arith in
    let here : drop k peers ≡ x ∷ drop (k + 1) peers = drop_here peers k d l ∙ ap (λ m. x ∷ drop m peers) one in
    ap (λ rest. text_of (all_lines k (actors_of b rest) (steps_of rest))) here
    ∙ text_of-append (actor_lines k (actor_of b x.actor) x.steps) (all_lines (k + 1) (actors_of b (drop (k + 1) peers)) (steps_of (drop (k + 1) peers)))

-- one part is written, and those that are left are fewer
pub part_written : (b : Bound) (k : ℕ) (peers : List Peer) (x : Peer) (was now whole : List ℕ) → k < length peers → x ≡ get_or peers k x → was ++ parts_from b k peers ≡ whole
    → now ≡ was ++ text_of (actor_lines k (actor_of b x.actor) x.steps) → now ++ parts_from b (k + 1) peers ≡ whole
part_written b k peers x was now whole l is so_far writes =
    ap (λ text. text ++ parts_from b (k + 1) peers) writes
    ∙ append_assoc was (text_of (actor_lines k (actor_of b x.actor) x.steps)) (parts_from b (k + 1) peers)
    ∙ ap (λ (y : Peer). was ++ (text_of (actor_lines k (actor_of b y.actor) y.steps) ++ parts_from b (k + 1) peers)) is
    ∙ ap (λ text. was ++ text) (sym (parts_step b k peers x l)) ∙ so_far

parts_over : (b : Bound) (k : ℕ) (peers : List Peer) → length peers ≤ k → parts_from b k peers ≡ []
unfolding all_lines
parts_over b k peers past = ap (λ rest. text_of (all_lines k (actors_of b rest) (steps_of rest))) (drop_of_length-le peers past)

pub parts_end : (b : Bound) (k : ℕ) (peers : List Peer) (now whole : List ℕ) → length peers ≤ k → now ++ parts_from b k peers ≡ whole → now ≡ whole
parts_end b k peers now whole past so_far = sym (ap (λ text. now ++ text) (parts_over b k peers past) ∙ append-nil now) ∙ so_far

-- the part of a peer, from the clauses of what tells its state
pub part_of : (b : Bound) (k : ℕ) (x : Peer) (lines : List Line) (results : List LineResult) (kept : List Kept) (pending deferred : ℕ) (steps : List Step) → map (bind_line b) lines ≡ lines_of b x.actor.number → results ≡ x.actor.results.items
    → kept ≡ x.actor.kept → pending ≡ pending_of (actor_of b x.actor) → deferred ≡ deferred_of (actor_of b x.actor) → steps ≡ x.steps
    → text_of (peer_lines k lines results kept pending deferred steps) ≡ text_of (actor_lines k (actor_of b x.actor) x.steps)
part_of b k x lines results kept pending deferred steps is r q n d s =
    let a = x.actor in
    let own = lines_of b a.number in
    ap text_of (sym (peer_bound b k lines results kept pending deferred steps) ∙ ap (λ ls. peer_lines k ls results kept pending deferred steps) is
    ∙ ap (λ rs. peer_lines k own rs kept pending deferred steps) r ∙ ap (λ ks. peer_lines k own a.results.items ks pending deferred steps) q
    ∙ ap (λ m. peer_lines k own a.results.items a.kept m deferred steps) n ∙ ap (λ m. peer_lines k own a.results.items a.kept (pending_of (actor_of b a)) m steps) d
    ∙ ap (λ ss. peer_lines k own a.results.items a.kept (pending_of (actor_of b a)) (deferred_of (actor_of b a)) ss) s)

-- the first line, all parts, and the last line
pub whole_report : (b : Bound) (peers : List Peer) (x y z : List ℕ) → x ≡ line_of (first_line b.script.version (length peers)) → y ≡ x ++ text_of (all_lines 0 (actors_of b peers) (steps_of peers))
    → z ≡ y ++ line_of (last_line (all_done (actors_of b peers))) → z ≡ report_of b.script.version (actors_of b peers) (steps_of peers)
unfolding report_of report_lines
whole_report b peers x y z first parts last =
    let lines = all_lines 0 (actors_of b peers) (steps_of peers) in
    let end = last_line (all_done (actors_of b peers)) in
    let tail : text_of lines ++ line_of end ≡ text_of (lines ++ end ∷ []) = sym (text_of-append lines (end ∷ []) ∙ ap (λ text. text_of lines ++ text) (append-nil (line_of end))) in
    let head : x ≡ line_of (first_line b.script.version (length (actors_of b peers))) = first ∙ ap (λ n. line_of (first_line b.script.version n)) (sym (length-map peers (λ (p : Peer). actor_of b p.actor))) in
    last ∙ ap (λ text. text ++ line_of end) parts ∙ append_assoc x (text_of lines) (line_of end) ∙ ap (λ text. x ++ text) tail ∙ ap (λ text. text ++ text_of (lines ++ end ∷ [])) head

pub done_all : (b : Bound) (peers : List Peer) → list_all (λ (p : Peer). is_finished (actor_of b p.actor)) peers ≡ all_done (actors_of b peers)
done_all b [] = refl
done_all b (p ∷ peers) = ap (λ c. is_finished (actor_of b p.actor) && c) (done_all b peers)
