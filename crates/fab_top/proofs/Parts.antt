-- The parts of a report, one peer after another.
use Rattle.std.proofs.Common.{◌≡◌, ◌<◌, ◌+◌, ◌&&◌, ℕ, zero, suc, Bool, List, [], ◌∷◌, ◌++◌, length, drop, map, get_or, refl, sym, ap, ◌∙◌, arith, append_assoc, append-nil}
use Rattle.std.proofs.lemmas.List.{length-map}
use Rattle.std.specs.List.{list_all}
use Rattle.fab_base.specs.declared.entries.Kept.{Kept}
use Rattle.fab_base.specs.declared.peers.LineResult.{LineResult}
use Rattle.fab_base.specs.declared.peers.Step.{Step}
use Rattle.fab_base.specs.declared.script.Line.{Line}
use Rattle.fab_model.specs.Report.{all_lines, actor_lines, peer_lines, pending_of, deferred_of, report_of, report_lines, first_line, last_line}
use Rattle.fab_model.specs.Replay.{all_done}
use Rattle.fab_model.specs.Words.{text_of, line_of}
use Rattle.fab_finish.specs.Joined.{member_actor, member_steps}
use Rattle.fab_finish.specs.Joined.{Member}
use Rattle.fab_report.proofs.Blanks.{text_of-append}
use Rattle.fab_replay.proofs.Parts.{drop_here}
use Rattle.fab_peer.proofs.Showing.{drop_nil as drop_none}

pub list_all-map : {A B : Type 0} (f : B → Bool) (g : A → B) (xs : List A) → list_all (λ x. f (g x)) xs ≡ list_all f (map g xs)
list_all-map f g [] = refl
list_all-map f g (x ∷ xs) = ap (λ b. f (g x) && b) (list_all-map f g xs)

-- the text of the parts from peer k on
abbrev pub parts_from : ℕ → List Member → List ℕ
parts_from k peers = text_of (all_lines k (map member_actor (drop k peers)) (map member_steps (drop k peers)))

parts_step : (k : ℕ) (peers : List Member) (d : Member) → k < length peers
    → parts_from k peers ≡ text_of (actor_lines k (member_actor (get_or peers k d)) (member_steps (get_or peers k d))) ++ parts_from (k + 1) peers
unfolding all_lines
parts_step k peers d l =
    let x = get_or peers k d in
    let one : suc k ≡ k + 1 = omega arith in
    let here : drop k peers ≡ x ∷ drop (k + 1) peers = drop_here peers k d l ∙ ap (λ m. x ∷ drop m peers) one in
    ap (λ rest. text_of (all_lines k (map member_actor rest) (map member_steps rest))) here
    ∙ text_of-append (actor_lines k (member_actor x) (member_steps x)) (all_lines (k + 1) (map member_actor (drop (k + 1) peers)) (map member_steps (drop (k + 1) peers)))

-- one part is written, and those that are left are fewer
pub part_written : (k : ℕ) (peers : List Member) (x : Member) (was now whole : List ℕ) → k < length peers → x ≡ get_or peers k x → was ++ parts_from k peers ≡ whole
    → now ≡ was ++ text_of (actor_lines k (member_actor x) (member_steps x)) → now ++ parts_from (k + 1) peers ≡ whole
part_written k peers x was now whole l is wrote writes =
    let part = text_of (actor_lines k (member_actor x) (member_steps x)) in
    let step : parts_from k peers ≡ part ++ parts_from (k + 1) peers =
    parts_step k peers x l ∙ ap (λ y. text_of (actor_lines k (member_actor y) (member_steps y)) ++ parts_from (k + 1) peers) (sym is) in
    ap (λ text. text ++ parts_from (k + 1) peers) writes ∙ append_assoc was part (parts_from (k + 1) peers) ∙ ap (λ text. was ++ text) (sym step) ∙ wrote

past : {X : Type 0} (xs : List X) (k : ℕ) → length xs ≡ k → drop k xs ≡ []
past [] k e = drop_none k
past (x ∷ xs) zero e = absurd (omega arith)
past (x ∷ xs) (suc k) e = past xs k (omega arith)

pub parts_end : (k : ℕ) (peers : List Member) (now whole : List ℕ) → k ≡ length peers → now ++ parts_from k peers ≡ whole → now ≡ whole
unfolding all_lines
parts_end k peers now whole all wrote = let none : drop k peers ≡ [] = past peers k (sym all) in sym (append-nil now) ∙ rw none at wrote

-- the first line, all parts, and the last line
pub whole_report : (version : ℕ) (peers : List Member) (a b c : List ℕ) → a ≡ line_of (first_line version (length peers)) → b ≡ a ++ text_of (all_lines 0 (map member_actor peers) (map member_steps peers))
    → c ≡ b ++ line_of (last_line (all_done (map member_actor peers))) → c ≡ report_of version (map member_actor peers) (map member_steps peers)
unfolding report_of report_lines
whole_report version peers a b c first parts last =
    let lines = all_lines 0 (map member_actor peers) (map member_steps peers) in
    let end = last_line (all_done (map member_actor peers)) in
    let tail : text_of lines ++ line_of end ≡ text_of (lines ++ end ∷ []) = sym (text_of-append lines (end ∷ []) ∙ ap (λ text. text_of lines ++ text) (append-nil (line_of end))) in
    let head : a ≡ line_of (first_line version (length (map member_actor peers))) = first ∙ ap (λ n. line_of (first_line version n)) (sym (length-map peers member_actor)) in
    last ∙ ap (λ text. text ++ line_of end) parts ∙ append_assoc a (text_of lines) (line_of end) ∙ ap (λ text. a ++ text) tail ∙ ap (λ text. text ++ text_of (lines ++ end ∷ [])) head

-- a part by what it is of
pub part_of : (k : ℕ) (x : Member) (lines : List Line) (results : List LineResult) (kept : List Kept) (pending deferred : ℕ) (steps : List Step)
    → lines ≡ (member_actor x).lines → results ≡ (member_actor x).results → kept ≡ (member_actor x).kept → pending ≡ pending_of (member_actor x) → deferred ≡ deferred_of (member_actor x) → steps ≡ member_steps x
    → text_of (peer_lines k lines results kept pending deferred steps) ≡ text_of (actor_lines k (member_actor x) (member_steps x))
part_of k x lines results kept pending deferred steps a b c d e f = rw (a, b, c, d, e, f) refl
