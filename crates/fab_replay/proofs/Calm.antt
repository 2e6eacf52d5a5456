-- Whether all peers are calm.
use Rattle.std.proofs.Common.{◌≡◌, ℕ, Bool, true, false, not, ◌&&◌, List, [], ◌∷◌, length, map, refl, sym, ap, ◌∙◌}
use Rattle.std.specs.List.{list_all}
use Rattle.std.proofs.lemmas.List.{length-map}
use Rattle.fab_base.specs.declared.script.Bound.{Bound}
use Rattle.fab_model.specs.Peers.{Facts, facts, all_below, has_all, is_calm}
use Rattle.fab_replay.specs.declared.turns.Peer.{Peer}
use Rattle.fab_replay.specs.Seen.{actor_of, actors_of}

-- ---- quiet

abbrev is_quiet : Facts → Bool
is_quiet f = f.finished && not f.draw_due

abbrev pub quiet_in : Bound → Peer → Bool
quiet_in bound p = (facts (actor_of bound p.actor)).finished && not (facts (actor_of bound p.actor)).draw_due

quiet_all : (bound : Bound) (peers : List Peer) → list_all is_quiet (map facts (actors_of bound peers)) ≡ list_all (quiet_in bound) peers
quiet_all bound [] = refl
quiet_all bound (p ∷ peers) = ap (λ b. quiet_in bound p && b) (quiet_all bound peers)

as_many : (bound : Bound) (peers : List Peer) → length (map facts (actors_of bound peers)) ≡ length peers
as_many bound peers = length-map (actors_of bound peers) facts ∙ length-map peers (λ (p : Peer). actor_of bound p.actor)

arrived : List Facts → ℕ → Bool
arrived all n = all_below (λ sender. all_below (has_all all sender) n) n

pub calm_is : (bound : Bound) (peers : List Peer) (quiet here : Bool) → quiet ≡ list_all (quiet_in bound) peers → here ≡ all_below (λ sender. all_below (has_all (map facts (actors_of bound peers)) sender) (length peers)) (length peers) → quiet ≡ true
    → here ≡ is_calm (map facts (actors_of bound peers))
unfolding is_calm arrived
calm_is bound peers quiet here q h holds =
    let all = map facts (actors_of bound peers) in
    let one : list_all is_quiet all ≡ true = quiet_all bound peers ∙ sym q ∙ holds in
    h ∙ ap (arrived all) (sym (as_many bound peers)) ∙ ap (λ b. b && arrived all (length all)) (sym one)

pub not_calm : (bound : Bound) (peers : List Peer) (quiet : Bool) → quiet ≡ list_all (quiet_in bound) peers → quiet ≡ false → quiet ≡ is_calm (map facts (actors_of bound peers))
unfolding is_calm
not_calm bound peers quiet q never =
    let all = map facts (actors_of bound peers) in
    let one : list_all is_quiet all ≡ false = quiet_all bound peers ∙ sym q ∙ never in
    never ∙ ap (λ b. b && all_below (λ sender. all_below (has_all all sender) (length all)) (length all)) (sym one)
