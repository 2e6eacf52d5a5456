-- What stays of the rule when one lane and one part move.
use Rattle.std.proofs.Common.{◌≡◌, ℕ, ◌+◌, ◌*◌, ◌%◌, ◌<◌, ◌≢◌, ⊎_elim, List, length, get_or, set, sym, refl, ap, ◌∙◌, subst, length-set, mod-lt}
use mathlib.Core.Option.{some}
use lib.ListN.{get_elem?}
use Rattle.atomic_table.specs.Table.{State}
use Rattle.atomic_table.proofs.Lists.{at_set}
use Rattle.fab_table.specs.declared.kinds.Layout.{Layout}
use Rattle.fab_table.specs.declared.kinds.Slot.{Slot}
use Rattle.fab_table.specs.declared.kinds.Out.{Out}
use Rattle.fab_table.specs.declared.kinds.In.{In}
use Rattle.fab_link.specs.declared.moves.Move.{Move}
use Rattle.fab_table.specs.declared.kinds.Part.{Part}
use Rattle.fab_table.specs.declared.kinds.View.{View}
use Rattle.fab_table.specs.Views.{new_part, new_out, new_in, part_at, out_at, in_at, with_part, with_out, with_in, lane_of, put_word, got_word}
use Rattle.fab_table.specs.Rule.{Place, Pools, Homes, Lane, LaneOk, OutOk, InOk, Kept, PartOk, Ruled}
use Rattle.fab_table.proofs.Rows.{each_set, put, at_put, lane_once}
use Rattle.fab_table.proofs.Cells.{stays}

abbrev pub St : Type 0
St = State Slot View

module _ (k : Layout) (s : St) (r : Ruled k s) where
  abbrev n : ℕ
  n = k.peers

  abbrev room : ℕ
  room = k.room

  -- the words and homes of the other lanes do not change
  abbrev pub Elsewhere : ℕ → List ℕ → Homes → Type 0
  Elsewhere l ws hs = ((m : ℕ) → m < k.peers * k.peers → m ≢ l → (get_or ws (put_word m) 0 ≡ get_or s.words (put_word m) 0) × (get_or ws (got_word m) 0 ≡ get_or s.words (got_word m) 0))
      × ((m c : ℕ) → m < k.peers * k.peers → m ≢ l → c < k.room → get_elem? hs (m * k.room + c) ≡ get_elem? s.homes (m * k.room + c))

  lanes_after : (l : ℕ) (x : Lane) (ws : List ℕ) (hs : Homes) → Elsewhere l ws hs → LaneOk room (l * room) (get_or ws (put_word l) 0) (get_or ws (got_word l) 0) hs x
      → (m : ℕ) → m < n * n → LaneOk room (m * room) (get_or ws (put_word m) 0) (get_or ws (got_word m) 0) hs (put r.lane l x m)
  lanes_after l x ws hs same ok m near = at_put r.lane l x (λ q y. q < n * n → LaneOk room (q * room) (get_or ws (put_word q) 0) (get_or ws (got_word q) 0) hs y) m (λ _. ok)
      (λ ne inside. subst (λ (z : ℕ × ℕ). LaneOk room (m * room) z.0 z.1 hs (r.lane m)) (λ i. (sym (same.0 m inside ne).0 i, sym (same.0 m inside ne).1 i))
      (stays room (m * room) (get_or s.words (put_word m) 0) (get_or s.words (got_word m) 0) s.homes hs (r.lane m) (λ c. same.1 m (c % room) inside ne (mod-lt c r.some_room)) (r.each_lane m inside))) near

  module _ (j : ℕ) (v : View) (at : get_elem? s.views j ≡ some v) (i : ℕ) (inside : i < length v.parts) where
    abbrev p : Part
    p = part_at v i

    pub mine : PartOk k.peers k.room k.pool r.lane r.spot j i (part_at v i)
    mine = r.each_part j v at i inside

    abbrev Others : ℕ → Lane → Type 0
    Others l x = (j' i' : ℕ) (q : Part) → ¬ (◌≡◌ {A = ℕ × ℕ} (j', i') (j, i)) → PartOk n room k.pool r.lane r.spot j' i' q → PartOk n room k.pool (put r.lane l x) r.spot j' i' q

    parts_after : (l : ℕ) (x : Lane) (p' : Part) → PartOk n room k.pool (put r.lane l x) r.spot j i p' → Others l x
        → (j' : ℕ) (v' : View) → get_elem? (set s.views j (with_part v i p')) j' ≡ some v' → (i' : ℕ) → i' < length v'.parts → PartOk n room k.pool (put r.lane l x) r.spot j' i' (part_at v' i')
    parts_after l x p' ok others j' v' e = ⊎_elim
        (λ t. subst (λ (z : ℕ × View). (i' : ℕ) → i' < length z.1.parts → PartOk n room k.pool (put r.lane l x) r.spot z.0 i' (part_at z.1 i')) (λ a. (sym t.0 a, t.1 a))
        (λ i' near. each_set (λ c q. PartOk n room k.pool (put r.lane l x) r.spot j c q) v.parts i p' (new_part 0 0 0 0) ok
        (λ c ne near'. others j c (part_at v c) (λ h. ne (ap (λ (z : ℕ × ℕ). z.1) h)) (r.each_part j v at c near')) i' (subst (λ (z : ℕ). i' < z) (length-set v.parts i p') near)))
        (λ t i' near. others j' i' (part_at v' i') (λ h. t.0 (ap (λ (z : ℕ × ℕ). z.0) h)) (r.each_part j' v' t.1 i' near))
        (at_set s.views j j' (with_part v i p') v' e)

    changed : (l : ℕ) (x : Lane) (p' : Part) (ws : List ℕ) (hs : Homes) (place' : ℕ → Place) → Pools k.peers k.room k.pool (put r.lane l x) place' ws hs → length ws ≡ length s.words → length hs ≡ length s.homes → Elsewhere l ws hs
        → LaneOk room (l * room) (get_or ws (put_word l) 0) (get_or ws (got_word l) 0) hs x → PartOk n room k.pool (put r.lane l x) r.spot j i p' → Others l x
        → Ruled k record { words = ws; homes = hs; views = set s.views j (with_part v i p') }
    changed l x p' ws hs place' pools long wide same ok mine others = record {
      place = place';
      pools = pools;
      lane = put r.lane l x;
      spot = r.spot;
      some_room = r.some_room;
      all_words = long ∙ r.all_words;
      all_slots = wide ∙ r.all_slots;
      each_lane = lanes_after l x ws hs same ok;
      each_part = parts_after l x p' mine others;
    }

    -- a step on a lane that the part writes
    pub out_moves : (d : ℕ) (x : Lane) (o : Out) (ms : List Move) (ws : List ℕ) (hs : Homes) (place' : ℕ → Place) → Pools k.peers k.room k.pool (put r.lane (lane_of k.peers (part_at v i).me d) x) place' ws hs → d < k.peers → length ws ≡ length s.words → length hs ≡ length s.homes → Elsewhere (lane_of k.peers (part_at v i).me d) ws hs
        → LaneOk k.room (lane_of k.peers (part_at v i).me d * k.room) (get_or ws (put_word (lane_of k.peers (part_at v i).me d)) 0) (get_or ws (got_word (lane_of k.peers (part_at v i).me d)) 0) hs x
        → OutOk x o → ((u : In) → InOk (r.lane (lane_of k.peers (part_at v i).me d)) u → InOk x u) → Kept (with_out (part_at v i) d o ms)
        → Ruled k record { words = ws; homes = hs; views = set s.views j (with_part v i (with_out (part_at v i) d o ms)) }
    out_moves d x o ms ws hs place' pools near long wide same ok fine keep kept = let l : ℕ = lane_of n p.me d in changed l x (with_out p d o ms) ws hs place' pools long wide same ok
        record {
          below = mine.below;
          peers = mine.peers;
          wide = mine.wide;
          pooled = mine.pooled;
          seated = mine.seated;
          all_outs = length-set p.outs d o ∙ mine.all_outs;
          all_ins = mine.all_ins;
          outs = λ e within. each_set (λ c (z : Out). c < n → OutOk (put r.lane l x (lane_of n p.me c)) z) p.outs d o (new_out 0)
              (λ _. at_put r.lane l x (λ m y. m ≡ l → OutOk y o) l (λ _. fine) (λ ne. absurd (ne refl)) refl)
              (λ c ne _ near'. at_put r.lane l x (λ m y. m ≡ lane_of n p.me c → OutOk y (out_at p c)) (lane_of n p.me c) (λ is. absurd (ne (sym (lane_once n p.me d p.me c mine.below mine.below is).1))) (λ _ _. mine.outs c near') refl)
              e (subst (λ (z : ℕ). e < z) (sym mine.all_outs) within) within;
          ins = λ c near'. at_put r.lane l x (λ m y. m ≡ lane_of n c p.me → InOk y (in_at p c)) (lane_of n c p.me)
              (λ is. keep (in_at p c) (subst (λ (z : ℕ). InOk (r.lane z) (in_at p c)) (sym is) (mine.ins c near'))) (λ _ _. mine.ins c near') refl;
          kept = kept;
        }
        (λ j' i' q ne ok'. record {
          below = ok'.below;
          peers = ok'.peers;
          wide = ok'.wide;
          pooled = ok'.pooled;
          seated = ok'.seated;
          all_outs = ok'.all_outs;
          all_ins = ok'.all_ins;
          outs = λ c near'. at_put r.lane l x (λ m y. m ≡ lane_of n q.me c → OutOk y (out_at q c)) (lane_of n q.me c)
              (λ is. absurd (ne (sym ok'.seated ∙ ap r.spot (sym (lane_once n p.me d q.me c mine.below ok'.below is).0) ∙ mine.seated))) (λ _ _. ok'.outs c near') refl;
          ins = λ c near'. at_put r.lane l x (λ m y. m ≡ lane_of n c q.me → InOk y (in_at q c)) (lane_of n c q.me)
              (λ is. keep (in_at q c) (subst (λ (z : ℕ). InOk (r.lane z) (in_at q c)) (sym is) (ok'.ins c near'))) (λ _ _. ok'.ins c near') refl;
          kept = ok'.kept;
        })

    -- a step on a lane that the part reads
    pub in_moves : (d : ℕ) (x : Lane) (o : In) (ms : List Move) (ws : List ℕ) (hs : Homes) (place' : ℕ → Place) → Pools k.peers k.room k.pool (put r.lane (lane_of k.peers d (part_at v i).me) x) place' ws hs → d < k.peers → length ws ≡ length s.words → length hs ≡ length s.homes → Elsewhere (lane_of k.peers d (part_at v i).me) ws hs
        → LaneOk k.room (lane_of k.peers d (part_at v i).me * k.room) (get_or ws (put_word (lane_of k.peers d (part_at v i).me)) 0) (get_or ws (got_word (lane_of k.peers d (part_at v i).me)) 0) hs x
        → InOk x o → ((u : Out) → OutOk (r.lane (lane_of k.peers d (part_at v i).me)) u → OutOk x u) → Kept (with_in (part_at v i) d o ms)
        → Ruled k record { words = ws; homes = hs; views = set s.views j (with_part v i (with_in (part_at v i) d o ms)) }
    in_moves d x o ms ws hs place' pools near long wide same ok fine keep kept = let l : ℕ = lane_of n d p.me in changed l x (with_in p d o ms) ws hs place' pools long wide same ok
        record {
          below = mine.below;
          peers = mine.peers;
          wide = mine.wide;
          pooled = mine.pooled;
          seated = mine.seated;
          all_outs = mine.all_outs;
          all_ins = length-set p.ins d o ∙ mine.all_ins;
          ins = λ e within. each_set (λ c (z : In). c < n → InOk (put r.lane l x (lane_of n c p.me)) z) p.ins d o new_in
              (λ _. at_put r.lane l x (λ m y. m ≡ l → InOk y o) l (λ _. fine) (λ ne. absurd (ne refl)) refl)
              (λ c ne _ near'. at_put r.lane l x (λ m y. m ≡ lane_of n c p.me → InOk y (in_at p c)) (lane_of n c p.me) (λ is. absurd (ne (sym (lane_once n d p.me c p.me near near' is).0))) (λ _ _. mine.ins c near') refl)
              e (subst (λ (z : ℕ). e < z) (sym mine.all_ins) within) within;
          outs = λ c near'. at_put r.lane l x (λ m y. m ≡ lane_of n p.me c → OutOk y (out_at p c)) (lane_of n p.me c)
              (λ is. keep (out_at p c) (subst (λ (z : ℕ). OutOk (r.lane z) (out_at p c)) (sym is) (mine.outs c near'))) (λ _ _. mine.outs c near') refl;
          kept = kept;
        }
        (λ j' i' q ne ok'. record {
          below = ok'.below;
          peers = ok'.peers;
          wide = ok'.wide;
          pooled = ok'.pooled;
          seated = ok'.seated;
          all_outs = ok'.all_outs;
          all_ins = ok'.all_ins;
          ins = λ c near'. at_put r.lane l x (λ m y. m ≡ lane_of n c q.me → InOk y (in_at q c)) (lane_of n c q.me)
              (λ is. absurd (ne (sym ok'.seated ∙ ap r.spot (sym (lane_once n d p.me c q.me near near' is).1) ∙ mine.seated))) (λ _ _. ok'.ins c near') refl;
          outs = λ c near'. at_put r.lane l x (λ m y. m ≡ lane_of n q.me c → OutOk y (out_at q c)) (lane_of n q.me c)
              (λ is. keep (out_at q c) (subst (λ (z : ℕ). OutOk (r.lane z) (out_at q c)) (sym is) (ok'.outs c near'))) (λ _ _. ok'.outs c near') refl;
          kept = ok'.kept;
        })
