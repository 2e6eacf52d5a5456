-- The entries that a thread read are the first of those that its endpoint wrote.
use Rattle.std.proofs.Common.{◌≡◌, ◌≤◌, ◌+◌, ℕ, Bool, true, false, List, [], ◌∷◌, ◌++◌, length, length-append, map, take, sym, ap, ◌∙◌, subst, arith, append-nil, append_assoc}
use Rattle.std.proofs.lemmas.List.{map-append, take-append-le, take_more}
use Rattle.std.proofs.lemmas.Option.{get_or_from_slice_get, slice_get_within}
use Rattle.fab_base.specs.declared.entries.Taken.{Taken}
use Rattle.fab_base.specs.declared.items.Item.{Item}
use Rattle.fab_base.specs.declared.operations.Written.{Written}
use Rattle.fab_base.specs.declared.peers.LineResult.{LineResult}
use Rattle.fab_link.specs.Joined.{grown, is_last}
use Rattle.fab_model.specs.State.{State}
use Rattle.fab_face.specs.Held.{Held, begun_of}
use Rattle.fab_face.specs.Acts.{Departs, Ends, headed, is_first}
use Rattle.fab_face.proofs.Writing.{Adds, adds_call, adds_draw, adds_headed, adds_none, adds_sent, adds_tail, adds_then}
use Rattle.fab_doings.specs.Doings.{Calls, Did, Does, DoesBy, Doing, Drew, Had, Living, Own, Owns, Posted, Took, Writes, entries_by, entries_of}

-- these were read of it
pub record HasRead (s : State) (read : List Taken) : Type 0 where
  pub are : read ≡ map (λ (w : Written). w.entry) (take s.cq.taken_out s.cq.written)
  pub within : s.cq.taken_out ≤ length s.cq.written

-- entries are added, and none is read
has_grown : (n : ℕ) (s u : State) (read : List Taken) → Adds n s u → HasRead s read → HasRead u (read ++ [])
has_grown n s u read a has = record {
  are = append-nil read ∙ has.are
      ∙ ap (map (λ (w : Written). w.entry)) (sym (ap (λ t. take t u.cq.written) a.read ∙ ap (λ ws. take s.cq.taken_out ws) a.grown ∙ take-append-le s.cq.taken_out s.cq.written a.more has.within));
  within = (let long : length u.cq.written ≡ length s.cq.written + length a.more = ap length a.grown ∙ length-append s.cq.written a.more in let few = has.within in omega (arith, long, few, a.read));
}

own_adds : (own : Own) (s u : State) → Owns own s u → Adds 1 s u
own_adds (Calls call answer) s u is = subst (λ (t : State). Adds 1 s t) (ap (λ (r : LineResult × State). r.1) is) (adds_call s call)
own_adds (Writes counters) s u is = adds_none 1 s u (ap (λ (t : State). t.cq) is)

taken_adds : (s : State) (h t : Held) (source : ℕ) (item : Item) (last : Bool) → Ends last h s source item t → Adds 2 s t.state
taken_adds s h t source item true (odd, room, is) = subst (λ (u : State). Adds 2 s u) (ap (λ (x : Held). x.state) (sym is)) (adds_tail s source item.head item.bytes)
taken_adds s h t source item false is = adds_none 2 s t.state (ap (λ (x : Held). x.state.cq) is)

posted_adds : (h t : Held) (dest place : ℕ) (last : Bool) → Departs last h dest place t → Adds 1 h.state t.state
posted_adds h t dest place true (room, is) = subst (λ (u : State). Adds 1 h.state u) (ap (λ (x : Held). x.state) (sym is)) (adds_sent h.state dest)
posted_adds h t dest place false is = adds_none 1 h.state t.state (ap (λ (x : Held). x.state.cq) is)

one_read : (p q : Living) (x : Doing) (read : List Taken) → Does p x q → HasRead p.held.state read → HasRead q.held.state (read ++ entries_by x)
one_read p q (Did own) read ((did, grew), parts) has = has_grown 1 p.held.state q.held.state read (own_adds own p.held.state q.held.state did) has
one_read p q (Took source f) read ((in_begun, in_tails, comes, ends), grew) has =
    let s : State = headed (is_first f) p.held.state source f.head.item in
    has_grown 2 p.held.state q.held.state read
    (adds_then 0 2 p.held.state s q.held.state (adds_headed (is_first f) p.held.state source f.head.item) (taken_adds s p.held q.held source (grown (begun_of p.held source) f) (is_last f.head) ends)) has
one_read p q (Posted dest f) read ((in_places, in_sent, next, departs), grew) has = has_grown 1 p.held.state q.held.state read (posted_adds p.held q.held dest (f.head.from + f.head.len) (is_last f.head) departs) has
one_read p q Drew read ((due, room, is), grew) has =
    has_grown 2 p.held.state q.held.state read (subst (λ (u : State). Adds 2 p.held.state u) (ap (λ (x : Held). x.state) (sym is)) (adds_draw p.held.state)) has
one_read p q (Had entry) read ((w, first, same, is, grew), parts) has =
    let n = p.held.state.cq.taken_out in
    let xs = p.held.state.cq.written in
    let out : q.held.state.cq.taken_out ≡ n + 1 = ap (λ (u : State). u.cq.taken_out) is in
    let wrote : q.held.state.cq.written ≡ xs = ap (λ (u : State). u.cq.written) is in
    let within = slice_get_within xs n w first in
    let more : take q.held.state.cq.taken_out q.held.state.cq.written ≡ take n xs ++ w ∷ [] =
    ap (λ k. take k q.held.state.cq.written) out ∙ ap (take (n + 1)) wrote ∙ take_more xs n w within ∙ ap (λ (x : Written). take n xs ++ x ∷ []) (get_or_from_slice_get xs n w w first) in
    record {
      are = ap (λ es. es ++ entry ∷ []) has.are ∙ ap (λ e. map (λ (v : Written). v.entry) (take n xs) ++ e ∷ []) (sym same) ∙ sym (map-append (λ (v : Written). v.entry) (take n xs) (w ∷ [])) ∙ ap (map (λ (v : Written). v.entry)) (sym more);
      within = (let lt = within in let o = out in let l : length q.held.state.cq.written ≡ length xs = ap length wrote in omega (arith, lt, o, l));
    }

pub all_read : (p q : Living) (xs : List Doing) (read : List Taken) → DoesBy p xs q → HasRead p.held.state read → HasRead q.held.state (read ++ entries_of xs)
all_read p q [] read does has = subst (λ es. HasRead q.held.state es) (sym (append-nil read)) (subst (λ (z : Living). HasRead z.held.state read) does has)
all_read p q (x ∷ xs) read (mid, one, rest) has = subst (λ es. HasRead q.held.state es) (append_assoc read (entries_by x) (entries_of xs)) (all_read mid q xs (read ++ entries_by x) rest (one_read p mid x read one has))
