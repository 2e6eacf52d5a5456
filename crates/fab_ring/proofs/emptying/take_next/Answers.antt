use Rattle.std.proofs.Common.{◌≡◌, ℕ, ◌*◌, ◌<◌, ◌∷◌, length, sym, ap, ◌∙◌, subst, arith}
use Rattle.std.specs.Prelude.{Some}
use Rattle.atomic_table.specs.Table.{rest}
use Rattle.fab_table.specs.declared.kinds.Sent.{Sent}
use Rattle.fab_table.specs.declared.kinds.Slot.{Slot}
use Rattle.fab_table.specs.declared.kinds.In.{In}
use Rattle.fab_table.specs.declared.kinds.View.{View}
use Rattle.fab_table.specs.Views.{part_at, out_at, saw_frame}
use Rattle.fab_table.specs.Plays.{Sat, new_in_view, oldest_cell, slot_home}
use Rattle.fab_table.specs.Seats.{sat, in_of}
use Rattle.fab_ring.proofs.Ends.{Found, found_first, oldest_at}
use Rattle.fab_ring.proofs.Lanes.{look_open, look_sided, free_in, free_sided, free_cell, done_joined, done_grew}
use Rattle.fab_ring.proofs.emptying.take_next.Goals as goal

pub bytes_of-bytes-requires-clause-open : goal.bytes_of-bytes-requires-clause-open
bytes_of-bytes-requires-clause-open c =
    let f = c.args.fabric.now in let s = c.args.seat.now in let t = c.read.new.seat in let r : ℕ = c.args.next.now.me in let e : ℕ = c.args.next.now.src in let j = c.requires.joined in let low = c.requires.below.0 in let below = c.requires.below.1 in let m : Sat = sat s in let u : In = in_of s r e in
    let p = j.each r low in let q = j.each e below in let res : ℕ = c.look_put-put.result in let saw = c.look_put-put.ensures.view in
    let posted : res ≡ length (out_at (part_at m.0 e) r).posted = saw.3 e (subst (λ (z : ℕ). e < z) (sym j.count) below) q.me ∙ ap (λ (z : ℕ). length (out_at (part_at m.0 e) z).posted) p.me in
    let news : length u.taken < res = (let more = c.requires.more in let count = c.requires.count in omega arith) in let took = saw.2 news in let x : Sent = took.0 in let y : Slot = took.1 in let opens = took.2 in
    let v₁ : View = new_in_view m.0 r e (saw_frame u res x) in let most : ℕ = (part_at m.0 r).peers * (part_at m.0 r).pool in
    let placed : c.cell_place-place.result ≡ oldest_cell m.0 r e = c.cell_place-place.ensures ∙ oldest_at f.peers f.room e r c.args.next.now.got c.args.next.now.cell (part_at m.0 r) p.peers p.room p.me c.requires.count c.requires.cell in
    let first = found_first m (sat c.look_put-put.new.seat) v₁ (oldest_cell m.0 r e) most (slot_home m.0 r) x y took.3 in
    let there = subst (λ (z : Sat). z.1 ≡ (c.cell_place-place.result, y) ∷ rest z.1) (sym first.1) (λ i. (sym placed i, y) ∷ first.0) in
    let says = c.read.ensures.says x y there opens.2 opens.1 in
    let found : Found m (sat t) v₁ (oldest_cell m.0 r e) (slot_home m.0 r) most x y = subst (λ (z : Sat). Found m z v₁ (oldest_cell m.0 r e) (slot_home m.0 r) most x y) (sym c.read.ensures.seat.1) took.3 in
    let same₁ : t.seat.table_id ≡ s.seat.table_id = c.read.ensures.seat.0.0 ∙ c.look_put-put.ensures.seat.0 in
    let opened = look_open f s t r e res x y j low below same₁ opens found in
    (x, y, opened, says)

pub give_back-requires-clause-seat : goal.give_back-requires-clause-seat
give_back-requires-clause-seat c =
    let f = c.args.fabric.now in let s = c.args.seat.now in let t = c.read.new.seat in let r : ℕ = c.args.next.now.me in let e : ℕ = c.args.next.now.src in let j = c.requires.joined in let low = c.requires.below.0 in let below = c.requires.below.1 in let m : Sat = sat s in let u : In = in_of s r e in
    let p = j.each r low in let q = j.each e below in let res : ℕ = c.look_put-put.result in let saw = c.look_put-put.ensures.view in
    let posted : res ≡ length (out_at (part_at m.0 e) r).posted = saw.3 e (subst (λ (z : ℕ). e < z) (sym j.count) below) q.me ∙ ap (λ (z : ℕ). length (out_at (part_at m.0 e) z).posted) p.me in
    let news : length u.taken < res = (let more = c.requires.more in let count = c.requires.count in omega arith) in let took = saw.2 news in let x : Sent = took.0 in let y : Slot = took.1 in let opens = took.2 in
    let v₁ : View = new_in_view m.0 r e (saw_frame u res x) in let most : ℕ = (part_at m.0 r).peers * (part_at m.0 r).pool in
    let placed : c.cell_place-place.result ≡ oldest_cell m.0 r e = c.cell_place-place.ensures ∙ oldest_at f.peers f.room e r c.args.next.now.got c.args.next.now.cell (part_at m.0 r) p.peers p.room p.me c.requires.count c.requires.cell in
    let first = found_first m (sat c.look_put-put.new.seat) v₁ (oldest_cell m.0 r e) most (slot_home m.0 r) x y took.3 in
    let there = subst (λ (z : Sat). z.1 ≡ (c.cell_place-place.result, y) ∷ rest z.1) (sym first.1) (λ i. (sym placed i, y) ∷ first.0) in
    let says = c.read.ensures.says x y there opens.2 opens.1 in
    let found : Found m (sat t) v₁ (oldest_cell m.0 r e) (slot_home m.0 r) most x y = subst (λ (z : Sat). Found m z v₁ (oldest_cell m.0 r e) (slot_home m.0 r) most x y) (sym c.read.ensures.seat.1) took.3 in
    let same₁ : t.seat.table_id ≡ s.seat.table_id = c.read.ensures.seat.0.0 ∙ c.look_put-put.ensures.seat.0 in
    let opened = look_open f s t r e res x y j low below same₁ opens found in
    let t₂ = c.bytes_of-bytes.new.seat in let freed = c.bytes_of-bytes.ensures.view x y opened says in
    let free_now = free_in f s t r e res x y j low below same₁ opens found t₂ freed in let side = free_sided f s t r e res x y j low below same₁ opens found t₂ freed in let same₂ = c.bytes_of-bytes.ensures.seat.0 ∙ same₁ in
    (same₂ ∙ j.of, (subst (λ (z : ℕ). r < z) (sym side.count) opened.near, side.me ∙ (look_sided f s t r e res x y j low below same₁ opens found).me ∙ p.me, side.peers ∙ opened.peers, low), below)

pub give_back-requires-clause-opened : goal.give_back-requires-clause-opened
give_back-requires-clause-opened c =
    let f = c.args.fabric.now in let s = c.args.seat.now in let t = c.read.new.seat in let r : ℕ = c.args.next.now.me in let e : ℕ = c.args.next.now.src in let j = c.requires.joined in let low = c.requires.below.0 in let below = c.requires.below.1 in let m : Sat = sat s in let u : In = in_of s r e in
    let p = j.each r low in let q = j.each e below in let res : ℕ = c.look_put-put.result in let saw = c.look_put-put.ensures.view in
    let posted : res ≡ length (out_at (part_at m.0 e) r).posted = saw.3 e (subst (λ (z : ℕ). e < z) (sym j.count) below) q.me ∙ ap (λ (z : ℕ). length (out_at (part_at m.0 e) z).posted) p.me in
    let news : length u.taken < res = (let more = c.requires.more in let count = c.requires.count in omega arith) in let took = saw.2 news in let x : Sent = took.0 in let y : Slot = took.1 in let opens = took.2 in
    let v₁ : View = new_in_view m.0 r e (saw_frame u res x) in let most : ℕ = (part_at m.0 r).peers * (part_at m.0 r).pool in
    let placed : c.cell_place-place.result ≡ oldest_cell m.0 r e = c.cell_place-place.ensures ∙ oldest_at f.peers f.room e r c.args.next.now.got c.args.next.now.cell (part_at m.0 r) p.peers p.room p.me c.requires.count c.requires.cell in
    let first = found_first m (sat c.look_put-put.new.seat) v₁ (oldest_cell m.0 r e) most (slot_home m.0 r) x y took.3 in
    let there = subst (λ (z : Sat). z.1 ≡ (c.cell_place-place.result, y) ∷ rest z.1) (sym first.1) (λ i. (sym placed i, y) ∷ first.0) in
    let says = c.read.ensures.says x y there opens.2 opens.1 in
    let found : Found m (sat t) v₁ (oldest_cell m.0 r e) (slot_home m.0 r) most x y = subst (λ (z : Sat). Found m z v₁ (oldest_cell m.0 r e) (slot_home m.0 r) most x y) (sym c.read.ensures.seat.1) took.3 in
    let same₁ : t.seat.table_id ≡ s.seat.table_id = c.read.ensures.seat.0.0 ∙ c.look_put-put.ensures.seat.0 in
    let opened = look_open f s t r e res x y j low below same₁ opens found in
    let t₂ = c.bytes_of-bytes.new.seat in let freed = c.bytes_of-bytes.ensures.view x y opened says in
    let free_now = free_in f s t r e res x y j low below same₁ opens found t₂ freed in let side = free_sided f s t r e res x y j low below same₁ opens found t₂ freed in let same₂ = c.bytes_of-bytes.ensures.seat.0 ∙ same₁ in
    (x, ap (λ (z : In). z.opened) free_now, ap (λ (z : In). z.lent) free_now)

pub give_back-requires-clause-count : goal.give_back-requires-clause-count
give_back-requires-clause-count c =
    let f = c.args.fabric.now in let s = c.args.seat.now in let t = c.read.new.seat in let r : ℕ = c.args.next.now.me in let e : ℕ = c.args.next.now.src in let j = c.requires.joined in let low = c.requires.below.0 in let below = c.requires.below.1 in let m : Sat = sat s in let u : In = in_of s r e in
    let p = j.each r low in let q = j.each e below in let res : ℕ = c.look_put-put.result in let saw = c.look_put-put.ensures.view in
    let posted : res ≡ length (out_at (part_at m.0 e) r).posted = saw.3 e (subst (λ (z : ℕ). e < z) (sym j.count) below) q.me ∙ ap (λ (z : ℕ). length (out_at (part_at m.0 e) z).posted) p.me in
    let news : length u.taken < res = (let more = c.requires.more in let count = c.requires.count in omega arith) in let took = saw.2 news in let x : Sent = took.0 in let y : Slot = took.1 in let opens = took.2 in
    let v₁ : View = new_in_view m.0 r e (saw_frame u res x) in let most : ℕ = (part_at m.0 r).peers * (part_at m.0 r).pool in
    let placed : c.cell_place-place.result ≡ oldest_cell m.0 r e = c.cell_place-place.ensures ∙ oldest_at f.peers f.room e r c.args.next.now.got c.args.next.now.cell (part_at m.0 r) p.peers p.room p.me c.requires.count c.requires.cell in
    let first = found_first m (sat c.look_put-put.new.seat) v₁ (oldest_cell m.0 r e) most (slot_home m.0 r) x y took.3 in
    let there = subst (λ (z : Sat). z.1 ≡ (c.cell_place-place.result, y) ∷ rest z.1) (sym first.1) (λ i. (sym placed i, y) ∷ first.0) in
    let says = c.read.ensures.says x y there opens.2 opens.1 in
    let found : Found m (sat t) v₁ (oldest_cell m.0 r e) (slot_home m.0 r) most x y = subst (λ (z : Sat). Found m z v₁ (oldest_cell m.0 r e) (slot_home m.0 r) most x y) (sym c.read.ensures.seat.1) took.3 in
    let same₁ : t.seat.table_id ≡ s.seat.table_id = c.read.ensures.seat.0.0 ∙ c.look_put-put.ensures.seat.0 in
    let opened = look_open f s t r e res x y j low below same₁ opens found in
    let t₂ = c.bytes_of-bytes.new.seat in let freed = c.bytes_of-bytes.ensures.view x y opened says in
    let free_now = free_in f s t r e res x y j low below same₁ opens found t₂ freed in let side = free_sided f s t r e res x y j low below same₁ opens found t₂ freed in let same₂ = c.bytes_of-bytes.ensures.seat.0 ∙ same₁ in
    (c.requires.count ∙ ap (λ (z : In). length z.taken) (sym free_now), (let fits = c.look_put-put.type_inv in let count = c.requires.count in omega arith))

pub give_back-requires-clause-cell : goal.give_back-requires-clause-cell
give_back-requires-clause-cell c =
    let f = c.args.fabric.now in let s = c.args.seat.now in let t = c.read.new.seat in let r : ℕ = c.args.next.now.me in let e : ℕ = c.args.next.now.src in let j = c.requires.joined in let low = c.requires.below.0 in let below = c.requires.below.1 in let m : Sat = sat s in let u : In = in_of s r e in
    let p = j.each r low in let q = j.each e below in let res : ℕ = c.look_put-put.result in let saw = c.look_put-put.ensures.view in
    let posted : res ≡ length (out_at (part_at m.0 e) r).posted = saw.3 e (subst (λ (z : ℕ). e < z) (sym j.count) below) q.me ∙ ap (λ (z : ℕ). length (out_at (part_at m.0 e) z).posted) p.me in
    let news : length u.taken < res = (let more = c.requires.more in let count = c.requires.count in omega arith) in let took = saw.2 news in let x : Sent = took.0 in let y : Slot = took.1 in let opens = took.2 in
    let v₁ : View = new_in_view m.0 r e (saw_frame u res x) in let most : ℕ = (part_at m.0 r).peers * (part_at m.0 r).pool in
    let placed : c.cell_place-place.result ≡ oldest_cell m.0 r e = c.cell_place-place.ensures ∙ oldest_at f.peers f.room e r c.args.next.now.got c.args.next.now.cell (part_at m.0 r) p.peers p.room p.me c.requires.count c.requires.cell in
    let first = found_first m (sat c.look_put-put.new.seat) v₁ (oldest_cell m.0 r e) most (slot_home m.0 r) x y took.3 in
    let there = subst (λ (z : Sat). z.1 ≡ (c.cell_place-place.result, y) ∷ rest z.1) (sym first.1) (λ i. (sym placed i, y) ∷ first.0) in
    let says = c.read.ensures.says x y there opens.2 opens.1 in
    let found : Found m (sat t) v₁ (oldest_cell m.0 r e) (slot_home m.0 r) most x y = subst (λ (z : Sat). Found m z v₁ (oldest_cell m.0 r e) (slot_home m.0 r) most x y) (sym c.read.ensures.seat.1) took.3 in
    let same₁ : t.seat.table_id ≡ s.seat.table_id = c.read.ensures.seat.0.0 ∙ c.look_put-put.ensures.seat.0 in
    let opened = look_open f s t r e res x y j low below same₁ opens found in
    let t₂ = c.bytes_of-bytes.new.seat in let freed = c.bytes_of-bytes.ensures.view x y opened says in
    let free_now = free_in f s t r e res x y j low below same₁ opens found t₂ freed in let side = free_sided f s t r e res x y j low below same₁ opens found t₂ freed in let same₂ = c.bytes_of-bytes.ensures.seat.0 ∙ same₁ in
    free_cell f s t r e res x y j low below same₁ opens found t₂ freed

pub returns-clause-joined : goal.returns-clause-joined
returns-clause-joined c =
    let f = c.args.fabric.now in let s = c.args.seat.now in let t = c.read.new.seat in let r : ℕ = c.args.next.now.me in let e : ℕ = c.args.next.now.src in let j = c.requires.joined in let low = c.requires.below.0 in let below = c.requires.below.1 in let m : Sat = sat s in let u : In = in_of s r e in
    let p = j.each r low in let q = j.each e below in let res : ℕ = c.look_put-put.result in let saw = c.look_put-put.ensures.view in
    let posted : res ≡ length (out_at (part_at m.0 e) r).posted = saw.3 e (subst (λ (z : ℕ). e < z) (sym j.count) below) q.me ∙ ap (λ (z : ℕ). length (out_at (part_at m.0 e) z).posted) p.me in
    let news : length u.taken < res = (let more = c.requires.more in let count = c.requires.count in omega arith) in let took = saw.2 news in let x : Sent = took.0 in let y : Slot = took.1 in let opens = took.2 in
    let v₁ : View = new_in_view m.0 r e (saw_frame u res x) in let most : ℕ = (part_at m.0 r).peers * (part_at m.0 r).pool in
    let placed : c.cell_place-place.result ≡ oldest_cell m.0 r e = c.cell_place-place.ensures ∙ oldest_at f.peers f.room e r c.args.next.now.got c.args.next.now.cell (part_at m.0 r) p.peers p.room p.me c.requires.count c.requires.cell in
    let first = found_first m (sat c.look_put-put.new.seat) v₁ (oldest_cell m.0 r e) most (slot_home m.0 r) x y took.3 in
    let there = subst (λ (z : Sat). z.1 ≡ (c.cell_place-place.result, y) ∷ rest z.1) (sym first.1) (λ i. (sym placed i, y) ∷ first.0) in
    let says = c.read.ensures.says x y there opens.2 opens.1 in
    let found : Found m (sat t) v₁ (oldest_cell m.0 r e) (slot_home m.0 r) most x y = subst (λ (z : Sat). Found m z v₁ (oldest_cell m.0 r e) (slot_home m.0 r) most x y) (sym c.read.ensures.seat.1) took.3 in
    let same₁ : t.seat.table_id ≡ s.seat.table_id = c.read.ensures.seat.0.0 ∙ c.look_put-put.ensures.seat.0 in
    let opened = look_open f s t r e res x y j low below same₁ opens found in
    let t₂ = c.bytes_of-bytes.new.seat in let freed = c.bytes_of-bytes.ensures.view x y opened says in
    let free_now = free_in f s t r e res x y j low below same₁ opens found t₂ freed in let side = free_sided f s t r e res x y j low below same₁ opens found t₂ freed in let same₂ = c.bytes_of-bytes.ensures.seat.0 ∙ same₁ in
    let t₃ = c.give_back.new.seat in let is₂ : (in_of t₂ r e).opened ≡ Some x = ap (λ (z : In). z.opened) free_now in let done = c.give_back.ensures.view x is₂ in let same₃ = c.give_back.ensures.seat.0 ∙ same₂ in
    done_joined f s t r e res x y j low below same₁ opens found t₂ freed t₃ same₃ done

pub returns-clause-taken : goal.returns-clause-taken
returns-clause-taken c =
    let f = c.args.fabric.now in let s = c.args.seat.now in let t = c.read.new.seat in let r : ℕ = c.args.next.now.me in let e : ℕ = c.args.next.now.src in let j = c.requires.joined in let low = c.requires.below.0 in let below = c.requires.below.1 in let m : Sat = sat s in let u : In = in_of s r e in
    let p = j.each r low in let q = j.each e below in let res : ℕ = c.look_put-put.result in let saw = c.look_put-put.ensures.view in
    let posted : res ≡ length (out_at (part_at m.0 e) r).posted = saw.3 e (subst (λ (z : ℕ). e < z) (sym j.count) below) q.me ∙ ap (λ (z : ℕ). length (out_at (part_at m.0 e) z).posted) p.me in
    let news : length u.taken < res = (let more = c.requires.more in let count = c.requires.count in omega arith) in let took = saw.2 news in let x : Sent = took.0 in let y : Slot = took.1 in let opens = took.2 in
    let v₁ : View = new_in_view m.0 r e (saw_frame u res x) in let most : ℕ = (part_at m.0 r).peers * (part_at m.0 r).pool in
    let placed : c.cell_place-place.result ≡ oldest_cell m.0 r e = c.cell_place-place.ensures ∙ oldest_at f.peers f.room e r c.args.next.now.got c.args.next.now.cell (part_at m.0 r) p.peers p.room p.me c.requires.count c.requires.cell in
    let first = found_first m (sat c.look_put-put.new.seat) v₁ (oldest_cell m.0 r e) most (slot_home m.0 r) x y took.3 in
    let there = subst (λ (z : Sat). z.1 ≡ (c.cell_place-place.result, y) ∷ rest z.1) (sym first.1) (λ i. (sym placed i, y) ∷ first.0) in
    let says = c.read.ensures.says x y there opens.2 opens.1 in
    let found : Found m (sat t) v₁ (oldest_cell m.0 r e) (slot_home m.0 r) most x y = subst (λ (z : Sat). Found m z v₁ (oldest_cell m.0 r e) (slot_home m.0 r) most x y) (sym c.read.ensures.seat.1) took.3 in
    let same₁ : t.seat.table_id ≡ s.seat.table_id = c.read.ensures.seat.0.0 ∙ c.look_put-put.ensures.seat.0 in
    let opened = look_open f s t r e res x y j low below same₁ opens found in
    let t₂ = c.bytes_of-bytes.new.seat in let freed = c.bytes_of-bytes.ensures.view x y opened says in
    let free_now = free_in f s t r e res x y j low below same₁ opens found t₂ freed in let side = free_sided f s t r e res x y j low below same₁ opens found t₂ freed in let same₂ = c.bytes_of-bytes.ensures.seat.0 ∙ same₁ in
    let t₃ = c.give_back.new.seat in let is₂ : (in_of t₂ r e).opened ≡ Some x = ap (λ (z : In). z.opened) free_now in let done = c.give_back.ensures.view x is₂ in let same₃ = c.give_back.ensures.seat.0 ∙ same₂ in
    (x, (λ i. record { head = says.2 i; bytes = c.bytes_of-bytes.ensures.bytes x y opened says i }), done_grew f s t r e res x y j low below same₁ opens found t₂ freed t₃ same₃ done, opens.0)
