-- A receive's buffer fills as bytes come, and its completion tells what they were.
use Rattle.std.proofs.Common.{◌≡◌, ℕ, ◌-◌, ◌≤◌, ◌<◌, true, false, List, length, Option, Some, None, refl, ap, ◌∙◌, arith}
use Rattle.std.specs.Prelude.{is_some}
use Rattle.std.proofs.lemmas.Bool.Decides.{nat_tests}
use Rattle.fab_base.specs.declared.items.Item.{Item}
use Rattle.fab_base.specs.declared.items.ItemHead.{ItemHead}
use Rattle.fab_base.specs.declared.entries.Taken.TheVariants.{Success, Failure}
use Rattle.fab_base.specs.declared.entries.Entry.TheVariants.{Part, Received}
use Rattle.fab_base.specs.declared.entries.ErrKind.TheVariants.{Truncated}
use Rattle.fab_base.specs.declared.operations.Receive.{Receive}
use Rattle.fab_base.specs.declared.operations.Coming.{Coming}
use Rattle.fab_model.specs.Complete.{entry_of, received, truncated, paste, has_space, tag_of}
use Rattle.fab_rx.specs.declared.results.Completed.{Completed}
use Rattle.fab_rx.specs.declared.stored.Seat.{Seat}
use Rattle.fab_rx.specs.declared.stored.Parcel.{Parcel}
use Rattle.fab_rx.specs.declared.stored.Way.TheVariants.{Into}
use Rattle.fab_rx.specs.Table.{Cells}
use Rattle.fab_rx.specs.Arriving.{IsSingle, lengthened}
use Rattle.fab_rx.specs.Results.{completed}
use Rattle.fab_rx.specs.Stored.{GoesBy, seat_with}
use Rattle.fab_rx.proofs.Pasting.{paste_more, length_paste}

module _ (r : Receive) (single : IsSingle r) (source : ℕ) (head : ItemHead) (bytes : List ℕ) where
  entry_received : has_space r 0 head ≡ true → entry_of r 0 source head bytes ≡ Success (Received r.ctx source (tag_of head) head.imm head.total (paste r.buf 0 bytes))
  unfolding entry_of received
  entry_received space = rw (space, single.least, entry_of, received) refl

  entry_truncated : has_space r 0 head ≡ false → entry_of r 0 source head bytes ≡ Failure (record {
    ctx = Some r.ctx;
    kind = Truncated;
    source = Some source;
    tag = tag_of head;
    imm = head.imm;
    at = None;
    len = length r.buf - 0;
    olen = head.total - (length r.buf - 0);
    buf = Some (paste r.buf 0 bytes);
  })
  unfolding entry_of truncated
  entry_truncated space = rw (space, single.least, entry_of, truncated) refl

  module _ (seat : Seat) (tag : Option ℕ) (is : seat ≡ seat_with r bytes) (tagged : tag ≡ tag_of head) where
    long : length seat.buf ≡ length r.buf
    long = rw is (length_paste r.buf bytes)

    -- the message fits
    pub completed_well : head.total ≤ length seat.buf
        → ◌≡◌ {A = Completed} (record { entry = Success (Received seat.ctx source tag head.imm head.total seat.buf); good = true; source = source; head = head }) (completed r 0 source head bytes)
    completed_well le =
        let same = long in
        let space : has_space r 0 head ≡ true = grind (arith, nat_tests) in
        rw (entry_received space, space, is, tagged) refl

    -- it does not
    pub completed_short : (len : ℕ) → len ≡ length seat.buf → len < head.total
        → ◌≡◌ {A = Completed} (record {
          entry = Failure (record { ctx = Some seat.ctx; kind = Truncated; source = Some source; tag = tag; imm = head.imm; at = None; len = len; olen = head.total - len; buf = Some seat.buf });
          good = false;
          source = source;
          head = head;
        }) (completed r 0 source head bytes)
    completed_short len e lt =
        let same = long in
        let space : has_space r 0 head ≡ false = grind (arith, nat_tests) in
        let placed : len ≡ length r.buf - 0 = omega arith in
        rw (entry_truncated space, space, is, tagged, placed) refl

-- ---- a message in a multi-receive

module _ (r : Receive) (place source : ℕ) (head : ItemHead) (bytes : List ℕ) (ctx len : ℕ) (same : ctx ≡ r.ctx) (long : len ≡ length r.buf) where
  -- it fits
  pub part_well : is_some r.least ≡ true → head.total ≤ len - place → ◌≡◌ {A = Completed} (record { entry = Success (Part ctx source head.imm place head.total); good = true; source = source; head = head }) (completed r place source head bytes)
  unfolding entry_of received
  part_well multi le = by r.least refl
    where
      space : has_space r place head ≡ true
      space = grind (arith, nat_tests)

      by : (o : Option ℕ) → r.least ≡ o → ◌≡◌ {A = Completed} (record { entry = Success (Part ctx source head.imm place head.total); good = true; source = source; head = head }) (completed r place source head bytes)
      by None e = absurd (let no : false ≡ true = rw e at multi in cc)
      by (Some least) e = rw (space, entry_of, received, e, same) refl

  -- it does not
  pub part_short : is_some r.least ≡ true → (tag : Option ℕ) → tag ≡ tag_of head → (n : ℕ) → n ≡ len - place → n < head.total
      → ◌≡◌ {A = Completed} (record {
        entry = Failure (record { ctx = Some ctx; kind = Truncated; source = Some source; tag = tag; imm = head.imm; at = Some place; len = n; olen = head.total - n; buf = None });
        good = false;
        source = source;
        head = head;
      }) (completed r place source head bytes)
  unfolding entry_of truncated
  part_short multi tag tagged n is lt = by r.least refl
    where
      space : has_space r place head ≡ false
      space = grind (arith, nat_tests)

      room : n ≡ length r.buf - place
      room = is ∙ ap (λ (k : ℕ). k - place) long

      by : (o : Option ℕ) → r.least ≡ o → ◌≡◌ {A = Completed} (record {
        entry = Failure (record { ctx = Some ctx; kind = Truncated; source = Some source; tag = tag; imm = head.imm; at = Some place; len = n; olen = head.total - n; buf = None });
        good = false;
        source = source;
        head = head;
      }) (completed r place source head bytes)
      by None e = absurd (let no : false ≡ true = rw e at multi in cc)
      by (Some least) e = rw (space, entry_of, truncated, e, same, tagged, room) refl

-- more bytes of the message come into the receive
pub into_more : (parcels : Cells Parcel) (source got : ℕ) (c : Coming) (item : Item) (seat : Seat) (bytes buf : List ℕ) → length item.bytes ≡ got → GoesBy parcels source (Into seat) c item → buf ≡ paste seat.buf got bytes
    → GoesBy parcels source (Into (record { buf = buf; ctx = seat.ctx })) c (lengthened bytes item)
into_more parcels source got c item seat bytes buf so_far goes pasted =
    (goes.0, goes.1, goes.2, rw (pasted, goes.3, ← so_far) (ap (λ filled. record { buf = filled; ctx = goes.0.ctx }) (paste_more goes.0.buf item.bytes bytes)))
