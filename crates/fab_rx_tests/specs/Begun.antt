-- The items of the tests that are begun, of each peer.
--     three          an untagged message of three bytes
--     none_begun     those of two peers of which nothing came
--     begun_at       the first frame of such a message came
--     longer_at      more bytes of it came
--     ended_at       it is whole
use Rattle.std.specs.Prelude.{ℕ, List, [], ◌∷◌, Option, Some, None, slice_index_or, slice_set}
use Rattle.std.specs.Option.{option_map}
use Rattle.fab_base.specs.declared.items.Ack.TheVariants.{Nothing}
use Rattle.fab_base.specs.declared.items.Item.{Item}
use Rattle.fab_base.specs.declared.items.ItemHead.{ItemHead}
use Rattle.fab_base.specs.declared.items.Kind.TheVariants.{Msg}
use Rattle.fab_base.specs.declared.items.Outcome.TheVariants.{Done}
use Rattle.fab_rx.specs.Arriving.{bare, lengthened}

abbrev pub three : ItemHead
three = record { kind = Msg; op = 5; tag = 0; imm = None; ack = Nothing; key = 0; at = 0; count = 0; atom = None; outcome = Done; total = 3 }

abbrev pub none_begun : List (Option Item)
none_begun = None ∷ None ∷ []

abbrev pub begun_at : ℕ → List (Option Item) → List (Option Item)
begun_at source begun = slice_set begun source (Some (bare three))

abbrev pub longer_at : ℕ → List ℕ → List (Option Item) → List (Option Item)
longer_at source bytes begun = slice_set begun source (option_map (lengthened bytes) (slice_index_or begun source None))

abbrev pub ended_at : ℕ → List (Option Item) → List (Option Item)
ended_at source begun = slice_set begun source None
