-- What the lines before a line say.
--     count_in before              how many peers there are
--     has_opened before            some peer is opened
--     part_of k items              the lines of peer k
--     parts_of n items             the lines of each of n peers
use Rattle.std.specs.Prelude.{ℕ, Bool, true, false, not, ◌&&◌, ◌==◌, if◌then◌else◌, List, [], ◌∷◌, map, filter_map, Option, Some, None, unwrap_or}
use Rattle.std.specs.List.{list_any, range_with_len}
use Rattle.fab_base.specs.declared.caps.Api.{Api}
use Rattle.fab_base.specs.declared.script.Line.{Line}
use Rattle.fab_grammar.specs.declared.items.Item.{Item}
use Rattle.fab_grammar.specs.declared.items.Item.TheVariants.{Peer, Does}
use Rattle.fab_base.specs.declared.script.Payload.{Payload}
use Rattle.fab_grammar.specs.declared.settings.Settings.{Settings}
use Rattle.fab_grammar.specs.Settings.{no_settings}
use Rattle.fab_grammar.specs.Lines.{op_size}

-- the version that the header names, if it was there, the settings, the payload files, and the lines of the peers' parts
pub record Before : Type 0 where
  pub api : Option Api
  pub settings : Settings
  pub payloads : List Payload
  pub items : List Item

abbrev pub nothing : Before
nothing = record { api = None; settings = no_settings; payloads = []; items = [] }

-- no peer is below it where their number was not said
abbrev pub count_in : Before → ℕ
count_in before = unwrap_or before.settings.peers 0

-- the peers that are opened, in order
abbrev pub opened : Item → Option ℕ
opened (Peer k) = Some k
opened (Does line) = None

abbrev pub opened_by : List Item → List ℕ
opened_by items = filter_map opened items

-- no number stands twice
abbrev pub is_distinct : List ℕ → Bool
is_distinct [] = true
is_distinct (k ∷ ks) = not (list_any (λ j. j == k) ks) && is_distinct ks

abbrev pub is_filled : List ℕ → Bool
is_filled [] = false
is_filled (k ∷ ks) = true

abbrev pub has_opened : Before → Bool
has_opened before = is_filled (opened_by before.items)

-- the bytes that a line sends or makes room for
abbrev pub size_of : Item → ℕ
size_of (Does line) = op_size line.op
size_of (Peer number) = 0

-- the lines up to the next `peer`
abbrev pub until_peer : List Item → List Line
until_peer [] = []
until_peer (Peer k ∷ items) = []
until_peer (Does line ∷ items) = line ∷ until_peer items

-- the lines of peer k: those after `peer k`
abbrev pub part_of : ℕ → List Item → List Line
part_of k [] = []
part_of k (Does line ∷ items) = part_of k items
part_of k (Peer j ∷ items) = if j == k then until_peer items else part_of k items

-- the parts of peers 0 to n - 1; a peer that is not opened has no lines
abbrev pub parts_of : ℕ → List Item → List (List Line)
parts_of n items = map (λ k. part_of k items) (range_with_len 0 n)
