-- What was read so far, against what the lines say.
--     HoldsParts n parts items      of n peers, the parts have what these items say
--     Holds reader before           the reader has what the lines before say
--     Answers why after reader result      the reader takes a line that breaks no rule, and refuses one that breaks this rule
use Rattle.std.specs.Prelude.{◌≡◌, ℕ, true, List, Option, Some, None, map, sum_by, vec_len, Result, Ok, Err}
use Rattle.fab_base.specs.declared.status.Why.{Why}
use Rattle.fab_grammar.specs.declared.items.Item.{Item}
use Rattle.fab_script.specs.declared.parts.Parts.{Parts}
use Rattle.fab_script.specs.declared.reader.Reader.{Reader}
use Rattle.fab_script.specs.declared.refused.Refused.{Refused}
use Rattle.fab_script.specs.declared.refused.Refused.TheVariants as refused
use Rattle.fab_grammar.specs.Before.{Before, count_in, is_distinct, opened_by, parts_of, size_of}

pub record HoldsParts (n : ℕ) (parts : Parts) (items : List Item) : Type 0 where
  pub count : vec_len parts.lines ≡ n
  pub lines : map (λ part. part.items) parts.lines.items ≡ parts_of n items
  pub opened : parts.opened.items ≡ opened_by items
  pub size : parts.size ≡ sum_by size_of items
  pub distinct : is_distinct (opened_by items) ≡ true

pub record Holds (reader : Reader) (before : Before) : Type 0 where
  pub header : reader.api ≡ before.api
  pub settings : reader.settings ≡ before.settings
  pub payloads : reader.payloads.items ≡ before.payloads
  pub parts : HoldsParts (count_in before) reader.parts before.items

abbrev pub Answers : Option Why → Before → Reader → Result (Unit {0}) Refused → Type 0
Answers None after reader (Ok done) = Holds reader after
Answers None after reader (Err (refused.Why why)) = ⊥
Answers (Some why) after reader (Ok done) = ⊥
Answers (Some why) after reader (Err (refused.Why given)) = given ≡ why
Answers _ after reader (Err refused.NoMemory) = Unit {0}
