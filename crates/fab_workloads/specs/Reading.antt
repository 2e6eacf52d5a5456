-- What was read so far, and what is answered in the end.
--     before_of reader         what the lines say that the reader took
--     IsSized share            a share has as many bytes as its word says
--     with_share shares said      the shares with one more behind them, where a word says one
--     with_fault wrong said       what is wrong so far, with what a word says
--     unless wrong shares         the shares, where nothing is wrong
--     IsRefusal e said         the line and the reason are those that are said; want of memory aside
--     IsVerdict said result    what is read is what is said; want of memory aside
use Rattle.std.specs.Prelude.{◌≡◌, ℕ, List, [], ◌∷◌, ◌++◌, length, Option, Some, None, Result, Ok, Err}
use Rattle.fab_base.specs.declared.script.BytesWord.{BytesWord}
use Rattle.fab_model.specs.Calls.{word_bytes}
use Rattle.fab_words.specs.Bytes.{bytes_size}
use Rattle.fab_words.specs.Misreads.{first_misread}
use Rattle.fab_words.specs.declared.misread.Misread.{Misread}
use Rattle.fab_script.specs.declared.refused.ParseRefused.{ParseRefused}
use Rattle.fab_script.specs.declared.refused.ParseRefused.TheVariants as parse
use Rattle.fab_workloads.specs.declared.reader.Reader.{Reader}
use Rattle.fab_workloads.specs.declared.round.CollScript.{CollScript}
use Rattle.fab_workloads.specs.declared.round.Round.{Round}
use Rattle.fab_workloads.specs.Grammar.{Before, Refusal}

abbrev pub before_of : Reader → Before
before_of reader = record { has_header = reader.has_header; peers = reader.peers; rounds = reader.rounds.items }

abbrev pub IsSized : BytesWord → Type 0
IsSized share = length (word_bytes share) ≡ bytes_size share

abbrev pub with_share : List BytesWord → Result BytesWord Misread → List BytesWord
with_share shares (Ok share) = shares ++ share ∷ []
with_share shares (Err fault) = shares

abbrev pub with_fault : Option Misread → Result BytesWord Misread → Option Misread
with_fault wrong (Ok share) = wrong
with_fault None (Err fault) = Some fault
with_fault (Some first) (Err fault) = Some (first_misread first fault)

abbrev pub unless : Option Misread → List BytesWord → Result (List BytesWord) Misread
unless None shares = Ok shares
unless (Some fault) shares = Err fault

abbrev pub IsRefusal : ParseRefused → Result (ℕ × List Round) Refusal → Type 0
IsRefusal (parse.Script line why) said = said ≡ Err (line, why)
IsRefusal parse.NoMemory said = Unit {0}

abbrev pub IsVerdict : Result (ℕ × List Round) Refusal → Result CollScript ParseRefused → Type 0
IsVerdict said (Ok script) = said ≡ Ok (script.peers, script.rounds)
IsVerdict said (Err (parse.Script line why)) = said ≡ Err (line, why)
IsVerdict said (Err parse.NoMemory) = Unit {0}
